-- One step of the list of extensions, at each of its four outcomes.
use Rattle.std.proofs.Common.{◌≡◌, ℕ, zero, suc, ◌+◌, ◌<◌, ◌≤◌, min, true, false, cond, eqb, ltb, List, Option, refl, sym, arith}
use Rattle.std.proofs.lemmas.Bool.{lt-ltb, le-ltb, eq-eqb, ne_eqb}
use Rattle.q2_format.specs.Header.{extension_type, extension_length, extension_after, format_after, extension_list, extensions_from}
use Rattle.q2_format.specs.declared.header.Place.{Place}
use Rattle.q2_format.specs.declared.extensions.ExtensionList.{ExtensionList}
use Rattle.q2_format.specs.declared.extensions.TheConstants.{END_OF_EXTENSIONS}

-- a list that ends with its area
abbrev unended : ℕ → ℕ → Option Place → ExtensionList
unended at end format = record { overruns = false; format = format; end = min at end; ended = false }

list_short : (steps : ℕ) (file : List ℕ) (at end : ℕ) (format : Option Place) → end < at + 8
    → extension_list steps file at end format ≡ unended at end format
unfolding extension_list
list_short zero file at end format h = refl
list_short (suc steps) file at end format h = let short = lt-ltb end (at + 8) h in rw short refl

-- more steps than enough change nothing
enough_steps : (s t : ℕ) (file : List ℕ) (at end : ℕ) (format : Option Place) → end ≤ at + s → end ≤ at + t
    → extension_list s file at end format ≡ extension_list t file at end format
unfolding extension_list
enough_steps zero t file at end format h k = sym (list_short t file at end format (omega arith))
enough_steps (suc s) zero file at end format h k = list_short (suc s) file at end format (omega arith)
enough_steps (suc s) (suc t) file at end format h k =
    let rest = enough_steps s t file (extension_after file at) end (format_after file at format) (omega arith) (omega arith) in
    rw rest refl

pub extensions_short : (file : List ℕ) (at end : ℕ) (format : Option Place) → end < at + 8
    → extensions_from file at end format ≡ unended at end format
unfolding extensions_from
extensions_short file at end format h = list_short end file at end format h

-- one step, where the area has room for a type and a length
list_step : (file : List ℕ) (at end : ℕ) (format : Option Place) → at + 8 ≤ end
    → extensions_from file at end format ≡ cond (ltb end (at + 8 + extension_length file at))
    (record { overruns = true; format = format; end = at; ended = false })
    (cond (eqb (extension_type file at) END_OF_EXTENSIONS)
    (record { overruns = false; format = format; end = at + 8; ended = true })
    (extensions_from file (extension_after file at) end (format_after file at format)))
unfolding extensions_from extension_list
list_step file at zero format h = absurd (omega arith)
list_step file at (suc end) format h =
    let room = le-ltb (suc end) (at + 8) h in
    let rest = enough_steps end (suc end) file (extension_after file at) (suc end) (format_after file at format) (omega arith) (omega arith) in
    rw (room, rest) refl

pub extensions_overrun : (file : List ℕ) (at end : ℕ) (format : Option Place) → at + 8 ≤ end
    → end < at + 8 + extension_length file at
    → extensions_from file at end format ≡ record { overruns = true; format = format; end = at; ended = false }
extensions_overrun file at end format h past =
    let step = list_step file at end format h in
    let test = lt-ltb end (at + 8 + extension_length file at) past in
    rw test at step

pub extensions_ended : (file : List ℕ) (at end : ℕ) (format : Option Place) → at + 8 ≤ end
    → at + 8 + extension_length file at ≤ end → extension_type file at ≡ END_OF_EXTENSIONS
    → extensions_from file at end format ≡ record { overruns = false; format = format; end = at + 8; ended = true }
extensions_ended file at end format h fits last =
    let step = list_step file at end format h in
    let test = le-ltb end (at + 8 + extension_length file at) fits in
    let is_end = eq-eqb (extension_type file at) END_OF_EXTENSIONS last in
    rw (test, is_end) at step

pub extensions_next : (file : List ℕ) (at end : ℕ) (format : Option Place) → at + 8 ≤ end
    → at + 8 + extension_length file at ≤ end → (extension_type file at ≡ END_OF_EXTENSIONS → ⊥)
    → extensions_from file at end format ≡ extensions_from file (extension_after file at) end (format_after file at format)
extensions_next file at end format h fits more =
    let step = list_step file at end format h in
    let test = le-ltb end (at + 8 + extension_length file at) fits in
    let is_end = ne_eqb (extension_type file at) END_OF_EXTENSIONS more in
    rw (test, is_end) at step
