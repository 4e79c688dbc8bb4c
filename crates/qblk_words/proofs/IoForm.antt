-- The words behind `io`.
use Rattle.std.proofs.Common.{◌≡◌, ◌∙◌, ℕ, Bool, true, false, refl, sym, ap, ap₂, List, [], ◌∷◌, Some, None, codes}
use Rattle.std.specs.Prelude.{not}
use Rattle.std.specs.List.{list_all}
use Rattle.clap.specs.Walk.{Held, Row, Rule, Text, Walk, walk, walked, walk_from, nothing_held, finished, rows_after}
use Rattle.clap.specs.Simple.{Shape}
use Rattle.clap.specs.Kinds.{Kinds, or_else}
use Rattle.clap.specs.Faults.{walk_fault, level_fault, defaults_fault}
use Rattle.clap.specs.declared.error.kind.ErrorKind.TheVariants.{UnknownArgument, MissingRequiredArgument}
use Rattle.clap.proofs.WalkLemmas.{both}
use Rattle.qblk_words.proofs.Plain.{at_place, step-here, fault-here}
use Rattle.qblk_words.proofs.Top.{form, not_true}
use Rattle.qblk_words.proofs.Level.{word_at, level_kinds, by_level}
use Rattle.qblk_words.specs.Forms.{row, io_rows}
use Rattle.qblk_words.specs.Words.{is_flag}

abbrev pub io_rules : List Rule
io_rules = word_at (codes "format") 1 ∷ word_at (codes "image") 2 ∷ word_at (codes "trace") 3 ∷ []

abbrev waits_for : List Row → Text → Text → Held
waits_for rows id word = record { rows = rows; pending = Some (id, word ∷ []); skip = 0 }

abbrev level : Shape
level = form (codes "io") io_rules

-- ---- after each word

abbrev one : Text → Walk
one f = at_place 2 (waits_for [] (codes "format") f)

abbrev two : Text → Text → Walk
two f i = at_place 3 (waits_for (row (codes "format") (f ∷ []) ∷ []) (codes "image") i)

abbrev three : Text → Text → Text → Walk
three f i t =
    at_place 4 (waits_for (row (codes "format") (f ∷ []) ∷ row (codes "image") (i ∷ []) ∷ []) (codes "trace") t)

walk-one : (f : Text) → is_flag f ≡ false → walked io_rules [] (walk_from nothing_held) f ≡ one f
walk-one f plain = step-here io_rules 1 f nothing_held plain

walk-two : (f i : Text) → is_flag i ≡ false → walked io_rules [] (one f) i ≡ two f i
walk-two f i plain = step-here io_rules 2 i (one f).held plain

walk-three : (f i t : Text) → is_flag t ≡ false → walked io_rules [] (two f i) t ≡ three f i t
walk-three f i t plain = step-here io_rules 3 t (two f i).held plain

turns-one : (f : Text) (rest : List Text) → is_flag f ≡ false → walk_fault level [] (walk_from nothing_held) (f ∷ rest) ≡ walk_fault level [] (one f) rest
turns-one f rest plain = fault-here level 1 f nothing_held rest plain

turns-two : (f i : Text) (rest : List Text) → is_flag i ≡ false → walk_fault level [] (one f) (i ∷ rest) ≡ walk_fault level [] (two f i) rest
turns-two f i rest plain = fault-here level 2 i (one f).held rest plain

turns-three : (f i t : Text) (rest : List Text) → is_flag t ≡ false → walk_fault level [] (two f i) (t ∷ rest) ≡ walk_fault level [] (three f i t) rest
turns-three f i t rest plain = fault-here level 3 t (two f i).held rest plain

turns-four : (f i t w : Text) (rest : List Text) → is_flag w ≡ false → walk_fault level [] (three f i t) (w ∷ rest) ≡ UnknownArgument ∷ []
turns-four f i t w rest plain = fault-here level 4 w (three f i t).held rest plain

-- ---- two and three words

walk-1 : (f : Text) → is_flag f ≡ false → walk io_rules [] nothing_held (f ∷ []) ≡ one f
walk-1 f pf = walk-one f pf

walk-2 : (f i : Text) → is_flag f ≡ false → is_flag i ≡ false → walk io_rules [] nothing_held (f ∷ i ∷ []) ≡ two f i
walk-2 f i pf pi = ap (λ (v : Walk). walked io_rules [] v i) (walk-one f pf) ∙ walk-two f i pi

walk-3 : (f i t : Text) → is_flag f ≡ false → is_flag i ≡ false → is_flag t ≡ false → walk io_rules [] nothing_held (f ∷ i ∷ t ∷ []) ≡ three f i t
walk-3 f i t pf pi pt = ap (λ (v : Walk). walked io_rules [] v t) (walk-2 f i pf pi) ∙ walk-three f i t pt

turns-3 : (f i t : Text) (rest : List Text) → is_flag f ≡ false → is_flag i ≡ false → is_flag t ≡ false
    → walk_fault level [] (walk_from nothing_held) (f ∷ i ∷ t ∷ rest) ≡ walk_fault level [] (three f i t) rest
turns-3 f i t rest pf pi pt = turns-one f (i ∷ t ∷ rest) pf ∙ (turns-two f i (t ∷ rest) pi ∙ turns-three f i t rest pt)

-- ---- which words are refused

abbrev fault : List Text → Kinds
fault words = level_fault level [] nothing_held words false []

at_end : (words : List Text) (v : Walk) (k : Kinds) → walk io_rules [] nothing_held words ≡ v → walk_fault level [] (walk_from nothing_held) words ≡ k
    → fault words ≡ level_kinds (codes "io") io_rules v k
at_end words v k walking turns = by_level (codes "io") io_rules words ∙ ap₂ (level_kinds (codes "io") io_rules) walking turns

none : fault [] ≡ MissingRequiredArgument ∷ []
unfolding walk_fault defaults_fault
none = refl

after-one : (f : Text) → level_kinds (codes "io") io_rules (one f) (walk_fault level [] (one f) []) ≡ MissingRequiredArgument ∷ []
unfolding walk_fault defaults_fault
after-one f = refl

after-two : (f i : Text) → level_kinds (codes "io") io_rules (two f i) (walk_fault level [] (two f i) []) ≡ MissingRequiredArgument ∷ []
unfolding walk_fault defaults_fault
after-two f i = refl

after-three : (f i t : Text) → level_kinds (codes "io") io_rules (three f i t) (walk_fault level [] (three f i t) []) ≡ []
unfolding walk_fault defaults_fault
after-three f i t = refl

pub io-taken : (f i t : Text) → is_flag f ≡ false → is_flag i ≡ false → is_flag t ≡ false → fault (f ∷ i ∷ t ∷ []) ≡ []
io-taken f i t pf pi pt =
    at_end (f ∷ i ∷ t ∷ []) (three f i t) (walk_fault level [] (three f i t) []) (walk-3 f i t pf pi pt) (turns-3 f i t [] pf pi pt) ∙ after-three f i t

pub io-found : (f i t : Text) → is_flag f ≡ false → is_flag i ≡ false → is_flag t ≡ false → rows_after io_rules [] (f ∷ i ∷ t ∷ []) ≡ io_rows f i t
io-found f i t pf pi pt = ap (λ (v : Walk). finished io_rules v.held) (walk-3 f i t pf pi pt)

-- words that are taken are three
pub io-three : (words : List Text) → list_all (λ w. not (is_flag w)) words ≡ true → fault words ≡ [] → (f i t : Text) × (words ≡ f ∷ i ∷ t ∷ [])
io-three [] plain e =
    let k : MissingRequiredArgument ∷ [] ≡ [] = sym none ∙ e in
    cc
io-three (f ∷ []) plain e =
    let pf = not_true (is_flag f) (both (not (is_flag f)) _ plain).0 in
    let k : MissingRequiredArgument ∷ [] ≡ [] = sym (at_end (f ∷ []) (one f) (walk_fault level [] (one f) []) (walk-1 f pf) (turns-one f [] pf) ∙ after-one f) ∙ e in
    cc
io-three (f ∷ i ∷ []) plain e =
    let p = both (not (is_flag f)) _ plain in
    let pf = not_true (is_flag f) p.0 in
    let pi = not_true (is_flag i) (both (not (is_flag i)) _ p.1).0 in
    let k : MissingRequiredArgument ∷ [] ≡ [] =
    sym (at_end (f ∷ i ∷ []) (two f i) (walk_fault level [] (two f i) []) (walk-2 f i pf pi) (turns-one f (i ∷ []) pf ∙ turns-two f i [] pi) ∙ after-two f i) ∙ e in
    cc
io-three (f ∷ i ∷ t ∷ []) plain e = (f, i, t, refl)
io-three (f ∷ i ∷ t ∷ w ∷ rest) plain e =
    let p = both (not (is_flag f)) _ plain in
    let q = both (not (is_flag i)) _ p.1 in
    let r = both (not (is_flag t)) _ q.1 in
    let pf = not_true (is_flag f) p.0 in
    let pi = not_true (is_flag i) q.0 in
    let pt = not_true (is_flag t) r.0 in
    let pw = not_true (is_flag w) (both (not (is_flag w)) _ r.1).0 in
    let turns : walk_fault level [] (walk_from nothing_held) (f ∷ i ∷ t ∷ w ∷ rest) ≡ UnknownArgument ∷ [] = turns-3 f i t (w ∷ rest) pf pi pt ∙ turns-four f i t w rest pw in
    let k : UnknownArgument ∷ [] ≡ [] =
    sym (at_end (f ∷ i ∷ t ∷ w ∷ rest) (walk io_rules [] nothing_held (f ∷ i ∷ t ∷ w ∷ rest)) (UnknownArgument ∷ []) refl turns) ∙ e in
    cc
