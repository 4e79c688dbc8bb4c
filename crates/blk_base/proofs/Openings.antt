-- A file that is opened and given back.
use Rattle.std.proofs.Common.{◌≡◌, ℕ, Bool, true, false, cond, List, [], ◌∷◌, ◌++◌, refl, ap, Option, Some, None, IsTrue}
use Rattle.std.specs.Prelude.{bytes_eq, ◌||◌}
use Rattle.std.proofs.lemmas.Slice.Eq.{bytes_eq-Decides}
use Rattle.blk_base.specs.Files.{file_at, put_file, is_out_as, is_out, closed_with, given_back}
use Rattle.blk_base.specs.declared.device.DeviceCall.{DeviceCall}
use Rattle.blk_base.specs.declared.file.File.{File}
use Rattle.blk_base.specs.declared.file.Opened.{Opened}

-- no device is out
abbrev pub NoneOut : List Opened → Type 0
NoneOut opened = (name : List ℕ) → IsTrue (is_out name opened) → ⊥

pub bytes_eq-same : (name : List ℕ) → bytes_eq name name ≡ true
bytes_eq-same name = (bytes_eq-Decides name name).1 refl

same-from : (a b : List ℕ) → bytes_eq a b ≡ true → a ≡ b
same-from a b is = (bytes_eq-Decides a b).0 is

or-true : (a : Bool) → (a || true) ≡ true
or-true true = refl
or-true false = refl

-- the device that was opened last is out
pub out-opened : (opened : List Opened) (last : Opened) → last.returned ≡ None → is_out last.name (opened ++ last ∷ []) ≡ true
out-opened [] last out = rw (bytes_eq-same last.name, out) refl
out-opened (o ∷ opened) last out = rw (out-opened opened last out) (or-true (is_out_as last.name o))

-- and once it is back, its count and its call stand in the record
back : (name : List ℕ) (o last : Opened) (opened rest : List Opened) (count : ℕ) (call : Option DeviceCall) (b : Bool) → is_out_as name o ≡ b → (IsTrue (b || is_out name opened) → ⊥)
    → given_back name count call rest ≡ opened ++ last ∷ [] → cond b (closed_with count call o ∷ rest) (o ∷ given_back name count call rest) ≡ o ∷ opened ++ last ∷ []
back name o last opened rest count call true is none more = absurd (none refl)
back name o last opened rest count call false is none more = ap (λ os. o ∷ os) more

pub back-opened : (opened : List Opened) (last : Opened) (count : ℕ) (call : Option DeviceCall) → last.returned ≡ None → (IsTrue (is_out last.name opened) → ⊥)
    → given_back last.name count call (opened ++ last ∷ []) ≡ opened ++ closed_with count call last ∷ []
back-opened [] last count call out none = rw (bytes_eq-same last.name, out) refl
back-opened (o ∷ opened) last count call out none =
    let later : IsTrue (is_out last.name opened) → ⊥ = λ is. none (rw is (or-true (is_out_as last.name o))) in
    back last.name o _ opened _ count call (is_out_as last.name o) refl none (back-opened opened last count call out later)

-- a file put back as it was
put : (name : List ℕ) (f g : File) (files : List File) (b : Bool) → bytes_eq name g.name ≡ b → cond b (Some g) (file_at name files) ≡ Some f
    → (file_at name files ≡ Some f → put_file (record { name = name; bytes = f.bytes; capacity = f.capacity; is_flushed = f.is_flushed }) files ≡ files)
    → cond b (record { name = name; bytes = f.bytes; capacity = f.capacity; is_flushed = f.is_flushed } ∷ files) (g ∷ put_file (record { name = name; bytes = f.bytes; capacity = f.capacity; is_flushed = f.is_flushed }) files) ≡ g ∷ files
put name f g files true is found more =
    let same : g ≡ f = cc found in
    let named : name ≡ g.name = same-from name g.name is in
    rw (named, ← same) refl
put name f g files false is found more = ap (λ fs. g ∷ fs) (more found)

pub put-same : (name : List ℕ) (f : File) (files : List File) → file_at name files ≡ Some f → put_file (record { name = name; bytes = f.bytes; capacity = f.capacity; is_flushed = f.is_flushed }) files ≡ files
put-same name f [] found = let bad : ⊥ = cc found in absurd bad
put-same name f (g ∷ files) found = put name f g files (bytes_eq name g.name) refl found (put-same name f files)
