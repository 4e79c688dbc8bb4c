-- Files and openings of a store, by the place of their name.
use Rattle.std.proofs.Common.{◌≡◌, ℕ, zero, suc, ◌<◌, ◌≤◌, nat_lt, Bool, true, false, cond, List, [], ◌∷◌, ◌++◌, length, map, get_or, set, refl, sym, ◌∙◌, ap, arith, Option, Some, None, IsTrue}
use Rattle.std.specs.Prelude.{bytes_eq, is_none, ◌||◌, ◌&&◌}
use Rattle.std.specs.List.{position, position_or_len}
use Rattle.std.proofs.lemmas.List.Quantifiers.{position-Some}
use Rattle.std.proofs.lemmas.List.Sums.{fails_before_first}
use Rattle.std.proofs.lemmas.Bool.Decides.{nat_tests}
use Rattle.std.proofs.lemmas.Slice.Eq.{bytes_eq-Decides}
use Rattle.blk_base.specs.Files.{file_at, put_file, is_out_as, is_out, closed_with, given_back}
use Rattle.blk_base.specs.declared.device.DeviceCall.{DeviceCall}
use Rattle.blk_base.specs.declared.file.File.{File}
use Rattle.blk_base.specs.declared.file.Opened.{Opened}
use Rattle.blk_fakes.specs.Disk.{DeviceState}
use Rattle.blk_fakes.specs.Shelf.{FileState, told_as, told_file, shelf_place, is_held, device_at, remade, zeros_as, zeroed, with_made, with_device}

same_from : (a b : List ℕ) → bytes_eq a b ≡ true → a ≡ b
same_from a b is = (bytes_eq-Decides a b).0 is

-- that is the first place at which the test passes
pub record IsFirst {A : Type 0} (test : A → Bool) (xs : List A) (at : ℕ) (x : A) : Type 0 where
  pub within : at < length xs
  pub passes : test (get_or xs at x) ≡ true
  pub before : (k : ℕ) → k < at → test (get_or xs k x) ≡ false

pub first : {A : Type 0} (test : A → Bool) (xs : List A) (at : ℕ) (x : A) → position test xs ≡ Some at → IsFirst test xs at x
first test xs at x is = let p = position-Some test xs at x is in record { within = p.0; passes = p.1; before = p.2 }

later : {A : Type 0} (test : A → Bool) (y : A) (xs : List A) (at : ℕ) (x : A) → IsFirst test (y ∷ xs) (suc at) x → IsFirst test xs at x
later test y xs at x is = record { within = omega (arith, is.within); passes = is.passes; before = λ k below. is.before (suc k) (omega arith) }

-- no place where there is none
past : (n at : ℕ) → cond (nat_lt at n) (Some at) None ≡ None → n ≤ at
past n at is = grind (arith, nat_tests)

pub nowhere : {A : Type 0} (test : A → Bool) (xs : List A) (x : A) → position test xs ≡ None → (k : ℕ) → k < length xs → test (get_or xs k x) ≡ false
nowhere test xs x is k below = fails_before_first test xs k x (omega (arith, past (length xs) (position_or_len test xs) is))

-- the file at its place
pub file_found : (name : List ℕ) (files : List FileState) (at : ℕ) (d : FileState) → IsFirst (λ (f : FileState). bytes_eq name f.name) files at d
    → file_at name (map told_file files) ≡ Some (told_file (get_or files at d))
file_found name [] at d is = absurd (omega (arith, is.within))
file_found name (f ∷ files) zero d is = rw is.passes refl
file_found name (f ∷ files) (suc at) d is = rw (is.before 0 (omega arith)) (file_found name files at d (later _ f files at d is))

pub device_found : (name : List ℕ) (files : List FileState) (at : ℕ) (d : FileState) → IsFirst (λ (f : FileState). bytes_eq name f.name) files at d
    → device_at name files ≡ Some (get_or files at d).device
device_found name [] at d is = absurd (omega (arith, is.within))
device_found name (f ∷ files) zero d is = rw is.passes refl
device_found name (f ∷ files) (suc at) d is = rw (is.before 0 (omega arith)) (device_found name files at d (later _ f files at d is))

-- a device in the place of another
pub file_put : (name : List ℕ) (files : List FileState) (at : ℕ) (d : FileState) (dev : DeviceState) → IsFirst (λ (f : FileState). bytes_eq name f.name) files at d
    → map told_file (set files at (record (get_or files at d) { device = dev })) ≡ put_file (told_as name dev) (map told_file files)
file_put name [] at d dev is = absurd (omega (arith, is.within))
file_put name (f ∷ files) zero d dev is =
    let same : name ≡ f.name = same_from name f.name is.passes in
    rw is.passes (ap (λ (n : List ℕ). told_as n dev ∷ map told_file files) (sym same))
file_put name (f ∷ files) (suc at) d dev is =
    rw (is.before 0 (omega arith)) (ap (λ (fs : List File). told_file f ∷ fs) (file_put name files at d dev (later _ f files at d is)))

-- no file of that name
pub record IsNowhere (name : List ℕ) (files : List FileState) : Type 0 where
  pub none : (k : ℕ) (d : FileState) → k < length files → bytes_eq name (get_or files k d).name ≡ false

pub missing : (name : List ℕ) (files : List FileState) → shelf_place name files ≡ None → IsNowhere name files
missing name files is = record { none = λ k d below. nowhere (λ (f : FileState). bytes_eq name f.name) files d is k below }

nowhere_later : (name : List ℕ) (f : FileState) (files : List FileState) → IsNowhere name (f ∷ files) → IsNowhere name files
nowhere_later name f files is = record { none = λ k d below. is.none (suc k) d (omega arith) }

pub file_missing : (name : List ℕ) (files : List FileState) → IsNowhere name files → file_at name (map told_file files) ≡ None
file_missing name [] is = refl
file_missing name (f ∷ files) is = rw (is.none 0 f (omega arith)) (file_missing name files (nowhere_later name f files is))

pub device_missing : (name : List ℕ) (files : List FileState) → IsNowhere name files → device_at name files ≡ None
device_missing name [] is = refl
device_missing name (f ∷ files) is = rw (is.none 0 f (omega arith)) (device_missing name files (nowhere_later name f files is))

pub file_added : (name : List ℕ) (files : List FileState) (dev : DeviceState) → IsNowhere name files
    → map told_file (files ++ record { name = name; device = dev } ∷ []) ≡ put_file (told_as name dev) (map told_file files)
file_added name [] dev is = refl
file_added name (f ∷ files) dev is = rw (is.none 0 f (omega arith)) (ap (λ (fs : List File). told_file f ∷ fs) (file_added name files dev (nowhere_later name f files is)))

pub not_held : (name : List ℕ) (files : List FileState) → IsNowhere name files → is_held name files ≡ false
not_held name [] is = refl
not_held name (f ∷ files) is = rw (is.none 0 f (omega arith)) (not_held name files (nowhere_later name f files is))

-- a file stays when one more comes, and when one gets another device
held_more_or : (a b c : Bool) → IsTrue (a || b) → (IsTrue b → IsTrue c) → IsTrue (a || c)
held_more_or true b c is more = refl
held_more_or false b c is more = more is

pub held_more : (name : List ℕ) (files : List FileState) (f : FileState) → IsTrue (is_held name files) → IsTrue (is_held name (files ++ f ∷ []))
held_more name [] f is = absurd (cc is)
held_more name (g ∷ files) f is = held_more_or (bytes_eq name g.name) (is_held name files) (is_held name (files ++ f ∷ [])) is (held_more name files f)

pub held_push : (name : List ℕ) (files : List FileState) (f : FileState) (done : Bool) → IsTrue (is_held name files) → IsTrue (is_held name (cond done (files ++ f ∷ []) files))
held_push name files f true is = held_more name files f is
held_push name files f false is = is

pub held_set : (name : List ℕ) (files : List FileState) (at : ℕ) (r n : FileState) → r ≡ get_or files at r → n.name ≡ r.name → IsTrue (is_held name files) → IsTrue (is_held name (set files at n))
held_set name [] at r n read same is = is
held_set name (g ∷ files) zero r n read same is =
    let named : n.name ≡ g.name = same ∙ ap (λ (f : FileState). f.name) read in
    rw named is
held_set name (g ∷ files) (suc at) r n read same is = held_more_or (bytes_eq name g.name) (is_held name files) (is_held name (set files at n)) is (held_set name files at r n read same)

pub held_at : (name : List ℕ) (files : List FileState) (at : ℕ) (d : FileState) → IsFirst (λ (f : FileState). bytes_eq name f.name) files at d → IsTrue (is_held name files)
held_at name [] at d is = absurd (omega (arith, is.within))
held_at name (f ∷ files) zero d is = rw is.passes refl
held_at name (f ∷ files) (suc at) d is = rw (is.before 0 (omega arith)) (held_at name files at d (later _ f files at d is))

-- the openings at their places
pub back_found : (name : List ℕ) (count : ℕ) (call : Option DeviceCall) (opened : List Opened) (at : ℕ) (d : Opened) → IsFirst (is_out_as name) opened at d
    → given_back name count call opened ≡ set opened at (closed_with count call (get_or opened at d))
back_found name count call [] at d is = absurd (omega (arith, is.within))
back_found name count call (o ∷ opened) zero d is = rw is.passes refl
back_found name count call (o ∷ opened) (suc at) d is = rw (is.before 0 (omega arith)) (ap (λ (os : List Opened). o ∷ os) (back_found name count call opened at d (later _ o opened at d is)))

back_none : (name : List ℕ) (count : ℕ) (call : Option DeviceCall) (opened : List Opened) → ((k : ℕ) (d : Opened) → k < length opened → is_out_as name (get_or opened k d) ≡ false) → given_back name count call opened ≡ opened
back_none name count call [] none = refl
back_none name count call (o ∷ opened) none = rw (none 0 o (omega arith)) (ap (λ (os : List Opened). o ∷ os) (back_none name count call opened (λ k d below. none (suc k) d (omega arith))))

pub back_missing : (name : List ℕ) (count : ℕ) (call : Option DeviceCall) (opened : List Opened) → position (is_out_as name) opened ≡ None → given_back name count call opened ≡ opened
back_missing name count call opened is = back_none name count call opened (λ k d below. nowhere (is_out_as name) opened d is k below)

or_left : (a b : Bool) → IsTrue a → IsTrue (a || b)
or_left true b is = refl
or_left false b is = absurd (cc is)

or_right : (a b : Bool) → IsTrue b → IsTrue (a || b)
or_right true b is = refl
or_right false b is = is

-- what is out once a device is back was out before
out_or : (a b c d : Bool) → IsTrue (a || b) → (IsTrue a → IsTrue c) → (IsTrue b → IsTrue d) → IsTrue (c || d)
out_or true b c d is first rest = or_left c d (first refl)
out_or false b true d is first rest = refl
out_or false b false d is first rest = rest is

returned_in : (b : Bool) → IsTrue (b && false) → ⊥
returned_in true is = cc is
returned_in false is = cc is

out_back_by : (q name : List ℕ) (count : ℕ) (call : Option DeviceCall) (o : Opened) (opened : List Opened) (b : Bool) → (IsTrue (is_out q (given_back name count call opened)) → IsTrue (is_out q opened))
    → IsTrue (is_out q (cond b (closed_with count call o ∷ opened) (o ∷ given_back name count call opened))) → IsTrue (is_out q (o ∷ opened))
out_back_by q name count call o opened true more out = out_or (bytes_eq q o.name && false) (is_out q opened) (is_out_as q o) (is_out q opened) out (λ h. absurd (returned_in (bytes_eq q o.name) h)) (λ h. h)
out_back_by q name count call o opened false more out = out_or (is_out_as q o) (is_out q (given_back name count call opened)) (is_out_as q o) (is_out q opened) out (λ h. h) more

pub out_back : (q name : List ℕ) (count : ℕ) (call : Option DeviceCall) (opened : List Opened) → IsTrue (is_out q (given_back name count call opened)) → IsTrue (is_out q opened)
out_back q name count call [] out = out
out_back q name count call (o ∷ opened) out = out_back_by q name count call o opened (is_out_as name o) (out_back q name count call opened) out

-- a file that is held stays so when it is opened
out_more_by : (a b : Bool) (P : Type 0) → IsTrue (a || b) → (IsTrue a → P) → (IsTrue b → P) → P
out_more_by true b P is first rest = first refl
out_more_by false b P is first rest = rest is

named_and : (a b : Bool) → IsTrue (a && b) → a ≡ true
named_and true b is = refl
named_and false b is = absurd (cc is)

pub out_more : (q : List ℕ) (o : Opened) (opened : List Opened) (files : List FileState) → (IsTrue (is_out q opened) → IsTrue (is_held q files)) → IsTrue (is_held o.name files)
    → IsTrue (is_out q (opened ++ o ∷ [])) → IsTrue (is_held q files)
out_more q o [] files held here out = out_more_by (is_out_as q o) false (IsTrue (is_held q files)) out
    (λ h. let same : q ≡ o.name = same_from q o.name (named_and (bytes_eq q o.name) (is_none o.returned) h) in rw same here) (λ h. absurd (cc h))
out_more q o (p ∷ opened) files held here out = out_more_by (is_out_as q p) (is_out q (opened ++ o ∷ [])) (IsTrue (is_held q files)) out
    (λ h. held (or_left (is_out_as q p) (is_out q opened) h))
    (λ h. out_more q o opened files (λ g. held (or_right (is_out_as q p) (is_out q opened) g)) here h)

-- a row that was read at the place of its name
pub file_read : (name : List ℕ) (files : List FileState) (at : ℕ) (r : FileState) → shelf_place name files ≡ Some at → r ≡ get_or files at r → file_at name (map told_file files) ≡ Some (told_as name r.device)
file_read name files at r place read =
    let is = first (λ (f : FileState). bytes_eq name f.name) files at r place in
    let named : name ≡ (get_or files at r).name = same_from name (get_or files at r).name is.passes in
    let same : told_as (get_or files at r).name (get_or files at r).device ≡ told_as name r.device = rw (← named) (ap (λ (f : FileState). told_as name f.device) (sym read)) in
    file_found name files at r is ∙ ap (λ (f : File). Some f) same

pub device_read : (name : List ℕ) (files : List FileState) (at : ℕ) (r : FileState) → shelf_place name files ≡ Some at → r ≡ get_or files at r → device_at name files ≡ Some r.device
device_read name files at r place read =
    device_found name files at r (first (λ (f : FileState). bytes_eq name f.name) files at r place) ∙ ap (λ (f : FileState). Some f.device) (sym read)

pub put_at_place : (name : List ℕ) (files : List FileState) (at : ℕ) (d : FileState) (dev : DeviceState) → shelf_place name files ≡ Some at
    → map told_file (set files at (record (get_or files at d) { device = dev })) ≡ put_file (told_as name dev) (map told_file files)
put_at_place name files at d dev place = file_put name files at d dev (first (λ (f : FileState). bytes_eq name f.name) files at d place)

-- an opening that was read at the place of the first that is out under a name
pub back_read : (name : List ℕ) (count : ℕ) (call : Option DeviceCall) (opened : List Opened) (at : ℕ) (r n : Opened) → position (is_out_as name) opened ≡ Some at → r ≡ get_or opened at r → n ≡ closed_with count call r
    → set opened at n ≡ given_back name count call opened
back_read name count call opened at r n place read is =
    let back = back_found name count call opened at r (first (is_out_as name) opened at r place) in
    let same : n ≡ closed_with count call (get_or opened at r) = is ∙ ap (closed_with count call) read in
    rw same (sym back)

pub out_push : (q : List ℕ) (o : Opened) (opened : List Opened) (files : List FileState) (done : Bool) → (IsTrue (is_out q opened) → IsTrue (is_held q files)) → IsTrue (is_held o.name files)
    → IsTrue (is_out q (cond done (opened ++ o ∷ []) opened)) → IsTrue (is_held q files)
out_push q o opened files true held here out = out_more q o opened files held here out
out_push q o opened files false held here out = held out

pub zeros_told : (name : List ℕ) (dev old : DeviceState) (len room : ℕ) → dev ≡ remade old len room → told_as name dev ≡ zeros_as name len room
zeros_told name dev old len room is = ap (λ (d : DeviceState). told_as name d) is

pub lacks : (name : List ℕ) (files : List FileState) → shelf_place name files ≡ None → file_at name (map told_file files) ≡ None
lacks name files is = file_missing name files (missing name files is)

pub has_file : (name : List ℕ) (files : List FileState) (at : ℕ) → shelf_place name files ≡ Some at → (f : File) × (file_at name (map told_file files) ≡ Some f) × Unit {0}
has_file name [] at place = absurd (cc place)
has_file name (f ∷ files) at place =
    let is = first (λ (f : FileState). bytes_eq name f.name) (f ∷ files) at f place in
    (told_file (get_or (f ∷ files) at f), file_found name (f ∷ files) at f is, tt)

-- a device in the place of another, by its name
device_put : (name : List ℕ) (files : List FileState) (at : ℕ) (d : FileState) (dev : DeviceState) → IsFirst (λ (f : FileState). bytes_eq name f.name) files at d
    → set files at (record (get_or files at d) { device = dev }) ≡ with_device name dev files
device_put name [] at d dev is = absurd (omega (arith, is.within))
device_put name (f ∷ files) zero d dev is = rw is.passes refl
device_put name (f ∷ files) (suc at) d dev is =
    rw (is.before 0 (omega arith)) (ap (λ (fs : List FileState). f ∷ fs) (device_put name files at d dev (later _ f files at d is)))

pub device_at_place : (name : List ℕ) (files : List FileState) (at : ℕ) (d : FileState) (dev : DeviceState) → shelf_place name files ≡ Some at
    → set files at (record (get_or files at d) { device = dev }) ≡ with_device name dev files
device_at_place name files at d dev place = device_put name files at d dev (first (λ (f : FileState). bytes_eq name f.name) files at d place)

-- zeros in the place of a file
zeros_put : (name : List ℕ) (files : List FileState) (at : ℕ) (d : FileState) (len room : ℕ) → IsFirst (λ (f : FileState). bytes_eq name f.name) files at d
    → set files at (record (get_or files at d) { device = remade (get_or files at d).device len room }) ≡ with_made name len room files
zeros_put name [] at d len room is = absurd (omega (arith, is.within))
zeros_put name (f ∷ files) zero d len room is = rw is.passes refl
zeros_put name (f ∷ files) (suc at) d len room is =
    rw (is.before 0 (omega arith)) (ap (λ (fs : List FileState). f ∷ fs) (zeros_put name files at d len room (later _ f files at d is)))

pub made_at_place : (name : List ℕ) (files : List FileState) (at : ℕ) (r : FileState) (dev : DeviceState) (len room : ℕ) → shelf_place name files ≡ Some at → r ≡ get_or files at r
    → dev ≡ remade r.device len room → set files at (record (get_or files at r) { device = dev }) ≡ with_made name len room files
made_at_place name files at r dev len room place read is =
    let same : dev ≡ remade (get_or files at r).device len room = is ∙ ap (λ (f : FileState). remade f.device len room) read in
    rw same (zeros_put name files at r len room (first (λ (f : FileState). bytes_eq name f.name) files at r place))

pub made_at_end : (name : List ℕ) (files : List FileState) (len room : ℕ) → IsNowhere name files
    → files ++ record { name = name; device = zeroed len room } ∷ [] ≡ with_made name len room files
made_at_end name [] len room is = refl
made_at_end name (f ∷ files) len room is = rw (is.none 0 f (omega arith)) (ap (λ (fs : List FileState). f ∷ fs) (made_at_end name files len room (nowhere_later name f files is)))
