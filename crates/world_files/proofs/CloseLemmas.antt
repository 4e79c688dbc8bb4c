-- Devices that are flushed and given back, one after another: what is out, and what files hold.
use Rattle.std.proofs.Common.{◌≡◌, ◌≢◌, ◌⊎◌, ℕ, zero, suc, ◌<◌, Bool, true, false, cond, List, [], ◌∷◌, ◌++◌, set, refl, sym, ◌∙◌, ap, subst, arith, inl, inr, Option, Some, None}
use Rattle.std.specs.Prelude.{slice_get, is_some, is_none, ◌==◌, ◌||◌, Contains, bytes_eq, option_map}
use Rattle.std.proofs.lemmas.Bool.{false≢true, cases_eq, ne_eqb}
use Rattle.std.proofs.lemmas.List.Folds.{list_any-append}
use Rattle.std.proofs.lemmas.Option.{same_Some}
use Rattle.std.proofs.lemmas.Slice.Eq.{bytes_eq-Decides}
use Rattle.blk_base.specs.Files.{is_out, is_out_as, closed_with, given_back, file_at, put_file}
use Rattle.blk_base.specs.Stored.{files_with_returned}
use Rattle.blk_base.specs.declared.fault.FaultAt.{FaultAt}
use Rattle.blk_base.specs.declared.device.DeviceCall.{DeviceCall}
use Rattle.blk_base.specs.declared.file.File.{File}
use Rattle.blk_base.specs.declared.file.Opened.{Opened}
use Rattle.blk_graph.proofs.CycleLemmas.{and-left, and-right}
use Rattle.blk_graph.proofs.Members.{Contains-nil, Contains-cases, Contains-here, Contains-there}
use Rattle.blk_graph.proofs.RoleLemmas.{tail_pairs, head_pairs}
use Rattle.blk_history.specs.Fold.{With}
use Rattle.blk_nodes.specs.Nodes.{DeviceSeen, AreTold}
use Rattle.qmp_rules.specs.Table.{RunTable}
use Rattle.flat_machine.specs.State.{filename_of}
use Rattle.flat_machine.proofs.Finds.{bytes_eq-same}
use Rattle.world_files.specs.Closing.{IsBack, AreBack, HasGivenBack, EndsWorld, AreFlushed, IsFlushedIn, IsOutFor, earlier_fault, flushed_by, is_file_of, held_left, store_in}
use Rattle.world_parts.specs.Coherent.{AreHeld, IsOut}
use Rattle.world_parts.specs.Face.{WorldSeen, told_bytes}
use Rattle.world_parts.specs.Steps.{StoreSeen, seen_in_run}
use Rattle.world_parts.specs.Stores.{StoreInRun}
use Rattle.world_parts.proofs.CountLemmas.{DifferInNumber, same-number}

-- ---- an opening that is given back

none-of : {A : Type 0} (x : Option A) → is_none x ≡ true → x ≡ None
none-of None is = refl
none-of (Some a) is = absurd (false≢true is)

pub set-same : (opened : List Opened) (n : ℕ) (o now : Opened) → slice_get opened n ≡ Some o → slice_get (set opened n now) n ≡ Some now
set-same [] n o now is = absurd (let bad : ⊥ = cc is in bad)
set-same (x ∷ opened) zero o now is = refl
set-same (x ∷ opened) (suc n) o now is = set-same opened n o now is

pub set-other : (opened : List Opened) (n m : ℕ) (now : Opened) → m ≢ n → slice_get (set opened n now) m ≡ slice_get opened m
set-other [] n m now differ = refl
set-other (x ∷ opened) zero zero now differ = absurd (differ refl)
set-other (x ∷ opened) zero (suc m) now differ = refl
set-other (x ∷ opened) (suc n) zero now differ = refl
set-other (x ∷ opened) (suc n) (suc m) now differ = set-other opened n m now (λ same. differ (ap suc same))

back-at : (opened : List Opened) (n : ℕ) (o : Opened) (name : List ℕ) (count : ℕ) (call : Option DeviceCall) → slice_get opened n ≡ Some o → is_out_as name o ≡ true
    → ((m : ℕ) (p : Opened) → slice_get opened m ≡ Some p → is_out_as name p ≡ true → m ≡ n)
    → given_back name count call opened ≡ set opened n (closed_with count call o)
back-at [] n o name count call is out only = absurd (let bad : ⊥ = cc is in bad)
back-at (x ∷ opened) zero o name count call is out only =
    let same : x ≡ o = same_Some x o is in
    rw (same, out) refl
back-at (x ∷ opened) (suc n) o name count call is out only =
    by_test (is_out_as name x) refl (back-at opened n o name count call is out (λ m p at out'. let next = only (suc m) p at out' in omega (arith, next)))
  where
    by_test : (b : Bool) → is_out_as name x ≡ b → given_back name count call opened ≡ set opened n (closed_with count call o)
        → cond b (closed_with count call x ∷ opened) (x ∷ given_back name count call opened) ≡ x ∷ set opened n (closed_with count call o)
    by_test true e rest = let first = only 0 x refl e in absurd (omega (arith, first))
    by_test false e rest = ap (λ more. x ∷ more) rest

is-out : (name : List ℕ) (opened : List Opened) (n : ℕ) (o : Opened) → slice_get opened n ≡ Some o → is_out_as name o ≡ true → is_out name opened ≡ true
is-out name [] n o there is = absurd (let bad : ⊥ = cc there in bad)
is-out name (x ∷ opened) zero o there is =
    let same : x ≡ o = same_Some x o there in
    ap (λ b. b || is_out name opened) (ap (is_out_as name) same ∙ is)
is-out name (x ∷ opened) (suc n) o there is = or-true (is_out_as name x) (is-out name opened n o there is)
  where
    or-true : (b : Bool) → is_out name opened ≡ true → (b || is_out name opened) ≡ true
    or-true true later = refl
    or-true false later = later

module _ (t : RunTable) (device : DeviceSeen) (rest : List DeviceSeen) (opened : List Opened) (was : AreHeld t (device ∷ rest) opened) (name : List ℕ) (count : ℕ) (call : Option DeviceCall)
    (named : filename_of t device.node ≡ Some name) where
  abbrev out : IsOut t opened device
  out = was.each device (Contains-here device rest)

  its-name : out.opening.name ≡ name
  its-name = same_Some out.opening.name name (sym out.named ∙ named)

  its-out : is_out_as name out.opening ≡ true
  its-out = rw (its-name, out.out, bytes_eq-same name) refl

  pub out-for : IsOutFor t device.node opened
  out-for = rw named (is-out name opened device.number.0 out.opening out.there its-out)

  only : (m : ℕ) (p : Opened) → slice_get opened m ≡ Some p → is_out_as name p ≡ true → m ≡ device.number.0
  only m p at is =
      let back : p.returned ≡ None = none-of p.returned (and-right (bytes_eq name p.name) (is_none p.returned) is) in
      let same : name ≡ p.name = (bytes_eq-Decides name p.name).0 (and-left (bytes_eq name p.name) (is_none p.returned) is) in
      was.names m device.number.0 p out.opening at out.there back out.out (sym same ∙ sym its-name)

  pub now : given_back name count call opened ≡ set opened device.number.0 (closed_with count call out.opening)
  now = back-at opened device.number.0 out.opening name count call out.there its-out only

  -- any other opening that is out was so, and stands elsewhere
  still-out : (m : ℕ) (p : Opened) → slice_get (given_back name count call opened) m ≡ Some p → p.returned ≡ None → (m ≢ device.number.0) × (slice_get opened m ≡ Some p)
  still-out m p at none = by_place (cases_eq m device.number.0)
    where
      here : slice_get (set opened device.number.0 (closed_with count call out.opening)) m ≡ Some p
      here = subst (λ all. slice_get all m ≡ Some p) now at

      by_place : ((m ≡ device.number.0) ⊎ (m ≢ device.number.0)) → (m ≢ device.number.0) × (slice_get opened m ≡ Some p)
      by_place (inl same) =
          let is : closed_with count call out.opening ≡ p =
          same_Some (closed_with count call out.opening) p (sym (set-same opened device.number.0 out.opening (closed_with count call out.opening) out.there)
          ∙ subst (λ k. slice_get (set opened device.number.0 (closed_with count call out.opening)) k ≡ Some p) same here) in
          let bad : Some count ≡ None = ap (λ (o : Opened). o.returned) is ∙ none in
          absurd (let no : ⊥ = cc bad in no)
      by_place (inr differ) = (differ, sym (set-other opened device.number.0 m (closed_with count call out.opening) differ) ∙ here)

  pub held-step : AreHeld t rest (given_back name count call opened)
  held-step = record {
    each = λ other held.
        let is = was.each other (Contains-there device rest other held) in
        let differ : other.number.0 ≢ device.number.0 = λ same. head_pairs DifferInNumber device rest was.once other held (sym (same-number other.number device.number same)) in
        record {
          opening = is.opening;
          there = subst (λ all. slice_get all other.number.0 ≡ Some is.opening) (sym now) (set-other opened device.number.0 other.number.0 (closed_with count call out.opening) differ ∙ is.there);
          out = is.out;
          named = is.named;
          capacity = is.capacity;
          faults = is.faults;
        };
    once = tail_pairs DifferInNumber device rest was.once;
    order = tail_pairs (λ (a b : DeviceSeen). a.number.0 < b.number.0) device rest was.order;
    all = λ m p at none.
        let still = still-out m p at none in
        let past : (device.number.0 == m) ≡ false = ne_eqb device.number.0 m (λ same. still.0 (sym same)) in
        rw past at (was.all m p still.1 none);
    names = λ a b p q at at' none none'. was.names a b p q (still-out a p at none).1 (still-out b q at' none').1 none none';
  }

pub out-of-held : (t : RunTable) (device : DeviceSeen) (rest : List DeviceSeen) (opened : List Opened) → AreHeld t (device ∷ rest) opened → IsOutFor t device.node opened
out-of-held t device rest opened was =
    let its = was.each device (Contains-here device rest) in
    out-for t device rest opened was its.opening.name 0 None its.named

pub held-back : (t : RunTable) (device : DeviceSeen) (rest : List DeviceSeen) (old new : StoreSeen) (fault : Option FaultAt) → IsBack t device old new fault
    → AreHeld t (device ∷ rest) old.opened → AreHeld t rest new.opened
held-back t device rest old new fault back was =
    let is : new.opened ≡ given_back back.name back.count back.call old.opened = ap (λ (s : StoreSeen). s.opened) back.kept in
    subst (AreHeld t rest) (sym is) (held-step t device rest old.opened was back.name back.count back.call back.named)

-- ---- at the end none is out

some-out : (name : List ℕ) (opened : List Opened) → is_out name opened ≡ true → (n : ℕ) × (o : Opened) × (slice_get opened n ≡ Some o) × (is_out_as name o ≡ true)
some-out name [] is = absurd (false≢true is)
some-out name (x ∷ opened) is = by_test (is_out_as name x) refl is (some-out name opened)
  where
    by_test : (b : Bool) → is_out_as name x ≡ b → (b || is_out name opened) ≡ true
        → (is_out name opened ≡ true → (n : ℕ) × (o : Opened) × (slice_get opened n ≡ Some o) × (is_out_as name o ≡ true))
        → (n : ℕ) × (o : Opened) × (slice_get (x ∷ opened) n ≡ Some o) × (is_out_as name o ≡ true)
    by_test true e is more = (0, x, refl, e)
    by_test false e is more = let later = more is in (suc later.0, later.1, later.2, later.3)

pub none-out : (t : RunTable) (opened : List Opened) → AreHeld t [] opened → (name : List ℕ) → is_out name opened ≡ false
none-out t opened held name = by_test (is_out name opened) refl
  where
    by_test : (b : Bool) → is_out name opened ≡ b → b ≡ false
    by_test true is =
        let some = some-out name opened is in
        let back : some.1.returned ≡ None = none-of some.1.returned (and-right (bytes_eq name some.1.name) (is_none some.1.returned) some.3) in
        absurd (false≢true (held.all some.0 some.1 some.2 back))
    by_test false is = refl

pub back-held : (t : RunTable) (devices : List DeviceSeen) (old new : StoreSeen) (fault : Option FaultAt) → AreBack t devices old new fault → AreHeld t devices old.opened → AreHeld t [] new.opened
back-held t [] old new fault back held = subst (λ (s : StoreSeen). AreHeld t [] s.opened) (sym back.0) held
back-held t (device ∷ devices) old new fault back held =
    back-held t devices back.0 new back.2 back.4 (held-back t device devices old back.0 back.1 back.3 held)

-- ---- what files hold

-- no device of these is that of the file
abbrev pub AreOther : RunTable → List ℕ → List DeviceSeen → Type 0
AreOther t name [] = Unit {0}
AreOther t name (device ∷ devices) = (is_file_of t name device ≡ false) × AreOther t name devices

pub left-other : (t : RunTable) (files : Option (List File)) (devices : List DeviceSeen) (name : List ℕ) → AreOther t name devices → held_left t files devices name ≡ told_bytes files name
left-other t files [] name others = refl
left-other t files (device ∷ devices) name others = rw others.0 (left-other t files devices name others.1)

-- the store holds another file
left-same : (t : RunTable) (old new : Option (List File)) (devices : List DeviceSeen) (name : List ℕ) → told_bytes new name ≡ told_bytes old name
    → held_left t new devices name ≡ held_left t old devices name
left-same t old new [] name same = same
left-same t old new (device ∷ devices) name same = ap (λ rest. cond (is_file_of t name device) device.content rest) (left-same t old new devices name same)

-- a file that is put
put-there : (file : File) (files : List File) → file_at file.name (put_file file files) ≡ Some file
put-there file [] = rw (bytes_eq-same file.name) refl
put-there file (f ∷ files) = by_test (bytes_eq file.name f.name) refl (put-there file files)
  where
    by_test : (b : Bool) → bytes_eq file.name f.name ≡ b → file_at file.name (put_file file files) ≡ Some file → file_at file.name (cond b (file ∷ files) (f ∷ put_file file files)) ≡ Some file
    by_test true e more = rw (bytes_eq-same file.name) refl
    by_test false e more = rw e more

put-other : (file : File) (files : List File) (name : List ℕ) → bytes_eq name file.name ≡ false → file_at name (put_file file files) ≡ file_at name files
put-other file [] name differ = rw differ refl
put-other file (f ∷ files) name differ = by_test (bytes_eq file.name f.name) refl (put-other file files name differ)
  where
    by_test : (b : Bool) → bytes_eq file.name f.name ≡ b → file_at name (put_file file files) ≡ file_at name files
        → file_at name (cond b (file ∷ files) (f ∷ put_file file files)) ≡ cond (bytes_eq name f.name) (Some f) (file_at name files)
    by_test true e more =
        let same : file.name ≡ f.name = (bytes_eq-Decides file.name f.name).0 e in
        let past : bytes_eq name f.name ≡ false = subst (λ n. bytes_eq name n ≡ false) same differ in
        rw (differ, past) refl
    by_test false e more = ap (λ found. cond (bytes_eq name f.name) (Some f) found) more

-- what is told of a device that is given back
record IsTold (device : DeviceSeen) (fault : Option FaultAt) : Type 0 where
  bytes : List ℕ
  content : device.content ≡ Some bytes
  flushed : Bool
  is : flushed_by fault device.is_flushed ≡ Some flushed

pub tells-of : (content : Option (List ℕ)) (flushed : Option Bool) → ((bytes : List ℕ) → content ≡ Some bytes → is_some flushed ≡ true) → is_some content ≡ true → is_some flushed ≡ true
tells-of None flushed law some = absurd (false≢true some)
tells-of (Some bytes) flushed law some = law bytes refl

told-of : (device : DeviceSeen) (fault : Option FaultAt) → is_some device.content ≡ true → (is_some device.content ≡ true → is_some device.is_flushed ≡ true) → IsTold device fault
told-of device fault told tells = by_content device.content refl device.is_flushed refl
  where
    by_flush : (bytes : List ℕ) → device.content ≡ Some bytes → (fault' : Option FaultAt) → fault ≡ fault' → (f : Bool) → device.is_flushed ≡ Some f → IsTold device fault
    by_flush bytes is None same f flush = record { bytes = bytes; content = is; flushed = true; is = rw (same, flush) refl }
    by_flush bytes is (Some named) same f flush = record { bytes = bytes; content = is; flushed = f; is = rw (same, flush) refl }

    by_content : (content : Option (List ℕ)) → device.content ≡ content → (flush : Option Bool) → device.is_flushed ≡ flush → IsTold device fault
    by_content None none flush e = absurd (false≢true (subst (λ c. is_some c ≡ true) none told))
    by_content (Some bytes) some None e = absurd (false≢true (subst (λ f. is_some f ≡ true) e (tells told)))
    by_content (Some bytes) some (Some f) e = by_flush bytes some fault refl f e

module _ (t : RunTable) (device : DeviceSeen) (rest : List DeviceSeen) (old : StoreSeen) (fault : Option FaultAt) (new : StoreSeen) (back : IsBack t device old new fault)
    (held : AreHeld t (device ∷ rest) old.opened) (files : List File) (told : old.files ≡ Some files) (is_told : IsTold device fault) where
  abbrev file : File
  file = record { name = back.name; bytes = is_told.bytes; capacity = device.capacity; is_flushed = is_told.flushed }

  files-then : new.files ≡ Some (put_file file files)
  files-then =
      ap (λ (s : StoreSeen). s.files) back.kept
      ∙ ap (λ x. files_with_returned back.name x device.capacity (flushed_by fault device.is_flushed) old.files) is_told.content
      ∙ ap (λ x. files_with_returned back.name (Some is_told.bytes) device.capacity x old.files) is_told.is
      ∙ ap (λ x. files_with_returned back.name (Some is_told.bytes) device.capacity (Some is_told.flushed) x) told

  -- no device that is left is of its file
  others : AreOther t back.name rest
  others = all-other rest (λ other within. by_name other within (filename_of t other.node) refl)
    where
      all-other : (devices : List DeviceSeen) → ((other : DeviceSeen) → Contains devices other → is_file_of t back.name other ≡ false) → AreOther t back.name devices
      all-other [] each = tt
      all-other (d ∷ devices) each = (each d (Contains-here d devices), all-other devices (λ other within. each other (Contains-there d devices other within)))

      by_test : (other : DeviceSeen) → Contains rest other → (filename : List ℕ) → filename_of t other.node ≡ Some filename → (b : Bool) → bytes_eq filename back.name ≡ b → b ≡ false
      by_test other within filename is true e =
          let its = held.each device (Contains-here device rest) in
          let ours = held.each other (Contains-there device rest other within) in
          let same : ours.opening.name ≡ its.opening.name =
          same_Some ours.opening.name filename (sym ours.named ∙ is) ∙ (bytes_eq-Decides filename back.name).0 e ∙ same_Some back.name its.opening.name (sym back.named ∙ its.named) in
          let place = held.names device.number.0 other.number.0 its.opening ours.opening its.there ours.there its.out ours.out (sym same) in
          absurd (head_pairs DifferInNumber device rest held.once other within (same-number device.number other.number place))
      by_test other within filename is false e = refl

      by_name : (other : DeviceSeen) → Contains rest other → (filename : Option (List ℕ)) → filename_of t other.node ≡ filename → is_file_of t back.name other ≡ false
      by_name other within None none = rw none refl
      by_name other within (Some filename) some = rw some (by_test other within filename some (bytes_eq filename back.name) refl)

  held-then : (name : List ℕ) → held_left t new.files rest name ≡ held_left t old.files (device ∷ rest) name
  held-then name = by_test (bytes_eq back.name name) refl
    where
      by_test : (b : Bool) → bytes_eq back.name name ≡ b → held_left t new.files rest name ≡ held_left t old.files (device ∷ rest) name
      by_test true e =
          let same : back.name ≡ name = (bytes_eq-Decides back.name name).0 e in
          let its : is_file_of t name device ≡ true = rw (back.named, e) refl in
          let stored : told_bytes new.files name ≡ device.content =
          subst (λ n. told_bytes new.files n ≡ device.content) same
          (ap (λ x. told_bytes x back.name) files-then ∙ ap (option_map (λ (f : File). f.bytes)) (put-there file files) ∙ sym is_told.content) in
          rw its (left-other t new.files rest name (subst (λ n. AreOther t n rest) same others) ∙ stored)
      by_test false e =
          let its : is_file_of t name device ≡ false = rw (back.named, e) refl in
          let differ : bytes_eq name back.name ≡ false = not-same (bytes_eq name back.name) refl in
          let kept : told_bytes new.files name ≡ told_bytes old.files name =
          ap (λ x. told_bytes x name) files-then ∙ ap (option_map (λ (f : File). f.bytes)) (put-other file files name differ) ∙ sym (ap (λ x. told_bytes x name) told) in
          rw its (left-same t old.files new.files rest name kept)
        where
          not-same : (b : Bool) → bytes_eq name back.name ≡ b → b ≡ false
          not-same true is = absurd (false≢true (sym e ∙ subst (λ n. bytes_eq back.name n ≡ true) (sym ((bytes_eq-Decides name back.name).0 is)) (bytes_eq-same back.name)))
          not-same false is = refl

-- ---- all of them

all-told : (devices : List DeviceSeen) (device : DeviceSeen) → AreTold (device ∷ devices) → AreTold devices
all-told devices device told other within = told other (Contains-there device devices other within)

-- where the store tells its files, they hold in the end what they and the devices did
pub back-files : (t : RunTable) (devices : List DeviceSeen) (old new : StoreSeen) (fault : Option FaultAt) → AreBack t devices old new fault → AreHeld t devices old.opened
    → AreTold devices → (files : List File) → old.files ≡ Some files
    → (is_some new.files ≡ true) × ((name : List ℕ) → told_bytes new.files name ≡ held_left t old.files devices name)
back-files t [] old new fault back held told files is =
    let same : new.files ≡ old.files = ap (λ (s : StoreSeen). s.files) back.0 in
    (ap (λ (x : Option (List File)). is_some x) (same ∙ is), λ name. ap (λ x. told_bytes x name) same)
back-files t (device ∷ devices) old new fault back held told files is =
    let one = back.3 in
    let of = told-of device back.1 (told device (Contains-here device devices)) one.tells in
    let then = files-then t device devices old back.1 back.0 one held files is of in
    let more = back-files t devices back.0 new back.2 back.4 (held-back t device devices old back.0 back.1 one held) (all-told devices device told) _ then in
    (more.0, λ name. more.1 name ∙ held-then t device devices old back.1 back.0 one held files is of name)

-- ---- what is flushed

-- a file of none of the devices stays
back-others : (t : RunTable) (devices : List DeviceSeen) (old new : StoreSeen) (fault : Option FaultAt) → AreBack t devices old new fault → AreHeld t devices old.opened
    → AreTold devices → (files : List File) → old.files ≡ Some files → (name : List ℕ) → AreOther t name devices
    → (now : List File) × (new.files ≡ Some now) × (file_at name now ≡ file_at name files)
back-others t [] old new fault back held told files is name other = (files, ap (λ (s : StoreSeen). s.files) back.0 ∙ is, refl)
back-others t (device ∷ devices) old new fault back held told files is name other =
    let one = back.3 in
    let of = told-of device back.1 (told device (Contains-here device devices)) one.tells in
    let then = files-then t device devices old back.1 back.0 one held files is of in
    let more = back-others t devices back.0 new back.2 back.4 (held-back t device devices old back.0 back.1 one held) (all-told devices device told) _ then name other.1 in
    (more.0, more.1, more.2 ∙ put-other _ files name (apart one.name one.named))
  where
    apart : (its : List ℕ) → filename_of t device.node ≡ Some its → bytes_eq name its ≡ false
    apart its named = by_test (bytes_eq name its) refl
      where
        by_test : (b : Bool) → bytes_eq name its ≡ b → b ≡ false
        by_test true same =
            let equal : name ≡ its = (bytes_eq-Decides name its).0 same in
            let here : is_file_of t name device ≡ true = rw named (subst (λ n. bytes_eq n name ≡ true) equal (bytes_eq-same name)) in
            absurd (false≢true (sym other.0 ∙ here))
        by_test false same = refl

no-fault : (first later : Option FaultAt) → earlier_fault first later ≡ None → (first ≡ None) × (later ≡ None)
no-fault None later is = (refl, is)
no-fault (Some fault) later is = absurd (let bad : ⊥ = cc is in bad)

made-true : (x : Option Bool) (b : Bool) → option_map (λ (f : Bool). true) x ≡ Some b → b ≡ true
made-true None b is = absurd (let bad : ⊥ = cc is in bad)
made-true (Some f) b is = sym (same_Some true b is)

-- where no flush failed, the file of each device is flushed
pub back-flushed : (t : RunTable) (devices : List DeviceSeen) (old new : StoreSeen) (fault : Option FaultAt) → AreBack t devices old new fault → AreHeld t devices old.opened
    → AreTold devices → (files : List File) → old.files ≡ Some files → fault ≡ None → (device : DeviceSeen) → Contains devices device → (name : List ℕ)
    → filename_of t device.node ≡ Some name → (now : List File) × (new.files ≡ Some now) × IsFlushedIn now name
back-flushed t [] old new fault back held told files is none device within name named = absurd (Contains-nil device within)
back-flushed t (d ∷ devices) old new fault back held told files is none device within name named =
    let one = back.3 in
    let of = told-of d back.1 (told d (Contains-here d devices)) one.tells in
    let then = files-then t d devices old back.1 back.0 one held files is of in
    let step = held-back t d devices old back.0 back.1 one held in
    let quiet = no-fault back.1 back.2 (sym back.5 ∙ none) in
    elim (Contains-cases d devices device within) [
      | inl here ↦
          let same : one.name ≡ name = same_Some one.name name (sym one.named ∙ subst (λ (x : DeviceSeen). filename_of t x.node ≡ Some name) here named) in
          let rest = back-others t devices back.0 new back.2 back.4 step (all-told devices d told) _ then one.name (others t d devices old back.1 back.0 one held files is of) in
          let there = rest.2 ∙ put-there (file t d devices old back.1 back.0 one held files is of) files in
          let yes : of.flushed ≡ true = made-true d.is_flushed of.flushed (subst (λ (f : Option FaultAt). flushed_by f d.is_flushed ≡ Some of.flushed) quiet.0 of.is) in
          (rest.0, rest.1, subst (λ n. IsFlushedIn rest.0 n) same (subst (λ (f : Option File). With f (λ x. x.is_flushed ≡ true)) (sym there) yes))
      | inr later ↦ back-flushed t devices back.0 new back.2 back.4 step (all-told devices d told) _ then quiet.1 device later name named
    ]

-- ---- a world

-- the openings of the run stand behind those before it
pub closed-by : (w : WorldSeen) (store : StoreInRun) (whole : StoreSeen) (fault : Option FaultAt)
    → AreBack w.table w.nodes.devices (store_in w) (seen_in_run store) fault → HasGivenBack w store.opened fault → store.earlier ≡ w.earlier → whole.files ≡ store.files
    → whole.opened ≡ store.earlier ++ store.opened → whole.room ≡ store.room → whole.faults ≡ store.faults → whole.failed_call ≡ store.failed_call → EndsWorld w whole fault
closed-by w store whole fault back given earlier files opened room faults call = record {
  opened = store.opened;
  behind = opened ∙ ap (λ (before : List Opened). before ++ store.opened) earlier;
  back = rw (files, room, faults, call) back;
  given = given;
}

-- none of them is out
pub none-behind : (earlier opened whole : List Opened) → whole ≡ earlier ++ opened → ((name : List ℕ) → is_out name earlier ≡ false)
    → ((name : List ℕ) → is_out name opened ≡ false) → (name : List ℕ) → is_out name whole ≡ false
none-behind earlier opened whole is before none name =
    ap (is_out name) is
    ∙ list_any-append (is_out_as name) earlier opened
    ∙ ap (λ (b : Bool). b || is_out name opened) (before name)
    ∙ none name

pub flushed-then : (w : WorldSeen) (store : StoreSeen) (fault : Option FaultAt) → EndsWorld w store fault → AreHeld w.table w.nodes.devices w.opened → is_some w.files ≡ true
    → AreTold w.nodes.devices → fault ≡ None → AreFlushed w store.files
flushed-then w store fault closed out told devices none device name within named = by_files w.files refl told
  where
    by_files : (files : Option (List File)) → w.files ≡ files → is_some files ≡ true → With store.files (λ now. IsFlushedIn now name)
    by_files None is some = absurd (false≢true some)
    by_files (Some files) is some =
        let all = back-flushed w.table w.nodes.devices _ _ fault closed.back out devices files is none device within name named in
        subst (λ (f : Option (List File)). With f (λ now. IsFlushedIn now name)) (sym all.1) all.2
