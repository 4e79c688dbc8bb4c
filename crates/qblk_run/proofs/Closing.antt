-- What a run was, by the world that was closed.
use Rattle.std.proofs.Common.{◌≡◌, ℕ, zero, suc, ◌<◌, ◌≤◌, Bool, true, false, List, [], ◌∷◌, ◌++◌, length, refl, sym, ◌∙◌, ap, subst, arith, Option, Some, None}
use Rattle.std.specs.Prelude.{slice_get, get_or, All, IsSome, is_some, option_map, ◌||◌}
use Rattle.std.proofs.lemmas.Bool.{false≢true}
use Rattle.flat_machine.proofs.Finds.{bytes_eq-same}
use Rattle.blk_base.specs.Counts.{HasFailedSince}
use Rattle.blk_base.specs.Files.{is_out, is_out_as, file_at}
use Rattle.blk_base.specs.declared.fault.FaultAt.{FaultAt}
use Rattle.blk_base.specs.declared.fault.FaultFrom.{FaultFrom}
use Rattle.blk_base.specs.declared.fault.FaultFrom.TheVariants.{Store, Dev, Sink}
use Rattle.blk_base.specs.declared.file.File.{File}
use Rattle.blk_base.specs.declared.file.Opened.{Opened}
use Rattle.blk_history.specs.Fold.{With}
use Rattle.blk_history.specs.declared.event.Event.{Event}
use Rattle.flat_machine.specs.State.{Left, filename_of}
use Rattle.flat_machine.specs.Machine.{replay}
use Rattle.flat_machine.specs.Opening.{start}
use Rattle.flat_machine.specs.Agreement.{Contents, IsLeftAs}
use Rattle.flat_machine.specs.Final.{bytes_named, IsDiskIn, IsLeftIn, AreDisks}
use Rattle.flat_machine.specs.Licence.{Counts, IsBetweenCounts, AreLicensed, faults_of, source_count}
use Rattle.flat_machine.specs.declared.opening.Opening.{Opening}
use Rattle.flat_machine.proofs.ImagesKept.{sound_same}
use Rattle.world_parts.specs.Comes.{Comes}
use Rattle.world_parts.specs.Counting.{HaveNotFallen}
use Rattle.world_parts.specs.Face.{WorldSeen, held, told_bytes, contents_of}
use Rattle.world_parts.specs.Steps.{StoreSeen}
use Rattle.qblk_run.specs.Run.{HaveStood, LeavesFiles, Account}
use Rattle.qblk_run.specs.Session.{IsEnd}
use Rattle.qblk_run.proofs.Lists.{with-some, with-map}

-- ---- all of a list

all-weaker : {A : Type 0} (P Q : A → Type 0) → ((a : A) → P a → Q a) → (xs : List A) → All P xs → All Q xs
all-weaker P Q f xs all = λ k d below. f (get_or xs k d) (all k d below)

-- ---- openings

-- none is out: each is back
back-own : (o : Opened) → is_out_as o.name o ≡ false → IsSome o.returned
back-own o none = own o.returned refl
  where
    own : (returned : Option ℕ) → o.returned ≡ returned → IsSome o.returned
    own (Some count) is = subst IsSome (sym is) refl
    own None is =
        let out : is_out_as o.name o ≡ true = rw (bytes_eq-same o.name, is) refl in
        absurd (false≢true (sym none ∙ out))

or-first : (x b : Bool) → (b || x) ≡ false → b ≡ false
or-first x true is = absurd (false≢true (sym is))
or-first x false is = refl

or-rest : (x b : Bool) → (b || x) ≡ false → x ≡ false
or-rest x true is = absurd (false≢true (sym is))
or-rest x false is = is

back-at : (opened : List Opened) → ((name : List ℕ) → is_out name opened ≡ false) → (k : ℕ) (d : Opened) → k < length opened → IsSome (get_or opened k d).returned
back-at [] none k d below = absurd (omega arith)
back-at (o ∷ opened) none zero d below = back-own o (or-first (is_out o.name opened) (is_out_as o.name o) (none o.name))
back-at (o ∷ opened) none (suc k) d below = back-at opened (λ name. or-rest (is_out name opened) (is_out_as name o) (none name)) k d (omega arith)

pub all-back : (opened : List Opened) → ((name : List ℕ) → is_out name opened ≡ false) → All (λ o. IsSome o.returned) opened
all-back opened none = λ k d below. back-at opened none k d below

pub behind-back : (earlier made : List Opened) → ((name : List ℕ) → is_out name (earlier ++ made) ≡ false) → (name : List ℕ) → is_out name made ≡ false
behind-back [] made none name = none name
behind-back (o ∷ earlier) made none name = behind-back earlier made (λ n. or-rest (is_out n (earlier ++ made)) (is_out_as n o) (none n)) name

-- ---- counts

between-later : (a b c : Counts) → b.store ≤ c.store → HaveNotFallen b.devices c.devices → (fault : FaultAt) → IsBetweenCounts a b fault → IsBetweenCounts a c fault
between-later a b c store devices fault is = record { risen = is.risen; reached = by_source fault.from is.reached }
  where
    by_source : (from : FaultFrom) → With (source_count b from) (λ now. fault.count ≤ now) → With (source_count c from) (λ now. fault.count ≤ now)
    by_source Store le = omega arith
    by_source Sink le = le
    by_source (Dev dev) le =
        let was = with-some (slice_get b.devices dev.0) (λ now. fault.count ≤ now) le in
        with-map (slice_get c.devices dev.0) (λ now. was.0 ≤ now) (λ now. fault.count ≤ now) (λ now more. let less = was.2 in omega arith) (devices dev.0 was.0 was.1)

pub licensed-later : (a b c : Counts) (h : List Event) → b.store ≤ c.store → HaveNotFallen b.devices c.devices → AreLicensed a b h → AreLicensed a c h
licensed-later a b c h store devices is = record {
  rises = all-weaker (IsBetweenCounts a b) (IsBetweenCounts a c) (between-later a b c store devices) (faults_of h) is.rises;
  once = is.once;
}

-- where no count has risen none is named
none-between : (a b : Counts) (fault : FaultAt) → HaveStood a b → IsBetweenCounts a b fault → ⊥
none-between a b fault stood is =
    let first = with-some (source_count a fault.from) (λ before. HasFailedSince before fault.count) is.risen in
    let same = stood fault.from first.0 first.1 in
    let last = with-some (source_count b fault.from) (λ now. fault.count ≤ now) is.reached in
    let equal : last.0 ≡ first.0 = some-same (sym last.1 ∙ same.1) in
    let rose = first.2 in
    let less = same.0 in
    let reached = last.2 in
    omega arith
  where
    some-same : {x y : ℕ} → Some x ≡ Some y → x ≡ y
    some-same e = cc

no-faults : (a b : Counts) (faults : List FaultAt) → HaveStood a b → All (IsBetweenCounts a b) faults → faults ≡ []
no-faults a b [] stood all = refl
no-faults a b (f ∷ faults) stood all = absurd (none-between a b f stood (all 0 f (omega arith)))

pub quiet-run : (a b : Counts) (h : List Event) → AreLicensed a b h → HaveStood a b → faults_of h ≡ []
quiet-run a b h licensed stood = no-faults a b (faults_of h) stood licensed.rises

-- ---- files

-- a left disk is what its driver reads, by the files
left-in : (files : List File) (c : Contents) → ((name : List ℕ) → bytes_named files name ≡ c.held name) → (left : Left) → IsLeftAs c left → IsLeftIn files left
left-in files c holds left is = by_file (file_at left.file files) (subst (λ x. With x (IsDiskIn left.kind left.offset left.bytes)) (sym (holds left.file)) is)
  where
    by_file : (x : Option File) → With (option_map (λ (f : File). f.bytes) x) (IsDiskIn left.kind left.offset left.bytes)
        → With x (λ f. IsDiskIn left.kind left.offset left.bytes f.bytes)
    by_file None is = is
    by_file (Some f) is = is

pub leaves-files : (o : Opening) (v : WorldSeen) (a : Account) (store : StoreSeen) (fault : Option FaultAt) (files : List File)
    → a.opening ≡ o → a.events ≡ v.progress.log.events → Comes o v → IsEnd v store fault → is_some v.files ≡ true → store.files ≡ Some files
    → LeavesFiles a fault files
leaves-files o v a store fault files opening events comes end told is =
    let shows = comes.shows told in
    let s = replay (start o) v.progress.log.events in
    let holds : (name : List ℕ) → bytes_named files name ≡ held v name = λ name. sym (ap (λ x. told_bytes x name) is) ∙ end.held told name in
    let disks : AreDisks files s = rw is at (end.disks told s shows.table.table_is shows.contents.disks) in
    rw (opening, events) (record {
      history = comes.history.history told;
      left = record {
        nodes = disks;
        left = all-weaker (IsLeftAs (contents_of v)) (IsLeftIn files) (left-in files (contents_of v) holds) s.left shows.contents.left;
        unnamed = λ name none. holds name ∙ shows.contents.unchanged name none;
      };
      flushed = λ none node name named.
          rw is at (end.flushed told none node name (ap (λ (t : _). filename_of t node) (sym shows.table.table_is) ∙ named));
      sound = sound_same v.table s.table (held v) (bytes_named files) shows.table.table_is holds (comes.sound told);
    })
