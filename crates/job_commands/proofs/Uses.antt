-- Uses of bitmaps stand behind each kind of change, of which none adds a bitmap twice, or takes one that is in use.
use Rattle.std.proofs.Common.{◌≡◌, ◌≢◌, ℕ, Bool, true, false, cond, List, [], ◌∷◌, ◌++◌, map, refl, sym, ap, ◌∙◌, subst, inl, inr, Option, Some, None}
use Rattle.std.specs.Prelude.{◌==◌, ◌&&◌, not, bytes_eq, IsSome}
use Rattle.std.specs.Option.{option_map}
use Rattle.std.specs.List.{find, filter, Contains}
use Rattle.std.proofs.lemmas.Bool.{false≢true, eqb-true, eq-eqb, ne_eqb}
use Rattle.blk_graph.proofs.Members.{Contains-filter, Contains-map, find-Some}
use Rattle.qmp_rules.specs.declared.change.Change.{Change}
use Rattle.qmp_rules.specs.declared.change.Change.TheVariants as change
use Rattle.qmp_rules.specs.declared.rows.AskedEnd.{AskedEnd}
use Rattle.qmp_rules.specs.declared.rows.BitmapRow.{BitmapRow}
use Rattle.qmp_rules.specs.declared.rows.JobRecord.{JobRecord}
use Rattle.qmp_rules.specs.declared.rows.UsedBitmap.{UsedBitmap}
use Rattle.qmp_rules.specs.Changes.{changed, all_changed, asked_for, ready_for, followed, bitmap_changed, with_recording, busy_by, is_used_by, given_back}
use Rattle.qmp_rules.specs.Table.{RunTable, is_bitmap, bitmap_at, job_at}
use Rattle.flat_machine.specs.InUse.{IsUnused, is_copied_by, is_use_of}
use Rattle.flat_machine.proofs.BitmapUses.{starts_use, ends_use}
use Rattle.flat_machine.proofs.Finds.{find-push, find-map, find-filter, same-bytes_eq}
use Rattle.flat_machine.proofs.Fresh.{found-longer}
use Rattle.flat_machine.proofs.Tables.{pushed-cases}
use Rattle.job_tables.specs.Running.{IsNoSource}
use Rattle.job_commands.specs.Bitmaps.{UsesStand}

-- ---- bitmaps by node and name

pub is_some_found : {X : Type 0} (found : Option X) → IsSome found → (x : X) × (found ≡ Some x)
is_some_found None some = absurd cc
is_some_found (Some x) some = (x, refl)

-- the first that is found stays, where a filter passes it
found_kept : {X : Type 0} (p q : X → Bool) (xs : List X) (x : X) → find p xs ≡ Some x → q x ≡ true → find p (filter q xs) ≡ Some x
found_kept p q [] x found keeps = absurd cc
found_kept {X} p q (y ∷ xs) x found keeps = by_tests (p y) (q y) refl refl found (found_kept p q xs x)
  where
    by_tests : (b c : Bool) → p y ≡ b → q y ≡ c → cond b (Some y) (find p xs) ≡ Some x → (find p xs ≡ Some x → q x ≡ true → find p (filter q xs) ≡ Some x)
        → find p (cond c (y ∷ filter q xs) (filter q xs)) ≡ Some x
    by_tests true true e k is more = rw e is
    by_tests true false e k is more = let same : y ≡ x = cc in absurd (false≢true (sym k ∙ ap q same ∙ keeps))
    by_tests false true e k is more = rw e (more is keeps)
    by_tests false false e k is more = more is keeps

-- a row is of the node and name
record IsRowNamed (node : ℕ) (name : List ℕ) (row : BitmapRow) : Type 0 where
  node_is : row.node ≡ node
  name_is : row.name ≡ name

named_by : (node : ℕ) (name : List ℕ) (row : BitmapRow) → is_bitmap node name row ≡ true → IsRowNamed node name row
named_by node name row is = by_tests (row.node == node) (bytes_eq row.name name) refl refl is
  where
    by_tests : (b c : Bool) → (row.node == node) ≡ b → bytes_eq row.name name ≡ c → (b && c) ≡ true → IsRowNamed node name row
    by_tests true true e k h = record { node_is = eqb-true row.node node e; name_is = same-bytes_eq row.name name k }
    by_tests true false e k h = absurd (false≢true h)
    by_tests false c e k h = absurd (false≢true h)

at_named : (t : RunTable) (node : ℕ) (name : List ℕ) (row : BitmapRow) → bitmap_at t node name ≡ Some row → Contains t.bitmaps row × (is_bitmap node name row ≡ true)
at_named t node name row found = find-Some (is_bitmap node name) t.bitmaps row found

-- ---- which job uses a row goes by its node and name

same_copied : (source : ℕ) (by : Option UsedBitmap) (a b : BitmapRow) → a.node ≡ b.node → a.name ≡ b.name → is_copied_by source by a ≡ is_copied_by source by b
same_copied source None a b node name = refl
same_copied source (Some used) a b node name = rw (node, name) refl

same_use : (found : Option JobRecord) (a b : BitmapRow) → a.node ≡ b.node → a.name ≡ b.name → is_use_of found a ≡ is_use_of found b
same_use None a b node name = refl
same_use (Some job) a b node name = same_copied job.source job.bitmap a b node name

-- rows of one node and name have the same users
pub same_names : (found : Option JobRecord) (a b : BitmapRow) (node : ℕ) (name : List ℕ) → is_bitmap node name a ≡ true → is_bitmap node name b ≡ true
    → is_use_of found a ≡ is_use_of found b
same_names found a b node name at_a at_b =
    let x = named_by node name a at_a in
    let y = named_by node name b at_b in
    same_use found a b (x.node_is ∙ sym y.node_is) (x.name_is ∙ sym y.name_is)

-- and by what the job copies
same_row : (f : JobRecord → JobRecord) → ((job : JobRecord) → (f job).source ≡ job.source) → ((job : JobRecord) → (f job).bitmap ≡ job.bitmap)
    → (found : Option JobRecord) (row : BitmapRow) → is_use_of (option_map f found) row ≡ is_use_of found row
same_row f sources bitmaps None row = refl
same_row f sources bitmaps (Some job) row = rw (sources job, bitmaps job) refl

-- the row by which a job copies is used by it
pub used_row : (t : RunTable) (u : UsesStand t) (number : ℕ) (job : JobRecord) (used : UsedBitmap) → job_at t number ≡ Some job → job.bitmap ≡ Some used
    → (row : BitmapRow) → Contains t.bitmaps row → is_bitmap job.source used.name row ≡ true → is_used_by number row.busy ≡ true
used_row t u number job used at by row there named =
    u.busy row there number ∙ ap (λ (found : Option JobRecord). is_use_of found row) at ∙ ap (λ b. is_copied_by job.source b row) by ∙ named

-- of a row that is free no job makes use
no_use : (t : RunTable) (u : UsesStand t) (number : ℕ) (job : JobRecord) (used : UsedBitmap) → job_at t number ≡ Some job → job.bitmap ≡ Some used
    → (row : BitmapRow) → Contains t.bitmaps row → is_bitmap job.source used.name row ≡ true → row.busy ≡ None → ⊥
no_use t u number job used at by row there named free =
    false≢true (sym (ap (is_used_by number) free) ∙ used_row t u number job used at by row there named)

-- ---- jobs that change but for what they copy by

module _ (t now : RunTable) (f : JobRecord → JobRecord) (numbers : (job : JobRecord) → (f job).number ≡ job.number)
    (sources : (job : JobRecord) → (f job).source ≡ job.source) (bitmaps : (job : JobRecord) → (f job).bitmap ≡ job.bitmap) (jobs : now.jobs ≡ map f t.jobs)
    (rows : now.bitmaps ≡ t.bitmaps) (u : UsesStand t) where
  at_mapped : (number : ℕ) → job_at now number ≡ option_map f (job_at t number)
  at_mapped number =
      ap (find (λ (j : JobRecord). j.number == number)) jobs ∙ find-map (λ (j : JobRecord). j.number == number) f (λ j. ap (λ n. n == number) (numbers j)) t.jobs

  mapped_uses : UsesStand now
  mapped_uses = record {
    busy = λ row there number.
        u.busy row (subst (λ rs. Contains rs row) rows there) number
        ∙ sym (ap (λ (found : Option JobRecord). is_use_of found row) (at_mapped number) ∙ same_row f sources bitmaps (job_at t number) row);
    there = λ number later used at by. by_job number later used by (job_at t number) refl (sym (at_mapped number) ∙ at);
  }
    where
      by_job : (number : ℕ) (later : JobRecord) (used : UsedBitmap) → later.bitmap ≡ Some used → (found : Option JobRecord) → job_at t number ≡ found
          → option_map f found ≡ Some later → IsSome (bitmap_at now later.source used.name)
      by_job number later used by None e is = absurd cc
      by_job number later used by (Some job) e is =
          let same : f job ≡ later = (let both : Some (f job) ≡ Some later = is in cc both) in
          let had = u.there number job used e (sym (bitmaps job) ∙ ap (λ (j : JobRecord). j.bitmap) same ∙ by) in
          let source : job.source ≡ later.source = sym (sources job) ∙ ap (λ (j : JobRecord). j.source) same in
          subst (λ n. IsSome (bitmap_at now n used.name)) source (subst (λ rs. IsSome (find (is_bitmap job.source used.name) rs)) (sym rows) had)

-- ---- bitmaps that change but for node and name

there_mapped : (t now : RunTable) (f : BitmapRow → BitmapRow) → ((row : BitmapRow) → (f row).node ≡ row.node) → ((row : BitmapRow) → (f row).name ≡ row.name)
    → now.bitmaps ≡ map f t.bitmaps → (node : ℕ) (name : List ℕ) → IsSome (bitmap_at t node name) → IsSome (bitmap_at now node name)
there_mapped t now f nodes names rows node name some =
    subst IsSome (sym (ap (find (is_bitmap node name)) rows ∙ find-map (is_bitmap node name) f (λ row. rw (nodes row, names row) refl) t.bitmaps)) (by_found (bitmap_at t node name) some)
  where
    by_found : (found : Option BitmapRow) → IsSome found → IsSome (option_map f found)
    by_found None s = absurd cc
    by_found (Some row) s = refl

module _ (node : ℕ) (name : List ℕ) (f : BitmapRow → BitmapRow) where
  changed_node : ((row : BitmapRow) → (f row).node ≡ row.node) → (row : BitmapRow) → (bitmap_changed node name f row).node ≡ row.node
  changed_node same row = by_test (is_bitmap node name row)
    where
      by_test : (b : Bool) → (cond b (f row) row).node ≡ row.node
      by_test true = same row
      by_test false = refl

  changed_name : ((row : BitmapRow) → (f row).name ≡ row.name) → (row : BitmapRow) → (bitmap_changed node name f row).name ≡ row.name
  changed_name same row = by_test (is_bitmap node name row)
    where
      by_test : (b : Bool) → (cond b (f row) row).name ≡ row.name
      by_test true = same row
      by_test false = refl

  changed_busy : ((row : BitmapRow) → (f row).busy ≡ row.busy) → (row : BitmapRow) → (bitmap_changed node name f row).busy ≡ row.busy
  changed_busy same row = by_test (is_bitmap node name row)
    where
      by_test : (b : Bool) → (cond b (f row) row).busy ≡ row.busy
      by_test true = same row
      by_test false = refl

turned_uses : (t : RunTable) (node : ℕ) (name : List ℕ) (on : Bool) → UsesStand t → UsesStand (changed t (change.TurnBitmap node name on))
unfolding changed
turned_uses t node name on u = record {
  busy = λ row there number.
      let m = Contains-map (bitmap_changed node name (with_recording on)) t.bitmaps row there in
      let nodes = ap (λ (r : BitmapRow). r.node) m.2 ∙ changed_node node name (with_recording on) (λ r. refl) m.0 in
      let names = ap (λ (r : BitmapRow). r.name) m.2 ∙ changed_name node name (with_recording on) (λ r. refl) m.0 in
      let uses = ap (λ (r : BitmapRow). r.busy) m.2 ∙ changed_busy node name (with_recording on) (λ r. refl) m.0 in
      ap (is_used_by number) uses ∙ u.busy m.0 m.1 number ∙ sym (same_use (job_at t number) row m.0 nodes names);
  there = λ number job used at by.
      there_mapped t (changed t (change.TurnBitmap node name on)) (bitmap_changed node name (with_recording on)) (changed_node node name (with_recording on) (λ r. refl))
      (changed_name node name (with_recording on) (λ r. refl)) refl job.source used.name (u.there number job used at by);
}

-- ---- bitmaps that come and go

added_uses : (t : RunTable) (row : BitmapRow) → row.busy ≡ None → bitmap_at t row.node row.name ≡ None → UsesStand t → UsesStand (changed t (change.AddBitmap row))
unfolding changed
added_uses t row free fresh u = record {
  busy = λ other there number. elim (pushed-cases t.bitmaps row other there) [
    | inl old ↦ u.busy other old number
    | inr new ↦
        ap (λ (r : BitmapRow). is_used_by number r.busy) new ∙ ap (is_used_by number) free ∙ sym (unused number (job_at t number) refl)
        ∙ ap (λ (r : BitmapRow). is_use_of (job_at t number) r) (sym new)
  ];
  there = λ number job used at by.
      let had = is_some_found (bitmap_at t job.source used.name) (u.there number job used at by) in
      subst IsSome (sym (found-longer (is_bitmap job.source used.name) t.bitmaps row had.0 had.1)) refl;
}
  where
    by_bitmap : (number : ℕ) (job : JobRecord) → job_at t number ≡ Some job → (by : Option UsedBitmap) → job.bitmap ≡ by → is_copied_by job.source by row ≡ false
    by_bitmap number job at None is = refl
    by_bitmap number job at (Some used) is = by_test (is_bitmap job.source used.name row) refl
      where
        by_test : (b : Bool) → is_bitmap job.source used.name row ≡ b → b ≡ false
        by_test false e = refl
        by_test true e =
            let of = named_by job.source used.name row e in
            let none : bitmap_at t job.source used.name ≡ None = subst (λ n. bitmap_at t n used.name ≡ None) of.node_is (subst (λ n. bitmap_at t row.node n ≡ None) of.name_is fresh) in
            absurd (let bad = subst IsSome none (u.there number job used at is) in cc)

    unused : (number : ℕ) (found : Option JobRecord) → job_at t number ≡ found → is_use_of found row ≡ false
    unused number None e = refl
    unused number (Some job) e = by_bitmap number job e job.bitmap refl

-- the bitmaps that pass a test, as all do by which a job copies
filtered_uses : (t now : RunTable) (keeps : BitmapRow → Bool) → now.jobs ≡ t.jobs → now.bitmaps ≡ filter keeps t.bitmaps → UsesStand t
    → ((number : ℕ) (job : JobRecord) (used : UsedBitmap) (row : BitmapRow) → job_at t number ≡ Some job → job.bitmap ≡ Some used
    → bitmap_at t job.source used.name ≡ Some row → keeps row ≡ true) → UsesStand now
filtered_uses t now keeps jobs rows u kept = record {
  busy = λ row there number.
      u.busy row (Contains-filter keeps t.bitmaps row (subst (λ rs. Contains rs row) rows there)).0 number
      ∙ ap (λ (found : Option JobRecord). is_use_of found row) (sym (at_same number));
  there = λ number job used at by.
      let was = sym (at_same number) ∙ at in
      let had = is_some_found (bitmap_at t job.source used.name) (u.there number job used was by) in
      subst (λ rs. IsSome (find (is_bitmap job.source used.name) rs)) (sym rows)
      (subst IsSome (sym (found_kept (is_bitmap job.source used.name) keeps t.bitmaps had.0 had.1 (kept number job used had.0 was by had.1))) refl);
}
  where
    at_same : (number : ℕ) → job_at now number ≡ job_at t number
    at_same number = ap (find (λ (j : JobRecord). j.number == number)) jobs

removed_uses : (t : RunTable) (node : ℕ) (name : List ℕ) → ((row : BitmapRow) → bitmap_at t node name ≡ Some row → row.busy ≡ None) → UsesStand t
    → UsesStand (changed t (change.RemoveBitmap node name))
unfolding changed
removed_uses t node name free u =
    filtered_uses t (changed t (change.RemoveBitmap node name)) (λ row. not (is_bitmap node name row)) refl refl u
    (λ number job used row at by found. by_test number job used row at by found (is_bitmap node name row) refl)
  where
    by_test : (number : ℕ) (job : JobRecord) (used : UsedBitmap) (row : BitmapRow) → job_at t number ≡ Some job → job.bitmap ≡ Some used
        → bitmap_at t job.source used.name ≡ Some row → (b : Bool) → is_bitmap node name row ≡ b → not b ≡ true
    by_test number job used row at by found false e = refl
    by_test number job used row at by found true e =
        let here = at_named t job.source used.name row found in
        let own = named_by job.source used.name row here.1 in
        let of = named_by node name row e in
        let source : job.source ≡ node = sym own.node_is ∙ of.node_is in
        let text : used.name ≡ name = sym own.name_is ∙ of.name_is in
        let first : bitmap_at t node name ≡ Some row = subst (λ n. bitmap_at t n name ≡ Some row) source (subst (λ x. bitmap_at t job.source x ≡ Some row) text found) in
        absurd (no_use t u number job used at by row here.0 here.1 (free row first))

gone_uses : (t : RunTable) (node : ℕ) → IsNoSource t.jobs node → UsesStand t → UsesStand (changed t (change.RemoveNode node))
unfolding changed
gone_uses t node none u =
    filtered_uses t (changed t (change.RemoveNode node)) (λ row. not (row.node == node)) refl refl u
    (λ number job used row at by found.
    let own = named_by job.source used.name row (at_named t job.source used.name row found).1 in
    let here = (find-Some (λ (j : JobRecord). j.number == number) t.jobs job at).0 in
    ap not (ne_eqb row.node node (λ same. none job here (sym own.node_is ∙ same))))

-- ---- jobs that begin and end

-- what a job is to copy by is there, and in nobody's use
pub record MayUse (t : RunTable) (row : JobRecord) : Type 0 where
  pub own : job_at t row.number ≡ None
  pub unused : IsUnused t row.source row.bitmap
  pub there : (used : UsedBitmap) → row.bitmap ≡ Some used → IsSome (bitmap_at t row.source used.name)

begun_uses : (t : RunTable) (row : JobRecord) → MayUse t row → UsesStand t → UsesStand (changed t (change.StartJob row))
unfolding changed
begun_uses t row may u = record {
  busy = starts_use t row u.busy may.own may.unused;
  there = λ number job used at by. elim (find-push (λ (j : JobRecord). j.number == number) t.jobs row job at) [
    | inl old ↦ still row.bitmap job.source used.name (u.there number job used old by)
    | inr new ↦
        still row.bitmap job.source used.name
        (subst (λ n. IsSome (bitmap_at t n used.name)) (ap (λ (j : JobRecord). j.source) (sym new.1)) (may.there used (ap (λ (j : JobRecord). j.bitmap) (sym new.1) ∙ by)))
  ];
}
  where
    still : (by : Option UsedBitmap) (node : ℕ) (name : List ℕ) → IsSome (bitmap_at t node name) → IsSome (find (is_bitmap node name) (busy_by row.number by row.source t.bitmaps))
    still None node name some = some
    still (Some used) node name some =
        there_mapped t (record t { bitmaps = busy_by row.number (Some used) row.source t.bitmaps }) (bitmap_changed row.source used.name (λ r. record r { busy = Some row.number }))
        (changed_node row.source used.name (λ r. record r { busy = Some row.number }) (λ r. refl)) (changed_name row.source used.name (λ r. record r { busy = Some row.number }) (λ r. refl))
        refl node name some

over_uses : (t : RunTable) (number slot : ℕ) (drops : Bool) → UsesStand t → UsesStand (changed t (change.EndJob number slot drops))
unfolding changed
over_uses t number slot drops u = record {
  busy = ends_use t number slot drops u.busy;
  there = λ n job used at by.
      let here = find-Some (λ (j : JobRecord). j.number == n) (filter (λ (j : JobRecord). not (j.number == number)) t.jobs) job at in
      let kept = Contains-filter (λ (j : JobRecord). not (j.number == number)) t.jobs job here.0 in
      let own : job.number ≡ n = eqb-true job.number n here.1 in
      let apart : n ≢ number = other job n own (job.number == number) refl kept.1 in
      let was : job_at t n ≡ Some job = sym (same n apart) ∙ at in
      there_mapped t (changed t (change.EndJob number slot drops)) (given_back number) given_node given_name refl job.source used.name (u.there n job used was by);
}
  where
    other : (job : JobRecord) (n : ℕ) → job.number ≡ n → (b : Bool) → (job.number == number) ≡ b → not b ≡ true → n ≢ number
    other job n own true e k = absurd (false≢true k)
    other job n own false e k = λ same. false≢true (sym e ∙ eq-eqb job.number number (own ∙ same))

    same : (n : ℕ) → n ≢ number → job_at (changed t (change.EndJob number slot drops)) n ≡ job_at t n
    same n differ =
        find-filter (λ (j : JobRecord). j.number == n) (λ (j : JobRecord). not (j.number == number))
        (λ j e. ap not (ne_eqb j.number number (λ is. differ (sym (eqb-true j.number n e) ∙ is)))) t.jobs

    given_node : (row : BitmapRow) → (given_back number row).node ≡ row.node
    given_node row = by_test (is_used_by number row.busy)
      where
        by_test : (b : Bool) → (cond b (record row { busy = None }) row).node ≡ row.node
        by_test true = refl
        by_test false = refl

    given_name : (row : BitmapRow) → (given_back number row).name ≡ row.name
    given_name row = by_test (is_used_by number row.busy)
      where
        by_test : (b : Bool) → (cond b (record row { busy = None }) row).name ≡ row.name
        by_test true = refl
        by_test false = refl

-- ---- asked, or ready

module _ (number : ℕ) (g : JobRecord → JobRecord) where
  if_number : (X : Type 0) (of : JobRecord → X) → ((job : JobRecord) → of (g job) ≡ of job) → (job : JobRecord) → of (cond (job.number == number) (g job) job) ≡ of job
  if_number X of same job = by_test (job.number == number)
    where
      by_test : (b : Bool) → of (cond b (g job) job) ≡ of job
      by_test true = same job
      by_test false = refl

asked_uses : (t : RunTable) (number : ℕ) (new : AskedEnd) → UsesStand t → UsesStand (changed t (change.AskJob number new))
unfolding changed
asked_uses t number new =
    mapped_uses t (changed t (change.AskJob number new)) (asked_for number new)
    (if_number number (λ job. record job { asked = followed job.asked new }) ℕ (λ (j : JobRecord). j.number) (λ j. refl))
    (if_number number (λ job. record job { asked = followed job.asked new }) ℕ (λ (j : JobRecord). j.source) (λ j. refl))
    (if_number number (λ job. record job { asked = followed job.asked new }) (Option UsedBitmap) (λ (j : JobRecord). j.bitmap) (λ j. refl)) refl refl

readied_uses : (t : RunTable) (number : ℕ) → UsesStand t → UsesStand (changed t (change.ReadyJob number))
unfolding changed
readied_uses t number =
    mapped_uses t (changed t (change.ReadyJob number)) (ready_for number)
    (if_number number (λ job. record job { is_ready = true }) ℕ (λ (j : JobRecord). j.number) (λ j. refl))
    (if_number number (λ job. record job { is_ready = true }) ℕ (λ (j : JobRecord). j.source) (λ j. refl))
    (if_number number (λ job. record job { is_ready = true }) (Option UsedBitmap) (λ (j : JobRecord). j.bitmap) (λ j. refl)) refl refl

-- ---- each kind of change

abbrev pub LeavesUses : RunTable → Change → Type 0
LeavesUses t (change.AddBitmap row) = (row.busy ≡ None) × (bitmap_at t row.node row.name ≡ None)
LeavesUses t (change.RemoveBitmap node name) = (row : BitmapRow) → bitmap_at t node name ≡ Some row → row.busy ≡ None
LeavesUses t (change.RemoveNode node) = IsNoSource t.jobs node
LeavesUses t (change.StartJob row) = MayUse t row
LeavesUses t c = Unit {0}

abbrev pub AllLeaveUses : RunTable → List Change → Type 0
AllLeaveUses t [] = Unit {0}
AllLeaveUses t (c ∷ changes) = LeavesUses t c × AllLeaveUses (changed t c) changes

change_uses : (t : RunTable) (c : Change) → LeavesUses t c → UsesStand t → UsesStand (changed t c)
unfolding changed
change_uses t (change.AddBitmap row) leaves u = added_uses t row leaves.0 leaves.1 u
change_uses t (change.RemoveBitmap node name) leaves u = removed_uses t node name leaves u
change_uses t (change.RemoveNode node) leaves u = gone_uses t node leaves u
change_uses t (change.TurnBitmap node name on) leaves u = turned_uses t node name on u
change_uses t (change.StartJob row) leaves u = begun_uses t row leaves u
change_uses t (change.EndJob number slot drops) leaves u = over_uses t number slot drops u
change_uses t (change.AskJob number new) leaves u = asked_uses t number new u
change_uses t (change.ReadyJob number) leaves u = readied_uses t number u
change_uses t c leaves u = record { busy = u.busy; there = u.there }

pub changes_use : (changes : List Change) (t : RunTable) → AllLeaveUses t changes → UsesStand t → UsesStand (all_changed t changes)
changes_use [] t leaves u = u
changes_use (c ∷ changes) t leaves u = changes_use changes (changed t c) leaves.1 (change_uses t c leaves.0 u)

pub uses-append : (a b : List Change) (t : RunTable) → AllLeaveUses t a → AllLeaveUses (all_changed t a) b → AllLeaveUses t (a ++ b)
uses-append [] b t h k = k
uses-append (c ∷ a) b t h k = (h.0, uses-append a b (changed t c) h.1 k)

-- at a table with the same jobs and bitmaps
pub uses_at : (t now : RunTable) → now.jobs ≡ t.jobs → now.bitmaps ≡ t.bitmaps → UsesStand t → UsesStand now
uses_at t now jobs rows u = record {
  busy = λ row there number.
      u.busy row (subst (λ rs. Contains rs row) rows there) number
      ∙ ap (λ (found : Option JobRecord). is_use_of found row) (sym (ap (find (λ (j : JobRecord). j.number == number)) jobs));
  there = λ number job used at by.
      subst (λ rs. IsSome (find (is_bitmap job.source used.name) rs)) (sym rows)
      (u.there number job used (sym (ap (find (λ (j : JobRecord). j.number == number)) jobs) ∙ at) by);
}
