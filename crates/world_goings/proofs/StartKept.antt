-- What is kept of jobs and bitmaps behind the start of a backup or a mirror.
use Rattle.std.proofs.Common.{◌≡◌, ◌≢◌, ◌⊎◌, length, ℕ, zero, suc, ◌+◌, ◌<◌, ◌≤◌, ◌^◌, Bool, cond, List, [], ◌∷◌, ◌++◌, map, refl, sym, ◌∙◌, ap, subst, arith, le_refl, Option, Some, None, inl, inr}
use Rattle.std.specs.Prelude.{AllPairs, Contains, option_and_then, slice_index_or}
use Rattle.std.proofs.lemmas.List.Kept.{AllPairs-cons}
use Rattle.blk_bitmaps.specs.declared.row.Bitmap.{Bitmap}
use Rattle.blk_graph.proofs.Members.{Contains-cases, Contains-here, Contains-nil, Contains-there, find-Some}
use Rattle.blk_graph.proofs.RoleLemmas.{head_pairs, tail_pairs}
use Rattle.block_jobs.specs.Work.{IsJobWork, JobWork, room_for}
use Rattle.qmp_rules.specs.Answers.{command_edits}
use Rattle.qmp_rules.specs.Changes.{all_changed, busy_by}
use Rattle.qmp_rules.specs.Edits.{edits_of}
use Rattle.qmp_rules.specs.Queries.{bytes_of_node}
use Rattle.qmp_rules.specs.Table.{RunTable, job_at, node_by_id}
use Rattle.qmp_rules.specs.declared.rows.JobRecord.{JobRecord}
use Rattle.qmp_rules.specs.declared.rows.UsedBitmap.{UsedBitmap}
use Rattle.qmp_rules.specs.declared.told.Told.{Told}
use Rattle.flat_machine.specs.Bitmaps.{AreBitmapsOf, dirty_in}
use Rattle.flat_machine.specs.InUse.{AreListed}
use Rattle.flat_machine.specs.Jobs.{aside_by, copied_to, dirty_at_start, granules_of, noted_start, started, target_file, target_written, unleft}
use Rattle.flat_machine.specs.Marking.{made_dirty, where_recording}
use Rattle.flat_machine.specs.State.{Dirty, State}
use Rattle.flat_machine.specs.Wiring.{TableAtRest, TableStands}
use Rattle.flat_machine.proofs.InUse.{all_dirtied, use_begins}
use Rattle.job_commands.specs.Begun.{CopyCmd, cmd_of, copy_job}
use Rattle.job_commands.specs.Bitmaps.{UsesStand}
use Rattle.job_commands.specs.Granules.{GranulesStand}
use Rattle.job_commands.proofs.BitmapCommands.{command_uses}
use Rattle.job_commands.proofs.Copies.{command_begins, command_found}
use Rattle.job_commands.proofs.GranuleSizes.{granule_fits}
use Rattle.job_ends.specs.Rows.{AreCopyRows}
use Rattle.job_ends.proofs.Commands.{command_rows}
use Rattle.job_progress.specs.Beginning.{begun_by, work_begun}
use Rattle.job_progress.specs.Belonging.{AreWorksOf, without_row}
use Rattle.job_progress.proofs.Belong.{IsBegun, begins_belong, begun_belongs}
use Rattle.job_tables.specs.Accepted.{IsMet, JobsAreDrawn}
use Rattle.job_tables.specs.Jobs.{JobsStand}
use Rattle.job_tables.specs.Copiers.{CopiesGo}
use Rattle.job_tables.proofs.RowEdges.{in_either}
use Rattle.world_parts.specs.Coherent.{AreJobsKept, IsLoneCopy, entries_owed, entries_owed_by}
use Rattle.world_parts.specs.Jobs.{bitmaps_begun, filled_for, frozen_for}
use Rattle.world_goings.proofs.CopyStarts.{IsNewCopy, begins_row, command_starts, copy_drawn, copy_goes, edits_start, new_copy, one_command}

-- ---- what is dirty of bitmaps

frozen_listed : (old : List _) (row : JobRecord) (by : Option UsedBitmap) (rows : List Bitmap) → AreBitmapsOf old rows
    → AreListed (busy_by row.number by row.source old) (frozen_for row by rows) × (map dirty_in (frozen_for row by rows) ≡ aside_by row.source by (map dirty_in rows))
frozen_listed old row None rows was = (record { listed = was.listed; single = was.single }, refl)
frozen_listed old row (Some used) rows was =
    let now = use_begins old rows row.source row.number used (record { listed = was.listed; single = was.single }) in
    (now.named, now.holds)

pub dirty_begun : (t u : RunTable) (row : JobRecord) (rows : List Bitmap) → AreBitmapsOf t.bitmaps rows → u.bitmaps ≡ busy_by row.number row.bitmap row.source t.bitmaps
    → (s : State) → s.table ≡ u → s.dirty ≡ map dirty_in rows → map dirty_in (bitmaps_begun row rows) ≡ dirty_at_start s row (target_written row)
dirty_begun t u row rows was are s table dirty = by_target (target_written row)
  where
    frozen : AreListed (busy_by row.number row.bitmap row.source t.bitmaps) (frozen_for row row.bitmap rows)
        × (map dirty_in (frozen_for row row.bitmap rows) ≡ aside_by row.source row.bitmap (map dirty_in rows))
    frozen = frozen_listed t.bitmaps row row.bitmap rows was

    aside : map dirty_in (frozen_for row row.bitmap rows) ≡ aside_by row.source row.bitmap s.dirty
    aside = frozen.1 ∙ ap (aside_by row.source row.bitmap) (sym dirty)

    listed : AreListed s.table.bitmaps (frozen_for row row.bitmap rows)
    listed = subst (λ (old : List _). AreListed old (frozen_for row row.bitmap rows)) (sym (ap (λ (x : RunTable). x.bitmaps) table ∙ are)) frozen.0

    by_target : (target : Option ℕ) → map dirty_in (filled_for target (frozen_for row row.bitmap rows)) ≡ dirty_at_start s row target
    by_target None = aside
    by_target (Some node) = (all_dirtied node s.table (frozen_for row row.bitmap rows) listed).holds ∙ ap (where_recording s.table node made_dirty) aside

-- a start changes the table in nothing, and notes what is dirty
unleft_same : (name : Option (List ℕ)) (s : State) → ((unleft name s).table ≡ s.table) × ((unleft name s).dirty ≡ s.dirty)
unleft_same None s = (refl, refl)
unleft_same (Some name) s = (refl, refl)

pub started_dirty : (s : State) (row : JobRecord) → (started s (Some row)).dirty ≡ dirty_at_start s row (target_written row)
started_dirty s row = (unleft_same (target_file s.table (option_and_then (node_by_id s.table) (copied_to row row.kind))) (noted_start s row)).1

-- ---- jobs

owed_pushed : (rows : List JobRecord) (row : JobRecord) → entries_owed_by (rows ++ row ∷ []) ≡ entries_owed_by rows + entries_owed row
owed_pushed [] row = omega arith
owed_pushed (x ∷ rows) row = let rest = owed_pushed rows row in omega (arith, rest)

-- one more row, of a number of its own
abbrev DifferInNumber : JobRecord → JobRecord → Type 0
DifferInNumber a b = a.number ≢ b.number

same_read : (xs : List JobRecord) (k : ℕ) (d : JobRecord) → k < length xs → slice_index_or xs k (slice_index_or xs k d) ≡ slice_index_or xs k d
same_read [] k d within = absurd (omega (arith, within))
same_read (x ∷ xs) zero d within = refl
same_read (x ∷ xs) (suc k) d within = same_read xs k d (omega (arith, within))

once_pushed : (rows : List JobRecord) (new : JobRecord) → AllPairs DifferInNumber rows → ((other : JobRecord) → Contains rows other → other.number ≢ new.number)
    → AllPairs DifferInNumber (rows ++ new ∷ [])
once_pushed [] new once apart = AllPairs-cons DifferInNumber new [] (λ k d within. absurd (omega (arith, within))) (λ i j d less within. absurd (omega (arith, within)))
once_pushed (x ∷ rows) new once apart =
    AllPairs-cons DifferInNumber x (rows ++ new ∷ [])
    (λ k d within. by_place (slice_index_or (rows ++ new ∷ []) k d) (in_either rows (new ∷ []) (slice_index_or (rows ++ new ∷ []) k d) (k, within, same_read (rows ++ new ∷ []) k d within)))
    (once_pushed rows new (tail_pairs DifferInNumber x rows once) (λ other there. apart other (Contains-there x rows other there)))
  where
    by_place : (y : JobRecord) → Contains rows y ⊎ Contains (new ∷ []) y → DifferInNumber x y
    by_place y (inl old) = head_pairs DifferInNumber x rows once y old
    by_place y (inr last) = elim (Contains-cases new [] y last) [
      | inl same ↦ subst (DifferInNumber x) (sym same) (apart x (Contains-here x rows))
      | inr none ↦ absurd (Contains-nil y none)
    ]

module _ (t u : RunTable) (told exp : Told) (c : CopyCmd) (works : List JobWork) (aside : ℕ) (was : AreJobsKept t works aside) (h : TableStands t) (drawn : JobsAreDrawn t)
    (met : IsMet t told (cmd_of c)) (table_is : u ≡ all_changed t (command_edits t exp (cmd_of c))) (jobs_are : u.jobs ≡ t.jobs ++ copy_job t c ∷ [])
    (size_is : bytes_of_node u (copy_job t c).source ≡ bytes_of_node t (copy_job t c).source)
    (small : bytes_of_node t (copy_job t c).source ≤ 2 ^ 47) where
  abbrev row : JobRecord
  row = copy_job t c

  new : IsNewCopy t (copy_job t c)
  new = new_copy t c

  same_changes : all_changed t (edits_of t told (cmd_of c)) ≡ u
  same_changes = ap (all_changed t) (edits_start t told c ∙ sym (command_starts t exp c)) ∙ sym table_is

  pub drawn_next : JobsAreDrawn u
  drawn_next = subst JobsAreDrawn same_changes (copy_drawn t told h drawn c met)

  pub found_next : job_at u (copy_job t c).number ≡ Some (copy_job t c)
  found_next =
      subst (λ (x : RunTable). job_at x row.number ≡ Some row) same_changes
      (command_found t told told (cmd_of c) row was.stand was.run met (begins_row t c))

  others_belong : (s : State) → s.table ≡ u → AreWorksOf (without_row row.number s.table) works
  others_belong s table =
      subst (λ (x : RunTable). AreWorksOf (without_row row.number x) works) (same_changes ∙ sym table)
      (command_begins t told told (cmd_of c) row works was.stand was.run was.belong met (begins_row t c))

  found_in : (s : State) → s.table ≡ u → job_at s.table row.number ≡ Some row
  found_in s table = ap (λ (x : RunTable). job_at x row.number) table ∙ found_next

  kept_of : TableAtRest t → (work : JobWork) → AreWorksOf u (works ++ work ∷ []) → AreJobsKept u (works ++ work ∷ []) (aside + 2)
  kept_of rest work belong = record {
    stand = drawn_next.jobs.stand;
    run = drawn_next.jobs.run;
    copies = subst CopiesGo same_changes (copy_goes t told h was.stand was.run drawn.edges c met was.copies);
    rows = subst (λ (x : RunTable). AreCopyRows x.jobs) (sym table_is) (command_rows t exp (cmd_of c) was.rows);
    once =
        subst (AllPairs DifferInNumber) (sym jobs_are)
        (once_pushed t.jobs row was.once (λ other there same. let less = was.run.numbers other there in let own = new.number in omega (arith, less, same, own)));
    uses = subst UsesStand same_changes (command_uses t told told (cmd_of c) rest was.stand was.run (one_command c) met was.uses);
    belong = belong;
    room =
        let owed = owed_pushed t.jobs row in
        let all : entries_owed_by u.jobs ≡ entries_owed_by (t.jobs ++ row ∷ []) = ap entries_owed_by jobs_are in
        let two : entries_owed row ≡ 2 = ap (λ (b : Bool). cond b 1 2) new.yet in
        let before = was.room in
        omega (arith, owed, all, two, before);
    lone = λ other there.
        elim (in_either t.jobs (row ∷ []) other (subst (λ (rows : List JobRecord). Contains rows other) jobs_are there)) [
          | inl old ↦ was.lone other old
          | inr last ↦ elim (Contains-cases row [] other last) [
            | inl same ↦ subst IsLoneCopy (sym same) (record { kind = new.kind; group = new.group })
            | inr none ↦ absurd (Contains-nil other none)
          ]
        ];
  }

  begun_is : (size : ℕ) (found : Option Dirty) → IsBegun row size (begun_by row size found)
  begun_is size None = record { job = refl; size_is = refl; room = le_refl (room_for row.kind size) }
  begun_is size (Some d) = record { job = refl; size_is = refl; room = le_refl (room_for row.kind size) }

  -- where its work is one
  pub kept_by : TableAtRest t → (s : State) → s.table ≡ u → IsJobWork (work_begun s (copy_job t c))
      → AreJobsKept u (works ++ work_begun s (copy_job t c) ∷ []) (aside + 2)
  kept_by rest s table sound =
      kept_of rest (work_begun s row)
      (subst (λ (x : RunTable). AreWorksOf x (works ++ work_begun s row ∷ [])) table
      (begun_belongs s.table row works (work_begun s row) (subst JobsStand (sym table) drawn_next.jobs.stand) (found_in s table) (others_belong s table)
      (begun_is (bytes_of_node s.table row.source) (granules_of s row row.bitmap)) sound))

  pub kept_next : TableAtRest t → (s : State) → s.table ≡ u → GranulesStand t s.dirty → AreJobsKept u (works ++ work_begun s (copy_job t c) ∷ []) (aside + 2)
  kept_next rest s table granules =
      kept_of rest (work_begun s row)
      (subst (λ (x : RunTable). AreWorksOf x (works ++ work_begun s row ∷ [])) table
      (begins_belong s row works (subst JobsStand (sym table) drawn_next.jobs.stand) (found_in s table) (others_belong s table)
      (subst (λ n. n ≤ 2 ^ 47) (sym (ap (λ (x : RunTable). bytes_of_node x row.source) table ∙ size_is)) small)
      (granular s granules row.bitmap)))
    where
      granular : (s : State) → GranulesStand t s.dirty → (by : Option UsedBitmap) → (d : Dirty) → granules_of s row by ≡ Some d → 0 < d.granularity
      granular s granules None d bad = absurd (let no : ⊥ = cc bad in no)
      granular s granules (Some used) d is = (granule_fits d.granularity (granules d (find-Some _ s.dirty d is).0).bytes).some
