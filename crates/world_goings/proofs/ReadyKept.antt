-- The parts of a world behind the entry that a job is ready: its row says so, and one entry less is owed for it.
use Rattle.std.proofs.Common.{◌≡◌, ◌≢◌, ℕ, ◌+◌, ◌-◌, ◌==◌, Bool, true, false, cond, List, [], ◌∷◌, map, Option, refl, sym, ◌∙◌, ap, subst, arith, inl, inr}
use Rattle.std.specs.Prelude.{AllPairs, Contains}
use Rattle.std.proofs.lemmas.Bool.{eq-eqb, ne_eqb}
use Rattle.blk_base.specs.declared.file.Opened.{Opened}
use Rattle.blk_bitmaps.specs.declared.row.Bitmap.{Bitmap}
use Rattle.blk_graph.proofs.Members.{Contains-cases, Contains-here, Contains-map, Contains-nil, Contains-there}
use Rattle.blk_graph.proofs.RoleLemmas.{head_pairs, map_pairs, tail_pairs}
use Rattle.blk_nodes.specs.Nodes.{Nodes}
use Rattle.block_jobs.specs.Work.{JobWork}
use Rattle.qmp_rules.specs.Changes.{changed, ready_for}
use Rattle.qmp_rules.specs.Table.{RunTable}
use Rattle.qmp_rules.specs.declared.change.Change.TheVariants.{ReadyJob}
use Rattle.qmp_rules.specs.declared.rows.JobRecord.{JobRecord}
use Rattle.flat_machine.specs.Bitmaps.{AreBitmapsOf}
use Rattle.flat_machine.specs.Jobs.{readied, readied_by}
use Rattle.flat_machine.specs.Wiring.{InlineAreUnder, TableAtRest}
use Rattle.flat_machine.proofs.Resting.{stepped_table}
use Rattle.flat_machine.proofs.TableRests.{all_keep}
use Rattle.job_commands.proofs.Uses.{changes_use}
use Rattle.job_ends.proofs.Others.{at_number}
use Rattle.job_ends.proofs.Rows.{leaving_rows}
use Rattle.job_progress.proofs.Belong.{changes_belong}
use Rattle.job_tables.specs.Copiers.{CopiesGo}
use Rattle.job_tables.proofs.Asked.{ready_jobs}
use Rattle.job_tables.proofs.Copiers.{readied_copies}
use Rattle.job_tables.proofs.Runs.{ready_run}
use Rattle.world_parts.specs.Coherent.{AreJobsKept, IsCoherent, IsLoneCopy, entries_owed, entries_owed_by}
use Rattle.world_parts.specs.Progress.{Progress}
use Rattle.world_parts.specs.Tabling.{tabled}
use Rattle.world_parts.proofs.Coherence.{coherent-same}
use Rattle.world_parts.proofs.SameWiring.{KeepsWiring, coherent-shape}

-- ---- rows of jobs

ready_number : (number : ℕ) (row : JobRecord) → (ready_for number row).number ≡ row.number
ready_number number row = by_test (row.number == number)
  where
    by_test : (b : Bool) → (cond b (record row { is_ready = true }) row).number ≡ row.number
    by_test true = refl
    by_test false = refl

ready_lone : (number : ℕ) (row : JobRecord) → IsLoneCopy row → IsLoneCopy (ready_for number row)
ready_lone number row is = by_test (row.number == number)
  where
    by_test : (b : Bool) → IsLoneCopy (cond b (record row { is_ready = true }) row)
    by_test true = record { kind = is.kind; group = is.group }
    by_test false = is

abbrev Differ : JobRecord → JobRecord → Type 0
Differ a b = a.number ≢ b.number

-- a job of another number owes what it did
owed_other : (number : ℕ) (jobs : List JobRecord) → ((row : JobRecord) → Contains jobs row → row.number ≢ number)
    → entries_owed_by (map (ready_for number) jobs) ≡ entries_owed_by jobs
owed_other number [] others = refl
owed_other number (x ∷ jobs) others =
    let head : entries_owed (ready_for number x) ≡ entries_owed x =
    ap (λ b. entries_owed (cond b (record x { is_ready = true }) x)) (ne_eqb x.number number (others x (Contains-here x jobs))) in
    let rest = owed_other number jobs (λ row there. others row (Contains-there x jobs row there)) in
    omega (arith, head, rest)

-- and that of the number one entry less
owed_ready : (jobs : List JobRecord) (row : JobRecord) → AllPairs Differ jobs → Contains jobs row → row.is_ready ≡ false
    → entries_owed_by (map (ready_for row.number) jobs) + 1 ≡ entries_owed_by jobs
owed_ready [] row once there yet = absurd (Contains-nil row there)
owed_ready (x ∷ jobs) row once there yet = elim (Contains-cases x jobs row there) [
  | inl same ↦
      let one : entries_owed (ready_for row.number x) ≡ 1 =
      ap (λ b. entries_owed (cond b (record x { is_ready = true }) x)) (eq-eqb x.number row.number (ap (λ (r : JobRecord). r.number) (sym same))) in
      let was : entries_owed x ≡ 2 = ap (λ b. cond b 1 2) (ap (λ (r : JobRecord). r.is_ready) (sym same) ∙ yet) in
      let rest =
      owed_other row.number jobs (λ y later equal. head_pairs Differ x jobs once y later (ap (λ (r : JobRecord). r.number) (sym same) ∙ sym equal)) in
      omega (arith, one, was, rest)
  | inr later ↦
      let head : entries_owed (ready_for row.number x) ≡ entries_owed x =
      ap (λ b. entries_owed (cond b (record x { is_ready = true }) x)) (ne_eqb x.number row.number (head_pairs Differ x jobs once row later)) in
      let rest = owed_ready jobs row (tail_pairs Differ x jobs once) later yet in
      omega (arith, head, rest)
]

-- ---- the table

module _ (t : RunTable) (number : ℕ) where
  abbrev now : RunTable
  now = changed t (ReadyJob number)

  pub jobs_then : now.jobs ≡ map (ready_for number) t.jobs
  unfolding changed
  jobs_then = refl

  pub ready_bitmaps : (rows : List Bitmap) → AreBitmapsOf t.bitmaps rows → AreBitmapsOf now.bitmaps rows
  unfolding changed
  ready_bitmaps rows was = was

  same_wiring : KeepsWiring t now
  unfolding changed
  same_wiring = record { nodes = refl; edges = refl; devices = refl; guests = refl }

  rests_inline : InlineAreUnder t → InlineAreUnder now
  unfolding changed
  rests_inline inline later above there made =
      let i = inline later above there made in
      record { file = i.file; edge = i.edge; there = i.there; parent = i.parent; role = i.role; child = i.child; format = i.format; named = i.named }

  rests : TableAtRest t → TableAtRest now
  rests was = record { stands = all_keep (ReadyJob number ∷ []) t (tt, tt) was.stands; inline = rests_inline was.inline }

  pub ready_coherent : (nodes : Nodes) (opened : List Opened) (p q : Progress) → q.guests ≡ p.guests → IsCoherent t nodes opened p → IsCoherent now nodes opened q
  ready_coherent nodes opened p q guests was =
      coherent-same now nodes opened p (coherent-shape t now same_wiring nodes opened p rests was) q guests

pub ready_kept : (t : RunTable) (works : List JobWork) (aside : ℕ) (row : JobRecord) → AreJobsKept t works aside → Contains t.jobs row → row.is_ready ≡ false
    → AreJobsKept (changed t (ReadyJob row.number)) works (aside - 1)
ready_kept t works aside row was here yet = record {
  stand = ready_jobs t row.number was.stand;
  run = ready_run t row.number was.run;
  copies = subst CopiesGo behind (readied_copies (tabled t []) row.number was.copies);
  rows = leaving_rows (ReadyJob row.number ∷ []) t (tt, tt) was.rows;
  once =
      subst (AllPairs Differ) (sym (jobs_then t row.number))
      (map_pairs Differ (ready_for row.number) t.jobs
      (λ a b at_a at_b apart same. apart (sym (ready_number row.number a) ∙ same ∙ ready_number row.number b)) was.once);
  uses = changes_use (ReadyJob row.number ∷ []) t (tt, tt) was.uses;
  belong = changes_belong (ReadyJob row.number ∷ []) t works was.stand (tt, tt) (tt, tt) was.belong;
  room =
      let owed = owed_ready t.jobs row was.once here yet in
      let now_owed = ap entries_owed_by (jobs_then t row.number) in
      let room = was.room in
      omega (arith, owed, now_owed, room);
  lone = λ later there.
      let of = Contains-map (ready_for row.number) t.jobs later (subst (λ rows. Contains rows later) (jobs_then t row.number) there) in
      subst IsLoneCopy (sym of.2) (ready_lone row.number of.0 (was.lone of.0 of.1));
}
  where
    behind : (readied row.number (tabled t [])).table ≡ changed t (ReadyJob row.number)
    behind = ap (λ (found : Option JobRecord). (readied_by (tabled t []) found).table) (at_number t was.stand row here) ∙ stepped_table (ReadyJob row.number ∷ []) (tabled t [])
