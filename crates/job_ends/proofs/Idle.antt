-- Once a call failed for a job nothing is left of its work, whatever is done then.
use Rattle.std.proofs.Common.{◌≡◌, ◌⊎◌, ℕ, zero, suc, ◌*◌, ◌<◌, Bool, true, false, cond, List, [], ◌∷◌, ◌++◌, length, replicate, refl, sym, ◌∙◌, ap, subst, inl, inr, Option, Some, None, Result, Ok, Err}
use Rattle.std.specs.Prelude.{◌==◌, ◌&&◌, not, is_some}
use Rattle.std.specs.List.{Contains, list_any}
use Rattle.std.proofs.lemmas.Bool.{false≢true}
use Rattle.blk_base.specs.Pieces.{Extent}
use Rattle.blk_base.specs.declared.fault.Fault.{Fault}
use Rattle.blk_base.specs.declared.fault.Outcome.{Outcome}
use Rattle.blk_bits.specs.Granules.{contains, those_below}
use Rattle.blk_bits.proofs.GranuleLemmas.{contains-those_below}
use Rattle.blk_copy.specs.Rows.{without_row}
use Rattle.blk_copy.specs.declared.transfers.Transfer.{Transfer}
use Rattle.blk_graph.proofs.Members.{Contains-cases, Contains-here, Contains-nil, Contains-there}
use Rattle.blk_nodes.specs.Nodes.{Nodes}
use Rattle.block_jobs.specs.Work.{JobWork, after_copy, after_settle, after_take, block_count, failed_by, has_left, has_open, is_next, left_again, next_block, parts_a_block, without_block, without_transfer}
use Rattle.block_jobs.proofs.PartLemmas.{any_none, find_found, has_at, has_no, length-those_below, member_below}
use Rattle.flat_machine.specs.Jobs.{granules_of}
use Rattle.flat_machine.specs.Machine.{is_noted}
use Rattle.flat_machine.specs.State.{Dirty, State}
use Rattle.job_copies.specs.Guarding.{Guards, after_guard}
use Rattle.job_copies.specs.Passing.{PassesBlock, PassesNext}
use Rattle.job_copies.specs.Settling.{Settles, after_write}
use Rattle.job_copies.specs.Taking.{Takes}
use Rattle.job_progress.specs.Beginning.{begun_by, work_begun}
use Rattle.job_progress.specs.Piecing.{marked_by, marked_for, marked_if, follower_of}
use Rattle.job_tables.proofs.RowEdges.{in_either}
use Rattle.job_works.specs.Steps.{Guarded, Settled, Taken}
use Rattle.job_works.specs.Works.{ChangesWork, marked_again, with_changed, with_work, without_work, work_of}
use Rattle.job_progress.proofs.Belong.{found_there}
use Rattle.node_copies.specs.Putting.{answer_of}
use Rattle.qmp_codec.specs.declared.event.JobKind.{JobKind}
use Rattle.qmp_codec.specs.declared.event.JobKind.TheVariants.{Stream, Commit, Mirror, Backup}
use Rattle.qmp_rules.specs.declared.rows.JobRecord.{JobRecord}
use Rattle.qmp_rules.specs.Queries.{bytes_of_node}
use Rattle.qmp_rules.specs.Table.{RunTable}
use Rattle.trace_codec.specs.declared.op.Op.{Op}
use Rattle.trace_codec.specs.declared.op.Op.TheVariants.{Write, Zero}
use Rattle.job_ends.specs.Ended.{OwesNothing}
use Rattle.job_ends.specs.Idle.{AllMetAreIdle, MetIsIdle}

-- ---- parts

none_at : (set : List Bool) → list_any (λ part. part) set ≡ false → (k : ℕ) → contains set k ≡ false
none_at set none k = by_test (contains set k) refl
  where
    by_test : (b : Bool) → contains set k ≡ b → contains set k ≡ false
    by_test true e = absurd (false≢true (sym none ∙ has_at set k e))
    by_test false e = e

none_left : (set : List Bool) (n : ℕ) (test : ℕ → Bool) → list_any (λ part. part) set ≡ false
    → list_any (λ part. part) (those_below n (λ k. contains set k && test k)) ≡ false
none_left set n test none = has_no fewer (λ k from. by_test k (contains fewer k) refl)
  where
    fewer : List Bool
    fewer = those_below n (λ k. contains set k && test k)

    by_test : (k : ℕ) (b : Bool) → contains fewer k ≡ b → contains fewer k ≡ false
    by_test k false e = e
    by_test k true e =
        let within : k < n = subst (λ m. k < m) (length-those_below n (λ x. contains set x && test x)) (member_below fewer k e) in
        let is : contains fewer k ≡ (contains set k && test k) = contains-those_below n (λ x. contains set x && test x) k within in
        let no : (contains set k && test k) ≡ false = ap (λ b. b && test k) (none_at set none k) in
        is ∙ no

none_false : (n : ℕ) → list_any (λ part. part) (replicate n false) ≡ false
none_false zero = refl
none_false (suc n) = none_false n

-- ---- works of which nothing is left

block_idle : (block : ℕ) (work : JobWork) → OwesNothing work → OwesNothing (without_block block work)
block_idle block work h = record { left = none_left work.left (length work.left) _ h.left; rows = h.rows }

row_idle : (block : ℕ) (work : JobWork) → OwesNothing work → OwesNothing (without_transfer block work)
row_idle block work h = record { left = h.left; rows = ap (without_row work.job block) h.rows }

-- there is no next block
none_next : (work : JobWork) (block : ℕ) → OwesNothing work → next_block work ≡ Some block → ⊥
none_next work block h next =
    let found = find_found (is_next work) 0 (block_count work.size) block next in
    let none : has_left work block ≡ false =
    any_none (contains work.left) (block * parts_a_block work) (parts_a_block work) (λ k from to. none_at work.left h.left k) in
    false≢true (sym (ap (λ b. b && not (has_open work block)) none) ∙ found.1)

-- ---- each step

pub copied_idle : (block : ℕ) (work : JobWork) → MetIsIdle work → MetIsIdle (after_copy block work)
copied_idle block work h met = row_idle block (without_block block work) (block_idle block work (h met))

pub settled_idle : (kind : JobKind) (block : ℕ) (work : JobWork) → MetIsIdle work → MetIsIdle (after_settle kind block work)
settled_idle Mirror block work h = λ met. row_idle block work (h met)
settled_idle Stream block work h = copied_idle block work h
settled_idle Commit block work h = copied_idle block work h
settled_idle Backup block work h = copied_idle block work h

pub taken_idle : (kind : JobKind) (t : Transfer) (work : JobWork) → next_block work ≡ Some t.cluster → MetIsIdle work → MetIsIdle (after_take kind t work)
taken_idle kind t work next h = by_kind kind
  where
    by_kind : (k : JobKind) → MetIsIdle (after_take k t work)
    by_kind Mirror met = absurd (none_next work t.cluster (h met) next)
    by_kind Stream met = absurd (none_next work t.cluster (h met) next)
    by_kind Commit met = absurd (none_next work t.cluster (h met) next)
    by_kind Backup met = absurd (none_next work t.cluster (h met) next)

pub failed_idle : (fault : Fault) (work : JobWork) → MetIsIdle (failed_by fault work)
failed_idle fault work met = record { left = none_false (length work.left); rows = refl }

pub marked_idle : (span : Extent) (work : JobWork) → MetIsIdle work → MetIsIdle (left_again span work)
marked_idle span work h = by_test (is_some work.met) _ refl
  where
    by_test : (b : Bool) (more : List Bool) → is_some work.met ≡ b → MetIsIdle (cond b work (record work { left = more }))
    by_test true more e = h
    by_test false more e = λ met. absurd (false≢true (sym e ∙ met))

pub begun_idle : (s : State) (row : JobRecord) → MetIsIdle (work_begun s row)
begun_idle s row = by_bitmap (granules_of s row row.bitmap)
  where
    by_bitmap : (found : Option Dirty) → MetIsIdle (begun_by row (bytes_of_node s.table row.source) found)
    by_bitmap None met = absurd (false≢true met)
    by_bitmap (Some d) met = absurd (false≢true met)

-- ---- among others

changed_there : (job : ℕ) (f : JobWork → JobWork) (works : List JobWork) (x : JobWork) → Contains (with_changed job f works) x
    → Contains works x ⊎ ((was : JobWork) × Contains works was × (x ≡ f was))
changed_there job f [] x there = inl there
changed_there job f (work ∷ works) x there = by_test (work.job == job) there (changed_there job f works x)
  where
    later : Contains works x ⊎ ((was : JobWork) × Contains works was × (x ≡ f was))
        → Contains (work ∷ works) x ⊎ ((was : JobWork) × Contains (work ∷ works) was × (x ≡ f was))
    later (inl old) = inl (Contains-there work works x old)
    later (inr new) = inr (new.0, Contains-there work works new.0 new.1, new.2)

    by_test : (b : Bool) → Contains (cond b (f work ∷ works) (work ∷ with_changed job f works)) x
        → (Contains (with_changed job f works) x → Contains works x ⊎ ((was : JobWork) × Contains works was × (x ≡ f was)))
        → Contains (work ∷ works) x ⊎ ((was : JobWork) × Contains (work ∷ works) was × (x ≡ f was))
    by_test true at more = elim (Contains-cases (f work) works x at) [
      | inl same ↦ inr (work, Contains-here work works, same)
      | inr old ↦ inl (Contains-there work works x old)
    ]
    by_test false at more = elim (Contains-cases work (with_changed job f works) x at) [
      | inl same ↦ inl (subst (Contains (work ∷ works)) (sym same) (Contains-here work works))
      | inr rest ↦ later (more rest)
    ]

all_changed_idle : (job : ℕ) (f : JobWork → JobWork) (works : List JobWork) → ((was : JobWork) → Contains works was → MetIsIdle (f was)) → AllMetAreIdle works
    → AllMetAreIdle (with_changed job f works)
all_changed_idle job f works new h x there = elim (changed_there job f works x there) [
  | inl old ↦ h x old
  | inr made ↦ subst MetIsIdle (sym made.2) (new made.0 made.1)
]

pub all_marked_idle : (job : ℕ) (span : Extent) (works : List JobWork) → AllMetAreIdle works → AllMetAreIdle (marked_again job span works)
all_marked_idle job span works h = all_changed_idle job (left_again span) works (λ was there. marked_idle span was (h was there)) h

for_idle : (row : Option JobRecord) (part : Extent) (works : List JobWork) → AllMetAreIdle works → AllMetAreIdle (marked_for row part works)
for_idle None part works h = h
for_idle (Some row) part works h = all_marked_idle row.number part works h

if_idle : (so : Bool) (t : RunTable) (node : ℕ) (part : Extent) (works : List JobWork) → AllMetAreIdle works → AllMetAreIdle (marked_if so t node part works)
if_idle true t node part works h = for_idle (follower_of t node) part works h
if_idle false t node part works h = h

pub pieces_idle : (op : Op) (outcome : Outcome) (t : RunTable) (node : ℕ) (part : Extent) (works : List JobWork) → AllMetAreIdle works
    → AllMetAreIdle (marked_by op outcome t node part works)
pieces_idle (Write span payload) outcome t node part works h = if_idle (is_noted outcome) t node part works h
pieces_idle (Zero span) outcome t node part works h = if_idle (is_noted outcome) t node part works h
pieces_idle op outcome t node part works h = h

pub put_idle : (works : List JobWork) (new : JobWork) → MetIsIdle new → AllMetAreIdle works → AllMetAreIdle (works ++ new ∷ [])
put_idle works new own h x there = elim (in_either works (new ∷ []) x there) [
  | inl old ↦ h x old
  | inr last ↦ elim (Contains-cases new [] x last) [
    | inl same ↦ subst MetIsIdle (sym same) own
    | inr more ↦ absurd (Contains-nil x more)
  ]
]

gone_was : (job : ℕ) (works : List JobWork) (x : JobWork) → Contains (without_work job works) x → Contains works x
gone_was job [] x there = there
gone_was job (work ∷ works) x there = by_test (work.job == job) there (gone_was job works x)
  where
    by_test : (b : Bool) → Contains (cond b works (work ∷ without_work job works)) x → (Contains (without_work job works) x → Contains works x)
        → Contains (work ∷ works) x
    by_test true at more = Contains-there work works x at
    by_test false at more = elim (Contains-cases work (without_work job works) x at) [
      | inl same ↦ subst (Contains (work ∷ works)) (sym same) (Contains-here work works)
      | inr rest ↦ Contains-there work works x (more rest)
    ]

pub gone_idle : (job : ℕ) (works : List JobWork) → AllMetAreIdle works → AllMetAreIdle (without_work job works)
gone_idle job works h x there = h x (gone_was job works x there)

-- ---- the calls

becomes_idle : (was now next : JobWork) → now ≡ next → (MetIsIdle was → MetIsIdle next) → MetIsIdle was → MetIsIdle now
becomes_idle was now next is step h = subst MetIsIdle (sym is) (step h)

answered_idle : (result : Result (Unit {0}) Fault) (block : ℕ) (was : JobWork) → MetIsIdle was → MetIsIdle (after_guard result block was)
answered_idle (Ok done) block was h = copied_idle block was h
answered_idle (Err fault) block was h = failed_idle fault was

wrote_idle : (result : Result (Unit {0}) Fault) (kind : JobKind) (block : ℕ) (was : JobWork) → MetIsIdle was → MetIsIdle (after_write result kind block was)
wrote_idle (Ok done) kind block was h = settled_idle kind block was h
wrote_idle (Err fault) kind block was h = failed_idle fault was

guards_idle : (old new : Nodes) (was now : JobWork) (source target block : ℕ) → Guards old new was now source target block → MetIsIdle was → MetIsIdle now
guards_idle old new was now source target block (inl none) h = subst MetIsIdle (sym none.2) h
guards_idle old new was now source target block (inr c) h = becomes_idle was now (after_guard c.result block was) c.work (answered_idle c.result block was) h

settles_idle : (kind : JobKind) (old new : Nodes) (was now : JobWork) (target : ℕ) (t : Transfer) (bytes : List ℕ) (answer : Bool)
    → Settles kind old new was now target t bytes answer → MetIsIdle was → MetIsIdle now
settles_idle kind old new was now target t bytes true w h =
    becomes_idle was now (after_write (answer_of w.wrote) kind t.cluster was) w.work (wrote_idle (answer_of w.wrote) kind t.cluster was) h
settles_idle kind old new was now target t bytes false none h = subst MetIsIdle (sym none.2) h

takes_idle : (kind : JobKind) (old new : Nodes) (was now : JobWork) (source position : ℕ) (buffer : List ℕ) (answer : Result (Option Transfer) Fault)
    → Takes kind old new was now source position buffer answer → MetIsIdle was → MetIsIdle now
takes_idle kind old new was now source position buffer (Ok None) none h = subst MetIsIdle (sym none.2) h
takes_idle kind old new was now source position buffer (Ok (Some t)) took h =
    becomes_idle was now (after_take kind t was) took.work (taken_idle kind t was took.next) h
takes_idle kind old new was now source position buffer (Err fault) failed h =
    becomes_idle was now (failed_by fault was) failed.work (λ before. failed_idle fault was) h

passes_block : (must : Bool) (old new : Nodes) (was now : JobWork) (top to block : ℕ) → PassesBlock must old new was now top to block → MetIsIdle was
    → MetIsIdle now
passes_block true old new was now top to block c h = becomes_idle was now (after_guard c.result block was) c.work (answered_idle c.result block was) h
passes_block false old new was now top to block c h = becomes_idle was now (after_copy block was) c.1 (copied_idle block was) h

pub passes_idle : (must : ℕ → Bool) (old new : Nodes) (was now : JobWork) (top to : ℕ) (answer : Bool) → PassesNext must old new was now top to answer
    → MetIsIdle was → MetIsIdle now
passes_idle must old new was now top to true p h = passes_block (must (p.0 * 65536)) old new was now top to p.0 p.2 h
passes_idle must old new was now top to false p h = subst MetIsIdle (sym p.2) h

-- of the work of one job
one_idle : (job : ℕ) (works after : List JobWork) (was now : JobWork) → work_of works job ≡ Some was → after ≡ with_work now works → (MetIsIdle was → MetIsIdle now)
    → AllMetAreIdle works → AllMetAreIdle after
one_idle job works after was now at kept step h =
    subst AllMetAreIdle (sym kept) (all_changed_idle now.job (λ work. now) works (λ x there. step (h was (found_there works job was at))) h)

pub guarded_idle : (job source target block : ℕ) (old new : Nodes) (works after : List JobWork)
    → ChangesWork job (Guarded old new source target block) works after → AllMetAreIdle works → AllMetAreIdle after
guarded_idle job source target block old new works after c =
    one_idle job works after c.was c.now c.there c.kept (guards_idle old new c.was c.now source target block c.done.guards)

pub took_idle : (job source position : ℕ) (kind : JobKind) (old new : Nodes) (buffer : List ℕ) (answer : Result (Option Transfer) Fault) (works after : List JobWork)
    → ChangesWork job (Taken kind old new source position buffer answer) works after → AllMetAreIdle works → AllMetAreIdle after
took_idle job source position kind old new buffer answer works after c =
    one_idle job works after c.was c.now c.there c.kept (takes_idle kind old new c.was c.now source position buffer answer c.done.takes)

pub settle_idle : (job target : ℕ) (kind : JobKind) (old new : Nodes) (t : Transfer) (bytes : List ℕ) (answer : Bool) (works after : List JobWork)
    → ChangesWork job (Settled kind old new target t bytes answer) works after → AllMetAreIdle works → AllMetAreIdle after
settle_idle job target kind old new t bytes answer works after c =
    one_idle job works after c.was c.now c.there c.kept (settles_idle kind old new c.was c.now target t bytes answer c.done.settles)
