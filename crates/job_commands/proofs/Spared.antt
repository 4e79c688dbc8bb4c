-- Changes by which no job begins, ends or is asked anything, and no node of a job comes, goes or gets another disk.
use Rattle.std.proofs.Common.{◌≡◌, ℕ, List, [], ◌∷◌, ◌++◌, refl, ◌∙◌, subst, None}
use Rattle.std.specs.Prelude.{IsSome}
use Rattle.std.specs.List.{Contains}
use Rattle.block_jobs.specs.Work.{JobWork}
use Rattle.qmp_rules.specs.declared.change.Change.{Change}
use Rattle.qmp_rules.specs.declared.change.Change.TheVariants as change
use Rattle.qmp_rules.specs.declared.rows.NodeRecord.{NodeRecord}
use Rattle.qmp_rules.specs.Answers.{told_none}
use Rattle.qmp_rules.specs.Changes.{changed, all_changed}
use Rattle.qmp_rules.specs.Table.{RunTable, node_by_id}
use Rattle.flat_machine.specs.Suiting.{IsAlone}
use Rattle.flat_machine.specs.Wiring.{TableStands}
use Rattle.flat_machine.proofs.TableSuited.{file-own}
use Rattle.job_tables.specs.Changes.{IsNoJobs}
use Rattle.job_tables.specs.Jobs.{JobsStand}
use Rattle.job_tables.proofs.Changes.{there_node, there_filter, entered}
use Rattle.job_tables.proofs.Nobodys.{own_no_filter}
use Rattle.job_progress.specs.Leaving.{LeavesCopies, AllLeaveCopies, LeavesRows, AllLeaveRows}

-- ---- nodes that no job has

-- one that isn't there yet
pub absent_no_jobs : (t : RunTable) → JobsStand t → (node : ℕ) → node_by_id t node ≡ None → IsNoJobs t node
absent_no_jobs t j node none = record {
  held = λ row here has. let bad = subst IsSome none (there_node t j row node here has) in cc;
  filter = λ row here is. let bad = subst IsSome none (there_filter t j row node here is) in cc;
}

-- a `file` node without parents
pub lone_file_no_jobs : (t : RunTable) → TableStands t → JobsStand t → (row : NodeRecord) → Contains t.nodes row → IsSome row.filename → IsAlone t row.id → IsNoJobs t row.id
lone_file_no_jobs t h j row there named alone = record {
  held = λ job here has. let e = entered t h job (j.each job here) row.id has row (h.apart row there) named in alone e.0 e.1 e.2;
  filter = own_no_filter t h j row there (file-own t told_none h row there named);
}

-- so it is at a table with the same jobs
pub no_jobs_at : (t now : RunTable) → now.jobs ≡ t.jobs → (node : ℕ) → IsNoJobs t node → IsNoJobs now node
no_jobs_at t now jobs node free = record {
  held = λ row here. free.held row (subst (λ rows. Contains rows row) jobs here);
  filter = λ row here. free.filter row (subst (λ rows. Contains rows row) jobs here);
}

-- ---- changes beside jobs, by which no bitmap comes or goes but with its node

abbrev pub SparesJobs : RunTable → Change → Type 0
SparesJobs t (change.FormatFile node name size backing_file backing_fmt) = IsNoJobs t node
SparesJobs t (change.AddFile row) = IsNoJobs t row.id
SparesJobs t (change.AddFormat row file backing) = IsNoJobs t row.id
SparesJobs t (change.AddFilter row child) = IsNoJobs t row.id
SparesJobs t (change.RemoveNode node) = IsNoJobs t node
SparesJobs t (change.PutFilter row node) = IsNoJobs t row.id
SparesJobs t (change.Attach overlay node) = IsNoJobs t overlay
SparesJobs t (change.SpoilFile name) = ⊥
SparesJobs t (change.StartJob row) = ⊥
SparesJobs t (change.AskJob number new) = ⊥
SparesJobs t (change.ReadyJob number) = ⊥
SparesJobs t (change.EndJob number slot drops) = ⊥
SparesJobs t (change.PullFilter filter) = ⊥
SparesJobs t (change.Rebase node backing) = ⊥
SparesJobs t (change.Settle node disk) = ⊥
SparesJobs t (change.AddBitmap row) = ⊥
SparesJobs t (change.RemoveBitmap node name) = ⊥
SparesJobs t c = Unit {0}

-- by the jobs as they were, which stay
abbrev pub AllSpareJobs : RunTable → List Change → Type 0
AllSpareJobs t [] = Unit {0}
AllSpareJobs t (c ∷ changes) = SparesJobs t c × AllSpareJobs t changes

pub spare_jobs-append : (t : RunTable) (a b : List Change) → AllSpareJobs t a → AllSpareJobs t b → AllSpareJobs t (a ++ b)
spare_jobs-append t [] b h k = k
spare_jobs-append t (c ∷ a) b h k = (h.0, spare_jobs-append t a b h.1 k)

-- ---- what they leave

pub sparing_keeps_jobs : (t now : RunTable) (c : Change) → SparesJobs t c → (changed now c).jobs ≡ now.jobs
unfolding changed
sparing_keeps_jobs t now (change.StartJob row) s = absurd s
sparing_keeps_jobs t now (change.AskJob number new) s = absurd s
sparing_keeps_jobs t now (change.ReadyJob number) s = absurd s
sparing_keeps_jobs t now (change.EndJob number slot drops) s = absurd s
sparing_keeps_jobs t now c s = refl

pub all_sparing_keep_jobs : (t : RunTable) (changes : List Change) (now : RunTable) → AllSpareJobs t changes → (all_changed now changes).jobs ≡ now.jobs
all_sparing_keep_jobs t [] now s = refl
all_sparing_keep_jobs t (c ∷ changes) now s = all_sparing_keep_jobs t changes (changed now c) s.1 ∙ sparing_keeps_jobs t now c s.0

spared_rows : (t : RunTable) (c : Change) → SparesJobs t c → LeavesRows c
spared_rows t (change.StartJob row) s = absurd s
spared_rows t (change.EndJob number slot drops) s = absurd s
spared_rows t c s = tt

pub all_spared_rows : (t : RunTable) (changes : List Change) → AllSpareJobs t changes → AllLeaveRows changes
all_spared_rows t [] s = tt
all_spared_rows t (c ∷ changes) s = (spared_rows t c s.0, all_spared_rows t changes s.1)

spared_copies : (works : List JobWork) (t now : RunTable) (c : Change) → now.jobs ≡ t.jobs → SparesJobs t c → LeavesCopies works now c
spared_copies works t now (change.FormatFile node name size backing_file backing_fmt) same s = no_jobs_at t now same node s
spared_copies works t now (change.AddFile row) same s = no_jobs_at t now same row.id s
spared_copies works t now (change.AddFormat row file backing) same s = no_jobs_at t now same row.id s
spared_copies works t now (change.AddFilter row child) same s = no_jobs_at t now same row.id s
spared_copies works t now (change.RemoveNode node) same s = no_jobs_at t now same node s
spared_copies works t now (change.PutFilter row node) same s = no_jobs_at t now same row.id s
spared_copies works t now (change.Attach overlay node) same s = no_jobs_at t now same overlay s
spared_copies works t now (change.SpoilFile name) same s = absurd s
spared_copies works t now (change.StartJob row) same s = absurd s
spared_copies works t now (change.PullFilter filter) same s = absurd s
spared_copies works t now (change.Rebase node backing) same s = absurd s
spared_copies works t now (change.Settle node disk) same s = absurd s
spared_copies works t now c same s = tt

pub all_spared_copies : (works : List JobWork) (t : RunTable) (changes : List Change) (now : RunTable) → now.jobs ≡ t.jobs → AllSpareJobs t changes
    → AllLeaveCopies works now changes
all_spared_copies works t [] now same s = tt
all_spared_copies works t (c ∷ changes) now same s = (
  spared_copies works t now c same s.0,
  all_spared_copies works t changes (changed now c) (sparing_keeps_jobs t now c s.0 ∙ same) s.1,
)

pub copies-append : (works : List JobWork) (a b : List Change) (t : RunTable) → AllLeaveCopies works t a → AllLeaveCopies works (all_changed t a) b
    → AllLeaveCopies works t (a ++ b)
copies-append works [] b t h k = k
copies-append works (c ∷ a) b t h k = (h.0, copies-append works a b (changed t c) h.1 k)

-- ---- what a start changes before the job's row comes

abbrev pub Prepares : RunTable → Change → Type 0
Prepares t (change.UseFile name) = Unit {0}
Prepares t (change.Unsettle node) = Unit {0}
Prepares t (change.MakeWritable node) = Unit {0}
Prepares t (change.PutFilter row node) = IsNoJobs t row.id
Prepares t c = ⊥

abbrev pub AllPrepare : RunTable → List Change → Type 0
AllPrepare t [] = Unit {0}
AllPrepare t (c ∷ changes) = Prepares t c × AllPrepare t changes

pub prepare-append : (t : RunTable) (a b : List Change) → AllPrepare t a → AllPrepare t b → AllPrepare t (a ++ b)
prepare-append t [] b h k = k
prepare-append t (c ∷ a) b h k = (h.0, prepare-append t a b h.1 k)

prepare_spares : (t : RunTable) (c : Change) → Prepares t c → SparesJobs t c
prepare_spares t (change.UseFile name) p = tt
prepare_spares t (change.Unsettle node) p = tt
prepare_spares t (change.MakeWritable node) p = tt
prepare_spares t (change.PutFilter row node) p = p
prepare_spares t c p = absurd p

pub all_prepare_spare : (t : RunTable) (changes : List Change) → AllPrepare t changes → AllSpareJobs t changes
all_prepare_spare t [] p = tt
all_prepare_spare t (c ∷ changes) p = (prepare_spares t c p.0, all_prepare_spare t changes p.1)

prepare_bitmaps : (t now : RunTable) (c : Change) → Prepares t c → (changed now c).bitmaps ≡ now.bitmaps
unfolding changed
prepare_bitmaps t now (change.UseFile name) p = refl
prepare_bitmaps t now (change.Unsettle node) p = refl
prepare_bitmaps t now (change.MakeWritable node) p = refl
prepare_bitmaps t now (change.PutFilter row node) p = refl
prepare_bitmaps t now c p = absurd p

-- they leave bitmaps
pub all_prepare_bitmaps : (t : RunTable) (changes : List Change) (now : RunTable) → AllPrepare t changes → (all_changed now changes).bitmaps ≡ now.bitmaps
all_prepare_bitmaps t [] now p = refl
all_prepare_bitmaps t (c ∷ changes) now p = all_prepare_bitmaps t changes (changed now c) p.1 ∙ prepare_bitmaps t now c p.0

-- ---- uses of nodes by a job, behind its row

abbrev pub IsUse : Change → Type 0
IsUse (change.UseNode slot what node) = Unit {0}
IsUse c = ⊥

abbrev pub AreUses : List Change → Type 0
AreUses [] = Unit {0}
AreUses (c ∷ changes) = IsUse c × AreUses changes

-- they leave the rows of nodes, jobs and bitmaps
pub record SameRowsBut (t now : RunTable) : Type 0 where
  pub nodes : now.nodes ≡ t.nodes
  pub jobs : now.jobs ≡ t.jobs
  pub bitmaps : now.bitmaps ≡ t.bitmaps

one_use : (t : RunTable) (c : Change) → IsUse c → SameRowsBut t (changed t c)
unfolding changed
one_use t (change.UseNode slot what node) u = record { nodes = refl; jobs = refl; bitmaps = refl }
one_use t c u = absurd u

pub uses_same : (changes : List Change) (t : RunTable) → AreUses changes → SameRowsBut t (all_changed t changes)
uses_same [] t u = record { nodes = refl; jobs = refl; bitmaps = refl }
uses_same (c ∷ changes) t u =
    let one = one_use t c u.0 in
    let rest = uses_same changes (changed t c) u.1 in
    record { nodes = rest.nodes ∙ one.nodes; jobs = rest.jobs ∙ one.jobs; bitmaps = rest.bitmaps ∙ one.bitmaps }

pub uses_leave : (works : List JobWork) (changes : List Change) (t : RunTable) → AreUses changes → AllLeaveCopies works t changes
uses_leave works [] t u = tt
uses_leave works (c ∷ changes) t u = (one c u.0, uses_leave works changes (changed t c) u.1)
  where
    one : (x : Change) → IsUse x → LeavesCopies works t x
    one (change.UseNode slot what node) k = tt
    one x k = absurd k
