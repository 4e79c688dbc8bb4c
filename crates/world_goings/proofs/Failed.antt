-- Of a job that met a fault no block is read, copied or written, and so it is behind each step.
use Rattle.std.proofs.Common.{◌≡◌, ◌≢◌, ◌⊎◌, ℕ, zero, suc, ◌+◌, ◌*◌, ◌/◌, Bool, true, false, cond, List, [], ◌∷◌, ◌++◌, length, map, replicate, inl, inr, refl, sym, ◌∙◌, ap, subst, arith, Option, Some, None}
use Rattle.std.specs.Prelude.{◌&&◌, ◌==◌, Contains, Err, IsSome, Ok, Result, is_some, not}
use Rattle.std.specs.List.{list_any, range_with_len}
use Rattle.std.specs.Simd.Lanes.{mask_l}
use Rattle.std.proofs.lemmas.Bool.{false≢true}
use Rattle.blk_base.specs.Pieces.{Extent}
use Rattle.blk_base.specs.declared.fault.Fault.{Fault}
use Rattle.blk_bits.specs.Granules.{contains}
use Rattle.blk_graph.proofs.Members.{Contains-cases, Contains-here, Contains-nil, Contains-there}
use Rattle.blk_nodes.specs.Nodes.{Nodes}
use Rattle.blk_copy.specs.Rows.{is_in_flight}
use Rattle.blk_copy.specs.declared.transfers.Transfer.{Transfer}
use Rattle.block_jobs.specs.Work.{JobWork, after_copy, after_settle, after_take, failed_by, has_left, has_open, is_left, next_block, parts_a_block, sectors_left, block_count, is_next}
use Rattle.block_jobs.proofs.PartLemmas.{any_none, find_found, has_at, mask_step}
use Rattle.job_copies.specs.Guarding.{Guards, after_guard}
use Rattle.job_copies.specs.Settling.{Settles, after_write}
use Rattle.job_copies.specs.Taking.{Takes}
use Rattle.job_ends.proofs.Idle.{all_marked_idle}
use Rattle.job_ends.specs.Idle.{AllMetAreIdle}
use Rattle.job_progress.proofs.Belong.{found_there}
use Rattle.job_tables.proofs.RowEdges.{in_either}
use Rattle.job_works.proofs.Changed.{changed_at, job_found}
use Rattle.job_works.specs.Works.{ChangesWork, marked_again, with_changed, without_work, work_of}
use Rattle.node_copies.specs.Putting.{answer_of}
use Rattle.qmp_codec.specs.declared.event.JobKind.{JobKind}
use Rattle.qmp_codec.specs.declared.event.JobKind.TheVariants.{Stream, Commit, Mirror, Backup}
use Rattle.world_goings.specs.Copied.{FailedAreDone, IsDoneOnceFailed}

module _ (work : JobWork) (done : IsDoneOnceFailed work) where
  none_in : (f : Fault) → work.met ≡ Some f → (k : ℕ) → contains work.left k ≡ false
  none_in f is k = by_test (contains work.left k) refl
    where
      by_test : (b : Bool) → contains work.left k ≡ b → b ≡ false
      by_test false at = refl
      by_test true at = absurd (false≢true (sym (done (subst IsSome (sym is) refl)).left ∙ has_at work.left k at))

  unmet : ((f : Fault) → work.met ≡ Some f → ⊥) → work.met ≡ None
  unmet never = by_met work.met refl
    where
      by_met : (m : Option Fault) → work.met ≡ m → m ≡ None
      by_met None is = refl
      by_met (Some f) is = absurd (never f is)

  pub unmet_next : (block : ℕ) → next_block work ≡ Some block → work.met ≡ None
  unmet_next block is =
      let next : is_next work block ≡ true = (find_found (is_next work) 0 (block_count work.size) block is).1 in
      unmet (λ f met.
      let none : has_left work block ≡ false = any_none (contains work.left) (block * parts_a_block work) (parts_a_block work) (λ k from to. none_in f met k) in
      let bad : false ≡ true = ap (λ b. b && not (has_open work block)) (sym none) ∙ next in
      false≢true bad)

  -- no sector is left where no part is
  no_sectors : (test : ℕ → Bool) → ((k : ℕ) → test k ≡ false) → (n a : ℕ) → mask_l (map test (range_with_len a n)) ≡ 0
  no_sectors test none zero a = refl
  no_sectors test none (suc n) a =
      let rest = no_sectors test none n (a + 1) in
      let low : ℕ = mask_l (map test (range_with_len (a + 1) n)) in
      let step = subst (λ b. 2 * low + cond b 1 0 ≡ mask_l (map test (range_with_len a (suc n)))) (none a) (mask_step test a (a + 1) n (suc n) refl refl) in
      omega (arith, rest, step)

  pub unmet_sectors : (block : ℕ) → sectors_left work block ≢ 0 → work.met ≡ None
  unfolding sectors_left
  unmet_sectors block some = unmet (λ f met. some (no_sectors (λ sector. is_left work (block * 65536 + sector * 512)) (λ k. none_in f met ((block * 65536 + k * 512) / work.part)) 128 0))

  pub unmet_flight : (t : Transfer) → is_in_flight t work.rows ≡ true → work.met ≡ None
  unmet_flight t flies =
      unmet (λ f met.
      let rows : work.rows ≡ [] = (done (subst IsSome (sym met) refl)).rows in
      let bad : false ≡ true = ap (is_in_flight t) (sym rows) ∙ flies in
      false≢true bad)

-- ---- behind each step

fresh_done : (work : JobWork) → work.met ≡ None → IsDoneOnceFailed work
fresh_done work none some = absurd (false≢true (sym (ap is_some none) ∙ some))

none_in_falses : (n : ℕ) → list_any (λ part. part) (replicate n false) ≡ false
none_in_falses zero = refl
none_in_falses (suc n) = none_in_falses n

module _ (old new : Nodes) (was now : JobWork) (done : IsDoneOnceFailed was) where
  by_failure : (fault : Fault) → now ≡ failed_by fault was → IsDoneOnceFailed now
  by_failure fault is = subst IsDoneOnceFailed (sym is) (λ some. record { left = none_in_falses (length was.left); rows = refl })

  by_success : (left : JobWork) → now ≡ left → left.met ≡ was.met → was.met ≡ None → IsDoneOnceFailed now
  by_success left is same none = subst IsDoneOnceFailed (sym is) (fresh_done left (same ∙ none))

  met_taken : (kind : JobKind) (t : Transfer) → (after_take kind t was).met ≡ was.met
  met_taken Mirror t = refl
  met_taken Stream t = refl
  met_taken Commit t = refl
  met_taken Backup t = refl

  met_settled : (kind : JobKind) (block : ℕ) → (after_settle kind block was).met ≡ was.met
  met_settled Mirror block = refl
  met_settled Stream block = refl
  met_settled Commit block = refl
  met_settled Backup block = refl

  pub taken_done : (kind : JobKind) (source position : ℕ) (buffer : List ℕ) (answer : Result (Option Transfer) Fault) → Takes kind old new was now source position buffer answer
      → IsDoneOnceFailed now
  taken_done kind source position buffer (Ok None) did = subst IsDoneOnceFailed (sym did.2) done
  taken_done kind source position buffer (Ok (Some t)) did = by_success (after_take kind t was) did.work (met_taken kind t) (unmet_next was done t.cluster did.next)
  taken_done kind source position buffer (Err fault) did = by_failure fault did.work

  wrote_done : (kind : JobKind) (block : ℕ) (answer : Result (Unit {0}) Fault) → was.met ≡ None → now ≡ after_write answer kind block was → IsDoneOnceFailed now
  wrote_done kind block (Ok ok) none is = by_success (after_settle kind block was) is (met_settled kind block) none
  wrote_done kind block (Err fault) none is = by_failure fault is

  pub settled_done : (kind : JobKind) (target : ℕ) (t : Transfer) (bytes : List ℕ) (answer : Bool) → Settles kind old new was now target t bytes answer → IsDoneOnceFailed now
  settled_done kind target t bytes true did = wrote_done kind t.cluster (answer_of did.wrote) (unmet_flight was done t did.flies) did.work
  settled_done kind target t bytes false did = subst IsDoneOnceFailed (sym did.2) done

  copied_done : (block : ℕ) (answer : Result (Unit {0}) Fault) → was.met ≡ None → now ≡ after_guard answer block was → IsDoneOnceFailed now
  copied_done block (Ok ok) none is = by_success (after_copy block was) is refl none
  copied_done block (Err fault) none is = by_failure fault is

  pub guarded_done : (source target block : ℕ) → Guards old new was now source target block → IsDoneOnceFailed now
  guarded_done source target block (inl none) = subst IsDoneOnceFailed (sym none.2) done
  guarded_done source target block (inr copied) = copied_done block copied.result (unmet_sectors was done block copied.some) copied.work

-- ---- of all works

changed_in : (job : ℕ) (now : JobWork) (works : List JobWork) (x : JobWork) → Contains (with_changed job (λ work. now) works) x → Contains works x ⊎ (x ≡ now)
changed_in job now [] x there = absurd (Contains-nil x there)
changed_in job now (work ∷ works) x there = by_test (work.job == job) there (changed_in job now works x)
  where
    by_test : (b : Bool) → Contains (cond b (now ∷ works) (work ∷ with_changed job (λ w. now) works)) x → (Contains (with_changed job (λ w. now) works) x → Contains works x ⊎ (x ≡ now))
        → Contains (work ∷ works) x ⊎ (x ≡ now)
    by_test true is rest = elim (Contains-cases now works x is) [
      | inl same ↦ inr same
      | inr more ↦ inl (Contains-there work works x more)
    ]
    by_test false is rest = elim (Contains-cases work (with_changed job (λ w. now) works) x is) [
      | inl same ↦ inl (subst (Contains (work ∷ works)) (sym same) (Contains-here work works))
      | inr more ↦ elim (rest more) [
        | inl before ↦ inl (Contains-there work works x before)
        | inr same ↦ inr same
      ]
    ]

pub step_done : (job : ℕ) (Does : JobWork → JobWork → Type 0) (old new : List JobWork) (changes : ChangesWork job Does old new) → FailedAreDone old
    → (IsDoneOnceFailed changes.was → IsDoneOnceFailed changes.now) → FailedAreDone new
step_done job Does old new changes all step x there =
    elim (changed_in changes.now.job changes.now old x (subst (λ works. Contains works x) changes.kept there)) [
      | inl before ↦ all x before
      | inr same ↦ subst IsDoneOnceFailed (sym same) (step (all changes.was (found_there old job changes.was changes.there)))
    ]

pub begun_done : (works : List JobWork) (work : JobWork) → work.met ≡ None → FailedAreDone works → FailedAreDone (works ++ work ∷ [])
begun_done works work none all x there = elim (in_either works (work ∷ []) x there) [
  | inl before ↦ all x before
  | inr last ↦ elim (Contains-cases work [] x last) [
    | inl same ↦ subst IsDoneOnceFailed (sym same) (fresh_done work none)
    | inr more ↦ absurd (Contains-nil x more)
  ]
]

-- marks are made for a job that met none
pub marked_done : (job : ℕ) (span : Extent) (works : List JobWork) → FailedAreDone works → FailedAreDone (marked_again job span works)
marked_done job span works all x there met =
    let idle : AllMetAreIdle works = λ work here some. let done = all work here some in record { left = done.left; rows = done.rows } in
    let still = all_marked_idle job span works idle x there met in
    record { left = still.left; rows = still.rows }

pub gone_done : (job : ℕ) (works : List JobWork) → FailedAreDone works → FailedAreDone (without_work job works)
gone_done job works all x there = all x (left_in works there)
  where
    left_in : (all_of : List JobWork) → Contains (without_work job all_of) x → Contains all_of x
    left_in [] is = absurd (Contains-nil x is)
    left_in (work ∷ rest) is = by_test (work.job == job) is (left_in rest)
      where
        by_test : (b : Bool) → Contains (cond b rest (work ∷ without_work job rest)) x → (Contains (without_work job rest) x → Contains rest x) → Contains (work ∷ rest) x
        by_test true is more = Contains-there work rest x is
        by_test false is more = elim (Contains-cases work (without_work job rest) x is) [
          | inl same ↦ subst (Contains (work ∷ rest)) (sym same) (Contains-here work rest)
          | inr later ↦ Contains-there work rest x (more later)
        ]

-- the work that a step changed is found as it is then
pub found_then : (job : ℕ) (Does : JobWork → JobWork → Type 0) (old new : List JobWork) (changes : ChangesWork job Does old new) → work_of new job ≡ Some changes.now
found_then job Does old new changes =
    let number : changes.now.job ≡ job = changes.same ∙ job_found old job changes.was changes.there in
    ap (work_of new) (sym number) ∙ ap (λ works. work_of works changes.now.job) changes.kept
    ∙ changed_at changes.now.job (λ work. changes.now) (λ work own. refl) old changes.was (ap (work_of old) number ∙ changes.there)
