-- There is room for the drain of each job, since no two jobs have one slot; and a whole world is whole with it.
use Rattle.std.proofs.Common.{◌≡◌, ◌≢◌, ◌⊎◌, ℕ, ◌+◌, ◌<◌, ◌≤◌, ◌==◌, ◌&&◌, ◌||◌, Bool, true, false, cond, List, [], ◌∷◌, ◌++◌, map, length, Some, Option, refl, sym, ◌∙◌, ap, subst, arith, inl, inr, length-append}
use Rattle.std.specs.Prelude.{All, AllPairs, Contains, option_map, unwrap_or}
use Rattle.std.specs.List.{AllByRecursion, IsDistinct, list_any}
use Rattle.std.proofs.lemmas.Bool.{eqb-true, false≢true, ne_eqb}
use Rattle.std.proofs.lemmas.List.{length-map}
use Rattle.std.proofs.lemmas.List.Elements.{All-contains_itself, All-head, All-push, All-tail, All-weaker}
use Rattle.std.proofs.lemmas.List.Quantifiers.{all_pairs_push}
use Rattle.std.proofs.lemmas.Map.Keys.{IsDistinct-cons}
use Rattle.std.proofs.lemmas.Map.Steps.{length-le_from_distinct_below}
use Rattle.blk_graph.proofs.Members.{Contains-here, Contains-there, find-Some}
use Rattle.blk_graph.proofs.RoleLemmas.{head_pairs, tail_pairs}
use Rattle.qmp_rules.specs.Chains.{is_listed}
use Rattle.qmp_rules.specs.Table.{RunTable, job_at}
use Rattle.qmp_rules.specs.declared.rows.AskedEnd.{AskedEnd}
use Rattle.qmp_rules.specs.declared.rows.AskedEnd.TheVariants as asked
use Rattle.qmp_rules.specs.declared.rows.JobRecord.{JobRecord}
use Rattle.flat_machine.specs.Jobs.{can_be_ready}
use Rattle.flat_machine.specs.Marks.{after_turn, ends_by, must_drain}
use Rattle.job_tables.specs.Jobs.{JobsStand}
use Rattle.job_tables.proofs.RowEdges.{Contains-listed}
use Rattle.world_parts.specs.Coherent.{AreDrainsKept, IsAskedJob, IsWholeWorld}
use Rattle.world_parts.specs.Face.{WorldSeen}
use Rattle.world_parts.proofs.DrainsKept.{drains_turned}
use Rattle.world_jobs.specs.Turning.{drains_at, waits_first}
use Rattle.world_jobs.specs.declared.turned.Turn.{Turn}
use Rattle.world_jobs.specs.declared.turned.Turn.TheVariants as turn

-- ---- few jobs have different slots

record IsJob (t : RunTable) (job : ℕ) : Type 0 where
  row : JobRecord
  there : job_at t job ≡ Some row

module _ (t : RunTable) (stand : JobsStand t) where
  slot_of : ℕ → ℕ
  slot_of job = unwrap_or (option_map (λ (row : JobRecord). row.slot) (job_at t job)) 0

  slot_is : (job : ℕ) (of : IsJob t job) → slot_of job ≡ of.row.slot
  unfolding slot_of
  slot_is job of = ap (λ (found : Option JobRecord). unwrap_or (option_map (λ (row : JobRecord). row.slot) found) 0) of.there

  here : (job : ℕ) (of : IsJob t job) → Contains t.jobs of.row × ((of.row.number == job) ≡ true)
  here job of = find-Some (λ (r : JobRecord). r.number == job) t.jobs of.row of.there

  slots_apart : (a b : ℕ) → IsJob t a → IsJob t b → a ≢ b → (slot_of a == slot_of b) ≡ false
  slots_apart a b of_a of_b apart = ne_eqb (slot_of a) (slot_of b) (λ same.
      let at_a = here a of_a in
      let at_b = here b of_b in
      let one = stand.slots of_a.row of_b.row at_a.0 at_b.0 (sym (slot_is a of_a) ∙ same ∙ slot_is b of_b) in
      apart (sym (eqb-true of_a.row.number a at_a.1) ∙ ap (λ (r : JobRecord). r.number) one ∙ eqb-true of_b.row.number b at_b.1))

  all_apart : (a : ℕ) (jobs : List ℕ) → IsJob t a → All (IsJob t) jobs → ((b : ℕ) → Contains jobs b → a ≢ b)
      → AllByRecursion (λ y. (slot_of a == y) ≡ false) (map slot_of jobs)
  all_apart a [] of each differ = tt
  all_apart a (b ∷ jobs) of each differ = (
    slots_apart a b of (All-head (IsJob t) b jobs each) (differ b (Contains-here b jobs)),
    all_apart a jobs of (All-tail (IsJob t) b jobs each) (λ c there. differ c (Contains-there b jobs c there)),
  )

  all_distinct : (jobs : List ℕ) → All (IsJob t) jobs → AllPairs (λ (a b : ℕ). a ≢ b) jobs → IsDistinct (λ a b. a == b) (map slot_of jobs)
  unfolding IsDistinct
  all_distinct [] each once = tt
  all_distinct (a ∷ jobs) each once =
      IsDistinct-cons (λ a b. a == b) (slot_of a) (map slot_of jobs)
      (all_apart a jobs (All-head (IsJob t) a jobs each) (All-tail (IsJob t) a jobs each) (head_pairs (λ (a b : ℕ). a ≢ b) a jobs once))
      (all_distinct jobs (All-tail (IsJob t) a jobs each) (tail_pairs (λ (a b : ℕ). a ≢ b) a jobs once))

  all_below : (jobs : List ℕ) → All (IsJob t) jobs → (q : ℕ) → list_any (λ y. q == y) (map slot_of jobs) ≡ true → q < 16
  all_below [] each q any = absurd (false≢true any)
  all_below (a ∷ jobs) each q any = by_test (q == slot_of a) refl (all_below jobs (All-tail (IsJob t) a jobs each) q) any
    where
      by_test : (b : Bool) → (q == slot_of a) ≡ b → (list_any (λ y. q == y) (map slot_of jobs) ≡ true → q < 16)
          → (b || list_any (λ y. q == y) (map slot_of jobs)) ≡ true → q < 16
      by_test true is rest any =
          let of = All-head (IsJob t) a jobs each in
          let less = (stand.each of.row (here a of).0).slot in
          let same = eqb-true q (slot_of a) is in
          let slot = slot_is a of in
          omega (arith, less, same, slot)
      by_test false is rest any = rest any

  few_jobs : (jobs : List ℕ) → All (IsJob t) jobs → AllPairs (λ (a b : ℕ). a ≢ b) jobs → length jobs ≤ 16
  few_jobs jobs each once =
      let few = length-le_from_distinct_below (map slot_of jobs) 16 (all_distinct jobs each once) (all_below jobs each) in
      let count = length-map jobs slot_of in
      omega (arith, few, count)

pub drain_room : (w : WorldSeen) (row : JobRecord) → IsWholeWorld w → job_at w.table row.number ≡ Some row
    → (is_listed row.number w.drains.jobs ≡ true) ⊎ (length w.drains.jobs < 16)
drain_room w row whole at = by_listed (is_listed row.number w.drains.jobs) refl
  where
    by_listed : (b : Bool) → is_listed row.number w.drains.jobs ≡ b → (b ≡ true) ⊎ (length w.drains.jobs < 16)
    by_listed true is = inl refl
    by_listed false is =
        let each = All-weaker (IsAskedJob w.table) (IsJob w.table) (λ job of. record { row = of.row; there = of.there }) w.drains.jobs whole.drains.each in
        let few =
        few_jobs w.table whole.jobs.stand (w.drains.jobs ++ row.number ∷ [])
        (All-push (IsJob w.table) w.drains.jobs row.number each (record { row = row; there = at }))
        (all_pairs_push (λ (a b : ℕ). a ≢ b) w.drains.jobs row.number whole.drains.once (λ k d within same.
        false≢true (sym is ∙ Contains-listed row.number w.drains.jobs (subst (Contains w.drains.jobs) same (All-contains_itself w.drains.jobs k d within))))) in
        let count = length-append w.drains.jobs (row.number ∷ []) in
        inr (omega (arith, few, count))

-- ---- the world with it

waits_drain : (is : Turn) (row : JobRecord) → waits_first is row ≡ true → must_drain row ≡ true
waits_drain (turn.End why) row so = absurd (false≢true so)
waits_drain (turn.Finish why) row so = so
waits_drain turn.GetReady row so = absurd (false≢true so)
waits_drain turn.Copy row so = so
waits_drain turn.Wait row so = so

asked_drain : (row : JobRecord) → must_drain row ≡ true → row.asked ≢ asked.Nothing
asked_drain row drains same = by_ready (can_be_ready row row.kind) (sym (ap (λ (a : AskedEnd). can_be_ready row row.kind && ends_by a) same) ∙ drains)
  where
    by_ready : (b : Bool) → (b && false) ≡ true → ⊥
    by_ready true so = false≢true so
    by_ready false so = false≢true so

pub drained_whole : (w : WorldSeen) (is : Turn) (row : JobRecord) → IsWholeWorld w → job_at w.table row.number ≡ Some row
    → IsWholeWorld (record w { drains = drains_at is row w.drains })
drained_whole w is row whole at = record {
  coherent = whole.coherent;
  tell = whole.tell;
  counted = whole.counted;
  bitmaps = whole.bitmaps;
  jobs = whole.jobs;
  drains = by_wait (waits_first is row) refl;
}
  where
    by_wait : (b : Bool) → waits_first is row ≡ b → AreDrainsKept w.table (cond b (after_turn row.number w.drains) w.drains)
    by_wait true so =
        drains_turned w.table row.number w.drains
        (record { row = row; there = at; ends = asked_drain row (waits_drain is row so) }) whole.drains
    by_wait false so = whole.drains
