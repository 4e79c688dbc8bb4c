-- Jobs that hold a disk are there and asked to end, as long as they run.
use Rattle.std.proofs.Common.{◌≡◌, ◌≢◌, ◌<◌, ℕ, ◌==◌, Bool, true, false, cond, List, [], ◌∷◌, ◌++◌, map, length, get_or, refl, sym, ◌∙◌, ap, subst, inl, inr, Option, Some, None}
use Rattle.std.specs.Prelude.{All, AllPairs, Contains, not, option_map}
use Rattle.std.specs.List.{find}
use Rattle.std.specs.Option.{option_or}
use Rattle.std.proofs.lemmas.Bool.{eqb-true, false≢true}
use Rattle.std.proofs.lemmas.List.Elements.{All-contains, All-contains_itself, All-push}
use Rattle.std.proofs.lemmas.List.Folds.{find-append}
use Rattle.std.proofs.lemmas.List.Kept.{AllPairs-filter}
use Rattle.std.proofs.lemmas.List.Quantifiers.{all_pairs_push}
use Rattle.blk_graph.proofs.Members.{Contains-filter}
use Rattle.qmp_rules.specs.declared.rows.AskedEnd.{AskedEnd}
use Rattle.qmp_rules.specs.declared.rows.AskedEnd.TheVariants as asked
use Rattle.qmp_rules.specs.declared.rows.JobRecord.{JobRecord}
use Rattle.qmp_rules.specs.Chains.{is_listed}
use Rattle.qmp_rules.specs.Changes.{asked_for, followed, ready_for, without_job}
use Rattle.qmp_rules.specs.Table.{RunTable, job_at}
use Rattle.flat_machine.specs.Marks.{Drained, after_end, after_turn}
use Rattle.flat_machine.proofs.Finds.{find-filter, find-map}
use Rattle.job_tables.proofs.RowEdges.{Contains-listed}
use Rattle.world_parts.specs.Coherent.{AreDrainsKept, IsAskedJob}

-- whoever was asked to end is so still
abbrev pub AskedStay : RunTable → RunTable → Type 0
AskedStay t now = (job : ℕ) → IsAskedJob t job → IsAskedJob now job

pub drains_stay : (t now : RunTable) (drains : Drained) → AskedStay t now → AreDrainsKept t drains → AreDrainsKept now drains
drains_stay t now drains stay kept = record { each = λ k d within. stay _ (kept.each k d within); once = kept.once }

abbrev is_number : ℕ → JobRecord → Bool
is_number job row = row.number == job

-- ---- what becomes of rows

pub asked_same : (t now : RunTable) → now.jobs ≡ t.jobs → AskedStay t now
asked_same t now jobs job is = record { row = is.row; there = ap (find (is_number job)) jobs ∙ is.there; ends = is.ends }

-- one more comes
pub asked_pushed : (t now : RunTable) (new : JobRecord) → now.jobs ≡ t.jobs ++ new ∷ [] → AskedStay t now
asked_pushed t now new jobs job is = record {
  row = is.row;
  there =
      ap (find (is_number job)) jobs ∙ find-append (is_number job) t.jobs (new ∷ [])
      ∙ ap (λ (found : Option JobRecord). option_or found (find (is_number job) (new ∷ []))) is.there;
  ends = is.ends;
}

-- what one is asked, or whether it is ready, is another
record KeepsAsked (row new : JobRecord) : Type 0 where
  number : new.number ≡ row.number
  ends : row.asked ≢ asked.Nothing → new.asked ≢ asked.Nothing

asked_mapped : (t now : RunTable) (f : JobRecord → JobRecord) → ((row : JobRecord) → KeepsAsked row (f row)) → now.jobs ≡ map f t.jobs → AskedStay t now
asked_mapped t now f keeps jobs job is = record {
  row = f is.row;
  there =
      ap (find (is_number job)) jobs ∙ find-map (is_number job) f (λ row. ap (λ n. n == job) (keeps row).number) t.jobs
      ∙ ap (option_map f) is.there;
  ends = (keeps is.row).ends is.ends;
}

follows : (old new : AskedEnd) → new ≢ asked.Nothing → followed old new ≢ asked.Nothing
follows asked.Stop new ends = λ same. absurd cc
follows asked.Nothing new ends = ends
follows asked.Complete new ends = ends
follows asked.Leave new ends = ends

pub asked_further : (t now : RunTable) (number : ℕ) (new : AskedEnd) → new ≢ asked.Nothing → now.jobs ≡ map (asked_for number new) t.jobs → AskedStay t now
asked_further t now number new ends jobs = asked_mapped t now (asked_for number new) (λ row. by_test row (row.number == number)) jobs
  where
    by_test : (row : JobRecord) (b : Bool) → KeepsAsked row (cond b (record row { asked = followed row.asked new }) row)
    by_test row true = record { number = refl; ends = λ was. follows row.asked new ends }
    by_test row false = record { number = refl; ends = λ was. was }

pub asked_ready : (t now : RunTable) (number : ℕ) → now.jobs ≡ map (ready_for number) t.jobs → AskedStay t now
asked_ready t now number jobs = asked_mapped t now (ready_for number) (λ row. by_test row (row.number == number)) jobs
  where
    by_test : (row : JobRecord) (b : Bool) → KeepsAsked row (cond b (record row { is_ready = true }) row)
    by_test row true = record { number = refl; ends = λ was. was }
    by_test row false = record { number = refl; ends = λ was. was }

-- ---- a turn in which one is asked, and an end

pub drains_turned : (t : RunTable) (job : ℕ) (drains : Drained) → IsAskedJob t job → AreDrainsKept t drains → AreDrainsKept t (after_turn job drains)
drains_turned t job drains is kept = by_listed (is_listed job drains.jobs) refl
  where
    by_listed : (b : Bool) → is_listed job drains.jobs ≡ b → AreDrainsKept t (cond b drains (record drains { jobs = drains.jobs ++ job ∷ [] }))
    by_listed true listed = kept
    by_listed false listed = record {
      each = All-push (IsAskedJob t) drains.jobs job kept.each is;
      once =
          all_pairs_push (λ (a b : ℕ). a ≢ b) drains.jobs job kept.once (λ k d within same.
          false≢true (sym listed ∙ Contains-listed job drains.jobs (subst (Contains drains.jobs) same (All-contains_itself drains.jobs k d within))));
    }

pub drains_ended : (t now : RunTable) (number : ℕ) (drains : Drained) → now.jobs ≡ without_job number t.jobs → AreDrainsKept t drains
    → AreDrainsKept now (after_end number drains)
drains_ended t now number drains jobs kept = record {
  each = λ k d within. others _ (Contains-filter (λ (job : ℕ). not (job == number)) drains.jobs _ (All-contains_itself (after_end number drains).jobs k d within));
  once = AllPairs-filter (λ (a b : ℕ). a ≢ b) (λ (job : ℕ). not (job == number)) drains.jobs kept.once;
}
  where
    others : (job : ℕ) → (Contains drains.jobs job × (not (job == number) ≡ true)) → IsAskedJob now job
    others job (there, other) =
        let was : IsAskedJob t job = All-contains (IsAskedJob t) drains.jobs job kept.each there in
        record {
          row = was.row;
          there =
              ap (find (is_number job)) jobs
              ∙ find-filter (is_number job) (λ (row : JobRecord). not (row.number == number))
              (λ row own. ap (λ n. not (n == number)) (eqb-true row.number job own) ∙ other) t.jobs
              ∙ was.there;
          ends = was.ends;
        }
