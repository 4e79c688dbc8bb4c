-- The counts of a world in which one file more was opened.
use Rattle.std.proofs.Common.{◌≡◌, ℕ, ◌+◌, List, [], ◌∷◌, ◌++◌, length, map, drop, refl, sym, ◌∙◌, ap, arith, Some, None}
use Rattle.std.specs.Prelude.{slice_set}
use Rattle.blk_base.specs.declared.fault.DevNo.{DevNo}
use Rattle.blk_base.specs.declared.fault.FaultFrom.TheVariants.{Dev}
use Rattle.blk_base.specs.declared.file.Opened.{Opened}
use Rattle.flat_machine.specs.Licence.{Counts, fault_at}
use Rattle.world_parts.specs.Counting.{HidesNoFault, counts_within, counts_with}
use Rattle.world_parts.specs.Face.{WorldSeen, count_of_opening, counts_from, counts_now}
use Rattle.world_additions.proofs.AddRuns.{counts-append}
use Rattle.world_parts.proofs.CountsKept.{counts, length-counts}

-- ---- the counts of a world

pub one-behind : (opened : List Opened) (o : Opened) → drop (length opened) (map (λ (x : Opened). x.faults) (opened ++ o ∷ [])) ≡ o.faults ∷ []
one-behind [] o = refl
one-behind (x ∷ opened) o = one-behind opened o

-- ---- one file was opened

set-last : (xs : List ℕ) (y n : ℕ) → slice_set (xs ++ y ∷ []) (length xs) n ≡ xs ++ n ∷ []
set-last [] y n = refl
set-last (x ∷ xs) y n = ap (λ (l : List ℕ). x ∷ l) (set-last xs y n)

module _ (w v : WorldSeen) (o : Opened) (opened : v.opened ≡ w.opened ++ o ∷ []) (faults : v.faults ≡ w.faults)
    (same : counts_from v.nodes.devices 0 w.opened ≡ (counts_now w).devices) (n : ℕ)
    (own : count_of_opening v.nodes.devices (length w.opened) o ≡ n) where
  within-one : counts_within w v ≡ counts w.faults ((counts_now w).devices ++ o.faults ∷ [])
  within-one =
      ap (λ (l : List ℕ). counts w.faults ((counts_now w).devices ++ l))
      (ap (λ (all : List Opened). drop (length w.opened) (map (λ (x : Opened). x.faults) all)) opened ∙ one-behind w.opened o)

  now-one : counts_now v ≡ counts w.faults ((counts_now w).devices ++ n ∷ [])
  now-one =
      let zero_first : 0 + length w.opened ≡ length w.opened = omega arith in
      let last : count_of_opening v.nodes.devices (0 + length w.opened) o ≡ n =
      ap (λ (k : ℕ). count_of_opening v.nodes.devices k o) zero_first ∙ own in
      ap (λ (all : List Opened). counts v.faults (counts_from v.nodes.devices 0 all)) opened
      ∙ ap (counts v.faults) (counts-append v.nodes.devices 0 w.opened o)
      ∙ ap (λ (l : List ℕ). counts v.faults (l ++ count_of_opening v.nodes.devices (0 + length w.opened) o ∷ [])) same
      ∙ ap (λ (m : ℕ). counts v.faults ((counts_now w).devices ++ m ∷ [])) last
      ∙ ap (λ (m : ℕ). counts m ((counts_now w).devices ++ n ∷ [])) faults

  -- and no call of its device failed
  pub hides-opened : n ≡ o.faults → HidesNoFault w v None
  hides-opened calm =
      now-one ∙ ap (λ (m : ℕ). counts w.faults ((counts_now w).devices ++ m ∷ [])) calm ∙ sym within-one

  -- or one did
  pub hides-failed : (dev : DevNo) → dev.0 ≡ length w.opened → HidesNoFault w v (Some (fault_at (Dev dev) n))
  hides-failed dev number =
      let place : dev.0 ≡ length (counts_now w).devices = number ∙ sym (length-counts w.nodes.devices 0 w.opened) in
      let is : slice_set ((counts_now w).devices ++ o.faults ∷ []) dev.0 n ≡ (counts_now w).devices ++ n ∷ [] =
      ap (λ (k : ℕ). slice_set ((counts_now w).devices ++ o.faults ∷ []) k n) place ∙ set-last (counts_now w).devices o.faults n in
      now-one ∙ ap (counts w.faults) (sym is)
      ∙ ap (λ (c : Counts). counts_with c (Some (fault_at (Dev dev) n))) (sym within-one)
