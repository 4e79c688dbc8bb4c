-- What calls that only read leave, by the fault that their errors tell.
use Rattle.std.proofs.Common.{◌≡◌, ℕ, Option, Some, None, Result, Ok, Err, IfErr, refl, sym, ap, subst, ◌∙◌}
use Rattle.blk_base.specs.Device.{Reads, Untouched}
use Rattle.blk_base.specs.declared.device.Device.{Ghosts}
use Rattle.blk_base.proofs.DeviceLemmas.{reads_then}
use Rattle.q2_format.specs.declared.header.Header.{Header}
use Rattle.q2_tables.specs.Loading.{fault_in_tables}
use Rattle.q2_tables.specs.declared.stop.TablesStop.{TablesStop}
use Rattle.q2_tables.specs.declared.stop.TablesStop.TheVariants as tables
use Rattle.q2_image.specs.Merge.{merged_stop}
use Rattle.q2_image.specs.Opening.{IsNoFault, fault_in_image, fault_of_image}
use Rattle.q2_image.specs.declared.stop.ImageStop.{ImageStop}

module _ {A D : Type 0} (g : Ghosts D) (e stop : ImageStop) (r : Result A ImageStop) (is : r ≡ Err e) (by : e ≡ stop) where
  -- an error that is passed on, behind reads that told none
  pub passed_on : (a b c : D) → Untouched g a b → Reads g (fault_in_image stop) b c → Reads g (fault_of_image r) a c
  passed_on a b c first later =
      subst (λ x. Reads g (fault_of_image x) a c) (sym (is ∙ ap Err by)) (reads_then g (fault_in_image stop) a b c first later)

  -- a refusal
  pub refused_quietly : (a b : D) → IsNoFault stop → Untouched g a b → Reads g (fault_of_image r) a b
  refused_quietly a b refused first =
      subst (λ x. Reads g (fault_of_image x) a b) (sym (is ∙ ap Err by))
      (subst (λ told. Reads g told a b) (sym refused) first)

-- an answer that tells no failed call
pub answered_quietly : {A D : Type 0} (g : Ghosts D) (r : Result A ImageStop) (a b : D) → IfErr r IsNoFault → Untouched g a b → Reads g (fault_of_image r) a b
answered_quietly g (Ok done) a b quiet first = first
answered_quietly g (Err stop) a b quiet first = subst (λ told. Reads g told a b) (sym quiet) first

-- the stop that comes first of two tells what the tables' tells
pub merged_fault : (h : Header) (reserved : Option ℕ) (stop : TablesStop) → fault_in_image (merged_stop h reserved stop) ≡ fault_in_tables stop
merged_fault h reserved (tables.Offset offset) = refl
merged_fault h reserved (tables.ReservedInL1 index) = refl
merged_fault h None (tables.ReservedInL2 table index) = refl
merged_fault h (Some i) (tables.ReservedInL2 table index) = refl
merged_fault h None (tables.Compressed cluster) = refl
merged_fault h (Some i) (tables.Compressed cluster) = refl
merged_fault h reserved (tables.Io count) = refl
merged_fault h reserved tables.NoMemory = refl
