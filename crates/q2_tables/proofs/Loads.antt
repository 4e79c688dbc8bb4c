-- What calls that only read leave, by the fault that their errors tell.
use Rattle.std.proofs.Common.{◌≡◌, None, Result, Err, refl, sym, ap, subst, ◌∙◌}
use Rattle.blk_base.specs.Device.{Reads, Untouched}
use Rattle.blk_base.specs.declared.device.Device.{Ghosts}
use Rattle.blk_base.proofs.DeviceLemmas.{reads_then}
use Rattle.q2_tables.specs.Loading.{fault_in_tables, fault_of_tables, IsTableRefusal}
use Rattle.q2_tables.specs.declared.stop.TablesStop.{TablesStop}
use Rattle.q2_tables.specs.declared.stop.TablesStop.TheVariants.{Offset, ReservedInL1, ReservedInL2, Compressed, Io, NoMemory}

refusal_quiet : (stop : TablesStop) → IsTableRefusal stop → fault_in_tables stop ≡ None
refusal_quiet (Offset offset) is = refl
refusal_quiet (ReservedInL1 index) is = refl
refusal_quiet (ReservedInL2 table index) is = refl
refusal_quiet (Compressed cluster) is = refl
refusal_quiet (Io count) is = absurd is
refusal_quiet NoMemory is = absurd is

module _ {A D : Type 0} (g : Ghosts D) (e stop : TablesStop) (r : Result A TablesStop) (is : r ≡ Err e) (by : e ≡ stop) where
  -- an error that is passed on, behind reads that told none
  pub passed_on : (a b c : D) → Untouched g a b → Reads g (fault_in_tables stop) b c → Reads g (fault_of_tables r) a c
  passed_on a b c first later =
      subst (λ x. Reads g (fault_of_tables x) a c) (sym (is ∙ ap Err by)) (reads_then g (fault_in_tables stop) a b c first later)

  -- a refusal
  pub refused_quietly : (a b : D) → IsTableRefusal stop → Untouched g a b → Reads g (fault_of_tables r) a b
  refused_quietly a b refused first =
      subst (λ x. Reads g (fault_of_tables x) a b) (sym (is ∙ ap Err by))
      (subst (λ told. Reads g told a b) (sym (refusal_quiet stop refused)) first)
