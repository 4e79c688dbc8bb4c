-- What calls that only read leave, by the fault that their errors tell.
use Rattle.std.proofs.Common.{◌≡◌, None, Result, Err, sym, ap, subst, ◌∙◌}
use Rattle.blk_base.specs.Device.{Reads, Untouched}
use Rattle.blk_base.specs.declared.device.Device.{Ghosts}
use Rattle.blk_base.proofs.DeviceLemmas.{reads_then}
use Rattle.q2_refs.specs.Loading.{fault_in_refs, fault_of_refs}
use Rattle.q2_refs.specs.declared.stop.RefsStop.{RefsStop}

module _ {A D : Type 0} (g : Ghosts D) (e stop : RefsStop) (r : Result A RefsStop) (is : r ≡ Err e) (by : e ≡ stop) where
  -- an error that is passed on, behind reads that told none
  pub passed_on : (a b c : D) → Untouched g a b → Reads g (fault_in_refs stop) b c → Reads g (fault_of_refs r) a c
  passed_on a b c first later =
      subst (λ x. Reads g (fault_of_refs x) a c) (sym (is ∙ ap Err by)) (reads_then g (fault_in_refs stop) a b c first later)

  -- an error of another kind
  pub refused_quietly : (a b : D) → fault_in_refs stop ≡ None → Untouched g a b → Reads g (fault_of_refs r) a b
  refused_quietly a b quiet first =
      subst (λ x. Reads g (fault_of_refs x) a b) (sym (is ∙ ap Err by)) (subst (λ told. Reads g told a b) (sym quiet) first)
