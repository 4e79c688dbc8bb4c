-- Why a creation failed: the store or the device that it calls failed in it, or the device had no space.
use Rattle.std.proofs.Common.{◌≡◌, ℕ, ◌<◌, ◌≤◌, ◌^◌, List, refl, sym, ap, subst, arith, Option, Some, None, Err}
use Rattle.std.specs.Prelude.{unwrap_or}
use Rattle.blk_base.specs.Counts.{HasFailedSince}
use Rattle.blk_base.specs.declared.fault.DevNo.{DevNo}
use Rattle.blk_base.specs.declared.fault.FaultFrom.TheVariants.{Dev}
use Rattle.q2_format.specs.Created.{created_length}
use Rattle.blk_graph.proofs.Members.{find-Some}
use Rattle.blk_nodes.specs.Formatting.{HasFormatCause, IsFormatAt}
use Rattle.blk_nodes.specs.Nodes.{DeviceSeen, device_in, is_device_of}
use Rattle.blk_nodes.specs.Reading.{StoppedBy}
use Rattle.blk_nodes.specs.declared.stop.FormatStop.{FormatStop}
use Rattle.blk_nodes.specs.declared.stop.FormatStop.TheVariants as stop
use Rattle.qmp_asks.specs.Values.{amount_or}
use Rattle.qmp_codec.specs.Commands.{Cmd}
use Rattle.qmp_codec.specs.declared.command.Command.TheVariants as command
use Rattle.qmp_codec.specs.declared.nodes.BlockdevCreate.{BlockdevCreate}
use Rattle.qmp_codec.specs.declared.nodes.CreateFile.{CreateFile}
use Rattle.qmp_codec.specs.declared.nodes.CreateQcow2.{CreateQcow2}
use Rattle.qmp_codec.specs.declared.nodes.Created.{Created}
use Rattle.qmp_codec.specs.declared.nodes.Created.TheVariants as created
use Rattle.qmp_rules.specs.Asks.{id_or}
use Rattle.qmp_rules.specs.Answers.{refusal_to}
use Rattle.qmp_rules.specs.Looks.{create_told}
use Rattle.qmp_rules.specs.declared.refusal.Refusal.{Refusal}
use Rattle.qmp_rules.specs.declared.refusal.Refusal.TheVariants as refusal
use Rattle.flat_machine.specs.EventLicence.{IsOfCreation}
use Rattle.flat_machine.specs.Licence.{fault_at}
use Rattle.world_parts.specs.Carrying.{IsCaused}
use Rattle.world_parts.specs.Coherent.{AreOut}
use Rattle.world_parts.specs.Counting.{IsNumbered, RunsOn, IsFaultReached, seen_sources}
use Rattle.world_files.specs.Creations.{CanCreate, CanFormat}
use Rattle.world_parts.specs.Creating.{HasMakingFailed, HasFormatFailed, IsFailed, creation_for}
use Rattle.world_parts.specs.Deleting.{ground_of}
use Rattle.world_parts.specs.Face.{WorldSeen, counts_now}
use Rattle.world_parts.proofs.CountLemmas.{numbered, reached-held}

-- numbers of devices have 32 bits, and counts 64
abbrev pub FitsSo : Refusal → Type 0
FitsSo (refusal.Io source count) = IsNumbered source × (count ≤ 18446744073709551615)
FitsSo (refusal.NoSpace dev) = dev.0 < 2 ^ 32
FitsSo cause = Unit {0}

module _ (w v : WorldSeen) (c : BlockdevCreate (List ℕ)) (runs : RunsOn w v) (counted : w.first_faults ≤ w.faults)
    (opened : v.opened ≡ w.opened) (out : AreOut w.table w.nodes w.opened) (out_now : AreOut w.table v.nodes w.opened) where
  abbrev cmd : Created (List ℕ) → Cmd
  cmd options = command.BlockdevCreate (record c { options = options })

  -- nothing refuses it before any call
  abbrev IsUnrefused : Created (List ℕ) → Type 0
  IsUnrefused options = refusal_to w.table (create_told options w.room) (cmd options) ≡ None

  -- ---- the store failed

  store-failed : (f : CreateFile (List ℕ)) (cause : Refusal) → HasMakingFailed f.filename (amount_or 0 (Some f.size)) (ground_of w).store (ground_of v).store cause → FitsSo cause
      → IsCaused w v (cmd (created.File f)) cause
  store-failed f cause failed fits =
      let rose = failed.rose in
      let least = counted in
      let first_same = runs.first in
      let since : HasFailedSince v.first_faults v.faults = omega (arith, rose, least, first_same) in
      let again : HasFailedSince w.faults v.faults = omega (arith, rose) in
      let small = subst FitsSo failed.names fits in
      rw failed.names
      (record {
        called = tt;
        numbered = tt;
        reached = record {
          rise = record { risen = since; reached = omega arith };
          new = record { risen = again; reached = omega arith };
          fits = small.1;
        };
      })

  -- ---- a device

  module _ (q : CreateQcow2 (List ℕ)) (taken : IsUnrefused (created.Qcow2 q)) (can : CanFormat w.table q w.nodes) where
    node_is : id_or 0 w.table (Some q.file) ≡ can.node
    node_is = ap (λ (o : Option ℕ). unwrap_or o 0) can.found

    called-by : (before : DeviceSeen) → device_in w.nodes.devices (id_or 0 w.table (Some q.file)) ≡ Some before
        → IsOfCreation w.table (seen_sources w) (counts_now w) before.number.0 (created.Qcow2 q)
    called-by before held =
        let at : device_in w.nodes.devices can.node ≡ Some before = subst (λ (n : ℕ). device_in w.nodes.devices n ≡ Some before) node_is held in
        rw can.found (rw at refl)

    stopped-so : (cause : Refusal) (why : FormatStop)
        → IsFormatAt (id_or 0 w.table (Some q.file)) w.nodes.devices v.nodes.devices (creation_for q) (Err why)
        → FitsSo cause → (source : DevNo) → (count : ℕ) → why ≡ stop.Io source count → cause ≡ refusal.Io (Dev source) count
        → IsCaused w v (cmd (created.Qcow2 q)) cause
    stopped-so cause why made fits source count is same =
        let has : HasFormatCause made.before made.after (created_length (creation_for q)) (Err (stop.Io source count)) =
        subst (λ (s : FormatStop). HasFormatCause made.before made.after (created_length (creation_for q)) (Err s)) is made.formatted.cause in
        let named : source ≡ made.before.number = has.1.named in
        let small = subst FitsSo same fits in
        let stopped : StoppedBy made.before made.after made.before.number count =
        subst (λ (d : DevNo). StoppedBy made.before made.after d count) named has.1 in
        let there = (find-Some (is_device_of (id_or 0 w.table (Some q.file))) w.nodes.devices made.before made.held).0 in
        let there_now = (find-Some (is_device_of (id_or 0 w.table (Some q.file))) v.nodes.devices made.after made.left).0 in
        let reached : IsFaultReached w v (fault_at (Dev made.before.number) count) =
        reached-held w v made.before made.after count runs opened out out_now there there_now made.formatted.number stopped small.1 in
        rw (same, named)
        (record {
          called = called-by made.before made.held;
          numbered = subst (λ (d : DevNo). IsNumbered (Dev d)) named small.0;
          reached = reached;
        })

    full-so : (cause : Refusal) (why : FormatStop)
        → IsFormatAt (id_or 0 w.table (Some q.file)) w.nodes.devices v.nodes.devices (creation_for q) (Err why)
        → FitsSo cause → (dev : DevNo) → why ≡ stop.NoSpace dev → cause ≡ refusal.NoSpace dev → IsCaused w v (cmd (created.Qcow2 q)) cause
    full-so cause why made fits dev is same =
        let has : HasFormatCause made.before made.after (created_length (creation_for q)) (Err (stop.NoSpace dev)) =
        subst (λ (s : FormatStop). HasFormatCause made.before made.after (created_length (creation_for q)) (Err s)) is made.formatted.cause in
        let named : dev ≡ made.before.number = has.1 in
        let small = subst FitsSo same fits in
        let there = (find-Some (is_device_of (id_or 0 w.table (Some q.file))) w.nodes.devices made.before made.held).0 in
        let found = numbered w.nodes.devices made.before out.once there in
        rw (same, named)
        (record {
          called = called-by made.before made.held;
          numbered = subst (λ (d : DevNo). IsNumbered (Dev d)) named small;
          passes = (taken, rw found has.0);
        })

    image-failed : (cause : Refusal) → HasFormatFailed (id_or 0 w.table (Some q.file)) (ground_of w) (ground_of v) (creation_for q) cause → FitsSo cause
        → IsCaused w v (cmd (created.Qcow2 q)) cause
    image-failed cause failed fits = by_why failed.why refl
      where
        by_why : (why : FormatStop) → failed.why ≡ why → IsCaused w v (cmd (created.Qcow2 q)) cause
        by_why (stop.Io source count) is =
            let same : refusal.Io (Dev source) count ≡ cause = let said = rw is at failed.is in cc said in
            stopped-so cause failed.why failed.formatted.format fits source count is (sym same)
        by_why (stop.NoSpace dev) is =
            let same : refusal.NoSpace dev ≡ cause = let said = rw is at failed.is in cc said in
            full-so cause failed.why failed.formatted.format fits dev is (sym same)
        by_why stop.NoMemory is = absurd (let said = rw is at failed.is in let bad : ⊥ = cc said in bad)

  by-options : (options : Created (List ℕ)) (cause : Refusal) → IsUnrefused options → CanCreate w.table options (ground_of w)
      → IsFailed w.table options (ground_of w) (ground_of v) cause → FitsSo cause → IsCaused w v (cmd options) cause
  by-options (created.File f) cause taken can failed fits = store-failed f cause failed.1 fits
  by-options (created.Qcow2 q) cause taken can failed fits = image-failed q taken can cause failed fits
  by-options created.Unknown cause taken can failed fits = absurd failed

  pub created_causes : (cause : Refusal) → IsUnrefused c.options → CanCreate w.table c.options (ground_of w)
      → IsFailed w.table c.options (ground_of w) (ground_of v) cause → FitsSo cause → IsCaused w v (command.BlockdevCreate c) cause
  created_causes cause taken can failed fits = by-options c.options cause taken can failed fits
