use Rattle.std.proofs.Common.{◌≡◌, ◌∙◌, ◌++◌, ◌∷◌, [], ap, subst, List, ℕ, length, true, Option, Some, None, refl}
use Rattle.blk_base.proofs.Openings.{out-opened}
use Rattle.blk_base.specs.Stored.{files_with_returned, IsDeviceOf}
use Rattle.blk_base.specs.Files.{is_out, given_back}
use Rattle.blk_base.specs.declared.file.File.{File}
use Rattle.blk_base.specs.declared.file.Opened.{Opened}
use Rattle.blk_history.specs.Recorded.{Recorded}
use Rattle.blk_history.specs.Transcript.{transcript}
use Rattle.blk_history.specs.declared.event.Event.{Event}
use Rattle.qblk_core.specs.Run.{Outside, guest_names}
use Rattle.blk_nodes.specs.Nodes.{DeviceSeen}
use Rattle.qblk_core.specs.ImageNodes.{device_faults, seen_device}
use Rattle.qblk_core.specs.Session.{EndsIoAs}
use Rattle.qblk_core.proofs.Returned.{open_opening, none-out-back}
use Rattle.qblk_core.proofs.Whole.{ends, stops, store-stands, call-stands, sink-stands, ends-stands, closed-of}
use Rattle.qblk_core.proofs.session.run_on.Goals as goal

pub give_back-requires : goal.give_back-requires
give_back-requires g c =
    let S = g.S.Store in
    let D = g.S.Dev.Device in
    rw c.in-Ok-open_image.ensures.opened (out-opened (S.opened c.read_trace_file.new.store) (open_opening c.args.image.now (seen_device D c.in-Ok-open_image.device)) refl)

pub returns-in-Ok-made-clause-ended : goal.returns-in-Ok-made-clause-ended
returns-in-Ok-made-clause-ended g c =
    let S = g.S.Store in
    let D = g.S.Dev.Device in
    let K = g.K.Sink in
    let dev = c.in-Ok-open_image.device in
    let back = c.make_run-made.result.1 in
    let d : DeviceSeen = seen_device D dev in
    let n : DeviceSeen = seen_device D back in
    let old : Outside = record { files = S.files c.args.store.now; opened = S.opened c.args.store.now; store_faults = S.faults c.args.store.now; failed_call = S.failed_call c.args.store.now; sent = K.sent c.args.out.now; sink_faults = K.faults c.args.out.now } in
    let new : Outside = record { files = S.files c.give_back.new.self; opened = S.opened c.give_back.new.self; store_faults = S.faults c.give_back.new.self; failed_call = S.failed_call c.give_back.new.self; sent = K.sent c.write_out.new.out; sink_faults = K.faults c.write_out.new.out } in
    let sized : (b : List ℕ) → d.content ≡ Some b → d.size ≡ length b = λ b is. g.met.S.Dev.Device.told_size dev b is in
    let none : is_out c.args.image.now old.opened ≡ true → ⊥ = c.requires c.args.image.now in
    let files1 : S.files c.read_trace_file.new.store ≡ old.files = c.in-Ok.ensures.files in
    let files2 : S.files c.open_image.new.store ≡ old.files = c.in-Ok-open_image.ensures.files ∙ files1 in
    let opened1 : S.opened c.open_image.new.store ≡ old.opened ++ open_opening c.args.image.now d ∷ [] =
    c.in-Ok-open_image.ensures.opened ∙ ap (λ (os : List Opened). os ++ open_opening c.args.image.now d ∷ []) c.in-Ok.ensures.opened in
    let P : Option (List File) → Type 0 = λ fs. IsDeviceOf fs c.args.image.now d.content d.capacity d.is_flushed in
    let device = subst P files1 c.in-Ok-open_image.ensures.device in
    let made = rw c.in-Ok-made.is at c.make_run-made.ensures.made in
    let w = made.1 in
    let E : List Event → Type 0 = λ es. EndsIoAs c.in-Ok-made.made.fault old.sent new.sent (transcript guest_names es) old.sink_faults new.sink_faults c.write_out.result in
    let end = subst E (ap (λ (l : Recorded). l.events) made.4) c.write_out.ensures in
    let files = c.give_back.ensures.files ∙ ap (files_with_returned c.args.image.now n.content n.capacity n.is_flushed) files2 in
    let opened = c.give_back.ensures.opened ∙ ap (given_back c.args.image.now n.faults n.failed_call) opened1 in
    ends c.args.format c.args.image.now c.args.trace.now made.0 c.in-Ok.read d n w c.in-Ok-made.made.fault old new c.write_out.result sized none device c.in-Ok.ensures.read made.2 made.3 files opened end

pub returns-in-Err-made-clause-ended : goal.returns-in-Err-made-clause-ended
returns-in-Err-made-clause-ended g c =
    let S = g.S.Store in
    let D = g.S.Dev.Device in
    let K = g.K.Sink in
    let dev = c.in-Ok-open_image.device in
    let back = c.make_run-made.result.1 in
    let d : DeviceSeen = seen_device D dev in
    let n : DeviceSeen = seen_device D back in
    let old : Outside = record { files = S.files c.args.store.now; opened = S.opened c.args.store.now; store_faults = S.faults c.args.store.now; failed_call = S.failed_call c.args.store.now; sent = K.sent c.args.out.now; sink_faults = K.faults c.args.out.now } in
    let new : Outside = record { files = S.files c.give_back.new.self; opened = S.opened c.give_back.new.self; store_faults = S.faults c.give_back.new.self; failed_call = S.failed_call c.give_back.new.self; sent = K.sent c.args.out.now; sink_faults = K.faults c.args.out.now } in
    let sized : (b : List ℕ) → d.content ≡ Some b → d.size ≡ length b = λ b is. g.met.S.Dev.Device.told_size dev b is in
    let none : is_out c.args.image.now old.opened ≡ true → ⊥ = c.requires c.args.image.now in
    let files1 : S.files c.read_trace_file.new.store ≡ old.files = c.in-Ok.ensures.files in
    let files2 : S.files c.open_image.new.store ≡ old.files = c.in-Ok-open_image.ensures.files ∙ files1 in
    let opened1 : S.opened c.open_image.new.store ≡ old.opened ++ open_opening c.args.image.now d ∷ [] =
    c.in-Ok-open_image.ensures.opened ∙ ap (λ (os : List Opened). os ++ open_opening c.args.image.now d ∷ []) c.in-Ok.ensures.opened in
    let P : Option (List File) → Type 0 = λ fs. IsDeviceOf fs c.args.image.now d.content d.capacity d.is_flushed in
    let device = subst P files1 c.in-Ok-open_image.ensures.device in
    let stop = rw c.in-Err-made.is at c.make_run-made.ensures.stop in
    let same = rw c.in-Err-made.is at c.make_run-made.ensures.kept in
    let files = c.give_back.ensures.files ∙ ap (files_with_returned c.args.image.now n.content n.capacity n.is_flushed) files2 in
    let opened = c.give_back.ensures.opened ∙ ap (given_back c.args.image.now n.faults n.failed_call) opened1 in
    stops c.args.format c.args.image.now c.args.trace.now c.in-Ok.read d n old new c.in-Err-made.status refl sized none device c.in-Ok.ensures.read stop same files opened refl refl

pub returns-in-Ok-made-clause-back : goal.returns-in-Ok-made-clause-back
returns-in-Ok-made-clause-back g c =
    let S = g.S.Store in
    let D = g.S.Dev.Device in
    let d : DeviceSeen = seen_device D c.in-Ok-open_image.device in
    let n : DeviceSeen = seen_device D c.make_run-made.result.1 in
    let opened1 = c.in-Ok-open_image.ensures.opened ∙ ap (λ (os : List Opened). os ++ open_opening c.args.image.now d ∷ []) c.in-Ok.ensures.opened in
    none-out-back c.args.image.now d n (S.opened c.args.store.now) (S.opened c.give_back.new.self) c.requires (c.give_back.ensures.opened ∙ ap (given_back c.args.image.now n.faults n.failed_call) opened1)

pub returns-in-Err-made-clause-back : goal.returns-in-Err-made-clause-back
returns-in-Err-made-clause-back g c =
    let S = g.S.Store in
    let D = g.S.Dev.Device in
    let d : DeviceSeen = seen_device D c.in-Ok-open_image.device in
    let n : DeviceSeen = seen_device D c.make_run-made.result.1 in
    let opened1 = c.in-Ok-open_image.ensures.opened ∙ ap (λ (os : List Opened). os ++ open_opening c.args.image.now d ∷ []) c.in-Ok.ensures.opened in
    none-out-back c.args.image.now d n (S.opened c.args.store.now) (S.opened c.give_back.new.self) c.requires (c.give_back.ensures.opened ∙ ap (given_back c.args.image.now n.faults n.failed_call) opened1)

pub returns-in-Ok-made-clause-faults : goal.returns-in-Ok-made-clause-faults
returns-in-Ok-made-clause-faults g c =
    let S = g.S.Store in
    let D = g.S.Dev.Device in
    let K = g.K.Sink in
    let back = c.make_run-made.result.1 in
    let n : DeviceSeen = seen_device D back in
    let made = rw c.in-Ok-made.is at c.make_run-made.ensures.made in
    let w = made.1 in
    let counts = c.give_back.ensures.faults ∙ c.in-Ok-open_image.ensures.quiet ∙ c.in-Ok.ensures.quiet in
    let calls = c.give_back.ensures.call ∙ c.in-Ok-open_image.ensures.last ∙ c.in-Ok.ensures.last in
    record {
      call = call-stands (S.failed_call c.args.store.now) (S.failed_call c.give_back.new.self) c.write_out.result calls;
      store = store-stands (S.faults c.args.store.now) (S.faults c.give_back.new.self) c.write_out.result counts;
      sink = ends-stands n (device_faults w.nodes) c.in-Ok-made.made.fault (K.sent c.args.out.now) (K.sent c.write_out.new.out) (transcript guest_names c.in-Ok-made.made.history.events)
          (K.faults c.args.out.now) (K.faults c.write_out.new.out) c.write_out.result (closed-of c.args.format made.0 (seen_device D c.in-Ok-open_image.device) n w c.in-Ok-made.made.fault made.3).flushed c.write_out.ensures;
    }

pub returns-in-Err-made-clause-faults : goal.returns-in-Err-made-clause-faults
returns-in-Err-made-clause-faults g c =
    let S = g.S.Store in
    let counts = c.give_back.ensures.faults ∙ c.in-Ok-open_image.ensures.quiet ∙ c.in-Ok.ensures.quiet in
    let calls = c.give_back.ensures.call ∙ c.in-Ok-open_image.ensures.last ∙ c.in-Ok.ensures.last in
    record {
      call = call-stands (S.failed_call c.args.store.now) (S.failed_call c.give_back.new.self) c.in-Err-made.status calls;
      store = store-stands (S.faults c.args.store.now) (S.faults c.give_back.new.self) c.in-Err-made.status counts;
      sink = sink-stands (g.K.Sink.faults c.args.out.now) (g.K.Sink.faults c.args.out.now) c.in-Err-made.status refl;
    }
