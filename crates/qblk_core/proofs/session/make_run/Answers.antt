use Rattle.std.proofs.Common.{subst}
use Rattle.qblk_core.specs.Face.{SessionSeen}
use Rattle.qblk_core.specs.ImageNodes.{seen_device}
use Rattle.qblk_core.specs.Requests.{RequestsDone}
use Rattle.qblk_core.proofs.Sessions.{begun, made-run, trace-stops}
use Rattle.qblk_core.proofs.session.make_run.Goals as goal

pub returns-in-Err-judge-clause-stop : goal.returns-in-Err-judge-clause-stop
returns-in-Err-judge-clause-stop g c =
    let opened = c.in-Ok.ensures.opened in
    trace-stops c.args.format c.args.image.now c.args.trace.now c.args.read c.in-Ok.opened.0 (seen_device g.D.Device c.args.device) (seen_device g.D.Device c.device_of.result) c.in-Err-judge.status opened.made opened.disks
    (λ b told. g.met.D.Device.told_size c.args.device b told) c.device_of.ensures c.in-Err-judge.ensures.err

pub returns-clause-made : goal.returns-clause-made
returns-clause-made g c =
    let opened = c.in-Ok.ensures.opened in
    let ok = c.in-Ok-judge.ensures.ok in
    let p = c.in-Ok-judge.prepared in
    let back = c.finish-device.result.0 in
    let w = c.run_requests.new.engine in
    let closed = c.finish-device.ensures.closed in
    let first = c.in-Ok.opened.0 in
    let done : RequestsDone (begun first p.history) w p.ops.items = subst (λ (e : SessionSeen). RequestsDone e w p.ops.items) c.new-engine.ensures c.run_requests.ensures in
    let whole = made-run c.args.format first closed.0 closed.1 (seen_device g.D.Device c.args.device) (seen_device g.D.Device back) w p.history p.ops.items ok.0 c.finish-device.result.2
    opened.made opened.disks (λ b told. g.met.D.Device.told_size c.args.device b told) ok.2 ok.3.empty done c.finish-device.ensures.one closed.2
    (λ b told. g.met.D.Device.told_flushed back b told) (λ b told. g.met.D.Device.told_size back b told) in
    (ok.0, w, ok.1, whole, c.finish-device.ensures.history, ok.3.named, ok.3.blank, ok.3.line_room)
