use Rattle.std.proofs.Common.{◌∙◌, arith, ap}
use Rattle.blk_fakes.specs.Shelf.{FileState, StoreState, told_files}
use Rattle.blk_fakes.proofs.Shelves.{put_at_place, device_at_place}
use Rattle.blk_fakes.proofs.store.MemStoreStore.give_back.Goals as goal

pub returns-clause-files : goal.returns-clause-files
returns-clause-files c =
    let d : FileState = record { name = c.args.name.now; device = c.args.dev } in
    ap told_files c.set_returned.ensures
    ∙ ap told_files (c.set_device.ensures d)
    ∙ (put_at_place c.args.name.now c.args.self.now.files c.place_of_out-at.result d c.args.dev c.place_of_out-at.ensures)

pub returns-clause-opened : goal.returns-clause-opened
returns-clause-opened c =
    let d : FileState = record { name = c.args.name.now; device = c.args.dev } in
    let kept = ap (λ (s : StoreState). s.opened) (c.set_device.ensures d) in
    rw (kept, c.faults-faults.ensures) at (ap (λ (s : StoreState). s.opened) c.set_returned.ensures)

pub returns-clause-room : goal.returns-clause-room
returns-clause-room c =
    let d : FileState = record { name = c.args.name.now; device = c.args.dev } in
    ap (λ (s : StoreState). s.room) c.set_returned.ensures ∙ ap (λ (s : StoreState). s.room) (c.set_device.ensures d)

pub returns-clause-faults : goal.returns-clause-faults
returns-clause-faults c =
    let d : FileState = record { name = c.args.name.now; device = c.args.dev } in
    omega (arith, ap (λ (s : StoreState). s.calls.faults) c.set_returned.ensures, ap (λ (s : StoreState). s.calls.faults) (c.set_device.ensures d))

pub returns-clause-devices : goal.returns-clause-devices
returns-clause-devices c =
    let d : FileState = record { name = c.args.name.now; device = c.args.dev } in
    ap (λ (s : StoreState). s.files) c.set_returned.ensures
    ∙ ap (λ (s : StoreState). s.files) (c.set_device.ensures d)
    ∙ device_at_place c.args.name.now c.args.self.now.files c.place_of_out-at.result d c.args.dev c.place_of_out-at.ensures

pub returns-clause-calls : goal.returns-clause-calls
returns-clause-calls c =
    let d : FileState = record { name = c.args.name.now; device = c.args.dev } in
    ap (λ (s : StoreState). s.calls) c.set_returned.ensures ∙ ap (λ (s : StoreState). s.calls) (c.set_device.ensures d)
