use Rattle.std.proofs.Common.{◌≡◌, ◌∙◌, ap}
use Rattle.blk_base.specs.Files.{put_file}
use Rattle.blk_base.specs.declared.file.File.{File}
use Rattle.blk_fakes.specs.Shelf.{StoreState, told_files, remade}
use Rattle.blk_fakes.proofs.Shelves.{put_at_place, zeros_told, made_at_place}
use Rattle.blk_fakes.proofs.store.MemStore.make_again.Goals as goal

pub returns-clause-ok : goal.returns-clause-ok
returns-clause-ok c =
    let room = ap (λ (s : StoreState). s.room) c.self.view_is in
    let zeros = zeros_told c.args.name.now c.in_ok-dev.dev c.device.result.now c.args.len c.self.inside.room c.in_ok-dev.ensures in
    ap told_files (c.set_device.ensures c.index.result.now)
    ∙ put_at_place c.args.name.now c.args.self.now.files c.args.at c.index.result.now c.in_ok-dev.dev c.requires.place
    ∙ ap (λ (f : File). put_file f (told_files c.args.self.now)) (rw room at zeros)

pub returns-clause-devices : goal.returns-clause-devices
returns-clause-devices c =
    let files = ap (λ (s : StoreState). s.files) c.self.view_is in
    let room = ap (λ (s : StoreState). s.room) c.self.view_is in
    let read = rw files at c.index.ensures in
    let dev : c.in_ok-dev.dev ≡ remade c.index.result.now.device c.args.len c.args.self.now.room =
    rw (room, c.device.ensures) at c.in_ok-dev.ensures in
    ap (λ (s : StoreState). s.files) (c.set_device.ensures c.index.result.now)
    ∙ made_at_place c.args.name.now c.args.self.now.files c.args.at c.index.result.now c.in_ok-dev.dev c.args.len c.args.self.now.room c.requires.place read dev
