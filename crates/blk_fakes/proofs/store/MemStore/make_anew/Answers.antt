use Rattle.std.proofs.Common.{◌≡◌, ◌∙◌, [], ◌∷◌, ◌++◌, ap}
use Rattle.blk_base.specs.Files.{put_file}
use Rattle.blk_base.specs.declared.file.File.{File}
use Rattle.blk_fakes.specs.Disk.{DeviceState}
use Rattle.blk_fakes.specs.Shelf.{FileState, StoreState, told_as, told_files, zeroed}
use Rattle.blk_fakes.proofs.Shelves.{missing, not_held, file_added, made_at_end}
use Rattle.blk_fakes.proofs.store.MemStore.make_anew.Goals as goal

pub add_file-requires : goal.add_file-requires
add_file-requires c = not_held c.args.name.now c.args.self.now.files (missing c.args.name.now c.args.self.now.files c.requires.place)

pub returns-clause-ok : goal.returns-clause-ok
returns-clause-ok c =
    let zeros = ap (λ (d : DeviceState). told_as c.args.name.now d) c.in_ok-dev.ensures in
    ap told_files c.in-Ok.ensures.ok
    ∙ file_added c.args.name.now c.args.self.now.files c.in_ok-dev.dev (missing c.args.name.now c.args.self.now.files c.requires.place)
    ∙ ap (λ (f : File). put_file f (told_files c.args.self.now)) (rw (ap (λ (s : StoreState). s.room) c.self.view_is) at zeros)

pub returns-clause-devices : goal.returns-clause-devices
returns-clause-devices c =
    let room = ap (λ (s : StoreState). s.room) c.self.view_is in
    let dev : c.in_ok-dev.dev ≡ zeroed c.args.len c.args.self.now.room = rw room at c.in_ok-dev.ensures in
    let name = c.args.name.now in
    let files = c.args.self.now.files in
    ap (λ (s : StoreState). s.files) c.in-Ok.ensures.ok
    ∙ ap (λ (d : DeviceState). let f : FileState = record { name = name; device = d } in files ++ f ∷ []) dev
    ∙ made_at_end name files c.args.len c.args.self.now.room (missing name files c.requires.place)
