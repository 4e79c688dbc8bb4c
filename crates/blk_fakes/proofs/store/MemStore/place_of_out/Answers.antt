use Rattle.std.proofs.Common.{◌∙◌, sym, ap, IsTrue}
use Rattle.blk_fakes.specs.Shelf.{StoreState, is_held}
use Rattle.blk_fakes.proofs.Shelves.{missing, not_held}
use Rattle.blk_fakes.proofs.store.MemStore.place_of_out.Goals as goal

pub unreachable-requires : goal.unreachable-requires
unreachable-requires c =
    let none = not_held c.args.name.now c.args.self.now.files (missing c.args.name.now c.args.self.now.files (sym c.find.ensures ∙ c.in-None.is)) in
    let held = c.self.invariant c.args.name.now (rw (ap (λ (s : StoreState). s.opened) c.self.view_is) c.requires) in
    let still : IsTrue (is_held c.args.name.now c.args.self.now.files) = rw (ap (λ (s : StoreState). s.files) c.self.view_is) at held in
    cc
