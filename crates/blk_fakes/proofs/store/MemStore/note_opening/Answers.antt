use Rattle.std.proofs.Common.{◌≡◌, ap, IsTrue}
use Rattle.std.specs.Prelude.{is_ok}
use Rattle.blk_base.specs.declared.file.Opened.{Opened}
use Rattle.blk_fakes.specs.Shelf.{StoreState, is_held}
use Rattle.blk_fakes.proofs.Shelves.{out_push}
use Rattle.blk_fakes.proofs.store.MemStore.note_opening.Goals as goal

pub invariant_of-self : goal.invariant_of-self
invariant_of-self c = λ q out.
    let files = c.self.inside.files.items in
    let held : IsTrue (is_held c.args.name.now files) = rw (ap (λ (s : StoreState). s.files) c.self.view_is) c.requires in
    let named : c.in_ok-opening.opening.name ≡ c.args.name.now = ap (λ (o : Opened). o.name) c.in_ok-opening.ensures in
    out_push q c.in_ok-opening.opening c.self.inside.openings.items files (is_ok c.push.result) (c.self.invariant q) (rw named held) (rw c.push.ensures.items at out)

pub invariant_of-self-2 : goal.invariant_of-self-2
invariant_of-self-2 c = λ q out.
    let files = c.self.inside.files.items in
    let held : IsTrue (is_held c.args.name.now files) = rw (ap (λ (s : StoreState). s.files) c.self.view_is) c.requires in
    let named : c.in_ok-opening.opening.name ≡ c.args.name.now = ap (λ (o : Opened). o.name) c.in_ok-opening.ensures in
    out_push q c.in_ok-opening.opening c.self.inside.openings.items files (is_ok c.push.result) (c.self.invariant q) (rw named held) (rw c.push.ensures.items at out)
