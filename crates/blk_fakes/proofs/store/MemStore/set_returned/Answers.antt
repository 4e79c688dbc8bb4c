use Rattle.std.proofs.Common.{◌≡◌, ◌∙◌, refl, sym, ap, Some, None}
use Rattle.std.specs.List.{position}
use Rattle.blk_base.specs.Files.{is_out_as}
use Rattle.blk_fakes.specs.Shelf.{StoreState}
use Rattle.blk_fakes.proofs.Shelves.{back_read, back_missing, out_back}
use Rattle.blk_fakes.proofs.store.MemStore.set_returned.Goals as goal

pub invariant_of-self : goal.invariant_of-self
invariant_of-self c = λ q out.
    let name = c.args.name.now in
    let opened = c.self.inside.openings.items in
    let place : position (is_out_as name) opened ≡ Some c.in-Some.at = rw (ap (λ (s : StoreState). s.opened) c.self.view_is) (sym c.place_of_opening.ensures.place ∙ c.in-Some.is) in
    let back = back_read name c.args.faults None opened c.in-Some.at c.index_mut-opening.result.now c.set_returned.new.self place c.index_mut-opening.ensures.value c.set_returned.ensures in
    c.self.invariant q (out_back q name c.args.faults None opened (rw back at out))

pub returns-in-Some : goal.returns-in-Some
returns-in-Some c =
    let name = c.args.name.now in
    let opened = c.self.inside.openings.items in
    let place : position (is_out_as name) opened ≡ Some c.in-Some.at = rw (ap (λ (s : StoreState). s.opened) c.self.view_is) (sym c.place_of_opening.ensures.place ∙ c.in-Some.is) in
    let back = back_read name c.args.faults None opened c.in-Some.at c.index_mut-opening.result.now c.set_returned.new.self place c.index_mut-opening.ensures.value c.set_returned.ensures in
    rw (← c.self.view_is, back) refl

pub returns-in-None : goal.returns-in-None
returns-in-None c =
    rw (back_missing c.args.name.now c.args.faults None c.args.self.now.opened (sym c.place_of_opening.ensures.place ∙ c.in-None.is)) refl
