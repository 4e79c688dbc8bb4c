use Rattle.std.proofs.Common.{◌≡◌, ◌∙◌, refl, sym, ap, Some}
use Rattle.std.specs.List.{position}
use Rattle.blk_base.specs.Files.{is_out_as}
use Rattle.blk_files.specs.Seen.{SystemStore}
use Rattle.blk_files.proofs.Returns.{back_read, back_missing}
use Rattle.blk_files.proofs.store.FileStore.set_returned.Goals as goal

pub returns-in-Some : goal.returns-in-Some
returns-in-Some g c =
    let name = c.args.name.now in
    let opened = c.self.inside.openings.items in
    let place : position (is_out_as name) opened ≡ Some c.in-Some.at = rw (ap (λ (s : SystemStore). s.opened) c.self.view_is) (sym c.place_of_opening.ensures.place ∙ c.in-Some.is) in
    let back = back_read name c.args.faults c.args.failed_call opened c.in-Some.at c.index_mut-opening.result.now c.set_returned.new.self place c.index_mut-opening.ensures.value c.set_returned.ensures in
    rw (← c.self.view_is, back) refl

pub returns-in-None : goal.returns-in-None
returns-in-None g c =
    rw (back_missing c.args.name.now c.args.faults c.args.failed_call c.args.self.now.opened (sym c.place_of_opening.ensures.place ∙ c.in-None.is)) refl
