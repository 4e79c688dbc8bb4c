use Rattle.std.proofs.Common.{rules, ◌≡◌, ◌∙◌, arith, refl, sym, Some}
use Rattle.std.proofs.lemmas.Grind.{common_steps}
use Rattle.blk_fakes.specs.Shelf.{told_as, shelf_place}
use Rattle.blk_fakes.proofs.Shelves.{has_file}
use Rattle.blk_fakes.proofs.store.MemStoreStore.open_file.Goals as goal

pub returns-then-fails-clause-cause : goal.returns-then-fails-clause-cause
returns-then-fails-clause-cause c =
    let place : shelf_place c.args.name.now c.args.self.now.files ≡ Some c.in-Some.at = rw (← c.self.view_is) (sym c.find.ensures ∙ c.in-Some.is) in
    (search rules, has_file c.args.name.now c.args.self.now.files c.in-Some.at place, grind (arith, common_steps))

pub returns-in-Ok-clause-device : goal.returns-in-Ok-clause-device
returns-in-Ok-clause-device c = (told_as c.args.name.now c.in-Ok.dev, rw (← c.self.view_is) c.in-Ok.ensures.told, refl, refl, refl)

pub returns-in-Ok-clause-cause : goal.returns-in-Ok-clause-cause
returns-in-Ok-clause-cause c = (search rules, (told_as c.args.name.now c.in-Ok.dev, rw (← c.self.view_is) c.in-Ok.ensures.told, tt))
