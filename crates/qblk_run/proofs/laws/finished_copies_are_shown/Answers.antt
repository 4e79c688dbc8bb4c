use Rattle.std.proofs.Common.{refl}
use Rattle.qblk_run.proofs.Shown.{run_shown}
use Rattle.qblk_run.proofs.laws.finished_copies_are_shown.Goals as goal

pub returns : goal.returns
returns c = λ cast work had fault old new a run told.
    run_shown a.opening _ _ run.worlds.events run.worlds.near a.events refl told run.worlds.through run.worlds.all
