use Rattle.std.proofs.Common.{refl}
use Rattle.qblk_run.proofs.Falling.{run-falls}
use Rattle.qblk_run.proofs.laws.runs_fall_into_events.Goals as goal

pub returns : goal.returns
returns c = λ cast work had fault old new a run told.
    run-falls a.opening _ _ run.worlds.events run.worlds.near a.events refl told run.worlds.through run.worlds.all
