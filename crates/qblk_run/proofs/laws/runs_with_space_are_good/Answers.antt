use Rattle.std.proofs.Common.{◌∙◌, List, ap, sym}
use Rattle.std.specs.List.{filter_map}
use Rattle.blk_history.specs.declared.event.Event.{Event}
use Rattle.qblk_run.specs.Completeness.{full_in}
use Rattle.qblk_run.proofs.Unharmed.{none-full}
use Rattle.qblk_run.proofs.laws.runs_with_space_are_good.Goals as goal

pub returns : goal.returns
returns c = λ cast work had fault old new a run stood space. record {
  faults = run.quiet stood;
  full = ap (λ (h : List Event). filter_map full_in h) (sym run.worlds.all) ∙ none-full a.opening _ _ run.worlds.events run.worlds.near run.worlds.through space tt;
}
