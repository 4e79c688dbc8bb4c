-- What a command drained before it was accepted.
use Rattle.std.proofs.Common.{List, ◌++◌, Ok}
use Rattle.std.specs.Prelude.{All, Contains}
use Rattle.std.proofs.lemmas.List.Elements.{All-nil, All-weaker, All-contains, All-contains_itself, Contains-append_left}
use Rattle.qmp_codec.specs.Commands.{Cmd}
use Rattle.qmp_codec.specs.declared.command.Command.TheVariants as command
use Rattle.qmp_rules.specs.Table.{RunTable}
use Rattle.flat_machine.specs.State.{Guest}
use Rattle.flat_machine.specs.Marks.{AreCalm, IsCalm, action_marks, backup_sources, drained_by, snapshot_marks}

All-left : {X : Type 0} (P : X → Type 0) (xs ys : List X) → All P (xs ++ ys) → All P xs
All-left P xs ys all =
    All-weaker (Contains xs) P (λ x there. All-contains P (xs ++ ys) x all (Contains-append_left xs ys x there)) xs (All-contains_itself xs)

-- what the reply to a command marks, the command has drained
pub marked_calm : (t : RunTable) (guests : List Guest) (c : Cmd) → AreCalm t guests (drained_by t c)
    → AreCalm t guests (snapshot_marks t (Ok c))
marked_calm t guests (command.BlockdevSnapshot c) calm = calm
marked_calm t guests (command.Transaction c) calm =
    All-left (IsCalm t guests) (action_marks t c.actions) (backup_sources t c.actions) calm
marked_calm t guests _ calm = All-nil (IsCalm t guests)
