-- What is told of a snapshot is what the flat machine says of its overlay's image.
use Rattle.std.proofs.Common.{◌≡◌, ℕ, true, false, inl, inr, List, [], ◌∷◌, sym, subst, Some}
use Rattle.std.specs.Prelude.{◌↔◌, is_some}
use Rattle.std.specs.List.{Contains}
use Rattle.blk_graph.proofs.Members.{Contains-cases, Contains-nil}
use Rattle.qmp_codec.specs.declared.command.Command.TheVariants as command
use Rattle.qmp_codec.specs.declared.nodes.Snapshot.{Snapshot}
use Rattle.qmp_rules.specs.declared.told.Told.{Told}
use Rattle.qmp_rules.specs.Table.{has_name, id_named}
use Rattle.flat_machine.specs.Sights.{MayMap}
use Rattle.flat_machine.specs.State.{State}
use Rattle.flat_machine.specs.declared.opening.Opening.{Opening}
use Rattle.blk_nodes.specs.Joined.{IsJoined}
use Rattle.blk_nodes.specs.Overlays.{IsFresh}
use Rattle.world_parts.specs.Coherent.{IsWholeWorld}
use Rattle.world_parts.specs.Comes.{ShowsState}
use Rattle.world_parts.specs.Face.{WorldSeen}
use Rattle.world_changes.specs.Changing.{TellsMappedAlone}
use Rattle.world_parts.proofs.ImageTold.{may_map}

pub may_be_told : (w : WorldSeen) → IsWholeWorld w → IsJoined w.nodes → (c : Snapshot (List ℕ)) (told : Told)
    → TellsMappedAlone w.table w.nodes (command.BlockdevSnapshot c) told → (o : Opening) (s : State) → is_some w.files ≡ true → ShowsState o s w
    → MayMap s (c.overlay ∷ []) told.mapped
may_be_told w whole joined c told tells o s some shows =
    may_map s w shows.table.table_is shows.images whole.coherent.alike joined whole.coherent.table.stands (whole.tell some) (c.overlay ∷ []) told.mapped
    (λ name node within named. by_name name node within named)
  where
    by_name : (name : List ℕ) (node : ℕ) → Contains (c.overlay ∷ []) name → id_named w.table name ≡ Some node
        → (has_name name told.mapped ≡ false) ↔ IsFresh w.nodes node
    by_name name node within named = elim (Contains-cases c.overlay [] name within) [
      | inl is ↦
          subst (λ (n : List ℕ). (has_name n told.mapped ≡ false) ↔ IsFresh w.nodes node) (sym is)
          (tells.maps node (subst (λ (n : List ℕ). id_named w.table n ≡ Some node) is named)).known
      | inr behind ↦ absurd (Contains-nil name behind)
    ]
