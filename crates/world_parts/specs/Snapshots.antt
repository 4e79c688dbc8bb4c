-- What the image of an overlay tells.
use Rattle.std.specs.Prelude.{◌≡◌, ◌↔◌, ℕ, Bool, false, List, Some}
use Rattle.q2_image.specs.Image.{Known}
use Rattle.qmp_codec.specs.Commands.{Cmd}
use Rattle.qmp_codec.specs.declared.command.Command.TheVariants as command
use Rattle.qmp_rules.specs.Table.{RunTable, id_named, has_name}
use Rattle.blk_nodes.specs.Nodes.{DeviceSeen, Nodes, device_in, file_of, row_at}
use Rattle.blk_nodes.specs.Overlays.{IsFresh}
use Rattle.blk_nodes.specs.declared.row.Driver.TheVariants.{Qcow2}
use Rattle.blk_nodes.specs.declared.row.Row.{Row}
use Rattle.flat_machine.specs.Imaging.{maps_some}

-- it is in a file of which these bytes are told
pub record IsInBytes (nodes : Nodes) (node : ℕ) (bytes : List ℕ) : Type 0 where
  pub row : Row
  pub image : Known
  pub there : row_at nodes node ≡ Some row
  pub driver : row.driver ≡ Qcow2 image
  pub file : ℕ
  pub below : file_of nodes node ≡ Some file
  pub device : DeviceSeen
  pub held : device_in nodes.devices file ≡ Some device
  pub content : device.content ≡ Some bytes

-- that it maps a cluster is told exactly where what is known of it says so, and so do the bytes
pub record TellsImage (nodes : Nodes) (node : ℕ) (maps : Bool) : Type 0 where
  pub known : (maps ≡ false) ↔ IsFresh nodes node
  pub held : (bytes : List ℕ) → IsInBytes nodes node bytes → maps ≡ maps_some bytes

abbrev pub TellsOverlay : RunTable → Nodes → List ℕ → List (List ℕ) → Type 0
TellsOverlay t nodes overlay mapped = (node : ℕ) → id_named t overlay ≡ Some node
    → TellsImage nodes node (has_name overlay mapped)

-- an overlay is told to map a cluster exactly where its image does
abbrev pub TellsMapped : RunTable → Nodes → Cmd → List (List ℕ) → Type 0
TellsMapped t nodes (command.BlockdevSnapshot c) mapped = TellsOverlay t nodes c.overlay mapped
TellsMapped t nodes c mapped = Unit {0}
