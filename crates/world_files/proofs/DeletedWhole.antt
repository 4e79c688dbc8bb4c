-- Nodes that go one after another from a world that tells its files, as the flat machine makes it.
use Rattle.std.proofs.Common.{◌≡◌, ◌≢◌, ℕ, true, List, Option, Some, None, refl, sym, ◌∙◌, subst}
use Rattle.std.specs.Prelude.{is_some}
use Rattle.std.proofs.lemmas.List.{get_or-set_other}
use Rattle.blk_base.specs.declared.file.File.{File as StoreFile}
use Rattle.blk_graph.proofs.Members.{find-Some}
use Rattle.flat_machine.specs.Performing.{Removes}
use Rattle.flat_machine.specs.Wiring.{AreFileNodes, StandAlone}
use Rattle.flat_machine.specs.State.{State}
use Rattle.blk_nodes.specs.Contents.{disk_of, Unfolds}
use Rattle.blk_nodes.specs.Dropping.{nodes_without}
use Rattle.blk_nodes.specs.Nodes.{DeviceSeen, AreTold, is_device_of, device_in, row_at}
use Rattle.blk_nodes.specs.declared.row.Row.{Row}
use Rattle.world_parts.specs.Deleting.{TellsFlush, ground_of, HasLeft}
use Rattle.world_files.specs.Deletions.{CanLeave, after_deletion}
use Rattle.world_parts.specs.Face.{WorldSeen, contents_of}
use Rattle.world_files.proofs.DeletedContents.{removes, no_disk}
use Rattle.world_files.proofs.DeletedSteps.{Parts}

-- what is true of a world that tells its files
pub record WorldTells (w : WorldSeen) : Type 0 where
  pub parts : Parts w.table (ground_of w)
  pub unfolds : Unfolds w.nodes
  pub alone : StandAlone w.table
  pub drivers : AreFileNodes w.table
  pub all : AreTold w.nodes.devices
  pub files : List StoreFile
  pub told : w.files ≡ Some files

module _ (w : WorldSeen) (node : ℕ) (tells : WorldTells w) (can : CanLeave w.table (ground_of w) node) (has : HasLeft (ground_of w) node) where
  abbrev v : WorldSeen
  v = after_deletion node w

  parts : Parts w.table (ground_of w)
  parts = tells.parts

  flushed : (d : DeviceSeen) → device_in w.nodes.devices node ≡ Some d → is_some d.is_flushed ≡ true
  flushed d is =
      let tell : TellsFlush (Some d) = subst TellsFlush is has.flush in
      tell (tells.all d (find-Some (is_device_of node) w.nodes.devices d is).0)

  -- other nodes read as before, those that aren't there too
  disks : (other : ℕ) → other ≢ node → disk_of (nodes_without node w.nodes) other ≡ disk_of w.nodes other
  disks other apart = by_row (row_at (nodes_without node w.nodes) other) refl
    where
      same : row_at (nodes_without node w.nodes) other ≡ row_at w.nodes other
      same = get_or-set_other w.nodes.rows node other None None apart

      by_row : (row : Option Row) → row_at (nodes_without node w.nodes) other ≡ row → disk_of (nodes_without node w.nodes) other ≡ disk_of w.nodes other
      by_row None is = no_disk (nodes_without node w.nodes) other is ∙ sym (no_disk w.nodes other (sym same ∙ is))
      by_row (Some row) is = has.disks other (has.joined.only other (rw is refl))

  -- the node goes as the flat machine says
  pub step_removes : (s : State) → s.table.nodes ≡ w.table.nodes → s.table.edges ≡ w.table.edges → Removes s node (contents_of w) (contents_of v)
  step_removes s rows edges =
      removes w node parts.joined tells.unfolds parts.alike parts.apart tells.alone tells.drivers tells.all parts.out tells.files tells.told
      s rows edges flushed disks
