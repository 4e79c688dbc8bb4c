-- Which images map a cluster, and that the flat machine says so.
use Rattle.std.specs.Prelude.{◌≡◌, ℕ, ◌==◌, Bool, true, false, not, List, [], ◌∷◌, find, Option, Some, is_some, option_map, unwrap_or}
use Rattle.q2_format.specs.Header.{header_of}
use Rattle.q2_format.specs.Sound.{IsSound}
use Rattle.blk_graph.specs.declared.kind.Kind.{Kind}
use Rattle.blk_graph.specs.declared.kind.Kind.TheVariants.{Qcow2}
use Rattle.qmp_rules.specs.declared.change.Change.{Change}
use Rattle.qmp_rules.specs.declared.change.Change.TheVariants as change
use Rattle.qmp_rules.specs.Table.{RunTable, node_by_id}
use Rattle.qmp_rules.specs.Changes.{changed}
use Rattle.blk_history.specs.Fold.{With}
use Rattle.flat_machine.specs.State.{State, Image}
use Rattle.flat_machine.specs.Contents.{maps_none}
use Rattle.flat_machine.specs.Changed.{stepped}
use Rattle.flat_machine.specs.Sights.{AgreesWith, mapped_at}
use Rattle.flat_machine.specs.Agreement.{Contents}
use Rattle.flat_machine.specs.Writing.{written_file}
use Rattle.flat_machine.specs.Standing.{IsOpenlyKnown}

-- ---- one image

-- a cluster of the image in a file has an entry, be it one that reads as zeros
unfoldable pub maps_some : List ℕ → Bool
maps_some file = not (maps_none file (header_of file))

abbrev pub image_at : List Image → ℕ → Option Image
image_at images node = find (λ image. image.node == node) images

abbrev pub is_qcow2 : Kind → Bool
is_qcow2 Qcow2 = true
is_qcow2 kind = false

abbrev pub is_qcow2_at : RunTable → ℕ → Bool
is_qcow2_at t node = unwrap_or (option_map (λ row. is_qcow2 row.kind) (node_by_id t node)) false

-- the file of each qcow2 node is there, and the image in it is sound
abbrev pub ImagesAreSound : RunTable → (List ℕ → Option (List ℕ)) → Type 0
ImagesAreSound t held = (node : ℕ) → is_qcow2_at t node ≡ true
    → With (written_file t node) (λ name. With (held name) IsSound)

-- There is word of the image of a qcow2 node, and of no other node. What is said is so of the image
-- in the file that the node writes.
pub record ShowsImage (s : State) (c : Contents) (node : ℕ) : Type 0 where
  pub noted : is_some (image_at s.images node) ≡ is_qcow2_at s.table node
  pub mapped : (name file : List ℕ) → written_file s.table node ≡ Some name
      → c.held name ≡ Some file → AgreesWith (mapped_at s.images node) (maps_some file)

abbrev pub ShowsImages : State → Contents → Type 0
ShowsImages s c = (node : ℕ) → ShowsImage s c node

-- ---- what keeps that so

-- no image gets another file
abbrev pub StayInFiles : RunTable → RunTable → Type 0
StayInFiles t now = (node : ℕ) (name : List ℕ) → is_qcow2_at t node ≡ true
    → written_file now node ≡ Some name → written_file t node ≡ Some name

-- A filter goes: it is no image, and parents that move stay over their files.
pub record PullKeepsImages (t : RunTable) (filter : ℕ) : Type 0 where
  pub other : is_qcow2_at t filter ≡ false
  pub file : StayInFiles t (changed t (change.PullFilter filter))

-- A file in which there is an image isn't spoiled, and parents of nodes that move stay over their
-- files where they are images. Of every other kind of change nothing more is asked.
abbrev pub KeepsImages : State → Change → Type 0
KeepsImages s (change.SpoilFile name) = IsOpenlyKnown s.table name
KeepsImages s (change.PutFilter row node) =
    StayInFiles s.table (changed s.table (change.PutFilter row node))
KeepsImages s (change.Move from to but) =
    StayInFiles s.table (changed s.table (change.Move from to but))
KeepsImages s (change.PullFilter filter) = PullKeepsImages s.table filter
KeepsImages s c = Unit {0}

abbrev pub AllKeepImages : State → List Change → Type 0
AllKeepImages s [] = Unit {0}
AllKeepImages s (c ∷ changes) = KeepsImages s c × AllKeepImages (stepped s c) changes

-- where the image of a node mapped a cluster it still does
abbrev pub KeepsMapping : RunTable → ℕ → Contents → Contents → Type 0
KeepsMapping t node old new = is_qcow2_at t node ≡ true → (name after : List ℕ)
    → written_file t node ≡ Some name → new.held name ≡ Some after
    → With (old.held name) (λ before. maps_some before ≡ true → maps_some after ≡ true)
