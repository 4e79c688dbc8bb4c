-- An addition, call by call: when a file is opened and a node can be added, what is answered, and what becomes of the store.
use Rattle.std.specs.Prelude.{◌≡◌, ℕ, ◌≤◌, Bool, List, Option, Some, None, IfSome, ◌≢◌, ◌⊎◌, ◌^◌, ◌<◌, true, false, IsTrue, length, Ok, Err, string_bytes}
use Rattle.blk_base.specs.Pieces.{Extent, end_of}
use Rattle.blk_graph.specs.Edits.{with_edge}
use Rattle.blk_graph.specs.Graph.{HasNode}
use Rattle.blk_graph.specs.declared.kind.Kind.TheVariants as kinds
use Rattle.q2_image.specs.Image.{Known}
use Rattle.blk_nodes.specs.Adding.{IsAllowed, file_edge, kind_with}
use Rattle.blk_nodes.specs.Contents.{told}
use Rattle.blk_nodes.specs.Joined.{IsFile, IsJoined}
use Rattle.blk_nodes.specs.Nodes.{Nodes, node_size, DeviceSeen, device_in}
use Rattle.blk_nodes.specs.Overlays.{Asked, HasRoomForNode, IsOpened, backing_node, backing_size, backing_stop, edges_for, IsUnopened}
use Rattle.qmp_codec.specs.declared.nodes.AddQcow2.{AddQcow2}
use Rattle.qmp_codec.specs.declared.nodes.AddRaw.{AddRaw}
use Rattle.qmp_codec.specs.declared.nodes.Added.{Added}
use Rattle.qmp_codec.specs.declared.nodes.Added.TheVariants as added
use Rattle.qmp_codec.specs.declared.nodes.FileRef.{FileRef}
use Rattle.qmp_codec.specs.declared.nodes.FileRef.TheVariants as file_ref
use Rattle.qmp_codec.specs.declared.nodes.InlineFile.{InlineFile}
use Rattle.qmp_asks.specs.Naming.{inline_name}
use Rattle.qmp_asks.specs.NodeAsks.{is_read_only}
use Rattle.qmp_rules.specs.Table.{RunTable, node_named}
use Rattle.qmp_rules.specs.declared.rows.NodeRecord.{NodeRecord}
use Rattle.world_parts.specs.Adding.{Adding, Taken, CountFits, IsLookReached, Opens, probe, unopened}
use Rattle.world_parts.specs.Joining.{HasAdded, HasInline, part_in, qcow2_asked}
use Rattle.blk_base.specs.Files.{is_out}
use Rattle.blk_base.specs.declared.file.Opened.{Opened}
use Rattle.q2_image.specs.declared.stop.ImageStop.{ImageStop}
use Rattle.q2_image.specs.declared.stop.ImageStop.TheVariants as stop
use Rattle.qmp_codec.specs.Commands.{Cmd}
use Rattle.qmp_rules.specs.Answers.{refusal_to, command_edits, returned}
use Rattle.qmp_rules.specs.Asks.{file_node}
use Rattle.qmp_rules.specs.Looks.{is_unopened}
use Rattle.qmp_rules.specs.declared.refusal.Refusal.{Refusal}
use Rattle.qmp_rules.specs.declared.refusal.Refusal.TheVariants.{Aborted}
use Rattle.qmp_rules.specs.declared.told.Told.{Told}
use Rattle.world_parts.specs.Stores.{StoreInRun}
use Rattle.world_parts.specs.Looking.{HasLooked, Site, site}
use Rattle.qmp_codec.specs.declared.command.Command.TheVariants as command
use Rattle.qmp_rules.specs.Changes.{all_changed}
use Rattle.qmp_rules.specs.Fitting.{AllChangesFit}
use Rattle.qmp_rules.specs.Room.{HasRoomForChanges, Roomy}
use Rattle.flat_machine.specs.Wiring.{TableAtRest}
use Rattle.world_additions.specs.declared.staging.Staged.{Staged}
use Rattle.world_additions.specs.declared.staging.Staged.TheVariants as staged
use Rattle.world_parts.specs.Coherent.{AreNodesOf}
use Rattle.world_parts.specs.Saying.{IsSaid}
use Rattle.world_parts.specs.Staging.{IsNotAdded, back_if, opened_name}

-- ---- when it can be added

pub record CanPutPart (nodes : Nodes) (name : List ℕ) (read_only : Bool) (file : ℕ)
    (part : Extent) : Type 0 where
  pub is_file : IsFile nodes file
  pub within : end_of part ≤ node_size nodes file
  pub fits : end_of part ≤ 9223372036854775808
  pub place : HasRoomForNode nodes name
  pub allowed : IsAllowed nodes (kind_with kinds.Raw read_only)
      (λ id. with_edge (file_edge id file))

pub record CanPutImage (nodes : Nodes) (asked : Asked) (image : Known) : Type 0 where
  pub file : IsFile nodes asked.file
  pub backed : IfSome (backing_node asked.backing) (HasNode nodes.graph)
  pub opened : IsOpened nodes.devices asked.file image
  pub fits : backing_stop image asked.backing (backing_size nodes asked.backing) ≡ None
  pub place : HasRoomForNode nodes asked.name
  pub allowed : IsAllowed nodes (kind_with kinds.Qcow2 asked.is_read_only) (edges_for asked)

pub record CanPutFilter (nodes : Nodes) (name : List ℕ) (read_only : Bool) (child : ℕ) : Type 0
  where
    pub is_node : HasNode nodes.graph child
    pub place : HasRoomForNode nodes name
    pub allowed : IsAllowed nodes (kind_with kinds.CopyOnRead read_only)
        (λ id. with_edge (file_edge id child))

-- ---- when the nodes of a command can be made

-- over a device, and then the node over that
pub record CanJoin (c : Adding) (file : InlineFile (List ℕ)) (device : Taken) (nodes : Nodes)
    (Next : Nodes → ℕ → Type 0) : Type 0 where
  pub place : HasRoomForNode nodes (inline_name c.node_name file.node_name)
  pub next : (between : Nodes) (node : ℕ) → HasInline c file device nodes between node
      → Next between node

-- over the node of a name
pub record CanJoinAt (t : RunTable) (name : List ℕ) (Can : NodeRecord → Type 0) : Type 0 where
  pub row : NodeRecord
  pub found : node_named t name ≡ Some row
  pub can : Can row

abbrev pub CanAddPart : RunTable → Adding → AddRaw (List ℕ) → FileRef (List ℕ) → Option Taken
    → Nodes
    → Type 0
CanAddPart t c raw (file_ref.Name name) None nodes =
    CanJoinAt t name
    (λ row. CanPutPart nodes c.node_name (is_read_only c.options) row.id (part_in raw row.size))
CanAddPart t c raw (file_ref.Inline file) (Some device) nodes =
    CanJoin c file device nodes
    (λ now node.
    CanPutPart now c.node_name (is_read_only c.options) node (part_in raw device.size))
CanAddPart t c raw file out nodes = ⊥

abbrev pub CanAddImage : RunTable → Adding → AddQcow2 (List ℕ) → FileRef (List ℕ) → Option Taken
    → Option Known → Nodes → Type 0
CanAddImage t c qcow2 (file_ref.Name name) None (Some image) nodes =
    CanJoinAt t name (λ row. CanPutImage nodes (qcow2_asked t c qcow2 row.id) image)
CanAddImage t c qcow2 (file_ref.Inline file) (Some device) (Some image) nodes =
    CanJoin c file device nodes (λ now node. CanPutImage now (qcow2_asked t c qcow2 node) image)
CanAddImage t c qcow2 file out image nodes = ⊥

abbrev pub CanAddBy : RunTable → Adding → Added (List ℕ) → Option Taken → Option Known → Nodes
    → Type 0
CanAddBy t c (added.File filename) (Some device) image nodes = HasRoomForNode nodes c.node_name
CanAddBy t c (added.Raw raw) out image nodes = CanAddPart t c raw raw.file out nodes
CanAddBy t c (added.Qcow2 qcow2) out image nodes =
    CanAddImage t c qcow2 qcow2.file out image nodes
CanAddBy t c (added.CopyOnRead name) None image nodes =
    CanJoinAt t name (λ row. CanPutFilter nodes c.node_name (is_read_only c.options) row.id)
CanAddBy t c driver out image nodes = ⊥

abbrev pub CanAdd : RunTable → Adding → Option Taken → Option Known → Nodes → Type 0
CanAdd t c out image nodes = CanAddBy t c c.driver out image nodes

-- ---- whether a file is opened

-- It isn't where a refusal stands before the look, a node stands for it, or it was used.
abbrev pub MayOpen : RunTable → Cmd → Opens → Bool → Type 0
MayOpen t c at true = (is_unopened t at.filename ≡ false) × IsLookReached t c at.what
MayOpen t c at false =
    (refusal_to t (probe at.what) c ≢ Some Aborted) ⊎ (is_unopened t at.filename ≡ true)

-- a file for which no node stands, and that wasn't used, isn't out
abbrev pub AreIn : RunTable → List Opened → Type 0
AreIn t opened = (name : List ℕ) → is_unopened t name ≡ false → is_out name opened ≡ false

-- ---- what is called

-- a device but for its count, and which call failed last
pub record IsSameButFaults (old new : Taken) : Type 0 where
  pub same : new ≡ record old { faults = new.faults; failed_call = new.failed_call }
  pub faults : old.faults ≤ new.faults

-- a `file` node of the table is one over a device
abbrev pub HaveFileNodes : RunTable → Nodes → Type 0
HaveFileNodes t nodes =
    (name : List ℕ) (row : NodeRecord) → file_node t name ≡ Some row → IsFile nodes row.id

-- why the image in a `file` node isn't opened
pub record IsUnopenedFor (old new : Nodes) (node : ℕ) (why : Refusal) : Type 0 where
  pub device : DeviceSeen
  pub held : device_in old.devices node ≡ Some device
  pub cause : ImageStop
  pub memory : cause ≢ stop.NoMemory
  pub fits : CountFits cause
  pub numbered : device.number.0 < 2 ^ 32
  pub stopped : IsUnopened old.devices new.devices node cause
  pub is : why ≡ unopened device.number cause

-- ---- a device that no node has

-- a device that is out for the command
abbrev pub IsOutForAddition : Added (List ℕ) → Option Taken → StoreInRun → Type 0
IsOutForAddition driver None store = Unit {0}
IsOutForAddition driver (Some device) store = IsTrue (is_out (opened_name driver) store.opened)

-- ---- the answer

-- the command is refused for this
pub record IsStagedNo (t : RunTable) (given : List ℕ) (told : Told) (c : Cmd)
    (text : List ℕ) : Type 0
  where
    pub cause : Refusal
    pub is : refusal_to t told c ≡ Some cause
    pub said : IsSaid given (Err cause) text

pub record IsCommandAccepted (t : RunTable) (given : List ℕ) (told : Told) (c : Cmd)
    (text : List ℕ) : Type 0
  where
    pub none : refusal_to t told c ≡ None
    pub said : IsSaid given (Ok (returned t told c)) text

-- or accepted, and there is memory for its changes
abbrev pub IsStaged : Roomy → List ℕ → Told → Cmd → Staged → Type 0
IsStaged names given told c (staged.Refused text) =
    IsStagedNo names.table given told c (string_bytes text)
IsStaged names given told c (staged.Accepted edits text) =
    IsCommandAccepted names.table given told c (string_bytes text)
    × (edits ≡ command_edits names.table told c) × HasRoomForChanges (length edits) names
    × AllChangesFit names.table edits

-- ---- the whole

-- what an addition needs of the table, the openings and the nodes
pub record CanLook (t : RunTable) (x : Site) : Type 0 where
  pub alike : AreNodesOf t x.nodes
  pub rests : TableAtRest t
  pub closed : AreIn t x.store.opened

-- it was refused after these looks
pub record IsRefusedSo (t : RunTable) (given : List ℕ) (c : Adding) (told : Told)
    (out : Option Taken)
    (between new : Site) (now : RunTable) (text : List ℕ) : Type 0 where
  pub staged : IsStagedNo t given told (command.BlockdevAdd c) text
  pub is : new ≡ site (back_if c.driver out between.store) between.nodes
  pub table : now ≡ t

-- or its nodes were added
pub record IsAddedSo (t : RunTable) (given : List ℕ) (c : Adding) (told : Told) (out : Option Taken)
    (image : Option Known) (between new : Site) (now : RunTable) (text : List ℕ) : Type 0 where
  pub accepted : IsCommandAccepted t given told (command.BlockdevAdd c) text
  pub added : HasAdded t c out image between.nodes new.nodes
  pub store : new.store ≡ between.store
  pub table : now ≡ all_changed t (command_edits t told (command.BlockdevAdd c))

abbrev pub HasAdditionEnded : RunTable → List ℕ → Adding → Told → Option Taken → Option Known → Site
    → Site
    → RunTable → List ℕ → Type 0
HasAdditionEnded t given c told out image between new now text =
    IsRefusedSo t given c told out between new now text
    ⊎ IsAddedSo t given c told out image between new now text

pub record IsAdditionOf (t : RunTable) (given : List ℕ) (c : Adding) (old new : Site)
    (now : RunTable)
    (text : List ℕ) : Type 0 where
  pub between : Site
  pub out : Option Taken
  pub image : Option Known
  pub told : Told
  pub looked : HasLooked t c old between out image told
  pub joined : IsJoined between.nodes
  pub ends : HasAdditionEnded t given c told out image between new now text

-- ---- by the command

abbrev pub is_addition : Cmd → Bool
is_addition (command.BlockdevAdd c) = true
is_addition c = false

abbrev pub IsAdditionBy : RunTable → List ℕ → Cmd → Site → Site → RunTable → List ℕ → Type 0
IsAdditionBy t given (command.BlockdevAdd c) old new now text =
    IsAdditionOf t given c old new now text
IsAdditionBy t given c old new now text = ⊥

abbrev pub IsNotAddedBy : RunTable → Cmd → Site → Site → Type 0
IsNotAddedBy t (command.BlockdevAdd c) old new = IsNotAdded t c old new
IsNotAddedBy t c old new = ⊥
