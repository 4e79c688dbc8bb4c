-- What a change of the table is in the world: when it can be made, and what it does to nodes and files.
use Rattle.std.specs.Prelude.{◌≡◌, ◌≢◌, ℕ, true, All, max, List, [], ◌∷◌, length, replicate, Option, Some, None, IsSome, option_map, unwrap_or}
use Rattle.q2_format.specs.Contents.{file_disk, raw_disk, image_disk}
use Rattle.q2_format.specs.Header.{header_of}
use Rattle.q2_format.specs.Created.{Creation, CanBeCreated, IsCreated, created_length, creation_of}
use Rattle.blk_graph.specs.declared.edge.Role.TheVariants.{File, Backing}
use Rattle.qmp_rules.specs.declared.change.NewDisk.{NewDisk}
use Rattle.qmp_rules.specs.declared.change.NewDisk.TheVariants.{OfNode, OfStart}
use Rattle.blk_graph.specs.declared.kind.Kind.{Kind}
use Rattle.blk_graph.specs.declared.kind.Kind.TheVariants.{Protocol, Raw, Qcow2}
use Rattle.qmp_rules.specs.declared.rows.NodeRecord.{NodeRecord}
use Rattle.qmp_rules.specs.declared.change.Change.{Change}
use Rattle.qmp_rules.specs.declared.change.Change.TheVariants as change
use Rattle.qmp_rules.specs.Table.{node_by_id, child, has_name}
use Rattle.qmp_rules.specs.Chains.{filter_role}
use Rattle.qmp_rules.specs.Asks.{name_of_file}
use Rattle.blk_history.specs.Fold.{With}
use Rattle.flat_machine.specs.State.{State, Content, Bytes, Blank, Unknown, content_in, filename_of}
use Rattle.flat_machine.specs.Contents.{maps_none}
use Rattle.flat_machine.specs.Changed.{content_under, own_filename, written_file, format_name, new_bytes, stepped}
use Rattle.flat_machine.specs.Final.{IsDiskIn}
use Rattle.flat_machine.specs.Agreement.{Contents, HasDisk}

-- ---- when a change can be made, by the state alone

-- no node has the id yet
abbrev pub IsNewNode : State → NodeRecord → Type 0
IsNewNode s row = node_by_id s.table row.id ≡ None

-- all bytes of the file are known
abbrev pub IsWholly : Content → Type 0
IsWholly content = (bytes : List ℕ) × (content ≡ Bytes bytes)

-- a `file` node over a file whose bytes are known
pub record CanAddFile (s : State) (row : NodeRecord) : Type 0 where
  pub fresh : IsNewNode s row
  pub driver : row.kind ≡ Protocol
  pub known : With (content_in s.files (name_of_file row)) IsWholly

-- a backing node has a flat disk of its own
abbrev pub IsBacking : State → Option ℕ → Type 0
IsBacking s None = Unit {0}
IsBacking s (Some node) = With (node_by_id s.table node) HasDisk

-- a raw node over a `file` node with a flat disk, or a qcow2 node over a file of which all is known that its disk needs
abbrev pub IsReadable : Content → Type 0
IsReadable (Bytes bytes) = Unit {0}
IsReadable (Blank new len) = Unit {0}
IsReadable content = ⊥

abbrev pub CanFileBeRead : State → ℕ → Kind → Type 0
CanFileBeRead s file Raw = With (node_by_id s.table file) HasDisk
CanFileBeRead s file Qcow2 = With (content_under s file) IsReadable
CanFileBeRead s file driver = ⊥

pub record CanAddFormat (s : State) (row : NodeRecord) (file : ℕ) (backing : Option ℕ) : Type 0
  where
    pub fresh : IsNewNode s row
    pub readable : CanFileBeRead s file row.kind
    pub backed : IsBacking s backing

pub record CanAddFilter (s : State) (row : NodeRecord) : Type 0 where
  pub fresh : IsNewNode s row
  pub filter : IsSome (filter_role row.kind)

-- The header of an image may be written: of its file nothing is known, no disk is left in it, and it was named for that; the
-- `file` node under it has no disk.
pub record CanRewrite (s : State) (node : ℕ) : Type 0 where
  pub under : (file : ℕ) (row : NodeRecord) → child s.table node File ≡ Some file
      → node_by_id s.table file ≡ Some row → HasDisk row → ⊥
  pub known : (name : List ℕ) → written_file s.table node ≡ Some name
      → content_in s.files name ≡ Some Unknown
  pub left : (name : List ℕ) → written_file s.table node ≡ Some name
      → All (λ l. l.file ≢ name) s.left
  pub named : (name : List ℕ) → written_file s.table node ≡ Some name → has_name name s.named ≡ true

-- what a node reads as that is settled like another one is a disk
abbrev pub IsSettledLike : State → NewDisk → Type 0
IsSettledLike s (OfNode source) = With (node_by_id s.table source) HasDisk
IsSettledLike s (OfStart job) = Unit {0}

abbrev pub Can : State → Change → Type 0
Can s (change.AddFile row) = CanAddFile s row
Can s (change.AddFormat row file backing) = CanAddFormat s row file backing
Can s (change.AddFilter row child) = CanAddFilter s row
Can s (change.PutFilter row node) = CanAddFilter s row
Can s (change.Attach overlay node) = With (node_by_id s.table node) HasDisk
Can s (change.Rebase node backing) = CanRewrite s node
Can s (change.Settle node disk) = IsSettledLike s disk
Can s c = Unit {0}

-- ---- what it does

-- nodes but these read the same
abbrev pub ReadSame : (ℕ → Type 0) → Contents → Contents → Type 0
ReadSame but old new = (node : ℕ) → (but node → ⊥) → new.reads node ≡ old.reads node

abbrev pub HeldSame : (List ℕ → Type 0) → Contents → Contents → Type 0
HeldSame but old new = (name : List ℕ) → (but name → ⊥) → new.held name ≡ old.held name

abbrev pub Nothing : {A : Type 0} → A → Type 0
Nothing a = ⊥

-- nothing changes
pub record IsQuiet (old new : Contents) : Type 0 where
  pub nodes : ReadSame Nothing old new
  pub files : HeldSame Nothing old new

-- a filter goes, and with it what it read as
pub record Pulls (filter : ℕ) (old new : Contents) : Type 0 where
  pub nodes : ReadSame (λ node. node ≡ filter) old new
  pub files : HeldSame Nothing old new

-- one node, which may be new, reads so from then on
pub record Puts (node : ℕ) (bytes : List ℕ) (old new : Contents) : Type 0 where
  pub nodes : ReadSame (λ other. other ≡ node) old new
  pub files : HeldSame Nothing old new
  pub reads_as : new.reads node ≡ bytes

-- a node goes that reads as its file alone, where it has no backing node
pub record Removes (s : State) (node : ℕ) (old new : Contents) : Type 0 where
  pub nodes : ReadSame (λ other. other ≡ node) old new
  pub files : HeldSame Nothing old new
  pub alone : (row : NodeRecord) → node_by_id s.table node ≡ Some row
      → child s.table node Backing ≡ None
      → (name : List ℕ) → own_filename s.table row row.kind ≡ Some name
      → With (old.held name) (IsDiskIn row.kind row.offset (old.reads node))

-- a file alone changes, and no node reads otherwise but these
pub record ChangesFileAlone (but : ℕ → Type 0) (name : List ℕ) (old new : Contents) : Type 0 where
  pub nodes : ReadSame but old new
  pub files : HeldSame (λ other. other ≡ name) old new

-- an image is created over what a file holds
abbrev pub held_bytes : Contents → List ℕ → List ℕ
held_bytes c name = unwrap_or (c.held name) []

pub record IsFormatted (new_image : Creation) (old bytes : List ℕ) : Type 0 where
  pub can : CanBeCreated new_image.size new_image.name new_image.format
  pub created : IsCreated new_image bytes
  pub length_is : length bytes ≡ max (length old) (created_length new_image)

abbrev pub backing_reads : Contents → Option ℕ → List ℕ
backing_reads c None = []
backing_reads c (Some node) = c.reads node

-- what a format node reads as when it is added
abbrev pub format_as : State → Contents → NodeRecord → ℕ → Option ℕ → Kind → List ℕ
format_as s c row file backing Raw = raw_disk row.offset row.size (c.reads file)
format_as s c row file backing Qcow2 =
    image_disk (held_bytes c (unwrap_or (filename_of s.table file) [])) (backing_reads c backing)
format_as s c row file backing driver = []

-- a header is rewritten, no disk is another one, and the image maps a cluster where it did
pub record Rewrites (s : State) (node : ℕ) (old new : Contents) : Type 0 where
  pub nodes : ReadSame (λ other. child s.table node File ≡ Some other) old new
  pub files : HeldSame (λ name. written_file s.table node ≡ Some name) old new
  pub mapping : (name after : List ℕ) → written_file s.table node ≡ Some name
      → new.held name ≡ Some after
      → With (old.held name) (λ before. maps_none after (header_of after)
      ≡ maps_none before (header_of before))

-- what a node that is settled has to read as
abbrev pub settled_as : State → Contents → NewDisk → List ℕ
settled_as s c (OfNode source) = c.reads source
settled_as s c (OfStart job) = new_bytes s (OfStart job)

abbrev pub Performed : State → Change → Contents → Contents → Type 0
Performed s (change.AddFile row) old new =
    Puts row.id (file_disk row.size (held_bytes old (name_of_file row))) old new
Performed s (change.AddFormat row file backing) old new =
    Puts row.id (format_as s old row file backing row.kind) old new
Performed s (change.AddFilter row node) old new = Puts row.id (old.reads node) old new
Performed s (change.PutFilter row node) old new = Puts row.id (old.reads node) old new
Performed s (change.RemoveNode node) old new = Removes s node old new
Performed s (change.MakeFile name size) old new =
    ChangesFileAlone Nothing name old new × (new.held name ≡ Some (replicate size 0))
Performed s (change.FormatFile node name size backing_file backing_fmt) old new =
    ChangesFileAlone (λ other. other ≡ node) name old new
    × With (new.held name)
    (IsFormatted (creation_of size backing_file (option_map format_name backing_fmt))
    (held_bytes old name))
Performed s (change.SpoilFile name) old new =
    ChangesFileAlone (λ node. filename_of s.table node ≡ Some name) name old new
Performed s (change.Attach overlay node) old new = Puts overlay (old.reads node) old new
Performed s (change.PullFilter filter) old new = Pulls filter old new
Performed s (change.Rebase node backing) old new = Rewrites s node old new
Performed s (change.Settle node disk) old new = Puts node (settled_as s old disk) old new
Performed s c old new = IsQuiet old new

-- ---- changes in turn

abbrev pub AllCan : State → List Change → Type 0
AllCan s [] = Unit {0}
AllCan s (c ∷ changes) = Can s c × AllCan (stepped s c) changes

abbrev pub AllPerformed : State → List Change → Contents → Contents → Type 0
AllPerformed s [] old new = IsQuiet old new
AllPerformed s (c ∷ changes) old new =
    (between : Contents) × Performed s c old between
    × AllPerformed (stepped s c) changes between new
