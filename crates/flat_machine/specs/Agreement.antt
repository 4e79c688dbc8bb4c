-- What nodes read as and what files hold, and that it is what the flat machine says.
use Rattle.std.specs.Prelude.{◌≡◌, ℕ, true, false, List, length, All, Option, Some, None}
use Rattle.q2_format.specs.Created.{Creation, CanBeCreated, IsCreated, creation_of}
use Rattle.qmp_rules.specs.declared.rows.NodeRecord.{NodeRecord}
use Rattle.qmp_rules.specs.declared.rows.JobRecord.{JobRecord}
use Rattle.qmp_rules.specs.Table.{node_by_id, job_at, has_name}
use Rattle.qmp_rules.specs.Chains.{filter_role}
use Rattle.blk_history.specs.Fold.{With}
use Rattle.flat_machine.specs.State.{State, Content, Bytes, Blank, Unknown, Left, bytes_in, bytes_at_node, content_in}
use Rattle.flat_machine.specs.Final.{IsDiskIn}

-- what each node reads as, by its id, and what the file of each name holds, be it in the store or in a device that is out
pub record Contents : Type 0 where
  pub reads : ℕ → List ℕ
  pub held : List ℕ → Option (List ℕ)

-- ---- nodes

-- a row that says by itself whether there is a flat disk: that of a node which is no filter
pub record HasDisk (row : NodeRecord) : Type 0 where
  pub settled : row.is_settled ≡ true
  pub own : filter_role row.kind ≡ None

abbrev pub ReadAsDisks : State → Contents → Type 0
ReadAsDisks s c =
    (node : ℕ) (row : NodeRecord) → node_by_id s.table node ≡ Some row → HasDisk row
    → c.reads node ≡ bytes_in s.disks node

-- ---- files

-- a created image, which maps nothing, of that length where it is known
pub record IsBlank (new : Creation) (len : Option ℕ) (bytes : List ℕ) : Type 0 where
  pub shape : new ≡ creation_of new.size new.name new.format
  pub can : CanBeCreated new.size new.name new.format
  pub created : IsCreated new bytes
  pub length_is : (n : ℕ) → len ≡ Some n → length bytes ≡ n

abbrev pub IsAsKnown : Content → Option (List ℕ) → Type 0
IsAsKnown (Bytes bytes) held = held ≡ Some bytes
IsAsKnown (Blank new len) held = With held (IsBlank new len)
IsAsKnown Unknown held = Unit {0}

-- what is known of a file is so, and one of which there is no word is absent
abbrev pub AreAsKnown : State → Contents → Type 0
AreAsKnown s c =
    (name : List ℕ) (content : Content) → content_in s.files name ≡ Some content
    → IsAsKnown content (c.held name)

abbrev pub AreAbsent : State → Contents → Type 0
AreAbsent s c = (name : List ℕ) → content_in s.files name ≡ None → c.held name ≡ None

-- a left disk is what its driver reads from its file, of a sound image where it is one
abbrev pub IsLeftAs : Contents → Left → Type 0
IsLeftAs c left = With (c.held left.file) (IsDiskIn left.kind left.offset left.bytes)

-- a file that no command named for writing is as it was at the opening
abbrev pub AreUnchanged : (List ℕ → Option (List ℕ)) → State → Contents → Type 0
AreUnchanged opening s c =
    (name : List ℕ) → has_name name s.named ≡ false → c.held name ≡ opening name

-- ---- all of it

pub record Agrees (opening : List ℕ → Option (List ℕ)) (s : State) (c : Contents) : Type 0 where
  pub disks : ReadAsDisks s c
  pub known : AreAsKnown s c
  pub absent : AreAbsent s c
  pub left : All (IsLeftAs c) s.left
  pub unchanged : AreUnchanged opening s c

-- ---- a job that is ready

-- its target or base reads as its source's disk
abbrev pub ReadsAsSource : State → Contents → JobRecord → Type 0
ReadsAsSource s c row = With row.target (λ target. c.reads target ≡ bytes_at_node s row.source)

abbrev pub ReadyAgrees : State → Contents → ℕ → Type 0
ReadyAgrees s c job = With (job_at s.table job) (ReadsAsSource s c)
