-- The members of commands, in order: name, what the value is, and whether it is needed.
use Rattle.std.specs.Prelude.{ℕ, List, [], ◌∷◌, ◌++◌, codes}
use Rattle.std.specs.Borrow.{Bor}
use Rattle.qmp_codec.specs.declared.form.Form.{Form}
use Rattle.qmp_codec.specs.declared.form.Form.TheVariants as form
use Rattle.qmp_codec.specs.declared.row.Kind.{Kind}
use Rattle.qmp_codec.specs.declared.row.Kind.TheVariants.{Text, Integer, Flag, FlagOrText, TextOrNull, Texts, Exact, Object, TextOrObject, Objects, TextsOrObjects}
use Rattle.qmp_codec.specs.declared.row.Row.{Row}
use Rattle.qmp_codec.specs.declared.row.Row.TheVariants.{Needs, Takes}

abbrev pub Rows : Type 0
Rows = List (Row (List ℕ))

-- what every job takes
abbrev pub job_members : Rows
job_members =
    Takes (codes "speed") Integer
    ∷ Takes (codes "auto-finalize") Flag
    ∷ Takes (codes "auto-dismiss") Flag
    ∷ []

-- what every node takes
abbrev pub node_members : Rows
node_members =
    Takes (codes "read-only") Flag
    ∷ Takes (codes "auto-read-only") Flag
    ∷ Takes (codes "discard") Text
    ∷ Takes (codes "cache") (Object form.Cache)
    ∷ []

-- what every driver of `blockdev-add` takes
abbrev pub added_members : Rows
added_members = Needs (codes "driver") Text ∷ Needs (codes "node-name") Text ∷ node_members

unfoldable pub members : Form → Rows
members form.Line =
    Needs (codes "execute") Text
    ∷ Takes (codes "arguments") (Object form.Arguments)
    ∷ Takes (codes "id") Exact
    ∷ []
members form.Arguments = []
members form.ActionData = []
members form.NoMembers = []
members form.Capabilities = Takes (codes "enable") Texts ∷ []
members form.Create =
    Needs (codes "job-id") Text ∷ Needs (codes "options") (Object form.CreateOptions) ∷ []
members form.CreateOptions = Needs (codes "driver") Text ∷ Takes (codes "size") Integer ∷ []
members form.CreateFile =
    Needs (codes "driver") Text
    ∷ Needs (codes "filename") Text
    ∷ Needs (codes "size") Integer
    ∷ []
members form.CreateQcow2 =
    Needs (codes "driver") Text
    ∷ Needs (codes "file") Text
    ∷ Needs (codes "size") Integer
    ∷ Takes (codes "backing-file") Text
    ∷ Takes (codes "backing-fmt") Text
    ∷ Takes (codes "cluster-size") Integer
    ∷ Takes (codes "refcount-bits") Integer
    ∷ Takes (codes "version") Text
    ∷ []
members form.Add = added_members
members form.AddFile = added_members ++ Needs (codes "filename") Text ∷ []
members form.AddRaw =
    added_members
    ++ Needs (codes "file") (TextOrObject form.InlineFile)
    ∷ Takes (codes "offset") Integer
    ∷ Takes (codes "size") Integer
    ∷ []
members form.AddQcow2 =
    added_members ++ Needs (codes "file") (TextOrObject form.InlineFile)
    ∷ Takes (codes "backing") TextOrNull ∷ []
members form.AddCopyOnRead = added_members ++ Needs (codes "file") Text ∷ []
members form.InlineFile =
    Needs (codes "driver") Text
    ∷ Needs (codes "filename") Text
    ∷ Takes (codes "node-name") Text
    ∷ node_members
members form.Cache = Takes (codes "direct") Flag ∷ Takes (codes "no-flush") Flag ∷ []
members form.NodeName = Needs (codes "node-name") Text ∷ []
members form.DeviceAdd =
    Needs (codes "driver") Text
    ∷ Needs (codes "id") Text
    ∷ Needs (codes "drive") Text
    ∷ Takes (codes "share-rw") FlagOrText
    ∷ Takes (codes "bus") Text
    ∷ Takes (codes "addr") Text
    ∷ Takes (codes "serial") Text
    ∷ Takes (codes "write-cache") Text
    ∷ Takes (codes "bootindex") Integer
    ∷ []
members form.Id = Needs (codes "id") Text ∷ []
members form.Snapshot = Needs (codes "node") Text ∷ Needs (codes "overlay") Text ∷ []
members form.Transaction =
    Needs (codes "actions") (Objects form.Action)
    ∷ Takes (codes "properties") (Object form.Properties)
    ∷ []
members form.Action = Needs (codes "type") Text ∷ Needs (codes "data") (Object form.ActionData) ∷ []
members form.Properties = Takes (codes "completion-mode") Text ∷ []
members form.Stream =
    Needs (codes "job-id") Text
    ∷ Needs (codes "device") Text
    ∷ Takes (codes "base-node") Text
    ∷ Takes (codes "backing-file") Text
    ∷ Takes (codes "on-error") Text
    ∷ job_members
members form.Commit =
    Needs (codes "job-id") Text
    ∷ Needs (codes "device") Text
    ∷ Takes (codes "base-node") Text
    ∷ Takes (codes "top-node") Text
    ∷ Takes (codes "backing-file") Text
    ∷ Takes (codes "on-error") Text
    ∷ job_members
members form.Mirror =
    Needs (codes "job-id") Text
    ∷ Needs (codes "device") Text
    ∷ Needs (codes "target") Text
    ∷ Needs (codes "sync") Text
    ∷ Takes (codes "copy-mode") Text
    ∷ Takes (codes "on-source-error") Text
    ∷ Takes (codes "on-target-error") Text
    ∷ job_members
members form.Backup =
    Needs (codes "job-id") Text
    ∷ Needs (codes "device") Text
    ∷ Needs (codes "target") Text
    ∷ Needs (codes "sync") Text
    ∷ Takes (codes "bitmap") Text
    ∷ Takes (codes "bitmap-mode") Text
    ∷ Takes (codes "on-source-error") Text
    ∷ Takes (codes "on-target-error") Text
    ∷ job_members
members form.JobCancel = Needs (codes "device") Text ∷ Takes (codes "force") Flag ∷ []
members form.JobComplete = Needs (codes "device") Text ∷ []
members form.ListNodes = Takes (codes "flat") Flag ∷ []
members form.BitmapAdd =
    Needs (codes "node") Text
    ∷ Needs (codes "name") Text
    ∷ Takes (codes "granularity") Integer
    ∷ Takes (codes "persistent") Flag
    ∷ Takes (codes "disabled") Flag
    ∷ []
members form.BitmapName = Needs (codes "node") Text ∷ Needs (codes "name") Text ∷ []
members form.BitmapMerge =
    Needs (codes "node") Text
    ∷ Needs (codes "target") Text
    ∷ Needs (codes "bitmaps") (TextsOrObjects form.BitmapSource)
    ∷ []
members form.BitmapSource = Needs (codes "node") Text ∷ Needs (codes "name") Text ∷ []

-- a row with its name as bytes
abbrev pub named : Row (Bor (List ℕ)) → Row (List ℕ)
named (Needs name kind) = Needs name.now kind
named (Takes name kind) = Takes name.now kind

abbrev pub row_name : Row (List ℕ) → List ℕ
row_name (Needs name kind) = name
row_name (Takes name kind) = name

abbrev pub kind_of : Row (List ℕ) → Kind
kind_of (Needs name kind) = kind
kind_of (Takes name kind) = kind
