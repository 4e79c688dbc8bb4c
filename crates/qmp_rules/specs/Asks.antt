-- What each ask looks at, and the refusal where it is not met: a line each.
use Rattle.std.specs.Prelude.{ℕ, ◌+◌, ◌==◌, nat_le, nat_lt, Bool, true, false, not, ◌&&◌, ◌||◌, if◌then◌else◌, List, [], ◌∷◌, ◌++◌, map, drop, length, find, bytes_eq, codes, Option, Some, None, option_map, option_and_then, unwrap_or, is_some, is_none}
use Rattle.std.specs.List.{list_any}
use Rattle.blk_graph.specs.declared.edge.Edge.{Edge}
use Rattle.blk_graph.specs.declared.edge.Parent.TheVariants.{Node}
use Rattle.blk_graph.specs.declared.edge.Role.TheVariants.{File, Backing}
use Rattle.blk_graph.specs.declared.kind.Kind.{Kind}
use Rattle.blk_graph.specs.declared.kind.Kind.TheVariants as kind
use Rattle.qmp_codec.specs.declared.event.JobKind.{JobKind}
use Rattle.qmp_codec.specs.declared.event.JobKind.TheVariants as job_kind
use Rattle.qmp_codec.specs.declared.fields.Amount.{Amount}
use Rattle.qmp_asks.specs.declared.ask.Ask.TheVariants as ask
use Rattle.qmp_asks.specs.declared.ask.JobNodes.TheVariants.{Stream, Commit, Copy}
use Rattle.qmp_asks.specs.declared.ask.Drivers.{Drivers}
use Rattle.qmp_asks.specs.declared.ask.Drivers.TheVariants as drivers
use Rattle.qmp_rules.specs.declared.refusal.Crowd.TheVariants.{Nodes, Devices, Jobs, Bitmaps}
use Rattle.qmp_rules.specs.declared.refusal.FileFault.TheVariants.{InUse, TooLong}
use Rattle.qmp_rules.specs.declared.refusal.Refusal.{Refusal}
use Rattle.qmp_rules.specs.declared.refusal.Refusal.TheVariants as refusal
use Rattle.qmp_rules.specs.declared.rows.NodeRecord.{NodeRecord}
use Rattle.qmp_rules.specs.declared.rows.JobRecord.{JobRecord}
use Rattle.qmp_rules.specs.declared.rows.BitmapRow.{BitmapRow}
use Rattle.qmp_rules.specs.declared.rows.FileState.{FileState}
use Rattle.qmp_rules.specs.declared.rows.FileState.TheVariants.{Made, Formatted, Used}
use Rattle.qmp_asks.specs.declared.look.Look.{Look}
use Rattle.qmp_asks.specs.declared.look.Look.TheVariants as look
use Rattle.qmp_rules.specs.declared.told.Stopped.{Stopped}
use Rattle.qmp_rules.specs.declared.told.Told.{Told}
use Rattle.qmp_asks.specs.Asking.{Asking, Nodes1, same_look}
use Rattle.qmp_asks.specs.Naming.{is_name, is_file_name, inline_name}
use Rattle.qmp_rules.specs.Table.{RunTable, node_named, id_named, device_named, job_named, bitmap_named, has_name, file_state, name_at, job_id, parent_name, child, node_by_id, first_into}
use Rattle.qmp_rules.specs.Chains.{is_listed, is_settled, chain_below, chain, down_to, lowest_in_chain, overlay_edge, overlays, reaches, holder, keeper}
use Rattle.qmp_rules.specs.Refusals.{refused, or_else}
use Rattle.qmp_asks.specs.Values.{begins_within, ends_within, part_fits}

-- ---- a refusal for a name that is there

-- for an optional name
abbrev pub if_named : (List ℕ → Option Refusal) → Option (List ℕ) → Option Refusal
if_named look None = None
if_named look (Some name) = look name

-- for what a look gives, where it gives something
abbrev pub if_there : {A : Type 0} → (A → Option Refusal) → Option A → Option Refusal
if_there look None = None
if_there look (Some row) = look row

-- ---- nodes

abbrev pub takes : Drivers → Kind → Bool
takes drivers.File kind.Protocol = true
takes drivers.Qcow2 kind.Qcow2 = true
takes drivers.RawOrQcow2 kind.Raw = true
takes drivers.RawOrQcow2 kind.Qcow2 = true
takes drivers.FileRawOrQcow2 kind.Protocol = true
takes drivers.FileRawOrQcow2 kind.Raw = true
takes drivers.FileRawOrQcow2 kind.Qcow2 = true
takes _ _ = false

-- a file node
abbrev pub is_file : NodeRecord → Bool
is_file row = takes drivers.File row.kind

abbrev pub file_node : RunTable → List ℕ → Option NodeRecord
file_node t name =
    option_and_then (λ row. if is_file row then Some row else None) (node_named t name)

-- the name of the file that a node stands for
abbrev pub name_of_file : NodeRecord → List ℕ
name_of_file row = unwrap_or row.filename []

-- a node stands for the file
abbrev pub stands_for : List ℕ → NodeRecord → Bool
stands_for name row = unwrap_or (option_map (λ filename. bytes_eq filename name) row.filename) false

-- the bytes of a file that is in this state are not known to a node over it: to none of one that was used, and to a raw one
-- of one that was formatted
abbrev pub is_lost : Bool → Option FileState → Bool
is_lost is_raw (Some Used) = true
is_lost is_raw (Some Formatted) = is_raw
is_lost is_raw _ = false

abbrev pub lost : RunTable → Bool → List ℕ → Option Refusal
lost t is_raw name = refused (is_lost is_raw (file_state t name)) (refusal.FileUsed name)

-- the node has a parent, whose name is told
abbrev pub in_use : RunTable → List ℕ → Option Edge → Option Refusal
in_use t name edge = option_map (λ e. refusal.InUse name (parent_name t e.parent)) edge

abbrev pub in_use_at : RunTable → List ℕ → ℕ → Option Refusal
in_use_at t name id = in_use t name (first_into id t.edges)

abbrev pub held_by : RunTable → ℕ → Option JobRecord → Option Refusal
held_by t id job = option_map (λ row. refusal.JobHolds (name_at t id) row.id) job

abbrev pub is_base : Option ℕ → ℕ → Bool
is_base None id = false
is_base (Some base) id = base == id

-- a commit made it writable, and may give it back
abbrev pub lends : ℕ → JobRecord → Bool
lends id job = job.made_writable.base && is_base job.target id

-- it may not be written, or only while a job runs
abbrev pub is_guarded : RunTable → NodeRecord → Bool
is_guarded t row = row.read_only || list_any (lends row.id) t.jobs

abbrev pub sizes_differ : NodeRecord → NodeRecord → Option Refusal
sizes_differ a b = refused (not (a.size == b.size)) (refusal.SizeDiffers a.name b.name)

-- ---- bitmaps

abbrev pub busy : RunTable → BitmapRow → Option Refusal
busy t row = option_map (λ job. refusal.BitmapBusy row.name (job_id t job)) row.busy

-- ---- the nodes of a job

-- the node of a name; where none has it, the command was refused before
abbrev pub id_or : ℕ → RunTable → Option (List ℕ) → ℕ
id_or id t None = id
id_or id t (Some name) = unwrap_or (id_named t name) id

-- the source, or the top: of a commit the device, where no top is named
abbrev pub top_of : RunTable → Nodes1 → ℕ
top_of t (Stream device base) = id_or 0 t (Some device)
top_of t (Commit device base top) = id_or (id_or 0 t (Some device)) t top
top_of t (Copy device target) = id_or 0 t (Some device)

-- the target, or the base: of a commit the lowest node of the chain, where no base is named, and of such a stream none
abbrev pub job_base : RunTable → Nodes1 → Option ℕ
job_base t (Stream device base) = option_and_then (id_named t) base
job_base t (Commit device base top) =
    Some (id_or (lowest_in_chain t (top_of t (Commit device base top))) t base)
job_base t (Copy device target) = id_named t target

-- a commit is active exactly where its top is the device
abbrev pub is_active : RunTable → List ℕ → Option (List ℕ) → Bool
is_active t device top = id_or (id_or 0 t (Some device)) t top == id_or 0 t (Some device)

-- the nodes that the job holds
abbrev pub held_nodes : RunTable → Nodes1 → List ℕ
held_nodes t (Stream device base) = top_of t (Stream device base) ∷ []
held_nodes t (Commit device base top) =
    down_to (job_base t (Commit device base top)) (chain t (top_of t (Commit device base top)))
held_nodes t (Copy device target) = top_of t (Copy device target) ∷ id_or 0 t (Some target) ∷ []

-- and those that it holds for reading
abbrev pub read_nodes : RunTable → Nodes1 → List ℕ
read_nodes t (Stream device base) =
    down_to (job_base t (Stream device base)) (chain_below t (top_of t (Stream device base)))
read_nodes t (Commit device base top) = overlays t (top_of t (Commit device base top))
read_nodes t (Copy device target) = []

-- in the order in which they are looked at: as the command names them, then from the top down
abbrev pub named_ids : RunTable → Option (List ℕ) → List ℕ
named_ids t None = []
named_ids t (Some name) = id_or 0 t (Some name) ∷ []

abbrev pub looked_at : RunTable → Nodes1 → List ℕ
looked_at t (Stream device base) =
    named_ids t (Some device) ++ named_ids t base ++ read_nodes t (Stream device base)
looked_at t (Commit device base top) =
    named_ids t (Some device) ++ named_ids t base ++ named_ids t top
    ++ held_nodes t (Commit device base top)
    ++ read_nodes t (Commit device base top)
looked_at t (Copy device target) = held_nodes t (Copy device target)

-- a node that the job would hold is held, or one that it would read is held by a job for itself
abbrev pub clash : RunTable → List ℕ → List ℕ → ℕ → Option Refusal
clash t held read id =
    if is_listed id held then held_by t id (holder t id)
    else if is_listed id read then held_by t id (keeper t id)
    else None

abbrev pub first_clash : RunTable → List ℕ → List ℕ → List ℕ → Option Refusal
first_clash t held read [] = None
first_clash t held read (id ∷ ids) = or_else (clash t held read id) (first_clash t held read ids)

-- the base lies strictly below the top, and the top is the device or below it
abbrev pub not_below : RunTable → ℕ → ℕ → Option Refusal
not_below t top base =
    refused (not (is_listed base (chain_below t top))) (refusal.NotInChain (name_at t base))

abbrev pub not_in_chain : RunTable → Nodes1 → Option Refusal
not_in_chain t (Stream device base) =
    if_there (not_below t (top_of t (Stream device base))) (job_base t (Stream device base))
not_in_chain t (Commit device base top) = or_else
    (if_there (not_below t (top_of t (Commit device base top)))
    (job_base t (Commit device base top)))
    (refused (not (is_listed (top_of t (Commit device base top))
    (chain t (id_or 0 t (Some device)))))
    (refusal.NotInChain (name_at t (top_of t (Commit device base top)))))
not_in_chain t (Copy device target) = None

abbrev pub differ : Option NodeRecord → Option NodeRecord → Option Refusal
differ (Some a) (Some b) = sizes_differ a b
differ _ _ = None

abbrev pub sizes : RunTable → Nodes1 → Option Refusal
sizes t (Stream device base) = None
sizes t (Commit device base top) = differ
    (option_and_then (node_by_id t) (job_base t (Commit device base top)))
    (node_by_id t (top_of t (Commit device base top)))
sizes t (Copy device target) = differ (node_named t device) (node_named t target)

-- the sources that a target may not reach: its own, then those of mirrors
abbrev pub is_mirror : JobRecord → Bool
is_mirror job = elim job.kind as (λ _. Bool) [ job_kind.Mirror ↦ true | _ ↦ false ]

abbrev pub mirrored : List JobRecord → List ℕ
mirrored [] = []
mirrored (job ∷ jobs) = if is_mirror job then job.source ∷ mirrored jobs else mirrored jobs

abbrev pub first_reached : RunTable → ℕ → List ℕ → Option Refusal
first_reached t target [] = None
first_reached t target (source ∷ sources) = or_else
    (refused (reaches t target source) (refusal.InUse (name_at t source) (name_at t target)))
    (first_reached t target sources)

-- the second edge into a node
abbrev pub second_into : ℕ → List Edge → Option Edge
second_into id [] = None
second_into id (edge ∷ edges) =
    if edge.child == id then first_into id edges else second_into id edges

-- an active commit has no overlay on its top, the top of every other one no parent but one, and the target of a copy
-- reaches no source
abbrev pub in_the_way : RunTable → Nodes1 → Option Refusal
in_the_way t (Stream device base) = None
in_the_way t (Commit device base top) =
    let id = top_of t (Commit device base top) in
    in_use t (name_at t id)
    (if is_active t device top then overlay_edge t id else second_into id t.edges)
in_the_way t (Copy device target) =
    first_reached t (id_or 0 t (Some target)) (id_or 0 t (Some device) ∷ mirrored t.jobs)

-- ---- files

-- the part of a file node begins, or ends, past the file
abbrev pub part_begins : Option Amount → NodeRecord → Option Refusal
part_begins offset row =
    refused (not (begins_within offset row.size)) (refusal.BadValue (codes "offset"))

abbrev pub part_ends : Option Amount → Option Amount → NodeRecord → Option Refusal
part_ends offset size row =
    refused (not (ends_within offset size row.size)) (refusal.BadValue (codes "size"))

-- it is too long; of a file that was used this isn't said
abbrev pub part_too_long : RunTable → Option Amount → Option Amount → NodeRecord → Option Refusal
part_too_long t offset size row = refused
    (not (part_fits offset size row.size || is_lost false (file_state t (name_of_file row))))
    (refusal.File (name_of_file row) TooLong)

-- what the files tell at a look
abbrev pub told_at : Look → Option Stopped → Option Refusal
told_at what None = None
told_at what (Some stopped) = refused (same_look what stopped.look) stopped.refusal

-- ---- the asks

-- the refusal of an ask that is not met
unfoldable pub holds : RunTable → Told → Asking → Option Refusal
holds t told (ask.Good member ok) = refused (not ok) (refusal.BadValue member)
holds t told (ask.Begins file offset) = if_there (part_begins offset) (file_node t file)
holds t told (ask.Ends file offset size) = if_there (part_ends offset size) (file_node t file)
holds t told (ask.Files what) = told_at what told.stopped
holds t told (ask.Named member text) =
    if_named (λ name. refused (not (is_name name)) (refusal.BadName member)) text
holds t told (ask.FileNamed member text) =
    if_named (λ name. refused (not (is_file_name name)) (refusal.BadName member)) text
holds t told (ask.Found name) =
    if_named (λ other. refused (is_none (node_named t other)) (refusal.NotFound other false)) name
holds t told (ask.Kept id) = refused (not (has_name id t.kept)) (refusal.NotFound id false)
holds t told (ask.DeviceFound id) = refused (is_none (device_named t id)) (refusal.NotFound id true)
holds t told (ask.BitmapFound node name) =
    if_named (λ other. refused (is_none (bitmap_named t node other)) (refusal.NotFound other false))
    name
holds t told (ask.JobFound id) = refused (is_none (job_named t id)) (refusal.NotActive id)
holds t told (ask.FreshNode name) =
    if_named (λ other. refused (is_some (node_named t other)) (refusal.NameTaken other)) name
holds t told (ask.Apart first second) =
    if_named (λ other. refused (bytes_eq first other) (refusal.NameTaken first)) second
holds t told (ask.FreshDevice id) = refused (is_some (device_named t id)) (refusal.NameTaken id)
holds t told (ask.FreshJob id) =
    refused (is_some (job_named t id) || has_name id t.kept) (refusal.NameTaken id)
holds t told (ask.FreshBitmap node name) =
    refused (is_some (bitmap_named t node name)) (refusal.NameTaken name)
holds t told (ask.RoomForNodes count) =
    refused (nat_lt 64 (length t.nodes + count)) (refusal.TooMany Nodes)
holds t told ask.RoomForDevice = refused (nat_le 64 (length t.devices)) (refusal.TooMany Devices)
holds t told ask.RoomForJob = refused (nat_le 16 (length t.jobs)) (refusal.TooMany Jobs)
holds t told ask.RoomForBitmap = refused (nat_le 64 (length t.bitmaps)) (refusal.TooMany Bitmaps)
holds t told (ask.Drives name which) =
    if_there (λ row. refused (not (takes which row.kind)) (refusal.Driver row.name))
    (option_and_then (node_named t) name)
holds t told (ask.Closed name) =
    refused (list_any (stands_for name) t.nodes) (refusal.File name InUse)
holds t told (ask.Fits file offset size) = if_there (part_too_long t offset size) (file_node t file)
holds t told (ask.Known file is_raw) = lost t is_raw file
holds t told (ask.KnownUnder file is_raw) =
    if_there (λ row. lost t is_raw (name_of_file row)) (file_node t file)
holds t told (ask.Settled name) =
    if_there (λ row. refused (not (is_settled t row.id)) (refusal.Unsettled row.name))
    (option_and_then (node_named t) name)
holds t told (ask.Beside backing file) =
    if_named (λ other. refused (bytes_eq other file) (refusal.Unsettled other)) backing
holds t told (ask.Unheld node) = if_there (λ id. held_by t id (holder t id)) (id_named t node)
holds t told (ask.Free nodes) =
    first_clash t (held_nodes t nodes) (read_nodes t nodes) (looked_at t nodes)
holds t told (ask.BitmapFree node name) =
    if_there (busy t) (option_and_then (bitmap_named t node) name)
holds t told (ask.Writable node) =
    if_there (λ row. refused (is_guarded t row) (refusal.ReadOnly row.name)) (node_named t node)
holds t told (ask.WritableUnder file read_only) =
    if_there (λ row. refused (row.read_only && not read_only) (refusal.ReadOnly row.name))
    (node_named t file)
holds t told (ask.WritableWith node own ok) =
    refused (not ok) (refusal.ReadOnly (inline_name node own))
holds t told (ask.InChain nodes) = not_in_chain t nodes
holds t told (ask.SameSize first second) = differ (node_named t first) (node_named t second)
holds t told (ask.EqualSizes nodes) = sizes t nodes
holds t told (ask.NoBacking node) =
    if_there (λ row. refused (is_some (child t row.id Backing)) (refusal.HasBacking row.name))
    (node_named t node)
holds t told (ask.Empty node) = refused (has_name node told.mapped) (refusal.NotEmpty node)
holds t told (ask.Lone node) = if_there (in_use_at t node) (id_named t node)
holds t told (ask.Clear nodes) = in_the_way t nodes
holds t told (ask.JobReady id) =
    if_there (λ job. refused (not job.is_ready) (refusal.NotReady id)) (job_named t id)
holds t told ask.Abort = Some refusal.Aborted

-- the refusal of the first ask that is not met
abbrev pub first_unmet_ask : RunTable → Told → List Asking → Option Refusal
first_unmet_ask t told [] = None
first_unmet_ask t told (asking ∷ asks) = or_else (holds t told asking) (first_unmet_ask t told asks)
