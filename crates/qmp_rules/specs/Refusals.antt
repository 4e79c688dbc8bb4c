-- Refusals: their order, their texts and classes.
use Rattle.std.specs.Prelude.{ℕ, Bool, true, false, if◌then◌else◌, List, ◌++◌, codes, decimal, Option, Some, None}
use Rattle.blk_base.specs.declared.fault.FaultFrom.{FaultFrom}
use Rattle.blk_base.specs.declared.fault.FaultFrom.TheVariants as from
use Rattle.blk_graph.specs.declared.edge.Perm.{Perm}
use Rattle.blk_graph.specs.declared.edge.Perm.TheVariants.{Read, Write, Unchanged}
use Rattle.q2_image.specs.Text.{image_stop_text}
use Rattle.qmp_codec.specs.declared.reply.Class.{Class}
use Rattle.qmp_codec.specs.declared.reply.Class.TheVariants.{GenericError, CommandNotFound, DeviceNotFound, DeviceNotActive}
use Rattle.qmp_rules.specs.declared.refusal.Crowd.{Crowd}
use Rattle.qmp_rules.specs.declared.refusal.Crowd.TheVariants.{Nodes, Devices, Jobs, Bitmaps}
use Rattle.qmp_rules.specs.declared.refusal.FileFault.{FileFault}
use Rattle.qmp_rules.specs.declared.refusal.FileFault.TheVariants.{Absent, InUse, TooLong}
use Rattle.qmp_rules.specs.declared.refusal.Refusal.{Refusal}
use Rattle.qmp_rules.specs.declared.refusal.Refusal.TheVariants as refusal

abbrev pub refused : Bool → Refusal → Option Refusal
refused false cause = None
refused true cause = Some cause

-- the first of two that is there
abbrev pub or_else : Option Refusal → Option Refusal → Option Refusal
or_else None later = later
or_else (Some cause) later = Some cause

-- the place of a refusal among all, of which the first that holds is answered; a failed call has that of what it would
-- have told
abbrev pub place_of : Refusal → Option ℕ
place_of refusal.BadJson = Some 1
place_of (refusal.UnknownCommand name) = Some 2
place_of (refusal.Negotiation again) = Some 3
place_of (refusal.Missing member) = Some 4
place_of (refusal.Unexpected member) = Some 5
place_of (refusal.BadType member) = Some 6
place_of (refusal.BadValue member) = Some 7
place_of (refusal.BadName member) = Some 8
place_of (refusal.NotFound name is_device) = Some 9
place_of (refusal.NotActive job) = Some 10
place_of (refusal.NameTaken name) = Some 11
place_of (refusal.TooMany crowd) = Some 12
place_of (refusal.Driver node) = Some 13
place_of (refusal.File name fault) = Some 14
place_of (refusal.FileUsed name) = Some 15
place_of (refusal.Image stop) = Some 16
place_of (refusal.BackingNeeded node) = Some 17
place_of (refusal.Unsettled node) = Some 18
place_of (refusal.JobHolds node job) = Some 19
place_of (refusal.BitmapBusy bitmap job) = Some 20
place_of (refusal.ReadOnly node) = Some 21
place_of (refusal.NotInChain node) = Some 22
place_of (refusal.SizeDiffers first second) = Some 23
place_of (refusal.HasBacking node) = Some 24
place_of (refusal.NotEmpty node) = Some 25
place_of (refusal.InUse node parent) = Some 26
place_of (refusal.NotReady job) = Some 27
place_of (refusal.Conflict node asks denies perm) = Some 28
place_of refusal.Aborted = Some 29
place_of (refusal.Io from count) = None
place_of (refusal.NoSpace dev) = None

-- ---- texts

abbrev pub crowd_text : Crowd → List ℕ
crowd_text Nodes = codes "nodes"
crowd_text Devices = codes "devices"
crowd_text Jobs = codes "jobs"
crowd_text Bitmaps = codes "bitmaps"

abbrev pub file_fault_text : FileFault → List ℕ
file_fault_text Absent = codes "is absent"
file_fault_text InUse = codes "is in use"
file_fault_text TooLong = codes "is too long"

abbrev pub perm_text : Perm → List ℕ
perm_text Read = codes "consistent-read"
perm_text Write = codes "write"
perm_text Unchanged = codes "write-unchanged"

abbrev pub negotiation_text : Bool → List ℕ
negotiation_text false = codes "capabilities are not negotiated"
negotiation_text true = codes "capabilities are negotiated already"

-- a call of a device or of the store
abbrev pub io_text : FaultFrom → ℕ → List ℕ
io_text from.Store count = codes "io store " ++ decimal count
io_text (from.Dev dev) count = codes "io dev" ++ decimal dev.0 ++ codes " " ++ decimal count
io_text from.Sink count = codes "io sink " ++ decimal count

-- one parent of a node asks what another doesn't share
abbrev pub conflict_text : List ℕ → List ℕ → List ℕ → Perm → List ℕ
conflict_text node asks denies perm =
    codes "permission conflict on node " ++ node ++ codes ": " ++ asks ++ codes " asks "
    ++ perm_text perm
    ++ codes ", " ++ denies ++ codes " does not share it"

-- the words of the answer
abbrev pub refusal_text : Refusal → List ℕ
refusal_text refusal.BadJson = codes "the line is not a JSON command"
refusal_text (refusal.UnknownCommand name) = codes "command " ++ name ++ codes " is not known"
refusal_text (refusal.Negotiation again) = negotiation_text again
refusal_text (refusal.Missing member) = codes "member " ++ member ++ codes " is missing"
refusal_text (refusal.Unexpected member) = codes "member " ++ member ++ codes " is not accepted"
refusal_text (refusal.BadType member) = codes "member " ++ member ++ codes " has the wrong type"
refusal_text (refusal.BadValue member) =
    codes "member " ++ member ++ codes " has a value that is not accepted"
refusal_text (refusal.BadName member) = codes "member " ++ member ++ codes " is not a name"
refusal_text (refusal.NotFound name is_device) = name ++ codes " is not found"
refusal_text (refusal.NotActive job) = codes "no job " ++ job
refusal_text (refusal.NameTaken name) = codes "name " ++ name ++ codes " is taken"
refusal_text (refusal.TooMany crowd) = codes "too many " ++ crowd_text crowd
refusal_text (refusal.Driver node) = codes "node " ++ node ++ codes " has the wrong driver"
refusal_text (refusal.File name fault) = codes "file " ++ name ++ codes " " ++ file_fault_text fault
refusal_text (refusal.FileUsed name) = codes "file " ++ name ++ codes " was used before"
refusal_text (refusal.Image stop) = codes "image refused: " ++ image_stop_text stop
refusal_text (refusal.BackingNeeded node) = codes "node " ++ node ++ codes " needs a backing member"
refusal_text (refusal.Unsettled node) = codes "node " ++ node ++ codes " is not settled"
refusal_text (refusal.JobHolds node job) = codes "node " ++ node ++ codes " is held by job " ++ job
refusal_text (refusal.BitmapBusy bitmap job) =
    codes "bitmap " ++ bitmap ++ codes " is in use by job " ++ job
refusal_text (refusal.ReadOnly node) = codes "node " ++ node ++ codes " is read-only"
refusal_text (refusal.NotInChain node) = codes "node " ++ node ++ codes " is not in the chain"
refusal_text (refusal.SizeDiffers first second) =
    codes "nodes " ++ first ++ codes " and " ++ second ++ codes " differ in size"
refusal_text (refusal.HasBacking node) = codes "node " ++ node ++ codes " has a backing node"
refusal_text (refusal.NotEmpty node) = codes "node " ++ node ++ codes " holds clusters"
refusal_text (refusal.InUse node parent) = codes "node " ++ node ++ codes " is in use by " ++ parent
refusal_text (refusal.NotReady job) = codes "job " ++ job ++ codes " is not ready"
refusal_text (refusal.Conflict node asks denies perm) = conflict_text node asks denies perm
refusal_text refusal.Aborted = codes "the transaction was aborted"
refusal_text (refusal.Io source count) = io_text source count
refusal_text (refusal.NoSpace dev) = codes "nospace dev" ++ decimal dev.0

abbrev pub refusal_class : Refusal → Class
refusal_class (refusal.UnknownCommand name) = CommandNotFound
refusal_class (refusal.Negotiation again) = CommandNotFound
refusal_class (refusal.NotFound name is_device) = if is_device then DeviceNotFound else GenericError
refusal_class (refusal.NotActive job) = DeviceNotActive
refusal_class cause = GenericError
