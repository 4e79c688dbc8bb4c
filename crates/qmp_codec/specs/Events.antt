-- The value that an event prints.
use Rattle.std.specs.Prelude.{ℕ, negsuc, List, codes, Option, Some, None}
use Rattle.serde_json.specs.Data.{Data, number, unsigned, negative, string, object, Members, no_members, member}
use Rattle.blk_base.specs.Written.{Written}
use Rattle.qmp_codec.specs.declared.event.EventName.{EventName}
use Rattle.qmp_codec.specs.declared.event.EventName.TheVariants.{Ready, Completed, Cancelled}
use Rattle.qmp_codec.specs.declared.event.JobKind.{JobKind}
use Rattle.qmp_codec.specs.declared.event.JobKind.TheVariants.{Stream, Commit, Mirror, Backup}
use Rattle.qmp_codec.specs.declared.event.JobEvent.{JobEvent}

abbrev pub event_text : EventName → List ℕ
event_text Ready = codes "BLOCK_JOB_READY"
event_text Completed = codes "BLOCK_JOB_COMPLETED"
event_text Cancelled = codes "BLOCK_JOB_CANCELLED"

abbrev pub kind_text : JobKind → List ℕ
kind_text Stream = codes "stream"
kind_text Commit = codes "commit"
kind_text Mirror = codes "mirror"
kind_text Backup = codes "backup"

-- an error, and members that come after it
abbrev pub error_before : Option Written → Members → Members
error_before None ms = ms
error_before (Some text) ms = member (codes "error") (string text.bytes) ms

-- how far the job is
abbrev pub progress : JobEvent → Members
progress e =
    member (codes "len") (number (unsigned e.len))
    (member (codes "offset") (number (unsigned e.offset))
    (member (codes "speed") (number (unsigned 0))
    (member (codes "type") (string (kind_text e.kind)) no_members)))

-- no clock is at hand: seconds and microseconds are -1
abbrev pub timestamp : Data
timestamp =
    object (member (codes "microseconds") (number (negative (negsuc 0)))
    (member (codes "seconds") (number (negative (negsuc 0))) no_members))

abbrev pub job_data : JobEvent → Data
job_data e =
    object (member (codes "device") (string e.device.bytes) (error_before e.error (progress e)))

abbrev pub event_data : JobEvent → Data
event_data e =
    object (member (codes "data") (job_data e)
    (member (codes "event") (string (event_text e.name))
    (member (codes "timestamp") timestamp no_members)))
