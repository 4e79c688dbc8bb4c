-- The parts of a run put together.
use Rattle.std.proofs.Common.{◌≡◌, ℕ, true, false, List, [], ◌∷◌, ◌++◌, refl, sym, ◌∙◌, ap, subst, arith, inl, inr, Option, Some}
use Rattle.std.specs.Prelude.{is_some, length}
use Rattle.blk_base.specs.declared.fault.FaultAt.{FaultAt}
use Rattle.blk_base.specs.declared.fault.Outcome.{Outcome}
use Rattle.trace_codec.specs.declared.op.Op.{Op}
use Rattle.blk_history.specs.Owned.{asked_by}
use Rattle.blk_history.specs.Recorded.{Recorded}
use Rattle.blk_nodes.specs.Contents.{Unfolds}
use Rattle.blk_nodes.specs.Nodes.{Nodes, DeviceSeen}
use Rattle.blk_nodes.specs.Overlays.{IsOpened}
use Rattle.blk_nodes.specs.Reading.{HasRisen}
use Rattle.qblk_core.specs.Format.{HasGoodLength}
use Rattle.qblk_words.specs.declared.words.Format.{Format}
use Rattle.qblk_words.specs.declared.words.Format.TheVariants.{Raw, Qcow2}
use Rattle.qblk_core.specs.Face.{SessionSeen, new_io_guest}
use Rattle.qblk_core.specs.ImageNodes.{file_node_alone, IsImageNodeOver, AreMadeOf, HaveOneImage}
use Rattle.qblk_core.specs.Requests.{RequestsDone}
use Rattle.blk_base.specs.Counts.{Rose}
use Rattle.qblk_core.specs.Closing.{IsOnlyDevice}
use Rattle.qblk_core.specs.Opened.{IsStopped, IsImageStatus}
use Rattle.qblk_core.specs.Run.{AskFor}
use Rattle.qblk_core.specs.Session.{AreNodesClosed, AreRequestsMade, IsGoodDevice, IsTraceStop, IsRunStop, IsRefusedImage}
use Rattle.qblk_core.specs.declared.input.TraceRead.{TraceRead}
use Rattle.qblk_core.specs.declared.opening.OpenStop.{OpenStop}
use Rattle.qblk_core.specs.declared.opening.OpenStop.TheVariants.{Refused, Io, NoMemory as NoRoom}
use Rattle.qblk_core.specs.declared.status.InputWhy.{InputWhy}
use Rattle.qblk_core.specs.declared.status.Status.{Status}
use Rattle.qblk_core.specs.declared.status.Status.TheVariants.{Done, Usage, Input, Fault, Stuck, NoMemory}
use Rattle.qblk_core.proofs.Kept.{comes-start}
use Rattle.qblk_core.proofs.Made.{made-good, made-devices}
use Rattle.qblk_core.proofs.OneDevice.{first-found, head-same}
use Rattle.qblk_core.proofs.Openings.{can-hold}

-- what an engine shows before its first request
abbrev pub begun : Nodes → Recorded → SessionSeen
begun first log = record { nodes = first; guest = new_io_guest; log = log }

asked-all : (e w : SessionSeen) (ops : List Op) → e.log.events ≡ [] → RequestsDone e w ops → asked_by 0 w.log.events ≡ ops
asked-all e w ops empty made = made.asked ∙ ap (λ es. asked_by 0 es ++ ops) empty

pub made-run : (format : Format) (first last : Nodes) (flush : Outcome) (d n : DeviceSeen) (w : SessionSeen) (log : Recorded) (ops : List Op) (bytes : List ℕ) (fault : Option FaultAt)
    → AreMadeOf format d first → Unfolds first → ((b : List ℕ) → d.content ≡ Some b → d.size ≡ length b) → AskFor ops bytes → log.events ≡ [] → RequestsDone (begun first log) w ops
    → HaveOneImage w.nodes → AreNodesClosed w.nodes last flush n fault
    → ((b : List ℕ) → n.content ≡ Some b → is_some n.is_flushed ≡ true) → ((b : List ℕ) → n.content ≡ Some b → n.size ≡ length b)
    → AreRequestsMade format bytes d n w fault
made-run format first last flush d n w log ops bytes fault made disks d-sized asks empty done one closed tells n-sized = record {
  first = first;
  last = last;
  flush = flush;
  made = made;
  good = λ b told. made-good format d first b made disks told (d-sized b told);
  asked = subst (λ os. AskFor os bytes) (sym (asked-all (begun first log) w ops empty done)) asks;
  comes = done.comes first (comes-start first log empty);
  idle = done.idle;
  one = one;
  closed = closed;
  tells = tells;
  sized = n-sized;
}

-- nodes that are left as they were made have the device that they were made over
same-device : (format : Format) (first : Nodes) (d n : DeviceSeen) → AreMadeOf format d first → first.devices ≡ n ∷ [] → d ≡ n
same-device format first d n made given = head-same d n [] (sym (made-devices format d first made) ∙ given)

good-length : (format : Format) (d : DeviceSeen) (over : Nodes) → IsImageNodeOver format (file_node_alone d) over → HasGoodLength format d.size
good-length Raw d over is = is.0
good-length Qcow2 d over is =
    let opened : IsOpened (d ∷ []) 0 is.0 = is.1 in
    subst (λ (x : DeviceSeen). HasGoodLength Qcow2 x.size) (first-found d opened.device 0 opened.held) (can-hold false opened.device is.0 opened.on (ap is_some is.2))

good-device : (format : Format) (first : Nodes) (d : DeviceSeen) → AreMadeOf format d first → Unfolds first → ((b : List ℕ) → d.content ≡ Some b → d.size ≡ length b)
    → IsGoodDevice format d
good-device format first d made disks sized = record {
  good = λ bytes told. (made-good format d first bytes made disks told (sized bytes told)).0;
  length = good-length format d made.over made.image;
}

-- the trace is refused, on nodes over a good image
pub trace-stops : (format : Format) (image trace : List ℕ) (read : TraceRead) (first : Nodes) (d n : DeviceSeen) (status : Status) → AreMadeOf format d first → Unfolds first
    → ((b : List ℕ) → d.content ≡ Some b → d.size ≡ length b) → first.devices ≡ n ∷ [] → IsTraceStop trace read status → IsRunStop format image trace read d n status
trace-stops format image trace read first d n Done made disks sized given stop = stop
trace-stops format image trace read first d n Usage made disks sized given stop = stop
trace-stops format image trace read first d n (Input name line why) made disks sized given stop = (
  sym (same-device format first d n made given),
  inr (good-device format first d made disks sized, stop.0, stop.1),
)
trace-stops format image trace read first d n (Fault from count) made disks sized given stop = absurd stop
trace-stops format image trace read first d n (Stuck actor waits) made disks sized given stop = stop
trace-stops format image trace read first d n NoMemory made disks sized given stop = sym (same-device format first d n made given)

-- the image is
pub image-stops : (format : Format) (image trace : List ℕ) (read : TraceRead) (d n : DeviceSeen) (stop : OpenStop) (status : Status) → IsStopped format d n stop → IsImageStatus image stop status
    → IsRunStop format image trace read d n status
image-stops format image trace read d n (Refused why) (Input name line cause) stopped is =
    let stop = stopped.cause in
    (stop.1, inl (is.0, is.1, subst (λ (c : InputWhy). IsRefusedImage format c d) (sym is.2) stop.0))
image-stops format image trace read d n (Refused why) NoMemory stopped is = let stop = stopped.cause in stop.1
image-stops format image trace read d n (Io count) (Fault from named) stopped is =
    let cause = stopped.cause in
    let rose : Rose d.faults named = subst (Rose d.faults) (sym is.1) cause.1 in
    (cause.0, is.0, rose, is.1 ∙ cause.2, cause.3, cause.4)
image-stops format image trace read d n NoRoom NoMemory stopped is = stopped.cause
image-stops format image trace read d n stop status stopped is = absurd is

pub left-alone : (format : Format) (first : Nodes) (d n : DeviceSeen) → AreMadeOf format d first → first.devices ≡ n ∷ [] → HasRisen d n
left-alone format first d n made given =
    subst (HasRisen d) (same-device format first d n made given) (record { same = refl; faults = omega arith })

pub only-made : (format : Format) (first : Nodes) (d : DeviceSeen) → AreMadeOf format d first → IsOnlyDevice first.devices d
only-made format first d made = record { only = made-devices format d first made; node = made.node; number = made.number }
