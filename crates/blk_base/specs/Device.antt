-- What a call leaves of a device: nothing changed, or which writes it made, and why it stopped.
use Rattle.std.specs.Prelude.{◌≡◌, ℕ, ◌<◌, ◌≤◌, true, ◌&&◌, List, Option, Some, None, option_map, Result, Ok, Err}
use Rattle.blk_base.specs.Calls.{FailsReading, FailsWriting, stopped_at}
use Rattle.blk_base.specs.Content.{Write, Log, after_writes}
use Rattle.blk_base.specs.Counts.{Rose}
use Rattle.blk_base.specs.Writes.{end_of_write, end_of_writes, size_after_writes, log_after_writes, are_none, IsCutBy, IsPart, AtEachStop}
use Rattle.blk_base.specs.declared.device.Device.{Ghosts}
use Rattle.blk_base.specs.declared.device.DevFault.{DevFault}
use Rattle.blk_base.specs.declared.file.Opened.{Opened}
use Rattle.blk_base.specs.declared.fault.DevStop.{DevStop}
use Rattle.blk_base.specs.declared.fault.DevStop.TheVariants.{Io, NoSpace}

-- all but the count of faults, and which call failed last, is as before
pub record OnlyReads {D : Type 0} (g : Ghosts D) (old new : D) : Type 0 where
  pub content : g.content new ≡ g.content old
  pub flushed : g.is_flushed new ≡ g.is_flushed old
  pub log : g.log new ≡ g.log old
  pub size : g.size new ≡ g.size old
  pub capacity : g.capacity new ≡ g.capacity old
  pub faults : g.faults old ≤ g.faults new

-- why a count of faults stands or has risen, by the fault that a call tells, which is that count
abbrev pub CountsFault : Option ℕ → ℕ → ℕ → Type 0
CountsFault None before now = now ≡ before
CountsFault (Some count) before now = Rose before count × (count ≡ now)

-- what a call leaves that only reads, by the fault that it tells: that of a read
pub record Reads {D : Type 0} (g : Ghosts D) (told : Option ℕ) (old new : D) : Type 0 where
  pub reads : OnlyReads g old new
  pub cause : CountsFault told (g.faults old) (g.faults new)
  pub call : FailsReading told (g.failed_call old) (g.failed_call new)

-- all is as before
abbrev pub Untouched : {D : Type 0} → Ghosts D → D → D → Type 0
Untouched g old new = Reads g None old new

-- the fault that an answer of a device tells, whose count is now this
abbrev pub fault_of : {A : Type 0} → Result A DevFault → ℕ → Option ℕ
fault_of (Ok done) now = None
fault_of (Err fault) now = Some now

-- exactly these writes were made, in this order
pub record Wrote {D : Type 0} (g : Ghosts D) (ws : List Write) (old new : D) : Type 0 where
  pub content : g.content new ≡ option_map (λ b. after_writes b ws) (g.content old)
  pub size : g.size new ≡ size_after_writes (g.size old) ws
  -- a log that is still kept, and one behind which nothing was written
  pub log : (l : Log) → g.log new ≡ Some l
      → option_map (λ l. log_after_writes l ws) (g.log old) ≡ Some l
  pub same_log : are_none ws ≡ true → g.log new ≡ g.log old
  pub flushed : g.is_flushed new ≡ option_map (λ f. are_none ws && f) (g.is_flushed old)
  pub capacity : g.capacity new ≡ g.capacity old
  pub faults : g.faults old ≤ g.faults new

-- what is made of these writes, by the stop that a call tells
abbrev pub IsMade : Option DevStop → List Write → List Write → Type 0
IsMade None ws made = made ≡ ws
IsMade (Some stop) ws made = IsPart (IsCutBy stop) ws made

-- the one of these writes at which a call stops that has made so much of them would end above the capacity
abbrev pub IsBeyond : List Write → List Write → ℕ → Type 0
IsBeyond ws made capacity =
    (w : Write) × (stopped_at ws made ≡ Some w) × (capacity < end_of_write w)

-- and would end within it
abbrev pub IsWithin : List Write → List Write → ℕ → Type 0
IsWithin ws made capacity =
    (w : Write) × (stopped_at ws made ≡ Some w) × (end_of_write w ≤ capacity)

-- why a call with these writes, of which so much was made, is done or stops, by its stop, the capacity, and the count of
-- faults before and now
abbrev pub StopsBy : Option DevStop → List Write → List Write → ℕ → ℕ → ℕ → Type 0
StopsBy None ws made capacity before now = (end_of_writes ws ≤ capacity) × (now ≡ before)
StopsBy (Some (Io count)) ws made capacity before now =
    IsWithin ws made capacity × Rose before count × (count ≡ now)
StopsBy (Some NoSpace) ws made capacity before now = IsBeyond ws made capacity × (now ≡ before)

-- what a call leaves that makes these writes, by the stop that it tells: all of them are made, or those before the
-- one at which it stops, and of that one a cut; where it tells a fault, it is that one's
pub record Writes {D : Type 0} (g : Ghosts D) (ws : List Write) (stop : Option DevStop)
    (old new : D) : Type 0 where
  pub made : List Write
  pub part : IsMade stop ws made
  pub wrote : Wrote g made old new
  pub cause : StopsBy stop ws made (g.capacity old) (g.faults old) (g.faults new)
  pub call : FailsWriting stop ws made (g.failed_call old) (g.failed_call new)

-- the stop that an answer tells
abbrev pub stop_of : {A : Type 0} → Result A DevStop → Option DevStop
stop_of (Ok done) = None
stop_of (Err stop) = Some stop

-- the record of a device that is opened under a name and as it is now
abbrev pub opened_now : {D : Type 0} → Ghosts D → List ℕ → D → Opened
opened_now g name dev = record {
  name = name;
  size = g.size dev;
  capacity = g.capacity dev;
  faults = g.faults dev;
  returned = None;
  failed_call = g.failed_call dev;
}

-- P relates what a device tells to what it would hold wherever these writes are stopped, and behind the last
abbrev pub AtEachStopOf : {D : Type 0} → Ghosts D → (List ℕ → List ℕ → Type 0) → List Write → D
    → Type 0
AtEachStopOf g P ws dev = (b : List ℕ) → g.content dev ≡ Some b → AtEachStop (P b) ws b
