-- A run from its inputs on.
use Rattle.std.proofs.Common.{◌≡◌, ℕ, ◌+◌, ◌*◌, ◌≤◌, false, List, ◌∷◌, length, map, refl, sym, ◌∙◌, ap, subst, arith, Option, Some, None, inl, inr, Vec, Global}
use Rattle.std.specs.Prelude.{vec_len, IfSome}
use Rattle.std.proofs.lemmas.List.{length-map}
use Rattle.blk_base.specs.Files.{IfTold}
use Rattle.blk_base.specs.Written.{Written}
use Rattle.blk_base.specs.declared.fault.FaultAt.{FaultAt}
use Rattle.blk_base.specs.declared.file.CallOnFile.{CallOnFile}
use Rattle.blk_base.specs.declared.file.File.{File}
use Rattle.blk_base.specs.declared.file.Opened.{Opened}
use Rattle.blk_base.specs.declared.memory.Room.{Room}
use Rattle.trace_codec.specs.declared.waits.Waits.{Waits}
use Rattle.trace_codec.specs.declared.wish.Wish.{Wish}
use Rattle.trace_codec.specs.Script.{Order}
use Rattle.blk_history.specs.Names.{JobLine}
use Rattle.blk_history.specs.Recorded.{Recorded}
use Rattle.flat_machine.specs.Courses.{KeepsOrder, course_of, course_after}
use Rattle.flat_machine.specs.declared.opening.Opening.{Opening}
use Rattle.world_parts.specs.Comes.{Comes}
use Rattle.world_parts.specs.Face.{WorldSeen}
use Rattle.world_parts.specs.Progress.{Progress, no_progress}
use Rattle.world_parts.specs.Steps.{StoreSeen, IsOpeningOf, new_world}
use Rattle.qblk_core.specs.declared.status.Status.{Status}
use Rattle.qblk_core.specs.declared.status.Status.TheVariants.{NoMemory}
use Rattle.qblk_words.specs.declared.words.Format.{Format}
use Rattle.qblk_words.specs.Words.{IsIo}
use Rattle.qblk_inputs.specs.Inputs.{Work, HasWork, IsWork}
use Rattle.qblk_inputs.specs.Reading.{StopsFor, OfInputs, StopsOn, OnInputs}
use Rattle.qblk_inputs.specs.Room.{IsRoomFor, entries_for_all}
use Rattle.qblk_words.specs.Words.{Cast, IsRunOf, Player, guests_of, player_of}
use Rattle.qblk_inputs.specs.declared.stop.InputStop.{InputStop}
use Rattle.qblk_inputs.specs.declared.stop.InputStop.TheVariants as stops
use Rattle.qblk_run.specs.Beginning.{new_task, new_tasks, IsRunReady}
use Rattle.qblk_run.specs.Run.{Setting, Answers, history_room, status_of}
use Rattle.qblk_run.specs.Session.{IsPlayed, IsGivenUp}
use Rattle.blk_history.specs.Transcript.{transcript}
use Rattle.qblk_run.specs.Ending.{EndsAs}
use Rattle.qblk_run.specs.Slots.{NoneFlies, StandsInRun}
use Rattle.qblk_run.specs.Tasks.{Tasks, ScriptTask, AreDrainsOf, CanGoOn, CanPrint, CanPrintSoFar, names_in}
use Rattle.qblk_run.proofs.Answering.{run-answers}
use Rattle.qblk_run.proofs.Accounts.{opening_by, opening-of, account, run-is}
use Rattle.qblk_run.proofs.Beginnings.{start-can, start-keeps}
use Rattle.qblk_run.proofs.Worlds.{come-first, undone-progress}
use Rattle.qblk_run.specs.Worlds.{HasCome, IsUndoneBy}

-- ---- the beginning

pub play-can : (store : StoreSeen) (guests its names : List (List ℕ)) (script : List Order) (traces : List (List Wish)) (actors : Tasks) (room : Room) (world : WorldSeen)
    → IsRunReady script traces guests actors its names room → length traces ≡ length guests → length guests ≤ 16 → world ≡ new_world store its room
    → CanGoOn world.progress actors
play-can store guests its names script traces actors room world ready count few is =
    let size : length its ≡ length traces = ap length ready.guests_are ∙ sym count in
    let start : CanGoOn (no_progress (length traces) room) (new_tasks script traces) = start-can script traces room (omega arith) ready.room_is in
    let placed : CanGoOn (no_progress (length its) room) (new_tasks script traces) = subst (λ (n : ℕ). CanGoOn (no_progress n room) (new_tasks script traces)) (sym size) start in
    rw (is, ready.actors_are) placed

-- and no drain stands
pub play-drains : (store : StoreSeen) (guests : List (List ℕ)) (room : Room) (world : WorldSeen) (script : ScriptTask) → world ≡ new_world store guests room → AreDrainsOf world script
play-drains store guests room world script is = subst (λ (w : WorldSeen). AreDrainsOf w script) (sym is) (record { jobs = record { each = λ k d below. absurd (omega arith); once = λ i j d less below. absurd (omega arith) }; command = inl refl })

-- it comes of an opening, and no copy is in flight
pub play-stands : (store : StoreSeen) (guests : List (List ℕ)) (room : Room) (world : WorldSeen) → world ≡ new_world store guests room
    → ((o : Opening) → IsOpeningOf store guests o → Comes o world) → StandsInRun world
play-stands store guests room world is begins = record {
  opening = opening_by store guests;
  comes = begins (opening_by store guests) (opening-of store guests);
  flights = subst NoneFlies (ap (λ (w : WorldSeen). w.works) (sym is)) tt;
}

-- ---- the end

-- at the beginning there is nothing to print
prints-first : (store : StoreSeen) (its guests : List (List ℕ)) (room : Room) (world : WorldSeen) → world ≡ new_world store its room → CanPrintSoFar guests world
prints-first store its guests room world is =
    subst (CanPrintSoFar guests) (sym is) (record { can = record { lines = tt; ids = λ job below. absurd (omega arith) }; started = refl })

played-lines : (w : WorldSeen) (script : List Order) (traces : List (List Wish)) (store : StoreSeen) (log : Recorded) (jobs : List JobLine) (fault : Option FaultAt)
    (waiting : Option (ℕ × Waits Written)) (guests : List (List ℕ)) → CanPrintSoFar guests w → length traces ≡ length guests
    → IsPlayed w (new_tasks script traces) store log jobs fault waiting → CanPrint (record { guests = guests; jobs = jobs }) log.events
played-lines w script traces store log jobs fault waiting guests begun count played =
    let size : length (map new_task traces) ≡ length traces = length-map traces new_task in
    let now = played.so.lines guests (omega arith) begun in
    subst (λ (lines : List JobLine). CanPrint (record { guests = guests; jobs = lines }) log.events) (sym played.jobs_are)
    (subst (λ (l : Recorded). CanPrint (names_in guests played.now.progress) l.events) (sym played.log_is) now.can)

-- memory wasn't had for a turn
pub given-up : (cast : Cast) (work : Work) (old new : Setting) (room : Room) → room ≡ history_room work → IsWork cast work → IfTold old.store.files (HasWork cast work) → length work.traces ≡ length (guests_of cast)
    → ((o : Opening) → IsOpeningOf old.store (guests_of cast) o → Comes o (new_world old.store (guests_of cast) room))
    → IsGivenUp (new_world old.store (guests_of cast) room) (new_tasks work.script work.traces) new.store
    → new.sent ≡ old.sent → new.sink_faults ≡ old.sink_faults → Answers cast old new NoMemory
given-up cast work old new room sized said inputs count begins given sent sink =
    let o = opening_by old.store (guests_of cast) in
    let c = course_of work.script work.traces in
    let w = new_world old.store (guests_of cast) room in
    let near = given.gives.near in
    let has : HasCome o c w near given.gives.after.script.orders = given.gives.comes o c w (come-first o c w (begins o (opening-of old.store (guests_of cast))) refl) in
    let comes : Comes o given.now = given.gives.undone.comes o has.comes in
    let keeps = given.gives.so.order work.script work.traces (start-keeps work.script work.traces) in
    let orders = given.gives.after.script.orders in
    let same : near.progress ≡ given.now.progress = sym (undone-progress orders near given.now given.gives.undone.by) in
    let left : orders ≡ (course_after c given.now.progress.log.events).script = sym has.left ∙ ap (λ (p : Progress). (course_after c p.log.events).script) same in (
      sent,
      sink,
      inr (
        work,
        given.fault,
        account old.store (guests_of cast) w given.now new.store given.fault refl refl refl refl comes.counted given.stays comes given.end,
        said,
        inputs,
        run-is old.store (guests_of cast) w given.now new.store given.fault refl refl refl refl comes.counted given.stays comes given.end cast work false refl count
            (subst (λ (p : Progress). KeepsOrder c p.log.events) same keeps.order) room sized near has.events
            (has.all ∙ ap (λ (p : Progress). p.log.events) same) has.through
            (inr (subst (λ (x : List Order). IsUndoneBy x near given.now) left given.gives.undone.by)),
      ),
    )

-- ---- words

some-cons : {A : Type 0} {x y : A} {xs ys : List A} → x ∷ xs ≡ y ∷ ys → (x ≡ y) × (xs ≡ ys)
some-cons e = (cc, cc)

-- they name one cast
pub one-cast : (words : List (List ℕ)) (a b : Cast) → IsRunOf words a → IsRunOf words b → a ≡ b
one-cast words a b is-a is-b =
    let one = some-cons (sym is-a.form ∙ is-b.form) in
    let two = some-cons one.1 in
    let three = some-cons two.1 in
    let players : a.players ≡ b.players = is-a.cut ∙ ap (map player_of) three.1 ∙ sym is-b.cut in
    let first : a ≡ record a { script = b.script } = ap (λ (s : List ℕ). record a { script = s }) three.0 in
    let second : record a { script = b.script } ≡ b = ap (λ (ps : List Player). record b { players = ps }) players in
    first ∙ second

-- and none of `io`
pub not-both : (words : List (List ℕ)) (cast : Cast) (format : Format) (image trace : List ℕ) → IsRunOf words cast → IsIo words format image trace → ⊥
not-both words cast format image trace run io =
    let same = (some-cons (sym run.form ∙ io.form)).0 in
    let bad : ⊥ = cc same in bad

-- ---- inputs that weren't read

same-store : (a b : StoreSeen) → a.files ≡ b.files → a.opened ≡ b.opened → a.room ≡ b.room → a.faults ≡ b.faults → a.failed_call ≡ b.failed_call → a ≡ b
same-store a b files opened room faults call =
    ap (λ (x : Option (List File)). record a { files = x }) files
    ∙ ap (λ (x : List Opened). record b { opened = x; room = a.room; faults = a.faults; failed_call = a.failed_call }) opened
    ∙ ap (λ (n : ℕ). record b { room = n; faults = a.faults; failed_call = a.failed_call }) room
    ∙ ap (λ (n : ℕ). record b { faults = n; failed_call = a.failed_call }) faults
    ∙ ap (λ (x : Option CallOnFile). record b { failed_call = x }) call

pub refused-answers : (cast : Cast) (old new : Setting) (stop : InputStop)
    → new.store.files ≡ old.store.files → new.store.opened ≡ old.store.opened → new.store.room ≡ old.store.room → new.sent ≡ old.sent → new.sink_faults ≡ old.sink_faults
    → StopsFor (OfInputs old.store.files cast) old.store.faults new.store.faults stop → StopsOn (OnInputs old.store.files cast) old.store.failed_call new.store.failed_call stop
    → Answers cast old new (status_of stop)
refused-answers cast old new (stops.Refused name line why) files opened room sent sink stop on =
    let same : new.store ≡ old.store = same-store new.store old.store files opened room stop.1 on in
    (record { files = files; opened = opened; room = room; sent = sent; sink = sink }, same, (why, refl, stop.0.0, stop.0.1))
refused-answers cast old new (stops.Failed count) files opened room sent sink stop on =
    (record { files = files; opened = opened; room = room; sent = sent; sink = sink }, stop.0, stop.1, on)
refused-answers cast old new stops.NoMemory files opened room sent sink stop on = (sent, sink, inl (same-store new.store old.store files opened room stop on))

-- ---- what was read

pub traces-count : (traces : Vec (Vec Wish Global) Global) (n : ℕ) → vec_len traces ≡ n → length (map (λ t. t.items) traces.items) ≡ n
traces-count traces n is = length-map traces.items (λ t. t.items) ∙ sym traces.ok.0 ∙ is

-- ---- as the calls say it

-- the room that was taken
room-is : (work : Work) (room : Room) → IsRoomFor (length work.script) work.traces room → room ≡ history_room work
room-is work room is =
    let one : room ≡ record room { entries = (4 * length work.script + 1) + entries_for_all work.traces } =
    ap (λ (n : ℕ). record room { entries = n }) is.entries in
    let two : record room { entries = (4 * length work.script + 1) + entries_for_all work.traces } ≡ history_room work =
    ap (λ (n : ℕ). record (history_room work) { bytes = n }) is.bytes in
    one ∙ two

-- the world and the actors that a run began with
world-is : (store : StoreSeen) (guests its : List (List ℕ)) (room : Room) (world : WorldSeen) → its ≡ guests → world ≡ new_world store its room → world ≡ new_world store guests room
world-is store guests its room world same is = is ∙ ap (λ (names : List (List ℕ)). new_world store names room) same

begins-is : (store : StoreSeen) (guests its : List (List ℕ)) (room : Room) (world : WorldSeen) → its ≡ guests → world ≡ new_world store its room
    → ((o : Opening) → IsOpeningOf store its o → Comes o world) → (o : Opening) → IsOpeningOf store guests o → Comes o (new_world store guests room)
begins-is store guests its room world same is begins o opening =
    subst (Comes o) (world-is store guests its room world same is) (begins o (rw same opening))

module _ (cast : Cast) (work : Work) (old new : Setting) (room : Room) (guests its names : List (List ℕ)) (actors : Tasks) (world : WorldSeen)
    (ready : IsRunReady work.script work.traces guests actors its names room) (called : guests_of cast ≡ guests) (count : length work.traces ≡ length guests)
    (is : world ≡ new_world old.store its room) (begins : (o : Opening) → IsOpeningOf old.store its o → Comes o world) where
  same : its ≡ guests_of cast
  same = ready.guests_are ∙ sym called

  pub given-here : IsWork cast work → IfTold old.store.files (HasWork cast work) → IsGivenUp world actors new.store → new.sent ≡ old.sent → new.sink_faults ≡ old.sink_faults → Answers cast old new NoMemory
  given-here said inputs given sent sink =
      given-up cast work old new room (room-is work room ready.room_is) said inputs (count ∙ ap length (sym called)) (begins-is old.store (guests_of cast) its room world same is begins)
      (subst (λ (t : Tasks). IsGivenUp (new_world old.store (guests_of cast) room) t new.store) ready.actors_are
      (subst (λ (w : WorldSeen). IsGivenUp w actors new.store) (world-is old.store (guests_of cast) its room world same is) given)) sent sink

  played-as : (log : Recorded) (jobs : List JobLine) (fault : Option FaultAt) (waiting : Option (ℕ × Waits Written)) → IsPlayed world actors new.store log jobs fault waiting
      → IsPlayed (new_world old.store (guests_of cast) room) (new_tasks work.script work.traces) new.store log jobs fault waiting
  played-as log jobs fault waiting played =
      subst (λ (t : Tasks). IsPlayed (new_world old.store (guests_of cast) room) t new.store log jobs fault waiting) ready.actors_are
      (subst (λ (w : WorldSeen). IsPlayed w actors new.store log jobs fault waiting) (world-is old.store (guests_of cast) its room world same is) played)

  pub played-here : (log : Recorded) (jobs : List JobLine) (fault : Option FaultAt) (waiting : Option (ℕ × Waits Written)) (status : Status)
      → IsWork cast work → IfTold old.store.files (HasWork cast work) → IsPlayed world actors new.store log jobs fault waiting
      → EndsAs fault waiting old.sent new.sent (transcript (record { guests = names; jobs = jobs }) log.events) old.sink_faults new.sink_faults status → Answers cast old new status
  played-here log jobs fault waiting status said inputs played ends =
      let played' = played-as log jobs fault waiting played in
      let printed : names ≡ guests_of cast = ready.names_are ∙ sym called in
      run-answers cast work old new room (room-is work room ready.room_is) log jobs fault waiting said inputs (count ∙ ap length (sym called)) played' (begins-is old.store (guests_of cast) its room world same is begins)
      status (subst (λ (ns : List (List ℕ)). EndsAs fault waiting old.sent new.sent (transcript (record { guests = ns; jobs = jobs }) log.events) old.sink_faults new.sink_faults status) printed ends)

-- the lines of a history that was played have their names
pub lines-here : (store : StoreSeen) (script : List Order) (traces : List (List Wish)) (guests its names : List (List ℕ)) (actors : Tasks) (room : Room) (world : WorldSeen) (after : StoreSeen)
    (log : Recorded) (jobs : List JobLine) (fault : Option FaultAt) (waiting : Option (ℕ × Waits Written)) → IsRunReady script traces guests actors its names room → length traces ≡ length guests
    → world ≡ new_world store its room → IsPlayed world actors after log jobs fault waiting → CanPrint (record { guests = names; jobs = jobs }) log.events
lines-here store script traces guests its names actors room world after log jobs fault waiting ready count is played =
    let tasks : IsPlayed world (new_tasks script traces) after log jobs fault waiting = subst (λ (t : Tasks). IsPlayed world t after log jobs fault waiting) ready.actors_are played in
    played-lines world script traces after log jobs fault waiting names (prints-first store its names room world is) (count ∙ ap length (sym ready.names_are)) tasks

-- what a call gives, where it gives something
pub if-some : {A : Type 0} (x : Option A) (a : A) (P : A → Type 0) → x ≡ Some a → IfSome x P → P a
if-some None a P is holds = let bad : ⊥ = cc is in absurd bad
if-some (Some b) a P is holds = let same : b ≡ a = cc is in subst P same holds
