-- What a turn of an actor does.
use Rattle.std.specs.Prelude.{◌≡◌, ◌⊎◌, ℕ, ◌+◌, ◌<◌, ◌≤◌, Bool, true, false, List, [], ◌∷◌, ◌++◌, length, slice_get, Option, Some, None, is_some}
use Rattle.trace_codec.specs.declared.wish.Wish.{Wish}
use Rattle.trace_codec.specs.declared.wish.Wish.TheVariants.{Ask, Wait}
use Rattle.trace_codec.specs.declared.order.Order.TheVariants.{Give, Watch}
use Rattle.blk_history.specs.Fold.{With}
use Rattle.blk_history.specs.Line.{shown_by}
use Rattle.blk_history.specs.Names.{JobLine}
use Rattle.blk_history.specs.declared.event.Event.{Event}
use Rattle.blk_history.specs.declared.event.Event.TheVariants.{Admit, Refuse, Piece, Retire, Reply, Reached, Start, Done}
use Rattle.qmp_asks.specs.Naming.{is_name}
use Rattle.flat_machine.specs.Comes.{guest_step}
use Rattle.flat_machine.specs.Courses.{past_waits, is_answered}
use Rattle.flat_machine.specs.Marks.{after_reply}
use Rattle.flat_machine.specs.declared.opening.Opening.{Opening}
use Rattle.world_parts.specs.Coherent.{AreDrainsKept}
use Rattle.world_parts.specs.Comes.{Comes}
use Rattle.world_parts.specs.Face.{WorldSeen}
use Rattle.world_parts.specs.Progress.{Progress, answered_in}
use Rattle.qblk_inputs.specs.Room.{bytes_for}
use Rattle.qblk_run.specs.Slots.{NoneFlies}
use Rattle.qblk_run.specs.Tasks.{Task, ScriptTask, IsTaskOf, entries_of_script, entries_to_come, steps_of, Halts, ScriptRests}
use Rattle.qblk_run.specs.Worlds.{IsPutOffBy}

-- the world of the same run: its store tells as much, and began with the same count and openings, it comes of what it came of, and its
-- jobs hold disks as they are to where they did
pub record StaysIn (w v : WorldSeen) : Type 0 where
  pub told : is_some v.files ≡ is_some w.files
  pub first : v.first_faults ≡ w.first_faults
  pub earlier : v.earlier ≡ w.earlier
  pub room : v.room ≡ w.room
  pub comes : (o : Opening) → Comes o w → Comes o v
  pub drains : AreDrainsKept w.table w.drains → AreDrainsKept v.table v.drains

-- beside entries: drains stay, no job begins, and no copy is in flight where none was
pub record KeepsBeside (w v : WorldSeen) : Type 0 where
  pub drains : v.drains ≡ w.drains
  pub started : v.table.started ≡ w.table.started
  pub flights : NoneFlies w.works → NoneFlies v.works

-- ---- guests

-- the line that a wish waits for
abbrev pub waited_in : Option Wish → Option ℕ
waited_in (Some (Wait line)) = Some line
waited_in wish = None

-- a wish is a wait for a line that was answered
abbrev pub is_over_in : List ℕ → Option Wish → Bool
is_over_in answered (Some (Wait line)) = is_answered answered line
is_over_in answered wish = false

-- a request is the first wish past the waits that are over
pub record Asks (answered : List ℕ) (op_wish : Wish) (before after : Task) : Type 0 where
  pub next : past_waits answered before.wishes ≡ op_wish ∷ after.wishes
  pub is_done : after.is_done ≡ before.is_done

-- the request in flight goes on, and the same is left behind it
pub record StaysInFlight (answered : List ℕ) (before after : Task) : Type 0 where
  pub wishes : past_waits answered after.wishes ≡ past_waits answered before.wishes
  pub is_done : after.is_done ≡ before.is_done

-- nothing is left
pub record Ends (answered : List ℕ) (before after : Task) : Type 0 where
  pub used : past_waits answered before.wishes ≡ []
  pub wishes : after.wishes ≡ []
  pub is_done : after.is_done ≡ true

-- the entry is the next of a guest's task
abbrev pub IsOwnMove : List ℕ → ℕ → Task → Task → Event → Type 0
IsOwnMove answered g before after (Admit n r op) = (n ≡ g) × Asks answered (Ask op) before after
IsOwnMove answered g before after (Refuse n r op why) =
    (n ≡ g) × Asks answered (Ask op) before after
IsOwnMove answered g before after (Piece n r k outcome got) =
    (n ≡ g) × StaysInFlight answered before after
IsOwnMove answered g before after (Retire n r) = (n ≡ g) × StaysInFlight answered before after
IsOwnMove answered g before after (Done actor) = (actor ≡ g + 1) × Ends answered before after
IsOwnMove answered g before after e = ⊥

-- A guest makes an entry. Its task takes no more room than before, and is less.
pub record IsMove (p q : Progress) (g : ℕ) (before after : Task) (e : Event) : Type 0 where
  pub own : IsOwnMove (answered_in p.log.events) g before after e
  pub events : q.log.events ≡ p.log.events ++ e ∷ []
  pub guests : q.guests ≡ guest_step p.guests e
  pub task : With (slice_get q.guests g) (λ row. IsTaskOf row after)
  pub entries : p.spare.entries + entries_to_come after ≤ q.spare.entries + entries_to_come before
  pub bytes : p.spare.bytes + bytes_for after.wishes ≤ q.spare.bytes + bytes_for before.wishes
  pub steps : steps_of after < steps_of before
  pub aside : q.aside ≡ p.aside
  pub jobs : q.jobs ≡ p.jobs
  pub shown : length (shown_by e) ≤ 65536

abbrev pub MakesMove : Progress → Progress → ℕ → Task → Task → Type 0
MakesMove p q g before after = (e : Event) × IsMove p q g before after e

abbrev pub GuestMoves : WorldSeen → WorldSeen → ℕ → Task → Task → Type 0
GuestMoves w v g before after =
    MakesMove w.progress v.progress g before after × KeepsBeside w v

-- it makes none: it is done, waits or is held; waits that are over are passed
pub record IsStill (w v : WorldSeen) (g : ℕ) (before after : Task) : Type 0 where
  pub world : v ≡ w
  pub wishes : after.wishes ≡ past_waits (answered_in w.progress.log.events) before.wishes
  pub left : after.left ≡ before.left
  pub is_done : after.is_done ≡ before.is_done
  pub halts : Halts w g after

abbrev pub IsTurn : WorldSeen → WorldSeen → ℕ → Task → Task → Bool → Type 0
IsTurn w v g before after true = GuestMoves w v g before after
IsTurn w v g before after false = IsStill w v g before after

-- ---- the script

-- the entry is the next of the script, or its end
abbrev pub IsOwnOrder : ScriptTask → ScriptTask → Event → Type 0
IsOwnOrder before after (Reply line given command text) =
    (before.orders ≡ Give line given ∷ after.orders) × (after.is_done ≡ false)
IsOwnOrder before after (Reached line what) =
    (before.orders ≡ Watch line what ∷ after.orders) × (after.is_done ≡ false)
IsOwnOrder before after (Done actor) =
    (actor ≡ 0) × (before.orders ≡ []) × (after.orders ≡ []) × (after.is_done ≡ true)
IsOwnOrder before after e = ⊥

-- The script, which was not done, makes an entry, behind which others may stand. Its task takes no more room than before, and is
-- less, by more than is set aside for a job.
pub record IsScriptMove (p q : Progress) (before after : ScriptTask) (e : Event)
    (es : List Event) : Type 0 where
  pub runs : before.is_done ≡ false
  pub own : IsOwnOrder before after e
  pub events : q.log.events ≡ p.log.events ++ e ∷ es
  pub guests : q.guests ≡ p.guests
  pub entries : p.spare.entries + entries_of_script after
      ≤ q.spare.entries + entries_of_script before
  pub bytes : p.spare.bytes ≤ q.spare.bytes
  pub steps : entries_of_script after + q.aside < entries_of_script before + p.aside

-- a reply ends the drain for a command that had to come again, and no other entry changes drains
abbrev pub DrainsAfter : WorldSeen → WorldSeen → Event → Type 0
DrainsAfter w v (Reply line given command text) = v.drains ≡ after_reply w.drains
DrainsAfter w v e = v.drains ≡ w.drains

-- the next job begins, and has its name
pub record IsNamedStart (w v : WorldSeen) (job : ℕ) : Type 0 where
  pub number : job ≡ w.table.started
  pub started : v.table.started ≡ w.table.started + 1
  pub line : JobLine
  pub named : is_name line.id ≡ true
  pub jobs : v.progress.jobs ≡ w.progress.jobs ++ line ∷ []

-- behind an entry stands nothing, or the start of a job
abbrev pub NamesStarts : WorldSeen → WorldSeen → List Event → Type 0
NamesStarts w v [] = (v.table.started ≡ w.table.started) × (v.progress.jobs ≡ w.progress.jobs)
NamesStarts w v (Start job ∷ []) = IsNamedStart w v job
NamesStarts w v es = ⊥

pub record ScriptMoves (w v : WorldSeen) (before after : ScriptTask) : Type 0 where
  pub entry : Event
  pub behind : List Event
  pub move : IsScriptMove w.progress v.progress before after entry behind
  pub drains : DrainsAfter w v entry
  pub starts : NamesStarts w v behind
  pub flights : NoneFlies w.works → NoneFlies v.works

pub record IsScriptStill (w v : WorldSeen) (before after : ScriptTask) : Type 0 where
  pub world : v ≡ w
  pub task : after ≡ before
  pub rests : ScriptRests w after

-- its line has to come again, and is kept for that
pub record IsScriptPutOff (w v : WorldSeen) (before after : ScriptTask) : Type 0 where
  pub task : after ≡ before
  pub off : IsPutOffBy before.orders w v

abbrev pub IsScriptTurn : WorldSeen → WorldSeen → ScriptTask → ScriptTask → Bool → Type 0
IsScriptTurn w v before after true = ScriptMoves w v before after
IsScriptTurn w v before after false =
    IsScriptStill w v before after ⊎ IsScriptPutOff w v before after
