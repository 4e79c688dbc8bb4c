-- What the actors of a run have to do, and a history in which each does it in order.
use Rattle.std.specs.Prelude.{◌≡◌, ℕ, zero, suc, ◌<◌, ◌≤◌, ◌==◌, Bool, if◌then◌else◌, List, [], ◌∷◌, ◌++◌, length, slice_get, Contains, Option}
use Rattle.std.specs.List.{list_any}
use Rattle.trace_codec.specs.declared.op.Op.{Op}
use Rattle.trace_codec.specs.declared.wish.Wish.{Wish}
use Rattle.trace_codec.specs.declared.wish.Wish.TheVariants.{Ask, Wait}
use Rattle.trace_codec.specs.Script.{Order}
use Rattle.trace_codec.specs.declared.awaiting.Await.{Await}
use Rattle.trace_codec.specs.declared.order.Order.TheVariants.{Give, Watch}
use Rattle.blk_history.specs.Fold.{run, Each, With, change}
use Rattle.blk_history.specs.declared.event.Event.{Event}
use Rattle.blk_history.specs.declared.event.Event.TheVariants.{Admit, Refuse, Reply, Reached, Done}

-- what is left to do: of the script, and of each guest's trace; the lines that were answered; and the actors that are done
pub record Course : Type 0 where
  pub script : List Order
  pub traces : List (List Wish)
  pub answered : List ℕ
  pub ended : List ℕ

abbrev pub course_of : List Order → List (List Wish) → Course
course_of script traces = record { script = script; traces = traces; answered = []; ended = [] }

-- ---- traces

abbrev pub is_answered : List ℕ → ℕ → Bool
is_answered answered line = list_any (λ other. other == line) answered

-- what is left of a trace past the waits that are over
abbrev pub past_waits : List ℕ → List Wish → List Wish
past_waits answered [] = []
past_waits answered (Ask op ∷ wishes) = Ask op ∷ wishes
past_waits answered (Wait line ∷ wishes) =
    if is_answered answered line then past_waits answered wishes else Wait line ∷ wishes

abbrev pub rest_of : Course → ℕ → Option (List Wish)
rest_of c g = slice_get c.traces g

-- behind the first request
abbrev pub behind : List Wish → List Wish
behind [] = []
behind (wish ∷ wishes) = wishes

abbrev pub request_asked : ℕ → Course → Course
request_asked g c =
    record c { traces = change g (λ wishes. behind (past_waits c.answered wishes)) c.traces }

abbrev pub Begins : Op → List Wish → Type 0
Begins op (Ask other ∷ wishes) = other ≡ op
Begins op wishes = ⊥

-- the guest's next request is this one, and each wait before it is over
abbrev pub IsNextOf : Course → ℕ → Op → Type 0
IsNextOf c g op = With (rest_of c g) (λ wishes. Begins op (past_waits c.answered wishes))

-- ---- the script

abbrev pub answered_line : ℕ → Course → Course
answered_line line c = record c { script = drop_first c.script; answered = c.answered ++ line ∷ [] }
  where
    drop_first : List Order → List Order
    drop_first [] = []
    drop_first (order ∷ orders) = orders

abbrev pub IsGiven : ℕ → List ℕ → List Order → Type 0
IsGiven line text (Give n given ∷ orders) = (n ≡ line) × (given ≡ text)
IsGiven line text orders = ⊥

abbrev pub IsWatched : ℕ → Await (List ℕ) → List Order → Type 0
IsWatched line what (Watch n wait ∷ orders) = (n ≡ line) × (wait ≡ what)
IsWatched line what orders = ⊥

-- ---- each entry

abbrev pub onward : Course → Event → Course
onward c (Admit g r op) = request_asked g c
onward c (Refuse g r op why) = request_asked g c
onward c (Reply line given command text) = answered_line line c
onward c (Reached line what) = answered_line line c
onward c (Done actor) = record c { ended = c.ended ++ actor ∷ [] }
onward c e = c

-- nothing of a trace is left, and each wait at its end is over
abbrev pub IsTraceUsedUp : Course → ℕ → Type 0
IsTraceUsedUp c g = With (rest_of c g) (λ wishes. past_waits c.answered wishes ≡ [])

-- an actor is done once nothing is left of its trace, or of the script
abbrev pub CanBeDone : Course → ℕ → Type 0
CanBeDone c zero = c.script ≡ []
CanBeDone c (suc g) = IsTraceUsedUp c g

-- the entry is the next of its actor
abbrev pub IsOwn : Course → Event → Type 0
IsOwn c (Admit g r op) = IsNextOf c g op
IsOwn c (Refuse g r op why) = IsNextOf c g op
IsOwn c (Reply line given command text) = IsGiven line given c.script
IsOwn c (Reached line what) = IsWatched line what c.script
IsOwn c (Done actor) = CanBeDone c actor
IsOwn c e = Unit {0}

-- Each actor's entries are its own, in order. That a request has its pieces in order up to the first that isn't good, and is
-- then retired once, is part of being legal.
abbrev pub KeepsOrder : Course → List Event → Type 0
KeepsOrder = Each onward IsOwn

abbrev pub course_after : Course → List Event → Course
course_after = run onward

-- script and traces are used up
pub record UsesUp (c : Course) : Type 0 where
  pub script : c.script ≡ []
  pub traces : (g : ℕ) → g < length c.traces → IsTraceUsedUp c g

-- and each actor is done: the script, which is actor 0, and the guests behind it
abbrev pub AreAllDone : Course → Type 0
AreAllDone c = (actor : ℕ) → actor ≤ length c.traces → Contains c.ended actor

-- a whole history of a script and traces; one of requests alone has no ends of actors
pub record IsWhole (script : List Order) (traces : List (List Wish)) (h : List Event) : Type 0 where
  pub order : KeepsOrder (course_of script traces) h
  pub used : UsesUp (course_after (course_of script traces) h)
  pub done : AreAllDone (course_after (course_of script traces) h)
