-- That a transcript, with its script and traces, is that of one history.
use Rattle.std.specs.Prelude.{◌≡◌, ◌≢◌, ℕ, true, List, All, AllPairs, codes}
use Rattle.trace_codec.specs.Awaits.{is_name}
use Rattle.blk_history.specs.Small.{IsSmall}
use Rattle.flat_machine.specs.Opening.{start}
use Rattle.flat_machine.specs.Legal.{Legal}
use Rattle.trace_codec.specs.declared.wish.Wish.{Wish}
use Rattle.trace_codec.specs.Script.{Order}
use Rattle.flat_machine.specs.Courses.{KeepsOrder, course_of}
use Rattle.flat_machine.specs.Comes.{transcript_of}
use Rattle.flat_machine.specs.declared.opening.Opening.{Opening}
use Rattle.blk_history.specs.declared.event.Event.{Event}

-- Guests have different names. None is called `script`: the end of such a guest would print as that of the script.
pub record AreGuests (guests : List (List ℕ)) : Type 0 where
  pub names : All (λ name. is_name name ≡ true) guests
  pub differ : AllPairs (λ a b. a ≢ b) guests
  pub others : All (λ name. name ≢ codes "script") guests

-- a legal history of that script and these traces, which prints so
pub record IsPrinted (o : Opening) (script : List Order) (traces : List (List Wish)) (text : List ℕ)
    (h : List Event) : Type 0 where
  pub legal : Legal (start o) h
  pub order : KeepsOrder (course_of script traces) h
  pub small : All IsSmall h
  pub printed : transcript_of o h ≡ text

-- with the script and the traces given, each transcript is that of at most one history
abbrev pub HaveOneHistory : Opening → List Order → List (List Wish) → Type 0
HaveOneHistory o script traces = AreGuests o.guests → (text : List ℕ) (h k : List Event)
    → IsPrinted o script traces text h → IsPrinted o script traces text k → h ≡ k
