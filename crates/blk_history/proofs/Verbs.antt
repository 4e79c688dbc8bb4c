-- What a line tells of its entry first: the verb.
use Rattle.std.proofs.Common.{◌≡◌, ℕ, List, [], ◌++◌, refl}
use Rattle.std.specs.Prelude.{◌==◌, if◌then◌else◌, get_or}
use Rattle.blk_history.specs.Names.{RowNames}
use Rattle.blk_history.specs.Transcript.{entry_line}
use Rattle.blk_history.specs.declared.event.Event.{Event}
use Rattle.blk_history.specs.declared.event.Event.TheVariants.{Admit, Refuse, Piece, Retire, Reply, Reached, Start, Ready, End, Done}

-- an entry that is no job's
abbrev pub IsOfNoJob : Event → Type 0
IsOfNoJob (Start job) = ⊥
IsOfNoJob (Ready job) = ⊥
IsOfNoJob (End job outcome offset) = ⊥
IsOfNoJob e = Unit {0}

pub data Verb : Type 0 where
  Admits : Verb
  Refuses : Verb
  Pieces : Verb
  Retires : Verb
  Replies : Verb
  Reaches : Verb
  Starts : Verb
  Readies : Verb
  Ends : Verb
  Finishes : Verb

unfoldable pub event_verb : Event → Verb
event_verb (Admit g r op) = Admits
event_verb (Refuse g r op why) = Refuses
event_verb (Piece g r k outcome got) = Pieces
event_verb (Retire g r) = Retires
event_verb (Reply line given command text) = Replies
event_verb (Reached line what) = Reaches
event_verb (Start job) = Starts
event_verb (Ready job) = Readies
event_verb (End job outcome offset) = Ends
event_verb (Done actor) = Finishes

-- by its first, third and fourth letters
by_letters : ℕ → ℕ → ℕ → Verb
by_letters a c d =
    if a == 97 then Admits
    else if a == 112 then Pieces
    else if a == 100 then Finishes
    else if a == 115 then Starts
    else if a == 101 then Ends
    else if c == 102 then Refuses
    else if c == 116 then Retires
    else if c == 112 then Replies
    else if d == 99 then Reaches
    else Readies

pub verb_in : List ℕ → Verb
verb_in line = by_letters (get_or line 0 0) (get_or line 2 0) (get_or line 3 0)

pub verb-told : (names : RowNames) (e : Event) (r : List ℕ) → verb_in (entry_line names e ++ r) ≡ event_verb e
unfolding verb_in by_letters event_verb
verb-told names (Admit g n op) r = refl
verb-told names (Refuse g n op why) r = refl
verb-told names (Piece g n k outcome got) r = refl
verb-told names (Retire g n) r = refl
verb-told names (Reply line given command text) r = refl
verb-told names (Reached line what) r = refl
verb-told names (Start job) r = refl
verb-told names (Ready job) r = refl
verb-told names (End job outcome offset) r = refl
verb-told names (Done actor) r = refl

-- a line is not empty
pub line-there : (names : RowNames) (e : Event) (r : List ℕ) → [] ≡ entry_line names e ++ r → ⊥
line-there names (Admit g n op) r e = cc
line-there names (Refuse g n op why) r e = cc
line-there names (Piece g n k outcome got) r e = cc
line-there names (Retire g n) r e = cc
line-there names (Reply line given command text) r e = cc
line-there names (Reached line what) r e = cc
line-there names (Start job) r e = cc
line-there names (Ready job) r e = cc
line-there names (End job outcome offset) r e = cc
line-there names (Done actor) r e = cc
