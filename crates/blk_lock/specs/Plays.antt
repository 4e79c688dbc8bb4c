-- What each atomic step tells the pass that makes it.
use Rattle.std.specs.Prelude.{◌≡◌, ◌≢◌, ℕ, ◌+◌, ◌-◌, ◌==◌, not, true, List, [], ◌∷◌, ◌++◌, length, drop, filter, nat_lt, if◌then◌else◌, Option, Some, None, unwrap_or, IfSome}
use Rattle.atomic_table.specs.Table.{Me, Step}
use Rattle.blk_base.specs.declared.memory.Room.{Room}
use Rattle.blk_lock.specs.declared.known.Stamped.{Stamped}
use Rattle.blk_lock.specs.declared.known.View.{View}
use Rattle.blk_lock.specs.declared.known.Side.{Side}
use Rattle.blk_lock.specs.declared.known.Known.{Known}
use Rattle.blk_lock.specs.declared.known.Stage.TheVariants.{Spent, Fresh, Joined, Rest, Waiting, Out, Counted}
use Rattle.blk_lock.specs.Rooms.{no_room, plus, less, IsWithinRoom}
use Rattle.blk_lock.specs.Stamps.{is_among, entries_of, stamped, made_by, OthersAdd}
use Rattle.blk_lock.specs.Stages.{ticket_of}
use Rattle.blk_lock.specs.Order.{GoesOnByOthers, HaveNoneInCommon}

-- the actor is taken from the list, if there is one
abbrev pub without : List ℕ → Option ℕ → List ℕ
without actors None = actors
without actors (Some a) = filter (λ b. not (b == a)) actors

abbrev pub list_of : Option ℕ → List ℕ
list_of None = []
list_of (Some a) = a ∷ []

module _ {E : Type 0} where
  abbrev pub longer : List (Stamped E) → List (Stamped E) → List (Stamped E)
  longer xs ys = if nat_lt (length xs) (length ys) then ys else xs

  -- the entries of a history that follow on what was seen
  abbrev pub made_since : List (Stamped E) → List E → List E
  made_since seen history = drop (length seen) history

module _ {E O : Type 0} where
  -- a pass after a split that gave this room and actor
  abbrev pub after_split : Room → Option ℕ → View E O → View E O
  after_split room actor v = record v {
    splits = v.splits + 1;
    room = less v.room room;
    shares = v.shares - 1;
    actors = without v.actors actor;
  }

  -- the pass that the split gave
  abbrev pub split_off : Room → Option ℕ → View E O → View E O
  split_off room actor v = record v {
    name = v.name ++ (v.splits + 1) ∷ [];
    splits = 0;
    names = (v.name ++ (v.splits + 1) ∷ []) ∷ [];
    room = room;
    shares = 1;
    actors = list_of actor;
  }

  -- a pass after another was joined into it
  abbrev pub after_join : View E O → View E O → View E O
  after_join v w = record v {
    names = v.names ++ w.names;
    seen = longer v.seen w.seen;
    room = plus v.room w.room;
    shares = v.shares + w.shares;
    actors = v.actors ++ w.actors;
  }

  -- a pass with its turn out, after these entries were counted, where this is to spare
  abbrev pub after_count : List E → Room → View E O → View E O
  after_count made spare v = let took = less (unwrap_or v.turn no_room) spare in record v {
    seen = v.seen ++ stamped v.name took made;
    room = less v.room took;
    turn = Some spare;
  }

  -- a pass after it gave its turn back
  abbrev pub after_put : List E → Room → View E O → View E O
  after_put made spare v = record (after_count made spare v) { turn = None }

  abbrev pub side_of : View E O → Side E
  side_of v = record { names = v.names; actors = v.actors; seen = v.seen }

  abbrev pub split_known : Room → Option ℕ → Known E O → Known E O
  split_known room actor p = record p { view = after_split room actor p.view }

  abbrev pub fresh_known : Room → Option ℕ → Known E O → Known E O
  fresh_known room actor p = record { stage = Fresh; view = split_off room actor p.view }

  abbrev pub joined_known : Known E O → Known E O → Known E O
  joined_known p q = record {
    stage = Joined (side_of p.view) (side_of q.view);
    view = after_join p.view q.view;
  }

  abbrev pub counted_known : List E → Room → Known E O → Known E O
  counted_known made spare p = record {
    stage = Counted (unwrap_or (ticket_of p.stage) 0);
    view = after_count made spare p.view;
  }

  abbrev pub resting : Known E O → Known E O
  resting p = record p { stage = Rest }

  abbrev pub spent_known : Known E O
  spent_known = record {
    stage = Spent;
    view = record {
      opening = None;
      name = [];
      splits = 0;
      names = [];
      seen = [];
      room = no_room;
      shares = 0;
      actors = [];
      turn = None;
    };
  }

  -- the pass has seen this history
  abbrev pub having_seen : List (Stamped E) → Known E O → Known E O
  having_seen seen p = record p { view = record p.view { seen = seen } }

module _ {W E O : Type 0} where
  -- a ticket was drawn where the word was as expected
  pub record Draws (st : Step (Option W)) (m : Me (Option W) (Known E O)) (found : ℕ)
      (m' : Me (Option W) (Known E O)) : Type 0 where
    pub drawn : found ≡ st.first → m' ≡ (record m.0 { stage = Waiting st.first }, m.1)
    pub missed : found ≢ st.first → m' ≡ m

  -- the pass has taken this value, and seen its whole history
  pub record HasTaken (history : W → List E) (actor : E → Option ℕ) (spare : W → Room)
      (comes : W → O → Type 0) (ticket : ℕ) (p q : Known E O) (world : W) : Type 0 where
    pub seen : List (Stamped E)
    pub after : q ≡ record {
      stage = Out ticket;
      view = record p.view { seen = seen; turn = Some (spare world) };
    }
    pub told : history world ≡ entries_of seen
    pub opened : IfSome p.view.opening (comes world)
    pub room : IsWithinRoom p.view.room (spare world)
    pub others : OthersAdd actor p.view.names p.view.actors p.view.seen seen

  -- the value is taken from its slot
  pub record Takes (history : W → List E) (actor : E → Option ℕ) (spare : W → Room)
      (comes : W → O → Type 0) (ticket : ℕ) (m m' : Me (Option W) (Known E O)) : Type 0 where
    pub world : W
    pub taken : HasTaken history actor spare comes ticket m.0 m'.0 world
    pub in_hand : m'.1 ≡ (0, Some world) ∷ m.1

  -- the value is taken where the ticket is served
  pub record Watches (history : W → List E) (actor : E → Option ℕ) (spare : W → Room)
      (comes : W → O → Type 0) (m : Me (Option W) (Known E O)) (found : ℕ)
      (m' : Me (Option W) (Known E O)) : Type 0 where
    pub served : ticket_of m.0.stage ≡ Some found → Takes history actor spare comes found m m'
    pub missed : ticket_of m.0.stage ≢ Some found → m' ≡ m

  -- what was made with the value in hand is counted, under the pass's name, which is one of its names
  pub record CountsMade (history : W → List E) (spare : W → Room)
      (m m' : Me (Option W) (Known E O)) : Type 0 where
    pub after : (world : W) → m.1 ≡ (0, Some world) ∷ []
        → m' ≡ (counted_known (made_since m.0.view.seen (history world)) (spare world) m.0, m.1)
    pub named : is_among m.0.view.names m.0.view.name ≡ true

  -- the value is given back
  abbrev pub Serves : Me (Option W) (Known E O) → Me (Option W) (Known E O) → Type 0
  Serves m m' = m' ≡ (record { stage = Rest; view = record m.0.view { turn = None } }, [])

  -- the history so far is seen, and its length found
  pub record LooksAtHistory (actor : E → Option ℕ) (m : Me (Option W) (Known E O)) (found : ℕ)
      (m' : Me (Option W) (Known E O)) : Type 0 where
    pub seen : List (Stamped E)
    pub after : m' ≡ (having_seen seen m.0, m.1)
    pub found_all : found ≡ length seen
    pub others : OthersAdd actor m.0.view.names m.0.view.actors m.0.view.seen seen

  -- a new pass has made nothing of what it has seen
  pub record Settles (m m' : Me (Option W) (Known E O)) : Type 0 where
    pub after : m' ≡ (resting m.0, m.1)
    pub nothing : made_by m.0.view.names m.0.view.seen ≡ []

  -- what a pass has seen after a join, which is the longer of two histories, goes on from both
  pub record Joins (actor : E → Option ℕ) (m m' : Me (Option W) (Known E O)) : Type 0 where
    pub after : m' ≡ (resting m.0, m.1)
    pub both : (left right : Side E) → m.0.stage ≡ Joined left right
        → m.0.view.seen ≡ longer left.seen right.seen → GoesOnByOthers actor m.0.view.seen left
        × GoesOnByOthers actor m.0.view.seen right
    pub apart : (left right : Side E) → m.0.stage ≡ Joined left right
        → HaveNoneInCommon left.names left.actors right.names right.actors
