-- What each event of a guest makes of its task.
use Rattle.std.proofs.Common.{◌≡◌, ℕ, zero, suc, ◌+◌, ◌-◌, ◌≤◌, ◌<◌, true, false, Bool, List, [], ◌∷◌, ◌++◌, length, refl, sym, ◌∙◌, ap, subst, arith, add-one, Option, Some, None, inl, inr}
use Rattle.std.specs.Prelude.{slice_get, option_and_then, option_to_list}
use Rattle.std.proofs.lemmas.Bool.{false≢true}
use Rattle.blk_base.specs.Outcomes.{is_good}
use Rattle.blk_base.specs.Pieces.{Extent, piece_of}
use Rattle.blk_base.specs.declared.fault.Outcome.{Outcome}
use Rattle.trace_codec.specs.declared.op.Op.{Op}
use Rattle.trace_codec.specs.declared.op.Op.TheVariants.{Read, Write, Zero, Flush, Discard}
use Rattle.trace_codec.specs.declared.wish.Wish.{Wish}
use Rattle.trace_codec.specs.declared.wish.Wish.TheVariants.{Ask}
use Rattle.trace_codec.specs.Request.{pieces_of, read_bytes_of}
use Rattle.trace_codec.specs.declared.waits.Waits.{Waits}
use Rattle.trace_codec.specs.declared.waits.Waits.TheVariants.{Attached}
use Rattle.blk_history.specs.Disk.{piece}
use Rattle.blk_history.specs.Fold.{With, change}
use Rattle.blk_history.specs.Legal.{IsFlightOver}
use Rattle.blk_history.specs.Machine.{Flight, one_further}
use Rattle.blk_history.specs.declared.entry.Refused.{Refused}
use Rattle.blk_history.specs.declared.event.Event.{Event}
use Rattle.blk_history.specs.declared.event.Event.TheVariants.{Admit, Refuse, Piece, Retire, Reply, Reached, Start, Ready, End, Done}
use Rattle.qmp_rules.specs.Chains.{disk_node, written_under}
use Rattle.qmp_rules.specs.Table.{RunTable}
use Rattle.flat_machine.specs.State.{Guest}
use Rattle.flat_machine.specs.Machine.{admitted, finished, past_piece}
use Rattle.flat_machine.specs.Courses.{past_waits}
use Rattle.blk_pieces.specs.Pieces.{shows_in}
use Rattle.flat_machine.specs.Legal.{IsNotDone}
use Rattle.flat_machine.specs.Blocked.{TraceWaits}
use Rattle.flat_machine.specs.Marks.{is_guest_held}
use Rattle.world_parts.specs.declared.admission.Admission.TheVariants.{Admitted, Refused as NotAdmitted, Away}
use Rattle.world_parts.specs.Face.{WorldSeen, seen_state}
use Rattle.world_parts.specs.Piecing.{part_of, shown_in_flight, table_after}
use Rattle.world_parts.specs.Progress.{Progress, ended_in, answered_in, requests_done, flight_at, with_piece_entry, with_retirement, IsFree, HasNext, CanShow, HasRoomFor}
use Rattle.world_parts.specs.Steps.{with_history, after_admission, after_actor_end, IsAnswered, IsActorIdle}
use Rattle.qblk_inputs.specs.Room.{entries_for, bytes_for, HaveNumbers}
use Rattle.qblk_run.specs.Tasks.{Task, IsTaskOf, IsTaskIn, HasPiecesLeft, IsFlying, flight_entries, entries_to_come, steps_of, end_entries}
use Rattle.qblk_run.specs.Slots.{NoneFlies}
use Rattle.qblk_run.specs.Turns.{IsOwnMove, KeepsBeside, MakesMove, IsTurn}
use Rattle.qblk_run.specs.Worlds.{IsGuardedFor, MakesPiece}
use Rattle.qblk_run.proofs.Counts.{flights-found, flights-marked, flights-with, guard-lands, marked-keeps}
use Rattle.qblk_run.proofs.Worlds.{guarded-kept}
use Rattle.qblk_run.proofs.Lists.{with-at, at-with, with-some, get-change, none-has, below-get}
use Rattle.qblk_run.proofs.Waits.{through, grows-same, entries-past, bytes-past}
use Rattle.qblk_run.proofs.Continuing.{Passes, entries-same, bytes-same, passed-task}

-- ---- what the task says of the guest's row

-- the row of the guest, and its flight
row-of : (p : Progress) (g : ℕ) (task : Task) → IsTaskIn p g task → (row : Guest) × (slice_get p.guests g ≡ Some row) × IsTaskOf row task
row-of p g task is = with-some (slice_get p.guests g) (λ row. IsTaskOf row task) is.row

flies : (left : ℕ) (flight : Option Flight) → IsFlying (Some left) flight → (f : Flight) × (flight ≡ Some f) × HasPiecesLeft left f
flies left None is = absurd is
flies left (Some f) is = (f, refl, is)

flies-by : (x : Option ℕ) (left : ℕ) (flight : Option Flight) → x ≡ Some left → IsFlying x flight → (f : Flight) × (flight ≡ Some f) × HasPiecesLeft left f
flies-by None left flight is flying = let bad : ⊥ = cc is in absurd bad
flies-by (Some n) left flight is flying = let same : n ≡ left = cc is in flies left flight (subst (λ (m : ℕ). IsFlying (Some m) flight) same flying)

rests : (left : Option ℕ) (flight : Option Flight) → left ≡ None → IsFlying left flight → flight ≡ None
rests None None none is = refl
rests None (Some f) none is = absurd is
rests (Some n) flight none is = absurd (let bad : ⊥ = cc none in bad)

-- the flight of a guest with so many pieces left
pub flight-of : (p : Progress) (g left : ℕ) (task : Task) → IsTaskIn p g task → task.left ≡ Some left → (f : Flight) × (flight_at p.guests g ≡ Some f) × HasPiecesLeft left f
flight-of p g left task is flying =
    let row = row-of p g task is in
    let f = flies-by task.left left row.0.flight flying row.2.flying in
    (f.0, ap (option_and_then (λ (r : Guest). r.flight)) row.1 ∙ f.1, f.2)

pub is-over : (p : Progress) (g : ℕ) (task : Task) → IsTaskIn p g task → task.left ≡ Some 0 → With (flight_at p.guests g) IsFlightOver
is-over p g task is flying = let f = flight-of p g 0 task is flying in at-with (flight_at p.guests g) f.0 IsFlightOver f.1 f.2

has-next : (left : ℕ) (f : Flight) → 0 < left → HasPiecesLeft left f → HasNext f
has-next zero f more is = absurd (omega arith)
has-next (suc n) f more is = record { running = is.0; next = let sum = is.1 in omega arith }

pub can-go : (p : Progress) (g left : ℕ) (task : Task) → IsTaskIn p g task → task.left ≡ Some left → 0 < left → With (flight_at p.guests g) HasNext
can-go p g left task is flying more = let f = flight-of p g left task is flying in at-with (flight_at p.guests g) f.0 HasNext f.1 (has-next left f.0 more f.2)

pub is-open : (w : WorldSeen) (g : ℕ) (task : Task) → IsTaskIn w.progress g task → task.is_done ≡ false → IsNotDone (seen_state w) (g + 1)
is-open w g task is going = none-has (ended_in w.progress.log.events) (g + 1) task.is_done is.ended going

pub is-free : (p : Progress) (g : ℕ) (task : Task) → IsTaskIn p g task → task.left ≡ None → 0 < length task.wishes → With (slice_get p.guests g) IsFree
is-free p g task is none some =
    let row = row-of p g task is in
    let count = row.2.count in
    at-with (slice_get p.guests g) row.0 IsFree row.1 (record { idle = rests task.left row.0.flight none row.2.flying; numbered = omega arith })

pub is-idle : (p : Progress) (g : ℕ) (task : Task) → IsTaskIn p g task → task.left ≡ None → IsActorIdle p.guests (g + 1)
is-idle p g task is none =
    let row = row-of p g task is in
    subst (IsActorIdle p.guests) (sym (add-one g)) (at-with (slice_get p.guests g) row.0 (λ r. r.flight ≡ None) row.1 (rests task.left row.0.flight none row.2.flying))

pub row-known : (p : Progress) (g : ℕ) (task : Task) → IsTaskIn p g task → g + 1 ≤ length p.guests
row-known p g task is = let below = below-get p.guests g _ (row-of p g task is).1 in omega arith

pub end-room : (p : Progress) (task : Task) → task.is_done ≡ false → entries_to_come task ≤ p.spare.entries → 0 < p.spare.entries
end-room p task going entries = let one : end_entries task.is_done ≡ 1 = ap end_entries going in omega arith

pub has-room : (p : Progress) (g : ℕ) (task : Task) (op : Op) (rest : List Wish) → IsTaskIn p g task → task.wishes ≡ Ask op ∷ rest
    → entries_to_come task ≤ p.spare.entries → bytes_for task.wishes ≤ p.spare.bytes → HasRoomFor op p.spare
has-room p g task op rest is first entries bytes =
    let row = row-of p g task is in
    let numbers : HaveNumbers (Ask op ∷ rest) = rw first at row.2.numbers in
    let n : entries_for task.wishes ≡ (pieces_of op + 2) + entries_for rest = ap entries_for first in
    let m : bytes_for task.wishes ≡ read_bytes_of op + bytes_for rest = ap bytes_for first in
    record { pieces = numbers.0; entries = omega arith; bytes = omega arith }

-- ---- a piece shows at most a block

piece-short : (span : Extent) (k : ℕ) → (piece_of span k).len ≤ 65536
unfolding piece_of
piece-short span k = omega arith

shows-short : (op : Op) (k n : ℕ) → n ≤ shows_in op (piece op k).len → n ≤ 65536
shows-short (Read span) k n le = let short = piece-short span k in omega arith
shows-short (Write span payload) k n le = omega arith
shows-short (Zero span) k n le = omega arith
shows-short Flush k n le = omega arith
shows-short (Discard span) k n le = omega arith

-- ---- the row after each event

put-row : (guests : List Guest) (g : ℕ) (f : Guest → Guest) (row : Guest) (P : Guest → Type 0) → slice_get guests g ≡ Some row → P (f row) → With (slice_get (change g f guests) g) P
put-row guests g f row P there holds = rw (get-change g f guests, there) holds

left-next : (n : ℕ) (f : Flight) (outcome : Outcome) (left : ℕ) → HasPiecesLeft (suc n) f → (is_good outcome ≡ true → left ≡ n) → (is_good outcome ≡ false → left ≡ 0) → HasPiecesLeft left (one_further outcome f)
left-next n f outcome left is good bad = by_test (is_good outcome) refl
  where
    on_good : (m : ℕ) → is_good outcome ≡ true → m ≡ n → HasPiecesLeft m (one_further outcome f)
    on_good zero e same = inl (let sum = is.1 in omega arith)
    on_good (suc m) e same = (rw e refl, let sum = is.1 in omega arith)

    by_test : (b : Bool) → is_good outcome ≡ b → HasPiecesLeft left (one_further outcome f)
    by_test true e = on_good left e (good e)
    by_test false e = rw (bad e) (inr (rw e refl))

-- what a piece notes
pub piece-noted : (w v : WorldSeen) (g : ℕ) (outcome : Outcome) → With (flight_at w.progress.guests g) HasNext
    → ((f : Flight) → flight_at w.progress.guests g ≡ Some f → MakesPiece w v g f outcome)
    → (f : Flight) → flight_at w.progress.guests g ≡ Some f → (got : List ℕ) × (v.progress ≡ with_piece_entry g f.next outcome got w.progress) × CanShow (length got) f
piece-noted w v g outcome can makes f there =
    let its = makes f there in
    let next = with-at (flight_at w.progress.guests g) f HasNext there can in
    let same : its.between.progress ≡ w.progress = ap (λ (u : WorldSeen). u.progress) (guarded-kept w its.between g f its.guarded) in (
      shown_in_flight f outcome its.made.buffer,
      ap (λ (u : WorldSeen). u.progress) its.made.kept ∙ ap (with_piece_entry g f.next outcome (shown_in_flight f outcome its.made.buffer)) same,
      record { next = next.next; shown = its.made.shown },
    )

-- ---- beside entries

pub beside-kept : (w v : WorldSeen) → v.drains ≡ w.drains → v.table ≡ w.table → v.works ≡ w.works → KeepsBeside w v
beside-kept w v drains table works = record {
  drains = drains;
  started = ap (λ (t : RunTable). t.started) table;
  flights = λ none. subst NoneFlies (sym works) none;
}

started-after : (op : Op) (node : ℕ) (t : RunTable) → (table_after op node t).started ≡ t.started
unfolding written_under
started-after (Read span) node t = refl
started-after (Write span payload) node t = refl
started-after (Zero span) node t = refl
started-after Flush node t = refl
started-after (Discard span) node t = refl

guard-flights : (w v : WorldSeen) (g : ℕ) (f : Flight) → IsGuardedFor w v g f → NoneFlies w.works → NoneFlies v.works
guard-flights w v g f (inl same) none = subst NoneFlies (ap (λ (u : WorldSeen). u.works) (sym same.0)) none
guard-flights w v g f (inr guards) none =
    let change = guards.guards.guards in
    let landed : change.now.rows ≡ [] = guard-lands w.nodes v.nodes change.was change.now guards.row.source guards.target guards.block
    (flights-found w.works guards.row.number change.was none change.there) change.done.guards in
    subst NoneFlies (sym change.kept) (flights-with change.now w.works landed none)

pub piece-beside : (w v : WorldSeen) (g : ℕ) (f : Flight) (outcome : Outcome) → MakesPiece w v g f outcome → KeepsBeside w v
piece-beside w v g f outcome makes =
    let x = makes.between in
    let made = makes.made in
    let before = guarded-kept w x g f makes.guarded in
    record {
      drains = ap (λ (u : WorldSeen). u.drains) made.kept ∙ ap (λ (u : WorldSeen). u.drains) before;
      started = ap (λ (u : WorldSeen). u.table.started) made.kept ∙ started-after f.op (disk_node x.table made.drive) x.table ∙ ap (λ (u : WorldSeen). u.table.started) before;
      flights = λ none. subst NoneFlies (sym (ap (λ (u : WorldSeen). u.works) made.kept))
          (marked-keeps NoneFlies flights-marked f.op outcome x.table (disk_node x.table made.drive) (part_of f) x.works (guard-flights w x g f makes.guarded none));
    }

-- ---- each event

module _ (w v : WorldSeen) (g : ℕ) (before after : Task) (is : IsTaskIn w.progress g before) where
  pub retire-move : before.left ≡ Some 0 → v ≡ with_history w (with_retirement g)
      → after.wishes ≡ before.wishes → after.left ≡ None → after.is_done ≡ before.is_done → MakesMove w.progress v.progress g before after
  retire-move flying kept wishes left done =
      let row = row-of w.progress g before is in
      let count = row.2.count in
      let e = Retire g (requests_done w.progress.guests g) in
      let flown : flight_entries before.left ≡ 1 = ap flight_entries flying in
      let none : flight_entries after.left ≡ 0 = ap flight_entries left in
      let size : length after.wishes ≡ length before.wishes = ap length wishes in (
        e,
        rw kept (record {
          own = (refl, record { wishes = ap (past_waits (answered_in w.progress.log.events)) wishes; is_done = done });
          events = refl;
          guests = refl;
          task = put-row w.progress.guests g finished row.0 (λ r. IsTaskOf r after) row.1 (record {
            flying = rw left tt;
            count = omega arith;
            numbers = rw wishes row.2.numbers;
            used = λ is_done. (wishes ∙ (row.2.used (sym done ∙ is_done)).0, left);
          });
          entries = rw (wishes, done) (omega arith);
          bytes = rw wishes (omega arith);
          steps = rw (wishes, done, left, flying) (omega arith);
          aside = refl;
          jobs = refl;
          shown = omega arith;
        }),
      )

  pub piece-move : (left now : ℕ) (outcome : Outcome) → before.left ≡ Some left → 0 < left
      → ((f : Flight) → flight_at w.progress.guests g ≡ Some f → (got : List ℕ) × (v.progress ≡ with_piece_entry g f.next outcome got w.progress) × CanShow (length got) f)
      → (is_good outcome ≡ true → now ≡ left - 1) → (is_good outcome ≡ false → now ≡ 0)
      → after.wishes ≡ before.wishes → after.left ≡ Some now → after.is_done ≡ before.is_done → MakesMove w.progress v.progress g before after
  piece-move zero now outcome flying more made good bad wishes left done = absurd (omega arith)
  piece-move (suc n) now outcome flying more made good bad wishes left done =
      let row = row-of w.progress g before is in
      let f = flies-by before.left (suc n) row.0.flight flying row.2.flying in
      let here : flight_at w.progress.guests g ≡ Some f.0 = ap (option_and_then (λ (r : Guest). r.flight)) row.1 ∙ f.1 in
      let got = made f.0 here in
      let count = row.2.count in
      let flown : flight_entries before.left ≡ 1 = ap flight_entries flying in
      let some : flight_entries after.left ≡ 1 = ap flight_entries left in
      let size : length after.wishes ≡ length before.wishes = ap length wishes in
      let less : now ≤ n = now-less (is_good outcome) refl in
      let e = Piece g (requests_done w.progress.guests g) f.0.next outcome got.0 in
      let flew = f.1 in (
        e,
        rw got.1 (record {
          own = (refl, record { wishes = ap (past_waits (answered_in w.progress.log.events)) wishes; is_done = done });
          events = refl;
          guests = refl;
          task = put-row w.progress.guests g (past_piece outcome) row.0 (λ r. IsTaskOf r after) row.1 (record {
            flying = rw (left, flew) (left-next n f.0 outcome now f.2 (λ e. let is = good e in omega arith) bad);
            count = omega arith;
            numbers = rw wishes row.2.numbers;
            used = λ is_done. let none = (row.2.used (sym done ∙ is_done)).1 in let bad : ⊥ = cc (none, flying) in absurd bad;
          });
          entries = rw (wishes, done) (omega arith);
          bytes = rw wishes (omega arith);
          steps = rw (wishes, done, left, flying) (omega arith);
          aside = refl;
          jobs = refl;
          shown = shows-short f.0.op f.0.next (length got.0) got.2.shown;
        }),
      )
    where
      now-less : (b : Bool) → is_good outcome ≡ b → now ≤ n
      now-less true e = let is = good e in omega arith
      now-less false e = let is = bad e in omega arith

  pub end-move : before.left ≡ None → before.is_done ≡ false → before.wishes ≡ [] → entries_to_come before ≤ w.progress.spare.entries
      → v ≡ after_actor_end w (g + 1) → after.wishes ≡ [] → after.left ≡ None → after.is_done ≡ true → MakesMove w.progress v.progress g before after
  end-move idle going used room kept wishes left done =
      let row = row-of w.progress g before is in
      let count = row.2.count in
      let none : flight_entries after.left ≡ 0 = ap flight_entries left in
      let was : flight_entries before.left ≡ 0 = ap flight_entries idle in
      let size : length after.wishes ≡ 0 = ap length wishes in
      let entries : entries_to_come before ≡ 1 = rw (used, going) refl in (
        Done (g + 1),
        rw kept (record {
          own = (refl, record { used = ap (past_waits (answered_in w.progress.log.events)) used; wishes = wishes; is_done = done });
          events = refl;
          guests = refl;
          task = at-with (slice_get w.progress.guests g) row.0 (λ r. IsTaskOf r after) row.1 (record {
            flying = rw (left, rests before.left row.0.flight idle row.2.flying) tt;
            count = omega arith;
            numbers = rw wishes tt;
            used = λ is_done. (wishes, left);
          });
          entries = rw (wishes, done, used, going) (omega arith);
          bytes = rw (wishes, used) (omega arith);
          steps = rw (wishes, done, left, used, going, idle) (omega arith);
          aside = refl;
          jobs = refl;
          shown = omega arith;
        }),
      )

  -- ---- requests

  pub admit-move : (op : Op) (number : ℕ) → before.left ≡ None → before.wishes ≡ Ask op ∷ after.wishes → HasRoomFor op w.progress.spare
      → v ≡ after_admission w g op (Admitted number) → after.left ≡ Some (pieces_of op) → after.is_done ≡ before.is_done → before.is_done ≡ false → MakesMove w.progress v.progress g before after
  admit-move op number idle next room kept left done going =
      let row = row-of w.progress g before is in
      let count = row.2.count in
      let was : flight_entries before.left ≡ 0 = ap flight_entries idle in
      let some : flight_entries after.left ≡ 1 = ap flight_entries left in
      let size : length before.wishes ≡ suc (length after.wishes) = ap length next in
      let entries = room.entries in
      let bytes = room.bytes in (
        Admit g (requests_done w.progress.guests g) op,
        rw kept (record {
          own = (refl, record { next = ap (past_waits (answered_in w.progress.log.events)) next; is_done = done });
          events = refl;
          guests = refl;
          task = put-row w.progress.guests g (admitted op) row.0 (λ r. IsTaskOf r after) row.1 (record {
            flying = rw left (all-left (pieces_of op) refl);
            count = omega arith;
            numbers = (rw next at row.2.numbers).1;
            used = λ is_done. absurd (false≢true (sym going ∙ sym done ∙ is_done));
          });
          entries = rw (next, done) (omega arith);
          bytes = rw next (omega arith);
          steps = rw (next, done, left, idle) (omega arith);
          aside = refl;
          jobs = refl;
          shown = omega arith;
        }),
      )
    where
      all-left : (n : ℕ) → pieces_of op ≡ n → HasPiecesLeft n (record { op = op; next = 0; is_stopped = false })
      all-left zero e = inl (sym e)
      all-left (suc n) e = (refl, omega arith)

  pub refuse-move : (op : Op) (why : Refused) → before.left ≡ None → before.wishes ≡ Ask op ∷ after.wishes → HasRoomFor op w.progress.spare
      → v ≡ after_admission w g op (NotAdmitted why) → after.left ≡ None → after.is_done ≡ before.is_done → before.is_done ≡ false → MakesMove w.progress v.progress g before after
  refuse-move op why idle next room kept left done going =
      let row = row-of w.progress g before is in
      let count = row.2.count in
      let was : flight_entries before.left ≡ 0 = ap flight_entries idle in
      let none : flight_entries after.left ≡ 0 = ap flight_entries left in
      let size : length before.wishes ≡ suc (length after.wishes) = ap length next in
      let entries = room.entries in (
        Refuse g (requests_done w.progress.guests g) op why,
        rw kept (record {
          own = (refl, record { next = ap (past_waits (answered_in w.progress.log.events)) next; is_done = done });
          events = refl;
          guests = refl;
          task = put-row w.progress.guests g finished row.0 (λ r. IsTaskOf r after) row.1 (record {
            flying = rw left tt;
            count = omega arith;
            numbers = (rw next at row.2.numbers).1;
            used = λ is_done. absurd (false≢true (sym going ∙ sym done ∙ is_done));
          });
          entries = rw (next, done) (omega arith);
          bytes = rw next (omega arith);
          steps = rw (next, done, left, idle) (omega arith);
          aside = refl;
          jobs = refl;
          shown = omega arith;
        }),
      )

-- ---- waits were passed before

own-passed : (a : List ℕ) (g : ℕ) (before mid after : Task) (e : Event) → Passes a before mid → IsOwnMove a g mid after e → IsOwnMove a g before after e
own-passed a g before mid after (Admit n r op) passes own = (own.0, record { next = again a before mid passes ∙ own.1.next; is_done = own.1.is_done ∙ passes.is_done })
  where
    again : (a : List ℕ) (before mid : Task) → Passes a before mid → past_waits a before.wishes ≡ past_waits a mid.wishes
    again a before mid passes = sym (ap (past_waits a) passes.wishes ∙ through a a (grows-same a) before.wishes)
own-passed a g before mid after (Refuse n r op why) passes own = (own.0, record { next = again a before mid passes ∙ own.1.next; is_done = own.1.is_done ∙ passes.is_done })
  where
    again : (a : List ℕ) (before mid : Task) → Passes a before mid → past_waits a before.wishes ≡ past_waits a mid.wishes
    again a before mid passes = sym (ap (past_waits a) passes.wishes ∙ through a a (grows-same a) before.wishes)
own-passed a g before mid after (Piece n r k outcome got) passes own = (own.0, record { wishes = own.1.wishes ∙ again a before mid passes; is_done = own.1.is_done ∙ passes.is_done })
  where
    again : (a : List ℕ) (before mid : Task) → Passes a before mid → past_waits a mid.wishes ≡ past_waits a before.wishes
    again a before mid passes = ap (past_waits a) passes.wishes ∙ through a a (grows-same a) before.wishes
own-passed a g before mid after (Retire n r) passes own = (own.0, record { wishes = own.1.wishes ∙ again a before mid passes; is_done = own.1.is_done ∙ passes.is_done })
  where
    again : (a : List ℕ) (before mid : Task) → Passes a before mid → past_waits a mid.wishes ≡ past_waits a before.wishes
    again a before mid passes = ap (past_waits a) passes.wishes ∙ through a a (grows-same a) before.wishes
own-passed a g before mid after (Done actor) passes own = (own.0, record { used = again a before mid passes ∙ own.1.used; wishes = own.1.wishes; is_done = own.1.is_done })
  where
    again : (a : List ℕ) (before mid : Task) → Passes a before mid → past_waits a before.wishes ≡ past_waits a mid.wishes
    again a before mid passes = sym (ap (past_waits a) passes.wishes ∙ through a a (grows-same a) before.wishes)
own-passed a g before mid after (Reply line given command text) passes own = absurd own
own-passed a g before mid after (Reached line what) passes own = absurd own
own-passed a g before mid after (Start job) passes own = absurd own
own-passed a g before mid after (Ready job) passes own = absurd own
own-passed a g before mid after (End job outcome offset) passes own = absurd own

pub move-passed : (p q : Progress) (g : ℕ) (before mid after : Task) → Passes (answered_in p.log.events) before mid → MakesMove p q g mid after → MakesMove p q g before after
move-passed p q g before mid after passes (e, move) =
    let n = entries-past (answered_in p.log.events) before.wishes in
    let m = bytes-past (answered_in p.log.events) before.wishes in
    let entries : entries_to_come mid ≡ entries_to_come before = rw (passes.wishes, passes.is_done, n) refl in
    let bytes : bytes_for mid.wishes ≡ bytes_for before.wishes = ap bytes_for passes.wishes ∙ m in
    let steps : steps_of mid ≡ steps_of before = rw (passes.wishes, passes.is_done, passes.left, n) refl in
    let had_entries = move.entries in
    let had_bytes = move.bytes in
    let had_steps = move.steps in (
      e,
      record {
        own = own-passed (answered_in p.log.events) g before mid after e passes move.own;
        events = move.events;
        guests = move.guests;
        task = move.task;
        entries = omega arith;
        bytes = omega arith;
        steps = omega arith;
        aside = move.aside;
        jobs = move.jobs;
        shown = move.shown;
      },
    )

-- ---- a guest that asks

passed-twice : (a : List ℕ) (before after : Task) → Passes a before after → past_waits a after.wishes ≡ after.wishes
passed-twice a before after passes = ap (past_waits a) passes.wishes ∙ through a a (grows-same a) before.wishes ∙ sym passes.wishes

module _ (w v : WorldSeen) (g : ℕ) (before mid after : Task) (passes : Passes (answered_in w.progress.log.events) before mid) where
  pub ask-moves : MakesMove w.progress v.progress g mid after → KeepsBeside w v → IsTurn w v g before after true
  ask-moves move beside = (move-passed w.progress v.progress g before mid after passes move, beside)

  -- a drain holds it
  pub ask-held : after ≡ mid → v ≡ w → mid.left ≡ None → is_guest_held (seen_state w) w.drains g ≡ true → IsTurn w v g before after false
  ask-held same kept idle held = rw same (record {
    world = kept;
    wishes = passes.wishes;
    left = passes.left;
    is_done = passes.is_done;
    halts = inr (record { idle = idle; held = held });
  })

  -- it waits for a line, or for its device
  pub ask-waits : after ≡ mid → v ≡ w → mid.left ≡ None → (what : Waits (List ℕ)) → TraceWaits (seen_state w) g mid.wishes what → IsTurn w v g before after false
  ask-waits same kept idle what waits = rw same (record {
    world = kept;
    wishes = passes.wishes;
    left = passes.left;
    is_done = passes.is_done;
    halts = inl (inr (record { idle = idle; passed = passed-twice (answered_in w.progress.log.events) before mid passes; what = what; waits = waits }));
  })

-- a request that isn't admitted is given back
pub away-waits : (w v : WorldSeen) (g : ℕ) (op back : Op) (rest : List Wish) → IsAnswered w g op (Away back) → TraceWaits (seen_state w) g (Ask back ∷ rest) Attached
away-waits w v g op back rest answer = (answer.0, refl)

-- the same task, with its first wish in another place
pub same-task : (a b : Task) → a.wishes ≡ b.wishes → a.left ≡ b.left → a.is_done ≡ b.is_done → a ≡ b
same-task a b x y z =
    let one : a ≡ record a { wishes = b.wishes } = ap (λ (w : List Wish). record a { wishes = w }) x in
    let two : record a { wishes = b.wishes } ≡ record b { is_done = a.is_done } = ap (λ (l : Option ℕ). record { wishes = b.wishes; left = l; is_done = a.is_done }) y in
    let three : record b { is_done = a.is_done } ≡ b = ap (λ (d : Bool). record b { is_done = d }) z in
    one ∙ two ∙ three

-- room for the request that comes first
pub ask-room : (p : Progress) (g : ℕ) (before mid : Task) (op : Op) (rest : List Wish) → Passes (answered_in p.log.events) before mid → IsTaskIn p g before
    → mid.wishes ≡ Ask op ∷ rest → entries_to_come before ≤ p.spare.entries → bytes_for before.wishes ≤ p.spare.bytes → HasRoomFor op p.spare
ask-room p g before mid op rest passes is first entries bytes =
    has-room p g mid op rest (passed-task p (answered_in p.log.events) g before mid passes is) first
    (let same = entries-same (answered_in p.log.events) before mid passes in omega arith)
    (let same = bytes-same (answered_in p.log.events) before mid passes in omega arith)

-- what was looked at is the first of what is left
pub first-is : (next : Option Wish) (rest : List Wish) (wish : Wish) → next ≡ Some wish → option_to_list next ++ rest ≡ wish ∷ rest
first-is next rest wish is = ap (λ (n : Option Wish). option_to_list n ++ rest) is
