-- The calls that make a piece: what each asks, and what they leave together.
use Rattle.std.proofs.Common.{◌≡◌, ℕ, true, List, Option, Some, None, refl, sym, ◌∙◌, ap, subst}
use Rattle.std.specs.Prelude.{IsSome, IfSome}
use Rattle.std.proofs.lemmas.Bool.{false≢true}
use Rattle.blk_base.specs.declared.fault.Outcome.{Outcome}
use Rattle.trace_codec.specs.declared.op.Op.{Op}
use Rattle.blk_bitmaps.specs.declared.row.Bitmap.{Bitmap}
use Rattle.blk_history.specs.Disk.{is_write}
use Rattle.blk_history.specs.Fold.{With}
use Rattle.blk_history.specs.Machine.{Flight}
use Rattle.qmp_rules.specs.Chains.{disk_node}
use Rattle.qmp_rules.specs.Table.{RunTable, device_by_number}
use Rattle.flat_machine.specs.Legal.{IsForbidden}
use Rattle.flat_machine.specs.State.{drive_of}
use Rattle.flat_machine.specs.declared.opening.Opening.{Opening}
use Rattle.blk_nodes.specs.Contents.{Unfolds}
use Rattle.blk_nodes.specs.Joined.{IsJoined}
use Rattle.blk_nodes.specs.Nodes.{Nodes}
use Rattle.world_parts.specs.Coherent.{IsCoherent, IsWholeWorld}
use Rattle.world_parts.specs.Comes.{Comes}
use Rattle.world_parts.specs.Face.{WorldSeen}
use Rattle.blk_pieces.specs.Pieces.{CanTransfer, Transfers}
use Rattle.world_parts.specs.Piecing.{IsMadeOn, part_of, shown_in_flight, table_after}
use Rattle.block_jobs.specs.Work.{JobWork}
use Rattle.job_progress.specs.Piecing.{IsGuarded, marked_by}
use Rattle.world_pieces.proofs.PieceApart.{apart_from_jobs}
use Rattle.world_pieces.proofs.PieceJobs.{IsApartFromJobs}
use Rattle.world_pieces.specs.Pieces.{IsGuardedPiece, IsPieceMade, HasPieceLicence, noted_after, written_in}
use Rattle.world_parts.specs.Progress.{Progress, HasNext, flight_at, with_piece_entry}
use Rattle.world_parts.proofs.CountLemmas.{HoldsThere, there}
use Rattle.world_pieces.proofs.PieceComes.{piece_comes, piece_licence, piece_whole}
use Rattle.world_parts.proofs.InStep.{with-at}
use Rattle.world_pieces.proofs.PieceReady.{can_transfer}

-- ---- a request in flight

pub is_there : {A : Type 0} (x : Option A) (P : A → Type 0) → With x P → IsSome x
is_there None P never = absurd never
is_there (Some a) P is = refl

pub next_at : (x : Option Flight) (f : Flight) → With x HasNext → x ≡ Some f → HasNext f
next_at x f is at = with-at x f HasNext at is

pub of_flight : {A : Type 0} (x : Option A) (P Q : A → Type 0) → With x P → ((a : A) → x ≡ Some a → P a → Q a) → With x Q
of_flight None P Q never each = absurd never
of_flight (Some a) P Q is each = each a refl is

-- ---- its node

pub can_next : (t : RunTable) (nodes : Nodes) (p : Progress) (joined : IsJoined nodes) (opened : _) → IsCoherent t nodes opened p → (g drive : ℕ) → drive_of t g ≡ Some drive
    → With (flight_at p.guests g) HasNext → With (flight_at p.guests g) (λ f. CanTransfer nodes drive (disk_node t drive) f.op (part_of f))
can_next t nodes p joined opened coherent g drive on next =
    of_flight (flight_at p.guests g) HasNext (λ f. CanTransfer nodes drive (disk_node t drive) f.op (part_of f)) next
    (λ f flies has. can_transfer t nodes p joined opened coherent g f drive on flies has)

-- a guest with a request in flight has a drive
pub drive_there : (t : RunTable) (nodes : Nodes) (p : Progress) (opened : _) → IsCoherent t nodes opened p → (g : ℕ) → With (flight_at p.guests g) HasNext → drive_of t g ≡ None → ⊥
drive_there t nodes p opened coherent g next none =
    let at = there (flight_at p.guests g) HasNext next in
    let device = is_there (device_by_number t g) (λ d. IsForbidden at.at.op d.read_only → ⊥) (coherent.allowed g at.at at.is) in
    false≢true (subst IsSome none (coherent.drives g device))

-- ---- what the calls leave together

pub made_of : (w : WorldSeen) (nodes : Nodes) (table : RunTable) (p : Progress) (bitmaps : List Bitmap) (works : List JobWork) (g drive node : ℕ) (f : Flight) (outcome : Outcome) (op : Op)
    → drive_of w.table g ≡ Some drive → node ≡ disk_node w.table drive
    → f.op ≡ op → table ≡ table_after op node w.table → IsMadeOn w.nodes nodes w.progress p drive node g f outcome
    → bitmaps ≡ noted_after outcome (written_in f.op (part_of f)) drive table w.bitmaps
    → works ≡ marked_by f.op outcome w.table node (part_of f) w.works
    → IsPieceMade w (record w { nodes = nodes; table = table; progress = p; bitmaps = bitmaps; works = works }) g f outcome
made_of w nodes table p bitmaps works g drive node f outcome op on is_node asks noted made recorded marked = record {
  drive = drive;
  buffer = made.buffer;
  on = on;
  transferred = subst (λ (n : ℕ). Transfers f.op w.nodes nodes drive n (part_of f) outcome made.buffer) is_node made.transferred;
  fits = made.fits;
  shown = made.shown;
  kept =
      ap (λ (t : RunTable). let v : WorldSeen = record w { nodes = nodes; table = t; progress = p; bitmaps = bitmaps; works = works } in v)
      (noted ∙ ap (λ (o : Op). table_after o node w.table) (sym asks) ∙ ap (λ (n : ℕ). table_after f.op n w.table) is_node)
      ∙ ap
      (λ (q : Progress). let v : WorldSeen = record w { nodes = nodes; table = table_after f.op (disk_node w.table drive) w.table; progress = q; bitmaps = bitmaps; works = works } in v)
      made.noted
      ∙ ap
      (λ (rows : List Bitmap). let v : WorldSeen = record w {
        nodes = nodes;
        table = table_after f.op (disk_node w.table drive) w.table;
        progress = with_piece_entry g f.next outcome (shown_in_flight f outcome made.buffer) w.progress;
        bitmaps = rows;
        works = works;
      } in v)
      recorded
      ∙ ap
      (λ (left : List JobWork). let v : WorldSeen = record w {
        nodes = nodes;
        table = table_after f.op (disk_node w.table drive) w.table;
        progress = with_piece_entry g f.next outcome (shown_in_flight f outcome made.buffer) w.progress;
        bitmaps = noted_after outcome (written_in f.op (part_of f)) drive table w.bitmaps;
        works = left;
      } in v)
      (marked ∙ ap (λ (n : ℕ). marked_by f.op outcome w.table n (part_of f) w.works) is_node);
}

-- what holds for the request in flight on its drive
guarded_at : (w : WorldSeen) (g : ℕ) (f : Flight) (drive : ℕ) → flight_at w.progress.guests g ≡ Some f → drive_of w.table g ≡ Some drive → IsGuardedPiece w g
    → is_write f.op ≡ true → IsGuarded w.table w.works (disk_node w.table drive) (part_of f)
guarded_at w g f drive flies on guarded =
    subst (λ x. IfSome x (λ n. is_write f.op ≡ true → IsGuarded w.table w.works (disk_node w.table n) (part_of f))) on
    (subst (λ x. IfSome x (λ a. IfSome (drive_of w.table g) (λ n. is_write a.op ≡ true → IsGuarded w.table w.works (disk_node w.table n) (part_of a)))) flies guarded)

module _ (w v : WorldSeen) (g : ℕ) (outcome : Outcome) (next : With (flight_at w.progress.guests g) HasNext)
    (made : (f : Flight) → flight_at w.progress.guests g ≡ Some f → IsPieceMade w v g f outcome) (joined : IsJoined w.nodes)
    (whole : IsWholeWorld w) where
  flight : HoldsThere (flight_at w.progress.guests g) HasNext
  flight = there (flight_at w.progress.guests g) HasNext next

  abbrev made_on : IsPieceMade w v g flight.at outcome
  made_on = made flight.at flight.is

  apart : IsApartFromJobs w.table (disk_node w.table made_on.drive) flight.at.op
  apart = apart_from_jobs w g flight.at made_on.drive made_on.on flight.is joined whole.coherent whole.jobs

  pub made_comes : IsGuardedPiece w g → Unfolds w.nodes → IsJoined v.nodes → (o : Opening) → Comes o w → Comes o v
  made_comes guarded unfolds =
      piece_comes w v g flight.at outcome made_on flight.holds flight.is joined whole.coherent whole.jobs apart
      (guarded_at w g flight.at made_on.drive flight.is made_on.on guarded) unfolds whole.tell whole.bitmaps

  pub made_whole : IsJoined v.nodes → IsWholeWorld v
  made_whole = piece_whole w v g flight.at outcome made_on flight.holds flight.is joined whole.coherent whole.jobs apart whole

  pub made_licence : (f : Flight) (flies : flight_at w.progress.guests g ≡ Some f) → (m : IsPieceMade w v g f outcome) × HasPieceLicence w v g f outcome m
  made_licence f flies = (made f flies, piece_licence w v g f outcome (made f flies) (next_at (flight_at w.progress.guests g) f next flies) flies joined whole.coherent whole.jobs)
