-- What entries by which no job begins, becomes ready or ends leave: jobs, and what was noted of their starts.
use Rattle.std.proofs.Common.{◌≡◌, ℕ, Bool, true, false, cond, [], ◌∷◌, map, refl, ◌∙◌, Option, Some, None}
use Rattle.blk_base.specs.Pieces.{Extent}
use Rattle.blk_base.specs.declared.fault.Outcome.{Outcome}
use Rattle.trace_codec.specs.declared.op.Op.{Op}
use Rattle.trace_codec.specs.declared.op.Op.TheVariants.{Read, Write, Zero, Flush, Discard}
use Rattle.blk_history.specs.Disk.{piece, done_in}
use Rattle.blk_history.specs.Machine.{Flight, done_by}
use Rattle.blk_history.specs.declared.event.Event.{Event}
use Rattle.blk_history.specs.declared.event.Event.TheVariants.{Admit, Refuse, Piece, Retire, Reached, Done}
use Rattle.qmp_rules.specs.Chains.{disk_node, written_under}
use Rattle.flat_machine.specs.Jobs.{unsure}
use Rattle.flat_machine.specs.Machine.{after, copies_through, flight_of, is_noted, node_written, note, noted, path, read_through, with_disk, with_part, with_piece}
use Rattle.flat_machine.specs.State.{State, drive_of}
use Rattle.job_entries.specs.Found.{leaves_jobs}

pub record StaysSo (s now : State) : Type 0 where
  pub begun : now.begun ≡ s.begun
  pub starts : now.starts ≡ s.starts
  pub jobs : now.table.jobs ≡ s.table.jobs
  pub started : now.table.started ≡ s.table.started

stays_self : (s : State) → StaysSo s s
stays_self s = record { begun = refl; starts = refl; jobs = refl; started = refl }

stays_then : (a b c : State) → StaysSo a b → StaysSo b c → StaysSo a c
stays_then a b c ab bc = record {
  begun = bc.begun ∙ ab.begun;
  starts = bc.starts ∙ ab.starts;
  jobs = bc.jobs ∙ ab.jobs;
  started = bc.started ∙ ab.started;
}

-- ---- pieces

note_stays : (outcome : Outcome) (part : Extent) (drive : ℕ) (s : State) → StaysSo s (note outcome part drive s)
note_stays outcome part drive s = by_flag (is_noted outcome)
  where
    by_flag : (b : Bool) → StaysSo s (cond b (record s { dirty = noted s.table part s.dirty (path s.table drive) }) s)
    by_flag true = record { begun = refl; starts = refl; jobs = refl; started = refl }
    by_flag false = stays_self s

read_stays : (drive : ℕ) (s : State) → StaysSo s (read_through drive s)
read_stays drive s = by_flag (copies_through s.table drive)
  where
    by_flag : (b : Bool) → StaysSo s (cond b (record s { images = map (unsure (disk_node s.table drive ∷ [])) s.images }) s)
    by_flag true = record { begun = refl; starts = refl; jobs = refl; started = refl }
    by_flag false = stays_self s

module _ (drive : ℕ) (outcome : Outcome) (part : Extent) (s : State) where
  abbrev moved : Op → State
  moved op = with_disk (disk_node s.table drive) (done_in op part (done_by outcome part)) s

  moved_stays : (op : Op) → StaysSo s (moved op)
  moved_stays op = record { begun = refl; starts = refl; jobs = refl; started = refl }

  written_stays : (op : Op) → StaysSo s (node_written (disk_node s.table drive) (moved op))
  unfolding written_under
  written_stays op = record { begun = refl; starts = refl; jobs = refl; started = refl }

  put_stays : (op : Op) → StaysSo s (note outcome part drive (node_written (disk_node s.table drive) (moved op)))
  put_stays op =
      stays_then s (node_written (disk_node s.table drive) (moved op)) (note outcome part drive (node_written (disk_node s.table drive) (moved op)))
      (written_stays op) (note_stays outcome part drive (node_written (disk_node s.table drive) (moved op)))

  part_stays : (op : Op) → StaysSo s (with_part drive op outcome part s)
  part_stays (Read span) =
      stays_then s (moved (Read span)) (read_through drive (moved (Read span))) (moved_stays (Read span)) (read_stays drive (moved (Read span)))
  part_stays (Write span payload) = put_stays (Write span payload)
  part_stays (Zero span) = put_stays (Zero span)
  part_stays Flush = moved_stays Flush
  part_stays (Discard span) = moved_stays (Discard span)

piece_stays : (drive : Option ℕ) (flight : Option Flight) (k : ℕ) (outcome : Outcome) (s : State) → StaysSo s (with_piece drive flight k outcome s)
piece_stays (Some drive) (Some f) k outcome s = part_stays drive outcome (piece f.op k) s f.op
piece_stays (Some drive) None k outcome s = stays_self s
piece_stays None flight k outcome s = stays_self s

-- ---- entries

pub entry_stays : (s : State) (e : Event) → leaves_jobs e ≡ true → StaysSo s (after s e)
entry_stays s (Admit g r op) is = record { begun = refl; starts = refl; jobs = refl; started = refl }
entry_stays s (Refuse g r op why) is = record { begun = refl; starts = refl; jobs = refl; started = refl }
entry_stays s (Piece g r k outcome got) is =
    let p = piece_stays (drive_of s.table g) (flight_of s g) k outcome s in
    record { begun = p.begun; starts = p.starts; jobs = p.jobs; started = p.started }
entry_stays s (Retire g r) is = record { begun = refl; starts = refl; jobs = refl; started = refl }
entry_stays s (Reached line what) is = stays_self s
entry_stays s (Done actor) is = record { begun = refl; starts = refl; jobs = refl; started = refl }
entry_stays s e is = absurd cc
