-- After a piece the world shows what the flat machine comes to by it.
use Rattle.std.proofs.Common.{◌≡◌, ℕ, Bool, true, false, cond, List, [], ◌∷◌, map, Option, Some, refl, sym, ◌∙◌, ap, subst, inl, inr}
use Rattle.std.proofs.lemmas.Bool.{false≢true}
use Rattle.blk_base.specs.Content.{with_bytes}
use Rattle.blk_base.specs.Pieces.{Extent}
use Rattle.blk_base.specs.declared.fault.Outcome.{Outcome}
use Rattle.trace_codec.specs.declared.op.Op.{Op}
use Rattle.trace_codec.specs.declared.op.Op.TheVariants.{Read, Write, Zero, Flush, Discard}
use Rattle.blk_graph.specs.declared.edge.Role.TheVariants.{File}
use Rattle.blk_history.specs.Disk.{payload_in, done_in, piece}
use Rattle.blk_history.specs.Fold.{change}
use Rattle.blk_history.specs.Machine.{Flight, done_by}
use Rattle.blk_history.specs.declared.event.Event.{Event}
use Rattle.blk_history.specs.declared.event.Event.TheVariants.{Piece}
use Rattle.qmp_rules.specs.Chains.{disk_node, written_under}
use Rattle.qmp_rules.specs.Table.{RunTable, child}
use Rattle.flat_machine.specs.Agreement.{Agrees}
use Rattle.flat_machine.specs.Final.{bytes_named}
use Rattle.flat_machine.specs.Jobs.{unsure}
use Rattle.flat_machine.specs.Machine.{after, with_guest, with_part, with_piece, with_disk, past_piece, flight_of, note, noted, is_noted, path, node_written, read_through, copies_through}
use Rattle.flat_machine.specs.Performing.{IsQuiet}
use Rattle.flat_machine.specs.State.{State, drive_of}
use Rattle.flat_machine.specs.Writing.{PieceDone, ReadDone, Copies, CanWrite, WritesDisks, ReadsWritten, written_file}
use Rattle.flat_machine.specs.declared.opening.Opening.{Opening}
use Rattle.flat_machine.proofs.Resting.{piece_rests}
use Rattle.flat_machine.proofs.Written.{piece_keeps}
use Rattle.flat_machine.proofs.ImagesWritten.{piece_images_keep}
use Rattle.flat_machine.specs.Imaging.{ShowsImages, KeepsMapping}
use Rattle.blk_nodes.specs.Contents.{disk_of}
use Rattle.blk_nodes.specs.Copying.{AtEach, IsBeside, images_met}
use Rattle.blk_nodes.specs.Nodes.{AreTold}
use Rattle.blk_nodes.specs.Writing.{IsApartFrom}
use Rattle.world_parts.specs.Comes.{ShowsState}
use Rattle.flat_machine.specs.Recording.{dirty_by}
use Rattle.flat_machine.proofs.Recorded.{part-dirty}
use Rattle.world_parts.specs.Face.{WorldSeen, dirty_of, held, contents_of}
use Rattle.blk_pieces.specs.Pieces.{ReadsPart, Transfers, PutsPart}
use Rattle.blk_pieces.proofs.Payloads.{IsPutting, taken_is}
use Rattle.world_parts.specs.Piecing.{table_after}
use Rattle.world_parts.specs.Progress.{ended_in}
use Rattle.world_parts.proofs.Quiet.{stands-onward}
use Rattle.world_pieces.proofs.PieceCopied.{MeetsOwnImage, writes_file}

-- ---- what stands beside the disks

-- a state after a piece on a drive
pub record LeavesBeside (s now : State) (t : RunTable) : Type 0 where
  pub room : now.room ≡ s.room
  pub table_is : now.table ≡ t
  pub started : now.starts ≡ s.starts
  pub ending : now.ending ≡ s.ending
  pub ended : now.ended ≡ s.ended
  pub guests : now.guests ≡ s.guests

note_part : (outcome : Outcome) (part : Extent) (drive : ℕ) (s now : State) (t : RunTable) → LeavesBeside s now t → LeavesBeside s (note outcome part drive now) t
note_part outcome part drive s now t is = by_test (is_noted outcome)
  where
    by_test : (b : Bool) → LeavesBeside s (cond b (record now { dirty = noted now.table part now.dirty (path now.table drive) }) now) t
    by_test true = record {
      room = is.room;
      table_is = is.table_is;
      started = is.started;
      ending = is.ending;
      ended = is.ended;
      guests = is.guests;
    }
    by_test false = is

read_part : (drive : ℕ) (s now : State) (t : RunTable) → LeavesBeside s now t → LeavesBeside s (read_through drive now) t
read_part drive s now t is = by_test (copies_through now.table drive)
  where
    by_test : (b : Bool) → LeavesBeside s (cond b (record now { images = map (unsure (disk_node now.table drive ∷ [])) now.images }) now) t
    by_test true = record { room = is.room; table_is = is.table_is; started = is.started; ending = is.ending; ended = is.ended; guests = is.guests }
    by_test false = is

pub part_is : (s : State) (drive : ℕ) (op : Op) (outcome : Outcome) (part : Extent) → LeavesBeside s (with_part drive op outcome part s) (table_after op (disk_node s.table drive) s.table)
part_is s drive op outcome part = by_op op
  where
    done : Op → State
    done o = with_disk (disk_node s.table drive) (done_in o part (done_by outcome part)) s

    itself : (o : Op) → LeavesBeside s (done o) s.table
    itself o = record { room = refl; table_is = refl; started = refl; ending = refl; ended = refl; guests = refl }

    was_written : (o : Op) → LeavesBeside s (node_written (disk_node s.table drive) (done o)) (written_under (disk_node s.table drive) s.table)
    was_written o = record { room = refl; table_is = refl; started = refl; ending = refl; ended = refl; guests = refl }

    by_op : (o : Op) → LeavesBeside s (with_part drive o outcome part s) (table_after o (disk_node s.table drive) s.table)
    by_op (Read span) = read_part drive s (done (Read span)) s.table (itself (Read span))
    by_op (Write span payload) =
        note_part outcome part drive s (node_written (disk_node s.table drive) (done (Write span payload))) (written_under (disk_node s.table drive) s.table) (was_written (Write span payload))
    by_op (Zero span) =
        note_part outcome part drive s (node_written (disk_node s.table drive) (done (Zero span))) (written_under (disk_node s.table drive) s.table) (was_written (Zero span))
    by_op Flush = itself Flush
    by_op (Discard span) = itself (Discard span)

started_after : (op : Op) (node : ℕ) (t : RunTable) → (table_after op node t).started ≡ t.started
unfolding written_under
started_after (Read span) node t = refl
started_after (Write span payload) node t = refl
started_after (Zero span) node t = refl
started_after Flush node t = refl
started_after (Discard span) node t = refl

-- ---- what is done

-- what a piece leaves of contents, by what is asked
module _ (t : RunTable) (w v : WorldSeen) (drive : ℕ) (op : Op) (outcome : Outcome) (part : Extent) (told : AreTold w.nodes.devices)
    (held_else : (name : List ℕ) → (writes_file t drive op ≡ true → written_file t (disk_node t drive) ≡ Some name → ⊥) → held v name ≡ held w name) where
  abbrev node : ℕ
  node = disk_node t drive

  puts_done : IsPutting op → ((other : ℕ) → (ReadsWritten t node other → ⊥) → IsApartFrom w.nodes other node) → PutsPart w.nodes v.nodes node part outcome (payload_in op part)
      → (s : State) → s.table ≡ t → WritesDisks s node op part (done_by outcome part) (contents_of w) (contents_of v)
  puts_done putting apart puts s table = record {
    written = puts.disk told ∙ ap (with_bytes (disk_of w.nodes node) part.start) (taken_is op part outcome putting);
    nodes = λ other none. puts.others other (apart other (subst (λ (u : RunTable). ReadsWritten u node other → ⊥) table none));
    files = λ name none. held_else name (λ c is. none (subst (λ (u : RunTable). written_file u node ≡ Some name) (sym table) is));
  }

  quiet_done : ((other : ℕ) → disk_of v.nodes other ≡ disk_of w.nodes other) → (writes_file t drive op ≡ true → ⊥) → IsQuiet (contents_of w) (contents_of v)
  quiet_done disks none = record {
    nodes = λ other never. disks other;
    files = λ name never. held_else name (λ changes is. none changes);
  }

-- A read leaves what all nodes read as, but for the `file` node below an image into which a copy-on-read puts it.
module _ (t : RunTable) (w v : WorldSeen) (drive : ℕ) (outcome : Outcome) (part : Extent) (buffer : List ℕ) (told : AreTold w.nodes.devices)
    (held_else : (name : List ℕ) → (copies_through t drive ≡ true → written_file t (disk_node t drive) ≡ Some name → ⊥) → held v name ≡ held w name)
    (did : ReadsPart w.nodes v.nodes drive part outcome buffer) (met : MeetsOwnImage t w.nodes drive part.start)
    (beside : (other : ℕ) → (child t (disk_node t drive) File ≡ Some other → ⊥) → IsBeside w.nodes other (disk_node t drive)) where
  stays : (other : ℕ) → (copies_through t drive ≡ true → IsBeside w.nodes other (disk_node t drive)) → disk_of v.nodes other ≡ disk_of w.nodes other
  stays other is = did.disks told other (by_images met)
    where
      by_images : MeetsOwnImage t w.nodes drive part.start → AtEach (IsBeside w.nodes other) (images_met w.nodes drive part.start)
      by_images (inl none) = subst (AtEach (IsBeside w.nodes other)) (sym none) tt
      by_images (inr one) = subst (AtEach (IsBeside w.nodes other)) (sym one.met) (is one.copies, tt)

  copies_done : (s : State) → s.table ≡ t → Copies s (disk_node t drive) (contents_of w) (contents_of v)
  copies_done s table = record {
    nodes = λ other none. stays other (λ c. beside other (subst (λ (u : RunTable). child u (disk_node t drive) File ≡ Some other → ⊥) table none));
    files = λ name none. held_else name (λ c is. none (subst (λ (u : RunTable). written_file u (disk_node t drive) ≡ Some name) (sym table) is));
  }

  read_done : (s : State) → s.table ≡ t → ReadDone s drive (contents_of w) (contents_of v)
  read_done s table = by_test (copies_through t drive) refl
    where
      by_test : (b : Bool) → copies_through t drive ≡ b → ReadDone s drive (contents_of w) (contents_of v)
      by_test true is = inr (
        ap (λ (u : RunTable). copies_through u drive) table ∙ is,
        subst (λ (u : RunTable). Copies s (disk_node u drive) (contents_of w) (contents_of v)) (sym table) (copies_done s table),
      )
      by_test false is =
          let none : copies_through t drive ≡ true → ⊥ = λ c. false≢true (sym is ∙ c) in
          inl (record {
            nodes = λ other never. stays other (λ c. absurd (none c));
            files = λ name never. held_else name (λ c held. none c);
          })

pub piece_done : (s : State) (t : RunTable) (w v : WorldSeen) (drive : ℕ) (op : Op) (outcome : Outcome) (part : Extent) (buffer : List ℕ) → s.table ≡ t
    → Transfers op w.nodes v.nodes drive (disk_node t drive) part outcome buffer
    → MeetsOwnImage t w.nodes drive part.start
    → ((other : ℕ) → (child t (disk_node t drive) File ≡ Some other → ⊥) → IsBeside w.nodes other (disk_node t drive))
    → ((other : ℕ) → (ReadsWritten t (disk_node t drive) other → ⊥) → IsApartFrom w.nodes other (disk_node t drive))
    → AreTold w.nodes.devices
    → ((name : List ℕ) → (writes_file t drive op ≡ true → written_file t (disk_node t drive) ≡ Some name → ⊥) → held v name ≡ held w name)
    → PieceDone s drive op outcome part (contents_of w) (contents_of v)
piece_done s t w v drive (Read span) outcome part buffer table did met beside apart told held_else =
    read_done t w v drive outcome part buffer told held_else did met beside s table
piece_done s t w v drive (Write span payload) outcome part buffer table did met beside apart told held_else =
    subst (λ (u : RunTable). WritesDisks s (disk_node u drive) (Write span payload) part (done_by outcome part) (contents_of w) (contents_of v)) (sym table)
    (puts_done t w v drive (Write span payload) outcome part told held_else tt apart did.1 s table)
piece_done s t w v drive (Zero span) outcome part buffer table did met beside apart told held_else =
    subst (λ (u : RunTable). WritesDisks s (disk_node u drive) (Zero span) part (done_by outcome part) (contents_of w) (contents_of v)) (sym table)
    (puts_done t w v drive (Zero span) outcome part told held_else tt apart did.1 s table)
piece_done s t w v drive Flush outcome part buffer table did met beside apart told held_else =
    quiet_done t w v drive Flush outcome part told held_else did.disks (λ bad. let e : ⊥ = cc bad in e)
piece_done s t w v drive (Discard span) outcome part buffer table did met beside apart told held_else = absurd did

-- ---- what is shown

module _ (o : Opening) (s : State) (w v : WorldSeen) (g k drive : ℕ) (f : Flight) (outcome : Outcome) (e : Event) (r : ℕ) (got : List ℕ) (e_is : e ≡ Piece g r k outcome got)
    (shows : ShowsState o s w) (on : drive_of s.table g ≡ Some drive) (flies : flight_of s g ≡ Some f) where
  abbrev now : State
  now = with_part drive f.op outcome (piece f.op k) s

  after_is : after s e ≡ with_guest g (past_piece outcome) now
  after_is =
      ap (after s) e_is
      ∙ ap (λ (x : Option ℕ). with_guest g (past_piece outcome) (with_piece x (flight_of s g) k outcome s)) on
      ∙ ap (λ (x : Option Flight). with_guest g (past_piece outcome) (with_piece (Some drive) x k outcome s)) flies

  module _ (room : v.room ≡ w.room) (table : v.table ≡ table_after f.op (disk_node w.table drive) w.table) (guests : v.progress.guests ≡ change g (past_piece outcome) w.progress.guests)
      (ends : ended_in v.progress.log.events ≡ ended_in w.progress.log.events)
      (dirty : dirty_of v ≡ dirty_by f.op outcome (piece f.op k) drive v.table (dirty_of w))
      (can : CanWrite s drive f.op) (done : PieceDone s drive f.op outcome (piece f.op k) (contents_of w) (contents_of v))
      (keeps : KeepsMapping s.table (disk_node s.table drive) (contents_of w) (contents_of v)) where
    part : LeavesBeside s now (table_after f.op (disk_node s.table drive) s.table)
    part = part_is s drive f.op outcome (piece f.op k)

    agrees : Agrees (bytes_named o.files) now (contents_of v)
    agrees = piece_keeps (bytes_named o.files) s drive f.op outcome (piece f.op k) (contents_of w) (contents_of v) can done shows.contents

    images : ShowsImages now (contents_of v)
    images = piece_images_keep s g drive shows.stands.stands.table on f.op outcome (piece f.op k) (contents_of w) (contents_of v) done keeps shows.images

    pub piece_shows : ShowsState o (after s e) v
    piece_shows = subst (λ (x : State). ShowsState o x v) (sym after_is) (record {
      stands = stands-onward now (change g (past_piece outcome) now.guests) now.ended (piece_rests s drive f.op outcome (piece f.op k) shows.stands);
      dirty =
          part-dirty s drive f.op outcome (piece f.op k)
          ∙ ap (λ (t : RunTable). dirty_by f.op outcome (piece f.op k) drive t s.dirty) part.table_is
          ∙ ap (λ (t : RunTable). dirty_by f.op outcome (piece f.op k) drive (table_after f.op (disk_node t drive) t) s.dirty) shows.table.table_is
          ∙ ap (λ (t : RunTable). dirty_by f.op outcome (piece f.op k) drive t s.dirty) (sym table)
          ∙ ap (dirty_by f.op outcome (piece f.op k) drive v.table) shows.dirty ∙ sym dirty;
      table = record {
        room_is = part.room ∙ shows.table.room_is ∙ sym room;
        table_is = part.table_is ∙ ap (λ (u : RunTable). table_after f.op (disk_node u drive) u) shows.table.table_is ∙ sym table;
        rest = record {
          started = part.started ∙ shows.table.rest.started ∙ sym (started_after f.op (disk_node s.table drive) s.table) ∙ sym (ap (λ (u : RunTable). u.started) part.table_is);
          ended = part.ending ∙ shows.table.rest.ended;
        };
      };
      guests = record {
        guests_are = ap (change g (past_piece outcome)) (part.guests ∙ shows.guests.guests_are) ∙ sym guests;
        ended_are = part.ended ∙ shows.guests.ended_are ∙ sym ends;
      };
      contents = record {
        disks = agrees.disks;
        known = agrees.known;
        absent = agrees.absent;
        left = agrees.left;
        unchanged = agrees.unchanged;
      };
      images = λ node. record { noted = (images node).noted; mapped = (images node).mapped };
    })
