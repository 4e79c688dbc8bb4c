-- The parts of the world belong together after each event.
use Rattle.std.proofs.Common.{◌≡◌, ℕ, zero, suc, ◌≤◌, List, [], ◌∷◌, length, get_or, replicate, inl, inr, refl, ◌∙◌, ap, subst, arith, Option, Some, None}
use Rattle.std.specs.Prelude.{slice_get, option_map, option_and_then}
use Rattle.std.proofs.lemmas.Bool.{false≢true, cases_lt}
use Rattle.std.proofs.lemmas.List.{length-replicate, get_or-replicate, get_or_past}
use Rattle.blk_base.specs.declared.file.File.{File}
use Rattle.blk_base.specs.Pieces.{end_of}
use Rattle.blk_base.specs.declared.fault.Outcome.{Outcome}
use Rattle.blk_base.specs.declared.file.CallOnFile.{CallOnFile}
use Rattle.blk_base.specs.declared.file.Opened.{Opened}
use Rattle.blk_base.specs.declared.memory.Room.{Room}
use Rattle.trace_codec.specs.declared.op.Op.{Op}
use Rattle.blk_history.specs.Disk.{span_of}
use Rattle.blk_history.specs.Fold.{change, With}
use Rattle.blk_history.specs.Machine.{Flight, one_further}
use Rattle.blk_nodes.specs.Nodes.{Nodes, no_nodes}
use Rattle.blk_nodes.specs.declared.row.Row.{Row}
use Rattle.qmp_rules.specs.Table.{RunTable, device_by_number, opening_table}
use Rattle.qmp_rules.specs.Queries.{bytes_of_node}
use Rattle.flat_machine.specs.State.{Guest, disk_of_guest}
use Rattle.flat_machine.specs.Legal.{IsForbidden}
use Rattle.flat_machine.specs.Machine.{admitted, finished, past_piece}
use Rattle.flat_machine.specs.Opening.{new_guest}
use Rattle.flat_machine.proofs.Openings.{start_table_rests}
use Rattle.job_tables.proofs.Changes.{opening_jobs}
use Rattle.job_tables.proofs.Runs.{opening_run}
use Rattle.world_parts.specs.Progress.{Progress, flight_at, no_progress, with_admission}
use Rattle.flat_machine.specs.Marks.{none_drained}
use Rattle.world_parts.specs.Face.{face_of}
use Rattle.world_parts.specs.Stores.{found_store}
use Rattle.job_commands.proofs.BitmapCommands.{opening_uses}
use Rattle.world_parts.specs.Coherent.{AreJobsKept, IsCoherent, IsWholeWorld, AreWithin, AreAllowed}

-- ---- guests

pub length-change : {A : Type 0} (g : ℕ) (h : A → A) (xs : List A) → length (change g h xs) ≡ length xs
length-change g h [] = refl
length-change zero h (x ∷ xs) = refl
length-change (suc g) h (x ∷ xs) = ap suc (length-change g h xs)

-- what holds of each request in flight, after one guest's row has changed
flights-change : (Q : ℕ → Flight → Type 0) (guests : List Guest) (g : ℕ) (h : Guest → Guest)
    → ((k : ℕ) (f : Flight) → flight_at guests k ≡ Some f → Q k f)
    → ((row : Guest) (f : Flight) → slice_get guests g ≡ Some row → (h row).flight ≡ Some f → Q g f)
    → (k : ℕ) (f : Flight) → flight_at (change g h guests) k ≡ Some f → Q k f
flights-change Q [] g h all one k f is = absurd (let bad : ⊥ = cc is in bad)
flights-change Q (x ∷ guests) zero h all one zero f is = one x f refl is
flights-change Q (x ∷ guests) zero h all one (suc k) f is = all (suc k) f is
flights-change Q (x ∷ guests) (suc g) h all one zero f is = all zero f is
flights-change Q (x ∷ guests) (suc g) h all one (suc k) f is =
    flights-change (λ n. Q (suc n)) guests g h (λ n. all (suc n)) one k f is

within-put : (t : RunTable) (guests : List Guest) (g : ℕ) (h : Guest → Guest) → AreWithin t guests
    → ((row : Guest) (f : Flight) → slice_get guests g ≡ Some row → (h row).flight ≡ Some f → With (disk_of_guest t g) (λ node. end_of (span_of f.op) ≤ bytes_of_node t node))
    → AreWithin t (change g h guests)
within-put t guests g h all one = flights-change (λ k f. With (disk_of_guest t k) (λ node. end_of (span_of f.op) ≤ bytes_of_node t node)) guests g h all one

-- what is so of a request in flight by its guest's device
abbrev IsAllowed : RunTable → ℕ → Flight → Type 0
IsAllowed t g f = With (device_by_number t g) (λ device. IsForbidden f.op device.read_only → ⊥)

module _ (t : RunTable) (nodes : Nodes) (opened : List Opened) (p : Progress) (was : IsCoherent t nodes opened p) where
  -- guests' rows alone change
  coherent-with : (q : Progress) → AreWithin t q.guests → AreAllowed t q.guests → length q.guests ≡ length p.guests → IsCoherent t nodes opened q
  coherent-with q within allowed count = record {
    table = was.table;
    drives = was.drives;
    disks = was.disks;
    alike = was.alike;
    asks = was.asks;
    writable = was.writable;
    within = within;
    allowed = allowed;
    count = count ∙ was.count;
    out = was.out;
  }

  pub coherent-admission : (g : ℕ) (op : Op) → With (disk_of_guest t g) (λ node. end_of (span_of op) ≤ bytes_of_node t node)
      → With (device_by_number t g) (λ device. IsForbidden op device.read_only → ⊥) → IsCoherent t nodes opened (with_admission g op p)
  coherent-admission g op fits allows =
      coherent-with (with_admission g op p)
      (within-put t p.guests g (admitted op) was.within (λ row f there is. let same : op ≡ f.op = ap op_or is in subst (λ o. With (disk_of_guest t g) (λ node. end_of (span_of o) ≤ bytes_of_node t node)) same fits))
      (flights-change (IsAllowed t) p.guests g (admitted op) was.allowed (λ row f there is. let same : op ≡ f.op = ap op_or is in subst (λ o. With (device_by_number t g) (λ device. IsForbidden o device.read_only → ⊥)) same allows))
      (length-change g (admitted op) p.guests)
    where
      op_or : Option Flight → Op
      op_or None = op
      op_or (Some f) = f.op

  pub coherent-end : (q : Progress) (g : ℕ) → q.guests ≡ change g finished p.guests → IsCoherent t nodes opened q
  coherent-end q g is =
      coherent-with q
      (rw is (within-put t p.guests g finished was.within (λ row f there none. absurd (let bad : ⊥ = cc none in bad))))
      (rw is (flights-change (IsAllowed t) p.guests g finished was.allowed (λ row f there none. absurd (let bad : ⊥ = cc none in bad))))
      (ap length is ∙ length-change g finished p.guests)

  -- a request in flight goes on
  pub coherent-past : (q : Progress) (g : ℕ) (outcome : Outcome) → q.guests ≡ change g (past_piece outcome) p.guests → IsCoherent t nodes opened q
  coherent-past q g outcome is =
      coherent-with q
      (rw is (within-put t p.guests g (past_piece outcome) was.within (λ row f there flies.
      let before = flew row f there row.flight refl flies in
      subst (λ o. With (disk_of_guest t g) (λ node. end_of (span_of o) ≤ bytes_of_node t node)) before.2 (was.within g before.0 before.1))))
      (rw is (flights-change (IsAllowed t) p.guests g (past_piece outcome) was.allowed (λ row f there flies.
      let before = flew row f there row.flight refl flies in
      subst (λ o. With (device_by_number t g) (λ device. IsForbidden o device.read_only → ⊥)) before.2 (was.allowed g before.0 before.1))))
      (ap length is ∙ length-change g (past_piece outcome) p.guests)
    where
      flew : (row : Guest) (f : Flight) → slice_get p.guests g ≡ Some row → (flight : Option Flight) → row.flight ≡ flight → option_map (one_further outcome) flight ≡ Some f
          → (b : Flight) × (flight_at p.guests g ≡ Some b) × (b.op ≡ f.op)
      flew row f there None flight bad = absurd (let e : ⊥ = cc bad in e)
      flew row f there (Some b) flight now =
          let same : one_further outcome b ≡ f = cc now in
          (b, ap (option_and_then (λ (x : Guest). x.flight)) there ∙ flight, ap (λ (x : Flight). x.op) same)

  pub coherent-same : (q : Progress) → q.guests ≡ p.guests → IsCoherent t nodes opened q
  coherent-same q is = coherent-with q (rw is was.within) (rw is was.allowed) (ap length is)

-- ---- a new world

nobody-flies : (n k : ℕ) (f : Flight) → flight_at (replicate n new_guest) k ≡ Some f → ⊥
nobody-flies zero k f is = let bad : ⊥ = cc is in bad
nobody-flies (suc n) zero f is = let bad : ⊥ = cc is in bad
nobody-flies (suc n) (suc k) f is = nobody-flies n k f is

no-row : (n k : ℕ) → get_or (replicate {A = Option Row} n None) k None ≡ None
no-row n k =
    let len = length-replicate {A = Option Row} n None in
    elim (cases_lt k n) [ inl below ↦ get_or-replicate n k None None below | inr past ↦ get_or_past (replicate n None) k None (omega arith) ]

pub coherent-new : (guests : List (List ℕ)) (room : Room) → IsCoherent (opening_table guests) no_nodes [] (no_progress (length guests) room)
coherent-new guests room = record {
  drives = λ g there. absurd (false≢true there);
  disks = λ g node on. absurd (let bad : ⊥ = cc on in bad);
  alike = record { listed = refl; edges = refl; rows = λ id. rw (no-row 64 id) tt };
  table = start_table_rests guests;
  asks = λ g device edge there writes on. absurd (let bad : ⊥ = cc there in bad);
  writable = λ g node device there writes on. absurd (let bad : ⊥ = cc there in bad);
  within = λ g f flies. absurd (nobody-flies (length guests) g f flies);
  allowed = λ g f flies. absurd (nobody-flies (length guests) g f flies);
  count = length-replicate (length guests) new_guest;
  out = record {
    each = λ device held. absurd (omega (arith, held.1));
    once = λ i j d less within. absurd (omega arith);
    order = λ i j d less within. absurd (omega arith);
    all = λ n o there out. absurd (let bad : ⊥ = cc there in bad);
    names = λ a b o p there there' out out' same. absurd (let bad : ⊥ = cc there in bad);
  };
}

-- no job is there
pub jobs-new : (guests : List (List ℕ)) → AreJobsKept (opening_table guests) [] 0
jobs-new guests = record {
  stand = opening_jobs guests;
  run = opening_run guests;
  copies = λ row target there. absurd (omega (arith, there.1));
  rows = λ row there. absurd (omega (arith, there.1));
  once = λ i j d less within. absurd (omega arith);
  uses = opening_uses guests;
  belong = record {
    each = λ row there. absurd (omega (arith, there.1));
    owned = λ work there. absurd (omega (arith, there.1));
    once = λ i j d less within. absurd (omega arith);
    sound = λ work there. absurd (omega (arith, there.1));
  };
  room = refl;
  lone = λ row there. absurd (omega (arith, there.1));
}

pub whole-new : (files : Option (List File)) (earlier : List Opened) (room faults : ℕ) (failed : Option CallOnFile) (guests : List (List ℕ)) (spare : Room)
    → IsWholeWorld (face_of (found_store files earlier room faults failed) faults no_nodes (opening_table guests) (no_progress (length guests) spare) none_drained [] [])
whole-new files earlier room faults failed guests spare =
    record {
      coherent = coherent-new guests spare;
      tell = λ told device held. absurd (omega (arith, held.1));
      counted = omega arith;
      bitmaps = record { listed = refl; single = tt; each = λ row there. absurd (omega (arith, there.1)) };
      jobs = jobs-new guests;
      drains = record { each = λ k d within. absurd (omega arith); once = λ i j d less within. absurd (omega arith) };
    }
