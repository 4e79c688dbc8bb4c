-- What the steps of jobs' copying need of a world, and that they are what the jobs do to it.
use Rattle.std.proofs.Common.{◌≡◌, ℕ, ◌≤◌, ◌<◌, ◌/◌, true, List, arith, refl, sym, ◌∙◌, ap, subst, Option, Some, None}
use Rattle.std.specs.Prelude.{◌==◌, Contains, option_map, unwrap_or}
use Rattle.std.proofs.lemmas.Bool.{eqb-true, false≢true}
use Rattle.block_jobs.specs.Work.{JobWork, block_count, room_for}
use Rattle.block_jobs.proofs.PartLemmas.{among}
use Rattle.blk_graph.specs.declared.edge.Parent.TheVariants.{Job, Node}
use Rattle.blk_graph.proofs.Members.{find-Some}
use Rattle.blk_nodes.specs.Joined.{IsJoined}
use Rattle.blk_nodes.specs.Nodes.{AreTold, Nodes, node_size, row_at, size_by}
use Rattle.blk_nodes.specs.Writing.{MayWriteThrough}
use Rattle.blk_nodes.specs.declared.row.Row.{Row}
use Rattle.flat_machine.specs.Wiring.{TableStands}
use Rattle.job_ends.proofs.Ends.{copied_is, written_is}
use Rattle.job_ends.proofs.Others.{at_number}
use Rattle.job_progress.specs.Belonging.{HasWork}
use Rattle.job_progress.specs.Going.{copies_blocks}
use Rattle.job_tables.specs.Copiers.{CopyGoes}
use Rattle.job_works.specs.Works.{ChangesWork, work_of}
use Rattle.job_progress.proofs.Belong.{found_there}
use Rattle.qmp_codec.specs.declared.event.JobKind.{JobKind}
use Rattle.qmp_codec.specs.declared.event.JobKind.TheVariants.{Stream, Commit, Mirror, Backup}
use Rattle.qmp_rules.specs.Queries.{bytes_of_node}
use Rattle.qmp_rules.specs.Table.{RunTable, job_at, job_in, node_by_id}
use Rattle.qmp_rules.specs.declared.rows.JobRecord.{JobRecord}
use Rattle.qmp_rules.specs.declared.rows.NodeRecord.{NodeRecord}
use Rattle.world_parts.specs.Coherent.{AreAlike, AreNodesOf, IsWholeWorld}
use Rattle.world_parts.specs.Face.{WorldSeen}
use Rattle.world_pieces.proofs.PieceReady.{may_write}
use Rattle.world_pieces.proofs.PieceWriters.{own_row}
use Rattle.world_goings.specs.Copied.{FailedAreDone, HasSmallFault}
use Rattle.world_goings.proofs.Failed.{found_then}
use Rattle.world_goings.proofs.JobNodes.{copy_stands, target_plain}
use Rattle.world_copies.specs.Copying.{IsStepOf}
use Rattle.world_jobs.specs.Copying.{HasRoomToCopy}
use Rattle.world_jobs.specs.Guarding.{HasTarget, HasWorkOver}

sizes_alike : (t : RunTable) (nodes : Nodes) → AreNodesOf t nodes → (n : ℕ) → node_size nodes n ≡ bytes_of_node t n
sizes_alike t nodes are n = by_rows (node_by_id t n) (row_at nodes n) (are.rows n)
  where
    by_rows : (a : Option NodeRecord) (b : Option Row) → AreAlike a b → size_by b ≡ unwrap_or (option_map (λ (r : NodeRecord). r.size) a) 0
    by_rows None None alike = refl
    by_rows (Some a) (Some b) alike = sym alike.size
    by_rows None (Some b) alike = absurd alike
    by_rows (Some a) None alike = absurd alike

-- a job that was found is there by its number
pub in_slot : (t : RunTable) (slot : ℕ) (row : JobRecord) → job_in t slot ≡ Some row → Contains t.jobs row
in_slot t slot row is = (find-Some (λ (r : JobRecord). r.slot == slot) t.jobs row is).0

pub numbered_so : (t : RunTable) (job : ℕ) (row : JobRecord) → job_at t job ≡ Some row → row.number ≡ job
numbered_so t job row is = eqb-true row.number job (find-Some (λ (r : JobRecord). r.number == job) t.jobs row is).1

-- what copies block by block has room for a copy of each
room_of : (kind : JobKind) (size : ℕ) → copies_blocks kind ≡ true → room_for kind size ≡ block_count size
room_of Mirror size copies = refl
room_of Backup size copies = refl
room_of Stream size copies = absurd (false≢true copies)
room_of Commit size copies = absurd (false≢true copies)

module _ (w : WorldSeen) (whole : IsWholeWorld w) (joined : IsJoined w.nodes) (row : JobRecord) (here : Contains w.table.jobs row) where
  abbrev t : RunTable
  t = w.table

  stands : TableStands t
  stands = whole.coherent.table.stands

  has : HasWork t w.works row
  has = whole.jobs.belong.each row here

  has_work : HasWorkOver w.nodes w.works row
  has_work = record {
    work = has.work;
    there = has.there;
    source = sizes_alike t w.nodes whole.coherent.alike row.source ∙ sym has.size;
  }

  pub room_to_copy : HasRoomToCopy w.nodes w.works row
  unfolding has_work has
  room_to_copy = record {
    has = has_work;
    room = subst (λ most. most ≤ has.work.room) (room_of row.kind has.work.size (whole.jobs.lone row here).kind) has.room;
  }

  -- ---- its target

  module _ (target : ℕ) (is : row.target ≡ Some target) where
    goes : CopyGoes t row target
    goes = whole.jobs.copies row target here (copied_is row (whole.jobs.lone row here).kind ∙ is)

    target_size : bytes_of_node t target ≡ bytes_of_node t row.source
    target_size =
        let size_of : Option NodeRecord → ℕ = λ found. unwrap_or (option_map (λ (r : NodeRecord). r.size) found) 0 in
        ap size_of goes.sizes.other_found ∙ sym goes.sizes.same ∙ sym (ap size_of goes.sizes.found)

    target_may : MayWriteThrough w.nodes target
    target_may =
        let plain = target_plain t w.works w.progress.aside whole.jobs stands row target here is in
        let at = find-Some (λ (r : NodeRecord). r.id == target) t.nodes plain.row plain.there in
        let id_is = eqb-true plain.row.id target at.1 in
        let own = own_row t w.nodes joined whole.coherent.alike stands target plain.row plain.there in
        let blocks = (whole.jobs.lone row here).kind in
        let writable = (whole.jobs.run.targets row target here (written_is row blocks ∙ is)).writable plain.row at.0 id_is in
        may_write t w.nodes joined whole.coherent.alike stands target plain.row plain.there at.0 id_is plain.own
        (λ over leads.
        let bad : Node over.id ≡ Job row.slot = sym leads.parent ∙ goes.alone leads.edge leads.there (leads.child ∙ id_is) in
        absurd (cc bad)) own.0 own.1 own.2 writable

  pub has_target : HasTarget w.nodes w.works row
  unfolding has_work has
  has_target =
      let c = (copy_stands t w.works w.progress.aside whole.jobs stands row here).copy in
      record {
        has = has_work;
        target = c.target;
        target_is = c.is_target;
        size = sizes_alike t w.nodes whole.coherent.alike c.target ∙ target_size c.target c.is_target ∙ sym has.size;
        may = target_may c.target c.is_target;
      }

  -- ---- a step of its copying

  pub step_of : (nodes : Nodes) (works : List JobWork) (Does : JobWork → JobWork → Type 0) → IsJoined nodes → (AreTold w.nodes.devices → AreTold nodes.devices)
      → ChangesWork row.number Does w.works works → FailedAreDone w.works → ((work : JobWork) → work_of works row.number ≡ Some work → HasSmallFault work)
      → IsStepOf w (record w { nodes = nodes; works = works }) row Does
  step_of nodes works Does joined_then told changes failed small = record {
    there = at_number t whole.jobs.stand row here;
    kept = refl;
    joined = joined;
    joined_then = joined_then;
    told = told;
    changes = changes;
    done = failed changes.was (found_there w.works row.number changes.was changes.there);
    small = small changes.now (found_then row.number Does w.works works changes);
  }

  -- ---- a guard

  pub can_guard : (place block : ℕ) → block ≡ place / 65536 → place < bytes_of_node t row.source → (has : HasTarget w.nodes w.works row) × (block < block_count has.has.work.size)
  unfolding has_target has_work has
  can_guard place block is within =
      (has_target, (among has_target.has.work.size 65536 block (omega arith)).1 (let size = has.size in omega (arith, is, within, size)))
