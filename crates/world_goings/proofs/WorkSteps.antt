-- Each step of a job's copying leaves its work in order, of the same disk and with the same room.
use Rattle.std.proofs.Common.{◌≡◌, ℕ, ◌+◌, ◌*◌, ◌<◌, Bool, true, false, List, length, refl, sym, ◌∙◌, ap, subst, inl, inr, Option, Some, None}
use Rattle.std.specs.Prelude.{◌&&◌, not, Result, Ok, Err}
use Rattle.std.proofs.lemmas.List.{length-replicate}
use Rattle.blk_base.specs.declared.fault.Fault.{Fault}
use Rattle.blk_bits.specs.Granules.{contains, in_span}
use Rattle.blk_copy.specs.Rows.{has_row}
use Rattle.blk_copy.specs.declared.transfers.Transfer.{Transfer}
use Rattle.blk_nodes.specs.Nodes.{Nodes}
use Rattle.block_jobs.specs.Work.{IsJobWork, JobWork, after_copy, after_settle, after_take, block_count, failed_by, next_block, parts_a_block, with_transfer, without_block, without_transfer}
use Rattle.block_jobs.proofs.PartLemmas.{length-those_below, next_is}
use Rattle.block_jobs.proofs.WorkLemmas.{copies_fewer, copies_more}
use Rattle.job_copies.specs.Guarding.{Guards, after_guard}
use Rattle.job_copies.specs.Settling.{Settles, after_write}
use Rattle.job_copies.specs.Taking.{Takes}
use Rattle.node_copies.specs.Putting.{answer_of}
use Rattle.qmp_codec.specs.declared.event.JobKind.{JobKind}
use Rattle.qmp_codec.specs.declared.event.JobKind.TheVariants.{Stream, Commit, Mirror, Backup}

pub record IsStill (was now : JobWork) : Type 0 where
  pub size : now.size ≡ was.size
  pub room : now.room ≡ was.room
  pub sound : IsJobWork now

-- ---- each change of it

off_block : (block : ℕ) (work : JobWork) → IsJobWork work → IsJobWork (without_block block work)
off_block block work is = record {
  size = is.size;
  some = is.some;
  sectors = is.sectors;
  blocks = is.blocks;
  left =
      length-those_below (length work.left) (λ k. contains work.left k && not (in_span (block * parts_a_block work) (block * parts_a_block work + parts_a_block work) k))
      ∙ is.left;
  copies = is.copies;
}

more : (t : Transfer) (work : JobWork) → t.job ≡ work.job → t.cluster < block_count work.size → has_row work.job t.cluster work.rows ≡ false
    → IsJobWork work → IsJobWork (with_transfer t work)
more t work own within none is = record {
  size = is.size;
  some = is.some;
  sectors = is.sectors;
  blocks = is.blocks;
  left = is.left;
  copies = copies_more work.job work.size work.rows t own within none is.copies;
}

fewer : (block : ℕ) (work : JobWork) → IsJobWork work → IsJobWork (without_transfer block work)
fewer block work is = record {
  size = is.size;
  some = is.some;
  sectors = is.sectors;
  blocks = is.blocks;
  left = is.left;
  copies = copies_fewer work.job work.size block work.rows is.copies;
}

-- ---- each step

taken_is : (kind : JobKind) (t : Transfer) (work : JobWork) → t.job ≡ work.job → next_block work ≡ Some t.cluster → IsJobWork work → IsStill work (after_take kind t work)
taken_is Mirror t work own next is =
    let at = next_is work t.cluster next in
    record { size = refl; room = refl; sound = more t (without_block t.cluster work) own at.0 at.1 (off_block t.cluster work is) }
taken_is Stream t work own next is = let at = next_is work t.cluster next in record { size = refl; room = refl; sound = more t work own at.0 at.1 is }
taken_is Commit t work own next is = let at = next_is work t.cluster next in record { size = refl; room = refl; sound = more t work own at.0 at.1 is }
taken_is Backup t work own next is = let at = next_is work t.cluster next in record { size = refl; room = refl; sound = more t work own at.0 at.1 is }

copied_is : (block : ℕ) (work : JobWork) → IsJobWork work → IsStill work (after_copy block work)
copied_is block work is = record { size = refl; room = refl; sound = fewer block (without_block block work) (off_block block work is) }

settled_is : (kind : JobKind) (block : ℕ) (work : JobWork) → IsJobWork work → IsStill work (after_settle kind block work)
settled_is Mirror block work is = record { size = refl; room = refl; sound = fewer block work is }
settled_is Stream block work is = copied_is block work is
settled_is Commit block work is = copied_is block work is
settled_is Backup block work is = copied_is block work is

failed_is : (fault : Fault) (work : JobWork) → IsJobWork work → IsStill work (failed_by fault work)
failed_is fault work is = record {
  size = refl;
  room = refl;
  sound = record {
    size = is.size;
    some = is.some;
    sectors = is.sectors;
    blocks = is.blocks;
    left = length-replicate (length work.left) false ∙ is.left;
    copies = tt;
  };
}

same_is : (work : JobWork) → IsJobWork work → IsStill work work
same_is work is = record { size = refl; room = refl; sound = is }

-- ---- what was done for the job

module _ (old new : Nodes) (was now : JobWork) (is : IsJobWork was) where
  by : (left : JobWork) → now ≡ left → IsStill was left → IsStill was now
  by left same still = subst (IsStill was) (sym same) still

  pub taken_still : (kind : JobKind) (source position : ℕ) (buffer : List ℕ) (answer : Result (Option Transfer) Fault) → Takes kind old new was now source position buffer answer
      → IsStill was now
  taken_still kind source position buffer (Ok None) did = by was did.2 (same_is was is)
  taken_still kind source position buffer (Ok (Some t)) did =
      by (after_take kind t was) did.work (taken_is kind t was (ap (λ (x : Transfer). x.job) did.is) did.next is)
  taken_still kind source position buffer (Err fault) did = by (failed_by fault was) did.work (failed_is fault was is)

  wrote_is : (kind : JobKind) (block : ℕ) (answer : Result (Unit {0}) Fault) → IsStill was (after_write answer kind block was)
  wrote_is kind block (Ok done) = settled_is kind block was is
  wrote_is kind block (Err fault) = failed_is fault was is

  pub settled_still : (kind : JobKind) (target : ℕ) (t : Transfer) (bytes : List ℕ) (answer : Bool) → Settles kind old new was now target t bytes answer → IsStill was now
  settled_still kind target t bytes true did = by (after_write (answer_of did.wrote) kind t.cluster was) did.work (wrote_is kind t.cluster (answer_of did.wrote))
  settled_still kind target t bytes false did = by was did.2 (same_is was is)

  guarded_is : (answer : Result (Unit {0}) Fault) (block : ℕ) → IsStill was (after_guard answer block was)
  guarded_is (Ok done) block = copied_is block was is
  guarded_is (Err fault) block = failed_is fault was is

  pub guarded_still : (source target block : ℕ) → Guards old new was now source target block → IsStill was now
  guarded_still source target block (inl none) = by was none.2 (same_is was is)
  guarded_still source target block (inr copied) = by (after_guard copied.result block was) copied.work (guarded_is copied.result block)
