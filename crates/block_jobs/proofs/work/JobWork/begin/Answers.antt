use Rattle.std.proofs.Common.{◌≡◌, ◌<◌, ap, refl, sym, subst, List, Some, false}
use Rattle.blk_copy.specs.declared.transfers.Transfer.{Transfer}
use Rattle.blk_copy.specs.Table.{Table}
use Rattle.block_jobs.specs.Work.{JobWork, AreCopiesOf, HasRoomForAll, block_count, has_open, next_block}
use Rattle.block_jobs.proofs.PartLemmas.{next_is}
use Rattle.block_jobs.proofs.WorkLemmas.{copies_more, room_for_one}
use Rattle.block_jobs.proofs.work.JobWork.begin.Goals as goal

pub enter-requires-clause-apart : goal.enter-requires-clause-apart
enter-requires-clause-apart c =
    let w : JobWork = record {
      job = c.self.inside.job;
      size = c.self.inside.size;
      part = c.self.inside.part;
      left = c.self.inside.left;
      rows = c.self.inside.copies.rows;
      room = c.self.inside.copies.room;
      met = c.self.inside.met;
    } in
    let next : next_block w ≡ Some c.args.block = subst (λ (x : JobWork). next_block x ≡ Some c.args.block) (sym c.self.view_is) c.requires.next in
    (next_is w c.args.block next).1

pub take_block_off-requires : goal.take_block_off-requires
take_block_off-requires c =
    let w : JobWork = record {
      job = c.self.inside.job;
      size = c.self.inside.size;
      part = c.self.inside.part;
      left = c.self.inside.left;
      rows = c.self.inside.copies.rows;
      room = c.self.inside.copies.room;
      met = c.self.inside.met;
    } in
    let next : next_block w ≡ Some c.args.block = subst (λ (x : JobWork). next_block x ≡ Some c.args.block) (sym c.self.view_is) c.requires.next in
    (next_is w c.args.block next).0

pub enter-requires-clause-room : goal.enter-requires-clause-room
enter-requires-clause-room c =
    let w : JobWork = record {
      job = c.self.inside.job;
      size = c.self.inside.size;
      part = c.self.inside.part;
      left = c.self.inside.left;
      rows = c.self.inside.copies.rows;
      room = c.self.inside.copies.room;
      met = c.self.inside.met;
    } in
    let next : next_block w ≡ Some c.args.block = subst (λ (x : JobWork). next_block x ≡ Some c.args.block) (sym c.self.view_is) c.requires.next in
    let can : (c.args.block < block_count w.size) × (has_open w c.args.block ≡ false) = next_is w c.args.block next in
    let room : HasRoomForAll w = subst (λ (x : JobWork). HasRoomForAll x) (sym c.self.view_is) c.requires.room in
    let t : Transfer = record { job = c.self.inside.job; cluster = c.args.block; position = c.args.position } in
    room_for_one w t refl can.0 can.1 room c.self.invariant.copies

pub invariant_of-self : goal.invariant_of-self
invariant_of-self c =
    let is = c.self.invariant in
    let w : JobWork = record {
      job = c.self.inside.job;
      size = c.self.inside.size;
      part = c.self.inside.part;
      left = c.self.inside.left;
      rows = c.self.inside.copies.rows;
      room = c.self.inside.copies.room;
      met = c.self.inside.met;
    } in
    let next : next_block w ≡ Some c.args.block = subst (λ (x : JobWork). next_block x ≡ Some c.args.block) (sym c.self.view_is) c.requires.next in
    let can : (c.args.block < block_count w.size) × (has_open w c.args.block ≡ false) = next_is w c.args.block next in
    let t : Transfer = record { job = c.self.inside.job; cluster = c.args.block; position = c.args.position } in
    record {
      size = is.size;
      some = is.some;
      sectors = is.sectors;
      blocks = is.blocks;
      left = is.left;
      copies = subst (λ (rows : List Transfer). AreCopiesOf c.self.inside.job c.self.inside.size rows) (sym (ap (λ (t : Table). t.rows) c.enter.ensures))
          (copies_more c.self.inside.job c.self.inside.size c.self.inside.copies.rows t refl can.0 can.1 is.copies);
    }

pub invariant_of-self-in_default : goal.invariant_of-self-in_default
invariant_of-self-in_default c =
    let is = c.self.invariant in
    let w : JobWork = record {
      job = c.self.inside.job;
      size = c.self.inside.size;
      part = c.self.inside.part;
      left = c.self.inside.left;
      rows = c.self.inside.copies.rows;
      room = c.self.inside.copies.room;
      met = c.self.inside.met;
    } in
    let next : next_block w ≡ Some c.args.block = subst (λ (x : JobWork). next_block x ≡ Some c.args.block) (sym c.self.view_is) c.requires.next in
    let can : (c.args.block < block_count w.size) × (has_open w c.args.block ≡ false) = next_is w c.args.block next in
    let t : Transfer = record { job = c.self.inside.job; cluster = c.args.block; position = c.args.position } in
    record {
      size = is.size;
      some = is.some;
      sectors = is.sectors;
      blocks = is.blocks;
      left = is.left;
      copies = subst (λ (rows : List Transfer). AreCopiesOf c.self.inside.job c.self.inside.size rows) (sym (ap (λ (t : Table). t.rows) c.enter.ensures))
          (copies_more c.self.inside.job c.self.inside.size c.self.inside.copies.rows t refl can.0 can.1 is.copies);
    }
