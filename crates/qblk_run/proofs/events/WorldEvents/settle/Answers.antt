use Rattle.qblk_run.proofs.Settling.{settle_front, settle_read, settle_whole}
use Rattle.qblk_run.proofs.Staying.{settled_stay}
use Rattle.qblk_run.proofs.Turning.{has_settled}
use Rattle.qblk_run.proofs.events.WorldEvents.settle.Goals as goal

pub returns-clause-settled : goal.returns-clause-settled
returns-clause-settled g c =
    has_settled c.args.self.now c.settle.new.self c.args.t c.args.bytes.now _ c.settle.result
    (settle_front c.args.self.now c.args.t c.args.bytes.now c.block_len-len.result c.block_len-len.ensures.len) c.settle.ensures.settled

pub returns-clause-stays : goal.returns-clause-stays
returns-clause-stays g c =
    settled_stay c.args.self.now c.settle.new.self c.settle.ensures.comes c.args.t c.args.bytes.now c.settle.result
    (has_settled c.args.self.now c.settle.new.self c.args.t c.args.bytes.now _ c.settle.result
    (settle_front c.args.self.now c.args.t c.args.bytes.now c.block_len-len.result c.block_len-len.ensures.len) c.settle.ensures.settled)

pub settle-requires-clause-whole : goal.settle-requires-clause-whole
settle-requires-clause-whole g c = settle_whole c.args.self.now c.args.t c.args.bytes.now c.block_len-len.result c.block_len-len.ensures.len c.block_len-len.ensures.most c.requires.room

pub settle-requires-clause-read : goal.settle-requires-clause-read
settle-requires-clause-read g c = settle_read c.args.self.now c.args.t c.args.bytes.now c.block_len-len.result c.block_len-len.ensures.len c.requires.bytes
