use Rattle.qblk_run.proofs.Blocks.{both-done, none-read, settled-in, took-in}
use Rattle.qblk_run.proofs.Settling.{settled_read}
use Rattle.qblk_run.proofs.Worlds.{come-settled, come-taken}
use Rattle.qblk_run.proofs.slot_turn.copy_block.Goals as goal

pub returns-in-Some-clause-copied : goal.returns-in-Some-clause-copied
returns-in-Some-clause-copied g c =
    let w = g.W.Events.face c.args.world.now in
    let x = g.W.Events.face c.take.new.self in
    let v = g.W.Events.face c.settle.new.self in
    let took = took-in w x c.args.slot c.take.new.buffer c.take.result c.requires.stands c.requires.copies c.take.ensures.took in
    let settled = settled-in w x c.args.slot c.take.new.buffer c.take.result c.requires.stands c.requires.copies took v c.in-Some.t c.in-Some.is c.take.new.buffer c.settle.result c.settle.ensures.settled in
    both-done w x c.args.slot c.take.new.buffer c.take.result c.requires.stands c.requires.copies took v c.in-Some.t c.in-Some.is c.take.new.buffer c.settle.result settled

pub returns-in-Some-clause-comes : goal.returns-in-Some-clause-comes
returns-in-Some-clause-comes g c = λ orders o d first has.
    let w = g.W.Events.face c.args.world.now in
    let x = g.W.Events.face c.take.new.self in
    let v = g.W.Events.face c.settle.new.self in
    let took = took-in w x c.args.slot c.take.new.buffer c.take.result c.requires.stands c.requires.copies c.take.ensures.took in
    let settled = settled-in w x c.args.slot c.take.new.buffer c.take.result c.requires.stands c.requires.copies took v c.in-Some.t c.in-Some.is c.take.new.buffer c.settle.result c.settle.ensures.settled in
    let between = come-taken o d first w x orders has (c.take.ensures.comes o) (record { row = took.row; buffer = c.take.new.buffer; answer = took.answer; takes = took.takes }) in
    come-settled o d first x v orders between (c.settle.ensures.comes o)
    (record {
      row = settled.row;
      target = settled.target;
      transfer = c.in-Some.t;
      bytes = settled.block;
      answer = c.settle.result;
      read = settled_read x v c.in-Some.t c.take.new.buffer c.settle.result settled (rw c.in-Some.is at c.take.ensures.bytes);
      settles = settled.settles;
    })

pub returns-in_default-clause-copied : goal.returns-in_default-clause-copied
returns-in_default-clause-copied g c =
    let w = g.W.Events.face c.args.world.now in
    let x = g.W.Events.face c.take.new.self in
    let took = took-in w x c.args.slot c.take.new.buffer c.take.result c.requires.stands c.requires.copies c.take.ensures.took in
    none-read w x c.args.slot c.take.new.buffer c.take.result c.requires.stands c.requires.copies took c.in_default.is

pub returns-in_default-clause-comes : goal.returns-in_default-clause-comes
returns-in_default-clause-comes g c = λ orders o d first has.
    let w = g.W.Events.face c.args.world.now in
    let x = g.W.Events.face c.take.new.self in
    let took = took-in w x c.args.slot c.take.new.buffer c.take.result c.requires.stands c.requires.copies c.take.ensures.took in
    come-taken o d first w x orders has (c.take.ensures.comes o) (record { row = took.row; buffer = c.take.new.buffer; answer = took.answer; takes = took.takes })
