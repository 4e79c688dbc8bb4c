use Rattle.std.proofs.Common.{refl}
use Rattle.std.specs.Prelude.{map}
use Rattle.trace_codec.specs.Script.{seen_order}
use Rattle.world_parts.specs.Steps.{seen_store}
use Rattle.qblk_inputs.specs.Inputs.{Work}
use Rattle.qblk_run.specs.Run.{Setting, setting}
use Rattle.qblk_run.proofs.Runs.{play-can, play-drains, play-stands, traces-count, played-here, given-here, if-some, lines-here}
use Rattle.qblk_run.proofs.run.run_inputs.Goals as goal

pub new-requires-clause-few : goal.new-requires-clause-few
new-requires-clause-few g c = rw c.in-Ok.ensures.ready.guests_are c.requires.few

pub play-made-requires : goal.play-made-requires
play-made-requires g c = record {
  can = play-can (seen_store (g.S.Store.files c.args.store) (g.S.Store.opened c.args.store) (g.S.Store.room c.args.store) (g.S.Store.faults c.args.store) (g.S.Store.failed_call c.args.store))
      c.args.inputs.guests c.in-Ok.field-0.guests c.in-Ok.field-0.names (map seen_order c.args.inputs.script.items) (map (λ t. t.items) c.args.inputs.traces.items)
      c.in-Ok.field-0.actors c.in-Ok.field-0.room c.in-Ok-new.world c.in-Ok.ensures.ready
      (traces-count c.args.inputs.traces _ c.requires.count) c.requires.few c.in-Ok-new.ensures.ok;
  stands = play-stands _ _ _ _ c.in-Ok-new.ensures.ok c.in-Ok-new.ensures.comes;
  room = c.in-Ok.ensures.buffer;
  drains = play-drains _ _ _ _ _ c.in-Ok-new.ensures.ok;
}

pub returns-in-None-clause-ended : goal.returns-in-None-clause-ended
returns-in-None-clause-ended g c = λ cast names said work.
    let ready = c.in-Ok.ensures.ready in
    let old : Setting = setting (g.S.Store.files c.args.store) (g.S.Store.opened c.args.store) (g.S.Store.room c.args.store) (g.S.Store.faults c.args.store) (g.S.Store.failed_call c.args.store) (g.K.Sink.sent c.args.out.now) (g.K.Sink.faults c.args.out.now) in
    let new : Setting = setting (g.S.Store.files c.play-made.result.1) (g.S.Store.opened c.play-made.result.1) (g.S.Store.room c.play-made.result.1) (g.S.Store.faults c.play-made.result.1) (g.S.Store.failed_call c.play-made.result.1) (g.K.Sink.sent c.args.out.now) (g.K.Sink.faults c.args.out.now) in
    let w : Work = record { script = map seen_order c.args.inputs.script.items; traces = map (λ t. t.items) c.args.inputs.traces.items } in
    given-here cast w old new c.in-Ok.field-0.room c.args.inputs.guests c.in-Ok.field-0.guests c.in-Ok.field-0.names c.in-Ok.field-0.actors c.in-Ok-new.world ready names
    (traces-count c.args.inputs.traces _ c.requires.count) c.in-Ok-new.ensures.ok c.in-Ok-new.ensures.comes said work (c.play-made.ensures.stopped c.in-None.is) refl refl

pub returns-in-Some-clause-ended : goal.returns-in-Some-clause-ended
returns-in-Some-clause-ended g c = λ cast names said work.
    let old : Setting = setting (g.S.Store.files c.args.store) (g.S.Store.opened c.args.store) (g.S.Store.room c.args.store) (g.S.Store.faults c.args.store) (g.S.Store.failed_call c.args.store) (g.K.Sink.sent c.args.out.now) (g.K.Sink.faults c.args.out.now) in
    let new : Setting = setting (g.S.Store.files c.play-made.result.1) (g.S.Store.opened c.play-made.result.1) (g.S.Store.room c.play-made.result.1) (g.S.Store.faults c.play-made.result.1) (g.S.Store.failed_call c.play-made.result.1) (g.K.Sink.sent c.write_out.new.out) (g.K.Sink.faults c.write_out.new.out) in
    let w : Work = record { script = map seen_order c.args.inputs.script.items; traces = map (λ t. t.items) c.args.inputs.traces.items } in
    let made = if-some c.play-made.result.0 c.in-Some.made _ c.in-Some.is c.play-made.ensures.made in
    played-here cast w old new c.in-Ok.field-0.room c.args.inputs.guests c.in-Ok.field-0.guests c.in-Ok.field-0.names c.in-Ok.field-0.actors c.in-Ok-new.world c.in-Ok.ensures.ready names
    (traces-count c.args.inputs.traces _ c.requires.count) c.in-Ok-new.ensures.ok c.in-Ok-new.ensures.comes
    c.in-Some.made.history c.in-Some.made.jobs.items c.in-Some.made.fault c.in-Some.made.waiting c.write_out.result said work made c.write_out.ensures

pub write_out-requires : goal.write_out-requires
write_out-requires g c =
    let store = seen_store (g.S.Store.files c.args.store) (g.S.Store.opened c.args.store) (g.S.Store.room c.args.store) (g.S.Store.faults c.args.store) (g.S.Store.failed_call c.args.store) in
    let after = seen_store (g.S.Store.files c.play-made.result.1) (g.S.Store.opened c.play-made.result.1) (g.S.Store.room c.play-made.result.1) (g.S.Store.faults c.play-made.result.1) (g.S.Store.failed_call c.play-made.result.1) in
    record {
      lines = lines-here store (map seen_order c.args.inputs.script.items) (map (λ t. t.items) c.args.inputs.traces.items) c.args.inputs.guests c.in-Ok.field-0.guests
          c.in-Ok.field-0.names c.in-Ok.field-0.actors c.in-Ok.field-0.room c.in-Ok-new.world after c.in-Some.made.history c.in-Some.made.jobs.items c.in-Some.made.fault
          c.in-Some.made.waiting c.in-Ok.ensures.ready (traces-count c.args.inputs.traces _ c.requires.count) c.in-Ok-new.ensures.ok
          (if-some c.play-made.result.0 c.in-Some.made _ c.in-Some.is c.play-made.ensures.made);
    }
