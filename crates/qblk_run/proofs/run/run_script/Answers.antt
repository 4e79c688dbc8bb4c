use Rattle.std.proofs.Common.{◌≡◌, ◌∙◌, ℕ, List, ap₂, refl, rules, sym, subst}
use Rattle.blk_base.specs.Written.{Written}
use Rattle.blk_base.specs.Files.{IfTold}
use Rattle.std.specs.Prelude.{map}
use Rattle.trace_codec.specs.Script.{seen_order}
use Rattle.qblk_inputs.specs.Inputs.{Work, HasWork}
use Rattle.qblk_words.specs.Words.{Cast, texts_in, cast_of}
use Rattle.qblk_run.specs.Run.{Answers, Setting, setting, status_of}
use Rattle.qblk_run.proofs.Runs.{one-cast, refused-answers}
use Rattle.qblk_run.proofs.run.run_script.Goals as goal

pub returns-in-Ok-clause-ended : goal.returns-in-Ok-clause-ended
returns-in-Ok-clause-ended g c = λ cast form.
    let its = cast_of c.as_str.result.now (texts_in c.as_slice.result.now) in
    let script : c.as_str.result.now ≡ c.in-Some.run'.script.bytes = search rules in
    let players : c.as_slice.result.now ≡ c.in-Some.run'.players.items = search rules in
    let same : its ≡ cast =
    ap₂ (λ (s : List ℕ) (ps : List Written). cast_of s (texts_in ps)) script players
    ∙ one-cast (texts_in c.args.words.now) (cast_of c.in-Some.run'.script.bytes (texts_in c.in-Some.run'.players.items)) cast c.in-Some.ensures form in
    let read = c.in-Ok.ensures in
    let work : Work = record { script = map seen_order c.in-Ok.inputs.script.items; traces = map (λ t. t.items) c.in-Ok.inputs.traces.items } in
    let told : IfTold (g.S.Store.files c.read_inputs.new.store) (HasWork its work) = rw read.files read.read in
    let answers = c.run_inputs.ensures.ended its (sym read.guests) read.work told in
    subst (λ (k : Cast). Answers k
    (setting (g.S.Store.files c.args.store) (g.S.Store.opened c.args.store) (g.S.Store.room c.args.store) (g.S.Store.faults c.args.store) (g.S.Store.failed_call c.args.store) (g.K.Sink.sent c.args.out.now) (g.K.Sink.faults c.args.out.now))
    (setting (g.S.Store.files c.run_inputs.result.1) (g.S.Store.opened c.run_inputs.result.1) (g.S.Store.room c.run_inputs.result.1) (g.S.Store.faults c.run_inputs.result.1) (g.S.Store.failed_call c.run_inputs.result.1) (g.K.Sink.sent c.run_inputs.new.out) (g.K.Sink.faults c.run_inputs.new.out))
    c.run_inputs.result.0) same
    (rw (read.files, read.opened, read.room, read.quiet, read.last) at answers)

pub returns-clause-ended : goal.returns-clause-ended
returns-clause-ended g c = λ cast form.
    let its = cast_of c.as_str.result.now (texts_in c.as_slice.result.now) in
    let script : c.as_str.result.now ≡ c.in-Some.run'.script.bytes = search rules in
    let players : c.as_slice.result.now ≡ c.in-Some.run'.players.items = search rules in
    let same : its ≡ cast =
    ap₂ (λ (s : List ℕ) (ps : List Written). cast_of s (texts_in ps)) script players
    ∙ one-cast (texts_in c.args.words.now) (cast_of c.in-Some.run'.script.bytes (texts_in c.in-Some.run'.players.items)) cast c.in-Some.ensures form in
    let read = c.in-Err.ensures in
    let old : Setting = setting (g.S.Store.files c.args.store) (g.S.Store.opened c.args.store) (g.S.Store.room c.args.store) (g.S.Store.faults c.args.store) (g.S.Store.failed_call c.args.store) (g.K.Sink.sent c.args.out.now) (g.K.Sink.faults c.args.out.now) in
    let new : Setting = setting (g.S.Store.files c.read_inputs.new.store) (g.S.Store.opened c.read_inputs.new.store) (g.S.Store.room c.read_inputs.new.store) (g.S.Store.faults c.read_inputs.new.store) (g.S.Store.failed_call c.read_inputs.new.store) (g.K.Sink.sent c.args.out.now) (g.K.Sink.faults c.args.out.now) in
    rw c.input_status.ensures (subst (λ (k : Cast). Answers k old new (status_of c.in-Err.stop)) same
    (refused-answers its old new c.in-Err.stop read.files read.opened read.room refl refl read.stop read.file))
