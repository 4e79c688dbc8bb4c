use Rattle.std.proofs.Common.{◌≡◌, [], ◌∷◌, ◌++◌, subst, sym, ◌∙◌, ap, rules}
use Rattle.std.specs.Option.{option_copied}
use Rattle.blk_runs.specs.Runs.{Run}
use Rattle.blk_runs.specs.Reading.{AreBlockRuns, seen_run, words_behind}
use Rattle.blk_runs.proofs.ReadBack.{HasReadRuns, same-run, goes-on, reads-with, read-all}
use Rattle.blk_runs.proofs.reading.measure.Goals as goal

pub returns-in_default-read_run : goal.returns-in_default-read_run
returns-in_default-read_run c = λ rs are is.
    let left : words_behind (option_copied c.loop-rest.rest) ≡ c.cut.result.0.now ∷ words_behind (option_copied c.cut.result.1)
    = search (rules, c.in-Some.is, c.in-Some.words-is, c.cut.ensures.parts) in
    let reads = subst (HasReadRuns c.args.text.now c.loop-rest.invariant.front) left c.loop-rest.invariant.reads in
    let on = goes-on c.args.text.now c.loop-rest.invariant.front rs c.cut.result.0.now _ reads are.each is in
    c.in_default-read_run.ensures on.run on.is on.text

pub returns-in_default-with : goal.returns-in_default-with
returns-in_default-with c = λ rs are is.
    let left : words_behind (option_copied c.loop-rest.rest) ≡ c.cut.result.0.now ∷ words_behind (option_copied c.cut.result.1)
    = search (rules, c.in-Some.is, c.in-Some.words-is, c.cut.ensures.parts) in
    let reads = subst (HasReadRuns c.args.text.now c.loop-rest.invariant.front) left c.loop-rest.invariant.reads in
    let on = goes-on c.args.text.now c.loop-rest.invariant.front rs c.cut.result.0.now _ reads are.each is in
    let run = same-run on.run (seen_run c.in-Some-read_run.run') on.is c.in-Some-read_run.ensures.0 (on.text ∙ sym c.in-Some-read_run.ensures.1) in
    let whole : rs ≡ c.loop-rest.invariant.front ++ seen_run c.in-Some-read_run.run' ∷ on.back
    = on.whole ∙ ap (λ (r : Run). c.loop-rest.invariant.front ++ r ∷ on.back) run in
    c.in_default-with.ensures c.loop-rest.invariant.front on.back c.loop-rest.invariant.has (subst AreBlockRuns whole are)

pub loop-rest-preserved : goal.loop-rest-preserved
loop-rest-preserved c =
    let left : words_behind (option_copied c.loop-rest.rest) ≡ c.cut.result.0.now ∷ words_behind (option_copied c.cut.result.1)
    = search (rules, c.in-Some.is, c.in-Some.words-is, c.cut.ensures.parts) in
    let reads = subst (HasReadRuns c.args.text.now c.loop-rest.invariant.front) left c.loop-rest.invariant.reads in
    record {
      front = c.loop-rest.invariant.front ++ seen_run c.in-Some-read_run.run' ∷ [];
      has = c.in-Some-with.ensures c.loop-rest.invariant.front c.loop-rest.invariant.has;
      reads = reads-with c.args.text.now c.loop-rest.invariant.front (seen_run c.in-Some-read_run.run') c.cut.result.0.now _ reads
          c.in-Some-read_run.ensures.0 c.in-Some-read_run.ensures.1;
    }

pub returns : goal.returns
returns c =
    let left : words_behind (option_copied c.loop-rest.rest) ≡ [] = search (rules, c.in_default.not-Some) in
    let reads = subst (HasReadRuns c.args.text.now c.loop-rest.invariant.front) left c.loop-rest.invariant.reads in
    (c.loop-rest.invariant.front, c.loop-rest.invariant.has.are, read-all c.args.text.now c.loop-rest.invariant.front reads, sym c.loop-rest.invariant.has.len)
