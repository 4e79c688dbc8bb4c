use Rattle.std.proofs.Common.{◌≡◌, [], ◌∷◌, ◌++◌, length, replicate, subst, sym, ◌∙◌, ap, arith, rules}
use Rattle.std.specs.Option.{option_copied}
use Rattle.std.proofs.lemmas.List.{nil_from_length}
use Rattle.blk_runs.specs.Runs.{Run, bytes_of_runs}
use Rattle.blk_runs.specs.Reading.{seen_run, words_behind}
use Rattle.blk_runs.proofs.ReadBack.{HasReadRuns, same-run, goes-on, reads-with, only-read, no-runs, bytes-with, bytes-pushed}
use Rattle.blk_runs.proofs.reading.read_bytes.Goals as goal

pub returns-then-is_empty : goal.returns-then-is_empty
returns-then-is_empty c = λ rs are is.
    let empty : c.args.text.now ≡ [] = nil_from_length c.args.text.now (grind (arith, c.is_empty.ensures, c.if-is_empty.true)) in
    let none : rs ≡ [] = no-runs rs (is ∙ empty) in
    let new : c.from_vec.result ≡ [] = search (rules, c.from_vec.ensures, c.in_ok-bytes.ensures.items) in
    new ∙ sym (ap bytes_of_runs none)

pub unreachable-requires : goal.unreachable-requires
unreachable-requires c =
    let rs = c.requires.0 in
    let left : words_behind (option_copied c.loop-rest.rest) ≡ c.cut.result.0.now ∷ words_behind (option_copied c.cut.result.1)
    = search (rules, c.in-Some.is, c.in-Some.words-is, c.cut.ensures.parts) in
    let reads = subst (HasReadRuns c.args.text.now c.loop-rest.invariant.front) left c.loop-rest.invariant.reads in
    let on = goes-on c.args.text.now c.loop-rest.invariant.front rs c.cut.result.0.now _ reads c.requires.1.each c.requires.2 in
    c.in_default-read_run.ensures on.run on.is on.text

pub push_times-requires : goal.push_times-requires
push_times-requires c =
    let rs = c.requires.0 in
    let left : words_behind (option_copied c.loop-rest.rest) ≡ c.cut.result.0.now ∷ words_behind (option_copied c.cut.result.1)
    = search (rules, c.in-Some.is, c.in-Some.words-is, c.cut.ensures.parts) in
    let reads = subst (HasReadRuns c.args.text.now c.loop-rest.invariant.front) left c.loop-rest.invariant.reads in
    let on = goes-on c.args.text.now c.loop-rest.invariant.front rs c.cut.result.0.now _ reads c.requires.1.each c.requires.2 in
    let run = same-run on.run (seen_run c.in-Some-read_run.run') on.is c.in-Some-read_run.ensures.0 (on.text ∙ sym c.in-Some-read_run.ensures.1) in
    let count : on.run.count ≡ c.in-Some-read_run.run'.count = ap (λ (r : Run). r.count) run in
    let whole = ap (λ xs. length (bytes_of_runs xs)) on.whole ∙ bytes-with c.loop-rest.invariant.front on.back on.run in
    let held = ap length c.loop-rest.invariant.items in
    omega (arith, count, whole, held, c.requires.3, c.loop-rest.invariant.room, c.loop-rest.bytes.ok)

pub loop-rest-preserved : goal.loop-rest-preserved
loop-rest-preserved c =
    let left : words_behind (option_copied c.loop-rest.rest) ≡ c.cut.result.0.now ∷ words_behind (option_copied c.cut.result.1)
    = search (rules, c.in-Some.is, c.in-Some.words-is, c.cut.ensures.parts) in
    let reads = subst (HasReadRuns c.args.text.now c.loop-rest.invariant.front) left c.loop-rest.invariant.reads in
    record {
      front = c.loop-rest.invariant.front ++ seen_run c.in-Some-read_run.run' ∷ [];
      reads = reads-with c.args.text.now c.loop-rest.invariant.front (seen_run c.in-Some-read_run.run') c.cut.result.0.now _ reads
          c.in-Some-read_run.ensures.0 c.in-Some-read_run.ensures.1;
      items = c.push_times.ensures.items
          ∙ ap (λ bs. bs ++ replicate c.in-Some-read_run.run'.count c.in-Some-read_run.run'.byte) c.loop-rest.invariant.items
          ∙ bytes-pushed c.loop-rest.invariant.front (seen_run c.in-Some-read_run.run');
      room = omega (arith, c.push_times.ensures.capacity, c.loop-rest.invariant.room);
    }

pub returns : goal.returns
returns c = λ rs are is.
    let left : words_behind (option_copied c.loop-rest.rest) ≡ [] = search (rules, c.in_default.not-Some) in
    let reads = subst (HasReadRuns c.args.text.now c.loop-rest.invariant.front) left c.loop-rest.invariant.reads in
    let same = only-read c.args.text.now c.loop-rest.invariant.front rs reads are.each is in
    c.from_vec-2.ensures ∙ c.loop-rest.invariant.items ∙ sym (ap bytes_of_runs same)
