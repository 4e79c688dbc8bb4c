use Rattle.std.proofs.Common.{rules, ◌≡◌, ◌-◌, ◌≤◌, ℕ, List, ◌∷◌, length, sym, ◌∙◌, ap, subst, arith}
use Rattle.blk_base.specs.Pieces.{Extent}
use Rattle.blk_base.specs.declared.fault.Outcome.{Outcome}
use Rattle.blk_nodes.specs.Nodes.{Nodes, node_size}
use Rattle.node_copies.specs.Putting.{PutsRun}
use Rattle.node_copies.specs.Sectors.{run_bytes, run_span, runs_from, sector_count}
use Rattle.node_copies.specs.declared.sectors.Run.{Run}
use Rattle.node_copies.proofs.Puts.{may_still, puts_none, puts_on, puts_stopped, run_whole, size_kept}
use Rattle.node_copies.proofs.putting.+put_from.Goals as goal

pub returns-in_default : goal.returns-in_default
returns-in_default g n c =
    let runs : ℕ → List Run = λ count. runs_from (count - c.args.from) c.args.sectors c.args.from in
    puts_none c.args.block c.args.to c.args.bytes.now (runs (sector_count c.args.block)) c.args.nodes.now (ap runs (sym c.sector_count.ensures.count) ∙ c.in_default.ensures)

pub put_run-outcome-requires-clause-whole : goal.put_run-outcome-requires-clause-whole
put_run-outcome-requires-clause-whole g t c =
    ap length c.run_bytes.ensures ∙ run_whole c.args.block c.args.bytes.now c.in-Some.run' ∙ sym (ap (λ (s : Extent). s.len) c.run_span-span.ensures)

pub put_from-requires : goal.put_from-requires
put_from-requires g t c κs within =
    let e = c.in-Some.ensures in
    let low = e.0 in
    let order = e.1 in
    let most : c.in-Some.run'.to ≤ sector_count c.args.block = subst (λ (k : ℕ). c.in-Some.run'.to ≤ k) c.sector_count.ensures.count e.2 in
    let few = c.sector_count.ensures.most in
    let reach = e.2 in
    let put = c.put_run-outcome.ensures in
    let old : Nodes = c.args.nodes.now in
    let mid : Nodes = c.put_run-outcome.new.nodes in
    let size : node_size mid c.args.to ≡ node_size old c.args.to = size_kept old mid c.args.to put.kept c.args.to in
    let inside = c.requires.inside in (
      omega (arith, c.decreases, low, order, reach, few),
      (
        search rules,
        (
          most,
          (
            c.requires.start,
            (c.requires.len, (omega (arith, inside, size), (c.requires.whole, may_still old mid c.args.to put.kept c.requires.may))),
          ),
        ),
      ),
    )

pub returns-then-not-is_good : goal.returns-then-not-is_good
returns-then-not-is_good g n c =
    let run : Run = c.in-Some.run' in
    let block : Extent = c.args.block in
    let bytes : List ℕ = c.args.bytes.now in
    let old : Nodes = c.args.nodes.now in
    let mid : Nodes = c.put_run-outcome.new.nodes in
    let o : Outcome = c.put_run-outcome.result in
    let first : ℕ → List Run = λ count. runs_from (count - c.args.from) c.args.sectors c.args.from in
    let rest : ℕ → List Run = λ count. runs_from (count - run.to) c.args.sectors run.to in
    let is : first (sector_count block) ≡ run ∷ rest (sector_count block)
    = ap first (sym c.sector_count.ensures.count) ∙ c.in-Some.ensures.3 ∙ ap (λ (k : ℕ). run ∷ rest k) c.sector_count.ensures.count in
    let put : PutsRun block old mid c.args.to (run_span block run) (run_bytes block bytes run) o
    = subst (λ (s : Extent). PutsRun block old mid c.args.to s (run_bytes block bytes run) o) c.run_span-span.ensures
    (subst (λ (xs : List ℕ). PutsRun block old mid c.args.to c.run_span-span.result xs o) c.run_bytes.ensures c.put_run-outcome.ensures) in
    puts_stopped block c.args.to bytes (first (sector_count block)) run (rest (sector_count block)) is old mid o put (sym c.is_good.ensures ∙ c.if-not-is_good.true)

pub returns : goal.returns
returns g n c =
    let run : Run = c.in-Some.run' in
    let block : Extent = c.args.block in
    let bytes : List ℕ = c.args.bytes.now in
    let old : Nodes = c.args.nodes.now in
    let mid : Nodes = c.put_run-outcome.new.nodes in
    let o : Outcome = c.put_run-outcome.result in
    let first : ℕ → List Run = λ count. runs_from (count - c.args.from) c.args.sectors c.args.from in
    let rest : ℕ → List Run = λ count. runs_from (count - run.to) c.args.sectors run.to in
    let is : first (sector_count block) ≡ run ∷ rest (sector_count block)
    = ap first (sym c.sector_count.ensures.count) ∙ c.in-Some.ensures.3 ∙ ap (λ (k : ℕ). run ∷ rest k) c.sector_count.ensures.count in
    let put : PutsRun block old mid c.args.to (run_span block run) (run_bytes block bytes run) o
    = subst (λ (s : Extent). PutsRun block old mid c.args.to s (run_bytes block bytes run) o) c.run_span-span.ensures
    (subst (λ (xs : List ℕ). PutsRun block old mid c.args.to c.run_span-span.result xs o) c.run_bytes.ensures c.put_run-outcome.ensures) in
    puts_on block c.args.to bytes (first (sector_count block)) run (rest (sector_count block)) is old mid o put (sym c.is_good.ensures ∙ c.if-not-is_good.false)
    c.put_from.new.nodes c.put_from.result c.put_from.ensures
