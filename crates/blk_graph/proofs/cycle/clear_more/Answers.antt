use Rattle.std.proofs.Common.{◌≡◌, ◌<◌, arith}
use Rattle.blk_graph.specs.Walk.{mark_count}
use Rattle.blk_graph.specs.Clear.{AreStuck}
use Rattle.blk_graph.proofs.ClearLemmas.{AreClear-more, AreStuck-same, marked_small, match_else}
use Rattle.blk_graph.proofs.cycle.clear_more.Goals as goal

pub returns-clause-clear : goal.returns-clause-clear
returns-clause-clear c =
    AreClear-more c.args.edges.now c.args.clear.now c.clear_rest.new.clear c.show_waiting.new.waiting c.requires.clear
    c.show_waiting.ensures c.clear_rest.ensures.cleared c.requires.listed
    (λ node marked. let less = marked_small c.clear_rest.new.clear node marked in omega (arith, less, c.clear_rest.auto.clear, c.requires.room))

pub returns-clause-more : goal.returns-clause-more
returns-clause-more c =
    match_else c.clear_rest.result (mark_count c.args.clear.now < mark_count c.clear_rest.new.clear)
    (c.clear_rest.new.clear ≡ c.args.clear.now) (AreStuck c.args.edges.now c.clear_rest.new.clear)
    (AreStuck-same c.args.edges.now c.args.clear.now c.clear_rest.new.clear c.show_waiting.new.waiting c.requires.clear
    c.show_waiting.ensures c.clear_rest.ensures.cleared c.requires.listed)
    c.clear_rest.ensures.more
