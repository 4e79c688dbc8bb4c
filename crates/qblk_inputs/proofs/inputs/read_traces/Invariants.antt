use Rattle.std.proofs.Common.{◌≡◌, drop, vec_len}
use Rattle.std.specs.Prelude.{map}
use Rattle.qblk_words.specs.Words.{texts_in, player_of}
use Rattle.qblk_inputs.proofs.TraceLists.{IsAhead}
use Rattle.qblk_inputs.proofs.inputs.read_traces.Given as goal

abbrev pub invariant-loop-word : goal.invariant-loop-word
invariant-loop-word g l = record {
  ahead : IsAhead (g.S.Store.files l.initial.store) (map player_of (texts_in l.players)) l.asked
      (map player_of (texts_in (drop l.word-index l.players))) (map (λ t. t.items) l.traces.items);
  count : vec_len l.traces ≡ l.word-index;
  files : g.S.Store.files l.store ≡ g.S.Store.files l.initial.store;
  opened : g.S.Store.opened l.store ≡ g.S.Store.opened l.initial.store;
  room : g.S.Store.room l.store ≡ g.S.Store.room l.initial.store;
  last : g.S.Store.failed_call l.store ≡ g.S.Store.failed_call l.initial.store;
  quiet : g.S.Store.faults l.store ≡ g.S.Store.faults l.initial.store;
}
