use Rattle.std.proofs.Common.{◌≡◌, ◌+◌, ◌∷◌, ◌++◌, [], List, ℕ, arith, subst, sym, ◌∙◌, ap, drop}
use Rattle.std.specs.Prelude.{map}
use Rattle.std.proofs.lemmas.List.{map-append}
use Rattle.trace_codec.specs.declared.wish.Wish.{Wish}
use Rattle.qblk_words.specs.Words.{Player, texts_in, player_of}
use Rattle.qblk_inputs.specs.Inputs.{IsRefusedTrace, IsTraceFlaw}
use Rattle.qblk_inputs.specs.Reading.{OfFile, OfTraces, OnFile, OnTraces}
use Rattle.qblk_inputs.proofs.Stops.{stops_more, stops_on_more}
use Rattle.qblk_words.proofs.PlayerWords.{players_from, players_none}
use Rattle.qblk_inputs.proofs.TraceLists.{IsAhead, ahead-next, ahead-end, ahead-said, ahead-stops, ahead-fails}
use Rattle.qblk_inputs.proofs.inputs.read_traces.Goals as goal

pub loop-word-preserved : goal.loop-word-preserved
loop-word-preserved g c =
    let files = g.S.Store.files c.args.store.now in
    let players = map player_of (texts_in c.args.players.now) in
    let w = c.word-item.result in
    let done = map (λ t. t.items) c.loop-word.traces.items in
    let invariant = c.loop-word.invariant in
    let P : List Player → Type 0 = λ rest. IsAhead files players c.loop-word.asked rest done in
    let ahead = subst P (players_from c.args.players.now c.loop-word.word-index w (omega arith) c.word-item.is) invariant.ahead in
    let trace : c.player_of.result.1.now ≡ (player_of w.bytes).trace = c.player_of.ensures.trace ∙ ap (λ (bs : List ℕ). (player_of bs).trace) c.as_str.ensures in
    let here = rw (trace, invariant.files) at c.in-Ok.ensures.read in
    let next = ahead-next files players c.loop-word.asked c.read_trace.new.asked (player_of w.bytes) _ done c.in-Ok.wishes.items here c.in-Ok.ensures.said ahead in
    let Q : List (List Wish) → Type 0 = λ ts. IsAhead files players c.read_trace.new.asked (map player_of (texts_in (drop (c.loop-word.word-index + 1) c.args.players.now))) ts in
    let more : map (λ t. t.items) c.push.new.self.items ≡ done ++ c.in-Ok.wishes.items ∷ [] =
    ap (λ ts. map (λ t. t.items) ts) c.in-Ok-push.ensures.items ∙ map-append (λ t. t.items) c.loop-word.traces.items (c.in-Ok.wishes ∷ []) in
    record {
      ahead = subst Q (sym more) next;
      count = omega (arith, c.in-Ok-push.ensures.len, invariant.count);
      files = c.in-Ok.ensures.files ∙ invariant.files;
      opened = c.in-Ok.ensures.opened ∙ invariant.opened;
      room = c.in-Ok.ensures.room ∙ invariant.room;
      last = c.in-Ok.ensures.last ∙ invariant.last;
      quiet = c.in-Ok.ensures.quiet ∙ invariant.quiet;
    }

pub returns-clause-read : goal.returns-clause-read
returns-clause-read g c =
    let files = g.S.Store.files c.args.store.now in
    let players = map player_of (texts_in c.args.players.now) in
    let none = players_none c.args.players.now c.loop-word.word-index (omega arith) in
    let P : List Player → Type 0 = λ rest. IsAhead files players c.loop-word.asked rest (map (λ t. t.items) c.loop-word.traces.items) in
    ahead-end files players c.loop-word.asked _ (subst P none c.loop-word.invariant.ahead)

pub returns-clause-said : goal.returns-clause-said
returns-clause-said g c =
    let files = g.S.Store.files c.args.store.now in
    let players = map player_of (texts_in c.args.players.now) in
    let none = players_none c.args.players.now c.loop-word.word-index (omega arith) in
    let P : List Player → Type 0 = λ rest. IsAhead files players c.loop-word.asked rest (map (λ t. t.items) c.loop-word.traces.items) in
    ahead-said files players c.loop-word.asked _ (subst P none c.loop-word.invariant.ahead)

pub returns-in-Err-clause-stop : goal.returns-in-Err-clause-stop
returns-in-Err-clause-stop g c =
    let files = g.S.Store.files c.args.store.now in
    let players = map player_of (texts_in c.args.players.now) in
    let w = c.word-item.result in
    let invariant = c.loop-word.invariant in
    let rest = map player_of (texts_in (drop (c.loop-word.word-index + 1) c.args.players.now)) in
    let P : List Player → Type 0 = λ left. IsAhead files players c.loop-word.asked left (map (λ t. t.items) c.loop-word.traces.items) in
    let ahead = subst P (players_from c.args.players.now c.loop-word.word-index w (omega arith) c.word-item.is) invariant.ahead in
    let trace : c.player_of.result.1.now ≡ (player_of w.bytes).trace = c.player_of.ensures.trace ∙ ap (λ (bs : List ℕ). (player_of bs).trace) c.as_str.ensures in
    let here = rw (trace, invariant.files, invariant.quiet) at c.in-Err.ensures.stop in
    stops_more (OfFile files (player_of w.bytes).trace (IsTraceFlaw c.loop-word.asked) (IsRefusedTrace c.loop-word.asked)) (OfTraces files players) (g.S.Store.faults c.args.store.now)
    (g.S.Store.faults c.read_trace.new.store) c.in-Err.stop
    (λ name why line bad. ahead-stops files players c.loop-word.asked (player_of w.bytes) rest (map (λ t. t.items) c.loop-word.traces.items) name why line ahead bad) here

pub returns-in-Err-clause-file : goal.returns-in-Err-clause-file
returns-in-Err-clause-file g c =
    let files = g.S.Store.files c.args.store.now in
    let players = map player_of (texts_in c.args.players.now) in
    let w = c.word-item.result in
    let invariant = c.loop-word.invariant in
    let rest = map player_of (texts_in (drop (c.loop-word.word-index + 1) c.args.players.now)) in
    let P : List Player → Type 0 = λ left. IsAhead files players c.loop-word.asked left (map (λ t. t.items) c.loop-word.traces.items) in
    let ahead = subst P (players_from c.args.players.now c.loop-word.word-index w (omega arith) c.word-item.is) invariant.ahead in
    let trace : c.player_of.result.1.now ≡ (player_of w.bytes).trace = c.player_of.ensures.trace ∙ ap (λ (bs : List ℕ). (player_of bs).trace) c.as_str.ensures in
    let here = rw (trace, invariant.files, invariant.last) at c.in-Err.ensures.file in
    stops_on_more (OnFile files (player_of w.bytes).trace) (OnTraces files players) (g.S.Store.failed_call c.args.store.now)
    (g.S.Store.failed_call c.read_trace.new.store) c.in-Err.stop
    (λ name bad. ahead-fails files players c.loop-word.asked (player_of w.bytes) rest (map (λ t. t.items) c.loop-word.traces.items) name ahead bad) here
