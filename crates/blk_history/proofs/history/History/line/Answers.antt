use Rattle.std.proofs.Common.{◌<◌, ◌≤◌, length, map, ap, arith, IsOk, OnOk}
use Rattle.std.proofs.lemmas.List.{length-map}
use Rattle.blk_history.specs.declared.event.Event.{Event}
use Rattle.blk_history.specs.Recorded.{Recorded, event_of}
use Rattle.blk_history.specs.Transcript.{entry_line}
use Rattle.blk_history.specs.Line.{At, IsActorNamed, line_room, Appends}
use Rattle.blk_history.proofs.Points.{points-at, of_event, at_event}
use Rattle.blk_history.proofs.history.History.line.Goals as goal

pub write_line-requires-clause-within : goal.write_line-requires-clause-within
write_line-requires-clause-within c =
    let es = c.self.inside.entries.items in
    let below : c.args.at < length es = omega (arith, ap (λ (v : Recorded). length v.events) c.self.view_is, length-map es (event_of c.self.inside.bytes.items)) in
    rw c.deref.ensures.value (points-at (length c.self.inside.bytes.items) es c.args.at c.index.result.now c.self.invariant.2 below c.index.ensures)

pub write_line-requires-clause-named : goal.write_line-requires-clause-named
write_line-requires-clause-named c =
    let es = c.self.inside.entries.items in
    let events = ap (λ (v : Recorded). v.events) c.self.view_is in
    let below : c.args.at < length es = omega (arith, ap length events, length-map es (event_of c.self.inside.bytes.items)) in
    let named : At (map (event_of c.self.inside.bytes.items) es) c.args.at (IsActorNamed c.args.names.now) = rw events c.requires.named in
    rw c.deref.ensures.value (of_event (IsActorNamed c.args.names.now) c.self.inside.bytes.items es c.args.at c.index.result.now below c.index.ensures named)

pub returns-clause-ok : goal.returns-clause-ok
returns-clause-ok c =
    let es = c.self.inside.entries.items in
    let bytes = c.self.inside.bytes.items in
    let events = ap (λ (v : Recorded). v.events) c.self.view_is in
    let below : c.args.at < length es = omega (arith, ap length events, length-map es (event_of bytes)) in
    let P : Event → Type 0 = λ e. OnOk c.write_line.result (Appends c.args.out.now c.write_line.new.out (entry_line c.args.names.now e) (line_room c.args.names.now e)) in
    let here : P (event_of bytes c.index.result.now) = rw c.deref.ensures.value at c.write_line.ensures.ok in
    rw (← events) (at_event P bytes es c.args.at c.index.result.now below c.index.ensures here)

pub returns-clause-room : goal.returns-clause-room
returns-clause-room c =
    let es = c.self.inside.entries.items in
    let bytes = c.self.inside.bytes.items in
    let events = ap (λ (v : Recorded). v.events) c.self.view_is in
    let below : c.args.at < length es = omega (arith, ap length events, length-map es (event_of bytes)) in
    let P : Event → Type 0 = λ e. line_room c.args.names.now e ≤ c.args.out.now.spare → IsOk c.write_line.result in
    let here : P (event_of bytes c.index.result.now) = rw c.deref.ensures.value at c.write_line.ensures.room in
    rw (← events) (at_event P bytes es c.args.at c.index.result.now below c.index.ensures here)
