use Rattle.std.proofs.Common.{◌≡◌, ℕ, sym, ◌∙◌, ap, subst, arith, inl, inr}
use Rattle.blk_base.specs.Pieces.{Extent}
use Rattle.blk_base.specs.declared.fault.Outcome.{Outcome}
use Rattle.blk_base.specs.declared.fault.Outcome.TheVariants.{Good}
use Rattle.blk_base.proofs.Contents.{bytes_at-by_place}
use Rattle.blk_nodes.specs.Contents.{disk_of}
use Rattle.blk_nodes.specs.Copying.{AtEach, HasRoomIn, IsBeside, IsMappedAt, LeavesRest, MapsEach, images_met, images_met_in}
use Rattle.blk_nodes.specs.Nodes.{Nodes, AreTold}
use Rattle.blk_nodes.specs.Writing.{MayWriteThrough}
use Rattle.blk_nodes.proofs.MappedDown.{bad_is, leaves_risen, peeked_same, read_stopped_unread, room_for_all}
use Rattle.blk_nodes.proofs.PartsWritten.{good_is}
use Rattle.blk_nodes.proofs.nodes.Nodes.read_piece.Goals as goal

pub returns-then-span-eq0-clause-read : goal.returns-then-span-eq0-clause-read
returns-then-span-eq0-clause-read g c = λ all.
    let empty : c.args.span.len ≡ 0 = sym (ap (λ (s : Extent). s.len) c.span.view_is) ∙ c.if-span-eq0.true in
    bytes_at-by_place (disk_of c.args.self.now c.args.node) c.args.buffer.now c.args.span.start c.args.span.len c.requires.whole (λ k below. absurd (omega (arith, empty, below)))

pub returns-then-not-is_good-2-clause-rest : goal.returns-then-not-is_good-2-clause-rest
returns-then-not-is_good-2-clause-rest g c =
    let old : Nodes = c.args.self.now in
    let read = c.peek_piece-outcome.ensures in
    let outcome : Outcome = c.peek_piece-outcome.result in
    let bad : outcome ≡ Good → ⊥ = bad_is outcome (sym c.is_good-2.ensures ∙ c.if-not-is_good-2.true) in
    subst (λ (n : Nodes). LeavesRest (images_met old c.args.node c.args.span.start) old n outcome) (sym read.kept)
    (leaves_risen old c.peek_piece-outcome.new.self.devices (images_met old c.args.node c.args.span.start) outcome read.devices bad)

pub returns-then-not-is_good-2-clause-went : goal.returns-then-not-is_good-2-clause-went
unfolding images_met
returns-then-not-is_good-2-clause-went g c =
    let old : Nodes = c.args.self.now in
    let read = c.peek_piece-outcome.ensures in
    let outcome : Outcome = c.peek_piece-outcome.result in
    let bad : outcome ≡ Good → ⊥ = bad_is outcome (sym c.is_good-2.ensures ∙ c.if-not-is_good-2.true) in
    let fits : AtEach (HasRoomIn old c.args.span) (images_met_in 64 old c.args.node c.args.span.start)
    = room_for_all old (images_met_in 64 old c.args.node c.args.span.start) c.args.node c.args.span c.room_below-room.result c.room_below-room.ensures
    (good_is c.room_below-room.result (sym c.is_good.ensures ∙ c.if-not-is_good.false)) in
    λ some. inr (record {
      room = fits;
      went = inl (read_stopped_unread old c.peek_piece-outcome.new.self c.args.node c.args.span outcome bad read.outcome (read.source some) read.kept read.devices);
      found = λ good. absurd (bad good);
    })

pub map_below-requires-clause-may : goal.map_below-requires-clause-may
unfolding images_met
map_below-requires-clause-may g c =
    let old : Nodes = c.args.self.now in
    let same = peeked_same old c.peek_piece-outcome.new.self c.args.node c.peek_piece-outcome.result (sym c.is_good-2.ensures ∙ c.if-not-is_good-2.false) c.peek_piece-outcome.ensures.outcome in
    subst (λ (n : Nodes). AtEach (MayWriteThrough n) (images_met_in 64 n c.args.node c.args.span.start)) (sym same) c.requires.may

pub map_below-requires-clause-room : goal.map_below-requires-clause-room
unfolding images_met
map_below-requires-clause-room g c =
    let old : Nodes = c.args.self.now in
    let same = peeked_same old c.peek_piece-outcome.new.self c.args.node c.peek_piece-outcome.result (sym c.is_good-2.ensures ∙ c.if-not-is_good-2.false) c.peek_piece-outcome.ensures.outcome in
    let fits : AtEach (HasRoomIn old c.args.span) (images_met_in 64 old c.args.node c.args.span.start)
    = room_for_all old (images_met_in 64 old c.args.node c.args.span.start) c.args.node c.args.span c.room_below-room.result c.room_below-room.ensures
    (good_is c.room_below-room.result (sym c.is_good.ensures ∙ c.if-not-is_good.false)) in
    subst (λ (n : Nodes). AtEach (HasRoomIn n c.args.span) (images_met_in 64 n c.args.node c.args.span.start)) (sym same) fits

pub returns-clause-went : goal.returns-clause-went
unfolding images_met
returns-clause-went g c =
    let old : Nodes = c.args.self.now in
    let same = peeked_same old c.peek_piece-outcome.new.self c.args.node c.peek_piece-outcome.result (sym c.is_good-2.ensures ∙ c.if-not-is_good-2.false) c.peek_piece-outcome.ensures.outcome in
    let fits : AtEach (HasRoomIn old c.args.span) (images_met_in 64 old c.args.node c.args.span.start)
    = room_for_all old (images_met_in 64 old c.args.node c.args.span.start) c.args.node c.args.span c.room_below-room.result c.room_below-room.ensures
    (good_is c.room_below-room.result (sym c.is_good.ensures ∙ c.if-not-is_good.false)) in
    let maps = subst (λ (n : Nodes). MapsEach (images_met_in 64 n c.args.node c.args.span.start) n c.map_below.new.self c.args.span c.peek_piece-outcome.new.buffer c.map_below.result) same c.map_below.ensures.maps in
    let good = good_is c.peek_piece-outcome.result (sym c.is_good-2.ensures ∙ c.if-not-is_good-2.false) in
    λ some. inr (record { room = fits; went = inr maps; found = λ done. c.peek_piece-outcome.ensures.found some good })

pub returns-clause-mapped : goal.returns-clause-mapped
unfolding images_met
returns-clause-mapped g c =
    let old : Nodes = c.args.self.now in
    let same = peeked_same old c.peek_piece-outcome.new.self c.args.node c.peek_piece-outcome.result (sym c.is_good-2.ensures ∙ c.if-not-is_good-2.false) c.peek_piece-outcome.ensures.outcome in
    λ some all. subst (λ (n : Nodes). AtEach (IsMappedAt c.map_below.new.self c.args.span.start) (images_met_in 64 n c.args.node c.args.span.start)) same (c.map_below.ensures.mapped all)

pub returns-clause-rest : goal.returns-clause-rest
unfolding images_met
returns-clause-rest g c =
    let old : Nodes = c.args.self.now in
    let same = peeked_same old c.peek_piece-outcome.new.self c.args.node c.peek_piece-outcome.result (sym c.is_good-2.ensures ∙ c.if-not-is_good-2.false) c.peek_piece-outcome.ensures.outcome in
    subst (λ (n : Nodes). LeavesRest (images_met_in 64 n c.args.node c.args.span.start) n c.map_below.new.self c.map_below.result) same c.map_below.ensures.rest

pub returns-clause-disks : goal.returns-clause-disks
unfolding images_met
returns-clause-disks g c =
    let old : Nodes = c.args.self.now in
    let same = peeked_same old c.peek_piece-outcome.new.self c.args.node c.peek_piece-outcome.result (sym c.is_good-2.ensures ∙ c.if-not-is_good-2.false) c.peek_piece-outcome.ensures.outcome in
    subst
    (λ (n : Nodes). AreTold n.devices → (other : ℕ) → AtEach (IsBeside n other) (images_met_in 64 n c.args.node c.args.span.start) → disk_of c.map_below.new.self other ≡ disk_of n other)
    same c.map_below.ensures.disks
