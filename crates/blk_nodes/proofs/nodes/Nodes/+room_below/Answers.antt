use Rattle.std.proofs.Common.{◌≡◌, ℕ, suc, ◌-◌, true, false, sym, ◌∙◌, ap, subst, arith, inl, inr}
use Rattle.std.specs.Prelude.{◌⊎◌}
use Rattle.blk_base.specs.Pieces.{Extent}
use Rattle.blk_base.specs.declared.fault.Outcome.TheVariants.{Good}
use Rattle.blk_nodes.specs.Copying.{AtEach, HasRoomIn, puts_below}
use Rattle.blk_nodes.specs.Nodes.{Nodes, row_at}
use Rattle.blk_nodes.specs.Sources.{step_of}
use Rattle.blk_nodes.specs.declared.source.Step.TheVariants.{Found, Below}
use Rattle.blk_nodes.proofs.Copied.{met_found}
use Rattle.blk_nodes.proofs.MappedDown.{bad_is, room_all, room_here}
use Rattle.blk_nodes.proofs.PartsWritten.{good_is}
use Rattle.blk_nodes.proofs.nodes.Nodes.+room_below.Goals as goal
use Rattle.blk_nodes.proofs.nodes.Nodes.+room_below.Goals.{then-not-is_good-via-then-not-is_good, then-not-is_good-via-else-not-is_good+then-not-puts_below}

pub returns-in_default : goal.returns-in_default
returns-in_default g t c =
    let nodes : Nodes = c.args.self.now in
    let start : c.span.inside.start ≡ c.args.span.start = ap (λ (s : Extent). s.start) c.span.view_is in
    let ends : step_of nodes c.args.node c.args.span.start ≡ Found c.in_default.field-0
    = ap (λ (k : ℕ). step_of nodes c.args.node k) (sym start) ∙ sym c.in_default.ensures.step in
    subst (AtEach (HasRoomIn nodes c.args.span)) (sym (met_found nodes c.args.span.start c.args.turns c.args.node c.in_default.field-0 ends)) tt

pub returns-then-not-is_good : goal.returns-then-not-is_good
returns-then-not-is_good g t c =
    let nodes : Nodes = c.args.self.now in
    let start : c.span.inside.start ≡ c.args.span.start = ap (λ (s : Extent). s.start) c.span.view_is in
    let start-2 : c.span-2.inside.start ≡ c.args.span.start = ap (λ (s : Extent). s.start) c.span-2.view_is in
    let goes : step_of nodes c.args.node c.args.span.start ≡ Below c.in-Below.next
    = ap (λ (k : ℕ). step_of nodes c.args.node k) (sym start) ∙ sym c.in-Below.ensures.step in
    let one : c.args.turns ≡ suc (c.args.turns - 1) = omega (arith, c.if-turns-eq0.false) in
    let stops : (c.room_below-room.result ≡ Good → ⊥) ⊎ (puts_below (row_at nodes c.args.node) (row_at nodes c.in-Below.next) c.args.span.start ≡ false)
    = elim c.then-not-is_good.branch [
      | then-not-is_good-via-then-not-is_good w ↦ inl (bad_is c.room_below-room.result (sym c.is_good.ensures ∙ w.if-not-is_good.true))
      | then-not-is_good-via-else-not-is_good+then-not-puts_below w ↦
          inr (ap (λ (k : ℕ). puts_below (row_at nodes c.args.node) (row_at nodes c.in-Below.next) k) (sym start-2) ∙ sym w.puts_below.ensures ∙ w.if-not-puts_below.true)
    ] in
    room_all nodes c.edges.ensures.joined c.args.turns (c.args.turns - 1) c.args.node c.in-Below.next c.args.span one goes c.room_below-room.result c.room_below-room.ensures stops

pub returns : goal.returns
returns g t c =
    let nodes : Nodes = c.args.self.now in
    let start : c.span.inside.start ≡ c.args.span.start = ap (λ (s : Extent). s.start) c.span.view_is in
    let start-2 : c.span-2.inside.start ≡ c.args.span.start = ap (λ (s : Extent). s.start) c.span-2.view_is in
    let goes : step_of nodes c.args.node c.args.span.start ≡ Below c.in-Below.next
    = ap (λ (k : ℕ). step_of nodes c.args.node k) (sym start) ∙ sym c.in-Below.ensures.step in
    let one : c.args.turns ≡ suc (c.args.turns - 1) = omega (arith, c.if-turns-eq0.false) in
    let puts : puts_below (row_at nodes c.args.node) (row_at nodes c.in-Below.next) c.args.span.start ≡ true
    = ap (λ (k : ℕ). puts_below (row_at nodes c.args.node) (row_at nodes c.in-Below.next) k) (sym start-2) ∙ sym c.puts_below.ensures ∙ c.if-not-puts_below.false in
    room_here nodes c.edges.ensures.joined c.args.turns (c.args.turns - 1) c.args.node c.in-Below.next c.args.span one goes c.room_below-room.result c.room_in.result
    (good_is c.room_below-room.result (sym c.is_good.ensures ∙ c.if-not-is_good.false)) puts c.room_below-room.ensures c.room_in.ensures
