use Rattle.std.proofs.Common.{◌≡◌, List, ℕ, subst, sym}
use Rattle.std.specs.Prelude.{All}
use Rattle.std.proofs.lemmas.List.{take_rest}
use Rattle.std.proofs.lemmas.List.Elements.{All-drop}
use Rattle.blk_runs.proofs.LaneLemmas.{all-zero}
use Rattle.blk_runs.proofs.lanes.is_zero.Goals as goal

pub returns : goal.returns
returns c =
    let rest = take_rest c.args.bytes.now c.loop-at.at in
    let P : List ℕ → Type 0 = λ bytes. All (λ b. b ≡ 0) bytes in (
      (λ yes. all-zero c.args.bytes.now c.loop-at.at c.loop-at.invariant.within c.loop-at.invariant.zeros (subst P rest (c.are_plainly_zero.ensures.0 yes))),
      (λ all. c.are_plainly_zero.ensures.1 (subst P (sym rest) (All-drop (λ b. b ≡ 0) c.loop-at.at c.args.bytes.now all))),
    )
