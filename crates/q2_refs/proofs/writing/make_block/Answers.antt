use Rattle.std.proofs.Common.{◌≡◌, ℕ, List, ◌++◌, length, drop, replicate, ap, ◌∙◌}
use Rattle.std.proofs.lemmas.List.{drop-replicate}
use Rattle.byteorder.specs.Endian.{big_bytes}
use Rattle.q2_refs.specs.Allocating.{new_block}
use Rattle.q2_refs.proofs.writing.make_block.Goals as goal

pub returns : goal.returns
unfolding new_block
returns c =
    let filled : c.fill.new.self ≡ replicate (length c.args.block.now) 0 = c.fill.ensures.after (λ y same. same) in
    c.write_u16.ensures ∙ ap (λ (xs : List ℕ). big_bytes 2 1 ++ drop 2 xs) filled
    ∙ ap (λ (xs : List ℕ). big_bytes 2 1 ++ xs) (drop-replicate 2 (length c.args.block.now) 0)
