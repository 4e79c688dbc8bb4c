use Rattle.std.proofs.Common.{ℕ, ◌-◌, ◌∙◌, ap, List, length, drop, get_or, arith, length-drop}
use Rattle.std.proofs.lemmas.List.{get_or-drop, take_all}
use Rattle.q2_image.proofs.create.behind_first_sector.Goals as goal

pub returns-clause-bytes : goal.returns-clause-bytes
returns-clause-bytes c i =
    let all = take_all (length c.args.cluster.now - 512) (drop 512 c.args.cluster.now) (omega (arith, length-drop 512 c.args.cluster.now)) in
    ap (λ (bytes : List ℕ). get_or bytes i 0) all ∙ get_or-drop 512 c.args.cluster.now i 0

pub returns-clause-part : goal.returns-clause-part
returns-clause-part c = take_all (length c.args.cluster.now - 512) (drop 512 c.args.cluster.now) (omega (arith, length-drop 512 c.args.cluster.now))
