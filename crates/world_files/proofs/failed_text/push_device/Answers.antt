use Rattle.std.proofs.Common.{◌≡◌, ℕ, List, [], ◌∷◌, ◌++◌, ◌∙◌, sym, ap, append_assoc}
use Rattle.std.specs.Prelude.{codes, decimal}
use Rattle.world_files.proofs.failed_text.push_device.Goals as goal

joined : (out a b : List ℕ) → (out ++ (codes "io dev" ++ a)) ++ (32 ∷ b) ≡ out ++
    (codes "io dev" ++ a ++ codes " " ++ b)
joined out a b = append_assoc out (codes "io dev" ++ a) (32 ∷ b) ∙ ap (λ bytes. out ++ (codes "io dev" ++ bytes))
    (sym (append_assoc a (32 ∷ []) b))

pub returns-clause-bytes : goal.returns-clause-bytes
returns-clause-bytes c =
    rw (c.push_words-2.ensures.bytes, c.push_words.ensures.bytes, c.from.ensures)
    (joined c.args.out.now.bytes (decimal c.args.dev.0) (decimal c.args.count))
