use Rattle.std.proofs.Common.{◌≡◌, ℕ, Bool, false, List, sym, ◌∙◌, ap, subst, Some}
use Rattle.std.specs.Prelude.{◌||◌}
use Rattle.std.specs.List.{list_any}
use Rattle.std.proofs.lemmas.List.Folds.{list_any-append}
use Rattle.qmp_rules.specs.Table.{RunTable}
use Rattle.flat_machine.specs.Marks.{Drained, holds_disk, is_on, job_disks}
use Rattle.world_parts.proofs.drained.Drained.holds.Goals as goal

pub returns-else-is_on_one : goal.returns-else-is_on_one
returns-else-is_on_one c =
    let t : RunTable = c.args.names.now.table in
    let disks : List ℕ = c.self.inside.disks.items in
    let sources : List ℕ = job_disks t c.self.inside.jobs.items in
    let none : list_any (is_on t c.args.node) disks ≡ false = cc in
    let one : c.is_source_of_one.result ≡ list_any (is_on t c.args.node) sources = cc in
    subst (λ (drains : Drained). c.is_source_of_one.result ≡ holds_disk t drains (Some c.args.node)) c.self.view_is
    (one ∙ ap (λ (b : Bool). b || list_any (is_on t c.args.node) sources) (sym none)
    ∙ sym (list_any-append (is_on t c.args.node) disks sources))
