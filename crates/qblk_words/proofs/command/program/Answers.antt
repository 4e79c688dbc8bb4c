use Rattle.std.proofs.Common.{◌≡◌, ◌∙◌, ap, ap₂}
use Rattle.std.proofs.lemmas.Result.{IfOk-weaker}
use Rattle.clap.specs.Words.{App, with_subcommand}
use Rattle.qblk_words.specs.Forms.{program_app}
use Rattle.qblk_words.proofs.command.program.Goals as goal

pub returns : goal.returns
unfolding program_app
returns c =
    IfOk-weaker c.subcommand-2.result _ _ (λ made h. h.shape c.in_ok-run_form.ensures.local
    ∙ ap₂ with_subcommand (c.in_ok-qblk.ensures.shape c.in_ok-io_form.ensures.local
    ∙ ap₂ with_subcommand c.bare.ensures (ap (λ (a : App). a.top) c.in_ok-io_form.ensures.app)) (ap (λ (a : App). a.top) c.in_ok-run_form.ensures.app))
    c.subcommand-2.ensures
