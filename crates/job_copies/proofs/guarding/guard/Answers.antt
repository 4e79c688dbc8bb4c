use Rattle.std.proofs.Common.{◌≡◌, ℕ, List, length, Some, None, sym, ◌∙◌, ap, subst}
use Rattle.std.specs.Prelude.{IsOk, unwrap_or}
use Rattle.blk_nodes.specs.Contents.{disk_of}
use Rattle.blk_nodes.specs.Nodes.{Nodes, node_size}
use Rattle.block_jobs.specs.Ahead.{IsAhead, is_owed}
use Rattle.block_jobs.specs.Work.{JobWork, after_copy}
use Rattle.qmp_codec.specs.declared.event.JobKind.TheVariants.{Backup}
use Rattle.job_copies.proofs.Left.{is_ok_of, length_is, none_left, paid_free, put_left, stays_ahead}
use Rattle.job_copies.proofs.guarding.guard.Goals as goal

pub returns-in-Ok-clause-ahead : goal.returns-in-Ok-clause-ahead
returns-in-Ok-clause-ahead g c = λ told apart none due goal ahead.
    let old : Nodes = c.args.nodes.now in
    let new : Nodes = c.copy_block.new.nodes in
    let work : JobWork = c.args.work.now in
    let block : ℕ = c.args.block in
    let source : List ℕ = disk_of old c.args.source in
    let made : List ℕ = disk_of old c.args.target in
    let left : List ℕ = disk_of new c.args.target in
    let ok : IsOk c.copy_block.result = is_ok_of c.copy_block.result _ c.in-Ok.is in
    let put = put_left work block (node_size old c.args.target) c.sectors_left-sectors.result source made left (IsOk c.copy_block.result) c.requires.target
    c.sectors_left-sectors.ensures ok (c.copy_block.ensures.disk told) in
    let whole : length made ≡ work.size
    = length_is old c.args.target work.size c.edges.ensures.joined told c.requires.may.row c.requires.may.there c.requires.target in
    let alike : length source ≡ length made = ahead.source_whole ∙ sym ahead.made_whole in
    let then : IsAhead due (is_owed Backup (after_copy block work)) source goal left = stays_ahead work c.law.ensures block source made left whole alike put due goal ahead in
    subst (λ (w : JobWork). IsAhead due (is_owed Backup w) (disk_of new c.args.source) goal left) (sym c.copied.ensures)
    (subst (λ (d : List ℕ). IsAhead due (is_owed Backup (after_copy block work)) d goal left) (sym (c.copy_block.ensures.others c.args.source apart)) then)

pub returns-in-Ok-clause-free : goal.returns-in-Ok-clause-free
returns-in-Ok-clause-free g c = λ none place less at.
    ap (λ (w : JobWork). is_owed Backup w place) c.copied.ensures ∙ paid_free c.args.work.now c.law.ensures c.args.block place at

pub returns-in-Err-clause-ahead : goal.returns-in-Err-clause-ahead
returns-in-Err-clause-ahead g c = λ told apart none due goal ahead.
    let bad : Some (unwrap_or c.args.work.now.met c.in-Err.fault) ≡ None = sym (ap (λ (w : JobWork). w.met) c.fail.ensures) ∙ none in
    absurd (cc bad)

pub returns-in-Err-clause-free : goal.returns-in-Err-clause-free
returns-in-Err-clause-free g c = λ none place less at.
    let bad : Some (unwrap_or c.args.work.now.met c.in-Err.fault) ≡ None = sym (ap (λ (w : JobWork). w.met) c.fail.ensures) ∙ none in
    absurd (cc bad)

pub returns-then-sectors-eq0-clause-free : goal.returns-then-sectors-eq0-clause-free
returns-then-sectors-eq0-clause-free g c = λ none place less at.
    none_left c.args.work.now c.law.ensures c.args.block (sym c.sectors_left-sectors.ensures ∙ c.if-sectors-eq0.true) place less at
