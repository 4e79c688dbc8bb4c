use Rattle.std.proofs.Common.{◌≡◌, ℕ, true, List, length, sym, ◌∙◌, subst}
use Rattle.blk_base.specs.declared.fault.Outcome.TheVariants.{Good}
use Rattle.blk_copy.specs.Rows.{is_in_flight}
use Rattle.blk_nodes.specs.Contents.{disk_of}
use Rattle.blk_nodes.specs.Nodes.{Nodes, node_size}
use Rattle.block_jobs.specs.Ahead.{IsAhead, is_owed}
use Rattle.block_jobs.specs.Work.{JobWork, after_settle}
use Rattle.job_copies.proofs.Left.{length_is}
use Rattle.job_copies.proofs.Settled.{flies_open, good_of, put_settled, settle_ahead}
use Rattle.job_copies.proofs.settling.settle.Goals as goal

pub returns-in-Ok-clause-ahead : goal.returns-in-Ok-clause-ahead
returns-in-Ok-clause-ahead g c = λ told none due source goal holds ahead.
    let old : Nodes = c.args.nodes.now in
    let work : JobWork = c.args.work.now in
    let block : ℕ = c.args.t.cluster in
    let bytes : List ℕ = c.args.bytes.now in
    let made : List ℕ = disk_of old c.args.target in
    let left : List ℕ = disk_of c.put_sectors.new.nodes c.args.target in
    let flies : is_in_flight c.args.t work.rows ≡ true = sym c.is_in_flight.ensures.flies ∙ c.if-not-is_in_flight.false in
    let good : c.put_sectors.result ≡ Good = good_of c.put_sectors.result c.answer_of.result _ c.answer_of.ensures c.in-Ok.is in
    let put = put_settled work c.args.kind block (node_size old c.args.target) c.settled_sectors-sectors.result bytes made left (c.put_sectors.result ≡ Good)
    c.requires.target c.settled_sectors-sectors.ensures good (c.put_sectors.ensures.disk told) in
    let whole : length made ≡ work.size
    = length_is old c.args.target work.size c.edges.ensures.joined told c.requires.may.row c.requires.may.there c.requires.target in
    let then : IsAhead due (is_owed c.args.kind (after_settle c.args.kind block work)) source goal left
    = settle_ahead work c.law.ensures block source goal made left bytes due whole c.args.kind (flies_open work c.args.t c.requires.own flies) put holds ahead in
    subst (λ (w : JobWork). IsAhead due (is_owed c.args.kind w) source goal left) (sym c.settled.ensures) then
