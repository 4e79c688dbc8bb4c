use Rattle.std.proofs.Common.{length, Err, sym, ap, ◌∙◌}
use Rattle.std.proofs.lemmas.Result.{err_from_is_err_and}
use Rattle.blk_base.proofs.DeviceLemmas.{untouched-same}
use Rattle.q2_tables.proofs.Loads.{refused_quietly}
use Rattle.q2_tables.proofs.Trees.{names_l1, refused_table, stopped_reading, refused_l1}
use Rattle.q2_tables.proofs.load.load_l1.Goals as goal

pub returns-in_err-check_l1_table-clause-refused : goal.returns-in_err-check_l1_table-clause-refused
returns-in_err-check_l1_table-clause-refused g c =
    let p = err_from_is_err_and c.from_residual.result c.from_residual.ensures.1 in
    λ size. rw (p.1, p.2) (refused_table (g.D.Device.content c.args.dev.now) c.args.h.now c.args.len
    (λ file told. size ∙ g.met.D.Device.told_size c.args.dev.now file told) c.in_err-check_l1_table.field-0.0 (sym c.in_err-check_l1_table.ensures.refused))

pub returns-in_err-l1-clause-refused : goal.returns-in_err-l1-clause-refused
returns-in_err-l1-clause-refused g c =
    let p = err_from_is_err_and c.from_residual-in_err-l1.result c.from_residual-in_err-l1.ensures.1 in
    λ size. rw (p.1, p.2) (stopped_reading (g.D.Device.content c.args.dev.now) c.args.h.now c.args.len
    (λ file told. size ∙ g.met.D.Device.told_size c.args.dev.now file told) c.in_err-l1.field-0.0 c.in_err-l1.ensures.stop)

pub returns-in_err-check_l2_tables-clause-refused : goal.returns-in_err-check_l2_tables-clause-refused
returns-in_err-check_l2_tables-clause-refused g c =
    let p = err_from_is_err_and c.from_residual-in_err-check_l2_tables.result c.from_residual-in_err-check_l2_tables.ensures.1 in
    λ size. rw (p.1, p.2) (refused_l1 (g.D.Device.content c.args.dev.now) c.args.h.now c.args.len
    (λ file told. size ∙ g.met.D.Device.told_size c.args.dev.now file told) c.args.c c.as_slice.result.now c.in_err-check_l2_tables.field-0.0
    c.requires.size (ap length c.as_slice.ensures.value ∙ c.in_ok-l1.ensures.len) (λ file told. c.as_slice.ensures.value ∙ c.in_ok-l1.ensures.told file told)
    (rw (size, c.as_slice.ensures.value) c.in_ok-l1.ensures.stands)
    (sym c.in_ok-check_l1_table.ensures.refused) (sym c.in_err-check_l2_tables.ensures.refused))

pub returns-in_err-check_l1_table-clause-judged : goal.returns-in_err-check_l1_table-clause-judged
returns-in_err-check_l1_table-clause-judged g c =
    let p = err_from_is_err_and c.from_residual.result c.from_residual.ensures.1 in
    λ off bad. p.1 ∙ ap Err (p.2 ∙ names_l1 c.args.h.now c.args.len c.in_err-check_l1_table.field-0.0 off c.in_err-check_l1_table.ensures.refused bad)

pub returns-in_err-check_l1_table-clause-device : goal.returns-in_err-check_l1_table-clause-device
returns-in_err-check_l1_table-clause-device g c =
    let p = err_from_is_err_and c.from_residual.result c.from_residual.ensures.1 in
    refused_quietly g.D.Device p.0 c.in_err-check_l1_table.field-0.0 c.from_residual.result p.1 p.2 c.args.dev.now c.args.dev.now
    c.in_err-check_l1_table.ensures.stop (untouched-same g.D.Device c.args.dev.now)

pub returns-in_err-check_l2_tables-clause-device : goal.returns-in_err-check_l2_tables-clause-device
returns-in_err-check_l2_tables-clause-device g c =
    let p = err_from_is_err_and c.from_residual-in_err-check_l2_tables.result c.from_residual-in_err-check_l2_tables.ensures.1 in
    refused_quietly g.D.Device p.0 c.in_err-check_l2_tables.field-0.0 c.from_residual-in_err-check_l2_tables.result p.1 p.2 c.args.dev.now c.read_l1.new.dev
    c.in_err-check_l2_tables.ensures.stop c.in_ok-l1.ensures.device
