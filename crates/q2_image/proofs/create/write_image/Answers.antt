-- The first sector is zeros from the first write up to the last.
use Rattle.std.proofs.Common.{None, Err, replicate, refl}
use Rattle.std.proofs.lemmas.Result.{err_from_is_err_and}
use Rattle.blk_base.specs.Writes.{write_of}
use Rattle.q2_format.specs.Created.{creation_of}
use Rattle.q2_image.specs.Creating.{call_stop}
use Rattle.q2_image.proofs.Stages.{one_stage, stages_then, stages_more, some_stop}
use Rattle.std.proofs.Common.{ℕ, List, Option, inr, arith}
use Rattle.std.specs.Option.{option_copied}
use Rattle.q2_image.proofs.Creations.{changes_both, headless_stays, tables_stay, on_err}
use Rattle.q2_image.proofs.create.write_image.Goals as goal

pub returns-in_err-write_tables-clause-within : goal.returns-in_err-write_tables-clause-within
returns-in_err-write_tables-clause-within g c =
    changes_both _ _ _ _ _ _ _ 0 262144 c.clear_header.ensures.within c.write_tables.ensures.within (omega arith) (omega arith) (omega arith) (omega arith)

pub returns-in_err-put_header-clause-within : goal.returns-in_err-put_header-clause-within
returns-in_err-put_header-clause-within g c =
    let two = changes_both _ _ _ _ _ _ _ 0 262144 c.clear_header.ensures.within c.write_tables.ensures.within (omega arith) (omega arith) (omega arith) (omega arith) in
    changes_both _ _ _ _ _ _ _ 0 262144 two c.put_header.ensures.within (omega arith) (omega arith) (omega arith) (omega arith)

pub returns-clause-within : goal.returns-clause-within
returns-clause-within g c =
    let two = changes_both _ _ _ _ _ _ _ 0 262144 c.clear_header.ensures.within c.write_tables.ensures.within (omega arith) (omega arith) (omega arith) (omega arith) in
    changes_both _ _ _ _ _ _ _ 0 262144 two c.put_header.ensures.within (omega arith) (omega arith) (omega arith) (omega arith)

pub returns-in_err-write_tables-clause-headless : goal.returns-in_err-write_tables-clause-headless
returns-in_err-write_tables-clause-headless g c =
    let t1 = g.D.Device.content c.clear_header.new.dev in
    let t2 = g.D.Device.content c.write_tables.new.dev in
    on_err c.from_residual-in_err-write_tables.result
    (inr (headless_stays t1 t2 65536 262144 (omega arith) c.in_ok-clear_header.ensures.cleared c.write_tables.ensures.within))

pub returns-in_err-put_header-clause-headless : goal.returns-in_err-put_header-clause-headless
returns-in_err-put_header-clause-headless g c =
    let t1 = g.D.Device.content c.clear_header.new.dev in
    let t2 = g.D.Device.content c.write_tables.new.dev in
    let t3 = g.D.Device.content c.put_header.new.dev in
    let lacks = headless_stays t1 t2 65536 262144 (omega arith) c.in_ok-clear_header.ensures.cleared c.write_tables.ensures.within in
    on_err c.from_residual-in_err-put_header.result (inr (headless_stays t2 t3 512 65536 (omega arith) lacks c.in_err-put_header.ensures.sector))

pub returns-clause-created : goal.returns-clause-created
returns-clause-created g c = λ file now.
    let size : ℕ = c.args.size in
    let name : Option (List ℕ) = option_copied c.args.name in
    let format : Option (List ℕ) = option_copied c.args.format in
    let t2 = g.D.Device.content c.write_tables.new.dev in
    let t3 = g.D.Device.content c.put_header.new.dev in
    record {
      header = c.in_ok-put_header.ensures.header file now;
      tables = tables_stay t2 t3 size name format file c.requires.size (λ f told. c.in_ok-write_tables.ensures.tables size name format f c.requires.size told)
          c.put_header.ensures.within now;
    }

pub returns-in_err-clear_header-clause-writes : goal.returns-in_err-clear_header-clause-writes
returns-in_err-clear_header-clause-writes g c =
    let p = err_from_is_err_and c.from_residual.result c.from_residual.ensures.1 in
    let stop = c.in_err-clear_header.field-0.0 in
    let new = creation_of c.args.size (option_copied c.args.name) (option_copied c.args.format) in
    rw (p.1, p.2) (stages_more g.D.Device new 0 1 6 (call_stop {A = Unit {0}} (Err stop)) c.args.dev.now c.clear_header.new.dev (some_stop (Unit {0}) stop)
    (one_stage g.D.Device new 0 (write_of 0 (replicate 512 0)) (call_stop {A = Unit {0}} (Err stop)) c.args.dev.now c.clear_header.new.dev refl c.in_err-clear_header.ensures.writes))

pub returns-in_err-write_tables-clause-writes : goal.returns-in_err-write_tables-clause-writes
returns-in_err-write_tables-clause-writes g c =
    let p = err_from_is_err_and c.from_residual-in_err-write_tables.result c.from_residual-in_err-write_tables.ensures.1 in
    let stop = c.in_err-write_tables.field-0.0 in
    let new = creation_of c.args.size (option_copied c.args.name) (option_copied c.args.format) in
    let first = one_stage g.D.Device new 0 (write_of 0 (replicate 512 0)) None c.args.dev.now c.clear_header.new.dev refl c.in_ok-clear_header.ensures.writes in
    let last = c.in_err-write_tables.ensures.writes c.args.size (option_copied c.args.name) (option_copied c.args.format) c.requires.size in
    rw (p.1, p.2) (stages_more g.D.Device new 0 4 6 (call_stop {A = Unit {0}} (Err stop)) c.args.dev.now c.write_tables.new.dev (some_stop (Unit {0}) stop)
    (stages_then g.D.Device new 0 1 3 1 4 (call_stop {A = Unit {0}} (Err stop)) c.args.dev.now c.clear_header.new.dev c.write_tables.new.dev refl refl first last))

pub returns-in_err-put_header-clause-writes : goal.returns-in_err-put_header-clause-writes
returns-in_err-put_header-clause-writes g c =
    let p = err_from_is_err_and c.from_residual-in_err-put_header.result c.from_residual-in_err-put_header.ensures.1 in
    let stop = c.in_err-put_header.field-0.0 in
    let new = creation_of c.args.size (option_copied c.args.name) (option_copied c.args.format) in
    let first = one_stage g.D.Device new 0 (write_of 0 (replicate 512 0)) None c.args.dev.now c.clear_header.new.dev refl c.in_ok-clear_header.ensures.writes in
    let tables = c.in_ok-write_tables.ensures.writes c.args.size (option_copied c.args.name) (option_copied c.args.format) c.requires.size in
    let four = stages_then g.D.Device new 0 1 3 1 4 None c.args.dev.now c.clear_header.new.dev c.write_tables.new.dev refl refl first tables in
    rw (p.1, p.2) (stages_then g.D.Device new 0 4 2 4 6 (call_stop {A = Unit {0}} (Err stop)) c.args.dev.now c.write_tables.new.dev c.put_header.new.dev refl refl four c.in_err-put_header.ensures.writes)

pub returns-clause-writes : goal.returns-clause-writes
returns-clause-writes g c =
    let new = creation_of c.args.size (option_copied c.args.name) (option_copied c.args.format) in
    let first = one_stage g.D.Device new 0 (write_of 0 (replicate 512 0)) None c.args.dev.now c.clear_header.new.dev refl c.in_ok-clear_header.ensures.writes in
    let tables = c.in_ok-write_tables.ensures.writes c.args.size (option_copied c.args.name) (option_copied c.args.format) c.requires.size in
    let four = stages_then g.D.Device new 0 1 3 1 4 None c.args.dev.now c.clear_header.new.dev c.write_tables.new.dev refl refl first tables in
    stages_then g.D.Device new 0 4 2 4 6 None c.args.dev.now c.write_tables.new.dev c.put_header.new.dev refl refl four c.in_ok-put_header.ensures.writes
