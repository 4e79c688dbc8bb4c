-- The first sector was written behind the rest of its cluster.
use Rattle.std.proofs.Common.{◌≡◌, ℕ, Bool, false, List, None, Err, option_map, ap, refl, ◌∙◌}
use Rattle.std.proofs.lemmas.Result.{err_from_is_err_and}
use Rattle.std.specs.Option.{option_copied}
use Rattle.blk_base.specs.Writes.{write_of}
use Rattle.q2_format.specs.Created.{creation_of}
use Rattle.q2_image.specs.Creating.{IsStage, call_stop}
use Rattle.q2_image.proofs.Stages.{false_twice, one_stage, stages_then, stages_more, some_stop}
use Rattle.std.proofs.Common.{◌+◌, length, arith}
use Rattle.q2_format.proofs.Placed.{header_alike}
use Rattle.q2_image.specs.Creating.{ChangesWithin}
use Rattle.q2_image.proofs.Creations.{changes_more, changes_both, cluster_put}
use Rattle.q2_image.proofs.create.put_header.Goals as goal

pub returns-clause-within : goal.returns-clause-within
returns-clause-within g c = changes_both _ _ _ _ _ _ _ 0 65536 c.write.ensures.within c.write-2.ensures.within (omega arith) (omega arith) (omega arith) (omega arith)

pub returns-clause-header : goal.returns-clause-header
returns-clause-header g c = λ file now.
    let t1 = g.D.Device.content c.write.new.dev in
    let t2 = g.D.Device.content c.write-2.new.dev in
    let cluster = c.write_header.new.out in
    let sector = c.first_sector.result.now in
    let rest = c.behind_first_sector.result.now in
    let change : ChangesWithin t1 t2 0 512 = changes_more t1 t2 0 (0 + length sector) 0 512 (omega arith) (omega arith) c.write-2.ensures.within in
    let alike = cluster_put t1 t2 cluster sector rest file c.first_sector.ensures.whole c.behind_first_sector.ensures.whole
    c.first_sector.ensures.bytes c.behind_first_sector.ensures.bytes c.in_ok-write.ensures.holds c.in_ok-write-2.ensures.holds change now in
    header_alike c.args.size c.args.name c.args.format cluster file c.requires.name c.requires.format c.write_header.ensures.header alike

pub returns-in_err-write-clause-writes : goal.returns-in_err-write-clause-writes
returns-in_err-write-clause-writes g c =
    let p = err_from_is_err_and c.from_residual.result c.from_residual.ensures.1 in
    let stop = c.in_err-write.field-0.0 in
    let new = creation_of c.args.size (option_copied c.args.name) (option_copied c.args.format) in
    let cluster : List ℕ = c.write_header.new.out in
    let whole : length cluster ≡ 65536 = omega arith in
    let rest_is : IsStage new 4 (write_of 512 c.behind_first_sector.result.now) =
    record { cluster = cluster; whole = whole; header = c.write_header.ensures.header; is = ap (write_of 512) c.behind_first_sector.ensures.part } in
    rw (p.1, p.2) (stages_more g.D.Device new 4 1 2 (call_stop {A = Unit {0}} (Err stop)) c.args.dev.now c.write.new.dev (some_stop (Unit {0}) stop)
    (one_stage g.D.Device new 4 (write_of 512 c.behind_first_sector.result.now) (call_stop {A = Unit {0}} (Err stop)) c.args.dev.now c.write.new.dev rest_is c.in_err-write.ensures.writes))

pub returns-in_err-write-2-clause-writes : goal.returns-in_err-write-2-clause-writes
returns-in_err-write-2-clause-writes g c =
    let p = err_from_is_err_and c.from_residual-in_err-write-2.result c.from_residual-in_err-write-2.ensures.1 in
    let stop = c.in_err-write-2.field-0.0 in
    let new = creation_of c.args.size (option_copied c.args.name) (option_copied c.args.format) in
    let cluster : List ℕ = c.write_header.new.out in
    let whole : length cluster ≡ 65536 = omega arith in
    let rest_is : IsStage new 4 (write_of 512 c.behind_first_sector.result.now) =
    record { cluster = cluster; whole = whole; header = c.write_header.ensures.header; is = ap (write_of 512) c.behind_first_sector.ensures.part } in
    let head_is : IsStage new 5 (write_of 0 c.first_sector.result.now) =
    record { cluster = cluster; whole = whole; header = c.write_header.ensures.header; is = ap (write_of 0) c.first_sector.ensures.part } in
    let first = one_stage g.D.Device new 4 (write_of 512 c.behind_first_sector.result.now) None c.args.dev.now c.write.new.dev rest_is c.in_ok-write.ensures.writes in
    let last = one_stage g.D.Device new 5 (write_of 0 c.first_sector.result.now) (call_stop {A = Unit {0}} (Err stop)) c.write.new.dev c.write-2.new.dev head_is c.in_err-write-2.ensures.writes in
    rw (p.1, p.2) (stages_then g.D.Device new 4 1 1 5 2 (call_stop {A = Unit {0}} (Err stop)) c.args.dev.now c.write.new.dev c.write-2.new.dev refl refl first last)

pub returns-clause-writes : goal.returns-clause-writes
returns-clause-writes g c =
    let new = creation_of c.args.size (option_copied c.args.name) (option_copied c.args.format) in
    let cluster : List ℕ = c.write_header.new.out in
    let whole : length cluster ≡ 65536 = omega arith in
    let rest_is : IsStage new 4 (write_of 512 c.behind_first_sector.result.now) =
    record { cluster = cluster; whole = whole; header = c.write_header.ensures.header; is = ap (write_of 512) c.behind_first_sector.ensures.part } in
    let head_is : IsStage new 5 (write_of 0 c.first_sector.result.now) =
    record { cluster = cluster; whole = whole; header = c.write_header.ensures.header; is = ap (write_of 0) c.first_sector.ensures.part } in
    let first = one_stage g.D.Device new 4 (write_of 512 c.behind_first_sector.result.now) None c.args.dev.now c.write.new.dev rest_is c.in_ok-write.ensures.writes in
    let last = one_stage g.D.Device new 5 (write_of 0 c.first_sector.result.now) None c.write.new.dev c.write-2.new.dev head_is c.in_ok-write-2.ensures.writes in
    stages_then g.D.Device new 4 1 1 5 2 None c.args.dev.now c.write.new.dev c.write-2.new.dev refl refl first last

pub returns-clause-flushed : goal.returns-clause-flushed
returns-clause-flushed g c =
    c.write-2.ensures.flushed ∙ ap (option_map (λ (flushed : Bool). false)) c.write.ensures.flushed ∙ false_twice (g.D.Device.is_flushed c.args.dev.now)
