-- Three clusters were written, one behind the other.
use Rattle.std.proofs.Common.{ℕ, List, None, Err, ap, refl}
use Rattle.std.proofs.lemmas.Result.{err_from_is_err_and}
use Rattle.blk_base.specs.Writes.{write_of}
use Rattle.q2_format.specs.Created.{creation_of}
use Rattle.q2_image.specs.Creating.{IsStage, call_stop}
use Rattle.q2_image.proofs.Stages.{zeros_are, one_stage, stages_then, stages_more, some_stop}
use Rattle.std.proofs.Common.{◌≡◌, ◌+◌, length, arith}
use Rattle.q2_image.specs.Creating.{ChangesWithin}
use Rattle.q2_image.proofs.Creations.{changes_more, changes_both, tables_made}
use Rattle.q2_image.proofs.create.write_tables.Goals as goal

pub returns-in_err-write-2-clause-within : goal.returns-in_err-write-2-clause-within
returns-in_err-write-2-clause-within g c = changes_both _ _ _ _ _ _ _ 65536 262144 c.write.ensures.within c.write-2.ensures.within (omega arith) (omega arith) (omega arith) (omega arith)

pub returns-in_err-write-3-clause-within : goal.returns-in_err-write-3-clause-within
returns-in_err-write-3-clause-within g c =
    let two = changes_both _ _ _ _ _ _ _ 65536 262144 c.write.ensures.within c.write-2.ensures.within (omega arith) (omega arith) (omega arith) (omega arith) in
    changes_both _ _ _ _ _ _ _ 65536 262144 two c.write-3.ensures.within (omega arith) (omega arith) (omega arith) (omega arith)

pub returns-clause-within : goal.returns-clause-within
returns-clause-within g c =
    let two = changes_both _ _ _ _ _ _ _ 65536 262144 c.write.ensures.within c.write-2.ensures.within (omega arith) (omega arith) (omega arith) (omega arith) in
    changes_both _ _ _ _ _ _ _ 65536 262144 two c.write-3.ensures.within (omega arith) (omega arith) (omega arith) (omega arith)

pub returns-clause-tables : goal.returns-clause-tables
returns-clause-tables g c = λ size name format file small now.
    let D = g.D.Device.content in
    let t1 = D c.write.new.dev in
    let t2 = D c.write-2.new.dev in
    let t3 = D c.write-3.new.dev in
    let zeros = c.clear.new.buffer in
    let block = c.write_refcount_block.new.out in
    let table = c.write_refcount_table.new.out in
    let len_zeros : length zeros ≡ 65536 = omega arith in
    let len_block : length block ≡ 65536 = omega arith in
    let len_table : length table ≡ 65536 = omega arith in
    let change2 : ChangesWithin t1 t2 131072 196608 = changes_more t1 t2 131072 (131072 + length block) 131072 196608 (omega arith) (omega arith) c.write-2.ensures.within in
    let change3 : ChangesWithin t2 t3 65536 131072 = changes_more t2 t3 65536 (65536 + length table) 65536 131072 (omega arith) (omega arith) c.write-3.ensures.within in
    tables_made t1 t2 t3 zeros block table file size name format small len_zeros len_block len_table c.clear.ensures
    (c.write_refcount_block.ensures size name format small) (c.write_refcount_table.ensures size name format small)
    c.in_ok-write.ensures.holds c.in_ok-write-2.ensures.holds c.in_ok-write-3.ensures.holds change2 change3 now

pub returns-in_err-write-clause-writes : goal.returns-in_err-write-clause-writes
returns-in_err-write-clause-writes g c =
    let p = err_from_is_err_and c.from_residual.result c.from_residual.ensures.1 in
    let stop = c.in_err-write.field-0.0 in
    rw (p.1, p.2) (λ size name format small.
    let new = creation_of size name format in
    let zeros : List ℕ = c.clear.new.buffer in
    let whole : length zeros ≡ 65536 = omega arith in
    let first_is : IsStage new 1 (write_of 196608 zeros) = ap (write_of 196608) (zeros_are 65536 zeros whole (λ i below. c.clear.ensures i)) in
    stages_more g.D.Device new 1 1 3 (call_stop {A = Unit {0}} (Err stop)) c.args.dev.now c.write.new.dev (some_stop (Unit {0}) stop)
    (one_stage g.D.Device new 1 (write_of 196608 zeros) (call_stop {A = Unit {0}} (Err stop)) c.args.dev.now c.write.new.dev first_is c.in_err-write.ensures.writes))

pub returns-in_err-write-2-clause-writes : goal.returns-in_err-write-2-clause-writes
returns-in_err-write-2-clause-writes g c =
    let p = err_from_is_err_and c.from_residual-in_err-write-2.result c.from_residual-in_err-write-2.ensures.1 in
    let stop = c.in_err-write-2.field-0.0 in
    rw (p.1, p.2) (λ size name format small.
    let new = creation_of size name format in
    let zeros : List ℕ = c.clear.new.buffer in
    let whole : length zeros ≡ 65536 = omega arith in
    let first_is : IsStage new 1 (write_of 196608 zeros) = ap (write_of 196608) (zeros_are 65536 zeros whole (λ i below. c.clear.ensures i)) in
    let block : List ℕ = c.write_refcount_block.new.out in
    let block_whole : length block ≡ 65536 = omega arith in
    let block_is : IsStage new 2 (write_of 131072 block) = (record { offset = refl; whole = block_whole }, c.write_refcount_block.ensures size name format small) in
    let first = one_stage g.D.Device new 1 (write_of 196608 zeros) None c.args.dev.now c.write.new.dev first_is c.in_ok-write.ensures.writes in
    let last = one_stage g.D.Device new 2 (write_of 131072 block) (call_stop {A = Unit {0}} (Err stop)) c.write.new.dev c.write-2.new.dev block_is c.in_err-write-2.ensures.writes in
    stages_more g.D.Device new 1 2 3 (call_stop {A = Unit {0}} (Err stop)) c.args.dev.now c.write-2.new.dev (some_stop (Unit {0}) stop)
    (stages_then g.D.Device new 1 1 1 2 2 (call_stop {A = Unit {0}} (Err stop)) c.args.dev.now c.write.new.dev c.write-2.new.dev refl refl first last))

pub returns-in_err-write-3-clause-writes : goal.returns-in_err-write-3-clause-writes
returns-in_err-write-3-clause-writes g c =
    let p = err_from_is_err_and c.from_residual-in_err-write-3.result c.from_residual-in_err-write-3.ensures.1 in
    let stop = c.in_err-write-3.field-0.0 in
    rw (p.1, p.2) (λ size name format small.
    let new = creation_of size name format in
    let zeros : List ℕ = c.clear.new.buffer in
    let whole : length zeros ≡ 65536 = omega arith in
    let first_is : IsStage new 1 (write_of 196608 zeros) = ap (write_of 196608) (zeros_are 65536 zeros whole (λ i below. c.clear.ensures i)) in
    let block : List ℕ = c.write_refcount_block.new.out in
    let block_whole : length block ≡ 65536 = omega arith in
    let block_is : IsStage new 2 (write_of 131072 block) = (record { offset = refl; whole = block_whole }, c.write_refcount_block.ensures size name format small) in
    let first = one_stage g.D.Device new 1 (write_of 196608 zeros) None c.args.dev.now c.write.new.dev first_is c.in_ok-write.ensures.writes in
    let table : List ℕ = c.write_refcount_table.new.out in
    let table_whole : length table ≡ 65536 = omega arith in
    let table_is : IsStage new 3 (write_of 65536 table) = (record { offset = refl; whole = table_whole }, c.write_refcount_table.ensures size name format small) in
    let second = one_stage g.D.Device new 2 (write_of 131072 block) None c.write.new.dev c.write-2.new.dev block_is c.in_ok-write-2.ensures.writes in
    let two = stages_then g.D.Device new 1 1 1 2 2 None c.args.dev.now c.write.new.dev c.write-2.new.dev refl refl first second in
    let last = one_stage g.D.Device new 3 (write_of 65536 table) (call_stop {A = Unit {0}} (Err stop)) c.write-2.new.dev c.write-3.new.dev table_is c.in_err-write-3.ensures.writes in
    stages_then g.D.Device new 1 2 1 3 3 (call_stop {A = Unit {0}} (Err stop)) c.args.dev.now c.write-2.new.dev c.write-3.new.dev refl refl two last)

pub returns-clause-writes : goal.returns-clause-writes
returns-clause-writes g c = λ size name format small.
    let new = creation_of size name format in
    let zeros : List ℕ = c.clear.new.buffer in
    let whole : length zeros ≡ 65536 = omega arith in
    let first_is : IsStage new 1 (write_of 196608 zeros) = ap (write_of 196608) (zeros_are 65536 zeros whole (λ i below. c.clear.ensures i)) in
    let block : List ℕ = c.write_refcount_block.new.out in
    let block_whole : length block ≡ 65536 = omega arith in
    let block_is : IsStage new 2 (write_of 131072 block) = (record { offset = refl; whole = block_whole }, c.write_refcount_block.ensures size name format small) in
    let first = one_stage g.D.Device new 1 (write_of 196608 zeros) None c.args.dev.now c.write.new.dev first_is c.in_ok-write.ensures.writes in
    let table : List ℕ = c.write_refcount_table.new.out in
    let table_whole : length table ≡ 65536 = omega arith in
    let table_is : IsStage new 3 (write_of 65536 table) = (record { offset = refl; whole = table_whole }, c.write_refcount_table.ensures size name format small) in
    let second = one_stage g.D.Device new 2 (write_of 131072 block) None c.write.new.dev c.write-2.new.dev block_is c.in_ok-write-2.ensures.writes in
    let two = stages_then g.D.Device new 1 1 1 2 2 None c.args.dev.now c.write.new.dev c.write-2.new.dev refl refl first second in
    let last = one_stage g.D.Device new 3 (write_of 65536 table) None c.write-2.new.dev c.write-3.new.dev table_is c.in_ok-write-3.ensures.writes in
    stages_then g.D.Device new 1 2 1 3 3 None c.args.dev.now c.write-2.new.dev c.write-3.new.dev refl refl two last
