use Rattle.std.proofs.Common.{ℕ, List, Some, Vec, Global, ap, ◌∙◌, arith}
use Rattle.std.proofs.lemmas.Result.{err_from_is_err_and}
use Rattle.blk_base.proofs.DeviceLemmas.{untouched-same}
use Rattle.q2_refs.proofs.Loads.{refused_quietly}
use Rattle.q2_refs.proofs.Shapes.{shape_of, place_refused, words_refused, none_refused, refused_by}
use Rattle.q2_refs.proofs.TableRead.{accepted_read, refused_any, refused_read, unread_refuses}
use Rattle.q2_refs.proofs.loading.load_table.Goals as goal

pub check_place-requires : goal.check_place-requires
check_place-requires g c = let shape = shape_of c.args.h.now _ c.requires in omega (arith, shape.cluster_bits)

pub read_table-requires : goal.read_table-requires
read_table-requires g c = shape_of c.args.h.now _ c.requires

pub cluster_len-requires : goal.cluster_len-requires
cluster_len-requires g c = let shape = shape_of c.args.h.now _ c.requires in omega (arith, shape.cluster_bits)

pub returns-in_err-check_place-clause-read : goal.returns-in_err-check_place-clause-read
returns-in_err-check_place-clause-read g c =
    let p = err_from_is_err_and c.from_residual.result c.from_residual.ensures.1 in
    let h = c.args.h.now in
    let len : ℕ = g.D.Device.size c.args.dev.now in
    let why = rw c.length-len.ensures at c.in_err-check_place.ensures.refused in
    rw p.1 (refused_any (g.D.Device.content c.args.dev.now) h len (λ (table : Vec ℕ Global). table.items) p.0 (g.met.D.Device.told_size c.args.dev.now)
    (λ words. refused_by (Vec ℕ Global) p.0 _ (place_refused h len words p.0 (ap Some p.2 ∙ why))))

pub returns-in_err-table-clause-read : goal.returns-in_err-table-clause-read
returns-in_err-table-clause-read g c =
    let p = err_from_is_err_and c.from_residual-in_err-table.result c.from_residual-in_err-table.ensures.1 in
    let h = c.args.h.now in
    let len : ℕ = g.D.Device.size c.args.dev.now in
    rw (p.1, p.2) (refused_any (g.D.Device.content c.args.dev.now) h len (λ (table : Vec ℕ Global). table.items) c.in_err-table.field-0.0 (g.met.D.Device.told_size c.args.dev.now)
    (λ words. unread_refuses (Vec ℕ Global) c.in_err-table.field-0.0 c.in_err-table.ensures.stop h len words))

pub returns-in_err-check_words-clause-read : goal.returns-in_err-check_words-clause-read
returns-in_err-check_words-clause-read g c =
    let p = err_from_is_err_and c.from_residual-in_err-check_words.result c.from_residual-in_err-check_words.ensures.1 in
    let h = c.args.h.now in
    let len : ℕ = g.D.Device.size c.args.dev.now in
    let words : List ℕ = c.in_ok-table.table.items in
    let place = rw c.length-len.ensures at c.in_ok-check_place.ensures.refused in
    let why = rw (c.length-len.ensures, c.cluster_len.ensures, c.as_slice.ensures.value) at c.in_err-check_words.ensures.refused in
    rw p.1 (refused_read (g.D.Device.content c.args.dev.now) h len (λ (table : Vec ℕ Global). table.items) words p.0
    c.in_ok-table.ensures.len c.in_ok-table.ensures.stands c.in_ok-table.ensures.table
    (refused_by (Vec ℕ Global) p.0 _ (words_refused h len words p.0 place (ap Some p.2 ∙ why))))

pub returns-clause-read : goal.returns-clause-read
returns-clause-read g c =
    let h = c.args.h.now in
    let len : ℕ = g.D.Device.size c.args.dev.now in
    let place = rw c.length-len.ensures at c.in_ok-check_place.ensures.refused in
    let none = rw (c.length-len.ensures, c.cluster_len.ensures, c.as_slice.ensures.value) at c.in_ok-check_words.ensures.refused in
    accepted_read (g.D.Device.content c.args.dev.now) h len (λ (table : Vec ℕ Global). table.items) c.in_ok-table.table
    c.in_ok-table.ensures.len c.in_ok-table.ensures.stands c.in_ok-table.ensures.table
    (none_refused h len c.in_ok-table.table.items place none)

pub returns-in_err-check_place-clause-device : goal.returns-in_err-check_place-clause-device
returns-in_err-check_place-clause-device g c =
    let p = err_from_is_err_and c.from_residual.result c.from_residual.ensures.1 in
    refused_quietly g.D.Device p.0 c.in_err-check_place.field-0.0 c.from_residual.result p.1 p.2 c.args.dev.now c.args.dev.now
    c.in_err-check_place.ensures.quiet (untouched-same g.D.Device c.args.dev.now)

pub returns-in_err-check_words-clause-device : goal.returns-in_err-check_words-clause-device
returns-in_err-check_words-clause-device g c =
    let p = err_from_is_err_and c.from_residual-in_err-check_words.result c.from_residual-in_err-check_words.ensures.1 in
    refused_quietly g.D.Device p.0 c.in_err-check_words.field-0.0 c.from_residual-in_err-check_words.result p.1 p.2 c.args.dev.now c.read_table.new.dev
    c.in_err-check_words.ensures.quiet c.in_ok-table.ensures.device
