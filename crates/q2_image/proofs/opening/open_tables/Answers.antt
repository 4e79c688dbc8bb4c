use Rattle.std.proofs.Common.{◌≡◌, ℕ, List, None, sym, subst, ◌∙◌}
use Rattle.std.proofs.lemmas.Result.{err_from_is_err_and}
use Rattle.blk_base.proofs.DeviceLemmas.{untouched-same}
use Rattle.q2_format.specs.References.{cluster_bound}
use Rattle.q2_image.specs.Loading.{counts_loaded, HasCounts}
use Rattle.q2_image.specs.Opening.{Judges, Names, ArePlaced, uses_in, overlap_stop}
use Rattle.q2_image.specs.Placed.{AreKept, kept_stops}
use Rattle.q2_image.specs.Seen.{IsSeen}
use Rattle.q2_image.proofs.Opened.{are_placed}
use Rattle.q2_image.proofs.Faults.{refused_quietly, answered_quietly}
use Rattle.q2_image.proofs.Order.{none_named}
use Rattle.q2_image.proofs.Whole.{overlap_named, loaded_from, last_judged, ok_image, ok_reach, ok_reach_at}
use Rattle.q2_image.proofs.OpeningCalls.{IsCountsCall, no_call, no_call_passed, call_passed, counts_read, tables_read}
use Rattle.q2_image.proofs.Placed.{kept_refs, ok_fits_at}
use Rattle.q2_image.proofs.Refused.{last_refused, overlap_refused, unnamed_for}
use Rattle.q2_image.proofs.opening.open_tables.Goals as goal

pub name_once-requires-clause-placed : goal.name_once-requires-clause-placed
name_once-requires-clause-placed g c =
    let here = are_placed c.args.header (g.D.Device.size c.args.dev.now) c.args.table.items c.args.tables c.requires.places c.requires.table.accepted c.requires.loaded in
    let P : ℕ → Type 0 = λ n. ArePlaced c.args.header n c.args.table.items c.args.tables.l1 c.args.tables.words in
    let W : List ℕ → Type 0 = λ words. ArePlaced c.args.header c.length-len.result words c.args.tables.l1 c.args.tables.words in
    subst W (sym c.as_slice.ensures.value) (subst P (sym c.length-len.ensures) here)

pub finish-requires-clause-kept : goal.finish-requires-clause-kept
finish-requires-clause-kept g c =
    let h = c.args.header in
    let P : ℕ → Type 0 = λ n. AreKept h n c.in_ok-refs.refs c.args.tables in
    subst P (sym c.length-len.ensures)
    (kept_refs h (g.D.Device.size c.args.dev.now) c.args.table.items c.in_ok-refs.refs c.args.tables c.in_ok-refs.ensures.table c.requires.table c.requires.loaded c.in_ok-refs.ensures.loaded
    c.in_ok-refs.ensures.absent)

pub finish-requires-clause-seen : goal.finish-requires-clause-seen
finish-requires-clause-seen g c =
    let S : List ℕ → Type 0 = λ table. IsSeen (uses_in c.args.header table c.args.tables.l1 c.args.tables.words) c.in_ok-seen.seen in
    subst S (c.as_slice.ensures.value ∙ sym c.in_ok-refs.ensures.table) c.in_ok-seen.ensures.seen

pub finish-requires-clause-once : goal.finish-requires-clause-once
finish-requires-clause-once g c =
    let O : List ℕ → Type 0 = λ table. overlap_stop (uses_in c.args.header table c.args.tables.l1 c.args.tables.words) (cluster_bound c.args.header c.length-len.result) ≡ None in
    subst O (c.as_slice.ensures.value ∙ sym c.in_ok-refs.ensures.table) c.in_ok-seen.ensures.judged

pub returns-in_err-seen-clause-judged : goal.returns-in_err-seen-clause-judged
returns-in_err-seen-clause-judged g c =
    let p = err_from_is_err_and c.from_residual.result c.from_residual.ensures.1 in
    rw (p.1, p.2) (λ file told. overlap_named file c.args.header c.length-len.result (g.D.Device.size c.args.dev.now) c.args.table.items c.args.tables c.in_err-seen.field-0.0
    c.length-len.ensures (g.met.D.Device.told_size c.args.dev.now file told) c.requires.places (c.requires.read file told)
    (let O : List ℕ → Type 0 = λ table. Names (overlap_stop (uses_in c.args.header table c.args.tables.l1 c.args.tables.words) (cluster_bound c.args.header c.length-len.result)) c.in_err-seen.field-0.0 in
    subst O c.as_slice.ensures.value c.in_err-seen.ensures.judged))

pub returns-in_err-seen-clause-device : goal.returns-in_err-seen-clause-device
returns-in_err-seen-clause-device g c =
    let p = err_from_is_err_and c.from_residual.result c.from_residual.ensures.1 in
    refused_quietly g.D.Device p.0 c.in_err-seen.field-0.0 c.from_residual.result p.1 p.2 c.args.dev.now c.args.dev.now
    c.in_err-seen.ensures.no_fault (untouched-same g.D.Device c.args.dev.now)

pub returns-in_err-refs-clause-judged : goal.returns-in_err-refs-clause-judged
returns-in_err-refs-clause-judged g c =
    let p = err_from_is_err_and c.from_residual-in_err-refs.result c.from_residual-in_err-refs.ensures.1 in
    rw (p.1, p.2) (λ file told. none_named _ c.in_err-refs.field-0.0 c.in_err-refs.ensures.stop)

pub returns-clause-judged : goal.returns-clause-judged
returns-clause-judged g c = λ file told. last_judged file c.args.header c.length-len.result c.in_ok-refs.refs c.args.tables c.finish.result
    (loaded_from file c.args.header c.length-len.result (g.D.Device.size c.args.dev.now) c.args.table.items c.in_ok-refs.refs c.args.tables
    c.length-len.ensures (g.met.D.Device.told_size c.args.dev.now file told) c.requires.places (c.requires.read file told)
    (c.in_ok-refs.ensures.kept file told (c.requires.read file told).same) c.in_ok-refs.ensures.loaded) c.finish.ensures.judged

pub returns-clause-image : goal.returns-clause-image
returns-clause-image g c = ok_image c.args.header c.length-len.result c.in_ok-refs.refs c.args.tables c.finish.result
    (λ file told. loaded_from file c.args.header c.length-len.result (g.D.Device.size c.args.dev.now) c.args.table.items c.in_ok-refs.refs c.args.tables
    c.length-len.ensures (g.met.D.Device.told_size c.args.dev.now file told) c.requires.places (c.requires.read file told)
    (c.in_ok-refs.ensures.kept file told (c.requires.read file told).same) c.in_ok-refs.ensures.loaded) c.finish.ensures.judged c.finish.ensures.known

pub returns-clause-reach : goal.returns-clause-reach
returns-clause-reach g c =
    let P : ℕ → Type 0 = λ n. HasCounts c.args.header n (counts_loaded c.args.header n) c.in_ok-refs.refs in
    let has = subst P (sym c.length-len.ensures) c.in_ok-refs.ensures.loaded in
    ok_reach_at c.finish.result c.length-len.result (g.D.Device.size c.args.dev.now) c.length-len.ensures
    (ok_reach c.args.header c.length-len.result c.in_ok-refs.refs c.args.tables c.finish.result has.reach c.finish.ensures.known)

pub returns-clause-device : goal.returns-clause-device
returns-clause-device g c = answered_quietly g.D.Device c.finish.result c.args.dev.now c.load_refcounts.new.dev c.finish.ensures.no_fault c.in_ok-refs.ensures.device

pub returns-in_err-seen-clause-call : goal.returns-in_err-seen-clause-call
returns-in_err-seen-clause-call g c =
    let p = err_from_is_err_and c.from_residual.result c.from_residual.ensures.1 in
    no_call_passed (IsCountsCall c.args.header (g.D.Device.size c.args.dev.now) (g.D.Device.content c.args.dev.now) c.args.table.items) p.0 c.in_err-seen.field-0.0 c.from_residual.result _ p.1 p.2 c.in_err-seen.ensures.no_fault

pub returns-in_err-refs-clause-call : goal.returns-in_err-refs-clause-call
returns-in_err-refs-clause-call g c =
    let p = err_from_is_err_and c.from_residual-in_err-refs.result c.from_residual-in_err-refs.ensures.1 in
    let h = c.args.header in
    let O : List ℕ → Type 0 = λ table. overlap_stop (uses_in h table c.args.tables.l1 c.args.tables.words) (cluster_bound h c.length-len.result) ≡ None in
    let read = tables_read h (g.D.Device.size c.args.dev.now) c.length-len.result (g.D.Device.content c.args.dev.now) c.args.table.items c.args.tables c.length-len.ensures
    c.requires.table c.requires.loaded (subst O c.as_slice.ensures.value c.in_ok-seen.ensures.judged) c.requires.read in
    call_passed (IsCountsCall h (g.D.Device.size c.args.dev.now) (g.D.Device.content c.args.dev.now) c.args.table.items) p.0 c.in_err-refs.field-0.0 c.from_residual-in_err-refs.result _ p.1 p.2
    (counts_read h (g.D.Device.size c.args.dev.now) (g.D.Device.content c.args.dev.now) c.args.table.items _ _ read c.in_err-refs.ensures.call)

pub returns-clause-call : goal.returns-clause-call
returns-clause-call g c =
    no_call (IsCountsCall c.args.header (g.D.Device.size c.args.dev.now) (g.D.Device.content c.args.dev.now) c.args.table.items) c.finish.result _ c.finish.ensures.no_fault

pub returns-clause-fits : goal.returns-clause-fits
returns-clause-fits g c = ok_fits_at c.finish.result c.length-len.result (g.D.Device.size c.args.dev.now) c.length-len.ensures c.finish.ensures.fits

pub returns-in_err-seen-clause-refusal : goal.returns-in_err-seen-clause-refusal
returns-in_err-seen-clause-refusal g c =
    let p = err_from_is_err_and c.from_residual.result c.from_residual.ensures.1 in
    let h = c.args.header in
    let stop = c.in_err-seen.field-0.0 in
    let O : List ℕ → ℕ → Type 0 = λ table n. Names (overlap_stop (uses_in h table c.args.tables.l1 c.args.tables.words) (cluster_bound h n)) stop in
    let named = subst (O c.args.table.items) c.length-len.ensures (subst (λ table. O table c.length-len.result) c.as_slice.ensures.value c.in_err-seen.ensures.judged) in
    rw (p.1, p.2) (overlap_refused h (g.D.Device.size c.args.dev.now) c.args.table.items c.args.tables stop c.requires.readable c.requires.limits c.requires.places c.requires.table c.requires.loaded named)

pub returns-in_err-refs-clause-refusal : goal.returns-in_err-refs-clause-refusal
returns-in_err-refs-clause-refusal g c =
    let p = err_from_is_err_and c.from_residual-in_err-refs.result c.from_residual-in_err-refs.ensures.1 in
    rw (p.1, p.2) (unnamed_for c.in_err-refs.field-0.0 (g.D.Device.size c.args.dev.now) c.in_err-refs.ensures.stop)

pub returns-clause-refusal : goal.returns-clause-refusal
returns-clause-refusal g c =
    let h = c.args.header in
    let J : ℕ → Type 0 = λ n. Judges (kept_stops h n c.in_ok-refs.refs c.args.tables) c.finish.result in
    last_refused h (g.D.Device.size c.args.dev.now) c.in_ok-refs.refs c.args.tables c.finish.result c.requires.readable c.requires.limits c.requires.places
    (kept_refs h (g.D.Device.size c.args.dev.now) c.args.table.items c.in_ok-refs.refs c.args.tables c.in_ok-refs.ensures.table c.requires.table c.requires.loaded c.in_ok-refs.ensures.loaded
    c.in_ok-refs.ensures.absent)
    (subst J c.length-len.ensures c.finish.ensures.judged)
