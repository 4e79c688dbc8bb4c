use Rattle.std.proofs.Common.{◌≡◌, ℕ, length, None, Some, Ok, Err, Vec, Global, sym, ap, subst, ◌∙◌}
use Rattle.std.proofs.lemmas.Result.{err_from_is_err_and}
use Rattle.blk_base.proofs.Readings.{read_of}
use Rattle.q2_tables.specs.Kept.{KeptTables}
use Rattle.q2_image.specs.Loading.{AnswersTables, words_in}
use Rattle.q2_image.specs.Opening.{Names, header_stops, place_stops}
use Rattle.q2_image.specs.OpeningCalls.{IsOpeningCall}
use Rattle.q2_format.specs.declared.header.HeaderStop.TheVariants.{Short}
use Rattle.q2_image.specs.declared.stop.ImageStop.TheVariants as stops
use Rattle.q2_image.proofs.Faults.{refused_quietly}
use Rattle.q2_image.proofs.Whole.{read_from, header_named, place_named, word_named, ok_told, ok_reach_at}
use Rattle.q2_image.proofs.OpeningCalls.{call_passed, no_call_passed, first_fails, load_fails, counts_fail, header_read}
use Rattle.q2_image.proofs.Placed.{ok_fits_at}
use Rattle.q2_image.proofs.Refused.{err_refused_at, place_refused, words_refused}
use Rattle.q2_image.proofs.opening.open_image.Goals as goal

-- what is loaded
abbrev Both : Type 0
Both = Vec ℕ Global × KeptTables

pub returns-in_err-header-clause-judged : goal.returns-in_err-header-clause-judged
returns-in_err-header-clause-judged g c =
    let p = err_from_is_err_and c.from_residual.result c.from_residual.ensures.1 in
    rw (p.1, p.2) (λ file told. header_named file (g.D.Device.size c.args.dev.now) c.in_err-header.field-0.0 (g.met.D.Device.told_size c.args.dev.now file told) (c.in_err-header.ensures.judged file told))

pub returns-in_err-check_places-clause-judged : goal.returns-in_err-check_places-clause-judged
returns-in_err-check_places-clause-judged g c =
    let p = err_from_is_err_and c.from_residual-in_err-check_places.result c.from_residual-in_err-check_places.ensures.1 in
    let len : c.length-len.result ≡ g.D.Device.size c.args.dev.now = c.length-len.ensures ∙ c.in_ok-header.ensures.device.reads.size in
    let P : ℕ → Type 0 = λ n. Names (place_stops c.in_ok-header.header n) c.in_err-check_places.field-0.0 in
    rw (p.1, p.2) (λ file told. place_named file c.in_ok-header.header (g.D.Device.size c.args.dev.now) c.in_err-check_places.field-0.0
    (g.met.D.Device.told_size c.args.dev.now file told) (c.in_ok-header.ensures.header file told) (c.in_ok-header.ensures.judged file told)
    (subst P len c.in_err-check_places.ensures.judged))

pub returns-in_err-check_places-clause-device : goal.returns-in_err-check_places-clause-device
returns-in_err-check_places-clause-device g c =
    let p = err_from_is_err_and c.from_residual-in_err-check_places.result c.from_residual-in_err-check_places.ensures.1 in
    refused_quietly g.D.Device p.0 c.in_err-check_places.field-0.0 c.from_residual-in_err-check_places.result p.1 p.2 c.args.dev.now c.open_header.new.dev
    c.in_err-check_places.ensures.no_fault c.in_ok-header.ensures.device

pub open_tables-requires-clause-read : goal.open_tables-requires-clause-read
open_tables-requires-clause-read g c = λ file told.
    let loaded : g.D.Device.content c.open_header.new.dev ≡ Some file = sym c.in-Ok.ensures.device.reads.content ∙ told in
    let first : g.D.Device.content c.args.dev.now ≡ Some file = sym c.in_ok-header.ensures.device.reads.content ∙ loaded in
    let h = c.in_ok-header.header in
    let len : ℕ = g.D.Device.size c.open_header.new.dev in
    let answers = read_of (g.D.Device.content c.open_header.new.dev) (words_in h) (AnswersTables h len (λ (both : Both). both.0.items) (λ both. both.1) (Ok (c.in-Ok.table, c.in-Ok.tables)))
    c.in-Ok.ensures.words file loaded in
    read_from file h (g.D.Device.size c.args.dev.now) len c.in-Ok.table.items c.in-Ok.tables
    c.in_ok-header.ensures.device.reads.size (g.met.D.Device.told_size c.args.dev.now file first) (c.in_ok-header.ensures.header file first) (c.in_ok-header.ensures.judged file first)
    answers.judged answers.table answers.tree

pub returns-in-Ok-clause-judged : goal.returns-in-Ok-clause-judged
returns-in-Ok-clause-judged g c = λ file told. c.open_tables.ensures.judged file (c.in-Ok.ensures.device.reads.content ∙ c.in_ok-header.ensures.device.reads.content ∙ told)

pub returns-in-Ok-clause-image : goal.returns-in-Ok-clause-image
returns-in-Ok-clause-image g c = ok_told c.open_tables.result (λ file told. c.in-Ok.ensures.device.reads.content ∙ c.in_ok-header.ensures.device.reads.content ∙ told) c.open_tables.ensures.image

pub returns-in-Ok-clause-reach : goal.returns-in-Ok-clause-reach
returns-in-Ok-clause-reach g c = ok_reach_at c.open_tables.result _ _ (c.in-Ok.ensures.device.reads.size ∙ c.in_ok-header.ensures.device.reads.size) c.open_tables.ensures.reach

pub returns-in-Err-clause-judged : goal.returns-in-Err-clause-judged
returns-in-Err-clause-judged g c = λ file told.
    let same : g.D.Device.size c.open_header.new.dev ≡ g.D.Device.size c.args.dev.now = c.in_ok-header.ensures.device.reads.size in
    let size : g.D.Device.size c.open_header.new.dev ≡ length file = same ∙ g.met.D.Device.told_size c.args.dev.now file told in
    let H : ℕ → Type 0 = λ n. header_stops file n ≡ None in
    let P : ℕ → Type 0 = λ n. place_stops c.in_ok-header.header n ≡ None in
    word_named file c.in_ok-header.header (g.D.Device.size c.open_header.new.dev) c.in-Err.stop size (c.in_ok-header.ensures.header file told)
    (subst H (sym same) (c.in_ok-header.ensures.judged file told)) (subst P c.length-len.ensures c.in_ok-check_places.ensures.judged)
    (read_of (g.D.Device.content c.open_header.new.dev) (words_in c.in_ok-header.header)
    (AnswersTables c.in_ok-header.header (g.D.Device.size c.open_header.new.dev) (λ (both : Both). both.0.items) (λ both. both.1) (Err c.in-Err.stop)) c.in-Err.ensures.words file
    (c.in_ok-header.ensures.device.reads.content ∙ told)).judged

pub returns-in_err-header-clause-short : goal.returns-in_err-header-clause-short
returns-in_err-header-clause-short g c = λ few.
    let p = err_from_is_err_and c.from_residual.result c.from_residual.ensures.1 in
    let is = c.in_err-header.ensures.short few in
    let same : c.in_err-header.field-0.0 ≡ stops.Header Short = cc is in
    rw (p.1, p.2) (ap Err same)

pub returns-in_err-check_places-clause-short : goal.returns-in_err-check_places-clause-short
returns-in_err-check_places-clause-short g c = λ few. let is = c.in_ok-header.ensures.short few in absurd (cc is)

pub returns-in-Ok-clause-short : goal.returns-in-Ok-clause-short
returns-in-Ok-clause-short g c = λ few. let is = c.in_ok-header.ensures.short few in absurd (cc is)

pub returns-in-Err-clause-short : goal.returns-in-Err-clause-short
returns-in-Err-clause-short g c = λ few. let is = c.in_ok-header.ensures.short few in absurd (cc is)

pub returns-in_err-header-clause-call : goal.returns-in_err-header-clause-call
returns-in_err-header-clause-call g c =
    let p = err_from_is_err_and c.from_residual.result c.from_residual.ensures.1 in
    call_passed (IsOpeningCall (g.D.Device.size c.args.dev.now) (g.D.Device.content c.args.dev.now)) p.0 c.in_err-header.field-0.0 c.from_residual.result _ p.1 p.2
    (first_fails (g.D.Device.size c.args.dev.now) (g.D.Device.content c.args.dev.now) _ _ c.in_err-header.ensures.call)

pub returns-in_err-check_places-clause-call : goal.returns-in_err-check_places-clause-call
returns-in_err-check_places-clause-call g c =
    let p = err_from_is_err_and c.from_residual-in_err-check_places.result c.from_residual-in_err-check_places.ensures.1 in
    no_call_passed (IsOpeningCall (g.D.Device.size c.args.dev.now) (g.D.Device.content c.args.dev.now)) p.0 c.in_err-check_places.field-0.0 c.from_residual-in_err-check_places.result _ p.1 p.2
    c.in_err-check_places.ensures.no_fault

pub returns-in-Err-clause-call : goal.returns-in-Err-clause-call
returns-in-Err-clause-call g c =
    let h = c.in_ok-header.header in
    let reads = c.in_ok-header.ensures.device.reads in
    let read = header_read h (g.D.Device.size c.args.dev.now) c.length-len.result (g.D.Device.content c.args.dev.now) (c.length-len.ensures ∙ reads.size)
    c.in_ok-header.ensures.limits c.in_ok-header.ensures.readable c.in_ok-check_places.ensures.judged c.in_ok-header.ensures.judged c.in_ok-header.ensures.header in
    load_fails h (g.D.Device.size c.args.dev.now) _ (g.D.Device.content c.args.dev.now) _ _ _ reads.size reads.content read c.in-Err.ensures.call

pub returns-in-Ok-clause-call : goal.returns-in-Ok-clause-call
returns-in-Ok-clause-call g c =
    let h = c.in_ok-header.header in
    let reads = c.in_ok-header.ensures.device.reads in
    let later = c.in-Ok.ensures.device.reads in
    let read = header_read h (g.D.Device.size c.args.dev.now) c.length-len.result (g.D.Device.content c.args.dev.now) (c.length-len.ensures ∙ reads.size)
    c.in_ok-header.ensures.limits c.in_ok-header.ensures.readable c.in_ok-check_places.ensures.judged c.in_ok-header.ensures.judged c.in_ok-header.ensures.header in
    counts_fail h (g.D.Device.size c.args.dev.now) _ (g.D.Device.content c.args.dev.now) _ _ _ (later.size ∙ reads.size) (later.content ∙ reads.content) read c.in-Ok.table.items
    c.open_tables.ensures.call

pub returns-in-Ok-clause-fits : goal.returns-in-Ok-clause-fits
returns-in-Ok-clause-fits g c = ok_fits_at c.open_tables.result _ _ (c.in-Ok.ensures.device.reads.size ∙ c.in_ok-header.ensures.device.reads.size) c.open_tables.ensures.fits

pub returns-in_err-header-clause-refusal : goal.returns-in_err-header-clause-refusal
returns-in_err-header-clause-refusal g c =
    let p = err_from_is_err_and c.from_residual.result c.from_residual.ensures.1 in
    rw (p.1, p.2) c.in_err-header.ensures.refusal

pub returns-in_err-check_places-clause-refusal : goal.returns-in_err-check_places-clause-refusal
returns-in_err-check_places-clause-refusal g c =
    let p = err_from_is_err_and c.from_residual-in_err-check_places.result c.from_residual-in_err-check_places.ensures.1 in
    let stop = c.in_err-check_places.field-0.0 in
    let N : ℕ → Type 0 = λ n. Names (place_stops c.in_ok-header.header n) stop in
    rw (p.1, p.2) (place_refused c.in_ok-header.header (g.D.Device.size c.args.dev.now) stop c.in_ok-header.ensures.readable c.in_ok-header.ensures.limits
    (subst N (c.length-len.ensures ∙ c.in_ok-header.ensures.device.reads.size) c.in_err-check_places.ensures.judged))

pub returns-in-Err-clause-refusal : goal.returns-in-Err-clause-refusal
returns-in-Err-clause-refusal g c =
    let h = c.in_ok-header.header in
    let read = c.in-Err.ensures.words in
    let same : g.D.Device.size c.open_header.new.dev ≡ g.D.Device.size c.args.dev.now = c.in_ok-header.ensures.device.reads.size in
    let P : ℕ → Type 0 = λ n. place_stops h n ≡ None in
    let A : ℕ → Type 0 = λ n. AnswersTables h n (λ (both : Both). both.0.items) (λ both. both.1) (Err c.in-Err.stop) read.value in
    words_refused h (g.D.Device.size c.args.dev.now) (λ (both : Both). both.0.items) (λ both. both.1) c.in-Err.stop read.value c.in_ok-header.ensures.readable c.in_ok-header.ensures.limits
    (subst P (c.length-len.ensures ∙ same) c.in_ok-check_places.ensures.judged) c.in-Err.ensures.no_header (subst A same read.holds)

pub returns-in-Ok-clause-refusal : goal.returns-in-Ok-clause-refusal
returns-in-Ok-clause-refusal g c = err_refused_at c.open_tables.result _ _ (c.in-Ok.ensures.device.reads.size ∙ c.in_ok-header.ensures.device.reads.size) c.open_tables.ensures.refusal
