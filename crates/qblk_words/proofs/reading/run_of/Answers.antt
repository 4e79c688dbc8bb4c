use Rattle.std.proofs.Common.{◌≡◌, ◌∙◌, ap, codes, map, sym}
use Rattle.clap.specs.Words.{first_of, found_of, all_of}
use Rattle.clap.proofs.WalkLemmas.{raw_values-rows}
use Rattle.qblk_words.proofs.Taking.{guests-some, guests-none}
use Rattle.qblk_words.proofs.reading.run_of.Goals as goal

pub returns-in-Some : goal.returns-in-Some
returns-in-Some c = λ workers script guests rows.
    let w : c.value-workers.result.now ≡ workers = c.value-workers.ensures workers (ap (first_of (codes "workers")) rows) in
    let s : c.value-script.result.now ≡ script = c.value-script.ensures script (ap (first_of (codes "script")) rows) in
    let g : map (λ v. v.now) c.in-Some.guests.now ≡ guests = guests-some workers script guests _
    (c.in-Some.ensures ∙ (raw_values-rows (found_of c.args.run.now) (codes "guests") ∙ ap (all_of (codes "guests")) rows)) in
    rw (w, s, g) at c.run_words.ensures

pub returns-in-None : goal.returns-in-None
returns-in-None c = λ workers script guests rows.
    let w : c.value-workers.result.now ≡ workers = c.value-workers.ensures workers (ap (first_of (codes "workers")) rows) in
    let s : c.value-script.result.now ≡ script = c.value-script.ensures script (ap (first_of (codes "script")) rows) in
    let g = guests-none workers script guests
    (c.in-None.ensures ∙ (raw_values-rows (found_of c.args.run.now) (codes "guests") ∙ ap (all_of (codes "guests")) rows)) in
    rw (w, s, g) at c.run_words-in-None.ensures
