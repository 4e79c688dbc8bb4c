-- Lines of a transcript and the room that they take.
use Rattle.std.proofs.Common.{◌≡◌, ℕ, zero, suc, ◌+◌, ◌<◌, ◌≤◌, List, [], ◌∷◌, length, refl, ap, arith, Some, Result, Ok, Err, IfOk}
use Rattle.blk_base.specs.Written.{Written, memory_of}
use Rattle.blk_history.specs.Line.{line_room, reply_by}
use Rattle.blk_history.specs.Names.{JobLine, RowNames}
use Rattle.blk_history.specs.Transcript.{job_line}
use Rattle.blk_history.specs.declared.event.Event.{Event}
use Rattle.blk_history.specs.declared.event.Event.TheVariants.{Admit, Refuse, Piece, Retire, Reply, Reached, Start, Ready, End, Done}
use Rattle.qblk_core.specs.Output.{AllLinesFit}
use Rattle.qblk_run.specs.Tasks.{AreJobsNamed, CanHaveLine, CanHaveLines, CanPrint}
use Rattle.qblk_run.specs.Sending.{RepliesFit, NamesFit}
use Rattle.qblk_run.proofs.Ids.{name-short}

module _ (guests : List (List ℕ)) (jobs : List JobLine) (t n : ℕ) (short : NamesFit n guests) (ids : AreJobsNamed jobs) where
  abbrev names : RowNames
  names = record { guests = guests; jobs = jobs }

  id-short : (job : ℕ) → job < length jobs → length (job_line names job).id ≤ 31
  id-short job within = name-short (job_line names job).id (ids job within)

  room-of : (e : Event) → ((text : List ℕ) → reply_by e ≡ Some text → length text ≤ t) → CanHaveLine names e
      → line_room names e ≤ (327936 + t) + n
  room-of (Admit g r op) texts line = let name = short g line.named in omega arith
  room-of (Refuse g r op why) texts line = let name = short g line.named in omega arith
  room-of (Piece g r k outcome got) texts line = let name = short g line.named in let shown = line.shown in omega arith
  room-of (Retire g r) texts line = let name = short g line.named in omega arith
  room-of (Reply line' given command text) texts line = let long = texts text refl in omega arith
  room-of (Reached line' what) texts line = omega arith
  room-of (Start job) texts line = let id = id-short job line.named.0 in omega arith
  room-of (Ready job) texts line = let id = id-short job line.named.0 in omega arith
  room-of (End job outcome offset) texts line = let id = id-short job line.named.0 in omega arith
  room-of (Done zero) texts line = omega arith
  room-of (Done (suc g)) texts line = let name = short g line.named in omega arith

  pub lines-fit : (memory : ℕ) (es : List Event) → ((65536 + 327936) + t) + n ≤ memory → RepliesFit t es → CanHaveLines names es → AllLinesFit names memory es
  lines-fit memory [] room texts lines = tt
  lines-fit memory (e ∷ es) room texts lines =
      let long = room-of e (λ text is. texts zero e text refl is) lines.0 in
      (record { named = lines.0.named; room = omega arith }, lines-fit memory es room (λ at x text there is. texts (suc at) x text there is) lines.1)

pub text-fits : (guests : List (List ℕ)) (t n room : ℕ) (es : List Event) (E : Type 0) (r : Result Written E) → NamesFit n guests → RepliesFit t es
    → ((65536 + 327936) + t) + n ≤ room → IfOk r (λ text. text.bytes ≡ []) → IfOk r (λ text. room ≤ text.spare)
    → IfOk r (λ text. (jobs : List JobLine) → CanPrint (record { guests = guests; jobs = jobs }) es → AllLinesFit (record { guests = guests; jobs = jobs }) (memory_of text) es)
text-fits guests t n room es E (Err e) short texts fits empty spare = tt
text-fits guests t n room es E (Ok text) short texts fits empty spare = λ jobs can.
    let none : length text.bytes ≡ 0 = ap length empty in
    lines-fit guests jobs t n short can.ids (memory_of text) es (omega arith) texts can.lines
