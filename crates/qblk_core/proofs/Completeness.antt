-- A run on a good image, of a good trace, is done where no count rises, or has no memory.
use Rattle.std.proofs.Common.{◌≡◌, ◌⊎◌, ℕ, ◌<◌, ◌≤◌, List, [], ◌∷◌, length, refl, sym, ◌∙◌, ap, subst, inl, inr, arith, Option, Some, None, Ok, Err}
use Rattle.std.specs.Prelude.{IsUtf8, IsSome, min}
use Rattle.std.proofs.lemmas.Bool.{false≢true}
use Rattle.blk_base.specs.Answers.{HasFile, LacksFile}
use Rattle.blk_base.specs.Counts.{HasFailedSince, Rose}
use Rattle.blk_base.specs.Files.{file_at, IfTold}
use Rattle.blk_base.specs.declared.fault.FaultFrom.TheVariants.{Store, Dev, Sink}
use Rattle.blk_base.specs.declared.file.File.{File}
use Rattle.trace_codec.specs.Trace.{ops_of}
use Rattle.trace_codec.specs.declared.op.Op.{Op}
use Rattle.blk_history.specs.Fold.{With}
use Rattle.blk_history.specs.Licence.{RoseSince, counted}
use Rattle.q2_format.specs.Sound.{Refusal, image_refusal}
use Rattle.q2_image.specs.Opening.{refusal_of}
use Rattle.qblk_core.specs.Completeness.{HasInputs, HasStood, NoneRises}
use Rattle.qblk_core.specs.Format.{IsGoodImage}
use Rattle.qblk_core.specs.ImageNodes.{device_faults}
use Rattle.qblk_core.specs.Run.{Outside, HasImage, HasTrace, IsBadBytes, IsBadImage, IsFlawInTrace, IsImageOrTraceRefused, IsTraceFileRefused, FailsToFlushIo, FailsToOpen, AnswersIo}
use Rattle.qblk_core.specs.declared.status.InputWhy.{InputWhy}
use Rattle.qblk_core.specs.declared.status.InputWhy.TheVariants as why
use Rattle.qblk_core.specs.declared.status.Status.{Status}
use Rattle.qblk_core.specs.declared.status.Status.TheVariants.{Done, Usage, Input, Fault, Stuck, NoMemory}
use Rattle.qblk_words.specs.declared.words.Format.{Format}
use Rattle.qblk_words.specs.declared.words.Format.TheVariants.{Raw, Qcow2}
use Rattle.qblk_core.proofs.Quiet.{grows}

-- ---- good inputs aren't refused

not-refused : (bytes : List ℕ) (found : Option Refusal) → image_refusal bytes ≡ None → With found (λ refusal. image_refusal bytes ≡ Some refusal) → ⊥
not-refused bytes None sound named = named
not-refused bytes (Some refusal) sound named = let bad : None ≡ Some refusal = sym sound ∙ named in let no : ⊥ = cc bad in no

good-bytes : (format : Format) (cause : InputWhy) (bytes : List ℕ) → IsGoodImage format bytes → IsBadBytes format cause bytes → ⊥
good-bytes Raw why.TooLarge bytes good bad =
    let small : length bytes ≤ 274877906944 = good in
    let large : 274877906944 < length bytes = bad in
    omega arith
good-bytes Raw why.Absent bytes good bad = bad
good-bytes Raw why.NotUtf8 bytes good bad = bad
good-bytes Raw why.TooLong bytes good bad = bad
good-bytes Raw why.BadLine bytes good bad = bad
good-bytes Raw why.TooMany bytes good bad = bad
good-bytes Raw why.NeedsBacking bytes good bad = bad
good-bytes Raw (why.Image stop) bytes good bad = bad
good-bytes Qcow2 why.NeedsBacking bytes good bad = false≢true (subst IsSome good.1 bad.1)
good-bytes Qcow2 (why.Image stop) bytes good bad = not-refused bytes (refusal_of stop) good.0 bad
good-bytes Qcow2 why.Absent bytes good bad = bad
good-bytes Qcow2 why.NotUtf8 bytes good bad = bad
good-bytes Qcow2 why.TooLong bytes good bad = bad
good-bytes Qcow2 why.BadLine bytes good bad = bad
good-bytes Qcow2 why.TooMany bytes good bad = bad
good-bytes Qcow2 why.TooLarge bytes good bad = bad

-- a name has one file
one-file : (name : List ℕ) (P Q : File → Type 0) (files : List File) → HasFile name P files → HasFile name Q files → (f : File) × (P f × Q f)
one-file name P Q files p q =
    let same : Some q.0 ≡ Some p.0 = sym q.1 ∙ p.1 in
    let is : q.0 ≡ p.0 = cc same in
    (p.0, (p.2, subst Q is q.2))

not-lacking : (name : List ℕ) (P : File → Type 0) (files : List File) → HasFile name P files → LacksFile name files → ⊥
not-lacking name P files there lacks = let bad : None ≡ Some there.0 = sym lacks ∙ there.1 in let no : ⊥ = cc bad in no

found-bad : (format : Format) (cause : InputWhy) (image : List ℕ) (files : List File) → HasImage format image files
    → HasFile image (λ f. IsBadBytes format cause f.bytes) files → ⊥
found-bad format cause image files good bad =
    let f = one-file image (λ f. IsGoodImage format f.bytes) (λ f. IsBadBytes format cause f.bytes) files good bad in
    good-bytes format cause f.0.bytes f.1.0 f.1.1

good-image : (format : Format) (cause : InputWhy) (image : List ℕ) (files : List File) → HasImage format image files → IsBadImage format cause image files → ⊥
good-image format why.Absent image files good bad = not-lacking image (λ f. IsGoodImage format f.bytes) files good bad
good-image format why.NotUtf8 image files good bad = found-bad format why.NotUtf8 image files good bad
good-image format why.TooLong image files good bad = found-bad format why.TooLong image files good bad
good-image format why.BadLine image files good bad = found-bad format why.BadLine image files good bad
good-image format why.TooMany image files good bad = found-bad format why.TooMany image files good bad
good-image format why.TooLarge image files good bad = found-bad format why.TooLarge image files good bad
good-image format why.NeedsBacking image files good bad = found-bad format why.NeedsBacking image files good bad
good-image format (why.Image stop) image files good bad = found-bad format (why.Image stop) image files good bad

-- what a trace that is taken is
abbrev IsTaken : List Op → File → Type 0
IsTaken ops f = (length f.bytes ≤ 67108864) × IsUtf8 f.bytes × (ops_of f.bytes ≡ Ok ops)

good-text : (cause : InputWhy) (line : ℕ) (ops : List Op) (f : File) → IsTaken ops f → IsFlawInTrace cause line f.bytes → ⊥
good-text why.Absent line ops f good bad = bad
good-text why.TooLarge line ops f good bad = bad
good-text why.NeedsBacking line ops f good bad = bad
good-text (why.Image stop) line ops f good bad = bad
good-text why.TooLong line ops f good bad =
    let small : length f.bytes ≤ 67108864 = good.0 in
    let large : 67108864 < length f.bytes = bad.1 in
    omega arith
good-text why.NotUtf8 line ops f good bad = bad.2 good.1
good-text why.BadLine line ops f good bad = let both = sym good.2 ∙ bad.2 in let no : ⊥ = cc both in no
good-text why.TooMany line ops f good bad = let both = sym good.2 ∙ bad.2 in let no : ⊥ = cc both in no

found-text : (cause : InputWhy) (line : ℕ) (trace : List ℕ) (ops : List Op) (files : List File) → HasTrace trace ops files
    → HasFile trace (λ f. IsFlawInTrace cause line f.bytes) files → ⊥
found-text cause line trace ops files good bad =
    let f = one-file trace (IsTaken ops) (λ f. IsFlawInTrace cause line f.bytes) files good bad in
    good-text cause line ops f.0 f.1.0 f.1.1

good-trace : (cause : InputWhy) (line : ℕ) (trace : List ℕ) (ops : List Op) (files : List File) → HasTrace trace ops files → IsTraceFileRefused cause line trace files → ⊥
good-trace why.Absent line trace ops files good bad = not-lacking trace (IsTaken ops) files good bad.1
good-trace why.NotUtf8 line trace ops files good bad = found-text why.NotUtf8 line trace ops files good bad
good-trace why.TooLong line trace ops files good bad = found-text why.TooLong line trace ops files good bad
good-trace why.BadLine line trace ops files good bad = found-text why.BadLine line trace ops files good bad
good-trace why.TooMany line trace ops files good bad = found-text why.TooMany line trace ops files good bad
good-trace why.TooLarge line trace ops files good bad = found-text why.TooLarge line trace ops files good bad
good-trace why.NeedsBacking line trace ops files good bad = found-text why.NeedsBacking line trace ops files good bad
good-trace (why.Image stop) line trace ops files good bad = found-text (why.Image stop) line trace ops files good bad

good-inputs : (format : Format) (image trace name : List ℕ) (line : ℕ) (cause : InputWhy) (ops : List Op) (files : List File)
    → HasImage format image files → HasTrace trace ops files → IsImageOrTraceRefused format image trace name line cause files → ⊥
good-inputs format image trace name line cause ops files there asks (inl bad) = good-image format cause image files there bad.2
good-inputs format image trace name line cause ops files there asks (inr bad) = good-trace cause line trace ops files asks bad.2

told-inputs : (format : Format) (image trace name : List ℕ) (line : ℕ) (cause : InputWhy) (ops : List Op) (files : Option (List File))
    → With files (λ told. HasImage format image told × HasTrace trace ops told) → IfTold files (IsImageOrTraceRefused format image trace name line cause) → ⊥
told-inputs format image trace name line cause ops None good bad = good
told-inputs format image trace name line cause ops (Some files) good bad = good-inputs format image trace name line cause ops files good.0 good.1 bad

-- ---- no fault is named

not-rose : (before now count : ℕ) → HasStood before now → Rose before count → count ≡ now → ⊥
not-rose before now count stood rose is = let below = stood.0 in let same = stood.1 in omega arith

opening-fails : (format : Format) (image : List ℕ) (old new : Outside) (count : ℕ) → NoneRises image old new → FailsToOpen format image old new count → ⊥
opening-fails format image old new count none fails =
    not-rose fails.device.faults fails.behind.faults count (none.device fails.device fails.behind fails.opened) fails.stopped.rose fails.stopped.now

flush-fails : (format : Format) (image trace : List ℕ) (old new : Outside) (count : ℕ) → NoneRises image old new → FailsToFlushIo format image trace old new count → ⊥
flush-fails format image trace old new count none fails =
    let run = fails.4.run in
    let before = fails.2 in
    let stood = none.device run.device run.back run.opened in
    let below : run.device.faults < 18446744073709551615 = stood.0 in
    let same : count ≡ run.device.faults = sym run.ends.1 ∙ stood.1 in
    let start : run.device.faults ≡ before = run.ends.0 in
    let counts = run.counts in
    let opened : device_faults run.first ≡ before = counts.opening in
    let least = grows (device_faults run.first) (device_faults run.left) fails.1 counts.risen counts.last in
    let last : counted (before ∷ []) fails.1 ≡ device_faults run.left ∷ [] =
    subst (λ (k : ℕ). counted (k ∷ []) fails.1 ≡ device_faults run.left ∷ []) opened counts.last in
    let rose : RoseSince (device_faults run.left ∷ []) (Some (record { dev = 0; count = count })) =
    subst (λ (cs : List ℕ). RoseSince cs (Some (record { dev = 0; count = count }))) last fails.5 in
    let above : HasFailedSince (device_faults run.left) count = rose.1 in
    omega arith

pub is-done : (format : Format) (image trace : List ℕ) (ops : List Op) (old new : Outside) (status : Status) → HasInputs format image trace ops old
    → NoneRises image old new → AnswersIo format image trace old new status → (status ≡ Done) ⊎ (status ≡ NoMemory)
is-done format image trace ops old new Done inputs none answers = inl refl
is-done format image trace ops old new NoMemory inputs none answers = inr refl
is-done format image trace ops old new Usage inputs none answers = absurd answers
is-done format image trace ops old new (Stuck actor waits) inputs none answers = absurd answers
is-done format image trace ops old new (Input name line cause) inputs none answers =
    absurd (told-inputs format image trace name.bytes line cause ops old.files inputs answers.2)
is-done format image trace ops old new (Fault Store count) inputs none answers =
    absurd (not-rose old.store_faults new.store_faults count none.store answers.2 answers.3)
is-done format image trace ops old new (Fault Sink count) inputs none answers =
    absurd (not-rose old.sink_faults new.sink_faults count none.sink answers.6 answers.7)
is-done format image trace ops old new (Fault (Dev dev) count) inputs none answers = by_call answers.1
  where
    by_call : FailsToOpen format image old new count ⊎ FailsToFlushIo format image trace old new count
        → ((Fault (Dev dev) count) ≡ Done) ⊎ ((Fault (Dev dev) count) ≡ NoMemory)
    by_call (inl fails) = absurd (opening-fails format image old new count none fails)
    by_call (inr fails) = absurd (flush-fails format image trace old new count none fails)
