-- Why inputs are refused.
use Rattle.std.proofs.Common.{◌≡◌, ℕ, ◌<◌, ◌≤◌, List, length, refl, sym, subst, Option, Some, None, Ok, Err}
use Rattle.std.specs.Prelude.{IsUtf8}
use Rattle.blk_base.specs.Answers.{HasFile}
use Rattle.blk_base.specs.Files.{IfTold}
use Rattle.blk_base.specs.declared.file.CallOnFile.{CallOnFile}
use Rattle.blk_base.specs.declared.file.File.{File}
use Rattle.trace_codec.specs.Amounts.{Amounts}
use Rattle.trace_codec.specs.Script.{Order, orders_of, count_of_lines}
use Rattle.trace_codec.specs.Trace.{lines_of}
use Rattle.trace_codec.specs.Wishes.{wishes_in}
use Rattle.trace_codec.specs.declared.wish.Wish.{Wish}
use Rattle.trace_codec.specs.declared.stop.TraceStop.TheVariants as stops
use Rattle.qblk_inputs.specs.declared.stop.InputFlaw.{InputFlaw}
use Rattle.qblk_inputs.specs.declared.stop.InputFlaw.TheVariants.{Absent, NotUtf8, TooLong, BadLine, TooMany}
use Rattle.qblk_inputs.specs.declared.stop.InputStop.{InputStop}
use Rattle.qblk_inputs.specs.declared.stop.InputStop.TheVariants.{Refused, Failed, NoMemory}
use Rattle.qblk_inputs.specs.Inputs.{IsText, IsScript, ReadsAsTrace, IsBadText, IsBadTrace, IsRefusedScript, IsRefusedTrace, IsScriptFlaw, IsTraceFlaw}
use Rattle.qblk_inputs.specs.Reading.{IsReadOfFile, IsUnread, IsUnreadFlaw, IsInputRefusal, StopsFor, OfFile, IsShortFile, OnFile, FailsOn, StopsOn, input_read}

pub told_map : {A : Type 0} (o : Option A) (P Q : A → Type 0) → ((a : A) → P a → Q a) → IfTold o P → IfTold o Q
told_map None P Q f h = tt
told_map (Some a) P Q f h = f a h

-- ---- statuses

pub refused_for : (P : List ℕ → InputFlaw → ℕ → Type 0) (name : List ℕ) (line : ℕ) (why : InputFlaw) (before now : ℕ) (stop : InputStop)
    → IsInputRefusal name line why stop → P name why line → now ≡ before → StopsFor P before now stop
refused_for P name line why before now (Refused n l w) is p same =
    let A : List ℕ → Type 0 = λ m. P m why line in
    let B : ℕ → Type 0 = λ k. P n.bytes why k in
    let C : InputFlaw → Type 0 = λ x. P n.bytes x l in
    (subst C (sym is.2) (subst B (sym is.1) (subst A (sym is.0) p)), same)
refused_for P name line why before now NoMemory is p same = same
refused_for P name line why before now (Failed count) is p same = absurd is

pub stops_more : (P Q : List ℕ → InputFlaw → ℕ → Type 0) (before now : ℕ) (stop : InputStop)
    → ((name : List ℕ) (why : InputFlaw) (line : ℕ) → P name why line → Q name why line)
    → StopsFor P before now stop → StopsFor Q before now stop
stops_more P Q before now (Refused name line why) f h = (f name.bytes why line h.0, h.1)
stops_more P Q before now (Failed count) f h = h
stops_more P Q before now NoMemory f h = h

-- counts that are equal
pub stops_at : (P : List ℕ → InputFlaw → ℕ → Type 0) (a b now : ℕ) (stop : InputStop) → a ≡ b → StopsFor P a now stop → StopsFor P b now stop
stops_at P a b now stop is h = let Q : ℕ → Type 0 = λ n. StopsFor P n now stop in subst Q is h

-- another word for the files
pub stops_of : (Q : InputFlaw → ℕ → Type 0) (P : InputFlaw → ℕ → List ℕ → List File → Type 0) (name : List ℕ) (a b : Option (List File)) (before now : ℕ) (stop : InputStop) → a ≡ b
    → StopsFor (OfFile a name Q P) before now stop → StopsFor (OfFile b name Q P) before now stop
stops_of Q P name a b before now stop is h =
    let R : Option (List File) → Type 0 = λ o. StopsFor (OfFile o name Q P) before now stop in subst R is h

-- ---- which file a call failed on

pub refused_on : (P : List ℕ → Type 0) (name : List ℕ) (line : ℕ) (why : InputFlaw) (before now : Option CallOnFile) (stop : InputStop)
    → IsInputRefusal name line why stop → now ≡ before → StopsOn P before now stop
refused_on P name line why before now (Refused n l w) is same = same
refused_on P name line why before now NoMemory is same = same
refused_on P name line why before now (Failed count) is same = absurd is

pub stops_on_more : (P Q : List ℕ → Type 0) (before now : Option CallOnFile) (stop : InputStop) → ((name : List ℕ) → P name → Q name)
    → StopsOn P before now stop → StopsOn Q before now stop
stops_on_more P Q before now (Refused name line why) f h = h
stops_on_more P Q before now (Failed count) f h = (h.0, f h.0 h.1, h.2)
stops_on_more P Q before now NoMemory f h = h

pub failed_on : (told : Option (List File)) (name : List ℕ) (now : Option CallOnFile) → IfTold told (IsShortFile name) → IfTold now (λ last. last ≡ record { name = name; call = input_read }) → FailsOn input_read (OnFile told name) now
failed_on told name now short last = (name, (refl, short), last)

-- ---- a file that isn't read

abbrev pub has_map : (name : List ℕ) (P Q : File → Type 0) (files : List File) → ((f : File) → P f → Q f) → HasFile name P files → HasFile name Q files
has_map name P Q files f h = (h.0, h.1, f h.0 h.2)

unread_script : (name : List ℕ) (why : InputFlaw) (line : ℕ) (files : List File) → IsUnread why line name files → IsRefusedScript why line name files
unread_script name Absent line files h = h
unread_script name TooLong line files h = has_map name _ _ files (λ f long. (h.0, long)) h.1
unread_script name why line files h = absurd h

unread_trace : (before : Amounts) (name : List ℕ) (why : InputFlaw) (line : ℕ) (files : List File) → IsUnread why line name files → IsRefusedTrace before why line name files
unread_trace before name Absent line files h = h
unread_trace before name TooLong line files h = has_map name _ _ files (λ f long. (h.0, long)) h.1
unread_trace before name why line files h = absurd h

script_flaw : (why : InputFlaw) (line : ℕ) → IsUnreadFlaw why line → IsScriptFlaw why line
script_flaw Absent line h = h
script_flaw TooLong line h = h
script_flaw why line h = absurd h

trace_flaw : (before : Amounts) (why : InputFlaw) (line : ℕ) → IsUnreadFlaw why line → IsTraceFlaw before why line
trace_flaw before Absent line h = h
trace_flaw before TooLong line h = h
trace_flaw before why line h = absurd h

pub script_unread : (told : Option (List File)) (name : List ℕ) (before now : ℕ) (stop : InputStop)
    → StopsFor (OfFile told name IsUnreadFlaw IsUnread) before now stop → StopsFor (OfFile told name IsScriptFlaw IsRefusedScript) before now stop
script_unread told name before now stop h =
    stops_more (OfFile told name IsUnreadFlaw IsUnread) (OfFile told name IsScriptFlaw IsRefusedScript) before now stop
    (λ given why line p. (p.0, script_flaw why line p.1, told_map told _ _ (λ files. unread_script name why line files) p.2)) h

pub trace_unread : (asked : Amounts) (told : Option (List File)) (name : List ℕ) (before now : ℕ) (stop : InputStop)
    → StopsFor (OfFile told name IsUnreadFlaw IsUnread) before now stop → StopsFor (OfFile told name (IsTraceFlaw asked) (IsRefusedTrace asked)) before now stop
trace_unread asked told name before now stop h =
    stops_more (OfFile told name IsUnreadFlaw IsUnread) (OfFile told name (IsTraceFlaw asked) (IsRefusedTrace asked)) before now stop
    (λ given why line p. (p.0, trace_flaw asked why line p.1, told_map told _ _ (λ files. unread_trace asked name why line files) p.2)) h

-- ---- a file that is read

-- what its bytes are, so is what was read
of_read : (name bytes : List ℕ) (P : List ℕ → Type 0) (files : List File) → IsReadOfFile name bytes files → (length bytes ≤ 67108864 → P bytes) → HasFile name (λ f. P f.bytes) files
of_read name bytes P files h p = (h.0, h.1, subst P h.2.0 (p h.2.1))

pub reads : (told : Option (List File)) (name bytes : List ℕ) (P : List ℕ → Type 0) → IfTold told (IsReadOfFile name bytes)
    → (length bytes ≤ 67108864 → P bytes) → IfTold told (HasFile name (λ f. P f.bytes))
reads told name bytes P h p = told_map told (IsReadOfFile name bytes) (HasFile name (λ f. P f.bytes)) (λ files is. of_read name bytes P files is p) h

pub not_text : (told : Option (List File)) (name bytes : List ℕ) → IfTold told (IsReadOfFile name bytes) → (IsUtf8 bytes → ⊥)
    → IfTold told (HasFile name (λ f. IsBadText NotUtf8 0 f.bytes))
not_text told name bytes h other = reads told name bytes (IsBadText NotUtf8 0) h (λ short. (refl, short, other))

pub script_read : (told : Option (List File)) (name bytes : List ℕ) (guests : List (List ℕ)) (orders : List Order) → IfTold told (IsReadOfFile name bytes)
    → IsUtf8 bytes → count_of_lines (lines_of bytes) ≤ 4096 → orders ≡ orders_of guests bytes
    → IfTold told (HasFile name (λ f. IsScript guests orders f.bytes))
script_read told name bytes guests orders h text few is =
    reads told name bytes (IsScript guests orders) h (λ short. record { text = record { short = short; text = text }; few = few; orders_are = is })

pub script_long : (told : Option (List File)) (name bytes : List ℕ) → IfTold told (IsReadOfFile name bytes)
    → IsUtf8 bytes → 4096 < count_of_lines (lines_of bytes) → OfFile told name IsScriptFlaw IsRefusedScript name TooMany 4097
script_long told name bytes h text many =
    (refl, refl, reads told name bytes (λ bs. IsText bs × (4097 ≡ 4097) × (4096 < count_of_lines (lines_of bs))) h (λ short. (record { short = short; text = text }, refl, many)))

pub trace_read : (told : Option (List File)) (name bytes : List ℕ) (before asked : Amounts) (wishes : List Wish) → IfTold told (IsReadOfFile name bytes)
    → IsUtf8 bytes → wishes_in before bytes ≡ Ok (wishes, asked) → IfTold told (HasFile name (λ f. ReadsAsTrace before wishes asked f.bytes))
trace_read told name bytes before asked wishes h text is =
    reads told name bytes (ReadsAsTrace before wishes asked) h (λ short. record { text = record { short = short; text = text }; read = is })

pub trace_bad : (told : Option (List File)) (name bytes : List ℕ) (before : Amounts) (line : ℕ) → IfTold told (IsReadOfFile name bytes)
    → length bytes ≤ 67108864 → IsUtf8 bytes → wishes_in before bytes ≡ Err (stops.BadLine line) → OfFile told name (IsTraceFlaw before) (IsRefusedTrace before) name BadLine line
trace_bad told name bytes before line h short text is =
    let bad : IsBadTrace before BadLine line bytes = (record { short = short; text = text }, is) in
    (refl, (bytes, bad), reads told name bytes (IsBadTrace before BadLine line) h (λ _. bad))

pub trace_long : (told : Option (List File)) (name bytes : List ℕ) (before : Amounts) (line : ℕ) → IfTold told (IsReadOfFile name bytes)
    → length bytes ≤ 67108864 → IsUtf8 bytes → wishes_in before bytes ≡ Err (stops.TooMany line) → OfFile told name (IsTraceFlaw before) (IsRefusedTrace before) name TooMany line
trace_long told name bytes before line h short text is =
    let bad : IsBadTrace before TooMany line bytes = (record { short = short; text = text }, is) in
    (refl, (bytes, bad), reads told name bytes (IsBadTrace before TooMany line) h (λ _. bad))
