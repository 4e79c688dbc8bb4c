-- The inputs of a run: a script, and then a trace for each guest.
use Rattle.std.specs.Prelude.{◌≡◌, ◌⊎◌, ◌<◌, ◌≤◌, ℕ, List, [], ◌∷◌, length, IsUtf8, Ok, Err}
use Rattle.blk_base.specs.Answers.{HasFile, LacksFile}
use Rattle.blk_base.specs.declared.file.File.{File}
use Rattle.trace_codec.specs.Amounts.{Amounts, nothing}
use Rattle.trace_codec.specs.Trace.{lines_of}
use Rattle.trace_codec.specs.Wishes.{wishes_in}
use Rattle.trace_codec.specs.declared.wish.Wish.{Wish}
use Rattle.trace_codec.specs.declared.stop.TraceStop.TheVariants as stops
use Rattle.trace_codec.specs.Script.{Order, orders_of, count_of_lines}
use Rattle.qblk_inputs.specs.declared.stop.InputFlaw.{InputFlaw}
use Rattle.qblk_inputs.specs.declared.stop.InputFlaw.TheVariants.{Absent, NotUtf8, TooLong, BadLine, TooMany}
use Rattle.qblk_words.specs.Words.{Player, Cast, guests_of}

-- what is to be done: by the script, and by each guest
pub record Work : Type 0 where
  pub script : List Order
  pub traces : List (List Wish)

-- the most bytes of a script or a trace: 64 MiB
abbrev pub most_text : ℕ
most_text = 67108864

-- a file of a text that is not too long
pub record IsText (bytes : List ℕ) : Type 0 where
  pub short : length bytes ≤ most_text
  pub text : IsUtf8 bytes

-- ---- inputs that are read

-- a script of at most 4,096 lines
pub record IsScript (guests : List (List ℕ)) (orders : List Order) (bytes : List ℕ) : Type 0 where
  pub text : IsText bytes
  pub few : count_of_lines (lines_of bytes) ≤ 4096
  pub orders_are : orders ≡ orders_of guests bytes

-- a trace, behind those that ask for so much; with it all ask for so much
pub record ReadsAsTrace (before : Amounts) (wishes : List Wish) (asked : Amounts)
    (bytes : List ℕ) : Type
    0 where
  pub text : IsText bytes
  pub read : wishes_in before bytes ≡ Ok (wishes, asked)

abbrev pub HasTraces : Amounts → List Player → List (List Wish) → List File → Type 0
HasTraces before [] [] files = Unit {0}
HasTraces before (p ∷ players) (wishes ∷ traces) files =
    (asked : Amounts) × HasFile p.trace (λ f. ReadsAsTrace before wishes asked f.bytes) files
    × HasTraces asked players traces files
HasTraces before _ _ files = ⊥

-- script and traces are there, and this is what they say
pub record HasWork (cast : Cast) (work : Work) (files : List File) : Type 0 where
  pub script : HasFile cast.script (λ f. IsScript (guests_of cast) work.script f.bytes) files
  pub traces : HasTraces nothing cast.players work.traces files

-- texts that say this, one for each guest, each counted behind those before it
abbrev pub AreTraces : Amounts → List Player → List (List Wish) → Type 0
AreTraces before [] [] = Unit {0}
AreTraces before (p ∷ players) (wishes ∷ traces) =
    (bytes : List ℕ) × (asked : Amounts) × ReadsAsTrace before wishes asked bytes
    × AreTraces asked players traces
AreTraces before _ _ = ⊥

-- whatever files tell, this is what some script and traces say
pub record IsWork (cast : Cast) (work : Work) : Type 0 where
  pub script : (bytes : List ℕ) × IsScript (guests_of cast) work.script bytes
  pub traces : AreTraces nothing cast.players work.traces

-- ---- inputs that are refused

-- why a file's bytes are no text, or not read: a line is none that a trace may have, or passes a count
abbrev pub IsBadText : InputFlaw → ℕ → List ℕ → Type 0
IsBadText TooLong line bytes = (line ≡ 0) × (most_text < length bytes)
IsBadText NotUtf8 line bytes = (line ≡ 0) × (length bytes ≤ most_text) × (IsUtf8 bytes → ⊥)
IsBadText why line bytes = ⊥

abbrev pub IsBadScript : InputFlaw → ℕ → List ℕ → Type 0
IsBadScript TooMany line bytes =
    IsText bytes × (line ≡ 4097) × (4096 < count_of_lines (lines_of bytes))
IsBadScript why line bytes = IsBadText why line bytes

abbrev pub IsBadTrace : Amounts → InputFlaw → ℕ → List ℕ → Type 0
IsBadTrace before BadLine line bytes =
    IsText bytes × (wishes_in before bytes ≡ Err (stops.BadLine line))
IsBadTrace before TooMany line bytes =
    IsText bytes × (wishes_in before bytes ≡ Err (stops.TooMany line))
IsBadTrace before why line bytes = IsBadText why line bytes

abbrev pub IsRefusedScript : InputFlaw → ℕ → List ℕ → List File → Type 0
IsRefusedScript Absent line script files = (line ≡ 0) × LacksFile script files
IsRefusedScript why line script files = HasFile script (λ f. IsBadScript why line f.bytes) files

abbrev pub IsRefusedTrace : Amounts → InputFlaw → ℕ → List ℕ → List File → Type 0
IsRefusedTrace before Absent line trace files = (line ≡ 0) × LacksFile trace files
IsRefusedTrace before why line trace files =
    HasFile trace (λ f. IsBadTrace before why line f.bytes) files

-- the first trace that is refused: those before it are read
abbrev pub IsFirstRefused : Amounts → List Player → List ℕ → ℕ → InputFlaw → List File → Type 0
IsFirstRefused before [] name line why files = ⊥
IsFirstRefused before (p ∷ players) name line why files =
    ((name ≡ p.trace) × IsRefusedTrace before why line p.trace files)
    ⊎ ((wishes : List Wish) × (asked : Amounts)
    × HasFile p.trace (λ f. ReadsAsTrace before wishes asked f.bytes) files
    × IsFirstRefused asked players name line why files)

-- the script before the traces
abbrev pub IsRefusedInput : Cast → List ℕ → ℕ → InputFlaw → List File → Type 0
IsRefusedInput cast name line why files =
    ((name ≡ cast.script) × IsRefusedScript why line cast.script files)
    ⊎ ((orders : List Order)
    × HasFile cast.script (λ f. IsScript (guests_of cast) orders f.bytes) files
    × IsFirstRefused nothing cast.players name line why files)

-- ---- what a refusal says, whatever files hold

-- the flaws that a script may have, each with its line; line 0 speaks of the whole file
abbrev pub IsScriptFlaw : InputFlaw → ℕ → Type 0
IsScriptFlaw Absent line = line ≡ 0
IsScriptFlaw NotUtf8 line = line ≡ 0
IsScriptFlaw TooLong line = line ≡ 0
IsScriptFlaw BadLine line = ⊥
IsScriptFlaw TooMany line = line ≡ 4097

-- those that a trace may have behind traces that ask for so much: some text has such a line
abbrev pub IsTraceFlaw : Amounts → InputFlaw → ℕ → Type 0
IsTraceFlaw before Absent line = line ≡ 0
IsTraceFlaw before NotUtf8 line = line ≡ 0
IsTraceFlaw before TooLong line = line ≡ 0
IsTraceFlaw before why line = (bytes : List ℕ) × IsBadTrace before why line bytes

-- it speaks of one of the traces, with a flaw that this may have behind texts that are read
abbrev pub SpeaksOfTraces : Amounts → List Player → List ℕ → ℕ → InputFlaw → Type 0
SpeaksOfTraces before [] name line why = ⊥
SpeaksOfTraces before (p ∷ players) name line why =
    ((name ≡ p.trace) × IsTraceFlaw before why line)
    ⊎ ((bytes : List ℕ) × (wishes : List Wish) × (asked : Amounts)
    × ReadsAsTrace before wishes asked bytes × SpeaksOfTraces asked players name line why)

-- of the script or of one of the traces
abbrev pub SpeaksOfCast : Cast → List ℕ → ℕ → InputFlaw → Type 0
SpeaksOfCast cast name line why =
    ((name ≡ cast.script) × IsScriptFlaw why line)
    ⊎ SpeaksOfTraces nothing cast.players name line why
