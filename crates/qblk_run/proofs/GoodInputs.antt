-- Inputs that are there and say what is to be done are not refused.
use Rattle.std.proofs.Common.{◌≡◌, ℕ, List, [], ◌∷◌, sym, ◌∙◌, ap, subst, arith, Ok, Err, Result, inl, inr}
use Rattle.blk_base.specs.Answers.{HasFile, LacksFile}
use Rattle.blk_base.specs.declared.file.File.{File}
use Rattle.trace_codec.specs.Amounts.{Amounts, nothing}
use Rattle.trace_codec.specs.declared.wish.Wish.{Wish}
use Rattle.trace_codec.specs.Script.{Order}
use Rattle.qblk_inputs.specs.Inputs.{HasTraces, HasWork, IsBadScript, IsBadTrace, IsFirstRefused, IsRefusedInput, IsRefusedScript, IsRefusedTrace, IsScript, ReadsAsTrace, Work}
use Rattle.qblk_words.specs.Words.{Cast, Player, guests_of}
use Rattle.qblk_inputs.specs.declared.stop.InputFlaw.{InputFlaw}
use Rattle.qblk_inputs.specs.declared.stop.InputFlaw.TheVariants.{Absent, NotUtf8, TooLong, BadLine, TooMany}

-- what is known of one file twice
same-file : (name : List ℕ) (P Q : File → Type 0) (files : List File) → HasFile name P files → HasFile name Q files → (f : File) × P f × Q f
same-file name P Q files (f, at, p) (g, there, q) = let same : g ≡ f = cc (sym there ∙ at) in (f, p, subst Q same q)

there-not : (name : List ℕ) (P : File → Type 0) (files : List File) → HasFile name P files → LacksFile name files → ⊥
there-not name P files (f, at, p) none = let bad : ⊥ = cc (sym at ∙ none) in bad

-- ---- the script

good-script : (guests : List (List ℕ)) (orders : List Order) (flaw : InputFlaw) (line : ℕ) (bytes : List ℕ) → IsScript guests orders bytes → IsBadScript flaw line bytes → ⊥
good-script guests orders Absent line bytes good bad = bad
good-script guests orders NotUtf8 line bytes good bad = bad.2 good.text.text
good-script guests orders TooLong line bytes good bad = let short = good.text.short in let long = bad.1 in omega arith
good-script guests orders BadLine line bytes good bad = bad
good-script guests orders TooMany line bytes good bad = let few = good.few in let many = bad.2 in omega arith

script-taken : (guests : List (List ℕ)) (orders : List Order) (flaw : InputFlaw) (line : ℕ) (name : List ℕ) (files : List File)
    → HasFile name (λ f. IsScript guests orders f.bytes) files → IsRefusedScript flaw line name files → ⊥
script-taken guests orders Absent line name files good refused = there-not name (λ f. IsScript guests orders f.bytes) files good refused.1
script-taken guests orders NotUtf8 line name files good refused =
    let both = same-file name (λ f. IsScript guests orders f.bytes) (λ f. IsBadScript NotUtf8 line f.bytes) files good refused in
    good-script guests orders NotUtf8 line both.0.bytes both.1 both.2
script-taken guests orders TooLong line name files good refused =
    let both = same-file name (λ f. IsScript guests orders f.bytes) (λ f. IsBadScript TooLong line f.bytes) files good refused in
    good-script guests orders TooLong line both.0.bytes both.1 both.2
script-taken guests orders BadLine line name files good refused =
    let both = same-file name (λ f. IsScript guests orders f.bytes) (λ f. IsBadScript BadLine line f.bytes) files good refused in
    good-script guests orders BadLine line both.0.bytes both.1 both.2
script-taken guests orders TooMany line name files good refused =
    let both = same-file name (λ f. IsScript guests orders f.bytes) (λ f. IsBadScript TooMany line f.bytes) files good refused in
    good-script guests orders TooMany line both.0.bytes both.1 both.2

-- ---- traces

good-trace : (before asked : Amounts) (wishes : List Wish) (flaw : InputFlaw) (line : ℕ) (bytes : List ℕ) → ReadsAsTrace before wishes asked bytes → IsBadTrace before flaw line bytes → ⊥
good-trace before asked wishes Absent line bytes good bad = bad
good-trace before asked wishes NotUtf8 line bytes good bad = bad.2 good.text.text
good-trace before asked wishes TooLong line bytes good bad = let short = good.text.short in let long = bad.1 in omega arith
good-trace before asked wishes BadLine line bytes good bad = let no : ⊥ = cc (sym good.read ∙ bad.1) in no
good-trace before asked wishes TooMany line bytes good bad = let no : ⊥ = cc (sym good.read ∙ bad.1) in no

trace-taken : (before asked : Amounts) (wishes : List Wish) (flaw : InputFlaw) (line : ℕ) (name : List ℕ) (files : List File)
    → HasFile name (λ f. ReadsAsTrace before wishes asked f.bytes) files → IsRefusedTrace before flaw line name files → ⊥
trace-taken before asked wishes Absent line name files good refused = there-not name (λ f. ReadsAsTrace before wishes asked f.bytes) files good refused.1
trace-taken before asked wishes NotUtf8 line name files good refused =
    let both = same-file name (λ f. ReadsAsTrace before wishes asked f.bytes) (λ f. IsBadTrace before NotUtf8 line f.bytes) files good refused in
    good-trace before asked wishes NotUtf8 line both.0.bytes both.1 both.2
trace-taken before asked wishes TooLong line name files good refused =
    let both = same-file name (λ f. ReadsAsTrace before wishes asked f.bytes) (λ f. IsBadTrace before TooLong line f.bytes) files good refused in
    good-trace before asked wishes TooLong line both.0.bytes both.1 both.2
trace-taken before asked wishes BadLine line name files good refused =
    let both = same-file name (λ f. ReadsAsTrace before wishes asked f.bytes) (λ f. IsBadTrace before BadLine line f.bytes) files good refused in
    good-trace before asked wishes BadLine line both.0.bytes both.1 both.2
trace-taken before asked wishes TooMany line name files good refused =
    let both = same-file name (λ f. ReadsAsTrace before wishes asked f.bytes) (λ f. IsBadTrace before TooMany line f.bytes) files good refused in
    good-trace before asked wishes TooMany line both.0.bytes both.1 both.2

-- one text asks for one thing
abbrev asked-by : {E : Type 0} → Result (List Wish × Amounts) E → Amounts → Amounts
asked-by (Ok read) none = read.1
asked-by (Err why) none = none

one-trace : (before a b : Amounts) (x y : List Wish) (bytes : List ℕ) → ReadsAsTrace before x a bytes → ReadsAsTrace before y b bytes → b ≡ a
one-trace before a b x y bytes one other = ap (λ r. asked-by r a) (sym other.read ∙ one.read)

traces-taken : (before : Amounts) (players : List Player) (traces : List (List Wish)) (name : List ℕ) (line : ℕ) (flaw : InputFlaw) (files : List File)
    → HasTraces before players traces files → IsFirstRefused before players name line flaw files → ⊥
traces-taken before [] traces name line flaw files good refused = refused
traces-taken before (p ∷ players) [] name line flaw files good refused = good
traces-taken before (p ∷ players) (wishes ∷ traces) name line flaw files good (inl refused) =
    trace-taken before good.0 wishes flaw line p.trace files good.1 refused.1
traces-taken before (p ∷ players) (wishes ∷ traces) name line flaw files good (inr (other, asked, has, later)) =
    let both = same-file p.trace (λ f. ReadsAsTrace before wishes good.0 f.bytes) (λ f. ReadsAsTrace before other asked f.bytes) files good.1 has in
    let same : asked ≡ good.0 = one-trace before good.0 asked wishes other both.0.bytes both.1 both.2 in
    traces-taken good.0 players traces name line flaw files good.2 (subst (λ (a : Amounts). IsFirstRefused a players name line flaw files) same later)

-- ---- both

pub inputs-taken : (cast : Cast) (work : Work) (name : List ℕ) (line : ℕ) (flaw : InputFlaw) (files : List File) → HasWork cast work files
    → IsRefusedInput cast name line flaw files → ⊥
inputs-taken cast work name line flaw files good (inl refused) = script-taken (guests_of cast) work.script flaw line cast.script files good.script refused.1
inputs-taken cast work name line flaw files good (inr (orders, has, refused)) = traces-taken nothing cast.players work.traces name line flaw files good.traces refused
