-- Traces that are read one after another.
use Rattle.std.proofs.Common.{◌≡◌, ℕ, arith, List, [], ◌∷◌, ◌++◌, sym, subst, append_assoc, append-nil, inl, inr, Option, Some, None}
use Rattle.std.specs.Prelude.{map, Contains}
use Rattle.std.proofs.lemmas.List.Elements.{Contains-append_right}
use Rattle.blk_base.specs.Answers.{HasFile}
use Rattle.blk_base.specs.Files.{IfTold}
use Rattle.blk_base.specs.declared.file.File.{File}
use Rattle.trace_codec.specs.Amounts.{Amounts, nothing}
use Rattle.trace_codec.specs.declared.wish.Wish.{Wish}
use Rattle.qblk_inputs.specs.declared.stop.InputFlaw.{InputFlaw}
use Rattle.trace_codec.specs.Script.{Order}
use Rattle.qblk_words.specs.Words.{Player, Cast, guests_of}
use Rattle.qblk_inputs.specs.Inputs.{IsScript, ReadsAsTrace, HasTraces, AreTraces, HasWork, IsRefusedScript, IsRefusedTrace, IsFirstRefused, IsRefusedInput, IsScriptFlaw, IsTraceFlaw, SpeaksOfTraces}
use Rattle.qblk_inputs.specs.Reading.{OfFile, OfTraces, OfInputs, FailsOnTrace, OnFile, OnTraces, OnInputs}

abbrev traces_of : List Player → List (List ℕ)
traces_of players = map (λ p. p.trace) players

-- what the traces of the guests that are left say of all, behind those that were read
pub record IsAhead (told : Option (List File)) (players : List Player) (asked : Amounts) (rest : List Player) (done : List (List Wish)) : Type 0 where
  pub good : (more : List (List Wish)) → IfTold told (HasTraces asked rest more) → IfTold told (HasTraces nothing players (done ++ more))
  pub are : (more : List (List Wish)) → AreTraces asked rest more → AreTraces nothing players (done ++ more)
  pub bad : (name : List ℕ) (why : InputFlaw) (line : ℕ) → IfTold told (IsFirstRefused asked rest name line why) → IfTold told (IsFirstRefused nothing players name line why)
  pub fails : (name : List ℕ) → IfTold told (FailsOnTrace asked rest name) → IfTold told (FailsOnTrace nothing players name)
  pub speaks : (name : List ℕ) (line : ℕ) (why : InputFlaw) → SpeaksOfTraces asked rest name line why → SpeaksOfTraces nothing players name line why
  pub names : (name : List ℕ) → Contains (traces_of rest) name → Contains (traces_of players) name

pub ahead-first : (told : Option (List File)) (players : List Player) → IsAhead told players nothing players []
ahead-first told players = record { good = λ more h. h; are = λ more h. h; bad = λ name why line h. h; fails = λ name h. h; speaks = λ name line why h. h; names = λ name h. h }

more-traces : (told : Option (List File)) (before asked : Amounts) (p : Player) (rest : List Player) (wishes : List Wish) (more : List (List Wish))
    → IfTold told (HasFile p.trace (λ f. ReadsAsTrace before wishes asked f.bytes)) → IfTold told (HasTraces asked rest more) → IfTold told (HasTraces before (p ∷ rest) (wishes ∷ more))
more-traces None before asked p rest wishes more here h = tt
more-traces (Some files) before asked p rest wishes more here h = (asked, here, h)

more-refused : (told : Option (List File)) (before asked : Amounts) (p : Player) (rest : List Player) (wishes : List Wish) (name : List ℕ) (why : InputFlaw) (line : ℕ)
    → IfTold told (HasFile p.trace (λ f. ReadsAsTrace before wishes asked f.bytes)) → IfTold told (IsFirstRefused asked rest name line why) → IfTold told (IsFirstRefused before (p ∷ rest) name line why)
more-refused None before asked p rest wishes name why line here h = tt
more-refused (Some files) before asked p rest wishes name why line here h = inr (wishes, asked, here, h)

more-fails : (told : Option (List File)) (before asked : Amounts) (p : Player) (rest : List Player) (wishes : List Wish) (name : List ℕ)
    → IfTold told (HasFile p.trace (λ f. ReadsAsTrace before wishes asked f.bytes)) → IfTold told (FailsOnTrace asked rest name) → IfTold told (FailsOnTrace before (p ∷ rest) name)
more-fails None before asked p rest wishes name here h = tt
more-fails (Some files) before asked p rest wishes name here h = inr (wishes, asked, here, h)

pub ahead-next : (told : Option (List File)) (players : List Player) (before asked : Amounts) (p : Player) (rest : List Player) (done : List (List Wish)) (wishes : List Wish)
    → IfTold told (HasFile p.trace (λ f. ReadsAsTrace before wishes asked f.bytes)) → (bytes : List ℕ) × ReadsAsTrace before wishes asked bytes → IsAhead told players before (p ∷ rest) done → IsAhead told players asked rest (done ++ wishes ∷ [])
ahead-next told players before asked p rest done wishes here said a = record {
  good = λ more h. subst (λ ts. IfTold told (HasTraces nothing players ts)) (sym (append_assoc done (wishes ∷ []) more)) (a.good (wishes ∷ more) (more-traces told before asked p rest wishes more here h));
  are = λ more h. subst (AreTraces nothing players) (sym (append_assoc done (wishes ∷ []) more)) (a.are (wishes ∷ more) (said.0, asked, said.1, h));
  bad = λ name why line h. a.bad name why line (more-refused told before asked p rest wishes name why line here h);
  fails = λ name h. a.fails name (more-fails told before asked p rest wishes name here h);
  speaks = λ name line why h. a.speaks name line why (inr (said.0, wishes, asked, said.1, h));
  names = λ name h. a.names name (Contains-append_right (p.trace ∷ []) (traces_of rest) name h);
}

none-left : (told : Option (List File)) (asked : Amounts) → IfTold told (HasTraces asked [] [])
none-left None asked = tt
none-left (Some files) asked = tt

pub ahead-end : (told : Option (List File)) (players : List Player) (asked : Amounts) (done : List (List Wish)) → IsAhead told players asked [] done → IfTold told (HasTraces nothing players done)
ahead-end told players asked done a = subst (λ ts. IfTold told (HasTraces nothing players ts)) (append-nil done) (a.good [] (none-left told asked))

pub ahead-said : (told : Option (List File)) (players : List Player) (asked : Amounts) (done : List (List Wish)) → IsAhead told players asked [] done → AreTraces nothing players done
ahead-said told players asked done a = subst (AreTraces nothing players) (append-nil done) (a.are [] tt)

first-refused : (told : Option (List File)) (asked : Amounts) (p : Player) (rest : List Player) (name : List ℕ) (why : InputFlaw) (line : ℕ)
    → OfFile told p.trace (IsTraceFlaw asked) (IsRefusedTrace asked) name why line → IfTold told (IsFirstRefused asked (p ∷ rest) name line why)
first-refused None asked p rest name why line h = tt
first-refused (Some files) asked p rest name why line h = inl (h.0, h.2)

first-trace : (p : Player) (rest : List Player) (name : List ℕ) → name ≡ p.trace → Contains (traces_of (p ∷ rest)) name
first-trace p rest name is = (0, omega arith, sym is)

pub ahead-stops : (told : Option (List File)) (players : List Player) (asked : Amounts) (p : Player) (rest : List Player) (done : List (List Wish)) (name : List ℕ) (why : InputFlaw) (line : ℕ)
    → IsAhead told players asked (p ∷ rest) done → OfFile told p.trace (IsTraceFlaw asked) (IsRefusedTrace asked) name why line → OfTraces told players name why line
ahead-stops told players asked p rest done name why line a h =
    (a.speaks name line why (inl (h.0, h.1)), a.bad name why line (first-refused told asked p rest name why line h))

first-fails : (told : Option (List File)) (asked : Amounts) (p : Player) (rest : List Player) (name : List ℕ) → OnFile told p.trace name → IfTold told (FailsOnTrace asked (p ∷ rest) name)
first-fails None asked p rest name h = tt
first-fails (Some files) asked p rest name h = inl h

pub ahead-fails : (told : Option (List File)) (players : List Player) (asked : Amounts) (p : Player) (rest : List Player) (done : List (List Wish)) (name : List ℕ)
    → IsAhead told players asked (p ∷ rest) done → OnFile told p.trace name → OnTraces told players name
ahead-fails told players asked p rest done name a h = (a.names name (first-trace p rest name h.0), a.fails name (first-fails told asked p rest name h))

-- ---- the script before the traces

pub has_work : (told : Option (List File)) (cast : Cast) (orders : List Order) (traces : List (List Wish))
    → IfTold told (HasFile cast.script (λ f. IsScript (guests_of cast) orders f.bytes)) → IfTold told (HasTraces nothing cast.players traces)
    → IfTold told (HasWork cast (record { script = orders; traces = traces }))
has_work None cast orders traces s t = tt
has_work (Some files) cast orders traces s t = record { script = s; traces = t }

told-script : (told : Option (List File)) (cast : Cast) (name : List ℕ) (why : InputFlaw) (line : ℕ)
    → name ≡ cast.script → IfTold told (IsRefusedScript why line cast.script) → IfTold told (IsRefusedInput cast name line why)
told-script None cast name why line is h = tt
told-script (Some files) cast name why line is h = inl (is, h)

told-traces : (told : Option (List File)) (cast : Cast) (orders : List Order) (name : List ℕ) (why : InputFlaw) (line : ℕ)
    → IfTold told (HasFile cast.script (λ f. IsScript (guests_of cast) orders f.bytes)) → IfTold told (IsFirstRefused nothing cast.players name line why)
    → IfTold told (IsRefusedInput cast name line why)
told-traces None cast orders name why line s t = tt
told-traces (Some files) cast orders name why line s t = inr (orders, s, t)

pub script_refused : (told : Option (List File)) (cast : Cast) (name : List ℕ) (why : InputFlaw) (line : ℕ)
    → OfFile told cast.script IsScriptFlaw IsRefusedScript name why line → OfInputs told cast name why line
script_refused told cast name why line h = (inl (h.0, h.1), told-script told cast name why line h.0 h.2)

pub trace_refused : (told : Option (List File)) (cast : Cast) (orders : List Order) (name : List ℕ) (why : InputFlaw) (line : ℕ)
    → IfTold told (HasFile cast.script (λ f. IsScript (guests_of cast) orders f.bytes)) → OfTraces told cast.players name why line → OfInputs told cast name why line
trace_refused told cast orders name why line s t = (inr t.0, told-traces told cast orders name why line s t.1)

pub script_fails : (told : Option (List File)) (cast : Cast) (name : List ℕ) → OnFile told cast.script name → OnInputs told cast name
script_fails None cast name h = (inl h.0, tt)
script_fails (Some files) cast name h = (inl h.0, inl h)

pub trace_fails : (told : Option (List File)) (cast : Cast) (orders : List Order) (name : List ℕ)
    → IfTold told (HasFile cast.script (λ f. IsScript (guests_of cast) orders f.bytes)) → OnTraces told cast.players name → OnInputs told cast name
trace_fails None cast orders name s t = (inr t.0, tt)
trace_fails (Some files) cast orders name s t = (inr t.0, inr (orders, s, t.1))
