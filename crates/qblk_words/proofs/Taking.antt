-- Which words the program's command takes, and what it finds of them.
use Rattle.std.proofs.Common.{◌≡◌, ◌∙◌, ◌≤◌, ◌⊎◌, inl, inr, ℕ, Bool, true, false, refl, sym, ap, ap₂, subst, arith, List, [], ◌∷◌, length, Option, Some, None, codes}
use Rattle.std.specs.Prelude.{option_map, Box, nat_le, not}
use Rattle.std.proofs.lemmas.Bool.{leb-true}
use Rattle.std.specs.Box.{box_value}
use Rattle.clap.specs.Walk.{Row, Text, nothing_held, rows_of, rows_after, all_of}
use Rattle.clap.specs.Simple.{App, built, entered, argument_words, names_of, subcommand_of, subcommand_rows, subcommand_rows_of, is_simple, HasMatchesOf}
use Rattle.clap.specs.Matches.{found_of, subcommand_name_of}
use Rattle.clap.specs.Kinds.{HasKind, Kinds, or_else}
use Rattle.clap.specs.Values.{kind_of}
use Rattle.clap.specs.Faults.{fault_of, built_fault, is_simple_and_free}
use Rattle.clap.specs.declared.error.Error.{Error}
use Rattle.clap.specs.declared.error.kind.ErrorKind.TheVariants.{OutOfMemory}
use Rattle.clap.specs.declared.parser.matches.ArgMatches.{ArgMatches}
use Rattle.clap.specs.declared.parser.matches.ArgMatches.TheViews.{out-ArgMatches, out-SubCommand}
use Rattle.clap.specs.declared.parser.matches.SubCommand.{SubCommand}
use Rattle.clap.proofs.OnLiterals.{clap_on_literals}
use Rattle.clap.proofs.WalkLemmas.{both}
use Rattle.qblk_words.proofs.Flags.{io-plain, run-plain}
use Rattle.qblk_words.proofs.Top.{two_forms, found, fault-io, fault-run, found-io, found-run, names_form, not_true}
use Rattle.qblk_words.proofs.IoForm.{io_rules, io-taken, io-found, io-three}
use Rattle.qblk_words.proofs.RunForm.{run_rules, run-taken, run-found, run-two}
use Rattle.qblk_words.specs.Forms.{program_app, io_rows, run_rows, IsTaken}
use Rattle.std.specs.Prelude.{Err}
use Rattle.qblk_words.specs.Reading.{IsNoForm, Reads}
use Rattle.qblk_words.specs.declared.words.WordsStop.{WordsStop}
use Rattle.qblk_words.specs.declared.words.WordsStop.TheVariants.{Usage, NoMemory}
use Rattle.qblk_words.specs.Words.{is_flag, none_flags, are_players, format_word}

-- the facts of `clap`'s contract speak of this command
pub simple : is_simple_and_free program_app ≡ true
unfolding program_app clap_on_literals
simple = refl

built-is : built program_app ≡ two_forms io_rules run_rules
unfolding program_app
built-is = refl

all-words : (words : List Text) → argument_words program_app words ≡ words
unfolding program_app
all-words words = refl

fault-is : (words : List Text) → fault_of program_app words ≡ built_fault (two_forms io_rules run_rules) nothing_held words
unfolding program_app
fault-is words = refl

sub-is : (words : List Text) → subcommand_of program_app words ≡ found io_rules run_rules words
unfolding program_app
sub-is words = refl

-- ---- words of a form are taken

nothing-else : (k : Kinds) → k ≡ [] → or_else k [] ≡ []
nothing-else k e = ap (λ (x : Kinds). or_else x []) e

pub none-io : (f i t : Text) → none_flags (codes "io" ∷ f ∷ i ∷ t ∷ []) ≡ true → fault_of program_app (codes "io" ∷ f ∷ i ∷ t ∷ []) ≡ []
none-io f i t plain =
    let p = both (not (is_flag f)) _ plain in
    let q = both (not (is_flag i)) _ p.1 in
    let r = both (not (is_flag t)) _ q.1 in
    fault-is (codes "io" ∷ f ∷ i ∷ t ∷ []) ∙ (fault-io io_rules run_rules (f ∷ i ∷ t ∷ [])
    ∙ nothing-else _ (io-taken f i t (not_true (is_flag f) p.0) (not_true (is_flag i) q.0) (not_true (is_flag t) r.0)))

pub none-run : (w s : Text) (gs : List Text) → none_flags (codes "run" ∷ w ∷ s ∷ gs) ≡ true → length gs ≤ 16 → fault_of program_app (codes "run" ∷ w ∷ s ∷ gs) ≡ []
none-run w s gs plain few =
    fault-is (codes "run" ∷ w ∷ s ∷ gs) ∙ (fault-run io_rules run_rules (w ∷ s ∷ gs) ∙ nothing-else _ (run-taken w s gs plain few))

few_players : (ws : List Text) → are_players ws ≡ true → length ws ≤ 16
few_players ws e = leb-true (length ws) 16 (both (nat_le (length ws) 16) _ e).0

without : (kinds : Kinds) (e : Error) → kinds ≡ [] → HasKind kinds e → (kind_of e ≡ OutOfMemory → ⊥) → ⊥
without kinds e none has other = elim (subst (λ (ks : Kinds). HasKind ks e) none has) [
  | inl memory ↦ other memory
  | inr among ↦ among
]

-- words that are refused for another reason than memory are of no form
pub refused-none : (words : List Text) (e : Error) → HasKind (fault_of program_app words) e → (kind_of e ≡ OutOfMemory → ⊥) → IsNoForm words
refused-none words e has other = record {
  io = λ format image trace is.
      without (fault_of program_app words) e (ap (fault_of program_app) is.form
      ∙ none-io (format_word format) image trace (io-plain format image trace is.image_name is.trace_name)) has other;
  run = λ cast is.
      without (fault_of program_app words) e (ap (fault_of program_app) is.form
      ∙ none-run (codes "1") cast.script is.rest (run-plain cast.script is.rest is.script_name is.players) (few_players is.rest is.players)) has other;
}

-- ---- what is found

module _ {Z : Type 0} where
  name_of_rows : (s : Option (Box SubCommand Z)) → option_map (λ (p : Text × List Row). p.0) (subcommand_rows s) ≡ option_map (λ (b : Box SubCommand Z). (out-SubCommand (box_value b)).name.now) s
  name_of_rows None = refl
  name_of_rows (Some b) = refl

pub record FoundIo (words : List Text) (rows : List Row) : Type 0 where
  pub format : Text
  pub image : Text
  pub trace : Text
  pub form : words ≡ codes "io" ∷ format ∷ image ∷ trace ∷ []
  pub rows_are : rows ≡ io_rows format image trace

pub record FoundRun (words : List Text) (rows : List Row) : Type 0 where
  pub workers : Text
  pub script : Text
  pub guests : List Text
  pub form : words ≡ codes "run" ∷ workers ∷ script ∷ guests
  pub rows_are : rows ≡ run_rows workers script guests

left-nothing : (k : Kinds) → or_else k [] ≡ [] → k ≡ []
left-nothing [] e = refl
left-nothing (k ∷ ks) e = cc

pub some_is : {A : Type 0} {x y : A} → Some x ≡ Some y → x ≡ y
some_is e = cc

pub none_found : false ≡ true → ⊥
none_found e = cc

pub none_is : {A B : Type 0} {x : A} → None ≡ Some x → B
none_is e = cc

io-words : (rest : List Text) (rows : List Row) → none_flags (codes "io" ∷ rest) ≡ true → fault_of program_app (codes "io" ∷ rest) ≡ []
    → subcommand_of program_app (codes "io" ∷ rest) ≡ Some (codes "io", rows) → FoundIo (codes "io" ∷ rest) rows
io-words rest rows plain none found =
    let three = io-three rest plain (left-nothing _ (sym (fault-io io_rules run_rules rest) ∙ (sym (fault-is (codes "io" ∷ rest)) ∙ none))) in
    let flags : none_flags (three.0 ∷ three.1 ∷ three.2 ∷ []) ≡ true = subst (λ (ws : List Text). none_flags ws ≡ true) three.3 plain in
    let p = both (not (is_flag three.0)) _ flags in
    let q = both (not (is_flag three.1)) _ p.1 in
    let r = both (not (is_flag three.2)) _ q.1 in
    record {
      format = three.0;
      image = three.1;
      trace = three.2;
      form = ap (λ (ws : List Text). codes "io" ∷ ws) three.3;
      rows_are = ap (λ (p : Text × List Row). p.1) (some_is (sym found ∙ (sub-is (codes "io" ∷ rest) ∙ found-io io_rules run_rules rest)))
          ∙ (ap (rows_after io_rules []) three.3
          ∙ io-found three.0 three.1 three.2 (not_true (is_flag three.0) p.0) (not_true (is_flag three.1) q.0) (not_true (is_flag three.2) r.0));
    }

run-words : (rest : List Text) (rows : List Row) → none_flags (codes "run" ∷ rest) ≡ true → fault_of program_app (codes "run" ∷ rest) ≡ []
    → subcommand_of program_app (codes "run" ∷ rest) ≡ Some (codes "run", rows) → FoundRun (codes "run" ∷ rest) rows
run-words rest rows plain none found =
    let two = run-two rest plain (left-nothing _ (sym (fault-run io_rules run_rules rest) ∙ (sym (fault-is (codes "run" ∷ rest)) ∙ none))) in
    let flags : none_flags (two.0 ∷ two.1 ∷ two.2) ≡ true = subst (λ (ws : List Text). none_flags ws ≡ true) two.3 plain in
    record {
      workers = two.0;
      script = two.1;
      guests = two.2;
      form = ap (λ (ws : List Text). codes "run" ∷ ws) two.3;
      rows_are = ap (λ (p : Text × List Row). p.1) (some_is (sym found ∙ (sub-is (codes "run" ∷ rest) ∙ found-run io_rules run_rules rest)))
          ∙ (ap (rows_after run_rules []) two.3 ∙ run-found two.0 two.1 two.2 flags);
    }

read_name : (m : ArgMatches) → subcommand_name_of m ≡ option_map (λ (p : Text × List Row). p.0) (subcommand_rows_of m)
read_name m = sym (name_of_rows (out-ArgMatches m).subcommand)

io-or-run : (words : List Text) → none_flags words ≡ true → fault_of program_app words ≡ []
    → ((rest : List Text) × (words ≡ codes "io" ∷ rest)) ⊎ ((rest : List Text) × (words ≡ codes "run" ∷ rest))
io-or-run words plain none = names_form io_rules run_rules words plain (sym (fault-is words) ∙ none)

-- the name that is found is that of the first word
io-name : (m : ArgMatches) (rest : List Text) → IsTaken (codes "io" ∷ rest) m → subcommand_name_of m ≡ Some (codes "io")
io-name m rest t = read_name m ∙ ap (option_map (λ (p : Text × List Row). p.0)) (t.found ∙ (sub-is (codes "io" ∷ rest) ∙ found-io io_rules run_rules rest))

run-name : (m : ArgMatches) (rest : List Text) → IsTaken (codes "run" ∷ rest) m → subcommand_name_of m ≡ Some (codes "run")
run-name m rest t = read_name m ∙ ap (option_map (λ (p : Text × List Row). p.0)) (t.found ∙ (sub-is (codes "run" ∷ rest) ∙ found-run io_rules run_rules rest))

not-both : Some (codes "io") ≡ Some (codes "run") → ⊥
not-both e = cc

sub_rows : ArgMatches → Option (List Row)
sub_rows m = option_map (λ (p : Text × List Row). p.1) (subcommand_rows_of m)

pub io-of : (words : List Text) (m : ArgMatches) (rows : List Row) → IsTaken words m → subcommand_name_of m ≡ Some (codes "io")
    → option_map (λ (p : Text × List Row). p.1) (subcommand_rows_of m) ≡ Some rows → FoundIo words rows
io-of words m rows t name has = elim (io-or-run words t.plain t.none) [
  | inl io ↦
      let its = subst (λ (ws : List Text). IsTaken ws m) io.1 t in
      let is = its.found ∙ (sub-is (codes "io" ∷ io.0) ∙ found-io io_rules run_rules io.0) in
      let same : rows_after io_rules [] io.0 ≡ rows = some_is (sym (ap (option_map (λ (p : Text × List Row). p.1)) is) ∙ has) in
      subst (λ (ws : List Text). FoundIo ws rows) (sym io.1)
      (io-words io.0 rows its.plain its.none (sub-is (codes "io" ∷ io.0) ∙ (found-io io_rules run_rules io.0 ∙ ap (λ (r : List Row). Some (codes "io", r)) same)))
  | inr run ↦ absurd (not-both (sym name ∙ run-name m run.0 (subst (λ (ws : List Text). IsTaken ws m) run.1 t)))
]

pub run-of : (words : List Text) (m : ArgMatches) (rows : List Row) → IsTaken words m → subcommand_name_of m ≡ Some (codes "run")
    → option_map (λ (p : Text × List Row). p.1) (subcommand_rows_of m) ≡ Some rows → FoundRun words rows
run-of words m rows t name has = elim (io-or-run words t.plain t.none) [
  | inl io ↦ absurd (not-both (sym (io-name m io.0 (subst (λ (ws : List Text). IsTaken ws m) io.1 t)) ∙ name))
  | inr run ↦
      let its = subst (λ (ws : List Text). IsTaken ws m) run.1 t in
      let is = its.found ∙ (sub-is (codes "run" ∷ run.0) ∙ found-run io_rules run_rules run.0) in
      let same : rows_after run_rules [] run.0 ≡ rows = some_is (sym (ap (option_map (λ (p : Text × List Row). p.1)) is) ∙ has) in
      subst (λ (ws : List Text). FoundRun ws rows) (sym run.1)
      (run-words run.0 rows its.plain its.none (sub-is (codes "run" ∷ run.0) ∙ (found-run io_rules run_rules run.0 ∙ ap (λ (r : List Row). Some (codes "run", r)) same)))
]

pub one-of : (words : List Text) (m : ArgMatches) → IsTaken words m → (subcommand_name_of m ≡ Some (codes "io") → ⊥) → (subcommand_name_of m ≡ Some (codes "run") → ⊥) → ⊥
one-of words m t no-io no-run = elim (io-or-run words t.plain t.none) [
  | inl io ↦ no-io (io-name m io.0 (subst (λ (ws : List Text). IsTaken ws m) io.1 t))
  | inr run ↦ no-run (run-name m run.0 (subst (λ (ws : List Text). IsTaken ws m) run.1 t))
]

-- ---- what `clap` promises

pub taken-by : (a : App) (words : List Text) (m : ArgMatches) → a ≡ program_app → none_flags words ≡ true
    → (is_simple_and_free a ≡ true → fault_of a words ≡ []) → HasMatchesOf a words m → IsTaken words m
taken-by a words m is plain none matches = record {
  plain = plain;
  none = sym (ap (λ (x : App). fault_of x words) is) ∙ none (ap is_simple_and_free is ∙ simple);
  found = (matches (ap is_simple is ∙ (both (is_simple program_app) _ simple).0)).1 ∙ ap (λ (x : App). subcommand_of x words) is;
}

pub refused-by : (a : App) (words : List Text) (e : Error) → a ≡ program_app → (is_simple_and_free a ≡ true → HasKind (fault_of a words) e)
    → (kind_of e ≡ OutOfMemory → ⊥) → IsNoForm words
refused-by a words e is has other =
    refused-none words e (subst (λ (x : App). HasKind (fault_of x words) e) is (has (ap is_simple_and_free is ∙ simple))) other

-- ---- the guests

pub guests-some : (workers script : Text) (gs xs : List Text) → Some xs ≡ all_of (codes "guests") (run_rows workers script gs) → xs ≡ gs
guests-some workers script [] xs e = cc
guests-some workers script (g ∷ gs) xs e = some_is e

pub guests-none : (workers script : Text) (gs : List Text) → None ≡ all_of (codes "guests") (run_rows workers script gs) → [] ≡ gs
guests-none workers script [] e = refl
guests-none workers script (g ∷ gs) e = cc

-- what a refusal reads as, by the reason that it is told for
pub refused-reads : (words : List Text) (stop : WordsStop) (A : Type 0) → ((stop ≡ NoMemory) ⊎ ((stop ≡ Usage) × A)) → (A → IsNoForm words) → Reads words (Err stop)
refused-reads words stop A (inl memory) none = subst (λ (s : WordsStop). Reads words (Err s)) (sym memory) tt
refused-reads words stop A (inr usage) none = subst (λ (s : WordsStop). Reads words (Err s)) (sym usage.0) (none usage.1)
