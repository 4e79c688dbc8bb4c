-- The first word, which names the form.
use Rattle.std.proofs.Common.{◌≡◌, ◌∙◌, ◌⊎◌, inl, inr, ℕ, Bool, true, false, refl, sym, ap, ap₂, List, [], ◌∷◌, ◌++◌, append_assoc, append-nil, Option, Some, None, codes, bytes_eq}
use Rattle.std.specs.Prelude.{fold, is_some, not}
use Rattle.std.specs.List.{list_all}
use Rattle.std.proofs.lemmas.Slice.Eq.{bytes_eq-Decides}
use Rattle.clap.specs.Walk.{Held, Names, Rule, Row, Text, Walk, idle, walk, walked, walk_from, nothing_held, rows_after, settled, finished}
use Rattle.clap.specs.Simple.{App, Shape, built, names_of, subcommand_of, entered}
use Rattle.clap.specs.Kinds.{Kinds, or_else}
use Rattle.clap.specs.Faults.{fault_of, built_fault, walk_fault, turn_fault, level_fault, entered_fault, settle_fault, defaults_fault, check_fault}
use Rattle.clap.specs.declared.error.kind.ErrorKind.TheVariants.{UnknownArgument, InvalidSubcommand}
use Rattle.clap.proofs.WalkLemmas.{both}
use Rattle.qblk_words.proofs.Plain.{plain-word}
use Rattle.qblk_words.specs.Words.{is_flag}

pub not_true : (b : Bool) → not b ≡ true → b ≡ false
not_true true e = cc
not_true false e = refl

-- ---- behind the word that names a form

abbrev left_to : Walk → Text → List Text → Walk
left_to w name rest = record w { stopped = Some (name, rest) }

walk-left : (c : List Rule) (ns : Names) (w : Walk) (name : Text) (seen rest : List Text)
    → fold (walked c ns) (left_to w name seen) rest ≡ left_to w name (seen ++ rest)
unfolding walked
walk-left c ns w name seen [] = ap (left_to w name) (sym (append-nil seen))
walk-left c ns w name seen (word ∷ rest) =
    walk-left c ns w name (seen ++ word ∷ []) rest ∙ ap (left_to w name) (append_assoc seen (word ∷ []) rest)

fault-left : (s : Shape) (ns : Names) (w : Walk) (name : Text) (seen rest : List Text) → walk_fault s ns (left_to w name seen) rest ≡ []
unfolding walked walk_fault
fault-left s ns w name seen [] = refl
fault-left s ns w name seen (word ∷ rest) = fault-left s ns w name (seen ++ word ∷ []) rest

-- ---- what building makes of the command

-- a form, with its positional arguments
abbrev pub form : Text → List Rule → Shape
form name rules = record {
  name = name;
  aliases = [];
  rules = rules;
  is_plain = true;
  is_leaf = true;
  no_binary_name = true;
  disable_help_flag = true;
  disable_help_subcommand = true;
  disable_version_flag = true;
  propagate_version = false;
  has_version = false;
  has_long_version = false;
  args_override_self = false;
  arg_required_else_help = false;
  subcommand_required = false;
  subcommand_negates_reqs = false;
  is_built = true;
}

abbrev pub two_forms : List Rule → List Rule → App
two_forms io run = record {
  top = record (form (codes "qblk") []) { is_leaf = false; subcommand_required = true };
  subs = form (codes "io") io ∷ form (codes "run") run ∷ [];
}

abbrev names : Names
names = (codes "io", []) ∷ (codes "run", []) ∷ []

module _ (io run : List Rule) where
  abbrev app : App
  app = two_forms io run

  -- ---- the kinds of refusal, by where the walk over the words ends

  abbrev top_kinds : Walk → Kinds → Kinds
  top_kinds v walking =
      or_else walking (or_else (entered_fault app v.stopped)
      (or_else (settle_fault [] false v.held) (or_else (defaults_fault (settled [] v.held).rows [])
      (check_fault app.top (finished [] v.held) (is_some (entered app v.stopped))))))

  by_walk : (words : List Text) → built_fault app nothing_held words ≡ top_kinds (walk [] names nothing_held words) (walk_fault app.top names (walk_from nothing_held) words)
  by_walk words = refl

  abbrev behind : Text → List Text → Walk
  behind name rest = left_to (walk_from nothing_held) name rest

  walk-io : (rest : List Text) → walk [] names nothing_held (codes "io" ∷ rest) ≡ behind (codes "io") rest
  unfolding walked
  walk-io rest = walk-left [] names (walk_from nothing_held) (codes "io") [] rest

  walk-run : (rest : List Text) → walk [] names nothing_held (codes "run" ∷ rest) ≡ behind (codes "run") rest
  unfolding walked
  walk-run rest = walk-left [] names (walk_from nothing_held) (codes "run") [] rest

  turns-io : (rest : List Text) → walk_fault app.top names (walk_from nothing_held) (codes "io" ∷ rest) ≡ []
  unfolding walked walk_fault
  turns-io rest = fault-left app.top names (walk_from nothing_held) (codes "io") [] rest

  turns-run : (rest : List Text) → walk_fault app.top names (walk_from nothing_held) (codes "run" ∷ rest) ≡ []
  unfolding walked walk_fault
  turns-run rest = fault-left app.top names (walk_from nothing_held) (codes "run") [] rest

  entered-io : (rest : List Text) → top_kinds (behind (codes "io") rest) [] ≡ or_else (level_fault (form (codes "io") io) [] nothing_held rest false []) []
  unfolding defaults_fault
  entered-io rest = refl

  entered-run : (rest : List Text) → top_kinds (behind (codes "run") rest) [] ≡ or_else (level_fault (form (codes "run") run) [] nothing_held rest false []) []
  unfolding defaults_fault
  entered-run rest = refl

  pub fault-io : (rest : List Text) → built_fault app nothing_held (codes "io" ∷ rest) ≡ or_else (level_fault (form (codes "io") io) [] nothing_held rest false []) []
  fault-io rest =
      by_walk (codes "io" ∷ rest) ∙ (ap (λ (v : Walk). top_kinds v (walk_fault app.top names (walk_from nothing_held) (codes "io" ∷ rest))) (walk-io rest)
      ∙ (ap (top_kinds (behind (codes "io") rest)) (turns-io rest) ∙ entered-io rest))

  pub fault-run : (rest : List Text) → built_fault app nothing_held (codes "run" ∷ rest) ≡ or_else (level_fault (form (codes "run") run) [] nothing_held rest false []) []
  fault-run rest =
      by_walk (codes "run" ∷ rest) ∙ (ap (λ (v : Walk). top_kinds v (walk_fault app.top names (walk_from nothing_held) (codes "run" ∷ rest))) (walk-run rest)
      ∙ (ap (top_kinds (behind (codes "run") rest)) (turns-run rest) ∙ entered-run rest))

  -- ---- what is found

  abbrev pub found : List Text → Option (Text × List Row)
  found words = entered app (walk [] names nothing_held words).stopped

  pub found-io : (rest : List Text) → found (codes "io" ∷ rest) ≡ Some (codes "io", rows_after io [] rest)
  found-io rest = ap (λ (v : Walk). entered app v.stopped) (walk-io rest)

  pub found-run : (rest : List Text) → found (codes "run" ∷ rest) ≡ Some (codes "run", rows_after run [] rest)
  found-run rest = ap (λ (v : Walk). entered app v.stopped) (walk-run rest)

  -- ---- words that name no form

  no-words : built_fault app nothing_held [] ≡ [] → ⊥
  unfolding defaults_fault walk_fault
  no-words e = cc

  stray : (w : Text) → is_flag w ≡ false → bytes_eq (codes "io") w ≡ false → bytes_eq (codes "run") w ≡ false
      → turn_fault app.top names (walk_from nothing_held) w ≡ UnknownArgument ∷ InvalidSubcommand ∷ []
  stray w plain is also =
      let p = plain-word w plain in
      rw (is, also, p.2, p.0, p.1) refl

  turns-other : (w : Text) (rest : List Text) → is_flag w ≡ false → bytes_eq (codes "io") w ≡ false → bytes_eq (codes "run") w ≡ false
      → walk_fault app.top names (walk_from nothing_held) (w ∷ rest) ≡ UnknownArgument ∷ InvalidSubcommand ∷ []
  unfolding walk_fault
  turns-other w rest plain is also = ap (λ (k : Kinds). or_else k (walk_fault app.top names (walked [] names (walk_from nothing_held) w) rest)) (stray w plain is also)

  other : (w : Text) (rest : List Text) → is_flag w ≡ false → bytes_eq (codes "io") w ≡ false → bytes_eq (codes "run") w ≡ false
      → built_fault app nothing_held (w ∷ rest) ≡ [] → ⊥
  other w rest plain is also e =
      let k : UnknownArgument ∷ InvalidSubcommand ∷ [] ≡ [] =
      sym (ap (top_kinds (walk [] names nothing_held (w ∷ rest))) (turns-other w rest plain is also)) ∙ (sym (by_walk (w ∷ rest)) ∙ e) in
      cc

  -- words that are taken begin with the name of a form
  pub names_form : (words : List Text) → list_all (λ w. not (is_flag w)) words ≡ true → built_fault app nothing_held words ≡ []
      → ((rest : List Text) × (words ≡ codes "io" ∷ rest)) ⊎ ((rest : List Text) × (words ≡ codes "run" ∷ rest))
  names_form [] plain e = absurd (no-words e)
  names_form (w ∷ rest) plain e = go (bytes_eq (codes "io") w) (bytes_eq (codes "run") w) refl refl
    where
      go : (a b : Bool) → bytes_eq (codes "io") w ≡ a → bytes_eq (codes "run") w ≡ b
          → ((r : List Text) × (w ∷ rest ≡ codes "io" ∷ r)) ⊎ ((r : List Text) × (w ∷ rest ≡ codes "run" ∷ r))
      go true b is also = inl (rest, ap (λ (x : Text). x ∷ rest) (sym ((bytes_eq-Decides (codes "io") w).0 is)))
      go false true is also = inr (rest, ap (λ (x : Text). x ∷ rest) (sym ((bytes_eq-Decides (codes "run") w).0 also)))
      go false false is also = absurd (other w rest (not_true (is_flag w) (both (not (is_flag w)) _ plain).0) is also e)
