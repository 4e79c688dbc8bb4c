-- The words behind `run`.
use Rattle.std.proofs.Common.{◌≡◌, ◌∙◌, ◌≤◌, ℕ, Bool, true, false, refl, sym, ap, ap₂, arith, List, [], ◌∷◌, ◌++◌, length, append_assoc, append-nil, Some, None, codes}
use Rattle.std.specs.Prelude.{not, fold, nat_lt}
use Rattle.std.specs.List.{list_all}
use Rattle.clap.specs.Walk.{Held, Row, Rule, Text, Walk, walk, walked, walk_from, nothing_held, finished, rows_after}
use Rattle.clap.specs.Simple.{Shape, new_rule}
use Rattle.clap.specs.Kinds.{Kinds, or_else, values_kinds, range_kinds}
use Rattle.clap.specs.Faults.{walk_fault, level_fault, defaults_fault, settle_fault}
use Rattle.clap.specs.declared.builder.action.ArgAction.TheVariants.{Set}
use Rattle.clap.specs.declared.builder.value_parser.ValueParser.TheVariants as vp
use Rattle.clap.specs.declared.error.kind.ErrorKind.TheVariants.{MissingRequiredArgument}
use Rattle.clap.proofs.WalkLemmas.{both}
use Rattle.qblk_words.proofs.Plain.{at_place, amid, step-here, step-more, fault-here, fault-more}
use Rattle.qblk_words.proofs.Top.{form, not_true}
use Rattle.qblk_words.proofs.Level.{word_at, level_kinds, by_level}
use Rattle.qblk_words.specs.Forms.{row, run_rows}
use Rattle.qblk_words.specs.Words.{is_flag, none_flags}

abbrev guests_at : Rule
guests_at = record (new_rule (codes "guests")) {
  index = Some 3;
  action = Some Set;
  range = Some (record { start_inclusive = 1; end_inclusive = 16 });
  parser = Some vp.String;
}

abbrev pub run_rules : List Rule
run_rules = word_at (codes "workers") 1 ∷ word_at (codes "script") 2 ∷ guests_at ∷ []

abbrev level : Shape
level = form (codes "run") run_rules

-- ---- after each word

abbrev one : Text → Walk
one w = at_place 2 (record { rows = []; pending = Some (codes "workers", w ∷ []); skip = 0 })

abbrev two : Text → Text → Walk
two w s = at_place 3 (record { rows = row (codes "workers") (w ∷ []) ∷ []; pending = Some (codes "script", s ∷ []); skip = 0 })

abbrev many : Text → Text → List Text → Walk
many w s gs = amid 3 (record { rows = row (codes "workers") (w ∷ []) ∷ row (codes "script") (s ∷ []) ∷ []; pending = Some (codes "guests", gs); skip = 0 })

walk-one : (w : Text) → is_flag w ≡ false → walked run_rules [] (walk_from nothing_held) w ≡ one w
walk-one w plain = step-here run_rules 1 w nothing_held plain

walk-two : (w s : Text) → is_flag s ≡ false → walked run_rules [] (one w) s ≡ two w s
walk-two w s plain = step-here run_rules 2 s (one w).held plain

walk-three : (w s g : Text) → is_flag g ≡ false → walked run_rules [] (two w s) g ≡ many w s (g ∷ [])
walk-three w s g plain = step-here run_rules 3 g (two w s).held plain

walk-more : (w s : Text) (gs : List Text) (g : Text) → is_flag g ≡ false → walked run_rules [] (many w s gs) g ≡ many w s (gs ++ g ∷ [])
walk-more w s gs g plain = step-more run_rules 3 g (many w s gs).held plain

turns-one : (w : Text) (rest : List Text) → is_flag w ≡ false → walk_fault level [] (walk_from nothing_held) (w ∷ rest) ≡ walk_fault level [] (one w) rest
turns-one w rest plain = fault-here level 1 w nothing_held rest plain

turns-two : (w s : Text) (rest : List Text) → is_flag s ≡ false → walk_fault level [] (one w) (s ∷ rest) ≡ walk_fault level [] (two w s) rest
turns-two w s rest plain = fault-here level 2 s (one w).held rest plain

turns-three : (w s g : Text) (rest : List Text) → is_flag g ≡ false → walk_fault level [] (two w s) (g ∷ rest) ≡ walk_fault level [] (many w s (g ∷ [])) rest
turns-three w s g rest plain = fault-here level 3 g (two w s).held rest plain

turns-more : (w s : Text) (gs : List Text) (g : Text) (rest : List Text) → is_flag g ≡ false
    → walk_fault level [] (many w s gs) (g ∷ rest) ≡ walk_fault level [] (many w s (gs ++ g ∷ [])) rest
turns-more w s gs g rest plain = fault-more level 3 g (many w s gs).held rest plain

first-plain : (w : Text) (rest : List Text) → none_flags (w ∷ rest) ≡ true → is_flag w ≡ false
first-plain w rest plain = not_true (is_flag w) (both (not (is_flag w)) _ plain).0

rest-plain : (w : Text) (rest : List Text) → none_flags (w ∷ rest) ≡ true → none_flags rest ≡ true
rest-plain w rest plain = (both (not (is_flag w)) _ plain).1

-- ---- any number of guests

walk-all : (w s : Text) (gs rest : List Text) → none_flags rest ≡ true → fold (walked run_rules []) (many w s gs) rest ≡ many w s (gs ++ rest)
walk-all w s gs [] plain = ap (many w s) (sym (append-nil gs))
walk-all w s gs (g ∷ rest) plain =
    ap (λ (v : Walk). fold (walked run_rules []) v rest) (walk-more w s gs g (first-plain g rest plain))
    ∙ (walk-all w s (gs ++ g ∷ []) rest (rest-plain g rest plain) ∙ ap (many w s) (append_assoc gs (g ∷ []) rest))

turns-all : (w s : Text) (gs rest : List Text) → none_flags rest ≡ true → walk_fault level [] (many w s gs) rest ≡ []
unfolding walk_fault
turns-all w s gs [] plain = refl
turns-all w s gs (g ∷ rest) plain = turns-more w s gs g rest (first-plain g rest plain) ∙ turns-all w s (gs ++ g ∷ []) rest (rest-plain g rest plain)

-- where the walk ends behind all of them
abbrev last : Text → Text → List Text → Walk
last w s [] = two w s
last w s (g ∷ gs) = many w s (g ∷ gs)

walk-end : (w s : Text) (gs : List Text) → none_flags (w ∷ s ∷ gs) ≡ true → walk run_rules [] nothing_held (w ∷ s ∷ gs) ≡ last w s gs
walk-end w s [] plain =
    ap (λ (v : Walk). walked run_rules [] v s) (walk-one w (first-plain w (s ∷ []) plain)) ∙ walk-two w s (first-plain s [] (rest-plain w (s ∷ []) plain))
walk-end w s (g ∷ gs) plain =
    let more = rest-plain w (s ∷ g ∷ gs) plain in
    let most = rest-plain s (g ∷ gs) more in
    ap (λ (v : Walk). fold (walked run_rules []) (walked run_rules [] (walked run_rules [] v s) g) gs) (walk-one w (first-plain w (s ∷ g ∷ gs) plain))
    ∙ (ap (λ (v : Walk). fold (walked run_rules []) (walked run_rules [] v g) gs) (walk-two w s (first-plain s (g ∷ gs) more))
    ∙ (ap (λ (v : Walk). fold (walked run_rules []) v gs) (walk-three w s g (first-plain g gs most)) ∙ walk-all w s (g ∷ []) gs (rest-plain g gs most)))

turns-end : (w s : Text) (gs : List Text) → none_flags (w ∷ s ∷ gs) ≡ true → walk_fault level [] (walk_from nothing_held) (w ∷ s ∷ gs) ≡ []
unfolding walk_fault
turns-end w s [] plain = turns-one w (s ∷ []) (first-plain w (s ∷ []) plain) ∙ turns-two w s [] (first-plain s [] (rest-plain w (s ∷ []) plain))
turns-end w s (g ∷ gs) plain =
    let more = rest-plain w (s ∷ g ∷ gs) plain in
    let most = rest-plain s (g ∷ gs) more in
    turns-one w (s ∷ g ∷ gs) (first-plain w (s ∷ g ∷ gs) plain) ∙ (turns-two w s (g ∷ gs) (first-plain s (g ∷ gs) more)
    ∙ (turns-three w s g gs (first-plain g gs most) ∙ turns-all w s (g ∷ []) gs (rest-plain g gs most)))

-- ---- which words are refused

abbrev fault : List Text → Kinds
fault words = level_fault level [] nothing_held words false []

at_end : (words : List Text) (v : Walk) (k : Kinds) → walk run_rules [] nothing_held words ≡ v → walk_fault level [] (walk_from nothing_held) words ≡ k
    → fault words ≡ level_kinds (codes "run") run_rules v k
at_end words v k walking turns = by_level (codes "run") run_rules words ∙ ap₂ (level_kinds (codes "run") run_rules) walking turns

none : fault [] ≡ MissingRequiredArgument ∷ []
unfolding walk_fault defaults_fault
none = refl

after-one : (w : Text) → level_kinds (codes "run") run_rules (one w) (walk_fault level [] (one w) []) ≡ MissingRequiredArgument ∷ []
unfolding walk_fault defaults_fault
after-one w = refl

-- each value is taken
any_values : (vs : List Text) → values_kinds false vp.String vs ≡ []
any_values [] = refl
any_values (v ∷ vs) = any_values vs

in_range : (n : ℕ) → 1 ≤ n → n ≤ 16 → range_kinds 1 16 n ≡ []
in_range n low high = grind (arith, low, high)

settle-many : (w s g : Text) (gs : List Text) → length (g ∷ gs) ≤ 16 → settle_fault run_rules false (many w s (g ∷ gs)).held ≡ []
settle-many w s g gs few =
    ap (λ (k : Kinds). or_else k (values_kinds false vp.String (g ∷ gs))) (in_range (length (g ∷ gs)) (omega arith) few) ∙ any_values (g ∷ gs)

after-end : (w s : Text) (gs : List Text) → length gs ≤ 16 → level_kinds (codes "run") run_rules (last w s gs) [] ≡ []
unfolding defaults_fault
after-end w s [] few = refl
after-end w s (g ∷ gs) few = ap (λ (k : Kinds). or_else k []) (settle-many w s g gs few)

pub run-taken : (w s : Text) (gs : List Text) → none_flags (w ∷ s ∷ gs) ≡ true → length gs ≤ 16 → fault (w ∷ s ∷ gs) ≡ []
run-taken w s gs plain few = at_end (w ∷ s ∷ gs) (last w s gs) [] (walk-end w s gs plain) (turns-end w s gs plain) ∙ after-end w s gs few

found-last : (w s : Text) (gs : List Text) → finished run_rules (last w s gs).held ≡ run_rows w s gs
found-last w s [] = refl
found-last w s (g ∷ gs) = refl

pub run-found : (w s : Text) (gs : List Text) → none_flags (w ∷ s ∷ gs) ≡ true → rows_after run_rules [] (w ∷ s ∷ gs) ≡ run_rows w s gs
run-found w s gs plain = ap (λ (v : Walk). finished run_rules v.held) (walk-end w s gs plain) ∙ found-last w s gs

-- words that are taken are two or more
pub run-two : (words : List Text) → none_flags words ≡ true → fault words ≡ [] → (w s : Text) × (gs : List Text) × (words ≡ w ∷ s ∷ gs)
run-two [] plain e =
    let k : MissingRequiredArgument ∷ [] ≡ [] = sym none ∙ e in
    cc
run-two (w ∷ []) plain e =
    let pw = first-plain w [] plain in
    let k : MissingRequiredArgument ∷ [] ≡ [] = sym (at_end (w ∷ []) (one w) (walk_fault level [] (one w) []) (walk-one w pw) (turns-one w [] pw) ∙ after-one w) ∙ e in
    cc
run-two (w ∷ s ∷ gs) plain e = (w, s, gs, refl)
