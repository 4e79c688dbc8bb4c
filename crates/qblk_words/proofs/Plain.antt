-- What `clap` makes of words that are no flags.
use Rattle.std.proofs.Common.{◌≡◌, ◌∙◌, ◌==◌, ℕ, true, false, refl, ap, List, [], ◌∷◌, None, bytes_eq}
use Rattle.std.specs.Prelude.{if◌then◌else◌}
use Rattle.clap.specs.Lexer.{long_of, short_of}
use Rattle.clap.specs.Walk.{Held, Names, Rule, Step, Text, Walk, idle, positional, value, to_positional, after_step, walked, word_met, arg_by_index}
use Rattle.clap.specs.Simple.{Shape}
use Rattle.clap.specs.Kinds.{Kinds, or_else}
use Rattle.clap.specs.Faults.{walk_fault, turn_fault, word_fault, step_fault}
use Rattle.qblk_words.specs.Words.{is_flag}

plain_head : (x : ℕ) (xs : List ℕ) → (x == 45) ≡ false
    → (long_of (x ∷ xs) ≡ None) × (short_of (x ∷ xs) ≡ None) × (bytes_eq (x ∷ xs) (45 ∷ 45 ∷ []) ≡ false)
plain_head x xs h = (rw h refl, rw h refl, rw h refl)

pub plain-word : (w : List ℕ) → is_flag w ≡ false
    → (long_of w ≡ None) × (short_of w ≡ None) × (bytes_eq w (45 ∷ 45 ∷ []) ≡ false)
plain-word [] h = (refl, refl, refl)
plain-word (x ∷ xs) h = plain_head x xs h

-- ---- a command without subcommands, whose positionals wait for the word

met_here : (c : List Rule) (position : ℕ) (w : Text) (h : Held) → is_flag w ≡ false → word_met c [] false idle position w h ≡ (h, value)
met_here c position w h plain =
    let p = plain-word w plain in
    rw (p.2, p.0, p.1) refl

met_more : (c : List Rule) (position : ℕ) (w : Text) (h : Held) → is_flag w ≡ false → word_met c [] false positional position w h ≡ (h, value)
met_more c position w h plain =
    let p = plain-word w plain in
    rw (p.2, p.0, p.1) refl

-- between two words: the next one goes to the positional at this place
abbrev pub at_place : ℕ → Held → Walk
at_place position h = record { held = h; waiting = idle; position = position; is_trailing = false; stopped = None }

-- or is one more of a positional of several
abbrev pub amid : ℕ → Held → Walk
amid position h = record { held = h; waiting = positional; position = position; is_trailing = false; stopped = None }

pub step-here : (c : List Rule) (position : ℕ) (w : Text) (h : Held) → is_flag w ≡ false
    → walked c [] (at_place position h) w ≡ to_positional c (arg_by_index c position) w (at_place position h) h
unfolding walked
step-here c position w h plain = ap (λ (p : Held × Step). after_step c w (at_place position h) p.0 p.1) (met_here c position w h plain)

pub step-more : (c : List Rule) (position : ℕ) (w : Text) (h : Held) → is_flag w ≡ false
    → walked c [] (amid position h) w ≡ to_positional c (arg_by_index c position) w (amid position h) h
unfolding walked
step-more c position w h plain = ap (λ (p : Held × Step). after_step c w (amid position h) p.0 p.1) (met_more c position w h plain)

word_here : (s : Shape) (w : Text) (h : Held) → is_flag w ≡ false → word_fault s [] false idle w h ≡ []
word_here s w h plain =
    let p = plain-word w plain in
    rw (p.2, p.0, p.1) refl

word_more : (s : Shape) (w : Text) (h : Held) → is_flag w ≡ false → word_fault s [] false positional w h ≡ []
word_more s w h plain =
    let p = plain-word w plain in
    rw (p.2, p.0, p.1) refl

turn_here : (s : Shape) (position : ℕ) (w : Text) (h : Held) → is_flag w ≡ false → turn_fault s [] (at_place position h) w ≡ step_fault s position h value
turn_here s position w h plain =
    ap (λ (k : Kinds). or_else k (step_fault s position (word_met s.rules [] false idle position w h).0 (word_met s.rules [] false idle position w h).1)) (word_here s w h plain)
    ∙ ap (λ (p : Held × Step). step_fault s position p.0 p.1) (met_here s.rules position w h plain)

turn_more : (s : Shape) (position : ℕ) (w : Text) (h : Held) → is_flag w ≡ false → turn_fault s [] (amid position h) w ≡ step_fault s position h value
turn_more s position w h plain =
    ap (λ (k : Kinds). or_else k (step_fault s position (word_met s.rules [] false positional position w h).0 (word_met s.rules [] false positional position w h).1)) (word_more s w h plain)
    ∙ ap (λ (p : Held × Step). step_fault s position p.0 p.1) (met_more s.rules position w h plain)

pub fault-here : (s : Shape) (position : ℕ) (w : Text) (h : Held) (rest : List Text) → is_flag w ≡ false
    → walk_fault s [] (at_place position h) (w ∷ rest)
    ≡ or_else (step_fault s position h value) (walk_fault s [] (to_positional s.rules (arg_by_index s.rules position) w (at_place position h) h) rest)
unfolding walk_fault
fault-here s position w h rest plain =
    ap (λ (k : Kinds). or_else k (walk_fault s [] (walked s.rules [] (at_place position h) w) rest)) (turn_here s position w h plain)
    ∙ ap (λ (v : Walk). or_else (step_fault s position h value) (walk_fault s [] v rest)) (step-here s.rules position w h plain)

pub fault-more : (s : Shape) (position : ℕ) (w : Text) (h : Held) (rest : List Text) → is_flag w ≡ false
    → walk_fault s [] (amid position h) (w ∷ rest)
    ≡ or_else (step_fault s position h value) (walk_fault s [] (to_positional s.rules (arg_by_index s.rules position) w (amid position h) h) rest)
unfolding walk_fault
fault-more s position w h rest plain =
    ap (λ (k : Kinds). or_else k (walk_fault s [] (walked s.rules [] (amid position h) w) rest)) (turn_more s position w h plain)
    ∙ ap (λ (v : Walk). or_else (step_fault s position h value) (walk_fault s [] v rest)) (step-more s.rules position w h plain)
