-- A run whose script awaits nothing, and whose traces wait for lines of it alone, isn't stuck while its guests are attached.
use Rattle.std.proofs.Common.{◌≡◌, ◌≢◌, ◌⊎◌, ℕ, zero, suc, ◌≤◌, true, false, Bool, List, [], ◌∷◌, ◌++◌, length, refl, sym, ◌∙◌, subst, arith, append_assoc, Option, Some, None, inl, inr}
use Rattle.std.specs.Prelude.{slice_get, All, IsSome, option_map}
use Rattle.std.proofs.lemmas.Bool.{false≢true}
use Rattle.std.proofs.lemmas.List.{append-nil}
use Rattle.trace_codec.specs.declared.order.Order.TheVariants.{Give, Watch}
use Rattle.trace_codec.specs.declared.wish.Wish.{Wish}
use Rattle.trace_codec.specs.declared.wish.Wish.TheVariants.{Ask, Wait}
use Rattle.trace_codec.specs.declared.waits.Waits.{Waits}
use Rattle.trace_codec.specs.Script.{Order}
use Rattle.qmp_rules.specs.Chains.{is_listed}
use Rattle.qmp_rules.specs.Table.{device_by_number}
use Rattle.blk_history.specs.Fold.{change}
use Rattle.blk_history.specs.declared.event.Event.{Event}
use Rattle.blk_history.specs.declared.event.Event.TheVariants.{Admit, Refuse, Piece, Retire, Reply, Reached, Start, Ready, End, Done}
use Rattle.world_parts.proofs.Ends.{is-has}
use Rattle.flat_machine.specs.State.{State}
use Rattle.flat_machine.specs.Blocked.{ScriptWaits, TraceWaits, ActorWaits, IsStuck}
use Rattle.flat_machine.specs.Courses.{Course, course_of, course_after, onward, IsOwn, IsGiven, IsWatched, KeepsOrder, past_waits, behind, rest_of, is_answered}
use Rattle.qblk_inputs.specs.Inputs.{Work}
use Rattle.qblk_run.specs.Completeness.{AwaitsNothing, lines_in, WaitsForLines, CanBeWhole, AreAttached}
use Rattle.qblk_run.proofs.Lists.{get-change, get-change-other, same_or_not, with-some, has-stays, is-get, below-get}
use Rattle.qblk_run.proofs.History.{traces-onward}

-- what holds of a course of such a run
record Sound (lines : List ℕ) (c : Course) : Type 0 where
  free : AwaitsNothing c.script
  come : (line : ℕ) → is_answered lines line ≡ true → is_answered (c.answered ++ lines_in c.script) line ≡ true
  over : is_listed 0 c.ended ≡ true → c.script ≡ []
  waits : (g : ℕ) (wishes : List Wish) → rest_of c g ≡ Some wishes → WaitsForLines lines wishes

-- ---- traces

past-lines : (lines answered : List ℕ) (wishes : List Wish) → WaitsForLines lines wishes → WaitsForLines lines (past_waits answered wishes)
past-lines lines answered [] is = tt
past-lines lines answered (Ask op ∷ wishes) is = is
past-lines lines answered (Wait line ∷ wishes) is = by_test (is_answered answered line) refl (past-lines lines answered wishes is.1)
  where
    by_test : (t : Bool) → is_answered answered line ≡ t → WaitsForLines lines (past_waits answered wishes) → WaitsForLines lines (past_waits answered (Wait line ∷ wishes))
    by_test true e rest = rw e rest
    by_test false e rest = rw e is

behind-lines : (lines : List ℕ) (wishes : List Wish) → WaitsForLines lines wishes → WaitsForLines lines (behind wishes)
behind-lines lines [] is = tt
behind-lines lines (Ask op ∷ wishes) is = is
behind-lines lines (Wait line ∷ wishes) is = is.1

asked-lines : (lines : List ℕ) (c : Course) (n : ℕ) → ((g : ℕ) (wishes : List Wish) → rest_of c g ≡ Some wishes → WaitsForLines lines wishes)
    → (g : ℕ) (wishes : List Wish) → slice_get (change n (λ ws. behind (past_waits c.answered ws)) c.traces) g ≡ Some wishes → WaitsForLines lines wishes
asked-lines lines c n each g wishes is = by_place (same_or_not g n)
  where
    f : List Wish → List Wish
    f ws = behind (past_waits c.answered ws)

    by_found : (x : Option (List Wish)) → slice_get c.traces g ≡ x → option_map f x ≡ Some wishes → WaitsForLines lines wishes
    by_found None none e = let bad : ⊥ = cc e in absurd bad
    by_found (Some ws) some e =
        let same : f ws ≡ wishes = some-same e in
        subst (WaitsForLines lines) same (behind-lines lines (past_waits c.answered ws) (past-lines lines c.answered ws (each g ws some)))
      where
        some-same : {a b : List Wish} → Some a ≡ Some b → a ≡ b
        some-same e = cc

    by_place : (g ≡ n) ⊎ (g ≢ n) → WaitsForLines lines wishes
    by_place (inl same) = by_found (slice_get c.traces g) refl (sym (get-change g f c.traces) ∙ rw (← same) at is)
    by_place (inr apart) = each g wishes (sym (get-change-other n g f c.traces apart) ∙ is)

-- ---- each entry

given-step : (lines : List ℕ) (c : Course) (line : ℕ) (given : List ℕ) (e : Event) (command : _) (text : List ℕ) → e ≡ Reply line given command text
    → (script : List Order) → c.script ≡ script → IsGiven line given script → Sound lines c → Sound lines (onward c e)
given-step lines c line given e command text same [] is own sound = absurd own
given-step lines c line given e command text same (Watch n what ∷ rest) is own sound = absurd own
given-step lines c line given e command text same (Give n its ∷ rest) is own sound =
    let script : (onward c (Reply line given command text)).script ≡ rest = rw is refl in
    let free : AwaitsNothing (Give n its ∷ rest) = rw is at sound.free in
    rw same (record {
      free = rw script free;
      come = λ l there. rw (script, append_assoc c.answered (line ∷ []) (lines_in rest), ← own.0) (rw is at (sound.come l there));
      over = λ done. let bad : Give n its ∷ rest ≡ [] = sym is ∙ sound.over done in let no : ⊥ = cc bad in absurd no;
      waits = sound.waits;
    })

watched-step : (lines : List ℕ) (c : Course) (line : ℕ) (what : _) → (script : List Order) → c.script ≡ script → IsWatched line what script → AwaitsNothing script → ⊥
watched-step lines c line what [] is own free = own
watched-step lines c line what (Give n its ∷ rest) is own free = own
watched-step lines c line what (Watch n it ∷ rest) is own free = free

sound-step : (lines : List ℕ) (c : Course) (e : Event) → IsOwn c e → Sound lines c → Sound lines (onward c e)
sound-step lines c (Admit g r op) own sound = record { free = sound.free; come = sound.come; over = sound.over; waits = asked-lines lines c g sound.waits }
sound-step lines c (Refuse g r op why) own sound = record { free = sound.free; come = sound.come; over = sound.over; waits = asked-lines lines c g sound.waits }
sound-step lines c (Piece g r k outcome got) own sound = sound
sound-step lines c (Retire g r) own sound = sound
sound-step lines c (Reply line given command text) own sound =
    given-step lines c line given (Reply line given command text) command text refl c.script refl own sound
sound-step lines c (Reached line what) own sound = absurd (watched-step lines c line what c.script refl own sound.free)
sound-step lines c (Start job) own sound = sound
sound-step lines c (Ready job) own sound = sound
sound-step lines c (End job outcome offset) own sound = sound
sound-step lines c (Done zero) own sound = record { free = sound.free; come = sound.come; over = λ done. own; waits = sound.waits }
sound-step lines c (Done (suc actor)) own sound = record {
  free = sound.free;
  come = sound.come;
  over = λ done. sound.over (sym (has-stays c.ended 0 (suc actor) (λ same. let bad : ⊥ = cc same in bad)) ∙ done);
  waits = sound.waits;
}

sound-run : (lines : List ℕ) (c : Course) (h : List Event) → KeepsOrder c h → Sound lines c → Sound lines (course_after c h)
sound-run lines c [] keeps sound = sound
sound-run lines c (e ∷ h) keeps sound = sound-run lines (onward c e) h keeps.1 (sound-step lines c e keeps.0 sound)

count-run : (c : Course) (h : List Event) → length (course_after c h).traces ≡ length c.traces
count-run c [] = refl
count-run c (e ∷ h) = count-run (onward c e) h ∙ traces-onward c e

at-all : (lines : List ℕ) (traces : List (List Wish)) (g : ℕ) (wishes : List Wish) → All (WaitsForLines lines) traces → slice_get traces g ≡ Some wishes → WaitsForLines lines wishes
at-all lines traces g wishes all is =
    subst (WaitsForLines lines) (is-get traces g wishes wishes is) (all g wishes (below-get traces g wishes is))

sound-start : (work : Work) → CanBeWhole work → Sound (lines_in work.script) (course_of work.script work.traces)
sound-start work can = record {
  free = can.script;
  come = λ line there. there;
  over = λ bad. absurd (false≢true bad);
  waits = λ g wishes is. at-all (lines_in work.script) work.traces g wishes can.traces is;
}

-- ---- no actor is blocked

script-free : (s : State) (script : List Order) (what : Waits (List ℕ)) → AwaitsNothing script → ScriptWaits s script what → ⊥
script-free s [] what free waits = waits
script-free s (Give line given ∷ rest) what free waits = waits
script-free s (Watch line it ∷ rest) what free waits = free

-- once each line is answered, a trace waits for none
trace-free : (s : State) (g : ℕ) (lines answered : List ℕ) (wishes : List Wish) (what : Waits (List ℕ)) → WaitsForLines lines wishes
    → ((line : ℕ) → is_answered lines line ≡ true → is_answered answered line ≡ true) → IsSome (device_by_number s.table g)
    → TraceWaits s g (past_waits answered wishes) what → ⊥
trace-free s g lines answered [] what is all attached waits = waits
trace-free s g lines answered (Ask op ∷ wishes) what is all attached waits = false≢true (subst IsSome waits.0 attached)
trace-free s g lines answered (Wait line ∷ wishes) what is all attached waits =
    let over : past_waits answered (Wait line ∷ wishes) ≡ past_waits answered wishes = rw (all line is.0) refl in
    trace-free s g lines answered wishes what is.1 all attached (rw over at waits)

pub none-stuck : (work : Work) (h : List Event) (s : State) (actor : ℕ) (what : Waits (List ℕ)) → CanBeWhole work → KeepsOrder (course_of work.script work.traces) h
    → IsStuck s (course_after (course_of work.script work.traces) h) actor what → AreAttached s.table (length work.traces) → ⊥
none-stuck work h s actor what can keeps stuck attached =
    by_script (is_listed 0 c.ended) refl
  where
    c : Course
    c = course_after (course_of work.script work.traces) h

    sound : Sound (lines_in work.script) c
    sound = sound-run (lines_in work.script) (course_of work.script work.traces) h keeps (sound-start work can)

    count : length c.traces ≡ length work.traces
    count = count-run (course_of work.script work.traces) h

    zero-waits : (w : Waits (List ℕ)) → ActorWaits s c 0 w → ⊥
    zero-waits w (inl waits) = script-free s c.script w sound.free waits.1
    zero-waits w (inr (g, is, waits)) = absurd (omega arith)

    waits-none : c.script ≡ [] → actor ≤ length c.traces → ActorWaits s c actor what → ⊥
    waits-none used below (inl waits) = script-free s c.script what sound.free waits.1
    waits-none used below (inr (g, is, waits)) =
        let found = with-some (rest_of c g) (λ wishes. TraceWaits s g (past_waits c.answered wishes) what) waits.next in
        trace-free s g (lines_in work.script) c.answered found.0 what (sound.waits g found.0 found.1)
        (λ line there. rw (used, append-nil c.answered) at (sound.come line there)) (attached g (omega (arith, count))) found.2

    by_script : (b : Bool) → is_listed 0 c.ended ≡ b → ⊥
    by_script true done = waits-none (sound.over done) stuck.unfinished.0 stuck.waiting
    by_script false none =
        let it = stuck.others 0 (omega arith, λ has. false≢true (sym none ∙ is-has 0 c.ended has)) in
        zero-waits it.0 it.1
