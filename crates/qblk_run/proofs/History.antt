-- What is left of script and traces, by the history.
use Rattle.std.proofs.Common.{◌≡◌, List, [], ◌∷◌, ◌++◌, length, refl, sym, ◌∙◌, append_assoc}
use Rattle.std.proofs.lemmas.List.{append-nil}
use Rattle.trace_codec.specs.declared.wish.Wish.{Wish}
use Rattle.blk_history.specs.declared.event.Event.{Event}
use Rattle.blk_history.specs.declared.event.Event.TheVariants.{Admit, Refuse, Piece, Retire, Reply, Reached, Start, Ready, End, Done}
use Rattle.blk_history.specs.Fold.{Each, run}
use Rattle.blk_history.proofs.Folds.{run-push}
use Rattle.flat_machine.specs.Courses.{Course, course_after, onward, past_waits, behind}
use Rattle.world_parts.specs.Progress.{answered_in, ended_in}
use Rattle.world_parts.proofs.Coherence.{length-change}

pub course-answered : (c : Course) (h : List Event) → (course_after c h).answered ≡ c.answered ++ answered_in h
course-answered c [] = sym (append-nil c.answered)
course-answered c (Reply line given command text ∷ h) =
    course-answered (onward c (Reply line given command text)) h ∙ append_assoc c.answered (line ∷ []) (answered_in h)
course-answered c (Reached line what ∷ h) =
    course-answered (onward c (Reached line what)) h ∙ append_assoc c.answered (line ∷ []) (answered_in h)
course-answered c (Admit g r op ∷ h) = course-answered (onward c (Admit g r op)) h
course-answered c (Refuse g r op why ∷ h) = course-answered (onward c (Refuse g r op why)) h
course-answered c (Piece g r k outcome got ∷ h) = course-answered c h
course-answered c (Retire g r ∷ h) = course-answered c h
course-answered c (Start job ∷ h) = course-answered c h
course-answered c (Ready job ∷ h) = course-answered c h
course-answered c (End job outcome offset ∷ h) = course-answered c h
course-answered c (Done actor ∷ h) = course-answered (onward c (Done actor)) h

pub course-ended : (c : Course) (h : List Event) → (course_after c h).ended ≡ c.ended ++ ended_in h
course-ended c [] = sym (append-nil c.ended)
course-ended c (Done actor ∷ h) =
    course-ended (onward c (Done actor)) h ∙ append_assoc c.ended (actor ∷ []) (ended_in h)
course-ended c (Reply line given command text ∷ h) = course-ended (onward c (Reply line given command text)) h
course-ended c (Reached line what ∷ h) = course-ended (onward c (Reached line what)) h
course-ended c (Admit g r op ∷ h) = course-ended (onward c (Admit g r op)) h
course-ended c (Refuse g r op why ∷ h) = course-ended (onward c (Refuse g r op why)) h
course-ended c (Piece g r k outcome got ∷ h) = course-ended c h
course-ended c (Retire g r ∷ h) = course-ended c h
course-ended c (Start job ∷ h) = course-ended c h
course-ended c (Ready job ∷ h) = course-ended c h
course-ended c (End job outcome offset ∷ h) = course-ended c h

-- one more entry
pub course-push : (c : Course) (h : List Event) (e : Event) → course_after c (h ++ e ∷ []) ≡ onward (course_after c h) e
course-push c h e = run-push onward c h e

-- and several
pub course-append : (c : Course) (h es : List Event) → course_after c (h ++ es) ≡ course_after (course_after c h) es
course-append c [] es = refl
course-append c (e ∷ h) es = course-append (onward c e) h es

pub run-append : {S E : Type 0} (step : S → E → S) (s : S) (es more : List E) → run step s (es ++ more) ≡ run step (run step s es) more
run-append step s [] more = refl
run-append step s (x ∷ es) more = run-append step (step s x) es more

pub each-append : {S E : Type 0} (step : S → E → S) (P : S → E → Type 0) (s : S) (es more : List E) → Each step P s es → Each step P (run step s es) more
    → Each step P s (es ++ more)
each-append step P s [] more all rest = rest
each-append step P s (x ∷ es) more all rest = (all.0, each-append step P (step s x) es more all.1 rest)

-- there are as many traces
pub traces-onward : (c : Course) (e : Event) → length (onward c e).traces ≡ length c.traces
traces-onward c (Admit g r op) = length-change g (λ (wishes : List Wish). behind (past_waits c.answered wishes)) c.traces
traces-onward c (Refuse g r op why) = length-change g (λ (wishes : List Wish). behind (past_waits c.answered wishes)) c.traces
traces-onward c (Piece g r k outcome got) = refl
traces-onward c (Retire g r) = refl
traces-onward c (Reply line given command text) = refl
traces-onward c (Reached line what) = refl
traces-onward c (Start job) = refl
traces-onward c (Ready job) = refl
traces-onward c (End job outcome offset) = refl
traces-onward c (Done actor) = refl
