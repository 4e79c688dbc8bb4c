-- Steps of a call one behind the other.
use Rattle.std.proofs.Common.{◌≡◌, List, [], ◌∷◌, ◌++◌, Option, Some, None, Result, Ok, Err, OnOk, OnErr, refl, sym, ap, subst, ◌∙◌, append_assoc}
use Rattle.std.proofs.lemmas.List.{append-nil}
use Rattle.std.specs.Prelude.{IfErr}
use Rattle.blk_base.specs.Calls.{FailsWriting}
use Rattle.blk_base.specs.Content.{Write}
use Rattle.blk_base.specs.Device.{CountsFault, IsMade, StopsBy, Untouched, Wrote, Writes, stop_of}
use Rattle.blk_base.specs.Writes.{IsCutBy, IsPart}
use Rattle.blk_base.specs.declared.device.Device.{Ghosts}
use Rattle.blk_base.specs.declared.fault.DevStop.{DevStop}
use Rattle.blk_base.specs.declared.fault.DevStop.TheVariants.{Io, NoSpace}
use Rattle.blk_base.proofs.DeviceLemmas.{cause-later, cause-sooner, untouched-same, untouched-writes, wrote-then}
use Rattle.blk_base.proofs.WriteLists.{part-later, part-sooner}
use Rattle.blk_base.proofs.Calls.{call_later, call_sooner}
use Rattle.q2_image.specs.Image.{Known}
use Rattle.q2_image.specs.Made.{WriteStep, writes_of_steps, known_after, IsStoppedIn, IsKnownBy, MakesSteps, ChangesImage}
use Rattle.q2_image.specs.Writing.{TellsFault, count_of}

pub writes_of_steps-append : (ss ts : List WriteStep) → writes_of_steps (ss ++ ts) ≡ writes_of_steps ss ++ writes_of_steps ts
writes_of_steps-append [] ts = refl
writes_of_steps-append (s ∷ ss) ts = ap (λ (ws : List Write). s.writes ++ ws) (writes_of_steps-append ss ts) ∙ sym (append_assoc s.writes (writes_of_steps ss) (writes_of_steps ts))

pub known_after-append : (image : Known) (ss ts : List WriteStep) → known_after image (ss ++ ts) ≡ known_after (known_after image ss) ts
known_after-append image [] ts = refl
known_after-append image (s ∷ ss) ts = known_after-append s.known ss ts

-- Where a call stopped, by the steps before and behind.

stopped-later : (C : Write → Write → Type 0) (image mid left : Known) (ss ts : List WriteStep) (made : List Write) → mid ≡ known_after image ss
    → IsStoppedIn C mid ts made left → IsStoppedIn C image (ss ++ ts) (writes_of_steps ss ++ made) left
stopped-later C image mid left ss ts made is stopped = record {
  before = ss ++ stopped.before;
  step = stopped.step;
  behind = stopped.behind;
  steps_are = ap (λ (xs : List WriteStep). ss ++ xs) stopped.steps_are ∙ sym (append_assoc ss stopped.before (stopped.step ∷ stopped.behind));
  cut = stopped.cut;
  part = stopped.part;
  made_are = ap (λ (ws : List Write). writes_of_steps ss ++ ws) stopped.made_are
      ∙ sym (append_assoc (writes_of_steps ss) (writes_of_steps stopped.before) stopped.cut) ∙ ap (λ (ws : List Write). ws ++ stopped.cut) (sym (writes_of_steps-append ss stopped.before));
  known = stopped.known ∙ ap (λ (k : Known). known_after k stopped.before) is ∙ sym (known_after-append image ss stopped.before);
}

stopped-sooner : (C : Write → Write → Type 0) (image left : Known) (ss ts : List WriteStep) (made : List Write)
    → IsStoppedIn C image ss made left → IsStoppedIn C image (ss ++ ts) made left
stopped-sooner C image left ss ts made stopped = record {
  before = stopped.before;
  step = stopped.step;
  behind = stopped.behind ++ ts;
  steps_are = ap (λ (xs : List WriteStep). xs ++ ts) stopped.steps_are ∙ append_assoc stopped.before (stopped.step ∷ stopped.behind) ts;
  cut = stopped.cut;
  part = stopped.part;
  made_are = stopped.made_are;
  known = stopped.known;
}

known-then : (stop : Option DevStop) (image mid left : Known) (ss ts : List WriteStep) (made : List Write) → mid ≡ known_after image ss
    → IsKnownBy stop mid ts made left → IsKnownBy stop image (ss ++ ts) (writes_of_steps ss ++ made) left
known-then None image mid left ss ts made is known =
    known ∙ ap (λ (k : Known). known_after k ts) is ∙ sym (known_after-append image ss ts)
known-then (Some stop) image mid left ss ts made is known = stopped-later (IsCutBy stop) image mid left ss ts made is known

made-later : (vs ws made : List Write) (stop : Option DevStop) → IsMade stop ws made → IsMade stop (vs ++ ws) (vs ++ made)
made-later vs ws made None is = ap (λ (xs : List Write). vs ++ xs) is
made-later vs ws made (Some stop) part = part-later (IsCutBy stop) vs ws made part

module _ {D : Type 0} (g : Ghosts D) where
  pub makes_none : (image : Known) (a : D) → MakesSteps g image [] None image a a
  makes_none image a = record { writes = untouched-writes g a a (untouched-same g a); known = refl }

  pub makes_then : (image mid left : Known) (ss ts : List WriteStep) (stop : Option DevStop) (a b c : D) → MakesSteps g image ss None mid a b
      → MakesSteps g mid ts stop left b c → MakesSteps g image (ss ++ ts) stop left a c
  makes_then image mid left ss ts stop a b c first later =
      let vs : List Write = writes_of_steps ss in
      let ws : List Write = writes_of_steps ts in
      let made : List Write = later.writes.made in
      let same : writes_of_steps (ss ++ ts) ≡ vs ++ ws = writes_of_steps-append ss ts in
      record {
        writes = record {
          made = vs ++ made;
          part = subst (λ (xs : List Write). IsMade stop xs (vs ++ made)) (sym same) (made-later vs ws made stop later.writes.part);
          wrote = wrote-then g vs made a b c (subst (λ (xs : List Write). Wrote g xs a b) first.writes.part first.writes.wrote) later.writes.wrote;
          cause = subst (λ (xs : List Write). StopsBy stop xs (vs ++ made) (g.capacity a) (g.faults a) (g.faults c)) (sym same)
              (cause-later g vs ws first.writes.made made stop (g.capacity a) (g.capacity b) (g.faults a) (g.faults b) (g.faults c)
              first.writes.wrote.capacity later.writes.part first.writes.cause later.writes.cause);
          call = subst (λ (xs : List Write). FailsWriting stop xs (vs ++ made) (g.failed_call a) (g.failed_call c)) (sym same)
              (call_later vs ws made stop (g.failed_call a) (g.failed_call b) (g.failed_call c) later.writes.part first.writes.call later.writes.call);
        };
        known = known-then stop image mid left ss ts made first.known later.known;
      }

  pub makes_sooner : (image left : Known) (ss ts : List WriteStep) (stop : DevStop) (a b : D) → MakesSteps g image ss (Some stop) left a b
      → MakesSteps g image (ss ++ ts) (Some stop) left a b
  makes_sooner image left ss ts stop a b stopped =
      let vs : List Write = writes_of_steps ss in
      let ws : List Write = writes_of_steps ts in
      let same : writes_of_steps (ss ++ ts) ≡ vs ++ ws = writes_of_steps-append ss ts in
      record {
        writes = record {
          made = stopped.writes.made;
          part = subst (λ (xs : List Write). IsPart (IsCutBy stop) xs stopped.writes.made) (sym same) (part-sooner (IsCutBy stop) vs ws stopped.writes.made stopped.writes.part);
          wrote = stopped.writes.wrote;
          cause = subst (λ (xs : List Write). StopsBy (Some stop) xs stopped.writes.made (g.capacity a) (g.faults a) (g.faults b)) (sym same)
              (cause-sooner g vs ws stopped.writes.made stop (g.capacity a) (g.faults a) (g.faults b) stopped.writes.part stopped.writes.cause);
          call = subst (λ (xs : List Write). FailsWriting (Some stop) xs stopped.writes.made (g.failed_call a) (g.failed_call b)) (sym same)
              (call_sooner vs ws stopped.writes.made stop (g.failed_call a) (g.failed_call b) stopped.writes.part stopped.writes.call);
        };
        known = stopped-sooner (IsCutBy stop) image left ss ts stopped.writes.made stopped.known;
      }

  -- one step, whatever its call answers
  pub makes_one : {A : Type 0} (image known left : Known) (ws : List Write) (r : Result A DevStop) (a b : D) → Writes g ws (stop_of r) a b
      → OnOk r (left ≡ known) → OnErr r (left ≡ image) → MakesSteps g image (record { writes = ws; known = known } ∷ []) (stop_of r) left a b
  makes_one image known left ws (Ok done) a b writes ok err = record {
    writes = record {
      made = writes.made;
      part = writes.part ∙ sym (append-nil ws);
      wrote = writes.wrote;
      cause = subst (λ (xs : List Write). StopsBy None xs writes.made (g.capacity a) (g.faults a) (g.faults b)) (sym (append-nil ws)) writes.cause;
      call = writes.call;
    };
    known = ok;
  }
  makes_one image known left ws (Err stop) a b writes ok err = record {
    writes = record {
      made = writes.made;
      part = subst (λ (xs : List Write). IsPart (IsCutBy stop) xs writes.made) (sym (append-nil ws)) writes.part;
      wrote = writes.wrote;
      cause = subst (λ (xs : List Write). StopsBy (Some stop) xs writes.made (g.capacity a) (g.faults a) (g.faults b)) (sym (append-nil ws)) writes.cause;
      call = subst (λ (xs : List Write). FailsWriting (Some stop) xs writes.made (g.failed_call a) (g.failed_call b)) (sym (append-nil ws)) writes.call;
    };
    known = record {
      before = [];
      step = record { writes = ws; known = known };
      behind = [];
      steps_are = refl;
      cut = writes.made;
      part = writes.part;
      made_are = refl;
      known = err;
    };
  }

  -- behind steps that were all made, and where the call that makes them stops
  pub makes_behind : {A : Type 0} (image mid left : Known) (ss ts : List WriteStep) (r : Result A DevStop) (a b c : D) → MakesSteps g image ss None mid a b
      → MakesSteps g mid ts (stop_of r) left b c → MakesSteps g image (ss ++ ts) (stop_of r) left a c
  makes_behind image mid left ss ts r a b c first later = makes_then image mid left ss ts (stop_of r) a b c first later

  -- a call that has room for all that it writes
  pub changes_by : {A : Type 0} (image left : Known) (steps : List WriteStep) (r : Result A DevStop) (a b : D) → IfErr r TellsFault
      → MakesSteps g image steps (stop_of r) left a b → ChangesImage g image steps r left a b
  changes_by image left steps (Ok done) a b cause makes = makes
  changes_by image left steps (Err (Io count)) a b cause makes = makes
  changes_by image left steps (Err NoSpace) a b cause makes = absurd cause

  -- so its fault is the count then, and without one the count stands
  pub steps_cause : {A : Type 0} (image left : Known) (steps : List WriteStep) (r : Result A DevStop) (a b : D) → IfErr r TellsFault
      → MakesSteps g image steps (stop_of r) left a b → CountsFault (count_of r) (g.faults a) (g.faults b)
  steps_cause image left steps (Ok done) a b cause makes = makes.writes.cause.1
  steps_cause image left steps (Err (Io count)) a b cause makes = (makes.writes.cause.1, makes.writes.cause.2)
  steps_cause image left steps (Err NoSpace) a b cause makes = absurd cause

  pub changes_none : (image : Known) (a : D) → (image ≡ image) × Untouched g a a
  changes_none image a = (refl, untouched-same g a)
