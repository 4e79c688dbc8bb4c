-- The history keeps the order of script and traces, and its entries have lines, where a guest makes one more.
use Rattle.std.proofs.Common.{◌≡◌, ◌≢◌, ◌⊎◌, ℕ, zero, suc, ◌≤◌, ◌<◌, List, [], ◌∷◌, ◌++◌, length, set, refl, sym, ◌∙◌, ap, subst, arith, add-one, Option, Some, None, inl, inr}
use Rattle.std.specs.Prelude.{slice_get, option_map}
use Rattle.std.proofs.Math.ListN.{length-set}
use Rattle.trace_codec.specs.declared.wish.Wish.{Wish}
use Rattle.trace_codec.specs.declared.wish.Wish.TheVariants.{Ask}
use Rattle.trace_codec.specs.Script.{Order}
use Rattle.blk_history.specs.Fold.{With, change}
use Rattle.blk_history.specs.Line.{IsActorNamed}
use Rattle.blk_history.specs.Names.{JobLine, RowNames}
use Rattle.blk_history.specs.declared.event.Event.{Event}
use Rattle.blk_history.specs.declared.event.Event.TheVariants.{Admit, Refuse, Piece, Retire, Reply, Reached, Start, Ready, End, Done}
use Rattle.blk_history.proofs.Folds.{each-push}
use Rattle.flat_machine.specs.Courses.{Course, course_of, course_after, onward, IsOwn, past_waits, behind, rest_of, IsNextOf, CanBeDone}
use Rattle.world_parts.specs.Face.{WorldSeen}
use Rattle.world_parts.specs.Progress.{Progress, answered_in}
use Rattle.qblk_run.specs.Tasks.{Task, ScriptTask, AreJobsNamed, AreRestsOf, CanHaveLine, CanHaveLines, CanPrintSoFar, IsRestOf, KeepsTo, names_in}
use Rattle.qblk_run.specs.Turns.{Asks, Ends, IsMove, IsOwnMove, KeepsBeside}
use Rattle.qblk_run.proofs.Lists.{same_or_not, get-set, get-set-other, get-change, get-change-other, with-map, below-get}
use Rattle.qblk_run.proofs.History.{course-answered, course-push}

-- ---- what a guest's entry does to what is left

pub record Advances (c d : Course) (g : ℕ) (after : Task) : Type 0 where
  pub script : d.script ≡ c.script
  pub answered : d.answered ≡ c.answered
  pub count : length d.traces ≡ length c.traces
  pub here : IsRestOf d g after
  pub others : (k : ℕ) → k ≢ g → rest_of d k ≡ rest_of c k

-- a request is taken from its trace
asks-begins : (c : Course) (g : ℕ) (op' : Wish) (before after : Task) → IsRestOf c g before → Asks c.answered op' before after
    → With (rest_of c g) (λ wishes. past_waits c.answered wishes ≡ op' ∷ after.wishes)
asks-begins c g wish before after rest asks = with-map (rest_of c g) _ _ (λ wishes same. same ∙ asks.next) rest

takes : (c : Course) (g : ℕ) (wish : Wish) (after : Task) (x : Option (List Wish))
    → (past_waits c.answered after.wishes ≡ past_waits c.answered after.wishes)
    → With x (λ wishes. past_waits c.answered wishes ≡ wish ∷ after.wishes)
    → With (option_map (λ wishes. behind (past_waits c.answered wishes)) x) (λ wishes. past_waits c.answered wishes ≡ past_waits c.answered after.wishes)
takes c g wish after None same holds = holds
takes c g wish after (Some wishes) same holds = rw holds refl

advances-asked : (c : Course) (n g : ℕ) (wish : Wish) (before after : Task) (e : Event) → n ≡ g
    → onward c e ≡ record c { traces = change n (λ wishes. behind (past_waits c.answered wishes)) c.traces }
    → IsRestOf c g before → Asks c.answered wish before after → Advances c (onward c e) g after
advances-asked c n g wish before after e same is rest asks =
    let f : List Wish → List Wish = λ wishes. behind (past_waits c.answered wishes) in
    rw is (record {
      script = refl;
      answered = refl;
      count = length-change' n f c.traces;
      here = rw (same, get-change g f c.traces) (takes c g wish after (slice_get c.traces g) refl (asks-begins c g wish before after rest asks));
      others = λ k apart. rw same (get-change-other g k f c.traces apart);
    })
  where
    length-change' : (n : ℕ) (f : List Wish → List Wish) (xs : List (List Wish)) → length (change n f xs) ≡ length xs
    length-change' n f [] = refl
    length-change' zero f (x ∷ xs) = refl
    length-change' (suc n) f (x ∷ xs) = ap suc (length-change' n f xs)

ends-here : (c : Course) (g : ℕ) (before after : Task) → IsRestOf c g before → Ends c.answered before after → With (rest_of c g) (λ wishes. past_waits c.answered wishes ≡ [])
ends-here c g before after rest ends = with-map (rest_of c g) _ _ (λ wishes same. same ∙ ends.used) rest

ends-rest : (c : Course) (g : ℕ) (before after : Task) → IsRestOf c g before → Ends c.answered before after → IsRestOf c g after
ends-rest c g before after rest ends = with-map (rest_of c g) _ _ (λ wishes none. none ∙ sym (ap (past_waits c.answered) ends.wishes)) (ends-here c g before after rest ends)

goes-rest : (c : Course) (g : ℕ) (before after : Task) → IsRestOf c g before → past_waits c.answered after.wishes ≡ past_waits c.answered before.wishes → IsRestOf c g after
goes-rest c g before after rest same = with-map (rest_of c g) _ _ (λ wishes is. is ∙ sym same) rest

pub stays : (c : Course) (g : ℕ) (after : Task) → IsRestOf c g after → Advances c c g after
stays c g after rest = record { script = refl; answered = refl; count = refl; here = rest; others = λ k apart. refl }

pub advances : (c : Course) (g : ℕ) (before after : Task) (e : Event) → IsOwnMove c.answered g before after e → IsRestOf c g before → Advances c (onward c e) g after
advances c g before after (Admit n r op) own rest = advances-asked c n g (Ask op) before after (Admit n r op) own.0 refl rest own.1
advances c g before after (Refuse n r op why) own rest = advances-asked c n g (Ask op) before after (Refuse n r op why) own.0 refl rest own.1
advances c g before after (Piece n r k outcome got) own rest = stays c g after (goes-rest c g before after rest own.1.wishes)
advances c g before after (Retire n r) own rest = stays c g after (goes-rest c g before after rest own.1.wishes)
advances c g before after (Done actor) own rest =
    let now = ends-rest c g before after rest own.1 in
    record { script = refl; answered = refl; count = refl; here = now; others = λ k apart. refl }
advances c g before after (Reply line given command text) own rest = absurd own
advances c g before after (Reached line what) own rest = absurd own
advances c g before after (Start job) own rest = absurd own
advances c g before after (Ready job) own rest = absurd own
advances c g before after (End job outcome offset) own rest = absurd own

-- ---- it is the next of its guest

begins : (c : Course) (n g : ℕ) (op : _) (before after : Task) → n ≡ g → IsRestOf c g before → Asks c.answered (Ask op) before after → IsNextOf c n op
begins c n g op before after same rest asks =
    rw same (with-map (rest_of c g) _ _ (λ wishes is. rw is refl) (asks-begins c g (Ask op) before after rest asks))

pub is-own : (c : Course) (g : ℕ) (before after : Task) (e : Event) → IsOwnMove c.answered g before after e → IsRestOf c g before → IsOwn c e
is-own c g before after (Admit n r op) own rest = begins c n g op before after own.0 rest own.1
is-own c g before after (Refuse n r op why) own rest = begins c n g op before after own.0 rest own.1
is-own c g before after (Piece n r k outcome got) own rest = tt
is-own c g before after (Retire n r) own rest = tt
is-own c g before after (Done actor) own rest =
    subst (CanBeDone c) (sym (own.0 ∙ add-one g)) (ends-here c g before after rest own.1)
is-own c g before after (Reply line given command text) own rest = absurd own
is-own c g before after (Reached line what) own rest = absurd own
is-own c g before after (Start job) own rest = absurd own
is-own c g before after (Ready job) own rest = absurd own
is-own c g before after (End job outcome offset) own rest = absurd own

-- ---- all of it

-- what is left is the same but for one guest
pub rests-advance : (c d : Course) (script : ScriptTask) (tasks : List Task) (g : ℕ) (after : Task) → Advances c d g after
    → AreRestsOf c (record { script = script; guests = tasks }) → AreRestsOf d (record { script = script; guests = set tasks g after })
rests-advance c d script tasks g after steps rests = record {
  script = steps.script ∙ rests.script;
  count = steps.count ∙ rests.count ∙ sym (length-set tasks g after);
  traces = traces;
}
  where
    here : (k : ℕ) (task : Task) → slice_get (set tasks g after) k ≡ Some task → k ≡ g → IsRestOf d k task
    here k task is same =
        let now : after ≡ task = get-set tasks g after task (rw same at is) in
        rw (same, ← now) steps.here

    elsewhere : (k : ℕ) (task : Task) → slice_get (set tasks g after) k ≡ Some task → k ≢ g → IsRestOf d k task
    elsewhere k task is apart =
        rw (steps.others k apart, steps.answered) (rests.traces k task (sym (get-set-other tasks g k after apart) ∙ is))

    by_place : (k : ℕ) (task : Task) → slice_get (set tasks g after) k ≡ Some task → (k ≡ g) ⊎ (k ≢ g) → IsRestOf d k task
    by_place k task is (inl same) = here k task is same
    by_place k task is (inr apart) = elsewhere k task is apart

    traces : (k : ℕ) (task : Task) → slice_get (set tasks g after) k ≡ Some task → IsRestOf d k task
    traces k task is = by_place k task is (same_or_not k g)

module _ (p q : Progress) (script : ScriptTask) (tasks : List Task) (g : ℕ) (before after : Task) (e : Event)
    (there : slice_get tasks g ≡ Some before) (move : IsMove p q g before after e) where
  pub move-order : (orders : List Order) (traces : List (List Wish)) → KeepsTo orders traces p.log.events (record { script = script; guests = tasks })
      → KeepsTo orders traces q.log.events (record { script = script; guests = set tasks g after })
  move-order orders traces keeps =
      let c = course_after (course_of orders traces) p.log.events in
      let rest = keeps.rests.traces g before there in
      let own : IsOwnMove c.answered g before after e = rw (course-answered (course_of orders traces) p.log.events) move.own in
      rw move.events (record {
        order = each-push onward IsOwn (course_of orders traces) p.log.events e keeps.order (is-own c g before after e own rest);
        rests = rw (course-push (course_of orders traces) p.log.events e) (rests-advance c (onward c e) script tasks g after (advances c g before after e own rest) keeps.rests);
      })

-- ---- lines

pub lines-push : (names : RowNames) (es : List Event) (e : Event) → CanHaveLines names es → CanHaveLine names e → CanHaveLines names (es ++ e ∷ [])
lines-push names [] e all one = (one, tt)
lines-push names (x ∷ es) e all one = (all.0, lines-push names es e all.1 one)

has-name : (names : RowNames) (a : List ℕ) (g : ℕ) (before after : Task) (e : Event) → IsOwnMove a g before after e → g < length names.guests → IsActorNamed names e
has-name names a g before after (Admit n r op) own known = rw own.0 known
has-name names a g before after (Refuse n r op why) own known = rw own.0 known
has-name names a g before after (Piece n r k outcome got) own known = rw own.0 known
has-name names a g before after (Retire n r) own known = rw own.0 known
has-name names a g before after (Done actor) own known = rw (own.0, add-one g) known
has-name names a g before after (Reply line given command text) own known = absurd own
has-name names a g before after (Reached line what) own known = absurd own
has-name names a g before after (Start job) own known = absurd own
has-name names a g before after (Ready job) own known = absurd own
has-name names a g before after (End job outcome offset) own known = absurd own

-- where no job begins and these entries have lines, those so far have
pub prints-on : (guests : List (List ℕ)) (w v : WorldSeen) → v.progress.jobs ≡ w.progress.jobs → v.table.started ≡ w.table.started
    → CanHaveLines (names_in guests w.progress) v.progress.log.events → CanPrintSoFar guests w → CanPrintSoFar guests v
prints-on guests w v jobs started lines was = record {
  can = record {
    lines = subst (λ (lines : List JobLine). CanHaveLines (record { guests = guests; jobs = lines }) v.progress.log.events) (sym jobs) lines;
    ids = subst AreJobsNamed (sym jobs) was.can.ids;
  };
  started = ap length jobs ∙ was.started ∙ sym started;
}

pub move-lines : (w v : WorldSeen) (tasks : List Task) (g : ℕ) (before after : Task) (e : Event) → slice_get tasks g ≡ Some before
    → IsMove w.progress v.progress g before after e → KeepsBeside w v
    → (guests : List (List ℕ)) → length tasks ≤ length guests → CanPrintSoFar guests w → CanPrintSoFar guests v
move-lines w v tasks g before after e there move beside guests many was =
    let known = below-get tasks g before there in
    let names = names_in guests w.progress in
    prints-on guests w v move.jobs beside.started
    (rw move.events (lines-push names w.progress.log.events e was.can.lines (record {
      named = has-name names (answered_in w.progress.log.events) g before after e move.own (omega arith);
      shown = move.shown;
    }))) was
