-- How a creation is answered.
use Rattle.std.proofs.Common.{◌≡◌, ◌⊎◌, ℕ, ◌≤◌, nat_lt, Bool, true, false, List, [], ◌∷◌, length, inl, inr, refl, sym, ◌∙◌, ap, subst, Option, Some, None, Ok, Err}
use Rattle.std.specs.Prelude.{Result, IfOk}
use Rattle.qmp_codec.specs.declared.nodes.BlockdevCreate.{BlockdevCreate}
use Rattle.qmp_codec.specs.declared.nodes.Created.{Created}
use Rattle.qmp_asks.specs.Asking.{Asking, place, same_look}
use Rattle.qmp_rules.specs.Asks.{first_unmet_ask, holds, told_at}
use Rattle.qmp_asks.specs.CommandAsks.{asks_of}
use Rattle.qmp_rules.specs.Looks.{create_told, stop_at, too_long}
use Rattle.qmp_rules.specs.Prepared.{IsStoppedFor}
use Rattle.qmp_rules.specs.Refusals.{refused}
use Rattle.qmp_asks.specs.Values.{amount_or}
use Rattle.qmp_asks.specs.declared.ask.Ask.TheVariants as ask
use Rattle.qmp_rules.specs.declared.judge.PrepareStop.{PrepareStop}
use Rattle.qmp_rules.specs.declared.judge.PrepareStop.TheVariants.{Refused, NoMemory}
use Rattle.qmp_rules.specs.declared.refusal.FileFault.TheVariants.{TooLong}
use Rattle.qmp_rules.specs.declared.refusal.Refusal.TheVariants as refusal
use Rattle.qmp_asks.specs.declared.look.Look.{Look}
use Rattle.qmp_asks.specs.declared.look.Look.TheVariants as look
use Rattle.qmp_rules.specs.declared.told.Stopped.{Stopped}
use Rattle.qmp_rules.proofs.PlaceLemmas.{has_place}
use Rattle.world_parts.specs.Carrying.{is_io_refusal}
use Rattle.world_parts.specs.Handling.{SaysRefusal}
use Rattle.qmp_codec.specs.Commands.{Cmd}
use Rattle.qmp_codec.specs.declared.command.Command.TheVariants as command
use Rattle.qmp_codec.specs.declared.nodes.Created.TheVariants as created
use Rattle.qmp_rules.specs.Answers.{Answer, command_edits, left_by, out_of_turn, refusal_to, returned}
use Rattle.qmp_rules.specs.Changes.{all_changed}
use Rattle.qmp_rules.specs.Edits.{edits_of, spoiled}
use Rattle.qmp_rules.specs.Table.{RunTable}
use Rattle.qmp_rules.specs.declared.change.Change.{Change}
use Rattle.qmp_rules.specs.declared.refusal.Refusal.{Refusal}
use Rattle.qmp_rules.specs.declared.told.Told.{Told}
use Rattle.world_files.specs.Deletions.{Belong}
use Rattle.world_parts.specs.Deleting.{Ground}
use Rattle.world_files.specs.Creations.{CanCreateBy, IsAnswerMade, IsMadeNow, IsMadeSaying, IsSpoiledNow, IsSpoiledSaying, is_creation, spoiled_by}
use Rattle.world_parts.specs.Making.{FitsWords, look_of, told_failed, told_first}
use Rattle.world_parts.specs.Saying.{EndsRefusals, IsSaid}
use Rattle.world_parts.proofs.Accepted.{either-of}
use Rattle.world_parts.proofs.CarryPlain.{placed-quiet, turn-quiet}
use Rattle.world_files.proofs.CreatedAsked.{file_fails, format_fails, unknown_refused}
use Rattle.world_files.proofs.CreatedKept.{fewer_spoiled}
use Rattle.world_files.proofs.CreatedReady.{can_create}
use Rattle.world_parts.proofs.Placed.{answer-is}

-- it can be carried out
pub creation_can : (t : RunTable) (x : Ground) (c : Cmd) → Belong t x → is_creation c ≡ true → refusal_to t (told_first c x.store.room) c ≡ None → CanCreateBy t c x
creation_can t x (command.BlockdevCreate c) belong is none = can_create t x belong c.job_id c.options none
creation_can t x c belong is none = absurd (let bad : ⊥ = cc is in bad)

-- a failure makes fewer changes
pub creation_fewer : (t : RunTable) (told : Told) (c : Cmd) → is_creation c ≡ true → length (spoiled_by t c) ≤ length (command_edits t told c)
unfolding edits_of
creation_fewer t told (command.BlockdevCreate c) is = fewer_spoiled t c
creation_fewer t told c is = absurd (let bad : ⊥ = cc is in bad)

-- the texts are those that were made before
module _ {A E : Type 0} (r : Result A E) (text : A → List ℕ) (given : List ℕ) (t : RunTable) (told : Told) (c : Cmd) (old now : Ground) (u : RunTable)
    (edits left : List Change) (accepted back : List ℕ) (said : IsSaid given (Ok (returned t told c)) accepted) (ends : EndsRefusals given back) where
  one : (x : List ℕ) → IsMadeNow t c old now u edits accepted x ⊎ IsSpoiledNow t c old now u left back x
      → IsMadeSaying given t told c old now u edits x ⊎ IsSpoiledSaying given t c old now u left x
  one x (inl made) = inl (record { made = made.made; table = made.table; said = subst (IsSaid given (Ok (returned t told c))) (sym made.said) said })
  one x (inr failed) = inr (record { cause = failed.cause; ended = failed.ended; table = failed.table; said = failed.said given ends })

  pub ended_saying : IfOk r (λ a. IsMadeNow t c old now u edits accepted (text a) ⊎ IsSpoiledNow t c old now u left back (text a))
      → IfOk r (λ a. IsMadeSaying given t told c old now u edits (text a) ⊎ IsSpoiledSaying given t c old now u left (text a))
  ended_saying all = by_result r all
    where
      by_result : (r : Result A E) → IfOk r (λ a. IsMadeNow t c old now u edits accepted (text a) ⊎ IsSpoiledNow t c old now u left back (text a))
          → IfOk r (λ a. IsMadeSaying given t told c old now u edits (text a) ⊎ IsSpoiledSaying given t c old now u left (text a))
      by_result (Ok a) is = one (text a) is
      by_result (Err e) is = is

-- ---- what is refused before any call is no failed call

module _ (t : RunTable) (told : Told) (quiet : (s : Stopped) → told.stopped ≡ Some s → is_io_refusal s.refusal ≡ false) where
  files-quiet : (what : Look) (stopped : Option Stopped) → told.stopped ≡ stopped → (cause : Refusal) → told_at what stopped ≡ Some cause → is_io_refusal cause ≡ false
  files-quiet what None is cause bad = absurd (let e : ⊥ = cc bad in e)
  files-quiet what (Some s) is cause at = by_test (same_look what s.look) at
    where
      by_test : (b : Bool) → refused b s.refusal ≡ Some cause → is_io_refusal cause ≡ false
      by_test true same = let e : s.refusal ≡ cause = cc same in subst (λ (r : Refusal). is_io_refusal r ≡ false) e (quiet s is)
      by_test false bad = absurd (let e : ⊥ = cc bad in e)

  ask-quiet : (a : Asking) (cause : Refusal) → holds t told a ≡ Some cause → is_io_refusal cause ≡ false
  unfolding holds
  ask-quiet (ask.Files what) cause here = files-quiet what told.stopped refl cause here
  ask-quiet a cause here = placed-quiet cause (place a) (has_place t told a tt cause here)

  asks-quiet : (asks : List Asking) (cause : Refusal) → first_unmet_ask t told asks ≡ Some cause → is_io_refusal cause ≡ false
  asks-quiet [] cause is = absurd (let e : ⊥ = cc is in e)
  asks-quiet (a ∷ asks) cause is = elim (either-of (holds t told a) (first_unmet_ask t told asks) cause is) [
    | inl here ↦ ask-quiet a cause here
    | inr later ↦ asks-quiet asks cause later
  ]

  pub creation-quiet : (c : BlockdevCreate (List ℕ)) (cause : Refusal) → refusal_to t told (command.BlockdevCreate c) ≡ Some cause → is_io_refusal cause ≡ false
  unfolding refusal_to
  creation-quiet c cause is = elim (either-of (out_of_turn false t.negotiated) _ cause is) [
    | inl turn ↦ turn-quiet false t.negotiated cause turn
    | inr asked ↦ elim (either-of (first_unmet_ask t told (asks_of (command.BlockdevCreate c))) None cause asked) [
      | inl found ↦ asks-quiet (asks_of (command.BlockdevCreate c)) cause found
      | inr bad ↦ absurd (let e : ⊥ = cc bad in e)
    ]
  ]

pub first-quiet : (options : Created (List ℕ)) (room : ℕ) (s : Stopped) → (create_told options room).stopped ≡ Some s → is_io_refusal s.refusal ≡ false
unfolding create_told
first-quiet (created.File c) room s is = by_test (nat_lt room (amount_or 0 (Some c.size))) is
  where
    by_test : (b : Bool) → stop_at look.File (too_long c.filename b) None ≡ Some s → is_io_refusal s.refusal ≡ false
    by_test true is' = let e : record { look = look.File; refusal = refusal.File c.filename TooLong } ≡ s = cc is' in subst (λ (x : Stopped). is_io_refusal x.refusal ≡ false) e refl
    by_test false bad = absurd (let e : ⊥ = cc bad in e)
first-quiet (created.Qcow2 c) room s bad = absurd (let e : ⊥ = cc bad in e)
first-quiet created.Unknown room s bad = absurd (let e : ⊥ = cc bad in e)

pub left-none : (t : RunTable) (c : BlockdevCreate (List ℕ)) (cause : Refusal) → is_io_refusal cause ≡ false → left_by t (command.BlockdevCreate c) cause ≡ []
left-none t c (refusal.Io source count) bad = absurd (let e : ⊥ = cc bad in e)
left-none t c (refusal.NoSpace dev) bad = absurd (let e : ⊥ = cc bad in e)
left-none t c _ is = refl

pub left-some : (t : RunTable) (c : BlockdevCreate (List ℕ)) (cause : Refusal) → FitsWords cause → left_by t (command.BlockdevCreate c) cause ≡ spoiled t c.options
left-some t c (refusal.Io source count) fits = refl
left-some t c (refusal.NoSpace dev) fits = refl
left-some t c _ fits = absurd fits

-- a call that failed is what refuses
pub fails-so : (t : RunTable) (id : List ℕ) (options : Created (List ℕ)) (room : ℕ) (cause : Refusal) → refusal_to t (create_told options room) (command.BlockdevCreate (record { job_id = id; options = options })) ≡ None
    → refusal_to t (record (create_told options room) { stopped = Some (record { look = look_of options; refusal = cause }) }) (command.BlockdevCreate (record { job_id = id; options = options })) ≡ Some cause
fails-so t id (created.File c) room cause none =
    file_fails t (create_told (created.File c) room) (record (create_told (created.File c) room) { stopped = Some (record { look = look.File; refusal = cause }) }) cause id c none refl
fails-so t id (created.Qcow2 c) room cause none =
    format_fails t (create_told (created.Qcow2 c) room) (record (create_told (created.Qcow2 c) room) { stopped = Some (record { look = look.Format; refusal = cause }) }) cause id c none refl
fails-so t id created.Unknown room cause none = absurd (unknown_refused t (create_told created.Unknown room) id none)

-- ---- answers of a call

module _ (given : List ℕ) (t : RunTable) (told : Told) (old now : Ground) (u : RunTable) (text : List ℕ) where
  made-as : (c : BlockdevCreate (List ℕ)) → told ≡ create_told c.options old.store.room → refusal_to t told (command.BlockdevCreate c) ≡ None
      → IsMadeSaying given t told (command.BlockdevCreate c) old now u (command_edits t told (command.BlockdevCreate c)) text
      ⊎ IsSpoiledSaying given t (command.BlockdevCreate c) old now u (spoiled t c.options) text
      → IsAnswerMade given t (command.BlockdevCreate c) old now u text
  made-as c first none (inl made) =
      let is = answer-is t told (command.BlockdevCreate c) None none in
      record {
        told = told;
        refusal = None;
        judged = none;
        done_is = (first, made.made);
        table = made.table ∙ sym (ap (λ (a : Answer). all_changed t a.changes) is);
        said = subst (λ (a : Answer). IsSaid given a.reply text) (sym is) made.said;
      }
  made-as c first none (inr failed) =
      let cmd : Cmd = command.BlockdevCreate c in
      let then : Told = told_failed cmd old.store.room failed.cause in
      let accepted : refusal_to t (create_told c.options old.store.room) cmd ≡ None = subst (λ (x : Told). refusal_to t x cmd ≡ None) first none in
      let some : refusal_to t then cmd ≡ Some failed.cause = fails-so t c.job_id c.options old.store.room failed.cause accepted in
      let is = answer-is t then cmd (Some failed.cause) some in
      record {
        told = then;
        refusal = Some failed.cause;
        judged = some;
        done_is = inr (record { told_is = refl; accepted = accepted; ended = failed.ended });
        table =
            failed.table
            ∙ ap (all_changed t) (sym (left-some t c failed.cause failed.ended.fits))
            ∙ sym (ap (λ (a : Answer). all_changed t a.changes) is);
        said = subst (λ (a : Answer). IsSaid given a.reply text) (sym is) failed.said;
      }

  refused-as : (c : BlockdevCreate (List ℕ)) → told ≡ create_told c.options old.store.room → (stop : PrepareStop) → IsStoppedFor (refusal_to t told (command.BlockdevCreate c)) stop
      → SaysRefusal given stop text → u ≡ t → now ≡ old → IsAnswerMade given t (command.BlockdevCreate c) old now u text
  refused-as c first NoMemory for_this said table ground = absurd said
  refused-as c first (Refused cause) some said table ground =
      let is = answer-is t told (command.BlockdevCreate c) (Some cause) some in
      let quiet = creation-quiet t told (λ s stopped. first-quiet c.options old.store.room s (ap (λ (x : Told). x.stopped) (sym first) ∙ stopped)) c cause some in
      record {
        told = told;
        refusal = Some cause;
        judged = some;
        done_is = inl (first, ground);
        table = table ∙ sym (ap (λ (a : Answer). all_changed t a.changes) is ∙ ap (all_changed t) (left-none t c cause quiet));
        said = subst (λ (a : Answer). IsSaid given a.reply text) (sym is) said;
      }

module _ {A E : Type 0} (r : Result A E) (text : A → List ℕ) (given : List ℕ) (t : RunTable) (told : Told) (old now : Ground) (u : RunTable) where
  pub made_ok : (c : Cmd) (edits left : List Change) → is_creation c ≡ true → told ≡ told_first c old.store.room → refusal_to t told c ≡ None
      → edits ≡ command_edits t told c → left ≡ spoiled_by t c
      → IfOk r (λ a. IsMadeSaying given t told c old now u edits (text a) ⊎ IsSpoiledSaying given t c old now u left (text a))
      → IfOk r (λ a. IsAnswerMade given t c old now u (text a))
  made_ok (command.BlockdevCreate c) edits left is first none edits_are left_are ended = by_result r ended
    where
      by_result : (r : Result A E)
          → IfOk r (λ a. IsMadeSaying given t told (command.BlockdevCreate c) old now u edits (text a) ⊎ IsSpoiledSaying given t (command.BlockdevCreate c) old now u left (text a))
          → IfOk r (λ a. IsAnswerMade given t (command.BlockdevCreate c) old now u (text a))
      by_result (Ok a) ended =
          made-as given t told old now u (text a) c first none
          (subst (λ (xs : List Change). IsMadeSaying given t told (command.BlockdevCreate c) old now u xs (text a)
          ⊎ IsSpoiledSaying given t (command.BlockdevCreate c) old now u (spoiled t c.options) (text a)) edits_are
          (subst (λ (xs : List Change). IsMadeSaying given t told (command.BlockdevCreate c) old now u edits (text a)
          ⊎ IsSpoiledSaying given t (command.BlockdevCreate c) old now u xs (text a)) left_are ended))
      by_result (Err e) ended = ended
  made_ok c edits left is first none edits_are left_are ended = absurd (let bad : ⊥ = cc is in bad)

  pub made_stop : (c : Cmd) (stop : PrepareStop) → is_creation c ≡ true → told ≡ told_first c old.store.room → IsStoppedFor (refusal_to t told c) stop
      → IfOk r (λ a. SaysRefusal given stop (text a)) → u ≡ t → now ≡ old → IfOk r (λ a. IsAnswerMade given t c old now u (text a))
  made_stop (command.BlockdevCreate c) stop is first for_this said table ground = by_result r said
    where
      by_result : (r : Result A E) → IfOk r (λ a. SaysRefusal given stop (text a)) → IfOk r (λ a. IsAnswerMade given t (command.BlockdevCreate c) old now u (text a))
      by_result (Ok a) said = refused-as given t told old now u (text a) c first stop for_this said table ground
      by_result (Err e) said = said
  made_stop c stop is first for_this said table ground = absurd (let bad : ⊥ = cc is in bad)
