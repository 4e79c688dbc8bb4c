-- What the carrier of changes leaves beside its answer: accepted, refused, or where it has to wait.
use Rattle.std.proofs.Common.{◌≡◌, ℕ, Bool, true, false, cond, List, [], ◌∷◌, Some, None, Ok, Err, refl, sym, ◌∙◌, ap, subst}
use Rattle.std.specs.Prelude.{◌↔◌}
use Rattle.std.proofs.lemmas.Bool.{false≢true}
use Rattle.qmp_codec.specs.Commands.{Cmd}
use Rattle.qmp_codec.specs.declared.command.Command.TheVariants as command
use Rattle.qmp_codec.specs.declared.nodes.Snapshot.{Snapshot}
use Rattle.qmp_rules.specs.declared.judge.PrepareStop.{PrepareStop}
use Rattle.qmp_rules.specs.declared.judge.PrepareStop.TheVariants.{Refused, NoMemory}
use Rattle.qmp_rules.specs.declared.refusal.Refusal.{Refusal}
use Rattle.qmp_rules.specs.declared.told.Told.{Told}
use Rattle.qmp_rules.specs.Answers.{Answer, command_edits, left_by, refusal_to, returned, told_none}
use Rattle.qmp_rules.specs.Changes.{all_changed}
use Rattle.qmp_rules.specs.Prepared.{IsStoppedFor}
use Rattle.qmp_rules.specs.Table.{RunTable, has_name, id_named}
use Rattle.flat_machine.specs.Marks.{AreCalm, drained_by}
use Rattle.flat_machine.specs.State.{State}
use Rattle.flat_machine.proofs.Finds.{bytes_eq-same}
use Rattle.blk_nodes.specs.Joined.{IsJoined}
use Rattle.blk_nodes.specs.Nodes.{Nodes}
use Rattle.blk_nodes.specs.Overlays.{IsFresh}
use Rattle.world_parts.specs.Carrying.{is_of_bitmaps}
use Rattle.world_parts.specs.Handling.{SaysRefusal}
use Rattle.world_parts.specs.Saying.{IsSaid}
use Rattle.world_parts.proofs.Placed.{answer-is}
use Rattle.world_changes.specs.Changing.{HasChanged, IsDone, Scene, TellsMappedAlone, is_change}
use Rattle.world_changes.proofs.OverlayBytes.{image_told}

-- ---- what is told

pub overlay_told : (t : RunTable) (nodes : Nodes) (c : Snapshot (List ℕ)) (names : List (List ℕ)) (fresh : Bool)
    → names ≡ cond fresh [] (c.overlay ∷ [])
    → ((node : ℕ) → id_named t c.overlay ≡ Some node → (fresh ≡ true) ↔ IsFresh nodes node) → IsJoined nodes
    → TellsMappedAlone t nodes (command.BlockdevSnapshot c) (record told_none { mapped = names })
overlay_told t nodes c names fresh is each joined = record {
  maps = λ node named. image_told nodes joined node (has_name c.overlay names) (by_fresh fresh is (each node named));
  rest = refl;
  none = λ other. absurd (let bad : ⊥ = cc other in bad);
}
  where
    by_fresh : {P : Type 0} (b : Bool) → names ≡ cond b [] (c.overlay ∷ []) → (b ≡ true) ↔ P → (has_name c.overlay names ≡ false) ↔ P
    by_fresh true is both = (λ unnamed. both.0 refl, λ p. rw is refl)
    by_fresh false is both = (
      λ unnamed.
          let named : has_name c.overlay names ≡ true = rw (is, bytes_eq-same c.overlay) refl in
          absurd (false≢true (sym unnamed ∙ named)),
      λ p. absurd (false≢true (both.1 p)),
    )

-- a command on bitmaps that nothing refuses is told nothing
pub bitmaps_untold : (t : RunTable) (nodes : Nodes) (c : Cmd) (told : Told) → TellsMappedAlone t nodes c told → refusal_to t told c ≡ None
    → is_of_bitmaps c ≡ true → refusal_to t told_none c ≡ None
bitmaps_untold t nodes (command.BlockdevSnapshot c) told tells none is = absurd cc
bitmaps_untold t nodes c told tells none is = subst (λ (x : Told). refusal_to t x c ≡ None) (tells.none refl) none

-- ---- answers

leaves_nothing : (t : RunTable) (c : Cmd) (cause : Refusal) → is_change c ≡ true → left_by t c cause ≡ []
leaves_nothing t (command.BlockdevCreate c) cause is = absurd cc
leaves_nothing t c cause is = refl

module _ (s : State) (given : List ℕ) (c : Cmd) (x y : Scene) (told : Told) (tells : TellsMappedAlone x.table x.nodes c told) where
  pub changed_so : (text : List ℕ) → refusal_to x.table told c ≡ None → y.table ≡ all_changed x.table (command_edits x.table told c)
      → IsDone c x y → IsSaid given (Ok (returned x.table told c)) text → AreCalm s.table s.guests (drained_by x.table c)
      → y.drains ≡ x.drains → HasChanged s given c x y text
  changed_so text none table done said calm drains =
      let answer_is = answer-is x.table told c None none in
      record {
        told = told;
        tells = tells;
        refusal = None;
        judged = none;
        done_is = done;
        table = table ∙ sym (ap (λ (a : Answer). all_changed x.table a.changes) answer_is);
        said = subst (λ (a : Answer). IsSaid given a.reply text) (sym answer_is) said;
        calm = λ is. calm;
        drains = drains;
      }

  module _ (is : is_change c ≡ true) where
    refused_so : (text : List ℕ) (cause : Refusal) → refusal_to x.table told c ≡ Some cause → y ≡ x → IsSaid given (Err cause) text
        → HasChanged s given c x y text
    refused_so text cause some same said =
        let answer_is = answer-is x.table told c (Some cause) some in
        record {
          told = told;
          tells = tells;
          refusal = Some cause;
          judged = some;
          done_is = record { nodes = ap (λ (z : Scene). z.nodes) same; bitmaps = ap (λ (z : Scene). z.bitmaps) same };
          table =
              ap (λ (z : Scene). z.table) same
              ∙ sym (ap (λ (a : Answer). all_changed x.table a.changes) answer_is ∙ ap (all_changed x.table) (leaves_nothing x.table c cause is));
          said = subst (λ (a : Answer). IsSaid given a.reply text) (sym answer_is) said;
          calm = λ none. absurd (let bad : ⊥ = cc none in bad);
          drains = ap (λ (z : Scene). z.drains) same;
        }

    -- it was not prepared
    pub stop_so : (text : List ℕ) (stop : PrepareStop) → IsStoppedFor (refusal_to x.table told c) stop → y ≡ x → SaysRefusal given stop text
        → HasChanged s given c x y text
    stop_so text (Refused cause) some same said = refused_so text cause some same said
    stop_so text NoMemory some same said = absurd said
