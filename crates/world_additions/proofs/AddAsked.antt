-- What it means that nothing refuses an addition.
use Rattle.std.proofs.Common.{◌≡◌, ◌≢◌, ◌⊎◌, ℕ, ◌+◌, ◌≤◌, Bool, true, false, List, ◌∷◌, ◌++◌, inl, inr, refl, sym, ◌∙◌, ap, subst, arith, Option, Some, None}
use Rattle.std.specs.Prelude.{codes, is_some, nat_lt, not, option_map}
use Rattle.std.proofs.lemmas.Bool.{leb-true, ltb-false}
use Rattle.blk_graph.specs.declared.edge.Conflict.{Conflict as Pair}
use Rattle.blk_graph.specs.Rule.{first_conflict}
use Rattle.qmp_codec.specs.declared.command.Command.TheVariants as command
use Rattle.qmp_codec.specs.declared.fields.Amount.{Amount}
use Rattle.qmp_rules.specs.Answers.{conflict_after, conflict_in, conflict_refusal, is_joined, out_of_turn, refusal_to, told_none}
use Rattle.qmp_asks.specs.Asking.{Asking}
use Rattle.qmp_rules.specs.Asks.{first_unmet_ask, holds}
use Rattle.qmp_rules.specs.Changes.{all_changed}
use Rattle.qmp_rules.specs.Edits.{edits_of, node_ids}
use Rattle.qmp_rules.specs.Looks.{file_stop, is_unopened, stop_at, too_long}
use Rattle.qmp_asks.specs.Naming.{inline_name, is_name}
use Rattle.qmp_asks.specs.NodeAsks.{add_asks, added_names, added_rest, added_values, is_added, is_read_only, option_values}
use Rattle.qmp_rules.specs.Table.{RunTable, file_state, node_named}
use Rattle.qmp_asks.specs.Values.{begins_within, ends_within, most_length, part_offset, part_size}
use Rattle.qmp_asks.specs.declared.ask.Ask.TheVariants as ask
use Rattle.qmp_rules.specs.declared.refusal.FileFault.TheVariants.{TooLong}
use Rattle.qmp_rules.specs.declared.refusal.Refusal.{Refusal}
use Rattle.qmp_rules.specs.declared.refusal.Refusal.TheVariants as refusal
use Rattle.qmp_rules.specs.declared.rows.NodeRecord.{NodeRecord}
use Rattle.qmp_asks.specs.declared.look.Look.{Look}
use Rattle.qmp_asks.specs.declared.look.Look.TheVariants as look
use Rattle.qmp_rules.specs.declared.told.Told.{Told}
use Rattle.flat_machine.proofs.Accepted.{less_lost, opened}
use Rattle.flat_machine.specs.Sights.{order_of}
use Rattle.flat_machine.specs.Wiring.{TableAtRest}
use Rattle.flat_machine.proofs.OwnNames.{inline-free, name-asked, names-asked}
use Rattle.flat_machine.proofs.Asked.{NoneHolds, good-value, known-file, named-file, none-behind, none-both, none-holds, none-stands, not-refused}
use Rattle.world_parts.specs.Adding.{Adding, Opens, Taken, LooksInside, Looks, probe, look_in_vain}
use Rattle.world_parts.specs.Stores.{StoreInRun}
use Rattle.q2_image.specs.Image.{Known}
use Rattle.world_additions.proofs.AddTold.{IsFrom, has_look, silent-from}
use Rattle.world_additions.proofs.AddRefused.{refusal-is, stop-refused, unreached-refused}
use Rattle.world_additions.proofs.AddSeen.{AsFile, AsImage, AsPart, OpensAs, has-at, has-vain, looks-as}

-- ---- single asks

pub fresh-node : (t : RunTable) (told : Told) (name : List ℕ) → holds t told (ask.FreshNode (Some name)) ≡ None → node_named t name ≡ None
unfolding holds
fresh-node t told name h = by_row (node_named t name) refl (not-refused _ _ h)
  where
    by_row : (found : Option NodeRecord) → node_named t name ≡ found → is_some found ≡ false → node_named t name ≡ None
    by_row None e k = e
    by_row (Some row) e k = absurd cc

-- where that of the node over it is free, the name of a `file` node is so
pub inline-fresh : (t : RunTable) (told : Told) (name : List ℕ) (own : Option (List ℕ)) → TableAtRest t → is_name name ≡ true
    → holds t told (ask.FreshNode (Some name)) ≡ None → holds t told (ask.FreshNode own) ≡ None → node_named t (inline_name name own) ≡ None
inline-fresh t told name None rests is fresh free = inline-free t name rests is (fresh-node t told name fresh)
inline-fresh t told name (Some own) rests is fresh free = fresh-node t told own free

-- a file isn't too long for a node
pub short-file : (filename : List ℕ) (n : ℕ) → file_stop filename n ≡ None → n ≤ most_length
short-file filename n is = by_test (nat_lt most_length n) refl is
  where
    by_test : (b : Bool) → nat_lt most_length n ≡ b → stop_at look.File (too_long filename b) None ≡ None → n ≤ most_length
    by_test true e stops = absurd cc
    by_test false e stops = ltb-false most_length n e

-- so it is said of its length
pub record TellsShort (told : Told) (size : ℕ) : Type 0 where
  pub is : told.length ≡ Some size
  pub short : size ≤ most_length

-- a part lies within its file
pub part-within : (offset size : Option Amount) (n : ℕ) → begins_within offset n ≡ true → ends_within offset size n ≡ true
    → part_offset offset + part_size offset size n ≤ n
part-within offset None n begins ends =
    let least : part_offset offset ≤ n = leb-true (part_offset offset) n begins in
    omega (arith, least)
part-within offset (Some size) n begins ends = leb-true (part_offset offset + part_size offset (Some size) n) n ends

-- a file was opened, and a device is out for it
pub record IsTakenFor (t : RunTable) (told : Told) (c : Adding) (at : Opens) (old new : StoreInRun) (out : Option Taken) (image : Option Known) : Type 0 where
  pub device : Taken
  pub is : out ≡ Some device
  pub inside : LooksInside t c at.filename old new device image told

-- ---- all of them

module _ (t : RunTable) (told : Told) (c : Adding) (none : refusal_to t told (command.BlockdevAdd c) ≡ None) where
  parts : (first_unmet_ask t told (add_asks c) ≡ None) × (conflict_after (is_joined c.driver) t (edits_of t told_none (command.BlockdevAdd c)) ≡ None)
  parts =
      let turn = none-both (out_of_turn false t.negotiated) _ (sym (refusal-is t told c) ∙ none) in
      none-both (first_unmet_ask t told (add_asks c)) _ turn.1

  pub all-asked : NoneHolds t told (add_asks c)
  all-asked = none-holds t told (add_asks c) parts.0

  pub name-said : is_name c.node_name ≡ true
  name-said = name-asked t told c all-asked

  pub rest-asked : NoneHolds t told (added_rest c.node_name (is_read_only c.options) c.driver)
  rest-asked = none-behind t told front (added_rest c.node_name (is_read_only c.options) c.driver) all-asked
    where
      front : List Asking
      front =
          ask.Good (codes "driver") (is_added c.driver) ∷ option_values c.options
          ++ added_values c.driver
          ++ ask.Named (codes "node-name") (Some c.node_name) ∷ added_names c.driver

  driver-names : NoneHolds t told (added_names c.driver)
  driver-names = (names-asked t told c all-asked).1

  pub known-driver : is_added c.driver ≡ true
  known-driver = good-value t told (codes "driver") (is_added c.driver) all-asked.0

  -- the edges keep the permission rule
  pub keeps-rule : is_joined c.driver ≡ true
      → first_conflict (node_ids (all_changed t (edits_of t told_none (command.BlockdevAdd c)))) (all_changed t (edits_of t told_none (command.BlockdevAdd c))).edges ≡ None
  unfolding conflict_in
  keeps-rule joins =
      let kept : conflict_after true t (edits_of t told_none (command.BlockdevAdd c)) ≡ None =
      subst (λ (b : Bool). conflict_after b t (edits_of t told_none (command.BlockdevAdd c)) ≡ None) joins parts.1 in
      by_pair (first_conflict (node_ids (all_changed t (edits_of t told_none (command.BlockdevAdd c)))) (all_changed t (edits_of t told_none (command.BlockdevAdd c))).edges) kept
    where
      by_pair : (found : Option Pair) → option_map (conflict_refusal (all_changed t (edits_of t told_none (command.BlockdevAdd c)))) found ≡ None → found ≡ None
      by_pair None h = refl
      by_pair (Some pair) h = absurd cc

  -- nothing stops it at a look that is asked for
  pub not-stopped : (what : Look) (cause : Refusal) → told.stopped ≡ Some (record { look = what; refusal = cause }) → has_look what (add_asks c) ≡ true → ⊥
  not-stopped what cause stops has = stop-refused t told what cause c stops has none

  pub file-short : (filename : List ℕ) (n : ℕ) → told.stopped ≡ file_stop filename n → has_look look.File (add_asks c) ≡ true → n ≤ most_length
  file-short filename n stops has = by_test (nat_lt most_length n) refl stops
    where
      by_test : (b : Bool) → nat_lt most_length n ≡ b → told.stopped ≡ stop_at look.File (too_long filename b) None → n ≤ most_length
      by_test true e stops = absurd (not-stopped look.File (refusal.File filename TooLong) stops has)
      by_test false e stops = ltb-false most_length n e

  -- ---- the file that it opens

  pub unopened-not : (at : Opens) → OpensAs c at → is_unopened t at.filename ≡ false
  unopened-not at (AsFile e what) =
      let rest = rw e at rest-asked in
      let names = rw e at driver-names in
      opened t at.filename (named-file t told (codes "filename") at.filename names.0) (none-stands t told at.filename rest.1.1.0) (known-file t told at.filename false rest.1.1.1.1.0)
  unopened-not at (AsPart raw file e f name what) =
      let rest = rw (e, f) at rest-asked in
      let names = rw (e, f) at driver-names in
      subst (λ (n : List ℕ). is_unopened t n ≡ false) name
      (opened t file.filename (named-file t told (codes "filename") file.filename names.0) (none-stands t told file.filename rest.1.1.1.1.0)
      (less_lost true (file_state t file.filename) (known-file t told file.filename true rest.1.1.1.1.1.1.0)))
  unopened-not at (AsImage image file e f name what) =
      let rest = rw (e, f) at rest-asked in
      let names = rw (e, f) at driver-names in
      subst (λ (n : List ℕ). is_unopened t n ≡ false) name
      (opened t file.filename (named-file t told (codes "filename") file.filename names.0) (none-stands t told file.filename rest.1.1.1.1.1.1.0)
      (known-file t told file.filename false rest.1.1.1.1.1.1.1.1.0))

  pub taken-out : (at : Opens) → OpensAs c at → (old new : StoreInRun) (out : Option Taken) (image : Option Known)
      → Looks t c at old new out image told → IsTakenFor t told c at old new out image
  taken-out at opener old new out image (inl looks) = by_away looks.0.away
    where
      by_away : (refusal_to t (probe at.what) (command.BlockdevAdd c) ≢ Some refusal.Aborted) ⊎ (is_unopened t at.filename ≡ true) → IsTakenFor t told c at old new out image
      by_away (inl not) =
          let same : refusal_to t told (command.BlockdevAdd c) ≡ refusal_to t (probe at.what) (command.BlockdevAdd c) =
          unreached-refused t at.what c (looks-as c at opener) not told
          (silent-from at.what told (subst (λ (a : Told). IsFrom (order_of at.what) a.stopped) (sym looks.0.is) tt) (add_asks c)) in
          absurd (stop-refused t (probe at.what) at.what refusal.Aborted c refl (has-at c at opener) (sym same ∙ none))
      by_away (inr closed) = let bad : true ≡ false = sym closed ∙ unopened-not at opener in absurd (cc bad)
  taken-out at opener old new None image (inr looks) =
      let vain = looks.0 in
      absurd (not-stopped (look_in_vain at.what vain.why) vain.why (ap (λ (a : Told). a.stopped) vain.is) (has-vain c at opener vain.why))
  taken-out at opener old new (Some device) image (inr looks) = record { device = device; is = refl; inside = looks.0 }
