-- What it means that nothing refuses a creation or a deletion, and what refuses a creation of which a call failed.
use Rattle.std.proofs.Common.{◌≡◌, ℕ, ◌≤◌, Bool, true, false, List, [], ◌∷◌, ◌++◌, refl, sym, ◌∙◌, ap, Option, Some, None}
use Rattle.std.specs.Prelude.{codes, ◌&&◌}
use Rattle.std.specs.List.{list_any}
use Rattle.std.proofs.lemmas.Bool.{leb-true}
use Rattle.blk_graph.specs.declared.kind.Kind.TheVariants.{Protocol}
use Rattle.qmp_codec.specs.declared.command.Command.TheVariants as command
use Rattle.qmp_codec.specs.declared.fields.Amount.{Amount}
use Rattle.qmp_codec.specs.declared.fields.Amount.TheVariants.{Number, Negative}
use Rattle.qmp_codec.specs.declared.nodes.CreateFile.{CreateFile}
use Rattle.qmp_codec.specs.declared.nodes.CreateQcow2.{CreateQcow2}
use Rattle.qmp_codec.specs.declared.nodes.Created.TheVariants as created
use Rattle.qmp_codec.specs.Commands.{Cmd}
use Rattle.qmp_asks.specs.declared.ask.Ask.TheVariants as ask
use Rattle.qmp_asks.specs.declared.ask.Drivers.TheVariants as drivers
use Rattle.qmp_rules.specs.declared.refusal.Refusal.{Refusal}
use Rattle.qmp_rules.specs.declared.rows.NodeRecord.{NodeRecord}
use Rattle.qmp_asks.specs.declared.look.Look.TheVariants as look
use Rattle.qmp_rules.specs.declared.told.Told.{Told}
use Rattle.qmp_rules.specs.Answers.{unbuilt, out_of_turn, refusal_to, refusal_behind}
use Rattle.qmp_asks.specs.Asking.{Asking}
use Rattle.qmp_rules.specs.Asks.{holds, first_unmet_ask, stands_for, told_at}
use Rattle.qmp_asks.specs.CommandAsks.{asks_of, negotiates}
use Rattle.qmp_asks.specs.NodeAsks.{del_asks}
use Rattle.qmp_rules.specs.Refusals.{or_else}
use Rattle.qmp_rules.specs.Table.{RunTable, node_named, first_into}
use Rattle.qmp_asks.specs.Values.{amount_or, is_size, is_image_size, most_size, absent_or, is_image_format, is_just, is_version}
use Rattle.world_files.specs.Deletions.{Deletes}
use Rattle.flat_machine.proofs.Accepted.{is_protocol, look-quiet}
use Rattle.flat_machine.proofs.Asked.{none-both, NoneHolds, found-named, takes-driver, lone-node, none-stands, good-value}
use Rattle.world_parts.proofs.Accepted.{asked}

-- ---- deletions

pub del_asked : (t : RunTable) (told : Told) (name : List ℕ) → refusal_to t told (command.BlockdevDel name) ≡ None → Deletes t name
unfolding asks_of
del_asked t told name none =
    let asks : NoneHolds t told (del_asks name) = asked t told (command.BlockdevDel name) none in
    let row = found-named t told name asks.1.0 in
    record { row = row.0; found = row.1; lone = lone-node t told name row.0 row.1 asks.1.1.1.0 }

-- ---- creations of files

number_within : (size : Amount) → is_size size ≡ true → amount_or 0 (Some size) ≤ most_size
number_within (Number n) is = leb-true n most_size is
number_within Negative is = absurd (let bad : ⊥ = cc is in bad)

-- no node stands for the file, and nothing is told against it
pub record MakesFile (t : RunTable) (told : Told) (c : CreateFile (List ℕ)) : Type 0 where
  pub closed : list_any (stands_for c.filename) t.nodes ≡ false
  pub quiet : told_at look.File told.stopped ≡ None
  pub small : amount_or 0 (Some c.size) ≤ most_size

module _ (t : RunTable) (told : Told) (id : List ℕ) (c : CreateFile (List ℕ)) where
  abbrev makes : Cmd
  makes = command.BlockdevCreate (record { job_id = id; options = created.File c })

  -- what is asked before the store is
  abbrev file_front : List Asking
  file_front =
      ask.Good (codes "size") (is_size c.size)
      ∷ ask.Named (codes "job-id") (Some id)
      ∷ ask.FileNamed (codes "filename") (Some c.filename)
      ∷ ask.FreshJob id
      ∷ ask.Closed c.filename
      ∷ []

  pub file_asked : refusal_to t told makes ≡ None → MakesFile t told c
  unfolding asks_of
  file_asked none =
      let asks = asked t told makes none in
      record {
        closed = none-stands t told c.filename asks.1.1.1.1.0;
        quiet = look-quiet t told look.File asks.1.1.1.1.1.0;
        small = number_within c.size (good-value t told (codes "size") (is_size c.size) asks.0);
      }

-- ---- creations of images

image_within : (size : Amount) → is_image_size size ≡ true → amount_or 0 (Some size) ≤ most_size
image_within (Number n) is = leb-true n most_size (left_of _ _ is)
  where
    left_of : (a b : Bool) → (a && b) ≡ true → a ≡ true
    left_of true b both = refl
    left_of false b both = both
image_within Negative is = absurd (let bad : ⊥ = cc is in bad)

-- the node is a `file` node that no edge leads to, and nothing is told against it
pub record FormatsNode (t : RunTable) (told : Told) (c : CreateQcow2 (List ℕ)) : Type 0 where
  pub row : NodeRecord
  pub found : node_named t c.file ≡ Some row
  pub driver : row.kind ≡ Protocol
  pub lone : first_into row.id t.edges ≡ None
  pub quiet : told_at look.Format told.stopped ≡ None
  pub small : amount_or 0 (Some c.size) ≤ most_size
  pub named : holds t told (ask.FileNamed (codes "backing-file") c.backing_file) ≡ None

pub format_asked : (t : RunTable) (told : Told) (id : List ℕ) (c : CreateQcow2 (List ℕ))
    → refusal_to t told (command.BlockdevCreate (record { job_id = id; options = created.Qcow2 c })) ≡ None → FormatsNode t told c
unfolding asks_of
format_asked t told id c none =
    let asks = asked t told (command.BlockdevCreate (record { job_id = id; options = created.Qcow2 c })) none in
    let rest = asks.1.1.1.1.1.1.1.1 in
    let row = found-named t told c.file rest.0 in
    record {
      row = row.0;
      found = row.1;
      driver = is_protocol row.0.kind (takes-driver t told c.file drivers.File row.0 row.1 rest.1.1.0);
      lone = lone-node t told c.file row.0 row.1 rest.1.1.1.0;
      quiet = look-quiet t told look.Format rest.1.1.1.1.0;
      small = image_within c.size (good-value t told (codes "size") (is_image_size c.size) asks.0);
      named = asks.1.1.1.1.1.1.1.0;
    }

-- ---- a call that failed

first_front : (t : RunTable) (told : Told) (xs ys : List Asking) → first_unmet_ask t told (xs ++ ys) ≡ None → first_unmet_ask t told xs ≡ None
first_front t told [] ys none = refl
first_front t told (asking ∷ xs) ys none =
    let parts = none-both (holds t told asking) (first_unmet_ask t told (xs ++ ys)) none in
    ap (λ (r : Option Refusal). or_else r (first_unmet_ask t told xs)) parts.0 ∙ first_front t told xs ys parts.1

-- the last ask alone is refused, where it is told of another thing
late : (t : RunTable) (old now : Told) (front : List Asking) (last : Asking) (cause : Refusal)
    → first_unmet_ask t old (front ++ last ∷ []) ≡ None → first_unmet_ask t now front ≡ first_unmet_ask t old front → holds t now last ≡ Some cause
    → first_unmet_ask t now (front ++ last ∷ []) ≡ Some cause
late t old now front last cause none same fails = joined front none same
  where
    joined : (xs : List Asking) → first_unmet_ask t old (xs ++ last ∷ []) ≡ None → first_unmet_ask t now xs ≡ first_unmet_ask t old xs
        → first_unmet_ask t now (xs ++ last ∷ []) ≡ Some cause
    joined [] none same = ap (λ (r : Option Refusal). or_else r None) fails
    joined (asking ∷ xs) none same =
        let parts = none-both (holds t old asking) (first_unmet_ask t old (xs ++ last ∷ [])) none in
        let front_none : first_unmet_ask t old (asking ∷ xs) ≡ None = first_front t old (asking ∷ xs) (last ∷ []) none in
        let now_none : first_unmet_ask t now (asking ∷ xs) ≡ None = same ∙ front_none in
        let parts' = none-both (holds t now asking) (first_unmet_ask t now xs) now_none in
        ap (λ (r : Option Refusal). or_else r (first_unmet_ask t now (xs ++ last ∷ []))) parts'.0
        ∙ joined xs parts.1 (parts'.1 ∙ sym (first_front t old xs (last ∷ []) parts.1))

-- what the files tell at the last ask is then the answer
module _ (t : RunTable) (told now : Told) (cause : Refusal) where
  answered : (c : Cmd) → refusal_to t told c ≡ None → first_unmet_ask t now (asks_of c) ≡ Some cause → refusal_to t now c ≡ Some cause
  unfolding refusal_to
  answered c none asks =
      let built = none-both (unbuilt c) _ none in
      let turn = none-both (out_of_turn (negotiates c) t.negotiated) _ built.1 in
      let behind : Option Refusal = refusal_behind t now c in
      ap (λ (r : Option Refusal). or_else r (or_else (out_of_turn (negotiates c) t.negotiated) (or_else (first_unmet_ask t now (asks_of c)) behind))) built.0
      ∙ ap (λ (r : Option Refusal). or_else r (or_else (first_unmet_ask t now (asks_of c)) behind)) turn.0
      ∙ ap (λ (r : Option Refusal). or_else r behind) asks

  none_first : (c : Cmd) → refusal_to t told c ≡ None → first_unmet_ask t told (asks_of c) ≡ None
  unfolding refusal_to
  none_first c none =
      let built = none-both (unbuilt c) _ none in
      let turn = none-both (out_of_turn (negotiates c) t.negotiated) _ built.1 in
      (none-both (first_unmet_ask t told (asks_of c)) (refusal_behind t told c) turn.1).0

  pub file_fails : (id : List ℕ) (c : CreateFile (List ℕ)) → refusal_to t told (makes t told id c) ≡ None → told_at look.File now.stopped ≡ Some cause
      → refusal_to t now (makes t told id c) ≡ Some cause
  unfolding asks_of holds
  file_fails id c none fails =
      answered (makes t told id c) none
      (late t told now (file_front t told id c) (ask.Files look.File) cause (none_first (makes t told id c) none) refl fails)

  -- what is asked before a device is
  abbrev format_front : List ℕ → CreateQcow2 (List ℕ) → List Asking
  format_front id c =
      ask.Good (codes "size") (is_image_size c.size)
      ∷ ask.Good (codes "backing-fmt") (absent_or is_image_format c.backing_fmt)
      ∷ ask.Good (codes "cluster-size") (is_just 65536 c.cluster_size)
      ∷ ask.Good (codes "refcount-bits") (is_just 16 c.refcount_bits)
      ∷ ask.Good (codes "version") (absent_or is_version c.version)
      ∷ ask.Named (codes "job-id") (Some id)
      ∷ ask.Named (codes "file") (Some c.file)
      ∷ ask.FileNamed (codes "backing-file") c.backing_file
      ∷ ask.Found (Some c.file)
      ∷ ask.FreshJob id
      ∷ ask.Drives (Some c.file) drivers.File
      ∷ ask.Lone c.file
      ∷ []

  pub format_fails : (id : List ℕ) (c : CreateQcow2 (List ℕ))
      → refusal_to t told (command.BlockdevCreate (record { job_id = id; options = created.Qcow2 c })) ≡ None → told_at look.Format now.stopped ≡ Some cause
      → refusal_to t now (command.BlockdevCreate (record { job_id = id; options = created.Qcow2 c })) ≡ Some cause
  unfolding asks_of holds
  format_fails id c none fails =
      let formats : Cmd = command.BlockdevCreate (record { job_id = id; options = created.Qcow2 c }) in
      answered formats none
      (late t told now (format_front id c) (ask.Files look.Format) cause (none_first formats none) refl fails)

-- a driver that creates nothing is refused
pub unknown_refused : (t : RunTable) (told : Told) (id : List ℕ)
    → refusal_to t told (command.BlockdevCreate (record { job_id = id; options = created.Unknown })) ≡ None → ⊥
unfolding asks_of
unknown_refused t told id none =
    let asks = asked t told (command.BlockdevCreate (record { job_id = id; options = created.Unknown })) none in
    let bad : false ≡ true = good-value t told (codes "driver") false asks.0 in
    let e : ⊥ = cc bad in e
