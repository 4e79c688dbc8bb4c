-- What a reply says, where its text reads as the answer, and which changes it stands for.
use Rattle.std.proofs.Common.{◌≡◌, ℕ, Bool, true, false, List, [], refl, sym, ap, subst, ◌∙◌, Option, Some, None, Ok}
use Rattle.serde_json.specs.Data.{Data}
use Rattle.serde_json.specs.Read.{read}
use Rattle.qmp_codec.specs.Commands.{Cmd}
use Rattle.qmp_codec.specs.Lines.{command_at}
use Rattle.qmp_codec.specs.Replies.{returned_data, refused_data}
use Rattle.qmp_codec.specs.declared.reply.Class.{Class}
use Rattle.qmp_codec.specs.declared.command.Command.TheVariants as command
use Rattle.qmp_codec.specs.declared.nodes.FileRef.{FileRef}
use Rattle.qmp_codec.specs.declared.nodes.FileRef.TheVariants as file_ref
use Rattle.qmp_codec.specs.declared.nodes.AddRaw.{AddRaw}
use Rattle.qmp_codec.specs.declared.nodes.Added.{Added}
use Rattle.qmp_codec.specs.declared.nodes.Added.TheVariants as added
use Rattle.qmp_rules.specs.declared.told.Told.{Told}
use Rattle.qmp_rules.specs.Table.{RunTable}
use Rattle.qmp_rules.specs.Edits.{edits_of, added_edits, raw_edits, qcow2_edits}
use Rattle.qmp_rules.specs.Answers.{refusal_to, command_edits}
use Rattle.qmp_asks.specs.NodeAsks.{is_read_only, backing_name}
use Rattle.flat_machine.specs.State.{State}
use Rattle.flat_machine.specs.Sights.{IsTold, expected}
use Rattle.flat_machine.specs.Replies.{is_accepted, is_failed_call, desc_of, edits_by, replied, failed_edits}
use Rattle.flat_machine.specs.Changed.{all_stepped}
use Rattle.flat_machine.specs.Agreement.{Contents, Agrees}
use Rattle.flat_machine.specs.Performing.{AllPerformed}
use Rattle.flat_machine.specs.Standing.{Stands}
use Rattle.flat_machine.proofs.Kept.{changes_keep}
use Rattle.flat_machine.proofs.Accepted.{accepted_can}

-- ---- texts

pub reads_accepted : (text : List ℕ) (id : Option Data) (d : Data) → read text ≡ Some (returned_data id d) → is_accepted text ≡ true
reads_accepted text None d h = rw h refl
reads_accepted text (Some id) d h = rw h refl

pub reads_refused : (text : List ℕ) (id : Option Data) (class : Class) (desc : List ℕ) → read text ≡ Some (refused_data id class desc)
    → (is_accepted text ≡ false) × (desc_of text ≡ Some desc)
reads_refused text None class desc h = (rw h refl, rw h refl)
reads_refused text (Some id) class desc h = (rw h refl, rw h refl)

-- ---- changes by what is told

module _ (t : RunTable) (told other : Told) (len : told.length ≡ other.length) (size : told.size ≡ other.size) where
  same_raw : (name : List ℕ) (read_only : Bool) (raw : AddRaw (List ℕ)) (file : FileRef (List ℕ))
      → raw_edits t told name read_only raw file ≡ raw_edits t other name read_only raw file
  same_raw name read_only raw (file_ref.Name file) = refl
  same_raw name read_only raw (file_ref.Inline file) = rw len refl

  same_qcow2 : (name : List ℕ) (read_only : Bool) (back : Option (List ℕ)) (file : FileRef (List ℕ))
      → qcow2_edits t told name read_only back file ≡ qcow2_edits t other name read_only back file
  same_qcow2 name read_only back (file_ref.Name file) = rw size refl
  same_qcow2 name read_only back (file_ref.Inline file) = rw (len, size) refl

  same_added : (name : List ℕ) (read_only : Bool) (driver : Added (List ℕ))
      → added_edits t told name read_only driver ≡ added_edits t other name read_only driver
  same_added name read_only (added.File filename) = rw len refl
  same_added name read_only (added.Raw raw) = same_raw name read_only raw raw.file
  same_added name read_only (added.Qcow2 image) = same_qcow2 name read_only (backing_name image.backing) image.file
  same_added name read_only (added.CopyOnRead file) = refl
  same_added name read_only added.Unknown = refl

  -- of what is told only sizes decide what a command changes
  pub same_edits : (c : Cmd) → command_edits t told c ≡ command_edits t other c
  unfolding edits_of
  same_edits (command.BlockdevAdd c) = same_added c.node_name (is_read_only c.options) c.driver
  same_edits (command.Transaction c) = refl
  same_edits _ = refl

-- A reply that reads as a result stands for the changes of its command, by whatever was told.
pub accepted_edits : (s : State) (told : Told) (c : Cmd) (text : List ℕ) (id : Option Data) (d : Data) → IsTold s c told
    → read text ≡ Some (returned_data id d) → edits_by s text (Ok c) ≡ command_edits s.table told c
accepted_edits s told c text id d is_told h =
    let accepted = reads_accepted text id d h in
    rw accepted (same_edits s.table (expected s c) told (sym is_told.file) (sym is_told.image) c)

-- ---- an accepted command

-- It keeps what nodes read as and what files hold as the flat machine says, where its changes were performed.
pub reply_keeps : (opening : List ℕ → Option (List ℕ)) (s : State) (told : Told) (c : Cmd) (given text : List ℕ) (id : Option Data) (d : Data)
    (old new : Contents) → command_at given ≡ Ok c → Stands s → IsTold s c told → refusal_to s.table told c ≡ None
    → read text ≡ Some (returned_data id d) → AllPerformed s (command_edits s.table told c) old new → Agrees opening s old
    → Agrees opening (replied s given text) new
reply_keeps opening s told c given text id d old new line stands is_told quiet reads did h =
    let edits : edits_by s text (command_at given) ≡ command_edits s.table told c =
    ap (edits_by s text) line ∙ accepted_edits s told c text id d is_told reads in
    let kept = changes_keep opening (command_edits s.table told c) s old new
    (accepted_can s told told c stands is_told.refusal quiet) did h in
    subst (λ changes. Agrees opening (all_stepped s changes) new) (sym edits) kept

-- a refused one of which no call failed changes nothing
pub refused_edits : (s : State) (c : Cmd) (text : List ℕ) (id : Option Data) (class : Class) (desc : List ℕ)
    → read text ≡ Some (refused_data id class desc) → is_failed_call desc ≡ false → edits_by s text (Ok c) ≡ []
refused_edits s c text id class desc h no_call =
    let says = reads_refused text id class desc h in
    rw (says.0, says.1, no_call) refl

-- one of which a call failed leaves what the command began
pub failed_call_edits : (s : State) (c : Cmd) (text : List ℕ) (id : Option Data) (class : Class) (desc : List ℕ)
    → read text ≡ Some (refused_data id class desc) → is_failed_call desc ≡ true → edits_by s text (Ok c) ≡ failed_edits s.table c
failed_call_edits s c text id class desc h call =
    let says = reads_refused text id class desc h in
    rw (says.0, says.1, call) refl
