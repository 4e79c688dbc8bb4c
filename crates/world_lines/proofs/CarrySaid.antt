-- What the text of an answer says: the fault that it names, and the changes that it stands for.
use Rattle.std.proofs.Common.{◌≡◌, ℕ, Bool, true, false, List, [], refl, ◌∙◌, ap, Option, Some, None, Ok, Err}
use Rattle.std.specs.Prelude.{Result}
use Rattle.serde_json.specs.Data.{Data}
use Rattle.serde_json.specs.Read.{read}
use Rattle.blk_base.specs.declared.fault.FaultAt.{FaultAt}
use Rattle.qmp_codec.specs.Commands.{Cmd}
use Rattle.qmp_codec.specs.declared.command.Command.TheVariants as command
use Rattle.qmp_codec.specs.Lines.{id_at, command_at}
use Rattle.qmp_codec.specs.Replies.{returned_data}
use Rattle.qmp_rules.specs.declared.refusal.Refusal.{Refusal}
use Rattle.qmp_rules.specs.declared.refusal.Refusal.TheVariants as refusal
use Rattle.qmp_rules.specs.declared.told.Told.{Told}
use Rattle.qmp_rules.specs.Table.{RunTable}
use Rattle.qmp_rules.specs.Refusals.{refusal_text, refusal_class}
use Rattle.qmp_rules.specs.Answers.{Answer, answer, answer_by, refusal_to, command_edits, returned, left_by}
use Rattle.flat_machine.specs.State.{State}
use Rattle.flat_machine.specs.Sights.{IsTold}
use Rattle.flat_machine.specs.Licence.{named_in_text}
use Rattle.flat_machine.specs.EventLicence.{full_in_text}
use Rattle.flat_machine.specs.Replies.{desc_of, edits_by, failed_edits}
use Rattle.flat_machine.proofs.Answered.{reads_refused, accepted_edits, refused_edits, failed_call_edits}
use Rattle.world_parts.specs.Carrying.{fault_named, is_io_refusal}
use Rattle.world_parts.specs.Saying.{IsSaid}
use Rattle.world_lines.proofs.CarryWords.{IsTellable, full_named, tells, says_call}

-- ---- what it names

no-words : (text : List ℕ) (id : Option Data) (d : Data) → read text ≡ Some (returned_data id d) → desc_of text ≡ None
no-words text None d reads = rw reads refl
no-words text (Some id) d reads = rw reads refl

abbrev pub reply_fault : Result Data Refusal → Option FaultAt
reply_fault (Ok d) = None
reply_fault (Err cause) = fault_named cause

abbrev pub full_of : Result Data Refusal → Option ℕ
full_of (Ok d) = None
full_of (Err cause) = full_named cause

abbrev pub CanBeTold : Result Data Refusal → Type 0
CanBeTold (Ok d) = Unit {0}
CanBeTold (Err cause) = IsTellable cause

pub said_fault : (given : List ℕ) (reply : Result Data Refusal) (text : List ℕ) → IsSaid given reply text → CanBeTold reply
    → named_in_text text ≡ reply_fault reply
said_fault given (Ok d) text said can = rw (no-words text (id_at given) d said.reads) refl
said_fault given (Err cause) text said can =
    let says = reads_refused text (id_at given) (refusal_class cause) (refusal_text cause) said.reads in
    rw says.1 (tells cause can).fault

pub said_full : (given : List ℕ) (reply : Result Data Refusal) (text : List ℕ) → IsSaid given reply text → CanBeTold reply
    → full_in_text text ≡ full_of reply
said_full given (Ok d) text said can = rw (no-words text (id_at given) d said.reads) refl
said_full given (Err cause) text said can =
    let says = reads_refused text (id_at given) (refusal_class cause) (refusal_text cause) said.reads in
    rw says.1 (tells cause can).full

-- ---- the changes that it stands for

call-left : (t : RunTable) (c : Cmd) (cause : Refusal) → is_io_refusal cause ≡ true → failed_edits t c ≡ left_by t c cause
call-left t (command.BlockdevCreate c) (refusal.Io source count) call = refl
call-left t (command.BlockdevCreate c) (refusal.NoSpace dev) call = refl
call-left t (command.BlockdevCreate c) _ call = absurd cc
call-left t _ cause call = refl

pub no-call-left : (t : RunTable) (c : Cmd) (cause : Refusal) → is_io_refusal cause ≡ false → [] ≡ left_by t c cause
no-call-left t (command.BlockdevCreate c) (refusal.Io source count) call = absurd cc
no-call-left t (command.BlockdevCreate c) (refusal.NoSpace dev) call = absurd cc
no-call-left t (command.BlockdevCreate c) _ call = refl
no-call-left t _ cause call = refl

-- answers that are the same change the same
same-edits : (t : RunTable) (seen told : Told) (c : Cmd) (first : Option Refusal) → answer_by t seen c first ≡ answer_by t told c None
    → command_edits t seen c ≡ command_edits t told c
same-edits t seen told c None same = ap (λ (a : Answer). a.changes) same
same-edits t seen told c (Some cause) same = absurd (let reply : Err cause ≡ Ok (returned t told c) = ap (λ (a : Answer). a.reply) same in cc reply)

module _ (s : State) (told seen : Told) (c : Cmd) (given text : List ℕ) (line : command_at given ≡ Ok c) (is_told : IsTold s c seen) where
  said-by : (first : Option Refusal) → answer s.table seen c ≡ answer_by s.table told c first
      → IsSaid given (answer_by s.table told c first).reply text → CanBeTold (answer_by s.table told c first).reply
      → edits_by s text (Ok c) ≡ (answer_by s.table told c first).changes
  unfolding answer
  said-by None same said can =
      accepted_edits s seen c text (id_at given) (returned s.table told c) is_told said.reads
      ∙ same-edits s.table seen told c (refusal_to s.table seen c) same
  said-by (Some cause) same said can = by (is_io_refusal cause) refl
    where
      by : (b : Bool) → is_io_refusal cause ≡ b → edits_by s text (Ok c) ≡ left_by s.table c cause
      by true call =
          failed_call_edits s c text (id_at given) (refusal_class cause) (refusal_text cause) said.reads (says_call cause can ∙ call)
          ∙ call-left s.table c cause call
      by false quiet =
          refused_edits s c text (id_at given) (refusal_class cause) (refusal_text cause) said.reads (says_call cause can ∙ quiet)
          ∙ no-call-left s.table c cause quiet

  pub said_edits : answer s.table seen c ≡ answer s.table told c → IsSaid given (answer s.table told c).reply text
      → CanBeTold (answer s.table told c).reply → edits_by s text (command_at given) ≡ (answer s.table told c).changes
  unfolding answer
  said_edits same said can =
      ap (edits_by s text) line ∙ said-by (refusal_to s.table told c) same said can
