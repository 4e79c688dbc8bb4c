-- Lines that start backups and mirrors: what is answered, and the world behind them.
use Rattle.std.proofs.Common.{◌≡◌, ℕ, true, List, [], ◌∷◌, ◌++◌, Some, None, Ok, inr, refl, ap, subst}
use Rattle.std.specs.Prelude.{IsSome}
use Rattle.blk_history.specs.declared.event.Event.{Event}
use Rattle.blk_history.specs.declared.event.Event.TheVariants.{Reply}
use Rattle.blk_nodes.specs.Contents.{Unfolds}
use Rattle.blk_nodes.specs.Joined.{IsJoined}
use Rattle.blk_nodes.specs.Nodes.{Nodes}
use Rattle.block_jobs.specs.Work.{IsJobWork}
use Rattle.flat_machine.specs.Legal.{IsNotDone}
use Rattle.flat_machine.specs.Marks.{Drained}
use Rattle.flat_machine.specs.declared.opening.Opening.{Opening}
use Rattle.flat_machine.specs.Replies.{is_accepted}
use Rattle.flat_machine.proofs.Answered.{reads_accepted}
use Rattle.job_commands.specs.Begun.{CopyCmd, cmd_of, copy_job}
use Rattle.qmp_codec.specs.Lines.{command_at, id_at}
use Rattle.qmp_rules.specs.Answers.{line_text, returned, told_none}
use Rattle.qmp_rules.specs.Table.{RunTable}
use Rattle.world_goings.specs.Begun.{CanCopyWhole}
use Rattle.world_goings.proofs.CopyStarts.{new_copy}
use Rattle.world_goings.proofs.Starts.{starts_comes}
use Rattle.world_jobs.specs.Beginning.{BegunJob}
use Rattle.world_jobs.specs.Started.{begun_world, replied_world}
use Rattle.world_jobs.specs.Starting.{IsStarted, start_scene}
use Rattle.world_jobs.proofs.StartCarried.{start_accepted}
use Rattle.world_jobs.proofs.StartWhole.{start_counted, start_found}
use Rattle.world_lines.proofs.CarryLines.{answered_answers, answered_comes, answered_replied}
use Rattle.world_parts.specs.Carrying.{AnswersLine, IsCarriedAs, IsReplied, reply_entry}
use Rattle.world_parts.specs.Coherent.{IsWholeWorld}
use Rattle.world_parts.specs.Comes.{Comes}
use Rattle.world_parts.specs.Face.{WorldSeen, seen_state}
use Rattle.world_parts.specs.Jobs.{BeginsOne}
use Rattle.world_parts.specs.Progress.{Progress, with_bare_entry}
use Rattle.world_parts.specs.Saying.{Given}
use Rattle.world_parts.specs.Steps.{lifted, with_history}
use Rattle.world_parts.proofs.JobsAnswered.{StartsNoJob}
use Rattle.world_parts.proofs.SoundImages.{images-sound}
use Rattle.world_parts.proofs.WholeDisks.{row_sizes}

last_same : (xs : List Event) (a b : Event) → xs ++ a ∷ [] ≡ xs ++ b ∷ [] → a ≡ b
last_same [] a b same = let head : a ≡ b = cc same in head
last_same (x ∷ xs) a b same = let rest : xs ++ a ∷ [] ≡ xs ++ b ∷ [] = cc same in last_same xs a b rest

module _ (w : WorldSeen) (line : Given) (c : CopyCmd) (good : command_at line.text ≡ Ok (cmd_of c)) where
  -- ---- refused

  module _ (text : List ℕ) (is : IsCarriedAs w w line.text (cmd_of c) text) (some : IsSome is.refusal) where
    none_starts : is.refusal ≡ None → StartsNoJob w.table (cmd_of c)
    none_starts none = absurd (let bad = subst IsSome none some in let no : ⊥ = cc bad in no)

    pub refused_answers : AnswersLine w (lifted (with_history w (with_bare_entry (Reply line.number line.text (Some (cmd_of c)) text)))) line
    refused_answers = answered_answers w w line text (cmd_of c) good is none_starts

    pub refused_comes : IsWholeWorld w → IsJoined w.nodes → (o : Opening) → IsNotDone (seen_state w) 0 → Comes o w
        → Comes o (lifted (with_history w (with_bare_entry (Reply line.number line.text (Some (cmd_of c)) text))))
    refused_comes whole joined o not_done comes =
        answered_comes w w line text (cmd_of c) good is none_starts (λ told. images-sound w joined whole.coherent (whole.tell told)) whole.jobs
        (λ told. row_sizes w.table w.nodes whole.coherent.alike joined (whole.tell told)) o not_done comes

  -- ---- accepted

  module _ (u : RunTable) (now : Nodes) (text : List ℕ) (new : BegunJob) (drains : Drained) (whole : IsWholeWorld w) (joined : IsJoined w.nodes) (unfolds : Unfolds w.nodes) (after : IsJoined now)
      (sound : IsJobWork new.work)
      (did : IsStarted (seen_state w) line.text c w.bitmaps (start_scene w.table w.nodes w.drains) (start_scene u now drains) text new) where
    abbrev reply : Event
    reply = Reply line.number line.text (Some (cmd_of c)) text

    replied : IsReplied w (replied_world w u now reply) line
    replied =
        answered_replied w (record w { table = u; nodes = now }) line text (cmd_of c) good
        (start_accepted w line.text c whole joined unfolds u now did.accepted did.calm did.table did.puts after text did.said)

    begins : BeginsOne w.table (replied_world w u now reply) (begun_world w u now c reply)
    begins = record {
      row = copy_job w.table c;
      number = (new_copy w.table c).number;
      started = start_counted w u now c whole joined did.accepted did.table did.puts after new did.new_is sound reply;
      begins = record { there = start_found w u now c whole joined did.accepted did.table did.puts after new did.new_is sound reply; kept = refl };
    }

    pub begun_answers : AnswersLine w (begun_world w u now c reply) line
    begun_answers = record { between = replied_world w u now reply; replied = replied; begins = inr begins }

    text_same : text ≡ line_text w.table replied.told line.text
    text_same =
        let entries : w.progress.log.events ++ reply ∷ [] ≡ w.progress.log.events ++ reply_entry w replied.told line ∷ []
        = ap (λ (p : Progress). p.log.events) replied.progress in
        let one = last_same w.progress.log.events reply (reply_entry w replied.told line) entries in
        cc one

    says : is_accepted (line_text w.table replied.told line.text) ≡ true
    says = subst (λ (t : List ℕ). is_accepted t ≡ true) text_same (reads_accepted text (id_at line.text) (returned w.table told_none (cmd_of c)) did.said.reads)

    -- where its copy can be made
    pub begun_comes : (o : Opening) → IsNotDone (seen_state w) 0 → CanCopyWhole o w (copy_job w.table c) → Comes o w → Comes o (begun_world w u now c reply)
    begun_comes o not_done can comes =
        starts_comes o w (replied_world w u now reply) (begun_world w u now c reply) line c good replied begins whole joined unfolds after can says not_done comes
