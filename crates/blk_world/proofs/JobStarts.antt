-- Lines that start backups and mirrors, as the calls leave them.
use Rattle.std.proofs.Common.{◌≡◌, ℕ, ◌≤◌, ◌<◌, ◌^◌, ◌++◌, true, length, List, [], ◌∷◌, Ok, Option, Some, None, refl, sym, ◌∙◌, ap, subst}
use Rattle.std.specs.Prelude.{OnErr, Result, String, string_bytes}
use Rattle.std.specs.declared.alloc.Global.{Global}
use Rattle.blk_bitmaps.specs.declared.row.Bitmap.{Bitmap}
use Rattle.blk_history.specs.declared.event.Event.{Event}
use Rattle.blk_history.specs.declared.event.Event.TheVariants.{Reply}
use Rattle.blk_nodes.specs.Contents.{Unfolds}
use Rattle.blk_nodes.specs.Joined.{IsJoined}
use Rattle.blk_nodes.specs.Nodes.{Nodes}
use Rattle.block_jobs.specs.Work.{IsJobWork, JobWork}
use Rattle.flat_machine.specs.Jobs.{granules_of}
use Rattle.flat_machine.specs.Legal.{IsNotDone}
use Rattle.flat_machine.specs.Marks.{Drained, after_reply, drained_by}
use Rattle.flat_machine.specs.State.{Dirty, State}
use Rattle.flat_machine.specs.declared.opening.Opening.{Opening}
use Rattle.job_commands.specs.Begun.{CopyCmd, OfBackup, OfMirror, cmd_of, copy_job}
use Rattle.job_progress.specs.Beginning.{begun_by, work_begun}
use Rattle.qmp_codec.specs.Commands.{Cmd}
use Rattle.qmp_codec.specs.Lines.{command_at}
use Rattle.qmp_codec.specs.declared.command.Command.TheVariants.{BlockdevBackup, BlockdevMirror}
use Rattle.qmp_rules.specs.Answers.{told_none}
use Rattle.qmp_rules.specs.Queries.{bytes_of_node}
use Rattle.qmp_rules.specs.Table.{RunTable}
use Rattle.qmp_rules.specs.declared.rows.JobRecord.{JobRecord}
use Rattle.world_changes.proofs.ChangesHandled.{whole_held}
use Rattle.world_goings.proofs.CanCopy.{can_copy_whole}
use Rattle.world_goings.proofs.StartWorld.{size_same}
use Rattle.world_jobs.specs.Beginning.{BegunJob, HasSpare, bitmaps_after}
use Rattle.world_jobs.specs.Plans.{IsPlanOf, copy_of, is_start, plan_of, seen_plan}
use Rattle.world_jobs.specs.Started.{IsStartIn, begun_world, replied_world, start_reply}
use Rattle.world_jobs.specs.Starting.{IsStartOf, IsStarted, StartScene, start_scene}
use Rattle.world_jobs.specs.declared.plan.CopyPlan.{CopyPlan}
use Rattle.world_jobs.specs.declared.start.Started.{Started}
use Rattle.world_jobs.specs.declared.start.Started.TheVariants.{Refused, Later, Begun}
use Rattle.world_jobs.proofs.StartBegun.{begins_so}
use Rattle.world_jobs.proofs.StartCarried.{started_in}
use Rattle.world_jobs.proofs.StartLines.{begun_answers, begun_comes, refused_answers, refused_comes}
use Rattle.world_jobs.proofs.StartRoom.{few_aside, few_works}
use Rattle.world_jobs.proofs.StartWhole.{start_found, start_whole}
use Rattle.world_lines.proofs.CarryLines.{late_comes, late_put_off}
use Rattle.world_parts.specs.Carrying.{AnswersLine, IsPutBackBy, IsPutOff, held_for}
use Rattle.world_parts.specs.Coherent.{IsWholeWorld}
use Rattle.world_parts.specs.Comes.{Comes}
use Rattle.world_parts.specs.Face.{WorldSeen, seen_state}
use Rattle.world_parts.specs.Jobs.{BeginsJob}
use Rattle.world_parts.specs.Progress.{Progress, with_bare_entry, with_start}
use Rattle.world_parts.specs.Saying.{Given}
use Rattle.world_parts.specs.Steps.{lifted, with_history}
use Rattle.blk_world.proofs.CarryBack.{back_by_on}

-- ---- their command

-- what a plan copies, a command says
pub record IsPlanned (x : Cmd) (plan : CopyPlan) : Type 0 where
  pub command : CopyCmd
  pub is : x ≡ cmd_of command
  pub plan_is : seen_plan plan ≡ plan_of command

pub planned : (x : Cmd) (plan : CopyPlan) → IsPlanOf (copy_of x) (Some plan) → IsPlanned x plan
planned (BlockdevBackup c) plan is = record { command = OfBackup c; is = refl; plan_is = is }
planned (BlockdevMirror c) plan is = record { command = OfMirror c; is = refl; plan_is = is }
planned _ plan is = absurd is

-- each such command has a plan
pub has_plan : (x : Cmd) → is_start x ≡ true → IsPlanOf (copy_of x) None → ⊥
has_plan (BlockdevBackup c) starts is = is
has_plan (BlockdevMirror c) starts is = is
has_plan _ starts is = absurd cc

-- ---- the work of a job that begins

begun_unmet : (row : JobRecord) (size : ℕ) (found : Option Dirty) → (begun_by row size found).met ≡ None
begun_unmet row size None = refl
begun_unmet row size (Some d) = refl

begun_size : (row : JobRecord) (size : ℕ) (found : Option Dirty) → (begun_by row size found).size ≡ size
begun_size row size None = refl
begun_size row size (Some d) = refl

-- ---- want of memory

pub scene_back : {T E : Type 0} (r : Result T E) (w : WorldSeen) (u : RunTable) (now : Nodes) (drains : Drained) (c : Cmd)
    → start_scene u now drains ≡ start_scene w.table w.nodes w.drains → OnErr r (IsPutBackBy w (record w { table = u; nodes = now; drains = drains }) c)
scene_back r w u now drains c same =
    subst (λ (v : WorldSeen). OnErr r (IsPutBackBy w v c))
    (sym (ap (λ (x : StartScene). let v : WorldSeen = record w { table = x.table; nodes = x.nodes; drains = x.drains } in v) same)) (back_by_on r w c)

-- ---- what their call leaves

module _ (w : WorldSeen) (line : Given) (x : Cmd) (read : command_at line.text ≡ Ok x) (whole : IsWholeWorld w) (joined : IsJoined w.nodes) (unfolds : Unfolds w.nodes)
    (u : RunTable) (now : Nodes) (drains : Drained) (after : IsJoined now) (plan : CopyPlan) (is_plan : IsPlanOf (copy_of x) (Some plan)) where
  abbrev left : WorldSeen
  left = record w { table = u; nodes = now; drains = drains }

  abbrev c : CopyCmd
  c = (planned x plan is_plan).command

  -- as it promises
  abbrev pub Leaves : Started → Type 0
  Leaves started =
      (s : State) (b : CopyCmd) → s.table ≡ w.table → s.guests ≡ w.progress.guests → x ≡ cmd_of b → seen_plan plan ≡ plan_of b
      → IsStartOf s line.text b w.bitmaps (start_scene w.table w.nodes w.drains) (start_scene u now drains) started

  is_cmd : x ≡ cmd_of c
  is_cmd = (planned x plan is_plan).is

  reads : command_at line.text ≡ Ok (cmd_of c)
  reads = subst (λ (y : Cmd). command_at line.text ≡ Ok y) is_cmd read

  did : (started : Started) → Leaves started → IsStartOf (seen_state w) line.text c w.bitmaps (start_scene w.table w.nodes w.drains) (start_scene u now drains) started
  did started leaves = leaves (seen_state w) c refl refl is_cmd (planned x plan is_plan).plan_is

  starts_in : (started : Started) → Leaves started → IsStartIn w u now drains line.text c started
  starts_in started leaves = started_in w line.text c u now drains whole joined unfolds after started (did started leaves)

  -- ---- it is refused

  module _ (text : String Global) (leaves : Leaves (Refused text)) where
    refused_in : IsStartIn w u now drains line.text c (Refused text)
    refused_in = starts_in (Refused text) leaves

    pub refused_whole : IsWholeWorld left
    refused_whole = subst IsWholeWorld (sym refused_in.0) whole

    module _ (copy : List ℕ) (same : copy ≡ line.text) (v : WorldSeen)
        (noted : v ≡ lifted (with_history left (with_bare_entry (Reply line.number copy (Some x) (string_bytes text))))) where
      noted_so : v ≡ replied_world w w.table w.nodes (start_reply line c (string_bytes text))
      noted_so =
          noted
          ∙ ap (λ (y : WorldSeen). lifted (with_history y (with_bare_entry (Reply line.number copy (Some x) (string_bytes text))))) refused_in.0
          ∙ ap (λ (given : List ℕ). lifted (with_history w (with_bare_entry (Reply line.number given (Some x) (string_bytes text))))) same
          ∙ ap (λ (y : Cmd). lifted (with_history w (with_bare_entry (Reply line.number line.text (Some y) (string_bytes text))))) is_cmd

      pub refused_answered : AnswersLine w v line
      refused_answered =
          subst (λ (y : WorldSeen). AnswersLine w y line) (sym noted_so) (refused_answers w line c reads (string_bytes text) refused_in.1 refused_in.2)

      pub refused_goes : IsNotDone (seen_state w) 0 → (o : Opening) → Comes o w → Comes o v
      refused_goes not_done o comes =
          subst (Comes o) (sym noted_so) (refused_comes w line c reads (string_bytes text) refused_in.1 refused_in.2 whole joined o not_done comes)

  -- ---- it has to wait

  module _ (g r : ℕ) (leaves : Leaves (Later g r)) where
    late_in : IsStartIn w u now drains line.text c (Later g r)
    late_in = starts_in (Later g r) leaves

    pub late_whole : IsWholeWorld left
    late_whole = subst IsWholeWorld (sym late_in.0) (whole_held w (drained_by w.table (cmd_of c)) whole)

    pub late_answered : IsPutOff w left line g r
    late_answered = subst (λ (y : WorldSeen). IsPutOff w y line g r) (sym late_in.0) (late_put_off w (held_for (cmd_of c) w) line (cmd_of c) g r reads late_in.1)

    pub late_goes : (o : Opening) → Comes o w → Comes o left
    late_goes o comes = subst (Comes o) (sym late_in.0) (late_comes w (held_for (cmd_of c) w) (cmd_of c) g r late_in.1 o comes)

  -- ---- it begins

  module _ (text : String Global) (new : BegunJob) (leaves : Leaves (Begun text new)) where
    abbrev row : JobRecord
    row = copy_job w.table c

    abbrev reply : Event
    reply = start_reply line c (string_bytes text)

    begun_did : IsStarted (seen_state w) line.text c w.bitmaps (start_scene w.table w.nodes w.drains) (start_scene u now drains) (string_bytes text) new
    begun_did = did (Begun text new) leaves

    work_is : new.work ≡ work_begun (seen_state (replied_world w u now reply)) row
    work_is = begun_did.new_is.work (seen_state (replied_world w u now reply)) refl refl

    pub begun_spare : HasSpare new w.bitmaps
    begun_spare = begun_did.new_is.spare

    pub begun_fresh : new.work.met ≡ None
    begun_fresh =
        ap (λ (work : JobWork). work.met) work_is
        ∙ begun_unmet row (bytes_of_node u row.source) (granules_of (seen_state (replied_world w u now reply)) row row.bitmap)

    pub begun_few : length w.works < 16
    begun_few = few_works w c whole begun_did.accepted

    pub begun_aside : w.progress.aside ≤ 30
    begun_aside = few_aside w c whole begun_did.accepted

    module _ (sound : IsJobWork new.work) where
      small : bytes_of_node w.table row.source ≤ 2 ^ 47
      small =
          let own : new.work.size ≡ bytes_of_node w.table row.source
          = ap (λ (work : JobWork). work.size) work_is
          ∙ begun_size row (bytes_of_node u row.source) (granules_of (seen_state (replied_world w u now reply)) row row.bitmap)
          ∙ size_same w u now told_none told_none c whole joined begun_did.accepted begun_did.table begun_did.puts after in
          subst (λ (size : ℕ). size ≤ 2 ^ 47) own sound.size

      module _ (copy : List ℕ) (same : copy ≡ line.text) (noted : Progress)
          (replied : noted ≡ with_bare_entry (Reply line.number copy (Some x) (string_bytes text)) w.progress) (free : Drained) (lifts : free ≡ after_reply drains)
          (bitmaps : List Bitmap) (frozen : bitmaps ≡ bitmaps_after new w.bitmaps) (works : List JobWork) (put : works ≡ w.works ++ new.work ∷ [])
          (progress : Progress) (started : progress ≡ with_start new.work.job new.line noted) where
        abbrev v : WorldSeen
        v = record w { table = u; nodes = now; drains = free; bitmaps = bitmaps; works = works; progress = progress }

        noted_as : noted ≡ with_bare_entry reply w.progress
        noted_as =
            replied
            ∙ ap (λ (given : List ℕ). with_bare_entry (Reply line.number given (Some x) (string_bytes text)) w.progress) same
            ∙ ap (λ (y : Cmd). with_bare_entry (Reply line.number line.text (Some y) (string_bytes text)) w.progress) is_cmd

        begins : BeginsJob (replied_world w u now reply) (record (replied_world w u now reply) { bitmaps = bitmaps; works = works; progress = progress }) row
        begins =
            begins_so (replied_world w u now reply) row new begun_did.new_is bitmaps works progress
            (start_found w u now c whole joined begun_did.accepted begun_did.table begun_did.puts after new begun_did.new_is sound reply) frozen put
            (started ∙ ap (with_start new.work.job new.line) noted_as)

        begun_is : v ≡ begun_world w u now c reply
        begun_is =
            ap (λ (d : Drained). let y : WorldSeen = record w { table = u; nodes = now; drains = d; bitmaps = bitmaps; works = works; progress = progress } in y)
            (lifts ∙ ap after_reply begun_did.drains)
            ∙ begins.kept

        pub begun_whole : IsWholeWorld v
        begun_whole =
            subst IsWholeWorld (sym begun_is)
            (start_whole w u now c whole joined begun_did.accepted begun_did.table begun_did.puts after new begun_did.new_is sound reply)

        pub begun_answered : AnswersLine w v line
        begun_answered =
            subst (λ (y : WorldSeen). AnswersLine w y line) (sym begun_is)
            (begun_answers w line c reads u now (string_bytes text) new drains whole joined unfolds after sound begun_did)

        pub begun_goes : IsNotDone (seen_state w) 0 → (o : Opening) → Comes o w → Comes o v
        begun_goes not_done o comes =
            subst (Comes o) (sym begun_is)
            (begun_comes w line c reads u now (string_bytes text) new drains whole joined unfolds after sound begun_did o not_done
            (can_copy_whole o w row whole joined comes small) comes)
