-- Commands that change the table and bitmaps alone: what they leave, and that they are carried out so.
use Rattle.std.proofs.Common.{◌≡◌, ℕ, Bool, true, false, List, [], ◌∷◌, map, inl, refl, sym, ◌∙◌, ap, subst, Option, Some, None}
use Rattle.flat_machine.specs.Marks.{AreCalm, IsCalm, drained_by}
use Rattle.std.proofs.lemmas.List.Elements.{All-nil}
use Rattle.blk_bitmaps.specs.declared.row.Bitmap.{Bitmap}
use Rattle.flat_machine.specs.Wiring.{TableAtRest}
use Rattle.flat_machine.proofs.TableRests.{command_rests}
use Rattle.qmp_codec.specs.Commands.{Cmd, SeenSources}
use Rattle.qmp_codec.specs.declared.command.Command.TheVariants as command
use Rattle.qmp_rules.specs.declared.change.Change.{Change}
use Rattle.qmp_rules.specs.declared.change.Change.TheVariants as change
use Rattle.qmp_rules.specs.declared.refusal.Refusal.{Refusal}
use Rattle.qmp_rules.specs.declared.told.Told.{Told}
use Rattle.qmp_rules.specs.Table.{RunTable, job_named}
use Rattle.qmp_rules.specs.declared.rows.AskedEnd.{AskedEnd}
use Rattle.qmp_rules.specs.declared.rows.AskedEnd.TheVariants as asked
use Rattle.qmp_rules.specs.declared.rows.JobRecord.{JobRecord}
use Rattle.qmp_asks.specs.Values.{flag_or_false}
use Rattle.flat_machine.specs.Replies.{begins_job}
use Rattle.qmp_rules.specs.Asks.{id_or}
use Rattle.qmp_asks.specs.BitmapAsks.{source_name, source_node}
use Rattle.qmp_asks.specs.CommandAsks.{is_built}
use Rattle.qmp_rules.specs.Changes.{changed, all_changed}
use Rattle.qmp_rules.specs.Edits.{asked_by_cancel, edits_of, merges}
use Rattle.qmp_rules.specs.Answers.{answer, answer_by, told_none, refusal_to, command_edits, left_by}
use Rattle.flat_machine.specs.State.{State}
use Rattle.flat_machine.specs.Agreement.{Contents}
use Rattle.flat_machine.specs.Bitmaps.{dirty_in}
use Rattle.flat_machine.specs.Changed.{stepped}
use Rattle.flat_machine.specs.Performing.{IsQuiet, AllPerformed}
use Rattle.flat_machine.specs.Recording.{dirty_after}
use Rattle.world_parts.specs.Coherent.{IsCoherent}
use Rattle.world_parts.specs.Saying.{IsSaid}
use Rattle.world_parts.specs.Carrying.{IsCarried, IsCarriedAs, IsPutBack, with_counts, counts_of, prints_counts}
use Rattle.world_parts.specs.Face.{WorldSeen, contents_of, dirty_of}
use Rattle.world_parts.specs.Leaving.{Leaves, LeavesBitmaps, clean_told}
use Rattle.world_parts.specs.Looking.{Site}
use Rattle.world_parts.specs.Staging.{site_of}
use Rattle.world_parts.specs.Counting.{HidesNoFault}
use Rattle.world_parts.proofs.Accepted.{built_accepted}
use Rattle.world_parts.proofs.Counted.{changes-counted, refusal-counted}
use Rattle.world_parts.proofs.CountLemmas.{same-devices, runs-devices}
use Rattle.world_parts.proofs.Uncalled.{called_itself}
use Rattle.world_parts.proofs.CountsKept.{hides-same}
use Rattle.world_parts.proofs.SameWiring.{KeepsWiring, coherent-shape}
use Rattle.world_parts.proofs.CarryPlain.{maps_nothing, opens_nothing, plain_opens, quiet-self, quiet_cause, quiet_fault, table_quiet, told_counts}

-- ---- what commands that change the table and bitmaps alone leave

-- those that open, make, add, drop and attach nothing, and put no filter
abbrev pub stays_in_table : Cmd → Bool
stays_in_table (command.BlockdevAdd c) = false
stays_in_table (command.BlockdevCreate c) = false
stays_in_table (command.BlockdevDel c) = false
stays_in_table (command.DeviceAdd c) = false
stays_in_table (command.DeviceDel id) = false
stays_in_table (command.BlockdevSnapshot c) = false
stays_in_table (command.BlockdevBackup c) = false
stays_in_table (command.BlockdevMirror c) = false
stays_in_table c = true

same-shape : (t : RunTable) → KeepsWiring t t
same-shape t = record { nodes = refl; edges = refl; devices = refl; guests = refl }

merged-shape : (t : RunTable) (node target : List ℕ) (sources : SeenSources) (now : RunTable) → all_changed now (merges t node target sources) ≡ now
unfolding changed
merged-shape t node target [] now = refl
merged-shape t node target (s ∷ sources) now = merged-shape t node target sources now

asked-shape : (t : RunTable) (ask : JobRecord → AskedEnd) (found : Option JobRecord)
    → KeepsWiring t (all_changed t (elim found as (λ _. List Change) [ None ↦ [] | Some job ↦ change.AskJob job.number (ask job) ∷ [] ]))
unfolding changed
asked-shape t ask None = same-shape t
asked-shape t ask (Some job) = record { nodes = refl; edges = refl; devices = refl; guests = refl }

pub table-edits : (t : RunTable) (c : Cmd) → stays_in_table c ≡ true → is_built c ≡ true → (t' : RunTable) → t' ≡ all_changed t (command_edits t told_none c) → KeepsWiring t t'
unfolding edits_of changed
table-edits t (command.BlockdevAdd c) alone built u is = absurd cc
table-edits t (command.BlockdevCreate c) alone built u is = absurd cc
table-edits t (command.BlockdevDel c) alone built u is = absurd cc
table-edits t (command.DeviceAdd c) alone built u is = absurd cc
table-edits t (command.DeviceDel id) alone built u is = absurd cc
table-edits t (command.BlockdevSnapshot c) alone built u is = absurd cc
table-edits t (command.Capabilities enable) alone built u is = rw is (record { nodes = refl; edges = refl; devices = refl; guests = refl })
table-edits t (command.JobDismiss id) alone built u is = rw is (record { nodes = refl; edges = refl; devices = refl; guests = refl })
table-edits t command.QueryBlockJobs alone built u is = rw is (record { nodes = refl; edges = refl; devices = refl; guests = refl })
table-edits t (command.QueryNamedBlockNodes flat) alone built u is = rw is (record { nodes = refl; edges = refl; devices = refl; guests = refl })
table-edits t (command.BitmapAdd c) alone built u is = rw is (record { nodes = refl; edges = refl; devices = refl; guests = refl })
table-edits t (command.BitmapRemove c) alone built u is = rw is (record { nodes = refl; edges = refl; devices = refl; guests = refl })
table-edits t (command.BitmapClear c) alone built u is = rw is (record { nodes = refl; edges = refl; devices = refl; guests = refl })
table-edits t (command.BitmapEnable c) alone built u is = rw is (record { nodes = refl; edges = refl; devices = refl; guests = refl })
table-edits t (command.BitmapDisable c) alone built u is = rw is (record { nodes = refl; edges = refl; devices = refl; guests = refl })
table-edits t (command.BlockJobCancel id force) alone built u is = rw is (asked-shape t (asked_by_cancel (flag_or_false force)) (job_named t id))
table-edits t (command.BlockJobComplete id) alone built u is = rw is (asked-shape t (λ job. asked.Complete) (job_named t id))
table-edits t (command.BitmapMerge c) alone built u is = rw (is ∙ merged-shape t c.node c.target c.bitmaps t) (same-shape t)
table-edits t _ alone built u is = absurd cc

-- nodes and edges stay, and so does what nodes read as and what files hold
shape-quiet : (w : WorldSeen) (u : RunTable) (b : List Bitmap) → KeepsWiring w.table u → IsQuiet (contents_of w) (contents_of (record w { table = u; bitmaps = b }))
shape-quiet w u b shape = record {
  nodes = λ node other. refl;
  files = λ name other. rw shape.nodes refl;
}

pub stays-left : (t : RunTable) (c : Cmd) (cause : Refusal) → stays_in_table c ≡ true → left_by t c cause ≡ []
stays-left t (command.BlockdevCreate c) cause stays = absurd cc
stays-left t _ cause stays = refl

merged-performed : (t : RunTable) (node target : List ℕ) (sources : SeenSources) (s : State) (old new : Contents) → IsQuiet old new → AllPerformed s (merges t node target sources) old new
merged-performed t node target [] s old new quiet = quiet
merged-performed t node target (source ∷ sources) s old new quiet =
    let merge : Change = change.MergeBitmap (id_or 0 t (Some node)) target (id_or 0 t (Some (source_node node source))) (source_name source) in
    (new, quiet, merged-performed t node target sources (stepped s merge) new new (quiet-self new))

asked-performed : (s : State) (ask : JobRecord → AskedEnd) (found : Option JobRecord) (old new : Contents) → IsQuiet old new
    → AllPerformed s (elim found as (λ _. List Change) [ None ↦ [] | Some job ↦ change.AskJob job.number (ask job) ∷ [] ]) old new
asked-performed s ask None old new quiet = quiet
asked-performed s ask (Some job) old new quiet = (new, quiet, quiet-self new)

pub alone-performed : (s : State) (c : Cmd) (old new : Contents) → stays_in_table c ≡ true → is_built c ≡ true → IsQuiet old new
    → (t : RunTable) → AllPerformed s (command_edits t told_none c) old new
unfolding edits_of
alone-performed s (command.BlockdevAdd c) old new alone built quiet t = absurd cc
alone-performed s (command.BlockdevCreate c) old new alone built quiet t = absurd cc
alone-performed s (command.BlockdevDel c) old new alone built quiet t = absurd cc
alone-performed s (command.DeviceAdd c) old new alone built quiet t = absurd cc
alone-performed s (command.DeviceDel id) old new alone built quiet t = absurd cc
alone-performed s (command.BlockdevSnapshot c) old new alone built quiet t = absurd cc
alone-performed s (command.Capabilities enable) old new alone built quiet t = (new, quiet, quiet-self new)
alone-performed s (command.JobDismiss id) old new alone built quiet t = (new, quiet, quiet-self new)
alone-performed s command.QueryBlockJobs old new alone built quiet t = quiet
alone-performed s (command.QueryNamedBlockNodes flat) old new alone built quiet t = quiet
alone-performed s (command.BitmapAdd c) old new alone built quiet t = (new, quiet, quiet-self new)
alone-performed s (command.BitmapRemove c) old new alone built quiet t = (new, quiet, quiet-self new)
alone-performed s (command.BitmapClear c) old new alone built quiet t = (new, quiet, quiet-self new)
alone-performed s (command.BitmapEnable c) old new alone built quiet t = (new, quiet, quiet-self new)
alone-performed s (command.BitmapDisable c) old new alone built quiet t = (new, quiet, quiet-self new)
alone-performed s (command.BlockJobCancel id force) old new alone built quiet t = asked-performed s (asked_by_cancel (flag_or_false force)) (job_named t id) old new quiet
alone-performed s (command.BlockJobComplete id) old new alone built quiet t = asked-performed s (λ job. asked.Complete) (job_named t id) old new quiet
alone-performed s (command.BitmapMerge c) old new alone built quiet t = merged-performed t c.node c.target c.bitmaps s old new quiet
alone-performed s _ old new alone built quiet t = absurd cc

stays-opens : (c : Cmd) → stays_in_table c ≡ true → opens_nothing c ≡ true
stays-opens (command.BlockdevAdd c) alone = absurd cc
stays-opens (command.BlockdevCreate c) alone = absurd cc
stays-opens (command.BlockdevSnapshot c) alone = absurd cc
stays-opens _ alone = refl

-- none that is carried out so begins a job
stays-begun : (c : Cmd) → stays_in_table c ≡ true → is_built c ≡ true → begins_job c ≡ false
stays-begun (command.BlockStream c) alone built = absurd cc
stays-begun (command.BlockCommit c) alone built = absurd cc
stays-begun (command.BlockdevMirror c) alone built = absurd cc
stays-begun (command.BlockdevBackup c) alone built = absurd cc
stays-begun (command.Transaction c) alone built = absurd cc
stays-begun _ alone built = refl

-- it leaves store and nodes as they are, accepted or refused
stays-leaves : (t : RunTable) (told : Told) (c : Cmd) (first : Option Refusal) (u : RunTable) (x : Site) → stays_in_table c ≡ true → Leaves t told c first u x x
stays-leaves t told (command.BlockdevAdd c) first u x alone = absurd cc
stays-leaves t told (command.BlockdevCreate c) first u x alone = absurd cc
stays-leaves t told (command.BlockdevDel c) first u x alone = absurd cc
stays-leaves t told (command.DeviceAdd c) first u x alone = absurd cc
stays-leaves t told (command.DeviceDel id) first u x alone = absurd cc
stays-leaves t told (command.BlockdevSnapshot c) first u x alone = absurd cc
stays-leaves t told (command.BlockdevBackup c) first u x alone = absurd cc
stays-leaves t told (command.BlockdevMirror c) first u x alone = absurd cc
stays-leaves t told _ None u x alone = refl
stays-leaves t told _ (Some cause) u x alone = refl

-- such a command drains no disk
pub undrained : (w : WorldSeen) (c : Cmd) → stays_in_table c ≡ true → is_built c ≡ true → AreCalm w.table w.progress.guests (drained_by w.table c)
undrained w (command.DeviceDel id) alone built = absurd cc
undrained w (command.BlockdevSnapshot c) alone built = absurd cc
undrained w (command.BlockdevBackup c) alone built = absurd cc
undrained w (command.Transaction c) alone built = absurd cc
undrained w _ alone built = All-nil (IsCalm w.table w.progress.guests)

module _ (w : WorldSeen) (u : RunTable) (b : List Bitmap) (c : Cmd) (alone : stays_in_table c ≡ true) where
  abbrev then : WorldSeen
  then = record w { table = u; bitmaps = b }

  shape-by : (first : Option Refusal) → refusal_to w.table told_none c ≡ first → u ≡ all_changed w.table (answer_by w.table told_none c first).changes → KeepsWiring w.table u
  shape-by None none is = table-edits w.table c alone (built_accepted w.table told_none c none) u is
  shape-by (Some cause) some is =
      let same : u ≡ w.table = is ∙ ap (all_changed w.table) (stays-left w.table c cause alone) in
      record {
        nodes = ap (λ (t : RunTable). t.nodes) same;
        edges = ap (λ (t : RunTable). t.edges) same;
        devices = ap (λ (t : RunTable). t.devices) same;
        guests = ap (λ (t : RunTable). t.guests) same;
      }

  performed-by : (s : State) (first : Option Refusal) → refusal_to w.table told_none c ≡ first → KeepsWiring w.table u
      → AllPerformed s (answer_by w.table told_none c first).changes (contents_of w) (contents_of then)
  performed-by s None none shape =
      alone-performed s c (contents_of w) (contents_of then) alone (built_accepted w.table told_none c none) (shape-quiet w u b shape) w.table
  performed-by s (Some cause) some shape =
      subst (λ (cs : List Change). AllPerformed s cs (contents_of w) (contents_of then)) (sym (stays-left w.table c cause alone)) (shape-quiet w u b shape)

  rests-by : (first : Option Refusal) → refusal_to w.table told_none c ≡ first → u ≡ all_changed w.table (answer_by w.table told_none c first).changes
      → TableAtRest w.table → TableAtRest u
  rests-by None none is was = subst TableAtRest (sym is) (command_rests w.table told_none told_none c (stays-begun c alone (built_accepted w.table told_none c none)) was none).1
  rests-by (Some cause) some is was =
      let same : u ≡ w.table = is ∙ ap (all_changed w.table) (stays-left w.table c cause alone) in subst TableAtRest (sym same) was

  pub table_coherent : u ≡ all_changed w.table (answer w.table told_none c).changes → IsCoherent w.table w.nodes w.opened w.progress → IsCoherent u w.nodes w.opened w.progress
  unfolding answer
  table_coherent is =
      coherent-shape w.table u (shape-by (refusal_to w.table told_none c) refl is) w.nodes w.opened w.progress (rests-by (refusal_to w.table told_none c) refl is)

  pub table_performed : (s : State) → u ≡ all_changed w.table (answer w.table told_none c).changes
      → AllPerformed s (answer w.table told_none c).changes (contents_of w) (contents_of then)
  unfolding answer
  table_performed s is = performed-by s (refusal_to w.table told_none c) refl (shape-by (refusal_to w.table told_none c) refl is)

  -- told these counts
  module _ (ds : List ℕ) (counts : prints_counts c ≡ true → ds ≡ counts_of w) where
    pub table_carried : (refusal' : Option Refusal) → refusal_to w.table told_none c ≡ refusal'
        → u ≡ all_changed w.table (answer w.table told_none c).changes → IsCarried w then c refusal'
    table_carried refusal' judged is =
        let changes = changes-counted told_none ds w.table c in
        record {
          told = with_counts told_none ds;
          counts = counts;
          by_files = tt;
          maps = maps_nothing w.table w.nodes c [] (stays-opens c alone);
          answered = refusal-counted told_none ds w.table c ∙ judged;
          table = is ∙ ap (all_changed w.table) (sym changes);
          progress = refl;
          drains = refl;
          works = refl;
          calm = λ is. undrained w c alone (built_accepted w.table told_none c (judged ∙ is));
          runs = runs-devices w then refl refl refl refl refl refl (same-devices w.nodes.devices);
          hides = subst (HidesNoFault w then) (sym (quiet_fault refusal' (λ cause some. table_quiet w.table c cause (judged ∙ some))))
              (hides-same w then refl refl refl);
          opens = plain_opens c (stays-opens c alone) w.opened w.opened refl;
          site = stays-leaves w.table (clean_told (with_counts told_none ds)) c refusal' u (site_of w) alone;
          cause = quiet_cause w then c refusal' (stays-opens c alone) (λ cause some. table_quiet w.table c cause (judged ∙ some));
          coherent = table_coherent is;
          shows = λ told o s shows. told_counts o s w then c ds (stays-opens c alone) counts shows
              (subst (λ (cs : List Change). AllPerformed s cs (contents_of w) (contents_of then)) (sym changes) (table_performed s is));
        }

    pub table_carried_as : (given text : List ℕ) → u ≡ all_changed w.table (answer w.table told_none c).changes
        → IsSaid given (answer w.table (with_counts told_none ds) c).reply text
        → map dirty_in b ≡ dirty_after w.table (dirty_of w) (answer w.table told_none c).changes
        → LeavesBitmaps w.table c (refusal_to w.table told_none c) w.bitmaps b → IsCarriedAs w then given c text
    unfolding table_carried
    table_carried_as given text is said dirty bitmaps = record {
      refusal = refusal_to w.table told_none c;
      carried = table_carried (refusal_to w.table told_none c) refl is;
      said = said;
      dirty = dirty ∙ ap (dirty_after w.table (dirty_of w)) (sym (changes-counted told_none ds w.table c));
      bitmaps = bitmaps;
    }

-- want of memory, where the table stays
pub table_put_back : (w : WorldSeen) (u : RunTable) → u ≡ w.table → IsPutBack w (record w { table = u })
table_put_back w u same =
    let shape : KeepsWiring w.table u = rw same (record { nodes = refl; edges = refl; devices = refl; guests = refl }) in
    record {
      table = same;
      progress = refl;
      bitmaps = refl;
      drains = refl;
      works = refl;
      runs = runs-devices w (record w { table = u }) refl refl refl refl refl refl (same-devices w.nodes.devices);
      files = refl;
      called = called_itself w.nodes;
      opens = inl refl;
      fault = None;
      hides = hides-same w (record w { table = u }) refl refl refl;
      coherent = coherent-shape w.table u shape w.nodes w.opened w.progress (subst TableAtRest (sym same));
    }
