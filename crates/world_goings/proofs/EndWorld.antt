-- The world behind the end of a backup or mirror, whatever the store tells: its parts belong together, and each file holds what it held.
use Rattle.std.proofs.Common.{◌≡◌, ◌≢◌, ℕ, true, List, length, refl, sym, ◌∙◌, ap, subst, Option, Some, None, inl, inr, option_and_then, option_map}
use Rattle.std.specs.Prelude.{Contains}
use Rattle.blk_history.specs.declared.entry.JobEnd.{JobEnd}
use Rattle.blk_history.specs.declared.event.Event.TheVariants.{End}
use Rattle.blk_nodes.specs.Contents.{Unfolds, disk_of}
use Rattle.blk_nodes.specs.Joined.{IsJoined}
use Rattle.blk_nodes.specs.Nodes.{DeviceSeen, device_in, row_at}
use Rattle.blk_nodes.specs.Rewiring.{AreReadings}
use Rattle.blk_nodes.specs.declared.row.Row.{Row}
use Rattle.qmp_rules.specs.Changes.{all_changed}
use Rattle.qmp_rules.specs.Ends.{end_edits}
use Rattle.qmp_rules.specs.Table.{RunTable}
use Rattle.qmp_rules.specs.declared.change.JobOutcome.{JobOutcome}
use Rattle.qmp_rules.specs.declared.rows.JobRecord.{JobRecord}
use Rattle.flat_machine.specs.Jobs.{changes_at_end, outcome_of}
use Rattle.flat_machine.specs.Marks.{after_end}
use Rattle.flat_machine.specs.Recording.{dirty_after}
use Rattle.flat_machine.specs.Wiring.{InlineAreUnder, TableStands}
use Rattle.flat_machine.proofs.Resting.{stepped_table}
use Rattle.job_ends.specs.Ended.{LosesFilter}
use Rattle.job_entries.proofs.Ending.{end_steps}
use Rattle.job_entries.proofs.Files.{free_no_file}
use Rattle.job_entries.proofs.Inline.{Carries, inline_carried, steps_carry}
use Rattle.job_tables.specs.Jobs.{EdgesAreDrawn}
use Rattle.job_works.specs.Works.{without_work}
use Rattle.world_parts.specs.Coherent.{AreJobsKept, AreNodesOf, AreOut, IsCoherent, IsWholeWorld, entries_owed}
use Rattle.world_parts.specs.Face.{WorldSeen, contents_of, dirty_of, held, held_in_file, node_over, seen_state}
use Rattle.world_parts.specs.Guests.{GuestsStand}
use Rattle.world_parts.specs.Jobs.{EndsJob, ReadsAsSource, bitmaps_ended}
use Rattle.world_parts.specs.Progress.{with_job_entry}
use Rattle.world_parts.proofs.DrawnEdges.{drawn_by_nodes}
use Rattle.world_parts.proofs.GuestsKept.{guests_stand}
use Rattle.world_goings.proofs.Ahead.{job_there}
use Rattle.world_goings.proofs.EndEdits.{pivots}
use Rattle.world_goings.proofs.EndGuests.{guests_led}
use Rattle.world_goings.proofs.EndKept.{now_dirty, now_kept, now_started}
use Rattle.world_goings.proofs.EndReads as reading
use Rattle.world_goings.proofs.EndRests.{end_out, end_over}
use Rattle.world_goings.proofs.EndStands as table
use Rattle.world_goings.proofs.EndStands.{IsLedOn}
use Rattle.world_goings.proofs.EndTables.{IsOverNode}

module _ (w v : WorldSeen) (row : JobRecord) (why : JobEnd) (offset : ℕ) (whole : IsWholeWorld w) (joined : IsJoined w.nodes) (unfolds : Unfolds w.nodes)
    (did : EndsJob w v row why offset) where
  abbrev t : RunTable
  t = w.table

  abbrev outcome : JobOutcome
  outcome = outcome_of why

  abbrev u : RunTable
  u = all_changed t (end_edits t row outcome)

  abbrev pub left : WorldSeen
  left = record w {
    nodes = v.nodes;
    table = u;
    bitmaps = bitmaps_ended row why w.bitmaps;
    works = without_work row.number w.works;
    drains = after_end row.number w.drains;
    progress = with_job_entry (entries_owed row) (End row.number why offset) w.progress;
  }

  table_is : v.table ≡ u
  table_is = ap (λ (x : WorldSeen). x.table) did.kept

  pub here : Contains t.jobs row
  here = job_there t row did.there

  stands : TableStands t
  stands = whole.coherent.table.stands

  pub drawn : EdgesAreDrawn t
  drawn = (drawn_by_nodes t w.nodes stands.apart whole.coherent.alike joined).0

  -- ---- the table

  abbrev filter : ℕ
  filter = table.filter t w.works w.progress.aside whole.jobs stands drawn row here

  abbrev target : ℕ
  target = table.target t w.works w.progress.aside whole.jobs stands drawn row here

  is_filter : row.filter ≡ Some filter
  is_filter = table.is_filter t w.works w.progress.aside whole.jobs stands drawn row here

  f : IsOverNode t filter row.source
  f = table.over_source t w.works w.progress.aside whole.jobs stands drawn row here

  led : IsLedOn t u filter row.source target (pivots outcome row.kind)
  led = table.led_on t w.works w.progress.aside whole.jobs stands drawn row here outcome

  carries : Carries t u
  carries =
      subst (Carries t) (stepped_table (changes_at_end (seen_state w) row why) (seen_state w))
      (steps_carry (changes_at_end (seen_state w) row why) (seen_state w) (end_steps (seen_state w) stands whole.jobs.stand row here why))

  inline : InlineAreUnder u
  inline = inline_carried t u stands carries whole.coherent.table.inline

  over_same : (name : List ℕ) → node_over u name ≡ node_over t name
  over_same =
      end_over t u filter row.source led.to led.ended stands led.stands f

  out : AreOut u v.nodes w.opened
  out =
      end_out t u filter row.source led.to led.ended stands led.stands f w.nodes v.nodes w.opened did.pulls.devices whole.coherent.out

  -- ---- the parts

  stand : GuestsStand u w.progress.guests
  stand =
      guests_led t u filter row.source led.to led.ended stands f
      (table.filter_reads t w.works w.progress.aside whole.jobs stands drawn row here) led.disks led.onto w.progress.guests
      (guests_stand t w.nodes w.opened w.progress whole.coherent)

  alike : AreNodesOf u v.nodes
  alike = subst (λ (x : RunTable). AreNodesOf x v.nodes) table_is did.pulls.alike

  pub coherent : IsCoherent u v.nodes w.opened left.progress
  coherent = record {
    table = record { stands = led.stands; inline = inline };
    drives = stand.drives;
    disks = stand.disks;
    alike = alike;
    asks = stand.asks;
    writable = stand.writable;
    within = stand.within;
    allowed = stand.allowed;
    count = whole.coherent.count ∙ ap length (sym led.ended.guests);
    out = out;
  }

  pub started_same : u.started ≡ t.started
  started_same = now_started t w.works w.progress.aside whole.jobs stands drawn row here outcome

  pub dirty_same : dirty_of left ≡ dirty_after t (dirty_of w) (end_edits t row outcome)
  dirty_same = now_dirty t w.works w.progress.aside whole.jobs stands drawn row here outcome w.bitmaps whole.bitmaps

  pub guests_same : u.guests ≡ t.guests
  guests_same = led.ended.guests

  pub jobs : AreJobsKept u left.works left.progress.aside
  jobs = now_kept t w.works w.progress.aside whole.jobs stands drawn row here outcome

  -- ---- what nodes read, and files hold

  drivers : (n : ℕ) → n ≢ filter → option_map (λ (r : Row). r.driver) (row_at v.nodes n) ≡ option_map (λ (r : Row). r.driver) (row_at w.nodes n)
  drivers n apart =
      did.pulls.drivers n (λ is. apart (let both : Some filter ≡ Some n = sym is_filter ∙ is in let same : filter ≡ n = cc both in sym same))

  module _ (reads : pivots outcome row.kind ≡ true → ReadsAsSource w row) where
    reads_same : disk_of w.nodes led.to ≡ disk_of w.nodes row.source
    reads_same = elim led.place [
      | inl same ↦ ap (disk_of w.nodes) same
      | inr onto ↦ ap (disk_of w.nodes) onto.0 ∙ reads onto.1 target (table.is_target t w.works w.progress.aside whole.jobs stands drawn row here)
    ]

    still : (n : ℕ) → n ≢ filter → disk_of v.nodes n ≡ disk_of w.nodes n
    still n apart =
        did.pulls.reads then readings n
        ∙ reading.reads_other t u filter row.source led.to led.ended f (free_no_file t stands row.source f.plain.free) led.onto.apart w.nodes v.nodes reads_same joined
        unfolds whole.coherent.alike alike did.pulls.devices drivers n apart
      where
        then : ℕ → List ℕ
        then =
            reading.reads t u filter row.source led.to led.ended f (free_no_file t stands row.source f.plain.free) led.onto.apart w.nodes v.nodes reads_same joined unfolds
            whole.coherent.alike alike did.pulls.devices drivers

        readings : AreReadings v.nodes then
        readings =
            reading.readings t u filter row.source led.to led.ended f (free_no_file t stands row.source f.plain.free) led.onto.apart w.nodes v.nodes reads_same joined
            unfolds whole.coherent.alike alike did.pulls.devices drivers

    held_same : (name : List ℕ) → held left name ≡ held w name
    held_same name = ap (held_in_file left name) (over_same name) ∙ by_node (node_over t name)
      where
        by_node : (found : Option ℕ) → held_in_file left name found ≡ held_in_file w name found
        by_node None = refl
        by_node (Some n) = ap (λ (ds : List DeviceSeen). option_and_then (λ (d : DeviceSeen). d.content) (device_in ds n)) did.pulls.devices

    pub loses : LosesFilter row (contents_of w) (contents_of left)
    loses = record {
      nodes = λ node none. still node (λ same. none (is_filter ∙ ap Some (sym same)));
      files = λ name none. held_same name;
    }
