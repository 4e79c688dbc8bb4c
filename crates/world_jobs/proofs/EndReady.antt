-- Each job of a world may end, and the nodes without its filter are those of the table then.
use Rattle.std.proofs.Common.{◌≡◌, ℕ, ◌≤◌, List, [], ◌∷◌, Some, refl, sym, ◌∙◌, ap, subst, arith, inl, inr}
use Rattle.std.specs.Prelude.{Contains, IsSome}
use Rattle.blk_graph.proofs.Members.{Contains-cases, Contains-nil}
use Rattle.blk_history.specs.declared.entry.JobEnd.{JobEnd}
use Rattle.blk_nodes.specs.Dropping.{nodes_without}
use Rattle.blk_nodes.specs.Joined.{IsJoined}
use Rattle.blk_nodes.specs.Nodes.{Nodes}
use Rattle.blk_nodes.specs.Rewiring.{rewired}
use Rattle.qmp_rules.specs.Table.{RunTable, job_at, kinds_of}
use Rattle.qmp_rules.specs.declared.rows.JobRecord.{JobRecord}
use Rattle.flat_machine.specs.Jobs.{outcome_of}
use Rattle.job_tables.specs.Jobs.{EdgesAreDrawn}
use Rattle.world_parts.specs.Coherent.{IsWholeWorld, entries_owed, entries_owed_by}
use Rattle.world_parts.specs.Face.{WorldSeen}
use Rattle.world_parts.specs.Jobs.{PullsFilter}
use Rattle.world_parts.proofs.DrawnEdges.{drawn_by_nodes}
use Rattle.world_goings.proofs.Ahead.{job_there}
use Rattle.world_jobs.specs.Ending.{CanBeEnded, HasPulled, ended_table}
use Rattle.world_jobs.specs.Filtering.{filter_of, kinds_with}
use Rattle.world_jobs.proofs.EndNodes as nodes
use Rattle.world_jobs.proofs.EndPulled as pulled
use Rattle.world_jobs.proofs.EndTable as table

-- a job's entries are among those owed
pub owed_of : (jobs : List JobRecord) (row : JobRecord) → Contains jobs row → entries_owed row ≤ entries_owed_by jobs
owed_of [] row there = absurd (Contains-nil row there)
owed_of (x ∷ jobs) row there = elim (Contains-cases x jobs row there) [
  | inl same ↦ let one : entries_owed row ≡ entries_owed x = ap entries_owed same in omega (arith, one)
  | inr later ↦ let rest = owed_of jobs row later in omega (arith, rest)
]

module _ (w : WorldSeen) (row : JobRecord) (why : JobEnd) (whole : IsWholeWorld w) (joined : IsJoined w.nodes)
    (at : job_at w.table row.number ≡ Some row) where
  abbrev t : RunTable
  t = w.table

  here : Contains t.jobs row
  here = job_there t row at

  drawn : EdgesAreDrawn t
  drawn = (drawn_by_nodes t w.nodes whole.coherent.table.stands.apart whole.coherent.alike joined).0

  abbrev filter : ℕ
  filter = table.filter t w.works w.progress.aside whole.jobs whole.coherent.table.stands drawn row here

  filter_is : row.filter ≡ Some filter
  filter_is = table.filter_is t w.works w.progress.aside whole.jobs whole.coherent.table.stands drawn row here

  filter_over : table.IsFilterOver t filter row.source (filter_of row.kind)
  filter_over = table.filter_over t w.works w.progress.aside whole.jobs whole.coherent.table.stands drawn row here

  loses_node : table.LosesNode t (ended_table t row why) filter row.source
  loses_node = table.loses_node t w.works w.progress.aside whole.jobs whole.coherent.table.stands drawn row here (outcome_of why)

  pub can_end : CanBeEnded t w.nodes w.works w.progress why row
  can_end = record {
    filter = filter;
    filter_is = filter_is;
    goes =
        nodes.can_go t (ended_table t row why) filter row.source (filter_of row.kind) whole.coherent.table.stands filter_over loses_node w.nodes whole.coherent.alike joined;
    work = subst IsSome (sym (whole.jobs.belong.each row here).there) refl;
    room = let owed = owed_of t.jobs row here in let all = whole.jobs.room in omega (arith, owed, all);
  }

  pub has_pulled : (now : Nodes) → HasPulled (ended_table t row why) row w.nodes now → IsJoined now → PullsFilter (ended_table t row why) row w.nodes now
  has_pulled now did after =
      let both : Some did.filter ≡ Some filter = sym did.filter_is ∙ filter_is in
      let same : did.filter ≡ filter = cc both in
      pulled.pulls t (ended_table t row why) filter row.source (filter_of row.kind) whole.coherent.table.stands filter_over loses_node w.nodes whole.coherent.alike joined row now
      filter_is
      (did.are ∙ ap (λ n. nodes_without n (rewired (kinds_with (filter_of row.kind) n (kinds_of (ended_table t row why).nodes)) (ended_table t row why).edges w.nodes)) same) after
