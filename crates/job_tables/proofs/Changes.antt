-- Jobs stand behind changes that leave them.
use Rattle.std.proofs.Common.{◌≡◌, ◌≢◌, ℕ, List, [], ◌∷◌, ◌++◌, map, refl, sym, ◌∙◌, ap, subst, inl, inr, Bool, true, false, Option, Some, None}
use Rattle.std.specs.Prelude.{◌==◌, not, drop, IsSome}
use Rattle.std.specs.List.{Contains}
use Rattle.std.proofs.lemmas.Bool.{false≢true, eqb-true}
use Rattle.blk_graph.specs.declared.edge.Edge.{Edge}
use Rattle.blk_graph.specs.declared.edge.Parent.{Parent}
use Rattle.blk_graph.specs.declared.edge.Parent.TheVariants.{Node, Guest, Job}
use Rattle.blk_graph.specs.declared.edge.Role.TheVariants.{File, Backing, Filtered}
use Rattle.blk_graph.specs.declared.kind.Kind.{Kind}
use Rattle.blk_graph.specs.declared.kind.Kind.TheVariants as driver
use Rattle.blk_graph.specs.declared.kind.JobUse.TheVariants.{CopyTarget, CommitTop, StreamTop, StreamBelow}
use Rattle.blk_graph.specs.declared.kind.NodeKind.{NodeKind}
use Rattle.blk_graph.specs.Edges.{same_parent, is_job}
use Rattle.blk_graph.specs.Edits.{with_edge, without_parent}
use Rattle.blk_graph.specs.Permissions.{has_role, job_edge, node_edge}
use Rattle.blk_graph.specs.Refreshed.{refreshed}
use Rattle.blk_graph.proofs.CycleLemmas.{same_parent-true}
use Rattle.blk_graph.proofs.EditLemmas.{Contains-with_edge}
use Rattle.blk_graph.proofs.Members.{Contains-nil, Contains-here, Contains-there, Contains-cases, Contains-filter, map-Contains, find-Some}
use Rattle.qmp_codec.specs.declared.event.JobKind.{JobKind}
use Rattle.qmp_codec.specs.declared.event.JobKind.TheVariants.{Stream, Commit, Mirror, Backup}
use Rattle.qmp_rules.specs.declared.change.Change.{Change}
use Rattle.qmp_rules.specs.declared.change.Change.TheVariants as change
use Rattle.qmp_rules.specs.declared.rows.NodeRecord.{NodeRecord}
use Rattle.qmp_rules.specs.declared.rows.JobRecord.{JobRecord}
use Rattle.qmp_rules.specs.Chains.{filter_role}
use Rattle.qmp_rules.specs.Changes.{changed, all_changed, node_changed, unsettled, lost_with, with_format_edges, with_backing_edge, device_edge}
use Rattle.qmp_rules.specs.Edits.{under_top}
use Rattle.qmp_rules.specs.Table.{RunTable, node_by_id, child, kinds_of, opening_table}
use Rattle.flat_machine.specs.Suiting.{AllTableSuit, IsPlainNode, IsThere, TableSuits}
use Rattle.flat_machine.specs.Wiring.{TableStands}
use Rattle.flat_machine.proofs.Rows.{SameRows, rows-same, rows-mapped, like_lost, like_unsettled}
use Rattle.flat_machine.proofs.Tables.{with_edge-keeps, filter-keeps, apart-parents}
use Rattle.flat_machine.proofs.Wired.{NoRow, NoEdge}
use Rattle.flat_machine.proofs.TablesKept.{IsOther, rows_grow, file_grow, format_grow, filter_grow, removed_grow, device_grow, IsNewEdge, IsNewFilterEdge, IsDriveEdge}
use Rattle.flat_machine.proofs.DevicesGone.{gone_grow}
use Rattle.flat_machine.proofs.TableRests.{table_keeps}
use Rattle.flat_machine.proofs.WritingKept.{role_edge}
use Rattle.job_edges.specs.Chains.{is_plain}
use Rattle.job_edges.specs.Held.{is_job_filter}
use Rattle.job_tables.specs.Rows.{commit_edge, edges_of_job, nodes_of_job, HasFilterOf}
use Rattle.job_tables.specs.Jobs.{CopyStands, IsOverFilter, StandsByKind, JobStands, JobsStand}
use Rattle.job_tables.specs.Changes.{LeavesJobs, AllLeaveJobs}
use Rattle.job_tables.proofs.RowEdges.{in_either, filter_plain, plain_own}
use Rattle.job_tables.proofs.Asked.{asked_jobs, ready_jobs}
use Rattle.job_tables.proofs.Kept.{HaveSameJobEdges, refreshed_jobs, refreshed_jobs_back, grown_jobs}

-- ---- what jobs have is there, and a `file` node of a job's has an edge into it

pub there_node : (t : RunTable) (j : JobsStand t) (row : JobRecord) (node : ℕ) → Contains t.jobs row → Contains (nodes_of_job row) node → IsThere t node
there_node t j row node here held = let p = (j.each row here).plain node held in subst IsSome (sym p.there) refl

pub filter_of : (t : RunTable) (row : JobRecord) (k : JobKind) → StandsByKind t row k → (node : ℕ) → row.filter ≡ Some node
    → (kind : Kind) × (is_job_filter kind ≡ true) × (f : HasFilterOf t row kind) × (f.filter ≡ node)
filter_of t row Stream s node is = absurd (let bad : None ≡ Some node = sym s.bare ∙ is in cc bad)
filter_of t row Commit s node is = (driver.Commit, refl, s.filter, (let both : Some s.filter.filter ≡ Some node = sym s.filter.is_filter ∙ is in cc both))
filter_of t row Mirror s node is = (driver.Mirror, refl, s.filter, (let both : Some s.filter.filter ≡ Some node = sym s.filter.is_filter ∙ is in cc both))
filter_of t row Backup s node is = (driver.BeforeWrite, refl, s.filter, (let both : Some s.filter.filter ≡ Some node = sym s.filter.is_filter ∙ is in cc both))

-- a plain node is no job's filter
pub plain_no_filter : (t : RunTable) (j : JobsStand t) (node : ℕ) → IsPlainNode t node → (row : JobRecord) → Contains t.jobs row → row.filter ≢ Some node
plain_no_filter t j node p row here is =
    let f = filter_of t row row.kind (j.each row here).shape node is in
    let both : Some f.2.node ≡ Some p.row = sym f.2.there ∙ ap (node_by_id t) f.3 ∙ p.there in
    let one : f.2.node ≡ p.row = cc both in
    false≢true (sym (filter_plain f.0 f.1) ∙ ap is_plain (sym f.2.kind_is ∙ ap (λ (r : NodeRecord). r.kind) one) ∙ plain_own p.row.kind p.own)

pub there_filter : (t : RunTable) (j : JobsStand t) (row : JobRecord) (node : ℕ) → Contains t.jobs row → row.filter ≡ Some node → IsThere t node
there_filter t j row node here is =
    let f = filter_of t row row.kind (j.each row here).shape node is in
    subst (IsThere t) f.3 (subst IsSome (sym f.2.there) refl)

abbrev pub IsEntered : RunTable → ℕ → Type 0
IsEntered t node = (e : Edge) × Contains t.edges e × (e.child ≡ node)

pub entered : (t : RunTable) → TableStands t → (row : JobRecord) → JobStands t row → (node : ℕ) → Contains (nodes_of_job row) node
    → (below : NodeRecord) → node_by_id t node ≡ Some below → IsSome below.filename → IsEntered t node
entered t h row stands node held below found named = by_kind row.kind refl stands.shape
  where
    by_use : (e : Edge) → Contains (edges_of_job row) e → e.child ≡ node → IsEntered t node
    by_use e own at = (e, stands.edges e own, at)

    one_of : (a : ℕ) → Contains (a ∷ []) node → a ≡ node
    one_of a there = elim (Contains-cases a [] node there) [
      | inl same ↦ sym same
      | inr more ↦ absurd (Contains-nil node more)
    ]

    copied : (kind : Kind) (c : CopyStands t row kind) → Contains (edges_of_job row) (job_edge row.slot CopyTarget c.target) → IsEntered t node
    copied kind c own = elim (in_either row.held row.read node held) [
      | inl mine ↦ elim (Contains-cases row.source (c.target ∷ []) node (subst (λ ids. Contains ids node) c.held mine)) [
        | inl same ↦
            let x = role_edge (Node c.filter.filter) Filtered t.edges row.source c.filter.over in
            (x.edge, x.there, x.to ∙ sym same)
        | inr more ↦ by_use (job_edge row.slot CopyTarget c.target) own (one_of c.target more)
      ]
      | inr read ↦ absurd (Contains-nil node (subst (λ ids. Contains ids node) c.read read))
    ]

    by_kind : (k : JobKind) → row.kind ≡ k → StandsByKind t row k → IsEntered t node
    by_kind Stream k s = elim (in_either row.held row.read node held) [
      | inl mine ↦
          by_use (job_edge row.slot StreamTop row.source) (rw k (Contains-here (job_edge row.slot StreamTop row.source) (map (job_edge row.slot StreamBelow) row.read)))
          (one_of row.source (subst (λ ids. Contains ids node) s.held mine))
      | inr read ↦
          by_use (job_edge row.slot StreamBelow node)
          (rw k (Contains-there (job_edge row.slot StreamTop row.source) (map (job_edge row.slot StreamBelow) row.read) (job_edge row.slot StreamBelow node)
          (map-Contains (job_edge row.slot StreamBelow) row.read node read))) refl
    ]
    by_kind Commit k s = elim (in_either row.held row.read node held) [
      | inl mine ↦ elim (Contains-cases row.source (s.between ++ s.base ∷ []) node (subst (λ ids. Contains ids node) s.held mine)) [
        | inl same ↦
            by_use (job_edge row.slot CommitTop row.source) (rw k (Contains-here (job_edge row.slot CommitTop row.source) (map (commit_edge row) (under_top row)))) (sym same)
        | inr more ↦
            let under : under_top row ≡ s.between ++ s.base ∷ [] = ap (drop 1) s.held in
            by_use (commit_edge row node)
            (rw k (Contains-there (job_edge row.slot CommitTop row.source) (map (commit_edge row) (under_top row)) (commit_edge row node)
            (map-Contains (commit_edge row) (under_top row) node (subst (λ ids. Contains ids node) (sym under) more)))) refl
      ]
      | inr read ↦ absurd (over_top row.read read s.overlay)
    ]
      where
        over_top : (ids : List ℕ) → Contains ids node → IsOverFilter t ids row.filter → ⊥
        over_top [] at is = Contains-nil node at
        over_top (overlay ∷ ids) at is =
            let same : overlay ≡ node = one_of overlay (subst (λ more. Contains (overlay ∷ more) node) is.1 at) in
            let x = role_edge (Node overlay) Backing t.edges s.filter.filter (is.0 ∙ s.filter.is_filter) in
            let row_at = find-Some (λ (r : NodeRecord). r.id == node) t.nodes below found in
            let may : has_role below.kind x.edge.role ≡ true
            = h.roles x.edge below x.there row_at.0 (x.from ∙ ap Node (same ∙ sym (eqb-true below.id node row_at.1))) in
            no_name below.filename refl (ap (has_role below.kind) (sym x.role_is) ∙ may) row_at.0
          where
            no_name : (name : Option (List ℕ)) → below.filename ≡ name → has_role below.kind Backing ≡ true → Contains t.nodes below → ⊥
            no_name None is may there = let bad = subst IsSome is named in cc
            no_name (Some name) is may there =
                let protocol : below.kind ≡ driver.Protocol = h.drivers name below (record { there = there; filename = is }) in
                false≢true (sym (ap (λ kind. has_role kind Backing) protocol) ∙ may)
    by_kind Mirror k s = copied driver.Mirror s (rw (k, s.is_target) (Contains-here (job_edge row.slot CopyTarget s.target) []))
    by_kind Backup k s = copied driver.BeforeWrite s (rw (k, s.is_target) (Contains-here (job_edge row.slot CopyTarget s.target) []))

-- ---- edges of jobs in edited lists

same_edges : (t now : RunTable) → now.edges ≡ t.edges → HaveSameJobEdges t now
same_edges t now edges = record {
  kept = λ e there is. subst (λ es. Contains es e) (sym edges) there;
  back = λ e there is. subst (λ es. Contains es e) edges there;
}

derived_edges : (t now : RunTable) (kinds : List NodeKind) (before : List Edge) → now.edges ≡ refreshed kinds before
    → ((e : Edge) → Contains t.edges e → is_job e.parent ≡ true → Contains before e)
    → ((e : Edge) → Contains before e → is_job e.parent ≡ true → Contains t.edges e) → HaveSameJobEdges t now
derived_edges t now kinds before derived forth back = record {
  kept = λ e there is. subst (λ es. Contains es e) (sym derived) (refreshed_jobs kinds before e is (forth e there is));
  back = λ e there is. back e (refreshed_jobs_back kinds before e is (subst (λ es. Contains es e) derived there)) is;
}

not_job : (p : Parent) (n : ℕ) → p ≡ Node n → is_job p ≡ true → ⊥
not_job (Node m) n is job = false≢true job
not_job (Guest m) n is job = false≢true job
not_job (Job m) n is job = let bad : Job m ≡ Node n = is in cc bad

-- one more edge, of no job
put_forth : (new : Edge) (edges : List Edge) → is_job new.parent ≡ false → (e : Edge) → Contains edges e → is_job e.parent ≡ true → Contains (with_edge new edges) e
put_forth new edges none e there is =
    with_edge-keeps new edges e (apart-parents new e (λ same. false≢true (sym none ∙ ap is_job same ∙ is))) there

put_back : (new : Edge) (edges : List Edge) → is_job new.parent ≡ false → (e : Edge) → Contains (with_edge new edges) e → is_job e.parent ≡ true → Contains edges e
put_back new edges none e there is = elim (Contains-with_edge new edges e there) [
  | inl own ↦ absurd (false≢true (sym none ∙ ap (λ (x : Edge). is_job x.parent) (sym own) ∙ is))
  | inr old ↦ old
]

backed_forth : (node : ℕ) (backing : Option ℕ) (edges : List Edge) (e : Edge) → Contains edges e → is_job e.parent ≡ true → Contains (with_backing_edge node backing edges) e
backed_forth node None edges e there is = there
backed_forth node (Some backing) edges e there is = put_forth (node_edge node Backing backing) edges refl e there is

backed_back : (node : ℕ) (backing : Option ℕ) (edges : List Edge) (e : Edge) → Contains (with_backing_edge node backing edges) e → is_job e.parent ≡ true → Contains edges e
backed_back node None edges e there is = there
backed_back node (Some backing) edges e there is = put_back (node_edge node Backing backing) edges refl e there is

without_forth : (gone : Parent) (edges : List Edge) → is_job gone ≡ false → (e : Edge) → Contains edges e → is_job e.parent ≡ true → Contains (without_parent gone edges) e
without_forth gone edges none e there is =
    filter-keeps (λ x. not (same_parent x.parent gone)) edges e (by_test (same_parent e.parent gone) refl) there
  where
    by_test : (b : Bool) → same_parent e.parent gone ≡ b → not b ≡ true
    by_test false test = refl
    by_test true test = absurd (false≢true (sym none ∙ ap is_job (sym (same_parent-true e.parent gone test)) ∙ is))

without_back : (gone : Parent) (edges : List Edge) (e : Edge) → Contains (without_parent gone edges) e → is_job e.parent ≡ true → Contains edges e
without_back gone edges e there is = (Contains-filter (λ x. not (same_parent x.parent gone)) edges e there).0

-- ---- kinds of changes

-- rows that keep ids and kinds
pub rows_stand : (t now : RunTable) → SameRows t now → now.edges ≡ t.edges → now.jobs ≡ t.jobs → TableStands t → JobsStand t → JobsStand now
rows_stand t now rows edges jobs h j =
    grown_jobs t now (IsThere t) NoRow NoEdge (rows_grow t now rows edges h) j jobs (same_edges t now edges)
    (there_node t j) (there_filter t j) (λ r never is. never) (λ e node never of at. never) (λ e row node below never role here held at found named. never)

still_stand : (t now : RunTable) → now.nodes ≡ t.nodes → now.edges ≡ t.edges → now.jobs ≡ t.jobs → TableStands t → JobsStand t → JobsStand now
still_stand t now nodes edges jobs h j = rows_stand t now (rows-same t now nodes h.apart) edges jobs h j

pub change_leaves_jobs : (t : RunTable) (c : Change) → TableStands t → JobsStand t → TableSuits t c → LeavesJobs t c → JobsStand (changed t c)
unfolding changed
change_leaves_jobs t change.Negotiate h j suits leaves = still_stand t (changed t change.Negotiate) refl refl refl h j
change_leaves_jobs t (change.KeepId id) h j suits leaves = still_stand t (changed t (change.KeepId id)) refl refl refl h j
change_leaves_jobs t (change.DropId id) h j suits leaves = still_stand t (changed t (change.DropId id)) refl refl refl h j
change_leaves_jobs t (change.MakeFile name size) h j suits leaves = still_stand t (changed t (change.MakeFile name size)) refl refl refl h j
change_leaves_jobs t (change.FormatFile node name size backing_file backing_fmt) h j suits leaves =
    let now : RunTable = changed t (change.FormatFile node name size backing_file backing_fmt) in
    rows_stand t now (rows-mapped t now (node_changed node unsettled) (like_unsettled node) refl h.apart) refl refl h j
change_leaves_jobs t (change.SpoilFile name) h j suits leaves =
    let now : RunTable = changed t (change.SpoilFile name) in
    rows_stand t now (rows-mapped t now (lost_with name) (like_lost name) refl h.apart) refl refl h j
change_leaves_jobs t (change.UseFile name) h j suits leaves = still_stand t (changed t (change.UseFile name)) refl refl refl h j
change_leaves_jobs t (change.Unsettle node) h j suits leaves =
    let now : RunTable = changed t (change.Unsettle node) in
    rows_stand t now (rows-mapped t now (node_changed node unsettled) (like_unsettled node) refl h.apart) refl refl h j
change_leaves_jobs t (change.AskJob number new) h j suits leaves = asked_jobs t number new j
change_leaves_jobs t (change.ReadyJob number) h j suits leaves = ready_jobs t number j
change_leaves_jobs t (change.AddFile row) h j suits leaves =
    let now : RunTable = changed t (change.AddFile row) in
    let kinds : List NodeKind = kinds_of now.nodes in
    grown_jobs t now (IsThere t) (λ r. r ≡ row) NoEdge (file_grow t now row suits refl kinds refl h) j refl
    (derived_edges t now kinds t.edges refl (λ e there is. there) (λ e there is. there))
    (there_node t j) (there_filter t j)
    (λ r is filter. false≢true (sym (ap is_job_filter suits.driver) ∙ ap (λ (x : NodeRecord). is_job_filter x.kind) (sym is) ∙ filter))
    (λ e node never of at. never) (λ e r node below never role here held at found named. never)
change_leaves_jobs t (change.AddFormat row file backing) h j suits leaves =
    let now : RunTable = changed t (change.AddFormat row file backing) in
    let kinds : List NodeKind = kinds_of now.nodes in
    grown_jobs t now (IsThere t) (λ r. r ≡ row) (IsNewEdge t now row file backing suits refl kinds refl h)
    (format_grow t now row file backing suits refl kinds refl h) j refl
    (derived_edges t now kinds (with_format_edges row.id file backing t.edges) refl
    (λ e there is. backed_forth row.id backing (with_edge (node_edge row.id File file) t.edges) e (put_forth (node_edge row.id File file) t.edges refl e there is) is)
    (λ e there is. put_back (node_edge row.id File file) t.edges refl e (backed_back row.id backing (with_edge (node_edge row.id File file) t.edges) e there is) is))
    (there_node t j) (there_filter t j)
    (λ r is filter. no_format row.kind suits.format (ap (λ (x : NodeRecord). is_job_filter x.kind) (sym is) ∙ filter))
    (λ e node is_new of at. fresh_parent t row.id node suits.fresh at (elim is_new [
      | inl own ↦ let same : Node row.id ≡ Node node = own.parent ∙ of in cc same
      | inr backed ↦ let same : Node row.id ≡ Node node = backed.1.1.parent ∙ of in cc same
    ]))
    (λ e r node below is_new role here held at found named. elim is_new [
      | inl own ↦
          let x = entered t h r (j.each r here) node held below found named in
          suits.alone x.0 x.1 (x.2 ∙ sym at ∙ sym own.child)
      | inr backed ↦ let bad : Backing ≡ File = backed.1.1.role ∙ role in cc bad
    ])
  where
    no_format : (k : Kind) → filter_role k ≡ None → is_job_filter k ≡ true → ⊥
    no_format driver.Protocol none is = false≢true is
    no_format driver.Raw none is = false≢true is
    no_format driver.Qcow2 none is = false≢true is
    no_format driver.CopyOnRead none is = false≢true is
    no_format driver.BeforeWrite none is = cc
    no_format driver.Mirror none is = cc
    no_format driver.Commit none is = cc

    fresh_parent : (t : RunTable) (id node : ℕ) → node_by_id t id ≡ None → IsThere t node → id ≡ node → ⊥
    fresh_parent t id node none there same = let bad = subst IsSome (ap (node_by_id t) (sym same) ∙ none) there in cc
change_leaves_jobs t (change.AddFilter row child) h j suits leaves =
    let now : RunTable = changed t (change.AddFilter row child) in
    let kinds : List NodeKind = kinds_of now.nodes in
    grown_jobs t now (IsThere t) (λ r. r ≡ row) (IsNewFilterEdge t now row child suits refl kinds refl h)
    (filter_grow t now row child suits refl kinds refl h) j refl
    (derived_edges t now kinds (with_edge (node_edge row.id File child) t.edges) refl
    (λ e there is. put_forth (node_edge row.id File child) t.edges refl e there is)
    (λ e there is. put_back (node_edge row.id File child) t.edges refl e there is))
    (there_node t j) (there_filter t j)
    (λ r is filter. no_copy row.kind suits.filter (ap (λ (x : NodeRecord). is_job_filter x.kind) (sym is) ∙ filter))
    (λ e node is_new of at.
    let same : Node row.id ≡ Node node = is_new.parent ∙ of in
    let id : row.id ≡ node = cc same in
    let bad = subst IsSome (ap (node_by_id t) (sym id) ∙ suits.fresh) at in cc)
    (λ e r node below is_new role here held at found named.
    let both : Some suits.under ≡ Some below = sym suits.found ∙ ap (node_by_id t) (is_new.child ∙ at) ∙ found in
    let one : suits.under ≡ below = cc both in
    let bad = subst IsSome (ap (λ (x : NodeRecord). x.filename) (sym one) ∙ suits.no_file) named in cc)
  where
    no_copy : (k : Kind) → filter_role k ≡ Some File → is_job_filter k ≡ true → ⊥
    no_copy driver.Protocol none is = false≢true is
    no_copy driver.Raw none is = false≢true is
    no_copy driver.Qcow2 none is = false≢true is
    no_copy driver.CopyOnRead none is = false≢true is
    no_copy driver.BeforeWrite none is = cc
    no_copy driver.Mirror none is = cc
    no_copy driver.Commit none is = cc
change_leaves_jobs t (change.RemoveNode node) h j suits leaves =
    let now : RunTable = changed t (change.RemoveNode node) in
    let kinds : List NodeKind = kinds_of now.nodes in
    grown_jobs t now (IsOther t node) NoRow NoEdge (removed_grow t now node suits refl kinds refl h) j refl
    (derived_edges t now kinds (without_parent (Node node) t.edges) refl
    (λ e there is. without_forth (Node node) t.edges refl e there is)
    (λ e there is. without_back (Node node) t.edges e there is))
    (λ row n here held. (there_node t j row n here held, λ same. leaves.held row here (subst (Contains (nodes_of_job row)) same held)))
    (λ row n here is. (there_filter t j row n here is, λ same. leaves.filter row here (is ∙ ap Some same)))
    (λ r never is. never) (λ e n never of at. never) (λ e r n below never role here held at found named. never)
change_leaves_jobs t (change.AddDevice device node) h j suits leaves =
    let now : RunTable = changed t (change.AddDevice device node) in
    let kinds : List NodeKind = kinds_of now.nodes in
    grown_jobs t now (IsThere t) NoRow (IsDriveEdge t now device node suits refl kinds refl h)
    (device_grow t now device node suits refl kinds refl h) j refl
    (derived_edges t now kinds (with_edge (device_edge device node) t.edges) refl
    (λ e there is. put_forth (device_edge device node) t.edges refl e there is)
    (λ e there is. put_back (device_edge device node) t.edges refl e there is))
    (there_node t j) (there_filter t j) (λ r never is. never)
    (λ e n is_new of at. let bad : Guest device.number ≡ Node n = is_new.parent ∙ of in cc bad)
    (λ e r n below is_new role here held at found named. let bad : (device_edge device node).role ≡ File = is_new.role ∙ role in cc bad)
change_leaves_jobs t (change.RemoveDevice number) h j suits leaves =
    let now : RunTable = changed t (change.RemoveDevice number) in
    let kinds : List NodeKind = kinds_of now.nodes in
    grown_jobs t now (IsThere t) NoRow NoEdge (gone_grow t now number refl kinds refl h) j refl
    (derived_edges t now kinds (without_parent (Guest number) t.edges) refl
    (λ e there is. without_forth (Guest number) t.edges refl e there is)
    (λ e there is. without_back (Guest number) t.edges e there is))
    (there_node t j) (there_filter t j) (λ r never is. never) (λ e n never of at. never) (λ e r n below never role here held at found named. never)
change_leaves_jobs t (change.AddBitmap row) h j suits leaves = still_stand t (changed t (change.AddBitmap row)) refl refl refl h j
change_leaves_jobs t (change.RemoveBitmap node name) h j suits leaves = still_stand t (changed t (change.RemoveBitmap node name)) refl refl refl h j
change_leaves_jobs t (change.TurnBitmap node name on) h j suits leaves = still_stand t (changed t (change.TurnBitmap node name on)) refl refl refl h j
change_leaves_jobs t (change.ClearBitmap node name) h j suits leaves = still_stand t (changed t (change.ClearBitmap node name)) refl refl refl h j
change_leaves_jobs t (change.MergeBitmap node name source_node source) h j suits leaves =
    still_stand t (changed t (change.MergeBitmap node name source_node source)) refl refl refl h j
change_leaves_jobs t c h j suits leaves = absurd leaves

pub changes_leave_jobs : (changes : List Change) (t : RunTable) → TableStands t → JobsStand t → AllTableSuit t changes → AllLeaveJobs t changes
    → JobsStand (all_changed t changes)
changes_leave_jobs [] t h j suits leaves = j
changes_leave_jobs (c ∷ changes) t h j suits leaves =
    changes_leave_jobs changes (changed t c) (table_keeps t c suits.0 h) (change_leaves_jobs t c h j suits.0 leaves.0) suits.1 leaves.1

-- a run begins without jobs
pub opening_jobs : (guests : List (List ℕ)) → JobsStand (opening_table guests)
opening_jobs guests = record {
  each = λ row there. absurd (Contains-nil row there);
  slots = λ a b there. absurd (Contains-nil a there);
  numbers = λ a b there. absurd (Contains-nil a there);
  edges = λ e slot there. absurd (Contains-nil e there);
  apart = λ a b node there. absurd (Contains-nil a there);
  filters = λ node there. absurd (Contains-nil node there);
  copies = tt;
}
