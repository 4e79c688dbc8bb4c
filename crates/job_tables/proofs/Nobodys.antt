-- Nodes that no job has: those that nobody holds, and those without parents.
use Rattle.std.proofs.Common.{◌≡◌, ◌≢◌, ◌⊎◌, ℕ, List, [], ◌∷◌, ◌++◌, map, refl, sym, ◌∙◌, ap, subst, inl, inr, Bool, true, false, Option, Some, None}
use Rattle.std.specs.Prelude.{◌==◌, ◌||◌, drop, IsSome}
use Rattle.std.specs.List.{Contains}
use Rattle.std.proofs.lemmas.Bool.{false≢true, eqb-true}
use Rattle.blk_graph.specs.declared.edge.Edge.{Edge}
use Rattle.blk_graph.specs.declared.edge.Parent.TheVariants.{Node}
use Rattle.blk_graph.specs.declared.edge.Role.{Role}
use Rattle.blk_graph.specs.declared.edge.Role.TheVariants.{Drive, File, Backing, Filtered, Source, Target, Between, Base}
use Rattle.blk_graph.specs.declared.kind.Kind.{Kind}
use Rattle.blk_graph.specs.declared.kind.Kind.TheVariants as driver
use Rattle.blk_graph.specs.declared.kind.JobUse.TheVariants.{CopyTarget, CommitTop, StreamTop, StreamBelow}
use Rattle.blk_graph.specs.Paths.{IsPath, Reaches}
use Rattle.blk_graph.specs.Permissions.{has_role, job_edge}
use Rattle.blk_graph.proofs.Members.{Contains-nil, Contains-here, Contains-there, Contains-cases, map-Contains, find-Some}
use Rattle.qmp_codec.specs.declared.event.JobKind.{JobKind}
use Rattle.qmp_codec.specs.declared.event.JobKind.TheVariants.{Stream, Commit, Mirror, Backup}
use Rattle.qmp_asks.specs.declared.ask.Ask.TheVariants as ask
use Rattle.qmp_asks.specs.Naming.{is_name}
use Rattle.qmp_rules.specs.declared.rows.NodeRecord.{NodeRecord}
use Rattle.qmp_rules.specs.declared.rows.JobRecord.{JobRecord}
use Rattle.qmp_rules.specs.declared.told.Told.{Told}
use Rattle.qmp_rules.specs.Asks.{holds, held_by}
use Rattle.qmp_rules.specs.Chains.{filter_role, is_listed, holds_any, holder}
use Rattle.qmp_rules.specs.Edits.{under_top}
use Rattle.qmp_rules.specs.Table.{RunTable, node_by_id, node_named, child}
use Rattle.flat_machine.specs.Suiting.{IsAlone, IsPlainNode}
use Rattle.flat_machine.specs.Wiring.{LeadsToFile, TableStands}
use Rattle.flat_machine.proofs.Covered.{no_edge_of}
use Rattle.flat_machine.proofs.Fresh.{no-found}
use Rattle.flat_machine.proofs.WritingKept.{role_edge}
use Rattle.job_edges.specs.Held.{is_job_filter}
use Rattle.job_tables.specs.Rows.{commit_edge, edges_of_job, nodes_of_job}
use Rattle.job_tables.specs.Jobs.{CopyStands, IsOverFilter, StandsByKind, JobStands, JobsStand}
use Rattle.job_tables.specs.Changes.{IsNoJobs}
use Rattle.job_tables.proofs.RowEdges.{Contains-listed, in_either}
use Rattle.job_tables.proofs.Changes.{IsEntered, filter_of}

-- ---- what nobody holds

either_true : (a b : Bool) → b ≡ true → (a || b) ≡ true
either_true true b is = refl
either_true false b is = is

first_true : (a b : Bool) → a ≡ true → (a || b) ≡ true
first_true true b is = refl
first_true false b is = absurd (false≢true is)

pub holds_node : (job : JobRecord) (node : ℕ) → Contains (nodes_of_job job) node → holds_any node job ≡ true
holds_node job node has = elim (in_either job.held job.read node has) [
  | inl held ↦ first_true (is_listed node job.held) (is_listed node job.read) (Contains-listed node job.held held)
  | inr read ↦ either_true (is_listed node job.held) (is_listed node job.read) (Contains-listed node job.read read)
]

pub holder_free : (t : RunTable) (node : ℕ) → holder t node ≡ None → (job : JobRecord) → Contains t.jobs job → Contains (nodes_of_job job) node → ⊥
holder_free t node none job here has = no-found (holds_any node) t.jobs job none here (holds_node job node has)

pub not_held : (t : RunTable) (node : ℕ) (found : Option JobRecord) → held_by t node found ≡ None → found ≡ None
not_held t node None h = refl
not_held t node (Some job) h = absurd cc

pub unheld_node : (t : RunTable) (told : Told) (name : List ℕ) (row : NodeRecord) → node_named t name ≡ Some row
    → holds t told (ask.Unheld name) ≡ None → holder t row.id ≡ None
unfolding holds
unheld_node t told name row found h = not_held t row.id (holder t row.id) (rw found at h)

-- ---- filters

pub job_filtered : (kind : Kind) → is_job_filter kind ≡ true → filter_role kind ≡ Some Filtered
job_filtered driver.BeforeWrite is = refl
job_filtered driver.Mirror is = refl
job_filtered driver.Commit is = refl
job_filtered driver.Protocol is = absurd (false≢true is)
job_filtered driver.Raw is = absurd (false≢true is)
job_filtered driver.Qcow2 is = absurd (false≢true is)
job_filtered driver.CopyOnRead is = absurd (false≢true is)

-- the row at a filter's id is of a job's kind
pub filter_row_of : (t : RunTable) → TableStands t → JobsStand t → (row : NodeRecord) → Contains t.nodes row → (job : JobRecord) → Contains t.jobs job
    → job.filter ≡ Some row.id → filter_role row.kind ≡ Some Filtered
filter_row_of t h j row there job here is =
    let f = filter_of t job job.kind (j.each job here).shape row.id is in
    let both : Some f.2.node ≡ Some row = sym f.2.there ∙ ap (node_by_id t) f.3 ∙ h.apart row there in
    let one : f.2.node ≡ row = cc both in
    ap filter_role (ap (λ (r : NodeRecord). r.kind) (sym one) ∙ f.2.kind_is) ∙ job_filtered f.0 f.1

-- a node that a command can name is no job's filter
pub named_no_filter : (t : RunTable) → TableStands t → JobsStand t → (row : NodeRecord) → Contains t.nodes row → is_name row.name ≡ true
    → (job : JobRecord) → Contains t.jobs job → job.filter ≢ Some row.id
named_no_filter t h j row there named job here is =
    false≢true (sym (h.hidden row there (filter_row_of t h j row there job here is)) ∙ named)

-- nor is one that is no filter
pub own_no_filter : (t : RunTable) → TableStands t → JobsStand t → (row : NodeRecord) → Contains t.nodes row → filter_role row.kind ≡ None
    → (job : JobRecord) → Contains t.jobs job → job.filter ≢ Some row.id
own_no_filter t h j row there own job here is =
    let bad : None ≡ Some Filtered = sym own ∙ filter_row_of t h j row there job here is in cc bad

-- a `file` node under a format node is no job's
pub under_no_job : (t : RunTable) → TableStands t → JobsStand t → (over under : NodeRecord) → LeadsToFile t over under → IsSome under.filename
    → filter_role over.kind ≡ None → IsNoJobs t under.id
under_no_job t h j over under f named format = record {
  held = λ job here has.
      let p = (j.each job here).plain under.id has in
      let both : Some p.row ≡ Some under = sym p.there ∙ h.apart under f.under_there in
      let one : p.row ≡ under = cc both in
      p.free p.row over p.there (subst (λ (r : NodeRecord). IsSome r.filename) (sym one) named)
      (record {
        over_there = f.over_there;
        under_there = (find-Some (λ (r : NodeRecord). r.id == under.id) t.nodes p.row p.there).0;
        edge = f.edge;
        there = f.there;
        parent = f.parent;
        role = f.role;
        child = f.child ∙ sym (ap (λ (r : NodeRecord). r.id) one);
      }) format;
  filter = own_no_filter t h j under f.under_there (by_name under.filename refl named);
}
  where
    by_name : (name : Option (List ℕ)) → under.filename ≡ name → IsSome name → filter_role under.kind ≡ None
    by_name None is some = absurd (let bad = some in cc)
    by_name (Some name) is some = ap filter_role (h.drivers name under (record { there = f.under_there; filename = is }))

-- ---- each node of a job has a parent, or a backing node

abbrev pub IsEnteredOrBacked : RunTable → ℕ → Type 0
IsEnteredOrBacked t node = IsEntered t node ⊎ ((below : ℕ) × (child t node Backing ≡ Some below))

entered_or_backed : (t : RunTable) (row : JobRecord) → JobStands t row → (node : ℕ) → Contains (nodes_of_job row) node → IsEnteredOrBacked t node
entered_or_backed t row stands node held = by_kind row.kind refl stands.shape
  where
    by_use : (e : Edge) → Contains (edges_of_job row) e → e.child ≡ node → IsEnteredOrBacked t node
    by_use e own at = inl (e, stands.edges e own, at)

    one_of : (a : ℕ) → Contains (a ∷ []) node → a ≡ node
    one_of a there = elim (Contains-cases a [] node there) [
      | inl same ↦ sym same
      | inr more ↦ absurd (Contains-nil node more)
    ]

    copied : (kind : Kind) (c : CopyStands t row kind) → Contains (edges_of_job row) (job_edge row.slot CopyTarget c.target) → IsEnteredOrBacked t node
    copied kind c own = elim (in_either row.held row.read node held) [
      | inl mine ↦ elim (Contains-cases row.source (c.target ∷ []) node (subst (λ ids. Contains ids node) c.held mine)) [
        | inl same ↦
            let x = role_edge (Node c.filter.filter) Filtered t.edges row.source c.filter.over in
            inl (x.edge, x.there, x.to ∙ sym same)
        | inr more ↦ by_use (job_edge row.slot CopyTarget c.target) own (one_of c.target more)
      ]
      | inr read ↦ absurd (Contains-nil node (subst (λ ids. Contains ids node) c.read read))
    ]

    by_kind : (k : JobKind) → row.kind ≡ k → StandsByKind t row k → IsEnteredOrBacked t node
    by_kind Stream k s = elim (in_either row.held row.read node held) [
      | inl mine ↦
          by_use (job_edge row.slot StreamTop row.source) (rw k (Contains-here (job_edge row.slot StreamTop row.source) (map (job_edge row.slot StreamBelow) row.read)))
          (one_of row.source (subst (λ ids. Contains ids node) s.held mine))
      | inr read ↦
          by_use (job_edge row.slot StreamBelow node)
          (rw k (Contains-there (job_edge row.slot StreamTop row.source) (map (job_edge row.slot StreamBelow) row.read) (job_edge row.slot StreamBelow node)
          (map-Contains (job_edge row.slot StreamBelow) row.read node read))) refl
    ]
    by_kind Commit k s = elim (in_either row.held row.read node held) [
      | inl mine ↦ elim (Contains-cases row.source (s.between ++ s.base ∷ []) node (subst (λ ids. Contains ids node) s.held mine)) [
        | inl same ↦
            by_use (job_edge row.slot CommitTop row.source) (rw k (Contains-here (job_edge row.slot CommitTop row.source) (map (commit_edge row) (under_top row)))) (sym same)
        | inr more ↦
            let under : under_top row ≡ s.between ++ s.base ∷ [] = ap (drop 1) s.held in
            by_use (commit_edge row node)
            (rw k (Contains-there (job_edge row.slot CommitTop row.source) (map (commit_edge row) (under_top row)) (commit_edge row node)
            (map-Contains (commit_edge row) (under_top row) node (subst (λ ids. Contains ids node) (sym under) more)))) refl
      ]
      | inr read ↦ over_top row.read read s.overlay
    ]
      where
        over_top : (ids : List ℕ) → Contains ids node → IsOverFilter t ids row.filter → IsEnteredOrBacked t node
        over_top [] at is = absurd (Contains-nil node at)
        over_top (overlay ∷ ids) at is =
            let same : overlay ≡ node = one_of overlay (subst (λ more. Contains (overlay ∷ more) node) is.1 at) in
            inr (s.filter.filter, subst (λ n. child t n Backing ≡ Some s.filter.filter) same (is.0 ∙ s.filter.is_filter))
    by_kind Mirror k s = copied driver.Mirror s (rw (k, s.is_target) (Contains-here (job_edge row.slot CopyTarget s.target) []))
    by_kind Backup k s = copied driver.BeforeWrite s (rw (k, s.is_target) (Contains-here (job_edge row.slot CopyTarget s.target) []))

-- an image without parents and without a backing node is no job's
pub bare_no_job : (t : RunTable) → TableStands t → JobsStand t → (row : NodeRecord) → Contains t.nodes row → filter_role row.kind ≡ None
    → IsAlone t row.id → child t row.id Backing ≡ None → IsNoJobs t row.id
bare_no_job t h j row there own alone bare = record {
  held = λ job here has. elim (entered_or_backed t job (j.each job here) row.id has) [
    | inl entered ↦ alone entered.0 entered.1 entered.2
    | inr backed ↦ let bad : None ≡ Some backed.0 = sym bare ∙ backed.1 in cc bad
  ];
  filter = own_no_filter t h j row there own;
}

-- ---- what such an image leads to

module _ (t : RunTable) (h : TableStands t) (image : NodeRecord) (there : Contains t.nodes image) (qcow2 : image.kind ≡ driver.Qcow2)
    (bare : child t image.id Backing ≡ None) where
  -- a `file` node leads nowhere
  none_from : (e : Edge) (row : NodeRecord) → Contains t.edges e → Contains t.nodes row → e.parent ≡ Node row.id → IsSome row.filename → ⊥
  none_from e row e_there row_there from = by_name row.filename refl
    where
      no_role : (role : Role) → has_role driver.Protocol role ≡ true → ⊥
      no_role role has = cc

      by_name : (name : Option (List ℕ)) → row.filename ≡ name → IsSome name → ⊥
      by_name None is some = cc
      by_name (Some name) is some =
          let kind = h.drivers name row (record { there = row_there; filename = is }) in
          no_role e.role (subst (λ k. has_role k e.role ≡ true) kind (h.roles e row e_there row_there from))

  pub record IsToFile (e : Edge) : Type 0 where
    pub under : NodeRecord
    pub leads : LeadsToFile t image under
    pub to : e.child ≡ under.id
    pub named : IsSome under.filename

  from_image : (e : Edge) → Contains t.edges e → e.parent ≡ Node image.id → IsToFile e
  from_image e e_there from = by_row (node_by_id t e.child) refl (h.edges e e_there).child
    where
      role_is : (role : Role) → e.role ≡ role → has_role driver.Qcow2 role ≡ true → e.role ≡ File
      role_is File is has = is
      role_is Backing is has = absurd (no_edge_of t image.id Backing bare e e_there from is)
      role_is Drive is has = absurd cc
      role_is Filtered is has = absurd cc
      role_is Source is has = absurd cc
      role_is Target is has = absurd cc
      role_is Between is has = absurd cc
      role_is Base is has = absurd cc

      file : e.role ≡ File
      file = role_is e.role refl (subst (λ k. has_role k e.role ≡ true) qcow2 (h.roles e image e_there there from))

      by_row : (found : Option NodeRecord) → node_by_id t e.child ≡ found → IsSome found → IsToFile e
      by_row None is some = absurd cc
      by_row (Some under) is some =
          let at = find-Some (λ (r : NodeRecord). r.id == e.child) t.nodes under is in
          let to : e.child ≡ under.id = sym (eqb-true under.id e.child at.1) in
          let leads : LeadsToFile t image under = record {
            over_there = there;
            under_there = at.0;
            edge = e;
            there = e_there;
            parent = from;
            role = file;
            child = to;
          } in
          record { under = under; leads = leads; to = to; named = by_name under leads under.filename refl }
        where
          by_name : (under : NodeRecord) → LeadsToFile t image under → (name : Option (List ℕ)) → under.filename ≡ name → IsSome under.filename
          by_name under of None is = absurd (let filter = subst (λ k. IsSome (filter_role k)) qcow2 (h.filtered image under of is) in cc)
          by_name under of (Some name) is = subst IsSome (sym is) refl

  -- no plain node
  pub image_reaches_none : (node : ℕ) → IsPlainNode t node → Reaches t.edges image.id node → ⊥
  image_reaches_none node p way = by_rest way.rest way.path.2
    where
      below : IsToFile way.first
      below = from_image way.first way.path.0 way.path.1

      by_rest : (rest : List Edge) → IsPath t.edges way.first.child rest node → ⊥
      by_rest [] is =
          let id : below.under.id ≡ node = sym below.to ∙ is in
          let both : Some p.row ≡ Some below.under = sym p.there ∙ subst (λ n. node_by_id t n ≡ Some below.under) id (h.apart below.under below.leads.under_there) in
          let one : p.row ≡ below.under = cc both in
          p.free p.row image p.there (subst (λ (r : NodeRecord). IsSome r.filename) (sym one) below.named)
          (subst (LeadsToFile t image) (sym one) below.leads) (ap filter_role qcow2)
      by_rest (e ∷ rest) path = none_from e below.under path.0 below.leads.under_there (path.1 ∙ ap Node below.to) below.named
