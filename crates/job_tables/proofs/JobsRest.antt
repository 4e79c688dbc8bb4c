-- What the ends of jobs rest on holds of the edges of a table in which jobs stand.
use Rattle.std.proofs.Common.{◌≡◌, ◌≢◌, ℕ, ◌<◌, List, refl, sym, ◌∙◌, ap, subst, inl, inr, Bool, true, false, Option, Some, None}
use Rattle.std.specs.Prelude.{◌==◌, IsSome}
use Rattle.std.specs.Option.{option_map}
use Rattle.std.specs.List.{Contains, find}
use Rattle.std.proofs.lemmas.Bool.{false≢true, eqb-true}
use Rattle.blk_graph.specs.declared.edge.Edge.{Edge}
use Rattle.blk_graph.specs.declared.edge.Parent.{Parent}
use Rattle.blk_graph.specs.declared.edge.Parent.TheVariants.{Node, Guest, Job}
use Rattle.blk_graph.specs.declared.edge.Role.{Role}
use Rattle.blk_graph.specs.declared.edge.Role.TheVariants.{File, Backing, Filtered, Between}
use Rattle.blk_graph.specs.declared.kind.Kind.{Kind}
use Rattle.blk_graph.specs.declared.kind.Kind.TheVariants as driver
use Rattle.blk_graph.specs.declared.kind.NodeKind.{NodeKind}
use Rattle.blk_graph.specs.Edges.{HasNumber, same_parent, same_role, is_job}
use Rattle.blk_graph.specs.Edits.{is_filters}
use Rattle.blk_graph.specs.Paths.{Reaches}
use Rattle.blk_graph.specs.Permissions.{has_role}
use Rattle.blk_graph.specs.Refreshed.{kind_at}
use Rattle.blk_graph.proofs.CycleLemmas.{and-left, same_parent-true}
use Rattle.blk_graph.proofs.Members.{find-Some}
use Rattle.blk_graph.proofs.PathLemmas.{Reaches-edge}
use Rattle.qmp_codec.specs.declared.event.JobKind.TheVariants.{Commit}
use Rattle.qmp_rules.specs.declared.rows.NodeRecord.{NodeRecord}
use Rattle.qmp_rules.specs.declared.rows.JobRecord.{JobRecord}
use Rattle.qmp_rules.specs.Chains.{filter_role}
use Rattle.qmp_rules.specs.Table.{RunTable, node_by_id, child, kinds_of}
use Rattle.flat_machine.specs.Suiting.{IsPlainNode}
use Rattle.flat_machine.specs.Wiring.{LeadsToFile, TableStands}
use Rattle.flat_machine.proofs.WritingKept.{role_edge}
use Rattle.job_edges.specs.Chains.{is_plain}
use Rattle.job_edges.specs.Held.{EdgesStand, IsOneJobs, IsUnread, FilterStands, HasBacking, is_job_filter}
use Rattle.job_edges.specs.Kinds.{is_open_by, is_open_from, is_open, is_hiding, is_hidden_from, is_hidden, is_copying, FiltersStand}
use Rattle.job_tables.specs.Rows.{edges_of_job, nodes_of_job, HasFilterOf}
use Rattle.job_tables.specs.Jobs.{CommitJobStands, StandsByKind, IsFilterOfRow, JobsStand, EdgesAreDrawn}
use Rattle.job_tables.proofs.NodeKinds.{kind_found, past, small_or}
use Rattle.job_tables.proofs.RowEdges.{plain_own, filter_plain, filter_has, copying_is, hiding_is, closed_by, kind_commit, in_left, only_by, holds_source, edge_slot, edge_node}

module _ (t : RunTable) (h : TableStands t) (j : JobsStand t) (d : EdgesAreDrawn t) where
  abbrev kinds : List NodeKind
  kinds = kinds_of t.nodes

  -- ---- nodes and their rows

  record IsRowOf (node : ℕ) : Type 0 where
    row : NodeRecord
    found : node_by_id t node ≡ Some row
    there : Contains t.nodes row
    id : row.id ≡ node

  row_of : (node : ℕ) → IsSome (node_by_id t node) → IsRowOf node
  row_of node some = by_found (node_by_id t node) refl some
    where
      by_found : (found : Option NodeRecord) → node_by_id t node ≡ found → IsSome found → IsRowOf node
      by_found None is h = absurd cc
      by_found (Some row) is h =
          let at = find-Some (λ (r : NodeRecord). r.id == node) t.nodes row is in
          record { row = row; found = is; there = at.0; id = eqb-true row.id node at.1 }

  small_child : (e : Edge) → Contains t.edges e → e.child < 64
  small_child e there = (d.listed.each e there).child

  small_parent : (e : Edge) (n : ℕ) → Contains t.edges e → e.parent ≡ Node n → n < 64
  small_parent e n there from = subst HasNumber from (d.listed.each e there).number

  row_kind : (node : ℕ) → node < 64 → (r : IsRowOf node) → (kind_at kinds node).kind ≡ r.row.kind
  row_kind node small r = ap (λ (k : NodeKind). k.kind) (kind_found t node r.row h.apart small r.found)

  pub plain_kind : (node : ℕ) → IsPlainNode t node → is_plain (kind_at kinds node).kind ≡ true
  plain_kind node p = elim (small_or node) [
    | inl small ↦ ap (λ (k : NodeKind). is_plain k.kind) (kind_found t node p.row h.apart small p.there) ∙ plain_own p.row.kind p.own
    | inr large ↦ ap (λ (k : NodeKind). is_plain k.kind) (past t.nodes node large)
  ]

  -- ---- edges by their places

  pub child_is : (e : Edge) (node below : ℕ) (role : Role) → Contains t.edges e → e.parent ≡ Node node → e.role ≡ role → role ≢ Between
      → child t node role ≡ Some below → e.child ≡ below
  child_is e node below role there from is single found =
      let x = role_edge (Node node) role t.edges below found in
      let same : e ≡ x.edge = only_by t.edges d.listed.places e x.edge there x.there (from ∙ sym x.from) (is ∙ sym x.role_is) (λ bad. single (sym is ∙ bad)) in
      ap (λ (y : Edge). y.child) same ∙ x.to

  pub leads_to : (node below : ℕ) (role : Role) → child t node role ≡ Some below → Reaches t.edges node below
  leads_to node below role found =
      let x = role_edge (Node node) role t.edges below found in
      subst (Reaches t.edges node) x.to (Reaches-edge t.edges node x.edge x.there x.from)

  pub backing_of : (node below : ℕ) → child t node Backing ≡ Some below → HasBacking t.edges node
  backing_of node below found =
      let x = role_edge (Node node) Backing t.edges below found in
      record { edge = x.edge; there = x.there; parent = x.from; role = x.role_is }

  -- ---- what lets others read

  -- An edge of no job is open, unless it leads a format node to a `file` node.
  open_unless : (e : Edge) → Contains t.edges e → is_job e.parent ≡ false
      → ((over row : NodeRecord) (name : List ℕ) → LeadsToFile t over row → filter_role over.kind ≡ None → node_by_id t e.child ≡ Some row
      → row.filename ≡ Some name → ⊥)
      → is_open kinds e ≡ true
  open_unless e there own unless = by_parent e.parent refl own
    where
      by_role : (n : ℕ) → e.parent ≡ Node n → (b : Bool) → is_open_by (kind_at kinds n).kind e.role ≡ b → is_open_by (kind_at kinds n).kind e.role ≡ true
      by_role n from true is = is
      by_role n from false is = absurd (by_name under.row.filename refl)
        where
          over : IsRowOf n
          over = row_of n ((h.edges e there).parent n from)

          under : IsRowOf e.child
          under = row_of e.child (h.edges e there).child

          closed : (filter_role (kind_at kinds n).kind ≡ None) × (e.role ≡ File)
          closed = closed_by (kind_at kinds n).kind e.role is

          leads : LeadsToFile t over.row under.row
          leads = record {
            over_there = over.there;
            under_there = under.there;
            edge = e;
            there = there;
            parent = from ∙ ap Node (sym over.id);
            role = closed.1;
            child = sym under.id;
          }

          format : filter_role over.row.kind ≡ None
          format = ap filter_role (sym (row_kind n (small_parent e n there from) over)) ∙ closed.0

          by_name : (name : Option (List ℕ)) → under.row.filename ≡ name → ⊥
          by_name (Some name) named = unless over.row under.row name leads format under.found named
          by_name None named =
              let filter : IsSome (filter_role over.row.kind) = h.filtered over.row under.row leads named in
              let bad = subst IsSome format filter in
              cc

      by_parent : (p : Parent) → e.parent ≡ p → is_job p ≡ false → is_open_from kinds e.role p ≡ true
      by_parent (Node n) from none = by_role n from (is_open_by (kind_at kinds n).kind e.role) refl
      by_parent (Guest n) from none = refl
      by_parent (Job n) from none = absurd (false≢true (sym none))

  open_plain : (node : ℕ) → IsPlainNode t node → (e : Edge) → Contains t.edges e → e.child ≡ node → is_job e.parent ≡ false → is_open kinds e ≡ true
  open_plain node p e there at own =
      open_unless e there own (λ over row name leads format found named.
      p.free row over (ap (node_by_id t) (sym at) ∙ found) (subst IsSome (sym named) refl) leads format)

  -- ---- filters

  plain_child : (e : Edge) (slot : ℕ) → Contains t.edges e → e.parent ≡ Job slot → is_plain (kind_at kinds e.child).kind ≡ true
  plain_child e slot there from =
      let r = j.edges e slot there from in
      let stands = j.each r.row r.there in
      plain_kind e.child (stands.plain e.child (edge_node t r.row stands e r.own))

  pub filters_stand : FiltersStand kinds t.edges
  filters_stand = record {
    apart = λ e there filter. by_job e there filter (is_job e.parent) refl;
    top = λ e there copies. by_parent e there copies e.parent refl;
  }
    where
      by_job : (e : Edge) → Contains t.edges e → is_plain (kind_at kinds e.child).kind ≡ false → (b : Bool) → is_job e.parent ≡ b → is_open kinds e ≡ true
      by_job e there filter true is = on_parent e.parent refl is
        where
          on_parent : (p : Parent) → e.parent ≡ p → is_job p ≡ true → is_open_from kinds e.role e.parent ≡ true
          on_parent (Job slot) from yes' = absurd (false≢true (sym filter ∙ plain_child e slot there from))
          on_parent (Node n) from yes' = absurd (false≢true yes')
          on_parent (Guest n) from yes' = absurd (false≢true yes')
      by_job e there filter false is = open_unless e there is (λ over row name leads format found named.
          let under : IsRowOf e.child = row_of e.child (h.edges e there).child in
          let same : under.row ≡ row = let both : Some under.row ≡ Some row = sym under.found ∙ found in cc both in
          let protocol : under.row.kind ≡ driver.Protocol
          = h.drivers name under.row (record { there = under.there; filename = ap (λ (r : NodeRecord). r.filename) same ∙ named }) in
          false≢true (sym filter ∙ ap is_plain (row_kind e.child (small_child e there) under) ∙ ap is_plain protocol))

      by_parent : (e : Edge) → Contains t.edges e → is_copying (kind_at kinds e.child).kind ≡ true → (p : Parent) → e.parent ≡ p → is_hidden_from kinds p ≡ false
      by_parent e there copies (Node n) from =
          let under : IsRowOf e.child = row_of e.child (h.edges e there).child in
          absurd (h.on_top e under.row n there under.there from (sym under.id)
          (copying_is under.row.kind (ap is_copying (sym (row_kind e.child (small_child e there) under)) ∙ copies)))
      by_parent e there copies (Guest n) from = refl
      by_parent e there copies (Job n) from = refl

  -- the list of edges stands
  pub edges_stand : EdgesStand kinds t.edges
  edges_stand = record {
    listed = d.listed;
    acyclic = h.acyclic;
    table = d.table;
    refreshed = d.refreshed;
    rule = d.rule;
    filters = filters_stand;
  }

  -- ---- one job alone

  pub one_jobs : (row : JobRecord) → Contains t.jobs row → (node : ℕ) → Contains row.held node → IsOneJobs t.edges node row.slot
  one_jobs row here node held e there at own = by_parent e.parent refl own
    where
      by_parent : (p : Parent) → e.parent ≡ p → is_job p ≡ true → e.parent ≡ Job row.slot
      by_parent (Job slot) from yes' =
          let r = j.edges e slot there from in
          let stands = j.each r.row r.there in
          let same : row.slot ≡ r.row.slot
          = j.apart row r.row node here r.there held (subst (Contains (nodes_of_job r.row)) at (edge_node t r.row stands e r.own)) in
          edge_slot r.row e r.own ∙ ap Job (sym same)
      by_parent (Node n) from yes' = absurd (false≢true yes')
      by_parent (Guest n) from yes' = absurd (false≢true yes')

  pub source_plain : (row : JobRecord) → Contains t.jobs row → IsPlainNode t row.source
  source_plain row here = let stands = j.each row here in stands.plain row.source (in_left row.held row.read row.source (holds_source t row stands))

  -- a filter's own edge
  record IsOwn (filter source : ℕ) : Type 0 where
    edge : Edge
    found : find (is_filters filter) t.edges ≡ Some edge
    there : Contains t.edges edge
    from : edge.parent ≡ Node filter
    leads : edge.child ≡ source

  own_edge : (filter source : ℕ) → child t filter Filtered ≡ Some source → IsOwn filter source
  own_edge filter source = by_found (find (is_filters filter) t.edges) refl
    where
      by_found : (found : Option Edge) → find (is_filters filter) t.edges ≡ found → option_map (λ (e : Edge). e.child) found ≡ Some source → IsOwn filter source
      by_found None e is = absurd cc
      by_found (Some own) e is =
          let at = find-Some (is_filters filter) t.edges own e in
          record {
            edge = own;
            found = e;
            there = at.0;
            from = same_parent-true own.parent (Node filter) (and-left (same_parent own.parent (Node filter)) (same_role own.role Filtered) at.1);
            leads = cc;
          }

  pub filter_at : (row : JobRecord) (kind : Kind) (f : HasFilterOf t row kind) → (kind_at kinds f.filter).kind ≡ kind
  filter_at row kind f =
      let own : IsOwn f.filter row.source = own_edge f.filter row.source f.over in
      ap (λ (k : NodeKind). k.kind) (kind_found t f.filter f.node h.apart (small_parent own.edge f.filter own.there own.from) f.there) ∙ f.kind_is

  pub filter_stands : (row : JobRecord) → Contains t.jobs row → (kind : Kind) → is_job_filter kind ≡ true → (f : HasFilterOf t row kind)
      → FilterStands kinds t.edges f.filter row.source row.slot
  filter_stands row here kind is f = record {
    own = own.edge;
    found = own.found;
    leads = own.leads;
    apart = apart;
    sole = sole;
    kind = ap is_job_filter (filter_at row kind f) ∙ is;
    plain = plain_kind row.source source;
    alone = one_jobs row here row.source (holds_source t row (j.each row here));
    free = λ e there at own. open_plain row.source source e there at own;
  }
    where
      source : IsPlainNode t row.source
      source = source_plain row here

      own : IsOwn f.filter row.source
      own = own_edge f.filter row.source f.over

      apart : f.filter ≢ row.source
      apart same =
          let both : Some f.node ≡ Some source.row = sym f.there ∙ ap (node_by_id t) same ∙ source.there in
          let one : f.node ≡ source.row = cc both in
          false≢true (sym (filter_plain kind is) ∙ ap is_plain (sym f.kind_is ∙ ap (λ (r : NodeRecord). r.kind) one) ∙ plain_own source.row.kind source.own)

      sole : (e : Edge) → Contains t.edges e → e.parent ≡ Node f.filter → e.role ≡ Filtered
      sole e there of_filter =
          let at = find-Some (λ (r : NodeRecord). r.id == f.filter) t.nodes f.node f.there in
          filter_has kind e.role is
          (ap (λ k. has_role k e.role) (sym f.kind_is) ∙ h.roles e f.node there at.0 (of_filter ∙ ap Node (sym (eqb-true f.node.id f.filter at.1))))

  -- ---- what a job lets nobody read

  same_filter : (a b : ℕ) (o : Option ℕ) → o ≡ Some a → o ≡ Some b → a ≡ b
  same_filter a b o p q = let both : Some a ≡ Some b = sym p ∙ q in cc both

  -- an edge of a commit's filter leads to the source of that commit
  pub record HidesSource (e : Edge) : Type 0 where
    pub row : JobRecord
    pub there : Contains t.jobs row
    pub kind : row.kind ≡ Commit
    pub to_source : e.child ≡ row.source

  pub hidden_filter : (e : Edge) (n : ℕ) → Contains t.edges e → e.parent ≡ Node n → is_hiding (kind_at kinds n).kind ≡ true → HidesSource e
  hidden_filter e n there from is = record { row = r.row; there = r.there; kind = commit_row; to_source = to_source }
    where
      over : IsRowOf n
      over = row_of n ((h.edges e there).parent n from)

      is_commit : over.row.kind ≡ driver.Commit
      is_commit = hiding_is over.row.kind (ap is_hiding (sym (row_kind n (small_parent e n there from) over)) ∙ is)

      r : IsFilterOfRow t over.row
      r = j.filters over.row over.there (ap is_job_filter is_commit)

      commit_row : r.row.kind ≡ Commit
      commit_row = kind_commit r.row.kind (r.kind ∙ ap Some is_commit)

      shape : CommitJobStands t r.row
      shape = subst (StandsByKind t r.row) commit_row (j.each r.row r.there).shape

      filter_is : shape.filter.filter ≡ n
      filter_is = same_filter shape.filter.filter n r.row.filter shape.filter.is_filter (r.filter ∙ ap Some over.id)

      role : e.role ≡ Filtered
      role = filter_has over.row.kind e.role (ap is_job_filter is_commit) (h.roles e over.row there over.there (from ∙ ap Node (sym over.id)))

      to_source : e.child ≡ r.row.source
      to_source =
          child_is e n r.row.source Filtered there from role (λ bad. let no : Filtered ≡ Between = bad in cc no)
          (subst (λ k. child t k Filtered ≡ Some r.row.source) filter_is shape.filter.over)

  -- such a filter is over nothing that a job holds beside its source
  pub not_hidden : (row : JobRecord) → Contains t.jobs row → (node : ℕ) → Contains row.held node → node ≢ row.source
      → (e : Edge) → Contains t.edges e → e.child ≡ node → is_hidden kinds e ≡ false
  not_hidden row here node held other e there at = by_parent e.parent refl
    where
      by_hiding : (n : ℕ) → e.parent ≡ Node n → (b : Bool) → is_hiding (kind_at kinds n).kind ≡ b → is_hiding (kind_at kinds n).kind ≡ false
      by_hiding n from false is = is
      by_hiding n from true is =
          let r = hidden_filter e n there from is in
          let same_slot : row.slot ≡ r.row.slot
          = j.apart row r.row node here r.there held
          (subst (Contains (nodes_of_job r.row)) (sym r.to_source ∙ at) (in_left r.row.held r.row.read r.row.source (holds_source t r.row (j.each r.row r.there)))) in
          absurd (other (sym at ∙ r.to_source ∙ ap (λ (x : JobRecord). x.source) (sym (j.slots row r.row here r.there same_slot))))

      by_parent : (p : Parent) → e.parent ≡ p → is_hidden_from kinds p ≡ false
      by_parent (Node n) from = by_hiding n from (is_hiding (kind_at kinds n).kind) refl
      by_parent (Guest n) from = refl
      by_parent (Job n) from = refl

  abbrev pub unread : (row : JobRecord) → Contains t.jobs row → (node : ℕ) → Contains row.held node → node ≢ row.source → (e : Edge)
      → Contains (edges_of_job row) e → e.child ≡ node → e.shared.read ≡ false → IsUnread kinds t.edges node row.slot
  unread row here node held other e own at shut = record {
    edge = e;
    there = (j.each row here).edges e own;
    own = edge_slot row e own;
    child = at;
    shut = shut;
    alone = one_jobs row here node held;
    seen = not_hidden row here node held other;
  }
