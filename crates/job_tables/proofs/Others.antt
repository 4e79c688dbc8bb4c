-- Each change of an end leaves the other jobs standing.
use Rattle.std.proofs.Common.{◌≡◌, ◌≢◌, ◌⊎◌, ℕ, List, [], ◌∷◌, ◌++◌, map, refl, sym, ◌∙◌, ap, subst, inl, inr, Bool, true, false, cond, Option, Some, None}
use Rattle.std.specs.Prelude.{◌==◌, ◌&&◌, ◌||◌, not}
use Rattle.std.specs.Option.{option_map}
use Rattle.std.specs.List.{Contains, filter, find, list_any}
use Rattle.std.proofs.lemmas.Bool.{false≢true, eqb-true, eqb-false, eq-eqb, ne_eqb, cases_eq}
use Rattle.blk_graph.specs.declared.edge.Edge.{Edge}
use Rattle.blk_graph.specs.declared.edge.Parent.{Parent}
use Rattle.blk_graph.specs.declared.edge.Parent.TheVariants.{Node, Guest, Job}
use Rattle.blk_graph.specs.declared.edge.Role.{Role}
use Rattle.blk_graph.specs.declared.edge.Role.TheVariants.{File, Backing, Filtered, Between}
use Rattle.blk_graph.specs.declared.kind.Kind.{Kind}
use Rattle.blk_graph.specs.declared.kind.Kind.TheVariants as driver
use Rattle.blk_graph.specs.declared.kind.NodeKind.{NodeKind}
use Rattle.blk_graph.specs.Edges.{same_parent, same_role, is_job}
use Rattle.blk_graph.specs.Edits.{child_of, is_edge, with_child, moved, stays, replaced, with_replaced, is_between, is_double, but_doubles, is_filters, but_filters, without_filter, without_parent}
use Rattle.blk_graph.specs.Paths.{Reaches}
use Rattle.blk_graph.specs.Permissions.{node_edge}
use Rattle.blk_graph.specs.Refreshed.{refreshed}
use Rattle.blk_graph.proofs.ChildLemmas.{child-kept, child-without}
use Rattle.blk_graph.proofs.CycleLemmas.{and-left}
use Rattle.blk_graph.proofs.DraftLemmas.{children_removed, children_replaced, children_without}
use Rattle.blk_graph.proofs.EditLemmas.{moved-cases, replaced-cases, replaced-parent, Contains-with_edge}
use Rattle.blk_graph.proofs.InverseLemmas.{same_parent-refl, same_parent-false}
use Rattle.blk_graph.proofs.Members.{Contains-here, Contains-there, Contains-filter, Contains-map, map-Contains}
use Rattle.blk_graph.proofs.PathLemmas.{Reaches-edge, Reaches-joined}
use Rattle.blk_graph.proofs.RefreshLemmas.{child_of-refreshed}
use Rattle.blk_graph.proofs.RoleLemmas.{same_role-true}
use Rattle.qmp_codec.specs.declared.event.JobKind.{JobKind}
use Rattle.qmp_codec.specs.declared.event.JobKind.TheVariants.{Stream, Commit, Mirror, Backup}
use Rattle.qmp_rules.specs.declared.change.Change.{Change}
use Rattle.qmp_rules.specs.declared.change.Change.TheVariants as change
use Rattle.qmp_rules.specs.declared.rows.NodeRecord.{NodeRecord}
use Rattle.qmp_rules.specs.declared.rows.JobRecord.{JobRecord}
use Rattle.qmp_rules.specs.Changes.{changed, node_changed, unsettled, with_backing, without_job, without_record}
use Rattle.qmp_rules.specs.Table.{RunTable, node_by_id, child, kinds_of}
use Rattle.flat_machine.specs.Suiting.{IsPlainNode}
use Rattle.flat_machine.proofs.Tables.{filter-keeps, with_edge-keeps, apart-parents}
use Rattle.flat_machine.proofs.WritingKept.{role_edge}
use Rattle.flat_machine.proofs.TablesKept.{child-role}
use Rattle.job_edges.specs.Held.{is_job_filter}
use Rattle.job_tables.specs.Rows.{edges_of_job, nodes_of_job, AreLinked, HasFilterOf}
use Rattle.job_tables.specs.Jobs.{CopyStands, IsOverFilter, StandsByKind, JobStands, IsFilterOfRow, HaveDistinctSlots, HaveDistinctNumbers, EdgesAreOfRows, HoldApart, JobsStand}
use Rattle.job_tables.proofs.NodeKinds.{still_found, found_mapped}
use Rattle.job_tables.proofs.RowEdges.{in_left, in_right, holds_source, edge_slot, edge_node}
use Rattle.job_tables.proofs.Plain.{HasFile, file-before, KeepsRow, formats-same, formats-mapped, plain-back, plain_same}
use Rattle.job_tables.proofs.Kept.{HaveSameJobEdges, refreshed_jobs, refreshed_jobs_back}

-- ---- a job whose nodes, edges, links and filter stay

pub record RowStays (t now : RunTable) (row : JobRecord) : Type 0 where
  pub plain : (node : ℕ) → Contains (nodes_of_job row) node → IsPlainNode now node
  pub edges : (e : Edge) → Contains (edges_of_job row) e → Contains now.edges e
  pub links : (node below : ℕ) → Contains (nodes_of_job row) node → child t node Backing ≡ Some below
      → Contains (nodes_of_job row) below ⊎ (row.filter ≡ Some below) → child now node Backing ≡ Some below
  pub none : child t row.source Backing ≡ None → child now row.source Backing ≡ None
  pub filter : (kind : Kind) → HasFilterOf t row kind → HasFilterOf now row kind

module _ (t now : RunTable) (row : JobRecord) (stays : RowStays t now row) (stands : JobStands t row) where
  linked_stays : (node : ℕ) (ids : List ℕ) → Contains (nodes_of_job row) node → ((n : ℕ) → Contains ids n → Contains (nodes_of_job row) n)
      → AreLinked t node ids → AreLinked now node ids
  linked_stays node [] at all l = tt
  linked_stays node (below ∷ ids) at all l = (
    stays.links node below at l.0 (inl (all below (Contains-here below ids))),
    linked_stays below ids (all below (Contains-here below ids)) (λ n there. all n (Contains-there below ids n there)) l.1,
  )

  source_in : Contains (nodes_of_job row) row.source
  source_in = in_left row.held row.read row.source (holds_source t row stands)

  copy_stays : (kind : Kind) → CopyStands t row kind → CopyStands now row kind
  copy_stays kind c = record {
    filter = stays.filter kind c.filter;
    target = c.target;
    is_target = c.is_target;
    held = c.held;
    read = c.read;
    other = c.other;
  }

  -- what the source has as its backing node
  below_stays : ((m : ℕ) → child t row.source Backing ≡ Some m → Contains row.read m) → (n : ℕ) → child now row.source Backing ≡ Some n → (o : Option ℕ)
      → child t row.source Backing ≡ o → Contains row.read n
  below_stays reads n is None at = absurd (let bad : None ≡ Some n = sym (stays.none at) ∙ is in cc bad)
  below_stays reads n is (Some m) at =
      let stay : child now row.source Backing ≡ Some m = stays.links row.source m source_in at (inl (in_right row.held row.read m (reads m at))) in
      let both : Some m ≡ Some n = sym stay ∙ is in
      let one : m ≡ n = cc both in
      subst (Contains row.read) one (reads m at)

  shape_stays : (k : JobKind) → StandsByKind t row k → StandsByKind now row k
  shape_stays Stream s = record {
    bare = s.bare;
    held = s.held;
    reads = λ base is.
        let r = s.reads base is in
        record {
          between = r.between;
          read = r.read;
          linked = linked_stays row.source (r.between ++ base ∷ []) source_in
              (λ n there. in_right row.held row.read n (subst (λ ids. Contains ids n) (sym r.read) there)) r.linked;
        };
    below = λ n is. below_stays s.below n is (child t row.source Backing) refl;
  }
  shape_stays Commit s = record {
    filter = stays.filter driver.Commit s.filter;
    base = s.base;
    is_base = s.is_base;
    between = s.between;
    held = s.held;
    linked = linked_stays row.source (s.between ++ s.base ∷ []) source_in
        (λ n there. in_left row.held row.read n (subst (λ ids. Contains ids n) (sym s.held) (Contains-there row.source (s.between ++ s.base ∷ []) n there))) s.linked;
    overlay = overlay_stays row.read (λ n there. in_right row.held row.read n there) s.overlay;
  }
    where
      overlay_stays : (ids : List ℕ) → ((n : ℕ) → Contains ids n → Contains (nodes_of_job row) n) → IsOverFilter t ids row.filter → IsOverFilter now ids row.filter
      overlay_stays [] all is = tt
      overlay_stays (overlay ∷ ids) all is = (
        stays.links overlay s.filter.filter (all overlay (Contains-here overlay ids)) (is.0 ∙ s.filter.is_filter) (inr s.filter.is_filter) ∙ sym s.filter.is_filter,
        is.1,
      )
  shape_stays Mirror s = copy_stays driver.Mirror s
  shape_stays Backup s = copy_stays driver.BeforeWrite s

  pub row_stays : JobStands now row
  row_stays = record { slot = stands.slot; plain = stays.plain; edges = stays.edges; shape = shape_stays row.kind stands.shape }

-- ---- jobs that stand, where one filter may be nobody's, and nothing is said of mirrors

pub record OthersStand (t : RunTable) (loose : Option ℕ) : Type 0 where
  pub each : (row : JobRecord) → Contains t.jobs row → JobStands t row
  pub slots : HaveDistinctSlots t
  pub numbers : HaveDistinctNumbers t
  pub edges : EdgesAreOfRows t
  pub apart : HoldApart t
  pub filters : (node : NodeRecord) → Contains t.nodes node → is_job_filter node.kind ≡ true → (loose ≡ Some node.id) ⊎ IsFilterOfRow t node

-- ---- filters of tables with the same rows

abbrev pub HasSame : RunTable → RunTable → ℕ → Type 0
HasSame t now node = node_by_id now node ≡ node_by_id t node

pub filter_same : (t now : RunTable) (row : JobRecord) (kind : Kind) (f : HasFilterOf t row kind) → HasSame t now f.filter
    → child now f.filter Filtered ≡ Some row.source → HasFilterOf now row kind
filter_same t now row kind f same over = record {
  filter = f.filter;
  is_filter = f.is_filter;
  node = f.node;
  there = same ∙ f.there;
  kind_is = f.kind_is;
  over = over;
}

passes : (b : Bool) → not b ≡ true → b ≡ false
passes true h = absurd (false≢true h)
passes false h = refl

-- ---- a job is over

module _ (t : RunTable) (j : JobsStand t) (row : JobRecord) (here : Contains t.jobs row) (drops : Bool) where
  abbrev over : Change
  over = change.EndJob row.number row.slot drops

  abbrev left : List Edge
  left = without_parent (Job row.slot) t.edges

  other_row : (b : JobRecord) → Contains (without_job row.number t.jobs) b → Contains t.jobs b × (b.slot ≢ row.slot)
  other_row b there =
      let at = Contains-filter (λ (r : JobRecord). not (r.number == row.number)) t.jobs b there in
      let differ : b.number ≢ row.number = eqb-false b.number row.number (passes (b.number == row.number) at.1) in
      (at.0, λ same. differ (ap (λ (r : JobRecord). r.number) (j.slots b row at.0 here same)))

  in_left_edges : (e : Edge) → Contains t.edges e → e.parent ≢ Job row.slot → Contains left e
  in_left_edges e there differ =
      filter-keeps (λ x. not (same_parent x.parent (Job row.slot))) t.edges e (ap not (same_parent-false e.parent (Job row.slot) differ)) there

  file_was : (node above : ℕ) → HasFile (refreshed (kinds_of t.nodes) left) above node → HasFile t.edges above node
  file_was node above file =
      let u = file-before (kinds_of t.nodes) left above node file in
      record {
        edge = u.edge;
        there = (Contains-filter (λ x. not (same_parent x.parent (Job row.slot))) t.edges u.edge u.there).0;
        parent = u.parent;
        role = u.role;
        child = u.child;
      }

  pub child_left : (node : ℕ) (role : Role) → child_of (Node node) role (refreshed (kinds_of t.nodes) left) ≡ child t node role
  child_left node role = child_of-refreshed (kinds_of t.nodes) (Node node) role left ∙ child-without (Job row.slot) (Node node) role t.edges (λ same. cc)

  still_there : (b : JobRecord) → Contains (without_job row.number t.jobs) b → RowStays t (changed t over) b
  unfolding changed
  still_there b there =
      let at = other_row b there in
      let stands = j.each b at.0 in
      record {
        plain = λ node held. plain_same t (changed t over) node refl (formats-same t (changed t over) node refl) (file_was node) (stands.plain node held);
        edges = λ e own.
            let slot : e.parent ≡ Job b.slot = edge_slot b e own in
            refreshed_jobs (kinds_of t.nodes) left e (ap is_job slot)
            (in_left_edges e (stands.edges e own) (λ same. let both : Job b.slot ≡ Job row.slot = sym slot ∙ same in at.1 (let one : b.slot ≡ row.slot = cc both in one)));
        links = λ node below held is which. child_left node Backing ∙ is;
        none = λ is. child_left b.source Backing ∙ is;
        filter = λ kind f. filter_same t (changed t over) b kind f refl (child_left f.filter Filtered ∙ f.over);
      }

  pub over_others : OthersStand (changed t over) row.filter
  unfolding changed
  over_others = record {
    each = λ b there. row_stays t (changed t over) b (still_there b there) (j.each b (other_row b there).0);
    slots = λ a b at_a at_b. j.slots a b (other_row a at_a).0 (other_row b at_b).0;
    numbers = λ a b at_a at_b. j.numbers a b (other_row a at_a).0 (other_row b at_b).0;
    edges = λ e slot there is.
        let back = refreshed_jobs_back (kinds_of t.nodes) left e (ap is_job is) there in
        let was = Contains-filter (λ x. not (same_parent x.parent (Job row.slot))) t.edges e back in
        let r = j.edges e slot was.0 is in
        record {
          row = r.row;
          there = stays_row r.row r.there (λ same. false≢true
              (sym (passes (same_parent e.parent (Job row.slot)) was.1)
              ∙ ap (λ p. same_parent p (Job row.slot)) (edge_slot r.row e r.own ∙ ap (λ (x : JobRecord). Job x.slot) same) ∙ same_parent-refl (Job row.slot)));
          own = r.own;
        };
    apart = λ a b node at_a at_b. j.apart a b node (other_row a at_a).0 (other_row b at_b).0;
    filters = λ node there is. by_row node (j.filters node there is);
  }
    where
      stays_row : (b : JobRecord) → Contains t.jobs b → (b ≡ row → ⊥) → Contains (without_job row.number t.jobs) b
      stays_row b at differ =
          filter-keeps (λ (r : JobRecord). not (r.number == row.number)) t.jobs b
          (ap not (ne_eqb b.number row.number (λ same. differ (j.numbers b row at here same)))) at

      by_row : (node : NodeRecord) → IsFilterOfRow t node → (row.filter ≡ Some node.id) ⊎ IsFilterOfRow (changed t over) node
      by_row node r = by_test (r.row.number == row.number) refl
        where
          by_test : (b : Bool) → (r.row.number == row.number) ≡ b → (row.filter ≡ Some node.id) ⊎ IsFilterOfRow (changed t over) node
          by_test true is =
              inl (ap (λ (x : JobRecord). x.filter) (sym (j.numbers r.row row r.there here (eqb-true r.row.number row.number is))) ∙ r.filter)
          by_test false is = inr (record {
            row = r.row;
            there = filter-keeps (λ (x : JobRecord). not (x.number == row.number)) t.jobs r.row (ap not is) r.there;
            filter = r.filter;
            kind = r.kind;
          })

-- ---- nobody has a node

pub record IsNobodys (jobs : List JobRecord) (node : ℕ) : Type 0 where
  pub held : (row : JobRecord) → Contains jobs row → Contains (nodes_of_job row) node → ⊥
  pub filter : (row : JobRecord) → Contains jobs row → row.filter ≢ Some node

pub source_of : (t : RunTable) (loose : Option ℕ) (o : OthersStand t loose) (row : JobRecord) → Contains t.jobs row → Contains (nodes_of_job row) row.source
source_of t loose o row here = in_left row.held row.read row.source (holds_source t row (o.each row here))

-- ---- its filter goes

module _ (t : RunTable) (f source : ℕ) (o : OthersStand t (Some f)) (over : child t f Filtered ≡ Some source) (no_filter : IsNobodys t.jobs f)
    (no_source : IsNobodys t.jobs source) where
  abbrev pull : Change
  pull = change.PullFilter f

  abbrev pulled : List Edge
  pulled = without_filter f t.edges

  abbrev after : List NodeKind
  after = kinds_of (without_record f t.nodes)

  record IsPulled (e : Edge) : Type 0 where
    edge : Edge
    there : Contains t.edges edge
    is : (e ≡ edge) ⊎ ((edge.child ≡ f) × (e.child ≡ source))
    parent : e.parent ≡ edge.parent

  pulled_cases : (e : Edge) → Contains pulled e → IsPulled e
  pulled_cases e = by_found (find (is_filters f) t.edges) refl over
    where
      by_found : (found : Option Edge) → find (is_filters f) t.edges ≡ found → option_map (λ (x : Edge). x.child) found ≡ Some source
          → Contains (elim found as (λ _. List Edge) [
            | None ↦ t.edges
            | Some edge ↦ map (moved f edge.child) (but_doubles f edge.child (but_filters f t.edges))
          ]) e → IsPulled e
      by_found None is k there = absurd cc
      by_found (Some own) is k there =
          let r = Contains-map (moved f own.child) (but_doubles f own.child (but_filters f t.edges)) e there in
          let once = Contains-filter (λ x. not (is_double (but_filters f t.edges) f own.child x)) (but_filters f t.edges) r.0 r.1 in
          let was = Contains-filter (λ x. not (is_filters f x)) t.edges r.0 once.0 in
          let to : own.child ≡ source = cc in
          elim (moved-cases f own.child r.0) [
            | inl m ↦ record {
              edge = r.0;
              there = was.0;
              is = inr (m.0, ap (λ (x : Edge). x.child) (r.2 ∙ m.1) ∙ to);
              parent = ap (λ (x : Edge). x.parent) (r.2 ∙ m.1);
            }
            | inr m ↦ record { edge = r.0; there = was.0; is = inl (r.2 ∙ m.1); parent = ap (λ (x : Edge). x.parent) (r.2 ∙ m.1) }
          ]

  -- an edge that neither leads to the filter nor is its own stays
  pulled_keeps : (e : Edge) → Contains t.edges e → e.child ≢ f → is_filters f e ≡ false → Contains pulled e
  pulled_keeps e there other none = by_found (find (is_filters f) t.edges)
    where
      by_found : (found : Option Edge) → Contains (elim found as (λ _. List Edge) [
        | None ↦ t.edges
        | Some edge ↦ map (moved f edge.child) (but_doubles f edge.child (but_filters f t.edges))
      ]) e
      by_found None = there
      by_found (Some own) =
          let kept : Contains (but_filters f t.edges) e = filter-keeps (λ x. not (is_filters f x)) t.edges e (ap not none) there in
          let single : Contains (but_doubles f own.child (but_filters f t.edges)) e
          = filter-keeps (λ x. not (is_double (but_filters f t.edges) f own.child x)) (but_filters f t.edges) e
          (ap not (no_double (not (f == own.child)) (e.child == f) (same_role e.role Between) (list_any (is_between e.parent own.child) (but_filters f t.edges))
          (ne_eqb e.child f other))) kept in
          let stays : moved f own.child e ≡ e = rw (ne_eqb e.child f other) refl in
          subst (Contains (map (moved f own.child) (but_doubles f own.child (but_filters f t.edges)))) stays
          (map-Contains (moved f own.child) (but_doubles f own.child (but_filters f t.edges)) e single)
        where
          no_double : (a b c d : Bool) → b ≡ false → (a && b && c && d) ≡ false
          no_double true b c d is = rw is refl
          no_double false b c d is = refl

  job_filters : (e : Edge) (slot : ℕ) → e.parent ≡ Job slot → is_filters f e ≡ false
  job_filters e slot is = rw is refl

  file_left : (node : ℕ) → node ≢ source → (above : ℕ) → HasFile (refreshed after pulled) above node → HasFile t.edges above node
  file_left node other above file =
      let u = file-before after pulled above node file in
      let p = pulled_cases u.edge u.there in
      elim p.is [
        | inl same ↦ record {
          edge = p.edge;
          there = p.there;
          parent = sym p.parent ∙ u.parent;
          role = ap (λ (x : Edge). x.role) (sym same) ∙ u.role;
          child = ap (λ (x : Edge). x.child) (sym same) ∙ u.child;
        }
        | inr moved_there ↦ absurd (other (sym u.child ∙ moved_there.1))
      ]

  child_pulled : (node : ℕ) (role : Role) (below : ℕ) → role ≢ Between → (node ≢ f) ⊎ (role ≢ Filtered) → below ≢ f → child t node role ≡ Some below
      → child_of (Node node) role (refreshed after pulled) ≡ Some below
  child_pulled node role below single other apart is =
      child_of-refreshed after (Node node) role pulled
      ∙ children_without f t.edges source over (Node node) role single (not_own other)
      ∙ ap (option_map (λ c. cond (c == f) source c)) is ∙ ap Some (rw (ne_eqb below f apart) refl)
    where
      both-false : (b c : Bool) → c ≡ false → (b && c) ≡ false
      both-false true c is = is
      both-false false c is = refl

      not_filtered : (b : Bool) → same_role role Filtered ≡ b → role ≢ Filtered → same_role role Filtered ≡ false
      not_filtered true is differ = absurd (differ (same_role-true role Filtered is))
      not_filtered false is differ = is

      not_own : (node ≢ f) ⊎ (role ≢ Filtered) → ((node == f) && same_role role Filtered) ≡ false
      not_own (inl differ) = rw (ne_eqb node f differ) refl
      not_own (inr differ) = both-false (node == f) (same_role role Filtered) (not_filtered (same_role role Filtered) refl differ)

  -- a parent of the filter has its source
  pub child_over_filter : (node : ℕ) → child t node Backing ≡ Some f → child_of (Node node) Backing (refreshed after pulled) ≡ Some source
  child_over_filter node is =
      child_of-refreshed after (Node node) Backing pulled
      ∙ children_without f t.edges source over (Node node) Backing (λ bad. let no : Backing ≡ Between = bad in cc no) (last_false (node == f))
      ∙ ap (option_map (λ c. cond (c == f) source c)) is ∙ ap Some (rw (eq-eqb f f refl) refl)
    where
      last_false : (b : Bool) → (b && false) ≡ false
      last_false true = refl
      last_false false = refl

  none_pulled : (node : ℕ) → child t node Backing ≡ None → child_of (Node node) Backing (refreshed after pulled) ≡ None
  none_pulled node is =
      child_of-refreshed after (Node node) Backing pulled
      ∙ children_without f t.edges source over (Node node) Backing (λ bad. let no : Backing ≡ Between = bad in cc no) (last_false (node == f))
      ∙ ap (option_map (λ c. cond (c == f) source c)) is
    where
      last_false : (b : Bool) → (b && false) ≡ false
      last_false true = refl
      last_false false = refl

  -- where an edge leads, it led before
  pub pull_leads : (a : ℕ) (e : Edge) → Contains pulled e → e.parent ≡ Node a → Reaches t.edges a e.child
  pull_leads a e there from =
      let p = pulled_cases e there in
      let first : Reaches t.edges a p.edge.child = Reaches-edge t.edges a p.edge p.there (sym p.parent ∙ from) in
      elim p.is [
        | inl same ↦ subst (Reaches t.edges a) (ap (λ (x : Edge). x.child) (sym same)) first
        | inr moved_there ↦
            let own = role_edge (Node f) Filtered t.edges source over in
            subst (Reaches t.edges a) (sym moved_there.1)
            (Reaches-joined t.edges a f source (subst (Reaches t.edges a) moved_there.0 first)
            (subst (Reaches t.edges f) own.to (Reaches-edge t.edges f own.edge own.there own.from)))
      ]

  same_found : (node : ℕ) → node ≢ f → find (λ r. r.id == node) (without_record f t.nodes) ≡ node_by_id t node
  same_found node differ = still_found t f node differ

  pub pull_stays : (b : JobRecord) → Contains t.jobs b → RowStays t (changed t pull) b
  unfolding changed
  pull_stays b here =
      let stands = o.each b here in
      record {
        plain = λ node held.
            plain_same t (changed t pull) node (same_found node (λ is. no_filter.held b here (subst (Contains (nodes_of_job b)) is held)))
            (λ above there own file. record {
              row = above;
              there = (Contains-filter (λ (r : NodeRecord). not (r.id == f)) t.nodes above there).0;
              id = refl;
              own = own;
            })
            (file_left node (λ is. no_source.held b here (subst (Contains (nodes_of_job b)) is held))) (stands.plain node held);
        edges = λ e own.
            let slot : e.parent ≡ Job b.slot = edge_slot b e own in
            refreshed_jobs after pulled e (ap is_job slot)
            (pulled_keeps e (stands.edges e own) (λ is. no_filter.held b here (subst (Contains (nodes_of_job b)) is (edge_node t b stands e own))) (job_filters e b.slot slot));
        links = λ node below held is which.
            child_pulled node Backing below (λ bad. let no : Backing ≡ Between = bad in cc no) (inr (λ bad. let no : Backing ≡ Filtered = bad in cc no))
            (λ same. elim which [
              | inl mine ↦ no_filter.held b here (subst (Contains (nodes_of_job b)) same mine)
              | inr filter ↦ no_filter.filter b here (filter ∙ ap Some same)
            ]) is;
        none = λ is. none_pulled b.source is;
        filter = λ kind g.
            let differ : g.filter ≢ f = λ same. no_filter.filter b here (g.is_filter ∙ ap Some same) in
            filter_same t (changed t pull) b kind g (same_found g.filter differ)
            (child_pulled g.filter Filtered b.source (λ bad. let no : Filtered ≡ Between = bad in cc no) (inl differ)
            (λ same. no_filter.held b here (subst (Contains (nodes_of_job b)) same (source_of t (Some f) o b here))) g.over);
      }

  pub pull_others : OthersStand (changed t pull) None
  unfolding changed
  pull_others = record {
    each = λ b here. row_stays t (changed t pull) b (pull_stays b here) (o.each b here);
    slots = o.slots;
    numbers = o.numbers;
    edges = λ e slot there is.
        let back = refreshed_jobs_back after pulled e (ap is_job is) there in
        let p = pulled_cases e back in
        let r = o.edges p.edge slot p.there (sym p.parent ∙ is) in
        elim p.is [
          | inl same ↦ record { row = r.row; there = r.there; own = subst (Contains (edges_of_job r.row)) (sym same) r.own }
          | inr moved_there ↦ absurd (no_filter.held r.row r.there
              (subst (Contains (nodes_of_job r.row)) moved_there.0 (edge_node t r.row (o.each r.row r.there) p.edge r.own)))
        ];
    apart = o.apart;
    filters = λ node there is.
        let was = Contains-filter (λ (r : NodeRecord). not (r.id == f)) t.nodes node there in
        elim (o.filters node was.0 is) [
          | inl loose ↦
              let same : f ≡ node.id = let both : Some f ≡ Some node.id = loose in cc both in
              absurd (false≢true (sym (passes (node.id == f) was.1) ∙ eq-eqb node.id f (sym same)))
          | inr r ↦ inr (record { row = r.row; there = r.there; filter = r.filter; kind = r.kind })
        ];
  }

-- ---- what used the source uses the target

module _ (t : RunTable) (source target but : ℕ) (o : OthersStand t None) (no_source : IsNobodys t.jobs source) (no_target : IsNobodys t.jobs target) where
  abbrev move : Change
  move = change.Move source target but

  abbrev replacing : Edge → Edge
  replacing = replaced source target (Some (Node but))

  abbrev over_there : List Edge
  over_there = with_replaced source target (Some (Node but)) t.edges

  abbrev kinds : List NodeKind
  kinds = kinds_of t.nodes

  move_job : (e : Edge) → is_job e.parent ≡ true → replacing e ≡ e
  move_job e job = rw (stays_job job) (last_false (e.child == source))
    where
      stays_job : is_job e.parent ≡ true → (is_job e.parent || same_parent (Node but) e.parent) ≡ true
      stays_job is = rw is refl

      last_false : (b : Bool) → cond (b && not true) (with_child target e) e ≡ e
      last_false true = refl
      last_false false = refl

  file_moved : (node : ℕ) → node ≢ target → (above : ℕ) → HasFile (refreshed kinds over_there) above node → HasFile t.edges above node
  file_moved node other above file =
      let u = file-before kinds over_there above node file in
      let r = Contains-map replacing t.edges u.edge u.there in
      elim (replaced-cases source target (Some (Node but)) r.0) [
        | inl to ↦ absurd (other (sym u.child ∙ ap (λ (x : Edge). x.child) r.2 ∙ to))
        | inr same ↦ record {
          edge = r.0;
          there = r.1;
          parent = ap (λ (x : Edge). x.parent) (sym (r.2 ∙ same)) ∙ u.parent;
          role = ap (λ (x : Edge). x.role) (sym (r.2 ∙ same)) ∙ u.role;
          child = ap (λ (x : Edge). x.child) (sym (r.2 ∙ same)) ∙ u.child;
        }
      ]

  child_over : (node : ℕ) (role : Role) (below : ℕ) → below ≢ source → child t node role ≡ Some below
      → child_of (Node node) role (refreshed kinds over_there) ≡ Some below
  child_over node role below apart is =
      child_of-refreshed kinds (Node node) role over_there
      ∙ children_replaced source target (Some (Node but)) t.edges (Node node) role
      ∙ ap (option_map (λ c. cond (c == source && not (stays (Some (Node but)) (Node node))) target c)) is
      ∙ ap Some (rw (ne_eqb below source apart) refl)

  none_over : (node : ℕ) → child t node Backing ≡ None → child_of (Node node) Backing (refreshed kinds over_there) ≡ None
  none_over node is =
      child_of-refreshed kinds (Node node) Backing over_there
      ∙ children_replaced source target (Some (Node but)) t.edges (Node node) Backing
      ∙ ap (option_map (λ c. cond (c == source && not (stays (Some (Node but)) (Node node))) target c)) is

  -- an edge leads where it led, or from a node that led to the source it leads to the target
  pub move_leads : (a : ℕ) (e : Edge) → Contains over_there e → e.parent ≡ Node a → Reaches t.edges a e.child ⊎ ((e.child ≡ target) × Reaches t.edges a source)
  move_leads a e there from = by_test r.0 r.1 r.2 (r.0.child == source && not (stays (Some (Node but)) r.0.parent)) refl
    where
      r : (x : Edge) × Contains t.edges x × (e ≡ replacing x)
      r = Contains-map replacing t.edges e there

      by_test : (x : Edge) → Contains t.edges x → e ≡ replacing x → (b : Bool) → (x.child == source && not (stays (Some (Node but)) x.parent)) ≡ b
          → Reaches t.edges a e.child ⊎ ((e.child ≡ target) × Reaches t.edges a source)
      by_test x at is true test =
          let shape : replacing x ≡ with_child target x = rw test refl in
          let was : x.parent ≡ Node a = sym (ap (λ (y : Edge). y.parent) (is ∙ shape)) ∙ from in
          let at_source : x.child ≡ source = eqb-true x.child source (and-left (x.child == source) (not (stays (Some (Node but)) x.parent)) test) in
          inr (ap (λ (y : Edge). y.child) (is ∙ shape), subst (Reaches t.edges a) at_source (Reaches-edge t.edges a x at was))
      by_test x at is false test =
          let shape : replacing x ≡ x = rw test refl in
          let same : e ≡ x = is ∙ shape in
          inl (subst (λ (y : Edge). Reaches t.edges a y.child) (sym same) (Reaches-edge t.edges a x at (sym (ap (λ (y : Edge). y.parent) same) ∙ from)))

  pub move_stays : (b : JobRecord) → Contains t.jobs b → RowStays t (changed t move) b
  unfolding changed
  move_stays b here =
      let stands = o.each b here in
      record {
        plain = λ node held.
            plain_same t (changed t move) node refl (formats-same t (changed t move) node refl) (file_moved node (λ is. no_target.held b here (subst (Contains (nodes_of_job b)) is held))) (stands.plain node held);
        edges = λ e own.
            let job : is_job e.parent ≡ true = ap is_job (edge_slot b e own) in
            refreshed_jobs kinds over_there e job
            (subst (Contains over_there) (move_job e job) (map-Contains replacing t.edges e (stands.edges e own)));
        links = λ node below held is which.
            child_over node Backing below
            (λ same. elim which [
              | inl mine ↦ no_source.held b here (subst (Contains (nodes_of_job b)) same mine)
              | inr filter ↦ no_source.filter b here (filter ∙ ap Some same)
            ]) is;
        none = λ is. none_over b.source is;
        filter = λ kind g.
            filter_same t (changed t move) b kind g refl
            (child_over g.filter Filtered b.source
            (λ same. no_source.held b here (subst (Contains (nodes_of_job b)) same (source_of t None o b here))) g.over);
      }

  pub move_others : OthersStand (changed t move) None
  unfolding changed
  move_others = record {
    each = λ b here. row_stays t (changed t move) b (move_stays b here) (o.each b here);
    slots = o.slots;
    numbers = o.numbers;
    edges = λ e slot there is.
        let back = refreshed_jobs_back kinds over_there e (ap is_job is) there in
        let p = Contains-map replacing t.edges e back in
        let job : is_job p.0.parent ≡ true
        = ap is_job (sym (replaced-parent source target (Some (Node but)) p.0) ∙ sym (ap (λ (x : Edge). x.parent) p.2)) ∙ ap is_job is in
        let same : e ≡ p.0 = p.2 ∙ move_job p.0 job in
        let r = o.edges p.0 slot p.1 (ap (λ (x : Edge). x.parent) (sym same) ∙ is) in
        record { row = r.row; there = r.there; own = subst (Contains (edges_of_job r.row)) (sym same) r.own };
    apart = o.apart;
    filters = λ node there is. elim (o.filters node there is) [
      | inl loose ↦ inl loose
      | inr r ↦ inr (record { row = r.row; there = r.there; filter = r.filter; kind = r.kind })
    ];
  }

-- ---- another backing node, or none

-- no job's chain goes on from the node by its backing edge, nor begins there
pub record NoLinkFrom (t : RunTable) (node : ℕ) : Type 0 where
  pub none : (row : JobRecord) (below : ℕ) → Contains t.jobs row → Contains (nodes_of_job row) node → child t node Backing ≡ Some below
      → Contains (nodes_of_job row) below ⊎ (row.filter ≡ Some below) → ⊥
  pub off : (row : JobRecord) → Contains t.jobs row → row.source ≢ node

module _ (t : RunTable) (at : ℕ) (backing : Option ℕ) (o : OthersStand t None) (free : NoLinkFrom t at) where
  abbrev rebase : Change
  rebase = change.Rebase at backing

  abbrev kinds_still : List NodeKind
  kinds_still = kinds_of t.nodes

  abbrev backed : List Edge
  backed = with_backing at backing t.edges

  backed_forth : (o : Option ℕ) (e : Edge) → Contains t.edges e → is_job e.parent ≡ true → Contains (with_backing at o t.edges) e
  backed_forth None e there job = filter-keeps (λ x. not (is_edge (Node at) Backing x)) t.edges e (ap not (other e.parent job)) there
    where
      other : (p : Parent) → is_job p ≡ true → (same_parent p (Node at) && same_role e.role Backing) ≡ false
      other (Job n) is = refl
      other (Node n) is = absurd (false≢true is)
      other (Guest n) is = absurd (false≢true is)
  backed_forth (Some base) e there job =
      with_edge-keeps (node_edge at Backing base) t.edges e
      (apart-parents (node_edge at Backing base) e (λ same. let no : false ≡ true = ap is_job same ∙ job in false≢true no)) there

  backed_back : (o : Option ℕ) (e : Edge) → Contains (with_backing at o t.edges) e → is_job e.parent ≡ true → Contains t.edges e
  backed_back None e there job = (Contains-filter (λ x. not (is_edge (Node at) Backing x)) t.edges e there).0
  backed_back (Some base) e there job = elim (Contains-with_edge (node_edge at Backing base) t.edges e there) [
    | inl own ↦ absurd (false≢true (ap (λ (x : Edge). is_job x.parent) (sym own) ∙ job))
    | inr old ↦ old
  ]

  file_backed : (o : Option ℕ) (node above : ℕ) → HasFile (refreshed kinds_still (with_backing at o t.edges)) above node → HasFile t.edges above node
  file_backed None node above file =
      let u = file-before kinds_still (with_backing at None t.edges) above node file in
      record {
        edge = u.edge;
        there = (Contains-filter (λ x. not (is_edge (Node at) Backing x)) t.edges u.edge u.there).0;
        parent = u.parent;
        role = u.role;
        child = u.child;
      }
  file_backed (Some base) node above file =
      let u = file-before kinds_still (with_backing at (Some base) t.edges) above node file in
      elim (Contains-with_edge (node_edge at Backing base) t.edges u.edge u.there) [
        | inl own ↦ let bad : Backing ≡ File = ap (λ (x : Edge). x.role) (sym own) ∙ u.role in absurd (cc bad)
        | inr old ↦ record { edge = u.edge; there = old; parent = u.parent; role = u.role; child = u.child }
      ]

  child_role : (o : Option ℕ) (node : ℕ) (role : Role) → same_role Backing role ≡ false → same_role role Backing ≡ false
      → child_of (Node node) role (refreshed kinds_still (with_backing at o t.edges)) ≡ child t node role
  child_role None node role differ back =
      child_of-refreshed kinds_still (Node node) role (with_backing at None t.edges)
      ∙ children_removed (Node at) Backing t.edges (Node node) role (none (node == at))
    where
      none : (b : Bool) → (b && same_role role Backing) ≡ false
      none true = back
      none false = refl
  child_role (Some base) node role differ back =
      child_of-refreshed kinds_still (Node node) role (with_backing at (Some base) t.edges)
      ∙ child-role (Node node) role (node_edge at Backing base) t.edges differ

  child_other : (o : Option ℕ) (node : ℕ) → node ≢ at → child_of (Node node) Backing (refreshed kinds_still (with_backing at o t.edges)) ≡ child t node Backing
  child_other None node differ =
      child_of-refreshed kinds_still (Node node) Backing (with_backing at None t.edges)
      ∙ children_removed (Node at) Backing t.edges (Node node) Backing (rw (ne_eqb node at differ) refl)
  child_other (Some base) node differ =
      child_of-refreshed kinds_still (Node node) Backing (with_backing at (Some base) t.edges)
      ∙ child-kept (Node node) Backing (node_edge at Backing base) t.edges (λ same. differ (let one : at ≡ node = cc same in sym one))

  node_or : (node : ℕ) → (node ≡ at) ⊎ (node ≢ at)
  node_or node = cases_eq node at

  pub rebase_stays : (b : JobRecord) → Contains t.jobs b → RowStays t (changed t rebase) b
  unfolding changed
  rebase_stays b here =
      let stands = o.each b here in
      record {
        plain = λ node held. plain_same t (changed t rebase) node refl (formats-same t (changed t rebase) node refl) (file_backed backing node) (stands.plain node held);
        edges = λ e own.
            let job : is_job e.parent ≡ true = ap is_job (edge_slot b e own) in
            refreshed_jobs kinds_still backed e job (backed_forth backing e (stands.edges e own) job);
        links = λ node below held is which. elim (node_or node) [
          | inl same ↦ absurd (free.none b below here (subst (Contains (nodes_of_job b)) same held) (subst (λ n. child t n Backing ≡ Some below) same is) which)
          | inr differ ↦ child_other backing node differ ∙ is
        ];
        none = λ is. child_other backing b.source (free.off b here) ∙ is;
        filter = λ kind g. filter_same t (changed t rebase) b kind g refl (child_role backing g.filter Filtered refl refl ∙ g.over);
      }

  pub rebase_others : OthersStand (changed t rebase) None
  unfolding changed
  rebase_others = record {
    each = λ b here. row_stays t (changed t rebase) b (rebase_stays b here) (o.each b here);
    slots = o.slots;
    numbers = o.numbers;
    edges = λ e slot there is.
        let back = backed_back backing e (refreshed_jobs_back kinds_still backed e (ap is_job is) there) (ap is_job is) in
        let r = o.edges e slot back is in
        record { row = r.row; there = r.there; own = r.own };
    apart = o.apart;
    filters = λ node there is. elim (o.filters node there is) [
      | inl loose ↦ inl loose
      | inr r ↦ inr (record { row = r.row; there = r.there; filter = r.filter; kind = r.kind })
    ];
  }

-- ---- rows that keep their ids, kinds and files

pub unsettled_row : (id : ℕ) (row : NodeRecord) → KeepsRow row (node_changed id unsettled row)
unsettled_row id row = by_test (row.id == id)
  where
    by_test : (b : Bool) → KeepsRow row (cond b (unsettled row) row)
    by_test true = record { id = refl; kind = refl; filename = refl }
    by_test false = record { id = refl; kind = refl; filename = refl }

module _ (t now : RunTable) (f : NodeRecord → NodeRecord) (keeps : (row : NodeRecord) → KeepsRow row (f row)) (nodes : now.nodes ≡ map f t.nodes)
    (jobs : now.jobs ≡ t.jobs) (same : HaveSameJobEdges t now) (files : (node over : ℕ) → HasFile now.edges over node → HasFile t.edges over node)
    (children : (node : ℕ) (role : Role) → child now node role ≡ child t node role) (loose : Option ℕ) (o : OthersStand t loose) where
  was : (b : JobRecord) → Contains now.jobs b → Contains t.jobs b
  was b here = subst (λ rows. Contains rows b) jobs here

  found : (node : ℕ) (row : NodeRecord) → node_by_id t node ≡ Some row → node_by_id now node ≡ Some (f row)
  found node row is = found_mapped t now f (λ r. (keeps r).id) nodes node ∙ ap (option_map f) is

  mapped_stays : (b : JobRecord) → Contains t.jobs b → RowStays t now b
  mapped_stays b here =
      let stands = o.each b here in
      record {
        plain = λ node held.
            let p = stands.plain node held in
            plain-back t now node p (f p.row) (found node p.row p.there) (keeps p.row) (formats-mapped t now f keeps nodes node) (files node);
        edges = λ e own. same.kept e (stands.edges e own) (ap is_job (edge_slot b e own));
        links = λ node below held is which. children node Backing ∙ is;
        none = λ is. children b.source Backing ∙ is;
        filter = λ kind g. record {
          filter = g.filter;
          is_filter = g.is_filter;
          node = f g.node;
          there = found g.filter g.node g.there;
          kind_is = (keeps g.node).kind ∙ g.kind_is;
          over = children g.filter Filtered ∙ g.over;
        };
      }

  pub mapped_others : OthersStand now loose
  mapped_others = record {
    each = λ b here. row_stays t now b (mapped_stays b (was b here)) (o.each b (was b here));
    slots = λ a b at_a at_b. o.slots a b (was a at_a) (was b at_b);
    numbers = λ a b at_a at_b. o.numbers a b (was a at_a) (was b at_b);
    edges = λ e slot there is.
        let r = o.edges e slot (same.back e there (ap is_job is)) is in
        record { row = r.row; there = subst (λ rows. Contains rows r.row) (sym jobs) r.there; own = r.own };
    apart = λ a b node at_a at_b. o.apart a b node (was a at_a) (was b at_b);
    filters = λ later there is.
        let r = Contains-map f t.nodes later (subst (λ ns. Contains ns later) nodes there) in
        let k = keeps r.0 in
        let id : later.id ≡ r.0.id = ap (λ (x : NodeRecord). x.id) r.2 ∙ k.id in
        let kind : later.kind ≡ r.0.kind = ap (λ (x : NodeRecord). x.kind) r.2 ∙ k.kind in
        elim (o.filters r.0 r.1 (ap is_job_filter (sym kind) ∙ is)) [
          | inl none ↦ inl (none ∙ ap Some (sym id))
          | inr own ↦ inr (record {
            row = own.row;
            there = subst (λ rows. Contains rows own.row) (sym jobs) own.there;
            filter = own.filter ∙ ap Some (sym id);
            kind = own.kind ∙ ap Some (sym kind);
          })
        ];
  }
