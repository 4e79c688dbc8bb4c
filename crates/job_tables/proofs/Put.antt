-- A job's filter is put over its source.
use Rattle.std.proofs.Common.{◌≡◌, ◌≢◌, ◌⊎◌, ℕ, List, [], ◌∷◌, ◌++◌, refl, sym, ◌∙◌, ap, subst, inl, inr, Bool, true, false, cond, Some, None}
use Rattle.std.specs.Prelude.{◌==◌, ◌&&◌, not, IsSome}
use Rattle.std.specs.Option.{option_map}
use Rattle.std.specs.List.{Contains, filter, find, list_any}
use Rattle.std.proofs.lemmas.Bool.{eq-eqb, ne_eqb}
use Rattle.blk_graph.specs.declared.edge.Edge.{Edge}
use Rattle.blk_graph.specs.declared.edge.Parent.TheVariants.{Node, Job}
use Rattle.blk_graph.specs.declared.edge.Role.{Role}
use Rattle.blk_graph.specs.declared.edge.Role.TheVariants.{File, Backing, Filtered, Between}
use Rattle.blk_graph.specs.declared.kind.NodeKind.{NodeKind}
use Rattle.blk_graph.specs.Edges.{same_role, is_job}
use Rattle.blk_graph.specs.Edits.{IsLone, moved, is_between, is_double, but_doubles, with_moved, filter_edge}
use Rattle.blk_graph.specs.Paths.{IsPath, Reaches}
use Rattle.blk_graph.specs.Permissions.{idle_uses}
use Rattle.blk_graph.specs.Refreshed.{refreshed}
use Rattle.blk_graph.proofs.DraftLemmas.{children_filter, child_filter}
use Rattle.blk_graph.proofs.EditLemmas.{moved-cases, moved-parent, Contains-with_moved}
use Rattle.blk_graph.proofs.Members.{map-Contains}
use Rattle.blk_graph.proofs.PathLemmas.{Reaches-edge, Reaches-joined}
use Rattle.blk_graph.proofs.RefreshLemmas.{child_of-refreshed}
use Rattle.qmp_rules.specs.declared.change.Change.{Change}
use Rattle.qmp_rules.specs.declared.change.Change.TheVariants as change
use Rattle.qmp_rules.specs.declared.rows.NodeRecord.{NodeRecord}
use Rattle.qmp_rules.specs.declared.rows.JobRecord.{JobRecord}
use Rattle.qmp_rules.specs.Changes.{changed, filtered_edges}
use Rattle.qmp_rules.specs.Table.{RunTable, node_by_id, child, kinds_of}
use Rattle.flat_machine.specs.Suiting.{IsPlainNode}
use Rattle.flat_machine.specs.Wiring.{EdgesHaveEnds}
use Rattle.flat_machine.proofs.Fresh.{found-longer, found-new}
use Rattle.flat_machine.proofs.Tables.{filter-keeps, pushed-cases, refreshed-old}
use Rattle.job_tables.specs.Rows.{edges_of_job, nodes_of_job}
use Rattle.job_tables.proofs.RowEdges.{in_left, edge_slot, edge_node}
use Rattle.job_tables.proofs.Plain.{HasFile, file-before, FormatsWere, plain-back}
use Rattle.job_tables.proofs.Kept.{refreshed_jobs, refreshed_jobs_back}
use Rattle.job_tables.proofs.Others.{OthersStand, RowStays, row_stays, IsNobodys, source_of}

module _ (t : RunTable) (row : NodeRecord) (source : ℕ) (fresh : node_by_id t row.id ≡ None) (ends : EdgesHaveEnds t) where
  abbrev put : Change
  put = change.PutFilter row source

  abbrev over : List Edge
  over = filtered_edges row.id source t.edges

  abbrev after : List NodeKind
  after = kinds_of (t.nodes ++ row ∷ [])

  absent : (node : ℕ) → IsSome (node_by_id t node) → node ≢ row.id
  absent node some same = let bad = subst IsSome (ap (node_by_id t) same ∙ fresh) some in cc

  pub lone : IsLone t.edges row.id
  lone = record {
    enters = λ e there at. absent e.child (ends e there).child at;
    leaves = λ e there from. absent row.id ((ends e there).parent row.id from) refl;
  }

  -- an edge of the new list: one that led elsewhere, one that led to the source, or the filter's own
  pub record IsPut (e : Edge) : Type 0 where
    pub edge : Edge
    pub there : Contains t.edges edge
    pub parent : e.parent ≡ edge.parent
    pub how : ((e ≡ edge) × (edge.child ≢ source)) ⊎ ((e.child ≡ row.id) × (edge.child ≡ source))

  abbrev pub own : Edge
  own = filter_edge row.id source idle_uses.perm idle_uses.shared

  pub put_cases : (e : Edge) → Contains over e → IsPut e ⊎ (e ≡ own)
  put_cases e there = elim (pushed-cases (with_moved source row.id t.edges) own e there) [
    | inr new ↦ inr new
    | inl old ↦
        let r = Contains-with_moved source row.id t.edges e old in
        inl (record {
          edge = r.0;
          there = r.1;
          parent = ap (λ (x : Edge). x.parent) r.2 ∙ moved-parent source row.id r.0;
          how = elim (moved-cases source row.id r.0) [
            | inl m ↦ inr (ap (λ (x : Edge). x.child) (r.2 ∙ m.1), m.0)
            | inr m ↦ inl (r.2 ∙ m.1, m.0)
          ];
        })
  ]

  pub put_keeps : (e : Edge) → Contains t.edges e → e.child ≢ source → Contains over e
  put_keeps e there other =
      let single : Contains (but_doubles source row.id t.edges) e
      = filter-keeps (λ x. not (is_double t.edges source row.id x)) t.edges e
      (ap not (no_double (not (source == row.id)) (e.child == source) (same_role e.role Between) (list_any (is_between e.parent row.id) t.edges) (ne_eqb e.child source other))) there in
      let stays : moved source row.id e ≡ e = rw (ne_eqb e.child source other) refl in
      in_left (with_moved source row.id t.edges) (own ∷ []) e
      (subst (Contains (with_moved source row.id t.edges)) stays (map-Contains (moved source row.id) (but_doubles source row.id t.edges) e single))
    where
      no_double : (a b c d : Bool) → b ≡ false → (a && b && c && d) ≡ false
      no_double true b c d is = rw is refl
      no_double false b c d is = refl

  file_was : (node : ℕ) → node ≢ row.id → (above : ℕ) → HasFile (refreshed after over) above node → HasFile t.edges above node
  file_was node other above file =
      let u = file-before after over above node file in
      elim (put_cases u.edge u.there) [
        | inr new ↦ absurd (let bad : Filtered ≡ File = ap (λ (x : Edge). x.role) (sym new) ∙ u.role in cc bad)
        | inl p ↦ elim p.how [
          | inl same ↦ record {
            edge = p.edge;
            there = p.there;
            parent = sym p.parent ∙ u.parent;
            role = ap (λ (x : Edge). x.role) (sym same.0) ∙ u.role;
            child = ap (λ (x : Edge). x.child) (sym same.0) ∙ u.child;
          }
          | inr moved_there ↦ absurd (other (sym u.child ∙ moved_there.0))
        ]
      ]

  pub plain_put : (node : ℕ) → IsPlainNode t node → IsPlainNode (changed t put) node
  unfolding changed
  plain_put node p =
      let there : find (λ r. r.id == node) (t.nodes ++ row ∷ []) ≡ Some p.row = found-longer (λ r. r.id == node) t.nodes row p.row p.there in
      plain-back t (changed t put) node p p.row there (record { id = refl; kind = refl; filename = refl }) (formats node)
      (file_was node (absent node (subst IsSome (sym p.there) refl)))
    where
      formats : (node : ℕ) → FormatsWere t (changed t put) node
      formats node above in_now own file = elim (pushed-cases t.nodes row above in_now) [
        | inl old ↦ record { row = above; there = old; id = refl; own = own }
        | inr new ↦ absurd (lone.leaves file.edge file.there (file.parent ∙ ap (λ (r : NodeRecord). Node r.id) new))
      ]

  pub child_put : (node : ℕ) (role : Role) (below : ℕ) → node ≢ row.id → role ≢ Between → below ≢ source → child t node role ≡ Some below
      → child (changed t put) node role ≡ Some below
  unfolding changed
  child_put node role below other single apart is =
      child_of-refreshed after (Node node) role over
      ∙ children_filter source row.id idle_uses.perm idle_uses.shared t.edges (Node node) role single (λ same. other (let both : Node node ≡ Node row.id = same in let one : node ≡ row.id = cc both in one))
      ∙ ap (option_map (λ c. cond (c == source) row.id c)) is ∙ ap Some (rw (ne_eqb below source apart) refl)

  pub child_put_none : (node : ℕ) → node ≢ row.id → child t node Backing ≡ None → child (changed t put) node Backing ≡ None
  unfolding changed
  child_put_none node other is =
      child_of-refreshed after (Node node) Backing over
      ∙ children_filter source row.id idle_uses.perm idle_uses.shared t.edges (Node node) Backing (λ bad. let no : Backing ≡ Between = bad in cc no)
      (λ same. other (let both : Node node ≡ Node row.id = same in let one : node ≡ row.id = cc both in one))
      ∙ ap (option_map (λ c. cond (c == source) row.id c)) is

  pub child_put_over : (node : ℕ) → node ≢ row.id → child t node Backing ≡ Some source → child (changed t put) node Backing ≡ Some row.id
  unfolding changed
  child_put_over node other is =
      child_of-refreshed after (Node node) Backing over
      ∙ children_filter source row.id idle_uses.perm idle_uses.shared t.edges (Node node) Backing (λ bad. let no : Backing ≡ Between = bad in cc no)
      (λ same. other (let both : Node node ≡ Node row.id = same in let one : node ≡ row.id = cc both in one))
      ∙ ap (option_map (λ c. cond (c == source) row.id c)) is ∙ ap Some (rw (eq-eqb source source refl) refl)

  pub child_own : child (changed t put) row.id Filtered ≡ Some source
  unfolding changed
  child_own = child_of-refreshed after (Node row.id) Filtered over ∙ child_filter source row.id idle_uses.perm idle_uses.shared t.edges lone

  pub found_own : node_by_id (changed t put) row.id ≡ Some row
  unfolding changed
  found_own = found-new (λ r. r.id == row.id) t.nodes row fresh (eq-eqb row.id row.id refl)

  -- ---- ways

  first_hop : (e : Edge) (a : ℕ) → a ≢ row.id → Contains (refreshed after over) e → e.parent ≡ Node a
      → (Reaches t.edges a e.child × (e.child ≢ row.id)) ⊎ ((e.child ≡ row.id) × Reaches t.edges a source)
  first_hop e a off there from =
      let x = refreshed-old after over e there in
      by_cases x.edge (sym x.same.child) (x.same.parent ∙ from) (put_cases x.edge x.there)
    where
      by_cases : (y : Edge) → e.child ≡ y.child → y.parent ≡ Node a → IsPut y ⊎ (y ≡ own)
          → (Reaches t.edges a e.child × (e.child ≢ row.id)) ⊎ ((e.child ≡ row.id) × Reaches t.edges a source)
      by_cases y child of (inr new) = absurd (off (let both : Node a ≡ Node row.id = sym of ∙ ap (λ (z : Edge). z.parent) new in let one : a ≡ row.id = cc both in one))
      by_cases y child of (inl p) =
          let way : Reaches t.edges a p.edge.child = Reaches-edge t.edges a p.edge p.there (sym p.parent ∙ of) in
          elim p.how [
            | inl same ↦
                let to : e.child ≡ p.edge.child = child ∙ ap (λ (z : Edge). z.child) same.0 in
                inl (subst (Reaches t.edges a) (sym to) way, λ at. absent p.edge.child (ends p.edge p.there).child (sym to ∙ at))
            | inr moved_there ↦ inr (child ∙ moved_there.0, subst (Reaches t.edges a) moved_there.1 way)
          ]

  own_hop : (e : Edge) → Contains (refreshed after over) e → e.parent ≡ Node row.id → e.child ≡ source
  own_hop e there from =
      let x = refreshed-old after over e there in
      by_cases x.edge (sym x.same.child) (x.same.parent ∙ from) (put_cases x.edge x.there)
    where
      by_cases : (y : Edge) → e.child ≡ y.child → y.parent ≡ Node row.id → IsPut y ⊎ (y ≡ own) → e.child ≡ source
      by_cases y child of (inr new) = child ∙ ap (λ (z : Edge). z.child) new
      by_cases y child of (inl p) = absurd (lone.leaves p.edge p.there (sym p.parent ∙ of))

  -- a way between other nodes was there
  way_was : (e : Edge) (path : List Edge) (a z : ℕ) → source ≢ row.id → a ≢ row.id → z ≢ row.id → IsPath (refreshed after over) a (e ∷ path) z → Reaches t.edges a z
  way_was e [] a z apart off to h = elim (first_hop e a off h.0 h.1) [
    | inl way ↦ subst (Reaches t.edges a) h.2 way.0
    | inr at ↦ absurd (to (sym h.2 ∙ at.0))
  ]
  way_was e (g ∷ []) a z apart off to h = elim (first_hop e a off h.0 h.1) [
    | inl way ↦ Reaches-joined t.edges a e.child z way.0 (way_was g [] e.child z apart way.1 to h.2)
    | inr at ↦ subst (Reaches t.edges a) (sym (own_hop g h.2.0 (h.2.1 ∙ ap Node at.0)) ∙ h.2.2) at.1
  ]
  way_was e (g ∷ (k ∷ more)) a z apart off to h = elim (first_hop e a off h.0 h.1) [
    | inl way ↦ Reaches-joined t.edges a e.child z way.0 (way_was g (k ∷ more) e.child z apart way.1 to h.2)
    | inr at ↦
        let down : g.child ≡ source = own_hop g h.2.0 (h.2.1 ∙ ap Node at.0) in
        Reaches-joined t.edges a source z at.1
        (way_was k more source z apart apart to (subst (λ n. IsPath (refreshed after over) n (k ∷ more) z) down h.2.2))
  ]

  pub put_ways : source ≢ row.id → (a z : ℕ) → a ≢ row.id → z ≢ row.id → Reaches (changed t put).edges a z → Reaches t.edges a z
  unfolding changed
  put_ways apart a z off to way = way_was way.first way.rest a z apart off to way.path

  -- ---- the other jobs

  module _ (o : OthersStand t None) (free : IsNobodys t.jobs source) where
    put_stays : (b : JobRecord) → Contains t.jobs b → RowStays t (changed t put) b
    unfolding changed
    put_stays b here =
        let stands = o.each b here in
        record {
          plain = λ node held. plain_put node (stands.plain node held);
          edges = λ e mine.
              let slot : e.parent ≡ Job b.slot = edge_slot b e mine in
              refreshed_jobs after over e (ap is_job slot)
              (put_keeps e (stands.edges e mine) (λ is. free.held b here (subst (Contains (nodes_of_job b)) is (edge_node t b stands e mine))));
          links = λ node below held is which.
              let p = stands.plain node held in
              child_put node Backing below (absent node (subst IsSome (sym p.there) refl)) (λ bad. let no : Backing ≡ Between = bad in cc no)
              (λ same. elim which [
                | inl mine ↦ free.held b here (subst (Contains (nodes_of_job b)) same mine)
                | inr filter ↦ free.filter b here (filter ∙ ap Some same)
              ]) is;
          none = λ is.
              child_put_none b.source (absent b.source (subst IsSome (sym (stands.plain b.source (source_of t None o b here)).there) refl)) is;
          filter = λ kind g. record {
            filter = g.filter;
            is_filter = g.is_filter;
            node = g.node;
            there = found-longer (λ r. r.id == g.filter) t.nodes row g.node g.there;
            kind_is = g.kind_is;
            over = child_put g.filter Filtered b.source (absent g.filter (subst IsSome (sym g.there) refl)) (λ bad. let no : Filtered ≡ Between = bad in cc no)
                (λ same. free.held b here (subst (Contains (nodes_of_job b)) same (source_of t None o b here))) g.over;
          };
        }

    pub put_others : OthersStand (changed t put) (Some row.id)
    unfolding changed
    put_others = record {
      each = λ b here. row_stays t (changed t put) b (put_stays b here) (o.each b here);
      slots = o.slots;
      numbers = o.numbers;
      edges = λ e slot there is.
          let back = refreshed_jobs_back after over e (ap is_job is) there in
          elim (put_cases e back) [
            | inr new ↦ absurd (let bad : Node row.id ≡ Job slot = ap (λ (x : Edge). x.parent) (sym new) ∙ is in cc bad)
            | inl p ↦
                let r = o.edges p.edge slot p.there (sym p.parent ∙ is) in
                elim p.how [
                  | inl same ↦ record { row = r.row; there = r.there; own = subst (Contains (edges_of_job r.row)) (sym same.0) r.own }
                  | inr moved_there ↦ absurd (free.held r.row r.there
                      (subst (Contains (nodes_of_job r.row)) moved_there.1 (edge_node t r.row (o.each r.row r.there) p.edge r.own)))
                ]
          ];
      apart = o.apart;
      filters = λ node there is. elim (pushed-cases t.nodes row node there) [
        | inr new ↦ inl (ap (λ (x : NodeRecord). Some x.id) (sym new))
        | inl old ↦ elim (o.filters node old is) [
          | inl none ↦ absurd (let bad : None ≡ Some node.id = none in cc bad)
          | inr r ↦ inr (record { row = r.row; there = r.there; filter = r.filter; kind = r.kind })
        ]
      ];
    }
