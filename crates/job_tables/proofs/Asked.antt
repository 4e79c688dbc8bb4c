-- Jobs stand behind what is asked of them, where they become ready, and behind snapshots of other nodes.
use Rattle.std.proofs.Common.{◌≡◌, ◌≢◌, ◌⊎◌, ℕ, ◌<◌, List, [], ◌∷◌, ◌++◌, map, refl, sym, ◌∙◌, ap, subst, inl, inr, Bool, true, false, cond, Option, Some, None}
use Rattle.std.specs.Prelude.{◌==◌, ◌&&◌, not}
use Rattle.std.specs.List.{Contains, find}
use Rattle.std.proofs.lemmas.Bool.{false≢true, eqb-true, eq-eqb}
use Rattle.blk_graph.specs.declared.edge.Edge.{Edge}
use Rattle.blk_graph.specs.declared.edge.Parent.TheVariants.{Node}
use Rattle.blk_graph.specs.declared.edge.Role.{Role}
use Rattle.blk_graph.specs.declared.edge.Role.TheVariants.{Backing, Filtered}
use Rattle.blk_graph.specs.declared.kind.Kind.{Kind}
use Rattle.blk_graph.specs.declared.kind.Kind.TheVariants as driver
use Rattle.blk_graph.specs.Edits.{child_of, with_child, stays, replaced, with_edge, with_replaced}
use Rattle.blk_graph.specs.Paths.{IsPath, Reaches}
use Rattle.blk_graph.specs.Permissions.{node_edge}
use Rattle.blk_graph.proofs.CycleLemmas.{and-left, and-right}
use Rattle.blk_graph.proofs.EditLemmas.{Contains-with_edge, replaced-parent}
use Rattle.blk_graph.proofs.Members.{Contains-here, Contains-there, Contains-map, map-Contains}
use Rattle.blk_graph.proofs.PathLemmas.{Reaches-edge, Reaches-joined}
use Rattle.qmp_codec.specs.declared.event.JobKind.{JobKind}
use Rattle.qmp_codec.specs.declared.event.JobKind.TheVariants.{Stream, Commit, Mirror, Backup}
use Rattle.qmp_rules.specs.declared.change.Change.{Change}
use Rattle.qmp_rules.specs.declared.change.Change.TheVariants as change
use Rattle.qmp_rules.specs.declared.rows.AskedEnd.{AskedEnd}
use Rattle.qmp_rules.specs.declared.rows.JobRecord.{JobRecord}
use Rattle.qmp_rules.specs.Changes.{changed, all_changed, followed, asked_for, ready_for}
use Rattle.qmp_rules.specs.Table.{RunTable, node_by_id, kinds_of, child}
use Rattle.flat_machine.proofs.Tables.{refreshed-old}
use Rattle.job_edges.specs.Copies.{Copied, AreApart}
use Rattle.job_tables.specs.Rows.{edges_by, edges_of_job, nodes_of_job, AreLinked, HasFilterOf, mirror_to, mirrors}
use Rattle.job_tables.specs.Jobs.{CopyStands, IsOverFilter, StandsByKind, filter_kind, JobStands, JobsStand}
use Rattle.job_tables.specs.Changes.{LeavesBySnapshot}
use Rattle.job_tables.proofs.RowEdges.{in_left, copy_holds, holds_source}
use Rattle.job_tables.proofs.Plain.{HasFile, formats-same, plain_same}
use Rattle.job_tables.proofs.Kept.{mirror_row}
use Rattle.job_tables.proofs.Others.{OthersStand, IsNobodys, source_of, move_others, rebase_others}

-- ---- rows that say the same of nodes and edges

pub record SaysSame (row later : JobRecord) : Type 0 where
  pub number : later.number ≡ row.number
  pub slot : later.slot ≡ row.slot
  pub kind : later.kind ≡ row.kind
  pub source : later.source ≡ row.source
  pub target : later.target ≡ row.target
  pub filter : later.filter ≡ row.filter
  pub held : later.held ≡ row.held
  pub read : later.read ≡ row.read
  pub edges : edges_of_job later ≡ edges_of_job row
  pub copies : mirror_to later later.kind later.target ≡ mirror_to row row.kind row.target

module _ (t now : RunTable) (f : JobRecord → JobRecord) (says : (row : JobRecord) → SaysSame row (f row)) (nodes : now.nodes ≡ t.nodes)
    (edges : now.edges ≡ t.edges) (jobs : now.jobs ≡ map f t.jobs) (j : JobsStand t) where
  child_as : (node : ℕ) (role : Role) → child now node role ≡ child t node role
  child_as node role = ap (child_of (Node node) role) edges

  found_as : (node : ℕ) → node_by_id now node ≡ node_by_id t node
  found_as node = ap (find (λ r. r.id == node)) nodes

  links_as : (node : ℕ) (ids : List ℕ) → AreLinked t node ids → AreLinked now node ids
  links_as node [] l = tt
  links_as node (below ∷ ids) l = (child_as node Backing ∙ l.0, links_as below ids l.1)

  filter_as : (row : JobRecord) (kind : Kind) → HasFilterOf t row kind → HasFilterOf now (f row) kind
  filter_as row kind g = record {
    filter = g.filter;
    is_filter = (says row).filter ∙ g.is_filter;
    node = g.node;
    there = found_as g.filter ∙ g.there;
    kind_is = g.kind_is;
    over = child_as g.filter Filtered ∙ g.over ∙ ap Some (sym (says row).source);
  }

  copy_as : (row : JobRecord) (kind : Kind) → CopyStands t row kind → CopyStands now (f row) kind
  copy_as row kind c = record {
    filter = filter_as row kind c.filter;
    target = c.target;
    is_target = (says row).target ∙ c.is_target;
    held = (says row).held ∙ c.held ∙ ap (λ n. n ∷ c.target ∷ []) (sym (says row).source);
    read = (says row).read ∙ c.read;
    other = λ same. c.other (same ∙ (says row).source);
  }

  shape_as : (row : JobRecord) (k : JobKind) → StandsByKind t row k → StandsByKind now (f row) k
  shape_as row Stream s = record {
    bare = (says row).filter ∙ s.bare;
    held = (says row).held ∙ s.held ∙ ap (λ n. n ∷ []) (sym (says row).source);
    reads = λ base is.
        let r = s.reads base (sym (says row).target ∙ is) in
        record {
          between = r.between;
          read = (says row).read ∙ r.read;
          linked = subst (λ n. AreLinked now n (r.between ++ base ∷ [])) (sym (says row).source) (links_as row.source (r.between ++ base ∷ []) r.linked);
        };
    below = λ n is.
        subst (λ ids. Contains ids n) (sym (says row).read)
        (s.below n (sym (child_as row.source Backing) ∙ subst (λ k. child now k Backing ≡ Some n) (says row).source is));
  }
  shape_as row Commit s = record {
    filter = filter_as row driver.Commit s.filter;
    base = s.base;
    is_base = (says row).target ∙ s.is_base;
    between = s.between;
    held = (says row).held ∙ s.held ∙ ap (λ n. n ∷ s.between ++ s.base ∷ []) (sym (says row).source);
    linked = subst (λ n. AreLinked now n (s.between ++ s.base ∷ [])) (sym (says row).source) (links_as row.source (s.between ++ s.base ∷ []) s.linked);
    overlay = subst (λ ids. IsOverFilter now ids (f row).filter) (sym (says row).read)
        (subst (IsOverFilter now row.read) (sym (says row).filter) (overlay_as row.read s.overlay));
  }
    where
      overlay_as : (ids : List ℕ) → IsOverFilter t ids row.filter → IsOverFilter now ids row.filter
      overlay_as [] is = tt
      overlay_as (overlay ∷ ids) is = (child_as overlay Backing ∙ is.0, is.1)
  shape_as row Mirror s = copy_as row driver.Mirror s
  shape_as row Backup s = copy_as row driver.BeforeWrite s

  nodes_of : (row : JobRecord) → nodes_of_job (f row) ≡ nodes_of_job row
  nodes_of row = ap (λ ids. ids ++ (f row).read) (says row).held ∙ ap (λ ids. row.held ++ ids) (says row).read

  stands_as : (row : JobRecord) → JobStands t row → JobStands now (f row)
  stands_as row s = record {
    slot = subst (λ n. n < 16) (sym (says row).slot) s.slot;
    plain = λ node held.
        plain_same t now node (found_as node) (formats-same t now node nodes) (λ over file. subst (λ es. HasFile es over node) edges file)
        (s.plain node (subst (λ ids. Contains ids node) (nodes_of row) held));
    edges = λ e own. subst (λ es. Contains es e) (sym edges) (s.edges e (subst (λ es. Contains es e) (says row).edges own));
    shape = subst (StandsByKind now (f row)) (sym (says row).kind) (shape_as row row.kind s.shape);
  }

  record IsOf (later : JobRecord) : Type 0 where
    row : JobRecord
    there : Contains t.jobs row
    is : later ≡ f row

  of_row : (later : JobRecord) → Contains now.jobs later → IsOf later
  of_row later there = let r = Contains-map f t.jobs later (subst (λ rows. Contains rows later) jobs there) in record { row = r.0; there = r.1; is = r.2 }

  to_row : (row : JobRecord) → Contains t.jobs row → Contains now.jobs (f row)
  to_row row there = subst (λ rows. Contains rows (f row)) (sym jobs) (map-Contains f t.jobs row there)

  same_copies : (rows : List JobRecord) → mirrors (map f rows) ≡ mirrors rows
  same_copies [] = refl
  same_copies (row ∷ rows) =
      ap (λ own. own ++ mirrors (map f rows)) (says row).copies ∙ ap (λ more. mirror_to row row.kind row.target ++ more) (same_copies rows)

  slot_of : (later : JobRecord) (r : IsOf later) → later.slot ≡ r.row.slot
  slot_of later r = ap (λ (x : JobRecord). x.slot) r.is ∙ (says r.row).slot

  pub same_jobs : JobsStand now
  same_jobs = record {
    each = λ later there. let r = of_row later there in subst (JobStands now) (sym r.is) (stands_as r.row (j.each r.row r.there));
    slots = λ a b at_a at_b same.
        let p = of_row a at_a in
        let q = of_row b at_b in
        p.is ∙ ap f (j.slots p.row q.row p.there q.there (sym (slot_of a p) ∙ same ∙ slot_of b q)) ∙ sym q.is;
    numbers = λ a b at_a at_b same.
        let p = of_row a at_a in
        let q = of_row b at_b in
        p.is ∙ ap f (j.numbers p.row q.row p.there q.there
        (sym (ap (λ (x : JobRecord). x.number) p.is ∙ (says p.row).number) ∙ same ∙ ap (λ (x : JobRecord). x.number) q.is ∙ (says q.row).number)) ∙ sym q.is;
    edges = λ e slot there is.
        let r = j.edges e slot (subst (λ es. Contains es e) edges there) is in
        record { row = f r.row; there = to_row r.row r.there; own = subst (λ es. Contains es e) (sym (says r.row).edges) r.own };
    apart = λ a b node at_a at_b held has.
        let p = of_row a at_a in
        let q = of_row b at_b in
        slot_of a p
        ∙ j.apart p.row q.row node p.there q.there (subst (λ ids. Contains ids node) (ap (λ (x : JobRecord). x.held) p.is ∙ (says p.row).held) held)
        (subst (λ ids. Contains ids node) (ap nodes_of_job q.is ∙ nodes_of q.row) has)
        ∙ sym (slot_of b q);
    filters = λ node there is.
        let r = j.filters node (subst (λ ns. Contains ns node) nodes there) is in
        record {
          row = f r.row;
          there = to_row r.row r.there;
          filter = (says r.row).filter ∙ r.filter;
          kind = ap filter_kind (says r.row).kind ∙ r.kind;
        };
    copies = subst (AreApart now.edges) (sym (ap mirrors jobs ∙ same_copies t.jobs)) (subst (λ es. AreApart es (mirrors t.jobs)) (sym edges) j.copies);
  }

-- ---- asked, or ready

same_asked : (a : AskedEnd) (row : JobRecord) → SaysSame row (record row { asked = a })
same_asked a row = record {
  number = refl;
  slot = refl;
  kind = refl;
  source = refl;
  target = refl;
  filter = refl;
  held = refl;
  read = refl;
  edges = by_kind row.kind;
  copies = copies_by row.kind row.target;
}
  where
    by_kind : (k : JobKind) → edges_by (record row { asked = a }) k ≡ edges_by row k
    by_kind Stream = refl
    by_kind Commit = refl
    by_kind Mirror = refl
    by_kind Backup = refl

    copies_by : (k : JobKind) (target : Option ℕ) → mirror_to (record row { asked = a }) k target ≡ mirror_to row k target
    copies_by Mirror (Some target) = refl
    copies_by Mirror None = refl
    copies_by Stream target = refl
    copies_by Commit target = refl
    copies_by Backup target = refl

same_ready : (row : JobRecord) → SaysSame row (record row { is_ready = true })
same_ready row = record {
  number = refl;
  slot = refl;
  kind = refl;
  source = refl;
  target = refl;
  filter = refl;
  held = refl;
  read = refl;
  edges = by_kind row.kind;
  copies = copies_by row.kind row.target;
}
  where
    by_kind : (k : JobKind) → edges_by (record row { is_ready = true }) k ≡ edges_by row k
    by_kind Stream = refl
    by_kind Commit = refl
    by_kind Mirror = refl
    by_kind Backup = refl

    copies_by : (k : JobKind) (target : Option ℕ) → mirror_to (record row { is_ready = true }) k target ≡ mirror_to row k target
    copies_by Mirror (Some target) = refl
    copies_by Mirror None = refl
    copies_by Stream target = refl
    copies_by Commit target = refl
    copies_by Backup target = refl

same_itself : (row : JobRecord) → SaysSame row row
same_itself row = record {
  number = refl;
  slot = refl;
  kind = refl;
  source = refl;
  target = refl;
  filter = refl;
  held = refl;
  read = refl;
  edges = refl;
  copies = refl;
}

pub asked_jobs : (t : RunTable) (number : ℕ) (new : AskedEnd) → JobsStand t → JobsStand (changed t (change.AskJob number new))
unfolding changed
asked_jobs t number new j = same_jobs t (changed t (change.AskJob number new)) (asked_for number new) says refl refl refl j
  where
    says : (row : JobRecord) → SaysSame row (asked_for number new row)
    says row = by_test (row.number == number)
      where
        by_test : (b : Bool) → SaysSame row (cond b (record row { asked = followed row.asked new }) row)
        by_test true = same_asked (followed row.asked new) row
        by_test false = same_itself row

pub ready_jobs : (t : RunTable) (number : ℕ) → JobsStand t → JobsStand (changed t (change.ReadyJob number))
unfolding changed
ready_jobs t number j = same_jobs t (changed t (change.ReadyJob number)) (ready_for number) says refl refl refl j
  where
    says : (row : JobRecord) → SaysSame row (ready_for number row)
    says row = by_test (row.number == number)
      where
        by_test : (b : Bool) → SaysSame row (cond b (record row { is_ready = true }) row)
        by_test true = same_ready row
        by_test false = same_itself row

-- ---- snapshots

module _ (t : RunTable) (j : JobsStand t) (node overlay : ℕ) (free : LeavesBySnapshot t node overlay) where
  abbrev attached : RunTable
  attached = changed t (change.Attach overlay node)

  abbrev moved_over : RunTable
  moved_over = changed attached (change.Move node overlay overlay)

  abbrev snapped : List Change
  snapped = change.Attach overlay node ∷ change.Move node overlay overlay ∷ []

  others : OthersStand t None
  others = record {
    each = j.each;
    slots = j.slots;
    numbers = j.numbers;
    edges = j.edges;
    apart = j.apart;
    filters = λ n there is. inr (j.filters n there is);
  }

  attached_stand : OthersStand attached None
  unfolding changed
  attached_stand =
      let same = rebase_others t overlay (Some node) others (record {
        none = λ b below there has is which. free.overlay_free.held b there has;
        off = λ b there same. free.overlay_free.held b there (subst (Contains (nodes_of_job b)) same (source_of t None others b there));
      }) in
      record {
        each = λ b here. like_stands b (same.each b here);
        slots = same.slots;
        numbers = same.numbers;
        edges = λ e slot there is. let r = same.edges e slot there is in record { row = r.row; there = r.there; own = r.own };
        apart = same.apart;
        filters = λ n there is. elim (same.filters n there is) [
          | inl none ↦ inl none
          | inr r ↦ inr (record { row = r.row; there = r.there; filter = r.filter; kind = r.kind })
        ];
      }
    where
      like_stands : (b : JobRecord) → JobStands (changed t (change.Rebase overlay (Some node))) b → JobStands (changed t (change.Attach overlay node)) b
      like_stands b s = s

  node_nobodys : IsNobodys attached.jobs node
  unfolding changed
  node_nobodys = record { held = free.node_free.held; filter = free.node_free.filter }

  overlay_nobodys : IsNobodys attached.jobs overlay
  unfolding changed
  overlay_nobodys = record { held = free.overlay_free.held; filter = free.overlay_free.filter }

  moved_stand : OthersStand moved_over None
  moved_stand = move_others attached node overlay overlay attached_stand node_nobodys overlay_nobodys

  -- an edge of the new list, as it was
  abbrev put : List Edge
  put = with_edge (node_edge overlay Backing node) t.edges

  record IsSnapped (e : Edge) : Type 0 where
    edge : Edge
    there : Contains t.edges edge ⊎ (edge ≡ node_edge overlay Backing node)
    parent : e.parent ≡ edge.parent
    child : (e.child ≡ edge.child) ⊎ ((e.child ≡ overlay) × (edge.child ≡ node) × (edge.parent ≢ Node overlay))

  snapped_cases : (e : Edge) → Contains moved_over.edges e → IsSnapped e
  unfolding changed
  snapped_cases e there =
      let a = refreshed-old (kinds_of t.nodes) (with_replaced node overlay (Some (Node overlay)) attached.edges) e there in
      let b = Contains-map (replaced node overlay (Some (Node overlay))) attached.edges a.edge a.there in
      let c = refreshed-old (kinds_of t.nodes) put b.0 b.1 in
      record {
        edge = c.edge;
        there = elim (Contains-with_edge (node_edge overlay Backing node) t.edges c.edge c.there) [ inl own ↦ inr own | inr old ↦ inl old ];
        parent = sym a.same.parent ∙ ap (λ (x : Edge). x.parent) b.2 ∙ replaced-parent node overlay (Some (Node overlay)) b.0 ∙ sym c.same.parent;
        child = by_test b.0 a.edge b.2 (b.0.child == node && not (stays (Some (Node overlay)) b.0.parent)) refl c.edge c.same.child c.same.parent a.same.child;
      }
    where
      by_test : (x y : Edge) → y ≡ replaced node overlay (Some (Node overlay)) x → (b : Bool) → (x.child == node && not (stays (Some (Node overlay)) x.parent)) ≡ b
          → (w : Edge) → w.child ≡ x.child → w.parent ≡ x.parent → y.child ≡ e.child → (e.child ≡ w.child) ⊎ ((e.child ≡ overlay) × (w.child ≡ node) × (w.parent ≢ Node overlay))
      by_test x y is true test w child parent to =
          let shape : replaced node overlay (Some (Node overlay)) x ≡ with_child overlay x = rw test refl in
          let moves : not (stays (Some (Node overlay)) x.parent) ≡ true = and-right (x.child == node) (not (stays (Some (Node overlay)) x.parent)) test in
          inr (
            sym to ∙ ap (λ (z : Edge). z.child) (is ∙ shape),
            child ∙ eqb-true x.child node (and-left (x.child == node) (not (stays (Some (Node overlay)) x.parent)) test),
            λ own. false≢true (sym (ap (λ p. not (stays (Some (Node overlay)) p)) (sym parent ∙ own) ∙ own_stays) ∙ moves),
          )
        where
          own_stays : not (stays (Some (Node overlay)) (Node overlay)) ≡ false
          own_stays = rw (eq-eqb overlay overlay refl) refl
      by_test x y is false test w child parent to =
          let shape : replaced node overlay (Some (Node overlay)) x ≡ x = rw test refl in
          inl (sym to ∙ ap (λ (z : Edge). z.child) (is ∙ shape) ∙ sym child)

  -- from another node than the overlay
  first_hop : (e : Edge) (a : ℕ) → a ≢ overlay → Contains moved_over.edges e → e.parent ≡ Node a
      → (Reaches t.edges a e.child × (e.child ≢ overlay)) ⊎ ((e.child ≡ overlay) × Reaches t.edges a node)
  first_hop e a off there from = by_cases (snapped_cases e there)
    where
      not_own : (w : Edge) → e.parent ≡ w.parent → Contains t.edges w ⊎ (w ≡ node_edge overlay Backing node) → Contains t.edges w
      not_own w parent (inl old) = old
      not_own w parent (inr own) =
          absurd (off (let both : Node a ≡ Node overlay = sym from ∙ parent ∙ ap (λ (x : Edge). x.parent) own in let one : a ≡ overlay = cc both in one))

      by_cases : IsSnapped e → (Reaches t.edges a e.child × (e.child ≢ overlay)) ⊎ ((e.child ≡ overlay) × Reaches t.edges a node)
      by_cases c =
          let old : Contains t.edges c.edge = not_own c.edge c.parent c.there in
          let way : Reaches t.edges a c.edge.child = Reaches-edge t.edges a c.edge old (sym c.parent ∙ from) in
          elim c.child [
            | inl same ↦ inl (subst (Reaches t.edges a) (sym same) way, λ to. free.alone c.edge old (sym same ∙ to))
            | inr over ↦ inr (over.0, subst (Reaches t.edges a) over.1 way)
          ]

  -- from the overlay
  over_hop : (e : Edge) → Contains moved_over.edges e → e.parent ≡ Node overlay → (e.child ≡ node) ⊎ (Reaches t.edges overlay e.child × (e.child ≢ overlay))
  over_hop e there from = by_cases (snapped_cases e there)
    where
      by_cases : IsSnapped e → (e.child ≡ node) ⊎ (Reaches t.edges overlay e.child × (e.child ≢ overlay))
      by_cases c = elim c.child [
        | inr over ↦ absurd (over.2 (sym c.parent ∙ from))
        | inl same ↦ elim c.there [
          | inr own ↦ inl (same ∙ ap (λ (x : Edge). x.child) own)
          | inl old ↦ inr (subst (Reaches t.edges overlay) (sym same) (Reaches-edge t.edges overlay c.edge old (sym c.parent ∙ from)), λ to. free.alone c.edge old (sym same ∙ to))
        ]
      ]

  -- a way that doesn't begin or end at the overlay, nor below it, was there
  way_was : (e : Edge) (path : List Edge) (a z : ℕ) → a ≢ overlay → z ≢ overlay → (Reaches t.edges overlay z → ⊥) → IsPath moved_over.edges a (e ∷ path) z → Reaches t.edges a z
  way_was e [] a z off to below h = elim (first_hop e a off h.0 h.1) [
    | inl way ↦ subst (Reaches t.edges a) h.2 way.0
    | inr over ↦ absurd (to (sym h.2 ∙ over.0))
  ]
  way_was e (g ∷ []) a z off to below h = elim (first_hop e a off h.0 h.1) [
    | inl way ↦ Reaches-joined t.edges a e.child z way.0 (way_was g [] e.child z way.1 to below h.2)
    | inr over ↦ elim (over_hop g h.2.0 (h.2.1 ∙ ap Node over.0)) [
      | inl at ↦ subst (Reaches t.edges a) (sym at ∙ h.2.2) over.1
      | inr down ↦ absurd (below (subst (Reaches t.edges overlay) h.2.2 down.0))
    ]
  ]
  way_was e (g ∷ (k ∷ more)) a z off to below h = elim (first_hop e a off h.0 h.1) [
    | inl way ↦ Reaches-joined t.edges a e.child z way.0 (way_was g (k ∷ more) e.child z way.1 to below h.2)
    | inr over ↦ elim (over_hop g h.2.0 (h.2.1 ∙ ap Node over.0)) [
      | inl at ↦ Reaches-joined t.edges a node z over.1 (way_was k more node z free.other to below (subst (λ n. IsPath moved_over.edges n (k ∷ more) z) at h.2.2))
      | inr down ↦ absurd (below (Reaches-joined t.edges overlay g.child z down.0 (way_was k more g.child z down.1 to below h.2.2)))
    ]
  ]

  apart_snapped : (copies : List Copied) → ((x : Copied) → Contains copies x → x.target ≢ overlay)
      → ((x : Copied) → Contains copies x → (x.source ≢ overlay) × (Reaches t.edges overlay x.source → ⊥))
      → AreApart t.edges copies → AreApart moved_over.edges copies
  apart_snapped [] targets sources h = tt
  apart_snapped (m ∷ later) targets sources h =
      let own = sources m (Contains-here m later) in (
        λ x there. (λ way. (h.0 x there).0 (way_was way.first way.rest x.target m.source (targets x there) own.0 own.1 way.path), (h.0 x there).1),
        apart_snapped later (λ x there. targets x (Contains-there m later x there)) (λ x there. sources x (Contains-there m later x there)) h.1,
      )

  pub snapshots_leave_jobs : JobsStand (all_changed t snapped)
  unfolding changed
  snapshots_leave_jobs = record {
    each = moved_stand.each;
    slots = moved_stand.slots;
    numbers = moved_stand.numbers;
    edges = moved_stand.edges;
    apart = moved_stand.apart;
    filters = λ n there is. elim (moved_stand.filters n there is) [
      | inl none ↦ absurd (let bad : None ≡ Some n.id = none in cc bad)
      | inr own ↦ own
    ];
    copies = apart_snapped (mirrors t.jobs)
        (λ x there same.
        let r = mirror_row t.jobs x there in
        let c : CopyStands t r.0 driver.Mirror = subst (StandsByKind t r.0) r.2 (j.each r.0 r.1).shape in
        let is : c.target ≡ x.target = let both : Some c.target ≡ Some x.target = sym c.is_target ∙ r.3 in cc both in
        free.overlay_free.held r.0 r.1 (in_left r.0.held r.0.read overlay (subst (Contains r.0.held) (is ∙ same) (copy_holds t r.0 driver.Mirror c))))
        (λ x there.
        let r = mirror_row t.jobs x there in (
          λ same. free.overlay_free.held r.0 r.1 (in_left r.0.held r.0.read overlay (subst (Contains r.0.held) (r.4 ∙ same) (holds_source t r.0 (j.each r.0 r.1)))),
          λ way. free.below r.0 r.1 (subst (Reaches t.edges overlay) (sym r.4) way),
        ))
        j.copies;
  }
