-- Jobs stand in a table to which other nodes and guests come, or from which they go.
use Rattle.std.proofs.Common.{◌≡◌, ℕ, List, [], ◌∷◌, ◌++◌, refl, sym, ◌∙◌, ap, subst, inl, inr, true, Option, Some, None}
use Rattle.std.specs.Prelude.{◌==◌, IsSome}
use Rattle.std.specs.List.{Contains}
use Rattle.std.proofs.lemmas.Bool.{false≢true, eqb-true}
use Rattle.blk_graph.specs.declared.edge.Edge.{Edge}
use Rattle.blk_graph.specs.declared.edge.Parent.{Parent}
use Rattle.blk_graph.specs.declared.edge.Parent.TheVariants.{Node, Guest, Job}
use Rattle.blk_graph.specs.declared.edge.Role.TheVariants.{File, Backing, Filtered}
use Rattle.blk_graph.specs.declared.kind.Kind.{Kind}
use Rattle.blk_graph.specs.declared.kind.Kind.TheVariants as driver
use Rattle.blk_graph.specs.declared.kind.NodeKind.{NodeKind}
use Rattle.blk_graph.specs.Edges.{is_job}
use Rattle.blk_graph.specs.Paths.{IsPath, Reaches}
use Rattle.blk_graph.specs.Refreshed.{uses_into, ruled, ruled_from, turned, refreshed}
use Rattle.blk_graph.proofs.Members.{find-Some, Contains-nil, Contains-here, Contains-there, Contains-cases, Contains-map, map-Contains}
use Rattle.blk_graph.proofs.PathLemmas.{Reaches-edge, Reaches-joined}
use Rattle.blk_graph.proofs.RefreshLemmas.{refreshed-by, ruled-same}
use Rattle.qmp_codec.specs.declared.event.JobKind.{JobKind}
use Rattle.qmp_codec.specs.declared.event.JobKind.TheVariants.{Stream, Commit, Mirror, Backup}
use Rattle.qmp_rules.specs.declared.rows.NodeRecord.{NodeRecord}
use Rattle.qmp_rules.specs.declared.rows.JobRecord.{JobRecord}
use Rattle.qmp_rules.specs.Chains.{filter_role}
use Rattle.qmp_rules.specs.Table.{RunTable, node_by_id}
use Rattle.flat_machine.specs.Suiting.{IsPlainNode}
use Rattle.flat_machine.proofs.Rows.{BothAt}
use Rattle.flat_machine.proofs.Wired.{Grows}
use Rattle.job_edges.specs.Copies.{Copied, AreApart}
use Rattle.job_edges.specs.Held.{is_job_filter}
use Rattle.job_tables.specs.Rows.{nodes_of_job, AreLinked, HasFilterOf, mirror_to, mirrors}
use Rattle.job_tables.specs.Jobs.{CopyStands, IsOverFilter, StandsByKind, JobsStand}
use Rattle.job_tables.proofs.RowEdges.{in_left, in_right, in_either, copy_holds, holds_source, edge_slot}

-- ---- edges of jobs are never derived

pub record HaveSameJobEdges (t now : RunTable) : Type 0 where
  pub kept : (e : Edge) → Contains t.edges e → is_job e.parent ≡ true → Contains now.edges e
  pub back : (e : Edge) → Contains now.edges e → is_job e.parent ≡ true → Contains t.edges e

job_ruled : (kinds : List NodeKind) (above : ℕ → _) (e : Edge) → is_job e.parent ≡ true → ruled kinds above e ≡ e
job_ruled kinds above e is = by_parent e.parent is
  where
    by_parent : (p : Parent) → is_job p ≡ true → ruled_from kinds above e p ≡ e
    by_parent (Job n) h = refl
    by_parent (Node n) h = absurd (false≢true h)
    by_parent (Guest n) h = absurd (false≢true h)

pub refreshed_jobs : (kinds : List NodeKind) (edges : List Edge) (e : Edge) → is_job e.parent ≡ true → Contains edges e → Contains (refreshed kinds edges) e
refreshed_jobs kinds edges e is there =
    refreshed-by kinds (λ now. Contains now e)
    (λ now h. subst (Contains (turned kinds now)) (job_ruled kinds (uses_into now) e is) (map-Contains (ruled kinds (uses_into now)) now e h)) edges there

pub refreshed_jobs_back : (kinds : List NodeKind) (edges : List Edge) (e : Edge) → is_job e.parent ≡ true → Contains (refreshed kinds edges) e → Contains edges e
refreshed_jobs_back kinds edges e is there =
    refreshed-by kinds Back step edges (λ x at job. at) e there is
  where
    Back : List Edge → Type 0
    Back now = (x : Edge) → Contains now x → is_job x.parent ≡ true → Contains edges x

    step : (now : List Edge) → Back now → Back (turned kinds now)
    step now h x at job =
        let r = Contains-map (ruled kinds (uses_into now)) now x at in
        let own : is_job r.0.parent ≡ true
        = ap is_job (sym (ruled-same kinds (uses_into now) r.0).parent) ∙ ap (λ (y : Edge). is_job y.parent) (sym r.2) ∙ job in
        subst (Contains edges) (sym (r.2 ∙ job_ruled kinds (uses_into now) r.0 own)) (h r.0 r.1 own)

-- ---- mirrors' targets

pub mirror_row : (rows : List JobRecord) (x : Copied) → Contains (mirrors rows) x
    → (row : JobRecord) × Contains rows row × (row.kind ≡ Mirror) × (row.target ≡ Some x.target) × (row.source ≡ x.source)
mirror_row [] x there = absurd (Contains-nil x there)
mirror_row (row ∷ rows) x there = elim (in_either (mirror_to row row.kind row.target) (mirrors rows) x there) [
  | inl own ↦
      let is = of_row row.kind row.target own in
      (row, Contains-here row rows, is.0, is.1, is.2)
  | inr more ↦ let r = mirror_row rows x more in (r.0, Contains-there row rows r.0 r.1, r.2, r.3, r.4)
]
  where
    of_row : (k : JobKind) (target : Option ℕ) → Contains (mirror_to row k target) x → (k ≡ Mirror) × (target ≡ Some x.target) × (row.source ≡ x.source)
    of_row Mirror (Some target) at = elim (Contains-cases (record { source = row.source; target = target }) [] x at) [
      | inl here ↦ (refl, ap Some (sym (ap (λ (c : Copied). c.target) here)), sym (ap (λ (c : Copied). c.source) here))
      | inr more ↦ absurd (Contains-nil x more)
    ]
    of_row Mirror None at = absurd (Contains-nil x at)
    of_row Stream target at = absurd (Contains-nil x at)
    of_row Commit target at = absurd (Contains-nil x at)
    of_row Backup target at = absurd (Contains-nil x at)

-- ---- jobs stay

module _ (t now : RunTable) (P : ℕ → Type 0) (IsNewRow : NodeRecord → Type 0) (IsNewEdge : Edge → Type 0) (g : Grows t now P IsNewRow IsNewEdge)
    (j : JobsStand t) (jobs : now.jobs ≡ t.jobs) (same : HaveSameJobEdges t now)
    (stay : (row : JobRecord) (node : ℕ) → Contains t.jobs row → Contains (nodes_of_job row) node → P node)
    (filters : (row : JobRecord) (node : ℕ) → Contains t.jobs row → row.filter ≡ Some node → P node)
    (no_filter : (row : NodeRecord) → IsNewRow row → is_job_filter row.kind ≡ true → ⊥)
    (from : (e : Edge) (node : ℕ) → IsNewEdge e → e.parent ≡ Node node → P node → ⊥)
    (over : (e : Edge) (row : JobRecord) (node : ℕ) (below : NodeRecord) → IsNewEdge e → e.role ≡ File → Contains t.jobs row
    → Contains (nodes_of_job row) node → e.child ≡ node → node_by_id t node ≡ Some below → IsSome below.filename → ⊥) where
  plain_still : (row : JobRecord) → Contains t.jobs row → (node : ℕ) → Contains (nodes_of_job row) node → IsPlainNode now node
  plain_still row here node held = record {
    row = b.later;
    there = b.found_later;
    own = ap filter_role (b.like.kind ∙ ap (λ (r : NodeRecord). r.kind) same_row) ∙ p.own;
    free = λ r x found named f own.
        let is_later : r ≡ b.later = let both : Some r ≡ Some b.later = sym found ∙ b.found_later in cc both in
        let file : IsSome p.row.filename
        = subst IsSome (ap (λ (x : NodeRecord). x.filename) is_later ∙ b.like.filename ∙ ap (λ (x : NodeRecord). x.filename) same_row) named in
        let at : r.id ≡ node = eqb-true r.id node (find-Some (λ (y : NodeRecord). y.id == node) now.nodes r found).1 in
        elim (g.edges f.edge f.there) [
          | inr new ↦ over f.edge row node p.row new f.role here held (f.child ∙ at) p.there file
          | inl old ↦
              let from : old.edge.parent ≡ Node x.id = old.same.parent ∙ f.parent in
              elim (g.rows x f.over_there) [
                | inr new ↦ g.others x new (old.parent x.id from)
                | inl was ↦
                    p.free p.row was.row p.there file
                    (record {
                      over_there = was.there;
                      under_there = row_there;
                      edge = old.edge;
                      there = old.there;
                      parent = from ∙ ap Node was.like.id;
                      role = old.same.role ∙ f.role;
                      child = old.same.child ∙ f.child ∙ at ∙ sym row_id;
                    })
                    (sym (ap filter_role was.like.kind) ∙ own)
              ]
        ];
  }
    where
      p : IsPlainNode t node
      p = (j.each row here).plain node held

      b : BothAt t now node
      b = g.stays node (stay row node here held)

      row_there : Contains t.nodes p.row
      row_there = (find-Some (λ (y : NodeRecord). y.id == node) t.nodes p.row p.there).0

      row_id : p.row.id ≡ node
      row_id = eqb-true p.row.id node (find-Some (λ (y : NodeRecord). y.id == node) t.nodes p.row p.there).1

      same_row : b.row ≡ p.row
      same_row = let both : Some b.row ≡ Some p.row = sym b.found ∙ p.there in cc both

  -- a way from a node that stays was there
  way_was : (e : Edge) (path : List Edge) (a z : ℕ) → P a → IsPath now.edges a (e ∷ path) z → Reaches t.edges a z
  way_was e [] a z at h = elim (g.edges e h.0) [
    | inl old ↦ subst (Reaches t.edges a) (old.same.child ∙ h.2) (Reaches-edge t.edges a old.edge old.there (old.same.parent ∙ h.1))
    | inr new ↦ absurd (from e a new h.1 at)
  ]
  way_was e (f ∷ more) a z at h = elim (g.edges e h.0) [
    | inl old ↦
        Reaches-joined t.edges a e.child z
        (subst (Reaches t.edges a) old.same.child (Reaches-edge t.edges a old.edge old.there (old.same.parent ∙ h.1)))
        (way_was f more e.child z (subst P old.same.child old.child) h.2)
    | inr new ↦ absurd (from e a new h.1 at)
  ]

  apart_still : (copies : List Copied) → ((x : Copied) → Contains copies x → P x.target) → AreApart t.edges copies → AreApart now.edges copies
  apart_still [] there h = tt
  apart_still (m ∷ later) there h = (
    λ x at. (λ way. (h.0 x at).0 (way_was way.first way.rest x.target m.source (there x at) way.path), (h.0 x at).1),
    apart_still later (λ x at. there x (Contains-there m later x at)) h.1,
  )

  links_still : (node : ℕ) (ids : List ℕ) → P node → AreLinked t node ids → AreLinked now node ids
  links_still node [] at l = tt
  links_still node (below ∷ ids) at l =
      (g.children node Backing at ∙ l.0, links_still below ids (g.goes node below Backing at l.0) l.1)

  filter_still : (row : JobRecord) → Contains t.jobs row → (kind : Kind) → HasFilterOf t row kind → HasFilterOf now row kind
  filter_still row here kind f =
      let b : BothAt t now f.filter = g.stays f.filter (filters row f.filter here f.is_filter) in
      record {
        filter = f.filter;
        is_filter = f.is_filter;
        node = b.later;
        there = b.found_later;
        kind_is = b.like.kind ∙ ap (λ (x : NodeRecord). x.kind) (let both : Some b.row ≡ Some f.node = sym b.found ∙ f.there in let one : b.row ≡ f.node = cc both in one) ∙ f.kind_is;
        over = g.children f.filter Filtered (filters row f.filter here f.is_filter) ∙ f.over;
      }

  source_stays : (row : JobRecord) → Contains t.jobs row → P row.source
  source_stays row here = stay row row.source here (in_left row.held row.read row.source (holds_source t row (j.each row here)))

  copy_still : (row : JobRecord) → Contains t.jobs row → (kind : Kind) → CopyStands t row kind → CopyStands now row kind
  copy_still row here kind c = record {
    filter = filter_still row here kind c.filter;
    target = c.target;
    is_target = c.is_target;
    held = c.held;
    read = c.read;
    other = c.other;
  }

  shape_still : (row : JobRecord) → Contains t.jobs row → (k : JobKind) → StandsByKind t row k → StandsByKind now row k
  shape_still row here Stream s = record {
    bare = s.bare;
    held = s.held;
    reads = λ base is.
        let r = s.reads base is in
        record { between = r.between; read = r.read; linked = links_still row.source (r.between ++ base ∷ []) (source_stays row here) r.linked };
    below = λ n is. s.below n (sym (g.children row.source Backing (source_stays row here)) ∙ is);
  }
  shape_still row here Commit s = record {
    filter = filter_still row here driver.Commit s.filter;
    base = s.base;
    is_base = s.is_base;
    between = s.between;
    held = s.held;
    linked = links_still row.source (s.between ++ s.base ∷ []) (source_stays row here) s.linked;
    overlay = overlay_still row.read (λ node at. stay row node here (in_right row.held row.read node at)) s.overlay;
  }
    where
      overlay_still : (ids : List ℕ) → ((node : ℕ) → Contains ids node → P node) → IsOverFilter t ids row.filter → IsOverFilter now ids row.filter
      overlay_still [] at is = tt
      overlay_still (overlay ∷ ids) at is = (g.children overlay Backing (at overlay (Contains-here overlay ids)) ∙ is.0, is.1)
  shape_still row here Mirror s = copy_still row here driver.Mirror s
  shape_still row here Backup s = copy_still row here driver.BeforeWrite s

  was_job : (row : JobRecord) → Contains now.jobs row → Contains t.jobs row
  was_job row here = subst (λ rows. Contains rows row) jobs here

  is_jobs : (e : Edge) (slot : ℕ) → e.parent ≡ Job slot → is_job e.parent ≡ true
  is_jobs e slot is = ap is_job is

  pub grown_jobs : JobsStand now
  grown_jobs = record {
    each = λ row here.
        let was = was_job row here in
        let stands = j.each row was in
        record {
          slot = stands.slot;
          plain = plain_still row was;
          edges = λ e own. same.kept e (stands.edges e own) (is_jobs e row.slot (edge_slot row e own));
          shape = shape_still row was row.kind stands.shape;
        };
    slots = λ a b at_a at_b. j.slots a b (was_job a at_a) (was_job b at_b);
    numbers = λ a b at_a at_b. j.numbers a b (was_job a at_a) (was_job b at_b);
    edges = λ e slot there is.
        let r = j.edges e slot (same.back e there (is_jobs e slot is)) is in
        record { row = r.row; there = subst (λ rows. Contains rows r.row) (sym jobs) r.there; own = r.own };
    apart = λ a b node at_a at_b. j.apart a b node (was_job a at_a) (was_job b at_b);
    filters = λ node there is. elim (g.rows node there) [
      | inl old ↦
          let r = j.filters old.row old.there (ap is_job_filter (sym old.like.kind) ∙ is) in
          record {
            row = r.row;
            there = subst (λ rows. Contains rows r.row) (sym jobs) r.there;
            filter = r.filter ∙ ap Some (sym old.like.id);
            kind = r.kind ∙ ap Some (sym old.like.kind);
          }
      | inr new ↦ absurd (no_filter node new is)
    ];
    copies = subst (λ rows. AreApart now.edges (mirrors rows)) (sym jobs)
        (apart_still (mirrors t.jobs) target_stays j.copies);
  }
    where
      target_stays : (x : Copied) → Contains (mirrors t.jobs) x → P x.target
      target_stays x at =
          let r = mirror_row t.jobs x at in
          let c : CopyStands t r.0 driver.Mirror = subst (StandsByKind t r.0) r.2 (j.each r.0 r.1).shape in
          let is : c.target ≡ x.target = let both : Some c.target ≡ Some x.target = sym c.is_target ∙ r.3 in cc both in
          subst P is (stay r.0 c.target r.1 (in_left r.0.held r.0.read c.target (copy_holds t r.0 driver.Mirror c)))
