-- Jobs stand behind the start of one more.
use Rattle.std.proofs.Common.{◌≡◌, ◌≢◌, ◌⊎◌, ℕ, ◌<◌, List, [], ◌∷◌, ◌++◌, map, refl, sym, ◌∙◌, ap, subst, inl, inr, Bool, true, false, cond, Option, Some, None}
use Rattle.std.specs.Prelude.{◌==◌, IsSome}
use Rattle.std.specs.Option.{option_map}
use Rattle.std.specs.List.{Contains, find}
use Rattle.std.proofs.lemmas.List.{append_assoc}
use Rattle.blk_graph.specs.declared.edge.Edge.{Edge}
use Rattle.blk_graph.specs.declared.edge.Parent.TheVariants.{Node, Job}
use Rattle.blk_graph.specs.declared.edge.Role.{Role}
use Rattle.blk_graph.specs.declared.edge.Role.TheVariants.{Backing, Filtered}
use Rattle.blk_graph.specs.declared.kind.Kind.{Kind}
use Rattle.blk_graph.specs.declared.kind.Kind.TheVariants as driver
use Rattle.blk_graph.specs.Edges.{is_job}
use Rattle.blk_graph.specs.Edits.{takes_place}
use Rattle.blk_graph.specs.Paths.{Reaches}
use Rattle.blk_graph.proofs.CycleLemmas.{takes_place-parent}
use Rattle.blk_graph.proofs.Members.{Contains-nil, Contains-here, Contains-there, Contains-cases, Contains-map, map-Contains}
use Rattle.blk_graph.proofs.PathLemmas.{Reaches-edge}
use Rattle.blk_graph.proofs.RefreshLemmas.{child_of-refreshed}
use Rattle.qmp_codec.specs.declared.event.JobKind.{JobKind}
use Rattle.qmp_codec.specs.declared.event.JobKind.TheVariants.{Stream, Commit, Mirror, Backup}
use Rattle.qmp_rules.specs.declared.change.Change.{Change}
use Rattle.qmp_rules.specs.declared.change.Change.TheVariants as change
use Rattle.qmp_rules.specs.declared.rows.NodeRecord.{NodeRecord}
use Rattle.qmp_rules.specs.declared.rows.JobRecord.{JobRecord}
use Rattle.qmp_rules.specs.Changes.{changed, all_changed, node_changed, unsettled, writable}
use Rattle.qmp_rules.specs.Table.{RunTable, node_by_id, child, kinds_of}
use Rattle.flat_machine.specs.Suiting.{IsPlainNode}
use Rattle.flat_machine.specs.Wiring.{EdgesHaveEnds}
use Rattle.flat_machine.proofs.Tables.{HasLike, same-edge, pushed-cases, refreshed-old}
use Rattle.job_edges.specs.Copies.{Copied, IsApartFrom, AreApart}
use Rattle.job_tables.specs.Rows.{edges_of_job, nodes_of_job, AreLinked, HasFilterOf, mirror_to, mirrors}
use Rattle.job_tables.specs.Jobs.{CopyStands, IsOverFilter, StandsByKind, JobStands, filter_kind, JobsStand}
use Rattle.job_tables.proofs.NodeKinds.{found_mapped}
use Rattle.job_tables.proofs.RowEdges.{in_left, in_right, in_either, edge_slot}
use Rattle.job_tables.proofs.Kept.{HaveSameJobEdges, refreshed_jobs, refreshed_jobs_back}
use Rattle.job_tables.proofs.Plain.{HasFile, KeepsRow, formats-same, formats-mapped, plain-back, plain_same}
use Rattle.job_tables.proofs.Others.{OthersStand, RowStays, row_stays, unsettled_row, mapped_others, filter_same}
use Rattle.job_tables.proofs.Left.{LeadsAs, leads_then, apart_as}
use Rattle.job_tables.proofs.Uses.{UseOf, change_of, edge_of, Used, used_all, uses_by, uses_apart, edges_are}

-- ---- what comes first: files are used, nodes are unsettled, or may be written

-- a table that is like another one in all that jobs rest on
pub record IsLikeTable (t now : RunTable) : Type 0 where
  pub plain : (node : ℕ) → IsPlainNode t node → IsPlainNode now node
  pub absent : (node : ℕ) → node_by_id t node ≡ None → node_by_id now node ≡ None
  pub children : (node : ℕ) (role : Role) → child now node role ≡ child t node role
  pub jobs : now.jobs ≡ t.jobs
  pub leads : LeadsAs t.edges now.edges
  pub ends : EdgesHaveEnds t → EdgesHaveEnds now
  pub others : OthersStand t None → OthersStand now None

like_self : (t : RunTable) → IsLikeTable t t
like_self t = record {
  plain = λ node p. p;
  absent = λ node none. none;
  children = λ node role. refl;
  jobs = refl;
  leads = λ a e there from. Reaches-edge t.edges a e there from;
  ends = λ ends. ends;
  others = λ o. o;
}

like_then : (a b c : RunTable) → IsLikeTable a b → IsLikeTable b c → IsLikeTable a c
like_then a b c ab bc = record {
  plain = λ node p. bc.plain node (ab.plain node p);
  absent = λ node none. bc.absent node (ab.absent node none);
  children = λ node role. bc.children node role ∙ ab.children node role;
  jobs = bc.jobs ∙ ab.jobs;
  leads = leads_then a.edges b.edges c.edges ab.leads bc.leads;
  ends = λ ends. bc.ends (ab.ends ends);
  others = λ o. bc.others (ab.others o);
}

module _ (t now : RunTable) (f : NodeRecord → NodeRecord) (keeps : (row : NodeRecord) → KeepsRow row (f row)) (nodes : now.nodes ≡ map f t.nodes)
    (jobs : now.jobs ≡ t.jobs) (same : HaveSameJobEdges t now) (like : (e : Edge) → Contains now.edges e → HasLike t.edges e)
    (children : (node : ℕ) (role : Role) → child now node role ≡ child t node role) where
  found_as : (node : ℕ) → node_by_id now node ≡ option_map f (node_by_id t node)
  found_as node = found_mapped t now f (λ r. (keeps r).id) nodes node

  files_as : (node over : ℕ) → HasFile now.edges over node → HasFile t.edges over node
  files_as node over file =
      let x = like file.edge file.there in
      record {
        edge = x.edge;
        there = x.there;
        parent = x.same.parent ∙ file.parent;
        role = x.same.role ∙ file.role;
        child = x.same.child ∙ file.child;
      }

  some_as : (o : Option NodeRecord) → IsSome o → IsSome (option_map f o)
  some_as None some = some
  some_as (Some row) some = refl

  pub mapped_like : IsLikeTable t now
  mapped_like = record {
    plain = λ node p.
        plain-back t now node p (f p.row) (found_as node ∙ ap (option_map f) p.there) (keeps p.row) (formats-mapped t now f keeps nodes node) (files_as node);
    absent = λ node none. found_as node ∙ ap (option_map f) none;
    children = children;
    jobs = jobs;
    leads = λ a e there from.
        let x = like e there in
        subst (Reaches t.edges a) x.same.child (Reaches-edge t.edges a x.edge x.there (x.same.parent ∙ from));
    ends = λ ends e there.
        let x = like e there in
        let h = ends x.edge x.there in
        record {
          parent = λ node from. subst IsSome (sym (found_as node)) (some_as (node_by_id t node) (h.parent node (x.same.parent ∙ from)));
          child = subst IsSome (sym (found_as e.child)) (some_as (node_by_id t e.child) (subst (λ n. IsSome (node_by_id t n)) x.same.child h.child));
        };
    others = λ o. mapped_others t now f keeps nodes jobs same files_as children None o;
  }

abbrev pub IsBefore : Change → Type 0
IsBefore (change.UseFile name) = Unit {0}
IsBefore (change.Unsettle node) = Unit {0}
IsBefore (change.MakeWritable node) = Unit {0}
IsBefore c = ⊥

abbrev pub AreBefore : List Change → Type 0
AreBefore [] = Unit {0}
AreBefore (c ∷ changes) = IsBefore c × AreBefore changes

pub before-append : (a b : List Change) → AreBefore a → AreBefore b → AreBefore (a ++ b)
before-append [] b h k = k
before-append (c ∷ a) b h k = (h.0, before-append a b h.1 k)

maps_self : {X : Type 0} (xs : List X) → map (λ x. x) xs ≡ xs
maps_self [] = refl
maps_self (x ∷ xs) = ap (λ ys. x ∷ ys) (maps_self xs)

writable_row : (id : ℕ) (row : NodeRecord) → KeepsRow row (node_changed id writable row)
writable_row id row = by_test (row.id == id)
  where
    by_test : (b : Bool) → KeepsRow row (cond b (writable row) row)
    by_test true = record { id = refl; kind = refl; filename = refl }
    by_test false = record { id = refl; kind = refl; filename = refl }

before_like : (t : RunTable) (c : Change) → IsBefore c → IsLikeTable t (changed t c)
unfolding changed
before_like t (change.UseFile name) q =
    mapped_like t (changed t (change.UseFile name)) (λ r. r) (λ r. record { id = refl; kind = refl; filename = refl }) (sym (maps_self t.nodes)) refl
    (record { kept = λ e there is. there; back = λ e there is. there }) (λ e there. record { edge = e; there = there; same = same-edge e }) (λ n role. refl)
before_like t (change.Unsettle node) q =
    mapped_like t (changed t (change.Unsettle node)) (node_changed node unsettled) (unsettled_row node) refl refl
    (record { kept = λ e there is. there; back = λ e there is. there }) (λ e there. record { edge = e; there = there; same = same-edge e }) (λ n role. refl)
before_like t (change.MakeWritable node) q =
    let now : RunTable = changed t (change.MakeWritable node) in
    mapped_like t now (node_changed node writable) (writable_row node) refl refl
    (record { kept = λ e there is. refreshed_jobs (kinds_of now.nodes) t.edges e is there; back = λ e there is. refreshed_jobs_back (kinds_of now.nodes) t.edges e is there })
    (λ e there. refreshed-old (kinds_of now.nodes) t.edges e there) (λ n role. child_of-refreshed (kinds_of now.nodes) (Node n) role t.edges)
before_like t c q = absurd q

pub all_before : (changes : List Change) (t : RunTable) → AreBefore changes → IsLikeTable t (all_changed t changes)
all_before [] t q = like_self t
all_before (c ∷ changes) t q =
    like_then t (changed t c) (all_changed (changed t c) changes) (before_like t c q.0) (all_before changes (changed t c) q.1)

-- ---- mirrors of one more job

pub mirrors-push : (rows : List JobRecord) (row : JobRecord) → mirrors (rows ++ row ∷ []) ≡ mirrors rows ++ mirror_to row row.kind row.target
mirrors-push [] row = ends_in_none (mirror_to row row.kind row.target)
  where
    ends_in_none : (xs : List Copied) → xs ++ [] ≡ xs
    ends_in_none [] = refl
    ends_in_none (x ∷ xs) = ap (λ ys. x ∷ ys) (ends_in_none xs)
mirrors-push (r ∷ rows) row =
    ap (λ more. mirror_to r r.kind r.target ++ more) (mirrors-push rows row)
    ∙ sym (append_assoc (mirror_to r r.kind r.target) (mirrors rows) (mirror_to row row.kind row.target))

pub apart-push : (edges : List Edge) (copies : List Copied) (m : Copied) → AreApart edges copies → ((x : Copied) → Contains copies x → IsApartFrom edges x m)
    → IsApartFrom edges m m → AreApart edges (copies ++ m ∷ [])
apart-push edges [] m all earlier own = (
  λ x there. elim (Contains-cases m [] x there) [
    | inl same ↦ subst (λ (y : Copied). IsApartFrom edges m y) (sym same) own
    | inr none ↦ absurd (Contains-nil x none)
  ],
  tt,
)
apart-push edges (c ∷ copies) m all earlier own = (
  λ x there. elim (in_either (c ∷ copies) (m ∷ []) x there) [
    | inl old ↦ all.0 x old
    | inr new ↦ elim (Contains-cases m [] x new) [
      | inl same ↦ subst (λ (y : Copied). IsApartFrom edges c y) (sym same) (earlier c (Contains-here c copies))
      | inr none ↦ absurd (Contains-nil x none)
    ]
  ],
  apart-push edges copies m all.1 (λ x at. earlier x (Contains-there c copies x at)) own,
)

pub apart-none : (edges : List Edge) (copies : List Copied) → AreApart edges copies → AreApart edges (copies ++ [])
apart-none edges [] all = tt
apart-none edges (c ∷ copies) all = (
  λ x there. elim (in_either (c ∷ copies) [] x there) [
    | inl old ↦ all.0 x old
    | inr none ↦ absurd (Contains-nil x none)
  ],
  apart-none edges copies all.1,
)

-- by ways between the mirrors' nodes
pub apart_ways : (old new : List Edge) (copies : List Copied)
    → ((x m : Copied) → Contains copies x → Contains copies m → Reaches new x.target m.source → Reaches old x.target m.source)
    → AreApart old copies → AreApart new copies
apart_ways old new [] ways all = tt
apart_ways old new (m ∷ copies) ways all = (
  λ x there. (λ way. (all.0 x there).0 (ways x m there (Contains-here m copies) way), (all.0 x there).1),
  apart_ways old new copies (λ x y at_x at_y. ways x y (Contains-there m copies x at_x) (Contains-there m copies y at_y)) all.1,
)

-- ---- its row and its edges

module _ (t now : RunTable) (nodes : now.nodes ≡ t.nodes) (children : (node : ℕ) (role : Role) → child now node role ≡ child t node role) (row : JobRecord) where
  same_found : (node : ℕ) → node_by_id now node ≡ node_by_id t node
  same_found node = ap (find (λ r. r.id == node)) nodes

  same_links : (node : ℕ) (ids : List ℕ) → AreLinked t node ids → AreLinked now node ids
  same_links node [] l = tt
  same_links node (below ∷ ids) l = (children node Backing ∙ l.0, same_links below ids l.1)

  pub same_filter : (kind : Kind) → HasFilterOf t row kind → HasFilterOf now row kind
  same_filter kind g = filter_same t now row kind g (same_found g.filter) (children g.filter Filtered ∙ g.over)

  same_copy : (kind : Kind) → CopyStands t row kind → CopyStands now row kind
  same_copy kind c = record {
    filter = same_filter kind c.filter;
    target = c.target;
    is_target = c.is_target;
    held = c.held;
    read = c.read;
    other = c.other;
  }

  pub same_shape : (k : JobKind) → StandsByKind t row k → StandsByKind now row k
  same_shape Stream s = record {
    bare = s.bare;
    held = s.held;
    reads = λ base is.
        let r = s.reads base is in
        record { between = r.between; read = r.read; linked = same_links row.source (r.between ++ base ∷ []) r.linked };
    below = λ n is. s.below n (sym (children row.source Backing) ∙ is);
  }
  same_shape Commit s = record {
    filter = same_filter driver.Commit s.filter;
    base = s.base;
    is_base = s.is_base;
    between = s.between;
    held = s.held;
    linked = same_links row.source (s.between ++ s.base ∷ []) s.linked;
    overlay = same_overlay row.read s.overlay;
  }
    where
      same_overlay : (ids : List ℕ) → IsOverFilter t ids row.filter → IsOverFilter now ids row.filter
      same_overlay [] is = tt
      same_overlay (overlay ∷ ids) is = (children overlay Backing ∙ is.0, is.1)
  same_shape Mirror s = same_copy driver.Mirror s
  same_shape Backup s = same_copy driver.BeforeWrite s

module _ (t : RunTable) (row : JobRecord) (loose : Option ℕ) (o : OthersStand t loose) (slot : row.slot < 16)
    (own_slot : (b : JobRecord) → Contains t.jobs b → b.slot ≢ row.slot) (own_number : (b : JobRecord) → Contains t.jobs b → b.number ≢ row.number)
    (holds : (b : JobRecord) (node : ℕ) → Contains t.jobs b → Contains row.held node → Contains (nodes_of_job b) node → ⊥)
    (reads : (b : JobRecord) (node : ℕ) → Contains t.jobs b → Contains b.held node → Contains (nodes_of_job row) node → ⊥)
    (plain : (node : ℕ) → Contains (nodes_of_job row) node → IsPlainNode t node) (shape : StandsByKind t row row.kind)
    (filters : (node : NodeRecord) → Contains t.nodes node → loose ≡ Some node.id → (row.filter ≡ Some node.id) × (filter_kind row.kind ≡ Some node.kind))
    (copies : AreApart t.edges (mirrors (t.jobs ++ row ∷ []))) where
  abbrev with_row : RunTable
  with_row = changed t (change.StartJob row)

  abbrev uses : List UseOf
  uses = uses_by row row.kind

  abbrev now : RunTable
  now = all_changed with_row (map (change_of row.slot) uses)

  used : Used with_row now row.slot uses
  used = used_all uses with_row row.slot

  same_nodes : now.nodes ≡ t.nodes
  unfolding changed
  same_nodes = used.nodes

  same_children : (node : ℕ) (role : Role) → child now node role ≡ child t node role
  unfolding changed
  same_children node role = used.children node role

  jobs_now : now.jobs ≡ t.jobs ++ row ∷ []
  unfolding changed
  jobs_now = used.jobs

  files_now : (node over : ℕ) → HasFile now.edges over node → HasFile t.edges over node
  unfolding changed
  files_now node over file = used.files node over file

  leads_now : LeadsAs t.edges now.edges
  unfolding changed
  leads_now = used.leads

  kept_now : (e : Edge) → Contains t.edges e → is_job e.parent ≡ true
      → ((u : UseOf) → Contains uses u → takes_place (edge_of row.slot u) e ≡ true → edge_of row.slot u ≡ e) → Contains now.edges e
  unfolding changed
  kept_now e there is apart = used.kept e there is apart

  back_now : (e : Edge) → Contains now.edges e → is_job e.parent ≡ true → Contains t.edges e ⊎ ((u : UseOf) × Contains uses u × (e ≡ edge_of row.slot u))
  unfolding changed
  back_now e there is = used.back e there is

  plain_now : (node : ℕ) → IsPlainNode t node → IsPlainNode now node
  plain_now node p = plain_same t now node (ap (find (λ r. r.id == node)) same_nodes) (formats-same t now node same_nodes) (files_now node) p

  row_cases : (b : JobRecord) → Contains now.jobs b → Contains t.jobs b ⊎ (b ≡ row)
  row_cases b there = pushed-cases t.jobs row b (subst (λ rows. Contains rows b) jobs_now there)

  old_row : (b : JobRecord) → Contains t.jobs b → Contains now.jobs b
  old_row b there = subst (λ rows. Contains rows b) (sym jobs_now) (in_left t.jobs (row ∷ []) b there)

  new_row : Contains now.jobs row
  new_row = subst (λ rows. Contains rows row) (sym jobs_now) (in_right t.jobs (row ∷ []) row (Contains-here row []))

  old_stays : (b : JobRecord) → Contains t.jobs b → RowStays t now b
  old_stays b here =
      let stands = o.each b here in
      record {
        plain = λ node held. plain_now node (stands.plain node held);
        edges = λ e mine.
            let of : e.parent ≡ Job b.slot = edge_slot b e mine in
            kept_now e (stands.edges e mine) (ap is_job of) (λ u at taken.
            absurd (own_slot b here (let both : Job row.slot ≡ Job b.slot = takes_place-parent (edge_of row.slot u) e taken ∙ of in let one : row.slot ≡ b.slot = cc both in sym one)));
        links = λ node below held is which. same_children node Backing ∙ is;
        none = λ is. same_children b.source Backing ∙ is;
        filter = λ kind g. same_filter t now same_nodes same_children b kind g;
      }

  new_stands : JobStands now row
  new_stands = record {
    slot = slot;
    plain = λ node held. plain_now node (plain node held);
    edges = λ e mine.
        let r = Contains-map (edge_of row.slot) uses e (subst (λ es. Contains es e) (sym (edges_are row row.kind)) mine) in
        subst (Contains now.edges) (sym r.2) (used.own (uses_apart row row.kind) r.0 r.1);
    shape = same_shape t now same_nodes same_children row row.kind shape;
  }

  own_edge : (u : UseOf) → Contains uses u → Contains (edges_of_job row) (edge_of row.slot u)
  own_edge u at = subst (λ es. Contains es (edge_of row.slot u)) (edges_are row row.kind) (map-Contains (edge_of row.slot) uses u at)

  pub begun_jobs : JobsStand now
  begun_jobs = record {
    each = λ b there. elim (row_cases b there) [
      | inl old ↦ row_stays t now b (old_stays b old) (o.each b old)
      | inr new ↦ subst (JobStands now) (sym new) new_stands
    ];
    slots = λ a b at_a at_b same. elim (row_cases a at_a) [
      | inl p ↦ elim (row_cases b at_b) [
        | inl q ↦ o.slots a b p q same
        | inr q ↦ absurd (own_slot a p (same ∙ ap (λ (r : JobRecord). r.slot) q))
      ]
      | inr p ↦ elim (row_cases b at_b) [
        | inl q ↦ absurd (own_slot b q (sym same ∙ ap (λ (r : JobRecord). r.slot) p))
        | inr q ↦ p ∙ sym q
      ]
    ];
    numbers = λ a b at_a at_b same. elim (row_cases a at_a) [
      | inl p ↦ elim (row_cases b at_b) [
        | inl q ↦ o.numbers a b p q same
        | inr q ↦ absurd (own_number a p (same ∙ ap (λ (r : JobRecord). r.number) q))
      ]
      | inr p ↦ elim (row_cases b at_b) [
        | inl q ↦ absurd (own_number b q (sym same ∙ ap (λ (r : JobRecord). r.number) p))
        | inr q ↦ p ∙ sym q
      ]
    ];
    edges = λ e s there is. elim (back_now e there (ap is_job is)) [
      | inl old ↦ let r = o.edges e s old is in record { row = r.row; there = old_row r.row r.there; own = r.own }
      | inr new ↦ record { row = row; there = new_row; own = subst (Contains (edges_of_job row)) (sym new.2) (own_edge new.0 new.1) }
    ];
    apart = λ a b node at_a at_b held has. elim (row_cases a at_a) [
      | inl p ↦ elim (row_cases b at_b) [
        | inl q ↦ o.apart a b node p q held has
        | inr q ↦ absurd (reads a node p held (subst (λ (r : JobRecord). Contains (nodes_of_job r) node) q has))
      ]
      | inr p ↦ elim (row_cases b at_b) [
        | inl q ↦ absurd (holds b node q (subst (λ (r : JobRecord). Contains r.held node) p held) has)
        | inr q ↦ ap (λ (r : JobRecord). r.slot) (p ∙ sym q)
      ]
    ];
    filters = λ node there is.
        let was : Contains t.nodes node = subst (λ ns. Contains ns node) same_nodes there in
        elim (o.filters node was is) [
          | inl free ↦ let f = filters node was free in record { row = row; there = new_row; filter = f.0; kind = f.1 }
          | inr r ↦ record { row = r.row; there = old_row r.row r.there; filter = r.filter; kind = r.kind }
        ];
    copies = subst (λ rows. AreApart now.edges (mirrors rows)) (sym jobs_now) (apart_as t.edges now.edges leads_now (mirrors (t.jobs ++ row ∷ [])) copies);
  }
