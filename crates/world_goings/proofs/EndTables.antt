-- The table behind the end of a backup or mirror: the job's edges and its filter are gone, what used its source may use another
-- node, and its target may have a flat disk.
use Rattle.std.proofs.Common.{◌≡◌, ◌≢◌, ◌⊎◌, ℕ, ◌==◌, Bool, true, false, cond, not, List, [], ◌∷◌, map, Option, Some, None, refl, sym, ◌∙◌, ap, subst, inl, inr}
use Rattle.std.specs.Prelude.{◌&&◌, Contains, find, option_map}
use Rattle.std.proofs.lemmas.Bool.{cases_eq, eq-eqb, eqb-true, ne_eqb}
use Rattle.blk_graph.specs.declared.edge.Edge.{Edge}
use Rattle.blk_graph.specs.declared.edge.Parent.{Parent}
use Rattle.blk_graph.specs.declared.edge.Parent.TheVariants.{Guest, Job, Node}
use Rattle.blk_graph.specs.declared.edge.Role.{Role}
use Rattle.blk_graph.specs.declared.edge.Role.TheVariants.{Between, Filtered}
use Rattle.blk_graph.specs.Edits.{but_filters, child_after, child_moved, child_of, is_filters, moved, replaced, stays, with_moved, with_replaced, without_filter, without_parent}
use Rattle.blk_graph.specs.Edges.{same_parent}
use Rattle.blk_graph.proofs.ChildLemmas.{child-without}
use Rattle.blk_graph.proofs.DraftLemmas.{children_replaced, children_without}
use Rattle.blk_graph.proofs.EditLemmas.{Contains-with_moved, moved-parent, replaced-parent}
use Rattle.blk_graph.proofs.InverseLemmas.{same_parent-false}
use Rattle.blk_graph.proofs.Members.{Contains-filter, Contains-map, find-Some}
use Rattle.blk_graph.proofs.RefreshLemmas.{child_of-refreshed}
use Rattle.blk_history.specs.Fold.{With}
use Rattle.qmp_rules.specs.Chains.{filter_role}
use Rattle.qmp_rules.specs.Changes.{all_changed, changed, node_changed, settled, without_record}
use Rattle.qmp_rules.specs.Table.{RunTable, child, kinds_of, node_by_id}
use Rattle.qmp_rules.specs.Ends.{settle_if}
use Rattle.qmp_rules.specs.declared.change.Change.TheVariants.{EndJob, Move, PullFilter}
use Rattle.qmp_rules.specs.declared.change.NewDisk.{NewDisk}
use Rattle.qmp_rules.specs.declared.rows.NodeRecord.{NodeRecord}
use Rattle.flat_machine.specs.Agreement.{HasDisk}
use Rattle.flat_machine.specs.Suiting.{IsPlainNode}
use Rattle.flat_machine.proofs.Lent.{changed_at}
use Rattle.flat_machine.proofs.Rows.{found_mapped}
use Rattle.flat_machine.proofs.Wired.{with_at}
use Rattle.job_tables.proofs.NodeKinds.{still_found}
use Rattle.world_parts.proofs.GuestEdges.{guest_edge}

-- ---- where edges lead then

-- what led to the filter leads to its source, and all of that to another node, or where it did
abbrev pub led : ℕ → ℕ → ℕ → ℕ → ℕ
led filter source to c = child_moved source to (child_moved filter source c)

pub moved_over : (from to : ℕ) → child_moved from to from ≡ to
moved_over from to = rw (eq-eqb from from refl) refl

pub moved_past : (from to c : ℕ) → c ≢ from → child_moved from to c ≡ c
moved_past from to c other = rw (ne_eqb c from other) refl

moved_stays : (n c : ℕ) → child_moved n n c ≡ c
moved_stays n c = elim (cases_eq c n) [ inl is ↦ ap (child_moved n n) is ∙ moved_over n n ∙ sym is | inr other ↦ moved_past n n c other ]

pub led_filter : (filter source to : ℕ) → led filter source to filter ≡ to
led_filter filter source to = ap (child_moved source to) (moved_over filter source) ∙ moved_over source to

pub led_source : (filter source to : ℕ) → source ≢ filter → led filter source to source ≡ to
led_source filter source to other = ap (child_moved source to) (moved_past filter source source other) ∙ moved_over source to

pub led_other : (filter source to c : ℕ) → c ≢ filter → c ≢ source → led filter source to c ≡ c
led_other filter source to c apart other = ap (child_moved source to) (moved_past filter source c apart) ∙ moved_past source to c other

-- first to the source, and then on
pub led_then : (filter source to c : ℕ) → led filter source to c ≡ child_moved source to (led filter source source c)
led_then filter source to c = ap (child_moved source to) (sym (moved_stays source (child_moved filter source c)))

map_same : {A B : Type 0} (f g : A → B) → ((a : A) → f a ≡ g a) → (found : Option A) → option_map f found ≡ option_map g found
map_same f g each None = refl
map_same f g each (Some a) = ap Some (each a)

map_then : {A B C : Type 0} (f : A → B) (g : B → C) (found : Option A) → option_map g (option_map f found) ≡ option_map (λ a. g (f a)) found
map_then f g None = refl
map_then f g (Some a) = refl

-- ---- a job's filter, over a plain node

pub record IsOverNode (t : RunTable) (filter source : ℕ) : Type 0 where
  pub node : NodeRecord
  pub there : node_by_id t filter ≡ Some node
  pub role : filter_role node.kind ≡ Some Filtered
  pub over : child t filter Filtered ≡ Some source
  pub plain : IsPlainNode t source

-- a plain node is no filter
pub plain_apart : (t : RunTable) (filter source : ℕ) → IsOverNode t filter source → (n : ℕ) → IsPlainNode t n → n ≢ filter
plain_apart t filter source f n p same =
    let rows : Some p.row ≡ Some f.node = sym p.there ∙ ap (node_by_id t) same ∙ f.there in
    let one : p.row ≡ f.node = cc rows in
    let bad : None ≡ Some Filtered = sym p.own ∙ ap (λ (r : NodeRecord). filter_role r.kind) one ∙ f.role in
    let no : ⊥ = cc bad in no

-- ---- what is left of a table

-- a row is as it was, or has a flat disk
abbrev pub OnlySettles : (NodeRecord → NodeRecord) → Type 0
OnlySettles f = (row : NodeRecord) → (f row ≡ row) ⊎ (f row ≡ settled row)

-- what doesn't speak of flat disks is the same of a row
pub row_of : {A : Type 0} (f : NodeRecord → NodeRecord) → OnlySettles f → (g : NodeRecord → A) → ((row : NodeRecord) → g (settled row) ≡ g row) → (row : NodeRecord) → g (f row) ≡ g row
row_of f only g blind row = elim (only row) [ inl same ↦ ap g same | inr is ↦ ap g is ∙ blind row ]

-- an edge of a guest, but for where it leads
pub record WasEdge (edges : List Edge) (e : Edge) (g : ℕ) : Type 0 where
  pub edge : Edge
  pub there : Contains edges edge
  pub from : edge.parent ≡ Guest g
  pub writes : edge.perm.write ≡ e.perm.write

pub record IsEndedTable (t u : RunTable) (filter source to : ℕ) : Type 0 where
  pub f : NodeRecord → NodeRecord
  pub only : OnlySettles f
  pub found : (n : ℕ) → n ≢ filter → node_by_id u n ≡ option_map f (node_by_id t n)
  pub gone : node_by_id u filter ≡ None
  pub nodes : (n : ℕ) (role : Role) → n ≢ filter → role ≢ Between
      → child_of (Node n) role u.edges ≡ option_map (led filter source to) (child_of (Node n) role t.edges)
  pub drives : (g : ℕ) (role : Role) → role ≢ Between
      → child_of (Guest g) role u.edges ≡ option_map (led filter source to) (child_of (Guest g) role t.edges)
  pub edges : (e : Edge) (g : ℕ) → Contains u.edges e → e.parent ≡ Guest g → WasEdge t.edges e g
  pub devices : u.devices ≡ t.devices
  pub guests : u.guests ≡ t.guests

-- ---- a target is settled, or none

settled_row : (b : Bool) (row : NodeRecord) → (cond b (settled row) row ≡ row) ⊎ (cond b (settled row) row ≡ settled row)
settled_row true row = inr refl
settled_row false row = inl refl

pub record IsSettledTable (t u : RunTable) : Type 0 where
  pub f : NodeRecord → NodeRecord
  pub only : OnlySettles f
  pub rows : u.nodes ≡ map f t.nodes
  pub edges : u.edges ≡ t.edges
  pub devices : u.devices ≡ t.devices
  pub guests : u.guests ≡ t.guests

map_itself : (rows : List NodeRecord) → rows ≡ map (λ row. row) rows
map_itself [] = refl
map_itself (row ∷ rows) = ap (λ (rs : List NodeRecord). row ∷ rs) (map_itself rows)

settled_none : (t : RunTable) → IsSettledTable t t
settled_none t = record { f = λ row. row; only = λ row. inl refl; rows = map_itself t.nodes; edges = refl; devices = refl; guests = refl }

pub settled_table : (t : RunTable) (so : Bool) (target : Option ℕ) (disk : NewDisk) → IsSettledTable t (all_changed t (settle_if so target disk))
unfolding changed
settled_table t true (Some target) disk = record {
  f = node_changed target settled;
  only = λ row. settled_row (row.id == target) row;
  rows = refl;
  edges = refl;
  devices = refl;
  guests = refl;
}
settled_table t true None disk = settled_none t
settled_table t false target disk = settled_none t

-- the target has a flat disk then
pub settled_disk : (t : RunTable) (target : ℕ) (disk : NewDisk) → IsPlainNode t target → With (node_by_id (all_changed t (settle_if true (Some target) disk)) target) HasDisk
unfolding changed
settled_disk t target disk p =
    let id : p.row.id ≡ target = eqb-true p.row.id target (find-Some (λ (r : NodeRecord). r.id == target) t.nodes p.row p.there).1 in
    with_at HasDisk (node_by_id (all_changed t (settle_if true (Some target) disk)) target) (node_changed target settled p.row)
    (found_mapped t (all_changed t (settle_if true (Some target) disk)) (node_changed target settled) (λ row. id_same row (row.id == target)) refl target
    ∙ ap (option_map (node_changed target settled)) p.there)
    (subst HasDisk (sym (changed_at target settled p.row id)) (record { settled = refl; own = p.own }))
  where
    id_same : (row : NodeRecord) (b : Bool) → (cond b (settled row) row).id ≡ row.id
    id_same row true = refl
    id_same row false = refl

pub settled_found : (t u : RunTable) (s : IsSettledTable t u) (n : ℕ) → node_by_id u n ≡ option_map s.f (node_by_id t n)
settled_found t u s n = found_mapped t u s.f (row_of s.f s.only (λ (r : NodeRecord). r.id) (λ r. refl)) s.rows n

pub settled_then : (t a u : RunTable) (filter source to : ℕ) → IsEndedTable t a filter source to → IsSettledTable a u → IsEndedTable t u filter source to
settled_then t a u filter source to p s = record {
  f = λ row. s.f (p.f row);
  only = λ row. elim (s.only (p.f row)) [
    | inl same ↦ elim (p.only row) [ inl was ↦ inl (same ∙ was) | inr was ↦ inr (same ∙ was) ]
    | inr is ↦ elim (p.only row) [ inl was ↦ inr (is ∙ ap settled was) | inr was ↦ inr (is ∙ ap settled was) ]
  ];
  found = λ n apart. settled_found a u s n ∙ ap (option_map s.f) (p.found n apart) ∙ map_then p.f s.f (node_by_id t n);
  gone = settled_found a u s filter ∙ ap (option_map s.f) p.gone;
  nodes = λ n role apart single. ap (child_of (Node n) role) s.edges ∙ p.nodes n role apart single;
  drives = λ g role single. ap (child_of (Guest g) role) s.edges ∙ p.drives g role single;
  edges = λ e g there from. p.edges e g (subst (λ (es : List Edge). Contains es e) s.edges there) from;
  devices = s.devices ∙ p.devices;
  guests = s.guests ∙ p.guests;
}

-- ---- the job's edges and its filter go

module _ (t : RunTable) (number slot : ℕ) (drops : Bool) (filter source : ℕ) (over : child t filter Filtered ≡ Some source) where
  abbrev ended : RunTable
  ended = changed t (EndJob number slot drops)

  abbrev pulled : RunTable
  pulled = changed ended (PullFilter filter)

  child_ended : (p : Parent) (role : Role) → p ≢ Job slot → child_of p role ended.edges ≡ child_of p role t.edges
  unfolding changed
  child_ended p role other =
      child_of-refreshed (kinds_of t.nodes) p role (without_parent (Job slot) t.edges) ∙ child-without (Job slot) p role t.edges (λ same. other (sym same))

  over_ended : child ended filter Filtered ≡ Some source
  over_ended = child_ended (Node filter) Filtered (λ same. let no : ⊥ = cc same in no) ∙ over

  child_pulled : (p : Parent) (role : Role) → p ≢ Job slot → role ≢ Between → p ≢ Node filter
      → child_of p role pulled.edges ≡ option_map (led filter source source) (child_of p role t.edges)
  unfolding changed
  child_pulled p role other single apart =
      child_of-refreshed (kinds_of (without_record filter t.nodes)) p role (without_filter filter ended.edges)
      ∙ children_without filter ended.edges source over_ended p role single (rw (same_parent-false p (Node filter) apart) refl)
      ∙ ap (option_map (child_moved filter source)) (child_ended p role other)
      ∙ map_same (child_moved filter source) (led filter source source) (λ c. sym (moved_stays source (child_moved filter source c))) (child_of p role t.edges)

  found_pulled : (n : ℕ) → n ≢ filter → node_by_id pulled n ≡ node_by_id t n
  unfolding changed
  found_pulled n apart = still_found t filter n apart

  gone_pulled : node_by_id pulled filter ≡ None
  unfolding changed
  gone_pulled = by_rows t.nodes
    where
      by_rows : (rows : List NodeRecord) → find (λ (r : NodeRecord). r.id == filter) (without_record filter rows) ≡ None
      by_rows [] = refl
      by_rows (row ∷ rows) = by_test (row.id == filter) refl (by_rows rows)
        where
          by_test : (b : Bool) → (row.id == filter) ≡ b → find (λ (r : NodeRecord). r.id == filter) (without_record filter rows) ≡ None
              → find (λ (r : NodeRecord). r.id == filter) (cond (not b) (row ∷ without_record filter rows) (without_record filter rows)) ≡ None
          by_test true is rest = rest
          by_test false is rest = rw is rest

  -- edges of guests ask what they did
  left_is : without_filter filter ended.edges ≡ with_moved filter source (but_filters filter ended.edges)
  left_is = by_found (find (is_filters filter) ended.edges) over_ended
    where
      by_found : (found : Option Edge) → option_map (λ (e : Edge). e.child) found ≡ Some source → (elim found as (λ _. List Edge) [
        | None ↦ ended.edges
        | Some edge ↦ with_moved filter edge.child (but_filters filter ended.edges)
      ]) ≡ with_moved filter source (but_filters filter ended.edges)
      by_found None is = absurd (let no : ⊥ = cc is in no)
      by_found (Some edge) is = let same : edge.child ≡ source = cc is in ap (λ n. with_moved filter n (but_filters filter ended.edges)) same

  moved_writes : (e : Edge) → (moved filter source e).perm.write ≡ e.perm.write
  moved_writes e = by_test (e.child == filter)
    where
      by_test : (b : Bool) → (cond b (record e { child = source }) e).perm.write ≡ e.perm.write
      by_test true = refl
      by_test false = refl

  edge_pulled : (e : Edge) (g : ℕ) → Contains pulled.edges e → e.parent ≡ Guest g → WasEdge t.edges e g
  unfolding changed
  edge_pulled e g there from =
      let left = guest_edge (kinds_of (without_record filter t.nodes)) (without_filter filter ended.edges) e g there from in
      let was = Contains-with_moved filter source (but_filters filter ended.edges) e (subst (λ (es : List Edge). Contains es e) left_is left) in
      let kept = Contains-filter (λ (x : Edge). not (is_filters filter x)) ended.edges was.0 was.1 in
      let parent : was.0.parent ≡ Guest g = sym (ap (λ (x : Edge). x.parent) was.2 ∙ moved-parent filter source was.0) ∙ from in
      let before = guest_edge (kinds_of t.nodes) (without_parent (Job slot) t.edges) was.0 g kept.0 parent in
      record {
        edge = was.0;
        there = (Contains-filter (λ (x : Edge). not (same_parent x.parent (Job slot))) t.edges was.0 before).0;
        from = parent;
        writes = sym (ap (λ (x : Edge). x.perm.write) was.2 ∙ moved_writes was.0);
      }

  same_devices : (pulled.devices ≡ t.devices) × (pulled.guests ≡ t.guests)
  unfolding changed
  same_devices = (refl, refl)

  pub pulled_table : IsEndedTable t pulled filter source source
  pulled_table = record {
    f = λ row. row;
    only = λ row. inl refl;
    found = λ n apart. found_pulled n apart ∙ by_row (node_by_id t n);
    gone = gone_pulled;
    nodes = λ n role apart single.
        child_pulled (Node n) role (λ same. let no : ⊥ = cc same in no) single (λ same. apart (let both : Node n ≡ Node filter = same in let one : n ≡ filter = cc both in one));
    drives = λ g role single.
        child_pulled (Guest g) role (λ same. let no : ⊥ = cc same in no) single (λ same. let no : ⊥ = cc same in no);
    edges = edge_pulled;
    devices = same_devices.0;
    guests = same_devices.1;
  }
    where
      by_row : (found : Option NodeRecord) → found ≡ option_map (λ (row : NodeRecord). row) found
      by_row None = refl
      by_row (Some row) = refl

-- ---- what used the source uses another node

module _ (t a : RunTable) (filter source to : ℕ) (p : IsEndedTable t a filter source source) where
  after_is : (parent : Parent) (c : ℕ) → stays (Some (Node filter)) parent ≡ false → child_after source to (Some (Node filter)) parent c ≡ child_moved source to c
  after_is parent c goes = by_test (c == source)
    where
      by_test : (b : Bool) → cond (b && not (stays (Some (Node filter)) parent)) to c ≡ cond b to c
      by_test true = rw goes refl
      by_test false = refl

  child_over : (parent : Parent) (role : Role) → stays (Some (Node filter)) parent ≡ false
      → child_of parent role a.edges ≡ option_map (led filter source source) (child_of parent role t.edges)
      → child_of parent role (changed a (Move source to filter)).edges ≡ option_map (led filter source to) (child_of parent role t.edges)
  unfolding changed
  child_over parent role goes was =
      child_of-refreshed (kinds_of a.nodes) parent role (with_replaced source to (Some (Node filter)) a.edges)
      ∙ children_replaced source to (Some (Node filter)) a.edges parent role
      ∙ map_same (child_after source to (Some (Node filter)) parent) (child_moved source to) (λ c. after_is parent c goes) (child_of parent role a.edges)
      ∙ ap (option_map (child_moved source to)) was
      ∙ map_then (led filter source source) (child_moved source to) (child_of parent role t.edges)
      ∙ map_same (λ c. child_moved source to (led filter source source c)) (led filter source to) (λ c. sym (led_then filter source to c)) (child_of parent role t.edges)

  replaced_writes : (e : Edge) → (replaced source to (Some (Node filter)) e).perm.write ≡ e.perm.write
  replaced_writes e = by_test (e.child == source && not (stays (Some (Node filter)) e.parent))
    where
      by_test : (b : Bool) → (cond b (record e { child = to }) e).perm.write ≡ e.perm.write
      by_test true = refl
      by_test false = refl

  edge_over : (e : Edge) (g : ℕ) → Contains (changed a (Move source to filter)).edges e → e.parent ≡ Guest g → WasEdge t.edges e g
  unfolding changed
  edge_over e g there from =
      let left = guest_edge (kinds_of a.nodes) (with_replaced source to (Some (Node filter)) a.edges) e g there from in
      let old = Contains-map (replaced source to (Some (Node filter))) a.edges e left in
      let parent : old.0.parent ≡ Guest g =
      sym (ap (λ (x : Edge). x.parent) old.2 ∙ replaced-parent source to (Some (Node filter)) old.0) ∙ from in
      let was = p.edges old.0 g old.1 parent in
      record {
        edge = was.edge;
        there = was.there;
        from = was.from;
        writes = was.writes ∙ sym (ap (λ (x : Edge). x.perm.write) old.2 ∙ replaced_writes old.0);
      }

  pub moved_table : IsEndedTable t (changed a (Move source to filter)) filter source to
  unfolding changed
  moved_table = record {
    f = p.f;
    only = p.only;
    found = p.found;
    gone = p.gone;
    nodes = λ n role apart single.
        child_over (Node n) role (rw (ne_eqb filter n (λ same. apart (sym same))) refl) (p.nodes n role apart single);
    drives = λ g role single. child_over (Guest g) role refl (p.drives g role single);
    edges = edge_over;
    devices = p.devices;
    guests = p.guests;
  }
