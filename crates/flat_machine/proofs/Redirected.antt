-- What nodes read as where the edges into a node lead on to it, or to an overlay of it.
use Rattle.std.proofs.Common.{◌≡◌, ◌≢◌, ◌⊎◌, ℕ, zero, suc, Bool, false, List, refl, sym, ap, subst, ◌∙◌, inl, inr, Option, Some, None, option_map}
use Rattle.std.specs.Prelude.{◌==◌, ◌||◌, IsSome, option_and_then}
use Rattle.std.specs.List.{list_any, Contains}
use Rattle.std.proofs.lemmas.Bool.{eqb-true, cases_eq}
use Rattle.blk_graph.specs.declared.edge.Edge.{Edge}
use Rattle.blk_graph.specs.declared.edge.Parent.TheVariants.{Node, Guest}
use Rattle.blk_graph.specs.declared.edge.Role.{Role}
use Rattle.blk_graph.specs.declared.edge.Role.TheVariants.{Drive, File, Backing}
use Rattle.blk_graph.specs.declared.kind.Kind.{Kind}
use Rattle.blk_graph.specs.declared.kind.Kind.TheVariants.{Protocol, Raw, Qcow2, CopyOnRead, BeforeWrite, Mirror, Commit}
use Rattle.blk_graph.specs.Edits.{child_of}
use Rattle.blk_graph.specs.Permissions.{node_edge}
use Rattle.blk_graph.proofs.Members.{find-Some}
use Rattle.blk_graph.proofs.EditLemmas.{IsSameEdge}
use Rattle.qmp_rules.specs.declared.rows.NodeRecord.{NodeRecord}
use Rattle.qmp_rules.specs.Table.{RunTable, node_by_id, child}
use Rattle.qmp_rules.specs.Chains.{filter_role, filtered, disk_from, disk_node}
use Rattle.qmp_rules.specs.Answers.{told_none}
use Rattle.blk_history.specs.Fold.{With}
use Rattle.flat_machine.specs.State.{drive_of}
use Rattle.flat_machine.specs.Machine.{copies_at, copies_through, path, path_from}
use Rattle.flat_machine.specs.Agreement.{HasDisk}
use Rattle.flat_machine.specs.Suiting.{IsAlone}
use Rattle.flat_machine.specs.Wiring.{LeadsToFile, IsInline, InlineAreUnder, IsUnderNoFormat, TableStands}
use Rattle.flat_machine.proofs.Tables.{HasLike}
use Rattle.flat_machine.proofs.Rows.{same_row, from-child, path-child, copies-at}
use Rattle.flat_machine.proofs.TablesKept.{no_copies}
use Rattle.flat_machine.proofs.TableSuited.{settled-free}

-- ---- an overlay without parents, and the node that it is put over

pub record LiesOver (t : RunTable) (node overlay : NodeRecord) : Type 0 where
  pub node_there : Contains t.nodes node
  pub overlay_there : Contains t.nodes overlay
  pub disk : HasDisk node
  pub driver : overlay.kind ≡ Qcow2
  pub writable : overlay.read_only ≡ false
  pub other : overlay.id ≢ node.id
  pub size : overlay.size ≡ node.size
  pub lone : IsAlone t overlay.id

-- ---- edges that lead elsewhere

-- an edge of the table, which leads where it led or to the other place; a file edge does that
pub record LedEdge (t : RunTable) (to : ℕ → ℕ) (e : Edge) : Type 0 where
  pub edge : Edge
  pub there : Contains t.edges edge
  pub parent : edge.parent ≡ e.parent
  pub role : edge.role ≡ e.role
  pub leads : (e.child ≡ edge.child) ⊎ (e.child ≡ to edge.child)
  pub file : edge.role ≡ File → e.child ≡ to edge.child

-- Edges into other nodes stay, those into the node lead on or to the overlay, and the overlay may have the node as backing
-- node.
pub record Redirects (t : RunTable) (edges : List Edge) (node overlay : ℕ) (to : ℕ → ℕ) : Type 0 where
  pub others : (c : ℕ) → c ≢ node → to c ≡ c
  pub at_node : (to node ≡ node) ⊎ (to node ≡ overlay)
  pub old : (e : Edge) → Contains edges e → LedEdge t to e ⊎ IsSameEdge (node_edge overlay Backing node) e
  pub keeps : (e : Edge) → Contains t.edges e → e.child ≢ node → HasLike edges e
  pub children : (n : ℕ) (role : Role) → role ≢ Backing → child_of (Node n) role edges ≡ option_map to (child t n role)
  pub drives : (g : ℕ) → child_of (Guest g) Drive edges ≡ option_map to (drive_of t g)

-- ---- nodes that are no filters

filter-other : (kind : Kind) (role : Role) → filter_role kind ≡ Some role → role ≢ Backing
filter-other Protocol role is same = absurd cc
filter-other Raw role is same = absurd cc
filter-other Qcow2 role is same = absurd cc
filter-other CopyOnRead role is same = absurd cc
filter-other BeforeWrite role is same = absurd cc
filter-other Mirror role is same = absurd cc
filter-other Commit role is same = absurd cc

unfiltered : (t : RunTable) (row : NodeRecord) → node_by_id t row.id ≡ Some row → filter_role row.kind ≡ None → filtered t row.id ≡ None
unfiltered t row found own = rw (found, own) refl

disk-alone : (more : ℕ) (t : RunTable) (n : ℕ) → filtered t n ≡ None → disk_from more t n ≡ n
disk-alone zero t n none = refl
disk-alone (suc more) t n none = from-child more t n None none

pub disk_of_none : (t : RunTable) (n : ℕ) → filtered t n ≡ None → disk_node t n ≡ n
unfolding disk_node
disk_of_none t n none = disk-alone 64 t n none

path-alone : (more : ℕ) (t : RunTable) (n : ℕ) (p : ℕ → Bool) → filtered t n ≡ None → list_any p (path_from more t n) ≡ (p n || false)
path-alone zero t n p none = refl
path-alone (suc more) t n p none = path-child more t n p None none

-- ---- it stays

module _ (t : RunTable) (es : List Edge) (node overlay : NodeRecord) (to : ℕ → ℕ) (over : LiesOver t node overlay)
    (r : Redirects t es node.id overlay.id to) (h : TableStands t) where
  abbrev pub led : RunTable
  led = record t { edges = es }

  pub node_found : node_by_id t node.id ≡ Some node
  node_found = h.apart node over.node_there

  pub overlay_found : node_by_id t overlay.id ≡ Some overlay
  overlay_found = h.apart overlay over.overlay_there

  pub overlay_named : overlay.filename ≡ None
  overlay_named = by_name overlay.filename refl
    where
      by_name : (name : Option (List ℕ)) → overlay.filename ≡ name → name ≡ None
      by_name None e = refl
      by_name (Some name) e =
          let file = h.drivers name overlay (record { there = over.overlay_there; filename = e }) in
          let image = over.driver in
          absurd cc

  pub overlay_own : filter_role overlay.kind ≡ None
  overlay_own = ap filter_role over.driver

  -- the overlay is no `file` node
  no_file : (row : NodeRecord) → Contains t.nodes row → IsSome row.filename → row.id ≡ overlay.id → ⊥
  no_file row there some is =
      let same : row ≡ overlay = same_row t h.apart overlay row over.overlay_there there is in
      let bad = subst IsSome overlay_named (subst (λ x. IsSome x.filename) same some) in
      cc

  -- an edge that leads to a `file` node led to it
  pub into_file : (e : Edge) (l : LedEdge t to e) (row : NodeRecord) → Contains t.nodes row → IsSome row.filename → e.child ≡ row.id
      → l.edge.child ≡ row.id
  into_file e l row there some is = elim l.leads [
    | inl same ↦ sym same ∙ is
    | inr moved ↦ elim (cases_eq l.edge.child node.id) [
      | inr differ ↦ sym (r.others l.edge.child differ) ∙ sym moved ∙ is
      | inl at_it ↦ elim r.at_node [
        | inl on ↦ at_it ∙ sym on ∙ ap to (sym at_it) ∙ sym moved ∙ is
        | inr over_it ↦ absurd (no_file row there some (sym is ∙ moved ∙ ap to at_it ∙ over_it))
      ]
    ]
  ]

  pub was_under : (over_row under : NodeRecord) → LeadsToFile led over_row under → IsSome under.filename → LeadsToFile t over_row under
  was_under over_row under f some = elim (r.old f.edge f.there) [
    | inl l ↦ record {
      over_there = f.over_there;
      under_there = f.under_there;
      edge = l.edge;
      there = l.there;
      parent = l.parent ∙ f.parent;
      role = l.role ∙ f.role;
      child = into_file f.edge l under f.under_there some f.child;
    }
    | inr own ↦ absurd (let bad = own.role ∙ f.role in cc)
  ]

  -- no format node is over the node, which has a flat disk
  pub node_free : IsUnderNoFormat t node.id
  node_free = settled-free t told_none h node over.node_there over.disk.settled

  free_led : (n : ℕ) → IsUnderNoFormat t n → IsUnderNoFormat led n
  free_led n free under over_row at some f own = free under over_row at some (was_under over_row under f some) own

  -- ---- what nodes read as

  filtered-led : (n : ℕ) → filtered led n ≡ option_map to (filtered t n)
  filtered-led n = by_row (node_by_id t n)
    where
      by_role : (kind : Kind) (role : Option Role) → filter_role kind ≡ role
          → option_and_then (child led n) role ≡ option_map to (option_and_then (child t n) role)
      by_role kind None e = refl
      by_role kind (Some role) e = r.children n role (filter-other kind role e)

      by_row : (found : Option NodeRecord) → option_and_then (child led n) (option_and_then (λ row. filter_role row.kind) found)
          ≡ option_map to (option_and_then (child t n) (option_and_then (λ row. filter_role row.kind) found))
      by_row None = refl
      by_row (Some row) = by_role row.kind (filter_role row.kind) refl

  node_alone : filtered t node.id ≡ None
  node_alone = unfiltered t node node_found over.disk.own

  -- the place to which edges into the node lead is no filter
  to_alone : filtered led (to node.id) ≡ None
  to_alone = elim r.at_node [
    | inl on ↦ subst (λ n. filtered led n ≡ None) (sym on) (filtered-led node.id ∙ ap (option_map to) node_alone)
    | inr over_it ↦ subst (λ n. filtered led n ≡ None) (sym over_it)
        (filtered-led overlay.id ∙ ap (option_map to) (unfiltered t overlay overlay_found overlay_own))
  ]

  disk_from-led : (more n : ℕ) → n ≢ node.id → disk_from more led n ≡ to (disk_from more t n)
  disk_from-led zero n differ = sym (r.others n differ)
  disk_from-led (suc more) n differ = by_child (filtered t n) refl (disk_from-led more)
    where
      by_child : (below : Option ℕ) → filtered t n ≡ below → ((c : ℕ) → c ≢ node.id → disk_from more led c ≡ to (disk_from more t c))
          → disk_from (suc more) led n ≡ to (disk_from (suc more) t n)
      by_child None e rest =
          from-child more led n None (filtered-led n ∙ ap (option_map to) e) ∙ sym (r.others n differ)
          ∙ ap to (sym (from-child more t n None e))
      by_child (Some c) e rest =
          from-child more led n (Some (to c)) (filtered-led n ∙ ap (option_map to) e) ∙ below
          ∙ ap to (sym (from-child more t n (Some c) e))
        where
          below : disk_from more led (to c) ≡ to (disk_from more t c)
          below = elim (cases_eq c node.id) [
            | inr other ↦ ap (disk_from more led) (r.others c other) ∙ rest c other
            | inl at_it ↦
                ap (λ m. disk_from more led (to m)) at_it ∙ disk-alone more led (to node.id) to_alone
                ∙ ap to (sym (disk-alone more t node.id node_alone)) ∙ ap (λ m. to (disk_from more t m)) (sym at_it)
          ]

  pub disk_led : (n : ℕ) → n ≢ node.id → disk_node led n ≡ to (disk_node t n)
  unfolding disk_node
  disk_led n differ = disk_from-led 64 n differ

  node_still : copies_at t node.id ≡ false
  node_still = copies-at t node.id node node_found ∙ no_copies node.kind over.disk.own

  to_still : copies_at t (to node.id) ≡ false
  to_still = elim r.at_node [
    | inl on ↦ ap (copies_at t) on ∙ node_still
    | inr over_it ↦ ap (copies_at t) over_it ∙ copies-at t overlay.id overlay overlay_found ∙ no_copies overlay.kind overlay_own
  ]

  path_from-led : (more n : ℕ) → n ≢ node.id → list_any (copies_at t) (path_from more led n) ≡ list_any (copies_at t) (path_from more t n)
  path_from-led zero n differ = refl
  path_from-led (suc more) n differ = by_child (filtered t n) refl (path_from-led more)
    where
      by_child : (below : Option ℕ) → filtered t n ≡ below
          → ((c : ℕ) → c ≢ node.id → list_any (copies_at t) (path_from more led c) ≡ list_any (copies_at t) (path_from more t c))
          → list_any (copies_at t) (path_from (suc more) led n) ≡ list_any (copies_at t) (path_from (suc more) t n)
      by_child None e rest =
          path-child more led n (copies_at t) None (filtered-led n ∙ ap (option_map to) e)
          ∙ sym (path-child more t n (copies_at t) None e)
      by_child (Some c) e rest =
          path-child more led n (copies_at t) (Some (to c)) (filtered-led n ∙ ap (option_map to) e)
          ∙ ap (λ b. copies_at t n || b) below
          ∙ sym (path-child more t n (copies_at t) (Some c) e)
        where
          below : list_any (copies_at t) (path_from more led (to c)) ≡ list_any (copies_at t) (path_from more t c)
          below = elim (cases_eq c node.id) [
            | inr other ↦ ap (λ m. list_any (copies_at t) (path_from more led m)) (r.others c other) ∙ rest c other
            | inl at_it ↦
                ap (λ m. list_any (copies_at t) (path_from more led (to m))) at_it
                ∙ path-alone more led (to node.id) (copies_at t) to_alone ∙ ap (λ b. b || false) (to_still ∙ sym node_still)
                ∙ sym (path-alone more t node.id (copies_at t) node_alone)
                ∙ ap (λ m. list_any (copies_at t) (path_from more t m)) (sym at_it)
          ]

  pub copies_led : (n : ℕ) → n ≢ node.id → copies_through led n ≡ copies_through t n
  unfolding path
  copies_led n differ = path_from-led 64 n differ

  -- a `file` node that was made with another one is under that
  pub led_inline : InlineAreUnder t → InlineAreUnder led
  led_inline inline row above there made =
      let k = inline row above there made in
      let like = r.keeps k.edge k.there (λ is. not_node k there (sym k.child ∙ is)) in
      record {
        file = k.file;
        edge = like.edge;
        there = like.there;
        parent = like.same.parent ∙ k.parent;
        role = like.same.role ∙ k.role;
        child = like.same.child ∙ k.child;
        format = k.format;
        named = k.named;
      }
    where
      not_node : {row : NodeRecord} {above : ℕ} → IsInline t row above → Contains t.nodes row → row.id ≡ node.id → ⊥
      not_node {row} {above} k there is = by_row (node_by_id t above) refl k.format
        where
          same : row ≡ node
          same = same_row t h.apart node row over.node_there there is

          by_row : (found : Option NodeRecord) → node_by_id t above ≡ found → With found (λ x. filter_role x.kind ≡ None) → ⊥
          by_row None e never = never
          by_row (Some x) e own =
              let here = find-Some (λ r. r.id == above) t.nodes x e in
              node_free node x node_found (subst (λ y. IsSome y.filename) same k.file) (record {
                over_there = here.0;
                under_there = over.node_there;
                edge = k.edge;
                there = k.there;
                parent = k.parent ∙ ap Node (sym (eqb-true x.id above here.1));
                role = k.role;
                child = k.child ∙ is;
              }) own
