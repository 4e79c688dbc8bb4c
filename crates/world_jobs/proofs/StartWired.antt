-- The nodes with a job's filter may take the kinds and edges of the table behind its start.
use Rattle.std.proofs.Common.{◌≡◌, ◌≢◌, ◌⊎◌, ℕ, ◌<◌, Bool, true, false, cond, List, length, Option, Some, None, refl, sym, ◌∙◌, ap, subst, arith, inl, inr}
use Rattle.std.specs.Prelude.{◌==◌, IsSome, option_and_then, option_map, slice_set}
use Rattle.std.proofs.lemmas.Bool.{cases_eq, eq-eqb, eqb-true, ne_eqb}
use Rattle.std.proofs.lemmas.List.{get_or-set_other, get_or-set_same}
use Rattle.std.proofs.lemmas.Option.{same_Some}
use Rattle.blk_graph.specs.declared.edge.Edge.{Edge}
use Rattle.blk_graph.specs.declared.edge.Parent.TheVariants.{Node}
use Rattle.blk_graph.specs.declared.edge.Role.{Role}
use Rattle.blk_graph.specs.declared.edge.Role.TheVariants.{Backing, Between, Filtered, File as FileRole}
use Rattle.blk_graph.specs.declared.kind.Kind.{Kind}
use Rattle.blk_graph.specs.declared.kind.Kind.TheVariants as kinds
use Rattle.blk_graph.specs.declared.kind.NodeKind.{NodeKind}
use Rattle.blk_graph.specs.Edits.{child_moved, child_of}
use Rattle.blk_graph.specs.Permissions.{has_role}
use Rattle.blk_graph.specs.Refreshed.{kind_at}
use Rattle.blk_graph.proofs.Members.{find-Some}
use Rattle.blk_history.specs.Fold.{With}
use Rattle.blk_nodes.specs.Adding.{filtering_row, with_node_row}
use Rattle.blk_nodes.specs.Joined.{HasBelow, HasSize, IsJoined, IsSized}
use Rattle.blk_nodes.specs.Nodes.{Nodes, driver_kind, filter_kind, row_at}
use Rattle.blk_nodes.specs.Rewiring.{IsWiring}
use Rattle.blk_nodes.specs.declared.row.Driver.{Driver}
use Rattle.blk_nodes.specs.declared.row.Driver.TheVariants as drivers
use Rattle.blk_nodes.specs.declared.row.FilterKind.{FilterKind}
use Rattle.blk_nodes.specs.declared.row.Row.{Row}
use Rattle.flat_machine.specs.Suiting.{IsPlainNode}
use Rattle.flat_machine.specs.Wiring.{IsDiskOf, LeadsToFile, TableStands}
use Rattle.flat_machine.proofs.Redirected.{disk_of_none}
use Rattle.flat_machine.proofs.Redrawn.{IsSameNode, keeps_size}
use Rattle.flat_machine.proofs.WritingKept.{role_edge}
use Rattle.job_tables.specs.Jobs.{EdgesAreDrawn}
use Rattle.qmp_rules.specs.Chains.{disk_node, filter_role, filtered}
use Rattle.qmp_rules.specs.Table.{RunTable, child, kinds_of, node_by_id}
use Rattle.qmp_rules.specs.declared.rows.NodeRecord.{NodeRecord}
use Rattle.world_jobs.proofs.SeenTables.{AreSeen, IsListedSo, IsSeen, edges_fit, listed_so}
use Rattle.world_jobs.proofs.StartTables.{IsStartTable}
use Rattle.world_jobs.proofs.Wirings.{LeadRightly, takes_wiring}
use Rattle.world_parts.specs.Coherent.{AreAlike, AreNodesOf, IsRowOf}
use Rattle.world_parts.proofs.JobFilters.{filtered_role, filters_role}

-- ---- what a node reads has its size

module _ (nodes : Nodes) (joined : IsJoined nodes) where
  has_own_role : (n : ℕ) (row : Row) (role : Role) (c : ℕ) → row_at nodes n ≡ Some row → child_of (Node n) role nodes.graph.edges ≡ Some c
      → has_role (driver_kind row.driver) role ≡ true
  has_own_role n row role c there is =
      let e = role_edge (Node n) role nodes.graph.edges c is in
      let table = (joined.sound.fit.each e.edge e.there).table in
      let own : has_role (kind_at nodes.graph.kinds n).kind e.edge.role ≡ true = rw e.from at table in
      subst (λ (r : Role). has_role (driver_kind row.driver) r ≡ true) e.role_is
      (subst (λ (k : NodeKind). has_role k.kind e.edge.role ≡ true) (joined.kinds n row there) own)

  pub sized_below : (n : ℕ) (row : Row) (role : Role) (c : ℕ) → row_at nodes n ≡ Some row → child_of (Node n) role nodes.graph.edges ≡ Some c
      → keeps_size (driver_kind row.driver) role ≡ true → HasSize nodes c row.size
  sized_below n row role c there is keeps =
      by_driver row.driver role is (joined.below n row there) (joined.sized n row there) (has_own_role n row role c there is) keeps
    where
      by_driver : (d : Driver) (role : Role) → child_of (Node n) role nodes.graph.edges ≡ Some c → HasBelow nodes n row.size d → IsSized row.size d
          → has_role (driver_kind d) role ≡ true → keeps_size (driver_kind d) role ≡ true → HasSize nodes c row.size
      by_driver drivers.File role is below own may must = absurd cc
      by_driver (drivers.Raw part) FileRole is below own may must = absurd cc
      by_driver (drivers.Raw part) role is below own may must = absurd cc
      by_driver (drivers.Qcow2 image) Backing is below own may must = subst (HasSize nodes c) own (below.backing c is)
      by_driver (drivers.Qcow2 image) FileRole is below own may must = absurd cc
      by_driver (drivers.Qcow2 image) role is below own may must = absurd cc
      by_driver drivers.CopyOnRead FileRole is below own may must =
          subst (λ (m : ℕ). HasSize nodes m row.size) (same_Some below.child c (sym below.edge ∙ is)) below.same
      by_driver drivers.CopyOnRead role is below own may must = absurd cc
      by_driver (drivers.Filter kind) role is below own may must =
          below c (subst (λ (r : Role). child_of (Node n) r nodes.graph.edges ≡ Some c) (filtered_role kind role may) is)

pub between_keeps : (k : Kind) → keeps_size k Between ≡ true → ⊥
between_keeps kinds.CopyOnRead is = cc is
between_keeps k is = cc is

-- ---- behind a start

module _ (t u : RunTable) (nodes : Nodes) (name : List ℕ) (source : ℕ) (own under : NodeRecord) (h : TableStands t) (alike : AreNodesOf t nodes)
    (joined : IsJoined nodes) (plain : IsPlainNode t source) (at_source : node_by_id t source ≡ Some under) (fresh : node_by_id t own.id ≡ None) (small : own.id < 64)
    (kind : FilterKind) (of_kind : own.kind ≡ filter_kind kind) (size : own.size ≡ under.size) (put : IsStartTable t u own.id source own) (stands : TableStands u) (drawn : EdgesAreDrawn u)
    (after : IsJoined (with_node_row nodes own.id name (filtering_row kind own.size own.read_only))) where
  abbrev own_row : Row
  own_row = filtering_row kind own.size own.read_only

  abbrev now : Nodes
  now = with_node_row nodes own.id name own_row

  row_new : row_at now own.id ≡ Some own_row
  row_new = get_or-set_same nodes.rows own.id (Some own_row) None (subst (λ (n : ℕ). own.id < n) (sym joined.rows) small)

  row_old : (n : ℕ) → n ≢ own.id → row_at now n ≡ row_at nodes n
  row_old n apart = get_or-set_other nodes.rows own.id n (Some own_row) None (λ same. apart same)

  -- ---- rows

  seen : (n : ℕ) → AreSeen (node_by_id u n) (row_at now n)
  seen n = elim (cases_eq n own.id) [
    | inl same ↦
        subst (λ (m : ℕ). AreSeen (node_by_id u m) (row_at now m)) (sym same)
        (subst (λ (r : Option Row). AreSeen (node_by_id u own.id) r) (sym row_new)
        (subst (λ (r : Option NodeRecord). AreSeen r (Some own_row)) (sym put.new) (record { kind = of_kind; size = refl })))
    | inr apart ↦
        subst (AreSeen (node_by_id u n)) (sym (row_old n apart))
        (subst (λ (r : Option NodeRecord). AreSeen r (row_at nodes n)) (sym (put.found n apart)) (before (node_by_id t n) (row_at nodes n) (alike.rows n)))
  ]
    where
      before : (a : Option NodeRecord) (b : Option Row) → AreAlike a b → AreSeen (option_map put.f a) b
      before None None is = tt
      before (Some a) (Some b) is = record { kind = (put.same a).kind ∙ is.kind; size = (put.same a).size ∙ is.size }
      before None (Some b) is = is
      before (Some a) None is = is

  -- ---- children

  not_own : (n : ℕ) (row : Row) → row_at now n ≡ Some row → filter_role (driver_kind row.driver) ≡ None → n ≢ own.id
  not_own n row there format same =
      let is : own_row ≡ row = same_Some own_row row (sym row_new ∙ ap (row_at now) (sym same) ∙ there) in
      let bad : Some Filtered ≡ None = sym (filters_role kind) ∙ ap (λ (r : Row). filter_role (driver_kind r.driver)) is ∙ format in
      cc bad

  -- no format node is over the source
  format_apart : (n : ℕ) (listed : NodeRecord) (c : ℕ) → node_by_id t n ≡ Some listed → filter_role listed.kind ≡ None → child t n FileRole ≡ Some c → c ≢ source
  format_apart n listed c found format is same =
      let e = role_edge (Node n) FileRole t.edges c is in
      let here = find-Some (λ (r : NodeRecord). r.id == n) t.nodes listed found in
      let there = find-Some (λ (r : NodeRecord). r.id == source) t.nodes under at_source in
      let leads : LeadsToFile t listed under = record {
        over_there = here.0;
        under_there = there.0;
        edge = e.edge;
        there = e.there;
        parent = e.from ∙ ap Node (sym (eqb-true listed.id n here.1));
        role = e.role_is;
        child = e.to ∙ same ∙ sym (eqb-true under.id source there.1);
      } in
      by_name under.filename refl leads
    where
      by_name : (file : Option (List ℕ)) → under.filename ≡ file → LeadsToFile t listed under → ⊥
      by_name (Some file) named leads = plain.free under listed at_source (subst IsSome (sym named) refl) leads format
      by_name None named leads =
          let filter = h.filtered listed under leads named in
          let none = subst IsSome format filter in
          cc none

  still : (n c : ℕ) → c ≢ source → child_moved source own.id c ≡ c
  still n c apart = rw (ne_eqb c source apart) refl

  files : (n : ℕ) (row : Row) → row_at now n ≡ Some row → filter_role (driver_kind row.driver) ≡ None
      → child_of (Node n) FileRole u.edges ≡ child_of (Node n) FileRole now.graph.edges
  files n row there format =
      let apart = not_own n row there format in
      put.nodes n FileRole apart (λ same. let bad : ⊥ = cc same in bad)
      ∙ by_row (node_by_id t n) refl (subst (AreAlike (node_by_id t n)) (sym (row_old n apart) ∙ there) (alike.rows n))
      ∙ ap (child_of (Node n) FileRole) (sym alike.edges)
    where
      by_row : (found : Option NodeRecord) → node_by_id t n ≡ found → AreAlike found (Some row)
          → option_map (child_moved source own.id) (child t n FileRole) ≡ child t n FileRole
      by_row None found bad = absurd bad
      by_row (Some listed) found is = by_child (child t n FileRole) refl
        where
          by_child : (c : Option ℕ) → child t n FileRole ≡ c → option_map (child_moved source own.id) c ≡ c
          by_child None e = refl
          by_child (Some c) e = ap Some (still n c (format_apart n listed c found (ap filter_role is.kind ∙ format) e))

  copies : (n : ℕ) (row : Row) → row_at now n ≡ Some row → row.driver ≡ drivers.CopyOnRead → (below : ℕ) × (child_of (Node n) FileRole u.edges ≡ Some below)
  copies n row there is = by_child (child u n FileRole) refl
    where
      later : IsListedSo u now after stands drawn seen n row
      later = listed_so u now after stands drawn seen n row there

      copying : later.listed.kind ≡ kinds.CopyOnRead
      copying = later.is.kind ∙ ap driver_kind is

      by_child : (found : Option ℕ) → child u n FileRole ≡ found → (below : ℕ) × (child u n FileRole ≡ Some below)
      by_child (Some below) at = (below, at)
      by_child None at =
          let found = later.found in
          let none : filtered u n ≡ None = rw (found, copying) at in
          let itself : disk_node u n ≡ n = disk_of_none u n none in
          let reads : With (node_by_id u n) (IsDiskOf u later.listed) =
          subst (λ (m : ℕ). With (node_by_id u m) (IsDiskOf u later.listed)) itself (stands.reads n later.listed found) in
          let disk = subst (λ (x : Option NodeRecord). With x (IsDiskOf u later.listed)) found reads in
          let own' = disk.own in
          let filter : filter_role kinds.CopyOnRead ≡ None = subst (λ (k : Kind). filter_role k ≡ None) copying own' in
          absurd cc

  -- ---- sizes

  under_sized : HasSize nodes source own.size
  under_sized = by_row (row_at nodes source) refl (subst (λ (r : Option NodeRecord). AreAlike r (row_at nodes source)) at_source (alike.rows source))
    where
      by_row : (row : Option Row) → row_at nodes source ≡ row → AreAlike (Some under) row → HasSize nodes source own.size
      by_row None there bad = absurd bad
      by_row (Some row) there is = record { row = row; there = there; is = sym is.size ∙ sym size }

  source_apart : source ≢ own.id
  source_apart same = let bad = sym at_source ∙ ap (node_by_id t) same ∙ fresh in cc bad

  kept_size : (n s : ℕ) → HasSize nodes n s → HasSize now n s
  kept_size n s has = record { row = has.row; there = row_old n apart ∙ has.there; is = has.is }
    where
      apart : n ≢ own.id
      apart same =
          let none : row_at nodes own.id ≡ None = by_row (row_at nodes own.id) refl (subst (λ (r : Option NodeRecord). AreAlike r (row_at nodes own.id)) fresh (alike.rows own.id)) in
          let bad = sym none ∙ ap (row_at nodes) (sym same) ∙ has.there in
          cc bad
        where
          by_row : (found : Option Row) → row_at nodes own.id ≡ found → AreAlike None found → row_at nodes own.id ≡ None
          by_row None e is = e
          by_row (Some row) e bad = absurd bad

  own_sized : (s : ℕ) → s ≡ own.size → HasSize now own.id s
  own_sized s is = record { row = own_row; there = row_new; is = sym is }

  sizes : (n : ℕ) (row : Row) (role : Role) (below : ℕ) → row_at now n ≡ Some row → child_of (Node n) role u.edges ≡ Some below
      → keeps_size (driver_kind row.driver) role ≡ true → HasSize now below row.size
  sizes n row role below there is keeps = elim (cases_eq n own.id) [
    | inl same ↦ of_own same
    | inr apart ↦ of_other apart (child_of (Node n) role t.edges) refl
  ]
    where
      of_own : n ≡ own.id → HasSize now below row.size
      of_own same =
          let row_is : own_row ≡ row = same_Some own_row row (sym row_new ∙ ap (row_at now) (sym same) ∙ there) in
          let e = role_edge (Node n) role u.edges below is in
          let here = find-Some (λ (r : NodeRecord). r.id == own.id) u.nodes own put.new in
          let may : has_role own.kind e.edge.role ≡ true = stands.roles e.edge own e.there here.0 (e.from ∙ ap Node same) in
          let role_is : role ≡ Filtered
          = sym e.role_is ∙ filtered_role kind e.edge.role (subst (λ (k : Kind). has_role k e.edge.role ≡ true) of_kind may) in
          let leads : below ≡ source
          = same_Some below source (sym is ∙ ap (λ (m : ℕ). child_of (Node m) role u.edges) same ∙ ap (λ (r : Role). child_of (Node own.id) r u.edges) role_is ∙ put.over) in
          subst (λ (m : ℕ). HasSize now m row.size) (sym leads)
          (subst (HasSize now source) (ap (λ (r : Row). r.size) row_is) (kept_size source own.size under_sized))

      of_other : n ≢ own.id → (found : Option ℕ) → child_of (Node n) role t.edges ≡ found → HasSize now below row.size
      of_other apart None e =
          let none : child_of (Node n) role u.edges ≡ None = put.nodes n role apart single ∙ ap (option_map (child_moved source own.id)) e in
          let bad = sym none ∙ is in
          absurd (let never : ⊥ = cc bad in never)
        where
          single : role ≢ Between
          single same =
              let bad : keeps_size (driver_kind row.driver) Between ≡ true = subst (λ (r : Role). keeps_size (driver_kind row.driver) r ≡ true) same keeps in
              between_keeps (driver_kind row.driver) bad
      of_other apart (Some c) e = elim (cases_eq c source) [
        | inl same ↦
            let to_own : below ≡ own.id = sym goes ∙ rw (eq-eqb c source same) refl in
            subst (λ (m : ℕ). HasSize now m row.size) (sym to_own) (own_sized row.size (row_sized same))
        | inr other ↦
            let stays : below ≡ c = sym goes ∙ still n c other in
            subst (λ (m : ℕ). HasSize now m row.size) (sym stays) (kept_size c row.size before)
      ]
        where
          single : role ≢ Between
          single same =
              let bad : keeps_size (driver_kind row.driver) Between ≡ true = subst (λ (r : Role). keeps_size (driver_kind row.driver) r ≡ true) same keeps in
              between_keeps (driver_kind row.driver) bad

          goes : child_moved source own.id c ≡ below
          goes = same_Some (child_moved source own.id c) below (sym (put.nodes n role apart single ∙ ap (option_map (child_moved source own.id)) e) ∙ is)

          before : HasSize nodes c row.size
          before = sized_below nodes joined n row role c (sym (row_old n apart) ∙ there) (ap (child_of (Node n) role) alike.edges ∙ e) keeps

          row_sized : c ≡ source → row.size ≡ own.size
          row_sized same =
              let a = subst (λ (m : ℕ). HasSize nodes m row.size) same before in
              let one : a.row ≡ under_sized.row = same_Some a.row under_sized.row (sym a.there ∙ under_sized.there) in
              sym a.is ∙ ap (λ (r : Row). r.size) one ∙ under_sized.is

  pub start_wiring : IsWiring now (kinds_of u.nodes) u.edges
  start_wiring =
      takes_wiring now (kinds_of u.nodes) u.edges after (edges_fit u now after stands drawn seen) (record { files = files; copies = copies; sizes = sizes })
