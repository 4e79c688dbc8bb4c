-- What holds of tables stays where their rows and edges stay, with new ones beside them.
use Rattle.std.proofs.Common.{◌≡◌, ◌≢◌, ◌⊎◌, ℕ, Bool, true, false, List, refl, sym, ap, subst, ◌∙◌, inl, inr, Option, Some, None}
use Rattle.std.specs.Prelude.{◌==◌, ◌||◌, not, IsSome, option_and_then}
use Rattle.std.specs.List.{Contains}
use Rattle.std.proofs.lemmas.Bool.{eqb-true}
use Rattle.blk_graph.specs.declared.edge.Edge.{Edge}
use Rattle.blk_graph.specs.declared.edge.Parent.TheVariants.{Node}
use Rattle.blk_graph.specs.declared.edge.Role.{Role}
use Rattle.blk_graph.specs.declared.edge.Role.TheVariants.{File, Filtered}
use Rattle.blk_graph.specs.declared.kind.Kind.TheVariants.{Protocol, CopyOnRead}
use Rattle.blk_graph.specs.Paths.{IsAcyclic}
use Rattle.blk_graph.specs.Permissions.{has_role}
use Rattle.blk_graph.proofs.Members.{find-Some}
use Rattle.blk_graph.proofs.EditLemmas.{IsSameEdge}
use Rattle.blk_graph.proofs.ChildLemmas.{child-edge}
use Rattle.qmp_rules.specs.declared.rows.NodeRecord.{NodeRecord}
use Rattle.qmp_rules.specs.Table.{RunTable, node_by_id, child}
use Rattle.qmp_rules.specs.Chains.{filter_role, filtered, disk_node}
use Rattle.qmp_asks.specs.Naming.{is_name}
use Rattle.blk_history.specs.Fold.{With}
use Rattle.flat_machine.specs.Machine.{copies_at, is_copying, copies_through}
use Rattle.flat_machine.specs.Wiring.{HaveDistinctIds, HasEnds, StandsFor, IsFileOf, LeadsToFile, HasOwnName, IsUnderOne, IsUnderNoFormat, IsDiskOf, AreNumbered, TableStands}
use Rattle.flat_machine.proofs.Tables.{HasLike}
use Rattle.flat_machine.proofs.Rows.{IsLike, BothAt, disk_node-same, disk_node-there, disk_reached, copies-at, copies-same}

-- ---- what stays

pub record OldRow (t : RunTable) (P : ℕ → Type 0) (later : NodeRecord) : Type 0 where
  pub row : NodeRecord
  pub there : Contains t.nodes row
  pub kept : P row.id
  pub like : IsLike row later

pub record OldEdge (t : RunTable) (P : ℕ → Type 0) (e : Edge) : Type 0 where
  pub edge : Edge
  pub there : Contains t.edges edge
  pub same : IsSameEdge edge e
  pub parent : (node : ℕ) → edge.parent ≡ Node node → P node
  pub child : P edge.child

-- The nodes of which `P` says so stay, with their edges; a row or an edge that isn't one of theirs is new.
pub record Grows (t now : RunTable) (P : ℕ → Type 0) (IsNewRow : NodeRecord → Type 0) (IsNewEdge : Edge → Type 0) : Type 0 where
  pub rows : (later : NodeRecord) → Contains now.nodes later → OldRow t P later ⊎ IsNewRow later
  pub stays : (node : ℕ) → P node → BothAt t now node
  pub apart : HaveDistinctIds now
  pub others : (row : NodeRecord) → IsNewRow row → P row.id → ⊥
  pub one : (a b : NodeRecord) → IsNewRow a → IsNewRow b → a.id ≡ b.id
  pub edges : (e : Edge) → Contains now.edges e → OldEdge t P e ⊎ IsNewEdge e
  pub keeps : (e : Edge) (node : ℕ) → Contains t.edges e → e.parent ≡ Node node → P node → HasLike now.edges e
  pub children : (node : ℕ) (role : Role) → P node → child now node role ≡ child t node role
  pub goes : (node below : ℕ) (role : Role) → P node → child t node role ≡ Some below → P below

-- ---- what is asked of what is new

pub record NewRows (t now : RunTable) (IsNewRow : NodeRecord → Type 0) : Type 0 where
  pub drivers : (name : List ℕ) (row : NodeRecord) → IsNewRow row → row.filename ≡ Some name → row.kind ≡ Protocol
  pub names : (row : NodeRecord) → IsNewRow row → row.kind ≡ Protocol → IsSome row.filename
  pub own_names : (row : NodeRecord) → IsNewRow row → HasOwnName row
  pub hidden : (row : NodeRecord) → IsNewRow row → filter_role row.kind ≡ Some Filtered → is_name row.name ≡ false
  pub closed : (name : List ℕ) (row old : NodeRecord) → IsNewRow row → row.filename ≡ Some name → StandsFor t name old → ⊥
  pub reads : (row : NodeRecord) → IsNewRow row → With (node_by_id now (disk_node now row.id)) (IsDiskOf now row)

pub record NewEdges (t now : RunTable) (IsNewEdge : Edge → Type 0) : Type 0 where
  pub ends : (e : Edge) → IsNewEdge e → HasEnds now e
  pub roles : (e : Edge) (row : NodeRecord) → IsNewEdge e → Contains now.nodes row → e.parent ≡ Node row.id → has_role row.kind e.role ≡ true
  pub single : (e : Edge) → IsNewEdge e → e.role ≡ File → (node : ℕ) × IsFileOf now e node
  pub taken : (over under : NodeRecord) (f : LeadsToFile now over under) → IsNewEdge f.edge → IsSome under.filename → filter_role over.kind ≡ None
      → IsUnderOne now over under
  pub first : (over under : NodeRecord) (f : LeadsToFile now over under) → IsNewEdge f.edge → IsSome under.filename → filter_role over.kind ≡ None
      → (e : Edge) → Contains t.edges e → e.child ≢ under.id
  pub filtered : (over under : NodeRecord) (f : LeadsToFile now over under) → IsNewEdge f.edge → under.filename ≡ None
      → IsSome (filter_role over.kind)
  pub on_top : (e : Edge) (row : NodeRecord) (over : ℕ) → IsNewEdge e → Contains now.nodes row → e.parent ≡ Node over → e.child ≡ row.id
      → row.kind ≢ CopyOnRead
  pub free : (e : Edge) (over under : NodeRecord) → IsNewEdge e → LeadsToFile t over under → IsSome under.filename → filter_role over.kind ≡ None
      → e.child ≢ under.id

-- nothing is new
abbrev pub NoRow : NodeRecord → Type 0
NoRow row = ⊥

abbrev pub NoEdge : Edge → Type 0
NoEdge e = ⊥

pub no_rows : (t now : RunTable) → NewRows t now NoRow
no_rows t now = record {
  drivers = λ name row never. absurd never;
  names = λ row never. absurd never;
  own_names = λ row never. absurd never;
  hidden = λ row never. absurd never;
  closed = λ name row old never. absurd never;
  reads = λ row never. absurd never;
}

pub no_edges : (t now : RunTable) → NewEdges t now NoEdge
no_edges t now = record {
  ends = λ e never. absurd never;
  roles = λ e row never. absurd never;
  single = λ e never. absurd never;
  taken = λ over under f never. absurd never;
  first = λ over under f never. absurd never;
  filtered = λ over under f never. absurd never;
  on_top = λ e row over never. absurd never;
  free = λ e over under never. absurd never;
}

-- ---- options

pub with_at : {A : Type 0} (P : A → Type 0) (o : Option A) (a : A) → o ≡ Some a → P a → With o P
with_at P o a e h = subst (λ x. With x P) (sym e) h

pub at_with : {A : Type 0} (P : A → Type 0) (o : Option A) (a : A) → o ≡ Some a → With o P → P a
at_with P o a e h = subst (λ x. With x P) e h

-- ---- nodes that others read as

pub record IsChild (t : RunTable) (node : ℕ) : Type 0 where
  pub edge : Edge
  pub there : Contains t.edges edge
  pub child : edge.child ≡ node

-- an edge leads to a node that another one reads as
pub disk-child : (t : RunTable) (node : ℕ) → (disk_node t node ≡ node) ⊎ IsChild t (disk_node t node)
disk-child t node = disk_reached t (IsChild t) (λ n below is. by_role n below (option_and_then (λ row. filter_role row.kind) (node_by_id t n)) is) node
  where
    by_role : (n below : ℕ) (role : Option Role) → option_and_then (child t n) role ≡ Some below → IsChild t below
    by_role n below None is = absurd cc
    by_role n below (Some role) is =
        let e = child-edge (Node n) role t.edges below is in
        record { edge = e.edge; there = e.there; child = e.to }

-- ---- it stays

module _ (t now : RunTable) (P : ℕ → Type 0) (IsNewRow : NodeRecord → Type 0) (IsNewEdge : Edge → Type 0)
    (g : Grows t now P IsNewRow IsNewEdge) where
  -- what is left of a row that stays
  old_row : (later : NodeRecord) → Contains now.nodes later → P later.id → OldRow t P later
  old_row later there here = elim (g.rows later there) [
    | inl old ↦ old
    | inr is_new ↦ absurd (g.others later is_new here)
  ]

  still_there : (node : ℕ) → P node → IsSome (node_by_id now node)
  still_there node here = subst IsSome (sym (g.stays node here).found_later) refl

  abbrev role_at : RunTable → ℕ → Option Role
  role_at table node = option_and_then (λ row. filter_role row.kind) (node_by_id table node)

  pub filtered-same : (node : ℕ) → P node → filtered now node ≡ filtered t node
  filtered-same node here = ap (option_and_then (child now node)) roles ∙ by_role (role_at t node)
    where
      both : BothAt t now node
      both = g.stays node here

      roles : role_at now node ≡ role_at t node
      roles =
          ap (option_and_then (λ row. filter_role row.kind)) both.found_later ∙ ap filter_role both.like.kind
          ∙ sym (ap (option_and_then (λ row. filter_role row.kind)) both.found)

      by_role : (role : Option Role) → option_and_then (child now node) role ≡ option_and_then (child t node) role
      by_role None = refl
      by_role (Some role) = g.children node role here

  pub filtered-goes : (node below : ℕ) → P node → filtered t node ≡ Some below → P below
  filtered-goes node below here = by_role (role_at t node)
    where
      by_role : (role : Option Role) → option_and_then (child t node) role ≡ Some below → P below
      by_role None e = absurd cc
      by_role (Some role) e = g.goes node below role here e

  copies_at-same : (node : ℕ) → P node → copies_at now node ≡ copies_at t node
  copies_at-same node here =
      let both = g.stays node here in
      copies-at now node both.later both.found_later ∙ ap is_copying both.like.kind ∙ sym (copies-at t node both.row both.found)

  pub same_disk : (node : ℕ) → P node → disk_node now node ≡ disk_node t node
  same_disk node here = disk_node-same t now P filtered-same filtered-goes node here

  pub disk_there : (node : ℕ) → P node → P (disk_node t node)
  disk_there node here = disk_node-there t now P filtered-same filtered-goes node here

  pub same_copies : (node : ℕ) → P node → copies_through now node ≡ copies_through t node
  same_copies node here = copies-same t now P filtered-same filtered-goes copies_at-same node here

  -- a file edge that stays, with its rows
  pub record WasFile (over under : NodeRecord) : Type 0 where
    pub over_row : OldRow t P over
    pub under_row : OldRow t P under
    pub file : LeadsToFile t over_row.row under_row.row

  pub was_file : (over under : NodeRecord) (f : LeadsToFile now over under) → OldEdge t P f.edge → WasFile over under
  was_file over under f old =
      let from = old.same.parent ∙ f.parent in
      let to = old.same.child ∙ f.child in
      let over_row : OldRow t P over = old_row over f.over_there (old.parent over.id from) in
      let under_row : OldRow t P under = old_row under f.under_there (subst P to old.child) in
      record {
        over_row = over_row;
        under_row = under_row;
        file = record {
          over_there = over_row.there;
          under_there = under_row.there;
          edge = old.edge;
          there = old.there;
          parent = from ∙ ap Node over_row.like.id;
          role = old.same.role ∙ f.role;
          child = to ∙ under_row.like.id;
        };
      }

  pub stood_for : (name : List ℕ) (later : NodeRecord) (old : OldRow t P later) → StandsFor now name later → StandsFor t name old.row
  stood_for name later old over = record { there = old.there; filename = sym old.like.filename ∙ over.filename }

  module _ (rows : NewRows t now IsNewRow) (edges : NewEdges t now IsNewEdge) (h : TableStands t) where
    own_before : (over : NodeRecord) (was : OldRow t P over) → filter_role over.kind ≡ None → filter_role was.row.kind ≡ None
    own_before over was own = sym (ap filter_role was.like.kind) ∙ own

    taken_still : (over under : NodeRecord) (w : WasFile over under) → IsSome under.filename → filter_role over.kind ≡ None → IsUnderOne now over under
    taken_still over under w some own =
        let some_before = subst IsSome w.under_row.like.filename some in
        let k = h.taken w.over_row.row w.under_row.row w.file some_before (own_before over w.over_row own) in
        record {
          gone = by_disk under.is_settled refl k.gone;
          sole = λ e there is. elim (g.edges e there) [
            | inl old ↦
                let s = k.sole old.edge old.there (old.same.child ∙ is ∙ w.under_row.like.id) in
                (sym old.same.parent ∙ s.0 ∙ ap Node (sym w.over_row.like.id), sym old.same.role ∙ s.1)
            | inr is_new ↦ absurd (edges.free e w.over_row.row w.under_row.row is_new w.file some_before (own_before over w.over_row own)
                (is ∙ w.under_row.like.id))
          ];
          writable = λ r. w.under_row.like.read_only ∙ k.writable (sym w.over_row.like.read_only ∙ r);
        }
      where
        by_disk : (b : Bool) → under.is_settled ≡ b → w.under_row.row.is_settled ≡ false → b ≡ false
        by_disk false e gone = refl
        by_disk true e gone = let had = w.under_row.like.settled e in absurd cc

    one_id : (name : List ℕ) (a b : NodeRecord) → StandsFor now name a → StandsFor now name b
        → (OldRow t P a ⊎ IsNewRow a) → (OldRow t P b ⊎ IsNewRow b) → a.id ≡ b.id
    one_id name a b over_a over_b (inl old_a) (inl old_b) =
        old_a.like.id ∙ h.alone name old_a.row old_b.row (stood_for name a old_a over_a) (stood_for name b old_b over_b)
        ∙ sym old_b.like.id
    one_id name a b over_a over_b (inl old_a) (inr new_b) =
        absurd (rows.closed name b old_a.row new_b over_b.filename (stood_for name a old_a over_a))
    one_id name a b over_a over_b (inr new_a) (inl old_b) =
        absurd (rows.closed name a old_b.row new_a over_a.filename (stood_for name b old_b over_b))
    one_id name a b over_a over_b (inr new_a) (inr new_b) = g.one a b new_a new_b

    -- no format node is put over a node to which an edge leads
    free_still : (disk later : NodeRecord) → IsLike disk later → IsChild t disk.id → IsUnderNoFormat t disk.id → IsUnderNoFormat now later.id
    free_still disk later like reached free under over at some f own =
        let id_is : under.id ≡ later.id = eqb-true under.id later.id (find-Some (λ r. r.id == later.id) now.nodes under at).1 in
        elim (g.edges f.edge f.there) [
          | inl old ↦
              let w = was_file over under f old in
              let was = w.under_row in
              let same : was.row.id ≡ disk.id = sym was.like.id ∙ id_is ∙ like.id in
              free was.row w.over_row.row (subst (λ n. node_by_id t n ≡ Some was.row) same (h.apart was.row was.there))
              (subst IsSome was.like.filename some) w.file (own_before over w.over_row own)
          | inr is_new ↦ edges.first over under f is_new some own reached.edge reached.there (reached.child ∙ sym like.id ∙ sym id_is)
        ]

    disk_like : (row later disk disk_later : NodeRecord) → P row.id → IsLike row later → IsLike disk disk_later → disk.id ≡ disk_node t row.id
        → IsDiskOf t row disk → IsDiskOf now later disk_later
    disk_like row later disk disk_later here like like_disk is of = record {
      own = ap filter_role like_disk.kind ∙ of.own;
      itself = λ some. elim (disk-child t row.id) [
        | inl own ↦ inl (like_disk.id ∙ is ∙ own ∙ sym like.id)
        | inr reached ↦ elim (of.itself (subst IsSome like_disk.filename some)) [
          | inl same ↦ inl (like_disk.id ∙ same ∙ sym like.id)
          | inr free ↦ inr (free_still disk disk_later like_disk (subst (IsChild t) (sym is) reached) free)
        ]
      ];
      writable = λ w. like_disk.read_only ∙ of.writable (sym writes ∙ w);
    }
      where
        writes : (not later.read_only || copies_through now later.id) ≡ (not row.read_only || copies_through t row.id)
        writes =
            ap (λ b. not b || copies_through now later.id) like.read_only
            ∙ ap (λ n. not row.read_only || copies_through now n) like.id
            ∙ ap (λ b. not row.read_only || b) (same_copies row.id here)

    reads_still : (node : ℕ) (later : NodeRecord) → node_by_id now node ≡ Some later → With (node_by_id now (disk_node now node)) (IsDiskOf now later)
    reads_still node later found =
        let here = find-Some (λ r. r.id == node) now.nodes later found in
        let is : later.id ≡ node = eqb-true later.id node here.1 in
        by_row here.0 is (g.rows later here.0)
      where
        disk_is : (both : BothAt t now (disk_node t node)) (row : NodeRecord) → row.id ≡ node → both.row.id ≡ disk_node t row.id
        disk_is both row same =
            eqb-true both.row.id (disk_node t node) (find-Some (λ r. r.id == disk_node t node) t.nodes both.row both.found).1
            ∙ ap (disk_node t) (sym same)

        by_row : Contains now.nodes later → later.id ≡ node → (OldRow t P later ⊎ IsNewRow later)
            → With (node_by_id now (disk_node now node)) (IsDiskOf now later)
        by_row there is (inr is_new) = subst (λ n. With (node_by_id now (disk_node now n)) (IsDiskOf now later)) is (rows.reads later is_new)
        by_row there is (inl old) =
            let same : old.row.id ≡ node = sym old.like.id ∙ is in
            let here : P node = subst P same old.kept in
            let both : BothAt t now (disk_node t node) = g.stays (disk_node t node) (disk_there node here) in
            let at_node : node_by_id t node ≡ Some old.row = subst (λ n. node_by_id t n ≡ Some old.row) same (h.apart old.row old.there) in
            let was : IsDiskOf t old.row both.row =
            at_with (IsDiskOf t old.row) (node_by_id t (disk_node t node)) both.row both.found (h.reads node old.row at_node) in
            subst (λ n. With (node_by_id now n) (IsDiskOf now later)) (sym (same_disk node here))
            (with_at (IsDiskOf now later) (node_by_id now (disk_node t node)) both.later both.found_later
            (disk_like old.row later both.row both.later old.kept old.like both.like (disk_is both old.row same) was))

    pub grown_stands : AreNumbered now → IsAcyclic now.edges → TableStands now
    grown_stands numbers acyclic = record {
      apart = g.apart;
      drivers = λ name row over. elim (g.rows row over.there) [
        | inl old ↦ old.like.kind ∙ h.drivers name old.row (stood_for name row old over)
        | inr is_new ↦ rows.drivers name row is_new over.filename
      ];
      names = λ row there driver. elim (g.rows row there) [
        | inl old ↦ subst IsSome (sym old.like.filename) (h.names old.row old.there (sym old.like.kind ∙ driver))
        | inr is_new ↦ rows.names row is_new driver
      ];
      own_names = λ row there alone over is same. elim (g.rows row there) [
        | inl old ↦ h.own_names old.row old.there (sym old.like.made_with ∙ alone) over is (sym old.like.name ∙ same)
        | inr is_new ↦ rows.own_names row is_new alone over is same
      ];
      hidden = λ row there filter. elim (g.rows row there) [
        | inl old ↦ ap is_name old.like.name ∙ h.hidden old.row old.there (sym (ap filter_role old.like.kind) ∙ filter)
        | inr is_new ↦ rows.hidden row is_new filter
      ];
      alone = λ name a b over_a over_b. one_id name a b over_a over_b (g.rows a over_a.there) (g.rows b over_b.there);
      edges = λ e there. elim (g.edges e there) [
        | inl old ↦ record {
          parent = λ node is. still_there node (old.parent node (old.same.parent ∙ is));
          child = subst (λ n. IsSome (node_by_id now n)) old.same.child (still_there old.edge.child old.child);
        }
        | inr is_new ↦ edges.ends e is_new
      ];
      roles = λ e row there row_there is. elim (g.edges e there) [
        | inl old ↦
            let from = old.same.parent ∙ is in
            let was : OldRow t P row = old_row row row_there (old.parent row.id from) in
            let role = h.roles old.edge was.row old.there was.there (from ∙ ap Node was.like.id) in
            subst (λ k. has_role k e.role ≡ true) (sym was.like.kind) (subst (λ r. has_role was.row.kind r ≡ true) old.same.role role)
        | inr is_new ↦ edges.roles e row is_new row_there is
      ];
      acyclic = acyclic;
      single = λ e there role. elim (g.edges e there) [
        | inl old ↦
            let o = h.single old.edge old.there (old.same.role ∙ role) in
            (o.0, (sym old.same.parent ∙ o.1.0, g.children o.0 File (old.parent o.0 o.1.0) ∙ o.1.1 ∙ ap Some old.same.child))
        | inr is_new ↦ edges.single e is_new role
      ];
      taken = λ over under f some own. elim (g.edges f.edge f.there) [
        | inl old ↦ taken_still over under (was_file over under f old) some own
        | inr is_new ↦ edges.taken over under f is_new some own
      ];
      filtered = λ over under f none. elim (g.edges f.edge f.there) [
        | inl old ↦
            let w = was_file over under f old in
            subst IsSome (sym (ap filter_role w.over_row.like.kind))
            (h.filtered w.over_row.row w.under_row.row w.file (sym w.under_row.like.filename ∙ none))
        | inr is_new ↦ edges.filtered over under f is_new none
      ];
      on_top = λ e row over there row_there from to. elim (g.edges e there) [
        | inl old ↦
            let was : OldRow t P row = old_row row row_there (subst P (old.same.child ∙ to) old.child) in
            subst (λ k. k ≢ CopyOnRead) (sym was.like.kind)
            (h.on_top old.edge was.row over old.there was.there (old.same.parent ∙ from) (old.same.child ∙ to ∙ was.like.id))
        | inr is_new ↦ edges.on_top e row over is_new row_there from to
      ];
      reads = reads_still;
      numbers = numbers;
    }
