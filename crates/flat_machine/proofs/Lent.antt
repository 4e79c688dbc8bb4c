-- Tables stand where nodes are settled, may be written, or may be written no more.
use Rattle.std.proofs.Common.{◌≡◌, ◌≢◌, ℕ, map, refl, sym, ◌∙◌, ap, subst, inl, inr, Bool, true, false, cond, Option, Some, None}
use Rattle.std.specs.Prelude.{◌==◌, ◌||◌, not, IsSome}
use Rattle.std.specs.Option.{option_map, option_and_then}
use Rattle.std.specs.List.{Contains}
use Rattle.std.proofs.lemmas.Bool.{false≢true, eqb-true, eq-eqb, cases_eq, ne_eqb}
use Rattle.blk_graph.specs.declared.edge.Edge.{Edge}
use Rattle.blk_graph.specs.declared.edge.Parent.TheVariants.{Node}
use Rattle.blk_graph.specs.declared.edge.Role.{Role}
use Rattle.blk_graph.specs.declared.edge.Role.TheVariants.{File}
use Rattle.blk_graph.specs.Paths.{IsAcyclic}
use Rattle.blk_graph.specs.Permissions.{has_role}
use Rattle.blk_graph.proofs.Members.{Contains-map, find-Some}
use Rattle.blk_graph.proofs.RefreshLemmas.{IsAcyclic-refreshed, child_of-refreshed}
use Rattle.blk_history.specs.Fold.{With}
use Rattle.qmp_rules.specs.declared.change.Change.TheVariants as change
use Rattle.qmp_rules.specs.declared.change.NewDisk.{NewDisk}
use Rattle.qmp_rules.specs.declared.rows.NodeRecord.{NodeRecord}
use Rattle.qmp_rules.specs.Chains.{filter_role, filtered, disk_node}
use Rattle.qmp_rules.specs.Changes.{changed, node_changed, settled, writable, kept_from_writes}
use Rattle.qmp_rules.specs.Table.{RunTable, node_by_id, child, kinds_of}
use Rattle.flat_machine.specs.Machine.{copies_at, is_copying, copies_through}
use Rattle.flat_machine.specs.Suiting.{IsPlainNode, MayBeWritten, MayBeKept}
use Rattle.flat_machine.specs.Wiring.{LeadsToFile, writes_through, IsDiskOf, IsUnderNoFormat, TableStands}
use Rattle.flat_machine.proofs.Rows.{disk_node-same, copies-same, found_mapped, mapped_apart}
use Rattle.flat_machine.proofs.Tables.{HasLike, same-edge, refreshed-old}
use Rattle.flat_machine.proofs.TablesKept.{same_numbers, own_copies}
use Rattle.flat_machine.proofs.Kept.{own_disk}
use Rattle.flat_machine.proofs.Wired.{with_at, at_with}

pub record KeepsMost (row later : NodeRecord) : Type 0 where
  pub id : later.id ≡ row.id
  pub name : later.name ≡ row.name
  pub kind : later.kind ≡ row.kind
  pub filename : later.filename ≡ row.filename
  pub made_with : later.made_with ≡ row.made_with

-- ---- rows that change in whether they are settled or may be written

module _ (t now : RunTable) (f : NodeRecord → NodeRecord) (keeps : (row : NodeRecord) → KeepsMost row (f row)) (nodes : now.nodes ≡ map f t.nodes)
    (like : (e : Edge) → Contains now.edges e → HasLike t.edges e) (children : (node : ℕ) (role : Role) → child now node role ≡ child t node role) where
  pub record IsLater (later : NodeRecord) : Type 0 where
    pub row : NodeRecord
    pub there : Contains t.nodes row
    pub is : later ≡ f row

  pub was : (later : NodeRecord) → Contains now.nodes later → IsLater later
  was later there = let r = Contains-map f t.nodes later (subst (λ ns. Contains ns later) nodes there) in record { row = r.0; there = r.1; is = r.2 }

  pub id_of : (later : NodeRecord) (r : IsLater later) → later.id ≡ r.row.id
  id_of later r = ap (λ (x : NodeRecord). x.id) r.is ∙ (keeps r.row).id

  pub file_of : (later : NodeRecord) (r : IsLater later) → later.filename ≡ r.row.filename
  file_of later r = ap (λ (x : NodeRecord). x.filename) r.is ∙ (keeps r.row).filename

  pub kind_of : (later : NodeRecord) (r : IsLater later) → later.kind ≡ r.row.kind
  kind_of later r = ap (λ (x : NodeRecord). x.kind) r.is ∙ (keeps r.row).kind

  pub found : (node : ℕ) → node_by_id now node ≡ option_map f (node_by_id t node)
  found node = found_mapped t now f (λ r. (keeps r).id) nodes node

  some : (o : Option NodeRecord) → IsSome o → IsSome (option_map f o)
  some None is = is
  some (Some row) is = refl

  pub was_over : (over under : NodeRecord) (a : IsLater over) (b : IsLater under) → LeadsToFile now over under → LeadsToFile t a.row b.row
  was_over over under a b l =
      let x = like l.edge l.there in
      record {
        over_there = a.there;
        under_there = b.there;
        edge = x.edge;
        there = x.there;
        parent = x.same.parent ∙ l.parent ∙ ap Node (id_of over a);
        role = x.same.role ∙ l.role;
        child = x.same.child ∙ l.child ∙ id_of under b;
      }

  abbrev Any : ℕ → Type 0
  Any node = Unit {0}

  same_filtered : (node : ℕ) → filtered now node ≡ filtered t node
  same_filtered node = by_found (node_by_id t node) (found node)
    where
      by_found : (o : Option NodeRecord) → node_by_id now node ≡ option_map f o
          → option_and_then (child now node) (option_and_then (λ row. filter_role row.kind) (node_by_id now node))
          ≡ option_and_then (child t node) (option_and_then (λ row. filter_role row.kind) o)
      by_found None is = ap (λ q. option_and_then (child now node) (option_and_then (λ (row : NodeRecord). filter_role row.kind) q)) is
      by_found (Some row) is =
          ap (λ q. option_and_then (child now node) (option_and_then (λ (r : NodeRecord). filter_role r.kind) q)) is
          ∙ ap (λ k. option_and_then (child now node) (filter_role k)) (keeps row).kind ∙ by_role (filter_role row.kind)
        where
          by_role : (role : Option Role) → option_and_then (child now node) role ≡ option_and_then (child t node) role
          by_role None = refl
          by_role (Some role) = children node role

  same_copies_at : (node : ℕ) → copies_at now node ≡ copies_at t node
  same_copies_at node = ap (λ o. elim o as (λ _. Bool) [ None ↦ false | Some r ↦ is_copying r.kind ]) (found node) ∙ by_found (node_by_id t node)
    where
      by_found : (o : Option NodeRecord) → (elim (option_map f o) as (λ _. Bool) [ None ↦ false | Some r ↦ is_copying r.kind ])
          ≡ (elim o as (λ _. Bool) [ None ↦ false | Some r ↦ is_copying r.kind ])
      by_found None = refl
      by_found (Some row) = ap is_copying (keeps row).kind

  pub same_disk : (node : ℕ) → disk_node now node ≡ disk_node t node
  same_disk node = disk_node-same t now Any (λ n here. same_filtered n) (λ n below here is. tt) node tt

  pub same_copies : (node : ℕ) → copies_through now node ≡ copies_through t node
  same_copies node = copies-same t now Any (λ n here. same_filtered n) (λ n below here is. tt) (λ n here. same_copies_at n) node tt

  module _ (acyclic : IsAcyclic now.edges) (guests : now.guests ≡ t.guests) (devices : now.devices ≡ t.devices) (h : TableStands t)
      (gone : (over under : NodeRecord) → LeadsToFile t over under → IsSome under.filename → filter_role over.kind ≡ None → (f under).is_settled ≡ false)
      (taken : (over under : NodeRecord) → LeadsToFile t over under → IsSome under.filename → filter_role over.kind ≡ None → (f over).read_only ≡ false
      → (f under).read_only ≡ false)
      (reads : (row disk : NodeRecord) → Contains t.nodes row → Contains t.nodes disk → disk_node t row.id ≡ disk.id
      → writes_through t (f row).read_only row.id ≡ true → (f disk).read_only ≡ false) where
    pub mapped_table : TableStands now
    mapped_table = record {
      apart = mapped_apart t now f (λ r. (keeps r).id) nodes h.apart;
      drivers = λ name later of.
          let r = was later of.there in
          kind_of later r ∙ h.drivers name r.row (record { there = r.there; filename = sym (file_of later r) ∙ of.filename });
      names = λ later there driver. let r = was later there in subst IsSome (sym (file_of later r)) (h.names r.row r.there (sym (kind_of later r) ∙ driver));
      own_names = λ later there none over is.
          let r = was later there in
          λ same. h.own_names r.row r.there (sym (ap (λ (x : NodeRecord). x.made_with) r.is ∙ (keeps r.row).made_with) ∙ none) over is
          (sym (ap (λ (x : NodeRecord). x.name) r.is ∙ (keeps r.row).name) ∙ same);
      hidden = λ later there filter.
          let r = was later there in
          let name : later.name ≡ r.row.name = ap (λ (x : NodeRecord). x.name) r.is ∙ (keeps r.row).name in
          rw name (h.hidden r.row r.there (sym (ap filter_role (kind_of later r)) ∙ filter));
      alone = λ name a b of_a of_b.
          let p = was a of_a.there in
          let q = was b of_b.there in
          id_of a p
          ∙ h.alone name p.row q.row (record { there = p.there; filename = sym (file_of a p) ∙ of_a.filename }) (record { there = q.there; filename = sym (file_of b q) ∙ of_b.filename })
          ∙ sym (id_of b q);
      edges = λ e there.
          let x = like e there in
          let ends = h.edges x.edge x.there in
          record {
            parent = λ node from. subst IsSome (sym (found node)) (some (node_by_id t node) (ends.parent node (x.same.parent ∙ from)));
            child = subst IsSome (sym (found e.child)) (some (node_by_id t e.child) (subst (λ n. IsSome (node_by_id t n)) x.same.child ends.child));
          };
      roles = λ e later there of from.
          let x = like e there in
          let r = was later of in
          ap (λ k. has_role k e.role) (kind_of later r) ∙ ap (has_role r.row.kind) (sym x.same.role)
          ∙ h.roles x.edge r.row x.there r.there (x.same.parent ∙ from ∙ ap Node (id_of later r));
      acyclic = acyclic;
      single = λ e there role.
          let x = like e there in
          let one = h.single x.edge x.there (x.same.role ∙ role) in
          (one.0, (sym x.same.parent ∙ one.1.0, children one.0 File ∙ one.1.1 ∙ ap Some x.same.child));
      taken = λ over under l file own.
          let a = was over l.over_there in
          let b = was under l.under_there in
          let old = was_over over under a b l in
          let named = subst IsSome (file_of under b) file in
          let format = sym (ap filter_role (kind_of over a)) ∙ own in
          let k = h.taken a.row b.row old named format in
          record {
            gone = ap (λ (x : NodeRecord). x.is_settled) b.is ∙ gone a.row b.row old named format;
            sole = λ e there at.
                let x = like e there in
                let s = k.sole x.edge x.there (x.same.child ∙ at ∙ id_of under b) in
                (sym x.same.parent ∙ s.0 ∙ ap Node (sym (id_of over a)), sym x.same.role ∙ s.1);
            writable = λ w. ap (λ (x : NodeRecord). x.read_only) b.is ∙ taken a.row b.row old named format (sym (ap (λ (x : NodeRecord). x.read_only) a.is) ∙ w);
          };
      filtered = λ over under l none.
          let a = was over l.over_there in
          let b = was under l.under_there in
          subst IsSome (sym (ap filter_role (kind_of over a))) (h.filtered a.row b.row (was_over over under a b l) (sym (file_of under b) ∙ none));
      on_top = λ e later over there of from to.
          let x = like e there in
          let r = was later of in
          λ is. h.on_top x.edge r.row over x.there r.there (x.same.parent ∙ from) (x.same.child ∙ to ∙ id_of later r) (sym (kind_of later r) ∙ is);
      reads = λ node later at. reads_later node later at (node_by_id t node) refl;
      numbers = same_numbers t now guests devices h.numbers;
    }
      where
        free_still : (node : ℕ) → IsUnderNoFormat t node → IsUnderNoFormat now node
        free_still node free under over at some l own =
            let a = was over l.over_there in
            let b = was under l.under_there in
            let id_is : under.id ≡ node = eqb-true under.id node (find-Some (λ (r : NodeRecord). r.id == node) now.nodes under at).1 in
            free b.row a.row (ap (node_by_id t) (sym id_is ∙ id_of under b) ∙ h.apart b.row b.there) (subst IsSome (file_of under b) some) (was_over over under a b l)
            (sym (ap filter_role (kind_of over a)) ∙ own)

        reads_disk : (node : ℕ) (row : NodeRecord) → node_by_id t node ≡ Some row → (disk : Option NodeRecord) → node_by_id t (disk_node t node) ≡ disk → With disk (IsDiskOf t row)
            → With (node_by_id now (disk_node now node)) (IsDiskOf now (f row))
        reads_disk node row at None is of = absurd of
        reads_disk node row at (Some disk) is of =
            let row_at = find-Some (λ (r : NodeRecord). r.id == node) t.nodes row at in
            let disk_at = find-Some (λ (r : NodeRecord). r.id == disk_node t node) t.nodes disk is in
            let id : row.id ≡ node = eqb-true row.id node row_at.1 in
            let there : node_by_id now (disk_node now node) ≡ Some (f disk) = ap (node_by_id now) (same_disk node) ∙ found (disk_node t node) ∙ ap (option_map f) is in
            with_at (IsDiskOf now (f row)) (node_by_id now (disk_node now node)) (f disk) there (record {
              own = ap filter_role (keeps disk).kind ∙ of.own;
              itself = λ file. elim (of.itself (subst IsSome (keeps disk).filename file)) [
                | inl same ↦ inl ((keeps disk).id ∙ same ∙ sym (keeps row).id)
                | inr free ↦ inr (free_still (f disk).id (subst (IsUnderNoFormat t) (sym (keeps disk).id) free))
              ];
              writable = λ w.
                  reads row disk row_at.0 disk_at.0 (ap (disk_node t) id ∙ sym (eqb-true disk.id (disk_node t node) disk_at.1))
                  (sym (ap (λ b. not (f row).read_only || b) (ap (copies_through now) (keeps row).id ∙ same_copies row.id)) ∙ w);
            })

        reads_later : (node : ℕ) (later : NodeRecord) → node_by_id now node ≡ Some later → (o : Option NodeRecord) → node_by_id t node ≡ o
            → With (node_by_id now (disk_node now node)) (IsDiskOf now later)
        reads_later node later at None is = absurd (let bad : None ≡ Some later = sym (found node ∙ ap (option_map f) is) ∙ at in cc bad)
        reads_later node later at (Some row) is =
            let same : later ≡ f row = let both : Some later ≡ Some (f row) = sym at ∙ found node ∙ ap (option_map f) is in cc both in
            subst (λ (r : NodeRecord). With (node_by_id now (disk_node now node)) (IsDiskOf now r)) (sym same)
            (reads_disk node row is (node_by_id t (disk_node t node)) refl (h.reads node row is))

-- ---- the three kinds

pub most_settled : (id : ℕ) (row : NodeRecord) → KeepsMost row (node_changed id settled row)
most_settled id row = by_test (row.id == id)
  where
    by_test : (b : Bool) → KeepsMost row (cond b (settled row) row)
    by_test true = record { id = refl; name = refl; kind = refl; filename = refl; made_with = refl }
    by_test false = record { id = refl; name = refl; kind = refl; filename = refl; made_with = refl }

pub most_writable : (id : ℕ) (row : NodeRecord) → KeepsMost row (node_changed id writable row)
most_writable id row = by_test (row.id == id)
  where
    by_test : (b : Bool) → KeepsMost row (cond b (writable row) row)
    by_test true = record { id = refl; name = refl; kind = refl; filename = refl; made_with = refl }
    by_test false = record { id = refl; name = refl; kind = refl; filename = refl; made_with = refl }

pub most_kept : (id : ℕ) (row : NodeRecord) → KeepsMost row (node_changed id kept_from_writes row)
most_kept id row = by_test (row.id == id)
  where
    by_test : (b : Bool) → KeepsMost row (cond b (kept_from_writes row) row)
    by_test true = record { id = refl; name = refl; kind = refl; filename = refl; made_with = refl }
    by_test false = record { id = refl; name = refl; kind = refl; filename = refl; made_with = refl }

-- which row a change finds
pub changed_at : (id : ℕ) (g : NodeRecord → NodeRecord) (row : NodeRecord) → row.id ≡ id → node_changed id g row ≡ g row
changed_at id g row is = rw (eq-eqb row.id id is) refl

pub changed_not : (id : ℕ) (g : NodeRecord → NodeRecord) (row : NodeRecord) → row.id ≢ id → node_changed id g row ≡ row
changed_not id g row not_ = rw (ne_eqb row.id id not_) refl

module _ (t : RunTable) (h : TableStands t) where
  disk_writable : (row disk : NodeRecord) → Contains t.nodes row → Contains t.nodes disk → disk_node t row.id ≡ disk.id → writes_through t row.read_only row.id ≡ true
      → disk.read_only ≡ false
  disk_writable row disk at_row at_disk is w =
      (at_with (IsDiskOf t row) (node_by_id t (disk_node t row.id)) disk (ap (node_by_id t) is ∙ h.apart disk at_disk) (h.reads row.id row (h.apart row at_row))).writable w

  pub settled_stands : (node : ℕ) (disk : NewDisk) → IsPlainNode t node → TableStands (changed t (change.Settle node disk))
  unfolding changed
  settled_stands node disk p =
      mapped_table t (changed t (change.Settle node disk)) f (most_settled node) refl (λ e there. record { edge = e; there = there; same = same-edge e }) (λ n role. refl)
      h.acyclic refl refl h gone
      (λ over under l file own w. same_read_only under ∙ (h.taken over under l file own).writable (sym (same_read_only over) ∙ w))
      (λ row d at_row at_disk is w. same_read_only d ∙ disk_writable row d at_row at_disk is (ap (λ b. not b || copies_through t row.id) (sym (same_read_only row)) ∙ w))
    where
      f : NodeRecord → NodeRecord
      f = node_changed node settled

      same_read_only : (row : NodeRecord) → (node_changed node settled row).read_only ≡ row.read_only
      same_read_only row = by_test (row.id == node)
        where
          by_test : (b : Bool) → (cond b (settled row) row).read_only ≡ row.read_only
          by_test true = refl
          by_test false = refl

      gone : (over under : NodeRecord) → LeadsToFile t over under → IsSome under.filename → filter_role over.kind ≡ None
          → (node_changed node settled under).is_settled ≡ false
      gone over under l file own = elim (cases_eq under.id node) [
        | inl same ↦ absurd (p.free under over (ap (node_by_id t) (sym same) ∙ h.apart under l.under_there) file l own)
        | inr other ↦ ap (λ (r : NodeRecord). r.is_settled) (changed_not node settled under other) ∙ (h.taken over under l file own).gone
      ]

  pub writable_stands : (node : ℕ) → MayBeWritten t node → TableStands (changed t (change.MakeWritable node))
  unfolding changed
  writable_stands node m =
      mapped_table t now f (most_writable node) refl (λ e there. refreshed-old (kinds_of now.nodes) t.edges e there)
      (λ n role. child_of-refreshed (kinds_of now.nodes) (Node n) role t.edges) (IsAcyclic-refreshed (kinds_of now.nodes) t.edges h.acyclic) refl refl h
      (λ over under l file own. same_settled under ∙ (h.taken over under l file own).gone) taken reads
    where
      now : RunTable
      now = changed t (change.MakeWritable node)

      f : NodeRecord → NodeRecord
      f = node_changed node writable

      same_settled : (row : NodeRecord) → (node_changed node writable row).is_settled ≡ row.is_settled
      same_settled row = by_test (row.id == node)
        where
          by_test : (b : Bool) → (cond b (writable row) row).is_settled ≡ row.is_settled
          by_test true = refl
          by_test false = refl

      still : (row : NodeRecord) → row.read_only ≡ false → (node_changed node writable row).read_only ≡ false
      still row is = by_test (row.id == node)
        where
          by_test : (b : Bool) → (cond b (writable row) row).read_only ≡ false
          by_test true = refl
          by_test false = is

      taken : (over under : NodeRecord) → LeadsToFile t over under → IsSome under.filename → filter_role over.kind ≡ None
          → (node_changed node writable over).read_only ≡ false → (node_changed node writable under).read_only ≡ false
      taken over under l file own w = elim (cases_eq over.id node) [
        | inl same ↦
            let one = h.single l.edge l.there l.role in
            let at : one.0 ≡ node = let both : Node one.0 ≡ Node node = sym one.1.0 ∙ l.parent ∙ ap Node same in cc both in
            still under (m.under l.edge.child under (subst (λ n. child t n File ≡ Some l.edge.child) at one.1.1) (ap (node_by_id t) l.child ∙ h.apart under l.under_there))
        | inr other ↦ still under ((h.taken over under l file own).writable (sym (ap (λ (r : NodeRecord). r.read_only) (changed_not node writable over other)) ∙ w))
      ]

      reads : (row disk : NodeRecord) → Contains t.nodes row → Contains t.nodes disk → disk_node t row.id ≡ disk.id → writes_through t (node_changed node writable row).read_only row.id ≡ true
          → (node_changed node writable disk).read_only ≡ false
      reads row disk at_row at_disk is w = elim (cases_eq disk.id node) [
        | inl same ↦ ap (λ (r : NodeRecord). r.read_only) (changed_at node writable disk same)
        | inr other ↦ elim (cases_eq row.id node) [
          | inl own ↦ absurd (other (sym is ∙ ap (disk_node t) own ∙ own_disk t node m.disk.row m.disk.there m.disk.own))
          | inr apart ↦ still disk (disk_writable row disk at_row at_disk is (ap (λ (r : NodeRecord). writes_through t r.read_only row.id) (sym (changed_not node writable row apart)) ∙ w))
        ]
      ]

  pub kept_stands : (node : ℕ) → MayBeKept t node → TableStands (changed t (change.MakeReadOnly node))
  unfolding changed
  kept_stands node m =
      mapped_table t now f (most_kept node) refl (λ e there. refreshed-old (kinds_of now.nodes) t.edges e there)
      (λ n role. child_of-refreshed (kinds_of now.nodes) (Node n) role t.edges) (IsAcyclic-refreshed (kinds_of now.nodes) t.edges h.acyclic) refl refl h
      (λ over under l file own. same_settled under ∙ (h.taken over under l file own).gone) taken reads
    where
      now : RunTable
      now = changed t (change.MakeReadOnly node)

      f : NodeRecord → NodeRecord
      f = node_changed node kept_from_writes

      same_settled : (row : NodeRecord) → (node_changed node kept_from_writes row).is_settled ≡ row.is_settled
      same_settled row = by_test (row.id == node)
        where
          by_test : (b : Bool) → (cond b (kept_from_writes row) row).is_settled ≡ row.is_settled
          by_test true = refl
          by_test false = refl

      -- what may be written could be
      before : (row : NodeRecord) → (node_changed node kept_from_writes row).read_only ≡ false → (row.id ≢ node) × (row.read_only ≡ false)
      before row w = elim (cases_eq row.id node) [
        | inl same ↦ absurd (let bad : true ≡ false = sym (ap (λ (r : NodeRecord). r.read_only) (changed_at node kept_from_writes row same)) ∙ w in false≢true (sym bad))
        | inr other ↦ (other, sym (ap (λ (r : NodeRecord). r.read_only) (changed_not node kept_from_writes row other)) ∙ w)
      ]

      taken : (over under : NodeRecord) → LeadsToFile t over under → IsSome under.filename → filter_role over.kind ≡ None
          → (node_changed node kept_from_writes over).read_only ≡ false → (node_changed node kept_from_writes under).read_only ≡ false
      taken over under l file own w =
          let was = before over w in
          elim (cases_eq under.id node) [
            | inl same ↦ absurd (false≢true (sym was.1 ∙ m.over l.edge over l.there l.over_there l.parent l.role (l.child ∙ same)))
            | inr other ↦ ap (λ (r : NodeRecord). r.read_only) (changed_not node kept_from_writes under other) ∙ (h.taken over under l file own).writable was.1
          ]

      -- what writes through a row wrote through it before
      wrote : (row : NodeRecord) → (b : Bool) → (row.id == node) ≡ b → writes_through t (cond b (kept_from_writes row) row).read_only row.id ≡ true
          → writes_through t row.read_only row.id ≡ true
      wrote row true is w = rw w (last_true (not row.read_only))
        where
          last_true : (b : Bool) → (b || true) ≡ true
          last_true true = refl
          last_true false = refl
      wrote row false is w = w

      reads : (row disk : NodeRecord) → Contains t.nodes row → Contains t.nodes disk → disk_node t row.id ≡ disk.id → writes_through t (node_changed node kept_from_writes row).read_only row.id ≡ true
          → (node_changed node kept_from_writes disk).read_only ≡ false
      reads row disk at_row at_disk is w = elim (cases_eq disk.id node) [
        | inl same ↦ absurd (no_more row at_row (is ∙ same) w)
        | inr other ↦ ap (λ (r : NodeRecord). r.read_only) (changed_not node kept_from_writes disk other)
            ∙ disk_writable row disk at_row at_disk is (wrote row (row.id == node) refl w)
      ]
        where
          no_more : (row : NodeRecord) → Contains t.nodes row → disk_node t row.id ≡ node → writes_through t (node_changed node kept_from_writes row).read_only row.id ≡ true → ⊥
          no_more row at to w = elim (cases_eq row.id node) [
            | inl same ↦
                let only : copies_through t row.id ≡ true = ap (λ (r : NodeRecord). writes_through t r.read_only row.id) (sym (changed_at node kept_from_writes row same)) ∙ w in
                false≢true (sym (own_copies t node m.disk.row m.disk.there m.disk.own) ∙ ap (copies_through t) (sym same) ∙ only)
            | inr other ↦ other (m.filters row at to (ap (λ (r : NodeRecord). writes_through t r.read_only row.id) (sym (changed_not node kept_from_writes row other)) ∙ w))
          ]
