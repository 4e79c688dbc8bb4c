-- What holds of tables stays where edges are sent to other nodes, and nodes get other backing nodes.
use Rattle.std.proofs.Common.{◌≡◌, ◌≢◌, ◌⊎◌, ℕ, true, List, refl, sym, ap, subst, ◌∙◌, inl, inr, Option, Some, None, option_map}
use Rattle.std.specs.Prelude.{◌==◌, ◌||◌, not, IsSome}
use Rattle.std.specs.List.{Contains}
use Rattle.std.proofs.lemmas.Bool.{eqb-true}
use Rattle.blk_graph.specs.declared.edge.Edge.{Edge}
use Rattle.blk_graph.specs.declared.edge.Parent.{Parent}
use Rattle.blk_graph.specs.declared.edge.Parent.TheVariants.{Node, Guest}
use Rattle.blk_graph.specs.declared.edge.Role.{Role}
use Rattle.blk_graph.specs.declared.edge.Role.TheVariants.{Drive, File, Backing, Between}
use Rattle.blk_graph.specs.declared.kind.Kind.TheVariants.{CopyOnRead}
use Rattle.blk_graph.specs.Edits.{child_of}
use Rattle.blk_graph.specs.Paths.{IsAcyclic}
use Rattle.blk_graph.specs.Permissions.{has_role}
use Rattle.blk_graph.proofs.Members.{find-Some}
use Rattle.qmp_rules.specs.declared.rows.NodeRecord.{NodeRecord}
use Rattle.qmp_rules.specs.Table.{RunTable, node_by_id, child}
use Rattle.qmp_rules.specs.Chains.{filter_role, disk_node}
use Rattle.blk_history.specs.Fold.{With}
use Rattle.flat_machine.specs.State.{drive_of}
use Rattle.flat_machine.specs.Machine.{copies_through}
use Rattle.flat_machine.specs.Wiring.{HasEnds, StandsFor, LeadsToFile, IsDiskOf, IsUnderNoFormat, TableStands}
use Rattle.flat_machine.proofs.Rows.{same_row}

-- ---- edges that are sent elsewhere

-- a node from which edges are sent to another one: no format node is over either's file, and the other copies nothing
pub record IsSent (t : RunTable) (from to : ℕ) : Type 0 where
  pub row : NodeRecord
  pub there : Contains t.nodes row
  pub id : row.id ≡ to
  pub plain : row.kind ≢ CopyOnRead
  pub free : IsUnderNoFormat t to
  pub away : IsUnderNoFormat t from

-- an edge of the table, which leads where it is sent
pub record LedFrom (t : RunTable) (lead : Parent → ℕ → ℕ) (e : Edge) : Type 0 where
  pub edge : Edge
  pub there : Contains t.edges edge
  pub parent : edge.parent ≡ e.parent
  pub role : edge.role ≡ e.role
  pub child : e.child ≡ lead edge.parent edge.child

pub record LedTo (edges : List Edge) (lead : Parent → ℕ → ℕ) (e : Edge) : Type 0 where
  pub edge : Edge
  pub there : Contains edges edge
  pub parent : edge.parent ≡ e.parent
  pub role : edge.role ≡ e.role
  pub child : edge.child ≡ lead e.parent e.child

-- a new edge to a backing node
pub record IsBacking (t : RunTable) (e : Edge) : Type 0 where
  pub role : e.role ≡ Backing
  pub over : NodeRecord
  pub over_there : Contains t.nodes over
  pub parent : e.parent ≡ Node over.id
  pub can : has_role over.kind Backing ≡ true
  pub under : NodeRecord
  pub under_there : Contains t.nodes under
  pub child : e.child ≡ under.id
  pub free : IsUnderNoFormat t under.id
  pub plain : under.kind ≢ CopyOnRead

pub record Leads (t : RunTable) (edges : List Edge) (lead : Parent → ℕ → ℕ) : Type 0 where
  pub sent : (p : Parent) (c : ℕ) → (lead p c ≡ c) ⊎ IsSent t c (lead p c)
  pub old : (e : Edge) → Contains edges e → LedFrom t lead e ⊎ IsBacking t e
  pub keeps : (e : Edge) → Contains t.edges e → e.role ≡ File → LedTo edges lead e
  pub children : (n : ℕ) (row : NodeRecord) (role : Role) → node_by_id t n ≡ Some row → has_role row.kind role ≡ true → role ≢ Backing → role ≢ Between
      → child_of (Node n) role edges ≡ option_map (lead (Node n)) (child t n role)
  pub drives : (g : ℕ) → child_of (Guest g) Drive edges ≡ option_map (lead (Guest g)) (drive_of t g)

-- ---- it stays

module _ (t : RunTable) (es : List Edge) (lead : Parent → ℕ → ℕ) (l : Leads t es lead) (h : TableStands t) where
  abbrev pub led : RunTable
  led = record t { edges = es }

  -- the row of a node that is there
  pub row_there : (n : ℕ) → IsSome (node_by_id t n) → (row : NodeRecord) × Contains t.nodes row × (row.id ≡ n)
  row_there n some = by_row (node_by_id t n) refl some
    where
      by_row : (found : Option NodeRecord) → node_by_id t n ≡ found → IsSome found → (row : NodeRecord) × Contains t.nodes row × (row.id ≡ n)
      by_row None is none = absurd cc
      by_row (Some row) is some_row = let here = find-Some (λ r. r.id == n) t.nodes row is in (row, here.0, eqb-true row.id n here.1)

  -- no edge of a format node to its file is sent elsewhere
  pub stays_put : (over : NodeRecord) (e : Edge) → Contains t.nodes over → Contains t.edges e → e.parent ≡ Node over.id → e.role ≡ File
      → filter_role over.kind ≡ None → lead e.parent e.child ≡ e.child
  stays_put over e over_there there parent role own = elim (l.sent e.parent e.child) [
    | inl same ↦ same
    | inr sent ↦ by_row sent (row_there e.child (h.edges e there).child)
  ]
    where
      by_name : (under : NodeRecord) → LeadsToFile t over under → under.id ≡ e.child → IsUnderNoFormat t e.child → (name : Option (List ℕ))
          → under.filename ≡ name → ⊥
      by_name under f id away (Some name) named =
          away under over (subst (λ n. node_by_id t n ≡ Some under) id (h.apart under f.under_there)) (subst IsSome (sym named) refl) f own
      by_name under f id away None named = let filter = h.filtered over under f named in let none = subst IsSome own filter in cc

      by_row : IsSent t e.child (lead e.parent e.child) → ((row : NodeRecord) × Contains t.nodes row × (row.id ≡ e.child)) → lead e.parent e.child ≡ e.child
      by_row sent (under, at, id) =
          let leads : LeadsToFile t over under
          = record { over_there = over_there; under_there = at; edge = e; there = there; parent = parent; role = role; child = sym id } in
          absurd (by_name under leads id sent.away under.filename refl)

  pub was_file : (over under : NodeRecord) → LeadsToFile led over under → filter_role over.kind ≡ None → LeadsToFile t over under
  was_file over under f own = elim (l.old f.edge f.there) [
    | inl o ↦ record {
      over_there = f.over_there;
      under_there = f.under_there;
      edge = o.edge;
      there = o.there;
      parent = o.parent ∙ f.parent;
      role = o.role ∙ f.role;
      child = sym (stays_put over o.edge f.over_there o.there (o.parent ∙ f.parent) (o.role ∙ f.role) own) ∙ sym o.child ∙ f.child;
    }
    | inr new ↦ absurd (let bad = sym new.role ∙ f.role in cc)
  ]

  pub free_led : (n : ℕ) → IsUnderNoFormat t n → IsUnderNoFormat led n
  free_led n free under over at some f own = free under over at some (was_file over under f own) own

  pub stood : (name : List ℕ) (row : NodeRecord) → StandsFor led name row → StandsFor t name row
  stood name row of = record { there = of.there; filename = of.filename }

  -- nodes that read as they did, and copy what they did
  pub kept_reads : ((n : ℕ) → IsSome (node_by_id t n) → disk_node led n ≡ disk_node t n)
      → ((n : ℕ) → IsSome (node_by_id t n) → copies_through led n ≡ copies_through t n)
      → (n : ℕ) (row : NodeRecord) → node_by_id t n ≡ Some row → With (node_by_id t (disk_node led n)) (IsDiskOf led row)
  kept_reads disks copies n row at =
      subst (λ m. With (node_by_id t m) (IsDiskOf led row)) (sym (disks n (subst IsSome (sym at) refl))) (by_disk (node_by_id t (disk_node t n)) (h.reads n row at))
    where
      id : row.id ≡ n
      id = eqb-true row.id n (find-Some (λ r. r.id == n) t.nodes row at).1

      same : copies_through led row.id ≡ copies_through t row.id
      same = copies row.id (subst IsSome (sym (subst (λ m. node_by_id t m ≡ Some row) (sym id) at)) refl)

      by_disk : (disk : Option NodeRecord) → With disk (IsDiskOf t row) → With disk (IsDiskOf led row)
      by_disk None never = never
      by_disk (Some disk) k = record {
        own = k.own;
        itself = λ some. elim (k.itself some) [ inl is ↦ inl is | inr free ↦ inr (free_led disk.id free) ];
        writable = λ w. k.writable (ap (λ b. not row.read_only || b) (sym same) ∙ w);
      }

  ends_led : (e : Edge) → Contains es e → HasEnds led e
  ends_led e there = elim (l.old e there) [
    | inl o ↦ record {
      parent = λ n is. (h.edges o.edge o.there).parent n (o.parent ∙ is);
      child = subst (λ n. IsSome (node_by_id t n)) (sym o.child) (elim (l.sent o.edge.parent o.edge.child) [
        | inl same ↦ subst (λ n. IsSome (node_by_id t n)) (sym same) (h.edges o.edge o.there).child
        | inr sent ↦ subst (λ n. IsSome (node_by_id t n)) sent.id (subst IsSome (sym (h.apart sent.row sent.there)) refl)
      ]);
    }
    | inr new ↦ record {
      parent = λ n is.
          let same : new.over.id ≡ n = (let both = sym new.parent ∙ is in cc) in
          subst (λ m. IsSome (node_by_id t m)) same (subst IsSome (sym (h.apart new.over new.over_there)) refl);
      child = subst (λ m. IsSome (node_by_id t m)) (sym new.child) (subst IsSome (sym (h.apart new.under new.under_there)) refl);
    }
  ]

  pub led_table : ((n : ℕ) (row : NodeRecord) → node_by_id t n ≡ Some row → With (node_by_id t (disk_node led n)) (IsDiskOf led row)) → IsAcyclic es
      → TableStands led
  led_table reads acyclic = record {
    apart = h.apart;
    drivers = λ name row of. h.drivers name row (stood name row of);
    names = h.names;
    own_names = h.own_names;
    hidden = h.hidden;
    alone = λ name a b of_a of_b. h.alone name a b (stood name a of_a) (stood name b of_b);
    edges = ends_led;
    roles = λ e row there row_here is. elim (l.old e there) [
      | inl o ↦ subst (λ role. has_role row.kind role ≡ true) o.role (h.roles o.edge row o.there row_here (o.parent ∙ is))
      | inr new ↦
          let ids : row.id ≡ new.over.id = (let both = sym is ∙ new.parent in cc) in
          let same : row ≡ new.over = same_row t h.apart new.over row new.over_there row_here ids in
          subst (λ role. has_role row.kind role ≡ true) (sym new.role) (subst (λ k. has_role k Backing ≡ true) (ap (λ r. r.kind) (sym same)) new.can)
    ];
    acyclic = acyclic;
    single = λ e there role. elim (l.old e there) [
      | inl o ↦
          let one = h.single o.edge o.there (o.role ∙ role) in
          let above = row_there one.0 ((h.edges o.edge o.there).parent one.0 one.1.0) in
          let has = h.roles o.edge above.0 o.there above.1 (one.1.0 ∙ ap Node (sym above.2)) in (
            one.0,
            (
              sym o.parent ∙ one.1.0,
              l.children one.0 above.0 File (subst (λ n. node_by_id t n ≡ Some above.0) above.2 (h.apart above.0 above.1))
                  (subst (λ r. has_role above.0.kind r ≡ true) (o.role ∙ role) has) (λ same. absurd cc) (λ same. absurd cc)
                  ∙ ap (option_map (lead (Node one.0))) one.1.1
                  ∙ ap (λ (p : Parent). Some (lead p o.edge.child)) (sym one.1.0) ∙ ap (λ (c : ℕ). Some c) (sym o.child),
            ),
          )
      | inr new ↦ absurd (let bad = sym new.role ∙ role in cc)
    ];
    taken = λ over under f some own.
        let was = was_file over under f own in
        let k = h.taken over under was some own in
        record { gone = k.gone; sole = sole over under was some own; writable = k.writable };
    filtered = λ over under f none. by_filter over under f none (filter_role over.kind) refl;
    on_top = λ e row above there row_here from to. elim (l.old e there) [
      | inl o ↦ elim (l.sent o.edge.parent o.edge.child) [
        | inl same ↦ h.on_top o.edge row above o.there row_here (o.parent ∙ from) (sym same ∙ sym o.child ∙ to)
        | inr sent ↦ at_row sent.row row sent.there row_here (sym to ∙ o.child ∙ sym sent.id) sent.plain
      ]
      | inr new ↦ at_row new.under row new.under_there row_here (sym to ∙ new.child) new.plain
    ];
    reads = reads;
    numbers = h.numbers;
  }
    where
      at_row : (other row : NodeRecord) → Contains t.nodes other → Contains t.nodes row → row.id ≡ other.id → other.kind ≢ CopyOnRead → row.kind ≢ CopyOnRead
      at_row other row at_other here is plain = subst (λ r. r.kind ≢ CopyOnRead) (sym (same_row t h.apart other row at_other here is)) plain

      by_filter : (over under : NodeRecord) → LeadsToFile led over under → under.filename ≡ None → (role : Option Role) → filter_role over.kind ≡ role
          → IsSome (filter_role over.kind)
      by_filter over under f none (Some role) is = subst IsSome (sym is) refl
      by_filter over under f none None is = h.filtered over under (was_file over under f is) none

      sole : (over under : NodeRecord) → LeadsToFile t over under → IsSome under.filename → filter_role over.kind ≡ None → (e : Edge) → Contains es e
          → e.child ≡ under.id → (e.parent ≡ Node over.id) × (e.role ≡ File)
      sole over under f some own e there is = elim (l.old e there) [
        | inl o ↦ elim (l.sent o.edge.parent o.edge.child) [
          | inl same ↦
              let s = (h.taken over under f some own).sole o.edge o.there (sym same ∙ sym o.child ∙ is) in
              (sym o.parent ∙ s.0, sym o.role ∙ s.1)
          | inr sent ↦
              let at : node_by_id t (lead o.edge.parent o.edge.child) ≡ Some under = subst (λ n. node_by_id t n ≡ Some under) (sym is ∙ o.child) (h.apart under f.under_there) in
              absurd (sent.free under over at some f own)
        ]
        | inr new ↦
            let at : node_by_id t new.under.id ≡ Some under = subst (λ n. node_by_id t n ≡ Some under) (sym is ∙ new.child) (h.apart under f.under_there) in
            absurd (new.free under over at some f own)
      ]
