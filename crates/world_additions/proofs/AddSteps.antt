-- The nodes of an addition, one after another: what belongs together does so behind each.
use Rattle.std.proofs.Common.{◌≡◌, ◌≢◌, ℕ, ◌≤◌, ◌==◌, Bool, true, false, cond, List, [], ◌∷◌, ◌++◌, length, inl, inr, refl, sym, ◌∙◌, ap, subst, Option, Some, None}
use Rattle.std.specs.Prelude.{Contains}
use Rattle.blk_base.specs.Files.{is_out}
use Rattle.blk_base.specs.declared.file.Opened.{Opened}
use Rattle.blk_graph.specs.declared.edge.Edge.{Edge}
use Rattle.blk_graph.specs.declared.edge.Parent.TheVariants.{Guest, Node}
use Rattle.blk_graph.specs.declared.edge.Role.TheVariants.{Backing, File}
use Rattle.blk_graph.specs.declared.kind.Kind.{Kind}
use Rattle.blk_graph.specs.declared.kind.Kind.TheVariants.{Protocol}
use Rattle.blk_graph.specs.Edits.{takes_place, with_edge}
use Rattle.blk_graph.specs.Permissions.{node_edge}
use Rattle.blk_graph.specs.Refreshed.{refreshed}
use Rattle.blk_graph.specs.declared.kind.NodeKind.{NodeKind}
use Rattle.blk_graph.proofs.Members.{Contains-cases, Contains-here, Contains-there}
use Rattle.blk_nodes.specs.Joined.{IsJoined}
use Rattle.blk_nodes.specs.Nodes.{DeviceSeen, Nodes}
use Rattle.blk_nodes.specs.Overlays.{format_edges, with_children}
use Rattle.blk_nodes.specs.declared.row.Driver.TheVariants as driver
use Rattle.blk_nodes.specs.declared.row.Row.{Row}
use Rattle.qmp_rules.specs.Changes.{changed, with_format_edges, node_changed, unsettled}
use Rattle.qmp_rules.specs.Table.{RunTable, kinds_of, node_by_id}
use Rattle.qmp_asks.specs.Values.{most_length}
use Rattle.qmp_rules.specs.declared.change.Change.TheVariants.{AddFile, AddFilter, AddFormat}
use Rattle.qmp_rules.specs.declared.rows.NodeRecord.{NodeRecord}
use Rattle.flat_machine.specs.State.{filename_of}
use Rattle.world_parts.specs.Adding.{Taken, opening_of}
use Rattle.world_parts.specs.Coherent.{IsRowOf, IsOfFileLength}
use Rattle.world_parts.specs.Joining.{IsFileAdded, HasOver}
use Rattle.world_parts.specs.Progress.{Progress}
use Rattle.world_additions.proofs.AddFacts.{alike-filed, alike-filtered, alike-formatted, filed-filename, held-other}
use Rattle.world_additions.proofs.AddGrown.{GrowsByNode, filename-same}
use Rattle.world_additions.proofs.AddMiddle.{HasMore, Middle, grown-middle, out-more, out-over}
use Rattle.world_additions.proofs.AddTables.{grows-filed, grows-filtered, grows-formatted}
use Rattle.world_parts.proofs.GuestEdges.{guest_edge}

-- ---- edges of guests

edge-old : (new : Edge) (edges : List Edge) (e : Edge) → Contains (with_edge new edges) e → e ≢ new → Contains edges e
edge-old new [] e there other = elim (Contains-cases new [] e there) [
  | inl here ↦ absurd (other here)
  | inr behind ↦ behind
]
edge-old new (old ∷ edges) e there other = by_test (takes_place new old) there (λ h. edge-old new edges e h other)
  where
    by_test : (b : Bool) → Contains (cond b (new ∷ edges) (old ∷ with_edge new edges)) e → (Contains (with_edge new edges) e → Contains edges e) → Contains (old ∷ edges) e
    by_test true h rest = elim (Contains-cases new edges e h) [
      | inl here ↦ absurd (other here)
      | inr behind ↦ Contains-there old edges e behind
    ]
    by_test false h rest = elim (Contains-cases old (with_edge new edges) e h) [
      | inl here ↦ subst (Contains (old ∷ edges)) (sym here) (Contains-here old edges)
      | inr behind ↦ Contains-there old edges e (rest behind)
    ]

not-node : (new e : Edge) (node g : ℕ) → new.parent ≡ Node node → e.parent ≡ Guest g → e ≢ new
not-node new e node g is from = λ same.
    let bad : Guest g ≡ Node node = sym from ∙ ap (λ (x : Edge). x.parent) same ∙ is in
    absurd (cc bad)

over-old : (id file : ℕ) (backing : Option ℕ) (edges : List Edge) (e : Edge) (g : ℕ) → Contains (with_format_edges id file backing edges) e → e.parent ≡ Guest g → Contains edges e
over-old id file None edges e g there from =
    edge-old (node_edge id File file) edges e there (not-node (node_edge id File file) e id g refl from)
over-old id file (Some over) edges e g there from =
    edge-old (node_edge id File file) edges e
    (edge-old (node_edge id Backing over) (with_edge (node_edge id File file) edges) e there (not-node (node_edge id Backing over) e id g refl from))
    (not-node (node_edge id File file) e id g refl from)

-- the edges of a node that is drawn
graph-edges : (nodes now : Nodes) (id : ℕ) (name : List ℕ) (own : Row) (child : ℕ) (backing : Option ℕ) → now ≡ with_children nodes id name own child backing
    → now.graph.edges ≡ refreshed now.graph.kinds (format_edges id child backing nodes.graph.edges)
graph-edges nodes now id name own child backing is =
    ap (λ (n : Nodes). n.graph.edges) is
    ∙ ap (λ (k : List NodeKind). refreshed k (format_edges id child backing nodes.graph.edges)) (sym (ap (λ (n : Nodes). n.graph.kinds) is))

-- ---- a `file` node

module _ (t : RunTable) (nodes : Nodes) (opened : List Opened) (p : Progress) (was : Middle t nodes opened p) (joined : IsJoined nodes) (row : NodeRecord)
    (fresh : node_by_id t row.id ≡ None) where
  unsettled-access : (file : ℕ) (r : NodeRecord) → (node_changed file unsettled r).read_only ≡ r.read_only
  unsettled-access file r = by_test (r.id == file)
    where
      by_test : (b : Bool) → (cond b (unsettled r) r).read_only ≡ r.read_only
      by_test true = refl
      by_test false = refl

  module _ (filename : List ℕ) (device : Taken) (now : Nodes) (has : IsFileAdded row.name row.read_only device nodes now row.id) (kind : row.kind ≡ Protocol)
      (size : row.size ≡ device.size) (offset : row.offset ≡ 0) (named : row.filename ≡ Some filename) (number : device.number ≡ record { 0 = length opened })
      (inside : is_out filename opened ≡ false) (short : device.size ≤ most_length) where
    abbrev own : Row
    own = record { driver = driver.File; size = device.size; is_read_only = row.read_only }

    small : IsOfFileLength row.kind row.size
    small = subst (λ (k : Kind). IsOfFileLength k row.size) (sym kind) (subst (λ (n : ℕ). n ≤ most_length) (sym size) short)

    file-grows : GrowsByNode t (changed t (AddFile row)) row.id row.id (λ r. r)
    file-grows = grows-filed t nodes was.alike joined row has.lowest.free

    file-more : HasMore t (changed t (AddFile row)) (λ r. r)
    unfolding changed
    file-more = record {
      access = λ r. refl;
      guests = refl;
      edges = λ edge g there from. guest_edge (kinds_of (changed t (AddFile row)).nodes) t.edges edge g there from;
    }

    file-names : (held : DeviceSeen) → Contains nodes.devices held → filename_of (changed t (AddFile row)) held.node ≡ filename_of t held.node
    file-names held there =
        filename-same t (changed t (AddFile row)) row.id row.id (λ r. r) file-grows held.node (held-other t nodes opened row.id was.out fresh held there)

    pub file-step : Middle (changed t (AddFile row)) now (opened ++ opening_of filename device ∷ []) p
    file-step =
        grown-middle t (changed t (AddFile row)) row.id row.id (λ r. r) file-grows file-more nodes now opened (opened ++ opening_of filename device ∷ []) p was
        (alike-filed t nodes was.alike joined row own fresh now has.joined (record { kind = kind; size = size; access = refl; place = offset; small = small })
        (ap (λ (n : Nodes). n.graph.nodes) has.is) (ap (λ (n : Nodes). n.rows) has.is) (ap (λ (n : Nodes). n.graph.edges) has.is))
        (out-more t (changed t (AddFile row)) nodes now opened row.id filename device was.out number file-names (filed-filename t row filename fresh named) inside
        (ap (λ (n : Nodes). n.devices) has.is))

  -- ---- a node over others

  module _ (own : Row) (is_row : IsRowOf row own) (child : ℕ) (bytes : List ℕ) (now : Nodes) where
    over-names : (t' : RunTable) (but : ℕ) (change : NodeRecord → NodeRecord) → GrowsByNode t t' row.id but change
        → (held : DeviceSeen) → Contains nodes.devices held → filename_of t' held.node ≡ filename_of t held.node
    over-names t' but change grows held there =
        filename-same t t' row.id but change grows held.node (held-other t nodes opened row.id was.out fresh held there)

    module _ (backing : Option ℕ) (has : HasOver row.name own child backing bytes nodes now row.id)
        (lone : (edge : Edge) → Contains t.edges edge → edge.child ≢ child) where
      abbrev formatted : RunTable
      formatted = changed t (AddFormat row child backing)

      format-grows : GrowsByNode t formatted row.id child (node_changed child unsettled)
      format-grows = grows-formatted t nodes was.alike joined row has.lowest.free child backing lone

      format-more : HasMore t formatted (node_changed child unsettled)
      unfolding changed
      format-more = record {
        access = unsettled-access child;
        guests = refl;
        edges = λ edge g there from.
            over-old row.id child backing t.edges edge g (guest_edge (kinds_of formatted.nodes) (with_format_edges row.id child backing t.edges) edge g there from) from;
      }

      pub format-step : Middle formatted now opened p
      format-step =
          grown-middle t formatted row.id child (node_changed child unsettled) format-grows format-more nodes now opened opened p was
          (alike-formatted t nodes was.alike joined row own fresh now has.joined is_row
          (ap (λ (n : Nodes). n.graph.nodes) has.is) (ap (λ (n : Nodes). n.rows) has.is) child backing (graph-edges nodes now row.id row.name own child backing has.is))
          (out-over t formatted nodes now opened (ap (λ (n : Nodes). n.devices) has.is) (over-names formatted child (node_changed child unsettled) format-grows) was.out)

    module _ (has : HasOver row.name own child None bytes nodes now row.id) where
      abbrev filtered : RunTable
      filtered = changed t (AddFilter row child)

      filter-grows : GrowsByNode t filtered row.id row.id (λ r. r)
      filter-grows = grows-filtered t nodes was.alike joined row has.lowest.free child

      filter-more : HasMore t filtered (λ r. r)
      unfolding changed
      filter-more = record {
        access = λ r. refl;
        guests = refl;
        edges = λ edge g there from.
            over-old row.id child None t.edges edge g (guest_edge (kinds_of filtered.nodes) (with_edge (node_edge row.id File child) t.edges) edge g there from) from;
      }

      pub filter-step : Middle filtered now opened p
      filter-step =
          grown-middle t filtered row.id row.id (λ r. r) filter-grows filter-more nodes now opened opened p was
          (alike-filtered t nodes was.alike joined row own fresh now has.joined is_row
          (ap (λ (n : Nodes). n.graph.nodes) has.is) (ap (λ (n : Nodes). n.rows) has.is) child (graph-edges nodes now row.id row.name own child None has.is))
          (out-over t filtered nodes now opened (ap (λ (n : Nodes). n.devices) has.is) (over-names filtered row.id (λ r. r) filter-grows) was.out)
