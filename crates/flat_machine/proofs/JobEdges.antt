-- Edges of jobs that come or go leave what holds of tables, and what guests' writing rests on.
use Rattle.std.proofs.Common.{◌≡◌, ◌≢◌, ℕ, Bool, false, List, refl, sym, ap, subst, ◌∙◌, inl, inr, Some}
use Rattle.std.specs.Prelude.{◌==◌, not, IsSome}
use Rattle.std.specs.List.{find, Contains}
use Rattle.std.proofs.lemmas.List.Elements.{All-weaker}
use Rattle.blk_graph.specs.declared.edge.Edge.{Edge}
use Rattle.blk_graph.specs.declared.edge.Parent.TheVariants.{Node, Guest, Job}
use Rattle.blk_graph.specs.declared.edge.Role.TheVariants.{Drive, File}
use Rattle.blk_graph.specs.declared.kind.JobUse.{JobUse}
use Rattle.blk_graph.specs.declared.kind.JobUse.TheVariants.{CopyTarget, CommitTop, CommitBetween, CommitBase, StreamTop, StreamBelow}
use Rattle.blk_graph.specs.declared.kind.NodeKind.{NodeKind}
use Rattle.blk_graph.specs.Edges.{same_parent}
use Rattle.blk_graph.specs.Edits.{child_of, with_edge, without_parent}
use Rattle.blk_graph.specs.Permissions.{job_edge, job_role}
use Rattle.blk_graph.specs.Refreshed.{refreshed}
use Rattle.blk_graph.proofs.Members.{Contains-filter}
use Rattle.blk_graph.proofs.EditLemmas.{IsSameEdge, Contains-with_edge}
use Rattle.blk_graph.proofs.ChildLemmas.{child-kept, child-without}
use Rattle.blk_graph.proofs.DraftLemmas.{acyclic_fewer, acyclic_put}
use Rattle.blk_graph.proofs.RefreshLemmas.{child_of-refreshed}
use Rattle.qmp_rules.specs.declared.change.Change.TheVariants as change
use Rattle.qmp_rules.specs.Table.{RunTable, node_by_id, kinds_of}
use Rattle.qmp_rules.specs.Changes.{changed}
use Rattle.flat_machine.specs.State.{State}
use Rattle.flat_machine.specs.Changed.{stepped}
use Rattle.flat_machine.specs.Wiring.{TableStands}
use Rattle.flat_machine.specs.Standing.{IsUsedUp, WritingStands, Stands}
use Rattle.flat_machine.specs.Suiting.{IsThere, IsPlainNode}
use Rattle.flat_machine.proofs.Tables.{filter-keeps, refreshed-old, refreshed-new, with_edge-keeps, apart-parents}
use Rattle.flat_machine.proofs.Rows.{rows-same, stays-at}
use Rattle.flat_machine.proofs.Wired.{Grows, NewEdges, NoRow, NoEdge, no_rows, no_edges, grown_stands}
use Rattle.flat_machine.proofs.TablesKept.{derived_acyclic, goes_there, old_edge, rows_grow, same_numbers}
use Rattle.flat_machine.proofs.WritingKept.{grown_writing, left_still}
use Rattle.flat_machine.proofs.WritingAdded.{drive_there, same_devices}

-- ---- a job that is over

module _ (t now : RunTable) (slot : ℕ) (nodes : now.nodes ≡ t.nodes) (kinds : List NodeKind)
    (derived : now.edges ≡ refreshed kinds (without_parent (Job slot) t.edges)) (h : TableStands t) where
  abbrev left : List Edge
  left = without_parent (Job slot) t.edges

  pub over_grow : Grows t now (IsThere t) NoRow NoEdge
  over_grow = record {
    rows = (rows_grow t same_rows (rows-same t same_rows nodes h.apart) refl h).rows;
    stays = stays-at t now (rows-same t now nodes h.apart);
    apart = (rows-same t now nodes h.apart).apart;
    others = λ row never here. never;
    one = λ a b never other. absurd never;
    edges = λ e there.
        let from = refreshed-old kinds left e (subst (λ es. Contains es e) derived there) in
        let old = Contains-filter (λ x. not (same_parent x.parent (Job slot))) t.edges from.edge from.there in
        inl (old_edge t h.edges from.edge e old.0 from.same);
    keeps = λ e other there is here.
        let apart : same_parent e.parent (Job slot) ≡ false = rw is refl in
        let kept = filter-keeps (λ x. not (same_parent x.parent (Job slot))) t.edges e (ap not apart) there in
        let to = refreshed-new kinds left e kept in
        record { edge = to.edge; there = subst (λ es. Contains es to.edge) (sym derived) to.there; same = to.same };
    children = λ other role here.
        ap (child_of (Node other) role) derived ∙ child_of-refreshed kinds (Node other) role left
        ∙ child-without (Job slot) (Node other) role t.edges (λ same. cc);
    goes = λ other below role here is. goes_there t h.edges other below role is;
  }
    where
      same_rows : RunTable
      same_rows = record now { edges = t.edges }

  pub over_table : now.guests ≡ t.guests → now.devices ≡ t.devices → TableStands now
  over_table guests devices =
      grown_stands t now (IsThere t) NoRow NoEdge over_grow (no_rows t now) (no_edges t now) h (same_numbers t now guests devices h.numbers)
      (derived_acyclic now kinds left derived (acyclic_fewer (λ x. not (same_parent x.parent (Job slot))) t.edges h.acyclic))

pub over_writing : (s : State) (number slot : ℕ) (drops : Bool) → Stands s → WritingStands (stepped s (change.EndJob number slot drops))
unfolding changed
over_writing s number slot drops h =
    grown_writing s now (IsThere s.table) NoRow NoEdge grow
    (record {
      names = λ name named. named;
      names_new = λ name r never. absurd never;
      known = λ name over under f is known. known;
      known_new = λ name over under f never. absurd never;
      bytes = λ other here some. some;
      bytes_new = λ r never. absurd never;
      left = All-weaker (IsUsedUp s) (IsUsedUp now) (λ l used. left_still s now (IsThere s.table) NoRow NoEdge grow l used.used
          (λ r never. absurd never) (λ e r never. absurd never) used) s.left h.writing.left;
      written = λ other name here entered of known. known;
      used = λ other name here entered of used. used;
      copies_new = λ r disk never. absurd never;
      emptied = λ other name here entered of none. none;
      devices = same_devices s now refl (λ g.
          child_of-refreshed (kinds_of s.table.nodes) (Guest g) Drive (without_parent (Job slot) s.table.edges)
          ∙ child-without (Job slot) (Guest g) Drive s.table.edges (λ same. cc));
      drives = λ g drive is. drive_there s.table h.table.edges g drive is;
    })
    h.table h.writing
  where
    now : State
    now = stepped s (change.EndJob number slot drops)

    grow : Grows s.table now.table (IsThere s.table) NoRow NoEdge
    grow = over_grow s.table now.table slot refl (kinds_of s.table.nodes) refl h.table

-- ---- a job uses a node

-- its edge is none to a file
pub no_file : (what : JobUse) → job_role what ≢ File
no_file CopyTarget is = cc
no_file CommitTop is = cc
no_file CommitBetween is = cc
no_file CommitBase is = cc
no_file StreamTop is = cc
no_file StreamBelow is = cc

module _ (t now : RunTable) (slot : ℕ) (what : JobUse) (node : ℕ) (plain : IsPlainNode t node) (nodes : now.nodes ≡ t.nodes)
    (kinds : List NodeKind) (derived : now.edges ≡ refreshed kinds (with_edge (job_edge slot what node) t.edges)) (h : TableStands t) where
  abbrev pub used : Edge
  used = job_edge slot what node

  abbrev pub IsUseEdge : Edge → Type 0
  IsUseEdge e = IsSameEdge used e

  pub of_no_node : (e : Edge) (other : ℕ) → IsUseEdge e → e.parent ≡ Node other → ⊥
  of_no_node e other is_new is = let from = is_new.parent in cc

  pub use_grow : Grows t now (IsThere t) NoRow IsUseEdge
  use_grow = record {
    rows = (rows_grow t same_rows (rows-same t same_rows nodes h.apart) refl h).rows;
    stays = stays-at t now (rows-same t now nodes h.apart);
    apart = (rows-same t now nodes h.apart).apart;
    others = λ row never here. never;
    one = λ a b never other. absurd never;
    edges = λ e there.
        let from = refreshed-old kinds (with_edge used t.edges) e (subst (λ es. Contains es e) derived there) in
        elim (Contains-with_edge used t.edges from.edge from.there) [
          | inl is ↦ inr (subst (λ x. IsSameEdge x e) is from.same)
          | inr old ↦ inl (old_edge t h.edges from.edge e old from.same)
        ];
    keeps = λ e other there is here.
        let apart : used.parent ≢ e.parent = λ same. (let from = same ∙ is in cc) in
        let to = refreshed-new kinds (with_edge used t.edges) e (with_edge-keeps used t.edges e (apart-parents used e apart) there) in
        record { edge = to.edge; there = subst (λ es. Contains es to.edge) (sym derived) to.there; same = to.same };
    children = λ other role here.
        ap (child_of (Node other) role) derived ∙ child_of-refreshed kinds (Node other) role (with_edge used t.edges)
        ∙ child-kept (Node other) role used t.edges (λ same. cc);
    goes = λ other below role here is. goes_there t h.edges other below role is;
  }
    where
      same_rows : RunTable
      same_rows = record now { edges = t.edges }

  use_new_edges : NewEdges t now IsUseEdge
  use_new_edges = record {
    ends = λ e is_new. record {
      parent = λ other is. absurd (of_no_node e other is_new is);
      child = subst (IsThere now) is_new.child
          (subst (λ ns. IsSome (find (λ r. r.id == node) ns)) (sym nodes) (subst IsSome (sym plain.there) refl));
    };
    roles = λ e r is_new there is. absurd (of_no_node e r.id is_new is);
    single = λ e is_new role. absurd (no_file what (is_new.role ∙ role));
    taken = λ over under f is_new some own. absurd (of_no_node f.edge over.id is_new f.parent);
    first = λ over under f is_new some own. absurd (of_no_node f.edge over.id is_new f.parent);
    filtered = λ over under f is_new none. absurd (of_no_node f.edge over.id is_new f.parent);
    on_top = λ e r over is_new there from. absurd (of_no_node e over is_new from);
    free = λ e over under is_new f some own is.
        let same : node ≡ under.id = is_new.child ∙ is in
        plain.free under over (subst (λ n. node_by_id t n ≡ Some under) (sym same) (h.apart under f.under_there)) some f own;
  }

  pub use_table : now.guests ≡ t.guests → now.devices ≡ t.devices → TableStands now
  use_table guests devices =
      grown_stands t now (IsThere t) NoRow IsUseEdge use_grow (no_rows t now) use_new_edges h (same_numbers t now guests devices h.numbers)
      (derived_acyclic now kinds (with_edge used t.edges) derived (acyclic_put used t.edges (λ back. back) h.acyclic))

pub use_writing : (s : State) (slot : ℕ) (what : JobUse) (node : ℕ) → IsPlainNode s.table node → Stands s
    → WritingStands (stepped s (change.UseNode slot what node))
unfolding changed
use_writing s slot what node plain h =
    grown_writing s now (IsThere s.table) NoRow New grow
    (record {
      names = λ name named. named;
      names_new = λ name r never. absurd never;
      known = λ name over under f is known. known;
      known_new = λ name over under f is_new named.
          absurd (of_no_node s.table now.table slot what node plain refl kinds refl h.table f.edge over.id is_new f.parent);
      bytes = λ other here some. some;
      bytes_new = λ r never. absurd never;
      left = All-weaker (IsUsedUp s) (IsUsedUp now) (λ l used. left_still s now (IsThere s.table) NoRow New grow l used.used
          (λ r never. absurd never) (λ e r is_new role child over. absurd (no_file what (is_new.role ∙ role))) used) s.left h.writing.left;
      written = λ other name here entered of known. known;
      used = λ other name here entered of used. used;
      copies_new = λ r disk never. absurd never;
      emptied = λ other name here entered of none. none;
      devices = same_devices s now refl (λ g.
          child_of-refreshed kinds (Guest g) Drive (with_edge (job_edge slot what node) s.table.edges)
          ∙ child-kept (Guest g) Drive (job_edge slot what node) s.table.edges (λ same. cc));
      drives = λ g drive is. drive_there s.table h.table.edges g drive is;
    })
    h.table h.writing
  where
    now : State
    now = stepped s (change.UseNode slot what node)

    kinds : List NodeKind
    kinds = kinds_of s.table.nodes

    New : Edge → Type 0
    New = IsUseEdge s.table now.table slot what node plain refl kinds refl h.table

    grow : Grows s.table now.table (IsThere s.table) NoRow New
    grow = use_grow s.table now.table slot what node plain refl kinds refl h.table
