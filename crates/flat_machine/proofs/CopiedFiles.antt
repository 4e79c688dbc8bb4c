-- A file over which a `copy-on-read` node stands was used.
use Rattle.std.proofs.Common.{◌≡◌, ℕ, true, List, refl, sym, ap, subst, ◌∙◌, Option, Some, None}
use Rattle.std.specs.Prelude.{◌==◌, IsSome}
use Rattle.std.specs.List.{Contains}
use Rattle.std.proofs.lemmas.Bool.{eqb-true}
use Rattle.blk_graph.specs.declared.edge.Edge.{Edge}
use Rattle.blk_graph.specs.declared.edge.Parent.TheVariants.{Node}
use Rattle.blk_graph.specs.declared.edge.Role.TheVariants.{File}
use Rattle.blk_graph.specs.declared.kind.Kind.{Kind}
use Rattle.blk_graph.specs.declared.kind.Kind.TheVariants.{Protocol, Raw, Qcow2, CopyOnRead, BeforeWrite, Mirror, Commit}
use Rattle.blk_graph.specs.Permissions.{has_role}
use Rattle.blk_graph.proofs.Members.{find-Some}
use Rattle.qmp_rules.specs.declared.rows.NodeRecord.{NodeRecord}
use Rattle.qmp_rules.specs.Table.{RunTable, node_by_id, child}
use Rattle.qmp_rules.specs.Chains.{filter_role, filtered}
use Rattle.flat_machine.specs.State.{State}
use Rattle.flat_machine.specs.Wiring.{LeadsToFile, TableStands}
use Rattle.flat_machine.specs.Standing.{IsUsedFile, Stands}
use Rattle.flat_machine.proofs.TablesKept.{over_own}

-- a filter with a file copies what is read
pub copying : (kind : Kind) → has_role kind File ≡ true → IsSome (filter_role kind) → filter_role kind ≡ Some File
copying Protocol has filter = absurd cc
copying Raw has filter = absurd cc
copying Qcow2 has filter = absurd cc
copying CopyOnRead has filter = refl
copying BeforeWrite has filter = absurd cc
copying Mirror has filter = absurd cc
copying Commit has filter = absurd cc

-- an edge to a file is that of a row
pub file_parent : (t : RunTable) → TableStands t → (e : Edge) → Contains t.edges e → e.role ≡ File → (under : NodeRecord) → Contains t.nodes under
    → e.child ≡ under.id → (over : NodeRecord) × LeadsToFile t over under
file_parent t h e there role under under_there child = by_row (h.single e there role).0 (h.single e there role).1.0 (node_by_id t (h.single e there role).0) refl
  where
    by_row : (n : ℕ) → e.parent ≡ Node n → (found : Option NodeRecord) → node_by_id t n ≡ found → (over : NodeRecord) × LeadsToFile t over under
    by_row n from None none = absurd (let some = subst IsSome none ((h.edges e there).parent n from) in cc)
    by_row n from (Some over) found =
        let here = find-Some (λ r. r.id == n) t.nodes over found in (
          over,
          record {
            over_there = here.0;
            under_there = under_there;
            edge = e;
            there = there;
            parent = from ∙ ap Node (sym (eqb-true over.id n here.1));
            role = role;
            child = child;
          },
        )

pub copied_used : (s : State) → Stands s → (over under : NodeRecord) → LeadsToFile s.table over under → IsSome (filter_role over.kind)
    → (name : List ℕ) → under.filename ≡ Some name → IsUsedFile s name
copied_used s h over under f filter name named =
    h.writing.copied name over under f.over_there copies (ap (node_by_id s.table) (over_own s.table over.id under.id reads own) ∙ at_under) named
  where
    at_under : node_by_id s.table under.id ≡ Some under
    at_under = h.table.apart under f.under_there

    at_over : node_by_id s.table over.id ≡ Some over
    at_over = h.table.apart over f.over_there

    copies : filter_role over.kind ≡ Some File
    copies = copying over.kind (subst (λ r. has_role over.kind r ≡ true) f.role (h.table.roles f.edge over f.there f.over_there f.parent)) filter

    below : child s.table over.id File ≡ Some under.id
    below =
        let of = h.table.single f.edge f.there f.role in
        let same : of.0 ≡ over.id = (let both = sym of.1.0 ∙ f.parent in cc) in
        subst (λ n. child s.table n File ≡ Some f.edge.child) same of.1.1 ∙ ap Some f.child

    reads : filtered s.table over.id ≡ Some under.id
    reads = rw (at_over, copies) below

    file_own : filter_role under.kind ≡ None
    file_own = ap filter_role (h.table.drivers name under (record { there = f.under_there; filename = named }))

    own : filtered s.table under.id ≡ None
    own = rw (at_under, file_own) refl
