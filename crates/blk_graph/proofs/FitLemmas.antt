-- What fits a graph fits it after each edit.
use Rattle.std.proofs.Common.{◌≡◌, ℕ, ◌<◌, List, refl, ◌∙◌, ap, Bool, true, Option, Some, None}
use Rattle.std.specs.List.{filter, find}
use Rattle.std.proofs.lemmas.List.Kept.{AllPairs-filter}
use Rattle.blk_graph.specs.declared.edge.Edge.{Edge}
use Rattle.blk_graph.specs.declared.edge.Perms.{Perms}
use Rattle.blk_graph.specs.declared.edge.Parent.{Parent}
use Rattle.blk_graph.specs.declared.edge.Parent.TheVariants.{Node, Guest, Job}
use Rattle.blk_graph.specs.declared.edge.Role.{Role}
use Rattle.blk_graph.specs.declared.edge.Role.TheVariants.{File, Backing, Filtered}
use Rattle.blk_graph.specs.declared.edge.Uses.{Uses}
use Rattle.blk_graph.specs.declared.kind.JobUse.{JobUse}
use Rattle.blk_graph.specs.declared.kind.JobUse.TheVariants.{CopyTarget, CommitTop, CommitBetween, CommitBase, StreamTop, StreamBelow}
use Rattle.blk_graph.specs.declared.kind.Kind.{Kind}
use Rattle.blk_graph.specs.declared.kind.Kind.TheVariants.{Protocol, Raw, Qcow2, CopyOnRead, BeforeWrite, Mirror, Commit}
use Rattle.blk_graph.specs.declared.kind.NodeKind.{NodeKind}
use Rattle.blk_graph.specs.Edges.{DifferInPlace, may_have, HasNumber, MayStand, IsListed}
use Rattle.blk_graph.specs.Edits.{IsLone, with_edge, with_child, with_replaced, with_moved, filter_edge, with_filter, is_filters, but_filters, without_filter}
use Rattle.blk_graph.specs.Graph.{Graph, HasNode, HasParent, FitsIn, IsFit}
use Rattle.blk_graph.specs.Permissions.{has_role, job_role, uses_by}
use Rattle.blk_graph.specs.Refreshed.{kind_at, IsOf, IsByTable, uses_into, with_uses, ruled, ruled_from, turned, refreshed}
use Rattle.blk_graph.proofs.Members.{find-Some}
use Rattle.blk_graph.proofs.RefreshLemmas.{EachIs-turned, AllPairs-turned, refreshed-by, ruled-same}
use Rattle.blk_graph.proofs.RoleLemmas.{EachIs-filter, EachIs-with_edge, EachIs-moved, EachIs-replaced, EachIs-with_filter, AllPairs-with_edge, AllPairs-moved, AllPairs-with_replaced, AllPairs-with_filter}

may_by_kind : (n : ℕ) (k : Kind) (r : Role) → has_role k r ≡ true → may_have (Node n) r ≡ true
may_by_kind n Protocol r h = absurd cc
may_by_kind n Raw File h = refl
may_by_kind n Qcow2 File h = refl
may_by_kind n Qcow2 Backing h = refl
may_by_kind n CopyOnRead File h = refl
may_by_kind n BeforeWrite Filtered h = refl
may_by_kind n Mirror Filtered h = refl
may_by_kind n Commit Filtered h = refl
may_by_kind n _ _ h = absurd cc

may_by_job : (n : ℕ) (what : JobUse) → may_have (Job n) (job_role what) ≡ true
may_by_job n CopyTarget = refl
may_by_job n CommitTop = refl
may_by_job n CommitBetween = refl
may_by_job n CommitBase = refl
may_by_job n StreamTop = refl
may_by_job n StreamBelow = refl

-- what the table has may stand
pub may_by_table : (kinds : List NodeKind) (e : Edge) → IsByTable kinds e → may_have e.parent e.role ≡ true
may_by_table kinds e h = by_parent e.parent h
  where
    by_parent : (p : Parent) → IsOf kinds e p → may_have p e.role ≡ true
    by_parent (Node n) own = may_by_kind n (kind_at kinds n).kind e.role own
    by_parent (Guest n) own = rw (ap (λ (x : Edge). x.role) own.is) refl
    by_parent (Job n) own = ap (may_have (Job n)) (ap (λ (x : Edge). x.role) own.is) ∙ may_by_job n own.what

-- to whichever child
table_further : (kinds : List NodeKind) (to : ℕ) (e : Edge) → IsByTable kinds e → IsByTable kinds (with_child to e)
table_further kinds to e h = by_parent e.parent h
  where
    by_parent : (p : Parent) → IsOf kinds e p → IsOf kinds (with_child to e) p
    by_parent (Node n) own = own
    by_parent (Guest n) own =
        record { guest = own.guest; writes = own.writes; share_rw = own.share_rw; is = ap (with_child to) own.is }
    by_parent (Job n) own = record { job = own.job; what = own.what; is = ap (with_child to) own.is }

fits_further : (g : Graph) (to : ℕ) → HasNode g to → (e : Edge) → FitsIn g e → FitsIn g (with_child to e)
fits_further g to there e fits = record { parent = fits.parent; child = there; table = table_further g.kinds to e fits.table }

-- whatever it asks and shares
pub table_ruled : (known kinds : List NodeKind) (above : ℕ → Uses) (e : Edge) → IsByTable known e → IsByTable known (ruled kinds above e)
table_ruled known kinds above e h = by_parent e.parent refl h
  where
    by_uses : (n : ℕ) (o : Option Uses) → e.parent ≡ Node n → IsOf known e (Node n) → IsByTable known (with_uses e o)
    by_uses n None is own = rw is own
    by_uses n (Some uses) is own = rw is own

    by_parent : (p : Parent) → e.parent ≡ p → IsByTable known e → IsByTable known (ruled_from kinds above e p)
    by_parent (Node n) is own = by_uses n (uses_by (kind_at kinds n) e.role (above n)) is (rw is at own)
    by_parent (Guest n) is own = own
    by_parent (Job n) is own = own

fits_ruled : (g : Graph) (kinds : List NodeKind) (above : ℕ → Uses) (e : Edge) → FitsIn g e → FitsIn g (ruled kinds above e)
fits_ruled g kinds above e fits =
    let same = ruled-same kinds above e in
    record {
      parent = rw same.parent fits.parent;
      child = rw same.child fits.child;
      table = table_ruled g.kinds kinds above e fits.table;
    }

pub IsFit-with_edge : (g : Graph) (new : Edge) (edges : List Edge) → FitsIn g new → IsFit g edges → IsFit g (with_edge new edges)
IsFit-with_edge g new edges own fit = record {
  each = EachIs-with_edge (FitsIn g) new edges own fit.each;
  places = AllPairs-with_edge new edges fit.places;
}

pub IsFit-filter : (g : Graph) (p : Edge → Bool) (edges : List Edge) → IsFit g edges → IsFit g (filter p edges)
IsFit-filter g p edges fit = record {
  each = EachIs-filter (FitsIn g) p edges fit.each;
  places = AllPairs-filter DifferInPlace p edges fit.places;
}

pub IsFit-moved : (g : Graph) (from to : ℕ) (edges : List Edge) → HasNode g to → IsFit g edges → IsFit g (with_moved from to edges)
IsFit-moved g from to edges there fit = record {
  each = EachIs-moved (FitsIn g) from to edges (fits_further g to there) fit.each;
  places = AllPairs-moved from to edges fit.places;
}

pub IsFit-replaced : (g : Graph) (from to : ℕ) (but : Option Parent) (edges : List Edge) → HasNode g to → IsFit g edges
    → IsFit g (with_replaced from to but edges)
IsFit-replaced g from to but edges there fit = record {
  each = EachIs-replaced (FitsIn g) from to but edges (fits_further g to there) fit.each;
  places = AllPairs-with_replaced from to but edges (λ e h. may_by_table g.kinds e (fit.each e h).table) fit.places;
}

pub IsFit-with_filter : (g : Graph) (node over : ℕ) (perm shared : Perms) (edges : List Edge)
    → FitsIn g (filter_edge over node perm shared) → IsLone edges over → IsFit g edges
    → IsFit g (with_filter node over perm shared edges)
IsFit-with_filter g node over perm shared edges own lone fit = record {
  each = EachIs-with_filter (FitsIn g) node over perm shared edges (fits_further g over own.parent) own fit.each;
  places = AllPairs-with_filter node over perm shared edges lone fit.places;
}

pub IsFit-without_filter : (g : Graph) (over : ℕ) (edges : List Edge) → IsFit g edges → IsFit g (without_filter over edges)
IsFit-without_filter g over edges fit = by_found (find (is_filters over) edges) refl
  where
    by_found : (found : Option Edge) → find (is_filters over) edges ≡ found → IsFit g (elim found as (λ _. List Edge) [
      | None ↦ edges
      | Some edge ↦ with_moved over edge.child (but_filters over edges)
    ])
    by_found None is = fit
    by_found (Some edge) is =
        IsFit-moved g over edge.child (but_filters over edges) (fit.each edge (find-Some (is_filters over) edges edge is).0).child
        (IsFit-filter g _ edges fit)

IsFit-turned : (g : Graph) (kinds : List NodeKind) (edges : List Edge) → IsFit g edges → IsFit g (turned kinds edges)
IsFit-turned g kinds edges fit = record {
  each = EachIs-turned (FitsIn g) kinds edges (fits_ruled g kinds (uses_into edges)) fit.each;
  places = AllPairs-turned kinds edges fit.places;
}

pub IsFit-refreshed : (g : Graph) (kinds : List NodeKind) (edges : List Edge) → IsFit g edges → IsFit g (refreshed kinds edges)
IsFit-refreshed g kinds = refreshed-by kinds (IsFit g) (IsFit-turned g kinds)

-- what fits a graph is a list
number_of : (g : Graph) → ((id : ℕ) → HasNode g id → id < 64) → (p : Parent) → HasParent g p → HasNumber p
number_of g small (Node n) h = small n h
number_of g small (Guest n) h = h
number_of g small (Job n) h = h

pub stands_fit : (g : Graph) → ((id : ℕ) → HasNode g id → id < 64) → (e : Edge) → FitsIn g e → MayStand e
stands_fit g small e fits = record {
  role = may_by_table g.kinds e fits.table;
  number = number_of g small e.parent fits.parent;
  child = small e.child fits.child;
}

pub listed_fit : (g : Graph) → ((id : ℕ) → HasNode g id → id < 64) → (edges : List Edge) → IsFit g edges → IsListed edges
listed_fit g small edges fit = record { each = λ e h. stands_fit g small e (fit.each e h); places = fit.places }
