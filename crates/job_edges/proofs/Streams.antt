-- The end of a stream change by change, and the filters that read.
use Rattle.std.proofs.Common.{◌≡◌, ℕ, ◌<◌, List, refl, sym, ◌∙◌, ap, subst, inl, inr, Bool, true}
use Rattle.std.specs.Prelude.{not}
use Rattle.std.specs.List.{Contains}
use Rattle.std.proofs.lemmas.Bool.{false≢true, eq-eqb}
use Rattle.blk_graph.specs.declared.edge.Edge.{Edge}
use Rattle.blk_graph.specs.declared.edge.Parent.{Parent}
use Rattle.blk_graph.specs.declared.edge.Parent.TheVariants.{Node, Job}
use Rattle.blk_graph.specs.declared.edge.Role.{Role}
use Rattle.blk_graph.specs.declared.edge.Role.TheVariants.{Backing, Filtered}
use Rattle.blk_graph.specs.declared.edge.Uses.{Uses}
use Rattle.blk_graph.specs.declared.kind.Kind.{Kind}
use Rattle.blk_graph.specs.declared.kind.Kind.TheVariants.{BeforeWrite, Mirror}
use Rattle.blk_graph.specs.declared.kind.NodeKind.{NodeKind}
use Rattle.blk_graph.specs.Edges.{HasNumber, same_parent, same_role, IsListed}
use Rattle.blk_graph.specs.Edits.{takes_place, with_edge, is_filters, without_filter, without_parent}
use Rattle.blk_graph.specs.Paths.{Reaches, IsAcyclic}
use Rattle.blk_graph.specs.Permissions.{has_role, derived_uses, node_edge}
use Rattle.blk_graph.specs.Refreshed.{kind_at, IsOf, IsByTable, uses_into, with_uses, ruled_from, refreshed}
use Rattle.blk_graph.specs.Rule.{KeepsPermissions}
use Rattle.blk_graph.proofs.AlikeLemmas.{refreshed-alike, refreshed-both}
use Rattle.blk_graph.proofs.CycleLemmas.{and-left, and-right, same_parent-true}
use Rattle.blk_graph.proofs.EditLemmas.{Contains-with_edge}
use Rattle.blk_graph.proofs.ListedLemmas.{IsListed-filter, IsListed-with_edge}
use Rattle.blk_graph.proofs.Members.{Contains-filter, find-Some}
use Rattle.blk_graph.proofs.PathLemmas.{Reaches-edge, IsAcyclic-covered}
use Rattle.blk_graph.proofs.RoleLemmas.{EachIs, EachIs-filter, EachIs-with_edge, same_role-true}
use Rattle.job_edges.proofs.Rests.{HasFilter}
use Rattle.job_edges.specs.Held.{EdgesStand, FilterStands, HasBacking, StreamStands, is_copiers}
use Rattle.job_edges.proofs.Unread.{has_filter}
use Rattle.job_edges.proofs.Rebased.{KeepsPermissions-streamed, KeepsPermissions-stopped}
use Rattle.job_edges.proofs.Whole.{stream_chain}
use Rattle.job_edges.proofs.Parts.{with_edge-alike}

-- The end of a backup, or of a mirror without a move, by the rows alone.
pub stopped : (kinds : List NodeKind) (edges : List Edge) (over node job : ℕ) → EdgesStand kinds edges → FilterStands kinds edges over node job
    → is_copiers (kind_at kinds over).kind ≡ true
    → KeepsPermissions (refreshed kinds (without_filter over (without_parent (Job job) edges)))
stopped kinds edges over node job stand f copies =
    KeepsPermissions-stopped kinds edges over node job (has_filter kinds edges stand over node job f) reads f.plain stand.refreshed stand.rule
  where
    has : HasFilter edges over node job
    has = has_filter kinds edges stand over node job f

    at_own : Contains edges has.own × (is_filters over has.own ≡ true)
    at_own = find-Some (is_filters over) edges has.own has.found

    filtered : has.own.role ≡ Filtered
    filtered = same_role-true has.own.role Filtered (and-right (same_parent has.own.parent (Node over)) (same_role has.own.role Filtered) at_own.1)

    from : has.own.parent ≡ Node over
    from = same_parent-true has.own.parent (Node over) (and-left (same_parent has.own.parent (Node over)) (same_role has.own.role Filtered) at_own.1)

    by_kind : (k : Kind) (w : Bool) (u : Uses) → is_copiers k ≡ true → with_uses has.own (derived_uses k Filtered w u) ≡ has.own → has.own.perm.read ≡ true
    by_kind BeforeWrite w u h is = ap (λ (x : Edge). x.perm.read) (sym is)
    by_kind Mirror w u h is = ap (λ (x : Edge). x.perm.read) (sym is)
    by_kind k w u h is = absurd (false≢true h)

    reads : has.own.perm.read ≡ true
    reads =
        let k : NodeKind = kind_at kinds over in
        by_kind k.kind k.writes (uses_into edges over) copies
        (subst (λ (r : Role). with_uses has.own (derived_uses k.kind r k.writes (uses_into edges over)) ≡ has.own) filtered
        (ap (ruled_from kinds (uses_into edges) has.own) (sym from) ∙ stand.refreshed has.own at_own.0))

-- a node's edge to its backing node: by it the new one stands in the table
module _ (kinds : List NodeKind) (edges : List Edge) (stand : EdgesStand kinds edges) (node base : ℕ) (has : HasBacking edges node) where
  pub takes : takes_place (node_edge node Backing base) has.edge ≡ true
  takes = rw (has.parent, has.role) (rw (eq-eqb node node refl) refl)

  pub may_back : has_role (kind_at kinds node).kind Backing ≡ true
  may_back = by_role has.edge.role has.role (by_parent has.edge.parent has.parent (stand.table has.edge has.there))
    where
      by_parent : (p : Parent) → p ≡ Node node → IsOf kinds has.edge p → has_role (kind_at kinds node).kind has.edge.role ≡ true
      by_parent p is own = subst (λ (q : Parent). IsOf kinds has.edge q) is own

      by_role : (r : Role) → r ≡ Backing → has_role (kind_at kinds node).kind r ≡ true → has_role (kind_at kinds node).kind Backing ≡ true
      by_role r is own = subst (λ (q : Role). has_role (kind_at kinds node).kind q ≡ true) is own

  pub small_backed : node < 64
  small_backed = subst HasNumber has.parent (stand.listed.each has.edge has.there).number

-- The end of a stream without error, change by change.
module _ (kinds : List NodeKind) (edges : List Edge) (top base job : ℕ) (stand : EdgesStand kinds edges) (s : StreamStands kinds edges top base job)
    (has : HasBacking edges top) (way : Reaches edges top base) where
  abbrev new : Edge
  new = node_edge top Backing base

  abbrev no_job : List Edge
  no_job = without_parent (Job job) edges

  abbrev pub stream_once : List Edge
  stream_once = with_edge new no_job

  pub stream_table : EachIs (IsByTable kinds) (with_edge new no_job)
  stream_table = EachIs-with_edge (IsByTable kinds) new no_job (may_back kinds edges stand top base has)
      (EachIs-filter (IsByTable kinds) (λ e. not (same_parent e.parent (Job job))) edges stand.table)

  pub stream_listed : IsListed (with_edge new no_job)
  stream_listed = IsListed-with_edge new no_job
      (record { role = refl; number = small_backed kinds edges stand top base has; child = subst (λ n. n < 64) s.child (stand.listed.each s.edge s.there).child })
      (IsListed-filter (λ e. not (same_parent e.parent (Job job))) edges stand.listed)

  pub stream_acyclic : IsAcyclic (with_edge new no_job)
  stream_acyclic = IsAcyclic-covered (with_edge new no_job) edges (λ a e at from. elim (Contains-with_edge new no_job e at) [
    | inl is_new ↦
        let same : Node top ≡ Node a = sym (ap (λ (x : Edge). x.parent) is_new) ∙ from in
        let equal : top ≡ a = cc same in
        subst (λ k. Reaches edges k e.child) equal (subst (Reaches edges top) (sym (ap (λ (x : Edge). x.child) is_new)) way)
    | inr kept ↦ Reaches-edge edges a e (Contains-filter (λ x. not (same_parent x.parent (Job job))) edges e kept).0 from
  ]) stand.acyclic

  pub stream_rule : KeepsPermissions (refreshed kinds (with_edge new no_job))
  stream_rule =
      KeepsPermissions-streamed kinds edges top base job has.edge (stream_chain kinds edges top base job stand.rule s) has.there
      (takes kinds edges stand top base has) stand.listed stand.refreshed stand.table stand.rule

  pub stream_at_once : refreshed kinds (with_edge new (refreshed kinds no_job)) ≡ refreshed kinds (with_edge new no_job)
  stream_at_once =
      refreshed-both kinds (with_edge new (refreshed kinds no_job)) (with_edge new no_job)
      (with_edge-alike new (refreshed kinds no_job) no_job (refreshed-alike kinds no_job)) stream_table stream_listed stream_acyclic
