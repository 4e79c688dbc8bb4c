-- The ends that move nobody, change by change, and a base that is given back to read-only.
use Rattle.std.proofs.Common.{◌≡◌, ◌≢◌, ℕ, ◌<◌, List, [], ◌∷◌, refl, sym, ◌∙◌, ap, subst, inl, inr, Bool, true, false, cond}
use Rattle.std.specs.Prelude.{◌==◌, ◌&&◌, ◌||◌, not}
use Rattle.std.specs.List.{Contains}
use Rattle.std.proofs.lemmas.Bool.{false≢true}
use Rattle.blk_graph.specs.declared.edge.Edge.{Edge}
use Rattle.blk_graph.specs.declared.edge.Parent.{Parent}
use Rattle.blk_graph.specs.declared.edge.Parent.TheVariants.{Node, Guest, Job}
use Rattle.blk_graph.specs.declared.edge.Role.TheVariants.{Backing, Between, Filtered}
use Rattle.blk_graph.specs.declared.kind.NodeKind.{NodeKind}
use Rattle.blk_graph.specs.Drafts.{WriteLess}
use Rattle.blk_graph.specs.Edges.{same_parent, same_role, IsListed}
use Rattle.blk_graph.specs.Edits.{takes_place, with_edge, with_child, moved, is_filters, without_filter, without_parent}
use Rattle.blk_graph.specs.Paths.{Reaches, IsAcyclic}
use Rattle.blk_graph.specs.Permissions.{has_role, node_edge}
use Rattle.blk_graph.specs.Refreshed.{kind_at, IsOf, IsByTable, refreshed}
use Rattle.blk_graph.specs.Rule.{KeepsPermissions}
use Rattle.blk_graph.proofs.AlikeLemmas.{IsEdgeAlike, AreEdgesAlike, alike-refl, all_alike-trans, refreshed-alike, without_filter-alike, refreshed-both}
use Rattle.blk_graph.proofs.EaseLemmas.{KeepsPermissions-less}
use Rattle.blk_graph.proofs.EditLemmas.{moved-cases, Contains-with_edge}
use Rattle.blk_graph.proofs.ListedLemmas.{IsListed-filter, IsListed-without_filter, IsListed-with_edge}
use Rattle.blk_graph.proofs.InverseLemmas.{same_parent-refl}
use Rattle.blk_graph.proofs.Members.{Contains-map}
use Rattle.blk_graph.proofs.PathLemmas.{IsAcyclic-covered}
use Rattle.blk_graph.proofs.RoleLemmas.{EachIs}
use Rattle.job_edges.proofs.Rests.{HasFilter}
use Rattle.job_edges.specs.Held.{EdgesStand, FilterStands}
use Rattle.job_edges.specs.Ended.{AreOthers}
use Rattle.job_edges.proofs.Ends.{left, left_is, left_kept}
use Rattle.job_edges.proofs.Unread.{has_filter}
use Rattle.job_edges.proofs.Cycles.{IsAcyclic-pulled, pulled_leads}
use Rattle.job_edges.proofs.Whole.{AgreeOn, refreshed-agree}

-- what is derived anew where fewer nodes are written
pub given_back : (kinds after : List NodeKind) (edges : List Edge) → WriteLess kinds after → EachIs (IsByTable after) edges → IsListed edges → IsAcyclic edges
    → KeepsPermissions (refreshed kinds edges) → KeepsPermissions (refreshed after (refreshed kinds edges))
given_back kinds after edges less table listed acyclic rule =
    subst KeepsPermissions (sym (refreshed-both after (refreshed kinds edges) edges (refreshed-alike kinds edges) table listed acyclic))
    (KeepsPermissions-less kinds after edges less rule)

takes_place-alike : (new a b : Edge) → IsEdgeAlike a b → takes_place new a ≡ takes_place new b
takes_place-alike new a b h =
    ap (λ p. same_parent new.parent p && same_role new.role a.role && (not (same_role new.role Between) || new.child == a.child)) h.same.parent
    ∙ ap (λ r. same_parent new.parent b.parent && same_role new.role r && (not (same_role new.role Between) || new.child == a.child)) h.same.role
    ∙ ap (λ c. same_parent new.parent b.parent && same_role new.role b.role && (not (same_role new.role Between) || new.child == c)) h.same.child

pub with_edge-alike : (new : Edge) (a b : List Edge) → AreEdgesAlike a b → AreEdgesAlike (with_edge new a) (with_edge new b)
with_edge-alike new [] [] h = (alike-refl new, tt)
with_edge-alike new (a ∷ as') (b ∷ bs) h = rw (takes_place-alike new a b h.0) (by_test (takes_place new b) (with_edge-alike new as' bs h.1))
  where
    by_test : (t : Bool) → AreEdgesAlike (with_edge new as') (with_edge new bs)
        → AreEdgesAlike (cond t (new ∷ as') (a ∷ with_edge new as')) (cond t (new ∷ bs) (b ∷ with_edge new bs))
    by_test true ih = (alike-refl new, h.1)
    by_test false ih = (h.0, ih)
with_edge-alike new [] (b ∷ bs) h = absurd h
with_edge-alike new (a ∷ as') [] h = absurd h

module _ (kinds after : List NodeKind) (edges : List Edge) (over node job : ℕ) (stand : EdgesStand kinds edges) (filter : FilterStands kinds edges over node job)
    (others : AreOthers kinds after over) where
  abbrev pub gone : List Edge
  gone = without_filter over (without_parent (Job job) edges)

  abbrev pub one_by_one : List Edge
  one_by_one = refreshed after (without_filter over (refreshed kinds (without_parent (Job job) edges)))

  has : HasFilter edges over node job
  has = has_filter kinds edges stand over node job filter

  is_own : (e : Edge) → Contains edges e → e.parent ≡ Node over → is_filters over e ≡ true
  is_own e there from = rw (ap (λ p. same_parent p (Node over)) from ∙ same_parent-refl (Node over)) (ap (λ r. same_role r Filtered) (filter.sole e there from))

  pub in_gone : (e : Edge) → Contains gone e → (x : Edge) × Contains edges x × (e ≡ moved over node x) × (is_filters over x ≡ false)
  in_gone e there =
      let r = Contains-map (moved over node) (left edges over node job has stand.rule) e (subst (λ (es : List Edge). Contains es e) (left_is edges over node job has stand.rule) there) in
      let was = (left_kept edges over node job has stand.rule).was r.0 r.1 in
      (r.0, was.0, r.2, was.1)

  moved-from : (e : Edge) → (moved over node e).parent ≡ e.parent
  moved-from e = elim (moved-cases over node e) [
    | inl x ↦ ap (λ (y : Edge). y.parent) x.1
    | inr x ↦ ap (λ (y : Edge). y.parent) x.1
  ]

  not_over : (e : Edge) → Contains gone e → (n : ℕ) → e.parent ≡ Node n → n ≢ over
  not_over e there n from same =
      let x = in_gone e there in
      let was : x.0.parent ≡ Node n = sym (moved-from x.0) ∙ sym (ap (λ (y : Edge). y.parent) x.2) ∙ from in
      false≢true (sym x.3 ∙ is_own x.0 x.1 (was ∙ ap Node same))

  pub gone_agrees : AgreeOn kinds after gone
  gone_agrees e there n from = others n (not_over e there n from)

  pub gone_listed : IsListed gone
  gone_listed = IsListed-without_filter over (without_parent (Job job) edges) (IsListed-filter (λ e. not (same_parent e.parent (Job job))) edges stand.listed)

  pub gone_acyclic : IsAcyclic gone
  gone_acyclic = IsAcyclic-pulled edges over node job has stand.rule stand.acyclic

  pub gone_table : EachIs (IsByTable after) gone
  gone_table e there =
      let x = in_gone e there in
      let was : IsByTable kinds x.0 = stand.table x.0 x.1 in
      by_parent e.parent refl (subst (IsByTable kinds) (sym x.2) (by_moved x.0 (x.0.child == over) was))
    where
      further : (e : Edge) (c : ℕ) → IsByTable kinds e → IsByTable kinds (with_child c e)
      further e c h = on_parent e.parent h
        where
          on_parent : (p : Parent) → IsOf kinds e p → IsOf kinds (with_child c e) p
          on_parent (Node n) h = h
          on_parent (Guest n) h = record { guest = h.guest; writes = h.writes; share_rw = h.share_rw; is = ap (with_child c) h.is }
          on_parent (Job n) h = record { job = h.job; what = h.what; is = ap (with_child c) h.is }

      by_moved : (e : Edge) (b : Bool) → IsByTable kinds e → IsByTable kinds (cond b (with_child node e) e)
      by_moved e true h = further e node h
      by_moved e false h = h

      by_parent : (p : Parent) → e.parent ≡ p → IsOf kinds e p → IsOf after e p
      by_parent (Node n) from h = let same : kind_at after n ≡ kind_at kinds n = gone_agrees e there n from in rw same h
      by_parent (Guest n) from h = h
      by_parent (Job n) from h = h

  pub alike_gone : AreEdgesAlike one_by_one gone
  alike_gone =
      let no_job : List Edge = without_parent (Job job) edges in
      all_alike-trans one_by_one (without_filter over (refreshed kinds no_job)) gone
      (refreshed-alike after (without_filter over (refreshed kinds no_job)))
      (without_filter-alike over (refreshed kinds no_job) no_job (refreshed-alike kinds no_job))

  pub is_at_once : one_by_one ≡ refreshed after gone
  is_at_once =
      let no_job : List Edge = without_parent (Job job) edges in
      refreshed-both after (without_filter over (refreshed kinds no_job)) gone
      (without_filter-alike over (refreshed kinds no_job) no_job (refreshed-alike kinds no_job)) gone_table gone_listed gone_acyclic

  pub gone_same : refreshed after gone ≡ refreshed kinds gone
  gone_same = refreshed-agree kinds after gone gone_agrees

  -- where each edge leads, it led before
  pub gone_leads : (a : ℕ) (e : Edge) → Contains gone e → e.parent ≡ Node a → Reaches edges a e.child
  gone_leads a e there from = pulled_leads edges over node job has stand.rule a e there from

  -- The same with another backing node for one that led there.
  module _ (overlay base : ℕ) (small_o : overlay < 64) (small_b : base < 64) (other : overlay ≢ over)
      (may : has_role (kind_at kinds overlay).kind Backing ≡ true) (way : Reaches edges overlay base) where
    abbrev pub new : Edge
    new = node_edge overlay Backing base

    agree : AgreeOn kinds after (with_edge new gone)
    agree e there n from = elim (Contains-with_edge new gone e there) [
      | inl is_new ↦
          let same : Node overlay ≡ Node n = sym (ap (λ (x : Edge). x.parent) is_new) ∙ from in
          let equal : overlay ≡ n = cc same in
          others n (λ is. other (equal ∙ is))
      | inr kept ↦ gone_agrees e kept n from
    ]

    pub rebased_table : EachIs (IsByTable after) (with_edge new gone)
    rebased_table e there = elim (Contains-with_edge new gone e there) [
      | inl is_new ↦
          let same : kind_at after overlay ≡ kind_at kinds overlay = others overlay other in
          subst (IsByTable after) (sym is_new) (ap (λ (k : NodeKind). has_role k.kind Backing) same ∙ may)
      | inr kept ↦ gone_table e kept
    ]

    pub rebased_listed : IsListed (with_edge new gone)
    rebased_listed = IsListed-with_edge new gone (record { role = refl; number = small_o; child = small_b }) gone_listed

    pub rebased_acyclic : IsAcyclic (with_edge new gone)
    rebased_acyclic = IsAcyclic-covered (with_edge new gone) edges (λ a e there from. elim (Contains-with_edge new gone e there) [
      | inl is_new ↦
          let same : Node overlay ≡ Node a = sym (ap (λ (x : Edge). x.parent) is_new) ∙ from in
          let equal : overlay ≡ a = cc same in
          subst (λ k. Reaches edges k e.child) equal (subst (Reaches edges overlay) (sym (ap (λ (x : Edge). x.child) is_new)) way)
      | inr kept ↦ gone_leads a e kept from
    ]) stand.acyclic

    pub rebased_at_once : refreshed after (with_edge new one_by_one) ≡ refreshed after (with_edge new gone)
    rebased_at_once =
        refreshed-both after (with_edge new one_by_one) (with_edge new gone) (with_edge-alike new one_by_one gone alike_gone) rebased_table rebased_listed rebased_acyclic

    pub rebased_same : refreshed after (with_edge new gone) ≡ refreshed kinds (with_edge new gone)
    rebased_same = refreshed-agree kinds after (with_edge new gone) agree
