-- The end of a job as a table makes it: its changes one after another, each with what is derived from it.
use Rattle.std.proofs.Common.{◌≡◌, ◌≢◌, ◌⊎◌, ℕ, zero, suc, ◌<◌, List, [], ◌∷◌, map, refl, sym, ◌∙◌, ap, subst, inl, inr, Bool, true, false, cond, Option, Some}
use Rattle.std.specs.Prelude.{◌==◌, ◌&&◌, ◌||◌, not}
use Rattle.std.specs.List.{Contains}
use Rattle.std.proofs.lemmas.Bool.{false≢true, eqb-true, eq-eqb}
use Rattle.blk_graph.specs.declared.edge.Edge.{Edge}
use Rattle.blk_graph.specs.declared.edge.Parent.{Parent}
use Rattle.blk_graph.specs.declared.edge.Parent.TheVariants.{Node, Guest, Job}
use Rattle.blk_graph.specs.declared.edge.Perm.TheVariants.{Read, Write}
use Rattle.blk_graph.specs.declared.edge.Role.TheVariants.{Backing, Filtered}
use Rattle.blk_graph.specs.declared.edge.Uses.{Uses}
use Rattle.blk_graph.specs.declared.kind.NodeKind.{NodeKind}
use Rattle.blk_graph.specs.Edges.{same_parent, same_role, is_job, ArePermsWithin, IsListed}
use Rattle.blk_graph.specs.Edits.{takes_place, with_child, stays, replaced, with_replaced, moved, is_filters, without_filter, without_parent}
use Rattle.blk_graph.specs.Paths.{Reaches, IsAcyclic}
use Rattle.blk_graph.specs.Permissions.{node_edge, uses_by}
use Rattle.blk_graph.specs.Refreshed.{kind_at, IsOf, IsByTable, uses_into, with_uses, ruled, ruled_from, turned, turned_by, refreshed}
use Rattle.blk_graph.specs.Rule.{KeepsPermissions}
use Rattle.blk_graph.proofs.AlikeLemmas.{IsEdgeAlike, AreEdgesAlike, all_alike-trans, refreshed-alike, without_filter-alike, refreshed-both}
use Rattle.blk_graph.proofs.CycleLemmas.{same_parent-true, and-left, and-right}
use Rattle.blk_graph.proofs.EaseLemmas.{agree-pairs}
use Rattle.blk_graph.proofs.EditLemmas.{moved-cases, replaced-parent}
use Rattle.blk_graph.proofs.InverseLemmas.{same_parent-refl, same_parent-false}
use Rattle.blk_graph.proofs.ListedLemmas.{IsListed-filter, IsListed-replaced, IsListed-without_filter}
use Rattle.blk_graph.proofs.Members.{Contains-here, Contains-there, Contains-map}
use Rattle.blk_graph.proofs.RefreshLemmas.{ruled-same}
use Rattle.blk_graph.proofs.RoleLemmas.{EachIs, same_role-true}
use Rattle.blk_graph.proofs.TakeOutLemmas.{under_uses, agree_apart}
use Rattle.job_edges.specs.Chains.{is_plain, is_one, is_to_backing, IsBelow}
use Rattle.job_edges.proofs.Rests.{HasFilter, HoldsChain, IsCalm}
use Rattle.job_edges.specs.Held.{EdgesStand, FilterStands, TargetStands, StreamStands}
use Rattle.job_edges.specs.Ended.{AreOthers}
use Rattle.job_edges.proofs.Ends.{KeepsPermissions-pivoted, left, left_is, left_kept}
use Rattle.job_edges.proofs.Unread.{has_filter, holds_alone}
use Rattle.job_edges.proofs.Cycles.{IsAcyclic-pivoted, pivot_leads}

-- ---- kinds that agree on the parents of a list derive the same

module _ (before after : List NodeKind) where
  abbrev pub AgreeOn : List Edge → Type 0
  AgreeOn edges = (e : Edge) → Contains edges e → (n : ℕ) → e.parent ≡ Node n → kind_at after n ≡ kind_at before n

  ruled-agree : (u : ℕ → Uses) (e : Edge) → ((n : ℕ) → e.parent ≡ Node n → kind_at after n ≡ kind_at before n) → ruled after u e ≡ ruled before u e
  ruled-agree u e same = by_parent e.parent refl
    where
      by_parent : (p : Parent) → e.parent ≡ p → ruled_from after u e p ≡ ruled_from before u e p
      by_parent (Node n) is = ap (λ k. with_uses e (uses_by k e.role (u n))) (same n is)
      by_parent (Guest n) is = refl
      by_parent (Job n) is = refl

  mapped-agree : (u : ℕ → Uses) (edges : List Edge) → AgreeOn edges → map (ruled after u) edges ≡ map (ruled before u) edges
  mapped-agree u [] same = refl
  mapped-agree u (e ∷ edges) same =
      ap (λ x. x ∷ map (ruled after u) edges) (ruled-agree u e (same e (Contains-here e edges)))
      ∙ ap (λ xs. ruled before u e ∷ xs) (mapped-agree u edges (λ x h. same x (Contains-there e edges x h)))

  turned-agree : (edges : List Edge) → AgreeOn edges → AgreeOn (turned before edges)
  turned-agree edges same = λ e there n from.
      let r = Contains-map (ruled before (uses_into edges)) edges e there in
      same r.0 r.1 n (sym (ruled-same before (uses_into edges) r.0).parent ∙ sym (ap (λ (x : Edge). x.parent) r.2) ∙ from)

  by_turns : (edges : List Edge) → AgreeOn edges → (k : ℕ) → (turned_by k after edges ≡ turned_by k before edges) × AgreeOn (turned_by k before edges)
  by_turns edges same zero = (refl, same)
  by_turns edges same (suc k) =
      let r = by_turns edges same k in
      (ap (turned after) r.0 ∙ mapped-agree (uses_into (turned_by k before edges)) (turned_by k before edges) r.1, turned-agree (turned_by k before edges) r.1)

  pub refreshed-agree : (edges : List Edge) → AgreeOn edges → refreshed after edges ≡ refreshed before edges
  unfolding refreshed
  refreshed-agree edges same = (by_turns edges same 64).0

-- ---- one derivation for several

replaced-alike : (from to : ℕ) (but : Option Parent) (a b : Edge) → IsEdgeAlike a b → IsEdgeAlike (replaced from to but a) (replaced from to but b)
replaced-alike from to but a b h =
    subst (λ t. IsEdgeAlike (cond t (with_child to a) a) (replaced from to but b))
    (ap (λ p. b.child == from && not (stays but p)) (sym h.same.parent) ∙ ap (λ c. c == from && not (stays but a.parent)) (sym h.same.child))
    (by_test (b.child == from && not (stays but b.parent)))
  where
    by_test : (t : Bool) → IsEdgeAlike (cond t (with_child to a) a) (cond t (with_child to b) b)
    by_test true = record { same = record { parent = h.same.parent; role = h.same.role; child = refl }; set = λ none. ap (with_child to) (h.set none) }
    by_test false = h

pub with_replaced-alike : (from to : ℕ) (but : Option Parent) (a b : List Edge) → AreEdgesAlike a b → AreEdgesAlike (with_replaced from to but a) (with_replaced from to but b)
with_replaced-alike from to but [] [] h = tt
with_replaced-alike from to but (a ∷ as') (b ∷ bs) h = (replaced-alike from to but a b h.0, with_replaced-alike from to but as' bs h.1)
with_replaced-alike from to but [] (b ∷ bs) h = absurd h
with_replaced-alike from to but (a ∷ as') [] h = absurd h

-- ---- streams

pub stream_chain : (kinds : List NodeKind) (edges : List Edge) (top base job : ℕ) → KeepsPermissions edges → StreamStands kinds edges top base job
    → HoldsChain kinds edges (takes_place (node_edge top Backing base)) (λ n. n == top) top base 64 job
stream_chain kinds edges top base job rule s = record {
  at_top = eq-eqb top top refl;
  apart = s.apart;
  plain = λ n is. subst (λ m. is_plain (kind_at kinds m).kind ≡ true) (sym (eqb-true n top is)) s.plain.0;
  read = record { plain = s.plain.1; read = (under_uses base edges s.edge s.there s.child).asks Read s.reads };
  leads = λ e there none is. absurd (false≢true (sym none ∙ given_one e is));
  away = λ e there none is. absurd (false≢true (sym none ∙ given_one e is));
  calm = λ e there none other keeps no below differ. calm e there other (at_base e.child below differ);
}
  where
    given_one : (e : Edge) → is_to_backing (λ n. n == top) e ≡ true → takes_place (node_edge top Backing base) e ≡ true
    given_one e is =
        let role : e.role ≡ Backing = same_role-true e.role Backing (and-left (same_role e.role Backing) (is_one (λ n. n == top) e.parent) is) in
        by_parent e.parent refl role (and-right (same_role e.role Backing) (is_one (λ n. n == top) e.parent) is)
      where
        by_parent : (p : Parent) → e.parent ≡ p → e.role ≡ Backing → is_one (λ n. n == top) p ≡ true → takes_place (node_edge top Backing base) e ≡ true
        by_parent (Node n) from role h = rw (from, role) (rw (eqb-true n top h, eq-eqb top top refl) refl)
        by_parent (Guest n) from role h = absurd (false≢true h)
        by_parent (Job n) from role h = absurd (false≢true h)

    at_base : (n : ℕ) → IsBelow (λ m. m == top) base n → n ≢ top → n ≡ base
    at_base n (inl is) differ = absurd (differ (eqb-true n top is))
    at_base n (inr is) differ = is

    calm : (e : Edge) → Contains edges e → e.parent ≢ Job job → e.child ≡ base → IsCalm e
    calm e there other at =
        let pair : ArePermsWithin s.edge.perm e.shared × ArePermsWithin e.perm s.edge.shared
        = agree_apart (λ x. same_parent x.parent (Job job)) edges (agree-pairs edges rule) s.edge e s.there there
        (ap (λ p. same_parent p (Job job)) s.own ∙ same_parent-refl (Job job)) (same_parent-false e.parent (Job job) other) (s.child ∙ sym at) in
        record { read = pair.0 Read s.reads; writes = none e.perm.write (λ w. false≢true (sym s.shut ∙ pair.1 Write w)) }
      where
        none : (b : Bool) → (b ≡ true → ⊥) → b ≡ false
        none true never = absurd (never refl)
        none false never = refl

-- ---- a pivot, change by change: the job goes, its filter goes, and all that used the source uses the other node

module _ (kinds after : List NodeKind) (edges : List Edge) (over node to job : ℕ) (stand : EdgesStand kinds edges) (filter : FilterStands kinds edges over node job)
    (target : TargetStands kinds edges to node job) (others : AreOthers kinds after over) where
  abbrev gone : List Edge
  gone = without_filter over (without_parent (Job job) edges)

  abbrev pub all_at_once : List Edge
  all_at_once = with_replaced node to (Some (Node over)) gone

  abbrev pub one_by_one : List Edge
  one_by_one = refreshed after (with_replaced node to (Some (Node over)) (refreshed after (without_filter over (refreshed kinds (without_parent (Job job) edges)))))

  small : to < 64
  small = subst (λ n. n < 64) target.held.child (stand.listed.each target.held.edge target.held.there).child

  has : HasFilter edges over node job
  has = has_filter kinds edges stand over node job filter

  is_own : (e : Edge) → Contains edges e → e.parent ≡ Node over → is_filters over e ≡ true
  is_own e there from = rw (ap (λ p. same_parent p (Node over)) from ∙ same_parent-refl (Node over)) (ap (λ r. same_role r Filtered) (filter.sole e there from))

  nobody : (e : Edge) → Contains edges e → is_filters over e ≡ false → stays (Some (Node over)) e.parent ≡ is_job e.parent
  nobody e there none = by_test (same_parent (Node over) e.parent) refl
    where
      or-none : (b : Bool) → (b || false) ≡ b
      or-none true = refl
      or-none false = refl

      by_test : (b : Bool) → same_parent (Node over) e.parent ≡ b → (is_job e.parent || same_parent (Node over) e.parent) ≡ is_job e.parent
      by_test true is = absurd (false≢true (sym none ∙ is_own e there (sym (same_parent-true (Node over) e.parent is))))
      by_test false is = rw is (or-none (is_job e.parent))

  in_gone : (e : Edge) → Contains gone e → (x : Edge) × Contains edges x × (e ≡ moved over node x) × (is_filters over x ≡ false)
  in_gone e there =
      let r = Contains-map (moved over node) (left edges over node job has stand.rule) e (subst (λ (es : List Edge). Contains es e) (left_is edges over node job has stand.rule) there) in
      let was = (left_kept edges over node job has stand.rule).was r.0 r.1 in
      (r.0, was.0, r.2, was.1)

  moved-from : (e : Edge) → (moved over node e).parent ≡ e.parent
  moved-from e = elim (moved-cases over node e) [
    | inl x ↦ ap (λ (y : Edge). y.parent) x.1
    | inr x ↦ ap (λ (y : Edge). y.parent) x.1
  ]

  agree_on : AgreeOn kinds after all_at_once
  agree_on e there n from =
      let r = Contains-map (replaced node to (Some (Node over))) gone e there in
      let x = in_gone r.0 r.1 in
      let was : x.0.parent ≡ Node n = sym (moved-from x.0) ∙ sym (ap (λ (y : Edge). y.parent) x.2) ∙ sym (replaced-parent node to (Some (Node over)) r.0) ∙ sym (ap (λ (y : Edge). y.parent) r.2) ∙ from in
      others n (λ same. false≢true (sym x.3 ∙ is_own x.0 x.1 (was ∙ ap Node same)))

  pub at_once_rule : KeepsPermissions (refreshed after all_at_once)
  at_once_rule =
      subst KeepsPermissions (sym (refreshed-agree kinds after all_at_once agree_on))
      (KeepsPermissions-pivoted kinds edges over node to job (Some (Node over)) has (holds_alone kinds edges stand to job target.held target.asks target.shut) target.plain nobody stand.refreshed stand.rule)

  pub pivoted_acyclic : IsAcyclic all_at_once
  pivoted_acyclic = IsAcyclic-pivoted edges over node job has stand.rule to (Some (Node over)) target.apart stand.acyclic

  pub pivoted_listed : IsListed all_at_once
  pivoted_listed = IsListed-replaced node to (Some (Node over)) gone small
      (IsListed-without_filter over (without_parent (Job job) edges) (IsListed-filter (λ e. not (same_parent e.parent (Job job))) edges stand.listed))

  pub pivoted_table : EachIs (IsByTable after) all_at_once
  pivoted_table e there =
      let r = Contains-map (replaced node to (Some (Node over))) gone e there in
      let x = in_gone r.0 r.1 in
      let was : IsByTable kinds x.0 = stand.table x.0 x.1 in
      subst (IsByTable after) (sym r.2) (by_replaced r.0 (r.0.child == node && not (stays (Some (Node over)) r.0.parent))
      (subst (IsByTable after) (sym x.2) (by_moved x.0 (x.0.child == over) (to_after x.0 was x.1 x.3))))
    where
      further : (e : Edge) (c : ℕ) → IsByTable after e → IsByTable after (with_child c e)
      further e c h = by_parent e.parent h
        where
          by_parent : (p : Parent) → IsOf after e p → IsOf after (with_child c e) p
          by_parent (Node n) h = h
          by_parent (Guest n) h = record { guest = h.guest; writes = h.writes; share_rw = h.share_rw; is = ap (with_child c) h.is }
          by_parent (Job n) h = record { job = h.job; what = h.what; is = ap (with_child c) h.is }

      by_replaced : (e : Edge) (b : Bool) → IsByTable after e → IsByTable after (cond b (with_child to e) e)
      by_replaced e true h = further e to h
      by_replaced e false h = h

      by_moved : (e : Edge) (b : Bool) → IsByTable after e → IsByTable after (cond b (with_child node e) e)
      by_moved e true h = further e node h
      by_moved e false h = h

      to_after : (e : Edge) → IsByTable kinds e → Contains edges e → is_filters over e ≡ false → IsByTable after e
      to_after e h at none = by_parent e.parent refl h
        where
          by_parent : (p : Parent) → e.parent ≡ p → IsOf kinds e p → IsOf after e p
          by_parent (Node n) from h =
              let same : kind_at after n ≡ kind_at kinds n = others n (λ is. false≢true (sym none ∙ is_own e at (from ∙ ap Node is))) in
              rw same h
          by_parent (Guest n) from h = h
          by_parent (Job n) from h = h

  pub pivoted_at_once : one_by_one ≡ refreshed after all_at_once
  pivoted_at_once =
      let no_job : List Edge = without_parent (Job job) edges in
      let pulled = without_filter-alike over (refreshed kinds no_job) no_job (refreshed-alike kinds no_job) in
      let derived = all_alike-trans (refreshed after (without_filter over (refreshed kinds no_job))) (without_filter over (refreshed kinds no_job)) gone
      (refreshed-alike after (without_filter over (refreshed kinds no_job))) pulled in
      refreshed-both after (with_replaced node to (Some (Node over)) (refreshed after (without_filter over (refreshed kinds no_job)))) all_at_once
      (with_replaced-alike node to (Some (Node over)) (refreshed after (without_filter over (refreshed kinds no_job))) gone derived) pivoted_table pivoted_listed pivoted_acyclic

  pub pivoted_leads : (a : ℕ) (e : Edge) → Contains all_at_once e → e.parent ≡ Node a → Reaches edges a e.child ⊎ ((e.child ≡ to) × Reaches edges a node)
  pivoted_leads a e there from = pivot_leads edges over node job has stand.rule to (Some (Node over)) a e there from
