-- The ends of commits without a move, and of streams.
use Rattle.std.proofs.Common.{◌≡◌, ◌≢◌, ◌⊎◌, ℕ, List, map, refl, sym, ◌∙◌, ap, subst, inl, inr, Bool, true, false, cond}
use Rattle.std.specs.Prelude.{◌==◌, ◌||◌, not}
use Rattle.std.specs.List.{Contains}
use Rattle.std.proofs.lemmas.Bool.{false≢true, eqb-true, eq-eqb, ne_eqb}
use Rattle.blk_graph.specs.declared.edge.Edge.{Edge}
use Rattle.blk_graph.specs.declared.edge.Parent.{Parent}
use Rattle.blk_graph.specs.declared.edge.Parent.TheVariants.{Node, Guest, Job}
use Rattle.blk_graph.specs.declared.edge.Role.{Role}
use Rattle.blk_graph.specs.declared.edge.Role.TheVariants.{Backing}
use Rattle.blk_graph.specs.declared.edge.Uses.{Uses}
use Rattle.blk_graph.specs.declared.kind.Kind.{Kind}
use Rattle.blk_graph.specs.declared.kind.Kind.TheVariants.{Protocol, Raw, Qcow2, CopyOnRead, BeforeWrite, Mirror, Commit}
use Rattle.blk_graph.specs.declared.kind.NodeKind.{NodeKind}
use Rattle.blk_graph.specs.Edges.{same_role, ArePermsWithin}
use Rattle.blk_graph.specs.Edits.{moved, without_filter, without_parent}
use Rattle.blk_graph.specs.Permissions.{has_role, derived_uses}
use Rattle.blk_graph.specs.Refreshed.{kind_at, IsByTable, IsOf, uses_into, with_uses, ruled_from, refreshed, IsRefreshed}
use Rattle.blk_graph.specs.Rule.{KeepsPermissions}
use Rattle.blk_graph.proofs.EaseLemmas.{IsEasier, perms_within, easier-refl}
use Rattle.blk_graph.proofs.CycleLemmas.{and-left, and-right}
use Rattle.blk_graph.proofs.RoleLemmas.{EachIs, same_role-true, same_role-refl}
use Rattle.job_edges.specs.Chains.{IsReadPlain, is_one, is_to_backing, IsBelow}
use Rattle.job_edges.proofs.Rests.{HasFilter, reading, IsCalm, HoldsChain}
use Rattle.job_edges.proofs.Ends.{Kept, over_beside, left, left_is, left_kept}
use Rattle.job_edges.proofs.Stays.{stay_kept, IsUp, IsFirm}

-- an edge to a backing node asks at most to read
pub backing-most : (kinds : List NodeKind) (edges : List Edge) (e : Edge) → IsRefreshed kinds edges → EachIs (IsByTable kinds) edges → Contains edges e
    → e.role ≡ Backing → (n : ℕ) → e.parent ≡ Node n → IsEasier e (reading e.child e)
backing-most kinds edges e still table there role n from =
    let k : NodeKind = kind_at kinds n in
    let may : has_role k.kind Backing ≡ true =
    subst (λ (r : Role). has_role k.kind r ≡ true) role (subst (IsOf kinds e) from (table e there)) in
    let is : with_uses e (derived_uses k.kind Backing k.writes (uses_into edges n)) ≡ e =
    subst (λ (r : Role). with_uses e (derived_uses k.kind r k.writes (uses_into edges n)) ≡ e) role (ap (ruled_from kinds (uses_into edges) e) (sym from) ∙ still e there) in
    subst (λ (x : Edge). IsEasier x (reading e.child e)) is (by_kind k.kind k.writes (uses_into edges n) may)
  where
    by_kind : (k : Kind) (w : Bool) (u : Uses) → has_role k Backing ≡ true → IsEasier (with_uses e (derived_uses k Backing w u)) (reading e.child e)
    by_kind Qcow2 w u may = record {
      parent = refl;
      role = refl;
      child = refl;
      asks = perms_within u.perm.read false false true false false (λ is. refl) (λ is. is) (λ is. is);
      shares = perms_within true false true true (not u.perm.read) true (λ is. is) (λ is. absurd (false≢true is)) (λ is. is);
    }
    by_kind Protocol w u may = absurd (false≢true may)
    by_kind Raw w u may = absurd (false≢true may)
    by_kind CopyOnRead w u may = absurd (false≢true may)
    by_kind BeforeWrite w u may = absurd (false≢true may)
    by_kind Mirror w u may = absurd (false≢true may)
    by_kind Commit w u may = absurd (false≢true may)

or-false : (a b : Bool) → (a || b) ≡ false → (a ≡ false) × (b ≡ false)
or-false true b is = absurd (false≢true (sym is))
or-false false b is = (refl, is)

or-true : (a b : Bool) → (a || b) ≡ true → (a ≡ true) ⊎ ((a ≡ false) × (b ≡ true))
or-true true b is = inl refl
or-true false b is = inr (refl, is)

or-right : (a b : Bool) → b ≡ true → (a || b) ≡ true
or-right true b is = refl
or-right false b is = is

-- what an end without a move leaves: the filter is gone, and the edges that are given to the base are new ones
module _ (kinds : List NodeKind) (edges kept : List Edge) (over top base job : ℕ) (given : Edge → Bool) (through : ℕ → Bool)
    (holds : HoldsChain kinds edges given through top base over job)
    (backs : (e : Edge) → Contains edges e → given e ≡ true → e.role ≡ Backing)
    (apart : over ≢ top)
    (of : Kept edges over job kept) (still : IsRefreshed kinds edges) (table : EachIs (IsByTable kinds) edges)
    (beside : (x y : Edge) → Contains kept x → x.child ≡ over → Contains kept y → y.child ≡ top → ArePermsWithin x.perm y.shared × ArePermsWithin y.perm x.shared)
  where
    abbrev begins : Edge → Bool
    begins e = given e || is_to_backing through e

    abbrev leads_to : Edge → ℕ
    leads_to e = cond (given e) base e.child

    abbrev firm : ℕ → Bool
    firm n = (n == base) || through n

    firm_below : (n : ℕ) → IsBelow through base n → firm n ≡ true
    firm_below n (inl is) = or-right (n == base) (through n) is
    firm_below n (inr is) = rw (eq-eqb n base is) refl

    ups : (e : Edge) → Contains kept e → begins e ≡ true → IsUp kinds edges kept over top job begins leads_to firm of still e
    ups e there is = by_given (or-true (given e) (is_to_backing through e) is)
      where
        at : Contains edges e
        at = (of.was e there).0

        calm_at : (n : ℕ) → IsBelow through base n → n ≢ top → (x : Edge) → Contains kept x → begins x ≡ false → x.child ≡ n → IsCalm x
        calm_at n below other x at_x none to =
            let w = of.was x at_x in
            let f = or-false (given x) (is_to_backing through x) none in
            holds.calm x w.0 w.1 w.2 f.0 f.1 (subst (IsBelow through base) (sym to) below) (λ same. other (sym to ∙ same))

        by_given : (given e ≡ true) ⊎ ((given e ≡ false) × (is_to_backing through e ≡ true))
            → IsUp kinds edges kept over top job begins leads_to firm of still e
        by_given (inl goes) =
            let leads : leads_to e ≡ base = rw goes refl in
            record {
              role = backs e at goes;
              apart = λ same. holds.apart (sym leads ∙ same);
              firm_to = ap firm leads ∙ firm_below base (inr refl);
              calm = λ x at_x none to. calm_at base (inr refl) holds.apart x at_x none (to ∙ leads);
            }
        by_given (inr more) =
            let leads : leads_to e ≡ e.child = rw more.0 refl in
            let below = holds.leads e at more.0 more.1 in
            let away = holds.away e at more.0 more.1 in
            record {
              role = same_role-true e.role Backing (and-left (same_role e.role Backing) (is_one through e.parent) more.1);
              apart = λ same. away.0 (sym leads ∙ same);
              firm_to = ap firm leads ∙ firm_below e.child below;
              calm = λ x at_x none to. calm_at e.child below away.0 x at_x none (to ∙ leads);
            }

    firms : (n : ℕ) → firm n ≡ true → IsFirm kinds edges kept over top job begins leads_to firm of still n
    firms n is = elim (or-true (n == base) (through n) is) [
      | inl same ↦
          let here : IsReadPlain kinds edges n = subst (IsReadPlain kinds edges) (sym (eqb-true n base same)) holds.read in
          record { plain = here.plain; read = inl here.read }
      | inr more ↦ record {
        plain = holds.plain n more.1;
        read = inr (λ e there from role. or-right (given e) (is_to_backing through e)
            (rw (ap (λ r. same_role r Backing) role ∙ same_role-refl Backing) (ap (is_one through) from ∙ more.1)));
      }
    ]

    -- the edges, where those that are given are any that ask at most to read
    pub chain_kept : (new : Edge → Edge) → ((e : Edge) → Contains kept e → given e ≡ false → new e ≡ moved over top e)
        → ((e : Edge) → Contains kept e → given e ≡ true → IsEasier (new e) (reading base e)) → KeepsPermissions (refreshed kinds (map new kept))
    chain_kept new same less =
        stay_kept kinds edges kept over top job begins leads_to firm of still ups firms (firm_below top (inl holds.at_top)) apart beside new
        (λ e there. by_given e there (given e) refl)
      where
        to_node : (e : Edge) → is_one through e.parent ≡ true → (n : ℕ) × (e.parent ≡ Node n)
        to_node e is = by_parent e.parent refl is
          where
            by_parent : (p : Parent) → e.parent ≡ p → is_one through p ≡ true → (n : ℕ) × (e.parent ≡ Node n)
            by_parent (Node n) from h = (n, from)
            by_parent (Guest n) from h = absurd (false≢true h)
            by_parent (Job n) from h = absurd (false≢true h)

        by_given : (e : Edge) → Contains kept e → (b : Bool) → given e ≡ b
            → IsEasier (new e) (cond (begins e) (reading (leads_to e) e) (moved over top e))
        by_given e there true is = rw is (less e there is)
        by_given e there false is = by_chain (is_to_backing through e) refl
          where
            at : Contains edges e
            at = (of.was e there).0

            by_chain : (b : Bool) → is_to_backing through e ≡ b → IsEasier (new e) (cond (given e || is_to_backing through e) (reading (leads_to e) e) (moved over top e))
            by_chain true chained =
                let role : e.role ≡ Backing = same_role-true e.role Backing (and-left (same_role e.role Backing) (is_one through e.parent) chained) in
                let from = to_node e (and-right (same_role e.role Backing) (is_one through e.parent) chained) in
                let stays : moved over top e ≡ e = rw (ne_eqb e.child over (holds.away e at is chained).1) refl in
                rw (is, chained) (rw (same e there is ∙ stays) (backing-most kinds edges e still table at role from.0 from.1))
            by_chain false none = rw (is, none) (rw (same e there is) (easier-refl (moved over top e)))

-- ---- the lists

-- The end of a commit without a move: its edges and its filter go, and what used the filter uses its top.
pub KeepsPermissions-left_off : (kinds : List NodeKind) (edges : List Edge) (over top base job : ℕ) (through : ℕ → Bool) → HasFilter edges over top job
    → HoldsChain kinds edges (λ e. false) through top base over job → IsRefreshed kinds edges → EachIs (IsByTable kinds) edges → KeepsPermissions edges
    → KeepsPermissions (refreshed kinds (without_filter over (without_parent (Job job) edges)))
KeepsPermissions-left_off kinds edges over top base job through has holds still table rule =
    let own : List Edge = left edges over top job has rule in
    let of : Kept edges over job own = left_kept edges over top job has rule in
    subst (λ (es : List Edge). KeepsPermissions (refreshed kinds es)) (sym (left_is edges over top job has rule))
    (chain_kept kinds edges own over top base job (λ e. false) through holds (λ e at none. absurd (false≢true none)) has.apart of still table
    (λ x y at_x to_x at_y to_y. let a = of.was x at_x in let b = of.was y at_y in over_beside kinds edges over top job has rule x y a.0 to_x b.0 b.1 b.2 to_y)
    (moved over top) (λ e there none. refl) (λ e there none. absurd (false≢true none)))
