-- Edges that are removed, and nodes that are no longer written, leave no edge that asks more or shares less, so the permission
-- rule is kept.
use Rattle.std.proofs.Common.{◌≡◌, ◌≢◌, ◌⊎◌, ◌<◌, ℕ, zero, suc, List, [], ◌∷◌, map, get_or, refl, sym, ◌∙◌, subst, inl, inr, arith, Bool, true, false, cond, Option, Some, None}
use Rattle.std.specs.Prelude.{◌==◌, ◌&&◌, ◌||◌, not}
use Rattle.std.specs.List.{Contains, AllPairs, filter, slice_get}
use Rattle.std.proofs.lemmas.Option.{slice_get_within, slice_get-get_or, get_or_from_slice_get}
use Rattle.std.proofs.lemmas.Bool.{cases_lt}
use Rattle.blk_graph.specs.declared.edge.Edge.{Edge}
use Rattle.blk_graph.specs.declared.edge.Parent.{Parent}
use Rattle.blk_graph.specs.declared.edge.Parent.TheVariants.{Node, Guest, Job}
use Rattle.blk_graph.specs.declared.edge.Perm.{Perm}
use Rattle.blk_graph.specs.declared.edge.Perm.TheVariants.{Read, Write, Unchanged}
use Rattle.blk_graph.specs.declared.edge.Role.{Role}
use Rattle.blk_graph.specs.declared.edge.Role.TheVariants.{File, Backing, Filtered}
use Rattle.blk_graph.specs.declared.edge.Uses.{Uses}
use Rattle.blk_graph.specs.declared.kind.Kind.{Kind}
use Rattle.blk_graph.specs.declared.kind.Kind.TheVariants.{Raw, Qcow2, CopyOnRead, BeforeWrite, Mirror, Commit}
use Rattle.blk_graph.specs.declared.kind.NodeKind.{NodeKind}
use Rattle.blk_graph.specs.Drafts.{WriteLess, KeepsRule}
use Rattle.blk_graph.specs.Edges.{has_perm, ArePermsWithin}
use Rattle.blk_graph.specs.Permissions.{perms, idle_uses, derived_uses, uses_by}
use Rattle.blk_graph.specs.Refreshed.{kind_at, joined, uses_into, with_uses, ruled, ruled_from, turned_by, refreshed, IsRefreshed}
use Rattle.blk_graph.specs.Rule.{KeepsPermissions}
use Rattle.blk_graph.proofs.Members.{Contains-here, Contains-there, Contains-cases}
use Rattle.blk_graph.proofs.RefreshLemmas.{refreshed-by}
use Rattle.blk_graph.proofs.RoleLemmas.{tail_pairs, head_pairs, more_pairs}

-- less is asked, and more is shared
pub record IsLighter (a b : Uses) : Type 0 where
  pub asks : ArePermsWithin a.perm b.perm
  pub shares : ArePermsWithin b.shared a.shared

pub record IsEasier (a b : Edge) : Type 0 where
  pub parent : a.parent ≡ b.parent
  pub role : a.role ≡ b.role
  pub child : a.child ≡ b.child
  pub asks : ArePermsWithin a.perm b.perm
  pub shares : ArePermsWithin b.shared a.shared

either_within : (a b c d : Bool) → (a ≡ true → c ≡ true) → (b ≡ true → d ≡ true) → (a || b) ≡ true → (c || d) ≡ true
either_within true b c d h k is = rw (h refl) refl
either_within false b true d h k is = refl
either_within false b false d h k is = k is

both_within : (a b c d : Bool) → (a ≡ true → c ≡ true) → (b ≡ true → d ≡ true) → (a && b) ≡ true → (c && d) ≡ true
both_within true b c d h k is = rw (h refl) (k is)
both_within false b c d h k is = absurd cc

pub not_within : (a b : Bool) → (a ≡ true → b ≡ true) → not b ≡ true → not a ≡ true
not_within false b h is = refl
not_within true true h is = is
not_within true false h is = absurd (let e : false ≡ true = h refl in cc)

left_either : (a b : Bool) → b ≡ true → (a || b) ≡ true
left_either true b h = refl
left_either false b h = h

both_right : (a b : Bool) → (a && b) ≡ true → b ≡ true
both_right true b h = h
both_right false b h = absurd cc

-- one more edge weighs more
pub joined-lighter : (e : Edge) (uses : Uses) → IsLighter uses (joined e uses)
joined-lighter e uses = record {
  asks = λ perm. asks perm;
  shares = λ perm. shares perm;
}
  where
    asks : (perm : Perm) → has_perm uses.perm perm ≡ true → has_perm (joined e uses).perm perm ≡ true
    asks Read h = left_either e.perm.read uses.perm.read h
    asks Write h = left_either e.perm.write uses.perm.write h
    asks Unchanged h = left_either e.perm.unchanged uses.perm.unchanged h

    shares : (perm : Perm) → has_perm (joined e uses).shared perm ≡ true → has_perm uses.shared perm ≡ true
    shares Read h = both_right e.shared.read uses.shared.read h
    shares Write h = both_right e.shared.write uses.shared.write h
    shares Unchanged h = both_right e.shared.unchanged uses.shared.unchanged h

joined-easier : (a b : Edge) (u v : Uses) → IsEasier a b → IsLighter u v → IsLighter (joined a u) (joined b v)
joined-easier a b u v easier lighter = record {
  asks = λ perm. asks perm;
  shares = λ perm. shares perm;
}
  where
    asks : (perm : Perm) → has_perm (joined a u).perm perm ≡ true → has_perm (joined b v).perm perm ≡ true
    asks Read = either_within a.perm.read u.perm.read b.perm.read v.perm.read (easier.asks Read) (lighter.asks Read)
    asks Write = either_within a.perm.write u.perm.write b.perm.write v.perm.write (easier.asks Write) (lighter.asks Write)
    asks Unchanged =
        either_within a.perm.unchanged u.perm.unchanged b.perm.unchanged v.perm.unchanged (easier.asks Unchanged) (lighter.asks Unchanged)

    shares : (perm : Perm) → has_perm (joined b v).shared perm ≡ true → has_perm (joined a u).shared perm ≡ true
    shares Read = both_within b.shared.read v.shared.read a.shared.read u.shared.read (easier.shares Read) (lighter.shares Read)
    shares Write = both_within b.shared.write v.shared.write a.shared.write u.shared.write (easier.shares Write) (lighter.shares Write)
    shares Unchanged =
        both_within b.shared.unchanged v.shared.unchanged a.shared.unchanged u.shared.unchanged (easier.shares Unchanged) (lighter.shares Unchanged)

pub lighter-trans : (a b c : Uses) → IsLighter a b → IsLighter b c → IsLighter a c
lighter-trans a b c h k = record {
  asks = λ perm is. k.asks perm (h.asks perm is);
  shares = λ perm is. h.shares perm (k.shares perm is);
}

-- what is derived weighs more where the uses above do, in each row of the table
abbrev pub AreLighter : Option Uses → Option Uses → Type 0
AreLighter None None = Unit {0}
AreLighter (Some a) (Some b) = IsLighter a b
AreLighter _ _ = ⊥

pub perms_within : (a b c x y z : Bool) → (a ≡ true → x ≡ true) → (b ≡ true → y ≡ true) → (c ≡ true → z ≡ true)
    → ArePermsWithin (perms a b c) (perms x y z)
perms_within a b c x y z r w u Read = r
perms_within a b c x y z r w u Write = w
perms_within a b c x y z r w u Unchanged = u

pub derived-lighter : (kind : Kind) (role : Role) (w v : Bool) (a b : Uses) → (w ≡ true → v ≡ true) → IsLighter a b
    → AreLighter (derived_uses kind role w a) (derived_uses kind role v b)
derived-lighter Raw File w v a b less h = record {
  asks = perms_within true w false true v false (λ is. is) less (λ is. is);
  shares = λ perm is. is;
}
derived-lighter Qcow2 File w v a b less h = record {
  asks = perms_within true w false true v false (λ is. is) less (λ is. is);
  shares = λ perm is. is;
}
derived-lighter Qcow2 Backing w v a b less h = record {
  asks = perms_within a.perm.read false false b.perm.read false false (h.asks Read) (λ is. is) (λ is. is);
  shares = perms_within true (not b.perm.read) true true (not a.perm.read) true (λ is. is)
      (not_within a.perm.read b.perm.read (h.asks Read)) (λ is. is);
}
derived-lighter CopyOnRead File w v a b less h = record {
  asks = perms_within a.perm.read a.perm.write true b.perm.read b.perm.write true (h.asks Read) (h.asks Write) (λ is. is);
  shares = h.shares;
}
derived-lighter BeforeWrite Filtered w v a b less h = record {
  asks = perms_within true a.perm.write a.perm.unchanged true b.perm.write b.perm.unchanged (λ is. is) (h.asks Write) (h.asks Unchanged);
  shares = λ perm is. is;
}
derived-lighter Mirror Filtered w v a b less h = record {
  asks = perms_within true a.perm.write a.perm.unchanged true b.perm.write b.perm.unchanged (λ is. is) (h.asks Write) (h.asks Unchanged);
  shares = λ perm is. is;
}
derived-lighter Commit Filtered w v a b less h = record {
  asks = perms_within false a.perm.write a.perm.unchanged false b.perm.write b.perm.unchanged (λ is. is) (h.asks Write) (h.asks Unchanged);
  shares = h.shares;
}
derived-lighter _ _ w v a b less h = tt

pub with_uses-easier : (a b : Edge) (p q : Option Uses) → IsEasier a b → AreLighter p q → IsEasier (with_uses a p) (with_uses b q)
with_uses-easier a b None None easier h = easier
with_uses-easier a b (Some p) (Some q) easier h = record {
  parent = easier.parent;
  role = easier.role;
  child = easier.child;
  asks = h.asks;
  shares = h.shares;
}
with_uses-easier a b None (Some q) easier h = absurd h
with_uses-easier a b (Some p) None easier h = absurd h

pub ruled-easier : (before after : List NodeKind) → WriteLess before after → (f g : ℕ → Uses) (a b : Edge)
    → ((n : ℕ) → IsLighter (f n) (g n)) → IsEasier a b → IsEasier (ruled after f a) (ruled before g b)
ruled-easier before after less f g a b lighter easier =
    subst (λ (p : Parent). IsEasier (ruled_from after f a p) (ruled_from before g b b.parent)) (sym easier.parent) (by_parent b.parent)
  where
    by_parent : (p : Parent) → IsEasier (ruled_from after f a p) (ruled_from before g b p)
    by_parent (Node n) =
        let k : NodeKind = kind_at after n in
        let l : NodeKind = kind_at before n in
        with_uses-easier a b (uses_by k a.role (f n)) (uses_by l b.role (g n)) easier
        (subst (λ (r : Role). AreLighter (uses_by k r (f n)) (uses_by l b.role (g n))) (sym easier.role)
        (subst (λ (kind : Kind). AreLighter (derived_uses kind b.role k.writes (f n)) (uses_by l b.role (g n))) (sym (less.kind n))
        (derived-lighter l.kind b.role k.writes l.writes (f n) (g n) (less.writes n) (lighter n))))
    by_parent (Guest n) = easier
    by_parent (Job n) = easier

pub less-refl : (kinds : List NodeKind) → WriteLess kinds kinds
less-refl kinds = record { kind = λ n. refl; writes = λ n is. is }

-- a list has edges of another in their order, each of them easier
abbrev pub IsEased : List Edge → List Edge → Type 0
IsEased [] old = Unit {0}
IsEased (a ∷ new) [] = ⊥
IsEased (a ∷ new) (b ∷ old) = (IsEasier a b × IsEased new old) ⊎ IsEased (a ∷ new) old

pub idle-lighter : (uses : Uses) → IsLighter idle_uses uses
idle-lighter uses = record { asks = λ perm. asks perm; shares = λ perm. shares perm }
  where
    asks : (perm : Perm) → has_perm idle_uses.perm perm ≡ true → has_perm uses.perm perm ≡ true
    asks Read h = absurd cc
    asks Write h = absurd cc
    asks Unchanged h = absurd cc

    shares : (perm : Perm) → has_perm uses.shared perm ≡ true → has_perm idle_uses.shared perm ≡ true
    shares Read h = refl
    shares Write h = refl
    shares Unchanged h = refl

pub uses_into-eased : (n : ℕ) (new old : List Edge) → IsEased new old → IsLighter (uses_into new n) (uses_into old n)
uses_into-eased n [] old h = idle-lighter (uses_into old n)
uses_into-eased n (a ∷ new) [] h = absurd h
uses_into-eased n (a ∷ new) (b ∷ old) (inl h) =
    rw h.0.child (by_test (b.child == n) (uses_into-eased n new old h.1))
  where
    by_test : (t : Bool) → IsLighter (uses_into new n) (uses_into old n)
        → IsLighter (cond t (joined a (uses_into new n)) (uses_into new n)) (cond t (joined b (uses_into old n)) (uses_into old n))
    by_test true ih = joined-easier a b (uses_into new n) (uses_into old n) h.0 ih
    by_test false ih = ih
uses_into-eased n (a ∷ new) (b ∷ old) (inr h) = by_test (b.child == n) (uses_into-eased n (a ∷ new) old h)
  where
    by_test : (t : Bool) → IsLighter (uses_into (a ∷ new) n) (uses_into old n)
        → IsLighter (uses_into (a ∷ new) n) (cond t (joined b (uses_into old n)) (uses_into old n))
    by_test true ih = lighter-trans (uses_into (a ∷ new) n) (uses_into old n) (joined b (uses_into old n)) ih (joined-lighter b (uses_into old n))
    by_test false ih = ih

-- a list that is ruled by lighter uses is eased, where the other stays under its own
pub eased_ruled : (kinds : List NodeKind) (f g : ℕ → Uses) → ((n : ℕ) → IsLighter (f n) (g n)) → (new old : List Edge)
    → ((e : Edge) → Contains old e → ruled kinds g e ≡ e) → IsEased new old → IsEased (map (ruled kinds f) new) old
eased_ruled kinds f g lighter [] old stays h = tt
eased_ruled kinds f g lighter (a ∷ new) [] stays h = absurd h
eased_ruled kinds f g lighter (a ∷ new) (b ∷ old) stays (inl h) =
    let here : IsEasier (ruled kinds f a) (ruled kinds g b) = ruled-easier kinds kinds (less-refl kinds) f g a b lighter h.0 in
    inl (rw (stays b (Contains-here b old)) at here, eased_ruled kinds f g lighter new old (λ e m. stays e (Contains-there b old e m)) h.1)
eased_ruled kinds f g lighter (a ∷ new) (b ∷ old) stays (inr h) =
    inr (eased_ruled kinds f g lighter (a ∷ new) old (λ e m. stays e (Contains-there b old e m)) h)

pub eased_refreshed : (kinds : List NodeKind) (new old : List Edge) → IsRefreshed kinds old → IsEased new old
    → IsEased (refreshed kinds new) old
eased_refreshed kinds new old stays =
    refreshed-by kinds (λ now. IsEased now old)
    (λ now h. eased_ruled kinds (uses_into now) (uses_into old) (λ n. uses_into-eased n now old h) now old stays h) new

pub easier-refl : (e : Edge) → IsEasier e e
easier-refl e = record { parent = refl; role = refl; child = refl; asks = λ perm is. is; shares = λ perm is. is }

pub eased-refl : (edges : List Edge) → IsEased edges edges
eased-refl [] = tt
eased-refl (e ∷ edges) = inl (easier-refl e, eased-refl edges)

eased-skip : (b : Edge) (new old : List Edge) → IsEased new old → IsEased new (b ∷ old)
eased-skip b [] old h = tt
eased-skip b (a ∷ new) old h = inr h

pub eased_filter : (p : Edge → Bool) (edges : List Edge) → IsEased (filter p edges) edges
eased_filter p [] = tt
eased_filter p (e ∷ edges) = by_test (p e) (eased_filter p edges)
  where
    by_test : (t : Bool) → IsEased (filter p edges) edges → IsEased (cond t (e ∷ filter p edges) (filter p edges)) (e ∷ edges)
    by_test true ih = inl (easier-refl e, ih)
    by_test false ih = eased-skip e (filter p edges) edges ih

-- two edges of one child agree, whichever of them asks
abbrev pub Agree : Edge → Edge → Type 0
Agree a b = a.child ≡ b.child → ArePermsWithin a.perm b.shared × ArePermsWithin b.perm a.shared

agree-easier : (a b x y : Edge) → IsEasier a x → IsEasier b y → Agree x y → Agree a b
agree-easier a b x y h k agree same =
    let r = agree (sym h.child ∙ same ∙ k.child) in (
      λ perm is. k.shares perm (r.0 perm (h.asks perm is)),
      λ perm is. h.shares perm (r.1 perm (k.asks perm is)),
    )

eased-Contains : (new old : List Edge) → IsEased new old → (e : Edge) → Contains new e → (x : Edge) × Contains old x × IsEasier e x
eased-Contains [] old h e there = absurd (omega (arith, there.1))
eased-Contains (a ∷ new) [] h e there = absurd h
eased-Contains (a ∷ new) (b ∷ old) (inl h) e there = elim (Contains-cases a new e there) [
  | inl here ↦ (b, Contains-here b old, rw here h.0)
  | inr later ↦ let r = eased-Contains new old h.1 e later in (r.0, Contains-there b old r.0 r.1, r.2)
]
eased-Contains (a ∷ new) (b ∷ old) (inr h) e there =
    let r = eased-Contains (a ∷ new) old h e there in (r.0, Contains-there b old r.0 r.1, r.2)

pub eased_pairs : (new old : List Edge) → IsEased new old → AllPairs Agree old → AllPairs Agree new
eased_pairs [] old h pairs = λ i j d below within. absurd (omega (arith, within))
eased_pairs (a ∷ new) [] h pairs = absurd h
eased_pairs (a ∷ new) (b ∷ old) (inl h) pairs =
    more_pairs Agree a new
    (λ y there. let r = eased-Contains new old h.1 y there in
    agree-easier a y b r.0 h.0 r.2 (head_pairs Agree b old pairs r.0 r.1))
    (eased_pairs new old h.1 (tail_pairs Agree b old pairs))
eased_pairs (a ∷ new) (b ∷ old) (inr h) pairs = eased_pairs (a ∷ new) old h (tail_pairs Agree b old pairs)

pub agree-pairs : (edges : List Edge) → KeepsPermissions edges → AllPairs Agree edges
agree-pairs edges rule i j d below within =
    let at_i : slice_get edges i ≡ Some (get_or edges i d) = slice_get-get_or edges i d (omega (arith, below, within)) in
    let at_j : slice_get edges j ≡ Some (get_or edges j d) = slice_get-get_or edges j d within in
    let differ : i ≢ j = λ e. omega (arith, e, below) in
    let back : j ≢ i = λ e. omega (arith, e, below) in
    λ same. (
      rule i j (get_or edges i d) (get_or edges j d) at_i at_j differ same,
      rule j i (get_or edges j d) (get_or edges i d) at_j at_i back (sym same),
    )

pub pairs-agree : (edges : List Edge) → AllPairs Agree edges → KeepsPermissions edges
pairs-agree edges pairs i j asking other at_i at_j differ same =
    let is_i : get_or edges i asking ≡ asking = get_or_from_slice_get edges i asking asking at_i in
    let is_j : get_or edges j asking ≡ other = get_or_from_slice_get edges j other asking at_j in
    elim (cases_lt i j) [
      | inl below ↦
          let r = pairs i j asking below (slice_get_within edges j other at_j) in
          let both : Agree asking other = rw is_j at (rw is_i at r) in (both same).0
      | inr above ↦
          let less : j < i = omega (arith, above, differ) in
          let r = pairs j i asking less (slice_get_within edges i asking at_i) in
          let both : Agree other asking = rw is_i at (rw is_j at r) in (both (sym same)).1
    ]

-- what is derived from an eased list is easier than what is derived from the other, also where fewer nodes are written
module _ (before after : List NodeKind) (less : WriteLess before after) where
  eased_mapped : (f g : ℕ → Uses) → ((n : ℕ) → IsLighter (f n) (g n)) → (new old : List Edge) → IsEased new old
      → IsEased (map (ruled after f) new) (map (ruled before g) old)
  eased_mapped f g lighter [] old h = tt
  eased_mapped f g lighter (a ∷ new) [] h = absurd h
  eased_mapped f g lighter (a ∷ new) (b ∷ old) (inl h) =
      inl (ruled-easier before after less f g a b lighter h.0, eased_mapped f g lighter new old h.1)
  eased_mapped f g lighter (a ∷ new) (b ∷ old) (inr h) = inr (eased_mapped f g lighter (a ∷ new) old h)

  eased_by : (new old : List Edge) → IsEased new old → (k : ℕ) → IsEased (turned_by k after new) (turned_by k before old)
  eased_by new old h zero = h
  eased_by new old h (suc k) =
      let rest : IsEased (turned_by k after new) (turned_by k before old) = eased_by new old h k in
      eased_mapped (uses_into (turned_by k after new)) (uses_into (turned_by k before old))
      (λ n. uses_into-eased n (turned_by k after new) (turned_by k before old) rest) (turned_by k after new) (turned_by k before old) rest

  eased_derived : (new old : List Edge) → IsEased new old → IsEased (refreshed after new) (refreshed before old)
  unfolding refreshed
  eased_derived new old h = eased_by new old h 64

  pub KeepsPermissions-eased : (new old : List Edge) → IsEased new old → KeepsPermissions (refreshed before old)
      → KeepsPermissions (refreshed after new)
  KeepsPermissions-eased new old h rule =
      pairs-agree (refreshed after new)
      (eased_pairs (refreshed after new) (refreshed before old) (eased_derived new old h) (agree-pairs (refreshed before old) rule))

pub KeepsPermissions-less : (before after : List NodeKind) (edges : List Edge) → WriteLess before after
    → KeepsPermissions (refreshed before edges) → KeepsPermissions (refreshed after edges)
KeepsPermissions-less before after edges less = KeepsPermissions-eased before after less edges edges (eased-refl edges)

pub KeepsRule-filter : (p : Edge → Bool) (edges : List Edge) → KeepsRule edges (filter p edges)
KeepsRule-filter p edges kinds = KeepsPermissions-eased kinds kinds (less-refl kinds) (filter p edges) edges (eased_filter p edges)

-- fewer edges keep the rule, also after what nodes' edges ask and share was derived again
pub KeepsPermissions-fewer : (kinds : List NodeKind) (p : Edge → Bool) (edges : List Edge) → IsRefreshed kinds edges
    → KeepsPermissions edges → KeepsPermissions (refreshed kinds (filter p edges))
KeepsPermissions-fewer kinds p edges stays rule =
    pairs-agree (refreshed kinds (filter p edges))
    (eased_pairs (refreshed kinds (filter p edges)) edges
    (eased_refreshed kinds (filter p edges) edges stays (eased_filter p edges)) (agree-pairs edges rule))
