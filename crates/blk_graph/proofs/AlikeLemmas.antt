-- Lists that differ only in what nodes' edges ask and share: edits leave such lists, and without cycles the same is derived from
-- both. So a filter that was put over a node and is taken out gives back the list.
use Rattle.std.proofs.Common.{◌≡◌, ◌≢◌, ℕ, zero, suc, List, [], ◌∷◌, ◌++◌, map, refl, sym, ◌∙◌, ap, subst, Bool, true, false, cond, Option, Some, None}
use Rattle.std.specs.Prelude.{◌==◌, ◌&&◌, ◌||◌, not}
use Rattle.std.specs.List.{Contains, filter, find, list_any}
use Rattle.blk_graph.specs.declared.edge.Edge.{Edge}
use Rattle.blk_graph.specs.declared.edge.Parent.{Parent}
use Rattle.blk_graph.specs.declared.edge.Parent.TheVariants.{Node, Guest, Job}
use Rattle.blk_graph.specs.declared.edge.Perms.{Perms}
use Rattle.blk_graph.specs.declared.edge.Role.{Role}
use Rattle.blk_graph.specs.declared.edge.Role.TheVariants.{File, Backing, Filtered, Between}
use Rattle.blk_graph.specs.declared.edge.Uses.{Uses}
use Rattle.blk_graph.specs.declared.kind.Kind.{Kind}
use Rattle.blk_graph.specs.declared.kind.Kind.TheVariants.{Protocol, Raw, Qcow2, CopyOnRead, BeforeWrite, Mirror, Commit}
use Rattle.blk_graph.specs.declared.kind.NodeKind.{NodeKind}
use Rattle.blk_graph.specs.Edges.{same_parent, same_role, IsListed}
use Rattle.blk_graph.specs.Edits.{IsLone, filter_edge, with_filter, with_child, moved, is_between, is_double, but_doubles, with_moved, is_edge, is_filters, but_filters, without_filter}
use Rattle.blk_graph.specs.Paths.{IsAcyclic}
use Rattle.blk_graph.specs.Permissions.{has_role, uses_by, derived_uses}
use Rattle.blk_graph.specs.Refreshed.{kind_at, IsOf, IsByTable, joined, uses_into, with_uses, ruled, ruled_from, turned_by, refreshed, IsRefreshed}
use Rattle.std.proofs.lemmas.Bool.{eqb-true}
use Rattle.blk_graph.proofs.EditLemmas.{IsSameEdge}
use Rattle.blk_graph.proofs.FitLemmas.{table_ruled}
use Rattle.blk_graph.proofs.InverseLemmas.{without_filter-with_filter}
use Rattle.blk_graph.proofs.StillLemmas.{refreshed-fixed}
use Rattle.blk_graph.proofs.Members.{Contains-here, Contains-there, map-Contains}
use Rattle.blk_graph.proofs.RefreshLemmas.{EachIs-turned, EndsAt, EndsAt-mapped, no_ends, ruled-same}
use Rattle.blk_graph.proofs.RoleLemmas.{EachIs}

-- the same edge, and as it was set where it is a guest's or a job's
pub record IsEdgeAlike (a b : Edge) : Type 0 where
  pub same : IsSameEdge a b
  pub set : ((n : ℕ) → b.parent ≡ Node n → ⊥) → a ≡ b

abbrev pub AreEdgesAlike : List Edge → List Edge → Type 0
AreEdgesAlike [] [] = Unit {0}
AreEdgesAlike (a ∷ as') (b ∷ bs) = IsEdgeAlike a b × AreEdgesAlike as' bs
AreEdgesAlike _ _ = ⊥

edge-same : (a b : Edge) → IsSameEdge a b → a.perm ≡ b.perm → a.shared ≡ b.shared → a ≡ b
edge-same a b same perm shared =
    ap (λ x. let e : Edge = record { parent = x; role = a.role; child = a.child; perm = a.perm; shared = a.shared } in e) same.parent
    ∙ ap (λ x. let e : Edge = record { parent = b.parent; role = x; child = a.child; perm = a.perm; shared = a.shared } in e) same.role
    ∙ ap (λ x. let e : Edge = record { parent = b.parent; role = b.role; child = x; perm = a.perm; shared = a.shared } in e) same.child
    ∙ ap (λ x. let e : Edge = record { parent = b.parent; role = b.role; child = b.child; perm = x; shared = a.shared } in e) perm
    ∙ ap (λ x. let e : Edge = record { parent = b.parent; role = b.role; child = b.child; perm = b.perm; shared = x } in e) shared

pub alike-refl : (e : Edge) → IsEdgeAlike e e
alike-refl e = record { same = record { parent = refl; role = refl; child = refl }; set = λ none. refl }

pub all_alike : (edges : List Edge) → AreEdgesAlike edges edges
all_alike [] = tt
all_alike (e ∷ edges) = (alike-refl e, all_alike edges)

alike-trans : (a b c : Edge) → IsEdgeAlike a b → IsEdgeAlike b c → IsEdgeAlike a c
alike-trans a b c h k = record {
  same = record {
    parent = h.same.parent ∙ k.same.parent;
    role = h.same.role ∙ k.same.role;
    child = h.same.child ∙ k.same.child;
  };
  set = λ none. h.set (λ n is. none n (sym k.same.parent ∙ is)) ∙ k.set none;
}

pub all_alike-trans : (a b c : List Edge) → AreEdgesAlike a b → AreEdgesAlike b c → AreEdgesAlike a c
all_alike-trans [] [] [] h k = tt
all_alike-trans (a ∷ as') (b ∷ bs) (c ∷ cs) h k = (alike-trans a b c h.0 k.0, all_alike-trans as' bs cs h.1 k.1)
all_alike-trans [] [] (c ∷ cs) h k = absurd k
all_alike-trans [] (b ∷ bs) c h k = absurd h
all_alike-trans (a ∷ as') [] c h k = absurd h
all_alike-trans (a ∷ as') (b ∷ bs) [] h k = absurd k

alike-sym : (a b : Edge) → IsEdgeAlike a b → IsEdgeAlike b a
alike-sym a b h = record {
  same = record { parent = sym h.same.parent; role = sym h.same.role; child = sym h.same.child };
  set = λ none. sym (h.set (λ n is. none n (h.same.parent ∙ is)));
}

all_alike-sym : (a b : List Edge) → AreEdgesAlike a b → AreEdgesAlike b a
all_alike-sym [] [] h = tt
all_alike-sym (a ∷ as') (b ∷ bs) h = (alike-sym a b h.0, all_alike-sym as' bs h.1)
all_alike-sym [] (b ∷ bs) h = absurd h
all_alike-sym (a ∷ as') [] h = absurd h

-- a derivation leaves a list alike
ruled-alike : (kinds : List NodeKind) (above : ℕ → Uses) (e : Edge) → IsEdgeAlike (ruled kinds above e) e
ruled-alike kinds above e = record { same = ruled-same kinds above e; set = λ none. by_parent e.parent refl none }
  where
    by_parent : (p : Parent) → e.parent ≡ p → ((n : ℕ) → e.parent ≡ Node n → ⊥) → ruled_from kinds above e p ≡ e
    by_parent (Node n) is none = absurd (none n is)
    by_parent (Guest n) is none = refl
    by_parent (Job n) is none = refl

all_ruled-alike : (kinds : List NodeKind) (above : ℕ → Uses) (edges : List Edge) → AreEdgesAlike (map (ruled kinds above) edges) edges
all_ruled-alike kinds above [] = tt
all_ruled-alike kinds above (e ∷ edges) = (ruled-alike kinds above e, all_ruled-alike kinds above edges)

turned_by-alike : (kinds : List NodeKind) (edges : List Edge) (turns : ℕ) → AreEdgesAlike (turned_by turns kinds edges) edges
turned_by-alike kinds edges zero = all_alike edges
turned_by-alike kinds edges (suc turns) =
    all_alike-trans (turned_by (suc turns) kinds edges) (turned_by turns kinds edges) edges
    (all_ruled-alike kinds (uses_into (turned_by turns kinds edges)) (turned_by turns kinds edges)) (turned_by-alike kinds edges turns)

pub refreshed-alike : (kinds : List NodeKind) (edges : List Edge) → AreEdgesAlike (refreshed kinds edges) edges
unfolding refreshed
refreshed-alike kinds edges = turned_by-alike kinds edges 64

-- an edit by parents, roles and children leaves alike lists alike
filter-alike : (p q : Edge → Bool) → ((a b : Edge) → IsEdgeAlike a b → p a ≡ q b) → (a b : List Edge) → AreEdgesAlike a b → AreEdgesAlike (filter p a) (filter q b)
filter-alike p q same [] [] h = tt
filter-alike p q same (a ∷ as') (b ∷ bs) h = rw (same a b h.0) (by_test (q b) (filter-alike p q same as' bs h.1))
  where
    by_test : (t : Bool) → AreEdgesAlike (filter p as') (filter q bs)
        → AreEdgesAlike (cond t (a ∷ filter p as') (filter p as')) (cond t (b ∷ filter q bs) (filter q bs))
    by_test true ih = (h.0, ih)
    by_test false ih = ih
filter-alike p q same [] (b ∷ bs) h = absurd h
filter-alike p q same (a ∷ as') [] h = absurd h

list_any-alike : (p q : Edge → Bool) → ((a b : Edge) → IsEdgeAlike a b → p a ≡ q b) → (a b : List Edge) → AreEdgesAlike a b → list_any p a ≡ list_any q b
list_any-alike p q same [] [] h = refl
list_any-alike p q same (a ∷ as') (b ∷ bs) h =
    ap (λ t. t || list_any p as') (same a b h.0) ∙ ap (λ t. q b || t) (list_any-alike p q same as' bs h.1)
list_any-alike p q same [] (b ∷ bs) h = absurd h
list_any-alike p q same (a ∷ as') [] h = absurd h

is_edge-alike : (parent : Parent) (role : Role) (a b : Edge) → IsEdgeAlike a b → is_edge parent role a ≡ is_edge parent role b
is_edge-alike parent role a b h =
    ap (λ p. same_parent p parent && same_role a.role role) h.same.parent
    ∙ ap (λ r. same_parent b.parent parent && same_role r role) h.same.role

is_double-alike : (from to : ℕ) (as' bs : List Edge) → AreEdgesAlike as' bs → (a b : Edge) → IsEdgeAlike a b
    → is_double as' from to a ≡ is_double bs from to b
is_double-alike from to as' bs alike a b h =
    ap (λ c. not (from == to) && c == from && same_role a.role Between && list_any (is_between a.parent to) as') h.same.child
    ∙ ap (λ r. not (from == to) && b.child == from && same_role r Between && list_any (is_between a.parent to) as') h.same.role
    ∙ ap (λ p. not (from == to) && b.child == from && same_role b.role Between && list_any (is_between p to) as') h.same.parent
    ∙ ap (λ t. not (from == to) && b.child == from && same_role b.role Between && t)
    (list_any-alike (is_between b.parent to) (is_between b.parent to)
    (λ x y k. ap (λ t. t && x.child == to) (is_edge-alike b.parent Between x y k) ∙ ap (λ c. is_edge b.parent Between y && c == to) k.same.child)
    as' bs alike)

moved-alike : (from to : ℕ) (a b : Edge) → IsEdgeAlike a b → IsEdgeAlike (moved from to a) (moved from to b)
moved-alike from to a b h =
    subst (λ t. IsEdgeAlike (cond t (with_child to a) a) (moved from to b)) (ap (λ c. c == from) (sym h.same.child)) (by_test (b.child == from))
  where
    by_test : (t : Bool) → IsEdgeAlike (cond t (with_child to a) a) (cond t (with_child to b) b)
    by_test true = record {
      same = record { parent = h.same.parent; role = h.same.role; child = refl };
      set = λ none. ap (with_child to) (h.set none);
    }
    by_test false = h

map_moved-alike : (from to : ℕ) (a b : List Edge) → AreEdgesAlike a b → AreEdgesAlike (map (moved from to) a) (map (moved from to) b)
map_moved-alike from to [] [] h = tt
map_moved-alike from to (a ∷ as') (b ∷ bs) h = (moved-alike from to a b h.0, map_moved-alike from to as' bs h.1)
map_moved-alike from to [] (b ∷ bs) h = absurd h
map_moved-alike from to (a ∷ as') [] h = absurd h

with_moved-alike : (from to : ℕ) (a b : List Edge) → AreEdgesAlike a b → AreEdgesAlike (with_moved from to a) (with_moved from to b)
with_moved-alike from to a b h =
    map_moved-alike from to (but_doubles from to a) (but_doubles from to b)
    (filter-alike (λ e. not (is_double a from to e)) (λ e. not (is_double b from to e))
    (λ x y k. ap not (is_double-alike from to a b h x y k)) a b h)

-- what is found in both
abbrev FoundAlike : Option Edge → Option Edge → Type 0
FoundAlike None None = Unit {0}
FoundAlike (Some a) (Some b) = IsEdgeAlike a b
FoundAlike _ _ = ⊥

find-alike : (p : Edge → Bool) → ((a b : Edge) → IsEdgeAlike a b → p a ≡ p b) → (a b : List Edge) → AreEdgesAlike a b → FoundAlike (find p a) (find p b)
find-alike p same [] [] h = tt
find-alike p same (a ∷ as') (b ∷ bs) h = rw (same a b h.0) (by_test (p b) (find-alike p same as' bs h.1))
  where
    by_test : (t : Bool) → FoundAlike (find p as') (find p bs) → FoundAlike (cond t (Some a) (find p as')) (cond t (Some b) (find p bs))
    by_test true ih = h.0
    by_test false ih = ih
find-alike p same [] (b ∷ bs) h = absurd h
find-alike p same (a ∷ as') [] h = absurd h

pub without_filter-alike : (over : ℕ) (a b : List Edge) → AreEdgesAlike a b → AreEdgesAlike (without_filter over a) (without_filter over b)
without_filter-alike over a b h =
    by_found (find (is_filters over) a) (find (is_filters over) b)
    (find-alike (is_filters over) (is_edge-alike (Node over) Filtered) a b h)
  where
    rest : AreEdgesAlike (but_filters over a) (but_filters over b)
    rest = filter-alike (λ e. not (is_filters over e)) (λ e. not (is_filters over e))
        (λ x y k. ap not (is_edge-alike (Node over) Filtered x y k)) a b h

    by_found : (f g : Option Edge) → FoundAlike f g → AreEdgesAlike (elim f as (λ _. List Edge) [
      | None ↦ a
      | Some edge ↦ with_moved over edge.child (but_filters over a)
    ]) (elim g as (λ _. List Edge) [
      | None ↦ b
      | Some edge ↦ with_moved over edge.child (but_filters over b)
    ])
    by_found None None k = h
    by_found (Some x) (Some y) k =
        rw k.same.child (with_moved-alike over y.child (but_filters over a) (but_filters over b) rest)
    by_found None (Some y) k = absurd k
    by_found (Some x) None k = absurd k

-- a node's edge of a role of its kind is derived
derived-some : (k : Kind) (r : Role) (writes : Bool) (above : Uses) → has_role k r ≡ true
    → (uses : Uses) × (derived_uses k r writes above ≡ Some uses)
derived-some Protocol r writes above h = absurd cc
derived-some Raw File writes above h = (_, refl)
derived-some Qcow2 File writes above h = (_, refl)
derived-some Qcow2 Backing writes above h = (_, refl)
derived-some CopyOnRead File writes above h = (_, refl)
derived-some BeforeWrite Filtered writes above h = (_, refl)
derived-some Mirror Filtered writes above h = (_, refl)
derived-some Commit Filtered writes above h = (_, refl)
derived-some _ _ writes above h = absurd cc

-- from the same uses the same edge is derived
ruled-both : (kinds : List NodeKind) (f g : ℕ → Uses) (a b : Edge) → IsEdgeAlike a b → IsByTable kinds b
    → ((n : ℕ) → b.parent ≡ Node n → f n ≡ g n) → ruled kinds f a ≡ ruled kinds g b
ruled-both kinds f g a b h table same = ap (ruled_from kinds f a) h.same.parent ∙ by_parent b.parent refl table
  where
    by_uses : (o : Option Uses) (uses : Uses) → o ≡ Some uses → with_uses a o ≡ with_uses b o
    by_uses None uses is = absurd cc
    by_uses (Some u) uses is =
        edge-same (with_uses a (Some u)) (with_uses b (Some u))
        (record { parent = h.same.parent; role = h.same.role; child = h.same.child }) refl refl

    by_parent : (p : Parent) → b.parent ≡ p → IsOf kinds b p → ruled_from kinds f a p ≡ ruled_from kinds g b p
    by_parent (Node n) is own =
        let k : NodeKind = kind_at kinds n in
        let some = derived-some k.kind b.role k.writes (g n) own in
        ap (λ u. with_uses a (uses_by k a.role u)) (same n is)
        ∙ ap (λ r. with_uses a (uses_by k r (g n))) h.same.role
        ∙ by_uses (uses_by k b.role (g n)) some.0 some.1
    by_parent (Guest n) is own = h.set (λ m at. absurd (let no : Guest n ≡ Node m = sym is ∙ at in cc))
    by_parent (Job n) is own = h.set (λ m at. absurd (let no : Job n ≡ Node m = sym is ∙ at in cc))

-- what both lists ask of a node, where the edges into it are the same
uses-both : (kinds : List NodeKind) (f g : ℕ → Uses) (n : ℕ) (a b : List Edge) → AreEdgesAlike a b → EachIs (IsByTable kinds) b
    → ((e : Edge) (p : ℕ) → Contains b e → e.child ≡ n → e.parent ≡ Node p → f p ≡ g p)
    → uses_into (map (ruled kinds f) a) n ≡ uses_into (map (ruled kinds g) b) n
uses-both kinds f g n [] [] h table same = refl
uses-both kinds f g n (a ∷ as') (b ∷ bs) h table same =
    let rest = uses-both kinds f g n as' bs h.1 (λ e there. table e (Contains-there b bs e there))
    (λ e p there. same e p (Contains-there b bs e there)) in
    let to_a : (ruled kinds f a).child ≡ b.child = (ruled-same kinds f a).child ∙ h.0.same.child in
    let to_b : (ruled kinds g b).child ≡ b.child = (ruled-same kinds g b).child in
    rw (to_a, to_b) (by_test (b.child == n) refl rest)
  where
    by_test : (t : Bool) → (b.child == n) ≡ t → uses_into (map (ruled kinds f) as') n ≡ uses_into (map (ruled kinds g) bs) n
        → cond t (joined (ruled kinds f a) (uses_into (map (ruled kinds f) as') n)) (uses_into (map (ruled kinds f) as') n)
        ≡ cond t (joined (ruled kinds g b) (uses_into (map (ruled kinds g) bs) n)) (uses_into (map (ruled kinds g) bs) n)
    by_test true is rest =
        let one = ruled-both kinds f g a b h.0 (table b (Contains-here b bs)) (λ p from. same b p (Contains-here b bs) (eqb-true b.child n is) from) in
        ap (λ e. joined e (uses_into (map (ruled kinds f) as') n)) one ∙ ap (joined (ruled kinds g b)) rest
    by_test false is rest = rest
uses-both kinds f g n [] (b ∷ bs) h table same = absurd h
uses-both kinds f g n (a ∷ as') [] h table same = absurd h

-- the same of the whole lists
ruled_all-both : (kinds : List NodeKind) (f g : ℕ → Uses) (a b : List Edge) → AreEdgesAlike a b → EachIs (IsByTable kinds) b
    → ((e : Edge) (p : ℕ) → Contains b e → e.parent ≡ Node p → f p ≡ g p) → map (ruled kinds f) a ≡ map (ruled kinds g) b
ruled_all-both kinds f g [] [] h table same = refl
ruled_all-both kinds f g (a ∷ as') (b ∷ bs) h table same =
    ap (λ e. e ∷ map (ruled kinds f) as') (ruled-both kinds f g a b h.0 (table b (Contains-here b bs)) (λ p from. same b p (Contains-here b bs) from))
    ∙ ap (λ es. ruled kinds g b ∷ es)
    (ruled_all-both kinds f g as' bs h.1 (λ e there. table e (Contains-there b bs e there)) (λ e p there. same e p (Contains-there b bs e there)))
ruled_all-both kinds f g [] (b ∷ bs) h table same = absurd h
ruled_all-both kinds f g (a ∷ as') [] h table same = absurd h

table_by : (kinds : List NodeKind) (edges : List Edge) → EachIs (IsByTable kinds) edges → (k : ℕ) → EachIs (IsByTable kinds) (turned_by k kinds edges)
table_by kinds edges table zero = table
table_by kinds edges table (suc k) =
    EachIs-turned (IsByTable kinds) kinds (turned_by k kinds edges)
    (λ e. table_ruled kinds kinds (uses_into (turned_by k kinds edges)) e) (table_by kinds edges table k)

module _ (kinds : List NodeKind) (a b : List Edge) (alike : AreEdgesAlike a b) (table : EachIs (IsByTable kinds) b) where
  alike_by : (k : ℕ) → AreEdgesAlike (turned_by k kinds a) (turned_by k kinds b)
  alike_by k =
      all_alike-trans (turned_by k kinds a) a (turned_by k kinds b) (turned_by-alike kinds a k)
      (all_alike-trans a b (turned_by k kinds b) alike (all_alike-sym (turned_by k kinds b) b (turned_by-alike kinds b k)))

  -- after so many turns both lists ask the same of a node at which no path of so many edges ends
  same_by : (k n : ℕ) → (EndsAt (turned_by k kinds b) k n → ⊥) → uses_into (turned_by k kinds a) n ≡ uses_into (turned_by k kinds b) n
  same_by zero n none = absurd (none tt)
  same_by (suc k) n none =
      uses-both kinds (uses_into (turned_by k kinds a)) (uses_into (turned_by k kinds b)) n (turned_by k kinds a) (turned_by k kinds b)
      (alike_by k) (table_by kinds b table k)
      (λ e p there to from. same_by k p (λ ends. none (
        ruled kinds (uses_into (turned_by k kinds b)) e,
        p,
        map-Contains (ruled kinds (uses_into (turned_by k kinds b))) (turned_by k kinds b) e there,
        (ruled-same kinds (uses_into (turned_by k kinds b)) e).child ∙ to,
        (ruled-same kinds (uses_into (turned_by k kinds b)) e).parent ∙ from,
        EndsAt-mapped (ruled kinds (uses_into (turned_by k kinds b))) (ruled-same kinds (uses_into (turned_by k kinds b))) (turned_by k kinds b) k p ends,
      )))

  -- from both the same is derived
  pub refreshed-both : IsListed b → IsAcyclic b → refreshed kinds a ≡ refreshed kinds b
  unfolding refreshed
  refreshed-both listed acyclic =
      ruled_all-both kinds (uses_into (turned_by 63 kinds a)) (uses_into (turned_by 63 kinds b)) (turned_by 63 kinds a) (turned_by 63 kinds b)
      (alike_by 63) (table_by kinds b table 63)
      (λ e p there from. same_by 63 p (λ ends. no_ends kinds b listed acyclic e.child (e, p, there, refl, from, ends)))

-- a filter that was put over a node and is taken out gives back the list
pub filter_back : (kinds : List NodeKind) (edges : List Edge) (node over : ℕ) (perm shared : Perms) → over ≢ node → IsLone edges over
    → EachIs (IsByTable kinds) edges → IsListed edges → IsAcyclic edges → IsRefreshed kinds edges
    → refreshed kinds (without_filter over (refreshed kinds (with_filter node over perm shared edges))) ≡ edges
filter_back kinds edges node over perm shared differ lone table listed acyclic stays =
    let put : List Edge = with_filter node over perm shared edges in
    let back : without_filter over put ≡ edges = without_filter-with_filter edges node over perm shared differ lone in
    let alike : AreEdgesAlike (without_filter over (refreshed kinds put)) (without_filter over put)
    = without_filter-alike over (refreshed kinds put) put (refreshed-alike kinds put) in
    refreshed-both kinds (without_filter over (refreshed kinds put)) edges (rw back at alike) table listed acyclic
    ∙ refreshed-fixed kinds edges stays

push_alike : (x y : Edge) → IsEdgeAlike x y → (a b : List Edge) → AreEdgesAlike a b → AreEdgesAlike (a ++ x ∷ []) (b ++ y ∷ [])
push_alike x y h [] [] k = (h, tt)
push_alike x y h (a ∷ as') (b ∷ bs) k = (k.0, push_alike x y h as' bs k.1)
push_alike x y h [] (b ∷ bs) k = absurd k
push_alike x y h (a ∷ as') [] k = absurd k

-- what is derived from a list with a new filter doesn't depend on what its edge was set to
pub derived_filter : (kinds : List NodeKind) (edges : List Edge) (node over : ℕ) (perm shared asks shares : Perms)
    → EachIs (IsByTable kinds) (with_filter node over asks shares edges) → IsListed (with_filter node over asks shares edges)
    → IsAcyclic (with_filter node over asks shares edges)
    → refreshed kinds (with_filter node over perm shared edges) ≡ refreshed kinds (with_filter node over asks shares edges)
derived_filter kinds edges node over perm shared asks shares =
    refreshed-both kinds (with_filter node over perm shared edges) (with_filter node over asks shares edges)
    (push_alike (filter_edge over node perm shared) (filter_edge over node asks shares)
    (record { same = record { parent = refl; role = refl; child = refl }; set = λ none. absurd (none over refl) })
    (with_moved node over edges) (with_moved node over edges) (all_alike (with_moved node over edges)))
