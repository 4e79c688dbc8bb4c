-- What all edges of a kind share and ask: proved of a list in which nothing is asked yet, and of each turn from there.
use Rattle.std.proofs.Common.{◌≡◌, ℕ, List, [], ◌∷◌, map, refl, sym, ◌∙◌, ap, subst, Bool, true, false, cond, Option}
use Rattle.std.specs.Prelude.{◌==◌, ◌||◌}
use Rattle.std.specs.List.{Contains}
use Rattle.std.proofs.lemmas.Bool.{false≢true, eqb-true}
use Rattle.blk_graph.specs.declared.edge.Edge.{Edge}
use Rattle.blk_graph.specs.declared.edge.Parent.{Parent}
use Rattle.blk_graph.specs.declared.edge.Parent.TheVariants.{Node, Guest, Job}
use Rattle.blk_graph.specs.declared.edge.Perm.{Perm}
use Rattle.blk_graph.specs.declared.edge.Perm.TheVariants.{Read, Write, Unchanged}
use Rattle.blk_graph.specs.declared.edge.Role.{Role}
use Rattle.blk_graph.specs.declared.edge.Role.TheVariants.{File, Backing, Filtered}
use Rattle.blk_graph.specs.declared.edge.Uses.{Uses}
use Rattle.blk_graph.specs.declared.kind.Kind.{Kind}
use Rattle.blk_graph.specs.declared.kind.Kind.TheVariants.{Raw, Qcow2, CopyOnRead, BeforeWrite, Mirror, Commit}
use Rattle.blk_graph.specs.declared.kind.NodeKind.{NodeKind}
use Rattle.blk_graph.specs.declared.kind.JobUse.{JobUse}
use Rattle.blk_graph.specs.declared.kind.JobUse.TheVariants.{CopyTarget, CommitTop, CommitBetween, CommitBase, StreamTop, StreamBelow}
use Rattle.blk_graph.specs.Edges.{has_perm, IsListed}
use Rattle.blk_graph.specs.Paths.{IsAcyclic}
use Rattle.blk_graph.specs.Permissions.{perms, asks_shares, idle_uses, derived_uses, uses_by, job_uses}
use Rattle.blk_graph.specs.Refreshed.{kind_at, IsOf, IsByTable, joined, uses_into, with_uses, ruled, ruled_from, refreshed, IsRefreshed}
use Rattle.blk_graph.proofs.AlikeLemmas.{IsEdgeAlike, AreEdgesAlike, refreshed-both}
use Rattle.blk_graph.proofs.EaseLemmas.{IsLighter}
use Rattle.blk_graph.proofs.EditLemmas.{IsSameEdge}
use Rattle.blk_graph.proofs.Members.{Contains-here, Contains-there, Contains-map}
use Rattle.blk_graph.proofs.RefreshLemmas.{refreshed-by, ruled-same, EachIs-turned}
use Rattle.blk_graph.proofs.RoleLemmas.{EachIs}
use Rattle.blk_graph.proofs.StillLemmas.{refreshed-fixed}
use Rattle.blk_graph.proofs.TakeOutLemmas.{IsWithinUses, uses_into-under}
use Rattle.job_edges.specs.Chains.{SharesReads, is_plain}
use Rattle.job_edges.specs.Kinds.{is_open_by, is_open_from, is_open, is_hiding, is_hidden_from, is_hidden, is_copying, FiltersStand}

-- an open edge shares reads, and one that writes reads, unless a commit's filter makes it
pub record IsMild (kinds : List NodeKind) (e : Edge) : Type 0 where
  pub shares : is_open kinds e ≡ true → SharesReads e
  pub reads : is_hidden kinds e ≡ false → e.perm.write ≡ true → e.perm.read ≡ true

-- nothing is asked and all is shared by nodes' edges
idled_from : Edge → Parent → Edge
idled_from e (Node n) = record e { perm = idle_uses.perm; shared = idle_uses.shared }
idled_from e (Guest n) = e
idled_from e (Job n) = e

abbrev idled : Edge → Edge
idled e = idled_from e e.parent

idled-alike : (e : Edge) → IsEdgeAlike (idled e) e
unfolding idled_from
idled-alike e = by_parent e.parent refl
  where
    by_parent : (p : Parent) → e.parent ≡ p → IsEdgeAlike (idled_from e p) e
    by_parent (Node n) is = record { same = record { parent = refl; role = refl; child = refl }; set = λ none. absurd (none n is) }
    by_parent (Guest n) is = record { same = record { parent = refl; role = refl; child = refl }; set = λ none. refl }
    by_parent (Job n) is = record { same = record { parent = refl; role = refl; child = refl }; set = λ none. refl }

all_idled : (edges : List Edge) → AreEdgesAlike (map idled edges) edges
all_idled [] = tt
all_idled (e ∷ edges) = (idled-alike e, all_idled edges)

idled-mild : (kinds : List NodeKind) (e : Edge) → IsByTable kinds e → IsMild kinds (idled e)
unfolding idled_from
idled-mild kinds e table = by_parent e.parent refl table
  where
    of_job : (job : ℕ) (what : JobUse) → (job_uses what).perm.write ≡ true → (job_uses what).perm.read ≡ true
    of_job job CopyTarget is = refl
    of_job job CommitTop is = absurd (false≢true is)
    of_job job CommitBetween is = absurd (false≢true is)
    of_job job CommitBase is = refl
    of_job job StreamTop is = absurd (false≢true is)
    of_job job StreamBelow is = absurd (false≢true is)

    by_parent : (p : Parent) → e.parent ≡ p → IsOf kinds e p → IsMild kinds (idled_from e p)
    by_parent (Node n) is own = record {
      shares = λ h. record { read = refl; unchanged = refl };
      reads = λ h w. absurd (false≢true w);
    }
    by_parent (Guest n) is own = record {
      shares = λ h. record { read = ap (λ (x : Edge). x.shared.read) own.is; unchanged = ap (λ (x : Edge). x.shared.unchanged) own.is };
      reads = λ h w. ap (λ (x : Edge). x.perm.read) own.is;
    }
    by_parent (Job n) is own = record {
      shares = λ h. absurd (false≢true (ap (is_open_from kinds e.role) (sym is) ∙ h));
      reads = λ h w. ap (λ (x : Edge). x.perm.read) own.is ∙ of_job own.job own.what (sym (ap (λ (x : Edge). x.perm.write) own.is) ∙ w);
    }

-- ---- what edges into a node ask and share together

into-shared : (edges : List Edge) (n : ℕ) → ((e : Edge) → Contains edges e → e.child ≡ n → SharesReads e)
    → ((uses_into edges n).shared.read ≡ true) × ((uses_into edges n).shared.unchanged ≡ true)
into-shared edges n each =
    let most : Uses = asks_shares (perms true true true) (perms true false true) in
    let less : IsLighter (uses_into edges n) most = uses_into-under n most edges (λ e there at. within e (each e there at)) in
    (less.shares Read refl, less.shares Unchanged refl)
  where
    within : (e : Edge) → SharesReads e → IsWithinUses e (asks_shares (perms true true true) (perms true false true))
    within e h = record { asks = λ perm. asks perm; shares = λ perm. shares perm }
      where
        asks : (perm : Perm) → has_perm e.perm perm ≡ true → has_perm (perms true true true) perm ≡ true
        asks Read is = refl
        asks Write is = refl
        asks Unchanged is = refl

        shares : (perm : Perm) → has_perm (perms true false true) perm ≡ true → has_perm e.shared perm ≡ true
        shares Read is = h.read
        shares Write is = absurd (false≢true is)
        shares Unchanged is = h.unchanged

into-reads : (edges : List Edge) (n : ℕ) → ((e : Edge) → Contains edges e → e.child ≡ n → e.perm.write ≡ true → e.perm.read ≡ true)
    → (uses_into edges n).perm.write ≡ true → (uses_into edges n).perm.read ≡ true
into-reads [] n each is = absurd (false≢true is)
into-reads (e ∷ edges) n each is =
    by_test (e.child == n) refl (into-reads edges n (λ x there. each x (Contains-there e edges x there))) is
  where
    either : (a b c d : Bool) → (a ≡ true → c ≡ true) → (b ≡ true → d ≡ true) → (a || b) ≡ true → (c || d) ≡ true
    either true b c d h k is = rw (h refl) refl
    either false b true d h k is = refl
    either false b false d h k is = k is

    by_test : (t : Bool) → (e.child == n) ≡ t → ((uses_into edges n).perm.write ≡ true → (uses_into edges n).perm.read ≡ true)
        → (cond t (joined e (uses_into edges n)) (uses_into edges n)).perm.write ≡ true
        → (cond t (joined e (uses_into edges n)) (uses_into edges n)).perm.read ≡ true
    by_test true at rest w =
        either e.perm.write (uses_into edges n).perm.write e.perm.read (uses_into edges n).perm.read
        (each e (Contains-here e edges) (eqb-true e.child n at)) rest w
    by_test false at rest w = rest w

-- ---- a turn

module _ (kinds : List NodeKind) (edges : List Edge) (stand : FiltersStand kinds edges) (each : EachIs (IsMild kinds) edges) where
  shared_above : (n : ℕ) → is_plain (kind_at kinds n).kind ≡ false
      → ((uses_into edges n).shared.read ≡ true) × ((uses_into edges n).shared.unchanged ≡ true)
  shared_above n is =
      into-shared edges n (λ e there at. (each e there).shares (stand.apart e there (ap (λ k. is_plain (kind_at kinds k).kind) at ∙ is)))

  reads_above : (n : ℕ) → is_copying (kind_at kinds n).kind ≡ true → (uses_into edges n).perm.write ≡ true → (uses_into edges n).perm.read ≡ true
  reads_above n is =
      into-reads edges n (λ e there at. (each e there).reads (stand.top e there (ap (λ k. is_copying (kind_at kinds k).kind) at ∙ is)))

  mild-ruled : (e : Edge) → IsMild kinds e → IsMild kinds (ruled kinds (uses_into edges) e)
  mild-ruled e mild = by_parent e.parent refl
    where
      Goal : Option Uses → ℕ → Type 0
      Goal o n = (is_open_by (kind_at kinds n).kind e.role ≡ true → SharesReads (with_uses e o))
          × (is_hiding (kind_at kinds n).kind ≡ false → (with_uses e o).perm.write ≡ true → (with_uses e o).perm.read ≡ true)

      as_was : (n : ℕ) → e.parent ≡ Node n → (k : Kind) (r : Role) → (kind_at kinds n).kind ≡ k → e.role ≡ r
          → (is_open_by k r ≡ true → SharesReads e) × (is_hiding k ≡ false → e.perm.write ≡ true → e.perm.read ≡ true)
      as_was n is k r kind role = (
        λ h. mild.shares (ap (is_open_from kinds e.role) is ∙ ap (λ x. is_open_by x e.role) kind ∙ ap (is_open_by k) role ∙ h),
        λ h. mild.reads (ap (is_hidden_from kinds) is ∙ ap is_hiding kind ∙ h),
      )

      by_kind : (n : ℕ) → e.parent ≡ Node n → (k : Kind) (r : Role) (w : Bool) → (kind_at kinds n).kind ≡ k → e.role ≡ r
          → (is_open_by k r ≡ true → SharesReads (with_uses e (derived_uses k r w (uses_into edges n))))
          × (is_hiding k ≡ false → (with_uses e (derived_uses k r w (uses_into edges n))).perm.write ≡ true → (with_uses e (derived_uses k r w (uses_into edges n))).perm.read ≡ true)
      by_kind n is Raw File w kind role = (λ h. absurd (false≢true h), λ h asks. refl)
      by_kind n is Qcow2 File w kind role = (λ h. absurd (false≢true h), λ h asks. refl)
      by_kind n is Qcow2 Backing w kind role = (λ h. record { read = refl; unchanged = refl }, λ h asks. absurd (false≢true asks))
      by_kind n is CopyOnRead File w kind role =
          let above = shared_above n (ap is_plain kind) in
          (λ h. record { read = above.0; unchanged = above.1 }, λ h asks. reads_above n (ap is_copying kind) asks)
      by_kind n is BeforeWrite Filtered w kind role = (λ h. record { read = refl; unchanged = refl }, λ h asks. refl)
      by_kind n is Mirror Filtered w kind role = (λ h. record { read = refl; unchanged = refl }, λ h asks. refl)
      by_kind n is Commit Filtered w kind role =
          let above = shared_above n (ap is_plain kind) in
          (λ h. record { read = above.0; unchanged = above.1 }, λ h. absurd (false≢true (sym h)))
      by_kind n is k r w kind role = as_was n is k r kind role

      by_parent : (p : Parent) → e.parent ≡ p → IsMild kinds (ruled_from kinds (uses_into edges) e p)
      by_parent (Node n) is =
          let k : NodeKind = kind_at kinds n in
          let own = by_kind n is k.kind e.role k.writes refl refl in
          let made : Edge = with_uses e (uses_by k e.role (uses_into edges n)) in
          let same : IsSameEdge made e = ruled_same_here n is in
          record {
            shares = λ h. own.0 (ap (λ r. is_open_from kinds r (Node n)) (sym same.role) ∙ sym (ap (is_open_from kinds made.role) (same.parent ∙ is)) ∙ h);
            reads = λ h. own.1 (sym (ap (is_hidden_from kinds) (same.parent ∙ is)) ∙ h);
          }
        where
          ruled_same_here : (n : ℕ) → e.parent ≡ Node n → IsSameEdge (with_uses e (uses_by (kind_at kinds n) e.role (uses_into edges n))) e
          ruled_same_here n is =
              subst (λ (p : Parent). IsSameEdge (ruled_from kinds (uses_into edges) e p) e) is (ruled-same kinds (uses_into edges) e)
      by_parent (Guest n) is = mild
      by_parent (Job n) is = mild

-- filters stand by parents, roles and children alone
pub stand-mapped : (kinds : List NodeKind) (f : Edge → Edge) → ((e : Edge) → IsSameEdge (f e) e) → (edges : List Edge) → FiltersStand kinds edges
    → FiltersStand kinds (map f edges)
stand-mapped kinds f same edges stand = record {
  apart = λ e there filter.
      let r = Contains-map f edges e there in
      let s = same r.0 in
      let at : e.child ≡ r.0.child = ap (λ (x : Edge). x.child) r.2 ∙ s.child in
      let was = stand.apart r.0 r.1 (ap (λ n. is_plain (kind_at kinds n).kind) (sym at) ∙ filter) in
      ap (is_open kinds) r.2 ∙ ap (λ x. is_open_from kinds x (f r.0).parent) s.role ∙ ap (is_open_from kinds r.0.role) s.parent ∙ was;
  top = λ e there copies.
      let r = Contains-map f edges e there in
      let s = same r.0 in
      let at : e.child ≡ r.0.child = ap (λ (x : Edge). x.child) r.2 ∙ s.child in
      let was = stand.top r.0 r.1 (ap (λ n. is_copying (kind_at kinds n).kind) (sym at) ∙ copies) in
      ap (is_hidden kinds) r.2 ∙ ap (is_hidden_from kinds) s.parent ∙ was;
}

record AreMild (kinds : List NodeKind) (edges : List Edge) : Type 0 where
  stand : FiltersStand kinds edges
  each : EachIs (IsMild kinds) edges

-- So are all edges of a graph.
pub all_mild : (kinds : List NodeKind) (edges : List Edge) → FiltersStand kinds edges → IsRefreshed kinds edges → EachIs (IsByTable kinds) edges
    → IsListed edges → IsAcyclic edges → EachIs (IsMild kinds) edges
all_mild kinds edges stand still table listed acyclic =
    let start : AreMild kinds (map idled edges) = record {
      stand = stand-mapped kinds idled (λ e. (idled-alike e).same) edges stand;
      each = λ e there. let r = Contains-map idled edges e there in rw r.2 (idled-mild kinds r.0 (table r.0 r.1));
    } in
    let after : AreMild kinds (refreshed kinds (map idled edges))
    = refreshed-by kinds (AreMild kinds) (λ now h. record {
      stand = stand-mapped kinds (ruled kinds (uses_into now)) (ruled-same kinds (uses_into now)) now h.stand;
      each = EachIs-turned (IsMild kinds) kinds now (mild-ruled kinds now h.stand h.each) h.each;
    }) (map idled edges) start in
    let same : refreshed kinds (map idled edges) ≡ edges
    = refreshed-both kinds (map idled edges) edges (all_idled edges) table listed acyclic ∙ refreshed-fixed kinds edges still in
    subst (EachIs (IsMild kinds)) same after.each
