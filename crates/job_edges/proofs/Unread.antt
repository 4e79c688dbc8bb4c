-- What nobody reads nobody writes; and so what an end rests on follows from the rows of jobs.
use Rattle.std.proofs.Common.{◌≡◌, ◌≢◌, ℕ, List, refl, sym, ◌∙◌, ap, subst, Bool, true, false}
use Rattle.std.specs.List.{Contains}
use Rattle.std.proofs.lemmas.Bool.{false≢true}
use Rattle.blk_graph.specs.declared.edge.Edge.{Edge}
use Rattle.blk_graph.specs.declared.edge.Parent.{Parent}
use Rattle.blk_graph.specs.declared.edge.Parent.TheVariants.{Node, Guest, Job}
use Rattle.blk_graph.specs.declared.edge.Perm.TheVariants.{Read}
use Rattle.blk_graph.specs.declared.edge.Role.{Role}
use Rattle.blk_graph.specs.declared.edge.Role.TheVariants.{File, Filtered}
use Rattle.blk_graph.specs.declared.edge.Uses.{Uses}
use Rattle.blk_graph.specs.declared.kind.Kind.{Kind}
use Rattle.blk_graph.specs.declared.kind.Kind.TheVariants.{Raw, Qcow2, BeforeWrite, Mirror, Commit}
use Rattle.blk_graph.specs.declared.kind.NodeKind.{NodeKind}
use Rattle.blk_graph.specs.Edges.{same_parent, same_role, is_job, ArePermsWithin}
use Rattle.blk_graph.specs.Edits.{is_filters}
use Rattle.blk_graph.specs.Permissions.{derived_uses}
use Rattle.blk_graph.specs.Refreshed.{kind_at, uses_into, with_uses, ruled_from}
use Rattle.blk_graph.proofs.CycleLemmas.{and-left, and-right, same_parent-true}
use Rattle.blk_graph.proofs.EaseLemmas.{agree-pairs}
use Rattle.blk_graph.proofs.InverseLemmas.{same_parent-refl, same_parent-false}
use Rattle.blk_graph.proofs.Members.{find-Some}
use Rattle.blk_graph.proofs.RoleLemmas.{same_role-true}
use Rattle.blk_graph.proofs.TakeOutLemmas.{agree_apart}
use Rattle.job_edges.specs.Chains.{SharesReads, is_plain}
use Rattle.job_edges.proofs.Rests.{IsCalm, HasFilter, HoldsAlone, HoldsChain}
use Rattle.job_edges.specs.Kinds.{is_open_by, is_open_from, is_open}
use Rattle.job_edges.specs.Held.{EdgesStand, IsUnread, is_job_filter, FilterStands, CommitStands}
use Rattle.job_edges.proofs.Mild.{IsMild, all_mild}

pub not-true : (b : Bool) → (b ≡ true → ⊥) → b ≡ false
not-true true never = absurd (never refl)
not-true false never = refl

module _ (kinds : List NodeKind) (edges : List Edge) (stand : EdgesStand kinds edges) where
  pub mild : (e : Edge) → Contains edges e → IsMild kinds e
  mild = all_mild kinds edges stand.filters stand.refreshed stand.table stand.listed stand.acyclic

  -- the edge of a format node to its file reads
  file-reads : (e : Edge) → Contains edges e → is_job e.parent ≡ false → is_open kinds e ≡ false → e.perm.read ≡ true
  file-reads e there no_job shut = by_parent e.parent refl no_job shut
    where
      by_kind : (k : Kind) (r : Role) (w : Bool) (u : Uses) → is_open_by k r ≡ false → with_uses e (derived_uses k r w u) ≡ e → e.perm.read ≡ true
      by_kind Raw File w u h is = ap (λ (x : Edge). x.perm.read) (sym is)
      by_kind Qcow2 File w u h is = ap (λ (x : Edge). x.perm.read) (sym is)
      by_kind k r w u h is = absurd (false≢true (sym h))

      by_parent : (p : Parent) → e.parent ≡ p → is_job p ≡ false → is_open_from kinds e.role p ≡ false → e.perm.read ≡ true
      by_parent (Node n) is jobless h =
          let k : NodeKind = kind_at kinds n in
          by_kind k.kind e.role k.writes (uses_into edges n) h (ap (ruled_from kinds (uses_into edges) e) (sym is) ∙ stand.refreshed e there)
      by_parent (Guest n) is jobless h = absurd (false≢true (sym h))
      by_parent (Job n) is jobless h = absurd (false≢true (sym jobless))

  -- what others ask and share of a node that nobody else reads
  pub record IsUnreadBy (e : Edge) : Type 0 where
    pub unread : e.perm.read ≡ false
    pub calm : IsCalm e
    pub shares : SharesReads e

  -- Nobody else reads it, and so nobody else writes it.
  pub unread_by : (node job : ℕ) → IsUnread kinds edges node job → (e : Edge) → Contains edges e → e.child ≡ node → e.parent ≢ Job job → IsUnreadBy e
  unread_by node job held e there at other =
      record { unread = none; calm = record { read = shares.read; writes = not-true e.perm.write (λ w. false≢true (sym none ∙ writer w)) }; shares = shares }
    where
      pair : ArePermsWithin held.edge.perm e.shared × ArePermsWithin e.perm held.edge.shared
      pair = agree_apart (λ x. same_parent x.parent (Job job)) edges (agree-pairs edges stand.rule) held.edge e held.there there
          (ap (λ p. same_parent p (Job job)) held.own ∙ same_parent-refl (Job job)) (same_parent-false e.parent (Job job) other) (held.child ∙ sym at)

      none : e.perm.read ≡ false
      none = not-true e.perm.read (λ is. false≢true (sym held.shut ∙ pair.1 Read is))

      no_job : is_job e.parent ≡ false
      no_job = not-true (is_job e.parent) (λ is. other (held.alone e there at is))

      is_open_here : is_open kinds e ≡ true
      is_open_here = by_test (is_open kinds e) refl
        where
          by_test : (b : Bool) → is_open kinds e ≡ b → is_open kinds e ≡ true
          by_test true is = is
          by_test false is = absurd (false≢true (sym none ∙ file-reads e there no_job is))

      shares : SharesReads e
      shares = (mild e there).shares is_open_here

      writer : e.perm.write ≡ true → e.perm.read ≡ true
      writer = (mild e there).reads (held.seen e there at)

  -- ---- what ends rest on

  pub has_filter : (over node job : ℕ) → FilterStands kinds edges over node job → HasFilter edges over node job
  has_filter over node job f = record {
    own = f.own;
    found = f.found;
    leads = f.leads;
    apart = f.apart;
    writes = λ w. uses.0 w;
    shuts = λ s. uses.1 s;
    over = λ e there at. (mild e there).shares (open_over e there at);
    free = λ e there at. no_job_over e (open_over e there at);
    beside = λ e there at none other.
        (mild e there).shares (f.free e there at (not-true (is_job e.parent) (λ is. other (f.alone e there at is))));
  }
    where
      at_own : Contains edges f.own × (is_filters over f.own ≡ true)
      at_own = find-Some (is_filters over) edges f.own f.found

      filtered : f.own.role ≡ Filtered
      filtered = same_role-true f.own.role Filtered (and-right (same_parent f.own.parent (Node over)) (same_role f.own.role Filtered) at_own.1)

      from : f.own.parent ≡ Node over
      from = same_parent-true f.own.parent (Node over) (and-left (same_parent f.own.parent (Node over)) (same_role f.own.role Filtered) at_own.1)

      by_kind : (k : Kind) (w : Bool) (u : Uses) → is_job_filter k ≡ true → with_uses f.own (derived_uses k Filtered w u) ≡ f.own
          → (u.perm.write ≡ true → f.own.perm.write ≡ true) × (f.own.shared.write ≡ true → u.shared.write ≡ true)
      by_kind BeforeWrite w u h is =
          (λ a. ap (λ (x : Edge). x.perm.write) (sym is) ∙ a, λ s. absurd (false≢true (ap (λ (x : Edge). x.shared.write) is ∙ s)))
      by_kind Mirror w u h is =
          (λ a. ap (λ (x : Edge). x.perm.write) (sym is) ∙ a, λ s. absurd (false≢true (ap (λ (x : Edge). x.shared.write) is ∙ s)))
      by_kind Commit w u h is =
          (λ a. ap (λ (x : Edge). x.perm.write) (sym is) ∙ a, λ s. ap (λ (x : Edge). x.shared.write) is ∙ s)
      by_kind k w u h is = absurd (false≢true h)

      uses : ((uses_into edges over).perm.write ≡ true → f.own.perm.write ≡ true) × (f.own.shared.write ≡ true → (uses_into edges over).shared.write ≡ true)
      uses =
          let k : NodeKind = kind_at kinds over in
          by_kind k.kind k.writes (uses_into edges over) f.kind
          (subst (λ (r : Role). with_uses f.own (derived_uses k.kind r k.writes (uses_into edges over)) ≡ f.own) filtered
          (ap (ruled_from kinds (uses_into edges) f.own) (sym from) ∙ stand.refreshed f.own at_own.0))

      no_plain : (k : Kind) → is_job_filter k ≡ true → is_plain k ≡ false
      no_plain BeforeWrite h = refl
      no_plain Mirror h = refl
      no_plain Commit h = refl
      no_plain k h = absurd (false≢true h)

      open_over : (e : Edge) → Contains edges e → e.child ≡ over → is_open kinds e ≡ true
      open_over e there at = stand.filters.apart e there (ap (λ n. is_plain (kind_at kinds n).kind) at ∙ no_plain (kind_at kinds over).kind f.kind)

      no_job_over : (e : Edge) → is_open kinds e ≡ true → is_job e.parent ≡ false
      no_job_over e is = by_parent e.parent is
        where
          by_parent : (p : Parent) → is_open_from kinds e.role p ≡ true → is_job p ≡ false
          by_parent (Node n) h = refl
          by_parent (Guest n) h = refl
          by_parent (Job n) h = absurd (false≢true h)

  pub holds_alone : (to job : ℕ) (held : IsUnread kinds edges to job) → (held.edge.perm.read ≡ true) × (held.edge.perm.write ≡ true)
      → held.edge.shared.write ≡ false → HoldsAlone edges to job
  holds_alone to job held asks shut = record {
    edge = held.edge;
    there = held.there;
    own = held.own;
    child = held.child;
    asks = asks;
    shuts = (held.shut, shut);
    beside = λ e there at other. (unread_by to job held e there at other).shares;
  }

  pub holds_chain : (given : Edge → Bool) (through : ℕ → Bool) (top base over job : ℕ) → CommitStands kinds edges through top base over job
      → HoldsChain kinds edges given through top base over job
  holds_chain given through top base over job c = record {
    at_top = c.at_top;
    apart = c.apart;
    plain = c.plain;
    read = c.read;
    leads = λ e there none is. c.leads e there is;
    away = λ e there none is. c.away e there is;
    calm = λ e there none other keeps no below differ. (unread_by e.child job (c.unread e.child below differ) e there refl other).calm;
  }
