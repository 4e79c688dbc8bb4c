-- Each end leaves a list of edges that stands again.
use Rattle.std.proofs.Common.{◌≡◌, ◌≢◌, ◌⊎◌, ℕ, ◌<◌, List, ◌∷◌, ◌++◌, refl, sym, ◌∙◌, ap, subst, inl, inr, Bool, true, false, Some}
use Rattle.std.specs.Prelude.{◌==◌, not}
use Rattle.std.specs.List.{Contains, filter}
use Rattle.std.proofs.lemmas.Bool.{false≢true, eq-eqb}
use Rattle.blk_graph.specs.declared.edge.Edge.{Edge}
use Rattle.blk_graph.specs.declared.edge.Parent.{Parent}
use Rattle.blk_graph.specs.declared.edge.Parent.TheVariants.{Node, Guest, Job}
use Rattle.blk_graph.specs.declared.edge.Role.TheVariants.{Backing}
use Rattle.blk_graph.specs.declared.kind.Kind.{Kind}
use Rattle.blk_graph.specs.declared.kind.Kind.TheVariants.{Protocol, Raw, Qcow2, CopyOnRead, BeforeWrite, Mirror, Commit}
use Rattle.blk_graph.specs.declared.kind.NodeKind.{NodeKind}
use Rattle.blk_graph.specs.Drafts.{WriteLess}
use Rattle.blk_graph.specs.Edges.{same_parent, IsListed}
use Rattle.blk_graph.specs.Edits.{takes_place, with_edge, with_child, moved, is_edge, is_filters, replaced, with_replaced, without_filter, without_parent}
use Rattle.blk_graph.specs.Paths.{Reaches, IsAcyclic}
use Rattle.blk_graph.specs.Permissions.{has_role, node_edge}
use Rattle.blk_graph.specs.Refreshed.{kind_at, IsOf, IsByTable, uses_into, ruled, refreshed}
use Rattle.blk_graph.specs.Rule.{KeepsPermissions}
use Rattle.blk_graph.proofs.DraftLemmas.{acyclic_fewer}
use Rattle.blk_graph.proofs.EaseLemmas.{KeepsPermissions-fewer}
use Rattle.blk_graph.proofs.EditLemmas.{replaced-cases, Contains-with_edge}
use Rattle.blk_graph.proofs.FitLemmas.{table_ruled}
use Rattle.blk_graph.proofs.ListedLemmas.{IsListed-filter, IsListed-refreshed}
use Rattle.blk_graph.proofs.Members.{Contains-filter, Contains-map}
use Rattle.blk_graph.proofs.RefreshLemmas.{refreshed-by, ruled-same, EachIs-turned, IsAcyclic-refreshed, IsRefreshed-refreshed}
use Rattle.blk_graph.proofs.RoleLemmas.{EachIs, EachIs-filter}
use Rattle.blk_graph.proofs.StillLemmas.{refreshed-fixed}
use Rattle.job_edges.specs.Chains.{is_plain}
use Rattle.job_edges.specs.Kinds.{is_open_from, is_open, is_hidden_from, is_hidden, is_copying, is_open_by, is_hiding, FiltersStand}
use Rattle.job_edges.specs.Held.{EdgesStand, IsUnread, FilterStands, TargetStands, HasBacking, CommitStands, StreamStands, is_copiers, is_job_filter}
use Rattle.job_edges.specs.Ended.{AreOthers, job_gone, filter_gone, moved_to, rebased, unbacked}
use Rattle.job_edges.specs.Copies.{Copied, AreApart}
use Rattle.job_edges.proofs.Chain.{KeepsPermissions-left_off}
use Rattle.job_edges.proofs.Cycles.{moved_apart}
use Rattle.job_edges.proofs.Mild.{stand-mapped}
use Rattle.job_edges.proofs.Parts as parts
use Rattle.job_edges.proofs.Parts.{given_back}
use Rattle.job_edges.proofs.Rebased.{KeepsPermissions-committed}
use Rattle.job_edges.proofs.Streams.{stopped, takes, may_back, small_backed, stream_once, stream_table, stream_listed, stream_acyclic, stream_rule, stream_at_once}
use Rattle.job_edges.proofs.Unread.{has_filter, holds_chain}
use Rattle.job_edges.proofs.Whole as whole

-- ---- what is derived of a list

pub derived_stands : (kinds : List NodeKind) (edges : List Edge) → IsListed edges → IsAcyclic edges → EachIs (IsByTable kinds) edges
    → FiltersStand kinds edges → KeepsPermissions (refreshed kinds edges) → EdgesStand kinds (refreshed kinds edges)
derived_stands kinds edges listed acyclic table filters rule = record {
  listed = IsListed-refreshed kinds edges listed;
  acyclic = IsAcyclic-refreshed kinds edges acyclic;
  table = refreshed-by kinds (EachIs (IsByTable kinds)) (λ now h. EachIs-turned (IsByTable kinds) kinds now (table_ruled kinds kinds (uses_into now)) h) edges table;
  refreshed = IsRefreshed-refreshed kinds edges listed acyclic;
  rule = rule;
  filters = refreshed-by kinds (FiltersStand kinds) (λ now h. stand-mapped kinds (ruled kinds (uses_into now)) (ruled-same kinds (uses_into now)) now h) edges filters;
}

-- Where each edge of a new list leads to a node that is no filter, or is one of the old list between nodes of the same kinds, its filters
-- stand as those of the old one.
pub record Follows (kinds after : List NodeKind) (old : List Edge) (e : Edge) : Type 0 where
  pub edge : Edge
  pub there : Contains old edge
  pub child : e.child ≡ edge.child
  pub kind : (kind_at after e.child).kind ≡ (kind_at kinds e.child).kind
  pub role : e.role ≡ edge.role
  pub parent : e.parent ≡ edge.parent
  pub from : (n : ℕ) → e.parent ≡ Node n → (kind_at after n).kind ≡ (kind_at kinds n).kind

plain_copies : (k : Kind) → is_plain k ≡ true → is_copying k ≡ false
plain_copies Protocol h = refl
plain_copies Raw h = refl
plain_copies Qcow2 h = refl
plain_copies CopyOnRead h = absurd (false≢true h)
plain_copies BeforeWrite h = absurd (false≢true h)
plain_copies Mirror h = absurd (false≢true h)
plain_copies Commit h = absurd (false≢true h)

pub filters_follow : (kinds after : List NodeKind) (old new : List Edge) → FiltersStand kinds old
    → ((e : Edge) → Contains new e → (is_plain (kind_at after e.child).kind ≡ true) ⊎ Follows kinds after old e) → FiltersStand after new
filters_follow kinds after old new stand each = record {
  apart = λ e there filter. elim (each e there) [
    | inl plain ↦ absurd (false≢true (sym filter ∙ plain))
    | inr f ↦
        let was : is_open kinds f.edge ≡ true
        = stand.apart f.edge f.there (ap (λ n. is_plain (kind_at kinds n).kind) (sym f.child) ∙ ap is_plain (sym f.kind) ∙ filter) in
        same_open e f e.parent refl ∙ ap (λ r. is_open_from kinds r e.parent) f.role ∙ ap (is_open_from kinds f.edge.role) f.parent ∙ was
  ];
  top = λ e there copies. elim (each e there) [
    | inl plain ↦ absurd (false≢true (sym (plain_copies (kind_at after e.child).kind plain) ∙ copies))
    | inr f ↦
        let was : is_hidden kinds f.edge ≡ false
        = stand.top f.edge f.there (ap (λ n. is_copying (kind_at kinds n).kind) (sym f.child) ∙ ap is_copying (sym f.kind) ∙ copies) in
        same_hidden e f e.parent refl ∙ ap (is_hidden_from kinds) f.parent ∙ was
  ];
}
  where
    same_open : (e : Edge) (f : Follows kinds after old e) (p : Parent) → e.parent ≡ p → is_open_from after e.role p ≡ is_open_from kinds e.role p
    same_open e f (Node n) is = ap (λ k. is_open_by k e.role) (f.from n is)
    same_open e f (Guest n) is = refl
    same_open e f (Job n) is = refl

    same_hidden : (e : Edge) (f : Follows kinds after old e) (p : Parent) → e.parent ≡ p → is_hidden_from after p ≡ is_hidden_from kinds p
    same_hidden e f (Node n) is = ap is_hiding (f.from n is)
    same_hidden e f (Guest n) is = refl
    same_hidden e f (Job n) is = refl

-- ---- where fewer nodes may be written

pub written_no_more : (kinds after : List NodeKind) (edges : List Edge) → EdgesStand kinds edges → WriteLess kinds after
    → EdgesStand after (refreshed after edges)
written_no_more kinds after edges stand less =
    derived_stands after edges stand.listed stand.acyclic table
    (filters_follow kinds after edges edges stand.filters (λ e there. inr (record {
      edge = e;
      there = there;
      child = refl;
      kind = less.kind e.child;
      role = refl;
      parent = refl;
      from = λ n is. less.kind n;
    })))
    (subst (λ (es : List Edge). KeepsPermissions (refreshed after es)) still
    (given_back kinds after edges less table stand.listed stand.acyclic (subst KeepsPermissions (sym still) stand.rule)))
  where
    still : refreshed kinds edges ≡ edges
    still = refreshed-fixed kinds edges stand.refreshed

    table : EachIs (IsByTable after) edges
    table e there = by_parent e.parent (stand.table e there)
      where
        by_parent : (p : Parent) → IsOf kinds e p → IsOf after e p
        by_parent (Node n) h = ap (λ k. has_role k e.role) (less.kind n) ∙ h
        by_parent (Guest n) h = h
        by_parent (Job n) h = h

-- ---- fewer edges

pub fewer_stand : (kinds : List NodeKind) (edges : List Edge) (p : Edge → Bool) → EdgesStand kinds edges → EdgesStand kinds (refreshed kinds (filter p edges))
fewer_stand kinds edges p stand =
    derived_stands kinds (filter p edges) (IsListed-filter p edges stand.listed) (acyclic_fewer p edges stand.acyclic)
    (EachIs-filter (IsByTable kinds) p edges stand.table)
    (filters_follow kinds kinds edges (filter p edges) stand.filters (λ e there. inr (record {
      edge = e;
      there = (Contains-filter p edges e there).0;
      child = refl;
      kind = refl;
      role = refl;
      parent = refl;
      from = λ n is. refl;
    })))
    (KeepsPermissions-fewer kinds p edges stand.refreshed stand.rule)

-- ---- ends with a filter

no_plain : (k : Kind) → is_job_filter k ≡ true → is_plain k ≡ false
no_plain BeforeWrite h = refl
no_plain Mirror h = refl
no_plain Commit h = refl
no_plain Protocol h = absurd (false≢true h)
no_plain Raw h = absurd (false≢true h)
no_plain Qcow2 h = absurd (false≢true h)
no_plain CopyOnRead h = absurd (false≢true h)

module _ (kinds after : List NodeKind) (edges : List Edge) (over node job : ℕ) (stand : EdgesStand kinds edges) (f : FilterStands kinds edges over node job)
    (others : AreOthers kinds after over) where
  abbrev gone : List Edge
  gone = without_filter over (without_parent (Job job) edges)

  other_plain : (n : ℕ) → is_plain (kind_at kinds n).kind ≡ true → is_plain (kind_at after n).kind ≡ true
  other_plain n plain =
      let apart : n ≢ over = λ is. false≢true (sym (no_plain (kind_at kinds over).kind f.kind) ∙ ap (λ m. is_plain (kind_at kinds m).kind) (sym is) ∙ plain) in
      ap (λ (k : NodeKind). is_plain k.kind) (others n apart) ∙ plain

  gone_filters : FiltersStand after gone
  gone_filters =
      filters_follow kinds after edges gone stand.filters (λ e there.
      let x = parts.in_gone kinds after edges over node job stand f others e there in
      by_moved e there x.0 x.1 x.2 x.3 (x.0.child == over) refl)
    where
      by_moved : (e : Edge) → Contains gone e → (x : Edge) → Contains edges x → e ≡ moved over node x → is_filters over x ≡ false → (b : Bool) → (x.child == over) ≡ b
          → (is_plain (kind_at after e.child).kind ≡ true) ⊎ Follows kinds after edges e
      by_moved e there x at is none true test =
          let shape : moved over node x ≡ with_child node x = rw test refl in
          inl (ap (λ (y : Edge). is_plain (kind_at after y.child).kind) (is ∙ shape) ∙ other_plain node f.plain)
      by_moved e there x at is none false test =
          let shape : moved over node x ≡ x = rw test refl in
          let same : e ≡ x = is ∙ shape in
          let apart : e.child ≢ over = λ to. false≢true (sym test ∙ ap (λ n. n == over) (sym (ap (λ (y : Edge). y.child) same) ∙ to) ∙ same_number over) in
          inr (record {
            edge = x;
            there = at;
            child = ap (λ (y : Edge). y.child) same;
            kind = ap (λ (k : NodeKind). k.kind) (others e.child apart);
            role = ap (λ (y : Edge). y.role) same;
            parent = ap (λ (y : Edge). y.parent) same;
            from = λ n from. ap (λ (k : NodeKind). k.kind) (parts.gone_agrees kinds after edges over node job stand f others e there n from);
          })
        where
          same_number : (n : ℕ) → (n == n) ≡ true
          same_number n = eq-eqb n n refl

  left_stands : KeepsPermissions (refreshed kinds gone) → EdgesStand after (filter_gone kinds after job over edges)
  left_stands rule =
      subst (EdgesStand after) (sym (parts.is_at_once kinds after edges over node job stand f others))
      (derived_stands after gone (parts.gone_listed kinds after edges over node job stand f others) (parts.gone_acyclic kinds after edges over node job stand f others)
      (parts.gone_table kinds after edges over node job stand f others) gone_filters
      (subst KeepsPermissions (sym (parts.gone_same kinds after edges over node job stand f others)) rule))

  -- a backup, or a mirror without a move
  pub copies_stop : is_copiers (kind_at kinds over).kind ≡ true → EdgesStand after (filter_gone kinds after job over edges)
  copies_stop copies = left_stands (stopped kinds edges over node job stand f copies)

  -- a commit that fails or is cancelled
  pub commits_stop : (through : ℕ → Bool) (base : ℕ) → CommitStands kinds edges through node base over job
      → EdgesStand after (filter_gone kinds after job over edges)
  commits_stop through base c =
      left_stands (KeepsPermissions-left_off kinds edges over node base job through (has_filter kinds edges stand over node job f)
      (holds_chain kinds edges stand (λ e. false) through node base over job c) stand.refreshed stand.table stand.rule)

  -- a pivot
  pub pivots : (to : ℕ) → TargetStands kinds edges to node job → EdgesStand after (moved_to kinds after job over node to edges)
  pivots to target =
      subst (EdgesStand after) (sym (whole.pivoted_at_once kinds after edges over node to job stand f target others))
      (derived_stands after at_once (whole.pivoted_listed kinds after edges over node to job stand f target others)
      (whole.pivoted_acyclic kinds after edges over node to job stand f target others) (whole.pivoted_table kinds after edges over node to job stand f target others)
      filters (whole.at_once_rule kinds after edges over node to job stand f target others))
    where
      at_once : List Edge
      at_once = with_replaced node to (Some (Node over)) gone

      filters : FiltersStand after at_once
      filters =
          filters_follow after after gone at_once gone_filters (λ e there.
          let r = Contains-map (replaced node to (Some (Node over))) gone e there in
          by_case e r.0 r.1 r.2 (replaced-cases node to (Some (Node over)) r.0))
        where
          by_case : (e x : Edge) → Contains gone x → e ≡ replaced node to (Some (Node over)) x
              → ((replaced node to (Some (Node over)) x).child ≡ to) ⊎ (replaced node to (Some (Node over)) x ≡ x)
              → (is_plain (kind_at after e.child).kind ≡ true) ⊎ Follows after after gone e
          by_case e x at is (inl there) = inl (ap (λ (y : Edge). is_plain (kind_at after y.child).kind) is ∙ ap (λ n. is_plain (kind_at after n).kind) there ∙ other_plain to target.plain)
          by_case e x at is (inr stays) = inr (record {
            edge = x;
            there = at;
            child = ap (λ (y : Edge). y.child) (is ∙ stays);
            kind = refl;
            role = ap (λ (y : Edge). y.role) (is ∙ stays);
            parent = ap (λ (y : Edge). y.parent) (is ∙ stays);
            from = λ n from. refl;
          })

  -- an inner commit without error
  pub commits_complete : (through : ℕ → Bool) (base overlay : ℕ) → CommitStands kinds edges through node base over job → HasBacking edges overlay
      → Reaches edges overlay base → EdgesStand after (rebased after overlay base (filter_gone kinds after job over edges))
  commits_complete through base overlay c has way =
      subst (EdgesStand after) (sym (parts.rebased_at_once kinds after edges over node job stand f others overlay base small_o small_b other may way))
      (derived_stands after (with_edge new gone) (parts.rebased_listed kinds after edges over node job stand f others overlay base small_o small_b other may way)
      (parts.rebased_acyclic kinds after edges over node job stand f others overlay base small_o small_b other may way)
      (parts.rebased_table kinds after edges over node job stand f others overlay base small_o small_b other may way) filters
      (subst KeepsPermissions (sym (parts.rebased_same kinds after edges over node job stand f others overlay base small_o small_b other may way))
      (KeepsPermissions-committed kinds edges over node base overlay job through has.edge (has_filter kinds edges stand over node job f)
      (holds_chain kinds edges stand (takes_place new) through node base over job c) has.there (takes kinds edges stand overlay base has) other stand.listed.places
      stand.refreshed stand.table stand.rule)))
    where
      new : Edge
      new = node_edge overlay Backing base

      small_o : overlay < 64
      small_o = small_backed kinds edges stand overlay base has

      base_held : IsUnread kinds edges base job
      base_held = c.unread base (inr refl) c.apart

      small_b : base < 64
      small_b = subst (λ n. n < 64) base_held.child (stand.listed.each base_held.edge base_held.there).child

      may : has_role (kind_at kinds overlay).kind Backing ≡ true
      may = may_back kinds edges stand overlay base has

      no_backing : (k : Kind) → is_job_filter k ≡ true → has_role k Backing ≡ false
      no_backing BeforeWrite h = refl
      no_backing Mirror h = refl
      no_backing Commit h = refl
      no_backing Protocol h = absurd (false≢true h)
      no_backing Raw h = absurd (false≢true h)
      no_backing Qcow2 h = absurd (false≢true h)
      no_backing CopyOnRead h = absurd (false≢true h)

      other : overlay ≢ over
      other is = false≢true (sym (no_backing (kind_at kinds over).kind f.kind) ∙ ap (λ n. has_role (kind_at kinds n).kind Backing) (sym is) ∙ may)

      filters : FiltersStand after (with_edge new gone)
      filters = filters_follow after after gone (with_edge new gone) gone_filters (λ e there. elim (Contains-with_edge new gone e there) [
        | inl is_new ↦ inl (ap (λ (y : Edge). is_plain (kind_at after y.child).kind) is_new ∙ other_plain base c.read.plain)
        | inr kept ↦ inr (record {
          edge = e;
          there = kept;
          child = refl;
          kind = refl;
          role = refl;
          parent = refl;
          from = λ n from. refl;
        })
      ])

-- ---- streams

pub streams_complete : (kinds : List NodeKind) (edges : List Edge) (top base job : ℕ) → EdgesStand kinds edges → StreamStands kinds edges top base job
    → HasBacking edges top → Reaches edges top base → EdgesStand kinds (rebased kinds top base (job_gone kinds job edges))
streams_complete kinds edges top base job stand s has way =
    subst (EdgesStand kinds) (sym (stream_at_once kinds edges top base job stand s has way))
    (derived_stands kinds (stream_once kinds edges top base job stand s has way) (stream_listed kinds edges top base job stand s has way)
    (stream_acyclic kinds edges top base job stand s has way) (stream_table kinds edges top base job stand s has way)
    (filters_follow kinds kinds edges (stream_once kinds edges top base job stand s has way) stand.filters
    (λ e there. elim (Contains-with_edge (node_edge top Backing base) (without_parent (Job job) edges) e there) [
      | inl is_new ↦ inl (ap (λ (y : Edge). is_plain (kind_at kinds y.child).kind) is_new ∙ s.plain.1)
      | inr kept ↦ inr (record {
        edge = e;
        there = (Contains-filter (λ x. not (same_parent x.parent (Job job))) edges e kept).0;
        child = refl;
        kind = refl;
        role = refl;
        parent = refl;
        from = λ n from. refl;
      })
    ]))
    (stream_rule kinds edges top base job stand s has way))

-- a job's edges go alone, or with a backing edge
pub jobs_go : (kinds : List NodeKind) (edges : List Edge) (job : ℕ) → EdgesStand kinds edges → EdgesStand kinds (job_gone kinds job edges)
jobs_go kinds edges job stand = fewer_stand kinds edges (λ x. not (same_parent x.parent (Job job))) stand

pub nodes_unbacked : (kinds : List NodeKind) (edges : List Edge) (node : ℕ) → EdgesStand kinds edges → EdgesStand kinds (unbacked kinds node edges)
nodes_unbacked kinds edges node stand = fewer_stand kinds edges (λ x. not (is_edge (Node node) Backing x)) stand

-- ---- the mirrors that are left

-- an edge that leads as one of a list
record Was (edges : List Edge) (e : Edge) : Type 0 where
  edge : Edge
  there : Contains edges edge
  parent : e.parent ≡ edge.parent
  child : e.child ≡ edge.child

derived_leads : (kinds : List NodeKind) (edges : List Edge) (a : ℕ) (e : Edge) → Contains (refreshed kinds edges) e → e.parent ≡ Node a
    → (x : Edge) × Contains edges x × (x.parent ≡ Node a) × (e.child ≡ x.child)
derived_leads kinds edges a e there from =
    let r = all_were e there in
    (r.edge, r.there, sym r.parent ∙ from, r.child)
  where
    step : (now : List Edge) (x : Edge) → Was edges x → Was edges (ruled kinds (uses_into now) x)
    step now x was =
        let same = ruled-same kinds (uses_into now) x in
        record { edge = was.edge; there = was.there; parent = same.parent ∙ was.parent; child = same.child ∙ was.child }

    all_were : EachIs (Was edges) (refreshed kinds edges)
    all_were =
        refreshed-by kinds (EachIs (Was edges)) (λ now h. EachIs-turned (Was edges) kinds now (step now) h) edges
        (λ x at. record { edge = x; there = at; parent = refl; child = refl })

pub mirrors_stay_apart : (kinds after : List NodeKind) (edges : List Edge) (over node to job : ℕ) (copies before later : List Copied)
    → EdgesStand kinds edges → FilterStands kinds edges over node job → TargetStands kinds edges to node job → AreOthers kinds after over
    → copies ≡ before ++ record { source = node; target = to } ∷ later → AreApart edges copies
    → AreApart (moved_to kinds after job over node to edges) (before ++ later)
mirrors_stay_apart kinds after edges over node to job copies before later stand f target others is apart =
    subst (λ (es : List Edge). AreApart es (before ++ later)) (sym (whole.pivoted_at_once kinds after edges over node to job stand f target others))
    (moved_apart (refreshed after at_once) edges node to
    (λ a e there from.
    let x = derived_leads after at_once a e there from in
    elim (whole.pivoted_leads kinds after edges over node to job stand f target others a x.0 x.1 x.2) [
      | inl way ↦ inl (subst (Reaches edges a) (sym x.3) way)
      | inr way ↦ inr (x.3 ∙ way.0, way.1)
    ])
    target.apart copies before later is apart)
  where
    at_once : List Edge
    at_once = with_replaced node to (Some (Node over)) (without_filter over (without_parent (Job job) edges))
