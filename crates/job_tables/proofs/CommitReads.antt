-- No other job's source reads what a commit lets nobody read, but through the commit's top.
use Rattle.std.proofs.Common.{◌≡◌, ◌≢◌, ◌⊎◌, ℕ, ◌<◌, List, [], ◌∷◌, ◌++◌, map, refl, sym, ◌∙◌, ap, subst, inl, inr, Bool, true, false, cond, Option, Some, None}
use Rattle.std.specs.Prelude.{◌==◌, IsSome, drop}
use Rattle.std.specs.List.{Contains}
use Rattle.std.proofs.lemmas.Bool.{false≢true, eqb-true, eqb-false, eq-eqb}
use Rattle.blk_graph.specs.declared.edge.Edge.{Edge}
use Rattle.blk_graph.specs.declared.edge.Parent.TheVariants.{Node, Job}
use Rattle.blk_graph.specs.declared.edge.Perm.TheVariants.{Read}
use Rattle.blk_graph.specs.declared.edge.Role.{Role}
use Rattle.blk_graph.specs.declared.edge.Role.TheVariants.{Backing, Filtered}
use Rattle.blk_graph.specs.declared.edge.Uses.{Uses}
use Rattle.blk_graph.specs.declared.kind.Kind.{Kind}
use Rattle.blk_graph.specs.declared.kind.Kind.TheVariants as driver
use Rattle.blk_graph.specs.declared.kind.NodeKind.{NodeKind}
use Rattle.blk_graph.specs.declared.kind.JobUse.TheVariants.{CommitTop, CommitBetween, CommitBase, StreamTop, StreamBelow}
use Rattle.blk_graph.specs.Edges.{HasNumber}
use Rattle.blk_graph.specs.Permissions.{has_role, derived_uses, job_edge, job_uses}
use Rattle.blk_graph.specs.Refreshed.{kind_at, IsOf, uses_into, with_uses, ruled_from}
use Rattle.blk_graph.proofs.EaseLemmas.{agree-pairs}
use Rattle.blk_graph.proofs.Members.{Contains-nil, Contains-here, Contains-there, Contains-cases, map-Contains, find-Some}
use Rattle.blk_graph.proofs.TakeOutLemmas.{under_uses}
use Rattle.qmp_codec.specs.declared.event.JobKind.TheVariants.{Stream, Commit}
use Rattle.qmp_rules.specs.declared.rows.NodeRecord.{NodeRecord}
use Rattle.qmp_rules.specs.declared.rows.JobRecord.{JobRecord}
use Rattle.qmp_rules.specs.Asks.{is_base}
use Rattle.qmp_rules.specs.Edits.{under_top}
use Rattle.qmp_rules.specs.Table.{RunTable, node_by_id, child, kinds_of}
use Rattle.flat_machine.proofs.WritingKept.{RoleEdge, role_edge}
use Rattle.job_edges.specs.Held.{is_job_filter}
use Rattle.job_edges.proofs.Below.{one_or_agree}
use Rattle.job_tables.specs.Jobs.{CommitJobStands, StandsByKind, JobsStand, EdgesAreDrawn, IsFilterOfRow}
use Rattle.job_tables.specs.Rows.{commit_edge, nodes_of_job, AreLinked}
use Rattle.job_tables.proofs.Drawn.{IsDraft}
use Rattle.job_tables.proofs.NodeKinds.{kind_found}
use Rattle.job_tables.proofs.RowEdges.{kind_commit, in_left, in_right, in_either}

-- what an edge of a commit lets others read
shut_read : (row : JobRecord) (n : ℕ) → (commit_edge row n).shared.read ≡ false
shut_read row n = by_test (is_base row.target n)
  where
    by_test : (b : Bool) → (job_uses (cond b CommitBase CommitBetween)).shared.read ≡ false
    by_test true = refl
    by_test false = refl

-- the one below a node of a chain
next_down : (w : RunTable) (top base : ℕ) (between : List ℕ) → AreLinked w top (between ++ base ∷ []) → (n m : ℕ) → Contains (top ∷ between) n
    → child w n Backing ≡ Some m → Contains (between ++ base ∷ []) m
next_down w top base [] l n m at is = elim (Contains-cases top [] n at) [
  | inl same ↦
      let both : Some base ≡ Some m = sym l.0 ∙ subst (λ k. child w k Backing ≡ Some m) same is in
      let one : base ≡ m = cc both in
      subst (Contains (base ∷ [])) one (Contains-here base [])
  | inr none ↦ absurd (Contains-nil n none)
]
next_down w top base (b ∷ between) l n m at is = elim (Contains-cases top (b ∷ between) n at) [
  | inl same ↦
      let both : Some b ≡ Some m = sym l.0 ∙ subst (λ k. child w k Backing ≡ Some m) same is in
      let one : b ≡ m = cc both in
      subst (Contains (b ∷ between ++ base ∷ [])) one (Contains-here b (between ++ base ∷ []))
  | inr more ↦ Contains-there b (between ++ base ∷ []) m (next_down w b base between l.1 n m more is)
]

-- In a table with a commit that runs: what is read by others.
module _ (t w : RunTable) (j : JobsStand w) (d : EdgesAreDrawn w) (dr : IsDraft w) (r : JobRecord) (here : Contains w.jobs r) (kind : r.kind ≡ Commit) where
  abbrev kinds : List NodeKind
  kinds = kinds_of w.nodes

  pub record IsReadBy (n : ℕ) : Type 0 where
    pub edge : Edge
    pub there : Contains w.edges edge
    pub to : edge.child ≡ n
    pub reads : edge.perm.read ≡ true
    pub other : edge.parent ≢ Job r.slot

  pub record InCommit (n : ℕ) : Type 0 where
    pub row : JobRecord
    pub there : Contains w.jobs row
    pub other : row.slot ≢ r.slot
    pub kind_is : row.kind ≡ Commit
    pub shape : CommitJobStands w row
    pub at : Contains (row.source ∷ shape.between) n

  pub record InStream (n : ℕ) : Type 0 where
    pub row : JobRecord
    pub there : Contains w.jobs row
    pub other : row.slot ≢ r.slot
    pub kind_is : row.kind ≡ Stream
    pub held : Contains row.held n
    pub reads : (m : ℕ) → child t n Backing ≡ Some m → Contains row.read m

  abbrev pub IsWatched : ℕ → Type 0
  IsWatched n = IsReadBy n ⊎ (InCommit n ⊎ InStream n)

  -- ---- none of them is one that the commit lets nobody read

  own_edge : (n : ℕ) → Contains (under_top r) n → Contains w.edges (commit_edge r n)
  own_edge n at =
      (j.each r here).edges (commit_edge r n)
      (rw kind (Contains-there (job_edge r.slot CommitTop r.source) (map (commit_edge r) (under_top r)) (commit_edge r n) (map-Contains (commit_edge r) (under_top r) n at)))

  in_held : (n : ℕ) → Contains (under_top r) n → Contains (nodes_of_job r) n
  in_held n at = in_left r.held r.read n (in_tail r.held at)
    where
      in_tail : (ids : List ℕ) → Contains (drop 1 ids) n → Contains ids n
      in_tail [] h = h
      in_tail (id ∷ ids) h = Contains-there id ids n h

  pub not_under : (n : ℕ) → Contains (under_top r) n → IsWatched n → ⊥
  not_under n at (inl x) = elim (one_or_agree w.edges (agree-pairs w.edges d.rule) x.edge (commit_edge r n) x.there (own_edge n at)) [
    | inl same ↦ x.other (ap (λ (e : Edge). e.parent) same)
    | inr agree ↦ false≢true (sym (shut_read r n) ∙ (agree x.to).0 Read x.reads)
  ]
  not_under n at (inr (inl x)) =
      x.other (j.apart x.row r n x.there here
      (subst (λ ids. Contains ids n) (sym x.shape.held) (elim (Contains-cases x.row.source x.shape.between n x.at) [
        | inl same ↦ subst (Contains (x.row.source ∷ x.shape.between ++ x.shape.base ∷ [])) (sym same) (Contains-here x.row.source (x.shape.between ++ x.shape.base ∷ []))
        | inr more ↦ Contains-there x.row.source (x.shape.between ++ x.shape.base ∷ []) n (in_left x.shape.between (x.shape.base ∷ []) n more)
      ])) (in_held n at))
  not_under n at (inr (inr x)) = x.other (j.apart x.row r n x.there here x.held (in_held n at))

  -- ---- to a backing node

  no_node : (n : ℕ) → Node n ≢ Job r.slot
  no_node n is = cc is

  other_job : (slot : ℕ) → slot ≢ r.slot → Job slot ≢ Job r.slot
  other_job slot other is = other (cc is)

  backing_reads : (e : Edge) (n : ℕ) → Contains w.edges e → e.parent ≡ Node n → e.role ≡ Backing → (uses_into w.edges n).perm.read ≡ true → e.perm.read ≡ true
  backing_reads e n there from role read =
      let k : NodeKind = kind_at kinds n in
      let may : has_role k.kind Backing ≡ true = subst (λ (x : Role). has_role k.kind x ≡ true) role (subst (IsOf kinds e) from (d.table e there)) in
      let is : with_uses e (derived_uses k.kind Backing k.writes (uses_into w.edges n)) ≡ e =
      subst (λ (x : Role). with_uses e (derived_uses k.kind x k.writes (uses_into w.edges n)) ≡ e) role (ap (ruled_from kinds (uses_into w.edges) e) (sym from) ∙ d.refreshed e there) in
      by_kind k.kind k.writes (uses_into w.edges n) may is read
    where
      by_kind : (k : Kind) (b : Bool) (u : Uses) → has_role k Backing ≡ true → with_uses e (derived_uses k Backing b u) ≡ e → u.perm.read ≡ true → e.perm.read ≡ true
      by_kind driver.Qcow2 b u h is read = ap (λ (x : Edge). x.perm.read) (sym is) ∙ read
      by_kind driver.Protocol b u h is read = absurd (false≢true h)
      by_kind driver.Raw b u h is read = absurd (false≢true h)
      by_kind driver.CopyOnRead b u h is read = absurd (false≢true h)
      by_kind driver.BeforeWrite b u h is read = absurd (false≢true h)
      by_kind driver.Mirror b u h is read = absurd (false≢true h)
      by_kind driver.Commit b u h is read = absurd (false≢true h)

  commit_down : (x : JobRecord) → Contains w.jobs x → x.slot ≢ r.slot → x.kind ≡ Commit → (c : CommitJobStands w x) → (m : ℕ) → Contains (c.between ++ c.base ∷ []) m → IsWatched m
  commit_down x there other of c m at = elim (in_either c.between (c.base ∷ []) m at) [
    | inl left ↦
        inr (inl (record { row = x; there = there; other = other; kind_is = of; shape = c; at = Contains-there x.source c.between m left }))
    | inr right ↦ elim (Contains-cases c.base [] m right) [
      | inl same ↦ inl (record {
        edge = commit_edge x c.base;
        there = (j.each x there).edges (commit_edge x c.base)
            (rw of (Contains-there (job_edge x.slot CommitTop x.source) (map (commit_edge x) (under_top x)) (commit_edge x c.base)
            (map-Contains (commit_edge x) (under_top x) c.base (subst (λ ids. Contains (drop 1 ids) c.base) (sym c.held) (in_right c.between (c.base ∷ []) c.base (Contains-here c.base []))))));
        to = sym same;
        reads = ap (λ b. (job_uses (cond b CommitBase CommitBetween)).perm.read) (ap (λ o. is_base o c.base) c.is_base ∙ eq-eqb c.base c.base refl);
        other = other_job x.slot other;
      })
      | inr none ↦ absurd (Contains-nil m none)
    ]
  ]

  pub step_backing : (n m : ℕ) → IsWatched n → child w n Backing ≡ Some m → child t n Backing ≡ Some m → IsWatched m
  step_backing n m (inl x) is was =
      let e = role_edge (Node n) Backing w.edges m is in
      inl (record {
        edge = e.edge;
        there = e.there;
        to = e.to;
        reads = backing_reads e.edge n e.there e.from e.role_is ((under_uses n w.edges x.edge x.there x.to).asks Read x.reads);
        other = λ own. no_node n (sym e.from ∙ own);
      })
  step_backing n m (inr (inl x)) is was =
      commit_down x.row x.there x.other x.kind_is x.shape m (next_down w x.row.source x.shape.base x.shape.between x.shape.linked n m x.at is)
  step_backing n m (inr (inr x)) is was = inl (record {
    edge = job_edge x.row.slot StreamBelow m;
    there = (j.each x.row x.there).edges (job_edge x.row.slot StreamBelow m)
        (rw x.kind_is (Contains-there (job_edge x.row.slot StreamTop x.row.source) (map (job_edge x.row.slot StreamBelow) x.row.read) (job_edge x.row.slot StreamBelow m)
        (map-Contains (job_edge x.row.slot StreamBelow) x.row.read m (x.reads m was))));
    to = refl;
    reads = refl;
    other = other_job x.row.slot x.other;
  })

  -- ---- through a filter

  record IsRowOf (n : ℕ) : Type 0 where
    row : NodeRecord
    found : node_by_id w n ≡ Some row
    there : Contains w.nodes row
    id : row.id ≡ n

  row_of : (n : ℕ) → IsSome (node_by_id w n) → IsRowOf n
  row_of n some = by_found (node_by_id w n) refl some
    where
      by_found : (found : Option NodeRecord) → node_by_id w n ≡ found → IsSome found → IsRowOf n
      by_found None is h = absurd cc
      by_found (Some row) is h =
          let at = find-Some (λ (x : NodeRecord). x.id == n) w.nodes row is in
          record { row = row; found = is; there = at.0; id = eqb-true row.id n at.1 }

  hidden_down : (n m : ℕ) → child w n Filtered ≡ Some m → (e : RoleEdge w.edges (Node n) Filtered m) → (kind_at kinds n).kind ≡ driver.Commit
      → (m ≡ r.source) ⊎ IsWatched m
  hidden_down n m is e of =
      let o : IsRowOf n = row_of n ((dr.ends e.edge e.there).parent n e.from) in
      let small : n < 64 = subst HasNumber e.from (d.listed.each e.edge e.there).number in
      let commits : o.row.kind ≡ driver.Commit = sym (ap (λ (k : NodeKind). k.kind) (kind_found w n o.row dr.apart small o.found)) ∙ of in
      let x : IsFilterOfRow w o.row = j.filters o.row o.there (ap is_job_filter commits) in
      let k : x.row.kind ≡ Commit = kind_commit x.row.kind (x.kind ∙ ap Some commits) in
      by_shape x.row x.there k (subst (StandsByKind w x.row) k (j.each x.row x.there).shape) (x.filter ∙ ap Some o.id)
    where
      over_source : (x : JobRecord) (c : CommitJobStands w x) → x.filter ≡ Some n → m ≡ x.source
      over_source x c at =
          let both : Some c.filter.filter ≡ Some n = sym c.filter.is_filter ∙ at in
          let one : c.filter.filter ≡ n = cc both in
          let down : Some m ≡ Some x.source = sym is ∙ subst (λ f. child w f Filtered ≡ Some x.source) one c.filter.over in
          cc down

      by_slot : (x : JobRecord) → Contains w.jobs x → x.kind ≡ Commit → (c : CommitJobStands w x) → m ≡ x.source → (b : Bool) → (x.slot == r.slot) ≡ b → (m ≡ r.source) ⊎ IsWatched m
      by_slot x there k c same true own =
          inl (same ∙ ap (λ (y : JobRecord). y.source) (j.slots x r there here (eqb-true x.slot r.slot own)))
      by_slot x there k c same false other =
          inr (inr (inl (record {
            row = x;
            there = there;
            other = eqb-false x.slot r.slot other;
            kind_is = k;
            shape = c;
            at = subst (Contains (x.source ∷ c.between)) (sym same) (Contains-here x.source c.between);
          })))

      by_shape : (x : JobRecord) → Contains w.jobs x → x.kind ≡ Commit → CommitJobStands w x → x.filter ≡ Some n → (m ≡ r.source) ⊎ IsWatched m
      by_shape x there k c at = by_slot x there k c (over_source x c at) (x.slot == r.slot) refl

  pub step_filter : (n m : ℕ) → child w n Filtered ≡ Some m → (m ≡ r.source) ⊎ IsWatched m
  step_filter n m is =
      let e = role_edge (Node n) Filtered w.edges m is in
      let k : NodeKind = kind_at kinds n in
      let may : has_role k.kind Filtered ≡ true = subst (λ (x : Role). has_role k.kind x ≡ true) e.role_is (subst (IsOf kinds e.edge) e.from (d.table e.edge e.there)) in
      let ruled : with_uses e.edge (derived_uses k.kind Filtered k.writes (uses_into w.edges n)) ≡ e.edge =
      subst (λ (x : Role). with_uses e.edge (derived_uses k.kind x k.writes (uses_into w.edges n)) ≡ e.edge) e.role_is
      (ap (ruled_from kinds (uses_into w.edges) e.edge) (sym e.from) ∙ d.refreshed e.edge e.there) in
      by_kind e k.kind k.writes (uses_into w.edges n) refl may ruled
    where
      read : (e : RoleEdge w.edges (Node n) Filtered m) → e.edge.perm.read ≡ true → (m ≡ r.source) ⊎ IsWatched m
      read e reads =
          inr (inl (record { edge = e.edge; there = e.there; to = e.to; reads = reads; other = λ own. no_node n (sym e.from ∙ own) }))

      by_kind : (e : RoleEdge w.edges (Node n) Filtered m) (k : Kind) (b : Bool) (u : Uses) → (kind_at kinds n).kind ≡ k → has_role k Filtered ≡ true
          → with_uses e.edge (derived_uses k Filtered b u) ≡ e.edge → (m ≡ r.source) ⊎ IsWatched m
      by_kind e driver.BeforeWrite b u of h ruled = read e (ap (λ (x : Edge). x.perm.read) (sym ruled))
      by_kind e driver.Mirror b u of h ruled = read e (ap (λ (x : Edge). x.perm.read) (sym ruled))
      by_kind e driver.Commit b u of h ruled = hidden_down n m is e of
      by_kind e driver.Protocol b u of h ruled = absurd (false≢true h)
      by_kind e driver.Raw b u of h ruled = absurd (false≢true h)
      by_kind e driver.Qcow2 b u of h ruled = absurd (false≢true h)
      by_kind e driver.CopyOnRead b u of h ruled = absurd (false≢true h)
