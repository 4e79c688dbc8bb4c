-- No guest writes what another one reads as a backing node, also through the filters of commits.
use Rattle.std.proofs.Common.{◌≡◌, ◌≢◌, ◌⊎◌, ℕ, zero, suc, List, [], ◌∷◌, refl, sym, ◌∙◌, ap, subst, inl, inr, Bool, true, false}
use Rattle.std.specs.Prelude.{not}
use Rattle.std.specs.List.{Contains, AllPairs}
use Rattle.std.proofs.lemmas.Bool.{false≢true}
use Rattle.blk_graph.specs.declared.edge.Edge.{Edge}
use Rattle.blk_graph.specs.declared.edge.Parent.TheVariants.{Node, Guest, Job}
use Rattle.blk_graph.specs.declared.edge.Perm.TheVariants.{Read, Write}
use Rattle.blk_graph.specs.declared.edge.Role.{Role}
use Rattle.blk_graph.specs.declared.edge.Role.TheVariants.{File, Backing, Filtered}
use Rattle.blk_graph.specs.declared.edge.Uses.{Uses}
use Rattle.blk_graph.specs.declared.kind.Kind.{Kind}
use Rattle.blk_graph.specs.declared.kind.Kind.TheVariants.{Protocol, Raw, Qcow2, CopyOnRead, BeforeWrite, Mirror, Commit}
use Rattle.blk_graph.specs.declared.kind.NodeKind.{NodeKind}
use Rattle.blk_graph.specs.Edges.{is_job, same_role}
use Rattle.blk_graph.specs.Permissions.{has_role, derived_uses}
use Rattle.blk_graph.specs.Refreshed.{kind_at, IsOf, uses_into, with_uses, ruled_from}
use Rattle.blk_graph.proofs.EaseLemmas.{Agree, agree-pairs}
use Rattle.blk_graph.proofs.Members.{Contains-nil, Contains-cases}
use Rattle.blk_graph.proofs.RoleLemmas.{head_pairs, tail_pairs, same_role-refl}
use Rattle.blk_graph.proofs.TakeOutLemmas.{under_uses}
use Rattle.job_edges.specs.Chains.{is_plain, is_one, is_to_backing}
use Rattle.job_edges.specs.Kinds.{is_open_from, is_hiding, is_hidden_from, is_hidden}
use Rattle.job_edges.specs.Held.{EdgesStand, IsUnread}
use Rattle.job_edges.specs.Seen.{IsRead, CommitsStand, ReadsBy, ReadsAlong, GoesBelow, FiltersAlong}
use Rattle.job_edges.proofs.Ends.{agree-sym}
use Rattle.job_edges.proofs.Unread.{unread_by, not-true}

-- two edges of a list agree, or are one
pub one_or_agree : (edges : List Edge) → AllPairs Agree edges → (a b : Edge) → Contains edges a → Contains edges b → (a ≡ b) ⊎ Agree a b
one_or_agree [] pairs a b at_a at_b = absurd (Contains-nil a at_a)
one_or_agree (x ∷ xs) pairs a b at_a at_b = by_cases (Contains-cases x xs a at_a) (Contains-cases x xs b at_b) (one_or_agree xs (tail_pairs Agree x xs pairs) a b)
  where
    by_cases : (a ≡ x) ⊎ Contains xs a → (b ≡ x) ⊎ Contains xs b → (Contains xs a → Contains xs b → (a ≡ b) ⊎ Agree a b) → (a ≡ b) ⊎ Agree a b
    by_cases (inl p) (inl q) rest = inl (p ∙ sym q)
    by_cases (inl p) (inr q) rest = inr (rw p (head_pairs Agree x xs pairs b q))
    by_cases (inr p) (inl q) rest = inr (rw q (agree-sym x a (head_pairs Agree x xs pairs a p)))
    by_cases (inr p) (inr q) rest = rest p q

module _ (kinds : List NodeKind) (edges : List Edge) (stand : EdgesStand kinds edges) (through : ℕ → Bool) (commits : CommitsStand kinds edges through) where
  -- ---- what a filter's edge asks and shares

  record IsFilters (e : Edge) (u : Uses) (hides : Bool) : Type 0 where
    reads : hides ≡ false → u.perm.read ≡ true → e.perm.read ≡ true
    writes : u.perm.write ≡ true → e.perm.write ≡ true
    shuts : u.shared.write ≡ false → e.shared.write ≡ false
    role : e.role ≢ Backing

  filter_uses : (e : Edge) (n : ℕ) → Contains edges e → e.parent ≡ Node n → is_plain (kind_at kinds n).kind ≡ false
      → IsFilters e (uses_into edges n) (is_hiding (kind_at kinds n).kind)
  filter_uses e n there from filter =
      let k : NodeKind = kind_at kinds n in
      by_kind k.kind e.role k.writes (uses_into edges n) filter (subst (IsOf kinds e) from (stand.table e there)) refl
      (ap (ruled_from kinds (uses_into edges) e) (sym from) ∙ stand.refreshed e there)
    where
      by_kind : (k : Kind) (r : Role) (w : Bool) (u : Uses) → is_plain k ≡ false → has_role k r ≡ true → e.role ≡ r → with_uses e (derived_uses k r w u) ≡ e
          → IsFilters e u (is_hiding k)
      by_kind CopyOnRead File w u p h role is = record {
        reads = λ none a. ap (λ (x : Edge). x.perm.read) (sym is) ∙ a;
        writes = λ a. ap (λ (x : Edge). x.perm.write) (sym is) ∙ a;
        shuts = λ a. ap (λ (x : Edge). x.shared.write) (sym is) ∙ a;
        role = λ back. let bad : File ≡ Backing = sym role ∙ back in cc bad;
      }
      by_kind BeforeWrite Filtered w u p h role is = record {
        reads = λ none a. ap (λ (x : Edge). x.perm.read) (sym is);
        writes = λ a. ap (λ (x : Edge). x.perm.write) (sym is) ∙ a;
        shuts = λ a. ap (λ (x : Edge). x.shared.write) (sym is);
        role = λ back. let bad : Filtered ≡ Backing = sym role ∙ back in cc bad;
      }
      by_kind Mirror Filtered w u p h role is = record {
        reads = λ none a. ap (λ (x : Edge). x.perm.read) (sym is);
        writes = λ a. ap (λ (x : Edge). x.perm.write) (sym is) ∙ a;
        shuts = λ a. ap (λ (x : Edge). x.shared.write) (sym is);
        role = λ back. let bad : Filtered ≡ Backing = sym role ∙ back in cc bad;
      }
      by_kind Commit Filtered w u p h role is = record {
        reads = λ none. absurd (false≢true (sym none));
        writes = λ a. ap (λ (x : Edge). x.perm.write) (sym is) ∙ a;
        shuts = λ a. ap (λ (x : Edge). x.shared.write) (sym is) ∙ a;
        role = λ back. let bad : Filtered ≡ Backing = sym role ∙ back in cc bad;
      }
      by_kind Protocol r w u p h role is = absurd (false≢true (sym p))
      by_kind Raw r w u p h role is = absurd (false≢true (sym p))
      by_kind Qcow2 r w u p h role is = absurd (false≢true (sym p))
      by_kind k r w u p h role is = absurd (false≢true h)

  -- ---- what is closed to writers: nobody else reads it, or an edge that reads as an overlay, or that of a filter over what is closed

  abbrev IsClosed : ℕ → ℕ → Type 0
  IsClosed zero d = ⊥
  IsClosed (suc k) d = ((job : ℕ) × IsUnread kinds edges d job)
      ⊎ ((e : Edge) × Contains edges e × (e.child ≡ d) × (e.shared.write ≡ false)
      × ((e.role ≡ Backing) ⊎ ((p : ℕ) × (e.parent ≡ Node p) × (is_plain (kind_at kinds p).kind ≡ false) × IsClosed k p)))

  abbrev IsWritten : ℕ → ℕ → Type 0
  IsWritten zero d = ⊥
  IsWritten (suc k) d = (e : Edge) × Contains edges e × (e.child ≡ d) × (e.perm.write ≡ true) × (e.role ≢ Backing)
      × (((g : ℕ) × (e.parent ≡ Guest g)) ⊎ ((p : ℕ) × (e.parent ≡ Node p) × IsWritten k p))

  not_both : (k m d : ℕ) → IsClosed k d → IsWritten m d → ⊥
  not_both zero m d closed written = absurd closed
  not_both (suc k) zero d closed written = absurd written
  not_both (suc k) (suc m) d (inl held) (w, at, to, asks, role, from) =
      false≢true (sym (unread_by kinds edges stand d held.0 held.1 w at to (no_job from)).calm.writes ∙ asks)
    where
      no_job : (((g : ℕ) × (w.parent ≡ Guest g)) ⊎ ((p : ℕ) × (w.parent ≡ Node p) × IsWritten m p)) → w.parent ≢ Job held.0
      no_job (inl g) is = let bad : Guest g.0 ≡ Job held.0 = sym g.1 ∙ is in cc bad
      no_job (inr p) is = let bad : Node p.0 ≡ Job held.0 = sym p.1 ∙ is in cc bad
  not_both (suc k) (suc m) d (inr (e, at_e, to_e, shut, by)) (w, at, to, asks, role, from) =
      by_one (one_or_agree edges (agree-pairs edges stand.rule) w e at at_e) (λ p. not_both k m p)
    where
      Below : Type 0
      Below = (p : ℕ) → IsClosed k p → IsWritten m p → ⊥

      one : w ≡ e → ((e.role ≡ Backing) ⊎ ((p : ℕ) × (e.parent ≡ Node p) × (is_plain (kind_at kinds p).kind ≡ false) × IsClosed k p))
          → (((g : ℕ) × (w.parent ≡ Guest g)) ⊎ ((p : ℕ) × (w.parent ≡ Node p) × IsWritten m p)) → Below → ⊥
      one same (inl back) from below = role (ap (λ (x : Edge). x.role) same ∙ back)
      one same (inr c) (inl g) below = let bad : Guest g.0 ≡ Node c.0 = sym g.1 ∙ ap (λ (x : Edge). x.parent) same ∙ c.1 in cc bad
      one same (inr c) (inr p) below =
          let both : p.0 ≡ c.0 = let eq : Node p.0 ≡ Node c.0 = sym p.1 ∙ ap (λ (x : Edge). x.parent) same ∙ c.1 in cc eq in
          below c.0 c.3 (subst (IsWritten m) both p.2)

      by_one : (w ≡ e) ⊎ Agree w e → Below → ⊥
      by_one (inl same) below = one same by from below
      by_one (inr agree) below = false≢true (sym shut ∙ (agree (to ∙ sym to_e)).0 Write asks)

  -- ---- down a path

  -- it is read, or it is the top of a commit or between that and its base
  abbrev IsWatched : ℕ → Type 0
  IsWatched n = IsRead edges n ⊎ (through n ≡ true)

  read_by : (e : Edge) → Contains edges e → e.perm.read ≡ true → IsRead edges e.child
  read_by e there asks = (under_uses e.child edges e there refl).asks Read asks

  backing_edge : (e : Edge) (n : ℕ) → Contains edges e → e.parent ≡ Node n → e.role ≡ Backing → IsRead edges n
      → (e.perm.read ≡ true) × (e.shared.write ≡ false)
  backing_edge e n there from role read =
      let k : NodeKind = kind_at kinds n in
      let may : has_role k.kind Backing ≡ true = subst (λ (r : Role). has_role k.kind r ≡ true) role (subst (IsOf kinds e) from (stand.table e there)) in
      let is : with_uses e (derived_uses k.kind Backing k.writes (uses_into edges n)) ≡ e =
      subst (λ (r : Role). with_uses e (derived_uses k.kind r k.writes (uses_into edges n)) ≡ e) role (ap (ruled_from kinds (uses_into edges) e) (sym from) ∙ stand.refreshed e there) in
      by_kind k.kind k.writes (uses_into edges n) may is read
    where
      by_kind : (k : Kind) (w : Bool) (u : Uses) → has_role k Backing ≡ true → with_uses e (derived_uses k Backing w u) ≡ e → u.perm.read ≡ true
          → (e.perm.read ≡ true) × (e.shared.write ≡ false)
      by_kind Qcow2 w u h is read =
          (ap (λ (x : Edge). x.perm.read) (sym is) ∙ read, ap (λ (x : Edge). x.shared.write) (sym is) ∙ ap not read)
      by_kind Protocol w u h is read = absurd (false≢true h)
      by_kind Raw w u h is read = absurd (false≢true h)
      by_kind CopyOnRead w u h is read = absurd (false≢true h)
      by_kind BeforeWrite w u h is read = absurd (false≢true h)
      by_kind Mirror w u h is read = absurd (false≢true h)
      by_kind Commit w u h is read = absurd (false≢true h)

  -- to a backing node: it is watched too, and closed
  to_backing : (e : Edge) (n : ℕ) → Contains edges e → e.parent ≡ Node n → e.role ≡ Backing → IsWatched n → IsWatched e.child × IsClosed 1 e.child
  to_backing e n there from role (inl read) =
      let uses = backing_edge e n there from role read in
      (inl (read_by e there uses.0), inr (e, there, refl, uses.1, inl role))
  to_backing e n there from role (inr is) =
      let one : is_to_backing through e ≡ true = rw (ap (λ r. same_role r Backing) role ∙ same_role-refl Backing) (ap (is_one through) from ∙ is) in
      let next = commits.leads e there one in
      (elim next.1 [ inl more ↦ inr more | inr read ↦ inl read ], inl next.0)

  -- what is shut at a filter is shut below it
  shut_filter : (k n : ℕ) → is_plain (kind_at kinds n).kind ≡ false → IsClosed k n → (uses_into edges n).shared.write ≡ false
  shut_filter zero n filter closed = absurd closed
  shut_filter (suc k) n filter (inl held) =
      let apart = stand.filters.apart held.1.edge held.1.there (ap (λ c. is_plain (kind_at kinds c).kind) held.1.child ∙ filter) in
      absurd (false≢true (ap (is_open_from kinds held.1.edge.role) (sym held.1.own) ∙ apart))
  shut_filter (suc k) n filter (inr (e, there, to, shut, by)) =
      not-true (uses_into edges n).shared.write (λ is. false≢true (sym shut ∙ (under_uses n edges e there to).shares Write is))

  to_filtered : (e : Edge) (n : ℕ) → Contains edges e → e.parent ≡ Node n → is_plain (kind_at kinds n).kind ≡ false → IsWatched n → IsWatched e.child
  to_filtered e n there from filter (inr is) = absurd (false≢true (sym filter ∙ commits.plain n is))
  to_filtered e n there from filter (inl read) = by_hiding (is_hidden kinds e) refl
    where
      by_hiding : (b : Bool) → is_hidden kinds e ≡ b → IsWatched e.child
      by_hiding true is = inr (commits.tops e there is)
      by_hiding false is =
          inl (read_by e there ((filter_uses e n there from filter).reads (ap (is_hidden_from kinds) (sym from) ∙ is) read))

  closed_filtered : (k : ℕ) (e : Edge) (n : ℕ) → Contains edges e → e.parent ≡ Node n → is_plain (kind_at kinds n).kind ≡ false → IsClosed k n → IsClosed (suc k) e.child
  closed_filtered k e n there from filter closed =
      inr (e, there, refl, (filter_uses e n there from filter).shuts (shut_filter k n filter closed), inr (n, from, filter, closed))

  closed_down : (path : List Edge) (from to k : ℕ) → IsWatched from → IsClosed k from → ReadsAlong kinds edges from path to → (m : ℕ) × IsClosed m to
  closed_down [] from to k watched closed is = (k, subst (IsClosed k) is closed)
  closed_down (e ∷ path) from to k watched closed (there, (parent, inl role), rest) =
      let next = to_backing e from there parent role watched in
      closed_down path e.child to 1 next.0 next.1 rest
  closed_down (e ∷ path) from to k watched closed (there, (parent, inr filter), rest) =
      closed_down path e.child to (suc k) (to_filtered e from there parent filter watched) (closed_filtered k e from there parent filter closed) rest

  closed_below : (path : List Edge) (from to : ℕ) → IsWatched from → ReadsAlong kinds edges from path to → GoesBelow path → (m : ℕ) × IsClosed m to
  closed_below [] from to watched is below = absurd below
  closed_below (e ∷ path) from to watched (there, (parent, inl role), rest) below =
      let next = to_backing e from there parent role watched in
      closed_down path e.child to 1 next.0 next.1 rest
  closed_below (e ∷ path) from to watched (there, (parent, inr filter), rest) (inl role) =
      absurd ((filter_uses e from there parent filter).role role)
  closed_below (e ∷ path) from to watched (there, (parent, inr filter), rest) (inr below) =
      closed_below path e.child to (to_filtered e from there parent filter watched) rest below

  written_down : (path : List Edge) (from to k : ℕ) → IsWritten k from → FiltersAlong kinds edges from path to → (m : ℕ) × IsWritten m to
  written_down [] from to k written is = (k, subst (IsWritten k) is written)
  written_down (e ∷ path) from to zero written (there, by, rest) = absurd written
  written_down (e ∷ path) from to (suc k) written (there, (parent, filter), rest) =
      let uses = filter_uses e from there parent filter in
      let above = under_uses from edges written.0 written.1 written.2 in
      let asks : (uses_into edges from).perm.write ≡ true = above.asks Write written.3 in
      written_down path e.child to (suc (suc k)) (e, there, refl, uses.writes asks, uses.role, inr (from, parent, written)) rest

  -- No guest that may write reaches by filters what another one reads as a backing node.
  pub none_below : (writer reader : Edge) (g h d : ℕ) (along down : List Edge) → Contains edges writer → writer.parent ≡ Guest g → writer.role ≢ Backing
      → writer.perm.write ≡ true → FiltersAlong kinds edges writer.child along d → Contains edges reader → reader.perm.read ≡ true
      → ReadsAlong kinds edges reader.child down d → GoesBelow down → ⊥
  none_below writer reader g h d along down at_w from role asks to_d at_r reads to_d' below =
      let written = written_down along writer.child d 1 (writer, at_w, refl, asks, role, inl (g, from)) to_d in
      let closed = closed_below down reader.child d (inl (read_by reader at_r reads)) to_d' below in
      not_both closed.0 written.0 d closed.1 written.1

  -- ---- what jobs write

  pub watched_down : (path : List Edge) (from to : ℕ) → IsWatched from → ReadsAlong kinds edges from path to → IsWatched to
  watched_down [] from to watched is = subst IsWatched is watched
  watched_down (e ∷ path) from to watched (there, (parent, inl role), rest) =
      watched_down path e.child to (to_backing e from there parent role watched).0 rest
  watched_down (e ∷ path) from to watched (there, (parent, inr filter), rest) =
      watched_down path e.child to (to_filtered e from there parent filter watched) rest

  -- A node that a job lets nobody read is read through the nodes of this job alone, which is a commit: from its top down.
  pub only_through : (e : Edge) (n job : ℕ) → Contains edges e → ReadsBy kinds e n → IsWatched n → IsUnread kinds edges e.child job
      → (through n ≡ true) × (e.role ≡ Backing)
  only_through e n job there (parent, by) watched held = go by watched
    where
      no_job : e.parent ≢ Job job
      no_job is = let bad : Node n ≡ Job job = sym parent ∙ is in cc bad

      unread : e.perm.read ≡ false
      unread = (unread_by kinds edges stand e.child job held e there refl no_job).unread

      go : (e.role ≡ Backing) ⊎ (is_plain (kind_at kinds n).kind ≡ false) → IsWatched n → (through n ≡ true) × (e.role ≡ Backing)
      go (inl role) (inl read) = absurd (false≢true (sym unread ∙ (backing_edge e n there parent role read).0))
      go (inl role) (inr is) = (is, role)
      go (inr filter) (inr is) = absurd (false≢true (sym filter ∙ commits.plain n is))
      go (inr filter) (inl read) =
          let open_ : is_hiding (kind_at kinds n).kind ≡ false = sym (ap (is_hidden_from kinds) parent) ∙ held.seen e there refl in
          absurd (false≢true (sym unread ∙ (filter_uses e n there parent filter).reads open_ read))

  -- and that job holds the node that leads to it
  pub same_job : (e : Edge) (n job : ℕ) → (at : Contains edges e) → (is : is_to_backing through e ≡ true) → IsUnread kinds edges e.child job
      → Job (commits.leads e at is).0.0 ≡ Job job
  same_job e n job at is held =
      let other = (commits.leads e at is).0 in
      sym other.1.own ∙ held.alone other.1.edge other.1.there other.1.child (ap is_job other.1.own)

  -- so of what a guest reads, along whatever path
  pub reads_through : (reader e : Edge) (path : List Edge) (n job : ℕ) → Contains edges reader → reader.perm.read ≡ true
      → ReadsAlong kinds edges reader.child path n → Contains edges e → ReadsBy kinds e n → IsUnread kinds edges e.child job
      → (through n ≡ true) × (e.role ≡ Backing)
  reads_through reader e path n job at_r reads along there by held =
      only_through e n job there by (watched_down path reader.child n (inl (read_by reader at_r reads)) along) held

  pub same_number : (e : Edge) (job : ℕ) → (at : Contains edges e) → (is : is_to_backing through e ≡ true) → IsUnread kinds edges e.child job
      → (commits.leads e at is).0.0 ≡ job
  same_number e job at is held = let same : Job (commits.leads e at is).0.0 ≡ Job job = same_job e 0 job at is held in cc same
