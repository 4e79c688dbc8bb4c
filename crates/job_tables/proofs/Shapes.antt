-- Each kind of job stands so that its end leaves edges that stand.
use Rattle.std.proofs.Common.{◌≡◌, ◌≢◌, ℕ, List, [], ◌∷◌, ◌++◌, map, refl, sym, ◌∙◌, ap, subst, inl, inr, Bool, true, false, cond, Some}
use Rattle.std.specs.Prelude.{drop}
use Rattle.std.specs.List.{Contains}
use Rattle.std.proofs.lemmas.Bool.{false≢true, eq-eqb}
use Rattle.blk_graph.specs.declared.edge.Edge.{Edge}
use Rattle.blk_graph.specs.declared.edge.Parent.{Parent}
use Rattle.blk_graph.specs.declared.edge.Parent.TheVariants.{Node, Guest, Job}
use Rattle.blk_graph.specs.declared.edge.Perm.TheVariants.{Read}
use Rattle.blk_graph.specs.declared.edge.Role.TheVariants.{Backing, Filtered, Between}
use Rattle.blk_graph.specs.declared.kind.Kind.TheVariants as driver
use Rattle.blk_graph.specs.declared.kind.JobUse.TheVariants.{CopyTarget, CommitTop, CommitBetween, CommitBase, StreamTop, StreamBelow}
use Rattle.blk_graph.specs.declared.kind.NodeKind.{NodeKind}
use Rattle.blk_graph.specs.Edges.{same_role}
use Rattle.blk_graph.specs.Paths.{Reaches}
use Rattle.blk_graph.specs.Permissions.{job_edge, job_uses}
use Rattle.blk_graph.specs.Refreshed.{kind_at, uses_into}
use Rattle.blk_graph.proofs.CycleLemmas.{and-left, and-right}
use Rattle.blk_graph.proofs.Members.{Contains-nil, Contains-here, Contains-there, Contains-cases, map-Contains}
use Rattle.blk_graph.proofs.PathLemmas.{Reaches-joined}
use Rattle.blk_graph.proofs.RoleLemmas.{same_role-true}
use Rattle.blk_graph.proofs.TakeOutLemmas.{under_uses}
use Rattle.qmp_codec.specs.declared.event.JobKind.TheVariants.{Stream, Commit, Mirror}
use Rattle.qmp_rules.specs.declared.rows.JobRecord.{JobRecord}
use Rattle.qmp_rules.specs.Asks.{is_base}
use Rattle.qmp_rules.specs.Chains.{is_listed}
use Rattle.qmp_rules.specs.Edits.{under_top}
use Rattle.qmp_rules.specs.Table.{RunTable, child, kinds_of}
use Rattle.flat_machine.specs.Wiring.{TableStands}
use Rattle.job_edges.specs.Chains.{is_plain, is_one, is_to_backing, IsBelow}
use Rattle.job_edges.specs.Copies.{Copied, AreApart}
use Rattle.job_edges.specs.Held.{IsUnread, TargetStands, HasBacking, CommitStands, StreamStands, is_job_filter}
use Rattle.job_tables.specs.Rows.{commit_edge, edges_of_job, AreLinked, mirror_to, mirrors}
use Rattle.job_tables.specs.Jobs.{CopyStands, IsOverFilter, CommitJobStands, ReadsTo, JobStands, JobsStand, EdgesAreDrawn}
use Rattle.job_tables.proofs.RowEdges.{filter_plain, listed-Contains, Contains-listed, in_left, in_right, in_either, copy_holds}
use Rattle.job_tables.proofs.JobsRest.{plain_kind, child_is, leads_to, backing_of, source_plain, unread}

apart_own : (edges : List Edge) (copies : List Copied) → AreApart edges copies → (m : Copied) → Contains copies m → Reaches edges m.target m.source → ⊥
apart_own edges [] all m there way = Contains-nil m there
apart_own edges (x ∷ later) all m there way = elim (Contains-cases x later m there) [
  | inl here ↦ (all.0 x (Contains-here x later)).0 (subst (λ (c : Copied). Reaches edges c.target c.source) here way)
  | inr more ↦ apart_own edges later all.1 m more way
]

pub in_mirrors : (rows : List JobRecord) (row : JobRecord) (target : ℕ) → Contains rows row → row.kind ≡ Mirror → row.target ≡ Some target
    → Contains (mirrors rows) (record { source = row.source; target = target })
in_mirrors [] row target there kind is = absurd (Contains-nil row there)
in_mirrors (x ∷ rows) row target there kind is = elim (Contains-cases x rows row there) [
  | inl here ↦ in_left (mirror_to x x.kind x.target) (mirrors rows) (record { source = row.source; target = target })
      (subst (λ (y : JobRecord). Contains (mirror_to y y.kind y.target) (record { source = row.source; target = target })) here own)
  | inr more ↦ in_right (mirror_to x x.kind x.target) (mirrors rows) (record { source = row.source; target = target }) (in_mirrors rows row target more kind is)
]
  where
    own : Contains (mirror_to row row.kind row.target) (record { source = row.source; target = target })
    own = rw (kind, is) (Contains-here (record { source = row.source; target = target }) [])

module _ (t : RunTable) (h : TableStands t) (j : JobsStand t) (d : EdgesAreDrawn t) (row : JobRecord) (here : Contains t.jobs row) where
  abbrev kinds : List NodeKind
  kinds = kinds_of t.nodes

  stands : JobStands t row
  stands = j.each row here

  linked_reaches : (node : ℕ) (ids : List ℕ) → AreLinked t node ids → (n : ℕ) → Contains ids n → Reaches t.edges node n
  linked_reaches node [] l n there = absurd (Contains-nil n there)
  linked_reaches node (below ∷ ids) l n there =
      let first : Reaches t.edges node below = leads_to t h j d node below Backing l.0 in
      elim (Contains-cases below ids n there) [
        | inl same ↦ subst (Reaches t.edges node) (sym same) first
        | inr more ↦ Reaches-joined t.edges node below n first (linked_reaches below ids l.1 n more)
      ]

  -- ---- mirrors

  module _ (kind : row.kind ≡ Mirror) (c : CopyStands t row driver.Mirror) where
    abbrev copy_edge : Edge
    copy_edge = job_edge row.slot CopyTarget c.target

    own_copy : Contains (edges_of_job row) copy_edge
    own_copy = rw (kind, c.is_target) (Contains-here copy_edge [])

    pub mirror_target : TargetStands kinds t.edges c.target row.source row.slot
    mirror_target = record {
      held = unread t h j d row here c.target (copy_holds t row driver.Mirror c) c.other copy_edge own_copy refl refl;
      asks = (refl, refl);
      shut = refl;
      plain = plain_kind t h j d c.target (stands.plain c.target (in_left row.held row.read c.target (copy_holds t row driver.Mirror c)));
      apart = apart_own t.edges (mirrors t.jobs) j.copies (record { source = row.source; target = c.target })
          (in_mirrors t.jobs row c.target here kind c.is_target);
    }

  -- ---- commits

  module _ (kind : row.kind ≡ Commit) (c : CommitJobStands t row) where
    abbrev below : List ℕ
    below = c.between ++ c.base ∷ []

    abbrev pub through : ℕ → Bool
    through n = is_listed n (row.source ∷ c.between)

    pub is_held : (n : ℕ) → Contains below n → Contains row.held n
    is_held n there = subst (λ ids. Contains ids n) (sym c.held) (Contains-there row.source below n there)

    pub base_in : Contains below c.base
    base_in = in_right c.between (c.base ∷ []) c.base (Contains-here c.base [])

    pub top_down : (n : ℕ) → Contains below n → Reaches t.edges row.source n
    top_down n there = linked_reaches row.source below c.linked n there

    pub not_top : (n : ℕ) → Contains below n → n ≢ row.source
    not_top n there same = h.acyclic row.source (subst (Reaches t.edges row.source) same (top_down n there))

    pub own_commit : (n : ℕ) → Contains below n → Contains (edges_of_job row) (commit_edge row n)
    own_commit n there =
        let under : under_top row ≡ below = ap (drop 1) c.held in
        let mapped : Contains (map (commit_edge row) (under_top row)) (commit_edge row n)
        = map-Contains (commit_edge row) (under_top row) n (subst (λ ids. Contains ids n) (sym under) there) in
        rw kind (Contains-there (job_edge row.slot CommitTop row.source) (map (commit_edge row) (under_top row)) (commit_edge row n) mapped)

    at_base : is_base row.target c.base ≡ true
    at_base = ap (λ o. is_base o c.base) c.is_base ∙ eq-eqb c.base c.base refl

    pub shut_read : (n : ℕ) → (commit_edge row n).shared.read ≡ false
    shut_read n = by_test (is_base row.target n)
      where
        by_test : (b : Bool) → (job_uses (cond b CommitBase CommitBetween)).shared.read ≡ false
        by_test true = refl
        by_test false = refl

    held_plain : (n : ℕ) → Contains below n → is_plain (kind_at kinds n).kind ≡ true
    held_plain n there = plain_kind t h j d n (stands.plain n (in_left row.held row.read n (is_held n there)))

    below_held : (n : ℕ) → Contains below n → IsBelow through c.base n
    below_held n there = elim (in_either c.between (c.base ∷ []) n there) [
      | inl left ↦ inl (Contains-listed n (row.source ∷ c.between) (Contains-there row.source c.between n left))
      | inr right ↦ elim (Contains-cases c.base [] n right) [
        | inl same ↦ inr same
        | inr more ↦ absurd (Contains-nil n more)
      ]
    ]

    held_below : (n : ℕ) → IsBelow through c.base n → n ≢ row.source → Contains below n
    held_below n (inl is) other = elim (Contains-cases row.source c.between n (listed-Contains n (row.source ∷ c.between) is)) [
      | inl same ↦ absurd (other same)
      | inr more ↦ in_left c.between (c.base ∷ []) n more
    ]
    held_below n (inr same) other = subst (Contains below) (sym same) base_in

    pub next : (node base : ℕ) (between : List ℕ) → AreLinked t node (between ++ base ∷ []) → (n : ℕ) → Contains (node ∷ between) n
        → (m : ℕ) × (child t n Backing ≡ Some m) × Contains (between ++ base ∷ []) m
    next node base [] l n there = elim (Contains-cases node [] n there) [
      | inl same ↦ (base, subst (λ k. child t k Backing ≡ Some base) (sym same) l.0, Contains-here base [])
      | inr more ↦ absurd (Contains-nil n more)
    ]
    next node base (b ∷ between) l n there = elim (Contains-cases node (b ∷ between) n there) [
      | inl same ↦ (b, subst (λ k. child t k Backing ≡ Some b) (sym same) l.0, Contains-here b (between ++ base ∷ []))
      | inr more ↦ let r = next b base between l.1 n more in (r.0, r.1, Contains-there b (between ++ base ∷ []) r.0 r.2)
    ]

    leads_down : (e : Edge) → Contains t.edges e → is_to_backing through e ≡ true → Contains below e.child
    leads_down e there is =
        let role : e.role ≡ Backing = same_role-true e.role Backing (and-left (same_role e.role Backing) (is_one through e.parent) is) in
        by_parent e.parent refl role (and-right (same_role e.role Backing) (is_one through e.parent) is)
      where
        by_parent : (p : Parent) → e.parent ≡ p → e.role ≡ Backing → is_one through p ≡ true → Contains below e.child
        by_parent (Node n) from role one =
            let to = next row.source c.base c.between c.linked n (listed-Contains n (row.source ∷ c.between) one) in
            subst (Contains below) (sym (child_is t h j d e n to.0 Backing there from role (λ bad. let no : Backing ≡ Between = bad in cc no) to.1)) to.2
        by_parent (Guest n) from role one = absurd (false≢true one)
        by_parent (Job n) from role one = absurd (false≢true one)

    abbrev pub below_unread : (n : ℕ) → Contains below n → IsUnread kinds t.edges n row.slot
    below_unread n there = unread t h j d row here n (is_held n there) (not_top n there) (commit_edge row n) (own_commit n there) refl (shut_read n)

    pub base_is_read : (uses_into t.edges c.base).perm.read ≡ true
    base_is_read =
        (under_uses c.base t.edges (commit_edge row c.base) (stands.edges (commit_edge row c.base) (own_commit c.base base_in)) refl).asks Read
        (ap (λ b. (job_uses (cond b CommitBase CommitBetween)).perm.read) at_base)

    pub to_base : (node base : ℕ) (between : List ℕ) → AreLinked t node (between ++ base ∷ []) → (n : ℕ) → Contains (node ∷ between) n → Reaches t.edges n base
    to_base node base [] l n there = elim (Contains-cases node [] n there) [
      | inl same ↦ subst (λ k. Reaches t.edges k base) (sym same) (leads_to t h j d node base Backing l.0)
      | inr more ↦ absurd (Contains-nil n more)
    ]
    to_base node base (b ∷ between) l n there = elim (Contains-cases node (b ∷ between) n there) [
      | inl same ↦ subst (λ k. Reaches t.edges k base) (sym same)
          (Reaches-joined t.edges node b base (leads_to t h j d node b Backing l.0) (to_base b base between l.1 b (Contains-here b between)))
      | inr more ↦ to_base b base between l.1 n more
    ]

    pub commit_stands : (filter : ℕ) → is_job_filter (kind_at kinds filter).kind ≡ true → CommitStands kinds t.edges through row.source c.base filter row.slot
    commit_stands filter of_job = record {
      at_top = Contains-listed row.source (row.source ∷ c.between) (Contains-here row.source c.between);
      apart = not_top c.base base_in;
      plain = λ n is. elim (Contains-cases row.source c.between n (listed-Contains n (row.source ∷ c.between) is)) [
        | inl same ↦ subst (λ k. is_plain (kind_at kinds k).kind ≡ true) (sym same) (plain_kind t h j d row.source (source_plain t h j d row here))
        | inr more ↦ held_plain n (in_left c.between (c.base ∷ []) n more)
      ];
      read = record { plain = held_plain c.base base_in; read = base_is_read };
      leads = λ e there is. below_held e.child (leads_down e there is);
      away = λ e there is. (
        not_top e.child (leads_down e there is),
        λ same. false≢true
            (sym (filter_plain (kind_at kinds filter).kind of_job) ∙ ap (λ k. is_plain (kind_at kinds k).kind) (sym same) ∙ held_plain e.child (leads_down e there is)),
      );
      unread = λ n is other. below_unread n (held_below n is other);
    }

    pub commit_target : TargetStands kinds t.edges c.base row.source row.slot
    commit_target = record {
      held = below_unread c.base base_in;
      asks = (
        ap (λ b. (job_uses (cond b CommitBase CommitBetween)).perm.read) at_base,
        ap (λ b. (job_uses (cond b CommitBase CommitBetween)).perm.write) at_base,
      );
      shut = ap (λ b. (job_uses (cond b CommitBase CommitBetween)).shared.write) at_base;
      plain = held_plain c.base base_in;
      apart = λ way. h.acyclic row.source (Reaches-joined t.edges row.source c.base row.source (top_down c.base base_in) way);
    }

    -- the overlay over the top leads through the filter to the base
    pub overlay_stands : (overlay : ℕ) (ids : List ℕ) → row.read ≡ overlay ∷ ids → HasBacking t.edges overlay × Reaches t.edges overlay c.base
    overlay_stands overlay ids read =
        let over : child t overlay Backing ≡ Some c.filter.filter = (subst (λ xs. IsOverFilter t xs row.filter) read c.overlay).0 ∙ c.filter.is_filter in (
          backing_of t h j d overlay c.filter.filter over,
          Reaches-joined t.edges overlay c.filter.filter c.base (leads_to t h j d overlay c.filter.filter Backing over)
              (Reaches-joined t.edges c.filter.filter row.source c.base (leads_to t h j d c.filter.filter row.source Filtered c.filter.over) (top_down c.base base_in)),
        )

  -- ---- streams

  module _ (kind : row.kind ≡ Stream) (base : ℕ) (r : ReadsTo t row base) where
    abbrev read_ids : List ℕ
    read_ids = r.between ++ base ∷ []

    base_read : Contains row.read base
    base_read = subst (λ ids. Contains ids base) (sym r.read) (in_right r.between (base ∷ []) base (Contains-here base []))

    pub stream_way : Reaches t.edges row.source base
    stream_way = linked_reaches row.source read_ids r.linked base (in_right r.between (base ∷ []) base (Contains-here base []))

    own_read : Contains (edges_of_job row) (job_edge row.slot StreamBelow base)
    own_read =
        rw kind (Contains-there (job_edge row.slot StreamTop row.source) (map (job_edge row.slot StreamBelow) row.read) (job_edge row.slot StreamBelow base)
        (map-Contains (job_edge row.slot StreamBelow) row.read base base_read))

    pub stream_stands : StreamStands kinds t.edges row.source base row.slot
    stream_stands = record {
      apart = λ same. h.acyclic row.source (subst (Reaches t.edges row.source) same stream_way);
      plain = (plain_kind t h j d row.source (source_plain t h j d row here), plain_kind t h j d base (stands.plain base (in_right row.held row.read base base_read)));
      edge = job_edge row.slot StreamBelow base;
      there = stands.edges (job_edge row.slot StreamBelow base) own_read;
      own = refl;
      child = refl;
      reads = refl;
      shut = refl;
    }

    pub stream_backing : HasBacking t.edges row.source
    stream_backing = by_first r.between r.linked
      where
        by_first : (between : List ℕ) → AreLinked t row.source (between ++ base ∷ []) → HasBacking t.edges row.source
        by_first [] l = backing_of t h j d row.source base l.0
        by_first (b ∷ between) l = backing_of t h j d row.source b l.0
