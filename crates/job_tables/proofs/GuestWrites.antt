-- What jobs read and copy is neither written by a guest nor over what one writes.
use Rattle.std.proofs.Common.{◌≡◌, ◌≢◌, ◌⊎◌, ℕ, zero, suc, ◌<◌, List, [], ◌∷◌, ◌++◌, map, replicate, refl, sym, ◌∙◌, ap, subst, inl, inr, Bool, true, false, cond, Option, Some, None, option_map}
use Rattle.std.specs.Prelude.{◌==◌, drop, IsSome}
use Rattle.std.specs.Option.{option_and_then}
use Rattle.std.specs.List.{Contains}
use Rattle.std.proofs.lemmas.Bool.{false≢true, eqb-true, eq-eqb}
use Rattle.blk_graph.specs.declared.edge.Edge.{Edge}
use Rattle.blk_graph.specs.declared.edge.Parent.TheVariants.{Node, Guest, Job}
use Rattle.blk_graph.specs.declared.edge.Perm.TheVariants.{Write}
use Rattle.blk_graph.specs.declared.edge.Role.{Role}
use Rattle.blk_graph.specs.declared.edge.Role.TheVariants.{Drive, File, Backing, Filtered}
use Rattle.blk_graph.specs.declared.edge.Uses.{Uses}
use Rattle.blk_graph.specs.declared.kind.Kind.{Kind}
use Rattle.blk_graph.specs.declared.kind.Kind.TheVariants as driver
use Rattle.blk_graph.specs.declared.kind.JobUse.TheVariants.{CopyTarget, CommitBase, CommitBetween, StreamTop, StreamBelow}
use Rattle.blk_graph.specs.declared.kind.NodeKind.{NodeKind}
use Rattle.blk_graph.specs.Edges.{same_parent, is_job, HasNumber, ArePermsWithin}
use Rattle.blk_graph.specs.Permissions.{has_role, derived_uses, job_edge, job_uses}
use Rattle.blk_graph.specs.Refreshed.{no_kind, IsByTable, IsRefreshed, kind_at, IsOf, uses_into, with_uses, ruled_from}
use Rattle.blk_graph.proofs.EaseLemmas.{agree-pairs}
use Rattle.blk_graph.proofs.InverseLemmas.{same_parent-refl, same_parent-false}
use Rattle.blk_graph.proofs.Members.{Contains-nil, Contains-here, Contains-there, Contains-cases, find-Some, Contains-map, map-Contains}
use Rattle.blk_graph.proofs.TakeOutLemmas.{agree_apart, under_uses}
use Rattle.qmp_codec.specs.declared.event.JobKind.{JobKind}
use Rattle.qmp_codec.specs.declared.event.JobKind.TheVariants.{Stream, Commit, Mirror, Backup}
use Rattle.qmp_rules.specs.declared.rows.NodeRecord.{NodeRecord}
use Rattle.qmp_rules.specs.declared.rows.JobRecord.{JobRecord}
use Rattle.qmp_rules.specs.Asks.{is_base}
use Rattle.qmp_rules.specs.Chains.{filter_role, filtered, disk_from, disk_node, chain_from, chain, is_over, unsettled_over, written_under}
use Rattle.qmp_rules.specs.Table.{RunTable, node_by_id, child, kind_of_record, kinds_of}
use Rattle.blk_history.specs.Fold.{With}
use Rattle.flat_machine.specs.Suiting.{IsPlainNode, IsThere}
use Rattle.flat_machine.specs.Wiring.{LeadsToFile, IsDiskOf, TableStands}
use Rattle.flat_machine.proofs.Kept.{own_disk}
use Rattle.flat_machine.proofs.RowKinds.{kinds-mapped}
use Rattle.flat_machine.proofs.WritingKept.{role_edge}
use Rattle.job_edges.specs.Chains.{is_plain}
use Rattle.job_edges.specs.Held.{is_copiers}
use Rattle.job_edges.specs.Seen.{ReadsAlong, GoesBelow, FiltersAlong}
use Rattle.job_edges.proofs.Unread.{unread_by}
use Rattle.job_tables.specs.Accepted.{JobsAreDrawn}
use Rattle.job_tables.specs.Rows.{commit_edge, edges_by, nodes_of_job, AreLinked, HasFilterOf}
use Rattle.job_tables.specs.Jobs.{CopyStands, CommitJobStands, StreamJobStands, StandsByKind, JobsStand, EdgesAreDrawn}
use Rattle.job_tables.proofs.Failed.{written_jobs, written_run}
use Rattle.job_tables.proofs.NodeKinds.{kind_found}
use Rattle.job_tables.proofs.RowEdges.{listed-Contains, in_left, in_right}
use Rattle.job_tables.proofs.JobsRest.{edges_stand, filter_at}
use Rattle.job_tables.proofs.Shapes.{is_held, base_in, own_commit, below_unread}
use Rattle.job_tables.proofs.Guests.{guests_apart}
use Rattle.job_tables.proofs.Runs.{target_of, source_has}

-- ---- kinds

no_plain : (k : Kind) (role : Role) → filter_role k ≡ Some role → is_plain k ≡ false
no_plain driver.Protocol role is = absurd (let bad : None ≡ Some role = is in cc bad)
no_plain driver.Raw role is = absurd (let bad : None ≡ Some role = is in cc bad)
no_plain driver.Qcow2 role is = absurd (let bad : None ≡ Some role = is in cc bad)
no_plain driver.CopyOnRead role is = refl
no_plain driver.BeforeWrite role is = refl
no_plain driver.Mirror role is = refl
no_plain driver.Commit role is = refl

-- a filter's edge asks to write where its parents do
writes_by : (k : Kind) (r : Role) (w : Bool) (u : Uses) (e : Edge) → is_plain k ≡ false → has_role k r ≡ true → with_uses e (derived_uses k r w u) ≡ e
    → u.perm.write ≡ true → e.perm.write ≡ true
writes_by driver.CopyOnRead File w u e p may is a = ap (λ (x : Edge). x.perm.write) (sym is) ∙ a
writes_by driver.BeforeWrite Filtered w u e p may is a = ap (λ (x : Edge). x.perm.write) (sym is) ∙ a
writes_by driver.Mirror Filtered w u e p may is a = ap (λ (x : Edge). x.perm.write) (sym is) ∙ a
writes_by driver.Commit Filtered w u e p may is a = ap (λ (x : Edge). x.perm.write) (sym is) ∙ a
writes_by driver.Protocol r w u e p may is a = absurd (false≢true (sym p))
writes_by driver.Raw r w u e p may is a = absurd (false≢true (sym p))
writes_by driver.Qcow2 r w u e p may is a = absurd (false≢true (sym p))
writes_by k r w u e p may is a = absurd (false≢true may)

-- that of a backup or mirror reads
reads_by : (k : Kind) (w : Bool) (u : Uses) (e : Edge) → is_copiers k ≡ true → with_uses e (derived_uses k Filtered w u) ≡ e → e.perm.read ≡ true
reads_by driver.BeforeWrite w u e copies is = ap (λ (x : Edge). x.perm.read) (sym is)
reads_by driver.Mirror w u e copies is = ap (λ (x : Edge). x.perm.read) (sym is)
reads_by k w u e copies is = absurd (false≢true copies)

goes_right : (p q : List Edge) → GoesBelow q → GoesBelow (p ++ q)
goes_right [] q g = g
goes_right (e ∷ p) q g = inr (goes_right p q g)

module _ (t : RunTable) (h : TableStands t) (j : JobsStand t) (d : EdgesAreDrawn t) where
  abbrev kinds : List NodeKind
  kinds = kinds_of t.nodes

  -- ---- down filters

  record FilterStep (n below : ℕ) : Type 0 where
    edge : Edge
    there : Contains t.edges edge
    from : edge.parent ≡ Node n
    to : edge.child ≡ below
    filter : is_plain (kind_at kinds n).kind ≡ false

  filter_step : (n below : ℕ) → filtered t n ≡ Some below → FilterStep n below
  filter_step n below = by_row (node_by_id t n) refl
    where
      by_role : (row : NodeRecord) → node_by_id t n ≡ Some row → (role : Option Role) → filter_role row.kind ≡ role → option_and_then (child t n) role ≡ Some below
          → FilterStep n below
      by_role row found None is under = absurd (let bad : None ≡ Some below = under in cc bad)
      by_role row found (Some role) is under =
          let x = role_edge (Node n) role t.edges below under in
          let small : n < 64 = subst HasNumber x.from (d.listed.each x.edge x.there).number in
          record {
            edge = x.edge;
            there = x.there;
            from = x.from;
            to = x.to;
            filter = ap (λ (k : NodeKind). is_plain k.kind) (kind_found t n row h.apart small found) ∙ no_plain row.kind role is;
          }

      by_row : (found : Option NodeRecord) → node_by_id t n ≡ found
          → option_and_then (child t n) (option_and_then (λ (row : NodeRecord). filter_role row.kind) found) ≡ Some below → FilterStep n below
      by_row None e under = absurd (let bad : None ≡ Some below = under in cc bad)
      by_row (Some row) e under = by_role row e (filter_role row.kind) refl under

  record FiltersDown (from to : ℕ) : Type 0 where
    along : List Edge
    is : FiltersAlong kinds t.edges from along to

  filters_from : (more n : ℕ) → FiltersDown n (disk_from more t n)
  filters_from zero n = record { along = []; is = refl }
  filters_from (suc more) n = by_child (filtered t n) refl (filters_from more)
    where
      by_child : (found : Option ℕ) → filtered t n ≡ found → ((m : ℕ) → FiltersDown m (disk_from more t m))
          → FiltersDown n (elim found as (λ _. ℕ) [ None ↦ n | Some below ↦ disk_from more t below ])
      by_child None e rest = record { along = []; is = refl }
      by_child (Some below) e rest =
          let x = filter_step n below e in
          let r = rest below in
          record {
            along = x.edge ∷ r.along;
            is = (x.there, (x.from, x.filter), subst (λ m. FiltersAlong kinds t.edges m r.along (disk_from more t below)) (sym x.to) r.is);
          }

  filters_down : (n : ℕ) → FiltersDown n (disk_node t n)
  unfolding disk_node
  filters_down n = filters_from 64 n

  -- ---- down backing edges

  reads_of : (from : ℕ) (along : List Edge) (to : ℕ) → FiltersAlong kinds t.edges from along to → ReadsAlong kinds t.edges from along to
  reads_of from [] to is = is
  reads_of from (e ∷ along) to is = (is.0, (is.1.0, inr is.1.1), reads_of e.child along to is.2)

  reads_then : (a b c : ℕ) (p q : List Edge) → ReadsAlong kinds t.edges a p b → ReadsAlong kinds t.edges b q c → ReadsAlong kinds t.edges a (p ++ q) c
  reads_then a b c [] q first rest = subst (λ n. ReadsAlong kinds t.edges n q c) (sym first) rest
  reads_then a b c (e ∷ p) q first rest = (first.0, first.1, reads_then e.child b c p q first.2 rest)

  record ReadDown (from to : ℕ) : Type 0 where
    down : List Edge
    is : ReadsAlong kinds t.edges from down to
    below : GoesBelow down

  backing_step : (a c : ℕ) → child t a Backing ≡ Some c → ReadDown a (disk_node t c)
  backing_step a c under =
      let x = role_edge (Node a) Backing t.edges c under in
      let f = filters_down c in
      record {
        down = x.edge ∷ f.along;
        is = (
          x.there,
          (x.from, inl x.role_is),
          subst (λ m. ReadsAlong kinds t.edges m f.along (disk_node t c)) (sym x.to) (reads_of c f.along (disk_node t c) f.is),
        );
        below = inl x.role_is;
      }

  chain_head : (more n : ℕ) → chain_from more t n ≡ n ∷ drop 1 (chain_from more t n)
  chain_head zero n = refl
  chain_head (suc more) n = refl

  chain_down : (more a n : ℕ) → Contains (drop 1 (chain_from more t a)) n → ReadDown a n
  chain_down zero a n there = absurd (Contains-nil n there)
  chain_down (suc more) a n there = by_child (child t a Backing) refl there (chain_down more)
    where
      by_child : (found : Option ℕ) → child t a Backing ≡ found
          → Contains (elim (option_map (disk_node t) found) as (λ _. List ℕ) [ None ↦ [] | Some below ↦ chain_from more t below ]) n
          → ((b m : ℕ) → Contains (drop 1 (chain_from more t b)) m → ReadDown b m) → ReadDown a n
      by_child None e at rest = absurd (Contains-nil n at)
      by_child (Some c) e at rest =
          let first = backing_step a c e in
          let u : ℕ = disk_node t c in
          elim (Contains-cases u (drop 1 (chain_from more t u)) n (subst (λ ids. Contains ids n) (chain_head more u) at)) [
            | inl same ↦ subst (ReadDown a) (sym same) first
            | inr lower ↦
                let r = rest u n lower in
                record { down = first.down ++ r.down; is = reads_then a u n first.down r.down first.is r.is; below = goes_right first.down r.down r.below }
          ]

  -- the next one, where no filter is between
  step_down : (more n c m : ℕ) → child t n Backing ≡ Some c → disk_node t c ≡ c → Contains (drop 1 (chain_from more t n)) m
      → (m ≡ c) ⊎ ((less : ℕ) × Contains (drop 1 (chain_from less t c)) m)
  step_down zero n c m under own there = absurd (Contains-nil m there)
  step_down (suc more) n c m under own there =
      let at : Contains (chain_from more t (disk_node t c)) m =
      subst (λ (o : Option ℕ). Contains (elim (option_map (disk_node t) o) as (λ _. List ℕ) [ None ↦ [] | Some below ↦ chain_from more t below ]) m) under there in
      let here : Contains (c ∷ drop 1 (chain_from more t c)) m = subst (λ ids. Contains ids m) (ap (chain_from more t) own ∙ chain_head more c) at in
      elim (Contains-cases c (drop 1 (chain_from more t c)) m here) [
        | inl same ↦ inl same
        | inr lower ↦ inr (more, lower)
      ]

  -- ---- nodes of jobs

  plain_disk : (node : ℕ) → IsPlainNode t node → disk_node t node ≡ node
  plain_disk node p = own_disk t node p.row p.there p.own

  -- the edge of a job by which it reads its target or base, which others may not write
  record ReadsAlone (row : JobRecord) (target : ℕ) : Type 0 where
    edge : Edge
    there : Contains t.edges edge
    own : edge.parent ≡ Job row.slot
    to : edge.child ≡ target
    reads : edge.perm.read ≡ true
    shut : edge.shared.write ≡ false

  module _ (row : JobRecord) (here : Contains t.jobs row) where
    has_own : (e : Edge) → Contains (edges_by row row.kind) e → Contains t.edges e
    has_own e own = (j.each row here).edges e own

    copy_alone : (kind : Kind) (c : CopyStands t row kind) → Contains (edges_by row row.kind) (job_edge row.slot CopyTarget c.target) → ReadsAlone row c.target
    copy_alone kind c own = record { edge = job_edge row.slot CopyTarget c.target; there = has_own (job_edge row.slot CopyTarget c.target) own; own = refl; to = refl; reads = refl; shut = refl }

    read_alone : row.kind ≡ Stream → (node : ℕ) → Contains row.read node → ReadsAlone row node
    read_alone k node read = record {
      edge = job_edge row.slot StreamBelow node;
      there = has_own (job_edge row.slot StreamBelow node)
          (rw k (Contains-there (job_edge row.slot StreamTop row.source) (map (job_edge row.slot StreamBelow) row.read) (job_edge row.slot StreamBelow node)
          (map-Contains (job_edge row.slot StreamBelow) row.read node read)));
      own = refl;
      to = refl;
      reads = refl;
      shut = refl;
    }

    base_alone : (k : row.kind ≡ Commit) (c : CommitJobStands t row) → ReadsAlone row c.base
    base_alone k c =
        let at : is_base row.target c.base ≡ true = ap (λ o. is_base o c.base) c.is_base ∙ eq-eqb c.base c.base refl in
        record {
          edge = commit_edge row c.base;
          there = has_own (commit_edge row c.base) (own_commit t h j d row here k c c.base (base_in t h j d row here k c));
          own = refl;
          to = refl;
          reads = ap (λ b. (job_uses (cond b CommitBase CommitBetween)).perm.read) at;
          shut = ap (λ b. (job_uses (cond b CommitBase CommitBetween)).shared.write) at;
        }

    target_alone : (target : ℕ) → row.target ≡ Some target → ReadsAlone row target
    target_alone target is = by_kind row.kind refl (j.each row here).shape
      where
        copied : (kind : Kind) (c : CopyStands t row kind) → Contains (edges_by row row.kind) (job_edge row.slot CopyTarget c.target) → ReadsAlone row target
        copied kind c own =
            let both : Some c.target ≡ Some target = sym c.is_target ∙ is in
            let same : c.target ≡ target = cc both in
            subst (ReadsAlone row) same (copy_alone kind c own)

        by_kind : (k : JobKind) → row.kind ≡ k → StandsByKind t row k → ReadsAlone row target
        by_kind Stream k s =
            let r = s.reads target is in
            read_alone k target (subst (λ ids. Contains ids target) (sym r.read) (in_right r.between (target ∷ []) target (Contains-here target [])))
        by_kind Commit k s =
            let both : Some s.base ≡ Some target = sym s.is_base ∙ is in
            let same : s.base ≡ target = cc both in
            subst (ReadsAlone row) same (base_alone k s)
        by_kind Mirror k s = copied driver.Mirror s (rw (k, s.is_target) (Contains-here (job_edge row.slot CopyTarget s.target) []))
        by_kind Backup k s = copied driver.BeforeWrite s (rw (k, s.is_target) (Contains-here (job_edge row.slot CopyTarget s.target) []))

  -- ---- what a guest writes

  -- an edge of no job asks to write it
  record IsWrittenBy (n : ℕ) : Type 0 where
    edge : Edge
    there : Contains t.edges edge
    to : edge.child ≡ n
    asks : edge.perm.write ≡ true
    no_job : is_job edge.parent ≡ false

  module _ (writer : Edge) (guest : ℕ) (there : Contains t.edges writer) (from : writer.parent ≡ Guest guest) (drive : writer.role ≡ Drive)
      (asks : writer.perm.write ≡ true) where
    abbrev node : ℕ
    node = disk_node t writer.child

    filter_writes : (e : Edge) (n : ℕ) → Contains t.edges e → e.parent ≡ Node n → is_plain (kind_at kinds n).kind ≡ false → IsWrittenBy n → e.perm.write ≡ true
    filter_writes e n at of filter w =
        let k : NodeKind = kind_at kinds n in
        writes_by k.kind e.role k.writes (uses_into t.edges n) e filter (subst (IsOf kinds e) of (d.table e at))
        (ap (ruled_from kinds (uses_into t.edges) e) (sym of) ∙ d.refreshed e at) ((under_uses n t.edges w.edge w.there w.to).asks Write w.asks)

    written_down : (along : List Edge) (a n : ℕ) → FiltersAlong kinds t.edges a along n → IsWrittenBy a → IsWrittenBy n
    written_down [] a n is w = subst IsWrittenBy is w
    written_down (e ∷ along) a n is w =
        written_down along e.child n is.2
        (record { edge = e; there = is.0; to = refl; asks = filter_writes e a is.0 is.1.0 is.1.1 w; no_job = ap is_job is.1.0 })

    last : IsWrittenBy node
    last =
        let f = filters_down writer.child in
        written_down f.along writer.child node f.is (record { edge = writer; there = there; to = refl; asks = asks; no_job = ap is_job from })

    not_jobs : (slot : ℕ) → last.edge.parent ≢ Job slot
    not_jobs slot same = false≢true (sym last.no_job ∙ ap is_job same)

    shut_apart : (e : Edge) (slot : ℕ) → Contains t.edges e → e.parent ≡ Job slot → e.child ≡ node → e.shared.write ≡ false → ⊥
    shut_apart e slot at own to shut =
        let pair : ArePermsWithin e.perm last.edge.shared × ArePermsWithin last.edge.perm e.shared
        = agree_apart (λ x. same_parent x.parent (Job slot)) t.edges (agree-pairs t.edges d.rule) e last.edge at last.there
        (ap (λ p. same_parent p (Job slot)) own ∙ same_parent-refl (Job slot)) (same_parent-false last.edge.parent (Job slot) (not_jobs slot)) (to ∙ sym last.to) in
        false≢true (sym shut ∙ pair.1 Write last.asks)

    read_apart : (reader : Edge) → Contains t.edges reader → reader.perm.read ≡ true → ReadDown reader.child node → ⊥
    read_apart reader at reads r =
        let f = filters_down writer.child in
        guests_apart t h j d writer reader guest node f.along r.down there from drive asks f.is at reads r.is r.below

    -- a node below one that is read is not written
    lower_apart : (reader : Edge) (n more : ℕ) → Contains t.edges reader → reader.perm.read ≡ true → reader.child ≡ n
        → Contains (drop 1 (chain_from more t n)) node → ⊥
    lower_apart reader n more at reads to lower = read_apart reader at reads (subst (λ m. ReadDown m node) (sym to) (chain_down more n node lower))

    over_lower : (n : ℕ) → IsPlainNode t n → is_over t node n ≡ true → Contains (drop 1 (chain_from 64 t n)) node
    unfolding chain
    over_lower n p over =
        subst (λ m. Contains (drop 1 (chain_from 64 t m)) node) (plain_disk n p) (listed-Contains node (drop 1 (chain_from 64 t (disk_node t n))) over)

    -- ---- targets

    pub no_target_reads : (row : JobRecord) (target : ℕ) → Contains t.jobs row → row.target ≡ Some target → (disk_node t target ≡ node) ⊎ (is_over t node target ≡ true) → ⊥
    no_target_reads row target here is how =
        let p = (j.each row here).plain target (target_of t row (j.each row here) target is) in
        let e = target_alone row here target is in
        elim how [
          | inl reads ↦ shut_apart e.edge row.slot e.there e.own (e.to ∙ sym (plain_disk target p) ∙ reads) e.shut
          | inr over ↦ lower_apart e.edge target 64 e.there e.reads e.to (over_lower target p over)
        ]

    -- ---- sources

    module _ (row : JobRecord) (here : Contains t.jobs row) where
      node_plain : (n : ℕ) → Contains (nodes_of_job row) n → IsPlainNode t n
      node_plain n has = (j.each row here).plain n has

      copy_source : (kind : Kind) → is_copiers kind ≡ true → HasFilterOf t row kind → Contains (drop 1 (chain_from 64 t row.source)) node → ⊥
      copy_source kind copies f lower =
          let x = role_edge (Node f.filter) Filtered t.edges row.source f.over in
          let k : NodeKind = kind_at kinds f.filter in
          let rule = ap (ruled_from kinds (uses_into t.edges) x.edge) (sym x.from) ∙ d.refreshed x.edge x.there in
          let reads : x.edge.perm.read ≡ true =
          reads_by k.kind k.writes (uses_into t.edges f.filter) x.edge (ap is_copiers (filter_at t h j d row kind f) ∙ copies)
          (subst (λ r. with_uses x.edge (derived_uses k.kind r k.writes (uses_into t.edges f.filter)) ≡ x.edge) x.role_is rule) in
          lower_apart x.edge row.source 64 x.there reads x.to lower

      stream_source : row.kind ≡ Stream → StreamJobStands t row → Contains (drop 1 (chain_from 64 t row.source)) node → ⊥
      stream_source k s lower = by_child (child t row.source Backing) refl
        where
          by_child : (found : Option ℕ) → child t row.source Backing ≡ found → ⊥
          by_child None e =
              Contains-nil node
              (subst (λ (o : Option ℕ). Contains (elim (option_map (disk_node t) o) as (λ _. List ℕ) [ None ↦ [] | Some below ↦ chain_from 63 t below ]) node) e lower)
          by_child (Some c) e =
              let read = s.below c e in
              let a = read_alone row here k c read in
              elim (step_down 64 row.source c node e (plain_disk c (node_plain c (in_right row.held row.read c read))) lower) [
                | inl same ↦ shut_apart a.edge row.slot a.there a.own (a.to ∙ sym same) a.shut
                | inr more ↦ lower_apart a.edge c more.0 a.there a.reads a.to more.1
              ]

      module _ (k : row.kind ≡ Commit) (c : CommitJobStands t row) where
        abbrev under : List ℕ
        under = c.between ++ c.base ∷ []

        not_unread : (n : ℕ) → Contains under n → node ≢ n
        not_unread n at same =
            let u = unread_by kinds t.edges (edges_stand t h j d) n row.slot (below_unread t h j d row here k c n at) last.edge last.there (last.to ∙ same) (not_jobs row.slot) in
            false≢true (sym u.calm.writes ∙ last.asks)

        linked_apart : (between : List ℕ) (n more : ℕ) → AreLinked t n (between ++ c.base ∷ []) → ((m : ℕ) → Contains (between ++ c.base ∷ []) m → Contains under m)
            → Contains (drop 1 (chain_from more t n)) node → ⊥
        linked_apart [] n more l of lower =
            let a = base_alone row here k c in
            let held = of c.base (Contains-here c.base []) in
            elim (step_down more n c.base node l.0 (plain_disk c.base (node_plain c.base (in_left row.held row.read c.base (is_held t h j d row here k c c.base held)))) lower) [
              | inl same ↦ not_unread c.base held same
              | inr less ↦ lower_apart a.edge c.base less.0 a.there a.reads a.to less.1
            ]
        linked_apart (b ∷ between) n more l of lower =
            let held = of b (Contains-here b (between ++ c.base ∷ [])) in
            elim (step_down more n b node l.0 (plain_disk b (node_plain b (in_left row.held row.read b (is_held t h j d row here k c b held)))) lower) [
              | inl same ↦ not_unread b held same
              | inr less ↦ linked_apart between b less.0 l.1 (λ m at. of m (Contains-there b (between ++ c.base ∷ []) m at)) less.1
            ]

      source_apart : Contains (drop 1 (chain_from 64 t row.source)) node → ⊥
      source_apart lower = by_kind row.kind refl (j.each row here).shape
        where
          by_kind : (k : JobKind) → row.kind ≡ k → StandsByKind t row k → ⊥
          by_kind Stream k s = stream_source k s lower
          by_kind Commit k s = linked_apart k s s.between row.source 64 s.linked (λ m at. at) lower
          by_kind Mirror k s = copy_source driver.Mirror refl s.filter lower
          by_kind Backup k s = copy_source driver.BeforeWrite refl s.filter lower

      pub source_not_over : is_over t node row.source ≡ false
      source_not_over = by_test (is_over t node row.source) refl
        where
          by_test : (b : Bool) → is_over t node row.source ≡ b → is_over t node row.source ≡ false
          by_test false is = is
          by_test true is = absurd (source_apart (over_lower row.source (node_plain row.source (source_has t row (j.each row here))) is))

-- no target is the `file` node under what is read
pub target_under : (t : RunTable) → TableStands t → JobsStand t → (n : ℕ) → IsThere t n → (row : JobRecord) (target : ℕ) → Contains t.jobs row
    → row.target ≡ Some target → child t (disk_node t n) File ≡ Some target → ⊥
target_under t h j n there row target here is under = by_row (node_by_id t n) refl there
  where
    p : IsPlainNode t target
    p = (j.each row here).plain target (target_of t row (j.each row here) target is)

    target_at : Contains t.nodes p.row × ((p.row.id == target) ≡ true)
    target_at = find-Some (λ (r : NodeRecord). r.id == target) t.nodes p.row p.there

    by_name : (over : NodeRecord) → LeadsToFile t over p.row → filter_role over.kind ≡ None → (name : Option (List ℕ)) → p.row.filename ≡ name → ⊥
    by_name over f own (Some name) named = p.free p.row over p.there (subst IsSome (sym named) refl) f own
    by_name over f own None named = let bad = subst IsSome own (h.filtered over p.row f named) in cc

    by_disk : (own : NodeRecord) (found : Option NodeRecord) → node_by_id t (disk_node t n) ≡ found → With found (IsDiskOf t own) → ⊥
    by_disk own None e never = never
    by_disk own (Some disk) e of =
        let x = role_edge (Node (disk_node t n)) File t.edges target under in
        let at = find-Some (λ (r : NodeRecord). r.id == disk_node t n) t.nodes disk e in
        by_name disk (record {
          over_there = at.0;
          under_there = target_at.0;
          edge = x.edge;
          there = x.there;
          parent = x.from ∙ ap Node (sym (eqb-true disk.id (disk_node t n) at.1));
          role = x.role_is;
          child = x.to ∙ sym (eqb-true p.row.id target target_at.1);
        }) of.own p.row.filename refl

    by_row : (found : Option NodeRecord) → node_by_id t n ≡ found → IsSome found → ⊥
    by_row None e some = let bad = some in cc
    by_row (Some own) e some = by_disk own (node_by_id t (disk_node t n)) refl (h.reads n own e)

-- ---- jobs behind a guest's write

module _ (t : RunTable) (h : TableStands t) (g : JobsAreDrawn t) (writer : Edge) (guest : ℕ) (there : Contains t.edges writer)
    (from : writer.parent ≡ Guest guest) (drive : writer.role ≡ Drive) (asks : writer.perm.write ≡ true) where
  abbrev written : ℕ
  written = disk_node t writer.child

  over_id : (row : NodeRecord) → (unsettled_over t written row).id ≡ row.id
  over_id row = by_test (is_over t written row.id)
    where
      by_test : (b : Bool) → (cond b (record row { is_settled = false }) row).id ≡ row.id
      by_test true = refl
      by_test false = refl

  over_kind : (row : NodeRecord) → kind_of_record (unsettled_over t written row) ≡ kind_of_record row
  over_kind row = by_test (is_over t written row.id)
    where
      by_test : (b : Bool) → kind_of_record (cond b (record row { is_settled = false }) row) ≡ kind_of_record row
      by_test true = refl
      by_test false = refl

  same_kinds : kinds_of (written_under written t).nodes ≡ kinds_of t.nodes
  unfolding written_under
  same_kinds = kinds-mapped (unsettled_over t written) over_id over_kind t.nodes (replicate 64 no_kind)

  pub written_drawn : JobsAreDrawn (written_under written t)
  unfolding written_under
  written_drawn = record {
    jobs = record {
      stand = written_jobs t written h g.jobs.stand;
      run = written_run t written (λ row here. source_not_over t h g.jobs.stand g.edges writer guest there from drive asks row here) g.jobs.run;
    };
    edges = record {
      listed = g.edges.listed;
      table = λ e at. subst (λ ks. IsByTable ks e) (sym same_kinds) (g.edges.table e at);
      refreshed = subst (λ ks. IsRefreshed ks t.edges) (sym same_kinds) g.edges.refreshed;
      rule = g.edges.rule;
    };
    small = λ later at.
        let x = Contains-map (unsettled_over t written) t.nodes later at in
        subst (λ n. n < 64) (sym (ap (λ (r : NodeRecord). r.id) x.2 ∙ over_id x.0)) (g.small x.0 x.1);
  }
