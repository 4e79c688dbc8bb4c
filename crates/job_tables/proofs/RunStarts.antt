-- A job that begins runs, and the others run on.
use Rattle.std.proofs.Common.{◌≡◌, ◌≢◌, ℕ, ◌+◌, ◌<◌, List, [], ◌∷◌, ◌++◌, map, refl, sym, ◌∙◌, ap, subst, inl, inr, arith, Bool, true, false, cond, Option, Some, None}
use Rattle.std.specs.Prelude.{◌==◌, ◌||◌, drop, IsSome}
use Rattle.std.specs.Option.{option_and_then}
use Rattle.std.specs.List.{Contains, filter, list_any}
use Rattle.std.proofs.lemmas.List.{append-nil, append_assoc}
use Rattle.std.proofs.lemmas.Bool.{false≢true, eqb-true, eq-eqb, ne_eqb}
use Rattle.blk_graph.specs.declared.kind.Kind.{Kind}
use Rattle.blk_graph.specs.declared.kind.Kind.TheVariants as driver
use Rattle.blk_graph.specs.declared.kind.JobUse.{JobUse}
use Rattle.blk_graph.specs.declared.kind.JobUse.TheVariants.{CopyTarget, CommitTop, CommitBetween, CommitBase, StreamTop, StreamBelow}
use Rattle.blk_graph.specs.Paths.{Reaches}
use Rattle.blk_graph.proofs.Members.{Contains-nil, Contains-here, Contains-there, Contains-cases, Contains-filter, find-Some}
use Rattle.qmp_codec.specs.declared.event.JobKind.{JobKind}
use Rattle.qmp_codec.specs.declared.event.JobKind.TheVariants.{Stream, Commit, Mirror, Backup}
use Rattle.qmp_rules.specs.declared.change.Change.{Change}
use Rattle.qmp_rules.specs.declared.change.Change.TheVariants as change
use Rattle.qmp_rules.specs.declared.rows.NodeRecord.{NodeRecord}
use Rattle.qmp_rules.specs.declared.rows.JobRecord.{JobRecord}
use Rattle.qmp_rules.specs.declared.rows.FileState.TheVariants.{Used}
use Rattle.qmp_rules.specs.Asks.{is_base, is_file, takes}
use Rattle.qmp_asks.specs.declared.ask.Drivers.TheVariants as drivers
use Rattle.qmp_rules.specs.Chains.{filter_role, is_listed, chain, disk_node}
use Rattle.qmp_rules.specs.Changes.{changed, all_changed, node_changed, unsettled, writable}
use Rattle.qmp_rules.specs.Edits.{free_id, of_row, device_uses, file_uses, filter_row, filter_edits, file_used, file_below, writable_if, base_edits, under_top, up_to, reads_one_of, commit_unsettles, commit_uses, target_edits, uses_target, uses_as, copy_edits, edits_by_kind, start_edits}
use Rattle.qmp_rules.specs.Table.{RunTable, node_by_id, file_state}
use Rattle.flat_machine.specs.Jobs.{target_written}
use Rattle.flat_machine.specs.Suiting.{IsPlainNode, IsThere}
use Rattle.flat_machine.specs.Wiring.{TableStands}
use Rattle.flat_machine.proofs.Fresh.{no-found}
use Rattle.flat_machine.proofs.Kept.{own_disk}
use Rattle.flat_machine.proofs.Tables.{pushed-cases, filter-keeps, file_state-with}
use Rattle.job_tables.specs.Rows.{nodes_of_job}
use Rattle.job_tables.specs.Jobs.{JobsStand}
use Rattle.job_tables.specs.Starts.{IsToFilter, CopyBegins, CommitBegins, BeginsByKind, JobBegins}
use Rattle.job_tables.specs.Running.{IsSettledAt, IsUnsettledAt, IsWritableAt, HasUsedFile, IsWrittenAt, JobsRun, IsNoSource, makes_writable, UnsettlesNoSource, RunBegins}
use Rattle.job_tables.proofs.RowEdges.{Contains-listed, in_left, in_right}
use Rattle.job_tables.proofs.Changes.{there_node}
use Rattle.job_tables.proofs.Ended.{all_changed-append}
use Rattle.job_tables.proofs.Started.{chain_way, source_held, source_plain}
use Rattle.job_tables.proofs.RunRows.{at_by, used_kept, unsettled_kept}
use Rattle.job_tables.proofs.Runs.{written_by, target_held, source_has, IsNoTarget, AllSpare, spare-append, all_settled, all_unsettled, all_writable, all_used, all_spared}

-- ---- the row is added

less_more : (n m : ℕ) → n < m → n < m + 1
less_more n m h = omega arith

equal_more : (n m : ℕ) → n ≡ m → n < m + 1
equal_more n m h = omega arith

started_run : (t : RunTable) (row : JobRecord) → row.number ≡ t.started → IsSettledAt t row.source
    → ((target : ℕ) → target_written row ≡ Some target → IsWrittenAt t target) → JobsRun t → JobsRun (changed t (change.StartJob row))
unfolding changed
started_run t row number source target r = record {
  numbers = λ b at. elim (pushed-cases t.jobs row b at) [
    | inl old ↦ less_more b.number t.started (r.numbers b old)
    | inr new ↦ equal_more b.number t.started (ap (λ (x : JobRecord). x.number) new ∙ number)
  ];
  sources = λ b at. elim (pushed-cases t.jobs row b at) [
    | inl old ↦ r.sources b old
    | inr new ↦ subst (IsSettledAt t) (sym (ap (λ (x : JobRecord). x.source) new)) source
  ];
  targets = λ b to at is. elim (pushed-cases t.jobs row b at) [
    | inl old ↦ let w = r.targets b to old is in record { writable = w.writable; unsettled = w.unsettled; used = w.used }
    | inr new ↦
        let w = target to (sym (ap target_written new) ∙ is) in
        record { writable = w.writable; unsettled = w.unsettled; used = w.used }
  ];
}

-- ---- what comes before, for any jobs

spare_uses : (jobs : List JobRecord) (found : Option NodeRecord) → AllSpare jobs (of_row device_uses found)
spare_uses jobs None = tt
spare_uses jobs (Some row) = by_file (is_file row) row.filename
  where
    by_file : (b : Bool) (name : Option (List ℕ)) → AllSpare jobs (cond b (file_uses name) [])
    by_file true None = tt
    by_file true (Some name) = (tt, tt)
    by_file false name = tt

spare_used : (t : RunTable) (jobs : List JobRecord) (node : Option ℕ) → AllSpare jobs (file_used t node)
spare_used t jobs node = spare_uses jobs (option_and_then (node_by_id t) node)

spare_unsettles : (jobs : List JobRecord) (rows : List NodeRecord) → ((row : NodeRecord) → Contains rows row → IsNoSource jobs row.id)
    → AllSpare jobs (map (λ (row : NodeRecord). change.Unsettle row.id) rows)
spare_unsettles jobs [] none = tt
spare_unsettles jobs (row ∷ rows) none = (none row (Contains-here row rows), spare_unsettles jobs rows (λ r at. none r (Contains-there row rows r at)))

spare_writable : (jobs : List JobRecord) (b : Bool) (node : Option ℕ) → AllSpare jobs (writable_if b node)
spare_writable jobs true (Some node) = (tt, tt)
spare_writable jobs true None = tt
spare_writable jobs false node = tt

spare_base : (t : RunTable) (jobs : List JobRecord) (row : JobRecord) → AllSpare jobs (base_edits t row)
spare_base t jobs row =
    spare-append jobs (writable_if row.made_writable.file (file_below t row.target)) (writable_if row.made_writable.base row.target)
    (spare_writable jobs row.made_writable.file (file_below t row.target)) (spare_writable jobs row.made_writable.base row.target)

spare_filter : (t : RunTable) (jobs : List JobRecord) (kind : Kind) (row : JobRecord) → IsNoSource jobs (free_id t) → IsNoTarget jobs (free_id t)
    → AllSpare jobs (filter_edits t kind row)
spare_filter t jobs kind row source target = by_found (node_by_id t row.source)
  where
    by_found : (found : Option NodeRecord) → AllSpare jobs (of_row (λ r. change.PutFilter (filter_row t kind row.id r) r.id ∷ []) found)
    by_found None = tt
    by_found (Some r) = ((source, target), tt)

spare_nodes : (jobs : List JobRecord) (slot : ℕ) (what : ℕ → JobUse) (ids : List ℕ) → AllSpare jobs (map (λ id. change.UseNode slot (what id) id) ids)
spare_nodes jobs slot what [] = tt
spare_nodes jobs slot what (id ∷ ids) = (tt, spare_nodes jobs slot what ids)

-- ---- what it makes of nodes

unsettled_made : (id : ℕ) (row : NodeRecord) → row.id ≡ id → (node_changed id unsettled row).is_settled ≡ false
unsettled_made id row is = let same : (row.id == id) ≡ true = eq-eqb row.id id is in rw same refl

unsettled_now : (t : RunTable) (id : ℕ) → IsUnsettledAt (changed t (change.Unsettle id)) id
unsettled_now t id =
    at_by t (change.Unsettle id) id (λ row. Unit {0}) (λ row. row.is_settled ≡ false) tt (λ row there is u. unsettled_made id row is) (λ row there is. tt)

writable_made : (id : ℕ) (row : NodeRecord) → row.id ≡ id → (node_changed id writable row).read_only ≡ false
writable_made id row is = let same : (row.id == id) ≡ true = eq-eqb row.id id is in rw same refl

writable_now : (t : RunTable) (id : ℕ) → IsWritableAt (changed t (change.MakeWritable id)) id
writable_now t id =
    at_by t (change.MakeWritable id) id (λ row. Unit {0}) (λ row. row.read_only ≡ false) tt (λ row there is u. writable_made id row is) (λ row there is. tt)

unsettles_keep : (rows : List NodeRecord) (t : RunTable) (id : ℕ) → IsUnsettledAt t id
    → IsUnsettledAt (all_changed t (map (λ (row : NodeRecord). change.Unsettle row.id) rows)) id
unsettles_keep [] t id h = h
unsettles_keep (row ∷ rows) t id h = unsettles_keep rows (changed t (change.Unsettle row.id)) id (unsettled_kept t (change.Unsettle row.id) id tt h)

unsettles_all : (rows : List NodeRecord) (t : RunTable) (node : NodeRecord) → Contains rows node
    → IsUnsettledAt (all_changed t (map (λ (row : NodeRecord). change.Unsettle row.id) rows)) node.id
unsettles_all [] t node there = absurd (Contains-nil node there)
unsettles_all (row ∷ rows) t node there = elim (Contains-cases row rows node there) [
  | inl here ↦
      unsettles_keep rows (changed t (change.Unsettle row.id)) node.id
      (subst (λ (n : NodeRecord). IsUnsettledAt (changed t (change.Unsettle row.id)) n.id) (sym here) (unsettled_now t row.id))
  | inr more ↦ unsettles_all rows (changed t (change.Unsettle row.id)) node more
]

-- a `file` node's file is used first
used_first : (t : RunTable) → TableStands t → (id : ℕ) → HasUsedFile (all_changed t (file_used t (Some id))) id
unfolding changed
used_first t h id = by_found (node_by_id t id) refl
  where
    by_name : (name : Option (List ℕ)) (node : NodeRecord) → Contains (all_changed t (file_uses name)).nodes node → (own : List ℕ) → name ≡ Some own
        → file_state (all_changed t (file_uses name)) own ≡ Some Used
    by_name None node there own is = absurd (let bad : None ≡ Some own = is in cc bad)
    by_name (Some name) node there own is =
        let same : name ≡ own = cc is in
        subst (λ n. file_state (changed t (change.UseFile name)) n ≡ Some Used) same (file_state-with name Used t.files)

    nodes_same : (name : Option (List ℕ)) → (all_changed t (file_uses name)).nodes ≡ t.nodes
    nodes_same None = refl
    nodes_same (Some name) = refl

    by_file : (row : NodeRecord) → node_by_id t id ≡ Some row → (b : Bool) → is_file row ≡ b
        → HasUsedFile (all_changed t (cond b (file_uses row.filename) [])) id
    by_file row e true is node there at own named =
        let was : Contains t.nodes node = subst (λ rows. Contains rows node) (nodes_same row.filename) there in
        let found : node_by_id t id ≡ Some node = subst (λ n. node_by_id t n ≡ Some node) at (h.apart node was) in
        let both : Some row ≡ Some node = sym e ∙ found in
        let same : row ≡ node = cc both in
        by_name row.filename node there own (ap (λ (r : NodeRecord). r.filename) same ∙ named)
    by_file row e false is node there at own named =
        let found : node_by_id t id ≡ Some node = subst (λ n. node_by_id t n ≡ Some node) at (h.apart node there) in
        let both : Some row ≡ Some node = sym e ∙ found in
        let same : row ≡ node = cc both in
        let protocol : node.kind ≡ driver.Protocol = h.drivers own node (record { there = there; filename = named }) in
        absurd (false≢true (sym is ∙ ap (λ (r : NodeRecord). is_file r) same ∙ ap (takes drivers.File) protocol))

    by_found : (found : Option NodeRecord) → node_by_id t id ≡ found → HasUsedFile (all_changed t (of_row device_uses found)) id
    by_found None e = λ node there at own named. absurd (no-found (λ (r : NodeRecord). r.id == id) t.nodes node e there (eq-eqb node.id id at))
    by_found (Some row) e = by_file row e (is_file row) refl

-- ---- which nodes read through others

pub chain_head : (t : RunTable) (id : ℕ) → chain t id ≡ id ∷ drop 1 (chain t id)
unfolding chain
chain_head t id = refl

-- ---- a start

-- the file of its target or base is used first, then comes what spares other jobs, its row, and its uses of nodes
pub record StartParts (t : RunTable) (row : JobRecord) (target : Option ℕ) (edits : List Change) : Type 0 where
  pub rest : List Change
  pub tail : List Change
  pub is : edits ≡ file_used t target ++ rest ++ change.StartJob row ∷ tail
  pub old : AllSpare t.jobs (file_used t target ++ rest)
  pub own : AllSpare (row ∷ []) (file_used t target ++ rest)
  pub behind : (jobs : List JobRecord) → AllSpare jobs tail

module _ (t : RunTable) (h : TableStands t) (j : JobsStand t) (r : JobsRun t) (row : JobRecord) (b : JobBegins t row) (g : RunBegins t row) where
  abbrev mine : List JobRecord
  mine = row ∷ []

  here : Contains mine row
  here = Contains-here row []

  is_mine : (other : JobRecord) → Contains mine other → other ≡ row
  is_mine other at = elim (Contains-cases row [] other at) [
    | inl same ↦ same
    | inr none ↦ absurd (Contains-nil other none)
  ]

  written_held : (target : ℕ) → target_written row ≡ Some target → Contains row.held target
  written_held target is = by_kind row.kind refl b.shape
    where
      copied : (k : JobKind) → row.kind ≡ k → target_written row ≡ row.target → CopyBegins t row → Contains row.held target
      copied k e of c =
          let both : Some c.target ≡ Some target = sym c.is_target ∙ sym of ∙ is in
          let same : c.target ≡ target = cc both in
          subst (Contains row.held) same (subst (λ ids. Contains ids c.target) (sym c.held) (Contains-there row.source (c.target ∷ []) c.target (Contains-here c.target [])))

      by_kind : (k : JobKind) → row.kind ≡ k → BeginsByKind t row k → Contains row.held target
      by_kind Stream e s = absurd (let bad : None ≡ Some target = sym (written_by row Stream e) ∙ is in cc bad)
      by_kind Commit e s =
          let both : Some s.base ≡ Some target = sym s.is_base ∙ sym (written_by row Commit e) ∙ is in
          let same : s.base ≡ target = cc both in
          subst (Contains row.held) same
          (subst (λ ids. Contains ids s.base) (sym s.held)
          (Contains-there row.source (s.between ++ s.base ∷ []) s.base (in_right s.between (s.base ∷ []) s.base (Contains-here s.base []))))
      by_kind Mirror e s = copied Mirror e (written_by row Mirror e) s.copies
      by_kind Backup e s = copied Backup e (written_by row Backup e) s

  -- what it holds for itself is no other job's source
  no_others : (node : ℕ) → Contains row.held node → IsNoSource t.jobs node
  no_others node held other at is = b.holds other node at held (subst (Contains (nodes_of_job other)) is (source_has t other (j.each other at)))

  there_own : (node : ℕ) → Contains row.held node → IsThere t node
  there_own node held = let p = b.plain node (in_left row.held row.read node held) in subst IsSome (sym p.there) refl

  module _ (f : IsToFilter t row) where
    not_filter : (node : ℕ) → IsThere t node → node ≢ free_id t
    not_filter node there same = let bad = subst IsSome (ap (node_by_id t) same ∙ f.fresh) there in cc

    filter_old : (kind : Kind) → AllSpare t.jobs (filter_edits t kind row)
    filter_old kind =
        spare_filter t t.jobs kind row
        (λ other at. not_filter other.source (there_node t j other other.source at (source_has t other (j.each other at))))
        (λ other at is. not_filter (free_id t) (there_node t j other (free_id t) at (in_left other.held other.read (free_id t) (target_held t other (j.each other at) (free_id t) is))) refl)

    filter_own : (kind : Kind) → AllSpare mine (filter_edits t kind row)
    filter_own kind =
        spare_filter t mine kind row
        (λ other at. subst (λ (x : JobRecord). x.source ≢ free_id t) (sym (is_mine other at)) (not_filter row.source (there_own row.source (source_held t h j row b))))
        (λ other at is. not_filter (free_id t) (there_own (free_id t) (written_held (free_id t) (sym (ap target_written (is_mine other at)) ∙ is))) refl)

  begins : (pre tail : List Change) → AllSpare t.jobs pre → AllSpare mine pre → ((jobs : List JobRecord) → AllSpare jobs tail)
      → ((target : ℕ) → target_written row ≡ Some target → IsWrittenAt (all_changed t pre) target)
      → JobsRun (all_changed t (pre ++ change.StartJob row ∷ tail))
  begins pre tail old own behind target =
      let x = all_spared pre t old r in
      let now : RunTable = all_changed t pre in
      let run : JobsRun (changed now (change.StartJob row)) =
      started_run now row (g.number ∙ sym x.started) (all_settled mine row here pre t own g.source) target x.run in
      subst JobsRun (sym (all_changed-append t pre (change.StartJob row ∷ tail)))
      (all_spared tail (changed now (change.StartJob row)) (behind (changed now (change.StartJob row)).jobs) run).run

  -- ---- streams

  stream_runs : row.kind ≡ Stream → JobsRun (all_changed t (edits_by_kind t row Stream))
  stream_runs k =
      begins (file_used t row.target) (change.UseNode row.slot StreamTop row.source ∷ uses_as row.slot StreamBelow row.read)
      (spare_used t t.jobs row.target) (spare_used t mine row.target) (λ jobs. (tt, spare_nodes jobs row.slot (λ id. StreamBelow) row.read))
      (λ target is. absurd (let bad : None ≡ Some target = sym (written_by row Stream k) ∙ is in cc bad))

  -- ---- copies

  module _ (kind : Kind) (c : CopyBegins t row) (written : target_written row ≡ row.target) (own : makes_writable row row.kind ≡ false) where
    abbrev used : List Change
    used = file_used t (Some c.target)

    abbrev first : List Change
    first = used ++ change.Unsettle c.target ∷ []

    abbrev filters : List Change
    filters = filter_edits t kind row

    is_written : target_written row ≡ Some c.target
    is_written = written ∙ c.is_target

    target_in : Contains row.held c.target
    target_in = written_held c.target is_written

    first_old : AllSpare t.jobs first
    first_old = spare-append t.jobs used (change.Unsettle c.target ∷ []) (spare_used t t.jobs (Some c.target)) (no_others c.target target_in, tt)

    first_own : AllSpare mine first
    first_own =
        spare-append mine used (change.Unsettle c.target ∷ []) (spare_used t mine (Some c.target))
        (λ other at is. c.other (sym is ∙ ap (λ (x : JobRecord). x.source) (is_mine other at)), tt)

    abbrev middle : RunTable
    middle = all_changed t first

    middle_is : all_changed t first ≡ changed (all_changed t used) (change.Unsettle c.target)
    middle_is = all_changed-append t used (change.Unsettle c.target ∷ [])

    may_write : IsWritableAt t c.target
    may_write = elim (g.target c.target is_written) [
      | inl w ↦ w
      | inr made ↦ absurd (false≢true (sym own ∙ made))
    ]

    now_written : IsWrittenAt (all_changed t (first ++ filters)) c.target
    now_written =
        subst (λ x. IsWrittenAt x c.target) (sym (all_changed-append t first filters)) (record {
          writable = all_writable mine row here c.target is_written filters middle (filter_own c.filter kind)
              (all_writable mine row here c.target is_written first t first_own may_write);
          unsettled = all_unsettled mine row here c.target is_written filters middle (filter_own c.filter kind)
              (subst (λ x. IsUnsettledAt x c.target) (sym middle_is) (unsettled_now (all_changed t used) c.target));
          used = all_used mine row here c.target is_written filters middle (filter_own c.filter kind)
              (subst (λ x. HasUsedFile x c.target) (sym middle_is)
              (used_kept (all_changed t used) (change.Unsettle c.target) c.target tt (used_first t h c.target)));
        })

    copy_runs : JobsRun (all_changed t (copy_edits t kind row))
    copy_runs =
        subst (λ o. JobsRun (all_changed t (target_edits t o ++ filters ++ change.StartJob row ∷ uses_target row o))) (sym c.is_target)
        (begins (first ++ filters) (change.UseNode row.slot CopyTarget c.target ∷ [])
        (spare-append t.jobs first filters first_old (filter_old c.filter kind))
        (spare-append mine first filters first_own (filter_own c.filter kind)) (λ jobs. (tt, tt))
        (λ target is.
        let both : Some c.target ≡ Some target = sym is_written ∙ is in
        let same : c.target ≡ target = cc both in
        subst (IsWrittenAt (all_changed t (first ++ filters))) same now_written))

  -- ---- commits

  module _ (k : row.kind ≡ Commit) (s : CommitBegins t row) where
    abbrev fu : List Change
    fu = file_used t (Some s.base)

    abbrev cu : List Change
    cu = commit_unsettles t row

    abbrev be : List Change
    be = base_edits t row

    abbrev fe : List Change
    fe = filter_edits t driver.Commit row

    base_written : target_written row ≡ Some s.base
    base_written = written_by row Commit k ∙ s.is_base

    base_plain : IsPlainNode t s.base
    base_plain = b.plain s.base (in_left row.held row.read s.base (written_held s.base base_written))

    base_there : Contains t.nodes base_plain.row
    base_there = (find-Some (λ (x : NodeRecord). x.id == s.base) t.nodes base_plain.row base_plain.there).0

    base_id : base_plain.row.id ≡ s.base
    base_id = eqb-true base_plain.row.id s.base (find-Some (λ (x : NodeRecord). x.id == s.base) t.nodes base_plain.row base_plain.there).1

    base_under : Contains (s.between ++ s.base ∷ []) s.base
    base_under = in_right s.between (s.base ∷ []) s.base (Contains-here s.base [])

    apart : base_plain.row.id ≢ row.source
    apart same =
        h.acyclic row.source
        (subst (λ n. Reaches t.edges row.source n) (sym base_id ∙ same) (chain_way t row.source (s.between ++ s.base ∷ []) s.linked s.base base_under))

    listed : is_listed base_plain.row.id (under_top row) ≡ true
    listed =
        Contains-listed base_plain.row.id (under_top row)
        (subst (Contains (under_top row)) (sym base_id) (subst (λ ids. Contains ids s.base) (sym (ap (drop 1) s.held)) base_under))

    abbrev is_under : ℕ → Bool
    is_under id = is_listed id (under_top row)

    -- the base reads itself
    reads_base : reads_one_of t row.source (under_top row) base_plain.row ≡ true
    reads_base =
        let own : disk_node t base_plain.row.id ≡ base_plain.row.id = own_disk t base_plain.row.id base_plain.row (h.apart base_plain.row base_there) base_plain.own in
        ap (λ n. list_any is_under (up_to row.source (chain t n))) own
        ∙ ap (λ ids. list_any is_under (up_to row.source ids)) (chain_head t base_plain.row.id)
        ∙ ap (λ x. list_any is_under (cond x [] (base_plain.row.id ∷ up_to row.source (drop 1 (chain t base_plain.row.id))))) (ne_eqb base_plain.row.id row.source apart)
        ∙ ap (λ x. x || list_any is_under (up_to row.source (drop 1 (chain t base_plain.row.id)))) listed

    -- and the top none but through itself
    reads_top : (node : NodeRecord) → Contains t.nodes node → node.id ≡ row.source → reads_one_of t row.source (under_top row) node ≡ false
    reads_top node there is =
        let p = source_plain t h j row b in
        let found : node_by_id t row.source ≡ Some node = subst (λ n. node_by_id t n ≡ Some node) is (h.apart node there) in
        let both : Some p.row ≡ Some node = sym p.there ∙ found in
        let same : p.row ≡ node = cc both in
        let own : disk_node t node.id ≡ node.id = own_disk t node.id node (h.apart node there) (subst (λ (x : NodeRecord). filter_role x.kind ≡ None) same p.own) in
        ap (λ n. list_any is_under (up_to row.source (chain t n))) own
        ∙ ap (λ ids. list_any is_under (up_to row.source ids)) (chain_head t node.id)
        ∙ ap (λ x. list_any is_under (cond x [] (node.id ∷ up_to row.source (drop 1 (chain t node.id))))) (eq-eqb node.id row.source is)

    others : (node : NodeRecord) → Contains t.nodes node → reads_one_of t row.source (under_top row) node ≡ true → IsNoSource t.jobs node.id
    others = subst (UnsettlesNoSource t row) k g.others

    cu_old : AllSpare t.jobs cu
    cu_old =
        spare_unsettles t.jobs (filter (reads_one_of t row.source (under_top row)) t.nodes)
        (λ node at. let x = Contains-filter (reads_one_of t row.source (under_top row)) t.nodes node at in others node x.0 x.1)

    cu_own : AllSpare mine cu
    cu_own =
        spare_unsettles mine (filter (reads_one_of t row.source (under_top row)) t.nodes)
        (λ node at other mine_at is.
        let x = Contains-filter (reads_one_of t row.source (under_top row)) t.nodes node at in
        let top : node.id ≡ row.source = sym is ∙ ap (λ (y : JobRecord). y.source) (is_mine other mine_at) in
        false≢true (sym (reads_top node x.0 top) ∙ x.1))

    abbrev t1 : RunTable
    t1 = all_changed t fu

    abbrev t2 : RunTable
    t2 = all_changed t1 cu

    abbrev t3 : RunTable
    t3 = all_changed t2 be

    now_is : all_changed t (fu ++ cu ++ be ++ fe) ≡ all_changed t3 fe
    now_is =
        all_changed-append t (fu ++ cu ++ be) fe
        ∙ ap (λ x. all_changed x fe) (all_changed-append t (fu ++ cu) be ∙ ap (λ x. all_changed x be) (all_changed-append t fu cu))

    unsettled_base : IsUnsettledAt t2 s.base
    unsettled_base =
        subst (IsUnsettledAt t2) base_id
        (unsettles_all (filter (reads_one_of t row.source (under_top row)) t.nodes) t1 base_plain.row
        (filter-keeps (reads_one_of t row.source (under_top row)) t.nodes base_plain.row reads_base base_there))

    writable_base : IsWritableAt t3 s.base
    writable_base = elim (g.target s.base base_written) [
      | inl w ↦
          all_writable mine row here s.base base_written be t2 (spare_base t mine row)
          (all_writable mine row here s.base base_written cu t1 cu_own (all_writable mine row here s.base base_written fu t (spare_used t mine (Some s.base)) w))
      | inr made ↦
          let on : row.made_writable.base ≡ true = sym (ap (makes_writable row) k) ∙ made in
          let below : List Change = writable_if row.made_writable.file (file_below t row.target) in
          subst (λ x. IsWritableAt x s.base) (sym (all_changed-append t2 below (writable_if row.made_writable.base row.target)))
          (subst (λ (o : Option ℕ). IsWritableAt (all_changed (all_changed t2 below) (writable_if row.made_writable.base o)) s.base) (sym s.is_base)
          (subst (λ (x : Bool). IsWritableAt (all_changed (all_changed t2 below) (writable_if x (Some s.base))) s.base) (sym on)
          (writable_now (all_changed t2 below) s.base)))
    ]

    now_base : IsWrittenAt (all_changed t (fu ++ cu ++ be ++ fe)) s.base
    now_base =
        subst (λ x. IsWrittenAt x s.base) (sym now_is) (record {
          writable = all_writable mine row here s.base base_written fe t3 (filter_own s.filter driver.Commit) writable_base;
          unsettled = all_unsettled mine row here s.base base_written fe t3 (filter_own s.filter driver.Commit)
              (all_unsettled mine row here s.base base_written be t2 (spare_base t mine row) unsettled_base);
          used = all_used mine row here s.base base_written fe t3 (filter_own s.filter driver.Commit)
              (all_used mine row here s.base base_written be t2 (spare_base t mine row)
              (all_used mine row here s.base base_written cu t1 cu_own (used_first t h s.base)));
        })

    commit_runs : JobsRun (all_changed t (edits_by_kind t row Commit))
    commit_runs =
        subst (λ o. JobsRun (all_changed t (file_used t o ++ cu ++ be ++ fe ++ change.StartJob row ∷ change.UseNode row.slot CommitTop row.source ∷ commit_uses row))) (sym s.is_base)
        (begins (fu ++ cu ++ be ++ fe) (change.UseNode row.slot CommitTop row.source ∷ commit_uses row)
        (spare-append t.jobs (fu ++ cu ++ be) fe
        (spare-append t.jobs (fu ++ cu) be (spare-append t.jobs fu cu (spare_used t t.jobs (Some s.base)) cu_old) (spare_base t t.jobs row)) (filter_old s.filter driver.Commit))
        (spare-append mine (fu ++ cu ++ be) fe
        (spare-append mine (fu ++ cu) be (spare-append mine fu cu (spare_used t mine (Some s.base)) cu_own) (spare_base t mine row)) (filter_own s.filter driver.Commit))
        (λ jobs. (tt, spare_nodes jobs row.slot (λ id. cond (is_base row.target id) CommitBase CommitBetween) (under_top row)))
        (λ target is.
        let both : Some s.base ≡ Some target = sym base_written ∙ is in
        let same : s.base ≡ target = cc both in
        subst (IsWrittenAt (all_changed t (fu ++ cu ++ be ++ fe))) same now_base))

  -- ---- the lists of a start

  stream_parts : StartParts t row row.target (edits_by_kind t row Stream)
  stream_parts = record {
    rest = [];
    tail = change.UseNode row.slot StreamTop row.source ∷ uses_as row.slot StreamBelow row.read;
    is = ap (λ xs. xs ++ change.StartJob row ∷ change.UseNode row.slot StreamTop row.source ∷ uses_as row.slot StreamBelow row.read) (sym (append-nil (file_used t row.target)));
    old = spare-append t.jobs (file_used t row.target) [] (spare_used t t.jobs row.target) tt;
    own = spare-append mine (file_used t row.target) [] (spare_used t mine row.target) tt;
    behind = λ jobs. (tt, spare_nodes jobs row.slot (λ id. StreamBelow) row.read);
  }

  copy_parts : (kind : Kind) (c : CopyBegins t row) → target_written row ≡ row.target → StartParts t row row.target (copy_edits t kind row)
  copy_parts kind c written =
      subst (λ (o : Option ℕ). StartParts t row o (target_edits t o ++ filter_edits t kind row ++ change.StartJob row ∷ uses_target row o)) (sym c.is_target)
      (record {
        rest = change.Unsettle c.target ∷ filter_edits t kind row;
        tail = change.UseNode row.slot CopyTarget c.target ∷ [];
        is = ap (λ xs. xs ++ change.StartJob row ∷ change.UseNode row.slot CopyTarget c.target ∷ [])
            (append_assoc (file_used t (Some c.target)) (change.Unsettle c.target ∷ []) (filter_edits t kind row));
        old = spare-append t.jobs (file_used t (Some c.target)) (change.Unsettle c.target ∷ filter_edits t kind row) (spare_used t t.jobs (Some c.target))
            (no_others c.target (written_held c.target (written ∙ c.is_target)), filter_old c.filter kind);
        own = spare-append mine (file_used t (Some c.target)) (change.Unsettle c.target ∷ filter_edits t kind row) (spare_used t mine (Some c.target))
            (λ other at is. c.other (sym is ∙ ap (λ (x : JobRecord). x.source) (is_mine other at)), filter_own c.filter kind);
        behind = λ jobs. (tt, tt);
      })

  commit_parts : (k : row.kind ≡ Commit) (s : CommitBegins t row) → StartParts t row row.target (edits_by_kind t row Commit)
  commit_parts k s =
      subst (λ (o : Option ℕ). StartParts t row o (file_used t o ++ commit_unsettles t row ++ base_edits t row ++ filter_edits t driver.Commit row ++ change.StartJob row ∷ change.UseNode row.slot CommitTop row.source ∷ commit_uses row)) (sym s.is_base)
      (record {
        rest = commit_unsettles t row ++ (base_edits t row ++ filter_edits t driver.Commit row);
        tail = change.UseNode row.slot CommitTop row.source ∷ commit_uses row;
        is = ap (λ xs. xs ++ change.StartJob row ∷ change.UseNode row.slot CommitTop row.source ∷ commit_uses row)
            (append_assoc (file_used t (Some s.base) ++ commit_unsettles t row) (base_edits t row) (filter_edits t driver.Commit row)
            ∙ append_assoc (file_used t (Some s.base)) (commit_unsettles t row) (base_edits t row ++ filter_edits t driver.Commit row));
        old = spare-append t.jobs (file_used t (Some s.base)) (commit_unsettles t row ++ (base_edits t row ++ filter_edits t driver.Commit row)) (spare_used t t.jobs (Some s.base))
            (spare-append t.jobs (commit_unsettles t row) (base_edits t row ++ filter_edits t driver.Commit row) (cu_old k s)
            (spare-append t.jobs (base_edits t row) (filter_edits t driver.Commit row) (spare_base t t.jobs row) (filter_old s.filter driver.Commit)));
        own = spare-append mine (file_used t (Some s.base)) (commit_unsettles t row ++ (base_edits t row ++ filter_edits t driver.Commit row)) (spare_used t mine (Some s.base))
            (spare-append mine (commit_unsettles t row) (base_edits t row ++ filter_edits t driver.Commit row) (cu_own k s)
            (spare-append mine (base_edits t row) (filter_edits t driver.Commit row) (spare_base t mine row) (filter_own s.filter driver.Commit)));
        behind = λ jobs. (tt, spare_nodes jobs row.slot (λ id. cond (is_base row.target id) CommitBase CommitBetween) (under_top row));
      })

  any_parts : (k : JobKind) → row.kind ≡ k → BeginsByKind t row k → StartParts t row row.target (edits_by_kind t row k)
  any_parts Stream k s = stream_parts
  any_parts Commit k s = commit_parts k s
  any_parts Mirror k s = copy_parts driver.Mirror s.copies (written_by row Mirror k)
  any_parts Backup k s = copy_parts driver.BeforeWrite s (written_by row Backup k)

  pub start_parts : StartParts t row row.target (start_edits t row)
  unfolding start_edits
  start_parts = any_parts row.kind refl b.shape

  any_runs : (k : JobKind) → row.kind ≡ k → BeginsByKind t row k → JobsRun (all_changed t (edits_by_kind t row k))
  any_runs Stream k s = stream_runs k
  any_runs Commit k s = commit_runs k s
  any_runs Mirror k s = copy_runs driver.Mirror s.copies (written_by row Mirror k) (ap (makes_writable row) k)
  any_runs Backup k s = copy_runs driver.BeforeWrite s (written_by row Backup k) (ap (makes_writable row) k)

pub starts_run : (t : RunTable) (row : JobRecord) → TableStands t → JobsStand t → JobsRun t → JobBegins t row → RunBegins t row
    → JobsRun (all_changed t (start_edits t row))
unfolding start_edits
starts_run t row h j r b g = any_runs t h j r row b g row.kind refl b.shape
