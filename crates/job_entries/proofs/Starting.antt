-- The changes of a job's start: they can be made, images stay in their files, and a filter alone comes that reads as the source.
use Rattle.std.proofs.Common.{◌≡◌, ℕ, ◌<◌, ◌≤◌, Bool, true, false, cond, List, [], ◌∷◌, ◌++◌, map, refl, sym, ◌∙◌, ap, subst, append_assoc, Option, Some, None}
use Rattle.std.specs.Prelude.{◌==◌, if◌then◌else◌, IsSome, option_and_then}
use Rattle.std.specs.Option.{option_map}
use Rattle.std.specs.List.{filter, Contains}
use Rattle.std.proofs.lemmas.Bool.{eqb-true}
use Rattle.blk_graph.specs.declared.edge.Parent.TheVariants.{Node}
use Rattle.blk_graph.specs.declared.edge.Role.TheVariants.{File}
use Rattle.blk_graph.specs.declared.kind.JobUse.{JobUse}
use Rattle.blk_graph.specs.declared.kind.JobUse.TheVariants.{CommitTop, CommitBetween, CommitBase, StreamTop, StreamBelow}
use Rattle.blk_graph.specs.declared.kind.Kind.{Kind}
use Rattle.blk_graph.specs.declared.kind.Kind.TheVariants as driver
use Rattle.blk_graph.specs.Permissions.{job_edge}
use Rattle.blk_graph.specs.Edits.{with_edge}
use Rattle.blk_graph.proofs.ChildLemmas.{child-kept}
use Rattle.blk_graph.proofs.Members.{Contains-here, find-Some}
use Rattle.blk_graph.proofs.RefreshLemmas.{child_of-refreshed}
use Rattle.qmp_codec.specs.declared.event.JobKind.{JobKind}
use Rattle.qmp_codec.specs.declared.event.JobKind.TheVariants.{Stream, Commit, Mirror, Backup}
use Rattle.qmp_rules.specs.declared.change.Change.{Change}
use Rattle.qmp_rules.specs.declared.change.Change.TheVariants as change
use Rattle.qmp_rules.specs.declared.rows.NodeRecord.{NodeRecord}
use Rattle.qmp_rules.specs.declared.rows.JobRecord.{JobRecord}
use Rattle.qmp_rules.specs.Asks.{is_base, is_file}
use Rattle.qmp_rules.specs.Changes.{changed, all_changed, node_changed, unsettled, writable, with_writable}
use Rattle.qmp_rules.specs.Chains.{filter_role}
use Rattle.qmp_rules.specs.Edits.{free_id, of_row, device_uses, file_uses, filter_row, filter_edits, file_used, file_below, writable_if, base_edits, uses_as, under_top, reads_one_of, commit_unsettles, commit_uses, target_edits, uses_target, edits_by_kind, start_edits}
use Rattle.qmp_rules.specs.Table.{RunTable, node_by_id, child, kinds_of}
use Rattle.flat_machine.specs.State.{State}
use Rattle.flat_machine.specs.Changed.{stepped, all_stepped}
use Rattle.flat_machine.specs.Agreement.{Contents, Agrees}
use Rattle.flat_machine.specs.Performing.{Can, Performed, AllCan, AllPerformed}
use Rattle.flat_machine.specs.Suiting.{IsPlainNode}
use Rattle.flat_machine.specs.Wiring.{TableStands}
use Rattle.flat_machine.proofs.CopyStarts.{can-append}
use Rattle.flat_machine.proofs.Kept.{changes_keep}
use Rattle.job_tables.specs.Jobs.{JobsStand}
use Rattle.job_tables.specs.Starts.{IsToFilter, BeginsByKind, JobBegins}
use Rattle.job_tables.proofs.NodeKinds.{found_mapped}
use Rattle.job_tables.proofs.RowEdges.{in_left}
use Rattle.job_entries.specs.Starts.{ShowsFilter}
use Rattle.job_entries.proofs.Files.{IsOwn, IsNoFile, free_no_file, no_file_kept}
use Rattle.job_entries.proofs.Sources.{HaveOtherSources, SparesSources, AllSpare, changes_spare, spare-append, new_others}
use Rattle.job_entries.proofs.Steps.{IsStep, AllSteps, steps-append}
use Rattle.job_entries.proofs.InTurn.{quiet_self, AllStill, still_quiet, still_then}

-- ---- what of a start isn't seen in nodes and files

abbrev IsAside : JobRecord → Change → Type 0
IsAside row (change.UseFile name) = Unit {0}
IsAside row (change.Unsettle node) = Unit {0}
IsAside row (change.MakeWritable node) = Unit {0}
IsAside row (change.StartJob other) = other ≡ row
IsAside row (change.UseNode slot what node) = Unit {0}
IsAside row c = ⊥

abbrev AreAside : JobRecord → List Change → Type 0
AreAside row [] = Unit {0}
AreAside row (c ∷ changes) = IsAside row c × AreAside row changes

aside-append : (row : JobRecord) (a b : List Change) → AreAside row a → AreAside row b → AreAside row (a ++ b)
aside-append row [] b h k = k
aside-append row (c ∷ a) b h k = (h.0, aside-append row a b h.1 k)

aside_can : (row : JobRecord) (changes : List Change) (s : State) → AreAside row changes → AllCan s changes
aside_can row [] s h = tt
aside_can row (c ∷ changes) s h = (one c h.0, aside_can row changes (stepped s c) h.1)
  where
    one : (x : Change) → IsAside row x → Can s x
    one (change.UseFile name) k = tt
    one (change.Unsettle node) k = tt
    one (change.MakeWritable node) k = tt
    one (change.StartJob other) k = tt
    one (change.UseNode slot what node) k = tt
    one x k = absurd k

aside_steps : (row : JobRecord) (changes : List Change) (s : State) → AreAside row changes → AllSteps s changes
aside_steps row [] s h = tt
aside_steps row (c ∷ changes) s h = (one c h.0, aside_steps row changes (stepped s c) h.1)
  where
    one : (x : Change) → IsAside row x → IsStep s.table x
    one (change.UseFile name) k = tt
    one (change.Unsettle node) k = tt
    one (change.MakeWritable node) k = tt
    one (change.StartJob other) k = tt
    one (change.UseNode slot what node) k = tt
    one x k = absurd k

aside_still : (row : JobRecord) (changes : List Change) (s : State) (c : Contents) → AreAside row changes → AllStill s changes c
aside_still row [] s c h = tt
aside_still row (x ∷ changes) s c h = (one x h.0, aside_still row changes (stepped s x) c h.1)
  where
    one : (x : Change) → IsAside row x → Performed s x c c
    one (change.UseFile name) k = quiet_self c
    one (change.Unsettle node) k = quiet_self c
    one (change.MakeWritable node) k = quiet_self c
    one (change.StartJob other) k = quiet_self c
    one (change.UseNode slot what node) k = quiet_self c
    one x k = absurd k

aside_spares : (row : JobRecord) (from : ℕ) → from ≤ row.number → (changes : List Change) (t : RunTable) → AreAside row changes → AllSpare from t changes
aside_spares row from late [] t h = tt
aside_spares row from late (c ∷ changes) t h = (one c h.0, aside_spares row from late changes (changed t c) h.1)
  where
    one : (x : Change) → IsAside row x → SparesSources from t x
    one (change.UseFile name) k = tt
    one (change.Unsettle node) k = tt
    one (change.MakeWritable node) k = tt
    one (change.StartJob other) k = subst (λ (r : JobRecord). from ≤ r.number) (sym k) late
    one (change.UseNode slot what node) k = tt
    one x k = absurd k

-- nodes stay, over their files
record IsBeside (t now : RunTable) : Type 0 where
  absent : (n : ℕ) → node_by_id t n ≡ None → node_by_id now n ≡ None
  own : (n : ℕ) → IsOwn now n → IsOwn t n
  files : (n : ℕ) → child now n File ≡ child t n File

beside_self : (t : RunTable) → IsBeside t t
beside_self t = record { absent = λ n none. none; own = λ n o. o; files = λ n. refl }

beside_then : (a b c : RunTable) → IsBeside a b → IsBeside b c → IsBeside a c
beside_then a b c ab bc = record {
  absent = λ n none. bc.absent n (ab.absent n none);
  own = λ n o. ab.own n (bc.own n o);
  files = λ n. bc.files n ∙ ab.files n;
}

module _ (t now : RunTable) (f : NodeRecord → NodeRecord) (ids : (row : NodeRecord) → (f row).id ≡ row.id)
    (kinds : (row : NodeRecord) → (f row).kind ≡ row.kind) (nodes : now.nodes ≡ map f t.nodes) where
  was_own : (n : ℕ) → IsOwn now n → IsOwn t n
  was_own n o = by_row (node_by_id t n) refl (sym (found_mapped t now f ids nodes n) ∙ o.found)
    where
      by_row : (found : Option NodeRecord) → node_by_id t n ≡ found → option_map f found ≡ Some o.row → IsOwn t n
      by_row None e is = absurd cc
      by_row (Some row) e is =
          let same : f row ≡ o.row = (let both : Some (f row) ≡ Some o.row = is in cc both) in
          record { row = row; found = e; own = ap filter_role (sym (kinds row) ∙ ap (λ (r : NodeRecord). r.kind) same) ∙ o.own }

  still_absent : (n : ℕ) → node_by_id t n ≡ None → node_by_id now n ≡ None
  still_absent n none = found_mapped t now f ids nodes n ∙ ap (option_map f) none

if_same : {X : Type 0} (g : NodeRecord → X) (change row : NodeRecord) → g change ≡ g row → (b : Bool) → g (cond b change row) ≡ g row
if_same g change row same true = same
if_same g change row same false = refl

aside_beside : (row : JobRecord) (t : RunTable) (c : Change) → IsAside row c → IsBeside t (changed t c)
unfolding changed
aside_beside row t (change.UseFile name) h = record { absent = λ n none. none; own = λ n o. record { row = o.row; found = o.found; own = o.own }; files = λ n. refl }
aside_beside row t (change.Unsettle node) h =
    let now : RunTable = changed t (change.Unsettle node) in
    let ids : (row : NodeRecord) → (node_changed node unsettled row).id ≡ row.id = λ row. if_same (λ r. r.id) (unsettled row) row refl (row.id == node) in
    let kinds : (row : NodeRecord) → (node_changed node unsettled row).kind ≡ row.kind = λ row. if_same (λ r. r.kind) (unsettled row) row refl (row.id == node) in
    record {
      absent = still_absent t now (node_changed node unsettled) ids kinds refl;
      own = was_own t now (node_changed node unsettled) ids kinds refl;
      files = λ n. refl;
    }
aside_beside row t (change.MakeWritable node) h =
    let now : RunTable = changed t (change.MakeWritable node) in
    let ids : (row : NodeRecord) → (node_changed node writable row).id ≡ row.id = λ row. if_same (λ r. r.id) (writable row) row refl (row.id == node) in
    let kinds : (row : NodeRecord) → (node_changed node writable row).kind ≡ row.kind = λ row. if_same (λ r. r.kind) (writable row) row refl (row.id == node) in
    record {
      absent = still_absent t now (node_changed node writable) ids kinds refl;
      own = was_own t now (node_changed node writable) ids kinds refl;
      files = λ n. child_of-refreshed (kinds_of (with_writable node t.nodes)) (Node n) File t.edges;
    }
aside_beside row t (change.StartJob other) h = record { absent = λ n none. none; own = λ n o. record { row = o.row; found = o.found; own = o.own }; files = λ n. refl }
aside_beside row t (change.UseNode slot what node) h = record {
  absent = λ n none. none;
  own = λ n o. record { row = o.row; found = o.found; own = o.own };
  files = λ n.
      child_of-refreshed (kinds_of t.nodes) (Node n) File (with_edge (job_edge slot what node) t.edges)
      ∙ child-kept (Node n) File (job_edge slot what node) t.edges (λ same. cc);
}
aside_beside row t c h = absurd h

asides_beside : (row : JobRecord) (changes : List Change) (s : State) → AreAside row changes → IsBeside s.table (all_stepped s changes).table
asides_beside row [] s h = beside_self s.table
asides_beside row (c ∷ changes) s h =
    beside_then s.table (changed s.table c) (all_stepped (stepped s c) changes).table (aside_beside row s.table c h.0) (asides_beside row changes (stepped s c) h.1)

-- ---- which they are

module _ (row : JobRecord) where
  aside_file : (b : Bool) (name : Option (List ℕ)) → AreAside row (cond b (file_uses name) [])
  aside_file true None = tt
  aside_file true (Some name) = (tt, tt)
  aside_file false name = tt

  aside_used : (t : RunTable) (node : Option ℕ) → AreAside row (file_used t node)
  aside_used t node = by_row (option_and_then (node_by_id t) node)
    where
      by_row : (found : Option NodeRecord) → AreAside row (of_row device_uses found)
      by_row None = tt
      by_row (Some found) = aside_file (is_file found) found.filename

  aside_unsettles : (rows : List NodeRecord) → AreAside row (map (λ node. change.Unsettle node.id) rows)
  aside_unsettles [] = tt
  aside_unsettles (node ∷ rows) = (tt, aside_unsettles rows)

  aside_if : (b : Bool) (node : Option ℕ) → AreAside row (writable_if b node)
  aside_if true (Some node) = (tt, tt)
  aside_if true None = tt
  aside_if false node = tt

  aside_target : (t : RunTable) (target : Option ℕ) → AreAside row (target_edits t target)
  aside_target t None = tt
  aside_target t (Some target) = aside-append row (file_used t (Some target)) (change.Unsettle target ∷ []) (aside_used t (Some target)) (tt, tt)

  aside_uses : (slot : ℕ) (what : JobUse) (nodes : List ℕ) → AreAside row (uses_as slot what nodes)
  aside_uses slot what [] = tt
  aside_uses slot what (node ∷ nodes) = (tt, aside_uses slot what nodes)

  aside_uses_target : (target : Option ℕ) → AreAside row (uses_target row target)
  aside_uses_target None = tt
  aside_uses_target (Some target) = (tt, tt)

  aside_commit : (nodes : List ℕ)
      → AreAside row (map (λ id. change.UseNode row.slot (if is_base row.target id then CommitBase else CommitBetween) id) nodes)
  aside_commit [] = tt
  aside_commit (node ∷ nodes) = (tt, aside_commit nodes)

  before_commit : (t : RunTable) → AreAside row (file_used t row.target ++ commit_unsettles t row ++ base_edits t row)
  before_commit t =
      aside-append row (file_used t row.target ++ commit_unsettles t row) (base_edits t row)
      (aside-append row (file_used t row.target) (commit_unsettles t row) (aside_used t row.target)
      (aside_unsettles (filter (reads_one_of t row.source (under_top row)) t.nodes)))
      (aside-append row (writable_if row.made_writable.file (file_below t row.target)) (writable_if row.made_writable.base row.target)
      (aside_if row.made_writable.file (file_below t row.target)) (aside_if row.made_writable.base row.target))

  stream_aside : (t : RunTable) → AreAside row (edits_by_kind t row Stream)
  stream_aside t =
      aside-append row (file_used t row.target) (change.StartJob row ∷ change.UseNode row.slot StreamTop row.source ∷ uses_as row.slot StreamBelow row.read)
      (aside_used t row.target) (refl, (tt, aside_uses row.slot StreamBelow row.read))

-- ---- a filter between them

pub filter_list : (t : RunTable) (row : JobRecord) (kind : Kind) (plain : IsPlainNode t row.source) (pre post : List Change)
    → pre ++ filter_edits t kind row ++ post ≡ pre ++ change.PutFilter (filter_row t kind row.id plain.row) plain.row.id ∷ post
filter_list t row kind plain pre post =
    ap (λ (found : Option NodeRecord). pre ++ of_row (λ r. change.PutFilter (filter_row t kind row.id r) r.id ∷ []) found ++ post) plain.there
    ∙ append_assoc pre (change.PutFilter (filter_row t kind row.id plain.row) plain.row.id ∷ []) post

module _ (s : State) (row : JobRecord) (pre post : List Change) (before : AreAside row pre) (behind : AreAside row post) (kind : Kind)
    (filters : IsSome (filter_role kind)) (plain : IsPlainNode s.table row.source) (f : IsToFilter s.table row) where
  abbrev new : NodeRecord
  new = filter_row s.table kind row.id plain.row

  abbrev put : Change
  put = change.PutFilter new plain.row.id

  abbrev ready : State
  ready = all_stepped s pre

  abbrev made : List Change
  made = pre ++ filter_edits s.table kind row ++ post

  made_is : made ≡ pre ++ put ∷ post
  made_is = filter_list s.table row kind plain pre post

  source_is : plain.row.id ≡ row.source
  source_is = eqb-true plain.row.id row.source (find-Some (λ (r : NodeRecord). r.id == row.source) s.table.nodes plain.row plain.there).1

  beside : IsBeside s.table ready.table
  beside = asides_beside row pre s before

  fresh : node_by_id ready.table new.id ≡ None
  fresh = beside.absent new.id f.fresh

  filter_can : AllCan s made
  filter_can = subst (AllCan s) (sym made_is)
      (can-append pre (put ∷ post) s (aside_can row pre s before) (record { fresh = fresh; filter = filters }, aside_can row post (stepped ready put) behind))

  no_file : TableStands s.table → IsNoFile ready.table plain.row.id
  no_file h = no_file_kept s.table ready.table plain.row.id beside.own (λ n o. beside.files n)
      (subst (IsNoFile s.table) (sym source_is) (free_no_file s.table h row.source plain.free))

  filter_steps : TableStands s.table → AllSteps s made
  filter_steps h = subst (AllSteps s) (sym made_is)
      (steps-append pre (put ∷ post) s (aside_steps row pre s before)
      (record { fresh = fresh; unnamed = refl; alone = refl; none = no_file h }, aside_steps row post (stepped ready put) behind))

  filter_spares : JobsStand s.table → (from : ℕ) → from ≤ row.number → AllSpare from s.table made
  filter_spares j from late = subst (AllSpare from s.table) (sym made_is)
      (spare-append from pre (put ∷ post) s.table (aside_spares row from late pre s.table before)
      (others, aside_spares row from late post (changed (all_changed s.table pre) put) behind))
    where
      others : HaveOtherSources from (all_changed s.table pre) new.id
      others r here small same =
          let w = changes_spare from pre s.table (aside_spares row from late pre s.table before) r here small in
          new_others from s.table j new.id f.fresh w.old w.there (subst (λ n. n < from) (sym w.number) small) (w.source ∙ same)

  filter_performed : (old new_contents : Contents) → ShowsFilter row old new_contents → AllPerformed s made old new_contents
  filter_performed old now shows = subst (λ changes. AllPerformed s changes old now) (sym made_is)
      (still_then pre (put ∷ post) s old now (aside_still row pre s old before) (
        now,
        record {
          nodes = λ node other. shows.nodes node
              (λ (same : row.filter ≡ Some node). other (let both : Some (free_id s.table) ≡ Some node = sym f.filter ∙ same in let one : free_id s.table ≡ node = cc in sym one));
          files = shows.files;
          reads_as = shows.filter new.id f.filter ∙ ap old.reads (sym source_is);
        },
        still_quiet post (stepped ready put) now now (aside_still row post (stepped ready put) now behind) (quiet_self now),
      ))

-- ---- each kind of job

module _ (s : State) (row : JobRecord) (b : JobBegins s.table row) where
  pub source_plain : IsPlainNode s.table row.source
  source_plain = b.plain row.source (in_left row.held row.read row.source (by_kind row.kind b.shape))
    where
      first : (ids : List ℕ) → row.held ≡ row.source ∷ ids → Contains row.held row.source
      first ids is = subst (λ xs. Contains xs row.source) (sym is) (Contains-here row.source ids)

      by_kind : (k : JobKind) → BeginsByKind s.table row k → Contains row.held row.source
      by_kind Stream x = first [] x.held
      by_kind Commit x = first (x.between ++ x.base ∷ []) x.held
      by_kind Mirror x = first (x.copies.target ∷ []) x.copies.held
      by_kind Backup x = first (x.target ∷ []) x.held

  -- the lists of those with a filter
  abbrev commit_before : List Change
  commit_before = file_used s.table row.target ++ commit_unsettles s.table row ++ base_edits s.table row

  abbrev commit_behind : List Change
  commit_behind = change.StartJob row ∷ change.UseNode row.slot CommitTop row.source ∷ commit_uses row

  abbrev copy_behind : List Change
  copy_behind = change.StartJob row ∷ uses_target row row.target

  behind_commit : AreAside row commit_behind
  behind_commit = (refl, (tt, aside_commit row (under_top row)))

  behind_copy : AreAside row copy_behind
  behind_copy = (refl, aside_uses_target row row.target)

  pub start_can : AllCan s (start_edits s.table row)
  unfolding start_edits
  start_can = by_kind row.kind b.shape
    where
      by_kind : (k : JobKind) → BeginsByKind s.table row k → AllCan s (edits_by_kind s.table row k)
      by_kind Stream x = aside_can row (edits_by_kind s.table row Stream) s (stream_aside row s.table)
      by_kind Commit x =
          filter_can s row commit_before commit_behind (before_commit row s.table) behind_commit driver.Commit refl source_plain x.filter
      by_kind Mirror x =
          filter_can s row (target_edits s.table row.target) copy_behind (aside_target row s.table row.target) behind_copy driver.Mirror refl source_plain x.copies.filter
      by_kind Backup x =
          filter_can s row (target_edits s.table row.target) copy_behind (aside_target row s.table row.target) behind_copy driver.BeforeWrite refl source_plain x.filter

  pub start_steps : TableStands s.table → AllSteps s (start_edits s.table row)
  unfolding start_edits
  start_steps h = by_kind row.kind b.shape
    where
      by_kind : (k : JobKind) → BeginsByKind s.table row k → AllSteps s (edits_by_kind s.table row k)
      by_kind Stream x = aside_steps row (edits_by_kind s.table row Stream) s (stream_aside row s.table)
      by_kind Commit x =
          filter_steps s row commit_before commit_behind (before_commit row s.table) behind_commit driver.Commit refl source_plain x.filter h
      by_kind Mirror x =
          filter_steps s row (target_edits s.table row.target) copy_behind (aside_target row s.table row.target) behind_copy driver.Mirror refl source_plain x.copies.filter h
      by_kind Backup x =
          filter_steps s row (target_edits s.table row.target) copy_behind (aside_target row s.table row.target) behind_copy driver.BeforeWrite refl source_plain x.filter h

  pub start_performed : (old new : Contents) → ShowsFilter row old new → AllPerformed s (start_edits s.table row) old new
  unfolding start_edits
  start_performed old new shows = by_kind row.kind b.shape
    where
      by_kind : (k : JobKind) → BeginsByKind s.table row k → AllPerformed s (edits_by_kind s.table row k) old new
      by_kind Stream x =
          still_quiet (edits_by_kind s.table row Stream) s old new (aside_still row (edits_by_kind s.table row Stream) s old (stream_aside row s.table))
          (record {
            nodes = λ node other. shows.nodes node (λ (same : row.filter ≡ Some node). let bad : None ≡ Some node = sym x.bare ∙ same in cc);
            files = shows.files;
          })
      by_kind Commit x =
          filter_performed s row commit_before commit_behind (before_commit row s.table) behind_commit driver.Commit refl source_plain x.filter old new shows
      by_kind Mirror x =
          filter_performed s row (target_edits s.table row.target) copy_behind (aside_target row s.table row.target) behind_copy driver.Mirror refl source_plain x.copies.filter
          old new shows
      by_kind Backup x =
          filter_performed s row (target_edits s.table row.target) copy_behind (aside_target row s.table row.target) behind_copy driver.BeforeWrite refl source_plain x.filter
          old new shows

  pub start_agrees : (opening : List ℕ → Option (List ℕ)) (old new : Contents) → ShowsFilter row old new → Agrees opening s old
      → Agrees opening (all_stepped s (start_edits s.table row)) new
  start_agrees opening old new shows h = changes_keep opening (start_edits s.table row) s old new start_can (start_performed old new shows) h

  pub start_spares : JobsStand s.table → (from : ℕ) → from ≤ row.number → AllSpare from s.table (start_edits s.table row)
  unfolding start_edits
  start_spares j from late = by_kind row.kind b.shape
    where
      by_kind : (k : JobKind) → BeginsByKind s.table row k → AllSpare from s.table (edits_by_kind s.table row k)
      by_kind Stream x = aside_spares row from late (edits_by_kind s.table row Stream) s.table (stream_aside row s.table)
      by_kind Commit x =
          filter_spares s row commit_before commit_behind (before_commit row s.table) behind_commit driver.Commit refl source_plain x.filter j from late
      by_kind Mirror x =
          filter_spares s row (target_edits s.table row.target) copy_behind (aside_target row s.table row.target) behind_copy driver.Mirror refl source_plain x.copies.filter
          j from late
      by_kind Backup x =
          filter_spares s row (target_edits s.table row.target) copy_behind (aside_target row s.table row.target) behind_copy driver.BeforeWrite refl source_plain x.filter
          j from late
