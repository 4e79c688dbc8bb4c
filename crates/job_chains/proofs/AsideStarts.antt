-- Commits stand aside behind the starts of jobs: what reads aside of a new one loses its disk.
use Rattle.std.proofs.Common.{◌≡◌, ℕ, List, [], ◌∷◌, ◌++◌, map, refl, sym, ◌∙◌, ap, subst, inl, inr, Bool, true, false, cond, Option, Some, None}
use Rattle.std.specs.Prelude.{◌==◌, IsSome}
use Rattle.std.specs.List.{Contains, filter}
use Rattle.std.proofs.lemmas.Bool.{false≢true, eqb-true, eq-eqb}
use Rattle.blk_graph.specs.declared.edge.Role.TheVariants.{Filtered}
use Rattle.blk_graph.specs.declared.kind.Kind.{Kind}
use Rattle.blk_graph.specs.declared.kind.Kind.TheVariants as driver
use Rattle.blk_graph.specs.declared.kind.JobUse.{JobUse}
use Rattle.blk_graph.specs.declared.kind.JobUse.TheVariants.{CommitTop, CommitBetween, CommitBase, StreamTop, StreamBelow}
use Rattle.blk_graph.proofs.Members.{Contains-nil, Contains-cases, Contains-map, find-Some}
use Rattle.qmp_codec.specs.declared.event.JobKind.{JobKind}
use Rattle.qmp_codec.specs.declared.event.JobKind.TheVariants.{Stream, Commit, Mirror, Backup}
use Rattle.qmp_rules.specs.declared.change.Change.{Change}
use Rattle.qmp_rules.specs.declared.change.Change.TheVariants as change
use Rattle.qmp_rules.specs.declared.rows.NodeRecord.{NodeRecord}
use Rattle.qmp_rules.specs.declared.rows.JobRecord.{JobRecord}
use Rattle.qmp_rules.specs.Asks.{is_base}
use Rattle.qmp_rules.specs.Chains.{filter_role}
use Rattle.qmp_rules.specs.Changes.{changed, all_changed, node_changed, unsettled}
use Rattle.qmp_rules.specs.Edits.{free_id, of_row, filter_row, filter_edits, file_used, base_edits, under_top, reads_one_of, commit_unsettles, commit_uses, target_edits, uses_target, uses_as, edits_by_kind, start_edits}
use Rattle.qmp_rules.specs.Table.{RunTable, node_by_id}
use Rattle.flat_machine.specs.Suiting.{IsPlainNode}
use Rattle.flat_machine.specs.Wiring.{EdgesHaveEnds, TableStands}
use Rattle.flat_machine.proofs.Tables.{filter-keeps}
use Rattle.job_tables.specs.Jobs.{JobsStand, EdgesAreDrawn}
use Rattle.job_tables.specs.Starts.{IsToFilter, BeginsByKind, JobBegins}
use Rattle.job_tables.proofs.Begun.{IsLikeTable, IsBefore, AreBefore, all_before}
use Rattle.job_tables.proofs.Ended.{all_changed-append}
use Rattle.job_tables.proofs.Started.{before_used, before_target, before_commit, source_plain}
use Rattle.job_chains.specs.Aside.{ReadsAside, StandsAside, CommitsStandAside}
use Rattle.job_chains.proofs.AsideSteps.{NewStep, StepFits}
use Rattle.job_chains.proofs.AsideKept.{WasNode, NewJob, NewNode, UnderIsThere, job_back, node_back, was_aside, still_aside, put_aside}
use Rattle.job_chains.proofs.AsideChains.{aside_chains}
use Rattle.job_chains.proofs.AsideChanges.{under_has, under_plain, change_aside}

-- ---- changes that make nothing new

abbrev IsStill : Change → Type 0
IsStill (change.UseFile name) = Unit {0}
IsStill (change.Unsettle node) = Unit {0}
IsStill (change.MakeWritable node) = Unit {0}
IsStill (change.UseNode slot what node) = Unit {0}
IsStill c = ⊥

abbrev AreStill : List Change → Type 0
AreStill [] = Unit {0}
AreStill (c ∷ changes) = IsStill c × AreStill changes

record MakesNothing (t : RunTable) (c : Change) : Type 0 where
  fits : StepFits t c
  job : (row : JobRecord) → NewJob c row → ⊥
  step : (n m : ℕ) → NewStep t c n m → ⊥
  node : (later : NodeRecord) → NewNode c later → ⊥

still : (t : RunTable) (c : Change) → IsStill c → MakesNothing t c
still t (change.UseFile name) is = record { fits = tt; job = λ row new. new; step = λ n m new. new; node = λ later new. new }
still t (change.Unsettle id) is = record { fits = tt; job = λ row new. new; step = λ n m new. new; node = λ later new. new }
still t (change.MakeWritable id) is = record { fits = tt; job = λ row new. new; step = λ n m new. new; node = λ later new. new }
still t (change.UseNode slot what id) is = record { fits = tt; job = λ row new. new; step = λ n m new. new; node = λ later new. new }
still t c is = absurd is

before_still : (changes : List Change) → AreBefore changes → AreStill changes
before_still [] before = tt
before_still (c ∷ changes) before = (one c before.0, before_still changes before.1)
  where
    one : (c : Change) → IsBefore c → IsStill c
    one (change.UseFile name) is = tt
    one (change.Unsettle node) is = tt
    one (change.MakeWritable node) is = tt
    one c is = absurd is

-- what reads aside, and which nodes there are
module _ (row : JobRecord) where
  was_reads : (changes : List Change) (t : RunTable) → AreStill changes → (n : ℕ) → ReadsAside (all_changed t changes) row n → ReadsAside t row n
  was_reads [] t still_all n reads = reads
  was_reads (c ∷ changes) t still_all n reads =
      let s = still t c still_all.0 in
      was_aside t c s.fits row row refl refl (λ k m other new. absurd (s.step k m new)) n (was_reads changes (changed t c) still_all.1 n reads)

  -- ---- what stands aside of a new job too

  record Stand (t : RunTable) : Type 0 where
    all : CommitsStandAside t
    own : row.kind ≡ Commit → StandsAside t row

  one_still : (t : RunTable) (c : Change) → IsStill c → CommitsStandAside t → CommitsStandAside (changed t c)
  one_still t c is stands =
      let s = still t c is in
      change_aside t c s.fits s.job (λ b here kind n m other new. absurd (s.step n m new)) (λ b here kind later new. absurd (s.node later new)) stands

  all_still : (changes : List Change) (t : RunTable) → AreStill changes → CommitsStandAside t → CommitsStandAside (all_changed t changes)
  all_still [] t still_all stands = stands
  all_still (c ∷ changes) t still_all stands = all_still changes (changed t c) still_all.1 (one_still t c still_all.0 stands)

  both_still : (changes : List Change) (t : RunTable) → AreStill changes → Stand t → Stand (all_changed t changes)
  both_still [] t still_all stands = stands
  both_still (c ∷ changes) t still_all stands =
      let s = still t c still_all.0 in
      both_still changes (changed t c) still_all.1 (record {
        all = one_still t c still_all.0 stands.all;
        own = λ kind.
            still_aside t c s.fits row row refl refl (λ n m other new. absurd (s.step n m new)) (λ later new. absurd (s.node later new)) (stands.own kind);
      })

  -- the row is added, and uses its nodes
  begun : (t : RunTable) (uses : List Change) → AreStill uses → Stand t → CommitsStandAside (all_changed t (change.StartJob row ∷ uses))
  begun t uses still_all stands = all_still uses (changed t (change.StartJob row)) still_all added
    where
      added : CommitsStandAside (changed t (change.StartJob row))
      added b there kind = elim (job_back t (change.StartJob row) b there) [
        | inl was ↦
            still_aside t (change.StartJob row) tt b was.old was.source was.held (λ n m other never. absurd never) (λ later never. absurd never)
            (stands.all was.old was.there (sym was.kind ∙ kind))
        | inr new ↦
            still_aside t (change.StartJob row) tt b row (ap (λ (x : JobRecord). x.source) new) (ap (λ (x : JobRecord). x.held) new) (λ n m other never. absurd never)
            (λ later never. absurd never) (stands.own (ap (λ (x : JobRecord). x.kind) (sym new) ∙ kind))
      ]

  -- a filter is put
  filtered_stand : (t : RunTable) → EdgesHaveEnds t → (new : NodeRecord) (node : ℕ) → node_by_id t new.id ≡ None → filter_role new.kind ≡ Some Filtered
      → ((b : JobRecord) → Contains t.jobs b → UnderIsThere t b) → UnderIsThere t row → Stand t → Stand (changed t (change.PutFilter new node))
  unfolding changed
  filtered_stand t ends new node fresh filters there own_there stands = record {
    all = λ b here kind. put_aside t ends new node fresh filters b (there b here) (stands.all b here kind);
    own = λ kind. put_aside t ends new node fresh filters row own_there (stands.own kind);
  }

-- ---- what a commit unsettles

node_was : (changes : List Change) (t : RunTable) → AreStill changes → (later : NodeRecord) → Contains (all_changed t changes).nodes later → WasNode t later
node_was [] t still_all later at = record { old = later; there = at; id = refl; kind = refl; lost = λ is. is }
node_was (c ∷ changes) t still_all later at =
    let s = still t c still_all.0 in
    let mid = node_was changes (changed t c) still_all.1 later at in
    elim (node_back t c mid.old mid.there) [
      | inl was ↦ record {
        old = was.old;
        there = was.there;
        id = mid.id ∙ was.id;
        kind = mid.kind ∙ was.kind;
        lost = λ is. mid.lost (was.lost is);
      }
      | inr new ↦ absurd (s.node mid.old new)
    ]

abbrev unsettles : List NodeRecord → List Change
unsettles rows = map (λ (r : NodeRecord). change.Unsettle r.id) rows

unsettles_still : (rows : List NodeRecord) → AreStill (unsettles rows)
unsettles_still [] = tt
unsettles_still (r ∷ rows) = (tt, unsettles_still rows)

one_lost : (t : RunTable) (id : ℕ) (later : NodeRecord) → Contains (changed t (change.Unsettle id)).nodes later → later.id ≡ id → later.is_settled ≡ false
unfolding changed
one_lost t id later at same =
    let r = Contains-map (node_changed id unsettled) t.nodes later at in
    by_test r.0 (r.0.id == id) refl r.2
  where
    by_test : (old : NodeRecord) (b : Bool) → (old.id == id) ≡ b → later ≡ cond b (unsettled old) old → later.is_settled ≡ false
    by_test old true own is = ap (λ (x : NodeRecord). x.is_settled) is
    by_test old false other is = absurd (false≢true (sym other ∙ eq-eqb old.id id (ap (λ (x : NodeRecord). x.id) (sym is) ∙ same)))

all_lost : (rows : List NodeRecord) (t : RunTable) (node : NodeRecord) → Contains rows node → (later : NodeRecord) → Contains (all_changed t (unsettles rows)).nodes later
    → later.id ≡ node.id → later.is_settled ≡ false
all_lost [] t node there later at same = absurd (Contains-nil node there)
all_lost (r ∷ rows) t node there later at same = elim (Contains-cases r rows node there) [
  | inr more ↦ all_lost rows (changed t (change.Unsettle r.id)) node more later at same
  | inl here ↦
      let was = node_was rows_changes (changed t (change.Unsettle r.id)) (unsettles_still rows) later at in
      was.lost (one_lost t r.id was.old was.there (sym was.id ∙ same ∙ ap (λ (x : NodeRecord). x.id) here))
]
  where
    rows_changes : List Change
    rows_changes = unsettles rows

module _ (t : RunTable) (h : TableStands t) (j : JobsStand t) (d : EdgesAreDrawn t) (row : JobRecord) (b : JobBegins t row) where
  own_plain : (n : ℕ) → Contains (under_top row) n → IsPlainNode t n
  own_plain n at = b.plain n (under_has row n at)

  commit_loses : (used : List Change) → AreStill used → StandsAside (all_changed t (used ++ commit_unsettles t row)) row
  commit_loses used still_used later at own reads =
      let changes : List Change = used ++ commit_unsettles t row in
      let all_still : AreStill changes = still_append used (commit_unsettles t row) still_used (unsettles_still rows) in
      let was = node_was changes t all_still later at in
      let own_before : filter_role was.old.kind ≡ None = ap filter_role (sym was.kind) ∙ own in
      let before : ReadsAside t row was.old.id = subst (ReadsAside t row) was.id (was_reads row changes t all_still later.id reads) in
      let hit : reads_one_of t row.source (under_top row) was.old ≡ true
      = aside_chains t h row (source_plain t h j row b) own_plain d.listed was.old was.there own_before before in
      all_lost rows (all_changed t used) was.old (filter-keeps (reads_one_of t row.source (under_top row)) t.nodes was.old hit was.there) later
      (subst (λ (x : RunTable). Contains x.nodes later) (all_changed-append t used (commit_unsettles t row)) at) was.id
    where
      rows : List NodeRecord
      rows = filter (reads_one_of t row.source (under_top row)) t.nodes

      still_append : (xs ys : List Change) → AreStill xs → AreStill ys → AreStill (xs ++ ys)
      still_append [] ys x y = y
      still_append (c ∷ xs) ys x y = (x.0, still_append xs ys x.1 y)

  -- ---- a start

  under_like : (now : RunTable) → IsLikeTable t now → (b : JobRecord) → ((n : ℕ) → Contains (under_top b) n → IsPlainNode t n) → UnderIsThere now b
  under_like now like b plain n at = subst IsSome (sym (like.plain n (plain n at)).there) refl

  put_stand : (pre : List Change) → AreBefore pre → (kind : Kind) → filter_role kind ≡ Some Filtered → IsToFilter t row → Stand row (all_changed t pre)
      → Stand row (all_changed t (pre ++ filter_edits t kind row))
  put_stand pre before kind filters f stands =
      subst (Stand row) (sym (all_changed-append t pre (filter_edits t kind row) ∙ ap (all_changed now) put_is))
      (filtered_stand row now (like.ends h.edges) new row.source (like.absent (free_id t) f.fresh) filters
      (λ c here. under_like now like c (under_plain t j c (subst (λ jobs. Contains jobs c) like.jobs here))) (under_like now like row own_plain) stands)
    where
      now : RunTable
      now = all_changed t pre

      like : IsLikeTable t now
      like = all_before pre t before

      p : IsPlainNode t row.source
      p = source_plain t h j row b

      new : NodeRecord
      new = filter_row t kind row.id p.row

      put_is : filter_edits t kind row ≡ change.PutFilter new row.source ∷ []
      put_is =
          ap (of_row (λ r. change.PutFilter (filter_row t kind row.id r) r.id ∷ [])) p.there
          ∙ ap (λ n. change.PutFilter new n ∷ []) (eqb-true p.row.id row.source (find-Some (λ (r : NodeRecord). r.id == row.source) t.nodes p.row p.there).1)

  begun_behind : (pre uses : List Change) → AreStill uses → Stand row (all_changed t pre) → CommitsStandAside (all_changed t (pre ++ change.StartJob row ∷ uses))
  begun_behind pre uses still_uses stands =
      subst CommitsStandAside (sym (all_changed-append t pre (change.StartJob row ∷ uses))) (begun row (all_changed t pre) uses still_uses stands)

  used_still : (what : ℕ → JobUse) (ids : List ℕ) → AreStill (map (λ id. change.UseNode row.slot (what id) id) ids)
  used_still what [] = tt
  used_still what (id ∷ ids) = (tt, used_still what ids)

  target_still : (target : Option ℕ) → AreStill (uses_target row target)
  target_still None = tt
  target_still (Some target) = (tt, tt)

  module _ (stands : CommitsStandAside t) where
    -- no commit begins
    both_of : (k : JobKind) → row.kind ≡ k → (k ≡ Commit → ⊥) → (pre : List Change) → AreBefore pre → Stand row (all_changed t pre)
    both_of k is other pre before = record {
      all = all_still row pre t (before_still pre before) stands;
      own = λ commit. absurd (other (sym is ∙ commit));
    }

    copy_starts : (k : JobKind) → row.kind ≡ k → (k ≡ Commit → ⊥) → (kind : Kind) → filter_role kind ≡ Some Filtered → IsToFilter t row
        → CommitsStandAside (all_changed t (target_edits t row.target ++ filter_edits t kind row ++ change.StartJob row ∷ uses_target row row.target))
    copy_starts k is other kind filters f =
        begun_behind (target_edits t row.target ++ filter_edits t kind row) (uses_target row row.target) (target_still row.target)
        (put_stand (target_edits t row.target) (before_target t row.target) kind filters f (both_of k is other (target_edits t row.target) (before_target t row.target)))

    front : (xs ys : List Change) → AreBefore (xs ++ ys) → AreBefore xs
    front [] ys before = tt
    front (c ∷ xs) ys before = (before.0, front xs ys before.1)

    behind : (xs ys : List Change) → AreBefore (xs ++ ys) → AreBefore ys
    behind [] ys before = before
    behind (c ∷ xs) ys before = behind xs ys before.1

    commit_starts : row.kind ≡ Commit → IsToFilter t row → CommitsStandAside (all_changed t (edits_by_kind t row Commit))
    commit_starts is f =
        begun_behind (pre ++ filter_edits t driver.Commit row) (change.UseNode row.slot CommitTop row.source ∷ commit_uses row)
        (tt, used_still (λ id. cond (is_base row.target id) CommitBase CommitBetween) (under_top row))
        (put_stand pre (before_commit t row) driver.Commit refl f
        (subst (Stand row) (sym (all_changed-append t first (base_edits t row)))
        (both_still row (base_edits t row) (all_changed t first) (before_still (base_edits t row) (behind first (base_edits t row) (before_commit t row))) (record {
          all = all_still row first t (before_still first (front first (base_edits t row) (before_commit t row))) stands;
          own = λ commit. commit_loses (file_used t row.target) (before_still (file_used t row.target) (before_used t row.target));
        }))))
      where
        first : List Change
        first = file_used t row.target ++ commit_unsettles t row

        pre : List Change
        pre = file_used t row.target ++ commit_unsettles t row ++ base_edits t row

    by_kind : (k : JobKind) → row.kind ≡ k → BeginsByKind t row k → CommitsStandAside (all_changed t (edits_by_kind t row k))
    by_kind Stream is s =
        begun_behind (file_used t row.target) (change.UseNode row.slot StreamTop row.source ∷ uses_as row.slot StreamBelow row.read)
        (tt, used_still (λ id. StreamBelow) row.read)
        (both_of Stream is (λ bad. let no : Stream ≡ Commit = bad in cc no) (file_used t row.target) (before_used t row.target))
    by_kind Commit is s = commit_starts is s.filter
    by_kind Mirror is s = copy_starts Mirror is (λ bad. let no : Mirror ≡ Commit = bad in cc no) driver.Mirror refl s.copies.filter
    by_kind Backup is s = copy_starts Backup is (λ bad. let no : Backup ≡ Commit = bad in cc no) driver.BeforeWrite refl s.filter

pub start_aside : (t : RunTable) (row : JobRecord) → TableStands t → JobsStand t → EdgesAreDrawn t → JobBegins t row → CommitsStandAside t
    → CommitsStandAside (all_changed t (start_edits t row))
unfolding start_edits
start_aside t row h j d b stands = by_kind t h j d row b stands row.kind refl b.shape
