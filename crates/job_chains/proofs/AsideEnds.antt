-- Commits stand aside behind the ends of jobs: no other job's target or base reads what a commit writes.
use Rattle.std.proofs.Common.{◌≡◌, ◌≢◌, ℕ, List, [], ◌∷◌, ◌++◌, map, refl, sym, ◌∙◌, ap, subst, inl, inr, Bool, true, false, cond, Option, Some, None}
use Rattle.std.specs.Prelude.{◌==◌, not, drop, slice_get}
use Rattle.std.specs.Option.{option_and_then}
use Rattle.std.specs.List.{Contains}
use Rattle.std.proofs.lemmas.Bool.{false≢true, eq-eqb}
use Rattle.blk_graph.specs.declared.edge.Parent.TheVariants.{Job}
use Rattle.blk_graph.specs.declared.edge.Role.{Role}
use Rattle.blk_graph.specs.declared.edge.Role.TheVariants.{File, Filtered}
use Rattle.blk_graph.specs.declared.kind.Kind.{Kind}
use Rattle.blk_graph.specs.declared.kind.Kind.TheVariants as driver
use Rattle.blk_graph.specs.declared.kind.JobUse.TheVariants.{CopyTarget, CommitTop, CommitBetween, CommitBase, StreamTop, StreamBelow}
use Rattle.blk_graph.specs.Permissions.{job_edge, job_uses}
use Rattle.blk_graph.proofs.Members.{Contains-here, Contains-there, Contains-filter, map-Contains}
use Rattle.qmp_codec.specs.declared.event.JobKind.{JobKind}
use Rattle.qmp_codec.specs.declared.event.JobKind.TheVariants.{Stream, Commit, Mirror, Backup}
use Rattle.qmp_rules.specs.declared.change.Change.{Change}
use Rattle.qmp_rules.specs.declared.change.Change.TheVariants as change
use Rattle.qmp_rules.specs.declared.change.NewDisk.{NewDisk}
use Rattle.qmp_rules.specs.declared.change.NewDisk.TheVariants.{OfNode, OfStart}
use Rattle.qmp_rules.specs.declared.change.JobOutcome.{JobOutcome}
use Rattle.qmp_rules.specs.declared.change.JobOutcome.TheVariants.{Completed, Pivoted, Copied, Stopped}
use Rattle.qmp_rules.specs.declared.rows.NodeRecord.{NodeRecord}
use Rattle.qmp_rules.specs.declared.rows.JobRecord.{JobRecord}
use Rattle.qmp_rules.specs.Asks.{is_base}
use Rattle.qmp_rules.specs.Chains.{filter_role}
use Rattle.qmp_rules.specs.Changes.{changed, all_changed}
use Rattle.qmp_rules.specs.Edits.{under_top}
use Rattle.qmp_rules.specs.Ends.{drops_aside, filter_gone as pulled, overlay_to, parents_to, settle_if, settles_target, settled_by, top_lost, read_only_if, given_back_to, end_edits}
use Rattle.qmp_rules.specs.Table.{RunTable, node_by_id, child}
use Rattle.flat_machine.specs.Wiring.{TableStands}
use Rattle.job_tables.specs.Accepted.{HaveSmallIds}
use Rattle.job_tables.specs.Jobs.{StandsByKind, JobsStand, EdgesAreDrawn}
use Rattle.job_tables.specs.Rows.{commit_edge, HasFilterOf}
use Rattle.job_tables.proofs.CommitReads.{IsWatched, not_under, step_backing, step_filter}
use Rattle.job_tables.proofs.Drawn.{IsDraft}
use Rattle.job_tables.proofs.Ended.{moves_by, rest_by, end_is}
use Rattle.job_tables.proofs.RowEdges.{in_right}
use Rattle.job_chains.specs.Aside.{ReadsAsideBy, ReadsAside, CommitsStandAside}
use Rattle.job_chains.proofs.AsideSteps.{NewStep, StepFits}
use Rattle.job_chains.proofs.AsideKept.{NewJob, NewNode, job_back, aside_on, was_aside}
use Rattle.job_chains.proofs.AsideChanges.{top_plain, change_aside}

-- ---- what another job reads at its base, or writes

module _ (t : RunTable) (h : TableStands t) (j : JobsStand t) (d : EdgesAreDrawn t) (small : HaveSmallIds t) (row : JobRecord) (here : Contains t.jobs row)
    (kind : row.kind ≡ Commit) where
  draft : IsDraft t
  draft = record { apart = h.apart; ends = h.edges; small = small; listed = d.listed; table = d.table; acyclic = h.acyclic }

  abbrev Watched : ℕ → Type 0
  Watched = IsWatched t t j d draft row here kind

  watched_clear : (path : List ℕ) (n : ℕ) → Watched n → ReadsAsideBy t row n path → ⊥
  watched_clear [] n at is = not_under t t j d draft row here kind n is.1 at
  watched_clear (m ∷ path) n at is = elim is.1 [
    | inl back ↦ watched_clear path m (step_backing t t j d draft row here kind n m at back back) is.2
    | inr down ↦ elim (step_filter t t j d draft row here kind n m down) [
      | inl top ↦ off path m top is.2
      | inr more ↦ watched_clear path m more is.2
    ]
  ]
    where
      off : (path : List ℕ) (m : ℕ) → m ≡ row.source → ReadsAsideBy t row m path → ⊥
      off [] m top is = is.0 top
      off (k ∷ path) m top is = is.0 top

  module _ (other : JobRecord) (there : Contains t.jobs other) (apart : other.slot ≢ row.slot) where
    not_own : Job other.slot ≢ Job row.slot
    not_own same = apart (cc same)

    target_read : (k : JobKind) → other.kind ≡ k → StandsByKind t other k → (target : ℕ) → other.target ≡ Some target → Watched target
    target_read Stream of s target is =
        let r = s.reads target is in
        let at : Contains other.read target = subst (λ ids. Contains ids target) (sym r.read) (in_right r.between (target ∷ []) target (Contains-here target [])) in
        inl (record {
          edge = job_edge other.slot StreamBelow target;
          there = (j.each other there).edges (job_edge other.slot StreamBelow target)
              (rw of (Contains-there (job_edge other.slot StreamTop other.source) (map (job_edge other.slot StreamBelow) other.read) (job_edge other.slot StreamBelow target)
              (map-Contains (job_edge other.slot StreamBelow) other.read target at)));
          to = refl;
          reads = refl;
          other = not_own;
        })
    target_read Commit of s target is =
        let both : Some s.base ≡ Some target = sym s.is_base ∙ is in
        let same : s.base ≡ target = cc both in
        let at : Contains (under_top other) target =
        subst (λ ids. Contains (drop 1 ids) target) (sym s.held) (in_right s.between (s.base ∷ []) target (subst (Contains (s.base ∷ [])) same (Contains-here s.base []))) in
        inl (record {
          edge = commit_edge other target;
          there = (j.each other there).edges (commit_edge other target)
              (rw of (Contains-there (job_edge other.slot CommitTop other.source) (map (commit_edge other) (under_top other)) (commit_edge other target)
              (map-Contains (commit_edge other) (under_top other) target at)));
          to = refl;
          reads = ap (λ b. (job_uses (cond b CommitBase CommitBetween)).perm.read) (ap (λ o. is_base o target) is ∙ eq-eqb target target refl);
          other = not_own;
        })
    target_read Mirror of s target is = inl (record {
      edge = job_edge other.slot CopyTarget target;
      there = (j.each other there).edges (job_edge other.slot CopyTarget target) (rw (of, is) (Contains-here (job_edge other.slot CopyTarget target) []));
      to = refl;
      reads = refl;
      other = not_own;
    })
    target_read Backup of s target is = inl (record {
      edge = job_edge other.slot CopyTarget target;
      there = (j.each other there).edges (job_edge other.slot CopyTarget target) (rw (of, is) (Contains-here (job_edge other.slot CopyTarget target) []));
      to = refl;
      reads = refl;
      other = not_own;
    })

    pub target_clear : (target : ℕ) → other.target ≡ Some target → ReadsAside t row target → ⊥
    target_clear target is reads = watched_clear reads.0 target (target_read other.kind refl (j.each other there).shape target is) reads.1

    -- its filter is not the top
    filter_off : (k : Kind) (role : Role) → filter_role k ≡ Some role → HasFilterOf t other k → (f : ℕ) → other.filter ≡ Some f → f ≢ row.source
    filter_off k role of has f is same =
        let both : Some has.filter ≡ Some f = sym has.is_filter ∙ is in
        let one : has.filter ≡ f = cc both in
        let p = top_plain t j row here in
        let rows : Some has.node ≡ Some p.row = sym has.there ∙ ap (node_by_id t) (one ∙ same) ∙ p.there in
        let row_is : has.node ≡ p.row = cc rows in
        let bad : Some role ≡ None = sym of ∙ ap filter_role (sym has.kind_is) ∙ ap (λ (x : NodeRecord). filter_role x.kind) row_is ∙ p.own in
        cc bad

    pub filter_apart : (f : ℕ) → other.filter ≡ Some f → f ≢ row.source
    filter_apart f is = by_kind other.kind (j.each other there).shape
      where
        by_kind : (k : JobKind) → StandsByKind t other k → f ≢ row.source
        by_kind Stream s = absurd (let bad : None ≡ Some f = sym s.bare ∙ is in cc bad)
        by_kind Commit s = filter_off driver.Commit Filtered refl s.filter f is
        by_kind Mirror s = filter_off driver.Mirror Filtered refl s.filter f is
        by_kind Backup s = filter_off driver.BeforeWrite Filtered refl s.filter f is

-- ---- the changes behind the end of a job's row

module _ (filter target : Option ℕ) where
  abbrev IsOfEnd : Change → Type 0
  IsOfEnd (change.PullFilter f) = filter ≡ Some f
  IsOfEnd (change.Rebase node backing) = backing ≡ target
  IsOfEnd (change.Move from to but) = target ≡ Some to
  IsOfEnd (change.Settle node disk) = target ≡ Some node
  IsOfEnd (change.Unsettle node) = Unit {0}
  IsOfEnd (change.MakeReadOnly node) = Unit {0}
  IsOfEnd c = ⊥

  abbrev pub AllOfEnd : List Change → Type 0
  AllOfEnd [] = Unit {0}
  AllOfEnd (c ∷ changes) = IsOfEnd c × AllOfEnd changes

  pub of_end_append : (a b : List Change) → AllOfEnd a → AllOfEnd b → AllOfEnd (a ++ b)
  of_end_append [] b h k = k
  of_end_append (c ∷ a) b h k = (h.0, of_end_append a b h.1 k)

  -- no commit that is left has to do with the target or the filter
  pub record IsApartFrom (t : RunTable) (row : JobRecord) : Type 0 where
    pub clear : (x : ℕ) → target ≡ Some x → ReadsAside t row x → ⊥
    pub off : (f : ℕ) → filter ≡ Some f → f ≢ row.source

  abbrev pub AreApartFrom : RunTable → Type 0
  AreApartFrom t = (row : JobRecord) → Contains t.jobs row → row.kind ≡ Commit → IsApartFrom t row

  end_fits : (t : RunTable) (c : Change) → IsOfEnd c → StepFits t c
  end_fits t (change.PullFilter f) of = tt
  end_fits t (change.Rebase node backing) of = tt
  end_fits t (change.Move from to but) of = tt
  end_fits t (change.Settle node disk) of = tt
  end_fits t (change.Unsettle node) of = tt
  end_fits t (change.MakeReadOnly node) of = tt
  end_fits t c of = absurd of

  no_new : (c : Change) → IsOfEnd c → (row : JobRecord) → NewJob c row → ⊥
  no_new (change.PullFilter f) of row new = new
  no_new (change.Rebase node backing) of row new = new
  no_new (change.Move from to but) of row new = new
  no_new (change.Settle node disk) of row new = new
  no_new (change.Unsettle node) of row new = new
  no_new (change.MakeReadOnly node) of row new = new
  no_new c of row new = of

  module _ (t : RunTable) (apart : AreApartFrom t) where
    end_steps : (c : Change) → IsOfEnd c → (row : JobRecord) → Contains t.jobs row → row.kind ≡ Commit → (n m : ℕ) → n ≢ row.source → NewStep t c n m → ReadsAside t row m
        → ReadsAside t row n
    end_steps (change.PullFilter f) of row here kind n m other new reads =
        aside_on t row n f other new.1 (aside_on t row f m ((apart row here kind).off f of) (inr new.0) reads)
    end_steps (change.Rebase node backing) of row here kind n m other new reads = absurd ((apart row here kind).clear m (sym of ∙ new.1) reads)
    end_steps (change.Move from to but) of row here kind n m other new reads = absurd ((apart row here kind).clear to of (subst (ReadsAside t row) new.0 reads))
    end_steps (change.Settle node disk) of row here kind n m other new reads = absurd new
    end_steps (change.Unsettle node) of row here kind n m other new reads = absurd new
    end_steps (change.MakeReadOnly node) of row here kind n m other new reads = absurd new
    end_steps c of row here kind n m other new reads = absurd of

    end_nodes : (c : Change) → IsOfEnd c → (row : JobRecord) → Contains t.jobs row → row.kind ≡ Commit → (later : NodeRecord) → NewNode c later → filter_role later.kind ≡ None
        → ReadsAside t row later.id → later.is_settled ≡ false
    end_nodes (change.Settle node disk) of row here kind later new own reads = absurd ((apart row here kind).clear node of (subst (ReadsAside t row) new reads))
    end_nodes (change.PullFilter f) of row here kind later new own reads = absurd new
    end_nodes (change.Rebase node backing) of row here kind later new own reads = absurd new
    end_nodes (change.Move from to but) of row here kind later new own reads = absurd new
    end_nodes (change.Unsettle node) of row here kind later new own reads = absurd new
    end_nodes (change.MakeReadOnly node) of row here kind later new own reads = absurd new
    end_nodes c of row here kind later new own reads = absurd of

    end_change : (c : Change) → IsOfEnd c → CommitsStandAside t → CommitsStandAside (changed t c)
    end_change c of = change_aside t c (end_fits t c of) (no_new c of) (end_steps c of) (end_nodes c of)

    end_apart : (c : Change) → IsOfEnd c → AreApartFrom (changed t c)
    end_apart c of row there kind = elim (job_back t c row there) [
      | inr new ↦ absurd (no_new c of row new)
      | inl was ↦
          let before : was.old.kind ≡ Commit = sym was.kind ∙ kind in
          let a = apart was.old was.there before in
          record {
            clear = λ x is reads. a.clear x is
                (was_aside t c (end_fits t c of) row was.old was.source was.held (end_steps c of was.old was.there before) x reads);
            off = λ f is same. a.off f is (same ∙ was.source);
          }
    ]

  pub behind_end : (changes : List Change) (t : RunTable) → AllOfEnd changes → AreApartFrom t → CommitsStandAside t → CommitsStandAside (all_changed t changes)
  behind_end [] t of apart stands = stands
  behind_end (c ∷ changes) t of apart stands = behind_end changes (changed t c) of.1 (end_apart t apart c of.0) (end_change t apart c of.0 stands)

-- ---- they are such

module _ (row : JobRecord) where
  abbrev OfEnd : List Change → Type 0
  OfEnd changes = AllOfEnd row.filter row.target changes

  pulled_of : (o : Option ℕ) → row.filter ≡ o → OfEnd (pulled o)
  pulled_of None is = tt
  pulled_of (Some f) is = (is, tt)

  overlay_of : (o : Option ℕ) → OfEnd (overlay_to o row.target)
  overlay_of None = tt
  overlay_of (Some overlay) = (refl, tt)

  parents_of : (f o : Option ℕ) → row.target ≡ o → OfEnd (parents_to row.source f o)
  parents_of None o is = tt
  parents_of (Some f) None is = tt
  parents_of (Some f) (Some target) is = (is, tt)

  moves_of : (k : JobKind) (o : JobOutcome) → OfEnd (moves_by row k o)
  moves_of k Stopped = tt
  moves_of Stream Completed = (refl, tt)
  moves_of Commit Completed = overlay_of (slice_get row.read 0)
  moves_of Mirror Completed = tt
  moves_of Backup Completed = tt
  moves_of Stream Pivoted = tt
  moves_of Commit Pivoted = parents_of row.filter row.target refl
  moves_of Mirror Pivoted = parents_of row.filter row.target refl
  moves_of Backup Pivoted = tt
  moves_of Stream Copied = tt
  moves_of Commit Copied = tt
  moves_of Mirror Copied = tt
  moves_of Backup Copied = tt

  settle_of : (b : Bool) (o : Option ℕ) (disk : NewDisk) → row.target ≡ o → OfEnd (settle_if b o disk)
  settle_of true (Some target) disk is = (is, tt)
  settle_of true None disk is = tt
  settle_of false o disk is = tt

  settled_of : (k : JobKind) → OfEnd (settled_by row k)
  settled_of Stream = tt
  settled_of Commit = settle_of true row.target (OfNode row.source) refl
  settled_of Mirror = settle_of true row.target (OfNode row.source) refl
  settled_of Backup = settle_of (settles_target row.bitmap) row.target (OfStart row.number) refl

  top_of_end : (k : JobKind) (o : JobOutcome) → OfEnd (top_lost row k o)
  top_of_end Commit Pivoted = (tt, tt)
  top_of_end k o = tt

  rest_of : (k : JobKind) (o : JobOutcome) → OfEnd (rest_by row k o)
  rest_of k Stopped = tt
  rest_of k Completed = of_end_append row.filter row.target (settled_by row k) (top_lost row k Completed) (settled_of k) (top_of_end k Completed)
  rest_of k Pivoted = of_end_append row.filter row.target (settled_by row k) (top_lost row k Pivoted) (settled_of k) (top_of_end k Pivoted)
  rest_of k Copied = of_end_append row.filter row.target (settled_by row k) (top_lost row k Copied) (settled_of k) (top_of_end k Copied)

  only_of : (b : Bool) (o : Option ℕ) → OfEnd (read_only_if b o)
  only_of true (Some id) = (tt, tt)
  only_of true None = tt
  only_of false o = tt

  back_of : (t : RunTable) → OfEnd (read_only_if row.made_writable.base row.target ++ read_only_if row.made_writable.file (option_and_then (λ base. child t base File) row.target))
  back_of t =
      of_end_append row.filter row.target (read_only_if row.made_writable.base row.target)
      (read_only_if row.made_writable.file (option_and_then (λ base. child t base File) row.target))
      (only_of row.made_writable.base row.target) (only_of row.made_writable.file (option_and_then (λ base. child t base File) row.target))

  given_of : (t : RunTable) (o : JobOutcome) → OfEnd (given_back_to t row o)
  given_of t Pivoted = tt
  given_of t Completed = back_of t
  given_of t Copied = back_of t
  given_of t Stopped = back_of t

  all_of : (t : RunTable) (o : JobOutcome) → OfEnd ((pulled row.filter ++ moves_by row row.kind o) ++ (rest_by row row.kind o ++ given_back_to t row o))
  all_of t o =
      of_end_append row.filter row.target (pulled row.filter ++ moves_by row row.kind o) (rest_by row row.kind o ++ given_back_to t row o)
      (of_end_append row.filter row.target (pulled row.filter) (moves_by row row.kind o) (pulled_of row.filter refl) (moves_of row.kind o))
      (of_end_append row.filter row.target (rest_by row row.kind o) (given_back_to t row o) (rest_of row.kind o) (given_of t o))

-- ---- an end

pub end_aside : (t : RunTable) (row : JobRecord) (o : JobOutcome) → TableStands t → JobsStand t → EdgesAreDrawn t → HaveSmallIds t → Contains t.jobs row → CommitsStandAside t
    → CommitsStandAside (all_changed t (end_edits t row o))
unfolding changed
end_aside t row o h j d small here stands =
    subst (λ (changes : List Change). CommitsStandAside (all_changed t changes)) (sym (end_is t row o))
    (behind_end row.filter row.target ((pulled row.filter ++ moves_by row row.kind o) ++ (rest_by row row.kind o ++ given_back_to t row o)) over (all_of row t o)
    apart (change_aside t first tt (λ b never. never) (λ b there kind n m other never. absurd never) (λ b there kind later never. absurd never) stands))
  where
    first : Change
    first = change.EndJob row.number row.slot (drops_aside o row.bitmap)

    over : RunTable
    over = changed t first

    none : (a : Bool) → a ≡ true → not a ≡ true → ⊥
    none true h k = false≢true k
    none false h k = false≢true h

    left : (b : JobRecord) → Contains over.jobs b → Contains t.jobs b × (b.number ≢ row.number)
    left b at =
        let r = Contains-filter (λ (x : JobRecord). not (x.number == row.number)) t.jobs b at in
        (r.0, λ same. none (b.number == row.number) (eq-eqb b.number row.number same) r.1)

    apart : AreApartFrom row.filter row.target over
    apart b at kind =
        let was = left b at in
        let other : row.slot ≢ b.slot = λ same. was.1 (ap (λ (x : JobRecord). x.number) (j.slots b row was.0 here (sym same))) in
        record {
          clear = λ x is reads. target_clear t h j d small b was.0 kind row here other x is
              (was_aside t first tt b b refl refl (λ n m off never. absurd never) x reads);
          off = filter_apart t h j d small b was.0 kind row here other;
        }
