-- What the start of a commit unsettles is no source of another job.
use Rattle.std.proofs.Common.{◌≡◌, ◌≢◌, ◌⊎◌, ℕ, zero, suc, List, [], ◌∷◌, ◌++◌, map, refl, sym, ◌∙◌, ap, subst, inl, inr, Bool, true, false, cond, Option, Some, None}
use Rattle.std.specs.Prelude.{◌==◌, ◌||◌, IsSome}
use Rattle.std.specs.Option.{option_map, option_and_then}
use Rattle.std.specs.List.{Contains, list_any}
use Rattle.std.proofs.lemmas.Bool.{false≢true, eqb-true, eqb-false}
use Rattle.blk_graph.specs.declared.edge.Parent.TheVariants.{Node}
use Rattle.blk_graph.specs.declared.edge.Role.{Role}
use Rattle.blk_graph.specs.declared.edge.Role.TheVariants.{Backing, Filtered, Between}
use Rattle.blk_graph.specs.declared.kind.Kind.{Kind}
use Rattle.blk_graph.specs.declared.kind.Kind.TheVariants as driver
use Rattle.blk_graph.specs.declared.kind.JobUse.TheVariants.{CommitTop}
use Rattle.blk_graph.proofs.Members.{Contains-here, find-Some}
use Rattle.qmp_codec.specs.declared.event.JobKind.{JobKind}
use Rattle.qmp_codec.specs.declared.event.JobKind.TheVariants.{Stream, Commit, Mirror, Backup}
use Rattle.qmp_rules.specs.declared.change.Change.{Change}
use Rattle.qmp_rules.specs.declared.change.Change.TheVariants as change
use Rattle.qmp_rules.specs.declared.rows.NodeRecord.{NodeRecord}
use Rattle.qmp_rules.specs.declared.rows.JobRecord.{JobRecord}
use Rattle.qmp_rules.specs.Chains.{filter_role, filtered, disk_from, disk_node, backing, chain_from, chain, is_listed}
use Rattle.qmp_rules.specs.Changes.{changed, all_changed}
use Rattle.qmp_rules.specs.Edits.{free_id, of_row, filter_row, filter_edits, file_used, base_edits, under_top, up_to, commit_unsettles, commit_uses, edits_by_kind, start_edits}
use Rattle.qmp_rules.specs.Table.{RunTable, node_by_id, child}
use Rattle.flat_machine.specs.Suiting.{IsPlainNode}
use Rattle.flat_machine.specs.Wiring.{TableStands}
use Rattle.flat_machine.proofs.FilterPut.{two_filters}
use Rattle.flat_machine.proofs.Kept.{own_disk}
use Rattle.flat_machine.proofs.WritingKept.{RoleEdge, role_edge}
use Rattle.job_tables.specs.Jobs.{StandsByKind, JobsStand, EdgesAreDrawn}
use Rattle.job_tables.specs.Rows.{nodes_of_job, HasFilterOf}
use Rattle.job_tables.specs.Running.{UnsettlesNoSource}
use Rattle.job_tables.specs.Starts.{IsToFilter, CommitBegins, BeginsByKind, JobBegins}
use Rattle.job_tables.proofs.Begun.{IsLikeTable, all_before}
use Rattle.job_tables.proofs.CommitReads.{IsWatched, not_under, step_backing, step_filter}
use Rattle.job_tables.proofs.Drawn.{IsDrawnDraft}
use Rattle.job_tables.proofs.Ended.{all_changed-append}
use Rattle.job_tables.proofs.Put.{child_put}
use Rattle.job_tables.proofs.RowEdges.{listed-Contains, in_left, in_right, holds_source}
use Rattle.job_tables.proofs.Started.{before_commit, source_held, source_plain}
use Rattle.job_tables.proofs.Uses.{UseOf, Used, used_all, change_of, commit_use, commit_changes}

-- the table behind the start of a commit
pub record After (t now : RunTable) (row : JobRecord) : Type 0 where
  pub children : (n m : ℕ) (role : Role) → n ≢ free_id t → role ≢ Between → m ≢ row.source → child t n role ≡ Some m → child now n role ≡ Some m
  pub jobs : now.jobs ≡ t.jobs ++ row ∷ []

module _ (t : RunTable) (h : TableStands t) (row : JobRecord) (p : IsPlainNode t row.source) (f : IsToFilter t row) where
  abbrev pre : List Change
  pre = file_used t row.target ++ commit_unsettles t row ++ base_edits t row

  abbrev first : RunTable
  first = all_changed t pre

  like : IsLikeTable t first
  like = all_before pre t (before_commit t row)

  abbrev new : NodeRecord
  new = filter_row t driver.Commit row.id p.row

  abbrev ready : RunTable
  ready = changed first (change.PutFilter new row.source)

  abbrev with_row : RunTable
  with_row = changed ready (change.StartJob row)

  abbrev uses : List UseOf
  uses = record { what = CommitTop; node = row.source } ∷ map (commit_use row) (under_top row)

  abbrev now : RunTable
  now = all_changed with_row (map (change_of row.slot) uses)

  used : Used with_row now row.slot uses
  used = used_all uses with_row row.slot

  filter_is : filter_edits t driver.Commit row ≡ change.PutFilter new row.source ∷ []
  filter_is =
      ap (of_row (λ r. change.PutFilter (filter_row t driver.Commit row.id r) r.id ∷ [])) p.there
      ∙ ap (λ n. change.PutFilter new n ∷ []) (eqb-true p.row.id row.source (find-Some (λ (r : NodeRecord). r.id == row.source) t.nodes p.row p.there).1)

  ready_is : all_changed t (pre ++ filter_edits t driver.Commit row) ≡ ready
  ready_is = all_changed-append t pre (filter_edits t driver.Commit row) ∙ ap (all_changed first) filter_is

  now_is : all_changed t (edits_by_kind t row Commit) ≡ now
  now_is =
      all_changed-append t (pre ++ filter_edits t driver.Commit row) (change.StartJob row ∷ change.UseNode row.slot CommitTop row.source ∷ commit_uses row)
      ∙ ap (λ x. all_changed x (change.StartJob row ∷ change.UseNode row.slot CommitTop row.source ∷ commit_uses row)) ready_is
      ∙ ap (all_changed with_row) (sym (commit_changes row))

  jobs_now : now.jobs ≡ t.jobs ++ row ∷ []
  unfolding changed
  jobs_now = used.jobs ∙ ap (λ jobs. jobs ++ row ∷ []) like.jobs

  children_now : (n m : ℕ) (role : Role) → n ≢ free_id t → role ≢ Between → m ≢ row.source → child t n role ≡ Some m → child now n role ≡ Some m
  unfolding changed
  children_now n m role apart single other is =
      used.children n role
      ∙ child_put first new row.source (like.absent (free_id t) f.fresh) (like.ends h.edges) n role m apart single other (like.children n role ∙ is)

  after : After t (all_changed t (edits_by_kind t row Commit)) row
  after = subst (λ w. After t w row) (sym now_is) (record { children = children_now; jobs = jobs_now })

module _ (t : RunTable) (h : TableStands t) (j : JobsStand t) (row : JobRecord) (b : JobBegins t row) (kind : row.kind ≡ Commit)
    (w : RunTable) (a : After t w row) (jw : JobsStand w) (dw : EdgesAreDrawn w) (dr : IsDrawnDraft w) where
  abbrev top : ℕ
  top = row.source

  begins : CommitBegins t row
  begins = subst (BeginsByKind t row) kind b.shape

  own_in : Contains w.jobs row
  own_in = subst (λ rows. Contains rows row) (sym a.jobs) (in_right t.jobs (row ∷ []) row (Contains-here row []))

  other_in : (x : JobRecord) → Contains t.jobs x → Contains w.jobs x
  other_in x there = subst (λ rows. Contains rows x) (sym a.jobs) (in_left t.jobs (row ∷ []) x there)

  abbrev Watched : ℕ → Type 0
  Watched = IsWatched t w jw dw dr.draft row own_in kind

  abbrev Reached : ℕ → Type 0
  Reached n = (n ≡ top) ⊎ Watched n

  not_new : (n : ℕ) → IsSome (node_by_id t n) → n ≢ free_id t
  not_new n some same = let bad = subst IsSome (ap (node_by_id t) same ∙ begins.filter.fresh) some in cc bad

  -- ---- one step

  to_backing : (n m : ℕ) → Watched n → child t n Backing ≡ Some m → Reached m
  to_backing n m at is = by_test (m == top) refl
    where
      e : RoleEdge t.edges (Node n) Backing m
      e = role_edge (Node n) Backing t.edges m is

      by_test : (c : Bool) → (m == top) ≡ c → Reached m
      by_test true same = inl (eqb-true m top same)
      by_test false other =
          inr (step_backing t w jw dw dr.draft row own_in kind n m at
          (a.children n m Backing (not_new n ((h.edges e.edge e.there).parent n e.from)) (λ bad. let no : Backing ≡ Between = bad in cc no) (eqb-false m top other) is) is)

  to_filtered : (n m : ℕ) → child t n Filtered ≡ Some m → Reached m
  to_filtered n m is = by_test (m == top) refl
    where
      e : RoleEdge t.edges (Node n) Filtered m
      e = role_edge (Node n) Filtered t.edges m is

      by_test : (c : Bool) → (m == top) ≡ c → Reached m
      by_test true same = inl (eqb-true m top same)
      by_test false other =
          step_filter t w jw dw dr.draft row own_in kind n m
          (a.children n m Filtered (not_new n ((h.edges e.edge e.there).parent n e.from)) (λ bad. let no : Filtered ≡ Between = bad in cc no) (eqb-false m top other) is)

  -- a node leads to it
  abbrev IsUnder : ℕ → Type 0
  IsUnder m = (over : ℕ) × (role : Role) × RoleEdge t.edges (Node over) role m

  through_filters : (k m : ℕ) → Reached m → IsUnder m → Reached (disk_from k t m)
  through_filters zero m at under = at
  through_filters (suc k) m at under = by_filtered (filtered t m) refl (through_filters k)
    where
      by_role : (below : ℕ) (r : NodeRecord) → node_by_id t m ≡ Some r → (role : Option Role) → filter_role r.kind ≡ role → option_and_then (child t m) role ≡ Some below
          → (Reached below × IsUnder below)
      by_role below r found None of is = absurd cc
      by_role below r found (Some role) of is = elim (two_filters r.kind role of) [
        | inl copies ↦
            let at_row = find-Some (λ (x : NodeRecord). x.id == m) t.nodes r found in
            absurd (h.on_top under.2.edge r under.0 under.2.there at_row.0 under.2.from (under.2.to ∙ sym (eqb-true r.id m at_row.1)) copies)
        | inr over ↦
            let down : child t m Filtered ≡ Some below = subst (λ x. child t m x ≡ Some below) over is in
            (to_filtered m below down, (m, Filtered, role_edge (Node m) Filtered t.edges below down))
      ]

      by_row : (below : ℕ) (found : Option NodeRecord) → node_by_id t m ≡ found → option_and_then (child t m) (option_and_then (λ x. filter_role x.kind) found) ≡ Some below
          → (Reached below × IsUnder below)
      by_row below None found is = absurd cc
      by_row below (Some r) found is = by_role below r found (filter_role r.kind) refl is

      by_filtered : (o : Option ℕ) → filtered t m ≡ o → ((below : ℕ) → Reached below → IsUnder below → Reached (disk_from k t below)) → Reached (elim o as (λ _. ℕ) [ None ↦ m | Some below ↦ disk_from k t below ])
      by_filtered None none more = at
      by_filtered (Some below) is more =
          let next = by_row below (node_by_id t m) refl is in
          more below next.0 next.1

  down : (n m : ℕ) → Watched n → child t n Backing ≡ Some m → Reached (disk_node t m)
  unfolding disk_node
  down n m at is = through_filters 64 m (to_backing n m at is) (n, Backing, role_edge (Node n) Backing t.edges m is)

  -- ---- along a chain

  abbrev is_shut : ℕ → Bool
  is_shut id = is_listed id (under_top row)

  head : (n : ℕ) (rest : List ℕ) → Reached n → list_any is_shut (up_to top (n ∷ rest)) ≡ true → (Watched n → list_any is_shut (up_to top rest) ≡ true → ⊥) → ⊥
  head n rest at any more = by_test (n == top) refl any
    where
      watched : n ≢ top → Reached n → Watched n
      watched other (inl same) = absurd (other same)
      watched other (inr x) = x

      by_shut : (c : Bool) → is_shut n ≡ c → Watched n → (c || list_any is_shut (up_to top rest)) ≡ true → ⊥
      by_shut true is x any = not_under t w jw dw dr.draft row own_in kind n (listed-Contains n (under_top row) is) x
      by_shut false is x any = more x any

      by_test : (c : Bool) → (n == top) ≡ c → list_any is_shut (cond c [] (n ∷ up_to top rest)) ≡ true → ⊥
      by_test true same any = false≢true any
      by_test false other any = by_shut (is_shut n) refl (watched (eqb-false n top other) at) any

  walk : (k n : ℕ) → Reached n → list_any is_shut (up_to top (chain_from k t n)) ≡ true → ⊥
  walk zero n at any = head n [] at any (λ x none. false≢true none)
  walk (suc k) n at any =
      head n (elim (backing t n) as (λ _. List ℕ) [ None ↦ [] | Some below ↦ chain_from k t below ]) at any (λ x rest. by_child x (child t n Backing) refl (walk k) rest)
    where
      by_child : Watched n → (o : Option ℕ) → child t n Backing ≡ o → ((m : ℕ) → Reached m → list_any is_shut (up_to top (chain_from k t m)) ≡ true → ⊥)
          → list_any is_shut (up_to top (elim (option_map (disk_node t) o) as (λ _. List ℕ) [ None ↦ [] | Some below ↦ chain_from k t below ])) ≡ true → ⊥
      by_child x None none more rest = false≢true rest
      by_child x (Some m) is more rest = more (disk_node t m) (down n m x is) rest

  -- ---- from the source of a job

  apart : (x : JobRecord) → Contains t.jobs x → x.source ≢ top
  apart x there same =
      b.holds x top there (source_held t h j row b)
      (subst (Contains (nodes_of_job x)) same (in_left x.held x.read x.source (holds_source t x (j.each x there))))

  copy_from : (x : JobRecord) → Contains t.jobs x → (k : Kind) → HasFilterOf t x k → Watched x.source
  copy_from x there k g = elim (to_filtered g.filter x.source g.over) [ inl same ↦ absurd (apart x there same) | inr at ↦ at ]

  from_source : (x : JobRecord) → Contains t.jobs x → (k : JobKind) → x.kind ≡ k → StandsByKind t x k → StandsByKind w x k → Watched x.source
  from_source x there Stream is s now = inr (inr (record {
    row = x;
    there = other_in x there;
    other = b.own_slot x there;
    kind_is = is;
    held = holds_source t x (j.each x there);
    reads = λ m down. s.below m down;
  }))
  from_source x there Commit is s now = inr (inl (record {
    row = x;
    there = other_in x there;
    other = b.own_slot x there;
    kind_is = is;
    shape = now;
    at = Contains-here x.source now.between;
  }))
  from_source x there Mirror is s now = copy_from x there driver.Mirror s.filter
  from_source x there Backup is s now = copy_from x there driver.BeforeWrite s.filter

  pub unsettles_none : UnsettlesNoSource t row Commit
  unfolding chain
  unsettles_none node there reads x at same =
      let of : IsPlainNode t x.source = (j.each x at).plain x.source (in_left x.held x.read x.source (holds_source t x (j.each x at))) in
      let own : disk_node t node.id ≡ x.source = ap (disk_node t) (sym same) ∙ own_disk t x.source of.row of.there of.own in
      walk 64 x.source (inr (from_source x at x.kind refl (j.each x at).shape (jw.each x (other_in x at)).shape))
      (sym (ap (λ n. list_any is_shut (up_to top (chain t n))) own) ∙ reads)

pub no_source_unsettled : (t : RunTable) → TableStands t → JobsStand t → (row : JobRecord) → JobBegins t row → row.kind ≡ Commit
    → JobsStand (all_changed t (start_edits t row)) → EdgesAreDrawn (all_changed t (start_edits t row)) → IsDrawnDraft (all_changed t (start_edits t row))
    → UnsettlesNoSource t row Commit
unfolding start_edits
no_source_unsettled t h j row b kind jw dw dr =
    let begins : CommitBegins t row = subst (BeginsByKind t row) kind b.shape in
    unsettles_none t h j row b kind (all_changed t (edits_by_kind t row row.kind))
    (subst (λ k. After t (all_changed t (edits_by_kind t row k)) row) (sym kind) (after t h row (source_plain t h j row b) begins.filter)) jw dw dr
