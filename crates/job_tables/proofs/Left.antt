-- The end of a job leaves the other jobs standing.
use Rattle.std.proofs.Common.{◌≡◌, ◌≢◌, ◌⊎◌, ℕ, List, [], ◌∷◌, ◌++◌, refl, sym, ◌∙◌, ap, subst, inl, inr, Bool, true, false, cond, Option, Some, None}
use Rattle.std.specs.Prelude.{◌==◌, not}
use Rattle.std.specs.List.{Contains, filter}
use Rattle.std.proofs.lemmas.Bool.{false≢true, eqb-true, eqb-false}
use Rattle.blk_graph.specs.declared.edge.Edge.{Edge}
use Rattle.blk_graph.specs.declared.edge.Parent.TheVariants.{Node, Job}
use Rattle.blk_graph.specs.declared.edge.Role.TheVariants.{Backing, Filtered}
use Rattle.blk_graph.specs.declared.kind.Kind.{Kind}
use Rattle.blk_graph.specs.declared.kind.Kind.TheVariants as driver
use Rattle.blk_graph.specs.declared.kind.NodeKind.{NodeKind}
use Rattle.blk_graph.specs.Edges.{same_parent}
use Rattle.blk_graph.specs.Edits.{is_edge, with_edge, with_replaced, without_filter, without_parent}
use Rattle.blk_graph.specs.Paths.{Reaches}
use Rattle.blk_graph.specs.Permissions.{node_edge}
use Rattle.blk_graph.specs.Refreshed.{refreshed}
use Rattle.blk_graph.proofs.EditLemmas.{Contains-with_edge}
use Rattle.blk_graph.proofs.Members.{Contains-nil, Contains-here, Contains-there, Contains-cases, Contains-filter}
use Rattle.blk_graph.proofs.PathLemmas.{Reaches-edge, Reaches-joined, Reaches-covered}
use Rattle.blk_graph.proofs.RefreshLemmas.{child_of-refreshed}
use Rattle.qmp_codec.specs.declared.event.JobKind.{JobKind}
use Rattle.qmp_codec.specs.declared.event.JobKind.TheVariants.{Stream, Commit, Mirror, Backup}
use Rattle.qmp_rules.specs.declared.change.Change.{Change}
use Rattle.qmp_rules.specs.declared.change.Change.TheVariants as change
use Rattle.qmp_rules.specs.declared.change.JobOutcome.{JobOutcome}
use Rattle.qmp_rules.specs.declared.change.JobOutcome.TheVariants.{Completed, Pivoted, Copied, Stopped}
use Rattle.qmp_rules.specs.declared.rows.NodeRecord.{NodeRecord}
use Rattle.qmp_rules.specs.declared.rows.JobRecord.{JobRecord}
use Rattle.qmp_rules.specs.Changes.{changed, all_changed, node_changed, settled, unsettled, kept_from_writes, without_job, without_record}
use Rattle.qmp_rules.specs.Ends.{drops_aside, filter_gone as pulled_edits, moves, given_back_to, end_edits}
use Rattle.qmp_rules.specs.Table.{RunTable, child, kinds_of}
use Rattle.flat_machine.specs.Wiring.{TableStands}
use Rattle.flat_machine.proofs.Tables.{refreshed-old}
use Rattle.job_edges.specs.Copies.{Copied as Mirrored, IsApartFrom, AreApart}
use Rattle.job_edges.specs.Held.{is_job_filter}
use Rattle.job_edges.proofs.Cycles.{led}
use Rattle.job_tables.specs.Rows.{nodes_of_job, HasFilterOf, mirror_to, mirrors}
use Rattle.job_tables.specs.Jobs.{CopyStands, IsOverFilter, CommitJobStands, StreamJobStands, StandsByKind, JobsStand, EdgesAreDrawn}
use Rattle.job_tables.proofs.RowEdges.{in_left, in_right, in_either, copy_holds, holds_source}
use Rattle.job_tables.proofs.Shapes.{in_mirrors, mirror_target, top_down, overlay_stands, stream_way, base_in, is_held}
use Rattle.job_tables.proofs.Kept.{refreshed_jobs, refreshed_jobs_back}
use Rattle.job_tables.proofs.Changes.{filter_of, plain_no_filter}
use Rattle.job_tables.proofs.Plain.{KeepsRow, file-before}
use Rattle.job_tables.proofs.Others.{OthersStand, over_others, IsNobodys, pull_others, pull_leads, child_over_filter, child_left, move_others, move_leads, NoLinkFrom, rebase_others, unsettled_row, mapped_others}
use Rattle.job_tables.proofs.Ended.{IsQuiet, AreQuiet, all_changed-append, moves_by, rest_by, end_is, quiet-append, quiet_rest, quiet_given}

-- ---- mirrors of fewer jobs

in_mirrors_of : (p : JobRecord → Bool) (rows : List JobRecord) (x : Mirrored) → Contains (mirrors (filter p rows)) x → Contains (mirrors rows) x
in_mirrors_of p [] x there = there
in_mirrors_of p (row ∷ rows) x there = by_test (p row) there (in_mirrors_of p rows x)
  where
    by_test : (b : Bool) → Contains (mirrors (cond b (row ∷ filter p rows) (filter p rows))) x → (Contains (mirrors (filter p rows)) x → Contains (mirrors rows) x)
        → Contains (mirror_to row row.kind row.target ++ mirrors rows) x
    by_test true at rest = elim (in_either (mirror_to row row.kind row.target) (mirrors (filter p rows)) x at) [
      | inl own ↦ in_left (mirror_to row row.kind row.target) (mirrors rows) x own
      | inr more ↦ in_right (mirror_to row row.kind row.target) (mirrors rows) x (rest more)
    ]
    by_test false at rest = in_right (mirror_to row row.kind row.target) (mirrors rows) x (rest at)

-- of one mirror and others, where fewer follow
apart_fewer : (edges : List Edge) (own later fewer : List Mirrored) → ((x : Mirrored) → Contains fewer x → Contains later x) → AreApart edges fewer
    → AreApart edges (own ++ later) → AreApart edges (own ++ fewer)
apart_fewer edges [] later fewer within rest h = rest
apart_fewer edges (m ∷ own) later fewer within rest h = (
  λ x there. h.0 x (elim (Contains-cases m (own ++ fewer) x there) [
    | inl here ↦ subst (Contains (m ∷ own ++ later)) (sym here) (Contains-here m (own ++ later))
    | inr more ↦ Contains-there m (own ++ later) x (elim (in_either own fewer x more) [
      | inl left ↦ in_left own later x left
      | inr right ↦ in_right own later x (within x right)
    ])
  ]),
  apart_fewer edges own later fewer within rest h.1,
)

apart_behind : (edges : List Edge) (own later : List Mirrored) → AreApart edges (own ++ later) → AreApart edges later
apart_behind edges [] later h = h
apart_behind edges (m ∷ own) later h = apart_behind edges own later h.1

apart_of : (edges : List Edge) (p : JobRecord → Bool) (rows : List JobRecord) → AreApart edges (mirrors rows) → AreApart edges (mirrors (filter p rows))
apart_of edges p [] h = h
apart_of edges p (row ∷ rows) h =
    by_test (p row) (apart_of edges p rows (apart_behind edges (mirror_to row row.kind row.target) (mirrors rows) h))
  where
    by_test : (b : Bool) → AreApart edges (mirrors (filter p rows)) → AreApart edges (mirrors (cond b (row ∷ filter p rows) (filter p rows)))
    by_test true rest = apart_fewer edges (mirror_to row row.kind row.target) (mirrors rows) (mirrors (filter p rows)) (in_mirrors_of p rows) rest h
    by_test false rest = rest

-- edges that lead where others led
abbrev pub LeadsAs : List Edge → List Edge → Type 0
LeadsAs old new = (a : ℕ) (e : Edge) → Contains new e → e.parent ≡ Node a → Reaches old a e.child

pub apart_as : (old new : List Edge) → LeadsAs old new → (copies : List Mirrored) → AreApart old copies → AreApart new copies
apart_as old new leads [] h = tt
apart_as old new leads (m ∷ later) h = (
  λ x there. ((λ way. (h.0 x there).0 (Reaches-covered new old leads x.target m.source way.first way.rest way.path)), (h.0 x there).1),
  apart_as old new leads later h.1,
)

pub leads_then : (a b c : List Edge) → LeadsAs a b → LeadsAs b c → LeadsAs a c
leads_then a b c ab bc from e there is =
    let way = bc from e there is in
    Reaches-covered b a ab from e.child way.first way.rest way.path

pub leads_derived : (kinds : List NodeKind) (edges : List Edge) → LeadsAs edges (refreshed kinds edges)
leads_derived kinds edges a e there from =
    let x = refreshed-old kinds edges e there in
    subst (Reaches edges a) x.same.child (Reaches-edge edges a x.edge x.there (x.same.parent ∙ from))

pub leads_fewer : (p : Edge → Bool) (edges : List Edge) → LeadsAs edges (filter p edges)
leads_fewer p edges a e there from = Reaches-edge edges a e (Contains-filter p edges e there).0 from

leads_put : (old edges : List Edge) (node base : ℕ) → LeadsAs old edges → Reaches old node base → LeadsAs old (with_edge (node_edge node Backing base) edges)
leads_put old edges node base leads way a e there from = elim (Contains-with_edge (node_edge node Backing base) edges e there) [
  | inl own ↦
      let same : Node node ≡ Node a = sym (ap (λ (x : Edge). x.parent) own) ∙ from in
      let equal : node ≡ a = cc same in
      subst (λ k. Reaches old k e.child) equal (subst (Reaches old node) (sym (ap (λ (x : Edge). x.child) own)) way)
  | inr kept ↦ leads a e kept from
]

-- the same, where some lead to the target from nodes that led to the source
abbrev MovesAs : List Edge → List Edge → ℕ → ℕ → Type 0
MovesAs old new source to = (a : ℕ) (e : Edge) → Contains new e → e.parent ≡ Node a → Reaches old a e.child ⊎ ((e.child ≡ to) × Reaches old a source)

module _ (old new : List Edge) (source to : ℕ) (moves_as : MovesAs old new source to) (apart : Reaches old to source → ⊥) where
  abbrev one : Mirrored
  one = record { source = source; target = to }

  -- behind the mirror that pivots
  apart_later : (copies : List Mirrored) → ((x : Mirrored) → Contains copies x → Reaches old x.target source → ⊥) → AreApart old copies → AreApart new copies
  apart_later [] none h = tt
  apart_later (m ∷ copies) none h = (
    λ x there. (
      λ way. elim (led new old source to moves_as apart x.target m.source way.first way.rest way.path) [
        | inl old_way ↦ (h.0 x there).0 old_way
        | inr by ↦ none x there by.0
      ],
      (h.0 x there).1,
    ),
    apart_later copies (λ x there. none x (Contains-there m copies x there)) h.1,
  )

  -- before it
  apart_before : (m : Mirrored) (later copies : List Mirrored) → ((x : Mirrored) → Contains (m ∷ later) x → IsApartFrom old m x) → Contains later one
      → ((x : Mirrored) → Contains copies x → Contains later x) → AreApart new copies → AreApart new (m ∷ copies)
  apart_before m later copies all own within rest = (
    λ x there.
        let is : IsApartFrom old m x = all x (elim (Contains-cases m copies x there) [
          | inl here ↦ subst (Contains (m ∷ later)) (sym here) (Contains-here m later)
          | inr more ↦ Contains-there m later x (within x more)
        ]) in
        let mine : IsApartFrom old m one = all one (Contains-there m later one own) in (
          λ way. elim (led new old source to moves_as apart x.target m.source way.first way.rest way.path) [
            | inl old_way ↦ is.0 old_way
            | inr by ↦ elim by.1 [
              | inl same ↦ mine.1 (sym same)
              | inr down ↦ mine.0 down
            ]
          ],
          is.1,
        ),
    rest,
  )

  -- the mirrors that are left when the jobs of one number go, of which one is this mirror
  apart_left : (p : JobRecord → Bool) (rows : List JobRecord) → ((r : JobRecord) → Contains rows r → p r ≡ false → mirror_to r r.kind r.target ≡ one ∷ [])
      → Contains (mirrors rows) one → AreApart old (mirrors rows) → AreApart new (mirrors (filter p rows))
  apart_left p [] gone there h = absurd (Contains-nil one there)
  apart_left p (r ∷ rows) gone there h =
      by_mirror (mirror_to r r.kind r.target) refl there h (p r) refl
      (apart_left p rows (λ x at. gone x (Contains-there r rows x at)))
    where
      rest_of : List Mirrored
      rest_of = mirrors (filter p rows)

      within : (x : Mirrored) → Contains (mirrors (filter p rows)) x → Contains (mirrors rows) x
      within x at = in_mirrors_of p rows x at

      by_mirror : (own : List Mirrored) → mirror_to r r.kind r.target ≡ own → Contains (own ++ mirrors rows) one → AreApart old (own ++ mirrors rows)
          → (b : Bool) → p r ≡ b → (Contains (mirrors rows) one → AreApart old (mirrors rows) → AreApart new (mirrors (filter p rows)))
          → AreApart new (mirrors (cond b (r ∷ filter p rows) (filter p rows)))
      by_mirror [] is at h true kept more = rw is (more at h)
      by_mirror [] is at h false kept more = more at h
      by_mirror (m ∷ own) is at h false kept more =
          let mine : m ∷ own ≡ one ∷ [] = sym is ∙ gone r (Contains-here r rows) kept in
          let head : m ≡ one = cc mine in
          let none : own ≡ [] = cc mine in
          let all : AreApart old (m ∷ mirrors rows) = subst (λ o. AreApart old (m ∷ o ++ mirrors rows)) none h in
          apart_later (mirrors (filter p rows))
          (λ x there. subst (λ (c : Mirrored). Reaches old x.target c.source → ⊥) head ((all.0 x (Contains-there m (mirrors rows) x (within x there))).0))
          (apart_of old p rows all.1)
      by_mirror (m ∷ own) is at h true kept more =
          let none : own ≡ [] = only_one r.kind r.target m own is in
          let all : AreApart old (m ∷ mirrors rows) = subst (λ o. AreApart old (m ∷ o ++ mirrors rows)) none h in
          let there : Contains (m ∷ mirrors rows) one = subst (λ o. Contains (m ∷ o ++ mirrors rows) one) none at in
          let shape : mirror_to r r.kind r.target ≡ m ∷ [] = is ∙ ap (λ o. m ∷ o) none in
          rw shape (elim (Contains-cases m (mirrors rows) one there) [
            | inl here ↦ apart_later (m ∷ mirrors (filter p rows))
                (λ x has. subst (λ (c : Mirrored). Reaches old x.target c.source → ⊥) (sym here) ((all.0 x (elim (Contains-cases m (mirrors (filter p rows)) x has) [
                  | inl same ↦ subst (Contains (m ∷ mirrors rows)) (sym same) (Contains-here m (mirrors rows))
                  | inr later ↦ Contains-there m (mirrors rows) x (within x later)
                ])).0))
                (apart_fewer old (m ∷ []) (mirrors rows) (mirrors (filter p rows)) within (apart_of old p rows all.1) all)
            | inr later ↦ apart_before m (mirrors rows) (mirrors (filter p rows)) all.0 later within (more later all.1)
          ])
        where
          only_one : (k : JobKind) (target : Option ℕ) (m : Mirrored) (own : List Mirrored) → mirror_to r k target ≡ m ∷ own → own ≡ []
          only_one Mirror (Some target) m own is = let e : record { source = r.source; target = target } ∷ [] ≡ m ∷ own = is in sym (cc e)
          only_one Mirror None m own is = let e : [] ≡ m ∷ own = is in cc e
          only_one Stream target m own is = let e : [] ≡ m ∷ own = is in cc e
          only_one Commit target m own is = let e : [] ≡ m ∷ own = is in cc e
          only_one Backup target m own is = let e : [] ≡ m ∷ own = is in cc e

-- ---- quiet changes

settled_row : (id : ℕ) (row : NodeRecord) → KeepsRow row (node_changed id settled row)
settled_row id row = by_test (row.id == id)
  where
    by_test : (b : Bool) → KeepsRow row (cond b (settled row) row)
    by_test true = record { id = refl; kind = refl; filename = refl }
    by_test false = record { id = refl; kind = refl; filename = refl }

read_only_row : (id : ℕ) (row : NodeRecord) → KeepsRow row (node_changed id kept_from_writes row)
read_only_row id row = by_test (row.id == id)
  where
    by_test : (b : Bool) → KeepsRow row (cond b (kept_from_writes row) row)
    by_test true = record { id = refl; kind = refl; filename = refl }
    by_test false = record { id = refl; kind = refl; filename = refl }

pub record Quiets (t now : RunTable) : Type 0 where
  pub others : OthersStand now None
  pub leads : LeadsAs t.edges now.edges
  pub jobs : now.jobs ≡ t.jobs

quiet_others : (t : RunTable) (c : Change) → IsQuiet c → OthersStand t None → Quiets t (changed t c)
unfolding changed
quiet_others t (change.Settle node disk) q o = record {
  others = mapped_others t (changed t (change.Settle node disk)) (node_changed node settled) (settled_row node) refl refl
      (record { kept = λ e there is. there; back = λ e there is. there }) (λ n over file. file) (λ n role. refl) None o;
  leads = λ a e there from. Reaches-edge t.edges a e there from;
  jobs = refl;
}
quiet_others t (change.Unsettle node) q o = record {
  others = mapped_others t (changed t (change.Unsettle node)) (node_changed node unsettled) (unsettled_row node) refl refl
      (record { kept = λ e there is. there; back = λ e there is. there }) (λ n over file. file) (λ n role. refl) None o;
  leads = λ a e there from. Reaches-edge t.edges a e there from;
  jobs = refl;
}
quiet_others t (change.MakeReadOnly node) q o =
    let now : RunTable = changed t (change.MakeReadOnly node) in
    record {
      others = mapped_others t now (node_changed node kept_from_writes) (read_only_row node) refl refl
          (record { kept = λ e there is. refreshed_jobs (kinds_of now.nodes) t.edges e is there; back = λ e there is. refreshed_jobs_back (kinds_of now.nodes) t.edges e is there })
          (λ n over file. file-before (kinds_of now.nodes) t.edges over n file) (λ n role. child_of-refreshed (kinds_of now.nodes) (Node n) role t.edges) None o;
      leads = leads_derived (kinds_of now.nodes) t.edges;
      jobs = refl;
    }
quiet_others t c q o = absurd q

quiets : (changes : List Change) (t : RunTable) → AreQuiet changes → OthersStand t None → Quiets t (all_changed t changes)
quiets [] t q o = record { others = o; leads = λ a e there from. Reaches-edge t.edges a e there from; jobs = refl }
quiets (c ∷ changes) t q o =
    let first = quiet_others t c q.0 o in
    let rest = quiets changes (changed t c) q.1 first.others in
    record {
      others = rest.others;
      leads = leads_then t.edges (changed t c).edges (all_changed (changed t c) changes).edges first.leads rest.leads;
      jobs = rest.jobs ∙ first.jobs;
    }

-- ---- the end of one

-- behind the first changes of an end: these jobs stand, apart from their mirrors
record IsHead (rows : List JobRecord) (now : RunTable) : Type 0 where
  others : OthersStand now None
  jobs : now.jobs ≡ rows
  apart : AreApart now.edges (mirrors rows)

module _ (t : RunTable) (h : TableStands t) (j : JobsStand t) (d : EdgesAreDrawn t) (row : JobRecord) (here : Contains t.jobs row) (drops : Bool) where
  abbrev first : Change
  first = change.EndJob row.number row.slot drops

  abbrev rows : List JobRecord
  rows = without_job row.number t.jobs

  other_row : (b : JobRecord) → Contains rows b → Contains t.jobs b × (b.slot ≢ row.slot)
  other_row b there =
      let at = Contains-filter (λ (r : JobRecord). not (r.number == row.number)) t.jobs b there in
      let differ : b.number ≢ row.number = eqb-false b.number row.number (passes (b.number == row.number) at.1) in
      (at.0, λ same. differ (ap (λ (r : JobRecord). r.number) (j.slots b row at.0 here same)))
    where
      passes : (b : Bool) → not b ≡ true → b ≡ false
      passes true is = absurd (false≢true is)
      passes false is = refl

  held_nobodys : (node : ℕ) → Contains row.held node → IsNobodys rows node
  held_nobodys node held = record {
    held = λ b there has. let at = other_row b there in at.1 (sym (j.apart row b node here at.0 held has));
    filter = λ b there. plain_no_filter t j node ((j.each row here).plain node (in_left row.held row.read node held)) b (other_row b there).0;
  }

  other_held : (b : JobRecord) → Contains rows b → Contains b.held b.source
  other_held b there = holds_source t b (j.each b (other_row b there).0)

  source_held : Contains row.held row.source
  source_held = holds_source t row (j.each row here)

  filter_nobodys : (kind : Kind) → is_job_filter kind ≡ true → (f : HasFilterOf t row kind) → IsNobodys rows f.filter
  filter_nobodys kind of_job f = record {
    held = λ b there has.
        let p = (j.each b (other_row b there).0).plain f.filter has in
        plain_no_filter t j f.filter p row here f.is_filter;
    filter = λ b there is.
        let at = other_row b there in
        let g = filter_of t b b.kind (j.each b at.0).shape f.filter is in
        let both : Some row.source ≡ Some b.source = sym f.over ∙ ap (λ n. child t n Filtered) (sym g.3) ∙ g.2.over in
        let same : row.source ≡ b.source = cc both in
        at.1 (sym (j.apart row b row.source here at.0 source_held
        (subst (Contains (nodes_of_job b)) (sym same) (in_left b.held b.read b.source (holds_source t b (j.each b at.0))))));
  }

  -- ---- what the head of the list leaves

  fewer_apart : AreApart t.edges (mirrors rows)
  fewer_apart = apart_of t.edges (λ (r : JobRecord). not (r.number == row.number)) t.jobs j.copies

  by_leads : (now : RunTable) → OthersStand now None → now.jobs ≡ rows → LeadsAs t.edges now.edges → IsHead (without_job row.number t.jobs) now
  by_leads now others jobs leads = record { others = others; jobs = jobs; apart = apart_as t.edges now.edges leads (mirrors rows) fewer_apart }

  abbrev over_edges : List Edge
  over_edges = refreshed (kinds_of t.nodes) (without_parent (Job row.slot) t.edges)

  over_leads : LeadsAs t.edges over_edges
  over_leads =
      leads_then t.edges (without_parent (Job row.slot) t.edges) over_edges (leads_fewer (λ x. not (same_parent x.parent (Job row.slot))) t.edges)
      (leads_derived (kinds_of t.nodes) (without_parent (Job row.slot) t.edges))

  over_none : row.filter ≡ None → OthersStand (changed t first) None
  over_none bare = subst (OthersStand (changed t first)) bare (over_others t j row here drops)

  head_over : row.filter ≡ None → IsHead (without_job row.number t.jobs) (all_changed t (first ∷ []))
  unfolding changed
  head_over bare = by_leads (changed t first) (over_none bare) refl over_leads

  -- ---- streams

  stream_head : (k : row.kind ≡ Stream) → StreamJobStands t row → (o : JobOutcome) → IsHead (without_job row.number t.jobs) (all_changed t (first ∷ moves_by row Stream o))
  unfolding changed
  stream_head k s Completed = by_target row.target refl
    where
      free : NoLinkFrom (changed t first) row.source
      free = record {
        none = λ b below there has is which. (held_nobodys row.source source_held).held b there has;
        off = λ b there same. (held_nobodys row.source source_held).held b there (in_left b.held b.read row.source (subst (Contains b.held) same (other_held b there)));
      }

      by_target : (target : Option ℕ) → row.target ≡ target → IsHead (without_job row.number t.jobs) (all_changed t (first ∷ change.Rebase row.source target ∷ []))
      by_target None is =
          by_leads (changed (changed t first) (change.Rebase row.source None)) (rebase_others (changed t first) row.source None (over_none s.bare) free) refl
          (leads_then t.edges over_edges (changed (changed t first) (change.Rebase row.source None)).edges over_leads
          (leads_then over_edges (filter (λ x. not (is_edge (Node row.source) Backing x)) over_edges) (changed (changed t first) (change.Rebase row.source None)).edges
          (leads_fewer (λ x. not (is_edge (Node row.source) Backing x)) over_edges)
          (leads_derived (kinds_of t.nodes) (filter (λ x. not (is_edge (Node row.source) Backing x)) over_edges))))
      by_target (Some base) is =
          by_leads (changed (changed t first) (change.Rebase row.source (Some base)))
          (rebase_others (changed t first) row.source (Some base) (over_none s.bare) free) refl
          (leads_then t.edges (with_edge (node_edge row.source Backing base) over_edges) (changed (changed t first) (change.Rebase row.source (Some base))).edges
          (leads_put t.edges over_edges row.source base over_leads (stream_way t h j d row here k base (s.reads base is)))
          (leads_derived (kinds_of t.nodes) (with_edge (node_edge row.source Backing base) over_edges)))
  stream_head k s Pivoted = head_over s.bare
  stream_head k s Copied = head_over s.bare
  stream_head k s Stopped = head_over s.bare

  -- ---- jobs with a filter

  module _ (kind : Kind) (of_job : is_job_filter kind ≡ true) (f : HasFilterOf t row kind) where
    abbrev pull : Change
    pull = change.PullFilter f.filter

    loose : OthersStand (changed t first) (Some f.filter)
    loose = subst (OthersStand (changed t first)) f.is_filter (over_others t j row here drops)

    over_now : child (changed t first) f.filter Filtered ≡ Some row.source
    unfolding changed
    over_now = child_left t j row here drops f.filter Filtered ∙ f.over

    no_filter : IsNobodys (changed t first).jobs f.filter
    unfolding changed
    no_filter = filter_nobodys kind of_job f

    no_source : IsNobodys (changed t first).jobs row.source
    unfolding changed
    no_source = held_nobodys row.source source_held

    pulled_stand : OthersStand (changed (changed t first) pull) None
    pulled_stand = pull_others (changed t first) f.filter row.source loose over_now no_filter no_source

    pulled_leads : LeadsAs t.edges (changed (changed t first) pull).edges
    unfolding changed
    pulled_leads =
        leads_then t.edges over_edges (changed (changed t first) pull).edges over_leads
        (leads_then over_edges (without_filter f.filter over_edges) (changed (changed t first) pull).edges
        (pull_leads (changed t first) f.filter row.source loose over_now no_filter no_source)
        (leads_derived (kinds_of (without_record f.filter t.nodes)) (without_filter f.filter over_edges)))

    pull_head : IsHead (without_job row.number t.jobs) (all_changed t (first ∷ pull ∷ []))
    unfolding changed
    pull_head = by_leads (changed (changed t first) pull) pulled_stand refl pulled_leads

    -- all that used the source uses a node that the job held
    module _ (target : ℕ) (held : Contains row.held target) where
      abbrev move : Change
      move = change.Move row.source target f.filter

      abbrev pulled_now : RunTable
      pulled_now = changed (changed t first) pull

      no_source_then : IsNobodys pulled_now.jobs row.source
      unfolding changed
      no_source_then = held_nobodys row.source source_held

      no_target_then : IsNobodys pulled_now.jobs target
      unfolding changed
      no_target_then = held_nobodys target held

      moved_stand : OthersStand (changed pulled_now move) None
      moved_stand = move_others pulled_now row.source target f.filter pulled_stand no_source_then no_target_then

      moved_as : MovesAs t.edges (changed pulled_now move).edges row.source target
      unfolding changed
      moved_as a e there from =
          let x = refreshed-old (kinds_of pulled_now.nodes) (with_replaced row.source target (Some (Node f.filter)) pulled_now.edges) e there in
          let was = move_leads pulled_now row.source target f.filter pulled_stand no_source_then no_target_then a x.edge x.there (x.same.parent ∙ from) in
          elim was [
            | inl way ↦ inl (subst (Reaches t.edges a) x.same.child (Reaches-covered pulled_now.edges t.edges pulled_leads a x.edge.child way.first way.rest way.path))
            | inr way ↦ inr (sym x.same.child ∙ way.0, Reaches-covered pulled_now.edges t.edges pulled_leads a row.source way.1.first way.1.rest way.1.path)
          ]

  mirror_head : (k : row.kind ≡ Mirror) → (c : CopyStands t row driver.Mirror) → (o : JobOutcome) → IsHead (without_job row.number t.jobs) (all_changed t (first ∷ pulled_edits row.filter ++ moves_by row Mirror o))
  unfolding changed
  mirror_head k c Pivoted = rw (c.filter.is_filter, c.is_target) pivoted
    where
      held : Contains row.held c.target
      held = copy_holds t row driver.Mirror c

      gone : (r : JobRecord) → Contains t.jobs r → not (r.number == row.number) ≡ false → mirror_to r r.kind r.target ≡ record { source = row.source; target = c.target } ∷ []
      gone r at is =
          let same : r ≡ row = j.numbers r row at here (eqb-true r.number row.number (not_not (r.number == row.number) is)) in
          subst (λ (x : JobRecord). mirror_to x x.kind x.target ≡ record { source = row.source; target = c.target } ∷ []) (sym same) (rw (k, c.is_target) refl)
        where
          not_not : (b : Bool) → not b ≡ false → b ≡ true
          not_not true is = refl
          not_not false is = absurd (false≢true (sym is))

      pivoted : IsHead (without_job row.number t.jobs) (all_changed t (first ∷ change.PullFilter c.filter.filter ∷ change.Move row.source c.target c.filter.filter ∷ []))
      pivoted = record {
        others = moved_stand driver.Mirror refl c.filter c.target held;
        jobs = refl;
        apart = apart_left t.edges (changed (changed (changed t first) (change.PullFilter c.filter.filter)) (change.Move row.source c.target c.filter.filter)).edges row.source c.target
            (moved_as driver.Mirror refl c.filter c.target held) (mirror_target t h j d row here k c).apart
            (λ (r : JobRecord). not (r.number == row.number)) t.jobs gone (in_mirrors t.jobs row c.target here k c.is_target) j.copies;
      }
  mirror_head k c Completed = rw c.filter.is_filter (pull_head driver.Mirror refl c.filter)
  mirror_head k c Copied = rw c.filter.is_filter (pull_head driver.Mirror refl c.filter)
  mirror_head k c Stopped = rw c.filter.is_filter (pull_head driver.Mirror refl c.filter)

  backup_head : (c : CopyStands t row driver.BeforeWrite) → (o : JobOutcome) → IsHead (without_job row.number t.jobs) (all_changed t (first ∷ pulled_edits row.filter ++ moves_by row Backup o))
  backup_head c Pivoted = rw c.filter.is_filter (pull_head driver.BeforeWrite refl c.filter)
  backup_head c Completed = rw c.filter.is_filter (pull_head driver.BeforeWrite refl c.filter)
  backup_head c Copied = rw c.filter.is_filter (pull_head driver.BeforeWrite refl c.filter)
  backup_head c Stopped = rw c.filter.is_filter (pull_head driver.BeforeWrite refl c.filter)

  commit_head : (k : row.kind ≡ Commit) (c : CommitJobStands t row) (o : JobOutcome) → IsHead (without_job row.number t.jobs) (all_changed t (first ∷ pulled_edits row.filter ++ moves_by row Commit o))
  unfolding changed
  commit_head k c Pivoted = rw (c.filter.is_filter, c.is_base) pivoted
    where
      held : Contains row.held c.base
      held = is_held t h j d row here k c c.base (base_in t h j d row here k c)

      down : Reaches t.edges row.source c.base
      down = top_down t h j d row here k c c.base (base_in t h j d row here k c)

      pivoted : IsHead (without_job row.number t.jobs) (all_changed t (first ∷ change.PullFilter c.filter.filter ∷ change.Move row.source c.base c.filter.filter ∷ []))
      pivoted =
          by_leads (changed (changed (changed t first) (change.PullFilter c.filter.filter)) (change.Move row.source c.base c.filter.filter))
          (moved_stand driver.Commit refl c.filter c.base held) refl
          (λ a e there from. elim (moved_as driver.Commit refl c.filter c.base held a e there from) [
            | inl way ↦ way
            | inr way ↦ subst (Reaches t.edges a) (sym way.0) (Reaches-joined t.edges a row.source c.base way.1 down)
          ])
  commit_head k c Completed = by_read row.read refl
    where
      by_read : (read : List ℕ) → row.read ≡ read → IsHead (without_job row.number t.jobs) (all_changed t (first ∷ pulled_edits row.filter ++ moves row Commit Completed))
      by_read [] is = rw (c.filter.is_filter, c.is_base, is) (pull_head driver.Commit refl c.filter)
      by_read (overlay ∷ ids) is = rw (c.filter.is_filter, c.is_base, is) rebased
        where
          over_filter : child t overlay Backing ≡ Some c.filter.filter
          over_filter = (subst (λ xs. IsOverFilter t xs row.filter) is c.overlay).0 ∙ c.filter.is_filter

          abbrev_free : NoLinkFrom (changed (changed t first) (change.PullFilter c.filter.filter)) overlay
          abbrev_free = record {
            none = λ b below there has child_is which.
                let now = child_over_filter (changed t first) c.filter.filter row.source (loose driver.Commit refl c.filter) (over_now driver.Commit refl c.filter)
                (no_filter driver.Commit refl c.filter) (no_source driver.Commit refl c.filter) overlay (child_left t j row here drops overlay Backing ∙ over_filter) in
                let both : Some row.source ≡ Some below = sym now ∙ child_is in
                let same : row.source ≡ below = cc both in
                let nobody = held_nobodys row.source source_held in
                elim which [
                  | inl mine ↦ nobody.held b there (subst (Contains (nodes_of_job b)) (sym same) mine)
                  | inr filter ↦ nobody.filter b there (filter ∙ ap Some (sym same))
                ];
            off = λ b there same.
                let at = other_row b there in
                at.1 (j.apart b row overlay at.0 here (subst (Contains b.held) same (other_held b there))
                (in_right row.held row.read overlay (subst (λ ids. Contains ids overlay) (sym is) (Contains-here overlay ids))));
          }

          rebased : IsHead (without_job row.number t.jobs) (all_changed t (first ∷ change.PullFilter c.filter.filter ∷ change.Rebase overlay (Some c.base) ∷ []))
          rebased =
              by_leads (changed (changed (changed t first) (change.PullFilter c.filter.filter)) (change.Rebase overlay (Some c.base)))
              (rebase_others (changed (changed t first) (change.PullFilter c.filter.filter)) overlay (Some c.base) (pulled_stand driver.Commit refl c.filter) abbrev_free) refl
              (leads_then t.edges (with_edge (node_edge overlay Backing c.base) (changed (changed t first) (change.PullFilter c.filter.filter)).edges)
              (changed (changed (changed t first) (change.PullFilter c.filter.filter)) (change.Rebase overlay (Some c.base))).edges
              (leads_put t.edges (changed (changed t first) (change.PullFilter c.filter.filter)).edges overlay c.base (pulled_leads driver.Commit refl c.filter)
              (overlay_stands t h j d row here k c overlay ids is).1)
              (leads_derived (kinds_of (without_record c.filter.filter t.nodes))
              (with_edge (node_edge overlay Backing c.base) (changed (changed t first) (change.PullFilter c.filter.filter)).edges)))
  commit_head k c Copied = rw c.filter.is_filter (pull_head driver.Commit refl c.filter)
  commit_head k c Stopped = rw c.filter.is_filter (pull_head driver.Commit refl c.filter)

  any_head : (k : JobKind) → row.kind ≡ k → StandsByKind t row k → (o : JobOutcome) → IsHead (without_job row.number t.jobs) (all_changed t (first ∷ pulled_edits row.filter ++ moves_by row k o))
  any_head Stream k s o = rw s.bare (stream_head k s o)
  any_head Commit k s o = commit_head k s o
  any_head Mirror k s o = mirror_head k s o
  any_head Backup k s o = backup_head s o

  -- and the rest of it
  whole : (head tail : List Change) → IsHead (without_job row.number t.jobs) (all_changed t head) → AreQuiet tail → JobsStand (all_changed t (head ++ tail))
  whole head tail r q =
      let now : RunTable = all_changed (all_changed t head) tail in
      let rest = quiets tail (all_changed t head) q r.others in
      subst JobsStand (sym (all_changed-append t head tail)) (record {
        each = rest.others.each;
        slots = rest.others.slots;
        numbers = rest.others.numbers;
        edges = rest.others.edges;
        apart = rest.others.apart;
        filters = λ node there is. elim (rest.others.filters node there is) [
          | inl none ↦ absurd (let bad : None ≡ Some node.id = none in cc bad)
          | inr own ↦ own
        ];
        copies = subst (λ js. AreApart now.edges (mirrors js)) (sym (rest.jobs ∙ r.jobs))
            (apart_as (all_changed t head).edges now.edges rest.leads (mirrors rows) r.apart);
      })

pub ends_leave_jobs : (t : RunTable) (row : JobRecord) (o : JobOutcome) → TableStands t → JobsStand t → EdgesAreDrawn t → Contains t.jobs row
    → JobsStand (all_changed t (end_edits t row o))
ends_leave_jobs t row o h j d here =
    let head : List Change = change.EndJob row.number row.slot (drops_aside o row.bitmap) ∷ pulled_edits row.filter ++ moves_by row row.kind o in
    let tail : List Change = rest_by row row.kind o ++ given_back_to t row o in
    subst (λ changes. JobsStand (all_changed t changes)) (sym (end_is t row o))
    (whole t h j d row here (drops_aside o row.bitmap) head tail (any_head t h j d row here (drops_aside o row.bitmap) row.kind refl (j.each row here).shape o)
    (quiet-append (rest_by row row.kind o) (given_back_to t row o) (quiet_rest row row.kind o) (quiet_given t row o)))
