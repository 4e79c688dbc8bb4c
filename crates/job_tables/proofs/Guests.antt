-- No guest writes what another one reads, also through the filters of a table's commits.
use Rattle.std.proofs.Common.{◌≡◌, ◌⊎◌, ℕ, List, [], ◌∷◌, ◌++◌, refl, sym, ◌∙◌, ap, subst, inl, inr, Bool, true, false}
use Rattle.std.specs.Prelude.{◌||◌, not}
use Rattle.std.specs.List.{Contains, list_any}
use Rattle.std.proofs.lemmas.Bool.{false≢true, eqb-true, eq-eqb}
use Rattle.blk_graph.specs.declared.edge.Edge.{Edge}
use Rattle.blk_graph.specs.declared.edge.Parent.{Parent}
use Rattle.blk_graph.specs.declared.edge.Parent.TheVariants.{Node, Guest, Job}
use Rattle.blk_graph.specs.declared.edge.Role.TheVariants.{Drive, Backing, Between}
use Rattle.blk_graph.specs.declared.kind.NodeKind.{NodeKind}
use Rattle.blk_graph.specs.Edges.{same_role}
use Rattle.blk_graph.specs.Paths.{Reaches}
use Rattle.blk_graph.proofs.CycleLemmas.{and-left, and-right}
use Rattle.blk_graph.proofs.Members.{Contains-nil, Contains-here, Contains-there, Contains-cases, list_any-there}
use Rattle.blk_graph.proofs.RoleLemmas.{same_role-true}
use Rattle.qmp_codec.specs.declared.event.JobKind.{JobKind}
use Rattle.qmp_codec.specs.declared.event.JobKind.TheVariants.{Stream, Commit, Mirror, Backup}
use Rattle.qmp_rules.specs.declared.rows.JobRecord.{JobRecord}
use Rattle.qmp_rules.specs.Asks.{is_base}
use Rattle.qmp_rules.specs.Chains.{is_listed}
use Rattle.qmp_rules.specs.Table.{RunTable, kinds_of}
use Rattle.flat_machine.specs.Wiring.{TableStands}
use Rattle.job_edges.specs.Chains.{is_one, is_to_backing}
use Rattle.job_edges.specs.Held.{IsUnread}
use Rattle.job_edges.specs.Kinds.{is_hidden_from, is_hidden}
use Rattle.job_tables.specs.Jobs.{CommitJobStands, StandsByKind, JobsStand, EdgesAreDrawn}
use Rattle.job_tables.proofs.RowEdges.{listed-Contains, Contains-listed, in_left, in_either}
use Rattle.job_tables.proofs.JobsRest.{hidden_filter, plain_kind, child_is, edges_stand}
use Rattle.job_edges.specs.Seen.{IsRead, CommitsStand, ReadsAlong, GoesBelow, FiltersAlong}
use Rattle.job_edges.proofs.Below.{none_below}
use Rattle.job_tables.specs.Guests.{is_above_base, is_in_commit}
use Rattle.job_tables.proofs.Shapes.{next, to_base, below_unread, base_is_read}

not-false : (b : Bool) → not b ≡ true → b ≡ false
not-false true is = absurd (false≢true is)
not-false false is = refl

-- the commit of such a node
record IsCommits (t : RunTable) (node : ℕ) : Type 0 where
  row : JobRecord
  there : Contains t.jobs row
  kind : row.kind ≡ Commit
  held : Contains row.held node
  above : is_base row.target node ≡ false

by_row : (node : ℕ) (row : JobRecord) (k : JobKind) → is_above_base node row k ≡ true → (k ≡ Commit) × Contains row.held node × (is_base row.target node ≡ false)
by_row node row Commit is = (
  refl,
  listed-Contains node row.held (and-left (is_listed node row.held) (not (is_base row.target node)) is),
  not-false (is_base row.target node) (and-right (is_listed node row.held) (not (is_base row.target node)) is),
)
by_row node row Stream is = absurd (false≢true is)
by_row node row Mirror is = absurd (false≢true is)
by_row node row Backup is = absurd (false≢true is)

record FoundRow (rows : List JobRecord) (node : ℕ) : Type 0 where
  row : JobRecord
  there : Contains rows row
  is : is_above_base node row row.kind ≡ true

found_row : (node : ℕ) (rows : List JobRecord) → list_any (λ row. is_above_base node row row.kind) rows ≡ true → FoundRow rows node
found_row node [] is = absurd (false≢true is)
found_row node (row ∷ rows) is = by_test (is_above_base node row row.kind) refl is (found_row node rows)
  where
    by_test : (b : Bool) → is_above_base node row row.kind ≡ b → (b || list_any (λ r. is_above_base node r r.kind) rows) ≡ true
        → (list_any (λ r. is_above_base node r r.kind) rows ≡ true → FoundRow rows node) → FoundRow (row ∷ rows) node
    by_test true test any more = record { row = row; there = Contains-here row rows; is = test }
    by_test false test any more = let r = more any in record { row = r.row; there = Contains-there row rows r.row r.there; is = r.is }

commit_of : (t : RunTable) (node : ℕ) → is_in_commit t node ≡ true → IsCommits t node
commit_of t node is =
    let r = found_row node t.jobs is in
    let x = by_row node r.row r.row.kind r.is in
    record { row = r.row; there = r.there; kind = x.0; held = x.1; above = x.2 }

in_commit : (t : RunTable) (node : ℕ) (row : JobRecord) → Contains t.jobs row → row.kind ≡ Commit → Contains row.held node → is_base row.target node ≡ false
    → is_in_commit t node ≡ true
in_commit t node row here kind held above =
    list_any-there (λ (r : JobRecord). is_above_base node r r.kind) t.jobs row here (rw kind (rw (Contains-listed node row.held held, above) refl))

module _ (t : RunTable) (h : TableStands t) (j : JobsStand t) (d : EdgesAreDrawn t) where
  abbrev kinds : List NodeKind
  kinds = kinds_of t.nodes

  shape_of : (row : JobRecord) → Contains t.jobs row → row.kind ≡ Commit → CommitJobStands t row
  shape_of row here kind = subst (StandsByKind t row) kind (j.each row here).shape

  -- held, and not the base: the top, or between
  above_base : (row : JobRecord) (c : CommitJobStands t row) (node : ℕ) → Contains row.held node → is_base row.target node ≡ false
      → Contains (row.source ∷ c.between) node
  above_base row c node held above =
      elim (Contains-cases row.source (c.between ++ c.base ∷ []) node (subst (λ ids. Contains ids node) c.held held)) [
        | inl same ↦ subst (Contains (row.source ∷ c.between)) (sym same) (Contains-here row.source c.between)
        | inr more ↦ elim (in_either c.between (c.base ∷ []) node more) [
          | inl left ↦ Contains-there row.source c.between node left
          | inr right ↦ elim (Contains-cases c.base [] node right) [
            | inl same ↦ absurd (false≢true (sym above ∙ ap (λ o. is_base o node) c.is_base ∙ eq-eqb c.base node (sym same)))
            | inr none ↦ absurd (Contains-nil node none)
          ]
        ]
      ]

  not_base : (row : JobRecord) (here : Contains t.jobs row) (kind : row.kind ≡ Commit) (c : CommitJobStands t row) (node : ℕ) → Contains (row.source ∷ c.between) node
      → is_base row.target node ≡ false
  not_base row here kind c node held = by_test (is_base row.target node) refl
    where
      by_test : (b : Bool) → is_base row.target node ≡ b → is_base row.target node ≡ false
      by_test false is = is
      by_test true is =
          let same : c.base ≡ node = eqb-true c.base node (sym (ap (λ o. is_base o node) c.is_base) ∙ is) in
          absurd (h.acyclic node (subst (Reaches t.edges node) same (to_base t h j d row here kind c row.source c.base c.between c.linked node held)))

  held_above : (row : JobRecord) (c : CommitJobStands t row) (node : ℕ) → Contains (row.source ∷ c.between) node → Contains row.held node
  held_above row c node there = subst (λ ids. Contains ids node) (sym c.held) (elim (Contains-cases row.source c.between node there) [
    | inl same ↦ subst (Contains (row.source ∷ c.between ++ c.base ∷ [])) (sym same) (Contains-here row.source (c.between ++ c.base ∷ []))
    | inr more ↦ Contains-there row.source (c.between ++ c.base ∷ []) node (in_left c.between (c.base ∷ []) node more)
  ])

  -- the next one down
  next_down : (e : Edge) (n : ℕ) → Contains t.edges e → e.parent ≡ Node n → e.role ≡ Backing → IsCommits t n
      → ((job : ℕ) × IsUnread kinds t.edges e.child job) × ((is_in_commit t e.child ≡ true) ⊎ IsRead t.edges e.child)
  next_down e n there from role r =
      let c : CommitJobStands t r.row = shape_of r.row r.there r.kind in
      let to = next t h j d r.row r.there r.kind c r.row.source c.base c.between c.linked n (above_base r.row c n r.held r.above) in
      let child : e.child ≡ to.0 = child_is t h j d e n to.0 Backing there from role (λ bad. let no : Backing ≡ Between = bad in cc no) to.1 in (
        (r.row.slot, subst (λ m. IsUnread kinds t.edges m r.row.slot) (sym child) (below_unread t h j d r.row r.there r.kind c to.0 to.2)),
        elim (in_either c.between (c.base ∷ []) to.0 to.2) [
          | inl left ↦
              let above : Contains (r.row.source ∷ c.between) to.0 = Contains-there r.row.source c.between to.0 left in
              inl (ap (is_in_commit t) child ∙ in_commit t to.0 r.row r.there r.kind (held_above r.row c to.0 above) (not_base r.row r.there r.kind c to.0 above))
          | inr right ↦ elim (Contains-cases c.base [] to.0 right) [
            | inl same ↦ inr (subst (IsRead t.edges) (sym (child ∙ same)) (base_is_read t h j d r.row r.there r.kind c))
            | inr none ↦ absurd (Contains-nil to.0 none)
          ]
        ],
      )

  pub commits_stand : CommitsStand kinds t.edges (is_in_commit t)
  commits_stand = record {
    plain = λ n is.
        let r = commit_of t n is in
        plain_kind t h j d n ((j.each r.row r.there).plain n (in_left r.row.held r.row.read n r.held));
    tops = λ e there hidden. top e there hidden e.parent refl;
    leads = λ e there is. down e there is e.parent refl;
  }
    where
      top : (e : Edge) → Contains t.edges e → is_hidden kinds e ≡ true → (p : Parent) → e.parent ≡ p → is_in_commit t e.child ≡ true
      top e there hidden (Node n) from =
          let r = hidden_filter t h j d e n there from (ap (is_hidden_from kinds) (sym from) ∙ hidden) in
          let c : CommitJobStands t r.row = shape_of r.row r.there r.kind in
          let above : Contains (r.row.source ∷ c.between) r.row.source = Contains-here r.row.source c.between in
          ap (is_in_commit t) r.to_source
          ∙ in_commit t r.row.source r.row r.there r.kind (held_above r.row c r.row.source above) (not_base r.row r.there r.kind c r.row.source above)
      top e there hidden (Guest n) from = absurd (false≢true (ap (is_hidden_from kinds) (sym from) ∙ hidden))
      top e there hidden (Job n) from = absurd (false≢true (ap (is_hidden_from kinds) (sym from) ∙ hidden))

      down : (e : Edge) → Contains t.edges e → is_to_backing (is_in_commit t) e ≡ true → (p : Parent) → e.parent ≡ p
          → ((job : ℕ) × IsUnread kinds t.edges e.child job) × ((is_in_commit t e.child ≡ true) ⊎ IsRead t.edges e.child)
      down e there is (Node n) from =
          next_down e n there from (same_role-true e.role Backing (and-left (same_role e.role Backing) (is_one (is_in_commit t) e.parent) is))
          (commit_of t n (ap (is_one (is_in_commit t)) (sym from) ∙ and-right (same_role e.role Backing) (is_one (is_in_commit t) e.parent) is))
      down e there is (Guest n) from = absurd (false≢true (ap (is_one (is_in_commit t)) (sym from) ∙ and-right (same_role e.role Backing) (is_one (is_in_commit t) e.parent) is))
      down e there is (Job n) from = absurd (false≢true (ap (is_one (is_in_commit t)) (sym from) ∙ and-right (same_role e.role Backing) (is_one (is_in_commit t) e.parent) is))

  pub guests_apart : (writer reader : Edge) (guest node : ℕ) (along down : List Edge) → Contains t.edges writer → writer.parent ≡ Guest guest → writer.role ≡ Drive
      → writer.perm.write ≡ true → FiltersAlong kinds t.edges writer.child along node → Contains t.edges reader → reader.perm.read ≡ true
      → ReadsAlong kinds t.edges reader.child down node → GoesBelow down → ⊥
  guests_apart writer reader guest node along down there from role =
      none_below kinds t.edges (edges_stand t h j d) (is_in_commit t) commits_stand writer reader guest 0 node along down there from
      (λ is. let bad : Drive ≡ Backing = sym role ∙ is in cc bad)
