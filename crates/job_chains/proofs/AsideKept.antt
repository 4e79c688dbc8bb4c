-- What stands aside of a commit stays so behind a change, by what the change makes new.
use Rattle.std.proofs.Common.{◌≡◌, ◌≢◌, ◌⊎◌, ℕ, List, [], ◌∷◌, ◌++◌, map, refl, sym, ◌∙◌, ap, subst, inl, inr, Bool, true, false, cond, Some, None}
use Rattle.std.specs.Prelude.{◌==◌, not, drop, IsSome}
use Rattle.std.specs.List.{Contains, find}
use Rattle.std.proofs.lemmas.Bool.{false≢true, eqb-true, eq-eqb}
use Rattle.blk_graph.specs.declared.edge.Parent.TheVariants.{Node}
use Rattle.blk_graph.specs.declared.edge.Role.{Role}
use Rattle.blk_graph.specs.declared.edge.Role.TheVariants.{Backing, Filtered}
use Rattle.blk_graph.proofs.Members.{Contains-nil, Contains-cases, Contains-filter, Contains-map}
use Rattle.qmp_rules.specs.declared.change.Change.{Change}
use Rattle.qmp_rules.specs.declared.change.Change.TheVariants as change
use Rattle.qmp_rules.specs.declared.rows.NodeRecord.{NodeRecord}
use Rattle.qmp_rules.specs.declared.rows.JobRecord.{JobRecord}
use Rattle.qmp_rules.specs.declared.rows.AskedEnd.{AskedEnd}
use Rattle.qmp_rules.specs.Chains.{filter_role}
use Rattle.qmp_rules.specs.Changes.{changed, node_changed, unsettled, writable, settled, kept_from_writes, stands_over, lost_with, asked_for, ready_for, followed}
use Rattle.qmp_rules.specs.Edits.{under_top}
use Rattle.qmp_rules.specs.Table.{RunTable, node_by_id, child}
use Rattle.flat_machine.specs.Wiring.{EdgesHaveEnds}
use Rattle.flat_machine.proofs.Tables.{pushed-cases}
use Rattle.flat_machine.proofs.WritingKept.{role_edge}
use Rattle.job_chains.specs.Aside.{ReadsNext, ReadsAsideBy, ReadsAside, StandsAside}
use Rattle.job_chains.proofs.AsideSteps.{NewStep, StepFits, step_back}

-- ---- rows of jobs

-- a job's row as it was, with the same chain
pub record WasChain (t : RunTable) (row : JobRecord) : Type 0 where
  pub old : JobRecord
  pub there : Contains t.jobs old
  pub kind : row.kind ≡ old.kind
  pub source : row.source ≡ old.source
  pub held : row.held ≡ old.held

abbrev pub NewJob : Change → JobRecord → Type 0
NewJob (change.StartJob new) row = row ≡ new
NewJob c row = ⊥

same_chain : (t : RunTable) (row : JobRecord) → Contains t.jobs row → WasChain t row
same_chain t row there = record { old = row; there = there; kind = refl; source = refl; held = refl }

asked_chain : (t : RunTable) (number : ℕ) (new : AskedEnd) (row : JobRecord) → Contains (map (asked_for number new) t.jobs) row → WasChain t row
asked_chain t number new row at =
    let r = Contains-map (asked_for number new) t.jobs row at in
    by_test r.0 r.1 (r.0.number == number) r.2
  where
    by_test : (old : JobRecord) → Contains t.jobs old → (b : Bool) → row ≡ cond b (record old { asked = followed old.asked new }) old → WasChain t row
    by_test old there true is = record {
      old = old;
      there = there;
      kind = ap (λ (x : JobRecord). x.kind) is;
      source = ap (λ (x : JobRecord). x.source) is;
      held = ap (λ (x : JobRecord). x.held) is;
    }
    by_test old there false is = subst (WasChain t) (sym is) (same_chain t old there)

ready_chain : (t : RunTable) (number : ℕ) (row : JobRecord) → Contains (map (ready_for number) t.jobs) row → WasChain t row
ready_chain t number row at =
    let r = Contains-map (ready_for number) t.jobs row at in
    by_test r.0 r.1 (r.0.number == number) r.2
  where
    by_test : (old : JobRecord) → Contains t.jobs old → (b : Bool) → row ≡ cond b (record old { is_ready = true }) old → WasChain t row
    by_test old there true is = record {
      old = old;
      there = there;
      kind = ap (λ (x : JobRecord). x.kind) is;
      source = ap (λ (x : JobRecord). x.source) is;
      held = ap (λ (x : JobRecord). x.held) is;
    }
    by_test old there false is = subst (WasChain t) (sym is) (same_chain t old there)

pub job_back : (t : RunTable) (c : Change) (row : JobRecord) → Contains (changed t c).jobs row → WasChain t row ⊎ NewJob c row
unfolding changed
job_back t (change.StartJob new) row at = elim (pushed-cases t.jobs new row at) [
  | inl old ↦ inl (same_chain t row old)
  | inr is ↦ inr is
]
job_back t (change.AskJob number new) row at = inl (asked_chain t number new row at)
job_back t (change.ReadyJob number) row at = inl (ready_chain t number row at)
job_back t (change.EndJob number slot drops) row at =
    inl (same_chain t row (Contains-filter (λ (x : JobRecord). not (x.number == number)) t.jobs row at).0)
job_back t c row at = inl (same_chain t row at)

-- ---- rows of nodes

-- a node's row as it was, which has no flat disk where that had none
pub record WasNode (t : RunTable) (later : NodeRecord) : Type 0 where
  pub old : NodeRecord
  pub there : Contains t.nodes old
  pub id : later.id ≡ old.id
  pub kind : later.kind ≡ old.kind
  pub lost : old.is_settled ≡ false → later.is_settled ≡ false

abbrev pub NewNode : Change → NodeRecord → Type 0
NewNode (change.AddFile row) later = later ≡ row
NewNode (change.AddFormat row file backing) later = later ≡ row
NewNode (change.AddFilter row under) later = later ≡ row
NewNode (change.PutFilter row node) later = later ≡ row
NewNode (change.Settle node disk) later = later.id ≡ node
NewNode c later = ⊥

same_node : (t : RunTable) (row : NodeRecord) → Contains t.nodes row → WasNode t row
same_node t row there = record { old = row; there = there; id = refl; kind = refl; lost = λ is. is }

-- what a row keeps
pub record KeepsNode (row later : NodeRecord) : Type 0 where
  pub id : later.id ≡ row.id
  pub kind : later.kind ≡ row.kind
  pub lost : row.is_settled ≡ false → later.is_settled ≡ false

keeps_changed : (node : ℕ) (f : NodeRecord → NodeRecord) (row : NodeRecord) → KeepsNode row (f row) → KeepsNode row (node_changed node f row)
keeps_changed node f row keeps = by_test (row.id == node)
  where
    by_test : (b : Bool) → KeepsNode row (cond b (f row) row)
    by_test true = keeps
    by_test false = record { id = refl; kind = refl; lost = λ is. is }

keeps_lost : (name : List ℕ) (row : NodeRecord) → KeepsNode row (lost_with name row)
keeps_lost name row = by_test (stands_over name row.filename)
  where
    by_test : (b : Bool) → KeepsNode row (cond b (unsettled row) row)
    by_test true = record { id = refl; kind = refl; lost = λ is. refl }
    by_test false = record { id = refl; kind = refl; lost = λ is. is }

pub mapped_node : (t : RunTable) (f : NodeRecord → NodeRecord) → ((row : NodeRecord) → KeepsNode row (f row)) → (later : NodeRecord) → Contains (map f t.nodes) later → WasNode t later
mapped_node t f keeps later at =
    let r = Contains-map f t.nodes later at in
    let k = keeps r.0 in
    record {
      old = r.0;
      there = r.1;
      id = ap (λ (x : NodeRecord). x.id) r.2 ∙ k.id;
      kind = ap (λ (x : NodeRecord). x.kind) r.2 ∙ k.kind;
      lost = λ is. ap (λ (x : NodeRecord). x.is_settled) r.2 ∙ k.lost is;
    }

unsettled_node : (t : RunTable) (node : ℕ) (later : NodeRecord) → Contains (map (node_changed node unsettled) t.nodes) later → WasNode t later
unsettled_node t node = mapped_node t (node_changed node unsettled)
    (λ row. keeps_changed node unsettled row (record { id = refl; kind = refl; lost = λ is. refl }))

pushed_node : (t : RunTable) (row later : NodeRecord) → Contains (t.nodes ++ row ∷ []) later → WasNode t later ⊎ (later ≡ row)
pushed_node t row later at = elim (pushed-cases t.nodes row later at) [
  | inl old ↦ inl (same_node t later old)
  | inr is ↦ inr is
]

pub node_back : (t : RunTable) (c : Change) (later : NodeRecord) → Contains (changed t c).nodes later → WasNode t later ⊎ NewNode c later
unfolding changed
node_back t (change.FormatFile node name size backing_file backing_fmt) later at = inl (unsettled_node t node later at)
node_back t (change.SpoilFile name) later at = inl (mapped_node t (lost_with name) (keeps_lost name) later at)
node_back t (change.AddFile row) later at = pushed_node t row later at
node_back t (change.AddFormat row file backing) later at = elim (pushed-cases (map (node_changed file unsettled) t.nodes) row later at) [
  | inl old ↦ inl (unsettled_node t file later old)
  | inr is ↦ inr is
]
node_back t (change.AddFilter row under) later at = pushed_node t row later at
node_back t (change.RemoveNode node) later at =
    inl (same_node t later (Contains-filter (λ (x : NodeRecord). not (x.id == node)) t.nodes later at).0)
node_back t (change.Unsettle node) later at = inl (unsettled_node t node later at)
node_back t (change.MakeWritable node) later at =
    inl (mapped_node t (node_changed node writable) (λ row. keeps_changed node writable row (record { id = refl; kind = refl; lost = λ is. is })) later at)
node_back t (change.PutFilter row node) later at = pushed_node t row later at
node_back t (change.PullFilter filter) later at =
    inl (same_node t later (Contains-filter (λ (x : NodeRecord). not (x.id == filter)) t.nodes later at).0)
node_back t (change.Settle node disk) later at =
    let r = Contains-map (node_changed node settled) t.nodes later at in
    by_test r.0 r.1 (r.0.id == node) refl r.2
  where
    by_test : (old : NodeRecord) → Contains t.nodes old → (b : Bool) → (old.id == node) ≡ b → later ≡ cond b (settled old) old → WasNode t later ⊎ (later.id ≡ node)
    by_test old there true own is = inr (ap (λ (x : NodeRecord). x.id) is ∙ eqb-true old.id node own)
    by_test old there false other is = inl (subst (WasNode t) (sym is) (same_node t old there))
node_back t (change.MakeReadOnly node) later at =
    inl (mapped_node t (node_changed node kept_from_writes) (λ row. keeps_changed node kept_from_writes row (record { id = refl; kind = refl; lost = λ is. is })) later at)
node_back t c later at = inl (same_node t later at)

-- ---- what is read aside

pub aside_on : (t : RunTable) (row : JobRecord) (n m : ℕ) → n ≢ row.source → ReadsNext t n m → ReadsAside t row m → ReadsAside t row n
aside_on t row n m other next aside = (m ∷ aside.0, (other, next, aside.1))

pub aside_now : (t : RunTable) (row : JobRecord) (n : ℕ) → n ≢ row.source → Contains (under_top row) n → ReadsAside t row n
aside_now t row n other under = ([], (other, under))

-- what holds of the nodes under the top, and of each that reads one of which it holds
pub aside_by : (t : RunTable) (row : JobRecord) (Q : ℕ → Type 0) → ((n : ℕ) → n ≢ row.source → Contains (under_top row) n → Q n)
    → ((n m : ℕ) → n ≢ row.source → ReadsNext t n m → Q m → Q n) → (path : List ℕ) (n : ℕ) → ReadsAsideBy t row n path → Q n
aside_by t row Q under next [] n is = under n is.0 is.1
aside_by t row Q under next (m ∷ path) n is = next n m is.0 is.1 (aside_by t row Q under next path m is.2)

-- a node that reads another one is there, and so is that one
pub reader_there : (t : RunTable) → EdgesHaveEnds t → (n m : ℕ) → ReadsNext t n m → IsSome (node_by_id t n) × IsSome (node_by_id t m)
reader_there t ends n m is = elim is [ inl backing ↦ by_role Backing backing | inr filtered ↦ by_role Filtered filtered ]
  where
    by_role : (role : Role) → child t n role ≡ Some m → IsSome (node_by_id t n) × IsSome (node_by_id t m)
    by_role role at =
        let e = role_edge (Node n) role t.edges m at in
        ((ends e.edge e.there).parent n e.from, subst (λ k. IsSome (node_by_id t k)) e.to (ends e.edge e.there).child)

abbrev pub UnderIsThere : RunTable → JobRecord → Type 0
UnderIsThere t row = (n : ℕ) → Contains (under_top row) n → IsSome (node_by_id t n)

pub aside_there : (t : RunTable) → EdgesHaveEnds t → (row : JobRecord) → UnderIsThere t row → (n : ℕ) → ReadsAside t row n → IsSome (node_by_id t n)
aside_there t ends row there n aside =
    aside_by t row (λ k. IsSome (node_by_id t k)) (λ k other under. there k under) (λ k m other next more. (reader_there t ends k m next).0) aside.0 n aside.1

pub no_such_node : (t : RunTable) (n : ℕ) → node_by_id t n ≡ None → IsSome (node_by_id t n) → ⊥
no_such_node t n fresh some = let bad = subst IsSome fresh some in cc

pub row_found : (rows : List NodeRecord) (row : NodeRecord) → Contains rows row → IsSome (find (λ (r : NodeRecord). r.id == row.id) rows)
row_found [] row there = absurd (Contains-nil row there)
row_found (r ∷ rows) row there = by_test (r.id == row.id) refl (row_found rows row) (Contains-cases r rows row there)
  where
    by_test : (b : Bool) → (r.id == row.id) ≡ b → (Contains rows row → IsSome (find (λ (x : NodeRecord). x.id == row.id) rows)) → (row ≡ r) ⊎ Contains rows row
        → IsSome (cond b (Some r) (find (λ (x : NodeRecord). x.id == row.id) rows))
    by_test true is more at = refl
    by_test false is more (inl here) = absurd (false≢true (sym is ∙ eq-eqb r.id row.id (ap (λ (x : NodeRecord). x.id) (sym here))))
    by_test false is more (inr behind) = more behind

-- ---- behind a change

module _ (t : RunTable) (c : Change) (fits : StepFits t c) (row old : JobRecord) (source : row.source ≡ old.source) (held : row.held ≡ old.held)
    (steps : (n m : ℕ) → n ≢ old.source → NewStep t c n m → ReadsAside t old m → ReadsAside t old n) where
  pub was_aside : (n : ℕ) → ReadsAside (changed t c) row n → ReadsAside t old n
  was_aside n aside =
      aside_by (changed t c) row (ReadsAside t old)
      (λ k other under. aside_now t old k (λ same. other (same ∙ sym source)) (subst (λ (ids : List ℕ). Contains (drop 1 ids) k) held under))
      (λ k m other next more. elim (step_back t k m c fits next) [
        | inl was ↦ aside_on t old k m (λ same. other (same ∙ sym source)) was more
        | inr new ↦ steps k m (λ same. other (same ∙ sym source)) new more
      ]) aside.0 n aside.1

  pub still_aside : ((later : NodeRecord) → NewNode c later → filter_role later.kind ≡ None → ReadsAside t old later.id → later.is_settled ≡ false)
      → StandsAside t old → StandsAside (changed t c) row
  still_aside nodes stands later there own aside =
      let before : ReadsAside t old later.id = was_aside later.id aside in
      elim (node_back t c later there) [
        | inl was ↦ was.lost (stands was.old was.there (ap filter_role (sym was.kind) ∙ own) (subst (ReadsAside t old) was.id before))
        | inr new ↦ nodes later new own before
      ]

-- ---- a filter is put

module _ (t : RunTable) (ends : EdgesHaveEnds t) (new : NodeRecord) (node : ℕ) (fresh : node_by_id t new.id ≡ None) (filter : filter_role new.kind ≡ Some Filtered)
    (row : JobRecord) (under_there : UnderIsThere t row) where
  abbrev put : Change
  put = change.PutFilter new node

  put_fits : StepFits t put
  put_fits role m is =
      let e = role_edge (Node new.id) role t.edges m is in
      no_such_node t new.id fresh ((ends e.edge e.there).parent new.id e.from)

  abbrev Behind : ℕ → Type 0
  Behind n = ReadsAside t row n ⊎ ((n ≡ new.id) × ReadsAside t row node)

  behind_next : (n m : ℕ) → n ≢ row.source → ReadsNext (changed t put) n m → Behind m → Behind n
  behind_next n m other next more = elim (step_back t n m put put_fits next) [
    | inl was ↦ elim more [
      | inl aside ↦ inl (aside_on t row n m other was aside)
      | inr own ↦ absurd (no_such_node t new.id fresh (subst (λ k. IsSome (node_by_id t k)) own.0 (reader_there t ends n m was).1))
    ]
    | inr (inl own) ↦ elim more [
      | inl aside ↦ inr (own.0, subst (ReadsAside t row) own.1 aside)
      | inr at ↦ inr (own.0, at.1)
    ]
    | inr (inr over) ↦ elim more [
      | inl aside ↦ absurd (no_such_node t new.id fresh (subst (λ k. IsSome (node_by_id t k)) over.0 (aside_there t ends row under_there m aside)))
      | inr at ↦ inl (aside_on t row n node other over.1 at.1)
    ]
  ]

  pub put_aside : StandsAside t row → StandsAside (changed t put) row
  put_aside stands later there own aside = elim (node_back t put later there) [
    | inl was ↦ elim (aside_by (changed t put) row Behind (λ k other under. inl (aside_now t row k other under)) behind_next aside.0 later.id aside.1) [
      | inl before ↦ was.lost (stands was.old was.there (ap filter_role (sym was.kind) ∙ own) (subst (ReadsAside t row) was.id before))
      | inr at ↦ absurd (no_such_node t new.id fresh (subst (λ k. IsSome (node_by_id t k)) (sym was.id ∙ at.0) (row_found t.nodes was.old was.there)))
    ]
    | inr is ↦ absurd (let bad : None ≡ Some Filtered = sym own ∙ ap (λ (x : NodeRecord). filter_role x.kind) is ∙ filter in cc bad)
  ]
