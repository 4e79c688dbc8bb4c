-- What the rows of jobs say of the edges, as the ends of jobs rest on it.
use Rattle.std.proofs.Common.{◌≡◌, ◌≢◌, ◌⊎◌, ℕ, List, [], ◌∷◌, ◌++◌, map, refl, sym, ◌∙◌, ap, subst, inl, inr, Bool, true, false, Option, Some, None}
use Rattle.std.specs.Prelude.{◌==◌, ◌||◌, drop}
use Rattle.std.specs.List.{Contains, AllPairs}
use Rattle.std.proofs.lemmas.Bool.{false≢true, eqb-true, eq-eqb}
use Rattle.blk_graph.specs.declared.edge.Edge.{Edge}
use Rattle.blk_graph.specs.declared.edge.Parent.TheVariants.{Job}
use Rattle.blk_graph.specs.declared.edge.Role.{Role}
use Rattle.blk_graph.specs.declared.edge.Role.TheVariants.{File, Filtered, Between}
use Rattle.blk_graph.specs.declared.kind.Kind.{Kind}
use Rattle.blk_graph.specs.declared.kind.Kind.TheVariants as driver
use Rattle.blk_graph.specs.declared.kind.JobUse.{JobUse}
use Rattle.blk_graph.specs.declared.kind.JobUse.TheVariants.{CopyTarget, CommitTop, StreamTop, StreamBelow}
use Rattle.blk_graph.specs.Edges.{DifferInPlace}
use Rattle.blk_graph.specs.Permissions.{has_role, job_edge}
use Rattle.blk_graph.proofs.Members.{Contains-nil, Contains-here, Contains-there, Contains-cases, Contains-map, list_any-there}
use Rattle.blk_graph.proofs.RoleLemmas.{head_pairs, tail_pairs}
use Rattle.qmp_codec.specs.declared.event.JobKind.{JobKind}
use Rattle.qmp_codec.specs.declared.event.JobKind.TheVariants.{Stream, Commit, Mirror, Backup}
use Rattle.qmp_rules.specs.declared.rows.JobRecord.{JobRecord}
use Rattle.qmp_rules.specs.Chains.{filter_role, is_listed}
use Rattle.qmp_rules.specs.Edits.{under_top}
use Rattle.qmp_rules.specs.Table.{RunTable}
use Rattle.job_edges.specs.Chains.{is_plain}
use Rattle.job_edges.specs.Held.{is_job_filter}
use Rattle.job_edges.specs.Kinds.{is_open_by, is_hiding, is_copying}
use Rattle.job_tables.specs.Rows.{commit_edge, target_edges, edges_by, edges_of_job, nodes_of_job}
use Rattle.job_tables.specs.Jobs.{CopyStands, StandsByKind, JobStands, filter_kind}

-- ---- kinds

pub plain_own : (k : Kind) → filter_role k ≡ None → is_plain k ≡ true
plain_own driver.Protocol h = refl
plain_own driver.Raw h = refl
plain_own driver.Qcow2 h = refl
plain_own driver.CopyOnRead h = absurd cc
plain_own driver.BeforeWrite h = absurd cc
plain_own driver.Mirror h = absurd cc
plain_own driver.Commit h = absurd cc

pub filter_plain : (k : Kind) → is_job_filter k ≡ true → is_plain k ≡ false
filter_plain driver.BeforeWrite h = refl
filter_plain driver.Mirror h = refl
filter_plain driver.Commit h = refl
filter_plain driver.Protocol h = absurd (false≢true h)
filter_plain driver.Raw h = absurd (false≢true h)
filter_plain driver.Qcow2 h = absurd (false≢true h)
filter_plain driver.CopyOnRead h = absurd (false≢true h)

pub filter_has : (k : Kind) (r : Role) → is_job_filter k ≡ true → has_role k r ≡ true → r ≡ Filtered
filter_has driver.BeforeWrite Filtered h is = refl
filter_has driver.Mirror Filtered h is = refl
filter_has driver.Commit Filtered h is = refl
filter_has driver.Protocol r h is = absurd (false≢true h)
filter_has driver.Raw r h is = absurd (false≢true h)
filter_has driver.Qcow2 r h is = absurd (false≢true h)
filter_has driver.CopyOnRead r h is = absurd (false≢true h)
filter_has k r h is = absurd (false≢true is)

pub copying_is : (k : Kind) → is_copying k ≡ true → k ≡ driver.CopyOnRead
copying_is driver.CopyOnRead h = refl
copying_is driver.Protocol h = absurd (false≢true h)
copying_is driver.Raw h = absurd (false≢true h)
copying_is driver.Qcow2 h = absurd (false≢true h)
copying_is driver.BeforeWrite h = absurd (false≢true h)
copying_is driver.Mirror h = absurd (false≢true h)
copying_is driver.Commit h = absurd (false≢true h)

pub hiding_is : (k : Kind) → is_hiding k ≡ true → k ≡ driver.Commit
hiding_is driver.Commit h = refl
hiding_is driver.Protocol h = absurd (false≢true h)
hiding_is driver.Raw h = absurd (false≢true h)
hiding_is driver.Qcow2 h = absurd (false≢true h)
hiding_is driver.BeforeWrite h = absurd (false≢true h)
hiding_is driver.Mirror h = absurd (false≢true h)
hiding_is driver.CopyOnRead h = absurd (false≢true h)

-- an edge that doesn't let others read is a format node's to its file
pub closed_by : (k : Kind) (r : Role) → is_open_by k r ≡ false → (filter_role k ≡ None) × (r ≡ File)
closed_by driver.Raw File h = (refl, refl)
closed_by driver.Qcow2 File h = (refl, refl)
closed_by k r h = absurd (false≢true (sym h))

pub kind_commit : (k : JobKind) → filter_kind k ≡ Some driver.Commit → k ≡ Commit
kind_commit Commit h = refl
kind_commit Stream h = absurd cc
kind_commit Mirror h = absurd cc
kind_commit Backup h = absurd cc

-- ---- lists

pub listed-Contains : (id : ℕ) (ids : List ℕ) → is_listed id ids ≡ true → Contains ids id
listed-Contains id [] h = absurd (false≢true h)
listed-Contains id (x ∷ ids) h = by_test (x == id) refl h (listed-Contains id ids)
  where
    by_test : (b : Bool) → (x == id) ≡ b → (b || is_listed id ids) ≡ true → (is_listed id ids ≡ true → Contains ids id) → Contains (x ∷ ids) id
    by_test true is rest more = subst (Contains (x ∷ ids)) (eqb-true x id is) (Contains-here x ids)
    by_test false is rest more = Contains-there x ids id (more rest)

pub Contains-listed : (id : ℕ) (ids : List ℕ) → Contains ids id → is_listed id ids ≡ true
Contains-listed id ids there = list_any-there (λ other. other == id) ids id there (eq-eqb id id refl)

pub in_left : {X : Type 0} (xs ys : List X) (x : X) → Contains xs x → Contains (xs ++ ys) x
in_left [] ys x there = absurd (Contains-nil x there)
in_left (y ∷ xs) ys x there = elim (Contains-cases y xs x there) [
  | inl here ↦ subst (Contains (y ∷ xs ++ ys)) (sym here) (Contains-here y (xs ++ ys))
  | inr more ↦ Contains-there y (xs ++ ys) x (in_left xs ys x more)
]

pub in_right : {X : Type 0} (xs ys : List X) (x : X) → Contains ys x → Contains (xs ++ ys) x
in_right [] ys x there = there
in_right (y ∷ xs) ys x there = Contains-there y (xs ++ ys) x (in_right xs ys x there)

pub in_either : {X : Type 0} (xs ys : List X) (x : X) → Contains (xs ++ ys) x → Contains xs x ⊎ Contains ys x
in_either [] ys x there = inr there
in_either (y ∷ xs) ys x there = elim (Contains-cases y (xs ++ ys) x there) [
  | inl here ↦ inl (subst (Contains (y ∷ xs)) (sym here) (Contains-here y xs))
  | inr more ↦ elim (in_either xs ys x more) [
    | inl left ↦ inl (Contains-there y xs x left)
    | inr right ↦ inr right
  ]
]

pub in_drop : (ids : List ℕ) (id : ℕ) → Contains (drop 1 ids) id → Contains ids id
in_drop [] id there = there
in_drop (x ∷ ids) id there = Contains-there x ids id there

-- two edges of one parent and one role that is not Between are one
pub only_by : (edges : List Edge) → AllPairs DifferInPlace edges → (a b : Edge) → Contains edges a → Contains edges b
    → a.parent ≡ b.parent → a.role ≡ b.role → a.role ≢ Between → a ≡ b
only_by [] pairs a b at_a at_b parents roles single = absurd (Contains-nil a at_a)
only_by (x ∷ xs) pairs a b at_a at_b parents roles single =
    by_cases (Contains-cases x xs a at_a) (Contains-cases x xs b at_b)
    (λ more other. only_by xs (tail_pairs DifferInPlace x xs pairs) a b more other parents roles single)
  where
    by_cases : (a ≡ x) ⊎ Contains xs a → (b ≡ x) ⊎ Contains xs b → (Contains xs a → Contains xs b → a ≡ b) → a ≡ b
    by_cases (inl p) (inl q) rest = p ∙ sym q
    by_cases (inl p) (inr q) rest =
        let apart : DifferInPlace a b = subst (λ (y : Edge). DifferInPlace y b) (sym p) (head_pairs DifferInPlace x xs pairs b q) in
        absurd (single (apart parents roles).0)
    by_cases (inr p) (inl q) rest =
        let apart : DifferInPlace b a = subst (λ (y : Edge). DifferInPlace y a) (sym q) (head_pairs DifferInPlace x xs pairs a p) in
        absurd (single (roles ∙ (apart (sym parents) (sym roles)).0))
    by_cases (inr p) (inr q) rest = rest p q

-- ---- rows

pub edge_slot : (row : JobRecord) (e : Edge) → Contains (edges_of_job row) e → e.parent ≡ Job row.slot
edge_slot row e there = by_kind row.kind there
  where
    of_top : (what : JobUse) (node : ℕ) → e ≡ job_edge row.slot what node → e.parent ≡ Job row.slot
    of_top what node is = ap (λ (x : Edge). x.parent) is

    by_target : (target : Option ℕ) → Contains (target_edges row.slot target) e → e.parent ≡ Job row.slot
    by_target None at = absurd (Contains-nil e at)
    by_target (Some target) at = elim (Contains-cases (job_edge row.slot CopyTarget target) [] e at) [
      | inl here ↦ of_top CopyTarget target here
      | inr more ↦ absurd (Contains-nil e more)
    ]

    by_kind : (k : JobKind) → Contains (edges_by row k) e → e.parent ≡ Job row.slot
    by_kind Stream at = elim (Contains-cases (job_edge row.slot StreamTop row.source) (map (job_edge row.slot StreamBelow) row.read) e at) [
      | inl here ↦ of_top StreamTop row.source here
      | inr more ↦ let r = Contains-map (job_edge row.slot StreamBelow) row.read e more in of_top StreamBelow r.0 r.2
    ]
    by_kind Commit at = elim (Contains-cases (job_edge row.slot CommitTop row.source) (map (commit_edge row) (under_top row)) e at) [
      | inl here ↦ of_top CommitTop row.source here
      | inr more ↦ let r = Contains-map (commit_edge row) (under_top row) e more in ap (λ (x : Edge). x.parent) r.2
    ]
    by_kind Mirror at = by_target row.target at
    by_kind Backup at = by_target row.target at

pub copy_holds : (t : RunTable) (row : JobRecord) (kind : Kind) (c : CopyStands t row kind) → Contains row.held c.target
copy_holds t row kind c =
    subst (λ ids. Contains ids c.target) (sym c.held) (Contains-there row.source (c.target ∷ []) c.target (Contains-here c.target []))

pub holds_source : (t : RunTable) (row : JobRecord) → JobStands t row → Contains row.held row.source
holds_source t row stands = by_kind row.kind stands.shape
  where
    first : (ids : List ℕ) → row.held ≡ row.source ∷ ids → Contains row.held row.source
    first ids is = subst (λ xs. Contains xs row.source) (sym is) (Contains-here row.source ids)

    by_kind : (k : JobKind) → StandsByKind t row k → Contains row.held row.source
    by_kind Stream s = first [] s.held
    by_kind Commit s = first (s.between ++ s.base ∷ []) s.held
    by_kind Mirror s = first (s.target ∷ []) s.held
    by_kind Backup s = first (s.target ∷ []) s.held

pub edge_node : (t : RunTable) (row : JobRecord) → JobStands t row → (e : Edge) → Contains (edges_of_job row) e → Contains (nodes_of_job row) e.child
edge_node t row stands e there = by_kind row.kind stands.shape there
  where
    source_at : (what : JobUse) → e ≡ job_edge row.slot what row.source → Contains (nodes_of_job row) e.child
    source_at what is =
        subst (Contains (nodes_of_job row)) (sym (ap (λ (x : Edge). x.child) is)) (in_left row.held row.read row.source (holds_source t row stands))

    by_target : (kind : Kind) → CopyStands t row kind → Contains (target_edges row.slot row.target) e → Contains (nodes_of_job row) e.child
    by_target kind c at =
        let at_target : Contains (target_edges row.slot (Some c.target)) e = subst (λ o. Contains (target_edges row.slot o) e) c.is_target at in
        elim (Contains-cases (job_edge row.slot CopyTarget c.target) [] e at_target) [
          | inl here ↦ subst (Contains (nodes_of_job row)) (sym (ap (λ (x : Edge). x.child) here)) (in_left row.held row.read c.target (copy_holds t row kind c))
          | inr more ↦ absurd (Contains-nil e more)
        ]

    by_kind : (k : JobKind) → StandsByKind t row k → Contains (edges_by row k) e → Contains (nodes_of_job row) e.child
    by_kind Stream s at = elim (Contains-cases (job_edge row.slot StreamTop row.source) (map (job_edge row.slot StreamBelow) row.read) e at) [
      | inl here ↦ source_at StreamTop here
      | inr more ↦
          let r = Contains-map (job_edge row.slot StreamBelow) row.read e more in
          subst (Contains (nodes_of_job row)) (sym (ap (λ (x : Edge). x.child) r.2)) (in_right row.held row.read r.0 r.1)
    ]
    by_kind Commit s at = elim (Contains-cases (job_edge row.slot CommitTop row.source) (map (commit_edge row) (under_top row)) e at) [
      | inl here ↦ source_at CommitTop here
      | inr more ↦
          let r = Contains-map (commit_edge row) (under_top row) e more in
          subst (Contains (nodes_of_job row)) (sym (ap (λ (x : Edge). x.child) r.2)) (in_left row.held row.read r.0 (in_drop row.held r.0 r.1))
    ]
    by_kind Mirror s at = by_target driver.Mirror s at
    by_kind Backup s at = by_target driver.BeforeWrite s at
