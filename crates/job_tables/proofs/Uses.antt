-- The edges that a job gets at its start.
use Rattle.std.proofs.Common.{◌≡◌, ◌⊎◌, ℕ, List, [], ◌∷◌, map, refl, sym, ◌∙◌, ap, subst, inl, inr, Bool, true, false, cond, Option, Some, None}
use Rattle.std.specs.Prelude.{◌==◌, ◌&&◌, ◌||◌, not}
use Rattle.std.specs.List.{Contains}
use Rattle.std.proofs.lemmas.Bool.{false≢true, eqb-true}
use Rattle.blk_graph.specs.declared.edge.Edge.{Edge}
use Rattle.blk_graph.specs.declared.edge.Parent.TheVariants.{Node, Job}
use Rattle.blk_graph.specs.declared.edge.Role.{Role}
use Rattle.blk_graph.specs.declared.edge.Role.TheVariants.{Source, Between, Base}
use Rattle.blk_graph.specs.declared.kind.JobUse.{JobUse}
use Rattle.blk_graph.specs.declared.kind.JobUse.TheVariants.{CopyTarget, CommitTop, CommitBetween, CommitBase, StreamTop, StreamBelow}
use Rattle.blk_graph.specs.declared.kind.NodeKind.{NodeKind}
use Rattle.blk_graph.specs.Edges.{same_parent, same_role, is_job}
use Rattle.blk_graph.specs.Edits.{takes_place, with_edge}
use Rattle.blk_graph.specs.Permissions.{job_edge, job_role}
use Rattle.blk_graph.specs.Refreshed.{refreshed}
use Rattle.blk_graph.proofs.ChildLemmas.{child-kept}
use Rattle.blk_graph.proofs.CycleLemmas.{and-right}
use Rattle.blk_graph.proofs.EditLemmas.{Contains-with_edge, Contains-with_edge_new}
use Rattle.blk_graph.proofs.Members.{Contains-nil, Contains-here, Contains-there, Contains-cases, Contains-map}
use Rattle.blk_graph.proofs.PathLemmas.{Reaches-edge}
use Rattle.blk_graph.proofs.RefreshLemmas.{child_of-refreshed}
use Rattle.blk_graph.proofs.RoleLemmas.{takes_place-role}
use Rattle.qmp_codec.specs.declared.event.JobKind.{JobKind}
use Rattle.qmp_codec.specs.declared.event.JobKind.TheVariants.{Stream, Commit, Mirror, Backup}
use Rattle.qmp_rules.specs.declared.change.Change.{Change}
use Rattle.qmp_rules.specs.declared.change.Change.TheVariants as change
use Rattle.qmp_rules.specs.declared.rows.JobRecord.{JobRecord}
use Rattle.qmp_rules.specs.Asks.{is_base}
use Rattle.qmp_rules.specs.Changes.{changed, all_changed}
use Rattle.qmp_rules.specs.Edits.{under_top, uses_as, commit_uses, uses_target}
use Rattle.qmp_rules.specs.Table.{RunTable, child, kinds_of}
use Rattle.flat_machine.proofs.JobEdges.{no_file}
use Rattle.flat_machine.proofs.Tables.{with_edge-keeps}
use Rattle.job_tables.specs.Rows.{target_edges, edges_by}
use Rattle.job_tables.proofs.Plain.{HasFile, file-before}
use Rattle.job_tables.proofs.Kept.{refreshed_jobs, refreshed_jobs_back}
use Rattle.job_tables.proofs.Left.{LeadsAs, leads_then, leads_derived}

-- one use of a node
pub record UseOf : Type 0 where
  pub what : JobUse
  pub node : ℕ

abbrev pub change_of : ℕ → UseOf → Change
change_of slot u = change.UseNode slot u.what u.node

abbrev pub edge_of : ℕ → UseOf → Edge
edge_of slot u = job_edge slot u.what u.node

-- no edge takes the place of another one
abbrev pub AreApartUses : ℕ → List UseOf → Type 0
AreApartUses slot uses = (a b : UseOf) → Contains uses a → Contains uses b → takes_place (edge_of slot a) (edge_of slot b) ≡ true → edge_of slot a ≡ edge_of slot b

-- what they leave
pub record Used (t now : RunTable) (slot : ℕ) (uses : List UseOf) : Type 0 where
  pub nodes : now.nodes ≡ t.nodes
  pub jobs : now.jobs ≡ t.jobs
  pub kept : (e : Edge) → Contains t.edges e → is_job e.parent ≡ true
      → ((u : UseOf) → Contains uses u → takes_place (edge_of slot u) e ≡ true → edge_of slot u ≡ e) → Contains now.edges e
  pub own : AreApartUses slot uses → (u : UseOf) → Contains uses u → Contains now.edges (edge_of slot u)
  pub back : (e : Edge) → Contains now.edges e → is_job e.parent ≡ true → Contains t.edges e ⊎ ((u : UseOf) × Contains uses u × (e ≡ edge_of slot u))
  pub files : (node over : ℕ) → HasFile now.edges over node → HasFile t.edges over node
  pub children : (node : ℕ) (role : Role) → child now node role ≡ child t node role
  pub leads : LeadsAs t.edges now.edges

used_none : (t : RunTable) (slot : ℕ) → Used t t slot []
used_none t slot = record {
  nodes = refl;
  jobs = refl;
  kept = λ e there is apart. there;
  own = λ apart u there. absurd (Contains-nil u there);
  back = λ e there is. inl there;
  files = λ node over file. file;
  children = λ node role. refl;
  leads = λ a e there from. Reaches-edge t.edges a e there from;
}

used_one : (t : RunTable) (slot : ℕ) (u : UseOf) → Used t (changed t (change_of slot u)) slot (u ∷ [])
unfolding changed
used_one t slot u = record {
  nodes = refl;
  jobs = refl;
  kept = λ e there is apart. refreshed_jobs kinds put e is (by_place e there (takes_place new e) refl (apart u (Contains-here u [])));
  own = λ apart v there. elim (Contains-cases u [] v there) [
    | inl same ↦ subst (λ (x : UseOf). Contains (refreshed kinds put) (edge_of slot x)) (sym same) (refreshed_jobs kinds put new refl (Contains-with_edge_new new t.edges))
    | inr more ↦ absurd (Contains-nil v more)
  ];
  back = λ e there is. elim (Contains-with_edge new t.edges e (refreshed_jobs_back kinds put e is there)) [
    | inl own ↦ inr (u, Contains-here u [], own)
    | inr old ↦ inl old
  ];
  files = λ node over file.
      let v = file-before kinds put over node file in
      elim (Contains-with_edge new t.edges v.edge v.there) [
        | inl own ↦ absurd (no_file u.what (ap (λ (x : Edge). x.role) (sym own) ∙ v.role))
        | inr old ↦ record { edge = v.edge; there = old; parent = v.parent; role = v.role; child = v.child }
      ];
  children = λ node role. child_of-refreshed kinds (Node node) role put ∙ child-kept (Node node) role new t.edges (λ same. cc);
  leads = leads_then t.edges put (refreshed kinds put)
      (λ a e there from. elim (Contains-with_edge new t.edges e there) [
        | inl own ↦ absurd (let bad : Job slot ≡ Node a = ap (λ (x : Edge). x.parent) (sym own) ∙ from in cc bad)
        | inr old ↦ Reaches-edge t.edges a e old from
      ])
      (leads_derived kinds put);
}
  where
    kinds : List NodeKind
    kinds = kinds_of t.nodes

    new : Edge
    new = edge_of slot u

    put : List Edge
    put = with_edge (edge_of slot u) t.edges

    by_place : (e : Edge) → Contains t.edges e → (b : Bool) → takes_place (edge_of slot u) e ≡ b → (takes_place (edge_of slot u) e ≡ true → edge_of slot u ≡ e)
        → Contains (with_edge (edge_of slot u) t.edges) e
    by_place e there true is same = subst (Contains (with_edge (edge_of slot u) t.edges)) (same is) (Contains-with_edge_new (edge_of slot u) t.edges)
    by_place e there false is same = with_edge-keeps (edge_of slot u) t.edges e is there

pub used_all : (uses : List UseOf) (t : RunTable) (slot : ℕ) → Used t (all_changed t (map (change_of slot) uses)) slot uses
used_all [] t slot = used_none t slot
used_all (u ∷ uses) t slot =
    let first : Used t (changed t (change_of slot u)) slot (u ∷ []) = used_one t slot u in
    let rest : Used (changed t (change_of slot u)) (all_changed (changed t (change_of slot u)) (map (change_of slot) uses)) slot uses = used_all uses (changed t (change_of slot u)) slot in
    record {
      nodes = rest.nodes ∙ first.nodes;
      jobs = rest.jobs ∙ first.jobs;
      kept = λ e there is apart.
          rest.kept e
          (first.kept e there is (λ v at. elim (Contains-cases u [] v at) [
            | inl same ↦ apart v (subst (Contains (u ∷ uses)) (sym same) (Contains-here u uses))
            | inr none ↦ absurd (Contains-nil v none)
          ]))
          is (λ v at. apart v (Contains-there u uses v at));
      own = λ apart v there. elim (Contains-cases u uses v there) [
        | inl same ↦
            rest.kept (edge_of slot v)
            (subst (λ (x : UseOf). Contains (changed t (change_of slot u)).edges (edge_of slot x)) (sym same)
            (first.own (λ a b at_a at_b is. one_place u a b at_a at_b) u (Contains-here u [])))
            refl (λ w at is. apart w v (Contains-there u uses w at) there is)
        | inr more ↦ rest.own (λ a b at_a at_b. apart a b (Contains-there u uses a at_a) (Contains-there u uses b at_b)) v more
      ];
      back = λ e there is. elim (rest.back e there is) [
        | inr own ↦ inr (own.0, Contains-there u uses own.0 own.1, own.2)
        | inl before ↦ elim (first.back e before is) [
          | inl old ↦ inl old
          | inr own ↦ inr (
            own.0,
            (elim (Contains-cases u [] own.0 own.1) [
              | inl same ↦ subst (Contains (u ∷ uses)) (sym same) (Contains-here u uses)
              | inr none ↦ absurd (Contains-nil own.0 none)
            ]),
            own.2,
          )
        ]
      ];
      files = λ node over file. first.files node over (rest.files node over file);
      children = λ node role. rest.children node role ∙ first.children node role;
      leads = leads_then t.edges (changed t (change_of slot u)).edges (all_changed (changed t (change_of slot u)) (map (change_of slot) uses)).edges first.leads rest.leads;
    }
  where
    one_place : (u a b : UseOf) → Contains (u ∷ []) a → Contains (u ∷ []) b → edge_of slot a ≡ edge_of slot b
    one_place u a b at_a at_b = elim (Contains-cases u [] a at_a) [
      | inl p ↦ elim (Contains-cases u [] b at_b) [
        | inl q ↦ ap (edge_of slot) (p ∙ sym q)
        | inr none ↦ absurd (Contains-nil b none)
      ]
      | inr none ↦ absurd (Contains-nil a none)
    ]

-- ---- the uses of a row

abbrev pub commit_use : JobRecord → ℕ → UseOf
commit_use row id = record { what = cond (is_base row.target id) CommitBase CommitBetween; node = id }

abbrev pub target_uses : Option ℕ → List UseOf
target_uses None = []
target_uses (Some target) = record { what = CopyTarget; node = target } ∷ []

abbrev pub below_use : ℕ → UseOf
below_use id = record { what = StreamBelow; node = id }

abbrev pub uses_by : JobRecord → JobKind → List UseOf
uses_by row Stream = record { what = StreamTop; node = row.source } ∷ map below_use row.read
uses_by row Commit = record { what = CommitTop; node = row.source } ∷ map (commit_use row) (under_top row)
uses_by row Mirror = target_uses row.target
uses_by row Backup = target_uses row.target

maps-both : {X Y Z : Type 0} (f : Y → Z) (g : X → Y) (xs : List X) → map f (map g xs) ≡ map (λ x. f (g x)) xs
maps-both f g [] = refl
maps-both f g (x ∷ xs) = ap (λ ys. f (g x) ∷ ys) (maps-both f g xs)

-- their changes and their edges
pub stream_changes : (row : JobRecord) → map (change_of row.slot) (uses_by row Stream) ≡ change.UseNode row.slot StreamTop row.source ∷ uses_as row.slot StreamBelow row.read
stream_changes row = ap (λ more. change.UseNode row.slot StreamTop row.source ∷ more) (maps-both (change_of row.slot) below_use row.read)

pub commit_changes : (row : JobRecord) → map (change_of row.slot) (uses_by row Commit) ≡ change.UseNode row.slot CommitTop row.source ∷ commit_uses row
commit_changes row = ap (λ more. change.UseNode row.slot CommitTop row.source ∷ more) (maps-both (change_of row.slot) (commit_use row) (under_top row))

pub target_changes : (row : JobRecord) (target : Option ℕ) → map (change_of row.slot) (target_uses target) ≡ uses_target row target
target_changes row None = refl
target_changes row (Some target) = refl

target_are : (row : JobRecord) (target : Option ℕ) → map (edge_of row.slot) (target_uses target) ≡ target_edges row.slot target
target_are row None = refl
target_are row (Some target) = refl

pub edges_are : (row : JobRecord) (k : JobKind) → map (edge_of row.slot) (uses_by row k) ≡ edges_by row k
edges_are row Stream = ap (λ more. job_edge row.slot StreamTop row.source ∷ more) (maps-both (edge_of row.slot) below_use row.read)
edges_are row Commit = ap (λ more. job_edge row.slot CommitTop row.source ∷ more) (maps-both (edge_of row.slot) (commit_use row) (under_top row))
edges_are row Mirror = target_are row row.target
edges_are row Backup = target_are row row.target

-- ---- no edge of a row takes the place of another one

place_child : (new old : Edge) → takes_place new old ≡ true → new.role ≡ Between → new.child ≡ old.child
place_child new old h is =
    eqb-true new.child old.child
    (by_or (not (same_role new.role Between)) (new.child == old.child)
    (and-right (same_parent new.parent old.parent && same_role new.role old.role) (not (same_role new.role Between) || new.child == old.child) h)
    (ap (λ r. not (same_role r Between)) is))
  where
    by_or : (a b : Bool) → (a || b) ≡ true → a ≡ false → b ≡ true
    by_or true b any none = absurd (false≢true (sym none))
    by_or false b any none = any

role_of : (slot : ℕ) (u v : UseOf) → takes_place (edge_of slot u) (edge_of slot v) ≡ true → job_role u.what ≡ job_role v.what
role_of slot u v h = takes_place-role (edge_of slot u) (edge_of slot v) h

stream_apart : (row : JobRecord) → AreApartUses row.slot (uses_by row Stream)
stream_apart row a b at_a at_b is =
    by_cases (Contains-cases top (map below_use row.read) a at_a) (Contains-cases top (map below_use row.read) b at_b)
  where
    top : UseOf
    top = record { what = StreamTop; node = row.source }

    by_cases : (a ≡ top) ⊎ Contains (map below_use row.read) a → (b ≡ top) ⊎ Contains (map below_use row.read) b → edge_of row.slot a ≡ edge_of row.slot b
    by_cases (inl p) (inl q) = ap (edge_of row.slot) (p ∙ sym q)
    by_cases (inl p) (inr q) =
        let y = Contains-map below_use row.read b q in
        let bad : Source ≡ Between = ap (λ (u : UseOf). job_role u.what) (sym p) ∙ role_of row.slot a b is ∙ ap (λ (u : UseOf). job_role u.what) y.2 in
        cc bad
    by_cases (inr p) (inl q) =
        let x = Contains-map below_use row.read a p in
        let bad : Between ≡ Source = ap (λ (u : UseOf). job_role u.what) (sym x.2) ∙ role_of row.slot a b is ∙ ap (λ (u : UseOf). job_role u.what) q in
        cc bad
    by_cases (inr p) (inr q) =
        let x = Contains-map below_use row.read a p in
        let y = Contains-map below_use row.read b q in
        let nodes : a.node ≡ b.node = place_child (edge_of row.slot a) (edge_of row.slot b) is (ap (λ (u : UseOf). job_role u.what) x.2) in
        let same : x.0 ≡ y.0 = ap (λ (u : UseOf). u.node) (sym x.2) ∙ nodes ∙ ap (λ (u : UseOf). u.node) y.2 in
        ap (edge_of row.slot) (x.2 ∙ ap below_use same ∙ sym y.2)

commit_apart : (row : JobRecord) → AreApartUses row.slot (uses_by row Commit)
commit_apart row a b at_a at_b is =
    by_cases (Contains-cases top (map (commit_use row) (under_top row)) a at_a) (Contains-cases top (map (commit_use row) (under_top row)) b at_b)
  where
    top : UseOf
    top = record { what = CommitTop; node = row.source }

    no_top : (c : Bool) → Source ≡ job_role (cond c CommitBase CommitBetween) → ⊥
    no_top true bad = cc bad
    no_top false bad = cc bad

    base_at : (o : Option ℕ) (m n : ℕ) → is_base o m ≡ true → is_base o n ≡ true → m ≡ n
    base_at None m n p q = absurd (false≢true p)
    base_at (Some base) m n p q = sym (eqb-true base m p) ∙ eqb-true base n q

    same_node : (m n : ℕ) → takes_place (edge_of row.slot (commit_use row m)) (edge_of row.slot (commit_use row n)) ≡ true
        → (c d : Bool) → is_base row.target m ≡ c → is_base row.target n ≡ d → m ≡ n
    same_node m n taken true true p q = base_at row.target m n p q
    same_node m n taken false false p q =
        place_child (edge_of row.slot (commit_use row m)) (edge_of row.slot (commit_use row n)) taken (ap (λ c. job_role (cond c CommitBase CommitBetween)) p)
    same_node m n taken true false p q =
        let bad : Base ≡ Between = ap (λ c. job_role (cond c CommitBase CommitBetween)) (sym p) ∙ role_of row.slot (commit_use row m) (commit_use row n) taken
        ∙ ap (λ c. job_role (cond c CommitBase CommitBetween)) q in
        cc bad
    same_node m n taken false true p q =
        let bad : Between ≡ Base = ap (λ c. job_role (cond c CommitBase CommitBetween)) (sym p) ∙ role_of row.slot (commit_use row m) (commit_use row n) taken
        ∙ ap (λ c. job_role (cond c CommitBase CommitBetween)) q in
        cc bad

    by_cases : (a ≡ top) ⊎ Contains (map (commit_use row) (under_top row)) a → (b ≡ top) ⊎ Contains (map (commit_use row) (under_top row)) b
        → edge_of row.slot a ≡ edge_of row.slot b
    by_cases (inl p) (inl q) = ap (edge_of row.slot) (p ∙ sym q)
    by_cases (inl p) (inr q) =
        let y = Contains-map (commit_use row) (under_top row) b q in
        absurd (no_top (is_base row.target y.0)
        (ap (λ (u : UseOf). job_role u.what) (sym p) ∙ role_of row.slot a b is ∙ ap (λ (u : UseOf). job_role u.what) y.2))
    by_cases (inr p) (inl q) =
        let x = Contains-map (commit_use row) (under_top row) a p in
        absurd (no_top (is_base row.target x.0)
        (sym (ap (λ (u : UseOf). job_role u.what) (sym x.2) ∙ role_of row.slot a b is ∙ ap (λ (u : UseOf). job_role u.what) q)))
    by_cases (inr p) (inr q) =
        let x = Contains-map (commit_use row) (under_top row) a p in
        let y = Contains-map (commit_use row) (under_top row) b q in
        let taken : takes_place (edge_of row.slot (commit_use row x.0)) (edge_of row.slot (commit_use row y.0)) ≡ true
        = subst (λ (u : UseOf). takes_place (edge_of row.slot u) (edge_of row.slot (commit_use row y.0)) ≡ true) x.2
        (subst (λ (v : UseOf). takes_place (edge_of row.slot a) (edge_of row.slot v) ≡ true) y.2 is) in
        let same : x.0 ≡ y.0 = same_node x.0 y.0 taken (is_base row.target x.0) (is_base row.target y.0) refl refl in
        ap (edge_of row.slot) (x.2 ∙ ap (commit_use row) same ∙ sym y.2)

target_apart : (slot : ℕ) (target : Option ℕ) → AreApartUses slot (target_uses target)
target_apart slot None a b at_a at_b is = absurd (Contains-nil a at_a)
target_apart slot (Some target) a b at_a at_b is = elim (Contains-cases (record { what = CopyTarget; node = target }) [] a at_a) [
  | inl p ↦ elim (Contains-cases (record { what = CopyTarget; node = target }) [] b at_b) [
    | inl q ↦ ap (edge_of slot) (p ∙ sym q)
    | inr none ↦ absurd (Contains-nil b none)
  ]
  | inr none ↦ absurd (Contains-nil a none)
]

pub uses_apart : (row : JobRecord) (k : JobKind) → AreApartUses row.slot (uses_by row k)
uses_apart row Stream = stream_apart row
uses_apart row Commit = commit_apart row
uses_apart row Mirror = target_apart row.slot row.target
uses_apart row Backup = target_apart row.slot row.target
