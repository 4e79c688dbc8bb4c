-- Nodes that are no filters stay over their files where filters come and go, and where parents move.
use Rattle.std.proofs.Common.{◌≡◌, ◌≢◌, ◌⊎◌, ℕ, Bool, true, false, cond, List, [], ◌∷◌, ◌++◌, refl, sym, ◌∙◌, ap, subst, inl, inr, Option, Some, None}
use Rattle.std.specs.Prelude.{◌==◌, ◌&&◌, not, IsSome, unwrap_or}
use Rattle.std.specs.Option.{option_map, option_and_then}
use Rattle.std.specs.List.{find}
use Rattle.std.proofs.lemmas.Bool.{eqb-true, ne_eqb, cases_eq}
use Rattle.blk_graph.specs.declared.edge.Parent.{Parent}
use Rattle.blk_graph.specs.declared.edge.Parent.TheVariants.{Node, Job}
use Rattle.blk_graph.specs.declared.edge.Role.TheVariants.{File, Filtered, Between}
use Rattle.blk_graph.specs.declared.kind.Kind.{Kind}
use Rattle.blk_graph.specs.declared.kind.Kind.TheVariants.{Protocol, Raw, Qcow2, CopyOnRead, BeforeWrite, Mirror, Commit}
use Rattle.blk_graph.specs.Edges.{same_parent}
use Rattle.blk_graph.specs.Edits.{child_of, child_moved, child_after, stays, with_replaced, without_filter, without_parent}
use Rattle.blk_graph.specs.Permissions.{idle_uses}
use Rattle.blk_graph.proofs.ChildLemmas.{child-without}
use Rattle.blk_graph.proofs.DraftLemmas.{children_replaced, children_filter, children_without, without_none}
use Rattle.blk_graph.proofs.Members.{find-Some}
use Rattle.blk_graph.proofs.RefreshLemmas.{child_of-refreshed}
use Rattle.qmp_rules.specs.declared.change.Change.TheVariants as change
use Rattle.qmp_rules.specs.declared.rows.NodeRecord.{NodeRecord}
use Rattle.qmp_rules.specs.Changes.{changed, filtered_edges, without_record}
use Rattle.qmp_rules.specs.Chains.{filter_role}
use Rattle.qmp_rules.specs.Table.{RunTable, node_by_id, child, kinds_of}
use Rattle.flat_machine.specs.State.{filename_of}
use Rattle.flat_machine.specs.Changed.{own_filename, written_file}
use Rattle.flat_machine.specs.Imaging.{is_qcow2, StayInFiles, PullKeepsImages}
use Rattle.flat_machine.specs.Wiring.{IsUnderNoFormat, LeadsToFile, TableStands}
use Rattle.flat_machine.proofs.Finds.{find-push}
use Rattle.flat_machine.proofs.Fresh.{found-longer}
use Rattle.flat_machine.proofs.ImagesKept.{find_dropped, qcow2_row}
use Rattle.flat_machine.proofs.WritingKept.{role_edge}
use Rattle.job_tables.proofs.NodeKinds.{still_found}

-- ---- which nodes are no files

-- a node by its row, which is no filter
pub record IsOwn (t : RunTable) (node : ℕ) : Type 0 where
  pub row : NodeRecord
  pub found : node_by_id t node ≡ Some row
  pub own : filter_role row.kind ≡ None

-- only filters may have it as their file
abbrev pub IsNoFile : RunTable → ℕ → Type 0
IsNoFile t node = (over : ℕ) → IsOwn t over → child t over File ≢ Some node

-- where no format node is over it
pub free_no_file : (t : RunTable) → TableStands t → (node : ℕ) → IsUnderNoFormat t node → IsNoFile t node
free_no_file t h node free over o is =
    let e = role_edge (Node over) File t.edges node is in
    by_row (node_by_id t node) refl (subst (λ n. IsSome (node_by_id t n)) e.to (h.edges e.edge e.there).child)
  where
    leads : (under : NodeRecord) → node_by_id t node ≡ Some under → LeadsToFile t o.row under
    leads under found =
        let e = role_edge (Node over) File t.edges node is in
        let above = find-Some (λ (r : NodeRecord). r.id == over) t.nodes o.row o.found in
        let below = find-Some (λ (r : NodeRecord). r.id == node) t.nodes under found in
        record {
          over_there = above.0;
          under_there = below.0;
          edge = e.edge;
          there = e.there;
          parent = e.from ∙ ap Node (sym (eqb-true o.row.id over above.1));
          role = e.role_is;
          child = e.to ∙ sym (eqb-true under.id node below.1);
        }

    by_name : (under : NodeRecord) → node_by_id t node ≡ Some under → (name : Option (List ℕ)) → under.filename ≡ name → ⊥
    by_name under found None e =
        let some = h.filtered o.row under (leads under found) e in
        let bad = subst IsSome o.own some in
        cc
    by_name under found (Some name) e = free under o.row found (subst IsSome (sym e) refl) (leads under found) o.own

    by_row : (found : Option NodeRecord) → node_by_id t node ≡ found → IsSome found → ⊥
    by_row None e some = cc
    by_row (Some under) e some = by_name under e under.filename refl

-- a filter is no file's node
pub filter_no_file : (t : RunTable) → TableStands t → (node : ℕ) (row : NodeRecord) → node_by_id t node ≡ Some row → IsSome (filter_role row.kind)
    → IsNoFile t node
filter_no_file t h node row found filter = free_no_file t h node (λ under over is named leads own. no_name under is under.filename refl named)
  where
    no_name : (under : NodeRecord) → node_by_id t node ≡ Some under → (name : Option (List ℕ)) → under.filename ≡ name → IsSome under.filename → ⊥
    no_name under is None e named = let bad = subst IsSome e named in cc
    no_name under is (Some name) e named =
        let driver : under.kind ≡ Protocol = h.drivers name under (record { there = (find-Some (λ (r : NodeRecord). r.id == node) t.nodes under is).0; filename = e }) in
        let same : row ≡ under = (let both : Some row ≡ Some under = sym found ∙ is in cc both) in
        let none : filter_role row.kind ≡ None = ap (λ (r : NodeRecord). filter_role r.kind) same ∙ ap filter_role driver in
        let bad = subst IsSome none filter in
        cc

-- ---- children

not_moved : (from to : ℕ) (below : Option ℕ) → below ≢ Some from → option_map (child_moved from to) below ≡ below
not_moved from to None other = refl
not_moved from to (Some c) other = ap Some (by_test (c == from) (ne_eqb c from (λ same. other (ap Some same))))
  where
    by_test : (b : Bool) → b ≡ false → cond b to c ≡ c
    by_test true e = absurd cc
    by_test false e = refl

not_after : (from to : ℕ) (but : Option Parent) (parent : Parent) (below : Option ℕ) → below ≢ Some from
    → option_map (child_after from to but parent) below ≡ below
not_after from to but parent None other = refl
not_after from to but parent (Some c) other = ap Some (by_test (c == from) (not (stays but parent)) (ne_eqb c from (λ same. other (ap Some same))))
  where
    by_test : (a b : Bool) → a ≡ false → cond (a && b) to c ≡ c
    by_test true b e = absurd cc
    by_test false b e = refl

no_between : File ≢ Between
no_between same = cc

pub child_ended : (t : RunTable) (number slot : ℕ) (drops : Bool) (n : ℕ) → child (changed t (change.EndJob number slot drops)) n File ≡ child t n File
unfolding changed
child_ended t number slot drops n =
    child_of-refreshed (kinds_of t.nodes) (Node n) File (without_parent (Job slot) t.edges) ∙ child-without (Job slot) (Node n) File t.edges (λ same. cc)

pub child_pulled : (t : RunTable) (filter n : ℕ) → child t n File ≢ Some filter → child (changed t (change.PullFilter filter)) n File ≡ child t n File
unfolding changed
child_pulled t filter n other =
    child_of-refreshed (kinds_of (without_record filter t.nodes)) (Node n) File (without_filter filter t.edges) ∙ by_child (child t filter Filtered) refl
  where
    apart : (b : Bool) → (b && false) ≡ false
    apart true = refl
    apart false = refl

    by_child : (below : Option ℕ) → child t filter Filtered ≡ below → child_of (Node n) File (without_filter filter t.edges) ≡ child t n File
    by_child None e = ap (child_of (Node n) File) (without_none filter t.edges e)
    by_child (Some node) e =
        children_without filter t.edges node e (Node n) File no_between (apart (same_parent (Node n) (Node filter)))
        ∙ not_moved filter node (child t n File) other

pub child_put : (t : RunTable) (row : NodeRecord) (node n : ℕ) → n ≢ row.id → child t n File ≢ Some node
    → child (changed t (change.PutFilter row node)) n File ≡ child t n File
unfolding changed
child_put t row node n differ other =
    child_of-refreshed (kinds_of (t.nodes ++ row ∷ [])) (Node n) File (filtered_edges row.id node t.edges)
    ∙ children_filter node row.id idle_uses.perm idle_uses.shared t.edges (Node n) File no_between
    (λ same. differ (let both : Node n ≡ Node row.id = same in let one : n ≡ row.id = cc both in one))
    ∙ not_moved node row.id (child t n File) other

pub child_gone_over : (t : RunTable) (from to but n : ℕ) → child t n File ≢ Some from → child (changed t (change.Move from to but)) n File ≡ child t n File
unfolding changed
child_gone_over t from to but n other =
    child_of-refreshed (kinds_of t.nodes) (Node n) File (with_replaced from to (Some (Node but)) t.edges)
    ∙ children_replaced from to (Some (Node but)) t.edges (Node n) File
    ∙ not_after from to (Some (Node but)) (Node n) (child t n File) other

-- ---- which files are written

-- nodes that are no filters stay, over the same files
pub record AreSteady (t now : RunTable) : Type 0 where
  pub rows : (n : ℕ) (o : IsOwn t n) → node_by_id now n ≡ Some o.row
  pub files : (n : ℕ) → IsOwn t n → child now n File ≡ child t n File
  pub names : (file : ℕ) (name : List ℕ) → filename_of now file ≡ Some name → filename_of t file ≡ Some name

pub steady_then : (a b c : RunTable) → AreSteady a b → AreSteady b c → AreSteady a c
steady_then a b c ab bc = record {
  rows = λ n o. bc.rows n (record { row = o.row; found = ab.rows n o; own = o.own });
  files = λ n o. bc.files n (record { row = o.row; found = ab.rows n o; own = o.own }) ∙ ab.files n o;
  names = λ file name named. ab.names file name (bc.names file name named);
}

pub steady_file : (t now : RunTable) → AreSteady t now → (node : ℕ) → IsOwn t node → (name : List ℕ) → written_file now node ≡ Some name
    → written_file t node ≡ Some name
steady_file t now h node o name file =
    ap (option_and_then (λ (r : NodeRecord). own_filename t r r.kind)) o.found
    ∙ by_kind o.row.kind (sym (ap (option_and_then (λ (r : NodeRecord). own_filename now r r.kind)) (h.rows node o)) ∙ file)
  where
    id_is : o.row.id ≡ node
    id_is = eqb-true o.row.id node (find-Some (λ (r : NodeRecord). r.id == node) t.nodes o.row o.found).1

    by_child : (below : Option ℕ) → option_and_then (filename_of now) below ≡ Some name → option_and_then (filename_of t) below ≡ Some name
    by_child None e = absurd cc
    by_child (Some under) e = h.names under name e

    under : option_and_then (filename_of now) (child now o.row.id File) ≡ Some name → option_and_then (filename_of t) (child t o.row.id File) ≡ Some name
    under e = by_child (child t o.row.id File)
        (subst (λ below. option_and_then (filename_of now) below ≡ Some name)
        (subst (λ n. child now n File ≡ child t n File) (sym id_is) (h.files node o)) e)

    by_kind : (kind : Kind) → own_filename now o.row kind ≡ Some name → own_filename t o.row kind ≡ Some name
    by_kind Protocol e = e
    by_kind Raw e = under e
    by_kind Qcow2 e = under e
    by_kind CopyOnRead e = e
    by_kind BeforeWrite e = e
    by_kind Mirror e = e
    by_kind Commit e = e

pub steady_stay : (t now : RunTable) → AreSteady t now → StayInFiles t now
steady_stay t now h node name is file =
    let row = qcow2_row t node is in
    steady_file t now h node (record { row = row.0; found = row.1; own = ap filter_role row.2 }) name file

-- ---- where filters come and go, and parents move

pub no_own : (t : RunTable) (node : ℕ) (row : NodeRecord) → node_by_id t node ≡ Some row → IsSome (filter_role row.kind) → IsOwn t node → ⊥
no_own t node row found filter o =
    let same : o.row ≡ row = (let both : Some o.row ≡ Some row = sym o.found ∙ found in cc both) in
    let bad = subst IsSome (ap (λ (r : NodeRecord). filter_role r.kind) (sym same) ∙ o.own) filter in
    cc

no_image_kind : (kind : Kind) → IsSome (filter_role kind) → is_qcow2 kind ≡ false
no_image_kind Protocol some = absurd cc
no_image_kind Raw some = absurd cc
no_image_kind Qcow2 some = absurd cc
no_image_kind CopyOnRead some = refl
no_image_kind BeforeWrite some = refl
no_image_kind Mirror some = refl
no_image_kind Commit some = refl

pub steady_ended : (t : RunTable) (number slot : ℕ) (drops : Bool) → AreSteady t (changed t (change.EndJob number slot drops))
unfolding changed
steady_ended t number slot drops =
    record { rows = λ n o. o.found; files = λ n o. child_ended t number slot drops n; names = λ file name named. named }

-- a row that stays where a filter goes is another one's
pub found_pulled : (t : RunTable) (filter n : ℕ) (row : NodeRecord) → node_by_id (changed t (change.PullFilter filter)) n ≡ Some row
    → (n ≢ filter) × (node_by_id t n ≡ Some row)
unfolding changed
found_pulled t filter n row found = by_node (cases_eq n filter)
  where
    by_node : (n ≡ filter) ⊎ (n ≢ filter) → (n ≢ filter) × (node_by_id t n ≡ Some row)
    by_node (inl same) =
        let gone : find (λ (r : NodeRecord). r.id == n) (without_record filter t.nodes) ≡ None
        = subst (λ k. find (λ (r : NodeRecord). r.id == k) (without_record filter t.nodes) ≡ None) (sym same) (find_dropped (λ (r : NodeRecord). r.id == filter) t.nodes) in
        let bad : None ≡ Some row = sym gone ∙ found in
        absurd cc
    by_node (inr differ) = (differ, sym (still_found t filter n differ) ∙ found)

pub steady_pulled : (t : RunTable) (filter : ℕ) (row : NodeRecord) → node_by_id t filter ≡ Some row → IsSome (filter_role row.kind) → IsNoFile t filter
    → AreSteady t (changed t (change.PullFilter filter))
unfolding changed
steady_pulled t filter row found is none = record {
  rows = λ n o. still_found t filter n (not_filter n o) ∙ o.found;
  files = λ n o. child_pulled t filter n (none n o);
  names = λ file name named. by_row file name (node_by_id now file) refl named;
}
  where
    now : RunTable
    now = changed t (change.PullFilter filter)

    not_filter : (n : ℕ) → IsOwn t n → n ≢ filter
    not_filter n o same = no_own t filter row found is (subst (IsOwn t) same o)

    by_row : (file : ℕ) (name : List ℕ) → (found : Option NodeRecord) → node_by_id now file ≡ found
        → option_and_then (λ (r : NodeRecord). r.filename) found ≡ Some name → filename_of t file ≡ Some name
    by_row file name None e named = absurd cc
    by_row file name (Some under) e named =
        ap (option_and_then (λ (r : NodeRecord). r.filename)) (found_pulled t filter file under e).1 ∙ named

pub pull_keeps_images : (t : RunTable) (filter : ℕ) (row : NodeRecord) → node_by_id t filter ≡ Some row → IsSome (filter_role row.kind) → IsNoFile t filter
    → PullKeepsImages t filter
pull_keeps_images t filter row found is none = record {
  other = ap (λ (o : Option NodeRecord). unwrap_or (option_map (λ (r : NodeRecord). is_qcow2 r.kind) o) false) found ∙ no_image_kind row.kind is;
  file = steady_stay t (changed t (change.PullFilter filter)) (steady_pulled t filter row found is none);
}

pub move_keeps_images : (t : RunTable) (from to but : ℕ) → IsNoFile t from → StayInFiles t (changed t (change.Move from to but))
unfolding changed
move_keeps_images t from to but none =
    steady_stay t (changed t (change.Move from to but))
    (record { rows = λ n o. o.found; files = λ n o. child_gone_over t from to but n (none n o); names = λ file name named. named })

pub put_keeps_images : (t : RunTable) (row : NodeRecord) (node : ℕ) → node_by_id t row.id ≡ None → row.filename ≡ None → IsNoFile t node
    → StayInFiles t (changed t (change.PutFilter row node))
unfolding changed
put_keeps_images t row node fresh unnamed none =
    steady_stay t now (record {
      rows = λ n o. found-longer (λ (r : NodeRecord). r.id == n) t.nodes row o.row o.found;
      files = λ n o. child_put t row node n (not_new n o) (none n o);
      names = λ file name named. by_row file name (node_by_id now file) refl named;
    })
  where
    now : RunTable
    now = changed t (change.PutFilter row node)

    not_new : (n : ℕ) → IsOwn t n → n ≢ row.id
    not_new n o same = let bad : None ≡ Some o.row = sym fresh ∙ ap (node_by_id t) (sym same) ∙ o.found in cc

    by_row : (file : ℕ) (name : List ℕ) → (found : Option NodeRecord) → node_by_id now file ≡ found
        → option_and_then (λ (r : NodeRecord). r.filename) found ≡ Some name → filename_of t file ≡ Some name
    by_row file name None e named = absurd cc
    by_row file name (Some under) e named = elim (find-push (λ (r : NodeRecord). r.id == file) t.nodes row under e) [
      | inl was ↦ ap (option_and_then (λ (r : NodeRecord). r.filename)) was ∙ named
      | inr is ↦ (let bad : None ≡ Some name = sym unnamed ∙ ap (λ (r : NodeRecord). r.filename) (sym is.1) ∙ named in absurd cc)
    ]

-- ---- what is no file stays none

pub no_file_kept : (t now : RunTable) (node : ℕ) → ((n : ℕ) → IsOwn now n → IsOwn t n) → ((n : ℕ) → IsOwn now n → child now n File ≡ child t n File)
    → IsNoFile t node → IsNoFile now node
no_file_kept t now node were files none over o is = none over (were over o) (sym (files over o) ∙ is)

pub no_file_ended : (t : RunTable) (number slot : ℕ) (drops : Bool) (node : ℕ) → IsNoFile t node → IsNoFile (changed t (change.EndJob number slot drops)) node
unfolding changed
no_file_ended t number slot drops node =
    no_file_kept t (changed t (change.EndJob number slot drops)) node (λ n o. record { row = o.row; found = o.found; own = o.own })
    (λ n o. child_ended t number slot drops n)

pub no_file_pulled : (t : RunTable) (filter node : ℕ) → IsNoFile t filter → IsNoFile t node → IsNoFile (changed t (change.PullFilter filter)) node
no_file_pulled t filter node none =
    no_file_kept t (changed t (change.PullFilter filter)) node were (λ n o. child_pulled t filter n (none n (were n o)))
  where
    were : (n : ℕ) → IsOwn (changed t (change.PullFilter filter)) n → IsOwn t n
    were n o = record { row = o.row; found = (found_pulled t filter n o.row o.found).1; own = o.own }
