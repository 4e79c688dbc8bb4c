-- A commit can give back what it makes writable: nothing copies what is read of a base that may not be written, nor is a job's filter over it.
use Rattle.std.proofs.Common.{◌≡◌, ◌≢◌, ℕ, Bool, true, false, List, [], ◌∷◌, refl, sym, ◌∙◌, ap, subst, Option, Some, None, option_map}
use Rattle.std.specs.Prelude.{◌==◌, ◌||◌, not, IsSome, unwrap_or}
use Rattle.std.specs.List.{Contains, list_any}
use Rattle.std.proofs.lemmas.Bool.{false≢true, eqb-true}
use Rattle.blk_graph.specs.declared.edge.Edge.{Edge}
use Rattle.blk_graph.specs.declared.edge.Parent.TheVariants.{Node}
use Rattle.blk_graph.specs.declared.edge.Role.{Role}
use Rattle.blk_graph.specs.declared.edge.Role.TheVariants.{File}
use Rattle.blk_graph.specs.declared.kind.Kind.{Kind}
use Rattle.blk_graph.specs.declared.kind.Kind.TheVariants as driver
use Rattle.blk_graph.specs.Permissions.{has_role}
use Rattle.blk_graph.proofs.Members.{Contains-here, find-Some}
use Rattle.qmp_codec.specs.declared.event.JobKind.TheVariants.{Commit}
use Rattle.qmp_rules.specs.declared.rows.NodeRecord.{NodeRecord}
use Rattle.qmp_rules.specs.declared.rows.JobRecord.{JobRecord}
use Rattle.qmp_rules.specs.Chains.{disk_node, filter_role, filtered}
use Rattle.qmp_rules.specs.Edits.{file_below, reads_only, to_be_written}
use Rattle.qmp_rules.specs.Table.{RunTable, node_by_id, child}
use Rattle.flat_machine.specs.Machine.{copies_at, copies_through, is_copying, path, path_from}
use Rattle.flat_machine.specs.Suiting.{IsPlainNode}
use Rattle.flat_machine.specs.Wiring.{IsDiskOf, IsUnderOne, LeadsToFile, TableStands}
use Rattle.flat_machine.proofs.TablesKept.{over_own}
use Rattle.flat_machine.proofs.Wired.{at_with}
use Rattle.flat_machine.proofs.WritingKept.{RoleEdge, role_edge}
use Rattle.job_entries.proofs.StartSuits.{no_filter_over}
use Rattle.job_tables.specs.Ends.{IsBare, LentSuits}
use Rattle.job_tables.specs.Jobs.{JobsStand, EdgesAreDrawn}
use Rattle.job_tables.specs.Starts.{CommitBegins, BeginsByKind, JobBegins}
use Rattle.job_tables.proofs.RowEdges.{in_left, in_right}

-- ---- nodes over others

copying_by : (kind : Kind) (role : Role) → has_role kind File ≡ true → filter_role kind ≡ Some role → kind ≡ driver.CopyOnRead
copying_by driver.CopyOnRead role has is = refl
copying_by driver.Raw role has is = absurd cc
copying_by driver.Qcow2 role has is = absurd cc
copying_by driver.Protocol role has is = absurd cc
copying_by driver.BeforeWrite role has is = absurd cc
copying_by driver.Mirror role has is = absurd cc
copying_by driver.Commit role has is = absurd cc

-- the row of a node
record IsRow (t : RunTable) (node : ℕ) : Type 0 where
  row : NodeRecord
  found : node_by_id t node ≡ Some row
  there : Contains t.nodes row
  id : row.id ≡ node

row_of : (t : RunTable) (node : ℕ) → IsSome (node_by_id t node) → IsRow t node
row_of t node some = by_found (node_by_id t node) refl some
  where
    by_found : (found : Option NodeRecord) → node_by_id t node ≡ found → IsSome found → IsRow t node
    by_found None is h = absurd cc
    by_found (Some row) is h =
        let at = find-Some (λ (r : NodeRecord). r.id == node) t.nodes row is in
        record { row = row; found = is; there = at.0; id = eqb-true row.id node at.1 }

-- a node that copies what is read writes what it reads as
copies_itself : (t : RunTable) (node : ℕ) (row : NodeRecord) → node_by_id t node ≡ Some row → row.kind ≡ driver.CopyOnRead → copies_through t node ≡ true
unfolding path
copies_itself t node row found kind =
    let own : copies_at t node ≡ true =
    ap (λ (o : Option NodeRecord). elim o as (λ _. Bool) [ None ↦ false | Some r ↦ is_copying r.kind ]) found ∙ ap is_copying kind in
    ap (λ b. b || list_any (copies_at t) (elim (filtered t node) as (λ _. List ℕ) [ None ↦ [] | Some below ↦ path_from 63 t below ])) own

module _ (t : RunTable) (h : TableStands t) (base : ℕ) (plain : IsPlainNode t base) (kept : plain.row.read_only ≡ true) where
  base_at : Contains t.nodes plain.row × ((plain.row.id == base) ≡ true)
  base_at = find-Some (λ (r : NodeRecord). r.id == base) t.nodes plain.row plain.there

  no_file_over : (edge : Edge) → Contains t.edges edge → edge.child ≡ base → edge.role ≢ File
  no_file_over edge there at role = by_role (filter_role over.row.kind) refl
    where
      one : (node : ℕ) × ((edge.parent ≡ Node node) × (child t node File ≡ Some edge.child))
      one = h.single edge there role

      over : IsRow t one.0
      over = row_of t one.0 ((h.edges edge there).parent one.0 one.1.0)

      from : edge.parent ≡ Node over.row.id
      from = one.1.0 ∙ ap Node (sym over.id)

      leads : LeadsToFile t over.row plain.row
      leads = record {
        over_there = over.there;
        under_there = base_at.0;
        edge = edge;
        there = there;
        parent = from;
        role = role;
        child = at ∙ sym (eqb-true plain.row.id base base_at.1);
      }

      by_name : (name : Option (List ℕ)) → plain.row.filename ≡ name → filter_role over.row.kind ≡ None → ⊥
      by_name (Some name) e own = plain.free plain.row over.row plain.there (subst IsSome (sym e) refl) leads own
      by_name None e own = let bad = subst IsSome own (h.filtered over.row plain.row leads e) in cc

      by_role : (role : Option Role) → filter_role over.row.kind ≡ role → ⊥
      by_role None own = by_name plain.row.filename refl own
      by_role (Some r) is =
          let has : has_role over.row.kind File ≡ true = subst (λ x. has_role over.row.kind x ≡ true) role (h.roles edge over.row there over.there from) in
          let kind = copying_by over.row.kind r has is in
          let found : node_by_id t over.row.id ≡ Some over.row = h.apart over.row over.there in
          let below : filtered t over.row.id ≡ Some base = rw (found, kind) (ap (λ n. child t n File) over.id ∙ one.1.1 ∙ ap Some at) in
          let itself : filtered t base ≡ None = rw (plain.there, plain.own) refl in
          let reads : disk_node t over.row.id ≡ base = over_own t over.row.id base below itself in
          let disk = at_with (IsDiskOf t over.row) (node_by_id t (disk_node t over.row.id)) plain.row (ap (node_by_id t) reads ∙ plain.there)
          (h.reads over.row.id over.row found) in
          let writes = disk.writable (ap (λ b. not over.row.read_only || b) (copies_itself t over.row.id over.row found kind) ∙ or_true (not over.row.read_only)) in
          false≢true (sym writes ∙ kept)
        where
          or_true : (b : Bool) → (b || true) ≡ true
          or_true true = refl
          or_true false = refl

-- ---- a commit that begins

module _ (t : RunTable) (h : TableStands t) (j : JobsStand t) (d : EdgesAreDrawn t) (row : JobRecord) (b : JobBegins t row) (x : CommitBegins t row)
    (lends : row.made_writable ≡ to_be_written t row.target) where
  base_held : Contains row.held x.base
  base_held =
      subst (λ ids. Contains ids x.base) (sym x.held)
      (in_right (row.source ∷ x.between) (x.base ∷ []) x.base (Contains-here x.base []))

  plain : IsPlainNode t x.base
  plain = b.plain x.base (in_left row.held row.read x.base base_held)

  reads_row : (node : ℕ) (r : NodeRecord) → node_by_id t node ≡ Some r → reads_only t (Some node) ≡ r.read_only
  reads_row node r found = ap (λ (o : Option NodeRecord). unwrap_or (option_map (λ (r : NodeRecord). r.read_only) o) false) found

  base_flag : row.made_writable.base ≡ plain.row.read_only
  base_flag = ap (λ m. m.base) lends ∙ ap (reads_only t) x.is_base ∙ reads_row x.base plain.row plain.there

  bare : (base : ℕ) → row.made_writable.base ≡ true → row.target ≡ Some base → IsBare t base
  bare base is to edge there at =
      let both : Some x.base ≡ Some base = sym x.is_base ∙ to in
      let same : x.base ≡ base = cc both in
      let at_base : edge.child ≡ x.base = at ∙ sym same in
      (no_file_over t h x.base plain (sym base_flag ∙ is) edge there at_base, no_filter_over t h j d row b x.base base_held edge there at_base)

  -- the file of a base that may be written may be written too
  writable_below : plain.row.read_only ≡ false → (file : ℕ) → child t x.base File ≡ Some file → reads_only t (Some file) ≡ false
  writable_below writes file is =
      let e : RoleEdge t.edges (Node x.base) File file = role_edge (Node x.base) File t.edges file is in
      let above = find-Some (λ (r : NodeRecord). r.id == x.base) t.nodes plain.row plain.there in
      let under = row_of t file (subst (λ n. IsSome (node_by_id t n)) e.to (h.edges e.edge e.there).child) in
      let leads : LeadsToFile t plain.row under.row = record {
        over_there = above.0;
        under_there = under.there;
        edge = e.edge;
        there = e.there;
        parent = e.from ∙ ap Node (sym (eqb-true plain.row.id x.base above.1));
        role = e.role_is;
        child = e.to ∙ sym under.id;
      } in
      reads_row file under.row under.found ∙ (by_name under.row leads under.row.filename refl).writable writes
    where
      by_name : (under : NodeRecord) → LeadsToFile t plain.row under → (name : Option (List ℕ)) → under.filename ≡ name → IsUnderOne t plain.row under
      by_name under leads (Some name) e = h.taken plain.row under leads (subst IsSome (sym e) refl) plain.own
      by_name under leads None e = absurd (let bad = subst IsSome plain.own (h.filtered plain.row under leads e) in cc)

  file_flag : row.made_writable.file ≡ reads_only t (child t x.base File)
  file_flag = ap (λ m. m.file) lends ∙ ap (λ o. reads_only t (file_below t o)) x.is_base

  file : row.made_writable.file ≡ true → row.made_writable.base ≡ true
  file is = by_base plain.row.read_only refl
    where
      by_file : plain.row.read_only ≡ false → (below : Option ℕ) → child t x.base File ≡ below → reads_only t below ≡ false
      by_file writes None e = refl
      by_file writes (Some node) e = writable_below writes node e

      by_base : (kept : Bool) → plain.row.read_only ≡ kept → row.made_writable.base ≡ true
      by_base true e = base_flag ∙ e
      by_base false e = absurd (false≢true (sym (by_file e (child t x.base File) refl) ∙ sym file_flag ∙ is))

  commit_lends : LentSuits t row
  commit_lends = record { bare = bare; file = file }

pub lent_by_read : (t : RunTable) (row : JobRecord) → TableStands t → JobsStand t → EdgesAreDrawn t → JobBegins t row → row.kind ≡ Commit
    → row.made_writable ≡ to_be_written t row.target → LentSuits t row
lent_by_read t row h j d b kind lends = commit_lends t h j d row b (subst (BeginsByKind t row) kind b.shape) lends
