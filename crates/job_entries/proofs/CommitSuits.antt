-- What the start of a commit does before its filter comes suits the state: nodes lose their disks, and its base may be written.
use Rattle.std.proofs.Common.{◌≡◌, ℕ, Bool, true, false, cond, List, [], ◌∷◌, ◌++◌, map, refl, sym, ◌∙◌, ap, subst, inl, inr, Option, Some, None}
use Rattle.std.specs.Prelude.{◌==◌, ◌||◌, IsSome, drop, unwrap_or}
use Rattle.std.specs.Option.{option_map}
use Rattle.std.specs.List.{filter, list_any, Contains}
use Rattle.std.proofs.lemmas.Bool.{eqb-true}
use Rattle.blk_graph.specs.declared.edge.Parent.TheVariants.{Node}
use Rattle.blk_graph.specs.declared.edge.Role.{Role}
use Rattle.blk_graph.specs.declared.edge.Role.TheVariants.{File, Backing}
use Rattle.blk_graph.specs.declared.kind.Kind.{Kind}
use Rattle.blk_graph.specs.declared.kind.Kind.TheVariants as driver
use Rattle.blk_graph.specs.Permissions.{has_role}
use Rattle.blk_graph.proofs.Members.{Contains-nil, Contains-here, Contains-there, Contains-cases, Contains-filter, Contains-map, find-Some}
use Rattle.qmp_rules.specs.declared.change.Change.{Change}
use Rattle.qmp_rules.specs.declared.change.Change.TheVariants as change
use Rattle.qmp_rules.specs.declared.rows.NodeRecord.{NodeRecord}
use Rattle.qmp_rules.specs.declared.rows.JobRecord.{JobRecord}
use Rattle.qmp_rules.specs.declared.rows.FileState.TheVariants.{Used}
use Rattle.qmp_rules.specs.Asks.{is_file}
use Rattle.qmp_rules.specs.Changes.{changed, node_changed, unsettled, writable}
use Rattle.qmp_rules.specs.Chains.{filter_role, disk_node, backing, chain, chain_from, is_listed}
use Rattle.qmp_rules.specs.Edits.{of_row, device_uses, file_uses, file_used, file_below, writable_if, base_edits, up_to, under_top, reads_one_of, reads_only, to_be_written, commit_unsettles}
use Rattle.qmp_rules.specs.Table.{RunTable, node_by_id, child, file_state}
use Rattle.flat_machine.specs.State.{State}
use Rattle.flat_machine.specs.Changed.{stepped, all_stepped}
use Rattle.flat_machine.specs.Suiting.{IsPlainNode, MayBeWritten, AllSuit}
use Rattle.flat_machine.specs.Wiring.{StandsFor, LeadsToFile, TableStands}
use Rattle.flat_machine.proofs.Kept.{own_disk}
use Rattle.flat_machine.proofs.Resting.{stepped_table}
use Rattle.flat_machine.proofs.Tables.{file_state-with}
use Rattle.flat_machine.proofs.WritingKept.{role_edge}
use Rattle.job_tables.specs.Rows.{AreLinked}
use Rattle.job_tables.specs.Starts.{CommitBegins}
use Rattle.job_tables.proofs.Begun.{AreBefore, all_before}
use Rattle.job_tables.proofs.EndSuits.{suit_append}
use Rattle.job_tables.proofs.NodeKinds.{found_mapped}
use Rattle.job_tables.proofs.RowEdges.{listed-Contains, in_either}
use Rattle.job_entries.proofs.Alike.{IsAlike, alike_then, all_alike, unsettled_before, used_suits}

module _ (s : State) (h : TableStands s.table) (row : JobRecord) (x : CommitBegins s.table row) (plain : IsPlainNode s.table x.base)
    (lends : row.made_writable ≡ to_be_written s.table row.target) where
  -- ---- roles

  -- a `file` node has no node below it
  none_below : (node : NodeRecord) → Contains s.table.nodes node → node.kind ≡ driver.Protocol → (role : Role) (below : ℕ)
      → has_role driver.Protocol role ≡ false → child s.table node.id role ≡ Some below → ⊥
  none_below node there kind role below never is =
      let e = role_edge (Node node.id) role s.table.edges below is in
      let has = h.roles e.edge node e.there there e.from in
      let yes : has_role driver.Protocol role ≡ true = subst (λ k. has_role k role ≡ true) kind (subst (λ r. has_role node.kind r ≡ true) e.role_is has) in
      cc

  -- ---- which `file` node loses its disk

  alone : (id : ℕ) → backing s.table id ≡ None → chain s.table id ≡ id ∷ []
  unfolding chain
  alone id none = ap (λ b. id ∷ (elim b as (λ _. List ℕ) [ None ↦ [] | Some under ↦ chain_from 63 s.table under ])) none

  no_backing : (node : NodeRecord) → Contains s.table.nodes node → node.kind ≡ driver.Protocol → backing s.table node.id ≡ None
  no_backing node there kind = by_child (child s.table node.id Backing) refl
    where
      by_child : (found : Option ℕ) → child s.table node.id Backing ≡ found → backing s.table node.id ≡ None
      by_child None e = ap (option_map (disk_node s.table)) e
      by_child (Some under) e = absurd (none_below node there kind Backing under refl e)

  -- it is one that the commit holds below its top
  listed : (node : NodeRecord) → Contains s.table.nodes node → node.kind ≡ driver.Protocol → reads_one_of s.table row.source (under_top row) node ≡ true
      → Contains (under_top row) node.id
  listed node there kind is =
      let own : disk_node s.table node.id ≡ node.id = own_disk s.table node.id node (h.apart node there) (ap filter_role kind) in
      let ids : chain s.table (disk_node s.table node.id) ≡ node.id ∷ [] = ap (chain s.table) own ∙ alone node.id (no_backing node there kind) in
      by_top (node.id == row.source) (subst (λ c. list_any (λ id. is_listed id (under_top row)) (up_to row.source c) ≡ true) ids is)
    where
      by_listed : (b : Bool) → is_listed node.id (under_top row) ≡ b → (b || false) ≡ true → Contains (under_top row) node.id
      by_listed true e k = listed-Contains node.id (under_top row) e
      by_listed false e k = absurd cc

      by_top : (b : Bool) → list_any (λ id. is_listed id (under_top row)) (cond b [] (node.id ∷ [])) ≡ true → Contains (under_top row) node.id
      by_top true k = absurd cc
      by_top false k = by_listed (is_listed node.id (under_top row)) refl k

  linked_below : (node : ℕ) (between : List ℕ) (base : ℕ) → AreLinked s.table node (between ++ base ∷ []) → (n : ℕ) → Contains between n
      → (m : ℕ) × (child s.table n Backing ≡ Some m)
  linked_below node [] base l n at = absurd (Contains-nil n at)
  linked_below node (b ∷ []) base l n at = elim (Contains-cases b [] n at) [
    | inl same ↦ (base, subst (λ k. child s.table k Backing ≡ Some base) (sym same) l.1.0)
    | inr more ↦ absurd (Contains-nil n more)
  ]
  linked_below node (b ∷ c ∷ between) base l n at = elim (Contains-cases b (c ∷ between) n at) [
    | inl same ↦ (c, subst (λ k. child s.table k Backing ≡ Some c) (sym same) l.1.0)
    | inr more ↦ linked_below b (c ∷ between) base l.1 n more
  ]

  is_the_base : (node : NodeRecord) → Contains s.table.nodes node → node.kind ≡ driver.Protocol → reads_one_of s.table row.source (under_top row) node ≡ true
      → node.id ≡ x.base
  is_the_base node there kind is =
      let under : under_top row ≡ x.between ++ x.base ∷ [] = ap (drop 1) x.held in
      elim (in_either x.between (x.base ∷ []) node.id (subst (λ ids. Contains ids node.id) under (listed node there kind is))) [
        | inl between ↦
            let m = linked_below row.source x.between x.base x.linked node.id between in
            absurd (none_below node there kind Backing m.0 refl m.1)
        | inr last ↦ elim (Contains-cases x.base [] node.id last) [
          | inl same ↦ same
          | inr more ↦ absurd (Contains-nil node.id more)
        ]
      ]

  -- ---- its file was used

  abbrev used : List Change
  used = file_used s.table row.target

  abbrev behind_used : State
  behind_used = all_stepped s (file_used s.table row.target)

  used_is : file_used s.table row.target ≡ device_uses plain.row
  used_is = ap (λ target. file_used s.table target) x.is_base ∙ ap (of_row device_uses) plain.there

  used_nodes : (all_stepped s (device_uses plain.row)).table.nodes ≡ s.table.nodes
  unfolding changed
  used_nodes = by_file (is_file plain.row) plain.row.filename
    where
      by_file : (b : Bool) (name : Option (List ℕ)) → (all_stepped s (cond b (file_uses name) [])).table.nodes ≡ s.table.nodes
      by_file true None = refl
      by_file true (Some name) = refl
      by_file false name = refl

  used_so : (name : List ℕ) → plain.row.kind ≡ driver.Protocol → plain.row.filename ≡ Some name → file_state (all_stepped s (device_uses plain.row)).table name ≡ Some Used
  unfolding changed
  used_so name kind named = by_file (is_file plain.row) yes plain.row.filename named
    where
      yes : is_file plain.row ≡ true
      yes = ap (λ (k : Kind). is_file (record plain.row { kind = k })) kind

      by_file : (b : Bool) → b ≡ true → (file : Option (List ℕ)) → file ≡ Some name → file_state (all_stepped s (cond b (file_uses file) [])).table name ≡ Some Used
      by_file true e None is = absurd cc
      by_file true e (Some other) is =
          let same : other ≡ name = (let both : Some other ≡ Some name = is in cc both) in
          subst (λ n. file_state (changed s.table (change.UseFile other)) n ≡ Some Used) same (file_state-with other Used s.table.files)
      by_file false e file is = absurd cc

  -- ---- nodes lose their disks

  -- what stands for a file did so before
  abbrev AreOldFiles : RunTable → Type 0
  AreOldFiles now = (name : List ℕ) (later : NodeRecord) → StandsFor now name later → (old : NodeRecord) × StandsFor s.table name old × (old.id ≡ later.id)

  module _ (known : RunTable) where
    lose : (rows : List NodeRecord)
        → ((r : NodeRecord) → Contains rows r → (name : List ℕ) (old : NodeRecord) → StandsFor s.table name old → old.id ≡ r.id → file_state known name ≡ Some Used)
        → (now : State) → AreOldFiles now.table → ((name : List ℕ) → file_state now.table name ≡ file_state known name)
        → AllSuit now (map (λ r. change.Unsettle r.id) rows)
    unfolding changed
    lose [] causes now old states = tt
    lose (r ∷ rows) causes now old states = (
      λ name later over id.
          let was = old name later over in
          inl (states name ∙ causes r (Contains-here r rows) name was.0 was.1 (was.2 ∙ id)),
      lose rows (λ q at. causes q (Contains-there r rows q at)) (stepped now (change.Unsettle r.id)) still states,
    )
      where
        fields : (q : NodeRecord) (b : Bool) → ((cond b (unsettled q) q).id ≡ q.id) × ((cond b (unsettled q) q).filename ≡ q.filename)
        fields q true = (refl, refl)
        fields q false = (refl, refl)

        still : AreOldFiles (stepped now (change.Unsettle r.id)).table
        still name later over =
            let from = Contains-map (node_changed r.id unsettled) now.table.nodes later over.there in
            let same = fields from.0 (from.0.id == r.id) in
            let was = old name from.0 (record { there = from.1; filename = sym same.1 ∙ ap (λ (q : NodeRecord). q.filename) (sym from.2) ∙ over.filename }) in
            (was.0, was.1, was.2 ∙ sym same.0 ∙ ap (λ (q : NodeRecord). q.id) (sym from.2))

  unsettles_suit : AllSuit (all_stepped s (device_uses plain.row)) (commit_unsettles s.table row)
  unsettles_suit =
      lose (all_stepped s (device_uses plain.row)).table (filter (reads_one_of s.table row.source (under_top row)) s.table.nodes) causes
      (all_stepped s (device_uses plain.row))
      (λ name later over. (later, record { there = subst (λ rows. Contains rows later) used_nodes over.there; filename = over.filename }, refl))
      (λ name. refl)
    where
      causes : (r : NodeRecord) → Contains (filter (reads_one_of s.table row.source (under_top row)) s.table.nodes) r → (name : List ℕ) (old : NodeRecord)
          → StandsFor s.table name old → old.id ≡ r.id → file_state (all_stepped s (device_uses plain.row)).table name ≡ Some Used
      causes r at name old over id =
          let passed = Contains-filter (reads_one_of s.table row.source (under_top row)) s.table.nodes r at in
          let rows : Some old ≡ Some r = sym (h.apart old over.there) ∙ ap (node_by_id s.table) id ∙ h.apart r passed.0 in
          let same : old ≡ r = cc rows in
          let kind : r.kind ≡ driver.Protocol = ap (λ (q : NodeRecord). q.kind) (sym same) ∙ h.drivers name old over in
          let base : r.id ≡ x.base = is_the_base r passed.0 kind passed.1 in
          let bases : Some r ≡ Some plain.row = sym (h.apart r passed.0) ∙ ap (node_by_id s.table) base ∙ plain.there in
          let is : r ≡ plain.row = cc bases in
          used_so name (ap (λ (q : NodeRecord). q.kind) (sym is) ∙ kind) (ap (λ (q : NodeRecord). q.filename) (sym is ∙ sym same) ∙ over.filename)

  -- ---- what may be written from then on

  -- each node has the children that it had
  abbrev HaveChildren : RunTable → Type 0
  HaveChildren now = (n : ℕ) (role : Role) → child now n role ≡ child s.table n role

  abbrev lost : List Change
  lost = file_used s.table row.target ++ commit_unsettles s.table row

  module _ (now : State) (children : HaveChildren now.table) (alike : IsAlike s.table now.table) where
    base_here : (r : NodeRecord) → node_by_id s.table x.base ≡ Some r → r ≡ plain.row
    base_here r found = let both : Some r ≡ Some plain.row = sym found ∙ plain.there in cc both

    -- the base's file is a `file` node
    record IsFileBelow (file : ℕ) : Type 0 where
      at : NodeRecord
      there : Contains s.table.nodes at
      found : node_by_id s.table file ≡ Some at
      id : at.id ≡ file
      kind : at.kind ≡ driver.Protocol

    file_row : (file : ℕ) → child s.table x.base File ≡ Some file → IsFileBelow file
    file_row file is =
        let e = role_edge (Node x.base) File s.table.edges file is in
        by_found (node_by_id s.table file) refl (subst (λ n. IsSome (node_by_id s.table n)) e.to (h.edges e.edge e.there).child)
      where
        leads : (at : NodeRecord) → node_by_id s.table file ≡ Some at → LeadsToFile s.table plain.row at
        leads at found =
            let e = role_edge (Node x.base) File s.table.edges file is in
            let above = find-Some (λ (r : NodeRecord). r.id == x.base) s.table.nodes plain.row plain.there in
            let below = find-Some (λ (r : NodeRecord). r.id == file) s.table.nodes at found in
            record {
              over_there = above.0;
              under_there = below.0;
              edge = e.edge;
              there = e.there;
              parent = e.from ∙ ap Node (sym (eqb-true plain.row.id x.base above.1));
              role = e.role_is;
              child = e.to ∙ sym (eqb-true at.id file below.1);
            }

        by_name : (at : NodeRecord) → node_by_id s.table file ≡ Some at → (name : Option (List ℕ)) → at.filename ≡ name → IsFileBelow file
        by_name at found None e =
            let some = h.filtered plain.row at (leads at found) e in
            let bad = subst IsSome plain.own some in
            absurd cc
        by_name at found (Some name) e =
            let below = find-Some (λ (r : NodeRecord). r.id == file) s.table.nodes at found in
            record { at = at; there = below.0; found = found; id = eqb-true at.id file below.1; kind = h.drivers name at (record { there = below.0; filename = e }) }

        by_found : (found : Option NodeRecord) → node_by_id s.table file ≡ found → IsSome found → IsFileBelow file
        by_found None e some = absurd cc
        by_found (Some at) e some = by_name at e at.filename refl

    file_suits : (file : ℕ) → child s.table x.base File ≡ Some file → MayBeWritten now.table file
    file_suits file is =
        let f = file_row file is in
        let after = alike.rows file f.at f.found in
        record {
          disk = record { row = after.later; there = after.found; own = ap filter_role (after.kind ∙ f.kind) };
          under = λ below r child_is found.
              absurd (none_below f.at f.there f.kind File below refl
              (subst (λ n. child s.table n File ≡ Some below) (sym f.id) (sym (children file File) ∙ child_is)));
        }

    -- the base may be written where its file may be
    base_suits : ((file : ℕ) (r : NodeRecord) → child s.table x.base File ≡ Some file → node_by_id now.table file ≡ Some r → r.read_only ≡ false)
        → MayBeWritten now.table x.base
    base_suits writes =
        let after = alike.rows x.base plain.row plain.there in
        record {
          disk = record { row = after.later; there = after.found; own = ap filter_role after.kind ∙ plain.own };
          under = λ file r is found. writes file r (sym (children x.base File) ∙ is) found;
        }

  behind_children : (changes : List Change) → AreBefore changes → HaveChildren (all_stepped s changes).table
  behind_children changes early = subst HaveChildren (sym (stepped_table changes s)) (all_before changes s.table early).children

  behind_alike : (changes : List Change) → AreBefore changes → IsAlike s.table (all_stepped s changes).table
  behind_alike changes early = subst (IsAlike s.table) (sym (stepped_table changes s)) (all_alike changes s.table early)

  -- one that was made writable is
  made_so : (t : RunTable) (node : ℕ) (r : NodeRecord) → node_by_id (changed t (change.MakeWritable node)) node ≡ Some r → r.read_only ≡ false
  unfolding changed
  made_so t node r found = by_row (node_by_id t node) refl (sym (found_mapped t (changed t (change.MakeWritable node)) (node_changed node writable) ids refl node) ∙ found)
    where
      ids : (q : NodeRecord) → (node_changed node writable q).id ≡ q.id
      ids q = by_test (q.id == node)
        where
          by_test : (b : Bool) → (cond b (writable q) q).id ≡ q.id
          by_test true = refl
          by_test false = refl

      by_row : (old : Option NodeRecord) → node_by_id t node ≡ old → option_map (node_changed node writable) old ≡ Some r → r.read_only ≡ false
      by_row None e is = absurd cc
      by_row (Some q) e is =
          let own : (q.id == node) ≡ true = (find-Some (λ (p : NodeRecord). p.id == node) t.nodes q e).1 in
          let both : node_changed node writable q ≡ r = (let somes : Some (node_changed node writable q) ≡ Some r = is in cc somes) in
          ap (λ (p : NodeRecord). p.read_only) (sym both) ∙ ap (λ b. (cond b (writable q) q).read_only) own

  -- a file that wasn't made writable might be written before
  might_before : (file : ℕ) → child s.table x.base File ≡ Some file → row.made_writable.file ≡ false → (at : NodeRecord) → node_by_id s.table file ≡ Some at
      → at.read_only ≡ false
  might_before file is kept at found =
      let by_row : row.made_writable.file ≡ reads_only s.table (file_below s.table row.target) = ap (λ m. m.file) lends in
      let below : file_below s.table row.target ≡ Some file = ap (file_below s.table) x.is_base ∙ is in
      let says : reads_only s.table (Some file) ≡ at.read_only = ap (λ (o : Option NodeRecord). unwrap_or (option_map (λ (r : NodeRecord). r.read_only) o) false) found in
      sym (by_row ∙ ap (reads_only s.table) below ∙ says) ∙ kept

  base_suit : (now : State) → HaveChildren now.table → IsAlike s.table now.table → AllSuit now (base_edits s.table row)
  base_suit now children alike = by_flags row.made_writable.file refl row.made_writable.base (file_below s.table row.target) refl
    where
      target_is : (b : Bool) → writable_if b row.target ≡ writable_if b (Some x.base)
      target_is b = ap (writable_if b) x.is_base

      child_is : (file : Option ℕ) → file_below s.table row.target ≡ file → child s.table x.base File ≡ file
      child_is file e = sym (ap (file_below s.table) x.is_base) ∙ e

      base_if : (b : Bool) (v : State) → MayBeWritten v.table x.base → AllSuit v (writable_if b row.target)
      base_if b v may = subst (AllSuit v) (sym (target_is b)) (by_flag b)
        where
          by_flag : (flag : Bool) → AllSuit v (writable_if flag (Some x.base))
          by_flag true = (may, tt)
          by_flag false = tt

      -- no file is under it, or it might be written
      plain_base : ((file : ℕ) → child s.table x.base File ≡ Some file → row.made_writable.file ≡ false) → MayBeWritten now.table x.base
      plain_base kept = base_suits now children alike (λ file r is found. writes file r is found)
        where
          writes : (file : ℕ) (r : NodeRecord) → child s.table x.base File ≡ Some file → node_by_id now.table file ≡ Some r → r.read_only ≡ false
          writes file r is found =
              let f = file_row now children alike file is in
              let after = alike.rows file f.at f.found in
              let both : Some after.later ≡ Some r = sym after.found ∙ found in
              let same : after.later ≡ r = cc both in
              subst (λ (q : NodeRecord). q.read_only ≡ false) same (after.writes (might_before file is (kept file is) f.at f.found))

      by_flags : (m : Bool) → row.made_writable.file ≡ m → (b : Bool) (file : Option ℕ) → file_below s.table row.target ≡ file
          → AllSuit now (writable_if m file ++ writable_if b row.target)
      by_flags false e b file is = base_if b now (plain_base (λ under found. e))
      by_flags true e b None is =
          base_if b now (plain_base (λ under found. absurd (let bad : None ≡ Some under = sym (child_is None is) ∙ found in cc)))
      by_flags true e b (Some file) is = (file_suits now children alike file (child_is (Some file) is), base_if b next may)
        where
          next : State
          next = stepped now (change.MakeWritable file)

          then_children : HaveChildren next.table
          then_children n role = (all_before (change.MakeWritable file ∷ []) now.table (tt, tt)).children n role ∙ children n role

          then_alike : IsAlike s.table next.table
          then_alike = alike_then s.table now.table next.table alike (all_alike (change.MakeWritable file ∷ []) now.table (tt, tt))

          may : MayBeWritten next.table x.base
          may = base_suits next then_children then_alike (λ under r below found.
              let same : file ≡ under = (let both : Some file ≡ Some under = sym (child_is (Some file) is) ∙ below in cc both) in
              made_so now.table under r (subst (λ n. node_by_id (changed now.table (change.MakeWritable n)) under ≡ Some r) same found))

  pub lent_suits : AllSuit s (file_used s.table row.target ++ commit_unsettles s.table row ++ base_edits s.table row)
  lent_suits =
      suit_append lost (base_edits s.table row) s
      (suit_append (file_used s.table row.target) (commit_unsettles s.table row) s (used_suits s row.target)
      (subst (λ changes. AllSuit (all_stepped s changes) (commit_unsettles s.table row)) (sym used_is) unsettles_suit))
      (base_suit (all_stepped s lost) (behind_children lost (unsettled_before s.table row)) (behind_alike lost (unsettled_before s.table row)))
