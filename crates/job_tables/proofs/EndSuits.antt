-- The changes of an end suit the state, one after another.
use Rattle.std.proofs.Common.{◌≡◌, ◌≢◌, ℕ, Bool, true, false, cond, List, [], ◌∷◌, ◌++◌, map, refl, sym, ◌∙◌, ap, subst, inl, inr, Option, Some, None, option_map}
use Rattle.std.specs.Prelude.{◌==◌, ◌&&◌, not, All, IsSome, option_and_then, slice_get}
use Rattle.std.specs.List.{Contains}
use Rattle.std.proofs.lemmas.Bool.{eqb-true}
use Rattle.blk_graph.specs.declared.edge.Edge.{Edge}
use Rattle.blk_graph.specs.declared.edge.Parent.TheVariants.{Node}
use Rattle.blk_graph.specs.declared.edge.Role.{Role}
use Rattle.blk_graph.specs.declared.edge.Role.TheVariants.{File, Backing, Filtered}
use Rattle.blk_graph.specs.declared.kind.Kind.{Kind}
use Rattle.blk_graph.specs.declared.kind.Kind.TheVariants as driver
use Rattle.blk_graph.specs.Paths.{Reaches}
use Rattle.blk_graph.specs.Edges.{same_parent}
use Rattle.blk_graph.specs.Permissions.{has_role}
use Rattle.blk_graph.proofs.Members.{Contains-here, Contains-there, Contains-filter, find-Some}
use Rattle.blk_graph.proofs.RefreshLemmas.{child_of-refreshed}
use Rattle.blk_graph.proofs.PathLemmas.{Reaches-covered, Reaches-edge, Reaches-joined}
use Rattle.qmp_codec.specs.declared.event.JobKind.{JobKind}
use Rattle.qmp_codec.specs.declared.event.JobKind.TheVariants.{Stream, Commit, Mirror, Backup}
use Rattle.qmp_rules.specs.declared.change.Change.{Change}
use Rattle.qmp_rules.specs.declared.change.Change.TheVariants as change
use Rattle.qmp_rules.specs.declared.change.NewDisk.{NewDisk}
use Rattle.qmp_rules.specs.declared.change.NewDisk.TheVariants.{OfNode, OfStart}
use Rattle.qmp_rules.specs.declared.change.JobOutcome.{JobOutcome}
use Rattle.qmp_rules.specs.declared.change.JobOutcome.TheVariants.{Completed, Pivoted, Copied, Stopped}
use Rattle.qmp_rules.specs.declared.rows.NodeRecord.{NodeRecord}
use Rattle.qmp_rules.specs.declared.rows.JobRecord.{JobRecord}
use Rattle.qmp_rules.specs.Changes.{changed, kept_from_writes, node_changed, settled, unsettled}
use Rattle.qmp_rules.specs.Chains.{disk_node, filter_role, filtered}
use Rattle.qmp_rules.specs.Ends.{drops_aside, filter_gone as pulled, end_edits, given_back_to, overlay_to, read_only_if, settle_if, settles_target}
use Rattle.qmp_rules.specs.Table.{RunTable, child, kinds_of, node_by_id}
use Rattle.flat_machine.specs.State.{State}
use Rattle.flat_machine.specs.Changed.{all_stepped, stepped}
use Rattle.flat_machine.specs.Standing.{Stands}
use Rattle.flat_machine.specs.Suiting.{AllSuit, HaveOneSize, IsDiskNode, IsPlainNode, MayBeKept, MoveSuits, NoneLeftIn, PullSuits, SuitsAttach, Suits, without_way}
use Rattle.flat_machine.specs.Wiring.{IsDiskOf, IsUnderOne, LeadsToFile, TableStands}
use Rattle.flat_machine.proofs.StandingKept.{all_stand, stands_keep}
use Rattle.flat_machine.proofs.TablesKept.{not_copying}
use Rattle.flat_machine.proofs.Rows.{disk_reached, found_mapped, same_row}
use Rattle.flat_machine.proofs.Wired.{at_with}
use Rattle.flat_machine.proofs.WritingKept.{RoleEdge, role_edge}
use Rattle.flat_machine.proofs.FilterPut.{two_filters}
use Rattle.flat_machine.proofs.Lent.{changed_at}
use Rattle.job_edges.specs.Held.{HasBacking}
use Rattle.job_tables.specs.Ends.{EndSuits, IsBare, TargetSuits, rebased_by}
use Rattle.job_tables.specs.Jobs.{CommitJobStands, CopyStands, EdgesAreDrawn, JobsStand, StandsByKind, StreamJobStands}
use Rattle.job_tables.specs.Rows.{HasFilterOf, nodes_of_job}
use Rattle.job_tables.proofs.EndKeeps.{Keeps, keeps_then, move_plain, over_child, over_keeps, over_was, pull_keeps, pulled_leads_on, rebase_keeps}
use Rattle.job_tables.proofs.Ended.{end_is, moves_by, rest_by}
use Rattle.job_tables.proofs.JobsRest.{backing_of, source_plain}
use Rattle.job_tables.proofs.RowEdges.{in_left, in_right}
use Rattle.job_tables.proofs.Shapes.{base_in, commit_target, mirror_target, next, not_top, overlay_stands, stream_backing, stream_way}

-- ---- lists of changes

pub suit_append : (a b : List Change) (s : State) → AllSuit s a → AllSuit (all_stepped s a) b → AllSuit s (a ++ b)
suit_append [] b s first rest = rest
suit_append (c ∷ a) b s first rest = (first.0, suit_append a b (stepped s c) first.1 rest)

-- ---- what stands behind the moves: disks are settled, and nodes may be written no more

-- the node that a job's target or base is there, with its file, and bare where it is to be written no more
record IsLeft (w : State) (t : RunTable) (lent : Bool) (target : ℕ) : Type 0 where
  disk : IsDiskNode w.table target
  bare : lent ≡ true → IsBare w.table target
  file : (file : ℕ) → child t target File ≡ Some file → child w.table target File ≡ Some file

module _ (t : RunTable) (lent : Bool) (target : ℕ) where
  -- rows change in their disks
  left_mapped : (w now : State) (f : NodeRecord → NodeRecord) → ((row : NodeRecord) → (f row).id ≡ row.id) → ((row : NodeRecord) → (f row).kind ≡ row.kind)
      → now.table.nodes ≡ map f w.table.nodes → now.table.edges ≡ w.table.edges → IsLeft w t lent target → IsLeft now t lent target
  left_mapped w now f ids kinds nodes edges h = record {
    disk = record {
      row = f h.disk.row;
      there = found_mapped w.table now.table f ids nodes target ∙ ap (option_map f) h.disk.there;
      own = ap filter_role (kinds h.disk.row) ∙ h.disk.own;
    };
    bare = λ is e there at. h.bare is e (subst (λ es. Contains es e) edges there) at;
    file = λ file is. ap (λ es. child (record w.table { edges = es }) target File) edges ∙ h.file file is;
  }

  left_settled : (w : State) (node : ℕ) (disk : NewDisk) → IsLeft w t lent target → IsLeft (stepped w (change.Settle node disk)) t lent target
  unfolding changed
  left_settled w node disk h =
      left_mapped w (stepped w (change.Settle node disk)) (node_changed node settled) (λ row. of_test row (row.id == node)) (λ row. kind_test row (row.id == node)) refl refl h
    where
      of_test : (row : NodeRecord) (b : Bool) → (cond b (settled row) row).id ≡ row.id
      of_test row true = refl
      of_test row false = refl

      kind_test : (row : NodeRecord) (b : Bool) → (cond b (settled row) row).kind ≡ row.kind
      kind_test row true = refl
      kind_test row false = refl

  left_unsettled : (w : State) (node : ℕ) → IsLeft w t lent target → IsLeft (stepped w (change.Unsettle node)) t lent target
  unfolding changed
  left_unsettled w node h =
      left_mapped w (stepped w (change.Unsettle node)) (node_changed node unsettled) (λ row. of_test row (row.id == node)) (λ row. kind_test row (row.id == node)) refl refl h
    where
      of_test : (row : NodeRecord) (b : Bool) → (cond b (unsettled row) row).id ≡ row.id
      of_test row true = refl
      of_test row false = refl

      kind_test : (row : NodeRecord) (b : Bool) → (cond b (unsettled row) row).kind ≡ row.kind
      kind_test row true = refl
      kind_test row false = refl

  -- a disk is settled where the node is plain and no disk is left in its file
  suits_settled : (so : Bool) (w : State) (disk : NewDisk) → Stands w → IsPlainNode w.table target → NoneLeftIn w target → IsLeft w t lent target
      → AllSuit w (settle_if so (Some target) disk) × Stands (all_stepped w (settle_if so (Some target) disk)) × IsLeft (all_stepped w (settle_if so (Some target) disk)) t lent target
  suits_settled false w disk h p left l = (tt, h, l)
  suits_settled true w disk h p left l =
      let suits : Suits w (change.Settle target disk) = record { plain = p; left = left } in
      ((suits, tt), stands_keep w (change.Settle target disk) suits h, left_settled w target disk l)

-- ---- a node that may be written no more

-- what reads as a bare node is that itself
bare_reads : (t : RunTable) (node n : ℕ) → IsBare t node → disk_node t n ≡ node → n ≡ node
bare_reads t node n bare is = elim (disk_reached t (λ m. m ≢ node) goes n) [
  | inl same ↦ sym same ∙ is
  | inr other ↦ absurd (other is)
]
  where
    goes : (m below : ℕ) → filtered t m ≡ Some below → below ≢ node
    goes m below reads same = by_row (node_by_id t m) reads
      where
        by_role : (role : Option Role) (kind : Kind) → filter_role kind ≡ role → option_and_then (child t m) role ≡ Some below → ⊥
        by_role None kind k at = absurd cc
        by_role (Some role) kind k at =
            let e = role_edge (Node m) role t.edges below at in
            let of = bare e.edge e.there (e.to ∙ same) in
            elim (two_filters kind role k) [
              | inl copies ↦ of.0 (e.role_is ∙ file_of copies k)
              | inr over ↦ of.1 (e.role_is ∙ over)
            ]
          where
            file_of : kind ≡ driver.CopyOnRead → filter_role kind ≡ Some role → role ≡ File
            file_of is f = let filters : filter_role driver.CopyOnRead ≡ Some role = subst (λ x. filter_role x ≡ Some role) is f in cc

        by_row : (found : Option NodeRecord) → option_and_then (child t m) (option_and_then (λ row. filter_role row.kind) found) ≡ Some below → ⊥
        by_row None at = absurd cc
        by_row (Some row) at = by_role (filter_role row.kind) row.kind refl at

bare_kept : (t : RunTable) (node : ℕ) → IsDiskNode t node → IsBare t node → MayBeKept t node
bare_kept t node disk bare = record {
  disk = disk;
  over = λ e row there at from role to. absurd ((bare e there to).0 role);
  filters = λ row there reads writes. bare_reads t node row.id bare reads;
}

-- the file under a format node that may be written no more
file_kept : (t : RunTable) (node file : ℕ) → TableStands t → (row : NodeRecord) → node_by_id t node ≡ Some row → filter_role row.kind ≡ None → row.read_only ≡ true
    → child t node File ≡ Some file → MayBeKept t file
file_kept t node file h row at own kept is = by_row (node_by_id t file) refl
  where
    e : RoleEdge t.edges (Node node) File file
    e = role_edge (Node node) File t.edges file is

    here : Contains t.nodes row × ((row.id == node) ≡ true)
    here = find-Some (λ r. r.id == node) t.nodes row at

    by_row : (found : Option NodeRecord) → node_by_id t file ≡ found → MayBeKept t file
    by_row None none = absurd (let some = subst (λ n. IsSome (node_by_id t n)) e.to (h.edges e.edge e.there).child in let bad = subst IsSome none some in cc)
    by_row (Some under) found = record {
      disk = record { row = under; there = found; own = ap filter_role protocol };
      over = λ x above there above_there from role to.
          let one = taken.sole x there (to ∙ sym id) in
          let ids : above.id ≡ row.id = (let both = sym from ∙ one.0 in cc) in
          let same : above ≡ row = same_row t h.apart row above here.0 above_there ids in
          ap (λ (r : NodeRecord). r.read_only) same ∙ kept;
      filters = λ above there reads writes. by_disk above there reads;
    }
      where
        under_here : Contains t.nodes under × ((under.id == file) ≡ true)
        under_here = find-Some (λ r. r.id == file) t.nodes under found

        id : under.id ≡ file
        id = eqb-true under.id file under_here.1

        leads : LeadsToFile t row under
        leads = record {
          over_there = here.0;
          under_there = under_here.0;
          edge = e.edge;
          there = e.there;
          parent = e.from ∙ ap Node (sym (eqb-true row.id node here.1));
          role = e.role_is;
          child = e.to ∙ sym id;
        }

        named : (name : List ℕ) × (under.filename ≡ Some name)
        named = by_name under.filename refl
          where
            by_name : (name : Option (List ℕ)) → under.filename ≡ name → (name : List ℕ) × (under.filename ≡ Some name)
            by_name (Some name) k = (name, k)
            by_name None k = absurd (let filter = h.filtered row under leads k in let none = subst IsSome own filter in cc)

        protocol : under.kind ≡ driver.Protocol
        protocol = h.drivers named.0 under (record { there = under_here.0; filename = named.1 })

        taken : IsUnderOne t row under
        taken = h.taken row under leads (subst IsSome (sym named.1) refl) own

        by_disk : (above : NodeRecord) → Contains t.nodes above → disk_node t above.id ≡ file → above.id ≡ file
        by_disk above there reads =
            let of = at_with (IsDiskOf t above) (node_by_id t (disk_node t above.id)) under (ap (node_by_id t) reads ∙ found) (h.reads above.id above (h.apart above there)) in
            elim (of.itself (subst IsSome (sym named.1) refl)) [
              | inl same ↦ sym same ∙ id
              | inr free ↦ absurd (free under row (h.apart under under_here.0) (subst IsSome (sym named.1) refl) leads own)
            ]

-- what is lent is given back
suits_back : (t : RunTable) (lent file_too : Bool) (target : ℕ) (w : State) → (file_too ≡ true → lent ≡ true) → Stands w → IsLeft w t lent target
    → AllSuit w (read_only_if lent (Some target) ++ read_only_if file_too (child t target File))
unfolding changed
suits_back t false false target w both h l = tt
suits_back t false true target w both h l = absurd (let bad = both refl in cc)
suits_back t true file_too target w both h l = (bare_kept w.table target l.disk (l.bare refl), by_file file_too (child t target File) refl)
  where
    now : State
    now = stepped w (change.MakeReadOnly target)

    stands : Stands now
    stands = stands_keep w (change.MakeReadOnly target) (bare_kept w.table target l.disk (l.bare refl)) h

    at_target : node_by_id now.table target ≡ Some (kept_from_writes l.disk.row)
    at_target =
        found_mapped w.table now.table (node_changed target kept_from_writes) (λ row. ids row (row.id == target)) refl target ∙ ap (option_map (node_changed target kept_from_writes)) l.disk.there
        ∙ ap (λ (r : NodeRecord). Some r) (changed_at target kept_from_writes l.disk.row (eqb-true l.disk.row.id target (find-Some (λ r. r.id == target) w.table.nodes l.disk.row l.disk.there).1))
      where
        ids : (row : NodeRecord) (b : Bool) → (cond b (kept_from_writes row) row).id ≡ row.id
        ids row true = refl
        ids row false = refl

    by_file : (too : Bool) (file : Option ℕ) → child t target File ≡ file → AllSuit now (read_only_if too file)
    by_file false file is = tt
    by_file true None is = tt
    by_file true (Some file) is = (
      file_kept now.table target file stands.table (kept_from_writes l.disk.row) at_target l.disk.own refl
          (child_of-refreshed (kinds_of now.table.nodes) (Node target) File w.table.edges ∙ l.file file is),
      tt,
    )

-- ---- the job, its filter and its moves

module _ (s : State) (h : Stands s) (j : JobsStand s.table) (d : EdgesAreDrawn s.table) (row : JobRecord) (here : Contains s.table.jobs row) (e : EndSuits s row)
    (drops : Bool) where
  abbrev t : RunTable
  t = s.table

  abbrev first : Change
  first = change.EndJob row.number row.slot drops

  abbrev s1 : State
  s1 = stepped s first

  h1 : Stands s1
  h1 = stands_keep s first tt h

  keeps1 : Keeps s.table s1.table
  keeps1 = over_keeps s.table row.number row.slot drops

  leads1 : (a : ℕ) (x : Edge) → Contains s1.table.edges x → x.parent ≡ Node a → Reaches s.table.edges a x.child
  unfolding changed
  leads1 a x there from =
      let was = over_was s.table row.number row.slot drops x there in
      subst (Reaches s.table.edges a) was.4 (Reaches-edge s.table.edges a was.0 was.1 (was.2 ∙ from))

  plain_in : (n : ℕ) → Contains (nodes_of_job row) n → IsPlainNode s.table n
  plain_in n held = (j.each row here).plain n held

  source : IsPlainNode s.table row.source
  source = source_plain s.table h.table j d row here

  -- where no disk was left none is
  unleft : (w : State) (n : ℕ) → Keeps s.table w.table → w.left ≡ s.left → NoneLeftIn s n → NoneLeftIn w n
  unleft w n k left none name node of id =
      subst (All (λ l. l.file ≢ name)) (sym left) (none name node (record { there = k.rows node of.there; filename = of.filename }) id)

  sizes_in : (w : RunTable) → Keeps s.table w → (a b : ℕ) → IsPlainNode s.table a → IsPlainNode s.table b → HaveOneSize s.table a b → HaveOneSize w a b
  sizes_in w k a b pa pb one = record {
    row = one.row;
    other = one.other;
    found = k.found a pa ∙ one.found;
    other_found = k.found b pb ∙ one.other_found;
    same = one.same;
  }

  -- the target or base, as the rest of the list finds it
  left_at : (w : State) (lent : Bool) (target : ℕ) → Keeps s.table w.table → IsPlainNode s.table target → (lent ≡ true → IsBare s.table target) → IsLeft w s.table lent target
  left_at w lent target k p bare =
      let now = k.plain target p in
      record {
        disk = record { row = now.row; there = now.there; own = now.own };
        bare = λ is. k.bare target p (bare is);
        file = λ file is. k.files target file p is;
      }

  -- another backing node, below the one that there was
  attach_by : (w : RunTable) → Keeps s.table w → ((a : ℕ) (x : Edge) → Contains w.edges x → x.parent ≡ Node a → Reaches s.table.edges a x.child)
      → (node base : ℕ) → IsPlainNode s.table node → IsPlainNode s.table base → HaveOneSize s.table node base → HasBacking s.table.edges node
      → Reaches s.table.edges node base → SuitsAttach w node base
  unfolding sizes_in
  attach_by w k leads node base pn pb one backing way = record {
    sizes = sizes_in w k node base pn pb one;
    role =
        let at = find-Some (λ r. r.id == node) s.table.nodes one.row one.found in
        subst (λ r. has_role one.row.kind r ≡ true) backing.role
        (h.table.roles backing.edge one.row backing.there at.0 (backing.parent ∙ ap Node (sym (eqb-true one.row.id node at.1))));
    free = (k.plain base pb).free;
    plain =
        let found = one.other_found in
        let at = pb.there in
        let same : one.other ≡ pb.row = cc in
        not_copying one.other.kind (ap (λ r. filter_role r.kind) same ∙ pb.own);
    apart = λ back. elim back [
      | inl same ↦ h.table.acyclic node (subst (Reaches s.table.edges node) same way)
      | inr more ↦ h.table.acyclic node (Reaches-joined s.table.edges node base node way (Reaches-covered w.edges s.table.edges leads base node more.first more.rest more.path))
    ];
  }

  -- ---- jobs with a filter

  module _ (kind : Kind) (f : HasFilterOf s.table row kind) (role : filter_role kind ≡ Some Filtered) where
    pull_suits : PullSuits s1 f.filter
    unfolding changed
    pull_suits = record {
      suits = record {
        row = f.node;
        there = f.there;
        role = ap filter_role f.kind_is ∙ role;
        below = row.source;
        over = over_child s.table row.number row.slot drops f.filter Filtered ∙ f.over;
        under = keeps1.plain row.source source;
      };
      left = unleft s1 row.source keeps1 refl e.source;
    }

    abbrev s2 : State
    s2 = stepped s1 (change.PullFilter f.filter)

    h2 : Stands s2
    h2 = stands_keep s1 (change.PullFilter f.filter) pull_suits h1

    keeps2 : Keeps s.table s2.table
    keeps2 = keeps_then s.table s1.table s2.table keeps1 (pull_keeps s1.table f.filter pull_suits.suits h1.table)

    leads2 : (a : ℕ) (x : Edge) → Contains s2.table.edges x → x.parent ≡ Node a → Reaches s.table.edges a x.child
    unfolding changed
    leads2 a x there from =
        let way = pulled_leads_on s1.table f.filter pull_suits.suits h1.table a x there from in
        Reaches-covered s1.table.edges s.table.edges leads1 a x.child way.first way.rest way.path

    -- the filter is gone
    no_filter : (node : NodeRecord) → node_by_id s2.table f.filter ≡ Some node → ⊥
    unfolding changed
    no_filter node at =
        let in_now = find-Some (λ r. r.id == f.filter) s2.table.nodes node at in
        let kept = Contains-filter (λ r. not (r.id == f.filter)) s1.table.nodes node in_now.0 in
        let yes_own = in_now.1 in
        let no_own = kept.1 in
        let bad = ap not yes_own in
        cc

    move_suits : (target : ℕ) → IsPlainNode s.table target → TargetSuits s row target → target ≢ row.source → (Reaches s.table.edges target row.source → ⊥)
        → MoveSuits s2 row.source target f.filter
    unfolding changed
    move_suits target p of other apart = record {
      suits = record {
        sizes = sizes_in s2.table keeps2 row.source target source p of.sizes;
        plain = keeps2.plain row.source source;
        onto = keeps2.plain target p;
        writable = of.writable (keeps2.plain target p).row (sym (keeps2.found target p) ∙ (keeps2.plain target p).there);
        apart = λ back. elim back [
          | inl same ↦ other same
          | inr way ↦ apart (Reaches-covered (without_way f.filter row.source s2.table.edges) s.table.edges
              (λ a x there from. leads2 a x (Contains-filter (λ y. not (same_parent y.parent (Node f.filter) && y.child == row.source)) s2.table.edges x there).0 from)
              target row.source way.first way.rest way.path)
        ];
        stays = λ node at. absurd (no_filter node at);
      };
      used = λ name named.
          let at = find-Some (λ r. r.id == target) s2.table.nodes (keeps2.plain target p).row (keeps2.plain target p).there in
          let used = of.used name (keeps2.plain target p).row (record { there = keeps2.rows (keeps2.plain target p).row at.0; filename = named })
          (eqb-true (keeps2.plain target p).row.id target at.1) in
          record { state = used.state; content = used.content };
      left = unleft s2 target keeps2 refl of.left;
    }

  -- ---- the rest of the list

  -- what was lent is given back, unless the job pivots
  back : (w : State) (target : ℕ) (o : JobOutcome) → row.target ≡ Some target → Stands w → IsLeft w s.table row.made_writable.base target
      → AllSuit w (given_back_to s.table row o)
  back w target Pivoted is hw l = tt
  back w target Completed is hw l = rw is (suits_back s.table row.made_writable.base row.made_writable.file target w e.lent.file hw l)
  back w target Copied is hw l = rw is (suits_back s.table row.made_writable.base row.made_writable.file target w e.lent.file hw l)
  back w target Stopped is hw l = rw is (suits_back s.table row.made_writable.base row.made_writable.file target w e.lent.file hw l)

  -- there is nothing to be given back without a base
  none_lent : (a b : Bool) → (read_only_if a None ++ read_only_if b None) ≡ []
  none_lent true true = refl
  none_lent true false = refl
  none_lent false true = refl
  none_lent false false = refl

  back_none : (w : State) (o : JobOutcome) → row.target ≡ None → AllSuit w (given_back_to s.table row o)
  back_none w Pivoted is = tt
  back_none w Completed is = rw (is, none_lent row.made_writable.base row.made_writable.file) tt
  back_none w Copied is = rw (is, none_lent row.made_writable.base row.made_writable.file) tt
  back_none w Stopped is = rw (is, none_lent row.made_writable.base row.made_writable.file) tt

  lent_left : (w : State) (target : ℕ) → Keeps s.table w.table → IsPlainNode s.table target → row.target ≡ Some target
      → IsLeft w s.table row.made_writable.base target
  lent_left w target k p is = left_at w row.made_writable.base target k p (λ lent. e.lent.bare target lent is)

  -- the target is settled, or not, before
  settle_back : (so : Bool) (w : State) (target : ℕ) (disk : NewDisk) (o : JobOutcome) → row.target ≡ Some target → Stands w → Keeps s.table w.table → w.left ≡ s.left
      → IsPlainNode s.table target → NoneLeftIn s target → AllSuit w ((settle_if so (Some target) disk ++ []) ++ given_back_to s.table row o)
  settle_back false w target disk o is hw k left p unl = back w target o is hw (lent_left w target k p is)
  settle_back true w target disk o is hw k left p unl =
      let suits : Suits w (change.Settle target disk) = record { plain = k.plain target p; left = unleft w target k left unl } in (
        suits,
        back (stepped w (change.Settle target disk)) target o is (stands_keep w (change.Settle target disk) suits hw)
            (left_settled s.table row.made_writable.base target w target disk (lent_left w target k p is)),
      )

  -- ---- streams

  stream_suits : (k : row.kind ≡ Stream) → StreamJobStands s.table row → (o : JobOutcome)
      → AllSuit s ((first ∷ moves_by row Stream o) ++ (rest_by row Stream o ++ given_back_to s.table row o))
  stream_suits k stands o = by_target row.target refl o
    where
      over : (w : State) → Keeps s.table w.table → Stands w → (target : Option ℕ) → row.target ≡ target → (o : JobOutcome) → AllSuit w (given_back_to s.table row o)
      over w keeps hw None is o = back_none w o is
      over w keeps hw (Some base) is o =
          let r = stands.reads base is in
          back w base o is hw (lent_left w base keeps (plain_in base (in_right row.held row.read base (subst (λ ids. Contains ids base) (sym r.read)
          (in_right r.between (base ∷ []) base (Contains-here base []))))) is)

      rebased : (target : Option ℕ) → row.target ≡ target → AllSuit s1 (change.Rebase row.source target ∷ given_back_to s.table row Completed)
      rebased None is = (tt, back_none (stepped s1 (change.Rebase row.source None)) Completed is)
      rebased (Some base) is =
          let r = stands.reads base is in
          let base_plain = plain_in base (in_right row.held row.read base (subst (λ ids. Contains ids base) (sym r.read)
          (in_right r.between (base ∷ []) base (Contains-here base [])))) in
          let one = e.rebased row.source base (ap (rebased_by row) k) is in
          let suits : SuitsAttach s1.table row.source base = attach_by s1.table keeps1 leads1 row.source base source base_plain one
          (stream_backing s.table h.table j d row here k base r) (stream_way s.table h.table j d row here k base r) in (
            suits,
            over (stepped s1 (change.Rebase row.source (Some base))) (keeps_then s.table s1.table (changed s1.table (change.Rebase row.source (Some base))) keeps1
                (rebase_keeps s1.table row.source (Some base) suits h1.table))
                (stands_keep s1 (change.Rebase row.source (Some base)) suits h1) (Some base) is Completed,
          )

      by_target : (target : Option ℕ) → row.target ≡ target → (o : JobOutcome)
          → AllSuit s ((first ∷ moves_by row Stream o) ++ (rest_by row Stream o ++ given_back_to s.table row o))
      by_target target is Completed = (tt, subst (λ x. AllSuit s1 (change.Rebase row.source x ∷ given_back_to s.table row Completed)) (sym is) (rebased target is))
      by_target target is Pivoted = (tt, over s1 keeps1 h1 target is Pivoted)
      by_target target is Copied = (tt, over s1 keeps1 h1 target is Copied)
      by_target target is Stopped = (tt, over s1 keeps1 h1 target is Stopped)

  -- ---- backups and mirrors

  copy_target : (kind : Kind) (c : CopyStands s.table row kind) → IsPlainNode s.table c.target
  copy_target kind c =
      plain_in c.target (in_left row.held row.read c.target (subst (λ ids. Contains ids c.target) (sym c.held)
      (Contains-there row.source (c.target ∷ []) c.target (Contains-here c.target []))))

  backup_suits : (k : row.kind ≡ Backup) (c : CopyStands s.table row driver.BeforeWrite) (o : JobOutcome)
      → AllSuit s ((first ∷ pulled row.filter ++ moves_by row Backup o) ++ (rest_by row Backup o ++ given_back_to s.table row o))
  backup_suits k c o =
      subst (λ x. AllSuit s ((first ∷ pulled x ++ moves_by row Backup o) ++ (rest_by row Backup o ++ given_back_to s.table row o))) (sym c.filter.is_filter)
      (tt, (pull_suits driver.BeforeWrite c.filter refl, by_outcome o))
    where
      w : State
      w = stepped s1 (change.PullFilter c.filter.filter)

      of : TargetSuits s row c.target
      of = e.target c.target (rw (k, c.is_target) refl)

      settles : (o : JobOutcome) → AllSuit w ((settle_if (settles_target row.bitmap) row.target (OfStart row.number) ++ []) ++ given_back_to s.table row o)
      settles o = subst (λ x. AllSuit w ((settle_if (settles_target row.bitmap) x (OfStart row.number) ++ []) ++ given_back_to s.table row o)) (sym c.is_target)
          (settle_back (settles_target row.bitmap) w c.target (OfStart row.number) o c.is_target (h2 driver.BeforeWrite c.filter refl)
          (keeps2 driver.BeforeWrite c.filter refl) refl (copy_target driver.BeforeWrite c) of.left)

      by_outcome : (o : JobOutcome) → AllSuit w (moves_by row Backup o ++ (rest_by row Backup o ++ given_back_to s.table row o))
      by_outcome Stopped =
          back w c.target Stopped c.is_target (h2 driver.BeforeWrite c.filter refl)
          (lent_left w c.target (keeps2 driver.BeforeWrite c.filter refl) (copy_target driver.BeforeWrite c) c.is_target)
      by_outcome Completed = settles Completed
      by_outcome Pivoted = settles Pivoted
      by_outcome Copied = settles Copied

  -- behind a pivot
  module _ (kind : Kind) (f : HasFilterOf s.table row kind) (role : filter_role kind ≡ Some Filtered) (target : ℕ) (p : IsPlainNode s.table target)
      (of : TargetSuits s row target) (other : target ≢ row.source) (apart : Reaches s.table.edges target row.source → ⊥) where
    abbrev s3 : State
    s3 = stepped (stepped s1 (change.PullFilter f.filter)) (change.Move row.source target f.filter)

    to_target : MoveSuits (stepped s1 (change.PullFilter f.filter)) row.source target f.filter
    to_target = move_suits kind f role target p of other apart

    h3 : Stands s3
    h3 = stands_keep (stepped s1 (change.PullFilter f.filter)) (change.Move row.source target f.filter) to_target (h2 kind f role)

    settle_moved : Suits s3 (change.Settle target (OfNode row.source))
    unfolding changed
    settle_moved = record {
      plain = move_plain (changed s1.table (change.PullFilter f.filter)) row.source target f.filter to_target.suits (h2 kind f role).table target ((keeps2 kind f role).plain target p);
      left = λ name node of_file id. unleft (stepped s1 (change.PullFilter f.filter)) target (keeps2 kind f role) refl of.left name node
          (record { there = of_file.there; filename = of_file.filename }) id;
    }

    -- the source of a commit is no `file` node
    unsettle_source : HasBacking s.table.edges row.source → Suits (stepped s3 (change.Settle target (OfNode row.source))) (change.Unsettle row.source)
    unfolding changed
    unsettle_source backing name node of_file id =
        let h4 = stands_keep s3 (change.Settle target (OfNode row.source)) settle_moved h3 in
        let driver_is = h4.table.drivers name node of_file in
        let at_node = subst (λ n. node_by_id (stepped s3 (change.Settle target (OfNode row.source))).table n ≡ Some node) id (h4.table.apart node of_file.there) in
        let later = found_mapped s3.table (stepped s3 (change.Settle target (OfNode row.source))).table (node_changed target settled) (λ r. same_id r (r.id == target)) refl row.source
        ∙ ap (option_map (node_changed target settled)) ((keeps2 kind f role).found row.source source ∙ source.there) in
        let is : node ≡ node_changed target settled source.row = cc in
        let kinds : node.kind ≡ source.row.kind = ap (λ (r : NodeRecord). r.kind) is ∙ same_kind source.row (source.row.id == target) in
        let at = find-Some (λ r. r.id == row.source) s.table.nodes source.row source.there in
        let has = subst (λ r. has_role source.row.kind r ≡ true) backing.role
        (h.table.roles backing.edge source.row backing.there at.0 (backing.parent ∙ ap Node (sym (eqb-true source.row.id row.source at.1)))) in
        let never : has_role driver.Protocol Backing ≡ true = subst (λ k. has_role k Backing ≡ true) (sym kinds ∙ driver_is) has in
        absurd cc
      where
        same_id : (r : NodeRecord) (b : Bool) → (cond b (settled r) r).id ≡ r.id
        same_id r true = refl
        same_id r false = refl

        same_kind : (r : NodeRecord) (b : Bool) → (cond b (settled r) r).kind ≡ r.kind
        same_kind r true = refl
        same_kind r false = refl

  mirror_suits : (k : row.kind ≡ Mirror) (c : CopyStands s.table row driver.Mirror) (o : JobOutcome)
      → AllSuit s ((first ∷ pulled row.filter ++ moves_by row Mirror o) ++ (rest_by row Mirror o ++ given_back_to s.table row o))
  mirror_suits k c o =
      subst (λ x. AllSuit s ((first ∷ pulled x ++ moves_by row Mirror o) ++ (rest_by row Mirror o ++ given_back_to s.table row o))) (sym c.filter.is_filter)
      (tt, (pull_suits driver.Mirror c.filter refl, by_outcome o))
    where
      w : State
      w = stepped s1 (change.PullFilter c.filter.filter)

      of : TargetSuits s row c.target
      of = e.target c.target (rw (k, c.is_target) refl)

      p : IsPlainNode s.table c.target
      p = copy_target driver.Mirror c

      apart : Reaches s.table.edges c.target row.source → ⊥
      apart = (mirror_target s.table h.table j d row here k c).apart

      settles : (o : JobOutcome) → AllSuit w ((settle_if true row.target (OfNode row.source) ++ []) ++ given_back_to s.table row o)
      settles o = subst (λ x. AllSuit w ((settle_if true x (OfNode row.source) ++ []) ++ given_back_to s.table row o)) (sym c.is_target)
          (settle_back true w c.target (OfNode row.source) o c.is_target (h2 driver.Mirror c.filter refl)
          (keeps2 driver.Mirror c.filter refl) refl p of.left)

      by_outcome : (o : JobOutcome) → AllSuit w (moves_by row Mirror o ++ (rest_by row Mirror o ++ given_back_to s.table row o))
      by_outcome Stopped =
          back w c.target Stopped c.is_target (h2 driver.Mirror c.filter refl) (lent_left w c.target (keeps2 driver.Mirror c.filter refl) p c.is_target)
      by_outcome Completed = settles Completed
      by_outcome Copied = settles Copied
      by_outcome Pivoted = rw (c.filter.is_filter, c.is_target)
          (to_target driver.Mirror c.filter refl c.target p of c.other apart, (settle_moved driver.Mirror c.filter refl c.target p of c.other apart, tt))

  -- ---- commits

  base_plain : (c : CommitJobStands s.table row) → IsPlainNode s.table c.base
  base_plain c =
      plain_in c.base (in_left row.held row.read c.base (subst (λ ids. Contains ids c.base) (sym c.held)
      (Contains-there row.source (c.between ++ c.base ∷ []) c.base (in_right c.between (c.base ∷ []) c.base (Contains-here c.base [])))))

  commit_suits : (k : row.kind ≡ Commit) (c : CommitJobStands s.table row) (o : JobOutcome)
      → AllSuit s ((first ∷ pulled row.filter ++ moves_by row Commit o) ++ (rest_by row Commit o ++ given_back_to s.table row o))
  commit_suits k c o =
      subst (λ x. AllSuit s ((first ∷ pulled x ++ moves_by row Commit o) ++ (rest_by row Commit o ++ given_back_to s.table row o))) (sym c.filter.is_filter)
      (tt, (pull_suits driver.Commit c.filter refl, by_outcome o))
    where
      w : State
      w = stepped s1 (change.PullFilter c.filter.filter)

      hw : Stands w
      hw = h2 driver.Commit c.filter refl

      keeps : Keeps s.table w.table
      keeps = keeps2 driver.Commit c.filter refl

      of : TargetSuits s row c.base
      of = e.target c.base (rw (k, c.is_base) refl)

      p : IsPlainNode s.table c.base
      p = base_plain c

      other : c.base ≢ row.source
      other = not_top s.table h.table j d row here k c c.base (base_in s.table h.table j d row here k c)

      apart : Reaches s.table.edges c.base row.source → ⊥
      apart = (commit_target s.table h.table j d row here k c).apart

      settles : (v : State) (o : JobOutcome) → Stands v → Keeps s.table v.table → v.left ≡ s.left
          → AllSuit v ((settle_if true row.target (OfNode row.source) ++ []) ++ given_back_to s.table row o)
      settles v o hv kv left = subst (λ x. AllSuit v ((settle_if true x (OfNode row.source) ++ []) ++ given_back_to s.table row o)) (sym c.is_base)
          (settle_back true v c.base (OfNode row.source) o c.is_base hv kv left p of.left)

      completed : (read : List ℕ) → row.read ≡ read
          → AllSuit w (overlay_to (slice_get read 0) row.target ++ ((settle_if true row.target (OfNode row.source) ++ []) ++ given_back_to s.table row Completed))
      completed [] is = settles w Completed hw keeps refl
      completed (overlay ∷ ids) is =
          let both = overlay_stands s.table h.table j d row here k c overlay ids is in
          let held : IsPlainNode s.table overlay = plain_in overlay (in_right row.held row.read overlay (subst (λ xs. Contains xs overlay) (sym is) (Contains-here overlay ids))) in
          let one = e.rebased overlay c.base (ap (rebased_by row) k ∙ ap (λ xs. slice_get xs 0) is) c.is_base in
          let suits : SuitsAttach w.table overlay c.base = attach_by w.table keeps (leads2 driver.Commit c.filter refl) overlay c.base held p one both.0 both.1 in
          let v : State = stepped w (change.Rebase overlay (Some c.base)) in
          subst (λ x. AllSuit w (change.Rebase overlay x ∷ ((settle_if true row.target (OfNode row.source) ++ []) ++ given_back_to s.table row Completed))) (sym c.is_base) (
            suits,
            settles v Completed (stands_keep w (change.Rebase overlay (Some c.base)) suits hw)
                (keeps_then s.table w.table (changed w.table (change.Rebase overlay (Some c.base))) keeps (rebase_keeps w.table overlay (Some c.base) suits hw.table)) refl,
          )

      top_backed : HasBacking s.table.edges row.source
      top_backed = let to = next s.table h.table j d row here k c row.source c.base c.between c.linked row.source (Contains-here row.source c.between) in
          backing_of s.table h.table j d row.source to.0 to.1

      by_outcome : (o : JobOutcome) → AllSuit w (moves_by row Commit o ++ (rest_by row Commit o ++ given_back_to s.table row o))
      by_outcome Stopped = back w c.base Stopped c.is_base hw (lent_left w c.base keeps p c.is_base)
      by_outcome Copied = settles w Copied hw keeps refl
      by_outcome Completed = completed row.read refl
      by_outcome Pivoted = rw (c.filter.is_filter, c.is_base) (
        to_target driver.Commit c.filter refl c.base p of other apart,
        (
          settle_moved driver.Commit c.filter refl c.base p of other apart,
          (unsettle_source driver.Commit c.filter refl c.base p of other apart top_backed, tt),
        ),
      )

  kind_suits : (k : JobKind) → row.kind ≡ k → StandsByKind s.table row k → (o : JobOutcome)
      → AllSuit s ((first ∷ pulled row.filter ++ moves_by row k o) ++ (rest_by row k o ++ given_back_to s.table row o))
  kind_suits Stream k stands o =
      subst (λ x. AllSuit s ((first ∷ pulled x ++ moves_by row Stream o) ++ (rest_by row Stream o ++ given_back_to s.table row o))) (sym stands.bare)
      (stream_suits k stands o)
  kind_suits Commit k stands o = commit_suits k stands o
  kind_suits Mirror k stands o = mirror_suits k stands o
  kind_suits Backup k stands o = backup_suits k stands o

-- ---- the whole list

pub ends_suit : (s : State) (row : JobRecord) (o : JobOutcome) → Stands s → JobsStand s.table → EdgesAreDrawn s.table → Contains s.table.jobs row → EndSuits s row
    → AllSuit s (end_edits s.table row o)
ends_suit s row o h j d here e =
    subst (AllSuit s) (sym (end_is s.table row o))
    (kind_suits s h j d row here e (drops_aside o row.bitmap) row.kind refl (j.each row here).shape o)

pub ends_stand : (s : State) (row : JobRecord) (o : JobOutcome) → Stands s → JobsStand s.table → EdgesAreDrawn s.table → Contains s.table.jobs row → EndSuits s row
    → Stands (all_stepped s (end_edits s.table row o))
ends_stand s row o h j d here e = all_stand (end_edits s.table row o) s (ends_suit s row o h j d here e) h
