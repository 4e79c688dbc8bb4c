-- No disk is left in the files of backing nodes behind changes, starts and ends of jobs, and pieces of guests' requests.
use Rattle.std.proofs.Common.{◌≡◌, ◌≢◌, ℕ, List, [], ◌∷◌, refl, sym, ◌∙◌, ap, subst, inl, inr, true, Option, Some, None}
use Rattle.std.specs.Prelude.{◌==◌, IsSome}
use Rattle.std.specs.Option.{option_and_then}
use Rattle.std.specs.List.{Contains}
use Rattle.std.proofs.lemmas.Bool.{false≢true, eqb-true}
use Rattle.std.proofs.lemmas.List.Elements.{All-weaker}
use Rattle.blk_graph.specs.declared.edge.Edge.{Edge}
use Rattle.blk_graph.specs.declared.edge.Parent.TheVariants.{Node}
use Rattle.blk_graph.specs.declared.edge.Role.TheVariants.{File, Backing}
use Rattle.blk_graph.specs.declared.kind.Kind.{Kind}
use Rattle.blk_graph.specs.declared.kind.Kind.TheVariants as driver
use Rattle.blk_graph.proofs.Members.{Contains-nil, find-Some}
use Rattle.qmp_codec.specs.declared.nodes.Created.{Created}
use Rattle.qmp_codec.specs.declared.nodes.Created.TheVariants as created
use Rattle.qmp_rules.specs.declared.change.Change.{Change}
use Rattle.qmp_rules.specs.declared.change.Change.TheVariants as change
use Rattle.qmp_rules.specs.declared.rows.NodeRecord.{NodeRecord}
use Rattle.qmp_rules.specs.Changes.{changed}
use Rattle.qmp_rules.specs.Chains.{disk_node, filter_role, is_settled}
use Rattle.qmp_rules.specs.Edits.{spoiled}
use Rattle.qmp_rules.specs.Table.{RunTable, node_by_id, child}
use Rattle.flat_machine.specs.State.{State, Left, filename_of}
use Rattle.flat_machine.specs.Changed.{own_filename, stepped, all_stepped}
use Rattle.flat_machine.specs.Standing.{IsUsedUp, Stands}
use Rattle.flat_machine.specs.Suiting.{IsAlone, NoneLeftIn, TableSuits, AllTableSuit}
use Rattle.flat_machine.specs.Wiring.{EdgesHaveEnds, LeadsToFile, StandsFor, TableStands}
use Rattle.flat_machine.proofs.Kept.{own_disk}
use Rattle.flat_machine.proofs.TableRests.{table_keeps}
use Rattle.flat_machine.proofs.Tables.{pushed-cases}
use Rattle.flat_machine.proofs.WritingKept.{role_edge}
use Rattle.job_chains.specs.Lent.{BackedAreUnleft, BacksUnleft, AllBackUnleft}
use Rattle.job_chains.proofs.LentLeft.{LeavesNoneIn, KeepsUnleft, change_unleft}

-- ---- what has a flat disk has none left in its file

pub settled_unleft : (s : State) → Stands s → (node : ℕ) → ((row : NodeRecord) → Contains s.table.nodes row → row.id ≡ node → row.is_settled ≡ true) → NoneLeftIn s node
settled_unleft s h node settled name row of id =
    All-weaker (IsUsedUp s) (λ (l : Left). l.file ≢ name)
    (λ l used same.
    let gone = used.gone row (record { there = of.there; filename = of.filename ∙ ap Some (sym same) }) in
    false≢true (sym gone ∙ settled row of.there id)) s.left h.writing.left

pub disk_unleft : (s : State) → Stands s → (node : ℕ) → is_settled s.table node ≡ true → NoneLeftIn s node
disk_unleft s h node settled name row of id =
    settled_unleft s h row.id
    (λ r there same.
    let rows : Some r ≡ Some row = sym (h.table.apart r there) ∙ ap (node_by_id s.table) same ∙ h.table.apart row of.there in
    let one : r ≡ row = cc rows in
    subst (λ (x : NodeRecord). x.is_settled ≡ true) (sym one) flat) name row of refl
  where
    at : node_by_id s.table node ≡ Some row
    at = ap (node_by_id s.table) (sym id) ∙ h.table.apart row of.there

    own : disk_node s.table node ≡ node
    own = own_disk s.table node row at (ap filter_role (h.table.drivers name row of))

    flat : row.is_settled ≡ true
    flat = rw (own, at) at settled

-- ---- a node that goes

-- the file of a node that goes is its own, or that of the `file` node under it
own_under : (t : RunTable) → TableStands t → (gone : ℕ) → IsAlone t gone → (row : NodeRecord) → node_by_id t gone ≡ Some row → (name : List ℕ)
    → own_filename t row row.kind ≡ Some name → (other : NodeRecord) → StandsFor t name other → (e : Edge) → Contains t.edges e → e.role ≡ Backing
    → e.child ≢ other.id
own_under t h gone alone row found name own other of e there backs to = by_kind row.kind refl own
  where
    here : Contains t.nodes row × ((row.id == gone) ≡ true)
    here = find-Some (λ (r : NodeRecord). r.id == gone) t.nodes row found

    itself : row.filename ≡ Some name → ⊥
    itself named =
        let same : other.id ≡ row.id = h.alone name other row of (record { there = here.0; filename = named }) in
        alone e there (to ∙ same ∙ eqb-true row.id gone here.1)

    under : filter_role row.kind ≡ None → option_and_then (filename_of t) (child t row.id File) ≡ Some name → ⊥
    under format is = by_child (child t row.id File) refl is
      where
        by_row : (file : ℕ) → child t row.id File ≡ Some file → (at : Option NodeRecord) → node_by_id t file ≡ at
            → option_and_then (λ (r : NodeRecord). r.filename) at ≡ Some name → ⊥
        by_row file is None f named = let bad : None ≡ Some name = named in cc bad
        by_row file is (Some below) f named =
            let below_at = find-Some (λ (r : NodeRecord). r.id == file) t.nodes below f in
            let x = role_edge (Node row.id) File t.edges file is in
            let leads : LeadsToFile t row below = record {
              over_there = here.0;
              under_there = below_at.0;
              edge = x.edge;
              there = x.there;
              parent = x.from;
              role = x.role_is;
              child = x.to ∙ sym (eqb-true below.id file below_at.1);
            } in
            let same : other.id ≡ below.id = h.alone name other below of (record { there = below_at.0; filename = named }) in
            let one = h.taken row below leads (subst IsSome (sym named) refl) format in
            let bad : Backing ≡ File = sym backs ∙ (one.sole e there (to ∙ same)).1 in
            cc bad

        by_child : (below : Option ℕ) → child t row.id File ≡ below → option_and_then (filename_of t) below ≡ Some name → ⊥
        by_child None is named = let bad : None ≡ Some name = named in cc bad
        by_child (Some file) is named = by_row file is (node_by_id t file) refl named

    by_kind : (k : Kind) → row.kind ≡ k → own_filename t row k ≡ Some name → ⊥
    by_kind driver.Protocol k is = itself is
    by_kind driver.Raw k is = under (ap filter_role k) is
    by_kind driver.Qcow2 k is = under (ap filter_role k) is
    by_kind driver.CopyOnRead k is = let bad : None ≡ Some name = is in cc bad
    by_kind driver.BeforeWrite k is = let bad : None ≡ Some name = is in cc bad
    by_kind driver.Mirror k is = let bad : None ≡ Some name = is in cc bad
    by_kind driver.Commit k is = let bad : None ≡ Some name = is in cc bad

removal_leaves : (s : State) → TableStands s.table → (node : ℕ) → IsAlone s.table node → (e : Edge) → Contains s.table.edges e → e.role ≡ Backing
    → LeavesNoneIn s (change.RemoveNode node) e.child
removal_leaves s h node alone e there backs l m name row of id same =
    own_under s.table h node alone m.row m.at name (m.file ∙ ap Some same) row of e there backs (sym id)

-- ---- changes

-- nothing leads to a new node
alone_new : (t : RunTable) → EdgesHaveEnds t → (id : ℕ) → node_by_id t id ≡ None → IsAlone t id
alone_new t ends id fresh e there at = let bad = subst IsSome (ap (node_by_id t) at ∙ fresh) (ends e there).child in cc bad

-- a new filter stands for no file
filter_unleft : (s : State) (new : NodeRecord) (node : ℕ) → node_by_id s.table new.id ≡ None → TableStands s.table → new.filename ≡ None
    → NoneLeftIn (stepped s (change.PutFilter new node)) new.id
unfolding changed
filter_unleft s new node fresh h none name row of id = absurd (elim (pushed-cases s.table.nodes new row of.there) [
  | inl old ↦ (let bad : None ≡ Some row = sym fresh ∙ ap (node_by_id s.table) (sym id) ∙ h.apart row old in cc bad)
  | inr is ↦ (let bad : None ≡ Some name = sym none ∙ ap (λ (r : NodeRecord). r.filename) (sym is) ∙ of.filename in cc bad)
])

keeps_by : (s : State) → TableStands s.table → (c : Change) → TableSuits s.table c → BacksUnleft s c → KeepsUnleft s c
keeps_by s h (change.AddFile new) suits unleft = alone_new s.table h.edges new.id suits.fresh
keeps_by s h (change.AddFormat new file backing) suits unleft = (
  alone_new s.table h.edges new.id suits.fresh,
  λ node is. (
    λ same. (let bad = subst IsSome (ap (node_by_id s.table) (sym same) ∙ suits.fresh) (suits.backed node is).there in cc bad),
    unleft node is,
  ),
)
keeps_by s h (change.AddFilter new child) suits unleft = alone_new s.table h.edges new.id suits.fresh
keeps_by s h (change.RemoveNode node) suits unleft = removal_leaves s h node suits
keeps_by s h (change.PutFilter new node) suits unleft =
    (alone_new s.table h.edges new.id suits.fresh, filter_unleft s new node suits.fresh h suits.filename)
keeps_by s h change.Negotiate suits unleft = unleft
keeps_by s h c suits unleft = unleft

pub changes_unleft : (changes : List Change) (s : State) → TableStands s.table → AllTableSuit s.table changes → AllBackUnleft s changes → BackedAreUnleft s
    → BackedAreUnleft (all_stepped s changes)
changes_unleft [] s h suits unleft g = g
changes_unleft (c ∷ changes) s h suits unleft g =
    changes_unleft changes (stepped s c) (table_keeps s.table c suits.0 h) suits.1 unleft.1 (change_unleft s g c (keeps_by s h c suits.0 unleft.0))

pub opening_unleft : (s : State) → s.table.edges ≡ [] → BackedAreUnleft s
opening_unleft s none e there = absurd (Contains-nil e (subst (λ edges. Contains edges e) none there))

pub spoiled_unleft : (s : State) (options : Created (List ℕ)) → BackedAreUnleft s → BackedAreUnleft (all_stepped s (spoiled s.table options))
spoiled_unleft s (created.File c) g = change_unleft s g (change.SpoilFile c.filename) tt
spoiled_unleft s (created.Qcow2 c) g = change_unleft s g (change.SpoilFile _) tt
spoiled_unleft s created.Unknown g = g
