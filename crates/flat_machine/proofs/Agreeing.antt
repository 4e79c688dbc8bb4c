-- Nodes and files are what the flat machine says after each kind of change, where they were before it.
use Rattle.std.proofs.Common.{◌≡◌, ◌≢◌, ◌⊎◌, ℕ, Bool, true, false, cond, List, [], ◌∷◌, ◌++◌, map, refl, sym, ap, subst, ◌∙◌, inl, inr, Option, Some, None, option_map}
use Rattle.std.specs.Prelude.{◌==◌, not, bytes_eq, All}
use Rattle.std.specs.List.{find, filter}
use Rattle.std.proofs.lemmas.Bool.{eqb-true, eq-eqb, ne_eqb, cases_eq}
use Rattle.std.proofs.lemmas.List.Elements.{All-weaker, All-nil, All-cons, All-head, All-tail}
use Rattle.blk_graph.proofs.Members.{find-Some, Contains-filter}
use Rattle.qmp_rules.specs.declared.rows.NodeRecord.{NodeRecord}
use Rattle.qmp_rules.specs.Table.{node_by_id, has_name}
use Rattle.qmp_rules.specs.Changes.{node_changed, unsettled, writable, settled, with_settled, kept_from_writes, without_record}
use Rattle.blk_history.specs.Fold.{With}
use Rattle.flat_machine.specs.State.{State, Content, Left, bytes_in, content_in}
use Rattle.flat_machine.specs.Changed.{with_bytes_of}
use Rattle.flat_machine.specs.Contents.{with_content}
use Rattle.flat_machine.specs.Final.{IsDiskIn}
use Rattle.flat_machine.specs.Agreement.{Contents, HasDisk, ReadAsDisks, IsAsKnown, AreAsKnown, AreAbsent, IsLeftAs, AreUnchanged}
use Rattle.flat_machine.specs.Performing.{ReadSame, HeldSame, Nothing}
use Rattle.flat_machine.proofs.Finds.{find-push, find-map, find-filter, bytes_in-put, bytes_in-put_other, bytes_in-drop, cases_name, name_differs, content_in-with, content_in-with_other, has_name-push}

-- ---- rows

-- a node with a flat disk had one before
pub record HadDisk (s : State) (node : ℕ) : Type 0 where
  pub row : NodeRecord
  pub found : node_by_id s.table node ≡ Some row
  pub disk : HasDisk row

-- each node with a flat disk but these had one before
abbrev pub RowsBut : (ℕ → Type 0) → State → State → Type 0
RowsBut but s now = (node : ℕ) (row : NodeRecord) → node_by_id now.table node ≡ Some row → HasDisk row → but node ⊎ HadDisk s node

module _ (s now : State) where
  pub rows_same : now.table.nodes ≡ s.table.nodes → RowsBut Nothing s now
  rows_same e node row found disk =
      inr (record { row = row; found = subst (λ rows. find (λ r. r.id == node) rows ≡ Some row) e found; disk = disk })

  pub rows_pushed : (new : NodeRecord) → now.table.nodes ≡ s.table.nodes ++ new ∷ [] → RowsBut (λ node. node ≡ new.id) s now
  rows_pushed new e node row found disk =
      let pushed = subst (λ rows. find (λ r. r.id == node) rows ≡ Some row) e found in
      elim (find-push (λ r. r.id == node) s.table.nodes new row pushed) [
        | inl was ↦ inr (record { row = row; found = was; disk = disk })
        | inr is_new ↦ inl (sym (eqb-true new.id node is_new.0))
      ]

  -- a filter says nothing by itself
  pub rows_filter : (new : NodeRecord) → (HasDisk new → ⊥) → now.table.nodes ≡ s.table.nodes ++ new ∷ [] → RowsBut Nothing s now
  rows_filter new none e node row found disk =
      let pushed = subst (λ rows. find (λ r. r.id == node) rows ≡ Some row) e found in
      elim (find-push (λ r. r.id == node) s.table.nodes new row pushed) [
        | inl was ↦ inr (record { row = row; found = was; disk = disk })
        | inr is_new ↦ absurd (none (subst HasDisk is_new.1 disk))
      ]

  -- rows that were changed, and have no flat disk that they hadn't
  pub rows_mapped : (f : NodeRecord → NodeRecord) → ((row : NodeRecord) → (f row).id ≡ row.id)
      → ((row : NodeRecord) → HasDisk (f row) → HasDisk row) → now.table.nodes ≡ map f s.table.nodes → RowsBut Nothing s now
  rows_mapped f same less e node row found disk =
      let mapped = subst (λ rows. find (λ r. r.id == node) rows ≡ Some row) e found in
      let of_old = sym (find-map (λ r. r.id == node) f (λ r. ap (λ id. id == node) (same r)) s.table.nodes) ∙ mapped in
      by_row (find (λ r. r.id == node) s.table.nodes) refl of_old
    where
      by_row : (old : Option NodeRecord) → find (λ r. r.id == node) s.table.nodes ≡ old → option_map f old ≡ Some row
          → ⊥ ⊎ HadDisk s node
      by_row None was k = absurd cc
      by_row (Some r) was k =
          let is : f r ≡ row = cc in
          inr (record { row = r; found = was; disk = less r (subst HasDisk (sym is) disk) })

  pub rows_dropped : (id : ℕ) → now.table.nodes ≡ without_record id s.table.nodes
      → (node : ℕ) (row : NodeRecord) → node_by_id now.table node ≡ Some row → HasDisk row → (node ≢ id) × HadDisk s node
  rows_dropped id e node row found disk =
      let kept = subst (λ rows. find (λ r. r.id == node) rows ≡ Some row) e found in
      let passed = find-Some (λ r. r.id == node) (without_record id s.table.nodes) row kept in
      let stays = Contains-filter (λ r. not (r.id == id)) s.table.nodes row passed.0 in
      let is : row.id ≡ node = eqb-true row.id node passed.1 in
      let other : node ≢ id = λ same. gone (row.id == id) (eq-eqb row.id id (is ∙ same)) stays.1 in
      let keeps : (r : NodeRecord) → (r.id == node) ≡ true → not (r.id == id) ≡ true =
      λ r t. ap not (ne_eqb r.id id (λ same. other (sym (eqb-true r.id node t) ∙ same))) in
      (other, record { row = row; found = sym (find-filter (λ r. r.id == node) (λ r. not (r.id == id)) keeps s.table.nodes) ∙ kept; disk = disk })
    where
      gone : (b : Bool) → b ≡ true → not b ≡ true → ⊥
      gone true e k = cc
      gone false e k = cc

-- rows that lose their disks, or become writable
pub less_unsettled : (id : ℕ) (row : NodeRecord) → HasDisk (node_changed id unsettled row) → HasDisk row
less_unsettled id row = by_test (row.id == id)
  where
    by_test : (b : Bool) → HasDisk (cond b (unsettled row) row) → HasDisk row
    by_test true h = absurd (let lost = h.settled in cc)
    by_test false h = h

pub same_unsettled : (id : ℕ) (row : NodeRecord) → (node_changed id unsettled row).id ≡ row.id
same_unsettled id row = by_test (row.id == id)
  where
    by_test : (b : Bool) → (cond b (unsettled row) row).id ≡ row.id
    by_test true = refl
    by_test false = refl

pub less_writable : (id : ℕ) (row : NodeRecord) → HasDisk (node_changed id writable row) → HasDisk row
less_writable id row = by_test (row.id == id)
  where
    by_test : (b : Bool) → HasDisk (cond b (writable row) row) → HasDisk row
    by_test true h = record { settled = h.settled; own = h.own }
    by_test false h = h

pub same_writable : (id : ℕ) (row : NodeRecord) → (node_changed id writable row).id ≡ row.id
same_writable id row = by_test (row.id == id)
  where
    by_test : (b : Bool) → (cond b (writable row) row).id ≡ row.id
    by_test true = refl
    by_test false = refl

pub less_read_only : (id : ℕ) (row : NodeRecord) → HasDisk (node_changed id kept_from_writes row) → HasDisk row
less_read_only id row = by_test (row.id == id)
  where
    by_test : (b : Bool) → HasDisk (cond b (kept_from_writes row) row) → HasDisk row
    by_test true h = record { settled = h.settled; own = h.own }
    by_test false h = h

pub same_read_only : (id : ℕ) (row : NodeRecord) → (node_changed id kept_from_writes row).id ≡ row.id
same_read_only id row = by_test (row.id == id)
  where
    by_test : (b : Bool) → (cond b (kept_from_writes row) row).id ≡ row.id
    by_test true = refl
    by_test false = refl

same_settled : (id : ℕ) (row : NodeRecord) → (node_changed id settled row).id ≡ row.id
same_settled id row = by_test (row.id == id)
  where
    by_test : (b : Bool) → (cond b (settled row) row).id ≡ row.id
    by_test true = refl
    by_test false = refl

-- all rows but one are as they were
pub rows_settled : (s now : State) (id : ℕ) → now.table.nodes ≡ with_settled id s.table.nodes → RowsBut (λ node. node ≡ id) s now
rows_settled s now id e node row found disk = elim (cases_eq node id) [
  | inl same ↦ inl same
  | inr other ↦ inr (by_row other (find (λ r. r.id == node) s.table.nodes) refl of_old)
]
  where
    of_old : option_map (node_changed id settled) (find (λ r. r.id == node) s.table.nodes) ≡ Some row
    of_old = sym (find-map (λ r. r.id == node) (node_changed id settled) (λ r. ap (λ k. k == node) (same_settled id r)) s.table.nodes)
        ∙ subst (λ rows. find (λ r. r.id == node) rows ≡ Some row) e found

    by_test : (r : NodeRecord) → (r.id == id) ≡ false → node_changed id settled r ≡ row → r ≡ row
    by_test r t is = sym (rw t refl) ∙ is

    by_row : node ≢ id → (was : Option NodeRecord) → find (λ r. r.id == node) s.table.nodes ≡ was
        → option_map (node_changed id settled) was ≡ Some row → HadDisk s node
    by_row other None was k = absurd cc
    by_row other (Some r) was k =
        let id_is : r.id ≡ node = eqb-true r.id node (find-Some (λ x. x.id == node) s.table.nodes r was).1 in
        let same : r ≡ row = by_test r (ne_eqb r.id id (λ is. other (sym id_is ∙ is))) cc in
        record { row = r; found = was; disk = subst HasDisk (sym same) disk }

-- ---- disks

module _ (s now : State) (old new : Contents) where
  pub disks_kept : RowsBut Nothing s now → now.disks ≡ s.disks → ReadSame Nothing old new → ReadAsDisks s old → ReadAsDisks now new
  disks_kept rows same reads before node row found disk = elim (rows node row found disk) [
    | inl never ↦ absurd never
    | inr had ↦ rw same (reads node (λ never. never) ∙ before node had.row had.found had.disk)
  ]

  -- one node may read otherwise: it has no flat disk
  pub disks_but : (but : ℕ → Type 0) → RowsBut Nothing s now
      → ((node : ℕ) (row : NodeRecord) → node_by_id now.table node ≡ Some row → HasDisk row → but node → ⊥)
      → now.disks ≡ s.disks → ReadSame but old new → ReadAsDisks s old → ReadAsDisks now new
  disks_but but rows none same reads before node row found disk = elim (rows node row found disk) [
    | inl never ↦ absurd never
    | inr had ↦ rw same (reads node (none node row found disk) ∙ before node had.row had.found had.disk)
  ]

  pub disks_put : (id : ℕ) (bytes : List ℕ) → RowsBut (λ node. node ≡ id) s now → now.disks ≡ with_bytes_of id bytes s.disks
      → ReadSame (λ node. node ≡ id) old new → new.reads id ≡ bytes → ReadAsDisks s old → ReadAsDisks now new
  disks_put id bytes rows put reads is before node row found disk = rw put (by_node (cases_eq node id))
    where
      by_node : ((node ≡ id) ⊎ (node ≢ id)) → new.reads node ≡ bytes_in (with_bytes_of id bytes s.disks) node
      by_node (inl same) = rw same (is ∙ sym (bytes_in-put id bytes s.disks))
      by_node (inr other) = elim (rows node row found disk) [
        | inl same ↦ absurd (other same)
        | inr had ↦ reads node other ∙ before node had.row had.found had.disk ∙ sym (bytes_in-put_other id node bytes s.disks other)
      ]

  pub disks_dropped : (id : ℕ)
      → ((node : ℕ) (row : NodeRecord) → node_by_id now.table node ≡ Some row → HasDisk row → (node ≢ id) × HadDisk s node)
      → now.disks ≡ filter (λ d. not (d.node == id)) s.disks
      → ReadSame (λ node. node ≡ id) old new → ReadAsDisks s old → ReadAsDisks now new
  disks_dropped id rows dropped reads before node row found disk =
      let had = rows node row found disk in
      rw dropped (reads node had.0 ∙ before node had.1.row had.1.found had.1.disk ∙ sym (bytes_in-drop id node s.disks had.0))

  -- ---- files

  pub known_kept : now.files ≡ s.files → HeldSame Nothing old new → AreAsKnown s old → AreAsKnown now new
  known_kept same held before name content found =
      subst (λ bytes. IsAsKnown content bytes) (sym (held name (λ never. never)))
      (before name content (subst (λ files. content_in files name ≡ Some content) same found))

  pub known_put : (name : List ℕ) (content : Content) → now.files ≡ with_content name content s.files
      → IsAsKnown content (new.held name) → HeldSame (λ other. other ≡ name) old new → AreAsKnown s old → AreAsKnown now new
  known_put name content put is held before other what found = by_name (cases_name other name)
    where
      here : content_in (with_content name content s.files) other ≡ Some what
      here = subst (λ files. content_in files other ≡ Some what) put found

      by_name : ((other ≡ name) ⊎ (other ≢ name)) → IsAsKnown what (new.held other)
      by_name (inl same) =
          let at_name = subst (λ n. content_in (with_content name content s.files) n ≡ Some what) same here in
          let found_new = content_in-with name content s.files in
          let is_content : content ≡ what = cc in
          subst (λ n. IsAsKnown what (new.held n)) (sym same) (subst (λ c. IsAsKnown c (new.held name)) is_content is)
      by_name (inr differ) =
          subst (λ bytes. IsAsKnown what bytes) (sym (held other differ))
          (before other what (sym (content_in-with_other name other content s.files differ) ∙ here))

  pub absent_kept : now.files ≡ s.files → HeldSame Nothing old new → AreAbsent s old → AreAbsent now new
  absent_kept same held before name found =
      held name (λ never. never) ∙ before name (subst (λ files. content_in files name ≡ None) same found)

  pub absent_put : (name : List ℕ) (content : Content) → now.files ≡ with_content name content s.files
      → HeldSame (λ other. other ≡ name) old new → AreAbsent s old → AreAbsent now new
  absent_put name content put held before other found = by_name (cases_name other name)
    where
      here : content_in (with_content name content s.files) other ≡ None
      here = subst (λ files. content_in files other ≡ None) put found

      by_name : ((other ≡ name) ⊎ (other ≢ name)) → new.held other ≡ None
      by_name (inl same) =
          let at_name = subst (λ n. content_in (with_content name content s.files) n ≡ None) same here in
          let found_new = content_in-with name content s.files in
          absurd cc
      by_name (inr differ) =
          held other differ ∙ before other (sym (content_in-with_other name other content s.files differ) ∙ here)

  pub unchanged_kept : (opening : List ℕ → Option (List ℕ)) → now.named ≡ s.named → HeldSame Nothing old new
      → AreUnchanged opening s old → AreUnchanged opening now new
  unchanged_kept opening same held before name not_named =
      held name (λ never. never) ∙ before name (subst (λ names. has_name name names ≡ false) same not_named)

  pub unchanged_named : (opening : List ℕ → Option (List ℕ)) (name : List ℕ) → now.named ≡ s.named ++ name ∷ []
      → HeldSame (λ other. other ≡ name) old new → AreUnchanged opening s old → AreUnchanged opening now new
  unchanged_named opening name named held before other not_named =
      let parts = has_name-push name other s.named (subst (λ names. has_name other names ≡ false) named not_named) in
      held other parts.1 ∙ before other parts.0

  -- ---- left disks

  -- a left disk whose file stays
  as_before : (l : Left) → IsLeftAs old l → new.held l.file ≡ old.held l.file → IsLeftAs new l
  as_before l h same = subst (λ bytes. With bytes (IsDiskIn l.kind l.offset l.bytes)) (sym same) h

  pub left_kept : now.left ≡ s.left → HeldSame Nothing old new → All (IsLeftAs old) s.left → All (IsLeftAs new) now.left
  left_kept same held before = subst (λ left. All (IsLeftAs new) left) (sym same)
      (All-weaker (IsLeftAs old) (IsLeftAs new) (λ l h. as_before l h (held l.file (λ never. never))) s.left before)

  pub left_forgot : (name : List ℕ) → now.left ≡ filter (λ l. not (bytes_eq l.file name)) s.left
      → HeldSame (λ other. other ≡ name) old new → All (IsLeftAs old) s.left → All (IsLeftAs new) now.left
  left_forgot name forgot held before = subst (λ left. All (IsLeftAs new) left) (sym forgot) (walk s.left before)
    where
      walk : (left : List Left) → All (IsLeftAs old) left → All (IsLeftAs new) (filter (λ l. not (bytes_eq l.file name)) left)
      walk [] h = All-nil (IsLeftAs new)
      walk (l ∷ left) h = by_test (bytes_eq l.file name) refl
          (walk left (All-tail (IsLeftAs old) l left h))
        where
          by_test : (b : Bool) → bytes_eq l.file name ≡ b
              → All (IsLeftAs new) (filter (λ l. not (bytes_eq l.file name)) left)
              → All (IsLeftAs new) (cond (not b) (l ∷ filter (λ l. not (bytes_eq l.file name)) left) (filter (λ l. not (bytes_eq l.file name)) left))
          by_test true e rest = rest
          by_test false e rest = All-cons (IsLeftAs new) l _
              (as_before l (All-head (IsLeftAs old) l left h) (held l.file (name_differs l.file name e))) rest
