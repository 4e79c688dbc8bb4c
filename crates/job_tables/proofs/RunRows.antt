-- Which nodes have flat disks, may be written, and stand for used files, behind a change, by the rows before.
use Rattle.std.proofs.Common.{◌≡◌, ◌≢◌, ℕ, List, [], ◌∷◌, ◌++◌, map, refl, sym, ◌∙◌, ap, subst, inl, inr, Bool, true, false, cond, Option, Some, None, option_map}
use Rattle.std.specs.Prelude.{◌==◌, not, bytes_eq}
use Rattle.std.specs.List.{find, Contains}
use Rattle.std.proofs.lemmas.Bool.{ne_eqb}
use Rattle.blk_graph.proofs.Members.{Contains-filter, Contains-map}
use Rattle.qmp_rules.specs.declared.change.Change.{Change}
use Rattle.qmp_rules.specs.declared.change.Change.TheVariants as change
use Rattle.qmp_rules.specs.declared.rows.NodeRecord.{NodeRecord}
use Rattle.qmp_rules.specs.declared.rows.FileState.TheVariants.{Made, Formatted, Used}
use Rattle.qmp_rules.specs.Changes.{changed, node_changed, unsettled, writable, settled, kept_from_writes, stands_over, lost_with}
use Rattle.qmp_rules.specs.Table.{RunTable, file_state, with_file}
use Rattle.flat_machine.proofs.Finds.{bytes_eq-other, cases_name}
use Rattle.flat_machine.proofs.Rows.{kept_unsettled}
use Rattle.flat_machine.proofs.Tables.{pushed-cases, file_state-with, file_state-other}
use Rattle.job_tables.specs.Running.{IsAt, IsSettledAt, IsUnsettledAt, IsWritableAt, HasUsedFile, IsWrittenAt}

-- ---- rows

-- what a change makes of a row that stays
abbrev pub row_by : Change → NodeRecord → NodeRecord
row_by (change.FormatFile node name size backing_file backing_fmt) row = node_changed node unsettled row
row_by (change.SpoilFile name) row = lost_with name row
row_by (change.AddFormat new file backing) row = node_changed file unsettled row
row_by (change.Unsettle node) row = node_changed node unsettled row
row_by (change.MakeWritable node) row = node_changed node writable row
row_by (change.Settle node disk) row = node_changed node settled row
row_by (change.MakeReadOnly node) row = node_changed node kept_from_writes row
row_by c row = row

-- the row that it adds has another id
abbrev pub IsNotNew : Change → ℕ → Type 0
IsNotNew (change.AddFile new) id = new.id ≢ id
IsNotNew (change.AddFormat new file backing) id = new.id ≢ id
IsNotNew (change.AddFilter new child) id = new.id ≢ id
IsNotNew (change.PutFilter new node) id = new.id ≢ id
IsNotNew c id = Unit {0}

pub record WasRow (t : RunTable) (c : Change) (later : NodeRecord) : Type 0 where
  pub row : NodeRecord
  pub there : Contains t.nodes row
  pub is : later ≡ row_by c row

pushed_row : (rows : List NodeRecord) (new later : NodeRecord) → new.id ≢ later.id → Contains (rows ++ new ∷ []) later → Contains rows later
pushed_row rows new later apart there = elim (pushed-cases rows new later there) [
  | inl old ↦ old
  | inr is ↦ absurd (apart (ap (λ (r : NodeRecord). r.id) (sym is)))
]

pub was_row : (t : RunTable) (c : Change) (later : NodeRecord) → IsNotNew c later.id → Contains (changed t c).nodes later → WasRow t c later
unfolding changed
was_row t (change.FormatFile node name size backing_file backing_fmt) later apart there =
    let r = Contains-map (node_changed node unsettled) t.nodes later there in
    record { row = r.0; there = r.1; is = r.2 }
was_row t (change.SpoilFile name) later apart there =
    let r = Contains-map (lost_with name) t.nodes later there in
    record { row = r.0; there = r.1; is = r.2 }
was_row t (change.AddFile new) later apart there = record { row = later; there = pushed_row t.nodes new later apart there; is = refl }
was_row t (change.AddFormat new file backing) later apart there = elim (pushed-cases (map (node_changed file unsettled) t.nodes) new later there) [
  | inl old ↦
      let r = Contains-map (node_changed file unsettled) t.nodes later old in
      record { row = r.0; there = r.1; is = r.2 }
  | inr is ↦ absurd (apart (ap (λ (r : NodeRecord). r.id) (sym is)))
]
was_row t (change.AddFilter new child) later apart there = record { row = later; there = pushed_row t.nodes new later apart there; is = refl }
was_row t (change.RemoveNode node) later apart there =
    record { row = later; there = (Contains-filter (λ (r : NodeRecord). not (r.id == node)) t.nodes later there).0; is = refl }
was_row t (change.Unsettle node) later apart there =
    let r = Contains-map (node_changed node unsettled) t.nodes later there in
    record { row = r.0; there = r.1; is = r.2 }
was_row t (change.MakeWritable node) later apart there =
    let r = Contains-map (node_changed node writable) t.nodes later there in
    record { row = r.0; there = r.1; is = r.2 }
was_row t (change.PutFilter new node) later apart there = record { row = later; there = pushed_row t.nodes new later apart there; is = refl }
was_row t (change.PullFilter filter) later apart there =
    record { row = later; there = (Contains-filter (λ (r : NodeRecord). not (r.id == filter)) t.nodes later there).0; is = refl }
was_row t (change.Settle node disk) later apart there =
    let r = Contains-map (node_changed node settled) t.nodes later there in
    record { row = r.0; there = r.1; is = r.2 }
was_row t (change.MakeReadOnly node) later apart there =
    let r = Contains-map (node_changed node kept_from_writes) t.nodes later there in
    record { row = r.0; there = r.1; is = r.2 }
was_row t c later apart there = record { row = later; there = there; is = refl }

-- what a row that stays keeps
record KeepsIdAndFile (row later : NodeRecord) : Type 0 where
  id : later.id ≡ row.id
  filename : later.filename ≡ row.filename

keeps_changed : (node : ℕ) (f : NodeRecord → NodeRecord) (row : NodeRecord) → KeepsIdAndFile row (f row) → KeepsIdAndFile row (node_changed node f row)
keeps_changed node f row keeps = by_test (row.id == node)
  where
    by_test : (b : Bool) → KeepsIdAndFile row (cond b (f row) row)
    by_test true = keeps
    by_test false = record { id = refl; filename = refl }

keeps_lost : (name : List ℕ) (row : NodeRecord) → KeepsIdAndFile row (lost_with name row)
keeps_lost name row = by_test (stands_over name row.filename)
  where
    by_test : (b : Bool) → KeepsIdAndFile row (cond b (unsettled row) row)
    by_test true = record { id = refl; filename = refl }
    by_test false = record { id = refl; filename = refl }

keeps_by : (c : Change) (row : NodeRecord) → KeepsIdAndFile row (row_by c row)
keeps_by (change.FormatFile node name size backing_file backing_fmt) row = keeps_changed node unsettled row (record { id = refl; filename = refl })
keeps_by (change.SpoilFile name) row = keeps_lost name row
keeps_by (change.AddFormat new file backing) row = keeps_changed file unsettled row (record { id = refl; filename = refl })
keeps_by (change.Unsettle node) row = keeps_changed node unsettled row (record { id = refl; filename = refl })
keeps_by (change.MakeWritable node) row = keeps_changed node writable row (record { id = refl; filename = refl })
keeps_by (change.Settle node disk) row = keeps_changed node settled row (record { id = refl; filename = refl })
keeps_by (change.MakeReadOnly node) row = keeps_changed node kept_from_writes row (record { id = refl; filename = refl })
keeps_by c row = record { id = refl; filename = refl }

pub id_by : (c : Change) (row : NodeRecord) → (row_by c row).id ≡ row.id
id_by c row = (keeps_by c row).id

pub file_by : (c : Change) (row : NodeRecord) → (row_by c row).filename ≡ row.filename
file_by c row = (keeps_by c row).filename

pub at_by : (t : RunTable) (c : Change) (id : ℕ) (P Q : NodeRecord → Type 0) → IsNotNew c id
    → ((row : NodeRecord) → Contains t.nodes row → row.id ≡ id → P row → Q (row_by c row)) → IsAt t id P → IsAt (changed t c) id Q
at_by t c id P Q apart step h later there is =
    let w = was_row t c later (subst (IsNotNew c) (sym is) apart) there in
    let at : w.row.id ≡ id = sym (id_by c w.row) ∙ ap (λ (r : NodeRecord). r.id) (sym w.is) ∙ is in
    subst Q (sym w.is) (step w.row w.there at (h w.row w.there at))

-- ---- flat disks

-- the node stands for no such file
abbrev pub IsNoFileOf : RunTable → ℕ → List ℕ → Type 0
IsNoFileOf t id name = IsAt t id (λ node. node.filename ≢ Some name)

abbrev pub KeepsSettled : RunTable → Change → ℕ → Type 0
KeepsSettled t (change.FormatFile node name size backing_file backing_fmt) id = node ≢ id
KeepsSettled t (change.SpoilFile name) id = IsNoFileOf t id name
KeepsSettled t (change.AddFile new) id = new.id ≢ id
KeepsSettled t (change.AddFormat new file backing) id = (new.id ≢ id) × (file ≢ id)
KeepsSettled t (change.AddFilter new child) id = new.id ≢ id
KeepsSettled t (change.Unsettle node) id = node ≢ id
KeepsSettled t (change.PutFilter new node) id = new.id ≢ id
KeepsSettled t c id = Unit {0}

abbrev IsSettled : NodeRecord → Type 0
IsSettled row = row.is_settled ≡ true

lost_other : (name : List ℕ) (row : NodeRecord) → row.filename ≢ Some name → lost_with name row ≡ row
lost_other name row differ =
    let none : stands_over name row.filename ≡ false = by_name row.filename refl in
    rw none refl
  where
    by_name : (filename : Option (List ℕ)) → row.filename ≡ filename → stands_over name filename ≡ false
    by_name None is = refl
    by_name (Some other) is = bytes_eq-other other name (λ same. differ (is ∙ ap Some same))

still_settled : (node id : ℕ) (row : NodeRecord) → node ≢ id → row.id ≡ id → IsSettled row → IsSettled (node_changed node unsettled row)
still_settled node id row apart is h = subst IsSettled (sym (kept_unsettled node row (λ same. apart (sym same ∙ is)))) h

pub settled_kept : (t : RunTable) (c : Change) (id : ℕ) → KeepsSettled t c id → IsSettledAt t id → IsSettledAt (changed t c) id
settled_kept t (change.FormatFile node name size backing_file backing_fmt) id apart h =
    at_by t (change.FormatFile node name size backing_file backing_fmt) id IsSettled IsSettled tt (λ row there is settled. still_settled node id row apart is settled) h
settled_kept t (change.SpoilFile name) id apart h =
    at_by t (change.SpoilFile name) id IsSettled IsSettled tt (λ row there is settled. subst IsSettled (sym (lost_other name row (apart row there is))) settled) h
settled_kept t (change.AddFile new) id apart h = at_by t (change.AddFile new) id IsSettled IsSettled apart (λ row there is settled. settled) h
settled_kept t (change.AddFormat new file backing) id apart h =
    at_by t (change.AddFormat new file backing) id IsSettled IsSettled apart.0 (λ row there is settled. still_settled file id row apart.1 is settled) h
settled_kept t (change.AddFilter new child) id apart h = at_by t (change.AddFilter new child) id IsSettled IsSettled apart (λ row there is settled. settled) h
settled_kept t (change.Unsettle node) id apart h =
    at_by t (change.Unsettle node) id IsSettled IsSettled tt (λ row there is settled. still_settled node id row apart is settled) h
settled_kept t (change.PutFilter new node) id apart h = at_by t (change.PutFilter new node) id IsSettled IsSettled apart (λ row there is settled. settled) h
settled_kept t (change.MakeWritable node) id apart h =
    at_by t (change.MakeWritable node) id IsSettled IsSettled tt (λ row there is settled. by_test row (row.id == node) settled) h
  where
    by_test : (row : NodeRecord) (b : Bool) → IsSettled row → IsSettled (cond b (writable row) row)
    by_test row true settled = settled
    by_test row false settled = settled
settled_kept t (change.Settle node disk) id apart h =
    at_by t (change.Settle node disk) id IsSettled IsSettled tt (λ row there is settled_row. by_test row (row.id == node) settled_row) h
  where
    by_test : (row : NodeRecord) (b : Bool) → IsSettled row → IsSettled (cond b (settled row) row)
    by_test row true is = refl
    by_test row false is = is
settled_kept t (change.MakeReadOnly node) id apart h =
    at_by t (change.MakeReadOnly node) id IsSettled IsSettled tt (λ row there is settled. by_test row (row.id == node) settled) h
  where
    by_test : (row : NodeRecord) (b : Bool) → IsSettled row → IsSettled (cond b (kept_from_writes row) row)
    by_test row true settled = settled
    by_test row false settled = settled
settled_kept t c id apart h = at_by t c id IsSettled IsSettled tt (λ row there is settled. settled) h

-- ---- nodes that are written

abbrev pub KeepsWritten : RunTable → Change → ℕ → Type 0
KeepsWritten t (change.MakeFile name size) id = IsNoFileOf t id name
KeepsWritten t (change.FormatFile node name size backing_file backing_fmt) id = IsNoFileOf t id name
KeepsWritten t (change.AddFile new) id = new.id ≢ id
KeepsWritten t (change.AddFormat new file backing) id = new.id ≢ id
KeepsWritten t (change.AddFilter new child) id = new.id ≢ id
KeepsWritten t (change.PutFilter new node) id = new.id ≢ id
KeepsWritten t (change.Settle node disk) id = node ≢ id
KeepsWritten t (change.MakeReadOnly node) id = node ≢ id
KeepsWritten t c id = Unit {0}

pub not_new : (t : RunTable) (c : Change) (id : ℕ) → KeepsWritten t c id → IsNotNew c id
not_new t (change.AddFile new) id h = h
not_new t (change.AddFormat new file backing) id h = h
not_new t (change.AddFilter new child) id h = h
not_new t (change.PutFilter new node) id h = h
not_new t c id h = tt

another : (node : ℕ) (f : NodeRecord → NodeRecord) (row : NodeRecord) (id : ℕ) → node ≢ id → row.id ≡ id → node_changed node f row ≡ row
another node f row id apart is =
    let differ : (row.id == node) ≡ false = ne_eqb row.id node (λ same. apart (sym same ∙ is)) in
    rw differ refl

abbrev IsUnsettled : NodeRecord → Type 0
IsUnsettled row = row.is_settled ≡ false

unsettled_row : (t : RunTable) (c : Change) (id : ℕ) → KeepsWritten t c id → (row : NodeRecord) → row.id ≡ id → IsUnsettled row → IsUnsettled (row_by c row)
unsettled_row t (change.FormatFile node name size backing_file backing_fmt) id k row is h = by_test (row.id == node)
  where
    by_test : (b : Bool) → IsUnsettled (cond b (unsettled row) row)
    by_test true = refl
    by_test false = h
unsettled_row t (change.SpoilFile name) id k row is h = by_test (stands_over name row.filename)
  where
    by_test : (b : Bool) → IsUnsettled (cond b (unsettled row) row)
    by_test true = refl
    by_test false = h
unsettled_row t (change.AddFormat new file backing) id k row is h = by_test (row.id == file)
  where
    by_test : (b : Bool) → IsUnsettled (cond b (unsettled row) row)
    by_test true = refl
    by_test false = h
unsettled_row t (change.Unsettle node) id k row is h = by_test (row.id == node)
  where
    by_test : (b : Bool) → IsUnsettled (cond b (unsettled row) row)
    by_test true = refl
    by_test false = h
unsettled_row t (change.MakeWritable node) id k row is h = by_test (row.id == node)
  where
    by_test : (b : Bool) → IsUnsettled (cond b (writable row) row)
    by_test true = h
    by_test false = h
unsettled_row t (change.Settle node disk) id k row is h = subst IsUnsettled (sym (another node settled row id k is)) h
unsettled_row t (change.MakeReadOnly node) id k row is h = subst IsUnsettled (sym (another node kept_from_writes row id k is)) h
unsettled_row t c id k row is h = h

pub unsettled_kept : (t : RunTable) (c : Change) (id : ℕ) → KeepsWritten t c id → IsUnsettledAt t id → IsUnsettledAt (changed t c) id
unsettled_kept t c id k h = at_by t c id IsUnsettled IsUnsettled (not_new t c id k) (λ row there is u. unsettled_row t c id k row is u) h

abbrev IsWritable : NodeRecord → Type 0
IsWritable row = row.read_only ≡ false

writable_row : (t : RunTable) (c : Change) (id : ℕ) → KeepsWritten t c id → (row : NodeRecord) → row.id ≡ id → IsWritable row → IsWritable (row_by c row)
writable_row t (change.FormatFile node name size backing_file backing_fmt) id k row is h = by_test (row.id == node)
  where
    by_test : (b : Bool) → IsWritable (cond b (unsettled row) row)
    by_test true = h
    by_test false = h
writable_row t (change.SpoilFile name) id k row is h = by_test (stands_over name row.filename)
  where
    by_test : (b : Bool) → IsWritable (cond b (unsettled row) row)
    by_test true = h
    by_test false = h
writable_row t (change.AddFormat new file backing) id k row is h = by_test (row.id == file)
  where
    by_test : (b : Bool) → IsWritable (cond b (unsettled row) row)
    by_test true = h
    by_test false = h
writable_row t (change.Unsettle node) id k row is h = by_test (row.id == node)
  where
    by_test : (b : Bool) → IsWritable (cond b (unsettled row) row)
    by_test true = h
    by_test false = h
writable_row t (change.MakeWritable node) id k row is h = by_test (row.id == node)
  where
    by_test : (b : Bool) → IsWritable (cond b (writable row) row)
    by_test true = refl
    by_test false = h
writable_row t (change.Settle node disk) id k row is h = subst IsWritable (sym (another node settled row id k is)) h
writable_row t (change.MakeReadOnly node) id k row is h = subst IsWritable (sym (another node kept_from_writes row id k is)) h
writable_row t c id k row is h = h

pub writable_kept : (t : RunTable) (c : Change) (id : ℕ) → KeepsWritten t c id → IsWritableAt t id → IsWritableAt (changed t c) id
writable_kept t c id k h = at_by t c id IsWritable IsWritable (not_new t c id k) (λ row there is w. writable_row t c id k row is w) h

-- ---- files

used_again : (other name : List ℕ) (t : RunTable) → file_state t name ≡ Some Used
    → option_map (λ row. row.state) (find (λ row. bytes_eq row.name name) (with_file other Used t.files)) ≡ Some Used
used_again other name t h = elim (cases_name name other) [
  | inl same ↦
      subst (λ n. option_map (λ row. row.state) (find (λ row. bytes_eq row.name n) (with_file other Used t.files)) ≡ Some Used) (sym same)
      (file_state-with other Used t.files)
  | inr differ ↦ file_state-other other name Used t.files differ ∙ h
]

-- a file that is used stays so
used_still : (t : RunTable) (c : Change) (id : ℕ) → KeepsWritten t c id → (row : NodeRecord) → Contains t.nodes row → row.id ≡ id → (name : List ℕ)
    → row.filename ≡ Some name → file_state t name ≡ Some Used → file_state (changed t c) name ≡ Some Used
unfolding changed
used_still t (change.MakeFile other size) id k row there is name named h =
    file_state-other other name Made t.files (λ same. k row there is (named ∙ ap Some same)) ∙ h
used_still t (change.FormatFile node other size backing_file backing_fmt) id k row there is name named h =
    file_state-other other name Formatted t.files (λ same. k row there is (named ∙ ap Some same)) ∙ h
used_still t (change.SpoilFile other) id k row there is name named h = used_again other name t h
used_still t (change.UseFile other) id k row there is name named h = used_again other name t h
used_still t c id k row there is name named h = h

pub used_kept : (t : RunTable) (c : Change) (id : ℕ) → KeepsWritten t c id → HasUsedFile t id → HasUsedFile (changed t c) id
used_kept t c id k h later there is name named =
    let w = was_row t c later (subst (IsNotNew c) (sym is) (not_new t c id k)) there in
    let at : w.row.id ≡ id = sym (id_by c w.row) ∙ ap (λ (r : NodeRecord). r.id) (sym w.is) ∙ is in
    let of : w.row.filename ≡ Some name = sym (file_by c w.row) ∙ ap (λ (r : NodeRecord). r.filename) (sym w.is) ∙ named in
    used_still t c id k w.row w.there at name of (h w.row w.there at name of)

pub written_kept : (t : RunTable) (c : Change) (id : ℕ) → KeepsWritten t c id → IsWrittenAt t id → IsWrittenAt (changed t c) id
written_kept t c id k h = record {
  writable = writable_kept t c id k h.writable;
  unsettled = unsettled_kept t c id k h.unsettled;
  used = used_kept t c id k h.used;
}
