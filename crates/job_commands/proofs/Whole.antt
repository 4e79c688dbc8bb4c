-- The flat machine's disks stay as long as the rows of their nodes say, behind each kind of change.
use Rattle.std.proofs.Common.{◌≡◌, ◌≢◌, ◌⊎◌, ℕ, Bool, true, false, cond, List, [], ◌∷◌, ◌++◌, map, length, refl, sym, ap, ◌∙◌, subst, inl, inr, Option, Some, None}
use Rattle.std.specs.Prelude.{◌==◌, not, IsSome, option_and_then}
use Rattle.std.specs.Option.{option_map}
use Rattle.std.specs.List.{find, filter}
use Rattle.std.proofs.lemmas.Bool.{false≢true, eqb-true, eq-eqb, cases_eq}
use Rattle.blk_graph.specs.declared.kind.Kind.{Kind}
use Rattle.blk_graph.specs.declared.kind.Kind.TheVariants as driver
use Rattle.blk_graph.proofs.Members.{Contains-filter, find-Some}
use Rattle.blk_history.specs.Fold.{With}
use Rattle.q2_format.proofs.ByPlace.{length-bytes_at}
use Rattle.qmp_rules.specs.declared.change.Change.{Change}
use Rattle.qmp_rules.specs.declared.change.Change.TheVariants as change
use Rattle.qmp_rules.specs.declared.rows.NodeRecord.{NodeRecord}
use Rattle.qmp_rules.specs.Asks.{name_of_file}
use Rattle.qmp_rules.specs.Chains.{filter_role}
use Rattle.qmp_rules.specs.Changes.{changed, node_changed, unsettled, with_unsettled, writable, settled, kept_from_writes, lost_with, stands_over}
use Rattle.qmp_rules.specs.Table.{RunTable, node_by_id}
use Rattle.flat_machine.specs.Agreement.{Contents, ReadAsDisks}
use Rattle.flat_machine.specs.Changed.{put, name_file, name_if, know_if, note_image, leave, left_disk, content_under, bytes_by_format, new_bytes, overlay_file, beside, stepped, all_stepped}
use Rattle.flat_machine.specs.Contents.{file_bytes, mapped_in}
use Rattle.flat_machine.specs.Performing.{IsWholly, Can, AllCan}
use Rattle.flat_machine.specs.State.{State, Content, Unknown, Mapped, Left, bytes_in, content_in, filename_of}
use Rattle.flat_machine.proofs.Finds.{find-push, find-map, bytes_in-put, bytes_in-put_other, bytes_in-drop}
use Rattle.job_tables.proofs.NodeKinds.{still_found}
use Rattle.job_commands.specs.Whole.{HaveRowSizes, DisksAreWhole}
use Rattle.job_commands.proofs.Sizes.{KeepsKindAndSize, keeps_where, keeps_unsettled, keeps_writable, keeps_settled, keeps_read_only}

-- ---- each row was there, or is new

pub record WasAt (t : RunTable) (node : ℕ) (later : NodeRecord) : Type 0 where
  pub row : NodeRecord
  pub found : node_by_id t node ≡ Some row
  pub kind : later.kind ≡ row.kind
  pub size : later.size ≡ row.size

was_itself : (t : RunTable) (node : ℕ) (row : NodeRecord) → node_by_id t node ≡ Some row → WasAt t node row
was_itself t node row found = record { row = row; found = found; kind = refl; size = refl }

pub was_mapped : (t now : RunTable) (f : NodeRecord → NodeRecord) → ((row : NodeRecord) → KeepsKindAndSize f row) → now.nodes ≡ map f t.nodes → (node : ℕ) (later : NodeRecord)
    → node_by_id now node ≡ Some later → WasAt t node later
was_mapped t now f keeps nodes node later found = by_row (node_by_id t node) refl (sym at ∙ found)
  where
    at : node_by_id now node ≡ option_map f (node_by_id t node)
    at =
        ap (find (λ (r : NodeRecord). r.id == node)) nodes
        ∙ find-map (λ (r : NodeRecord). r.id == node) f (λ r. ap (λ k. k == node) (keeps r).id) t.nodes

    by_row : (row : Option NodeRecord) → node_by_id t node ≡ row → option_map f row ≡ Some later → WasAt t node later
    by_row None e is = absurd cc
    by_row (Some row) e is =
        let same : f row ≡ later = (let both : Some (f row) ≡ Some later = is in cc both) in
        record {
          row = row;
          found = e;
          kind = ap (λ (r : NodeRecord). r.kind) (sym same) ∙ (keeps row).kind;
          size = ap (λ (r : NodeRecord). r.size) (sym same) ∙ (keeps row).size;
        }

record IsNewAt (new : NodeRecord) (node : ℕ) (later : NodeRecord) : Type 0 where
  id : new.id ≡ node
  is : later ≡ new

abbrev Brings : Change → ℕ → NodeRecord → Type 0
Brings (change.AddFile row) node later = IsNewAt row node later
Brings (change.AddFormat row file backing) node later = IsNewAt row node later
Brings (change.AddFilter row child) node later = IsNewAt row node later
Brings (change.PutFilter row over) node later = IsNewAt row node later
Brings c node later = ⊥

was_pushed : (t now : RunTable) (new : NodeRecord) → now.nodes ≡ t.nodes ++ new ∷ [] → (node : ℕ) (later : NodeRecord) → node_by_id now node ≡ Some later
    → WasAt t node later ⊎ IsNewAt new node later
was_pushed t now new nodes node later found =
    elim (find-push (λ (r : NodeRecord). r.id == node) t.nodes new later (sym (ap (find (λ (r : NodeRecord). r.id == node)) nodes) ∙ found)) [
      | inl old ↦ inl (was_itself t node later old)
      | inr is ↦ inr (record { id = eqb-true new.id node is.0; is = is.1 })
    ]

-- of a node that goes none is left
left_other : (t : RunTable) (gone node : ℕ) (later : NodeRecord) → find (λ (r : NodeRecord). r.id == node) (filter (λ (r : NodeRecord). not (r.id == gone)) t.nodes) ≡ Some later
    → node ≢ gone
left_other t gone node later found same =
    let at = find-Some (λ (r : NodeRecord). r.id == node) (filter (λ (r : NodeRecord). not (r.id == gone)) t.nodes) later found in
    let kept = (Contains-filter (λ (r : NodeRecord). not (r.id == gone)) t.nodes later at.0).1 in
    false≢true (sym (ap not (eq-eqb later.id gone (eqb-true later.id node at.1 ∙ same))) ∙ kept)

removed_other : (t : RunTable) (gone node : ℕ) (later : NodeRecord) → node_by_id (changed t (change.RemoveNode gone)) node ≡ Some later → node ≢ gone
unfolding changed
removed_other t gone node later found = left_other t gone node later found

module _ (t : RunTable) (node : ℕ) (later : NodeRecord) where
  mapped_at : (c : Change) (f : NodeRecord → NodeRecord) → ((row : NodeRecord) → KeepsKindAndSize f row) → (changed t c).nodes ≡ map f t.nodes
      → node_by_id (changed t c) node ≡ Some later → WasAt t node later ⊎ Brings c node later
  mapped_at c f keeps nodes found = inl (was_mapped t (changed t c) f keeps nodes node later found)

  was_there : (c : Change) → node_by_id (changed t c) node ≡ Some later → WasAt t node later ⊎ Brings c node later
  unfolding changed
  was_there (change.FormatFile id name size backing_file backing_fmt) found =
      mapped_at (change.FormatFile id name size backing_file backing_fmt) (node_changed id unsettled) (keeps_where (λ r. r.id == id) unsettled keeps_unsettled) refl found
  was_there (change.SpoilFile name) found =
      mapped_at (change.SpoilFile name) (lost_with name) (keeps_where (λ r. stands_over name r.filename) unsettled keeps_unsettled) refl found
  was_there (change.AddFile row) found = was_pushed t (changed t (change.AddFile row)) row refl node later found
  was_there (change.AddFormat row file backing) found =
      let between : RunTable = record t { nodes = with_unsettled file t.nodes } in
      elim (was_pushed between (changed t (change.AddFormat row file backing)) row refl node later found) [
        | inr new ↦ inr new
        | inl w ↦
            let v = was_mapped t between (node_changed file unsettled) (keeps_where (λ r. r.id == file) unsettled keeps_unsettled) refl node w.row w.found in
            inl (record { row = v.row; found = v.found; kind = w.kind ∙ v.kind; size = w.size ∙ v.size })
      ]
  was_there (change.AddFilter row child) found = was_pushed t (changed t (change.AddFilter row child)) row refl node later found
  was_there (change.PutFilter row over) found = was_pushed t (changed t (change.PutFilter row over)) row refl node later found
  was_there (change.RemoveNode gone) found = inl (was_itself t node later (sym (still_found t gone node (left_other t gone node later found)) ∙ found))
  was_there (change.PullFilter gone) found = inl (was_itself t node later (sym (still_found t gone node (left_other t gone node later found)) ∙ found))
  was_there (change.Unsettle id) found = mapped_at (change.Unsettle id) (node_changed id unsettled) (keeps_where (λ r. r.id == id) unsettled keeps_unsettled) refl found
  was_there (change.MakeWritable id) found = mapped_at (change.MakeWritable id) (node_changed id writable) (keeps_where (λ r. r.id == id) writable keeps_writable) refl found
  was_there (change.Settle id disk) found = mapped_at (change.Settle id disk) (node_changed id settled) (keeps_where (λ r. r.id == id) settled keeps_settled) refl found
  was_there (change.MakeReadOnly id) found =
      mapped_at (change.MakeReadOnly id) (node_changed id kept_from_writes) (keeps_where (λ r. r.id == id) kept_from_writes keeps_read_only) refl found
  was_there c found = inl (was_itself t node later found)

-- ---- bytes

named_disks : (name : Option (List ℕ)) (s : State) → (name_if name s).disks ≡ s.disks
named_disks None s = refl
named_disks (Some name) s = refl

known_disks : (name : Option (List ℕ)) (content : Content) (s : State) → (know_if name content s).disks ≡ s.disks
known_disks None content s = refl
known_disks (Some name) content s = refl

imaged_disks : (kind : Kind) (node : ℕ) (mapped : Mapped) (s : State) → (note_image kind node mapped s).disks ≡ s.disks
imaged_disks driver.Qcow2 node mapped s = refl
imaged_disks driver.Protocol node mapped s = refl
imaged_disks driver.Raw node mapped s = refl
imaged_disks driver.CopyOnRead node mapped s = refl
imaged_disks driver.BeforeWrite node mapped s = refl
imaged_disks driver.Mirror node mapped s = refl
imaged_disks driver.Commit node mapped s = refl

left_disks : (left : Option Left) (s : State) → (leave left s).disks ≡ s.disks
left_disks None s = refl
left_disks (Some left) s = refl

-- the bytes that a change puts are another node's
abbrev PutsElsewhere : Change → ℕ → Type 0
PutsElsewhere (change.AddFile row) node = node ≢ row.id
PutsElsewhere (change.AddFormat row file backing) node = node ≢ row.id
PutsElsewhere (change.RemoveNode gone) node = node ≢ gone
PutsElsewhere (change.Attach overlay under) node = node ≢ overlay
PutsElsewhere (change.Settle id disk) node = node ≢ id
PutsElsewhere c node = Unit {0}

module _ (s : State) where
  added_bytes : (row : NodeRecord) (node : ℕ)
      → bytes_in (beside s (change.AddFile row)).disks node ≡ bytes_in (put row.id (file_bytes row.size (content_in s.files (name_of_file row))) s).disks node
  added_bytes row node = by_flag row.read_only
    where
      added : State
      added = put row.id (file_bytes row.size (content_in s.files (name_of_file row))) s

      by_flag : (b : Bool) → bytes_in (cond b added (name_file (name_of_file row) added)).disks node ≡ bytes_in added.disks node
      by_flag true = refl
      by_flag false = refl

  formed_disks : (row : NodeRecord) (file : ℕ) (backing : Option ℕ)
      → (beside s (change.AddFormat row file backing)).disks ≡ (put row.id (bytes_by_format s row file backing row.kind) s).disks
  formed_disks row file backing =
      let added : State = put row.id (bytes_by_format s row file backing row.kind) s in
      known_disks (filename_of s.table file) Unknown (note_image row.kind row.id (mapped_in (content_under s file)) added)
      ∙ imaged_disks row.kind row.id (mapped_in (content_under s file)) added

  bytes_stay : (c : Change) (node : ℕ) → PutsElsewhere c node → bytes_in (stepped s c).disks node ≡ bytes_in s.disks node
  bytes_stay (change.AddFile row) node other = added_bytes row node ∙ bytes_in-put_other row.id node _ s.disks other
  bytes_stay (change.AddFormat row file backing) node other =
      ap (λ ds. bytes_in ds node) (formed_disks row file backing) ∙ bytes_in-put_other row.id node _ s.disks other
  bytes_stay (change.RemoveNode gone) node other =
      bytes_in-drop gone node (leave (option_and_then (left_disk s) (node_by_id s.table gone)) s).disks other
      ∙ ap (λ ds. bytes_in ds node) (left_disks (option_and_then (left_disk s) (node_by_id s.table gone)) s)
  bytes_stay (change.MakeWritable id) node other = ap (λ ds. bytes_in ds node) (named_disks (filename_of s.table id) s)
  bytes_stay (change.StartJob row) node other = ap (λ ds. bytes_in ds node) (named_disks (overlay_file s.table row row.kind) s)
  bytes_stay (change.Attach overlay under) node other = bytes_in-put_other overlay node _ s.disks other
  bytes_stay (change.Settle id disk) node other = bytes_in-put_other id node (new_bytes s disk) s.disks other
  bytes_stay c node other = refl

-- ---- each kind of change

-- all are whole but some of which it is known otherwise
abbrev pub WholeBut : (ℕ → Type 0) → State → Type 0
WholeBut Out s = (node : ℕ) (row : NodeRecord) → node_by_id s.table node ≡ Some row → filter_role row.kind ≡ None → (Out node → ⊥) → length (bytes_in s.disks node) ≡ row.size

abbrev pub FitsDisks : (ℕ → Type 0) → State → Change → Type 0
FitsDisks Out s (change.AddFile row) = (node_by_id s.table row.id ≡ None) × (length (file_bytes row.size (content_in s.files (name_of_file row))) ≡ row.size)
FitsDisks Out s (change.AddFormat row file backing) = (node_by_id s.table row.id ≡ None) × Out row.id
FitsDisks Out s (change.AddFilter row child) = IsSome (filter_role row.kind)
FitsDisks Out s (change.PutFilter row over) = IsSome (filter_role row.kind)
FitsDisks Out s (change.Attach overlay under) = Out overlay
FitsDisks Out s (change.Settle node disk) = (row : NodeRecord) → node_by_id s.table node ≡ Some row → length (new_bytes s disk) ≡ row.size
FitsDisks Out s c = Unit {0}

abbrev pub AllFitDisks : (ℕ → Type 0) → State → List Change → Type 0
AllFitDisks Out s [] = Unit {0}
AllFitDisks Out s (c ∷ changes) = FitsDisks Out s c × AllFitDisks Out (stepped s c) changes

module _ (Out : ℕ → Type 0) (s : State) (whole : WholeBut Out s) (node : ℕ) (later : NodeRecord) (own : filter_role later.kind ≡ None) (kept : Out node → ⊥) where
  -- a node that was there, with the bytes that it had
  old_whole : (c : Change) → PutsElsewhere c node → WasAt s.table node later → length (bytes_in (stepped s c).disks node) ≡ later.size
  old_whole c other w = ap length (bytes_stay s c node other) ∙ whole node w.row w.found (ap filter_role (sym w.kind) ∙ own) kept ∙ sym w.size

  fresh_other : (id : ℕ) → node_by_id s.table id ≡ None → WasAt s.table node later → node ≢ id
  fresh_other id none w same = let bad : None ≡ Some w.row = sym none ∙ ap (node_by_id s.table) (sym same) ∙ w.found in cc bad

  no_filter_comes : (row : NodeRecord) → IsSome (filter_role row.kind) → IsNewAt row node later → ⊥
  no_filter_comes row some new =
      let bad = subst IsSome (ap (λ (r : NodeRecord). filter_role r.kind) (sym new.is) ∙ own) some in cc

  change_whole : (c : Change) → FitsDisks Out s c → node_by_id (changed s.table c) node ≡ Some later → length (bytes_in (stepped s c).disks node) ≡ later.size
  change_whole (change.AddFile row) fits found = elim (was_there s.table node later (change.AddFile row) found) [
    | inl w ↦ old_whole (change.AddFile row) (fresh_other row.id fits.0 w) w
    | inr new ↦
        ap length (added_bytes s row node ∙ ap (bytes_in _) (sym new.id) ∙ bytes_in-put row.id _ s.disks) ∙ fits.1 ∙ ap (λ (r : NodeRecord). r.size) (sym new.is)
  ]
  change_whole (change.AddFormat row file backing) fits found = elim (was_there s.table node later (change.AddFormat row file backing) found) [
    | inl w ↦ old_whole (change.AddFormat row file backing) (fresh_other row.id fits.0 w) w
    | inr new ↦ absurd (kept (subst Out new.id fits.1))
  ]
  change_whole (change.AddFilter row child) fits found = elim (was_there s.table node later (change.AddFilter row child) found) [
    | inl w ↦ old_whole (change.AddFilter row child) tt w
    | inr new ↦ absurd (no_filter_comes row fits new)
  ]
  change_whole (change.PutFilter row over) fits found = elim (was_there s.table node later (change.PutFilter row over) found) [
    | inl w ↦ old_whole (change.PutFilter row over) tt w
    | inr new ↦ absurd (no_filter_comes row fits new)
  ]
  change_whole (change.Attach overlay under) fits found = elim (was_there s.table node later (change.Attach overlay under) found) [
    | inl w ↦ old_whole (change.Attach overlay under) (λ same. kept (subst Out (sym same) fits)) w
    | inr new ↦ absurd new
  ]
  change_whole (change.Settle id disk) fits found = elim (was_there s.table node later (change.Settle id disk) found) [
    | inl w ↦ by_id (cases_eq node id) w
    | inr new ↦ absurd new
  ]
    where
      by_id : (node ≡ id) ⊎ (node ≢ id) → WasAt s.table node later → length (bytes_in (stepped s (change.Settle id disk)).disks node) ≡ later.size
      by_id (inl same) w =
          ap length (ap (bytes_in (stepped s (change.Settle id disk)).disks) same ∙ bytes_in-put id (new_bytes s disk) s.disks)
          ∙ fits w.row (ap (node_by_id s.table) (sym same) ∙ w.found) ∙ sym w.size
      by_id (inr other) w = old_whole (change.Settle id disk) other w
  change_whole (change.RemoveNode gone) fits found = elim (was_there s.table node later (change.RemoveNode gone) found) [
    | inl w ↦ old_whole (change.RemoveNode gone) (removed_other s.table gone node later found) w
    | inr new ↦ absurd new
  ]
  change_whole c fits found = elim (was_there s.table node later c found) [
    | inl w ↦ old_whole c tt w
    | inr new ↦ absurd new
  ]

pub changes_keep_whole : (Out : ℕ → Type 0) (changes : List Change) (s : State) → AllFitDisks Out s changes → WholeBut Out s → WholeBut Out (all_stepped s changes)
changes_keep_whole Out [] s fits whole = whole
changes_keep_whole Out (c ∷ changes) s fits whole =
    changes_keep_whole Out changes (stepped s c) fits.1 (λ node later found own kept. change_whole Out s whole node later own kept c fits.0 found)

-- ---- what can be made fits, where of nodes that read anew it is known otherwise

abbrev pub IsExcepted : (ℕ → Type 0) → Change → Type 0
IsExcepted Out (change.AddFormat row file backing) = Out row.id
IsExcepted Out (change.Attach overlay under) = Out overlay
IsExcepted Out (change.Settle node disk) = ⊥
IsExcepted Out c = Unit {0}

abbrev pub AreExcepted : (ℕ → Type 0) → List Change → Type 0
AreExcepted Out [] = Unit {0}
AreExcepted Out (c ∷ changes) = IsExcepted Out c × AreExcepted Out changes

file_whole : (size : ℕ) (content : Option Content) → With content IsWholly → length (file_bytes size content) ≡ size
file_whole size None known = absurd known
file_whole size (Some content) known = ap (λ (c : Content). length (file_bytes size (Some c))) known.1 ∙ length-bytes_at known.0 0 size

can_fit : (Out : ℕ → Type 0) (s : State) (c : Change) → Can s c → IsExcepted Out c → FitsDisks Out s c
can_fit Out s (change.AddFile row) can out = (can.fresh, file_whole row.size (content_in s.files (name_of_file row)) can.known)
can_fit Out s (change.AddFormat row file backing) can out = (can.fresh, out)
can_fit Out s (change.AddFilter row child) can out = can.filter
can_fit Out s (change.PutFilter row over) can out = can.filter
can_fit Out s (change.Attach overlay under) can out = out
can_fit Out s (change.Settle node disk) can out = absurd out
can_fit Out s c can out = tt

pub all_can_fit : (Out : ℕ → Type 0) (changes : List Change) (s : State) → AllCan s changes → AreExcepted Out changes → AllFitDisks Out s changes
all_can_fit Out [] s can out = tt
all_can_fit Out (c ∷ changes) s can out = (can_fit Out s c can.0 out.0, all_can_fit Out changes (stepped s c) can.1 out.1)

-- ---- a node that has a flat disk reads as it

abbrev pub IsSettledThen : RunTable → ℕ → Type 0
IsSettledThen t node = (row : NodeRecord) → node_by_id t node ≡ Some row → row.is_settled ≡ true

pub settled_whole : (s : State) (c : Contents) → WholeBut (IsSettledThen s.table) s → ReadAsDisks s c → HaveRowSizes s.table c.reads → DisksAreWhole s
settled_whole s c whole disks reads node row found own = by_flag row.is_settled refl
  where
    by_flag : (b : Bool) → row.is_settled ≡ b → length (bytes_in s.disks node) ≡ row.size
    by_flag true e = ap length (sym (disks node row found (record { settled = e; own = own }))) ∙ reads node row found own
    by_flag false e = whole node row found own (λ is. false≢true (sym e ∙ is row found))
