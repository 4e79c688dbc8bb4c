-- Each kind of change keeps what nodes read as and what files hold as the flat machine says.
use Rattle.std.proofs.Common.{◌≡◌, ℕ, suc, Bool, true, false, cond, List, [], ◌∷◌, ◌++◌, map, length, replicate, refl, sym, ap, subst, ◌∙◌, inl, inr, Option, Some, None, option_map}
use Rattle.std.specs.Prelude.{◌==◌, ◌&&◌, slice_index_or, not, max, All, option_and_then, unwrap_or, is_none, IsSome}
use Rattle.std.specs.List.{find, filter}
use Rattle.std.proofs.lemmas.Bool.{eqb-true}
use Rattle.std.proofs.lemmas.List.Elements.{All-push}
use Rattle.q2_format.specs.Contents.{file_disk, raw_disk, image_disk}
use Rattle.q2_format.specs.Created.{Creation, created_length, creation_of}
use Rattle.q2_format.proofs.Unmapped.{created_disk}
use Rattle.blk_graph.specs.declared.edge.Role.{Role}
use Rattle.blk_graph.specs.declared.edge.Role.TheVariants.{File, Backing}
use Rattle.qmp_rules.specs.declared.change.NewDisk.{NewDisk}
use Rattle.qmp_rules.specs.declared.change.NewDisk.TheVariants.{OfNode, OfStart}
use Rattle.blk_graph.specs.declared.kind.Kind.{Kind}
use Rattle.blk_graph.specs.declared.kind.Kind.TheVariants.{Protocol, Raw, Qcow2, CopyOnRead, BeforeWrite, Mirror, Commit}
use Rattle.blk_graph.proofs.Members.{find-Some}
use Rattle.qmp_codec.specs.declared.words.ImageFormat.{ImageFormat}
use Rattle.qmp_rules.specs.declared.rows.NodeRecord.{NodeRecord}
use Rattle.qmp_rules.specs.declared.change.Change.{Change}
use Rattle.qmp_rules.specs.declared.change.Change.TheVariants as change
use Rattle.qmp_rules.specs.Table.{RunTable, node_by_id, child}
use Rattle.qmp_rules.specs.Chains.{filter_role, filtered, disk_from, disk_node}
use Rattle.qmp_rules.specs.Changes.{changed, node_changed, unsettled, writable, kept_from_writes, with_unsettled, stands_over, lost_with}
use Rattle.qmp_rules.specs.Asks.{name_of_file}
use Rattle.blk_history.specs.Fold.{With}
use Rattle.flat_machine.specs.State.{State, Content, Bytes, Blank, Unknown, Left, Mapped, bytes_in, bytes_at_node, content_in, filename_of}
use Rattle.flat_machine.specs.Contents.{file_bytes, image_bytes, formatted, length_in, mapped_in, with_content}
use Rattle.flat_machine.specs.Changed.{new_bytes, put, make, name_file, name_if, stepped, all_stepped, content_under, bytes_below, bytes_by_format, format_name, know_if, note_image, with_bytes_of, leave, left_in, left_disk, own_filename, written_file, overlay_file}
use Rattle.flat_machine.specs.Final.{IsDiskIn}
use Rattle.flat_machine.specs.Agreement.{Contents, HasDisk, ReadAsDisks, IsBlank, IsAsKnown, AreAsKnown, AreAbsent, IsLeftAs, Agrees}
use Rattle.flat_machine.specs.Performing.{ReadSame, HeldSame, Nothing, IsQuiet, Pulls, Puts, Removes, ChangesFileAlone, IsWholly, IsReadable, CanFileBeRead, IsBacking, CanAddFile, CanAddFormat, CanAddFilter, Can, Performed, AllCan, AllPerformed, IsSettledLike, settled_as, CanRewrite, Rewrites, held_bytes, backing_reads, format_as, IsFormatted}
use Rattle.flat_machine.proofs.Finds.{find-map, bytes_eq-same, cases_found}
use Rattle.flat_machine.proofs.Agreeing.{RowsBut, rows_same, rows_pushed, rows_filter, rows_mapped, rows_dropped, less_unsettled, same_unsettled, less_writable, same_writable, less_read_only, same_read_only, rows_settled, disks_kept, disks_but, disks_put, disks_dropped, known_kept, known_put, absent_kept, absent_put, unchanged_kept, unchanged_named, left_kept, left_forgot}

own_node : (t : RunTable) (id : ℕ) (more : ℕ) → filtered t id ≡ None → disk_from (suc more) t id ≡ id
own_node t id more none = rw (none, disk_from) refl

-- a node that is no filter reads by itself
pub own_disk : (t : RunTable) (id : ℕ) (row : NodeRecord) → node_by_id t id ≡ Some row → filter_role row.kind ≡ None → disk_node t id ≡ id
unfolding disk_node
own_disk t id row found own =
    let none : filtered t id ≡ None = rw (found, own) refl in
    own_node t id 63 none

module _ (opening : List ℕ → Option (List ℕ)) where
  -- nothing beside the table changes
  pub quiet_keeps : (s now : State) (old new : Contents) → RowsBut Nothing s now → now.disks ≡ s.disks → now.files ≡ s.files
      → now.left ≡ s.left → now.named ≡ s.named → IsQuiet old new → Agrees opening s old → Agrees opening now new
  quiet_keeps s now old new rows disks files left named q h = record {
    disks = disks_kept s now old new rows disks q.nodes h.disks;
    known = known_kept s now old new files q.files h.known;
    absent = absent_kept s now old new files q.files h.absent;
    left = left_kept s now old new left q.files h.left;
    unchanged = unchanged_kept s now old new opening named q.files h.unchanged;
  }

  -- one more file is named for writing, where there is one
  pub named_keeps : (name : Option (List ℕ)) (s : State) (t : RunTable) (old new : Contents)
      → RowsBut Nothing s (record s { table = t }) → IsQuiet old new
      → Agrees opening s old → Agrees opening (record (name_if name s) { table = t }) new
  named_keeps None s t old new rows q h = quiet_keeps s (record s { table = t }) old new rows refl refl refl refl q h
  named_keeps (Some name) s t old new rows q h =
      let now : State = record (name_file name s) { table = t } in
      record {
        disks = disks_kept s now old new rows refl q.nodes h.disks;
        known = known_kept s now old new refl q.files h.known;
        absent = absent_kept s now old new refl q.files h.absent;
        left = left_kept s now old new refl q.files h.left;
        unchanged = unchanged_named s now old new opening name refl (λ other differ. q.files other (λ never. never)) h.unchanged;
      }

  -- ---- a `file` node

  file_reads : (s : State) (old : Contents) (size : ℕ) (name : List ℕ) (content : Option Content)
      → AreAsKnown s old → content_in s.files name ≡ content → With content IsWholly
      → file_disk size (held_bytes old name) ≡ file_bytes size content
  file_reads s old size name None known is whole = absurd whole
  file_reads s old size name (Some content) known is whole =
      let held : IsAsKnown (Bytes whole.0) (old.held name) = subst (λ c. IsAsKnown c (old.held name)) whole.1 (known name content is) in
      rw (whole.1, held) refl

  file_keeps : (s : State) (row : NodeRecord) (t : RunTable) (old new : Contents) → t.nodes ≡ s.table.nodes ++ row ∷ [] → CanAddFile s row
      → Puts row.id (file_disk row.size (held_bytes old (name_of_file row))) old new → Agrees opening s old
      → Agrees opening (record (put row.id (file_bytes row.size (content_in s.files (name_of_file row))) s) { table = t }) new
  file_keeps s row t old new nodes can adds h =
      let now : State = record (put row.id (file_bytes row.size (content_in s.files (name_of_file row))) s) { table = t } in
      let reads = file_reads s old row.size (name_of_file row) (content_in s.files (name_of_file row)) h.known refl can.known in
      record {
        disks = disks_put s now old new row.id (file_bytes row.size (content_in s.files (name_of_file row)))
            (rows_pushed s now row nodes) refl adds.nodes (adds.reads_as ∙ reads) h.disks;
        known = known_kept s now old new refl adds.files h.known;
        absent = absent_kept s now old new refl adds.files h.absent;
        left = left_kept s now old new refl adds.files h.left;
        unchanged = unchanged_kept s now old new opening refl adds.files h.unchanged;
      }

  -- one more name makes no difference to what agrees
  name_keeps : (s : State) (c : Contents) (name : List ℕ) → Agrees opening s c → Agrees opening (name_file name s) c
  name_keeps s c name h = record {
    disks = h.disks;
    known = h.known;
    absent = h.absent;
    left = h.left;
    unchanged = unchanged_named s (name_file name s) c c opening name refl (λ other differ. refl) h.unchanged;
  }

  add_file_keeps : (s : State) (row : NodeRecord) (old new : Contents) → CanAddFile s row
      → Performed s (change.AddFile row) old new → Agrees opening s old → Agrees opening (stepped s (change.AddFile row)) new
  unfolding changed
  add_file_keeps s row old new can did h =
      by_flag row.read_only (file_keeps s row (changed s.table (change.AddFile row)) old new refl can did h)
    where
      added : State
      added = put row.id (file_bytes row.size (content_in s.files (name_of_file row))) s

      by_flag : (b : Bool) → Agrees opening (record added { table = changed s.table (change.AddFile row) }) new
          → Agrees opening (record (cond b added (name_file (name_of_file row) added)) { table = changed s.table (change.AddFile row) }) new
      by_flag true k = k
      by_flag false k = name_keeps (record added { table = changed s.table (change.AddFile row) }) new (name_of_file row) k

  -- ---- a filter: it says nothing by itself

  filter_keeps : (s : State) (row : NodeRecord) (t : RunTable) (old new : Contents) → t.nodes ≡ s.table.nodes ++ row ∷ []
      → CanAddFilter s row → ReadSame (λ node. node ≡ row.id) old new → HeldSame Nothing old new
      → Agrees opening s old → Agrees opening (record s { table = t }) new
  filter_keeps s row t old new nodes can reads files h = record {
    disks = disks_but s (record s { table = t }) old new (λ node. node ≡ row.id) rows apart refl reads h.disks;
    known = known_kept s (record s { table = t }) old new refl files h.known;
    absent = absent_kept s (record s { table = t }) old new refl files h.absent;
    left = left_kept s (record s { table = t }) old new refl files h.left;
    unchanged = unchanged_kept s (record s { table = t }) old new opening refl files h.unchanged;
  }
    where
      is_none : (role : Option Role) → IsSome role → role ≡ None → ⊥
      is_none None some e = cc
      is_none (Some r) some e = cc

      rows : RowsBut Nothing s (record s { table = t })
      rows = rows_filter s (record s { table = t }) row (λ disk. is_none (filter_role row.kind) can.filter disk.own) nodes

      apart : (node : ℕ) (found : NodeRecord) → node_by_id t node ≡ Some found → HasDisk found → node ≡ row.id → ⊥
      apart node found is disk same = elim (rows node found is disk) [
        | inl never ↦ never
        | inr had ↦ let was = subst (λ n. node_by_id s.table n ≡ Some had.row) same had.found in let fresh = can.fresh in cc
      ]

  -- ---- a format node

  backing_bytes : (s : State) (old : Contents) (id : ℕ) → ReadAsDisks s old → (found : Option NodeRecord) → node_by_id s.table id ≡ found
      → With found HasDisk → old.reads id ≡ bytes_at_node s id
  backing_bytes s old id reads None is has = absurd has
  backing_bytes s old id reads (Some row) is has =
      rw (own_disk s.table id row is has.own) (reads id row is has)

  below_bytes : (s : State) (old : Contents) (backing : Option ℕ) → ReadAsDisks s old → IsBacking s backing
      → backing_reads old backing ≡ bytes_below s backing
  below_bytes s old None reads has = refl
  below_bytes s old (Some id) reads has = backing_bytes s old id reads (node_by_id s.table id) refl has

  raw_bytes : (s : State) (old : Contents) (file : ℕ) → ReadAsDisks s old → (found : Option NodeRecord) → node_by_id s.table file ≡ found
      → With found HasDisk → old.reads file ≡ bytes_in s.disks file
  raw_bytes s old file reads None is has = absurd has
  raw_bytes s old file reads (Some row) is has = reads file row is has

  -- what is known of a file is enough for what its image reads as
  image_reads : (s : State) (old : Contents) (name : Option (List ℕ)) (below : List ℕ) (content : Option Content) → AreAsKnown s old
      → option_and_then (content_in s.files) name ≡ content → With content IsReadable
      → image_disk (held_bytes old (unwrap_or name [])) below ≡ image_bytes content below
  image_reads s old name below None known is can = absurd can
  image_reads s old None below (Some content) known is can = absurd cc
  image_reads s old (Some name) below (Some (Bytes bytes)) known is can =
      let held : old.held name ≡ Some bytes = known name (Bytes bytes) is in
      rw held refl
  image_reads s old (Some name) below (Some (Blank new len)) known is can = by_held (old.held name) (known name (Blank new len) is)
    where
      by_held : (held : Option (List ℕ)) → With held (IsBlank new len)
          → image_disk (unwrap_or held []) below ≡ image_bytes (Some (Blank new len)) below
      by_held None blank = absurd blank
      by_held (Some bytes) blank = created_disk new bytes below blank.created
  image_reads s old (Some name) below (Some Unknown) known is can = absurd can

  format_reads : (s : State) (old : Contents) (row : NodeRecord) (file : ℕ) (backing : Option ℕ) (driver : Kind) → CanFileBeRead s file driver
      → IsBacking s backing → Agrees opening s old → format_as s old row file backing driver ≡ bytes_by_format s row file backing driver
  format_reads s old row file backing Raw can backed h =
      ap (raw_disk row.offset row.size) (raw_bytes s old file h.disks (node_by_id s.table file) refl can)
  format_reads s old row file backing Qcow2 can backed h =
      ap (image_disk (held_bytes old (unwrap_or (filename_of s.table file) []))) (below_bytes s old backing h.disks backed)
      ∙ image_reads s old (filename_of s.table file) (bytes_below s backing) (content_under s file) h.known refl can
  format_reads s old row file backing Protocol can backed h = absurd can
  format_reads s old row file backing CopyOnRead can backed h = absurd can
  format_reads s old row file backing BeforeWrite can backed h = absurd can
  format_reads s old row file backing Mirror can backed h = absurd can
  format_reads s old row file backing Commit can backed h = absurd can

  -- the rows of a table whose `file` node lost its disk, with one more
  format_rows : (s now : State) (row : NodeRecord) (file : ℕ) → now.table.nodes ≡ with_unsettled file s.table.nodes ++ row ∷ []
      → RowsBut (λ node. node ≡ row.id) s now
  format_rows s now row file nodes node found is disk =
      elim (rows_pushed between now row nodes node found is disk) [
        | inl is_new ↦ inl is_new
        | inr had ↦ elim (rows_mapped s between (node_changed file unsettled) (same_unsettled file) (less_unsettled file) refl
            node had.row had.found had.disk) [
              | inl never ↦ absurd never
              | inr was ↦ inr was
            ]
      ]
    where
      between : State
      between = record s { table = record s.table { nodes = with_unsettled file s.table.nodes } }

  -- the state beside the table, whatever images are noted
  pub record IsWithFormat (s now : State) (name : Option (List ℕ)) (id : ℕ) (bytes : List ℕ) : Type 0 where
    pub disks : now.disks ≡ with_bytes_of id bytes s.disks
    pub files : now.files ≡ (know_if name Unknown s).files
    pub left : now.left ≡ s.left
    pub named : now.named ≡ s.named

  record IsNoted (s now : State) : Type 0 where
    disks : now.disks ≡ s.disks
    files : now.files ≡ s.files
    left : now.left ≡ s.left
    named : now.named ≡ s.named

  noted : (driver : Kind) (id : ℕ) (mapped : Mapped) (s : State) → IsNoted s (note_image driver id mapped s)
  noted Protocol id mapped s = record { disks = refl; files = refl; left = refl; named = refl }
  noted Raw id mapped s = record { disks = refl; files = refl; left = refl; named = refl }
  noted Qcow2 id mapped s = record { disks = refl; files = refl; left = refl; named = refl }
  noted CopyOnRead id mapped s = record { disks = refl; files = refl; left = refl; named = refl }
  noted BeforeWrite id mapped s = record { disks = refl; files = refl; left = refl; named = refl }
  noted Mirror id mapped s = record { disks = refl; files = refl; left = refl; named = refl }
  noted Commit id mapped s = record { disks = refl; files = refl; left = refl; named = refl }

  pub with_format : (name : Option (List ℕ)) (driver : Kind) (id : ℕ) (mapped : Mapped) (bytes : List ℕ) (s : State) (t : RunTable)
      → IsWithFormat s (record (know_if name Unknown (note_image driver id mapped (put id bytes s))) { table = t }) name id bytes
  with_format None driver id mapped bytes s t =
      let same = noted driver id mapped (put id bytes s) in
      record { disks = same.disks; files = same.files; left = same.left; named = same.named }
  with_format (Some name) driver id mapped bytes s t =
      let same = noted driver id mapped (put id bytes s) in
      record { disks = same.disks; files = ap (with_content name Unknown) same.files; left = same.left; named = same.named }

  known_if : (name : Option (List ℕ)) (s now : State) (old new : Contents) → now.files ≡ (know_if name Unknown s).files
      → HeldSame Nothing old new → AreAsKnown s old → AreAsKnown now new
  known_if None s now old new files held h = known_kept s now old new files held h
  known_if (Some name) s now old new files held h =
      known_put s now old new name Unknown files tt (λ other differ. held other (λ never. never)) h

  absent_if : (name : Option (List ℕ)) (s now : State) (old new : Contents) → now.files ≡ (know_if name Unknown s).files
      → HeldSame Nothing old new → AreAbsent s old → AreAbsent now new
  absent_if None s now old new files held h = absent_kept s now old new files held h
  absent_if (Some name) s now old new files held h =
      absent_put s now old new name Unknown files (λ other differ. held other (λ never. never)) h

  add_format_keeps : (s : State) (row : NodeRecord) (file : ℕ) (backing : Option ℕ) (old new : Contents) → CanAddFormat s row file backing
      → Performed s (change.AddFormat row file backing) old new → Agrees opening s old
      → Agrees opening (stepped s (change.AddFormat row file backing)) new
  unfolding changed
  add_format_keeps s row file backing old new can did h =
      let bytes : List ℕ = bytes_by_format s row file backing row.kind in
      let now : State = stepped s (change.AddFormat row file backing) in
      let same = with_format (filename_of s.table file) row.kind row.id (mapped_in (content_under s file)) bytes s
      (changed s.table (change.AddFormat row file backing)) in
      let reads = format_reads s old row file backing row.kind can.readable can.backed h in
      record {
        disks = disks_put s now old new row.id bytes (format_rows s now row file refl) same.disks did.nodes (did.reads_as ∙ reads) h.disks;
        known = known_if (filename_of s.table file) s now old new same.files did.files h.known;
        absent = absent_if (filename_of s.table file) s now old new same.files did.files h.absent;
        left = left_kept s now old new same.left did.files h.left;
        unchanged = unchanged_kept s now old new opening same.named did.files h.unchanged;
      }

  -- ---- a node that goes

  -- the disk that it leaves is what its driver reads from its file
  left_reads : (s : State) (node : ℕ) (row : NodeRecord) (old new : Contents) → node_by_id s.table node ≡ Some row → Removes s node old new
      → Agrees opening s old → (left : Left) → left_disk s row ≡ Some left → IsLeftAs new left
  left_reads s node row old new found did h left is = by_settled row.is_settled refl (child s.table row.id Backing) refl is
    where
      row_id : row.id ≡ node
      row_id = eqb-true row.id node (find-Some (λ r. r.id == node) s.table.nodes row found).1

      from_file : (name : List ℕ) → own_filename s.table row row.kind ≡ Some name → HasDisk row → child s.table row.id Backing ≡ None
          → left_in s.disks row name ≡ left → IsLeftAs new left
      from_file name file disk none made =
          let backless : child s.table node Backing ≡ None = subst (λ n. child s.table n Backing ≡ None) row_id none in
          let alone = did.alone row found backless name file in
          let reads : old.reads node ≡ bytes_in s.disks row.id = subst (λ n. old.reads node ≡ bytes_in s.disks n) (sym row_id)
          (h.disks node row found disk) in
          subst (IsLeftAs new) made
          (subst (λ held. With held (IsDiskIn row.kind row.offset (bytes_in s.disks row.id)))
          (sym (did.files name (λ never. never)))
          (subst (λ b. With (old.held name) (IsDiskIn row.kind row.offset b)) reads alone))

      -- a node that is over a file of its own is no filter
      own : (driver : Kind) (name : List ℕ) → own_filename s.table row driver ≡ Some name → filter_role driver ≡ None
      own Protocol name e = refl
      own Raw name e = refl
      own Qcow2 name e = refl
      own CopyOnRead name e = absurd cc
      own BeforeWrite name e = absurd cc
      own Mirror name e = absurd cc
      own Commit name e = absurd cc

      by_file : (file : Option (List ℕ)) → own_filename s.table row row.kind ≡ file → row.is_settled ≡ true
          → child s.table row.id Backing ≡ None → option_map (left_in s.disks row) file ≡ Some left → IsLeftAs new left
      by_file None file settled none e = absurd cc
      by_file (Some name) file settled none e =
          from_file name file (record { settled = settled; own = own row.kind name file }) none cc

      by_settled : (settled : Bool) → row.is_settled ≡ settled → (backing : Option ℕ) → child s.table row.id Backing ≡ backing
          → cond (settled && is_none backing) (option_map (left_in s.disks row) (own_filename s.table row row.kind)) None ≡ Some left
          → IsLeftAs new left
      by_settled true settled None none e = by_file (own_filename s.table row row.kind) refl settled none e
      by_settled true settled (Some id) none e = absurd cc
      by_settled false settled backing none e = absurd cc

  pub record IsLeftAlone (s now : State) : Type 0 where
    pub disks : now.disks ≡ s.disks
    pub files : now.files ≡ s.files
    pub named : now.named ≡ s.named

  pub left_alone : (gone : Option Left) (s : State) → IsLeftAlone s (leave gone s)
  left_alone None s = record { disks = refl; files = refl; named = refl }
  left_alone (Some gone) s = record { disks = refl; files = refl; named = refl }

  left_keeps : (s now : State) (node : ℕ) (old new : Contents) → Removes s node old new → Agrees opening s old
      → (found : Option NodeRecord) → node_by_id s.table node ≡ found
      → now.left ≡ (leave (option_and_then (left_disk s) found) s).left → All (IsLeftAs new) now.left
  left_keeps s now node old new did h None is left = left_kept s now old new left did.files h.left
  left_keeps s now node old new did h (Some row) is left = by_left (left_disk s row) refl left
    where
      by_left : (gone : Option Left) → left_disk s row ≡ gone → now.left ≡ (leave gone s).left → All (IsLeftAs new) now.left
      by_left None none same = left_kept s now old new same did.files h.left
      by_left (Some gone) is_left same = subst (λ left. All (IsLeftAs new) left) (sym same)
          (All-push (IsLeftAs new) s.left gone (left_kept s s old new refl did.files h.left)
          (left_reads s node row old new is did h gone is_left))

  remove_keeps : (s : State) (node : ℕ) (old new : Contents) → Performed s (change.RemoveNode node) old new → Agrees opening s old
      → Agrees opening (stepped s (change.RemoveNode node)) new
  unfolding changed
  remove_keeps s node old new did h =
      let now : State = stepped s (change.RemoveNode node) in
      let gone = option_and_then (left_disk s) (node_by_id s.table node) in
      let same = left_alone gone s in
      record {
        disks = disks_dropped s now old new node (rows_dropped s now node refl) (ap (filter (λ d. not (d.node == node))) same.disks)
            did.nodes h.disks;
        known = known_kept s now old new same.files did.files h.known;
        absent = absent_kept s now old new same.files did.files h.absent;
        left = left_keeps s now node old new did h (node_by_id s.table node) refl refl;
        unchanged = unchanged_kept s now old new opening same.named did.files h.unchanged;
      }

  -- ---- files

  -- a file is made anew: no disk is left in it, and a command named it
  made_keeps : (s : State) (t : RunTable) (name : List ℕ) (content : Content) (but : ℕ → Type 0) (old new : Contents)
      → RowsBut Nothing s (record s { table = t })
      → ((node : ℕ) (row : NodeRecord) → node_by_id t node ≡ Some row → HasDisk row → but node → ⊥)
      → ChangesFileAlone but name old new → IsAsKnown content (new.held name) → Agrees opening s old
      → Agrees opening (record (make name content s) { table = t }) new
  made_keeps s t name content but old new rows apart makes is h =
      let now : State = record (make name content s) { table = t } in
      record {
        disks = disks_but s now old new but rows apart refl makes.nodes h.disks;
        known = known_put s now old new name content refl is makes.files h.known;
        absent = absent_put s now old new name content refl makes.files h.absent;
        left = left_forgot s now old new name refl makes.files h.left;
        unchanged = unchanged_named s now old new opening name refl makes.files h.unchanged;
      }

  make_file_keeps : (s : State) (name : List ℕ) (size : ℕ) (old new : Contents) → Performed s (change.MakeFile name size) old new
      → Agrees opening s old → Agrees opening (stepped s (change.MakeFile name size)) new
  unfolding changed
  make_file_keeps s name size old new did h =
      let t : RunTable = changed s.table (change.MakeFile name size) in
      made_keeps s t name (Bytes (replicate size 0)) Nothing old new (rows_same s (record s { table = t }) refl)
      (λ node row found disk never. never) did.0 did.1 h

  -- how long a file is once an image was created over it
  blank_length : (s : State) (old : Contents) (name bytes : List ℕ) (new_image : Creation) (content : Option Content)
      → Agrees opening s old → content_in s.files name ≡ content
      → length bytes ≡ max (length (held_bytes old name)) (created_length new_image)
      → (n : ℕ) → option_map (λ len. max len (created_length new_image)) (length_in content) ≡ Some n → length bytes ≡ n
  blank_length s old name bytes new_image None h is long n e =
      let absent : old.held name ≡ None = h.absent name is in
      let short : length (held_bytes old name) ≡ 0 = rw absent refl in
      let is_long : length bytes ≡ max 0 (created_length new_image) = subst (λ k. length bytes ≡ max k (created_length new_image)) short long in
      cc
  blank_length s old name bytes new_image (Some (Bytes b)) h is long n e =
      let held : old.held name ≡ Some b = h.known name (Bytes b) is in
      let was : length (held_bytes old name) ≡ length b = rw held refl in
      let is_long : length bytes ≡ max (length b) (created_length new_image) =
      subst (λ k. length bytes ≡ max k (created_length new_image)) was long in
      cc
  blank_length s old name bytes new_image (Some (Blank image len)) h is long n e = by_len len refl e
    where
      was : (k : ℕ) → len ≡ Some k → (held : Option (List ℕ)) → With held (IsBlank image len) → length (unwrap_or held []) ≡ k
      was k known None blank = absurd blank
      was k known (Some b) blank = blank.length_is k known

      by_len : (l : Option ℕ) → len ≡ l → option_map (λ k. max k (created_length new_image)) l ≡ Some n → length bytes ≡ n
      by_len None unknown f = absurd cc
      by_len (Some k) known f =
          let old_length : length (held_bytes old name) ≡ k = was k known (old.held name) (h.known name (Blank image len) is) in
          let is_long : length bytes ≡ max k (created_length new_image) =
          subst (λ m. length bytes ≡ max m (created_length new_image)) old_length long in
          cc
  blank_length s old name bytes new_image (Some Unknown) h is long n e = absurd cc

  -- a `file` node that lost its disk has none
  lost : (id : ℕ) (rows : List NodeRecord) (row : NodeRecord) → find (λ r. r.id == id) (with_unsettled id rows) ≡ Some row
      → HasDisk row → ⊥
  lost id rows row found disk =
      let of_old = sym (find-map (λ r. r.id == id) (node_changed id unsettled) (λ r. ap (λ k. k == id) (same_unsettled id r)) rows) ∙ found in
      by_row (find (λ r. r.id == id) rows) refl of_old
    where
      by_test : (r : NodeRecord) (b : Bool) → (r.id == id) ≡ b → b ≡ true → cond b (unsettled r) r ≡ row → ⊥
      by_test r true e t is = let settled = disk.settled in cc
      by_test r false e t is = cc

      by_row : (was : Option NodeRecord) → find (λ r. r.id == id) rows ≡ was → option_map (node_changed id unsettled) was ≡ Some row → ⊥
      by_row None e k = cc
      by_row (Some r) e k = by_test r (r.id == id) refl (find-Some (λ x. x.id == id) rows r e).1 cc

  format_file_keeps : (s : State) (node : ℕ) (name : List ℕ) (size : ℕ) (backing_file : Option (List ℕ)) (backing_fmt : Option ImageFormat)
      (old new : Contents) → Performed s (change.FormatFile node name size backing_file backing_fmt) old new
      → Agrees opening s old → Agrees opening (stepped s (change.FormatFile node name size backing_file backing_fmt)) new
  unfolding changed
  format_file_keeps s node name size backing_file backing_fmt old new did h =
      made_keeps s t name (formatted image (content_in s.files name)) (λ other. other ≡ node) old new
      (rows_mapped s (record s { table = t }) (node_changed node unsettled) (same_unsettled node) (less_unsettled node) refl)
      (λ other row found disk same. lost node s.table.nodes row (subst (λ n. node_by_id t n ≡ Some row) same found) disk)
      did.0 (by_held (new.held name) did.1) h
    where
      t : RunTable
      t = changed s.table (change.FormatFile node name size backing_file backing_fmt)

      image : Creation
      image = creation_of size backing_file (option_map format_name backing_fmt)

      by_held : (held : Option (List ℕ)) → With held (IsFormatted image (held_bytes old name))
          → With held (IsBlank image (option_map (λ len. max len (created_length image)) (length_in (content_in s.files name))))
      by_held None is = absurd is
      by_held (Some bytes) is = record {
        shape = refl;
        can = is.can;
        created = is.created;
        length_is = blank_length s old name bytes image (content_in s.files name) h refl is.length_is;
      }

  -- a node over a spoiled file has no disk
  same_lost : (name : List ℕ) (row : NodeRecord) → (lost_with name row).id ≡ row.id
  same_lost name row = by_test (stands_over name row.filename)
    where
      by_test : (b : Bool) → (cond b (unsettled row) row).id ≡ row.id
      by_test true = refl
      by_test false = refl

  less_lost : (name : List ℕ) (row : NodeRecord) → HasDisk (lost_with name row) → HasDisk row
  less_lost name row = by_test (stands_over name row.filename)
    where
      by_test : (b : Bool) → HasDisk (cond b (unsettled row) row) → HasDisk row
      by_test true h = absurd (let settled = h.settled in cc)
      by_test false h = h

  spoiled_node : (s : State) (name : List ℕ) (node : ℕ) (row : NodeRecord) → find (λ r. r.id == node) (map (lost_with name) s.table.nodes) ≡ Some row
      → HasDisk row → filename_of s.table node ≡ Some name → ⊥
  spoiled_node s name node row found disk over =
      let of_old = sym (find-map (λ r. r.id == node) (lost_with name) (λ r. ap (λ k. k == node) (same_lost name r)) s.table.nodes) ∙ found in
      by_row (node_by_id s.table node) over of_old
    where
      by_test : (r : NodeRecord) (b : Bool) → b ≡ true → cond b (unsettled r) r ≡ row → ⊥
      by_test r true t is = let settled = disk.settled in cc
      by_test r false t is = cc

      by_name : (r : NodeRecord) (filename : Option (List ℕ)) → filename ≡ Some name → cond (stands_over name filename) (unsettled r) r ≡ row → ⊥
      by_name r filename e is =
          by_test r (stands_over name filename) (ap (stands_over name) e ∙ bytes_eq-same name) is

      by_row : (was : Option NodeRecord) → option_and_then (λ r. r.filename) was ≡ Some name → option_map (lost_with name) was ≡ Some row → ⊥
      by_row None e k = cc
      by_row (Some r) e k = by_name r r.filename e cc

  spoil_keeps : (s : State) (name : List ℕ) (old new : Contents) → Performed s (change.SpoilFile name) old new
      → Agrees opening s old → Agrees opening (stepped s (change.SpoilFile name)) new
  unfolding changed
  spoil_keeps s name old new did h =
      let t : RunTable = changed s.table (change.SpoilFile name) in
      made_keeps s t name Unknown (λ node. filename_of s.table node ≡ Some name) old new
      (rows_mapped s (record s { table = t }) (lost_with name) (same_lost name) (less_lost name) refl)
      (λ node row found disk over. spoiled_node s name node row found disk over) did tt h

  use_keeps : (s : State) (name : List ℕ) (old new : Contents) → IsQuiet old new → Agrees opening s old
      → Agrees opening (stepped s (change.UseFile name)) new
  unfolding changed
  use_keeps s name old new q h =
      let now : State = stepped s (change.UseFile name) in
      record {
        disks = disks_kept s now old new (rows_same s now refl) refl q.nodes h.disks;
        known = known_put s now old new name Unknown refl tt (λ other differ. q.files other (λ never. never)) h.known;
        absent = absent_put s now old new name Unknown refl (λ other differ. q.files other (λ never. never)) h.absent;
        left = left_kept s now old new refl q.files h.left;
        unchanged = unchanged_kept s now old new opening refl q.files h.unchanged;
      }

  -- an overlay that maps nothing reads as the node below it
  attach_keeps : (s : State) (overlay node : ℕ) (old new : Contents) → With (node_by_id s.table node) HasDisk
      → Performed s (change.Attach overlay node) old new → Agrees opening s old → Agrees opening (stepped s (change.Attach overlay node)) new
  unfolding changed
  attach_keeps s overlay node old new can did h =
      let now : State = stepped s (change.Attach overlay node) in
      record {
        disks = disks_put s now old new overlay (bytes_at_node s node) rows refl did.nodes
            (did.reads_as ∙ backing_bytes s old node h.disks (node_by_id s.table node) refl can) h.disks;
        known = known_kept s now old new refl did.files h.known;
        absent = absent_kept s now old new refl did.files h.absent;
        left = left_kept s now old new refl did.files h.left;
        unchanged = unchanged_kept s now old new opening refl did.files h.unchanged;
      }
    where
      rows : RowsBut (λ other. other ≡ overlay) s (stepped s (change.Attach overlay node))
      rows other row found disk = inr (record { row = row; found = found; disk = disk })

  -- ---- every kind

  -- neither rows of nodes nor anything beside the table changes
  still_keeps : (s now : State) (old new : Contents) → now.table.nodes ≡ s.table.nodes → now.disks ≡ s.disks → now.files ≡ s.files
      → now.left ≡ s.left → now.named ≡ s.named → IsQuiet old new → Agrees opening s old → Agrees opening now new
  still_keeps s now old new nodes disks files left named q h =
      quiet_keeps s now old new (rows_same s now nodes) disks files left named q h

  -- ---- what ends of jobs bring

  -- a filter goes, which says nothing by itself
  pulled : (s : State) (filter : ℕ) → RowsBut Nothing s (stepped s (change.PullFilter filter))
  unfolding changed
  pulled s filter node row found disk = inr (rows_dropped s (stepped s (change.PullFilter filter)) filter refl node row found disk).1

  pull_keeps : (s : State) (filter : ℕ) (old new : Contents) → Pulls filter old new → Agrees opening s old
      → Agrees opening (stepped s (change.PullFilter filter)) new
  unfolding changed
  pull_keeps s filter old new did h =
      let now : State = stepped s (change.PullFilter filter) in
      record {
        disks = disks_but s now old new (λ node. node ≡ filter) (pulled s filter)
            (λ node row found disk. (rows_dropped s now filter refl node row found disk).0) refl did.nodes h.disks;
        known = known_kept s now old new refl did.files h.known;
        absent = absent_kept s now old new refl did.files h.absent;
        left = left_kept s now old new refl did.files h.left;
        unchanged = unchanged_kept s now old new opening refl did.files h.unchanged;
      }

  -- a node has a disk again: what it reads as
  settle_keeps : (s : State) (node : ℕ) (disk : NewDisk) (old new : Contents) → IsSettledLike s disk
      → Puts node (settled_as s old disk) old new → Agrees opening s old → Agrees opening (stepped s (change.Settle node disk)) new
  unfolding changed
  settle_keeps s node disk old new can did h =
      let now : State = stepped s (change.Settle node disk) in
      record {
        disks = disks_put s now old new node (new_bytes s disk) (rows_settled s now node refl) refl did.nodes (did.reads_as ∙ bytes_are disk can) h.disks;
        known = known_kept s now old new refl did.files h.known;
        absent = absent_kept s now old new refl did.files h.absent;
        left = left_kept s now old new refl did.files h.left;
        unchanged = unchanged_kept s now old new opening refl did.files h.unchanged;
      }
    where
      bytes_are : (d : NewDisk) → IsSettledLike s d → settled_as s old d ≡ new_bytes s d
      bytes_are (OfNode source) like = backing_bytes s old source h.disks (node_by_id s.table source) refl like
      bytes_are (OfStart job) like = refl

  -- a header is rewritten: the file alone changes, of which nothing is known
  rewrite_keeps : (s : State) (node : ℕ) (backing : Option ℕ) (old new : Contents) → CanRewrite s node
      → Rewrites s node old new → Agrees opening s old → Agrees opening (stepped s (change.Rebase node backing)) new
  unfolding changed
  rewrite_keeps s node backing old new can did h = record {
    disks = disks_but s now old new (λ other. child s.table node File ≡ Some other) (rows_same s now refl)
        (λ n row found disk is. can.under n row is found disk) refl did.nodes h.disks;
    known = λ name content found. by_file name content found;
    absent = λ name none. did.files name (λ is. let known = can.known name is in cc) ∙ h.absent name none;
    left = kept_left;
    unchanged = λ name not_named. did.files name (λ is. let named = can.named name is in cc) ∙ h.unchanged name not_named;
  }
    where
      now : State
      now = stepped s (change.Rebase node backing)

      by_file : (name : List ℕ) (content : Content) → content_in s.files name ≡ Some content → IsAsKnown content (new.held name)
      by_file name content found = elim (cases_found (written_file s.table node) name) [
        | inl is ↦ let unknown = can.known name is in let same : Unknown ≡ content = cc in subst (λ c. IsAsKnown c (new.held name)) same tt
        | inr other ↦ subst (IsAsKnown content) (sym (did.files name other)) (h.known name content found)
      ]

      kept_left : All (IsLeftAs new) s.left
      kept_left k d within =
          let l : Left = slice_index_or s.left k d in
          subst (λ bytes. With bytes (IsDiskIn l.kind l.offset l.bytes))
          (sym (did.files l.file (λ is. can.left l.file is k d within refl))) (h.left k d within)

  pub change_keeps : (s : State) (c : Change) (old new : Contents) → Can s c → Performed s c old new → Agrees opening s old
      → Agrees opening (stepped s c) new
  unfolding changed
  change_keeps s change.Negotiate old new can did h = still_keeps s (stepped s change.Negotiate) old new refl refl refl refl refl did h
  change_keeps s (change.KeepId id) old new can did h = still_keeps s (stepped s (change.KeepId id)) old new refl refl refl refl refl did h
  change_keeps s (change.DropId id) old new can did h = still_keeps s (stepped s (change.DropId id)) old new refl refl refl refl refl did h
  change_keeps s (change.MakeFile name size) old new can did h = make_file_keeps s name size old new did h
  change_keeps s (change.FormatFile node name size backing_file backing_fmt) old new can did h =
      format_file_keeps s node name size backing_file backing_fmt old new did h
  change_keeps s (change.SpoilFile name) old new can did h = spoil_keeps s name old new did h
  change_keeps s (change.UseFile name) old new can did h = use_keeps s name old new did h
  change_keeps s (change.AddFile row) old new can did h = add_file_keeps s row old new can did h
  change_keeps s (change.AddFormat row file backing) old new can did h = add_format_keeps s row file backing old new can did h
  change_keeps s (change.AddFilter row node) old new can did h =
      filter_keeps s row (changed s.table (change.AddFilter row node)) old new refl can did.nodes did.files h
  change_keeps s (change.PutFilter row node) old new can did h =
      filter_keeps s row (changed s.table (change.PutFilter row node)) old new refl can did.nodes did.files h
  change_keeps s (change.RemoveNode node) old new can did h = remove_keeps s node old new did h
  change_keeps s (change.Unsettle id) old new can did h =
      let now : State = stepped s (change.Unsettle id) in
      let rows = rows_mapped s now (node_changed id unsettled) (same_unsettled id) (less_unsettled id) refl in
      quiet_keeps s now old new rows refl refl refl refl did h
  change_keeps s (change.MakeWritable id) old new can did h =
      let t : RunTable = changed s.table (change.MakeWritable id) in
      let rows = rows_mapped s (record s { table = t }) (node_changed id writable) (same_writable id) (less_writable id) refl in
      named_keeps (filename_of s.table id) s t old new rows did h
  change_keeps s (change.UseNode slot what node) old new can did h = still_keeps s (stepped s (change.UseNode slot what node)) old new refl refl refl refl refl did h
  change_keeps s (change.StartJob row) old new can did h =
      let t : RunTable = changed s.table (change.StartJob row) in
      named_keeps (overlay_file s.table row row.kind) s t old new (rows_same s (record s { table = t }) refl) did h
  change_keeps s (change.AskJob number asked) old new can did h = still_keeps s (stepped s (change.AskJob number asked)) old new refl refl refl refl refl did h
  change_keeps s (change.ReadyJob number) old new can did h = still_keeps s (stepped s (change.ReadyJob number)) old new refl refl refl refl refl did h
  change_keeps s (change.EndJob number slot drops) old new can did h =
      still_keeps s (stepped s (change.EndJob number slot drops)) old new refl refl refl refl refl did h
  change_keeps s (change.PullFilter filter) old new can did h =
      pull_keeps s filter old new did h
  change_keeps s (change.Rebase node backing) old new can did h = rewrite_keeps s node backing old new can did h
  change_keeps s (change.Settle node disk) old new can did h = settle_keeps s node disk old new can did h
  change_keeps s (change.MakeReadOnly id) old new can did h =
      let now : State = stepped s (change.MakeReadOnly id) in
      let rows = rows_mapped s now (node_changed id kept_from_writes) (same_read_only id) (less_read_only id) refl in
      quiet_keeps s now old new rows refl refl refl refl did h
  change_keeps s (change.AddDevice device node) old new can did h = still_keeps s (stepped s (change.AddDevice device node)) old new refl refl refl refl refl did h
  change_keeps s (change.RemoveDevice number) old new can did h = still_keeps s (stepped s (change.RemoveDevice number)) old new refl refl refl refl refl did h
  change_keeps s (change.Attach overlay node) old new can did h = attach_keeps s overlay node old new can did h
  change_keeps s (change.Move from to but) old new can did h = still_keeps s (stepped s (change.Move from to but)) old new refl refl refl refl refl did h
  change_keeps s (change.AddBitmap row) old new can did h = still_keeps s (stepped s (change.AddBitmap row)) old new refl refl refl refl refl did h
  change_keeps s (change.RemoveBitmap node name) old new can did h = still_keeps s (stepped s (change.RemoveBitmap node name)) old new refl refl refl refl refl did h
  change_keeps s (change.TurnBitmap node name on) old new can did h = still_keeps s (stepped s (change.TurnBitmap node name on)) old new refl refl refl refl refl did h
  change_keeps s (change.ClearBitmap node name) old new can did h = still_keeps s (stepped s (change.ClearBitmap node name)) old new refl refl refl refl refl did h
  change_keeps s (change.MergeBitmap node name source_node source) old new can did h =
      still_keeps s (stepped s (change.MergeBitmap node name source_node source)) old new refl refl refl refl refl did h

  -- changes in turn
  pub changes_keep : (changes : List Change) (s : State) (old new : Contents) → AllCan s changes → AllPerformed s changes old new
      → Agrees opening s old → Agrees opening (all_stepped s changes) new
  changes_keep [] s old new can did h = quiet_keeps s s old new (rows_same s s refl) refl refl refl refl did h
  changes_keep (c ∷ changes) s old new can did h =
      changes_keep changes (stepped s c) did.0 new can.1 did.2 (change_keeps s c old did.0 can.0 did.1 h)
