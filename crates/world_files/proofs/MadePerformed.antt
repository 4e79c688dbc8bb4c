-- What a creation does to files and nodes, as the flat machine says it.
use Rattle.std.proofs.Common.{◌≡◌, ℕ, true, false, List, [], ◌∷◌, refl, sym, ◌∙◌, ap, subst, Option, Some, None, Ok}
use Rattle.std.specs.Prelude.{Result, find, is_some, option_and_then, option_map}
use Rattle.std.proofs.lemmas.Bool.{false≢true}
use Rattle.std.proofs.lemmas.Option.{same_Some}
use Rattle.blk_graph.proofs.Members.{find-Some}
use Rattle.blk_history.specs.Fold.{With}
use Rattle.blk_nodes.specs.declared.stop.FormatStop.{FormatStop}
use Rattle.flat_machine.specs.Changed.{format_name}
use Rattle.flat_machine.proofs.Finds.{find-map}
use Rattle.world_parts.proofs.EasedTables.{IsTableEased}
use Rattle.world_parts.proofs.TablesAfter.{row_same}
use Rattle.blk_base.specs.Stored.{LeavesOthers}
use Rattle.blk_base.specs.declared.file.File.{File as StoreFile}
use Rattle.q2_format.specs.Created.{Creation, creation_of}
use Rattle.qmp_codec.specs.declared.nodes.CreateFile.{CreateFile}
use Rattle.qmp_codec.specs.declared.nodes.Created.TheVariants as created
use Rattle.qmp_rules.specs.Asks.{stands_for}
use Rattle.qmp_rules.specs.Edits.{create_edits, spoiled}
use Rattle.qmp_rules.specs.Table.{RunTable, node_by_id}
use Rattle.qmp_asks.specs.Values.{amount_or}
use Rattle.qmp_codec.specs.declared.words.ImageFormat.{ImageFormat}
use Rattle.qmp_rules.specs.declared.change.Change.TheVariants.{FormatFile, KeepId, SpoilFile}
use Rattle.qmp_rules.specs.declared.rows.NodeRecord.{NodeRecord}
use Rattle.flat_machine.specs.Performing.{AllPerformed, IsFormatted, ChangesFileAlone, held_bytes}
use Rattle.flat_machine.specs.State.{State, filename_of}
use Rattle.world_parts.specs.Creating.{HasFormatted}
use Rattle.world_parts.specs.Deleting.{Ground, ground_of}
use Rattle.world_parts.specs.Face.{WorldSeen, contents_of, held, node_over}
use Rattle.world_parts.specs.Steps.{StoreSeen}
use Rattle.world_parts.proofs.CarryPlain.{quiet-self}
use Rattle.world_files.proofs.CreatedContents.{holds_image, makes_file, makes_image, spoils_file}
use Rattle.world_files.proofs.MadeCarried.{made_ground, made_table, failed_table}
use Rattle.world_files.proofs.MadeMoves.{IsLoneFile, node_over_it, over_none, shape_made, shape_spoiled, stands-name}
use Rattle.world_parts.proofs.Placed.{placed}
use Rattle.std.specs.List.{list_any}
use Rattle.world_parts.specs.Coherent.{IsWholeWorld}

-- ---- files

module _ (w : WorldSeen) (whole : IsWholeWorld w) (id : List ℕ) (c : CreateFile (List ℕ)) (closed : list_any (stands_for c.filename) w.table.nodes ≡ false) where
  pub performed_made : (s : State) → is_some w.files ≡ true
      → AllPerformed s (create_edits w.table (record { job_id = id; options = created.File c })) (contents_of w) (contents_of (placed w (made_ground w whole id c) (made_table w whole id c)))
  performed_made s told = by_files w.files refl told
    where
      by_files : (files : Option (List StoreFile)) → w.files ≡ files → is_some files ≡ true
          → AllPerformed s (create_edits w.table (record { job_id = id; options = created.File c })) (contents_of w)
          (contents_of (placed w (made_ground w whole id c) (made_table w whole id c)))
      by_files None is bad = absurd (false≢true bad)
      by_files (Some files) is some =
          let v : WorldSeen = placed w (made_ground w whole id c) (made_table w whole id c) in (
            contents_of w,
            quiet-self (contents_of w),
            (
              contents_of v,
              makes_file w v refl (shape_made w.table id c.filename (amount_or 0 (Some c.size))).nodes c.filename (amount_or 0 (Some c.size)) files is
                  (over_none w.table c.filename closed) refl,
              quiet-self (contents_of v),
            ),
          )

  pub performed_failed : (s : State) (store : StoreSeen) → LeavesOthers c.filename w.files store.files
      → AllPerformed s (spoiled w.table (created.File c)) (contents_of w) (contents_of (placed w (record { store = store; nodes = w.nodes }) (failed_table w whole id c)))
  performed_failed s store left =
      let v : WorldSeen = placed w (record { store = store; nodes = w.nodes }) (failed_table w whole id c) in (
        contents_of v,
        spoils_file w v refl (shape_spoiled w.table c.filename closed).nodes (λ node. filename_of s.table node ≡ Some c.filename) c.filename left,
        quiet-self (contents_of v),
      )

-- ---- images

module _ (w : WorldSeen) (whole : IsWholeWorld w) (x : Ground) (u : RunTable) (row : NodeRecord) (name : List ℕ) (lone : IsLoneFile w.table row name) (eased : IsTableEased w.table u)
    (image : Creation) (outcome : Result (Unit {0}) FormatStop) (formatted : HasFormatted row.id (ground_of w) x image outcome) (told : is_some w.files ≡ true) where
  abbrev image_then : WorldSeen
  image_then = placed w x u

  -- the same nodes stand over files
  over-kept : (other : List ℕ) → node_over u other ≡ node_over w.table other
  over-kept other =
      ap (λ (rows : List NodeRecord). option_map (λ (r : NodeRecord). r.id) (find (stands_for other) rows)) eased.rows
      ∙ ap (option_map (λ (r : NodeRecord). r.id)) (find-map (stands_for other) eased.f (λ r. row_same w.table u eased (stands_for other) (λ r'. refl) r) w.table.nodes)
      ∙ by_row (find (stands_for other) w.table.nodes)
    where
      by_row : (found : Option NodeRecord) → option_map (λ (r : NodeRecord). r.id) (option_map eased.f found) ≡ option_map (λ (r : NodeRecord). r.id) found
      by_row None = refl
      by_row (Some r) = ap (λ (n : ℕ). Some n) (row_same w.table u eased (λ r'. r'.id) (λ r'. refl) r)

  only-name : (other : List ℕ) → node_over w.table other ≡ Some row.id → other ≡ name
  only-name other is = by_row (find (stands_for other) w.table.nodes) refl is
    where
      by_row : (found : Option NodeRecord) → find (stands_for other) w.table.nodes ≡ found → option_map (λ (r : NodeRecord). r.id) found ≡ Some row.id → other ≡ name
      by_row None e bad = absurd (let no : ⊥ = cc bad in no)
      by_row (Some r) e same =
          let found = find-Some (stands_for other) w.table.nodes r e in
          let id : r.id ≡ row.id = cc same in
          let apart = whole.coherent.table.stands.apart in
          let one : Some r ≡ Some row = sym (apart r found.0) ∙ ap (node_by_id w.table) id ∙ apart row lone.there in
          same_Some other name (sym (stands-name other r found.1) ∙ ap (λ (o : Option NodeRecord). option_and_then (λ (y : NodeRecord). y.filename) o) one ∙ lone.filename)

  abbrev here : node_over w.table name ≡ Some row.id
  here = node_over_it w.table whole.coherent.table.stands row name lone

  pub makes_it : (but : ℕ → Type 0) → but row.id → ChangesFileAlone but name (contents_of w) (contents_of image_then)
  makes_it but is =
      makes_image w image_then row.id name image outcome formatted.format formatted.others (ap (λ (s : StoreSeen). s.files) formatted.store) over-kept here only-name
      (whole.tell told) but is

  pub holds_it : (done : Unit {0}) → outcome ≡ Ok done → With (held image_then name) (IsFormatted image (held_bytes (contents_of w) name))
  holds_it done is =
      holds_image w image_then row.id name image outcome formatted.format formatted.others (ap (λ (s : StoreSeen). s.files) formatted.store) over-kept here only-name
      (whole.tell told) done is

  pub performed_image : (s : State) (id : List ℕ) (size : ℕ) (file : Option (List ℕ)) (format : Option ImageFormat) (done : Unit {0}) → outcome ≡ Ok done
      → image ≡ creation_of size file (option_map format_name format)
      → AllPerformed s (KeepId id ∷ FormatFile row.id name size file format ∷ []) (contents_of w) (contents_of image_then)
  performed_image s id size file format done is same = (
    contents_of w,
    quiet-self (contents_of w),
    (
      contents_of image_then,
      (
        makes_it (λ other. other ≡ row.id) refl,
        subst (λ (i : Creation). With (held image_then name) (IsFormatted i (held_bytes (contents_of w) name))) same (holds_it done is),
      ),
      quiet-self (contents_of image_then),
    ),
  )

  pub performed_stopped : (s : State) → s.table ≡ w.table → AllPerformed s (SpoilFile name ∷ []) (contents_of w) (contents_of image_then)
  performed_stopped s same = (
    contents_of image_then,
    makes_it (λ node. filename_of s.table node ≡ Some name)
        (ap (λ (t : RunTable). filename_of t row.id) same
        ∙ ap (λ (o : Option NodeRecord). option_and_then (λ (r : NodeRecord). r.filename) o) (whole.coherent.table.stands.apart row lone.there) ∙ lone.filename),
    quiet-self (contents_of image_then),
  )
