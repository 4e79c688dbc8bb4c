-- What an addition leaves of the world, carried out, refused or not made.
use Rattle.std.proofs.Common.{◌≡◌, ℕ, List, refl, sym, ◌∙◌, ap, subst, Option, Some, None}
use Rattle.std.specs.Prelude.{option_and_then}
use Rattle.blk_base.specs.declared.file.File.{File}
use Rattle.q2_image.specs.Image.{Known}
use Rattle.blk_nodes.specs.Joined.{IsJoined}
use Rattle.blk_nodes.specs.Nodes.{Nodes}
use Rattle.qmp_codec.specs.declared.command.Command.TheVariants as command
use Rattle.qmp_codec.specs.declared.nodes.AddQcow2.{AddQcow2}
use Rattle.qmp_codec.specs.declared.nodes.AddRaw.{AddRaw}
use Rattle.qmp_codec.specs.declared.nodes.Added.{Added}
use Rattle.qmp_codec.specs.declared.nodes.Added.TheVariants as added
use Rattle.qmp_codec.specs.declared.nodes.FileRef.{FileRef}
use Rattle.qmp_codec.specs.declared.nodes.FileRef.TheVariants as file_ref
use Rattle.qmp_rules.specs.Answers.{command_edits, refusal_to}
use Rattle.qmp_rules.specs.Asks.{id_or}
use Rattle.qmp_rules.specs.Changes.{all_changed}
use Rattle.qmp_rules.specs.Edits.{added_edits, edits_of, free_id, image_row, qcow2_edits, raw_edits}
use Rattle.qmp_rules.specs.Looks.{file_stop, raw_stop, part_look}
use Rattle.qmp_asks.specs.NodeAsks.{backing_name, is_read_only}
use Rattle.qmp_rules.specs.Table.{RunTable, id_named}
use Rattle.qmp_rules.specs.declared.change.Change.{Change}
use Rattle.qmp_asks.specs.declared.look.Look.TheVariants as look
use Rattle.qmp_rules.specs.declared.told.Told.{Told}
use Rattle.flat_machine.specs.Performing.{AllPerformed, IsQuiet}
use Rattle.flat_machine.specs.State.{State}
use Rattle.world_parts.specs.Adding.{Adding, IsTakenOut, Taken, TellsAddition, TellsInside, TellsLength}
use Rattle.world_parts.specs.Coherent.{IsCoherent}
use Rattle.world_parts.specs.Face.{WorldSeen, contents_of, told_bytes}
use Rattle.world_parts.specs.Joining.{HasAdded, HasAddedBy, HasAddedFile, HasAddedImage, HasAddedPart}
use Rattle.world_parts.specs.Looking.{HasLooked, LooksAtImage, LooksAtPart, LooksBy, Site}
use Rattle.world_parts.specs.Staging.{site_of, store_of}
use Rattle.world_parts.specs.Stores.{StoreInRun}
use Rattle.world_additions.proofs.AddAsked.{file-short, known-driver, short-file, taken-out}
use Rattle.world_additions.proofs.AddBack.{alike-called, coherent-put}
use Rattle.world_additions.proofs.AddDid.{did-sooner}
use Rattle.world_additions.proofs.AddImages.{image-inside, image-there}
use Rattle.world_additions.proofs.AddJoined.{part-short}
use Rattle.world_additions.proofs.AddLooks.{holds-file}
use Rattle.world_additions.proofs.AddMiddle.{middle-of}
use Rattle.world_additions.proofs.AddQuiet.{quiet-called}
use Rattle.world_additions.proofs.AddSeen.{AsFile, AsImage, AsPart}
use Rattle.world_additions.proofs.AddShown.{shown-file, shown-filter, shown-inline, shown-named, shown-part}
use Rattle.world_additions.proofs.AddWhole.{fresh-of}
use Rattle.world_parts.proofs.CountLemmas.{out-same, same-risen}

-- the world with this store, these nodes and this table
abbrev pub sited : WorldSeen → Site → RunTable → WorldSeen
sited w x u = record w {
  files = x.store.files;
  earlier = x.store.earlier;
  opened = x.store.opened;
  room = x.store.room;
  faults = x.store.faults;
  failed_call = x.store.failed_call;
  nodes = x.nodes;
  table = u;
}

-- a file that was opened holds what its device does
opened-bytes : (w : WorldSeen) (files : List File) (now : StoreInRun) (filename : List ℕ) (first device : Taken) → w.files ≡ Some files
    → IsTakenOut (store_of w) now filename first → device ≡ first → device.content ≡ told_bytes w.files filename
opened-bytes w files now filename first device told out same =
    let holds = holds-file (store_of w) now files filename first told out in
    ap (λ (d : Taken). d.content) same ∙ holds.content ∙ sym holds.there ∙ ap (λ (f : Option (List File)). told_bytes f filename) (sym told)

-- ---- the nodes of an addition, as the flat machine sees them

module _ (w : WorldSeen) (coherent : IsCoherent w.table w.nodes w.opened w.progress) (joined : IsJoined w.nodes) (c : Adding) (told : Told)
    (none : refusal_to w.table told (command.BlockdevAdd c) ≡ None) (now : Site) (joined' : IsJoined now.nodes) (out : Option Taken) (image : Option Known)
    (v : WorldSeen) (same_files : v.files ≡ w.files) (files : List File) (told_files : w.files ≡ Some files) (s : State) (table_is : s.table ≡ w.table) where
  abbrev Did : List Change → Type 0
  Did changes = AllPerformed s changes (contents_of w) (contents_of v)

  did-file-by : (filename : List ℕ) → c.driver ≡ added.File filename → LooksBy w.table c (added.File filename) (site_of w) now out image told
      → HasAddedBy w.table c (added.File filename) out image now.nodes v.nodes
      → v.table ≡ all_changed w.table (added_edits w.table told c.node_name (is_read_only c.options) (added.File filename))
      → Did (added_edits w.table told c.node_name (is_read_only c.options) (added.File filename))
  did-file-by filename e looks has table =
      let taken = taken-out w.table told c none (record { filename = filename; what = look.File }) (AsFile e refl) (store_of w) now.store out image looks.looks in
      let tells : TellsLength (file_stop filename taken.inside.first.size) taken.inside.first taken.device image told =
      subst (λ (d : Added (List ℕ)). TellsAddition w.table c.node_name filename d taken.inside.first taken.device image told) e taken.inside.tells in
      let short = file-short w.table told c none filename taken.inside.first.size (ap (λ (a : Told). a.stopped) tells.is) (rw e refl) in
      let fresh = fresh-of (store_of w) now.store filename taken.inside.first taken.device told taken.inside.out tells.kept (ap (λ (a : Told). a.length) tells.is) short in
      let made : HasAddedFile c (Some taken.device) w.nodes v.nodes =
      subst (λ (n : Nodes). HasAddedFile c (Some taken.device) n v.nodes) looks.kept
      (subst (λ (o : Option Taken). HasAddedFile c o now.nodes v.nodes) taken.is has) in
      shown-file w v told c none (store_of w) now.store coherent.out (middle-of w.table w.nodes w.opened w.progress coherent) coherent.table joined same_files s table_is
      filename e taken.device fresh (opened-bytes w files now.store filename taken.inside.first taken.device told_files taken.inside.out tells.kept) made.0 made.1 table

  did-part-by : (raw : AddRaw (List ℕ)) (file : FileRef (List ℕ)) → c.driver ≡ added.Raw raw → raw.file ≡ file → LooksAtPart w.table c (part_look raw) file (site_of w) now out image told
      → HasAddedPart w.table c raw file out now.nodes v.nodes
      → v.table ≡ all_changed w.table (raw_edits w.table told c.node_name (is_read_only c.options) raw file)
      → Did (raw_edits w.table told c.node_name (is_read_only c.options) raw file)
  did-part-by raw (file_ref.Name name) e f looks has table =
      let made =
      subst (λ (n : Nodes). HasAddedPart w.table c raw (file_ref.Name name) None n v.nodes) (ap (λ (x : Site). x.nodes) looks.kept)
      (subst (λ (o : Option Taken). HasAddedPart w.table c raw (file_ref.Name name) o now.nodes v.nodes) looks.none has) in
      shown-part w v told c none (store_of w) now.store coherent.out (middle-of w.table w.nodes w.opened w.progress coherent) coherent.table joined same_files s table_is
      raw (file_ref.Name name) e f None (ap (λ (x : Site). x.store.opened) looks.kept) tt made table
  did-part-by raw (file_ref.Inline file) e f looks has table =
      let taken = taken-out w.table told c none (record { filename = file.filename; what = part_look raw }) (AsPart raw file e f refl refl) (store_of w) now.store out image looks.looks in
      let tells : TellsLength (raw_stop file.filename raw taken.inside.first.size) taken.inside.first taken.device image told =
      subst (λ (d : Added (List ℕ)). TellsAddition w.table c.node_name file.filename d taken.inside.first taken.device image told) e taken.inside.tells in
      let short = part-short w.table told c none raw file e f file.filename taken.inside.first.size (ap (λ (a : Told). a.stopped) tells.is) in
      let fresh = fresh-of (store_of w) now.store file.filename taken.inside.first taken.device told taken.inside.out tells.kept (ap (λ (a : Told). a.length) tells.is) short in
      let made =
      subst (λ (n : Nodes). HasAddedPart w.table c raw (file_ref.Inline file) (Some taken.device) n v.nodes) looks.kept
      (subst (λ (o : Option Taken). HasAddedPart w.table c raw (file_ref.Inline file) o now.nodes v.nodes) taken.is has) in
      shown-part w v told c none (store_of w) now.store coherent.out (middle-of w.table w.nodes w.opened w.progress coherent) coherent.table joined same_files s table_is
      raw (file_ref.Inline file) e f (Some taken.device) fresh
      (opened-bytes w files now.store file.filename taken.inside.first taken.device told_files taken.inside.out tells.kept) made table

  did-image-by : (q : AddQcow2 (List ℕ)) (file : FileRef (List ℕ)) → c.driver ≡ added.Qcow2 q → q.file ≡ file
      → LooksAtImage w.table c q file (site_of w) now out image told → HasAddedImage w.table c q file out image now.nodes v.nodes
      → v.table ≡ all_changed w.table (qcow2_edits w.table told c.node_name (is_read_only c.options) (backing_name q.backing) file)
      → Did (qcow2_edits w.table told c.node_name (is_read_only c.options) (backing_name q.backing) file)
  did-image-by q (file_ref.Name name) e f looks has table =
      let there = image-there w.table told c none q name e f w.nodes now.nodes image looks.looks in
      let y : WorldSeen = record w { nodes = now.nodes } in
      let made =
      subst (λ (i : Option Known). HasAddedImage w.table c q (file_ref.Name name) None i now.nodes v.nodes) there.1
      (subst (λ (o : Option Taken). HasAddedImage w.table c q (file_ref.Name name) o image now.nodes v.nodes) looks.none has) in
      let out_y = out-same w.table w.nodes now.nodes w.opened (same-risen w.nodes.devices now.nodes.devices looks.called.risen) coherent.out in
      let coherent_y = coherent-put w.table w.nodes now.nodes w.opened w.opened w.progress coherent (alike-called w.table w.nodes now.nodes looks.called coherent.alike) out_y in
      let did =
      shown-named y v told c none (store_of w) now.store out_y (middle-of w.table now.nodes w.opened w.progress coherent_y) coherent.table joined' same_files s table_is
      q name e f there.0 (ap (λ (a : Told). a.size) there.2.is) made table in
      let quiet : IsQuiet (contents_of w) (contents_of y) = quiet-called w y refl refl looks.called in
      (did.0, did-sooner s (contents_of w) (contents_of y) did.0 (image_row (free_id w.table) told c.node_name (is_read_only c.options)) (id_or 0 w.table (Some name)) (option_and_then (id_named w.table) (backing_name q.backing)) quiet did.1, did.2)
  did-image-by q (file_ref.Inline file) e f looks has table =
      let taken = taken-out w.table told c none (record { filename = file.filename; what = look.File }) (AsImage q file e f refl refl) (store_of w) now.store out image looks.looks in
      let tells : TellsInside w.table c.node_name file.filename q taken.inside.first taken.device image told =
      subst (λ (d : Added (List ℕ)). TellsAddition w.table c.node_name file.filename d taken.inside.first taken.device image told) e taken.inside.tells in
      let there = image-inside w.table told c none q file e f file.filename taken.inside.first taken.device image tells in
      let short = short-file file.filename taken.inside.first.size there.2.fits in
      let fresh = fresh-of (store_of w) now.store file.filename taken.inside.first taken.device told taken.inside.out there.2.on.kept (ap (λ (a : Told). a.length) there.2.is) short in
      let made =
      subst (λ (n : Nodes). HasAddedImage w.table c q (file_ref.Inline file) (Some taken.device) (Some there.0) n v.nodes) looks.kept
      (subst (λ (i : Option Known). HasAddedImage w.table c q (file_ref.Inline file) (Some taken.device) i now.nodes v.nodes) there.1
      (subst (λ (o : Option Taken). HasAddedImage w.table c q (file_ref.Inline file) o image now.nodes v.nodes) taken.is has)) in
      shown-inline w v told c none (store_of w) now.store coherent.out (middle-of w.table w.nodes w.opened w.progress coherent) coherent.table joined same_files s table_is
      q file e f taken.device there.0 (ap (λ (a : Told). a.size) there.2.is) fresh
      (opened-bytes w files now.store file.filename taken.inside.first taken.device told_files taken.inside.out there.2.on.kept) made table

  did-by : (driver : Added (List ℕ)) → c.driver ≡ driver → LooksBy w.table c driver (site_of w) now out image told
      → HasAddedBy w.table c driver out image now.nodes v.nodes → v.table ≡ all_changed w.table (added_edits w.table told c.node_name (is_read_only c.options) driver)
      → Did (added_edits w.table told c.node_name (is_read_only c.options) driver)
  did-by (added.File filename) e looks has table = did-file-by filename e looks has table
  did-by (added.Raw raw) e looks has table = did-part-by raw raw.file e refl looks has table
  did-by (added.Qcow2 q) e looks has table = did-image-by q q.file e refl looks has table
  did-by (added.CopyOnRead child) e looks has table =
      let made =
      subst (λ (n : Nodes). HasAddedBy w.table c (added.CopyOnRead child) None image n v.nodes) (ap (λ (x : Site). x.nodes) looks.kept)
      (subst (λ (o : Option Taken). HasAddedBy w.table c (added.CopyOnRead child) o image now.nodes v.nodes) looks.none has) in
      rw made.found
      (shown-filter w v told c none (store_of w) now.store coherent.out (middle-of w.table w.nodes w.opened w.progress coherent) coherent.table joined same_files s table_is
      child e made.row made.found made.node made.next (rw made.found at table))
  did-by added.Unknown e looks has table = let bad = rw e at (known-driver w.table told c none) in absurd (cc bad)

  pub did-all : HasLooked w.table c (site_of w) now out image told → HasAdded w.table c out image now.nodes v.nodes
      → v.table ≡ all_changed w.table (command_edits w.table told (command.BlockdevAdd c)) → Did (command_edits w.table told (command.BlockdevAdd c))
  unfolding edits_of
  did-all looks has table = did-by c.driver refl looks has table
