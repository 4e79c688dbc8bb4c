-- The parts of a world belong together behind an addition that nothing refused.
use Rattle.std.proofs.Common.{◌≡◌, ℕ, List, refl, sym, ◌∙◌, ap, subst, Option, Some, None}
use Rattle.blk_base.specs.declared.file.Opened.{Opened}
use Rattle.q2_image.specs.Image.{Known}
use Rattle.blk_nodes.specs.Joined.{IsJoined}
use Rattle.blk_nodes.specs.Nodes.{Nodes}
use Rattle.qmp_codec.specs.declared.command.Command.TheVariants as command
use Rattle.qmp_codec.specs.declared.nodes.AddQcow2.{AddQcow2}
use Rattle.qmp_codec.specs.declared.nodes.AddRaw.{AddRaw}
use Rattle.qmp_codec.specs.declared.nodes.Added.{Added}
use Rattle.qmp_codec.specs.declared.nodes.Added.TheVariants as added
use Rattle.qmp_codec.specs.declared.nodes.FileRef.{FileRef}
use Rattle.qmp_codec.specs.declared.nodes.FileRef.TheVariants as file_ref
use Rattle.qmp_rules.specs.Answers.{command_edits, refusal_to}
use Rattle.qmp_rules.specs.Changes.{all_changed}
use Rattle.qmp_rules.specs.Edits.{added_edits, edits_of, qcow2_edits, raw_edits}
use Rattle.qmp_rules.specs.Looks.{file_stop, raw_stop, part_look}
use Rattle.qmp_asks.specs.NodeAsks.{backing_name, is_read_only}
use Rattle.qmp_rules.specs.Table.{RunTable}
use Rattle.qmp_asks.specs.declared.look.Look.TheVariants as look
use Rattle.qmp_rules.specs.declared.told.Told.{Told}
use Rattle.flat_machine.proofs.TableRests.{command_rests}
use Rattle.world_parts.specs.Adding.{Adding, Taken, TellsAddition, TellsInside, TellsLength}
use Rattle.world_parts.specs.Coherent.{IsCoherent}
use Rattle.world_parts.specs.Joining.{HasAdded, HasAddedBy, HasAddedFile, HasAddedImage, HasAddedPart}
use Rattle.world_parts.specs.Looking.{HasCalled, HasLooked, LooksAtImage, LooksAtPart, LooksBy, Site}
use Rattle.world_parts.specs.Progress.{Progress}
use Rattle.world_parts.specs.Stores.{StoreInRun}
use Rattle.world_additions.proofs.AddAsked.{file-short, known-driver, short-file, taken-out}
use Rattle.world_additions.proofs.AddImages.{image-inside, image-there}
use Rattle.world_additions.proofs.AddJoined.{part-short}
use Rattle.world_additions.proofs.AddLooked.{called-alike}
use Rattle.world_additions.proofs.AddMiddle.{Middle, coherent-of, middle-of}
use Rattle.world_additions.proofs.AddSeen.{AsFile, AsImage, AsPart}
use Rattle.world_additions.proofs.AddWhole.{fresh-of, whole-file, whole-filter, whole-image, whole-part}
use Rattle.world_parts.proofs.CountLemmas.{out-same, same-risen}

module _ (t : RunTable) (told : Told) (c : Adding) (none : refusal_to t told (command.BlockdevAdd c) ≡ None) (old now new : Site) (out : Option Taken)
    (image : Option Known) (p : Progress) (was : IsCoherent t old.nodes old.store.opened p) (joined : IsJoined now.nodes) where
  start-same : now.nodes ≡ old.nodes → Middle t now.nodes old.store.opened p
  start-same same = subst (λ (n : Nodes). Middle t n old.store.opened p) (sym same) (middle-of t old.nodes old.store.opened p was)

  start-called : HasCalled old.nodes now.nodes → Middle t now.nodes old.store.opened p
  start-called called = record {
    drives = was.drives;
    disks = was.disks;
    alike = called-alike t c told old now out image called was.alike;
    asks = was.asks;
    writable = was.writable;
    within = was.within;
    allowed = was.allowed;
    count = was.count;
    out = out-same t old.nodes now.nodes old.store.opened (same-risen old.nodes.devices now.nodes.devices called.risen) was.out;
  }

  file-case : (filename : List ℕ) → c.driver ≡ added.File filename → LooksBy t c (added.File filename) old now out image told
      → HasAddedBy t c (added.File filename) out image now.nodes new.nodes
      → Middle (all_changed t (added_edits t told c.node_name (is_read_only c.options) (added.File filename))) new.nodes now.store.opened p
  file-case filename e looks has =
      let taken = taken-out t told c none (record { filename = filename; what = look.File }) (AsFile e refl) old.store now.store out image looks.looks in
      let tells : TellsLength (file_stop filename taken.inside.first.size) taken.inside.first taken.device image told =
      subst (λ (d : Added (List ℕ)). TellsAddition t c.node_name filename d taken.inside.first taken.device image told) e taken.inside.tells in
      let short = file-short t told c none filename taken.inside.first.size (ap (λ (a : Told). a.stopped) tells.is) (rw e refl) in
      let fresh = fresh-of old.store now.store filename taken.inside.first taken.device told taken.inside.out tells.kept (ap (λ (a : Told). a.length) tells.is) short in
      let made : HasAddedFile c (Some taken.device) now.nodes new.nodes = subst (λ (o : Option Taken). HasAddedFile c o now.nodes new.nodes) taken.is has in
      whole-file t told c none old.store now.store old.nodes now.nodes new.nodes p (start-same looks.kept) was.out was.table.stands.apart joined filename e taken.device
      fresh made.0 made.1

  part-case : (raw : AddRaw (List ℕ)) (file : FileRef (List ℕ)) → c.driver ≡ added.Raw raw → raw.file ≡ file → LooksAtPart t c (part_look raw) file old now out image told
      → HasAddedPart t c raw file out now.nodes new.nodes
      → Middle (all_changed t (raw_edits t told c.node_name (is_read_only c.options) raw file)) new.nodes now.store.opened p
  part-case raw (file_ref.Name name) e f looks has =
      let made = subst (λ (o : Option Taken). HasAddedPart t c raw (file_ref.Name name) o now.nodes new.nodes) looks.none has in
      whole-part t told c none old.store now.store old.nodes now.nodes new.nodes p (start-same (ap (λ (x : Site). x.nodes) looks.kept)) was.out was.table.stands.apart joined
      raw (file_ref.Name name) e f None (ap (λ (x : Site). x.store.opened) looks.kept) made
  part-case raw (file_ref.Inline file) e f looks has =
      let taken = taken-out t told c none (record { filename = file.filename; what = part_look raw }) (AsPart raw file e f refl refl) old.store now.store out image looks.looks in
      let tells : TellsLength (raw_stop file.filename raw taken.inside.first.size) taken.inside.first taken.device image told =
      subst (λ (d : Added (List ℕ)). TellsAddition t c.node_name file.filename d taken.inside.first taken.device image told) e taken.inside.tells in
      let short = part-short t told c none raw file e f file.filename taken.inside.first.size (ap (λ (a : Told). a.stopped) tells.is) in
      let fresh = fresh-of old.store now.store file.filename taken.inside.first taken.device told taken.inside.out tells.kept (ap (λ (a : Told). a.length) tells.is) short in
      let made = subst (λ (o : Option Taken). HasAddedPart t c raw (file_ref.Inline file) o now.nodes new.nodes) taken.is has in
      whole-part t told c none old.store now.store old.nodes now.nodes new.nodes p (start-same looks.kept) was.out was.table.stands.apart joined
      raw (file_ref.Inline file) e f (Some taken.device) fresh made

  image-case : (qcow2 : AddQcow2 (List ℕ)) (file : FileRef (List ℕ)) → c.driver ≡ added.Qcow2 qcow2 → qcow2.file ≡ file
      → LooksAtImage t c qcow2 file old now out image told → HasAddedImage t c qcow2 file out image now.nodes new.nodes
      → Middle (all_changed t (qcow2_edits t told c.node_name (is_read_only c.options) (backing_name qcow2.backing) file)) new.nodes now.store.opened p
  image-case qcow2 (file_ref.Name name) e f looks has =
      let there = image-there t told c none qcow2 name e f old.nodes now.nodes image looks.looks in
      let made =
      subst (λ (i : Option Known). HasAddedImage t c qcow2 (file_ref.Name name) None i now.nodes new.nodes) there.1
      (subst (λ (o : Option Taken). HasAddedImage t c qcow2 (file_ref.Name name) o image now.nodes new.nodes) looks.none has) in
      let sized : (other : Known) → Some there.0 ≡ Some other → told.size ≡ Some other.header.size = λ other same.
      let one : there.0 ≡ other = cc same in
      ap (λ (a : Told). a.size) there.2.is ∙ ap (λ (i : Known). Some i.header.size) one in
      whole-image t told c none old.store now.store old.nodes now.nodes new.nodes p (start-called looks.called) was.out was.table.stands.apart joined
      qcow2 (file_ref.Name name) e f None (Some there.0) sized (ap (λ (s : StoreInRun). s.opened) looks.kept) made
  image-case qcow2 (file_ref.Inline file) e f looks has =
      let taken = taken-out t told c none (record { filename = file.filename; what = look.File }) (AsImage qcow2 file e f refl refl) old.store now.store out image looks.looks in
      let tells : TellsInside t c.node_name file.filename qcow2 taken.inside.first taken.device image told =
      subst (λ (d : Added (List ℕ)). TellsAddition t c.node_name file.filename d taken.inside.first taken.device image told) e taken.inside.tells in
      let there = image-inside t told c none qcow2 file e f file.filename taken.inside.first taken.device image tells in
      let short = short-file file.filename taken.inside.first.size there.2.fits in
      let fresh = fresh-of old.store now.store file.filename taken.inside.first taken.device told taken.inside.out there.2.on.kept (ap (λ (a : Told). a.length) there.2.is) short in
      let made =
      subst (λ (i : Option Known). HasAddedImage t c qcow2 (file_ref.Inline file) (Some taken.device) i now.nodes new.nodes) there.1
      (subst (λ (o : Option Taken). HasAddedImage t c qcow2 (file_ref.Inline file) o image now.nodes new.nodes) taken.is has) in
      let sized : (other : Known) → Some there.0 ≡ Some other → told.size ≡ Some other.header.size = λ other same.
      let one : there.0 ≡ other = cc same in
      ap (λ (a : Told). a.size) there.2.is ∙ ap (λ (i : Known). Some i.header.size) one in
      whole-image t told c none old.store now.store old.nodes now.nodes new.nodes p (start-same looks.kept) was.out was.table.stands.apart joined
      qcow2 (file_ref.Inline file) e f (Some taken.device) (Some there.0) sized fresh made

  driver-case : (driver : Added (List ℕ)) → c.driver ≡ driver → LooksBy t c driver old now out image told → HasAddedBy t c driver out image now.nodes new.nodes
      → Middle (all_changed t (added_edits t told c.node_name (is_read_only c.options) driver)) new.nodes now.store.opened p
  driver-case (added.File filename) e looks has = file-case filename e looks has
  driver-case (added.Raw raw) e looks has = part-case raw raw.file e refl looks has
  driver-case (added.Qcow2 qcow2) e looks has = image-case qcow2 qcow2.file e refl looks has
  driver-case (added.CopyOnRead child) e looks has =
      let made = subst (λ (o : Option Taken). HasAddedBy t c (added.CopyOnRead child) o image now.nodes new.nodes) looks.none has in
      rw made.found
      (whole-filter t told c none old.store now.store old.nodes now.nodes new.nodes p (start-same (ap (λ (x : Site). x.nodes) looks.kept)) was.out was.table.stands.apart joined
      child e (ap (λ (x : Site). x.store.opened) looks.kept) made.row made.found made.node made.next)
  driver-case added.Unknown e looks has = let bad = rw e at (known-driver t told c none) in absurd (cc bad)

  pub whole : HasLooked t c old now out image told → HasAdded t c out image now.nodes new.nodes → new.store ≡ now.store
      → IsCoherent (all_changed t (command_edits t told (command.BlockdevAdd c))) new.nodes new.store.opened p
  unfolding edits_of
  whole looks has same =
      subst (λ (o : List Opened). IsCoherent (all_changed t (command_edits t told (command.BlockdevAdd c))) new.nodes o p) (sym (ap (λ (s : StoreInRun). s.opened) same))
      (coherent-of (all_changed t (command_edits t told (command.BlockdevAdd c))) new.nodes now.store.opened p
      (command_rests t told told (command.BlockdevAdd c) refl was.table none).1
      (driver-case c.driver refl looks has))
