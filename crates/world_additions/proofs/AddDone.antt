-- What was looked at for an addition that nothing refuses is all that its nodes need.
use Rattle.std.proofs.Common.{◌≡◌, ℕ, ◌+◌, ◌≤◌, true, List, length, refl, sym, ◌∙◌, ap, subst, arith, Option, Some, None}
use Rattle.q2_image.specs.Image.{Known}
use Rattle.blk_nodes.specs.Joined.{IsJoined}
use Rattle.blk_nodes.specs.Overlays.{HasRoomForNode, IsOpened, IsOpenedOn}
use Rattle.qmp_codec.specs.declared.command.Command.TheVariants as command
use Rattle.qmp_codec.specs.declared.nodes.AddQcow2.{AddQcow2}
use Rattle.qmp_codec.specs.declared.nodes.AddRaw.{AddRaw}
use Rattle.qmp_codec.specs.declared.nodes.Added.{Added}
use Rattle.qmp_codec.specs.declared.nodes.Added.TheVariants as added
use Rattle.qmp_codec.specs.declared.nodes.FileRef.{FileRef}
use Rattle.qmp_codec.specs.declared.nodes.FileRef.TheVariants as file_ref
use Rattle.qmp_rules.specs.Answers.{refusal_to}
use Rattle.qmp_rules.specs.Asks.{file_node, holds, is_file}
use Rattle.qmp_rules.specs.Looks.{raw_stop, part_look}
use Rattle.qmp_asks.specs.Naming.{inline_name}
use Rattle.qmp_rules.specs.Table.{RunTable}
use Rattle.qmp_asks.specs.Values.{most_length}
use Rattle.qmp_asks.specs.declared.ask.Ask.TheVariants as ask
use Rattle.qmp_asks.specs.declared.ask.Drivers.TheVariants as drivers
use Rattle.qmp_rules.specs.declared.rows.NodeRecord.{NodeRecord}
use Rattle.qmp_asks.specs.declared.look.Look.TheVariants as look
use Rattle.qmp_rules.specs.declared.told.Told.{Told}
use Rattle.flat_machine.specs.Wiring.{HaveDistinctIds, TableAtRest}
use Rattle.flat_machine.proofs.Asked.{found-named, room-left, takes-driver}
use Rattle.world_parts.specs.Adding.{Adding, Taken, TellsAddition, TellsInside, TellsLength, of_node}
use Rattle.world_parts.specs.Coherent.{AreNodesOf}
use Rattle.world_additions.specs.Additions.{CanAdd, CanAddBy, CanAddImage, CanAddPart}
use Rattle.world_parts.specs.Looking.{HasLooked, LooksAtImage, LooksAtPart, LooksBy, Site}
use Rattle.world_additions.proofs.AddAsked.{fresh-node, inline-fresh, known-driver, name-said, rest-asked, short-file, taken-out}
use Rattle.world_additions.proofs.AddImages.{image-inside, image-stays, image-there}
use Rattle.world_additions.proofs.AddJoined.{can-image, can-image-inline, can-part-inline, part-short}
use Rattle.world_additions.proofs.AddPlaces.{place-of}
use Rattle.world_additions.proofs.AddReady.{can-filter, can-part}
use Rattle.world_additions.proofs.AddSeen.{AsFile, AsImage, AsPart}

module _ (t : RunTable) (told : Told) (c : Adding) (none : refusal_to t told (command.BlockdevAdd c) ≡ None) (old now : Site)
    (alike : AreNodesOf t now.nodes) (joined : IsJoined now.nodes) (rests : TableAtRest t) (out : Option Taken) (image : Option Known) where
  apart : HaveDistinctIds t
  apart = rests.stands.apart

  -- there is a place for a `file` node that is made with the node over it
  inline-place : (own : Option (List ℕ)) → holds t told (ask.FreshNode (Some c.node_name)) ≡ None → holds t told (ask.FreshNode own) ≡ None
      → length t.nodes + 2 ≤ 64 → HasRoomForNode now.nodes (inline_name c.node_name own)
  inline-place own fresh free room =
      place-of t now.nodes (inline_name c.node_name own) 2 alike
      (inline-fresh t told c.node_name own rests (name-said t told c none) fresh free) (omega arith) room

  ready-part : (raw : AddRaw (List ℕ)) (file : FileRef (List ℕ)) → c.driver ≡ added.Raw raw → raw.file ≡ file
      → LooksAtPart t c (part_look raw) file old now out image told → CanAddPart t c raw file out now.nodes
  ready-part raw (file_ref.Name name) e f looks =
      let rest = rw (e, f) at (rest-asked t told c none) in
      let row = found-named t told name rest.0 in
      subst (λ (o : Option Taken). CanAddPart t c raw (file_ref.Name name) o now.nodes) (sym looks.none)
      (record { row = row.0; found = row.1; can = can-part t now.nodes alike joined apart told c none raw name e f row.0 row.1 })
  ready-part raw (file_ref.Inline file) e f looks =
      let taken = taken-out t told c none (record { filename = file.filename; what = part_look raw }) (AsPart raw file e f refl refl) old.store now.store out image looks.looks in
      let inside = taken.inside in
      let tells : TellsLength (raw_stop file.filename raw inside.first.size) inside.first taken.device image told =
      subst (λ (d : Added (List ℕ)). TellsAddition t c.node_name file.filename d inside.first taken.device image told) e inside.tells in
      let same : inside.first.size ≡ taken.device.size = ap (λ (d : Taken). d.size) (sym tells.kept) in
      let length-is : told.length ≡ Some taken.device.size = ap (λ (a : Told). a.length) tells.is ∙ ap Some same in
      let stops : told.stopped ≡ raw_stop file.filename raw taken.device.size =
      ap (λ (a : Told). a.stopped) tells.is ∙ ap (raw_stop file.filename raw) same in
      let rest = rw (e, f) at (rest-asked t told c none) in
      subst (λ (o : Option Taken). CanAddPart t c raw (file_ref.Inline file) o now.nodes) (sym taken.is)
      (record {
        place = inline-place file.node_name rest.0 rest.1.0 (room-left t told 2 rest.1.1.1.0);
        next = λ between node has.
            can-part-inline t now.nodes alike joined apart told c none raw file e f taken.device
            (record { is = length-is; short = part-short t told c none raw file e f file.filename taken.device.size stops }) stops between node has;
      })

  ready-image : (qcow2 : AddQcow2 (List ℕ)) (file : FileRef (List ℕ)) → c.driver ≡ added.Qcow2 qcow2 → qcow2.file ≡ file
      → LooksAtImage t c qcow2 file old now out image told → CanAddImage t c qcow2 file out image now.nodes
  ready-image qcow2 (file_ref.Name name) e f looks =
      let there = image-there t told c none qcow2 name e f old.nodes now.nodes image looks.looks in
      let well = there.2 in
      let rest = rw (e, f) at (rest-asked t told c none) in
      let row = found-named t told name rest.0 in
      let kind : is_file row.0 ≡ true = takes-driver t told name drivers.File row.0 row.1 rest.1.1.1.1.0 in
      let named : file_node t name ≡ Some row.0 = rw (row.1, kind) refl in
      let both : Some row.0 ≡ Some well.free.row = sym named ∙ well.free.named in
      let one : row.0 ≡ well.free.row = cc both in
      let id : well.id ≡ row.0.id = sym well.free.is ∙ ap (λ (r : NodeRecord). r.id) (sym one) in
      let opened = image-stays old.nodes.devices now.nodes.devices well.id there.0 looks.called.risen well.opened in
      let opened_row = subst (λ (n : ℕ). IsOpened now.nodes.devices n there.0) id opened in
      subst (λ (o : Option Taken). CanAddImage t c qcow2 (file_ref.Name name) o image now.nodes) (sym looks.none)
      (subst (λ (i : Option Known). CanAddImage t c qcow2 (file_ref.Name name) None i now.nodes) (sym there.1)
      (record {
        row = row.0;
        found = row.1;
        can = can-image t now.nodes alike joined apart told c none qcow2 name e f row.0 row.1 there.0 opened_row (ap (λ (a : Told). a.stopped) well.is);
      }))
  ready-image qcow2 (file_ref.Inline file) e f looks =
      let taken = taken-out t told c none (record { filename = file.filename; what = look.File }) (AsImage qcow2 file e f refl refl) old.store now.store out image looks.looks in
      let inside = taken.inside in
      let tells : TellsInside t c.node_name file.filename qcow2 inside.first taken.device image told =
      subst (λ (d : Added (List ℕ)). TellsAddition t c.node_name file.filename d inside.first taken.device image told) e inside.tells in
      let there = image-inside t told c none qcow2 file e f file.filename inside.first taken.device image tells in
      let is = there.2 in
      let length-is : told.length ≡ Some taken.device.size =
      ap (λ (a : Told). a.length) is.is ∙ ap (λ (d : Taken). Some d.size) (sym is.on.kept) in
      let short : taken.device.size ≤ most_length =
      subst (λ (d : Taken). d.size ≤ most_length) (sym is.on.kept) (short-file file.filename inside.first.size is.fits) in
      let on : IsOpenedOn (of_node 0 taken.device) there.0 = subst (λ (d : Taken). IsOpenedOn (of_node 0 d) there.0) (sym is.on.kept) is.on.on in
      let rest = rw (e, f) at (rest-asked t told c none) in
      subst (λ (o : Option Taken). CanAddImage t c qcow2 (file_ref.Inline file) o image now.nodes) (sym taken.is)
      (subst (λ (i : Option Known). CanAddImage t c qcow2 (file_ref.Inline file) (Some taken.device) i now.nodes) (sym there.1)
      (record {
        place = inline-place file.node_name rest.1.0 rest.1.1.0 (room-left t told 2 rest.1.1.1.1.0);
        next = λ between node has.
            can-image-inline t now.nodes alike joined apart told c none qcow2 file e f taken.device there.0 (record { is = length-is; short = short }) on
            (ap (λ (a : Told). a.stopped) is.is)
            between node has;
      }))

  ready-by : (driver : Added (List ℕ)) → c.driver ≡ driver → LooksBy t c driver old now out image told → CanAddBy t c driver out image now.nodes
  ready-by (added.File filename) e looks =
      let taken = taken-out t told c none (record { filename = filename; what = look.File }) (AsFile e refl) old.store now.store out image looks.looks in
      let rest = rw e at (rest-asked t told c none) in
      subst (λ (o : Option Taken). CanAddBy t c (added.File filename) o image now.nodes) (sym taken.is)
      (place-of t now.nodes c.node_name 1 alike (fresh-node t told c.node_name rest.0) (omega arith) (room-left t told 1 rest.1.0))
  ready-by (added.Raw raw) e looks = ready-part raw raw.file e refl looks
  ready-by (added.Qcow2 qcow2) e looks = ready-image qcow2 qcow2.file e refl looks
  ready-by (added.CopyOnRead child) e looks =
      let rest = rw e at (rest-asked t told c none) in
      let row = found-named t told child rest.0 in
      subst (λ (o : Option Taken). CanAddBy t c (added.CopyOnRead child) o image now.nodes) (sym looks.none)
      (record { row = row.0; found = row.1; can = can-filter t now.nodes alike joined apart told c none child e row.0 row.1 })
  ready-by added.Unknown e looks = let bad = rw e at (known-driver t told c none) in absurd (cc bad)

  pub ready : HasLooked t c old now out image told → CanAdd t c out image now.nodes
  ready looks = ready-by c.driver refl looks
