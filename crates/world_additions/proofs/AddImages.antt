-- An image that nothing refuses fits its new node.
use Rattle.std.proofs.Common.{◌≡◌, ◌≢◌, ◌⊎◌, ℕ, ◌≤◌, ◌==◌, Bool, true, false, List, [], ◌∷◌, inl, inr, refl, sym, ◌∙◌, ap, subst, Option, Some, None}
use Rattle.std.specs.Prelude.{bytes_eq, is_none, is_some, if◌then◌else◌, not, ◌&&◌, option_and_then}
use Rattle.std.proofs.lemmas.Bool.{not-false}
use Rattle.blk_graph.proofs.Members.{find-Some}
use Rattle.q2_format.specs.References.{reach_of}
use Rattle.q2_image.specs.Placed.{FitsFile}
use Rattle.q2_format.specs.declared.header.Header.{Header}
use Rattle.q2_format.specs.declared.header.TheConstants.{MIN_HEADER_LENGTH}
use Rattle.q2_image.specs.Image.{Known}
use Rattle.blk_nodes.specs.Nodes.{DeviceSeen, Nodes, device_in}
use Rattle.blk_nodes.specs.Overlays.{IsOpened, backing_size, backing_stop}
use Rattle.blk_nodes.specs.Reading.{HasRisen, HaveRisen}
use Rattle.blk_nodes.specs.declared.stop.AddStop.TheVariants as stops
use Rattle.qmp_codec.specs.declared.command.Command.TheVariants as command
use Rattle.qmp_codec.specs.declared.nodes.AddQcow2.{AddQcow2}
use Rattle.qmp_codec.specs.declared.nodes.Added.TheVariants as added
use Rattle.qmp_codec.specs.declared.nodes.BackingRef.{BackingRef}
use Rattle.qmp_codec.specs.declared.nodes.BackingRef.TheVariants as said
use Rattle.qmp_codec.specs.declared.nodes.FileRef.TheVariants as file_ref
use Rattle.qmp_codec.specs.declared.nodes.InlineFile.{InlineFile}
use Rattle.qmp_rules.specs.Answers.{refusal_to}
use Rattle.qmp_rules.specs.Asks.{file_node, holds, if_there}
use Rattle.qmp_rules.specs.Looks.{unfit_image, is_free_file, stop_at, too_long}
use Rattle.qmp_asks.specs.NodeAsks.{add_asks, backing_name}
use Rattle.qmp_rules.specs.Refusals.{refused}
use Rattle.qmp_rules.specs.Table.{RunTable, first_into, node_by_id, node_named}
use Rattle.qmp_asks.specs.declared.ask.Ask.TheVariants as ask
use Rattle.qmp_asks.specs.declared.ask.Drivers.TheVariants as drivers
use Rattle.qmp_rules.specs.declared.refusal.FileFault.TheVariants.{TooLong}
use Rattle.qmp_rules.specs.declared.refusal.Refusal.{Refusal}
use Rattle.qmp_rules.specs.declared.refusal.Refusal.TheVariants as refusal
use Rattle.qmp_rules.specs.declared.rows.NodeRecord.{NodeRecord}
use Rattle.qmp_asks.specs.declared.look.Look.TheVariants as look
use Rattle.qmp_rules.specs.declared.told.Stopped.{Stopped}
use Rattle.qmp_rules.specs.declared.told.Told.{Told}
use Rattle.flat_machine.specs.Wiring.{HaveDistinctIds}
use Rattle.flat_machine.proofs.Asked.{found-named, lone-node, not-refused, takes-driver}
use Rattle.world_parts.specs.Adding.{Adding, LooksUnder, LooksWell, Taken, TellsAddedImage, TellsInside, opened_sight, probe}
use Rattle.world_parts.specs.Coherent.{AreNodesOf}
use Rattle.world_parts.specs.Joining.{backing_for}
use Rattle.world_additions.proofs.AddAsked.{not-stopped, rest-asked}
use Rattle.world_additions.proofs.AddReady.{size-alike}
use Rattle.world_additions.proofs.AddRefused.{has-named, has-opened, looks-named, silent-named, stop-refused, unreached-refused}
use Rattle.world_additions.proofs.AddTold.{has_look}

-- ---- devices of which counts have risen

pub opened-risen : (old new : List DeviceSeen) → HaveRisen old new → (file : ℕ) (d : DeviceSeen) → device_in old file ≡ Some d
    → (e : DeviceSeen) × (device_in new file ≡ Some e) × HasRisen d e
opened-risen [] [] risen file d is = absurd (let bad : ⊥ = cc is in bad)
opened-risen [] (b ∷ new) risen file d is = absurd risen
opened-risen (a ∷ old) [] risen file d is = absurd risen
opened-risen (a ∷ old) (b ∷ new) risen file d is =
    let node : b.node ≡ a.node = ap (λ (x : DeviceSeen). x.node) risen.0.same in
    subst (λ (n : ℕ). (e : DeviceSeen) × ((if n == file then Some b else device_in new file) ≡ Some e) × HasRisen d e) (sym node)
    (by_test (a.node == file) is (opened-risen old new risen.1 file d))
  where
    by_test : (t : Bool) → (if t then Some a else device_in old file) ≡ Some d
        → (device_in old file ≡ Some d → (e : DeviceSeen) × (device_in new file ≡ Some e) × HasRisen d e)
        → (e : DeviceSeen) × ((if t then Some b else device_in new file) ≡ Some e) × HasRisen d e
    by_test true here rest = let same : a ≡ d = cc here in (b, refl, subst (λ (x : DeviceSeen). HasRisen x b) same risen.0)
    by_test false behind rest = rest behind

pub image-stays : (old new : List DeviceSeen) (file : ℕ) (image : Known) → HaveRisen old new → IsOpened old file image → IsOpened new file image
image-stays old new file image risen opened =
    let now = opened-risen old new risen file opened.device opened.held in
    record {
      device = now.0;
      held = now.1;
      on = record {
        opened = opened.on.opened;
        known = λ bytes told. opened.on.known bytes (sym (ap (λ (d : DeviceSeen). d.content) now.2.same) ∙ told);
        reach = opened.on.reach ∙ ap (λ (n : ℕ). reach_of image.header n) (sym (ap (λ (d : DeviceSeen). d.size) now.2.same));
        long = subst (λ (n : ℕ). MIN_HEADER_LENGTH ≤ n) (sym (ap (λ (d : DeviceSeen). d.size) now.2.same)) opened.on.long;
        fits = subst (λ (n : ℕ). FitsFile n image) (sym (ap (λ (d : DeviceSeen). d.size) now.2.same)) opened.on.fits;
      };
    }

-- ---- what an image tells against which nothing stands

module _ (t : RunTable) (told : Told) (c : Adding) (none : refusal_to t told (command.BlockdevAdd c) ≡ None) (qcow2 : AddQcow2 (List ℕ))
    (e : c.driver ≡ added.Qcow2 qcow2) where
  abbrev names-other : Header → Bool
  names-other header = is_some header.name && is_none qcow2.backing

  abbrev sizes-of : Header → Option Refusal
  sizes-of header = if_there (λ row. refused (not (row.size == header.size)) (refusal.SizeDiffers c.node_name row.name))
      (option_and_then (node_named t) (backing_name qcow2.backing))

  quiet-by : has_look look.Backing (add_asks c) ≡ true → has_look look.Size (add_asks c) ≡ true → (b : Bool) (sizes : Option Refusal)
      → told.stopped ≡ stop_at look.Backing (refused b (refusal.BackingNeeded c.node_name)) (stop_at look.Size sizes None) → (b ≡ false) × (sizes ≡ None)
  quiet-by backing size true sizes stops = absurd (not-stopped t told c none look.Backing (refusal.BackingNeeded c.node_name) stops backing)
  quiet-by backing size false (Some cause) stops = absurd (not-stopped t told c none look.Size cause stops size)
  quiet-by backing size false None stops = (refl, refl)

  has-both : (has_look look.Backing (add_asks c) ≡ true) × (has_look look.Size (add_asks c) ≡ true)
  has-both = by_ref qcow2.file refl
    where
      by_ref : (f : _) → qcow2.file ≡ f → (has_look look.Backing (add_asks c) ≡ true) × (has_look look.Size (add_asks c) ≡ true)
      by_ref (file_ref.Name name) f = (rw (e, f) refl, rw (e, f) refl)
      by_ref (file_ref.Inline file) f = (rw (e, f) refl, rw (e, f) refl)

  pub image-quiet : (header : Header) → told.stopped ≡ unfit_image t c.node_name qcow2 (opened_sight header)
      → (names-other header ≡ false) × (sizes-of header ≡ None)
  image-quiet header stops = quiet-by has-both.0 has-both.1 (names-other header) (sizes-of header) stops

  -- it fits its backing node
  module _ (nodes : Nodes) (alike : AreNodesOf t nodes) (apart : HaveDistinctIds t) (image : Known)
      (quiet : (names-other image.header ≡ false) × (sizes-of image.header ≡ None)) where
    fits-by : (b : Option (BackingRef (List ℕ))) → qcow2.backing ≡ b → holds t told (ask.Found (backing_name b)) ≡ None
        → backing_stop image (backing_for t b) (backing_size nodes (backing_for t b)) ≡ None
    fits-by None is found = by_name (is_some image.header.name) refl
      where
        by_name : (some : Bool) → is_some image.header.name ≡ some → (if some then Some stops.BackingNeeded else None) ≡ None
        by_name false s = refl
        by_name true s = let bad : true ≡ false = rw (s, is) at quiet.0 in absurd (cc bad)
    fits-by (Some said.Null) is found = refl
    fits-by (Some (said.Name name)) is found =
        let row = found-named t told name found in
        let there : node_by_id t row.0.id ≡ Some row.0 = apart row.0 (find-Some (λ (r : NodeRecord). bytes_eq r.name name) t.nodes row.0 row.1).0 in
        let size = size-alike t nodes row.0.id row.0 alike there in
        let sized : (row.0.size == image.header.size) ≡ true = not-false _ (not-refused _ _ (rw (is, row.1) at quiet.1)) in
        rw (row.1, size, sized) refl

    pub image-fits : holds t told (ask.Found (backing_name qcow2.backing)) ≡ None
        → backing_stop image (backing_for t qcow2.backing) (backing_size nodes (backing_for t qcow2.backing)) ≡ None
    image-fits found = fits-by qcow2.backing refl found

-- ---- the image of a `file` node

module _ (t : RunTable) (told : Told) (c : Adding) (none : refusal_to t told (command.BlockdevAdd c) ≡ None) (qcow2 : AddQcow2 (List ℕ)) (file : List ℕ)
    (e : c.driver ≡ added.Qcow2 qcow2) (f : qcow2.file ≡ file_ref.Name file) where
  free-asked : (row : NodeRecord) → node_named t file ≡ Some row → is_free_file t file ≡ true
  free-asked row found =
      let rest = rw (e, f) at (rest-asked t told c none) in
      let kind = takes-driver t told file drivers.File row found rest.1.1.1.1.0 in
      let lone = lone-node t told file row found rest.1.1.1.1.1.1.1.1.1.1.1.1.1.0 in
      let named : file_node t file ≡ Some row = rw (found, kind) refl in
      ap (λ (o : Option NodeRecord). elim o as (λ _. Bool) [ None ↦ false | Some r ↦ is_none (first_into r.id t.edges) ]) named ∙ ap is_none lone

  pub image-there : (old new : Nodes) (image : Option Known) → LooksUnder t c qcow2 file old new image told
      → (open_image : Known) × (image ≡ Some open_image) × LooksWell t c.node_name file qcow2 old new open_image told
  image-there old new (Some open_image) looks = (open_image, refl, looks)
  image-there old new None (inl past) = by_away past.away
    where
      by_away : (refusal_to t (probe look.Image) (command.BlockdevAdd c) ≢ Some refusal.Aborted) ⊎ (is_free_file t file ≡ false)
          → (open_image : Known) × (None ≡ Some open_image) × LooksWell t c.node_name file qcow2 old new open_image told
      by_away (inl not) =
          let same : refusal_to t told (command.BlockdevAdd c) ≡ refusal_to t (probe look.Image) (command.BlockdevAdd c) =
          unreached-refused t look.Image c (looks-named c qcow2 file e f) not told (silent-named c qcow2 file e f told) in
          absurd (stop-refused t (probe look.Image) look.Image refusal.Aborted c refl (has-named c qcow2 file e f) (sym same ∙ none))
      by_away (inr taken) =
          let rest = rw (e, f) at (rest-asked t told c none) in
          let row = found-named t told file rest.0 in
          let bad : true ≡ false = sym (free-asked row.0 row.1) ∙ taken in
          absurd (cc bad)
  image-there old new None (inr badly) =
      absurd (not-stopped t told c none look.Image _ (ap (λ (a : Told). a.stopped) badly.is) (has-named c qcow2 file e f))

-- ---- the image in a file that was opened

long-stopped : (name : List ℕ) (b : Bool) (stopped : Stopped) → stop_at look.File (too_long name b) None ≡ Some stopped
    → stopped ≡ record { look = look.File; refusal = refusal.File name TooLong }
long-stopped name false stopped is = absurd (cc is)
long-stopped name true stopped is = cc (sym is)

module _ (t : RunTable) (told : Told) (c : Adding) (none : refusal_to t told (command.BlockdevAdd c) ≡ None) (qcow2 : AddQcow2 (List ℕ))
    (file : InlineFile (List ℕ)) (e : c.driver ≡ added.Qcow2 qcow2) (f : qcow2.file ≡ file_ref.Inline file) where
  pub image-inside : (filename : List ℕ) (first now : Taken) (image : Option Known) → TellsInside t c.node_name filename qcow2 first now image told
      → (open_image : Known) × (image ≡ Some open_image) × TellsAddedImage t c.node_name filename qcow2 first now open_image told
  image-inside filename first now (Some open_image) tells = (open_image, refl, tells)
  image-inside filename first now None (inl long) =
      let is = long-stopped filename _ long.stopped long.long in
      absurd (not-stopped t told c none look.File (refusal.File filename TooLong) (ap (λ (a : Told). a.stopped) long.is ∙ ap Some is) (has-opened c qcow2 file e f).0)
  image-inside filename first now None (inr why) =
      absurd (not-stopped t told c none look.Image why.why (ap (λ (a : Told). a.stopped) why.is) (has-opened c qcow2 file e f).1)
