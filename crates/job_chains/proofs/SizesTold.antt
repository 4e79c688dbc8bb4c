-- The image of an accepted addition is as large as its backing node.
use Rattle.std.proofs.Common.{◌≡◌, ℕ, Bool, true, false, List, [], ◌∷◌, ◌++◌, refl, sym, ◌∙◌, ap, subst, inl, inr, Option, Some, None, option_map}
use Rattle.std.specs.Prelude.{◌==◌, nat_lt, ◌&&◌, not, bytes_eq, option_and_then, unwrap_or, IsSome, is_none, codes}
use Rattle.std.specs.List.{Contains}
use Rattle.std.proofs.lemmas.Bool.{eqb-true, not-false, and_right}
use Rattle.blk_graph.proofs.Members.{find-Some}
use Rattle.qmp_codec.specs.Commands.{Cmd}
use Rattle.qmp_codec.specs.declared.command.Command.TheVariants as command
use Rattle.qmp_codec.specs.declared.nodes.FileRef.{FileRef}
use Rattle.qmp_codec.specs.declared.nodes.FileRef.TheVariants as file_ref
use Rattle.qmp_codec.specs.declared.nodes.InlineFile.{InlineFile}
use Rattle.qmp_codec.specs.declared.nodes.AddQcow2.{AddQcow2}
use Rattle.qmp_codec.specs.declared.nodes.Added.{Added}
use Rattle.qmp_codec.specs.declared.nodes.Added.TheVariants as added
use Rattle.qmp_codec.specs.declared.nodes.BlockdevAdd.{BlockdevAdd}
use Rattle.qmp_asks.specs.declared.ask.Ask.TheVariants as ask
use Rattle.qmp_asks.specs.declared.ask.Drivers.TheVariants as drivers
use Rattle.qmp_asks.specs.declared.look.Look.{Look}
use Rattle.qmp_asks.specs.declared.look.Look.TheVariants as look
use Rattle.qmp_asks.specs.CommandAsks.{asks_of}
use Rattle.qmp_asks.specs.Naming.{is_file_name}
use Rattle.qmp_asks.specs.Values.{most_length}
use Rattle.qmp_asks.specs.NodeAsks.{add_values, add_names, added_names, added_rest, file_names, is_read_only, qcow2_rest, backing_name}
use Rattle.qmp_rules.specs.declared.refusal.Refusal.{Refusal}
use Rattle.qmp_rules.specs.declared.refusal.Refusal.TheVariants as refusal
use Rattle.qmp_rules.specs.declared.rows.NodeRecord.{NodeRecord}
use Rattle.qmp_rules.specs.declared.told.Stopped.{Stopped}
use Rattle.qmp_rules.specs.declared.told.Told.{Told}
use Rattle.qmp_rules.specs.Answers.{refusal_to}
use Rattle.qmp_rules.specs.Asks.{if_there, takes, told_at, file_node}
use Rattle.qmp_rules.specs.Looks.{ImageSight, too_long, add_told, stop_at, first_stop, file_stop, unfit_image, told_record, is_unopened, is_free_file}
use Rattle.qmp_rules.specs.Refusals.{refused}
use Rattle.qmp_rules.specs.Table.{RunTable, node_named, first_into}
use Rattle.flat_machine.specs.Sights.{told_for, IsTold, MayStop, adds_at, opens_file, image_sight, content_length}
use Rattle.flat_machine.specs.Standing.{Stands}
use Rattle.flat_machine.specs.State.{State, Content, content_in}
use Rattle.flat_machine.proofs.Accepted.{is_protocol, opened, opened_there, qcow2_told_absent, look-quiet}
use Rattle.flat_machine.proofs.Asked.{NoneHolds, none-holds, none-ahead, none-behind, not-refused, found-named, takes-driver, none-stands, known-file, lone-node, named-file}
use Rattle.job_tables.proofs.StartCommands.{accepted_met}
use Rattle.job_chains.specs.Sizes.{IsToldAsLarge, TellsSizes}

-- ---- what is told where nothing refuses

-- nothing stops at a look, nor behind it
passed : (what : Look) (cause : Option Refusal) (later : Option Stopped) → told_at what (stop_at what cause later) ≡ None → stop_at what cause later ≡ later
passed what None later quiet = refl
passed look.Begin (Some cause) later quiet = absurd cc
passed look.End (Some cause) later quiet = absurd cc
passed look.File (Some cause) later quiet = absurd cc
passed look.Image (Some cause) later quiet = absurd cc
passed look.Backing (Some cause) later quiet = absurd cc
passed look.Size (Some cause) later quiet = absurd cc
passed look.Format (Some cause) later quiet = absurd cc

-- no call failed that would have told more
as_expected : (s : State) (c : BlockdevAdd (List ℕ)) (image : AddQcow2 (List ℕ)) (expected stopped : Option Stopped) → c.driver ≡ added.Qcow2 image
    → MayStop s (command.BlockdevAdd c) expected stopped → (opens_file s.table image.file ≡ true → told_at look.File stopped ≡ None)
    → told_at look.Image stopped ≡ None → stopped ≡ expected
as_expected s c image expected stopped driver (inl same) file quiet = same
as_expected s c image expected None driver (inr (inl fails)) file quiet = absurd fails
as_expected s c image expected (Some stopped) driver (inr (inl fails)) file quiet =
    absurd (by_look stopped.look stopped.refusal (subst (λ d. adds_at s.table stopped.look d ≡ true) driver fails.call) file quiet)
  where
    by_look : (what : Look) (cause : Refusal) → adds_at s.table what (added.Qcow2 image) ≡ true
        → (opens_file s.table image.file ≡ true → told_at look.File (Some (record { look = what; refusal = cause })) ≡ None)
        → told_at look.Image (Some (record { look = what; refusal = cause })) ≡ None → ⊥
    by_look look.File cause call file quiet = let bad = file call in cc
    by_look look.Image cause call file quiet = cc
    by_look look.Begin cause call file quiet = cc
    by_look look.End cause call file quiet = cc
    by_look look.Backing cause call file quiet = cc
    by_look look.Size cause call file quiet = cc
    by_look look.Format cause call file quiet = cc
as_expected s c image expected stopped driver (inr (inr large)) file quiet = absurd (let bad = rw large.1 at quiet in cc bad)

-- an image against which nothing is told has its backing node's size
fits_backing : (t : RunTable) (name : List ℕ) (q : AddQcow2 (List ℕ)) (sight : ImageSight) → told_at look.Image (unfit_image t name q sight) ≡ None
    → told_at look.Backing (unfit_image t name q sight) ≡ None → told_at look.Size (unfit_image t name q sight) ≡ None → (row : NodeRecord)
    → option_and_then (node_named t) (backing_name q.backing) ≡ Some row → row.size ≡ sight.size
fits_backing t name q sight at_image at_backing at_size row found =
    let image : Option Refusal = option_map refusal.Image sight.stop in
    let backing : Option Refusal = refused (sight.names_backing && is_none q.backing) (refusal.BackingNeeded name) in
    let size : Option Refusal = if_there (λ r. refused (not (r.size == sight.size)) (refusal.SizeDiffers name r.name))
    (option_and_then (node_named t) (backing_name q.backing)) in
    let last : Option Stopped = stop_at look.Size size None in
    let first = passed look.Image image (stop_at look.Backing backing last) at_image in
    let second = passed look.Backing backing last (subst (λ x. told_at look.Backing x ≡ None) first at_backing) in
    let third = passed look.Size size None (subst (λ x. told_at look.Size x ≡ None) (first ∙ second) at_size) in
    let none : if_there (λ (r : NodeRecord). refused (not (r.size == sight.size)) (refusal.SizeDiffers name r.name))
    (option_and_then (node_named t) (backing_name q.backing)) ≡ None = none_stopped size third in
    eqb-true row.size sight.size (not-false (row.size == sight.size) (not-refused _ _ (rw found at none)))
  where
    none_stopped : (cause : Option Refusal) → stop_at look.Size cause None ≡ None → cause ≡ None
    none_stopped None is = refl
    none_stopped (Some cause) is = absurd cc

-- ---- what is told of an image

module _ (s : State) (told : Told) (c : BlockdevAdd (List ℕ)) (read_only : Bool) (image : AddQcow2 (List ℕ)) (stands : Stands s) (driver : c.driver ≡ added.Qcow2 image)
    (may : MayStop s (command.BlockdevAdd c) (told_for s (command.BlockdevAdd c)).stopped told.stopped) where
  abbrev IsSized : Type 0
  IsSized = IsToldAsLarge s.table (told_for s (command.BlockdevAdd c)) (added.Qcow2 image)

  named_told : (file filename : List ℕ) (content : Content) → image.file ≡ file_ref.Name file → is_free_file s.table file ≡ true
      → option_and_then (λ row. row.filename) (node_named s.table file) ≡ Some filename → content_in s.files filename ≡ Some content
      → told_for s (command.BlockdevAdd c)
      ≡ told_record None (Some (image_sight content).size) (unfit_image s.table c.node_name image (image_sight content))
  unfolding add_told
  named_told file filename content is free of known = rw (driver, is, of, known, free) refl

  inline_told : (file : InlineFile (List ℕ)) (content : Content) → image.file ≡ file_ref.Inline file → is_unopened s.table file.filename ≡ false
      → content_in s.files file.filename ≡ Some content
      → told_for s (command.BlockdevAdd c)
      ≡ told_record (Some (content_length content)) (Some (image_sight content).size)
      (first_stop (file_stop file.filename (content_length content)) (unfit_image s.table c.node_name image (image_sight content)))
  unfolding add_told
  inline_told file content is closed known = rw (driver, is, known, closed) refl

  sized_by : (content : Content) → (told_for s (command.BlockdevAdd c)).size ≡ Some (image_sight content).size
      → told.stopped ≡ unfit_image s.table c.node_name image (image_sight content) → told_at look.Image told.stopped ≡ None
      → told_at look.Backing told.stopped ≡ None → told_at look.Size told.stopped ≡ None → IsSized
  sized_by content size stops at_image at_backing at_size row found =
      fits_backing s.table c.node_name image (image_sight content) (subst (λ x. told_at look.Image x ≡ None) stops at_image)
      (subst (λ x. told_at look.Backing x ≡ None) stops at_backing) (subst (λ x. told_at look.Size x ≡ None) stops at_size) row found
      ∙ sym (ap (λ n. unwrap_or n 0) size)

  named_sized : (file : List ℕ) → image.file ≡ file_ref.Name file
      → NoneHolds s.table told (qcow2_rest c.node_name read_only (backing_name image.backing) (file_ref.Name file)) → IsToldAsLarge s.table (told_for s (command.BlockdevAdd c)) (added.Qcow2 image)
  named_sized file is asks = by_row (found-named s.table told file asks.0)
    where
      by_row : ((row : NodeRecord) × (node_named s.table file ≡ Some row)) → IsSized
      by_row named = by_name named.0.filename refl
        where
          found : node_named s.table file ≡ Some named.0
          found = named.1

          is_file_row : takes drivers.File named.0.kind ≡ true
          is_file_row = takes-driver s.table told file drivers.File named.0 found asks.1.1.1.1.0

          there : Contains s.table.nodes named.0
          there = (find-Some (λ r. bytes_eq r.name file) s.table.nodes named.0 found).0

          free : is_free_file s.table file ≡ true
          free =
              let lone = lone-node s.table told file named.0 found asks.1.1.1.1.1.1.1.1.1.1.1.1.1.0 in
              let own : file_node s.table file ≡ Some named.0 = rw (found, is_file_row) refl in
              ap (λ (o : Option NodeRecord). elim o as (λ _. Bool) [ None ↦ false | Some r ↦ is_none (first_into r.id s.table.edges) ]) own ∙ ap is_none lone

          by_content : (filename : List ℕ) → named.0.filename ≡ Some filename → (content : Option Content) → content_in s.files filename ≡ content
              → IsSome content → IsSized
          by_content filename at None e some = absurd cc
          by_content filename at (Some content) e some =
              let tells = named_told file filename content is free (ap (option_and_then (λ row. row.filename)) found ∙ at) e in
              let at_image = look-quiet s.table told look.Image asks.1.1.1.1.1.1.1.0 in
              let closed : opens_file s.table image.file ≡ true → ⊥ = λ opens. let bad : false ≡ true = subst (λ f. opens_file s.table f ≡ true) is opens in cc bad in
              sized_by content (ap (λ (x : Told). x.size) tells)
              (as_expected s c image _ told.stopped driver may (λ opens. absurd (closed opens)) at_image ∙ ap (λ (x : Told). x.stopped) tells) at_image
              (look-quiet s.table told look.Backing asks.1.1.1.1.1.1.1.1.0) (look-quiet s.table told look.Size asks.1.1.1.1.1.1.1.1.1.1.1.1.0)

          by_name : (filename : Option (List ℕ)) → named.0.filename ≡ filename → IsSized
          by_name None at = absurd (let named = stands.table.names named.0 there (is_protocol named.0.kind is_file_row) in let none = rw at at named in cc)
          by_name (Some filename) at =
              by_content filename at (content_in s.files filename) refl (stands.files filename named.0 (record { there = there; filename = at }))

  inline_sized : (file : InlineFile (List ℕ)) → image.file ≡ file_ref.Inline file → is_file_name file.filename ≡ true
      → NoneHolds s.table told (qcow2_rest c.node_name read_only (backing_name image.backing) (file_ref.Inline file)) → IsSized
  inline_sized file is named asks = by_content (content_in s.files file.filename) refl there
    where
      closed : is_unopened s.table file.filename ≡ false
      closed =
          opened s.table file.filename named (none-stands s.table told file.filename asks.1.1.1.1.1.1.0) (known-file s.table told file.filename false asks.1.1.1.1.1.1.1.1.0)

      at_file : told_at look.File told.stopped ≡ None
      at_file = look-quiet s.table told look.File asks.1.1.1.1.1.1.1.0

      there : IsSome (content_in s.files file.filename)
      there =
          opened_there s c told file.filename may (λ e. qcow2_told_absent s c image file driver is closed e)
          (λ e. rw (driver, is, e) (and_right (not (is_unopened s.table file.filename)) false refl)) at_file

      by_content : (content : Option Content) → content_in s.files file.filename ≡ content → IsSome content → IsSized
      by_content None e some = absurd cc
      by_content (Some content) e some =
          let tells = inline_told file content is closed e in
          let at_image = look-quiet s.table told look.Image asks.1.1.1.1.1.1.1.1.1.0 in
          let stops = as_expected s c image _ told.stopped driver may (λ opens. at_file) at_image ∙ ap (λ (x : Told). x.stopped) tells in
          sized_by content (ap (λ (x : Told). x.size) tells)
          (stops ∙ not_long (file_stop file.filename (content_length content)) (unfit_image s.table c.node_name image (image_sight content))
          (file_calm (too_long file.filename (nat_lt most_length (content_length content))) (unfit_image s.table c.node_name image (image_sight content))
          (subst (λ x. told_at look.File x ≡ None) stops at_file))) at_image
          (look-quiet s.table told look.Backing asks.1.1.1.1.1.1.1.1.1.1.0) (look-quiet s.table told look.Size asks.1.1.1.1.1.1.1.1.1.1.1.1.1.0)
        where
          not_long : (first later : Option Stopped) → first ≡ None → first_stop first later ≡ later
          not_long None later none = refl
          not_long (Some stopped) later none = absurd cc

          file_calm : (cause : Option Refusal) (later : Option Stopped) → told_at look.File (first_stop (stop_at look.File cause None) later) ≡ None
              → stop_at look.File cause None ≡ None
          file_calm None later none = refl
          file_calm (Some cause) later none = absurd cc

  image_sized : (file : FileRef (List ℕ)) → image.file ≡ file → NoneHolds s.table told (file_names file)
      → NoneHolds s.table told (qcow2_rest c.node_name read_only (backing_name image.backing) file) → IsToldAsLarge s.table (told_for s (command.BlockdevAdd c)) (added.Qcow2 image)
  image_sized (file_ref.Name file) is names asks = named_sized file is asks
  image_sized (file_ref.Inline file) is names asks = inline_sized file is (named-file s.table told (codes "filename") file.filename names.0) asks

-- ---- every command

pub told_sizes : (s : State) (told : Told) (c : Cmd) → Stands s → IsTold s c told → refusal_to s.table told c ≡ None → TellsSizes s.table told c
unfolding asks_of
told_sizes s told c stands is_told quiet =
    by_command c is_told.refusal is_told.image (none-holds s.table told (asks_of c) (accepted_met s.table told c quiet).1.asks)
  where
    by_command : (c : Cmd) → MayStop s c (told_for s c).stopped told.stopped → told.size ≡ (told_for s c).size → NoneHolds s.table told (asks_of c)
        → TellsSizes s.table told c
    by_command (command.BlockdevAdd c) may size asks =
        by_driver c.driver refl
        (none-behind s.table told (add_values c) (add_names c) (none-ahead s.table told (add_values c ++ add_names c) (added_rest c.node_name read_only c.driver) asks)).1
        (none-behind s.table told (add_values c ++ add_names c) (added_rest c.node_name read_only c.driver) asks)
      where
        read_only : Bool
        read_only = is_read_only c.options

        by_driver : (driver : Added (List ℕ)) → c.driver ≡ driver → NoneHolds s.table told (added_names driver)
            → NoneHolds s.table told (added_rest c.node_name read_only driver) → IsToldAsLarge s.table told driver
        by_driver (added.Qcow2 image) is names asks = λ row found.
            image_sized s told c read_only image stands is may image.file refl
            (none-ahead s.table told (file_names image.file) (ask.Named (codes "backing") (backing_name image.backing) ∷ []) names) asks row found
            ∙ sym (ap (λ n. unwrap_or n 0) size)
        by_driver driver is names asks = tt
    by_command c may size asks = tt
