-- What was read before leaves the device; then all writes are made, or some.
use Rattle.std.proofs.Common.{◌≡◌, ◌≤◌, ℕ, Some, None, Err, refl, sym, subst, ◌∙◌, arith}
use Rattle.std.proofs.lemmas.Result.{err_from_is_err_and}
use Rattle.std.specs.Option.{option_copied}
use Rattle.blk_base.specs.declared.fault.DevStop.{DevStop}
use Rattle.blk_base.specs.declared.fault.DevStop.TheVariants.{NoSpace}
use Rattle.q2_format.specs.Created.{IsNewName, IsNewFormat}
use Rattle.q2_format.proofs.Placed.{copied_fits}
use Rattle.q2_image.specs.BackingName.{RenamesImage, early_writes, rename_end}
use Rattle.q2_image.specs.Writing.{TellsFault}
use Rattle.q2_image.proofs.NameAnswers.{behind_read, early_behind_read, early_changes, early_fault, early_told, last_changes, last_disk_is, last_image_is, last_kept, last_named, renames_cause, stopped_as}
use Rattle.q2_image.proofs.NameStops.{rename_stops}
use Rattle.q2_image.proofs.image.Image.set_backing_name.Goals as goal

pub returns-then-not-name_fits-clause-stops : goal.returns-then-not-name_fits-clause-stops
returns-then-not-name_fits-clause-stops g c = λ file told.
    rename_stops file c.args.self.now (option_copied c.args.name) (option_copied c.args.format) (c.requires.image file told) c.name_fits.ensures.open
    (copied_fits IsNewName c.args.name c.requires.name) (copied_fits IsNewFormat c.args.format c.requires.format) c.name_fits.ensures.text

pub returns-in_err-length-clause-stops : goal.returns-in_err-length-clause-stops
returns-in_err-length-clause-stops g c = λ file told.
    rename_stops file c.args.self.now (option_copied c.args.name) (option_copied c.args.format) (c.requires.image file told) c.name_fits.ensures.open
    (copied_fits IsNewName c.args.name c.requires.name) (copied_fits IsNewFormat c.args.format c.requires.format) c.name_fits.ensures.text

pub returns-in_err-length-clause-image : goal.returns-in_err-length-clause-image
returns-in_err-length-clause-image g c = λ file told. c.requires.image file (sym c.ending_length.ensures.reads.reads.content ∙ told)

pub write_before_fields-requires-clause-image : goal.write_before_fields-requires-clause-image
write_before_fields-requires-clause-image g c = λ file told. c.requires.image file (sym c.ending_length.ensures.reads.reads.content ∙ told)

pub returns-in_err-write_before_fields-clause-changes : goal.returns-in_err-write_before_fields-clause-changes
returns-in_err-write_before_fields-clause-changes g c =
    let name = option_copied c.args.name in
    let format = option_copied c.args.format in
    let n : ℕ = c.in_ok-length.length in
    let p = err_from_is_err_and c.from_residual-in_err-write_before_fields.result c.from_residual-in_err-write_before_fields.ensures.1 in
    let stop : DevStop = c.in_err-write_before_fields.field-0.0 in
    let first = early_behind_read g.D.Device c.args.self.now c.write_before_fields.new.self n name format (Some stop) c.args.dev.now c.ending_length.new.dev c.write_before_fields.new.dev
    c.in_ok-length.ensures.reads c.in_err-write_before_fields.ensures.makes in
    let fits : rename_end c.args.self.now name format ≤ g.D.Device.capacity c.args.dev.now = subst (λ (x : ℕ). rename_end c.args.self.now name format ≤ x) c.capacity.ensures (c.if-not-name_fits.ensures.fits.0 refl) in
    let new_name = copied_fits IsNewName c.args.name c.requires.name in
    let new_format = copied_fits IsNewFormat c.args.format c.requires.format in
    let Q : DevStop → Type 0 = λ x. RenamesImage g.D.Device c.args.self.now name format (stopped_as x) c.write_before_fields.new.self c.args.dev.now c.write_before_fields.new.dev in
    rw p.1 (subst Q (sym p.2) (early_changes g.D.Device c.args.self.now name format n c.args.dev.now c.write_before_fields.new.dev c.write_before_fields.new.dev c.name_fits.ensures.open new_name new_format fits c.in_ok-length.ensures.length
    stop c.write_before_fields.new.self (g.met.D.Device.told_size c.args.dev.now) first))

pub returns-in_err-write_before_fields-clause-cause : goal.returns-in_err-write_before_fields-clause-cause
returns-in_err-write_before_fields-clause-cause g c =
    renames_cause g.D.Device c.args.self.now c.write_before_fields.new.self (option_copied c.args.name) (option_copied c.args.format) c.from_residual-in_err-write_before_fields.result
    c.args.dev.now c.write_before_fields.new.dev (returns-in_err-write_before_fields-clause-changes g c)

pub returns-in_err-write_before_fields-clause-stops : goal.returns-in_err-write_before_fields-clause-stops
returns-in_err-write_before_fields-clause-stops g c = λ file told.
    rename_stops file c.args.self.now (option_copied c.args.name) (option_copied c.args.format) (c.requires.image file told) c.name_fits.ensures.open
    (copied_fits IsNewName c.args.name c.requires.name) (copied_fits IsNewFormat c.args.format c.requires.format) c.name_fits.ensures.text

pub returns-in_err-write_before_fields-clause-kept : goal.returns-in_err-write_before_fields-clause-kept
returns-in_err-write_before_fields-clause-kept g c =
    let name = option_copied c.args.name in
    let format = option_copied c.args.format in
    let n : ℕ = c.in_ok-length.length in
    let p = err_from_is_err_and c.from_residual-in_err-write_before_fields.result c.from_residual-in_err-write_before_fields.ensures.1 in
    let stop : DevStop = c.in_err-write_before_fields.field-0.0 in
    let first = behind_read g.D.Device (early_writes c.args.self.now n name format) (Some stop) c.args.dev.now c.ending_length.new.dev c.write_before_fields.new.dev
    c.in_ok-length.ensures.reads c.in_err-write_before_fields.ensures.makes.writes in
    let fits : rename_end c.args.self.now name format ≤ g.D.Device.capacity c.args.dev.now = subst (λ (x : ℕ). rename_end c.args.self.now name format ≤ x) c.capacity.ensures (c.if-not-name_fits.ensures.fits.0 refl) in
    let new_name = copied_fits IsNewName c.args.name c.requires.name in
    let new_format = copied_fits IsNewFormat c.args.format c.requires.format in
    rw p.1 (λ old new was told. (early_told g.D.Device c.args.self.now name format n c.args.dev.now c.write_before_fields.new.dev c.write_before_fields.new.dev c.requires.image c.name_fits.ensures.open new_name new_format (Some stop) first old new was told).name)

pub returns-in_err-write_before_fields-clause-disk : goal.returns-in_err-write_before_fields-clause-disk
returns-in_err-write_before_fields-clause-disk g c =
    let name = option_copied c.args.name in
    let format = option_copied c.args.format in
    let n : ℕ = c.in_ok-length.length in
    let p = err_from_is_err_and c.from_residual-in_err-write_before_fields.result c.from_residual-in_err-write_before_fields.ensures.1 in
    let stop : DevStop = c.in_err-write_before_fields.field-0.0 in
    let first = behind_read g.D.Device (early_writes c.args.self.now n name format) (Some stop) c.args.dev.now c.ending_length.new.dev c.write_before_fields.new.dev
    c.in_ok-length.ensures.reads c.in_err-write_before_fields.ensures.makes.writes in
    let fits : rename_end c.args.self.now name format ≤ g.D.Device.capacity c.args.dev.now = subst (λ (x : ℕ). rename_end c.args.self.now name format ≤ x) c.capacity.ensures (c.if-not-name_fits.ensures.fits.0 refl) in
    let new_name = copied_fits IsNewName c.args.name c.requires.name in
    let new_format = copied_fits IsNewFormat c.args.format c.requires.format in
    λ old new was told. (early_told g.D.Device c.args.self.now name format n c.args.dev.now c.write_before_fields.new.dev c.write_before_fields.new.dev c.requires.image c.name_fits.ensures.open new_name new_format (Some stop) first old new was told).disk

pub returns-in_err-write_before_fields-clause-no_space : goal.returns-in_err-write_before_fields-clause-no_space
returns-in_err-write_before_fields-clause-no_space g c =
    let name = option_copied c.args.name in
    let format = option_copied c.args.format in
    let n : ℕ = c.in_ok-length.length in
    let p = err_from_is_err_and c.from_residual-in_err-write_before_fields.result c.from_residual-in_err-write_before_fields.ensures.1 in
    let stop : DevStop = c.in_err-write_before_fields.field-0.0 in
    let first = behind_read g.D.Device (early_writes c.args.self.now n name format) (Some stop) c.args.dev.now c.ending_length.new.dev c.write_before_fields.new.dev
    c.in_ok-length.ensures.reads c.in_err-write_before_fields.ensures.makes.writes in
    let fits : rename_end c.args.self.now name format ≤ g.D.Device.capacity c.args.dev.now = subst (λ (x : ℕ). rename_end c.args.self.now name format ≤ x) c.capacity.ensures (c.if-not-name_fits.ensures.fits.0 refl) in
    let new_name = copied_fits IsNewName c.args.name c.requires.name in
    let new_format = copied_fits IsNewFormat c.args.format c.requires.format in
    let fault = subst TellsFault (sym p.2) (early_fault g.D.Device c.args.self.now name format n c.args.dev.now c.write_before_fields.new.dev c.write_before_fields.new.dev c.name_fits.ensures.open new_name new_format fits c.in_ok-length.ensures.length stop first) in
    (λ is. absurd (not_space p.0 fault (sym p.1 ∙ is)), λ beyond. absurd (omega (arith, beyond, fits)))
  where
    not_space : (x : DevStop) → TellsFault x → stopped_as x ≡ Err NoSpace → ⊥
    not_space x fault is = let same : x ≡ NoSpace = cc in subst TellsFault same fault

pub returns-clause-changes : goal.returns-clause-changes
returns-clause-changes g c =
    let name = option_copied c.args.name in
    let format = option_copied c.args.format in
    let n : ℕ = c.in_ok-length.length in
    let first = behind_read g.D.Device (early_writes c.args.self.now n name format) None c.args.dev.now c.ending_length.new.dev c.write_before_fields.new.dev
    c.in_ok-length.ensures.reads c.in_ok-write_before_fields.ensures.makes.writes in
    let fits : rename_end c.args.self.now name format ≤ g.D.Device.capacity c.args.dev.now = subst (λ (x : ℕ). rename_end c.args.self.now name format ≤ x) c.capacity.ensures (c.if-not-name_fits.ensures.fits.0 refl) in
    let new_name = copied_fits IsNewName c.args.name c.requires.name in
    let new_format = copied_fits IsNewFormat c.args.format c.requires.format in
    last_changes g.D.Device c.args.self.now name format n c.args.dev.now c.write_before_fields.new.dev c.write_fields.new.dev c.name_fits.ensures.open new_name new_format fits c.in_ok-length.ensures.length c.write_before_fields.new.self c.write_fields.new.self
    c.in_ok-write_before_fields.ensures.ok first c.write_fields.result c.write_fields.ensures.makes c.write_fields.ensures.ok c.write_fields.ensures.err

pub returns-clause-cause : goal.returns-clause-cause
returns-clause-cause g c =
    renames_cause g.D.Device c.args.self.now c.write_fields.new.self (option_copied c.args.name) (option_copied c.args.format) c.write_fields.result
    c.args.dev.now c.write_fields.new.dev (returns-clause-changes g c)

pub returns-clause-stops : goal.returns-clause-stops
returns-clause-stops g c = λ file told.
    rename_stops file c.args.self.now (option_copied c.args.name) (option_copied c.args.format) (c.requires.image file told) c.name_fits.ensures.open
    (copied_fits IsNewName c.args.name c.requires.name) (copied_fits IsNewFormat c.args.format c.requires.format) c.name_fits.ensures.text

pub returns-clause-named : goal.returns-clause-named
returns-clause-named g c =
    let name = option_copied c.args.name in
    let format = option_copied c.args.format in
    let n : ℕ = c.in_ok-length.length in
    let first = behind_read g.D.Device (early_writes c.args.self.now n name format) None c.args.dev.now c.ending_length.new.dev c.write_before_fields.new.dev
    c.in_ok-length.ensures.reads c.in_ok-write_before_fields.ensures.makes.writes in
    let fits : rename_end c.args.self.now name format ≤ g.D.Device.capacity c.args.dev.now = subst (λ (x : ℕ). rename_end c.args.self.now name format ≤ x) c.capacity.ensures (c.if-not-name_fits.ensures.fits.0 refl) in
    let new_name = copied_fits IsNewName c.args.name c.requires.name in
    let new_format = copied_fits IsNewFormat c.args.format c.requires.format in
    last_named g.D.Device c.args.self.now name format n c.args.dev.now c.write_before_fields.new.dev c.write_fields.new.dev c.requires.image c.name_fits.ensures.open new_name new_format c.name_fits.ensures.text c.in_ok-length.ensures.length
    c.write_before_fields.new.self c.write_fields.new.self c.in_ok-write_before_fields.ensures.ok first c.write_fields.result c.write_fields.ensures.makes

pub returns-clause-kept : goal.returns-clause-kept
returns-clause-kept g c =
    let name = option_copied c.args.name in
    let format = option_copied c.args.format in
    let n : ℕ = c.in_ok-length.length in
    let first = behind_read g.D.Device (early_writes c.args.self.now n name format) None c.args.dev.now c.ending_length.new.dev c.write_before_fields.new.dev
    c.in_ok-length.ensures.reads c.in_ok-write_before_fields.ensures.makes.writes in
    let fits : rename_end c.args.self.now name format ≤ g.D.Device.capacity c.args.dev.now = subst (λ (x : ℕ). rename_end c.args.self.now name format ≤ x) c.capacity.ensures (c.if-not-name_fits.ensures.fits.0 refl) in
    let new_name = copied_fits IsNewName c.args.name c.requires.name in
    let new_format = copied_fits IsNewFormat c.args.format c.requires.format in
    last_kept g.D.Device c.args.self.now name format n c.args.dev.now c.write_before_fields.new.dev c.write_fields.new.dev c.requires.image c.name_fits.ensures.open new_name new_format c.name_fits.ensures.text c.in_ok-length.ensures.length
    c.write_before_fields.new.self c.write_fields.new.self c.in_ok-write_before_fields.ensures.ok first c.write_fields.result c.write_fields.ensures.makes

pub returns-clause-image : goal.returns-clause-image
returns-clause-image g c =
    let name = option_copied c.args.name in
    let format = option_copied c.args.format in
    let n : ℕ = c.in_ok-length.length in
    let first = behind_read g.D.Device (early_writes c.args.self.now n name format) None c.args.dev.now c.ending_length.new.dev c.write_before_fields.new.dev
    c.in_ok-length.ensures.reads c.in_ok-write_before_fields.ensures.makes.writes in
    let fits : rename_end c.args.self.now name format ≤ g.D.Device.capacity c.args.dev.now = subst (λ (x : ℕ). rename_end c.args.self.now name format ≤ x) c.capacity.ensures (c.if-not-name_fits.ensures.fits.0 refl) in
    let new_name = copied_fits IsNewName c.args.name c.requires.name in
    let new_format = copied_fits IsNewFormat c.args.format c.requires.format in
    last_image_is g.D.Device c.args.self.now name format n c.args.dev.now c.write_before_fields.new.dev c.write_fields.new.dev c.requires.image c.name_fits.ensures.open new_name new_format c.name_fits.ensures.text c.in_ok-length.ensures.length
    c.write_before_fields.new.self c.write_fields.new.self c.in_ok-write_before_fields.ensures.ok first c.write_fields.result c.write_fields.ensures.makes c.write_fields.ensures.ok c.write_fields.ensures.err

pub returns-clause-disk : goal.returns-clause-disk
returns-clause-disk g c =
    let name = option_copied c.args.name in
    let format = option_copied c.args.format in
    let n : ℕ = c.in_ok-length.length in
    let first = behind_read g.D.Device (early_writes c.args.self.now n name format) None c.args.dev.now c.ending_length.new.dev c.write_before_fields.new.dev
    c.in_ok-length.ensures.reads c.in_ok-write_before_fields.ensures.makes.writes in
    let fits : rename_end c.args.self.now name format ≤ g.D.Device.capacity c.args.dev.now = subst (λ (x : ℕ). rename_end c.args.self.now name format ≤ x) c.capacity.ensures (c.if-not-name_fits.ensures.fits.0 refl) in
    let new_name = copied_fits IsNewName c.args.name c.requires.name in
    let new_format = copied_fits IsNewFormat c.args.format c.requires.format in
    last_disk_is g.D.Device c.args.self.now name format n c.args.dev.now c.write_before_fields.new.dev c.write_fields.new.dev c.requires.image c.name_fits.ensures.open new_name new_format c.name_fits.ensures.text c.in_ok-length.ensures.length
    c.write_before_fields.new.self c.write_fields.new.self c.in_ok-write_before_fields.ensures.ok first c.write_fields.result c.write_fields.ensures.makes
