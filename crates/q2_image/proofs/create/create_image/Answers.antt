-- What a created file is follows from its bytes.
use Rattle.std.proofs.lemmas.Result.{err_from_is_err_and}
use Rattle.q2_image.proofs.Stages.{makes_failed}
use Rattle.std.proofs.Common.{inl, inr}
use Rattle.std.specs.Option.{option_copied}
use Rattle.q2_format.proofs.Unmapped.{created_entry, created_disk}
use Rattle.q2_format.specs.Created.{creation_of}
use Rattle.q2_image.proofs.Creations.{on_err, headless_refused, made_header, made_texts, made_sound}
use Rattle.q2_image.proofs.CreateStops.{create_stops}
use Rattle.q2_image.proofs.create.create_image.Goals as goal

pub returns-in_err-write_image-clause-unfinished : goal.returns-in_err-write_image-clause-unfinished
returns-in_err-write_image-clause-unfinished g c =
    on_err c.from_residual-in_err-write_image.result
    (elim c.in_err-write_image.ensures.headless [ inl same ↦ inl same | inr lacks ↦ inr (λ file now. headless_refused file (lacks file now)) ])

pub returns-clause-header : goal.returns-clause-header
returns-clause-header g c = λ file now.
    made_header file c.args.size (option_copied c.args.name) (option_copied c.args.format) c.in_ok-write_image.ensures.readable (c.in_ok-write_image.ensures.created file now)

pub returns-clause-names : goal.returns-clause-names
returns-clause-names g c = λ file now.
    made_texts file c.args.size (option_copied c.args.name) (option_copied c.args.format) c.in_ok-write_image.ensures.readable (c.in_ok-write_image.ensures.created file now)

pub returns-clause-unmapped : goal.returns-clause-unmapped
returns-clause-unmapped g c = λ file cluster now.
    created_entry (creation_of c.args.size (option_copied c.args.name) (option_copied c.args.format)) file (c.in_ok-write_image.ensures.created file now) cluster

pub returns-clause-disk : goal.returns-clause-disk
returns-clause-disk g c = λ file backing now.
    created_disk (creation_of c.args.size (option_copied c.args.name) (option_copied c.args.format)) file backing (c.in_ok-write_image.ensures.created file now)

pub returns-clause-sound : goal.returns-clause-sound
returns-clause-sound g c = λ file now short.
    made_sound file c.args.size (option_copied c.args.name) (option_copied c.args.format) c.in_ok-write_image.ensures.readable (c.in_ok-write_image.ensures.created file now) short

pub returns-in_err-write_image-clause-writes : goal.returns-in_err-write_image-clause-writes
returns-in_err-write_image-clause-writes g c =
    let p = err_from_is_err_and c.from_residual-in_err-write_image.result c.from_residual-in_err-write_image.ensures.1 in
    rw (p.1, p.2) (makes_failed g.D.Device (creation_of c.args.size (option_copied c.args.name) (option_copied c.args.format)) c.in_err-write_image.field-0.0 _ _ _ _ c.in_err-write_image.ensures.cause c.in_err-write_image.ensures.writes)

pub returns-clause-writes : goal.returns-clause-writes
returns-clause-writes g c = c.in_ok-write_image.ensures.writes

pub returns-then-capacity-lt-CREATED_LENGTH-clause-stops : goal.returns-then-capacity-lt-CREATED_LENGTH-clause-stops
returns-then-capacity-lt-CREATED_LENGTH-clause-stops g c = λ ws stages six file told.
    create_stops (creation_of c.args.size (option_copied c.args.name) (option_copied c.args.format)) ws file stages six

pub returns-in_err-buffer-clause-stops : goal.returns-in_err-buffer-clause-stops
returns-in_err-buffer-clause-stops g c = λ ws stages six file told.
    create_stops (creation_of c.args.size (option_copied c.args.name) (option_copied c.args.format)) ws file stages six

pub returns-in_err-write_image-clause-stops : goal.returns-in_err-write_image-clause-stops
returns-in_err-write_image-clause-stops g c = λ ws stages six file told.
    create_stops (creation_of c.args.size (option_copied c.args.name) (option_copied c.args.format)) ws file stages six

pub returns-clause-stops : goal.returns-clause-stops
returns-clause-stops g c = λ ws stages six file told.
    create_stops (creation_of c.args.size (option_copied c.args.name) (option_copied c.args.format)) ws file stages six
