use Rattle.std.proofs.Common.{ℕ, List, Ok, Err, Vec, Global}
use Rattle.blk_base.proofs.Readings.{read_map}
use Rattle.q2_format.specs.Tables.{refcount_table}
use Rattle.q2_refs.specs.Loading.{AnswersWords}
use Rattle.q2_refs.specs.declared.stop.RefsStop.TheVariants.{Offset, Reserved}
use Rattle.q2_image.specs.Loading.{AnswersTable}
use Rattle.q2_image.specs.declared.counting.RefTable.TheVariants as tables
use Rattle.q2_image.specs.declared.stop.ImageStop.TheVariants as stops
use Rattle.q2_image.proofs.Counted.{accepted_words, offset_answered, reserved_answered, table_answered}
use Rattle.q2_image.proofs.counting.load_ref_table.Goals as goal

pub returns-in-Ok-clause-words : goal.returns-in-Ok-clause-words
returns-in-Ok-clause-words g c =
    let h = c.args.header.now in
    let len : ℕ = g.D.Device.size c.args.dev.now in
    read_map (g.D.Device.content c.args.dev.now) (λ (file : List ℕ). refcount_table file h) (AnswersWords h len (λ (table : Vec ℕ Global). table.items) (Ok c.in-Ok.words))
    (AnswersTable h len (Ok (tables.Read c.in-Ok.words))) (table_answered h len c.requires.placed c.in-Ok.words) c.in-Ok.ensures.read

pub returns-in-Ok-clause-read : goal.returns-in-Ok-clause-read
returns-in-Ok-clause-read g c =
    accepted_words c.args.header.now (g.D.Device.size c.args.dev.now) c.in-Ok.words c.in-Ok.ensures.read.value c.in-Ok.ensures.read.holds

pub returns-in-Err-Reserved-clause-words : goal.returns-in-Err-Reserved-clause-words
returns-in-Err-Reserved-clause-words g c =
    let h = c.args.header.now in
    let len : ℕ = g.D.Device.size c.args.dev.now in
    read_map (g.D.Device.content c.args.dev.now) (λ (file : List ℕ). refcount_table file h) (AnswersWords h len (λ (table : Vec ℕ Global). table.items) (Err (Reserved c.in-Err-Reserved.index)))
    (AnswersTable h len (Ok (tables.Reserved c.in-Err-Reserved.index))) (reserved_answered h len c.requires.placed c.in-Err-Reserved.index)
    (rw c.in-Err-Reserved.field-0-is at c.in-Err-Reserved.ensures.read)

pub returns-in-Err-Offset-clause-words : goal.returns-in-Err-Offset-clause-words
returns-in-Err-Offset-clause-words g c =
    let h = c.args.header.now in
    let len : ℕ = g.D.Device.size c.args.dev.now in
    read_map (g.D.Device.content c.args.dev.now) (λ (file : List ℕ). refcount_table file h) (AnswersWords h len (λ (table : Vec ℕ Global). table.items) (Err (Offset c.in-Err-Offset.offset)))
    (AnswersTable h len (Err (stops.Offset c.in-Err-Offset.offset))) (offset_answered h len c.requires.placed c.in-Err-Offset.offset)
    (rw c.in-Err-Offset.field-0-is at c.in-Err-Offset.ensures.read)
