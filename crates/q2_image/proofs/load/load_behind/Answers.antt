use Rattle.std.proofs.Common.{◌≡◌, ℕ, List, Option, Ok, Err, Vec, Global, sym, ap, subst, ◌∙◌}
use Rattle.blk_base.specs.Calls.{FailsAt}
use Rattle.blk_base.specs.Device.{Reads}
use Rattle.blk_base.specs.declared.device.DeviceCall.{DeviceCall}
use Rattle.q2_tables.specs.Kept.{KeptTables}
use Rattle.q2_tables.specs.Loading.{AnswersTree, fault_in_tables, IsTablesCall}
use Rattle.q2_image.specs.Loading.{AnswersTable, AnswersTables, IsTableAnswer, IsTableOf, reserved_entry}
use Rattle.q2_image.specs.Opening.{IsNoHeader, fault_in_image}
use Rattle.q2_image.specs.Merge.{merged_stop}
use Rattle.q2_image.specs.declared.counting.RefTable.{RefTable}
use Rattle.q2_image.proofs.Faults.{merged_fault}
use Rattle.q2_image.proofs.Refused.{merged_behind}
use Rattle.q2_image.proofs.WordsRead.{both_answered, reserved_answered, tree_answered, words_read}
use Rattle.q2_image.proofs.load.load_behind.Goals as goal

-- what is loaded
abbrev Both : Type 0
Both = Vec ℕ Global × KeptTables

pub returns-in-Ok-words_of-clause-words : goal.returns-in-Ok-words_of-clause-words
returns-in-Ok-words_of-clause-words g c =
    let h = c.args.header.now in
    let len : ℕ = g.D.Device.size c.args.dev.now in
    let table_of : Both → List ℕ = λ both. both.0.items in
    let tables_of : Both → KeptTables = λ both. both.1 in
    let a : Both = (c.in-Ok-words_of.words, c.in-Ok.tables) in
    let read = c.args.table in
    let is = c.in-Ok-words_of.ensures.read in
    let S : RefTable → Type 0 = λ table. (words : List ℕ) → IsTableOf words table → c.in-Ok-words_of.words.items ≡ words in
    words_read (g.D.Device.content c.args.dev.now) h (AnswersTable h len (Ok read)) (AnswersTree h len (Ok c.in-Ok.tables)) (AnswersTables h len table_of tables_of (Ok a))
    (both_answered h len table_of tables_of c.requires.placed a read (ap reserved_entry is) (subst S (sym is) (λ words same. same))) c.requires.words c.in-Ok.ensures.read

pub returns-in-Ok-words_of-clause-has_table : goal.returns-in-Ok-words_of-clause-has_table
returns-in-Ok-words_of-clause-has_table g c =
    let P : RefTable → Type 0 = λ table. IsTableAnswer c.args.header.now (g.D.Device.size c.args.dev.now) table in
    subst P c.in-Ok-words_of.ensures.read c.requires.read

pub returns-in-Err-words_of-clause-words : goal.returns-in-Err-words_of-clause-words
returns-in-Err-words_of-clause-words g c =
    let h = c.args.header.now in
    let len : ℕ = g.D.Device.size c.args.dev.now in
    let table_of : Both → List ℕ = λ both. both.0.items in
    let tables_of : Both → KeptTables = λ both. both.1 in
    let read = c.args.table in
    let stop = c.in-Err-words_of.stop in
    let found = c.in-Err-words_of.ensures.reserved in
    words_read (g.D.Device.content c.args.dev.now) h (AnswersTable h len (Ok read)) (AnswersTree h len (Ok c.in-Ok.tables)) (AnswersTables h len table_of tables_of (Err stop))
    (reserved_answered h len table_of tables_of c.requires.placed c.in-Ok.tables read found.0 stop found.1 found.2) c.requires.words c.in-Ok.ensures.read

pub returns-in-Err-clause-words : goal.returns-in-Err-clause-words
returns-in-Err-clause-words g c =
    let h = c.args.header.now in
    let len : ℕ = g.D.Device.size c.args.dev.now in
    let table_of : Both → List ℕ = λ both. both.0.items in
    let tables_of : Both → KeptTables = λ both. both.1 in
    let read = c.args.table in
    let merged : c.merge.result ≡ merged_stop h (reserved_entry read) c.in-Err.stop = c.merge.ensures ∙ ap (λ (reserved : Option ℕ). merged_stop h reserved c.in-Err.stop) c.reserved_in.ensures in
    words_read (g.D.Device.content c.args.dev.now) h (AnswersTable h len (Ok read)) (AnswersTree h len (Err c.in-Err.stop)) (AnswersTables h len table_of tables_of (Err c.merge.result))
    (tree_answered h len table_of tables_of c.requires.placed read c.in-Err.stop c.merge.result merged) c.requires.words c.in-Err.ensures.read

pub returns-in-Err-clause-device : goal.returns-in-Err-clause-device
returns-in-Err-clause-device g c =
    let same : fault_in_image c.merge.result ≡ fault_in_tables c.in-Err.stop =
    ap fault_in_image c.merge.ensures ∙ merged_fault c.args.header.now c.reserved_in.result c.in-Err.stop in
    subst (λ told. Reads g.D.Device told c.args.dev.now c.load_tables.new.dev) (sym same) c.in-Err.ensures.device

pub returns-in-Err-clause-call : goal.returns-in-Err-clause-call
returns-in-Err-clause-call g c =
    let same : fault_in_image c.merge.result ≡ fault_in_tables c.in-Err.stop =
    ap fault_in_image c.merge.ensures ∙ merged_fault c.args.header.now c.reserved_in.result c.in-Err.stop in
    let P : DeviceCall → Type 0 = IsTablesCall c.args.header.now (g.D.Device.size c.args.dev.now) (g.D.Device.content c.args.dev.now) in
    subst (λ told. FailsAt P told (g.D.Device.failed_call c.load_tables.new.dev)) (sym same) c.in-Err.ensures.call

pub returns-in-Err-clause-no_header : goal.returns-in-Err-clause-no_header
returns-in-Err-clause-no_header g c = subst IsNoHeader (sym c.merge.ensures) (merged_behind c.args.header.now c.reserved_in.result c.in-Err.stop)

pub returns-in-Err-words_of-clause-no_header : goal.returns-in-Err-words_of-clause-no_header
returns-in-Err-words_of-clause-no_header g c = subst IsNoHeader (sym c.in-Err-words_of.ensures.reserved.2) tt
