use Rattle.std.proofs.Common.{◌≡◌, ℕ, List, Option, None, Ok, Vec, Global, sym, subst}
use Rattle.blk_base.specs.Files.{WasRead}
use Rattle.blk_base.proofs.Readings.{read_of, told_if}
use Rattle.q2_format.specs.Sizes.{cluster_size}
use Rattle.q2_format.specs.Sound.{bad_block}
use Rattle.q2_format.specs.Tables.{refcount_table}
use Rattle.q2_tables.specs.Kept.{KeptTables}
use Rattle.q2_image.specs.Loading.{AnswersTable}
use Rattle.q2_image.proofs.OpeningCalls.{table_fails, tables_fail}
use Rattle.q2_image.proofs.WordsRead.{table_refused, words_at}
use Rattle.q2_image.proofs.load.load.Goals as goal

-- what is loaded
abbrev Both : Type 0
Both = Vec ℕ Global × KeptTables

pub load_behind-requires-clause-words : goal.load_behind-requires-clause-words
load_behind-requires-clause-words g c =
    let h = c.args.header.now in
    let reads = c.in-Ok.ensures.device.reads in
    let W : Option (List ℕ) → ℕ → Type 0 = λ content n. WasRead content (λ (file : List ℕ). refcount_table file h) (AnswersTable h n (Ok c.in-Ok.table)) in
    subst (W (g.D.Device.content c.load_ref_table.new.dev)) (sym reads.size) (subst (λ content. W content (g.D.Device.size c.args.dev.now)) (sym reads.content) c.in-Ok.ensures.words)

pub returns-in-Ok-clause-words : goal.returns-in-Ok-clause-words
returns-in-Ok-clause-words g c =
    let table_of : Both → List ℕ = λ both. both.0.items in
    let tables_of : Both → KeptTables = λ both. both.1 in
    let reads = c.in-Ok.ensures.device.reads in
    words_at c.args.header.now table_of tables_of c.load_behind.result _ (g.D.Device.content c.args.dev.now) _ (g.D.Device.size c.args.dev.now) reads.content reads.size c.load_behind.ensures.words

pub returns-in-Err-clause-words : goal.returns-in-Err-clause-words
returns-in-Err-clause-words g c =
    let table_of : Both → List ℕ = λ both. both.0.items in
    let tables_of : Both → KeptTables = λ both. both.1 in
    table_refused (g.D.Device.content c.args.dev.now) c.args.header.now (g.D.Device.size c.args.dev.now) (g.met.D.Device.told_size c.args.dev.now) table_of tables_of c.in-Err.stop c.in-Err.ensures.words

pub returns-in-Ok-clause-call : goal.returns-in-Ok-clause-call
returns-in-Ok-clause-call g c =
    let h = c.args.header.now in
    let len : ℕ = g.D.Device.size c.args.dev.now in
    let content = g.D.Device.content c.args.dev.now in
    let placed = told_if content (λ (file : List ℕ). bad_block (cluster_size h.cluster_bits) len (refcount_table file h) ≡ None)
    (λ file told. (read_of content (λ (file : List ℕ). refcount_table file h) (AnswersTable h len (Ok c.in-Ok.table)) c.in-Ok.ensures.words file told).tells.0.block) in
    tables_fail h len _ content _ _ _ c.in-Ok.ensures.device.reads.size c.in-Ok.ensures.device.reads.content placed c.load_behind.ensures.call

pub returns-in-Err-clause-call : goal.returns-in-Err-clause-call
returns-in-Err-clause-call g c =
    let h = c.args.header.now in
    table_fails h (g.D.Device.size c.args.dev.now) (g.D.Device.content c.args.dev.now) _ _ c.in-Err.ensures.call
