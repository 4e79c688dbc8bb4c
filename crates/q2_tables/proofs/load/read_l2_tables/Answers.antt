use Rattle.std.proofs.Common.{◌≡◌, ◌≢◌, ◌+◌, ◌-◌, ◌*◌, ◌/◌, ◌≤◌, ℕ, length, get_or, None, sym, ◌∙◌}
use Rattle.std.proofs.lemmas.Result.{err_from_is_err_and}
use Rattle.blk_base.proofs.DeviceLemmas.{reads_then}
use Rattle.q2_format.specs.Entry.{host_offset}
use Rattle.q2_tables.proofs.Loads.{passed_on}
use Rattle.q2_tables.proofs.Loaded.{no_table, one_table, zeros_behind, fewer_zeros, unnamed_read, unnamed_passed, stand_read, stand_passed, all_stand, all_unnamed, all_tables, rows_fit, row_size}
use Rattle.q2_tables.proofs.load.read_l2_tables.Goals as goal
use Rattle.q2_tables.proofs.load.read_l2_tables.Goals.{then-offset-ne0+in_ok-read_table, else-offset-ne0}

pub loop-i-preserved : goal.loop-i-preserved
loop-i-preserved g c =
    let L : ℕ = length c.args.buffer.now in
    let i : ℕ = c.loop-i.i in
    let k : ℕ = (i + 1) * (L / 8) - i * (L / 8) in
    let size : k ≡ L / 8 = row_size i (L / 8) in
    let fits : (i + 1) * (L / 8) ≤ length c.loop-i.words = rows_fit i (length c.args.l1.now) (L / 8) (length c.loop-i.words) c.loop-i-test.true (c.loop-i.auto.words ∙ c.requires.whole) in
    let offset : c.offset_in-offset.result ≡ host_offset (get_or c.args.l1.now i 0) = c.offset_in-offset.ensures.offset in
    let had = c.loop-i.invariant in
    elim c.if-offset-ne0.branch [
      | then-offset-ne0+in_ok-read_table w ↦
          let some : host_offset (get_or c.args.l1.now i 0) ≢ 0 = λ none. w.if-offset-ne0.true (offset ∙ none) in
          record {
            told = λ file told.
                rw w.words-is (one_table file L i k c.offset_in-offset.result c.args.l1.now c.loop-i.words w.read_table.new.words (had.told file told) some
                offset (w.in_ok-read_table.ensures.told file (had.device.reads.content ∙ told)) fits size);
            zeros = rw w.words-is (zeros_behind (L / 8) i k c.loop-i.words w.read_table.new.words had.zeros fits size w.read_table.auto.words);
            unnamed = rw w.words-is (unnamed_read (L / 8) i k c.args.l1.now c.loop-i.words w.read_table.new.words had.unnamed some fits size w.read_table.auto.words);
            stands = rw w.words-is (stand_read (g.D.Device.size c.args.dev.now) (L / 8) i k c.offset_in-offset.result c.args.l1.now c.loop-i.words w.read_table.new.words had.stands
                offset (rw (← had.device.reads.size) w.in_ok-read_table.ensures.stands) fits size w.read_table.auto.words);
            device = rw w.dev-is (reads_then g.D.Device None c.args.dev.now c.loop-i.dev w.read_table.new.dev had.device w.in_ok-read_table.ensures.device);
          }
      | else-offset-ne0 w ↦ record {
        told = λ file told. rw w.words-is (no_table file L i c.args.l1.now c.loop-i.words (had.told file told) had.zeros (sym offset ∙ w.if-offset-ne0.false));
        zeros = rw w.words-is (fewer_zeros (L / 8) i c.loop-i.words had.zeros);
        unnamed = rw w.words-is (unnamed_passed (L / 8) i c.args.l1.now c.loop-i.words had.unnamed had.zeros);
        stands = rw w.words-is (stand_passed (g.D.Device.size c.args.dev.now) (L / 8) i c.args.l1.now c.loop-i.words had.stands (sym offset ∙ w.if-offset-ne0.false));
        device = rw w.dev-is had.device;
      }
    ]

pub returns-clause-unnamed : goal.returns-clause-unnamed
returns-clause-unnamed g c =
    all_unnamed (length c.args.buffer.now / 8) (length c.args.l1.now) c.loop-i.i (length c.args.words.now) c.args.l1.now c.loop-i.words c.loop-i.invariant.unnamed
    c.loop-i-test.false c.requires.whole

pub returns-clause-stands : goal.returns-clause-stands
returns-clause-stands g c =
    all_stand (g.D.Device.size c.args.dev.now) (length c.args.buffer.now / 8) c.loop-i.i c.args.l1.now c.loop-i.words c.loop-i.invariant.stands c.loop-i-test.false

pub returns-clause-told : goal.returns-clause-told
returns-clause-told g c = λ file told.
    all_tables file (length c.args.buffer.now) c.loop-i.i c.args.l1.now c.loop-i.words (c.loop-i.invariant.told file told) c.loop-i-test.false

pub returns-in_err-read_table-clause-device : goal.returns-in_err-read_table-clause-device
returns-in_err-read_table-clause-device g c =
    let p = err_from_is_err_and c.from_residual.result c.from_residual.ensures.1 in
    passed_on g.D.Device p.0 c.in_err-read_table.field-0.0 c.from_residual.result p.1 p.2 c.args.dev.now c.loop-i.dev c.read_table.new.dev
    c.loop-i.invariant.device c.in_err-read_table.ensures.device
