use Rattle.std.proofs.Common.{◌≡◌, ◌*◌, ◌/◌, false, ℕ, List, length, Some, None, refl, sym, ap, ◌∙◌, arith}
use Rattle.std.proofs.lemmas.Result.{err_from_is_err_and}
use Rattle.blk_base.proofs.DeviceLemmas.{reads_then}
use Rattle.q2_tables.proofs.Loads.{refused_quietly}
use Rattle.q2_format.specs.Sizes.{cluster_size, entries_in_cluster}
use Rattle.q2_format.specs.Tables.{active_tree}
use Rattle.q2_format.specs.Sound.{is_misplaced, bad_l1_table}
use Rattle.q2_tables.specs.Kept.{KeptTables, IsTreeOf}
use Rattle.q2_tables.specs.Loading.{RowsStand}
use Rattle.q2_tables.specs.Words.{AreUnnamedZero, misplaced_table, refused_words}
use Rattle.q2_tables.proofs.Loaded.{read_as, filled_again, rows_kept, unnamed_kept}
use Rattle.q2_tables.proofs.Refusals.{in_order, tables_placed, l1_placed, placed_parts, aligned_to_entries}
use Rattle.q2_tables.specs.declared.stop.TablesStop.TheVariants.{Offset, NoMemory}
use Rattle.q2_tables.proofs.Trees.{same_error, stopped_reading, refused_kept, loaded_kept}
use Rattle.q2_tables.proofs.load.load_tables.Goals as goal

pub invariant_of-result : goal.invariant_of-result
invariant_of-result g c =
    let refused : refused_words c.cluster_len-c.result c.length-len.result c.in_ok-l1.l1.items c.in_ok-words.words.items ≡ None =
    rw (← c.as_slice-2.ensures.value, ← c.as_slice-3.ensures.value) (sym c.in_ok-check_words.ensures.refused) in
    let room : length c.as_mut_slice.result.now ≡ c.cluster_len-c.result = ap length c.as_mut_slice.ensures.value ∙ c.in_ok-buffer.ensures in
    let placed : is_misplaced c.cluster_len-c.result c.length-len.result c.args.h.now.l1_offset ≡ false =
    ap (λ (n : ℕ). is_misplaced n c.length-len.result c.args.h.now.l1_offset) c.cluster_len-c.ensures.size
    ∙ l1_placed c.args.h.now c.length-len.result c.in_ok-l1.ensures.placed.0 in
    let place = placed_parts c.cluster_len-c.result c.length-len.result c.args.h.now.l1_offset placed in
    record {
      entries = c.in_ok-words.ensures.len ∙ ap (λ (l : List ℕ). length l * entries_in_cluster (length c.as_mut_slice.result.now)) c.as_slice.ensures.value
          ∙ ap (λ (n : ℕ). length c.in_ok-l1.l1.items * entries_in_cluster n) room;
      plain = (in_order c.cluster_len-c.result c.length-len.result c.in_ok-l1.l1.items c.in_ok-words.words.items refused).plain;
      room = filled_again c.in_ok-buffer.buffer.len c.read_l2.new.buffer c.in_ok-buffer.buffer.items c.in_ok-buffer.buffer.ok.0
          (c.read_l2.auto.buffer ∙ ap length c.as_mut_slice.ensures.value) ∙ c.in_ok-buffer.ensures;
      whole = c.cluster_len-c.ensures.entries;
      small = c.cluster_len-c.ensures.small;
      aligned = aligned_to_entries c.args.h.now.l1_offset c.cluster_len-c.result (c.cluster_len-c.result / 8) c.cluster_len-c.ensures.entries place.0;
      near = omega (arith, place.1, c.cluster_len-c.ensures.len);
      few = omega (arith, c.in_ok-l1.ensures.entries, c.cluster_len-c.ensures.l1);
    }

pub returns-in_err-l1-clause-placed : goal.returns-in_err-l1-clause-placed
returns-in_err-l1-clause-placed g c =
    let p = err_from_is_err_and c.from_residual.result c.from_residual.ensures.1 in
    λ off bad. same_error c.from_residual.result c.load_l1.result p.0 c.in_err-l1.field-0.0 (Offset off) p.1 p.2 c.in_err-l1.was
    (c.load_l1.ensures.judged off (ap (bad_l1_table c.args.h.now) c.length-len.ensures ∙ bad))

pub returns-in_err-buffer-clause-read : goal.returns-in_err-buffer-clause-read
returns-in_err-buffer-clause-read g c =
    let p = err_from_is_err_and c.from_residual-in_err-buffer.result c.from_residual-in_err-buffer.ensures.1 in
    rw (p.1, p.2) (stopped_reading (g.D.Device.content c.args.dev.now) c.args.h.now (g.D.Device.size c.args.dev.now)
    (g.met.D.Device.told_size c.args.dev.now) NoMemory tt)

pub returns-in_err-words-clause-read : goal.returns-in_err-words-clause-read
returns-in_err-words-clause-read g c =
    let p = err_from_is_err_and c.from_residual-in_err-words.result c.from_residual-in_err-words.ensures.1 in
    rw (p.1, p.2) (stopped_reading (g.D.Device.content c.args.dev.now) c.args.h.now (g.D.Device.size c.args.dev.now)
    (g.met.D.Device.told_size c.args.dev.now) c.in_err-words.field-0.0 c.in_err-words.ensures.stop)

pub returns-in_err-check_words-clause-read : goal.returns-in_err-check_words-clause-read
returns-in_err-check_words-clause-read g c =
    let p = err_from_is_err_and c.from_residual-in_err-check_words.result c.from_residual-in_err-check_words.ensures.1 in
    let kept : KeptTables = record { c = c.cluster_len-c.result; l1_offset = c.args.h.now.l1_offset; l1 = c.in_ok-l1.l1.items; words = c.in_ok-words.words.items } in
    let room : length c.as_mut_slice.result.now ≡ kept.c = ap length c.as_mut_slice.ensures.value ∙ c.in_ok-buffer.ensures in
    let count : length kept.words ≡ length kept.l1 * entries_in_cluster (cluster_size c.args.h.now.cluster_bits) =
    c.in_ok-words.ensures.len ∙ ap (λ (l : List ℕ). length l * entries_in_cluster (length c.as_mut_slice.result.now)) c.as_slice.ensures.value
    ∙ ap (λ (n : ℕ). length kept.l1 * entries_in_cluster n) (room ∙ c.cluster_len-c.ensures.size) in
    let unnamed : AreUnnamedZero (entries_in_cluster (cluster_size c.args.h.now.cluster_bits)) kept.l1 kept.words (length kept.words) =
    unnamed_kept (entries_in_cluster (length c.as_mut_slice.result.now)) (entries_in_cluster (cluster_size c.args.h.now.cluster_bits)) c.as_slice.result.now kept.l1 kept.words
    (length kept.words) (length kept.words) (ap entries_in_cluster (room ∙ c.cluster_len-c.ensures.size)) c.as_slice.ensures.value refl c.in_ok-words.ensures.unnamed in
    let stand : RowsStand c.length-len.result (entries_in_cluster (cluster_size c.args.h.now.cluster_bits)) kept.l1 kept.words =
    rows_kept (g.D.Device.size c.load_l1.new.dev) c.length-len.result (entries_in_cluster (length c.as_mut_slice.result.now))
    (entries_in_cluster (cluster_size c.args.h.now.cluster_bits)) c.as_slice.result.now kept.l1 kept.words
    (c.in_ok-l1.ensures.device.reads.size ∙ sym c.length-len.ensures) (ap entries_in_cluster (room ∙ c.cluster_len-c.ensures.size)) c.as_slice.ensures.value
    c.in_ok-words.ensures.stands in
    let same : (file : List ℕ) → g.D.Device.content c.args.dev.now ≡ Some file → IsTreeOf (cluster_size c.args.h.now.cluster_bits) kept (active_tree file c.args.h.now) =
    λ file told. read_as file c.args.h.now kept (length c.as_mut_slice.result.now) c.as_slice.result.now c.cluster_len-c.ensures.size (c.in_ok-l1.ensures.told file told)
    room c.as_slice.ensures.value (c.in_ok-words.ensures.told file (c.in_ok-l1.ensures.device.reads.content ∙ told)) c.in_ok-words.ensures.len in
    rw (p.1, p.2, ← c.length-len.ensures) (refused_kept (g.D.Device.content c.args.dev.now) c.args.h.now c.length-len.result
    (λ file told. c.length-len.ensures ∙ g.met.D.Device.told_size c.args.dev.now file told) kept c.cluster_len-c.ensures.size
    c.in_ok-l1.ensures.entries count unnamed
    (rw c.length-len.ensures c.in_ok-l1.ensures.stands) stand same c.in_ok-l1.ensures.placed.0 c.in_ok-l1.ensures.placed.1
    c.in_err-check_words.field-0.0 (rw (← c.as_slice-2.ensures.value, ← c.as_slice-3.ensures.value) (sym c.in_err-check_words.ensures.refused)))

pub returns-clause-read : goal.returns-clause-read
returns-clause-read g c =
    let kept : KeptTables = record { c = c.cluster_len-c.result; l1_offset = c.args.h.now.l1_offset; l1 = c.in_ok-l1.l1.items; words = c.in_ok-words.words.items } in
    let room : length c.as_mut_slice.result.now ≡ kept.c = ap length c.as_mut_slice.ensures.value ∙ c.in_ok-buffer.ensures in
    let count : length kept.words ≡ length kept.l1 * entries_in_cluster (cluster_size c.args.h.now.cluster_bits) =
    c.in_ok-words.ensures.len ∙ ap (λ (l : List ℕ). length l * entries_in_cluster (length c.as_mut_slice.result.now)) c.as_slice.ensures.value
    ∙ ap (λ (n : ℕ). length kept.l1 * entries_in_cluster n) (room ∙ c.cluster_len-c.ensures.size) in
    let unnamed : AreUnnamedZero (entries_in_cluster (cluster_size c.args.h.now.cluster_bits)) kept.l1 kept.words (length kept.words) =
    unnamed_kept (entries_in_cluster (length c.as_mut_slice.result.now)) (entries_in_cluster (cluster_size c.args.h.now.cluster_bits)) c.as_slice.result.now kept.l1 kept.words
    (length kept.words) (length kept.words) (ap entries_in_cluster (room ∙ c.cluster_len-c.ensures.size)) c.as_slice.ensures.value refl c.in_ok-words.ensures.unnamed in
    let stand : RowsStand c.length-len.result (entries_in_cluster (cluster_size c.args.h.now.cluster_bits)) kept.l1 kept.words =
    rows_kept (g.D.Device.size c.load_l1.new.dev) c.length-len.result (entries_in_cluster (length c.as_mut_slice.result.now))
    (entries_in_cluster (cluster_size c.args.h.now.cluster_bits)) c.as_slice.result.now kept.l1 kept.words
    (c.in_ok-l1.ensures.device.reads.size ∙ sym c.length-len.ensures) (ap entries_in_cluster (room ∙ c.cluster_len-c.ensures.size)) c.as_slice.ensures.value
    c.in_ok-words.ensures.stands in
    let same : (file : List ℕ) → g.D.Device.content c.args.dev.now ≡ Some file → IsTreeOf (cluster_size c.args.h.now.cluster_bits) kept (active_tree file c.args.h.now) =
    λ file told. read_as file c.args.h.now kept (length c.as_mut_slice.result.now) c.as_slice.result.now c.cluster_len-c.ensures.size (c.in_ok-l1.ensures.told file told)
    room c.as_slice.ensures.value (c.in_ok-words.ensures.told file (c.in_ok-l1.ensures.device.reads.content ∙ told)) c.in_ok-words.ensures.len in
    rw (← c.length-len.ensures) (loaded_kept (g.D.Device.content c.args.dev.now) c.args.h.now c.length-len.result
    (λ file told. c.length-len.ensures ∙ g.met.D.Device.told_size c.args.dev.now file told) kept c.cluster_len-c.ensures.size c.in_ok-l1.ensures.entries count unnamed
    (rw c.length-len.ensures c.in_ok-l1.ensures.stands) stand same
    c.in_ok-l1.ensures.placed.0 c.in_ok-l1.ensures.placed.1
    (rw (← c.as_slice-2.ensures.value, ← c.as_slice-3.ensures.value) (sym c.in_ok-check_words.ensures.refused)))

pub returns-clause-loaded : goal.returns-clause-loaded
returns-clause-loaded g c =
    let n : ℕ = c.cluster_len-c.result in
    let l1 : List ℕ = c.in_ok-l1.l1.items in
    let words : List ℕ = c.in_ok-words.words.items in
    let refused : refused_words n c.length-len.result l1 words ≡ None =
    rw (← c.as_slice-2.ensures.value, ← c.as_slice-3.ensures.value) (sym c.in_ok-check_words.ensures.refused) in
    let refused_here : refused_words n (g.D.Device.size c.args.dev.now) l1 words ≡ None = ap (λ (len : ℕ). refused_words n len l1 words) (sym c.length-len.ensures) ∙ refused in
    let tables : misplaced_table n (g.D.Device.size c.args.dev.now) l1 ≡ None = ap (λ (len : ℕ). misplaced_table n len l1) (sym c.length-len.ensures) ∙ c.in_ok-l1.ensures.placed.1 in
    let room : length c.as_mut_slice.result.now ≡ n = ap length c.as_mut_slice.ensures.value ∙ c.in_ok-buffer.ensures in
    let found = in_order n (g.D.Device.size c.args.dev.now) l1 words refused_here in
    record {
      c = c.cluster_len-c.ensures.size;
      l1_offset = refl;
      l1_size = c.in_ok-l1.ensures.entries;
      entries = c.in_ok-words.ensures.len ∙ ap (λ (l : List ℕ). length l * entries_in_cluster (length c.as_mut_slice.result.now)) c.as_slice.ensures.value
          ∙ ap (λ (m : ℕ). length l1 * entries_in_cluster m) room;
      tables = tables_placed n (g.D.Device.size c.args.dev.now) l1 tables;
      hosts = found.hosts;
      l1_stands = c.in_ok-l1.ensures.stands;
      rows_stand = rows_kept (g.D.Device.size c.load_l1.new.dev) (g.D.Device.size c.args.dev.now) (entries_in_cluster (length c.as_mut_slice.result.now)) (entries_in_cluster n)
          c.as_slice.result.now l1 words c.in_ok-l1.ensures.device.reads.size (ap entries_in_cluster room) c.as_slice.ensures.value c.in_ok-words.ensures.stands;
      unnamed = unnamed_kept (entries_in_cluster (length c.as_mut_slice.result.now)) (entries_in_cluster n) c.as_slice.result.now l1 words (length words) (length words)
          (ap entries_in_cluster room) c.as_slice.ensures.value refl c.in_ok-words.ensures.unnamed;
      unreserved = found.unreserved;
      plain = found.plain;
    }

pub returns-in_err-check_words-clause-device : goal.returns-in_err-check_words-clause-device
returns-in_err-check_words-clause-device g c =
    let p = err_from_is_err_and c.from_residual-in_err-check_words.result c.from_residual-in_err-check_words.ensures.1 in
    refused_quietly g.D.Device p.0 c.in_err-check_words.field-0.0 c.from_residual-in_err-check_words.result p.1 p.2 c.args.dev.now c.read_l2.new.dev
    c.in_err-check_words.ensures.stop
    (reads_then g.D.Device None c.args.dev.now c.load_l1.new.dev c.read_l2.new.dev c.in_ok-l1.ensures.device c.in_ok-words.ensures.device)
