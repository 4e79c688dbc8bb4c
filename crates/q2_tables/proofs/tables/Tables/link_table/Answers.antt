use Rattle.std.proofs.Common.{◌≡◌, ◌≢◌, ◌+◌, ◌*◌, ◌/◌, ◌%◌, ℕ, List, [], ◌∷◌, Some, length, refl, sym, ap, subst, ◌∙◌, arith}
use Rattle.blk_base.specs.Content.{Write}
use Rattle.blk_base.specs.Device.{Writes}
use Rattle.blk_base.specs.Writes.{write_of}
use Rattle.blk_base.specs.declared.fault.DevStop.{DevStop}
use Rattle.blk_base.proofs.DeviceLemmas.{writes_then, wrote-grows}
use Rattle.q2_tables.specs.Linking.{entry_write, new_table, link_writes}
use Rattle.q2_tables.proofs.LinkWrites.{writes_are, table_len_few}
use Rattle.std.proofs.Math.ListN.{length-set}
use Rattle.std.proofs.lemmas.Result.{err_from_is_err_and}
use Rattle.q2_format.specs.Sizes.{entries_in_cluster}
use Rattle.q2_tables.specs.Kept.{KeptTables}
use Rattle.q2_tables.proofs.Loaded.{filled_again}
use Rattle.q2_tables.proofs.Links.{stopped_seen, table_seen, plain_set, below_seen}
use Rattle.q2_tables.proofs.LinkStops.{link_stops}
use Rattle.q2_tables.proofs.tables.Tables.link_table.Goals as goal

pub returns-in_err-write_table-clause-told : goal.returns-in_err-write_table-clause-told
returns-in_err-write_table-clause-told g c = λ file told tree apart.
    let p = err_from_is_err_and c.from_residual.result c.from_residual.ensures.1 in
    let seen : KeptTables = record { c = c.self.inside.cluster_size; l1_offset = c.self.inside.l1_offset; l1 = c.self.inside.l1.items; words = c.self.inside.words.items } in
    rw p.1 (stopped_seen seen c.args.self.now c.args.cluster c.args.table (length c.as_mut_slice.result.now) file (g.D.Device.content c.write_table.new.dev) (g.D.Device.content c.write_table.new.dev)
    c.self.view_is c.requires.can apart c.requires.some tree (c.in_err-write_table.ensures.told file told) (ap length c.as_mut_slice.ensures.value ∙ c.self.invariant.room) refl)

pub returns-in_err-write_entry-clause-told : goal.returns-in_err-write_entry-clause-told
returns-in_err-write_entry-clause-told g c = λ file told tree apart.
    let p = err_from_is_err_and c.from_residual-in_err-write_entry.result c.from_residual-in_err-write_entry.ensures.1 in
    let seen : KeptTables = record { c = c.self.inside.cluster_size; l1_offset = c.self.inside.l1_offset; l1 = c.self.inside.l1.items; words = c.self.inside.words.items } in
    rw p.1 (stopped_seen seen c.args.self.now c.args.cluster c.args.table (length c.as_mut_slice.result.now) file (g.D.Device.content c.write_table.new.dev) (g.D.Device.content c.write_entry.new.dev)
    c.self.view_is c.requires.can apart c.requires.some tree (c.in_ok-write_table.ensures.told file told) (ap length c.as_mut_slice.ensures.value ∙ c.self.invariant.room) c.in_err-write_entry.ensures.kept)

pub invariant_of-self-2 : goal.invariant_of-self-2
invariant_of-self-2 g c =
    let n : ℕ = c.self.inside.cluster_size in
    let seen : KeptTables = record { c = c.self.inside.cluster_size; l1_offset = c.self.inside.l1_offset; l1 = c.self.inside.l1.items; words = c.self.inside.words.items } in
    record {
      entries = length-set {A = ℕ} c.self.inside.words.items c.args.cluster c.args.word ∙ c.self.invariant.entries
          ∙ ap (λ (m : ℕ). m * entries_in_cluster n) (sym (length-set {A = ℕ} c.self.inside.l1.items (c.args.cluster / (n / 8)) (c.args.table + 9223372036854775808)));
      plain = plain_set c.self.inside.words.items c.args.cluster c.args.word c.requires.plain (below_seen seen c.args.self.now c.args.cluster c.self.view_is c.requires.can.below) c.self.invariant.plain;
      room = filled_again c.self.inside.buffer.len c.write_table.new.buffer c.self.inside.buffer.items c.self.inside.buffer.ok.0
          (c.write_table.auto.buffer ∙ ap length c.as_mut_slice.ensures.value) ∙ c.self.invariant.room;
      whole = c.self.invariant.whole;
      small = c.self.invariant.small;
      aligned = c.self.invariant.aligned;
      near = c.self.invariant.near;
      few = omega (arith, c.self.invariant.few, length-set {A = ℕ} c.self.inside.l1.items (c.args.cluster / (n / 8)) (c.args.table + 9223372036854775808));
    }

pub returns-clause-told : goal.returns-clause-told
returns-clause-told g c = λ file told tree apart.
    let seen : KeptTables = record { c = c.self.inside.cluster_size; l1_offset = c.self.inside.l1_offset; l1 = c.self.inside.l1.items; words = c.self.inside.words.items } in
    let after = c.in_ok-write_table.ensures.told file told in
    table_seen seen c.args.self.now c.args.cluster c.args.word c.args.table (length c.as_mut_slice.result.now) file (g.D.Device.content c.write_table.new.dev) (g.D.Device.content c.write_entry.new.dev)
    c.self.view_is c.requires.can apart c.requires.some tree after (ap length c.as_mut_slice.ensures.value ∙ c.self.invariant.room)
    (c.in_ok-write_table.ensures.entry after.file after.is) c.in_ok-write_entry.ensures.written

pub returns-in_err-write_entry-clause-writes : goal.returns-in_err-write_entry-clause-writes
returns-in_err-write_entry-clause-writes g c =
    let seen : KeptTables = record { c = c.self.inside.cluster_size; l1_offset = c.self.inside.l1_offset; l1 = c.self.inside.l1.items; words = c.self.inside.words.items } in
    let n : ℕ = length c.as_mut_slice.result.now in
    let e : ℕ = c.self.inside.cluster_size / 8 in
    let at : ℕ = c.self.inside.l1_offset + 8 * (c.args.cluster / e) in
    let l1 : ℕ = c.args.table + 9223372036854775808 in
    let stop : DevStop = c.in_err-write_entry.field-0.0 in
    let some : c.args.table ≢ 0 = λ none. omega (arith, c.requires.some) in
    let are = writes_are seen c.args.cluster c.args.word c.args.table n (c.args.cluster % e) at l1 some (ap length c.as_mut_slice.ensures.value ∙ c.self.invariant.room) refl refl refl in
    let p = err_from_is_err_and c.from_residual-in_err-write_entry.result c.from_residual-in_err-write_entry.ensures.1 in
    let Q : DevStop → Type 0 = λ x. Writes g.D.Device (link_writes c.args.self.now c.args.cluster c.args.word c.args.table) (Some x) c.args.dev.now c.write_entry.new.dev in
    let L : List Write → Type 0 = λ ws. Writes g.D.Device ws (Some stop) c.args.dev.now c.write_entry.new.dev in
    let K : KeptTables → Type 0 = λ k. Writes g.D.Device (link_writes k c.args.cluster c.args.word c.args.table) (Some stop) c.args.dev.now c.write_entry.new.dev in
    rw p.1 (subst Q (sym p.2) (subst K c.self.view_is (subst L are
    (writes_then g.D.Device (write_of c.args.table (new_table n (c.args.cluster % e) c.args.word) ∷ []) (entry_write at l1 ∷ []) (Some stop)
    c.args.dev.now c.write_table.new.dev c.write_entry.new.dev c.in_ok-write_table.ensures.writes c.in_err-write_entry.ensures.writes))))

pub returns-clause-reaches : goal.returns-clause-reaches
returns-clause-reaches g c =
    let view = ap (λ (k : KeptTables). k.c) c.self.view_is in
    let room = ap length c.as_mut_slice.ensures.value ∙ c.self.invariant.room in
    let last = c.in_ok-write_entry.ensures.writes in
    let grows = wrote-grows g.D.Device last.made c.write_table.new.dev c.write_entry.new.dev last.wrote in
    let reaches = c.in_ok-write_table.ensures.reaches in
    omega (arith, reaches, grows, room, view, table_len_few c.args.self.now c.args.table)

pub returns-in_err-write_table-clause-stops : goal.returns-in_err-write_table-clause-stops
returns-in_err-write_table-clause-stops g c = λ file told tree apart.
    let A : KeptTables → Type 0 = λ k. k.l1_offset % 8 ≡ 0 in
    link_stops file c.args.self.now c.args.cluster c.args.word c.args.table c.requires.can apart (omega arith) tree (subst A c.self.view_is c.self.invariant.aligned)

pub returns-in_err-write_entry-clause-stops : goal.returns-in_err-write_entry-clause-stops
returns-in_err-write_entry-clause-stops g c = λ file told tree apart.
    let A : KeptTables → Type 0 = λ k. k.l1_offset % 8 ≡ 0 in
    link_stops file c.args.self.now c.args.cluster c.args.word c.args.table c.requires.can apart (omega arith) tree (subst A c.self.view_is c.self.invariant.aligned)

pub returns-clause-stops : goal.returns-clause-stops
returns-clause-stops g c = λ file told tree apart.
    let A : KeptTables → Type 0 = λ k. k.l1_offset % 8 ≡ 0 in
    link_stops file c.args.self.now c.args.cluster c.args.word c.args.table c.requires.can apart (omega arith) tree (subst A c.self.view_is c.self.invariant.aligned)
