use Rattle.std.proofs.Common.{◌≡◌, ◌+◌, ◌*◌, ◌/◌, ◌%◌, ℕ, sym, ap, subst, ◌∙◌, arith}
use Rattle.q2_tables.specs.Kept.{KeptTables}
use Rattle.q2_tables.specs.Linking.{entry_at, table_of}
use Rattle.q2_tables.proofs.Links.{entry_seen}
use Rattle.q2_tables.proofs.LinkStops.{link_stops}
use Rattle.q2_tables.proofs.tables.Tables.link_entry.Goals as goal

pub returns-clause-told : goal.returns-clause-told
returns-clause-told g c = λ file told tree apart.
    let seen : KeptTables = record { c = c.self.inside.cluster_size; l1_offset = c.self.inside.l1_offset; l1 = c.self.inside.l1.items; words = c.self.inside.words.items } in
    let at : ℕ = c.table_of-table.result + 8 * (c.args.cluster % (c.self.inside.cluster_size / 8)) in
    let place : at ≡ entry_at seen c.args.cluster 0 =
    ap (λ (o : ℕ). o + 8 * (c.args.cluster % (c.self.inside.cluster_size / 8))) (c.table_of-table.ensures.table ∙ sym (ap (λ (k : KeptTables). table_of k c.args.cluster) c.self.view_is)) in
    entry_seen seen c.args.self.now c.args.cluster c.args.word at file (g.D.Device.content c.args.dev.now) (g.D.Device.content c.write_entry.new.dev)
    c.self.view_is c.requires.can apart (omega arith) told tree place c.in_ok-write_entry.ensures.written

pub returns-in_err-write_entry-clause-stops : goal.returns-in_err-write_entry-clause-stops
returns-in_err-write_entry-clause-stops g c = λ file told tree apart.
    let A : KeptTables → Type 0 = λ k. k.l1_offset % 8 ≡ 0 in
    link_stops file c.args.self.now c.args.cluster c.args.word 0 c.requires.can apart (omega arith) tree (subst A c.self.view_is c.self.invariant.aligned)

pub returns-clause-stops : goal.returns-clause-stops
returns-clause-stops g c = λ file told tree apart.
    let A : KeptTables → Type 0 = λ k. k.l1_offset % 8 ≡ 0 in
    link_stops file c.args.self.now c.args.cluster c.args.word 0 c.requires.can apart (omega arith) tree (subst A c.self.view_is c.self.invariant.aligned)
