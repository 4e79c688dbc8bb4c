use Rattle.std.proofs.Common.{ℕ, ◌*◌, inl, inr, [], get_or, Some, Result, Ok, Err, OnErr, sym, ap, subst, ◌∙◌}
use Rattle.std.proofs.lemmas.Result.{err_from_is_err_and, on_ok_weaker}
use Rattle.blk_base.specs.declared.fault.DevStop.{DevStop}
use Rattle.q2_format.specs.Entry.{host_of, l2_entry}
use Rattle.q2_format.specs.declared.header.Header.{Header}
use Rattle.q2_tables.specs.Entries.{entry_of}
use Rattle.q2_tables.specs.Kept as tables
use Rattle.q2_image.specs.Image.{Known, entry_in}
use Rattle.q2_image.specs.Made.{MakesSteps, clean_steps}
use Rattle.q2_image.proofs.Changes.{clean_made, clean_stopped}
use Rattle.q2_image.proofs.OwnWrites.{disk_then}
use Rattle.q2_image.proofs.Plans.{kept_host, zero_open, zero_below, zero_table, zero_tables}
use Rattle.q2_image.proofs.Taken.{told_too}
use Rattle.q2_image.proofs.image.Image.zero_into.Goals as goal

on_err_weaker : {T E P Q : Type 0} (r : Result T E) → (P → Q) → OnErr r P → OnErr r Q
on_err_weaker (Ok t) f h = tt
on_err_weaker (Err e) f h = f h

pub map_cluster-requires-clause-can : goal.map_cluster-requires-clause-can
map_cluster-requires-clause-can g c = (zero_table c.args.self.now c.new_table.new.self c.args.cluster c.in_ok-table.table (g.D.Device.capacity c.args.dev.now) c.requires.open c.requires.below c.requires.fits c.in_ok-table.ensures.table c.in_ok-table.ensures.ok).can

pub map_cluster-requires-clause-whole : goal.map_cluster-requires-clause-whole
map_cluster-requires-clause-whole g c =
    let bits = c.requires.open.cluster_bits in
    let first_bits = ap (λ (k : Header). k.cluster_bits) c.in_ok-table.ensures.same.header ∙ bits in
    rw first_bits (zero_table c.args.self.now c.new_table.new.self c.args.cluster c.in_ok-table.table (g.D.Device.capacity c.args.dev.now) c.requires.open c.requires.below c.requires.fits c.in_ok-table.ensures.table c.in_ok-table.ensures.ok).whole

pub map_cluster-requires-clause-near : goal.map_cluster-requires-clause-near
map_cluster-requires-clause-near g c =
    let bits = c.requires.open.cluster_bits in
    let first_bits = ap (λ (k : Header). k.cluster_bits) c.in_ok-table.ensures.same.header ∙ bits in
    rw first_bits (zero_table c.args.self.now c.new_table.new.self c.args.cluster c.in_ok-table.table (g.D.Device.capacity c.args.dev.now) c.requires.open c.requires.below c.requires.fits c.in_ok-table.ensures.table c.in_ok-table.ensures.ok).near

pub map_cluster-requires-clause-spare : goal.map_cluster-requires-clause-spare
map_cluster-requires-clause-spare g c =
    let bits = c.requires.open.cluster_bits in
    let first_bits = ap (λ (k : Header). k.cluster_bits) c.in_ok-table.ensures.same.header ∙ bits in
    rw first_bits (λ file told some. rw bits at (c.in_ok-table.ensures.spare file told some))

pub map_cluster-requires-clause-entry : goal.map_cluster-requires-clause-entry
map_cluster-requires-clause-entry g c = (kept_host c.new_table.new.self c.args.cluster c.host_of-host.result (entry_of c.lookup.result) (zero_open c.args.self.now c.new_table.new.self c.args.cluster c.in_ok-table.table (g.D.Device.capacity c.args.dev.now) c.requires.open c.requires.below c.requires.fits c.in_ok-table.ensures.table c.in_ok-table.ensures.ok) (zero_below c.args.self.now c.new_table.new.self c.args.cluster c.in_ok-table.table (g.D.Device.capacity c.args.dev.now) c.requires.open c.requires.below c.requires.fits c.in_ok-table.ensures.table c.in_ok-table.ensures.ok) c.host_of-host.ensures (c.lookup.ensures ∙ ap (λ (k : Known). entry_in k c.args.cluster) c.self.view_is)).offset

pub map_cluster-requires-clause-reached : goal.map_cluster-requires-clause-reached
map_cluster-requires-clause-reached g c = (kept_host c.new_table.new.self c.args.cluster c.host_of-host.result (entry_of c.lookup.result) (zero_open c.args.self.now c.new_table.new.self c.args.cluster c.in_ok-table.table (g.D.Device.capacity c.args.dev.now) c.requires.open c.requires.below c.requires.fits c.in_ok-table.ensures.table c.in_ok-table.ensures.ok) (zero_below c.args.self.now c.new_table.new.self c.args.cluster c.in_ok-table.table (g.D.Device.capacity c.args.dev.now) c.requires.open c.requires.below c.requires.fits c.in_ok-table.ensures.table c.in_ok-table.ensures.ok) c.host_of-host.ensures (c.lookup.ensures ∙ ap (λ (k : Known). entry_in k c.args.cluster) c.self.view_is)).reached

pub map_cluster-requires-clause-may : goal.map_cluster-requires-clause-may
map_cluster-requires-clause-may g c = λ file told. inr (inl (kept_host c.new_table.new.self c.args.cluster c.host_of-host.result (entry_of c.lookup.result) (zero_open c.args.self.now c.new_table.new.self c.args.cluster c.in_ok-table.table (g.D.Device.capacity c.args.dev.now) c.requires.open c.requires.below c.requires.fits c.in_ok-table.ensures.table c.in_ok-table.ensures.ok) (zero_below c.args.self.now c.new_table.new.self c.args.cluster c.in_ok-table.table (g.D.Device.capacity c.args.dev.now) c.requires.open c.requires.below c.requires.fits c.in_ok-table.ensures.table c.in_ok-table.ensures.ok) c.host_of-host.ensures (c.lookup.ensures ∙ ap (λ (k : Known). entry_in k c.args.cluster) c.self.view_is)).own)

pub returns-clause-others : goal.returns-clause-others
returns-clause-others g c = λ q other.
    c.map_cluster.ensures.others q other ∙ ap (λ (t : tables.KeptTables). get_or t.words q 0) (zero_tables c.args.self.now c.new_table.new.self c.args.cluster c.in_ok-table.table (g.D.Device.capacity c.args.dev.now) c.requires.open c.requires.below c.requires.fits c.in_ok-table.ensures.table c.in_ok-table.ensures.ok)

pub returns-clause-disk : goal.returns-clause-disk
returns-clause-disk g c =
    let bits = c.requires.open.cluster_bits in
    let first_bits = ap (λ (k : Header). k.cluster_bits) c.in_ok-table.ensures.same.header ∙ bits in
    rw bits (on_ok_weaker c.map_cluster.result (λ made. λ old new zeros told_old told_new are.
    let mid = told_too (g.D.Device.content c.new_table.new.dev) (g.D.Device.content c.map_cluster.new.dev) new c.map_cluster.ensures.told told_new in
    let at : ℕ = c.args.cluster * 65536 in
    disk_then old mid.0 new at zeros (c.in_ok-table.ensures.disk old mid.0 told_old mid.1) (made mid.0 new zeros mid.1 told_new are.whole are.zeros)) (rw first_bits at c.map_cluster.ensures.disk))

pub returns-clause-kept : goal.returns-clause-kept
returns-clause-kept g c = on_err_weaker c.map_cluster.result (λ kept. λ old new told_old told_new.
    let mid = told_too (g.D.Device.content c.new_table.new.dev) (g.D.Device.content c.map_cluster.new.dev) new c.map_cluster.ensures.told told_new in
    disk_then old mid.0 new 0 [] (c.in_ok-table.ensures.disk old mid.0 told_old mid.1) (kept mid.0 new mid.1 told_new)) c.map_cluster.ensures.kept

pub returns-in_err-table-clause-steps : goal.returns-in_err-table-clause-steps
returns-in_err-table-clause-steps g c =
    let p = err_from_is_err_and c.from_residual.result c.from_residual.ensures.1 in
    let stop : DevStop = c.in_err-table.field-0.0 in
    let Q : DevStop → Type 0 = λ x. MakesSteps g.D.Device c.args.self.now (clean_steps c.args.self.now c.args.cluster) (Some x) c.new_table.new.self c.args.dev.now c.new_table.new.dev in
    rw p.1 (subst Q (sym p.2) (clean_stopped g.D.Device c.args.self.now c.new_table.new.self c.args.cluster stop c.args.dev.now c.new_table.new.dev c.in_err-table.ensures.steps))

pub returns-clause-steps : goal.returns-clause-steps
returns-clause-steps g c =
    let same = zero_tables c.args.self.now c.new_table.new.self c.args.cluster c.in_ok-table.table (g.D.Device.capacity c.args.dev.now) c.requires.open c.requires.below c.requires.fits c.in_ok-table.ensures.table c.in_ok-table.ensures.ok in
    let entry = c.lookup.ensures ∙ ap (λ (k : Known). entry_in k c.args.cluster) c.self.view_is ∙ ap (λ (t : tables.KeptTables). l2_entry (get_or t.words c.args.cluster 0)) same in
    let host = c.host_of-host.ensures ∙ ap host_of entry in
    clean_made g.D.Device c.args.self.now c.new_table.new.self c.map_cluster.new.self c.args.cluster c.host_of-host.result c.in_ok-table.table c.map_cluster.result
    c.args.dev.now c.new_table.new.dev c.map_cluster.new.dev c.in_ok-table.ensures.ok host c.in_ok-table.ensures.table c.in_ok-table.ensures.steps c.map_cluster.ensures.steps
