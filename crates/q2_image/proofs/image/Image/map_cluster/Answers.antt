use Rattle.std.proofs.Common.{◌≡◌, ℕ, ◌+◌, ◌*◌, ◌%◌, ◌<◌, ◌≤◌, max, length, Result, Ok, Err, OnOk, OnErr, is_ok, cond, refl, sym, ap, subst, ◌∙◌, arith}
use Rattle.blk_base.specs.Device.{stop_of}
use Rattle.blk_base.specs.declared.fault.DevStop.{DevStop}
use Rattle.q2_format.specs.Entry.{host_of, l2_spelling}
use Rattle.q2_tables.specs.Entries.{entry_of}
use Rattle.q2_tables.specs.Linking.{CanLink, FileAfter, entry_at, link_end, table_len, with_entry}
use Rattle.q2_image.specs.Image.{Known, IsImageOf, cluster_size_in}
use Rattle.q2_image.specs.Made.{MakesSteps, entry_steps}
use Rattle.q2_image.specs.Writing.{HasEntriesBut, counts_once, MayName}
use Rattle.q2_image.proofs.Changes.{entry_made}
use Rattle.q2_image.proofs.EntryWrites.{lies_apart}
use Rattle.q2_image.proofs.LinkTold.{open_after, entry_after, spelled_after, others_after, image_after, disk_after, disk_kept, tree_by_kept, link_fault}
use Rattle.q2_image.proofs.Taken.{told_too}
use Rattle.q2_image.proofs.image.Image.map_cluster.Goals as goal

pub invariant_of-self : goal.invariant_of-self
invariant_of-self g c =
    let seen : Known = record { header = c.self.inside.header; tables = c.self.inside.tables; refs = c.self.inside.refs } in
    let word : ℕ = l2_spelling (entry_of c.args.to) c.is_single-single.result in
    let B : Known → Type 0 = λ k. c.args.cluster < length k.tables.words in
    let below : B seen = subst B (sym c.self.view_is) c.requires.below in
    let C : Known → Type 0 = λ k. CanLink k.tables c.args.cluster c.args.table in
    let can : C seen = subst C (sym c.self.view_is) c.requires.can in
    let R : Known → Type 0 = λ k. host_of (entry_of c.args.to) < length k.refs.counts * cluster_size_in k in
    let reached : R seen = subst R (sym c.self.view_is) c.requires.reached in
    open_after seen c.args.cluster c.args.table word (entry_of c.args.to) c.is_single-single.result c.self.invariant below can c.requires.entry refl reached c.link.new.self c.link.result c.link.ensures.linked c.link.ensures.kept

pub returns-clause-entry : goal.returns-clause-entry
returns-clause-entry g c =
    let seen : Known = record { header = c.self.inside.header; tables = c.self.inside.tables; refs = c.self.inside.refs } in
    let word : ℕ = l2_spelling (entry_of c.args.to) c.is_single-single.result in
    let B : Known → Type 0 = λ k. c.args.cluster < length k.tables.words in
    let below : B seen = subst B (sym c.self.view_is) c.requires.below in
    let C : Known → Type 0 = λ k. CanLink k.tables c.args.cluster c.args.table in
    let can : C seen = subst C (sym c.self.view_is) c.requires.can in
    let R : Known → Type 0 = λ k. host_of (entry_of c.args.to) < length k.refs.counts * cluster_size_in k in
    let reached : R seen = subst R (sym c.self.view_is) c.requires.reached in
    entry_after seen c.args.cluster c.args.table word (entry_of c.args.to) c.is_single-single.result c.self.invariant below can c.requires.entry refl reached c.link.new.self c.link.result c.link.ensures.linked

pub returns-clause-spelled : goal.returns-clause-spelled
returns-clause-spelled g c =
    let seen : Known = record { header = c.self.inside.header; tables = c.self.inside.tables; refs = c.self.inside.refs } in
    let word : ℕ = l2_spelling (entry_of c.args.to) c.is_single-single.result in
    let B : Known → Type 0 = λ k. c.args.cluster < length k.tables.words in
    let below : B seen = subst B (sym c.self.view_is) c.requires.below in
    let C : Known → Type 0 = λ k. CanLink k.tables c.args.cluster c.args.table in
    let can : C seen = subst C (sym c.self.view_is) c.requires.can in
    let R : Known → Type 0 = λ k. host_of (entry_of c.args.to) < length k.refs.counts * cluster_size_in k in
    let reached : R seen = subst R (sym c.self.view_is) c.requires.reached in
    let counted : c.is_single-single.result ≡ counts_once seen (host_of (entry_of c.args.to)) = c.is_single-single.ensures ∙ ap (λ (k : Known). counts_once k c.host_of.result) (sym c.self.view_is) ∙ ap (counts_once seen) c.host_of.ensures in
    spelled_after seen c.args.cluster c.args.table word (entry_of c.args.to) c.is_single-single.result c.self.invariant below can c.requires.entry refl reached c.link.new.self c.link.result counted c.link.ensures.linked

pub returns-clause-others : goal.returns-clause-others
returns-clause-others g c =
    let seen : Known = record { header = c.self.inside.header; tables = c.self.inside.tables; refs = c.self.inside.refs } in
    let word : ℕ = l2_spelling (entry_of c.args.to) c.is_single-single.result in
    let B : Known → Type 0 = λ k. c.args.cluster < length k.tables.words in
    let below : B seen = subst B (sym c.self.view_is) c.requires.below in
    let C : Known → Type 0 = λ k. CanLink k.tables c.args.cluster c.args.table in
    let can : C seen = subst C (sym c.self.view_is) c.requires.can in
    let R : Known → Type 0 = λ k. host_of (entry_of c.args.to) < length k.refs.counts * cluster_size_in k in
    let reached : R seen = subst R (sym c.self.view_is) c.requires.reached in
    let O : Known → Type 0 = λ k. HasEntriesBut k (record seen { tables = c.link.new.self }) c.args.cluster in
    subst O c.self.view_is (others_after seen c.args.cluster c.args.table word (entry_of c.args.to) c.is_single-single.result c.self.invariant below can c.requires.entry refl reached c.link.new.self c.link.result c.link.ensures.linked c.link.ensures.kept)

-- what the device tells behind a link that was made reaches behind the new table
long_by : (result : Result (Unit {0}) DevStop) (end size len : ℕ) → size ≡ len → OnOk result (end ≤ size) → OnOk result (end ≤ len)
long_by (Ok t) end size len same fits = omega (arith, same, fits)
long_by (Err stop) end size len same fits = tt

on_ok : {P : Type 0} (result : Result (Unit {0}) DevStop) → ((t : Unit {0}) → result ≡ Ok t → P) → OnOk result P
on_ok (Ok t) f = f t refl
on_ok (Err stop) f = tt

on_err : {P : Type 0} (result : Result (Unit {0}) DevStop) → ((stop : DevStop) → result ≡ Err stop → P) → OnErr result P
on_err (Ok t) f = tt
on_err (Err stop) f = f stop refl

pub returns-clause-image : goal.returns-clause-image
returns-clause-image g c = λ file told.
    let bits = ap (λ (k : Known). k.header.cluster_bits) (sym c.self.view_is) ∙ c.self.invariant.cluster_bits in
    let whole : c.args.table % 65536 ≡ 0 = rw bits at c.requires.whole in
    let near : c.args.table + 65536 ≤ 549755813888 = rw bits at c.requires.near in
    let before = told_too (g.D.Device.content c.args.dev.now) (g.D.Device.content c.link.new.dev) file c.link.ensures.tells told in
    let seen : Known = record { header = c.self.inside.header; tables = c.self.inside.tables; refs = c.self.inside.refs } in
    let word : ℕ = l2_spelling (entry_of c.args.to) c.is_single-single.result in
    let B : Known → Type 0 = λ k. c.args.cluster < length k.tables.words in
    let below : B seen = subst B (sym c.self.view_is) c.requires.below in
    let C : Known → Type 0 = λ k. CanLink k.tables c.args.cluster c.args.table in
    let can : C seen = subst C (sym c.self.view_is) c.requires.can in
    let R : Known → Type 0 = λ k. host_of (entry_of c.args.to) < length k.refs.counts * cluster_size_in k in
    let reached : R seen = subst R (sym c.self.view_is) c.requires.reached in
    let told_old = before.1 in
    let I : Known → Type 0 = IsImageOf before.0 in
    let is : I seen = subst I (sym c.self.view_is) (c.requires.image before.0 told_old) in
    let M : Known → Type 0 = λ k. MayName 65536 before.0 k c.args.cluster c.args.table (host_of (entry_of c.args.to)) in
    let may : M seen = subst M (sym c.self.view_is) (rw bits at (c.requires.may before.0 told_old)) in
    let spare = rw bits at (c.requires.spare before.0 told_old) in
    let size_old = g.met.D.Device.told_size c.args.dev.now before.0 told_old in
    let size_new = g.met.D.Device.told_size c.link.new.dev file told in
    let grows : length before.0 ≤ length file = omega (arith, c.link.ensures.grows, size_old, size_new) in
    let bound : length file ≤ max (length before.0) (link_end seen.tables c.args.cluster c.args.table) = omega (arith, c.link.ensures.bound, size_old, size_new) in
    let after = c.link.ensures.told before.0 told_old (tree_by_kept before.0 seen is c.self.invariant) (lies_apart before.0 seen is c.self.invariant c.args.cluster c.args.table below can spare whole) in
    image_after seen c.args.cluster c.args.table word (entry_of c.args.to) c.is_single-single.result c.self.invariant below can c.requires.entry refl reached before.0 file is spare whole near may grows bound c.link.new.self (g.D.Device.content c.link.new.dev) told c.link.result c.link.ensures.linked c.link.ensures.kept after
    (long_by c.link.result (c.args.table + table_len seen.tables c.args.table) (g.D.Device.size c.link.new.dev) (length file) size_new c.link.ensures.reaches)

pub returns-clause-disk : goal.returns-clause-disk
returns-clause-disk g c =
    let bits = ap (λ (k : Known). k.header.cluster_bits) (sym c.self.view_is) ∙ c.self.invariant.cluster_bits in
    let whole : c.args.table % 65536 ≡ 0 = rw bits at c.requires.whole in
    let near : c.args.table + 65536 ≤ 549755813888 = rw bits at c.requires.near in
    let seen : Known = record { header = c.self.inside.header; tables = c.self.inside.tables; refs = c.self.inside.refs } in
    let word : ℕ = l2_spelling (entry_of c.args.to) c.is_single-single.result in
    let B : Known → Type 0 = λ k. c.args.cluster < length k.tables.words in
    let below : B seen = subst B (sym c.self.view_is) c.requires.below in
    let C : Known → Type 0 = λ k. CanLink k.tables c.args.cluster c.args.table in
    let can : C seen = subst C (sym c.self.view_is) c.requires.can in
    let R : Known → Type 0 = λ k. host_of (entry_of c.args.to) < length k.refs.counts * cluster_size_in k in
    let reached : R seen = subst R (sym c.self.view_is) c.requires.reached in
    rw bits (on_ok c.link.result (λ t ok old new bytes told_was told_new len shows.
    let told_old = told_was in
    let I : Known → Type 0 = IsImageOf old in
    let is : I seen = subst I (sym c.self.view_is) (c.requires.image old told_old) in
    let M : Known → Type 0 = λ k. MayName 65536 old k c.args.cluster c.args.table (host_of (entry_of c.args.to)) in
    let may : M seen = subst M (sym c.self.view_is) (rw bits at (c.requires.may old told_old)) in
    let spare = rw bits at (c.requires.spare old told_old) in
    let size_old = g.met.D.Device.told_size c.args.dev.now old told_old in
    let size_new = g.met.D.Device.told_size c.link.new.dev new told_new in
    let grows : length old ≤ length new = omega (arith, c.link.ensures.grows, size_old, size_new) in
    let bound : length new ≤ max (length old) (link_end seen.tables c.args.cluster c.args.table) = omega (arith, c.link.ensures.bound, size_old, size_new) in
    let after = c.link.ensures.told old told_old (tree_by_kept old seen is c.self.invariant) (lies_apart old seen is c.self.invariant c.args.cluster c.args.table below can spare whole) in
    let A : Result (Unit {0}) DevStop → Type 0 = λ r. FileAfter c.link.new.self old (g.D.Device.content c.link.new.dev) (entry_at seen.tables c.args.cluster c.args.table) (cond (is_ok r) 8 0) c.args.table (table_len seen.tables c.args.table) in
    let L : Result (Unit {0}) DevStop → Type 0 = λ r. OnOk r (c.link.new.self ≡ with_entry seen.tables c.args.cluster word c.args.table) in
    let N : Result (Unit {0}) DevStop → Type 0 = λ r. OnOk r (c.args.table + table_len seen.tables c.args.table ≤ g.D.Device.size c.link.new.dev) in
    let long = subst N ok c.link.ensures.reaches in
    disk_after seen c.args.cluster c.args.table word (entry_of c.args.to) c.is_single-single.result c.self.invariant below can c.requires.entry refl reached old new is spare whole near may grows bound c.link.new.self (g.D.Device.content c.link.new.dev) told_new t (subst L ok c.link.ensures.linked) (subst A ok after)
    (omega (arith, long, size_new)) bytes len shows))

pub returns-clause-kept : goal.returns-clause-kept
returns-clause-kept g c =
    let bits = ap (λ (k : Known). k.header.cluster_bits) (sym c.self.view_is) ∙ c.self.invariant.cluster_bits in
    let whole : c.args.table % 65536 ≡ 0 = rw bits at c.requires.whole in
    let near : c.args.table + 65536 ≤ 549755813888 = rw bits at c.requires.near in
    let seen : Known = record { header = c.self.inside.header; tables = c.self.inside.tables; refs = c.self.inside.refs } in
    let word : ℕ = l2_spelling (entry_of c.args.to) c.is_single-single.result in
    let B : Known → Type 0 = λ k. c.args.cluster < length k.tables.words in
    let below : B seen = subst B (sym c.self.view_is) c.requires.below in
    let C : Known → Type 0 = λ k. CanLink k.tables c.args.cluster c.args.table in
    let can : C seen = subst C (sym c.self.view_is) c.requires.can in
    let R : Known → Type 0 = λ k. host_of (entry_of c.args.to) < length k.refs.counts * cluster_size_in k in
    let reached : R seen = subst R (sym c.self.view_is) c.requires.reached in
    on_err c.link.result (λ stop err old new told_was told_new.
    let told_old = told_was in
    let I : Known → Type 0 = IsImageOf old in
    let is : I seen = subst I (sym c.self.view_is) (c.requires.image old told_old) in
    let M : Known → Type 0 = λ k. MayName 65536 old k c.args.cluster c.args.table (host_of (entry_of c.args.to)) in
    let may : M seen = subst M (sym c.self.view_is) (rw bits at (c.requires.may old told_old)) in
    let spare = rw bits at (c.requires.spare old told_old) in
    let size_old = g.met.D.Device.told_size c.args.dev.now old told_old in
    let size_new = g.met.D.Device.told_size c.link.new.dev new told_new in
    let grows : length old ≤ length new = omega (arith, c.link.ensures.grows, size_old, size_new) in
    let bound : length new ≤ max (length old) (link_end seen.tables c.args.cluster c.args.table) = omega (arith, c.link.ensures.bound, size_old, size_new) in
    let after = c.link.ensures.told old told_old (tree_by_kept old seen is c.self.invariant) (lies_apart old seen is c.self.invariant c.args.cluster c.args.table below can spare whole) in
    let A : Result (Unit {0}) DevStop → Type 0 = λ r. FileAfter c.link.new.self old (g.D.Device.content c.link.new.dev) (entry_at seen.tables c.args.cluster c.args.table) (cond (is_ok r) 8 0) c.args.table (table_len seen.tables c.args.table) in
    let K : Result (Unit {0}) DevStop → Type 0 = λ r. OnErr r (c.link.new.self ≡ seen.tables) in
    disk_kept seen c.args.cluster c.args.table word (entry_of c.args.to) c.is_single-single.result c.self.invariant below can c.requires.entry refl reached old new is spare whole near may grows bound c.link.new.self (g.D.Device.content c.link.new.dev) told_new stop (subst K err c.link.ensures.kept) (subst A err after))

pub returns-clause-cause : goal.returns-clause-cause
returns-clause-cause g c =
    let word : ℕ = l2_spelling (entry_of c.args.to) c.is_single-single.result in
    let F : Known → Type 0 = λ k. link_end k.tables c.args.cluster c.args.table ≤ g.D.Device.capacity c.args.dev.now in
    link_fault g.D.Device c.self.inside.tables c.args.cluster word c.args.table c.link.result c.args.dev.now c.link.new.dev
    (subst F (sym c.self.view_is) c.requires.fits) c.link.ensures.writes

pub returns-clause-steps : goal.returns-clause-steps
returns-clause-steps g c =
    let seen : Known = record { header = c.self.inside.header; tables = c.self.inside.tables; refs = c.self.inside.refs } in
    let counted : c.is_single-single.result ≡ counts_once seen (host_of (entry_of c.args.to)) = c.is_single-single.ensures ∙ ap (λ (k : Known). counts_once k c.host_of.result) (sym c.self.view_is) ∙ ap (counts_once seen) c.host_of.ensures in
    let M : Known → Type 0 = λ k. MakesSteps g.D.Device k (entry_steps k c.args.cluster (entry_of c.args.to) c.args.table) (stop_of c.link.result) (record seen { tables = c.link.new.self }) c.args.dev.now c.link.new.dev in
    subst M c.self.view_is
    (entry_made g.D.Device seen c.args.cluster (entry_of c.args.to) c.is_single-single.result c.args.table c.link.new.self c.link.result c.args.dev.now c.link.new.dev
    counted c.link.ensures.writes c.link.ensures.linked c.link.ensures.kept)
