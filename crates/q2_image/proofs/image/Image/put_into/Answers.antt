use Rattle.std.proofs.Common.{◌≡◌, ℕ, ◌*◌, ◌/◌, ◌⊎◌, inl, inr, Bool, true, false, [], get_or, Some, Result, Ok, Err, OnErr, refl, sym, ap, subst, ◌∙◌, arith}
use Rattle.std.proofs.lemmas.Result.{err_from_is_err_and, on_ok_weaker}
use Rattle.q2_format.specs.Header.{header_of}
use Rattle.q2_format.specs.declared.header.Header.{Header}
use Rattle.q2_format.specs.Tables.{refcount_of}
use Rattle.blk_base.specs.declared.fault.DevStop.{DevStop}
use Rattle.q2_image.specs.Image.{Known}
use Rattle.q2_image.proofs.Changes.{fill_stopped_first, fill_stopped_second, fill_behind, data_stopped, data_made}
use Rattle.q2_image.specs.Made.{MakesSteps, fill_steps}
use Rattle.q2_image.specs.Writing.{CanTake, needs_host, with_table}
use Rattle.q2_image.proofs.HostUses.{held_by, zero_entry}
use Rattle.q2_image.proofs.OwnWrites.{disk_then}
use Rattle.q2_image.proofs.Plans.{IsPut, can_host, open_second, below_second, host_facts, reached_second, table_facts, idle_host_there, taken_whole, single_after}
use Rattle.q2_image.proofs.Taken.{told_too}
use Rattle.q2_image.proofs.image.Image.put_into.Goals as goal

bool_cases : (b : Bool) → (b ≡ true) ⊎ (b ≡ false)
bool_cases true = inl refl
bool_cases false = inr refl

on_err_weaker : {T E P Q : Type 0} (r : Result T E) → (P → Q) → OnErr r P → OnErr r Q
on_err_weaker (Ok t) f h = tt
on_err_weaker (Err e) f h = f h

pub new_host-requires-clause-can : goal.new_host-requires-clause-can
new_host-requires-clause-can g c =
    let P : Known → Type 0 = λ k. needs_host k c.args.cluster ≡ true → CanTake k 0 (g.D.Device.capacity c.new_table.new.dev) in
    let C : ℕ → Type 0 = λ n. needs_host (with_table c.args.self.now c.args.cluster) c.args.cluster ≡ true → CanTake (with_table c.args.self.now c.args.cluster) 0 n in
    subst P (sym c.in_ok-table.ensures.ok) (subst C (sym c.in_ok-table.ensures.capacity) (can_host c.args.self.now c.args.cluster (g.D.Device.capacity c.args.dev.now) c.requires.open c.requires.fits))

pub returns-in_err-host-clause-kept : goal.returns-in_err-host-clause-kept
returns-in_err-host-clause-kept g c =
    let p = err_from_is_err_and c.from_residual-in_err-host.result c.from_residual-in_err-host.ensures.1 in
    rw p.1 (λ old new told_old told_new.
    let mid = told_too (g.D.Device.content c.new_table.new.dev) (g.D.Device.content c.new_host.new.dev) new c.in_err-host.ensures.told told_new in
    disk_then old mid.0 new 0 [] (c.in_ok-table.ensures.disk old mid.0 told_old mid.1) (c.in_err-host.ensures.disk mid.0 new mid.1 told_new))

pub write_payload-requires-clause-open : goal.write_payload-requires-clause-open
write_payload-requires-clause-open g c =
    let put : IsPut c.args.self.now c.new_table.new.self c.new_host.new.self c.args.cluster c.in_ok-table.table c.in_ok-host.host (g.D.Device.capacity c.args.dev.now) = record {
      ready = c.requires.open;
      below = c.requires.below;
      fits = c.requires.fits;
      table_is = c.in_ok-table.ensures.table;
      first_is = c.in_ok-table.ensures.ok;
      host_is = c.in_ok-host.ensures.host;
      second_is = c.in_ok-host.ensures.ok;
    } in
    open_second c.args.self.now c.new_table.new.self c.new_host.new.self c.args.cluster c.in_ok-table.table c.in_ok-host.host (g.D.Device.capacity c.args.dev.now) put

pub write_payload-requires-clause-whole : goal.write_payload-requires-clause-whole
write_payload-requires-clause-whole g c =
    let bits = c.requires.open.cluster_bits in
    let first_bits = ap (λ (k : Header). k.cluster_bits) c.in_ok-table.ensures.same.header ∙ bits in
    let second_bits = ap (λ (k : Header). k.cluster_bits) c.in_ok-host.ensures.same.header ∙ first_bits in
    rw second_bits (rw bits at c.requires.whole)

pub write_payload-requires-clause-aligned : goal.write_payload-requires-clause-aligned
write_payload-requires-clause-aligned g c =
    let bits = c.requires.open.cluster_bits in
    let first_bits = ap (λ (k : Header). k.cluster_bits) c.in_ok-table.ensures.same.header ∙ bits in
    let second_bits = ap (λ (k : Header). k.cluster_bits) c.in_ok-host.ensures.same.header ∙ first_bits in
    let put : IsPut c.args.self.now c.new_table.new.self c.new_host.new.self c.args.cluster c.in_ok-table.table c.in_ok-host.host (g.D.Device.capacity c.args.dev.now) = record {
      ready = c.requires.open;
      below = c.requires.below;
      fits = c.requires.fits;
      table_is = c.in_ok-table.ensures.table;
      first_is = c.in_ok-table.ensures.ok;
      host_is = c.in_ok-host.ensures.host;
      second_is = c.in_ok-host.ensures.ok;
    } in
    rw second_bits (λ file told. elim (bool_cases (needs_host c.new_table.new.self c.args.cluster)) [
      | inl taken ↦ taken_whole c.args.self.now c.new_table.new.self c.new_host.new.self c.args.cluster c.in_ok-table.table c.in_ok-host.host (g.D.Device.capacity c.args.dev.now) put taken
      | inr idle ↦
          let there = idle_host_there c.args.self.now c.new_table.new.self c.new_host.new.self c.args.cluster c.in_ok-table.table c.in_ok-host.host (g.D.Device.capacity c.args.dev.now) put idle in
          (held_by file c.new_host.new.self (c.in_ok-host.ensures.image file told) (open_second c.args.self.now c.new_table.new.self c.new_host.new.self c.args.cluster c.in_ok-table.table c.in_ok-host.host (g.D.Device.capacity c.args.dev.now) put) c.args.cluster c.in_ok-host.host (below_second c.args.self.now c.new_table.new.self c.new_host.new.self c.args.cluster c.in_ok-table.table c.in_ok-host.host (g.D.Device.capacity c.args.dev.now) put)
          (zero_entry (get_or c.new_host.new.self.tables.words c.args.cluster 0) c.in_ok-host.host there.0) (λ none. let some = there.1 in omega (arith, none, some))).whole
    ])

pub write_payload-requires-clause-small : goal.write_payload-requires-clause-small
write_payload-requires-clause-small g c =
    let put : IsPut c.args.self.now c.new_table.new.self c.new_host.new.self c.args.cluster c.in_ok-table.table c.in_ok-host.host (g.D.Device.capacity c.args.dev.now) = record {
      ready = c.requires.open;
      below = c.requires.below;
      fits = c.requires.fits;
      table_is = c.in_ok-table.ensures.table;
      first_is = c.in_ok-table.ensures.ok;
      host_is = c.in_ok-host.ensures.host;
      second_is = c.in_ok-host.ensures.ok;
    } in
    (host_facts c.args.self.now c.new_table.new.self c.new_host.new.self c.args.cluster c.in_ok-table.table c.in_ok-host.host (g.D.Device.capacity c.args.dev.now) put).small

pub write_payload-requires-clause-fits : goal.write_payload-requires-clause-fits
write_payload-requires-clause-fits g c =
    let bits = c.requires.open.cluster_bits in
    let first_bits = ap (λ (k : Header). k.cluster_bits) c.in_ok-table.ensures.same.header ∙ bits in
    let second_bits = ap (λ (k : Header). k.cluster_bits) c.in_ok-host.ensures.same.header ∙ first_bits in
    let put : IsPut c.args.self.now c.new_table.new.self c.new_host.new.self c.args.cluster c.in_ok-table.table c.in_ok-host.host (g.D.Device.capacity c.args.dev.now) = record {
      ready = c.requires.open;
      below = c.requires.below;
      fits = c.requires.fits;
      table_is = c.in_ok-table.ensures.table;
      first_is = c.in_ok-table.ensures.ok;
      host_is = c.in_ok-host.ensures.host;
      second_is = c.in_ok-host.ensures.ok;
    } in
    rw second_bits (let fits = (host_facts c.args.self.now c.new_table.new.self c.new_host.new.self c.args.cluster c.in_ok-table.table c.in_ok-host.host (g.D.Device.capacity c.args.dev.now) put).fits in omega (arith, fits, c.in_ok-table.ensures.capacity, c.in_ok-host.ensures.capacity))

pub write_payload-requires-clause-idle : goal.write_payload-requires-clause-idle
write_payload-requires-clause-idle g c =
    let bits = c.requires.open.cluster_bits in
    let first_bits = ap (λ (k : Header). k.cluster_bits) c.in_ok-table.ensures.same.header ∙ bits in
    let second_bits = ap (λ (k : Header). k.cluster_bits) c.in_ok-host.ensures.same.header ∙ first_bits in
    let put : IsPut c.args.self.now c.new_table.new.self c.new_host.new.self c.args.cluster c.in_ok-table.table c.in_ok-host.host (g.D.Device.capacity c.args.dev.now) = record {
      ready = c.requires.open;
      below = c.requires.below;
      fits = c.requires.fits;
      table_is = c.in_ok-table.ensures.table;
      first_is = c.in_ok-table.ensures.ok;
      host_is = c.in_ok-host.ensures.host;
      second_is = c.in_ok-host.ensures.ok;
    } in
    rw second_bits (λ file told. elim (bool_cases (needs_host c.new_table.new.self c.args.cluster)) [
      | inl taken ↦ inl (rw first_bits at (c.in_ok-host.ensures.spare taken file told))
      | inr idle ↦ let there = idle_host_there c.args.self.now c.new_table.new.self c.new_host.new.self c.args.cluster c.in_ok-table.table c.in_ok-host.host (g.D.Device.capacity c.args.dev.now) put idle in inr (c.args.cluster, below_second c.args.self.now c.new_table.new.self c.new_host.new.self c.args.cluster c.in_ok-table.table c.in_ok-host.host (g.D.Device.capacity c.args.dev.now) put, there.0, there.1)
    ])

pub returns-in_err-write_payload-clause-kept : goal.returns-in_err-write_payload-clause-kept
returns-in_err-write_payload-clause-kept g c =
    let p = err_from_is_err_and c.from_residual-in_err-write_payload.result c.from_residual-in_err-write_payload.ensures.1 in
    rw p.1 (λ old new told_old told_new.
    let second = told_too (g.D.Device.content c.new_host.new.dev) (g.D.Device.content c.write_payload.new.dev) new c.in_err-write_payload.ensures.told told_new in
    let first = told_too (g.D.Device.content c.new_table.new.dev) (g.D.Device.content c.new_host.new.dev) second.0 c.in_ok-host.ensures.told second.1 in
    disk_then old first.0 new 0 [] (c.in_ok-table.ensures.disk old first.0 told_old first.1)
    (disk_then first.0 second.0 new 0 [] (c.in_ok-host.ensures.disk first.0 second.0 first.1 second.1) (c.in_err-write_payload.ensures.disk second.0 new second.1 told_new)))

pub map_cluster-requires-clause-can : goal.map_cluster-requires-clause-can
map_cluster-requires-clause-can g c =
    let put : IsPut c.args.self.now c.new_table.new.self c.new_host.new.self c.args.cluster c.in_ok-table.table c.in_ok-host.host (g.D.Device.capacity c.args.dev.now) = record {
      ready = c.requires.open;
      below = c.requires.below;
      fits = c.requires.fits;
      table_is = c.in_ok-table.ensures.table;
      first_is = c.in_ok-table.ensures.ok;
      host_is = c.in_ok-host.ensures.host;
      second_is = c.in_ok-host.ensures.ok;
    } in
    (table_facts c.args.self.now c.new_table.new.self c.new_host.new.self c.args.cluster c.in_ok-table.table c.in_ok-host.host (g.D.Device.capacity c.args.dev.now) put).can

pub map_cluster-requires-clause-entry : goal.map_cluster-requires-clause-entry
map_cluster-requires-clause-entry g c =
    let put : IsPut c.args.self.now c.new_table.new.self c.new_host.new.self c.args.cluster c.in_ok-table.table c.in_ok-host.host (g.D.Device.capacity c.args.dev.now) = record {
      ready = c.requires.open;
      below = c.requires.below;
      fits = c.requires.fits;
      table_is = c.in_ok-table.ensures.table;
      first_is = c.in_ok-table.ensures.ok;
      host_is = c.in_ok-host.ensures.host;
      second_is = c.in_ok-host.ensures.ok;
    } in
    (host_facts c.args.self.now c.new_table.new.self c.new_host.new.self c.args.cluster c.in_ok-table.table c.in_ok-host.host (g.D.Device.capacity c.args.dev.now) put).writable

pub map_cluster-requires-clause-reached : goal.map_cluster-requires-clause-reached
map_cluster-requires-clause-reached g c =
    let put : IsPut c.args.self.now c.new_table.new.self c.new_host.new.self c.args.cluster c.in_ok-table.table c.in_ok-host.host (g.D.Device.capacity c.args.dev.now) = record {
      ready = c.requires.open;
      below = c.requires.below;
      fits = c.requires.fits;
      table_is = c.in_ok-table.ensures.table;
      first_is = c.in_ok-table.ensures.ok;
      host_is = c.in_ok-host.ensures.host;
      second_is = c.in_ok-host.ensures.ok;
    } in
    reached_second c.args.self.now c.new_table.new.self c.new_host.new.self c.args.cluster c.in_ok-table.table c.in_ok-host.host (g.D.Device.capacity c.args.dev.now) put

pub map_cluster-requires-clause-whole : goal.map_cluster-requires-clause-whole
map_cluster-requires-clause-whole g c =
    let bits = c.requires.open.cluster_bits in
    let first_bits = ap (λ (k : Header). k.cluster_bits) c.in_ok-table.ensures.same.header ∙ bits in
    let second_bits = ap (λ (k : Header). k.cluster_bits) c.in_ok-host.ensures.same.header ∙ first_bits in
    let put : IsPut c.args.self.now c.new_table.new.self c.new_host.new.self c.args.cluster c.in_ok-table.table c.in_ok-host.host (g.D.Device.capacity c.args.dev.now) = record {
      ready = c.requires.open;
      below = c.requires.below;
      fits = c.requires.fits;
      table_is = c.in_ok-table.ensures.table;
      first_is = c.in_ok-table.ensures.ok;
      host_is = c.in_ok-host.ensures.host;
      second_is = c.in_ok-host.ensures.ok;
    } in
    rw second_bits ((table_facts c.args.self.now c.new_table.new.self c.new_host.new.self c.args.cluster c.in_ok-table.table c.in_ok-host.host (g.D.Device.capacity c.args.dev.now) put).whole)

pub map_cluster-requires-clause-near : goal.map_cluster-requires-clause-near
map_cluster-requires-clause-near g c =
    let bits = c.requires.open.cluster_bits in
    let first_bits = ap (λ (k : Header). k.cluster_bits) c.in_ok-table.ensures.same.header ∙ bits in
    let second_bits = ap (λ (k : Header). k.cluster_bits) c.in_ok-host.ensures.same.header ∙ first_bits in
    let put : IsPut c.args.self.now c.new_table.new.self c.new_host.new.self c.args.cluster c.in_ok-table.table c.in_ok-host.host (g.D.Device.capacity c.args.dev.now) = record {
      ready = c.requires.open;
      below = c.requires.below;
      fits = c.requires.fits;
      table_is = c.in_ok-table.ensures.table;
      first_is = c.in_ok-table.ensures.ok;
      host_is = c.in_ok-host.ensures.host;
      second_is = c.in_ok-host.ensures.ok;
    } in
    rw second_bits ((table_facts c.args.self.now c.new_table.new.self c.new_host.new.self c.args.cluster c.in_ok-table.table c.in_ok-host.host (g.D.Device.capacity c.args.dev.now) put).near)

pub map_cluster-requires-clause-spare : goal.map_cluster-requires-clause-spare
map_cluster-requires-clause-spare g c =
    let bits = c.requires.open.cluster_bits in
    let first_bits = ap (λ (k : Header). k.cluster_bits) c.in_ok-table.ensures.same.header ∙ bits in
    let second_bits = ap (λ (k : Header). k.cluster_bits) c.in_ok-host.ensures.same.header ∙ first_bits in
    rw second_bits (λ file told some.
    let second = told_too (g.D.Device.content c.new_host.new.dev) (g.D.Device.content c.write_payload.new.dev) file c.in_ok-write_payload.ensures.told told in
    let first = told_too (g.D.Device.content c.new_table.new.dev) (g.D.Device.content c.new_host.new.dev) second.0 c.in_ok-host.ensures.told second.1 in
    let n : ℕ = c.in_ok-table.table / 65536 in
    c.in_ok-write_payload.ensures.spare_stay second.0 file n second.1 told (c.in_ok-host.ensures.spare_stay first.0 second.0 n first.1 second.1 (rw bits at (c.in_ok-table.ensures.spare first.0 first.1 some))))

pub map_cluster-requires-clause-may : goal.map_cluster-requires-clause-may
map_cluster-requires-clause-may g c =
    let bits = c.requires.open.cluster_bits in
    let first_bits = ap (λ (k : Header). k.cluster_bits) c.in_ok-table.ensures.same.header ∙ bits in
    let second_bits = ap (λ (k : Header). k.cluster_bits) c.in_ok-host.ensures.same.header ∙ first_bits in
    rw second_bits (λ file told.
    let put : IsPut c.args.self.now c.new_table.new.self c.new_host.new.self c.args.cluster c.in_ok-table.table c.in_ok-host.host (g.D.Device.capacity c.args.dev.now) = record {
      ready = c.requires.open;
      below = c.requires.below;
      fits = c.requires.fits;
      table_is = c.in_ok-table.ensures.table;
      first_is = c.in_ok-table.ensures.ok;
      host_is = c.in_ok-host.ensures.host;
      second_is = c.in_ok-host.ensures.ok;
    } in
    let second = told_too (g.D.Device.content c.new_host.new.dev) (g.D.Device.content c.write_payload.new.dev) file c.in_ok-write_payload.ensures.told told in
    let first = told_too (g.D.Device.content c.new_table.new.dev) (g.D.Device.content c.new_host.new.dev) second.0 c.in_ok-host.ensures.told second.1 in
    let size = g.met.D.Device.told_size c.write_payload.new.dev file told in
    elim (bool_cases (needs_host c.new_table.new.self c.args.cluster)) [
      | inl taken ↦ inr (inr (
        c.in_ok-write_payload.ensures.spare_stay second.0 file (c.in_ok-host.host / 65536) second.1 told (rw first_bits at (c.in_ok-host.ensures.spare taken second.0 second.1)),
        taken_whole c.args.self.now c.new_table.new.self c.new_host.new.self c.args.cluster c.in_ok-table.table c.in_ok-host.host (g.D.Device.capacity c.args.dev.now) put taken,
        let reaches = rw second_bits at c.in_ok-write_payload.ensures.reaches in omega (arith, size, reaches),
        λ some same. (rw bits at (c.in_ok-table.ensures.spare first.0 first.1 some)).counted
            (ap (refcount_of first.0 (header_of first.0)) (sym same) ∙ rw first_bits at (c.in_ok-host.ensures.fresh taken first.0 first.1)),
      ))
      | inr idle ↦
          let there = idle_host_there c.args.self.now c.new_table.new.self c.new_host.new.self c.args.cluster c.in_ok-table.table c.in_ok-host.host (g.D.Device.capacity c.args.dev.now) put idle in
          inr (inl (sym (zero_entry (get_or c.new_host.new.self.tables.words c.args.cluster 0) c.in_ok-host.host there.0)))
    ])

pub returns-clause-single : goal.returns-clause-single
returns-clause-single g c =
    let put : IsPut c.args.self.now c.new_table.new.self c.new_host.new.self c.args.cluster c.in_ok-table.table c.in_ok-host.host (g.D.Device.capacity c.args.dev.now) = record {
      ready = c.requires.open;
      below = c.requires.below;
      fits = c.requires.fits;
      table_is = c.in_ok-table.ensures.table;
      first_is = c.in_ok-table.ensures.ok;
      host_is = c.in_ok-host.ensures.host;
      second_is = c.in_ok-host.ensures.ok;
    } in
    single_after c.args.self.now c.new_table.new.self c.new_host.new.self c.args.cluster c.in_ok-table.table c.in_ok-host.host (g.D.Device.capacity c.args.dev.now) put c.map_cluster.new.self c.map_cluster.result c.map_cluster.ensures.header c.map_cluster.ensures.refs c.map_cluster.ensures.entry c.map_cluster.ensures.spelled

pub returns-clause-disk : goal.returns-clause-disk
returns-clause-disk g c =
    let bits = c.requires.open.cluster_bits in
    let first_bits = ap (λ (k : Header). k.cluster_bits) c.in_ok-table.ensures.same.header ∙ bits in
    let second_bits = ap (λ (k : Header). k.cluster_bits) c.in_ok-host.ensures.same.header ∙ first_bits in
    rw bits (on_ok_weaker c.map_cluster.result (λ made. λ old new told_old told_new.
    let third = told_too (g.D.Device.content c.write_payload.new.dev) (g.D.Device.content c.map_cluster.new.dev) new c.map_cluster.ensures.told told_new in
    let second = told_too (g.D.Device.content c.new_host.new.dev) (g.D.Device.content c.write_payload.new.dev) third.0 c.in_ok-write_payload.ensures.told third.1 in
    let first = told_too (g.D.Device.content c.new_table.new.dev) (g.D.Device.content c.new_host.new.dev) second.0 c.in_ok-host.ensures.told second.1 in
    let at : ℕ = c.args.cluster * 65536 in
    let last = made third.0 new c.args.bytes.now third.1 told_new (rw bits at c.requires.whole) (rw second_bits at (c.in_ok-write_payload.ensures.written third.0 third.1)) in
    disk_then old first.0 new at c.args.bytes.now (c.in_ok-table.ensures.disk old first.0 told_old first.1)
    (disk_then first.0 second.0 new at c.args.bytes.now (c.in_ok-host.ensures.disk first.0 second.0 first.1 second.1)
    (disk_then second.0 third.0 new at c.args.bytes.now (c.in_ok-write_payload.ensures.disk second.0 third.0 second.1 third.1) last))) (rw second_bits at c.map_cluster.ensures.disk))

pub returns-clause-kept : goal.returns-clause-kept
returns-clause-kept g c = on_err_weaker c.map_cluster.result (λ kept. λ old new told_old told_new.
    let third = told_too (g.D.Device.content c.write_payload.new.dev) (g.D.Device.content c.map_cluster.new.dev) new c.map_cluster.ensures.told told_new in
    let second = told_too (g.D.Device.content c.new_host.new.dev) (g.D.Device.content c.write_payload.new.dev) third.0 c.in_ok-write_payload.ensures.told third.1 in
    let first = told_too (g.D.Device.content c.new_table.new.dev) (g.D.Device.content c.new_host.new.dev) second.0 c.in_ok-host.ensures.told second.1 in
    disk_then old first.0 new 0 [] (c.in_ok-table.ensures.disk old first.0 told_old first.1)
    (disk_then first.0 second.0 new 0 [] (c.in_ok-host.ensures.disk first.0 second.0 first.1 second.1)
    (disk_then second.0 third.0 new 0 [] (c.in_ok-write_payload.ensures.disk second.0 third.0 second.1 third.1) (kept third.0 new third.1 told_new)))) c.map_cluster.ensures.kept

pub returns-in_err-table-clause-steps : goal.returns-in_err-table-clause-steps
returns-in_err-table-clause-steps g c =
    let p = err_from_is_err_and c.from_residual.result c.from_residual.ensures.1 in
    let stop : DevStop = c.in_err-table.field-0.0 in
    let Q : DevStop → Type 0 = λ x. MakesSteps g.D.Device c.args.self.now (fill_steps c.args.self.now c.args.cluster c.args.bytes.now) (Some x) c.new_table.new.self c.args.dev.now c.new_table.new.dev in
    rw p.1 (subst Q (sym p.2) (fill_stopped_first g.D.Device c.args.self.now c.new_table.new.self c.args.cluster c.args.bytes.now stop c.args.dev.now c.new_table.new.dev c.in_err-table.ensures.steps))

pub returns-in_err-host-clause-steps : goal.returns-in_err-host-clause-steps
returns-in_err-host-clause-steps g c =
    let p = err_from_is_err_and c.from_residual-in_err-host.result c.from_residual-in_err-host.ensures.1 in
    let stop : DevStop = c.in_err-host.field-0.0 in
    let Q : DevStop → Type 0 = λ x. MakesSteps g.D.Device c.args.self.now (fill_steps c.args.self.now c.args.cluster c.args.bytes.now) (Some x) c.new_host.new.self c.args.dev.now c.new_host.new.dev in
    rw p.1 (subst Q (sym p.2) (fill_stopped_second g.D.Device c.args.self.now c.new_table.new.self c.new_host.new.self c.args.cluster c.args.bytes.now stop c.args.dev.now c.new_table.new.dev c.new_host.new.dev
    c.in_ok-table.ensures.ok c.in_ok-table.ensures.steps c.in_err-host.ensures.steps))

pub returns-in_err-write_payload-clause-steps : goal.returns-in_err-write_payload-clause-steps
returns-in_err-write_payload-clause-steps g c =
    let p = err_from_is_err_and c.from_residual-in_err-write_payload.result c.from_residual-in_err-write_payload.ensures.1 in
    let stop : DevStop = c.in_err-write_payload.field-0.0 in
    let r : Result (Unit {0}) DevStop = Err stop in
    let Q : DevStop → Type 0 = λ x. MakesSteps g.D.Device c.args.self.now (fill_steps c.args.self.now c.args.cluster c.args.bytes.now) (Some x) c.new_host.new.self c.args.dev.now c.write_payload.new.dev in
    let put : IsPut c.args.self.now c.new_table.new.self c.new_host.new.self c.args.cluster c.in_ok-table.table c.in_ok-host.host (g.D.Device.capacity c.args.dev.now) = record {
      ready = c.requires.open;
      below = c.requires.below;
      fits = c.requires.fits;
      table_is = c.in_ok-table.ensures.table;
      first_is = c.in_ok-table.ensures.ok;
      host_is = c.in_ok-host.ensures.host;
      second_is = c.in_ok-host.ensures.ok;
    } in
    rw p.1 (subst Q (sym p.2)
    (fill_behind g.D.Device c.args.self.now c.new_table.new.self c.new_host.new.self c.args.cluster c.in_ok-table.table c.in_ok-host.host (g.D.Device.capacity c.args.dev.now) c.args.bytes.now put
    c.new_host.new.self r c.args.dev.now c.new_table.new.dev c.new_host.new.dev c.write_payload.new.dev c.in_ok-table.ensures.steps c.in_ok-host.ensures.steps
    (data_stopped g.D.Device c.new_host.new.self c.args.cluster c.in_ok-host.host c.in_ok-table.table c.args.bytes.now stop
    c.new_host.new.dev c.write_payload.new.dev c.in_err-write_payload.ensures.writes)))

pub returns-clause-steps : goal.returns-clause-steps
returns-clause-steps g c =
    let put : IsPut c.args.self.now c.new_table.new.self c.new_host.new.self c.args.cluster c.in_ok-table.table c.in_ok-host.host (g.D.Device.capacity c.args.dev.now) = record {
      ready = c.requires.open;
      below = c.requires.below;
      fits = c.requires.fits;
      table_is = c.in_ok-table.ensures.table;
      first_is = c.in_ok-table.ensures.ok;
      host_is = c.in_ok-host.ensures.host;
      second_is = c.in_ok-host.ensures.ok;
    } in
    fill_behind g.D.Device c.args.self.now c.new_table.new.self c.new_host.new.self c.args.cluster c.in_ok-table.table c.in_ok-host.host (g.D.Device.capacity c.args.dev.now) c.args.bytes.now put
    c.map_cluster.new.self c.map_cluster.result c.args.dev.now c.new_table.new.dev c.new_host.new.dev c.map_cluster.new.dev c.in_ok-table.ensures.steps c.in_ok-host.ensures.steps
    (data_made g.D.Device c.new_host.new.self c.map_cluster.new.self c.args.cluster c.in_ok-host.host c.in_ok-table.table c.args.bytes.now c.map_cluster.result
    c.new_host.new.dev c.write_payload.new.dev c.map_cluster.new.dev c.in_ok-write_payload.ensures.writes c.map_cluster.ensures.steps)
