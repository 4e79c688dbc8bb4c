-- An image after a cluster was taken.
use Rattle.std.proofs.Common.{◌≡◌, ◌≢◌, ℕ, ◌+◌, ◌*◌, ◌/◌, ◌<◌, ◌≤◌, ◌⊎◌, inl, inr, List, ◌∷◌, length, get_or, slice_index, slice_index_or, slice_set, Option, Some, None, is_some, Result, Ok, Err, refl, sym, ap, subst, ◌∙◌, arith, eq-eqb}
use Rattle.std.proofs.Math.ListN.{length-set}
use Rattle.std.proofs.lemmas.Bool.{cases_eq, ne_eqb}
use Rattle.std.proofs.lemmas.List.{get_or-set_same, get_or-set_other, get_or_past}
use Rattle.std.proofs.lemmas.Bool.{cases_lt}
use Rattle.q2_format.specs.Entry.{block_offset}
use Rattle.q2_format.specs.Header.{header_of}
use Rattle.q2_format.specs.References.{uses}
use Rattle.q2_format.specs.Sizes.{cluster_size}
use Rattle.q2_format.specs.Tables.{Tree, active_tree, refcount_of}
use Rattle.q2_format.specs.declared.header.Header.{Header}
use Rattle.blk_base.specs.Device.{Writes}
use Rattle.blk_base.proofs.DeviceLemmas.{beyond-within, wrote-told}
use Rattle.blk_base.specs.declared.device.Device.{Ghosts}
use Rattle.blk_base.specs.declared.fault.DevStop.{DevStop}
use Rattle.blk_base.specs.declared.fault.DevStop.TheVariants.{Io, NoSpace}
use Rattle.q2_refs.specs.Allocating.{Allocates, IsInStep, KeepsCounted, allocation_writes, end_of_allocation, with_one, with_block, with_block_for, place_of_block, refcount_uses}
use Rattle.q2_refs.specs.Free.{free_cluster, free_clusters}
use Rattle.q2_refs.specs.Kept.{IsCountsOf, per_block}
use Rattle.q2_refs.specs.Kept as refs
use Rattle.q2_refs.specs.declared.allocating.RefStop.{RefStop}
use Rattle.q2_refs.specs.declared.allocating.RefStop.TheVariants.{Dev, HostLimit}
use Rattle.q2_refs.proofs.FreeClusters.{first_free_cluster, given_count}
use Rattle.q2_tables.specs.Kept.{IsTreeOf}
use Rattle.q2_image.specs.Image.{Known, IsImageOf, IsOpen, cluster_size_in, entry_in}
use Rattle.q2_image.specs.Writing.{TellsFault, IsSameDisk, IsSpare}
use Rattle.q2_image.proofs.HostUses.{host_entry, held_by}
use Rattle.q2_image.proofs.DiskKept.{HostStays, same_disk}

-- What is known stays so.

first_set : (xs : List ℕ) (n : ℕ) → get_or xs 0 0 ≢ 0 → get_or (slice_set xs n 1) 0 0 ≢ 0
first_set xs n some = elim (cases_eq n 0) [
  | inl here ↦
      let long : 0 < length xs = elim (cases_lt 0 (length xs)) [ inl h ↦ h | inr past ↦ absurd (some (get_or_past xs 0 0 past)) ] in
      λ none. let one = ap (λ (m : ℕ). get_or (slice_set xs m 1) 0 0) here ∙ get_or-set_same xs 0 1 0 long in absurd (omega (arith, one, none))
  | inr other ↦ λ none. some (sym (get_or-set_other xs n 0 1 0 (λ e. other (sym e))) ∙ none)
]

-- refcounts of the same shape, of which the first is above 0
pub record StaysReady (old new : refs.KeptRefs) : Type 0 where
  pub cluster_bits : new.cluster_bits ≡ old.cluster_bits
  pub refcount_order : new.refcount_order ≡ old.refcount_order
  pub table : length new.table ≡ length old.table
  pub reach : length new.counts ≡ length old.counts
  pub first : get_or old.counts 0 0 ≢ 0 → get_or new.counts 0 0 ≢ 0

ready_block : (r : refs.KeptRefs) (i : ℕ) → StaysReady r (with_block r i)
ready_block r i = record {
  cluster_bits = refl;
  refcount_order = refl;
  table = length-set {A = ℕ} r.table i (place_of_block r i * cluster_size r.cluster_bits);
  reach = length-set {A = ℕ} r.counts (place_of_block r i) 1;
  first = first_set r.counts (place_of_block r i);
}

pub ready_same : (r : refs.KeptRefs) → StaysReady r r
ready_same r = record { cluster_bits = refl; refcount_order = refl; table = refl; reach = refl; first = λ some. some }

pub ready_block_for : (r : refs.KeptRefs) (n : ℕ) → StaysReady r (with_block_for r n)
ready_block_for r n =
    let i : ℕ = n / per_block r in
    let P : refs.KeptRefs → Type 0 = StaysReady r in
    elim (cases_eq (block_offset (slice_index r.table i)) 0) [
      | inl absent ↦
          let test = eq-eqb (block_offset (slice_index r.table i)) 0 absent in
          let put : with_block_for r n ≡ with_block r i = rw test refl in
          subst P (sym put) (ready_block r i)
      | inr there ↦
          let test = ne_eqb (block_offset (slice_index r.table i)) 0 there in
          let same : with_block_for r n ≡ r = rw test refl in
          subst P (sym same) (ready_same r)
    ]

pub ready_taken : (r : refs.KeptRefs) (n : ℕ) → StaysReady r (with_one (with_block_for r n) n)
ready_taken r n =
    let block = ready_block_for r n in
    record {
      cluster_bits = block.cluster_bits;
      refcount_order = block.refcount_order;
      table = block.table;
      reach = length-set {A = ℕ} (with_block_for r n).counts n 1 ∙ block.reach;
      first = λ some. first_set (with_block_for r n).counts n (block.first some);
    }

pub open_with_refs : (image : Known) (r : refs.KeptRefs) → IsOpen image → StaysReady image.refs r → IsOpen (record image { refs = r })
open_with_refs image r ready stays =
    let same = stays.reach in
    let bits = stays.cluster_bits in
    let order = stays.refcount_order in
    let table = stays.table in
    record {
      cluster_bits = ready.cluster_bits;
      tables_size = ready.tables_size;
      disk = ready.disk;
      l1 = ready.l1;
      words = ready.words;
      plain = ready.plain;
      l1_place = ready.l1_place;
      l1_size = ready.l1_size;
      hosts = λ q below. rw same (ready.hosts q below);
      reach = rw same ready.reach;
      refcounts = record {
        cluster_bits = bits ∙ ready.refcounts.cluster_bits;
        refcount_order = order ∙ ready.refcounts.refcount_order;
        covered = rw (same, table, bits, order) ready.refcounts.covered;
      };
      first = stays.first ready.first;
      name = ready.name;
      format = ready.format;
      list = ready.list;
      ended = ready.ended;
      room = ready.room;
    }

-- whatever the allocation answers
pub ready_result : {D : Type 0} (g : Ghosts D) (r next : refs.KeptRefs) (result : Result ℕ RefStop) (a b : D) → Allocates g r result next a b → StaysReady r next
ready_result g r next (Ok n) a b is = let P : refs.KeptRefs → Type 0 = StaysReady r in subst P (sym is.0) (ready_taken r n)
ready_result g r next (Err (Dev stop)) a b is =
    let P : refs.KeptRefs → Type 0 = StaysReady r in
    elim is.known [ inl same ↦ subst P (sym same.0) (ready_same r) | inr placed ↦ subst P (sym placed.0) (ready_block_for r (free_cluster r 0)) ]
ready_result g r next (Err HostLimit) a b is = let P : refs.KeptRefs → Type 0 = StaysReady r in subst P (sym is.0) (ready_same r)

-- a device tells its bytes behind an allocation where it told them before
pub allocated_told : {D : Type 0} (g : Ghosts D) (r next : refs.KeptRefs) (result : Result ℕ RefStop) (a b : D) → Allocates g r result next a b
    → is_some (g.content b) ≡ is_some (g.content a)
allocated_told g r next (Ok n) a b is = wrote-told g is.1.made a b is.1.wrote
allocated_told g r next (Err (Dev stop)) a b is = wrote-told g is.writes.made a b is.writes.wrote
allocated_told g r next (Err HostLimit) a b is = ap (λ (o : Option (List ℕ)). is_some o) is.1.reads.content

-- The file.

pub told_too : (old new : Option (List ℕ)) (file : List ℕ) → is_some new ≡ is_some old → new ≡ Some file → (before : List ℕ) × (old ≡ Some before)
told_too None new file same told = absurd (cc)
told_too (Some before) new file same told = (before, refl)

pub step_of : (file : List ℕ) (image : Known) → IsImageOf file image → IsInStep file image.refs
step_of file image is =
    let P : Header → Type 0 = λ h. IsCountsOf file h image.refs in
    record { sound = is.sound; counts = subst P (sym is.header) is.refs }

module _ (old new : List ℕ) (image : Known) (r : refs.KeptRefs) (is : IsImageOf old image) (keeps : KeepsCounted old new (header_of old)) (step : IsInStep new r) where
  pub image_taken : IsImageOf new (record image { refs = r })
  image_taken =
      let P : Header → Type 0 = λ h. IsCountsOf new h r in
      let T : Tree → Type 0 = λ tree. IsTreeOf (cluster_size_in image) image.tables tree in
      let same_tree : active_tree new image.header ≡ active_tree old image.header = ap (active_tree new) (sym is.header) ∙ keeps.tree ∙ ap (active_tree old) is.header in
      record {
        sound = step.sound;
        header = keeps.header ∙ is.header;
        tables = subst T (sym same_tree) is.tables;
        refs = subst P (keeps.header ∙ is.header) step.counts;
      }

  pub spare_stays : (n : ℕ) → IsSpare old n → IsSpare new n
  spare_stays n spare = record {
    unnamed = ap (λ (h : Header). uses new h n) keeps.header ∙ keeps.uses_stay n spare.counted ∙ spare.unnamed;
    counted = λ none. spare.counted (sym (keeps.refcounts_stay n spare.counted) ∙ ap (λ (h : Header). refcount_of new h n) (sym keeps.header) ∙ none);
  }

  -- what an entry names stays
  hosts_stay : IsOpen image → (q : ℕ) → q < length image.tables.words → HostStays old new (entry_in image q)
  hosts_stay ready q below = λ host i entry inside.
      let own = host_entry (get_or image.tables.words q 0) host entry in
      let held = held_by old image is ready q host below own.0 own.1 in
      let h : Header = header_of old in
      let size : cluster_size h.cluster_bits ≡ 65536 = let b = ap (λ (x : Header). x.cluster_bits) is.header ∙ ready.cluster_bits in rw b refl in
      let whole = held.whole in
      let place : (host + i) / 65536 ≡ host / 65536 = omega (arith, whole, inside) in
      let k : (host + i) / cluster_size h.cluster_bits ≡ host / 65536 = ap (λ (n : ℕ). (host + i) / n) size ∙ place in
      let counted : refcount_of old h (host / 65536) ≢ 0 = λ none. held.holds.counted (ap (λ (x : Header). refcount_of old x (host / 65536)) (sym is.header) ∙ none) in
      let no_refs : refcount_uses old h (host / 65536) ≡ 0 = omega (arith, held.holds.free.table, held.holds.free.blocks) in
      keeps.bytes (host + i) (λ none. counted (ap (refcount_of old h) (sym k) ∙ none)) (ap (refcount_uses old h) k ∙ no_refs)

  pub disk_taken : IsOpen image → IsOpen (record image { refs = r }) → IsSameDisk old new
  disk_taken ready after =
      same_disk old new image (record image { refs = r }) (record { old_image = is; new_image = image_taken; old_open = ready; new_open = after; size = refl })
      (λ q below. refl) (hosts_stay ready)

-- the cluster that is given had refcount 0
pub fresh_count : (file : List ℕ) (image : Known) (n : ℕ) (rest : List ℕ) → IsImageOf file image → free_clusters image.refs ≡ n ∷ rest → n < length image.refs.counts
    → refcount_of file (header_of file) n ≡ 0
fresh_count file image n rest is given below =
    let first : n ≡ free_cluster image.refs 0 = sym (ap (λ (xs : List ℕ). slice_index_or xs 0 (length image.refs.counts)) given) in
    let free = first_free_cluster image.refs n first (λ e. omega (arith, e, below)) in
    ap (λ (h : Header). refcount_of file h n) is.header ∙ sym (is.refs.counts n below) ∙ given_count image.refs n free.2

pub by_size : (n size : ℕ) → size ≡ 65536 → n * size / 65536 ≡ n
by_size n size is = rw is (omega arith)

-- a stop of the device, where all that is written has room
pub taken_fault : {D : Type 0} (g : Ghosts D) (kept : refs.KeptRefs) (stop : DevStop) (a b : D) → end_of_allocation kept (free_cluster kept 0) ≤ g.capacity a
    → Writes g (allocation_writes kept (free_cluster kept 0)) (Some stop) a b → TellsFault stop
taken_fault g kept (Io count) a b fits writes = tt
taken_fault g kept NoSpace a b fits writes =
    let beyond = beyond-within g (allocation_writes kept (free_cluster kept 0)) writes.made (g.capacity a) writes.cause.0 in
    absurd (omega (arith, fits, beyond))
