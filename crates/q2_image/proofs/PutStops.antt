-- A put and a zero write, wherever they stop: until the entry is written no byte of the disk has changed.
use Rattle.std.proofs.Common.{◌≡◌, ◌≢◌, ℕ, ◌*◌, ◌/◌, ◌%◌, ◌<◌, ◌≤◌, ◌⊎◌, inl, inr, Bool, true, false, cond, List, [], ◌∷◌, ◌++◌, length, take, replicate, get_or, Some, refl, sym, ap, subst, ◌∙◌, arith}
use Rattle.std.proofs.lemmas.Bool.{cases_eq, cases_lt, eq-eqb, ne_eqb}
use Rattle.std.proofs.lemmas.List.{append-nil, get_or-replicate, get_or-set_same, get_or_past, length-replicate, length-take}
use Rattle.blk_base.specs.Content.{Write, with_bytes, after_writes}
use Rattle.blk_base.specs.Writes.{write_of, AtEachStop, IsPart, IsTorn}
use Rattle.blk_base.specs.declared.fault.DevStop.{DevStop}
use Rattle.blk_base.specs.declared.fault.DevStop.TheVariants.{Io}
use Rattle.blk_base.proofs.WriteLists.{at_each_stop-none, at_each_stop-one, at_each_stop-sector, at_each_stop-then, at_each_stop-weaker, part-split}
use Rattle.q2_format.specs.Entry.{host_of, l2_entry}
use Rattle.q2_format.specs.Header.{header_of}
use Rattle.q2_format.specs.Sound.{IsSound}
use Rattle.q2_format.specs.Tables.{refcount_of}
use Rattle.q2_format.specs.declared.entries.L2Entry.TheVariants.{Zero, Host}
use Rattle.q2_refs.specs.Allocating.{IsInStep, all_but_count, allocation_writes, block_writes_for, count_write, with_block_for}
use Rattle.q2_refs.specs.Free.{free_cluster}
use Rattle.q2_refs.specs.Kept as refs
use Rattle.q2_refs.proofs.AllocationStops.{CanBeGiven, Holds, allocation_done, allocation_left, allocation_unused, block_for_cut, count_part}
use Rattle.q2_refs.proofs.FreeClusters.{first_free_cluster}
use Rattle.q2_tables.specs.Kept as tables
use Rattle.q2_tables.specs.Linking.{link_writes}
use Rattle.q2_image.specs.BackingName.{KeepsHeader}
use Rattle.q2_image.specs.Image.{Known, IsImageOf, IsOpen, cluster_size_in, entry_in}
use Rattle.q2_image.specs.Made.{WriteStep, IsOldOrWith, writes_of_steps, clear_writes, clear_steps, take_steps, table_steps, host_steps, data_steps, entry_steps, fill_steps, clean_steps, put_steps, zero_steps, word_for}
use Rattle.q2_image.specs.Writing.{AreClusterZeros, IsSameDisk, IsSpare, HoldsNoGuestByte, MayName, CanTake, PutFits, ZeroFits, after_take, autocleared, idle_host, needs_host, needs_table, next_host, table_for, taken_at, with_host, with_table, with_taken}
use Rattle.q2_image.proofs.Autocleared.{cleared_image, cleared_disk}
use Rattle.q2_image.proofs.Changes.{fill_are}
use Rattle.q2_image.proofs.HostUses.{held_by, size_in, zero_entry}
use Rattle.q2_tables.proofs.LinkStops.{reaching}
use Rattle.q2_image.proofs.HeaderKept.{KeepsFirst, first_cleared, first_counted, first_itself, first_then, first_without, header_kept}
use Rattle.q2_image.proofs.LinkStops.{IsBetween, Leaves, link_stops}
use Rattle.q2_image.proofs.OwnStops.{behind_clear, same_disk_as}
use Rattle.q2_image.proofs.OwnTold.{open_cleared}
use Rattle.q2_image.proofs.OwnWrites.{disk_then}
use Rattle.q2_image.proofs.Payload.{payload_disk, payload_image, payload_tables, told_written}
use Rattle.q2_image.proofs.DataWrites.{spare_kept}
use Rattle.q2_image.proofs.Plans.{IsPut, below_second, can_first, host_facts, idle_host_there, kept_host, reached_second, table_facts, taken_whole, zero_below, zero_open, zero_table, zero_tables}
use Rattle.q2_image.proofs.StepsMade.{writes_of_steps-append}
use Rattle.q2_image.proofs.Taken.{by_size, disk_taken, fresh_count, image_taken, open_with_refs, ready_block_for, ready_same, ready_taken, spare_stays, step_of, StaysReady}

-- a sound file whose disk is as before, and the header's cluster
abbrev pub IsAsBefore : List ℕ → List ℕ → Type 0
IsAsBefore file now = IsSound now × IsSameDisk file now × KeepsFirst file now

as_before : (file now : List ℕ) (image : Known) → IsBetween file now image → IsAsBefore file now
as_before file now image between = (between.is.sound, between.disk, between.first)

-- Taking a cluster.

-- what is so behind it, where one is taken
pub record IsBehindTake (file mid now : List ℕ) (image : Known) (taken : Bool) : Type 0 where
  pub between : IsBetween file now (cond taken (with_taken image) image)
  pub spare : taken ≡ true → IsSpare now (free_cluster image.refs 0)
  pub stays : (k : ℕ) → IsSpare mid k → IsSpare now k
  pub fresh : taken ≡ true → refcount_of mid (header_of mid) (free_cluster image.refs 0) ≡ 0

module _ (file mid : List ℕ) (image : Known) (capacity : ℕ) (between : IsBetween file mid image) (can : CanTake image 0 capacity) where
  abbrev n : ℕ
  n = free_cluster image.refs 0

  can_be : CanBeGiven image.refs n
  can_be =
      let below = can.below in
      let first = first_free_cluster image.refs n refl (λ e. omega (arith, e, below)) in
      record { below = below; few = between.ready.reach; given = first.2; reach = between.ready.refcounts.covered }

  step : IsInStep mid image.refs
  step = step_of mid image between.is

  by_holds : (now : List ℕ) (r : refs.KeptRefs) → Holds mid now r → StaysReady image.refs r → IsBetween file now (record image { refs = r })
  by_holds now r holds stays =
      let ready = open_with_refs image r between.ready stays in
      record {
        is = image_taken mid now image r between.is holds.keeps holds.step;
        ready = ready;
        disk = disk_then file mid now 0 [] between.disk (disk_taken mid now image r between.is holds.keeps holds.step between.ready ready);
        first = first_then file mid now between.first (first_counted mid now between.is.sound holds.keeps);
      }

  stopped : (made : List Write) → IsPart IsTorn (allocation_writes image.refs n) made → IsAsBefore file (after_writes mid made)
  stopped made part =
      let stop : DevStop = Io 0 in
      let block : refs.KeptRefs = with_block_for image.refs n in
      elim (part-split IsTorn (block_writes_for image.refs n) (count_write (with_block_for image.refs n) n ∷ []) made part) [
        | inl sooner ↦
            as_before file (after_writes mid made) image
            (by_holds (after_writes mid made) image.refs (block_for_cut mid image.refs n step can_be stop made sooner) (ready_same image.refs))
        | inr later ↦
            let none = count_part (with_block_for image.refs n) n stop later.0 later.2 in
            let is : made ≡ all_but_count image.refs n = later.1 ∙ ap (λ (ws : List Write). block_writes_for image.refs n ++ ws) none in
            let S : List Write → Type 0 = λ ws. IsAsBefore file (after_writes mid ws) in
            subst S (sym is)
            (as_before file (after_writes mid (all_but_count image.refs n)) (record image { refs = block })
            (by_holds (after_writes mid (all_but_count image.refs n)) block (allocation_left mid image.refs n step can_be) (ready_block_for image.refs n)))
      ]

  abbrev after : List ℕ
  after = after_writes mid (allocation_writes image.refs n)

  holds : Holds mid after (after_take image.refs)
  holds = allocation_done mid image.refs n step can_be

  taken_between : IsBetween file after (with_taken image)
  taken_between = by_holds after (after_take image.refs) holds (ready_taken image.refs n)

  taken_stops : AtEachStop (IsAsBefore file) (allocation_writes image.refs n) mid
  taken_stops = record { stopped = stopped; done = as_before file after (with_taken image) taken_between }

  taken_behind : IsBehindTake file mid after image true
  taken_behind =
      let below = can.below in
      let len = (ready_block_for image.refs n).reach in
      let all = (ready_taken image.refs n).reach in
      let counts : List ℕ = (with_block_for image.refs n).counts in
      let one = get_or-set_same counts n 1 0 (omega (arith, len, below)) in
      let kept = holds.step.counts.counts n (omega (arith, all, below)) in
      let given = first_free_cluster image.refs n refl (λ e. omega (arith, e, below)) in
      record {
        between = taken_between;
        spare = λ e. record {
          unnamed = allocation_unused mid image.refs n step can_be after refl;
          counted = λ none. let is = sym one ∙ kept ∙ none in absurd (omega (arith, is));
        };
        stays = λ k spare. spare_stays mid after image (after_take image.refs) between.is holds.keeps holds.step k spare;
        fresh = λ e. fresh_count mid image n given.0 between.is given.1 below;
      }

-- where it is taken or not
pub record GoesBehind (file mid : List ℕ) (image : Known) (steps : List WriteStep) (taken : Bool) : Type 0 where
  pub stops : AtEachStop (IsAsBefore file) (writes_of_steps steps) mid
  pub behind : IsBehindTake file mid (after_writes mid (writes_of_steps steps)) image taken

take_if : (taken : Bool) (file mid : List ℕ) (image : Known) (capacity : ℕ) → IsBetween file mid image → (taken ≡ true → CanTake image 0 capacity)
    → GoesBehind file mid image (cond taken (take_steps image) []) taken
take_if true file mid image capacity between can = record {
  stops = taken_stops file mid image capacity between (can refl);
  behind = taken_behind file mid image capacity between (can refl);
}
take_if false file mid image capacity between can = record {
  stops = at_each_stop-none (IsAsBefore file) mid (as_before file mid image between);
  behind = record { between = between; spare = λ e. absurd (cc e); stays = λ k spare. spare; fresh = λ e. absurd (cc e) };
}

-- A change of one guest cluster behind what changed nothing.
weaker : (file : List ℕ) (at : ℕ) (bytes : List ℕ) (ws : List Write) (mid : List ℕ) → AtEachStop (IsAsBefore file) ws mid → AtEachStop (Leaves at bytes file) ws mid
weaker file at bytes ws mid stops =
    at_each_stop-weaker (IsAsBefore file) (Leaves at bytes file) ws mid (λ now same. ((same.0, inl same.1), same.2)) stops

steps_then : (P : List ℕ → Type 0) (ss ts : List WriteStep) (b : List ℕ) → AtEachStop P (writes_of_steps ss) b → AtEachStop P (writes_of_steps ts) (after_writes b (writes_of_steps ss))
    → AtEachStop P (writes_of_steps (ss ++ ts)) b
steps_then P ss ts b first later =
    let S : List Write → Type 0 = λ ws. AtEachStop P ws b in
    subst S (sym (writes_of_steps-append ss ts)) (at_each_stop-then P (writes_of_steps ss) (writes_of_steps ts) b first later)

one_step : (P : List ℕ → Type 0) (ws : List Write) (b : List ℕ) → AtEachStop P ws b → AtEachStop P (ws ++ []) b
one_step P ws b stops = let S : List Write → Type 0 = λ xs. AtEachStop P xs b in subst S (sym (append-nil ws)) stops

bool_cases : (b : Bool) → (b ≡ true) ⊎ (b ≡ false)
bool_cases true = inl refl
bool_cases false = inr refl

by_test : (b : Bool) (x : ℕ) → cond b x 0 ≢ 0 → (b ≡ true) × (cond b x 0 ≡ x)
by_test true x some = (refl, refl)
by_test false x some = absurd (some refl)

-- A put.
module _ (file m0 : List ℕ) (image : Known) (cluster : ℕ) (bytes : List ℕ) (capacity : ℕ) (between : IsBetween file m0 image) (below : cluster < length image.tables.words)
    (whole : length bytes ≡ 65536) (fits : PutFits image cluster capacity) where
  abbrev one : Known
  one = with_table image cluster

  abbrev two : Known
  two = with_host one cluster

  abbrev table : ℕ
  table = table_for image cluster

  abbrev host : ℕ
  host = next_host one cluster

  put : IsPut image one two cluster table host capacity
  put = record { ready = between.ready; below = below; fits = fits; table_is = refl; first_is = refl; host_is = refl; second_is = refl }

  first : GoesBehind file m0 image (table_steps image cluster) (needs_table image cluster)
  first = take_if (needs_table image cluster) file m0 image capacity between fits.entry.table

  abbrev m1 : List ℕ
  m1 = after_writes m0 (writes_of_steps (table_steps image cluster))

  second : GoesBehind file m1 one (host_steps one cluster) (needs_host one cluster)
  second = take_if (needs_host one cluster) file m1 one capacity first.behind.between (can_first image one two cluster table host capacity put)

  abbrev m2 : List ℕ
  m2 = after_writes m1 (writes_of_steps (host_steps one cluster))

  there : IsBetween file m2 two
  there = second.behind.between

  size : cluster_size_in image ≡ 65536
  size = size_in image between.ready

  -- the cluster that was taken for the data, and the one for the table
  host_number : needs_host one cluster ≡ true → host / 65536 ≡ free_cluster one.refs 0
  host_number test =
      let own : host ≡ taken_at one 0 = ap (λ (b : Bool). cond b (taken_at one 0) (idle_host (entry_in one cluster))) test in
      ap (λ (n : ℕ). n / 65536) own ∙ by_size (free_cluster one.refs 0) (cluster_size_in one) (size_in one first.behind.between.ready)

  host_spare : needs_host one cluster ≡ true → IsSpare m2 (host / 65536)
  host_spare test = subst (IsSpare m2) (sym (host_number test)) (second.behind.spare test)

  table_spare : table ≢ 0 → IsSpare m1 (table / 65536)
  table_spare some =
      let taken = by_test (needs_table image cluster) (taken_at image 0) some in
      let number = ap (λ (n : ℕ). n / 65536) taken.1 ∙ by_size (free_cluster image.refs 0) (cluster_size_in image) size in
      subst (IsSpare m1) (sym number) (first.behind.spare taken.0)

  idle : HoldsNoGuestByte 65536 m2 two host
  idle = elim (bool_cases (needs_host one cluster)) [
    | inl taken ↦ inl (host_spare taken)
    | inr behind ↦
        let entry = idle_host_there image one two cluster table host capacity put behind in
        inr (cluster, below_second image one two cluster table host capacity put, entry.0, entry.1)
  ]

  aligned : host % 65536 ≡ 0
  aligned = elim (bool_cases (needs_host one cluster)) [
    | inl taken ↦ taken_whole image one two cluster table host capacity put taken
    | inr behind ↦
        let entry = idle_host_there image one two cluster table host capacity put behind in
        (held_by m2 two there.is there.ready cluster host (below_second image one two cluster table host capacity put)
        (zero_entry (get_or two.tables.words cluster 0) host entry.0) (λ none. let some = entry.1 in omega (arith, none, some))).whole
  ]

  small : host < 549755813888
  small = (host_facts image one two cluster table host capacity put).small

  -- any bytes may be there
  data_between : (xs : List ℕ) → length xs ≤ 65536 → IsBetween file (with_bytes m2 host xs) two
  data_between xs short = record {
    is = payload_image m2 two host xs there.is there.ready idle aligned short small;
    ready = there.ready;
    disk = disk_then file m2 (with_bytes m2 host xs) 0 [] there.disk (payload_disk m2 two host xs there.is there.ready idle aligned short small);
    first = first_then file m2 (with_bytes m2 host xs) there.first (payload_tables m2 two host xs there.is there.ready idle aligned short small).first;
  }

  data_stops : AtEachStop (IsAsBefore file) (write_of host bytes ∷ []) m2
  data_stops =
      at_each_stop-one (IsAsBefore file) (write_of host bytes) m2
      (λ n short border. as_before file (with_bytes m2 host (take n bytes)) two (data_between (take n bytes) (omega (arith, length-take n bytes, whole))))
      (as_before file (with_bytes m2 host bytes) two (data_between bytes (omega (arith, whole))))

  abbrev m3 : List ℕ
  m3 = with_bytes m2 host bytes

  spare_still : (k : ℕ) → IsSpare m2 k → IsSpare m3 k
  spare_still k spare = spare_kept m2 m3 (payload_tables m2 two host bytes there.is there.ready idle aligned (omega (arith, whole)) small) k spare

  table_spare_still : table ≢ 0 → IsSpare m3 (table / 65536)
  table_spare_still some = spare_still (table / 65536) (second.behind.stays (table / 65536) (table_spare some))

  may : MayName 65536 m3 two cluster table host
  may = elim (bool_cases (needs_host one cluster)) [
    | inl taken ↦ inr (inr (
      spare_still (host / 65536) (host_spare taken),
      aligned,
      reached_file,
      λ some same. (table_spare some).counted
          (ap (refcount_of m1 (header_of m1)) (sym same ∙ host_number taken) ∙ second.behind.fresh taken),
    ))
    | inr behind ↦
        let entry = idle_host_there image one two cluster table host capacity put behind in
        inr (inl (sym (zero_entry (get_or two.tables.words cluster 0) host entry.0)))
  ]
    where
      reached_file : host < length m3
      reached_file = let reach = reaching m2 host bytes (omega (arith, whole)) in omega (arith, reach, whole)

  entry_stops : AtEachStop (Leaves (cluster * 65536) bytes file) (writes_of_steps (entry_steps two cluster (Host host) table)) m3
  entry_stops =
      let facts = table_facts image one two cluster table host capacity put in
      one_step (Leaves (cluster * 65536) bytes file) (link_writes two.tables cluster (word_for two (Host host)) table) m3
      (link_stops file m3 two cluster table (Host host) bytes (data_between bytes (omega (arith, whole))) (below_second image one two cluster table host capacity put)
      facts.can (host_facts image one two cluster table host capacity put).writable (reached_second image one two cluster table host capacity put)
      table_spare_still facts.whole facts.near may whole
      (told_written (Some m2) (Some m3) host bytes refl whole m3 refl))

  pub fill_stops : AtEachStop (Leaves (cluster * 65536) bytes file) (writes_of_steps (fill_steps image cluster bytes)) m0
  fill_stops =
      let at : ℕ = cluster * 65536 in
      let P : List ℕ → Type 0 = Leaves (cluster * 65536) bytes file in
      let S : List WriteStep → Type 0 = λ steps. AtEachStop P (writes_of_steps steps) m0 in
      let last : List WriteStep = entry_steps two cluster (Host host) table in
      let rest : List WriteStep = data_steps two host bytes ++ last in
      subst S (fill_are image one two cluster table host capacity bytes put)
      (steps_then P (table_steps image cluster) (host_steps one cluster ++ rest) m0 (weaker file at bytes (writes_of_steps (table_steps image cluster)) m0 first.stops)
      (steps_then P (host_steps one cluster) rest m1 (weaker file at bytes (writes_of_steps (host_steps one cluster)) m1 second.stops)
      (steps_then P (data_steps two host bytes) last m2 (weaker file at bytes (write_of host bytes ∷ []) m2 data_stops) entry_stops)))

-- A zero write.
module _ (file m0 : List ℕ) (image : Known) (cluster : ℕ) (zeros : List ℕ) (capacity : ℕ) (between : IsBetween file m0 image) (below : cluster < length image.tables.words)
    (are : AreClusterZeros 65536 zeros) (fits : ZeroFits image cluster capacity) where
  abbrev one_z : Known
  one_z = with_table image cluster

  abbrev table_z : ℕ
  table_z = table_for image cluster

  abbrev host_z : ℕ
  host_z = host_of (entry_in image cluster)

  first_z : GoesBehind file m0 image (table_steps image cluster) (needs_table image cluster)
  first_z = take_if (needs_table image cluster) file m0 image capacity between fits.table

  abbrev m1_z : List ℕ
  m1_z = after_writes m0 (writes_of_steps (table_steps image cluster))

  spare_z : table_z ≢ 0 → IsSpare m1_z (table_z / 65536)
  spare_z some =
      let taken = by_test (needs_table image cluster) (taken_at image 0) some in
      let number = ap (λ (n : ℕ). n / 65536) taken.1 ∙ by_size (free_cluster image.refs 0) (cluster_size_in image) (size_in image between.ready) in
      subst (IsSpare m1_z) (sym number) (first_z.behind.spare taken.0)

  pub clean_stops : AtEachStop (Leaves (cluster * 65536) zeros file) (writes_of_steps (clean_steps image cluster)) m0
  clean_stops =
      let P : List ℕ → Type 0 = Leaves (cluster * 65536) zeros file in
      let facts = zero_table image one_z cluster table_z capacity between.ready below fits refl refl in
      let ready = zero_open image one_z cluster table_z capacity between.ready below fits refl refl in
      let inside = zero_below image one_z cluster table_z capacity between.ready below fits refl refl in
      let same_entry = ap (λ (t : tables.KeptTables). l2_entry (get_or t.words cluster 0)) (sym (zero_tables image one_z cluster table_z capacity between.ready below fits refl refl)) in
      let kept = kept_host one_z cluster host_z (entry_in image cluster) ready inside refl same_entry in
      steps_then P (table_steps image cluster) (entry_steps one_z cluster (Zero host_z) table_z) m0
      (weaker file (cluster * 65536) zeros (writes_of_steps (table_steps image cluster)) m0 first_z.stops)
      (one_step P (link_writes one_z.tables cluster (word_for one_z (Zero host_z)) table_z) m1_z
      (link_stops file m1_z one_z cluster table_z (Zero host_z) zeros first_z.behind.between inside facts.can kept.offset kept.reached
      spare_z facts.whole facts.near (inr (inl kept.own)) are.whole are.zeros))

-- Behind the autoclear field.

clear_stops : (file : List ℕ) (image : Known) → IsImageOf file image → AtEachStop (IsAsBefore file) (writes_of_steps (clear_steps image)) file
clear_stops file image is = one_step (IsAsBefore file) (clear_writes image) file (elim (cases_eq image.header.autoclear 0) [
  | inl none ↦
      let test = eq-eqb image.header.autoclear 0 none in
      rw test (at_each_stop-none (IsAsBefore file) file (is.sound, same_disk_as file, first_itself file))
  | inr some ↦
      let test = ne_eqb image.header.autoclear 0 some in
      rw test (at_each_stop-sector (IsAsBefore file) (write_of 88 (replicate 8 0)) file (omega arith) (is.sound, same_disk_as file, first_itself file)
      ((cleared_image file image is).sound, cleared_disk file is.sound, first_without file))
])

between_clear : (file : List ℕ) (image : Known) → IsImageOf file image → IsOpen image
    → IsBetween file (after_writes file (writes_of_steps (clear_steps image))) (autocleared image)
between_clear file image is ready =
    let behind = behind_clear file image is in
    let B : List Write → Type 0 = λ ws. IsBetween file (after_writes file ws) (autocleared image) in
    subst B (sym (append-nil (clear_writes image))) (record { is = behind.image_is; ready = open_cleared image ready; disk = behind.disk; first = first_cleared file image })

can_cleared : (image : Known) (k capacity : ℕ) → CanTake image k capacity → CanTake (autocleared image) k capacity
can_cleared image k capacity can = record { below = can.below; fits = can.fits }

zero_cleared : (image : Known) (cluster capacity : ℕ) → ZeroFits image cluster capacity → ZeroFits (autocleared image) cluster capacity
zero_cleared image cluster capacity fits = record {
  header = omega arith;
  table = λ e. can_cleared image 0 capacity (fits.table e);
  entry = fits.entry;
}

put_cleared : (image : Known) (cluster capacity : ℕ) → PutFits image cluster capacity → PutFits (autocleared image) cluster capacity
put_cleared image cluster capacity fits = record {
  entry = zero_cleared image cluster capacity fits.entry;
  host = λ e. can_cleared image (cond (needs_table image cluster) 1 0) capacity (fits.host e);
  payload = fits.payload;
}

put_leaves : (file : List ℕ) (image : Known) (cluster : ℕ) (bytes : List ℕ) (capacity : ℕ) → IsImageOf file image → IsOpen image → cluster < length image.tables.words
    → length bytes ≡ cluster_size_in image → PutFits image cluster capacity
    → AtEachStop (Leaves (cluster * cluster_size_in image) bytes file) (writes_of_steps (put_steps image cluster bytes)) file
put_leaves file image cluster bytes capacity is ready below whole fits =
    let size = size_in image ready in
    let Q : ℕ → Type 0 = λ c. AtEachStop (Leaves (cluster * c) bytes file) (writes_of_steps (put_steps image cluster bytes)) file in
    let P : List ℕ → Type 0 = Leaves (cluster * 65536) bytes file in
    subst Q (sym size)
    (steps_then P (clear_steps image) (fill_steps (autocleared image) cluster bytes) file
    (weaker file (cluster * 65536) bytes (writes_of_steps (clear_steps image)) file (clear_stops file image is))
    (fill_stops file (after_writes file (writes_of_steps (clear_steps image))) (autocleared image) cluster bytes capacity (between_clear file image is ready) below
    (whole ∙ size) (put_cleared image cluster capacity fits)))

zero_leaves : (file : List ℕ) (image : Known) (cluster : ℕ) (zeros : List ℕ) (capacity : ℕ) → IsImageOf file image → IsOpen image → cluster < length image.tables.words
    → AreClusterZeros (cluster_size_in image) zeros → ZeroFits image cluster capacity
    → AtEachStop (Leaves (cluster * cluster_size_in image) zeros file) (writes_of_steps (zero_steps image cluster)) file
zero_leaves file image cluster zeros capacity is ready below are fits =
    let size = size_in image ready in
    let Q : ℕ → Type 0 = λ c. AreClusterZeros c zeros → AtEachStop (Leaves (cluster * c) zeros file) (writes_of_steps (zero_steps image cluster)) file in
    let P : List ℕ → Type 0 = Leaves (cluster * 65536) zeros file in
    subst Q (sym size)
    (λ are. steps_then P (clear_steps image) (clean_steps (autocleared image) cluster) file
    (weaker file (cluster * 65536) zeros (writes_of_steps (clear_steps image)) file (clear_stops file image is))
    (clean_stops file (after_writes file (writes_of_steps (clear_steps image))) (autocleared image) cluster zeros capacity (between_clear file image is ready) below
    are (zero_cleared image cluster capacity fits))) are

-- What that says of the disk, and of the header.

pub cluster_zeros : (c : ℕ) → AreClusterZeros c (replicate c 0)
cluster_zeros c = record {
  whole = length-replicate {A = ℕ} c 0;
  zeros = λ i. elim (cases_lt i c) [
    | inl below ↦ get_or-replicate c i 0 0 below
    | inr past ↦ get_or_past (replicate c 0) i 0 (omega (arith, length-replicate {A = ℕ} c 0, past))
  ];
}

module _ (file : List ℕ) (image : Known) (cluster : ℕ) (bytes : List ℕ) (capacity : ℕ) (is : IsImageOf file image) (ready : IsOpen image)
    (below : cluster < length image.tables.words) where
  abbrev at : ℕ
  at = cluster * cluster_size_in image

  disk_in : (ws : List Write) → AtEachStop (Leaves at bytes file) ws file → AtEachStop (IsOldOrWith at bytes file) ws file
  disk_in ws stops = at_each_stop-weaker (Leaves at bytes file) (IsOldOrWith at bytes file) ws file (λ now left. left.0) stops

  header_in : (ws : List Write) → AtEachStop (Leaves at bytes file) ws file → AtEachStop (KeepsHeader file) ws file
  header_in ws stops = at_each_stop-weaker (Leaves at bytes file) (KeepsHeader file) ws file (λ now left. header_kept file now is.sound left.1) stops

  module _ (whole : length bytes ≡ cluster_size_in image) (fits : PutFits image cluster capacity) where
    pub put_stops : AtEachStop (IsOldOrWith (cluster * cluster_size_in image) bytes file) (writes_of_steps (put_steps image cluster bytes)) file
    put_stops = disk_in (writes_of_steps (put_steps image cluster bytes)) (put_leaves file image cluster bytes capacity is ready below whole fits)

    pub put_header : AtEachStop (KeepsHeader file) (writes_of_steps (put_steps image cluster bytes)) file
    put_header = header_in (writes_of_steps (put_steps image cluster bytes)) (put_leaves file image cluster bytes capacity is ready below whole fits)

  module _ (are : AreClusterZeros (cluster_size_in image) bytes) (fits : ZeroFits image cluster capacity) where
    pub zero_stops : AtEachStop (IsOldOrWith (cluster * cluster_size_in image) bytes file) (writes_of_steps (zero_steps image cluster)) file
    zero_stops = disk_in (writes_of_steps (zero_steps image cluster)) (zero_leaves file image cluster bytes capacity is ready below are fits)

    pub zero_header : AtEachStop (KeepsHeader file) (writes_of_steps (zero_steps image cluster)) file
    zero_header = header_in (writes_of_steps (zero_steps image cluster)) (zero_leaves file image cluster bytes capacity is ready below are fits)
