-- What a put needs of each of its steps, where there is room for it.
use Rattle.std.proofs.Common.{◌≡◌, ◌≢◌, ℕ, ◌+◌, ◌*◌, ◌/◌, ◌%◌, ◌^◌, ◌<◌, ◌≤◌, Bool, true, false, cond, List, length, get_or, slice_index_or, Result, Ok, Err, OnOk, refl, sym, ap, subst, ◌∙◌, arith}
use Rattle.std.proofs.lemmas.Bool.{eqb-true, eqb-false, ne_eqb}
use Rattle.std.proofs.lemmas.List.{get_or-set_same}
use Rattle.blk_base.specs.declared.fault.DevStop.{DevStop}
use Rattle.q2_format.specs.Entry.{l2_entry, l2_spelling, is_single, host_of, IsWritable, host_offset, is_compressed}
use Rattle.q2_format.specs.References.{own_offset}
use Rattle.q2_format.specs.declared.entries.L2Entry.{L2Entry}
use Rattle.q2_format.specs.declared.entries.L2Entry.TheVariants.{Unallocated, Zero, Host, Compressed, Reserved}
use Rattle.q2_format.specs.declared.header.Header.{Header}
use Rattle.q2_format.proofs.Words.{single_of_spelling}
use Rattle.q2_refs.specs.Allocating.{end_of_allocation, with_block_for}
use Rattle.q2_refs.specs.Free.{free_cluster}
use Rattle.q2_refs.specs.Kept.{per_block}
use Rattle.q2_refs.specs.Kept as refs
use Rattle.q2_refs.proofs.Ends.{HasEntry, second_end}
use Rattle.q2_refs.proofs.FreeClusters.{first_free_cluster, given_count, free_taken}
use Rattle.q2_tables.specs.Kept as tables
use Rattle.q2_tables.specs.Linking.{CanLink, link_end, table_of}
use Rattle.q2_image.specs.Image.{Known, IsOpen, HasRoom, cluster_size_in, entry_in}
use Rattle.q2_image.specs.Writing.{IsSpelled, counts_once, CanTake, PutFits, ZeroFits, needs_table, needs_host, idle_host, taken_at, table_for, host_for, next_host, after_take, with_taken, with_table, with_host}
use Rattle.q2_image.proofs.HostUses.{size_in, zero_entry}
use Rattle.q2_image.proofs.LinkTold.{own_of_plain}
use Rattle.q2_image.proofs.Taken.{open_with_refs, ready_block_for, ready_taken}

-- The clusters that are taken.

has_entry : (r : refs.KeptRefs) (n : ℕ) → HasRoom r → length r.counts ≤ 8388608 → n < length r.counts → HasEntry r n
has_entry r n room few below =
    let bits = room.cluster_bits in
    let order = room.refcount_order in
    record {
      cluster_bits = room.cluster_bits;
      entry = rw (bits, order) (let all = rw (bits, order) at room.covered in omega arith);
      small = rw (bits, order) (omega arith);
    }

some_in_block : (r : refs.KeptRefs) → HasRoom r → 0 < per_block r
some_in_block r room = let bits = room.cluster_bits in let order = room.refcount_order in rw (bits, order) (omega arith)

pub next_free : (r : refs.KeptRefs) → HasRoom r → free_cluster r 0 < length r.counts → free_cluster (after_take r) 0 ≡ free_cluster r 1
next_free r room below =
    let n : ℕ = free_cluster r 0 in
    let first = first_free_cluster r n refl (λ e. omega (arith, e, below)) in
    let rest = free_taken r n first.0 (some_in_block r room) room.covered below first.1 in
    let len = (ready_taken r n).reach in
    ap (λ (xs : List ℕ). slice_index_or xs 0 (length (after_take r).counts)) rest
    ∙ ap (λ (d : ℕ). slice_index_or first.0 0 d) len
    ∙ sym (ap (λ (xs : List ℕ). slice_index_or xs 1 (length r.counts)) first.1)

pub can_second : (image : Known) (capacity : ℕ) → IsOpen image → CanTake image 0 capacity → CanTake image 1 capacity → CanTake (with_taken image) 0 capacity
can_second image capacity ready one two =
    let r : refs.KeptRefs = image.refs in
    let next = next_free r ready.refcounts one.below in
    let len = (ready_taken r (free_cluster r 0)).reach in
    let ends = second_end r (free_cluster r 0) (free_cluster r 1) (has_entry r (free_cluster r 0) ready.refcounts ready.reach one.below) (has_entry r (free_cluster r 1) ready.refcounts ready.reach two.below) in
    let place = ap (end_of_allocation (after_take r)) next in
    record {
      below = omega (arith, next, len, two.below);
      fits = omega (arith, place, ends, one.fits, two.fits);
    }

-- the header's cluster counts, so it isn't taken
pub not_first : (image : Known) → IsOpen image → free_cluster image.refs 0 < length image.refs.counts → free_cluster image.refs 0 ≢ 0
not_first image ready below =
    let n : ℕ = free_cluster image.refs 0 in
    let first = first_free_cluster image.refs n refl (λ e. omega (arith, e, below)) in
    λ zero_there. ready.first (ap (λ (m : ℕ). get_or image.refs.counts m 0) (sym zero_there) ∙ given_count image.refs n first.2)

-- The refcount of a cluster that was taken is one.

count_taken : (image : Known) → cluster_size_in image ≡ 65536 → free_cluster image.refs 0 < length image.refs.counts
    → get_or (after_take image.refs).counts (taken_at image 0 / cluster_size_in image) 0 ≡ 1
count_taken image size below =
    let n : ℕ = free_cluster image.refs 0 in
    let counts : List ℕ = (with_block_for image.refs n).counts in
    let len = (ready_block_for image.refs n).reach in
    ap (λ (k : ℕ). get_or (after_take image.refs).counts k 0) (number n (cluster_size_in image) size)
    ∙ get_or-set_same counts n 1 0 (omega (arith, len, below))
  where
    number : (n size : ℕ) → size ≡ 65536 → n * size / size ≡ n
    number n size is = rw is (omega arith)

once_by_count : (image : Known) (host : ℕ) → host ≢ 0 → get_or image.refs.counts (host / cluster_size_in image) 0 ≡ 1 → counts_once image host ≡ true
once_by_count image host some one = let test = ne_eqb host 0 some in rw (test, one) refl

-- Images in between.

pub open_taken : (image : Known) → IsOpen image → IsOpen (with_taken image)
open_taken image ready = open_with_refs image (after_take image.refs) ready (ready_taken image.refs (free_cluster image.refs 0))

pub open_if : (b : Bool) (image : Known) → IsOpen image → IsOpen (cond b (with_taken image) image)
open_if true image ready = open_taken image ready
open_if false image ready = ready

pub reach_if : (b : Bool) (image : Known) → length (cond b (with_taken image) image).refs.counts ≡ length image.refs.counts
reach_if true image = (ready_taken image.refs (free_cluster image.refs 0)).reach
reach_if false image = refl

-- the same entries, whatever was taken
needs_if : (b : Bool) (image : Known) (cluster : ℕ) → needs_host (cond b (with_taken image) image) cluster ≡ needs_host image cluster
needs_if true image cluster = refl
needs_if false image cluster = refl

size_if : (b : Bool) (image : Known) → cluster_size_in (cond b (with_taken image) image) ≡ cluster_size_in image
size_if true image = refl
size_if false image = refl

idle_if : (b : Bool) (image : Known) (cluster : ℕ) → idle_host (entry_in (cond b (with_taken image) image) cluster) ≡ idle_host (entry_in image cluster)
idle_if true image cluster = refl
idle_if false image cluster = refl

can_if : (b : Bool) (image : Known) (capacity : ℕ) → IsOpen image → (b ≡ true → CanTake image 0 capacity) → CanTake image (cond b 1 0) capacity → CanTake (cond b (with_taken image) image) 0 capacity
can_if true image capacity ready one two = can_second image capacity ready (one refl) two
can_if false image capacity ready one two = two

taken_if : (b : Bool) (image : Known) → IsOpen image → (b ≡ true → free_cluster image.refs 0 < length image.refs.counts) → taken_at (cond b (with_taken image) image) 0 ≡ taken_at image (cond b 1 0)
taken_if true image ready below = ap (λ (n : ℕ). n * cluster_size_in image) (next_free image.refs ready.refcounts (below refl))
taken_if false image ready below = refl

tables_if : (b : Bool) (image : Known) → (cond b (with_taken image) image).tables ≡ image.tables
tables_if true image = refl
tables_if false image = refl

-- The new table.

-- a cluster that was taken, in numbers
record IsTakenOffset (offset : ℕ) : Type 0 where
  whole : offset % 65536 ≡ 0
  near : offset + 65536 ≤ 549755813888
  aligned : offset % 512 ≡ 0
  some : offset ≢ 0

taken_offset : (n size : ℕ) → size ≡ 65536 → n < 8388608 → n ≢ 0 → IsTakenOffset (n * size)
taken_offset n size is small some =
    let same = is in
    rw same (record { whole = omega arith; near = omega arith; aligned = omega arith; some = λ none. some (omega (arith, none)) })

offset_of : (image : Known) (capacity : ℕ) → IsOpen image → CanTake image 0 capacity → IsTakenOffset (taken_at image 0)
offset_of image capacity ready can =
    let few = ready.reach in
    taken_offset (free_cluster image.refs 0) (cluster_size_in image) (size_in image ready) (omega (arith, can.below, few)) (not_first image ready can.below)

-- what holds of the offset for a table
pub record IsTableOffset (image : Known) (cluster table : ℕ) : Type 0 where
  pub can : CanLink image.tables cluster table
  pub whole : table % 65536 ≡ 0
  pub near : table + 65536 ≤ 549755813888

table_if : (b : Bool) (image : Known) (cluster capacity : ℕ) → needs_table image cluster ≡ b → IsOpen image → cluster < length image.tables.words → (b ≡ true → CanTake image 0 capacity)
    → IsTableOffset image cluster (cond b (taken_at image 0) 0)
table_if true image cluster capacity test ready below can =
    let at = offset_of image capacity ready (can refl) in
    let near = at.near in
    record {
      can = record {
        below = below;
        named = λ none. absurd (at.some none);
        new = λ some. eqb-true (table_of image.tables cluster) 0 test;
        aligned = at.aligned;
        small = omega (arith, near);
      };
      whole = at.whole;
      near = at.near;
    }
table_if false image cluster capacity test ready below can = record {
  can = record {
    below = below;
    named = λ none. eqb-false (table_of image.tables cluster) 0 test;
    new = λ some. absurd (some refl);
    aligned = refl;
    small = omega arith;
  };
  whole = refl;
  near = omega arith;
}

pub table_offset : (image : Known) (cluster capacity : ℕ) → IsOpen image → cluster < length image.tables.words → (needs_table image cluster ≡ true → CanTake image 0 capacity)
    → IsTableOffset image cluster (table_for image cluster)
table_offset image cluster capacity ready below can = table_if (needs_table image cluster) image cluster capacity refl ready below can

-- Where the data go.

pub record IsHostOffset (image : Known) (cluster host capacity : ℕ) : Type 0 where
  pub fits : host + 65536 ≤ capacity
  pub small : host < 549755813888
  pub reached : host < length image.refs.counts * cluster_size_in image
  pub writable : IsWritable (Host host)

idle_entry : (e : L2Entry) → idle_host e ≢ 0 → e ≡ Zero (idle_host e)
idle_entry Unallocated some = absurd (some refl)
idle_entry (Zero host) some = refl
idle_entry (Host host) some = absurd (some refl)
idle_entry Compressed some = absurd (some refl)
idle_entry Reserved some = absurd (some refl)

-- the entry that a put goes behind
pub idle_there : (image : Known) (cluster : ℕ) → needs_host image cluster ≡ false
    → (entry_in image cluster ≡ Zero (idle_host (entry_in image cluster))) × (0 < idle_host (entry_in image cluster))
idle_there image cluster test =
    let some = eqb-false (idle_host (entry_in image cluster)) 0 test in
    (idle_entry (entry_in image cluster) some, positive (idle_host (entry_in image cluster)) some)
  where
    positive : (n : ℕ) → n ≢ 0 → 0 < n
    positive n some = omega arith

idle_offset : (word : ℕ) → (own_offset word % 512 ≡ 0) × (own_offset word < 2 ^ 56)
idle_offset word = by_bit (is_compressed word) (host_offset word) (omega arith) (omega arith)
  where
    by_bit : (b : Bool) (o : ℕ) → o % 512 ≡ 0 → o < 2 ^ 56 → (cond b 0 o % 512 ≡ 0) × (cond b 0 o < 2 ^ 56)
    by_bit true o aligned small = (refl, omega arith)
    by_bit false o aligned small = (aligned, small)

host_if : (b : Bool) (image : Known) (cluster capacity : ℕ) → needs_host image cluster ≡ b → IsOpen image → cluster < length image.tables.words → (b ≡ true → CanTake image 0 capacity)
    → cond b (taken_at image 0) (idle_host (entry_in image cluster)) + 65536 ≤ capacity
    → IsHostOffset image cluster (cond b (taken_at image 0) (idle_host (entry_in image cluster))) capacity
host_if true image cluster capacity test ready below can fits =
    let at = offset_of image capacity ready (can refl) in
    let size = size_in image ready in
    let inside = (can refl).below in
    let near = at.near in
    record {
      fits = fits;
      small = omega (arith, near);
      reached = rows (free_cluster image.refs 0) (length image.refs.counts) (cluster_size_in image) size inside;
      writable = ((at.aligned, omega (arith, near)), positive (taken_at image 0) at.some);
    }
  where
    rows : (n m size : ℕ) → size ≡ 65536 → n < m → n * size < m * size
    rows n m size is h = rw is (omega arith)

    positive : (n : ℕ) → n ≢ 0 → 0 < n
    positive n some = omega arith
host_if false image cluster capacity test ready below can fits =
    let there = idle_there image cluster test in
    let own = zero_entry (get_or image.tables.words cluster 0) (idle_host (entry_in image cluster)) there.0 in
    let inside = ready.hosts cluster below in
    let size = size_in image ready in
    let few = ready.reach in
    let parts = idle_offset (get_or image.tables.words cluster 0) in
    let bound : length image.refs.counts * cluster_size_in image ≤ 549755813888 = rw size (omega (arith, few)) in
    record {
      fits = fits;
      small = omega (arith, own, inside, bound);
      reached = omega (arith, own, inside);
      writable = ((ap (λ (n : ℕ). n % 512) (sym own) ∙ parts.0, omega (arith, own, inside, bound)), there.1);
    }

pub host_offset_of : (image : Known) (cluster capacity : ℕ) → IsOpen image → cluster < length image.tables.words → (needs_host image cluster ≡ true → CanTake image 0 capacity)
    → next_host image cluster + 65536 ≤ capacity → IsHostOffset image cluster (next_host image cluster) capacity
host_offset_of image cluster capacity ready below can fits = host_if (needs_host image cluster) image cluster capacity refl ready below can fits

-- The same behind the table's cluster.

pub can_host : (image : Known) (cluster capacity : ℕ) → IsOpen image → PutFits image cluster capacity → needs_host (with_table image cluster) cluster ≡ true → CanTake (with_table image cluster) 0 capacity
can_host image cluster capacity ready fits needs =
    can_if (needs_table image cluster) image capacity ready fits.entry.table (fits.host (sym (needs_if (needs_table image cluster) image cluster) ∙ needs))

pub host_stays : (image : Known) (cluster capacity : ℕ) → IsOpen image → PutFits image cluster capacity → next_host (with_table image cluster) cluster ≡ host_for image cluster
host_stays image cluster capacity ready fits =
    let b : Bool = needs_table image cluster in
    let same = needs_if b image cluster in
    let taken = taken_if b image ready (λ e. (fits.entry.table e).below) in
    let idle = idle_if b image cluster in
    ap (λ (n : Bool). cond n (taken_at (with_table image cluster) 0) (idle_host (entry_in (with_table image cluster) cluster))) same
    ∙ ap (λ (o : ℕ). cond (needs_host image cluster) o (idle_host (entry_in (with_table image cluster) cluster))) taken
    ∙ ap (λ (o : ℕ). cond (needs_host image cluster) (taken_at image (cond b 1 0)) o) idle

-- One put: the images in between, and the offsets, as its steps tell them.
pub record IsPut (zeroth first second : Known) (cluster table host capacity : ℕ) : Type 0 where
  pub ready : IsOpen zeroth
  pub below : cluster < length zeroth.tables.words
  pub fits : PutFits zeroth cluster capacity
  pub table_is : table ≡ table_for zeroth cluster
  pub first_is : first ≡ with_table zeroth cluster
  pub host_is : host ≡ next_host first cluster
  pub second_is : second ≡ with_host first cluster

module _ (zeroth first second : Known) (cluster table host capacity : ℕ) (put : IsPut zeroth first second cluster table host capacity) where
  pub open_first : IsOpen first
  open_first = subst IsOpen (sym put.first_is) (open_if (needs_table zeroth cluster) zeroth put.ready)

  pub open_second : IsOpen second
  open_second = subst IsOpen (sym put.second_is) (open_if (needs_host first cluster) first open_first)

  tables_first : first.tables ≡ zeroth.tables
  tables_first = ap (λ (k : Known). k.tables) put.first_is ∙ tables_if (needs_table zeroth cluster) zeroth

  pub tables_second : second.tables ≡ first.tables
  tables_second = ap (λ (k : Known). k.tables) put.second_is ∙ tables_if (needs_host first cluster) first

  pub below_first : cluster < length first.tables.words
  below_first = let P : tables.KeptTables → Type 0 = λ t. cluster < length t.words in subst P (sym tables_first) put.below

  pub below_second : cluster < length second.tables.words
  below_second = let P : tables.KeptTables → Type 0 = λ t. cluster < length t.words in subst P (sym tables_second) below_first

  pub can_first : needs_host first cluster ≡ true → CanTake first 0 capacity
  can_first =
      let P : Known → Type 0 = λ k. needs_host k cluster ≡ true → CanTake k 0 capacity in
      subst P (sym put.first_is) (can_host zeroth cluster capacity put.ready put.fits)

  pub host_for_it : host ≡ host_for zeroth cluster
  host_for_it = put.host_is ∙ ap (λ (k : Known). next_host k cluster) put.first_is ∙ host_stays zeroth cluster capacity put.ready put.fits

  pub host_facts : IsHostOffset first cluster host capacity
  host_facts =
      let size = size_in zeroth put.ready in
      let room = put.fits.payload in
      let same = host_for_it in
      let next = put.host_is in
      let P : ℕ → Type 0 = λ h. IsHostOffset first cluster h capacity in
      subst P (sym put.host_is) (host_offset_of first cluster capacity open_first below_first can_first (omega (arith, size, room, same, next)))

  pub reached_second : host < length second.refs.counts * cluster_size_in second
  reached_second =
      let P : Known → Type 0 = λ k. host < length k.refs.counts * cluster_size_in k in
      let b : Bool = needs_host first cluster in
      let len = reach_if b first in
      let size = size_if b first in
      subst P (sym put.second_is) (rw (len, size) host_facts.reached)

  pub table_facts : IsTableOffset second cluster table
  table_facts =
      let T : tables.KeptTables → Type 0 = λ t. CanLink t cluster table in
      let P : ℕ → Type 0 = IsTableOffset zeroth cluster in
      let at = subst P (sym put.table_is) (table_offset zeroth cluster capacity put.ready put.below put.fits.entry.table) in
      record { can = subst T (sym (tables_second ∙ tables_first)) at.can; whole = at.whole; near = at.near }

  pub link_fits : link_end second.tables cluster table ≤ capacity
  link_fits =
      let P : tables.KeptTables → Type 0 = λ t. link_end t cluster table ≤ capacity in
      let Q : ℕ → Type 0 = λ t. link_end zeroth.tables cluster t ≤ capacity in
      subst P (sym (tables_second ∙ tables_first)) (subst Q (sym put.table_is) put.fits.entry.entry)

  -- a host that isn't taken is the one of the entry
  pub idle_host_there : needs_host first cluster ≡ false → (entry_in second cluster ≡ Zero host) × (0 < host)
  idle_host_there test =
      let there = idle_there first cluster test in
      let own : host ≡ idle_host (entry_in first cluster) = put.host_is ∙ ap (λ (b : Bool). cond b (taken_at first 0) (idle_host (entry_in first cluster))) test in
      let entries = ap (λ (t : tables.KeptTables). l2_entry (get_or t.words cluster 0)) tables_second in
      (entries ∙ there.0 ∙ ap Zero (sym own), omega (arith, own, there.1))

  -- one that is taken is whole
  pub taken_whole : needs_host first cluster ≡ true → host % 65536 ≡ 0
  taken_whole test =
      let own : host ≡ taken_at first 0 = put.host_is ∙ ap (λ (b : Bool). cond b (taken_at first 0) (idle_host (entry_in first cluster))) test in
      let at = offset_of first capacity open_first (can_first test) in
      ap (λ (n : ℕ). n % 65536) own ∙ at.whole

  -- and counts once
  taken_once : needs_host first cluster ≡ true → counts_once second host ≡ true
  taken_once test =
      let own : host ≡ taken_at first 0 = put.host_is ∙ ap (λ (b : Bool). cond b (taken_at first 0) (idle_host (entry_in first cluster))) test in
      let is : second ≡ with_taken first = put.second_is ∙ ap (λ (b : Bool). cond b (with_taken first) first) test in
      let one = count_taken first (size_in first open_first) (can_first test).below in
      let once = once_by_count (with_taken first) (taken_at first 0) (offset_of first capacity open_first (can_first test)).some one in
      ap (λ (k : Known). counts_once k host) is ∙ ap (counts_once (with_taken first)) own ∙ once

  pub single_after : (next : Known) (result : Result (Unit {0}) DevStop) → next.header ≡ second.header → next.refs ≡ second.refs
      → OnOk result (entry_in next cluster ≡ Host host) → OnOk result (IsSpelled next cluster)
      → OnOk result (needs_host zeroth cluster ≡ true → is_single (get_or next.tables.words cluster 0) ≡ true)
  single_after next (Ok t) header counts entry spelled = λ needs.
      let test = ap (λ (k : Known). needs_host k cluster) put.first_is ∙ needs_if (needs_table zeroth cluster) zeroth cluster ∙ needs in
      let C : Header → refs.KeptRefs → Bool = λ h r. counts_once (record { header = h; tables = next.tables; refs = r }) host in
      let once : counts_once next host ≡ true = ap (λ (h : Header). C h next.refs) header ∙ ap (C second.header) counts ∙ taken_once test in
      let word = spelled ∙ ap (λ (e : L2Entry). l2_spelling e (counts_once next (host_of e))) entry ∙ ap (l2_spelling (Host host)) once in
      ap is_single word ∙ single_of_spelling (Host host) true host_facts.writable
  single_after next (Err stop) header counts entry spelled = tt

-- The host cluster that a guest cluster keeps when it is made to read as zeros.
pub record IsKeptHost (image : Known) (cluster host : ℕ) : Type 0 where
  pub own : host ≡ own_offset (get_or image.tables.words cluster 0)
  pub offset : (host % 512 ≡ 0) × (host < 2 ^ 56)
  pub reached : host < length image.refs.counts * cluster_size_in image

pub kept_host : (image : Known) (cluster host : ℕ) (entry : L2Entry) → IsOpen image → cluster < length image.tables.words → host ≡ host_of entry → entry ≡ entry_in image cluster
    → IsKeptHost image cluster host
kept_host image cluster host entry ready below is there =
    let word : ℕ = get_or image.tables.words cluster 0 in
    let own : host ≡ own_offset word = is ∙ ap host_of there ∙ sym (own_of_plain word (ready.plain cluster below)) in
    let parts = idle_offset word in
    record {
      own = own;
      offset = (ap (λ (n : ℕ). n % 512) own ∙ parts.0, omega (arith, own, parts.1));
      reached = omega (arith, own, ready.hosts cluster below);
    }

-- One zero write: the image after a table's cluster was taken.
module _ (zeroth first : Known) (cluster table capacity : ℕ) (ready : IsOpen zeroth) (below : cluster < length zeroth.tables.words) (fits : ZeroFits zeroth cluster capacity)
    (table_is : table ≡ table_for zeroth cluster) (first_is : first ≡ with_table zeroth cluster) where
  pub zero_open : IsOpen first
  zero_open = subst IsOpen (sym first_is) (open_if (needs_table zeroth cluster) zeroth ready)

  pub zero_tables : first.tables ≡ zeroth.tables
  zero_tables = ap (λ (k : Known). k.tables) first_is ∙ tables_if (needs_table zeroth cluster) zeroth

  pub zero_below : cluster < length first.tables.words
  zero_below = let P : tables.KeptTables → Type 0 = λ t. cluster < length t.words in subst P (sym zero_tables) below

  pub zero_table : IsTableOffset first cluster table
  zero_table =
      let T : tables.KeptTables → Type 0 = λ t. CanLink t cluster table in
      let P : ℕ → Type 0 = IsTableOffset zeroth cluster in
      let at = subst P (sym table_is) (table_offset zeroth cluster capacity ready below fits.table) in
      record { can = subst T (sym zero_tables) at.can; whole = at.whole; near = at.near }
