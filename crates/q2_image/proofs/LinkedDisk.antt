-- The file behind a link: it is an image of what is known then, and its disk has changed in that one guest cluster.
use Rattle.std.proofs.Common.{◌≡◌, ◌≢◌, ℕ, ◌+◌, ◌*◌, ◌/◌, ◌%◌, ◌<◌, ◌≤◌, ◌⊎◌, inl, inr, true, false, List, length, get_or, slice_set, refl, sym, ap, subst, ◌∙◌, arith, eq-eqb}
use Rattle.std.proofs.Math.ListN.{length-set}
use Rattle.std.proofs.lemmas.Bool.{cases_eq, lt-ltb}
use Rattle.std.proofs.lemmas.List.{get_or-set_same, get_or-set_other}
use Rattle.q2_format.specs.Contents.{byte_by_entry}
use Rattle.q2_format.specs.Entry.{host_offset, l2_entry, has_reserved_in_l1}
use Rattle.q2_format.specs.Header.{header_of}
use Rattle.q2_format.specs.References.{own_offset, uses}
use Rattle.q2_format.specs.Sizes.{entries_in_cluster}
use Rattle.q2_format.specs.Sound.{is_misplaced, guest_clusters, reserved_in_l1}
use Rattle.q2_format.specs.Tables.{active_tree, tree_at, refcount_table, l2_word_of}
use Rattle.q2_format.specs.declared.header.Header.{Header}
use Rattle.q2_format.specs.declared.entries.L2Entry.{L2Entry}
use Rattle.q2_format.proofs.Consistent.{FindsNothing, sound_tables}
use Rattle.q2_format.proofs.Firsts.{lowest-none}
use Rattle.q2_format.proofs.Frames.{placed_longer}
use Rattle.q2_refs.proofs.Writes.{l1_placed, l2_placed, below_of}
use Rattle.q2_tables.specs.Kept.{IsTreeOf, is_plain}
use Rattle.q2_tables.specs.Linking.{CanLink, entry_at, l1_index, l1_spelling, table_len, with_entry}
use Rattle.q2_image.specs.Opening.{uses_in}
use Rattle.q2_image.specs.Image.{Known, IsImageOf, IsOpen, cluster_size_in, entry_in}
use Rattle.q2_image.specs.Writing.{IsDiskWith, IsSameDisk, IsSpare, MayName}
use Rattle.q2_image.proofs.DiskKept.{AreImages, HostStays, in_words, guest_by_entry, same_byte, same_disk, same_size}
use Rattle.q2_image.proofs.EntryFrames.{counts_stay, byte_stays_beside}
use Rattle.q2_image.proofs.EntryWrites.{EntryPlace, entry_place, in_l1}
use Rattle.q2_image.proofs.HostUses.{host_entry, held_by, host_placed, spare_unnamed, consistent, size_in}
use Rattle.q2_image.proofs.LinkedImage.{l1_cases, l1_length, open_linked, fits_uses, l1_bits, spelled_offset}
use Rattle.q2_image.proofs.Opened.{same_uses}
use Rattle.q2_image.proofs.TreeChanged.{FitsWith, KeepsCounts, image_changed}

placed_by : (c len offset : ℕ) → offset % c ≡ 0 → offset < len → is_misplaced c len offset ≡ false
placed_by c len offset whole below =
    let a = eq-eqb (offset % c) 0 whole in
    let b = lt-ltb offset len below in
    rw (a, b) refl

-- What stays where an entry was written, or was not.
module _ (old new : List ℕ) (image : Known) (cluster table : ℕ) (is : IsImageOf old image) (ready : IsOpen image) (below : cluster < length image.tables.words)
    (can : CanLink image.tables cluster table) (spare : table ≢ 0 → IsSpare old (table / 65536)) (whole : table % 65536 ≡ 0)
    (outside : (i : ℕ) → (i < entry_at image.tables cluster table) ⊎ (entry_at image.tables cluster table + 8 ≤ i)
    → (i < table) ⊎ (table + table_len image.tables table ≤ i) → get_or new i 0 ≡ get_or old i 0)
    (grows : length old ≤ length new) (small : length new ≤ 549755813888) where
  abbrev x : Header
  x = image.header

  abbrev c : ℕ
  c = cluster_size_in image

  c_is : c ≡ 65536
  c_is = size_in image ready

  nothing : FindsNothing old x (length old)
  nothing = let F : Header → Type 0 = λ y. FindsNothing old y (length old) in subst F is.header (sound_tables old is.sound)

  keeps : KeepsCounts old new
  keeps = counts_stay old new image cluster table is ready below can spare whole outside grows small

  place : EntryPlace old image is ready cluster table below can (entry_at image.tables cluster table)
  place = entry_place old image is ready cluster table below can

  -- a byte in a cluster that isn't the entry's, nor the table's
  apart_byte : (host i : ℕ) → host % 65536 ≡ 0 → i < 65536 → host / 65536 ≢ entry_at image.tables cluster table / 65536 → (table ≢ 0 → host / 65536 ≢ table / 65536)
      → get_or new (host + i) 0 ≡ get_or old (host + i) 0
  apart_byte host i aligned inside other beside =
      let there : (host + i) / 65536 ≡ host / 65536 = omega (arith, aligned, inside) in
      byte_stays_beside old new image cluster table is ready below can spare whole outside grows small (host + i)
      (λ e. other (sym there ∙ e)) (λ some e. beside some (sym there ∙ e))

  -- what an entry names
  named_apart : (q host : ℕ) → q < length image.tables.words → own_offset (get_or image.tables.words q 0) ≡ host → host ≢ 0
      → (host / 65536 ≢ entry_at image.tables cluster table / 65536) × (table ≢ 0 → host / 65536 ≢ table / 65536)
  named_apart q host below_q own some =
      let by_c = ap (λ (n : ℕ). host / n) (sym c_is) ∙ ap (λ (n : ℕ). n / c) (sym own) in
      let named : own_offset (get_or image.tables.words q 0) ≢ 0 = λ none. some (sym own ∙ none) in (
        λ e. place.holds.unnamed q below_q named (sym by_c ∙ e),
        λ some_table e. spare_unnamed old image is q (table / 65536) below_q (spare some_table).unnamed named (sym by_c ∙ e),
      )

  hosts_stay : (q : ℕ) → q < length image.tables.words → HostStays old new (entry_in image q)
  hosts_stay q below_q = λ host i entry inside.
      let own = host_entry (get_or image.tables.words q 0) host entry in
      let held = held_by old image is ready q host below_q own.0 own.1 in
      let apart = named_apart q host below_q own.0 own.1 in
      apart_byte host i held.whole inside apart.0 apart.1

  old_table : (i : ℕ) → i < length image.tables.l1 → is_misplaced c (length new) (host_offset (get_or image.tables.l1 i 0)) ≡ false
  old_table i in_row =
      let P : List ℕ → Type 0 = λ xs. (j : ℕ) → j < length xs → is_misplaced c (length new) (host_offset (get_or xs j 0)) ≡ false in
      let all : P (active_tree old x).l1 = λ j in_tree. placed_longer c (length old) (length new) (host_offset (get_or (active_tree old x).l1 j 0)) grows (l2_placed c (length old) (active_tree old x) nothing.l2_tables j in_tree) in
      subst P (sym is.tables.l1) all i in_row

  old_bits : (i : ℕ) → i < length image.tables.l1 → has_reserved_in_l1 (get_or image.tables.l1 i 0) ≡ false
  unfolding reserved_in_l1
  old_bits i in_row =
      let P : List ℕ → Type 0 = λ xs. (j : ℕ) → j < length xs → has_reserved_in_l1 (get_or xs j 0) ≡ false in
      let all : P (active_tree old x).l1 = λ j in_tree. lowest-none (λ m. has_reserved_in_l1 (get_or (active_tree old x).l1 m 0)) (length (active_tree old x).l1) nothing.l1_bits j in_tree in
      subst P (sym is.tables.l1) all i in_row

  old_host : (q : ℕ) → q < length image.tables.words → is_misplaced c (length new) (own_offset (get_or image.tables.words q 0)) ≡ false
  old_host q below_q =
      let word = is.tables.words q below_q in
      let l1 = ap length is.tables.l1 in
      let inside : q < guest_clusters c (active_tree old x) = subst (λ (n : ℕ). q < n * entries_in_cluster c) l1 (subst (λ (n : ℕ). q < n) is.tables.entries below_q) in
      let placed = placed_longer c (length old) (length new) (own_offset (l2_word_of (active_tree old x) c q)) grows (host_placed c (length old) (active_tree old x) nothing.hosts q inside) in
      ap (λ (w : ℕ). is_misplaced c (length new) (own_offset w)) word ∙ placed

  uses_was : (k : ℕ) → uses old x k ≡ uses_in x (refcount_table old x) image.tables.l1 image.tables.words k
  uses_was k = same_uses old x image.refs image.tables k is.refs is.tables ∙ ap (λ (xs : List ℕ). uses_in x xs image.tables.l1 image.tables.words k) is.refs.table

  -- the tree where the link stopped
  module _ (tree : IsTreeOf image.tables.c image.tables (tree_at new image.tables.c image.tables.l1_offset (length image.tables.l1))) where
    tree_still : IsTreeOf c image.tables (active_tree new x)
    tree_still =
        let size = ready.tables_size in
        let P : ℕ → ℕ → ℕ → Type 0 = λ n at count. IsTreeOf n image.tables (tree_at new n at count) in
        let one : P c image.tables.l1_offset (length image.tables.l1) = subst (λ (n : ℕ). P n image.tables.l1_offset (length image.tables.l1)) size tree in
        let two : P c x.l1_offset (length image.tables.l1) = subst (λ (at : ℕ). P c at (length image.tables.l1)) ready.l1_place one in
        subst (λ (count : ℕ). P c x.l1_offset count) ready.l1_size two

    fits_still : FitsWith old new x image.tables
    fits_still = record {
      tables = old_table;
      hosts = old_host;
      l1_bits = old_bits;
      plain = ready.plain;
      once = λ k. let was = uses_was k in omega (arith, was, (consistent old image is).once k);
      counted = λ k. let was = uses_was k in omega (arith, was, (consistent old image is).counted k);
    }

    pub image_stopped : IsImageOf new image
    image_stopped = image_changed old new image image.tables is keeps grows small tree_still fits_still

    pub disk_stopped : IsSameDisk old new
    disk_stopped =
        same_disk old new image image (record { old_image = is; new_image = image_stopped; old_open = ready; new_open = ready; size = refl }) (λ q in_row. refl) hosts_stay

  -- and where it was made
  module _ (word host : ℕ) (entry : L2Entry) (is_entry : l2_entry word ≡ entry) (own : own_offset word ≡ host) (plain : is_plain word ≡ true)
      (reached : host < length image.refs.counts * cluster_size_in image) (may : MayName 65536 old image cluster table host) (long : table ≢ 0 → table < length new)
      (tree : IsTreeOf image.tables.c (with_entry image.tables cluster word table)
      (tree_at new image.tables.c image.tables.l1_offset (length (with_entry image.tables cluster word table).l1))) where
    abbrev row : ℕ
    row = l1_index image.tables cluster

    row_below : row < length image.tables.l1
    row_below = in_l1 old image is ready cluster table below can

    abbrev next : Known
    next = record image { tables = with_entry image.tables cluster word table }

    abbrev words : List ℕ
    words = slice_set image.tables.words cluster word

    l1_same : length next.tables.l1 ≡ length image.tables.l1
    l1_same = l1_length image cluster table word host ready below can row_below own plain reached

    pub open_next : IsOpen next
    open_next = open_linked image cluster table word host ready below can row_below own plain reached

    tree_next : IsTreeOf c next.tables (active_tree new x)
    tree_next =
        let P : ℕ → ℕ → ℕ → Type 0 = λ n at count. IsTreeOf n next.tables (tree_at new n at count) in
        let one : P c image.tables.l1_offset (length next.tables.l1) = subst (λ (n : ℕ). P n image.tables.l1_offset (length next.tables.l1)) ready.tables_size tree in
        let two : P c x.l1_offset (length next.tables.l1) = subst (λ (at : ℕ). P c at (length next.tables.l1)) ready.l1_place one in
        subst (λ (count : ℕ). P c x.l1_offset count) (l1_same ∙ ready.l1_size) two

    here_word : get_or words cluster 0 ≡ word
    here_word = get_or-set_same image.tables.words cluster word 0 below

    host_fits : is_misplaced c (length new) host ≡ false
    host_fits = elim may [
      | inl none ↦
          let some : 0 < length new = let inside = below_of c (length old) x.l1_offset (l1_placed x (length old) nothing.l1_table).1 in omega (arith, inside) in
          let zero_whole : host % c ≡ 0 = let size = c_is in rw (none, size) refl in
          placed_by c (length new) host zero_whole (omega (arith, none, some))
      | inr (inl same) ↦ ap (is_misplaced c (length new)) same ∙ old_host cluster below
      | inr (inr (free, aligned, inside, _)) ↦ placed_by c (length new) host (ap (λ (n : ℕ). host % n) c_is ∙ aligned) (omega (arith, inside))
    ]

    fits_next : FitsWith old new x next.tables
    fits_next =
        let uses_fit = fits_uses image cluster table word host ready below can row_below own plain reached old is spare may in
        let T : List ℕ → Type 0 = λ xs. (i : ℕ) → i < length xs → is_misplaced c (length new) (host_offset (get_or xs i 0)) ≡ false in
        let B : List ℕ → Type 0 = λ xs. (i : ℕ) → i < length xs → has_reserved_in_l1 (get_or xs i 0) ≡ false in
        let cases = l1_cases image cluster table word host ready below can row_below own plain reached in
        let table_set : table ≢ 0 → T (slice_set image.tables.l1 row (l1_spelling table)) = λ some i in_row. elim (cases_eq i row) [
          | inl here ↦
              ap (λ (m : ℕ). is_misplaced c (length new) (host_offset (get_or (slice_set image.tables.l1 row (l1_spelling table)) m 0))) here
              ∙ ap (λ (w : ℕ). is_misplaced c (length new) (host_offset w)) (get_or-set_same image.tables.l1 row (l1_spelling table) 0 row_below)
              ∙ ap (is_misplaced c (length new)) (spelled_offset table can.aligned can.small)
              ∙ placed_by c (length new) table (ap (λ (n : ℕ). table % n) c_is ∙ whole) (long some)
          | inr other ↦
              ap (λ (w : ℕ). is_misplaced c (length new) (host_offset w)) (get_or-set_other image.tables.l1 row i (l1_spelling table) 0 other)
              ∙ old_table i (subst (λ (n : ℕ). i < n) (length-set {A = ℕ} image.tables.l1 row (l1_spelling table)) in_row)
        ] in
        let bits_set : table ≢ 0 → B (slice_set image.tables.l1 row (l1_spelling table)) = λ some i in_row. elim (cases_eq i row) [
          | inl here ↦
              ap (λ (m : ℕ). has_reserved_in_l1 (get_or (slice_set image.tables.l1 row (l1_spelling table)) m 0)) here
              ∙ ap has_reserved_in_l1 (get_or-set_same image.tables.l1 row (l1_spelling table) 0 row_below)
              ∙ l1_bits table can.aligned can.small
          | inr other ↦
              ap has_reserved_in_l1 (get_or-set_other image.tables.l1 row i (l1_spelling table) 0 other)
              ∙ old_bits i (subst (λ (n : ℕ). i < n) (length-set {A = ℕ} image.tables.l1 row (l1_spelling table)) in_row)
        ] in
        record {
          tables = elim cases [ inl (none, same) ↦ subst T (sym same) old_table | inr (some, set_there) ↦ subst T (sym set_there) (table_set some) ];
          hosts = λ q in_row. elim (cases_eq q cluster) [
            | inl here ↦ ap (λ (m : ℕ). is_misplaced c (length new) (own_offset (get_or words m 0))) here ∙ ap (λ (w : ℕ). is_misplaced c (length new) (own_offset w)) here_word ∙ ap (is_misplaced c (length new)) own ∙ host_fits
            | inr other ↦
                ap (λ (w : ℕ). is_misplaced c (length new) (own_offset w)) (get_or-set_other image.tables.words cluster q word 0 other)
                ∙ old_host q (subst (λ (n : ℕ). q < n) (length-set {A = ℕ} image.tables.words cluster word) in_row)
          ];
          l1_bits = elim cases [ inl (none, same) ↦ subst B (sym same) old_bits | inr (some, set_there) ↦ subst B (sym set_there) (bits_set some) ];
          plain = open_next.plain;
          once = λ k. (uses_fit k).0;
          counted = λ k. (uses_fit k).1;
        }

    pub image_linked : IsImageOf new next
    image_linked = image_changed old new image next.tables is keeps grows small tree_next fits_next

    images : AreImages old new image next
    images = record { old_image = is; new_image = image_linked; old_open = ready; new_open = open_next; size = refl }

    entry_other : (q : ℕ) → q ≢ cluster → entry_in next q ≡ entry_in image q
    entry_other q other = ap l2_entry (get_or-set_other image.tables.words cluster q word 0 other)

    -- the bytes of a host cluster that the entry names
    pub host_same : (i : ℕ) → i < 65536 → host ≢ 0 → get_or new (host + i) 0 ≡ get_or old (host + i) 0
    host_same i inside some = elim may [
      | inl none ↦ absurd (some none)
      | inr (inl same) ↦
          let held = held_by old image is ready cluster host below (sym same) some in
          let apart = named_apart cluster host below (sym same) some in
          apart_byte host i held.whole inside apart.0 apart.1
      | inr (inr (free, aligned, _, differ)) ↦
          apart_byte host i aligned inside
          (λ e. let used = place.holds.used in let unnamed = ap (uses old (header_of old)) (sym e) ∙ free.unnamed in omega (arith, used, unnamed)) differ
    ]

    -- What the disk then reads there.
    pub disk_linked : (bytes : List ℕ) → length bytes ≡ 65536
        → ((backing : List ℕ) (i : ℕ) → i < 65536 → byte_by_entry new 65536 backing (cluster * 65536 + i) entry ≡ get_or bytes i 0)
        → IsDiskWith old new (cluster * 65536) bytes
    disk_linked bytes len shows =
        let size = ap (λ (h : Header). h.size) is.header in
        record {
          size = same_size old new image next images;
          inside = λ backing i inside in_disk.
              let q : (cluster * 65536 + i) / 65536 ≡ cluster = omega (arith, inside, len) in
              let there : (cluster * 65536 + i) / 65536 < length words = omega (arith, q, below, length-set {A = ℕ} image.tables.words cluster word) in
              guest_by_entry new backing next (cluster * 65536 + i) image_linked open_next there
              ∙ ap (λ (m : ℕ). byte_by_entry new 65536 backing (cluster * 65536 + i) (entry_in next m)) q
              ∙ ap (λ (w : ℕ). byte_by_entry new 65536 backing (cluster * 65536 + i) (l2_entry w)) here_word
              ∙ ap (byte_by_entry new 65536 backing (cluster * 65536 + i)) is_entry
              ∙ shows backing i (omega (arith, inside, len));
          outside = λ backing p in_disk side.
              let other : p / 65536 ≢ cluster = λ e. elim side [ inl before ↦ omega (arith, e, before) | inr behind ↦ omega (arith, e, behind, len) ] in
              let in_row = in_words image p ready (omega (arith, in_disk, size)) in
              same_byte old new image next images backing p in_disk (entry_other (p / 65536) other) (hosts_stay (p / 65536) in_row);
        }
