-- The writes of a link, wherever they stop: the disk is as before, or one guest cluster has its new bytes; the header's cluster stays.
use Rattle.std.proofs.Common.{◌≡◌, ◌≢◌, ℕ, ◌+◌, ◌*◌, ◌/◌, ◌%◌, ◌^◌, ◌<◌, ◌≤◌, inl, inr, max, Bool, true, false, List, [], length, Some, Result, Ok, Err, refl, arith}
use Rattle.blk_base.specs.Writes.{AtEachStop}
use Rattle.blk_base.specs.declared.fault.DevStop.{DevStop}
use Rattle.blk_base.specs.declared.fault.DevStop.TheVariants.{NoSpace}
use Rattle.blk_base.proofs.WriteLists.{at_each_stop-weaker}
use Rattle.q2_format.specs.Entry.{host_of, l2_spelling, IsWritable}
use Rattle.q2_format.specs.Tables.{tree_at}
use Rattle.q2_format.specs.declared.entries.L2Entry.{L2Entry}
use Rattle.q2_format.specs.declared.entries.L2Entry.TheVariants.{Unallocated, Zero, Host, Compressed, Reserved}
use Rattle.q2_tables.specs.Kept.{IsTreeOf}
use Rattle.q2_tables.specs.Linking.{CanLink, FileAfter, IsOldOrLinked, LiesApart, entry_at, link_end, link_writes, table_len, with_entry}
use Rattle.q2_tables.proofs.LinkStops.{link_stops as tables_stops}
use Rattle.q2_image.specs.Image.{Known, IsImageOf, IsOpen, cluster_size_in}
use Rattle.q2_image.specs.Made.{IsOldOrWith, word_for}
use Rattle.q2_image.specs.Writing.{IsSameDisk, IsSpare, MayName, Shows, counts_once}
use Rattle.q2_image.proofs.EntryWrites.{l1_whole, lies_apart}
use Rattle.q2_image.proofs.HeaderKept.{KeepsFirst, first_then}
use Rattle.q2_image.proofs.LinkTold.{disk_after, disk_kept, first_kept, first_linked, image_after, tree_by_kept}
use Rattle.q2_image.proofs.OwnWrites.{disk_then}

-- an image between the writes of a call, which has changed no byte of the disk yet
pub record IsBetween (file mid : List ℕ) (image : Known) : Type 0 where
  pub is : IsImageOf mid image
  pub ready : IsOpen image
  pub disk : IsSameDisk file mid
  pub first : KeepsFirst file mid

-- the file wherever a call stops that puts bytes at a place of the disk
abbrev pub Leaves : ℕ → List ℕ → List ℕ → List ℕ → Type 0
Leaves at bytes file now = IsOldOrWith at bytes file now × KeepsFirst file now

-- the word of an entry is one
word_small : (e : L2Entry) (single : Bool) → IsWritable e → l2_spelling e single < 2 ^ 64
word_small Unallocated true can = omega arith
word_small Unallocated false can = omega arith
word_small (Zero host) true can = omega (arith, can)
word_small (Zero host) false can = omega (arith, can)
word_small (Host host) true can = let small = can.0 in omega (arith, small)
word_small (Host host) false can = let small = can.0 in omega (arith, small)
word_small Compressed single can = absurd can
word_small Reserved single can = absurd can

module _ (file mid : List ℕ) (image : Known) (cluster table : ℕ) (entry : L2Entry) (bytes : List ℕ) (between : IsBetween file mid image)
    (below : cluster < length image.tables.words) (can : CanLink image.tables cluster table) (writable : IsWritable entry)
    (reached : host_of entry < length image.refs.counts * cluster_size_in image) (spare : table ≢ 0 → IsSpare mid (table / 65536)) (whole : table % 65536 ≡ 0)
    (near : table + 65536 ≤ 549755813888) (may : MayName 65536 mid image cluster table (host_of entry)) (len : length bytes ≡ 65536) (shows : Shows 65536 mid entry bytes) where
  abbrev P : List ℕ → Type 0
  P = Leaves (cluster * 65536) bytes file

  abbrev word : ℕ
  word = word_for image entry

  abbrev single : Bool
  single = counts_once image (host_of entry)

  tree : IsTreeOf image.tables.c image.tables (tree_at mid image.tables.c image.tables.l1_offset (length image.tables.l1))
  tree = tree_by_kept mid image between.is between.ready

  apart : LiesApart image.tables cluster table
  apart = lies_apart mid image between.is between.ready cluster table below can spare whole

  -- the entry isn't written
  kept : (new : List ℕ) → length mid ≤ length new → length new ≤ max (length mid) (link_end image.tables cluster table)
      → FileAfter image.tables mid (Some new) (entry_at image.tables cluster table) 0 table (table_len image.tables table) → P new
  kept new grows bound after =
      let stop : DevStop = NoSpace in
      let r : Result (Unit {0}) DevStop = Err NoSpace in
      let now = image_after image cluster table word entry single between.ready below can writable refl reached mid new between.is spare whole near may grows bound
      image.tables (Some new) refl r tt refl after tt in
      let same = disk_kept image cluster table word entry single between.ready below can writable refl reached mid new between.is spare whole near may grows bound
      image.tables (Some new) refl stop refl after in
      let first = first_kept image cluster table word entry single between.ready below can writable refl reached mid new between.is spare whole near may grows bound after in
      ((now.sound, inl (disk_then file mid new 0 [] between.disk same)), first_then file mid new between.first first)

  -- it is
  linked : (new : List ℕ) → length mid ≤ length new → length new ≤ max (length mid) (link_end image.tables cluster table)
      → table + table_len image.tables table ≤ length new
      → FileAfter (with_entry image.tables cluster word table) mid (Some new) (entry_at image.tables cluster table) 8 table (table_len image.tables table) → P new
  linked new grows bound long after =
      let r : Result (Unit {0}) DevStop = Ok tt in
      let next = with_entry image.tables cluster word table in
      let now = image_after image cluster table word entry single between.ready below can writable refl reached mid new between.is spare whole near may grows bound
      next (Some new) refl r refl tt after long in
      let disk = disk_after image cluster table word entry single between.ready below can writable refl reached mid new between.is spare whole near may grows bound
      next (Some new) refl tt refl after long bytes len shows in
      let first = first_linked image cluster table word entry single between.ready below can writable refl reached mid new between.is spare whole near may grows bound after in
      ((now.sound, inr (disk_then file mid new (cluster * 65536) bytes between.disk disk)), first_then file mid new between.first first)

  fits : word < 2 ^ 64
  fits = word_small entry single writable

  -- whatever a stop leaves of its writes
  by_left : (now : List ℕ) → IsOldOrLinked image.tables cluster word table mid now → P now
  by_left now behind = elim behind.left [
    | inl before ↦ kept now behind.grows behind.bound before
    | inr after ↦ linked now behind.grows behind.bound after.1 after.0
  ]

  pub link_stops : AtEachStop P (link_writes image.tables cluster word table) mid
  link_stops =
      let whole_l1 = l1_whole mid image between.is between.ready in
      let place = between.ready.l1_place in
      at_each_stop-weaker (IsOldOrLinked image.tables cluster word table mid) P (link_writes image.tables cluster word table) mid by_left
      (tables_stops mid image.tables cluster word table can apart fits tree (omega (arith, whole_l1, place)))
