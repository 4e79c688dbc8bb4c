-- What the calls of an image leave where they write a piece.
use Rattle.std.proofs.Common.{◌≡◌, ℕ, ◌+◌, ◌-◌, ◌*◌, ◌/◌, ◌%◌, ◌<◌, ◌≤◌, ◌⊎◌, min, true, false, List, [], ◌∷◌, ◌++◌, length, take, drop, get_or, set, replicate, Option, Some, None, refl, sym, ◌∙◌, ap, subst, arith, inl, inr}
use Rattle.std.proofs.lemmas.Bool.{cases_lt}
use Rattle.std.proofs.lemmas.List.{get_or-drop, get_or-replicate, get_or-take, get_or_past, length-replicate, set-get_or}
use Rattle.blk_base.proofs.Contents.{bytes_at-by_place, get_or-bytes_at, get_or-with_bytes_inside, get_or-with_bytes_outside, length-overwritten, overwritten-within}
use Rattle.blk_base.specs.Content.{bytes_at, with_bytes}
use Rattle.blk_base.specs.Pieces.{Extent, block_size}
use Rattle.blk_base.specs.declared.device.DeviceCall.TheVariants.{Read}
use Rattle.blk_base.specs.declared.fault.DevNo.{DevNo}
use Rattle.blk_base.specs.declared.fault.Outcome.{Outcome}
use Rattle.blk_base.specs.declared.fault.Outcome.TheVariants.{Good, Torn, Io, NoSpace}
use Rattle.q2_format.specs.Contents.{guest_byte, image_disk}
use Rattle.q2_format.specs.Header.{header_of}
use Rattle.q2_format.specs.declared.header.Header.{Header}
use Rattle.q2_format.specs.declared.entries.L2Entry.TheVariants as entries
use Rattle.q2_image.specs.Guest.{file_entry}
use Rattle.q2_image.specs.Image.{Known, IsImageOf, cluster_size_in, clusters_in, entry_in}
use Rattle.q2_image.specs.Reading.{IsHost, IsWithinCluster}
use Rattle.q2_image.specs.Room.{cluster_of, entry_for}
use Rattle.q2_image.specs.Writing.{IsDiskWith, PutFits, ZeroFits, own_end, own_place}
use Rattle.q2_image.proofs.Guests.{guest_zero}
use Rattle.q2_image.proofs.Mapped.{entry_of_file}
use Rattle.blk_base.specs.Outcomes.{is_good}
use Rattle.blk_nodes.specs.Changing.{ImageChange, ChangesAround, ChangesInPlace, ClearsCluster, IsClusterAround, PutsCluster, block_around, cluster_start, stretch_around}
use Rattle.blk_nodes.specs.Found.{found_bytes, IsReadOfSource}
use Rattle.blk_nodes.specs.Reading.{HaveRisen, IsReadAt}
use Rattle.blk_nodes.specs.Walk.{IsKnownAt}
use Rattle.blk_nodes.specs.declared.source.Source.{Source}
use Rattle.blk_nodes.specs.declared.source.Source.TheVariants as sources
use Rattle.blk_nodes.specs.Nodes.{DeviceSeen, AreTold, device_in}
use Rattle.blk_nodes.specs.Parts.{OfImage, HasPiece, IsPieceOf, IsLaid, HasFound, IsDiskFound, CallsRow, IsDiskAfter, ReadsRest, WritesPart, row_in}
use Rattle.blk_nodes.specs.Writing.{taken_by, FitsAt, HasRoomAt, HasRoomBy, HasImageCause, IsImageWrite, IsTornAt}
use Rattle.blk_nodes.specs.declared.part.Part.{Part}
use Rattle.blk_nodes.specs.declared.row.Driver.{Driver}
use Rattle.blk_nodes.specs.declared.row.Driver.TheVariants.{Qcow2}
use Rattle.blk_nodes.specs.declared.row.Row.{Row}
use Rattle.blk_nodes.proofs.Chains.{has_entry}
use Rattle.blk_nodes.proofs.HeldDevices.{HasRisen-refl, device_risen, some_device}
use Rattle.blk_nodes.proofs.ImageDisks.{disk_written, disk_put, disk_zeroed, disk_left}
use Rattle.blk_nodes.proofs.Rows.{has_image, image_found, of_image, row_found}
use Rattle.blk_nodes.proofs.Written.{length-written}

-- a row with the image that it has
pub same_row : (row : Row) (image : Known) → row.driver ≡ Qcow2 image → record row { driver = Qcow2 image } ≡ row
same_row row image is = let with_driver : Driver → Row = λ d. record row { driver = d } in ap with_driver (sym is)

-- a row that is put where it stands
pub set_same : (rows : List (Option Row)) (node : ℕ) (found : Option Row) → node < length rows → row_in rows node ≡ found → set rows node found ≡ rows
set_same rows node found below is = ap (set rows node) (sym is) ∙ set-get_or rows node None

-- the cause of a call of a whole cluster, of whatever bytes
pub cause_of : (fits : Type 0) (m n : ℕ) (old new : DeviceSeen) (image now : Known) (o : Outcome)
    → HasImageCause fits None m old new image now o → HasImageCause fits None n old new image now o
cause_of fits m n old new image now Good is = is
cause_of fits m n old new image now (Torn done dev count) is = absurd is.1
cause_of fits m n old new image now (Io dev count) is = is
cause_of fits m n old new image now (NoSpace dev) is = is

-- a piece of an image, and the file that is known
module _ (rows : List (Option Row)) (old : List DeviceSeen) (part : Part) (image : Known) (piece : IsPieceOf rows old part image) where
  known_of : (device : DeviceSeen) (b : List ℕ) → device_in old part.file ≡ Some device → device.content ≡ Some b → IsImageOf b image
  known_of = piece.known

  pub size_in : (device : DeviceSeen) (b : List ℕ) → device_in old part.file ≡ Some device → device.content ≡ Some b → (header_of b).size ≡ image.header.size
  size_in device b held content = ap (λ (h : Header). h.size) (known_of device b held content).header

  -- its cluster is its block
  pub size_bits : cluster_size_in image ≡ 65536
  size_bits = rw piece.opened.cluster_bits refl

  pub in_block : IsWithinCluster block_size part.span
  in_block = subst (λ (c : ℕ). IsWithinCluster c part.span) size_bits piece.cluster

  whole_is : part.whole ≡ block_around image.header.size part.span
  whole_is = piece.whole ∙ ap (λ (c : ℕ). stretch_around c image.header.size part.span) size_bits

  pub start_is : part.whole.start ≡ part.span.start - part.span.start % 65536
  start_is = ap (λ (s : Extent). s.start) whole_is

  pub len_is : part.whole.len ≡ min 65536 (image.header.size - (part.span.start - part.span.start % 65536))
  len_is = ap (λ (s : Extent). s.len) whole_is

  -- a piece that is its whole cluster begins where that does
  pub begins : part.span.len ≡ part.whole.len → part.span.start % 65536 ≡ 0
  begins all = let inside = piece.inside in let block = in_block in let len = len_is in omega arith

  pub cluster_is : cluster_of image part.span ≡ part.span.start / 65536
  cluster_is = ap (λ (c : ℕ). part.span.start / c) size_bits

  pub entry_is : entry_for image part.span ≡ entry_in image (part.span.start / 65536)
  entry_is = ap (entry_in image) cluster_is

  pub base_is : cluster_start image part.span ≡ part.span.start - part.span.start % 65536
  base_is = let same : cluster_start image part.span ≡ part.span.start / 65536 * 65536 = ap (λ (c : ℕ). part.span.start / c * c) size_bits in same ∙ omega arith

  -- a cluster that was put together has all bytes of the disk with the piece
  module _ (bytes cluster : List ℕ) (len : length bytes ≡ part.span.len) (is_laid : IsLaid 65536 part.whole.len (part.span.start % 65536) bytes cluster)
      (rest : AreTold old → HasFound part.whole.len (part.span.start % 65536) bytes (found_bytes old part.source part.whole.start part.whole.len) cluster) where
    abbrev begin : ℕ
    begin = part.span.start - part.span.start % 65536

    module _ (disk : List ℕ) (is : IsDiskFound old part disk) where
      beside : (i : ℕ) → i < 65536 → (i < part.span.start % 65536) ⊎ (part.span.start % 65536 + length bytes ≤ i) → get_or cluster i 0 ≡ get_or disk (begin + i) 0
      beside i below apart = elim (cases_lt i part.whole.len) [
        | inl few ↦
            rest is.told i few apart ∙ ap (λ (b : List ℕ). get_or b i 0) is.found ∙ get_or-bytes_at disk part.whole.start part.whole.len i few
            ∙ ap (λ (s : ℕ). get_or disk (s + i) 0) start_is
        | inr past ↦
            let start = start_is in
            let ends = is.ends (omega (arith, past, below)) in
            is_laid.behind i past ∙ sym (get_or_past disk (begin + i) 0 (omega (arith, past, start, ends)))
      ]

      by_place : (i : ℕ) → i < 65536 → get_or cluster i 0 ≡ get_or (with_bytes disk part.span.start bytes) (begin + i) 0
      by_place i below =
          let at : ℕ = part.span.start % 65536 in
          elim (cases_lt i at) [
            | inl before ↦
                beside i below (inl before) ∙ sym (get_or-with_bytes_outside disk part.span.start bytes (begin + i) (inl (omega arith)))
            | inr low ↦ elim (cases_lt i (at + length bytes)) [
              | inl here ↦
                  let k : ℕ = i - at in
                  ap (λ (j : ℕ). get_or cluster j 0) (let e : i ≡ at + k = omega arith in e) ∙ is_laid.inside k (omega arith)
                  ∙ sym (get_or-with_bytes_inside disk part.span.start bytes k (omega arith))
                  ∙ ap (λ (j : ℕ). get_or (with_bytes disk part.span.start bytes) j 0) (let e : part.span.start + k ≡ begin + i = omega arith in e)
              | inr high ↦
                  beside i below (inr high) ∙ sym (get_or-with_bytes_outside disk part.span.start bytes (begin + i) (inr (omega arith)))
            ]
          ]

    pub around_is : IsClusterAround (IsDiskFound old part) image part.span bytes cluster
    around_is = record {
      whole = is_laid.whole ∙ sym size_bits;
      holds = λ i few. ap (λ (c : ℕ). get_or cluster (part.span.start % c + i) 0) size_bits ∙ is_laid.inside i few;
      behind = λ i past. let count = len_is in let at_base = base_is in is_laid.behind i (omega (arith, count, at_base, past));
      is = λ disk is.
          bytes_at-by_place (with_bytes disk part.span.start bytes) cluster begin 65536 is_laid.whole (by_place disk is)
          ∙ ap (λ (s : ℕ). bytes_at (with_bytes disk part.span.start bytes) s 65536) (sym base_is)
          ∙ ap (λ (c : ℕ). bytes_at (with_bytes disk part.span.start bytes) (cluster_start image part.span) c) (sym size_bits);
    }

-- bytes that are put where they belong
laid : (old bytes : List ℕ) (at : ℕ) → at + length bytes ≤ length old → 0 < length bytes → take at old ++ bytes ++ drop (at + length bytes) old ≡ with_bytes old at bytes
laid old [] at within some = absurd (omega (arith, some))
laid old (x ∷ xs) at within some = sym (overwritten-within old at (x ∷ xs) within)

-- the cluster of a piece, put together
pub gathered : (rows : List (Option Row)) (devices : List DeviceSeen) (part : Part) → HasPiece rows devices part → (old found bytes new : List ℕ)
    → length old ≡ 65536 → new ≡ take (part.span.start % 65536) old ++ bytes ++ drop (part.span.start % 65536 + length bytes) old → length bytes ≡ part.span.len
    → (part.span.len < part.whole.len → take part.whole.len old ≡ found) → HasFound part.whole.len (part.span.start % 65536) bytes found new
gathered rows devices part has old found bytes new whole is len read =
    let image = has_image (row_in rows part.node) (IsPieceOf rows devices part) has in
    let piece : IsPieceOf rows devices part image.1 = image.4 in
    let at : ℕ = part.span.start % 65536 in
    let n : ℕ = part.whole.len in
    let count = len_is rows devices part image.1 piece in
    let some = piece.some in
    let block = in_block rows devices part image.1 piece in
    let inside = piece.inside in
    let put : new ≡ with_bytes old at bytes = is ∙ laid old bytes at (omega arith) (omega arith) in
    λ i few apart. elim (cases_lt part.span.len n) [
      | inl less ↦
          ap (λ (b : List ℕ). get_or b i 0) put ∙ get_or-with_bytes_outside old at bytes i apart ∙ sym (get_or-take n old i 0 few)
          ∙ ap (λ (b : List ℕ). get_or b i 0) (read less)
      | inr all ↦ absurd (elim apart [ inl before ↦ omega arith | inr behind ↦ omega arith ])
    ]

-- zeros at each place
zeros_read : (n i : ℕ) → get_or (replicate {A = ℕ} n 0) i 0 ≡ 0
zeros_read n i = let len = length-replicate {A = ℕ} n 0 in elim (cases_lt i n) [ inl below ↦ get_or-replicate n i 0 0 below | inr past ↦ get_or_past (replicate n 0) i 0 (omega arith) ]

-- which has the bytes of the piece, and zeros behind the disk's end
length-laid : (old bytes : List ℕ) (at : ℕ) → at + length bytes ≤ length old → length (with_bytes old at bytes) ≡ length old
length-laid old [] at within = refl
length-laid old (x ∷ xs) at within = length-overwritten old at (x ∷ xs) ∙ omega (arith, within)

pub laid_part : (rows : List (Option Row)) (devices : List DeviceSeen) (part : Part) → HasPiece rows devices part → (old bytes new : List ℕ)
    → length old ≡ 65536 → new ≡ take (part.span.start % 65536) old ++ bytes ++ drop (part.span.start % 65536 + length bytes) old → length bytes ≡ part.span.len
    → drop part.whole.len old ≡ replicate (65536 - part.whole.len) 0 → IsLaid 65536 part.whole.len (part.span.start % 65536) bytes new
laid_part rows devices part has old bytes new whole is len zeros =
    let image = has_image (row_in rows part.node) (IsPieceOf rows devices part) has in
    let piece : IsPieceOf rows devices part image.1 = image.4 in
    let at : ℕ = part.span.start % 65536 in
    let some = piece.some in
    let block = in_block rows devices part image.1 piece in
    let inside = piece.inside in
    let count = len_is rows devices part image.1 piece in
    let n : ℕ = part.whole.len in
    let within : at + length bytes ≤ length old = omega (arith, whole, len, block) in
    let put : new ≡ with_bytes old at bytes = is ∙ laid old bytes at within (omega (arith, len, some)) in
    record {
      whole = ap length put ∙ length-laid old bytes at within ∙ whole;
      inside = λ i few. ap (λ (b : List ℕ). get_or b (at + i) 0) put ∙ get_or-with_bytes_inside old at bytes i few;
      behind = λ i past.
          ap (λ (b : List ℕ). get_or b i 0) put ∙ get_or-with_bytes_outside old at bytes i (inr (omega (arith, past, count, inside, block, len)))
          ∙ ap (λ (j : ℕ). get_or old j 0) (let e : i ≡ n + (i - n) = omega (arith, past) in e) ∙ sym (get_or-drop n old (i - n) 0)
          ∙ ap (λ (b : List ℕ). get_or b (i - n) 0) zeros ∙ zeros_read (65536 - n) (i - n);
    }

-- a call on the image of a piece
module _ (rows left : List (Option Row)) (old new : List DeviceSeen) (part : Part) (bytes : List ℕ) (all_bytes : Known → List ℕ) (outcome : Outcome) (fits : Known → ℕ → Type 0) (own : Known → Option ℕ)
    (change : ImageChange) (place : Known → ℕ) (slot : Option Row) (has : HasPiece rows old part) (below : part.node < length rows)
    (call : CallsRow part.file fits own change (row_in rows part.node) slot old new place all_bytes outcome)
    (is_left : left ≡ set rows part.node slot) where
  pub piece : IsPieceOf rows old part call.image
  piece = image_found (row_in rows part.node) call.row call.image (IsPieceOf rows old part) call.there call.driver has

  row_now : left ≡ set rows part.node (Some (record call.row { driver = Qcow2 call.now }))
  row_now = is_left ∙ ap (set rows part.node) call.left

  full_by : (dev : DevNo) (o : Outcome) → outcome ≡ o → o ≡ NoSpace dev
      → HasImageCause (fits call.image call.call.before.capacity) (own call.image) (length (all_bytes call.image)) call.call.before call.call.after call.image call.now o → call.now ≡ call.image
  full_by dev Good is none cause = absurd (cc none)
  full_by dev (Torn done other count) is none cause = absurd (cc none)
  full_by dev (Io other count) is none cause = absurd (cc none)
  full_by dev (NoSpace other) is none cause = cause.3

  full : (dev : DevNo) → outcome ≡ NoSpace dev → (left ≡ rows) × (new ≡ old)
  full dev none =
      let same = full_by dev outcome refl none call.call.call.cause in
      let with_image : Known → List (Option Row) = λ k. set rows part.node (Some (record call.row { driver = Qcow2 k })) in
      let back : Some (record call.row { driver = Qcow2 call.image }) ≡ Some call.row = ap (λ (r : Row). Some r) (same_row call.row call.image call.driver) in
      (row_now ∙ ap with_image same ∙ ap (set rows part.node) back ∙ set_same rows part.node (Some call.row) below call.there, call.call.full dev none)

  pub called_part : HasImageCause (fits call.image call.call.before.capacity) (own call.image) (length bytes) call.call.before call.call.after call.image call.now outcome
      → (AreTold old → (b b' : List ℕ) → call.call.before.content ≡ Some b → call.call.after.content ≡ Some b' → IsDiskAfter old part (taken_by outcome bytes) b b')
      → WritesPart fits own change rows left old new part bytes outcome
  called_part cause disk = record {
    row = call.row;
    image = call.image;
    there = call.there;
    driver = call.driver;
    wrote = inr (inr record {
      now = call.now;
      opened = call.opened;
      header = call.call.call.wrote.header;
      taken = call.call.call.wrote.taken;
      mapped = call.call.call.wrote.mapped;
      row_now = row_now;
      before = call.call.before;
      after = call.call.after;
      held = call.call.held;
      held_now = call.call.left;
      only = call.call.only;
      cause = cause;
      full = full;
      changed = call.call.call.changed;
      device = call.call.call.wrote.device;
      known = call.call.call.wrote.image;
      disk = disk;
    });
  }

-- in place
pub own_wrote : (rows left : List (Option Row)) (old new : List DeviceSeen) (part : Part) (bytes : List ℕ) (outcome : Outcome) (slot : Option Row) → HasPiece rows old part
    → part.node < length rows
    → CallsRow part.file (λ image capacity. own_end image part.span ≤ capacity) (λ image. Some (own_place image part.span)) (ChangesInPlace part.span bytes) (row_in rows part.node) slot old new (λ _. part.span.start) (λ _. bytes) outcome
    → left ≡ set rows part.node slot → length bytes ≡ part.span.len
    → WritesPart (λ image capacity. own_end image part.span ≤ capacity) (λ image. Some (own_place image part.span)) (ChangesInPlace part.span bytes) rows left old new part bytes outcome
own_wrote rows left old new part bytes outcome slot has below call is_left len =
    let fits : Known → ℕ → Type 0 = λ image capacity. own_end image part.span ≤ capacity in
    let own : Known → Option ℕ = λ image. Some (own_place image part.span) in
    let change : ImageChange = ChangesInPlace part.span bytes in
    let place : Known → ℕ = λ _. part.span.start in
    let all_bytes : Known → List ℕ = λ _. bytes in
    let is = piece rows left old new part bytes all_bytes outcome fits own change place slot has below call is_left in
    called_part rows left old new part bytes all_bytes outcome fits own change place slot has below call is_left call.call.call.cause
    (λ all b b' was now backing rest.
    let size = size_in rows old part call.image is call.call.before b call.call.held was in
    let few = length-written outcome bytes in
    let inside = is.inside in
    disk_written b b' backing part.span.start (taken_by outcome bytes) (call.call.call.wrote.disk b b' was now) (omega arith))

-- of a whole cluster
module _ (rows left : List (Option Row)) (old new : List DeviceSeen) (part : Part) (outcome : Outcome) (fits : Known → ℕ → Type 0) (change : ImageChange)
    (slot : Option Row) (has : HasPiece rows old part) (below : part.node < length rows) (all_bytes : Known → List ℕ) (bytes : List ℕ)
    (call : CallsRow part.file fits (λ _. None) change (row_in rows part.node) slot old new (λ image. cluster_start image part.span) all_bytes outcome)
    (is_left : left ≡ set rows part.node slot)
    (good : AreTold old → (b b' : List ℕ) → call.call.before.content ≡ Some b → call.call.after.content ≡ Some b' → (header_of b).size ≡ call.image.header.size
    → IsDiskWith b b' (part.span.start - part.span.start % 65536) (all_bytes call.image) → IsDiskAfter old part bytes b b') where
  abbrev base : ℕ
  base = part.span.start - part.span.start % 65536

  pub cluster_piece : IsPieceOf rows old part call.image
  cluster_piece = piece rows left old new part bytes all_bytes outcome fits (λ _. None) change (λ image. cluster_start image part.span) slot has below call is_left

  here : cluster_start call.image part.span ≡ base
  here = base_is rows old part call.image cluster_piece

  by : (o : Outcome) → HasImageCause (fits call.image call.call.before.capacity) None (length (all_bytes call.image)) call.call.before call.call.after call.image call.now o
      → AreTold old → (b b' : List ℕ) → call.call.before.content ≡ Some b → call.call.after.content ≡ Some b' → (header_of b).size ≡ call.image.header.size
      → IsDiskWith b b' base (taken_by o (all_bytes call.image)) → IsDiskAfter old part (taken_by o bytes) b b'
  by Good cause all b b' was now size is = good all b b' was now size is
  by (Torn done dev count) cause all b b' was now size is = absurd cause.1
  by (Io dev count) cause all b b' was now size is = λ backing rest.
      let inside = cluster_piece.inside in disk_written b b' backing base [] is (omega arith)
  by (NoSpace dev) cause all b b' was now size is = λ backing rest.
      let inside = cluster_piece.inside in disk_written b b' backing base [] is (omega arith)

  pub cluster_wrote : WritesPart fits (λ _. None) change rows left old new part bytes outcome
  cluster_wrote =
      called_part rows left old new part bytes all_bytes outcome fits (λ _. None) change (λ image. cluster_start image part.span) slot has below call is_left
      (cause_of (fits call.image call.call.before.capacity) (length (all_bytes call.image)) (length bytes) call.call.before call.call.after call.image call.now outcome call.call.call.cause)
      (λ all b b' was now.
      let size = size_in rows old part call.image cluster_piece call.call.before b call.call.held was in
      let disk : IsDiskWith b b' base (taken_by outcome (all_bytes call.image))
      = subst (λ (at : ℕ). IsDiskWith b b' at (taken_by outcome (all_bytes call.image))) here (call.call.call.wrote.disk b b' was now) in
      by outcome call.call.call.cause all b b' was now size disk)

-- the same call by other words for the change
calls_as : (file : ℕ) (fits : Known → ℕ → Type 0) (own : Known → Option ℕ) (change to : ImageChange) (old new : Option Row) (before after : List DeviceSeen) (place : Known → ℕ)
    (bytes : Known → List ℕ) (outcome : Outcome) (call : CallsRow file fits own change old new before after place bytes outcome)
    → to call.image call.now call.call.before call.call.after outcome → CallsRow file fits own to old new before after place bytes outcome
calls_as file fits own change to old new before after place bytes outcome call changed = record {
  row = call.row;
  image = call.image;
  now = call.now;
  there = call.there;
  driver = call.driver;
  left = call.left;
  opened = call.opened;
  call = record {
    before = call.call.before;
    after = call.call.after;
    held = call.call.held;
    left = call.call.left;
    call = record { wrote = call.call.call.wrote; cause = call.call.call.cause; changed = changed };
    only = call.call.only;
    full = call.call.full;
  };
}

-- the same call, where the image tells the number of its cluster
numbered : (file : ℕ) (fits : ℕ → Known → ℕ → Type 0) (change : ℕ → ImageChange) (old new : Option Row) (before after : List DeviceSeen) (bytes : Known → List ℕ) (outcome : Outcome)
    (n : ℕ) (number : Known → ℕ) (call : CallsRow file (fits n) (λ _. None) (change n) old new before after (λ image. n * cluster_size_in image) bytes outcome) → n ≡ number call.image
    → CallsRow file (λ image. fits (number image) image) (λ _. None) (λ image. change (number image) image) old new before after (λ image. number image * cluster_size_in image) bytes outcome
numbered file fits change old new before after bytes outcome n number call is = record {
  row = call.row;
  image = call.image;
  now = call.now;
  there = call.there;
  driver = call.driver;
  left = call.left;
  opened = call.opened;
  call = record {
    before = call.call.before;
    after = call.call.after;
    held = call.call.held;
    left = call.call.left;
    call = record {
      wrote = subst (λ (k : ℕ). IsImageWrite call.call.before call.call.after call.image call.now (k * cluster_size_in call.image) (taken_by outcome (bytes call.image))) is call.call.call.wrote;
      cause = subst (λ (k : ℕ). HasImageCause (fits k call.image call.call.before.capacity) None (length (bytes call.image)) call.call.before call.call.after call.image call.now outcome) is
          call.call.call.cause;
      changed = subst (λ (k : ℕ). change k call.image call.now call.call.before call.call.after outcome) is call.call.call.changed;
    };
    only = call.call.only;
    full = call.call.full;
  };
}

-- a cluster that was put together is put around the bytes of a part
around : (IsDisk : List ℕ → Type 0) (part : Extent) (bytes cluster : List ℕ) (image now : Known) (before after : DeviceSeen) (outcome : Outcome)
    → IsClusterAround IsDisk image part bytes cluster
    → (number : ℕ) → number ≡ cluster_of image part → PutsCluster number cluster image now before after outcome → ChangesAround IsDisk part bytes image now before after outcome
around IsDisk part bytes cluster image now before after outcome has number is puts =
    by outcome (subst (λ (n : ℕ). PutsCluster n cluster image now before after outcome) is puts)
  where
    by : (o : Outcome) → PutsCluster (cluster_of image part) cluster image now before after o → ChangesAround IsDisk part bytes image now before after o
    by Good puts = (record { cluster = cluster; around = has; puts = puts.0 }, puts.1)
    by (Torn done dev count) puts = puts
    by (Io dev count) puts = inl record { cluster = cluster; around = has; puts = puts }
    by (NoSpace dev) puts = puts

-- a put, of a cluster that was put together
pub put_wrote : (rows left : List (Option Row)) (old new : List DeviceSeen) (part : Part) (bytes cluster : List ℕ) (outcome : Outcome) (slot : Option Row) → HasPiece rows old part
    → part.node < length rows
    → CallsRow part.file (λ image. PutFits image (cluster_of image part.span)) (λ _. None) (λ image. PutsCluster (cluster_of image part.span) cluster image) (row_in rows part.node) slot old new
    (λ image. cluster_start image part.span) (λ _. cluster) outcome
    → left ≡ set rows part.node slot → length bytes ≡ part.span.len → IsLaid 65536 part.whole.len (part.span.start % 65536) bytes cluster
    → (AreTold old → HasFound part.whole.len (part.span.start % 65536) bytes (found_bytes old part.source part.whole.start part.whole.len) cluster)
    → WritesPart (λ image. PutFits image (cluster_of image part.span)) (λ _. None) (ChangesAround (IsDiskFound old part) part.span bytes) rows left old new part bytes outcome
unfolding calls_as
put_wrote rows left old new part bytes cluster outcome slot has below put is_left len holds rest_is =
    let fits : Known → ℕ → Type 0 = λ image. PutFits image (cluster_of image part.span) in
    let place : Known → ℕ = λ image. cluster_start image part.span in
    let all_bytes : Known → List ℕ = λ _. cluster in
    let puts : ImageChange = λ image. PutsCluster (cluster_of image part.span) cluster image in
    let is : IsPieceOf rows old part put.image
    = piece rows left old new part bytes all_bytes outcome fits (λ _. None) puts place slot has below put is_left in
    let change : ImageChange = ChangesAround (IsDiskFound old part) part.span bytes in
    let call : CallsRow part.file fits (λ _. None) change (row_in rows part.node) slot old new place all_bytes outcome
    = calls_as part.file fits (λ _. None) puts change (row_in rows part.node) slot old new place all_bytes outcome put
    (around (IsDiskFound old part) part.span bytes cluster put.image put.now put.call.before put.call.after outcome
    (around_is rows old part put.image is bytes cluster len holds rest_is)
    (cluster_of put.image part.span) refl put.call.call.changed) in
    let good : AreTold old → (b b' : List ℕ) → call.call.before.content ≡ Some b → call.call.after.content ≡ Some b' → (header_of b).size ≡ call.image.header.size
    → IsDiskWith b b' (part.span.start - part.span.start % 65536) cluster → IsDiskAfter old part bytes b b'
    = λ all b b' was now size disk backing rest.
    let start = start_is rows old part call.image is in
    let count = len_is rows old part call.image is in
    let inside = is.inside in
    let block = in_block rows old part call.image is in
    let found : List ℕ = found_bytes old part.source part.whole.start part.whole.len in
    let at_base : found ≡ bytes_at (image_disk b backing) (part.span.start - part.span.start % 65536) part.whole.len
    = rest ∙ ap (λ (k : ℕ). bytes_at (image_disk b backing) k part.whole.len) start in
    disk_put b b' backing part.span.start part.whole.len bytes cluster found disk holds (rest_is all) at_base
    (count ∙ ap (λ (s : ℕ). min 65536 (s - (part.span.start - part.span.start % 65536))) (sym size)) (omega arith) (omega arith) in
    cluster_wrote rows left old new part outcome fits change slot has below all_bytes bytes call is_left good

-- a whole cluster that is made to read as zeros
pub clear_wrote : (rows left : List (Option Row)) (old new : List DeviceSeen) (part : Part) (outcome : Outcome) (slot : Option Row) → HasPiece rows old part
    → part.node < length rows
    → CallsRow part.file (λ image. ZeroFits image (cluster_of image part.span)) (λ _. None) (λ image. ClearsCluster (cluster_of image part.span) image) (row_in rows part.node) slot old new
    (λ image. cluster_start image part.span) (λ image. replicate (cluster_size_in image) 0) outcome
    → left ≡ set rows part.node slot → part.span.len ≡ part.whole.len
    → WritesPart (λ image. ZeroFits image (cluster_of image part.span)) (λ _. None) (λ image. ClearsCluster (cluster_of image part.span) image) rows left old new part (replicate part.span.len 0) outcome
clear_wrote rows left old new part outcome slot has below call is_left all_of =
    let fits : Known → ℕ → Type 0 = λ image. ZeroFits image (cluster_of image part.span) in
    let zeros : List ℕ = replicate part.span.len 0 in
    let all_zeros : Known → List ℕ = λ image. replicate (cluster_size_in image) 0 in
    let clears : ImageChange = λ image. ClearsCluster (cluster_of image part.span) image in
    let is : IsPieceOf rows old part call.image
    = piece rows left old new part zeros all_zeros outcome fits (λ _. None) clears (λ image. cluster_start image part.span) slot has below call is_left in
    let good : AreTold old → (b b' : List ℕ) → call.call.before.content ≡ Some b → call.call.after.content ≡ Some b' → (header_of b).size ≡ call.image.header.size
    → IsDiskWith b b' (part.span.start - part.span.start % 65536) (replicate (cluster_size_in call.image) 0) → IsDiskAfter old part zeros b b'
    = λ all b b' was now size disk backing rest.
    let count = len_is rows old part call.image is in
    let inside = is.inside in
    let first = begins rows old part call.image is all_of in
    let cleared : IsDiskWith b b' (part.span.start - part.span.start % 65536) (replicate 65536 0)
    = subst (λ (c : ℕ). IsDiskWith b b' (part.span.start - part.span.start % 65536) (replicate c 0)) (size_bits rows old part call.image is) disk in
    disk_zeroed b b' backing part.span.start part.span.len cleared first (omega arith) (omega arith) in
    cluster_wrote rows left old new part outcome fits clears slot has below all_zeros zeros call is_left good

-- a part of a cluster that reads as zeros already
pub left_wrote : (rows : List (Option Row)) (old : List DeviceSeen) (part : Part) (fits : Known → ℕ → Type 0) (own : Known → Option ℕ) (change : ImageChange)
    (row : Row) (image : Known) (host : ℕ) (device : DeviceSeen)
    → row_in rows part.node ≡ Some row → row.driver ≡ Qcow2 image → IsPieceOf rows old part image → part.node < length rows
    → entry_in image (part.span.start / 65536) ≡ entries.Zero host → device_in old part.file ≡ Some device → fits image device.capacity
    → change image image device device Good → WritesPart fits own change rows rows old old part (replicate part.span.len 0) Good
left_wrote rows old part fits own change row image host device there driver is below entry held fit left = record {
  row = row;
  image = image;
  there = there;
  driver = driver;
  wrote = inr (inr record {
    now = image;
    opened = is.opened;
    header = refl;
    taken = λ n taken. taken;
    mapped = λ cluster mapped. mapped;
    row_now = sym (ap (set rows part.node) (ap (λ (r : Row). Some r) (same_row row image driver)) ∙ set_same rows part.node (Some row) below there);
    before = device;
    after = device;
    held = held;
    held_now = held;
    only = record { nodes = refl; others = λ other apart. refl };
    cause = (fit, refl);
    full = λ dev none. absurd (cc none);
    changed = left;
    device = device_risen device device (HasRisen-refl device);
    known = λ b content. is.known device b held content;
    disk = λ all b b' was now backing rest.
        let same : b' ≡ b = cc (sym now ∙ was) in
        let known = is.known device b held was in
        let size = ap (λ (h : Header). h.size) known.header in
        let bits : (header_of b).cluster_bits ≡ 16 = ap (λ (h : Header). h.cluster_bits) known.header ∙ is.opened.cluster_bits in
        let inside = is.inside in
        let block = in_block rows old part image is in
        let some = is.some in
        let zero_at : (i : ℕ) → i < part.span.len → guest_byte b backing (part.span.start + i) ≡ 0
        = λ i few.
        let cluster : (part.span.start + i) / 65536 ≡ part.span.start / 65536 = omega arith in
        let in_file : file_entry b ((part.span.start + i) / 65536) ≡ entries.Zero host
        = ap (file_entry b) cluster ∙ entry_of_file b image (part.span.start / 65536) known (has_entry image (part.span.start / 65536) is.opened (omega arith)) ∙ entry in
        guest_zero b backing (part.span.start + i) host bits in_file in
        ap (λ (f : List ℕ). image_disk f backing) same ∙ disk_left b backing part.span.start part.span.len zero_at (omega arith);
  });
}

-- The same by other words for the room and the place.
module _ (rows left : List (Option Row)) (old new : List DeviceSeen) (part : Part) (bytes : List ℕ) (outcome : Outcome) (fits to : Known → ℕ → Type 0) (own place : Known → Option ℕ)
    (change shows : ImageChange) (w : WritesPart fits own change rows left old new part bytes outcome) (there : (capacity : ℕ) → fits w.image capacity → to w.image capacity)
    (back : (capacity : ℕ) → to w.image capacity → fits w.image capacity) (same : own w.image ≡ place w.image)
    (shown : (now : Known) (before after : DeviceSeen) (o : Outcome) → change w.image now before after o → shows w.image now before after o) where
  cause_as : (capacity n : ℕ) (before after : DeviceSeen) (now : Known) (o : Outcome) → HasImageCause (fits w.image capacity) (own w.image) n before after w.image now o
      → HasImageCause (to w.image capacity) (place w.image) n before after w.image now o
  cause_as capacity n before after now Good is = (there capacity is.0, is.1)
  cause_as capacity n before after now (Torn done dev count) is = (there capacity is.0, subst (λ (p : Option ℕ). IsTornAt p n done) same is.1, is.2)
  cause_as capacity n before after now (Io dev count) is = (there capacity is.0, is.1)
  cause_as capacity n before after now (NoSpace dev) is = ((λ fit. is.0 (back capacity fit)), is.1, is.2, is.3)

  pub wrote_as : WritesPart to place shows rows left old new part bytes outcome
  wrote_as = record {
    row = w.row;
    image = w.image;
    there = w.there;
    driver = w.driver;
    wrote = elim w.wrote [
      | inl r ↦ inl record {
        dev = r.dev;
        is = r.is;
        device = r.device;
        held = r.held;
        full = λ fit. r.full (back r.device.capacity fit);
        named = r.named;
        rows_same = r.rows_same;
        devices_same = r.devices_same;
      }
      | inr called ↦ elim called [
        | inl s ↦ inr (inl record {
          dev = s.dev;
          count = s.count;
          is = s.is;
          device = s.device;
          held = s.held;
          nowhere = sym same ∙ s.nowhere;
          less = s.less;
          fit = there s.device.capacity s.fit;
          read = s.read;
          risen = s.risen;
          rows_same = s.rows_same;
          changed = shown w.image s.device s.device outcome s.changed;
        })
        | inr c ↦ inr (inr record {
          now = c.now;
          opened = c.opened;
          header = c.header;
          taken = c.taken;
          mapped = c.mapped;
          row_now = c.row_now;
          before = c.before;
          after = c.after;
          held = c.held;
          held_now = c.held_now;
          only = c.only;
          cause = cause_as c.before.capacity (length bytes) c.before c.after c.now outcome c.cause;
          full = c.full;
          changed = shown c.now c.before c.after outcome c.changed;
          device = c.device;
          known = c.known;
          disk = c.disk;
        })
      ]
    ];
  }

-- Over a row that was read at a place.
module _ (rows : List (Option Row)) (old : List DeviceSeen) (part : Part) (has : HasPiece rows old part) (index : ℕ) (found : Option Row) (same : index ≡ part.node)
    (below : index < length rows) (is : found ≡ get_or rows index found) where
  there : row_in rows part.node ≡ found
  there = row_found rows index part.node found same below is

  below_node : part.node < length rows
  below_node = omega (arith, same, below)

  of_found : (P : Known → Type 0) → ((row : Row) (image : Known) → IsPieceOf rows old part image → P image) → OfImage found P
  of_found P holds =
      let image = has_image (row_in rows part.node) (IsPieceOf rows old part) has in
      of_image found image.0 image.1 P (sym there ∙ image.2) image.3 (holds image.0 image.1 image.4)

  cluster_below : (image : Known) → IsPieceOf rows old part image → part.span.start / 65536 < clusters_in image
  cluster_below image piece =
      let bits = piece.opened.cluster_bits in
      let some = piece.some in
      let inside = piece.inside in
      rw bits (omega arith)

  set_at : (slot : Option Row) → set rows index slot ≡ set rows part.node slot
  set_at slot = ap (λ (k : ℕ). set rows k slot) same

  pub own_at : (new : List DeviceSeen) (bytes : List ℕ) (outcome : Outcome) (slot : Option Row)
      → CallsRow part.file (λ image capacity. own_end image part.span ≤ capacity) (λ image. Some (own_place image part.span)) (ChangesInPlace part.span bytes) found slot old new (λ _. part.span.start) (λ _. bytes) outcome
      → length bytes ≡ part.span.len
      → WritesPart (λ image capacity. own_end image part.span ≤ capacity) (λ image. Some (own_place image part.span)) (ChangesInPlace part.span bytes) rows (set rows index slot) old new part bytes outcome
  own_at new bytes outcome slot call len =
      let P : Option Row → Type 0 = λ f. CallsRow part.file (λ image capacity. own_end image part.span ≤ capacity) (λ image. Some (own_place image part.span)) (ChangesInPlace part.span bytes) f slot old new
      (λ _. part.span.start) (λ _. bytes) outcome in
      own_wrote rows (set rows index slot) old new part bytes outcome slot has below_node (subst P (sym there) call) (set_at slot) len

  pub own_asks : OfImage (row_in rows part.node) (λ image. IsHost (entry_for image part.span))
      → OfImage found (λ image. IsWithinCluster (cluster_size_in image) part.span × (cluster_of image part.span < clusters_in image) × (part.span.start < image.header.size)
      × IsHost (entry_for image part.span) × IsKnownAt part.file old image)
  own_asks mapped =
      let P : Known → Type 0 = λ image. IsWithinCluster (cluster_size_in image) part.span × (cluster_of image part.span < clusters_in image) × (part.span.start < image.header.size)
      × IsHost (entry_for image part.span) × IsKnownAt part.file old image in
      let image = has_image (row_in rows part.node) (IsPieceOf rows old part) has in
      let piece : IsPieceOf rows old part image.1 = image.4 in
      let some = piece.some in
      let inside = piece.inside in
      let below : cluster_of image.1 part.span < clusters_in image.1
      = subst (λ (k : ℕ). k < clusters_in image.1) (sym (cluster_is rows old part image.1 piece)) (cluster_below image.1 piece) in
      let host = image_found (row_in rows part.node) image.0 image.1 (λ image. IsHost (entry_for image part.span)) image.2 image.3 mapped in
      of_image found image.0 image.1 P (sym there ∙ image.2) image.3 (piece.cluster, below, omega arith, host, piece.known)

  pub clear_asks : OfImage found (λ image. (part.span.start / 65536 < clusters_in image) × IsKnownAt part.file old image)
  clear_asks = of_found (λ image. (part.span.start / 65536 < clusters_in image) × IsKnownAt part.file old image) (λ row image piece. (cluster_below image piece, piece.known))

  pub clear_at : (new : List DeviceSeen) (outcome : Outcome) (slot : Option Row)
      → CallsRow part.file (λ image. ZeroFits image (part.span.start / 65536)) (λ _. None) (ClearsCluster (part.span.start / 65536)) found slot old new
      (λ image. part.span.start / 65536 * cluster_size_in image) (λ image. replicate (cluster_size_in image) 0) outcome
      → part.span.len ≡ part.whole.len
      → WritesPart (λ image. ZeroFits image (cluster_of image part.span)) (λ _. None) (λ image. ClearsCluster (cluster_of image part.span) image) rows (set rows index slot) old new part (replicate part.span.len 0) outcome
  clear_at new outcome slot call all =
      let number : ℕ = part.span.start / 65536 in
      let zeros : Known → List ℕ = λ image. replicate (cluster_size_in image) 0 in
      let P : Option Row → Type 0 = λ f. CallsRow part.file (λ image. ZeroFits image number) (λ _. None) (ClearsCluster number) f slot old new
      (λ image. number * cluster_size_in image) zeros outcome in
      let at_node : P (row_in rows part.node) = subst P (sym there) call in
      let is = image_found (row_in rows part.node) at_node.row at_node.image (IsPieceOf rows old part) at_node.there at_node.driver has in
      clear_wrote rows (set rows index slot) old new part outcome slot has below_node
      (numbered part.file (λ k image. ZeroFits image k) ClearsCluster (row_in rows part.node) slot old new zeros outcome number (λ image. cluster_of image part.span) at_node
      (sym (cluster_is rows old part at_node.image is)))
      (set_at slot) all

-- A good outcome, and what was read by it.
pub good_is : (o : Outcome) → is_good o ≡ true → o ≡ Good
good_is Good is = refl
good_is (Torn done dev count) is = absurd (cc is)
good_is (Io dev count) is = absurd (cc is)
good_is (NoSpace dev) is = absurd (cc is)

pub source_good : (rows : List (Option Row)) (source : Source) (span : Extent) (old new : List DeviceSeen) (o : Outcome) → o ≡ Good → IsReadOfSource rows source span old new o → new ≡ old
source_good rows sources.Zeros span old new o good read = read.1
source_good rows (sources.File file start) span old new o good read = subst (IsReadAt file (Read start span.len) old new) good read
source_good rows (sources.Image node file) span old new o good read =
    subst (IsReadAt file (Read (own_place read.image span) span.len) old new) good read.read

good_read : (rows : List (Option Row)) (part : Part) (old new : List DeviceSeen) (o : Outcome) → o ≡ Good → ReadsRest rows part old new o → new ≡ old
good_read rows part old new o good (inl read) = source_good rows part.source part.whole old new o good read.1
good_read rows part old new o good (inr both) = both.1

fits_by : (file : ℕ) (devices : List DeviceSeen) (fits : ℕ → Type 0) (room : Outcome) → room ≡ Good → HasRoomAt file devices fits room → FitsAt file devices fits
fits_by file devices fits room good has device held = subst (HasRoomBy (fits device.capacity) device) good (has device held)

pub put_asks : (rows : List (Option Row)) (old mid : List DeviceSeen) (part : Part) (cluster : List ℕ) (room read : Outcome) → HasPiece rows old part → (index : ℕ) (first found : Option Row)
    → index ≡ part.node → index < length rows → first ≡ get_or rows index first → found ≡ get_or rows index found
    → OfImage first (λ image. HasRoomAt part.file old (PutFits image (part.span.start / 65536)) room) → is_good room ≡ true → is_good read ≡ true
    → ReadsRest rows part old mid read
    → length cluster ≡ 65536
    → OfImage found (λ image. (length cluster ≡ cluster_size_in image) × (part.span.start / 65536 < clusters_in image) × IsKnownAt part.file mid image
    × FitsAt part.file mid (PutFits image (part.span.start / 65536)))
put_asks rows old mid part cluster room read has index first found same below is_first is fits room_good read_good outcome whole =
    let stays : mid ≡ old = good_read rows part old mid read (good_is read read_good) outcome in
    let Q : Known → Type 0 = λ image. (length cluster ≡ cluster_size_in image) × (part.span.start / 65536 < clusters_in image) × IsKnownAt part.file old image × FitsAt part.file old (PutFits image (part.span.start / 65536)) in
    let R : List DeviceSeen → Type 0
    = λ devices. OfImage found (λ image. (length cluster ≡ cluster_size_in image) × (part.span.start / 65536 < clusters_in image) × IsKnownAt part.file devices image
    × FitsAt part.file devices (PutFits image (part.span.start / 65536))) in
    let row = has_image (row_in rows part.node) (IsPieceOf rows old part) has in
    let here : row_in rows part.node ≡ first = row_found rows index part.node first same below is_first in
    let room_of : HasRoomAt part.file old (PutFits row.1 (part.span.start / 65536)) room
    = image_found first row.0 row.1 (λ image. HasRoomAt part.file old (PutFits image (part.span.start / 65536)) room) (sym here ∙ row.2) row.3 fits in
    let there_now : row_in rows part.node ≡ found = row_found rows index part.node found same below is in
    subst R (sym stays)
    (of_image found row.0 row.1 Q (sym there_now ∙ row.2) row.3 (
      whole ∙ sym (size_bits rows old part row.1 row.4),
      cluster_below rows old part has index found same below is row.1 row.4,
      row.4.known,
      fits_by part.file old (PutFits row.1 (part.span.start / 65536)) room (good_is room room_good) room_of,
    ))

-- where the read of the rest of the cluster was stopped
no_torn : (rows : List (Option Row)) (source : Source) (span : Extent) (old new : List DeviceSeen) (done : ℕ) (dev : DevNo) (count : ℕ)
    → IsReadOfSource rows source span old new (Torn done dev count) → ⊥
no_torn rows sources.Zeros span old new done dev count is = cc is.0
no_torn rows (sources.File file start) span old new done dev count is = is
no_torn rows (sources.Image node file) span old new done dev count is = is.read

no_space : (rows : List (Option Row)) (source : Source) (span : Extent) (old new : List DeviceSeen) (dev : DevNo) → IsReadOfSource rows source span old new (NoSpace dev) → ⊥
no_space rows sources.Zeros span old new dev is = cc is.0
no_space rows (sources.File file start) span old new dev is = is
no_space rows (sources.Image node file) span old new dev is = is.read

pub read_stopped : (rows : List (Option Row)) (old mid : List DeviceSeen) (part : Part) (bytes : List ℕ) (room read : Outcome) → HasPiece rows old part → (index : ℕ) (first : Option Row)
    → index ≡ part.node → index < length rows → first ≡ get_or rows index first
    → OfImage first (λ image. HasRoomAt part.file old (PutFits image (part.span.start / 65536)) room) → is_good room ≡ true → is_good read ≡ false
    → ReadsRest rows part old mid read → HaveRisen old mid
    → WritesPart (λ image. PutFits image (cluster_of image part.span)) (λ _. None) (ChangesAround (IsDiskFound old part) part.span bytes) rows rows old mid part bytes read
read_stopped rows old mid part bytes room read has index first same below is_first fits room_good read_bad outcome risen = by read refl read_bad outcome
  where
    row : (row : Row) × (image : Known) × (row_in rows part.node ≡ Some row) × (row.driver ≡ Qcow2 image) × IsPieceOf rows old part image
    row = has_image (row_in rows part.node) (IsPieceOf rows old part) has

    here : row_in rows part.node ≡ first
    here = row_found rows index part.node first same below is_first

    room_of : HasRoomAt part.file old (PutFits row.1 (part.span.start / 65536)) room
    room_of = image_found first row.0 row.1 (λ image. HasRoomAt part.file old (PutFits image (part.span.start / 65536)) room) (sym here ∙ row.2) row.3 fits

    device : (device : DeviceSeen) × (device_in old part.file ≡ Some device)
    device = some_device (device_in old part.file) row.4.held

    by : (o : Outcome) → read ≡ o → is_good o ≡ false → ReadsRest rows part old mid o
        → WritesPart (λ image. PutFits image (cluster_of image part.span)) (λ _. None) (ChangesAround (IsDiskFound old part) part.span bytes) rows rows old mid part bytes read
    by Good is bad outcome = absurd (cc bad)
    by (Torn done dev count) is bad (inl at) = absurd (no_torn rows part.source part.whole old mid done dev count at.1)
    by (Torn done dev count) is bad (inr good) = absurd (cc good.0)
    by (NoSpace dev) is bad (inl at) = absurd (no_space rows part.source part.whole old mid dev at.1)
    by (NoSpace dev) is bad (inr good) = absurd (cc good.0)
    by (Io dev count) is bad (inr good) = absurd (cc good.0)
    by (Io dev count) is bad (inl at) = record {
      row = row.0;
      image = row.1;
      there = row.2;
      driver = row.3;
      wrote = inr (inl record {
        dev = dev;
        count = count;
        is = is;
        device = device.0;
        held = device.1;
        fit = subst (λ (k : ℕ). PutFits row.1 k device.0.capacity) (sym (cluster_is rows old part row.1 row.4))
            (fits_by part.file old (PutFits row.1 (part.span.start / 65536)) room (good_is room room_good) room_of device.0 device.1);
        nowhere = refl;
        less = at.0;
        read = subst (IsReadOfSource rows part.source part.whole old mid) (sym is) at.1;
        risen = risen;
        rows_same = refl;
        changed = subst (λ (o : Outcome). ChangesAround (IsDiskFound old part) part.span bytes row.1 row.1 device.0 device.0 o) (sym is) (inr (refl, refl));
      });
    }

pub put_at : (rows : List (Option Row)) (old mid new : List DeviceSeen) (part : Part) (bytes cluster gathered_in : List ℕ) (read outcome : Outcome) (slot : Option Row) → HasPiece rows old part
    → (index : ℕ) (found : Option Row) → index ≡ part.node → index < length rows → found ≡ get_or rows index found
    → CallsRow part.file (λ image. PutFits image (part.span.start / 65536)) (λ _. None) (PutsCluster (part.span.start / 65536) cluster) found slot mid new
    (λ image. part.span.start / 65536 * cluster_size_in image) (λ _. cluster) outcome
    → length bytes ≡ part.span.len → cluster ≡ gathered_in → is_good read ≡ true → ReadsRest rows part old mid read
    → (AreTold old → read ≡ Good → HasFound part.whole.len (part.span.start % 65536) bytes (found_bytes old part.source part.whole.start part.whole.len) gathered_in)
    → (read ≡ Good → IsLaid 65536 part.whole.len (part.span.start % 65536) bytes gathered_in)
    → WritesPart (λ image. PutFits image (cluster_of image part.span)) (λ _. None) (ChangesAround (IsDiskFound old part) part.span bytes) rows (set rows index slot) old new part bytes outcome
put_at rows old mid new part bytes cluster gathered_in read outcome slot has index found same below is call len is_cluster read_good read_is gathered holds =
    let good : read ≡ Good = good_is read read_good in
    let stays : mid ≡ old = good_read rows part old mid read good read_is in
    let found_is : row_in rows part.node ≡ found = row_found rows index part.node found same below is in
    let number : ℕ = part.span.start / 65536 in
    let P : Option Row → Type 0 = λ f. CallsRow part.file (λ image. PutFits image number) (λ _. None) (PutsCluster number cluster) f slot mid new
    (λ image. number * cluster_size_in image) (λ _. cluster) outcome in
    let Q : List DeviceSeen → Type 0 = λ devices. CallsRow part.file (λ image. PutFits image number) (λ _. None) (PutsCluster number cluster) (row_in rows part.node) slot devices new
    (λ image. number * cluster_size_in image) (λ _. cluster) outcome in
    let there_call : Q old = subst Q stays (subst P (sym found_is) call) in
    let is = image_found (row_in rows part.node) there_call.row there_call.image (IsPieceOf rows old part) there_call.there there_call.driver has in
    put_wrote rows (set rows index slot) old new part bytes cluster outcome slot has (omega (arith, same, below))
    (numbered part.file (λ k image. PutFits image k) (λ k. PutsCluster k cluster) (row_in rows part.node) slot old new (λ _. cluster) outcome number (λ image. cluster_of image part.span) there_call
    (sym (cluster_is rows old part there_call.image is)))
    (ap (λ (k : ℕ). set rows k slot) same) len (subst (IsLaid 65536 part.whole.len (part.span.start % 65536) bytes) (sym is_cluster) (holds good))
    (λ all. subst (HasFound part.whole.len (part.span.start % 65536) bytes (found_bytes old part.source part.whole.start part.whole.len)) (sym is_cluster) (gathered all good))
