-- The room of a piece of an image, by the entry of its cluster.
use Rattle.std.proofs.Common.{◌≡◌, ◌≢◌, ℕ, ◌+◌, ◌-◌, ◌/◌, ◌%◌, ◌<◌, ◌≤◌, ◌==◌, min, Bool, true, false, List, length, get_or, replicate, Option, Some, None, refl, sym, ◌∙◌, ap, subst, arith, inl, inr}
use Rattle.std.specs.Prelude.{◌&&◌, ◌||◌}
use Rattle.std.proofs.lemmas.Bool.{cases_eq, eq-eqb, ne_eqb}
use Rattle.blk_base.specs.Pieces.{Extent, end_of}
use Rattle.blk_base.specs.declared.fault.Outcome.{Outcome}
use Rattle.blk_base.specs.declared.fault.Outcome.TheVariants.{Good}
use Rattle.q2_tables.specs.Entries.{entry_of}
use Rattle.q2_tables.specs.declared.mapping.Mapping.{Mapping}
use Rattle.q2_tables.specs.declared.mapping.Mapping.TheVariants as mappings
use Rattle.q2_format.specs.declared.entries.L2Entry.{L2Entry}
use Rattle.q2_format.specs.declared.entries.L2Entry.TheVariants as entries
use Rattle.q2_image.specs.Image.{Known, cluster_size_in, entry_in}
use Rattle.q2_image.specs.Reading.{IsHost}
use Rattle.q2_image.specs.Room.{WriteFits, ZerosFit, PartZerosFit, WriteFitsBy, ZerosFitBy, cluster_of, entry_for, is_whole}
use Rattle.q2_image.specs.Writing.{PutFits, ZeroFits, own_end, own_place}
use Rattle.blk_nodes.specs.Changing.{ImageChange, ChangesAround, ChangesInPlace, ChangesPart, ClearsCluster, IsImageWritten, IsZeroed, ZeroesBy, ZeroesPart}
use Rattle.blk_nodes.specs.Nodes.{DeviceSeen, device_in}
use Rattle.blk_nodes.specs.Parts.{OfImage, HasPiece, IsPieceOf, IsDiskFound, WritesPart, row_in}
use Rattle.blk_nodes.specs.Writing.{own_place_by, rest_span, zeros_place}
use Rattle.blk_nodes.specs.declared.part.Part.{Part}
use Rattle.blk_nodes.specs.declared.row.Row.{Row}
use Rattle.blk_nodes.proofs.PartsWritten.{cluster_is, entry_is, in_block, size_bits, start_is, len_is, left_wrote, wrote_as}
use Rattle.blk_nodes.proofs.HeldDevices.{some_device}
use Rattle.blk_nodes.proofs.Rows.{has_image, image_found, of_image, row_below, row_found}

-- a cluster that isn't mapped
put_to : (image : Known) (span : Extent) (capacity : ℕ) (e : L2Entry) → (IsHost e → ⊥) → PutFits image (cluster_of image span) capacity → WriteFitsBy e image span capacity
put_to image span capacity entries.Unallocated none fits = fits
put_to image span capacity (entries.Zero host) none fits = fits
put_to image span capacity (entries.Host host) none fits = absurd (none tt)
put_to image span capacity entries.Compressed none fits = fits
put_to image span capacity entries.Reserved none fits = fits

put_back : (image : Known) (span : Extent) (capacity : ℕ) (e : L2Entry) → (IsHost e → ⊥) → WriteFitsBy e image span capacity → PutFits image (cluster_of image span) capacity
put_back image span capacity entries.Unallocated none fits = fits
put_back image span capacity (entries.Zero host) none fits = fits
put_back image span capacity (entries.Host host) none fits = absurd (none tt)
put_back image span capacity entries.Compressed none fits = fits
put_back image span capacity entries.Reserved none fits = fits

no_place : (image : Known) (span : Extent) (e : L2Entry) → (IsHost e → ⊥) → own_place_by e image span ≡ None
no_place image span entries.Unallocated none = refl
no_place image span (entries.Zero host) none = refl
no_place image span (entries.Host host) none = absurd (none tt)
no_place image span entries.Compressed none = refl
no_place image span entries.Reserved none = refl

no_host : (image : Known) (span : Extent) (e : L2Entry) → own_place_by e image span ≡ None → IsHost e → ⊥
no_host image span (entries.Host host) none is = absurd (cc none)
no_host image span entries.Unallocated none is = is
no_host image span (entries.Zero host) none is = is
no_host image span entries.Compressed none is = is
no_host image span entries.Reserved none is = is

around_part : (IsDisk : List ℕ → Type 0) (e : L2Entry) → (IsHost e → ⊥) → (span : Extent) (bytes : List ℕ) (image now : Known) (before after : DeviceSeen) (o : Outcome)
    → ChangesAround IsDisk span bytes image now before after o → ChangesPart IsDisk e span bytes image now before after o
around_part IsDisk entries.Unallocated none span bytes image now before after o is = is
around_part IsDisk (entries.Zero host) none span bytes image now before after o is = is
around_part IsDisk (entries.Host host) none span bytes image now before after o is = absurd (none tt)
around_part IsDisk entries.Compressed none span bytes image now before after o is = is
around_part IsDisk entries.Reserved none span bytes image now before after o is = is

-- a piece is a whole cluster, up to the disk's end, exactly where it is as long
module _ (span : Extent) (size : ℕ) (some : 0 < span.len) (block : span.start % 65536 + span.len ≤ 65536) (inside : end_of span ≤ size) where
  abbrev whole_test : Bool
  whole_test = span.start % 65536 == 0 && (span.len == 65536 || end_of span == size)

  whole_true : span.len ≡ min 65536 (size - (span.start - span.start % 65536)) → whole_test ≡ true
  whole_true all =
      let first = eq-eqb (span.start % 65536) 0 (omega arith) in
      elim (cases_eq span.len 65536) [
        | inl full ↦ let test = eq-eqb span.len 65536 full in rw (first, test) refl
        | inr less ↦
            let test = ne_eqb span.len 65536 less in
            let end = eq-eqb (end_of span) size (omega arith) in
            rw (first, test, end) refl
      ]

  whole_false : span.len ≢ min 65536 (size - (span.start - span.start % 65536)) → whole_test ≡ false
  whole_false less = elim (cases_eq (span.start % 65536) 0) [
    | inl at ↦
        let first = eq-eqb (span.start % 65536) 0 at in
        let full = ne_eqb span.len 65536 (λ is. less (omega arith)) in
        let end = ne_eqb (end_of span) size (λ is. less (omega arith)) in
        rw (first, full, end) refl
    | inr in_it ↦ let first = ne_eqb (span.start % 65536) 0 in_it in rw first refl
  ]

-- Of a piece that isn't all that the disk has of its cluster.
module _ (rows : List (Option Row)) (devices : List DeviceSeen) (part : Part) (image : Known) (piece : IsPieceOf rows devices part image) (less : part.span.len < part.whole.len) where
  no_whole : is_whole image part.span ≡ false
  no_whole =
      let bits = size_bits rows devices part image piece in
      let len = len_is rows devices part image piece in
      rw bits (whole_false part.span image.header.size piece.some (in_block rows devices part image piece) piece.inside (λ same. absurd (omega (arith, less, len, same))))

  -- the rest of its cluster is read with all that the disk has of it
  pub rest_whole : (own : Option ℕ) → own ≡ None → rest_span own (is_whole image part.span) image part.span ≡ Some part.whole
  rest_whole own none =
      ap (λ (o : Option ℕ). rest_span o (is_whole image part.span) image part.span) none ∙ ap (λ (b : Bool). rest_span None b image part.span) no_whole
      ∙ ap (λ (span : Extent). Some span) (sym piece.whole)

  in_cluster : part.whole.start / cluster_size_in image ≡ cluster_of image part.span
  in_cluster =
      let start = start_is rows devices part image piece in
      let same : part.whole.start / 65536 ≡ part.span.start / 65536 = omega (arith, start) in
      ap (λ (c : ℕ). part.whole.start / c) (size_bits rows devices part image piece) ∙ same ∙ sym (cluster_is rows devices part image piece)

  -- and it is read only where the cluster isn't mapped
  pub bare_written : own_place_by (entry_for image part.span) image part.span ≡ None → IsHost (entry_in image (part.whole.start / cluster_size_in image)) → ⊥
  bare_written none host =
      no_host image part.span (entry_for image part.span) none (subst (λ (n : ℕ). IsHost (entry_in image n)) in_cluster host)

  pub bare_zeroed : zeros_place (is_whole image part.span) image part.span ≡ None → IsHost (entry_in image (part.whole.start / cluster_size_in image)) → ⊥
  bare_zeroed none = bare_written (sym (ap (λ (b : Bool). zeros_place b image part.span) no_whole) ∙ none)

module _ (rows left : List (Option Row)) (old new : List DeviceSeen) (part : Part) (bytes : List ℕ) (outcome : Outcome) (has : HasPiece rows old part) where
  -- what is known of the disk's bytes
  abbrev IsIts : List ℕ → Type 0
  IsIts = IsDiskFound old part

  abbrev cluster : ℕ
  cluster = part.span.start / 65536

  -- of one of these writes
  module _ (fits : Known → ℕ → Type 0) (own : Known → Option ℕ) (change : ImageChange) (w : WritesPart fits own change rows left old new part bytes outcome) where
    piece : IsPieceOf rows old part w.image
    piece = image_found (row_in rows part.node) w.row w.image (IsPieceOf rows old part) w.there w.driver has

    entry_at : (e : L2Entry) → OfImage (row_in rows part.node) (λ image. e ≡ entry_in image cluster) → e ≡ entry_in w.image cluster
    entry_at e is = image_found (row_in rows part.node) w.row w.image (λ image. e ≡ entry_in image cluster) w.there w.driver is

    entry_of_image : (e : L2Entry) → OfImage (row_in rows part.node) (λ image. e ≡ entry_in image cluster) → entry_for w.image part.span ≡ e
    entry_of_image e is =
        entry_is rows old part w.image piece ∙ sym (entry_at e is)

    is_whole_by : (b : Bool) → ((part.span.start % 65536 == 0 && (part.span.len == 65536 || end_of part.span == w.image.header.size)) ≡ b) → is_whole w.image part.span ≡ b
    is_whole_by b test = let bits = size_bits rows old part w.image piece in rw bits test

    whole_is : part.span.len ≡ part.whole.len → is_whole w.image part.span ≡ true
    whole_is all =
        let len = len_is rows old part w.image piece in
        is_whole_by true (whole_true part.span w.image.header.size piece.some (in_block rows old part w.image piece) piece.inside (all ∙ len))

    part_is : part.span.len ≢ part.whole.len → is_whole w.image part.span ≡ false
    part_is less =
        let len = len_is rows old part w.image piece in
        is_whole_by false (whole_false part.span w.image.header.size piece.some (in_block rows old part w.image piece) piece.inside (λ is. less (is ∙ sym len)))

  abbrev OwnFits : Known → ℕ → Type 0
  OwnFits image capacity = own_end image part.span ≤ capacity

  abbrev at_own : Known → Option ℕ
  at_own image = Some (own_place image part.span)

  abbrev in_place : ImageChange
  in_place = ChangesInPlace part.span bytes

  abbrev written : ImageChange
  written = IsImageWritten IsIts part.span bytes

  abbrev ClusterFits : Known → ℕ → Type 0
  ClusterFits image = PutFits image (cluster_of image part.span)

  abbrev nowhere : Known → Option ℕ
  nowhere image = None

  abbrev around : ImageChange
  around = ChangesAround IsIts part.span bytes

  pub write_own_as : (host : ℕ) → OfImage (row_in rows part.node) (λ image. entries.Host host ≡ entry_in image cluster)
      → WritesPart OwnFits at_own in_place rows left old new part bytes outcome
      → WritesPart (λ image. WriteFits image part.span) (λ image. own_place_by (entry_for image part.span) image part.span) written rows left old new part bytes outcome
  write_own_as host is w =
      let entry = entry_of_image OwnFits at_own in_place w (entries.Host host) is in
      wrote_as rows left old new part bytes outcome OwnFits (λ image. WriteFits image part.span) at_own (λ image. own_place_by (entry_for image part.span) image part.span) in_place written w
      (λ capacity fit. subst (λ (e : L2Entry). WriteFitsBy e w.image part.span capacity) (sym entry) fit)
      (λ capacity fit. subst (λ (e : L2Entry). WriteFitsBy e w.image part.span capacity) entry fit)
      (sym (ap (λ (e : L2Entry). own_place_by e w.image part.span) entry))
      (λ now before after o is. subst (λ (e : L2Entry). ChangesPart IsIts e part.span bytes w.image now before after o) (sym entry) is)

  pub write_put_as : (e : L2Entry) → (IsHost e → ⊥) → OfImage (row_in rows part.node) (λ image. e ≡ entry_in image cluster)
      → WritesPart ClusterFits nowhere around rows left old new part bytes outcome
      → WritesPart (λ image. WriteFits image part.span) (λ image. own_place_by (entry_for image part.span) image part.span) written rows left old new part bytes outcome
  write_put_as e none is w =
      let entry = entry_of_image ClusterFits nowhere around w e is in
      wrote_as rows left old new part bytes outcome ClusterFits (λ image. WriteFits image part.span) nowhere (λ image. own_place_by (entry_for image part.span) image part.span) around written w
      (λ capacity fit.
      subst (λ (e : L2Entry). WriteFitsBy e w.image part.span capacity) (sym entry)
      (put_to w.image part.span capacity e none fit))
      (λ capacity fit.
      put_back w.image part.span capacity e none (subst (λ (e : L2Entry). WriteFitsBy e w.image part.span capacity) entry fit))
      (sym (ap (λ (e : L2Entry). own_place_by e w.image part.span) entry ∙ no_place w.image part.span e none))
      (λ now before after o is.
      subst (λ (e : L2Entry). ChangesPart IsIts e part.span bytes w.image now before after o) (sym entry)
      (around_part IsIts e none part.span bytes w.image now before after o is))

  abbrev to_zeros : Known → ℕ → Type 0
  to_zeros image = ZerosFit image part.span

  abbrev zeros_at : Known → Option ℕ
  zeros_at image = zeros_place (is_whole image part.span) image part.span

  abbrev zeroed : ImageChange
  zeroed = IsZeroed IsIts part.span

  abbrev cleared : ImageChange
  cleared image = ClearsCluster (cluster_of image part.span) image

  pub zero_clear_as : part.span.len ≡ part.whole.len → WritesPart (λ image. ZeroFits image (cluster_of image part.span)) nowhere cleared rows left old new part bytes outcome
      → WritesPart to_zeros zeros_at zeroed rows left old new part bytes outcome
  zero_clear_as all w =
      let EntryFits : Known → ℕ → Type 0 = λ image. ZeroFits image (cluster_of image part.span) in
      let whole = whole_is EntryFits nowhere cleared w all in
      wrote_as rows left old new part bytes outcome EntryFits to_zeros nowhere zeros_at cleared zeroed w
      (λ capacity fit.
      subst (λ (b : Bool). ZerosFitBy b w.image part.span capacity) (sym whole) fit)
      (λ capacity fit.
      subst (λ (b : Bool). ZerosFitBy b w.image part.span capacity) whole fit)
      (sym (ap (λ (b : Bool). zeros_place b w.image part.span) whole))
      (λ now before after o is.
      subst (λ (b : Bool). ZeroesBy IsIts b part.span w.image now before after o) (sym whole) is)

  -- zeros of a part that are written as other bytes are
  module _ (less : part.span.len ≢ part.whole.len) (e : L2Entry) (plain : (image : Known) (capacity : ℕ) → WriteFitsBy e image part.span capacity → PartZerosFit e image part.span capacity)
      (back : (image : Known) (capacity : ℕ) → PartZerosFit e image part.span capacity → WriteFitsBy e image part.span capacity)
      (keeps : (image now : Known) (before after : DeviceSeen) (o : Outcome) → ChangesPart IsIts e part.span bytes image now before after o
      → ZeroesPart IsIts e part.span image now before after o) (is : OfImage (row_in rows part.node) (λ image. e ≡ entry_in image cluster))
      (w : WritesPart (λ image. WriteFits image part.span) (λ image. own_place_by (entry_for image part.span) image part.span) written rows left old new part bytes outcome) where
    abbrev ByWrite : Known → ℕ → Type 0
    ByWrite image = WriteFits image part.span

    abbrev by_entry : Known → Option ℕ
    by_entry image = own_place_by (entry_for image part.span) image part.span

    pub zero_part_as : WritesPart to_zeros zeros_at zeroed rows left old new part bytes outcome
    zero_part_as =
        let test = part_is ByWrite by_entry written w less in
        let entry = entry_of_image ByWrite by_entry written w e is in
        wrote_as rows left old new part bytes outcome ByWrite to_zeros by_entry zeros_at written zeroed w
        (λ capacity fit.
        subst (λ (b : Bool). ZerosFitBy b w.image part.span capacity) (sym test)
        (subst (λ (e : L2Entry). PartZerosFit e w.image part.span capacity) (sym entry)
        (plain w.image capacity (subst (λ (e : L2Entry). WriteFitsBy e w.image part.span capacity) entry fit))))
        (λ capacity fit.
        let of_part : PartZerosFit (entry_for w.image part.span) w.image part.span capacity
        = subst (λ (b : Bool). ZerosFitBy b w.image part.span capacity) test fit in
        subst (λ (e : L2Entry). WriteFitsBy e w.image part.span capacity) (sym entry)
        (back w.image capacity (subst (λ (e : L2Entry). PartZerosFit e w.image part.span capacity) entry of_part)))
        (sym (ap (λ (b : Bool). zeros_place b w.image part.span) test))
        (λ now before after o is_written.
        subst (λ (b : Bool). ZeroesBy IsIts b part.span w.image now before after o) (sym test)
        (subst (λ (e : L2Entry). ZeroesPart IsIts e part.span w.image now before after o) (sym entry)
        (keeps w.image now before after o
        (subst (λ (e : L2Entry). ChangesPart IsIts e part.span bytes w.image now before after o) entry is_written))))

  -- and of one that reads as zeros already
  pub zero_left_fits : (row : Row) (image : Known) (host capacity : ℕ) → IsPieceOf rows old part image → part.span.len ≢ part.whole.len
      → entries.Zero host ≡ entry_in image cluster → ZerosFit image part.span capacity
  zero_left_fits row image host capacity piece less is =
      let bits = size_bits rows old part image piece in
      let len = len_is rows old part image piece in
      let test : is_whole image part.span ≡ false
      = rw bits (whole_false part.span image.header.size piece.some (in_block rows old part image piece) piece.inside (λ same. less (same ∙ sym len))) in
      let entry : entry_for image part.span ≡ entries.Zero host = entry_is rows old part image piece ∙ sym is in
      subst (λ (b : Bool). ZerosFitBy b image part.span capacity) (sym test) (subst (λ (e : L2Entry). PartZerosFit e image part.span capacity) (sym entry) tt)

  pub zero_left_change : (image : Known) (host : ℕ) (device : DeviceSeen) → IsPieceOf rows old part image → part.span.len ≢ part.whole.len
      → entries.Zero host ≡ entry_in image cluster → IsZeroed IsIts part.span image image device device Good
  zero_left_change image host device piece less is =
      let bits = size_bits rows old part image piece in
      let len = len_is rows old part image piece in
      let test : is_whole image part.span ≡ false
      = rw bits (whole_false part.span image.header.size piece.some (in_block rows old part image piece) piece.inside (λ same. less (same ∙ sym len))) in
      let entry : entry_for image part.span ≡ entries.Zero host = entry_is rows old part image piece ∙ sym is in
      subst (λ (b : Bool). ZeroesBy IsIts b part.span image image device device Good) (sym test)
      (subst (λ (e : L2Entry). ZeroesPart IsIts e part.span image image device device Good) (sym entry) ((refl, refl), refl))

-- What a cluster is mapped to.
pub not_host : (m : Mapping) → ((host : ℕ) → m ≡ mappings.Host host → ⊥) → IsHost (entry_of m) → ⊥
not_host mappings.Unallocated none is = absurd is
not_host (mappings.Zero host) none is = absurd is
not_host (mappings.Host host) none is = none host refl

-- as it was looked up at a place
pub seen_at : (rows : List (Option Row)) (part : Part) (index : ℕ) (found : Option Row) → index ≡ part.node → index < length rows → found ≡ get_or rows index found
    → (m : Mapping) → OfImage found (λ image. entry_of m ≡ entry_in image (part.span.start / 65536))
    → OfImage (row_in rows part.node) (λ image. entry_of m ≡ entry_in image (part.span.start / 65536))
seen_at rows part index found same below is m seen =
    let there : row_in rows part.node ≡ found = row_found rows index part.node found same below is in
    subst (λ (f : Option Row). OfImage f (λ image. entry_of m ≡ entry_in image (part.span.start / 65536))) (sym there) seen

-- a mapped one
pub host_at : (rows : List (Option Row)) (old : List DeviceSeen) (part : Part) → HasPiece rows old part → (host : ℕ)
    → OfImage (row_in rows part.node) (λ image. entries.Host host ≡ entry_in image (part.span.start / 65536))
    → OfImage (row_in rows part.node) (λ image. IsHost (entry_for image part.span))
host_at rows old part has host seen =
    let image = has_image (row_in rows part.node) (IsPieceOf rows old part) has in
    let entry : entries.Host host ≡ entry_in image.1 (part.span.start / 65536)
    = image_found (row_in rows part.node) image.0 image.1 (λ image. entries.Host host ≡ entry_in image (part.span.start / 65536)) image.2 image.3 seen in
    of_image (row_in rows part.node) image.0 image.1 (λ image. IsHost (entry_for image part.span)) image.2 image.3
    (subst IsHost (entry ∙ sym (entry_is rows old part image.1 image.4)) tt)

to_part : (image : Known) (span : Extent) (capacity : ℕ) (m : Mapping) → ((host : ℕ) → m ≡ mappings.Zero host → ⊥) → WriteFitsBy (entry_of m) image span capacity
    → PartZerosFit (entry_of m) image span capacity
to_part image span capacity mappings.Unallocated none fits = fits
to_part image span capacity (mappings.Zero host) none fits = absurd (none host refl)
to_part image span capacity (mappings.Host host) none fits = fits

of_part : (image : Known) (span : Extent) (capacity : ℕ) (m : Mapping) → ((host : ℕ) → m ≡ mappings.Zero host → ⊥) → PartZerosFit (entry_of m) image span capacity
    → WriteFitsBy (entry_of m) image span capacity
of_part image span capacity mappings.Unallocated none fits = fits
of_part image span capacity (mappings.Zero host) none fits = absurd (none host refl)
of_part image span capacity (mappings.Host host) none fits = fits

rest_zeroed : (IsDisk : List ℕ → Type 0) (m : Mapping) → ((host : ℕ) → m ≡ mappings.Zero host → ⊥) → (span : Extent) (image now : Known) (before after : DeviceSeen) (o : Outcome)
    → ChangesPart IsDisk (entry_of m) span (replicate span.len 0) image now before after o → ZeroesPart IsDisk (entry_of m) span image now before after o
rest_zeroed IsDisk mappings.Unallocated none span image now before after o is = is
rest_zeroed IsDisk (mappings.Zero host) none span image now before after o is = absurd (none host refl)
rest_zeroed IsDisk (mappings.Host host) none span image now before after o is = is

pub zero_rest_as : (rows left : List (Option Row)) (old new : List DeviceSeen) (part : Part) (outcome : Outcome) (has : HasPiece rows old part)
    → part.span.len ≢ part.whole.len → (m : Mapping) → ((host : ℕ) → m ≡ mappings.Zero host → ⊥)
    → OfImage (row_in rows part.node) (λ image. entry_of m ≡ entry_in image (part.span.start / 65536))
    → WritesPart (λ image. WriteFits image part.span) (λ image. own_place_by (entry_for image part.span) image part.span) (IsImageWritten (IsDiskFound old part) part.span (replicate part.span.len 0)) rows left old new part (replicate part.span.len 0) outcome
    → WritesPart (λ image. ZerosFit image part.span) (λ image. zeros_place (is_whole image part.span) image part.span) (IsZeroed (IsDiskFound old part) part.span) rows left old new part (replicate part.span.len 0) outcome
zero_rest_as rows left old new part outcome has less m none seen w =
    zero_part_as rows left old new part (replicate part.span.len 0) outcome has less (entry_of m) (λ image capacity fits. to_part image part.span capacity m none fits)
    (λ image capacity fits. of_part image part.span capacity m none fits) (rest_zeroed (IsDiskFound old part) m none part.span) seen w

pub zero_left_as : (rows : List (Option Row)) (old : List DeviceSeen) (part : Part) (has : HasPiece rows old part) → part.span.len ≢ part.whole.len → (host : ℕ)
    → OfImage (row_in rows part.node) (λ image. entries.Zero host ≡ entry_in image (part.span.start / 65536))
    → WritesPart (λ image. ZerosFit image part.span) (λ image. zeros_place (is_whole image part.span) image part.span) (IsZeroed (IsDiskFound old part) part.span) rows rows old old part (replicate part.span.len 0) Good
zero_left_as rows old part has less host seen =
    let image = has_image (row_in rows part.node) (IsPieceOf rows old part) has in
    let entry : entries.Zero host ≡ entry_in image.1 (part.span.start / 65536)
    = image_found (row_in rows part.node) image.0 image.1 (λ image. entries.Zero host ≡ entry_in image (part.span.start / 65536)) image.2 image.3 seen in
    let device = some_device (device_in old part.file) image.4.held in
    left_wrote rows old part (λ image. ZerosFit image part.span) (λ image. zeros_place (is_whole image part.span) image part.span)
    (IsZeroed (IsDiskFound old part) part.span) image.0 image.1 host device.0
    image.2 image.3 image.4 (row_below rows part.node image.0 image.2) (sym entry) device.1
    (zero_left_fits rows rows old old part (replicate part.span.len 0) Good has image.0 image.1 host device.0.capacity image.4 less entry)
    (zero_left_change rows rows old old part (replicate part.span.len 0) Good has image.1 host device.0 image.4 less entry)
