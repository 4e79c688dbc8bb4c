-- One more node down the chain of a read that maps images.
use Rattle.std.proofs.Common.{◌≡◌, ◌≢◌, ℕ, suc, ◌/◌, ◌≤◌, Bool, true, false, cond, List, [], ◌∷◌, length, Option, Some, refl, sym, ◌∙◌, ap, subst, arith, inl, inr}
use Rattle.std.specs.Prelude.{◌⊎◌, is_some}
use Rattle.blk_base.specs.Content.{bytes_at, with_bytes}
use Rattle.blk_base.specs.Pieces.{Extent, end_of}
use Rattle.blk_base.specs.Outcomes.{is_good}
use Rattle.blk_base.specs.declared.fault.DevNo.{DevNo}
use Rattle.blk_base.specs.declared.fault.Outcome.{Outcome}
use Rattle.blk_base.specs.declared.fault.Outcome.TheVariants.{Good, Torn, Io, NoSpace}
use Rattle.blk_graph.proofs.Members.{Contains-nil, Contains-cases, Contains-here, Contains-there}
use Rattle.blk_graph.specs.Graph.{Graph}
use Rattle.blk_graph.specs.Edits.{child_of, without_parent}
use Rattle.blk_graph.specs.declared.edge.Parent.TheVariants.{Node}
use Rattle.blk_graph.specs.declared.edge.Role.TheVariants.{File as FileRole}
use Rattle.q2_image.specs.Image.{cluster_size_in, entry_in}
use Rattle.q2_image.specs.Reading.{IsHost, IsWithinCluster}
use Rattle.blk_nodes.specs.declared.row.Row.{Row}
use Rattle.blk_nodes.specs.Contents.{disk_of}
use Rattle.blk_nodes.specs.Copying.{AtEach, GoesWhole, HasRoomIn, IsBeside, IsMappedAt, IsRoomInEach, LacksRoom, LowestLacks, StopsUnread, LeavesRest, MapsNext, MapsEach, images_met_in, puts_below}
use Rattle.blk_nodes.specs.Found.{IsReadOfSource}
use Rattle.blk_nodes.specs.Joined.{IsJoined}
use Rattle.blk_nodes.specs.Nodes.{Nodes, DeviceSeen, AreTold, row_at, size_by, node_size, file_of}
use Rattle.blk_nodes.specs.Parts.{OfImage, IsImage}
use Rattle.blk_nodes.specs.Reading.{HaveRisen, IsReadBelow, LeadsTo, ReadsDisk}
use Rattle.blk_nodes.specs.Sources.{step_of, source_at}
use Rattle.blk_nodes.specs.Writing.{MayWriteThrough, WritesPiece, LeavesNodes, taken_by}
use Rattle.blk_nodes.specs.declared.source.Step.TheVariants.{Below}
use Rattle.blk_nodes.proofs.Copied.{IsOver, IsPutInto, over_below, below_size, below_reads, met_on, met_apart, met_into, put_into, into_still, may_still, room_still, written, goes_whole, mapped_after, each_so, each_both, one_leaves, then_leaves}
use Rattle.blk_nodes.proofs.CopiedDisks.{with_same, with_taken, beside_stays, chain_stays}
use Rattle.blk_nodes.proofs.CoveredDisks.{length_disk}
use Rattle.blk_nodes.proofs.Disks.{bytes_risen}
use Rattle.blk_nodes.proofs.PartsWritten.{good_is}
use Rattle.blk_nodes.proofs.Rows.{of_image}

pub bad_is : (o : Outcome) → is_good o ≡ false → o ≡ Good → ⊥
bad_is o is good = let clash : true ≡ false = sym (ap is_good good) ∙ is in cc clash

-- what is left but by a few is left but by more
pub leaves_more : (images : List ℕ) (node : ℕ) (old new : Nodes) (outcome : Outcome) → LeavesRest images old new outcome → LeavesRest (node ∷ images) old new outcome
leaves_more images node old new outcome left = record {
  graph = left.graph;
  rows = λ other apart. left.rows other apart.1;
  sizes = left.sizes;
  alike = left.alike;
  bytes = λ f apart. left.bytes f apart.1;
  devices = λ good f apart. left.devices good f apart.1;
  told = left.told;
}

stops_there : (below : Outcome) (mid : Nodes) (node : ℕ) (span : Extent) (bytes : List ℕ) → (below ≡ Good → ⊥) → MapsNext below mid mid node span bytes below
stops_there Good mid node span bytes bad = absurd (bad refl)
stops_there (Torn done dev count) mid node span bytes bad = (refl, refl)
stops_there (Io dev count) mid node span bytes bad = (refl, refl)
stops_there (NoSpace dev) mid node span bytes bad = (refl, refl)

module _ (old : Nodes) (joined : IsJoined old) (turns left node next : ℕ) (span : Extent) (one : turns ≡ suc left) (goes : step_of old node span.start ≡ Below next) where
  abbrev below_ones : List ℕ
  below_ones = images_met_in left old next span.start

  abbrev all_ones : List ℕ
  all_ones = images_met_in turns old node span.start

  abbrev puts_here : Bool
  puts_here = puts_below (row_at old node) (row_at old next) span.start

  over : IsOver old node span.start next
  over = over_below old node span.start next goes

  met : (puts : Bool) → puts_here ≡ puts → all_ones ≡ cond puts (next ∷ below_ones) below_ones
  met puts is = met_on old span.start turns left node next puts one goes is

  pub each_below : (P : ℕ → Type 0) → AtEach P all_ones → AtEach P below_ones
  each_below P all = by_puts puts_here refl
    where
      by_puts : (b : Bool) → puts_here ≡ b → AtEach P below_ones
      by_puts true is = let both : AtEach P (next ∷ below_ones) = subst (AtEach P) (met true is) all in both.1
      by_puts false is = subst (AtEach P) (met false is) all

  pub each_here : (P : ℕ → Type 0) → puts_here ≡ true → AtEach P all_ones → P next
  each_here P is all = let both : AtEach P (next ∷ below_ones) = subst (AtEach P) (met true is) all in both.0

  pub inside_below : end_of span ≤ node_size old node → end_of span ≤ node_size old next
  inside_below inside = let same = below_size old joined node span.start next over in omega (arith, inside, same)

  pub read_below : (bytes : List ℕ) → IsWithinCluster 65536 span → end_of span ≤ node_size old node
      → (AreTold old.devices → bytes ≡ bytes_at (disk_of old node) span.start span.len) → AreTold old.devices → bytes ≡ bytes_at (disk_of old next) span.start span.len
  read_below bytes block inside read told =
      read told ∙ below_reads old joined node span.start next over told span.start span.len refl (omega (arith, block)) (omega (arith, inside))

  -- the room
  pub room_all : (room : Outcome) → IsRoomInEach below_ones old span room → (room ≡ Good → ⊥) ⊎ (puts_here ≡ false) → IsRoomInEach all_ones old span room
  room_all room has stops = by_puts puts_here refl
    where
      more : (o : Outcome) → (o ≡ Good → ⊥) → IsRoomInEach below_ones old span o → IsRoomInEach (next ∷ below_ones) old span o
      more Good bad has = absurd (bad refl)
      more (Torn done dev count) bad has = has
      more (Io dev count) bad has = has
      more (NoSpace dev) bad has = inl has

      by_stops : puts_here ≡ true → (room ≡ Good → ⊥) ⊎ (puts_here ≡ false) → IsRoomInEach (next ∷ below_ones) old span room
      by_stops is (inl bad) = more room bad has
      by_stops is (inr never) = let clash = sym is ∙ never in absurd (cc clash)

      by_puts : (b : Bool) → puts_here ≡ b → IsRoomInEach all_ones old span room
      by_puts true is = subst (λ (l : List ℕ). IsRoomInEach l old span room) (sym (met true is)) (by_stops is stops)
      by_puts false is = subst (λ (l : List ℕ). IsRoomInEach l old span room) (sym (met false is)) has

  pub room_here : (room own : Outcome) → room ≡ Good → puts_here ≡ true → IsRoomInEach below_ones old span room → IsRoomInEach (next ∷ []) old span own → IsRoomInEach all_ones old span own
  room_here room own good is has here = subst (λ (l : List ℕ). IsRoomInEach l old span own) (sym (met true is)) (by own here)
    where
      all_fit : AtEach (HasRoomIn old span) below_ones
      all_fit = subst (IsRoomInEach below_ones old span) good has

      first : (dev : DevNo) → LowestLacks old span dev (next ∷ []) → LowestLacks old span dev (next ∷ below_ones)
      first dev (inl none) = absurd none
      first dev (inr lacks) = inr (all_fit, lacks.1)

      by : (o : Outcome) → IsRoomInEach (next ∷ []) old span o → IsRoomInEach (next ∷ below_ones) old span o
      by Good here = (here.0, all_fit)
      by (Torn done dev count) here = here
      by (Io dev count) here = here
      by (NoSpace dev) here = first dev here

  -- behind the images below
  module _ (mid : Nodes) (joined_mid : IsJoined mid) (bytes : List ℕ) (below : Outcome) (maps : MapsEach below_ones old mid span bytes below)
      (rest : LeavesRest below_ones old mid below) (disk : AreTold old.devices → disk_of mid next ≡ disk_of old next)
      (disks : AreTold old.devices → (other : ℕ) → AtEach (IsBeside old other) below_ones → disk_of mid other ≡ disk_of old other)
      (may : AtEach (MayWriteThrough old) all_ones) where
    may_below : AtEach (MayWriteThrough old) below_ones
    may_below = each_below (MayWriteThrough old) may

    next_apart : AtEach (λ n. next ≢ n) below_ones
    next_apart = met_apart old span.start joined left next

    all_apart : AtEach (λ n. node ≢ n) all_ones
    all_apart = met_apart old span.start joined turns node

    -- where the walk ends here
    module _ (stops : (below ≡ Good → ⊥) ⊎ (puts_here ≡ false)) where
      pub maps_early : MapsEach all_ones old mid span bytes below
      maps_early = by_puts puts_here refl
        where
          by_stops : puts_here ≡ true → (below ≡ Good → ⊥) ⊎ (puts_here ≡ false) → MapsEach (next ∷ below_ones) old mid span bytes below
          by_stops is (inl bad) = (mid, below, maps, stops_there below mid next span bytes bad)
          by_stops is (inr never) = let clash = sym is ∙ never in absurd (cc clash)

          by_puts : (b : Bool) → puts_here ≡ b → MapsEach all_ones old mid span bytes below
          by_puts true is = subst (λ (l : List ℕ). MapsEach l old mid span bytes below) (sym (met true is)) (by_stops is stops)
          by_puts false is = subst (λ (l : List ℕ). MapsEach l old mid span bytes below) (sym (met false is)) maps

      pub mapped_early : (below ≡ Good → AtEach (IsMappedAt mid span.start) below_ones) → below ≡ Good → AtEach (IsMappedAt mid span.start) all_ones
      mapped_early mapped good = by_stops stops
        where
          by_stops : (below ≡ Good → ⊥) ⊎ (puts_here ≡ false) → AtEach (IsMappedAt mid span.start) all_ones
          by_stops (inl bad) = absurd (bad good)
          by_stops (inr never) = subst (AtEach (IsMappedAt mid span.start)) (sym (met false never)) (mapped good)

    pub rest_early : LeavesRest all_ones old mid below
    rest_early = by_puts puts_here refl
      where
        by_puts : (b : Bool) → puts_here ≡ b → LeavesRest all_ones old mid below
        by_puts true is = subst (λ (l : List ℕ). LeavesRest l old mid below) (sym (met true is)) (leaves_more below_ones next old mid below rest)
        by_puts false is = subst (λ (l : List ℕ). LeavesRest l old mid below) (sym (met false is)) rest

    pub disk_early : AreTold old.devices → disk_of mid node ≡ disk_of old node
    disk_early told =
        chain_stays old mid joined joined_mid below_ones below rest node span.start next over (each_below (λ n. node ≢ n) all_apart) may_below
        (met_into old span.start left next) (disk told)

    pub disks_early : AreTold old.devices → (other : ℕ) → AtEach (IsBeside old other) all_ones → disk_of mid other ≡ disk_of old other
    disks_early told other beside = disks told other (each_below (IsBeside old other) beside)

    -- where the cluster is put into the node below
    module _ (good : below ≡ Good) (is : puts_here ≡ true) where
      into : IsPutInto old next span.start
      into = put_into old node next span.start is

      into_mid : IsPutInto mid next span.start
      into_mid = into_still old mid below_ones below rest next span.start next_apart into

      pub may_put : MayWriteThrough mid next
      may_put = may_still old mid below_ones below rest next next_apart (each_here (MayWriteThrough old) is may)

      pub image_put : IsImage mid next
      image_put = of_image (row_at mid next) into_mid.row into_mid.image (λ _. Unit {0}) into_mid.there into_mid.driver tt

      pub inside_put : end_of span ≤ node_size old node → end_of span ≤ node_size mid next
      inside_put inside = let within = inside_below inside in let same = rest.sizes next in omega (arith, within, same)

      module _ (room : AtEach (HasRoomIn old span) all_ones) (new : Nodes) (joined_new : IsJoined new) (outcome : Outcome)
          (wrote : WritesPiece mid new next span bytes outcome) (kept : LeavesNodes mid new next) where
        room_put : HasRoomIn mid span next
        room_put =
            room_still old mid below_ones below rest span.start next next_apart may_below (met_into old span.start left next) span good (each_here (HasRoomIn old span) is room)

        whole : GoesWhole outcome
        whole = goes_whole mid new joined_mid joined_new next span bytes outcome may_put into_mid wrote kept room_put

        leaves_next : LeavesRest (next ∷ []) mid new outcome
        leaves_next = one_leaves mid new joined_mid joined_new next span bytes outcome may_put into_mid wrote kept

        pub maps_on : MapsEach all_ones old new span bytes outcome
        maps_on =
            subst (λ (l : List ℕ). MapsEach l old new span bytes outcome) (sym (met true is))
            (mid, below, maps, subst (λ (o : Outcome). MapsNext o mid new next span bytes outcome) (sym good) (record { wrote = wrote; kept = kept; whole = whole }))

        pub mapped_on : (below ≡ Good → AtEach (IsMappedAt mid span.start) below_ones) → outcome ≡ Good → AtEach (IsMappedAt new span.start) all_ones
        mapped_on mapped all =
            subst (AtEach (IsMappedAt new span.start)) (sym (met true is)) (
              mapped_after mid new joined_mid joined_new next span bytes outcome may_put into_mid wrote kept all,
              each_so (λ n. (next ≢ n) × IsMappedAt mid span.start n) (IsMappedAt new span.start)
                  (λ n both. subst (λ (r : Option Row). OfImage r (λ image. IsHost (entry_in image (span.start / cluster_size_in image)))) (sym (kept.others n (λ same. both.0 (sym same)))) both.1)
                  below_ones (each_both (λ n. next ≢ n) (IsMappedAt mid span.start) below_ones next_apart (mapped good)),
            )

        leaves_all : LeavesRest (next ∷ below_ones) old new outcome
        leaves_all = then_leaves old mid new below_ones next below outcome rest leaves_next good

        pub rest_on : LeavesRest all_ones old new outcome
        rest_on = subst (λ (l : List ℕ). LeavesRest l old new outcome) (sym (met true is)) leaves_all

        module _ (count : length bytes ≡ span.len) (inside : end_of span ≤ node_size old node) (block : IsWithinCluster 65536 span)
            (read : AreTold old.devices → bytes ≡ bytes_at (disk_of old node) span.start span.len)
            (put : AreTold mid.devices → disk_of new next ≡ with_bytes (disk_of mid next) span.start (taken_by outcome bytes)) where
          -- the image's disk has these bytes already
          own : AreTold old.devices → disk_of new next ≡ disk_of mid next
          own told =
              let told_mid = rest.told told in
              let within = inside_put inside in
              let size = length_disk mid joined_mid told_mid next into_mid.row into_mid.there in
              let sized : node_size mid next ≡ into_mid.row.size = ap size_by into_mid.there in
              put told_mid
              ∙ with_taken outcome (disk_of mid next) span.start bytes whole
              (with_same (disk_of mid next) span.start span.len bytes
              (read_below bytes block inside read told ∙ ap (λ (d : List ℕ). bytes_at d span.start span.len) (sym (disk told))) count (omega (arith, within, size, sized)))

          pub disk_on : AreTold old.devices → disk_of new node ≡ disk_of old node
          disk_on told =
              chain_stays old new joined joined_new (next ∷ below_ones) outcome leaves_all node span.start next over
              (subst (AtEach (λ n. node ≢ n)) (met true is) all_apart) (subst (AtEach (MayWriteThrough old)) (met true is) may) (into, met_into old span.start left next)
              (own told ∙ disk told)

          pub disks_on : AreTold old.devices → (other : ℕ) → AtEach (IsBeside old other) all_ones → disk_of new other ≡ disk_of old other
          disks_on told other beside =
              let w = written mid new joined_mid joined_new next span bytes outcome may_put into_mid wrote kept in
              let edge_old : file_of old next ≡ Some w.file = sym (ap (λ (g : Graph). child_of (Node next) FileRole g.edges) rest.graph) ∙ w.edge in
              beside_stays mid new joined_mid joined_new next outcome leaves_next (own told) w.file w.edge other
              (subst (λ (g : Graph). LeadsTo (without_parent (Node next) g.edges) other w.file → ⊥) (sym rest.graph) (each_here (IsBeside old other) is beside w.file edge_old))
              ∙ disks told other (each_below (IsBeside old other) beside)

-- ---- a whole read

told_risen : (old new : List DeviceSeen) → HaveRisen old new → AreTold old → AreTold new
told_risen [] [] risen told d there = absurd (Contains-nil d there)
told_risen [] (b ∷ new) risen told d there = absurd risen
told_risen (a ∷ old) [] risen told d there = absurd risen
told_risen (a ∷ old) (b ∷ new) risen told d there = elim (Contains-cases b new d there) [
  | inl here ↦
      let content : b.content ≡ a.content = ap (λ (x : DeviceSeen). x.content) risen.0.same in
      let was : is_some a.content ≡ true = told a (Contains-here a old) in
      ap (λ (x : DeviceSeen). is_some x.content) here ∙ ap (λ (x : Option (List ℕ)). is_some x) content ∙ was
  | inr behind ↦ told_risen old new risen.1 (λ x at. told x (Contains-there a old x at)) d behind
]

-- where counts alone rose
pub leaves_risen : (old : Nodes) (devices : List DeviceSeen) (images : List ℕ) (outcome : Outcome) → HaveRisen old.devices devices → (outcome ≡ Good → ⊥)
    → LeavesRest images old (record old { devices = devices }) outcome
leaves_risen old devices images outcome risen bad = record {
  graph = refl;
  rows = λ other apart. refl;
  sizes = λ n. refl;
  alike = λ n f has. record { row = has.row; image = has.image; there = has.there; driver = has.driver; edge = has.edge };
  bytes = λ f apart. bytes_risen old.devices devices risen f;
  devices = λ good. absurd (bad good);
  told = told_risen old.devices devices risen;
}

module _ (old : Nodes) (images : List ℕ) (node : ℕ) (span : Extent) (room : Outcome) (has : IsRoomInEach images old span room) where
  pub room_refused : (room ≡ Good → ⊥) → (new : Nodes) → new ≡ old → LacksRoom images old new span room
  room_refused bad new same = by room refl has
    where
      by : (o : Outcome) → room ≡ o → IsRoomInEach images old span o → LacksRoom images old new span room
      by Good is fits = absurd (bad is)
      by (Torn done dev count) is fits = absurd fits
      by (Io dev count) is fits = absurd fits
      by (NoSpace dev) is lacks = record { dev = dev; is = is; lacks = lacks; same = same }

  pub room_for_all : room ≡ Good → AtEach (HasRoomIn old span) images
  room_for_all good = subst (IsRoomInEach images old span) good has

pub read_stopped_unread : (old new : Nodes) (node : ℕ) (span : Extent) (outcome : Outcome) → (outcome ≡ Good → ⊥) → IsReadBelow old new node outcome
    → IsReadOfSource old.rows (source_at old node span.start) span old.devices new.devices outcome → new ≡ record old { devices = new.devices } → HaveRisen old.devices new.devices
    → StopsUnread old new node span outcome
read_stopped_unread old new node span outcome bad read source kept risen = by outcome refl read
  where
    by : (o : Outcome) → outcome ≡ o → IsReadBelow old new node o → StopsUnread old new node span outcome
    by Good is read = absurd (bad is)
    by (Torn done dev count) is read = absurd read
    by (Io dev count) is read = record { dev = dev; count = count; is = is; stopped = read; source = source; kept = kept; devices = risen }
    by (NoSpace dev) is read = absurd read

-- a good read changes nothing
pub peeked_same : (old new : Nodes) (node : ℕ) (outcome : Outcome) → is_good outcome ≡ true → IsReadBelow old new node outcome → new ≡ old
peeked_same old new node outcome good read = subst (IsReadBelow old new node) (good_is outcome good) read

pub reads_unless : (outcome : Outcome) (disk : List ℕ) (span : Extent) (buffer : List ℕ) → (outcome ≡ Good → ⊥) → ReadsDisk outcome disk span buffer
reads_unless Good disk span buffer bad = absurd (bad refl)
reads_unless (Torn done dev count) disk span buffer bad = tt
reads_unless (Io dev count) disk span buffer bad = tt
reads_unless (NoSpace dev) disk span buffer bad = tt
