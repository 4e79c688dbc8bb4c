-- A step of a stream settles its block, and leaves what was settled.
use Rattle.std.proofs.Common.{◌≡◌, ◌⊎◌, ℕ, zero, suc, ◌+◌, ◌-◌, ◌*◌, ◌/◌, ◌<◌, ◌≤◌, ◌==◌, min, Bool, true, false, not, List, get_or, Option, Some, None, Result, Ok, Err, refl, sym, ◌∙◌, ap, subst, inl, inr, arith}
use Rattle.std.specs.Prelude.{◌&&◌, slice_index, unwrap_or}
use Rattle.std.proofs.lemmas.Bool.{cases_eq, ne_eqb}
use Rattle.blk_base.specs.Content.{bytes_at}
use Rattle.blk_base.specs.Pieces.{Extent}
use Rattle.blk_base.specs.declared.fault.Fault.{Fault}
use Rattle.blk_base.specs.declared.fault.Outcome.{Outcome}
use Rattle.blk_base.specs.declared.fault.Outcome.TheVariants.{Good, Torn, Io, NoSpace}
use Rattle.blk_base.proofs.Contents.{get_or-bytes_at}
use Rattle.q2_format.specs.Sizes.{cluster_size}
use Rattle.q2_format.specs.declared.header.Header.{Header}
use Rattle.q2_image.specs.Image.{Known, cluster_size_in, entry_in}
use Rattle.blk_nodes.specs.Contents.{disk_of, disk_under}
use Rattle.blk_nodes.specs.Copying.{is_unallocated}
use Rattle.blk_nodes.specs.Joined.{IsJoined, IsOverlay}
use Rattle.blk_nodes.specs.Nodes.{Nodes, AreTold, row_at, node_size, backing_of}
use Rattle.blk_nodes.specs.Owning.{has_own, has_own_by}
use Rattle.blk_nodes.specs.Parts.{IsImage}
use Rattle.blk_nodes.specs.Writing.{AreRowsAfter, IsApartFrom, IsDriverAfter, LeavesNodes, MayWriteThrough}
use Rattle.blk_nodes.specs.declared.row.Driver.{Driver}
use Rattle.blk_nodes.specs.declared.row.Driver.TheVariants.{Qcow2}
use Rattle.blk_nodes.specs.declared.row.Row.{Row}
use Rattle.blk_nodes.proofs.Disks.{disks_risen}
use Rattle.blk_nodes.proofs.Rows.{has_image}
use Rattle.block_jobs.specs.Work.{IsJobWork, JobWork, after_copy, block_at, is_left, next_block}
use Rattle.block_jobs.proofs.PartLemmas.{next_is}
use Rattle.block_jobs.proofs.Steps.{left_off}
use Rattle.node_copies.specs.Between.{below_by, below_of, chain_end, end_in, is_held_between, is_held_below}
use Rattle.node_copies.specs.Putting.{CopiesBehind, CopiesBlock}
use Rattle.node_copies.specs.Sectors.{block_of, runs_of}
use Rattle.node_copies.proofs.Chained.{chain_shows, size_below}
use Rattle.node_copies.proofs.Owned.{copied_owns}
use Rattle.node_copies.proofs.Puts.{runs_others}
use Rattle.job_copies.specs.Guarding.{after_guard}
use Rattle.job_copies.specs.Passing.{PassesBlock, PassesNext, all_sectors, is_streamed}
use Rattle.job_copies.proofs.Settled.{all_set}
use Rattle.chain_copies.specs.Streams.{IsOverBase, IsPlaceSettled, IsStreamAhead}
use Rattle.chain_copies.proofs.CommitsPut.{put_next}
use Rattle.chain_copies.proofs.StreamOwn.{ahead_written}

-- ---- what a step leaves of the nodes apart

module _ (old new : Nodes) (from to : ℕ) (block : Extent) (sectors : ℕ) (result : Result (Unit {0}) Fault) (copies : CopiesBlock old new from to block sectors result) where
  abbrev mid : Nodes
  mid = copies.between

  mid_disk : (other : ℕ) → disk_of mid other ≡ disk_of old other
  mid_disk other = ap (λ (n : Nodes). disk_of n other) copies.kept ∙ disks_risen old mid.devices copies.risen other

  mid_apart : (other : ℕ) → IsApartFrom old other to → IsApartFrom mid other to
  mid_apart other apart = subst (λ (n : Nodes). IsApartFrom n other to) (sym copies.kept) apart

  copies_others : (other : ℕ) → IsApartFrom old other to → disk_of new other ≡ disk_of old other
  copies_others other apart = by copies.read copies.behind
    where
      by : (read : Outcome) → CopiesBehind read mid new to block sectors copies.bytes result → disk_of new other ≡ disk_of old other
      by Good behind = runs_others block to copies.bytes (runs_of block sectors) mid new behind.0 behind.1 other (mid_apart other apart) ∙ mid_disk other
      by (Torn done dev count) behind = ap (λ (n : Nodes). disk_of n other) behind.0 ∙ mid_disk other
      by (Io dev count) behind = ap (λ (n : Nodes). disk_of n other) behind.0 ∙ mid_disk other
      by (NoSpace dev) behind = ap (λ (n : Nodes). disk_of n other) behind.0 ∙ mid_disk other

module _ (old new : Nodes) (was now : JobWork) (top to block : ℕ) where
  pass_others : (must : Bool) → PassesBlock must old new was now top to block → (other : ℕ) → IsApartFrom old other to → disk_of new other ≡ disk_of old other
  pass_others true passes other apart = copies_others old new top to (block_of was.size block) all_sectors passes.result passes.copies other apart
  pass_others false passes other apart = ap (λ (n : Nodes). disk_of n other) passes.0

-- ---- a block of an image

clusters_of : (old now : Known) → (record old.header { autoclear = 0 }) ≡ (record now.header { autoclear = 0 }) → cluster_size_in old ≡ cluster_size_in now
clusters_of old now same = ap (λ (h : Header). cluster_size h.cluster_bits) same

-- an image has all of a block or none of it
module _ (nodes : Nodes) (top : ℕ) (row : Row) (image : Known) (there : row_at nodes top ≡ Some row) (driver : row.driver ≡ Qcow2 image) (size : cluster_size_in image ≡ 65536) where
  own_at : (place : ℕ) → has_own place (row_at nodes top) ≡ not (is_unallocated (entry_in image (place / 65536)))
  own_at place = ap (has_own place) there ∙ ap (has_own_by place) driver ∙ ap (λ (c : ℕ). not (is_unallocated (entry_in image (place / c)))) size

  pub block_own : (block place : ℕ) → block_at place ≡ block → has_own (block * 65536) (row_at nodes top) ≡ true → has_own place (row_at nodes top) ≡ true
  block_own block place here own =
      let same : place / 65536 ≡ block * 65536 / 65536 = omega (arith, here) in
      own_at place ∙ ap (λ (k : ℕ). not (is_unallocated (entry_in image k))) same ∙ sym (own_at (block * 65536)) ∙ own

-- ---- a chain without a base

no_end : (turns : ℕ) (nodes : Nodes) (node : ℕ) → end_in turns nodes None node ≡ None
no_end zero nodes node = refl
no_end (suc turns) nodes node = by (below_of nodes node) (no_end turns nodes)
  where
    by : (found : Option ℕ) → ((next : ℕ) → end_in turns nodes None next ≡ None) → elim found as (λ _. Option ℕ) [ None ↦ None | Some next ↦ end_in turns nodes None next ] ≡ None
    by None rest = refl
    by (Some next) rest = rest next

no_chain_end : (nodes : Nodes) (node : ℕ) → chain_end nodes None node ≡ None
unfolding chain_end
no_chain_end nodes node = no_end 64 nodes node

ends_at : (nodes : Nodes) (top next : ℕ) (base : Option ℕ) → IsOverBase nodes top base → backing_of nodes top ≡ Some next → chain_end nodes base next ≡ base
ends_at nodes top next None over is = no_chain_end nodes next
ends_at nodes top next (Some base) (below, at, ends) is =
    let same : below ≡ next = cc (sym at ∙ is) in
    subst (λ (n : ℕ). chain_end nodes (Some base) n ≡ Some base) same ends

-- ---- a block that isn't copied

not_streamed : (own held : Bool) → (not own && held) ≡ false → (own ≡ true) ⊎ ((own ≡ false) × (held ≡ false))
not_streamed true held is = inl refl
not_streamed false held is = inr (refl, is)

-- the image of a top
module _ (old : Nodes) (top : ℕ) (base : Option ℕ) (joined : IsJoined old) (is_image : IsImage old top) where
  found : (row : Row) × (image : Known) × (row_at old top ≡ Some row) × (row.driver ≡ Qcow2 image) × Unit {0}
  found = has_image (row_at old top) (λ _. Unit {0}) is_image

  abbrev row : Row
  row = found.0

  abbrev image : Known
  image = found.1

  overlay : IsOverlay old top image
  overlay = rw found.3 at (joined.below top row found.2)

  size_is : cluster_size_in image ≡ 65536
  size_is = let opened = overlay.opened.cluster_bits in rw opened refl

  below_is : below_of old top ≡ backing_of old top
  below_is =
      ap (λ (f : Option Row). elim f as (λ _. Option ℕ) [ None ↦ None | Some r ↦ below_by old top r.driver ]) found.2
      ∙ ap (below_by old top) found.3

  abbrev Held : Option ℕ → ℕ → Bool
  Held next place = elim next as (λ _. Bool) [ None ↦ false | Some n ↦ is_held_between old base n place ]

  module _ (told : AreTold old.devices) (over : IsOverBase old top base) where
    unheld : (block place : ℕ) → place < node_size old top → block_at place ≡ block → has_own (block * 65536) (row_at old top) ≡ false
        → (next : Option ℕ) → backing_of old top ≡ next → Held next (block * 65536) ≡ false
        → slice_index (disk_under (disk_of old) next) place ≡ slice_index (disk_under (disk_of old) base) place
    unheld block place less here bare None is held = by base over
      where
        by : (b : Option ℕ) → IsOverBase old top b → slice_index (disk_under (disk_of old) None) place ≡ slice_index (disk_under (disk_of old) b) place
        by None o = refl
        by (Some b) o = let bad : Some o.0 ≡ None = sym o.1 ∙ is in absurd (cc bad)
    unheld block place less here bare (Some next) is held =
        let start : ℕ = block * 65536 in
        let n : ℕ = min 65536 (node_size old top - start) in
        let size : node_size old next ≡ node_size old top = size_below old top start next joined bare (below_is ∙ is) in
        let from : start ≤ place = omega (arith, here) in
        let shown = chain_shows old joined told base start n (omega arith) next (omega (arith, size, from, less)) held in
        let same : bytes_at (disk_of old next) start n ≡ bytes_at (disk_under (disk_of old) base) start n
        = shown ∙ ap (λ (e : Option ℕ). bytes_at (disk_under (disk_of old) e) start n) (ends_at old top next base over is) in
        let i : ℕ = place - start in
        let at : start + i ≡ place = omega (arith, from) in
        let few : i < n = omega (arith, here, from, less) in
        ap (λ (j : ℕ). get_or (disk_of old next) j 0) (sym at) ∙ sym (get_or-bytes_at (disk_of old next) start n i few)
        ∙ ap (λ (xs : List ℕ). get_or xs i 0) same
        ∙ get_or-bytes_at (disk_under (disk_of old) base) start n i few
        ∙ ap (λ (j : ℕ). get_or (disk_under (disk_of old) base) j 0) at

    pub passed_settled : (block place : ℕ) → place < node_size old top → block_at place ≡ block → is_streamed old base top (block * 65536) ≡ false
        → IsPlaceSettled old top base place
    passed_settled block place less here is = elim (not_streamed (has_own (block * 65536) (row_at old top)) (is_held_below old base top (block * 65536)) is) [
      | inl own ↦ inl (block_own old top row image found.2 found.3 size_is block place here own)
      | inr bare ↦
          inr (unheld block place less here bare.0 (backing_of old top) refl (ap (λ (f : Option ℕ). Held f (block * 65536)) (sym below_is) ∙ bare.1))
    ]

  -- the row of the top behind a write through it
  module _ (new : Nodes) (kept : LeavesNodes old new top) where
    pub copied_settled : (block place : ℕ) → block_at place ≡ block → has_own (block * 65536) (row_at new top) ≡ true → IsPlaceSettled new top base place
    copied_settled block place here own =
        let after : AreRowsAfter (Some row) (row_at new top) = subst (λ (f : Option Row). AreRowsAfter f (row_at new top)) found.2 kept.own in
        let is : IsDriverAfter (Qcow2 image) after.0.driver = subst (λ (d : Driver). IsDriverAfter d after.0.driver) found.3 after.2.driver in
        let size : cluster_size_in is.0 ≡ 65536 = clusters_of is.0 image is.2 ∙ size_is in
        inl (block_own new top after.0 is.0 after.1 is.1 size block place here own)

-- ---- the step

first_false : (a b : Bool) → b ≡ true → (a && b) ≡ false → a ≡ false
first_false a b is none = by a (subst (λ (t : Bool). (a && t) ≡ false) is none)
  where
    by : (t : Bool) → (t && true) ≡ false → t ≡ false
    by true bad = absurd (cc bad)
    by false same = refl

-- where no fault was met the copy went well
no_fault : (work now : JobWork) (block : ℕ) (result : Result (Unit {0}) Fault) → now ≡ after_guard result block work → now.met ≡ None
    → (done : Unit {0}) × (result ≡ Ok done) × (now ≡ after_copy block work)
no_fault work now block (Ok done) is none = (done, refl, is)
no_fault work now block (Err fault) is none =
    let bad : Some (unwrap_or work.met fault) ≡ None = sym (ap (λ (w : JobWork). w.met) is) ∙ none in
    absurd (cc bad)

module _ (old new : Nodes) (was now : JobWork) (top : ℕ) (base : Option ℕ) (joined : IsJoined old) (told : AreTold old.devices) (work : IsJobWork was)
    (is_image : IsImage old top) (may : MayWriteThrough old top) (whole : node_size old top ≡ was.size) (over : IsOverBase old top base) (none : now.met ≡ None)
    (ahead : IsStreamAhead old top base was) where
  module _ (kept : LeavesNodes old new top) (block : ℕ) (next : next_block was ≡ Some block) where
    stays : (must : Bool) → PassesBlock must old new was now top top block → IsStreamAhead new top base was
    stays must passes =
        ahead_written old new top base was is_image may over kept (pass_others old new was now top top block must passes) ahead

    -- the block, and what was settled before
    on : (same : now ≡ after_copy block was) → IsStreamAhead new top base was
        → ((place : ℕ) → place < was.size → block_at place ≡ block → IsPlaceSettled new top base place)
        → IsStreamAhead new top base now
    on same before here = λ place less gone. elim (cases_eq (block_at place) block) [
      | inl at ↦ here place (subst (λ (n : ℕ). place < n) (ap (λ (w : JobWork). w.size) same) less) at
      | inr apart ↦
          before place (subst (λ (n : ℕ). place < n) (ap (λ (w : JobWork). w.size) same) less)
          (first_false (is_left was place) (not (block_at place == block)) (ap not (ne_eqb (block_at place) block apart))
          (sym (left_off was work block place) ∙ ap (λ (w : JobWork). is_left w place) (sym same) ∙ gone))
    ]

    by_must : (must : Bool) → is_streamed old base top (block * 65536) ≡ must → PassesBlock must old new was now top top block → IsStreamAhead new top base now
    by_must true is passes =
        let went = no_fault was now block passes.result passes.work none in
        let span : Extent = block_of was.size block in
        let within = (next_is was block next).0 in
        let some : 0 < span.len = omega (arith, within) in
        let owns : has_own (block * 65536) (row_at new top) ≡ true
        = copied_owns old new top top span all_sectors went.0 (all_set 0 (omega arith)) some is_image (subst (CopiesBlock old new top top span all_sectors) went.1 passes.copies) in
        on went.2 (stays true passes)
        (λ place less here. copied_settled old top base joined is_image new kept block place here owns)
    by_must false is passes =
        on passes.1 (stays false passes)
        (λ place less here.
        subst (λ (n : Nodes). IsPlaceSettled n top base place) (sym passes.0)
        (passed_settled old top base joined is_image told over block place (subst (λ (n : ℕ). place < n) (sym whole) less) here is))

  pub goes_on : (answer : Bool) → PassesNext (is_streamed old base top) old new was now top top answer → IsStreamAhead new top base now
  goes_on false passes = subst (λ (n : Nodes). IsStreamAhead n top base now) (sym passes.1) (subst (IsStreamAhead old top base) (sym passes.2) ahead)
  goes_on true (block, next, passes) =
      by_must (put_next old new top top joined told may was now whole (is_streamed old base top) true (block, next, passes)).kept block next
      (is_streamed old base top (block * 65536)) refl passes
