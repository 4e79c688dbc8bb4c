-- What an allocation leaves of a device's told bytes, by what it leaves of the device.
use Rattle.std.proofs.Common.{◌≡◌, ◌⊎◌, inl, inr, ℕ, List, [], ◌∷◌, ◌++◌, ◌+◌, ◌*◌, Option, Some, None, Result, Ok, Err, sym, ap, subst, ◌∙◌}
use Rattle.std.specs.Prelude.{IfErr, OnErr, OnOk}
use Rattle.blk_base.specs.Content.{Write, after_writes}
use Rattle.blk_base.specs.Device.{Wrote, Writes, AtEachStopOf, stop_of}
use Rattle.blk_base.specs.Writes.{write_of, IsCutBy}
use Rattle.blk_base.specs.declared.device.Device.{Ghosts}
use Rattle.blk_base.specs.declared.fault.DevStop.{DevStop}
use Rattle.blk_base.proofs.DeviceLemmas.{cause-later, cause-sooner, content_after, wrote-then, writes_then}
use Rattle.blk_base.proofs.Calls.{call_later, call_sooner}
use Rattle.blk_base.proofs.WriteLists.{part-later, part-sooner}
use Rattle.byteorder.specs.Endian.{big_bytes}
use Rattle.q2_format.specs.Header.{header_of}
use Rattle.q2_format.specs.References.{uses}
use Rattle.q2_format.specs.Sizes.{cluster_size}
use Rattle.q2_refs.specs.Allocating.{IsInStep, KeepsCounted, KeepsSound, StopsAllocating, Allocates, with_one, with_block_for, offset_of_block, new_block, block_writes, block_writes_for, count_write, allocation_writes, all_but_count, writes_of_answer}
use Rattle.q2_refs.specs.Free.{free_cluster}
use Rattle.q2_refs.specs.Kept.{KeptRefs}
use Rattle.q2_refs.specs.declared.allocating.RefStop.{RefStop}
use Rattle.q2_refs.specs.declared.allocating.RefStop.TheVariants.{Dev}
use Rattle.q2_refs.proofs.AllocationStops.{CanBeGiven, allocation_done, allocation_unused, allocation_left, allocation_stops, block_for_cut, count_part}
use Rattle.q2_refs.proofs.Placing.{told_before}

-- the writes of a block, by what they were made of
pub block_writes_are : (kept : KeptRefs) (i offset entry : ℕ) (bytes : List ℕ) → offset ≡ offset_of_block kept i
    → entry ≡ kept.table_offset + 8 * i → bytes ≡ new_block (cluster_size kept.cluster_bits)
    → write_of offset bytes ∷ write_of entry (big_bytes 8 offset) ∷ [] ≡ block_writes kept i
unfolding block_writes
block_writes_are kept i offset entry bytes place at is =
    ap (λ (o : ℕ). write_of o bytes ∷ write_of entry (big_bytes 8 o) ∷ []) place
    ∙ ap (λ (e : ℕ). write_of (offset_of_block kept i) bytes ∷ write_of e (big_bytes 8 (offset_of_block kept i)) ∷ []) at
    ∙ ap (λ (bs : List ℕ). write_of (offset_of_block kept i) bs ∷ write_of (kept.table_offset + 8 * i) (big_bytes 8 (offset_of_block kept i)) ∷ []) is

pub on_err_is : {A E : Type 0} (r : Result A E) (left mid other : KeptRefs) → OnErr r (left ≡ mid) → mid ≡ other → OnErr r (left ≡ other)
on_err_is (Ok done) left mid other same is = tt
on_err_is (Err stop) left mid other same is = same ∙ is

module _ {D : Type 0} (g : Ghosts D) where
  -- what it told before it told this
  wrote_before : (ws : List Write) (a b : D) (new : List ℕ) → Wrote g ws a b → g.content b ≡ Some new
      → (old : List ℕ) × (g.content a ≡ Some old) × (after_writes old ws ≡ new)
  wrote_before ws a b new wrote told = told_before (λ old. after_writes old ws) (g.content a) (g.content b) new wrote.content told

  all_made : (ws : List Write) (a b : D) → Writes g ws None a b → Wrote g ws a b
  all_made ws a b writes = subst (λ made. Wrote g made a b) writes.part writes.wrote

  pub left_kept : (kept : KeptRefs) (n : ℕ) (stop : DevStop) (left : KeptRefs) (a b : D) → StopsAllocating g kept n stop left a b → (left ≡ kept) ⊎ (left ≡ with_block_for kept n)
  left_kept kept n stop left a b stops = elim stops.known [ inl same ↦ inl same.0 | inr placed ↦ inr placed.0 ]

  -- a stop in the writes of the block
  pub block_left : (kept left : KeptRefs) (n : ℕ) (stop : DevStop) (a b : D) → Writes g (block_writes_for kept n) (Some stop) a b → left ≡ kept → StopsAllocating g kept n stop left a b
  block_left kept left n stop a b writes same =
      let block : List Write = block_writes_for kept n in
      let count : List Write = count_write (with_block_for kept n) n ∷ [] in
      record {
        writes = record {
          made = writes.made;
          part = part-sooner (IsCutBy stop) block count writes.made writes.part;
          wrote = writes.wrote;
          cause = cause-sooner g block count writes.made stop (g.capacity a) (g.faults a) (g.faults b) writes.part writes.cause;
          call = call_sooner block count writes.made stop (g.failed_call a) (g.failed_call b) writes.part writes.call;
        };
        known = inl (same, writes.part);
      }

  -- and one behind them
  pub take_left : (kept left : KeptRefs) (n : ℕ) (r : Result (Unit {0}) DevStop) (a b c : D) → Writes g (block_writes_for kept n) None a b
      → Writes g (count_write (with_block_for kept n) n ∷ []) (stop_of r) b c → OnErr r (left ≡ with_block_for kept n) → IfErr r (λ stop. StopsAllocating g kept n stop left a c)
  take_left kept left n (Ok done) a b c first count same = tt
  take_left kept left n (Err stop) a b c first count same =
      let block : List Write = block_writes_for kept n in
      let ws : List Write = count_write (with_block_for kept n) n ∷ [] in
      record {
        writes = record {
          made = block ++ count.made;
          part = part-later (IsCutBy stop) block ws count.made count.part;
          wrote = wrote-then g block count.made a b c (all_made block a b first) count.wrote;
          cause = cause-later g block ws first.made count.made (Some stop) (g.capacity a) (g.capacity b) (g.faults a) (g.faults b) (g.faults c)
              first.wrote.capacity count.part first.cause count.cause;
          call = call_later block ws count.made (Some stop) (g.failed_call a) (g.failed_call b) (g.failed_call c) count.part first.call count.call;
        };
        known = inr (same, ap (λ (ms : List Write). block ++ ms) (count_part (with_block_for kept n) n stop count.made count.part));
      }

  pub taken_writes : (kept : KeptRefs) (n : ℕ) (r : Result (Unit {0}) DevStop) (a b c : D) → Writes g (block_writes_for kept n) None a b
      → Writes g (count_write (with_block_for kept n) n ∷ []) (stop_of r) b c → OnOk r (Writes g (allocation_writes kept n) None a c)
  taken_writes kept n (Ok done) a b c first count = writes_then g (block_writes_for kept n) (count_write (with_block_for kept n) n ∷ []) None a b c first count
  taken_writes kept n (Err stop) a b c first count = tt

  module _ (kept : KeptRefs) (n : ℕ) (a b : D) (step : (file : List ℕ) → g.content a ≡ Some file → IsInStep file kept) (can : CanBeGiven kept n) where
    pub done_step : Writes g (allocation_writes kept n) None a b → (new : List ℕ) → g.content b ≡ Some new → IsInStep new (with_one (with_block_for kept n) n)
    done_step writes new told =
        let was = wrote_before (allocation_writes kept n) a b new (all_made (allocation_writes kept n) a b writes) told in
        subst (λ z. IsInStep z (with_one (with_block_for kept n) n)) was.2 (allocation_done was.0 kept n (step was.0 was.1) can).step

    pub done_unused : Writes g (allocation_writes kept n) None a b → (new : List ℕ) → g.content b ≡ Some new → uses new (header_of new) n ≡ 0
    done_unused writes new told =
        let was = wrote_before (allocation_writes kept n) a b new (all_made (allocation_writes kept n) a b writes) told in
        allocation_unused was.0 kept n (step was.0 was.1) can new (sym was.2)

    pub left_step : (stop : DevStop) (left : KeptRefs) → StopsAllocating g kept n stop left a b → (new : List ℕ) → g.content b ≡ Some new → IsInStep new left
    left_step stop left stops new told =
        let made : List Write = stops.writes.made in
        let was = wrote_before made a b new stops.writes.wrote told in
        let T : KeptRefs → List ℕ → Type 0 = λ k z. IsInStep z k in
        elim stops.known [
          | inl (same, part) ↦ subst (λ k. IsInStep new k) (sym same) (subst (T kept) was.2 (block_for_cut was.0 kept n (step was.0 was.1) can stop made part).step)
          | inr (placed, all) ↦
              let is : after_writes was.0 (all_but_count kept n) ≡ new = ap (after_writes was.0) (sym all) ∙ was.2 in
              subst (λ k. IsInStep new k) (sym placed) (subst (T (with_block_for kept n)) is (allocation_left was.0 kept n (step was.0 was.1) can).step)
        ]

    pub given_stops : AtEachStopOf g KeepsSound (allocation_writes kept n) a
    given_stops = λ file told. allocation_stops file kept n (step file told) can

    pub given_keeps : (stop : Option DevStop) → Writes g (allocation_writes kept n) stop a b → (old new : List ℕ) → g.content a ≡ Some old → g.content b ≡ Some new
        → KeepsCounted old new (header_of old)
    given_keeps stop writes old new was told =
        (content_after g (KeepsSound old) (allocation_writes kept n) stop a b old new writes (given_stops old was) was told).keeps

  -- an answer of the device's stop
  module _ (kept : KeptRefs) (n : ℕ) (a b : D) (stop : DevStop) (e : RefStop) (r : Result ℕ RefStop) (is : r ≡ Err e) (by : e ≡ Dev stop) (first : n ≡ free_cluster kept 0) where
    pub err_stops : AtEachStopOf g KeepsSound (allocation_writes kept n) a → AtEachStopOf g KeepsSound (writes_of_answer kept r) a
    err_stops stops =
        let P : Result ℕ RefStop → Type 0 = λ x. AtEachStopOf g KeepsSound (writes_of_answer kept x) a in
        subst P (sym (is ∙ ap Err by)) (subst (λ m. AtEachStopOf g KeepsSound (allocation_writes kept m) a) first stops)

    pub err_left : (left : KeptRefs) → StopsAllocating g kept n stop left a b → Allocates g kept r left a b
    err_left left stops =
        let P : Result ℕ RefStop → Type 0 = λ x. Allocates g kept x left a b in
        subst P (sym (is ∙ ap Err by)) (subst (λ m. StopsAllocating g kept m stop left a b) first stops)
