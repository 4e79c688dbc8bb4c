use Rattle.std.proofs.Common.{◌≡◌, ◌∙◌, ◌||◌, length, ap, arith}
use Rattle.std.proofs.lemmas.List.FromFn.{length-map-range_with_len}
use Rattle.blk_bits.specs.Granules.{contains, overlaps_member}
use Rattle.blk_bits.proofs.MergeLemmas.{IsRunOfMembers, merged-none, merged-run, merged-all}
use Rattle.blk_bits.proofs.dirty_set.DirtySet.add_overlapped.Goals as goal

pub loop-from-init : goal.loop-from-init
loop-from-init c = merged-none c.args.ratio c.args.self.now c.args.other.now

pub set_span-requires-clause-within : goal.set_span-requires-clause-within
set_span-requires-clause-within c =
    omega (
      arith,
      c.overlapped-span.ensures.within,
      c.granules-count.ensures,
      ap length c.loop-from.invariant,
      length-map-range_with_len (λ k. contains c.args.self.now k || overlaps_member c.args.ratio c.args.other.now k c.loop-from.seen) 0 (length c.args.self.now),
    )

pub loop-from-preserved : goal.loop-from-preserved
loop-from-preserved c =
    let run : IsRunOfMembers c.args.ratio c.args.self.now c.args.other.now c.loop-from.seen c.in-Some.from c.run_end-to.result c.overlapped-span.result.from c.overlapped-span.result.to c.max-seen.result
    = record {
      some = c.requires;
      least = c.in-Some.ensures;
      order = c.run_end-to.ensures.further;
      members = c.run_end-to.ensures.members;
      ends = λ k below. c.overlapped-span.ensures.ends k (omega (arith, c.granules-count.ensures, below));
      begins = c.overlapped-span.ensures.begins;
      further = omega (arith, c.max-seen.ensures);
      covered = λ j past before. c.covered.ensures j (omega (arith, c.max-seen.ensures, past, before));
    } in
    merged-run c.args.ratio c.args.self.now c.args.other.now c.loop-from.self c.set_span.new.self c.loop-from.seen c.in-Some.from c.run_end-to.result
    c.overlapped-span.result.from c.overlapped-span.result.to c.max-seen.result run c.loop-from.invariant c.set_span.ensures

pub returns : goal.returns
returns c = merged-all c.args.ratio c.args.self.now c.args.other.now c.loop-from.self c.loop-from.seen c.in_default.ensures c.loop-from.invariant
