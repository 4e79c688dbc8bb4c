use Rattle.std.proofs.Common.{◌≤◌, ℕ, List, length, slice_index_or, None, Some, Option, Err, sym, ap, subst, ◌∙◌, arith}
use Rattle.blk_base.specs.declared.fault.DevStop.{DevStop}
use Rattle.q2_refs.specs.Allocating.{Allocates, StopsAllocating, end_of_allocation}
use Rattle.q2_refs.specs.declared.allocating.RefStop.{RefStop}
use Rattle.q2_format.specs.Header.{header_of}
use Rattle.q2_format.specs.Tables.{refcount_of}
use Rattle.q2_refs.specs.Free.{free_cluster, free_clusters}
use Rattle.q2_image.specs.Image.{Known, IsImageOf}
use Rattle.q2_image.specs.Made.{MakesSteps, take_steps}
use Rattle.q2_image.specs.Writing.{IsSpare}
use Rattle.q2_image.proofs.Changes.{take_made, take_stopped}
use Rattle.q2_image.proofs.Taken.{allocated_told, told_too, taken_fault, image_taken, spare_stays, disk_taken, open_with_refs, ready_result, fresh_count, by_size}
use Rattle.q2_image.proofs.image.Image.take_cluster.Goals as goal
use Rattle.q2_image.proofs.image.Image.take_cluster.Goals.{in-Ok, in-Err-Dev}

pub returns-clause-spare_stay : goal.returns-clause-spare_stay
returns-clause-spare_stay g c = λ old new n told_old told_new spare.
    let seen : Known = record { header = c.self.inside.header; tables = c.self.inside.tables; refs = c.self.inside.refs } in
    let P : Known → Type 0 = IsImageOf old in
    spare_stays old new seen c.allocate.new.self (subst P (sym c.self.view_is) (c.requires.image old told_old)) (c.allocate.ensures.keeps old new told_old told_new) (c.allocate.ensures.step new told_new) n spare

pub returns-clause-told : goal.returns-clause-told
returns-clause-told g c = allocated_told g.D.Device c.self.inside.refs c.allocate.new.self c.allocate.result c.args.dev.now c.allocate.new.dev c.allocate.ensures.leaves

pub returns-clause-cause : goal.returns-clause-cause
returns-clause-cause g c =
    elim c.match-allocate.branch [
      | in-Ok w ↦ rw w.result-is tt
      | in-Err-Dev w ↦ rw w.result-is
          (let P : Known → Type 0 = λ k. end_of_allocation k.refs (free_cluster k.refs 0) ≤ g.D.Device.capacity c.args.dev.now in
          let fits : end_of_allocation c.self.inside.refs (free_cluster c.self.inside.refs 0) ≤ g.D.Device.capacity c.args.dev.now =
          subst P (sym c.self.view_is) c.requires.can.fits in
          let L : RefStop → Type 0 = λ x. Allocates g.D.Device c.self.inside.refs (Err x) c.allocate.new.self c.args.dev.now c.allocate.new.dev in
          let stops : StopsAllocating g.D.Device c.self.inside.refs (free_cluster c.self.inside.refs 0) w.in-Err-Dev.stop c.allocate.new.self c.args.dev.now c.allocate.new.dev =
          subst L w.in-Err-Dev.field-0-is w.in-Err-Dev.ensures.leaves in
          taken_fault g.D.Device c.self.inside.refs w.in-Err-Dev.stop c.args.dev.now c.allocate.new.dev fits stops.writes)
    ]

pub returns-clause-image : goal.returns-clause-image
returns-clause-image g c = λ file told.
    let seen : Known = record { header = c.self.inside.header; tables = c.self.inside.tables; refs = c.self.inside.refs } in
    let before = told_too (g.D.Device.content c.args.dev.now) (g.D.Device.content c.allocate.new.dev) file (allocated_told g.D.Device c.self.inside.refs c.allocate.new.self c.allocate.result c.args.dev.now c.allocate.new.dev c.allocate.ensures.leaves) told in
    let P : Known → Type 0 = IsImageOf before.0 in
    image_taken before.0 file seen c.allocate.new.self (subst P (sym c.self.view_is) (c.requires.image before.0 before.1)) (c.allocate.ensures.keeps before.0 file before.1 told) (c.allocate.ensures.step file told)

pub returns-clause-disk : goal.returns-clause-disk
returns-clause-disk g c = λ old new told_old told_new.
    let seen : Known = record { header = c.self.inside.header; tables = c.self.inside.tables; refs = c.self.inside.refs } in
    let P : Known → Type 0 = IsImageOf old in
    disk_taken old new seen c.allocate.new.self (subst P (sym c.self.view_is) (c.requires.image old told_old)) (c.allocate.ensures.keeps old new told_old told_new) (c.allocate.ensures.step new told_new)
    c.self.invariant (open_with_refs seen c.allocate.new.self c.self.invariant (ready_result g.D.Device c.self.inside.refs c.allocate.new.self c.allocate.result c.args.dev.now c.allocate.new.dev c.allocate.ensures.leaves))

pub returns-clause-spare : goal.returns-clause-spare
returns-clause-spare g c =
    let bits = ap (λ (k : Known). k.header.cluster_bits) (sym c.self.view_is) ∙ c.self.invariant.cluster_bits in
    elim c.match-allocate.branch [
      | in-Ok w ↦ rw (w.result-is, bits) (λ file told.
          let S : ℕ → Type 0 = IsSpare file in
          subst S (sym (by_size w.in-Ok.cluster w.cluster_size.result w.cluster_size.ensures.number))
          (record {
            unnamed = w.in-Ok.ensures.unused_still file told;
            counted = λ none. let one = w.in-Ok.ensures.counted file told in omega (arith, one, none);
          }))
      | in-Err-Dev w ↦ rw w.result-is tt
    ]

pub returns-clause-fresh : goal.returns-clause-fresh
returns-clause-fresh g c =
    let bits = ap (λ (k : Known). k.header.cluster_bits) (sym c.self.view_is) ∙ c.self.invariant.cluster_bits in
    let seen : Known = record { header = c.self.inside.header; tables = c.self.inside.tables; refs = c.self.inside.refs } in
    elim c.match-allocate.branch [
      | in-Ok w ↦ rw (w.result-is, bits) (λ file told.
          let P : Known → Type 0 = IsImageOf file in
          let is = subst P (sym c.self.view_is) (c.requires.image file told) in
          ap (refcount_of file (header_of file)) (by_size w.in-Ok.cluster w.cluster_size.result w.cluster_size.ensures.number)
          ∙ fresh_count file seen w.in-Ok.cluster (free_clusters c.allocate.new.self) is w.in-Ok.ensures.given w.in-Ok.ensures.below)
      | in-Err-Dev w ↦ rw w.result-is tt
    ]

pub returns-clause-steps : goal.returns-clause-steps
returns-clause-steps g c =
    let seen : Known = record { header = c.self.inside.header; tables = c.self.inside.tables; refs = c.self.inside.refs } in
    let left : Known = record seen { refs = c.allocate.new.self } in
    let M : Option DevStop → Known → Type 0 = λ stop k. MakesSteps g.D.Device k (take_steps k) stop left c.args.dev.now c.allocate.new.dev in
    elim c.match-allocate.branch [
      | in-Ok w ↦ rw w.result-is
          (let first = sym (ap (λ (xs : List ℕ). slice_index_or xs 0 (length c.self.inside.refs.counts)) w.in-Ok.ensures.given) in
          subst (M None) c.self.view_is
          (take_made g.D.Device seen w.in-Ok.cluster c.allocate.new.self c.args.dev.now c.allocate.new.dev first w.in-Ok.ensures.leaves.1 w.in-Ok.ensures.leaves.0))
      | in-Err-Dev w ↦ rw w.result-is
          (let L : RefStop → Type 0 = λ x. Allocates g.D.Device c.self.inside.refs (Err x) c.allocate.new.self c.args.dev.now c.allocate.new.dev in
          subst (M (Some w.in-Err-Dev.stop)) c.self.view_is
          (take_stopped g.D.Device seen w.in-Err-Dev.stop c.allocate.new.self c.args.dev.now c.allocate.new.dev
          (subst L w.in-Err-Dev.field-0-is w.in-Err-Dev.ensures.leaves)))
    ]
