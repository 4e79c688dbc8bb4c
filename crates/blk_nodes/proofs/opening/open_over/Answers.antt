use Rattle.std.proofs.Common.{◌≡◌, ◌==◌, ℕ, Bool, true, false, cond, List, refl, sym, subst, Option, Some, None, Ok, Err}
use Rattle.std.specs.Prelude.{Result, MatchOption, is_some}
use Rattle.q2_image.specs.Image.{Known}
use Rattle.blk_nodes.specs.Nodes.{DeviceSeen}
use Rattle.blk_nodes.specs.Overlays.{backing_stop, IsMisfit, IsOpened, IsOpening}
use Rattle.blk_nodes.specs.declared.backing.Backing.{Backing}
use Rattle.blk_nodes.specs.declared.backing.Backing.TheVariants.{Unsaid, Null, Node}
use Rattle.blk_nodes.specs.declared.stop.AddStop.{AddStop}
use Rattle.blk_nodes.specs.declared.stop.AddStop.TheVariants as stops
use Rattle.blk_nodes.proofs.opening.open_over.Goals as goal

abbrev fails : AddStop → Result (Unit {0}) AddStop
fails stop = Err stop

abbrev done : Result (Unit {0}) AddStop
done = Ok tt

-- the image doesn't fit its backing node
module _ (old new : List DeviceSeen) (file : ℕ) (size : ℕ) (image : Known) (opened : IsOpened old file image) (same : new ≡ old) (stop : AddStop) where
  abbrev Answer : Option AddStop → Type 0
  Answer found = MatchOption found (fails stop ≡ done) (λ s. fails stop ≡ fails s)

  misfit : (backing : Backing) (b : Bool) (cause : AddStop) → backing_stop image backing size ≡ cond b (Some cause) None
      → (IsMisfit old file backing size cause → IsOpening old new file backing size cause) → Answer (backing_stop image backing size)
      → IsOpening old new file backing size stop
  misfit backing true cause is opening answer =
      let told : fails stop ≡ fails cause = subst Answer is answer in
      let one : cause ≡ stop = cc (sym told) in
      subst (IsOpening old new file backing size) one (opening (record { image = image; opened = opened; stops = is }))
  misfit backing false cause is opening answer =
      let bad : fails stop ≡ done = subst Answer is answer in
      absurd (cc bad)

  by_backing : (backing : Backing) → Answer (backing_stop image backing size) → IsOpening old new file backing size stop
  by_backing Unsaid answer = misfit Unsaid (is_some image.header.name) stops.BackingNeeded refl (λ m. (m, same)) answer
  by_backing Null answer = misfit Null false stops.BackingNeeded refl (λ m. (m, same)) answer
  by_backing (Node node) answer = at (size == image.header.size) refl answer
    where
      at : (b : Bool) → (size == image.header.size) ≡ b → Answer (cond b None (Some stops.SizeDiffers))
          → IsOpening old new file (Node node) size stop
      at true is answer = absurd (cc answer)
      at false is answer =
          misfit (Node node) true stops.SizeDiffers (λ i. cond (is i) None (Some stops.SizeDiffers)) (λ m. (m, same))
          (subst (λ (b : Bool). Answer (cond b None (Some stops.SizeDiffers))) (sym is) answer)

pub returns-in-Err-check_backing-clause-opened : goal.returns-in-Err-check_backing-clause-opened
returns-in-Err-check_backing-clause-opened g c =
    by_backing c.args.devices.now c.open_image.new.self c.args.file c.args.size c.in-Ok.image c.in-Ok.ensures.opened c.in-Ok.ensures.quiet c.in-Err-check_backing.stop
    c.args.backing.now c.in-Err-check_backing.ensures
