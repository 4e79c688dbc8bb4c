-- A fault that a job meets is a rise of its device's count since that was opened.
use Rattle.std.proofs.Common.{◌≡◌, ℕ, zero, suc, ◌≤◌, List, [], ◌∷◌, ◌++◌, drop, length, map, refl, sym, ◌∙◌, ap, arith, Option, Some, None}
use Rattle.std.specs.Prelude.{Contains, option_map, slice_get}
use Rattle.std.proofs.lemmas.Option.{slice_get-map}
use Rattle.blk_base.specs.Counts.{HasFailedSince}
use Rattle.blk_base.specs.declared.fault.DevNo.{DevNo}
use Rattle.blk_base.specs.declared.fault.FaultFrom.TheVariants.{Dev}
use Rattle.blk_base.specs.declared.file.Opened.{Opened}
use Rattle.blk_graph.proofs.Members.{find-Some}
use Rattle.blk_nodes.specs.Nodes.{DeviceSeen, device_in, is_device_of}
use Rattle.flat_machine.specs.EventLicence.{ReachesDevice}
use Rattle.flat_machine.specs.Licence.{IsBetweenCounts, fault_at, source_count}
use Rattle.world_parts.specs.Coherent.{AreOut, IsOut}
use Rattle.world_parts.specs.Counting.{IsFaultReached, counts_within, seen_sources}
use Rattle.world_parts.specs.Face.{WorldSeen, counts_now, first_counts}
use Rattle.world_parts.proofs.CountLemmas.{count-out, with-of}
use Rattle.world_parts.proofs.InStep.{with-at}

get_front : (xs ys : List ℕ) (n x : ℕ) → slice_get xs n ≡ Some x → slice_get (xs ++ ys) n ≡ Some x
get_front [] ys n x e = absurd (let bad : ⊥ = cc e in bad)
get_front (y ∷ xs) ys zero x e = e
get_front (y ∷ xs) ys (suc n) x e = get_front xs ys n x e

-- a device that is held has the number
record IsHeldAs (devices : List DeviceSeen) (number : ℕ) : Type 0 where
  device : DeviceSeen
  there : Contains devices device
  is : device.number.0 ≡ number

held_as : (devices : List DeviceSeen) (node number : ℕ) → option_map (λ (d : DeviceSeen). d.number.0) (device_in devices node) ≡ Some number → IsHeldAs devices number
held_as devices node number e = by_found (device_in devices node) refl e
  where
    by_found : (found : Option DeviceSeen) → device_in devices node ≡ found → option_map (λ (d : DeviceSeen). d.number.0) found ≡ Some number → IsHeldAs devices number
    by_found None at bad = absurd (let no : ⊥ = cc bad in no)
    by_found (Some d) at same = record { device = d; there = (find-Some (is_device_of node) devices d at).0; is = cc same }

module _ (w v : WorldSeen) (opened : v.opened ≡ w.opened) (out : AreOut w.table w.nodes w.opened) where
  pub met_reached : (node count : ℕ) (dev : DevNo) → ReachesDevice w.table (seen_sources w) node dev.0
      → IsBetweenCounts (counts_within w v) (counts_now v) (fault_at (Dev dev) count) → count ≤ 18446744073709551615 → IsFaultReached w v (fault_at (Dev dev) count)
  met_reached node count dev way new fits = record {
    rise = record {
      risen =
          with-of (source_count (first_counts v) (Dev dev)) first.opening.faults (λ before. HasFailedSince before count) first_is
          (let since = new_risen in let least = first.faults in omega arith);
      reached = new.reached;
    };
    new = new;
    fits = fits;
  }
    where
      held : IsHeldAs w.nodes.devices dev.0
      held = held_as w.nodes.devices way.file dev.0 way.device

      first : IsOut w.table w.opened held.device
      first = out.each held.device held.there

      first_is : slice_get (map (λ (o : Opened). o.faults) v.opened) dev.0 ≡ Some first.opening.faults
      first_is =
          ap (λ (all : List Opened). slice_get (map (λ (o : Opened). o.faults) all) dev.0) opened
          ∙ slice_get-map (λ (o : Opened). o.faults) w.opened dev.0
          ∙ ap (λ (n : ℕ). option_map (λ (o : Opened). o.faults) (slice_get w.opened n)) (sym held.is)
          ∙ ap (option_map (λ (o : Opened). o.faults)) first.there

      was_is : slice_get (counts_within w v).devices dev.0 ≡ Some held.device.faults
      was_is =
          get_front (counts_now w).devices (drop (length w.opened) (first_counts v).devices) dev.0 held.device.faults
          (ap (slice_get (counts_now w).devices) (sym held.is) ∙ count-out w.table w.nodes w.opened held.device held.there out)

      new_risen : HasFailedSince held.device.faults count
      new_risen = with-at (source_count (counts_within w v) (Dev dev)) held.device.faults (λ before. HasFailedSince before count) was_is new.risen
