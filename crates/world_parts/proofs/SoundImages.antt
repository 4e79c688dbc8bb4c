-- The image in the file of each qcow2 node is sound.
use Rattle.std.proofs.Common.{◌≡◌, ℕ, true, List, sym, refl, subst, Option, Some, None}
use Rattle.std.specs.Prelude.{is_some}
use Rattle.std.proofs.lemmas.Bool.{false≢true}
use Rattle.blk_base.specs.declared.file.File.{File}
use Rattle.q2_format.specs.Sound.{IsSound}
use Rattle.blk_history.specs.Fold.{With}
use Rattle.blk_nodes.specs.Joined.{IsJoined}
use Rattle.blk_nodes.specs.Nodes.{DeviceSeen, AreTold, device_in}
use Rattle.flat_machine.specs.Final.{bytes_named}
use Rattle.flat_machine.specs.Imaging.{ImagesAreSound}
use Rattle.flat_machine.specs.Writing.{written_file}
use Rattle.flat_machine.proofs.ImagesKept.{sound_same}
use Rattle.world_parts.specs.Coherent.{IsCoherent}
use Rattle.world_parts.specs.Face.{WorldSeen, held, told_bytes}
use Rattle.world_parts.proofs.ImageRows.{HasImageFile, image_file, image_written}
use Rattle.world_parts.proofs.ImageTold.{told-device, held-is}

module _ (w : WorldSeen) (joined : IsJoined w.nodes) (coherent : IsCoherent w.table w.nodes w.opened w.progress) (told : AreTold w.nodes.devices) where
  pub images-sound : ImagesAreSound w.table (held w)
  images-sound node image =
      subst (λ (x : Option (List ℕ)). With x (λ n. With (held w n) IsSound)) (sym name.1)
      (subst (λ (x : Option (List ℕ)). With x IsSound) (sym (held-is w name.0 of.file at.0 at.1 of.over_it at.2 at.3))
      (of.known at.0 at.1 at.2 at.3).sound)
    where
      name : (n : List ℕ) × (written_file w.table node ≡ Some n)
      name = image_written w.table w.nodes coherent.alike joined coherent.table.stands node image

      of : HasImageFile w.table w.nodes node name.0
      of = image_file w.table w.nodes coherent.alike joined coherent.table.stands node name.0 image name.1

      at : (d : DeviceSeen) × (bytes : List ℕ) × (device_in w.nodes.devices of.file ≡ Some d) × (d.content ≡ Some bytes)
      at = told-device w.nodes.devices told of.file of.has_device

-- as the store tells its files at the end
pub all-sound : (w : WorldSeen) (files : Option (List File)) → is_some files ≡ true → ((name : List ℕ) → told_bytes files name ≡ held w name) → ImagesAreSound w.table (held w)
    → With files (λ fs. ImagesAreSound w.table (bytes_named fs))
all-sound w None some holds sound = absurd (false≢true some)
all-sound w (Some files) some holds sound = sound_same w.table w.table (held w) (bytes_named files) refl holds sound
