-- The only device of nodes, once it is handed out.
use Rattle.std.proofs.Common.{◌≡◌, ℕ, List, [], ◌∷◌, sym, ◌∙◌, ap}
use Rattle.blk_base.specs.declared.device.Device.{Ghosts}
use Rattle.blk_base.specs.declared.fault.DevNo.{DevNo}
use Rattle.blk_nodes.specs.Handing.{device_state}
use Rattle.blk_nodes.specs.Nodes.{Nodes, DeviceSeen}
use Rattle.qblk_core.specs.Closing.{IsOnlyDevice}
use Rattle.qblk_core.specs.ImageNodes.{only_device, seen_device, HaveOneImage}

pub handed : {D : Type 0} (g : Ghosts D) (devices rest : List DeviceSeen) (device : DeviceSeen) (node : ℕ) (number : DevNo) (d : D)
    → IsOnlyDevice devices device → devices ≡ device_state g node number d ∷ rest → (rest ≡ []) × (devices ≡ seen_device g d ∷ [])
handed g devices rest device node number d only is =
    let both : device ∷ [] ≡ device_state g node number d ∷ rest = sym only.only ∙ is in
    let same : device ≡ device_state g node number d = cc both in
    let none : rest ≡ [] = cc both in
    let n : node ≡ 0 = sym (ap (λ (x : DeviceSeen). x.node) same) ∙ only.node in
    let k : number ≡ only_device = sym (ap (λ (x : DeviceSeen). x.number) same) ∙ only.number in (
      none,
      is ∙ ap (λ (r : List DeviceSeen). device_state g node number d ∷ r) none
          ∙ ap (λ (m : ℕ). device_state g m number d ∷ []) n
          ∙ ap (λ (m : DevNo). device_state g 0 m d ∷ []) k,
    )

pub only-of : (nodes : Nodes) (one : HaveOneImage nodes) → IsOnlyDevice nodes.devices one.device
only-of nodes one = record { only = one.only; node = one.node; number = one.number }
