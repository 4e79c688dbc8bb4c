-- The store and the nodes of an addition, and what it leaves for want of memory.
use Rattle.std.specs.Prelude.{◌≡◌, ◌⊎◌, ℕ, List, [], Option, Some, None, option_map, unwrap_or}
use Rattle.q2_image.specs.Image.{Known}
use Rattle.qmp_codec.specs.declared.nodes.Added.{Added}
use Rattle.qmp_rules.specs.Table.{RunTable}
use Rattle.qmp_rules.specs.declared.told.Told.{Told}
use Rattle.world_parts.specs.Adding.{Adding, Taken, opens, put_back}
use Rattle.world_parts.specs.Face.{WorldSeen}
use Rattle.world_parts.specs.Looking.{HasLooked, IsLookedBack, Site, site}
use Rattle.world_parts.specs.Stores.{StoreInRun}

-- the world's store and nodes
abbrev pub store_of : WorldSeen → StoreInRun
store_of w = record {
  files = w.files;
  earlier = w.earlier;
  opened = w.opened;
  room = w.room;
  faults = w.faults;
  failed_call = w.failed_call;
}

abbrev pub site_of : WorldSeen → Site
site_of w = site (store_of w) w.nodes

-- ---- a device that no node has

-- the file that a command opens
abbrev pub opened_name : Added (List ℕ) → List ℕ
opened_name driver = unwrap_or (option_map (λ at. at.filename) (opens driver)) []

-- the store once it is back, where there is one
abbrev pub back_if : Added (List ℕ) → Option Taken → StoreInRun → StoreInRun
back_if driver None store = store
back_if driver (Some device) store = put_back (opened_name driver) device store

-- ---- the whole

-- for want of memory all is back
pub record IsUnadded (t : RunTable) (c : Adding) (old new : Site) : Type 0 where
  pub between : Site
  pub out : Option Taken
  pub image : Option Known
  pub told : Told
  pub looked : HasLooked t c old between out image told
  pub is : new ≡ site (back_if c.driver out between.store) between.nodes

abbrev pub IsNotAdded : RunTable → Adding → Site → Site → Type 0
IsNotAdded t c old new = IsLookedBack c.driver old new ⊎ IsUnadded t c old new
