-- Creating an image: why it stops, and what it changes on the device.
use Rattle.std.specs.Prelude.{◌≡◌, ◌⊎◌, ℕ, zero, suc, ◌<◌, ◌≤◌, Bool, true, false, List, [], ◌∷◌, ◌++◌, length, slice_index, take, drop, replicate, Option, Some, None, is_some, Result, Ok, Err, codes, decimal}
use Rattle.std.specs.Option.{option_map}
use Rattle.blk_base.specs.Content.{Write, after_writes}
use Rattle.blk_base.specs.Counts.{Rose}
use Rattle.blk_base.specs.Device.{Untouched, Writes}
use Rattle.blk_base.specs.Writes.{write_of}
use Rattle.blk_base.specs.declared.device.Device.{Ghosts}
use Rattle.blk_base.specs.declared.fault.DevStop.{DevStop}
use Rattle.blk_base.specs.declared.fault.DevStop.TheVariants as device
use Rattle.q2_format.specs.Bytes.{place_bytes}
use Rattle.q2_format.specs.Created.{Creation, AreZeros, HasCreatedHeader, HasCreatedTable, HasCreatedCounts}
use Rattle.q2_format.specs.Sound.{InHeader, image_refusal}
use Rattle.q2_format.specs.declared.header.HeaderStop.TheVariants.{Magic}
use Rattle.q2_image.specs.declared.header.TheConstants.{CLUSTER}
use Rattle.q2_format.specs.declared.layout.TheConstants.{CREATED_L1_TABLE, CREATED_REFCOUNT_BLOCK, CREATED_REFCOUNT_TABLE}
use Rattle.q2_format.specs.declared.header.Place.{Place}
use Rattle.q2_image.specs.declared.create.CreateStop.{CreateStop}
use Rattle.q2_image.specs.declared.create.CreateStop.TheVariants.{Io, NoSpace, NoMemory}

-- Why an image that ends at `end` is created or not: want of space is answered exactly above the capacity; a call fails
-- only where the device's count rose, and the stop names the count.
abbrev pub CreationAnswers : {A : Type 0} → ℕ → ℕ → ℕ → ℕ → Result A CreateStop → Type 0
CreationAnswers end capacity before now (Ok done) = end ≤ capacity
CreationAnswers end capacity before now (Err (Io count)) =
    (end ≤ capacity) × Rose before count × (count ≡ now)
CreationAnswers end capacity before now (Err NoSpace) = capacity < end
CreationAnswers end capacity before now (Err NoMemory) = end ≤ capacity

-- whether an answer comes behind the first write
abbrev pub wrote : {A : Type 0} → Result A CreateStop → Bool
wrote (Ok done) = true
wrote (Err (Io count)) = true
wrote (Err NoSpace) = false
wrote (Err NoMemory) = false

-- a failed call with its cause, and no other stop
abbrev pub IsFailedCall : ℕ → ℕ → CreateStop → Type 0
IsFailedCall before now (Io count) = Rose before count × (count ≡ now)
IsFailedCall before now NoSpace = ⊥
IsFailedCall before now NoMemory = ⊥

-- What a device tells has changed only from one place to another, and none was cut off.
pub record ChangesWithin (old new : Option (List ℕ)) (from to : ℕ) : Type 0 where
  pub told : is_some new ≡ is_some old
  pub outside : (before after : List ℕ) → old ≡ Some before → new ≡ Some after → (i : ℕ)
      → (i < from) ⊎ (to ≤ i)
      → slice_index after i ≡ slice_index before i
  pub grows : (before after : List ℕ) → old ≡ Some before → new ≡ Some after
      → length before ≤ length after

-- a file's first sector is zeros, so the file is no image
pub record LacksHeader (file : List ℕ) : Type 0 where
  pub sector : AreZeros file 0 512
  pub whole : 512 ≤ length file

-- the text at a place of a file, where there is one
abbrev pub text_at : List ℕ → Option Place → Option (List ℕ)
text_at file place = option_map (λ (place : Place). place_bytes file place.at place.len) place

-- Which writes make an image.

-- the stop of the device's call in an answer
abbrev pub call_stop : {A : Type 0} → Result A CreateStop → Option DevStop
call_stop (Ok done) = None
call_stop (Err (Io count)) = Some (device.Io count)
call_stop (Err NoSpace) = Some device.NoSpace
call_stop (Err NoMemory) = Some device.NoSpace

-- the write of a cluster at a place
pub record IsClusterAt (place : ℕ) (w : Write) : Type 0 where
  pub offset : w.offset ≡ place
  pub whole : length w.bytes ≡ CLUSTER

-- the write of a part of the header's cluster
pub record IsOfHeader (new : Creation) (part : List ℕ → Write) (w : Write) : Type 0 where
  pub cluster : List ℕ
  pub whole : length cluster ≡ CLUSTER
  pub header : HasCreatedHeader new cluster
  pub is : w ≡ part cluster

-- The writes by their number: zeros over the header's first sector; the L1 table, the refcount block and the refcount
-- table; the header's cluster behind its first sector; and last that sector.
abbrev pub IsStage : Creation → ℕ → Write → Type 0
IsStage new zero w = w ≡ write_of 0 (replicate 512 0)
IsStage new (suc zero) w = w ≡ write_of CREATED_L1_TABLE (replicate CLUSTER 0)
IsStage new (suc (suc zero)) w =
    IsClusterAt CREATED_REFCOUNT_BLOCK w × HasCreatedCounts new w.bytes 0
IsStage new (suc (suc (suc zero))) w =
    IsClusterAt CREATED_REFCOUNT_TABLE w × HasCreatedTable new w.bytes 0
IsStage new (suc (suc (suc (suc zero)))) w =
    IsOfHeader new (λ cluster. write_of 512 (drop 512 cluster)) w
IsStage new (suc (suc (suc (suc (suc zero))))) w =
    IsOfHeader new (λ cluster. write_of 0 (take 512 cluster)) w
IsStage new (suc (suc (suc (suc (suc (suc k)))))) w = ⊥

-- those from one number on
abbrev pub AreStages : Creation → ℕ → List Write → Type 0
AreStages new k [] = Unit {0}
AreStages new k (w ∷ ws) = IsStage new k w × AreStages new (suc k) ws

-- So many of them are made from one number on; where the call stopped, those before one of them, and a part of that one.
pub record MakesStages {D : Type 0} (g : Ghosts D) (new : Creation) (from count : ℕ)
    (stop : Option DevStop) (before now : D) : Type 0 where
  pub ws : List Write
  pub stages : AreStages new from ws
  pub all : stop ≡ None → length ws ≡ count
  pub writes : Writes g ws stop before now

-- wherever it is stopped, the file is as before or no image, until all of its writes are made
abbrev pub IsBeforeOrNone : List Write → List ℕ → List ℕ → Type 0
IsBeforeOrNone ws before now =
    (now ≡ before) ⊎ ((image_refusal now ≡ Some (InHeader Magic)) ⊎ (now ≡ after_writes before ws))

-- what the creation of an image leaves of a device
abbrev pub MakesImage : {A D : Type 0} → Ghosts D → Creation → Result A CreateStop → D → D → Type 0
MakesImage g new (Ok done) before now = MakesStages g new 0 6 None before now
MakesImage g new (Err (Io count)) before now =
    MakesStages g new 0 6 (Some (device.Io count)) before now
MakesImage g new (Err NoSpace) before now = Untouched g before now
MakesImage g new (Err NoMemory) before now = Untouched g before now

-- how a stop prints
abbrev pub create_text : CreateStop → List ℕ
create_text (Io count) = codes "Io(" ++ decimal count ++ codes ")"
create_text NoSpace = codes "NoSpace"
create_text NoMemory = codes "NoMemory"
