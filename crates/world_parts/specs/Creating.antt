-- What a creation makes of the store and the nodes, or a call of it that failed.
use Rattle.std.specs.Prelude.{◌≡◌, ◌≢◌, ℕ, replicate, true, List, Some, option_map, Result, Ok, Err}
use Rattle.blk_base.specs.Counts.{Rose}
use Rattle.blk_base.specs.Files.{put_file, IfTold}
use Rattle.blk_base.specs.Stored.{LeavesOthers}
use Rattle.blk_base.specs.declared.fault.FaultFrom.TheVariants.{Store, Dev}
use Rattle.blk_base.specs.declared.store.StoreCall.TheVariants as calls
use Rattle.q2_format.specs.Created.{Creation, creation_of}
use Rattle.qmp_codec.specs.declared.nodes.CreateQcow2.{CreateQcow2}
use Rattle.qmp_codec.specs.declared.nodes.Created.{Created}
use Rattle.qmp_codec.specs.declared.nodes.Created.TheVariants as created
use Rattle.qmp_rules.specs.Asks.{id_or}
use Rattle.qmp_rules.specs.Table.{RunTable}
use Rattle.qmp_asks.specs.Values.{amount_or}
use Rattle.qmp_rules.specs.declared.judge.PrepareStop.{PrepareStop}
use Rattle.qmp_rules.specs.declared.judge.PrepareStop.TheVariants.{Refused, NoMemory}
use Rattle.qmp_rules.specs.declared.refusal.Refusal.{Refusal}
use Rattle.qmp_rules.specs.declared.refusal.Refusal.TheVariants as refusal
use Rattle.flat_machine.specs.Changed.{format_name}
use Rattle.blk_nodes.specs.Contents.{disk_of}
use Rattle.blk_nodes.specs.Formatting.{IsFormatAt}
use Rattle.blk_nodes.specs.declared.stop.FormatStop.{FormatStop}
use Rattle.blk_nodes.specs.declared.stop.FormatStop.TheVariants as stop
use Rattle.world_parts.specs.Deleting.{Ground}
use Rattle.world_parts.specs.Steps.{StoreSeen}

-- ---- files

-- the store with a file of so many zeros
abbrev pub with_zeroed_file : List ℕ → ℕ → StoreSeen → StoreSeen
with_zeroed_file name size store = record store {
  files = option_map
      (put_file (record {
        name = name;
        bytes = replicate size 0;
        capacity = store.room;
        is_flushed = true;
      })) store.files;
}

-- the store failed to make a file of so many zeros, and has this count: the file may hold anything
pub record HasMakingFailed (name : List ℕ) (size : ℕ) (old new : StoreSeen)
    (cause : Refusal) : Type 0 where
  pub names : cause ≡ refusal.Io Store new.faults
  pub rose : Rose old.faults new.faults
  pub others : LeavesOthers name old.files new.files
  pub call : IfTold new.failed_call
      (λ last. last ≡ record { name = name; call = calls.Create size })
  pub kept : new ≡ record old {
    files = new.files;
    faults = new.faults;
    failed_call = new.failed_call;
  }

-- ---- images

-- what an image is created from
abbrev pub creation_for : CreateQcow2 (List ℕ) → Creation
creation_for c =
    creation_of (amount_or 0 (Some c.size)) c.backing_file (option_map format_name c.backing_fmt)

-- why none was created, as a refusal
abbrev pub unformatted : FormatStop → PrepareStop
unformatted (stop.Io dev count) = Refused (refusal.Io (Dev dev) count)
unformatted (stop.NoSpace dev) = Refused (refusal.NoSpace dev)
unformatted stop.NoMemory = NoMemory

-- ---- creations

-- what creating an image in a node's file leaves, which went so
pub record HasFormatted (node : ℕ) (old now : Ground) (image : Creation)
    (outcome : Result (Unit {0}) FormatStop) : Type 0 where
  pub store : now.store ≡ old.store
  pub kept : now.nodes ≡ record old.nodes { devices = now.nodes.devices }
  pub format : IsFormatAt node old.nodes.devices now.nodes.devices image outcome
  pub others : (other : ℕ) → other ≢ node → disk_of now.nodes other ≡ disk_of old.nodes other

-- it was carried out
abbrev pub HasCreated : RunTable → Created (List ℕ) → Ground → Ground → Type 0
HasCreated t (created.File c) old now =
    now ≡ record old { store = with_zeroed_file c.filename (amount_or 0 (Some c.size)) old.store }
HasCreated t (created.Qcow2 c) old now =
    HasFormatted (id_or 0 t (Some c.file)) old now (creation_for c) (Ok tt)
HasCreated t created.Unknown old now = ⊥

-- a call of it failed, for this
pub record HasFormatFailed (node : ℕ) (old now : Ground) (image : Creation)
    (cause : Refusal) : Type 0
  where
    pub why : FormatStop
    pub formatted : HasFormatted node old now image (Err why)
    pub is : unformatted why ≡ Refused cause

abbrev pub IsFailed : RunTable → Created (List ℕ) → Ground → Ground → Refusal → Type 0
IsFailed t (created.File c) old now cause =
    (now.nodes ≡ old.nodes)
    × HasMakingFailed c.filename (amount_or 0 (Some c.size)) old.store now.store cause
IsFailed t (created.Qcow2 c) old now cause =
    HasFormatFailed (id_or 0 t (Some c.file)) old now (creation_for c) cause
IsFailed t created.Unknown old now cause = ⊥
