-- What a device in memory tells agrees with itself.
use Rattle.std.specs.Prelude.{◌≡◌, ℕ, Bool, true, false, if◌then◌else◌, List, length, Some, None}
use Rattle.std.proofs.Common.{ap, sym, ◌∙◌}
use Rattle.blk_base.specs.Content.{Log, Write, after_writes}
use Rattle.blk_fakes.specs.Disk.{DeviceState, device_bytes, log_of}

pub size_told : (d : DeviceState) (b : List ℕ) → Some (device_bytes d.disk) ≡ Some b
    → length (device_bytes d.disk) ≡ length b
size_told d b told = let same : device_bytes d.disk ≡ b = cc in ap length same

either : (kept : Bool) (before bytes b : List ℕ) (writes : List Write) (l : Log)
    → Some (if kept then after_writes before writes else bytes) ≡ Some b
    → (if kept then Some (record { before = before; writes = writes }) else None) ≡ Some l
    → b ≡ after_writes l.before l.writes
either true before bytes b writes l told is =
    let log : record { before = before; writes = writes } ≡ l = cc in
    let same : after_writes before writes ≡ b = cc in
    sym same ∙ ap (λ (k : Log). after_writes k.before k.writes) log
either false before bytes b writes l told is = absurd (cc)

pub log_told : (d : DeviceState) (b : List ℕ) (l : Log) → Some (device_bytes d.disk) ≡ Some b
    → log_of d.disk.log ≡ Some l → b ≡ after_writes l.before l.writes
log_told d b l told is =
    either d.disk.log.is_kept d.disk.log.before d.disk.bytes b d.disk.log.writes l told is
