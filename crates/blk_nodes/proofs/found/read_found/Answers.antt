use Rattle.std.proofs.Common.{sym}
use Rattle.blk_nodes.proofs.HeldDevices.{HaveRisen-refl, held_told}
use Rattle.blk_nodes.proofs.found.read_found.Goals as goal

pub returns-in-Zeros-clause-devices : goal.returns-in-Zeros-clause-devices
returns-in-Zeros-clause-devices g c = HaveRisen-refl c.args.devices.now

pub returns-in-File-clause-read : goal.returns-in-File-clause-read
returns-in-File-clause-read g c =
    rw (c.in-File.is, sym c.requires.whole) (λ all good. c.read_file.ensures.read (held_told c.args.devices.now c.in-File.file all) good)

pub returns-in-Image-clause-read : goal.returns-in-Image-clause-read
returns-in-Image-clause-read g c = rw c.in-Image.is (λ all good. c.read_mapped.ensures.read (held_told c.args.devices.now c.in-Image.file all) good)
