use Rattle.std.proofs.Common.{arith}
use Rattle.blk_base.specs.Device.{stop_of}
use Rattle.blk_base.proofs.DeviceLemmas.{wrote-told}
use Rattle.q2_tables.proofs.LinkWrites.{table_reaches}
use Rattle.q2_image.proofs.Changes.{one_fault}
use Rattle.q2_image.proofs.Payload.{bytes_written, image_written, disk_written, spare_written}
use Rattle.q2_image.proofs.image.Image.write_payload.Goals as goal

pub returns-clause-written : goal.returns-clause-written
returns-clause-written g c =
    let bits = c.requires.open.cluster_bits in
    rw bits (bytes_written g.D.Device c.args.host c.args.bytes.now c.write.result c.args.dev.now c.write.new.dev c.write.ensures (rw bits at c.requires.whole))

pub returns-clause-reaches : goal.returns-clause-reaches
returns-clause-reaches g c =
    let bits = c.requires.open.cluster_bits in
    rw bits (table_reaches g.D.Device c.args.dev.now c.write.new.dev c.write.result c.args.host 65536 c.args.bytes.now c.write.ensures (rw bits at c.requires.whole) (omega arith))

pub returns-clause-spare_stay : goal.returns-clause-spare_stay
returns-clause-spare_stay g c =
    let bits = c.requires.open.cluster_bits in
    spare_written g.D.Device c.args.self.now c.args.host c.args.bytes.now (stop_of c.write.result) c.args.dev.now c.write.new.dev c.write.ensures
    c.requires.image c.requires.open (rw bits at c.requires.idle) (rw bits at c.requires.aligned) (let whole = rw bits at c.requires.whole in omega (arith, whole)) c.requires.small

pub returns-clause-image : goal.returns-clause-image
returns-clause-image g c =
    let bits = c.requires.open.cluster_bits in
    image_written g.D.Device c.args.self.now c.args.host c.args.bytes.now (stop_of c.write.result) c.args.dev.now c.write.new.dev c.write.ensures
    c.requires.image c.requires.open (rw bits at c.requires.idle) (rw bits at c.requires.aligned) (let whole = rw bits at c.requires.whole in omega (arith, whole)) c.requires.small

pub returns-clause-disk : goal.returns-clause-disk
returns-clause-disk g c =
    let bits = c.requires.open.cluster_bits in
    disk_written g.D.Device c.args.self.now c.args.host c.args.bytes.now (stop_of c.write.result) c.args.dev.now c.write.new.dev c.write.ensures
    c.requires.image c.requires.open (rw bits at c.requires.idle) (rw bits at c.requires.aligned) (let whole = rw bits at c.requires.whole in omega (arith, whole)) c.requires.small

pub returns-clause-cause : goal.returns-clause-cause
returns-clause-cause g c =
    one_fault g.D.Device _ c.write.result c.args.dev.now c.write.new.dev (let fits = c.requires.fits in let whole = c.requires.whole in omega (arith, fits, whole)) c.write.ensures

pub returns-clause-told : goal.returns-clause-told
returns-clause-told g c = wrote-told g.D.Device c.write.ensures.made c.args.dev.now c.write.new.dev c.write.ensures.wrote
