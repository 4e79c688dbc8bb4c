use Rattle.std.proofs.Common.{◌≡◌, ◌+◌, ◌%◌, ◌/◌, ◌≤◌, ◌<◌, ℕ, length, sym, ap, subst, refl, arith}
use Rattle.blk_base.specs.Content.{bytes_at}
use Rattle.blk_base.specs.Pieces.{Extent}
use Rattle.q2_format.specs.declared.entries.L2Entry.TheVariants.{Host}
use Rattle.q2_image.specs.Image.{Known, IsOpen, cluster_size_in, entry_in}
use Rattle.q2_image.proofs.Mapped.{host_below, read_of_image, below_words}
use Rattle.q2_image.proofs.image.Image.read_own.Goals as goal

pub overflow_add-host : goal.overflow_add-host
overflow_add-host g c =
    let small = host_below _ c.in-Host.host (sym c.in-Host.ensures) in
    let size = c.cluster_size-cluster_size.ensures.number in
    omega arith

pub returns-in-Ok-clause-guest : goal.returns-in-Ok-clause-guest
returns-in-Ok-clause-guest g c = λ file backing told is.
    let image : Known = c.args.self.now in
    let start : ℕ = c.args.span.start in
    let n : ℕ = c.args.span.len in
    let ready : IsOpen image = subst IsOpen c.self.view_is c.self.invariant in
    let bits = ready.cluster_bits in
    let number = c.cluster_size-cluster_size.ensures.number in
    let within : start % 65536 + n ≤ 65536 = rw bits at c.requires.cluster in
    let disk = c.requires.disk in
    let place : start / cluster_size_in image ≡ start / 65536 = rw bits refl in
    let below : start / 65536 < length image.tables.words = below_words image (start / 65536) ready (rw (← place) disk) in
    let words : c.self.inside.tables.words ≡ image.tables.words = ap (λ (k : Known). k.tables.words) c.self.view_is in
    let at : c.span.inside.start ≡ start = ap (λ (s : Extent). s.start) c.span.view_is in
    let whole = c.requires.whole in
    let entry : entry_in image (start / 65536) ≡ Host c.in-Host.host = sym (rw (words, at, number) at c.in-Host.ensures) in
    let read : c.read_at.new.buf ≡ bytes_at file (c.in-Host.host + start % 65536) n = rw (at, number, whole) at (c.in-Ok.ensures.read file told) in
    read_of_image file backing c.read_at.new.buf image start n c.in-Host.host is bits below entry within read
