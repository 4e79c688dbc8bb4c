use Rattle.std.proofs.Common.{ℕ, ◌+◌, ◌/◌, ◌%◌, ◌<◌, ◌≤◌, List, [], ◌∷◌, ◌++◌, inr, length, refl, sym, subst, arith}
use Rattle.blk_base.specs.Content.{Write, with_bytes}
use Rattle.blk_base.specs.Counts.{taken}
use Rattle.blk_base.specs.Device.{Wrote}
use Rattle.blk_base.specs.Writes.{write_of}
use Rattle.blk_base.proofs.DeviceLemmas.{wrote-then}
use Rattle.q2_image.specs.Image.{Known, IsOpen}
use Rattle.q2_image.specs.Made.{clear_writes}
use Rattle.q2_image.proofs.ClearWrites.{clear_call, clear_stopped}
use Rattle.q2_image.proofs.OwnTold.{IsOwnPlace, open_cleared, own_wrote, part_within, own_told_image, own_told_disk, same_at}
use Rattle.q2_image.proofs.OwnWrites.{disk_then}
use Rattle.q2_refs.proofs.Placing.{told_before}
use Rattle.q2_image.proofs.image.Image.write_cleared.Goals as goal

pub returns-in-Ok-clause-image : goal.returns-in-Ok-clause-image
returns-in-Ok-clause-image g c =
    let bits = c.requires.open.cluster_bits in
    let words : c.args.span.start / 65536 < length c.args.self.now.tables.words = rw bits at c.requires.below in
    let mapped : IsOwnPlace c.args.self.now c.args.span.start c.args.place = rw bits at c.requires.mapped in
    let part : c.args.span.start % 65536 + length c.args.bytes.now ≤ 65536 = rw bits at c.requires.cluster in
    let image : Known = c.clear_autoclear.new.self in
    let ready : IsOpen image = subst IsOpen (sym c.in-Ok.ensures.cleared) (open_cleared c.args.self.now c.requires.open) in
    let B : Known → Type 0 = λ k. c.args.span.start / 65536 < length k.tables.words in
    let below : B image = subst B (sym c.in-Ok.ensures.cleared) words in
    let M : Known → Type 0 = λ k. IsOwnPlace k c.args.span.start c.args.place in
    let at : M image = subst M (sym c.in-Ok.ensures.cleared) mapped in
    let bytes : List ℕ = taken c.write_at.result c.args.bytes.now in
    let within = part_within c.write_at.result c.args.bytes.now c.args.span.start part in
    own_told_image (g.D.Device.content c.clear_autoclear.new.dev) (g.D.Device.content c.write_at.new.self) image c.args.span.start c.args.place bytes c.write_at.ensures.written c.in-Ok.ensures.image ready below at within

pub returns-in-Ok-clause-disk : goal.returns-in-Ok-clause-disk
returns-in-Ok-clause-disk g c = λ old new told_old told_new.
    let bits = c.requires.open.cluster_bits in
    let words : c.args.span.start / 65536 < length c.args.self.now.tables.words = rw bits at c.requires.below in
    let mapped : IsOwnPlace c.args.self.now c.args.span.start c.args.place = rw bits at c.requires.mapped in
    let part : c.args.span.start % 65536 + length c.args.bytes.now ≤ 65536 = rw bits at c.requires.cluster in
    let image : Known = c.clear_autoclear.new.self in
    let ready : IsOpen image = subst IsOpen (sym c.in-Ok.ensures.cleared) (open_cleared c.args.self.now c.requires.open) in
    let B : Known → Type 0 = λ k. c.args.span.start / 65536 < length k.tables.words in
    let below : B image = subst B (sym c.in-Ok.ensures.cleared) words in
    let M : Known → Type 0 = λ k. IsOwnPlace k c.args.span.start c.args.place in
    let at : M image = subst M (sym c.in-Ok.ensures.cleared) mapped in
    let bytes : List ℕ = taken c.write_at.result c.args.bytes.now in
    let within = part_within c.write_at.result c.args.bytes.now c.args.span.start part in
    let mid = told_before (λ b. with_bytes b c.args.place bytes) (g.D.Device.content c.clear_autoclear.new.dev) (g.D.Device.content c.write_at.new.self) new c.write_at.ensures.written told_new in
    disk_then old mid.0 new c.args.span.start bytes (c.in-Ok.ensures.disk old mid.0 told_old mid.1)
    (own_told_disk (g.D.Device.content c.clear_autoclear.new.dev) (g.D.Device.content c.write_at.new.self) image c.args.span.start c.args.place bytes c.write_at.ensures.written c.in-Ok.ensures.image ready below at within mid.0 new mid.1 told_new)

pub returns-in-Err-clause-disk : goal.returns-in-Err-clause-disk
returns-in-Err-clause-disk g c = λ old new told_old told_new. same_at old new c.args.span.start (c.in-Err.ensures.disk old new told_old told_new)

pub returns-in-Ok-clause-wrote : goal.returns-in-Ok-clause-wrote
returns-in-Ok-clause-wrote g c =
    let image : Known = c.args.self.now in
    let bytes : List ℕ = taken c.write_at.result c.args.bytes.now in
    let cleared = c.in-Ok.ensures.writes in
    let W : List Write → Type 0 = λ ws. Wrote g.D.Device ws c.args.dev.now c.clear_autoclear.new.dev in
    let first = subst W cleared.part cleared.wrote in
    let later : Wrote g.D.Device (write_of c.args.place bytes ∷ []) c.clear_autoclear.new.dev c.write_at.new.self = record {
      content = c.write_at.ensures.written;
      size = c.write_at.ensures.size;
      log = c.write_at.ensures.log;
      same_log = λ none. let bad : ⊥ = cc none in absurd bad;
      flushed = c.write_at.ensures.flushed;
      capacity = c.write_at.ensures.capacity;
      faults = c.write_at.ensures.faults;
    } in
    let P : ℕ → Type 0 = λ place. Wrote g.D.Device (clear_writes image ++ write_of place bytes ∷ []) c.args.dev.now c.write_at.new.self in
    own_wrote g.D.Device image c.clear_autoclear.new.self c.args.span c.args.place c.args.bytes.now c.write_at.result c.args.dev.now c.clear_autoclear.new.dev c.write_at.new.self
    c.requires.place c.requires.whole (let fits = c.requires.fits in let same = c.clear_autoclear.ensures.capacity in omega (arith, fits, same)) c.in-Ok.ensures.cleared
    (subst P c.requires.place (wrote-then g.D.Device (clear_writes image) (write_of c.args.place bytes ∷ []) _ _ _ first later))
    c.write_at.ensures.no_space c.write_at.ensures.failed cleared.call c.write_at.ensures.call

pub returns-in-Err-clause-wrote : goal.returns-in-Err-clause-wrote
returns-in-Err-clause-wrote g c =
    let cleared = c.in-Err.ensures.writes in
    let at = clear_stopped c.args.self.now c.in-Err.field-0 cleared.made cleared.part in
    let W : List Write → Type 0 = λ ws. Wrote g.D.Device ws c.args.dev.now c.clear_autoclear.new.dev in
    inr (
      refl,
      at.0,
      c.in-Err.ensures.kept,
      subst W at.1 cleared.wrote,
      clear_call c.args.self.now c.in-Err.field-0 cleared.made _ _ c.in-Err.ensures.cause cleared.part cleared.call,
    )
