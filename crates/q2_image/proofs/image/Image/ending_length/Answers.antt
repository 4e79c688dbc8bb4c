use Rattle.std.proofs.Common.{rules, ◌≡◌, ◌-◌, ℕ, false, ap, subst, ◌∙◌}
use Rattle.std.specs.Option.{option_copied}
use Rattle.blk_base.specs.Content.{AreZeroPast, bytes_at}
use Rattle.q2_image.specs.BackingName.{reads_length}
use Rattle.q2_image.proofs.NameReads.{length_read, length_unread}
use Rattle.q2_image.proofs.image.Image.ending_length.Goals as goal

pub returns-in-Ok-clause-length : goal.returns-in-Ok-clause-length
returns-in-Ok-clause-length g c =
    let h = c.args.self.now.header in
    let at : c.self.inside.header.ext_end ≡ h.ext_end = ap (λ k. k.header.ext_end) c.self.view_is in
    let place : c.self.inside.header.ext_end - 4 ≡ h.ext_end - 4 = ap (λ (e : ℕ). e - 4) at in
    length_read (g.D.Device.content c.args.dev.now) (g.D.Device.size c.args.dev.now) h (option_copied c.args.name) c.from.result c.read_at.new.buf
    (g.met.D.Device.told_size c.args.dev.now) (c.from.ensures ∙ c.read_u32.ensures)
    (λ file told. c.in-Ok.ensures.read file told ∙ ap (λ (e : ℕ). bytes_at file e 4) place)
    (subst (λ (e : ℕ). AreZeroPast (g.D.Device.size c.args.dev.now) e c.read_at.new.buf) place c.in-Ok.ensures.past)

pub returns-then-is_none-clause-length : goal.returns-then-is_none-clause-length
returns-then-is_none-clause-length g c =
    let none : reads_length c.args.self.now.header (option_copied c.args.name) ≡ false = search rules in
    length_unread (g.D.Device.content c.args.dev.now) (g.D.Device.size c.args.dev.now) c.args.self.now.header (option_copied c.args.name) 0
    (g.met.D.Device.told_size c.args.dev.now) none
