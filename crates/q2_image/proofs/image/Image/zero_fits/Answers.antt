use Rattle.std.proofs.Common.{ℕ, refl, sym, subst}
use Rattle.q2_tables.specs.Linking.{CanLink}
use Rattle.q2_image.specs.Image.{Known, IsOpen}
use Rattle.q2_image.proofs.Mapped.{below_words}
use Rattle.q2_image.proofs.Plans.{table_offset}
use Rattle.q2_image.proofs.image.Image.zero_fits.Goals as goal

pub link_fits-requires : goal.link_fits-requires
link_fits-requires c =
    let ready = subst IsOpen c.self.view_is c.self.invariant in
    let at = table_offset c.args.self.now c.args.cluster c.args.capacity ready (below_words c.args.self.now c.args.cluster ready c.requires) (c.if-not-table_fits.ensures.0 refl) in
    let P : Known → Type 0 = λ k. CanLink k.tables c.args.cluster c.table_for.result in
    let Q : ℕ → Type 0 = CanLink c.args.self.now.tables c.args.cluster in
    subst P (sym c.self.view_is) (subst Q (sym c.table_for.ensures) at.can)
