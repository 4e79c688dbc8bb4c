use Rattle.std.proofs.Common.{rules, ◌≡◌, ℕ, suc, ◌-◌, true, false, List, refl, sym, ◌∙◌, ap, subst, arith, inl, inr}
use Rattle.std.specs.Prelude.{◌⊎◌}
use Rattle.blk_base.specs.Pieces.{Extent}
use Rattle.blk_base.specs.declared.fault.Outcome.TheVariants.{Good}
use Rattle.blk_nodes.specs.Copying.{AtEach, HasRoomIn, IsMappedAt, MapsEach, puts_below}
use Rattle.blk_nodes.specs.Nodes.{Nodes, row_at}
use Rattle.blk_nodes.specs.Sources.{step_of}
use Rattle.blk_nodes.specs.Writing.{MayWriteThrough}
use Rattle.blk_nodes.specs.declared.source.Step.TheVariants.{Found, Below}
use Rattle.blk_nodes.proofs.Copied.{met_found}
use Rattle.blk_nodes.proofs.MappedDown.{bad_is, each_below, inside_below, read_below, maps_early, mapped_early, rest_early, disk_early, disks_early, may_put, image_put, inside_put, maps_on, mapped_on, rest_on, disk_on, disks_on}
use Rattle.blk_nodes.proofs.PartsWritten.{good_is}
use Rattle.blk_nodes.proofs.nodes.Nodes.+map_below.Goals as goal
use Rattle.blk_nodes.proofs.nodes.Nodes.+map_below.Goals.{then-not-is_good-via-then-not-is_good, then-not-is_good-via-else-not-is_good+then-not-puts}

pub returns-in_default-clause-maps : goal.returns-in_default-clause-maps
returns-in_default-clause-maps g t c =
    let old : Nodes = c.args.self.now in
    let start : c.span.inside.start ≡ c.args.span.start = ap (λ (s : Extent). s.start) c.span.view_is in
    let ends : step_of old c.args.node c.args.span.start ≡ Found c.in_default.field-0
    = ap (λ (k : ℕ). step_of old c.args.node k) (sym start) ∙ sym c.in_default.ensures.step in
    let none = met_found old c.args.span.start c.args.turns c.args.node c.in_default.field-0 ends in
    subst (λ (l : List ℕ). MapsEach l old old c.args.span c.args.bytes.now Good) (sym none) (refl, refl)

pub returns-in_default-clause-mapped : goal.returns-in_default-clause-mapped
returns-in_default-clause-mapped g t c =
    let old : Nodes = c.args.self.now in
    let start : c.span.inside.start ≡ c.args.span.start = ap (λ (s : Extent). s.start) c.span.view_is in
    let ends : step_of old c.args.node c.args.span.start ≡ Found c.in_default.field-0
    = ap (λ (k : ℕ). step_of old c.args.node k) (sym start) ∙ sym c.in_default.ensures.step in
    let none = met_found old c.args.span.start c.args.turns c.args.node c.in_default.field-0 ends in
    λ good. subst (AtEach (IsMappedAt old c.args.span.start)) (sym none) tt

pub map_below-below-requires : goal.map_below-below-requires
map_below-below-requires g t c κs within =
    let old : Nodes = c.args.self.now in
    let start : c.span.inside.start ≡ c.args.span.start = ap (λ (s : Extent). s.start) c.span.view_is in
    let goes : step_of old c.args.node c.args.span.start ≡ Below c.in-Below.next
    = ap (λ (k : ℕ). step_of old c.args.node k) (sym start) ∙ sym c.in-Below.ensures.step in
    let one : c.args.turns ≡ suc (c.args.turns - 1) = omega (arith, c.if-turns-eq0.false) in (
      omega (arith, c.decreases, c.if-turns-eq0.false),
      (
        search rules,
        (
          c.requires.block,
          (
            inside_below old c.edges.ensures.joined c.args.turns (c.args.turns - 1) c.args.node c.in-Below.next c.args.span one goes c.requires.inside,
            (
              c.requires.some,
              (
                c.requires.whole,
                (
                  each_below old c.edges.ensures.joined c.args.turns (c.args.turns - 1) c.args.node c.in-Below.next c.args.span one goes (MayWriteThrough old) c.requires.may,
                  (
                    each_below old c.edges.ensures.joined c.args.turns (c.args.turns - 1) c.args.node c.in-Below.next c.args.span one goes (HasRoomIn old c.args.span) c.requires.room,
                    read_below old c.edges.ensures.joined c.args.turns (c.args.turns - 1) c.args.node c.in-Below.next c.args.span one goes c.args.bytes.now c.requires.block c.requires.inside c.requires.read,
                  ),
                ),
              ),
            ),
          ),
        ),
      ),
    )

pub returns-then-not-is_good-clause-maps : goal.returns-then-not-is_good-clause-maps
returns-then-not-is_good-clause-maps g t c =
    let old : Nodes = c.args.self.now in
    let start : c.span.inside.start ≡ c.args.span.start = ap (λ (s : Extent). s.start) c.span.view_is in
    let goes : step_of old c.args.node c.args.span.start ≡ Below c.in-Below.next
    = ap (λ (k : ℕ). step_of old c.args.node k) (sym start) ∙ sym c.in-Below.ensures.step in
    let one : c.args.turns ≡ suc (c.args.turns - 1) = omega (arith, c.if-turns-eq0.false) in
    let mid : Nodes = c.map_below-below.new.self in
    let m = c.map_below-below.ensures in
    let stops : (c.map_below-below.result ≡ Good → ⊥) ⊎ (puts_below (row_at old c.args.node) (row_at old c.in-Below.next) c.args.span.start ≡ false)
    = elim c.then-not-is_good.branch [
      | then-not-is_good-via-then-not-is_good w ↦ inl (bad_is c.map_below-below.result (sym c.is_good.ensures ∙ w.if-not-is_good.true))
      | then-not-is_good-via-else-not-is_good+then-not-puts w ↦
          inr (ap (λ (k : ℕ). puts_below (row_at old c.args.node) (row_at old c.in-Below.next) k) (sym start) ∙ sym c.puts_below-puts.ensures ∙ w.if-not-puts.true)
    ] in
    maps_early old c.edges.ensures.joined c.args.turns (c.args.turns - 1) c.args.node c.in-Below.next c.args.span one goes
    mid m.joined c.args.bytes.now c.map_below-below.result m.maps m.rest m.disk m.disks c.requires.may stops

pub returns-then-not-is_good-clause-mapped : goal.returns-then-not-is_good-clause-mapped
returns-then-not-is_good-clause-mapped g t c =
    let old : Nodes = c.args.self.now in
    let start : c.span.inside.start ≡ c.args.span.start = ap (λ (s : Extent). s.start) c.span.view_is in
    let goes : step_of old c.args.node c.args.span.start ≡ Below c.in-Below.next
    = ap (λ (k : ℕ). step_of old c.args.node k) (sym start) ∙ sym c.in-Below.ensures.step in
    let one : c.args.turns ≡ suc (c.args.turns - 1) = omega (arith, c.if-turns-eq0.false) in
    let mid : Nodes = c.map_below-below.new.self in
    let m = c.map_below-below.ensures in
    let stops : (c.map_below-below.result ≡ Good → ⊥) ⊎ (puts_below (row_at old c.args.node) (row_at old c.in-Below.next) c.args.span.start ≡ false)
    = elim c.then-not-is_good.branch [
      | then-not-is_good-via-then-not-is_good w ↦ inl (bad_is c.map_below-below.result (sym c.is_good.ensures ∙ w.if-not-is_good.true))
      | then-not-is_good-via-else-not-is_good+then-not-puts w ↦
          inr (ap (λ (k : ℕ). puts_below (row_at old c.args.node) (row_at old c.in-Below.next) k) (sym start) ∙ sym c.puts_below-puts.ensures ∙ w.if-not-puts.true)
    ] in
    mapped_early old c.edges.ensures.joined c.args.turns (c.args.turns - 1) c.args.node c.in-Below.next c.args.span one goes
    mid m.joined c.args.bytes.now c.map_below-below.result m.maps m.rest m.disk m.disks c.requires.may stops m.mapped

pub returns-then-not-is_good-clause-rest : goal.returns-then-not-is_good-clause-rest
returns-then-not-is_good-clause-rest g t c =
    let old : Nodes = c.args.self.now in
    let start : c.span.inside.start ≡ c.args.span.start = ap (λ (s : Extent). s.start) c.span.view_is in
    let goes : step_of old c.args.node c.args.span.start ≡ Below c.in-Below.next
    = ap (λ (k : ℕ). step_of old c.args.node k) (sym start) ∙ sym c.in-Below.ensures.step in
    let one : c.args.turns ≡ suc (c.args.turns - 1) = omega (arith, c.if-turns-eq0.false) in
    let mid : Nodes = c.map_below-below.new.self in
    let m = c.map_below-below.ensures in
    rest_early old c.edges.ensures.joined c.args.turns (c.args.turns - 1) c.args.node c.in-Below.next c.args.span one goes
    mid m.joined c.args.bytes.now c.map_below-below.result m.maps m.rest m.disk m.disks c.requires.may

pub returns-then-not-is_good-clause-disk : goal.returns-then-not-is_good-clause-disk
returns-then-not-is_good-clause-disk g t c =
    let old : Nodes = c.args.self.now in
    let start : c.span.inside.start ≡ c.args.span.start = ap (λ (s : Extent). s.start) c.span.view_is in
    let goes : step_of old c.args.node c.args.span.start ≡ Below c.in-Below.next
    = ap (λ (k : ℕ). step_of old c.args.node k) (sym start) ∙ sym c.in-Below.ensures.step in
    let one : c.args.turns ≡ suc (c.args.turns - 1) = omega (arith, c.if-turns-eq0.false) in
    let mid : Nodes = c.map_below-below.new.self in
    let m = c.map_below-below.ensures in
    disk_early old c.edges.ensures.joined c.args.turns (c.args.turns - 1) c.args.node c.in-Below.next c.args.span one goes
    mid m.joined c.args.bytes.now c.map_below-below.result m.maps m.rest m.disk m.disks c.requires.may

pub returns-then-not-is_good-clause-disks : goal.returns-then-not-is_good-clause-disks
returns-then-not-is_good-clause-disks g t c =
    let old : Nodes = c.args.self.now in
    let start : c.span.inside.start ≡ c.args.span.start = ap (λ (s : Extent). s.start) c.span.view_is in
    let goes : step_of old c.args.node c.args.span.start ≡ Below c.in-Below.next
    = ap (λ (k : ℕ). step_of old c.args.node k) (sym start) ∙ sym c.in-Below.ensures.step in
    let one : c.args.turns ≡ suc (c.args.turns - 1) = omega (arith, c.if-turns-eq0.false) in
    let mid : Nodes = c.map_below-below.new.self in
    let m = c.map_below-below.ensures in
    disks_early old c.edges.ensures.joined c.args.turns (c.args.turns - 1) c.args.node c.in-Below.next c.args.span one goes
    mid m.joined c.args.bytes.now c.map_below-below.result m.maps m.rest m.disk m.disks c.requires.may

pub write_in_image-requires-clause-inside : goal.write_in_image-requires-clause-inside
write_in_image-requires-clause-inside g t c =
    let old : Nodes = c.args.self.now in
    let start : c.span.inside.start ≡ c.args.span.start = ap (λ (s : Extent). s.start) c.span.view_is in
    let goes : step_of old c.args.node c.args.span.start ≡ Below c.in-Below.next
    = ap (λ (k : ℕ). step_of old c.args.node k) (sym start) ∙ sym c.in-Below.ensures.step in
    let one : c.args.turns ≡ suc (c.args.turns - 1) = omega (arith, c.if-turns-eq0.false) in
    let mid : Nodes = c.map_below-below.new.self in
    let m = c.map_below-below.ensures in
    let good : c.map_below-below.result ≡ Good = good_is c.map_below-below.result (sym c.is_good.ensures ∙ c.if-not-is_good.false) in
    let puts : puts_below (row_at old c.args.node) (row_at old c.in-Below.next) c.args.span.start ≡ true
    = ap (λ (k : ℕ). puts_below (row_at old c.args.node) (row_at old c.in-Below.next) k) (sym start) ∙ sym c.puts_below-puts.ensures ∙ c.if-not-puts.false in
    inside_put old c.edges.ensures.joined c.args.turns (c.args.turns - 1) c.args.node c.in-Below.next c.args.span one goes
    mid m.joined c.args.bytes.now c.map_below-below.result m.maps m.rest m.disk m.disks c.requires.may good puts c.requires.inside

pub write_in_image-requires-clause-may : goal.write_in_image-requires-clause-may
write_in_image-requires-clause-may g t c =
    let old : Nodes = c.args.self.now in
    let start : c.span.inside.start ≡ c.args.span.start = ap (λ (s : Extent). s.start) c.span.view_is in
    let goes : step_of old c.args.node c.args.span.start ≡ Below c.in-Below.next
    = ap (λ (k : ℕ). step_of old c.args.node k) (sym start) ∙ sym c.in-Below.ensures.step in
    let one : c.args.turns ≡ suc (c.args.turns - 1) = omega (arith, c.if-turns-eq0.false) in
    let mid : Nodes = c.map_below-below.new.self in
    let m = c.map_below-below.ensures in
    let good : c.map_below-below.result ≡ Good = good_is c.map_below-below.result (sym c.is_good.ensures ∙ c.if-not-is_good.false) in
    let puts : puts_below (row_at old c.args.node) (row_at old c.in-Below.next) c.args.span.start ≡ true
    = ap (λ (k : ℕ). puts_below (row_at old c.args.node) (row_at old c.in-Below.next) k) (sym start) ∙ sym c.puts_below-puts.ensures ∙ c.if-not-puts.false in
    may_put old c.edges.ensures.joined c.args.turns (c.args.turns - 1) c.args.node c.in-Below.next c.args.span one goes
    mid m.joined c.args.bytes.now c.map_below-below.result m.maps m.rest m.disk m.disks c.requires.may good puts

pub write_in_image-requires-clause-image : goal.write_in_image-requires-clause-image
write_in_image-requires-clause-image g t c =
    let old : Nodes = c.args.self.now in
    let start : c.span.inside.start ≡ c.args.span.start = ap (λ (s : Extent). s.start) c.span.view_is in
    let goes : step_of old c.args.node c.args.span.start ≡ Below c.in-Below.next
    = ap (λ (k : ℕ). step_of old c.args.node k) (sym start) ∙ sym c.in-Below.ensures.step in
    let one : c.args.turns ≡ suc (c.args.turns - 1) = omega (arith, c.if-turns-eq0.false) in
    let mid : Nodes = c.map_below-below.new.self in
    let m = c.map_below-below.ensures in
    let good : c.map_below-below.result ≡ Good = good_is c.map_below-below.result (sym c.is_good.ensures ∙ c.if-not-is_good.false) in
    let puts : puts_below (row_at old c.args.node) (row_at old c.in-Below.next) c.args.span.start ≡ true
    = ap (λ (k : ℕ). puts_below (row_at old c.args.node) (row_at old c.in-Below.next) k) (sym start) ∙ sym c.puts_below-puts.ensures ∙ c.if-not-puts.false in
    image_put old c.edges.ensures.joined c.args.turns (c.args.turns - 1) c.args.node c.in-Below.next c.args.span one goes
    mid m.joined c.args.bytes.now c.map_below-below.result m.maps m.rest m.disk m.disks c.requires.may good puts

pub returns-clause-maps : goal.returns-clause-maps
returns-clause-maps g t c =
    let old : Nodes = c.args.self.now in
    let start : c.span.inside.start ≡ c.args.span.start = ap (λ (s : Extent). s.start) c.span.view_is in
    let goes : step_of old c.args.node c.args.span.start ≡ Below c.in-Below.next
    = ap (λ (k : ℕ). step_of old c.args.node k) (sym start) ∙ sym c.in-Below.ensures.step in
    let one : c.args.turns ≡ suc (c.args.turns - 1) = omega (arith, c.if-turns-eq0.false) in
    let mid : Nodes = c.map_below-below.new.self in
    let m = c.map_below-below.ensures in
    let good : c.map_below-below.result ≡ Good = good_is c.map_below-below.result (sym c.is_good.ensures ∙ c.if-not-is_good.false) in
    let puts : puts_below (row_at old c.args.node) (row_at old c.in-Below.next) c.args.span.start ≡ true
    = ap (λ (k : ℕ). puts_below (row_at old c.args.node) (row_at old c.in-Below.next) k) (sym start) ∙ sym c.puts_below-puts.ensures ∙ c.if-not-puts.false in
    maps_on old c.edges.ensures.joined c.args.turns (c.args.turns - 1) c.args.node c.in-Below.next c.args.span one goes
    mid m.joined c.args.bytes.now c.map_below-below.result m.maps m.rest m.disk m.disks c.requires.may good puts
    c.requires.room c.write_in_image.new.self c.write_in_image.ensures.joined c.write_in_image.result c.write_in_image.ensures.wrote c.write_in_image.ensures.kept

pub returns-clause-mapped : goal.returns-clause-mapped
returns-clause-mapped g t c =
    let old : Nodes = c.args.self.now in
    let start : c.span.inside.start ≡ c.args.span.start = ap (λ (s : Extent). s.start) c.span.view_is in
    let goes : step_of old c.args.node c.args.span.start ≡ Below c.in-Below.next
    = ap (λ (k : ℕ). step_of old c.args.node k) (sym start) ∙ sym c.in-Below.ensures.step in
    let one : c.args.turns ≡ suc (c.args.turns - 1) = omega (arith, c.if-turns-eq0.false) in
    let mid : Nodes = c.map_below-below.new.self in
    let m = c.map_below-below.ensures in
    let good : c.map_below-below.result ≡ Good = good_is c.map_below-below.result (sym c.is_good.ensures ∙ c.if-not-is_good.false) in
    let puts : puts_below (row_at old c.args.node) (row_at old c.in-Below.next) c.args.span.start ≡ true
    = ap (λ (k : ℕ). puts_below (row_at old c.args.node) (row_at old c.in-Below.next) k) (sym start) ∙ sym c.puts_below-puts.ensures ∙ c.if-not-puts.false in
    mapped_on old c.edges.ensures.joined c.args.turns (c.args.turns - 1) c.args.node c.in-Below.next c.args.span one goes
    mid m.joined c.args.bytes.now c.map_below-below.result m.maps m.rest m.disk m.disks c.requires.may good puts
    c.requires.room c.write_in_image.new.self c.write_in_image.ensures.joined c.write_in_image.result c.write_in_image.ensures.wrote c.write_in_image.ensures.kept m.mapped

pub returns-clause-rest : goal.returns-clause-rest
returns-clause-rest g t c =
    let old : Nodes = c.args.self.now in
    let start : c.span.inside.start ≡ c.args.span.start = ap (λ (s : Extent). s.start) c.span.view_is in
    let goes : step_of old c.args.node c.args.span.start ≡ Below c.in-Below.next
    = ap (λ (k : ℕ). step_of old c.args.node k) (sym start) ∙ sym c.in-Below.ensures.step in
    let one : c.args.turns ≡ suc (c.args.turns - 1) = omega (arith, c.if-turns-eq0.false) in
    let mid : Nodes = c.map_below-below.new.self in
    let m = c.map_below-below.ensures in
    let good : c.map_below-below.result ≡ Good = good_is c.map_below-below.result (sym c.is_good.ensures ∙ c.if-not-is_good.false) in
    let puts : puts_below (row_at old c.args.node) (row_at old c.in-Below.next) c.args.span.start ≡ true
    = ap (λ (k : ℕ). puts_below (row_at old c.args.node) (row_at old c.in-Below.next) k) (sym start) ∙ sym c.puts_below-puts.ensures ∙ c.if-not-puts.false in
    rest_on old c.edges.ensures.joined c.args.turns (c.args.turns - 1) c.args.node c.in-Below.next c.args.span one goes
    mid m.joined c.args.bytes.now c.map_below-below.result m.maps m.rest m.disk m.disks c.requires.may good puts
    c.requires.room c.write_in_image.new.self c.write_in_image.ensures.joined c.write_in_image.result c.write_in_image.ensures.wrote c.write_in_image.ensures.kept

pub returns-clause-disk : goal.returns-clause-disk
returns-clause-disk g t c =
    let old : Nodes = c.args.self.now in
    let start : c.span.inside.start ≡ c.args.span.start = ap (λ (s : Extent). s.start) c.span.view_is in
    let goes : step_of old c.args.node c.args.span.start ≡ Below c.in-Below.next
    = ap (λ (k : ℕ). step_of old c.args.node k) (sym start) ∙ sym c.in-Below.ensures.step in
    let one : c.args.turns ≡ suc (c.args.turns - 1) = omega (arith, c.if-turns-eq0.false) in
    let mid : Nodes = c.map_below-below.new.self in
    let m = c.map_below-below.ensures in
    let good : c.map_below-below.result ≡ Good = good_is c.map_below-below.result (sym c.is_good.ensures ∙ c.if-not-is_good.false) in
    let puts : puts_below (row_at old c.args.node) (row_at old c.in-Below.next) c.args.span.start ≡ true
    = ap (λ (k : ℕ). puts_below (row_at old c.args.node) (row_at old c.in-Below.next) k) (sym start) ∙ sym c.puts_below-puts.ensures ∙ c.if-not-puts.false in
    disk_on old c.edges.ensures.joined c.args.turns (c.args.turns - 1) c.args.node c.in-Below.next c.args.span one goes
    mid m.joined c.args.bytes.now c.map_below-below.result m.maps m.rest m.disk m.disks c.requires.may good puts
    c.requires.room c.write_in_image.new.self c.write_in_image.ensures.joined c.write_in_image.result c.write_in_image.ensures.wrote c.write_in_image.ensures.kept
    c.requires.whole c.requires.inside c.requires.block c.requires.read c.write_in_image.ensures.disk

pub returns-clause-disks : goal.returns-clause-disks
returns-clause-disks g t c =
    let old : Nodes = c.args.self.now in
    let start : c.span.inside.start ≡ c.args.span.start = ap (λ (s : Extent). s.start) c.span.view_is in
    let goes : step_of old c.args.node c.args.span.start ≡ Below c.in-Below.next
    = ap (λ (k : ℕ). step_of old c.args.node k) (sym start) ∙ sym c.in-Below.ensures.step in
    let one : c.args.turns ≡ suc (c.args.turns - 1) = omega (arith, c.if-turns-eq0.false) in
    let mid : Nodes = c.map_below-below.new.self in
    let m = c.map_below-below.ensures in
    let good : c.map_below-below.result ≡ Good = good_is c.map_below-below.result (sym c.is_good.ensures ∙ c.if-not-is_good.false) in
    let puts : puts_below (row_at old c.args.node) (row_at old c.in-Below.next) c.args.span.start ≡ true
    = ap (λ (k : ℕ). puts_below (row_at old c.args.node) (row_at old c.in-Below.next) k) (sym start) ∙ sym c.puts_below-puts.ensures ∙ c.if-not-puts.false in
    disks_on old c.edges.ensures.joined c.args.turns (c.args.turns - 1) c.args.node c.in-Below.next c.args.span one goes
    mid m.joined c.args.bytes.now c.map_below-below.result m.maps m.rest m.disk m.disks c.requires.may good puts
    c.requires.room c.write_in_image.new.self c.write_in_image.ensures.joined c.write_in_image.result c.write_in_image.ensures.wrote c.write_in_image.ensures.kept
    c.requires.whole c.requires.inside c.requires.block c.requires.read c.write_in_image.ensures.disk
