use Rattle.std.proofs.Common.{◌≡◌, List, Option, sym, ◌∙◌, ap, subst, arith}
use Rattle.blk_base.specs.Pieces.{Extent}
use Rattle.blk_base.proofs.Contents.{bytes_at-by_place}
use Rattle.blk_nodes.specs.Contents.{disk_of}
use Rattle.blk_nodes.specs.Found.{found_bytes, CanBeFound, IsReadOfSource, IsSourceTold}
use Rattle.blk_nodes.specs.Nodes.{Nodes}
use Rattle.blk_nodes.specs.declared.row.Row.{Row}
use Rattle.blk_nodes.specs.declared.source.Source.{Source}
use Rattle.blk_nodes.proofs.Chains.{reads_found, when_good}
use Rattle.blk_nodes.proofs.Disks.{disks_risen}
use Rattle.blk_nodes.proofs.HeldDevices.{HaveRisen-refl}
use Rattle.blk_nodes.proofs.Joints.{joined_after}
use Rattle.blk_nodes.proofs.Leading.{read_below}
use Rattle.blk_nodes.proofs.nodes.Nodes.peek_piece.Goals as goal

pub returns-then-span-eq0-clause-read : goal.returns-then-span-eq0-clause-read
returns-then-span-eq0-clause-read g c = λ all.
    let empty : c.args.span.len ≡ 0 = sym (ap (λ (s : Extent). s.len) c.span.view_is) ∙ c.if-span-eq0.true in
    bytes_at-by_place (disk_of c.args.self.now c.args.node) c.args.buffer.now c.args.span.start c.args.span.len c.requires.whole (λ k below. absurd (omega (arith, empty, below)))

pub returns-then-span-eq0-clause-devices : goal.returns-then-span-eq0-clause-devices
returns-then-span-eq0-clause-devices g c = HaveRisen-refl c.args.self.now.devices

pub returns-then-span-eq0-clause-source : goal.returns-then-span-eq0-clause-source
returns-then-span-eq0-clause-source g c = λ some.
    let empty : c.args.span.len ≡ 0 = sym (ap (λ (s : Extent). s.len) c.span.view_is) ∙ c.if-span-eq0.true in
    absurd (omega (arith, empty, some))

pub invariant_of-self : goal.invariant_of-self
invariant_of-self g c =
    let nodes : Nodes = record { graph = c.self.inside.graph; rows = c.self.inside.rows.items; devices = c.self.inside.devices } in
    joined_after nodes c.read_found.new.devices c.read_found.ensures.devices c.self.invariant

pub returns-clause-read : goal.returns-clause-read
returns-clause-read g c =
    let nodes : Nodes = record { graph = c.self.inside.graph; rows = c.self.inside.rows.items; devices = c.self.inside.devices } in
    let start : c.span.inside.start ≡ c.args.span.start = ap (λ (s : Extent). s.start) c.span.view_is in
    let source = rw (sym c.self.view_is) at (rw start at (sym c.source-source.ensures.source)) in
    let inside = rw (sym c.self.view_is) at c.requires.inside in
    rw (sym c.self.view_is)
    (λ all. when_good c.read_found.result (disk_of nodes c.args.node) c.args.span c.read_found.new.buffer
    (λ good. reads_found nodes c.self.invariant all c.args.node c.args.span.start c.args.span.len inside c.requires.block c.read_found.new.buffer c.source-source.result source
    (c.read_found.ensures.read all good)))

pub returns-then-span-eq0-clause-found : goal.returns-then-span-eq0-clause-found
returns-then-span-eq0-clause-found g c = λ some.
    let empty : c.args.span.len ≡ 0 = sym (ap (λ (s : Extent). s.len) c.span.view_is) ∙ c.if-span-eq0.true in
    absurd (omega (arith, empty, some))

pub returns-clause-found : goal.returns-clause-found
returns-clause-found g c =
    let nodes : Nodes = record { graph = c.self.inside.graph; rows = c.self.inside.rows.items; devices = c.self.inside.devices } in
    let start : c.span.inside.start ≡ c.args.span.start = ap (λ (s : Extent). s.start) c.span.view_is in
    let source = rw (sym c.self.view_is) at (rw start at (sym c.source-source.ensures.source)) in
    let can : Source → Type 0 = λ s. CanBeFound nodes.rows nodes.devices s c.args.span c.read_found.new.buffer in
    let finds : Source → Type 0 = λ s. IsSourceTold nodes.devices s → c.read_found.new.buffer ≡ found_bytes nodes.devices s c.args.span.start c.args.span.len in
    let rows = subst (λ (rows : List (Option Row)). CanBeFound rows nodes.devices c.source-source.result c.args.span c.read_found.new.buffer) c.deref.ensures.value in
    rw (sym c.self.view_is) (λ some good. record {
      whole = c.read_found.auto.buffer ∙ c.requires.whole;
      can = subst can (sym source) (rows (c.read_found.ensures.can good));
      told = subst finds (sym source) (λ told. c.read_found.ensures.found told good);
    })

pub returns-clause-outcome : goal.returns-clause-outcome
returns-clause-outcome g c =
    let nodes : Nodes = record { graph = c.self.inside.graph; rows = c.self.inside.rows.items; devices = c.self.inside.devices } in
    let leads = rw (sym c.self.view_is) at c.source-source.ensures.leads in
    let read = subst (λ (rows : List (Option Row)). IsReadOfSource rows c.source-source.result c.args.span nodes.devices c.read_found.new.devices c.read_found.result)
    c.deref.ensures.value c.read_found.ensures.outcome in
    rw (sym c.self.view_is) (read_below nodes c.read_found.new.devices c.args.node c.source-source.result c.args.span c.read_found.result leads read)

pub returns-clause-source : goal.returns-clause-source
returns-clause-source g c =
    let nodes : Nodes = record { graph = c.self.inside.graph; rows = c.self.inside.rows.items; devices = c.self.inside.devices } in
    let start : c.span.inside.start ≡ c.args.span.start = ap (λ (s : Extent). s.start) c.span.view_is in
    let source = rw (sym c.self.view_is) at (rw start at (sym c.source-source.ensures.source)) in
    let read : Source → Type 0 = λ s. IsReadOfSource nodes.rows s c.args.span nodes.devices c.read_found.new.devices c.read_found.result in
    let found = subst (λ (rows : List (Option Row)). IsReadOfSource rows c.source-source.result c.args.span nodes.devices c.read_found.new.devices c.read_found.result)
    c.deref.ensures.value c.read_found.ensures.outcome in
    rw (sym c.self.view_is) (λ some. subst read (sym source) found)

pub returns-clause-disks : goal.returns-clause-disks
returns-clause-disks g c =
    let nodes : Nodes = record { graph = c.self.inside.graph; rows = c.self.inside.rows.items; devices = c.self.inside.devices } in
    rw (sym c.self.view_is) (disks_risen nodes c.read_found.new.devices c.read_found.ensures.devices)
