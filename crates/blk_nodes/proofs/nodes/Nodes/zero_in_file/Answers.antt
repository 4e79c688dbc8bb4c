use Rattle.std.proofs.Common.{◌≡◌, ℕ, List, replicate, refl, sym, ◌∙◌, ap}
use Rattle.std.proofs.lemmas.List.{length-replicate}
use Rattle.blk_base.specs.Pieces.{Extent}
use Rattle.blk_nodes.specs.Nodes.{Nodes}
use Rattle.blk_nodes.proofs.Written.{stands, owned, owned_at, plain_if, joined_wrote, others_wrote, disk_wrote, zeros_plain, leaves_devices}
use Rattle.blk_nodes.proofs.nodes.Nodes.zero_in_file.Goals as goal

pub invariant_of-self : goal.invariant_of-self
invariant_of-self g c =
    let nodes : Nodes = record { graph = c.self.inside.graph; rows = c.self.inside.rows.items; devices = c.self.inside.devices } in
    let start : c.span.inside.start ≡ c.args.span.start = ap (λ (s : Extent). s.start) c.span.view_is in
    let there = rw (sym c.self.view_is) at (rw start at (sym c.in-File.ensures.source)) in
    let may = rw (sym c.self.view_is) at c.requires.may in
    let none = rw (sym c.self.view_is) at c.requires.plain in
    let plain = plain_if nodes c.args.node may none in
    let len : c.span.inside.len ≡ c.args.span.len = ap (λ (s : Extent). s.len) c.span.view_is in
    let zeros : List ℕ = replicate c.args.span.len 0 in
    let at = rw (c.first-zeros.ensures, len) at c.write_file.ensures in
    joined_wrote nodes c.self.invariant c.args.node c.args.span.start may plain c.write_file.new.self c.in-File.file c.in-File.start there zeros
    c.write_file.result at

pub returns-clause-wrote : goal.returns-clause-wrote
returns-clause-wrote g c =
    let nodes : Nodes = record { graph = c.self.inside.graph; rows = c.self.inside.rows.items; devices = c.self.inside.devices } in
    let start : c.span.inside.start ≡ c.args.span.start = ap (λ (s : Extent). s.start) c.span.view_is in
    let there = rw (sym c.self.view_is) at (rw start at (sym c.in-File.ensures.source)) in
    let may = rw (sym c.self.view_is) at c.requires.may in
    let none = rw (sym c.self.view_is) at c.requires.plain in
    let plain = plain_if nodes c.args.node may none in
    let len : c.span.inside.len ≡ c.args.span.len = ap (λ (s : Extent). s.len) c.span.view_is in
    let zeros : List ℕ = replicate c.args.span.len 0 in
    let at = rw (c.first-zeros.ensures, len) at c.write_file.ensures in
    let new : Nodes = record nodes { devices = c.write_file.new.self } in
    rw (sym c.self.view_is)
    (zeros_plain nodes new c.args.node c.args.span c.write_file.result may plain
    (record {
      file = c.in-File.file;
      start = c.in-File.start;
      stands = there;
      row = may.row;
      there = may.there;
      own = (owned nodes c.self.invariant c.args.node c.args.span.start may plain c.in-File.file c.in-File.start there).0;
      start_is = owned_at nodes c.self.invariant c.args.node c.args.span.start may plain c.in-File.file c.in-File.start there;
      at = at;
    }) refl)

pub returns-clause-disk : goal.returns-clause-disk
returns-clause-disk g c =
    let nodes : Nodes = record { graph = c.self.inside.graph; rows = c.self.inside.rows.items; devices = c.self.inside.devices } in
    let start : c.span.inside.start ≡ c.args.span.start = ap (λ (s : Extent). s.start) c.span.view_is in
    let there = rw (sym c.self.view_is) at (rw start at (sym c.in-File.ensures.source)) in
    let may = rw (sym c.self.view_is) at c.requires.may in
    let none = rw (sym c.self.view_is) at c.requires.plain in
    let plain = plain_if nodes c.args.node may none in
    let len : c.span.inside.len ≡ c.args.span.len = ap (λ (s : Extent). s.len) c.span.view_is in
    let zeros : List ℕ = replicate c.args.span.len 0 in
    let at = rw (c.first-zeros.ensures, len) at c.write_file.ensures in
    let inside = rw (sym c.self.view_is) at c.requires.inside in
    rw (sym c.self.view_is)
    (λ all. disk_wrote nodes c.self.invariant c.args.node c.args.span.start may plain c.write_file.new.self c.in-File.file c.in-File.start there zeros
    c.write_file.result at all c.args.span.len (length-replicate c.args.span.len 0) inside)

pub returns-clause-others : goal.returns-clause-others
returns-clause-others g c =
    let nodes : Nodes = record { graph = c.self.inside.graph; rows = c.self.inside.rows.items; devices = c.self.inside.devices } in
    let start : c.span.inside.start ≡ c.args.span.start = ap (λ (s : Extent). s.start) c.span.view_is in
    let there = rw (sym c.self.view_is) at (rw start at (sym c.in-File.ensures.source)) in
    let may = rw (sym c.self.view_is) at c.requires.may in
    let none = rw (sym c.self.view_is) at c.requires.plain in
    let plain = plain_if nodes c.args.node may none in
    let len : c.span.inside.len ≡ c.args.span.len = ap (λ (s : Extent). s.len) c.span.view_is in
    let zeros : List ℕ = replicate c.args.span.len 0 in
    let at = rw (c.first-zeros.ensures, len) at c.write_file.ensures in
    rw (sym c.self.view_is)
    (others_wrote nodes c.self.invariant c.args.node c.args.span.start may plain c.write_file.new.self c.in-File.file c.in-File.start there zeros
    c.write_file.result at)

pub returns-clause-kept : goal.returns-clause-kept
returns-clause-kept g c =
    let nodes : Nodes = record { graph = c.self.inside.graph; rows = c.self.inside.rows.items; devices = c.self.inside.devices } in
    let start : c.span.inside.start ≡ c.args.span.start = ap (λ (s : Extent). s.start) c.span.view_is in
    rw (sym c.self.view_is) (leaves_devices nodes c.write_file.new.self c.args.node)

pub unreachable-requires : goal.unreachable-requires
unreachable-requires g c =
    let nodes : Nodes = record { graph = c.self.inside.graph; rows = c.self.inside.rows.items; devices = c.self.inside.devices } in
    let start : c.span.inside.start ≡ c.args.span.start = ap (λ (s : Extent). s.start) c.span.view_is in
    let source = rw (sym c.self.view_is) at (rw start at c.source.ensures.source) in
    let may = rw (sym c.self.view_is) at c.requires.may in
    let none = rw (sym c.self.view_is) at c.requires.plain in
    let plain = plain_if nodes c.args.node may none in
    let at = stands nodes c.self.invariant c.args.node c.args.span.start may plain in
    c.in_default.not-File at.0 at.1 (source ∙ at.2)
