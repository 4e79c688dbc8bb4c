use Rattle.std.proofs.Common.{◌≡◌, ◌<◌, ℕ, List, length, set, get_or, Option, None, Some, sym, ◌∙◌, ap, subst, arith}
use Rattle.std.proofs.lemmas.List.{get_or_default}
use Rattle.std.specs.Option.{option_copied}
use Rattle.blk_nodes.specs.Nodes.{Nodes, DeviceSeen, row_at, file_of}
use Rattle.blk_nodes.specs.Parts.{OfImage}
use Rattle.blk_nodes.specs.Walk.{IsKnownAt}
use Rattle.blk_nodes.specs.declared.row.Row.{Row}
use Rattle.blk_nodes.proofs.Renamed.{image_in_file, renames_at, joined_renamed, renamed_node, own_renamed, others_renamed}
use Rattle.blk_nodes.proofs.nodes.Nodes.rename.Goals as goal

pub rename_row-requires-clause-held : goal.rename_row-requires-clause-held
rename_row-requires-clause-held g c =
    let nodes : Nodes = record { graph = c.self.inside.graph; rows = c.self.inside.rows.items; devices = c.self.inside.devices } in
    let image = rw (sym c.self.view_is) at c.requires.image in
    (image_in_file nodes c.args.node c.in-Some.file c.self.invariant image (sym c.child.ensures.child ∙ c.in-Some.is)).0

pub rename_row-requires-clause-image : goal.rename_row-requires-clause-image
rename_row-requires-clause-image g c =
    let nodes : Nodes = record { graph = c.self.inside.graph; rows = c.self.inside.rows.items; devices = c.self.inside.devices } in
    let image = rw (sym c.self.view_is) at c.requires.image in
    let count = c.self.invariant.rows in
    let small = c.index.ensures.small in
    let within : c.index.result < length nodes.rows = omega (arith, count, small) in
    let here : row_at nodes c.args.node ≡ c.index_mut.result.now
    = ap (λ (k : ℕ). get_or nodes.rows k None) (sym c.index.ensures.value) ∙ get_or_default nodes.rows c.index.result None c.index_mut.result.now within ∙ sym c.index_mut.ensures.value in
    subst (λ (r : Option Row). OfImage r (IsKnownAt c.in-Some.file nodes.devices)) here
    (image_in_file nodes c.args.node c.in-Some.file c.self.invariant image (sym c.child.ensures.child ∙ c.in-Some.is)).1

pub invariant_of-self : goal.invariant_of-self
invariant_of-self g c =
    let nodes : Nodes = record { graph = c.self.inside.graph; rows = c.self.inside.rows.items; devices = c.self.inside.devices } in
    let name : Option (List ℕ) = option_copied c.args.name in
    let format : Option (List ℕ) = option_copied c.args.format in
    let edge : file_of nodes c.args.node ≡ Some c.in-Some.file = sym c.child.ensures.child ∙ c.in-Some.is in
    let owns = rw (sym c.self.view_is) at c.requires.owns in
    let count = c.self.invariant.rows in
    let small = c.index.ensures.small in
    let within : c.index.result < length nodes.rows = omega (arith, count, small) in
    let slot : Option Row = c.rename_row.new.row in
    let devices : List DeviceSeen = c.rename_row.new.devices in
    let there = ap (λ (k : ℕ). set nodes.rows k slot) c.index.ensures.value in
    let row = renames_at nodes c.args.node c.in-Some.file c.index.result c.index_mut.result.now slot devices name format c.rename_row.result
    c.index.ensures.value within c.index_mut.ensures.value c.rename_row.ensures in
    rw there (joined_renamed nodes c.self.invariant c.args.node c.in-Some.file owns edge slot devices name format c.rename_row.result row)

pub returns-clause-renames : goal.returns-clause-renames
returns-clause-renames g c =
    let nodes : Nodes = record { graph = c.self.inside.graph; rows = c.self.inside.rows.items; devices = c.self.inside.devices } in
    let name : Option (List ℕ) = option_copied c.args.name in
    let format : Option (List ℕ) = option_copied c.args.format in
    let edge : file_of nodes c.args.node ≡ Some c.in-Some.file = sym c.child.ensures.child ∙ c.in-Some.is in
    let owns = rw (sym c.self.view_is) at c.requires.owns in
    let count = c.self.invariant.rows in
    let small = c.index.ensures.small in
    let within : c.index.result < length nodes.rows = omega (arith, count, small) in
    let slot : Option Row = c.rename_row.new.row in
    let devices : List DeviceSeen = c.rename_row.new.devices in
    let there = ap (λ (k : ℕ). set nodes.rows k slot) c.index.ensures.value in
    let row = renames_at nodes c.args.node c.in-Some.file c.index.result c.index_mut.result.now slot devices name format c.rename_row.result
    c.index.ensures.value within c.index_mut.ensures.value c.rename_row.ensures in
    rw (sym c.self.view_is, there) (renamed_node nodes c.self.invariant c.args.node c.in-Some.file owns edge slot devices name format c.rename_row.result row)

pub returns-clause-joined : goal.returns-clause-joined
returns-clause-joined g c =
    let nodes : Nodes = record { graph = c.self.inside.graph; rows = c.self.inside.rows.items; devices = c.self.inside.devices } in
    let name : Option (List ℕ) = option_copied c.args.name in
    let format : Option (List ℕ) = option_copied c.args.format in
    let edge : file_of nodes c.args.node ≡ Some c.in-Some.file = sym c.child.ensures.child ∙ c.in-Some.is in
    let owns = rw (sym c.self.view_is) at c.requires.owns in
    let count = c.self.invariant.rows in
    let small = c.index.ensures.small in
    let within : c.index.result < length nodes.rows = omega (arith, count, small) in
    let slot : Option Row = c.rename_row.new.row in
    let devices : List DeviceSeen = c.rename_row.new.devices in
    let there = ap (λ (k : ℕ). set nodes.rows k slot) c.index.ensures.value in
    let row = renames_at nodes c.args.node c.in-Some.file c.index.result c.index_mut.result.now slot devices name format c.rename_row.result
    c.index.ensures.value within c.index_mut.ensures.value c.rename_row.ensures in
    rw there (joined_renamed nodes c.self.invariant c.args.node c.in-Some.file owns edge slot devices name format c.rename_row.result row)

pub returns-clause-disk : goal.returns-clause-disk
returns-clause-disk g c =
    let nodes : Nodes = record { graph = c.self.inside.graph; rows = c.self.inside.rows.items; devices = c.self.inside.devices } in
    let name : Option (List ℕ) = option_copied c.args.name in
    let format : Option (List ℕ) = option_copied c.args.format in
    let edge : file_of nodes c.args.node ≡ Some c.in-Some.file = sym c.child.ensures.child ∙ c.in-Some.is in
    let owns = rw (sym c.self.view_is) at c.requires.owns in
    let count = c.self.invariant.rows in
    let small = c.index.ensures.small in
    let within : c.index.result < length nodes.rows = omega (arith, count, small) in
    let slot : Option Row = c.rename_row.new.row in
    let devices : List DeviceSeen = c.rename_row.new.devices in
    let there = ap (λ (k : ℕ). set nodes.rows k slot) c.index.ensures.value in
    let row = renames_at nodes c.args.node c.in-Some.file c.index.result c.index_mut.result.now slot devices name format c.rename_row.result
    c.index.ensures.value within c.index_mut.ensures.value c.rename_row.ensures in
    rw (sym c.self.view_is, there) (λ apart. own_renamed nodes c.self.invariant c.args.node c.in-Some.file owns edge slot devices name format c.rename_row.result row apart)

pub returns-clause-disks : goal.returns-clause-disks
returns-clause-disks g c =
    let nodes : Nodes = record { graph = c.self.inside.graph; rows = c.self.inside.rows.items; devices = c.self.inside.devices } in
    let name : Option (List ℕ) = option_copied c.args.name in
    let format : Option (List ℕ) = option_copied c.args.format in
    let edge : file_of nodes c.args.node ≡ Some c.in-Some.file = sym c.child.ensures.child ∙ c.in-Some.is in
    let owns = rw (sym c.self.view_is) at c.requires.owns in
    let count = c.self.invariant.rows in
    let small = c.index.ensures.small in
    let within : c.index.result < length nodes.rows = omega (arith, count, small) in
    let slot : Option Row = c.rename_row.new.row in
    let devices : List DeviceSeen = c.rename_row.new.devices in
    let there = ap (λ (k : ℕ). set nodes.rows k slot) c.index.ensures.value in
    let row = renames_at nodes c.args.node c.in-Some.file c.index.result c.index_mut.result.now slot devices name format c.rename_row.result
    c.index.ensures.value within c.index_mut.ensures.value c.rename_row.ensures in
    rw (sym c.self.view_is, there) (λ apart other beside. others_renamed nodes c.self.invariant c.args.node c.in-Some.file owns edge slot devices name format c.rename_row.result row apart other beside)
