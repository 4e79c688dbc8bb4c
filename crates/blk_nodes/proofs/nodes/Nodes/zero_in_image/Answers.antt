use Rattle.std.proofs.Common.{◌≡◌, ℕ, ◌/◌, ◌<◌, List, ◌++◌, length, take, drop, replicate, Option, Some, None, sym, ◌∙◌, ap, subst, arith}
use Rattle.blk_base.specs.Content.{with_bytes}
use Rattle.blk_base.specs.Pieces.{Extent}
use Rattle.blk_base.specs.declared.fault.DevNo.{DevNo}
use Rattle.blk_base.specs.declared.fault.Outcome.TheVariants.{NoSpace}
use Rattle.q2_image.specs.Image.{Known, cluster_size_in, entry_in}
use Rattle.q2_image.specs.Reading.{IsHost}
use Rattle.q2_image.specs.Room.{ZerosFit, is_whole}
use Rattle.blk_nodes.specs.Contents.{IsToldDisk, disk_of}
use Rattle.blk_nodes.specs.Changing.{ImageChange, IsZeroed}
use Rattle.blk_nodes.specs.Nodes.{Nodes, DeviceSeen, file_of, row_at}
use Rattle.blk_nodes.specs.Parts.{IsDiskFound, IsPieceOf, WritesPart}
use Rattle.blk_nodes.specs.Sources.{source_at}
use Rattle.blk_nodes.specs.Writing.{MayWriteThrough, IsApartFrom, LeavesNodes, ZerosPiece, zeros_place, taken_by}
use Rattle.blk_nodes.specs.declared.part.Part.{Part}
use Rattle.blk_nodes.specs.declared.row.Row.{Row}
use Rattle.blk_nodes.proofs.Imaged.{disk_found, refuses_zeroed, joined_piece, disk_piece, others_piece, leaves_piece, left_piece, wrote_piece, zeros_image, sliced}
use Rattle.blk_nodes.proofs.PartFits.{bare_zeroed}
use Rattle.blk_nodes.proofs.Rows.{image_found}
use Rattle.blk_nodes.proofs.ToldDisks.{row_zeroed}
use Rattle.blk_nodes.proofs.nodes.Nodes.zero_in_image.Goals as goal

pub invariant_of-self : goal.invariant_of-self
invariant_of-self g c =
    let nodes : Nodes = record { graph = c.self.inside.graph; rows = c.self.inside.rows.items; devices = c.self.inside.devices } in
    let part : Part = c.part-part.result in
    let e = c.part-part.ensures in
    let fits : Known → ℕ → Type 0 = λ image. ZerosFit image part.span in
    let own : Known → Option ℕ = λ image. zeros_place (is_whole image part.span) image part.span in
    let rows : List (Option Row) = c.zero_part.new.rows in
    let devices : List DeviceSeen = c.zero_part.new.devices in
    let outcome = c.zero_part.result in
    let bytes : List ℕ = (replicate part.span.len 0) in
    let change : ImageChange = IsZeroed (IsDiskFound nodes.devices part) part.span in
    let may = subst (MayWriteThrough nodes) (sym e.node) (rw (sym c.self.view_is) at c.requires.may) in
    let edge = subst (λ (n : ℕ). file_of nodes n ≡ Some part.file) (sym e.node) (rw (sym c.self.view_is) at e.file) in
    let source = subst (λ (n : ℕ). source_at nodes n part.whole.start ≡ part.source) (sym e.node) (rw (sym c.self.view_is) at e.source) in
    let piece = rw (sym c.self.view_is) at e.piece in
    let w : WritesPart fits own change nodes.rows rows nodes.devices devices part bytes outcome
    = subst (λ (rs : List (Option Row)). WritesPart fits own change rs rows nodes.devices devices part bytes outcome) c.deref_mut.ensures.value c.zero_part.ensures in
    let refuses : (device : DeviceSeen) (dev : DevNo) → (fits w.image device.capacity → ⊥) → change w.image w.image device device (NoSpace dev)
    = λ device dev full. refuses_zeroed (IsDiskFound nodes.devices part) part.span w.image device dev full in
    let bare : own w.image ≡ None → part.span.len < part.whole.len → IsHost (entry_in w.image (part.whole.start / cluster_size_in w.image)) → ⊥
    = λ none less. bare_zeroed nodes.rows nodes.devices part w.image (image_found (row_at nodes part.node) w.row w.image (IsPieceOf nodes.rows nodes.devices part) w.there w.driver piece) less none in
    let whole : take c.self.inside.rows.len (rows ++ drop (length rows) nodes.rows) ≡ rows
    = sliced rows nodes.rows c.self.inside.rows.len (c.zero_part.auto.rows ∙ ap length c.deref_mut.ensures.value) (omega (arith, c.self.inside.rows.ok.0)) in
    let new : Nodes = record nodes { rows = rows; devices = devices } in
    rw whole (joined_piece nodes c.self.invariant part may edge source piece rows devices fits own change bytes outcome w refuses bare)

pub returns-clause-wrote : goal.returns-clause-wrote
returns-clause-wrote g c =
    let nodes : Nodes = record { graph = c.self.inside.graph; rows = c.self.inside.rows.items; devices = c.self.inside.devices } in
    let part : Part = c.part-part.result in
    let e = c.part-part.ensures in
    let fits : Known → ℕ → Type 0 = λ image. ZerosFit image part.span in
    let own : Known → Option ℕ = λ image. zeros_place (is_whole image part.span) image part.span in
    let rows : List (Option Row) = c.zero_part.new.rows in
    let devices : List DeviceSeen = c.zero_part.new.devices in
    let outcome = c.zero_part.result in
    let bytes : List ℕ = (replicate part.span.len 0) in
    let change : ImageChange = IsZeroed (IsDiskFound nodes.devices part) part.span in
    let may = subst (MayWriteThrough nodes) (sym e.node) (rw (sym c.self.view_is) at c.requires.may) in
    let edge = subst (λ (n : ℕ). file_of nodes n ≡ Some part.file) (sym e.node) (rw (sym c.self.view_is) at e.file) in
    let source = subst (λ (n : ℕ). source_at nodes n part.whole.start ≡ part.source) (sym e.node) (rw (sym c.self.view_is) at e.source) in
    let piece = rw (sym c.self.view_is) at e.piece in
    let w : WritesPart fits own change nodes.rows rows nodes.devices devices part bytes outcome
    = subst (λ (rs : List (Option Row)). WritesPart fits own change rs rows nodes.devices devices part bytes outcome) c.deref_mut.ensures.value c.zero_part.ensures in
    let refuses : (device : DeviceSeen) (dev : DevNo) → (fits w.image device.capacity → ⊥) → change w.image w.image device device (NoSpace dev)
    = λ device dev full. refuses_zeroed (IsDiskFound nodes.devices part) part.span w.image device dev full in
    let bare : own w.image ≡ None → part.span.len < part.whole.len → IsHost (entry_in w.image (part.whole.start / cluster_size_in w.image)) → ⊥
    = λ none less. bare_zeroed nodes.rows nodes.devices part w.image (image_found (row_at nodes part.node) w.row w.image (IsPieceOf nodes.rows nodes.devices part) w.there w.driver piece) less none in
    let whole : take c.self.inside.rows.len (rows ++ drop (length rows) nodes.rows) ≡ rows
    = sliced rows nodes.rows c.self.inside.rows.len (c.zero_part.auto.rows ∙ ap length c.deref_mut.ensures.value) (omega (arith, c.self.inside.rows.ok.0)) in
    let new : Nodes = record nodes { rows = rows; devices = devices } in
    rw (sym c.self.view_is) (rw whole (subst (λ (n : ℕ). ZerosPiece nodes new n c.args.span outcome) e.node (subst (λ (s : Extent). ZerosPiece nodes new part.node s outcome) e.span (zeros_image nodes new part.node part.span outcome w.row w.image w.there w.driver (wrote_piece nodes c.self.invariant part may edge source piece rows devices fits own change bytes outcome w refuses bare) (row_zeroed nodes new part.node w.row w.image outcome (IsDiskFound nodes.devices part) (IsToldDisk nodes part.node)
    (disk_found nodes c.self.invariant part may edge source piece rows devices fits own change bytes outcome w refuses bare) part.span
    (left_piece nodes c.self.invariant part may edge source piece rows devices fits own change bytes outcome w refuses bare))))))

pub returns-clause-disk : goal.returns-clause-disk
returns-clause-disk g c =
    let nodes : Nodes = record { graph = c.self.inside.graph; rows = c.self.inside.rows.items; devices = c.self.inside.devices } in
    let part : Part = c.part-part.result in
    let e = c.part-part.ensures in
    let fits : Known → ℕ → Type 0 = λ image. ZerosFit image part.span in
    let own : Known → Option ℕ = λ image. zeros_place (is_whole image part.span) image part.span in
    let rows : List (Option Row) = c.zero_part.new.rows in
    let devices : List DeviceSeen = c.zero_part.new.devices in
    let outcome = c.zero_part.result in
    let bytes : List ℕ = (replicate part.span.len 0) in
    let change : ImageChange = IsZeroed (IsDiskFound nodes.devices part) part.span in
    let may = subst (MayWriteThrough nodes) (sym e.node) (rw (sym c.self.view_is) at c.requires.may) in
    let edge = subst (λ (n : ℕ). file_of nodes n ≡ Some part.file) (sym e.node) (rw (sym c.self.view_is) at e.file) in
    let source = subst (λ (n : ℕ). source_at nodes n part.whole.start ≡ part.source) (sym e.node) (rw (sym c.self.view_is) at e.source) in
    let piece = rw (sym c.self.view_is) at e.piece in
    let w : WritesPart fits own change nodes.rows rows nodes.devices devices part bytes outcome
    = subst (λ (rs : List (Option Row)). WritesPart fits own change rs rows nodes.devices devices part bytes outcome) c.deref_mut.ensures.value c.zero_part.ensures in
    let refuses : (device : DeviceSeen) (dev : DevNo) → (fits w.image device.capacity → ⊥) → change w.image w.image device device (NoSpace dev)
    = λ device dev full. refuses_zeroed (IsDiskFound nodes.devices part) part.span w.image device dev full in
    let bare : own w.image ≡ None → part.span.len < part.whole.len → IsHost (entry_in w.image (part.whole.start / cluster_size_in w.image)) → ⊥
    = λ none less. bare_zeroed nodes.rows nodes.devices part w.image (image_found (row_at nodes part.node) w.row w.image (IsPieceOf nodes.rows nodes.devices part) w.there w.driver piece) less none in
    let whole : take c.self.inside.rows.len (rows ++ drop (length rows) nodes.rows) ≡ rows
    = sliced rows nodes.rows c.self.inside.rows.len (c.zero_part.auto.rows ∙ ap length c.deref_mut.ensures.value) (omega (arith, c.self.inside.rows.ok.0)) in
    let new : Nodes = record nodes { rows = rows; devices = devices } in
    rw (sym c.self.view_is) (rw whole (λ all. subst (λ (n : ℕ). disk_of new n ≡ with_bytes (disk_of nodes n) c.args.span.start (taken_by outcome (replicate c.args.span.len 0))) e.node (subst (λ (s : Extent). disk_of new part.node ≡ with_bytes (disk_of nodes part.node) s.start (taken_by outcome (replicate s.len 0))) e.span (disk_piece nodes c.self.invariant part may edge source piece rows devices fits own change bytes outcome w refuses bare all))))

pub returns-clause-others : goal.returns-clause-others
returns-clause-others g c =
    let nodes : Nodes = record { graph = c.self.inside.graph; rows = c.self.inside.rows.items; devices = c.self.inside.devices } in
    let part : Part = c.part-part.result in
    let e = c.part-part.ensures in
    let fits : Known → ℕ → Type 0 = λ image. ZerosFit image part.span in
    let own : Known → Option ℕ = λ image. zeros_place (is_whole image part.span) image part.span in
    let rows : List (Option Row) = c.zero_part.new.rows in
    let devices : List DeviceSeen = c.zero_part.new.devices in
    let outcome = c.zero_part.result in
    let bytes : List ℕ = (replicate part.span.len 0) in
    let change : ImageChange = IsZeroed (IsDiskFound nodes.devices part) part.span in
    let may = subst (MayWriteThrough nodes) (sym e.node) (rw (sym c.self.view_is) at c.requires.may) in
    let edge = subst (λ (n : ℕ). file_of nodes n ≡ Some part.file) (sym e.node) (rw (sym c.self.view_is) at e.file) in
    let source = subst (λ (n : ℕ). source_at nodes n part.whole.start ≡ part.source) (sym e.node) (rw (sym c.self.view_is) at e.source) in
    let piece = rw (sym c.self.view_is) at e.piece in
    let w : WritesPart fits own change nodes.rows rows nodes.devices devices part bytes outcome
    = subst (λ (rs : List (Option Row)). WritesPart fits own change rs rows nodes.devices devices part bytes outcome) c.deref_mut.ensures.value c.zero_part.ensures in
    let refuses : (device : DeviceSeen) (dev : DevNo) → (fits w.image device.capacity → ⊥) → change w.image w.image device device (NoSpace dev)
    = λ device dev full. refuses_zeroed (IsDiskFound nodes.devices part) part.span w.image device dev full in
    let bare : own w.image ≡ None → part.span.len < part.whole.len → IsHost (entry_in w.image (part.whole.start / cluster_size_in w.image)) → ⊥
    = λ none less. bare_zeroed nodes.rows nodes.devices part w.image (image_found (row_at nodes part.node) w.row w.image (IsPieceOf nodes.rows nodes.devices part) w.there w.driver piece) less none in
    let whole : take c.self.inside.rows.len (rows ++ drop (length rows) nodes.rows) ≡ rows
    = sliced rows nodes.rows c.self.inside.rows.len (c.zero_part.auto.rows ∙ ap length c.deref_mut.ensures.value) (omega (arith, c.self.inside.rows.ok.0)) in
    let new : Nodes = record nodes { rows = rows; devices = devices } in
    rw (sym c.self.view_is) (rw whole (λ other apart. others_piece nodes c.self.invariant part may edge source piece rows devices fits own change bytes outcome w refuses bare other (subst (IsApartFrom nodes other) (sym e.node) apart)))

pub returns-clause-kept : goal.returns-clause-kept
returns-clause-kept g c =
    let nodes : Nodes = record { graph = c.self.inside.graph; rows = c.self.inside.rows.items; devices = c.self.inside.devices } in
    let part : Part = c.part-part.result in
    let e = c.part-part.ensures in
    let fits : Known → ℕ → Type 0 = λ image. ZerosFit image part.span in
    let own : Known → Option ℕ = λ image. zeros_place (is_whole image part.span) image part.span in
    let rows : List (Option Row) = c.zero_part.new.rows in
    let devices : List DeviceSeen = c.zero_part.new.devices in
    let outcome = c.zero_part.result in
    let bytes : List ℕ = (replicate part.span.len 0) in
    let change : ImageChange = IsZeroed (IsDiskFound nodes.devices part) part.span in
    let may = subst (MayWriteThrough nodes) (sym e.node) (rw (sym c.self.view_is) at c.requires.may) in
    let edge = subst (λ (n : ℕ). file_of nodes n ≡ Some part.file) (sym e.node) (rw (sym c.self.view_is) at e.file) in
    let source = subst (λ (n : ℕ). source_at nodes n part.whole.start ≡ part.source) (sym e.node) (rw (sym c.self.view_is) at e.source) in
    let piece = rw (sym c.self.view_is) at e.piece in
    let w : WritesPart fits own change nodes.rows rows nodes.devices devices part bytes outcome
    = subst (λ (rs : List (Option Row)). WritesPart fits own change rs rows nodes.devices devices part bytes outcome) c.deref_mut.ensures.value c.zero_part.ensures in
    let refuses : (device : DeviceSeen) (dev : DevNo) → (fits w.image device.capacity → ⊥) → change w.image w.image device device (NoSpace dev)
    = λ device dev full. refuses_zeroed (IsDiskFound nodes.devices part) part.span w.image device dev full in
    let bare : own w.image ≡ None → part.span.len < part.whole.len → IsHost (entry_in w.image (part.whole.start / cluster_size_in w.image)) → ⊥
    = λ none less. bare_zeroed nodes.rows nodes.devices part w.image (image_found (row_at nodes part.node) w.row w.image (IsPieceOf nodes.rows nodes.devices part) w.there w.driver piece) less none in
    let whole : take c.self.inside.rows.len (rows ++ drop (length rows) nodes.rows) ≡ rows
    = sliced rows nodes.rows c.self.inside.rows.len (c.zero_part.auto.rows ∙ ap length c.deref_mut.ensures.value) (omega (arith, c.self.inside.rows.ok.0)) in
    let new : Nodes = record nodes { rows = rows; devices = devices } in
    rw (sym c.self.view_is) (rw whole (subst (LeavesNodes nodes new) e.node (leaves_piece nodes c.self.invariant part may edge source piece rows devices fits own change bytes outcome w refuses bare)))
