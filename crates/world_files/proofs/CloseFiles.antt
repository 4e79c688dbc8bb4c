-- At the end of a world the files hold what they held before.
use Rattle.std.proofs.Common.{◌≡◌, ℕ, true, List, refl, sym, ◌∙◌, ap, subst, Option, Some, None}
use Rattle.std.specs.Prelude.{IsSome, is_some, Contains, option_and_then, ◌==◌}
use Rattle.std.proofs.lemmas.Bool.{false≢true, eqb-true}
use Rattle.blk_base.specs.declared.fault.FaultAt.{FaultAt}
use Rattle.blk_base.specs.declared.file.File.{File}
use Rattle.blk_graph.specs.declared.kind.Kind.TheVariants.{Protocol}
use Rattle.blk_nodes.specs.Joined.{IsJoined, HasBelow}
use Rattle.blk_nodes.specs.Nodes.{Nodes, DeviceSeen, AreTold, row_at, device_in, is_device_of, driver_kind}
use Rattle.blk_graph.proofs.Members.{find-Some}
use Rattle.blk_history.specs.Fold.{With}
use Rattle.flat_machine.specs.State.{filename_of}
use Rattle.blk_nodes.specs.declared.row.Driver.{Driver}
use Rattle.blk_nodes.specs.declared.row.Driver.TheVariants as drivers
use Rattle.blk_nodes.specs.declared.row.Row.{Row}
use Rattle.qmp_rules.specs.declared.rows.NodeRecord.{NodeRecord}
use Rattle.qmp_rules.specs.Table.{RunTable, node_by_id}
use Rattle.world_files.specs.Closing.{EndsWorld, AreFlushed, AreNodesFlushed, IsFlushedIn}
use Rattle.world_parts.specs.Coherent.{IsCoherent, AreNodesOf, AreAlike}
use Rattle.world_parts.specs.Face.{WorldSeen, held, told_bytes}
use Rattle.world_parts.specs.Steps.{StoreSeen}
use Rattle.world_files.proofs.CloseLemmas.{back-files}
use Rattle.world_files.proofs.CloseHeld.{held-is}
use Rattle.world_parts.proofs.JobFilters.{no_file}

is-file : (driver : Driver) → driver_kind driver ≡ Protocol → driver ≡ drivers.File
is-file drivers.File is = refl
is-file (drivers.Raw part) is = absurd (let bad : ⊥ = cc is in bad)
is-file (drivers.Qcow2 image) is = absurd (let bad : ⊥ = cc is in bad)
is-file drivers.CopyOnRead is = absurd (let bad : ⊥ = cc is in bad)
is-file (drivers.Filter kind) is = absurd (no_file kind is)

-- a `file` node of the table has its device
has-device : (t : RunTable) (nodes : Nodes) → AreNodesOf t nodes → IsJoined nodes → (row : NodeRecord) → node_by_id t row.id ≡ Some row → row.kind ≡ Protocol
    → IsSome (device_in nodes.devices row.id)
has-device t nodes alike joined row found kind = by_row (row_at nodes row.id) refl (subst (λ r. AreAlike r (row_at nodes row.id)) found (alike.rows row.id))
  where
    by_row : (its : Option Row) → row_at nodes row.id ≡ its → AreAlike (Some row) its → IsSome (device_in nodes.devices row.id)
    by_row None is both = absurd both
    by_row (Some its) is both =
        let file = is-file its.driver (sym both.kind ∙ kind) in
        subst (HasBelow nodes row.id its.size) file (joined.below row.id its is)

told-files : (files : Option (List File)) → is_some files ≡ true → (told : List File) × (files ≡ Some told)
told-files None is = absurd (false≢true is)
told-files (Some told) is = (told, refl)

pub held-then : (w : WorldSeen) (store : StoreSeen) (fault : Option FaultAt) → EndsWorld w store fault → IsJoined w.nodes → IsCoherent w.table w.nodes w.opened w.progress
    → is_some w.files ≡ true → AreTold w.nodes.devices → (name : List ℕ) → told_bytes store.files name ≡ held w name
held-then w store fault closed joined coherent told devices name =
    let files = told-files w.files told in
    let stands = coherent.table.stands in
    let have : (row : NodeRecord) → Contains w.table.nodes row → IsSome row.filename → IsSome (device_in w.nodes.devices row.id) =
    λ row there some. has-device w.table w.nodes coherent.alike joined row (stands.apart row there) (by_name row there row.filename refl some) in
    (back-files w.table w.nodes.devices _ _ fault closed.back coherent.out devices files.0 files.1).1 name
    ∙ held-is w coherent.out stands.apart have name
  where
    by_name : (row : NodeRecord) → Contains w.table.nodes row → (filename : Option (List ℕ)) → row.filename ≡ filename → IsSome filename → row.kind ≡ Protocol
    by_name row there None is some = absurd (false≢true some)
    by_name row there (Some n) is some = coherent.table.stands.drivers n row (record { there = there; filename = is })

-- the file of each `file` node is that of its device
pub nodes-flushed : (w : WorldSeen) (files : Option (List File)) → IsJoined w.nodes → IsCoherent w.table w.nodes w.opened w.progress → AreFlushed w files → AreNodesFlushed w.table files
nodes-flushed w files joined coherent flushed node name named = by_row (node_by_id w.table node) refl
  where
    by_device : (device : Option DeviceSeen) → device_in w.nodes.devices node ≡ device → IsSome device → With files (λ told. IsFlushedIn told name)
    by_device None none there = absurd (false≢true there)
    by_device (Some device) is there =
        let at = find-Some (is_device_of node) w.nodes.devices device is in
        let same : device.node ≡ node = eqb-true device.node node at.1 in
        flushed device name at.0 (ap (filename_of w.table) same ∙ named)

    by_row : (found : Option NodeRecord) → node_by_id w.table node ≡ found → With files (λ told. IsFlushedIn told name)
    by_row None none = let bad : None ≡ Some name = sym (ap (option_and_then (λ (r : NodeRecord). r.filename)) none) ∙ named in let no : ⊥ = cc bad in absurd no
    by_row (Some row) found =
        let at = find-Some (λ (r : NodeRecord). r.id == node) w.table.nodes row found in
        let id : row.id ≡ node = eqb-true row.id node at.1 in
        let filename : row.filename ≡ Some name = sym (ap (option_and_then (λ (r : NodeRecord). r.filename)) found) ∙ named in
        let kind = coherent.table.stands.drivers name row (record { there = at.0; filename = filename }) in
        by_device (device_in w.nodes.devices node) refl
        (subst (λ (n : ℕ). IsSome (device_in w.nodes.devices n)) id (has-device w.table w.nodes coherent.alike joined row (ap (node_by_id w.table) id ∙ found) kind))

-- they are still told
pub told-then : (w : WorldSeen) (store : StoreSeen) (fault : Option FaultAt) → EndsWorld w store fault → IsCoherent w.table w.nodes w.opened w.progress
    → is_some w.files ≡ true → AreTold w.nodes.devices → is_some store.files ≡ true
told-then w store fault closed coherent told devices =
    let files = told-files w.files told in
    (back-files w.table w.nodes.devices _ _ fault closed.back coherent.out devices files.0 files.1).0
