-- What a job's filter is: no file, no image and no copy-on-read, with the role Filtered alone.
use Rattle.std.proofs.Common.{◌≡◌, true, Some, refl}
use Rattle.blk_graph.specs.Permissions.{has_role}
use Rattle.blk_graph.specs.declared.edge.Role.{Role}
use Rattle.blk_graph.specs.declared.edge.Role.TheVariants.{Filtered}
use Rattle.blk_graph.specs.declared.kind.Kind.TheVariants as kinds
use Rattle.blk_nodes.specs.Nodes.{filter_kind}
use Rattle.blk_nodes.specs.declared.row.FilterKind.{FilterKind}
use Rattle.blk_nodes.specs.declared.row.FilterKind.TheVariants.{BeforeWrite, Mirror, Commit}
use Rattle.qmp_rules.specs.Chains.{filter_role}
use Rattle.flat_machine.proofs.Redrawn.{keeps_size}

pub no_file : (kind : FilterKind) → filter_kind kind ≡ kinds.Protocol → ⊥
no_file BeforeWrite is = cc is
no_file Mirror is = cc is
no_file Commit is = cc is

pub no_image : (kind : FilterKind) → filter_kind kind ≡ kinds.Qcow2 → ⊥
no_image BeforeWrite is = cc is
no_image Mirror is = cc is
no_image Commit is = cc is

pub no_copies : (kind : FilterKind) → filter_kind kind ≡ kinds.CopyOnRead → ⊥
no_copies BeforeWrite is = cc is
no_copies Mirror is = cc is
no_copies Commit is = cc is

pub filters_role : (kind : FilterKind) → filter_role (filter_kind kind) ≡ Some Filtered
filters_role BeforeWrite = refl
filters_role Mirror = refl
filters_role Commit = refl

pub filtered_role : (kind : FilterKind) (role : Role) → has_role (filter_kind kind) role ≡ true → role ≡ Filtered
filtered_role BeforeWrite Filtered may = refl
filtered_role BeforeWrite role may = absurd cc
filtered_role Mirror Filtered may = refl
filtered_role Mirror role may = absurd cc
filtered_role Commit Filtered may = refl
filtered_role Commit role may = absurd cc

pub filter_keeps : (kind : FilterKind) → keeps_size (filter_kind kind) Filtered ≡ true
filter_keeps BeforeWrite = refl
filter_keeps Mirror = refl
filter_keeps Commit = refl
