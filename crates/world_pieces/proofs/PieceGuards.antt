-- A guest's write on the source of a backup passes the backup's filter: no other way to the source may be written.
use Rattle.std.proofs.Common.{◌≡◌, ◌⊎◌, ℕ, zero, suc, true, false, not, List, [], ◌∷◌, refl, sym, ◌∙◌, ap, subst, inl, inr, Option, Some, None}
use Rattle.std.specs.Prelude.{Contains, option_and_then}
use Rattle.blk_graph.specs.Permissions.{derived_uses}
use Rattle.blk_graph.specs.Refreshed.{uses_into, with_uses}
use Rattle.blk_graph.specs.Rule.{KeepsPermissions}
use Rattle.blk_graph.specs.declared.edge.Edge.{Edge}
use Rattle.blk_graph.specs.declared.edge.Parent.TheVariants.{Guest as GuestOf, Node}
use Rattle.blk_graph.specs.declared.edge.Role.{Role}
use Rattle.blk_graph.specs.declared.edge.Role.TheVariants.{Drive, Filtered}
use Rattle.blk_graph.specs.declared.kind.Kind.{Kind}
use Rattle.blk_graph.specs.declared.kind.Kind.TheVariants.{BeforeWrite}
use Rattle.blk_graph.proofs.Members.{Contains-here, Contains-there}
use Rattle.blk_history.specs.Disk.{is_write}
use Rattle.blk_history.specs.Fold.{With}
use Rattle.blk_history.specs.Machine.{Flight}
use Rattle.blk_nodes.specs.Joined.{IsJoined}
use Rattle.blk_nodes.specs.Nodes.{driver_kind}
use Rattle.qmp_codec.specs.declared.event.JobKind.TheVariants.{Backup}
use Rattle.qmp_rules.specs.Chains.{disk_from, disk_node, filter_role, filtered}
use Rattle.qmp_rules.specs.Table.{RunTable, child}
use Rattle.qmp_rules.specs.declared.rows.JobRecord.{JobRecord}
use Rattle.qmp_rules.specs.declared.rows.NodeRecord.{NodeRecord}
use Rattle.flat_machine.specs.EventLicence.{IsDoneFor, PieceOn}
use Rattle.flat_machine.specs.Machine.{path, path_from}
use Rattle.flat_machine.specs.State.{drive_of}
use Rattle.flat_machine.proofs.WritingKept.{RoleEdge, role_edge}
use Rattle.job_tables.specs.Jobs.{CopyStands, StandsByKind}
use Rattle.world_parts.specs.Coherent.{AreJobsKept, IsCoherent}
use Rattle.world_parts.specs.Face.{WorldSeen}
use Rattle.world_parts.specs.Progress.{flight_at}
use Rattle.world_pieces.proofs.PieceReady.{writer}
use Rattle.world_pieces.proofs.PieceWriters.{filter_edge, into_write, own_row, rule_for, ruled_here}

module _ (w : WorldSeen) (g : ℕ) (f : Flight) (drive : ℕ) (on : drive_of w.table g ≡ Some drive) (flies : flight_at w.progress.guests g ≡ Some f) (joined : IsJoined w.nodes)
    (was : IsCoherent w.table w.nodes w.opened w.progress) (kept : AreJobsKept w.table w.works w.progress.aside) (writes : is_write f.op ≡ true)
    (row : JobRecord) (here : Contains w.table.jobs row) (backs : row.kind ≡ Backup) (source : disk_node w.table drive ≡ row.source) where
  abbrev t : RunTable
  t = w.table

  stands : CopyStands t row BeforeWrite
  stands = subst (StandsByKind t row) backs (kept.stand.each row here).shape

  abbrev filter : ℕ
  filter = stands.filter.filter

  -- ---- its filter's edge to the source

  over : RoleEdge t.edges (Node filter) Filtered row.source
  over = role_edge (Node filter) Filtered t.edges row.source stands.filter.over

  shut : over.edge.shared.write ≡ false
  shut =
      let own = own_row t w.nodes joined was.alike was.table.stands filter stands.filter.node stands.filter.there in
      let rule = ruled_here t w.nodes joined was.alike was.table.stands filter over.edge own.0 over.there over.from own.1 in
      let above = uses_into t.edges filter in
      let as_role = subst (λ (r : Role). with_uses over.edge (derived_uses (driver_kind own.0.driver) r (not own.0.is_read_only) above) ≡ over.edge) over.role_is rule in
      let as_kind = subst (λ (k : Kind). with_uses over.edge (derived_uses k Filtered (not own.0.is_read_only) above) ≡ over.edge) (sym own.2.kind ∙ stands.filter.kind_is) as_role in
      ap (λ (x : Edge). x.shared.write) (sym as_kind)

  -- what asks to write the source comes from the filter
  from_filter : (into : Edge) → Contains t.edges into → into.child ≡ row.source → into.perm.write ≡ true → into.parent ≡ Node filter
  from_filter into there to asks =
      let rule : KeepsPermissions t.edges = subst KeepsPermissions was.alike.edges joined.sound.just.rule in
      let same : over.edge ≡ into = rule_for t.edges into over.edge rule there over.there (to ∙ sym over.to) asks shut in
      ap (λ (x : Edge). x.parent) (sym same) ∙ over.from

  -- ---- down the path

  abbrev IsPast : ℕ → ℕ → Edge → Type 0
  IsPast n a into = (into.parent ≡ Node filter) ⊎ Contains (path_from n t a) filter

  abbrev Leads : ℕ → Type 0
  Leads n = (a : ℕ) (into : Edge) → Contains t.edges into → into.child ≡ a → into.perm.write ≡ true → disk_from n t a ≡ row.source → IsPast n a into

  down : (n : ℕ) → Leads n
  down zero a into there to asks is = inl (from_filter into there (to ∙ is) asks)
  down (suc n) a into there to asks is = by_child (filtered t a) refl is (down n)
    where
      by_child : (found : Option ℕ) → filtered t a ≡ found → (elim found as (λ _. ℕ) [ None ↦ a | Some below ↦ disk_from n t below ]) ≡ row.source → Leads n
          → (into.parent ≡ Node filter) ⊎ Contains (a ∷ (elim found as (λ _. List ℕ) [ None ↦ [] | Some below ↦ path_from n t below ])) filter
      by_child None at ends rest = inl (from_filter into there (to ∙ ends) asks)
      by_child (Some c) at ends rest =
          let e = filter_edge t w.nodes joined was.alike was.table.stands a c at in
          elim (rest c e.edge e.there e.to (e.passes.write ∙ into_write t.edges into a there to asks) ends) [
            | inl up ↦ let same : a ≡ filter = cc (sym e.from ∙ up) in inr (subst (Contains (a ∷ path_from n t c)) same (Contains-here a (path_from n t c)))
            | inr later ↦ inr (Contains-there a (path_from n t c) filter later)
          ]

  by : RoleEdge t.edges (GuestOf g) Drive drive
  by = role_edge (GuestOf g) Drive t.edges drive on

  passes : Contains (path t drive) filter
  unfolding path disk_node
  passes =
      let device = writer t w.nodes w.progress joined w.opened was g f drive on flies writes in
      elim (down 64 drive by.edge by.there by.to (was.asks g device.0 by.edge device.1 device.2 by.there by.from) source) [
        | inl guest ↦ let bad : GuestOf g ≡ Node filter = sym by.from ∙ guest in absurd (cc bad)
        | inr there ↦ there
      ]

  -- what is copied before it is done for the backup
  pub done_for_backup : IsDoneFor t (PieceOn drive f.op) row
  done_for_backup =
      (backs, writes, subst (λ (o : Option ℕ). With o (λ n. Contains (path t drive) n)) (sym stands.filter.is_filter) passes)
