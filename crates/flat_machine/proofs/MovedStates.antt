-- Nodes get other backing nodes, and parents of a node go over to another one: what holds of states stays.
use Rattle.std.proofs.Common.{◌≡◌, ◌≢◌, ◌⊎◌, ℕ, Bool, true, false, cond, List, refl, sym, ap, subst, ◌∙◌, inl, inr, Option, Some, None}
use Rattle.std.specs.Prelude.{◌==◌, ◌&&◌, not, IsSome}
use Rattle.std.specs.List.{find, Contains}
use Rattle.std.proofs.lemmas.Bool.{eqb-true, eq-eqb, ne_eqb, cases_eq}
use Rattle.blk_graph.specs.declared.edge.Edge.{Edge}
use Rattle.blk_graph.specs.declared.edge.Parent.{Parent}
use Rattle.blk_graph.specs.declared.edge.Parent.TheVariants.{Node, Guest}
use Rattle.blk_graph.specs.declared.edge.Role.TheVariants.{File}
use Rattle.blk_graph.specs.Edits.{stays}
use Rattle.blk_graph.specs.Paths.{IsAcyclic}
use Rattle.blk_graph.proofs.Members.{find-Some}
use Rattle.qmp_rules.specs.declared.change.Change.TheVariants as change
use Rattle.qmp_rules.specs.declared.rows.NodeRecord.{NodeRecord}
use Rattle.qmp_rules.specs.Changes.{changed}
use Rattle.qmp_rules.specs.Table.{node_by_id}
use Rattle.qmp_rules.specs.Chains.{filter_role, disk_node}
use Rattle.flat_machine.specs.State.{State, Disk, bytes_at_node}
use Rattle.flat_machine.specs.Changed.{stepped, with_bytes_of}
use Rattle.flat_machine.specs.Machine.{copies_through}
use Rattle.flat_machine.specs.Suiting.{MoveSuits, SuitsAttach, SuitsRebase}
use Rattle.flat_machine.specs.Standing.{CopiedAreUsed, HasBytes, Stands}
use Rattle.flat_machine.specs.Writing.{IsGuestWritable, written_file}
use Rattle.flat_machine.proofs.Kept.{own_disk}
use Rattle.flat_machine.proofs.Rows.{same_row}
use Rattle.flat_machine.proofs.TablesKept.{own_copies}
use Rattle.flat_machine.proofs.DriveWrites.{node_writable}
use Rattle.flat_machine.proofs.WritingAdded.{bytes-put}
use Rattle.flat_machine.proofs.Leading.{Leads}
use Rattle.flat_machine.proofs.LeadingStates.{DriveStays, IsFreed, IsOwn, SendsFile, led_holds, led_state, writes_before}
use Rattle.flat_machine.proofs.Backed.{unled, backed_table, bare_acyclic, bare_edges, bare_leads, copies_same, disk_same, put_acyclic, put_edges, put_leads}
use Rattle.flat_machine.proofs.MovedTables.{copies_moves, disk_moves, guest_moves, led_by, moved_edges, moved_leads, moved_stands, moving}

-- ---- backing nodes

module _ (s : State) (es : List Edge) (l : Leads s.table es unled) (disks : List Disk) (more : (n : ℕ) → HasBytes s n → IsSome (find (λ d. d.node == n) disks))
    (h : Stands s) where
  abbrev after : State
  after = led_state s es unled l disks more

  copied_still : CopiedAreUsed after
  copied_still name row disk there filter at named =
      let was = h.writing.copied name row disk there filter (subst (λ n. node_by_id s.table n ≡ Some disk) (disk_same s.table es l h.table row.id) at) named in
      record { state = was.state; content = was.content }

  pub backed_holds : IsAcyclic es → Stands after
  backed_holds acyclic =
      led_holds s es unled l disks more (backed_table s.table es l h.table acyclic) (λ e there role. inl refl) copied_still
      (λ g drive at. record { copies = copies_same s.table es l h.table drive; disk = inl (disk_same s.table es l h.table drive) }) h

pub attached_holds : (s : State) (over base : ℕ) → SuitsAttach s.table over base → Stands s → Stands (stepped s (change.Attach over base))
unfolding changed
attached_holds s over base suits h =
    backed_holds s (put_edges s.table over base suits h.table) (put_leads s.table over base suits h.table) (with_bytes_of over (bytes_at_node s base) s.disks)
    (λ n has. bytes-put over n (bytes_at_node s base) s.disks has) h (put_acyclic s.table over base suits h.table)

pub rebased_holds : (s : State) (node : ℕ) (backing : Option ℕ) → SuitsRebase s.table node backing → Stands s → Stands (stepped s (change.Rebase node backing))
unfolding changed
rebased_holds s node None suits h =
    backed_holds s (bare_edges s.table node h.table) (bare_leads s.table node h.table) s.disks (λ n has. has) h (bare_acyclic s.table node h.table)
rebased_holds s node (Some base) suits h =
    backed_holds s (put_edges s.table node base suits h.table) (put_leads s.table node base suits h.table) s.disks (λ n has. has) h
    (put_acyclic s.table node base suits h.table)

-- ---- parents

module _ (s : State) (from to but : ℕ) (suits : MoveSuits s from to but) (h : Stands s) where
  abbrev lead : Parent → ℕ → ℕ
  lead = led_by from to but

  abbrev es : List Edge
  es = moved_edges s.table from to but suits.suits h.table

  abbrev l : Leads s.table es lead
  l = moved_leads s.table from to but suits.suits h.table

  abbrev then_state : State
  then_state = led_state s es lead l s.disks (λ n has. has)

  here : Contains s.table.nodes suits.suits.onto.row × ((suits.suits.onto.row.id == to) ≡ true)
  here = find-Some (λ r. r.id == to) s.table.nodes suits.suits.onto.row suits.suits.onto.there

  onto_id : suits.suits.onto.row.id ≡ to
  onto_id = eqb-true suits.suits.onto.row.id to here.1

  freed : (under : NodeRecord) → Contains s.table.nodes under → under.id ≡ to → (name : List ℕ) → under.filename ≡ Some name → IsFreed s name
  freed under there id name named =
      let same : under ≡ suits.suits.onto.row = same_row s.table h.table.apart suits.suits.onto.row under here.0 there (id ∙ sym onto_id) in (
        suits.used name (ap (λ r. r.filename) (sym same) ∙ named),
        suits.left name under (record { there = there; filename = named }) id,
      )

  files : (e : Edge) → Contains s.table.edges e → e.role ≡ File → SendsFile s lead e
  files e there role = by_test (e.child == from && not (stays (Some (Node but)) e.parent))
    where
      by_test : (b : Bool) → (cond b to e.child ≡ e.child)
          ⊎ ((under : NodeRecord) → Contains s.table.nodes under → under.id ≡ cond b to e.child → (name : List ℕ) → under.filename ≡ Some name → IsFreed s name)
      by_test false = inl refl
      by_test true = inr freed

  can : IsGuestWritable s to
  can = subst (IsGuestWritable s) onto_id
      (node_writable s suits.suits.onto.row h here.0 suits.suits.onto.own suits.suits.writable
      (λ name named. let file = freed suits.suits.onto.row here.0 onto_id name named in (file.0.content, file.1)))

  own : IsOwn s.table to
  own row at =
      let found = suits.suits.onto.there in
      let same : row ≡ suits.suits.onto.row = cc in
      ap (λ r. filter_role r.kind) same ∙ suits.suits.onto.own

  moves_not : (c : ℕ) → c ≢ from → moving from to c ≡ c
  moves_not c other = rw (ne_eqb c from other) refl

  moves_from : moving from to from ≡ to
  moves_from = rw (eq-eqb from from refl) refl

  -- no filter is the node that parents leave
  apart : (row : NodeRecord) → Contains s.table.nodes row → filter_role row.kind ≡ Some File → row.id ≢ from
  apart row there filter same =
      let at_row = subst (λ n. node_by_id s.table n ≡ Some row) same (h.table.apart row there) in
      let found = suits.suits.plain.there in
      let rows : row ≡ suits.suits.plain.row = cc in
      let none = ap (λ r. filter_role r.kind) rows ∙ suits.suits.plain.own in
      cc

  copied_moved : CopiedAreUsed then_state
  copied_moved name row disk there filter at named = elim (cases_eq (disk_node s.table row.id) from) [
    | inr other ↦
        let was = h.writing.copied name row disk there filter
        (subst (λ n. node_by_id s.table n ≡ Some disk) (moved_to ∙ moves_not (disk_node s.table row.id) other) at) named in
        record { state = was.state; content = was.content }
    | inl is ↦
        let at_to : node_by_id s.table to ≡ Some disk = subst (λ n. node_by_id s.table n ≡ Some disk) (moved_to ∙ ap (moving from to) is ∙ moves_from) at in
        let disk_here = find-Some (λ r. r.id == to) s.table.nodes disk at_to in
        let file = (freed disk disk_here.0 (eqb-true disk.id to disk_here.1) name named).0 in
        record { state = file.state; content = file.content }
  ]
    where
      moved_to : disk_node then_state.table row.id ≡ moving from to (disk_node s.table row.id)
      moved_to = disk_moves s.table from to but suits.suits h.table row.id (apart row there filter)

  drives_stay : (g drive : ℕ) → DriveStays s es lead l s.disks (λ n has. has) g drive
  drives_stay g drive = elim (cases_eq drive from) [
    | inl is ↦ at_from is
    | inr other ↦ elsewhere other
  ]
    where
      to_itself : disk_node then_state.table to ≡ to
      to_itself = own_disk then_state.table to suits.suits.onto.row suits.suits.onto.there suits.suits.onto.own

      at_from : drive ≡ from → DriveStays s es lead l s.disks (λ n has. has) g drive
      at_from is =
          let to_is : lead (Guest g) drive ≡ to = guest_moves s.table from to but suits.suits h.table g drive ∙ ap (moving from to) is ∙ moves_from in
          let reads : disk_node then_state.table (lead (Guest g) drive) ≡ to = ap (disk_node then_state.table) to_is ∙ to_itself in
          record {
            copies = ap (copies_through then_state.table) to_is ∙ own_copies then_state.table to suits.suits.onto.row suits.suits.onto.there suits.suits.onto.own
                ∙ sym (ap (copies_through s.table) is ∙ own_copies s.table from suits.suits.plain.row suits.suits.plain.there suits.suits.plain.own);
            disk = inr (subst (IsGuestWritable s) (sym reads) can, subst (IsOwn s.table) (sym reads) own);
          }

      elsewhere : drive ≢ from → DriveStays s es lead l s.disks (λ n has. has) g drive
      elsewhere other =
          let stays_there : lead (Guest g) drive ≡ drive = guest_moves s.table from to but suits.suits h.table g drive ∙ moves_not drive other in
          let reads = disk_moves s.table from to but suits.suits h.table drive other in
          record {
            copies = ap (copies_through then_state.table) stays_there ∙ copies_moves s.table from to but suits.suits h.table drive other;
            disk = elim (cases_eq (disk_node s.table drive) from) [
              | inr apart_too ↦ inl (ap (disk_node then_state.table) stays_there ∙ reads ∙ moves_not (disk_node s.table drive) apart_too)
              | inl is ↦
                  let goes : disk_node then_state.table (lead (Guest g) drive) ≡ to = ap (disk_node then_state.table) stays_there ∙ reads ∙ ap (moving from to) is ∙ moves_from in
                  inr (subst (IsGuestWritable s) (sym goes) can, subst (IsOwn s.table) (sym goes) own)
            ];
          }

  pub moved_writes : (n : ℕ) (name : List ℕ) → written_file then_state.table n ≡ Some name → written_file s.table n ≡ Some name
  moved_writes = writes_before s es lead l s.disks (λ n has. has) (moved_stands s.table from to but suits.suits h.table) files copied_moved
      (λ g drive at. drives_stay g drive) h

  moved_state : Stands then_state
  moved_state =
      led_holds s es lead l s.disks (λ n has. has) (moved_stands s.table from to but suits.suits h.table) files copied_moved
      (λ g drive at. drives_stay g drive) h

pub moved_holds : (s : State) (from to but : ℕ) → MoveSuits s from to but → Stands s → Stands (stepped s (change.Move from to but))
unfolding changed
moved_holds s from to but suits h = moved_state s from to but suits h
