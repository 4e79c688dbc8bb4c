-- A job's filter is put over a node, or goes: what holds of states stays.
use Rattle.std.proofs.Common.{◌≡◌, ◌≢◌, ◌⊎◌, ℕ, Bool, true, false, cond, List, [], ◌∷◌, ◌++◌, refl, sym, ap, subst, ◌∙◌, inl, inr, Option, Some, None, option_map}
use Rattle.std.specs.Prelude.{◌==◌, not, IsSome}
use Rattle.std.specs.List.{Contains}
use Rattle.std.proofs.lemmas.Bool.{eqb-true, eq-eqb, ne_eqb, cases_eq}
use Rattle.std.proofs.lemmas.List.Elements.{All-weaker}
use Rattle.blk_graph.specs.declared.edge.Edge.{Edge}
use Rattle.blk_graph.specs.declared.edge.Parent.{Parent}
use Rattle.blk_graph.specs.declared.edge.Parent.TheVariants.{Node, Guest}
use Rattle.blk_graph.specs.declared.edge.Role.{Role}
use Rattle.blk_graph.specs.declared.edge.Role.TheVariants.{Drive, File}
use Rattle.blk_graph.specs.declared.kind.NodeKind.{NodeKind}
use Rattle.blk_graph.specs.Edges.{same_parent}
use Rattle.blk_graph.specs.Edits.{child_of, with_edge, without_parent}
use Rattle.blk_graph.specs.Permissions.{has_role}
use Rattle.blk_graph.proofs.ChildLemmas.{child-kept, child-without}
use Rattle.blk_graph.proofs.Members.{find-Some, Contains-filter}
use Rattle.blk_graph.proofs.RefreshLemmas.{child_of-refreshed}
use Rattle.qmp_rules.specs.declared.change.Change.TheVariants as change
use Rattle.qmp_rules.specs.declared.rows.NodeRecord.{NodeRecord}
use Rattle.qmp_rules.specs.Changes.{changed}
use Rattle.qmp_rules.specs.Table.{RunTable, node_by_id, child, kinds_of}
use Rattle.qmp_rules.specs.Chains.{filter_role, filtered, disk_node}
use Rattle.flat_machine.specs.State.{State, drive_of}
use Rattle.flat_machine.specs.Changed.{stepped}
use Rattle.flat_machine.specs.Machine.{copies_through}
use Rattle.flat_machine.specs.Suiting.{IsThere, PullSuits, SuitsPut}
use Rattle.flat_machine.specs.Standing.{CopiedAreUsed, IsUsedFile, IsUsedUp, Stands, WritingStands}
use Rattle.flat_machine.specs.Wiring.{LeadsToFile, StandsFor, IsUnder}
use Rattle.flat_machine.proofs.Tables.{filter-keeps, with_edge-keeps, apart-parents}
use Rattle.flat_machine.proofs.Rows.{rows-same, same_row, SameRows}
use Rattle.flat_machine.proofs.Wired.{Grows, NoRow, NoEdge}
use Rattle.flat_machine.proofs.TablesKept.{IsOther, over_own, own_copies, removed_grow}
use Rattle.flat_machine.proofs.Kept.{own_disk}
use Rattle.flat_machine.proofs.CopiedFiles.{copying, file_parent}
use Rattle.flat_machine.proofs.WritingKept.{grown_writing, left_still, role_edge}
use Rattle.flat_machine.proofs.WritingAdded.{drive_there, same_devices}
use Rattle.flat_machine.proofs.StandingAdded.{HasEdges, added_stands, no_file_row, open-before, stands-pushed}
use Rattle.flat_machine.proofs.Leading.{Leads}
use Rattle.flat_machine.proofs.LeadingStates.{DriveStays, IsFreed, SendsFile, led_holds, led_state}
use Rattle.flat_machine.proofs.MovedTables.{moving}
use Rattle.flat_machine.proofs.FilterPut as put
use Rattle.flat_machine.proofs.FilterPull as pull

-- ---- put

module _ (s : State) (row : NodeRecord) (node : ℕ) (suits : SuitsPut s.table row node) (h : Stands s) where
  abbrev t : RunTable
  t = s.table

  -- the filter is there, over the node
  abbrev between_state : State
  between_state = record s { table = put.between t row node suits h.table }

  abbrev New : Edge → Type 0
  New = put.IsOwn t row node suits h.table

  grow : Grows t between_state.table (IsThere t) (λ r. r ≡ row) New
  grow = put.put_grow t row node suits h.table

  no_name : (r : NodeRecord) (name : List ℕ) → r ≡ row → r.filename ≡ Some name → ⊥
  no_name r name is named = let none = sym (ap (λ x. x.filename) is ∙ suits.filename) ∙ named in cc

  no_file : (e : Edge) → New e → e.role ≡ File → ⊥
  no_file e is_new role = let bad = is_new.role ∙ role in cc

  between_writing : WritingStands between_state
  between_writing =
      grown_writing s between_state (IsThere t) (λ r. r ≡ row) New grow
      (record {
        names = λ name named. named;
        names_new = λ name r is named writes. absurd (no_name r name is named);
        known = λ name over under f is known. known;
        known_new = λ name over under f is_new named. absurd (no_file f.edge is_new f.role);
        bytes = λ n here some. some;
        bytes_new = λ r is own. absurd (let mine = ap (λ x. filter_role x.kind) (sym is) ∙ own in let filter = suits.filter in cc);
        left = All-weaker (IsUsedUp s) (IsUsedUp between_state) (λ l used. left_still s between_state (IsThere t) (λ r. r ≡ row) New grow l used.used
            (λ r is named. no_name r l.file is named) (λ e r is_new role to over. no_file e is_new role) used) s.left h.writing.left;
        written = λ n name here entered of known. known;
        used = λ n name here entered of used. used;
        copies_new = λ r disk is filter at. absurd (let mine = ap (λ x. filter_role x.kind) (sym is) ∙ filter in let other = suits.filter in cc);
        emptied = λ n name here entered of none. none;
        devices = same_devices s between_state refl (λ g.
            child_of-refreshed kinds (Guest g) Drive (with_edge own t.edges) ∙ child-kept (Guest g) Drive own t.edges (λ same. cc));
        drives = λ g n is. drive_there t h.table.edges g n is;
      })
      h.table h.writing
    where
      kinds : List NodeKind
      kinds = kinds_of (t.nodes ++ row ∷ [])

      own : Edge
      own = put.own t row node suits h.table

  rows : SameRows t t
  rows = rows-same t t refl h.table.apart

  es : HasEdges s between_state
  es = record {
    kinds = kinds_of (t.nodes ++ row ∷ []);
    before = with_edge (put.own t row node suits h.table) t.edges;
    derived = refl;
    keeps = λ e there over. with_edge-keeps (put.own t row node suits h.table) t.edges e
        (apart-parents (put.own t row node suits h.table) e (λ same. put.apart_from t row node suits h.table e there (sym same))) there;
  }

  between_holds : Stands between_state
  between_holds =
      added_stands s between_state t row rows refl es refl (no_file_row between_state row suits.filename) (λ name some. some)
      (λ other old later over like there gone. inl (subst (λ r. r.is_settled ≡ false) (same_row t h.table.apart old later over.there there like.id) gone))
      (λ name what found is_open. h.states name what found (open-before s between_state es (stands-pushed t t between_state.table row rows refl) name is_open))
      (put.between_stands t row node suits h.table) between_writing h

  abbrev lead : Parent → ℕ → ℕ
  lead = put.lead t row node suits h.table

  abbrev edges : List Edge
  edges = put.put_edges t row node suits h.table

  abbrev leads : Leads between_state.table edges lead
  leads = put.put_leads t row node suits h.table

  abbrev after : State
  after = led_state between_state edges lead leads s.disks (λ n has. has)

  found_row : node_by_id between_state.table row.id ≡ Some row
  found_row = put.found_row t row node suits h.table

  -- no edge to a file leads to a `file` node now
  files : (e : Edge) → Contains between_state.table.edges e → e.role ≡ File → SendsFile between_state lead e
  files e there role = by_test (same_parent e.parent (Node row.id)) (e.child == node)
    where
      none : (under : NodeRecord) → Contains between_state.table.nodes under → under.id ≡ row.id → (name : List ℕ) → under.filename ≡ Some name → IsFreed between_state name
      none under at id name named =
          let here = find-Some (λ r. r.id == row.id) between_state.table.nodes row found_row in
          absurd (no_name under name (same_row between_state.table between_holds.table.apart row under here.0 at id) named)

      by_test : (a b : Bool) → (cond a e.child (cond b row.id e.child) ≡ e.child)
          ⊎ ((under : NodeRecord) → Contains between_state.table.nodes under → under.id ≡ cond a e.child (cond b row.id e.child) → (name : List ℕ)
          → under.filename ≡ Some name → IsFreed between_state name)
      by_test true b = inl refl
      by_test false false = inl refl
      by_test false true = inr none

  copied : CopiedAreUsed after
  copied name r disk there filter at named =
      let was = between_holds.writing.copied name r disk there filter
      (subst (λ n. node_by_id between_state.table n ≡ Some disk) (put.put_disk t row node suits h.table r.id) at) named in
      record { state = was.state; content = was.content }

  found_node : node_by_id between_state.table node ≡ Some suits.under.row
  found_node = put.found_under t row node suits h.table

  drives_stay : (g drive : ℕ) → DriveStays between_state edges lead leads s.disks (λ n has. has) g drive
  drives_stay g drive = elim (cases_eq drive node) [
    | inr other ↦
        let stays : lead (Guest g) drive ≡ drive = rw (ne_eqb drive node other) refl in
        record {
          copies = ap (copies_through after.table) stays ∙ put.put_copies t row node suits h.table drive;
          disk = inl (ap (disk_node after.table) stays ∙ put.put_disk t row node suits h.table drive);
        }
    | inl is ↦
        let goes : lead (Guest g) drive ≡ row.id = rw (eq-eqb drive node is) refl in
        let own = own_copies between_state.table node suits.under.row found_node suits.under.own in
        record {
          copies = ap (copies_through after.table) goes ∙ put.put_copies t row node suits h.table row.id ∙ put.row_copies t row node suits h.table
              ∙ sym (ap (copies_through between_state.table) is ∙ own);
          disk = inl (ap (disk_node after.table) goes ∙ put.put_disk t row node suits h.table row.id ∙ put.row_disk t row node suits h.table
              ∙ sym (ap (disk_node between_state.table) is ∙ own_disk between_state.table node suits.under.row found_node suits.under.own));
        }
  ]

  put_state : Stands after
  put_state =
      led_holds between_state edges lead leads s.disks (λ n has. has) (put.put_stands t row node suits h.table) files copied (λ g drive at. drives_stay g drive)
      between_holds

pub put_holds : (s : State) (row : NodeRecord) (node : ℕ) → SuitsPut s.table row node → Stands s → Stands (stepped s (change.PutFilter row node))
unfolding changed
put_holds s row node suits h = put_state s row node suits h

-- ---- gone

module _ (s : State) (over : ℕ) (suits : PullSuits s over) (h : Stands s) where
  abbrev tbl : RunTable
  tbl = s.table

  abbrev below : ℕ
  below = suits.suits.below

  abbrev pull_lead : Parent → ℕ → ℕ
  pull_lead = pull.lead tbl over suits.suits h.table

  abbrev pull_edges : List Edge
  pull_edges = pull.loose_edges tbl over suits.suits h.table

  abbrev pull_leads : Leads tbl pull_edges pull_lead
  pull_leads = pull.loose_leads tbl over suits.suits h.table

  abbrev loose_state : State
  loose_state = led_state s pull_edges pull_lead pull_leads s.disks (λ n has. has)

  below_here : Contains tbl.nodes suits.suits.under.row × ((suits.suits.under.row.id == below) ≡ true)
  below_here = find-Some (λ r. r.id == below) tbl.nodes suits.suits.under.row suits.suits.under.there

  over_here : Contains tbl.nodes suits.suits.row × ((suits.suits.row.id == over) ≡ true)
  over_here = find-Some (λ r. r.id == over) tbl.nodes suits.suits.row suits.suits.there

  -- a `copy-on-read` over the filter reads the file below it
  read_below : (x : NodeRecord) → LeadsToFile tbl x suits.suits.row → (under : NodeRecord) → Contains tbl.nodes under → under.id ≡ below → (name : List ℕ)
      → under.filename ≡ Some name → IsUsedFile s name
  read_below x f under there id name named = by_role (filter_role x.kind) refl
    where
      at_x : node_by_id tbl x.id ≡ Some x
      at_x = h.table.apart x f.over_there

      filters : IsSome (filter_role x.kind)
      filters = h.table.filtered x suits.suits.row f (pull.unnamed tbl over suits.suits h.table)

      to_over : child tbl x.id File ≡ Some over
      to_over =
          let of = h.table.single f.edge f.there f.role in
          let same : of.0 ≡ x.id = (let both = sym of.1.0 ∙ f.parent in cc) in
          subst (λ n. child tbl n File ≡ Some f.edge.child) same of.1.1 ∙ ap (λ (m : ℕ). Some m) (f.child ∙ eqb-true suits.suits.row.id over over_here.1)

      by_role : (role : Option Role) → filter_role x.kind ≡ role → IsUsedFile s name
      by_role None is = absurd (let none = subst IsSome is filters in cc)
      by_role (Some role) is =
          let copies = copying x.kind (subst (λ r. has_role x.kind r ≡ true) f.role (h.table.roles f.edge x f.there f.over_there f.parent)) filters in
          let reads : filtered tbl x.id ≡ Some over = rw (at_x, copies) to_over in
          let reads_below : filtered loose_state.table x.id ≡ Some below =
          pull.filtered_pulls tbl over suits.suits h.table x.id ∙ ap (option_map (moving over below)) reads ∙ ap (λ (m : ℕ). Some m) (rw (eq-eqb over over refl) refl) in
          let disk : disk_node tbl x.id ≡ below =
          sym (pull.pulled_disk tbl over suits.suits h.table x.id (pull.reads_apart tbl over suits.suits h.table x.id (subst IsSome (sym at_x) refl)))
          ∙ over_own loose_state.table x.id below reads_below (rw (suits.suits.under.there, suits.suits.under.own) refl) in
          let at_below : node_by_id tbl below ≡ Some under = subst (λ n. node_by_id tbl n ≡ Some under) id (h.table.apart under there) in
          h.writing.copied name x under f.over_there copies (ap (node_by_id tbl) disk ∙ at_below) named

  pull_files : (e : Edge) → Contains tbl.edges e → e.role ≡ File → SendsFile s pull_lead e
  pull_files e there role = by_test (e.child == over) refl
    where
      by_test : (b : Bool) → (e.child == over) ≡ b → (cond b below e.child ≡ e.child)
          ⊎ ((under : NodeRecord) → Contains tbl.nodes under → under.id ≡ cond b below e.child → (name : List ℕ) → under.filename ≡ Some name → IsFreed s name)
      by_test false is = inl refl
      by_test true is = inr (λ under at id name named.
          let to : e.child ≡ suits.suits.row.id = eqb-true e.child over is ∙ sym (eqb-true suits.suits.row.id over over_here.1) in
          let above = file_parent tbl h.table e there role suits.suits.row over_here.0 to in
          (read_below above.0 above.1 under at id name named, suits.left name under (record { there = at; filename = named }) id))

  pull_copied : CopiedAreUsed loose_state
  pull_copied name r disk there filter at named =
      let some : IsSome (node_by_id tbl r.id) = subst IsSome (sym (h.table.apart r there)) refl in
      let reads = pull.pulled_disk tbl over suits.suits h.table r.id (pull.reads_apart tbl over suits.suits h.table r.id some) in
      let was = h.writing.copied name r disk there filter (subst (λ n. node_by_id tbl n ≡ Some disk) reads at) named in
      record { state = was.state; content = was.content }

  pull_drives : (g drive : ℕ) → drive_of tbl g ≡ Some drive → DriveStays s pull_edges pull_lead pull_leads s.disks (λ n has. has) g drive
  pull_drives g drive at = elim (cases_eq drive over) [
    | inr other ↦
        let stays : pull_lead (Guest g) drive ≡ drive = rw (ne_eqb drive over other) refl in
        let apart = pull.reads_apart tbl over suits.suits h.table drive (drive_there tbl h.table.edges g drive at) in
        record {
          copies = ap (copies_through loose_state.table) stays ∙ pull.pulled_copies tbl over suits.suits h.table drive apart;
          disk = inl (ap (disk_node loose_state.table) stays ∙ pull.pulled_disk tbl over suits.suits h.table drive apart);
        }
    | inl is ↦
        let goes : pull_lead (Guest g) drive ≡ below = rw (eq-eqb drive over is) refl in
        record {
          copies = ap (copies_through loose_state.table) goes
              ∙ own_copies loose_state.table below suits.suits.under.row suits.suits.under.there suits.suits.under.own
              ∙ sym (ap (copies_through tbl) is ∙ pull.over_copies tbl over suits.suits h.table);
          disk = inl (ap (disk_node loose_state.table) goes
              ∙ own_disk loose_state.table below suits.suits.under.row suits.suits.under.there suits.suits.under.own
              ∙ sym (ap (disk_node tbl) is ∙ over_own tbl over below (pull.over_below tbl over suits.suits h.table) (pull.below_alone tbl over suits.suits h.table)));
        }
  ]

  loose_holds : Stands loose_state
  loose_holds =
      led_holds s pull_edges pull_lead pull_leads s.disks (λ n has. has) (pull.loose_stands tbl over suits.suits h.table) pull_files pull_copied pull_drives h

  abbrev gone : State
  gone = record s { table = pull.now tbl over suits.suits h.table }

  pull_grow : Grows loose_state.table gone.table (IsOther loose_state.table over) NoRow NoEdge
  pull_grow = removed_grow loose_state.table gone.table over (pull.loose_alone tbl over suits.suits h.table) refl (pull.kinds tbl over suits.suits h.table)
      (pull.pulled_edges tbl over suits.suits h.table) loose_holds.table

  kept : (row : NodeRecord) → Contains gone.table.nodes row → Contains tbl.nodes row
  kept row there = (Contains-filter (λ r. not (r.id == over)) tbl.nodes row there).0

  -- a `file` node is no filter
  differs : (name : List ℕ) (row : NodeRecord) → StandsFor tbl name row → row.id ≢ over
  differs name row of same =
      let at = subst (λ n. node_by_id tbl n ≡ Some row) same (h.table.apart row of.there) in
      let found = suits.suits.there in
      let rows : row ≡ suits.suits.row = cc in
      let none = ap (λ r. r.filename) rows ∙ pull.unnamed tbl over suits.suits h.table in
      let some = of.filename in
      cc

  stays : (name : List ℕ) (row : NodeRecord) → StandsFor tbl name row → StandsFor gone.table name row
  stays name row of = record {
    there = filter-keeps (λ r. not (r.id == over)) tbl.nodes row (ap not (ne_eqb row.id over (differs name row of))) of.there;
    filename = of.filename;
  }

  -- pull_edges to files stay
  under_stays : (file : ℕ) → IsUnder pull_edges file → IsUnder gone.table.edges file
  under_stays file under = let of = loose_holds.table.single under.edge under.there under.over in by_parent of.0 of.1.0
    where
      by_parent : (n : ℕ) → under.edge.parent ≡ Node n → IsUnder gone.table.edges file
      by_parent n from = by_over (cases_eq n over)
        where
          there_n : IsThere tbl n
          there_n = (loose_holds.table.edges under.edge under.there).parent n from

          by_over : ((n ≡ over) ⊎ (n ≢ over)) → IsUnder gone.table.edges file
          by_over (inr other) =
              let like = pull_grow.keeps under.edge n under.there from (there_n, other) in
              record { edge = like.edge; there = like.there; over = like.same.role ∙ under.over; child = like.same.child ∙ under.child }
          by_over (inl is) =
              let has = loose_holds.table.roles under.edge suits.suits.row under.there over_here.0
              (from ∙ ap Node (is ∙ sym (eqb-true suits.suits.row.id over over_here.1))) in
              let role = put.filter_alone suits.suits.row.kind under.edge.role suits.suits.role has in
              absurd (let bad = sym role ∙ under.over in cc)

  pulled_writing : WritingStands gone
  pulled_writing =
      grown_writing loose_state gone (IsOther loose_state.table over) NoRow NoEdge pull_grow
      (record {
        names = λ name named. named;
        names_new = λ name r never. absurd never;
        known = λ name above under f is known. known;
        known_new = λ name above under f never. absurd never;
        bytes = λ n here some. some;
        bytes_new = λ r never. absurd never;
        left = All-weaker (IsUsedUp loose_state) (IsUsedUp gone) (λ l used. left_still loose_state gone (IsOther loose_state.table over) NoRow NoEdge pull_grow l used.used
            (λ r never. absurd never) (λ e r never. absurd never) used) s.left loose_holds.writing.left;
        written = λ n name here entered of known. known;
        used = λ n name here entered of used. used;
        copies_new = λ r disk never. absurd never;
        emptied = λ n name here entered of none. none;
        devices = same_devices loose_state gone refl (λ g.
            ap (child_of (Guest g) Drive) (pull.pulled_edges tbl over suits.suits h.table)
            ∙ child_of-refreshed (pull.kinds tbl over suits.suits h.table) (Guest g) Drive (without_parent (Node over) pull_edges)
            ∙ child-without (Node over) (Guest g) Drive pull_edges (λ same. cc));
        drives = λ g drive is. (
          drive_there loose_state.table loose_holds.table.edges g drive is,
          λ same. (
              let e = role_edge (Guest g) Drive pull_edges drive is in
              pull.loose_alone tbl over suits.suits h.table e.edge e.there (e.to ∙ same)),
        );
      })
      loose_holds.table loose_holds.writing

  pulled_state : Stands gone
  pulled_state = record {
    table = pull.pull_stands tbl over suits.suits h.table;
    files = λ name row of. h.files name row (record { there = kept row of.there; filename = of.filename });
    lost = λ name row of unsettled.
        elim (loose_holds.lost name row (record { there = kept row of.there; filename = of.filename }) unsettled) [
          | inl used ↦ inl used
          | inr more ↦ elim more [
            | inl formatted ↦ inr (inl formatted)
            | inr under ↦ inr (inr (under_stays row.id under))
          ]
        ];
    states = λ name content is is_open. loose_holds.states name content is
        (λ row of under. is_open row (stays name row (record { there = of.there; filename = of.filename })) (under_stays row.id under));
    formatted = λ name is. let of = h.formatted name is in (of.0, stays name of.0 of.1);
    writing = pulled_writing;
  }

pub pulled_holds : (s : State) (filter : ℕ) → PullSuits s filter → Stands s → Stands (stepped s (change.PullFilter filter))
unfolding changed
pulled_holds s filter suits h = pulled_state s filter suits h
