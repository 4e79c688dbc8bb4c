-- The table behind the start of a backup or a mirror: its filter is over its source, its target has no flat disk, and its edge leads there.
use Rattle.std.proofs.Common.{◌≡◌, ◌≢◌, ℕ, ◌+◌, ◌==◌, Bool, true, false, cond, List, [], ◌∷◌, ◌++◌, map, refl, sym, ◌∙◌, ap, subst, Option, Some, None, inl, inr}
use Rattle.std.specs.Prelude.{Contains, find, IsSome, option_and_then, option_map}
use Rattle.std.proofs.lemmas.Bool.{ne_eqb}
use Rattle.blk_graph.specs.declared.edge.Edge.{Edge}
use Rattle.blk_graph.specs.declared.edge.Parent.{Parent}
use Rattle.blk_graph.specs.declared.edge.Parent.TheVariants.{Guest, Job, Node}
use Rattle.blk_graph.specs.declared.edge.Role.{Role}
use Rattle.blk_graph.specs.declared.edge.Role.TheVariants.{Between, Filtered}
use Rattle.blk_graph.specs.Edits.{child_moved, child_of, filter_edge, moved, with_edge, with_moved}
use Rattle.blk_graph.specs.Permissions.{idle_uses, job_edge}
use Rattle.blk_graph.specs.declared.kind.JobUse.TheVariants.{CopyTarget}
use Rattle.blk_graph.proofs.ChildLemmas.{child-kept}
use Rattle.blk_graph.proofs.DraftLemmas.{child_filter, children_filter}
use Rattle.blk_graph.proofs.EditLemmas.{Contains-with_edge, Contains-with_moved, moved-parent}
use Rattle.blk_graph.proofs.RefreshLemmas.{child_of-refreshed}
use Rattle.qmp_rules.specs.Chains.{disk_node, filter_role, filtered}
use Rattle.qmp_rules.specs.Changes.{all_changed, busy_by, changed, filtered_edges, node_changed, unsettled}
use Rattle.qmp_rules.specs.Edits.{device_uses, file_uses, of_row}
use Rattle.qmp_rules.specs.Asks.{is_file}
use Rattle.qmp_rules.specs.Table.{RunTable, child, kinds_of, node_by_id}
use Rattle.qmp_rules.specs.declared.change.Change.TheVariants.{PutFilter, StartJob, Unsettle, UseNode}
use Rattle.qmp_rules.specs.declared.rows.JobRecord.{JobRecord}
use Rattle.qmp_rules.specs.declared.rows.NodeRecord.{NodeRecord}
use Rattle.flat_machine.specs.Suiting.{SuitsPut}
use Rattle.flat_machine.specs.Wiring.{TableStands}
use Rattle.flat_machine.proofs.Finds.{find-map}
use Rattle.flat_machine.proofs.FilterPut as put
use Rattle.flat_machine.proofs.Rows.{disk_node-same}
use Rattle.flat_machine.proofs.Tables.{pushed-cases}
use Rattle.flat_machine.proofs.WritingKept.{role_edge}
use Rattle.job_tables.proofs.Put as job_put
use Rattle.world_parts.proofs.GuestEdges.{guest_edge}
use Rattle.world_goings.proofs.EndTables.{WasEdge}

-- ---- the target loses its disk

pub record IsLost (t u : RunTable) (target : ℕ) : Type 0 where
  pub rows : u.nodes ≡ map (node_changed target unsettled) t.nodes
  pub edges : u.edges ≡ t.edges
  pub devices : u.devices ≡ t.devices
  pub guests : u.guests ≡ t.guests
  pub jobs : u.jobs ≡ t.jobs
  pub started : u.started ≡ t.started
  pub bitmaps : u.bitmaps ≡ t.bitmaps

pub lost_target : (t : RunTable) (target : ℕ) (found : Option NodeRecord) → IsLost t (all_changed t (of_row device_uses found ++ Unsettle target ∷ [])) target
unfolding changed
lost_target t target None = record { rows = refl; edges = refl; devices = refl; guests = refl; jobs = refl; started = refl; bitmaps = refl }
lost_target t target (Some row) = by_file (is_file row) row.filename
  where
    by_file : (b : Bool) (name : Option (List ℕ)) → IsLost t (all_changed t (cond b (file_uses name) [] ++ Unsettle target ∷ [])) target
    by_file true (Some name) = record { rows = refl; edges = refl; devices = refl; guests = refl; jobs = refl; started = refl; bitmaps = refl }
    by_file true None = record { rows = refl; edges = refl; devices = refl; guests = refl; jobs = refl; started = refl; bitmaps = refl }
    by_file false name = record { rows = refl; edges = refl; devices = refl; guests = refl; jobs = refl; started = refl; bitmaps = refl }

-- what doesn't speak of flat disks is the same of its rows
pub row_lost : {A : Type 0} (target : ℕ) (g : NodeRecord → A) → ((row : NodeRecord) → g (unsettled row) ≡ g row) → (row : NodeRecord) → g (node_changed target unsettled row) ≡ g row
row_lost target g blind row = by_test (row.id == target)
  where
    by_test : (b : Bool) → g (cond b (unsettled row) row) ≡ g row
    by_test true = blind row
    by_test false = refl

-- ---- the whole

pub record IsPutTable (t u : RunTable) (new : NodeRecord) (source target : ℕ) (job : JobRecord) : Type 0 where
  pub rows : u.nodes ≡ map (node_changed target unsettled) t.nodes ++ new ∷ []
  pub nodes : (n : ℕ) (role : Role) → n ≢ new.id → role ≢ Between
      → child_of (Node n) role u.edges ≡ option_map (child_moved source new.id) (child_of (Node n) role t.edges)
  pub drives : (g : ℕ) (role : Role) → role ≢ Between
      → child_of (Guest g) role u.edges ≡ option_map (child_moved source new.id) (child_of (Guest g) role t.edges)
  pub own : child u new.id Filtered ≡ Some source
  pub edges : (e : Edge) (g : ℕ) → Contains u.edges e → e.parent ≡ Guest g → WasEdge t.edges e g
  pub disks : (n : ℕ) → n ≢ new.id → disk_node u n ≡ disk_node t n
  pub filter : disk_node u new.id ≡ source
  pub devices : u.devices ≡ t.devices
  pub guests : u.guests ≡ t.guests
  pub jobs : u.jobs ≡ t.jobs ++ job ∷ []
  pub started : u.started ≡ t.started + 1
  pub bitmaps : u.bitmaps ≡ busy_by job.number job.bitmap job.source t.bitmaps

module _ (t l : RunTable) (target : ℕ) (is : IsLost t l target) (new : NodeRecord) (source : ℕ) (job : JobRecord) (suits : SuitsPut l new source) (h : TableStands l) where
  abbrev filtered_table : RunTable
  filtered_table = changed l (PutFilter new source)

  abbrev u : RunTable
  u = changed (changed filtered_table (StartJob job)) (UseNode job.slot CopyTarget target)

  abbrev between : RunTable
  between = put.between l new source suits h

  -- ---- edges

  child_last : (p : Parent) (role : Role) → p ≢ Job job.slot → child_of p role u.edges ≡ child_of p role filtered_table.edges
  unfolding changed
  child_last p role other =
      child_of-refreshed (kinds_of (l.nodes ++ new ∷ [])) p role (with_edge (job_edge job.slot CopyTarget target) filtered_table.edges)
      ∙ child-kept p role (job_edge job.slot CopyTarget target) filtered_table.edges (λ same. other (sym same))

  child_put : (p : Parent) (role : Role) → role ≢ Between → p ≢ Node new.id
      → child_of p role filtered_table.edges ≡ option_map (child_moved source new.id) (child_of p role l.edges)
  unfolding changed
  child_put p role single other =
      child_of-refreshed (kinds_of (l.nodes ++ new ∷ [])) p role (filtered_edges new.id source l.edges)
      ∙ children_filter source new.id idle_uses.perm idle_uses.shared l.edges p role single other

  child_all : (p : Parent) (role : Role) → role ≢ Between → p ≢ Job job.slot → p ≢ Node new.id
      → child_of p role u.edges ≡ option_map (child_moved source new.id) (child_of p role t.edges)
  child_all p role single no_job other =
      child_last p role no_job ∙ child_put p role single other ∙ ap (λ (es : List Edge). option_map (child_moved source new.id) (child_of p role es)) is.edges

  own_child : child u new.id Filtered ≡ Some source
  unfolding changed
  own_child =
      child_last (Node new.id) Filtered (λ same. let no : ⊥ = cc same in no)
      ∙ child_of-refreshed (kinds_of (l.nodes ++ new ∷ [])) (Node new.id) Filtered (filtered_edges new.id source l.edges)
      ∙ child_filter source new.id idle_uses.perm idle_uses.shared l.edges (job_put.lone l new source suits.fresh h.edges)

  moved_writes : (e : Edge) → (moved source new.id e).perm.write ≡ e.perm.write
  moved_writes e = by_test (e.child == source)
    where
      by_test : (b : Bool) → (cond b (record e { child = new.id }) e).perm.write ≡ e.perm.write
      by_test true = refl
      by_test false = refl

  edge_was : (e : Edge) (g : ℕ) → Contains u.edges e → e.parent ≡ Guest g → WasEdge l.edges e g
  unfolding changed
  edge_was e g there from =
      let last = guest_edge (kinds_of (l.nodes ++ new ∷ [])) (with_edge (job_edge job.slot CopyTarget target) filtered_table.edges) e g there from in
      elim (Contains-with_edge (job_edge job.slot CopyTarget target) filtered_table.edges e last) [
        | inl own ↦ absurd (let bad : Job job.slot ≡ Guest g = sym (ap (λ (x : Edge). x.parent) own) ∙ from in let no : ⊥ = cc bad in no)
        | inr old ↦ before (guest_edge (kinds_of (l.nodes ++ new ∷ [])) (filtered_edges new.id source l.edges) e g old from)
      ]
    where
      before : Contains (filtered_edges new.id source l.edges) e → WasEdge l.edges e g
      before at = elim (pushed-cases (with_moved source new.id l.edges) (filter_edge new.id source idle_uses.perm idle_uses.shared) e at) [
        | inr own ↦ absurd (let bad : Node new.id ≡ Guest g = sym (ap (λ (x : Edge). x.parent) own) ∙ from in let no : ⊥ = cc bad in no)
        | inl old ↦
            let was = Contains-with_moved source new.id l.edges e old in
            record {
              edge = was.0;
              there = was.1;
              from = sym (ap (λ (x : Edge). x.parent) was.2 ∙ moved-parent source new.id was.0) ∙ from;
              writes = sym (ap (λ (x : Edge). x.perm.write) was.2 ∙ moved_writes was.0);
            }
      ]

  -- ---- what nodes read as

  filtered_last : (n : ℕ) → filtered u n ≡ filtered filtered_table n
  unfolding changed
  filtered_last n = by_role (option_and_then (λ (r : NodeRecord). filter_role r.kind) (node_by_id filtered_table n))
    where
      by_role : (found : Option Role) → option_and_then (child u n) found ≡ option_and_then (child filtered_table n) found
      by_role None = refl
      by_role (Some role) = child_last (Node n) role (λ same. let no : ⊥ = cc same in no)

  found_between : (n : ℕ) → n ≢ new.id → node_by_id between n ≡ node_by_id l n
  found_between n apart = find_behind l.nodes
    where
      find_behind : (rows : List NodeRecord) → find (λ (r : NodeRecord). r.id == n) (rows ++ new ∷ []) ≡ find (λ (r : NodeRecord). r.id == n) rows
      find_behind [] = rw (ne_eqb new.id n (λ same. apart (sym same))) refl
      find_behind (x ∷ rows) = by_test (x.id == n) (find_behind rows)
        where
          by_test : (b : Bool) → find (λ (r : NodeRecord). r.id == n) (rows ++ new ∷ []) ≡ find (λ (r : NodeRecord). r.id == n) rows
              → cond b (Some x) (find (λ (r : NodeRecord). r.id == n) (rows ++ new ∷ [])) ≡ cond b (Some x) (find (λ (r : NodeRecord). r.id == n) rows)
          by_test true rest = refl
          by_test false rest = rest

  filtered_between : (n : ℕ) → n ≢ new.id → filtered between n ≡ filtered l n
  filtered_between n apart =
      ap (λ (found : Option NodeRecord). option_and_then (child between n) (option_and_then (λ (r : NodeRecord). filter_role r.kind) found)) (found_between n apart)
      ∙ by_role (option_and_then (λ (r : NodeRecord). filter_role r.kind) (node_by_id l n))
    where
      by_role : (found : Option Role) → option_and_then (child between n) found ≡ option_and_then (child l n) found
      by_role None = refl
      by_role (Some role) =
          child_of-refreshed (kinds_of (l.nodes ++ new ∷ [])) (Node n) role (with_edge (put.own l new source suits h) l.edges)
          ∙ child-kept (Node n) role (put.own l new source suits h) l.edges (λ same. apart (let both : Node new.id ≡ Node n = same in let one : new.id ≡ n = cc both in sym one))

  filtered_lost : (n : ℕ) → filtered l n ≡ filtered t n
  filtered_lost n =
      ap (λ (rows : List NodeRecord). option_and_then (child l n) (option_and_then (λ (r : NodeRecord). filter_role r.kind) (find (λ (r : NodeRecord). r.id == n) rows))) is.rows
      ∙ ap (λ (found : Option NodeRecord). option_and_then (child l n) (option_and_then (λ (r : NodeRecord). filter_role r.kind) found))
      (find-map (λ (r : NodeRecord). r.id == n) (node_changed target unsettled)
      (λ r. ap (λ (m : ℕ). m == n) (row_lost target (λ (x : NodeRecord). x.id) (λ x. refl) r)) t.nodes)
      ∙ by_row (node_by_id t n)
    where
      by_row : (found : Option NodeRecord) → option_and_then (child l n) (option_and_then (λ (r : NodeRecord). filter_role r.kind) (option_map (node_changed target unsettled) found))
          ≡ option_and_then (child t n) (option_and_then (λ (r : NodeRecord). filter_role r.kind) found)
      by_row None = refl
      by_row (Some r) =
          ap (option_and_then (child l n)) (row_lost target (λ (x : NodeRecord). filter_role x.kind) (λ x. refl) r)
          ∙ by_role (filter_role r.kind)
        where
          by_role : (found : Option Role) → option_and_then (child l n) found ≡ option_and_then (child t n) found
          by_role None = refl
          by_role (Some role) = ap (child_of (Node n) role) is.edges

  below_there : (n c : ℕ) → filtered l n ≡ Some c → c ≢ new.id
  below_there n c leads same = by_role (option_and_then (λ (r : NodeRecord). filter_role r.kind) (node_by_id l n)) leads
    where
      by_role : (found : Option Role) → option_and_then (child l n) found ≡ Some c → ⊥
      by_role None bad = let no : ⊥ = cc bad in no
      by_role (Some role) at =
          let e = role_edge (Node n) role l.edges c at in
          let there = subst (λ (m : ℕ). IsSome (node_by_id l m)) (e.to ∙ same) (h.edges e.edge e.there).child in
          let bad = subst IsSome suits.fresh there in
          let no : ⊥ = cc bad in
          no

  disk_last : (n : ℕ) → disk_node u n ≡ disk_node between n
  unfolding changed
  disk_last n =
      disk_node-same filtered_table u (λ m. Unit {0}) (λ m all. filtered_last m) (λ m c all leads. tt) n tt ∙ put.put_disk l new source suits h n

  disk_other : (n : ℕ) → n ≢ new.id → disk_node u n ≡ disk_node t n
  disk_other n apart =
      disk_last n
      ∙ disk_node-same l between (λ m. m ≢ new.id) (λ m other. filtered_between m other) (λ m c other leads. below_there m c leads) n apart
      ∙ disk_node-same t l (λ m. Unit {0}) (λ m all. filtered_lost m) (λ m c all leads. tt) n tt

  pub put_table : IsPutTable t u new source target job
  unfolding changed
  put_table = record {
    rows = ap (λ (rows : List NodeRecord). rows ++ new ∷ []) is.rows;
    nodes = λ n role apart single.
        child_all (Node n) role single (λ same. let no : ⊥ = cc same in no)
        (λ same. apart (let both : Node n ≡ Node new.id = same in let one : n ≡ new.id = cc both in one));
    drives = λ g role single. child_all (Guest g) role single (λ same. let no : ⊥ = cc same in no) (λ same. let no : ⊥ = cc same in no);
    own = own_child;
    edges = λ e g there from. subst (λ (es : List Edge). WasEdge es e g) is.edges (edge_was e g there from);
    disks = disk_other;
    filter = disk_last new.id ∙ put.row_disk l new source suits h;
    devices = is.devices;
    guests = is.guests;
    jobs = ap (λ (rows : List JobRecord). rows ++ job ∷ []) is.jobs;
    started = ap (λ n. n + 1) is.started;
    bitmaps = ap (busy_by job.number job.bitmap job.source) is.bitmaps;
  }
