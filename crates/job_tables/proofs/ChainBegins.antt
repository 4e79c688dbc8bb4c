-- What streams and commits are accepted with makes jobs begin.
use Rattle.std.proofs.Common.{◌≡◌, ◌≢◌, ◌⊎◌, ℕ, zero, suc, ◌<◌, List, [], ◌∷◌, ◌++◌, length, refl, sym, ◌∙◌, ap, subst, inl, inr, Bool, true, false, cond, Option, Some, None}
use Rattle.std.specs.Prelude.{◌==◌, ◌&&◌, drop, IsSome, unwrap_or}
use Rattle.std.specs.Option.{option_map, option_and_then}
use Rattle.std.specs.List.{Contains}
use Rattle.std.proofs.lemmas.Bool.{false≢true, eqb-true, ne_eqb, not-false}
use Rattle.blk_graph.specs.declared.edge.Edge.{Edge}
use Rattle.blk_graph.specs.declared.edge.Parent.{Parent}
use Rattle.blk_graph.specs.declared.edge.Parent.TheVariants.{Node, Guest, Job}
use Rattle.blk_graph.specs.declared.edge.Role.TheVariants.{Backing, Between}
use Rattle.blk_graph.specs.declared.kind.Kind.{Kind}
use Rattle.blk_graph.specs.declared.kind.Kind.TheVariants as driver
use Rattle.blk_graph.specs.Edges.{same_role}
use Rattle.blk_graph.specs.Paths.{Reaches}
use Rattle.blk_graph.specs.Permissions.{has_role}
use Rattle.blk_graph.proofs.CycleLemmas.{and-left, and-right}
use Rattle.blk_graph.proofs.Members.{Contains-nil, Contains-here, Contains-there, Contains-cases, find-Some}
use Rattle.blk_graph.proofs.RoleLemmas.{same_role-true}
use Rattle.qmp_codec.specs.declared.event.JobKind.TheVariants.{Commit}
use Rattle.qmp_codec.specs.declared.jobs.Stream.{Stream as StreamCommand}
use Rattle.qmp_codec.specs.declared.jobs.Commit.{Commit as CommitCommand}
use Rattle.qmp_asks.specs.declared.ask.Ask.TheVariants as ask
use Rattle.qmp_asks.specs.declared.ask.Drivers.TheVariants as drivers
use Rattle.qmp_asks.specs.Asking.{Nodes1}
use Rattle.qmp_asks.specs.JobAsks.{stream_nodes, stream_rest, commit_nodes, commit_rest}
use Rattle.qmp_rules.specs.declared.rows.NodeRecord.{NodeRecord}
use Rattle.qmp_rules.specs.declared.rows.JobRecord.{JobRecord}
use Rattle.qmp_rules.specs.declared.told.Told.{Told}
use Rattle.qmp_rules.specs.Asks.{holds, if_there, takes, id_or, named_ids, held_nodes, read_nodes, looked_at, first_clash, not_below}
use Rattle.qmp_rules.specs.Chains.{filter_role, is_listed, is_settled, disk_node, backing, chain_from, chain, chain_below, down_to, lowest_in_chain, is_overlay, overlay_edge, parent_id, overlays}
use Rattle.qmp_rules.specs.Edits.{reads_only, stream_job, commit_job}
use Rattle.qmp_rules.specs.Table.{RunTable, node_by_id, node_named, id_named, child}
use Rattle.flat_machine.specs.Suiting.{IsPlainNode}
use Rattle.flat_machine.specs.Wiring.{LeadsToFile, TableStands}
use Rattle.flat_machine.proofs.Accepted.{free_fresh}
use Rattle.flat_machine.proofs.Asked.{none-both, not-refused, NoneHolds, found-named, takes-driver, room-left, settled-node}
use Rattle.flat_machine.proofs.Covered.{no_edge_of}
use Rattle.flat_machine.proofs.Rows.{same_row}
use Rattle.flat_machine.proofs.TableSuited.{named-row, own-settled, free-node}
use Rattle.flat_machine.proofs.WritingKept.{role_edge}
use Rattle.job_tables.specs.Accepted.{Begins}
use Rattle.job_tables.specs.Jobs.{ReadsTo, JobsStand, EdgesAreDrawn}
use Rattle.job_tables.specs.Rows.{nodes_of_job}
use Rattle.job_tables.specs.Running.{IsSettledAt, IsWritableAt, JobsRun, makes_writable, UnsettlesNoSource, RunBegins}
use Rattle.job_tables.specs.Starts.{IsOverTop, JobBegins}
use Rattle.job_tables.proofs.ChainLinks.{IsUnkept, below_reaches, child_is, chain_linked, chain_plain}
use Rattle.job_tables.proofs.Clashes.{held_free, read_free}
use Rattle.job_tables.proofs.CopyBegins.{room_for_job, slot_small, slot_own, number_own}
use Rattle.job_tables.proofs.RowEdges.{listed-Contains, in_left, in_right, in_either, only_by}
use Rattle.job_tables.proofs.RunStarts.{chain_head}

image_own : (kind : Kind) → takes drivers.Qcow2 kind ≡ true → filter_role kind ≡ None
image_own driver.Qcow2 h = refl
image_own driver.Protocol h = absurd cc
image_own driver.Raw h = absurd cc
image_own driver.CopyOnRead h = absurd cc
image_own driver.BeforeWrite h = absurd cc
image_own driver.Mirror h = absurd cc
image_own driver.Commit h = absurd cc

-- ---- the source, or the top

-- an image with a flat disk, by its id
pub record IsTop (t : RunTable) (id : ℕ) : Type 0 where
  pub row : NodeRecord
  pub there : Contains t.nodes row
  pub id_is : row.id ≡ id
  pub own : filter_role row.kind ≡ None
  pub settled : is_settled t row.id ≡ true

named_top : (t : RunTable) (told : Told) → TableStands t → (name : List ℕ) (id : ℕ) → holds t told (ask.Found (Some name)) ≡ None
    → holds t told (ask.Drives (Some name) drivers.Qcow2) ≡ None → holds t told (ask.Settled (Some name)) ≡ None → IsTop t (id_or id t (Some name))
named_top t told h name id found drives settled =
    let of = found-named t told name found in
    record {
      row = of.0;
      there = (named-row t told h name of.0 of.1).0;
      id_is = sym (id_is of.0 of.1);
      own = image_own of.0.kind (takes-driver t told name drivers.Qcow2 of.0 of.1 drives);
      settled = settled-node t told name of.0 of.1 settled;
    }
  where
    id_is : (row : NodeRecord) → node_named t name ≡ Some row → id_or id t (Some name) ≡ row.id
    id_is row e = rw e refl

module _ (t : RunTable) (told : Told) (h : TableStands t) (id : ℕ) (top : IsTop t id) where
  pub top_plain : IsPlainNode t id
  top_plain = record {
    row = top.row;
    there = subst (λ n. node_by_id t n ≡ Some top.row) top.id_is (h.apart top.row top.there);
    own = top.own;
    free = subst (λ n. (row over : NodeRecord) → node_by_id t n ≡ Some row → IsSome row.filename → LeadsToFile t over row → filter_role over.kind ≡ None → ⊥) top.id_is
        (free-node t told h top.row top.there top.settled);
  }

  pub top_settled : IsSettledAt t id
  top_settled node there at =
      let same : node ≡ top.row = same_row t h.apart top.row node top.there there (at ∙ sym top.id_is) in
      subst (λ (x : NodeRecord). x.is_settled ≡ true) (sym same) (own-settled t told h top.row (h.apart top.row top.there) top.own top.settled)

-- ---- clashes

module _ (t : RunTable) (told : Told) (nodes : Nodes1) (free : holds t told (ask.Free nodes) ≡ None) where
  quiet : first_clash t (held_nodes t nodes) (read_nodes t nodes) (looked_at t nodes) ≡ None
  unfolding holds
  quiet = free

  held_nobodys : (id : ℕ) → Contains (looked_at t nodes) id → Contains (held_nodes t nodes) id → (job : JobRecord) → Contains t.jobs job
      → Contains (nodes_of_job job) id → ⊥
  held_nobodys = held_free t (held_nodes t nodes) (read_nodes t nodes) (looked_at t nodes) quiet

  read_unkept : (id : ℕ) → Contains (looked_at t nodes) id → Contains (read_nodes t nodes) id → IsUnkept t id
  read_unkept = read_free t (held_nodes t nodes) (read_nodes t nodes) (looked_at t nodes) quiet

in_chain : (t : RunTable) (top base : ℕ) → not_below t top base ≡ None → Contains (chain_below t top) base
in_chain t top base h = listed-Contains base (chain_below t top) (not-false (is_listed base (chain_below t top)) (not-refused _ _ h))

-- ---- block-stream

head_in : (base : Option ℕ) (x : ℕ) (ids : List ℕ) → Contains (down_to base (x ∷ ids)) x
head_in None x ids = Contains-here x (down_to None ids)
head_in (Some b) x ids = by_test (x == b)
  where
    by_test : (c : Bool) → Contains (cond c (x ∷ []) (x ∷ down_to (Some b) ids)) x
    by_test true = Contains-here x []
    by_test false = Contains-here x (down_to (Some b) ids)

chain_in : (t : RunTable) (base : Option ℕ) (k x : ℕ) → Contains (down_to base (chain_from k t x)) x
chain_in t base zero x = head_in base x []
chain_in t base (suc k) x = head_in base x (elim (backing t x) as (λ _. List ℕ) [ None ↦ [] | Some below ↦ chain_from k t below ])

below_head : (t : RunTable) (base : Option ℕ) (k top n : ℕ) → child t top Backing ≡ Some n → Contains (down_to base (drop 1 (chain_from (suc k) t top))) (disk_node t n)
below_head t base k top n is =
    subst (λ o. Contains (down_to base (elim (option_map (disk_node t) o) as (λ _. List ℕ) [ None ↦ [] | Some below ↦ chain_from k t below ])) (disk_node t n)) (sym is)
    (chain_in t base k (disk_node t n))

module _ (t : RunTable) (told : Told) (c : StreamCommand (List ℕ)) (h : TableStands t) (j : JobsStand t) (r : JobsRun t) (asks : NoneHolds t told (stream_rest c)) where
  abbrev stream_row : JobRecord
  stream_row = stream_job t c

  abbrev stream_ids : Nodes1
  stream_ids = stream_nodes c

  abbrev stream_top : ℕ
  stream_top = id_or 0 t (Some c.device)

  abbrev stream_base : Option ℕ
  stream_base = option_and_then (id_named t) c.base_node

  stream_is_top : IsTop t stream_top
  stream_is_top = named_top t told h c.device 0 asks.0 asks.1.1.1.1.0 asks.1.1.1.1.1.1.0

  stream_few : length t.jobs < 16
  stream_few = room_for_job t told asks.1.1.1.0

  stream_quiet : holds t told (ask.Free stream_ids) ≡ None
  stream_quiet = asks.1.1.1.1.1.1.1.0

  stream_held : (id : ℕ) → Contains (stream_top ∷ []) id → Contains (looked_at t stream_ids) id
  stream_held id there =
      in_left (named_ids t (Some c.device) ++ named_ids t c.base_node) (read_nodes t stream_ids) id (in_left (named_ids t (Some c.device)) (named_ids t c.base_node) id there)

  stream_read : (id : ℕ) → Contains (read_nodes t stream_ids) id → Contains (looked_at t stream_ids) id
  stream_read id there = in_right (named_ids t (Some c.device) ++ named_ids t c.base_node) (read_nodes t stream_ids) id there

  unkept : (id : ℕ) → Contains (down_to stream_base (chain_below t stream_top)) id → IsUnkept t id
  unkept id there = read_unkept t told stream_ids stream_quiet id (stream_read id there) there

  stream_reads : (base : ℕ) → stream_base ≡ Some base → ReadsTo t stream_row base
  unfolding holds
  stream_reads base is =
      let l = chain_linked t h j stream_top base (in_chain t stream_top base (below base is))
      (subst (λ o. (n : ℕ) → Contains (down_to o (chain_below t stream_top)) n → IsUnkept t n) is unkept) in
      record { between = l.between; read = ap (λ o. down_to o (chain_below t stream_top)) is ∙ l.is; linked = l.linked }
    where
      below : (base : ℕ) → stream_base ≡ Some base → not_below t stream_top base ≡ None
      below base is = subst (λ o. if_there (not_below t stream_top) o ≡ None) is asks.1.1.1.1.1.1.1.1.1.0

  -- the first below the top
  stream_below : (n : ℕ) → child t stream_top Backing ≡ Some n → Contains (down_to stream_base (chain_below t stream_top)) n
  unfolding chain
  stream_below n is =
      let first : Contains (down_to stream_base (chain_below t stream_top)) (disk_node t n) = below_head t stream_base 63 stream_top n is in
      let same : n ≡ disk_node t n = child_is t h j stream_top n (disk_node t n) is refl (unkept (disk_node t n) first) in
      subst (Contains (down_to stream_base (chain_below t stream_top))) (sym same) first

  stream_plain : (node : ℕ) → Contains (nodes_of_job stream_row) node → IsPlainNode t node
  stream_plain node has = elim (in_either (stream_top ∷ []) (down_to stream_base (chain_below t stream_top)) node has) [
    | inl mine ↦ elim (Contains-cases stream_top [] node mine) [
      | inl same ↦ subst (IsPlainNode t) (sym same) (top_plain t told h stream_top stream_is_top)
      | inr none ↦ absurd (Contains-nil node none)
    ]
    | inr read ↦ chain_plain t h j stream_top stream_base unkept node read
  ]

  stream_job_begins : JobBegins t stream_row
  stream_job_begins = record {
    slot = slot_small t stream_few;
    own_slot = λ other at. slot_own t stream_few other at;
    own_number = λ other at. number_own t r other at;
    plain = stream_plain;
    holds = λ other node at mine has. held_nobodys t told stream_ids stream_quiet node (stream_held node mine) mine other at has;
    reads = λ other node at theirs mine. elim (in_either (stream_top ∷ []) (down_to stream_base (chain_below t stream_top)) node mine) [
      | inl own ↦ held_nobodys t told stream_ids stream_quiet node (stream_held node own) own other at (in_left other.held other.read node theirs)
      | inr read ↦ unkept node read other at theirs
    ];
    shape = record { bare = refl; held = refl; reads = stream_reads; below = stream_below };
  }

  pub stream_begins : Begins t stream_row
  stream_begins = record {
    job = stream_job_begins;
    run = record {
      number = refl;
      source = top_settled t told h stream_top stream_is_top;
      target = λ target is. absurd (let bad : None ≡ Some target = is in cc bad);
      others = tt;
    };
  }

-- ---- block-commit

module _ (t : RunTable) (told : Told) (c : CommitCommand (List ℕ)) (h : TableStands t) (j : JobsStand t) (r : JobsRun t) (d : EdgesAreDrawn t)
    (asks : NoneHolds t told (commit_rest c)) where
  abbrev commit_row : JobRecord
  commit_row = commit_job t c

  abbrev commit_ids : Nodes1
  commit_ids = commit_nodes c

  abbrev device_id : ℕ
  device_id = id_or 0 t (Some c.device)

  abbrev commit_top : ℕ
  commit_top = id_or device_id t c.top_node

  abbrev commit_base : ℕ
  commit_base = id_or (lowest_in_chain t commit_top) t c.base_node

  pub commit_is_top : IsTop t commit_top
  commit_is_top = by_name c.top_node asks.1.1.0 asks.1.1.1.1.1.1.1.1.0 asks.1.1.1.1.1.1.1.1.1.1.0
    where
      by_name : (name : Option (List ℕ)) → holds t told (ask.Found name) ≡ None → holds t told (ask.Drives name drivers.Qcow2) ≡ None
          → holds t told (ask.Settled name) ≡ None → IsTop t (id_or device_id t name)
      by_name None found drives settled = named_top t told h c.device 0 asks.0 asks.1.1.1.1.1.1.0 asks.1.1.1.1.1.1.1.1.1.0
      by_name (Some name) found drives settled = named_top t told h name device_id found drives settled

  commit_few : length t.jobs < 16
  commit_few = room_for_job t told asks.1.1.1.1.1.0

  commit_quiet : holds t told (ask.Free commit_ids) ≡ None
  commit_quiet = asks.1.1.1.1.1.1.1.1.1.1.1.0

  abbrev below : List ℕ
  below = chain_below t commit_top

  base_below : Contains below commit_base
  unfolding holds
  base_below = in_chain t commit_top commit_base (none-both (not_below t commit_top commit_base) _ asks.1.1.1.1.1.1.1.1.1.1.1.1.0).0

  top_apart : commit_top ≢ commit_base
  top_apart same = h.acyclic commit_top (subst (Reaches t.edges commit_top) (sym same) (below_reaches t h commit_top commit_base base_below))

  -- what it holds
  held_is : held_nodes t commit_ids ≡ commit_top ∷ down_to (Some commit_base) below
  held_is =
      ap (down_to (Some commit_base)) (chain_head t commit_top)
      ∙ ap (λ b. cond b (commit_top ∷ []) (commit_top ∷ down_to (Some commit_base) (drop 1 (chain t commit_top)))) (ne_eqb commit_top commit_base top_apart)

  abbrev ahead : List ℕ
  ahead = named_ids t (Some c.device) ++ named_ids t c.base_node ++ named_ids t c.top_node

  commit_held : (id : ℕ) → Contains (held_nodes t commit_ids) id → Contains (looked_at t commit_ids) id
  commit_held id there = in_left (ahead ++ held_nodes t commit_ids) (read_nodes t commit_ids) id (in_right ahead (held_nodes t commit_ids) id there)

  commit_read : (id : ℕ) → Contains (read_nodes t commit_ids) id → Contains (looked_at t commit_ids) id
  commit_read id there = in_right (ahead ++ held_nodes t commit_ids) (read_nodes t commit_ids) id there

  nobodys : (id : ℕ) → Contains (held_nodes t commit_ids) id → (job : JobRecord) → Contains t.jobs job → Contains (nodes_of_job job) id → ⊥
  nobodys id there = held_nobodys t told commit_ids commit_quiet id (commit_held id there) there

  under_held : (id : ℕ) → Contains (down_to (Some commit_base) below) id → Contains (held_nodes t commit_ids) id
  under_held id there = subst (λ ids. Contains ids id) (sym held_is) (Contains-there commit_top (down_to (Some commit_base) below) id there)

  under_unkept : (id : ℕ) → Contains (down_to (Some commit_base) below) id → IsUnkept t id
  under_unkept id there job here has = nobodys id (under_held id there) job here (in_left job.held job.read id has)

  -- ---- its overlay

  record IsOverlay (ids : List ℕ) : Type 0 where
    over : IsOverTop t ids commit_top
    plain : (node : ℕ) → Contains ids node → IsPlainNode t node

  abbrev is_over_top : Edge → Bool
  is_over_top edge = (edge.child == commit_top) && (same_role edge.role Backing && is_overlay edge.parent)

  overlay_of : IsOverlay (overlays t commit_top)
  overlay_of = by_edge (overlay_edge t commit_top) refl
    where
      plain_over : (o : ℕ) (edge : Edge) → Contains t.edges edge → edge.parent ≡ Node o → edge.role ≡ Backing → IsPlainNode t o
      plain_over o edge there from role = by_row (node_by_id t o) refl ((h.edges edge there).parent o from)
        where
          by_row : (found : Option NodeRecord) → node_by_id t o ≡ found → IsSome found → IsPlainNode t o
          by_row None e some = absurd (let bad = some in cc)
          by_row (Some row) e some =
              let at = find-Some (λ (x : NodeRecord). x.id == o) t.nodes row e in
              let has : has_role row.kind Backing ≡ true =
              subst (λ rl. has_role row.kind rl ≡ true) role (h.roles edge row there at.0 (from ∙ ap Node (sym (eqb-true row.id o at.1)))) in
              record {
                row = row;
                there = e;
                own = backed_own row.kind has;
                free = λ file over found named leads format.
                    let both : Some row ≡ Some file = sym e ∙ found in
                    let same : row ≡ file = cc both in
                    no_name row at.0 has row.filename refl (subst (λ (x : NodeRecord). IsSome x.filename) (sym same) named);
              }
            where
              backed_own : (kind : Kind) → has_role kind Backing ≡ true → filter_role kind ≡ None
              backed_own driver.Qcow2 is = refl
              backed_own driver.Protocol is = absurd (false≢true is)
              backed_own driver.Raw is = absurd (false≢true is)
              backed_own driver.CopyOnRead is = absurd (false≢true is)
              backed_own driver.BeforeWrite is = absurd (false≢true is)
              backed_own driver.Mirror is = absurd (false≢true is)
              backed_own driver.Commit is = absurd (false≢true is)

              no_name : (row : NodeRecord) → Contains t.nodes row → has_role row.kind Backing ≡ true → (name : Option (List ℕ)) → row.filename ≡ name → IsSome name → ⊥
              no_name row there has None is some = cc
              no_name row there has (Some name) is some =
                  let protocol : row.kind ≡ driver.Protocol = h.drivers name row (record { there = there; filename = is }) in
                  false≢true (sym (ap (λ k. has_role k Backing) protocol) ∙ has)

      child_over : (o : ℕ) (edge : Edge) → Contains t.edges edge → edge.parent ≡ Node o → edge.role ≡ Backing → edge.child ≡ commit_top
          → (found : Option ℕ) → child t o Backing ≡ found → found ≡ Some commit_top
      child_over o edge there from role to None e = absurd (no_edge_of t o Backing e edge there from role)
      child_over o edge there from role to (Some below) e =
          let x = role_edge (Node o) Backing t.edges below e in
          let same : x.edge ≡ edge =
          only_by t.edges d.listed.places x.edge edge x.there there (x.from ∙ sym from) (x.role_is ∙ sym role) (λ bad. let no : Backing ≡ Between = sym x.role_is ∙ bad in cc no) in
          ap Some (sym x.to ∙ ap (λ (y : Edge). y.child) same ∙ to)

      by_parent : (edge : Edge) → Contains t.edges edge → edge.role ≡ Backing → edge.child ≡ commit_top → (p : Parent) → edge.parent ≡ p → IsOverlay (parent_id p)
      by_parent edge there role to (Node o) from = record {
        over = (child_over o edge there from role to (child t o Backing) refl, refl);
        plain = λ node at. elim (Contains-cases o [] node at) [
          | inl same ↦ subst (IsPlainNode t) (sym same) (plain_over o edge there from role)
          | inr none ↦ absurd (Contains-nil node none)
        ];
      }
      by_parent edge there role to (Guest g) from = record { over = tt; plain = λ node at. absurd (Contains-nil node at) }
      by_parent edge there role to (Job s) from = record { over = tt; plain = λ node at. absurd (Contains-nil node at) }

      by_edge : (found : Option Edge) → overlay_edge t commit_top ≡ found → IsOverlay (elim found as (λ _. List ℕ) [ None ↦ [] | Some edge ↦ parent_id edge.parent ])
      by_edge None e = record { over = tt; plain = λ node at. absurd (Contains-nil node at) }
      by_edge (Some edge) e =
          let at = find-Some is_over_top t.edges edge e in
          let roles : (same_role edge.role Backing && is_overlay edge.parent) ≡ true = and-right (edge.child == commit_top) (same_role edge.role Backing && is_overlay edge.parent) at.1 in
          by_parent edge at.0 (same_role-true edge.role Backing (and-left (same_role edge.role Backing) (is_overlay edge.parent) roles))
          (eqb-true edge.child commit_top (and-left (edge.child == commit_top) (same_role edge.role Backing && is_overlay edge.parent) at.1)) edge.parent refl

  -- ---- the job

  commit_plain : (node : ℕ) → Contains (nodes_of_job commit_row) node → IsPlainNode t node
  commit_plain node has = elim (in_either (held_nodes t commit_ids) (overlays t commit_top) node has) [
    | inl mine ↦ elim (Contains-cases commit_top (down_to (Some commit_base) below) node (subst (λ ids. Contains ids node) held_is mine)) [
      | inl same ↦ subst (IsPlainNode t) (sym same) (top_plain t told h commit_top commit_is_top)
      | inr under ↦ chain_plain t h j commit_top (Some commit_base) under_unkept node under
    ]
    | inr over ↦ overlay_of.plain node over
  ]

  pub commit_job_begins : JobBegins t commit_row
  commit_job_begins =
      let l = chain_linked t h j commit_top commit_base base_below under_unkept in
      record {
        slot = slot_small t commit_few;
        own_slot = λ other at. slot_own t commit_few other at;
        own_number = λ other at. number_own t r other at;
        plain = commit_plain;
        holds = λ other node at mine has. nobodys node mine other at has;
        reads = λ other node at theirs mine. elim (in_either (held_nodes t commit_ids) (overlays t commit_top) node mine) [
          | inl own ↦ nobodys node own other at (in_left other.held other.read node theirs)
          | inr read ↦ read_unkept t told commit_ids commit_quiet node (commit_read node read) read other at theirs
        ];
        shape = record {
          filter = record { filter = refl; fresh = free_fresh t (room-left t told 1 asks.1.1.1.1.0) };
          base = commit_base;
          is_base = refl;
          between = l.between;
          held = held_is ∙ ap (λ ids. commit_top ∷ ids) l.is;
          linked = l.linked;
          overlay = overlay_of.over;
        };
      }

  base_written : (c : Bool) → reads_only t (Some commit_base) ≡ c → IsWritableAt t commit_base ⊎ (makes_writable commit_row Commit ≡ true)
  base_written true is = inr is
  base_written false is =
      inl (λ node there at. sym (ap (λ o. unwrap_or (option_map (λ (x : NodeRecord). x.read_only) o) false) (ap (node_by_id t) (sym at) ∙ h.apart node there)) ∙ is)

  pub commit_job_runs : UnsettlesNoSource t commit_row Commit → RunBegins t commit_row
  commit_job_runs others = record {
    number = refl;
    source = top_settled t told h commit_top commit_is_top;
    target = λ target is.
        let same : commit_base ≡ target = cc is in
        subst (λ n. IsWritableAt t n ⊎ (makes_writable commit_row Commit ≡ true)) same (base_written (reads_only t (Some commit_base)) refl);
    others = others;
  }
