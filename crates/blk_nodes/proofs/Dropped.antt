-- What is left where a node goes that no edge leads to.
use Rattle.std.proofs.Common.{◌≡◌, ◌≢◌, ℕ, zero, suc, ◌<◌, ◌==◌, Bool, true, false, cond, List, [], ◌∷◌, get_or, Option, Some, None, Result, Ok, Err, refl, sym, ◌∙◌, ap, arith, inl, inr}
use Rattle.std.specs.Prelude.{Contains, AllPairs, MatchOption, filter, not}
use Rattle.std.specs.List.{position, remove}
use Rattle.std.proofs.lemmas.Bool.{eqb-true, eq-eqb, ne_eqb, cases_eq}
use Rattle.std.proofs.lemmas.List.{length-set, get_or-set_same, get_or-set_other}
use Rattle.std.proofs.lemmas.List.Kept.{AllPairs-filter}
use Rattle.blk_graph.specs.Edits.{child_of, without_parent}
use Rattle.blk_graph.specs.Graph.{NodeRow, HasNode, IsSoundGraph}
use Rattle.blk_graph.specs.Judged.{other_nodes}
use Rattle.blk_graph.specs.Refreshed.{no_kind}
use Rattle.blk_graph.specs.declared.edge.Edge.{Edge}
use Rattle.blk_graph.specs.declared.stop.GraphStop.{GraphStop}
use Rattle.blk_graph.specs.declared.stop.GraphStop.TheVariants.{InUse}
use Rattle.blk_graph.specs.declared.edge.Parent.{Parent}
use Rattle.blk_graph.specs.declared.edge.Parent.TheVariants.{Node}
use Rattle.blk_graph.specs.declared.edge.Role.{Role}
use Rattle.blk_graph.specs.declared.edge.Role.TheVariants.{File as FileRole, Backing, Filtered}
use Rattle.blk_graph.proofs.ChildLemmas.{child-edge, child-without}
use Rattle.blk_graph.proofs.Members.{Contains-here, Contains-there, Contains-cases, Contains-filter, Contains-map, map-Contains}
use Rattle.blk_graph.proofs.RefreshLemmas.{child_of-refreshed}
use Rattle.blk_nodes.specs.Contents.{disk_of}
use Rattle.blk_nodes.specs.Dropping.{other_devices, nodes_without}
use Rattle.blk_nodes.specs.Joined.{IsFile, HasSize, HasBelow, IsJoined, DifferInNode}
use Rattle.blk_nodes.specs.Nodes.{Nodes, DeviceSeen, is_device_of, row_at, device_in, size_by, node_size}
use Rattle.blk_nodes.specs.declared.row.Driver.{Driver}
use Rattle.blk_nodes.specs.declared.row.Driver.TheVariants.{File, Raw, Qcow2, CopyOnRead, Filter}
use Rattle.blk_nodes.specs.declared.row.Row.{Row}
use Rattle.blk_nodes.proofs.Additions.{Extends, some_row, not_some}
use Rattle.blk_nodes.proofs.HeldDevices.{IsFirst, first, later, missing, is_placed}
use Rattle.blk_nodes.proofs.KeptDisks.{disk_stays}

-- what passes the test is kept
kept : {X : Type 0} (p : X → Bool) (xs : List X) (x : X) → Contains xs x → p x ≡ true → Contains (filter p xs) x
kept p [] x there is = absurd (omega (arith, there.1))
kept {X} p (y ∷ xs) x there is = by_test (p y) refl (kept p xs x)
  where
    by_test : (b : Bool) → p y ≡ b → (Contains xs x → p x ≡ true → Contains (filter p xs) x) → Contains (cond b (y ∷ filter p xs) (filter p xs)) x
    by_test true at rest = elim (Contains-cases y xs x there) [
      | inl same ↦ rw same (Contains-here y (filter p xs))
      | inr later ↦ Contains-there y (filter p xs) x (rest later is)
    ]
    by_test false at rest = elim (Contains-cases y xs x there) [
      | inl same ↦ let bad : true ≡ false = sym is ∙ ap p same ∙ at in absurd (cc bad)
      | inr later ↦ rest later is
    ]

not-true : (b : Bool) → not b ≡ true → b ≡ false
not-true true is = absurd (cc is)
not-true false is = refl

-- the other devices are found as before
pub other_device : (node n : ℕ) (devices : List DeviceSeen) → n ≢ node → device_in (other_devices node devices) n ≡ device_in devices n
other_device node n [] apart = refl
other_device node n (d ∷ devices) apart = by_test (d.node == node) refl (other_device node n devices apart)
  where
    by_test : (b : Bool) → (d.node == node) ≡ b → device_in (other_devices node devices) n ≡ device_in devices n
        → device_in (cond (not b) (d ∷ other_devices node devices) (other_devices node devices)) n ≡ cond (is_device_of n d) (Some d) (device_in devices n)
    by_test true is rest =
        let other : is_device_of n d ≡ false = ne_eqb d.node n (λ same. apart (sym same ∙ eqb-true d.node node is)) in
        rest ∙ sym (ap (λ (b : Bool). cond b (Some d) (device_in devices n)) other)
    by_test false is rest = ap (λ (found : Option DeviceSeen). cond (is_device_of n d) (Some d) found) rest

pub no_device_left : (node : ℕ) (devices : List DeviceSeen) → device_in (other_devices node devices) node ≡ None
no_device_left node [] = refl
no_device_left node (d ∷ devices) = by_test (d.node == node) refl (no_device_left node devices)
  where
    by_test : (b : Bool) → (d.node == node) ≡ b → device_in (other_devices node devices) node ≡ None
        → device_in (cond (not b) (d ∷ other_devices node devices) (other_devices node devices)) node ≡ None
    by_test true is rest = rest
    by_test false is rest = rw is rest

-- a node that isn't found has no device to lose
pub none_gone : (node : ℕ) (devices : List DeviceSeen) → device_in devices node ≡ None → other_devices node devices ≡ devices
none_gone node [] is = refl
none_gone node (d ∷ devices) is = by_test (d.node == node) refl (none_gone node devices) is
  where
    by_test : (b : Bool) → (d.node == node) ≡ b → (device_in devices node ≡ None → other_devices node devices ≡ devices)
        → cond b (Some d) (device_in devices node) ≡ None
        → cond (not b) (d ∷ other_devices node devices) (other_devices node devices) ≡ d ∷ devices
    by_test true at rest is = absurd (cc is)
    by_test false at rest is = ap (λ (ds : List DeviceSeen). d ∷ ds) (rest is)

module _ (nodes : Nodes) (node : ℕ) (joined : IsJoined nodes) (small : node < 64)
    (enters : (edge : Edge) → Contains nodes.graph.edges edge → edge.child ≢ node) where
  abbrev left : Nodes
  left = nodes_without node nodes

  row_gone : row_at left node ≡ None
  row_gone = let count = joined.rows in get_or-set_same nodes.rows node None None (omega arith)

  row_left : (n : ℕ) → n ≢ node → row_at left n ≡ row_at nodes n
  row_left n apart = get_or-set_other nodes.rows node n None None apart

  apart_row : (n : ℕ) (row : Row) → row_at left n ≡ Some row → n ≢ node
  apart_row n row there = λ same. let bad : Some row ≡ None = sym there ∙ ap (row_at left) same ∙ row_gone in absurd (cc bad)

  row_before : (n : ℕ) (row : Row) → row_at left n ≡ Some row → row_at nodes n ≡ Some row
  row_before n row there = sym (row_left n (apart_row n row there)) ∙ there

  has_before : (n : ℕ) → HasNode left.graph n → HasNode nodes.graph n × (n ≢ node)
  has_before n has =
      let r = Contains-map (λ (x : NodeRow). x.id) (other_nodes node nodes.graph.nodes) n has in
      let f = Contains-filter (λ (x : NodeRow). not (x.id == node)) nodes.graph.nodes r.0 r.1 in (
        rw r.2 (map-Contains (λ (x : NodeRow). x.id) nodes.graph.nodes r.0 f.0),
        λ same. let bad : true ≡ false = sym (eq-eqb r.0.id node (sym r.2 ∙ same)) ∙ not-true (r.0.id == node) f.1 in absurd (cc bad),
      )

  has_left : (n : ℕ) → HasNode nodes.graph n → n ≢ node → HasNode left.graph n
  has_left n has apart =
      let r = Contains-map (λ (x : NodeRow). x.id) nodes.graph.nodes n has in
      let other : not (r.0.id == node) ≡ true = ap not (ne_eqb r.0.id node (λ same. apart (r.2 ∙ same))) in
      rw r.2 (map-Contains (λ (x : NodeRow). x.id) (other_nodes node nodes.graph.nodes) r.0
      (kept (λ (x : NodeRow). not (x.id == node)) nodes.graph.nodes r.0 r.1 other))

  child_left : (n : ℕ) (role : Role) → n ≢ node → child_of (Node n) role left.graph.edges ≡ child_of (Node n) role nodes.graph.edges
  child_left n role apart =
      let other : Node node ≢ Node n = λ same. apart (let is : node ≡ n = cc in sym is) in
      child_of-refreshed nodes.graph.kinds (Node n) role (without_parent (Node node) nodes.graph.edges)
      ∙ child-without (Node node) (Node n) role nodes.graph.edges other

  -- nobody has the node below it
  child_apart : (n : ℕ) (role : Role) (c : ℕ) → child_of (Node n) role nodes.graph.edges ≡ Some c → c ≢ node
  child_apart n role c is = let e = child-edge (Node n) role nodes.graph.edges c is in λ same. enters e.edge e.there (e.to ∙ same)

  file_left : (n : ℕ) → n ≢ node → IsFile nodes n → IsFile left n
  file_left n apart is = record { row = is.row; there = row_left n apart ∙ is.there; driver = is.driver }

  size_left : (n size : ℕ) → n ≢ node → HasSize nodes n size → HasSize left n size
  size_left n size apart has = record { row = has.row; there = row_left n apart ∙ has.there; is = has.is }

  below_left : (n size : ℕ) (driver : Driver) → n ≢ node → HasBelow nodes n size driver → HasBelow left n size driver
  below_left n size File apart is = rw (other_device node n nodes.devices apart) is
  below_left n size (Raw part) apart is =
      let other = child_apart n FileRole is.file is.edge in
      let same : node_size left is.file ≡ node_size nodes is.file = ap size_by (row_left is.file other) in
      let within = is.within in
      record { file = is.file; edge = child_left n FileRole apart ∙ is.edge; is_file = file_left is.file other is.is_file; within = omega (arith, same, within) }
  below_left n size (Qcow2 image) apart is =
      let other = child_apart n FileRole is.file is.edge in
      record {
        file = is.file;
        edge = child_left n FileRole apart ∙ is.edge;
        is_file = file_left is.file other is.is_file;
        opened = is.opened;
        known = λ device bytes held told. is.known device bytes (sym (other_device node is.file nodes.devices other) ∙ held) told;
        backing = λ over edge.
            let before = sym (child_left n Backing apart) ∙ edge in
            size_left over image.header.size (child_apart n Backing over before) (is.backing over before);
      }
  below_left n size CopyOnRead apart is =
      record { child = is.child; edge = child_left n FileRole apart ∙ is.edge; same = size_left is.child size (child_apart n FileRole is.child is.edge) is.same }
  below_left n size (Filter kind) apart is = λ child edge.
      let before = sym (child_left n Filtered apart) ∙ edge in size_left child size (child_apart n Filtered child before) (is child before)

  pub joined_left : IsSoundGraph left.graph → IsJoined left
  joined_left sound = record {
    rows = length-set nodes.rows node None ∙ joined.rows;
    sound = sound;
    kinds = λ n row there.
        get_or-set_other nodes.graph.kinds node n no_kind no_kind (apart_row n row there) ∙ joined.kinds n row (row_before n row there);
    there = λ n has.
        let before = has_before n has in
        rw (row_left n before.1) (joined.there n before.0);
    only = λ n some.
        let found = some_row (row_at left n) some in
        let before = row_before n found.0 found.1 in
        has_left n (joined.only n (rw before refl)) (apart_row n found.0 found.1);
    sized = λ n row there. joined.sized n row (row_before n row there);
    below = λ n row there. below_left n row.size row.driver (apart_row n row there) (joined.below n row (row_before n row there));
    devices = λ n some. elim (cases_eq n node) [
      | inl same ↦ let none : device_in left.devices n ≡ None = ap (device_in left.devices) same ∙ no_device_left node nodes.devices in
          absurd (cc (rw none at some))
      | inr apart ↦ file_left n apart (joined.devices n (rw (other_device node n nodes.devices apart) at some))
    ];
    once = AllPairs-filter DifferInNode (λ device. not (is_device_of node device)) nodes.devices joined.once;
  }

  -- all that is left was there before
  extends_left : Extends left nodes
  extends_left = record {
    rows = row_before;
    devices = λ n some. elim (cases_eq n node) [
      | inl same ↦ let none : device_in left.devices n ≡ None = ap (device_in left.devices) same ∙ no_device_left node nodes.devices in
          absurd (cc (rw none at some))
      | inr apart ↦ sym (other_device node n nodes.devices apart)
    ];
    files = λ n row there. sym (child_left n FileRole (apart_row n row there));
    backings = λ n row there. sym (child_left n Backing (apart_row n row there));
    filters = λ n row there. sym (child_left n Filtered (apart_row n row there));
  }

  pub disks_left : IsSoundGraph left.graph → (other : ℕ) → HasNode left.graph other → disk_of left other ≡ disk_of nodes other
  disks_left sound other has = sym (disk_stays left nodes extends_left (joined_left sound) other has)

-- the first device of a node is the only one
once_tail : (x : DeviceSeen) (xs : List DeviceSeen) → AllPairs DifferInNode (x ∷ xs) → AllPairs DifferInNode xs
once_tail x xs once = λ i j d below within. once (suc i) (suc j) d (omega arith) (omega arith)

removed_first : (node : ℕ) (xs : List DeviceSeen) (at : ℕ) (d : DeviceSeen) → IsFirst (is_device_of node) xs at d → AllPairs DifferInNode xs → remove xs at ≡ other_devices node xs
removed_first node [] at d is once = absurd (omega (arith, is.within))
removed_first node (x ∷ xs) zero d is once =
    let of : x.node ≡ node = eqb-true x.node node is.passes in
    let none = missing node xs (λ k e below. ne_eqb (get_or xs k e).node node (λ same. once 0 (suc k) e (omega arith) (omega arith) (of ∙ sym same))) in
    rw is.passes (sym (none_gone node xs none))
removed_first node (x ∷ xs) (suc at) d is once =
    rw (is.before 0 (omega arith))
    (ap (λ (ds : List DeviceSeen). x ∷ ds) (removed_first node xs at d (later (is_device_of node) x xs at d is) (once_tail x xs once)))

pub removed : (node : ℕ) (xs : List DeviceSeen) (at : ℕ) (d : DeviceSeen) → position (is_device_of node) xs ≡ Some at → AllPairs DifferInNode xs → remove xs at ≡ other_devices node xs
removed node xs at d place once = removed_first node xs at d (first (is_device_of node) xs at d place) once

pub unplaced : (node : ℕ) (xs : List DeviceSeen) → position (is_device_of node) xs ≡ None → device_in xs node ≡ None
unplaced node xs none = not_some (device_in xs node) (λ some. is_placed node xs none some)

-- a node that was removed had no parent
pub unparented : (found : Option Parent) (done : Unit {0}) → MatchOption found (◌≡◌ {A = Result (Unit {0}) GraphStop} (Ok done) (Ok tt)) (λ parent. ◌≡◌ {A = Result (Unit {0}) GraphStop} (Ok done) (Err (InUse parent))) → found ≡ None
unparented None done is = refl
unparented (Some parent) done is = absurd (cc is)
