-- Rows that stay, but for their disks, and edges that were derived anew.
use Rattle.std.proofs.Common.{◌≡◌, ◌≢◌, ◌⊎◌, inl, inr, ℕ, zero, suc, Bool, true, false, cond, List, map, refl, sym, ap, subst, ◌∙◌, Option, Some, None, option_map}
use Rattle.std.specs.Prelude.{◌==◌, ◌||◌, IsSome}
use Rattle.std.specs.List.{find, list_any, Contains}
use Rattle.std.proofs.lemmas.Bool.{ne_eqb, eqb-true}
use Rattle.blk_graph.specs.declared.edge.Edge.{Edge}
use Rattle.blk_graph.specs.declared.kind.NodeKind.{NodeKind}
use Rattle.blk_graph.specs.Refreshed.{refreshed}
use Rattle.blk_graph.proofs.Members.{Contains-map, map-Contains, find-Some}
use Rattle.qmp_rules.specs.declared.rows.NodeRecord.{NodeRecord}
use Rattle.qmp_rules.specs.Table.{RunTable, node_by_id}
use Rattle.qmp_rules.specs.Changes.{node_changed, unsettled, lost_with, stands_over}
use Rattle.qmp_rules.specs.Chains.{filtered, disk_from, disk_node, is_over, unsettled_over}
use Rattle.flat_machine.specs.Machine.{path_from, path, copies_at, is_copying, copies_through}
use Rattle.flat_machine.specs.Wiring.{HaveDistinctIds, IsUnder}
use Rattle.flat_machine.proofs.Finds.{find-map, bytes_eq-other}
use Rattle.flat_machine.proofs.Tables.{refreshed-old, refreshed-new}

-- ---- edges that were derived anew

pub under-refreshed : (kinds : List NodeKind) (edges : List Edge) (file : ℕ) → IsUnder edges file → IsUnder (refreshed kinds edges) file
under-refreshed kinds edges file h =
    let like = refreshed-new kinds edges h.edge h.there in
    record { edge = like.edge; there = like.there; over = like.same.role ∙ h.over; child = like.same.child ∙ h.child }

pub under-before : (kinds : List NodeKind) (edges : List Edge) (file : ℕ) → IsUnder (refreshed kinds edges) file → IsUnder edges file
under-before kinds edges file h =
    let like = refreshed-old kinds edges h.edge h.there in
    record { edge = like.edge; there = like.there; over = like.same.role ∙ h.over; child = like.same.child ∙ h.child }

-- ---- rows that stay, but for their disks

pub record IsLike (row later : NodeRecord) : Type 0 where
  pub id : later.id ≡ row.id
  pub name : later.name ≡ row.name
  pub filename : later.filename ≡ row.filename
  pub kind : later.kind ≡ row.kind
  pub read_only : later.read_only ≡ row.read_only
  pub made_with : later.made_with ≡ row.made_with
  pub settled : later.is_settled ≡ true → row.is_settled ≡ true

pub like-itself : (row : NodeRecord) → IsLike row row
like-itself row = record {
  id = refl;
  name = refl;
  filename = refl;
  kind = refl;
  read_only = refl;
  made_with = refl;
  settled = λ h. h;
}

pub record SameRows (t now : RunTable) : Type 0 where
  pub back : (later : NodeRecord) → Contains now.nodes later → (row : NodeRecord) × (Contains t.nodes row × IsLike row later)
  pub forth : (row : NodeRecord) → Contains t.nodes row → (later : NodeRecord) × (Contains now.nodes later × IsLike row later)
  pub apart : HaveDistinctIds now
  pub there : (node : ℕ) → IsSome (node_by_id t node) → IsSome (node_by_id now node)

pub rows-same : (t now : RunTable) → now.nodes ≡ t.nodes → HaveDistinctIds t → SameRows t now
rows-same t now is apart = record {
  back = λ row there. (row, (subst (λ rows. Contains rows row) is there, like-itself row));
  forth = λ row there. (row, (subst (λ rows. Contains rows row) (sym is) there, like-itself row));
  apart = λ row there. subst (λ rows. find (λ r. r.id == row.id) rows ≡ Some row) (sym is)
      (apart row (subst (λ rows. Contains rows row) is there));
  there = λ node h. subst (λ rows. IsSome (find (λ r. r.id == node) rows)) (sym is) h;
}

pub rows-mapped : (t now : RunTable) (f : NodeRecord → NodeRecord) → ((row : NodeRecord) → IsLike row (f row)) → now.nodes ≡ map f t.nodes → HaveDistinctIds t
    → SameRows t now
rows-mapped t now f like is apart = record {
  back = λ later there.
      let from = Contains-map f t.nodes later (subst (λ rows. Contains rows later) is there) in
      (from.0, (from.1, subst (IsLike from.0) (sym from.2) (like from.0)));
  forth = λ row there. (f row, (subst (λ rows. Contains rows (f row)) (sym is) (map-Contains f t.nodes row there), like row));
  apart = λ later there.
      let from = Contains-map f t.nodes later (subst (λ rows. Contains rows later) is there) in
      let same_id : later.id ≡ from.0.id = ap (λ r. r.id) from.2 ∙ (like from.0).id in
      subst (λ rows. find (λ r. r.id == later.id) rows ≡ Some later) (sym is)
      (found later.id ∙ ap (option_map f) (subst (λ n. node_by_id t n ≡ Some from.0) (sym same_id) (apart from.0 from.1)) ∙ ap Some (sym from.2));
  there = λ node h. subst (λ rows. IsSome (find (λ r. r.id == node) rows)) (sym is)
      (subst IsSome (sym (found node)) (still (node_by_id t node) h));
}
  where
    found : (node : ℕ) → find (λ r. r.id == node) (map f t.nodes) ≡ option_map f (node_by_id t node)
    found node = find-map (λ r. r.id == node) f (λ r. ap (λ k. k == node) (like r).id) t.nodes

    still : (o : Option NodeRecord) → IsSome o → IsSome (option_map f o)
    still None h = absurd cc
    still (Some row) h = refl

-- rows of one id are one row
pub same_row : (t : RunTable) → HaveDistinctIds t → (row later : NodeRecord) → Contains t.nodes row → Contains t.nodes later → later.id ≡ row.id → later ≡ row
same_row t apart row later there there_later same =
    let a = apart row there in
    let b = subst (λ n. node_by_id t n ≡ Some later) same (apart later there_later) in
    cc

-- a row of changed ones is that of the row with its id
pub changed_row : (t : RunTable) (f : NodeRecord → NodeRecord) → ((row : NodeRecord) → IsLike row (f row)) → HaveDistinctIds t → (row later : NodeRecord)
    → Contains t.nodes row → Contains (map f t.nodes) later → later.id ≡ row.id → later ≡ f row
changed_row t f like apart row later there there_later same =
    let from = Contains-map f t.nodes later there_later in
    let ids : from.0.id ≡ row.id = sym (ap (λ r. r.id) from.2 ∙ (like from.0).id) ∙ same in
    let is : from.0 ≡ row = same_row t apart row from.0 there from.1 ids in
    from.2 ∙ ap f is

-- a row without its disk
like-unsettled : (row : NodeRecord) → IsLike row (unsettled row)
like-unsettled row = record {
  id = refl;
  name = refl;
  filename = refl;
  kind = refl;
  read_only = refl;
  made_with = refl;
  settled = λ h. absurd cc;
}

pub like_lost : (name : List ℕ) (row : NodeRecord) → IsLike row (lost_with name row)
like_lost name row = by_test (stands_over name row.filename)
  where
    by_test : (b : Bool) → IsLike row (cond b (unsettled row) row)
    by_test true = like-unsettled row
    by_test false = like-itself row

pub like_unsettled : (id : ℕ) (row : NodeRecord) → IsLike row (node_changed id unsettled row)
like_unsettled id row = by_test (row.id == id)
  where
    by_test : (b : Bool) → IsLike row (cond b (unsettled row) row)
    by_test true = like-unsettled row
    by_test false = like-itself row

pub like_over : (t : RunTable) (node : ℕ) (row : NodeRecord) → IsLike row (unsettled_over t node row)
like_over t node row = by_test (is_over t node row.id)
  where
    by_test : (b : Bool) → IsLike row (cond b (unsettled row) row)
    by_test true = like-unsettled row
    by_test false = like-itself row

-- another row keeps its disk
pub kept_lost : (name other : List ℕ) (row : NodeRecord) → row.filename ≡ Some other → other ≢ name → lost_with name row ≡ row
kept_lost name other row is differ =
    let no_match : stands_over name row.filename ≡ false = ap (stands_over name) is ∙ bytes_eq-other other name differ in
    rw no_match refl

pub kept_unsettled : (id : ℕ) (row : NodeRecord) → row.id ≢ id → node_changed id unsettled row ≡ row
kept_unsettled id row differ = let no_match : (row.id == id) ≡ false = ne_eqb row.id id differ in rw no_match refl

-- ---- a node before and after

-- its row, and what is left of it
pub record BothAt (t now : RunTable) (node : ℕ) : Type 0 where
  pub row : NodeRecord
  pub later : NodeRecord
  pub found : node_by_id t node ≡ Some row
  pub found_later : node_by_id now node ≡ Some later
  pub like : IsLike row later

pub stays-at : (t now : RunTable) → SameRows t now → (node : ℕ) → IsSome (node_by_id t node) → BothAt t now node
stays-at t now rows node some = by_row (node_by_id t node) refl some
  where
    by_row : (found : Option NodeRecord) → node_by_id t node ≡ found → IsSome found → BothAt t now node
    by_row None e h = absurd cc
    by_row (Some row) e h =
        let here = find-Some (λ r. r.id == node) t.nodes row e in
        let later = rows.forth row here.0 in
        let is : later.0.id ≡ node = later.1.1.id ∙ eqb-true row.id node here.1 in
        record {
          row = row;
          later = later.0;
          found = e;
          found_later = subst (λ n. node_by_id now n ≡ Some later.0) is (rows.apart later.0 later.1.0);
          like = later.1.1;
        }

-- ---- rows that are changed, each of which keeps its id

pub mapped_apart : (t now : RunTable) (f : NodeRecord → NodeRecord) → ((row : NodeRecord) → (f row).id ≡ row.id) → now.nodes ≡ map f t.nodes
    → HaveDistinctIds t → HaveDistinctIds now
mapped_apart t now f ids nodes apart later there = by_row (Contains-map f t.nodes later (subst (λ ns. Contains ns later) nodes there))
  where
    by_row : (row : NodeRecord) × Contains t.nodes row × (later ≡ f row) → node_by_id now later.id ≡ Some later
    by_row (row, at, is) =
        let id : later.id ≡ row.id = ap (λ r. r.id) is ∙ ids row in
        ap (find (λ r. r.id == later.id)) nodes
        ∙ find-map (λ r. r.id == later.id) f (λ r. ap (λ k. k == later.id) (ids r)) t.nodes
        ∙ ap (option_map f) (subst (λ n. node_by_id t n ≡ Some row) (sym id) (apart row at))
        ∙ ap Some (sym is)

pub found_mapped : (t now : RunTable) (f : NodeRecord → NodeRecord) → ((row : NodeRecord) → (f row).id ≡ row.id) → now.nodes ≡ map f t.nodes
    → (n : ℕ) → node_by_id now n ≡ option_map f (node_by_id t n)
found_mapped t now f ids nodes n =
    ap (find (λ r. r.id == n)) nodes ∙ find-map (λ r. r.id == n) f (λ r. ap (λ k. k == n) (ids r)) t.nodes

-- ---- what a node reads as

pub from-child : (more : ℕ) (t : RunTable) (node : ℕ) (below : Option ℕ) → filtered t node ≡ below
    → disk_from (suc more) t node ≡ elim below as (λ _. ℕ) [ None ↦ node | Some child ↦ disk_from more t child ]
from-child more t node below e = ap (λ b. elim b as (λ _. ℕ) [ None ↦ node | Some child ↦ disk_from more t child ]) e

pub path-child : (more : ℕ) (t : RunTable) (node : ℕ) (p : ℕ → Bool) (below : Option ℕ) → filtered t node ≡ below
    → list_any p (path_from (suc more) t node)
    ≡ (p node || elim below as (λ _. Bool) [ None ↦ false | Some child ↦ list_any p (path_from more t child) ])
path-child more t node p None e = rw (e, path_from) refl
path-child more t node p (Some child) e = rw (e, path_from) refl

-- whether a node copies what is read
pub copies-at : (t : RunTable) (node : ℕ) (row : NodeRecord) → node_by_id t node ≡ Some row → copies_at t node ≡ is_copying row.kind
copies-at t node row e = ap (λ o. elim o as (λ _. Bool) [ None ↦ false | Some r ↦ is_copying r.kind ]) e

-- Nodes whose filters lead on among each other, and are the same in both tables, read as the same nodes in both.
module _ (t now : RunTable) (P : ℕ → Type 0) (same : (node : ℕ) → P node → filtered now node ≡ filtered t node)
    (goes : (node child : ℕ) → P node → filtered t node ≡ Some child → P child) where
  disk_from-same : (more node : ℕ) → P node → disk_from more now node ≡ disk_from more t node
  disk_from-same zero node here = refl
  disk_from-same (suc more) node here = by_child (filtered t node) refl (disk_from-same more)
    where
      by_child : (below : Option ℕ) → filtered t node ≡ below → ((child : ℕ) → P child → disk_from more now child ≡ disk_from more t child)
          → disk_from (suc more) now node ≡ disk_from (suc more) t node
      by_child None e rest = from-child more now node None (same node here ∙ e) ∙ sym (from-child more t node None e)
      by_child (Some child) e rest =
          from-child more now node (Some child) (same node here ∙ e) ∙ rest child (goes node child here e)
          ∙ sym (from-child more t node (Some child) e)

  pub disk_node-same : (node : ℕ) → P node → disk_node now node ≡ disk_node t node
  unfolding disk_node
  disk_node-same node here = disk_from-same 64 node here

  -- it is one of them
  disk_from-there : (more node : ℕ) → P node → P (disk_from more t node)
  disk_from-there zero node here = here
  disk_from-there (suc more) node here = by_child (filtered t node) refl (disk_from-there more)
    where
      by_child : (below : Option ℕ) → filtered t node ≡ below → ((child : ℕ) → P child → P (disk_from more t child))
          → P (disk_from (suc more) t node)
      by_child None e rest = subst P (sym (from-child more t node None e)) here
      by_child (Some child) e rest = subst P (sym (from-child more t node (Some child) e)) (rest child (goes node child here e))

  pub disk_node-there : (node : ℕ) → P node → P (disk_node t node)
  unfolding disk_node
  disk_node-there node here = disk_from-there 64 node here

  module _ (copies : (node : ℕ) → P node → copies_at now node ≡ copies_at t node) where
    path_from-same : (more node : ℕ) → P node
        → list_any (copies_at now) (path_from more now node) ≡ list_any (copies_at t) (path_from more t node)
    path_from-same zero node here = ap (λ b. b || false) (copies node here)
    path_from-same (suc more) node here = by_child (filtered t node) refl (path_from-same more)
      where
        by_child : (below : Option ℕ) → filtered t node ≡ below
            → ((child : ℕ) → P child → list_any (copies_at now) (path_from more now child) ≡ list_any (copies_at t) (path_from more t child))
            → list_any (copies_at now) (path_from (suc more) now node) ≡ list_any (copies_at t) (path_from (suc more) t node)
        by_child None e rest =
            path-child more now node (copies_at now) None (same node here ∙ e) ∙ ap (λ b. b || false) (copies node here)
            ∙ sym (path-child more t node (copies_at t) None e)
        by_child (Some child) e rest =
            path-child more now node (copies_at now) (Some child) (same node here ∙ e)
            ∙ ap (λ b. b || list_any (copies_at now) (path_from more now child)) (copies node here)
            ∙ ap (λ b. copies_at t node || b) (rest child (goes node child here e))
            ∙ sym (path-child more t node (copies_at t) (Some child) e)

    pub copies-same : (node : ℕ) → P node → copies_through now node ≡ copies_through t node
    unfolding path
    copies-same node here = path_from-same 64 node here

-- a node reads as itself, or as one to which a filter leads
pub disk_reached : (t : RunTable) (P : ℕ → Type 0) → ((node below : ℕ) → filtered t node ≡ Some below → P below) → (node : ℕ)
    → (disk_node t node ≡ node) ⊎ P (disk_node t node)
disk_reached t P goes node =
    disk_node-there t t (λ n. (n ≡ node) ⊎ P n) (λ n here. refl) (λ n below here is. inr (goes n below is)) node (inl refl)
