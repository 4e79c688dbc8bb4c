-- What it means that no ask of a list refuses.
use Rattle.std.proofs.Common.{◌≡◌, ℕ, ◌+◌, ◌≤◌, Bool, true, false, List, [], ◌∷◌, ◌++◌, length, refl, Option, Some, None}
use Rattle.std.specs.Prelude.{not, is_none}
use Rattle.std.specs.List.{list_any}
use Rattle.std.proofs.lemmas.Bool.{ltb-false, not-false}
use Rattle.blk_graph.specs.declared.edge.Edge.{Edge}
use Rattle.qmp_asks.specs.declared.ask.Ask.TheVariants as ask
use Rattle.qmp_asks.specs.declared.ask.Drivers.{Drivers}
use Rattle.qmp_rules.specs.declared.refusal.Refusal.{Refusal}
use Rattle.qmp_rules.specs.declared.rows.NodeRecord.{NodeRecord}
use Rattle.qmp_rules.specs.declared.told.Told.{Told}
use Rattle.qmp_rules.specs.Table.{RunTable, node_named, file_state, first_into}
use Rattle.qmp_rules.specs.Chains.{is_settled}
use Rattle.qmp_rules.specs.Refusals.{refused, or_else}
use Rattle.qmp_asks.specs.Asking.{Asking}
use Rattle.qmp_asks.specs.Naming.{is_file_name}
use Rattle.qmp_rules.specs.Asks.{holds, first_unmet_ask, takes, stands_for, is_lost, is_file, name_of_file, in_use}

-- ---- lists

pub none-both : (a b : Option Refusal) → or_else a b ≡ None → (a ≡ None) × (b ≡ None)
none-both None b h = (refl, h)
none-both (Some cause) b h = absurd cc

-- none of them refuses
abbrev pub NoneHolds : RunTable → Told → List Asking → Type 0
NoneHolds t told [] = Unit {0}
NoneHolds t told (asking ∷ asks) = (holds t told asking ≡ None) × NoneHolds t told asks

pub none-holds : (t : RunTable) (told : Told) (asks : List Asking) → first_unmet_ask t told asks ≡ None → NoneHolds t told asks
none-holds t told [] h = tt
none-holds t told (asking ∷ asks) h =
    let parts = none-both (holds t told asking) (first_unmet_ask t told asks) h in
    (parts.0, none-holds t told asks parts.1)

pub not-refused : (b : Bool) (cause : Refusal) → refused b cause ≡ None → b ≡ false
not-refused false cause h = refl
not-refused true cause h = absurd cc

-- so it is with those behind
pub none-behind : (t : RunTable) (told : Told) (xs ys : List Asking) → NoneHolds t told (xs ++ ys) → NoneHolds t told ys
none-behind t told [] ys h = h
none-behind t told (asking ∷ xs) ys h = none-behind t told xs ys h.1

-- and with those ahead
pub none-ahead : (t : RunTable) (told : Told) (xs ys : List Asking) → NoneHolds t told (xs ++ ys) → NoneHolds t told xs
none-ahead t told [] ys h = tt
none-ahead t told (asking ∷ xs) ys h = (h.0, none-ahead t told xs ys h.1)

pub good-value : (t : RunTable) (told : Told) (member : List ℕ) (ok : Bool) → holds t told (ask.Good member ok) ≡ None → ok ≡ true
unfolding holds
good-value t told member ok h = not-false ok (not-refused (not ok) _ h)

-- ---- asks

module _ (t : RunTable) (told : Told) where
  pub found-named : (name : List ℕ) → holds t told (ask.Found (Some name)) ≡ None → (row : NodeRecord) × (node_named t name ≡ Some row)
  unfolding holds
  found-named name h = by_row (node_named t name) refl (not-refused _ _ h)
    where
      by_row : (found : Option NodeRecord) → node_named t name ≡ found → is_none found ≡ false
          → (row : NodeRecord) × (node_named t name ≡ Some row)
      by_row None e k = absurd cc
      by_row (Some row) e k = (row, e)

  pub takes-driver : (name : List ℕ) (which : Drivers) (row : NodeRecord) → node_named t name ≡ Some row
      → holds t told (ask.Drives (Some name) which) ≡ None → takes which row.kind ≡ true
  unfolding holds
  takes-driver name which row found h = not-false _ (not-refused _ _ (rw found at h))

  pub room-left : (count : ℕ) → holds t told (ask.RoomForNodes count) ≡ None → length t.nodes + count ≤ 64
  unfolding holds
  room-left count h = ltb-false 64 (length t.nodes + count) (not-refused _ _ h)

  pub named-file : (member name : List ℕ) → holds t told (ask.FileNamed member (Some name)) ≡ None → is_file_name name ≡ true
  unfolding holds
  named-file member name h = not-false _ (not-refused _ _ h)

  pub none-stands : (name : List ℕ) → holds t told (ask.Closed name) ≡ None → list_any (stands_for name) t.nodes ≡ false
  unfolding holds
  none-stands name h = not-refused _ _ h

  pub known-file : (name : List ℕ) (is_raw : Bool) → holds t told (ask.Known name is_raw) ≡ None → is_lost is_raw (file_state t name) ≡ false
  unfolding holds
  known-file name is_raw h = not-refused _ _ h

  pub lone-node : (name : List ℕ) (row : NodeRecord) → node_named t name ≡ Some row → holds t told (ask.Lone name) ≡ None
      → first_into row.id t.edges ≡ None
  unfolding holds
  lone-node name row found h = by_edge (first_into row.id t.edges) refl (rw found at h)
    where
      by_edge : (edge : Option Edge) → first_into row.id t.edges ≡ edge → in_use t name edge ≡ None → first_into row.id t.edges ≡ None
      by_edge None e k = e
      by_edge (Some edge) e k = absurd cc

  pub known-under : (name : List ℕ) (is_raw : Bool) (row : NodeRecord) → node_named t name ≡ Some row → is_file row ≡ true
      → holds t told (ask.KnownUnder name is_raw) ≡ None → is_lost is_raw (file_state t (name_of_file row)) ≡ false
  unfolding holds
  known-under name is_raw row found file h = not-refused _ _ (rw (found, file) at h)

  pub settled-node : (name : List ℕ) (row : NodeRecord) → node_named t name ≡ Some row → holds t told (ask.Settled (Some name)) ≡ None
      → is_settled t row.id ≡ true
  unfolding holds
  settled-node name row found h = not-false _ (not-refused _ _ (rw found at h))
