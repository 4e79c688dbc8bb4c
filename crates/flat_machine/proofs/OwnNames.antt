-- Names of nodes: those that commands say, and those that nodes get by themselves.
use Rattle.std.proofs.Common.{◌≡◌, ◌≢◌, ℕ, true, false, List, [], ◌∷◌, refl, sym, ap, subst, ◌∙◌, Option, Some, None}
use Rattle.std.specs.Prelude.{◌==◌, ◌++◌, codes, bytes_eq, IfSome}
use Rattle.std.specs.List.{find, Contains}
use Rattle.std.proofs.lemmas.Bool.{false≢true, not-false}
use Rattle.blk_graph.proofs.Members.{find-Some}
use Rattle.qmp_codec.specs.declared.nodes.BlockdevAdd.{BlockdevAdd}
use Rattle.qmp_codec.specs.declared.nodes.InlineFile.{InlineFile}
use Rattle.qmp_rules.specs.Asks.{holds}
use Rattle.qmp_rules.specs.Edits.{goes_with, inline_row, next_free_id}
use Rattle.qmp_asks.specs.Naming.{inline_name, is_name}
use Rattle.qmp_asks.specs.NodeAsks.{add_asks, add_names, add_values, added_rest, is_read_only}
use Rattle.qmp_rules.specs.Table.{RunTable, node_by_id, node_named}
use Rattle.qmp_asks.specs.declared.ask.Ask.TheVariants as ask
use Rattle.qmp_rules.specs.declared.rows.NodeRecord.{NodeRecord}
use Rattle.qmp_rules.specs.declared.told.Told.{Told}
use Rattle.blk_history.specs.Fold.{With}
use Rattle.flat_machine.specs.Wiring.{HasOwnName, TableAtRest}
use Rattle.flat_machine.proofs.Asked.{not-refused, NoneHolds, none-ahead, none-behind}
use Rattle.flat_machine.proofs.Finds.{bytes_eq-same, same-bytes_eq}
use Rattle.flat_machine.proofs.Fresh.{no-found}

-- ---- names that commands say

-- where one is said, it is a name
abbrev pub IsNameIf : Option (List ℕ) → Type 0
IsNameIf own = IfSome own (λ name. is_name name ≡ true)

pub named-if : (t : RunTable) (told : Told) (member : List ℕ) (own : Option (List ℕ)) → holds t told (ask.Named member own) ≡ None → IsNameIf own
unfolding holds
named-if t told member None h = tt
named-if t told member (Some name) h = not-false (is_name name) (not-refused _ _ h)

-- those of an addition, that of its node first
pub names-asked : (t : RunTable) (told : Told) (c : BlockdevAdd (List ℕ)) → NoneHolds t told (add_asks c) → NoneHolds t told (add_names c)
names-asked t told c asks =
    none-behind t told (add_values c) (add_names c)
    (none-ahead t told (add_values c ++ add_names c) (added_rest c.node_name (is_read_only c.options) c.driver) asks)

pub name-asked : (t : RunTable) (told : Told) (c : BlockdevAdd (List ℕ)) → NoneHolds t told (add_asks c) → is_name c.node_name ≡ true
name-asked t told c asks = let names = names-asked t told c asks in named-if t told (codes "node-name") (Some c.node_name) names.0

-- a name begins with no `#`
not-inline : (name over : List ℕ) → is_name name ≡ true → name ≢ inline_name over None
not-inline name over is same =
    let marked : false ≡ true = subst (λ (n : List ℕ). is_name n ≡ true) same is in
    false≢true marked

pub own-name : (row : NodeRecord) → is_name row.name ≡ true → HasOwnName row
own-name row is alone over named = not-inline row.name over is

-- ---- and of `file` nodes that are made with others

pub inline-own : (t : RunTable) (told : Told) (name : List ℕ) (file : InlineFile (List ℕ)) → IsNameIf file.node_name → HasOwnName (inline_row t told name file)
inline-own t told name file said = by_own (next_free_id t) file.node_name said
  where
    by_own : (id : ℕ) (own : Option (List ℕ)) → IsNameIf own → goes_with id own ≡ None → (over : List ℕ) → is_name over ≡ true
        → inline_name name own ≢ inline_name over None
    by_own id None said alone over named = absurd cc
    by_own id (Some own) said alone over named = not-inline own over said

-- one without a name of its own goes with the node over it, and is named by that
pub goes-named : (id over : ℕ) (name : List ℕ) (own : Option (List ℕ)) → goes_with id own ≡ Some over → inline_name name own ≡ inline_name name None
goes-named id over name None h = refl
goes-named id over name (Some own) h = absurd cc

-- ---- where a node's name is free, that of its `file` node is so

abbrev behind-mark : List ℕ → List ℕ
behind-mark [] = []
behind-mark (c ∷ name) = name

none-found : (rows : List NodeRecord) (name : List ℕ) (row : NodeRecord) → find (λ r. bytes_eq r.name name) rows ≡ None → Contains rows row → row.name ≢ name
none-found rows name row none there same =
    no-found (λ r. bytes_eq r.name name) rows row none there (ap (λ n. bytes_eq n name) same ∙ bytes_eq-same name)

pub inline-free : (t : RunTable) (name : List ℕ) → TableAtRest t → is_name name ≡ true → node_named t name ≡ None → node_named t (inline_name name None) ≡ None
inline-free t name h is none = by_found (node_named t (inline_name name None)) refl
  where
    by_over : (row : NodeRecord) (over : ℕ) → row.name ≡ inline_name name None → (found : Option NodeRecord) → node_by_id t over ≡ found
        → With found (λ node. row.name ≡ inline_name node.name None) → ⊥
    by_over row over same None e named = named
    by_over row over same (Some node) e named =
        let here = find-Some (λ r. r.id == over) t.nodes node e in
        none-found t.nodes name node none here.0 (ap behind-mark (sym named ∙ same))

    by_made : (row : NodeRecord) → Contains t.nodes row → row.name ≡ inline_name name None → (made : Option ℕ) → row.made_with ≡ made → ⊥
    by_made row there same None alone = h.stands.own_names row there alone name is same
    by_made row there same (Some over) with = by_over row over same (node_by_id t over) refl (h.inline row over there with).named

    by_found : (found : Option NodeRecord) → node_named t (inline_name name None) ≡ found → found ≡ None
    by_found None e = refl
    by_found (Some row) e =
        let here = find-Some (λ r. bytes_eq r.name (inline_name name None)) t.nodes row e in
        absurd (by_made row here.0 (same-bytes_eq row.name (inline_name name None) here.1) row.made_with refl)
