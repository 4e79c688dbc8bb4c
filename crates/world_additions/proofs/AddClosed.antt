-- A file for which no node stands isn't out.
use Rattle.std.proofs.Common.{◌≡◌, ◌⊎◌, ℕ, suc, ◌==◌, Bool, true, false, cond, List, [], ◌∷◌, inl, inr, refl, sym, ◌∙◌, ap, subst, Option, Some, None}
use Rattle.std.specs.Prelude.{Contains, IsSome, bytes_eq, find, is_none, option_and_then, option_map, slice_get, ◌&&◌, ◌||◌}
use Rattle.std.specs.List.{list_any}
use Rattle.std.proofs.lemmas.Bool.{eqb-true, false≢true}
use Rattle.blk_base.specs.Files.{is_out, is_out_as}
use Rattle.blk_base.specs.declared.file.Opened.{Opened}
use Rattle.blk_graph.proofs.Members.{Contains-cases, Contains-nil, find-Some}
use Rattle.blk_nodes.specs.Nodes.{DeviceSeen, Nodes}
use Rattle.qmp_rules.specs.Asks.{stands_for}
use Rattle.qmp_rules.specs.Looks.{is_unopened}
use Rattle.qmp_rules.specs.Table.{RunTable, node_by_id}
use Rattle.qmp_rules.specs.declared.rows.NodeRecord.{NodeRecord}
use Rattle.flat_machine.specs.State.{filename_of}
use Rattle.flat_machine.proofs.Accepted.{opened_parts}
use Rattle.flat_machine.proofs.Finds.{bytes_eq-same, same-bytes_eq}
use Rattle.world_parts.specs.Coherent.{AreOut}
use Rattle.world_parts.specs.Face.{WorldSeen, device_numbered, held, held_in_file, told_bytes}

-- an opening of that name that isn't back
record IsOpening (name : List ℕ) (opened : List Opened) : Type 0 where
  n : ℕ
  opening : Opened
  there : slice_get opened n ≡ Some opening
  named : opening.name ≡ name
  out : opening.returned ≡ None

both-true : (a b : Bool) → (a && b) ≡ true → (a ≡ true) × (b ≡ true)
both-true true b is = (refl, is)
both-true false b is = absurd (false≢true is)

none-is : (found : Option ℕ) → is_none found ≡ true → found ≡ None
none-is None is = refl
none-is (Some count) is = absurd (false≢true is)

opening-head : (name : List ℕ) (o : Opened) (opened : List Opened) (b : Bool) → is_out_as name o ≡ b → (b || is_out name opened) ≡ true
    → (is_out name opened ≡ true → IsOpening name opened) → IsOpening name (o ∷ opened)
opening-head name o opened true named is rest =
    let parts = both-true (bytes_eq name o.name) (is_none o.returned) named in
    record { n = 0; opening = o; there = refl; named = sym (same-bytes_eq name o.name parts.0); out = none-is o.returned parts.1 }
opening-head name o opened false named is rest =
    let later = rest is in
    record { n = suc later.n; opening = later.opening; there = later.there; named = later.named; out = later.out }

opening-of : (name : List ℕ) (opened : List Opened) → is_out name opened ≡ true → IsOpening name opened
opening-of name [] is = absurd (false≢true is)
opening-of name (o ∷ opened) is = opening-head name o opened (is_out_as name o) refl is (λ later. opening-of name opened later)

any-row : (name : List ℕ) (x : NodeRecord) (rows : List NodeRecord) (row : NodeRecord) → (row ≡ x) ⊎ Contains rows row → stands_for name row ≡ true
    → (Contains rows row → list_any (stands_for name) rows ≡ true) → (stands_for name x || list_any (stands_for name) rows) ≡ true
any-row name x rows row (inl here) is rest =
    let yes : stands_for name x ≡ true = subst (λ (r : NodeRecord). stands_for name r ≡ true) here is in
    rw yes refl
any-row name x rows row (inr behind) is rest = by_head (stands_for name x) (rest behind)
  where
    by_head : (b : Bool) → list_any (stands_for name) rows ≡ true → (b || list_any (stands_for name) rows) ≡ true
    by_head true later = refl
    by_head false later = later

stands-any : (name : List ℕ) (rows : List NodeRecord) (row : NodeRecord) → Contains rows row → stands_for name row ≡ true
    → list_any (stands_for name) rows ≡ true
stands-any name [] row there is = absurd (Contains-nil row there)
stands-any name (x ∷ rows) row there is =
    any-row name x rows row (Contains-cases x rows row there) is (λ behind. stands-any name rows row behind is)

some-of : {A : Type 0} (found : Option A) → IsSome found → (a : A) × (found ≡ Some a)
some-of None some = absurd (false≢true some)
some-of (Some a) some = (a, refl)

-- the node that holds a device stands for the file
stands-by : (t : RunTable) (node : ℕ) (name : List ℕ) → filename_of t node ≡ Some name → list_any (stands_for name) t.nodes ≡ true
stands-by t node name is = by_row (node_by_id t node) refl is
  where
    by_row : (found : Option NodeRecord) → node_by_id t node ≡ found → option_and_then (λ (row : NodeRecord). row.filename) found ≡ Some name
        → list_any (stands_for name) t.nodes ≡ true
    by_row None e named = absurd (cc named)
    by_row (Some row) e named =
        stands-any name t.nodes row (find-Some (λ (r : NodeRecord). r.id == node) t.nodes row e).0 (rw named (bytes_eq-same name))

pub closed-in : (t : RunTable) (nodes : Nodes) (opened : List Opened) (name : List ℕ) → AreOut t nodes opened → is_unopened t name ≡ false
    → is_out name opened ≡ false
closed-in t nodes opened name out closed = by_out (is_out name opened) refl
  where
    by_out : (b : Bool) → is_out name opened ≡ b → b ≡ false
    by_out false e = refl
    by_out true e =
        let opening = opening-of name opened e in
        let held = some-of (device_numbered nodes.devices opening.n) (out.all opening.n opening.opening opening.there opening.out) in
        let found = find-Some (λ (d : DeviceSeen). d.number.0 == opening.n) nodes.devices held.0 held.1 in
        let is = out.each held.0 found.0 in
        let at : held.0.number.0 ≡ opening.n = eqb-true held.0.number.0 opening.n found.1 in
        let there : slice_get opened opening.n ≡ Some is.opening = subst (λ (k : ℕ). slice_get opened k ≡ Some is.opening) at is.there in
        let same : Some opening.opening ≡ Some is.opening = sym opening.there ∙ there in
        let one : opening.opening ≡ is.opening = cc same in
        let named : filename_of t held.0.node ≡ Some name = is.named ∙ ap (λ (o : Opened). Some o.name) (sym one) ∙ ap Some opening.named in
        let stands : list_any (stands_for name) t.nodes ≡ true = stands-by t held.0.node name named in
        absurd (false≢true (sym (opened_parts t name closed).1 ∙ stands))

-- ---- what such a file holds stands in the store

find-head : (name : List ℕ) (x : NodeRecord) (rows : List NodeRecord) (b : Bool) → (b || list_any (stands_for name) rows) ≡ false
    → (list_any (stands_for name) rows ≡ false → find (stands_for name) rows ≡ None) → cond b (Some x) (find (stands_for name) rows) ≡ None
find-head name x rows true none rest = absurd (false≢true (sym none))
find-head name x rows false none rest = rest none

pub find-closed : (name : List ℕ) (rows : List NodeRecord) → list_any (stands_for name) rows ≡ false → find (stands_for name) rows ≡ None
find-closed name [] none = refl
find-closed name (x ∷ rows) none = find-head name x rows (stands_for name x) none (λ later. find-closed name rows later)

pub closed-rows : (t : RunTable) (name : List ℕ) → is_unopened t name ≡ false → find (stands_for name) t.nodes ≡ None
closed-rows t name closed =
    find-closed name t.nodes (opened_parts t name closed).1

pub closed-held : (w : WorldSeen) (name : List ℕ) → is_unopened w.table name ≡ false → held w name ≡ told_bytes w.files name
closed-held w name closed =
    ap (λ (f : Option NodeRecord). held_in_file w name (option_map (λ (r : NodeRecord). r.id) f)) (closed-rows w.table name closed)
