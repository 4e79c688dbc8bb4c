-- A node over a `file` node that is made with it can be added behind that.
use Rattle.std.proofs.Common.{◌≡◌, ℕ, ◌+◌, ◌<◌, ◌≤◌, ◌==◌, Bool, true, false, cond, List, [], ◌∷◌, ◌++◌, length, map, set, refl, sym, ◌∙◌, ap, subst, arith, Option, Some, None}
use Rattle.std.specs.Prelude.{bytes_eq, codes, find, not, unwrap_or}
use Rattle.std.proofs.lemmas.Bool.{eq-eqb, false≢true}
use Rattle.std.proofs.lemmas.List.{length-append, map-append}
use Rattle.blk_graph.specs.declared.kind.NodeKind.{NodeKind}
use Rattle.blk_graph.specs.Graph.{ids}
use Rattle.blk_graph.specs.Ids.{lowest_free}
use Rattle.blk_graph.specs.Refreshed.{refreshed}
use Rattle.blk_nodes.specs.Joined.{IsFile, IsJoined}
use Rattle.blk_nodes.specs.Nodes.{Nodes, node_size}
use Rattle.blk_nodes.specs.Overlays.{HasRoomForNode}
use Rattle.blk_nodes.specs.declared.row.Driver.TheVariants as driver
use Rattle.blk_nodes.specs.declared.row.Row.{Row}
use Rattle.qmp_codec.specs.declared.nodes.InlineFile.{InlineFile}
use Rattle.qmp_rules.specs.Asks.{holds}
use Rattle.qmp_rules.specs.Changes.{changed}
use Rattle.qmp_rules.specs.Edits.{free_id, inline_row, length_told, next_free_id}
use Rattle.qmp_asks.specs.Naming.{inline_name}
use Rattle.qmp_asks.specs.NodeAsks.{is_read_only}
use Rattle.qmp_rules.specs.Answers.{told_none}
use Rattle.qmp_rules.specs.Table.{RunTable, kind_of_record, kinds_from, kinds_of, node_by_id, node_named}
use Rattle.qmp_asks.specs.Values.{most_length}
use Rattle.qmp_asks.specs.declared.ask.Ask.TheVariants as ask
use Rattle.qmp_rules.specs.declared.change.Change.TheVariants.{AddFile}
use Rattle.qmp_rules.specs.declared.refusal.Refusal.TheVariants.{NameTaken}
use Rattle.qmp_rules.specs.declared.rows.NodeRecord.{NodeRecord}
use Rattle.qmp_rules.specs.declared.told.Told.{Told}
use Rattle.flat_machine.proofs.Accepted.{free_fresh}
use Rattle.flat_machine.proofs.Asked.{not-refused}
use Rattle.flat_machine.proofs.Finds.{bytes_eq-same, same-bytes_eq}
use Rattle.flat_machine.proofs.Fresh.{found-new}
use Rattle.world_parts.specs.Adding.{Adding, Taken}
use Rattle.world_parts.specs.Coherent.{AreNodesOf}
use Rattle.world_parts.specs.Joining.{HasInline}
use Rattle.world_additions.proofs.AddAlike.{id_of}
use Rattle.world_additions.proofs.AddAsked.{TellsShort}
use Rattle.world_additions.proofs.AddFacts.{alike-filed}
use Rattle.world_additions.proofs.AddPlaces.{file-of, free-lowest, place-of}
use Rattle.world_additions.proofs.AddReady.{size-alike}
use Rattle.world_additions.proofs.AddStops.{lowest-same}

-- ---- rows that differ in their size alone

pub ids-last : (rows : List NodeRecord) (a b : NodeRecord) → a.id ≡ b.id → map id_of (rows ++ a ∷ []) ≡ map id_of (rows ++ b ∷ [])
ids-last [] a b same = ap (λ (n : ℕ). n ∷ []) same
ids-last (row ∷ rows) a b same = ap (λ (l : List ℕ). row.id ∷ l) (ids-last rows a b same)

kinds-from-last : (rows : List NodeRecord) (a b : NodeRecord) (kinds : List NodeKind) → a.id ≡ b.id → kind_of_record a ≡ kind_of_record b
    → kinds_from kinds (rows ++ a ∷ []) ≡ kinds_from kinds (rows ++ b ∷ [])
kinds-from-last [] a b kinds same kind = rw (same, kind) refl
kinds-from-last (row ∷ rows) a b kinds same kind = kinds-from-last rows a b (set kinds row.id (kind_of_record row)) same kind

pub kinds-last : (rows : List NodeRecord) (a b : NodeRecord) → a.id ≡ b.id → kind_of_record a ≡ kind_of_record b → kinds_of (rows ++ a ∷ []) ≡ kinds_of (rows ++ b ∷ [])
kinds-last rows a b same kind = kinds-from-last rows a b _ same kind

-- ---- names

none-last : (p : NodeRecord → Bool) (rows : List NodeRecord) (new : NodeRecord) → find p rows ≡ None → p new ≡ false → find p (rows ++ new ∷ []) ≡ None
none-last p [] new none not = rw not refl
none-last p (row ∷ rows) new none not = by_test (p row) none (none-last p rows new)
  where
    by_test : (b : Bool) → cond b (Some row) (find p rows) ≡ None → (find p rows ≡ None → p new ≡ false → find p (rows ++ new ∷ []) ≡ None)
        → cond b (Some row) (find p (rows ++ new ∷ [])) ≡ None
    by_test true none rest = absurd (cc none)
    by_test false none rest = rest none not

-- the name of such a `file` node is another than that of the node over it
pub inline-apart : (t : RunTable) (told : Told) (name : List ℕ) (own : Option (List ℕ)) → holds t told (ask.Apart name own) ≡ None
    → bytes_eq (inline_name name own) name ≡ false
unfolding holds
inline-apart t told name None apart = by_test (bytes_eq (codes "#" ++ name) name) refl
  where
    by_test : (b : Bool) → bytes_eq (codes "#" ++ name) name ≡ b → b ≡ false
    by_test false is = refl
    by_test true is =
        let same : codes "#" ++ name ≡ name = same-bytes_eq (codes "#" ++ name) name is in
        let long : length (codes "#" ++ name) ≡ length name = ap length same in
        let more : length (codes "#" ++ name) ≡ length (codes "#") + length name = length-append (codes "#") name in
        let one : length (codes "#") ≡ 1 = refl in
        absurd (omega (arith, long, more, one))
inline-apart t told name (Some own) apart = by_test (bytes_eq own name) refl
  where
    not : bytes_eq name own ≡ false
    not = not-refused (bytes_eq name own) (NameTaken name) apart

    by_test : (b : Bool) → bytes_eq own name ≡ b → b ≡ false
    by_test false is = refl
    by_test true is =
        let same : own ≡ name = same-bytes_eq own name is in
        let yes : bytes_eq name own ≡ true = ap (bytes_eq name) same ∙ bytes_eq-same name in
        absurd (false≢true (sym not ∙ yes))

-- ---- the `file` node is there

module _ (t : RunTable) (nodes : Nodes) (alike : AreNodesOf t nodes) (joined : IsJoined nodes) (told : Told) (c : Adding) (file : InlineFile (List ℕ))
    (device : Taken) (between : Nodes) (node : ℕ) (has : HasInline c file device nodes between node) (room : length t.nodes + 2 ≤ 64)
    (length-is : TellsShort told device.size) where
  abbrev pub row : NodeRecord
  row = inline_row t told c.node_name file

  abbrev pub unsized : NodeRecord
  unsized = inline_row t told_none c.node_name file

  abbrev pub t1 : RunTable
  t1 = changed t (AddFile row)

  abbrev own : Row
  own = record { driver = driver.File; size = device.size; is_read_only = is_read_only file.options }

  few : length t.nodes < 64
  few = omega (arith, room)

  pub node-is : free_id t ≡ node
  node-is = lowest-same (ids nodes.graph) (free_id t) node (free-lowest t nodes alike joined few) has.lowest

  has' : HasInline c file device nodes between (free_id t)
  has' = subst (HasInline c file device nodes between) (sym node-is) has

  size-is : length_told told ≡ device.size
  size-is = ap (λ (n : Option ℕ). unwrap_or n 0) length-is.is

  pub alike-then : AreNodesOf t1 between
  alike-then =
      alike-filed t nodes alike joined row own (free_fresh t (omega (arith, room))) between has'.joined
      (record {
        kind = refl;
        size = size-is;
        access = refl;
        place = refl;
        small = subst (λ (n : ℕ). n ≤ most_length) (sym size-is) length-is.short;
      })
      (ap (λ (n : Nodes). n.graph.nodes) has'.is) (ap (λ (n : Nodes). n.rows) has'.is) (ap (λ (n : Nodes). n.graph.edges) has'.is)

  rows-then : t1.nodes ≡ t.nodes ++ row ∷ []
  unfolding changed
  rows-then = refl

  edges-then : t1.edges ≡ refreshed (kinds_of (t.nodes ++ row ∷ [])) t.edges
  unfolding changed
  edges-then = refl

  pub row-then : node_by_id t1 (free_id t) ≡ Some row
  row-then =
      ap (find (λ (r : NodeRecord). r.id == free_id t)) rows-then
      ∙ found-new (λ (r : NodeRecord). r.id == free_id t) t.nodes row (free_fresh t (omega (arith, room))) (eq-eqb (free_id t) (free_id t) refl)

  pub room-then : length t1.nodes + 1 ≤ 64
  room-then =
      let more : length t1.nodes ≡ length t.nodes + 1 = ap length rows-then ∙ length-append t.nodes (row ∷ []) in
      omega (arith, more, room)

  pub file-then : IsFile between node
  file-then = subst (IsFile between) node-is (file-of t1 between (free_id t) row alike-then row-then refl)

  pub size-then : node_size between node ≡ device.size
  size-then = ap (node_size between) (sym node-is) ∙ size-alike t1 between (free_id t) row alike-then row-then ∙ size-is

  pub place-then : node_named t c.node_name ≡ None → holds t told (ask.Apart c.node_name file.node_name) ≡ None → HasRoomForNode between c.node_name
  place-then fresh apart =
      place-of t1 between c.node_name 1 alike-then
      (ap (find (λ (r : NodeRecord). bytes_eq r.name c.node_name)) rows-then
      ∙ none-last (λ (r : NodeRecord). bytes_eq r.name c.node_name) t.nodes row fresh (inline-apart t told c.node_name file.node_name apart))
      (omega arith) room-then

  -- the next free id
  pub next-then : next_free_id t ≡ free_id t1
  next-then = ap lowest_free (sym (ap (map id_of) rows-then ∙ map-append id_of t.nodes (row ∷ [])))

  -- what is judged of rows without sizes holds of these
  pub kinds-then : kinds_of (t.nodes ++ unsized ∷ []) ≡ kinds_of t1.nodes
  kinds-then = kinds-last t.nodes unsized row refl refl ∙ ap kinds_of (sym rows-then)

  pub ids-then : map id_of (t.nodes ++ unsized ∷ []) ≡ map id_of t1.nodes
  ids-then = ids-last t.nodes unsized row refl ∙ ap (map id_of) (sym rows-then)

  pub edges-same : refreshed (kinds_of (t.nodes ++ unsized ∷ [])) t.edges ≡ t1.edges
  edges-same = ap (λ (k : List NodeKind). refreshed k t.edges) (kinds-last t.nodes unsized row refl refl) ∙ sym edges-then
