-- Behind an accepted command edges may still be drawn.
use Rattle.std.proofs.Common.{◌≡◌, ◌⊎◌, ℕ, zero, suc, ◌+◌, ◌-◌, ◌<◌, ◌≤◌, Bool, true, false, cond, List, [], ◌∷◌, ◌++◌, map, replicate, length, refl, sym, ap, subst, ◌∙◌, inl, inr, arith, Option, Some, None, option_map}
use Rattle.std.specs.Prelude.{◌==◌, ◌||◌, bytes_eq, slice_set, unwrap_or, IsSome}
use Rattle.std.specs.List.{Contains, find, list_any}
use Rattle.std.proofs.lemmas.Bool.{false≢true, eqb-true, leb-false, cases_eq}
use Rattle.std.proofs.lemmas.List.{length-append, length-map, map-append}
use Rattle.blk_graph.specs.declared.edge.Conflict.{Conflict}
use Rattle.blk_graph.specs.declared.edge.Edge.{Edge}
use Rattle.blk_graph.specs.declared.edge.Role.TheVariants.{File}
use Rattle.blk_graph.specs.declared.kind.NodeKind.{NodeKind}
use Rattle.blk_graph.specs.Edits.{with_edge}
use Rattle.blk_graph.specs.Permissions.{node_edge}
use Rattle.blk_graph.specs.Refreshed.{no_kind, refreshed}
use Rattle.blk_graph.specs.Rule.{KeepsPermissions, first_conflict}
use Rattle.blk_graph.proofs.IdLemmas.{length-taken}
use Rattle.blk_graph.proofs.ListLemmas.{judged-None}
use Rattle.blk_graph.proofs.Members.{Contains-here, Contains-there, find-Some, map-Contains}
use Rattle.qmp_codec.specs.Commands.{Cmd, SeenSources}
use Rattle.qmp_codec.specs.declared.command.Command.TheVariants as command
use Rattle.qmp_codec.specs.declared.nodes.FileRef.{FileRef}
use Rattle.qmp_codec.specs.declared.nodes.FileRef.TheVariants as file_ref
use Rattle.qmp_codec.specs.declared.nodes.AddRaw.{AddRaw}
use Rattle.qmp_codec.specs.declared.nodes.Added.{Added}
use Rattle.qmp_codec.specs.declared.nodes.Added.TheVariants as added
use Rattle.qmp_codec.specs.declared.nodes.Created.{Created}
use Rattle.qmp_codec.specs.declared.nodes.Created.TheVariants as created
use Rattle.qmp_codec.specs.declared.nodes.DeviceAdd.{DeviceAdd}
use Rattle.qmp_asks.specs.declared.ask.Ask.TheVariants as ask
use Rattle.qmp_asks.specs.CommandAsks.{asks_of, negotiates}
use Rattle.qmp_asks.specs.Values.{flag_or_false}
use Rattle.qmp_asks.specs.NodeAsks.{add_values, add_names, added_rest, raw_rest, qcow2_rest, is_read_only, backing_name}
use Rattle.qmp_rules.specs.declared.change.Change.{Change}
use Rattle.qmp_rules.specs.declared.change.Change.TheVariants as change
use Rattle.qmp_rules.specs.declared.rows.NodeRecord.{NodeRecord}
use Rattle.qmp_rules.specs.declared.rows.AskedEnd.{AskedEnd}
use Rattle.qmp_rules.specs.declared.rows.AskedEnd.TheVariants as asked
use Rattle.qmp_rules.specs.declared.rows.DeviceRow.{DeviceRow}
use Rattle.qmp_rules.specs.declared.rows.JobRecord.{JobRecord}
use Rattle.qmp_rules.specs.declared.told.Told.{Told}
use Rattle.qmp_rules.specs.Answers.{told_none, conflict_refusal, conflict_in, is_joined, conflict_after, unbuilt, out_of_turn, refusal_behind, refusal_to, command_edits}
use Rattle.qmp_rules.specs.Asks.{holds, first_unmet_ask, is_file}
use Rattle.qmp_rules.specs.Changes.{changed, all_changed, node_changed, unsettled, with_format_edges}
use Rattle.qmp_rules.specs.Edits.{node_ids, free_id, next_free_id, place_from, unused_from, device_number, file_uses, file_under, goes_with_node, with_inline, row_gone, created_change, raw_edits, qcow2_edits, added_edits, of_row, device_uses, new_device, device_add_edits, edits_of, merges, asked_by_cancel}
use Rattle.qmp_rules.specs.Table.{RunTable, device_named, job_named, node_named, node_by_id, kind_of_record, kinds_from, kinds_of}
use Rattle.flat_machine.specs.Replies.{begins_job}
use Rattle.flat_machine.specs.Suiting.{AllTableSuit}
use Rattle.flat_machine.specs.Wiring.{TableStands, TableAtRest}
use Rattle.flat_machine.proofs.Asked.{none-both, not-refused, NoneHolds, none-holds, none-behind, room-left}
use Rattle.flat_machine.proofs.RowKinds.{kinds-mapped}
use Rattle.flat_machine.proofs.TableRests.{command_rests, table_keeps}
use Rattle.job_tables.specs.Accepted.{JobsAreDrawn}
use Rattle.job_tables.proofs.Commands.{accepted_leave, others_keep_jobs}
use Rattle.job_tables.proofs.DrawnChanges.{IsDerived, derived_of, drawn_of, AllHaveSmallNumbers, AllTakeEdges, attach_derived, move_derived, changes_derived, changes_ruled}
use Rattle.job_tables.proofs.Slots.{lowest_below}
use Rattle.job_tables.proofs.StartCommands.{accepted_start_drawn}

-- ---- numbers

pub free_below : (t : RunTable) → length t.nodes + 1 ≤ 64 → free_id t < 64
free_below t room =
    let same : length (node_ids t) ≡ length t.nodes = simp length-map in
    lowest_below 64 (node_ids t) (omega arith)

next_below : (t : RunTable) → length t.nodes + 2 ≤ 64 → next_free_id t < 64
next_below t room =
    let same : length (node_ids t) ≡ length t.nodes = simp length-map in
    lowest_below 64 (node_ids t ++ free_id t ∷ []) (omega (arith, length-append (node_ids t) (free_id t ∷ [])))

fewer : (n : ℕ) → n + 2 ≤ 64 → n + 1 ≤ 64
fewer n h = omega arith

-- ---- what a command adds

module _ (t : RunTable) (told exp : Told) (name : List ℕ) (read_only : Bool) where
  raw_small : (raw : AddRaw (List ℕ)) (file : FileRef (List ℕ)) → NoneHolds t told (raw_rest name read_only raw file)
      → AllHaveSmallNumbers (raw_edits t exp name read_only raw file)
  raw_small raw (file_ref.Name file) asks = (free_below t (room-left t told 1 asks.1.1.0), tt)
  raw_small raw (file_ref.Inline file) asks =
      let room = room-left t told 2 asks.1.1.1.0 in (free_below t (fewer (length t.nodes) room), (next_below t room, tt))

  qcow2_small : (back : Option (List ℕ)) (file : FileRef (List ℕ)) → NoneHolds t told (qcow2_rest name read_only back file)
      → AllHaveSmallNumbers (qcow2_edits t exp name read_only back file)
  qcow2_small back (file_ref.Name file) asks = (free_below t (room-left t told 1 asks.1.1.1.0), tt)
  qcow2_small back (file_ref.Inline file) asks =
      let room = room-left t told 2 asks.1.1.1.1.0 in (free_below t (fewer (length t.nodes) room), (next_below t room, tt))

  added_small : (driver : Added (List ℕ)) → NoneHolds t told (added_rest name read_only driver) → AllHaveSmallNumbers (added_edits t exp name read_only driver)
  added_small (added.File filename) asks = (free_below t (room-left t told 1 asks.1.0), tt)
  added_small (added.Raw raw) asks = raw_small raw raw.file asks
  added_small (added.Qcow2 image) asks = qcow2_small (backing_name image.backing) image.file asks
  added_small (added.CopyOnRead file) asks = (free_below t (room-left t told 1 asks.1.1.0), tt)
  added_small added.Unknown asks = tt

-- ---- a device's number

place_less : (k : ℕ) (name : List ℕ) (names : List (List ℕ)) (place : ℕ) → place_from k name names ≡ Some place → place < k + length names
place_less k name [] place is = absurd (let bad : None ≡ Some place = is in cc bad)
place_less k name (other ∷ names) place is = by_test (bytes_eq other name) is (place_less (k + 1) name names place)
  where
    by_test : (b : Bool) → cond b (Some k) (place_from (k + 1) name names) ≡ Some place
        → (place_from (k + 1) name names ≡ Some place → place < (k + 1) + length names) → place < k + suc (length names)
    by_test true e rest = let same : k ≡ place = cc e in omega arith
    by_test false e rest = let less = rest e in omega arith

unused_less : (more k : ℕ) (devices : List DeviceRow) → (n : ℕ) → k ≤ n → list_any (λ d. d.number == n) devices ≡ false → unused_from more k devices ≤ n
unused_less zero k devices n low free = low
unused_less (suc more) k devices n low free = by_test (list_any (λ d. d.number == k) devices) refl (unused_less more (k + 1) devices n)
  where
    by_test : (b : Bool) → list_any (λ d. d.number == k) devices ≡ b → (k + 1 ≤ n → list_any (λ d. d.number == n) devices ≡ false → unused_from more (k + 1) devices ≤ n)
        → cond b (unused_from more (k + 1) devices) k ≤ n
    by_test false e rest = low
    by_test true e rest = rest (by_case (cases_eq n k)) free
      where
        by_case : ((n ≡ k) ⊎ (n ≡ k → ⊥)) → k + 1 ≤ n
        by_case (inl same) = absurd (false≢true (sym free ∙ ap (λ m. list_any (λ (d : DeviceRow). d.number == m) devices) same ∙ e))
        by_case (inr differ) = omega arith

-- of so many numbers one is no device's
record IsUnused (k count : ℕ) (devices : List DeviceRow) : Type 0 where
  number : ℕ
  least : k ≤ number
  most : number < k + count
  free : list_any (λ d. d.number == number) devices ≡ false

unused_in : (count k : ℕ) (devices : List DeviceRow) → IsUnused k count devices ⊎ ((n : ℕ) → k ≤ n → n < k + count → list_any (λ d. d.number == n) devices ≡ true)
unused_in zero k devices = inr (λ n low high. absurd (omega arith))
unused_in (suc count) k devices = by_test (list_any (λ d. d.number == k) devices) refl (unused_in count (k + 1) devices)
  where
    Both : ℕ → ℕ → Type 0
    Both from more = IsUnused from more devices ⊎ ((n : ℕ) → from ≤ n → n < from + more → list_any (λ d. d.number == n) devices ≡ true)

    by_test : (b : Bool) → list_any (λ d. d.number == k) devices ≡ b → Both (k + 1) count → Both k (suc count)
    by_test false e rest = inl (record { number = k; least = omega arith; most = omega arith; free = e })
    by_test true e (inl f) = inl (record { number = f.number; least = less f.number f.least; most = more f.number f.most; free = f.free })
      where
        less : (n : ℕ) → k + 1 ≤ n → k ≤ n
        less n h = omega arith

        more : (n : ℕ) → n < (k + 1) + count → n < k + suc count
        more n h = omega arith
    by_test true e (inr all) = inr (λ n low high. at_least n (cases_eq n k) low high)
      where
        at_least : (n : ℕ) → ((n ≡ k) ⊎ (n ≡ k → ⊥)) → k ≤ n → n < k + suc count → list_any (λ d. d.number == n) devices ≡ true
        at_least n (inl same) low high = rw same e
        at_least n (inr differ) low high = all n (omega arith) (omega arith)

number_there : (n : ℕ) (devices : List DeviceRow) → list_any (λ d. d.number == n) devices ≡ true → Contains (map (λ (d : DeviceRow). d.number) devices) n
number_there n [] h = absurd (false≢true h)
number_there n (d ∷ devices) h = by_test (d.number == n) refl h (number_there n devices)
  where
    by_test : (b : Bool) → (d.number == n) ≡ b → (b || list_any (λ (x : DeviceRow). x.number == n) devices) ≡ true
        → (list_any (λ (x : DeviceRow). x.number == n) devices ≡ true → Contains (map (λ (x : DeviceRow). x.number) devices) n)
        → Contains (d.number ∷ map (λ (x : DeviceRow). x.number) devices) n
    by_test true e any rest =
        subst (Contains (d.number ∷ map (λ (x : DeviceRow). x.number) devices)) (eqb-true d.number n e) (Contains-here d.number (map (λ (x : DeviceRow). x.number) devices))
    by_test false e any rest = Contains-there d.number (map (λ (x : DeviceRow). x.number) devices) n (rest any)

unused_below : (k : ℕ) (devices : List DeviceRow) → length devices < 64 → unused_from 64 k devices < k + 64
unused_below k devices few = by_cases (unused_in 64 k devices)
  where
    less : (a b c : ℕ) → a ≤ b → b < c → a < c
    less a b c h i = omega arith

    by_cases : IsUnused k 64 devices ⊎ ((n : ℕ) → k ≤ n → n < k + 64 → list_any (λ d. d.number == n) devices ≡ true) → unused_from 64 k devices < k + 64
    by_cases (inl f) = less (unused_from 64 k devices) f.number (k + 64) (unused_less 64 k devices f.number f.least f.free) f.most
    by_cases (inr all) =
        let many : 64 ≤ length (map (λ n. n - k) (map (λ (d : DeviceRow). d.number) devices)) =
        length-taken 64 (map (λ n. n - k) (map (λ (d : DeviceRow). d.number) devices))
        (λ n below.
        let there = map-Contains (λ m. m - k) (map (λ (d : DeviceRow). d.number) devices) (k + n) (number_there (k + n) devices (all (k + n) (omega arith) (omega arith))) in
        let back : (k + n) - k ≡ n = omega arith in
        subst (Contains (map (λ m. m - k) (map (λ (d : DeviceRow). d.number) devices))) back there) in
        let shorter : length (map (λ n. n - k) (map (λ (d : DeviceRow). d.number) devices)) ≡ length (map (λ (d : DeviceRow). d.number) devices) = simp length-map in
        let as_many : length (map (λ (d : DeviceRow). d.number) devices) ≡ length devices = simp length-map in
        absurd (omega arith)

device_below : (t : RunTable) (told : Told) (id : List ℕ) → length t.guests ≤ 16 → holds t told ask.RoomForDevice ≡ None → device_number t id < 80
unfolding holds
device_below t told id guests room = by_place (place_from 0 id t.guests) refl
  where
    few : length t.devices < 64
    few = leb-false 64 (length t.devices) (not-refused _ _ room)

    by_place : (place : Option ℕ) → place_from 0 id t.guests ≡ place → unwrap_or place (unused_from 64 (length t.guests) t.devices) < 80
    by_place None e = let below = unused_below (length t.guests) t.devices few in omega arith
    by_place (Some place) e = let below = place_less 0 id t.guests place e in omega arith

-- ---- tables that look the same to the rule

record SameGraph (a b : RunTable) : Type 0 where
  kinds : kinds_of a.nodes ≡ kinds_of b.nodes
  ids : node_ids a ≡ node_ids b
  edges : a.edges ≡ b.edges

-- rows of one id and kind
record SameSeen (a b : NodeRecord) : Type 0 where
  id : a.id ≡ b.id
  kind : kind_of_record a ≡ kind_of_record b

kinds_push : (rows : List NodeRecord) (new : NodeRecord) (kinds : List NodeKind)
    → kinds_from kinds (rows ++ new ∷ []) ≡ slice_set (kinds_from kinds rows) new.id (kind_of_record new)
kinds_push [] new kinds = refl
kinds_push (row ∷ rows) new kinds = kinds_push rows new (slice_set kinds row.id (kind_of_record row))

pushed_kinds : (xs ys : List NodeRecord) (a b : NodeRecord) → kinds_of xs ≡ kinds_of ys → SameSeen a b → kinds_of (xs ++ a ∷ []) ≡ kinds_of (ys ++ b ∷ [])
pushed_kinds xs ys a b same seen =
    kinds_push xs a (replicate 64 no_kind)
    ∙ ap (λ ks. slice_set ks a.id (kind_of_record a)) same ∙ ap (λ i. slice_set (kinds_of ys) i (kind_of_record a)) seen.id
    ∙ ap (λ k. slice_set (kinds_of ys) b.id k) seen.kind ∙ sym (kinds_push ys b (replicate 64 no_kind))

pushed_ids : (xs ys : List NodeRecord) (a b : NodeRecord) → map (λ (r : NodeRecord). r.id) xs ≡ map (λ (r : NodeRecord). r.id) ys → SameSeen a b
    → map (λ (r : NodeRecord). r.id) (xs ++ a ∷ []) ≡ map (λ (r : NodeRecord). r.id) (ys ++ b ∷ [])
pushed_ids xs ys a b same seen =
    map-append (λ (r : NodeRecord). r.id) xs (a ∷ []) ∙ ap (λ ids. ids ++ a.id ∷ []) same
    ∙ ap (λ id. map (λ (r : NodeRecord). r.id) ys ++ id ∷ []) seen.id ∙ sym (map-append (λ (r : NodeRecord). r.id) ys (b ∷ []))

id_unsettled : (node : ℕ) (row : NodeRecord) → (node_changed node unsettled row).id ≡ row.id
id_unsettled node row = by_test (row.id == node)
  where
    by_test : (b : Bool) → (cond b (unsettled row) row).id ≡ row.id
    by_test true = refl
    by_test false = refl

kind_unsettled : (node : ℕ) (row : NodeRecord) → kind_of_record (node_changed node unsettled row) ≡ kind_of_record row
kind_unsettled node row = by_test (row.id == node)
  where
    by_test : (b : Bool) → kind_of_record (cond b (unsettled row) row) ≡ kind_of_record row
    by_test true = refl
    by_test false = refl

mapped_ids : (node : ℕ) (rows : List NodeRecord) → map (λ (r : NodeRecord). r.id) (map (node_changed node unsettled) rows) ≡ map (λ (r : NodeRecord). r.id) rows
mapped_ids node [] = refl
mapped_ids node (row ∷ rows) = ap (λ id. id ∷ map (λ (r : NodeRecord). r.id) (map (node_changed node unsettled) rows)) (id_unsettled node row) ∙ ap (λ ids. row.id ∷ ids) (mapped_ids node rows)

mapped_kinds : (node : ℕ) (rows : List NodeRecord) → kinds_of (map (node_changed node unsettled) rows) ≡ kinds_of rows
mapped_kinds node rows = kinds-mapped (node_changed node unsettled) (id_unsettled node) (kind_unsettled node) rows (replicate 64 no_kind)

same_file : (a b : RunTable) (x y : NodeRecord) → SameGraph a b → SameSeen x y → SameGraph (changed a (change.AddFile x)) (changed b (change.AddFile y))
unfolding changed
same_file a b x y g seen =
    let kinds = pushed_kinds a.nodes b.nodes x y g.kinds seen in
    record { kinds = kinds; ids = pushed_ids a.nodes b.nodes x y g.ids seen; edges = ap (λ ks. refreshed ks a.edges) kinds ∙ ap (refreshed (kinds_of (b.nodes ++ y ∷ []))) g.edges }

same_filter : (a b : RunTable) (x y : NodeRecord) (child : ℕ) → SameGraph a b → SameSeen x y → SameGraph (changed a (change.AddFilter x child)) (changed b (change.AddFilter y child))
unfolding changed
same_filter a b x y child g seen =
    let kinds = pushed_kinds a.nodes b.nodes x y g.kinds seen in
    record {
      kinds = kinds;
      ids = pushed_ids a.nodes b.nodes x y g.ids seen;
      edges = ap (λ ks. refreshed ks (with_edge (node_edge x.id File child) a.edges)) kinds
          ∙ ap (λ es. refreshed (kinds_of (b.nodes ++ y ∷ [])) (with_edge (node_edge x.id File child) es)) g.edges
          ∙ ap (λ id. refreshed (kinds_of (b.nodes ++ y ∷ [])) (with_edge (node_edge id File child) b.edges)) seen.id;
    }

same_format : (a b : RunTable) (x y : NodeRecord) (file : ℕ) (backing : Option ℕ) → SameGraph a b → SameSeen x y
    → SameGraph (changed a (change.AddFormat x file backing)) (changed b (change.AddFormat y file backing))
unfolding changed
same_format a b x y file backing g seen =
    let xs : List NodeRecord = map (node_changed file unsettled) a.nodes in
    let ys : List NodeRecord = map (node_changed file unsettled) b.nodes in
    let kinds = pushed_kinds xs ys x y (mapped_kinds file a.nodes ∙ g.kinds ∙ sym (mapped_kinds file b.nodes)) seen in
    record {
      kinds = kinds;
      ids = pushed_ids xs ys x y (mapped_ids file a.nodes ∙ g.ids ∙ sym (mapped_ids file b.nodes)) seen;
      edges = ap (λ ks. refreshed ks (with_format_edges x.id file backing a.edges)) kinds
          ∙ ap (λ es. refreshed (kinds_of (ys ++ y ∷ [])) (with_format_edges x.id file backing es)) g.edges
          ∙ ap (λ id. refreshed (kinds_of (ys ++ y ∷ [])) (with_format_edges id file backing b.edges)) seen.id;
    }

same_self : (t : RunTable) → SameGraph t t
same_self t = record { kinds = refl; ids = refl; edges = refl }

seen_same : (a b : NodeRecord) → a.id ≡ b.id → kind_of_record a ≡ kind_of_record b → SameSeen a b
seen_same a b id kind = record { id = id; kind = kind }

module _ (t : RunTable) (exp other : Told) (name : List ℕ) (read_only : Bool) where
  raw_same : (raw : AddRaw (List ℕ)) (file : FileRef (List ℕ))
      → SameGraph (all_changed t (raw_edits t exp name read_only raw file)) (all_changed t (raw_edits t other name read_only raw file))
  raw_same raw (file_ref.Name file) = same_self _
  raw_same raw (file_ref.Inline file) =
      same_format (changed t (change.AddFile _)) (changed t (change.AddFile _)) _ _ (free_id t) None (same_file t t _ _ (same_self t) (seen_same _ _ refl refl)) (seen_same _ _ refl refl)

  qcow2_same : (back : Option (List ℕ)) (file : FileRef (List ℕ))
      → SameGraph (all_changed t (qcow2_edits t exp name read_only back file)) (all_changed t (qcow2_edits t other name read_only back file))
  qcow2_same back (file_ref.Name file) = same_format t t _ _ _ _ (same_self t) (seen_same _ _ refl refl)
  qcow2_same back (file_ref.Inline file) =
      same_format (changed t (change.AddFile _)) (changed t (change.AddFile _)) _ _ (free_id t) _ (same_file t t _ _ (same_self t) (seen_same _ _ refl refl)) (seen_same _ _ refl refl)

  added_same : (driver : Added (List ℕ)) → SameGraph (all_changed t (added_edits t exp name read_only driver)) (all_changed t (added_edits t other name read_only driver))
  added_same (added.File filename) = same_file t t _ _ (same_self t) (seen_same _ _ refl refl)
  added_same (added.Raw raw) = raw_same raw raw.file
  added_same (added.Qcow2 image) = qcow2_same (backing_name image.backing) image.file
  added_same (added.CopyOnRead file) = same_self _
  added_same added.Unknown = same_self _

-- ---- the rule, where it was looked at

conflict_none : (t : RunTable) (found : Option Conflict) → option_map (conflict_refusal t) found ≡ None → found ≡ None
conflict_none t None h = refl
conflict_none t (Some pair) h = absurd cc

pub quiet_first : (t : RunTable) → conflict_in t ≡ None → first_conflict (node_ids t) t.edges ≡ None
unfolding conflict_in
quiet_first t quiet = conflict_none t (first_conflict (node_ids t) t.edges) quiet

pub ruled_by : (t : RunTable) → TableStands t → first_conflict (node_ids t) t.edges ≡ None → KeepsPermissions t.edges
ruled_by t h none = (judged-None (node_ids t) t.edges none children).0 refl
  where
    children : (e : Edge) → Contains t.edges e → Contains (node_ids t) e.child
    children e there = by_found (node_by_id t e.child) refl (h.edges e there).child
      where
        by_found : (found : Option NodeRecord) → node_by_id t e.child ≡ found → IsSome found → Contains (node_ids t) e.child
        by_found None is some = absurd (let bad = some in cc)
        by_found (Some row) is some =
            let at = find-Some (λ (x : NodeRecord). x.id == e.child) t.nodes row is in
            subst (Contains (node_ids t)) (eqb-true row.id e.child at.1) (map-Contains (λ (x : NodeRecord). x.id) t.nodes row at.0)

-- ---- changes that put no edge

uses_take : (name : Option (List ℕ)) (changes : List Change) → AllTakeEdges changes → AllTakeEdges (file_uses name ++ changes)
uses_take None changes h = h
uses_take (Some name) changes h = (tt, h)

uses_small : (name : Option (List ℕ)) (changes : List Change) → AllHaveSmallNumbers changes → AllHaveSmallNumbers (file_uses name ++ changes)
uses_small None changes h = h
uses_small (Some name) changes h = (tt, h)

inline_take : (found : Option NodeRecord) → AllTakeEdges (elim found as (λ _. List Change) [ None ↦ [] | Some row ↦ change.RemoveNode row.id ∷ [] ])
inline_take None = tt
inline_take (Some row) = (tt, tt)

inline_small : (found : Option NodeRecord) → AllHaveSmallNumbers (elim found as (λ _. List Change) [ None ↦ [] | Some row ↦ change.RemoveNode row.id ∷ [] ])
inline_small None = tt
inline_small (Some row) = (tt, tt)

pub del_take : (t : RunTable) (found : Option NodeRecord) → AllTakeEdges (of_row (row_gone t) found)
del_take t None = tt
del_take t (Some row) = uses_take (file_under t row) (change.RemoveNode row.id ∷ with_inline t row.id) (tt, inline_take (find (goes_with_node row.id) t.nodes))

del_small : (t : RunTable) (found : Option NodeRecord) → AllHaveSmallNumbers (of_row (row_gone t) found)
del_small t None = tt
del_small t (Some row) = uses_small (file_under t row) (change.RemoveNode row.id ∷ with_inline t row.id) (tt, inline_small (find (goes_with_node row.id) t.nodes))

pub device_gone_take : (found : Option DeviceRow) → AllTakeEdges (elim found as (λ _. List Change) [ None ↦ [] | Some device ↦ change.RemoveDevice device.number ∷ [] ])
device_gone_take None = tt
device_gone_take (Some device) = (tt, tt)

device_gone_small : (found : Option DeviceRow) → AllHaveSmallNumbers (elim found as (λ _. List Change) [ None ↦ [] | Some device ↦ change.RemoveDevice device.number ∷ [] ])
device_gone_small None = tt
device_gone_small (Some device) = (tt, tt)

pub created_take : (t : RunTable) (options : Created (List ℕ)) → AllTakeEdges (created_change t options)
created_take t (created.File c) = (tt, tt)
created_take t (created.Qcow2 c) = (tt, tt)
created_take t created.Unknown = tt

created_small : (t : RunTable) (options : Created (List ℕ)) → AllHaveSmallNumbers (created_change t options)
created_small t (created.File c) = (tt, tt)
created_small t (created.Qcow2 c) = (tt, tt)
created_small t created.Unknown = tt

pub merges_take : (t : RunTable) (node target : List ℕ) (sources : SeenSources) → AllTakeEdges (merges t node target sources)
merges_take t node target [] = tt
merges_take t node target (s ∷ sources) = (tt, merges_take t node target sources)

merges_small : (t : RunTable) (node target : List ℕ) (sources : SeenSources) → AllHaveSmallNumbers (merges t node target sources)
merges_small t node target [] = tt
merges_small t node target (s ∷ sources) = (tt, merges_small t node target sources)

asked_take : (ask : JobRecord → AskedEnd) (found : Option JobRecord)
    → AllTakeEdges (elim found as (λ _. List Change) [ None ↦ [] | Some job ↦ change.AskJob job.number (ask job) ∷ [] ])
asked_take ask None = tt
asked_take ask (Some job) = (tt, tt)

asked_small : (ask : JobRecord → AskedEnd) (found : Option JobRecord)
    → AllHaveSmallNumbers (elim found as (λ _. List Change) [ None ↦ [] | Some job ↦ change.AskJob job.number (ask job) ∷ [] ])
asked_small ask None = tt
asked_small ask (Some job) = (tt, tt)

device_small : (t : RunTable) (c : DeviceAdd (List ℕ)) → device_number t c.id < 80 → (found : Option NodeRecord)
    → AllHaveSmallNumbers (of_row (λ row. device_uses row ++ change.AddDevice (new_device t c row) row.id ∷ []) found)
device_small t c small None = tt
device_small t c small (Some row) = by_use (is_file row)
  where
    by_use : (b : Bool) → AllHaveSmallNumbers (cond b (file_uses row.filename) [] ++ change.AddDevice (new_device t c row) row.id ∷ [])
    by_use true = uses_small row.filename (change.AddDevice (new_device t c row) row.id ∷ []) (small, tt)
    by_use false = (small, tt)

-- ---- every command

-- no edge is put, or the rule was looked at
abbrev IsRuled : RunTable → List Change → Type 0
IsRuled t changes = AllTakeEdges changes ⊎ (first_conflict (node_ids (all_changed t changes)) (all_changed t changes).edges ≡ None)

module _ (t : RunTable) (told exp : Told) (rests : TableAtRest t) (g : JobsAreDrawn t) (guests : length t.guests ≤ 16) where
  same_first : (a b : RunTable) → SameGraph a b → first_conflict (node_ids b) b.edges ≡ None → first_conflict (node_ids a) a.edges ≡ None
  same_first a b s none = ap (λ ids. first_conflict ids a.edges) s.ids ∙ ap (first_conflict (node_ids b)) s.edges ∙ none

  added_ruled : (name : List ℕ) (read_only : Bool) (driver : Added (List ℕ)) → conflict_after (is_joined driver) t (added_edits t told_none name read_only driver) ≡ None
      → IsRuled t (added_edits t exp name read_only driver)
  added_ruled name read_only (added.File filename) quiet = inl (tt, tt)
  added_ruled name read_only (added.Raw raw) quiet = inr (same_first _ _ (added_same t exp told_none name read_only (added.Raw raw)) (quiet_first _ quiet))
  added_ruled name read_only (added.Qcow2 image) quiet = inr (same_first _ _ (added_same t exp told_none name read_only (added.Qcow2 image)) (quiet_first _ quiet))
  added_ruled name read_only (added.CopyOnRead file) quiet = inr (same_first _ _ (added_same t exp told_none name read_only (added.CopyOnRead file)) (quiet_first _ quiet))
  added_ruled name read_only added.Unknown quiet = inl tt

  abbrev Drawn : List Change → Type 0
  Drawn changes = AllHaveSmallNumbers changes × IsRuled t changes

  -- one that begins no job
  commands_drawn : (c : Cmd) → begins_job c ≡ false → refusal_to t told c ≡ None → Drawn (command_edits t exp c)
  unfolding refusal_to asks_of edits_of
  commands_drawn c begins h =
      let known = none-both (unbuilt c) _ h in
      let turn = none-both (out_of_turn (negotiates c) t.negotiated) _ known.1 in
      let asks = none-both (first_unmet_ask t told (asks_of c)) (refusal_behind t told c) turn.1 in
      by_command c begins known.0 (none-holds t told (asks_of c) asks.0) asks.1
    where
      by_command : (c : Cmd) → begins_job c ≡ false → unbuilt c ≡ None → NoneHolds t told (asks_of c) → refusal_behind t told c ≡ None → Drawn (command_edits t exp c)
      by_command (command.Capabilities enable) begins is asks quiet = ((tt, tt), inl (tt, tt))
      by_command (command.BlockdevCreate c) begins is asks quiet = ((tt, created_small t c.options), inl (tt, created_take t c.options))
      by_command (command.JobDismiss id) begins is asks quiet = ((tt, tt), inl (tt, tt))
      by_command (command.BlockdevAdd c) begins is asks quiet = (
        added_small t told exp c.node_name (is_read_only c.options) c.driver
            (none-behind t told (add_values c ++ add_names c) (added_rest c.node_name (is_read_only c.options) c.driver) asks),
        added_ruled c.node_name (is_read_only c.options) c.driver quiet,
      )
      by_command (command.BlockdevDel name) begins is asks quiet = (del_small t (node_named t name), inl (del_take t (node_named t name)))
      by_command (command.DeviceAdd c) begins is asks quiet = (
        device_small t c (device_below t told c.id guests asks.1.1.1.1.1.1.0) (node_named t c.drive),
        inr (quiet_first (all_changed t (device_add_edits t c)) quiet),
      )
      by_command (command.BlockdevSnapshot c) begins is asks quiet = ((tt, (tt, tt)), inr (quiet_first (all_changed t (command_edits t exp (command.BlockdevSnapshot c))) quiet))
      by_command (command.DeviceDel id) begins is asks quiet = (device_gone_small (device_named t id), inl (device_gone_take (device_named t id)))
      by_command (command.BlockJobCancel job force) begins is asks quiet = (
        asked_small (asked_by_cancel (flag_or_false force)) (job_named t job),
        inl (asked_take (asked_by_cancel (flag_or_false force)) (job_named t job)),
      )
      by_command (command.BlockJobComplete job) begins is asks quiet = (
        asked_small (λ row. asked.Complete) (job_named t job),
        inl (asked_take (λ row. asked.Complete) (job_named t job)),
      )
      by_command command.QueryBlockJobs begins is asks quiet = (tt, inl tt)
      by_command (command.QueryNamedBlockNodes flat) begins is asks quiet = (tt, inl tt)
      by_command (command.BitmapAdd c) begins is asks quiet = ((tt, tt), inl (tt, tt))
      by_command (command.BitmapRemove c) begins is asks quiet = ((tt, tt), inl (tt, tt))
      by_command (command.BitmapClear c) begins is asks quiet = ((tt, tt), inl (tt, tt))
      by_command (command.BitmapEnable c) begins is asks quiet = ((tt, tt), inl (tt, tt))
      by_command (command.BitmapDisable c) begins is asks quiet = ((tt, tt), inl (tt, tt))
      by_command (command.BitmapMerge c) begins is asks quiet = (merges_small t c.node c.target c.bitmaps, inl (merges_take t c.node c.target c.bitmaps))
      by_command _ begins is asks quiet = absurd cc

  derived : IsDerived t
  derived = derived_of t g.edges g.small

  left_drawn : (c : Cmd) → begins_job c ≡ false → refusal_to t told c ≡ None → JobsAreDrawn (all_changed t (command_edits t exp c))
  left_drawn c begins h =
      let changes : List Change = command_edits t exp c in
      let both = command_rests t told exp c begins rests h in
      let how = commands_drawn c begins h in
      let goes = others_keep_jobs t told exp c rests g.jobs h begins in
      elim (accepted_leave t told exp c begins rests g.jobs.stand h) [
        | inl l ↦
            let d = changes_derived changes t rests.stands derived l.0 l.1.0 how.0 in
            record {
              jobs = goes;
              edges = drawn_of (all_changed t changes) both.1.stands d (elim how.1 [
                | inl takes ↦ changes_ruled changes t rests.stands derived l.0 l.1.0 how.0 takes g.edges.rule
                | inr none ↦ ruled_by (all_changed t changes) both.1.stands none
              ]);
              small = d.small;
            }
        | inr of ↦
            let suits : AllTableSuit t (change.Attach of.overlay of.node ∷ change.Move of.node of.overlay of.overlay ∷ []) = subst (AllTableSuit t) of.is both.0 in
            let first = attach_derived t rests.stands derived of.overlay of.node suits.0 in
            let last = move_derived (changed t (change.Attach of.overlay of.node)) (table_keeps t (change.Attach of.overlay of.node) suits.0 rests.stands) first of.node of.overlay of.overlay suits.1.0 in
            let d : IsDerived (all_changed t changes) = subst (λ (cs : List Change). IsDerived (all_changed t cs)) (sym of.is) last in
            record {
              jobs = goes;
              edges = drawn_of (all_changed t changes) both.1.stands d (elim how.1 [
                | inl takes ↦ absurd (never of.node of.overlay (subst AllTakeEdges of.is takes))
                | inr none ↦ ruled_by (all_changed t changes) both.1.stands none
              ]);
              small = d.small;
            }
      ]
    where
      never : (node overlay : ℕ) → AllTakeEdges (change.Attach overlay node ∷ change.Move node overlay overlay ∷ []) → ⊥
      never node overlay takes = takes.0

  pub accepted_drawn : (c : Cmd) → refusal_to t told c ≡ None → JobsAreDrawn (all_changed t (command_edits t exp c))
  accepted_drawn c h = by_start (begins_job c) refl
    where
      by_start : (b : Bool) → begins_job c ≡ b → JobsAreDrawn (all_changed t (command_edits t exp c))
      by_start true begins = accepted_start_drawn t told exp c rests.stands g begins h
      by_start false begins = left_drawn c begins h
