-- The text of an answer: it is printed as it stands and reads back, whatever the id and the result.
use Rattle.std.proofs.Common.{◌≡◌, ℕ, ◌<◌, ◌≤◌, Bool, true, false, List, [], ◌∷◌, refl, arith, Option, Some, None}
use Rattle.std.specs.Prelude.{max, option_and_then, codes, if◌then◌else◌, ◌==◌}
use Rattle.std.proofs.Common.{Ordering, Less, Equal, Greater}
use Rattle.std.specs.Ordering.{match_ordering, nat_cmp}
use Rattle.std.specs.Cmp.Lexicographic.{slice_cmp}
use Rattle.serde_json.specs.Data.{Data, null, boolean, number, string, array, object, item, Members, no_members, member, depth, items_depth, members_depth}
use Rattle.serde_json.specs.Find.{get, get_member}
use Rattle.serde_json.specs.Read.{read}
use Rattle.serde_json.specs.Written.{has_float, items_have_float}
use Rattle.serde_json.proofs.Nesting.{depth-read}
use Rattle.qmp_codec.specs.Commands.{Cmd}
use Rattle.qmp_codec.specs.declared.command.Command.TheVariants as command
use Rattle.qmp_codec.specs.declared.reply.Class.{Class}
use Rattle.qmp_codec.specs.Lines.{id_at, line_in, with_execute, unless_fraction}
use Rattle.qmp_codec.specs.Replies.{returned_data, refused_data}
use Rattle.qmp_rules.specs.declared.rows.BitmapRow.{BitmapRow}
use Rattle.qmp_rules.specs.declared.rows.JobRecord.{JobRecord}
use Rattle.qmp_rules.specs.declared.rows.NodeRecord.{NodeRecord}
use Rattle.qmp_rules.specs.declared.told.Told.{Told}
use Rattle.qmp_rules.specs.Table.{RunTable}
use Rattle.qmp_rules.specs.Queries.{jobs_data, jobs_items, nodes_data, nodes_items, bitmap_items, bitmap_data}
use Rattle.qmp_rules.specs.Answers.{returned}
use Rattle.world_parts.specs.Saying.{IsPrintable}

-- ---- ids

member-low : (k : List ℕ) (ms : Members) (d : Data) → get_member k ms ≡ Some d → depth d ≤ members_depth ms
member-low k no_members d is = absurd (let bad : ⊥ = cc is in bad)
member-low k (member l e ms) d is = at (slice_cmp nat_cmp k l) (λ found. member-low k ms d found) is
  where
    at : (o : Ordering) → (get_member k ms ≡ Some d → depth d ≤ members_depth ms)
        → match_ordering o (get_member k ms) (Some e) (get_member k ms) ≡ Some d → depth d ≤ max (depth e) (members_depth ms)
    at Less rest found = let low = rest found in omega arith
    at Equal rest found = let same : e ≡ d = cc found in rw (← same) (omega arith)
    at Greater rest found = let low = rest found in omega arith

inner-low : (k : List ℕ) (line d : Data) → get k line ≡ Some d → depth d < depth line
inner-low k null d is = absurd (let bad : ⊥ = cc is in bad)
inner-low k (boolean b) d is = absurd (let bad : ⊥ = cc is in bad)
inner-low k (number n) d is = absurd (let bad : ⊥ = cc is in bad)
inner-low k (string s) d is = absurd (let bad : ⊥ = cc is in bad)
inner-low k (array ds) d is = absurd (let bad : ⊥ = cc is in bad)
inner-low k (object ms) d is = let low = member-low k ms d is in omega arith

unless-plain : (o : Option Data) (d : Data) → option_and_then unless_fraction o ≡ Some d → (o ≡ Some d) × (has_float d ≡ false)
unless-plain None d is = absurd (let bad : ⊥ = cc is in bad)
unless-plain (Some e) d is = at (has_float e) refl is
  where
    at : (b : Bool) → has_float e ≡ b → (if b then None else Some e) ≡ Some d → (Some e ≡ Some d) × (has_float d ≡ false)
    at true known found = absurd (let bad : ⊥ = cc found in bad)
    at false known found = let same : e ≡ d = cc found in (found, rw (← same) known)

found-in : {A B : Type 0} (f : A → Option B) (o : Option A) (b : B) → option_and_then f o ≡ Some b → (a : A) × (o ≡ Some a) × (f a ≡ Some b)
found-in f None b is = absurd (let bad : ⊥ = cc is in bad)
found-in f (Some a) b is = (a, refl, is)

executed : (d e : Data) → with_execute d ≡ Some e → d ≡ e
executed d e is = at _ is
  where
    at : (b : Bool) → (if b then Some d else None) ≡ Some e → d ≡ e
    at true found = cc found
    at false found = absurd (let bad : ⊥ = cc found in bad)

pub id_plain : (given : List ℕ) (d : Data) → id_at given ≡ Some d → IsPrintable 126 d
unfolding id_at line_in
id_plain given d is =
    let outer = unless-plain (option_and_then (get (codes "id")) (option_and_then with_execute (read given))) d is in
    let inner = found-in (get (codes "id")) (option_and_then with_execute (read given)) d outer.0 in
    let whole = found-in with_execute (read given) inner.0 inner.1 in
    let same : whole.0 ≡ inner.0 = executed whole.0 inner.0 whole.2 in
    let line = depth-read given whole.0 whole.1 in
    let below = inner-low (codes "id") inner.0 d inner.2 in
    let deep : depth inner.0 ≤ 127 = rw same at line in
    record { whole = outer.1; low = omega arith }

-- ---- what commands give

bitmaps-plain : (node : ℕ) (rows : List BitmapRow) (counts : List ℕ) → (items_have_float (bitmap_items node rows counts) ≡ false) × (items_depth (bitmap_items node rows counts) ≤ 1)
bitmaps-plain node [] counts = (refl, omega arith)
bitmaps-plain node (row ∷ rows) [] = (refl, omega arith)
bitmaps-plain node (row ∷ rows) (dirty ∷ counts) =
    let rest = bitmaps-plain node rows counts in
    elim (row.node == node) as (λ b. (items_have_float (if b then item (bitmap_data row dirty) (bitmap_items node rows counts) else bitmap_items node rows counts) ≡ false)
    × (items_depth (if b then item (bitmap_data row dirty) (bitmap_items node rows counts) else bitmap_items node rows counts) ≤ 1)) [
      | true ↦ (rest.0, (let low = rest.1 in omega arith))
      | false ↦ rest
    ]

jobs-plain : (t : RunTable) (rows : List JobRecord) → (items_have_float (jobs_items t rows) ≡ false) × (items_depth (jobs_items t rows) ≤ 3)
jobs-plain t [] = (refl, omega arith)
jobs-plain t (row ∷ rows) = let rest = jobs-plain t rows in (rest.0, (let low = rest.1 in omega arith))

nodes-plain : (t : RunTable) (counts : List ℕ) (rows : List NodeRecord) → (items_have_float (nodes_items t counts rows) ≡ false) × (items_depth (nodes_items t counts rows) ≤ 3)
nodes-plain t counts [] = (refl, omega arith)
nodes-plain t counts (row ∷ rows) =
    let rest = nodes-plain t counts rows in
    let inner = bitmaps-plain row.id t.bitmaps counts in
    (rw (inner.0) rest.0, (let low = rest.1 in let least = inner.1 in omega arith))

pub returned_plain : (t : RunTable) (told : Told) (c : Cmd) → IsPrintable 126 (returned t told c)
unfolding jobs_data nodes_data
returned_plain t told command.QueryBlockJobs = let is = jobs-plain t t.jobs in record { whole = is.0; low = (let low = is.1 in omega arith) }
returned_plain t told (command.QueryNamedBlockNodes flat) = let is = nodes-plain t told.dirty t.nodes in record { whole = is.0; low = (let low = is.1 in omega arith) }
returned_plain t told _ = record { whole = refl; low = omega arith }

-- ---- answers

pub given_plain : (id : Option Data) (d : Data) → ((i : Data) → id ≡ Some i → IsPrintable 126 i) → IsPrintable 126 d → IsPrintable 127 (returned_data id d)
given_plain None d ids is = record { whole = rw is.whole refl; low = (let low = is.low in omega arith) }
given_plain (Some i) d ids is = let own = ids i refl in record { whole = rw (own.whole, is.whole) refl; low = (let low = is.low in let least = own.low in omega arith) }

pub refusal_plain : (id : Option Data) (class : Class) (desc : List ℕ) → ((i : Data) → id ≡ Some i → IsPrintable 126 i) → IsPrintable 127 (refused_data id class desc)
refusal_plain None class desc ids = record { whole = refl; low = omega arith }
refusal_plain (Some i) class desc ids = let own = ids i refl in record { whole = rw own.whole refl; low = (let least = own.low in omega arith) }
