-- What is wrong with the members of an object, those of objects inside it included.
use Rattle.std.specs.Prelude.{ℕ, zero, suc, List, [], ◌∷◌, ◌&&◌, ◌||◌, not, Bool, true, false, if◌then◌else◌, Option, Some, None, is_some}
use Rattle.std.specs.Ordering.{nat_cmp, match_ordering}
use Rattle.std.specs.Cmp.Lexicographic.{slice_cmp}
use Rattle.std.specs.Str.{bytes_eq}
use Rattle.serde_json.specs.Data.{Data, number, string, array, object, Items, no_items, item, Members, no_members, member}
use Rattle.serde_json.specs.Find.{get, as_str, as_bool, as_null, is_float}
use Rattle.serde_json.specs.Written.{has_float}
use Rattle.qmp_codec.specs.declared.form.Form.{Form}
use Rattle.qmp_codec.specs.declared.row.Kind.{Kind}
use Rattle.qmp_codec.specs.declared.row.Kind.TheVariants.{Text, Integer, Flag, FlagOrText, TextOrNull, Texts, Exact, Object, TextOrObject, Objects, TextsOrObjects}
use Rattle.qmp_codec.specs.declared.row.Row.{Row}
use Rattle.qmp_codec.specs.declared.row.Row.TheVariants.{Needs, Takes}
use Rattle.qmp_codec.specs.declared.walk.Search.{Search}
use Rattle.qmp_codec.specs.declared.walk.Search.TheVariants.{Missing, Mistyped}
use Rattle.qmp_codec.specs.Tables.{Rows, members, row_name, kind_of}
use Rattle.qmp_codec.specs.Forms.{settled}

abbrev pub Name : Type 0
Name = List ℕ

-- ---- single values

abbrev pub is_text : Data → Bool
is_text d = is_some (as_str d)

abbrev pub are_texts : Items → Bool
are_texts no_items = true
are_texts (item d ds) = is_text d && are_texts ds

-- a number of 64 bits, with no fraction or exponent
abbrev pub is_integer : Data → Bool
is_integer (number n) = not (is_float n)
is_integer _ = false

abbrev pub is_list_of_texts : Data → Bool
is_list_of_texts (array ds) = are_texts ds
is_list_of_texts _ = false

-- the value is of the kind; of kinds with a table the walk below speaks
abbrev pub fits : Kind → Data → Bool
fits Text d = is_text d
fits Integer d = is_integer d
fits Flag d = is_some (as_bool d)
fits FlagOrText d = is_some (as_bool d) || is_text d
fits TextOrNull d = is_some (as_null d) || is_text d
fits Texts d = is_list_of_texts d
fits Exact d = not (has_float d)
fits _ d = false

-- ---- the first member that is missing, or whose value is of another kind

abbrev pub name_or_else : Option Name → Option Name → Option Name
name_or_else None later = later
name_or_else (Some name) later = Some name

-- a needed member is absent
abbrev pub absent : Search → Row Name → Option Name
absent Missing (Needs name kind) = Some name
absent Missing (Takes name kind) = None
absent Mistyped row = None

-- the member of this name has a value of another kind
abbrev pub wrong : Search → Name → Option Name
wrong Missing name = None
wrong Mistyped name = Some name

-- the fault of a value that is an object by a table, or a text where texts are accepted
abbrev pub part_fault : Option Name → (Data → Option Name) → Bool → Data → Option Name
part_fault otherwise inner texts (object ms) = inner (object ms)
part_fault otherwise inner texts (string s) = if texts then None else otherwise
part_fault otherwise inner texts d = otherwise

-- the first fault of some items
abbrev pub parts_fault : Option Name → (Data → Option Name) → Bool → Items → Option Name
parts_fault otherwise inner texts no_items = None
parts_fault otherwise inner texts (item d ds) =
    name_or_else (part_fault otherwise inner texts d) (parts_fault otherwise inner texts ds)

abbrev pub list_fault : Option Name → (Data → Option Name) → Bool → Data → Option Name
list_fault otherwise inner texts (array ds) = parts_fault otherwise inner texts ds
list_fault otherwise inner texts d = otherwise

abbrev pub value_fault : Option Name → (Form → Data → Option Name) → Kind → Data → Option Name
value_fault otherwise inner (Object table) d = part_fault otherwise (inner table) false d
value_fault otherwise inner (TextOrObject table) d = part_fault otherwise (inner table) true d
value_fault otherwise inner (Objects table) d = list_fault otherwise (inner table) false d
value_fault otherwise inner (TextsOrObjects table) d = list_fault otherwise (inner table) true d
value_fault otherwise inner kind d = if fits kind d then None else otherwise

abbrev pub member_fault : Search → (Form → Data → Option Name) → Row Name → Option Data
    → Option Name
member_fault search inner row None = absent search row
member_fault search inner row (Some d) =
    value_fault (wrong search (row_name row)) inner (kind_of row) d

abbrev pub rows_fault : Search → (Form → Data → Option Name) → Data → Rows → Option Name
rows_fault search inner d [] = None
rows_fault search inner d (row ∷ rows) =
    name_or_else (member_fault search inner row (get (row_name row) d))
    (rows_fault search inner d rows)

-- the first fault of an object that stands in a member of the object around; tables lie in one another `depth` deep
unfoldable pub first_fault : ℕ → Search → Form → Data → Data → Option Name
first_fault zero search table around d = None
first_fault (suc depth) search table around d =
    rows_fault search
    (λ inner part. first_fault depth search inner d part) d (members (settled table around d))

-- ---- the least name that no table accepts

abbrev pub least : Option Name → Option Name → Option Name
least None other = other
least (Some a) None = Some a
least (Some a) (Some b) = match_ordering (slice_cmp nat_cmp a b) (Some a) (Some a) (Some b)

abbrev pub accepts : Rows → Name → Bool
accepts [] name = false
accepts (row ∷ rows) name = bytes_eq (row_name row) name || accepts rows name

-- the least of what was found and the names that the rows don't have
abbrev pub unknown_in : Rows → Option Name → Members → Option Name
unknown_in rows found no_members = found
unknown_in rows found (member name d ms) =
    unknown_in rows (if accepts rows name then found else least found (Some name)) ms

abbrev pub members_unknown : Rows → Data → Option Name
members_unknown rows (object ms) = unknown_in rows None ms
members_unknown rows d = None

abbrev pub part_unknown : (Data → Option Name) → Data → Option Name
part_unknown inner (object ms) = inner (object ms)
part_unknown inner d = None

-- the least of what was found and all items
abbrev pub least_of_parts : (Data → Option Name) → Option Name → Items → Option Name
least_of_parts inner found no_items = found
least_of_parts inner found (item d ds) =
    least_of_parts inner (least found (part_unknown inner d)) ds

-- the least of the first item that has one
abbrev pub least_of_first : (Data → Option Name) → Items → Option Name
least_of_first inner no_items = None
least_of_first inner (item d ds) = name_or_else (part_unknown inner d) (least_of_first inner ds)

abbrev pub part_inside : (Data → Option Name) → Option Data → Option Name
part_inside inner None = None
part_inside inner (Some d) = part_unknown inner d

abbrev pub first_inside : (Data → Option Name) → Option Data → Option Name
first_inside inner (Some (array ds)) = least_of_first inner ds
first_inside inner _ = None

abbrev pub least_inside : (Data → Option Name) → Option Data → Option Name
least_inside inner (Some (array ds)) = least_of_parts inner None ds
least_inside inner _ = None

-- Only a value with a table of its own has such names inside. Of several actions the first counts.
abbrev pub unknown_inside : (Form → Data → Option Name) → Data → Name → Kind → Option Name
unknown_inside inner d name (Object table) = part_inside (inner table) (get name d)
unknown_inside inner d name (TextOrObject table) = part_inside (inner table) (get name d)
unknown_inside inner d name (Objects table) = first_inside (inner table) (get name d)
unknown_inside inner d name (TextsOrObjects table) = least_inside (inner table) (get name d)
unknown_inside inner d name kind = None

-- the least of what was found and of what the members' values have
abbrev pub rows_unknown : (Form → Data → Option Name) → Data → Option Name → Rows → Option Name
rows_unknown inner d found [] = found
rows_unknown inner d found (row ∷ rows) =
    rows_unknown inner d (least found (unknown_inside inner d (row_name row) (kind_of row))) rows

-- the least name in an object that its table, or the table of an object inside, doesn't accept
unfoldable pub least_unknown : ℕ → Form → Data → Data → Option Name
least_unknown zero table around d = None
least_unknown (suc depth) table around d =
    let rows = members (settled table around d) in
    least (members_unknown rows d)
    (rows_unknown (λ inner part. least_unknown depth inner d part) d None rows)
