-- Where the walk finds nothing, the tables accept: each needed member is there, and each value is of its kind.
use Rattle.std.proofs.Common.{◌≡◌, ℕ, zero, suc, [], ◌∷◌, Bool, true, false, if◌then◌else◌, codes, Option, Some, None, unwrap_or, refl}
use Rattle.serde_json.specs.Data.{Data, null, boolean, number, string, array, object, Items, no_items, item}
use Rattle.serde_json.specs.Find.{get}
use Rattle.qmp_codec.specs.declared.form.Form.{Form}
use Rattle.qmp_codec.specs.declared.form.Form.TheVariants as form
use Rattle.qmp_codec.specs.declared.row.Kind.{Kind}
use Rattle.qmp_codec.specs.declared.row.Kind.TheVariants.{Text, Integer, Flag, FlagOrText, TextOrNull, Texts, Exact, Object, TextOrObject, Objects, TextsOrObjects}
use Rattle.qmp_codec.specs.declared.row.Row.{Row}
use Rattle.qmp_codec.specs.declared.row.Row.TheVariants.{Needs, Takes}
use Rattle.qmp_codec.specs.declared.walk.Search.TheVariants.{Missing, Mistyped}
use Rattle.qmp_codec.specs.Tables.{Rows, members, row_name}
use Rattle.qmp_codec.specs.Forms.{settled}
use Rattle.qmp_codec.specs.Walk.{Name, fits, name_or_else, part_fault, parts_fault, list_fault, value_fault, member_fault, rows_fault, first_fault}
use Rattle.qmp_codec.specs.Lines.{first_cause, cause_in, arguments_of}
use Rattle.qmp_codec.specs.Acceptance.{IsObjectOrText, AreParts, IsList, IsValue, IsMember, AreMembers, IsAccepted}

none_first : (a b : Option Name) → name_or_else a b ≡ None → a ≡ None
none_first None b h = refl
none_first (Some n) b h = h

none_later : (a b : Option Name) → name_or_else a b ≡ None → b ≡ None
none_later None b h = h
none_later (Some n) b h = cc

fits_where : (b : Bool) (name : Name) → (if b then None else Some name) ≡ None → b ≡ true
fits_where true name h = refl
fits_where false name h = cc

part_ok : (M T : Data → Option Name) (I : Data → Type 0) (ok : (p : Data) → M p ≡ None → T p ≡ None → I p) (name : Name) (texts : Bool) (d : Data)
    → part_fault None M texts d ≡ None → part_fault (Some name) T texts d ≡ None → IsObjectOrText I texts d
part_ok M T I ok name texts (object ms) m t = ok (object ms) m t
part_ok M T I ok name true (string s) m t = refl
part_ok M T I ok name false (string s) m t = cc
part_ok M T I ok name texts null m t = cc
part_ok M T I ok name texts (boolean b) m t = cc
part_ok M T I ok name texts (number n) m t = cc
part_ok M T I ok name texts (array ds) m t = cc

parts_ok : (M T : Data → Option Name) (I : Data → Type 0) (ok : (p : Data) → M p ≡ None → T p ≡ None → I p) (name : Name) (texts : Bool) (ds : Items)
    → parts_fault None M texts ds ≡ None → parts_fault (Some name) T texts ds ≡ None → AreParts I texts ds
parts_ok M T I ok name texts no_items m t = tt
parts_ok M T I ok name texts (item d ds) m t =
    (part_ok M T I ok name texts d (none_first _ _ m) (none_first _ _ t), parts_ok M T I ok name texts ds (none_later _ _ m) (none_later _ _ t))

list_ok : (M T : Data → Option Name) (I : Data → Type 0) (ok : (p : Data) → M p ≡ None → T p ≡ None → I p) (name : Name) (texts : Bool) (d : Data)
    → list_fault None M texts d ≡ None → list_fault (Some name) T texts d ≡ None → IsList I texts d
list_ok M T I ok name texts (array ds) m t = parts_ok M T I ok name texts ds m t
list_ok M T I ok name texts null m t = cc
list_ok M T I ok name texts (boolean b) m t = cc
list_ok M T I ok name texts (number n) m t = cc
list_ok M T I ok name texts (string s) m t = cc
list_ok M T I ok name texts (object ms) m t = cc

value_ok : (M T : Form → Data → Option Name) (I : Form → Data → Type 0) (ok : (f : Form) (p : Data) → M f p ≡ None → T f p ≡ None → I f p) (name : Name) (kind : Kind) (d : Data)
    → value_fault None M kind d ≡ None → value_fault (Some name) T kind d ≡ None → IsValue I kind d
value_ok M T I ok name (Object f) d m t = part_ok (M f) (T f) (I f) (ok f) name false d m t
value_ok M T I ok name (TextOrObject f) d m t = part_ok (M f) (T f) (I f) (ok f) name true d m t
value_ok M T I ok name (Objects f) d m t = list_ok (M f) (T f) (I f) (ok f) name false d m t
value_ok M T I ok name (TextsOrObjects f) d m t = list_ok (M f) (T f) (I f) (ok f) name true d m t
value_ok M T I ok name Text d m t = fits_where (fits Text d) name t
value_ok M T I ok name Integer d m t = fits_where (fits Integer d) name t
value_ok M T I ok name Flag d m t = fits_where (fits Flag d) name t
value_ok M T I ok name FlagOrText d m t = fits_where (fits FlagOrText d) name t
value_ok M T I ok name TextOrNull d m t = fits_where (fits TextOrNull d) name t
value_ok M T I ok name Texts d m t = fits_where (fits Texts d) name t
value_ok M T I ok name Exact d m t = fits_where (fits Exact d) name t

member_ok : (M T : Form → Data → Option Name) (I : Form → Data → Type 0) (ok : (f : Form) (p : Data) → M f p ≡ None → T f p ≡ None → I f p) (row : Row Name) (o : Option Data)
    → member_fault Missing M row o ≡ None → member_fault Mistyped T row o ≡ None → IsMember I row o
member_ok M T I ok (Needs name kind) None m t = cc
member_ok M T I ok (Takes name kind) None m t = tt
member_ok M T I ok (Needs name kind) (Some d) m t = value_ok M T I ok name kind d m t
member_ok M T I ok (Takes name kind) (Some d) m t = value_ok M T I ok name kind d m t

rows_ok : (M T : Form → Data → Option Name) (I : Form → Data → Type 0) (ok : (f : Form) (p : Data) → M f p ≡ None → T f p ≡ None → I f p) (d : Data) (rows : Rows)
    → rows_fault Missing M d rows ≡ None → rows_fault Mistyped T d rows ≡ None → AreMembers I d rows
rows_ok M T I ok d [] m t = tt
rows_ok M T I ok d (row ∷ rows) m t =
    (member_ok M T I ok row (get (row_name row) d) (none_first _ _ m) (none_first _ _ t), rows_ok M T I ok d rows (none_later _ _ m) (none_later _ _ t))

-- nothing is missing and nothing of another kind: the table accepts the object
pub accepted : (depth : ℕ) (table : Form) (around d : Data)
    → first_fault depth Missing table around d ≡ None → first_fault depth Mistyped table around d ≡ None → IsAccepted depth table around d
unfolding first_fault IsAccepted
accepted zero table around d m t = tt
accepted (suc depth) table around d m t =
    rows_ok (λ f p. first_fault depth Missing f d p) (λ f p. first_fault depth Mistyped f d p) (λ f p. IsAccepted depth f d p) (λ f p. accepted depth f d p) d (members (settled table around d)) m t

null_rows : (T : Form → Data → Option Name) (rows : Rows) → rows_fault Mistyped T null rows ≡ None
null_rows T [] = refl
null_rows T (row ∷ rows) = null_rows T rows

-- what is no object has no member of another kind
null_mistyped : (depth : ℕ) (table : Form) (around : Data) → first_fault depth Mistyped table around null ≡ None
unfolding first_fault
null_mistyped zero table around = refl
null_mistyped (suc depth) table around =
    null_rows (λ f p. first_fault depth Mistyped f null p) (members (settled table around null))

arguments_ok : (line : Data) (o : Option Data) → member_fault Mistyped (λ f p. first_fault 4 Mistyped f line p) (Takes (codes "arguments") (Object form.Arguments)) o ≡ None
    → first_fault 4 Mistyped form.Arguments line (unwrap_or o null) ≡ None
arguments_ok line None h = null_mistyped 4 form.Arguments line
arguments_ok line (Some (object ms)) h = h
arguments_ok line (Some null) h = cc
arguments_ok line (Some (boolean b)) h = cc
arguments_ok line (Some (number n)) h = cc
arguments_ok line (Some (string s)) h = cc
arguments_ok line (Some (array ds)) h = cc

none_missing : (a b c : Option Name) → first_cause a b c ≡ None → a ≡ None
none_missing None b c h = refl
none_missing (Some n) b c h = cc

none_mistyped : (a b c : Option Name) → first_cause a b c ≡ None → c ≡ None
none_mistyped None None None h = refl
none_mistyped None None (Some n) h = cc
none_mistyped None (Some n) c h = cc
none_mistyped (Some n) b c h = cc

-- the walk over a line stops at no member of its arguments
line_mistyped : (line : Data) → first_fault 5 Mistyped form.Line null line ≡ None → first_fault 4 Mistyped form.Arguments line (arguments_of line) ≡ None
unfolding first_fault settled members
line_mistyped line h =
    let later = none_later _ _ h in arguments_ok line (get (codes "arguments") line) (none_first _ _ later)

-- a line that nothing is wrong with has arguments that the table of its command accepts
pub line_accepted : (line : Data) → cause_in line ≡ None → IsAccepted 4 form.Arguments line (arguments_of line)
unfolding cause_in
line_accepted line h = accepted 4 form.Arguments line (arguments_of line) (none_missing _ _ _ h) (line_mistyped line (none_mistyped _ _ _ h))
