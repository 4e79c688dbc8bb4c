-- What it means that a table accepts an object, said without a walk.
use Rattle.std.specs.Prelude.{◌≡◌, ℕ, zero, suc, [], ◌∷◌, Bool, true, false, Option, Some, None}
use Rattle.serde_json.specs.Data.{Data, string, array, object, Items, no_items, item}
use Rattle.serde_json.specs.Find.{get}
use Rattle.qmp_codec.specs.declared.form.Form.{Form}
use Rattle.qmp_codec.specs.declared.row.Kind.{Kind}
use Rattle.qmp_codec.specs.declared.row.Kind.TheVariants.{Object, TextOrObject, Objects, TextsOrObjects}
use Rattle.qmp_codec.specs.declared.row.Row.{Row}
use Rattle.qmp_codec.specs.declared.row.Row.TheVariants.{Needs, Takes}
use Rattle.qmp_codec.specs.Tables.{Rows, members, row_name}
use Rattle.qmp_codec.specs.Forms.{settled}
use Rattle.qmp_codec.specs.Walk.{Name, fits}

-- an object that is accepted, or a text where texts are
abbrev pub IsObjectOrText : (Data → Type 0) → Bool → Data → Type 0
IsObjectOrText Inner texts (object ms) = Inner (object ms)
IsObjectOrText Inner texts (string s) = texts ≡ true
IsObjectOrText Inner texts d = ⊥

abbrev pub AreParts : (Data → Type 0) → Bool → Items → Type 0
AreParts Inner texts no_items = Unit {0}
AreParts Inner texts (item d ds) = IsObjectOrText Inner texts d × AreParts Inner texts ds

abbrev pub IsList : (Data → Type 0) → Bool → Data → Type 0
IsList Inner texts (array ds) = AreParts Inner texts ds
IsList Inner texts d = ⊥

-- a value of the kind
abbrev pub IsValue : (Form → Data → Type 0) → Kind → Data → Type 0
IsValue Inner (Object table) d = IsObjectOrText (Inner table) false d
IsValue Inner (TextOrObject table) d = IsObjectOrText (Inner table) true d
IsValue Inner (Objects table) d = IsList (Inner table) false d
IsValue Inner (TextsOrObjects table) d = IsList (Inner table) true d
IsValue Inner kind d = fits kind d ≡ true

-- a needed member is there, and a member that is there has a value of its kind
abbrev pub IsMember : (Form → Data → Type 0) → Row Name → Option Data → Type 0
IsMember Inner (Needs name kind) None = ⊥
IsMember Inner (Takes name kind) None = Unit {0}
IsMember Inner (Needs name kind) (Some d) = IsValue Inner kind d
IsMember Inner (Takes name kind) (Some d) = IsValue Inner kind d

abbrev pub AreMembers : (Form → Data → Type 0) → Data → Rows → Type 0
AreMembers Inner d [] = Unit {0}
AreMembers Inner d (row ∷ rows) =
    IsMember Inner row (get (row_name row) d) × AreMembers Inner d rows

-- so it is with all members of an object, and with the objects inside
unfoldable pub IsAccepted : ℕ → Form → Data → Data → Type 0
IsAccepted zero table around d = Unit {0}
IsAccepted (suc depth) table around d =
    AreMembers (λ inner part. IsAccepted depth inner d part) d (members (settled table around d))
