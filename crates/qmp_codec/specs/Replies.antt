-- The value that a reply prints.
use Rattle.std.specs.Prelude.{ℕ, List, codes, Option, Some, None}
use Rattle.serde_json.specs.Data.{Data, string, object, Members, no_members, member}
use Rattle.serde_json.specs.View.{view}
use Rattle.qmp_codec.specs.declared.reply.Class.{Class}
use Rattle.qmp_codec.specs.declared.reply.Class.TheVariants.{GenericError, CommandNotFound, DeviceNotFound, DeviceNotActive}
use Rattle.qmp_codec.specs.declared.reply.Reply.{Reply}
use Rattle.qmp_codec.specs.declared.reply.Reply.TheVariants.{Return, Error}

abbrev pub class_text : Class → List ℕ
class_text GenericError = codes "GenericError"
class_text CommandNotFound = codes "CommandNotFound"
class_text DeviceNotFound = codes "DeviceNotFound"
class_text DeviceNotActive = codes "DeviceNotActive"

-- an id, and members that come after it
abbrev pub id_before : Option Data → Members → Members
id_before None ms = ms
id_before (Some id) ms = member (codes "id") id ms

abbrev pub returned_data : Option Data → Data → Data
returned_data id d = object (id_before id (member (codes "return") d no_members))

abbrev pub error_data : Class → List ℕ → Data
error_data class desc =
    object (member (codes "class") (string (class_text class))
    (member (codes "desc") (string desc) no_members))

abbrev pub refused_data : Option Data → Class → List ℕ → Data
refused_data id class desc =
    object (member (codes "error") (error_data class desc) (id_before id no_members))

abbrev pub reply_data : Option Data → Reply → Data
reply_data id (Return value) = returned_data id (view value)
reply_data id (Error class desc) = refused_data id class desc.bytes
