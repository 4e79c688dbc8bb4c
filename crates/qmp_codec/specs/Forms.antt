-- Which table an object is read by.
use Rattle.std.specs.Prelude.{ℕ, List, [], codes, Option, Some, None, option_and_then, unwrap_or}
use Rattle.serde_json.specs.Data.{Data}
use Rattle.serde_json.specs.Find.{get, as_str}
use Rattle.qmp_codec.specs.declared.form.Form.{Form}
use Rattle.qmp_codec.specs.declared.form.Form.TheVariants as form
use Rattle.qmp_codec.specs.declared.verb.Verb.{Verb}
use Rattle.qmp_codec.specs.declared.verb.Verb.TheVariants as verb
use Rattle.qmp_codec.specs.declared.verb.Deed.{Deed}
use Rattle.qmp_codec.specs.declared.verb.Deed.TheVariants as deed
use Rattle.qmp_codec.specs.declared.verb.Driver.{Driver}
use Rattle.qmp_codec.specs.declared.verb.Driver.TheVariants as driver
use Rattle.qmp_codec.specs.Verbs.{verb_of, deed_of, driver_of}

-- the text of a member, empty where the member is absent or no text
abbrev pub text_in : List ℕ → Data → List ℕ
text_in name d = unwrap_or (option_and_then as_str (get name d)) []

abbrev pub verb_form : Option Verb → Form
verb_form None = form.NoMembers
verb_form (Some verb.Capabilities) = form.Capabilities
verb_form (Some verb.Create) = form.Create
verb_form (Some verb.JobDismiss) = form.Id
verb_form (Some verb.Add) = form.Add
verb_form (Some verb.Del) = form.NodeName
verb_form (Some verb.DeviceAdd) = form.DeviceAdd
verb_form (Some verb.DeviceDel) = form.Id
verb_form (Some verb.Snapshot) = form.Snapshot
verb_form (Some verb.Transaction) = form.Transaction
verb_form (Some verb.Stream) = form.Stream
verb_form (Some verb.Commit) = form.Commit
verb_form (Some verb.Mirror) = form.Mirror
verb_form (Some verb.Backup) = form.Backup
verb_form (Some verb.JobCancel) = form.JobCancel
verb_form (Some verb.JobComplete) = form.JobComplete
verb_form (Some verb.ListJobs) = form.NoMembers
verb_form (Some verb.ListNodes) = form.ListNodes
verb_form (Some verb.BitmapAdd) = form.BitmapAdd
verb_form (Some verb.BitmapRemove) = form.BitmapName
verb_form (Some verb.BitmapClear) = form.BitmapName
verb_form (Some verb.BitmapEnable) = form.BitmapName
verb_form (Some verb.BitmapDisable) = form.BitmapName
verb_form (Some verb.BitmapMerge) = form.BitmapMerge

-- under an unknown type `data` has no members
abbrev pub deed_form : Deed → Form
deed_form deed.Abort = form.NoMembers
deed_form deed.Snapshot = form.Snapshot
deed_form deed.Backup = form.Backup
deed_form deed.BitmapAdd = form.BitmapAdd
deed_form deed.BitmapRemove = form.BitmapName
deed_form deed.BitmapClear = form.BitmapName
deed_form deed.BitmapEnable = form.BitmapName
deed_form deed.BitmapDisable = form.BitmapName
deed_form deed.BitmapMerge = form.BitmapMerge
deed_form deed.Unknown = form.NoMembers

abbrev pub added_form : Driver → Form
added_form driver.File = form.AddFile
added_form driver.Raw = form.AddRaw
added_form driver.Qcow2 = form.AddQcow2
added_form driver.CopyOnRead = form.AddCopyOnRead
added_form driver.Unknown = form.Add

abbrev pub created_form : Driver → Form
created_form driver.File = form.CreateFile
created_form driver.Raw = form.CreateOptions
created_form driver.Qcow2 = form.CreateQcow2
created_form driver.CopyOnRead = form.CreateOptions
created_form driver.Unknown = form.CreateOptions

-- the table that the object around names
abbrev pub form_named_by : Data → Form → Form
form_named_by around form.Arguments = verb_form (verb_of (text_in (codes "execute") around))
form_named_by around form.ActionData = deed_form (deed_of (text_in (codes "type") around))
form_named_by around table = table

-- the table that the object's driver names
abbrev pub driven_by : Data → Form → Form
driven_by d form.Add = added_form (driver_of (text_in (codes "driver") d))
driven_by d form.CreateOptions = created_form (driver_of (text_in (codes "driver") d))
driven_by d table = table

-- the table of an object, which stands in a member of the object around
unfoldable pub settled : Form → Data → Data → Form
settled table around d = driven_by d (form_named_by around table)
