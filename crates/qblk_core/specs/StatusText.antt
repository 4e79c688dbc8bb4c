-- What is printed of a status, for standard error.
use Rattle.std.specs.Prelude.{ℕ, List, [], ◌++◌, codes, decimal}
use Rattle.blk_base.specs.declared.fault.FaultFrom.{FaultFrom}
use Rattle.blk_base.specs.declared.fault.FaultFrom.TheVariants.{Store, Dev, Sink}
use Rattle.q2_image.specs.Text as image
use Rattle.qblk_core.specs.declared.status.InputWhy.{InputWhy}
use Rattle.qblk_core.specs.declared.status.InputWhy.TheVariants.{Absent, NotUtf8, TooLong, BadLine, TooMany, TooLarge, NeedsBacking, Image}
use Rattle.qblk_core.specs.declared.status.Status.{Status}
use Rattle.qblk_core.specs.declared.status.Status.TheVariants.{Done, Usage, Input, Fault, Stuck, NoMemory}

abbrev pub why_text : InputWhy → List ℕ
why_text Absent = codes "Absent"
why_text NotUtf8 = codes "NotUtf8"
why_text TooLong = codes "TooLong"
why_text BadLine = codes "BadLine"
why_text TooMany = codes "TooMany"
why_text TooLarge = codes "TooLarge"
why_text NeedsBacking = codes "NeedsBacking"
why_text (Image stop) = codes "Image(" ++ image.image_stop_text stop ++ codes ")"

-- whose count of faults rose
abbrev pub from_text : FaultFrom → List ℕ
from_text Store = codes "store"
from_text (Dev dev) = codes "dev" ++ decimal dev.0
from_text Sink = codes "sink"

abbrev pub status_text : Status → List ℕ
status_text Done = []
status_text Usage =
    codes "usage: qblk io FORMAT IMAGE TRACE | run WORKERS SCRIPT GUEST=TRACE .. | load NUMBER WORKERS"
status_text (Input name line why) =
    codes "input " ++ name.bytes ++ codes " line " ++ decimal line ++ codes ": " ++ why_text why
status_text (Fault from count) = codes "fault " ++ from_text from ++ codes " " ++ decimal count
status_text (Stuck actor waits) = codes "stuck: actor " ++ decimal actor ++ codes " waits"
status_text NoMemory = codes "out of memory"
