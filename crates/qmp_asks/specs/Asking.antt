-- Asks with texts as contracts see them, and the place that the refusal of each has among all.
use Rattle.std.specs.Prelude.{ℕ, Bool, true, false, List}
use Rattle.qmp_asks.specs.declared.ask.Ask.{Ask}
use Rattle.qmp_asks.specs.declared.ask.Ask.TheVariants as ask
use Rattle.qmp_asks.specs.declared.ask.JobNodes.{JobNodes}
use Rattle.qmp_asks.specs.declared.look.Look.{Look}
use Rattle.qmp_asks.specs.declared.look.Look.TheVariants as look

abbrev pub Asking : Type 0
Asking = Ask (List ℕ)

abbrev pub Nodes1 : Type 0
Nodes1 = JobNodes (List ℕ)

-- the place of a refusal that the files decide, by the look at which it comes
abbrev pub look_place : Look → ℕ
look_place look.Begin = 7
look_place look.End = 7
look_place look.File = 14
look_place look.Image = 16
look_place look.Backing = 17
look_place look.Size = 23
look_place look.Format = 30

abbrev pub same_look : Look → Look → Bool
same_look look.Begin look.Begin = true
same_look look.End look.End = true
same_look look.File look.File = true
same_look look.Image look.Image = true
same_look look.Backing look.Backing = true
same_look look.Size look.Size = true
same_look look.Format look.Format = true
same_look _ _ = false

-- the place of an ask's refusal among all
abbrev pub place : Asking → ℕ
place (ask.Good member ok) = 7
place (ask.Begins file offset) = 7
place (ask.Ends file offset size) = 7
place (ask.Files what) = look_place what
place (ask.Named member text) = 8
place (ask.FileNamed member text) = 8
place (ask.Found name) = 9
place (ask.Kept id) = 9
place (ask.DeviceFound id) = 9
place (ask.BitmapFound node name) = 9
place (ask.JobFound id) = 10
place (ask.FreshNode name) = 11
place (ask.Apart first second) = 11
place (ask.FreshDevice id) = 11
place (ask.FreshJob id) = 11
place (ask.FreshBitmap node name) = 11
place (ask.RoomForNodes count) = 12
place ask.RoomForDevice = 12
place ask.RoomForJob = 12
place ask.RoomForBitmap = 12
place (ask.Drives name which) = 13
place (ask.Closed name) = 14
place (ask.Fits file offset size) = 14
place (ask.Known file is_raw) = 15
place (ask.KnownUnder file is_raw) = 15
place (ask.Settled name) = 18
place (ask.Beside backing file) = 18
place (ask.Unheld node) = 19
place (ask.Free nodes) = 19
place (ask.BitmapFree node name) = 20
place (ask.Writable node) = 21
place (ask.WritableUnder file read_only) = 21
place (ask.WritableWith node own ok) = 21
place (ask.InChain nodes) = 22
place (ask.SameSize first second) = 23
place (ask.EqualSizes nodes) = 23
place (ask.NoBacking node) = 24
place (ask.Empty node) = 25
place (ask.Lone node) = 26
place (ask.Clear nodes) = 26
place (ask.JobReady id) = 27
place ask.Abort = 29
