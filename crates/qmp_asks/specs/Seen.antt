-- Asks as the code has them, with borrowed texts, as contracts compare them.
use Rattle.std.specs.Prelude.{ℕ, List, [], ◌∷◌, map, Option, option_map}
use Rattle.std.specs.Borrow.{Bor}
use Rattle.qmp_asks.specs.declared.ask.Ask.{Ask}
use Rattle.qmp_asks.specs.declared.ask.Ask.TheVariants as ask
use Rattle.qmp_asks.specs.declared.ask.JobNodes.{JobNodes}
use Rattle.qmp_asks.specs.declared.ask.JobNodes.TheVariants.{Stream, Commit, Copy}
use Rattle.qmp_asks.specs.Asking.{Asking, Nodes1}

abbrev pub seen_text : Option (Bor (List ℕ)) → Option (List ℕ)
seen_text text = option_map (λ s. s.now) text

abbrev pub seen_nodes : JobNodes (Bor (List ℕ)) → Nodes1
seen_nodes (Stream device base) = Stream device.now (seen_text base)
seen_nodes (Commit device base top) = Commit device.now (seen_text base) (seen_text top)
seen_nodes (Copy device target) = Copy device.now target.now

abbrev pub seen_ask : Ask (Bor (List ℕ)) → Asking
seen_ask (ask.Good member ok) = ask.Good member.now ok
seen_ask (ask.Begins file offset) = ask.Begins file.now offset
seen_ask (ask.Ends file offset size) = ask.Ends file.now offset size
seen_ask (ask.Files what) = ask.Files what
seen_ask (ask.Named member text) = ask.Named member.now (seen_text text)
seen_ask (ask.FileNamed member text) = ask.FileNamed member.now (seen_text text)
seen_ask (ask.Found name) = ask.Found (seen_text name)
seen_ask (ask.Kept id) = ask.Kept id.now
seen_ask (ask.DeviceFound id) = ask.DeviceFound id.now
seen_ask (ask.BitmapFound node name) = ask.BitmapFound node.now (seen_text name)
seen_ask (ask.JobFound id) = ask.JobFound id.now
seen_ask (ask.FreshNode name) = ask.FreshNode (seen_text name)
seen_ask (ask.Apart first second) = ask.Apart first.now (seen_text second)
seen_ask (ask.FreshDevice id) = ask.FreshDevice id.now
seen_ask (ask.FreshJob id) = ask.FreshJob id.now
seen_ask (ask.FreshBitmap node name) = ask.FreshBitmap node.now name.now
seen_ask (ask.RoomForNodes count) = ask.RoomForNodes count
seen_ask ask.RoomForDevice = ask.RoomForDevice
seen_ask ask.RoomForJob = ask.RoomForJob
seen_ask ask.RoomForBitmap = ask.RoomForBitmap
seen_ask (ask.Drives name which) = ask.Drives (seen_text name) which
seen_ask (ask.Closed name) = ask.Closed name.now
seen_ask (ask.Fits file offset size) = ask.Fits file.now offset size
seen_ask (ask.Known file is_raw) = ask.Known file.now is_raw
seen_ask (ask.KnownUnder file is_raw) = ask.KnownUnder file.now is_raw
seen_ask (ask.Settled name) = ask.Settled (seen_text name)
seen_ask (ask.Beside backing file) = ask.Beside (seen_text backing) file.now
seen_ask (ask.Unheld node) = ask.Unheld node.now
seen_ask (ask.Free nodes) = ask.Free (seen_nodes nodes)
seen_ask (ask.BitmapFree node name) = ask.BitmapFree node.now (seen_text name)
seen_ask (ask.Writable node) = ask.Writable node.now
seen_ask (ask.WritableUnder file read_only) = ask.WritableUnder file.now read_only
seen_ask (ask.WritableWith node own ok) = ask.WritableWith node.now (seen_text own) ok
seen_ask (ask.InChain nodes) = ask.InChain (seen_nodes nodes)
seen_ask (ask.SameSize first second) = ask.SameSize first.now second.now
seen_ask (ask.EqualSizes nodes) = ask.EqualSizes (seen_nodes nodes)
seen_ask (ask.NoBacking node) = ask.NoBacking node.now
seen_ask (ask.Empty node) = ask.Empty node.now
seen_ask (ask.Lone node) = ask.Lone node.now
seen_ask (ask.Clear nodes) = ask.Clear (seen_nodes nodes)
seen_ask (ask.JobReady id) = ask.JobReady id.now
seen_ask ask.Abort = ask.Abort

abbrev pub seen_asks : List (Ask (Bor (List ℕ))) → List Asking
seen_asks asks = map seen_ask asks
