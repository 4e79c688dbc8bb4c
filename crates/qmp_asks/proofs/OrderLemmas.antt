-- Each command's list of asks ascends.
use Rattle.std.proofs.Common.{◌≡◌, ℕ, ◌≤◌, refl, true, ◌&&◌, List, [], ◌∷◌, ◌++◌, Bool, Option, Some, None, arith}
use Rattle.std.specs.Prelude.{nat_le, codes}
use Rattle.std.proofs.lemmas.Bool.{le-leb, leb-true}
use Rattle.qmp_codec.specs.declared.command.Action.{Action}
use Rattle.qmp_codec.specs.declared.command.Action.TheVariants as action
use Rattle.qmp_codec.specs.declared.command.Command.{Command}
use Rattle.qmp_codec.specs.declared.command.Command.TheVariants as command
use Rattle.qmp_codec.specs.declared.command.Transaction.{Transaction}
use Rattle.qmp_codec.specs.declared.fields.Amount.{Amount}
use Rattle.qmp_codec.specs.declared.nodes.NodeOptions.{NodeOptions}
use Rattle.qmp_codec.specs.declared.nodes.FileRef.{FileRef}
use Rattle.qmp_codec.specs.declared.nodes.FileRef.TheVariants as file_ref
use Rattle.qmp_codec.specs.declared.nodes.BackingRef.{BackingRef}
use Rattle.qmp_codec.specs.declared.nodes.Added.{Added}
use Rattle.qmp_codec.specs.declared.nodes.Added.TheVariants as added
use Rattle.qmp_codec.specs.declared.nodes.AddRaw.{AddRaw}
use Rattle.qmp_codec.specs.declared.nodes.AddQcow2.{AddQcow2}
use Rattle.qmp_codec.specs.declared.nodes.BlockdevAdd.{BlockdevAdd}
use Rattle.qmp_codec.specs.declared.nodes.BlockdevCreate.{BlockdevCreate}
use Rattle.qmp_codec.specs.declared.nodes.Created.{Created}
use Rattle.qmp_codec.specs.declared.nodes.Created.TheVariants as created
use Rattle.qmp_codec.specs.declared.bitmaps.BitmapMerge.{BitmapMerge}
use Rattle.qmp_codec.specs.declared.bitmaps.MergeSource.{MergeSource}
use Rattle.qmp_codec.specs.declared.bitmaps.MergeSource.TheVariants as source
use Rattle.qmp_codec.specs.Commands.{Act, Cmd, SeenSources}
use Rattle.qmp_asks.specs.declared.ask.Ask.TheVariants.{Good, BitmapFree}
use Rattle.qmp_asks.specs.Asking.{Asking, place}
use Rattle.qmp_asks.specs.NodeAsks.{create_asks, add_asks}
use Rattle.qmp_asks.specs.BitmapAsks.{all_source_names, source_names, sources_found, sources_free, sources_equal, merge_names, merge_rest}
use Rattle.qmp_asks.specs.CommandAsks.{asks_of, action_values, action_names, action_rest, all_values, all_names, transaction_asks}
use Rattle.qmp_asks.specs.Order.{ascends_from, Ascends, action_asks}

-- ---- lists one behind another

-- each ask has this place
abbrev AllAt : ℕ → List Asking → Type 0
AllAt p [] = Unit {0}
AllAt p (asking ∷ asks) = (place asking ≡ p) × AllAt p asks

-- no ask has a place above
abbrev AllBelow : ℕ → List Asking → Type 0
AllBelow p [] = Unit {0}
AllBelow p (asking ∷ asks) = (nat_le (place asking) p ≡ true) × AllBelow p asks

all_at-append : (p : ℕ) (xs ys : List Asking) → AllAt p xs → AllAt p ys → AllAt p (xs ++ ys)
all_at-append p [] ys a b = b
all_at-append p (x ∷ xs) ys a b = (a.0, all_at-append p xs ys a.1 b)

all_below-append : (p : ℕ) (xs ys : List Asking) → AllBelow p xs → AllBelow p ys → AllBelow p (xs ++ ys)
all_below-append p [] ys a b = b
all_below-append p (x ∷ xs) ys a b = (a.0, all_below-append p xs ys a.1 b)

all_at_below : (p m : ℕ) (xs : List Asking) → nat_le p m ≡ true → AllAt p xs → AllBelow m xs
all_at_below p m [] le a = tt
all_at_below p m (x ∷ xs) le a = (grind (arith, a.0, le), all_at_below p m xs le a.1)

all_at_ascends : (a p : ℕ) (xs : List Asking) → nat_le a p ≡ true → AllAt p xs → ascends_from a xs ≡ true
all_at_ascends a p [] le at = refl
all_at_ascends a p (x ∷ xs) le at =
    let same : nat_le (place x) p ≡ true = grind (arith, at.0) in
    grind (arith, at.0, le, all_at_ascends (place x) p xs same at.1)

ascends-lower : (a b : ℕ) (xs : List Asking) → nat_le a b ≡ true → ascends_from b xs ≡ true → ascends_from a xs ≡ true
ascends-lower a b [] le h = refl
ascends-lower a b (x ∷ xs) le h = grind (arith, le, h)

ascends-append : (a m : ℕ) (xs ys : List Asking) → nat_le a m ≡ true → ascends_from a xs ≡ true → AllBelow m xs
    → ascends_from m ys ≡ true → ascends_from a (xs ++ ys) ≡ true
ascends-append a m [] ys le h below then = ascends-lower a m ys le then
ascends-append a m (x ∷ xs) ys le h below then =
    let rest : ascends_from (place x) xs ≡ true = grind (arith, h) in
    grind (arith, h, ascends-append (place x) m xs ys below.0 rest below.1 then)

-- ---- merges

source_names_at : (s : MergeSource (List ℕ)) → AllAt 8 (source_names s)
source_names_at (source.Name name) = (refl, tt)
source_names_at (source.Of bitmap) = (refl, (refl, tt))

all_names_at : (sources : SeenSources) → AllAt 8 (all_source_names sources)
all_names_at [] = tt
all_names_at (s ∷ sources) =
    all_at-append 8 (source_names s) (all_source_names sources) (source_names_at s) (all_names_at sources)

found_at : (node : List ℕ) (sources : SeenSources) → AllAt 9 (sources_found node sources)
found_at node [] = tt
found_at node (s ∷ sources) = (refl, (refl, found_at node sources))

free_at : (node : List ℕ) (sources : SeenSources) → AllAt 20 (sources_free node sources)
free_at node [] = tt
free_at node (s ∷ sources) = (refl, free_at node sources)

equal_at : (node : List ℕ) (sources : SeenSources) → AllAt 23 (sources_equal node sources)
equal_at node [] = tt
equal_at node (s ∷ sources) = (refl, equal_at node sources)

merge_names_at : (c : BitmapMerge (List ℕ) SeenSources) → AllAt 8 (merge_names c)
merge_names_at c = (refl, (refl, all_names_at c.bitmaps))

-- what is asked of a target and sources, between the places of what is looked for and of sizes
merge_rest_ascends : (c : BitmapMerge (List ℕ) SeenSources) → ascends_from 8 (merge_rest c) ≡ true
merge_rest_ascends c =
    let found : List Asking = sources_found c.node c.bitmaps in
    let free : List Asking = BitmapFree c.node (Some c.target) ∷ sources_free c.node c.bitmaps in
    let equal : List Asking = sources_equal c.node c.bitmaps in
    let found_9 : AllAt 9 found = found_at c.node c.bitmaps in
    let free_20 : AllAt 20 free = (refl, free_at c.node c.bitmaps) in
    let both : ascends_from 9 (found ++ free) ≡ true =
    ascends-append 9 9 found free refl (all_at_ascends 9 9 found refl found_9) (all_at_below 9 9 found refl found_9)
    (all_at_ascends 9 20 free refl free_20) in
    ascends-append 9 20 (found ++ free) equal refl both
    (all_below-append 20 found free (all_at_below 9 20 found refl found_9) (all_at_below 20 20 free refl free_20))
    (all_at_ascends 20 23 equal refl (equal_at c.node c.bitmaps))

merge_ascends : (c : BitmapMerge (List ℕ) SeenSources) → Ascends (merge_names c ++ merge_rest c)
merge_ascends c = ascends-append 0 8 (merge_names c) (merge_rest c) refl
    (all_at_ascends 0 8 (merge_names c) refl (merge_names_at c)) (all_at_below 8 8 (merge_names c) refl (merge_names_at c))
    (merge_rest_ascends c)

-- ---- blockdev-create and blockdev-add

create_ascends : (job : List ℕ) (o : Created (List ℕ)) → Ascends (create_asks (record { job_id = job; options = o }))
create_ascends job (created.File c) = refl
create_ascends job (created.Qcow2 c) = refl
create_ascends job created.Unknown = refl

raw_ascends : (name : List ℕ) (options : NodeOptions) (file : FileRef (List ℕ)) (offset size : Option Amount)
    → Ascends (add_asks (record {
      node_name = name;
      options = options;
      driver = added.Raw (record { file = file; offset = offset; size = size });
    }))
raw_ascends name options (file_ref.Name file) offset size = refl
raw_ascends name options (file_ref.Inline file) offset size = refl

qcow2_ascends : (name : List ℕ) (options : NodeOptions) (file : FileRef (List ℕ)) (back : Option (BackingRef (List ℕ)))
    → Ascends (add_asks (record {
      node_name = name;
      options = options;
      driver = added.Qcow2 (record { file = file; backing = back });
    }))
qcow2_ascends name options (file_ref.Name file) back = refl
qcow2_ascends name options (file_ref.Inline file) back = refl

add_ascends : (name : List ℕ) (options : NodeOptions) (driver : Added (List ℕ))
    → Ascends (add_asks (record { node_name = name; options = options; driver = driver }))
add_ascends name options (added.File filename) = refl
add_ascends name options (added.Raw raw) = raw_ascends name options raw.file raw.offset raw.size
add_ascends name options (added.Qcow2 image) = qcow2_ascends name options image.file image.backing
add_ascends name options (added.CopyOnRead file) = refl
add_ascends name options added.Unknown = refl

-- ---- transactions

values_at : (a : Act) → AllAt 7 (action_values a)
values_at action.Abort = tt
values_at (action.Snapshot c) = (refl, tt)
values_at (action.Backup c) = (refl, (refl, (refl, (refl, (refl, (refl, (refl, (refl, (refl, tt)))))))))
values_at (action.BitmapAdd c) = (refl, (refl, tt))
values_at (action.BitmapRemove c) = tt
values_at (action.BitmapClear c) = tt
values_at (action.BitmapEnable c) = tt
values_at (action.BitmapDisable c) = tt
values_at (action.BitmapMerge c) = tt
values_at action.Unknown = (refl, tt)

names_at : (a : Act) → AllAt 8 (action_names a)
names_at action.Abort = tt
names_at (action.Snapshot c) = (refl, (refl, tt))
names_at (action.Backup c) = (refl, (refl, (refl, (refl, tt))))
names_at (action.BitmapAdd c) = (refl, (refl, tt))
names_at (action.BitmapRemove c) = (refl, (refl, tt))
names_at (action.BitmapClear c) = (refl, (refl, tt))
names_at (action.BitmapEnable c) = (refl, (refl, tt))
names_at (action.BitmapDisable c) = (refl, (refl, tt))
names_at (action.BitmapMerge c) = merge_names_at c
names_at action.Unknown = tt

all_values_at : (actions : List Act) → AllAt 7 (all_values actions)
all_values_at [] = tt
all_values_at (a ∷ actions) = all_at-append 7 (action_values a) (all_values actions) (values_at a) (all_values_at actions)

every_name_at : (actions : List Act) → AllAt 8 (all_names actions)
every_name_at [] = tt
every_name_at (a ∷ actions) = all_at-append 8 (action_names a) (all_names actions) (names_at a) (every_name_at actions)

transaction_ascends : (c : Transaction (List Act)) → Ascends (transaction_asks c)
transaction_ascends c =
    let values : List Asking = all_values c.actions in
    let names : List Asking = all_names c.actions in
    ascends-append 0 7 values _ refl (all_at_ascends 0 7 values refl (all_values_at c.actions))
    (all_at_below 7 7 values refl (all_values_at c.actions)) (all_at_ascends 7 8 names refl (every_name_at c.actions))

pub action_asks_ascend : (a : Act) → Ascends (action_asks a)
action_asks_ascend action.Abort = refl
action_asks_ascend (action.Snapshot c) = refl
action_asks_ascend (action.Backup c) = refl
action_asks_ascend (action.BitmapAdd c) = refl
action_asks_ascend (action.BitmapRemove c) = refl
action_asks_ascend (action.BitmapClear c) = refl
action_asks_ascend (action.BitmapEnable c) = refl
action_asks_ascend (action.BitmapDisable c) = refl
action_asks_ascend (action.BitmapMerge c) = merge_ascends c
action_asks_ascend action.Unknown = refl

-- ---- commands

pub command_asks_ascend : (c : Cmd) → Ascends (asks_of c)
unfolding asks_of
command_asks_ascend (command.Capabilities enable) = refl
command_asks_ascend (command.BlockdevCreate c) = create_ascends c.job_id c.options
command_asks_ascend (command.JobDismiss id) = refl
command_asks_ascend (command.BlockdevAdd c) = add_ascends c.node_name c.options c.driver
command_asks_ascend (command.BlockdevDel name) = refl
command_asks_ascend (command.DeviceAdd c) = refl
command_asks_ascend (command.DeviceDel id) = refl
command_asks_ascend (command.BlockdevSnapshot c) = refl
command_asks_ascend (command.Transaction c) = transaction_ascends c
command_asks_ascend (command.BlockStream c) = refl
command_asks_ascend (command.BlockCommit c) = refl
command_asks_ascend (command.BlockdevMirror c) = refl
command_asks_ascend (command.BlockdevBackup c) = refl
command_asks_ascend (command.BlockJobCancel job force) = refl
command_asks_ascend (command.BlockJobComplete job) = refl
command_asks_ascend command.QueryBlockJobs = refl
command_asks_ascend (command.QueryNamedBlockNodes flat) = refl
command_asks_ascend (command.BitmapAdd c) = refl
command_asks_ascend (command.BitmapRemove c) = refl
command_asks_ascend (command.BitmapClear c) = refl
command_asks_ascend (command.BitmapEnable c) = refl
command_asks_ascend (command.BitmapDisable c) = refl
command_asks_ascend (command.BitmapMerge c) = merge_ascends c
