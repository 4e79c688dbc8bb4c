-- The refusal of an ask has the ask's place.
use Rattle.std.proofs.Common.{◌≡◌, ℕ, refl, sym, ap, subst, ◌∙◌, true, false, Bool, List, [], ◌∷◌, Option, Some, None, option_map, option_and_then, is_some, not, ◌&&◌, if◌then◌else◌}
use Rattle.blk_graph.specs.declared.edge.Edge.{Edge}
use Rattle.qmp_asks.specs.declared.ask.Ask.{Ask}
use Rattle.qmp_asks.specs.declared.ask.Ask.TheVariants as ask
use Rattle.qmp_asks.specs.declared.ask.JobNodes.{JobNodes}
use Rattle.qmp_asks.specs.declared.ask.JobNodes.TheVariants.{Stream, Commit, Copy}
use Rattle.qmp_rules.specs.declared.refusal.Refusal.{Refusal}
use Rattle.qmp_rules.specs.declared.refusal.Refusal.TheVariants as refusal
use Rattle.blk_graph.specs.declared.edge.Role.TheVariants.{Backing}
use Rattle.qmp_rules.specs.declared.rows.NodeRecord.{NodeRecord}
use Rattle.qmp_rules.specs.declared.rows.JobRecord.{JobRecord}
use Rattle.qmp_rules.specs.declared.rows.BitmapRow.{BitmapRow}
use Rattle.qmp_rules.specs.declared.told.Told.{Told}
use Rattle.qmp_rules.specs.Table.{RunTable, job_id, node_by_id, node_named, id_named, job_named, bitmap_named, child, first_into}
use Rattle.qmp_rules.specs.Chains.{is_listed, holder, keeper, is_settled}
use Rattle.qmp_rules.specs.Refusals.{refused, or_else, place_of}
use Rattle.qmp_asks.specs.Asking.{Asking, Nodes1, place}
use Rattle.qmp_rules.specs.Asks.{is_guarded, if_named, if_there, holds, held_by, clash, first_clash, not_below, not_in_chain, differ, sizes, sizes_differ, first_reached, in_the_way, in_use, in_use_at, id_or, mirrored, takes, file_node, name_of_file, lost, busy, part_begins, part_ends, part_too_long, top_of, job_base, held_nodes, read_nodes, looked_at}
use Rattle.qmp_rules.specs.Places.{IsOfTable, HasPlace}

-- a look whose refusals have one place
abbrev At : ℕ → Option Refusal → Type 0
At p found = (cause : Refusal) → found ≡ Some cause → place_of cause ≡ Some p

at_none : (p : ℕ) → At p None
at_none p cause h = cc

at_some : (p : ℕ) (r : Refusal) → place_of r ≡ Some p → At p (Some r)
at_some p r e cause h = let same : r ≡ cause = cc in subst (λ other. place_of other ≡ Some p) same e

at_refused : (p : ℕ) (b : Bool) (r : Refusal) → place_of r ≡ Some p → At p (refused b r)
at_refused p false r e = at_none p
at_refused p true r e = at_some p r e

at_named : (p : ℕ) (look : List ℕ → Option Refusal) (name : Option (List ℕ))
    → ((n : List ℕ) → At p (look n)) → At p (if_named look name)
at_named p look None h = at_none p
at_named p look (Some name) h = h name

at_there : {A : Type 0} (p : ℕ) (look : A → Option Refusal) (found : Option A)
    → ((x : A) → At p (look x)) → At p (if_there look found)
at_there p look None h = at_none p
at_there p look (Some x) h = h x

at_either : (p : ℕ) (a b : Option Refusal) → At p a → At p b → At p (or_else a b)
at_either p None b ha hb = hb
at_either p (Some r) b ha hb = ha

at_held : (t : RunTable) (id : ℕ) (job : Option JobRecord) → At 19 (held_by t id job)
at_held t id None = at_none 19
at_held t id (Some job) = at_some 19 _ refl

at_in_use : (t : RunTable) (name : List ℕ) (edge : Option Edge) → At 26 (in_use t name edge)
at_in_use t name None = at_none 26
at_in_use t name (Some edge) = at_some 26 _ refl

-- ---- the nodes of a job

at_choice : (p : ℕ) (b : Bool) (x y : Option Refusal) → At p x → At p y → At p (if b then x else y)
at_choice p true x y hx hy = hx
at_choice p false x y hx hy = hy

at_clash : (t : RunTable) (held read : List ℕ) (id : ℕ) → At 19 (clash t held read id)
at_clash t held read id = at_choice 19 (is_listed id held) _ _ (at_held t id (holder t id))
    (at_choice 19 (is_listed id read) _ _ (at_held t id (keeper t id)) (at_none 19))

at_first_clash : (t : RunTable) (held read ids : List ℕ) → At 19 (first_clash t held read ids)
at_first_clash t held read [] = at_none 19
at_first_clash t held read (id ∷ ids) = at_either 19 _ _ (at_clash t held read id) (at_first_clash t held read ids)

at_not_below : (t : RunTable) (top base : ℕ) → At 22 (not_below t top base)
at_not_below t top base = at_refused 22 _ _ refl

at_chain : (t : RunTable) (nodes : Nodes1) → At 22 (not_in_chain t nodes)
at_chain t (Stream device base) =
    at_there 22 _ (job_base t (Stream device base)) (at_not_below t (top_of t (Stream device base)))
at_chain t (Commit device base top) = at_either 22 _ _
    (at_there 22 _ (job_base t (Commit device base top)) (at_not_below t (top_of t (Commit device base top))))
    (at_refused 22 _ _ refl)
at_chain t (Copy device target) = at_none 22

at_differ : (a b : Option NodeRecord) → At 23 (differ a b)
at_differ None b = at_none 23
at_differ (Some a) None = at_none 23
at_differ (Some a) (Some b) = at_refused 23 _ _ refl

at_sizes : (t : RunTable) (nodes : Nodes1) → At 23 (sizes t nodes)
at_sizes t (Stream device base) = at_none 23
at_sizes t (Commit device base top) = at_differ (option_and_then (node_by_id t) (job_base t (Commit device base top)))
    (node_by_id t (top_of t (Commit device base top)))
at_sizes t (Copy device target) = at_differ (node_named t device) (node_named t target)

at_first_reached : (t : RunTable) (target : ℕ) (sources : List ℕ) → At 26 (first_reached t target sources)
at_first_reached t target [] = at_none 26
at_first_reached t target (source ∷ sources) =
    at_either 26 _ _ (at_refused 26 _ _ refl) (at_first_reached t target sources)

at_in_the_way : (t : RunTable) (nodes : Nodes1) → At 26 (in_the_way t nodes)
at_in_the_way t (Stream device base) = at_none 26
at_in_the_way t (Commit device base top) = at_in_use t _ _
at_in_the_way t (Copy device target) =
    at_first_reached t (id_or 0 t (Some target)) (id_or 0 t (Some device) ∷ mirrored t.jobs)

at_busy_by : (t : RunTable) (row : BitmapRow) (job : Option ℕ)
    → At 20 (option_map (λ number. refusal.BitmapBusy row.name (job_id t number)) job)
at_busy_by t row None = at_none 20
at_busy_by t row (Some number) = at_some 20 _ refl

-- ---- asks

pub has_place : (t : RunTable) (told : Told) (asking : Asking) → HasPlace t told asking
unfolding holds
has_place t told (ask.Good member ok) h = at_refused 7 _ _ refl
has_place t told (ask.Begins file offset) h =
    at_there 7 (part_begins offset) (file_node t file) (λ row. at_refused 7 _ _ refl)
has_place t told (ask.Ends file offset size) h =
    at_there 7 (part_ends offset size) (file_node t file) (λ row. at_refused 7 _ _ refl)
has_place t told (ask.Files what) h = absurd h
has_place t told (ask.Named member text) h = at_named 8 _ text (λ n. at_refused 8 _ _ refl)
has_place t told (ask.FileNamed member text) h = at_named 8 _ text (λ n. at_refused 8 _ _ refl)
has_place t told (ask.Found name) h = at_named 9 _ name (λ n. at_refused 9 _ _ refl)
has_place t told (ask.Kept id) h = at_refused 9 _ _ refl
has_place t told (ask.DeviceFound id) h = at_refused 9 _ _ refl
has_place t told (ask.BitmapFound node name) h = at_named 9 _ name (λ n. at_refused 9 _ _ refl)
has_place t told (ask.JobFound id) h = at_refused 10 _ _ refl
has_place t told (ask.FreshNode name) h = at_named 11 _ name (λ n. at_refused 11 _ _ refl)
has_place t told (ask.Apart first second) h = at_named 11 _ second (λ n. at_refused 11 _ _ refl)
has_place t told (ask.FreshDevice id) h = at_refused 11 _ _ refl
has_place t told (ask.FreshJob id) h = at_refused 11 _ _ refl
has_place t told (ask.FreshBitmap node name) h = at_refused 11 _ _ refl
has_place t told (ask.RoomForNodes count) h = at_refused 12 _ _ refl
has_place t told ask.RoomForDevice h = at_refused 12 _ _ refl
has_place t told ask.RoomForJob h = at_refused 12 _ _ refl
has_place t told ask.RoomForBitmap h = at_refused 12 _ _ refl
has_place t told (ask.Drives name which) h =
    at_there 13 (λ row. refused (not (takes which row.kind)) (refusal.Driver row.name)) (option_and_then (node_named t) name)
    (λ row. at_refused 13 _ _ refl)
has_place t told (ask.Closed name) h = at_refused 14 _ _ refl
has_place t told (ask.Fits file offset size) h =
    at_there 14 (part_too_long t offset size) (file_node t file) (λ row. at_refused 14 _ _ refl)
has_place t told (ask.Known file is_raw) h = at_refused 15 _ _ refl
has_place t told (ask.KnownUnder file is_raw) h =
    at_there 15 (λ row. lost t is_raw (name_of_file row)) (file_node t file) (λ row. at_refused 15 _ _ refl)
has_place t told (ask.Settled name) h =
    at_there 18 (λ row. refused (not (is_settled t row.id)) (refusal.Unsettled row.name)) (option_and_then (node_named t) name)
    (λ row. at_refused 18 _ _ refl)
has_place t told (ask.Beside backing file) h = at_named 18 _ backing (λ n. at_refused 18 _ _ refl)
has_place t told (ask.Unheld node) h =
    at_there 19 (λ id. held_by t id (holder t id)) (id_named t node) (λ id. at_held t id (holder t id))
has_place t told (ask.Free nodes) h =
    at_first_clash t (held_nodes t nodes) (read_nodes t nodes) (looked_at t nodes)
has_place t told (ask.BitmapFree node name) h =
    at_there 20 (busy t) (option_and_then (bitmap_named t node) name) (λ row. at_busy_by t row row.busy)
has_place t told (ask.Writable node) h =
    at_there 21 (λ row. refused (is_guarded t row) (refusal.ReadOnly row.name)) (node_named t node) (λ row. at_refused 21 _ _ refl)
has_place t told (ask.WritableUnder file read_only) h =
    at_there 21 (λ row. refused (row.read_only && not read_only) (refusal.ReadOnly row.name)) (node_named t file)
    (λ row. at_refused 21 _ _ refl)
has_place t told (ask.WritableWith node own ok) h = at_refused 21 _ _ refl
has_place t told (ask.InChain nodes) h = at_chain t nodes
has_place t told (ask.SameSize first second) h = at_differ (node_named t first) (node_named t second)
has_place t told (ask.EqualSizes nodes) h = at_sizes t nodes
has_place t told (ask.NoBacking node) h =
    at_there 24 (λ row. refused (is_some (child t row.id Backing)) (refusal.HasBacking row.name)) (node_named t node)
    (λ row. at_refused 24 _ _ refl)
has_place t told (ask.Empty node) h = at_refused 25 _ _ refl
has_place t told (ask.Lone node) h =
    at_there 26 (in_use_at t node) (id_named t node) (λ id. at_in_use t node (first_into id t.edges))
has_place t told (ask.Clear nodes) h = at_in_the_way t nodes
has_place t told (ask.JobReady id) h =
    at_there 27 (λ job. refused (not job.is_ready) (refusal.NotReady id)) (job_named t id) (λ job. at_refused 27 _ _ refl)
has_place t told ask.Abort h = at_some 29 _ refl
