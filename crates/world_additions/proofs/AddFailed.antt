-- Which call failed, where an addition is refused for a failed call.
use Rattle.std.proofs.Common.{◌≡◌, ◌⊎◌, ℕ, Bool, true, false, List, [], ◌∷◌, inl, inr, refl, sym, ◌∙◌, ap, Option, Some, None}
use Rattle.std.specs.Prelude.{codes, is_none, nat_lt, not, ◌==◌, ◌&&◌, ◌||◌, option_and_then, option_map}
use Rattle.blk_base.specs.declared.fault.DevNo.{DevNo}
use Rattle.blk_base.specs.declared.fault.FaultFrom.TheVariants.{Dev}
use Rattle.blk_graph.specs.Rule.{first_conflict}
use Rattle.blk_graph.specs.declared.edge.Conflict.{Conflict}
use Rattle.q2_image.specs.declared.stop.ImageStop.{ImageStop}
use Rattle.q2_image.specs.declared.stop.ImageStop.TheVariants as stop
use Rattle.qmp_codec.specs.declared.command.Command.TheVariants as command
use Rattle.qmp_codec.specs.declared.nodes.AddQcow2.{AddQcow2}
use Rattle.qmp_codec.specs.declared.nodes.AddRaw.{AddRaw}
use Rattle.qmp_rules.specs.Answers.{conflict_after, conflict_in, conflict_refusal, is_joined, out_of_turn, refusal_to, told_none}
use Rattle.qmp_asks.specs.Asking.{Asking, place, same_look}
use Rattle.qmp_rules.specs.Asks.{first_unmet_ask, holds, if_there, told_at}
use Rattle.qmp_rules.specs.Changes.{all_changed}
use Rattle.qmp_rules.specs.Edits.{edits_of, node_ids}
use Rattle.qmp_rules.specs.Looks.{ImageSight, unfit_image, raw_stop, stop_at, too_long}
use Rattle.qmp_asks.specs.NodeAsks.{add_asks, backing_name}
use Rattle.qmp_rules.specs.Refusals.{place_of, refused}
use Rattle.qmp_rules.specs.Table.{RunTable, node_named}
use Rattle.qmp_asks.specs.Values.{begins_within, ends_within, part_fits}
use Rattle.qmp_asks.specs.declared.ask.Ask.TheVariants as ask
use Rattle.qmp_rules.specs.declared.change.Change.{Change}
use Rattle.qmp_rules.specs.declared.refusal.Refusal.{Refusal}
use Rattle.qmp_rules.specs.declared.refusal.Refusal.TheVariants as refusal
use Rattle.qmp_rules.specs.declared.rows.NodeRecord.{NodeRecord}
use Rattle.qmp_asks.specs.declared.look.Look.{Look}
use Rattle.qmp_asks.specs.declared.look.Look.TheVariants as look
use Rattle.qmp_rules.specs.declared.told.Stopped.{Stopped}
use Rattle.qmp_rules.specs.declared.told.Told.{Told}
use Rattle.qmp_rules.proofs.PlaceLemmas.{has_place}
use Rattle.world_parts.specs.Adding.{Adding, unopened}
use Rattle.world_parts.specs.Carrying.{is_io_refusal}
use Rattle.world_additions.proofs.AddRefused.{refusal-is}
use Rattle.world_parts.proofs.Accepted.{either-of}

-- ---- a refusal for a failed call is what was told

-- it names none, or the files told it
abbrev pub IsOfCall : Told → Refusal → Type 0
IsOfCall told cause = (is_io_refusal cause ≡ false) ⊎ ((stopped : Stopped) × (told.stopped ≡ Some stopped) × (stopped.refusal ≡ cause))

placed-quiet : (cause : Refusal) (p : ℕ) → place_of cause ≡ Some p → is_io_refusal cause ≡ false
placed-quiet (refusal.Io source count) p placed = absurd cc
placed-quiet (refusal.NoSpace dev) p placed = absurd cc
placed-quiet _ p placed = refl

told-by : (told : Told) (what : Look) (cause : Refusal) (found : Option Stopped) → told.stopped ≡ found → told_at what found ≡ Some cause → IsOfCall told cause
told-by told what cause None e is = absurd (let bad : ⊥ = cc is in bad)
told-by told what cause (Some stopped) e is = by_test (same_look what stopped.look) is
  where
    by_test : (b : Bool) → refused b stopped.refusal ≡ Some cause → IsOfCall told cause
    by_test false h = absurd (let bad : ⊥ = cc h in bad)
    by_test true h = let same : stopped.refusal ≡ cause = cc h in inr (stopped, e, same)

one-of : (t : RunTable) (told : Told) (a : Asking) (cause : Refusal) → holds t told a ≡ Some cause → IsOfCall told cause
unfolding holds
one-of t told (ask.Files what) cause here = told-by told what cause told.stopped refl here
one-of t told a cause here = inl (placed-quiet cause (place a) (has_place t told a tt cause here))

asked-of : (t : RunTable) (told : Told) (asks : List Asking) (cause : Refusal) → first_unmet_ask t told asks ≡ Some cause → IsOfCall told cause
asked-of t told [] cause is = absurd (let bad : ⊥ = cc is in bad)
asked-of t told (a ∷ asks) cause is = elim (either-of (holds t told a) (first_unmet_ask t told asks) cause is) [
  | inl here ↦ one-of t told a cause here
  | inr later ↦ asked-of t told asks cause later
]

turn-of : (b : Bool) (cause : Refusal) → out_of_turn false b ≡ Some cause → is_io_refusal cause ≡ false
turn-of true cause is = absurd (let bad : ⊥ = cc is in bad)
turn-of false cause is = let same : refusal.Negotiation false ≡ cause = cc is in rw (← same) refl

conflict-of : (t : RunTable) (on : Bool) (changes : List Change) (cause : Refusal) → conflict_after on t changes ≡ Some cause → is_io_refusal cause ≡ false
unfolding conflict_in
conflict-of t false changes cause is = absurd (let bad : ⊥ = cc is in bad)
conflict-of t true changes cause is = at (first_conflict (node_ids (all_changed t changes)) (all_changed t changes).edges) is
  where
    at : (pair : Option Conflict) → option_map (conflict_refusal (all_changed t changes)) pair ≡ Some cause → is_io_refusal cause ≡ false
    at None h = absurd (let bad : ⊥ = cc h in bad)
    at (Some pair) h = let same : conflict_refusal (all_changed t changes) pair ≡ cause = cc h in rw (← same) refl

pub refused-of : (t : RunTable) (told : Told) (c : Adding) (cause : Refusal) → refusal_to t told (command.BlockdevAdd c) ≡ Some cause → IsOfCall told cause
refused-of t told c cause is = elim (either-of (out_of_turn false t.negotiated) _ cause (sym (refusal-is t told c) ∙ is)) [
  | inl turn ↦ inl (turn-of t.negotiated cause turn)
  | inr rest ↦ elim (either-of (first_unmet_ask t told (add_asks c)) _ cause rest) [
    | inl asked ↦ asked-of t told (add_asks c) cause asked
    | inr behind ↦ inl (conflict-of t (is_joined c.driver) (edits_of t told_none (command.BlockdevAdd c)) cause behind)
  ]
]

-- ---- what files tell by themselves names no failed call

abbrev pub NamesNoFailedCall : Option Stopped → Type 0
NamesNoFailedCall None = Unit {0}
NamesNoFailedCall (Some stopped) = is_io_refusal stopped.refusal ≡ false

pub calm-long : (name : List ℕ) (b : Bool) → NamesNoFailedCall (stop_at look.File (too_long name b) None)
calm-long name true = refl
calm-long name false = tt

calm-three : (name : List ℕ) (a b d : Bool) → NamesNoFailedCall (stop_at look.Begin (refused a (refusal.BadValue (codes "offset")))
    (stop_at look.End (refused b (refusal.BadValue (codes "size"))) (stop_at look.File (too_long name d) None)))
calm-three name true b d = refl
calm-three name false true d = refl
calm-three name false false true = refl
calm-three name false false false = tt

pub calm-part : (name : List ℕ) (raw : AddRaw (List ℕ)) (n : ℕ) → NamesNoFailedCall (raw_stop name raw n)
calm-part name raw n =
    calm-three name (not (begins_within raw.offset n)) (not (ends_within raw.offset raw.size n))
    (nat_lt 549755813888 n || not (part_fits raw.offset raw.size n))

calm-size : (name : List ℕ) (size : ℕ) (found : Option NodeRecord)
    → NamesNoFailedCall (stop_at look.Size (if_there (λ row. refused (not (row.size == size)) (refusal.SizeDiffers name row.name)) found) None)
calm-size name size None = tt
calm-size name size (Some row) = by_test (not (row.size == size))
  where
    by_test : (b : Bool) → NamesNoFailedCall (stop_at look.Size (refused b (refusal.SizeDiffers name row.name)) None)
    by_test true = refl
    by_test false = tt

calm-backing : (name : List ℕ) (b : Bool) (later : Option Stopped) → NamesNoFailedCall later → NamesNoFailedCall (stop_at look.Backing (refused b (refusal.BackingNeeded name)) later)
calm-backing name true later calm = refl
calm-backing name false later calm = calm

calm-image : (cause : Option ImageStop) (later : Option Stopped) → NamesNoFailedCall later → NamesNoFailedCall (stop_at look.Image (option_map refusal.Image cause) later)
calm-image (Some cause) later calm = refl
calm-image None later calm = calm

pub calm-inside : (t : RunTable) (name : List ℕ) (c : AddQcow2 (List ℕ)) (sight : ImageSight) → NamesNoFailedCall (unfit_image t name c sight)
calm-inside t name c sight =
    calm-image sight.stop _
    (calm-backing name (sight.names_backing && is_none c.backing) _
    (calm-size name sight.size (option_and_then (node_named t) (backing_name c.backing))))

-- a stop of them is none of a failed call
pub calm-not : (told : Told) (found : Option Stopped) → told.stopped ≡ found → NamesNoFailedCall found → (stopped : Stopped) → told.stopped ≡ Some stopped → is_io_refusal stopped.refusal ≡ false
calm-not told None e calm stopped is = absurd (let bad : None ≡ Some stopped = sym e ∙ is in cc bad)
calm-not told (Some other) e calm stopped is =
    let both : Some other ≡ Some stopped = sym e ∙ is in
    let same : other ≡ stopped = cc both in
    ap (λ (s : Stopped). is_io_refusal s.refusal) (sym same) ∙ calm

-- of an image: a read failed, or it is refused
pub unopened-of : (number : DevNo) (cause : ImageStop) → ((n : ℕ) × (cause ≡ stop.Io n) × (unopened number cause ≡ refusal.Io (Dev number) n)) ⊎ (is_io_refusal (unopened number cause) ≡ false)
unopened-of number (stop.Io n) = inl (n, refl, refl)
unopened-of number (stop.Header why) = inr refl
unopened-of number (stop.Offset offset) = inr refl
unopened-of number (stop.Reserved table index) = inr refl
unopened-of number (stop.Compressed cluster) = inr refl
unopened-of number (stop.Overlap cluster) = inr refl
unopened-of number (stop.Refcount cluster) = inr refl
unopened-of number stop.HeaderFull = inr refl
unopened-of number stop.NoMemory = inr refl
