-- Commands that open and make no file: what they are told, and that their refusals name no failed call.
use Rattle.std.proofs.Common.{◌≡◌, ℕ, Bool, true, false, List, [], ◌∷◌, map, inl, inr, refl, sym, ◌∙◌, ap, Option, Some, None}
use Rattle.std.specs.Prelude.{not, cond, filter, option_map, bytes_eq, Contains}
use Rattle.std.proofs.lemmas.Bool.{false≢true}
use Rattle.blk_base.specs.declared.file.Opened.{Opened}
use Rattle.blk_graph.specs.declared.edge.Conflict.{Conflict}
use Rattle.blk_graph.specs.Rule.{first_conflict}
use Rattle.blk_graph.proofs.Members.{Contains-nil, Contains-here, Contains-there, Contains-cases, Contains-filter, list_any-there, list_any-none}
use Rattle.blk_nodes.specs.Nodes.{Nodes}
use Rattle.qmp_codec.specs.Commands.{Cmd}
use Rattle.qmp_codec.specs.declared.command.Command.TheVariants as command
use Rattle.qmp_asks.specs.declared.ask.Ask.TheVariants as ask
use Rattle.qmp_rules.specs.declared.change.Change.{Change}
use Rattle.qmp_rules.specs.declared.refusal.Refusal.{Refusal}
use Rattle.qmp_rules.specs.declared.refusal.Refusal.TheVariants as refusal
use Rattle.qmp_rules.specs.declared.told.Told.{Told}
use Rattle.qmp_rules.specs.Table.{RunTable, id_named, has_name}
use Rattle.qmp_rules.specs.Refusals.{refused, or_else, place_of}
use Rattle.qmp_asks.specs.Asking.{Asking, place}
use Rattle.qmp_rules.specs.Asks.{holds, first_unmet_ask, told_at}
use Rattle.qmp_asks.specs.CommandAsks.{asks_of, is_built, command_name, negotiates}
use Rattle.qmp_rules.specs.Changes.{all_changed}
use Rattle.qmp_rules.specs.Edits.{edits_of, node_ids}
use Rattle.qmp_rules.specs.Answers.{answer, answer_by, told_none, out_of_turn, refusal_to, refusal_behind, conflict_after, conflict_in, conflict_refusal, rewires}
use Rattle.qmp_rules.proofs.PlaceLemmas.{has_place}
use Rattle.flat_machine.specs.State.{State, Mapped, MapsNone, MapsSome, Unsure}
use Rattle.flat_machine.specs.Sights.{told_for, overlays_of, mapped_at, AgreesWith, MayMap}
use Rattle.flat_machine.specs.Agreement.{Contents}
use Rattle.flat_machine.specs.Marking.{dirty_bytes}
use Rattle.flat_machine.specs.Performing.{IsQuiet, AllPerformed}
use Rattle.flat_machine.specs.declared.opening.Opening.{Opening}
use Rattle.flat_machine.proofs.Finds.{same-bytes_eq, bytes_eq-same}
use Rattle.world_parts.specs.Comes.{ShowsState}
use Rattle.world_parts.specs.Snapshots.{TellsMapped}
use Rattle.world_parts.specs.Carrying.{IsCarriedIn, IsCaused, HasAnswerCause, FitsAll, OpensFor, opened_names, as_held, with_counts, counts_of, prints_counts, is_io_refusal, IsLateIn, fault_named, fault_told}
use Rattle.world_parts.specs.Face.{WorldSeen, contents_of}
use Rattle.world_parts.specs.Leaving.{Leaves}
use Rattle.world_parts.specs.Looking.{Site}
use Rattle.world_parts.proofs.Accepted.{either-of}
use Rattle.world_parts.proofs.Counted.{answers-counted}

-- ---- the table refuses for what it has, and names no failed call

pub placed-quiet : (cause : Refusal) (p : ℕ) → place_of cause ≡ Some p → is_io_refusal cause ≡ false
placed-quiet (refusal.Io source count) p placed = absurd cc
placed-quiet (refusal.NoSpace dev) p placed = absurd cc
placed-quiet _ p placed = refl

one-quiet : (t : RunTable) (told : Told) (a : Asking) (cause : Refusal) → told.stopped ≡ None → holds t told a ≡ Some cause → is_io_refusal cause ≡ false
unfolding holds
one-quiet t told (ask.Files what) cause none here = let bad : ⊥ = cc (sym (ap (told_at what) none) ∙ here) in absurd bad
one-quiet t told a cause none here = placed-quiet cause (place a) (has_place t told a tt cause here)

asked-quiet : (t : RunTable) (told : Told) (asks : List Asking) (cause : Refusal) → told.stopped ≡ None → first_unmet_ask t told asks ≡ Some cause → is_io_refusal cause ≡ false
asked-quiet t told [] cause none is = absurd cc
asked-quiet t told (a ∷ asks) cause none is = elim (either-of (holds t told a) (first_unmet_ask t told asks) cause is) [
  | inl here ↦ one-quiet t told a cause none here
  | inr later ↦ asked-quiet t told asks cause none later
]

conflict-quiet : (t : RunTable) (on : Bool) (changes : List Change) (cause : Refusal) → conflict_after on t changes ≡ Some cause → is_io_refusal cause ≡ false
unfolding conflict_in
conflict-quiet t false changes cause is = absurd cc
conflict-quiet t true changes cause is = at (first_conflict (node_ids (all_changed t changes)) (all_changed t changes).edges) is
  where
    at : (pair : Option Conflict) → option_map (conflict_refusal (all_changed t changes)) pair ≡ Some cause → is_io_refusal cause ≡ false
    at None h = absurd cc
    at (Some pair) h = let same : conflict_refusal (all_changed t changes) pair ≡ cause = cc h in rw (← same) refl

pub turn-quiet : (a b : Bool) (cause : Refusal) → out_of_turn a b ≡ Some cause → is_io_refusal cause ≡ false
turn-quiet true true cause is = let same : refusal.Negotiation true ≡ cause = cc is in rw (← same) refl
turn-quiet true false cause is = absurd cc
turn-quiet false true cause is = absurd cc
turn-quiet false false cause is = let same : refusal.Negotiation false ≡ cause = cc is in rw (← same) refl

behind-quiet : (t : RunTable) (told : Told) (c : Cmd) (cause : Refusal) → is_built c ≡ true → refusal_behind t told c ≡ Some cause → is_io_refusal cause ≡ false
behind-quiet t told (command.Transaction c) cause built is = absurd cc
behind-quiet t told c cause built is = conflict-quiet t (rewires c) (edits_of t told_none c) cause is

-- where no file stops the command
pub told_quiet : (t : RunTable) (told : Told) (c : Cmd) (cause : Refusal) → told.stopped ≡ None → refusal_to t told c ≡ Some cause → is_io_refusal cause ≡ false
unfolding refusal_to
told_quiet t told c cause none is = at (is_built c) refl is
  where
    at : (b : Bool) → is_built c ≡ b → or_else (refused (not b) (refusal.UnknownCommand (command_name c)))
        (or_else (out_of_turn (negotiates c) t.negotiated) (or_else (first_unmet_ask t told (asks_of c)) (refusal_behind t told c))) ≡ Some cause
        → is_io_refusal cause ≡ false
    at false known h = let same : refusal.UnknownCommand (command_name c) ≡ cause = cc h in rw (← same) refl
    at true known h = elim (either-of (out_of_turn (negotiates c) t.negotiated) _ cause h) [
      | inl turn ↦ turn-quiet (negotiates c) t.negotiated cause turn
      | inr asked ↦ elim (either-of (first_unmet_ask t told (asks_of c)) _ cause asked) [
        | inl found ↦ asked-quiet t told (asks_of c) cause none found
        | inr behind ↦ behind-quiet t told c cause known behind
      ]
    ]

pub table_quiet : (t : RunTable) (c : Cmd) (cause : Refusal) → refusal_to t told_none c ≡ Some cause → is_io_refusal cause ≡ false
table_quiet t c cause is = told_quiet t told_none c cause refl is

-- a command that opens and makes no file, and of whose images nothing is told
abbrev pub opens_nothing : Cmd → Bool
opens_nothing (command.BlockdevAdd c) = false
opens_nothing (command.BlockdevCreate c) = false
opens_nothing (command.BlockdevSnapshot c) = false
opens_nothing c = true

-- only a creation may pass a capacity
pub fits_all : (w : WorldSeen) (c : Cmd) → opens_nothing c ≡ true → FitsAll w c
fits_all w (command.BlockdevCreate c) opens = absurd cc
fits_all w _ opens = λ dev called passes. passes

-- only an addition opens a file
pub plain_opens : (c : Cmd) → opens_nothing c ≡ true → (old new : List Opened) → opened_names new ≡ opened_names old → OpensFor c old new
plain_opens (command.BlockdevAdd c) opens old new same = absurd cc
plain_opens _ opens old new same = same

pub quiet_cause : (w v : WorldSeen) (c : Cmd) (refusal' : Option Refusal) → opens_nothing c ≡ true
    → ((cause : Refusal) → refusal' ≡ Some cause → is_io_refusal cause ≡ false) → HasAnswerCause w v c refusal'
quiet_cause w v c None opens quiet = fits_all w c opens
quiet_cause w v c (Some cause) opens quiet = at cause (quiet cause refl)
  where
    at : (cause : Refusal) → is_io_refusal cause ≡ false → IsCaused w v c cause
    at (refusal.Io source count) call = absurd cc
    at (refusal.NoSpace dev) call = absurd cc
    at _ call = tt

-- such a refusal names no fault
pub quiet_named : (cause : Refusal) → is_io_refusal cause ≡ false → fault_named cause ≡ None
quiet_named (refusal.Io source count) call = absurd cc
quiet_named _ call = refl

pub quiet_fault : (refusal' : Option Refusal) → ((cause : Refusal) → refusal' ≡ Some cause → is_io_refusal cause ≡ false) → fault_told refusal' ≡ None
quiet_fault None quiet = refl
quiet_fault (Some cause) quiet = quiet_named cause (quiet cause refl)

-- what is told of it says of no overlay that it maps a cluster
pub maps_nothing : (t : RunTable) (nodes : Nodes) (c : Cmd) (mapped : List (List ℕ)) → opens_nothing c ≡ true → TellsMapped t nodes c mapped
maps_nothing t nodes (command.BlockdevSnapshot c) mapped opens = absurd cc
maps_nothing t nodes _ mapped opens = tt

-- ---- what such a command is told: nothing, but which overlays map a cluster

told-nothing : (s : State) (c : Cmd) → opens_nothing c ≡ true → told_for s c ≡ told_none
told-nothing s (command.BlockdevAdd c) opens = absurd cc
told-nothing s (command.BlockdevCreate c) opens = absurd cc
told-nothing s _ opens = refl

maps : Mapped → Bool
maps MapsSome = true
maps MapsNone = false
maps Unsure = false

maps-at : State → Option ℕ → Bool
maps-at s None = false
maps-at s (Some node) = maps (mapped_at s.images node)

maps-named : State → List ℕ → Bool
maps-named s name = maps-at s (id_named s.table name)

seen-so : State → Cmd → List ℕ → Told
seen-so s c ds = record told_none { mapped = filter (maps-named s) (overlays_of c); dirty = ds }

filter-Contains : (p : List ℕ → Bool) (names : List (List ℕ)) (name : List ℕ) → Contains names name → p name ≡ true → Contains (filter p names) name
filter-Contains p [] name there passes = absurd (Contains-nil name there)
filter-Contains p (x ∷ names) name there passes = elim (Contains-cases x names name there) [
  | inl here ↦ rw (← here, passes) (Contains-here name (filter p names))
  | inr later ↦ at (p x) (filter-Contains p names name later passes)
]
  where
    at : (b : Bool) → Contains (filter p names) name → Contains (cond b (x ∷ filter p names) (filter p names)) name
    at true rest = Contains-there x (filter p names) name rest
    at false rest = rest

has-kept : (p : List ℕ → Bool) (names : List (List ℕ)) (name : List ℕ) → Contains names name → (b : Bool) → p name ≡ b → has_name name (filter p names) ≡ b
has-kept p names name there true passes = list_any-there (λ other. bytes_eq other name) (filter p names) name (kept names there) (bytes_eq-same name)
  where
    kept : (names : List (List ℕ)) → Contains names name → Contains (filter p names) name
    kept names there = filter-Contains p names name there passes
has-kept p names name there false passes = list_any-none (λ other. bytes_eq other name) (filter p names) (λ other kept. at other (bytes_eq other name) refl kept)
  where
    at : (other : List ℕ) (b : Bool) → bytes_eq other name ≡ b → Contains (filter p names) other → b ≡ false
    at other true same kept =
        let passed = (Contains-filter p names other kept).1 in
        let is : other ≡ name = same-bytes_eq other name same in
        absurd (false≢true (sym passes ∙ ap p (sym is) ∙ passed))
    at other false same kept = refl

agrees-so : (m : Mapped) (told : Bool) → told ≡ maps m → AgreesWith m told
unfolding maps
agrees-so MapsNone told is = is
agrees-so MapsSome told is = is
agrees-so Unsure told is = tt

seen-mapped : (s : State) (c : Cmd) (ds : List ℕ) → MayMap s (overlays_of c) (seen-so s c ds).mapped
unfolding seen-so maps-named maps-at
seen-mapped s c ds name node there named =
    agrees-so (mapped_at s.images node) _ (has-kept (maps-named s) (overlays_of c) name there _ (rw named refl))

-- overlays are of snapshots, and of commands that aren't carried out yet
built-plain : (c : Cmd) → opens_nothing c ≡ true → is_built c ≡ true → overlays_of c ≡ []
built-plain (command.BlockdevSnapshot c) opens built = absurd cc
built-plain (command.Transaction c) opens built = absurd cc
built-plain _ opens built = refl

unbuilt-answer : (t : RunTable) (told : Told) (c : Cmd) → is_built c ≡ false → answer t told c ≡ answer_by t told c (Some (refusal.UnknownCommand (command_name c)))
unfolding answer refusal_to
unbuilt-answer t told c known = rw known refl

same-by : (t : RunTable) (s : State) (c : Cmd) (ds : List ℕ) → opens_nothing c ≡ true → (b : Bool) → is_built c ≡ b → answer t (seen-so s c ds) c ≡ answer t (with_counts told_none ds) c
unfolding seen-so
same-by t s c ds opens true known = rw (built-plain c opens known) refl
same-by t s c ds opens false known = unbuilt-answer t (seen-so s c ds) c known ∙ left ∙ sym (unbuilt-answer t (with_counts told_none ds) c known)
  where
    left : answer_by t (seen-so s c ds) c (Some (refusal.UnknownCommand (command_name c)))
        ≡ answer_by t (with_counts told_none ds) c (Some (refusal.UnknownCommand (command_name c)))
    left = refl

same-answer : (t : RunTable) (s : State) (c : Cmd) (ds : List ℕ) → opens_nothing c ≡ true → answer t (seen-so s c ds) c ≡ answer t (with_counts told_none ds) c
same-answer t s c ds opens = same-by t s c ds opens (is_built c) refl

-- beside the counts that a query prints
pub told_counts : (o : Opening) (s : State) (w v : WorldSeen) (c : Cmd) (ds : List ℕ) → opens_nothing c ≡ true → (prints_counts c ≡ true → ds ≡ counts_of w) → ShowsState o s w
    → AllPerformed s (answer w.table (with_counts told_none ds) c).changes (contents_of w) (contents_of v) → IsCarriedIn s w v c (with_counts told_none ds)
unfolding seen-so
told_counts o s w v c ds opens counts shows did = record {
  seen = seen-so s c (map dirty_bytes s.dirty);
  is_told = record {
    file = rw (told-nothing s c opens) refl;
    image = rw (told-nothing s c opens) refl;
    refusal = inl (rw (told-nothing s c opens) refl);
    clusters = seen-mapped s c (map dirty_bytes s.dirty);
    bitmaps = refl;
  };
  exact = inl (rw (told-nothing (as_held w s) c opens) refl);
  same =
      same-answer w.table s c (map dirty_bytes s.dirty) opens
      ∙ answers-counted told_none (map dirty_bytes s.dirty) ds w.table c (λ prints. ap (map dirty_bytes) shows.dirty ∙ sym (counts prints));
  performed = did;
}

pub told_nothing : (o : Opening) (s : State) (w v : WorldSeen) (c : Cmd) → opens_nothing c ≡ true → (prints_counts c ≡ true → [] ≡ counts_of w) → ShowsState o s w
    → AllPerformed s (answer w.table told_none c).changes (contents_of w) (contents_of v) → IsCarriedIn s w v c told_none
told_nothing o s w v c opens counts shows did = told_counts o s w v c [] opens counts shows did

-- so it is where the command has to come again
pub late_nothing : (o : Opening) (s : State) (w : WorldSeen) (c : Cmd) → opens_nothing c ≡ true → prints_counts c ≡ false → IsLateIn s w c told_none
unfolding seen-so
late_nothing o s w c opens prints = record {
  seen = seen-so s c (map dirty_bytes s.dirty);
  is_told = record {
    file = rw (told-nothing s c opens) refl;
    image = rw (told-nothing s c opens) refl;
    refusal = inl (rw (told-nothing s c opens) refl);
    clusters = seen-mapped s c (map dirty_bytes s.dirty);
    bitmaps = refl;
  };
  exact = inl (rw (told-nothing (as_held w s) c opens) refl);
  same =
      same-answer w.table s c (map dirty_bytes s.dirty) opens
      ∙ answers-counted told_none (map dirty_bytes s.dirty) [] w.table c (λ is. absurd (false≢true (sym prints ∙ is)));
}

-- ---- a table that differs in what is kept and negotiated alone

pub record HasTableShape (t u : RunTable) : Type 0 where
  pub nodes : u.nodes ≡ t.nodes
  pub edges : u.edges ≡ t.edges
  pub devices : u.devices ≡ t.devices
  pub guests : u.guests ≡ t.guests
  pub jobs : u.jobs ≡ t.jobs

-- ---- what commands that change the table and bitmaps alone leave

pub quiet-self : (c : Contents) → IsQuiet c c
quiet-self c = record { nodes = λ node other. refl; files = λ name other. refl }

-- a refusal of a command that opens nothing does so
pub quiet-leaves : (t : RunTable) (told : Told) (c : Cmd) (cause : Refusal) (u : RunTable) (x : Site) → opens_nothing c ≡ true → Leaves t told c (Some cause) u x x
quiet-leaves t told (command.BlockdevAdd c) cause u x opens = absurd cc
quiet-leaves t told (command.BlockdevCreate c) cause u x opens = absurd cc
quiet-leaves t told _ cause u x opens = refl
