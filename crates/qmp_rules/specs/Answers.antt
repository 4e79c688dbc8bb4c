-- The answer to a command: the first refusal that holds, or its changes and its result.
use Rattle.std.specs.Prelude.{ℕ, Bool, true, false, not, if◌then◌else◌, List, [], ◌∷◌, ◌++◌, Option, Some, None, option_map, Result, Ok, Err}
use Rattle.serde_json.specs.Data.{Data, object, no_members}
use Rattle.serde_json.specs.Written.{compact_text}
use Rattle.blk_graph.specs.declared.edge.Conflict.{Conflict}
use Rattle.blk_graph.specs.Rule.{first_conflict}
use Rattle.qmp_codec.specs.declared.command.Action.{Action}
use Rattle.qmp_codec.specs.declared.command.Action.TheVariants as action
use Rattle.qmp_codec.specs.declared.command.Command.{Command}
use Rattle.qmp_codec.specs.declared.command.Command.TheVariants as command
use Rattle.qmp_codec.specs.declared.command.Transaction.{Transaction}
use Rattle.qmp_codec.specs.declared.words.CompletionMode.{CompletionMode}
use Rattle.qmp_codec.specs.declared.words.CompletionMode.TheVariants.{Grouped}
use Rattle.qmp_codec.specs.declared.nodes.Added.{Added}
use Rattle.qmp_codec.specs.declared.nodes.Added.TheVariants as added
use Rattle.qmp_codec.specs.declared.stop.CodecStop.TheVariants as stop
use Rattle.qmp_codec.specs.Commands.{Act, Cmd}
use Rattle.qmp_codec.specs.Lines.{Stop, command_at, id_at, asks_for_capabilities}
use Rattle.qmp_codec.specs.Replies.{returned_data, refused_data}
use Rattle.qmp_rules.specs.declared.change.Change.{Change}
use Rattle.qmp_rules.specs.declared.refusal.Refusal.{Refusal}
use Rattle.qmp_rules.specs.declared.refusal.Refusal.TheVariants as refusal
use Rattle.qmp_rules.specs.declared.told.Told.{Told}
use Rattle.qmp_rules.specs.Table.{RunTable, name_at, parent_name}
use Rattle.qmp_rules.specs.Refusals.{refused, or_else, refusal_text, refusal_class}
use Rattle.qmp_rules.specs.Asks.{first_unmet_ask}
use Rattle.qmp_asks.specs.CommandAsks.{asks_of, action_rest, command_name, is_built, negotiates}
use Rattle.qmp_rules.specs.Changes.{all_changed}
use Rattle.qmp_rules.specs.Edits.{edits_of, action_edits, spoiled, node_ids}
use Rattle.qmp_rules.specs.Queries.{jobs_data, nodes_data}

-- nothing is told
abbrev pub told_none : Told
told_none = record { length = None; size = None; stopped = None; mapped = []; dirty = [] }

-- ---- the rule on permissions

abbrev pub conflict_refusal : RunTable → Conflict → Refusal
conflict_refusal t pair =
    refusal.Conflict (name_at t pair.node) (parent_name t pair.asks) (parent_name t pair.denies)
    pair.perm

-- the first pair of edges that breaks it
unfoldable pub conflict_in : RunTable → Option Refusal
conflict_in t = option_map (conflict_refusal t) (first_conflict (node_ids t) t.edges)

-- what is added beside a file node alone makes no edge
abbrev pub is_joined : Added (List ℕ) → Bool
is_joined (added.File name) = false
is_joined added.Unknown = false
is_joined _ = true

-- a command that puts edges
abbrev pub rewires : Cmd → Bool
rewires (command.BlockdevAdd c) = is_joined c.driver
rewires (command.DeviceAdd c) = true
rewires (command.BlockdevSnapshot c) = true
rewires (command.BlockStream c) = true
rewires (command.BlockCommit c) = true
rewires (command.BlockdevMirror c) = true
rewires (command.BlockdevBackup c) = true
rewires _ = false

abbrev pub action_rewires : Act → Bool
action_rewires (action.Snapshot c) = true
action_rewires (action.Backup c) = true
action_rewires _ = false

-- the edges as the changes make them break it
abbrev pub conflict_after : Bool → RunTable → List Change → Option Refusal
conflict_after false t changes = None
conflict_after true t changes = conflict_in (all_changed t changes)

-- ---- actions of a transaction, each judged by the table as the ones before it leave it

-- the jobs of a grouped transaction have the number of its first one
abbrev pub is_grouped : Option CompletionMode → Bool
is_grouped (Some Grouped) = true
is_grouped mode = false

abbrev pub group_of : RunTable → Transaction (List Act) → Option ℕ
group_of t c = if is_grouped c.completion_mode then Some t.started else None

abbrev pub action_refusal : RunTable → Told → Option ℕ → Act → Option Refusal
action_refusal t told group a =
    or_else (first_unmet_ask t told (action_rest a))
    (conflict_after (action_rewires a) t (action_edits t group a))

abbrev pub actions_refusal : RunTable → Told → Option ℕ → List Act → Option Refusal
actions_refusal t told group [] = None
actions_refusal t told group (a ∷ actions) =
    or_else (action_refusal t told group a)
    (actions_refusal (all_changed t (action_edits t group a)) told group actions)

abbrev pub actions_edits : RunTable → Option ℕ → List Act → List Change
actions_edits t group [] = []
actions_edits t group (a ∷ actions) =
    action_edits t group a ++ actions_edits (all_changed t (action_edits t group a)) group actions

-- ---- commands

-- a command is not known yet
abbrev pub unbuilt : Cmd → Option Refusal
unbuilt c = refused (not (is_built c)) (refusal.UnknownCommand (command_name c))

-- capabilities are negotiated first, and once
abbrev pub out_of_turn : Bool → Bool → Option Refusal
out_of_turn false false = Some (refusal.Negotiation false)
out_of_turn true true = Some (refusal.Negotiation true)
out_of_turn _ _ = None

-- behind the asks: what the actions ask of the table, or what the edges break
abbrev pub refusal_behind : RunTable → Told → Cmd → Option Refusal
refusal_behind t told (command.Transaction c) = actions_refusal t told (group_of t c) c.actions
refusal_behind t told c = conflict_after (rewires c) t (edits_of t told_none c)

-- the first refusal of a command that holds
unfoldable pub refusal_to : RunTable → Told → Cmd → Option Refusal
refusal_to t told c =
    or_else (unbuilt c)
    (or_else (out_of_turn (negotiates c) t.negotiated)
    (or_else (first_unmet_ask t told (asks_of c)) (refusal_behind t told c)))

abbrev pub command_edits : RunTable → Told → Cmd → List Change
command_edits t told (command.Transaction c) = actions_edits t (group_of t c) c.actions
command_edits t told c = edits_of t told c

-- what a command gives: of most nothing
abbrev pub returned : RunTable → Told → Cmd → Data
returned t told command.QueryBlockJobs = jobs_data t
returned t told (command.QueryNamedBlockNodes flat) = nodes_data t told.dirty
returned t told _ = object no_members

-- a failed call leaves what a creation began
abbrev pub left_by : RunTable → Cmd → Refusal → List Change
left_by t (command.BlockdevCreate c) (refusal.Io from count) = spoiled t c.options
left_by t (command.BlockdevCreate c) (refusal.NoSpace dev) = spoiled t c.options
left_by t c cause = []

-- an answer: what becomes of the table, and what is said
pub record Answer : Type 0 where
  pub changes : List Change
  pub reply : Result Data Refusal

abbrev pub accepted : List Change → Data → Answer
accepted changes d = record { changes = changes; reply = Ok d }

abbrev pub refused_so : List Change → Refusal → Answer
refused_so changes cause = record { changes = changes; reply = Err cause }

abbrev pub answer_by : RunTable → Told → Cmd → Option Refusal → Answer
answer_by t told c None = accepted (command_edits t told c) (returned t told c)
answer_by t told c (Some cause) = refused_so (left_by t c cause) cause

unfoldable pub answer : RunTable → Told → Cmd → Answer
answer t told c = answer_by t told c (refusal_to t told c)

-- ---- lines

-- what is wrong with the members of a line whose command is known
abbrev pub member_refusal : Stop → Option Refusal
member_refusal (stop.Missing member) = Some (refusal.Missing member)
member_refusal (stop.Unexpected member) = Some (refusal.Unexpected member)
member_refusal (stop.BadType member) = Some (refusal.BadType member)
member_refusal _ = None

-- why there is no command to look for
abbrev pub stop_refusal : Stop → Option Refusal
stop_refusal stop.BadJson = Some refusal.BadJson
stop_refusal (stop.UnknownCommand name) = Some (refusal.UnknownCommand name)
stop_refusal _ = None

-- a line that is no command: negotiation is looked at before its members
unfoldable pub line_refusal : RunTable → List ℕ → Stop → Option Refusal
line_refusal t line why =
    or_else (stop_refusal why)
    (or_else (out_of_turn (asks_for_capabilities line) t.negotiated) (member_refusal why))

abbrev pub answer_for : RunTable → Told → List ℕ → Result Cmd Stop → Answer
answer_for t told line (Ok c) = answer t told c
answer_for t told line (Err why) = elim (line_refusal t line why) as (λ _. Answer) [
  | None ↦ accepted [] (object no_members)
  | Some cause ↦ refused_so [] cause
]

-- the answer to a line
unfoldable pub line_answer : RunTable → Told → List ℕ → Answer
line_answer t told line = answer_for t told line (command_at line)

-- its text, with the id that the line has
abbrev pub answer_data : Option Data → Result Data Refusal → Data
answer_data id (Ok d) = returned_data id d
answer_data id (Err cause) = refused_data id (refusal_class cause) (refusal_text cause)

unfoldable pub line_text : RunTable → Told → List ℕ → List ℕ
line_text t told line = compact_text (answer_data (id_at line) (line_answer t told line).reply)
