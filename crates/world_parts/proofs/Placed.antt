-- A world whose store, nodes and table are others: what stays belonging together, and what an answer says of it.
use Rattle.std.proofs.Common.{◌≡◌, ℕ, true, false, List, [], ◌++◌, Option, Some, None, Ok, Err, refl, sym, ◌∙◌, ap, subst, inl}
use Rattle.std.specs.Prelude.{Result, is_some}
use Rattle.std.proofs.lemmas.Bool.{false≢true}
use Rattle.flat_machine.specs.Marks.{AreCalm, drained_by}
use Rattle.blk_history.specs.Fold.{With}
use Rattle.qmp_codec.specs.Commands.{Cmd}
use Rattle.qmp_codec.specs.Lines.{Stop}
use Rattle.qmp_codec.specs.declared.command.Command.TheVariants as command
use Rattle.qmp_rules.specs.Answers.{Answer, answer, answer_by, command_edits, left_by, refusal_to, told_none}
use Rattle.qmp_rules.specs.Changes.{changed, all_changed}
use Rattle.qmp_rules.specs.Edits.{file_uses}
use Rattle.qmp_rules.specs.Table.{RunTable, device_by_number}
use Rattle.qmp_rules.specs.declared.change.Change.{Change}
use Rattle.qmp_rules.specs.declared.change.Change.TheVariants.{UseFile}
use Rattle.qmp_rules.specs.declared.refusal.Refusal.{Refusal}
use Rattle.qmp_rules.specs.declared.rows.DeviceRow.{DeviceRow}
use Rattle.qmp_rules.specs.declared.told.Told.{Told}
use Rattle.flat_machine.specs.Agreement.{Contents}
use Rattle.flat_machine.specs.Changed.{stepped}
use Rattle.flat_machine.specs.Legal.{IsForbidden}
use Rattle.flat_machine.specs.Replies.{begins_job}
use Rattle.flat_machine.specs.Performing.{IsQuiet, AllPerformed}
use Rattle.flat_machine.specs.State.{Guest, State}
use Rattle.flat_machine.specs.Wiring.{TableAtRest}
use Rattle.flat_machine.specs.declared.opening.Opening.{Opening}
use Rattle.flat_machine.proofs.TableRests.{command_rests}
use Rattle.world_parts.specs.Adding.{Opens, opens}
use Rattle.world_parts.specs.Carrying.{IsCarried, IsPutBack, IsPutBackBy, IsPutBackIn, opened_names, prints_counts}
use Rattle.world_parts.specs.Coherent.{AreAllowed, IsCoherent}
use Rattle.world_parts.specs.Comes.{ShowsState}
use Rattle.world_parts.specs.Counting.{HidesNoFault, RunsOn}
use Rattle.world_parts.specs.Deleting.{Ground, ground_of}
use Rattle.world_parts.specs.Face.{WorldSeen, contents_of}
use Rattle.world_parts.specs.Leaving.{Leaves, LeavesBack, clean_told}
use Rattle.world_parts.specs.Looking.{Site, StoreIsBack}
use Rattle.world_parts.specs.Staging.{site_of}
use Rattle.world_parts.specs.Stores.{StoreInRun}
use Rattle.world_parts.proofs.CarryPlain.{HasTableShape, fits_all, opens_nothing, plain_opens, quiet_cause, quiet-leaves, quiet-self, table_quiet, told_nothing, quiet_fault, maps_nothing}
use Rattle.world_parts.proofs.CountLemmas.{runs-devices, same-devices}
use Rattle.world_parts.proofs.Uncalled.{called_itself}
use Rattle.world_parts.proofs.CountsKept.{hides-same}

-- the world on other ground, with another table
abbrev pub placed : WorldSeen → Ground → RunTable → WorldSeen
placed w x t = record w {
  files = x.store.files;
  opened = x.store.opened;
  room = x.store.room;
  faults = x.store.faults;
  failed_call = x.store.failed_call;
  nodes = x.nodes;
  table = t;
}

-- ---- answers

pub answer-is : (t : RunTable) (told : Told) (c : Cmd) (first : Option Refusal) → refusal_to t told c ≡ first → answer t told c ≡ answer_by t told c first
unfolding answer
answer-is t told c first is = ap (answer_by t told c) is

-- what is accepted leaves a table at rest
pub rests_by : (w : WorldSeen) (u : RunTable) (c : Cmd) → begins_job c ≡ false → refusal_to w.table told_none c ≡ None → u ≡ all_changed w.table (answer w.table told_none c).changes
    → TableAtRest w.table → TableAtRest u
rests_by w u c begins none is was =
    let changes : u ≡ all_changed w.table (command_edits w.table told_none c) =
    is ∙ ap (λ (a : Answer). all_changed w.table a.changes) (answer-is w.table told_none c None none) in
    subst TableAtRest (sym changes) (command_rests w.table told_none told_none c begins was none).1

-- ---- commands that open and make no file

-- it is carried out, and was told nothing
abbrev pub CarriedUntold : WorldSeen → WorldSeen → Cmd → Option Refusal → Type 0
CarriedUntold w v c refusal = (carried : IsCarried w v c refusal) × (carried.told ≡ told_none)

pub carried_by : (w v : WorldSeen) (c : Cmd) → opens_nothing c ≡ true → prints_counts c ≡ false → refusal_to w.table told_none c ≡ None
    → v.table ≡ all_changed w.table (answer w.table told_none c).changes → v.progress ≡ w.progress → v.drains ≡ w.drains → v.works ≡ w.works
    → AreCalm w.table w.progress.guests (drained_by w.table c) → opened_names v.opened ≡ opened_names w.opened → RunsOn w v
    → HidesNoFault w v None → Leaves w.table (clean_told told_none) c None v.table (site_of w) (site_of v)
    → (IsCoherent w.table w.nodes w.opened w.progress → IsCoherent v.table v.nodes v.opened v.progress)
    → ((o : Opening) (s : State) → is_some w.files ≡ true → ShowsState o s w → AllPerformed s (answer w.table told_none c).changes (contents_of w) (contents_of v))
    → CarriedUntold w v c None
carried_by w v c opens silent none table progress drains works calm names runs hides site coherent performed =
    let carried : IsCarried w v c None = record {
      told = told_none;
      counts = λ prints. absurd (false≢true (sym silent ∙ prints));
      by_files = tt;
      maps = maps_nothing w.table w.nodes c [] opens;
      answered = none;
      table = table;
      progress = progress;
      drains = drains;
      works = works;
      calm = λ is. calm;
      runs = runs;
      hides = hides;
      opens = plain_opens c opens w.opened v.opened names;
      site = site;
      cause = fits_all w c opens;
      coherent = coherent;
      shows = λ told o s shows. told_nothing o s w v c opens (λ prints. absurd (false≢true (sym silent ∙ prints))) shows (performed o s told shows);
    } in
    (carried, refl)

-- a refusal that leaves nothing behind
pub refused_by : (w : WorldSeen) (c : Cmd) (cause : Refusal) → opens_nothing c ≡ true → prints_counts c ≡ false → refusal_to w.table told_none c ≡ Some cause → left_by w.table c cause ≡ []
    → CarriedUntold w w c (Some cause)
refused_by w c cause opens silent some nothing =
    let changes : (answer w.table told_none c).changes ≡ [] = ap (λ (a : Answer). a.changes) (answer-is w.table told_none c (Some cause) some) ∙ nothing in
    let carried : IsCarried w w c (Some cause) = record {
      told = told_none;
      counts = λ prints. absurd (false≢true (sym silent ∙ prints));
      by_files = tt;
      maps = maps_nothing w.table w.nodes c [] opens;
      answered = some;
      table = sym (ap (all_changed w.table) changes);
      progress = refl;
      drains = refl;
      works = refl;
      calm = λ is. absurd (let bad : ⊥ = cc is in bad);
      runs = runs-devices w w refl refl refl refl refl refl (same-devices w.nodes.devices);
      hides = subst (HidesNoFault w w) (sym (quiet_fault (Some cause) (λ other is. table_quiet w.table c other (some ∙ is)))) (hides-same w w refl refl refl);
      opens = plain_opens c opens w.opened w.opened refl;
      site = quiet-leaves w.table (clean_told told_none) c cause w.table (site_of w) opens;
      cause = quiet_cause w w c (Some cause) opens (λ other is. table_quiet w.table c other (some ∙ is));
      coherent = λ was. was;
      shows = λ told o s shows. told_nothing o s w w c opens (λ prints. absurd (false≢true (sym silent ∙ prints))) shows
          (subst (λ (cs : List Change). AllPerformed s cs (contents_of w) (contents_of w)) (sym changes) (quiet-self (contents_of w)));
    } in
    (carried, refl)

-- want of memory
pub put_back : (w : WorldSeen) → IsPutBack w w
put_back w = record {
  table = refl;
  progress = refl;
  bitmaps = refl;
  drains = refl;
  works = refl;
  runs = runs-devices w w refl refl refl refl refl refl (same-devices w.nodes.devices);
  files = refl;
  called = called_itself w.nodes;
  opens = inl refl;
  fault = None;
  hides = hides-same w w refl refl refl;
  coherent = λ was. was;
}

looks-itself : (at : Option Opens) (s : StoreInRun) → StoreIsBack at s s
looks-itself None s = refl
looks-itself (Some at) s = inl refl

back-itself : (t : RunTable) (c : Cmd) (x : Site) → LeavesBack t c x x
back-itself t (command.BlockdevAdd c) x = inl (record { store = looks-itself (opens c.driver) x.store; kept = refl })
back-itself t _ x = refl

-- before the command called anything
pub put_back_by : (w : WorldSeen) (c : Cmd) → IsPutBackBy w w c
unfolding put_back
put_back_by w c = record { back = put_back w; site = back-itself w.table c (site_of w); failed = tt }

pub put_back_in : (w : WorldSeen) (line : Result Cmd Stop) → IsPutBackIn w w line
put_back_in w (Ok c) = put_back_by w c
put_back_in w (Err why) = refl

pub placed_same : (w : WorldSeen) (x : Ground) (u : RunTable) → x ≡ ground_of w → u ≡ w.table → w ≡ placed w x u
placed_same w x u ground table = ap (λ (y : Ground). placed w y w.table) (sym ground) ∙ ap (placed w x) (sym table)

-- ---- between events and within them

-- a guest's device is the same
pub allowed_same : (t now : RunTable) (guests : List Guest) → ((g : ℕ) → device_by_number now g ≡ device_by_number t g) → AreAllowed t guests → AreAllowed now guests
allowed_same t now guests same are g f flies =
    subst (λ (device : Option DeviceRow). With device (λ d. IsForbidden f.op d.read_only → ⊥)) (sym (same g)) (are g f flies)

-- ---- a file is used

pub shape_used : (t : RunTable) (name : List ℕ) → HasTableShape t (changed t (UseFile name))
unfolding changed
shape_used t name = record { nodes = refl; edges = refl; devices = refl; guests = refl; jobs = refl }

pub shape_same : (t : RunTable) → HasTableShape t t
shape_same t = record { nodes = refl; edges = refl; devices = refl; guests = refl; jobs = refl }

module _ (t now : RunTable) (shape : HasTableShape t now) where
  -- nodes read and files hold the same
  pub quiet_shape : (w : WorldSeen) → w.table ≡ t → IsQuiet (contents_of w) (contents_of (record w { table = now }))
  quiet_shape w is = record {
    nodes = λ node but. refl;
    files = λ name but. rw (shape.nodes, is) refl;
  }

-- the table and the state behind these changes
abbrev pub table_with_use : RunTable → Option (List ℕ) → RunTable
table_with_use t None = t
table_with_use t (Some file) = changed t (UseFile file)

abbrev pub state_used : State → Option (List ℕ) → State
state_used s None = s
state_used s (Some file) = stepped s (UseFile file)

pub shape_by : (t : RunTable) (file : Option (List ℕ)) → HasTableShape t (table_with_use t file)
shape_by t None = shape_same t
shape_by t (Some file) = shape_used t file

pub table_used : (s : State) (t : RunTable) (file : Option (List ℕ)) → s.table ≡ t → (state_used s file).table ≡ table_with_use t file
table_used s t None same = same
table_used s t (Some file) same = ap (λ (u : RunTable). changed u (UseFile file)) same

pub changed_used : (t : RunTable) (file : Option (List ℕ)) (changes : List Change) → all_changed t (file_uses file ++ changes) ≡ all_changed (table_with_use t file) changes
changed_used t None changes = refl
changed_used t (Some file) changes = refl

pub performed_used : (w : WorldSeen) (s : State) (file : Option (List ℕ)) (changes : List Change) (now : Contents)
    → AllPerformed (state_used s file) changes (contents_of (record w { table = table_with_use w.table file })) now → AllPerformed s (file_uses file ++ changes) (contents_of w) now
performed_used w s None changes now did = did
performed_used w s (Some file) changes now did =
    (contents_of (record w { table = changed w.table (UseFile file) }), quiet_shape w.table (changed w.table (UseFile file)) (shape_used w.table file) w refl, did)
