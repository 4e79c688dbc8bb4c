-- Where the edges lead down a chain.
use Rattle.std.proofs.Common.{◌≡◌, ℕ, zero, suc, List, Option, Some, None, refl, sym, ap, subst, inl, inr}
use Rattle.blk_base.specs.Pieces.{Extent}
use Rattle.blk_base.specs.declared.device.DeviceCall.{DeviceCall}
use Rattle.blk_base.specs.declared.device.DeviceCall.TheVariants.{Read}
use Rattle.blk_base.specs.declared.fault.DevNo.{DevNo}
use Rattle.blk_base.specs.declared.fault.Outcome.{Outcome}
use Rattle.blk_base.specs.declared.fault.Outcome.TheVariants.{Good, Torn, Io, NoSpace}
use Rattle.q2_format.specs.declared.entries.L2Entry.{L2Entry}
use Rattle.q2_format.specs.declared.entries.L2Entry.TheVariants as entries
use Rattle.q2_image.specs.Image.{entry_in}
use Rattle.q2_image.specs.Writing.{own_place}
use Rattle.blk_graph.specs.Edits.{child_of}
use Rattle.blk_graph.specs.Paths.{Reaches}
use Rattle.blk_graph.specs.declared.edge.Edge.{Edge}
use Rattle.blk_graph.specs.declared.edge.Parent.TheVariants.{Node}
use Rattle.blk_graph.specs.declared.edge.Role.{Role}
use Rattle.blk_graph.specs.declared.edge.Role.TheVariants.{File as FileRole, Backing, Filtered}
use Rattle.blk_graph.proofs.ChildLemmas.{child-edge}
use Rattle.blk_graph.proofs.PathLemmas.{Reaches-edge, Reaches-joined}
use Rattle.blk_nodes.specs.Found.{IsReadOfSource}
use Rattle.blk_nodes.specs.Nodes.{Nodes, DeviceSeen, row_at, file_of, backing_of, filtered_of}
use Rattle.blk_nodes.specs.Reading.{LeadsTo, IsReadAt, IsReadBelow, StoppedBelow}
use Rattle.blk_nodes.specs.Sources.{in_file, in_image, in_below, step_by_entry, step_by, step_of, source_in, source_at}
use Rattle.blk_nodes.specs.Walk.{LeadsToSource, LeadsOn}
use Rattle.blk_nodes.specs.Writing.{HasPieceCause, IsRestRead, WritesImage}
use Rattle.blk_nodes.specs.declared.row.Driver.{Driver}
use Rattle.blk_nodes.specs.declared.row.Driver.TheVariants.{File, Raw, Qcow2, CopyOnRead, Filter}
use Rattle.blk_nodes.specs.declared.source.Source.{Source}
use Rattle.blk_nodes.specs.declared.source.Source.TheVariants as sources
use Rattle.blk_nodes.specs.declared.source.Step.{Step}
use Rattle.blk_nodes.specs.declared.source.Step.TheVariants.{Found, Below}
use Rattle.blk_nodes.specs.declared.row.Row.{Row}

pub leads_on : (edges : List Edge) (a b c : ℕ) → LeadsTo edges a b → LeadsTo edges b c → LeadsTo edges a c
leads_on edges a b c (inl same) rest = subst (λ (n : ℕ). LeadsTo edges n c) (sym same) rest
leads_on edges a b c (inr first) (inl same) = inr (subst (Reaches edges a) same first)
leads_on edges a b c (inr first) (inr rest) = inr (Reaches-joined edges a b c first rest)

pub leads_to_source : (edges : List Edge) (a b : ℕ) (source : Source) → LeadsTo edges a b → LeadsToSource edges b source → LeadsToSource edges a source
leads_to_source edges a b sources.Zeros first rest = tt
leads_to_source edges a b (sources.File file start) first rest = leads_on edges a b file first rest
leads_to_source edges a b (sources.Image at file) first rest = leads_on edges a b file first rest

pub child_leads : (edges : List Edge) (node child : ℕ) (role : Role) → child_of (Node node) role edges ≡ Some child → LeadsTo edges node child
child_leads edges node child role is = let e = child-edge (Node node) role edges child is in inr (subst (Reaches edges node) e.to (Reaches-edge edges node e.edge e.there e.from))

file_leads : (edges : List Edge) (node start : ℕ) (role : Role) (found : Option ℕ) → child_of (Node node) role edges ≡ found → LeadsOn edges node (in_file found start)
file_leads edges node start role None is = tt
file_leads edges node start role (Some file) is = child_leads edges node file role is

image_leads : (edges : List Edge) (node : ℕ) (role : Role) (found : Option ℕ) → child_of (Node node) role edges ≡ found → LeadsOn edges node (in_image node found)
image_leads edges node role None is = tt
image_leads edges node role (Some file) is = child_leads edges node file role is

below_leads : (edges : List Edge) (node : ℕ) (role : Role) (found : Option ℕ) → child_of (Node node) role edges ≡ found → LeadsOn edges node (in_below found)
below_leads edges node role None is = tt
below_leads edges node role (Some next) is = child_leads edges node next role is

entry_leads : (edges : List Edge) (node : ℕ) (entry : L2Entry)
    → LeadsOn edges node (step_by_entry node (child_of (Node node) FileRole edges) (child_of (Node node) Backing edges) entry)
entry_leads edges node entries.Unallocated = below_leads edges node Backing (child_of (Node node) Backing edges) refl
entry_leads edges node (entries.Zero host) = tt
entry_leads edges node (entries.Host host) = image_leads edges node FileRole (child_of (Node node) FileRole edges) refl
entry_leads edges node entries.Compressed = tt
entry_leads edges node entries.Reserved = tt

pub step_leads : (edges : List Edge) (node place : ℕ) (driver : Driver)
    → LeadsOn edges node (step_by node (child_of (Node node) FileRole edges) (child_of (Node node) Backing edges) (child_of (Node node) Filtered edges) place driver)
step_leads edges node place File = inl refl
step_leads edges node place (Raw part) = file_leads edges node _ FileRole (child_of (Node node) FileRole edges) refl
step_leads edges node place (Qcow2 image) = entry_leads edges node (entry_in image _)
step_leads edges node place CopyOnRead = below_leads edges node FileRole (child_of (Node node) FileRole edges) refl
step_leads edges node place (Filter kind) = below_leads edges node Filtered (child_of (Node node) Filtered edges) refl

-- a read of what a node leads to
module _ (old : Nodes) (devices : List DeviceSeen) (node file : ℕ) (call : DeviceCall) (leads : LeadsTo old.graph.edges node file) where
  pub read_at_below : (outcome : Outcome) → IsReadAt file call old.devices devices outcome → IsReadBelow old (record old { devices = devices }) node outcome
  read_at_below Good is = ap (λ (ds : List DeviceSeen). let now : Nodes = record old { devices = ds } in now) is
  read_at_below (Torn done dev count) is = is
  read_at_below (Io dev count) is = record { file = file; leads = leads; stopped = is.0 }
  read_at_below (NoSpace dev) is = is

pub read_below : (old : Nodes) (devices : List DeviceSeen) (node : ℕ) (source : Source) (span : Extent) (outcome : Outcome) → LeadsToSource old.graph.edges node source
    → IsReadOfSource old.rows source span old.devices devices outcome → IsReadBelow old (record old { devices = devices }) node outcome
read_below old devices node sources.Zeros span outcome leads is =
    let same : record old { devices = devices } ≡ old = ap (λ (ds : List DeviceSeen). let now : Nodes = record old { devices = ds } in now) is.1 in
    subst (IsReadBelow old (record old { devices = devices }) node) (sym is.0) same
read_below old devices node (sources.File file start) span outcome leads is = read_at_below old devices node file (Read start span.len) leads outcome is
read_below old devices node (sources.Image at file) span outcome leads is =
    read_at_below old devices node file (Read (own_place is.image span) span.len) leads outcome is.read

-- ---- where the bytes of a node stand

step_of_leads : (nodes : Nodes) (node place : ℕ) → LeadsOn nodes.graph.edges node (step_of nodes node place)
step_of_leads nodes node place = by (row_at nodes node)
  where
    step : Row → Step
    step row = step_by node (file_of nodes node) (backing_of nodes node) (filtered_of nodes node) place row.driver

    by : (found : Option Row) → LeadsOn nodes.graph.edges node (elim found as (λ _. Step) [ None ↦ Found sources.Zeros | Some row ↦ step row ])
    by None = tt
    by (Some row) = step_leads nodes.graph.edges node place row.driver

pub source_in_leads : (nodes : Nodes) (turns node place : ℕ) → LeadsToSource nodes.graph.edges node (source_in turns nodes node place)
source_in_leads nodes zero node place = tt
source_in_leads nodes (suc turns) node place =
    by (step_of nodes node place) (step_of_leads nodes node place) (λ next. source_in_leads nodes turns next place)
  where
    by : (step : Step) → LeadsOn nodes.graph.edges node step → ((next : ℕ) → LeadsToSource nodes.graph.edges next (source_in turns nodes next place))
        → LeadsToSource nodes.graph.edges node (elim step as (λ _. Source) [ Found source ↦ source | Below next ↦ source_in turns nodes next place ])
    by (Found source) leads rest = leads
    by (Below next) leads rest = leads_to_source nodes.graph.edges node next (source_in turns nodes next place) leads (rest next)

pub source_leads : (nodes : Nodes) (node place : ℕ) → LeadsToSource nodes.graph.edges node (source_at nodes node place)
unfolding source_at
source_leads nodes node place = source_in_leads nodes 64 node place

-- ---- a piece of an image that was stopped before its first byte

module _ (old new : Nodes) (node : ℕ) (dev : DevNo) (count : ℕ) where
  stopped_source : (source : Source) (span : Extent) → LeadsToSource old.graph.edges node source → IsReadOfSource old.rows source span old.devices new.devices (Io dev count)
      → StoppedBelow old new node dev count
  stopped_source sources.Zeros span leads is = absurd (let bad : ⊥ = cc is.0 in bad)
  stopped_source (sources.File file start) span leads is = record { file = file; leads = leads; stopped = is.0 }
  stopped_source (sources.Image at file) span leads is = record { file = file; leads = leads; stopped = is.read.0 }

  stopped_rest : (rest : Option Extent) → IsRestRead rest old new node (Io dev count) → StoppedBelow old new node dev count
  stopped_rest None is = absurd is
  stopped_rest (Some span) is = stopped_source (source_at old node span.start) span (source_leads old node span.start) is

  -- a device that the node leads to stopped it
  pub stopped_piece : (fits : ℕ → Type 0) (own : Option ℕ) (rest : Option Extent) (n : ℕ) (outcome : Outcome) (wrote : WritesImage fits own rest old new node n outcome)
      → HasPieceCause (fits wrote.before.capacity) own rest n wrote.file old new node wrote.before wrote.after (Io dev count) → StoppedBelow old new node dev count
  stopped_piece fits own rest n outcome wrote cause = elim cause.1 [
    | inl its ↦ record {
      file = wrote.file;
      leads = child_leads old.graph.edges node wrote.file FileRole wrote.edge;
      stopped = record { before = wrote.before; after = wrote.after; held = wrote.held; left = wrote.left; stopped = its.0; only = its.1 };
    }
    | inr read ↦ stopped_rest rest read
  ]
