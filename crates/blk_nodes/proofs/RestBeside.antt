-- The rest of a cluster that isn't mapped is read through the backing node, and so never from the image's own file.
use Rattle.std.proofs.Common.{◌≡◌, ◌≢◌, ℕ, zero, suc, ◌/◌, List, Option, Some, None, refl, sym, ◌∙◌, ap, subst}
use Rattle.blk_base.specs.Pieces.{Extent}
use Rattle.blk_base.specs.declared.fault.DevNo.{DevNo}
use Rattle.blk_base.specs.declared.fault.Outcome.TheVariants.{Io}
use Rattle.q2_format.specs.declared.entries.L2Entry.{L2Entry}
use Rattle.q2_format.specs.declared.entries.L2Entry.TheVariants as entries
use Rattle.q2_image.specs.Image.{Known, cluster_size_in, entry_in}
use Rattle.q2_image.specs.Reading.{IsHost}
use Rattle.blk_graph.specs.declared.edge.Edge.{Edge}
use Rattle.blk_nodes.specs.Found.{IsReadOfSource}
use Rattle.blk_nodes.specs.Nodes.{Nodes, DeviceSeen, row_at, device_in, file_of, backing_of, filtered_of}
use Rattle.blk_nodes.specs.Reading.{LeadsTo}
use Rattle.blk_nodes.specs.Sources.{in_below, step_by_entry, step_by, step_of, source_in, source_at}
use Rattle.blk_nodes.specs.Walk.{LeadsToSource}
use Rattle.blk_nodes.specs.declared.row.Driver.TheVariants.{Qcow2}
use Rattle.blk_nodes.specs.declared.row.Row.{Row}
use Rattle.blk_nodes.specs.declared.source.Source.{Source}
use Rattle.blk_nodes.specs.declared.source.Source.TheVariants as sources
use Rattle.blk_nodes.specs.declared.source.Step.{Step}
use Rattle.blk_nodes.specs.declared.source.Step.TheVariants.{Found, Below}
use Rattle.blk_nodes.proofs.Leading.{source_in_leads}

-- bytes that don't stand in a file
abbrev IsBeside : ℕ → Source → Type 0
IsBeside file sources.Zeros = Unit {0}
IsBeside file (sources.File other start) = other ≢ file
IsBeside file (sources.Image node other) = other ≢ file

-- their read leaves its device
pub read_beside : (file : ℕ) (rows : List (Option Row)) (old new : List DeviceSeen) (dev : DevNo) (count : ℕ) (source : Source) (span : Extent) → IsBeside file source
    → IsReadOfSource rows source span old new (Io dev count) → device_in new file ≡ device_in old file
read_beside file rows old new dev count sources.Zeros span beside is = absurd (let bad : ⊥ = cc is.0 in bad)
read_beside file rows old new dev count (sources.File other start) span beside is = is.0.only.others file (λ same. beside (sym same))
read_beside file rows old new dev count (sources.Image node other) span beside is = is.read.0.only.others file (λ same. beside (sym same))

led_beside : (edges : List Edge) (over file : ℕ) (source : Source) → LeadsToSource edges over source → (LeadsTo edges over file → ⊥) → IsBeside file source
led_beside edges over file sources.Zeros leads none = tt
led_beside edges over file (sources.File other start) leads none = λ same. none (subst (LeadsTo edges over) same leads)
led_beside edges over file (sources.Image node other) leads none = λ same. none (subst (LeadsTo edges over) same leads)

module _ (nodes : Nodes) (node place : ℕ) (row : Row) (image : Known) (there : row_at nodes node ≡ Some row) (driver : row.driver ≡ Qcow2 image)
    (bare : IsHost (entry_in image (place / cluster_size_in image)) → ⊥) (file : ℕ)
    (apart : (over : ℕ) → backing_of nodes node ≡ Some over → LeadsTo nodes.graph.edges over file → ⊥) where
  -- what is read where a step of the walk ends
  abbrev source_behind : ℕ → Step → Source
  source_behind turns (Found source) = source
  source_behind turns (Below next) = source_in turns nodes next place

  step_is : step_of nodes node place ≡ step_by_entry node (file_of nodes node) (backing_of nodes node) (entry_in image (place / cluster_size_in image))
  step_is =
      ap (λ (f : Option Row). elim f as (λ _. Step) [ None ↦ Found sources.Zeros | Some row ↦ step_by node (file_of nodes node) (backing_of nodes node) (filtered_of nodes node) place row.driver ]) there
      ∙ ap (step_by node (file_of nodes node) (backing_of nodes node) (filtered_of nodes node) place) driver

  by_backing : (turns : ℕ) (found : Option ℕ) → backing_of nodes node ≡ found → IsBeside file (source_behind turns (in_below found))
  by_backing turns None is = tt
  by_backing turns (Some over) is = led_beside nodes.graph.edges over file (source_in turns nodes over place) (source_in_leads nodes turns over place) (apart over is)

  by_entry : (turns : ℕ) (e : L2Entry) → (IsHost e → ⊥) → IsBeside file (source_behind turns (step_by_entry node (file_of nodes node) (backing_of nodes node) e))
  by_entry turns entries.Unallocated none = by_backing turns (backing_of nodes node) refl
  by_entry turns (entries.Zero host) none = tt
  by_entry turns (entries.Host host) none = absurd (none tt)
  by_entry turns entries.Compressed none = tt
  by_entry turns entries.Reserved none = tt

  by_turns : (turns : ℕ) → IsBeside file (source_in turns nodes node place)
  by_turns zero = tt
  by_turns (suc turns) =
      subst (λ (step : Step). IsBeside file (source_behind turns step)) (sym step_is) (by_entry turns (entry_in image (place / cluster_size_in image)) bare)

  pub rest_beside : IsBeside file (source_at nodes node place)
  unfolding source_at
  rest_beside = by_turns 64
