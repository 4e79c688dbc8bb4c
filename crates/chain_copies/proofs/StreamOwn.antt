-- What a stream's top has of its own stays, and so does how far the stream has come.
use Rattle.std.proofs.Common.{◌≡◌, ℕ, zero, suc, ◌*◌, ◌/◌, ◌^◌, ◌<◌, ◌≤◌, Bool, true, false, cond, List, [], ◌∷◌, length, get_or, Option, Some, None, Result, Ok, Err, refl, sym, ◌∙◌, ap, subst, inl, inr, arith}
use Rattle.std.specs.Prelude.{slice_index, option_map}
use Rattle.std.proofs.lemmas.Bool.{cases_eq}
use Rattle.std.proofs.lemmas.List.{get_or-replicate, get_or-set_other}
use Rattle.blk_base.specs.Pieces.{Extent}
use Rattle.blk_base.specs.declared.fault.DevStop.{DevStop}
use Rattle.blk_base.specs.declared.fault.Fault.{Fault}
use Rattle.blk_base.specs.declared.fault.Outcome.{Outcome}
use Rattle.blk_base.specs.declared.fault.Outcome.TheVariants.{Good, Torn, Io, NoSpace}
use Rattle.blk_graph.specs.Edits.{child_of}
use Rattle.blk_graph.specs.declared.edge.Edge.{Edge}
use Rattle.blk_graph.specs.Graph.{Graph}
use Rattle.blk_graph.specs.declared.edge.Parent.TheVariants.{Node}
use Rattle.blk_graph.specs.declared.edge.Role.TheVariants.{File as FileRole, Backing, Filtered}
use Rattle.q2_image.specs.Image.{Known}
use Rattle.blk_nodes.specs.Contents.{disk_of, disk_under}
use Rattle.blk_nodes.specs.Copying.{MapsEach, MapsNext, ReadsPiece}
use Rattle.blk_nodes.specs.Nodes.{Nodes, row_at, file_of, backing_of}
use Rattle.blk_nodes.specs.Owning.{has_own, has_own_by}
use Rattle.blk_nodes.specs.Parts.{IsImage}
use Rattle.blk_nodes.specs.Reading.{LeadsTo}
use Rattle.blk_nodes.specs.Renaming.{IsKnownNamed, RenamesNode}
use Rattle.blk_nodes.specs.Writing.{IsApartFrom, IsOverApart, LeavesNodes, MayWriteThrough, CanBeWritten, own_file}
use Rattle.blk_nodes.specs.declared.row.Driver.{Driver}
use Rattle.blk_nodes.specs.declared.row.Driver.TheVariants.{File, Raw, Qcow2, CopyOnRead, Filter}
use Rattle.blk_nodes.specs.declared.row.Row.{Row}
use Rattle.blk_nodes.proofs.Leading.{child_leads, leads_on}
use Rattle.blk_nodes.proofs.Rows.{has_image}
use Rattle.block_jobs.specs.Work.{IsJobWork, JobWork, all_left, is_left}
use Rattle.std.proofs.Math.Nat.{mul_comm}
use Rattle.blk_bitmaps.specs.Rows.{granule_count}
use Rattle.block_jobs.proofs.PartLemmas.{among}
use Rattle.node_copies.specs.Between.{below_by, below_of, chain_end, end_in, is_base}
use Rattle.node_copies.proofs.Owned.{own_kept}
use Rattle.node_copies.proofs.Puts.{leaves_called}
use Rattle.blk_graph.specs.Edits.{without_parent}
use Rattle.blk_graph.proofs.NodeLemmas.{without_parent-apart}
use Rattle.blk_graph.proofs.PathLemmas.{Reaches-covered, Reaches-edge}
use Rattle.blk_nodes.specs.Copying.{IsBeside}
use Rattle.blk_nodes.specs.Renaming.{OwnsImage}
use Rattle.block_jobs.specs.Work.{begun}
use Rattle.block_jobs.proofs.WorkLemmas.{begun_stands}
use Rattle.qmp_codec.specs.declared.event.JobKind.{JobKind}
use Rattle.chain_copies.specs.Streams.{IsOverBase, IsPlaceSettled, IsStreamAhead, KeepsOwn}

-- ---- what is a node's own

keeps_same : (nodes : Nodes) (top : ℕ) → KeepsOwn nodes nodes top
keeps_same nodes top = record { backing = refl; own = λ place own. own }

pub keeps_then : (old mid new : Nodes) (top : ℕ) → KeepsOwn old mid top → KeepsOwn mid new top → KeepsOwn old new top
keeps_then old mid new top first next = record { backing = next.backing ∙ first.backing; own = λ place own. next.own place (first.own place own) }

keeps_by : (old new : Nodes) (top : ℕ) → new ≡ old → KeepsOwn old new top
keeps_by old new top same = subst (λ (n : Nodes). KeepsOwn old n top) (sym same) (keeps_same old top)

pub keeps_written : (old new : Nodes) (node top : ℕ) → LeavesNodes old new node → KeepsOwn old new top
keeps_written old new node top kept = record {
  backing = ap (λ (g : Graph). child_of (Node top) Backing g.edges) kept.graph;
  own = λ place own. own_kept old new node kept place top own;
}

-- a piece that was read, and put to the images that it met
module _ (span : Extent) (bytes : List ℕ) (top : ℕ) where
  keeps_next : (below : Outcome) (mid new : Nodes) (node : ℕ) (outcome : Outcome) → MapsNext below mid new node span bytes outcome → KeepsOwn mid new top
  keeps_next Good mid new node outcome is = keeps_written mid new node top is.kept
  keeps_next (Torn done dev count) mid new node outcome is = keeps_by mid new top is.0
  keeps_next (Io dev count) mid new node outcome is = keeps_by mid new top is.0
  keeps_next (NoSpace dev) mid new node outcome is = keeps_by mid new top is.0

  keeps_mapped : (images : List ℕ) (old new : Nodes) (outcome : Outcome) → MapsEach images old new span bytes outcome → KeepsOwn old new top
  keeps_mapped [] old new outcome is = keeps_by old new top is.0
  keeps_mapped (node ∷ rest) old new outcome (mid, below, each, next) =
      keeps_then old mid new top (keeps_mapped rest old mid below each) (keeps_next below mid new node outcome next)

pub keeps_read : (old new : Nodes) (node top : ℕ) (span : Extent) (bytes : List ℕ) (outcome : Outcome) → ReadsPiece old new node span bytes outcome → KeepsOwn old new top
keeps_read old new node top span bytes outcome (inl lacks) = keeps_by old new top lacks.same
keeps_read old new node top span bytes outcome (inr reads) = elim reads.went [
  | inl stops ↦ keeps_written old new node top (leaves_called old new node stops.kept)
  | inr maps ↦ keeps_mapped span bytes top _ old new outcome maps
]

-- an image that was given another backing name has the entries that it had
named_own : (r : Result (Unit {0}) DevStop) (image now : Known) (name format : Option (List ℕ)) (place : ℕ) → IsKnownNamed r image name format now
    → has_own_by place (Qcow2 now) ≡ has_own_by place (Qcow2 image)
named_own (Ok done) image now name format place is = ap (λ (k : Known). has_own_by place (Qcow2 k)) is
named_own (Err stop) image now name format place (inl is) = ap (λ (k : Known). has_own_by place (Qcow2 k)) is
named_own (Err stop) image now name format place (inr (inl is)) = ap (λ (k : Known). has_own_by place (Qcow2 k)) is
named_own (Err stop) image now name format place (inr (inr is)) = ap (λ (k : Known). has_own_by place (Qcow2 k)) is

pub keeps_renamed : (old new : Nodes) (node top : ℕ) (name format : Option (List ℕ)) (result : Result (Unit {0}) Fault) → RenamesNode old new node name format result
    → KeepsOwn old new top
keeps_renamed old new node top name format result did = record {
  backing = ap (λ (g : Graph). child_of (Node top) Backing g.edges) did.graph;
  own = λ place own. elim (cases_eq top node) [
    | inl same ↦
        let r = did.renamed in
        let now : has_own place (row_at new node) ≡ has_own_by place (Qcow2 r.now) = ap (has_own place) r.left in
        let was : has_own place (row_at old node) ≡ has_own_by place (Qcow2 r.image) = ap (has_own place) r.there ∙ ap (has_own_by place) r.driver in
        ap (λ (n : ℕ). has_own place (row_at new n)) same ∙ now ∙ named_own r.at.renamed.answer r.image r.now name format place r.at.renamed.rename.known
        ∙ sym was ∙ ap (λ (n : ℕ). has_own place (row_at old n)) (sym same) ∙ own
    | inr apart ↦
        ap (has_own place) (ap (λ (rows : List (Option Row)). get_or rows top None) did.rows ∙ get_or-set_other old.rows node top (row_at new node) None apart) ∙ own
  ];
}

pub keeps_driver : (old new : Nodes) (top : ℕ) → backing_of new top ≡ backing_of old top
    → option_map (λ (r : Row). r.driver) (row_at new top) ≡ option_map (λ (r : Row). r.driver) (row_at old top) → KeepsOwn old new top
keeps_driver old new top backing same = record {
  backing = backing;
  own = λ place own. by_driver place (row_at new top) ∙ ap (own_of place) same ∙ sym (by_driver place (row_at old top)) ∙ own;
}
  where
    own_of : ℕ → Option Driver → Bool
    own_of place None = false
    own_of place (Some d) = has_own_by place d

    by_driver : (place : ℕ) (found : Option Row) → has_own place found ≡ own_of place (option_map (λ (r : Row). r.driver) found)
    by_driver place None = refl
    by_driver place (Some row) = refl

-- ---- how far a stream has come

module _ (old new : Nodes) (top : ℕ) (base : Option ℕ) (keeps : KeepsOwn old new top)
    (below : (node : ℕ) → backing_of old top ≡ Some node → disk_of new node ≡ disk_of old node)
    (goal : (node : ℕ) → base ≡ Some node → disk_of new node ≡ disk_of old node) where
  under_same : (found : Option ℕ) → ((node : ℕ) → found ≡ Some node → disk_of new node ≡ disk_of old node) → disk_under (disk_of new) found ≡ disk_under (disk_of old) found
  under_same None each = refl
  under_same (Some node) each = each node refl

  pub place_stays : (place : ℕ) → IsPlaceSettled old top base place → IsPlaceSettled new top base place
  place_stays place (inl own) = inl (keeps.own place own)
  place_stays place (inr same) =
      inr (ap (λ (f : Option ℕ). slice_index (disk_under (disk_of new) f) place) keeps.backing
      ∙ ap (λ (d : List ℕ). slice_index d place) (under_same (backing_of old top) below)
      ∙ same
      ∙ ap (λ (d : List ℕ). slice_index d place) (sym (under_same base goal)))

  pub ahead_stays : (work : JobWork) → IsStreamAhead old top base work → IsStreamAhead new top base work
  ahead_stays work ahead = λ place less gone. place_stays place (ahead place less gone)

pub ahead_with_more : (nodes : Nodes) (top : ℕ) (base : Option ℕ) (was now : JobWork) → now.size ≡ was.size
    → ((place : ℕ) → is_left was place ≡ true → is_left now place ≡ true)
    → IsStreamAhead nodes top base was → IsStreamAhead nodes top base now
ahead_with_more nodes top base was now size more ahead = λ place less gone. ahead place (subst (λ (n : ℕ). place < n) size less) (by place gone (is_left was place) refl)
  where
    by : (place : ℕ) → is_left now place ≡ false → (b : Bool) → is_left was place ≡ b → b ≡ false
    by place gone true is = let bad : true ≡ false = sym (more place is) ∙ gone in absurd (cc bad)
    by place gone false is = refl

pub begins_ahead : (nodes : Nodes) (top : ℕ) (base : Option ℕ) (work : JobWork) → IsJobWork work → IsStreamAhead nodes top base (all_left work)
begins_ahead nodes top base work is = λ place less gone.
    let some = is.some in
    let k : ℕ = place / work.part in
    let on : k * work.part < work.size = omega (arith, less, some, mul_comm k work.part) in
    let within : k < granule_count work.size work.part = (among work.size work.part k some).1 on in
    let bad : true ≡ false = sym (get_or-replicate (length work.left) k true false (subst (λ (n : ℕ). k < n) (sym is.left) within)) ∙ gone in
    absurd (cc bad)

pub begun_ahead : (nodes : Nodes) (top : ℕ) (base : Option ℕ) (kind : JobKind) (job size : ℕ) → size ≤ 2 ^ 47
    → IsStreamAhead nodes top base (all_left (begun kind job size 65536))
begun_ahead nodes top base kind job size most =
    begins_ahead nodes top base (begun kind job size 65536) (begun_stands kind job size 65536 most (omega arith))

-- ---- the nodes below a top are apart from it

-- fewer edges lead to fewer nodes
pub fewer_leads : (edges : List Edge) (gone from to : ℕ) → LeadsTo (without_parent (Node gone) edges) from to → LeadsTo edges from to
fewer_leads edges gone from to (inl same) = inl same
fewer_leads edges gone from to (inr path) =
    inr (Reaches-covered (without_parent (Node gone) edges) edges
    (λ a e there parent. Reaches-edge edges a e (without_parent-apart (Node gone) edges e there).0 parent) from to path.first path.rest path.path)

module _ (nodes : Nodes) where
  below_leads : (node next : ℕ) → below_of nodes node ≡ Some next → LeadsTo nodes.graph.edges node next
  below_leads node next is = by (row_at nodes node) is
    where
      by_driver : (d : Driver) → below_by nodes node d ≡ Some next → LeadsTo nodes.graph.edges node next
      by_driver File at = absurd (cc at)
      by_driver (Raw part) at = absurd (cc at)
      by_driver (Qcow2 image) at = child_leads nodes.graph.edges node next Backing at
      by_driver CopyOnRead at = child_leads nodes.graph.edges node next FileRole at
      by_driver (Filter kind) at = child_leads nodes.graph.edges node next Filtered at

      by : (found : Option Row) → elim found as (λ _. Option ℕ) [ None ↦ None | Some row ↦ below_by nodes node row.driver ] ≡ Some next → LeadsTo nodes.graph.edges node next
      by None at = absurd (cc at)
      by (Some row) at = by_driver row.driver at

  end_leads_in : (turns : ℕ) (base : Option ℕ) (node end : ℕ) → end_in turns nodes base node ≡ Some end → LeadsTo nodes.graph.edges node end
  end_leads_in zero base node end is = absurd (cc is)
  end_leads_in (suc turns) base node end is = by (is_base base node) is (λ next. end_leads_in turns base next end)
    where
      on : (found : Option ℕ) → below_of nodes node ≡ found → elim found as (λ _. Option ℕ) [ None ↦ None | Some next ↦ end_in turns nodes base next ] ≡ Some end
          → ((next : ℕ) → end_in turns nodes base next ≡ Some end → LeadsTo nodes.graph.edges next end) → LeadsTo nodes.graph.edges node end
      on None there at rest = absurd (cc at)
      on (Some next) there at rest = leads_on nodes.graph.edges node next end (below_leads node next there) (rest next at)

      by : (b : Bool) → cond b (Some node) (elim (below_of nodes node) as (λ _. Option ℕ) [ None ↦ None | Some next ↦ end_in turns nodes base next ]) ≡ Some end
          → ((next : ℕ) → end_in turns nodes base next ≡ Some end → LeadsTo nodes.graph.edges next end) → LeadsTo nodes.graph.edges node end
      by true at rest = inl (cc at)
      by false at rest = on (below_of nodes node) refl at rest

  pub end_leads : (base : Option ℕ) (node end : ℕ) → chain_end nodes base node ≡ Some end → LeadsTo nodes.graph.edges node end
  unfolding chain_end
  end_leads base node end is = end_leads_in 64 base node end is

  module _ (top : ℕ) (is_image : IsImage nodes top) (may : MayWriteThrough nodes top) where
    pub image_apart : IsOverApart nodes top
    image_apart =
        let found = has_image (row_at nodes top) (λ _. Unit {0}) is_image in
        let rows : may.row ≡ found.0 = cc (sym may.there ∙ found.2) in
        subst (CanBeWritten nodes top) (ap (λ (r : Row). r.driver) rows ∙ found.3) may.can

    own_is : (row : Row) (file : ℕ) → row_at nodes top ≡ Some row → own_file nodes top row.driver ≡ Some file → file_of nodes top ≡ Some file
    own_is row file there own =
        let found = has_image (row_at nodes top) (λ _. Unit {0}) is_image in
        let rows : row ≡ found.0 = cc (sym there ∙ found.2) in
        subst (λ (d : Driver). own_file nodes top d ≡ Some file) (ap (λ (r : Row). r.driver) rows ∙ found.3) own

    pub below_apart : (below : ℕ) → backing_of nodes top ≡ Some below → IsApartFrom nodes below top
    below_apart below over = λ row file there own. image_apart below file over (own_is row file there own)

    pub base_apart : (base : ℕ) → IsOverBase nodes top (Some base) → IsApartFrom nodes base top
    base_apart base (below, over, ends) = λ row file there own leads.
        image_apart below file over (own_is row file there own) (leads_on nodes.graph.edges below base file (end_leads (Some base) below base ends) leads)

    pub own_image : OwnsImage nodes top
    own_image file edge =
        let found = has_image (row_at nodes top) (λ _. Unit {0}) is_image in
        let rows : may.row ≡ found.0 = cc (sym may.there ∙ found.2) in
        let own : own_file nodes top may.row.driver ≡ Some file = ap (own_file nodes top) (ap (λ (r : Row). r.driver) rows ∙ found.3) ∙ edge in
        may.owns file own

  pub apart_beside : (top other : ℕ) → IsImage nodes top → IsApartFrom nodes other top → IsBeside nodes other top
  apart_beside top other is_image apart = λ file edge leads.
      let found = has_image (row_at nodes top) (λ _. Unit {0}) is_image in
      apart found.0 file found.2 (ap (own_file nodes top) found.3 ∙ edge) (fewer_leads nodes.graph.edges top other file leads)

-- ---- writes through a top

pub ahead_written : (old new : Nodes) (top : ℕ) (base : Option ℕ) (work : JobWork) → IsImage old top → MayWriteThrough old top → IsOverBase old top base
    → LeavesNodes old new top → ((other : ℕ) → IsApartFrom old other top → disk_of new other ≡ disk_of old other)
    → IsStreamAhead old top base work → IsStreamAhead new top base work
ahead_written old new top base work is_image may over kept others =
    ahead_stays old new top base (keeps_written old new top top kept)
    (λ below is. others below (below_apart old top is_image may below is))
    (λ node is. others node (base_apart old top is_image may node (subst (IsOverBase old top) is over))) work
