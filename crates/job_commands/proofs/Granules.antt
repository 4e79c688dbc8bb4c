-- The granules of bitmaps stand behind each kind of change, commands, ends, and all other entries.
use Rattle.std.proofs.Common.{◌≡◌, ◌≢◌, ℕ, Bool, true, false, cond, List, [], ◌∷◌, ◌++◌, map, length, refl, sym, ap, ◌∙◌, subst, inl, inr, Option, Some, None}
use Rattle.std.specs.Prelude.{◌==◌, ◌||◌, not}
use Rattle.std.specs.List.{Contains}
use Rattle.std.proofs.lemmas.Bool.{false≢true, eq-eqb}
use Rattle.std.proofs.lemmas.List.{length-replicate}
use Rattle.blk_base.specs.Pieces.{Extent}
use Rattle.blk_base.specs.declared.fault.Outcome.{Outcome}
use Rattle.blk_bitmaps.specs.Rows.{is_granule_size, granule_count, span_touches, with_frozen}
use Rattle.blk_bits.specs.Granules.{contains, overlaps_member}
use Rattle.blk_graph.specs.declared.edge.Role.TheVariants.{Filtered}
use Rattle.blk_graph.proofs.Members.{Contains-nil, Contains-filter, Contains-map, find-Some}
use Rattle.blk_history.specs.Disk.{piece, done_in}
use Rattle.blk_history.specs.Machine.{Flight, done_by}
use Rattle.blk_history.specs.declared.entry.JobEnd.{JobEnd}
use Rattle.blk_history.specs.declared.event.Event.{Event}
use Rattle.blk_history.specs.declared.event.Event.TheVariants.{Admit, Refuse, Piece, Retire, Reply, Reached, Start, Ready, End, Done}
use Rattle.block_jobs.proofs.PartLemmas.{length-those_below}
use Rattle.trace_codec.specs.declared.op.Op.{Op}
use Rattle.trace_codec.specs.declared.op.Op.TheVariants.{Read, Write, Zero, Flush, Discard}
use Rattle.qmp_codec.specs.Commands.{Cmd}
use Rattle.qmp_codec.specs.declared.nodes.Created.{Created}
use Rattle.qmp_codec.specs.declared.nodes.Created.TheVariants as created
use Rattle.qmp_asks.specs.CommandAsks.{asks_of}
use Rattle.qmp_rules.specs.declared.change.Change.{Change}
use Rattle.qmp_rules.specs.declared.change.Change.TheVariants as change
use Rattle.qmp_rules.specs.declared.change.JobOutcome.{JobOutcome}
use Rattle.qmp_rules.specs.declared.rows.BitmapRow.{BitmapRow}
use Rattle.qmp_rules.specs.declared.rows.JobRecord.{JobRecord}
use Rattle.qmp_rules.specs.declared.rows.NodeRecord.{NodeRecord}
use Rattle.qmp_rules.specs.declared.rows.UsedBitmap.{UsedBitmap}
use Rattle.qmp_rules.specs.declared.told.Told.{Told}
use Rattle.qmp_rules.specs.Chains.{filter_role, disk_node, is_over, unsettled_over, written_under}
use Rattle.qmp_rules.specs.Changes.{changed, all_changed, unsettled}
use Rattle.qmp_rules.specs.Edits.{edits_of, spoiled}
use Rattle.qmp_rules.specs.Ends.{drops_aside, filter_gone, end_edits, given_back_to}
use Rattle.qmp_rules.specs.Queries.{bytes_of_node}
use Rattle.qmp_rules.specs.Table.{RunTable, node_by_id, job_at, opening_table}
use Rattle.flat_machine.specs.Changed.{back_of, back_by, all_stepped}
use Rattle.flat_machine.specs.Jobs.{unsure, outcome_of, changes_at_end, aside_by, dirty_at_start, noted_start, unleft, ended, readied_by, started, target_written}
use Rattle.flat_machine.specs.Machine.{after, with_part, with_piece, with_disk, node_written, note, noted, is_noted, path, read_through, copies_through, flight_of}
use Rattle.flat_machine.specs.Marking.{clean, made_clean, made_dirty, marked, dirtied_by, put_aside, taken_back, is_dirty_of, dirty_at, where_dirty, where_recording, merge_from}
use Rattle.flat_machine.specs.Recording.{dirty_beside, dirty_after, dirty_by, dirty_noted}
use Rattle.flat_machine.specs.State.{State, Dirty, drive_of}
use Rattle.flat_machine.specs.Wiring.{TableAtRest}
use Rattle.flat_machine.proofs.Asked.{NoneHolds, none-holds}
use Rattle.flat_machine.proofs.Recorded.{all_stepped-dirty, part-dirty}
use Rattle.flat_machine.proofs.Resting.{stepped_table}
use Rattle.flat_machine.proofs.Tables.{pushed-cases}
use Rattle.job_tables.specs.Accepted.{IsMet}
use Rattle.job_tables.specs.Jobs.{JobsStand}
use Rattle.job_tables.proofs.Changes.{filter_of}
use Rattle.job_tables.proofs.Ended.{AreQuiet, quiet_given, moves_by, quiet_rest, rest_by, end_is, IsQuiet}
use Rattle.job_tables.proofs.Nobodys.{job_filtered}
use Rattle.job_commands.specs.Begun.{IsOneCommand, job_begun}
use Rattle.job_commands.specs.Bitmaps.{IsNoReply}
use Rattle.job_commands.specs.Granules.{GranulesOf, GranulesStand}
use Rattle.job_commands.proofs.Copied.{AreOfStart, IsOfStart, begins_of_start}
use Rattle.job_commands.proofs.Copies.{begun_among}
use Rattle.job_commands.proofs.Moving.{IsMoving, AreMoving, moves_moving}
use Rattle.job_commands.proofs.Shapes.{FitsNode, ChangesBitmap, MayChange, command_spares}
use Rattle.job_commands.proofs.Sizes.{StaysNode, row_stays_same, row_stays_mapped, keeps_where, keeps_unsettled, change_stays, size_there}
use Rattle.job_commands.proofs.Spared.{SparesJobs, AllSpareJobs}

-- ---- a bitmap of which the set changes

record IsShaped (d later : Dirty) : Type 0 where
  node : later.node ≡ d.node
  bytes : later.granularity ≡ d.granularity
  count : length later.set ≡ length d.set

shaped_self : (d : Dirty) → IsShaped d d
shaped_self d = record { node = refl; bytes = refl; count = refl }

granules_of_old : (t now : RunTable) (d later : Dirty) → GranulesOf t d → IsShaped d later → StaysNode t now d.node → GranulesOf now later
granules_of_old t now d later g shaped stays =
    let l = stays g.row g.there in
    record {
      row = l.later;
      there = subst (λ n. node_by_id now n ≡ Some l.later) (sym shaped.node) l.found;
      shown = λ is. g.shown (ap filter_role (sym l.kind) ∙ is);
      bytes = ap is_granule_size shaped.bytes ∙ g.bytes;
      count =
          shaped.count ∙ g.count ∙ ap (λ size. granule_count size d.granularity) (sym l.size)
          ∙ ap (λ bytes. granule_count l.later.size bytes) (sym shaped.bytes);
    }

-- where a table has the same nodes, or nodes that stay
pub granules_at : (t now : RunTable) (ds : List Dirty) → ((node : ℕ) → StaysNode t now node) → GranulesStand t ds → GranulesStand now ds
granules_at t now ds stays stand d there = granules_of_old t now d d (stand d there) (shaped_self d) (stays d.node)

where_granules : (t : RunTable) (test : Dirty → Bool) (f : Dirty → Dirty) → ((d : Dirty) → IsShaped d (f d)) → (ds : List Dirty) → GranulesStand t ds
    → GranulesStand t (where_dirty test f ds)
where_granules t test f shapes ds stand later there =
    let m = Contains-map (λ d. cond (test d) (f d) d) ds later there in
    subst (GranulesOf t) (sym m.2) (by_test m.0 (stand m.0 m.1) (test m.0))
  where
    by_test : (d : Dirty) → GranulesOf t d → (b : Bool) → GranulesOf t (cond b (f d) d)
    by_test d g true = granules_of_old t t d (f d) g (shapes d) (row_stays_same t t d.node refl)
    by_test d g false = g

shaped_clean : (d : Dirty) → IsShaped d (made_clean d)
shaped_clean d = record { node = refl; bytes = refl; count = length-replicate (length d.set) false }

shaped_dirty : (d : Dirty) → IsShaped d (made_dirty d)
shaped_dirty d = record { node = refl; bytes = refl; count = length-replicate (length d.set) true }

shaped_marked : (span : Extent) (d : Dirty) → IsShaped d (marked span d)
shaped_marked span d = record {
  node = refl;
  bytes = refl;
  count = length-those_below (length d.set) (λ k. contains d.set k || span_touches d.granularity span k);
}

shaped_merged : (source d : Dirty) → IsShaped d (dirtied_by source d)
shaped_merged source d = record {
  node = refl;
  bytes = refl;
  count =
      length-those_below (length d.set)
      (λ k. contains d.set k || overlaps_member (record { mine = d.granularity; theirs = source.granularity }) source.set k (length source.set));
}

shaped_aside : (d : Dirty) → IsShaped d (put_aside d)
shaped_aside d = record { node = refl; bytes = refl; count = length-replicate (length d.set) false }

shaped_back : (drops : Bool) (d : Dirty) → IsShaped d (taken_back drops d)
shaped_back drops d = record { node = refl; bytes = refl; count = by_flag drops d.aside }
  where
    by_flag : (b : Bool) (aside : Option (List Bool)) → length (cond b d.set (with_frozen d.set aside)) ≡ length d.set
    by_flag true aside = refl
    by_flag false None = refl
    by_flag false (Some old) = length-those_below (length d.set) (λ k. contains d.set k || contains old k)

-- ---- each kind of change

-- a filter that goes is a job's
pub record IsFilterAt (t : RunTable) (filter : ℕ) : Type 0 where
  pub row : NodeRecord
  pub there : node_by_id t filter ≡ Some row
  pub role : filter_role row.kind ≡ Some Filtered

abbrev pub LeavesGranules : RunTable → Change → Type 0
LeavesGranules t (change.AddBitmap row) = FitsNode t row
LeavesGranules t (change.PullFilter filter) = IsFilterAt t filter
LeavesGranules t c = Unit {0}

abbrev pub AllLeaveGranules : RunTable → List Change → Type 0
AllLeaveGranules t [] = Unit {0}
AllLeaveGranules t (c ∷ changes) = LeavesGranules t c × AllLeaveGranules (changed t c) changes

module _ (t : RunTable) (ds : List Dirty) (stand : GranulesStand t ds) where
  -- what was there, where its node doesn't go
  kept : (c : Change) (d : Dirty) → Contains ds d → StaysNode t (changed t c) d.node → GranulesOf (changed t c) d
  kept c d there stays = granules_of_old t (changed t c) d d (stand d there) (shaped_self d) stays

  added : (row : BitmapRow) → FitsNode t row → GranulesStand (changed t (change.AddBitmap row)) (ds ++ clean row (bytes_of_node t row.node) ∷ [])
  unfolding changed
  added row fits d there = elim (pushed-cases ds (clean row (bytes_of_node t row.node)) d there) [
    | inl old ↦ kept (change.AddBitmap row) d old (change_stays t d.node (change.AddBitmap row) tt)
    | inr new ↦
        subst (GranulesOf (changed t (change.AddBitmap row))) (sym new) (record {
          row = fits.node;
          there = fits.there;
          shown = fits.shown;
          bytes = fits.bytes;
          count =
              length-replicate (granule_count (bytes_of_node t row.node) row.granularity) false
              ∙ ap (λ size. granule_count size row.granularity) (size_there t row.node fits.node fits.there);
        })
  ]

  pulled : (filter : ℕ) → IsFilterAt t filter → GranulesStand (changed t (change.PullFilter filter)) ds
  pulled filter is d there = kept (change.PullFilter filter) d there (change_stays t d.node (change.PullFilter filter) other)
    where
      other : d.node ≢ filter
      other same =
          let g = stand d there in
          let both : Some g.row ≡ Some is.row = sym g.there ∙ ap (node_by_id t) same ∙ is.there in
          let one : g.row ≡ is.row = cc both in
          g.shown (ap (λ (r : NodeRecord). filter_role r.kind) one ∙ is.role)

  gone : (node : ℕ) → GranulesStand (changed t (change.RemoveNode node)) (dirty_beside t ds (change.RemoveNode node))
  gone node d there =
      let f = Contains-filter (λ (x : Dirty). not (x.node == node)) ds d there in
      kept (change.RemoveNode node) d f.0 (change_stays t d.node (change.RemoveNode node) (other (d.node == node) f.1))
    where
      other : {n : ℕ} (b : Bool) → not (n == node) ≡ true → n ≢ node
      other b passed same = false≢true (sym (ap not (eq-eqb _ node same)) ∙ passed)

  merged_from : (found : Option Dirty) (node : ℕ) (name : List ℕ) → GranulesStand t (merge_from found node name ds)
  merged_from None node name = stand
  merged_from (Some source) node name = where_granules t (is_dirty_of node name) (dirtied_by source) (shaped_merged source) ds stand

  back_from : (source : ℕ) (by : Option UsedBitmap) (drops : Bool) → GranulesStand t (back_of source by drops ds)
  back_from source None drops = stand
  back_from source (Some used) drops = where_granules t (is_dirty_of source used.name) (taken_back drops) (shaped_back drops) ds stand

  back : (found : Option JobRecord) (drops : Bool) → GranulesStand t (back_by found drops ds)
  back None drops = stand
  back (Some row) drops = back_from row.source row.bitmap drops

change_granules : (t : RunTable) (ds : List Dirty) (c : Change) → LeavesGranules t c → GranulesStand t ds → GranulesStand (changed t c) (dirty_beside t ds c)
unfolding changed
change_granules t ds (change.AddBitmap row) leaves stand = added t ds stand row leaves
change_granules t ds (change.RemoveBitmap node name) leaves stand = λ d there.
    kept t ds stand (change.RemoveBitmap node name) d (Contains-filter (λ (x : Dirty). not (is_dirty_of node name x)) ds d there).0
    (change_stays t d.node (change.RemoveBitmap node name) tt)
change_granules t ds (change.ClearBitmap node name) leaves stand = where_granules t (is_dirty_of node name) made_clean shaped_clean ds stand
change_granules t ds (change.MergeBitmap node name source_node source) leaves stand = merged_from t ds stand (dirty_at ds source_node source) node name
change_granules t ds (change.RemoveNode node) leaves stand = gone t ds stand node
change_granules t ds (change.PullFilter filter) leaves stand = pulled t ds stand filter leaves
change_granules t ds (change.EndJob number slot drops) leaves stand =
    granules_at t (changed t (change.EndJob number slot drops)) (back_by (job_at t number) drops ds)
    (λ node. change_stays t node (change.EndJob number slot drops) tt) (back t ds stand (job_at t number) drops)
change_granules t ds c leaves stand = λ d there. kept t ds stand c d there (change_stays t d.node c tt)

pub changes_granules : (changes : List Change) (t : RunTable) (ds : List Dirty) → AllLeaveGranules t changes → GranulesStand t ds
    → GranulesStand (all_changed t changes) (dirty_after t ds changes)
changes_granules [] t ds leaves stand = stand
changes_granules (c ∷ changes) t ds leaves stand =
    changes_granules changes (changed t c) (dirty_beside t ds c) leaves.1 (change_granules t ds c leaves.0 stand)

-- ---- changes of which nothing is asked

abbrev IsUnasked : Change → Type 0
IsUnasked (change.AddBitmap row) = ⊥
IsUnasked (change.PullFilter filter) = ⊥
IsUnasked c = Unit {0}

abbrev AreUnasked : List Change → Type 0
AreUnasked [] = Unit {0}
AreUnasked (c ∷ changes) = IsUnasked c × AreUnasked changes

free-append : (a b : List Change) → AreUnasked a → AreUnasked b → AreUnasked (a ++ b)
free-append [] b h k = k
free-append (c ∷ a) b h k = (h.0, free-append a b h.1 k)

free_leave : (changes : List Change) (t : RunTable) → AreUnasked changes → AllLeaveGranules t changes
free_leave [] t f = tt
free_leave (c ∷ changes) t f = (one c f.0, free_leave changes (changed t c) f.1)
  where
    one : (x : Change) → IsUnasked x → LeavesGranules t x
    one (change.AddBitmap row) k = absurd k
    one (change.PullFilter filter) k = absurd k
    one x k = tt

granules-append : (a b : List Change) (t : RunTable) → AllLeaveGranules t a → AllLeaveGranules (all_changed t a) b → AllLeaveGranules t (a ++ b)
granules-append [] b t h k = k
granules-append (c ∷ a) b t h k = (h.0, granules-append a b (changed t c) h.1 k)

-- ---- commands

spared_free : (t : RunTable) (changes : List Change) → AllSpareJobs t changes → AreUnasked changes
spared_free t [] s = tt
spared_free t (c ∷ changes) s = (one c s.0, spared_free t changes s.1)
  where
    one : (x : Change) → SparesJobs t x → IsUnasked x
    one (change.AddBitmap row) k = absurd k
    one (change.PullFilter filter) k = absurd k
    one x k = tt

start_free : (changes : List Change) → AreOfStart changes → AreUnasked changes
start_free [] s = tt
start_free (c ∷ changes) s = (one c s.0, start_free changes s.1)
  where
    one : (x : Change) → IsOfStart x → IsUnasked x
    one (change.AddBitmap row) k = absurd k
    one (change.PullFilter filter) k = absurd k
    one x k = tt

may_granules : (t : RunTable) (changes : List Change) → MayChange t changes → AllLeaveGranules t changes
may_granules t changes (inl spares) = free_leave changes t (spared_free t changes spares)
may_granules t changes (inr (inl asks)) = subst (AllLeaveGranules t) (sym asks.is) (tt, tt)
may_granules t changes (inr (inr of)) = subst (AllLeaveGranules t) (sym of.is) (one of.one of.leaves, tt)
  where
    one : (c : Change) → ChangesBitmap t c → LeavesGranules t c
    one (change.AddBitmap row) k = k.2
    one (change.RemoveBitmap node name) k = tt
    one c k = absurd k

command_leaves_granules : (t : RunTable) (told exp : Told) (c : Cmd) → TableAtRest t → JobsStand t → IsOneCommand c → IsMet t told c
    → AllLeaveGranules t (edits_of t exp c)
command_leaves_granules t told exp c h j one met = by_job (job_begun t c) refl
  where
    asks : NoneHolds t told (asks_of c)
    asks = none-holds t told (asks_of c) met.asks

    by_job : (found : Option JobRecord) → job_begun t c ≡ found → AllLeaveGranules t (edits_of t exp c)
    by_job None none = may_granules t (edits_of t exp c) (command_spares t told exp c h j one none asks)
    by_job (Some row) is =
        free_leave (edits_of t exp c) t (start_free (edits_of t exp c) (begins_of_start t row (edits_of t exp c) (begun_among t told exp c row j is asks)))

pub command_granules : (t : RunTable) (ds : List Dirty) (told exp : Told) (c : Cmd) → TableAtRest t → JobsStand t → IsOneCommand c → IsMet t told c
    → GranulesStand t ds → GranulesStand (all_changed t (edits_of t exp c)) (dirty_after t ds (edits_of t exp c))
command_granules t ds told exp c h j one met stand = changes_granules (edits_of t exp c) t ds (command_leaves_granules t told exp c h j one met) stand

pub failure_granules : (t : RunTable) (ds : List Dirty) (options : Created (List ℕ)) → GranulesStand t ds
    → GranulesStand (all_changed t (spoiled t options)) (dirty_after t ds (spoiled t options))
failure_granules t ds options stand = changes_granules (spoiled t options) t ds (leaves options) stand
  where
    leaves : (o : Created (List ℕ)) → AllLeaveGranules t (spoiled t o)
    leaves created.Unknown = tt
    leaves (created.File c) = (tt, tt)
    leaves (created.Qcow2 c) = (tt, tt)

-- ---- ends

quiet_free : (changes : List Change) → AreQuiet changes → AreUnasked changes
quiet_free [] q = tt
quiet_free (c ∷ changes) q = (one c q.0, quiet_free changes q.1)
  where
    one : (x : Change) → IsQuiet x → IsUnasked x
    one (change.AddBitmap row) k = absurd k
    one (change.PullFilter filter) k = absurd k
    one x k = tt

moving_free : (changes : List Change) → AreMoving changes → AreUnasked changes
moving_free [] m = tt
moving_free (c ∷ changes) m = (one c m.0, moving_free changes m.1)
  where
    one : (x : Change) → IsMoving x → IsUnasked x
    one (change.AddBitmap row) k = absurd k
    one (change.PullFilter filter) k = absurd k
    one x k = tt

end_leaves_granules : (t : RunTable) (row : JobRecord) (o : JobOutcome) → JobsStand t → Contains t.jobs row → AllLeaveGranules t (end_edits t row o)
unfolding changed
end_leaves_granules t row o j here =
    subst (AllLeaveGranules t) (sym (end_is t row o))
    (granules-append (first ∷ filter_gone row.filter ++ moves_by row row.kind o) (rest_by row row.kind o ++ given_back_to t row o) t (
      tt,
      granules-append (filter_gone row.filter) (moves_by row row.kind o) (changed t first) (by_filter row.filter refl)
          (free_leave (moves_by row row.kind o) (all_changed (changed t first) (filter_gone row.filter)) (moving_free (moves_by row row.kind o) (moves_moving row row.kind o))),
    )
    (free_leave (rest_by row row.kind o ++ given_back_to t row o) (all_changed t (first ∷ filter_gone row.filter ++ moves_by row row.kind o))
    (free-append (rest_by row row.kind o) (given_back_to t row o) (quiet_free (rest_by row row.kind o) (quiet_rest row row.kind o))
    (quiet_free (given_back_to t row o) (quiet_given t row o)))))
  where
    first : Change
    first = change.EndJob row.number row.slot (drops_aside o row.bitmap)

    by_filter : (filter : Option ℕ) → row.filter ≡ filter → AllLeaveGranules (changed t first) (filter_gone filter)
    by_filter None is = tt
    by_filter (Some node) is =
        let f = filter_of t row row.kind (j.each row here).shape node is in
        (record { row = f.2.node; there = subst (λ n. node_by_id t n ≡ Some f.2.node) f.3 f.2.there; role = ap filter_role f.2.kind_is ∙ job_filtered f.0 f.1 }, tt)

pub end_granules : (t : RunTable) (ds : List Dirty) (row : JobRecord) (o : JobOutcome) → JobsStand t → Contains t.jobs row → GranulesStand t ds
    → GranulesStand (all_changed t (end_edits t row o)) (dirty_after t ds (end_edits t row o))
end_granules t ds row o j here stand = changes_granules (end_edits t row o) t ds (end_leaves_granules t row o j here) stand

-- ---- entries

pub opening_granules : (guests : List (List ℕ)) → GranulesStand (opening_table guests) []
opening_granules guests d there = absurd (Contains-nil d there)

abbrev pub StateGranules : State → Type 0
StateGranules s = GranulesStand s.table s.dirty

-- a guest's write leaves nodes as they are
pub written_stays : (t : RunTable) (node other : ℕ) → StaysNode t (written_under node t) other
unfolding written_under
written_stays t node other =
    row_stays_mapped t (written_under node t) (unsettled_over t node) other (keeps_where (λ r. is_over t node r.id) unsettled keeps_unsettled) refl

recording_granules : (t : RunTable) (part : Extent) (ds : List Dirty) (nodes : List ℕ) → GranulesStand t ds → GranulesStand t (noted t part ds nodes)
recording_granules t part ds [] stand = stand
recording_granules t part ds (node ∷ nodes) stand =
    recording_granules t part (where_recording t node (marked part) ds) nodes (where_granules t _ (marked part) (shaped_marked part) ds stand)

noted_granules : (outcome : Outcome) (part : Extent) (drive : ℕ) (t : RunTable) (ds : List Dirty) → GranulesStand t ds → GranulesStand t (dirty_noted outcome part drive t ds)
noted_granules outcome part drive t ds stand = by_flag (is_noted outcome)
  where
    by_flag : (b : Bool) → GranulesStand t (cond b (noted t part ds (path t drive)) ds)
    by_flag true = recording_granules t part ds (path t drive) stand
    by_flag false = stand

pub by_granules : (op : Op) (outcome : Outcome) (part : Extent) (drive : ℕ) (t : RunTable) (ds : List Dirty) → GranulesStand t ds
    → GranulesStand t (dirty_by op outcome part drive t ds)
by_granules (Read span) outcome part drive t ds stand = stand
by_granules (Write span payload) outcome part drive t ds stand = noted_granules outcome part drive t ds stand
by_granules (Zero span) outcome part drive t ds stand = noted_granules outcome part drive t ds stand
by_granules Flush outcome part drive t ds stand = stand
by_granules (Discard span) outcome part drive t ds stand = stand

note_table : (s : State) (outcome : Outcome) (part : Extent) (drive : ℕ) → (note outcome part drive s).table ≡ s.table
note_table s outcome part drive = by_flag (is_noted outcome)
  where
    by_flag : (b : Bool) → (cond b (record s { dirty = noted s.table part s.dirty (path s.table drive) }) s).table ≡ s.table
    by_flag true = refl
    by_flag false = refl

read_table : (s : State) (drive : ℕ) → (read_through drive s).table ≡ s.table
read_table s drive = by_flag (copies_through s.table drive)
  where
    by_flag : (b : Bool) → (cond b (record s { images = map (unsure (disk_node s.table drive ∷ [])) s.images }) s).table ≡ s.table
    by_flag true = refl
    by_flag false = refl

-- the table behind a piece has the same nodes, of which some lost their disks
part_stays : (s : State) (drive : ℕ) (op : Op) (outcome : Outcome) (part : Extent) (node : ℕ) → StaysNode s.table (with_part drive op outcome part s).table node
part_stays s drive (Read span) outcome part node =
    subst (λ (t : RunTable). StaysNode s.table t node)
    (sym (read_table (with_disk (disk_node s.table drive) (done_in (Read span) part (done_by outcome part)) s) drive)) (row_stays_same s.table s.table node refl)
part_stays s drive (Write span payload) outcome part node =
    subst (λ (t : RunTable). StaysNode s.table t node)
    (sym (note_table (node_written (disk_node s.table drive) (with_disk (disk_node s.table drive) (done_in (Write span payload) part (done_by outcome part)) s)) outcome part drive))
    (written_stays s.table (disk_node s.table drive) node)
part_stays s drive (Zero span) outcome part node =
    subst (λ (t : RunTable). StaysNode s.table t node)
    (sym (note_table (node_written (disk_node s.table drive) (with_disk (disk_node s.table drive) (done_in (Zero span) part (done_by outcome part)) s)) outcome part drive))
    (written_stays s.table (disk_node s.table drive) node)
part_stays s drive Flush outcome part node = row_stays_same s.table s.table node refl
part_stays s drive (Discard span) outcome part node = row_stays_same s.table s.table node refl

part_granules : (s : State) (drive : ℕ) (op : Op) (outcome : Outcome) (part : Extent) → StateGranules s → StateGranules (with_part drive op outcome part s)
part_granules s drive op outcome part stand =
    let now : State = with_part drive op outcome part s in
    subst (GranulesStand now.table) (sym (part-dirty s drive op outcome part))
    (by_granules op outcome part drive now.table s.dirty (granules_at s.table now.table s.dirty (part_stays s drive op outcome part) stand))

piece_granules : (s : State) (drive : Option ℕ) (flight : Option Flight) (k : ℕ) (outcome : Outcome) → StateGranules s → StateGranules (with_piece drive flight k outcome s)
piece_granules s (Some drive) (Some f) k outcome stand = part_granules s drive f.op outcome (piece f.op k) stand
piece_granules s (Some drive) None k outcome stand = stand
piece_granules s None flight k outcome stand = stand

-- starts
aside_granules : (t : RunTable) (source : ℕ) (by : Option UsedBitmap) (ds : List Dirty) → GranulesStand t ds → GranulesStand t (aside_by source by ds)
aside_granules t source None ds stand = stand
aside_granules t source (Some used) ds stand = where_granules t (is_dirty_of source used.name) put_aside shaped_aside ds stand

start_dirty : (s : State) (row : JobRecord) (target : Option ℕ) → StateGranules s → GranulesStand s.table (dirty_at_start s row target)
start_dirty s row None stand = aside_granules s.table row.source row.bitmap s.dirty stand
start_dirty s row (Some node) stand =
    where_granules s.table _ made_dirty shaped_dirty (aside_by row.source row.bitmap s.dirty) (aside_granules s.table row.source row.bitmap s.dirty stand)

unleft_granules : (name : Option (List ℕ)) (s : State) → StateGranules s → StateGranules (unleft name s)
unleft_granules None s stand = stand
unleft_granules (Some name) s stand = stand

started_granules : (s : State) (row : Option JobRecord) → StateGranules s → StateGranules (started s row)
started_granules s None stand = stand
started_granules s (Some row) stand = unleft_granules _ (noted_start s row) (start_dirty s row (target_written row) stand)

readied_granules : (s : State) (row : Option JobRecord) → StateGranules s → StateGranules (readied_by s row)
readied_granules s None stand = stand
readied_granules s (Some row) stand = changes_granules (change.ReadyJob row.number ∷ []) s.table s.dirty (tt, tt) stand

pub stepped_granules : (s : State) (changes : List Change) → GranulesStand (all_changed s.table changes) (dirty_after s.table s.dirty changes) → StateGranules (all_stepped s changes)
stepped_granules s changes stand =
    subst (λ (t : RunTable). GranulesStand t (all_stepped s changes).dirty) (sym (stepped_table changes s))
    (subst (GranulesStand (all_changed s.table changes)) (sym (all_stepped-dirty changes s)) stand)

ended_granules : (s : State) (row : Option JobRecord) (why : JobEnd) → JobsStand s.table → ((r : JobRecord) → row ≡ Some r → Contains s.table.jobs r) → StateGranules s
    → StateGranules (ended s row why)
ended_granules s None why j here stand = stand
ended_granules s (Some row) why j here stand =
    stepped_granules s (changes_at_end s row why) (end_granules s.table s.dirty row (outcome_of why) j (here row refl) stand)

pub entry_granules : (s : State) (e : Event) → IsNoReply e → JobsStand s.table → StateGranules s → StateGranules (after s e)
entry_granules s (Admit g r op) other j stand = stand
entry_granules s (Refuse g r op why) other j stand = stand
entry_granules s (Piece g r k outcome got) other j stand = piece_granules s (drive_of s.table g) (flight_of s g) k outcome stand
entry_granules s (Retire g r) other j stand = stand
entry_granules s (Reply line given command text) other j stand = absurd other
entry_granules s (Reached line what) other j stand = stand
entry_granules s (Start job) other j stand = started_granules s (job_at s.table job) stand
entry_granules s (Ready job) other j stand = readied_granules s (job_at s.table job) stand
entry_granules s (End job outcome offset) other j stand =
    ended_granules s (job_at s.table job) outcome j (λ r is. (find-Some (λ (x : JobRecord). x.number == job) s.table.jobs r is).0) stand
entry_granules s (Done actor) other j stand = stand
