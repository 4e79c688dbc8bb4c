-- The job that an accepted backup or mirror is to begin, by its row.
use Rattle.std.proofs.Common.{◌≡◌, ℕ, Bool, true, false, cond, List, [], ◌∷◌, map, refl, sym, ◌∙◌, ap, subst, Option, Some, None, option_map}
use Rattle.std.specs.Prelude.{unwrap_or, IfSome}
use Rattle.std.proofs.lemmas.Option.{same_Some}
use Rattle.blk_bitmaps.specs.Refusals.{find as find_bitmap}
use Rattle.blk_bitmaps.specs.Rows.{IsSpareOf, is_named}
use Rattle.blk_bitmaps.specs.declared.row.Bitmap.{Bitmap}
use Rattle.blk_history.specs.Names.{JobLine}
use Rattle.flat_machine.specs.Bitmaps.{dirty_in}
use Rattle.flat_machine.specs.Marking.{dirty_at}
use Rattle.flat_machine.specs.Jobs.{granules_of}
use Rattle.flat_machine.specs.State.{Dirty, State}
use Rattle.job_progress.specs.Beginning.{begun_by}
use Rattle.qmp_codec.specs.declared.event.JobKind.{JobKind}
use Rattle.qmp_rules.specs.Queries.{bytes_of_node}
use Rattle.qmp_rules.specs.Table.{RunTable, node_named}
use Rattle.qmp_rules.specs.declared.rows.JobRecord.{JobRecord}
use Rattle.qmp_rules.specs.declared.rows.NodeRecord.{NodeRecord}
use Rattle.qmp_rules.specs.declared.rows.UsedBitmap.{UsedBitmap}
use Rattle.world_jobs.specs.Beginning.{AsideSeen, BegunJob, IsAsideFor, IsAsideOf, IsNewJob, bitmap_by, work_by}
use Rattle.world_jobs.specs.Plans.{Plan}
use Rattle.world_jobs.specs.Starting.{CanStart}
use Rattle.world_jobs.proofs.CopyPlans.{IsRowOfPlan}

-- what is dirty in a bitmap, by node and name
dirty_found : (rows : List Bitmap) (node : ℕ) (name : List ℕ) → dirty_at (map dirty_in rows) node name ≡ option_map dirty_in (find_bitmap rows node name)
dirty_found [] node name = refl
dirty_found (row ∷ rows) node name = by_test (is_named node name row) (dirty_found rows node name)
  where
    by_test : (b : Bool) → dirty_at (map dirty_in rows) node name ≡ option_map dirty_in (find_bitmap rows node name)
        → cond b (Some (dirty_in row)) (dirty_at (map dirty_in rows) node name) ≡ option_map dirty_in (cond b (Some row) (find_bitmap rows node name))
    by_test true rest = refl
    by_test false rest = rest

module _ (t : RunTable) (rows : List Bitmap) (plan : Plan) (row : JobRecord) (of : IsRowOfPlan t plan row) (can : CanStart t rows plan) where
  source_is : row.source ≡ can.source.id
  source_is = of.source ∙ ap (λ (o : Option NodeRecord). unwrap_or (option_map (λ (r : NodeRecord). r.id) o) 0) can.source_is

  target_is : row.target ≡ Some can.target.id
  target_is = of.target ∙ ap (option_map (λ (r : NodeRecord). r.id)) can.target_is

  size_is : bytes_of_node t row.source ≡ can.source.size
  size_is = ap (bytes_of_node t) source_is ∙ ap (λ (o : Option NodeRecord). unwrap_or (option_map (λ (r : NodeRecord). r.size) o) 0) can.source_at

  abbrev name_by : Option UsedBitmap → Option (List ℕ)
  name_by = option_map (λ (used : UsedBitmap). used.name)

  by_bitmap : (size : ℕ) (found : Option Bitmap) → work_by row.kind row.number size found ≡ begun_by row size (option_map dirty_in found)
  by_bitmap size None = refl
  by_bitmap size (Some bitmap) = refl

  work_is : (s : State) → s.dirty ≡ map dirty_in rows → (size : ℕ) (by : Option UsedBitmap)
      → work_by row.kind row.number size (bitmap_by rows row.source (name_by by)) ≡ begun_by row size (granules_of s row by)
  work_is s dirty size None = refl
  work_is s dirty size (Some used) =
      by_bitmap size (find_bitmap rows row.source used.name)
      ∙ ap (begun_by row size) (sym (dirty_found rows row.source used.name) ∙ ap (λ (ds : List Dirty). dirty_at ds row.source used.name) (sym dirty))

  aside_is : (by : Option UsedBitmap) (aside : Option AsideSeen) → IsAsideFor rows can.source.id (name_by by) aside → IsAsideOf by aside
  aside_is None None is = tt
  aside_is (Some used) (Some aside) is = is.0
  aside_is None (Some aside) is = is
  aside_is (Some used) None is = is

  spare_is : (name : Option (List ℕ)) (aside : Option AsideSeen) → IsAsideFor rows can.source.id name aside
      → IfSome aside (λ a. IfSome (find_bitmap rows can.source.id a.name) (IsSpareOf a.spare))
  spare_is None None is = tt
  spare_is (Some name) (Some aside) is =
      subst (λ (n : List ℕ). IfSome (find_bitmap rows can.source.id n) (IsSpareOf aside.spare)) (sym is.0) is.1
  spare_is None (Some aside) is = absurd is
  spare_is (Some name) None is = absurd is

  new_job_is : (new : BegunJob) → new.work ≡ work_by plan.kind t.started can.source.size (bitmap_by rows can.source.id plan.bitmap)
      → new.line ≡ record { id = plan.job_id; kind = plan.kind; size = can.source.size } → new.source ≡ can.source.id → new.target ≡ can.target.id
      → IsAsideFor rows can.source.id plan.bitmap new.aside → IsNewJob t rows row new
  new_job_is new work line source target aside = record {
    work = λ s table dirty.
        work ∙ ap (λ (size : ℕ). work_by plan.kind t.started size (bitmap_by rows can.source.id plan.bitmap)) (sym size_is)
        ∙ ap (λ (node : ℕ). work_by plan.kind t.started (bytes_of_node t row.source) (bitmap_by rows node plan.bitmap)) (sym source_is)
        ∙ ap (λ (name : Option (List ℕ)). work_by plan.kind t.started (bytes_of_node t row.source) (bitmap_by rows row.source name)) (sym of.bitmap)
        ∙ ap (λ (kind : JobKind). work_by kind t.started (bytes_of_node t row.source) (bitmap_by rows row.source (name_by row.bitmap))) (sym of.kind)
        ∙ ap (λ (number : ℕ). work_by row.kind number (bytes_of_node t row.source) (bitmap_by rows row.source (name_by row.bitmap))) (sym of.number)
        ∙ work_is s dirty (bytes_of_node t row.source) row.bitmap
        ∙ ap (λ (u : RunTable). begun_by row (bytes_of_node u row.source) (granules_of s row row.bitmap)) (sym table);
    line = λ s table.
        line
        ∙ ap (λ (size : ℕ). let l : JobLine = record { id = plan.job_id; kind = plan.kind; size = size } in l)
        (sym size_is ∙ ap (λ (u : RunTable). bytes_of_node u row.source) (sym table))
        ∙ ap (λ (id : List ℕ). let l : JobLine = record { id = id; kind = plan.kind; size = bytes_of_node s.table row.source } in l) (sym of.id)
        ∙ ap (λ (kind : JobKind). let l : JobLine = record { id = row.id; kind = kind; size = bytes_of_node s.table row.source } in l) (sym of.kind);
    source = source ∙ sym source_is;
    target = of.writes ∙ target_is ∙ ap Some (sym target);
    aside = aside_is row.bitmap new.aside (subst (λ (name : Option (List ℕ)). IsAsideFor rows can.source.id name new.aside) (sym of.bitmap) aside);
    spare = subst (λ (n : ℕ). IfSome new.aside (λ a. IfSome (find_bitmap rows n a.name) (IsSpareOf a.spare))) (sym source) (spare_is plan.bitmap new.aside aside);
  }

  pub new_job_by : (new : BegunJob) (source target : NodeRecord) (found : Option Bitmap) → node_named t plan.device ≡ Some source → node_named t plan.target ≡ Some target
      → found ≡ bitmap_by rows source.id plan.bitmap → new.work ≡ work_by plan.kind t.started source.size found
      → new.line ≡ record { id = plan.job_id; kind = plan.kind; size = source.size } → new.source ≡ source.id → new.target ≡ target.id
      → IsAsideFor rows source.id plan.bitmap new.aside → IsNewJob t rows row new
  new_job_by new source target found source_at target_at is work line from to aside =
      let a : can.source ≡ source = same_Some can.source source (sym can.source_is ∙ source_at) in
      let b : can.target ≡ target = same_Some can.target target (sym can.target_is ∙ target_at) in
      new_job_is new
      (subst (λ (r : NodeRecord). new.work ≡ work_by plan.kind t.started r.size (bitmap_by rows r.id plan.bitmap)) (sym a)
      (work ∙ ap (work_by plan.kind t.started source.size) is))
      (subst (λ (r : NodeRecord). new.line ≡ record { id = plan.job_id; kind = plan.kind; size = r.size }) (sym a) line)
      (from ∙ ap (λ (r : NodeRecord). r.id) (sym a)) (to ∙ ap (λ (r : NodeRecord). r.id) (sym b))
      (subst (λ (r : NodeRecord). IsAsideFor rows r.id plan.bitmap new.aside) (sym a) aside)
