-- Turns of a world's jobs, as the calls leave them.
use Rattle.std.proofs.Common.{◌≡◌, ◌≢◌, ◌⊎◌, ℕ, ◌≤◌, ◌<◌, ◌==◌, Bool, true, false, cond, not, List, [], ◌∷◌, ◌++◌, length, Option, Some, None, inl, inr, refl, sym, ◌∙◌, ap, subst}
use Rattle.std.specs.Prelude.{◌↔◌, Contains, IsSome, IsTrue, filter}
use Rattle.std.proofs.lemmas.Bool.{eq-eqb, false≢true}
use Rattle.std.proofs.lemmas.List.{append-nil}
use Rattle.std.proofs.lemmas.List.Elements.{filter-append}
use Rattle.blk_bitmaps.specs.declared.row.Bitmap.{Bitmap}
use Rattle.blk_history.specs.Fold.{With}
use Rattle.blk_history.specs.declared.entry.JobEnd.{JobEnd}
use Rattle.blk_history.specs.declared.event.Event.TheVariants.{End, Ready}
use Rattle.blk_nodes.specs.Contents.{Unfolds}
use Rattle.blk_nodes.specs.Joined.{IsJoined}
use Rattle.blk_nodes.specs.Nodes.{Nodes}
use Rattle.block_jobs.specs.Work.{JobWork}
use Rattle.flat_machine.specs.Legal.{AllDone}
use Rattle.flat_machine.specs.Marks.{Drained, after_end, after_turn, must_drain}
use Rattle.flat_machine.specs.State.{State}
use Rattle.flat_machine.specs.declared.opening.Opening.{Opening}
use Rattle.job_ends.proofs.Others.{at_number}
use Rattle.job_progress.specs.Going.{copies_blocks}
use Rattle.job_works.specs.Works.{without_work, work_of}
use Rattle.qmp_rules.specs.Chains.{is_listed}
use Rattle.qmp_rules.specs.Changes.{changed}
use Rattle.qmp_rules.specs.Table.{RunTable, job_at, job_in}
use Rattle.qmp_rules.specs.declared.change.Change.TheVariants.{ReadyJob}
use Rattle.qmp_rules.specs.declared.rows.JobRecord.{JobRecord}
use Rattle.world_copies.proofs.JobSteps.{in_slot}
use Rattle.world_goings.proofs.Ends.{ends_comes}
use Rattle.world_goings.proofs.Readies.{readied_comes}
use Rattle.world_jobs.specs.Ending.{CanBeEnded, HasPulled, IsBehindEnd, ended_table, offset_by}
use Rattle.world_jobs.specs.Turning.{EndsAs, EndsInTurn, FindsCalm, HasTurn, IsTurned, IsTurnOf, ReadiesInTurn, StaysAsTurn, WaitsInTurn, drains_at, waits_first}
use Rattle.world_jobs.specs.declared.turned.Turn.{Turn}
use Rattle.world_jobs.specs.declared.turned.Turn.TheVariants as turn
use Rattle.world_jobs.specs.declared.turned.Turned.{Turned}
use Rattle.world_jobs.specs.declared.turned.Turned.TheVariants as turned
use Rattle.world_jobs.proofs.EndTurns.{ends_in_turn, slot_may_end}
use Rattle.world_jobs.proofs.EndWhole.{whole_left}
use Rattle.world_jobs.proofs.JobDrains.{drain_room, drained_whole}
use Rattle.world_jobs.proofs.ReadyTurns.{readies_in_turn, ready_room, ready_whole}
use Rattle.world_parts.specs.Coherent.{IsWholeWorld, entries_owed}
use Rattle.world_parts.specs.Comes.{Comes}
use Rattle.world_parts.specs.Draining.{IsFirstOf}
use Rattle.world_parts.specs.Face.{WorldSeen, seen_state}
use Rattle.world_parts.specs.Jobs.{bitmaps_ended}
use Rattle.world_parts.specs.Progress.{Progress, with_job_entry}
use Rattle.world_parts.specs.declared.in_the_way.InTheWay.{InTheWay}
use Rattle.world_parts.proofs.Pushing.{comes-drains}

-- ---- drains

-- a turn that waits first has to drain
must_wait : (is : Turn) (row : JobRecord) → waits_first is row ≡ true → must_drain row ≡ true
must_wait (turn.End why) row waits = absurd (false≢true waits)
must_wait (turn.Finish why) row waits = waits
must_wait turn.GetReady row waits = absurd (false≢true waits)
must_wait turn.Copy row waits = waits
must_wait turn.Wait row waits = waits

-- it ends so
pub ends_as : (is : Turn) (why : JobEnd) → (is ≡ turn.End why) ⊎ (is ≡ turn.Finish why) → EndsAs is why
ends_as is why (inl so) = subst (λ (t : Turn). EndsAs t why) (sym so) refl
ends_as is why (inr so) = subst (λ (t : Turn). EndsAs t why) (sym so) refl

-- an end leaves no drain, be it held from this turn on or not
gone_last : (job : ℕ) (jobs : List ℕ) → filter (λ other. not (other == job)) (jobs ++ job ∷ []) ≡ filter (λ other. not (other == job)) jobs
gone_last job jobs =
    filter-append (λ other. not (other == job)) jobs (job ∷ []) ∙ rw (eq-eqb job job refl) (append-nil (filter (λ other. not (other == job)) jobs))

gone_then : (job : ℕ) (drains : Drained) → after_end job (after_turn job drains) ≡ after_end job drains
gone_then job drains = by_test (is_listed job drains.jobs)
  where
    by_test : (b : Bool) → after_end job (cond b drains (record drains { jobs = drains.jobs ++ job ∷ [] })) ≡ after_end job drains
    by_test true = refl
    by_test false = ap (λ (jobs : List ℕ). let d : Drained = record drains { jobs = jobs } in d) (gone_last job drains.jobs)

ended_drains : (is : Turn) (row : JobRecord) (drains : Drained) → after_end row.number (drains_at is row drains) ≡ after_end row.number drains
ended_drains is row drains = by_test (waits_first is row)
  where
    by_test : (b : Bool) → after_end row.number (cond b (after_turn row.number drains) drains) ≡ after_end row.number drains
    by_test true = gone_then row.number drains
    by_test false = refl

-- the world with the parts that an end leaves
behind_end : (w : WorldSeen) (row : JobRecord) (why : JobEnd) (u : RunTable) (now : Nodes) (bitmaps : List Bitmap) (works : List JobWork) (drains : Drained)
    (p : Progress)
    → u ≡ ended_table w.table row why → HasPulled u row w.nodes now → IsJoined now → bitmaps ≡ bitmaps_ended row why w.bitmaps → works ≡ without_work row.number w.works
    → drains ≡ after_end row.number w.drains → p ≡ with_job_entry (entries_owed row) (End row.number why (offset_by w.table row why)) w.progress
    → IsBehindEnd w (record w { nodes = now; table = u; bitmaps = bitmaps; works = works; drains = drains; progress = p }) row why
behind_end w row why u now bitmaps works drains p table pulls joined noted gone free added = record {
  pulls = subst (λ (x : RunTable). HasPulled x row w.nodes now) table pulls;
  joined = joined;
  kept =
      ap (λ (x : RunTable). with_parts x bitmaps works drains p) table ∙ ap (λ (x : List Bitmap). with_parts (ended_table w.table row why) x works drains p) noted
      ∙ ap (λ (x : List JobWork). with_parts (ended_table w.table row why) (bitmaps_ended row why w.bitmaps) x drains p) gone
      ∙ ap (λ (x : Drained). with_parts (ended_table w.table row why) (bitmaps_ended row why w.bitmaps) (without_work row.number w.works) x p) free
      ∙ ap (with_parts (ended_table w.table row why) (bitmaps_ended row why w.bitmaps) (without_work row.number w.works) (after_end row.number w.drains)) added;
}
  where
    with_parts : RunTable → List Bitmap → List JobWork → Drained → Progress → WorldSeen
    with_parts x rows ks ds q = record w { nodes = now; table = x; bitmaps = rows; works = ks; drains = ds; progress = q }

module _ (w : WorldSeen) (slot : ℕ) (row : JobRecord) (whole : IsWholeWorld w) (joined : IsJoined w.nodes) (there : job_in w.table slot ≡ Some row) where
  here : Contains w.table.jobs row
  here = in_slot w.table slot row there

  found : job_at w.table row.number ≡ Some row
  found = at_number w.table whole.jobs.stand row here

  -- ---- what the calls need

  pub work_there : IsSome (work_of w.works row.number)
  work_there = subst IsSome (sym (whole.jobs.belong.each row here).there) refl

  pub kind_is : copies_blocks row.kind ≡ true
  kind_is = (whole.jobs.lone row here).kind

  pub may_drain : (is_listed row.number w.drains.jobs ≡ true) ⊎ (length w.drains.jobs < 16)
  may_drain = drain_room w row whole found

  pub may_end : (why : JobEnd) → With (job_at w.table row.number) (CanBeEnded w.table w.nodes w.works w.progress why)
  may_end why = slot_may_end w slot row why whole joined there

  -- ---- what they leave

  module _ (all_done : Bool) (done : IsTrue all_done ↔ AllDone (seen_state w)) (is : Turn)
      (step : With (work_of w.works row.number) (λ work. IsTurnOf all_done row work is)) (drains : Drained) (held : drains ≡ drains_at is row w.drains) where
    has : HasTurn w slot is
    has = record { row = row; there = there; all_done = all_done; done = done; step = step }

    abbrev left : WorldSeen
    left = record w { drains = drains }

    left_is : left ≡ record w { drains = drains_at is row w.drains }
    left_is = ap (λ (d : Drained). let v : WorldSeen = record w { drains = d } in v) held

    pub left_whole : IsWholeWorld left
    left_whole = subst IsWholeWorld (sym left_is) (drained_whole w is row whole found)

    -- it waits for a request
    module _ (way : Option InTheWay) (none : waits_first is row ≡ false → way ≡ None)
        (first : waits_first is row ≡ true → (s : State) → s.table ≡ w.table → s.guests ≡ w.progress.guests → IsFirstOf s (row.source ∷ []) way) where
      pub waits : (other : InTheWay) → way ≡ Some other → WaitsInTurn w left slot other.guest other.request
      unfolding has
      waits other some = by_test (waits_first is row) refl
        where
          by_test : (b : Bool) → waits_first is row ≡ b → WaitsInTurn w left slot other.guest other.request
          by_test false not_first = absurd (let bad : Some other ≡ None = sym some ∙ none not_first in let no : ⊥ = cc bad in no)
          by_test true is_first = record {
            is = is;
            has = has;
            first = is_first;
            waits = record {
              asked = must_wait is row is_first;
              waits = subst (IsFirstOf (seen_state w) (row.source ∷ [])) some (first is_first (seen_state w) refl refl);
            };
            kept = left_is ∙ ap (λ (b : Bool). let v : WorldSeen = record w { drains = cond b (after_turn row.number w.drains) w.drains } in v) is_first;
          }

      -- it waits for none
      module _ (calm : way ≡ None) where
        finds : FindsCalm w is row
        finds is_first = subst (IsFirstOf (seen_state w) (row.source ∷ [])) calm (first is_first (seen_state w) refl refl)

        pub stays : StaysAsTurn w left slot is
        unfolding has
        stays = record { has = has; calm = finds; kept = left_is }

        module _ (why : JobEnd) (so : EndsAs is why) (nodes : Nodes) (u : RunTable) (bitmaps : List Bitmap) (works : List JobWork) (progress : Progress) (after : Drained)
            (table : (r : JobRecord) → job_at w.table row.number ≡ Some r → u ≡ ended_table w.table r why)
            (pulls : (r : JobRecord) → job_at w.table row.number ≡ Some r → HasPulled u r w.nodes nodes)
            (joined_then : IsJoined nodes)
            (released : (r : JobRecord) → job_at w.table row.number ≡ Some r → bitmaps ≡ bitmaps_ended r why w.bitmaps)
            (gone : works ≡ without_work row.number w.works)
            (noted : (r : JobRecord) → job_at w.table row.number ≡ Some r
            → progress ≡ with_job_entry (entries_owed r) (End row.number why (offset_by w.table r why)) w.progress)
            (lifts : after ≡ after_end row.number drains) where
          abbrev v : WorldSeen
          v = record w { nodes = nodes; table = u; bitmaps = bitmaps; works = works; drains = after; progress = progress }

          behind : IsBehindEnd w v row why
          behind =
              behind_end w row why u nodes bitmaps works after progress (table row found) (pulls row found) joined_then (released row found) gone
              (lifts ∙ ap (after_end row.number) held ∙ ended_drains is row w.drains) (noted row found)

          ended : EndsInTurn w v slot
          unfolding has
          ended = ends_in_turn w v slot is why whole joined has so finds behind

          pub ended_so : EndsInTurn w v slot ⊎ ReadiesInTurn w v slot
          ended_so = inl ended

          pub ended_whole : Unfolds w.nodes → IsWholeWorld v
          ended_whole unfolds = whole_left w v ended.has.row ended.why ended.offset whole joined unfolds ended.ends

  -- ---- it is ready

  module _ (all_done : Bool) (done : IsTrue all_done ↔ AllDone (seen_state w))
      (step : With (work_of w.works row.number) (λ work. IsTurnOf all_done row work turn.GetReady)) where
    has_ready : HasTurn w slot turn.GetReady
    has_ready = record { row = row; there = there; all_done = all_done; done = done; step = step }

    pub may_get_ready : 1 ≤ w.progress.aside
    may_get_ready = ready_room w slot whole has_ready

    module _ (drains : Drained) (held : drains ≡ w.drains) (u : RunTable) (table : u ≡ changed w.table (ReadyJob row.number)) (progress : Progress)
        (noted : progress ≡ with_job_entry 1 (Ready row.number) w.progress) where
      abbrev ready_world : WorldSeen
      ready_world = record w { table = u; progress = progress; drains = drains }

      ready_is : ReadiesInTurn w ready_world slot
      unfolding has_ready
      ready_is =
          readies_in_turn w ready_world slot whole joined has_ready
          (ap (λ (d : Drained). with_parts u progress d) held
          ∙ ap (λ (x : RunTable). with_parts x progress w.drains) table
          ∙ ap (λ (p : Progress). with_parts (changed w.table (ReadyJob row.number)) p w.drains) noted)
        where
          with_parts : RunTable → Progress → Drained → WorldSeen
          with_parts x p d = record w { table = x; progress = p; drains = d }

      pub ready_so : EndsInTurn w ready_world slot ⊎ ReadiesInTurn w ready_world slot
      ready_so = inr ready_is

      pub ready_whole_then : IsWholeWorld ready_world
      ready_whole_then = ready_whole w ready_world ready_is.has.row whole ready_is.readies

-- the world still comes of its opening
pub turned_comes : (w v : WorldSeen) (slot : ℕ) (is : Turned) → IsTurned w v slot is → IsWholeWorld w → IsJoined w.nodes → Unfolds w.nodes → IsJoined v.nodes
    → (o : Opening) → Comes o w → Comes o v
turned_comes w v slot turned.Empty did whole joined unfolds after o comes = subst (Comes o) (sym did.1) comes
turned_comes w v slot turned.Copy did whole joined unfolds after o comes = subst (Comes o) (sym did.kept) (comes-drains o w (drains_at turn.Copy did.has.row w.drains) comes)
turned_comes w v slot turned.Idle did whole joined unfolds after o comes = subst (Comes o) (sym did.kept) (comes-drains o w (drains_at turn.Wait did.has.row w.drains) comes)
turned_comes w v slot (turned.Later g r) did whole joined unfolds after o comes =
    subst (Comes o) (sym did.kept) (comes-drains o w (after_turn did.has.row.number w.drains) comes)
turned_comes w v slot turned.Became (inl did) whole joined unfolds after o comes = ends_comes o w v did.has.row did.why did.offset whole joined unfolds did.ends after comes
turned_comes w v slot turned.Became (inr did) whole joined unfolds after o comes = readied_comes o w v did.has.row whole joined did.readies comes
