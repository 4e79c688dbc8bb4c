-- What is known of the script in its turn.
use Rattle.std.proofs.Common.{◌≡◌, ◌⊎◌, suc, ◌+◌, ◌-◌, true, false, List, [], ◌∷◌, ◌++◌, append_assoc, length, map, refl, sym, ◌∙◌, ap, subst, arith, Option, Some, None, inl, inr}
use Rattle.std.specs.Prelude.{option_to_list}
use Rattle.blk_base.specs.Written.{Written}
use Rattle.blk_history.specs.Names.{JobLine}
use Rattle.blk_history.specs.declared.event.Event.{Event}
use Rattle.blk_history.specs.declared.event.Event.TheVariants.{Start}
use Rattle.trace_codec.specs.declared.order.Order.{Order as OrderOf}
use Rattle.trace_codec.specs.declared.order.Order.TheVariants.{Give}
use Rattle.trace_codec.specs.Script.{Order, seen_order}
use Rattle.qmp_asks.specs.Naming.{is_name}
use Rattle.qmp_rules.specs.Queries.{bytes_of_node}
use Rattle.qmp_rules.specs.Table.{job_at}
use Rattle.qmp_rules.specs.declared.rows.JobRecord.{JobRecord}
use Rattle.flat_machine.specs.Comes.{job_line_of}
use Rattle.flat_machine.specs.Jobs.{granules_of}
use Rattle.flat_machine.specs.Legal.{IsNotDone}
use Rattle.flat_machine.specs.State.{Dirty, State}
use Rattle.job_progress.specs.Beginning.{begun_by, work_begun}
use Rattle.world_parts.specs.Carrying.{AnswersLine, IsReplied, reply_entry}
use Rattle.world_parts.specs.Face.{WorldSeen, seen_state}
use Rattle.world_parts.specs.Jobs.{BeginsNone, BeginsOne}
use Rattle.world_parts.specs.Progress.{Progress, ended_in, with_bare_entry, with_start}
use Rattle.world_parts.specs.Saying.{Given}
use Rattle.qblk_run.specs.Slots.{NoneFlies}
use Rattle.qblk_run.specs.Tasks.{ScriptTask, IsScriptIn, end_entries, entries_of_script}
use Rattle.qblk_run.specs.Turns.{ScriptMoves}
use Rattle.qblk_run.proofs.Counts.{flights-push}
use Rattle.qblk_run.proofs.Lists.{none-has}

-- ---- its next line, which was looked at and then taken

-- there is none
pub none-next : (orders : List Order) (old next taken : Option (OrderOf Written)) (olds rest : List (OrderOf Written)) → orders ≡ map seen_order (option_to_list old ++ olds)
    → option_to_list next ++ rest ≡ option_to_list old ++ olds → next ≡ None → taken ≡ None → orders ≡ map seen_order (option_to_list taken ++ rest)
none-next orders old next taken olds rest is kept none gone = rw (is, ← kept, none, gone) refl

pub first-next : (orders : List Order) (old next taken : Option (OrderOf Written)) (olds rest : List (OrderOf Written)) (order : OrderOf Written)
    → orders ≡ map seen_order (option_to_list old ++ olds) → option_to_list next ++ rest ≡ option_to_list old ++ olds → next ≡ Some order → taken ≡ None
    → orders ≡ seen_order order ∷ map seen_order (option_to_list taken ++ rest)
first-next orders old next taken olds rest order is kept some gone = rw (is, ← kept, some, gone) refl

-- ---- whether it is done

pub script-open : (w : WorldSeen) (old s : ScriptTask) → IsScriptIn w.progress s → old ≡ s → old.is_done ≡ false → IsNotDone (seen_state w) 0
script-open w old s is same going = none-has (ended_in w.progress.log.events) 0 s.is_done is.ended (ap (λ (t : ScriptTask). t.is_done) (sym same) ∙ going)

-- ---- a line is answered

-- no copy is in flight for a job that begins
begun-lands : (s : State) (row : JobRecord) → (work_begun s row).rows ≡ []
begun-lands s row = by_granules (granules_of s row row.bitmap)
  where
    by_granules : (d : Option Dirty) → (begun_by row (bytes_of_node s.table row.source) d).rows ≡ []
    by_granules None = refl
    by_granules (Some d) = refl

module _ (w v : WorldSeen) (before after : ScriptTask) (line : Given) (answers : AnswersLine w v line) (going : before.is_done ≡ false)
    (next : before.orders ≡ Give line.number line.text ∷ after.orders) (goes : after.is_done ≡ false)
    (names : (row : JobRecord) → job_at v.table w.table.started ≡ Some row → is_name row.id ≡ true) where
  abbrev between : WorldSeen
  between = answers.between

  abbrev told : IsReplied w between line
  told = answers.replied

  abbrev entry : Event
  entry = reply_entry w told.told line

  less : entries_of_script after + 4 ≡ entries_of_script before
  less =
      let one : end_entries before.is_done ≡ 1 = ap end_entries going in
      let other : end_entries after.is_done ≡ 1 = ap end_entries goes in
      let size : length before.orders ≡ suc (length after.orders) = ap length next in
      omega (arith, one, other, size)

  said : between.progress.log.events ≡ w.progress.log.events ++ entry ∷ []
  said = ap (λ (p : Progress). p.log.events) told.progress

  none-behind : BeginsNone w.table between v → ScriptMoves w v before after
  none-behind none =
      let same : v.progress ≡ between.progress = ap (λ (u : WorldSeen). u.progress) none.kept in
      let progress : v.progress ≡ with_bare_entry entry w.progress = same ∙ told.progress in
      let spare : v.progress.spare.entries ≡ w.progress.spare.entries - 1 = ap (λ (p : Progress). p.spare.entries) progress in
      let bytes : v.progress.spare.bytes ≡ w.progress.spare.bytes - 0 = ap (λ (p : Progress). p.spare.bytes) progress in
      let aside : v.progress.aside ≡ w.progress.aside = ap (λ (p : Progress). p.aside) progress in
      let fewer = less in
      record {
        entry = entry;
        behind = [];
        move = record {
          runs = going;
          own = (next, goes);
          events = ap (λ (p : Progress). p.log.events) progress;
          guests = ap (λ (p : Progress). p.guests) progress;
          entries = omega (arith, spare, fewer);
          bytes = omega (arith, bytes);
          steps = omega (arith, aside, fewer);
        };
        drains = ap (λ (u : WorldSeen). u.drains) none.kept ∙ told.drains;
        starts = (ap (λ (u : WorldSeen). u.table.started) none.kept ∙ none.started, ap (λ (p : Progress). p.jobs) progress);
        flights = λ lands. subst NoneFlies (sym (ap (λ (u : WorldSeen). u.works) none.kept ∙ told.works)) lands;
      }

  one-behind : BeginsOne w.table between v → ScriptMoves w v before after
  one-behind one =
      let line' : JobLine = job_line_of (seen_state between) (Some one.row) in
      let progress : v.progress ≡ with_start one.row.number line' (with_bare_entry entry w.progress)
      = ap (λ (u : WorldSeen). u.progress) one.begins.kept ∙ ap (with_start one.row.number line') told.progress in
      let spare : v.progress.spare.entries ≡ w.progress.spare.entries - 1 - 3 = ap (λ (p : Progress). p.spare.entries) progress in
      let bytes : v.progress.spare.bytes ≡ w.progress.spare.bytes - 0 - 0 = ap (λ (p : Progress). p.spare.bytes) progress in
      let aside : v.progress.aside ≡ w.progress.aside + 2 = ap (λ (p : Progress). p.aside) progress in
      let fewer = less in
      record {
        entry = entry;
        behind = Start one.row.number ∷ [];
        move = record {
          runs = going;
          own = (next, goes);
          events = ap (λ (p : Progress). p.log.events) progress ∙ append_assoc w.progress.log.events (entry ∷ []) (Start one.row.number ∷ []);
          guests = ap (λ (p : Progress). p.guests) progress;
          entries = omega (arith, spare, fewer);
          bytes = omega (arith, bytes);
          steps = omega (arith, aside, fewer);
        };
        drains = ap (λ (u : WorldSeen). u.drains) one.begins.kept ∙ told.drains;
        starts = record {
          number = one.number;
          started = ap (λ (u : WorldSeen). u.table.started) one.begins.kept ∙ one.started;
          line = line';
          named = names one.row (ap (λ (u : WorldSeen). job_at u.table w.table.started) one.begins.kept
              ∙ ap (job_at between.table) (sym one.number) ∙ one.begins.there);
          jobs = ap (λ (p : Progress). p.jobs) progress;
        };
        flights = λ lands. subst NoneFlies (sym (ap (λ (u : WorldSeen). u.works) one.begins.kept))
            (flights-push between.works (work_begun (seen_state between) one.row) (begun-lands (seen_state between) one.row) (subst NoneFlies (sym told.works) lands));
      }

  pub answered-moves : ScriptMoves w v before after
  answered-moves = by_begins answers.begins
    where
      by_begins : BeginsNone w.table between v ⊎ BeginsOne w.table between v → ScriptMoves w v before after
      by_begins (inl none) = none-behind none
      by_begins (inr one) = one-behind one
