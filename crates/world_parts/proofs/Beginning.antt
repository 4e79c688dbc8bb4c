-- A new world comes of its store's files, its room and its guests.
use Rattle.std.proofs.Common.{◌≡◌, ℕ, true, List, [], ◌∷◌, length, map, replicate, refl, sym, ◌∙◌, ap, arith}
use Rattle.std.specs.Prelude.{IfOk, Result, Ok, Err, is_some}
use Rattle.std.proofs.lemmas.Bool.{false≢true}
use Rattle.std.proofs.lemmas.List.Elements.{All-nil}
use Rattle.blk_base.specs.declared.memory.Room.{Room}
use Rattle.qmp_rules.specs.Table.{opening_table}
use Rattle.flat_machine.specs.Opening.{start, new_guest}
use Rattle.flat_machine.specs.Licence.{Counts, IsBetweenCounts}
use Rattle.flat_machine.specs.declared.opening.Opening.{Opening}
use Rattle.flat_machine.proofs.Openings.{start_rests, start_agrees}
use Rattle.world_parts.specs.Face.{contents_of}
use Rattle.world_parts.specs.Comes.{Comes, ShowsState}
use Rattle.world_parts.proofs.Coherence.{coherent-new, jobs-new}
use Rattle.world_parts.proofs.Rises.{licensed-kept}
use Rattle.world_parts.specs.Keeping.{AreRises}
use Rattle.job_commands.proofs.Granules.{opening_granules}
use Rattle.job_commands.proofs.WholeEntries.{opening_whole}
use Rattle.job_ends.proofs.Held.{opening_held}
use Rattle.job_entries.proofs.Found.{opening_begun}
use Rattle.job_tables.proofs.TargetEvents.{opening_files}
use Rattle.world_parts.specs.Steps.{StoreSeen, new_world, IsOpeningOf}

rises-none : (opening now : Counts) → AreRises opening now []
rises-none opening now = record { rises = All-nil (IsBetweenCounts opening now); once = λ i j d less within. absurd (omega arith) }

-- one guest for each name
guests-start : (names : List (List ℕ)) → map (λ name. new_guest) names ≡ replicate (length names) new_guest
guests-start [] = refl
guests-start (name ∷ names) = ap (λ guests. new_guest ∷ guests) (guests-start names)

module _ (store : StoreSeen) (guests : List (List ℕ)) (room : Room) (o : Opening) (is : IsOpeningOf store guests o) where
  shows-start : is_some store.files ≡ true → ShowsState o (start o) (new_world store guests room)
  shows-start told =
      let files = is.files_are told in
      record {
        stands = start_rests o;
        dirty = refl;
        table = record { room_is = sym (is.room_is told); table_is = ap opening_table (sym is.guests_are); rest = record { started = refl; ended = refl } };
        guests = record { guests_are = guests-start o.guests ∙ ap (λ names. replicate (length names) new_guest) (sym is.guests_are); ended_are = refl };
        contents = start_agrees o (contents_of (new_world store guests room)) (λ name. rw files refl);
        images = λ node. record { noted = refl; mapped = λ name file is held. absurd cc };
      }

  pub comes-start : Comes o (new_world store guests room)
  comes-start = record {
    history = record {
      guests_are = is.guests_are;
      licensed = licensed-kept _ _ [] [] (rises-none _ _);
      history = λ told. record { legal = tt; rest = record { started = refl; ended = refl }; marks = tt };
    };
    counted = omega arith;
    requests = sym (guests-start guests) ∙ ap (map (λ name. new_guest)) is.guests_are;
    table = (ap opening_table is.guests_are, refl);
    granules = opening_granules guests;
    coherent = coherent-new guests room;
    shows = λ told. shows-start told;
    sound = λ told node image. absurd (false≢true image);
    jobs = jobs-new guests;
    kept = rises-none _ _;
    going = λ told. record {
      begun = opening_begun o;
      files = opening_files (start o) refl;
      ahead = λ row work there. absurd (omega (arith, there.1));
      unsure = opening_held o;
      whole = opening_whole o;
    };
    names = λ told. refl;
  }

pub ok-map : {A E : Type 0} (r : Result A E) (P Q : A → Type 0) → ((a : A) → P a → Q a) → IfOk r P → IfOk r Q
ok-map (Ok a) P Q f is = f a is
ok-map (Err e) P Q f is = is
