-- Requests in flight on disks: guest by guest.
use Rattle.std.proofs.Common.{◌≡◌, ℕ, true, List, refl, sym, ◌∙◌, ap, subst, Option, Some, None}
use Rattle.std.specs.Prelude.{IsSome, Contains, slice_get, option_and_then, option_map}
use Rattle.std.specs.List.{list_any}
use Rattle.std.proofs.lemmas.Bool.{eq-eqb}
use Rattle.std.proofs.lemmas.List.Elements.{All-weaker, All-contains_itself}
use Rattle.blk_graph.proofs.Members.{list_any-there}
use Rattle.blk_history.specs.Fold.{With}
use Rattle.blk_history.specs.Machine.{Flight}
use Rattle.qmp_rules.specs.Chains.{disk_node}
use Rattle.flat_machine.specs.State.{State, Guest, drive_of}
use Rattle.flat_machine.specs.Marks.{AreCalm, IsCalm, IsInTheWay, is_on}
use Rattle.blk_history.specs.declared.event.Event.{Event}
use Rattle.world_parts.specs.declared.row.GuestProgress.{GuestProgress}
use Rattle.world_parts.specs.declared.row.InFlight.{InFlight}
use Rattle.world_parts.specs.Draining.{number_in_flight}
use Rattle.world_parts.specs.Progress.{HaveTheirPlaces, IsPlacedIn, flight_in, guests_in}
use Rattle.world_parts.proofs.Rows.{guests-at, placed-at}

-- ---- rows

pub request-is : (es : List Event) (rows : List GuestProgress) (g : ℕ) (row : GuestProgress) → slice_get rows g ≡ Some row → HaveTheirPlaces es rows
    → number_in_flight (slice_get (guests_in es rows) g) ≡ option_map (λ (f : InFlight). row.done) row.flight
request-is es rows g row there placed =
    ap number_in_flight (guests-at es rows g row there) ∙ by_flight row.flight (placed-at es rows g row placed there)
  where
    by_flight : (flight : Option InFlight) → IsPlacedIn es row.done flight
        → option_map (λ (f : Flight). row.done) (option_and_then (flight_in es) flight) ≡ option_map (λ (f : InFlight). row.done) flight
    by_flight None is = refl
    by_flight (Some f) is = rw is.at refl

-- ---- all guests

pub disk-has : (s : State) (disks : List ℕ) (g r : ℕ) → IsInTheWay s disks g r → IsSome (drive_of s.table g)
disk-has s disks g r way = by_drive (drive_of s.table g) way.on_disk
  where
    by_drive : (drive : Option ℕ) → With (option_map (disk_node s.table) drive) (λ node. list_any (is_on s.table node) disks ≡ true) → IsSome drive
    by_drive None is = absurd is
    by_drive (Some drive) is = refl

-- where no guest is in the way all is calm
pub none_calm : (s : State) (disks : List ℕ) → ((g r : ℕ) → IsInTheWay s disks g r → ⊥) → AreCalm s.table s.guests disks
none_calm s disks none = All-weaker (Contains disks) (IsCalm s.table s.guests) calm disks (All-contains_itself disks)
  where
    calm : (node : ℕ) → Contains disks node → IsCalm s.table s.guests node
    calm node there g row at on = by_flight row.flight refl
      where
        by_flight : (flight : Option Flight) → row.flight ≡ flight → row.flight ≡ None
        by_flight None e = e
        by_flight (Some f) e = absurd (none g row.done (record {
          request = subst (λ (x : Option Guest). With x (λ y. (row.done ≡ y.done) × IsSome y.flight)) (sym at) (refl, subst IsSome (sym e) refl);
          on_disk =
              subst (λ (disk : Option ℕ). With disk (λ n. list_any (is_on s.table n) disks ≡ true)) (sym on)
              (list_any-there (is_on s.table (disk_node s.table node)) disks node there (eq-eqb (disk_node s.table node) (disk_node s.table node) refl));
        }))
