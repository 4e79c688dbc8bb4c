-- A node that goes gives its device back with its count: counts run on, and the devices that are left tell their bytes.
use Rattle.std.proofs.Common.{◌≡◌, ◌≢◌, ℕ, zero, suc, ◌+◌, ◌≤◌, ◌==◌, Bool, true, false, not, List, [], ◌∷◌, length, inl, inr, refl, sym, ◌∙◌, ap, subst, arith, Option, Some, None}
use Rattle.std.specs.Prelude.{IsSome, is_some, Contains, slice_get, option_map, unwrap_or}
use Rattle.std.proofs.lemmas.Bool.{cases_eq, eqb-true, false≢true, ne_eqb}
use Rattle.std.proofs.lemmas.Option.{same_Some}
use Rattle.blk_base.specs.Stored.{files_with_returned}
use Rattle.blk_base.specs.declared.file.File.{File}
use Rattle.blk_base.specs.Files.{closed_with}
use Rattle.blk_base.specs.declared.file.Opened.{Opened}
use Rattle.blk_graph.proofs.Members.{Contains-filter, find-Some}
use Rattle.blk_history.specs.Fold.{With}
use Rattle.blk_nodes.specs.Dropping.{nodes_without, other_devices}
use Rattle.blk_nodes.specs.Nodes.{DeviceSeen, is_device_of, device_in}
use Rattle.blk_nodes.proofs.Dropped.{none_gone}
use Rattle.qmp_rules.specs.Changes.{changed}
use Rattle.qmp_rules.specs.declared.change.Change.TheVariants.{RemoveNode}
use Rattle.flat_machine.specs.Licence.{Counts}
use Rattle.world_parts.specs.Coherent.{AreOut, DevicesTell}
use Rattle.world_parts.specs.Counting.{RunsOn, IsLater, HaveNotFallen}
use Rattle.world_parts.specs.Deleting.{TellsFlush, name_under, with_back, ground_of, HasLeft}
use Rattle.world_files.specs.Deletions.{after_deletion}
use Rattle.world_parts.specs.Face.{WorldSeen, device_numbered, count_of_opening, counts_from, counts_now}
use Rattle.world_parts.specs.Steps.{StoreSeen}
use Rattle.world_parts.proofs.CountLemmas.{counts-at, goes-on, numbered, same-devices, not-fallen, with-of}
use Rattle.world_parts.proofs.CountsKept.{KeepsFaultCounts, counts-equal, length-counts}
use Rattle.world_parts.proofs.DeletedLists.{kept-in, given-there, given-other}
use Rattle.world_files.proofs.DeletedParts.{one_of, was, only_out, out_left}
use Rattle.world_files.proofs.DeletedSteps.{Parts}
use Rattle.world_parts.proofs.RunOpenings.{length-back}

-- the opening of a count
pub counted-at : (devices : List DeviceSeen) (opened : List Opened) (first n count : ℕ) → slice_get (counts_from devices first opened) n ≡ Some count
    → (o : Opened) × (slice_get opened n ≡ Some o) × (count_of_opening devices (first + n) o ≡ count)
counted-at devices [] first n count is = absurd (let bad : ⊥ = cc is in bad)
counted-at devices (o ∷ opened) first zero count is =
    let at : first + 0 ≡ first = omega arith in
    (o, refl, ap (λ (k : ℕ). count_of_opening devices k o) at ∙ same_Some (count_of_opening devices first o) count is)
counted-at devices (o ∷ opened) first (suc n) count is =
    let at : first + suc n ≡ first + 1 + n = omega arith in
    let later = counted-at devices opened (first + 1) n count is in
    (later.0, later.1, ap (λ (k : ℕ). count_of_opening devices k later.0) at ∙ later.2)

-- a device that is back tells as much as the store
told-back : (name : List ℕ) (content : Option (List ℕ)) (limit : ℕ) (flushed : Option Bool) (files : Option (List File))
    → (is_some files ≡ true → is_some content ≡ true) → (is_some content ≡ true → is_some flushed ≡ true)
    → is_some (files_with_returned name content limit flushed files) ≡ is_some files
told-back name content limit flushed None tells flush = by_content content flushed
  where
    by_content : (content : Option (List ℕ)) (flushed : Option Bool) → is_some (files_with_returned name content limit flushed None) ≡ false
    by_content None flushed = refl
    by_content (Some bytes) None = refl
    by_content (Some bytes) (Some f) = refl
told-back name None limit flushed (Some files) tells flush = absurd (false≢true (tells refl))
told-back name (Some bytes) limit None (Some files) tells flush = absurd (false≢true (flush refl))
told-back name (Some bytes) limit (Some f) (Some files) tells flush = refl

module _ (w : WorldSeen) (node : ℕ) (parts : Parts w.table (ground_of w)) (tell : DevicesTell w.files w.nodes.devices) (has : HasLeft (ground_of w) node) where
  abbrev v : WorldSeen
  v = after_deletion node w

  -- ---- a node with a device

  module _ (d : DeviceSeen) (is : device_in w.nodes.devices node ≡ Some d) where
    abbrev name : List ℕ
    name = name_under w.table node

    abbrev back : StoreSeen
    back = with_back name (Some d) (ground_of w).store

    there : Contains w.nodes.devices d
    there = (find-Some (is_device_of node) w.nodes.devices d is).0

    of : d.node ≡ node
    of = eqb-true d.node node (find-Some (is_device_of node) w.nodes.devices d is).1

    -- the openings that are out are those of the devices that are left
    out : AreOut (changed w.table (RemoveNode node)) (nodes_without node w.nodes) back.opened
    out = out_left w.table w.nodes w.opened node parts.joined parts.out d is

    here : slice_get back.opened d.number.0 ≡ Some (closed_with d.faults d.failed_call (was w.table w.nodes w.opened node parts.joined parts.out d is).opening)
    here = given-there name d.faults d.failed_call w.opened d.number.0 (was w.table w.nodes w.opened node parts.joined parts.out d is).opening
        (only_out w.table w.nodes w.opened node parts.joined parts.out d is)

    other : (n : ℕ) → n ≢ d.number.0 → slice_get back.opened n ≡ slice_get w.opened n
    other = given-other name d.faults d.failed_call w.opened d.number.0 (was w.table w.nodes w.opened node parts.joined parts.out d is).opening
        (only_out w.table w.nodes w.opened node parts.joined parts.out d is)

    pub openings_back : (n : ℕ) (o : Opened) → slice_get w.opened n ≡ Some o → With (slice_get back.opened n) (IsLater o)
    openings_back n o at = elim (cases_eq n d.number.0) [
      | inl same ↦
          let was' = was w.table w.nodes w.opened node parts.joined parts.out d is in
          let its : o ≡ was'.opening = same_Some o was'.opening (sym at ∙ ap (slice_get w.opened) same ∙ was'.there) in
          with-of (slice_get back.opened n) (closed_with d.faults d.failed_call was'.opening) (IsLater o) (ap (slice_get back.opened) same ∙ here)
          (record {
            name = ap (λ (x : Opened). x.name) (sym its);
            size = ap (λ (x : Opened). x.size) (sym its);
            capacity = ap (λ (x : Opened). x.capacity) (sym its);
            first = ap (λ (x : Opened). x.faults) (sym its);
            back = λ some. absurd (not_back (subst (λ (x : Opened). IsSome x.returned) its some));
          })
      | inr apart ↦ with-of (slice_get back.opened n) o (IsLater o) (other n apart ∙ at) (goes-on o)
    ]
      where
        not_back : IsSome (was w.table w.nodes w.opened node parts.joined parts.out d is).opening.returned → ⊥
        not_back some =
            let was' = was w.table w.nodes w.opened node parts.joined parts.out d is in
            let bad : false ≡ true = subst (λ (r : Option ℕ). is_some r ≡ true) was'.out some in
            false≢true bad

    -- the device of an opening that isn't this one's is still there
    left_there : (n : ℕ) (o : Opened) → slice_get w.opened n ≡ Some o → o.returned ≡ None → n ≢ d.number.0
        → device_numbered (other_devices node w.nodes.devices) n ≡ device_numbered w.nodes.devices n
    left_there n o at none apart = by_device (device_numbered w.nodes.devices n) refl (parts.out.all n o at none)
      where
        by_device : (found : Option DeviceSeen) → device_numbered w.nodes.devices n ≡ found → IsSome found
            → device_numbered (other_devices node w.nodes.devices) n ≡ device_numbered w.nodes.devices n
        by_device None e some = absurd (false≢true some)
        by_device (Some x) e some =
            let found = find-Some (λ (y : DeviceSeen). y.number.0 == n) w.nodes.devices x e in
            let number : x.number.0 ≡ n = eqb-true x.number.0 n found.1 in
            let differs : x.node ≢ node = λ same. apart (sym number ∙ ap (λ (y : DeviceSeen). y.number.0) (one x found.0 same)) in
            let kept : Contains (other_devices node w.nodes.devices) x =
            kept-in (λ (y : DeviceSeen). not (is_device_of node y)) w.nodes.devices x found.0 (ap not (ne_eqb x.node node differs)) in
            ap (device_numbered (other_devices node w.nodes.devices)) (sym number)
            ∙ numbered (other_devices node w.nodes.devices) x out.once kept
            ∙ sym e
          where
            one : (x : DeviceSeen) → Contains w.nodes.devices x → x.node ≡ node → x ≡ d
            one x at' same = one_of w.table w.nodes w.opened node parts.joined parts.out node x d at' there same of

    -- each count stays
    counts_stay : (n count : ℕ) → slice_get (counts_now w).devices n ≡ Some count
        → slice_get (counts_from (other_devices node w.nodes.devices) 0 back.opened) n ≡ Some count
    counts_stay n count at =
        let old = counted-at w.nodes.devices w.opened 0 n count at in
        elim (cases_eq n d.number.0) [
          | inl same ↦ at_own n count old.0 old.1 old.2 same
          | inr apart ↦ at_other n count old.0 old.1 old.2 apart old.0.returned refl
        ]
      where
        at_own : (n count : ℕ) (o : Opened) → slice_get w.opened n ≡ Some o → count_of_opening w.nodes.devices (0 + n) o ≡ count → n ≡ d.number.0
            → slice_get (counts_from (other_devices node w.nodes.devices) 0 back.opened) n ≡ Some count
        at_own n count o at counted same =
            let was' = was w.table w.nodes w.opened node parts.joined parts.out d is in
            let its : o ≡ was'.opening = same_Some o was'.opening (sym at ∙ ap (slice_get w.opened) same ∙ was'.there) in
            let none : o.returned ≡ None = ap (λ (x : Opened). x.returned) its ∙ was'.out in
            let zero_first : 0 + n ≡ d.number.0 = omega (arith, same) in
            let found = numbered w.nodes.devices d parts.out.once there in
            let before : count_of_opening w.nodes.devices (0 + n) o ≡ d.faults = rw (none, zero_first, found) refl in
            let now = counts-at (other_devices node w.nodes.devices) back.opened 0 n (closed_with d.faults d.failed_call was'.opening) (ap (slice_get back.opened) same ∙ here) in
            now ∙ ap Some (sym before ∙ counted)

        at_other : (n count : ℕ) (o : Opened) → slice_get w.opened n ≡ Some o → count_of_opening w.nodes.devices (0 + n) o ≡ count → n ≢ d.number.0
            → (back' : Option ℕ) → o.returned ≡ back'
            → slice_get (counts_from (other_devices node w.nodes.devices) 0 back.opened) n ≡ Some count
        at_other n count o at counted apart back' e =
            let now = counts-at (other_devices node w.nodes.devices) back.opened 0 n o (other n apart ∙ at) in
            let same : count_of_opening (other_devices node w.nodes.devices) (0 + n) o ≡ count_of_opening w.nodes.devices (0 + n) o = same_count back' e in
            now ∙ ap Some (same ∙ counted)
          where
            zero_first : 0 + n ≡ n
            zero_first = omega arith

            same_count : (back' : Option ℕ) → o.returned ≡ back'
                → count_of_opening (other_devices node w.nodes.devices) (0 + n) o ≡ count_of_opening w.nodes.devices (0 + n) o
            same_count (Some c) e = rw e refl
            same_count None e =
                let same = left_there n o at e apart in
                rw (e, zero_first) (ap (λ (found : Option DeviceSeen). unwrap_or (option_map (λ (x : DeviceSeen). x.faults) found) o.faults) same)

    counts_back : HaveNotFallen (counts_now w).devices (counts_from (other_devices node w.nodes.devices) 0 back.opened)
    counts_back n count at =
        with-of (slice_get (counts_from (other_devices node w.nodes.devices) 0 back.opened) n) count (λ now. count ≤ now) (counts_stay n count at)
        (omega arith)

    many_back : length back.opened ≡ length w.opened
    many_back = length-back name d.faults d.failed_call w.opened

    same_back : counts_from (other_devices node w.nodes.devices) 0 back.opened ≡ (counts_now w).devices
    same_back =
        counts-equal (counts_now w).devices (counts_from (other_devices node w.nodes.devices) 0 back.opened)
        (length-counts (other_devices node w.nodes.devices) 0 back.opened ∙ many_back ∙ sym (length-counts w.nodes.devices 0 w.opened)) counts_stay

  -- ---- a node with a device or without one

  abbrev gone : Option DeviceSeen → WorldSeen
  gone found = record w {
    files = (with_back (name_under w.table node) found (ground_of w).store).files;
    opened = (with_back (name_under w.table node) found (ground_of w).store).opened;
    nodes = nodes_without node w.nodes;
    table = changed w.table (RemoveNode node);
  }

  runs_by : (found : Option DeviceSeen) → device_in w.nodes.devices node ≡ found → RunsOn w (gone found)
  runs_by None is = record {
    told = refl;
    room = refl;
    first = refl;
    earlier = refl;
    store = omega arith;
    openings = λ n o at. with-of (slice_get w.opened n) o (IsLater o) at (goes-on o);
    devices = subst (λ (ds : List DeviceSeen). HaveNotFallen (counts_now w).devices (counts_from ds 0 w.opened)) (sym (none_gone node w.nodes.devices is))
        (not-fallen w.nodes.devices w.nodes.devices (same-devices w.nodes.devices) w.opened 0);
  }
  runs_by (Some d) is = record {
    told = told-back (name_under w.table node) d.content d.capacity d.is_flushed w.files (λ some. tell some d (there d is)) (subst TellsFlush is has.flush);
    room = refl;
    first = refl;
    earlier = refl;
    store = omega arith;
    openings = openings_back d is;
    devices = counts_back d is;
  }

  keeps_by : (found : Option DeviceSeen) → device_in w.nodes.devices node ≡ found → KeepsFaultCounts w (gone found)
  keeps_by None is = record {
    now = ap (λ (ds : List DeviceSeen). let c : Counts = record { store = w.faults; devices = counts_from ds 0 w.opened } in c)
        (none_gone node w.nodes.devices is);
    many = refl;
  }
  keeps_by (Some d) is = record {
    now = ap (λ (l : List ℕ). let c : Counts = record { store = w.faults; devices = l } in c) (same_back d is);
    many = many_back d is;
  }

  pub counts_left : KeepsFaultCounts w v
  counts_left = keeps_by (device_in w.nodes.devices node) refl

  pub runs_left : RunsOn w v
  runs_left = runs_by (device_in w.nodes.devices node) refl

  -- the devices that are left tell
  pub tell_left : DevicesTell v.files v.nodes.devices
  tell_left some d there =
      tell (sym runs_left.told ∙ some) d (Contains-filter (λ (x : DeviceSeen). not (is_device_of node x)) w.nodes.devices d there).0
