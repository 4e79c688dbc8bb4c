-- What runs that are put leave of the nodes, and of the disk that they are put to.
use Rattle.std.proofs.Common.{◌≡◌, ◌≢◌, ℕ, ◌+◌, ◌-◌, ◌%◌, ◌<◌, ◌≤◌, nat_le, nat_lt, Bool, true, false, List, [], ◌∷◌, length, get_or, replicate, Option, Some, None, refl, sym, ◌∙◌, ap, subst, arith, inl, inr}
use Rattle.std.specs.Prelude.{◌⊎◌, ◌&&◌, ◌||◌, All, is_some, option_map}
use Rattle.std.proofs.lemmas.Bool.{cases_eq, cases_lt}
use Rattle.std.proofs.lemmas.Bool.Decides.{nat_tests}
use Rattle.std.proofs.lemmas.List.{ext_get_or, get_or-replicate, get_or-take, length-replicate, length-take}
use Rattle.std.proofs.lemmas.List.Elements.{All-get_or}
use Rattle.blk_base.specs.Content.{with_bytes}
use Rattle.blk_base.specs.Outcomes.{is_good}
use Rattle.blk_base.specs.Pieces.{Extent, end_of}
use Rattle.blk_base.specs.declared.fault.Outcome.{Outcome}
use Rattle.blk_base.specs.declared.fault.Outcome.TheVariants.{Good, Torn, Io, NoSpace}
use Rattle.blk_base.proofs.Contents.{get_or-bytes_at, get_or-with_bytes_inside, get_or-with_bytes_outside, length-bytes_at, length-with_bytes_within}
use Rattle.blk_graph.specs.Edits.{child_of}
use Rattle.blk_graph.specs.Graph.{Graph}
use Rattle.blk_graph.specs.declared.edge.Parent.TheVariants.{Node}
use Rattle.blk_graph.specs.declared.edge.Role.{Role}
use Rattle.blk_graph.specs.declared.edge.Role.TheVariants.{File as FileRole, Backing}
use Rattle.blk_graph.proofs.Members.{find-Some}
use Rattle.q2_image.specs.Image.{Known}
use Rattle.blk_nodes.specs.Contents.{disk_of}
use Rattle.blk_nodes.specs.Joined.{IsJoined}
use Rattle.blk_nodes.specs.Nodes.{Nodes, DeviceSeen, AreTold, is_device_of, row_at, device_in, size_by, node_size}
use Rattle.blk_nodes.specs.Reading.{HaveRisen, LeadsTo, OnlyAt}
use Rattle.blk_nodes.specs.Writing.{AreRowsAfter, CanBeWritten, HasImageIn, IsApartFrom, IsDriverAfter, IsRowAfter, LeavesNodes, MayWriteThrough, WritesBy, WritesPiece, WritesFile, WritesImage, ZerosBy, ZerosPiece, own_file, taken_by}
use Rattle.blk_nodes.specs.declared.row.Driver.{Driver}
use Rattle.blk_nodes.specs.declared.row.Driver.TheVariants as drivers
use Rattle.blk_nodes.specs.declared.row.Row.{Row}
use Rattle.blk_nodes.proofs.Copied.{noded}
use Rattle.blk_nodes.proofs.CoveredDisks.{length_disk}
use Rattle.blk_nodes.proofs.HeldDevices.{before_rise}
use Rattle.node_copies.specs.Putting.{IsPut, IsZeroBlock, PutsRun, PutsRuns}
use Rattle.node_copies.specs.Sectors.{has_run, has_sector, is_asked, is_in_run, run_bytes, run_len, run_span, run_start, runs_of, sector_at, sector_count}
use Rattle.node_copies.specs.declared.sectors.Run.{Run}
use Rattle.node_copies.proofs.Runs.{LieWithin, runs_asked, runs_within}

-- ---- devices still tell their bytes

some_mapped : (f : List ℕ → List ℕ) (content : Option (List ℕ)) → is_some (option_map f content) ≡ is_some content
some_mapped f None = refl
some_mapped f (Some bytes) = refl

module _ (old new : Nodes) (now : IsJoined new) where
  -- where one of them alone was called
  told_at : (file : ℕ) (before after : DeviceSeen) → device_in old.devices file ≡ Some before → device_in new.devices file ≡ Some after
      → is_some after.content ≡ is_some before.content → OnlyAt file old.devices new.devices → AreTold old.devices → AreTold new.devices
  told_at file before after held left same only all d there = elim (cases_eq d.node file) [
    | inl here ↦
        let is : d ≡ after = cc (sym (noded new.devices d now.once there) ∙ ap (device_in new.devices) here ∙ left) in
        ap (λ (x : DeviceSeen). is_some x.content) is ∙ same ∙ all before (find-Some (is_device_of file) old.devices before held).0
    | inr apart ↦
        all d (find-Some (is_device_of d.node) old.devices d (sym (only.others d.node apart) ∙ noded new.devices d now.once there)).0
  ]

  -- where counts alone rose
  pub told_risen : HaveRisen old.devices new.devices → AreTold old.devices → AreTold new.devices
  told_risen risen all d there =
      let was = before_rise d.node old.devices new.devices d risen (noded new.devices d now.once there) in
      ap (λ (x : DeviceSeen). is_some x.content) was.2.same ∙ all was.0 (find-Some (is_device_of d.node) old.devices was.0 was.1).0

  told_file : (node place : ℕ) (bytes : List ℕ) (outcome : Outcome) → WritesFile old new node place bytes outcome → AreTold old.devices → AreTold new.devices
  told_file node place bytes outcome is =
      told_at is.file is.at.before is.at.after is.at.held is.at.left
      (ap is_some is.at.wrote.content ∙ some_mapped (λ b. with_bytes b is.start (taken_by outcome bytes)) is.at.before.content) is.at.only

  told_image : (fits : ℕ → Type 0) (own : Option ℕ) (rest : Option Extent) (node n : ℕ) (outcome : Outcome) → WritesImage fits own rest old new node n outcome
      → AreTold old.devices → AreTold new.devices
  told_image fits own rest node n outcome is = elim is.devices [
    | inl only ↦ told_at is.file is.before is.after is.held is.left is.device.told only
    | inr risen ↦ told_risen risen
  ]

  pub told_written : (node : ℕ) (span : Extent) (bytes : List ℕ) (outcome : Outcome) → WritesPiece old new node span bytes outcome → AreTold old.devices → AreTold new.devices
  told_written node span bytes outcome is = by is.row.driver is.wrote
    where
      by : (d : Driver) → WritesBy d old new node span bytes outcome → AreTold old.devices → AreTold new.devices
      by drivers.File wrote = told_file node span.start bytes outcome wrote
      by (drivers.Raw part) wrote = told_file node span.start bytes outcome wrote
      by (drivers.Qcow2 image) wrote = told_image _ _ _ node (length bytes) outcome wrote
      by drivers.CopyOnRead wrote = told_file node span.start bytes outcome wrote
      by (drivers.Filter kind) wrote = told_file node span.start bytes outcome wrote

  pub told_zeroed : (node : ℕ) (span : Extent) (outcome : Outcome) → ZerosPiece old new node span outcome → AreTold old.devices → AreTold new.devices
  told_zeroed node span outcome is = by is.row.driver is.wrote
    where
      by : (d : Driver) → ZerosBy d old new node span outcome → AreTold old.devices → AreTold new.devices
      by drivers.File wrote = told_file node span.start (replicate span.len 0) outcome wrote
      by (drivers.Raw part) wrote = told_file node span.start (replicate span.len 0) outcome wrote
      by (drivers.Qcow2 image) wrote = told_image _ _ _ node span.len outcome wrote
      by drivers.CopyOnRead wrote = told_file node span.start (replicate span.len 0) outcome wrote
      by (drivers.Filter kind) wrote = told_file node span.start (replicate span.len 0) outcome wrote

-- zeros are what a span of them has
pub all_zeros : (bytes : List ℕ) → All (λ b. b ≡ 0) bytes → bytes ≡ replicate (length bytes) 0
all_zeros bytes is =
    ext_get_or 0 bytes (replicate (length bytes) 0) (sym (length-replicate {A = ℕ} (length bytes) 0))
    (λ k less. All-get_or (λ b. b ≡ 0) bytes k 0 less is ∙ sym (get_or-replicate (length bytes) k 0 0 less))

-- ---- a node that was written may still be

module _ (old new : Nodes) (node : ℕ) (kept : LeavesNodes old new node) where
  pub child_kept : (n : ℕ) (role : Role) → child_of (Node n) role new.graph.edges ≡ child_of (Node n) role old.graph.edges
  child_kept n role = ap (λ (g : Graph). child_of (Node n) role g.edges) kept.graph

  size_after : (a b : Option Row) → AreRowsAfter a b → size_by b ≡ size_by a
  size_after None b is = ap size_by is
  size_after (Some row) b is = ap size_by is.1 ∙ is.2.size

  pub size_kept : (n : ℕ) → node_size new n ≡ node_size old n
  size_kept n = elim (cases_eq n node) [
    | inl same ↦ rw same (size_after (row_at old node) (row_at new node) kept.own)
    | inr apart ↦ ap size_by (kept.others n apart)
  ]

  own_file_by : (d e : Driver) → IsDriverAfter d e → own_file new node e ≡ own_file old node d
  own_file_by drivers.File e is = ap (own_file new node) is
  own_file_by (drivers.Raw part) e is = ap (own_file new node) is ∙ child_kept node FileRole
  own_file_by (drivers.Qcow2 image) e is = ap (own_file new node) is.1 ∙ child_kept node FileRole
  own_file_by drivers.CopyOnRead e is = ap (own_file new node) is
  own_file_by (drivers.Filter kind) e is = ap (own_file new node) is

  can_by : (d e : Driver) → IsDriverAfter d e → CanBeWritten old node d → CanBeWritten new node e
  can_by drivers.File e is can = subst (CanBeWritten new node) (sym is) tt
  can_by (drivers.Raw part) e is can = subst (CanBeWritten new node) (sym is) tt
  can_by (drivers.Qcow2 image) e is can = subst (CanBeWritten new node) (sym is.1) (λ over file backing edge leads.
      can over file (sym (child_kept node Backing) ∙ backing) (sym (child_kept node FileRole) ∙ edge) (subst (λ (g : Graph). LeadsTo g.edges over file) kept.graph leads))
  can_by drivers.CopyOnRead e is can = absurd can
  can_by (drivers.Filter kind) e is can = absurd can

  -- of a row and the one that it was
  own_after : (row : Row) → row_at old node ≡ Some row → (now : Row) × (row_at new node ≡ Some now) × IsRowAfter row now
  own_after row there = subst (λ (found : Option Row). AreRowsAfter found (row_at new node)) there kept.own

  image_by : (d e : Driver) (image : Known) → IsDriverAfter d e → e ≡ drivers.Qcow2 image → (was : Known) × (d ≡ drivers.Qcow2 was)
  image_by drivers.File e image is same = let bad : drivers.File ≡ drivers.Qcow2 image = sym is ∙ same in absurd (cc bad)
  image_by (drivers.Raw part) e image is same = let bad : drivers.Raw part ≡ drivers.Qcow2 image = sym is ∙ same in absurd (cc bad)
  image_by (drivers.Qcow2 was) e image is same = (was, refl)
  image_by drivers.CopyOnRead e image is same = let bad : drivers.CopyOnRead ≡ drivers.Qcow2 image = sym is ∙ same in absurd (cc bad)
  image_by (drivers.Filter kind) e image is same = let bad : drivers.Filter kind ≡ drivers.Qcow2 image = sym is ∙ same in absurd (cc bad)

  image_was : (n file : ℕ) → HasImageIn new n file → HasImageIn old n file
  image_was n file has = elim (cases_eq n node) [
    | inl same ↦ by (row_at old node) refl kept.own same
    | inr apart ↦ record {
      row = has.row;
      image = has.image;
      there = sym (kept.others n apart) ∙ has.there;
      driver = has.driver;
      edge = sym (child_kept n FileRole) ∙ has.edge;
    }
  ]
    where
      by : (found : Option Row) → row_at old node ≡ found → AreRowsAfter found (row_at new node) → n ≡ node → HasImageIn old n file
      by None there after same = let bad : Some has.row ≡ None = sym has.there ∙ ap (row_at new) same ∙ after in absurd (cc bad)
      by (Some row) there after same =
          let is : after.0 ≡ has.row = cc (sym after.1 ∙ ap (row_at new) (sym same) ∙ has.there) in
          let was = image_by row.driver after.0.driver has.image after.2.driver (ap (λ (r : Row). r.driver) is ∙ has.driver) in
          record {
            row = row;
            image = was.0;
            there = ap (row_at old) same ∙ there;
            driver = was.1;
            edge = sym (child_kept n FileRole) ∙ has.edge;
          }

  pub may_still : MayWriteThrough old node → MayWriteThrough new node
  may_still may =
      let now = own_after may.row may.there in
      record {
        row = now.0;
        there = now.1;
        writable = now.2.is_read_only ∙ may.writable;
        can = can_by may.row.driver now.0.driver now.2.driver may.can;
        owns = λ file own other has. may.owns file (sym (own_file_by may.row.driver now.0.driver now.2.driver) ∙ own) other (image_was other file has);
      }

  apart_by : (other : ℕ) → IsApartFrom old other node → IsApartFrom new other node
  apart_by other apart row file there own leads = by (row_at old node) refl kept.own
    where
      by : (found : Option Row) → row_at old node ≡ found → AreRowsAfter found (row_at new node) → ⊥
      by None is after = let bad : Some row ≡ None = sym there ∙ after in cc bad
      by (Some was) is after =
          let same : after.0 ≡ row = cc (sym after.1 ∙ there) in
          let own_was : own_file old node was.driver ≡ Some file
          = sym (own_file_by was.driver after.0.driver after.2.driver) ∙ ap (λ (r : Row). own_file new node r.driver) same ∙ own in
          apart was file is own_was (subst (λ (g : Graph). LeadsTo g.edges other file) kept.graph leads)

  pub apart_still : (other : ℕ) → IsApartFrom old other node → IsApartFrom new other node
  apart_still = apart_by

-- one after the other
then_driver : (a b c : Driver) → IsDriverAfter a b → IsDriverAfter b c → IsDriverAfter a c
then_driver drivers.File b c ab bc = let P : Driver → Type 0 = λ d. IsDriverAfter d c in subst P ab bc
then_driver (drivers.Raw part) b c ab bc = let P : Driver → Type 0 = λ d. IsDriverAfter d c in subst P ab bc
then_driver (drivers.Qcow2 image) b c ab bc =
    let next : IsDriverAfter (drivers.Qcow2 ab.0) c = subst (λ (d : Driver). IsDriverAfter d c) ab.1 bc in
    (next.0, next.1, next.2 ∙ ab.2, (λ n taken. next.3 n (ab.3 n taken)), λ cluster mapped. next.4 cluster (ab.4 cluster mapped))
then_driver drivers.CopyOnRead b c ab bc = let P : Driver → Type 0 = λ d. IsDriverAfter d c in subst P ab bc
then_driver (drivers.Filter kind) b c ab bc = let P : Driver → Type 0 = λ d. IsDriverAfter d c in subst P ab bc

then_rows : (a b c : Option Row) → AreRowsAfter a b → AreRowsAfter b c → AreRowsAfter a c
then_rows None b c ab bc = let P : Option Row → Type 0 = λ r. AreRowsAfter r c in subst P ab bc
then_rows (Some row) b c ab bc =
    let next : AreRowsAfter (Some ab.0) c = subst (λ (r : Option Row). AreRowsAfter r c) ab.1 bc in (
      next.0,
      next.1,
      record {
        size = next.2.size ∙ ab.2.size;
        is_read_only = next.2.is_read_only ∙ ab.2.is_read_only;
        driver = then_driver row.driver ab.0.driver next.0.driver ab.2.driver next.2.driver;
      },
    )

pub then_leaves : (old mid new : Nodes) (node : ℕ) → LeavesNodes old mid node → LeavesNodes mid new node → LeavesNodes old new node
then_leaves old mid new node first last = record {
  graph = last.graph ∙ first.graph;
  others = λ other apart. last.others other apart ∙ first.others other apart;
  own = then_rows (row_at old node) (row_at mid node) (row_at new node) first.own last.own;
}

driver_refl : (driver : Driver) → IsDriverAfter driver driver
driver_refl drivers.File = refl
driver_refl (drivers.Raw part) = refl
driver_refl (drivers.Qcow2 image) = (image, refl, refl, (λ n taken. taken), λ cluster mapped. mapped)
driver_refl drivers.CopyOnRead = refl
driver_refl (drivers.Filter kind) = refl

row_refl : (found : Option Row) → AreRowsAfter found found
row_refl None = refl
row_refl (Some row) = (row, refl, record { size = refl; is_read_only = refl; driver = driver_refl row.driver })

pub leaves_called : (old new : Nodes) (node : ℕ) → new ≡ record old { devices = new.devices } → LeavesNodes old new node
leaves_called old new node is = record {
  graph = ap (λ (n : Nodes). n.graph) is;
  others = λ other apart. ap (λ (n : Nodes). row_at n other) is;
  own = subst (AreRowsAfter (row_at old node)) (sym (ap (λ (n : Nodes). row_at n node) is)) (row_refl (row_at old node));
}

-- ---- runs

module _ (block : Extent) (to : ℕ) (bytes : List ℕ) where
  pub runs_told : (runs : List Run) (old new : Nodes) (outcome : Outcome) → PutsRuns runs block old new to bytes outcome → AreTold old.devices → AreTold new.devices
  runs_told [] old new outcome is told = subst (λ (n : Nodes). AreTold n.devices) (sym is.0) told
  runs_told (run ∷ runs) old new outcome (mid, first, put, rest) told = elim rest [
    | inl on ↦ runs_told runs mid new outcome on.1 (put.told told)
    | inr stop ↦ subst (λ (n : Nodes). AreTold n.devices) (sym stop.1) (put.told told)
  ]

  pub runs_kept : (runs : List Run) (old new : Nodes) (outcome : Outcome) → PutsRuns runs block old new to bytes outcome → LeavesNodes old new to
  runs_kept [] old new outcome is = leaves_called old new to (is.0 ∙ ap (λ (n : Nodes). record old { devices = n.devices }) (sym is.0))
  runs_kept (run ∷ runs) old new outcome (mid, first, put, rest) = elim rest [
    | inl on ↦ then_leaves old mid new to put.kept (runs_kept runs mid new outcome on.1)
    | inr stop ↦ subst (λ (n : Nodes). LeavesNodes old n to) (sym stop.1) put.kept
  ]

  pub runs_others : (runs : List Run) (old new : Nodes) (outcome : Outcome) → PutsRuns runs block old new to bytes outcome → (other : ℕ) → IsApartFrom old other to
      → disk_of new other ≡ disk_of old other
  runs_others [] old new outcome is other apart = ap (λ (n : Nodes). disk_of n other) is.0
  runs_others (run ∷ runs) old new outcome (mid, first, put, rest) other apart = elim rest [
    | inl on ↦ runs_others runs mid new outcome on.1 other (apart_still old mid to put.kept other apart) ∙ put.others other apart
    | inr stop ↦ ap (λ (n : Nodes). disk_of n other) stop.1 ∙ put.others other apart
  ]

  -- what was taken of the bytes of a run are its first
  taken_first : (outcome : Outcome) (xs : List ℕ) (k : ℕ) → k < length (taken_by outcome xs) → get_or (taken_by outcome xs) k 0 ≡ get_or xs k 0
  taken_first Good xs k less = refl
  taken_first (Torn done dev count) xs k less =
      let len = length-take done xs in get_or-take done xs k 0 (omega (arith, less, len))
  taken_first (Io dev count) xs k less = absurd (omega (arith, less))
  taken_first (NoSpace dev) xs k less = absurd (omega (arith, less))

  taken_length : (outcome : Outcome) (xs : List ℕ) → length (taken_by outcome xs) ≤ length xs
  taken_length Good xs = omega arith
  taken_length (Torn done dev count) xs = omega (arith, length-take done xs)
  taken_length (Io dev count) xs = omega arith
  taken_length (NoSpace dev) xs = omega arith

  -- a place of a run has a sector of it
  abbrev pub HasPlace : Run → ℕ → Type 0
  HasPlace run place = (block.start ≤ place) × (place < end_of block) × (is_in_run (sector_at block place) run ≡ true)

  pub in_span : (run : Run) (place : ℕ) → run.from < run.to → block.start + run_start run ≤ place → place < end_of (run_span block run) → HasPlace run place
  in_span run place order from below =
      let low : run.from ≤ sector_at block place = omega (arith, from) in
      let high : sector_at block place < run.to = omega (arith, from, below) in
      (omega (arith, from), omega (arith, from, below), grind (arith, nat_tests))

  pub of_span : (run : Run) (place : ℕ) → HasPlace run place → (block.start + run_start run ≤ place) × (place < end_of (run_span block run))
  of_span run place has =
      let test = has.2 in
      let low : run.from ≤ sector_at block place = grind (arith, nat_tests) in
      let high : sector_at block place < run.to = grind (arith, nat_tests) in
      (omega (arith, has.0, low), omega (arith, has.0, has.1, low, high))

  module _ (whole : length bytes ≡ block.len) where
    -- a disk behind a run
    module _ (run : Run) (order : run.from < run.to) (old new : List ℕ) (outcome : Outcome)
        (is : new ≡ with_bytes old (block.start + run_start run) (taken_by outcome (run_bytes block bytes run))) where
      abbrev start : ℕ
      start = block.start + run_start run

      abbrev xs : List ℕ
      xs = run_bytes block bytes run

      len_is : length xs ≡ run_len block run
      len_is = length-bytes_at bytes (run_start run) (run_len block run)

      byte_is : (k : ℕ) → k < run_len block run → get_or xs k 0 ≡ get_or bytes (start + k - block.start) 0
      byte_is k less =
          let e : run_start run + k ≡ start + k - block.start = omega arith in
          get_or-bytes_at bytes (run_start run) (run_len block run) k less ∙ ap (λ (j : ℕ). get_or bytes j 0) e

      pub run_place : (place : ℕ) → (get_or new place 0 ≡ get_or old place 0) ⊎ (HasPlace run place × (get_or new place 0 ≡ get_or bytes (place - block.start) 0))
      run_place place =
          let taken : List ℕ = taken_by outcome xs in
          let most = taken_length outcome xs in
          let at : get_or new place 0 ≡ get_or (with_bytes old start taken) place 0 = ap (λ (d : List ℕ). get_or d place 0) is in
          elim (cases_lt place start) [
            | inl before ↦ inl (at ∙ get_or-with_bytes_outside old start taken place (inl before))
            | inr from ↦ elim (cases_lt place (start + length taken)) [
              | inl less ↦
                  let k : ℕ = place - start in
                  let e : start + k ≡ place = omega (arith, from) in
                  let few : k < length taken = omega (arith, from, less) in
                  let inside : k < run_len block run = omega (arith, few, most, len_is) in
                  inr (
                    in_span run place order from (omega (arith, inside, e)),
                    at ∙ ap (λ (j : ℕ). get_or (with_bytes old start taken) j 0) (sym e) ∙ get_or-with_bytes_inside old start taken k few
                        ∙ taken_first outcome xs k few ∙ byte_is k inside ∙ ap (λ (j : ℕ). get_or bytes (j - block.start) 0) e,
                  )
              | inr past ↦ inl (at ∙ get_or-with_bytes_outside old start taken place (inr past))
            ]
          ]

      pub run_all : outcome ≡ Good → (place : ℕ) → HasPlace run place → get_or new place 0 ≡ get_or bytes (place - block.start) 0
      run_all good place has =
          let span = of_span run place has in
          let all : taken_by outcome xs ≡ xs = ap (λ (o : Outcome). taken_by o xs) good in
          let k : ℕ = place - start in
          let e : start + k ≡ place = omega (arith, span.0) in
          let inside : k < run_len block run = omega (arith, span.0, span.1) in
          ap (λ (d : List ℕ). get_or d place 0) (is ∙ ap (with_bytes old start) all)
          ∙ ap (λ (j : ℕ). get_or (with_bytes old start xs) j 0) (sym e) ∙ get_or-with_bytes_inside old start xs k (omega (arith, inside, len_is))
          ∙ byte_is k inside ∙ ap (λ (j : ℕ). get_or bytes (j - block.start) 0) e

      pub run_length : run.to ≤ sector_count block → end_of block ≤ length old → length new ≡ length old
      run_length few within =
          let most = taken_length outcome xs in
          ap length is ∙ length-with_bytes_within old start (taken_by outcome xs) (omega (arith, most, len_is, within, fits))
        where
          fits : start + run_len block run ≤ end_of block
          fits = omega (arith, order, few)

    -- and behind several
    abbrev pub AnyHas : List Run → ℕ → Type 0
    AnyHas runs place = (block.start ≤ place) × (place < end_of block) × (has_run runs (sector_at block place) ≡ true)

    here_has : (run : Run) (runs : List Run) (place : ℕ) → HasPlace run place → AnyHas (run ∷ runs) place
    here_has run runs place has = (has.0, has.1, ap (λ (b : Bool). b || has_run runs (sector_at block place)) has.2)

    or_later : (a b : Bool) → b ≡ true → a || b ≡ true
    or_later true b is = refl
    or_later false b is = is

    later_has : (run : Run) (runs : List Run) (place : ℕ) → AnyHas runs place → AnyHas (run ∷ runs) place
    later_has run runs place has = (has.0, has.1, or_later (is_in_run (sector_at block place) run) (has_run runs (sector_at block place)) has.2)

    pub runs_length : (runs : List Run) (old new : Nodes) (outcome : Outcome) (low : ℕ) → LieWithin low (sector_count block) runs → PutsRuns runs block old new to bytes outcome → AreTold old.devices
        → end_of block ≤ length (disk_of old to) → length (disk_of new to) ≡ length (disk_of old to)
    runs_length [] old new outcome low lie is told within = ap (λ (n : Nodes). length (disk_of n to)) is.0
    runs_length (run ∷ runs) old new outcome low lie (mid, first, put, rest) told within =
        let here : length (disk_of mid to) ≡ length (disk_of old to) = run_length run lie.1 (disk_of old to) (disk_of mid to) first (put.disk told) lie.2 within in
        elim rest [
          | inl on ↦ runs_length runs mid new outcome run.to lie.3 on.1 (put.told told) (omega (arith, here, within)) ∙ here
          | inr stop ↦ ap (λ (n : Nodes). length (disk_of n to)) stop.1 ∙ here
        ]

    pub runs_place : (runs : List Run) (old new : Nodes) (outcome : Outcome) (low : ℕ) → LieWithin low (sector_count block) runs → PutsRuns runs block old new to bytes outcome → AreTold old.devices
        → (place : ℕ) → (get_or (disk_of new to) place 0 ≡ get_or (disk_of old to) place 0)
        ⊎ (AnyHas runs place × (get_or (disk_of new to) place 0 ≡ get_or bytes (place - block.start) 0))
    runs_place [] old new outcome low lie is told place = inl (ap (λ (n : Nodes). get_or (disk_of n to) place 0) is.0)
    runs_place (run ∷ runs) old new outcome low lie (mid, first, put, rest) told place =
        let here = run_place run lie.1 (disk_of old to) (disk_of mid to) first (put.disk told) place in
        elim rest [
          | inl on ↦ elim (runs_place runs mid new outcome run.to lie.3 on.1 (put.told told) place) [
            | inl same ↦ elim here [
              | inl was ↦ inl (same ∙ was)
              | inr has ↦ inr (here_has run runs place has.0, same ∙ has.1)
            ]
            | inr has ↦ inr (later_has run runs place has.0, has.1)
          ]
          | inr stop ↦
              let same : get_or (disk_of new to) place 0 ≡ get_or (disk_of mid to) place 0 = ap (λ (n : Nodes). get_or (disk_of n to) place 0) stop.1 in
              elim here [
                | inl was ↦ inl (same ∙ was)
                | inr has ↦ inr (here_has run runs place has.0, same ∙ has.1)
              ]
        ]

    one_or_later : (a b : Bool) → a || b ≡ true → (a ≡ true) ⊎ (b ≡ true)
    one_or_later true b is = inl refl
    one_or_later false b is = inr is

    pub runs_all : (runs : List Run) (old new : Nodes) (outcome : Outcome) (low : ℕ) → LieWithin low (sector_count block) runs → PutsRuns runs block old new to bytes outcome → AreTold old.devices
        → outcome ≡ Good → (place : ℕ) → AnyHas runs place → get_or (disk_of new to) place 0 ≡ get_or bytes (place - block.start) 0
    runs_all [] old new outcome low lie is told good place has = let bad : false ≡ true = has.2 in absurd (cc bad)
    runs_all (run ∷ runs) old new outcome low lie (mid, first, put, rest) told good place has = elim rest [
      | inl on ↦ elim (one_or_later (is_in_run (sector_at block place) run) (has_run runs (sector_at block place)) has.2) [
        | inl mine ↦ elim (runs_place runs mid new outcome run.to lie.3 on.1 (put.told told) place) [
          | inl same ↦ same ∙ run_all run lie.1 (disk_of old to) (disk_of mid to) first (put.disk told) on.0 place (has.0, has.1, mine)
          | inr later ↦ later.1
        ]
        | inr later ↦ runs_all runs mid new outcome run.to lie.3 on.1 (put.told told) good place (has.0, has.1, later)
      ]
      | inr stop ↦ absurd (stop.0 (sym stop.2 ∙ good))
    ]

-- of the sectors that are asked for
module _ (block : Extent) (sectors to : ℕ) (bytes : List ℕ) (whole : length bytes ≡ block.len) (old new : Nodes) (outcome : Outcome)
    (puts : PutsRuns (runs_of block sectors) block old new to bytes outcome) where
  asked_is : (place : ℕ) → AnyHas block to bytes whole (runs_of block sectors) place → is_asked block sectors place ≡ true
  asked_is place has =
      let is : (nat_lt (sector_at block place) (sector_count block) && has_sector sectors (sector_at block place)) ≡ true
      = sym (runs_asked (sector_count block) sectors (sector_at block place)) ∙ has.2 in
      let low : nat_le block.start place ≡ true = let a = has.0 in grind (arith, nat_tests) in
      let high : nat_lt place (end_of block) ≡ true = let b = has.1 in grind (arith, nat_tests) in
      rw (low, high) (right (nat_lt (sector_at block place) (sector_count block)) (has_sector sectors (sector_at block place)) is)
    where
      right : (a b : Bool) → a && b ≡ true → b ≡ true
      right true b is = is
      right false b is = absurd (cc is)

  is_of_asked : (place : ℕ) → is_asked block sectors place ≡ true → AnyHas block to bytes whole (runs_of block sectors) place
  is_of_asked place is =
      let parts = three (nat_le block.start place) (nat_lt place (end_of block)) (has_sector sectors (sector_at block place)) is in
      let low : block.start ≤ place = let a = parts.0 in grind (arith, nat_tests) in
      let high : place < end_of block = let b = parts.1 in grind (arith, nat_tests) in
      let below : sector_at block place < sector_count block = omega (arith, low, high) in
      let few : nat_lt (sector_at block place) (sector_count block) ≡ true = grind (arith, nat_tests) in
      (low, high, runs_asked (sector_count block) sectors (sector_at block place) ∙ rw few parts.2)
    where
      three : (a b c : Bool) → a && b && c ≡ true → (a ≡ true) × (b ≡ true) × (c ≡ true)
      three true true c is = (refl, refl, is)
      three true false c is = absurd (cc is)
      three false b c is = absurd (cc is)

  lie : LieWithin 0 (sector_count block) (runs_of block sectors)
  lie = runs_within (sector_count block) sectors 0 (sector_count block) (omega arith)

  pub is_put : AreTold old.devices → end_of block ≤ length (disk_of old to) → IsPut block sectors bytes (disk_of old to) (disk_of new to) (outcome ≡ Good)
  is_put told within = record {
    whole = runs_length block to bytes whole (runs_of block sectors) old new outcome 0 lie puts told within;
    at = λ place. elim (runs_place block to bytes whole (runs_of block sectors) old new outcome 0 lie puts told place) [
      | inl same ↦ inl same
      | inr has ↦ inr (asked_is place has.0, has.1)
    ];
    all = λ good place asked. runs_all block to bytes whole (runs_of block sectors) old new outcome 0 lie puts told good place (is_of_asked place asked);
  }

-- ---- one run after another

not_good : (o : Outcome) → is_good o ≡ false → o ≢ Good
not_good o is good = let bad : true ≡ false = ap is_good (sym good) ∙ is in cc bad

good_is : (o : Outcome) → is_good o ≡ true → o ≡ Good
good_is Good is = refl
good_is (Torn done dev count) is = absurd (cc is)
good_is (Io dev count) is = absurd (cc is)
good_is (NoSpace dev) is = absurd (cc is)

module _ (block : Extent) (to : ℕ) (bytes : List ℕ) (runs : List Run) where
  pub puts_none : (nodes : Nodes) → runs ≡ [] → PutsRuns runs block nodes nodes to bytes Good
  puts_none nodes none = subst (λ (rs : List Run). PutsRuns rs block nodes nodes to bytes Good) (sym none) (refl, refl)

  module _ (run : Run) (rest : List Run) (is : runs ≡ run ∷ rest) (old mid : Nodes) (o : Outcome)
      (put : PutsRun block old mid to (run_span block run) (run_bytes block bytes run) o) where
    pub puts_stopped : is_good o ≡ false → PutsRuns runs block old mid to bytes o
    puts_stopped stopped =
        subst (λ (rs : List Run). PutsRuns rs block old mid to bytes o) (sym is) (mid, o, put, inr (not_good o stopped, refl, refl))

    pub puts_on : is_good o ≡ true → (new : Nodes) (last : Outcome) → PutsRuns rest block mid new to bytes last → PutsRuns runs block old new to bytes last
    puts_on good new last on =
        subst (λ (rs : List Run). PutsRuns rs block old new to bytes last) (sym is) (mid, o, put, inl (good_is o good, on))

-- where a run lies
module _ (block : Extent) (run : Run) (order : run.from < run.to) (within : run.to ≤ sector_count block) (len : block.len ≤ 65536) where
  pub run_some : 0 < run_len block run
  run_some = omega (arith, order, within, len)

  pub run_inside : end_of (run_span block run) ≤ end_of block
  run_inside = omega (arith, order, within, len)

  pub run_in_block : block.start % 65536 ≡ 0 → (run_span block run).start % 65536 + run_len block run ≤ 65536
  run_in_block start = omega (arith, order, within, len, start)

pub run_whole : (block : Extent) (bytes : List ℕ) (run : Run) → length (run_bytes block bytes run) ≡ run_len block run
run_whole block bytes run = length-bytes_at bytes (run_start run) (run_len block run)

-- a run of zeros, and of others
module _ (block : Extent) (old new : Nodes) (now : IsJoined new) (to : ℕ) (span : Extent) (bytes : List ℕ) (outcome : Outcome) (whole : length bytes ≡ span.len)
    (others : (other : ℕ) → IsApartFrom old other to → disk_of new other ≡ disk_of old other) (kept : LeavesNodes old new to) where
  pub put_zeros : IsZeroBlock block span bytes → ZerosPiece old new to span outcome
      → (AreTold old.devices → disk_of new to ≡ with_bytes (disk_of old to) span.start (taken_by outcome (replicate span.len 0))) → PutsRun block old new to span bytes outcome
  put_zeros zeros made disk =
      let same : replicate span.len 0 ≡ bytes = ap (λ (n : ℕ). replicate {A = ℕ} n 0) (sym whole) ∙ sym (all_zeros bytes zeros.1) in
      record {
        made = inl (zeros, made);
        disk = λ told. disk told ∙ ap (λ (xs : List ℕ). with_bytes (disk_of old to) span.start (taken_by outcome xs)) same;
        others = others;
        kept = kept;
        told = told_zeroed old new now to span outcome made;
      }

  pub put_bytes : (IsZeroBlock block span bytes → ⊥) → WritesPiece old new to span bytes outcome
      → (AreTold old.devices → disk_of new to ≡ with_bytes (disk_of old to) span.start (taken_by outcome bytes)) → PutsRun block old new to span bytes outcome
  put_bytes some made disk = record {
    made = inr (some, made);
    disk = disk;
    others = others;
    kept = kept;
    told = told_written old new now to span bytes outcome made;
  }

-- the disk that is written has all of its block
pub disk_whole : (nodes : Nodes) (to : ℕ) (n : ℕ) → IsJoined nodes → AreTold nodes.devices → (row : Row) → row_at nodes to ≡ Some row → n ≤ node_size nodes to → n ≤ length (disk_of nodes to)
disk_whole nodes to n joined told row there within =
    let all = length_disk nodes joined told to row there in
    let size : node_size nodes to ≡ row.size = ap size_by there in
    omega (arith, all, size, within)
