-- What nodes read as and what files hold where a file was made, spoiled, or an image was created in it.
use Rattle.std.proofs.Common.{◌≡◌, ◌≢◌, ℕ, Bool, true, false, cond, List, [], ◌∷◌, replicate, Option, Some, None, Result, Ok, refl, sym, ◌∙◌, ap, subst}
use Rattle.std.specs.Prelude.{is_some, find, option_map, option_and_then, unwrap_or, bytes_eq}
use Rattle.blk_base.specs.Files.{file_at, put_file, other_files}
use Rattle.blk_base.specs.Stored.{LeavesOthers}
use Rattle.blk_base.specs.declared.file.File.{File as StoreFile}
use Rattle.blk_history.specs.Fold.{With}
use Rattle.q2_format.specs.Created.{Creation}
use Rattle.qmp_rules.specs.Asks.{stands_for}
use Rattle.flat_machine.specs.Performing.{ChangesFileAlone, Nothing, IsFormatted, held_bytes}
use Rattle.flat_machine.proofs.Finds.{same-bytes_eq, bytes_eq-other}
use Rattle.blk_nodes.specs.Contents.{disk_of}
use Rattle.blk_nodes.specs.Formatting.{IsFormatAt, HoldsAfter, HoldsImage}
use Rattle.blk_nodes.specs.Nodes.{Nodes, DeviceSeen, AreTold, is_device_of, device_in}
use Rattle.blk_nodes.specs.declared.stop.FormatStop.{FormatStop}
use Rattle.blk_graph.proofs.Members.{find-Some}
use Rattle.world_parts.specs.Creating.{with_zeroed_file}
use Rattle.world_parts.specs.Deleting.{ground_of}
use Rattle.world_parts.specs.Face.{WorldSeen, node_over, told_bytes, held_in_file, held, contents_of}
use Rattle.world_files.proofs.DeletedContents.{file_at-put, file_at-put_other}

-- ---- files of a store

pub file_at-others : (name other : List ℕ) (files : List StoreFile) → other ≢ name → file_at other (other_files name files) ≡ file_at other files
file_at-others name other [] apart = refl
file_at-others name other (f ∷ files) apart = by_test (bytes_eq name f.name) refl (file_at-others name other files apart)
  where
    by_test : (b : Bool) → bytes_eq name f.name ≡ b → file_at other (other_files name files) ≡ file_at other files
        → file_at other (cond b files (f ∷ other_files name files)) ≡ cond (bytes_eq other f.name) (Some f) (file_at other files)
    by_test true is rest =
        let same : name ≡ f.name = same-bytes_eq name f.name is in
        rw (bytes_eq-other other f.name (λ e. apart (e ∙ sym same))) refl
    by_test false is rest = ap (λ (found : Option StoreFile). cond (bytes_eq other f.name) (Some f) found) rest

-- a failed call leaves what the other files hold
pub told-others : (name other : List ℕ) (old new : Option (List StoreFile)) → LeavesOthers name old new → other ≢ name
    → told_bytes new other ≡ told_bytes old other
told-others name other None new left apart = ap (λ (fs : Option (List StoreFile)). told_bytes fs other) left
told-others name other (Some old) new left apart =
    ap (λ (fs : Option (List StoreFile)). told_bytes fs other) left.1
    ∙ ap (option_map (λ (f : StoreFile). f.bytes))
    (sym (file_at-others name other left.0 apart) ∙ ap (file_at other) left.2 ∙ file_at-others name other old apart)

pub told-made : (name other : List ℕ) (f : StoreFile) (old : Option (List StoreFile)) → f.name ≡ name → other ≢ name
    → told_bytes (option_map (put_file f) old) other ≡ told_bytes old other
told-made name other f None is apart = refl
told-made name other f (Some files) is apart =
    ap (option_map (λ (x : StoreFile). x.bytes)) (file_at-put_other f other files (λ same. apart (same ∙ is)))

-- ---- files alone change

module _ (w v : WorldSeen) (nodes : v.nodes ≡ w.nodes) (rows : v.table.nodes ≡ w.table.nodes) where
  over_same : (name : List ℕ) → node_over v.table name ≡ node_over w.table name
  over_same name = ap (λ rs. option_map (λ row. row.id) (find (stands_for name) rs)) rows

  pub reads_same : (node : ℕ) → disk_of v.nodes node ≡ disk_of w.nodes node
  reads_same node = ap (λ (x : Nodes). disk_of x node) nodes

  -- of a file that the store tells as before the same is held
  pub held_same : (name : List ℕ) → told_bytes v.files name ≡ told_bytes w.files name → held v name ≡ held w name
  held_same name told = ap (held_in_file v name) (over_same name) ∙ by_over (node_over w.table name)
    where
      by_over : (found : Option ℕ) → held_in_file v name found ≡ held_in_file w name found
      by_over None = told
      by_over (Some node) =
          ap (λ (x : Nodes). option_and_then (λ (d : DeviceSeen). d.content) (device_in x.devices node)) nodes

  -- a file over which no node stands is the store's
  pub held_closed : (name : List ℕ) → node_over w.table name ≡ None → held v name ≡ told_bytes v.files name
  held_closed name closed = ap (held_in_file v name) (over_same name ∙ closed)

  -- a file is made
  pub makes_file : (name : List ℕ) (size : ℕ) (files : List StoreFile) → w.files ≡ Some files → node_over w.table name ≡ None
      → v.files ≡ (with_zeroed_file name size (ground_of w).store).files
      → ChangesFileAlone Nothing name (contents_of w) (contents_of v) × (held v name ≡ Some (replicate size 0))
  makes_file name size files told closed made =
      let f : StoreFile = record { name = name; bytes = replicate size 0; capacity = w.room; is_flushed = true } in (
        record {
          nodes = λ node but. reads_same node;
          files = λ other but.
              held_same other (ap (λ (fs : Option (List StoreFile)). told_bytes fs other) made ∙ told-made name other f w.files refl but);
        },
        held_closed name closed ∙ ap (λ (fs : Option (List StoreFile)). told_bytes fs name) made
            ∙ ap (λ (fs : Option (List StoreFile)). told_bytes (option_map (put_file f) fs) name) told
            ∙ ap (option_map (λ (x : StoreFile). x.bytes)) (file_at-put f files),
      )

  -- a file is spoiled
  pub spoils_file : (but : ℕ → Type 0) (name : List ℕ) → LeavesOthers name w.files v.files → ChangesFileAlone but name (contents_of w) (contents_of v)
  spoils_file but name left = record {
    nodes = λ node out. reads_same node;
    files = λ other out. held_same other (told-others name other w.files v.files left out);
  }

-- ---- the device of one node changes

module _ (w v : WorldSeen) (node : ℕ) (name : List ℕ) (image : Creation) (outcome : Result (Unit {0}) FormatStop)
    (at : IsFormatAt node w.nodes.devices v.nodes.devices image outcome)
    (disks : (other : ℕ) → other ≢ node → disk_of v.nodes other ≡ disk_of w.nodes other)
    (files : v.files ≡ w.files) (over : (other : List ℕ) → node_over v.table other ≡ node_over w.table other)
    (here : node_over w.table name ≡ Some node) (only : (other : List ℕ) → node_over w.table other ≡ Some node → other ≡ name)
    (all : AreTold w.nodes.devices) where
  others_held : (other : List ℕ) → other ≢ name → held v other ≡ held w other
  others_held other apart = ap (held_in_file v other) (over other) ∙ by_over (node_over w.table other) refl
    where
      by_over : (found : Option ℕ) → node_over w.table other ≡ found → held_in_file v other found ≡ held_in_file w other found
      by_over None is = ap (λ (fs : Option (List StoreFile)). told_bytes fs other) files
      by_over (Some n) is =
          ap (λ (found : Option DeviceSeen). option_and_then (λ (d : DeviceSeen). d.content) found)
          (at.only.others n (λ same. apart (only other (is ∙ ap (λ (m : ℕ). Some m) same))))

  -- the file is another one, and other nodes read as they did
  pub makes_image : (but : ℕ → Type 0) → but node → ChangesFileAlone but name (contents_of w) (contents_of v)
  makes_image but is = record {
    nodes = λ other out. disks other (λ same. out (subst but (sym same) is));
    files = λ other out. others_held other out;
  }

  -- a device that told its bytes tells them
  content_of : (d : DeviceSeen) → device_in w.nodes.devices node ≡ Some d → (b : List ℕ) × (d.content ≡ Some b)
  content_of d is = by_content d.content refl (all d (find-Some (is_device_of node) w.nodes.devices d is).0)
    where
      by_content : (c : Option (List ℕ)) → d.content ≡ c → is_some c ≡ true → (b : List ℕ) × (d.content ≡ Some b)
      by_content None at' bad = absurd (let e : ⊥ = cc bad in e)
      by_content (Some b) at' some = (b, at')

  before_held : (b : List ℕ) → at.before.content ≡ Some b → held w name ≡ Some b
  before_held b is =
      ap (held_in_file w name) here ∙ ap (λ (found : Option DeviceSeen). option_and_then (λ (d : DeviceSeen). d.content) found) at.held ∙ is

  after_held : held v name ≡ at.after.content
  after_held =
      ap (held_in_file v name) (over name ∙ here) ∙ ap (λ (found : Option DeviceSeen). option_and_then (λ (d : DeviceSeen). d.content) found) at.left

  pub told_after : (b : List ℕ) → at.before.content ≡ Some b → (now : List ℕ) × (at.after.content ≡ Some now)
  told_after b is = by_content at.after.content refl (at.formatted.within.told ∙ ap is_some is)
    where
      by_content : (c : Option (List ℕ)) → at.after.content ≡ c → is_some c ≡ true → (now : List ℕ) × (at.after.content ≡ Some now)
      by_content None at' bad = absurd (let e : ⊥ = cc bad in e)
      by_content (Some now) at' some = (now, at')

  -- the file then holds the image
  pub holds_image : (done : Unit {0}) → outcome ≡ Ok done → With (held v name) (IsFormatted image (held_bytes (contents_of w) name))
  holds_image done is =
      let before = content_of at.before at.held in
      let now = told_after before.0 before.1 in
      let holds : HoldsImage image before.0 now.0
      = subst (λ (r : Result (Unit {0}) FormatStop). HoldsAfter image before.0 r now.0) is (at.formatted.holds before.0 now.0 before.1 now.1) in
      let was : before.0 ≡ held_bytes (contents_of w) name = sym (ap (λ (h : Option (List ℕ)). unwrap_or h []) (before_held before.0 before.1)) in
      subst (λ (h : Option (List ℕ)). With h (IsFormatted image (held_bytes (contents_of w) name))) (sym (after_held ∙ now.1))
      (subst (λ (b : List ℕ). IsFormatted image b now.0) was (record { can = holds.can; created = holds.created; length_is = holds.length_is }))
