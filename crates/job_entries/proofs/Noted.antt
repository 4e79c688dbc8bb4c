-- The entries of starts and of readiness leave nodes, files and images as they were.
use Rattle.std.proofs.Common.{◌≡◌, ◌≢◌, ℕ, Bool, true, false, cond, List, [], ◌∷◌, map, refl, sym, ◌∙◌, ap, subst, Option, Some, None}
use Rattle.std.specs.Prelude.{◌==◌, not, bytes_eq, is_some, All}
use Rattle.std.specs.Option.{option_map}
use Rattle.std.specs.List.{filter}
use Rattle.std.proofs.lemmas.List.Elements.{All-weaker, All-nil, All-cons, All-head, All-tail}
use Rattle.qmp_rules.specs.declared.change.Change.TheVariants as change
use Rattle.qmp_rules.specs.declared.rows.DeviceRow.{DeviceRow}
use Rattle.qmp_rules.specs.declared.rows.JobRecord.{JobRecord}
use Rattle.qmp_rules.specs.Changes.{changed}
use Rattle.qmp_rules.specs.Chains.{is_listed, disk_node}
use Rattle.qmp_rules.specs.Table.{job_at}
use Rattle.blk_history.specs.Fold.{With}
use Rattle.flat_machine.specs.State.{State, Image, Left, Mapped, MapsNone, MapsSome, Unsure, drive_of}
use Rattle.flat_machine.specs.Jobs.{unsure, unleft, noted_start, started, readied, readied_by}
use Rattle.flat_machine.specs.Changed.{forget_left}
use Rattle.flat_machine.specs.Agreement.{Contents, Agrees}
use Rattle.flat_machine.specs.Sights.{AgreesWith}
use Rattle.flat_machine.specs.Imaging.{maps_some, image_at, ShowsImage, ShowsImages}
use Rattle.flat_machine.specs.Writing.{IsGuestWritable}
use Rattle.flat_machine.specs.Standing.{IsUsedUp, MayGuestWrite, Stands, StandsAtRest}
use Rattle.flat_machine.proofs.Agreeing.{left_forgot}
use Rattle.flat_machine.proofs.Finds.{find-map}
use Rattle.flat_machine.proofs.ImagesKept.{mapped_of, mapped_at-found}
use Rattle.flat_machine.proofs.Kept.{change_keeps}
use Rattle.flat_machine.proofs.Resting.{beside_rests}
use Rattle.flat_machine.proofs.StandingKept.{stands_keep}
use Rattle.job_entries.proofs.InTurn.{quiet_self}

-- ---- nodes and files

unleft_agrees : (opening : List ℕ → Option (List ℕ)) (name : Option (List ℕ)) (s : State) (c : Contents) → Agrees opening s c → Agrees opening (unleft name s) c
unleft_agrees opening None s c h = h
unleft_agrees opening (Some name) s c h = record {
  disks = h.disks;
  known = h.known;
  absent = h.absent;
  left = left_forgot s (forget_left name s) c c name refl (λ other differ. refl) h.left;
  unchanged = h.unchanged;
}

pub started_agrees : (opening : List ℕ → Option (List ℕ)) (s : State) (row : Option JobRecord) (c : Contents) → Agrees opening s c
    → Agrees opening (started s row) c
started_agrees opening s None c h = h
started_agrees opening s (Some row) c h =
    unleft_agrees opening _ (noted_start s row) c
    (record { disks = h.disks; known = h.known; absent = h.absent; left = h.left; unchanged = h.unchanged })

-- ---- images, of which less is said

same_node : (nodes : List ℕ) (image : Image) → (unsure nodes image).node ≡ image.node
same_node nodes image = by_test (is_listed image.node nodes) _
  where
    by_test : (b : Bool) (less : Mapped) → (cond b (record image { mapped = less }) image).node ≡ image.node
    by_test true less = refl
    by_test false less = refl

unsure_found : (nodes : List ℕ) (images : List Image) (n : ℕ) → image_at (map (unsure nodes) images) n ≡ option_map (unsure nodes) (image_at images n)
unsure_found nodes images n =
    find-map (λ (i : Image). i.node == n) (unsure nodes) (λ i. ap (λ (k : ℕ). k == n) (same_node nodes i)) images

abbrev entry_of : ℕ → Mapped → Image
entry_of node mapped = record { node = node; mapped = mapped }

less_said : (nodes : List ℕ) (node : ℕ) (mapped : Mapped) (told : Bool) → AgreesWith mapped told
    → AgreesWith (unsure nodes (record { node = node; mapped = mapped })).mapped told
less_said nodes node MapsNone told h = by_test (is_listed node nodes)
  where
    by_test : (b : Bool) → AgreesWith (cond b (entry_of node Unsure) (entry_of node MapsNone)).mapped told
    by_test true = tt
    by_test false = h
less_said nodes node MapsSome told h = by_test (is_listed node nodes)
  where
    by_test : (b : Bool) → AgreesWith (cond b (entry_of node MapsSome) (entry_of node MapsSome)).mapped told
    by_test true = h
    by_test false = h
less_said nodes node Unsure told h = by_test (is_listed node nodes)
  where
    by_test : (b : Bool) → AgreesWith (cond b (entry_of node Unsure) (entry_of node Unsure)).mapped told
    by_test true = tt
    by_test false = tt

less_shown : (s now : State) (nodes : List ℕ) (c : Contents) → now.images ≡ map (unsure nodes) s.images → now.table ≡ s.table → ShowsImages s c
    → ShowsImages now c
less_shown s now nodes c images table h n = subst (λ t. ShowsImage (record now { table = t }) c n) (sym table) (record {
  noted = ap is_some entry ∙ still_some (image_at s.images n) ∙ (h n).noted;
  mapped = λ name file is told.
      subst (λ m. AgreesWith m (maps_some file)) (sym (mapped_at-found now.images n ∙ ap mapped_of entry))
      (less (image_at s.images n) (maps_some file) (subst (λ m. AgreesWith m (maps_some file)) (mapped_at-found s.images n) ((h n).mapped name file is told)));
})
  where
    entry : image_at now.images n ≡ option_map (unsure nodes) (image_at s.images n)
    entry = ap (λ (is : List Image). image_at is n) images ∙ unsure_found nodes s.images n

    still_some : (found : Option Image) → is_some (option_map (unsure nodes) found) ≡ is_some found
    still_some None = refl
    still_some (Some image) = refl

    less : (found : Option Image) (told : Bool) → AgreesWith (mapped_of found) told → AgreesWith (mapped_of (option_map (unsure nodes) found)) told
    less None told k = k
    less (Some image) told k = less_said nodes image.node image.mapped told k

unleft_images : (name : Option (List ℕ)) (s : State) → (unleft name s).images ≡ s.images
unleft_images None s = refl
unleft_images (Some name) s = refl

unleft_table : (name : Option (List ℕ)) (s : State) → (unleft name s).table ≡ s.table
unleft_table None s = refl
unleft_table (Some name) s = refl

unleft_disks : (name : Option (List ℕ)) (s : State) → (unleft name s).disks ≡ s.disks
unleft_disks None s = refl
unleft_disks (Some name) s = refl

pub started_table : (s : State) (row : Option JobRecord) → (started s row).table ≡ s.table
started_table s None = refl
started_table s (Some row) = unleft_table _ (noted_start s row)

pub started_disks : (s : State) (row : Option JobRecord) → (started s row).disks ≡ s.disks
started_disks s None = refl
started_disks s (Some row) = unleft_disks _ (noted_start s row)

pub started_images : (s : State) (row : Option JobRecord) (c : Contents) → ShowsImages s c → ShowsImages (started s row) c
started_images s None c h = h
started_images s (Some row) c h =
    less_shown s (started s (Some row)) _ c (unleft_images _ (noted_start s row)) (started_table s (Some row)) h

-- ---- what holds between events

module _ (name : List ℕ) (s : State) (h : Stands s) where
  abbrev now : State
  now = forget_left name s

  fewer : {X : Type 0} (P : X → Type 0) (keeps : X → Bool) (xs : List X) → All P xs → All P (filter keeps xs)
  fewer P keeps [] all = All-nil P
  fewer P keeps (x ∷ xs) all = by_test (keeps x) (fewer P keeps xs (All-tail P x xs all))
    where
      by_test : (b : Bool) → All P (filter keeps xs) → All P (cond b (x ∷ filter keeps xs) (filter keeps xs))
      by_test true rest = All-cons P x (filter keeps xs) (All-head P x xs all) rest
      by_test false rest = rest

  still_writable : (node : ℕ) → IsGuestWritable s node → IsGuestWritable now node
  still_writable node w = record {
    disk = w.disk;
    under = w.under;
    known = w.known;
    left = λ file is. fewer (λ (l : Left). l.file ≢ file) (λ l. not (bytes_eq l.file name)) s.left (w.left file is);
    named = w.named;
  }

  forgot_stands : Stands now
  forgot_stands = record {
    table = h.table;
    files = h.files;
    lost = h.lost;
    states = h.states;
    formatted = h.formatted;
    writing = record {
      named = h.writing.named;
      unknown = h.writing.unknown;
      copied = λ file row disk there over at is. let u = h.writing.copied file row disk there over at is in record { state = u.state; content = u.content };
      disks = h.writing.disks;
      left = fewer (IsUsedUp now) (λ l. not (bytes_eq l.file name)) s.left
          (All-weaker (IsUsedUp s) (IsUsedUp now) (λ l u. record { used = u.used; gone = u.gone; is_open = u.is_open }) s.left h.writing.left);
      writers = λ g device found. by_drive device (drive_of s.table g) (h.writing.writers g device found);
    };
  }
    where
      by_drive : (device : DeviceRow) (drive : Option ℕ) → With drive (MayGuestWrite s device) → With drive (MayGuestWrite now device)
      by_drive device None never = never
      by_drive device (Some drive) may = λ writes. still_writable (disk_node s.table drive) (may writes)

unleft_rests : (name : Option (List ℕ)) (s : State) → StandsAtRest s → StandsAtRest (unleft name s)
unleft_rests None s h = h
unleft_rests (Some name) s h = record { stands = forgot_stands name s h.stands; inline = h.inline }

pub started_rests : (s : State) (row : Option JobRecord) → StandsAtRest s → StandsAtRest (started s row)
started_rests s None h = h
started_rests s (Some row) h = unleft_rests _ (noted_start s row) (beside_rests s (noted_start s row) refl refl refl refl (λ node some. some) h)

-- ---- readiness

pub readied_agrees : (opening : List ℕ → Option (List ℕ)) (s : State) (job : ℕ) (c : Contents) → Agrees opening s c → Agrees opening (readied job s) c
readied_agrees opening s job c h = by_row (job_at s.table job)
  where
    by_row : (row : Option JobRecord) → Agrees opening (readied_by s row) c
    by_row None = h
    by_row (Some row) = change_keeps opening s (change.ReadyJob row.number) c c tt (quiet_self c) h

pub readied_images : (s : State) (job : ℕ) (c : Contents) → ShowsImages s c → ShowsImages (readied job s) c
unfolding changed
readied_images s job c h = by_row (job_at s.table job)
  where
    by_row : (row : Option JobRecord) → ShowsImages (readied_by s row) c
    by_row None = h
    by_row (Some row) = λ n. record { noted = (h n).noted; mapped = (h n).mapped }

pub readied_rests : (s : State) (job : ℕ) → StandsAtRest s → StandsAtRest (readied job s)
unfolding changed
readied_rests s job h = by_row (job_at s.table job)
  where
    by_row : (row : Option JobRecord) → StandsAtRest (readied_by s row)
    by_row None = h
    by_row (Some row) = record {
      stands = stands_keep s (change.ReadyJob row.number) tt h.stands;
      inline = λ node over there made.
          let i = h.inline node over there made in
          record {
            file = i.file;
            edge = i.edge;
            there = i.there;
            parent = i.parent;
            role = i.role;
            child = i.child;
            format = i.format;
            named = i.named;
          };
    }

pub readied_disks : (s : State) (job : ℕ) → (readied job s).disks ≡ s.disks
readied_disks s job = by_row (job_at s.table job)
  where
    by_row : (row : Option JobRecord) → (readied_by s row).disks ≡ s.disks
    by_row None = refl
    by_row (Some row) = refl
