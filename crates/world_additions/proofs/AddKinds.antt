-- What the looks of an addition leave, whatever is added.
use Rattle.std.proofs.Common.{◌≡◌, ◌⊎◌, ℕ, ◌≤◌, false, List, [], ◌∷◌, ◌++◌, inl, inr, refl, sym, ◌∙◌, ap, subst, arith, Option, Some, None}
use Rattle.blk_base.specs.Files.{is_out}
use Rattle.q2_image.specs.Image.{Known}
use Rattle.blk_nodes.specs.Nodes.{Nodes}
use Rattle.qmp_codec.specs.declared.nodes.AddQcow2.{AddQcow2}
use Rattle.qmp_codec.specs.declared.nodes.AddRaw.{AddRaw}
use Rattle.qmp_codec.specs.declared.nodes.Added.{Added}
use Rattle.qmp_codec.specs.declared.nodes.Added.TheVariants as added
use Rattle.qmp_codec.specs.declared.nodes.FileRef.{FileRef}
use Rattle.qmp_codec.specs.declared.nodes.FileRef.TheVariants as file_ref
use Rattle.qmp_rules.specs.Looks.{part_look}
use Rattle.qmp_rules.specs.Table.{RunTable}
use Rattle.qmp_asks.specs.declared.look.Look.TheVariants as look
use Rattle.qmp_rules.specs.declared.told.Told.{Told}
use Rattle.world_parts.specs.Adding.{Adding, HasOpeningFailed, IsAbsent, IsTakenOut, Looks, Opens, Taken, TellsAddition, TellsInside, of_node}
use Rattle.world_parts.specs.Joining.{HasAdded, HasAddedBy, HasAddedImage, HasAddedPart}
use Rattle.world_additions.specs.Additions.{AreIn, IsSameButFaults}
use Rattle.world_parts.specs.Looking.{HasCalled, HasLooked, LooksAtImage, LooksAtPart, LooksBy, Site}
use Rattle.world_parts.specs.Staging.{opened_name}
use Rattle.world_parts.specs.Stores.{StoreInRun}
use Rattle.world_parts.proofs.Uncalled.{called_itself}

-- no device is out for it, and counts may have risen
pub record IsCalled (old now : Site) (out : Option Taken) : Type 0 where
  pub none : out ≡ None
  pub store : now.store ≡ record old.store { faults = now.store.faults; failed_call = now.store.failed_call }
  pub faults : old.store.faults ≤ now.store.faults
  pub called : HasCalled old.nodes now.nodes

-- or one is
pub record IsOpenedFor (name : List ℕ) (old now : Site) (out : Option Taken) : Type 0 where
  pub first : Taken
  pub device : Taken
  pub is : out ≡ Some device
  pub taken : IsTakenOut old.store now.store name first
  pub read : IsSameButFaults first device
  pub inside : is_out name old.store.opened ≡ false
  pub nodes : now.nodes ≡ old.nodes

abbrev pub IsLookedSo : List ℕ → Site → Site → Option Taken → Type 0
IsLookedSo name old now out = IsCalled old now out ⊎ IsOpenedFor name old now out

-- ---- a device that was looked at

pub read-inside : (t : RunTable) (node filename : List ℕ) (c : AddQcow2 (List ℕ)) (first now : Taken) (image : Option Known) (told : Told)
    → TellsInside t node filename c first now image told → IsSameButFaults first now
read-inside t node filename c first now (Some image) told is =
    subst (IsSameButFaults first) (sym is.on.kept) (record { same = refl; faults = omega arith })
read-inside t node filename c first now None told (inl long) =
    subst (IsSameButFaults first) (sym long.kept) (record { same = refl; faults = omega arith })
read-inside t node filename c first now None told (inr why) = record { same = why.on.kept; faults = why.on.faults }

pub read-tells : (t : RunTable) (node filename : List ℕ) (driver : Added (List ℕ)) (first now : Taken) (image : Option Known) (told : Told)
    → TellsAddition t node filename driver first now image told → IsSameButFaults first now
read-tells t node filename (added.File own) first now image told is = subst (IsSameButFaults first) (sym is.kept) (record { same = refl; faults = omega arith })
read-tells t node filename (added.Raw raw) first now image told is = subst (IsSameButFaults first) (sym is.kept) (record { same = refl; faults = omega arith })
read-tells t node filename (added.Qcow2 c) first now image told is = read-inside t node filename c first now image told is
read-tells t node filename (added.CopyOnRead own) first now image told is = subst (IsSameButFaults first) (sym is.kept) (record { same = refl; faults = omega arith })
read-tells t node filename added.Unknown first now image told is = subst (IsSameButFaults first) (sym is.kept) (record { same = refl; faults = omega arith })

-- ---- looks

module _ (t : RunTable) (c : Adding) (old now : Site) (out : Option Taken) (image : Option Known) (told : Told) (closed : AreIn t old.store.opened) where
  still : now ≡ old → out ≡ None → (name : List ℕ) → IsLookedSo name old now out
  still same none name =
      inl
      (record {
        none = none;
        store = subst (λ (x : Site). x.store ≡ record old.store { faults = x.store.faults; failed_call = x.store.failed_call }) (sym same) refl;
        faults = subst (λ (x : Site). old.store.faults ≤ x.store.faults) (sym same) (omega arith);
        called = subst (λ (x : Site). HasCalled old.nodes x.nodes) (sym same) (called_itself old.nodes);
      })

  but-counts : now.store ≡ old.store → now.store ≡ record old.store { faults = now.store.faults; failed_call = now.store.failed_call }
  but-counts same = subst (λ (s : StoreInRun). s ≡ record old.store { faults = s.faults; failed_call = s.failed_call }) (sym same) refl

  in-store : (store : now.store ≡ record old.store { faults = now.store.faults; failed_call = now.store.failed_call }) → old.store.faults ≤ now.store.faults → now.nodes ≡ old.nodes → out ≡ None
      → IsCalled old now out
  in-store store faults nodes none = record {
    none = none;
    store = store;
    faults = faults;
    called = subst (HasCalled old.nodes) (sym nodes) (called_itself old.nodes);
  }

  looked-out : (at : Opens) → (found : Option Taken) → out ≡ found → now.nodes ≡ old.nodes → Looks t c at old.store now.store found image told
      → IsLookedSo at.filename old now out
  looked-out at found is nodes (inl away) =
      inl
      (in-store (but-counts away.0.kept)
      (let same = ap (λ (s : StoreInRun). s.faults) away.0.kept in omega (arith, same)) nodes (is ∙ away.1))
  looked-out at None is nodes (inr looks) = inl (by_cause looks.0.cause)
    where
      by_cause : IsAbsent old.store now.store at.filename looks.0.why ⊎ HasOpeningFailed old.store now.store at.filename looks.0.why → IsCalled old now out
      by_cause (inl absent) =
          in-store (but-counts absent.kept)
          (let same = ap (λ (s : StoreInRun). s.faults) absent.kept in omega (arith, same)) nodes is
      by_cause (inr failed) = in-store failed.kept failed.faults nodes is
  looked-out at (Some device) is nodes (inr looks) =
      inr
      (record {
        first = looks.0.first;
        device = device;
        is = is;
        taken = looks.0.out;
        read = read-tells t c.node_name at.filename c.driver looks.0.first device image told looks.0.tells;
        inside = closed at.filename looks.1;
        nodes = nodes;
      })

  looked-part : (raw : AddRaw (List ℕ)) (file : FileRef (List ℕ)) → raw.file ≡ file → LooksAtPart t c (part_look raw) file old now out image told
      → IsLookedSo (opened_name (added.Raw raw)) old now out
  looked-part raw (file_ref.Name name) f looks = still looks.kept looks.none (opened_name (added.Raw raw))
  looked-part raw (file_ref.Inline file) f looks =
      rw f (looked-out (record { filename = file.filename; what = part_look raw }) out refl looks.kept looks.looks)

  looked-image : (qcow2 : AddQcow2 (List ℕ)) (file : FileRef (List ℕ)) → qcow2.file ≡ file → LooksAtImage t c qcow2 file old now out image told
      → IsLookedSo (opened_name (added.Qcow2 qcow2)) old now out
  looked-image qcow2 (file_ref.Name name) f looks =
      inl
      (record {
        none = looks.none;
        store = but-counts looks.kept;
        faults = (let same = ap (λ (s : StoreInRun). s.faults) looks.kept in omega (arith, same));
        called = looks.called;
      })
  looked-image qcow2 (file_ref.Inline file) f looks =
      rw f (looked-out (record { filename = file.filename; what = look.File }) out refl looks.kept looks.looks)

  looked-by : (driver : Added (List ℕ)) → LooksBy t c driver old now out image told → IsLookedSo (opened_name driver) old now out
  looked-by (added.File filename) looks = looked-out (record { filename = filename; what = look.File }) out refl looks.kept looks.looks
  looked-by (added.Raw raw) looks = looked-part raw raw.file refl looks
  looked-by (added.Qcow2 qcow2) looks = looked-image qcow2 qcow2.file refl looks
  looked-by (added.CopyOnRead child) looks = still looks.kept looks.none (opened_name (added.CopyOnRead child))
  looked-by added.Unknown looks = still looks.kept looks.none (opened_name added.Unknown)

  pub looked-so : HasLooked t c old now out image told → IsLookedSo (opened_name c.driver) old now out
  looked-so looks = looked-by c.driver looks

-- ---- devices behind an addition

pub record HasDevice (nodes new : Nodes) (device : Taken) : Type 0 where
  pub id : ℕ
  pub devices : new.devices ≡ nodes.devices ++ of_node id device ∷ []

module _ (t : RunTable) (c : Adding) (image : Option Known) (nodes new : Nodes) where
  device-part : (raw : AddRaw (List ℕ)) (file : FileRef (List ℕ)) (device : Taken) → HasAddedPart t c raw file (Some device) nodes new → HasDevice nodes new device
  device-part raw (file_ref.Name name) device has = absurd has
  device-part raw (file_ref.Inline file) device has = record {
    id = has.under;
    devices = ap (λ (n : Nodes). n.devices) has.next.is ∙ ap (λ (n : Nodes). n.devices) has.first.is;
  }

  device-image : (qcow2 : AddQcow2 (List ℕ)) (file : FileRef (List ℕ)) (found : Option Known) (device : Taken)
      → HasAddedImage t c qcow2 file (Some device) found nodes new → HasDevice nodes new device
  device-image qcow2 (file_ref.Name name) found device has = absurd has
  device-image qcow2 (file_ref.Inline file) None device has = absurd has
  device-image qcow2 (file_ref.Inline file) (Some open_image) device has = record {
    id = has.under;
    devices = ap (λ (n : Nodes). n.devices) has.next.is ∙ ap (λ (n : Nodes). n.devices) has.first.is;
  }

  device-by : (driver : Added (List ℕ)) (device : Taken) → HasAddedBy t c driver (Some device) image nodes new → HasDevice nodes new device
  device-by (added.File filename) device has = record { id = has.0; devices = ap (λ (n : Nodes). n.devices) has.1.is }
  device-by (added.Raw raw) device has = device-part raw raw.file device has
  device-by (added.Qcow2 qcow2) device has = device-image qcow2 qcow2.file image device has
  device-by (added.CopyOnRead child) device has = absurd has
  device-by added.Unknown device has = absurd has

  pub has-device : (device : Taken) → HasAdded t c (Some device) image nodes new → HasDevice nodes new device
  has-device device has = device-by c.driver device has

  none-part : (raw : AddRaw (List ℕ)) (file : FileRef (List ℕ)) → HasAddedPart t c raw file None nodes new → new.devices ≡ nodes.devices
  none-part raw (file_ref.Name name) has = ap (λ (n : Nodes). n.devices) has.next.is
  none-part raw (file_ref.Inline file) has = absurd has

  none-image : (qcow2 : AddQcow2 (List ℕ)) (file : FileRef (List ℕ)) (found : Option Known) → HasAddedImage t c qcow2 file None found nodes new
      → new.devices ≡ nodes.devices
  none-image qcow2 (file_ref.Name name) None has = absurd has
  none-image qcow2 (file_ref.Name name) (Some open_image) has = ap (λ (n : Nodes). n.devices) has.next.is
  none-image qcow2 (file_ref.Inline file) found has = absurd has

  none-by : (driver : Added (List ℕ)) → HasAddedBy t c driver None image nodes new → new.devices ≡ nodes.devices
  none-by (added.File filename) has = absurd has
  none-by (added.Raw raw) has = none-part raw raw.file has
  none-by (added.Qcow2 qcow2) has = none-image qcow2 qcow2.file image has
  none-by (added.CopyOnRead child) has = ap (λ (n : Nodes). n.devices) has.next.is
  none-by added.Unknown has = absurd has

  pub no-device-more : HasAdded t c None image nodes new → new.devices ≡ nodes.devices
  no-device-more has = none-by c.driver has
