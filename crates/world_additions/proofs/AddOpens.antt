-- An addition opens at most the file that it names.
use Rattle.std.proofs.Common.{◌≡◌, ℕ, List, [], ◌∷◌, ◌++◌, inl, inr, refl, sym, ◌∙◌, ap, subst, Option, Some, None}
use Rattle.std.specs.Prelude.{option_map, unwrap_or}
use Rattle.blk_base.specs.declared.file.Opened.{Opened}
use Rattle.q2_image.specs.Image.{Known}
use Rattle.qmp_codec.specs.declared.command.Command.TheVariants as command
use Rattle.qmp_codec.specs.declared.nodes.AddQcow2.{AddQcow2}
use Rattle.qmp_codec.specs.declared.nodes.AddRaw.{AddRaw}
use Rattle.qmp_codec.specs.declared.nodes.Added.{Added}
use Rattle.qmp_codec.specs.declared.nodes.Added.TheVariants as added
use Rattle.qmp_codec.specs.declared.nodes.FileRef.{FileRef}
use Rattle.qmp_codec.specs.declared.nodes.FileRef.TheVariants as file_ref
use Rattle.qmp_rules.specs.Looks.{part_look}
use Rattle.qmp_rules.specs.Table.{RunTable}
use Rattle.qmp_asks.specs.declared.look.Look.TheVariants as look
use Rattle.qmp_rules.specs.declared.told.Told.{Told}
use Rattle.world_parts.specs.Adding.{Adding, Opens, Taken, opening_of, opens, opens_by}
use Rattle.world_parts.specs.Carrying.{AreOpenedBy, OpensFor, opened_names}
use Rattle.world_parts.specs.Looking.{HasLooked, LooksAtImage, LooksAtPart, LooksBy, Site}
use Rattle.world_parts.specs.Staging.{back_if, opened_name}
use Rattle.world_parts.specs.Stores.{StoreInRun}
use Rattle.world_additions.proofs.AddKinds.{IsLookedSo}
use Rattle.world_additions.proofs.AddRuns.{back-is, closed-opening}

-- ---- where a device is out, a file was opened

module _ (t : RunTable) (c : Adding) (old now : Site) (out : Option Taken) (image : Option Known) (told : Told) (device : Taken) (is : out ≡ Some device) where
  abbrev Opening : Added (List ℕ) → Type 0
  Opening driver = (at : Opens) × (opens driver ≡ Some at)

  none-is : out ≡ None → ⊥
  none-is none = let bad : Some device ≡ None = sym is ∙ none in cc bad

  opens-part : (raw : AddRaw (List ℕ)) (file : FileRef (List ℕ)) → raw.file ≡ file → LooksAtPart t c (part_look raw) file old now out image told → Opening (added.Raw raw)
  opens-part raw (file_ref.Name name) f looks = absurd (none-is looks.none)
  opens-part raw (file_ref.Inline file) f looks =
      (record { filename = file.filename; what = part_look raw }, ap (λ (r : FileRef (List ℕ)). opens_by r (part_look raw)) f)

  opens-image : (q : AddQcow2 (List ℕ)) (file : FileRef (List ℕ)) → q.file ≡ file → LooksAtImage t c q file old now out image told → Opening (added.Qcow2 q)
  opens-image q (file_ref.Name name) f looks = absurd (none-is looks.none)
  opens-image q (file_ref.Inline file) f looks =
      (record { filename = file.filename; what = look.File }, ap (λ (r : FileRef (List ℕ)). opens_by r look.File) f)

  opens-by : (driver : Added (List ℕ)) → LooksBy t c driver old now out image told → Opening driver
  opens-by (added.File filename) looks = (record { filename = filename; what = look.File }, refl)
  opens-by (added.Raw raw) looks = opens-part raw raw.file refl looks
  opens-by (added.Qcow2 q) looks = opens-image q q.file refl looks
  opens-by (added.CopyOnRead child) looks = absurd (none-is looks.none)
  opens-by added.Unknown looks = absurd (none-is looks.none)

-- ---- names

last-name : (xs : List Opened) (y : Opened) → opened_names (xs ++ y ∷ []) ≡ opened_names xs ++ y.name ∷ []
last-name [] y = refl
last-name (x ∷ xs) y = ap (λ (l : List (List ℕ)). x.name ∷ l) (last-name xs y)

none-opened : (at : Option Opens) (old new : List (List ℕ)) → new ≡ old → AreOpenedBy at old new
none-opened None old new same = same
none-opened (Some at) old new same = inl same

one-opened : (driver : Added (List ℕ)) (at : Opens) → opens driver ≡ Some at → (old new : List (List ℕ)) → new ≡ old ++ opened_name driver ∷ [] → AreOpenedBy (opens driver) old new
one-opened driver at is old new last =
    let name : opened_name driver ≡ at.filename = ap (λ (f : Option Opens). unwrap_or (option_map (λ (o : Opens). o.filename) f) []) is in
    subst (λ (f : Option Opens). AreOpenedBy f old new) (sym is) (inr (last ∙ ap (λ (n : List ℕ). old ++ n ∷ []) name))

-- ---- refused or carried out

module _ (t : RunTable) (c : Adding) (old now : Site) (out : Option Taken) (image : Option Known) (told : Told) (looked : HasLooked t c old now out image told) where
  opened-so : (device : Taken) → out ≡ Some device → (new : List Opened) (opening : Opened) → opening.name ≡ opened_name c.driver
      → new ≡ old.store.opened ++ opening ∷ [] → OpensFor (command.BlockdevAdd c) old.store.opened new
  opened-so device is new opening name last =
      let by = opens-by t c old now out image told device is c.driver looked in
      one-opened c.driver by.0 by.1 (opened_names old.store.opened) (opened_names new)
      (ap opened_names last ∙ last-name old.store.opened opening ∙ ap (λ (n : List ℕ). opened_names old.store.opened ++ n ∷ []) name)

  still-so : (new : List Opened) → new ≡ old.store.opened → OpensFor (command.BlockdevAdd c) old.store.opened new
  still-so new same = none-opened (opens c.driver) (opened_names old.store.opened) (opened_names new) (ap opened_names same)

  pub opens-back : (x : StoreInRun) → x ≡ back_if c.driver out now.store → IsLookedSo (opened_name c.driver) old now out
      → OpensFor (command.BlockdevAdd c) old.store.opened x.opened
  opens-back x is (inl called) =
      still-so x.opened
      (ap (λ (s : StoreInRun). s.opened) is ∙ ap (λ (o : Option Taken). (back_if c.driver o now.store).opened) called.none
      ∙ ap (λ (s : StoreInRun). s.opened) called.store)
  opens-back x is (inr opened) =
      opened-so opened.device opened.is x.opened
      (closed-opening old.store now.store (opened_name c.driver) opened.first opened.device opened.taken opened.read.same opened.inside) refl
      (ap (λ (s : StoreInRun). s.opened)
      (is ∙ ap (λ (o : Option Taken). back_if c.driver o now.store) opened.is
      ∙ back-is old.store now.store (opened_name c.driver) opened.first opened.device opened.taken opened.read.same opened.inside))

  pub opens-added : (x : StoreInRun) → x ≡ now.store → IsLookedSo (opened_name c.driver) old now out
      → OpensFor (command.BlockdevAdd c) old.store.opened x.opened
  opens-added x is (inl called) = still-so x.opened (ap (λ (s : StoreInRun). s.opened) (is ∙ called.store))
  opens-added x is (inr opened) =
      opened-so opened.device opened.is x.opened (opening_of (opened_name c.driver) opened.first) refl
      (ap (λ (s : StoreInRun). s.opened) (is ∙ opened.taken.kept))
