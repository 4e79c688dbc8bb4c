-- What an addition leaves of the world is what a command has to leave, by why its calls failed and what was seen of files.
use Rattle.std.proofs.Common.{◌≡◌, ℕ, true, false, List, inl, inr, refl, sym, ◌∙◌, ap, subst, Option, Some, None}
use Rattle.std.specs.Prelude.{is_some}
use Rattle.std.proofs.lemmas.List.Elements.{All-nil}
use Rattle.flat_machine.specs.Marks.{IsCalm}
use Rattle.blk_base.specs.declared.file.File.{File}
use Rattle.blk_nodes.specs.Joined.{IsJoined}
use Rattle.qmp_codec.specs.Commands.{Cmd}
use Rattle.qmp_codec.specs.declared.command.Command.TheVariants as command
use Rattle.qmp_rules.specs.Answers.{Answer, answer, refusal_to}
use Rattle.qmp_rules.specs.Changes.{all_changed}
use Rattle.qmp_rules.specs.Table.{RunTable}
use Rattle.qmp_rules.specs.declared.refusal.Refusal.{Refusal}
use Rattle.qmp_rules.specs.declared.told.Told.{Told}
use Rattle.flat_machine.specs.Performing.{AllPerformed}
use Rattle.flat_machine.specs.State.{State}
use Rattle.flat_machine.specs.declared.opening.Opening.{Opening}
use Rattle.world_parts.specs.Adding.{Adding}
use Rattle.world_parts.specs.Carrying.{IsCarriedAs, IsCaused, fault_told}
use Rattle.world_parts.specs.Coherent.{DevicesTell, IsCoherent}
use Rattle.world_parts.specs.Comes.{ShowsState}
use Rattle.world_parts.specs.Face.{WorldSeen, contents_of}
use Rattle.world_parts.specs.Counting.{HidesNoFault}
use Rattle.world_parts.specs.Leaving.{clean_told}
use Rattle.world_additions.specs.Additions.{AreIn, HasAdditionEnded, IsAddedSo, IsAdditionOf, IsRefusedSo}
use Rattle.world_parts.specs.Looking.{HasLooked, Site}
use Rattle.world_parts.specs.Saying.{IsSaid}
use Rattle.world_parts.specs.Staging.{opened_name, site_of}
use Rattle.world_parts.specs.Stores.{StoreInRun}
use Rattle.world_additions.proofs.AddBack.{added-tell, back-both}
use Rattle.world_additions.proofs.AddCarried.{did-all, sited}
use Rattle.world_additions.proofs.AddClean.{told-clean}
use Rattle.world_additions.proofs.AddClosed.{closed-in}
use Rattle.world_additions.proofs.AddCoherent.{whole}
use Rattle.world_additions.proofs.AddExact.{IsSeenHeld, carried-in}
use Rattle.world_additions.proofs.AddOpens.{opens-added, opens-back}
use Rattle.world_additions.proofs.AddKinds.{IsLookedSo, looked-so}
use Rattle.world_additions.proofs.AddQuiet.{quiet-back}
use Rattle.world_additions.proofs.AddRunsOn.{runs-added, runs-back}
use Rattle.flat_machine.specs.Bitmaps.{AreBitmapsOf}
use Rattle.world_parts.proofs.BitmapsLeft.{left-dirty}
use Rattle.world_parts.proofs.Placed.{answer-is}

-- why the failed calls of an addition failed, that none is hidden, and that what was told is what files hold
pub record IsAccounted (w v : WorldSeen) (c : Adding) (told : Told) : Type 0 where
  pub causes : (cause : Refusal) → refusal_to w.table told (command.BlockdevAdd c) ≡ Some cause → IsCaused w v (command.BlockdevAdd c) cause
  pub hides : HidesNoFault w v (fault_told (refusal_to w.table told (command.BlockdevAdd c)))
  pub seen : is_some w.files ≡ true → (o : Opening) (s : State) → ShowsState o s w → IsSeenHeld s w c told

pub some-files : (f : Option (List File)) → is_some f ≡ true → (files : List File) × (f ≡ Some files)
some-files None bad = absurd (let e : false ≡ true = bad in cc e)
some-files (Some files) some = (files, refl)

module _ (w : WorldSeen) (coherent : IsCoherent w.table w.nodes w.opened w.progress) (tell : DevicesTell w.files w.nodes.devices) (joined : IsJoined w.nodes)
    (bitmaps : AreBitmapsOf w.table.bitmaps w.bitmaps) (given : List ℕ) (c : Adding) (x : Site) (u : RunTable) (text : List ℕ) where
  abbrev v : WorldSeen
  v = sited w x u

  abbrev cmd : Cmd
  cmd = command.BlockdevAdd c

  -- none for which a node may be opened is out
  closed : AreIn w.table w.opened
  closed name unopened = closed-in w.table w.nodes w.opened name coherent.out unopened

  so : (is : IsAdditionOf w.table given c (site_of w) x u text) → IsLookedSo (opened_name c.driver) (site_of w) is.between is.out
  so is = looked-so w.table c (site_of w) is.between is.out is.image is.told closed is.looked

  -- nothing is told of what is dirty
  looked-clean : (is : IsAdditionOf w.table given c (site_of w) x u text) → HasLooked w.table c (site_of w) is.between is.out is.image (clean_told is.told)
  looked-clean is =
      let clean = told-clean w.table c is.told (site_of w) is.between is.out is.image is.looked in
      subst (λ (dirty : List ℕ). HasLooked w.table c (site_of w) is.between is.out is.image (record is.told { dirty = dirty })) clean.0 is.looked

  -- ---- refused

  refused-as : (is : IsAdditionOf w.table given c (site_of w) x u text) → IsRefusedSo w.table given c is.told is.out is.between x u text
      → IsAccounted w v c is.told → IsCarriedAs w v given cmd text
  refused-as is ends account =
      let answered = answer-is w.table is.told cmd (Some ends.staged.cause) ends.staged.is in
      let clean = told-clean w.table c is.told (site_of w) is.between is.out is.image is.looked in
      let both = back-both w coherent tell is.between c.driver is.out x (so is) ends.is in
      let unchanged : all_changed w.table (answer w.table is.told cmd).changes ≡ w.table = ap (λ (a : Answer). all_changed w.table a.changes) answered in
      let quiet = quiet-back w v is.between c.driver is.out ends.table (so is) ends.is in
      record {
        refusal = Some ends.staged.cause;
        carried = record {
          told = is.told;
          counts = λ prints. absurd (let bad : ⊥ = cc prints in bad);
          by_files = clean.1;
          maps = tt;
          answered = ends.staged.is;
          table = ends.table ∙ sym unchanged;
          progress = refl;
          drains = refl;
          works = refl;
          calm = λ is. All-nil (IsCalm w.table w.progress.guests);
          runs = runs-back w v refl is.between c.driver is.out (so is) ends.is;
          hides = subst (λ (r : Option Refusal). HidesNoFault w v (fault_told r)) ends.staged.is account.hides;
          opens = opens-back w.table c (site_of w) is.between is.out is.image is.told is.looked x.store (ap (λ (y : Site). y.store) ends.is) (so is);
          site = record { between = is.between; out = is.out; image = is.image; looked = looked-clean is; ends = ends.is };
          cause = account.causes ends.staged.cause ends.staged.is;
          coherent = λ was. subst (λ (t : RunTable). IsCoherent t x.nodes x.store.opened w.progress) (sym ends.table) both.0;
          shows = λ told o s shows.
              carried-in o s w v c is.told shows (account.seen told o s shows)
              (subst (λ (a : Answer). AllPerformed s a.changes (contents_of w) (contents_of v)) (sym answered) quiet);
        };
        said = subst (λ (a : Answer). IsSaid given a.reply text) (sym answered) ends.staged.said;
        dirty = left-dirty w v is.told cmd refl refl bitmaps;
        bitmaps = refl;
      }

  -- ---- carried out

  added-as : (is : IsAdditionOf w.table given c (site_of w) x u text) → IsAddedSo w.table given c is.told is.out is.image is.between x u text
      → IsAccounted w v c is.told → IsCarriedAs w v given cmd text
  added-as is ends account =
      let answered = answer-is w.table is.told cmd None ends.accepted.none in
      let clean = told-clean w.table c is.told (site_of w) is.between is.out is.image is.looked in
      let table : u ≡ all_changed w.table (answer w.table is.told cmd).changes = ends.table ∙ sym (ap (λ (a : Answer). all_changed w.table a.changes) answered) in
      let runs = runs-added w v refl is.between c.driver is.out w.table c is.image (so is) ends.store ends.added in
      record {
        refusal = None;
        carried = record {
          told = is.told;
          counts = λ prints. absurd (let bad : ⊥ = cc prints in bad);
          by_files = clean.1;
          maps = tt;
          answered = ends.accepted.none;
          table = table;
          progress = refl;
          drains = refl;
          works = refl;
          calm = λ is. All-nil (IsCalm w.table w.progress.guests);
          runs = runs;
          hides = subst (λ (r : Option Refusal). HidesNoFault w v (fault_told r)) ends.accepted.none account.hides;
          opens = opens-added w.table c (site_of w) is.between is.out is.image is.told is.looked x.store ends.store (so is);
          site = record { between = is.between; out = is.out; image = is.image; looked = looked-clean is; ends = (ends.store, ends.added) };
          cause = λ dev called passes. passes;
          coherent = λ was.
              subst (λ (t : RunTable). IsCoherent t x.nodes x.store.opened w.progress) (sym ends.table)
              (whole w.table is.told c ends.accepted.none (site_of w) is.between x is.out is.image w.progress coherent is.joined is.looked ends.added ends.store);
          shows = λ told o s shows.
              let files = some-files w.files told in
              carried-in o s w v c is.told shows (account.seen told o s shows)
              (subst (λ (a : Answer). AllPerformed s a.changes (contents_of w) (contents_of v)) (sym answered)
              (did-all w coherent joined c is.told ends.accepted.none is.between is.joined is.out is.image v (same-files is ends) files.0 files.1 s shows.table.table_is
              is.looked ends.added ends.table));
        };
        said = subst (λ (a : Answer). IsSaid given a.reply text) (sym answered) ends.accepted.said;
        dirty = left-dirty w v is.told cmd refl refl bitmaps;
        bitmaps = record { new = None; is_new = tt; are = refl };
      }
    where
      same-files : (is : IsAdditionOf w.table given c (site_of w) x u text) → IsAddedSo w.table given c is.told is.out is.image is.between x u text → x.store.files ≡ w.files
      same-files is ends = by_kind (so is)
        where
          by_kind : IsLookedSo (opened_name c.driver) (site_of w) is.between is.out → x.store.files ≡ w.files
          by_kind (inl called) = ap (λ (s : StoreInRun). s.files) (ends.store ∙ called.store)
          by_kind (inr opened) = ap (λ (s : StoreInRun). s.files) (ends.store ∙ opened.taken.kept)

  pub carried-as : (is : IsAdditionOf w.table given c (site_of w) x u text) → IsAccounted w v c is.told → IsCarriedAs w v given cmd text
  carried-as is account = by_end is.ends
    where
      by_end : HasAdditionEnded w.table given c is.told is.out is.image is.between x u text → IsCarriedAs w v given cmd text
      by_end (inl refused) = refused-as is refused account
      by_end (inr added) = added-as is added account

  -- the parts belong together then
  pub carried-both : IsAdditionOf w.table given c (site_of w) x u text → IsCoherent u x.nodes x.store.opened w.progress × DevicesTell x.store.files x.nodes.devices
  carried-both is = by_end is.ends
    where
      by_end : HasAdditionEnded w.table given c is.told is.out is.image is.between x u text
          → IsCoherent u x.nodes x.store.opened w.progress × DevicesTell x.store.files x.nodes.devices
      by_end (inl refused) =
          let both = back-both w coherent tell is.between c.driver is.out x (so is) refused.is in
          (subst (λ (t : RunTable). IsCoherent t x.nodes x.store.opened w.progress) (sym refused.table) both.0, both.1)
      by_end (inr added) = (
        subst (λ (t : RunTable). IsCoherent t x.nodes x.store.opened w.progress) (sym added.table)
            (whole w.table is.told c added.accepted.none (site_of w) is.between x is.out is.image w.progress coherent is.joined is.looked added.added added.store),
        added-tell w coherent tell is.between c.driver is.out x w.table c is.image (so is) added.store added.added,
      )
