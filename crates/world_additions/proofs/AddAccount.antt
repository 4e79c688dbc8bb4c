-- What was seen of files for an addition is what they hold, whatever it looked at; and why its calls failed.
use Rattle.std.proofs.Common.{◌≡◌, ℕ, List, inl, inr, refl, sym, ◌∙◌, subst, Option, Some, None}
use Rattle.blk_base.specs.declared.file.File.{File}
use Rattle.q2_image.specs.Image.{Known}
use Rattle.blk_nodes.specs.Joined.{IsJoined}
use Rattle.qmp_codec.specs.declared.command.Command.TheVariants as command
use Rattle.qmp_codec.specs.declared.nodes.AddQcow2.{AddQcow2}
use Rattle.qmp_codec.specs.declared.nodes.AddRaw.{AddRaw}
use Rattle.qmp_codec.specs.declared.nodes.Added.{Added}
use Rattle.qmp_codec.specs.declared.nodes.Added.TheVariants as added
use Rattle.qmp_codec.specs.declared.nodes.FileRef.{FileRef}
use Rattle.qmp_codec.specs.declared.nodes.FileRef.TheVariants as file_ref
use Rattle.qmp_rules.specs.Answers.{refusal_to, told_none}
use Rattle.qmp_rules.specs.Looks.{part_look}
use Rattle.qmp_rules.specs.Table.{RunTable}
use Rattle.qmp_rules.specs.declared.refusal.Refusal.{Refusal}
use Rattle.qmp_asks.specs.declared.look.Look.TheVariants as look
use Rattle.qmp_rules.specs.declared.told.Told.{Told}
use Rattle.flat_machine.specs.State.{State}
use Rattle.flat_machine.specs.declared.opening.Opening.{Opening}
use Rattle.world_parts.specs.Adding.{Adding, Opens, Taken}
use Rattle.world_parts.specs.Carrying.{IsCaused, as_held, fault_told}
use Rattle.world_parts.specs.Coherent.{DevicesTell, IsCoherent, IsWholeWorld}
use Rattle.world_parts.specs.Comes.{ShowsState}
use Rattle.world_parts.specs.Counting.{HidesNoFault, RunsOn}
use Rattle.world_parts.specs.Face.{WorldSeen}
use Rattle.world_additions.specs.Additions.{AreIn, HasAdditionEnded, IsAdditionOf}
use Rattle.world_parts.specs.Looking.{LooksAtImage, LooksAtPart, LooksBy, LooksOut, Site}
use Rattle.world_parts.specs.Staging.{opened_name, site_of, store_of}
use Rattle.world_additions.proofs.AddCarried.{sited}
use Rattle.world_additions.proofs.AddCause.{causes}
use Rattle.world_additions.proofs.AddClosed.{closed-in}
use Rattle.world_additions.proofs.AddCounts.{IsLookedOver, hides-added, hides-refused, looked-over}
use Rattle.world_additions.proofs.AddEnds.{IsAccounted, some-files}
use Rattle.world_additions.proofs.AddExact.{IsSeenHeld, expects-filter, expects-held, expects-nothing, expects-unknown, held-of, seen-store}
use Rattle.world_additions.proofs.AddKinds.{IsLookedSo, looked-so}
use Rattle.world_additions.proofs.AddRunsOn.{runs-added, runs-back}
use Rattle.world_additions.proofs.AddSeen.{AsFile, AsImage, AsPart, OpensAs}
use Rattle.world_additions.proofs.AddSights.{expects, seen-whole}
use Rattle.world_additions.proofs.AddUnder.{seen-under}

-- ---- what was seen

module _ (o : Opening) (s : State) (w : WorldSeen) (shows : ShowsState o s w) (coherent : IsCoherent w.table w.nodes w.opened w.progress)
    (tell : DevicesTell w.files w.nodes.devices) (files : List File) (told_files : w.files ≡ Some files) (c : Adding) (now : Site)
    (out : Option Taken) (image : Option Known) (told : Told) where
  seen-out : (at : Opens) → OpensAs c at → LooksOut w.table c at (site_of w) now out image told → IsSeenHeld s w c told
  seen-out at opener looks =
      held-of s w c told (expects-held o s w shows files told_files c at opener)
      (seen-store o s w shows files told_files c at opener now.store (store_of w) refl out image told looks.looks)

  seen-nothing : expects s c ≡ told_none → expects (as_held w s) c ≡ told_none → told ≡ told_none → IsSeenHeld s w c told
  seen-nothing mine held is = held-of s w c told (held ∙ sym mine) (seen-whole s c told (mine ∙ sym is))

  seen-part : (raw : AddRaw (List ℕ)) (file : FileRef (List ℕ)) → c.driver ≡ added.Raw raw → raw.file ≡ file
      → LooksAtPart w.table c (part_look raw) file (site_of w) now out image told → IsSeenHeld s w c told
  seen-part raw (file_ref.Name name) e f looks =
      seen-nothing (expects-nothing s c raw name e f) (expects-nothing (as_held w s) c raw name e f) looks.is
  seen-part raw (file_ref.Inline file) e f looks =
      seen-out (record { filename = file.filename; what = part_look raw }) (AsPart raw file e f refl refl) looks

  seen-image : (q : AddQcow2 (List ℕ)) (file : FileRef (List ℕ)) → c.driver ≡ added.Qcow2 q → q.file ≡ file
      → LooksAtImage w.table c q file (site_of w) now out image told → IsSeenHeld s w c told
  seen-image q (file_ref.Name name) e f looks =
      seen-under o s w shows coherent tell files told_files c q name e f now.nodes image told looks.looks
  seen-image q (file_ref.Inline file) e f looks =
      seen-out (record { filename = file.filename; what = look.File }) (AsImage q file e f refl refl) looks

  seen-by : (driver : Added (List ℕ)) → c.driver ≡ driver → LooksBy w.table c driver (site_of w) now out image told → IsSeenHeld s w c told
  seen-by (added.File filename) e looks = seen-out (record { filename = filename; what = look.File }) (AsFile e refl) looks
  seen-by (added.Raw raw) e looks = seen-part raw raw.file e refl looks
  seen-by (added.Qcow2 q) e looks = seen-image q q.file e refl looks
  seen-by (added.CopyOnRead child) e looks = seen-nothing (expects-filter s c child e) (expects-filter (as_held w s) c child e) looks.is
  seen-by added.Unknown e looks = seen-nothing (expects-unknown s c e) (expects-unknown (as_held w s) c e) looks.is

-- ---- all of it

module _ (w : WorldSeen) (whole : IsWholeWorld w) (joined : IsJoined w.nodes) (given : List ℕ) (c : Adding) (x : Site) (u : RunTable) (text : List ℕ)
    (is : IsAdditionOf w.table given c (site_of w) x u text) where
  closed : AreIn w.table w.opened
  closed name unopened = closed-in w.table w.nodes w.opened name whole.coherent.out unopened

  so : IsLookedSo (opened_name c.driver) (site_of w) is.between is.out
  so = looked-so w.table c (site_of w) is.between is.out is.image is.told closed is.looked

  pub runs-so : RunsOn w (sited w x u)
  runs-so = by_end is.ends
    where
      by_end : HasAdditionEnded w.table given c is.told is.out is.image is.between x u text → RunsOn w (sited w x u)
      by_end (inl refused) = runs-back w (sited w x u) refl is.between c.driver is.out so refused.is
      by_end (inr ends) = runs-added w (sited w x u) refl is.between c.driver is.out w.table c is.image so ends.store ends.added

  pub accounted : IsAccounted w (sited w x u) c is.told
  accounted = record {
    causes = λ cause refused. by_end is.ends cause refused;
    hides = hides_end is.ends;
    seen = λ told o s shows.
        let files = some-files w.files told in
        seen-by o s w shows whole.coherent whole.tell files.0 files.1 c is.between is.out is.image is.told c.driver refl is.looked;
  }
    where
      by_end : HasAdditionEnded w.table given c is.told is.out is.image is.between x u text → (cause : Refusal)
          → refusal_to w.table is.told (command.BlockdevAdd c) ≡ Some cause → IsCaused w (sited w x u) (command.BlockdevAdd c) cause
      by_end (inl refused) cause some =
          causes w (sited w x u) c refl whole.counted whole.coherent runs-so is.between is.out is.image is.told closed is.looked refused.is cause some
      by_end (inr ends) cause some = absurd (let bad : None ≡ Some cause = sym ends.accepted.none ∙ some in cc bad)

      over : IsLookedOver w c is.told is.between is.out
      over = looked-over w whole joined c is.told is.between is.out closed is.image is.looked

      hides_end : HasAdditionEnded w.table given c is.told is.out is.image is.between x u text
          → HidesNoFault w (sited w x u) (fault_told (refusal_to w.table is.told (command.BlockdevAdd c)))
      hides_end (inl refused) =
          subst (λ (r : Option Refusal). HidesNoFault w (sited w x u) (fault_told r)) (sym refused.staged.is)
          (hides-refused w (sited w x u) whole c is.told is.between is.out is.image over refused.is refused.staged.cause refused.staged.is)
      hides_end (inr ends) =
          subst (λ (r : Option Refusal). HidesNoFault w (sited w x u) (fault_told r)) (sym ends.accepted.none)
          (hides-added w (sited w x u) whole c is.told is.between is.out is.image over ends.store ends.added ends.accepted.none)
