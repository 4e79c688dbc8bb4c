-- What commands that leave the nodes are told is what the flat machine says: of a snapshot whether its overlay maps a cluster, of others nothing.
use Rattle.std.proofs.Common.{◌≡◌, ℕ, true, inl, List, map, refl, sym, ap, subst, None}
use Rattle.std.specs.Prelude.{is_some}
use Rattle.std.proofs.lemmas.Bool.{false≢true}
use Rattle.qmp_codec.specs.Commands.{Cmd}
use Rattle.qmp_codec.specs.declared.command.Command.TheVariants as command
use Rattle.qmp_codec.specs.declared.nodes.Snapshot.{Snapshot}
use Rattle.qmp_rules.specs.Answers.{answer, told_none}
use Rattle.qmp_rules.specs.declared.told.Told.{Told}
use Rattle.flat_machine.specs.Marking.{dirty_bytes}
use Rattle.flat_machine.specs.Performing.{AllPerformed}
use Rattle.flat_machine.specs.Sights.{IsTold}
use Rattle.flat_machine.specs.State.{State}
use Rattle.flat_machine.specs.declared.opening.Opening.{Opening}
use Rattle.blk_nodes.specs.Joined.{IsJoined}
use Rattle.world_parts.specs.Carrying.{IsCarriedIn, IsLateIn, counts_of, with_counts}
use Rattle.world_parts.specs.Coherent.{IsWholeWorld}
use Rattle.world_parts.specs.Comes.{ShowsState}
use Rattle.world_parts.specs.Face.{WorldSeen, contents_of}
use Rattle.world_parts.proofs.CarryPlain.{late_nothing, told_nothing}
use Rattle.world_parts.proofs.Counted.{answer-counted}
use Rattle.world_changes.specs.Changing.{TellsMappedAlone, is_change}
use Rattle.world_changes.proofs.CoverTold.{may_be_told}

module _ (w : WorldSeen) (whole : IsWholeWorld w) (joined : IsJoined w.nodes) where
  -- ---- a snapshot

  module _ (c : Snapshot (List ℕ)) (told : Told) (tells : TellsMappedAlone w.table w.nodes (command.BlockdevSnapshot c) told) (o : Opening) (s : State)
      (some : is_some w.files ≡ true) (shows : ShowsState o s w) where
    stopped : told.stopped ≡ None
    stopped = ap (λ (x : Told). x.stopped) tells.rest

    -- as it is told, with the counts of the bitmaps
    abbrev seen : Told
    seen = with_counts told (counts_of w)

    is_told : IsTold s (command.BlockdevSnapshot c) seen
    is_told = record {
      file = ap (λ (x : Told). x.length) tells.rest;
      image = ap (λ (x : Told). x.size) tells.rest;
      refusal = inl stopped;
      clusters = may_be_told w whole joined c told tells o s some shows;
      bitmaps = ap (map dirty_bytes) (sym shows.dirty);
    }

    same_answer : answer w.table seen (command.BlockdevSnapshot c) ≡ answer w.table told (command.BlockdevSnapshot c)
    same_answer = answer-counted told (counts_of w) w.table (command.BlockdevSnapshot c) (λ prints. absurd (false≢true prints))

    snapshot_late : IsLateIn s w (command.BlockdevSnapshot c) told
    snapshot_late = record { seen = seen; is_told = is_told; exact = inl stopped; same = same_answer }

    snapshot_so : (v : WorldSeen) → AllPerformed s (answer w.table told (command.BlockdevSnapshot c)).changes (contents_of w) (contents_of v)
        → IsCarriedIn s w v (command.BlockdevSnapshot c) told
    snapshot_so v did = record { seen = seen; is_told = is_told; exact = inl stopped; same = same_answer; performed = did }

  -- ---- any

  pub told_so : (c : Cmd) → is_change c ≡ true → (told : Told) → TellsMappedAlone w.table w.nodes c told → (o : Opening) (s : State) → is_some w.files ≡ true
      → ShowsState o s w → (v : WorldSeen) → AllPerformed s (answer w.table told c).changes (contents_of w) (contents_of v) → IsCarriedIn s w v c told
  told_so (command.BlockdevAdd c) is told tells o s some shows v did = absurd cc
  told_so (command.BlockdevCreate c) is told tells o s some shows v did = absurd cc
  told_so (command.QueryNamedBlockNodes flat) is told tells o s some shows v did = absurd cc
  told_so (command.BlockdevSnapshot c) is told tells o s some shows v did = snapshot_so c told tells o s some shows v did
  told_so c is told tells o s some shows v did =
      let same : told ≡ told_none = tells.none refl in
      subst (IsCarriedIn s w v c) (sym same)
      (told_nothing o s w v c refl (λ prints. absurd (false≢true prints)) shows
      (subst (λ (x : Told). AllPerformed s (answer w.table x c).changes (contents_of w) (contents_of v)) same did))

  pub late_so : (c : Cmd) → is_change c ≡ true → (told : Told) → TellsMappedAlone w.table w.nodes c told → (o : Opening) (s : State) → is_some w.files ≡ true
      → ShowsState o s w → IsLateIn s w c told
  late_so (command.BlockdevAdd c) is told tells o s some shows = absurd cc
  late_so (command.BlockdevCreate c) is told tells o s some shows = absurd cc
  late_so (command.QueryNamedBlockNodes flat) is told tells o s some shows = absurd cc
  late_so (command.BlockdevSnapshot c) is told tells o s some shows = snapshot_late c told tells o s some shows
  late_so c is told tells o s some shows =
      let same : told ≡ told_none = tells.none refl in
      subst (IsLateIn s w c) (sym same) (late_nothing o s w c refl refl)
