-- What was seen of the files is what they hold.
use Rattle.std.proofs.Common.{◌≡◌, ℕ, Bool, true, false, List, map, inl, inr, refl, sym, ◌∙◌, ap, subst, Option, Some, None}
use Rattle.std.specs.Prelude.{bytes_eq, find, option_map}
use Rattle.blk_base.specs.declared.file.File.{File}
use Rattle.blk_history.specs.Fold.{With}
use Rattle.q2_image.specs.Image.{Known as Image}
use Rattle.qmp_codec.specs.declared.command.Command.TheVariants as command
use Rattle.qmp_codec.specs.declared.nodes.AddRaw.{AddRaw}
use Rattle.qmp_codec.specs.declared.nodes.Added.TheVariants as added
use Rattle.qmp_codec.specs.declared.nodes.FileRef.TheVariants as file_ref
use Rattle.qmp_rules.specs.Answers.{answer, told_none}
use Rattle.qmp_rules.specs.Looks.{add_told, is_unopened}
use Rattle.qmp_rules.specs.Table.{RunTable}
use Rattle.qmp_rules.specs.declared.told.Stopped.{Stopped}
use Rattle.qmp_rules.specs.declared.told.Told.{Told}
use Rattle.flat_machine.specs.Final.{bytes_named}
use Rattle.flat_machine.specs.Performing.{AllPerformed}
use Rattle.flat_machine.specs.Sights.{Fails, IsTold}
use Rattle.flat_machine.specs.State.{State, KnownFile, Content, Bytes, content_in}
use Rattle.flat_machine.specs.declared.opening.Opening.{Opening}
use Rattle.flat_machine.proofs.Finds.{find-map}
use Rattle.world_parts.specs.Adding.{Adding, Looks, Opens, Taken}
use Rattle.world_parts.specs.Carrying.{IsCarriedIn, StopsExactly, as_held, held_known, known_as}
use Rattle.world_parts.specs.Comes.{ShowsState}
use Rattle.world_parts.specs.Face.{WorldSeen, contents_of, held, told_bytes}
use Rattle.world_parts.specs.Stores.{StoreInRun}
use Rattle.world_additions.proofs.AddClosed.{closed-held}
use Rattle.world_additions.proofs.AddLooks.{seen-looks}
use Rattle.world_additions.proofs.AddSeen.{AsFile, AsImage, AsPart, OpensAs, expects-closed}
use Rattle.world_additions.proofs.AddSights.{IsExact, IsSeenAs, expects, known-absent, known-there}

-- ---- what is known as it is held

content-held : (w : WorldSeen) (files : List KnownFile) (name : List ℕ)
    → content_in (map (held_known w) files) name ≡ option_map (λ (k : KnownFile). (held_known w k).content) (find (λ (k : KnownFile). bytes_eq k.name name) files)
content-held w files name =
    ap (option_map (λ (k : KnownFile). k.content)) (find-map (λ (k : KnownFile). bytes_eq k.name name) (held_known w) (λ k. refl) files)
    ∙ by_found (find (λ (k : KnownFile). bytes_eq k.name name) files)
  where
    by_found : (found : Option KnownFile) → option_map (λ (k : KnownFile). k.content) (option_map (held_known w) found) ≡ option_map (λ (k : KnownFile). (held_known w k).content) found
    by_found None = refl
    by_found (Some k) = refl

-- of a file that is known wholly, or of which there is no word
pub held-none : (w : WorldSeen) (files : List KnownFile) (name : List ℕ) → content_in files name ≡ None → content_in (map (held_known w) files) name ≡ None
held-none w files name none = content-held w files name ∙ by_found (find (λ (k : KnownFile). bytes_eq k.name name) files) none
  where
    by_found : (found : Option KnownFile) → option_map (λ (k : KnownFile). k.content) found ≡ None → option_map (λ (k : KnownFile). (held_known w k).content) found ≡ None
    by_found None is = refl
    by_found (Some k) is = absurd (let bad : ⊥ = cc is in bad)

pub held-bytes : (w : WorldSeen) (files : List KnownFile) (name bytes : List ℕ) → content_in files name ≡ Some (Bytes bytes)
    → content_in (map (held_known w) files) name ≡ Some (Bytes bytes)
held-bytes w files name bytes is = content-held w files name ∙ by_found (find (λ (k : KnownFile). bytes_eq k.name name) files) is
  where
    by_found : (found : Option KnownFile) → option_map (λ (k : KnownFile). k.content) found ≡ Some (Bytes bytes)
        → option_map (λ (k : KnownFile). (held_known w k).content) found ≡ Some (Bytes bytes)
    by_found None is = absurd (let bad : ⊥ = cc is in bad)
    by_found (Some k) is =
        let same : k.content ≡ Bytes bytes = cc is in
        ap (λ (content : Content). Some (known_as content (held w k.name))) same

-- ---- what stops it

pub exact-held : (w : WorldSeen) (s : State) (c : Adding) (stopped : Option Stopped) → expects (as_held w s) c ≡ expects s c → IsExact s c stopped
    → StopsExactly (as_held w s) (command.BlockdevAdd c) stopped
exact-held w s c stopped same (inl is) = inl (is ∙ ap (λ (a : Told). a.stopped) (sym same))
exact-held w s c stopped same (inr fails) =
    inr (subst (λ (a : Told). With stopped (Fails s.table (command.BlockdevAdd c) a.stopped)) (sym same) fails)

-- ---- a look at the store

module _ (o : Opening) (s : State) (w : WorldSeen) (shows : ShowsState o s w) (files : List File) (told_files : w.files ≡ Some files) (c : Adding) where
  own : (name : List ℕ) → is_unopened s.table name ≡ false → held w name ≡ bytes_named files name
  own name closed =
      closed-held w name (subst (λ (t : RunTable). is_unopened t name ≡ false) shows.table.table_is closed)
      ∙ ap (λ (f : Option (List File)). told_bytes f name) told_files

  module _ (at : Opens) (opener : OpensAs c at) where
    content-same : is_unopened s.table at.filename ≡ false → content_in (as_held w s).files at.filename ≡ content_in s.files at.filename
    content-same closed = by_held (held w at.filename) refl
      where
        by_held : (found : Option (List ℕ)) → held w at.filename ≡ found → content_in (map (held_known w) s.files) at.filename ≡ content_in s.files at.filename
        by_held None e =
            let none = known-absent (bytes_named o.files) s (contents_of w) shows.contents shows.stands.stands at.filename closed e in
            held-none w s.files at.filename none ∙ sym none
        by_held (Some bytes) e =
            let there = known-there (bytes_named o.files) s (contents_of w) shows.contents shows.stands.stands at.filename closed bytes e in
            held-bytes w s.files at.filename bytes there ∙ sym there

    by-content : OpensAs c at → content_in (as_held w s).files at.filename ≡ content_in s.files at.filename → expects (as_held w s) c ≡ expects s c
    unfolding add_told
    by-content (AsFile e what) same = rw (e, same) refl
    by-content (AsPart raw file e f name what) same = rw (e, f, name, same) refl
    by-content (AsImage image file e f name what) same = rw (e, f, name, same) refl

    pub expects-held : expects (as_held w s) c ≡ expects s c
    expects-held = by_closed (is_unopened s.table at.filename) refl
      where
        by_closed : (b : Bool) → is_unopened s.table at.filename ≡ b → expects (as_held w s) c ≡ expects s c
        by_closed true is = expects-closed (as_held w s) c at opener is ∙ sym (expects-closed s c at opener is)
        by_closed false is = by-content opener (content-same is)

    pub seen-store : (now : StoreInRun) (old : StoreInRun) → old.files ≡ w.files → (out : Option Taken) (image : Option Image) (told : Told)
        → Looks w.table c at old now out image told → IsSeenAs s c told
    seen-store now old same out image told looks =
        seen-looks (bytes_named o.files) s (contents_of w) shows.contents shows.stands.stands c at opener old now files (same ∙ told_files) (own at.filename) out image told
        (subst (λ (t : RunTable). Looks t c at old now out image told) (sym shows.table.table_is) looks)

-- ---- where nothing is looked at

pub expects-nothing : (s : State) (c : Adding) (raw : AddRaw (List ℕ)) (name : List ℕ) → c.driver ≡ added.Raw raw → raw.file ≡ file_ref.Name name → expects s c ≡ told_none
unfolding add_told
expects-nothing s c raw name e f = rw (e, f) refl

pub expects-filter : (s : State) (c : Adding) (child : List ℕ) → c.driver ≡ added.CopyOnRead child → expects s c ≡ told_none
unfolding add_told
expects-filter s c child e = rw e refl

pub expects-unknown : (s : State) (c : Adding) → c.driver ≡ added.Unknown → expects s c ≡ told_none
unfolding add_told
expects-unknown s c e = rw e refl

-- ---- it was carried out so

-- what was seen may be told, by what files hold
pub record IsSeenHeld (s : State) (w : WorldSeen) (c : Adding) (told : Told) : Type 0 where
  pub seen : Told
  pub is_told : IsTold s (command.BlockdevAdd c) seen
  pub exact : StopsExactly (as_held w s) (command.BlockdevAdd c) seen.stopped
  pub same : answer s.table seen (command.BlockdevAdd c) ≡ answer s.table told (command.BlockdevAdd c)

pub held-of : (s : State) (w : WorldSeen) (c : Adding) (told : Told) → expects (as_held w s) c ≡ expects s c → IsSeenAs s c told → IsSeenHeld s w c told
held-of s w c told same is = record {
  seen = is.seen;
  is_told = is.is_told;
  exact = exact-held w s c is.seen.stopped same is.exact;
  same = is.same;
}

pub carried-in : (o : Opening) (s : State) (w v : WorldSeen) (c : Adding) (told : Told) → ShowsState o s w → IsSeenHeld s w c told
    → AllPerformed s (answer w.table told (command.BlockdevAdd c)).changes (contents_of w) (contents_of v) → IsCarriedIn s w v (command.BlockdevAdd c) told
carried-in o s w v c told shows is did = record {
  seen = is.seen;
  is_told = is.is_told;
  exact = is.exact;
  same = subst (λ (t : RunTable). answer t is.seen (command.BlockdevAdd c) ≡ answer t told (command.BlockdevAdd c)) shows.table.table_is is.same;
  performed = did;
}
