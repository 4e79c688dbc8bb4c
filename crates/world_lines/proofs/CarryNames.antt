-- What a refusal says that nothing is found by is a name that was asked for, and has no blank.
use Rattle.std.proofs.Common.{◌≡◌, ℕ, Bool, true, false, List, [], ◌∷◌, ◌++◌, inl, inr, refl, ◌∙◌, ap, Option, Some, None, sym, subst}
use Rattle.std.specs.Prelude.{◌⊎◌, option_map, ◌==◌, not}
use Rattle.std.specs.List.{list_all}
use Rattle.std.proofs.lemmas.List.{append_assoc}
use Rattle.std.proofs.lemmas.Bool.{eqb-true}
use Rattle.qmp_codec.specs.Commands.{Cmd, SeenSources}
use Rattle.qmp_codec.specs.declared.bitmaps.BitmapMerge.{BitmapMerge}
use Rattle.qmp_codec.specs.declared.bitmaps.MergeSource.TheVariants as source
use Rattle.qmp_codec.specs.declared.command.Command.TheVariants as command
use Rattle.qmp_codec.specs.declared.nodes.FileRef.{FileRef}
use Rattle.qmp_codec.specs.declared.nodes.FileRef.TheVariants as file_ref
use Rattle.qmp_codec.specs.declared.nodes.AddRaw.{AddRaw}
use Rattle.qmp_codec.specs.declared.nodes.AddQcow2.{AddQcow2}
use Rattle.qmp_codec.specs.declared.nodes.Added.{Added}
use Rattle.qmp_codec.specs.declared.nodes.Added.TheVariants as added
use Rattle.qmp_codec.specs.declared.nodes.BlockdevAdd.{BlockdevAdd}
use Rattle.qmp_codec.specs.declared.nodes.BlockdevCreate.{BlockdevCreate}
use Rattle.qmp_codec.specs.declared.nodes.Created.{Created}
use Rattle.qmp_codec.specs.declared.nodes.Created.TheVariants as created
use Rattle.qmp_asks.specs.declared.ask.Ask.TheVariants as ask
use Rattle.qmp_rules.specs.declared.change.Change.{Change}
use Rattle.qmp_rules.specs.declared.refusal.Refusal.{Refusal}
use Rattle.qmp_rules.specs.declared.refusal.Refusal.TheVariants as refusal
use Rattle.qmp_asks.specs.declared.look.Look.{Look}
use Rattle.qmp_rules.specs.declared.told.Stopped.{Stopped}
use Rattle.qmp_rules.specs.declared.told.Told.{Told}
use Rattle.qmp_asks.specs.Naming.{is_name, is_name_byte}
use Rattle.qmp_rules.specs.Table.{RunTable}
use Rattle.qmp_rules.specs.Refusals.{refused, or_else}
use Rattle.qmp_asks.specs.Asking.{Asking, place, same_look}
use Rattle.qmp_rules.specs.Asks.{holds, first_unmet_ask, told_at}
use Rattle.qmp_asks.specs.BitmapAsks.{all_source_names, merge_names, merge_rest, source_name, source_node, sources_equal, sources_found, sources_free}
use Rattle.qmp_asks.specs.NodeAsks.{add_asks, create_asks}
use Rattle.qmp_rules.specs.Places.{IsOfTable}
use Rattle.qmp_asks.specs.CommandAsks.{asks_of, is_built, command_name, negotiates}
use Rattle.qmp_rules.specs.Edits.{edits_of, node_ids}
use Rattle.blk_graph.specs.declared.edge.Conflict.{Conflict}
use Rattle.blk_graph.specs.Rule.{first_conflict}
use Rattle.qmp_rules.specs.Changes.{all_changed}
use Rattle.qmp_rules.specs.Answers.{unbuilt, out_of_turn, refusal_to, refusal_behind, conflict_after, conflict_in, conflict_refusal, rewires, told_none}
use Rattle.qmp_rules.proofs.PlaceLemmas.{has_place}
use Rattle.world_parts.specs.Carrying.{StopsByFiles, IsOfFiles}
use Rattle.world_lines.proofs.CarryWords.{is_word, and-both}
use Rattle.world_parts.proofs.Accepted.{either-of}

-- ---- names have no blank

named-byte : (c : ℕ) → is_name_byte c ≡ true → not (c == 32) ≡ true
named-byte c is = at (c == 32) refl
  where
    at : (b : Bool) → (c == 32) ≡ b → not b ≡ true
    at true h = absurd (let same : c ≡ 32 = eqb-true c 32 h in let bad : is_name_byte 32 ≡ true = rw same at is in let no : ⊥ = cc bad in no)
    at false h = refl

named-bytes : (name : List ℕ) → list_all is_name_byte name ≡ true → is_word name ≡ true
named-bytes [] is = refl
named-bytes (c ∷ name) is =
    let parts = and-both (is_name_byte c) (list_all is_name_byte name) is in
    rw (named-byte c parts.0) (named-bytes name parts.1)

name-word : (name : List ℕ) → is_name name ≡ true → is_word name ≡ true
name-word name is = named-bytes name (and-both _ _ (and-both _ _ is).1).1

-- ---- what a list of asks names, and what it looks for

abbrev named_of : Asking → List (Option (List ℕ))
named_of (ask.Named member text) = text ∷ []
named_of _ = []

abbrev finds_of : Asking → List (Option (List ℕ))
finds_of (ask.Found text) = text ∷ []
finds_of (ask.Kept id) = Some id ∷ []
finds_of (ask.DeviceFound id) = Some id ∷ []
finds_of (ask.BitmapFound node text) = text ∷ []
finds_of _ = []

abbrev IsAmong : Option (List ℕ) → List (Option (List ℕ)) → Type 0
IsAmong text [] = ⊥
IsAmong text (other ∷ known) = (text ≡ other) ⊎ IsAmong text known

abbrev AreAmong : List (Option (List ℕ)) → List (Option (List ℕ)) → Type 0
AreAmong [] known = Unit {0}
AreAmong (text ∷ texts) known = IsAmong text known × AreAmong texts known

-- what is looked for was named before
abbrev FoundIn : List (Option (List ℕ)) → List (Option (List ℕ)) → Type 0 → Type 0
FoundIn [] known Rest = Rest
FoundIn (text ∷ texts) known Rest = IsAmong text known × FoundIn texts known Rest

abbrev Covered : List (Option (List ℕ)) → List Asking → Type 0
Covered known [] = Unit {0}
Covered known (a ∷ asks) = FoundIn (finds_of a) known (Covered (named_of a ++ known) asks)

found-parts : (texts known : List (Option (List ℕ))) (Rest : Type 0) → FoundIn texts known Rest → AreAmong texts known × Rest
found-parts [] known Rest is = (tt, is)
found-parts (text ∷ texts) known Rest is = let parts = found-parts texts known Rest is.1 in ((is.0, parts.0), parts.1)

abbrev IsWordIf : Option (List ℕ) → Type 0
IsWordIf None = Unit {0}
IsWordIf (Some name) = is_word name ≡ true

abbrev AreWords : List (Option (List ℕ)) → Type 0
AreWords [] = Unit {0}
AreWords (text ∷ known) = IsWordIf text × AreWords known

among : (text : Option (List ℕ)) (known : List (Option (List ℕ))) → AreWords known → IsAmong text known → IsWordIf text
among text [] are is = absurd is
among text (other ∷ known) are (inl same) = rw same are.0
among text (other ∷ known) are (inr later) = among text known are.1 later

module _ (t : RunTable) (told : Told) (of_files : StopsByFiles told.stopped) (name : List ℕ) (is_device : Bool) where
  not-of-files : (what : Look) (stopped : Option Stopped) → StopsByFiles stopped → told_at what stopped ≡ Some (refusal.NotFound name is_device) → ⊥
  not-of-files what None files is = let bad : ⊥ = cc is in bad
  not-of-files what (Some stopped) files is = at (same_look what stopped.look) is
    where
      at : (b : Bool) → refused b stopped.refusal ≡ Some (refusal.NotFound name is_device) → ⊥
      at false none = let bad : ⊥ = cc none in bad
      at true same =
          let is_so : stopped.refusal ≡ refusal.NotFound name is_device = cc same in
          let bad : IsOfFiles (refusal.NotFound name is_device) = rw is_so at files in bad

  refused-name : (b : Bool) (other : List ℕ) (flag : Bool) → refused b (refusal.NotFound other flag) ≡ Some (refusal.NotFound name is_device) → other ≡ name
  refused-name false other flag is = absurd cc
  refused-name true other flag is = cc

  elsewhere : (a : Asking) → IsOfTable a → (place a == 9) ≡ false → holds t told a ≡ Some (refusal.NotFound name is_device) → ⊥
  elsewhere a table other is =
      let placed : Some 9 ≡ Some (place a) = has_place t told a table (refusal.NotFound name is_device) is in
      let same : 9 ≡ place a = cc placed in
      let bad : ⊥ = cc (rw (← same) at other) in bad

  one : (a : Asking) (known : List (Option (List ℕ))) → AreWords known → AreAmong (finds_of a) known
      → holds t told a ≡ Some (refusal.NotFound name is_device) → is_word name ≡ true
  unfolding holds
  one (ask.Files what) known words found is = absurd (not-of-files what told.stopped of_files is)
  one (ask.Found None) known words found is = absurd cc
  one (ask.Found (Some other)) known words found is = rw (← refused-name _ other false is) (among (Some other) known words found.0)
  one (ask.Kept id) known words found is = rw (← refused-name _ id false is) (among (Some id) known words found.0)
  one (ask.DeviceFound id) known words found is = rw (← refused-name _ id true is) (among (Some id) known words found.0)
  one (ask.BitmapFound node None) known words found is = absurd cc
  one (ask.BitmapFound node (Some other)) known words found is = rw (← refused-name _ other false is) (among (Some other) known words found.0)
  one a known words found is = absurd (elsewhere a tt refl is)

  named-words : (a : Asking) (known : List (Option (List ℕ))) → AreWords known → holds t told a ≡ None → AreWords (named_of a ++ known)
  unfolding holds
  named-words (ask.Named member None) known words none = (tt, words)
  named-words (ask.Named member (Some text)) known words none = (name-word text (not-false-name (is_name text) none), words)
    where
      not-false-name : (b : Bool) → refused (not b) (refusal.BadName member) ≡ None → b ≡ true
      not-false-name true h = refl
      not-false-name false h = absurd cc
  named-words a known words none = words

  pub asked-word : (asks : List Asking) (known : List (Option (List ℕ))) → AreWords known → Covered known asks
      → first_unmet_ask t told asks ≡ Some (refusal.NotFound name is_device) → is_word name ≡ true
  asked-word [] known words covered is = absurd cc
  asked-word (a ∷ asks) known words covered is =
      let parts = found-parts (finds_of a) known (Covered (named_of a ++ known) asks) covered in
      at (holds t told a) refl parts.0 (λ none. asked-word asks (named_of a ++ known) (named-words a known words none) parts.1) is
    where
      at : (found : Option Refusal) → holds t told a ≡ found → AreAmong (finds_of a) known
          → (holds t told a ≡ None → first_unmet_ask t told asks ≡ Some (refusal.NotFound name is_device) → is_word name ≡ true)
          → or_else found (first_unmet_ask t told asks) ≡ Some (refusal.NotFound name is_device) → is_word name ≡ true
      at None none found later now = later none now
      at (Some cause) some found later now =
          let same : cause ≡ refusal.NotFound name is_device = cc now in
          one a known words found (some ∙ ap Some same)

-- ---- each command names what it looks for

raw-covered : (c : BlockdevAdd (List ℕ)) (raw : AddRaw (List ℕ)) (file : FileRef (List ℕ)) → c.driver ≡ added.Raw raw → raw.file ≡ file → Covered [] (add_asks c)
raw-covered c raw (file_ref.Name file) driver is = rw (driver, is) (inl refl, tt)
raw-covered c raw (file_ref.Inline file) driver is = rw (driver, is) tt

qcow2-covered : (c : BlockdevAdd (List ℕ)) (image : AddQcow2 (List ℕ)) (file : FileRef (List ℕ)) → c.driver ≡ added.Qcow2 image → image.file ≡ file → Covered [] (add_asks c)
qcow2-covered c image (file_ref.Name file) driver is = rw (driver, is) (inr (inl refl), (inl refl, tt))
qcow2-covered c image (file_ref.Inline file) driver is = rw (driver, is) (inl refl, tt)

add-covered : (c : BlockdevAdd (List ℕ)) (driver : Added (List ℕ)) → c.driver ≡ driver → Covered [] (add_asks c)
add-covered c (added.File name) is = rw is tt
add-covered c (added.Raw raw) is = raw-covered c raw raw.file is refl
add-covered c (added.Qcow2 image) is = qcow2-covered c image image.file is refl
add-covered c (added.CopyOnRead file) is = rw is (inl refl, tt)
add-covered c added.Unknown is = rw is tt

create-covered : (c : BlockdevCreate (List ℕ)) (options : Created (List ℕ)) → c.options ≡ options → Covered [] (create_asks c)
create-covered c (created.File o) is = rw is tt
create-covered c (created.Qcow2 o) is = rw is (inl refl, tt)
create-covered c created.Unknown is = rw is tt

-- a merge names each source first, then looks for each
abbrev known_after : List (Option (List ℕ)) → SeenSources → List (Option (List ℕ))
known_after known [] = known
known_after known (source.Name name ∷ sources) = known_after (Some name ∷ known) sources
known_after known (source.Of bitmap ∷ sources) = known_after (Some bitmap.name ∷ Some bitmap.node ∷ known) sources

abbrev AreSourcesAmong : List ℕ → SeenSources → List (Option (List ℕ)) → Type 0
AreSourcesAmong node [] known = Unit {0}
AreSourcesAmong node (s ∷ sources) known =
    IsAmong (Some (source_node node s)) known × (IsAmong (Some (source_name s)) known × AreSourcesAmong node sources known)

among-after : (text : Option (List ℕ)) (sources : SeenSources) (known : List (Option (List ℕ))) → IsAmong text known → IsAmong text (known_after known sources)
among-after text [] known is = is
among-after text (source.Name name ∷ sources) known is = among-after text sources (Some name ∷ known) (inr is)
among-after text (source.Of bitmap ∷ sources) known is = among-after text sources (Some bitmap.name ∷ Some bitmap.node ∷ known) (inr (inr is))

sources-among : (node : List ℕ) (sources : SeenSources) (known : List (Option (List ℕ))) → IsAmong (Some node) known
    → AreSourcesAmong node sources (known_after known sources)
sources-among node [] known is = tt
sources-among node (source.Name name ∷ sources) known is = (
  among-after (Some node) sources (Some name ∷ known) (inr is),
  (
    among-after (Some name) sources (Some name ∷ known) (inl refl),
    sources-among node sources (Some name ∷ known) (inr is),
  ),
)
sources-among node (source.Of bitmap ∷ sources) known is =
    let now : List (Option (List ℕ)) = Some bitmap.name ∷ Some bitmap.node ∷ known in (
      among-after (Some bitmap.node) sources now (inr (inl refl)),
      (
        among-after (Some bitmap.name) sources now (inl refl),
        sources-among node sources now (inr (inr is)),
      ),
    )

named-covered : (sources : SeenSources) (known : List (Option (List ℕ))) (rest : List Asking) → Covered (known_after known sources) rest
    → Covered known (all_source_names sources ++ rest)
named-covered [] known rest is = is
named-covered (source.Name name ∷ sources) known rest is = named-covered sources (Some name ∷ known) rest is
named-covered (source.Of bitmap ∷ sources) known rest is = named-covered sources (Some bitmap.name ∷ Some bitmap.node ∷ known) rest is

looked-covered : (node : List ℕ) (sources : SeenSources) (known : List (Option (List ℕ))) (rest : List Asking) → AreSourcesAmong node sources known
    → Covered known rest → Covered known (sources_found node sources ++ rest)
looked-covered node [] known rest among is = is
looked-covered node (s ∷ sources) known rest among is = (among.0, (among.1.0, looked-covered node sources known rest among.1.1 is))

free-covered : (node : List ℕ) (sources : SeenSources) (known : List (Option (List ℕ))) (rest : List Asking)
    → Covered known rest → Covered known (sources_free node sources ++ rest)
free-covered node [] known rest is = is
free-covered node (s ∷ sources) known rest is = free-covered node sources known rest is

equal-covered : (node : List ℕ) (sources : SeenSources) (known : List (Option (List ℕ))) → Covered known (sources_equal node sources)
equal-covered node [] known = tt
equal-covered node (s ∷ sources) known = equal-covered node sources known

merge-covered : (c : BitmapMerge (List ℕ) SeenSources) → Covered [] (merge_names c ++ merge_rest c)
merge-covered c =
    let known : List (Option (List ℕ)) = Some c.target ∷ Some c.node ∷ [] in
    let after : List (Option (List ℕ)) = known_after known c.bitmaps in
    let free : List Asking = ask.BitmapFree c.node (Some c.target) ∷ sources_free c.node c.bitmaps in
    named-covered c.bitmaps known (merge_rest c) (
      among-after (Some c.node) c.bitmaps known (inr (inl refl)),
      (
        among-after (Some c.target) c.bitmaps known (inl refl),
        subst (Covered after) (sym (append_assoc (sources_found c.node c.bitmaps) free (sources_equal c.node c.bitmaps)))
            (looked-covered c.node c.bitmaps after (free ++ sources_equal c.node c.bitmaps) (sources-among c.node c.bitmaps known (inr (inl refl)))
            (free-covered c.node c.bitmaps after (sources_equal c.node c.bitmaps) (equal-covered c.node c.bitmaps after))),
      ),
    )

covered : (c : Cmd) → is_built c ≡ true → Covered [] (asks_of c)
unfolding asks_of
covered (command.Capabilities enable) built = tt
covered (command.BlockdevCreate c) built = create-covered c c.options refl
covered (command.JobDismiss id) built = (inl refl, tt)
covered (command.BlockdevAdd c) built = add-covered c c.driver refl
covered (command.BlockdevDel name) built = (inl refl, tt)
covered (command.DeviceAdd c) built = (inl refl, tt)
covered (command.DeviceDel id) built = (inl refl, tt)
covered (command.BlockdevSnapshot c) built = (inr (inl refl), (inl refl, tt))
covered (command.BlockdevBackup c) built = (inr (inr (inl refl)), (inr (inl refl), (inl refl, tt)))
covered (command.BlockdevMirror c) built = (inr (inl refl), (inl refl, tt))
covered (command.BlockJobCancel job force) built = tt
covered (command.BlockJobComplete job) built = tt
covered command.QueryBlockJobs built = tt
covered (command.QueryNamedBlockNodes flat) built = tt
covered (command.BitmapAdd c) built = (inr (inl refl), tt)
covered (command.BitmapRemove c) built = (inr (inl refl), (inl refl, tt))
covered (command.BitmapClear c) built = (inr (inl refl), (inl refl, tt))
covered (command.BitmapEnable c) built = (inr (inl refl), (inl refl, tt))
covered (command.BitmapDisable c) built = (inr (inl refl), (inl refl, tt))
covered (command.BitmapMerge c) built = merge-covered c
covered _ built = absurd cc

-- ---- the whole command

not-conflict : (t : RunTable) (on : Bool) (changes : List Change) (name : List ℕ) (is_device : Bool) → conflict_after on t changes ≡ Some (refusal.NotFound name is_device) → ⊥
unfolding conflict_in
not-conflict t false changes name is_device is = let bad : ⊥ = cc is in bad
not-conflict t true changes name is_device is = at (first_conflict (node_ids (all_changed t changes)) (all_changed t changes).edges) is
  where
    at : (pair : Option Conflict) → option_map (conflict_refusal (all_changed t changes)) pair ≡ Some (refusal.NotFound name is_device) → ⊥
    at None h = let bad : ⊥ = cc h in bad
    at (Some pair) h = let bad : ⊥ = cc h in bad

unbuilt-is : (c : Cmd) (name : List ℕ) (is_device : Bool) → unbuilt c ≡ Some (refusal.NotFound name is_device) → ⊥
unbuilt-is c name is_device is = at (is_built c) is
  where
    at : (b : Bool) → refused (not b) (refusal.UnknownCommand (command_name c)) ≡ Some (refusal.NotFound name is_device) → ⊥
    at true h = let bad : ⊥ = cc h in bad
    at false h = let bad : ⊥ = cc h in bad

built-unless : (c : Cmd) (rest : Option Refusal) (cause : Refusal) → or_else (unbuilt c) rest ≡ Some cause → (is_built c ≡ true) ⊎ (unbuilt c ≡ Some cause)
built-unless c rest cause is = at (is_built c) refl is
  where
    at : (b : Bool) → is_built c ≡ b → or_else (refused (not b) (refusal.UnknownCommand (command_name c))) rest ≡ Some cause
        → (is_built c ≡ true) ⊎ (unbuilt c ≡ Some cause)
    at true known h = inl known
    at false known h = inr (rw known h)

turn-is : (a b : Bool) (name : List ℕ) (is_device : Bool) → out_of_turn a b ≡ Some (refusal.NotFound name is_device) → ⊥
turn-is true true name is_device is = let bad : ⊥ = cc is in bad
turn-is true false name is_device is = let bad : ⊥ = cc is in bad
turn-is false true name is_device is = let bad : ⊥ = cc is in bad
turn-is false false name is_device is = let bad : ⊥ = cc is in bad

behind-is : (t : RunTable) (told : Told) (c : Cmd) (name : List ℕ) (is_device : Bool) → is_built c ≡ true → refusal_behind t told c ≡ Some (refusal.NotFound name is_device) → ⊥
behind-is t told (command.Transaction c) name is_device built is = let bad : ⊥ = cc built in bad
behind-is t told c name is_device built is = not-conflict t (rewires c) (edits_of t told_none c) name is_device is

pub not_found_word : (t : RunTable) (told : Told) (c : Cmd) (name : List ℕ) (is_device : Bool) → StopsByFiles told.stopped
    → refusal_to t told c ≡ Some (refusal.NotFound name is_device) → is_word name ≡ true
unfolding refusal_to
not_found_word t told c name is_device files is = elim (built-unless c _ _ is) [
  | inr bad ↦ absurd (unbuilt-is c name is_device bad)
  | inl built ↦ elim (either-of (unbuilt c) _ _ is) [
    | inl bad ↦ absurd (unbuilt-is c name is_device bad)
    | inr in_turn ↦ elim (either-of (out_of_turn (negotiates c) t.negotiated) _ _ in_turn) [
      | inl bad ↦ absurd (turn-is (negotiates c) t.negotiated name is_device bad)
      | inr asked ↦ elim (either-of (first_unmet_ask t told (asks_of c)) _ _ asked) [
        | inl found ↦ asked-word t told files name is_device (asks_of c) [] tt (covered c built) found
        | inr behind ↦ absurd (behind-is t told c name is_device built behind)
      ]
    ]
  ]
]
