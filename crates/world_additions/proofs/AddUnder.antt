-- What was seen of the image in a `file` node is what its file holds.
use Rattle.std.proofs.Common.{◌≡◌, ◌≢◌, ◌⊎◌, ℕ, ◌<◌, ◌≤◌, ◌==◌, Bool, true, false, cond, eq-eqb, List, [], ◌∷◌, ◌++◌, length, map, inl, inr, refl, sym, ◌∙◌, ap, subst, Option, Some, None}
use Rattle.std.specs.Prelude.{Contains, IsSome, codes, bytes_eq, find, is_some, is_none, nat_lt, option_map, option_and_then, unwrap_or}
use Rattle.std.proofs.lemmas.Bool.{cases_lt, false≢true, le-ltb, lt-ltb}
use Rattle.blk_base.specs.declared.fault.FaultFrom.TheVariants.{Dev}
use Rattle.blk_base.specs.declared.file.File.{File}
use Rattle.blk_graph.specs.declared.edge.Edge.{Edge}
use Rattle.blk_graph.specs.declared.kind.Kind.TheVariants as kinds
use Rattle.blk_graph.proofs.Members.{Contains-nil, find-Some}
use Rattle.blk_graph.proofs.RuleLemmas.{find-None}
use Rattle.q2_format.specs.Created.{Creation, IsCreated, created_header, creation_of}
use Rattle.q2_format.specs.Header.{header_of}
use Rattle.q2_format.specs.Sizes.{clusters_for}
use Rattle.q2_format.specs.Sound.{image_refusal}
use Rattle.q2_format.specs.declared.header.Header.{Header}
use Rattle.q2_format.proofs.CreatedSound.{created_is_sound}
use Rattle.q2_image.specs.Image.{Known as Image, IsImageOf}
use Rattle.q2_image.specs.Opening.{Names}
use Rattle.q2_image.specs.declared.stop.ImageStop.{ImageStop}
use Rattle.q2_image.specs.declared.stop.ImageStop.TheVariants as stop
use Rattle.qmp_codec.specs.Commands.{Cmd}
use Rattle.qmp_codec.specs.declared.command.Command.TheVariants as command
use Rattle.qmp_codec.specs.declared.nodes.AddQcow2.{AddQcow2}
use Rattle.qmp_codec.specs.declared.nodes.Added.TheVariants as added
use Rattle.qmp_codec.specs.declared.nodes.FileRef.TheVariants as file_ref
use Rattle.qmp_rules.specs.declared.refusal.Refusal.{Refusal}
use Rattle.qmp_rules.specs.declared.refusal.Refusal.TheVariants as refusal
use Rattle.qmp_rules.specs.declared.rows.FileState.{FileState}
use Rattle.qmp_rules.specs.declared.rows.FileState.TheVariants.{Made, Formatted, Used}
use Rattle.qmp_rules.specs.declared.rows.NodeRecord.{NodeRecord}
use Rattle.qmp_asks.specs.declared.look.Look.{Look}
use Rattle.qmp_asks.specs.declared.look.Look.TheVariants as look
use Rattle.qmp_rules.specs.declared.told.Stopped.{Stopped}
use Rattle.qmp_rules.specs.declared.told.Told.{Told}
use Rattle.qmp_rules.specs.Answers.{out_of_turn, refusal_to, told_none}
use Rattle.qmp_asks.specs.Asking.{Asking}
use Rattle.qmp_rules.specs.Asks.{file_node, first_unmet_ask, holds, if_there, is_file, is_lost, lost, name_of_file}
use Rattle.qmp_rules.specs.Refusals.{or_else, refused}
use Rattle.qmp_asks.specs.declared.ask.Ask.TheVariants as ask
use Rattle.qmp_asks.specs.declared.ask.Drivers.TheVariants as drivers
use Rattle.qmp_rules.specs.Looks.{FileSight, ImageSight, add_told, unfit_image, image_told, is_free_file, told_record}
use Rattle.qmp_asks.specs.NodeAsks.{add_asks, added_names, added_values, backing_name, is_added, option_values}
use Rattle.qmp_rules.specs.Table.{RunTable, file_state, first_into, node_named}
use Rattle.blk_history.specs.Fold.{With}
use Rattle.flat_machine.specs.Agreement.{IsBlank}
use Rattle.flat_machine.specs.Marking.{dirty_bytes}
use Rattle.flat_machine.specs.Sights.{Fails, IsTold, MayStop, blank_stop, file_of_ref, image_sight, sight_of, stop_for, too_large}
use Rattle.flat_machine.specs.Standing.{IsOfState}
use Rattle.flat_machine.specs.State.{State, KnownFile, Content, Bytes, Blank, Unknown, content_in}
use Rattle.flat_machine.specs.Wiring.{IsUnder, StandsFor, TableStands}
use Rattle.flat_machine.specs.declared.opening.Opening.{Opening}
use Rattle.flat_machine.proofs.Accepted.{is_protocol}
use Rattle.flat_machine.proofs.Asked.{NoneHolds, none-behind}
use Rattle.flat_machine.proofs.Finds.{same-bytes_eq}
use Rattle.blk_nodes.specs.Nodes.{Nodes, DeviceSeen, device_in, is_device_of}
use Rattle.world_parts.specs.Adding.{Adding, IsFreeFile, LooksUnder, opened_sight, probe, unopened}
use Rattle.world_parts.specs.Carrying.{StopsExactly, as_held, held_known, known_as}
use Rattle.world_parts.specs.Coherent.{IsCoherent, DevicesTell}
use Rattle.world_parts.specs.Comes.{ShowsState}
use Rattle.world_parts.specs.Face.{WorldSeen, held, held_in_file, node_over}
use Rattle.world_additions.proofs.AddBlank.{header-is, image-large}
use Rattle.world_additions.proofs.AddDid.{over-one}
use Rattle.world_additions.proofs.AddExact.{IsSeenHeld, held-none}
use Rattle.world_additions.proofs.AddLooks.{AreThere, IsBehind, behind-inside, is-io, named-stop, not-io, reach-image, sight-open, there-inside}
use Rattle.world_additions.proofs.AddRefused.{answer-dirty, answer-refused, broken, has-named, looks-named, refusal-is, refusal-told, silent-named, stop-refused, unreached-refused}
use Rattle.world_additions.proofs.AddSights.{expects}
use Rattle.world_additions.proofs.AddTold.{has_look, passed_part, reached, stop-refuses}

-- ---- what may be told, by what stops it

module _ (s : State) (w : WorldSeen) (c : Adding) where
  abbrev cmd : Cmd
  cmd = command.BlockdevAdd c

  -- what is told where no call fails, by what files hold
  abbrev whole : Told
  whole = expects (as_held w s) c

  abbrev dirty : List ℕ
  dirty = map dirty_bytes s.dirty

  record MayBeTold (stopped : Option Stopped) : Type 0 where
    may : MayStop s cmd (expects s c).stopped stopped
    exact : StopsExactly (as_held w s) cmd stopped

  is-told : (told : Told) → told.mapped ≡ [] → told.length ≡ (expects s c).length → told.size ≡ (expects s c).size → MayBeTold told.stopped → IsTold s cmd (record told { dirty = dirty })
  is-told told mapped length size may = record {
    file = length;
    image = size;
    refusal = may.may;
    clusters = λ name node there at. absurd (Contains-nil name there);
    bitmaps = refl;
  }

  -- all was told
  seen-told : (told : Told) → told.mapped ≡ [] → told.length ≡ (expects s c).length → told.size ≡ (expects s c).size → MayBeTold told.stopped → IsSeenHeld s w c told
  seen-told told mapped length size may = record {
    seen = record told { dirty = dirty };
    is_told = is-told told mapped length size may;
    exact = may.exact;
    same = answer-dirty s.table told dirty c;
  }

  -- something stopped it
  seen-stopped : (told : Told) (what : Look) (cause : Refusal) → told.mapped ≡ [] → told.stopped ≡ Some (record { look = what; refusal = cause }) → has_look what (add_asks c) ≡ true
      → MayBeTold told.stopped → IsSeenHeld s w c told
  seen-stopped told what cause mapped stops has may =
      let mine : Told = record told { length = (expects s c).length; size = (expects s c).size } in
      record {
        seen = record mine { dirty = dirty };
        is_told = is-told mine mapped refl refl may;
        exact = may.exact;
        same = answer-refused s.table (record mine { dirty = dirty }) told c (refusal-told s.table told (expects s c).length (expects s c).size dirty c)
            (stop-refused s.table told what cause c stops has);
      }

  -- a refusal stands before the look
  seen-past : (told : Told) (what : Look) → told.mapped ≡ [] → ((any : Told) → refusal_to s.table any cmd ≡ refusal_to s.table (probe what) cmd) → refusal_to s.table (probe what) cmd ≢ None
      → MayBeTold whole.stopped → IsSeenHeld s w c told
  seen-past told what mapped all some may =
      let mine : Told = record told { length = (expects s c).length; size = (expects s c).size; stopped = whole.stopped } in
      record {
        seen = record mine { dirty = dirty };
        is_told = is-told mine mapped refl refl may;
        exact = may.exact;
        same = answer-refused s.table (record mine { dirty = dirty }) told c (all (record mine { dirty = dirty }) ∙ sym (all told)) (λ none. some (sym (all told) ∙ none));
      }

-- ---- a created image, by its bytes

some-mapped : {A B : Type 0} (f : A → B) (o : Option A) → is_some (option_map f o) ≡ is_some o
some-mapped f None = refl
some-mapped f (Some x) = refl

module _ (new : Creation) (len : Option ℕ) (bytes : List ℕ) (blank : IsBlank new len bytes) where
  as-made : IsCreated (creation_of new.size new.name new.format) bytes
  as-made = subst (λ (n : Creation). IsCreated n bytes) blank.shape blank.created

  header-made : header_of bytes ≡ created_header (creation_of new.size new.name new.format)
  header-made = header-is bytes new.size new.name new.format blank.can as-made

  size-made : (header_of bytes).size ≡ new.size
  size-made = ap (λ (h : Header). h.size) header-made

  name-made : is_some (header_of bytes).name ≡ is_some new.name
  name-made = ap (λ (h : Header). is_some h.name) header-made ∙ some-mapped _ new.name

  -- as long as its length says, or so long that it is too large
  stop-made : (option_map stop_for (image_refusal bytes) ≡ blank_stop len) ⊎ ((len ≡ None) × (option_map stop_for (image_refusal bytes) ≡ Some too_large))
  stop-made = elim (cases_lt 8388608 (clusters_for 65536 (length bytes))) [
    | inl large ↦
        let why : option_map stop_for (image_refusal bytes) ≡ Some too_large =
        ap (option_map stop_for) (image-large bytes new.size new.name new.format blank.can as-made large) in
        by-large len refl why large
    | inr small ↦
        let none : option_map stop_for (image_refusal bytes) ≡ None =
        ap (option_map stop_for) (created_is_sound bytes new.size new.name new.format blank.can as-made small) in
        by-small len refl none small
  ]
    where
      by-large : (known : Option ℕ) → len ≡ known → option_map stop_for (image_refusal bytes) ≡ Some too_large → 8388608 < clusters_for 65536 (length bytes)
          → (option_map stop_for (image_refusal bytes) ≡ blank_stop known) ⊎ ((known ≡ None) × (option_map stop_for (image_refusal bytes) ≡ Some too_large))
      by-large None is why large = inr (refl, why)
      by-large (Some n) is why large =
          let same : length bytes ≡ n = blank.length_is n is in
          let over : nat_lt 8388608 (clusters_for 65536 n) ≡ true = lt-ltb 8388608 (clusters_for 65536 n) (subst (λ (m : ℕ). 8388608 < clusters_for 65536 m) same large) in
          inl (why ∙ sym (ap (λ (b : Bool). cond b (Some too_large) None) over))

      by-small : (known : Option ℕ) → len ≡ known → option_map stop_for (image_refusal bytes) ≡ None → clusters_for 65536 (length bytes) ≤ 8388608
          → (option_map stop_for (image_refusal bytes) ≡ blank_stop known) ⊎ ((known ≡ None) × (option_map stop_for (image_refusal bytes) ≡ Some too_large))
      by-small None is none small = inl none
      by-small (Some n) is none small =
          let same : length bytes ≡ n = blank.length_is n is in
          let over : nat_lt 8388608 (clusters_for 65536 n) ≡ false = le-ltb 8388608 (clusters_for 65536 n) (subst (λ (m : ℕ). clusters_for 65536 m ≤ 8388608) same small) in
          inl (none ∙ sym (ap (λ (b : Bool). cond b (Some too_large) None) over))

-- ---- what is known of a file, by its bytes

held-content : (w : WorldSeen) (files : List KnownFile) (file : List ℕ) (content : Content) → content_in files file ≡ Some content
    → content_in (map (held_known w) files) file ≡ Some (known_as content (held w file))
held-content w [] file content is = absurd (let bad : ⊥ = cc is in bad)
held-content w (k ∷ files) file content is = by_test (bytes_eq k.name file) refl is (held-content w files file content)
  where
    by_test : (b : Bool) → bytes_eq k.name file ≡ b
        → option_map (λ (known : KnownFile). known.content) (cond b (Some k) (find (λ (known : KnownFile). bytes_eq known.name file) files)) ≡ Some content
        → (content_in files file ≡ Some content → content_in (map (held_known w) files) file ≡ Some (known_as content (held w file)))
        → option_map (λ (known : KnownFile). known.content) (cond b (Some (held_known w k)) (find (λ (known : KnownFile). bytes_eq known.name file) (map (held_known w) files)))
        ≡ Some (known_as content (held w file))
    by_test true same here rest =
        let equal : k.content ≡ content = cc here in
        ap (λ (n : List ℕ). Some (known_as k.content (held w n))) (same-bytes_eq k.name file same) ∙ ap (λ (x : Content). Some (known_as x (held w file))) equal
    by_test false same here rest = rest here

some-content : (content : Option (List ℕ)) → is_some content ≡ true → (bytes : List ℕ) × (content ≡ Some bytes)
some-content None some = absurd (false≢true some)
some-content (Some bytes) some = (bytes, refl)

some-name : (found : Option (List ℕ)) → IsSome found → (name : List ℕ) × (found ≡ Some name)
some-name None some = absurd (false≢true some)
some-name (Some name) some = (name, refl)

-- ---- a free `file` node

record IsFree (t : RunTable) (name : List ℕ) (node : ℕ) : Type 0 where
  row : NodeRecord
  named : node_named t name ≡ Some row
  file_row : file_node t name ≡ Some row
  id_is : row.id ≡ node
  free : is_free_file t name ≡ true
  there : Contains t.nodes row
  file : List ℕ
  filename : row.filename ≡ Some file
  alone : (edge : Edge) → Contains t.edges edge → edge.child ≡ row.id → ⊥

free-of : (t : RunTable) → TableStands t → (name : List ℕ) (node : ℕ) → IsFreeFile t name node → IsFree t name node
free-of t stands name node is =
    let found = by_found (node_named t name) refl is.named in
    let kind : is.row.kind ≡ kinds.Protocol = is_protocol is.row.kind found.1 in
    let there = (find-Some (λ (r : NodeRecord). bytes_eq r.name name) t.nodes is.row found.0).0 in
    let file = some-name is.row.filename (stands.names is.row there kind) in
    let none : is_none (first_into is.row.id t.edges) ≡ true =
    sym (ap (λ (r : Option NodeRecord). elim r as (λ _. Bool) [ None ↦ false | Some x ↦ is_none (first_into x.id t.edges) ]) is.named) ∙ is.free in
    record {
      row = is.row;
      named = found.0;
      file_row = is.named;
      id_is = is.is;
      free = is.free;
      there = there;
      file = file.0;
      filename = file.1;
      alone = λ edge held to. by_first (first_into is.row.id t.edges) refl none edge held to;
    }
  where
    by_found : (found : Option NodeRecord) → node_named t name ≡ found → option_and_then (λ (row : NodeRecord). cond (is_file row) (Some row) None) found ≡ Some is.row
        → (node_named t name ≡ Some is.row) × (is_file is.row ≡ true)
    by_found None at bad = absurd (let x : ⊥ = cc bad in x)
    by_found (Some row) at passes = by_kind (is_file row) refl passes
      where
        by_kind : (b : Bool) → is_file row ≡ b → cond b (Some row) None ≡ Some is.row → (node_named t name ≡ Some is.row) × (is_file is.row ≡ true)
        by_kind true kind same = let equal : row ≡ is.row = cc same in (at ∙ ap (λ (r : NodeRecord). Some r) equal, ap is_file (sym equal) ∙ kind)
        by_kind false kind same = absurd (let x : ⊥ = cc same in x)

    by_first : (found : Option Edge) → first_into is.row.id t.edges ≡ found → is_none found ≡ true → (edge : Edge) → Contains t.edges edge → edge.child ≡ is.row.id → ⊥
    by_first None at none edge held to =
        let past : (edge.child == is.row.id) ≡ false = find-None (λ (x : Edge). x.child == is.row.id) t.edges at edge held in
        false≢true (sym past ∙ eq-eqb edge.child is.row.id to)
    by_first (Some other) at none edge held to = false≢true none

-- ---- what is seen

module _ (o : Opening) (s : State) (w : WorldSeen) (shows : ShowsState o s w) (coherent : IsCoherent w.table w.nodes w.opened w.progress) (tell : DevicesTell w.files w.nodes.devices)
    (files : List File) (told_files : w.files ≡ Some files) (c : Adding) (q : AddQcow2 (List ℕ)) (name : List ℕ) (e : c.driver ≡ added.Qcow2 q) (f : q.file ≡ file_ref.Name name) where
  abbrev sight : State → Option FileSight
  sight st = option_map sight_of (option_and_then (content_in st.files) (file_of_ref st.table (file_ref.Name name)))

  expects-at : (st : State) → expects st c ≡ image_told st.table c.node_name name q (sight st)
  unfolding add_told
  expects-at st = rw (e, f) refl

  abbrev told-of : ImageSight → Told
  told-of image = told_record None (Some image.size) (unfit_image s.table c.node_name q image)

  -- where the node has a parent
  not-free : (st : State) → st.table ≡ s.table → is_free_file s.table name ≡ false → expects st c ≡ told_none
  not-free st same closed =
      expects-at st ∙ ap (λ (t : RunTable). image_told t c.node_name name q (sight st)) same ∙ by_sight (sight st)
    where
      by_sight : (found : Option FileSight) → image_told s.table c.node_name name q found ≡ told_none
      by_sight None = refl
      by_sight (Some x) = rw closed refl

  quiet-stop : MayBeTold s w c (whole s w c).stopped → is_free_file s.table name ≡ false → IsSeenHeld s w c told_none
  quiet-stop may closed =
      let mine = not-free s refl closed in
      let held_so = not-free (as_held w s) refl closed in
      seen-told s w c told_none refl (ap (λ (t : Told). t.length) (sym mine)) (ap (λ (t : Told). t.size) (sym mine))
      (subst (MayBeTold s w c) (ap (λ (t : Told). t.stopped) held_so) may)

  has : has_look look.Image (add_asks c) ≡ true
  has = has-named c q name e f

  -- a refusal stands before the look
  past-look : (told : Told) → told.mapped ≡ [] → refusal_to s.table (probe look.Image) (command.BlockdevAdd c) ≢ Some refusal.Aborted → MayBeTold s w c (whole s w c).stopped → IsSeenHeld s w c told
  past-look told mapped not may =
      seen-past s w c told look.Image mapped
      (λ any. unreached-refused s.table look.Image c (looks-named c q name e f) not any (silent-named c q name e f any))
      (stop-refused s.table (probe look.Image) look.Image refusal.Aborted c refl has) may

  module _ (node : ℕ) (under : IsFree s.table name node) where
    file-at : file_of_ref s.table (file_ref.Name name) ≡ Some under.file
    file-at = ap (option_and_then (λ (row : NodeRecord). row.filename)) under.named ∙ under.filename

    by-content : (st : State) (content : Content) → st.table ≡ s.table → content_in st.files under.file ≡ Some content → expects st c ≡ told-of (image_sight content)
    by-content st content same known =
        expects-at st
        ∙ ap (λ (t : RunTable). image_told t c.node_name name q (option_map sight_of (option_and_then (content_in st.files) (file_of_ref t (file_ref.Name name))))) same
        ∙ ap (λ (x : Option (List ℕ)). image_told s.table c.node_name name q (option_map sight_of (option_and_then (content_in st.files) x))) file-at
        ∙ ap (λ (x : Option Content). image_told s.table c.node_name name q (option_map sight_of x)) known
        ∙ ap (λ (b : Bool). cond b (told-of (image_sight content)) (told_record None None None)) under.free

    -- what files hold, where it is known or not
    record IsMeasured (bytes : List ℕ) : Type 0 where
      whole_is : whole s w c ≡ told-of (image_sight (Bytes bytes))
      size : (expects s c).size ≡ (whole s w c).size
      length : (expects s c).length ≡ (whole s w c).length
      may : MayBeTold s w c (whole s w c).stopped

    record IsUsed : Type 0 where
      used : file_state s.table under.file ≡ Some Used
      may : MayBeTold s w c (whole s w c).stopped

    same-may : expects s c ≡ whole s w c → MayBeTold s w c (whole s w c).stopped
    same-may same = record { may = inl (ap (λ (t : Told). t.stopped) (sym same)); exact = inl refl }

    large-may : (new : Creation) → content_in s.files under.file ≡ Some (Blank new None) → (whole s w c).stopped ≡ Some (record { look = look.Image; refusal = refusal.Image too_large })
        → MayBeTold s w c (whole s w c).stopped
    large-may new known stops = record {
      may = inr (inr (rw (e, f, file-at, known, under.free) refl, stops));
      exact = inl refl;
    }

    measured-blank : (new : Creation) (len : Option ℕ) (bytes : List ℕ) → content_in s.files under.file ≡ Some (Blank new len) → held w under.file ≡ Some bytes → IsBlank new len bytes → IsMeasured bytes
    measured-blank new len bytes known holds blank = by_stop (stop-made new len bytes blank)
      where
        held_is : whole s w c ≡ told-of (image_sight (Bytes bytes))
        held_is =
            by-content (as_held w s) (Bytes bytes) refl
            (held-content w s.files under.file (Blank new len) known ∙ ap (λ (h : Option (List ℕ)). Some (known_as (Blank new len) h)) holds)

        mine : expects s c ≡ told-of (image_sight (Blank new len))
        mine = by-content s (Blank new len) refl known

        size_is : (expects s c).size ≡ (whole s w c).size
        size_is =
            ap (λ (t : Told). t.size) mine ∙ ap (λ (n : ℕ). Some n) (sym (size-made new len bytes blank)) ∙ sym (ap (λ (t : Told). t.size) held_is)

        length_is : (expects s c).length ≡ (whole s w c).length
        length_is = ap (λ (t : Told). t.length) mine ∙ sym (ap (λ (t : Told). t.length) held_is)

        sight_by : Option ImageStop → ℕ → Bool → ImageSight
        sight_by why size names = record { stop = why; size = size; names_backing = names }

        by_stop : ((option_map stop_for (image_refusal bytes) ≡ blank_stop len) ⊎ ((len ≡ None) × (option_map stop_for (image_refusal bytes) ≡ Some too_large))) → IsMeasured bytes
        by_stop (inl same) =
            let sights : image_sight (Bytes bytes) ≡ image_sight (Blank new len) =
            ap (λ (why : Option ImageStop). sight_by why (header_of bytes).size (is_some (header_of bytes).name)) same
            ∙ ap (λ (n : ℕ). sight_by (blank_stop len) n (is_some (header_of bytes).name)) (size-made new len bytes blank)
            ∙ ap (sight_by (blank_stop len) new.size) (name-made new len bytes blank) in
            record { whole_is = held_is; size = size_is; length = length_is; may = same-may (mine ∙ ap told-of (sym sights) ∙ sym held_is) }
        by_stop (inr large) =
            let stops : (whole s w c).stopped ≡ Some (record { look = look.Image; refusal = refusal.Image too_large }) =
            ap (λ (t : Told). t.stopped) held_is
            ∙ ap (λ (why : Option ImageStop). unfit_image s.table c.node_name q (sight_by why (header_of bytes).size (is_some (header_of bytes).name))) large.1 in
            record { whole_is = held_is; size = size_is; length = length_is; may = large-may new (known ∙ ap (λ (n : Option ℕ). Some (Blank new n)) large.0) stops }

    measure : (bytes : List ℕ) → held w under.file ≡ Some bytes → IsMeasured bytes ⊎ IsUsed
    measure bytes holds = by_known (content_in s.files under.file) refl
      where
        open_file : (row : NodeRecord) → StandsFor s.table under.file row → IsUnder s.table.edges row.id → ⊥
        open_file row stands over =
            let same : row.id ≡ under.row.id = shows.stands.stands.table.alone under.file row under.row stands (record { there = under.there; filename = under.filename }) in
            under.alone over.edge over.there (over.child ∙ same)

        by_state : (state : Option FileState) → file_state s.table under.file ≡ state → IsOfState state Unknown → file_state s.table under.file ≡ Some Used
        by_state None is never = absurd never
        by_state (Some Made) is never = absurd never
        by_state (Some Formatted) is never = absurd never
        by_state (Some Used) is unit = is

        by_known : (found : Option Content) → content_in s.files under.file ≡ found → IsMeasured bytes ⊎ IsUsed
        by_known None is =
            let none : Some bytes ≡ None = sym holds ∙ shows.contents.absent under.file is in
            absurd (cc none)
        by_known (Some (Bytes b)) is =
            let same : Some b ≡ Some bytes = sym (shows.contents.known under.file (Bytes b) is) ∙ holds in
            let equal : b ≡ bytes = cc same in
            let mine : expects s c ≡ told-of (image_sight (Bytes bytes)) = by-content s (Bytes b) refl is ∙ ap (λ (x : List ℕ). told-of (image_sight (Bytes x))) equal in
            let held_is : whole s w c ≡ told-of (image_sight (Bytes bytes)) =
            by-content (as_held w s) (Bytes b) refl (held-content w s.files under.file (Bytes b) is) ∙ ap (λ (x : List ℕ). told-of (image_sight (Bytes x))) equal in
            let both : expects s c ≡ whole s w c = mine ∙ sym held_is in
            inl (record { whole_is = held_is; size = ap (λ (t : Told). t.size) both; length = ap (λ (t : Told). t.length) both; may = same-may both })
        by_known (Some (Blank new len)) is =
            let blank : IsBlank new len bytes = subst (λ (h : Option (List ℕ)). With h (IsBlank new len)) holds (shows.contents.known under.file (Blank new len) is) in
            inl (measured-blank new len bytes is holds blank)
        by_known (Some Unknown) is =
            let both : expects s c ≡ whole s w c =
            by-content s Unknown refl is ∙ sym (by-content (as_held w s) Unknown refl (held-content w s.files under.file Unknown is)) in
            inr (record {
              used = by_state (file_state s.table under.file) refl (shows.stands.stands.states under.file Unknown is open_file);
              may = same-may both;
            })

    -- a used file refuses before the look
    lost-so : file_state s.table under.file ≡ Some Used → NoneHolds s.table told_none (passed_part look.Image (add_asks c)) → ⊥
    unfolding holds
    lost-so used none =
        let front : List Asking =
        ask.Good (codes "driver") (is_added c.driver) ∷ option_values c.options ++ added_values c.driver ++ ask.Named (codes "node-name") (Some c.node_name) ∷ added_names c.driver in
        let rest : List Asking =
        ask.Found (Some name) ∷ ask.Found (backing_name q.backing) ∷ ask.FreshNode (Some c.node_name) ∷ ask.RoomForNodes 1 ∷ ask.Drives (Some name) drivers.File
        ∷ ask.Drives (backing_name q.backing) drivers.FileRawOrQcow2 ∷ ask.KnownUnder name false ∷ [] in
        let cut : passed_part look.Image (add_asks c) ≡ front ++ rest = rw (e, f) refl in
        let all : NoneHolds s.table told_none rest = none-behind s.table told_none front rest (subst (NoneHolds s.table told_none) cut none) in
        let here : if_there (λ row. lost s.table false (name_of_file row)) (file_node s.table name) ≡ None = all.1.1.1.1.1.1.0 in
        let refuses : Some (refusal.FileUsed under.file) ≡ None =
        sym (ap (λ (found : Option NodeRecord). if_there (λ row. lost s.table false (name_of_file row)) found) under.file_row
        ∙ ap (λ (n : Option (List ℕ)). lost s.table false (unwrap_or n [])) under.filename
        ∙ ap (λ (state : Option FileState). refused (is_lost false state) (refusal.FileUsed under.file)) used) ∙ here in
        cc refuses

    used-past : IsUsed → refusal_to s.table (probe look.Image) (command.BlockdevAdd c) ≢ Some refusal.Aborted
    used-past is aborts = by_turn (out_of_turn false s.table.negotiated) refl (sym (refusal-is s.table (probe look.Image) c) ∙ aborts)
      where
        by_first : (found : Option Refusal) → first_unmet_ask s.table (probe look.Image) (add_asks c) ≡ found → or_else found (broken s.table c) ≡ Some refusal.Aborted → ⊥
        by_first None at bad = stop-refuses s.table (probe look.Image) look.Image refusal.Aborted (add_asks c) refl has at
        by_first (Some cause) at same =
            lost-so is.used (reached s.table look.Image (add_asks c) (looks-named c q name e f) (at ∙ same) told_none (silent-named c q name e f told_none))

        by_turn : (turn : Option Refusal) → out_of_turn false s.table.negotiated ≡ turn → or_else turn (or_else (first_unmet_ask s.table (probe look.Image) (add_asks c)) (broken s.table c)) ≡ Some refusal.Aborted → ⊥
        by_turn None at rest = by_first (first_unmet_ask s.table (probe look.Image) (add_asks c)) refl rest
        by_turn (Some cause) at same = by_negotiated s.table.negotiated at same
          where
            by_negotiated : (b : Bool) → out_of_turn false b ≡ Some cause → Some cause ≡ Some refusal.Aborted → ⊥
            by_negotiated true bad same = let x : ⊥ = cc bad in x
            by_negotiated false is same = let bad : refusal.Negotiation false ≡ refusal.Aborted = cc (is ∙ same) in cc bad

    -- ---- its device

    module _ (device : DeviceSeen) (in_nodes : device_in w.nodes.devices node ≡ Some device) where
      holds-device : held w under.file ≡ device.content
      holds-device =
          let over : node_over s.table under.file ≡ Some under.row.id = over-one s.table under.row under.file shows.stands.stands.table.alone under.there under.filename in
          let over_w : node_over w.table under.file ≡ Some node = ap (λ (t : RunTable). node_over t under.file) (sym shows.table.table_is) ∙ over ∙ ap (λ (n : ℕ). Some n) under.id_is in
          ap (held_in_file w under.file) over_w ∙ ap (option_and_then (λ (d : DeviceSeen). d.content)) in_nodes

      bytes-of : (bytes : List ℕ) × (device.content ≡ Some bytes)
      bytes-of =
          some-content device.content
          (tell (ap is_some told_files) device (find-Some (is_device_of node) w.nodes.devices device in_nodes).0)

      -- it was opened
      seen-well : (image : Image) (told : Told) → ((bytes : List ℕ) → device.content ≡ Some bytes → IsImageOf bytes image)
          → told ≡ told_record None (Some image.header.size) (unfit_image s.table c.node_name q (opened_sight image.header)) → IsSeenHeld s w c told
      seen-well image told known is = elim (measure bytes-of.0 (holds-device ∙ bytes-of.1)) [
        | inl m ↦
            let its = known bytes-of.0 bytes-of.1 in
            let sights : image_sight (Bytes bytes-of.0) ≡ opened_sight image.header = sight-open bytes-of.0 image.header its.sound its.header in
            let same : told ≡ whole s w c = is ∙ ap told-of (sym sights) ∙ sym m.whole_is in
            seen-told s w c told (ap (λ (t : Told). t.mapped) is) (ap (λ (t : Told). t.length) same ∙ sym m.length) (ap (λ (t : Told). t.size) same ∙ sym m.size)
            (subst (MayBeTold s w c) (ap (λ (t : Told). t.stopped) (sym same)) m.may)
        | inr used ↦ past-look told (ap (λ (t : Told). t.mapped) is) (used-past used) used.may
      ]

      -- or refused, or a read of it failed
      seen-badly : (cause : ImageStop) (told : Told) → cause ≢ stop.NoMemory → ((bytes : List ℕ) → device.content ≡ Some bytes → Names (image_refusal bytes) cause)
          → told ≡ told_record None None (Some (record { look = look.Image; refusal = unopened device.number cause })) → IsSeenHeld s w c told
      seen-badly cause told memory named is = elim (measure bytes-of.0 (holds-device ∙ bytes-of.1)) [
        | inl m ↦ by_io m (is-io cause)
        | inr used ↦ past-look told (ap (λ (t : Told). t.mapped) is) (used-past used) used.may
      ]
        where
          stops : told.stopped ≡ Some (record { look = look.Image; refusal = unopened device.number cause })
          stops = ap (λ (t : Told). t.stopped) is

          mapped : told.mapped ≡ []
          mapped = ap (λ (t : Told). t.mapped) is

          fails-by : (count : ℕ) (expected : Option Stopped) → AreThere expected → IsBehind expected
              → Fails s.table (command.BlockdevAdd c) expected (record { look = look.Image; refusal = refusal.Io (Dev device.number) count })
          fails-by count expected there behind = record {
            call = rw (e, f, under.free) refl;
            failure = tt;
            reached = reach-image c expected there behind;
          }

          by_io : IsMeasured bytes-of.0 → ((n : ℕ) × (cause ≡ stop.Io n)) ⊎ ((n : ℕ) → cause ≢ stop.Io n) → IsSeenHeld s w c told
          by_io m (inl io) =
              let failed : told.stopped ≡ Some (record { look = look.Image; refusal = refusal.Io (Dev device.number) io.0 }) =
              stops ∙ ap (λ (x : ImageStop). Some (record { look = look.Image; refusal = unopened device.number x })) io.1 in
              let image : ImageSight = image_sight (Bytes bytes-of.0) in
              let held_there : AreThere (whole s w c).stopped =
              subst (λ (t : Told). AreThere t.stopped) (sym m.whole_is) (there-inside s.table c.node_name q image) in
              let held_behind : IsBehind (whole s w c).stopped =
              subst (λ (t : Told). IsBehind t.stopped) (sym m.whole_is) (behind-inside s.table c.node_name q image) in
              let mine = expects-inside in
              seen-stopped s w c told look.Image (refusal.Io (Dev device.number) io.0) mapped failed has (record {
                may = inr (inl (subst (λ (x : Option Stopped). With x (Fails s.table (command.BlockdevAdd c) (expects s c).stopped)) (sym failed)
                    (fails-by io.0 (expects s c).stopped mine.0 mine.1)));
                exact = inr (subst (λ (x : Option Stopped). With x (Fails s.table (command.BlockdevAdd c) (whole s w c).stopped)) (sym failed)
                    (fails-by io.0 (whole s w c).stopped held_there held_behind));
              })
            where
              by_found : (found : Option FileSight) → AreThere (image_told s.table c.node_name name q found).stopped × IsBehind (image_told s.table c.node_name name q found).stopped
              by_found None = (tt, tt)
              by_found (Some x) =
                  subst (λ (b : Bool). AreThere (cond b (told-of x.image) (told_record None None None)).stopped × IsBehind (cond b (told-of x.image) (told_record None None None)).stopped) (sym under.free)
                  (there-inside s.table c.node_name q x.image, behind-inside s.table c.node_name q x.image)

              expects-inside : AreThere (expects s c).stopped × IsBehind (expects s c).stopped
              expects-inside = subst (λ (t : Told). AreThere t.stopped × IsBehind t.stopped) (sym (expects-at s)) (by_found (sight s))
          by_io m (inr other) =
              let found : option_map stop_for (image_refusal bytes-of.0) ≡ Some cause = named-stop (image_refusal bytes-of.0) cause memory other (named bytes-of.0 bytes-of.1) in
              let why : unopened device.number cause ≡ refusal.Image cause = not-io device.number cause other in
              let same : told.stopped ≡ Some (record { look = look.Image; refusal = refusal.Image cause }) =
              stops ∙ ap (λ (r : Refusal). Some (record { look = look.Image; refusal = r })) why in
              let held_stops : (whole s w c).stopped ≡ Some (record { look = look.Image; refusal = refusal.Image cause }) =
              ap (λ (t : Told). t.stopped) m.whole_is
              ∙ ap (λ (x : Option ImageStop). let i : ImageSight = record { stop = x; size = (header_of bytes-of.0).size; names_backing = is_some (header_of bytes-of.0).name } in unfit_image s.table c.node_name q i) found in
              seen-stopped s w c told look.Image (refusal.Image cause) mapped same has (subst (MayBeTold s w c) (held_stops ∙ sym same) m.may)

  -- ---- the whole

  may-quiet : is_free_file s.table name ≡ false → MayBeTold s w c (whole s w c).stopped
  may-quiet closed =
      let both : expects s c ≡ whole s w c = not-free s refl closed ∙ sym (not-free (as_held w s) refl closed) in
      record { may = inl (ap (λ (t : Told). t.stopped) (sym both)); exact = inl refl }

  -- in any case
  module _ (node : ℕ) (under : IsFree s.table name node) where
    by-none : (st : State) → st.table ≡ s.table → content_in st.files under.file ≡ None → expects st c ≡ told_none
    by-none st same none =
        expects-at st
        ∙ ap (λ (t : RunTable). image_told t c.node_name name q (option_map sight_of (option_and_then (content_in st.files) (file_of_ref t (file_ref.Name name))))) same
        ∙ ap (λ (x : Option (List ℕ)). image_told s.table c.node_name name q (option_map sight_of (option_and_then (content_in st.files) x))) (file-at node under)
        ∙ ap (λ (x : Option Content). image_told s.table c.node_name name q (option_map sight_of x)) none

    may-free : MayBeTold s w c (whole s w c).stopped
    may-free = by_known (content_in s.files under.file) refl
      where
        by_held : (new : Creation) (len : Option ℕ) → content_in s.files under.file ≡ Some (Blank new len) → (found : Option (List ℕ)) → held w under.file ≡ found → With found (IsBlank new len)
            → MayBeTold s w c (whole s w c).stopped
        by_held new len is None at never = absurd never
        by_held new len is (Some bytes) at blank = (measured-blank node under new len bytes is at blank).may

        by_known : (found : Option Content) → content_in s.files under.file ≡ found → MayBeTold s w c (whole s w c).stopped
        by_known None is = same-may node under (by-none s refl is ∙ sym (by-none (as_held w s) refl (held-none w s.files under.file is)))
        by_known (Some (Bytes b)) is =
            same-may node under (by-content node under s (Bytes b) refl is ∙ sym (by-content node under (as_held w s) (Bytes b) refl (held-content w s.files under.file (Bytes b) is)))
        by_known (Some (Blank new len)) is = by_held new len is (held w under.file) refl (shows.contents.known under.file (Blank new len) is)
        by_known (Some Unknown) is =
            same-may node under (by-content node under s Unknown refl is ∙ sym (by-content node under (as_held w s) Unknown refl (held-content w s.files under.file Unknown is)))

  may-any : MayBeTold s w c (whole s w c).stopped
  may-any = by_node (file_node s.table name) refl
    where
      by_free : (row : NodeRecord) → file_node s.table name ≡ Some row → (b : Bool) → is_free_file s.table name ≡ b → MayBeTold s w c (whole s w c).stopped
      by_free row at false closed = may-quiet closed
      by_free row at true is = may-free row.id (free-of s.table shows.stands.stands.table name row.id (record { row = row; named = at; is = refl; free = is }))

      by_node : (found : Option NodeRecord) → file_node s.table name ≡ found → MayBeTold s w c (whole s w c).stopped
      by_node None at = may-quiet (ap (λ (r : Option NodeRecord). elim r as (λ _. Bool) [ None ↦ false | Some x ↦ is_none (first_into x.id s.table.edges) ]) at)
      by_node (Some row) at = by_free row at (is_free_file s.table name) refl

  by-look : (now : Nodes) (image : Option Image) (told : Told) → LooksUnder s.table c q name w.nodes now image told → IsSeenHeld s w c told
  by-look now (Some image) told looks =
      let under = free-of s.table shows.stands.stands.table name looks.id looks.free in
      seen-well looks.id under looks.opened.device looks.opened.held image told looks.opened.on.known looks.is
  by-look now None told (inl past) = elim past.away [
    | inl not ↦ past-look told (ap (λ (t : Told). t.mapped) past.is) not may-any
    | inr closed ↦ subst (IsSeenHeld s w c) (sym past.is) (quiet-stop may-any closed)
  ]
  by-look now None told (inr bad) =
      let under = free-of s.table shows.stands.stands.table name bad.node bad.free in
      let same : bad.stopped.before ≡ bad.device = cc (sym bad.stopped.held ∙ bad.held) in
      seen-badly bad.node under bad.device bad.held bad.cause told bad.memory
      (λ bytes content. bad.stopped.on.named bytes (ap (λ (d : DeviceSeen). d.content) same ∙ content)) bad.is

pub seen-under : (o : Opening) (s : State) (w : WorldSeen) → ShowsState o s w → IsCoherent w.table w.nodes w.opened w.progress → DevicesTell w.files w.nodes.devices → (files : List File)
    → w.files ≡ Some files → (c : Adding) (q : AddQcow2 (List ℕ)) (name : List ℕ) → c.driver ≡ added.Qcow2 q → q.file ≡ file_ref.Name name → (now : Nodes) (image : Option Image)
    (told : Told) → LooksUnder w.table c q name w.nodes now image told → IsSeenHeld s w c told
seen-under o s w shows coherent tell files told_files c q name e f now image told looks =
    by-look o s w shows coherent tell files told_files c q name e f now image told
    (subst (λ (t : RunTable). LooksUnder t c q name w.nodes now image told) (sym shows.table.table_is) looks)
