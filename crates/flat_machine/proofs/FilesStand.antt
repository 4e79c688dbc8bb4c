-- Changes of files leave what holds of all states.
use Rattle.std.proofs.Common.{◌≡◌, ◌≢◌, ◌⊎◌, ℕ, Bool, true, false, cond, List, [], ◌∷◌, replicate, refl, sym, ap, subst, ◌∙◌, inl, inr, Option, Some, option_map}
use Rattle.std.specs.Prelude.{◌==◌, not, bytes_eq, All, IsSome}
use Rattle.std.specs.List.{find, filter, Contains}
use Rattle.std.proofs.lemmas.List.Elements.{All-weaker, All-nil, All-cons, All-head, All-tail}
use Rattle.blk_graph.specs.declared.edge.Parent.TheVariants.{Node, Guest}
use Rattle.blk_graph.specs.declared.edge.Role.TheVariants.{Drive, File}
use Rattle.blk_graph.specs.Edits.{child_of}
use Rattle.q2_format.specs.Created.{creation_of}
use Rattle.qmp_codec.specs.declared.words.ImageFormat.{ImageFormat}
use Rattle.qmp_rules.specs.declared.rows.NodeRecord.{NodeRecord}
use Rattle.qmp_rules.specs.declared.rows.FileState.{FileState}
use Rattle.qmp_rules.specs.declared.rows.FileState.TheVariants.{Made, Formatted, Used}
use Rattle.qmp_rules.specs.declared.change.Change.TheVariants as change
use Rattle.qmp_rules.specs.Table.{RunTable, file_state, with_file, has_name}
use Rattle.qmp_rules.specs.Changes.{changed, node_changed, unsettled, lost_with}
use Rattle.flat_machine.specs.State.{State, Content, Bytes, Unknown, Left, content_in}
use Rattle.flat_machine.specs.Contents.{with_content, formatted}
use Rattle.flat_machine.specs.Changed.{stepped, format_name}
use Rattle.flat_machine.specs.Wiring.{HaveDistinctIds, StandsFor, IsUnder, LeadsToFile, TableStands}
use Rattle.flat_machine.specs.Standing.{IsLostBy, IsOfState, IsOpenlyKnown, IsUsedUp, WritingStands, Stands}
use Rattle.flat_machine.specs.Suiting.{IsThere, HasNoNode, FormattingSuits}
use Rattle.flat_machine.proofs.Finds.{content_in-with, content_in-with_other, cases_name, name_differs}
use Rattle.flat_machine.proofs.Tables.{file_state-with, file_state-other}
use Rattle.flat_machine.proofs.Rows.{IsLike, SameRows, rows-same, rows-mapped, same_row, changed_row, like_lost, like_unsettled, kept_lost, kept_unsettled}
use Rattle.flat_machine.proofs.Wired.{Grows, NoRow, NoEdge}
use Rattle.flat_machine.proofs.TablesKept.{rows_grow, rows_table}
use Rattle.flat_machine.proofs.WritingKept.{role_edge, IsEntered, WritesFileUnder, grown_writing, left_still}
use Rattle.flat_machine.proofs.WritingAdded.{has_name-grows, drive_there, same_devices}

-- ---- a file whose state changes, over rows that stand as they did

-- the states of other files stay
pub record FilesBut (name : List ℕ) (state : FileState) (t now : RunTable) : Type 0 where
  pub here : file_state now name ≡ Some state
  pub others : (other : List ℕ) → other ≢ name → file_state now other ≡ file_state t other

pub files_but : (name : List ℕ) (state : FileState) (t now : RunTable) → now.files ≡ with_file name state t.files → FilesBut name state t now
files_but name state t now is = record {
  here = subst (λ files. option_map (λ row. row.state) (find (λ row. bytes_eq row.name name) files) ≡ Some state) (sym is)
      (file_state-with name state t.files);
  others = λ other differ. subst (λ files. option_map (λ row. row.state) (find (λ row. bytes_eq row.name other) files) ≡ file_state t other) (sym is)
      (file_state-other name other state t.files differ);
}

-- ---- what a guest's writing rests on

all-filter : {A : Type 0} (P : A → Type 0) (p : A → Bool) (xs : List A) → All P xs → All P (filter p xs)
all-filter P p [] h = All-nil P
all-filter P p (x ∷ xs) h = by_test (p x) (all-filter P p xs (All-tail P x xs h))
  where
    by_test : (b : Bool) → All P (filter p xs) → All P (cond b (x ∷ filter p xs) (filter p xs))
    by_test true rest = All-cons P x (filter p xs) (All-head P x xs h) rest
    by_test false rest = rest

-- no node that a guest may write has the file
pub record IsSpared (t : RunTable) (name : List ℕ) : Type 0 where
  pub taken : (over under : NodeRecord) → LeadsToFile t over under → under.filename ≡ Some name → ⊥
  pub written : (node : ℕ) → IsEntered t node → WritesFileUnder t node name → ⊥

-- the disks that were left stay, or those in the file are gone
abbrev pub Forgets : State → State → List ℕ → FileState → Type 0
Forgets s now name state = ((now.left ≡ s.left) × (state ≡ Used)) ⊎ (now.left ≡ filter (λ l. not (bytes_eq l.file name)) s.left)

module _ (s now : State) (name : List ℕ) (state : FileState) (content : Content) (rows : SameRows s.table now.table)
    (edges : now.table.edges ≡ s.table.edges) (files : FilesBut name state s.table now.table) (h : Stands s) where
  grow : Grows s.table now.table (IsThere s.table) NoRow NoEdge
  grow = rows_grow s.table now.table rows edges h.table

  used_still : (l : Left) → (l.file ≡ name → state ≡ Used) → IsUsedUp s l → IsUsedUp now l
  used_still l same used =
      left_still s now (IsThere s.table) NoRow NoEdge grow l (by_name (cases_name l.file name)) (λ r never. absurd never) (λ e r never. absurd never)
      used
    where
      by_name : ((l.file ≡ name) ⊎ (l.file ≢ name)) → file_state now.table l.file ≡ Some Used
      by_name (inl is) = subst (λ n. file_state now.table n ≡ Some Used) (sym is) (files.here ∙ ap Some (same is))
      by_name (inr differ) = files.others l.file differ ∙ used.used

  left_filtered : (ls : List Left) → All (IsUsedUp s) ls → All (IsUsedUp now) (filter (λ l. not (bytes_eq l.file name)) ls)
  left_filtered [] all = All-nil (IsUsedUp now)
  left_filtered (l ∷ ls) all =
      by_test (bytes_eq l.file name) refl (left_filtered ls (All-tail (IsUsedUp s) l ls all)) (All-head (IsUsedUp s) l ls all)
    where
      by_test : (b : Bool) → bytes_eq l.file name ≡ b → All (IsUsedUp now) (filter (λ x. not (bytes_eq x.file name)) ls) → IsUsedUp s l
          → All (IsUsedUp now) (cond (not b) (l ∷ filter (λ x. not (bytes_eq x.file name)) ls) (filter (λ x. not (bytes_eq x.file name)) ls))
      by_test true e rest used = rest
      by_test false e rest used =
          All-cons (IsUsedUp now) l (filter (λ x. not (bytes_eq x.file name)) ls)
          (used_still l (λ same. absurd (name_differs l.file name e same)) used) rest

  pub files_writing : now.files ≡ with_content name content s.files → now.disks ≡ s.disks → now.table.devices ≡ s.table.devices
      → ((n : List ℕ) → has_name n s.named ≡ true → has_name n now.named ≡ true) → Forgets s now name state
      → (((content ≡ Unknown) × (state ≡ Used)) ⊎ IsSpared s.table name) → WritingStands now
  files_writing contents disks devices names forgets spared =
      grown_writing s now (IsThere s.table) NoRow NoEdge grow
      (record {
        names = names;
        names_new = λ n r never. absurd never;
        known = λ n over under f is known. still_unknown n known
            (λ same. elim spared [ inl used ↦ used.0 | inr spare ↦ absurd (spare.taken over under f (is ∙ ap Some same)) ]);
        known_new = λ n over under f never. absurd never;
        bytes = λ node here some. subst (λ ds. IsSome (find (λ d. d.node == node) ds)) (sym disks) some;
        bytes_new = λ r never. absurd never;
        left = elim forgets [
          | inl kept ↦ subst (All (IsUsedUp now)) (sym kept.0)
              (All-weaker (IsUsedUp s) (IsUsedUp now) (λ l used. used_still l (λ same. kept.1) used) s.left h.writing.left)
          | inr gone ↦ subst (All (IsUsedUp now)) (sym gone) (left_filtered s.left h.writing.left)
        ];
        written = λ node n here entered of known. still_unknown n known
            (λ same. elim spared [ inl used ↦ used.0 | inr spare ↦ absurd (spare.written node entered (subst (WritesFileUnder s.table node) same of)) ]);
        used = λ node n here entered of used. still_of n used
            (λ same. elim spared [ inl both ↦ both.1 | inr spare ↦ absurd (spare.written node entered (subst (WritesFileUnder s.table node) same of)) ]);
        copies_new = λ r disk never. absurd never;
        emptied = λ node n here entered of none. elim forgets [
          | inl kept ↦ subst (All (λ l. l.file ≢ n)) (sym kept.0) none
          | inr gone ↦ subst (All (λ l. l.file ≢ n)) (sym gone) (all-filter (λ l. l.file ≢ n) (λ l. not (bytes_eq l.file name)) s.left none)
        ];
        devices = same_devices s now devices (λ g. ap (child_of (Guest g) Drive) edges);
        drives = λ g node is. drive_there s.table h.table.edges g node is;
      })
      h.table h.writing
    where
      still_of : (n : List ℕ) → file_state s.table n ≡ Some Used → (n ≡ name → state ≡ Used) → file_state now.table n ≡ Some Used
      still_of n used same = by_name (cases_name n name)
        where
          by_name : ((n ≡ name) ⊎ (n ≢ name)) → file_state now.table n ≡ Some Used
          by_name (inl is) = subst (λ m. file_state now.table m ≡ Some Used) (sym is) (files.here ∙ ap Some (same is))
          by_name (inr differ) = files.others n differ ∙ used

      still_unknown : (n : List ℕ) → content_in s.files n ≡ Some Unknown → (n ≡ name → content ≡ Unknown) → content_in now.files n ≡ Some Unknown
      still_unknown n known same = subst (λ fs. content_in fs n ≡ Some Unknown) (sym contents) (by_name (cases_name n name))
        where
          by_name : ((n ≡ name) ⊎ (n ≢ name)) → content_in (with_content name content s.files) n ≡ Some Unknown
          by_name (inl is) =
              subst (λ m. content_in (with_content name content s.files) m ≡ Some Unknown) (sym is)
              (content_in-with name content s.files ∙ ap Some (same is))
          by_name (inr differ) = content_in-with_other name n content s.files differ ∙ known

-- ---- kinds that change what became of one file

module _ (s now : State) (name : List ℕ) (state : FileState) (content : Content) where
  pub file_stands : SameRows s.table now.table → now.table.edges ≡ s.table.edges → FilesBut name state s.table now.table
      → now.files ≡ with_content name content s.files
      → ((other : List ℕ) (row later : NodeRecord) → StandsFor s.table other row → IsLike row later → Contains now.table.nodes later
      → later.is_settled ≡ false → ((other ≢ name) × (row.is_settled ≡ false)) ⊎ IsLostBy now.table other later)
      → IsOfState (Some state) content → (state ≡ Formatted → (row : NodeRecord) × StandsFor s.table name row) → TableStands now.table
      → WritingStands now → Stands s → Stands now
  file_stands rows edges files contents loses is_of formatted table writing h = record {
    table = table;
    files = λ other later over.
        let before = rows.back later over.there in
        known_there other (h.files other before.0 (stood other later before.0 before.1.0 before.1.1 over)) (cases_name other name);
    lost = λ other later over gone.
        let before = rows.back later over.there in
        let over_before = stood other later before.0 before.1.0 before.1.1 over in
        elim (loses other before.0 later over_before before.1.1 over.there gone) [
          | inl as_before ↦ lost_as_before other before.0 later before.1.1 as_before.0 (h.lost other before.0 over_before as_before.1)
          | inr is_lost ↦ is_lost
        ];
    states = λ other what found is_open. by_name other what found is_open (cases_name other name);
    formatted = λ other is. formatted_as other is (cases_name other name);
    writing = writing;
  }
    where
      stood : (other : List ℕ) (later row : NodeRecord) → Contains s.table.nodes row → IsLike row later → StandsFor now.table other later
          → StandsFor s.table other row
      stood other later row there like over = record { there = there; filename = sym like.filename ∙ over.filename }

      stands_later : (other : List ℕ) (row : NodeRecord) → StandsFor s.table other row
          → (later : NodeRecord) × (StandsFor now.table other later × IsLike row later)
      stands_later other row over =
          let after = rows.forth row over.there in
          (after.0, (record { there = after.1.0; filename = after.1.1.filename ∙ over.filename }, after.1.1))

      known_there : (other : List ℕ) → IsSome (content_in s.files other) → ((other ≡ name) ⊎ (other ≢ name)) → IsSome (content_in now.files other)
      known_there other some (inl same) =
          subst (λ fs. IsSome (content_in fs other)) (sym contents)
          (subst (λ n. IsSome (content_in (with_content name content s.files) n)) (sym same)
          (subst IsSome (sym (content_in-with name content s.files)) refl))
      known_there other some (inr differ) =
          subst (λ fs. IsSome (content_in fs other)) (sym contents)
          (subst IsSome (sym (content_in-with_other name other content s.files differ)) some)

      lost_as_before : (other : List ℕ) (row later : NodeRecord) → IsLike row later → other ≢ name → IsLostBy s.table other row
          → IsLostBy now.table other later
      lost_as_before other row later like differ (inl used) = inl (files.others other differ ∙ used)
      lost_as_before other row later like differ (inr (inl image)) = inr (inl (files.others other differ ∙ image))
      lost_as_before other row later like differ (inr (inr under)) =
          inr (inr (subst (λ es. IsUnder es later.id) (sym edges) (subst (IsUnder s.table.edges) (sym like.id) under)))

      open_before : (other : List ℕ) → IsOpenlyKnown now.table other → IsOpenlyKnown s.table other
      open_before other is_open row over under =
          let after = stands_later other row over in
          is_open after.0 after.1.0
          (subst (λ es. IsUnder es after.0.id) (sym edges) (subst (IsUnder s.table.edges) (sym after.1.1.id) under))

      by_name : (other : List ℕ) (what : Content) → content_in now.files other ≡ Some what → IsOpenlyKnown now.table other
          → ((other ≡ name) ⊎ (other ≢ name)) → IsOfState (file_state now.table other) what
      by_name other what found is_open (inl same) =
          let here : content_in now.files name ≡ Some what = subst (λ n. content_in now.files n ≡ Some what) same found in
          let put : content_in now.files name ≡ Some content =
          subst (λ fs. content_in fs name ≡ Some content) (sym contents) (content_in-with name content s.files) in
          let is_content : content ≡ what = cc in
          subst (λ n. IsOfState (file_state now.table n) what) (sym same)
          (subst (λ st. IsOfState st what) (sym files.here) (subst (IsOfState (Some state)) is_content is_of))
      by_name other what found is_open (inr differ) =
          let before : content_in s.files other ≡ Some what =
          sym (content_in-with_other name other content s.files differ) ∙ subst (λ fs. content_in fs other ≡ Some what) contents found in
          subst (λ st. IsOfState st what) (sym (files.others other differ)) (h.states other what before (open_before other is_open))

      formatted_as : (other : List ℕ) → file_state now.table other ≡ Some Formatted → ((other ≡ name) ⊎ (other ≢ name))
          → (row : NodeRecord) × StandsFor now.table other row
      formatted_as other is (inl same) =
          let here : file_state now.table name ≡ Some Formatted = subst (λ n. file_state now.table n ≡ Some Formatted) same is in
          let known = files.here in
          let is_formatted : state ≡ Formatted = cc in
          let row = formatted is_formatted in
          let after = stands_later name row.0 row.1 in
          (after.0, subst (λ n. StandsFor now.table n after.0) (sym same) after.1.0)
      formatted_as other is (inr differ) =
          let row = h.formatted other (sym (files.others other differ) ∙ is) in
          let after = stands_later other row.0 row.1 in
          (after.0, after.1.0)

pub use_stands : (s : State) (name : List ℕ) → Stands s → Stands (stepped s (change.UseFile name))
unfolding changed
use_stands s name h =
    let now : State = stepped s (change.UseFile name) in
    let files = files_but name Used s.table now.table refl in
    let rows = rows-same s.table now.table refl h.table.apart in
    file_stands s now name Used Unknown rows refl files refl
    (λ other row later over like there gone. elim (cases_name other name) [
      | inl same ↦ inr (inl (subst (λ n. file_state now.table n ≡ Some Used) (sym same) files.here))
      | inr differ ↦ inl (differ, subst (λ r. r.is_settled ≡ false) (same_row s.table h.table.apart row later over.there there like.id) gone)
    ])
    tt (λ never. absurd cc) (rows_table s.table now.table rows refl refl refl h.table)
    (files_writing s now name Used Unknown rows refl files h refl refl refl (λ n named. named) (inl (refl, refl)) (inl (refl, refl))) h

pub spoil_stands : (s : State) (name : List ℕ) → Stands s → Stands (stepped s (change.SpoilFile name))
unfolding changed
spoil_stands s name h =
    let now : State = stepped s (change.SpoilFile name) in
    let files = files_but name Used s.table now.table refl in
    let rows = rows-mapped s.table now.table (lost_with name) (like_lost name) refl h.table.apart in
    file_stands s now name Used Unknown rows refl files refl
    (λ other row later over like there gone. elim (cases_name other name) [
      | inl same ↦ inr (inl (subst (λ n. file_state now.table n ≡ Some Used) (sym same) files.here))
      | inr differ ↦
          let is : later ≡ lost_with name row =
          changed_row s.table (lost_with name) (like_lost name) h.table.apart row later over.there there like.id in
          inl (differ, subst (λ r. r.is_settled ≡ false) (is ∙ kept_lost name other row over.filename differ) gone)
    ])
    tt (λ never. absurd cc) (rows_table s.table now.table rows refl refl refl h.table)
    (files_writing s now name Used Unknown rows refl files h refl refl refl (λ n named. has_name-grows name n s.named named) (inr refl) (inl (refl, refl))) h

pub make_stands : (s : State) (name : List ℕ) (size : ℕ) → HasNoNode s.table name → Stands s → Stands (stepped s (change.MakeFile name size))
unfolding changed
make_stands s name size closed h =
    let now : State = stepped s (change.MakeFile name size) in
    let files = files_but name Made s.table now.table refl in
    let rows = rows-same s.table now.table refl h.table.apart in
    file_stands s now name Made (Bytes (replicate size 0)) rows refl files refl
    (λ other row later over like there gone. elim (cases_name other name) [
      | inl same ↦ absurd (closed row (subst (λ n. StandsFor s.table n row) same over))
      | inr differ ↦ inl (differ, subst (λ r. r.is_settled ≡ false) (same_row s.table h.table.apart row later over.there there like.id) gone)
    ])
    tt (λ never. absurd cc) (rows_table s.table now.table rows refl refl refl h.table)
    (files_writing s now name Made (Bytes (replicate size 0)) rows refl files h refl refl refl (λ n named. has_name-grows name n s.named named) (inr refl)
    (inr spared)) h
  where
    spared : IsSpared s.table name
    spared = record {
      taken = λ over under f is. closed under (record { there = f.under_there; filename = is });
      written = λ node entered of. closed of.row of.stands;
    }

pub format_stands : (s : State) (node : ℕ) (name : List ℕ) (size : ℕ) (backing_file : Option (List ℕ)) (backing_fmt : Option ImageFormat)
    → FormattingSuits s.table node name → Stands s → Stands (stepped s (change.FormatFile node name size backing_file backing_fmt))
unfolding changed
format_stands s node name size backing_file backing_fmt suits h =
    let now : State = stepped s (change.FormatFile node name size backing_file backing_fmt) in
    let files = files_but name Formatted s.table now.table refl in
    let rows = rows-mapped s.table now.table (node_changed node unsettled) (like_unsettled node) refl h.table.apart in
    let content : Content = formatted (creation_of size backing_file (option_map format_name backing_fmt)) (content_in s.files name) in
    file_stands s now name Formatted content rows refl files refl
    (λ other row later over like there gone. elim (cases_name other name) [
      | inl same ↦ inr (inr (inl (subst (λ n. file_state now.table n ≡ Some Formatted) (sym same) files.here)))
      | inr differ ↦
          let is : later ≡ node_changed node unsettled row =
          changed_row s.table (node_changed node unsettled) (like_unsettled node) h.table.apart row later over.there there like.id in
          let apart : row.id ≢ node = λ same. differ (one_file s.table h.table.apart suits row other over same) in
          inl (differ, subst (λ r. r.is_settled ≡ false) (is ∙ kept_unsettled node row apart) gone)
    ])
    tt (λ is. (suits.row, suits.stands)) (rows_table s.table now.table rows refl refl refl h.table)
    (files_writing s now name Formatted content rows refl files h refl refl refl (λ n named. has_name-grows name n s.named named) (inr refl) (inr spared)) h
  where
    one_file : (t : RunTable) → HaveDistinctIds t → FormattingSuits t node name → (row : NodeRecord) (other : List ℕ) → StandsFor t other row
        → row.id ≡ node → other ≡ name
    one_file t apart suits row other over same =
        let is : row ≡ suits.row = same_row t apart suits.row row suits.stands.there over.there (same ∙ sym suits.is_node) in
        let mine = over.filename in
        let its = suits.stands.filename in
        let both : row.filename ≡ suits.row.filename = ap (λ r. r.filename) is in
        cc

    at_node : (row : NodeRecord) → StandsFor s.table name row → row.id ≡ node
    at_node row over = h.table.alone name row suits.row over suits.stands ∙ suits.is_node

    spared : IsSpared s.table name
    spared = record {
      taken = λ over under f is. suits.alone f.edge f.there (f.child ∙ at_node under (record { there = f.under_there; filename = is }));
      written = λ other entered of. elim of.from [
        | inl own ↦ suits.alone entered.edge entered.there (entered.child ∙ sym own ∙ at_node of.row of.stands)
        | inr child ↦ (let e = role_edge (Node other) File s.table.edges of.row.id child.0 in suits.alone e.edge e.there (e.to ∙ at_node of.row of.stands))
      ];
    }
