-- What commands make of the bitmaps is what they make of the table and of what is dirty.
use Rattle.std.proofs.Common.{◌≡◌, inl, inr, ℕ, ◌+◌, ◌-◌, ◌*◌, ◌^◌, ◌<◌, min, Bool, true, false, cond, List, [], ◌∷◌, ◌++◌, length, map, get_or, take, refl, sym, ap, subst, ◌∙◌, arith, Option, Some, None, option_map}
use Rattle.std.specs.Prelude.{nat_le, is_some, option_and_then, unwrap_or, codes, Result, Ok, Err, OnOk, OnErr, IsOk, MatchOption, ◌⊎◌}
use Rattle.blk_bitmaps.specs.declared.row.Bitmap.{Bitmap}
use Rattle.blk_bitmaps.specs.declared.stop.BitmapStop.{BitmapStop}
use Rattle.blk_bitmaps.specs.Calls.{with_first, with_source, without_first}
use Rattle.blk_bitmaps.specs.Refusals.{add_refusal, busy_refusal, use_refusal, find as find_row, first_row}
use Rattle.blk_bitmaps.specs.Rows.{dirty_below, is_granule_size as may_have, is_named}
use Rattle.std.proofs.lemmas.List.{length-map, map_push, take_more}
use Rattle.qmp_codec.specs.Commands.{Cmd, SeenSources}
use Rattle.qmp_codec.specs.declared.bitmaps.BitmapAdd.{BitmapAdd}
use Rattle.qmp_codec.specs.declared.bitmaps.BitmapName.{BitmapName}
use Rattle.qmp_codec.specs.declared.bitmaps.MergeSource.{MergeSource}
use Rattle.qmp_codec.specs.declared.command.Command.TheVariants as command
use Rattle.qmp_codec.specs.declared.fields.Amount.{Amount}
use Rattle.qmp_codec.specs.declared.fields.Amount.TheVariants.{Negative, Number}
use Rattle.qmp_rules.specs.declared.change.Change.TheVariants as change
use Rattle.qmp_rules.specs.declared.rows.BitmapRow.{BitmapRow}
use Rattle.qmp_rules.specs.declared.rows.NodeRecord.{NodeRecord}
use Rattle.qmp_rules.specs.Answers.{command_edits, refusal_to, told_none}
use Rattle.qmp_rules.specs.Asks.{busy, holds, id_or, if_there}
use Rattle.qmp_asks.specs.BitmapAsks.{bitmap_add_names, bitmap_add_rest, bitmap_add_values, bitmap_names, bitmap_rest, source_name, source_node}
use Rattle.qmp_rules.specs.Changes.{changed}
use Rattle.qmp_asks.specs.CommandAsks.{asks_of}
use Rattle.qmp_rules.specs.Edits.{edits_of, merges}
use Rattle.qmp_rules.specs.declared.refusal.Refusal.TheVariants as refusal
use Rattle.qmp_rules.specs.Table.{RunTable, bitmap_at, bitmap_named, id_named, job_id}
use Rattle.qmp_asks.specs.Values.{amount_or, is_granularity}
use Rattle.flat_machine.specs.Bitmaps.{AreBitmapsOf, FollowChanges, IsSoundBitmap, bitmap_of, dirty_in}
use Rattle.flat_machine.specs.Marking.{dirty_bytes}
use Rattle.flat_machine.proofs.Asked.{NoneHolds, found-named, good-value, not-refused}
use Rattle.flat_machine.proofs.BitmapRows.{follow-added, follow-cleared, follow-merged, follow-none, follow-removed, follow-turned, found-bitmap, merged-bitmaps, sound-count}
use Rattle.world_parts.proofs.Accepted.{asked}
use Rattle.world_parts.specs.Carrying.{is_of_bitmaps}
use Rattle.world_parts.specs.Recorded.{AreAfter, AreSound, IsIdleAt, IsNewFor, bitmaps_after, bitmaps_merged}

-- ---- a command that adds one

-- what it asked
pub record AddAsked (t : RunTable) (c : BitmapAdd (List ℕ)) : Type 0 where
  pub node : ℕ
  pub found : id_named t c.node ≡ Some node
  pub granularity : is_granularity c.granularity ≡ true
  pub fresh : bitmap_at t node c.name ≡ None
  pub room : nat_le 64 (length t.bitmaps) ≡ false

pub add-asked : (t : RunTable) (c : BitmapAdd (List ℕ)) → refusal_to t told_none (command.BitmapAdd c) ≡ None → AddAsked t c
unfolding asks_of holds
add-asked t c none =
    let asks : NoneHolds t told_none (bitmap_add_values c ++ bitmap_add_names c ++ bitmap_add_rest c) = asked t told_none (command.BitmapAdd c) none in
    let named = found-named t told_none c.node asks.1.1.1.1.0 in
    let id : id_named t c.node ≡ Some named.0.id = ap (option_map (λ (r : NodeRecord). r.id)) named.1 in
    let fresh : is_some (bitmap_named t c.node c.name) ≡ false = not-refused _ _ asks.1.1.1.1.1.0 in
    record {
      node = named.0.id;
      found = id;
      granularity = good-value t told_none (codes "granularity") (is_granularity c.granularity) asks.0;
      fresh = none-of (bitmap_at t named.0.id c.name) (sym (ap (λ (o : Option ℕ). is_some (option_and_then (λ i. bitmap_at t i c.name) o)) id) ∙ fresh);
      room = not-refused _ _ asks.1.1.1.1.1.1.0;
    }
  where
    none-of : (o : Option BitmapRow) → is_some o ≡ false → o ≡ None
    none-of None h = refl
    none-of (Some row) h = absurd cc

-- so the table of bitmaps doesn't refuse it
same-granularity : (amount : Option Amount) → is_granularity amount ≡ true → may_have (amount_or 65536 amount) ≡ true
unfolding lib.Count.ones
same-granularity None h = refl
same-granularity (Some (Number n)) h = h
same-granularity (Some Negative) h = absurd cc

none-mapped : (found : Option Bitmap) → option_map bitmap_of found ≡ None → found ≡ None
none-mapped None h = refl
none-mapped (Some row) h = absurd cc

pub never-refused : (t : RunTable) (rows : List Bitmap) (c : BitmapAdd (List ℕ)) → AreBitmapsOf t.bitmaps rows → refusal_to t told_none (command.BitmapAdd c) ≡ None
    → add_refusal rows (id_or 0 t (Some c.node)) c.name (amount_or 65536 c.granularity) ≡ None
never-refused t rows c was none =
    let asked = add-asked t c none in
    let id : id_or 0 t (Some c.node) ≡ asked.node = ap (λ (o : Option ℕ). unwrap_or o 0) asked.found in
    let absent : find_row rows (id_or 0 t (Some c.node)) c.name ≡ None =
    ap (λ i. find_row rows i c.name) id ∙ none-mapped _ (sym (found-bitmap asked.node c.name t.bitmaps rows was) ∙ asked.fresh) in
    let many : nat_le 64 (length rows) ≡ false =
    ap (nat_le 64) (sym (length-map rows bitmap_of) ∙ sym (ap length was.listed)) ∙ asked.room in
    rw (absent, same-granularity c.granularity asked.granularity, many) refl

-- ---- every command

merges-follow : (t : RunTable) (node target : List ℕ) (sources : SeenSources) (u : RunTable) (rows : List Bitmap) → AreBitmapsOf u.bitmaps rows
    → FollowChanges u rows (bitmaps_merged t node target sources rows) (merges t node target sources)
unfolding changed
merges-follow t node target [] u rows was = follow-none u rows was
merges-follow t node target (s ∷ sources) u rows was =
    let next : List Bitmap =
    with_source rows (id_or 0 t (Some node)) target (find_row rows (id_or 0 t (Some (source_node node s))) (source_name s)) in
    follow-merged u rows was (id_or 0 t (Some node)) target (id_or 0 t (Some (source_node node s))) (source_name s)
    (bitmaps_merged t node target sources next) (merges t node target sources)
    (merges-follow t node target sources u next (merged-bitmaps (id_or 0 t (Some node)) target u.bitmaps rows was _))

pub command-follow : (t : RunTable) (rows : List Bitmap) (c : Cmd) (new : Option Bitmap) → AreBitmapsOf t.bitmaps rows → is_of_bitmaps c ≡ true
    → refusal_to t told_none c ≡ None → IsNewFor t c new → FollowChanges t rows (bitmaps_after t c new rows) (command_edits t told_none c)
unfolding edits_of
command-follow t rows (command.BitmapAdd c) None was is none new = absurd (new tt)
command-follow t rows (command.BitmapAdd c) (Some row) was is none new =
    let asked = add-asked t c none in
    let id : id_or 0 t (Some c.node) ≡ asked.node = ap (λ (o : Option ℕ). unwrap_or o 0) asked.found in
    let node : row.node ≡ asked.node = ap (λ (r : BitmapRow). r.node) new.named ∙ id in
    let name : row.name.bytes ≡ c.name = ap (λ (r : BitmapRow). r.name) new.named in
    let fresh : bitmap_at t row.node row.name.bytes ≡ None = ap (λ n. bitmap_at t n row.name.bytes) node ∙ ap (bitmap_at t asked.node) name ∙ asked.fresh in
    subst (λ (r : BitmapRow). FollowChanges t rows (rows ++ row ∷ []) (change.AddBitmap r ∷ [])) new.named (follow-added t rows was row fresh new.free new.blank)
command-follow t rows (command.BitmapRemove c) new was is none fits = follow-removed t rows was (id_or 0 t (Some c.node)) c.name
command-follow t rows (command.BitmapClear c) new was is none fits = follow-cleared t rows was (id_or 0 t (Some c.node)) c.name
command-follow t rows (command.BitmapEnable c) new was is none fits = follow-turned t rows was (id_or 0 t (Some c.node)) c.name true
command-follow t rows (command.BitmapDisable c) new was is none fits = follow-turned t rows was (id_or 0 t (Some c.node)) c.name false
command-follow t rows (command.BitmapMerge c) new was is none fits = merges-follow t c.node c.target c.bitmaps t rows was
command-follow t rows _ new was is none fits = absurd cc

pub after-follow : (t : RunTable) (old now : List Bitmap) (c : Cmd) → AreBitmapsOf t.bitmaps old → is_of_bitmaps c ≡ true
    → refusal_to t told_none c ≡ None → AreAfter t c old now → FollowChanges t old now (command_edits t told_none c)
after-follow t old now c was is none after =
    subst (λ (rows : List Bitmap). FollowChanges t old rows (command_edits t told_none c)) (sym after.are) (command-follow t old c after.new was is none after.is_new)

-- ---- calls that may refuse

-- without a row of the name nothing changes
absent-first : (test : Bitmap → Bool) (f : Bitmap → Bitmap) (rows : List Bitmap) → first_row test rows ≡ None → with_first test f rows ≡ rows
absent-first test f [] none = refl
absent-first test f (row ∷ rows) none = at (test row) none (λ h. absent-first test f rows h)
  where
    at : (b : Bool) → cond b (Some row) (first_row test rows) ≡ None → (first_row test rows ≡ None → with_first test f rows ≡ rows)
        → cond b (f row ∷ rows) (row ∷ with_first test f rows) ≡ row ∷ rows
    at true h rest = absurd cc
    at false h rest = ap (λ rs. row ∷ rs) (rest h)

absent-without : (test : Bitmap → Bool) (rows : List Bitmap) → first_row test rows ≡ None → without_first test rows ≡ rows
absent-without test [] none = refl
absent-without test (row ∷ rows) none = at (test row) none (λ h. absent-without test rows h)
  where
    at : (b : Bool) → cond b (Some row) (first_row test rows) ≡ None → (first_row test rows ≡ None → without_first test rows ≡ rows)
        → cond b rows (row ∷ without_first test rows) ≡ row ∷ rows
    at true h rest = absurd cc
    at false h rest = ap (λ rs. row ∷ rs) (rest h)

-- no job uses the first row that passes a test
abbrev pub IsIdle : List Bitmap → (Bitmap → Bool) → Type 0
IsIdle rows test = (row : Bitmap) → first_row test rows ≡ Some row → row.busy ≡ None

-- then it is refused where there is none alone
refused-absent : (rows : List Bitmap) (test : Bitmap → Bool) (stop : BitmapStop) → IsIdle rows test → use_refusal (first_row test rows) ≡ Some stop → first_row test rows ≡ None
refused-absent rows test stop free refused = at (first_row test rows) refl refused
  where
    at : (found : Option Bitmap) → first_row test rows ≡ found → use_refusal found ≡ Some stop → found ≡ None
    at None is h = refl
    at (Some row) is h =
        let none : row.busy ≡ None = free row is in
        absurd (let bad : None ≡ Some stop = sym (ap busy_refusal none) ∙ h in cc bad)

module _ {A : Type 0} (rows now : List Bitmap) (test : Bitmap → Bool) (free : IsIdle rows test) (r : Result A BitmapStop)
    (answer : MatchOption (use_refusal (first_row test rows)) (IsOk r) (λ stop. r ≡ Err stop)) (refused : OnErr r (now ≡ rows)) where
  absent-where : (found : Option BitmapStop) → use_refusal (first_row test rows) ≡ found → MatchOption found (IsOk r) (λ stop. r ≡ Err stop) → (IsOk r) ⊎ (first_row test rows ≡ None)
  absent-where None is ok = inl ok
  absent-where (Some stop) is err = inr (refused-absent rows test stop free is)

  -- the first row of the name is changed, whatever was answered
  pub changed-so : (f : Bitmap → Bitmap) → OnOk r (now ≡ with_first test f rows) → now ≡ with_first test f rows
  changed-so f done = at r (absent-where (use_refusal (first_row test rows)) refl answer) done refused
    where
      at : (r : Result A BitmapStop) → (IsOk r ⊎ (first_row test rows ≡ None)) → OnOk r (now ≡ with_first test f rows) → OnErr r (now ≡ rows) → now ≡ with_first test f rows
      at (Ok a) which done refused = done
      at (Err e) (inl ok) done refused = absurd cc
      at (Err e) (inr none) done refused = refused ∙ sym (absent-first test f rows none)

  pub removed-so : OnOk r (now ≡ without_first test rows) → now ≡ without_first test rows
  removed-so done = at r (absent-where (use_refusal (first_row test rows)) refl answer) done refused
    where
      at : (r : Result A BitmapStop) → (IsOk r ⊎ (first_row test rows ≡ None)) → OnOk r (now ≡ without_first test rows) → OnErr r (now ≡ rows) → now ≡ without_first test rows
      at (Ok a) which done refused = done
      at (Err e) (inl ok) done refused = absurd cc
      at (Err e) (inr none) done refused = refused ∙ sym (absent-without test rows none)

-- so it is with the row that a command names
pub idle-named : (t : RunTable) (rows : List Bitmap) (id : ℕ) (node said-node name said-name : List ℕ) → id ≡ id_or 0 t (Some node) → node ≡ said-node → name ≡ said-name
    → IsIdleAt rows (id_or 0 t (Some said-node)) said-name → IsIdle rows (is_named id name)
idle-named t rows id node said-node name said-name is first second idle =
    subst (λ (n : ℕ). IsIdle rows (is_named n name)) (sym (is ∙ ap (λ (m : List ℕ). id_or 0 t (Some m)) first))
    (subst (λ (m : List ℕ). IsIdle rows (is_named (id_or 0 t (Some said-node)) m)) (sym second) idle)

-- the names table refuses a command of one that a job uses
asked-idle : (t : RunTable) (rows : List Bitmap) (c : BitmapName (List ℕ)) → AreBitmapsOf t.bitmaps rows
    → NoneHolds t told_none (bitmap_names c ++ bitmap_rest c) → IsIdleAt rows (id_or 0 t (Some c.node)) c.name
unfolding holds
asked-idle t rows c was asks row found =
    let named = found-named t told_none c.node asks.1.1.0 in
    let id : id_named t c.node ≡ Some named.0.id = ap (option_map (λ (r : NodeRecord). r.id)) named.1 in
    let at : id_or 0 t (Some c.node) ≡ named.0.id = ap (λ (o : Option ℕ). unwrap_or o 0) id in
    let here : bitmap_at t named.0.id c.name ≡ Some (bitmap_of row) =
    found-bitmap named.0.id c.name t.bitmaps rows was ∙ ap (option_map bitmap_of) (ap (λ n. find_row rows n c.name) (sym at) ∙ found) in
    let one : bitmap_named t c.node c.name ≡ Some (bitmap_of row) = ap (option_and_then (λ i. bitmap_at t i c.name)) id ∙ here in
    unmapped (λ job. refusal.BitmapBusy row.name.bytes (job_id t job)) row.busy (sym (ap (if_there (busy t)) one) ∙ asks.1.1.1.1.0)
  where
    unmapped : {A B : Type 0} (f : A → B) (o : Option A) → option_map f o ≡ None → o ≡ None
    unmapped f None none = refl
    unmapped f (Some a) none = absurd cc

-- so it is with what each accepted command names
pub remove-idle : (t : RunTable) (rows : List Bitmap) (c : BitmapName (List ℕ)) → AreBitmapsOf t.bitmaps rows → refusal_to t told_none (command.BitmapRemove c) ≡ None
    → IsIdleAt rows (id_or 0 t (Some c.node)) c.name
unfolding asks_of
remove-idle t rows c was none = asked-idle t rows c was (asked t told_none (command.BitmapRemove c) none)

pub clear-idle : (t : RunTable) (rows : List Bitmap) (c : BitmapName (List ℕ)) → AreBitmapsOf t.bitmaps rows → refusal_to t told_none (command.BitmapClear c) ≡ None
    → IsIdleAt rows (id_or 0 t (Some c.node)) c.name
unfolding asks_of
clear-idle t rows c was none = asked-idle t rows c was (asked t told_none (command.BitmapClear c) none)

pub enable-idle : (t : RunTable) (rows : List Bitmap) (c : BitmapName (List ℕ)) → AreBitmapsOf t.bitmaps rows → refusal_to t told_none (command.BitmapEnable c) ≡ None
    → IsIdleAt rows (id_or 0 t (Some c.node)) c.name
unfolding asks_of
enable-idle t rows c was none = asked-idle t rows c was (asked t told_none (command.BitmapEnable c) none)

pub disable-idle : (t : RunTable) (rows : List Bitmap) (c : BitmapName (List ℕ)) → AreBitmapsOf t.bitmaps rows → refusal_to t told_none (command.BitmapDisable c) ≡ None
    → IsIdleAt rows (id_or 0 t (Some c.node)) c.name
unfolding asks_of
disable-idle t rows c was none = asked-idle t rows c was (asked t told_none (command.BitmapDisable c) none)

-- the rows that a command names
pub same-named : (t : RunTable) (P : (Bitmap → Bool) → List Bitmap) (id : ℕ) (node said-node name said-name : List ℕ)
    → id ≡ id_or 0 t (Some node) → node ≡ said-node → name ≡ said-name → P (is_named id name) ≡ P (is_named (id_or 0 t (Some said-node)) said-name)
same-named t P id node said-node name said-name is first second =
    ap (λ (n : ℕ). P (is_named n name)) (is ∙ ap (λ (m : List ℕ). id_or 0 t (Some m)) first)
    ∙ ap (λ (m : List ℕ). P (is_named (id_or 0 t (Some said-node)) m)) second

-- what is so where nothing is refused
pub when-none : {A : Type 0} (found : Option A) (N : Type 0) (P : A → Type 0) → found ≡ None → MatchOption found N P → N
when-none None N P none is = is
when-none (Some a) N P none is = absurd (let bad : ⊥ = cc none in bad)

-- ---- counts, one after another

counted-bytes : (row : Bitmap) → IsSoundBitmap row → min (dirty_below row (length row.dirty) * row.granularity) (2 ^ 64 - 1) ≡ dirty_bytes (dirty_in row)
counted-bytes row free =
    let count = sound-count row free in
    let few : dirty_below row (length row.dirty) * row.granularity < 2 ^ 64 = count.few in
    let same : min (dirty_below row (length row.dirty) * row.granularity) (2 ^ 64 - 1) ≡ dirty_below row (length row.dirty) * row.granularity = omega (arith, few) in
    same ∙ count.same

pub counts-more : (rows : List Bitmap) (i : ℕ) (row : Bitmap) (items : List ℕ) (count : ℕ) → i < length rows → row ≡ get_or rows i row → AreSound rows
    → count ≡ min (dirty_below row (length row.dirty) * row.granularity) (2 ^ 64 - 1)
    → items ≡ map dirty_bytes (map dirty_in (take i rows)) → items ++ count ∷ [] ≡ map dirty_bytes (map dirty_in (take (i + 1) rows))
counts-more rows i row items count less at free is was =
    let bytes : count ≡ dirty_bytes (dirty_in row) = is ∙ counted-bytes row (free row (i, less, sym at)) in
    let more : take (i + 1) rows ≡ take i rows ++ row ∷ [] = take_more rows i row less ∙ ap (λ (x : Bitmap). take i rows ++ x ∷ []) (sym at) in
    let dirty : map dirty_in (take (i + 1) rows) ≡ map dirty_in (take i rows) ++ dirty_in row ∷ [] = ap (map dirty_in) more ∙ map_push dirty_in (take i rows) row in
    ap (λ (n : ℕ). items ++ n ∷ []) bytes ∙ ap (λ (ns : List ℕ). ns ++ dirty_bytes (dirty_in row) ∷ []) was
    ∙ sym (ap (map dirty_bytes) dirty ∙ map_push dirty_bytes (map dirty_in (take i rows)) (dirty_in row))

-- ---- a merge, one source after another

pub merged-more : (t : RunTable) (node target : List ℕ) (s : MergeSource (List ℕ)) (rest : SeenSources) (old now : List Bitmap) (to from : ℕ) (into name : List ℕ)
    → to ≡ id_or 0 t (Some node) → into ≡ target → from ≡ id_or 0 t (Some (source_node node s)) → name ≡ source_name s
    → now ≡ with_source old to into (find_row old from name) → bitmaps_merged t node target rest now ≡ bitmaps_merged t node target (s ∷ rest) old
merged-more t node target s rest old now to from into name is_to is_into is_from is_name is =
    ap (bitmaps_merged t node target rest)
    (is
    ∙ ap (λ (n : ℕ). with_source old n into (find_row old from name)) is_to
    ∙ ap (λ (m : List ℕ). with_source old (id_or 0 t (Some node)) m (find_row old from name)) is_into
    ∙ ap (λ (n : ℕ). with_source old (id_or 0 t (Some node)) target (find_row old n name)) is_from
    ∙ ap (λ (m : List ℕ). with_source old (id_or 0 t (Some node)) target (find_row old (id_or 0 t (Some (source_node node s))) m)) is_name)
