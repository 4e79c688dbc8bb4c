-- What was seen for an addition is what the flat machine says of the files.
use Rattle.std.proofs.Common.{◌≡◌, ◌≢◌, ◌⊎◌, ℕ, true, false, List, map, inl, inr, refl, sym, ◌∙◌, ap, subst, Option, Some, None}
use Rattle.std.specs.List.{list_any}
use Rattle.blk_graph.proofs.Members.{Contains-nil}
use Rattle.qmp_codec.specs.declared.command.Command.TheVariants as command
use Rattle.qmp_rules.specs.declared.refusal.Refusal.{Refusal}
use Rattle.qmp_rules.specs.declared.refusal.Refusal.TheVariants as refusal
use Rattle.qmp_rules.specs.declared.rows.FileState.{FileState}
use Rattle.qmp_rules.specs.declared.rows.FileState.TheVariants.{Made, Formatted, Used}
use Rattle.qmp_asks.specs.declared.look.Look.{Look}
use Rattle.qmp_rules.specs.declared.told.Stopped.{Stopped}
use Rattle.qmp_rules.specs.declared.told.Told.{Told}
use Rattle.qmp_rules.specs.Table.{file_state}
use Rattle.qmp_rules.specs.Looks.{is_unopened}
use Rattle.qmp_rules.specs.Asks.{is_lost, stands_for}
use Rattle.qmp_asks.specs.NodeAsks.{add_asks}
use Rattle.qmp_rules.specs.Answers.{answer, refusal_to}
use Rattle.blk_history.specs.Fold.{With}
use Rattle.flat_machine.specs.State.{State, Content, Bytes, Blank, Unknown, content_in}
use Rattle.flat_machine.specs.Marking.{dirty_bytes}
use Rattle.flat_machine.specs.Sights.{IsTold, MayStop, Fails, order_of, told_for}
use Rattle.flat_machine.specs.Agreement.{Agrees, Contents}
use Rattle.flat_machine.specs.Standing.{Stands, IsOfState, IsKnownWhole}
use Rattle.flat_machine.proofs.Accepted.{none-over, opened_parts}
use Rattle.world_parts.specs.Adding.{Adding, probe}
use Rattle.world_additions.proofs.AddTold.{IsFrom, looks_at, has_look, silent-from}
use Rattle.world_additions.proofs.AddRefused.{answer-dirty, answer-refused, refusal-told, stop-refused, unreached-refused}

-- ---- what is known of a file that may be opened

module _ (opening : List ℕ → Option (List ℕ)) (s : State) (held : Contents) (agrees : Agrees opening s held) (stands : Stands s)
    (name : List ℕ) (closed : is_unopened s.table name ≡ false) where
  parts : (list_any (stands_for name) s.table.nodes ≡ false) × (is_lost false (file_state s.table name) ≡ false)
  parts = let all = opened_parts s.table name closed in (all.1, all.2)

  whole : (content : Content) → content_in s.files name ≡ Some content → IsKnownWhole content
  whole content is =
      by_state (file_state s.table name) refl parts.1
      (stands.states name content is (λ row over under. none-over s.table name parts.0 row over))
    where
      by_state : (state : Option FileState) → file_state s.table name ≡ state → is_lost false state ≡ false → IsOfState state content → IsKnownWhole content
      by_state None e kept is_so = is_so
      by_state (Some Made) e kept is_so = is_so
      by_state (Some Used) e kept is_so = absurd (cc kept)
      by_state (Some Formatted) e kept is_so =
          let over = stands.formatted name e in absurd (none-over s.table name parts.0 over.0 over.1)

  -- one that is there is known wholly
  pub known-there : (bytes : List ℕ) → held.held name ≡ Some bytes → content_in s.files name ≡ Some (Bytes bytes)
  known-there bytes there = by_content (content_in s.files name) refl
    where
      by_content : (found : Option Content) → content_in s.files name ≡ found → found ≡ Some (Bytes bytes)
      by_content None e = let none : Some bytes ≡ None = sym there ∙ agrees.absent name e in absurd (cc none)
      by_content (Some (Bytes known)) e =
          let same : Some known ≡ Some bytes = sym (agrees.known name (Bytes known) e) ∙ there in
          let is : known ≡ bytes = cc same in
          ap (λ (b : List ℕ). Some (Bytes b)) is
      by_content (Some (Blank new len)) e = absurd (whole (Blank new len) e)
      by_content (Some Unknown) e = absurd (whole Unknown e)

  pub known-absent : held.held name ≡ None → content_in s.files name ≡ None
  known-absent none = by_content (content_in s.files name) refl
    where
      by_content : (found : Option Content) → content_in s.files name ≡ found → found ≡ None
      by_content None e = refl
      by_content (Some (Bytes known)) e = let bad : Some known ≡ None = sym (agrees.known name (Bytes known) e) ∙ none in absurd (cc bad)
      by_content (Some (Blank new len)) e = absurd (whole (Blank new len) e)
      by_content (Some Unknown) e = absurd (whole Unknown e)

-- ---- answers by what was seen

-- what is told where no call fails
abbrev pub expects : State → Adding → Told
expects s c = told_for s (command.BlockdevAdd c)

-- What stops it is what the files say, or a call that failed.
abbrev pub IsExact : State → Adding → Option Stopped → Type 0
IsExact s c stopped = (stopped ≡ (expects s c).stopped) ⊎ With stopped (Fails s.table (command.BlockdevAdd c) (expects s c).stopped)

may-stop : (s : State) (c : Adding) (stopped : Option Stopped) → IsExact s c stopped
    → MayStop s (command.BlockdevAdd c) (expects s c).stopped stopped
may-stop s c stopped (inl same) = inl same
may-stop s c stopped (inr fails) = inr (inl fails)

-- The files may tell something by which the answer is the same.
pub record IsSeenAs (s : State) (c : Adding) (told : Told) : Type 0 where
  pub seen : Told
  pub is_told : IsTold s (command.BlockdevAdd c) seen
  pub exact : IsExact s c seen.stopped
  pub same : answer s.table seen (command.BlockdevAdd c) ≡ answer s.table told (command.BlockdevAdd c)

module _ (s : State) (c : Adding) where
  abbrev dirty : List ℕ
  dirty = map dirty_bytes s.dirty

  -- what was told, with the lengths and sizes that the files have
  abbrev complete : Told → Told
  complete told = record told { length = (expects s c).length; size = (expects s c).size; dirty = dirty }

  completed : (told : Told) → IsExact s c told.stopped → IsTold s (command.BlockdevAdd c) (complete told)
  completed told exact = record {
    file = refl;
    image = refl;
    refusal = may-stop s c told.stopped exact;
    clusters = λ name node there at. absurd (Contains-nil name there);
    bitmaps = refl;
  }

  -- all was told
  pub seen-whole : (told : Told) → expects s c ≡ told → IsSeenAs s c told
  seen-whole told is = record {
    seen = record told { dirty = dirty };
    is_told = record {
      file = ap (λ (a : Told). a.length) (sym is);
      image = ap (λ (a : Told). a.size) (sym is);
      refusal = inl (ap (λ (a : Told). a.stopped) (sym is));
      clusters = λ name node there at. absurd (Contains-nil name there);
      bitmaps = refl;
    };
    exact = inl (ap (λ (a : Told). a.stopped) (sym is));
    same = answer-dirty s.table told dirty c;
  }

  -- something stopped it that may do so
  pub seen-stopped : (told : Told) (what : Look) (cause : Refusal) → told.stopped ≡ Some (record { look = what; refusal = cause })
      → has_look what (add_asks c) ≡ true → IsExact s c told.stopped → IsSeenAs s c told
  seen-stopped told what cause stops has exact = record {
    seen = complete told;
    is_told = completed told exact;
    exact = exact;
    same = answer-refused s.table (complete told) told c (refusal-told s.table told (expects s c).length (expects s c).size dirty c)
        (stop-refused s.table told what cause c stops has);
  }

  -- the files weren't looked at, since a refusal stands before
  pub seen-unreached : (told : Told) (what : Look) → looks_at what (add_asks c) ≡ true → has_look what (add_asks c) ≡ true
      → refusal_to s.table (probe what) (command.BlockdevAdd c) ≢ Some refusal.Aborted
      → IsFrom (order_of what) told.stopped → IsFrom (order_of what) (expects s c).stopped → IsSeenAs s c told
  seen-unreached told what at has not from expected =
      let mine : Told = record told { stopped = (expects s c).stopped } in
      let here : refusal_to s.table told (command.BlockdevAdd c) ≡ refusal_to s.table (probe what) (command.BlockdevAdd c) =
      unreached-refused s.table what c at not told (silent-from what told from (add_asks c)) in
      let there : refusal_to s.table (complete mine) (command.BlockdevAdd c) ≡ refusal_to s.table (probe what) (command.BlockdevAdd c) =
      unreached-refused s.table what c at not (complete mine) (silent-from what (complete mine) expected (add_asks c)) in
      record {
        seen = complete mine;
        is_told = completed mine (inl refl);
        exact = inl refl;
        same = answer-refused s.table (complete mine) told c (there ∙ sym here)
            (λ none. stop-refused s.table (probe what) what refusal.Aborted c refl has (sym here ∙ none));
      }

  -- ---- a call that failed

  pub fails : (told : Told) (what : Look) (cause : Refusal) → told.stopped ≡ Some (record { look = what; refusal = cause })
      → Fails s.table (command.BlockdevAdd c) (expects s c).stopped (record { look = what; refusal = cause }) → IsExact s c told.stopped
  fails told what cause stops is = inr (subst (λ (found : Option Stopped). With found (Fails s.table (command.BlockdevAdd c) (expects s c).stopped)) (sym stops) is)
