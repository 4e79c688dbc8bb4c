-- What the writing of a piece leaves of an image's entries, by its steps: all but that of its cluster stay, and that one does where it
-- isn't Good.
use Rattle.std.proofs.Common.{◌≡◌, inl, inr, ℕ, ◌*◌, Bool, true, false, List, [], ◌∷◌, ◌++◌, get_or, replicate, Option, Some, None, refl, sym, ◌∙◌, ap, subst}
use Rattle.std.specs.Prelude.{if◌then◌else◌}
use Rattle.std.proofs.lemmas.List.{get_or-set_other}
use Rattle.blk_base.specs.Content.{Write}
use Rattle.blk_base.specs.Pieces.{Extent}
use Rattle.blk_base.specs.declared.fault.DevStop.{DevStop}
use Rattle.blk_base.specs.declared.fault.DevStop.TheVariants as stops
use Rattle.blk_base.specs.declared.fault.Outcome.{Outcome}
use Rattle.blk_base.specs.declared.fault.Outcome.TheVariants.{Good, Torn, Io, NoSpace}
use Rattle.q2_format.specs.Entry.{host_of}
use Rattle.q2_format.specs.declared.entries.L2Entry.{L2Entry}
use Rattle.q2_format.specs.declared.entries.L2Entry.TheVariants as entries
use Rattle.q2_tables.specs.Kept as tables
use Rattle.q2_image.specs.Image.{Known, cluster_size_in, word_in, entry_in}
use Rattle.q2_image.specs.Made.{WriteStep, IsKnownBy, WroteOwn, known_after, clear_steps, take_steps, table_steps, host_steps, data_steps, entry_steps, fill_steps, clean_steps, put_steps, zero_steps, word_for}
use Rattle.q2_image.specs.Room.{cluster_of, entry_for, is_whole}
use Rattle.q2_image.specs.Writing.{HasEntriesBut, autocleared, host_for, needs_host, needs_table, table_for, with_host, with_table, with_taken}
use Rattle.blk_nodes.specs.Changing.{seen, ChangesAround, ChangesBySteps, ChangesInPlace, ChangesPart, IsImageWritten, IsZeroed, MakesChange, ZeroesBy, ZeroesPart}
use Rattle.blk_nodes.specs.Nodes.{DeviceSeen}

-- P holds of what is known behind each of some steps
abbrev AllKnown : (Known → Type 0) → List WriteStep → Type 0
AllKnown P [] = Unit {0}
AllKnown P (step ∷ steps) = P step.known × AllKnown P steps

-- and behind each but the last
abbrev AllBefore : (Known → Type 0) → List WriteStep → Type 0
AllBefore P [] = Unit {0}
AllBefore P (step ∷ []) = Unit {0}
AllBefore P (step ∷ next ∷ steps) = P step.known × AllBefore P (next ∷ steps)

known_at : (P : Known → Type 0) (image : Known) (steps : List WriteStep) → P image → AllKnown P steps → P (known_after image steps)
known_at P image [] first all = first
known_at P image (step ∷ steps) first all = known_at P step.known steps all.0 all.1

first_known : (P : Known → Type 0) (xs ys : List WriteStep) → AllKnown P (xs ++ ys) → AllKnown P xs
first_known P [] ys all = tt
first_known P (x ∷ xs) ys all = (all.0, first_known P xs ys all.1)

both_known : (P : Known → Type 0) (xs ys : List WriteStep) → AllKnown P xs → AllKnown P ys → AllKnown P (xs ++ ys)
both_known P [] ys first last = last
both_known P (x ∷ xs) ys first last = (first.0, both_known P xs ys first.1 last)

both_before : (P : Known → Type 0) (xs ys : List WriteStep) → AllKnown P xs → AllBefore P ys → AllBefore P (xs ++ ys)
both_before P [] ys first last = last
both_before P (x ∷ []) [] first last = tt
both_before P (x ∷ []) (y ∷ ys) first last = (first.0, last)
both_before P (x ∷ next ∷ xs) ys first last = (first.0, both_before P (next ∷ xs) ys first.1 last)

known_before : (P : Known → Type 0) (xs : List WriteStep) (step : WriteStep) (ys : List WriteStep) → AllBefore P (xs ++ step ∷ ys) → AllKnown P xs
known_before P [] step ys all = tt
known_before P (x ∷ []) step ys all = (all.0, tt)
known_before P (x ∷ next ∷ xs) step ys all = (all.0, known_before P (next ∷ xs) step ys all.1)

-- of what is left, whether all were made or not
left_known : (P : Known → Type 0) (image : Known) (steps : List WriteStep) (stop : Option DevStop) (made : List Write) (left : Known)
    → IsKnownBy stop image steps made left → P image → AllKnown P steps → P left
left_known P image steps None made left is first all = subst P (sym is) (known_at P image steps first all)
left_known P image steps (Some stop) made left is first all =
    subst P (sym is.known)
    (known_at P image is.before first (first_known P is.before (is.step ∷ is.behind) (subst (AllKnown P) is.steps_are all)))

-- and where they were stopped
stopped_known : (P : Known → Type 0) (image : Known) (steps : List WriteStep) (stop : DevStop) (made : List Write) (left : Known)
    → IsKnownBy (Some stop) image steps made left → P image → AllBefore P steps → P left
stopped_known P image steps stop made left is first all =
    subst P (sym is.known)
    (known_at P image is.before first (known_before P is.before is.step is.behind (subst (AllBefore P) is.steps_are all)))

-- The steps of a put and of a zero write.
module _ (image : Known) (cluster : ℕ) where
  -- the tables stay
  abbrev Keeps : Known → Type 0
  Keeps now = now.tables ≡ image.tables

  abbrev KeepsBut : Known → Type 0
  KeepsBut now = HasEntriesBut image now cluster

  keeps_but : (now : Known) → Keeps now → KeepsBut now
  keeps_but now same other apart = ap (λ (t : tables.KeptTables). get_or t.words other 0) same

  all_but : (steps : List WriteStep) → AllKnown Keeps steps → AllKnown KeepsBut steps
  all_but [] all = tt
  all_but (step ∷ steps) all = (keeps_but step.known all.0, all_but steps all.1)

  take_keeps : (b : Bool) (now : Known) → Keeps now → AllKnown Keeps (if b then take_steps now else [])
  take_keeps true now same = (same, (same, tt))
  take_keeps false now same = tt

  taken_keeps : (b : Bool) (now : Known) → Keeps now → Keeps (if b then with_taken now else now)
  taken_keeps true now same = same
  taken_keeps false now same = same

  entry_but : (now : Known) (entry : L2Entry) (table : ℕ) → Keeps now → AllKnown KeepsBut (entry_steps now cluster entry table)
  entry_but now entry table same = (
    λ other apart.
        get_or-set_other now.tables.words cluster other (word_for now entry) 0 apart
        ∙ ap (λ (t : tables.KeptTables). get_or t.words other 0) same,
    tt,
  )

  module _ (bytes : List ℕ) where
    abbrev zeroth : Known
    zeroth = autocleared image

    abbrev first : Known
    first = with_table zeroth cluster

    abbrev second : Known
    second = with_host first cluster

    abbrev payload : List WriteStep
    payload = data_steps second (host_for zeroth cluster) bytes

    abbrev entry : List WriteStep
    entry = entry_steps second cluster (entries.Host (host_for zeroth cluster)) (table_for zeroth cluster)

    first_keeps : Keeps first
    first_keeps = taken_keeps (needs_table zeroth cluster) zeroth refl

    second_keeps : Keeps second
    second_keeps = taken_keeps (needs_host first cluster) first first_keeps

    tables_keep : AllKnown Keeps (table_steps zeroth cluster)
    tables_keep = take_keeps (needs_table zeroth cluster) zeroth refl

    hosts_keep : AllKnown Keeps (host_steps first cluster)
    hosts_keep = take_keeps (needs_host first cluster) first first_keeps

    put_but : AllKnown KeepsBut (put_steps image cluster bytes)
    put_but =
        both_known KeepsBut (clear_steps image) (fill_steps zeroth cluster bytes) (keeps_but zeroth refl, tt)
        (both_known KeepsBut (table_steps zeroth cluster) (host_steps first cluster ++ (payload ++ entry)) (all_but (table_steps zeroth cluster) tables_keep)
        (both_known KeepsBut (host_steps first cluster) (payload ++ entry) (all_but (host_steps first cluster) hosts_keep)
        (both_known KeepsBut payload entry (keeps_but second second_keeps, tt) (entry_but second (entries.Host (host_for zeroth cluster)) (table_for zeroth cluster) second_keeps))))

    put_before : AllBefore Keeps (put_steps image cluster bytes)
    put_before =
        both_before Keeps (clear_steps image) (fill_steps zeroth cluster bytes) (refl, tt)
        (both_before Keeps (table_steps zeroth cluster) (host_steps first cluster ++ (payload ++ entry)) tables_keep
        (both_before Keeps (host_steps first cluster) (payload ++ entry) hosts_keep (both_before Keeps payload entry (second_keeps, tt) tt)))

  abbrev clear_entry : List WriteStep
  clear_entry =
      entry_steps (with_table (autocleared image) cluster) cluster (entries.Zero (host_of (entry_in (autocleared image) cluster)))
      (table_for (autocleared image) cluster)

  zero_but : AllKnown KeepsBut (zero_steps image cluster)
  zero_but =
      both_known KeepsBut (clear_steps image) (clean_steps (autocleared image) cluster) (keeps_but (autocleared image) refl, tt)
      (both_known KeepsBut (table_steps (autocleared image) cluster) clear_entry (all_but (table_steps (autocleared image) cluster) (tables_keep []))
      (entry_but (with_table (autocleared image) cluster) (entries.Zero (host_of (entry_in (autocleared image) cluster))) (table_for (autocleared image) cluster) (first_keeps [])))

  zero_before : AllBefore Keeps (zero_steps image cluster)
  zero_before =
      both_before Keeps (clear_steps image) (clean_steps (autocleared image) cluster) (refl, tt)
      (both_before Keeps (table_steps (autocleared image) cluster) clear_entry (tables_keep []) tt)

-- By how it went.

-- the entries of all clusters but one stay, and unless it is Good that one's too
abbrev pub LeavesEntries : Known → Known → ℕ → Outcome → Type 0
LeavesEntries image now cluster Good = HasEntriesBut image now cluster
LeavesEntries image now cluster outcome = (n : ℕ) → word_in now n ≡ word_in image n

same_entries : (image now : Known) (cluster : ℕ) (o : Outcome) → ((n : ℕ) → word_in now n ≡ word_in image n) → LeavesEntries image now cluster o
same_entries image now cluster Good same = λ other apart. same other
same_entries image now cluster (Torn done dev count) same = same
same_entries image now cluster (Io dev count) same = same
same_entries image now cluster (NoSpace dev) same = same

by_tables : (image now : Known) → now.tables ≡ image.tables → (n : ℕ) → word_in now n ≡ word_in image n
by_tables image now same n = ap (λ (t : tables.KeptTables). get_or t.words n 0) same

module _ (image now : Known) (cluster : ℕ) (before after : DeviceSeen) (steps : List WriteStep) (place : ℕ) (bytes : List ℕ) (but : AllKnown (KeepsBut image cluster) steps)
    (first : AllBefore (Keeps image cluster) steps) where
  made_entries : MakesChange steps place bytes None image now before after → HasEntriesBut image now cluster
  made_entries is = left_known (KeepsBut image cluster) image steps None is.made.writes.made now is.made.known (λ other apart. refl) but

  stopped_entries : (stop : DevStop) → MakesChange steps place bytes (Some stop) image now before after → (n : ℕ) → word_in now n ≡ word_in image n
  stopped_entries stop is =
      by_tables image now (stopped_known (Keeps image cluster) image steps stop is.made.writes.made now is.made.known refl first)

  steps_entries : (IsMade : Known → Type 0) (o : Outcome) → ChangesBySteps steps place bytes IsMade image now before after o → LeavesEntries image now cluster o
  steps_entries IsMade Good is = made_entries is.0
  steps_entries IsMade (Torn done dev count) is = absurd is
  steps_entries IsMade (Io dev count) is = stopped_entries (stops.Io count) is
  steps_entries IsMade (NoSpace dev) is = by_tables image now (ap (λ (k : Known). k.tables) is.0)

module _ (IsDisk : List ℕ → Type 0) (image now : Known) (part : Extent) (bytes : List ℕ) (before after : DeviceSeen) where
  around_entries : (o : Outcome) → ChangesAround IsDisk part bytes image now before after o → LeavesEntries image now (cluster_of image part) o
  around_entries Good is =
      made_entries image now (cluster_of image part) before after (put_steps image (cluster_of image part) is.0.cluster) _ _ (put_but image (cluster_of image part) is.0.cluster) (put_before image (cluster_of image part) is.0.cluster)
      is.0.puts
  around_entries (Torn done dev count) is = absurd is
  around_entries (Io dev count) (inl is) =
      stopped_entries image now (cluster_of image part) before after (put_steps image (cluster_of image part) is.cluster) _ _ (put_but image (cluster_of image part) is.cluster) (put_before image (cluster_of image part) is.cluster)
      (stops.Io count) is.puts
  around_entries (Io dev count) (inr is) = by_tables image now (ap (λ (k : Known). k.tables) is.0)
  around_entries (NoSpace dev) is = by_tables image now (ap (λ (k : Known). k.tables) is.0)

  wrote_entries : (stop : Option ℕ) → WroteOwn seen image now part bytes stop before after → (n : ℕ) → word_in now n ≡ word_in image n
  wrote_entries None is = by_tables image now (ap (λ (k : Known). k.tables) is.0)
  wrote_entries (Some n) (inl is) = by_tables image now (ap (λ (k : Known). k.tables) is.1)
  wrote_entries (Some n) (inr is) = by_tables image now (ap (λ (k : Known). k.tables) is.2)

  own_entries : (o : Outcome) → ChangesInPlace part bytes image now before after o → (n : ℕ) → word_in now n ≡ word_in image n
  own_entries Good is = wrote_entries None is.wrote
  own_entries (Torn done dev count) is = wrote_entries (Some done) is.wrote
  own_entries (Io dev count) is = wrote_entries (Some 0) is.wrote
  own_entries (NoSpace dev) is = by_tables image now (ap (λ (k : Known). k.tables) is.0)

  part_entries : (e : L2Entry) (o : Outcome) → ChangesPart IsDisk e part bytes image now before after o → LeavesEntries image now (cluster_of image part) o
  part_entries entries.Unallocated o is = around_entries o is
  part_entries (entries.Zero host) o is = around_entries o is
  part_entries (entries.Host host) o is = same_entries image now (cluster_of image part) o (own_entries o is)
  part_entries entries.Compressed o is = around_entries o is
  part_entries entries.Reserved o is = around_entries o is

  -- where bytes were written
  pub written_entries : (o : Outcome) → IsImageWritten IsDisk part bytes image now before after o → LeavesEntries image now (cluster_of image part) o
  written_entries o is = part_entries (entry_for image part) o is

-- and zeros
pub zeroed_entries : (IsDisk : List ℕ → Type 0) (image now : Known) (part : Extent) (before after : DeviceSeen) (o : Outcome) → IsZeroed IsDisk part image now before after o
    → LeavesEntries image now (cluster_of image part) o
zeroed_entries IsDisk image now part before after o is = by_whole (is_whole image part) is
  where
    by_entry : (e : L2Entry) → ZeroesPart IsDisk e part image now before after o → LeavesEntries image now (cluster_of image part) o
    by_entry entries.Unallocated is = part_entries IsDisk image now part (replicate part.len 0) before after entries.Unallocated o is
    by_entry (entries.Zero host) is = same_entries image now (cluster_of image part) o (by_tables image now (ap (λ (k : Known). k.tables) is.0.0))
    by_entry (entries.Host host) is = part_entries IsDisk image now part (replicate part.len 0) before after (entries.Host host) o is
    by_entry entries.Compressed is = part_entries IsDisk image now part (replicate part.len 0) before after entries.Compressed o is
    by_entry entries.Reserved is = part_entries IsDisk image now part (replicate part.len 0) before after entries.Reserved o is

    by_whole : (b : Bool) → ZeroesBy IsDisk b part image now before after o → LeavesEntries image now (cluster_of image part) o
    by_whole true is =
        steps_entries image now (cluster_of image part) before after (zero_steps image (cluster_of image part)) (cluster_of image part * cluster_size_in image)
        (replicate (cluster_size_in image) 0) (zero_but image (cluster_of image part)) (zero_before image (cluster_of image part))
        (λ (k : Known). entry_in k (cluster_of image part) ≡ entries.Zero (host_of (entry_in image (cluster_of image part)))) o is
    by_whole false is = by_entry (entry_for image part) is
