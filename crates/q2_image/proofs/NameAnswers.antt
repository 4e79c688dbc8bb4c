-- The answers of the calls by which an image gets another backing name: the list of their writes, and the file that a device tells then.
use Rattle.std.proofs.Common.{◌≡◌, ℕ, ◌-◌, ◌<◌, ◌≤◌, inl, inr, List, [], ◌++◌, length, Option, Some, None, Result, Ok, Err, OnOk, OnErr, refl, sym, ap, subst, ◌∙◌, arith, append_assoc, length-append}
use Rattle.std.proofs.lemmas.List.{append-nil}
use Rattle.std.specs.Option.{ForSome, option_map}
use Rattle.std.specs.Str.{IsUtf8}
use Rattle.blk_base.specs.Content.{Write, after_writes, with_bytes}
use Rattle.blk_base.specs.Device.{CountsFault, IsMade, Untouched, Wrote, Writes, stop_of}
use Rattle.blk_base.specs.Writes.{end_of_writes, AtEachStop, IsCutBy}
use Rattle.blk_base.specs.declared.device.Device.{Ghosts}
use Rattle.blk_base.specs.declared.fault.DevStop.{DevStop}
use Rattle.blk_base.specs.declared.fault.DevStop.TheVariants.{Io, NoSpace}
use Rattle.blk_base.proofs.DeviceLemmas.{content_after, untouched-writes, wrote-content, wrote-then, writes_then}
use Rattle.q2_format.specs.Created.{IsNewName, IsNewFormat}
use Rattle.q2_format.specs.Renamed.{next_extension}
use Rattle.q2_format.proofs.ByPlace.{length-bytes_at}
use Rattle.q2_refs.proofs.Placing.{told_before}
use Rattle.q2_image.specs.BackingName.{EndsWithFields, HasSameName, IsLengthRead, MakesLast, RenamesImage, between_in, early_writes, ending_writes, format_writes, last_bytes, last_writes, name_in, rename_end, text_writes, with_format, with_name, StopsWithFields, IsKnownEarly, MakesEarly, MakesFormat, known_at}
use Rattle.q2_image.specs.Image.{Known, IsImageOf, IsOpen}
use Rattle.q2_image.specs.Made.{clear_writes}
use Rattle.q2_image.specs.Writing.{TellsFault, IsSameDisk, autocleared, count_of}
use Rattle.q2_image.proofs.HeaderWrites.{KeepsName}
use Rattle.q2_image.proofs.KnownAt.{at_clear, at_format, at_text, part_length, sooner_made, then_made, with_whole}
use Rattle.q2_image.proofs.LastWrite.{IsReadyFor, IsRenamed, last_made}
use Rattle.q2_image.proofs.NameCalls.{early_end, fields_behind, fields_fault, fields_stopped, last_past, last_told, writes_fault}
use Rattle.q2_image.proofs.NameReads.{between_past, length_told, what_is_told}
use Rattle.q2_image.proofs.NameSteps.{ending_stops, text_stops}
use Rattle.q2_image.proofs.NameStops.{StaysAsNamed, before_fields, early_stops, m4_is, open_with_format, ready_for_fields}
use Rattle.q2_image.proofs.OwnTold.{open_cleared}
use Rattle.q2_image.proofs.OwnWrites.{disk_then}

-- the answer of a call that stops
abbrev pub stopped_as : DevStop → Result (Unit {0}) DevStop
stopped_as stop = Err stop

module _ {D : Type 0} (g : Ghosts D) where
  -- All writes but the last, by the call at which they stop.
  module _ (image k1 k3 : Known) (name format : Option (List ℕ)) (n : ℕ) (is1 : k1 ≡ autocleared image) where
    abbrev C : List Write
    C = clear_writes image

    abbrev T : List Write
    T = text_writes image.header name

    abbrev F : List Write
    F = format_writes image.header format

    abbrev E : List Write
    E = ending_writes image.header name n

    text_is : (stop : Option DevStop) (b c : D) → Writes g (text_writes k1.header name) stop b c → Writes g T stop b c
    text_is stop b c w = let P : Known → Type 0 = λ k. Writes g (text_writes k.header name) stop b c in subst P is1 w

    format_is : (stop : Option DevStop) (left : Known) (b c : D) → MakesFormat g k1 format stop left b c → MakesFormat g (autocleared image) format stop left b c
    format_is stop left b c w = let P : Known → Type 0 = λ k. MakesFormat g k format stop left b c in subst P is1 w

    known_by : (made same : List Write) → made ≡ same → known_at image name format same ≡ known_at image name format made
    known_by made same is = ap (known_at image name format) (sym is)

    pub made_1 : (left : Known) (stop : DevStop) (a b : D) → Writes g C (Some stop) a b → left ≡ image → MakesEarly g image n name format (Some stop) left a b
    made_1 left stop a b w is =
        let all = sooner_made g C (T ++ (F ++ E)) stop a b w in
        let few = part_length (IsCutBy stop) C w.made w.part in
        record { writes = all.0; known = is ∙ sym (at_clear image name format w.made few.1) ∙ known_by all.0.made w.made all.1 }

    pub made_2 : (stop : DevStop) (a b c : D) → Writes g C None a b → Writes g (text_writes k1.header name) (Some stop) b c
        → MakesEarly g image n name format (Some stop) k1 a c
    made_2 stop a b c w1 w2 =
        let w = text_is (Some stop) b c w2 in
        let text = sooner_made g T (F ++ E) stop b c w in
        let all = then_made g C (T ++ (F ++ E)) (Some stop) a b c w1 text.0 in
        let few = part_length (IsCutBy stop) T w.made w.part in
        let made : all.0.made ≡ C ++ w.made = all.1 ∙ ap (λ (ms : List Write). C ++ ms) text.1 in
        record { writes = all.0; known = is1 ∙ sym (at_text image name format w.made few.0 few.1) ∙ known_by all.0.made (C ++ w.made) made }

    pub made_3 : (left : Known) (stop : DevStop) (a b c d : D) → Writes g C None a b → Writes g (text_writes k1.header name) None b c
        → MakesFormat g k1 format (Some stop) left c d → MakesEarly g image n name format (Some stop) left a d
    made_3 left stop a b c d w1 w2 w3 =
        let w = format_is (Some stop) left c d w3 in
        let put = sooner_made g F E stop c d w.writes in
        let text = then_made g T (F ++ E) (Some stop) b c d (text_is None b c w2) put.0 in
        let all = then_made g C (T ++ (F ++ E)) (Some stop) a b d w1 text.0 in
        let few = part_length (IsCutBy stop) F w.writes.made w.writes.part in
        let made : all.0.made ≡ C ++ (T ++ w.writes.made) = all.1 ∙ ap (λ (ms : List Write). C ++ ms) (text.1 ∙ ap (λ (ms : List Write). T ++ ms) put.1) in
        record {
          writes = all.0;
          known = w.known ∙ sym (at_format image name format w.writes.made few.0) ∙ known_by all.0.made (C ++ (T ++ w.writes.made)) made;
        }

    -- behind the format all is known that is before the last write
    pub known_later : (rest : List Write) → 0 < length rest → ForSome format IsNewFormat → known_at image name format (C ++ (T ++ (F ++ rest))) ≡ with_format (autocleared image) format
    known_later rest some new =
        at_format image name format (F ++ rest) (omega (arith, length-append F rest, some)) ∙ with_whole (autocleared image) format rest some new

    pub made_4 : (is3 : k3 ≡ with_format k1 format) (stop : Option DevStop) (a b c d e : D) → ForSome format IsNewFormat → Writes g C None a b → Writes g (text_writes k1.header name) None b c
        → MakesFormat g k1 format None k3 c d → Writes g (ending_writes k3.header name n) stop d e → MakesEarly g image n name format stop k3 a e
    made_4 is3 stop a b c d e new w1 w2 w3 w4 =
        let P : Known → Type 0 = λ k. Writes g (ending_writes k.header name n) stop d e in
        let Q : Known → Type 0 = λ k. Writes g (ending_writes (with_format k format).header name n) stop d e in
        let ending : Writes g E stop d e = subst Q is1 (subst P is3 w4) in
        let put = then_made g F E stop c d e (format_is None k3 c d w3).writes ending in
        let text = then_made g T (F ++ E) stop b c e (text_is None b c w2) put.0 in
        let all = then_made g C (T ++ (F ++ E)) stop a b e w1 text.0 in
        let made : all.0.made ≡ C ++ (T ++ (F ++ ending.made)) = all.1 ∙ ap (λ (ms : List Write). C ++ ms) (text.1 ∙ ap (λ (ms : List Write). T ++ ms) put.1) in
        let is : k3 ≡ with_format (autocleared image) format = is3 ∙ ap (λ (k : Known). with_format k format) is1 in
        record { writes = all.0; known = by_stop stop ending.made all.0.made ending.part made is }
      where
        by_stop : (stop : Option DevStop) (rest made : List Write) → IsMade stop E rest → made ≡ C ++ (T ++ (F ++ rest)) → k3 ≡ with_format (autocleared image) format
            → IsKnownEarly stop image name format made k3
        by_stop None rest made part same is = is
        by_stop (Some stop) rest made part same is =
            is ∙ sym (known_later rest (part_length (IsCutBy stop) E rest part).0 new) ∙ known_by made (C ++ (T ++ (F ++ rest))) same

  -- What a device tells behind some writes, by what it told before them.
  pub told_by : (P : List ℕ → List ℕ → Type 0) (ws : List Write) (stop : Option DevStop) (a b : D) → Writes g ws stop a b
      → ((file : List ℕ) → g.content a ≡ Some file → AtEachStop (P file) ws file) → (now : List ℕ) → g.content b ≡ Some now
      → (file : List ℕ) × (g.content a ≡ Some file) × P file now
  told_by P ws stop a b writes all now told =
      let was = told_before (λ bytes. after_writes bytes writes.made) (g.content a) (g.content b) now writes.wrote.content told in
      (was.0, was.1, content_after g (P was.0) ws stop a b was.0 now writes (all was.0 was.1) was.1 told)

  pub text_image : (image : Known) (name : Option (List ℕ)) (stop : Option DevStop) (a b : D) → IsOpen image → ForSome name IsNewName
      → ((file : List ℕ) → g.content a ≡ Some file → IsImageOf file image) → Writes g (text_writes image.header name) stop a b
      → (file : List ℕ) → g.content b ≡ Some file → IsImageOf file image
  text_image image name stop a b ready new is writes file told =
      (told_by (λ file now. KeepsName file now image) (text_writes image.header name) stop a b writes
      (λ file was. text_stops file image (is file was) ready name new) file told).2.image

  pub ending_image : (image : Known) (name : Option (List ℕ)) (n : ℕ) (stop : Option DevStop) (a b : D) → IsOpen image
      → ((file : List ℕ) → g.content a ≡ Some file → IsImageOf file image) → Writes g (ending_writes image.header name n) stop a b
      → (file : List ℕ) → g.content b ≡ Some file → IsImageOf file image
  ending_image image name n stop a b ready is writes file told =
      (told_by (λ file now. KeepsName file now image) (ending_writes image.header name n) stop a b writes
      (λ file was. ending_stops file image name n (is file was) ready) file told).2.image

  -- The whole call.
  module _ (image : Known) (name format : Option (List ℕ)) (n : ℕ) (a b c : D) (is : (file : List ℕ) → g.content a ≡ Some file → IsImageOf file image) (ready : IsOpen image)
      (new_name : ForSome name IsNewName) (new_format : ForSome format IsNewFormat) where
    abbrev early : List Write
    early = early_writes image n name format

    abbrev next : Known
    next = with_format (autocleared image) format

    pub early_told : (stop : Option DevStop) → Writes g early stop a b → (old new : List ℕ) → g.content a ≡ Some old → g.content b ≡ Some new → StaysAsNamed old new
    early_told stop writes old new was told =
        content_after g (StaysAsNamed old) early stop a b old new writes (early_stops old image name format n (is old was) ready new_name new_format) was told

    pub stopped_told : (stop : DevStop) (k : Known) → k ≡ next → Writes g early None a b → EndsWithFields g k.header [] name (Some stop) b c
        → (old new : List ℕ) → g.content a ≡ Some old → g.content c ≡ Some new → StaysAsNamed old new
    stopped_told stop k known first last old new was told =
        let P : Known → Type 0 = λ x. EndsWithFields g x.header [] name (Some stop) b c in
        let open_next = open_with_format (autocleared image) format (open_cleared image ready) new_format in
        early_told None first old new was (sym (fields_stopped g next name stop b c open_next (subst P known last)) ∙ told)

    mid_image : Writes g early None a b → (mid : List ℕ) → g.content b ≡ Some mid → IsImageOf mid next
    mid_image first mid told =
        let wrote = subst (λ (ws : List Write). Wrote g ws a b) first.part first.wrote in
        let before = told_before (λ bytes. after_writes bytes early) (g.content a) (g.content b) mid wrote.content told in
        let there = is before.0 before.1 in
        let K : List ℕ → Type 0 = λ m. IsImageOf m next in
        subst K (sym (m4_is before.0 image name format n there ready new_name new_format) ∙ before.2) (before_fields before.0 image name format n there ready new_name new_format).image

    -- where the last write stopped
    pub stopped_image : (stop : DevStop) (k : Known) → k ≡ next → Writes g early None a b → EndsWithFields g k.header [] name (Some stop) b c
        → (new : List ℕ) → g.content c ≡ Some new → IsImageOf new next
    stopped_image stop k known first last new told =
        let P : Known → Type 0 = λ x. EndsWithFields g x.header [] name (Some stop) b c in
        let open_next = open_with_format (autocleared image) format (open_cleared image ready) new_format in
        mid_image first new (sym (fields_stopped g next name stop b c open_next (subst P known last)) ∙ told)

    -- and where it was made
    module _ (text : ForSome name IsUtf8) (read : IsLengthRead (g.content a) (g.size a) image.header name n)
        (k : Known) (known : k ≡ next) (first : Writes g early None a b) (last : EndsWithFields g k.header [] name None b c) where
      wrote_first : Wrote g early a b
      wrote_first = subst (λ (ws : List Write). Wrote g ws a b) first.part first.wrote

      last_next : EndsWithFields g next.header [] name None b c
      last_next = let P : Known → Type 0 = λ x. EndsWithFields g x.header [] name None b c in subst P known last

      made_last : MakesLast g next.header [] name None b c
      made_last = elim last_next [
        | inl made ↦ made
        | inr fails ↦ absurd (let is = fails.is in cc)
      ]

      all_told : (old new : List ℕ) → g.content a ≡ Some old → g.content c ≡ Some new
          → IsRenamed (after_writes old early) new next name
      all_told old new was told =
          let mid : List ℕ = after_writes old early in
          let mid_told : g.content b ≡ Some mid = wrote_first.content ∙ ap (option_map (λ (bytes : List ℕ). after_writes bytes early)) was in
          let made = made_last in
          let ws : List Write = last_writes next.header made.between name in
          let W : List Write → Type 0 = λ xs. Wrote g xs b c in
          let wrote : Wrote g ws b c = subst W made.writes.part made.writes.wrote in
          let now = wrote-content g ws b c mid new wrote mid_told told in
          let between : made.between ≡ between_in mid next.header = made.told mid mid_told in
          let there = is old was in
          let at = m4_is old image name format n there ready new_name new_format in
          let R : List ℕ → Type 0 = λ m. IsReadyFor m image.header name in
          let ready_there = subst R (sym at) (ready_for_fields old image name format n there ready new_name new_format text (length_told (g.content a) (g.size a) image.header name n read old was)) in
          let open_next = open_with_format (autocleared image) format (open_cleared image ready) new_format in
          let done = last_made mid next name (mid_image first mid mid_told) open_next new_name (record { text = ready_there.text; ending = ready_there.ending }) in
          let same : with_bytes mid 8 (last_bytes next.header (between_in mid next.header) name) ≡ new =
          ap (λ (bytes : List ℕ). with_bytes mid 8 (last_bytes next.header bytes name)) (sym between) ∙ sym now in
          let S : List ℕ → Type 0 = λ m. IsRenamed mid m next name in
          subst S same done

      told_first : (new : List ℕ) → g.content c ≡ Some new → (old : List ℕ) × (g.content a ≡ Some old)
      told_first new told =
          let made = made_last in
          let mid = told_before (λ bytes. after_writes bytes made.writes.made) (g.content b) (g.content c) new made.writes.wrote.content told in
          let old = told_before (λ bytes. after_writes bytes early) (g.content a) (g.content b) mid.0 wrote_first.content mid.1 in
          (old.0, old.1)

      pub renamed_name : (new : List ℕ) → g.content c ≡ Some new → name_in new ≡ name
      renamed_name new told = let was = told_first new told in (all_told was.0 new was.1 told).name_is

      pub renamed_image : (new : List ℕ) → g.content c ≡ Some new → IsImageOf new (with_name k name None)
      renamed_image new told =
          let was = told_first new told in
          let K : Known → Type 0 = λ x. IsImageOf new (with_name x name None) in
          subst K (sym known) (all_told was.0 new was.1 told).image_is

      pub renamed_disk : (old new : List ℕ) → g.content a ≡ Some old → g.content c ≡ Some new → IsSameDisk old new
      renamed_disk old new was told =
          let mid : List ℕ = after_writes old early in
          let mid_told : g.content b ≡ Some mid = wrote_first.content ∙ ap (option_map (λ (bytes : List ℕ). after_writes bytes early)) was in
          disk_then old mid new 0 [] (early_told None first old mid was mid_told).disk (all_told old new was told).disk

  -- A read before the writes.
  pub early_behind_read : (image left : Known) (n : ℕ) (name format : Option (List ℕ)) (stop : Option DevStop) (a b c : D) → Untouched g a b
      → MakesEarly g image n name format stop left b c → MakesEarly g image n name format stop left a c
  early_behind_read image left n name format stop a b c quiet makes =
      let all = then_made g [] (early_writes image n name format) stop a b c (untouched-writes g a b quiet) makes.writes in
      record { writes = all.0; known = subst (λ (ms : List Write). IsKnownEarly stop image name format ms left) (sym all.1) makes.known }

  pub behind_read : (ws : List Write) (stop : Option DevStop) (a b c : D) → Untouched g a b → Writes g ws stop b c → Writes g ws stop a c
  behind_read ws stop a b c quiet writes = writes_then g [] ws stop a b c (untouched-writes g a b quiet) writes

  -- The same writes for the header with and without another format.
  same_fields : (image : Known) (format name : Option (List ℕ)) (ws : List Write) (stop : Option DevStop) (b c : D)
      → EndsWithFields g (with_format (autocleared image) format).header ws name stop b c → EndsWithFields g image.header ws name stop b c
  same_fields image format name ws stop b c (inl last) = inl (record { between = last.between; whole = last.whole; told = last.told; past = last.past; writes = last.writes })
  same_fields image format name ws stop b c (inr fails) =
      inr (record { needed = fails.needed; count = fails.count; is = fails.is; wrote = fails.wrote; cause = fails.cause; call = fails.call })

  -- What the call leaves of image and device, by where it stops.
  module _ (image : Known) (name format : Option (List ℕ)) (n : ℕ) (a b c : D) (ready : IsOpen image) (new_name : ForSome name IsNewName)
      (new_format : ForSome format IsNewFormat) (fits : rename_end image name format ≤ g.capacity a)
      (read : IsLengthRead (g.content a) (g.size a) image.header name n) where
    abbrev ws : List Write
    ws = early_writes image n name format

    end_early : end_of_writes ws ≤ g.capacity a
    end_early = omega (arith, fits, early_end image name format n ready new_name)

    pub early_fault : (stop : DevStop) → Writes g ws (Some stop) a b → TellsFault stop
    early_fault stop writes = writes_fault g ws (Err stop) a b writes end_early

    pub early_changes : (stop : DevStop) (left : Known) → ((file : List ℕ) → g.content a ≡ Some file → g.size a ≡ length file) → MakesEarly g image n name format (Some stop) left a b → RenamesImage g image name format (stopped_as stop) left a b
    early_changes (Io count) left sized makes =
        let between : List ℕ = between_in (after_writes (what_is_told (g.content a)) ws) image.header in
        let all = sooner_made g ws (last_writes image.header between name) (Io count) a b makes.writes in
        inr (record {
          n = n;
          read = read;
          makes = inl (
            record {
              between = between;
              whole = length-bytes_at (after_writes (what_is_told (g.content a)) ws) 20 (next_extension image.header - 20);
              told = λ file was. ap (λ (o : Option (List ℕ)). between_in (after_writes (what_is_told o) ws) image.header) was;
              past = between_past (g.content a) (g.size a) ws image.header sized;
              writes = all.0;
            },
            makes.known ∙ ap (known_at image name format) (sym all.1),
          );
        })
    early_changes NoSpace left sized makes = absurd (early_fault NoSpace makes.writes)

    module _ (k left : Known) (known : k ≡ with_format (autocleared image) format) (first : Writes g ws None a b) where
      fields_of : (stop : Option DevStop) → EndsWithFields g k.header [] name stop b c → EndsWithFields g image.header [] name stop b c
      fields_of stop last =
          let P : Known → Type 0 = λ x. EndsWithFields g x.header [] name stop b c in
          same_fields image format name [] stop b c (subst P known last)

      ends : (stop : Option DevStop) → EndsWithFields g k.header [] name stop b c → EndsWithFields g image.header ws name stop a c
      ends stop last = fields_behind g image.header ws name stop a b c first (fields_of stop last)

      wrote_early : Wrote g ws a b
      wrote_early = subst (λ (xs : List Write). Wrote g xs a b) first.part first.wrote

      known_last : (made : List Write) → 0 < length made → known_at image name format (ws ++ made) ≡ with_format (autocleared image) format
      known_last made some =
          let clear : List Write = clear_writes image in
          let text : List Write = text_writes image.header name in
          let put : List Write = format_writes image.header format in
          let ending : List Write = ending_writes image.header name n in
          let moved : ws ++ made ≡ clear ++ (text ++ (put ++ (ending ++ made))) =
          append_assoc clear (text ++ (put ++ ending)) made ∙ ap (λ (xs : List Write). clear ++ xs) (append_assoc text (put ++ ending) made ∙ ap (λ (xs : List Write). text ++ xs) (append_assoc put ending made)) in
          ap (known_at image name format) moved ∙ known_later image (autocleared image) (autocleared image) name format n refl (ending ++ made) (omega (arith, length-append ending made, some)) new_format

      -- where it stops, with what is known then
      stopped_last : (count : ℕ) (now : Known) → now ≡ with_format (autocleared image) format → EndsWithFields g image.header [] name (Some (Io count)) b c
          → StopsWithFields g image name format ws count now a c
      stopped_last count now is (inl last) =
          let all = then_made g ws (last_writes image.header last.between name) (Some (Io count)) a b c first last.writes in
          let some = (part_length (IsCutBy (Io count)) (last_writes image.header last.between name) last.writes.made last.writes.part).0 in
          inl (
            record {
              between = last.between;
              whole = last.whole;
              told = last_told g image.header ws name a b c last.between wrote_early last.told;
              past = last_past g ws a b last.between wrote_early last.past;
              writes = all.0;
            },
            is ∙ sym (known_last last.writes.made some) ∙ ap (known_at image name format) (sym all.1),
          )
      stopped_last count now is (inr fails) =
          let W : List Write → Type 0 = λ xs. Wrote g xs a c in
          inr (
            record {
              needed = fails.needed;
              count = fails.count;
              is = fails.is;
              wrote = subst W (append-nil ws) (wrote-then g ws [] a b c wrote_early fails.wrote);
              cause = subst (λ (x : ℕ). CountsFault (Some fails.count) x (g.faults c)) first.cause.1 fails.cause;
              call = fails.call;
            },
            is,
          )

      pub last_changes : (r : Result (Unit {0}) DevStop) → EndsWithFields g k.header [] name (stop_of r) b c → OnOk r (left ≡ with_name k name None) → OnErr r (left ≡ k)
          → RenamesImage g image name format r left a c
      last_changes (Ok done) last ok err =
          let P : Known → Type 0 = λ x. left ≡ with_name x name None in
          (subst P known ok, record { n = n; read = read; makes = ends None last })
      last_changes (Err (Io count)) last ok err =
          inr (record { n = n; read = read; makes = stopped_last count left (err ∙ known) (fields_of (Some (Io count)) last) })
      last_changes (Err NoSpace) last ok err =
          absurd (fields_fault g image.header ws name (Err NoSpace) a c (ends (Some NoSpace) last) ready.list end_early (omega (arith, fits)))

  -- What it tells then, by its answer.
  module _ (image : Known) (name format : Option (List ℕ)) (n : ℕ) (a b c : D) (is : (file : List ℕ) → g.content a ≡ Some file → IsImageOf file image) (ready : IsOpen image)
      (new_name : ForSome name IsNewName) (new_format : ForSome format IsNewFormat) (text : ForSome name IsUtf8)
      (read : IsLengthRead (g.content a) (g.size a) image.header name n)
      (k left : Known) (known : k ≡ with_format (autocleared image) format) (first : Writes g (early_writes image n name format) None a b) where
    pub last_named : (r : Result (Unit {0}) DevStop) → EndsWithFields g k.header [] name (stop_of r) b c → OnOk r ((file : List ℕ) → g.content c ≡ Some file → name_in file ≡ name)
    last_named (Ok done) last = renamed_name image name format n a b c is ready new_name new_format text read k known first last
    last_named (Err stop) last = tt

    pub last_kept : (r : Result (Unit {0}) DevStop) → EndsWithFields g k.header [] name (stop_of r) b c
        → OnErr r ((old new : List ℕ) → g.content a ≡ Some old → g.content c ≡ Some new → HasSameName old new)
    last_kept (Ok done) last = tt
    last_kept (Err stop) last = λ old new was told. (stopped_told image name format n a b c is ready new_name new_format stop k known first last old new was told).name

    pub last_image_is : (r : Result (Unit {0}) DevStop) → EndsWithFields g k.header [] name (stop_of r) b c → OnOk r (left ≡ with_name k name None) → OnErr r (left ≡ k)
        → (file : List ℕ) → g.content c ≡ Some file → IsImageOf file left
    last_image_is (Ok done) last ok err file told =
        subst (IsImageOf file) (sym ok) (renamed_image image name format n a b c is ready new_name new_format text read k known first last file told)
    last_image_is (Err stop) last ok err file told =
        subst (IsImageOf file) (sym (err ∙ known)) (stopped_image image name format n a b c is ready new_name new_format stop k known first last file told)

    pub last_disk_is : (r : Result (Unit {0}) DevStop) → EndsWithFields g k.header [] name (stop_of r) b c
        → (old new : List ℕ) → g.content a ≡ Some old → g.content c ≡ Some new → IsSameDisk old new
    last_disk_is (Ok done) last old new was told = renamed_disk image name format n a b c is ready new_name new_format text read k known first last old new was told
    last_disk_is (Err stop) last old new was told = (stopped_told image name format n a b c is ready new_name new_format stop k known first last old new was told).disk

  -- Why it stops.
  pub renames_cause : (image left : Known) (name format : Option (List ℕ)) (r : Result (Unit {0}) DevStop) (a b : D) → RenamesImage g image name format r left a b
      → CountsFault (count_of r) (g.faults a) (g.faults b)
  renames_cause image left name format (Ok done) a b renames = by_last renames.1.makes
    where
      by_last : EndsWithFields g image.header (early_writes image renames.1.n name format) name None a b → g.faults b ≡ g.faults a
      by_last (inl last) = last.writes.cause.1
      by_last (inr fails) = absurd (let is = fails.is in cc)
  renames_cause image left name format (Err (Io count)) a b (inl reads) = let left = reads.2 in left.cause
  renames_cause image left name format (Err (Io count)) a b (inr stops) = by_last stops.makes
    where
      by_last : StopsWithFields g image name format (early_writes image stops.n name format) count left a b → CountsFault (Some count) (g.faults a) (g.faults b)
      by_last (inl last) = (last.0.writes.cause.1, last.0.writes.cause.2)
      by_last (inr fails) =
          let same : count ≡ fails.0.count = let is = fails.0.is in cc in
          subst (λ (n : ℕ). CountsFault (Some n) (g.faults a) (g.faults b)) (sym same) fails.0.cause
  renames_cause image left name format (Err NoSpace) a b renames = renames.1.cause
