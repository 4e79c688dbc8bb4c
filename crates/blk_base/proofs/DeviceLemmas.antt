-- What several calls leave of a device, one behind the other.
use Rattle.std.proofs.Common.{◌≡◌, ℕ, ◌<◌, ◌≤◌, Bool, true, false, List, [], ◌++◌, refl, sym, ◌∙◌, ap, subst, arith, Option, Some, None, is_some, ◌∷◌}
use Rattle.std.specs.Option.{option_map}
use Rattle.std.specs.Prelude.{◌&&◌}
use Rattle.blk_base.specs.Calls.{FailsReading}
use Rattle.blk_base.specs.Content.{Write, Log, after_writes}
use Rattle.blk_base.specs.Counts.{Rose}
use Rattle.blk_base.specs.Device.{OnlyReads, CountsFault, Reads, Untouched, Wrote, IsMade, IsBeyond, StopsBy, Writes}
use Rattle.blk_base.specs.Writes.{end_of_writes, size_after_writes, log_after_writes, are_none, IsCutBy, AtEachStop}
use Rattle.blk_base.specs.declared.device.Device.{Ghosts}
use Rattle.blk_base.specs.declared.device.DeviceCall.{DeviceCall}
use Rattle.blk_base.specs.declared.fault.DevStop.{DevStop}
use Rattle.blk_base.specs.declared.fault.DevStop.TheVariants.{Io, NoSpace}
use Rattle.blk_base.proofs.Calls.{call_later, call_sooner}
use Rattle.blk_base.proofs.WriteLists.{after_writes-append, size_after_writes-append, log_after_writes-append, end_of_writes-append, are_none-append, size_after_writes-grows, part-later, part-sooner, stopped_at-later, stopped_at-sooner, stopped_at-within, at_each_stop-refused}

map-map : {A B C : Type 0} (f : A → B) (h : B → C) (x : Option A) → option_map h (option_map f x) ≡ option_map (λ a. h (f a)) x
map-map f h None = refl
map-map f h (Some a) = refl

map-same : {A B : Type 0} (f h : A → B) (x : Option A) → ((a : A) → f a ≡ h a) → option_map f x ≡ option_map h x
map-same f h None same = refl
map-same f h (Some a) same = ap Some (same a)

map-id : {A : Type 0} (x : Option A) → option_map (λ (a : A). a) x ≡ x
map-id None = refl
map-id (Some a) = refl

and-and : (a b f : Bool) → (b && (a && f)) ≡ ((a && b) && f)
and-and true b f = refl
and-and false true f = refl
and-and false false f = refl

module _ {D : Type 0} (g : Ghosts D) where
  -- reads one behind the other
  pub only_reads-then : (a b c : D) → OnlyReads g a b → OnlyReads g b c → OnlyReads g a c
  only_reads-then a b c first later = record {
    content = later.content ∙ first.content;
    flushed = later.flushed ∙ first.flushed;
    log = later.log ∙ first.log;
    size = later.size ∙ first.size;
    capacity = later.capacity ∙ first.capacity;
    faults = omega (arith, first.faults, later.faults);
  }

  pub untouched-same : (a : D) → Untouched g a a
  untouched-same a = record {
    reads = record { content = refl; flushed = refl; log = refl; size = refl; capacity = refl; faults = omega arith };
    cause = refl;
    call = refl;
  }

  counts-then : (told : Option ℕ) (a b c : ℕ) → b ≡ a → CountsFault told b c → CountsFault told a c
  counts-then told a b c quiet cause = subst (λ n. CountsFault told n c) quiet cause

  -- a read that tells its fault, behind those that told none
  pub reads_then : (told : Option ℕ) (a b c : D) → Untouched g a b → Reads g told b c → Reads g told a c
  reads_then told a b c first later = record {
    reads = only_reads-then a b c first.reads later.reads;
    cause = counts-then told (g.faults a) (g.faults b) (g.faults c) first.cause later.cause;
    call = subst (λ (x : Option DeviceCall). FailsReading told x (g.failed_call c)) first.call later.call;
  }

  -- writes one behind the other
  log-then : (vs ws : List Write) (a b c : D)
      → ((l : Log) → g.log b ≡ Some l → option_map (λ l. log_after_writes l vs) (g.log a) ≡ Some l)
      → (l : Log) (told : Option Log) → g.log b ≡ told → option_map (λ l. log_after_writes l ws) told ≡ Some l
      → option_map (λ l. log_after_writes l (vs ++ ws)) (g.log a) ≡ Some l
  log-then vs ws a b c first l None is later = let bad : ⊥ = cc later in absurd bad
  log-then vs ws a b c first l (Some kept) is later =
      map-same (λ l. log_after_writes l (vs ++ ws)) (λ l. log_after_writes (log_after_writes l vs) ws) (g.log a)
      (λ l. log_after_writes-append l vs ws)
      ∙ sym (map-map (λ l. log_after_writes l vs) (λ l. log_after_writes l ws) (g.log a))
      ∙ ap (option_map (λ l. log_after_writes l ws)) (first kept is) ∙ later

  both-none : (vs ws : List Write) → are_none (vs ++ ws) ≡ true → (are_none vs ≡ true) × (are_none ws ≡ true)
  both-none [] ws none = (refl, none)
  both-none (v ∷ vs) ws none = let bad : ⊥ = cc in absurd bad

  pub wrote-then : (vs ws : List Write) (a b c : D) → Wrote g vs a b → Wrote g ws b c → Wrote g (vs ++ ws) a c
  wrote-then vs ws a b c first later = record {
    content = later.content ∙ ap (option_map (λ b. after_writes b ws)) first.content
        ∙ map-map (λ b. after_writes b vs) (λ b. after_writes b ws) (g.content a)
        ∙ map-same (λ b. after_writes (after_writes b vs) ws) (λ b. after_writes b (vs ++ ws)) (g.content a) (λ b. sym (after_writes-append b vs ws));
    size = later.size ∙ ap (λ n. size_after_writes n ws) first.size ∙ sym (size_after_writes-append (g.size a) vs ws);
    log = λ l is. log-then vs ws a b c first.log l (g.log b) refl (later.log l is);
    same_log = λ none.
        let parts = both-none vs ws none in
        later.same_log parts.1 ∙ first.same_log parts.0;
    flushed = later.flushed ∙ ap (option_map (λ f. are_none ws && f)) first.flushed
        ∙ map-map (λ f. are_none vs && f) (λ f. are_none ws && f) (g.is_flushed a)
        ∙ map-same (λ f. are_none ws && (are_none vs && f)) (λ f. are_none (vs ++ ws) && f) (g.is_flushed a)
        (λ f. and-and (are_none vs) (are_none ws) f ∙ ap (λ q. q && f) (sym (are_none-append vs ws)));
    capacity = later.capacity ∙ first.capacity;
    faults = omega (arith, first.faults, later.faults);
  }

  -- reads among writes
  pub only_reads-wrote : (a b : D) → OnlyReads g a b → Wrote g [] a b
  only_reads-wrote a b only = record {
    content = only.content ∙ sym (map-id (g.content a));
    size = only.size;
    log = λ l is. map-id (g.log a) ∙ sym only.log ∙ is;
    same_log = λ none. only.log;
    flushed = only.flushed ∙ sym (map-id (g.is_flushed a));
    capacity = only.capacity;
    faults = only.faults;
  }

  pub untouched-writes : (a b : D) → Untouched g a b → Writes g [] None a b
  untouched-writes a b same = record {
    made = [];
    part = refl;
    wrote = only_reads-wrote a b same.reads;
    cause = (omega arith, same.cause);
    call = same.call;
  }

  pub writes-untouched : (a b : D) → Writes g [] None a b → Untouched g a b
  writes-untouched a b none =
      let wrote : Wrote g [] a b = subst (λ ws. Wrote g ws a b) none.part none.wrote in
      record {
        reads = record {
          content = wrote.content ∙ map-id (g.content a);
          flushed = wrote.flushed ∙ map-id (g.is_flushed a);
          log = wrote.same_log refl;
          size = wrote.size;
          capacity = wrote.capacity;
          faults = wrote.faults;
        };
        cause = none.cause.1;
        call = none.call;
      }

  pub cause-later : (vs ws all made : List Write) (stop : Option DevStop) (capacity next a b c : ℕ) → next ≡ capacity → IsMade stop ws made
      → StopsBy None vs all capacity a b → StopsBy stop ws made next b c → StopsBy stop (vs ++ ws) (vs ++ made) capacity a c
  cause-later vs ws all made None capacity next a b c same part first cause =
      let fits = cause.0 in let before = first.0 in
      (omega (arith, end_of_writes-append vs ws, before, fits, same), cause.1 ∙ first.1)
  cause-later vs ws all made (Some (Io count)) capacity next a b c same part first cause =
      let within = cause.0.2 in
      ((cause.0.0, stopped_at-later (IsCutBy (Io count)) vs ws made part ∙ cause.0.1, omega (arith, within, same)), subst (λ n. Rose n count) first.1 cause.1, cause.2)
  cause-later vs ws all made (Some NoSpace) capacity next a b c same part first cause =
      let beyond = cause.0.2 in
      ((cause.0.0, stopped_at-later (IsCutBy NoSpace) vs ws made part ∙ cause.0.1, omega (arith, beyond, same)), cause.1 ∙ first.1)

  pub cause-sooner : (vs ws made : List Write) (stop : DevStop) (capacity a b : ℕ) → IsMade (Some stop) vs made → StopsBy (Some stop) vs made capacity a b
      → StopsBy (Some stop) (vs ++ ws) made capacity a b
  cause-sooner vs ws made (Io count) capacity a b part cause =
      ((cause.0.0, stopped_at-sooner (IsCutBy (Io count)) vs ws made part ∙ cause.0.1, cause.0.2), cause.1, cause.2)
  cause-sooner vs ws made NoSpace capacity a b part cause =
      ((cause.0.0, stopped_at-sooner (IsCutBy NoSpace) vs ws made part ∙ cause.0.1, cause.0.2), cause.1)

  made-later : (vs ws made : List Write) (stop : Option DevStop) → IsMade stop ws made → IsMade stop (vs ++ ws) (vs ++ made)
  made-later vs ws made None is = ap (λ xs. vs ++ xs) is
  made-later vs ws made (Some stop) part = part-later (IsCutBy stop) vs ws made part

  -- a call that stops for want of space has a write that ends above the capacity
  pub beyond-within : (ws made : List Write) (capacity : ℕ) → IsBeyond ws made capacity → capacity < end_of_writes ws
  beyond-within ws made capacity beyond =
      let above = beyond.2 in let within = stopped_at-within ws made beyond.0 beyond.1 in omega (arith, above, within)

  -- writes behind some that were all made
  pub writes_then : (vs ws : List Write) (stop : Option DevStop) (a b c : D) → Writes g vs None a b → Writes g ws stop b c → Writes g (vs ++ ws) stop a c
  writes_then vs ws stop a b c first later = record {
    made = vs ++ later.made;
    part = made-later vs ws later.made stop later.part;
    wrote = wrote-then vs later.made a b c (subst (λ xs. Wrote g xs a b) first.part first.wrote) later.wrote;
    cause = cause-later vs ws first.made later.made stop (g.capacity a) (g.capacity b) (g.faults a) (g.faults b) (g.faults c) first.wrote.capacity later.part
        first.cause later.cause;
    call = call_later vs ws later.made stop (g.failed_call a) (g.failed_call b) (g.failed_call c) later.part first.call later.call;
  }

  -- a stop, with others that would have come behind
  pub writes_sooner : (vs ws : List Write) (stop : DevStop) (a b : D) → Writes g vs (Some stop) a b → Writes g (vs ++ ws) (Some stop) a b
  writes_sooner vs ws stop a b stopped = record {
    made = stopped.made;
    part = part-sooner (IsCutBy stop) vs ws stopped.made stopped.part;
    wrote = stopped.wrote;
    cause = cause-sooner vs ws stopped.made stop (g.capacity a) (g.faults a) (g.faults b) stopped.part stopped.cause;
    call = call_sooner vs ws stopped.made stop (g.failed_call a) (g.failed_call b) stopped.part stopped.call;
  }

  pub wrote-grows : (ws : List Write) (a b : D) → Wrote g ws a b → g.size a ≤ g.size b
  wrote-grows ws a b wrote = let size = wrote.size in omega (arith, size_after_writes-grows (g.size a) ws, size)

  -- the bytes that it tells afterwards
  pub wrote-content : (ws : List Write) (a b : D) (before after : List ℕ) → Wrote g ws a b → g.content a ≡ Some before → g.content b ≡ Some after
      → after ≡ after_writes before ws
  wrote-content ws a b before after wrote told now =
      let is : Some after ≡ Some (after_writes before ws) = sym now ∙ wrote.content ∙ ap (option_map (λ b. after_writes b ws)) told in
      cc

  content-cut : (P : List ℕ → Type 0) (ws made : List Write) (stop : Option DevStop) (bytes : List ℕ) → IsMade stop ws made → AtEachStop P ws bytes → P (after_writes bytes made)
  content-cut P ws made None bytes is all = subst (λ xs. P (after_writes bytes xs)) (sym is) all.done
  content-cut P ws made (Some (Io count)) bytes part all = all.stopped made part
  content-cut P ws made (Some NoSpace) bytes part all = at_each_stop-refused P ws bytes made all part

  pub content_after : (P : List ℕ → Type 0) (ws : List Write) (stop : Option DevStop) (a b : D) (before after : List ℕ) → Writes g ws stop a b
      → AtEachStop P ws before → g.content a ≡ Some before → g.content b ≡ Some after → P after
  content_after P ws stop a b before after writes each told now =
      subst P (sym (wrote-content writes.made a b before after writes.wrote told now)) (content-cut P ws writes.made stop before writes.part each)

  -- where it tells its bytes before, it does afterwards
  pub wrote-told : (ws : List Write) (a b : D) → Wrote g ws a b → is_some (g.content b) ≡ is_some (g.content a)
  wrote-told ws a b wrote = ap is_some wrote.content ∙ told-map (g.content a)
    where
      told-map : (o : Option (List ℕ)) → is_some (option_map (λ b. after_writes b ws) o) ≡ is_some o
      told-map None = refl
      told-map (Some bytes) = refl
