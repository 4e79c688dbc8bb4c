-- What a call of an image leaves of its device, by how it went.
use Rattle.std.proofs.Common.{◌≡◌, ◌≢◌, ℕ, ◌+◌, ◌%◌, ◌<◌, ◌≤◌, ◌⊎◌, Bool, List, [], ◌∷◌, take, get_or, replicate, Option, Some, None, Result, Ok, Err, refl, sym, ◌∙◌, ap, subst, arith, inl, inr}
use Rattle.std.specs.Prelude.{OnOk, OnErr}
use Rattle.std.proofs.lemmas.Bool.{cases_lt, cases_eq, eq-eqb, ne_eqb}
use Rattle.std.proofs.lemmas.List.{length-replicate, get_or-replicate, get_or_past}
use Rattle.blk_base.specs.Content.{Log, Write}
use Rattle.blk_base.specs.Pieces.{Extent}
use Rattle.blk_base.specs.declared.fault.DevNo.{DevNo}
use Rattle.blk_base.specs.Device.{AtEachStopOf, Untouched, Wrote}
use Rattle.blk_base.specs.Writes.{write_of}
use Rattle.blk_base.specs.declared.device.Device.{Ghosts}
use Rattle.blk_base.specs.declared.device.DeviceCall.{DeviceCall}
use Rattle.blk_base.specs.declared.device.Stop.{Stop}
use Rattle.blk_base.specs.declared.device.Stop.TheVariants as why
use Rattle.blk_base.specs.declared.device.WriteStop.{WriteStop}
use Rattle.blk_base.specs.declared.fault.DevStop.{DevStop}
use Rattle.blk_base.specs.declared.fault.DevStop.TheVariants as stops
use Rattle.blk_base.specs.declared.fault.Outcome.TheVariants.{Good}
use Rattle.q2_format.specs.Sizes.{cluster_size, clusters_for}
use Rattle.q2_format.specs.declared.header.Header.{Header}
use Rattle.q2_format.specs.Entry.{l2_entry}
use Rattle.q2_format.specs.declared.entries.L2Entry.{L2Entry}
use Rattle.q2_format.specs.declared.entries.L2Entry.TheVariants.{Unallocated, Zero, Host, Compressed, Reserved}
use Rattle.q2_image.specs.Image.{Known, clusters_in, word_in, entry_in}
use Rattle.q2_image.specs.Reading.{IsHost}
use Rattle.q2_image.specs.BackingName.{KeepsHeader}
use Rattle.q2_image.specs.Made.{WriteStep, MakesSteps, WroteOwn, ChangesImage, IsOldOrWith, IsOwnPart, own_writes, writes_of_steps}
use Rattle.q2_image.specs.Writing.{IsDiskWith, IsSameDisk, HasHeaderOf, HasEntriesBut, CanTake, AreClusterZeros, ClearsFirst, ZeroFits, IsOwnStop, autocleared, autoclear_end, table_for}
use Rattle.q2_tables.specs.Linking.{link_end}
use Rattle.blk_nodes.specs.Changing.{seen, ChangesBySteps, ChangesInPlace}
use Rattle.blk_nodes.specs.Nodes.{DeviceSeen}
use Rattle.blk_nodes.specs.Reading.{StoppedBy}
use Rattle.blk_nodes.specs.Writing.{taken_by, write_outcome, cluster_outcome, StaysMapped, HasImageCause}

-- no byte of a disk that stays is another from any place on
pub same_from : (old new : List ℕ) (at : ℕ) → IsSameDisk old new → IsDiskWith old new at []
same_from old new at is = record {
  size = is.size;
  inside = λ backing i below. absurd (omega arith);
  outside = λ backing place below side. is.outside backing place below (inr (omega arith));
}

pub cluster_disk : (device : DeviceSeen) (r : Result (Unit {0}) DevStop) (old new : Option (List ℕ)) (at : ℕ) (bytes : List ℕ)
    → OnOk r ((b now : List ℕ) → old ≡ Some b → new ≡ Some now → IsDiskWith b now at bytes)
    → OnErr r ((b now : List ℕ) → old ≡ Some b → new ≡ Some now → IsSameDisk b now)
    → (b now : List ℕ) → old ≡ Some b → new ≡ Some now → IsDiskWith b now at (taken_by (cluster_outcome device r) bytes)
cluster_disk device (Ok done) old new at bytes ok err b now is_old is_new = ok b now is_old is_new
cluster_disk device (Err (stops.Io count)) old new at bytes ok err b now is_old is_new = same_from b now at (err b now is_old is_new)
cluster_disk device (Err stops.NoSpace) old new at bytes ok err b now is_old is_new = same_from b now at (err b now is_old is_new)

-- why a call of a whole cluster went so
pub cluster_cause : {D : Type 0} (g : Ghosts D) (fits : Type 0) (own : Option ℕ) (n : ℕ) (image : Known) (steps : List WriteStep) (r : Result (Unit {0}) DevStop) (left : Known)
    (before now : D) (old new : DeviceSeen) → new.number ≡ old.number → old.faults ≡ g.faults before → new.faults ≡ g.faults now
    → ChangesImage g image steps r left before now → (r ≢ Err stops.NoSpace → fits) → (r ≡ Err stops.NoSpace → (fits → ⊥) × (new ≡ old) × (left ≡ image))
    → HasImageCause fits own n old new image left (cluster_outcome new r)
cluster_cause g fits own n image steps (Ok done) left before now old new number first last is fit full =
    (fit (λ bad. absurd (cc bad)), last ∙ is.writes.cause.1 ∙ sym first)
cluster_cause g fits own n image steps (Err (stops.Io count)) left before now old new number first last is fit full =
    let rose = is.writes.cause.1 in
    let here = is.writes.cause.2 in
    (fit (λ bad. absurd (cc bad)), record { named = number; rose = rw first rose; now = here ∙ sym last })
cluster_cause g fits own n image steps (Err stops.NoSpace) left before now old new number first last is fit full =
    let all = full refl in (all.0, number, all.1, all.2)

-- a sum that can't be otherwise than within a bound is
stable_le : (a b : ℕ) → (((a ≤ b) → ⊥) → ⊥) → a ≤ b
stable_le a b twice = elim (cases_lt b a) [
  | inl above ↦ absurd (twice (λ h. absurd (omega arith)))
  | inr within ↦ within
]

stable_lt : (a b : ℕ) → (((a < b) → ⊥) → ⊥) → a < b
stable_lt a b twice = elim (cases_lt a b) [
  | inl below ↦ below
  | inr past ↦ absurd (twice (λ h. absurd (omega arith)))
]

stable_take : (image : Known) (k capacity : ℕ) → ((CanTake image k capacity → ⊥) → ⊥) → CanTake image k capacity
stable_take image k capacity twice = record {
  below = stable_lt _ _ (λ none. twice (λ can. none can.below));
  fits = stable_le _ _ (λ none. twice (λ can. none can.fits));
}

pub stable_zero : (image : Known) (cluster capacity : ℕ) → ((ZeroFits image cluster capacity → ⊥) → ⊥) → ZeroFits image cluster capacity
stable_zero image cluster capacity twice = record {
  header = stable_le (autoclear_end image) capacity (λ none. twice (λ fits. none fits.header));
  table = λ needs. stable_take image 0 capacity (λ none. twice (λ fits. none (fits.table needs)));
  entry = stable_le (link_end image.tables cluster (table_for image cluster)) capacity (λ none. twice (λ fits. none fits.entry));
}

-- of a write in place
pub own_taken : (device : DeviceSeen) (stop : WriteStop) (bytes : List ℕ) → (stop.why ≡ why.NoSpace → stop.done ≡ 0) → taken_by (write_outcome device stop) bytes ≡ take stop.done bytes
own_taken device stop bytes none = by stop.why refl
  where
    nothing : take stop.done bytes ≡ take stop.done bytes
    nothing = refl

    by : (w : Stop) → stop.why ≡ w → taken_by (write_outcome device stop) bytes ≡ take stop.done bytes
    by why.NoSpace is = rw (is, none is) refl
    by why.Failed is = elim (cases_eq stop.done 0) [
      | inl zero ↦ let test = eq-eqb stop.done 0 zero in rw (is, test, zero) refl
      | inr some ↦ let test = ne_eqb stop.done 0 some in rw (is, test) refl
    ]

pub own_cause : (old new : DeviceSeen) (image now : Known) (place n end : ℕ) (stop : WriteStop) → new.number ≡ old.number
    → IsOwnStop place end old.capacity n old.faults new.faults stop → (stop.why ≡ why.NoSpace → (new ≡ old) × (now ≡ image))
    → HasImageCause (end ≤ old.capacity) (Some place) n old new image now (write_outcome new stop)
own_cause old new image now place n end stop number is full = by stop.why refl
  where
    by : (w : Stop) → stop.why ≡ w → HasImageCause (end ≤ old.capacity) (Some place) n old new image now (write_outcome new stop)
    by why.NoSpace w =
        let all = full w in
        let above = (is.no_space w).0 in
        rw w ((λ h. absurd (omega arith)), number, all.0, all.1)
    by why.Failed w =
        let failed = is.failed w in
        let fits = failed.0 in
        let stopped : StoppedBy old new new.number new.faults = record { named = number; rose = failed.1.rose; now = refl } in
        elim (cases_eq stop.done 0) [
          | inl zero ↦ let test = eq-eqb stop.done 0 zero in rw (w, test) (fits, stopped)
          | inr some ↦
              let test = ne_eqb stop.done 0 some in
              let part : stop.done < n = elim failed.1.part [ inl none ↦ absurd (some none) | inr less ↦ less ] in
              let sector : (place + stop.done) % 512 ≡ 0 = elim failed.1.sector [ inl none ↦ absurd (some none) | inr at ↦ at ] in
              rw (w, test) (fits, (omega arith, part, sector), stopped)
        ]

-- what stays where an image is as before, or its autoclear field is cleared
pub own_header : (old new : Known) → (new ≡ old) ⊎ (new ≡ autocleared old) → HasHeaderOf old new
own_header old new (inl same) = ap (λ (k : Known). (autocleared k).header) same
own_header old new (inr same) = ap (λ (k : Known). (autocleared k).header) same

pub own_word : (old new : Known) (cluster : ℕ) → (new ≡ old) ⊎ (new ≡ autocleared old) → word_in new cluster ≡ word_in old cluster
own_word old new cluster (inl same) = ap (λ (k : Known). get_or k.tables.words cluster 0) same
own_word old new cluster (inr same) = ap (λ (k : Known). get_or k.tables.words cluster 0) same

-- clusters that have entries keep some
pub own_mapped : (old new : Known) → (new ≡ old) ⊎ (new ≡ autocleared old) → StaysMapped old new
own_mapped old new is cluster mapped none =
    mapped (sym (ap l2_entry (own_word old new cluster is)) ∙ none)

pub host_mapped : (entry : L2Entry) → IsHost entry → entry ≢ Unallocated
host_mapped Unallocated is = absurd is
host_mapped (Zero host) is = absurd is
host_mapped (Host host) is = λ same. cc
host_mapped Compressed is = absurd is
host_mapped Reserved is = absurd is

pub zero_mapped : (entry : L2Entry) (host : ℕ) → entry ≡ Zero host → entry ≢ Unallocated
zero_mapped entry host is same = cc

-- one cluster alone got another entry, where that was written
pub cluster_mapped : (r : Result (Unit {0}) DevStop) (old new : Known) (cluster : ℕ) → HasEntriesBut old new cluster
    → OnOk r (entry_in new cluster ≢ Unallocated) → OnErr r (word_in new cluster ≡ word_in old cluster) → StaysMapped old new
cluster_mapped r old new cluster others made kept other mapped none = elim (cases_eq other cluster) [
  | inl same ↦ at_cluster r made kept (subst (λ k. entry_in old k ≢ Unallocated) same mapped) (subst (λ k. entry_in new k ≡ Unallocated) same none)
  | inr apart ↦ mapped (sym (ap l2_entry (others other apart)) ∙ none)
]
  where
    at_cluster : (r : Result (Unit {0}) DevStop) → OnOk r (entry_in new cluster ≢ Unallocated) → OnErr r (word_in new cluster ≡ word_in old cluster)
        → entry_in old cluster ≢ Unallocated → entry_in new cluster ≡ Unallocated → ⊥
    at_cluster (Ok done) made kept was gone = made gone
    at_cluster (Err stop) made kept was gone = was (sym (ap l2_entry kept) ∙ gone)

-- a device of which all that is seen stays
pub same_state : (a b : DeviceSeen) → b.node ≡ a.node → b.number ≡ a.number → b.content ≡ a.content → b.is_flushed ≡ a.is_flushed → b.log ≡ a.log → b.size ≡ a.size
    → b.capacity ≡ a.capacity → b.faults ≡ a.faults → b.failed_call ≡ a.failed_call → b ≡ a
same_state a b node number content flushed log size capacity faults call =
    let made : ℕ → DevNo → Option (List ℕ) → Option Bool → Option Log → ℕ → ℕ → ℕ → Option DeviceCall → DeviceSeen
    = λ n d c f l s k q w. record { node = n; number = d; content = c; is_flushed = f; log = l; size = s; capacity = k; faults = q; failed_call = w } in
    ap (λ (n : ℕ). made n b.number b.content b.is_flushed b.log b.size b.capacity b.faults b.failed_call) node
    ∙ ap (λ (d : DevNo). made a.node d b.content b.is_flushed b.log b.size b.capacity b.faults b.failed_call) number
    ∙ ap (λ (c : Option (List ℕ)). made a.node a.number c b.is_flushed b.log b.size b.capacity b.faults b.failed_call) content
    ∙ ap (λ (f : Option Bool). made a.node a.number a.content f b.log b.size b.capacity b.faults b.failed_call) flushed
    ∙ ap (λ (l : Option Log). made a.node a.number a.content a.is_flushed l b.size b.capacity b.faults b.failed_call) log
    ∙ ap (λ (s : ℕ). made a.node a.number a.content a.is_flushed a.log s b.capacity b.faults b.failed_call) size
    ∙ ap (λ (k : ℕ). made a.node a.number a.content a.is_flushed a.log a.size k b.faults b.failed_call) capacity
    ∙ ap (λ (q : ℕ). made a.node a.number a.content a.is_flushed a.log a.size a.capacity q b.failed_call) faults
    ∙ ap (λ (w : Option DeviceCall). made a.node a.number a.content a.is_flushed a.log a.size a.capacity a.faults w) call

-- A device in its place, as it is seen.
abbrev pub state_of : {D : Type 0} → Ghosts D → ℕ → DevNo → D → DeviceSeen
state_of g node number device = record {
  node = node;
  number = number;
  content = g.content device;
  is_flushed = g.is_flushed device;
  log = g.log device;
  size = g.size device;
  capacity = g.capacity device;
  faults = g.faults device;
  failed_call = g.failed_call device;
}

module _ {D : Type 0} (g : Ghosts D) (node : ℕ) (number : DevNo) (before now : D) where
  abbrev first_state : DeviceSeen
  first_state = state_of g node number before

  abbrev last_state : DeviceSeen
  last_state = state_of g node number now

  pub wrote_seen : (ws : List Write) → Wrote g ws before now → Wrote seen ws first_state last_state
  wrote_seen ws is = record {
    content = is.content;
    size = is.size;
    log = is.log;
    same_log = is.same_log;
    flushed = is.flushed;
    capacity = is.capacity;
    faults = is.faults;
  }

  steps_seen : (image left : Known) (steps : List WriteStep) (stop : Option DevStop) → MakesSteps g image steps stop left before now
      → MakesSteps seen image steps stop left first_state last_state
  steps_seen image left steps stop is = record {
    writes = record {
      made = is.writes.made;
      part = is.writes.part;
      wrote = wrote_seen is.writes.made is.writes.wrote;
      cause = is.writes.cause;
      call = is.writes.call;
    };
    known = is.known;
  }

  pub untouched_seen : Untouched g before now → last_state ≡ first_state
  untouched_seen is =
      same_state first_state last_state refl refl is.reads.content is.reads.flushed is.reads.log is.reads.size is.reads.capacity is.cause is.call

  -- a call of a whole cluster
  pub cluster_change : (image left : Known) (steps : List WriteStep) (place : ℕ) (bytes : List ℕ) (IsMade : Known → Type 0) (r : Result (Unit {0}) DevStop)
      → ChangesImage g image steps r left before now → ClearsFirst (g.content before) (g.content now) left
      → (r ≢ Err stops.NoSpace → AtEachStopOf g (IsOldOrWith place bytes) (writes_of_steps steps) before)
      → (r ≢ Err stops.NoSpace → AtEachStopOf g KeepsHeader (writes_of_steps steps) before)
      → OnOk r (IsMade left) → ChangesBySteps steps place bytes IsMade image left first_state last_state (cluster_outcome last_state r)
  cluster_change image left steps place bytes IsMade (Ok done) is cleared at_stops header ok =
      (record { made = steps_seen image left steps None is; cleared = cleared; stops = at_stops (λ bad. absurd (cc bad)); header = header (λ bad. absurd (cc bad)) }, ok)
  cluster_change image left steps place bytes IsMade (Err (stops.Io count)) is cleared at_stops header ok =
      record { made = steps_seen image left steps (Some (stops.Io count)) is; cleared = cleared; stops = at_stops (λ bad. absurd (cc bad)); header = header (λ bad. absurd (cc bad)) }
  cluster_change image left steps place bytes IsMade (Err stops.NoSpace) is cleared at_stops header ok = (is.0, untouched_seen is.1)

  own_seen : (image left : Known) (span : Extent) (bytes : List ℕ) (stop : Option ℕ) → WroteOwn g image left span bytes stop before now
      → WroteOwn seen image left span bytes stop first_state last_state
  own_seen image left span bytes None is = (is.0, wrote_seen (own_writes image span bytes) is.1, is.2)
  own_seen image left span bytes (Some n) (inl is) = inl (is.0, is.1, wrote_seen (own_writes image span (take n bytes)) is.2, is.3)
  own_seen image left span bytes (Some n) (inr is) = inr (is.0, is.1, is.2, wrote_seen (write_of 88 [] ∷ []) is.3, is.4)

  -- and one in place, that was made
  pub own_made : (image left : Known) (span : Extent) (bytes : List ℕ) → WroteOwn g image left span bytes None before now
      → ClearsFirst (g.content before) (g.content now) left → AtEachStopOf g (IsOwnPart span.start bytes) (own_writes image span bytes) before
      → AtEachStopOf g KeepsHeader (own_writes image span bytes) before → ChangesInPlace span bytes image left first_state last_state Good
  own_made image left span bytes is cleared at_stops header = record { wrote = own_seen image left span bytes None is; cleared = cleared; stops = at_stops; header = header }

  -- or that stopped
  pub own_stopped : (image left : Known) (span : Extent) (bytes : List ℕ) (stop : WriteStop)
      → (stop.why ≡ why.Failed → WroteOwn g image left span bytes (Some stop.done) before now) → ClearsFirst (g.content before) (g.content now) left
      → AtEachStopOf g (IsOwnPart span.start bytes) (own_writes image span bytes) before
      → AtEachStopOf g KeepsHeader (own_writes image span bytes) before
      → (stop.why ≡ why.NoSpace → (last_state ≡ first_state) × (left ≡ image))
      → ChangesInPlace span bytes image left first_state last_state (write_outcome last_state stop)
  own_stopped image left span bytes stop wrote cleared at_stops header full = by stop.why refl
    where
      by : (w : Stop) → stop.why ≡ w → ChangesInPlace span bytes image left first_state last_state (write_outcome last_state stop)
      by why.NoSpace w = let all = full w in rw w (all.1, all.0)
      by why.Failed w =
          let done : WroteOwn seen image left span bytes (Some stop.done) first_state last_state = own_seen image left span bytes (Some stop.done) (wrote w) in
          elim (cases_eq stop.done 0) [
            | inl zero ↦
                let test = eq-eqb stop.done 0 zero in
                let none : WroteOwn seen image left span bytes (Some 0) first_state last_state =
                subst (λ (n : ℕ). WroteOwn seen image left span bytes (Some n) first_state last_state) zero done in
                rw (w, test) (record { wrote = none; cleared = cleared; stops = at_stops; header = header })
            | inr some ↦ let test = ne_eqb stop.done 0 some in rw (w, test) (record { wrote = done; cleared = cleared; stops = at_stops; header = header })
          ]

zeros_at : (n i : ℕ) → ◌≡◌ {A = ℕ} (get_or (replicate n 0) i 0) 0
zeros_at n i = let len = length-replicate {A = ℕ} n 0 in elim (cases_lt i n) [ inl below ↦ get_or-replicate n i 0 0 below | inr past ↦ get_or_past (replicate n 0) i 0 (omega arith) ]

-- the zeros of a cluster of c bytes
pub cluster_zeros : (c : ℕ) → AreClusterZeros c (replicate c 0)
cluster_zeros c = record { whole = length-replicate {A = ℕ} c 0; zeros = zeros_at c }

-- a zero write, with the zeros of a cluster
pub zeros_disk : (c : ℕ) (r : Result (Unit {0}) DevStop) (old new : Option (List ℕ)) (at : ℕ)
    → OnOk r ((b now zeros : List ℕ) → old ≡ Some b → new ≡ Some now → AreClusterZeros c zeros → IsDiskWith b now at zeros)
    → OnOk r ((b now : List ℕ) → old ≡ Some b → new ≡ Some now → IsDiskWith b now at (replicate c 0))
zeros_disk c (Ok done) old new at ok = λ b now is_old is_new.
    ok b now (replicate c 0) is_old is_new (cluster_zeros c)
zeros_disk c (Err stop) old new at ok = tt

-- the header but for the autoclear field tells how many clusters there are
pub clusters_same : (old new : Known) → HasHeaderOf old new → clusters_in new ≡ clusters_in old
clusters_same old new same = ap (λ (h : Header). clusters_for (cluster_size h.cluster_bits) h.size) same
