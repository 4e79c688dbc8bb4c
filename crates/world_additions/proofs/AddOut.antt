-- One more device is out, and its node holds it.
use Rattle.std.proofs.Common.{◌≡◌, ◌≢◌, ◌⊎◌, ℕ, zero, suc, ◌<◌, ◌==◌, Bool, true, false, cond, List, [], ◌∷◌, ◌++◌, length, get_or, inl, inr, refl, sym, ◌∙◌, ap, subst, arith, Some, None}
use Rattle.std.specs.Prelude.{AllPairs, Contains, IsSome, slice_get}
use Rattle.std.proofs.lemmas.Bool.{eq-eqb, false≢true}
use Rattle.std.proofs.lemmas.List.Quantifiers.{all_pairs_push}
use Rattle.std.proofs.lemmas.Option.{slice_get_within}
use Rattle.blk_base.specs.declared.fault.DevNo.{DevNo}
use Rattle.blk_base.specs.declared.file.Opened.{Opened}
use Rattle.blk_nodes.specs.Nodes.{DeviceSeen, Nodes}
use Rattle.qmp_rules.specs.Table.{RunTable}
use Rattle.flat_machine.specs.State.{filename_of}
use Rattle.flat_machine.proofs.Tables.{pushed-cases}
use Rattle.world_parts.specs.Adding.{Taken, of_node, opening_of}
use Rattle.world_parts.specs.Coherent.{AreOut, IsOut}
use Rattle.world_parts.specs.Face.{device_numbered}

-- ---- lists that grow

pub get-before : {A : Type 0} (xs : List A) (y x : A) (n : ℕ) → slice_get xs n ≡ Some x → slice_get (xs ++ y ∷ []) n ≡ Some x
get-before [] y x n is = absurd (cc is)
get-before (z ∷ xs) y x zero is = is
get-before (z ∷ xs) y x (suc n) is = get-before xs y x n is

pub get-last : {A : Type 0} (xs : List A) (y : A) → slice_get (xs ++ y ∷ []) (length xs) ≡ Some y
get-last [] y = refl
get-last (z ∷ xs) y = get-last xs y

pub get-cases : {A : Type 0} (xs : List A) (y x : A) (n : ℕ) → slice_get (xs ++ y ∷ []) n ≡ Some x
    → (slice_get xs n ≡ Some x) ⊎ ((n ≡ length xs) × (x ≡ y))
get-cases [] y x zero is = let same : x ≡ y = cc (sym is) in inr (refl, same)
get-cases [] y x (suc n) is = absurd (cc is)
get-cases (z ∷ xs) y x zero is = inl is
get-cases {A} (z ∷ xs) y x (suc n) is = by_rest (get-cases xs y x n is)
  where
    by_rest : (slice_get xs n ≡ Some x) ⊎ ((n ≡ length xs) × (x ≡ y)) → (slice_get xs n ≡ Some x) ⊎ ((suc n ≡ length (z ∷ xs)) × (x ≡ y))
    by_rest (inl before) = inl before
    by_rest (inr last) = inr (ap suc last.0, last.1)

numbered-before : (devices : List DeviceSeen) (new : DeviceSeen) (n : ℕ) → IsSome (device_numbered devices n) → IsSome (device_numbered (devices ++ new ∷ []) n)
numbered-before [] new n some = absurd (false≢true some)
numbered-before (d ∷ devices) new n some = by_test (d.number.0 == n) some (numbered-before devices new n)
  where
    by_test : (b : Bool) → IsSome (cond b (Some d) (device_numbered devices n)) → (IsSome (device_numbered devices n) → IsSome (device_numbered (devices ++ new ∷ []) n))
        → IsSome (cond b (Some d) (device_numbered (devices ++ new ∷ []) n))
    by_test true some rest = refl
    by_test false some rest = rest some

numbered-last : (devices : List DeviceSeen) (new : DeviceSeen) → IsSome (device_numbered (devices ++ new ∷ []) new.number.0)
numbered-last [] new = rw (eq-eqb new.number.0 new.number.0 refl) refl
numbered-last (d ∷ devices) new = by_test (d.number.0 == new.number.0) (numbered-last devices new)
  where
    by_test : (b : Bool) → IsSome (device_numbered (devices ++ new ∷ []) new.number.0) → IsSome (cond b (Some d) (device_numbered (devices ++ new ∷ []) new.number.0))
    by_test true rest = refl
    by_test false rest = rest

-- ---- devices that are out

-- one more device, of the opening behind all others
module _ (t t' : RunTable) (nodes : Nodes) (opened : List Opened) (out : AreOut t nodes opened) (id : ℕ) (filename : List ℕ) (device : Taken)
    (number : device.number ≡ record { 0 = length opened })
    (named : (held : DeviceSeen) → Contains nodes.devices held → filename_of t' held.node ≡ filename_of t held.node)
    (own : filename_of t' id ≡ Some filename) where
  abbrev pub more : List Opened
  more = opened ++ opening_of filename device ∷ []

  abbrev pub held_then : List DeviceSeen
  held_then = nodes.devices ++ of_node id device ∷ []

  at : device.number.0 ≡ length opened
  at = ap (λ (n : DevNo). n.0) number

  last : slice_get more device.number.0 ≡ Some (opening_of filename device)
  last = ap (slice_get more) at ∙ get-last opened (opening_of filename device)

  old_out : (held : DeviceSeen) → Contains nodes.devices held → IsOut t' more held
  old_out held there =
      let was = out.each held there in
      record {
        opening = was.opening;
        there = get-before opened (opening_of filename device) was.opening held.number.0 was.there;
        out = was.out;
        named = named held there ∙ was.named;
        capacity = was.capacity;
        faults = was.faults;
      }

  new_out : IsOut t' more (of_node id device)
  new_out = record { opening = opening_of filename device; there = last; out = refl; named = own; capacity = refl; faults = omega arith }

  -- each is out, of an opening of its node's file
  pub each-out : (held : DeviceSeen) → Contains held_then held → IsOut t' more held
  each-out held there = elim (pushed-cases nodes.devices (of_node id device) held there) [
    | inl before ↦ old_out held before
    | inr is ↦ subst (IsOut t' more) (sym is) new_out
  ]

  held-at : (xs : List DeviceSeen) (k : ℕ) (d : DeviceSeen) → k < length xs → get_or xs k (get_or xs k d) ≡ get_or xs k d
  held-at [] k d within = absurd (omega (arith, within))
  held-at (x ∷ xs) zero d within = refl
  held-at (x ∷ xs) (suc k) d within = held-at xs k d (omega (arith, within))

  before : (k : ℕ) (d : DeviceSeen) → k < length nodes.devices → (get_or nodes.devices k d).number.0 < device.number.0
  before k d within =
      let there : Contains nodes.devices (get_or nodes.devices k d) = (k, within, held-at nodes.devices k d within) in
      let was = out.each (get_or nodes.devices k d) there in
      let less = slice_get_within opened (get_or nodes.devices k d).number.0 was.opening was.there in
      omega (arith, less, at)

  below : (k : ℕ) (d : DeviceSeen) → k < length nodes.devices → (get_or nodes.devices k d).number ≢ device.number
  below k d within = λ same.
      let less = before k d within in
      let is : (get_or nodes.devices k d).number.0 ≡ device.number.0 = ap (λ (n : DevNo). n.0) same in
      omega (arith, less, is)

  -- under a number of its own
  pub once-out : AllPairs (λ a b. a.number ≢ b.number) held_then
  once-out = all_pairs_push (λ a b. a.number ≢ b.number) nodes.devices (of_node id device) out.once below

  -- behind those that were opened before
  pub order-out : AllPairs (λ (a b : DeviceSeen). a.number.0 < b.number.0) held_then
  order-out = all_pairs_push (λ (a b : DeviceSeen). a.number.0 < b.number.0) nodes.devices (of_node id device) out.order before

  -- and each opening that isn't back is that of one
  pub all-out : (n : ℕ) (o : Opened) → slice_get more n ≡ Some o → o.returned ≡ None → IsSome (device_numbered held_then n)
  all-out n o there back = elim (get-cases opened (opening_of filename device) o n there) [
    | inl before ↦ numbered-before nodes.devices (of_node id device) n (out.all n o before back)
    | inr is ↦
        let here : device.number.0 ≡ n = at ∙ sym is.0 in
        subst (λ (k : ℕ). IsSome (device_numbered held_then k)) here (numbered-last nodes.devices (of_node id device))
  ]
