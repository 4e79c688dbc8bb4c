-- What is found in lists after they changed: rows by id, disks by node, files by name.
use Rattle.std.proofs.Common.{◌≡◌, ◌≢◌, ◌⊎◌, ℕ, Bool, true, false, cond, List, [], ◌∷◌, ◌++◌, map, refl, sym, ap, ◌∙◌, inl, inr, Option, Some, None, option_map}
use Rattle.std.specs.Prelude.{◌==◌, ◌||◌, not, bytes_eq}
use Rattle.std.specs.List.{find, filter}
use Rattle.std.proofs.lemmas.Bool.{eqb-true, eq-eqb, ne_eqb, false_from_ne_true, or_parts}
use Rattle.std.proofs.lemmas.List.Folds.{list_any-append}
use Rattle.std.proofs.lemmas.Slice.Eq.{bytes_eq-Decides}
use Rattle.qmp_rules.specs.Table.{has_name}
use Rattle.flat_machine.specs.State.{Disk, Content, KnownFile, bytes_in, content_in}
use Rattle.flat_machine.specs.Changed.{with_bytes_of}
use Rattle.flat_machine.specs.Contents.{with_content}

module _ {X : Type 0} where
  -- what is found in a longer list was there, or is the new one
  pub find-push : (p : X → Bool) (xs : List X) (y x : X) → find p (xs ++ y ∷ []) ≡ Some x
      → (find p xs ≡ Some x) ⊎ ((p y ≡ true) × (x ≡ y))
  find-push p [] y x h = by_test (p y) refl h
    where
      by_test : (b : Bool) → p y ≡ b → cond b (Some y) None ≡ Some x → (None ≡ Some x) ⊎ ((p y ≡ true) × (x ≡ y))
      by_test true e k = inr (e, cc)
      by_test false e k = inl k
  find-push p (z ∷ xs) y x h = by_test (p z) (find-push p xs y x) h
    where
      by_test : (b : Bool) → (find p (xs ++ y ∷ []) ≡ Some x → (find p xs ≡ Some x) ⊎ ((p y ≡ true) × (x ≡ y)))
          → cond b (Some z) (find p (xs ++ y ∷ [])) ≡ Some x
          → (cond b (Some z) (find p xs) ≡ Some x) ⊎ ((p y ≡ true) × (x ≡ y))
      by_test true ih k = inl k
      by_test false ih k = ih k

  -- what is found in a list whose elements were changed is a changed one, where the test can't tell
  pub find-map : (p : X → Bool) (f : X → X) → ((x : X) → p (f x) ≡ p x) → (xs : List X)
      → find p (map f xs) ≡ option_map f (find p xs)
  find-map p f same [] = refl
  find-map p f same (x ∷ xs) = by_test (p x) (p (f x)) (same x) (find-map p f same xs)
    where
      by_test : (b c : Bool) → c ≡ b → find p (map f xs) ≡ option_map f (find p xs)
          → cond c (Some (f x)) (find p (map f xs)) ≡ option_map f (cond b (Some x) (find p xs))
      by_test true true e ih = refl
      by_test false false e ih = ih
      by_test true false e ih = absurd cc
      by_test false true e ih = absurd cc

  -- a filter that keeps all that the test finds
  pub find-filter : (p q : X → Bool) → ((x : X) → p x ≡ true → q x ≡ true) → (xs : List X)
      → find p (filter q xs) ≡ find p xs
  find-filter p q keeps [] = refl
  find-filter p q keeps (x ∷ xs) = by_test (p x) (q x) refl refl (find-filter p q keeps xs)
    where
      by_test : (b c : Bool) → p x ≡ b → q x ≡ c → find p (filter q xs) ≡ find p xs
          → find p (cond c (x ∷ filter q xs) (filter q xs)) ≡ cond b (Some x) (find p xs)
      by_test true true e f ih = rw e refl
      by_test false true e f ih = rw e ih
      by_test false false e f ih = ih
      by_test true false e f ih = let kept : q x ≡ true = keeps x e in absurd cc

-- ---- disks by node

pub bytes_in-put : (node : ℕ) (bytes : List ℕ) (disks : List Disk) → bytes_in (with_bytes_of node bytes disks) node ≡ bytes
bytes_in-put node bytes [] = rw (eq-eqb node node refl) refl
bytes_in-put node bytes (d ∷ disks) = by_test (d.node == node) refl (bytes_in-put node bytes disks)
  where
    by_test : (b : Bool) → (d.node == node) ≡ b → bytes_in (with_bytes_of node bytes disks) node ≡ bytes
        → bytes_in (cond b (record { node = node; bytes = bytes } ∷ disks) (d ∷ with_bytes_of node bytes disks)) node ≡ bytes
    by_test true e ih = rw (eq-eqb node node refl) refl
    by_test false e ih = rw e ih

pub bytes_in-put_other : (node n : ℕ) (bytes : List ℕ) (disks : List Disk) → n ≢ node
    → bytes_in (with_bytes_of node bytes disks) n ≡ bytes_in disks n
bytes_in-put_other node n bytes [] other = rw (ne_eqb node n (λ e. other (sym e))) refl
bytes_in-put_other node n bytes (d ∷ disks) other = by_test (d.node == node) refl (bytes_in-put_other node n bytes disks other)
  where
    by_test : (b : Bool) → (d.node == node) ≡ b → bytes_in (with_bytes_of node bytes disks) n ≡ bytes_in disks n
        → bytes_in (cond b (record { node = node; bytes = bytes } ∷ disks) (d ∷ with_bytes_of node bytes disks)) n
        ≡ cond (d.node == n) d.bytes (bytes_in disks n)
    by_test true e ih =
        let not_new : (node == n) ≡ false = ne_eqb node n (λ k. other (sym k)) in
        let not_old : (d.node == n) ≡ false = ne_eqb d.node n (λ k. other (sym k ∙ eqb-true d.node node e)) in
        rw (not_new, not_old) refl
    by_test false e ih = ap (λ rest. cond (d.node == n) d.bytes rest) ih

pub bytes_in-drop : (node n : ℕ) (disks : List Disk) → n ≢ node
    → bytes_in (filter (λ d. not (d.node == node)) disks) n ≡ bytes_in disks n
bytes_in-drop node n [] other = refl
bytes_in-drop node n (d ∷ disks) other = by_test (d.node == node) refl (bytes_in-drop node n disks other)
  where
    by_test : (b : Bool) → (d.node == node) ≡ b → bytes_in (filter (λ e. not (e.node == node)) disks) n ≡ bytes_in disks n
        → bytes_in (cond (not b) (d ∷ filter (λ e. not (e.node == node)) disks) (filter (λ e. not (e.node == node)) disks)) n
        ≡ cond (d.node == n) d.bytes (bytes_in disks n)
    by_test true e ih =
        let not_old : (d.node == n) ≡ false = ne_eqb d.node n (λ k. other (sym k ∙ eqb-true d.node node e)) in
        rw not_old ih
    by_test false e ih = ap (λ rest. cond (d.node == n) d.bytes rest) ih

-- ---- files by name

pub bytes_eq-same : (name : List ℕ) → bytes_eq name name ≡ true
bytes_eq-same name = (bytes_eq-Decides name name).1 refl

pub same-bytes_eq : (a b : List ℕ) → bytes_eq a b ≡ true → a ≡ b
same-bytes_eq a b h = (bytes_eq-Decides a b).0 h

pub bytes_eq-other : (a b : List ℕ) → a ≢ b → bytes_eq a b ≡ false
bytes_eq-other a b other = false_from_ne_true (bytes_eq a b) (λ h. other (same-bytes_eq a b h))

pub name_differs : (a b : List ℕ) → bytes_eq a b ≡ false → a ≢ b
name_differs a b h same = let is : bytes_eq a b ≡ true = (bytes_eq-Decides a b).1 same in cc

pub cases_name : (a b : List ℕ) → (a ≡ b) ⊎ (a ≢ b)
cases_name a b = by_test (bytes_eq a b) refl
  where
    by_test : (t : Bool) → bytes_eq a b ≡ t → (a ≡ b) ⊎ (a ≢ b)
    by_test true e = inl (same-bytes_eq a b e)
    by_test false e = inr (name_differs a b e)

pub cases_found : (found : Option (List ℕ)) (name : List ℕ) → (found ≡ Some name) ⊎ (found ≡ Some name → ⊥)
cases_found None name = inr (λ is. cc)
cases_found (Some other) name = elim (cases_name other name) [
  | inl same ↦ inl (ap Some same)
  | inr differ ↦ inr (λ is. differ cc)
]

pub content_in-with : (name : List ℕ) (content : Content) (files : List KnownFile)
    → content_in (with_content name content files) name ≡ Some content
content_in-with name content [] = rw (bytes_eq-same name) refl
content_in-with name content (known ∷ files) = by_test (bytes_eq known.name name) refl (content_in-with name content files)
  where
    by_test : (b : Bool) → bytes_eq known.name name ≡ b → content_in (with_content name content files) name ≡ Some content
        → content_in (cond b (record { name = name; content = content } ∷ files) (known ∷ with_content name content files)) name
        ≡ Some content
    by_test true e ih = rw (bytes_eq-same name) refl
    by_test false e ih = rw e ih

pub content_in-with_other : (name other : List ℕ) (content : Content) (files : List KnownFile) → other ≢ name
    → content_in (with_content name content files) other ≡ content_in files other
content_in-with_other name other content [] differ = rw (bytes_eq-other name other (λ k. differ (sym k))) refl
content_in-with_other name other content (known ∷ files) differ =
    by_test (bytes_eq known.name name) refl (content_in-with_other name other content files differ)
  where
    by_test : (b : Bool) → bytes_eq known.name name ≡ b
        → content_in (with_content name content files) other ≡ content_in files other
        → content_in (cond b (record { name = name; content = content } ∷ files) (known ∷ with_content name content files)) other
        ≡ content_in (known ∷ files) other
    by_test true e ih =
        let not_new : bytes_eq name other ≡ false = bytes_eq-other name other (λ k. differ (sym k)) in
        let not_old : bytes_eq known.name other ≡ false =
        bytes_eq-other known.name other (λ k. differ (sym k ∙ same-bytes_eq known.name name e)) in
        rw (not_new, not_old) refl
    by_test false e ih = by_name (bytes_eq known.name other) refl ih
      where
        by_name : (b : Bool) → bytes_eq known.name other ≡ b
            → content_in (with_content name content files) other ≡ content_in files other
            → content_in (known ∷ with_content name content files) other ≡ content_in (known ∷ files) other
        by_name true f ih = rw f refl
        by_name false f ih = rw f ih

-- ---- names

pub has_name-push : (name other : List ℕ) (names : List (List ℕ)) → has_name other (names ++ name ∷ []) ≡ false
    → (has_name other names ≡ false) × (other ≢ name)
has_name-push name other names h =
    let parts : (has_name other names ≡ false) × (has_name other (name ∷ []) ≡ false) =
    or_parts _ _ (sym (list_any-append (λ n. bytes_eq n other) names (name ∷ [])) ∙ h) in
    (parts.0, λ same. absurd_by (bytes_eq name other) (rw (sym same) (bytes_eq-same other)) parts.1)
  where
    absurd_by : (b : Bool) → b ≡ true → (b || false) ≡ false → ⊥
    absurd_by true e k = cc
    absurd_by false e k = cc
