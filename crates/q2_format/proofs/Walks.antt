-- The list of extensions as a walk: from one extension to the next, up to the one that ends the list or to the end of the area.
use Rattle.std.proofs.Common.{◌≡◌, ◌≢◌, ℕ, zero, suc, ◌+◌, ◌<◌, ◌≤◌, ◌⊎◌, inl, inr, min, true, false, List, slice_index, Option, Some, refl, sym, subst, ◌∙◌, arith}
use Rattle.std.proofs.lemmas.Bool.{cases_eq, cases_lt, eq-eqb, ne_eqb}
use Rattle.q2_format.specs.Header.{extension_type, extension_length, extension_after, format_after, extensions_from}
use Rattle.q2_format.specs.declared.header.Place.{Place}
use Rattle.q2_format.specs.declared.extensions.ExtensionList.{ExtensionList}
use Rattle.q2_format.specs.declared.extensions.TheConstants.{END_OF_EXTENSIONS, BACKING_FORMAT}
use Rattle.q2_format.proofs.ByPlace.{number_at-alike}
use Rattle.q2_format.proofs.Extending.{extensions_short, extensions_overrun, extensions_ended, extensions_next}

-- a walk from a place to `q`, in an area that ends at `end`, and the backing format that is known at both
pub data Walk (file : List ℕ) (end q : ℕ) (found : Option Place) : ℕ → Option Place → Type 0 where
  Here : Walk file end q found q found
  Next : (at : ℕ) (format : Option Place) → at + 8 ≤ end → at + 8 + extension_length file at ≤ end → extension_type file at ≢ END_OF_EXTENSIONS
      → Walk file end q found (extension_after file at) (format_after file at format) → Walk file end q found at format

pub forward : (file : List ℕ) (end q : ℕ) (found : Option Place) (at : ℕ) (format : Option Place) → Walk file end q found at format → at ≤ q
forward file end q found _ _ Here = omega arith
forward file end q found _ _ (Next at format room fits more rest) =
    let behind = forward file end q found (extension_after file at) (format_after file at format) rest in omega arith

pub walks_on : (file : List ℕ) (end e q : ℕ) (middle found : Option Place) (at : ℕ) (format : Option Place) → Walk file end e middle at format → Walk file end q found e middle
    → Walk file end q found at format
walks_on file end e q middle found _ _ Here later = later
walks_on file end e q middle found _ _ (Next at format room fits more rest) later =
    Next at format room fits more (walks_on file end e q middle found (extension_after file at) (format_after file at format) rest later)

-- What a list is that doesn't overrun its area: a walk up to an ending extension, or up to the area's end.
pub record IsWalked (file : List ℕ) (at end : ℕ) (format : Option Place) (list : ExtensionList) : Type 0 where
  pub q : ℕ
  pub walk : Walk file end q list.format at format
  pub last : ((list.ended ≡ true) × (list.end ≡ q + 8) × (q + 8 + extension_length file q ≤ end) × (extension_type file q ≡ END_OF_EXTENSIONS))
      ⊎ ((list.ended ≡ false) × (list.end ≡ min q end) × (end < q + 8))

stops_here : (file : List ℕ) (at end : ℕ) (format : Option Place) → end < at + 8 → IsWalked file at end format (extensions_from file at end format)
stops_here file at end format short =
    let P : ExtensionList → Type 0 = λ list. IsWalked file at end format list in
    subst P (sym (extensions_short file at end format short)) (record { q = at; walk = Here; last = inr (refl, refl, short) })

pub walked : (n : ℕ) (file : List ℕ) (at end : ℕ) (format : Option Place) → end ≤ at + n → (extensions_from file at end format).overruns ≡ false
    → IsWalked file at end format (extensions_from file at end format)
walked zero file at end format enough whole = stops_here file at end format (omega arith)
walked (suc n) file at end format enough whole =
    let P : ExtensionList → Type 0 = λ list. IsWalked file at end format list in
    elim (cases_lt end (at + 8)) [
      | inl short ↦ stops_here file at end format short
      | inr room ↦ elim (cases_lt end (at + 8 + extension_length file at)) [
        | inl past ↦ absurd (let over = extensions_overrun file at end format room past in let bad = rw over at whole in cc)
        | inr fits ↦ elim (cases_eq (extension_type file at) END_OF_EXTENSIONS) [
          | inl last ↦ subst P (sym (extensions_ended file at end format room fits last)) (record { q = at; walk = Here; last = inl (refl, refl, fits, last) })
          | inr more ↦
              let next = extensions_next file at end format room fits more in
              let rest = walked n file (extension_after file at) end (format_after file at format) (omega arith) (rw next at whole) in
              subst P (sym next) (record { q = rest.q; walk = Next at format room fits more rest.walk; last = rest.last })
        ]
      ]
    ]

-- and a walk is the list
pub walk_ends : (file : List ℕ) (end q : ℕ) (found : Option Place) → q + 8 + extension_length file q ≤ end → extension_type file q ≡ END_OF_EXTENSIONS
    → (at : ℕ) (format : Option Place) → Walk file end q found at format
    → extensions_from file at end format ≡ record { overruns = false; format = found; end = q + 8; ended = true }
walk_ends file end q found fits last _ _ Here = extensions_ended file q end found (omega arith) fits last
walk_ends file end q found fits last _ _ (Next at format room within more rest) =
    extensions_next file at end format room within more ∙ walk_ends file end q found fits last (extension_after file at) (format_after file at format) rest

pub walk_stops : (file : List ℕ) (end q : ℕ) (found : Option Place) → end < q + 8
    → (at : ℕ) (format : Option Place) → Walk file end q found at format
    → extensions_from file at end format ≡ record { overruns = false; format = found; end = min q end; ended = false }
walk_stops file end q found short _ _ Here = extensions_short file q end found short
walk_stops file end q found short _ _ (Next at format room within more rest) =
    extensions_next file at end format room within more ∙ walk_stops file end q found short (extension_after file at) (format_after file at format) rest

-- A walk through a file that reads the same from a place on.
module _ (old new : List ℕ) (end end_new lo q : ℕ) (found : Option Place) (reach : min q end ≤ end_new)
    (same : (i : ℕ) → lo ≤ i → i < min q end → slice_index new i ≡ slice_index old i) where
  pub walk_alike : (at : ℕ) (format : Option Place) → lo ≤ at → Walk old end q found at format → Walk new end_new q found at format
  walk_alike _ _ low Here = Here
  walk_alike _ _ low (Next at format room fits more rest) =
      let behind = forward old end q found (extension_after old at) (format_after old at format) rest in
      let kind : extension_type new at ≡ extension_type old at = number_at-alike old new at 4 (record { same = λ i from below. same i (omega (arith, low, from)) (omega (arith, below, room, behind)) }) in
      let len : extension_length new at ≡ extension_length old at = number_at-alike old new (at + 4) 4 (record { same = λ i from below. same i (omega (arith, low, from)) (omega (arith, below, room, behind)) }) in
      let later = walk_alike (extension_after old at) (format_after old at format) (omega (arith, low)) rest in
      Next at format (omega (arith, room, behind, reach)) (omega (arith, len, fits, behind, reach)) (λ is. more (sym kind ∙ is)) (rw (kind, len) later)

-- The extension that names the backing format, where one is known at a walk's end.
pub record HasFormatAt (file : List ℕ) (end q : ℕ) (p : Place) (at : ℕ) (format : Option Place) : Type 0 where
  pub e : ℕ
  pub known : Option Place
  pub first : Walk file end e known at format
  pub kind : extension_type file e ≡ BACKING_FORMAT
  pub place : p ≡ record { at = e + 8; len = extension_length file e }
  pub more : extension_type file e ≢ END_OF_EXTENSIONS
  pub room : e + 8 ≤ end
  pub fits : e + 8 + extension_length file e ≤ end
  pub rest : Walk file end q (Some p) (extension_after file e) (Some p)

pub format_named : (file : List ℕ) (at : ℕ) (format : Option Place) → extension_type file at ≡ BACKING_FORMAT → format_after file at format ≡ Some (record { at = at + 8; len = extension_length file at })
format_named file at format is = let test = eq-eqb (extension_type file at) BACKING_FORMAT is in rw test refl

format_passed : (file : List ℕ) (at : ℕ) (format : Option Place) → extension_type file at ≢ BACKING_FORMAT → format_after file at format ≡ format
format_passed file at format other = let test = ne_eqb (extension_type file at) BACKING_FORMAT other in rw test refl

pub format_found : (file : List ℕ) (end q : ℕ) (p : Place) (at : ℕ) (format : Option Place) → Walk file end q (Some p) at format
    → (format ≡ Some p) ⊎ HasFormatAt file end q p at format
format_found file end q p _ _ Here = inl refl
format_found file end q p _ _ (Next at format room fits more rest) = elim (format_found file end q p (extension_after file at) (format_after file at format) rest) [
  | inl same ↦ elim (cases_eq (extension_type file at) BACKING_FORMAT) [
    | inl kind ↦
        let W : Option Place → Type 0 = λ f. Walk file end q (Some p) (extension_after file at) f in
        let named = format_named file at format kind in
        let is : p ≡ record { at = at + 8; len = extension_length file at } = let both = sym same ∙ named in cc in
        inr (record { e = at; known = format; first = Here; kind = kind; place = is; more = more; room = room; fits = fits; rest = subst W same rest })
    | inr other ↦ inl (sym (format_passed file at format other) ∙ same)
  ]
  | inr there ↦ inr (record {
    e = there.e;
    known = there.known;
    first = Next at format room fits more there.first;
    kind = there.kind;
    place = there.place;
    more = there.more;
    room = there.room;
    fits = there.fits;
    rest = there.rest;
  })
]

-- behind that extension none names a format, so the walk is one with any
pub any_format : (file : List ℕ) (end q : ℕ) (p : Place) (at : ℕ) (format : Option Place) → p.at < at + 8 → Walk file end q (Some p) at format
    → (format ≡ Some p) × ((other : Option Place) → Walk file end q other at other)
any_format file end q p _ _ low Here = (refl, λ other. Here)
any_format file end q p _ _ low (Next at format room fits more rest) =
    let later = any_format file end q p (extension_after file at) (format_after file at format) (omega (arith, low)) rest in
    elim (cases_eq (extension_type file at) BACKING_FORMAT) [
      | inl kind ↦ absurd (
          let named = format_named file at format kind in
          let both = sym later.0 ∙ named in
          let at_least : p.at ≡ at + 8 = cc in
          omega (arith, low, at_least))
      | inr other ↦ (
        sym (format_passed file at format other) ∙ later.0,
        λ f.
            let W : Option Place → Type 0 = λ g. Walk file end q f (extension_after file at) g in
            Next at f room fits more (subst W (sym (format_passed file at f other)) (later.1 f)),
      )
    ]
