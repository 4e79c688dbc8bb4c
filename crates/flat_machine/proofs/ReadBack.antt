-- Texts of refusals are not read as results.
use Rattle.std.proofs.Common.{◌≡◌, ℕ, negsuc, zero, suc, ◌^◌, ◌≤◌, Bool, true, false, cond, List, [], Option, Some, None, option_map, option_and_then, Ordering, Less, Equal, Greater, refl, sym, ap, subst, ◌∙◌, arith, append-nil}
use Rattle.std.specs.Prelude.{◌&&◌, ◌==◌, max, nat_lt, nat_le, drop, slice_index, is_some, codes}
use Rattle.std.specs.Ordering.{nat_cmp, match_ordering}
use Rattle.std.specs.Cmp.Lexicographic.{slice_cmp}
use Rattle.std.proofs.lemmas.Bool.{or_parts, ltb-true, leb-true}
use Rattle.std.specs.Float.{binary64, float_is_finite}
use Rattle.json.specs.Lex.{tokens}
use Rattle.json.specs.Print.{IsNumber}
use Rattle.json.specs.Json as json
use Rattle.json.specs.Tree as tree
use Rattle.json.proofs.Printed.Decimals.{IsNumber-decimal, IsNumber-signed_decimal}
use Rattle.json.proofs.Printed.Tokens.{tokens-print}
use Rattle.json.proofs.Printed.Trees.{value-json_tokens, ArePrintable-json_tokens}
use Rattle.fast_float.specs.Text.{minus, Parts, scan, digits_of, nearest, with_sign}
use Rattle.serde_json.specs.Data.{Num, unsigned, negative, float, Data, null, boolean, number, string, array, object, Items, no_items, item, Members, no_members, member, put, depth, items_depth, members_depth}
use Rattle.serde_json.specs.Read.{is_integer, float_of, number_from, number_of, of_json, of_items, of_members, max_depth, read}
use Rattle.serde_json.specs.Find.{get, get_member, as_str, is_float}
use Rattle.serde_json.specs.Written.{number_text, outline, items_outline, members_outline, has_float, items_have_float, members_have_float, compact_text}
use Rattle.serde_json.proofs.Nesting.{depth-read}
use Rattle.serde_json.proofs.Texts.{print-outline}
use Rattle.qmp_codec.specs.Lines.{line_in, with_execute, unless_fraction, id_at}
use Rattle.qmp_codec.specs.Replies.{refused_data}
use Rattle.qmp_codec.specs.declared.reply.Class.{Class}
use Rattle.flat_machine.specs.Replies.{is_accepted}

-- ---- numbers that were read

-- one that isn't a float is written as a number
abbrev NumPrints : Num → Type 0
NumPrints n = is_float n ≡ false → IsNumber (number_text n)

abbrev mutual
  Prints : Data → Type 0
  Prints null = Unit {0}
  Prints (boolean b) = Unit {0}
  Prints (number n) = NumPrints n
  Prints (string s) = Unit {0}
  Prints (array ds) = ItemsPrint ds
  Prints (object ms) = MembersPrint ms

  ItemsPrint : Items → Type 0
  ItemsPrint no_items = Unit {0}
  ItemsPrint (item d ds) = Prints d × ItemsPrint ds

  MembersPrint : Members → Type 0
  MembersPrint no_members = Unit {0}
  MembersPrint (member k d ms) = Prints d × MembersPrint ms

abbrev IfThere : {A : Type 0} → (A → Type 0) → Option A → Type 0
IfThere P None = Unit {0}
IfThere P (Some a) = P a

there-map : {A B : Type 0} (P : A → Type 0) (Q : B → Type 0) (f : A → B) → ((a : A) → P a → Q (f a)) → (o : Option A) → IfThere P o
    → IfThere Q (option_map f o)
there-map P Q f h None x = tt
there-map P Q f h (Some a) x = h a x

there-then : {A B : Type 0} (P : A → Type 0) (Q : B → Type 0) (f : A → Option B) → ((a : A) → P a → IfThere Q (f a)) → (o : Option A) → IfThere P o
    → IfThere Q (option_and_then f o)
there-then P Q f h None x = tt
there-then P Q f h (Some a) x = h a x

float-prints : (sign : Bool) (p : Parts) → IfThere NumPrints (float_of sign p)
float-prints sign p = by_test (float_is_finite (nearest binary64 sign p))
  where
    by_test : (b : Bool) → IfThere NumPrints (cond b (Some (float (nearest binary64 sign p))) None)
    by_test true = λ h. absurd cc
    by_test false = tt

small-negative : (n : ℕ) → nat_lt 0 n ≡ true → nat_le n (2 ^ 63) ≡ true → IsNumber (number_text (negative (with_sign true n)))
small-negative zero above below = absurd (omega (arith, ltb-true 0 0 above))
small-negative (suc n) above below = IsNumber-signed_decimal (negsuc n) (omega (arith, leb-true (suc n) (2 ^ 63) below))

number-prints : (sign : Bool) (p : Parts) → IfThere NumPrints (number_from sign p)
number-prints false p = by_test (is_integer p) (nat_lt (digits_of p) (2 ^ 64)) refl
  where
    by_test : (a b : Bool) → nat_lt (digits_of p) (2 ^ 64) ≡ b
        → IfThere NumPrints (cond (a && b) (Some (unsigned (digits_of p))) (float_of false p))
    by_test true true e = λ h. IsNumber-decimal (digits_of p) (ltb-true (digits_of p) (2 ^ 64) e)
    by_test true false e = float-prints false p
    by_test false b e = float-prints false p
number-prints true p = by_test (is_integer p) (nat_lt 0 (digits_of p)) refl (nat_le (digits_of p) (2 ^ 63)) refl
  where
    by_test : (a b : Bool) → nat_lt 0 (digits_of p) ≡ b → (c : Bool) → nat_le (digits_of p) (2 ^ 63) ≡ c
        → IfThere NumPrints (cond (a && b && c) (Some (negative (with_sign true (digits_of p)))) (float_of true p))
    by_test true true e true f = λ h. small-negative (digits_of p) e f
    by_test true true e false f = float-prints true p
    by_test true false e c f = float-prints true p
    by_test false b e c f = float-prints true p

read-number : (s : List ℕ) → IfThere NumPrints (number_of s)
unfolding number_of
read-number s = by_sign (slice_index s 0 == minus)
  where
    by_sign : (b : Bool) → IfThere NumPrints (cond b (number_from true (scan (drop 1 s))) (number_from false (scan s)))
    by_sign true = number-prints true (scan (drop 1 s))
    by_sign false = number-prints false (scan s)

put-prints : (k : List ℕ) (d : Data) (ms : Members) → Prints d → MembersPrint ms → MembersPrint (put k d ms)
put-prints k d no_members p h = (p, tt)
put-prints k d (member l e ms) p h = by_order (slice_cmp nat_cmp k l) (put-prints k d ms p h.1)
  where
    by_order : (o : Ordering) → MembersPrint (put k d ms)
        → MembersPrint (match_ordering o (member k d (member l e ms)) (member l d ms) (member l e (put k d ms)))
    by_order Less rest = (p, h)
    by_order Equal rest = (p, h.1)
    by_order Greater rest = (h.0, rest)

mutual
  read-prints : (j : json.Json) → IfThere Prints (of_json j)
  read-prints json.null = tt
  read-prints (json.boolean b) = tt
  read-prints (json.number s) = there-map NumPrints Prints number (λ n h. h) (number_of s) (read-number s)
  read-prints (json.string s) = tt
  read-prints (json.array js) = there-map ItemsPrint Prints array (λ ds h. h) (of_items js) (read-items js)
  read-prints (json.object ms) = there-map MembersPrint Prints object (λ x h. h) (of_members ms no_members) (read-members ms no_members tt)

  read-items : (js : json.Items) → IfThere ItemsPrint (of_items js)
  read-items json.no_items = tt
  read-items (json.item j js) =
      there-then Prints ItemsPrint (λ d. option_map (item d) (of_items js))
      (λ d h. there-map ItemsPrint ItemsPrint (item d) (λ ds k. (h, k)) (of_items js) (read-items js)) (of_json j) (read-prints j)

  read-members : (ms : json.Members) (found : Members) → MembersPrint found → IfThere MembersPrint (of_members ms found)
  read-members json.no_members found h = h
  read-members (json.member name j ms) found h =
      there-then Prints MembersPrint (λ d. of_members ms (put name d found)) (λ d k. read-members ms (put name d found) (put-prints name d found k h))
      (of_json j) (read-prints j)

text-prints : (text : List ℕ) (d : Data) → read text ≡ Some d → Prints d
text-prints text d e =
    subst (IfThere Prints) e (of_value (option_and_then (λ p. json.if_last p.0 p.1) (json.value max_depth (tokens text))))
  where
    of_value : (j : Option json.Json) → IfThere Prints (option_and_then of_json j)
    of_value None = tt
    of_value (Some j) = read-prints j

-- ---- values that are written

mutual
  has-numbers : (d : Data) → Prints d → has_float d ≡ false → tree.HasNumbers (outline d)
  has-numbers null h e = tt
  has-numbers (boolean b) h e = tt
  has-numbers (number n) h e = h e
  has-numbers (string s) h e = tt
  has-numbers (array ds) h e = items-have ds h e
  has-numbers (object ms) h e = members-have ms h e

  items-have : (ds : Items) → ItemsPrint ds → items_have_float ds ≡ false → tree.ItemsHaveNumbers (items_outline ds)
  items-have no_items h e = tt
  items-have (item d ds) h e =
      let parts = or_parts (has_float d) (items_have_float ds) e in (has-numbers d h.0 parts.0, items-have ds h.1 parts.1)

  members-have : (ms : Members) → MembersPrint ms → members_have_float ms ≡ false → tree.MembersHaveNumbers (members_outline ms)
  members-have no_members h e = tt
  members-have (member k d ms) h e =
      let parts = or_parts (has_float d) (members_have_float ms) e in (has-numbers d h.0 parts.0, members-have ms h.1 parts.1)

mutual
  pub outline-depth : (d : Data) → tree.depth (outline d) ≡ depth d
  outline-depth null = refl
  outline-depth (boolean b) = refl
  outline-depth (number n) = refl
  outline-depth (string s) = refl
  outline-depth (array ds) = ap suc (items-depth ds)
  outline-depth (object ms) = ap suc (members-depth ms)

  items-depth : (ds : Items) → tree.items_depth (items_outline ds) ≡ items_depth ds
  items-depth no_items = refl
  items-depth (item d ds) = ap (λ n. max n (tree.items_depth (items_outline ds))) (outline-depth d) ∙ ap (max (depth d)) (items-depth ds)

  members-depth : (ms : Members) → tree.members_depth (members_outline ms) ≡ members_depth ms
  members-depth no_members = refl
  members-depth (member k d ms) = ap (λ n. max n (tree.members_depth (members_outline ms))) (outline-depth d) ∙ ap (max (depth d)) (members-depth ms)

-- What is written for a value whose numbers print, and that isn't too deep, reads as its outline does.
pub read-compact : (d : Data) → tree.HasNumbers (outline d) → depth d ≤ max_depth → read (compact_text d) ≡ of_json (outline d)
read-compact d numbers shallow =
    ap (λ o. option_and_then of_json (option_and_then (λ p. json.if_last p.0 p.1) o))
    (ap (json.value max_depth)
    (ap tokens (sym (print-outline d)) ∙ tokens-print (tree.json_tokens (outline d)) (ArePrintable-json_tokens (outline d) numbers)
    ∙ sym (append-nil (tree.json_tokens (outline d))))
    ∙ value-json_tokens (outline d) max_depth [] (subst (λ n. n ≤ max_depth) (sym (outline-depth d)) shallow))

-- ---- the id of a line

-- its numbers print, and it has room in an object
record IsId (id : Data) : Type 0 where
  prints : Prints id
  whole : has_float id ≡ false
  shallow : depth id ≤ 126

member-prints : (k : List ℕ) (ms : Members) (d : Data) (n : ℕ) → MembersPrint ms → members_depth ms ≤ n → get_member k ms ≡ Some d → Prints d × (depth d ≤ n)
member-prints k no_members d n h low is = absurd cc
member-prints k (member l e ms) d n h low is = by_order (slice_cmp nat_cmp k l) is (member-prints k ms d n h.1 (omega arith))
  where
    by_order : (o : Ordering) → match_ordering o (get_member k ms) (Some e) (get_member k ms) ≡ Some d
        → (get_member k ms ≡ Some d → Prints d × (depth d ≤ n)) → Prints d × (depth d ≤ n)
    by_order Less i rest = rest i
    by_order Greater i rest = rest i
    by_order Equal i rest = let same : e ≡ d = cc in (subst Prints same h.0, subst (λ x. depth x ≤ n) same (omega arith))

id-is : (given : List ℕ) (id : Data) → id_at given ≡ Some id → IsId id
unfolding id_at line_in
id-is given id = by_read (read given) refl
  where
    of_found : (line : Data) → read given ≡ Some line → (found : Option Data) → get (codes "id") line ≡ found
        → option_and_then unless_fraction found ≡ Some id → IsId id
    of_found line e None f is = absurd cc
    of_found line e (Some d) f is = by_float (has_float d) refl is
      where
        of_line : (line : Data) → Prints line → depth line ≤ 127 → get (codes "id") line ≡ Some d → Prints d × (depth d ≤ 126)
        of_line (object ms) h low f = member-prints (codes "id") ms d 126 h (omega arith) f
        of_line null h low f = absurd cc
        of_line (boolean b) h low f = absurd cc
        of_line (number n) h low f = absurd cc
        of_line (string s) h low f = absurd cc
        of_line (array ds) h low f = absurd cc

        by_float : (b : Bool) → has_float d ≡ b → cond b None (Some d) ≡ Some id → IsId id
        by_float true k is = absurd cc
        by_float false k is =
            let same : d ≡ id = cc in
            let of = of_line line (text-prints given line e) (depth-read given line e) f in
            subst IsId same (record { prints = of.0; whole = k; shallow = of.1 })

    by_read : (line : Option Data) → read given ≡ line
        → option_and_then unless_fraction (option_and_then (get (codes "id")) (option_and_then with_execute line)) ≡ Some id → IsId id
    by_read None e is = absurd cc
    by_read (Some line) e is = by_execute (is_some (option_and_then as_str (get (codes "execute") line))) is
      where
        by_execute : (b : Bool)
            → option_and_then unless_fraction (option_and_then (get (codes "id")) (cond b (Some line) None)) ≡ Some id → IsId id
        by_execute true k = of_found line e (get (codes "id") line) refl k
        by_execute false k = absurd cc

-- ---- a refusal

-- what its text reads as has no result
pub not_accepted : (given : List ℕ) (class : Class) (desc : List ℕ) → is_accepted (compact_text (refused_data (id_at given) class desc)) ≡ false
not_accepted given class desc = by_id (id_at given) refl
  where
    no_result : (id : Data) (found : Option Data) → of_json (outline id) ≡ found
        → is_some (option_and_then (get (codes "return")) (of_json (outline (refused_data (Some id) class desc)))) ≡ false
    no_result id None e = rw e refl
    no_result id (Some d) e = rw e refl

    by_id : (id : Option Data) → id_at given ≡ id → is_accepted (compact_text (refused_data id class desc)) ≡ false
    by_id None e =
        ap (λ o. is_some (option_and_then (get (codes "return")) o)) (read-compact (refused_data None class desc) ((tt, (tt, tt)), tt) (omega arith))
    by_id (Some id) e =
        let of = id-is given id e in
        ap (λ o. is_some (option_and_then (get (codes "return")) o))
        (read-compact (refused_data (Some id) class desc) (refused-numbers id of) (refused-depth id of))
        ∙ no_result id (of_json (outline id)) refl
      where
        refused-numbers : (id : Data) → IsId id → tree.HasNumbers (outline (refused_data (Some id) class desc))
        refused-numbers id of = ((tt, (tt, tt)), (has-numbers id of.prints of.whole, tt))

        refused-depth : (id : Data) → IsId id → depth (refused_data (Some id) class desc) ≤ max_depth
        refused-depth id of = let low = of.shallow in omega arith
