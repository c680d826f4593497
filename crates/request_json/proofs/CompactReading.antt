-- Data whose texts are UTF-8, whose numbers are whole and whose keys ascend are read back from their compact text.
use Rattle.std.proofs.Common.{◌≡◌, ◌≤◌, ◌<◌, ◌^◌, ℕ, zero, suc, [], ◌∷◌, ◌++◌, List, Bool, true, false, Some, option_map, option_and_then, refl, ap, sym, ◌∙◌, append-nil, IsUtf8, arith}
use Rattle.std.specs.Bool.{⊤}
use Rattle.std.specs.declared.cmp.Ordering.{Ordering}
use Rattle.std.specs.declared.cmp.Ordering.TheVariants.{Less, Equal, Greater}
use Rattle.std.specs.Ordering.{match_ordering, ordering_reverse}
use Rattle.std.proofs.lemmas.Cmp.{nat_list_cmp_total}
use Rattle.std.proofs.lemmas.Fmt.{IsAscii-decimal}
use Rattle.std.proofs.lemmas.Str.{IsUtf8-append, IsUtf8-from_ascii}
use Rattle.json.specs.Json as json
use Rattle.json.specs.Lex.{tokens}
use Rattle.json.specs.Tree as tree
use Rattle.json.proofs.Printed.Decimals.{IsNumber-decimal}
use Rattle.json.proofs.Printed.Tokens.{tokens-print}
use Rattle.json.proofs.Printed.Trees.{value-json_tokens, ArePrintable-json_tokens}
use Rattle.json.proofs.Printed.Utf8.{IsUtf8-quoted, IsUtf8-are_ascii}
use Rattle.serde_json.specs.Data.{Num, unsigned, negative, float, Data, null, boolean, number, string, array, object, Items, no_items, item, Members, no_members, member, put}
use Rattle.serde_json.specs.Read.{read, of_json, of_items, of_members, max_depth}
use Rattle.serde_json.specs.Written.{outline, items_outline, members_outline, compact_text, items_text, members_text, comma_if, number_text}
use Rattle.serde_json.proofs.Numbers.{number_of-decimal}
use Rattle.serde_json.proofs.Texts.{print-outline}
use Rattle.request_json.proofs.Putting.{order}

-- the keys are above this one
abbrev IsBelow : List ℕ → Members → Type 0
IsBelow k no_members = ⊤
IsBelow k (member l d ms) = (order l k ≡ Greater) × IsBelow k ms

abbrev IsWhole : Num → Type 0
IsWhole (unsigned n) = n < 2 ^ 64
IsWhole (negative z) = ⊥
IsWhole (float x) = ⊥

-- nests at most so deep, and is in its one form
abbrev mutual
  pub IsPlain : Data → ℕ → Type 0
  IsPlain null n = ⊤
  IsPlain (boolean b) n = ⊤
  IsPlain (number x) n = IsWhole x
  IsPlain (string s) n = IsUtf8 s
  IsPlain (array ds) zero = ⊥
  IsPlain (array ds) (suc n) = ArePlain ds n
  IsPlain (object ms) zero = ⊥
  IsPlain (object ms) (suc n) = ArePlainMembers ms n

  pub ArePlain : Items → ℕ → Type 0
  ArePlain no_items n = ⊤
  ArePlain (item d ds) n = IsPlain d n × ArePlain ds n

  pub ArePlainMembers : Members → ℕ → Type 0
  ArePlainMembers no_members n = ⊤
  ArePlainMembers (member k d ms) n = IsUtf8 k × IsPlain d n × IsBelow k ms × ArePlainMembers ms n

-- ---- a member that is put keeps this

below_by : (o : Ordering) (k l m : List ℕ) (d e : Data) (ms : Members) → order l k ≡ Greater → order m k ≡ Greater → IsBelow k ms → IsBelow k (put l d ms)
    → IsBelow k (match_ordering o (member l d (member m e ms)) (member m d ms) (member m e (put l d ms)))
below_by Less k l m d e ms h hm below put_below = (h, (hm, below))
below_by Equal k l m d e ms h hm below put_below = (hm, below)
below_by Greater k l m d e ms h hm below put_below = (hm, put_below)

below_put : (k l : List ℕ) (d : Data) (ms : Members) → order l k ≡ Greater → IsBelow k ms → IsBelow k (put l d ms)
below_put k l d no_members h below = (h, tt)
below_put k l d (member m e ms) h below = below_by (order l m) k l m d e ms h below.0 below.1 (below_put k l d ms h below.1)

turned : (k l : List ℕ) → order k l ≡ Less → order l k ≡ Greater
turned k l h = nat_list_cmp_total.antisymm l k ∙ ap ordering_reverse h

turned_back : (k l : List ℕ) → order k l ≡ Greater → order l k ≡ Less
turned_back k l h = nat_list_cmp_total.antisymm l k ∙ ap ordering_reverse h

lower : (k l : List ℕ) (ms : Members) → order k l ≡ Less → IsBelow l ms → IsBelow k ms
lower k l no_members h below = tt
lower k l (member m e ms) h below = (turned k m (nat_list_cmp_total.trans k l m h (turned_back m l below.0)), lower k l ms h below.1)

plain_by : (o : Ordering) (k l : List ℕ) (d e : Data) (ms : Members) (n : ℕ) → order k l ≡ o → IsUtf8 k → IsPlain d n → ArePlainMembers (member l e ms) n → ArePlainMembers (put k d ms) n
    → ArePlainMembers (match_ordering o (member k d (member l e ms)) (member l d ms) (member l e (put k d ms))) n
plain_by Less k l d e ms n h utf8 plain all rest = (utf8, plain, (turned k l h, lower k l ms h all.2), all)
plain_by Equal k l d e ms n h utf8 plain all rest = (all.0, plain, all.2, all.3)
plain_by Greater k l d e ms n h utf8 plain all rest = (all.0, all.1, below_put l k d ms h all.2, rest)

pub plain_put : (k : List ℕ) (d : Data) (ms : Members) (n : ℕ) → IsUtf8 k → IsPlain d n → ArePlainMembers ms n → ArePlainMembers (put k d ms) n
plain_put k d no_members n utf8 plain all = (utf8, plain, tt, tt)
plain_put k d (member l e ms) n utf8 plain all = plain_by (order k l) k l d e ms n refl utf8 plain all (plain_put k d ms n utf8 plain all.3)

-- ---- the text is UTF-8

IsUtf8-comma : (b : Bool) → IsUtf8 (comma_if b)
IsUtf8-comma true = IsUtf8-are_ascii _ refl
IsUtf8-comma false = IsUtf8-are_ascii _ refl

utf8_number : (x : Num) → IsWhole x → IsUtf8 (number_text x)
utf8_number (unsigned n) h = IsUtf8-from_ascii _ (IsAscii-decimal n h)
utf8_number (negative z) h = absurd h
utf8_number (float x) h = absurd h

mutual
  pub utf8_text : (d : Data) (n : ℕ) → IsPlain d n → IsUtf8 (compact_text d)
  utf8_text null n h = IsUtf8-are_ascii _ refl
  utf8_text (boolean true) n h = IsUtf8-are_ascii _ refl
  utf8_text (boolean false) n h = IsUtf8-are_ascii _ refl
  utf8_text (number x) n h = utf8_number x h
  utf8_text (string s) n h = IsUtf8-quoted s h
  utf8_text (array ds) zero h = absurd h
  utf8_text (array ds) (suc n) h = IsUtf8-append (91 ∷ []) _ (IsUtf8-are_ascii _ refl) (utf8_items false ds n h)
  utf8_text (object ms) zero h = absurd h
  utf8_text (object ms) (suc n) h = IsUtf8-append (123 ∷ []) _ (IsUtf8-are_ascii _ refl) (utf8_members false ms n h)

  utf8_items : (b : Bool) (ds : Items) (n : ℕ) → ArePlain ds n → IsUtf8 (items_text b ds)
  utf8_items b no_items n h = IsUtf8-are_ascii _ refl
  utf8_items b (item d ds) n h = IsUtf8-append _ _ (IsUtf8-comma b) (IsUtf8-append _ _ (utf8_text d n h.0) (utf8_items true ds n h.1))

  utf8_members : (b : Bool) (ms : Members) (n : ℕ) → ArePlainMembers ms n → IsUtf8 (members_text b ms)
  utf8_members b no_members n h = IsUtf8-are_ascii _ refl
  utf8_members b (member k d ms) n h =
      IsUtf8-append _ _ (IsUtf8-comma b) (IsUtf8-append _ _ (IsUtf8-quoted k h.0) (IsUtf8-append (58 ∷ []) _ (IsUtf8-are_ascii _ refl) (IsUtf8-append _ _ (utf8_text d n h.1) (utf8_members true ms n h.3))))

-- ---- its numbers are numbers, and it nests no deeper

number_is : (x : Num) → IsWhole x → tree.HasNumbers (json.number (number_text x))
number_is (unsigned n) h = IsNumber-decimal n h
number_is (negative z) h = absurd h
number_is (float x) h = absurd h

mutual
  numbers : (d : Data) (n : ℕ) → IsPlain d n → tree.HasNumbers (outline d)
  numbers null n h = tt
  numbers (boolean b) n h = tt
  numbers (number x) n h = number_is x h
  numbers (string s) n h = tt
  numbers (array ds) zero h = absurd h
  numbers (array ds) (suc n) h = items_numbers ds n h
  numbers (object ms) zero h = absurd h
  numbers (object ms) (suc n) h = members_numbers ms n h

  items_numbers : (ds : Items) (n : ℕ) → ArePlain ds n → tree.ItemsHaveNumbers (items_outline ds)
  items_numbers no_items n h = tt
  items_numbers (item d ds) n h = (numbers d n h.0, items_numbers ds n h.1)

  members_numbers : (ms : Members) (n : ℕ) → ArePlainMembers ms n → tree.MembersHaveNumbers (members_outline ms)
  members_numbers no_members n h = tt
  members_numbers (member k d ms) n h = (numbers d n h.1, members_numbers ms n h.3)

mutual
  shallow : (d : Data) (n : ℕ) → IsPlain d n → tree.depth (outline d) ≤ n
  shallow null n h = omega arith
  shallow (boolean b) n h = omega arith
  shallow (number x) n h = omega arith
  shallow (string s) n h = omega arith
  shallow (array ds) zero h = absurd h
  shallow (array ds) (suc n) h = omega (arith, items_shallow ds n h)
  shallow (object ms) zero h = absurd h
  shallow (object ms) (suc n) h = omega (arith, members_shallow ms n h)

  items_shallow : (ds : Items) (n : ℕ) → ArePlain ds n → tree.items_depth (items_outline ds) ≤ n
  items_shallow no_items n h = omega arith
  items_shallow (item d ds) n h = omega (arith, shallow d n h.0, items_shallow ds n h.1)

  members_shallow : (ms : Members) (n : ℕ) → ArePlainMembers ms n → tree.members_depth (members_outline ms) ≤ n
  members_shallow no_members n h = omega arith
  members_shallow (member k d ms) n h = omega (arith, shallow d n h.1, members_shallow ms n h.3)

-- ---- it is the data again: each key goes last

abbrev join : Members → Members → Members
join no_members ms = ms
join (member k d found) ms = member k d (join found ms)

abbrev AreBelow : Members → Members → Type 0
AreBelow no_members ms = ⊤
AreBelow (member l e found) ms = IsBelow l ms × AreBelow found ms

join_nothing : (found : Members) → join found no_members ≡ found
join_nothing no_members = refl
join_nothing (member k d found) = ap (member k d) (join_nothing found)

join_more : (found : Members) (k : List ℕ) (d : Data) (ms : Members) → join (join found (member k d no_members)) ms ≡ join found (member k d ms)
join_more no_members k d ms = refl
join_more (member l e found) k d ms = ap (member l e) (join_more found k d ms)

put_last : (found : Members) (k : List ℕ) (d : Data) (ms : Members) → AreBelow found (member k d ms) → put k d found ≡ join found (member k d no_members)
put_last no_members k d ms h = refl
put_last (member l e found) k d ms h = rw h.0.0 (ap (member l e) (put_last found k d ms h.1))

below_more : (found : Members) (k : List ℕ) (d : Data) (ms : Members) → AreBelow found (member k d ms) → IsBelow k ms → AreBelow (join found (member k d no_members)) ms
below_more no_members k d ms h below = (below, tt)
below_more (member l e found) k d ms h below = (h.0.1, below_more found k d ms h.1 below)

none_found : (ms : Members) → AreBelow no_members ms
none_found ms = tt

number_back : (x : Num) → IsWhole x → of_json (json.number (number_text x)) ≡ Some (number x)
number_back (unsigned n) h = rw (number_of-decimal n h) refl
number_back (negative z) h = absurd h
number_back (float x) h = absurd h

mutual
  back : (d : Data) (n : ℕ) → IsPlain d n → of_json (outline d) ≡ Some d
  back null n h = refl
  back (boolean b) n h = refl
  back (number x) n h = number_back x h
  back (string s) n h = refl
  back (array ds) zero h = absurd h
  back (array ds) (suc n) h = ap (option_map array) (items_back ds n h)
  back (object ms) zero h = absurd h
  back (object ms) (suc n) h = ap (option_map object) (members_back ms no_members n h tt)

  items_back : (ds : Items) (n : ℕ) → ArePlain ds n → of_items (items_outline ds) ≡ Some ds
  items_back no_items n h = refl
  items_back (item d ds) n h = rw (back d n h.0, items_back ds n h.1) refl

  members_back : (ms found : Members) (n : ℕ) → ArePlainMembers ms n → AreBelow found ms → of_members (members_outline ms) found ≡ Some (join found ms)
  members_back no_members found n h below = ap (λ (x : Members). Some x) (sym (join_nothing found))
  members_back (member k d ms) found n h below =
      let more = join found (member k d no_members) in
      ap (λ o. option_and_then (λ (x : Data). of_members (members_outline ms) (put k x found)) o) (back d n h.1)
      ∙ ap (of_members (members_outline ms)) (put_last found k d ms below)
      ∙ members_back ms more n h.3 (below_more found k d ms below h.2)
      ∙ ap (λ (x : Members). Some x) (join_more found k d ms)

-- the compact text reads as the data
pub reads_back : (d : Data) (n : ℕ) → IsPlain d n → n ≤ max_depth → read (compact_text d) ≡ Some d
reads_back d n plain fits =
    let j = outline d in
    let printed : tokens (compact_text d) ≡ tree.json_tokens j ++ [] =
    ap tokens (sym (print-outline d)) ∙ tokens-print (tree.json_tokens j) (ArePrintable-json_tokens j (numbers d n plain)) ∙ sym (append-nil (tree.json_tokens j)) in
    let low : tree.depth j ≤ max_depth = omega (arith, shallow d n plain) in
    ap (λ ts. option_and_then of_json (option_and_then (λ p. json.if_last p.0 p.1) (json.value max_depth ts))) printed
    ∙ ap (λ r. option_and_then of_json (option_and_then (λ p. json.if_last p.0 p.1) r)) (value-json_tokens j max_depth [] low)
    ∙ back d n plain
