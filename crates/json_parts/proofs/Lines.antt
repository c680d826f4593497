-- A compact text has no line feed: strings escape it, and no other part has one.
use Rattle.std.proofs.Common.{◌≡◌, ◌≢◌, ◌+◌, ◌/◌, ◌%◌, ◌==◌, ◌||◌, ℕ, pos, negsuc, zero, suc, Bool, true, false, cond, nat_lt, List, [], ◌∷◌, ◌++◌, refl, arith}
use Rattle.std.proofs.lemmas.Bool.Decides.{nat_tests}
use Rattle.std.proofs.lemmas.List.Elements.{All-from_recursion}
use Rattle.std.specs.Char.{digit_char}
use Rattle.std.specs.Fmt.{decimal, digits, digits_onto, digit_glyph}
use Rattle.std.specs.List.{All, AllByRecursion}
use Rattle.json.specs.Print.{escape, escape_byte, escape_letter, quoted}
use Rattle.serde_json.specs.Data.{Num, unsigned, negative, float, Data, null, boolean, number, string, array, object, Items, no_items, item, Members, no_members, member}
use Rattle.serde_json.specs.Written.{compact_text, items_text, members_text, comma_if, number_text}

abbrev IsOther : ℕ → Type 0
IsOther b = b ≢ 10

abbrev IsLine : List ℕ → Type 0
IsLine = AllByRecursion IsOther

line_append : (xs ys : List ℕ) → IsLine xs → IsLine ys → IsLine (xs ++ ys)
line_append [] ys h k = k
line_append (x ∷ xs) ys h k = (h.0, line_append xs ys h.1 k)

line_of : (b : Bool) (xs ys : List ℕ) → IsLine xs → IsLine ys → IsLine (cond b xs ys)
line_of true xs ys h k = h
line_of false xs ys h k = k

-- ---- digits

glyph_by : (a b : Bool) (d : ℕ) → cond a (48 + d) (cond b (55 + d) (87 + d)) ≢ 10
glyph_by true b d = omega arith
glyph_by false true d = omega arith
glyph_by false false d = omega arith

onto_line : (k base : ℕ) (upper : Bool) (n : ℕ) (acc : List ℕ) → IsLine acc → IsLine (digits_onto k base upper n acc)
onto_line zero base upper n acc h = h
onto_line (suc k) base upper n acc h =
    let more : IsLine (digit_glyph upper (n % base) ∷ acc) = (glyph_by (nat_lt (n % base) 10) upper (n % base), h) in
    line_of (n / base == 0) _ _ more (onto_line k base upper (n / base) (digit_glyph upper (n % base) ∷ acc) more)

decimal_line : (n : ℕ) → IsLine (decimal n)
unfolding digits
decimal_line n = onto_line 64 10 false n [] tt

number_line : (x : Num) → IsLine (number_text x)
number_line (unsigned n) = decimal_line n
number_line (negative (pos n)) = decimal_line n
number_line (negative (negsuc n)) = (omega arith, decimal_line (suc n))
number_line (float x) = tt

-- ---- strings

char_by : (a : Bool) (d : ℕ) → cond a (48 + d) (87 + d) ≢ 10
char_by true d = omega arith
char_by false d = omega arith

char_other : (d : ℕ) → digit_char d ≢ 10
char_other d = char_by (nat_lt d 10) d

letter_by : (a b c d e f : Bool) (x : ℕ) → (a ≡ true → x ≢ 10) → cond a x (cond b 98 (cond c 102 (cond d 110 (cond e 114 (cond f 116 0))))) ≢ 10
letter_by true b c d e f x h = h refl
letter_by false true c d e f x h = omega arith
letter_by false false true d e f x h = omega arith
letter_by false false false true e f x h = omega arith
letter_by false false false false true f x h = omega arith
letter_by false false false false false true x h = omega arith
letter_by false false false false false false x h = omega arith

quote_other : (x : ℕ) → ((x == 34) || (x == 92)) ≡ true → x ≢ 10
quote_other x h = grind (arith, nat_tests)

letter_other : (x : ℕ) → escape_letter x ≢ 10
letter_other x = letter_by ((x == 34) || (x == 92)) (x == 8) (x == 12) (x == 10) (x == 13) (x == 9) x (quote_other x)

high_other : (x : ℕ) → nat_lt x 32 ≡ false → x ≢ 10
high_other x h = grind (arith, nat_tests)

hex_line : (x y : ℕ) → IsLine (92 ∷ 117 ∷ 48 ∷ 48 ∷ digit_char x ∷ digit_char y ∷ [])
hex_line x y = (omega arith, (omega arith, (omega arith, (omega arith, (char_other x, (char_other y, tt))))))

itself_by : (b : Bool) (x : ℕ) (xs : List ℕ) → (b ≡ false → x ≢ 10) → IsLine xs → IsLine (cond b xs (x ∷ []))
itself_by true x xs h k = k
itself_by false x xs h k = (h refl, tt)

byte_line : (x : ℕ) → IsLine (escape_byte x)
unfolding escape_byte
byte_line x = line_of (nat_lt 0 (escape_letter x)) _ _ (omega arith, (letter_other x, tt)) (itself_by (nat_lt x 32) x _ (high_other x) (hex_line (x / 16) (x % 16)))

escape_line : (s : List ℕ) → IsLine (escape s)
escape_line [] = tt
escape_line (x ∷ s) = line_append (escape_byte x) (escape s) (byte_line x) (escape_line s)

quoted_line : (s : List ℕ) → IsLine (quoted s)
quoted_line s = (omega arith, line_append (escape s) (34 ∷ []) (escape_line s) (omega arith, tt))

-- ---- the whole

comma_line : (b : Bool) → IsLine (comma_if b)
comma_line true = (omega arith, tt)
comma_line false = tt

mutual
  text_line : (d : Data) → IsLine (compact_text d)
  text_line null = (omega arith, (omega arith, (omega arith, (omega arith, tt))))
  text_line (boolean true) = (omega arith, (omega arith, (omega arith, (omega arith, tt))))
  text_line (boolean false) = (omega arith, (omega arith, (omega arith, (omega arith, (omega arith, tt)))))
  text_line (number x) = number_line x
  text_line (string s) = quoted_line s
  text_line (array ds) = (omega arith, items_line false ds)
  text_line (object ms) = (omega arith, members_line false ms)

  items_line : (b : Bool) (ds : Items) → IsLine (items_text b ds)
  items_line b no_items = (omega arith, tt)
  items_line b (item d ds) = line_append (comma_if b) _ (comma_line b) (line_append (compact_text d) _ (text_line d) (items_line true ds))

  members_line : (b : Bool) (ms : Members) → IsLine (members_text b ms)
  members_line b no_members = (omega arith, tt)
  members_line b (member k d ms) =
      line_append (comma_if b) _ (comma_line b) (line_append (quoted k) _ (quoted_line k) (omega arith, line_append (compact_text d) _ (text_line d) (members_line true ms)))

-- a compact text is one line
pub compact_line : (d : Data) → All (λ (b : ℕ). b ≢ 10) (compact_text d)
compact_line d = All-from_recursion IsOther (compact_text d) (text_line d)
