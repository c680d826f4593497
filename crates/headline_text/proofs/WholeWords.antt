-- Where no word is longer than 64: the words of the lines of a wrapped text, and where its lines end.
use Rattle.std.proofs.Common.{ℕ, ◌≡◌, ◌<◌, ◌≤◌, ◌+◌, ◌==◌, nat_lt, true, false, List, [], ◌∷◌, ◌++◌, length, flat_map, refl, ap, sym, ◌∙◌, append_assoc, append-nil, length-append, arith, inl, inr}
use Rattle.std.specs.List.{All, AllByRecursion}
use Rattle.std.proofs.lemmas.Bool.{cases_Bool}
use Rattle.std.proofs.lemmas.Bool.Decides.{nat_tests}
use Rattle.std.proofs.lemmas.List.Elements.{recursion_from_All}
use Rattle.headline_text.specs.Wrapping.{with_word, words_from, words, fits_after, fill, behind, part, column_after, lay, wrapped}
use Rattle.headline_text.specs.Lines.{lines_from, lines, is_one_line, IsFullBefore, EndWhereFull}
use Rattle.headline_text.proofs.WrapLaws.{AreWordBytes, IsWord, words_ok}
use Rattle.headline_text.proofs.NameLaws.{goes_on}

abbrev AreShortWords : List (List ℕ) → Type 0
AreShortWords ws = AllByRecursion (λ (word : List ℕ). length word ≤ 64) ws

-- ---- the words of a line

with_word_append : (word : List ℕ) (more : List (List ℕ)) → with_word word more ≡ with_word word [] ++ more
with_word_append [] more = refl
with_word_append (c ∷ cs) more = refl

words_join : (xs word ys : List ℕ) → words_from word (xs ++ 32 ∷ ys) ≡ words_from word xs ++ words_from [] ys
words_join [] word ys = with_word_append word (words_from [] ys)
words_join (c ∷ cs) word ys =
    elim (cases_Bool (c == 32)) [
      | inl blank ↦
          rw blank (ap (λ (ws : List (List ℕ)). with_word word ws) (words_join cs [] ys) ∙ with_word_append word (words_from [] cs ++ words_from [] ys)
          ∙ sym (append_assoc (with_word word []) (words_from [] cs) (words_from [] ys)) ∙ ap (λ (ws : List (List ℕ)). ws ++ words_from [] ys) (sym (with_word_append word (words_from [] cs))))
      | inr other ↦ rw other (words_join cs (word ++ c ∷ []) ys)
    ]

word_goes_on : (cs word : List ℕ) → AreWordBytes cs → words_from word cs ≡ with_word (word ++ cs) []
word_goes_on [] word h = ap (λ (xs : List ℕ). with_word xs []) (sym (append-nil word))
word_goes_on (c ∷ cs) word h = rw h.0.no_blank (word_goes_on cs (word ++ c ∷ []) h.1 ∙ ap (λ (xs : List ℕ). with_word xs []) (append_assoc word (c ∷ []) cs))

one_word : (c : ℕ) (cs : List ℕ) → AreWordBytes (c ∷ cs) → words (c ∷ cs) ≡ (c ∷ cs) ∷ []
one_word c cs h = word_goes_on (c ∷ cs) [] h

behind_line : (line : List ℕ) (c : ℕ) (cs : List ℕ) → AreWordBytes (c ∷ cs) → words (line ++ 32 ∷ c ∷ cs) ≡ words line ++ (c ∷ cs) ∷ []
behind_line line c cs h = words_join line [] (c ∷ cs) ∙ ap (λ (ws : List (List ℕ)). words line ++ ws) (one_word c cs h)

unbroken : (cs : List ℕ) → AreWordBytes cs → is_one_line cs ≡ true
unbroken [] h = refl
unbroken (c ∷ cs) h = rw (h.0.no_break, unbroken cs h.1) refl

-- ---- a word that is not cut

has_room : (n : ℕ) → n < 66 → nat_lt n 66 ≡ true
has_room n h = grind (arith, nat_tests)

pub fill_within : (cs : List ℕ) (column : ℕ) → column + length cs ≤ 66 → fill column cs ≡ cs
fill_within [] column h = refl
fill_within (c ∷ cs) column h = rw (has_room column (omega (arith, h))) (ap (λ (xs : List ℕ). c ∷ xs) (fill_within cs (column + 1) (omega (arith, h))))

pub behind_within : (cs : List ℕ) (column : ℕ) → column + length cs ≤ 66 → behind column cs ≡ column + length cs
behind_within [] column h = omega arith
behind_within (c ∷ cs) column h =
    let next = behind_within cs (column + 1) (omega (arith, h)) in
    rw (has_room column (omega (arith, h))) (omega (arith, next))

pub some_column : (column : ℕ) → 0 < column → (column == 0) ≡ false
some_column column h = grind (arith, nat_tests)

within_line : (column : ℕ) (word : List ℕ) → length word ≤ 64 → fits_after column word ≡ true → column + 1 + length word ≤ 66
within_line column word short fits = grind (arith, nat_tests)

past_line : (column : ℕ) (word : List ℕ) → length word ≤ 64 → fits_after column word ≡ false → 66 < column + 1 + length word
past_line column word short full = grind (arith, nat_tests)

first_laid : (c : ℕ) (cs : List ℕ) (ws : List (List ℕ)) → length (c ∷ cs) ≤ 64 → lay 0 ((c ∷ cs) ∷ ws) ≡ (c ∷ cs) ++ lay (length (c ∷ cs)) ws
first_laid c cs ws short =
    let w = c ∷ cs in
    let low : 0 + length w ≤ 66 = omega (arith, short) in
    let filled : part 0 w ≡ w = fill_within w 0 low in
    let next : column_after 0 w ≡ 0 + length w = behind_within w 0 low in
    let none : 0 + length w ≡ length w = omega arith in
    ap (λ (xs : List ℕ). xs ++ lay (column_after 0 w) ws) filled ∙ ap (λ (n : ℕ). w ++ lay n ws) (next ∙ none)

laid_behind : (column c : ℕ) (cs : List ℕ) (ws : List (List ℕ)) → 0 < column → length (c ∷ cs) ≤ 64 → fits_after column (c ∷ cs) ≡ true → lay column ((c ∷ cs) ∷ ws) ≡ (32 ∷ c ∷ cs) ++ lay (column + 1 + length (c ∷ cs)) ws
laid_behind column c cs ws begun short fits =
    let w = c ∷ cs in
    let some = some_column column begun in
    let low = within_line column w short fits in
    let filled : part column w ≡ 32 ∷ w = rw (some, fits) (ap (λ (xs : List ℕ). 32 ∷ xs) (fill_within w (column + 1) low)) in
    let next : column_after column w ≡ column + 1 + length w = rw (some, fits) (behind_within w (column + 1) low) in
    ap (λ (xs : List ℕ). xs ++ lay (column_after column w) ws) filled ∙ ap (λ (n : ℕ). (32 ∷ w) ++ lay n ws) next

laid_below : (column c : ℕ) (cs : List ℕ) (ws : List (List ℕ)) → 0 < column → length (c ∷ cs) ≤ 64 → fits_after column (c ∷ cs) ≡ false → lay column ((c ∷ cs) ∷ ws) ≡ 10 ∷ ((32 ∷ 32 ∷ c ∷ cs) ++ lay (2 + length (c ∷ cs)) ws)
laid_below column c cs ws begun short full =
    let w = c ∷ cs in
    let some = some_column column begun in
    let low : 2 + length w ≤ 66 = omega (arith, short) in
    let filled : part column w ≡ 10 ∷ 32 ∷ 32 ∷ w = rw (some, full) (ap (λ (xs : List ℕ). 10 ∷ 32 ∷ 32 ∷ xs) (fill_within w 2 low)) in
    let next : column_after column w ≡ 2 + length w = rw (some, full) (behind_within w 2 low) in
    ap (λ (xs : List ℕ). xs ++ lay (column_after column w) ws) filled ∙ ap (λ (n : ℕ). (10 ∷ 32 ∷ 32 ∷ w) ++ lay n ws) next

-- ---- lines

-- what is said of the lines that go on with a line, when words are laid behind it
record Laid (line : List ℕ) (ws : List (List ℕ)) (ls : List (List ℕ)) : Type 0 where
  pub head : List ℕ
  pub more : List (List ℕ)
  pub extra : List (List ℕ)
  pub is : ls ≡ head ∷ more
  pub front : words head ≡ words line ++ extra
  pub uncut : flat_map words ls ≡ words line ++ ws
  pub full : EndWhereFull ls

first_in : (ls : List (List ℕ)) (line head w : List ℕ) (more extra : List (List ℕ)) → ls ≡ head ∷ more → words head ≡ w ∷ extra → 66 < length line + 1 + length w → IsFullBefore line ls
first_in ls line head w more extra is front lt = rw (is, front) lt

laid : (ws : List (List ℕ)) (line : List ℕ) (column : ℕ) → AllByRecursion IsWord ws → AreShortWords ws → length line ≡ column → 0 < column → Laid line ws (lines_from line (lay column ws))
laid [] line column h short is begun =
    record { head = line; more = []; extra = []; is = refl; front = sym (append-nil (words line)); uncut = refl; full = (tt, tt) }
laid ([] ∷ ws) line column h short is begun = absurd (h.0.some refl)
laid ((c ∷ cs) ∷ ws) line column h short is begun =
    let w = c ∷ cs in
    let one = unbroken w h.0.bytes in
    elim (cases_Bool (fits_after column w)) [
      | inl fits ↦
          let next = column + 1 + length w in
          let line' = line ++ 32 ∷ w in
          let long : length line' ≡ next = omega (arith, length-append line (32 ∷ w), is) in
          let r = laid ws line' next h.1 short.1 long (omega arith) in
          let own = behind_line line c cs h.0.bytes in
          let same : lines_from line (lay column (w ∷ ws)) ≡ lines_from line' (lay next ws) =
          ap (λ (xs : List ℕ). lines_from line xs) (laid_behind column c cs ws begun short.0 fits) ∙ goes_on (32 ∷ w) (lay next ws) line one in
          rw same record {
            head = r.head;
            more = r.more;
            extra = w ∷ r.extra;
            is = r.is;
            front = r.front ∙ ap (λ (xs : List (List ℕ)). xs ++ r.extra) own ∙ append_assoc (words line) (w ∷ []) r.extra;
            uncut = r.uncut ∙ ap (λ (xs : List (List ℕ)). xs ++ ws) own ∙ append_assoc (words line) (w ∷ []) ws;
            full = r.full;
          }
      | inr full ↦
          let line' = 32 ∷ 32 ∷ w in
          let r = laid ws line' (2 + length w) h.1 short.1 (omega arith) (omega arith) in
          let below = lines_from line' (lay (2 + length w) ws) in
          let own : words line' ≡ w ∷ [] = one_word c cs h.0.bytes in
          let same : lines_from line (lay column (w ∷ ws)) ≡ line ∷ below =
          ap (λ (xs : List ℕ). lines_from line xs) (laid_below column c cs ws begun short.0 full) ∙ ap (λ (ls : List (List ℕ)). line ∷ ls) (goes_on line' (lay (2 + length w) ws) [] one) in
          rw same record {
            head = line;
            more = below;
            extra = [];
            is = refl;
            front = sym (append-nil (words line));
            uncut = ap (λ (xs : List (List ℕ)). words line ++ xs) (r.uncut ∙ ap (λ (xs : List (List ℕ)). xs ++ ws) own);
            full = (first_in below line r.head w r.more r.extra r.is (r.front ∙ ap (λ (xs : List (List ℕ)). xs ++ r.extra) own) (omega (arith, past_line column w short.0 full, is)), r.full);
          }
    ]

first_line : (c : ℕ) (cs : List ℕ) (ws : List (List ℕ)) → AllByRecursion IsWord ((c ∷ cs) ∷ ws) → AreShortWords ((c ∷ cs) ∷ ws) → Laid (c ∷ cs) ws (lines (lay 0 ((c ∷ cs) ∷ ws)))
first_line c cs ws h short =
    let w = c ∷ cs in
    let same : lines (lay 0 (w ∷ ws)) ≡ lines_from w (lay (length w) ws) =
    ap (λ (xs : List ℕ). lines_from [] xs) (first_laid c cs ws short.0) ∙ goes_on w (lay (length w) ws) [] (unbroken w h.0.bytes) in
    rw same (laid ws w (length w) h.1 short.1 refl (omega arith))

all_laid : (ws : List (List ℕ)) → AllByRecursion IsWord ws → AreShortWords ws → (flat_map words (lines (lay 0 ws)) ≡ ws) × EndWhereFull (lines (lay 0 ws))
all_laid [] h short = (refl, (tt, tt))
all_laid ([] ∷ ws) h short = absurd (h.0.some refl)
all_laid ((c ∷ cs) ∷ ws) h short =
    let r = first_line c cs ws h short in
    (r.uncut ∙ ap (λ (xs : List (List ℕ)). xs ++ ws) (one_word c cs h.0.bytes), r.full)

-- no word of at most 64 characters is cut, where there is none that is longer
pub wrapped_uncut : (text : List ℕ) → is_one_line text ≡ true → All (λ (word : List ℕ). length word ≤ 64) (words text) → flat_map words (lines (wrapped text)) ≡ words text
unfolding wrapped
wrapped_uncut text line short = (all_laid (words text) (words_ok text [] line tt) (recursion_from_All (λ (word : List ℕ). length word ≤ 64) (words text) short)).0

-- a line ends only where the next word does not fit
pub wrapped_full : (text : List ℕ) → is_one_line text ≡ true → All (λ (word : List ℕ). length word ≤ 64) (words text) → EndWhereFull (lines (wrapped text))
unfolding wrapped
wrapped_full text line short = (all_laid (words text) (words_ok text [] line tt) (recursion_from_All (λ (word : List ℕ). length word ≤ 64) (words text) short)).1
