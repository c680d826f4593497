-- What wrapping makes of a text: its lines, and its bytes but blanks.
use Rattle.std.proofs.Common.{ℕ, ◌≡◌, ◌<◌, ◌≤◌, ◌+◌, ◌==◌, ◌||◌, ◌&&◌, ◌⊎◌, not, nat_lt, Bool, true, false, cond, List, [], ◌∷◌, ◌++◌, length, slice_index, take, drop, refl, ap, sym, ◌∙◌, append_assoc, length-append, arith, inl, inr}
use Rattle.std.specs.List.{All, AllByRecursion, list_all, concat}
use Rattle.std.proofs.lemmas.Bool.{cases_Bool}
use Rattle.std.proofs.lemmas.Bool.Decides.{nat_tests}
use Rattle.std.proofs.lemmas.List.Folds.{list_any-append, list_all-append}
use Rattle.std.proofs.lemmas.List.Elements.{All-from_recursion, filter-append}
use Rattle.headline_text.specs.Wrapping.{with_word, words_from, words, next_line, fits_after, lead, start, fill, behind, part, column_after, lay, wrapped}
use Rattle.headline_text.specs.Lines.{lines_from, lines, has_word, is_one_line, without_blanks}

pub both : (a b : Bool) → (a && b) ≡ true → (a ≡ true) × (b ≡ true)
both true b h = (refl, h)
both false b h = (h, cc)

turned : (b : Bool) → not b ≡ true → b ≡ false
turned true h = absurd (cc)
turned false h = refl

-- ---- words

pub record IsWordByte (c : ℕ) : Type 0 where
  pub no_blank : (c == 32) ≡ false
  pub no_break : (c == 10) ≡ false

abbrev pub AreWordBytes : List ℕ → Type 0
AreWordBytes word = AllByRecursion IsWordByte word

pub record IsWord (word : List ℕ) : Type 0 where
  pub some : word ≡ [] → ⊥
  pub bytes : AreWordBytes word

one_more : (word : List ℕ) (c : ℕ) → AreWordBytes word → IsWordByte c → AreWordBytes (word ++ c ∷ [])
one_more [] c h is = (is, tt)
one_more (d ∷ ds) c h is = (h.0, one_more ds c h.1 is)

with_words : (word : List ℕ) (more : List (List ℕ)) → AreWordBytes word → AllByRecursion IsWord more → AllByRecursion IsWord (with_word word more)
with_words [] more h all = all
with_words (c ∷ cs) more h all = (record { some = λ none. cc; bytes = h }, all)

pub words_ok : (text word : List ℕ) → is_one_line text ≡ true → AreWordBytes word → AllByRecursion IsWord (words_from word text)
words_ok [] word line h = with_words word [] h tt
words_ok (c ∷ cs) word line h =
    let l = both (not (c == 10)) (is_one_line cs) line in
    elim (cases_Bool (c == 32)) [
      | inl blank ↦ rw blank (with_words word (words_from [] cs) h (words_ok cs [] l.1 tt))
      | inr other ↦ rw other (words_ok cs (word ++ c ∷ []) l.1 (one_more word c h (record { no_blank = other; no_break = turned (c == 10) l.0 })))
    ]

-- ---- bytes but blanks

abbrev kept : ℕ → Bool
kept c = not ((c == 32) || (c == 10))

concat_with : (word : List ℕ) (more : List (List ℕ)) → concat (with_word word more) ≡ word ++ concat more
concat_with [] more = refl
concat_with (c ∷ cs) more = refl

words_whole : (text word : List ℕ) → is_one_line text ≡ true → concat (words_from word text) ≡ word ++ without_blanks text
words_whole [] word line = concat_with word []
words_whole (c ∷ cs) word line =
    let l = both (not (c == 10)) (is_one_line cs) line in
    elim (cases_Bool (c == 32)) [
      | inl blank ↦ rw blank (concat_with word (words_from [] cs) ∙ ap (λ (xs : List ℕ). word ++ xs) (words_whole cs [] l.1))
      | inr other ↦ rw (other, turned (c == 10) l.0) (words_whole cs (word ++ c ∷ []) l.1 ∙ append_assoc word (c ∷ []) (without_blanks cs))
    ]

lead_is_blank : (column : ℕ) (word : List ℕ) → without_blanks (lead column word) ≡ []
lead_is_blank column word = by (column == 0) (fits_after column word)
  where
    by : (first fits : Bool) → without_blanks (cond first [] (cond fits (32 ∷ []) next_line)) ≡ []
    by true fits = refl
    by false true = refl
    by false false = refl

fill_whole : (cs : List ℕ) (column : ℕ) → AreWordBytes cs → without_blanks (fill column cs) ≡ cs
fill_whole [] column h = refl
fill_whole (c ∷ cs) column h =
    elim (cases_Bool (nat_lt column 66)) [
      | inl room' ↦ rw (room', h.0.no_blank, h.0.no_break) (ap (λ (xs : List ℕ). c ∷ xs) (fill_whole cs (column + 1) h.1))
      | inr full ↦ rw (full, h.0.no_blank, h.0.no_break) (ap (λ (xs : List ℕ). c ∷ xs) (fill_whole cs 3 h.1))
    ]

part_whole : (column : ℕ) (word : List ℕ) → AreWordBytes word → without_blanks (part column word) ≡ word
part_whole column [] h = refl
part_whole column (c ∷ cs) h =
    filter-append kept (lead column (c ∷ cs)) (fill (start column (c ∷ cs)) (c ∷ cs))
    ∙ ap (λ (xs : List ℕ). xs ++ without_blanks (fill (start column (c ∷ cs)) (c ∷ cs))) (lead_is_blank column (c ∷ cs))
    ∙ fill_whole (c ∷ cs) (start column (c ∷ cs)) h

lay_whole : (ws : List (List ℕ)) (column : ℕ) → AllByRecursion IsWord ws → without_blanks (lay column ws) ≡ concat ws
lay_whole [] column h = refl
lay_whole (w ∷ ws) column h =
    filter-append kept (part column w) (lay (column_after column w) ws)
    ∙ ap (λ (xs : List ℕ). xs ++ without_blanks (lay (column_after column w) ws)) (part_whole column w h.0.bytes)
    ∙ ap (λ (xs : List ℕ). w ++ xs) (lay_whole ws (column_after column w) h.1)

pub wrapped_whole : (text : List ℕ) → is_one_line text ≡ true → without_blanks (wrapped text) ≡ without_blanks text
unfolding wrapped
wrapped_whole text line = lay_whole (words text) 0 (words_ok text [] line tt) ∙ words_whole text [] line

-- ---- lines

-- a line: each after the first begins with two blanks
pub record Fine (later : Bool) (line : List ℕ) : Type 0 where
  pub short : length line ≤ 66
  pub indented : later ≡ true → take 2 line ≡ 32 ∷ 32 ∷ []
  pub filled : has_word line ≡ true

abbrev pub AreFine : Bool → List (List ℕ) → Type 0
AreFine later [] = Unit {0}
AreFine later (line ∷ more) = Fine later line × AreFine true more

stays_indented : (line : List ℕ) (c : ℕ) → take 2 line ≡ 32 ∷ 32 ∷ [] → take 2 (line ++ c ∷ []) ≡ 32 ∷ 32 ∷ []
stays_indented [] c h = absurd (cc)
stays_indented (a ∷ []) c h = absurd (cc)
stays_indented (a ∷ b ∷ more) c h = h

grows : (later : Bool) (line : List ℕ) (c : ℕ) → Fine later line → length line < 66 → Fine later (line ++ c ∷ [])
grows later line c f lt = record {
  short = omega (arith, length-append line (c ∷ []));
  indented = λ is. stays_indented line c (f.indented is);
  filled = rw (list_any-append (λ (d : ℕ). not (d == 32)) line (c ∷ []), f.filled) refl;
}

room_left : (n m : ℕ) → nat_lt n m ≡ true → n < m
room_left n m h = grind (arith, nat_tests)

-- lines that end where the rest begins
abbrev Rest : List ℕ → ℕ → Type 0
Rest rest column = (later : Bool) (line : List ℕ) → Fine later line → length line ≡ column → AreFine later (lines_from line rest)

next_fresh : (c : ℕ) → IsWordByte c → Fine true (32 ∷ 32 ∷ c ∷ [])
next_fresh c w = record { short = omega arith; indented = λ is. refl; filled = rw w.no_blank refl }

fill_fine : (cs rest : List ℕ) (later : Bool) (line : List ℕ) (column : ℕ) → AreWordBytes cs → Fine later line → length line ≡ column → Rest rest (behind column cs) → AreFine later (lines_from line (fill column cs ++ rest))
fill_fine [] rest later line column h f is go = go later line f is
fill_fine (c ∷ cs) rest later line column h f is go =
    elim (cases_Bool (nat_lt column 66)) [
      | inl room' ↦
          let lt : length line < 66 = omega (arith, room_left column 66 room', is) in
          let long : length (line ++ c ∷ []) ≡ column + 1 = omega (arith, length-append line (c ∷ []), is) in
          rw (room', h.0.no_break) (fill_fine cs rest later (line ++ c ∷ []) (column + 1) h.1 (grows later line c f lt) long (rw room' at go))
      | inr full ↦
          rw (full, h.0.no_break) (f, fill_fine cs rest true (32 ∷ 32 ∷ c ∷ []) 3 h.1 (next_fresh c h.0) refl (rw full at go))
    ]

some_column : (line : List ℕ) (column : ℕ) → has_word line ≡ true → length line ≡ column → (column == 0) ≡ false
some_column [] column h is = absurd (cc)
some_column (c ∷ cs) column h is = grind (arith, nat_tests)

room_behind : (column : ℕ) (word : List ℕ) → fits_after column word ≡ true → column < 66
room_behind column word h = grind (arith, nat_tests)

lay_fine : (ws : List (List ℕ)) (later : Bool) (line : List ℕ) (column : ℕ) → AllByRecursion IsWord ws → Fine later line → length line ≡ column → AreFine later (lines_from line (lay column ws))
lay_fine [] later line column h f is = (f, tt)
lay_fine ([] ∷ ws) later line column h f is = absurd (h.0.some refl)
lay_fine ((c ∷ cs) ∷ ws) later line column h f is =
    let w = c ∷ cs in
    let going : Rest (lay (column_after column w) ws) (column_after column w) = λ later' line' f' is'. lay_fine ws later' line' (column_after column w) h.1 f' is' in
    let begun : (column == 0) ≡ false = some_column line column f.filled is in
    elim (cases_Bool (fits_after column w)) [
      | inl fits ↦
          let lt : length line < 66 = omega (arith, room_behind column w fits, is) in
          let long : length (line ++ 32 ∷ []) ≡ column + 1 = omega (arith, length-append line (32 ∷ []), is) in
          rw (begun, fits) (fill_fine w (lay (behind (column + 1) w) ws) later (line ++ 32 ∷ []) (column + 1) h.0.bytes (grows later line 32 f lt) long (rw (begun, fits) at going))
      | inr full ↦ rw (begun, full, h.0.bytes.0.no_break) (f, fill_fine cs (lay (behind 3 cs) ws) true (32 ∷ 32 ∷ c ∷ []) 3 h.0.bytes.1 (next_fresh c h.0.bytes.0) refl (rw (begun, full) at going))
    ]

lay_first : (w : List ℕ) (ws : List (List ℕ)) → AllByRecursion IsWord (w ∷ ws) → AreFine false (lines (lay 0 (w ∷ ws)))
lay_first [] ws h = absurd (h.0.some refl)
lay_first (c ∷ cs) ws h =
    rw h.0.bytes.0.no_break (fill_fine cs (lay (behind 1 cs) ws) false (c ∷ []) 1 h.0.bytes.1
    (record { short = omega arith; indented = λ later. cc; filled = rw h.0.bytes.0.no_blank refl }) refl
    (λ later' line' f' is'. lay_fine ws later' line' (behind 1 cs) h.1 f' is'))

-- a text without a word has no byte but blanks
blank_alone : (text : List ℕ) → is_one_line text ≡ true → without_blanks text ≡ [] → has_word text ≡ false
blank_alone [] line none = refl
blank_alone (c ∷ cs) line none =
    let l = both (not (c == 10)) (is_one_line cs) line in
    elim (cases_Bool (c == 32)) [
      | inl blank ↦ rw blank (blank_alone cs l.1 (rw blank at none))
      | inr other ↦ let some = rw (other, turned (c == 10) l.0) at none in absurd (cc)
    ]

-- the lines of a wrapped text, where it has a word
pub wrapped_fine : (text : List ℕ) → is_one_line text ≡ true → has_word text ≡ true → AreFine false (lines (wrapped text))
unfolding wrapped
wrapped_fine text line some = by (words text) (words_ok text [] line tt) (words_whole text [] line)
  where
    by : (ws : List (List ℕ)) → AllByRecursion IsWord ws → concat ws ≡ without_blanks text → AreFine false (lines (lay 0 ws))
    by [] h same = let none : has_word text ≡ false = blank_alone text line (sym same) in absurd (cc)
    by (w ∷ ws) h same = lay_first w ws h

-- a text without a word is wrapped to nothing
pub wrapped_lines : (text : List ℕ) → is_one_line text ≡ true → (AreFine false (lines (wrapped text))) ⊎ (wrapped text ≡ [])
unfolding wrapped
wrapped_lines text line = by (words text) (words_ok text [] line tt)
  where
    by : (ws : List (List ℕ)) → AllByRecursion IsWord ws → (AreFine false (lines (lay 0 ws))) ⊎ (lay 0 ws ≡ [])
    by [] h = inr refl
    by (w ∷ ws) h = inl (lay_first w ws h)

-- ---- in the words of the laws

all_short : (later : Bool) (ls : List (List ℕ)) → AreFine later ls → AllByRecursion (λ (line : List ℕ). length line ≤ 66) ls
all_short later [] h = tt
all_short later (l ∷ ls) h = (h.0.short, all_short true ls h.1)

all_indented : (ls : List (List ℕ)) → AreFine true ls → AllByRecursion (λ (line : List ℕ). take 2 line ≡ 32 ∷ 32 ∷ []) ls
all_indented [] h = tt
all_indented (l ∷ ls) h = (h.0.indented refl, all_indented ls h.1)

rest_indented : (ls : List (List ℕ)) → AreFine false ls → AllByRecursion (λ (line : List ℕ). take 2 line ≡ 32 ∷ 32 ∷ []) (drop 1 ls)
rest_indented [] h = tt
rest_indented (l ∷ ls) h = all_indented ls h.1

all_filled : (later : Bool) (ls : List (List ℕ)) → AreFine later ls → AllByRecursion (λ (line : List ℕ). has_word line ≡ true) ls
all_filled later [] h = tt
all_filled later (l ∷ ls) h = (h.0.filled, all_filled true ls h.1)

pub wrapped_short : (text : List ℕ) → is_one_line text ≡ true → All (λ (line : List ℕ). length line ≤ 66) (lines (wrapped text))
wrapped_short text line =
    All-from_recursion (λ (l : List ℕ). length l ≤ 66) (lines (wrapped text)) (elim (wrapped_lines text line) [
      | inl fine ↦ all_short false (lines (wrapped text)) fine
      | inr none ↦ rw none (omega arith, tt)
    ])

pub wrapped_indented : (text : List ℕ) → is_one_line text ≡ true → All (λ (line : List ℕ). take 2 line ≡ 32 ∷ 32 ∷ []) (drop 1 (lines (wrapped text)))
wrapped_indented text line =
    All-from_recursion (λ (l : List ℕ). take 2 l ≡ 32 ∷ 32 ∷ []) (drop 1 (lines (wrapped text))) (elim (wrapped_lines text line) [
      | inl fine ↦ rest_indented (lines (wrapped text)) fine
      | inr none ↦ rw none tt
    ])

pub wrapped_filled : (text : List ℕ) → is_one_line text ≡ true → has_word text ≡ true → All (λ (line : List ℕ). has_word line ≡ true) (lines (wrapped text))
wrapped_filled text line some = All-from_recursion (λ (l : List ℕ). has_word l ≡ true) (lines (wrapped text)) (all_filled false (lines (wrapped text)) (wrapped_fine text line some))

-- ---- the beginning

-- a word that is begun begins the first word
first_of_words : (text : List ℕ) (c : ℕ) (word : List ℕ) → (w : List ℕ) × (ws : List (List ℕ)) × (words_from (c ∷ word) text ≡ (c ∷ w) ∷ ws)
first_of_words [] c word = (word, [], refl)
first_of_words (d ∷ ds) c word =
    let more = first_of_words ds c (word ++ d ∷ []) in
    elim (cases_Bool (d == 32)) [
      | inl blank ↦ (word, words_from [] ds, rw blank refl)
      | inr other ↦ (more.0, more.1, rw other more.2)
    ]

-- a text that begins with no blank keeps its first byte in front
pub wrapped_begins : (c : ℕ) (cs : List ℕ) → (c == 32) ≡ false → slice_index (wrapped (c ∷ cs)) 0 ≡ c
unfolding wrapped
wrapped_begins c cs other =
    let first = first_of_words cs c [] in
    rw (other, first.2) refl

-- ---- bytes

module _ (p : ℕ → Bool) (blank : p 32 ≡ true) (break : p 10 ≡ true) where
  abbrev pub Pass : List ℕ → Type 0
  Pass xs = list_all p xs ≡ true

  joined : (xs ys : List ℕ) → Pass xs → Pass ys → Pass (xs ++ ys)
  joined xs ys h k = rw (list_all-append p xs ys, h) k

  with_pass : (word : List ℕ) (more : List (List ℕ)) → Pass word → AllByRecursion Pass more → AllByRecursion Pass (with_word word more)
  with_pass [] more h all = all
  with_pass (c ∷ cs) more h all = (h, all)

  words_pass : (text word : List ℕ) → Pass text → Pass word → AllByRecursion Pass (words_from word text)
  words_pass [] word h k = with_pass word [] k tt
  words_pass (c ∷ cs) word h k =
      let l = both (p c) (list_all p cs) h in
      elim (cases_Bool (c == 32)) [
        | inl is ↦ rw is (with_pass word (words_from [] cs) k (words_pass cs [] l.1 refl))
        | inr other ↦ rw other (words_pass cs (word ++ c ∷ []) l.1 (joined word (c ∷ []) k (rw l.0 refl)))
      ]

  line_passes : Pass next_line
  line_passes = rw (break, blank) refl

  lead_passes : (first fits : Bool) → Pass (cond first [] (cond fits (32 ∷ []) next_line))
  lead_passes true fits = refl
  lead_passes false true = rw blank refl
  lead_passes false false = line_passes

  fill_passes : (cs : List ℕ) (column : ℕ) → Pass cs → Pass (fill column cs)
  fill_passes [] column h = refl
  fill_passes (c ∷ cs) column h =
      let l = both (p c) (list_all p cs) h in
      elim (cases_Bool (nat_lt column 66)) [
        | inl room' ↦ rw (room', l.0) (fill_passes cs (column + 1) l.1)
        | inr full ↦ rw (full, break, blank, l.0) (fill_passes cs 3 l.1)
      ]

  part_passes : (column : ℕ) (word : List ℕ) → Pass word → Pass (part column word)
  part_passes column [] h = refl
  part_passes column (c ∷ cs) h =
      joined (lead column (c ∷ cs)) (fill (start column (c ∷ cs)) (c ∷ cs)) (lead_passes (column == 0) (fits_after column (c ∷ cs))) (fill_passes (c ∷ cs) (start column (c ∷ cs)) h)

  lay_passes : (ws : List (List ℕ)) (column : ℕ) → AllByRecursion Pass ws → Pass (lay column ws)
  lay_passes [] column h = refl
  lay_passes (w ∷ ws) column h = joined (part column w) (lay (column_after column w) ws) (part_passes column w h.0) (lay_passes ws (column_after column w) h.1)

  -- a test that blanks, LF and the bytes of a text pass
  pub wrapped_passes : (text : List ℕ) → Pass text → Pass (wrapped text)
  unfolding wrapped
  wrapped_passes text h = lay_passes (words text) 0 (words_pass text [] h refl)
