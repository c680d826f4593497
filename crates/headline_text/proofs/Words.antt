-- Words are laid one after another while a text is read.
use Rattle.std.proofs.Common.{ℕ, ◌≡◌, ◌<◌, ◌≤◌, ◌+◌, ◌-◌, ◌==◌, false, List, [], ◌∷◌, ◌++◌, length, get_or, take, drop, refl, ap, sym, ◌∙◌, append_assoc, append-nil, length-drop, arith}
use Rattle.std.proofs.lemmas.List.{drop_all, drop_more, take_more, get_or-drop}
use Rattle.std.proofs.lemmas.Bool.Decides.{nat_tests}
use Rattle.headline_text.specs.Wrapping.{with_word, words_from, words, part, column_after, lay}

-- the text so far, with the word that is begun and what is left, is the whole
abbrev pub Going : List ℕ → List ℕ → ℕ → ℕ → ℕ → Type 0
Going text out column start i = lay 0 (words text) ≡ out ++ lay column (words_from (take (i - start) (drop start text)) (drop i text))

lay_with : (column : ℕ) (word : List ℕ) (more : List (List ℕ)) → lay column (with_word word more) ≡ part column word ++ lay (column_after column word) more
lay_with column [] more = refl
lay_with column (c ∷ cs) more = refl

at_blank : (column : ℕ) (word : List ℕ) (c : ℕ) (cs : List ℕ) → c ≡ 32 → lay column (words_from word (c ∷ cs)) ≡ part column word ++ lay (column_after column word) (words_from [] cs)
at_blank column word c cs is = rw is (lay_with column word (words_from [] cs))

other_byte : (c : ℕ) → (c ≡ 32 → ⊥) → (c == 32) ≡ false
other_byte c differs = grind (arith, nat_tests)

at_other : (word : List ℕ) (c : ℕ) (cs : List ℕ) → (c ≡ 32 → ⊥) → words_from word (c ∷ cs) ≡ words_from (word ++ c ∷ []) cs
at_other word c cs differs = rw (other_byte c differs)

pub blank_step : (text out out' : List ℕ) (column column' start i : ℕ) → Going text out column start i → i < length text → get_or text i 0 ≡ 32
    → out' ≡ out ++ part column (take (i - start) (drop start text)) → column' ≡ column_after column (take (i - start) (drop start text)) → Going text out' column' (i + 1) (i + 1)
blank_step text out out' column column' start i going lt is out_is column_is =
    let word = take (i - start) (drop start text) in
    let none : i + 1 - (i + 1) ≡ 0 = omega arith in
    let next = at_blank column word (get_or text i 0) (drop (i + 1) text) is in
    rw (out_is, column_is, none) (going ∙ ap (λ (xs : List ℕ). out ++ lay column (words_from word xs)) (drop_more text i 0 lt) ∙ ap (λ (xs : List ℕ). out ++ xs) next ∙ sym (append_assoc out (part column word) _))

word_grows : (text : List ℕ) (start i : ℕ) → start ≤ i → i < length text → take (i + 1 - start) (drop start text) ≡ take (i - start) (drop start text) ++ get_or text i 0 ∷ []
word_grows text start i le lt =
    let k = i - start in
    let next : i + 1 - start ≡ k + 1 = omega arith in
    let here : start + k ≡ i = omega arith in
    let within : k < length (drop start text) = omega (arith, length-drop start text) in
    let read : get_or (drop start text) k 0 ≡ get_or text i 0 = get_or-drop start text k 0 ∙ ap (λ (n : ℕ). get_or text n 0) here in
    ap (λ (n : ℕ). take n (drop start text)) next ∙ take_more (drop start text) k 0 within ∙ ap (λ (c : ℕ). take k (drop start text) ++ c ∷ []) read

pub other_step : (text out : List ℕ) (column start i : ℕ) → Going text out column start i → start ≤ i → i < length text → (get_or text i 0 ≡ 32 → ⊥) → Going text out column start (i + 1)
other_step text out column start i going le lt differs =
    let word = take (i - start) (drop start text) in
    rw (word_grows text start i le lt) (going ∙ ap (λ (xs : List ℕ). out ++ lay column (words_from word xs)) (drop_more text i 0 lt) ∙ ap (λ (ws : List (List ℕ)). out ++ lay column ws) (at_other word (get_or text i 0) (drop (i + 1) text) differs))

pub last_step : (text out : List ℕ) (column start i : ℕ) → Going text out column start i → start ≤ i → i ≤ length text → length text ≤ i → lay 0 (words text) ≡ out ++ part column (take (length text - start) (drop start text))
last_step text out column start i going le lt ge =
    let word = take (i - start) (drop start text) in
    let ended : i ≡ length text = omega arith in
    let none : drop i text ≡ [] = drop_all i text ge in
    going ∙ ap (λ (xs : List ℕ). out ++ lay column (words_from word xs)) none ∙ ap (λ (xs : List ℕ). out ++ xs) (lay_with column word []) ∙ ap (λ (xs : List ℕ). out ++ xs) (append-nil (part column word)) ∙ ap (λ (n : ℕ). out ++ part column (take (n - start) (drop start text))) ended
