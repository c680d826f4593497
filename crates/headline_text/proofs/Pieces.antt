-- Words that stand on a line as they stand in the text are laid together.
use Rattle.std.proofs.Common.{ℕ, ◌≡◌, ◌≢◌, ◌<◌, ◌≤◌, ◌+◌, ◌-◌, suc, true, List, [], ◌∷◌, ◌++◌, length, get_or, take, drop, ap, sym, ◌∙◌, length-drop, arith}
use Rattle.std.proofs.lemmas.List.{drop-drop, drop_more, length-take-le}
use Rattle.std.proofs.Math.Seq.{take-add}
use Rattle.std.proofs.lemmas.Bool.Decides.{nat_tests}
use Rattle.headline_text.specs.Wrapping.{fits_after, part, column_after, Follows}
use Rattle.headline_text.proofs.WholeWords.{behind_within, fill_within, some_column}

-- what stands between two places
abbrev pub between : List ℕ → ℕ → ℕ → List ℕ
between text from to = take (to - from) (drop from text)

fits : (column : ℕ) (word : List ℕ) → 0 < column → column + 1 + length word ≤ 66 → fits_after column word ≡ true
fits column word some low = grind (arith, nat_tests)

part_by : (column c : ℕ) (cs : List ℕ) → 0 < column → column + 1 + length (c ∷ cs) ≤ 66 → part column (c ∷ cs) ≡ 32 ∷ c ∷ cs
part_by column c cs some low = rw (some_column column some, fits column (c ∷ cs) some low) (ap (λ (xs : List ℕ). 32 ∷ xs) (fill_within (c ∷ cs) (column + 1) low))

column_by : (column c : ℕ) (cs : List ℕ) → 0 < column → column + 1 + length (c ∷ cs) ≤ 66 → column_after column (c ∷ cs) ≡ column + 1 + length (c ∷ cs)
column_by column c cs some low = rw (some_column column some, fits column (c ∷ cs) some low) (behind_within (c ∷ cs) (column + 1) low)

part_so : (column : ℕ) (word : List ℕ) → 0 < column → 0 < length word → column + 1 + length word ≤ 66 → part column word ≡ 32 ∷ word
part_so column [] some one low = absurd (omega (arith, one))
part_so column (c ∷ cs) some one low = part_by column c cs some low

column_so : (column : ℕ) (word : List ℕ) → 0 < column → 0 < length word → column + 1 + length word ≤ 66 → column_after column word ≡ column + 1 + length word
column_so column [] some one low = absurd (omega (arith, one))
column_so column (c ∷ cs) some one low = column_by column c cs some low

between_length : (text : List ℕ) (from to : ℕ) → to ≤ length text → length (between text from to) ≡ to - from
between_length text from to le = length-take-le (to - from) (drop from text) (omega (arith, length-drop from text))

grows : (text : List ℕ) (from to end : ℕ) → from ≤ to → to < end → end < length text → get_or text to 0 ≡ 32 → between text from end ≡ between text from to ++ 32 ∷ between text (to + 1) end
grows text from to end le lt within blank =
    let whole : end - from ≡ (to - from) + (end - to) = omega (arith, le, lt) in
    let at : from + (to - from) ≡ to = omega (arith, le) in
    let one : end - to ≡ suc (end - (to + 1)) = omega (arith, lt) in
    let here : drop (to - from) (drop from text) ≡ get_or text to 0 ∷ drop (to + 1) text =
    drop-drop (to - from) from text ∙ ap (λ (n : ℕ). drop n text) at ∙ drop_more text to 0 (omega (arith, lt, within)) in
    ap (λ (n : ℕ). take n (drop from text)) whole ∙ take-add (to - from) (end - to) (drop from text)
    ∙ ap (λ (xs : List ℕ). between text from to ++ xs) (ap (λ (xs : List ℕ). take (end - to) xs) here
    ∙ ap (λ (n : ℕ). take n (get_or text to 0 ∷ drop (to + 1) text)) one ∙ ap (λ (c : ℕ). c ∷ take (end - (to + 1)) (drop (to + 1) text)) blank)

pub follows_so : (text : List ℕ) (column to start end : ℕ) → start ≤ end → end < length text → column ≢ 0 → start ≡ to + 1 → start ≢ end → column + (end - to) ≤ 66 → get_or text to 0 ≡ 32 → Follows text column to start end
follows_so text column to start end le lt some next one low blank =
    let word = between text start end in
    let long : length word ≡ end - start = between_length text start end (omega (arith, lt)) in
    let begun : 0 < column = omega (arith, some) in
    let full : 0 < length word = omega (arith, long, le, one) in
    let room : column + 1 + length word ≤ 66 = omega (arith, long, next, le, low) in
    let behind : column + 1 + length word ≡ column + (end - to) = omega (arith, long, next, le) in
    record {
      piece = λ from h. grows text from to end h (omega (arith, next, le)) lt blank ∙ ap (λ (xs : List ℕ). between text from to ++ xs) (ap (λ (n : ℕ). 32 ∷ between text n end) (sym next) ∙ sym (part_so column word begun full room));
      moves = column_so column word begun full room ∙ behind;
      within = low;
      order = omega (arith, next, le);
    }
