-- What becomes of names on lines.
use Rattle.std.proofs.Common.{ℕ, ◌≡◌, ◌≤◌, ◌+◌, ◌==◌, not, Bool, true, false, cond, IsTrue, List, [], ◌∷◌, ◌++◌, length, slice_index, map, flat_map, refl, ap, sym, subst, ◌∙◌, append_assoc, append-nil, length-append, arith, inl, inr}
use Rattle.std.specs.List.{All, AllByRecursion, list_all, concat}
use Rattle.std.proofs.lemmas.Bool.{cases_Bool}
use Rattle.std.proofs.lemmas.List.Folds.{list_all-append}
use Rattle.std.proofs.lemmas.Bool.Decides.{nat_tests}
use Rattle.std.proofs.lemmas.List.Elements.{All-from_recursion, recursion_from_All, filter-append}
use Rattle.headline_text.specs.NameLines.{passes, name_part, name_column, names_from, name_lines, line_of, AreOfNames, EndsInHyphen}
use Rattle.headline_text.specs.Lines.{lines_from, lines, is_one_line, without_breaks}
use Rattle.headline_text.proofs.WrapLaws.{both}

unbroken : (c : ℕ) → not (c == 10) ≡ true → (c == 10) ≡ false
unbroken c h = by (c == 10) h
  where
    by : (b : Bool) → not b ≡ true → b ≡ false
    by true h = absurd (cc)
    by false h = refl

-- bytes without LF stay on their line
pub goes_on : (xs rest line : List ℕ) → is_one_line xs ≡ true → lines_from line (xs ++ rest) ≡ lines_from (line ++ xs) rest
goes_on [] rest line h = ap (λ (l : List ℕ). lines_from l rest) (sym (append-nil line))
goes_on (c ∷ cs) rest line h =
    let l = both (not (c == 10)) (is_one_line cs) h in
    rw (unbroken c l.0) (goes_on cs rest (line ++ c ∷ []) l.1 ∙ ap (λ (xs : List ℕ). lines_from xs rest) (append_assoc line (c ∷ []) cs))

hyphened : (name : List ℕ) → is_one_line name ≡ true → is_one_line (name ++ 45 ∷ []) ≡ true
hyphened [] h = refl
hyphened (c ∷ cs) h = let l = both (not (c == 10)) (is_one_line cs) h in rw (l.0, hyphened cs l.1) refl

stays : (xs : List ℕ) → is_one_line xs ≡ true → without_breaks xs ≡ xs
stays [] h = refl
stays (c ∷ cs) h = let l = both (not (c == 10)) (is_one_line cs) h in rw l.0 (ap (λ (xs : List ℕ). c ∷ xs) (stays cs l.1))

abbrev AreLines : List (List ℕ) → Type 0
AreLines names = AllByRecursion (λ (name : List ℕ). is_one_line name ≡ true) names

part_whole : (column : ℕ) (name : List ℕ) → is_one_line name ≡ true → without_breaks (name_part column name) ≡ name ++ 45 ∷ []
part_whole column name h = by (passes column name)
  where
    by : (b : Bool) → without_breaks (cond b (10 ∷ (name ++ 45 ∷ [])) (name ++ 45 ∷ [])) ≡ name ++ 45 ∷ []
    by true = stays (name ++ 45 ∷ []) (hyphened name h)
    by false = stays (name ++ 45 ∷ []) (hyphened name h)

names_whole : (names : List (List ℕ)) (column : ℕ) → AreLines names → without_breaks (names_from column names) ≡ concat (map (λ (name : List ℕ). name ++ 45 ∷ []) names)
names_whole [] column h = refl
names_whole (n ∷ ns) column h =
    filter-append (λ (c : ℕ). not (c == 10)) (name_part column n) (names_from (name_column column n) ns)
    ∙ ap (λ (xs : List ℕ). xs ++ without_breaks (names_from (name_column column n) ns)) (part_whole column n h.0)
    ∙ ap (λ (xs : List ℕ). (n ++ 45 ∷ []) ++ xs) (names_whole ns (name_column column n) h.1)

within : (column : ℕ) (name : List ℕ) → length name ≤ 65 → passes column name ≡ false → column + (length name + 1) ≤ 66
within column name fits h = grind (arith, nat_tests)

abbrev AreShort : List (List ℕ) → Type 0
AreShort ls = AllByRecursion (λ (line : List ℕ). length line ≤ 66) ls

names_short : (names : List (List ℕ)) (line : List ℕ) (column : ℕ) → AreLines names → AllByRecursion (λ (name : List ℕ). length name ≤ 65) names → length line ≡ column → column ≤ 66 → AreShort (lines_from line (names_from column names))
names_short [] line column h fits is le = (omega arith, tt)
names_short (n ∷ ns) line column h fits is le =
    let own = n ++ 45 ∷ [] in
    let long : length own ≡ length n + 1 = length-append n (45 ∷ []) in
    let one = hyphened n h.0 in
    elim (cases_Bool (passes column n)) [
      | inl on ↦ rw on (omega arith, rw (goes_on own (names_from (length n + 1) ns) [] one) (names_short ns own (length n + 1) h.1 fits.1 long (omega (arith, fits.0))))
      | inr off ↦
          let low = within column n fits.0 off in
          let sum : length (line ++ own) ≡ column + length n + 1 = omega (arith, length-append line own, is, long) in
          rw off (rw (goes_on own (names_from (column + length n + 1) ns) line one) (names_short ns (line ++ own) (column + length n + 1) h.1 fits.1 sum (omega (arith, low))))
    ]

pub lines_short : (names : List (List ℕ)) → All (λ (name : List ℕ). IsTrue (is_one_line name)) names → All (λ (name : List ℕ). length name ≤ 65) names → All (λ (line : List ℕ). length line ≤ 66) (lines (name_lines names))
unfolding name_lines
lines_short names h fits =
    All-from_recursion (λ (line : List ℕ). length line ≤ 66) (lines (name_lines names))
    (names_short names [] 0 (recursion_from_All (λ (name : List ℕ). is_one_line name ≡ true) names h) (recursion_from_All (λ (name : List ℕ). length name ≤ 65) names fits) refl (omega arith))

pub lines_whole : (names : List (List ℕ)) → All (λ (name : List ℕ). IsTrue (is_one_line name)) names → without_breaks (name_lines names) ≡ concat (map (λ (name : List ℕ). name ++ 45 ∷ []) names)
unfolding name_lines
lines_whole names h = names_whole names 0 (recursion_from_All (λ (name : List ℕ). is_one_line name ≡ true) names h)

-- ---- no name is broken

-- what stands on the line that is begun, and on the lines behind it
record Grouped (names : List (List ℕ)) (line : List ℕ) (ls : List (List ℕ)) : Type 0 where
  pub group : List (List ℕ)
  pub more : List (List (List ℕ))
  pub all : group ++ flat_map (λ (g : List (List ℕ)). g) more ≡ names
  pub each : ls ≡ (line ++ line_of group) ∷ map line_of more

grouped : (names : List (List ℕ)) (line : List ℕ) (column : ℕ) → AreLines names → Grouped names line (lines_from line (names_from column names))
grouped [] line column h = record { group = []; more = []; all = refl; each = ap (λ (l : List ℕ). l ∷ []) (sym (append-nil line)) }
grouped (n ∷ ns) line column h =
    let own = n ++ 45 ∷ [] in
    let one = hyphened n h.0 in
    elim (cases_Bool (passes column n)) [
      | inl on ↦
          let r = grouped ns own (length n + 1) h.1 in
          record {
            group = [];
            more = (n ∷ r.group) ∷ r.more;
            all = ap (λ (xs : List (List ℕ)). n ∷ xs) r.all;
            each = rw on (ap (λ (ls : List (List ℕ)). line ∷ ls) (goes_on own (names_from (length n + 1) ns) [] one ∙ r.each) ∙ ap (λ (l : List ℕ). l ∷ (own ++ line_of r.group) ∷ map line_of r.more) (sym (append-nil line)));
          }
      | inr off ↦
          let r = grouped ns (line ++ own) (column + length n + 1) h.1 in
          record {
            group = n ∷ r.group;
            more = r.more;
            all = ap (λ (xs : List (List ℕ)). n ∷ xs) r.all;
            each = rw off (goes_on own (names_from (column + length n + 1) ns) line one ∙ r.each ∙ ap (λ (l : List ℕ). l ∷ map line_of r.more) (append_assoc line own (line_of r.group)));
          }
    ]

pub lines_unbroken : (names : List (List ℕ)) → All (λ (name : List ℕ). IsTrue (is_one_line name)) names → AreOfNames names (lines (name_lines names))
unfolding name_lines
lines_unbroken names h =
    let r = grouped names [] 0 (recursion_from_All (λ (name : List ℕ). is_one_line name ≡ true) names h) in
    record { groups = r.group ∷ r.more; all = r.all; each = r.each }

all_end : (names : List (List ℕ)) (line : List ℕ) (column : ℕ) → AreLines names → EndsInHyphen line → AllByRecursion EndsInHyphen (lines_from line (names_from column names))
all_end [] line column h ends = (ends, tt)
all_end (n ∷ ns) line column h ends =
    let own = n ++ 45 ∷ [] in
    let one = hyphened n h.0 in
    elim (cases_Bool (passes column n)) [
      | inl on ↦ rw on (ends, rw (goes_on own (names_from (length n + 1) ns) [] one) (all_end ns own (length n + 1) h.1 (n, refl)))
      | inr off ↦ rw off (rw (goes_on own (names_from (column + length n + 1) ns) line one) (all_end ns (line ++ own) (column + length n + 1) h.1 (line ++ n, sym (append_assoc line n (45 ∷ [])))))
    ]

pub lines_end : (names : List (List ℕ)) → (names ≡ [] → ⊥) → All (λ (name : List ℕ). IsTrue (is_one_line name)) names → All EndsInHyphen (lines (name_lines names))
unfolding name_lines
lines_end [] some h = absurd (some refl)
lines_end (n ∷ ns) some h =
    let r = recursion_from_All (λ (name : List ℕ). is_one_line name ≡ true) (n ∷ ns) h in
    let own = n ++ 45 ∷ [] in
    let same = goes_on own (names_from (0 + length n + 1) ns) [] (hyphened n r.0) in
    All-from_recursion EndsInHyphen (lines (name_lines (n ∷ ns))) (subst (λ (ls : List (List ℕ)). AllByRecursion EndsInHyphen ls) (sym same) (all_end ns own (0 + length n + 1) r.1 (n, refl)))

-- the first byte of a name that is not empty stays in front
pub lines_begin : (c : ℕ) (cs : List ℕ) (names : List (List ℕ)) → slice_index (name_lines ((c ∷ cs) ∷ names)) 0 ≡ c
unfolding name_lines
lines_begin c cs names = refl

module _ (p : ℕ → Bool) (hyphen : p 45 ≡ true) (break : p 10 ≡ true) where
  abbrev pub Pass : List ℕ → Type 0
  Pass xs = list_all p xs ≡ true

  joined : (xs ys : List ℕ) → Pass xs → Pass ys → Pass (xs ++ ys)
  joined xs ys h k = rw (list_all-append p xs ys, h) k

  part_passes : (b : Bool) (name : List ℕ) → Pass name → Pass (cond b (10 ∷ (name ++ 45 ∷ [])) (name ++ 45 ∷ []))
  part_passes true name h = rw break (joined name (45 ∷ []) h (rw hyphen refl))
  part_passes false name h = joined name (45 ∷ []) h (rw hyphen refl)

  from_passes : (names : List (List ℕ)) (column : ℕ) → AllByRecursion Pass names → Pass (names_from column names)
  from_passes [] column h = refl
  from_passes (n ∷ ns) column h = joined (name_part column n) (names_from (name_column column n) ns) (part_passes (passes column n) n h.0) (from_passes ns (name_column column n) h.1)

  -- a test that hyphens, LF and the bytes of names pass
  pub lines_pass : (names : List (List ℕ)) → All Pass names → Pass (name_lines names)
  unfolding name_lines
  lines_pass names h = from_passes names 0 (recursion_from_All Pass names h)
