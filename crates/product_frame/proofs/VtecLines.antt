-- A P-VTEC text is one line, which a reader takes as it stands.
use Rattle.std.proofs.Common.{◌≡◌, ℕ, ◌+◌, ◌-◌, ◌/◌, ◌%◌, ◌≤◌, ◌||◌, true, List, [], ◌∷◌, ◌++◌, length, take, drop, refl, ap, sym, ◌∙◌, subst, arith, inl, inr, Option, Some, None, length-take-le, length-drop, take-append-drop, lit≤}
use Rattle.std.specs.Prelude.{slice_index}
use Rattle.std.specs.List.{AllByRecursion, list_all, slice_range}
use Rattle.std.proofs.lemmas.Bool.{and_parts, or_cases, le-leb, leb-true, ne_eqb}
use Rattle.std.proofs.lemmas.List.{drop_more}
use Rattle.std.proofs.Math.ListN.{drop_of_length-le}
use Rattle.hazard_types.specs.Calendar.{is_digit, stamp_of, civil_of}
use Rattle.hazard_types.specs.Places.{is_capital, are_letters}
use Rattle.hazard_types.specs.declared.codes.Class.{Class}
use Rattle.hazard_types.specs.declared.codes.Action.{Action}
use Rattle.hazard_types.specs.declared.hazard.Sig.{Sig}
use Rattle.hazard_types.specs.declared.line.Vtec.{Vtec}
use Rattle.hazard_types.specs.Letters.{class_code, action_code, sig_code}
use Rattle.hazard_types.specs.Digits.{four_digits}
use Rattle.hazard_types.specs.Times.{time_text}
use Rattle.hazard_types.specs.Tables.{class_rows, action_rows, sig_rows}
use Rattle.hazard_types.proofs.CodesBack.{each_class, each_action, each_sig}
use Rattle.hazard_types.proofs.ColumnLemmas.{Column, text_of}
use Rattle.vtec_string.specs.Columns.{IsVtec, vtec_text}
use Rattle.vtec_string.proofs.Laying.{columns}
use Rattle.product_frame.specs.Text.{line_of}
use Rattle.product_frame.specs.Parts.{has_slash}
use Rattle.product_frame.specs.LineRules.{IsOneLine}
use Rattle.ugc_codes.proofs.Written.{all_both}
use Rattle.product_frame.proofs.Runs.{line_whole}
use Rattle.product_frame.proofs.LineKinds.{all_take}
use Rattle.product_frame.proofs.LocalLines.{NoEnd, digit_no_end}
use Rattle.product_frame.proofs.UgcLines.{two_of, capital_no_end}

class_line : (c : Class) → IsOneLine (class_code c)
unfolding class_rows
class_line = each_class (λ c. IsOneLine (class_code c)) ((refl, tt), ((refl, tt), ((refl, tt), ((refl, tt), tt))))

action_line : (a : Action) → IsOneLine (action_code a)
unfolding action_rows
action_line = each_action (λ a. IsOneLine (action_code a)) ((refl, (refl, (refl, tt))), ((refl, (refl, (refl, tt))), ((refl, (refl, (refl, tt))), ((refl, (refl, (refl, tt))), ((refl, (refl, (refl, tt))), ((refl, (refl, (refl, tt))), ((refl, (refl, (refl, tt))), ((refl, (refl, (refl, tt))), ((refl, (refl, (refl, tt))), ((refl, (refl, (refl, tt))), tt))))))))))

sig_line : (s : Sig) → IsOneLine (sig_code s)
unfolding sig_rows
sig_line = each_sig (λ s. IsOneLine (sig_code s)) ((refl, tt), ((refl, tt), ((refl, tt), ((refl, tt), ((refl, tt), ((refl, tt), ((refl, tt), tt)))))))

pub time_line : (t : Option ℕ) → IsOneLine (time_text t)
unfolding stamp_of
time_line None = (refl, (refl, (refl, (refl, (refl, (refl, (refl, (refl, (refl, (refl, (refl, (refl, tt))))))))))))
time_line (Some m) =
    let c = civil_of m in (
      digit_no_end (c.year / 10),
      (
        digit_no_end (c.year % 10),
        (
          digit_no_end (c.month / 10),
          (
            digit_no_end (c.month % 10),
            (
              digit_no_end (c.day / 10),
              (
                digit_no_end (c.day % 10),
                (
                  refl,
                  (digit_no_end (c.hour / 10), (digit_no_end (c.hour % 10), (digit_no_end (c.minute / 10), (digit_no_end (c.minute % 10), (refl, tt))))),
                ),
              ),
            ),
          ),
        ),
      ),
    )

pub number_no_end : (c : ℕ) → is_digit c ≡ true → NoEnd c
number_no_end c h = let le : 48 ≤ c = leb-true 48 c (and_parts _ _ h).0 in ne_eqb _ _ (λ (e : c ≡ 10). omega arith)

pub name_no_end : (c : ℕ) → (is_capital c || is_digit c) ≡ true → NoEnd c
name_no_end c h = elim (or_cases (is_capital c) (is_digit c) h) [ inl a ↦ capital_no_end c a | inr b ↦ number_no_end c b ]

pub names_line : (t : List ℕ) → list_all (λ c. is_capital c || is_digit c) t ≡ true → IsOneLine t
names_line [] h = tt
names_line (c ∷ t) h = let p = and_parts (is_capital c || is_digit c) (list_all (λ c. is_capital c || is_digit c) t) h in (name_no_end c p.0, names_line t p.1)

four_line : (n : ℕ) → IsOneLine (four_digits n)
four_line n = (digit_no_end (n / 1000), (digit_no_end (n / 100 % 10), (digit_no_end (n / 10 % 10), (digit_no_end (n % 10), tt))))

pub letters_line : (t : List ℕ) → length t ≡ 2 → are_letters t ≡ true → IsOneLine t
letters_line t two h =
    let p = and_parts (is_capital (slice_index t 0)) (is_capital (slice_index t 1)) h in
    subst IsOneLine (sym (two_of t two)) (capital_no_end (slice_index t 0) p.0, (capital_no_end (slice_index t 1) p.1, tt))

-- what stands in two places of a text has two bytes
pub two_at : (t part : List ℕ) (i n : ℕ) → length t ≡ n → i + 2 ≤ n → slice_range t i (i + 2) ≡ part → length part ≡ 2
two_at t part i n size le h =
    let many : 2 ≤ length (drop i t) = omega (arith, length-drop i t, size, le) in
    let width : i + 2 - i ≡ 2 = omega arith in
    sym (ap length h) ∙ rw width (length-take-le 2 (drop i t) many)

-- columns of one line each are one line
pub one_line : (cs : List Column) → AllByRecursion (λ (c : Column). IsOneLine c.1 × NoEnd c.2) cs → IsOneLine (text_of cs)
one_line [] h = tt
one_line (c ∷ cs) h = all_both NoEnd c.1 (c.2 ∷ text_of cs) h.0.0 (h.0.1, one_line cs h.1)

-- a line that ends with a slash is taken as it stands
pub slash_whole : (t : List ℕ) (n : ℕ) → length t ≡ n + 1 → slice_index t n ≡ 47 → IsOneLine t → line_of t ≡ t
slash_whole t n size slash one =
    let rest : drop (n + 1) t ≡ [] = drop_of_length-le t (omega (arith, size)) in
    let end : drop n t ≡ 47 ∷ [] = drop_more t n 0 (omega (arith, size)) ∙ (λ i. slash i ∷ rest i) in
    let whole : t ≡ take n t ++ 47 ∷ [] = sym (take-append-drop n t) ∙ ap (λ (r : List ℕ). take n t ++ r) end in
    ap line_of whole ∙ line_whole (take n t) 47 (all_take NoEnd n t one) refl refl ∙ sym whole

pub vtec_line : (v : Vtec) → IsVtec (vtec_text v) v → IsOneLine (vtec_text v)
unfolding vtec_text
vtec_line v is =
    let phen : IsOneLine v.hazard.phen = letters_line v.hazard.phen (two_at (vtec_text v) v.hazard.phen 12 48 is.size (lit≤ tt) is.phenomenon) is.are_letters in
    let office : IsOneLine v.office = names_line v.office (and_parts _ _ is.is_office).1 in
    one_line (columns v) ((tt, refl), ((class_line v.class, refl), ((action_line v.action, refl), ((office, refl), ((phen, refl), ((sig_line v.hazard.sig, refl), ((four_line v.etn, refl), ((time_line v.begin, refl), ((time_line v.end, refl), tt)))))))))

pub vtec_slash : (v : Vtec) → has_slash (vtec_text v) ≡ true
unfolding vtec_text
vtec_slash v = rw (le-leb 1 (length (vtec_text v)) (omega arith)) refl

pub vtec_whole : (v : Vtec) → IsVtec (vtec_text v) v → line_of (vtec_text v) ≡ vtec_text v
vtec_whole v is = slash_whole (vtec_text v) 47 is.size (ap (λ (t : List ℕ). slice_index t 8) is.separated) (vtec_line v is)
