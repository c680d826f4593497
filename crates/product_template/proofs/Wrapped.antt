-- What wrapping makes of a text that begins with no blank, no capital letter and no $.
use Rattle.std.proofs.Common.{◌≡◌, ℕ, ◌==◌, true, false, List, [], ◌∷◌, ◌++◌, take, drop, get_or, refl, ap, sym, ◌∙◌, subst, inl, inr, append_assoc, append-nil}
use Rattle.std.specs.Prelude.{slice_index}
use Rattle.std.specs.List.{AllByRecursion}
use Rattle.std.proofs.lemmas.Bool.{cases_Bool, and_from}
use Rattle.headline_text.specs.Lines.{lines_from, lines, is_one_line}
use Rattle.headline_text.specs.Wrapping.{wrapped}
use Rattle.headline_text.proofs.WrapLaws.{wrapped_indented, wrapped_begins}
use Rattle.product_frame.proofs.Runs.{all_from}
use Rattle.product_template.proofs.Mild.{is_mild_byte, mild}

abbrev pub IsIndented : List ℕ → Type 0
IsIndented line = take 2 line ≡ 32 ∷ 32 ∷ []

-- the first line goes on from what it has
first_line : (line t : List ℕ) → (more : List ℕ) × (rest : List (List ℕ)) × (lines_from line t ≡ (line ++ more) ∷ rest)
first_line line [] = ([], [], ap (λ (x : List ℕ). x ∷ []) (sym (append-nil line)))
first_line line (c ∷ cs) = elim (cases_Bool (c == 10)) [
  | inl e ↦ rw e ([], lines_from [] cs, ap (λ (x : List ℕ). x ∷ lines_from [] cs) (sym (append-nil line)))
  | inr e ↦ rw e (let n = first_line (line ++ c ∷ []) cs in (c ∷ n.0, n.1, n.2 ∙ ap (λ (x : List ℕ). x ∷ n.1) (append_assoc line (c ∷ []) n.0)))
]

never : (a b : ℕ) → ◌≡◌ {A = List ℕ} [] (a ∷ b ∷ []) → ⊥
never a b e = cc e

blank_first : (d : ℕ) (t : List ℕ) → AllByRecursion IsIndented (lines_from (d ∷ []) t) → d ≡ 32
blank_first d t h =
    let n = first_line (d ∷ []) t in
    let a : AllByRecursion IsIndented ((d ∷ n.0) ∷ n.1) = subst (AllByRecursion IsIndented) n.2 h in
    ap (λ (x : List ℕ). get_or x 0 0) a.0

drop_all_but : (line t : List ℕ) → AllByRecursion IsIndented (lines_from line t) → AllByRecursion IsIndented (drop 1 (lines_from line t))
drop_all_but line t h =
    let n = first_line line t in
    rw n.2 (subst (AllByRecursion IsIndented) n.2 h).1

indented_mild : (t : List ℕ) → ((line : List ℕ) → AllByRecursion IsIndented (drop 1 (lines_from line t)) → mild false t ≡ true) × (AllByRecursion IsIndented (lines_from [] t) → mild true t ≡ true)
indented_mild [] = (λ line h. refl, λ h. refl)
indented_mild (c ∷ cs) = elim (cases_Bool (c == 10)) [
  | inl e ↦ rw e (λ line h. (indented_mild cs).1 h, λ h. absurd (never 32 32 h.0))
  | inr e ↦ rw e (
    λ line h. (indented_mild cs).0 (line ++ c ∷ []) h,
    λ h. let b = blank_first c cs h in and_from _ _ (ap is_mild_byte b) ((indented_mild cs).0 (c ∷ []) (drop_all_but (c ∷ []) cs h)),
  )
]

-- empty, or a first byte that is no blank, no capital letter and no $
abbrev pub BeginsMild : List ℕ → Type 0
BeginsMild [] = Unit {0}
BeginsMild (c ∷ cs) = ((c == 32) ≡ false) × (is_mild_byte c ≡ true)

first_mild : (c : ℕ) (t : List ℕ) → is_mild_byte c ≡ true → slice_index t 0 ≡ c → mild false t ≡ true → mild true t ≡ true
first_mild c [] m e h = refl
first_mild c (d ∷ t) m e h = and_from _ _ (ap is_mild_byte e ∙ m) h

pub wrapped_mild : (t : List ℕ) → BeginsMild t → is_one_line t ≡ true → mild true (wrapped t) ≡ true
unfolding wrapped
wrapped_mild [] b one = refl
wrapped_mild (c ∷ cs) b one =
    let later = all_from IsIndented (drop 1 (lines (wrapped (c ∷ cs)))) (wrapped_indented (c ∷ cs) one) in
    first_mild c (wrapped (c ∷ cs)) b.1 (wrapped_begins c cs b.0) ((indented_mild (wrapped (c ∷ cs))).0 [] later)
