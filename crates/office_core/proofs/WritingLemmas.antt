-- Bytes that stand well are passed over.
use Rattle.std.proofs.Common.{◌≡◌, ◌∙◌, ◌+◌, ◌-◌, ◌<◌, ℕ, suc, List, ◌∷◌, true, false, Option, Some, None, option_map, refl, ap, arith, length, take, drop, drop-cons, get_or}
use Rattle.std.proofs.lemmas.List.{take_rest}
use Rattle.hazard_types.specs.Characters.{is_printable}
use Rattle.office_core.specs.Writing.{bad_at, is_doubled}

further : (n : ℕ) (o : Option ℕ) → option_map (λ (k : ℕ). k + n) (option_map suc o) ≡ option_map (λ (k : ℕ). k + (n + 1)) o
further n None = refl
further n (Some k) = ap Some (omega arith)

-- a byte that is printable and not doubled is passed
passed : (byte : ℕ) (rest : List ℕ) (n : ℕ) → is_printable byte ≡ true → is_doubled byte rest ≡ false →
    option_map (λ (k : ℕ). k + n) (bad_at (byte ∷ rest)) ≡ option_map (λ (k : ℕ). k + (n + 1)) (bad_at rest)
passed byte rest n printable single = rw (printable, single) (further n (bad_at rest))

pub goes_on : (text : List ℕ) (at : ℕ) → at < length text → is_printable (get_or text at 0) ≡ true →
    is_doubled (get_or text at 0) (take (length text - (at + 1)) (drop (at + 1) text)) ≡ false →
    bad_at text ≡ option_map (λ (k : ℕ). k + at) (bad_at (drop at text)) →
    bad_at text ≡ option_map (λ (k : ℕ). k + (at + 1)) (bad_at (drop (at + 1) text))
goes_on text at within printable single so_far =
    let rest : take (length text - (at + 1)) (drop (at + 1) text) ≡ drop (at + 1) text = take_rest text (at + 1) in
    let alone : is_doubled (get_or text at 0) (drop (at + 1) text) ≡ false = rw rest at single in
    let next : suc at ≡ at + 1 = omega arith in
    let cut : drop at text ≡ get_or text at 0 ∷ drop (at + 1) text = drop-cons text at 0 within ∙ ap (λ (k : ℕ). get_or text at 0 ∷ drop k text) next in
    so_far ∙ ap (λ (xs : List ℕ). option_map (λ (k : ℕ). k + at) (bad_at xs)) cut ∙ passed (get_or text at 0) (drop (at + 1) text) at printable alone
