-- A head that is found with the last byte ends with it.
use Rattle.std.proofs.Common.{◌≡◌, ◌∙◌, ℕ, List, [], ◌∷◌, ◌++◌, length, refl, sym, ap, arith, append_assoc}
use Rattle.std.proofs.lemmas.List.{same_from_push}
use Rattle.httparse.specs.Grammar.{ResponseHead, print_response, ReadsResponse, HasNoResponse}

-- a list that has a last one
pub parted : (x : ℕ) (xs : List ℕ) → (front : List ℕ) × (last : ℕ) × (x ∷ xs ≡ front ++ last ∷ [])
parted x [] = ([], x, refl)
parted x (y ∷ ys) = let p = parted y ys in (x ∷ p.0, p.1, ap (λ (l : List ℕ). x ∷ l) p.2)

pub nothing_behind : (bytes piece : List ℕ) (h : ResponseHead) (rest : List ℕ) → HasNoResponse bytes → length piece ≡ 1 → ReadsResponse (bytes ++ piece) h rest → rest ≡ []
nothing_behind bytes piece h [] none one r = refl
nothing_behind bytes [] h (x ∷ xs) none one r = absurd (omega (arith, one))
nothing_behind bytes (b ∷ []) h (x ∷ xs) none one r =
    let p = parted x xs in
    let e : bytes ++ b ∷ [] ≡ (print_response h ++ p.0) ++ p.1 ∷ [] =
    r.1 ∙ (ap (λ (l : List ℕ). print_response h ++ l) p.2 ∙ sym (append_assoc (print_response h) p.0 (p.1 ∷ []))) in
    absurd (none h p.0 (r.0, (same_from_push bytes (print_response h ++ p.0) b p.1 e).0))
nothing_behind bytes (b ∷ c ∷ cs) h (x ∷ xs) none one r = absurd (omega (arith, one))
