-- What becomes of the draft with an id is told at its place.
use Rattle.std.proofs.Common.{◌≡◌, ◌∙◌, ◌<◌, ◌≤◌, ◌+◌, ℕ, zero, suc, Bool, true, false, cond, not, if◌then◌else◌, List, [], ◌∷◌, ◌++◌, length, take, drop, set, get_or, Some, None, refl, ap, arith}
use Rattle.std.specs.List.{position, position_or_len}
use Rattle.std.proofs.lemmas.List.Quantifiers.{position-Some}
use Rattle.office_types.specs.declared.request.Draft.{Draft}
use Rattle.office_core.specs.State.{is_draft}
use Rattle.office_core.specs.Step.{with_draft, without_draft}
use Rattle.office_core.proofs.UpdateLemmas.{lacking, none_is_some, updated, updated_at, updated_none}

as_updated : (f : Draft → Draft) (id : ℕ) (ds : List Draft) → updated (is_draft id) f ds ≡ with_draft f id ds
as_updated f id [] = refl
as_updated f id (d ∷ ds) = ap (λ (rest : List Draft). if is_draft id d then f d ∷ ds else (d ∷ rest)) (as_updated f id ds)

-- the draft at the place of the id becomes another
pub with_at : (f : Draft → Draft) (id : ℕ) (ds : List Draft) (i : ℕ) (y : Draft) → position (is_draft id) ds ≡ Some i → y ≡ get_or ds i y → set ds i (f y) ≡ with_draft f id ds
with_at f id ds i y e is = updated_at (is_draft id) f ds i y e is ∙ as_updated f id ds

-- without such a draft all stay
pub with_none : (f : Draft → Draft) (id : ℕ) (ds : List Draft) → position (is_draft id) ds ≡ None → ds ≡ with_draft f id ds
with_none f id ds e = updated_none (is_draft id) f ds e ∙ as_updated f id ds

without_from : (id : ℕ) (ds : List Draft) (i : ℕ) (y : Draft) → i < length ds → is_draft id (get_or ds i y) ≡ true →
    ((k : ℕ) → k < i → is_draft id (get_or ds k y) ≡ false) → take i ds ++ drop (suc i) ds ≡ without_draft id ds
without_from id [] i y lt t h = absurd (omega arith)
without_from id (x ∷ ds) zero y lt t h = rw t refl
without_from id (x ∷ ds) (suc i) y lt t h =
    let there : is_draft id x ≡ false = h 0 (omega arith) in
    rw there (ap (λ (rest : List Draft). x ∷ rest) (without_from id ds i y (omega arith) t (λ k less. h (suc k) (omega (arith, less)))))

-- the draft at the place of the id goes
pub without_at : (id : ℕ) (ds : List Draft) (i : ℕ) → position (is_draft id) ds ≡ Some i → take i ds ++ drop (suc i) ds ≡ without_draft id ds
without_at id [] i e = absurd (none_is_some i e)
without_at id (x ∷ ds) i e = let p = position-Some (is_draft id) (x ∷ ds) i x e in without_from id (x ∷ ds) i x p.0 p.1 p.2

kept : (b : Bool) (x : Draft) (ds rest : List Draft) (n m : ℕ) → suc n ≤ cond (not b) (1 + m) 0 → (n ≤ m → ds ≡ rest) → x ∷ ds ≡ (if b then ds else (x ∷ rest))
kept true x ds rest n m h k = absurd (omega (arith, h))
kept false x ds rest n m h k = ap (λ (more : List Draft). x ∷ more) (k (omega (arith, h)))

without_short : (id : ℕ) (ds : List Draft) → length ds ≤ position_or_len (is_draft id) ds → ds ≡ without_draft id ds
without_short id [] h = refl
without_short id (x ∷ ds) h = kept (is_draft id x) x ds (without_draft id ds) (length ds) (position_or_len (is_draft id) ds) h (without_short id ds)

pub without_none : (id : ℕ) (ds : List Draft) → position (is_draft id) ds ≡ None → ds ≡ without_draft id ds
without_none id ds h = without_short id ds (lacking (is_draft id) ds h)
