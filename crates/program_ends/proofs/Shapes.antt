-- Lists of a known length.
use Rattle.std.proofs.Common.{ℕ, ◌≡◌, List, [], ◌∷◌, length, get_or, refl}
use Rattle.std.proofs.lemmas.Slice.Eq.{text_from_reads}

pub four_is : (xs : List ℕ) → length xs ≡ 4 → xs ≡ get_or xs 0 0 ∷ get_or xs 1 0 ∷ get_or xs 2 0 ∷ get_or xs 3 0 ∷ []
four_is xs h = text_from_reads xs _ h (refl, (refl, (refl, (refl, tt))))
