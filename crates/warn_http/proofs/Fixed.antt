-- A fixed text for each of two cases.
use Rattle.std.proofs.Common.{◌≡◌, ℕ, Bool, true, false, List, if◌then◌else◌}

pub either_is : (last : Bool) (text : Bool → List ℕ) (closing staying : List ℕ) → closing ≡ text true → staying ≡ text false
    → (if last then closing else staying) ≡ text last
either_is true text closing staying a b = a
either_is false text closing staying a b = b
