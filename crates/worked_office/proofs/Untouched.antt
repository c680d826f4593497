-- Links that were not used, in lists.
use Rattle.std.proofs.Common.{◌≡◌, ℕ, suc, List, [], ◌∷◌, All, refl, sym, subst, arith, false}
use Rattle.desk_links.specs.LinkMemory.{LinkInMemory, IsUntouched}

pub untouched : (bytes failing : List ℕ) (piece : ℕ) (l : LinkInMemory) → l ≡ record { read = []; left = bytes; written = []; piece = piece; failing = failing; calls = 0; read_faults = 0; write_faults = 0; lacked = false } → IsUntouched l
untouched bytes failing piece l e = subst (λ (l : LinkInMemory). IsUntouched l) (sym e) (record { unread = refl; unwritten = refl; no_read_fault = refl; no_write_fault = refl })

pub first_of : {A : Type 0} (P : A → Type 0) (x : A) (xs : List A) → All P (x ∷ xs) → P x
first_of P x xs all = all 0 x (omega arith)

pub rest_of : {A : Type 0} (P : A → Type 0) (x : A) (xs : List A) → All P (x ∷ xs) → All P xs
rest_of P x xs all k d lt = all (suc k) d (omega (arith, lt))
