-- A desk's name and the zeros behind it.
use Rattle.std.proofs.Common.{◌≡◌, ◌≤◌, ◌-◌, ◌&&◌, ℕ, Bool, List, length, take, drop, replicate, nat_le, arith, length-append, leb-true, refl, true, false}
use Rattle.std.specs.List.{list_all}
use Rattle.std.proofs.lemmas.List.{take_at, drop_at, drop-replicate, length-replicate}
use Rattle.hazard_types.specs.Characters.{is_name_byte}
use Rattle.office_types.specs.Desks.{is_desk_name, padded, IsName}

both : (a b : Bool) → (a && b) ≡ true → (a ≡ true) × (b ≡ true)
both true b h = (refl, h)
both false b h = (h, cc)

-- a name has at most sixteen bytes
pub name_fits : (xs : List ℕ) → is_desk_name xs ≡ true → length xs ≤ 16
name_fits xs h = leb-true (length xs) 16 (both (nat_le 1 (length xs)) (nat_le (length xs) 16) (both _ (list_all is_name_byte xs) h).0).1

pub drop_zeros : (n : ℕ) → drop n (replicate {A = ℕ} 16 0) ≡ replicate {A = ℕ} (16 - n) 0
drop_zeros n = drop-replicate n 16 0

pub padded_take : (xs : List ℕ) → take (length xs) (padded xs) ≡ xs
padded_take xs = take_at xs _ (length xs) refl

-- sixteen bytes with a name in front
pub padded_name : (xs : List ℕ) → is_desk_name xs ≡ true → IsName (padded xs) (length xs)
padded_name xs h =
    let fits : length xs ≤ 16 = name_fits xs h in
    record {
      name = rw (padded_take xs) h;
      size = omega (arith, length-append xs (replicate (16 - length xs) 0), length-replicate {A = ℕ} (16 - length xs) 0);
      within = fits;
      rest = drop_at xs _ (length xs) refl;
    }
