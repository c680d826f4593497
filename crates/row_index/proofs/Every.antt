-- What holds of each item of a list.
use Rattle.std.proofs.Common.{◌≡◌, ◌<◌, ◌+◌, ℕ, zero, suc, arith, List, [], ◌∷◌, ◌++◌, map, take, drop, get_or, length, sym, subst}
use Rattle.std.specs.List.{AllByRecursion, flat_map}

pub every_take : {X : Type 0} (xs : List X) (P : X → Type 0) (n : ℕ) → AllByRecursion P xs → AllByRecursion P (take n xs)
every_take [] P zero all = tt
every_take [] P (suc n) all = tt
every_take (x ∷ xs) P zero all = tt
every_take (x ∷ xs) P (suc n) all = (all.0, every_take xs P n all.1)

pub every_drop : {X : Type 0} (xs : List X) (P : X → Type 0) (n : ℕ) → AllByRecursion P xs → AllByRecursion P (drop n xs)
every_drop [] P zero all = tt
every_drop [] P (suc n) all = tt
every_drop (x ∷ xs) P zero all = all
every_drop (x ∷ xs) P (suc n) all = every_drop xs P n all.1

pub every_both : {X : Type 0} (xs ys : List X) (P : X → Type 0) → AllByRecursion P xs → AllByRecursion P ys → AllByRecursion P (xs ++ ys)
every_both [] ys P front back = back
every_both (x ∷ xs) ys P front back = (front.0, every_both xs ys P front.1 back)

pub every_front : {X : Type 0} (xs ys : List X) (P : X → Type 0) → AllByRecursion P (xs ++ ys) → AllByRecursion P xs
every_front [] ys P all = tt
every_front (x ∷ xs) ys P all = (all.0, every_front xs ys P all.1)

pub every_back : {X : Type 0} (xs ys : List X) (P : X → Type 0) → AllByRecursion P (xs ++ ys) → AllByRecursion P ys
every_back [] ys P all = all
every_back (x ∷ xs) ys P all = every_back xs ys P all.1

pub every_same : {X : Type 0} (xs : List X) (P Q : X → Type 0) → ((x : X) → P x → Q x) → AllByRecursion P xs → AllByRecursion Q xs
every_same [] P Q h all = tt
every_same (x ∷ xs) P Q h all = (h x all.0, every_same xs P Q h all.1)

pub every_joined : {X : Type 0} (xs : List X) (P Q R : X → Type 0) → ((x : X) → P x → Q x → R x) → AllByRecursion P xs → AllByRecursion Q xs → AllByRecursion R xs
every_joined [] P Q R h all more = tt
every_joined (x ∷ xs) P Q R h all more = (h x all.0 more.0, every_joined xs P Q R h all.1 more.1)

pub every_map : {X Y : Type 0} (xs : List X) (f : X → Y) (P : Y → Type 0) → AllByRecursion P (map f xs) → AllByRecursion (λ (x : X). P (f x)) xs
every_map [] f P all = tt
every_map (x ∷ xs) f P all = (all.0, every_map xs f P all.1)

pub every_flat : {X Y : Type 0} (xs : List X) (f : X → List Y) (P : Y → Type 0) → AllByRecursion P (flat_map f xs) → AllByRecursion (λ (x : X). AllByRecursion P (f x)) xs
every_flat [] f P all = tt
every_flat (x ∷ xs) f P all = (every_front (f x) (flat_map f xs) P all, every_flat xs f P (every_back (f x) (flat_map f xs) P all))

none_along : {X Y : Type 0} (xs : List X) (P : X → Y → Type 0) → AllByRecursion (λ (x : X). AllByRecursion (P x) []) xs
none_along [] P = tt
none_along (x ∷ xs) P = (tt, none_along xs P)

heads : {X Y : Type 0} (xs : List X) (y : Y) (ys : List Y) (P : X → Y → Type 0) → AllByRecursion (λ (x : X). AllByRecursion (P x) (y ∷ ys)) xs → AllByRecursion (λ (x : X). P x y) xs
heads [] y ys P all = tt
heads (x ∷ xs) y ys P all = (all.0.0, heads xs y ys P all.1)

tails : {X Y : Type 0} (xs : List X) (y : Y) (ys : List Y) (P : X → Y → Type 0) → AllByRecursion (λ (x : X). AllByRecursion (P x) (y ∷ ys)) xs → AllByRecursion (λ (x : X). AllByRecursion (P x) ys) xs
tails [] y ys P all = tt
tails (x ∷ xs) y ys P all = (all.0.1, tails xs y ys P all.1)

-- for each of the first each of the second, or the other way round
pub every_turned : {X Y : Type 0} (xs : List X) (ys : List Y) (P : X → Y → Type 0) → AllByRecursion (λ (x : X). AllByRecursion (P x) ys) xs → AllByRecursion (λ (y : Y). AllByRecursion (λ (x : X). P x y) xs) ys
every_turned xs [] P all = tt
every_turned xs (y ∷ ys) P all = (heads xs y ys P all, every_turned xs ys P (tails xs y ys P all))

pub every_at : {X : Type 0} (xs : List X) (P : X → Type 0) (i : ℕ) (x : X) → i < length xs → x ≡ get_or xs i x → AllByRecursion P xs → P x
every_at [] P i x lt is all = absurd (omega (arith, lt))
every_at (y ∷ xs) P zero x lt is all = subst P (sym is) all.0
every_at (y ∷ xs) P (suc i) x lt is all = every_at xs P i x (omega (arith, lt)) is all.1

next_by : {X : Type 0} (xs : List X) (P : X → Type 0) (i : ℕ) (x : X) → i < length xs → x ≡ get_or xs i x → P x → AllByRecursion P (take i xs) → AllByRecursion P (take (suc i) xs)
next_by [] P i x lt is here all = absurd (omega (arith, lt))
next_by (y ∷ xs) P zero x lt is here all = (subst P is here, tt)
next_by (y ∷ xs) P (suc i) x lt is here all = (all.0, next_by xs P i x (omega (arith, lt)) is here all.1)

-- one item more
pub every_next : {X : Type 0} (xs : List X) (P : X → Type 0) (i : ℕ) (x : X) → i < length xs → x ≡ get_or xs i x → P x → AllByRecursion P (take i xs) → AllByRecursion P (take (i + 1) xs)
every_next xs P i x lt is here all =
    let next : suc i ≡ i + 1 = omega arith in
    subst (λ (k : ℕ). AllByRecursion P (take k xs)) next (next_by xs P i x lt is here all)
