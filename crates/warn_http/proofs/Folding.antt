-- What is left of the fields decides as all of them do.
use Rattle.std.proofs.Common.{◌≡◌, ℕ, suc, ◌+◌, ◌<◌, Bool, true, false, ◌||◌, List, [], ◌∷◌, length, map, filter, drop, get_or, codes, refl, ◌∙◌, arith, if◌then◌else◌}
use Rattle.std.specs.List.{list_any}
use Rattle.std.proofs.Math.Seq.{drop-cons}
use Rattle.warn_http.specs.Numbers.{number_of}
use Rattle.http_heads.specs.Fields.{Pair, is_named}
use Rattle.warn_http.specs.Heads.{values_of, most_body, length_by, length_in, stated}
use Rattle.warn_http.specs.declared.numbers.Number.{Number}
use Rattle.warn_http.specs.declared.numbers.Number.TheVariants.{NoNumber, TooLarge, Is}
use Rattle.warn_http.specs.declared.fields.Stated.{Stated}
use Rattle.warn_http.specs.declared.fields.Stated.TheVariants.{Absent, Bytes, TooLong, Wrong}

pub any_step : {X : Type 0} (p : Pair → Bool) (f : X → Pair) (xs : List X) (i : ℕ) (d : X) → i < length xs
    → list_any p (map f (drop i xs)) ≡ (p (f (get_or xs i d)) || list_any p (map f (drop (i + 1) xs)))
any_step p f xs i d low =
    let e = drop-cons xs i d low in
    let g : i + 1 ≡ suc i = omega arith in
    rw (e, g) refl

abbrev pub length_name : List ℕ
length_name = codes "content-length"

-- what is stated, behind what was found so far
abbrev pub next : Stated → List ℕ → Stated
next Absent value = length_by (number_of most_body value)
next (Bytes n) value = Wrong
next TooLong value = Wrong
next Wrong value = Wrong

abbrev pub stated_from : Stated → List Pair → Stated
stated_from found [] = found
stated_from found (pair ∷ pairs) = stated_from (if is_named length_name pair then next found pair.1 else found) pairs

-- what was found, unless one more is there
behind : Stated → List (List ℕ) → Stated
behind found [] = found
behind found (value ∷ values) = Wrong

-- a Content-Length was found
is_there : Stated → Bool
is_there Absent = false
is_there (Bytes n) = true
is_there TooLong = true
is_there Wrong = true

behind_wrong : (values : List (List ℕ)) → behind Wrong values ≡ Wrong
unfolding behind
behind_wrong [] = refl
behind_wrong (value ∷ values) = refl

then_wrong : (found : Stated) (value : List ℕ) → is_there found ≡ true → next found value ≡ Wrong
unfolding is_there
then_wrong Absent value there = cc
then_wrong (Bytes n) value there = refl
then_wrong TooLong value there = refl
then_wrong Wrong value there = refl

wrong_there : is_there Wrong ≡ true
unfolding is_there
wrong_there = refl

by_there : (number : Number) → is_there (length_by number) ≡ true
unfolding is_there
by_there NoNumber = refl
by_there TooLarge = refl
by_there (Is n) = refl

stated_there : (found : Stated) (pairs : List Pair) → is_there found ≡ true
    → stated_from found pairs ≡ behind found (values_of length_name pairs)
unfolding behind
stated_there found [] there = refl
stated_there found (pair ∷ pairs) there =
    at (is_named length_name pair) (stated_there found pairs there) (stated_there Wrong pairs wrong_there)
  where
    at : (b : Bool) → stated_from found pairs ≡ behind found (values_of length_name pairs)
        → stated_from Wrong pairs ≡ behind Wrong (values_of length_name pairs)
        → stated_from (if b then next found pair.1 else found) pairs
        ≡ behind found (map (λ (p : Pair). p.1) (if b then pair ∷ filter (is_named length_name) pairs else filter (is_named length_name) pairs))
    at true same wrong =
        let w = then_wrong found pair.1 there in
        rw w (wrong ∙ behind_wrong (values_of length_name pairs))
    at false same wrong = same

one_value : (value : List ℕ) (values : List (List ℕ))
    → behind (length_by (number_of most_body value)) values ≡ length_in (value ∷ values)
unfolding behind
one_value value [] = refl
one_value value (other ∷ values) = refl

stated_all : (pairs : List Pair) → stated_from Absent pairs ≡ length_in (values_of length_name pairs)
stated_all [] = refl
stated_all (pair ∷ pairs) = at (is_named length_name pair) (stated_all pairs)
  where
    at : (b : Bool) → stated_from Absent pairs ≡ length_in (values_of length_name pairs)
        → stated_from (if b then next Absent pair.1 else Absent) pairs
        ≡ length_in (map (λ (p : Pair). p.1) (if b then pair ∷ filter (is_named length_name) pairs else filter (is_named length_name) pairs))
    at true same =
        let number = number_of most_body pair.1 in
        stated_there (length_by number) pairs (by_there number) ∙ one_value pair.1 (values_of length_name pairs)
    at false same = same

-- the fields are gone through once
pub stated_is : (pairs : List Pair) → stated_from Absent pairs ≡ stated pairs
unfolding stated
stated_is pairs = stated_all pairs
