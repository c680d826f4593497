-- Decimal numbers, as words and fields of a head write them.
use Rattle.std.specs.Prelude.{ℕ, ◌==◌, ◌+◌, ◌-◌, ◌*◌, ◌&&◌, List, Bool, fold, length, nat_le, if◌then◌else◌, Option, None, Some}
use Rattle.std.specs.List.{list_all}
use Rattle.hazard_types.specs.Calendar.{is_digit}

-- one digit more of a number
abbrev pub with_digit : ℕ → ℕ → ℕ
with_digit n c = 10 * n + (c - 48)

-- one or more decimal digits
abbrev pub are_digits : List ℕ → Bool
are_digits word = nat_le 1 (length word) && list_all is_digit word

-- the number that decimal digits spell, zeros in front or not
abbrev pub spelled : List ℕ → ℕ
spelled word = fold with_digit 0 word

-- a number of at most this
abbrev pub number_in : ℕ → List ℕ → Option ℕ
number_in most word = if are_digits word && nat_le (spelled word) most then Some (spelled word) else None

-- a number that is not zero
abbrev pub some_count : Option ℕ → Option ℕ
some_count None = None
some_count (Some n) = if n == 0 then None else Some n

-- a number from 1 to this
abbrev pub count_in : ℕ → List ℕ → Option ℕ
count_in most word = some_count (number_in most word)
