-- Decimal numbers, as a path and a Content-Length write them.
use Rattle.std.specs.Prelude.{ℕ, ◌+◌, ◌-◌, ◌*◌, ◌&&◌, Bool, List, [], ◌∷◌, length, nat_lt, nat_le, if◌then◌else◌}
use Rattle.std.specs.List.{list_all}
use Rattle.hazard_types.specs.Calendar.{is_digit}
use Rattle.warn_http.specs.declared.numbers.Number.{Number}
use Rattle.warn_http.specs.declared.numbers.Number.TheVariants.{NoNumber, TooLarge, Is}

-- the number that digits write, behind a number read so far
abbrev pub number_from : ℕ → List ℕ → ℕ
number_from n [] = n
number_from n (digit ∷ digits) = number_from (10 * n + (digit - 48)) digits

-- one decimal digit or more, and nothing else
abbrev pub are_digits : List ℕ → Bool
are_digits bytes = nat_lt 0 (length bytes) && list_all is_digit bytes

abbrev pub at_most : ℕ → ℕ → Number
at_most limit n = if nat_le n limit then Is n else TooLarge

-- the number that the bytes write in decimal digits, of any count, where it is at most the limit
unfoldable pub number_of : ℕ → List ℕ → Number
number_of limit bytes = if are_digits bytes then at_most limit (number_from 0 bytes) else NoNumber
