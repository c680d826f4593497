-- The groups of a UGC text, as a reader takes them.
use Rattle.std.specs.Prelude.{ℕ, ◌+◌, ◌*◌, ◌-◌, ◌==◌, ◌&&◌, Bool, nat_le, nat_lt, List, [], ◌∷◌, length, slice_index, take, Option, Some, None, Result, Ok, Err, if◌then◌else◌, option_and_then, is_some}
use Rattle.std.specs.Prelude.{◌≤◌}
use Rattle.hazard_types.specs.Calendar.{is_digit}
use Rattle.hazard_types.specs.Digits.{parse_day_stamp}
use Rattle.hazard_types.specs.Names.{kind_at}
use Rattle.hazard_types.specs.Places.{Place, are_letters, is_number}
use Rattle.hazard_types.specs.declared.zone.Kind.{Kind}
use Rattle.ugc_codes.specs.Grammar.{numbered}
use Rattle.ugc_codes.specs.declared.read.Group.{Group}
use Rattle.ugc_codes.specs.declared.read.Group.TheVariants.{Zones, Expiry}
use Rattle.ugc_codes.specs.declared.read.Refused.{Refused}
use Rattle.ugc_codes.specs.declared.read.Refused.TheVariants.{NoCode, NoRange}

-- the number that three digits spell
unfoldable pub parse_three_digits : ℕ → ℕ → ℕ → Option ℕ
parse_three_digits x y z = if is_digit x && is_digit y && is_digit z then Some (100 * (x - 48) + 10 * (y - 48) + (z - 48)) else None

-- the number that three digits spell at a place
abbrev pub three_at : List ℕ → ℕ → Option ℕ
three_at text i = parse_three_digits (slice_index text i) (slice_index text (i + 1)) (slice_index text (i + 2))

-- the zone of these parts, if the state is two capital letters and the number 1 to 999
abbrev pub zone_of : List ℕ → Kind → ℕ → Option Place
zone_of state kind number = if are_letters state && is_number number then Some (record { state = state; kind = kind; number = number }) else None

-- two letters, C or Z and three digits
unfoldable pub full_code : List ℕ → Option Place
full_code text = option_and_then (λ kind. option_and_then (zone_of (slice_index text 0 ∷ slice_index text 1 ∷ []) kind) (three_at text 3)) (kind_at (slice_index text 2))

-- the same with another number, if it is 1 to 999
abbrev pub numbered_if : Place → ℕ → Option Place
numbered_if p n = if is_number n then Some (numbered p n) else None

-- three digits behind a code
unfoldable pub short_code : Option Place → List ℕ → Option Place
short_code before text = option_and_then (λ p. option_and_then (numbered_if p) (three_at text 0)) before

-- a code, or three digits behind one
abbrev pub code_of : Option Place → List ℕ → Option Place
code_of before text = if length text == 6 then full_code text else (if length text == 3 then short_code before text else None)

-- a run to a number that is greater
abbrev pub rising_run : Place → ℕ → Result Group Refused
rising_run first last = if nat_lt first.number last then Ok (Zones first last) else Err NoRange

-- what follows a value; without it there is no code
abbrev pub or_refused : {A B : Type 0} → Option A → (A → Result B Refused) → Result B Refused
or_refused None f = Err NoCode
or_refused (Some x) f = f x

-- a code, > and three digits
unfoldable pub parse_run : Option Place → List ℕ → Result Group Refused
parse_run before text = or_refused (code_of before (take (length text - 4) text)) (λ first. or_refused (three_at text (length text - 3)) (rising_run first))

-- a code by itself
unfoldable pub parse_single : Option Place → List ℕ → Result Group Refused
parse_single before text = or_refused (code_of before text) (λ p. Ok (Zones p p.number))

-- an expiry, behind a code
unfoldable pub parse_expiry : Option Place → List ℕ → Result Group Refused
parse_expiry before text = or_refused before (λ _. or_refused (parse_day_stamp text) (λ d. Ok (Expiry d)))

-- > before the last three bytes
abbrev pub is_run : List ℕ → Bool
is_run text = nat_le 4 (length text) && (slice_index text (length text - 4) == 62)

-- what the bytes before a hyphen say, behind a code or at the text's begin
unfoldable pub parse_group : Option Place → List ℕ → Result Group Refused
parse_group before text = if is_run text then parse_run before text else (if is_some (code_of before text) then parse_single before text else parse_expiry before text)

-- a last number has three digits
abbrev pub EndsInRange : Group → Type 0
EndsInRange (Zones p n) = n ≤ 999
EndsInRange (Expiry d) = Unit {0}
