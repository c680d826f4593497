-- The characters of codes and texts.
use Rattle.std.specs.Prelude.{◌==◌, ◌&&◌, ◌||◌, ℕ, Bool, List, length, nat_le, Option, Some, None, if◌then◌else◌}
use Rattle.std.specs.List.{list_all}
use Rattle.hazard_types.specs.Calendar.{is_digit}
use Rattle.hazard_types.specs.Places.{is_capital}

-- one of A to Z and 0 to 9
abbrev pub is_name_byte : ℕ → Bool
is_name_byte c = is_capital c || is_digit c

-- a space or a tab
abbrev pub is_blank : ℕ → Bool
is_blank c = (c == 32) || (c == 9)

-- from the space to the tilde
abbrev pub is_printable : ℕ → Bool
is_printable c = nat_le 32 c && nat_le c 126

-- an office's code: four of A to Z and 0 to 9
abbrev pub is_office : List ℕ → Bool
is_office office = (length office == 4) && list_all is_name_byte office

-- a location's code: five of A to Z and 0 to 9
abbrev pub is_location : List ℕ → Bool
is_location site = (length site == 5) && list_all is_name_byte site

-- the text, if it is a location's code
abbrev pub location_at : List ℕ → Option (List ℕ)
location_at text = if is_location text then Some text else None
