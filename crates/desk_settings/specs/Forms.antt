-- Which bytes have the form of a value of settings.
use Rattle.std.specs.Prelude.{ℕ, ◌==◌, ◌&&◌, not, Bool, false, List, [], ◌∷◌, length, take, drop, nat_le, if◌then◌else◌, Option, Some, None, codes}
use Rattle.std.specs.List.{list_all}
use Rattle.std.specs.Char.{is_ascii_alphabetic}
use Rattle.std.specs.Str.{bytes_eq}
use Rattle.hazard_types.specs.Calendar.{is_digit}
use Rattle.hazard_types.specs.Characters.{is_name_byte, is_printable, is_office}
use Rattle.hazard_types.specs.Places.{is_capital}
use Rattle.hazard_types.specs.declared.codes.LocalZone.{LocalZone}
use Rattle.hazard_types.specs.declared.codes.LocalZone.TheVariants.{Atlantic, Eastern, Central, Mountain, Arizona, Pacific, Alaska, Hawaii, Utc}

abbrev pub office_in : List ℕ → Option (List ℕ)
office_in text = if is_office text then Some text else None

abbrev pub is_site : List ℕ → Bool
is_site text = (length text == 3) && list_all is_name_byte text

abbrev pub site_in : List ℕ → Option (List ℕ)
site_in text = if is_site text then Some text else None

-- four capital letters and two digits
abbrev pub is_heading : List ℕ → Bool
is_heading text = (length text == 6) && list_all is_capital (take 4 text) && list_all is_digit (drop 4 text)

abbrev pub parse_ttaaii : List ℕ → Option (List ℕ)
parse_ttaaii text = if is_heading text then Some text else None

-- the zone of local times of this name
abbrev pub local_zone_in : List ℕ → Option LocalZone
local_zone_in text =
    if bytes_eq text (codes "Atlantic") then Some Atlantic else if bytes_eq text (codes "Eastern") then Some Eastern else if bytes_eq text (codes "Central") then Some Central
    else if bytes_eq text (codes "Mountain") then Some Mountain else if bytes_eq text (codes "Arizona") then Some Arizona else if bytes_eq text (codes "Pacific") then Some Pacific
    else if bytes_eq text (codes "Alaska") then Some Alaska else if bytes_eq text (codes "Hawaii") then Some Hawaii else if bytes_eq text (codes "UTC") then Some Utc else None

-- a letter of either case
abbrev pub begins_with_letter : List ℕ → Bool
begins_with_letter [] = false
begins_with_letter (c ∷ cs) = is_ascii_alphabetic c

-- printable, and no digit
abbrev pub is_line_byte : ℕ → Bool
is_line_byte c = is_printable c && not (is_digit c)

-- 1 to 66 printable characters without a digit, of which the first is a letter
abbrev pub is_office_line : List ℕ → Bool
is_office_line text = nat_le (length text) 66 && begins_with_letter text && list_all is_line_byte text

-- printable, and no digit, $, & or -
abbrev pub is_zone_name_byte : ℕ → Bool
is_zone_name_byte c = is_line_byte c && not (c == 36) && not (c == 38) && not (c == 45)

-- 1 to 40 such characters, of which the first is a letter
abbrev pub is_zone_name : List ℕ → Bool
is_zone_name text = nat_le (length text) 40 && begins_with_letter text && list_all is_zone_name_byte text
