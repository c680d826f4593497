-- Which settings the bytes are, or their first fault.
use Rattle.std.specs.Prelude.{ℕ, ◌&&◌, ◌||◌, Bool, false, List, [], ◌∷◌, length, nat_le, nat_lt, if◌then◌else◌, Option, Some, None, option_map, option_and_then, Result, Ok, Err}
use Rattle.std.specs.Option.{ok_or}
use Rattle.std.specs.List.{list_any}
use Rattle.std.specs.Str.{is_utf8, bytes_eq}
use Rattle.std.specs.BTreeMap.{insert_entry}
use Rattle.toml.specs.Data.{Data, Items, no_items, item, Members, no_members, member, as_str, as_array, as_table}
use Rattle.toml.specs.Parse.{parse_document}
use Rattle.hazard_types.specs.Given.{◌>>=◌}
use Rattle.office_types.specs.Desks.{is_desk_name}
use Rattle.hazard_types.specs.Places.{Place, by_place}
use Rattle.hazard_types.specs.declared.codes.Category.{Category}
use Rattle.hazard_types.specs.declared.codes.Category.TheVariants.{Wsw, Npw, Rfw, Cfw, Mww, Ffa, Flw, Fls}
use Rattle.hazard_types.specs.declared.codes.LocalZone.{LocalZone}
use Rattle.desk_settings.specs.declared.fault.SettingsFault.{SettingsFault}
use Rattle.desk_settings.specs.declared.fault.SettingsFault.TheVariants.{NotToml, Missing, BadValue, Twice, TooLong}
use Rattle.desk_settings.specs.declared.keys.Key.{Key}
use Rattle.desk_settings.specs.declared.keys.Key.TheVariants as key
use Rattle.desk_settings.specs.declared.settings.Settings.{Settings}
use Rattle.hazard_types.specs.Names.{zone_at}
use Rattle.desk_settings.specs.Forms.{office_in, site_in, is_office_line, local_zone_in, parse_ttaaii, is_zone_name}
use Rattle.desk_settings.specs.Keys.{key_name, value_at, text_at, missing_key}

-- the value that was found, or the fault of its key
abbrev pub known : {X : Type 0} → Key → Option X → Result X SettingsFault
known key found = ok_or found (BadValue (key_name key))

abbrev pub line_in : List ℕ → Option (List ℕ)
line_in text = if is_office_line text then Some text else None

abbrev pub desk_in : List ℕ → Option (List ℕ)
desk_in text = if is_desk_name text then Some text else None

-- each item is a text that is a desk's name
abbrev pub names_of : Items → Option (List (List ℕ))
names_of no_items = Some []
names_of (item d ds) = option_and_then (λ name. option_map (λ names. name ∷ names) (names_of ds)) (option_and_then desk_in (as_str d))

-- 1 to 64 desks
abbrev pub few_desks : List (List ℕ) → Option (List (List ℕ))
few_desks desks = if nat_le 1 (length desks) && nat_le (length desks) 64 then Some desks else None

abbrev pub desks_in : Data → Option (List (List ℕ))
desks_in d = option_and_then few_desks (option_and_then names_of (as_array d))

abbrev pub zone_name_in : List ℕ → Option (List ℕ)
zone_name_in text = if is_zone_name text then Some text else None

-- each key is a zone's code, and its value the zone's name
abbrev pub zone_pairs : Members → Option (List (Place × List ℕ))
zone_pairs no_members = Some []
zone_pairs (member k d ms) =
    option_and_then (λ zone. option_and_then (λ name. option_map (λ pairs. (zone, name) ∷ pairs) (zone_pairs ms)) (option_and_then zone_name_in (as_str d))) (zone_at k)

-- in the order of zones
abbrev pub in_order : List (Place × List ℕ) → List (Place × List ℕ)
in_order [] = []
in_order (pair ∷ pairs) = insert_entry by_place (in_order pairs) pair.0 pair.1

-- 1 to 2,000 zones
abbrev pub few_zones : List (Place × List ℕ) → Option (List (Place × List ℕ))
few_zones zones = if nat_le 1 (length zones) && nat_le (length zones) 2000 then Some zones else None

abbrev pub zones_in : Data → Option (List (Place × List ℕ))
zones_in d = option_and_then few_zones (option_map in_order (option_and_then zone_pairs (as_table d)))

abbrev pub office_field : Members → Result (List ℕ) SettingsFault
office_field ms = known key.Office (option_and_then office_in (text_at key.Office ms))

abbrev pub site_field : Members → Result (List ℕ) SettingsFault
site_field ms = known key.Site (option_and_then site_in (text_at key.Site ms))

abbrev pub line_field : Members → Result (List ℕ) SettingsFault
line_field ms = known key.OfficeLine (option_and_then line_in (text_at key.OfficeLine ms))

abbrev pub zone_field : Members → Result LocalZone SettingsFault
zone_field ms = known key.Zone (option_and_then local_zone_in (text_at key.Zone ms))

abbrev pub desks_field : Members → Result (List (List ℕ)) SettingsFault
desks_field ms = known key.Desks (option_and_then desks_in (value_at key.Desks ms))

abbrev pub heading_field : Members → Category → Result (List ℕ) SettingsFault
heading_field ms category = known (key.Heading category) (option_and_then parse_ttaaii (text_at (key.Heading category) ms))

abbrev pub zones_field : Members → Result (List (Place × List ℕ)) SettingsFault
zones_field ms = known key.Zones (option_and_then zones_in (value_at key.Zones ms))

-- the headings in the order of the categories
unfoldable pub headings_field : Members → Result (List (List ℕ)) SettingsFault
headings_field ms =
    heading_field ms Wsw >>= λ wsw. heading_field ms Npw >>= λ npw. heading_field ms Rfw >>= λ rfw. heading_field ms Cfw >>= λ cfw.
    heading_field ms Mww >>= λ mww. heading_field ms Ffa >>= λ ffa. heading_field ms Flw >>= λ flw. heading_field ms Fls >>= λ fls.
    Ok (wsw ∷ npw ∷ rfw ∷ cfw ∷ mww ∷ ffa ∷ flw ∷ fls ∷ [])

-- a desk stands again behind itself
abbrev pub has_twice : List (List ℕ) → Bool
has_twice [] = false
has_twice (desk ∷ desks) = list_any (bytes_eq desk) desks || has_twice desks

abbrev pub unless_twice : Settings → Result Settings SettingsFault
unless_twice s = if has_twice s.desks then Err (Twice (key_name key.Desks)) else Ok s

-- the fields in their order; the first whose value has not its form is told, and a desk that stands twice last
unfoldable pub fields_in : Members → Result Settings SettingsFault
fields_in ms =
    office_field ms >>= λ office. site_field ms >>= λ site. line_field ms >>= λ line. zone_field ms >>= λ zone. desks_field ms >>= λ desks.
    headings_field ms >>= λ headings. zones_field ms >>= λ zones.
    unless_twice (record { office = office; site = site; office_line = line; zone = zone; desks = desks; headings = headings; zones = zones; any_zone = false })

-- the settings, where each key is there
abbrev pub if_whole : Option Key → Result Settings SettingsFault → Result Settings SettingsFault
if_whole None settings = settings
if_whole (Some key) settings = Err (Missing (key_name key))

unfoldable pub settings_in : Members → Result Settings SettingsFault
settings_in ms = if_whole (missing_key ms) (fields_in ms)

-- the table that the bytes are
abbrev pub table_of : List ℕ → Option Members
table_of bytes = if is_utf8 bytes then parse_document bytes else None

-- the settings that the bytes are, or their first fault
unfoldable pub settings_of : List ℕ → Result Settings SettingsFault
settings_of bytes = if nat_lt 1048576 (length bytes) then Err TooLong else (ok_or (table_of bytes) NotToml >>= settings_in)
