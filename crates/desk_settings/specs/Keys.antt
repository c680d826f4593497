-- The keys that settings need, and what a table has at them.
use Rattle.std.specs.Prelude.{ℕ, Bool, List, [], ◌∷◌, ◌++◌, Option, option_and_then, is_none, codes}
use Rattle.std.specs.List.{find}
use Rattle.toml.specs.Data.{Data, Members, get_member, as_str, as_table}
use Rattle.hazard_types.specs.Names.{category_code}
use Rattle.hazard_types.specs.declared.codes.Category.TheVariants.{Wsw, Npw, Rfw, Cfw, Mww, Ffa, Flw, Fls}
use Rattle.desk_settings.specs.declared.keys.Key.{Key}
use Rattle.desk_settings.specs.declared.keys.Key.TheVariants.{Office, Site, OfficeLine, Zone, Desks, Heading, Zones}

-- how faults name a key
abbrev pub key_name : Key → List ℕ
key_name Office = codes "office"
key_name Site = codes "site"
key_name OfficeLine = codes "office_line"
key_name Zone = codes "zone"
key_name Desks = codes "desks"
key_name (Heading category) = codes "headings." ++ category_code category
key_name Zones = codes "zones"

-- the keys in the order of the form
unfoldable pub keys : List Key
keys =
    Office ∷ Site ∷ OfficeLine ∷ Zone ∷ Desks ∷
    Heading Wsw ∷ Heading Npw ∷ Heading Rfw ∷ Heading Cfw ∷ Heading Mww ∷ Heading Ffa ∷ Heading Flw ∷ Heading Fls ∷
    Zones ∷ []

-- what the table `headings` has at a key; nothing, where there is no such table
abbrev pub heading_at : List ℕ → Members → Option Data
heading_at name ms = option_and_then (get_member name) (option_and_then as_table (get_member (codes "headings") ms))

abbrev pub value_at : Key → Members → Option Data
value_at Office ms = get_member (codes "office") ms
value_at Site ms = get_member (codes "site") ms
value_at OfficeLine ms = get_member (codes "office_line") ms
value_at Zone ms = get_member (codes "zone") ms
value_at Desks ms = get_member (codes "desks") ms
value_at (Heading category) ms = heading_at (category_code category) ms
value_at Zones ms = get_member (codes "zones") ms

abbrev pub text_at : Key → Members → Option (List ℕ)
text_at key ms = option_and_then as_str (value_at key ms)

abbrev pub is_missing : Members → Key → Bool
is_missing ms key = is_none (value_at key ms)

-- the first key that is not there
abbrev pub missing_key : Members → Option Key
missing_key ms = find (is_missing ms) keys
