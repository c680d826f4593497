-- The JSON value that bytes are, and the values of some of its members.
use Rattle.std.specs.Prelude.{ℕ, List, [], ◌∷◌, if◌then◌else◌, Option, Some, None, option_map, option_and_then, codes, Result}
use Rattle.std.specs.Option.{ok_or}
use Rattle.std.specs.Str.{is_utf8}
use Rattle.serde_json.specs.Data.{Data, Items, no_items, item}
use Rattle.serde_json.specs.Read.{read}
use Rattle.serde_json.specs.Find.{get, as_array, as_str}
use Rattle.hazard_types.specs.Names.{zone_at}
use Rattle.hazard_types.specs.Places.{Place}

-- by the reading of `serde_json`: they are UTF-8, and the text is one value
abbrev pub json_of : List ℕ → Option Data
json_of bytes = if is_utf8 bytes then read bytes else None

-- a field's value, or its name if it is missing or wrong
abbrev pub given : {X : Type 0} → Option X → List ℕ → Result X (List ℕ)
given o name = ok_or o name

-- the member with a key, if it is a string
abbrev pub text_at : List ℕ → Data → Option (List ℕ)
text_at key d = option_and_then as_str (get key d)

-- the zones of an array, if each item is a zone
abbrev pub zones_of : Items → Option (List Place)
zones_of no_items = Some []
zones_of (item d ds) =
    option_and_then (λ z. option_map (λ zs. z ∷ zs) (zones_of ds))
    (option_and_then zone_at (as_str d))

-- those of the member `zones`
abbrev pub zones_at : Data → Option (List Place)
zones_at d = option_and_then zones_of (option_and_then as_array (get (codes "zones") d))

abbrev pub zones_field : Data → Result (List Place) (List ℕ)
zones_field d = given (zones_at d) (codes "zones")
