-- Members of JSON objects as they are written. `put` keeps them in byte order of their keys.
use Rattle.std.specs.Prelude.{ℕ, List, codes}
use Rattle.std.specs.Str.Lossy.{utf8_lossy}
use Rattle.serde_json.specs.Data.{Data, number, unsigned, string, Members, no_members, put}
use Rattle.hazard_types.specs.Names.{zone_text}
use Rattle.hazard_types.specs.Places.{Place}

-- bytes as a string; those that are not UTF-8 become replacement characters
unfoldable pub as_text : List ℕ → Data
as_text bytes = string (utf8_lossy bytes)

-- the members with one more, a string
abbrev pub set_text : List ℕ → List ℕ → Members → Members
set_text key bytes ms = put key (as_text bytes) ms

abbrev pub set_number : List ℕ → ℕ → Members → Members
set_number key n ms = put key (number (unsigned n)) ms

abbrev pub set_zone : Place → Members → Members
set_zone z ms = set_text (codes "zone") (zone_text z) ms

-- the members of a refusal's code and name
abbrev pub refusal_members : List ℕ × List ℕ → Members
refusal_members l = set_text (codes "rule") l.1 (set_text (codes "no") l.0 no_members)
