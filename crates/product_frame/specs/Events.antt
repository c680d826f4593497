-- The pair of a P-VTEC line and the line behind it.
use Rattle.std.specs.Prelude.{ℕ, List, Option, option_map}
use Rattle.hazard_types.specs.declared.line.Vtec.{Vtec}
use Rattle.hazard_types.specs.declared.line.Flood.{Flood}
use Rattle.vtec_string.specs.Columns.{vtec_of}
use Rattle.hvtec_string.specs.Columns.{hvtec_of}
use Rattle.product_frame.specs.declared.frame.Pair.{Pair}

-- with these flood values
abbrev pub with_flood : Option Flood → Vtec → Pair
with_flood flood v = record { vtec = v; flood = flood }

-- the values of the line, and those of the next one where it is an H-VTEC line
unfoldable pub parse_pair : List ℕ → List ℕ → Option Pair
parse_pair line next = option_map (with_flood (hvtec_of next)) (vtec_of line)
