-- The zones that are read are zones.
use Rattle.std.proofs.Common.{◌≡◌, List, [], Some, option_and_then, Ok, subst, codes}
use Rattle.std.specs.List.{All, AllByRecursion}
use Rattle.std.proofs.lemmas.List.Elements.{All-from_recursion}
use Rattle.serde_json.specs.Data.{Data, Items, no_items, item}
use Rattle.serde_json.specs.Find.{get, as_array, as_str}
use Rattle.hazard_types.specs.Names.{zone_at}
use Rattle.hazard_types.specs.Places.{Place, IsPlace}
use Rattle.hazard_types.proofs.Inverting.{ok_or_ok, and_then_some, map_some, zone_ok}
use Rattle.json_parts.specs.Json.{zones_of, zones_at, zones_field}

each_zone : (items : Items) (zones : List Place) → zones_of items ≡ Some zones → AllByRecursion IsPlace zones
each_zone no_items zones h = let e : [] ≡ zones = cc in subst (λ zs. AllByRecursion IsPlace zs) e tt
each_zone (item d ds) zones h =
    let a = and_then_some (option_and_then zone_at (as_str d)) _ zones h in
    let z = and_then_some (as_str d) zone_at a.0 a.1 in
    let m = map_some (zones_of ds) _ zones a.2 in
    subst (λ zs. AllByRecursion IsPlace zs) m.2 (zone_ok z.0 a.0 z.2, each_zone ds m.0 m.1)

pub zones_form : (d : Data) (zones : List Place) → zones_field d ≡ Ok zones → All IsPlace zones
zones_form d zones h =
    let o = option_and_then as_array (get (codes "zones") d) in
    let a = and_then_some o zones_of zones (ok_or_ok (zones_at d) (codes "zones") zones h) in
    All-from_recursion IsPlace zones (each_zone a.0 zones a.2)
