-- The statistics of products: a line for each hazard and each zone that has a row, and the totals.
use Rattle.std.specs.Prelude.{ℕ, true, List, [], ◌++◌, fold, length, flat_map, codes, decimal}
use Rattle.std.specs.BTreeSet.{insert_key}
use Rattle.hazard_types.specs.Hazards.{hazard_code}
use Rattle.hazard_types.specs.Names.{zone_text}
use Rattle.hazard_types.specs.Orders.{by_hazard, by_event}
use Rattle.hazard_types.specs.Places.{Place, by_place}
use Rattle.hazard_types.specs.Same.{same_zone, same_hazard}
use Rattle.hazard_types.specs.declared.hazard.Event.{Event}
use Rattle.hazard_types.specs.declared.hazard.Hazard.{Hazard}
use Rattle.hazard_types.specs.declared.line.Row.{Row}
use Rattle.event_life.specs.Products.{Product, rows_of}
use Rattle.product_decoder.specs.Openings.{openings_of}
use Rattle.product_decoder.specs.declared.types.Opening.{Opening}
use Rattle.stats_report.specs.Minutes.{minutes_of}
use Rattle.stats_report.specs.Adding.{sum_where, count_where, lead_of}

-- the events, hazards and zones of rows, in their order, each once
abbrev pub events_in : List Row → List Event
events_in rows = fold (λ (es : List Event) (r : Row). insert_key by_event es r.event) [] rows

abbrev pub hazards_in : List Row → List Hazard
hazards_in rows = fold (λ (hs : List Hazard) (r : Row). insert_key by_hazard hs r.event.hazard) [] rows

abbrev pub zones_in : List Row → List Place
zones_in rows = fold (λ (zs : List Place) (r : Row). insert_key by_place zs r.zone) [] rows

-- the minutes of a row before the stamp
abbrev pub minutes_in : ℕ → List Product → Row → ℕ
minutes_in stamp products r = minutes_of stamp products r.event r.zone

-- What stands in a line.

abbrev pub events_of : Hazard → List Product → ℕ
events_of h products = count_where (λ (e : Event). same_hazard e.hazard h) (events_in (rows_of products))

abbrev pub hazard_openings : Hazard → List Product → ℕ
hazard_openings h products = count_where (λ (o : Opening). same_hazard o.event.hazard h) (openings_of products)

abbrev pub hazard_lead : Hazard → List Product → ℕ
hazard_lead h products = sum_where (λ (o : Opening). same_hazard o.event.hazard h) lead_of (openings_of products)

abbrev pub hazard_minutes : ℕ → Hazard → List Product → ℕ
hazard_minutes stamp h products = sum_where (λ (r : Row). same_hazard r.event.hazard h) (minutes_in stamp products) (rows_of products)

abbrev pub zone_openings : Place → List Product → ℕ
zone_openings z products = count_where (λ (o : Opening). same_zone o.zone z) (openings_of products)

abbrev pub zone_minutes : ℕ → Place → List Product → ℕ
zone_minutes stamp z products = sum_where (λ (r : Row). same_zone r.zone z) (minutes_in stamp products) (rows_of products)

abbrev pub total_minutes : ℕ → List Product → ℕ
total_minutes stamp products = sum_where (λ (r : Row). true) (minutes_in stamp products) (rows_of products)

-- The lines.

-- a word and a number
abbrev pub named : List ℕ → ℕ → List ℕ
named word n = word ++ decimal n

abbrev pub hazard_text : Hazard → ℕ → ℕ → ℕ → ℕ → List ℕ
hazard_text h events openings lead minutes =
    codes "hazard " ++ (hazard_code h ++ (named (codes " events ") events ++ (named (codes " openings ") openings ++ (named (codes " lead ") lead ++ (named (codes " minutes ") minutes ++ codes "\n")))))

abbrev pub zone_line_text : Place → ℕ → ℕ → List ℕ
zone_line_text z openings minutes = codes "zone " ++ (zone_text z ++ (named (codes " openings ") openings ++ (named (codes " minutes ") minutes ++ codes "\n")))

abbrev pub total_text : ℕ → ℕ → List ℕ
total_text openings minutes = named (codes "total openings ") openings ++ (named (codes " minutes ") minutes ++ codes "\n")

abbrev pub faults_text : ℕ → List ℕ
faults_text n = named (codes "faults ") n ++ codes "\n"

abbrev pub hazard_line : ℕ → List Product → Hazard → List ℕ
hazard_line stamp products h = hazard_text h (events_of h products) (hazard_openings h products) (hazard_lead h products) (hazard_minutes stamp h products)

abbrev pub zone_line : ℕ → List Product → Place → List ℕ
zone_line stamp products z = zone_line_text z (zone_openings z products) (zone_minutes stamp z products)

-- the lines of the hazards, of the zones, the totals, and how many products have a fault
unfoldable pub stats_text : ℕ → List Product → ℕ → List ℕ
stats_text stamp products faults =
    flat_map (hazard_line stamp products) (hazards_in (rows_of products))
    ++ (flat_map (zone_line stamp products) (zones_in (rows_of products))
    ++ (total_text (length (openings_of products)) (total_minutes stamp products)
    ++ faults_text faults))
