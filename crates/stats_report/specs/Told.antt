-- The lines, read off what is kept.
use Rattle.std.specs.Prelude.{ℕ, List, ◌++◌, flat_map}
use Rattle.std.specs.Map.{keys_of}
use Rattle.hazard_types.specs.Orders.{by_hazard}
use Rattle.hazard_types.specs.Places.{Place, by_place}
use Rattle.hazard_types.specs.declared.hazard.Hazard.{Hazard}
use Rattle.stats_report.specs.Adding.{sum_at}
use Rattle.stats_report.specs.Report.{hazard_text, zone_line_text, total_text, faults_text}
use Rattle.stats_report.specs.Spells.{Kept, sums_at}

-- by how many events each hazard has
abbrev pub hazard_told : List (Hazard × ℕ) → Kept → Hazard → List ℕ
hazard_told events k h = hazard_text h (sum_at by_hazard events h) (sums_at by_hazard k.hazards h).openings (sums_at by_hazard k.hazards h).lead (sums_at by_hazard k.hazards h).minutes

abbrev pub zone_told : Kept → Place → List ℕ
zone_told k z = zone_line_text z (sums_at by_place k.zones z).openings (sums_at by_place k.zones z).minutes

abbrev pub all_told : List (Hazard × ℕ) → Kept → ℕ → List ℕ
all_told events k faults = flat_map (hazard_told events k) (keys_of k.hazards) ++ (flat_map (zone_told k) (keys_of k.zones) ++ (total_text k.all.openings k.all.minutes ++ faults_text faults))
