use Rattle.std.proofs.Common.{◌∙◌, ℕ, List, ◌++◌, ap, append_assoc}
use Rattle.std.specs.List.{flat_map}
use Rattle.std.specs.Map.{keys_of}
use Rattle.hazard_types.specs.Places.{Place}
use Rattle.stats_report.specs.Report.{total_text, faults_text}
use Rattle.stats_report.specs.Spells.{kept_of}
use Rattle.stats_report.specs.Told.{hazard_told, zone_told}
use Rattle.stats_report.specs.declared.sums.Sums.{Sums}
use Rattle.stats_report.proofs.Folding.{text_told}
use Rattle.stats_report.proofs.lines.text_of.Goals as goal

pub returns : goal.returns
returns c = λ stamp products kept.
    let tally = c.args.tally.now in
    let k = kept_of tally.standing in
    let events = c.in_ok-events.events.entries in
    let first : List ℕ = flat_map (hazard_told events k) (keys_of k.hazards) in
    let second : List ℕ = flat_map (zone_told k) (keys_of k.zones) in
    let end : List ℕ = total_text k.all.openings k.all.minutes ++ faults_text tally.faults in
    let zones = ap (λ (zs : List (Place × Sums)). flat_map (zone_told k) (keys_of zs)) (c.as_slice.ensures ∙ c.in_ok-zones.ensures.value) in
    c.in_ok-write_end.ensures
    ∙ ap (λ (t : List ℕ). t ++ end) (c.in_ok-write_zones.ensures ∙ (λ i. c.in_ok-write_hazards.ensures i ++ zones i) ∙ ap (λ (t : List ℕ). (t ++ first) ++ second) c.new-out.ensures)
    ∙ append_assoc first second end
    ∙ text_told stamp products k kept.es kept.counted kept.summed kept.keyed events c.in_ok-events.ensures tally.faults
