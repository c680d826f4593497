use Rattle.std.proofs.Common.{◌≡◌, drop, is_some}
use Rattle.std.specs.List.{list_all}
use Rattle.desk_settings.specs.Looking.{name_for_zone}
use Rattle.worked_codes.proofs.texts.plans.have_names.Given as goal

-- what is left decides as the whole does
abbrev pub invariant-loop-zone : goal.invariant-loop-zone
invariant-loop-zone l =
    list_all (λ z. is_some (name_for_zone l.settings.zones z)) l.zones ≡ list_all (λ z. is_some (name_for_zone l.settings.zones z)) (drop l.zone-index l.zones)
