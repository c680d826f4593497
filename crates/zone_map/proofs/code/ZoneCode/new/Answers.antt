use Rattle.std.proofs.Common.{◌≡◌, ◌∙◌, sym, subst, ap}
use Rattle.hazard_types.specs.Places.{IsPlace}
use Rattle.zone_map.specs.Codes.{find_index}
use Rattle.zone_map.proofs.Coded.{place_back}
use Rattle.zone_map.proofs.code.ZoneCode.new.Goals as goal

pub invariant_of-result : goal.invariant_of-result
invariant_of-result c =
    let back : find_index c.code_of.result ≡ c.args.zone.now = ap find_index c.code_of.ensures.value ∙ place_back c.args.zone.now c.code_of.ensures.place in
    subst IsPlace (sym back) c.code_of.ensures.place

pub returns : goal.returns
returns c = ap find_index c.code_of.ensures.value ∙ place_back c.args.zone.now c.code_of.ensures.place
