-- What the actions of lines do.
use Rattle.std.specs.Prelude.{Bool, true, false}
use Rattle.hazard_types.specs.declared.codes.Action.{Action}
use Rattle.hazard_types.specs.declared.codes.Action.TheVariants.{Upg, Can, Exp, Rou}

-- UPG, CAN and EXP end a row, and ROU speaks of none; every other line leaves its row live
abbrev pub leaves_live : Action → Bool
leaves_live Upg = false
leaves_live Can = false
leaves_live Exp = false
leaves_live Rou = false
leaves_live _ = true
