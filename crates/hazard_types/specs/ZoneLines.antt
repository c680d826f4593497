-- What a text says of a zone: a P-VTEC line, without a year, and the H-VTEC line after it, if any.
use Rattle.std.specs.Prelude.{Option}
use Rattle.hazard_types.specs.Places.{Place}
use Rattle.hazard_types.specs.declared.line.Vtec.{Vtec}
use Rattle.hazard_types.specs.declared.line.Flood.{Flood}

pub record ZoneLine : Type 0 where
  pub zone : Place
  pub vtec : Vtec
  pub flood : Option Flood
