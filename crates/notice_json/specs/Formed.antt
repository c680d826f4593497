-- The form of what is read: the ranges of a command's values.
use Rattle.std.specs.Prelude.{◌<◌, ◌≤◌, ℕ}
use Rattle.std.specs.List.{All}
use Rattle.hazard_types.specs.Places.{IsPlace}
use Rattle.notice_json.specs.declared.command.Command.{Command}
use Rattle.notice_json.specs.declared.command.Deed.{Deed}
use Rattle.notice_json.specs.declared.command.Deed.TheVariants as deed

-- a minute of 2000 to 2099
abbrev pub IsMinute : ℕ → Type 0
IsMinute m = m < 52596000

abbrev pub HasEnd : Deed → Type 0
HasEnd (deed.Open m) = IsMinute m
HasEnd (deed.Join m) = IsMinute m
HasEnd deed.End = Unit {0}

-- a number of 1 to 9,999, with minutes and zones that are some
pub record HasForm (c : Command) : Type 0 where
  pub at : IsMinute c.at
  pub deed : HasEnd c.deed
  pub first_number : 1 ≤ c.number
  pub last_number : c.number ≤ 9999
  pub zones : All IsPlace c.zones
