-- Lines that were judged one by one, as runs of one line each; the last run is pending.
use Rattle.std.specs.Prelude.{◌≡◌, ◌&&◌, ◌++◌, ◌∷◌, Bool, true, false, List, [], Option, Some, None}
use Rattle.std.specs.Option.{option_eq}
use Rattle.hazard_types.specs.declared.line.Row.{Row}
use Rattle.event_life.specs.contracts.life.BreachPartialEq.TheImpl as breach
use Rattle.event_life.specs.Products.{life_at}
use Rattle.row_index.specs.Runs.{is_alike, same_life}
use Rattle.row_index.specs.Verdicts.{expand, AreApart, AreFound}
use Rattle.row_index.specs.declared.collecting.Alone.{Alone}
use Rattle.row_index.specs.declared.verdicts.Run.{Run}
use Rattle.row_index.specs.declared.verdicts.Verdict.{Verdict}

-- the run of a line in zones where it found the same and was judged alike
abbrev pub run_of : Alone → Run
run_of a = record { zones = a.zones; verdicts = a.verdict ∷ [] }

-- the runs with the pending one, if there is one
abbrev pub with_last : List Run → Option Alone → List Run
with_last runs None = runs
with_last runs (Some a) = runs ++ run_of a ∷ []

-- two lines found the same, were judged alike, and differ in their zones alone
abbrev pub same_verdict : Verdict → Verdict → Bool
same_verdict a b = same_life a.found b.found && option_eq breach.eq-value.it a.breach b.breach && is_alike a.line b.line

-- the line with one zone more
abbrev pub further : Alone → Verdict → Alone
further a v = record { verdict = a.verdict; zones = a.zones ++ v.line.zone ∷ [] }

-- the pending run with one line more, where that is of it
abbrev pub IsJoined : Bool → Verdict → Option Alone → Option Alone → Type 0
IsJoined false v old new = new ≡ old
IsJoined true v old new = (a : Alone) × (old ≡ Some a) × (same_verdict a.verdict v ≡ true) × (new ≡ Some (further a v))

-- the runs with one line more
pub record IsWith (v : Verdict) (old new : List Run) : Type 0 where
  pub told : expand new ≡ expand old ++ (v.line, v.breach) ∷ []
  pub found : (rows : List Row) → life_at rows v.line ≡ v.found → AreFound rows old → AreFound rows new
  pub apart : AreApart old → AreApart new
