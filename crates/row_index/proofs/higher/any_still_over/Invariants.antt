-- whether one of the rows that are left passes is whether one of all does
use Rattle.std.proofs.Common.{◌≡◌, filter}
use Rattle.std.specs.List.{list_any}
use Rattle.std.specs.Map.{values_of}
use Rattle.row_index.specs.Numbers.{is_in_zone}
use Rattle.row_index.specs.Steps.{still_over}
use Rattle.row_index.proofs.higher.any_still_over.Given as goal

abbrev pub invariant-loop-row : goal.invariant-loop-row
invariant-loop-row l = list_any (still_over l.t l.low (values_of l.changed.counted.entries) l.changed.upgraded.keys l.own) (values_of l.row-iterator)
    ≡ list_any (still_over l.t l.low (values_of l.changed.counted.entries) l.changed.upgraded.keys l.own) (filter (is_in_zone l.own.zone) (values_of l.changed.higher.entries))
