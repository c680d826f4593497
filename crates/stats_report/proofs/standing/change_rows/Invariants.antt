-- the zones that are left change what all of them do
use Rattle.std.proofs.Common.{◌≡◌, fold, drop}
use Rattle.stats_report.specs.Spells.{turn_of, turned_in}
use Rattle.stats_report.proofs.standing.change_rows.Given as goal

abbrev pub invariant-loop-zone : goal.invariant-loop-zone
invariant-loop-zone l = fold (turned_in l.change) (turn_of l.spells l.zones l.totals) (drop l.zone-index l.places) ≡ fold (turned_in l.change) (turn_of l.fn.spells l.fn.zones l.fn.totals) l.places
