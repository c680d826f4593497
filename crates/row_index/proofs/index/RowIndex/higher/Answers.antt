-- The live rows of the events that reach far enough are all that a UPG line asks for.
use Rattle.std.proofs.Common.{◌≡◌, ℕ, List, Option, rules, subst}
use Rattle.std.specs.Map.{values_of}
use Rattle.hazard_types.specs.declared.codes.Family.{Family}
use Rattle.row_index.specs.Gathering.{AreGathered, rank_of_line}
use Rattle.row_index.specs.Seating.{upgrades}
use Rattle.row_index.specs.Steps.{AreOver}
use Rattle.row_index.specs.Telling.{Tells}
use Rattle.row_index.proofs.Gathering.{gathered-over, of-ok}
use Rattle.row_index.proofs.index.RowIndex.higher.Goals as goal

pub returns-clause-rows : goal.returns-clause-rows
returns-clause-rows c =
    let rows = c.args.self.now in
    let lines = c.args.lines.now in
    let same : c.in_ok-ranks.ranks.items ≡ c.deref.result.now = search rules in
    let ranks = subst (λ (all : List (Option (Family × ℕ))). Tells upgrades rank_of_line all lines) same c.in_ok-ranks.ensures in
    of-ok (λ higher. AreGathered rows c.needed_from-from.result c.in_ok-zones.zones.keys c.in_ok-events.events.keys (values_of higher.entries)) (λ higher. AreOver rows c.args.t lines (values_of higher.entries)) c.live_rows.result
    (λ higher gathered.
    gathered-over c.self.inside.held.entries c.self.inside.reach.keys c.args.t c.needed_from-from.result lines c.in_ok-zones.zones.keys c.deref.result.now c.in_ok-events.events.keys (values_of higher.entries)
    c.self.invariant.held c.self.invariant.reached c.in_ok-zones.ensures ranks c.in_ok-events.ensures rows c.self.view_is c.needed_from-from.ensures gathered)
    c.live_rows.ensures.rows
