-- What stands around a line is the same in each zone.
use Rattle.std.proofs.Common.{◌≡◌, true, subst, sym}
use Rattle.hazard_types.specs.declared.line.Line.{Line}
use Rattle.row_index.specs.Steps.{asked_around}
use Rattle.row_index.proofs.Groups.{zone_asked}
use Rattle.row_index.proofs.index.RowIndex.verdict_at.Goals as goal

pub breach_in-breach-requires-clause-around : goal.breach_in-breach-requires-clause-around
breach_in-breach-requires-clause-around c =
    let rows = c.args.self.now in
    let t = c.args.asking.now.t in
    let stands = c.args.asking.now.around in
    subst (λ (l : Line). stands ≡ asked_around l.action rows t l true) (sym c.in_zone-line.ensures)
    (zone_asked rows t c.args.asking.now.line c.args.zone.now stands c.requires.stands)
