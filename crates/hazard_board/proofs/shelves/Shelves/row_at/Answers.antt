-- The row of an event in a zone is found on the zone's shelf.
use Rattle.std.proofs.Common.{◌∙◌, List, ap, sym, find}
use Rattle.hazard_types.specs.Same.{same_event}
use Rattle.hazard_types.specs.declared.line.Row.{Row}
use Rattle.hazard_board.proofs.Places.{found_in_zone}
use Rattle.hazard_board.proofs.shelves.Shelves.row_at.Goals as goal

pub returns : goal.returns
returns c =
    c.row_at.ensures
    ∙ sym (found_in_zone c.args.e.now c.args.z.now c.shelf.result.now)
    ∙ ap (λ (rows : List Row). find (λ (r : Row). same_event r.event c.args.e.now) rows) c.shelf.ensures.rows
    ∙ found_in_zone c.args.e.now c.args.z.now c.args.self.now.rows
