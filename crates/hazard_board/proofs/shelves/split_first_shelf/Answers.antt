-- The rows from the place on are the first of the later shelves.
use Rattle.std.proofs.Common.{◌∙◌, ◌++◌, List, drop, ap, sym, subst}
use Rattle.hazard_types.specs.declared.line.Row.{Row}
use Rattle.hazard_board.specs.Shelves.{on_shelves, AreShelved, IsCut, IsZoneAt}
use Rattle.hazard_board.specs.declared.shelves.Shelf.{Shelf}
use Rattle.hazard_board.proofs.PartLemmas.{ArePartsAt, parts_from, first_rows, first_shelved}
use Rattle.hazard_board.proofs.ShelfLemmas.{sorted_front}
use Rattle.hazard_board.proofs.shelves.split_first_shelf.Goals as goal
use Rattle.hazard_board.proofs.shelves.split_first_shelf.Goals.{After-truncate}

pub cut_of-requires : goal.cut_of-requires
cut_of-requires c = rw (c.deref.ensures.value) (sorted_front c.args.first.now.items (on_shelves c.args.later.now.items) c.requires.order)

parts : (c : After-truncate) → ArePartsAt c.in_ok-back.back.from c.args.first.now.items c.truncate.new.self.items c.in_ok-back.back.rows.items
parts c =
    let first = c.args.first.now.items in
    let back = c.in_ok-back.back in
    let cut = subst (λ (rows : List Row). IsCut rows c.in-Some.at) c.deref.ensures.value c.in-Some.ensures in
    let zone = subst (λ (rows : List Row). IsZoneAt rows c.in-Some.at back.from) c.deref-2.ensures.value c.in_ok-back.ensures.from in
    parts_from first c.truncate.new.self.items back.rows.items c.in-Some.at back.from (sorted_front first (on_shelves c.args.later.now.items) c.requires.order) cut zone c.truncate.ensures.items (c.in_ok-back.ensures.rows ∙ ap (drop c.in-Some.at) c.deref-2.ensures.value)

pub returns-clause-rows : goal.returns-clause-rows
returns-clause-rows c =
    let whole = parts (goal.at.returns-clause-rows c).After-truncate in
    ap (λ (shelves : List Shelf). c.truncate.new.self.items ++ on_shelves shelves) c.in_ok-insert.ensures.items
    ∙ first_rows c.args.first.now.items c.truncate.new.self.items c.args.later.now.items c.in_ok-back.back whole.whole

pub returns-clause-shelved : goal.returns-clause-shelved
returns-clause-shelved c =
    let whole = parts (goal.at.returns-clause-shelved c).After-truncate in
    subst (AreShelved c.truncate.new.self.items) (sym c.in_ok-insert.ensures.items) (first_shelved c.args.first.now.items c.truncate.new.self.items c.args.later.now.items c.in_ok-back.back whole c.requires)
