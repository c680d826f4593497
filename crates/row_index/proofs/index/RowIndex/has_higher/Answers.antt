-- The rows of the zone tell whether a higher one overlaps the line's.
use Rattle.std.proofs.Common.{◌∙◌, List, sym, subst}
use Rattle.std.specs.List.Sorted.{IsStrictlySortedBy}
use Rattle.std.specs.Map.{values_of}
use Rattle.hazard_types.specs.declared.line.Row.{Row}
use Rattle.event_life.specs.Products.{by_key}
use Rattle.row_index.proofs.Changing.{higher-told}
use Rattle.row_index.proofs.HeldRows.{told-sorted}
use Rattle.row_index.proofs.index.RowIndex.has_higher.Goals as goal

pub returns-in-Some : goal.returns-in-Some
returns-in-Some c = λ lines changed over.
    let up = subst (λ (rows : List Row). IsStrictlySortedBy by_key rows) c.self.view_is (told-sorted c.self.inside.held.entries) in
    c.is_overlapped.ensures
    ∙ higher-told c.args.self.now c.args.t lines (values_of c.args.changed.now.counted.entries) c.args.changed.now.upgraded.keys changed up c.args.line.now c.in-Some.own (values_of c.args.changed.now.higher.entries) (sym c.requires.own ∙ c.in-Some.is) (over c.in-Some.own c.in-Some.is)
