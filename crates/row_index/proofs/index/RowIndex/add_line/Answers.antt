-- The maps with the rows of the line put are an index of all rows with those put.
use Rattle.std.proofs.Common.{◌∙◌, Bool, [], cond, ap, sym}
use Rattle.event_life.specs.declared.life.Life.{Life}
use Rattle.row_index.specs.Listing.{lists_of}
use Rattle.row_index.specs.Runs.{rows_along}
use Rattle.row_index.specs.Steps.{add_each}
use Rattle.row_index.specs.Verdicts.{left_by}
use Rattle.row_index.proofs.HeldRows.{held-own}
use Rattle.row_index.proofs.Runs.{rows-made}
use Rattle.row_index.proofs.index.RowIndex.add_line.Goals as goal

pub add_held-requires : goal.add_held-requires
add_held-requires c = held-own c.self.inside.held.entries c.args.verdict.now.line.event c.self.invariant.held

pub invariant_of-result : goal.invariant_of-result
invariant_of-result c =
    let put = c.in_ok-add_held.ensures in
    (rows-made c.args.verdict.now.line.event c.life_after_verdict-left.result c.args.zones.now (sym c.is_empty.ensures ∙ c.if-is_empty.false)
    c.self.inside.held.entries c.add_held.new.held.entries (lists_of c.self.inside.events.entries) (lists_of c.add_held.new.events.entries) c.self.inside.reach.keys c.add_held.new.reaches.keys
    put.held put.events put.reached put.grows c.self.invariant).0

pub returns : goal.returns
returns c =
    let e = c.args.verdict.now.line.event in
    let zones = c.args.zones.now in
    let put = c.in_ok-add_held.ensures in
    let told = (rows-made e c.life_after_verdict-left.result zones (sym c.is_empty.ensures ∙ c.if-is_empty.false)
    c.self.inside.held.entries c.add_held.new.held.entries (lists_of c.self.inside.events.entries) (lists_of c.add_held.new.events.entries) c.self.inside.reach.keys c.add_held.new.reaches.keys
    put.held put.events put.reached put.grows c.self.invariant).1 in
    told ∙ ap (add_each (rows_along e c.life_after_verdict-left.result zones)) c.self.view_is
    ∙ ap (λ (l : Life). add_each (rows_along e l zones) c.args.self) c.life_after_verdict-left.ensures
    ∙ ap (λ (b : Bool). add_each (cond b (rows_along e (left_by c.args.t c.args.verdict.now) zones) []) c.args.self) (sym c.if-not-leaves_row.false ∙ c.leaves_row.ensures)
