-- What stands around the line is said of an overlapped row.
use Rattle.std.proofs.Common.{◌∙◌, Bool, Option, ap, is_none, sym, true}
use Rattle.event_life.specs.declared.life.Breach.{Breach}
use Rattle.event_life.specs.Products.{is_routine, is_upgrade, life_at, around_but_higher}
use Rattle.event_life.specs.Table.{breach_of_line}
use Rattle.row_index.proofs.Asked.{asked_higher, asked_own, neither, none_told}
use Rattle.row_index.proofs.index.RowIndex.may_be_higher.Goals as goal

pub step_breach-requires-clause-around : goal.step_breach-requires-clause-around
step_breach-requires-clause-around c = asked_own c.args.self.now c.args.t c.args.line.now true c.around-around.result c.around-around.ensures

pub returns : goal.returns
returns c =
    let rows = c.args.self.now in
    let line = c.args.line.now in
    let t = c.args.t in
    let higher_is = asked_higher rows t line true c.around-around.result c.around-around.ensures in
    none_told c.step_breach.result c.is_none.result c.is_none.ensures
    ∙ ap (λ (o : Option Breach). is_none o) (c.step_breach.ensures ∙ ap (λ (b : Bool). breach_of_line (life_at rows line) line t (around_but_higher rows t line b)) higher_is)
    ∙ neither (is_routine line.action) (is_upgrade line.action) _ (sym c.is_routine.ensures ∙ c.if-is_routine.false) (sym c.is_upgrade.ensures ∙ c.if-is_upgrade.false)
