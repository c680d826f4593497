-- The step tells the first breach, or that there is none.
use Rattle.std.proofs.Common.{◌∙◌, Option, ap, sym}
use Rattle.std.specs.Prelude.{option_map}
use Rattle.hazard_types.specs.declared.line.Row.{Row}
use Rattle.event_life.specs.Products.{life_of}
use Rattle.row_index.proofs.Asked.{step_ok, step_err}
use Rattle.row_index.proofs.index.RowIndex.step_breach.Goals as goal

pub returns-in-Ok : goal.returns-in-Ok
returns-in-Ok c =
    step_ok c.args.self.now c.args.line.now c.args.t c.args.around.higher c.life_of-life.result c.args.around _
    (c.life_of-life.ensures ∙ c.life_at.ensures ∙ ap (λ (o : Option Row). option_map life_of o) (sym (c.requires.rows.found c.args.line.now.zone))) c.requires.around (sym c.in-Ok.is ∙ c.life_step.ensures)

pub returns-in-Err : goal.returns-in-Err
returns-in-Err c =
    step_err c.args.self.now c.args.line.now c.args.t c.args.around.higher c.life_of-life.result c.args.around c.in-Err.breach
    (c.life_of-life.ensures ∙ c.life_at.ensures ∙ ap (λ (o : Option Row). option_map life_of o) (sym (c.requires.rows.found c.args.line.now.zone))) c.requires.around (sym c.in-Err.is ∙ c.life_step.ensures)
