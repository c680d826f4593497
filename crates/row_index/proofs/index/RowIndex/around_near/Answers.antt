-- What stood around a line that asks alike stands around this one.
use Rattle.std.proofs.Common.{◌∙◌, true, Option, rules, subst}
use Rattle.hazard_types.specs.declared.line.Line.{Line}
use Rattle.event_life.specs.declared.life.Around.{Around}
use Rattle.row_index.specs.Steps.{IsAsked}
use Rattle.row_index.proofs.Asked.{asked_alike, unopened_asked}
use Rattle.row_index.proofs.index.RowIndex.around_near.Goals as goal

pub returns-then-not-opens : goal.returns-then-not-opens
returns-then-not-opens c = c.nothing_around.ensures ∙ unopened_asked c.args.line.now.action c.args.self.now c.args.t c.args.line.now true (search rules)

pub returns-then-asks_alike : goal.returns-then-asks_alike
returns-then-asks_alike c =
    subst (λ (o : Option (Line × Around)). IsAsked c.args.self.now c.args.t o) c.in-Some.is c.requires.asked
    ∙ asked_alike c.args.self.now c.args.t c.in-Some.before.0 c.args.line.now true (search rules)
