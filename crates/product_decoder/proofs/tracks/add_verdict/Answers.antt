-- A lawful line is a step of its event in each zone, and another line is none.
use Rattle.std.proofs.Common.{◌∙◌, sym}
use Rattle.std.proofs.lemmas.Result.{on_ok_weaker}
use Rattle.product_decoder.specs.ZoneSteps.{flat, with_zones, zones_at}
use Rattle.product_decoder.proofs.Nested.{verdict_lawful, verdict_passed, ascending_put}
use Rattle.product_decoder.proofs.tracks.add_verdict.Goals as goal

pub returns-then-not-leaves_row-clause-put : goal.returns-then-not-leaves_row-clause-put
returns-then-not-leaves_row-clause-put c = verdict_passed c.args.issue.now c.args.verdict.now (flat c.args.steps.now.entries) c.args.zones.now (sym c.leaves_row.ensures ∙ c.if-not-leaves_row.true)

pub returns-clause-put : goal.returns-clause-put
returns-clause-put c =
    on_ok_weaker c.add_line.result (λ is. verdict_lawful c.args.issue.now c.args.verdict.now c.args.steps.now.entries c.add_line.new.steps.entries c.args.zones.now c.requires.ascending (sym c.leaves_row.ensures ∙ c.if-not-leaves_row.false) is) c.add_line.ensures

pub returns-clause-ascending : goal.returns-clause-ascending
returns-clause-ascending c =
    on_ok_weaker c.add_line.result (λ is. ascending_put c.args.verdict.now.line.event c.args.steps.now.entries c.add_line.new.steps.entries (with_zones (c.args.verdict.now.line.action, c.args.issue.now) (zones_at c.args.steps.now.entries c.args.verdict.now.line.event) c.args.zones.now) c.requires.ascending is) c.add_line.ensures
