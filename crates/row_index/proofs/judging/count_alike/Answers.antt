-- One zone more.
use Rattle.std.proofs.Common.{◌∙◌, rules, sym}
use Rattle.row_index.specs.Groups.{IsLifeIn}
use Rattle.row_index.proofs.Every.{every_next}
use Rattle.row_index.proofs.Runs.{lives_one}
use Rattle.row_index.proofs.judging.count_alike.Goals as goal

pub loop-zone-preserved : goal.loop-zone-preserved
loop-zone-preserved c = record {
  count = search rules;
  alike = every_next c.args.zones.now (IsLifeIn c.args.rows.now c.args.event.now c.args.found.now) c.loop-zone.zone-index c.zone-item.result c.loop-zone-test.true c.zone-item.is
      (sym c.life_at.ensures ∙ sym (lives_one c.args.found.now _ (search rules))) c.loop-zone.invariant.alike;
}
