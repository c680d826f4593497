-- The key of the zone's area holds its row, whether it is added or was last.
use Rattle.std.proofs.Common.{◌∙◌, sym}
use Rattle.row_index.specs.Reaching.{reach_in}
use Rattle.row_index.proofs.Reached.{added-grows, added-last, added-reaches, last-reaches}
use Rattle.row_index.proofs.reach.reach_zone.Goals as goal

pub returns-then-is_area-clause-reached : goal.returns-then-is_area-clause-reached
returns-then-is_area-clause-reached c =
    last-reaches c.args.last.now c.args.event.now c.args.zone.now c.args.life.now c.area_of-area.result c.args.reaches.now.keys c.area_of-area.ensures c.requires (sym c.is_area.ensures ∙ c.if-is_area.true)

pub returns-clause-last : goal.returns-clause-last
returns-clause-last c = added-last (reach_in c.args.event.now c.args.life.now c.area_of-area.result) c.args.reaches.now.keys c.add_key.new.keys.keys c.in_ok-add_key.ensures

pub returns-clause-grows : goal.returns-clause-grows
returns-clause-grows c = added-grows (reach_in c.args.event.now c.args.life.now c.area_of-area.result) c.args.reaches.now.keys c.add_key.new.keys.keys c.in_ok-add_key.ensures

pub returns-clause-reached : goal.returns-clause-reached
returns-clause-reached c =
    added-reaches c.args.event.now c.args.zone.now c.args.life.now c.area_of-area.result c.args.reaches.now.keys c.add_key.new.keys.keys c.area_of-area.ensures c.in_ok-add_key.ensures
