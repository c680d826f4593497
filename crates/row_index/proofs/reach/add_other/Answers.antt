-- The events of the area, or of the one before.
use Rattle.std.proofs.Common.{◌∙◌, filter, sym}
use Rattle.row_index.specs.Reaching.{lasts}
use Rattle.row_index.proofs.Reached.{area-keeps, area-told, last-told}
use Rattle.row_index.proofs.reach.add_other.Goals as goal

pub returns-then-is_area-clause-told : goal.returns-then-is_area-clause-told
returns-then-is_area-clause-told c = last-told c.args.reaches.now.keys c.args.t c.args.ranks.now c.args.area c.args.events.now.keys c.args.last.now c.requires (sym c.is_area.ensures ∙ c.if-is_area.true)

pub returns-then-is_area-clause-keeps : goal.returns-then-is_area-clause-keeps
returns-then-is_area-clause-keeps c = λ e h. h

pub returns-clause-told : goal.returns-clause-told
returns-clause-told c = area-told c.args.reaches.now.keys c.args.t c.args.ranks.now c.args.area c.args.events.now.keys c.add_events.new.events.keys c.add_events.result c.add_events.ensures

pub returns-clause-keeps : goal.returns-clause-keeps
returns-clause-keeps c = area-keeps c.args.ranks.now (filter (lasts c.args.area c.args.t) c.args.reaches.now.keys) c.args.events.now.keys c.add_events.new.events.keys c.add_events.result c.add_events.ensures
