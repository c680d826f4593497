-- the events so far, with those of the keys that are left, are those of all
use Rattle.std.proofs.Common.{◌≡◌, filter}
use Rattle.row_index.specs.Reaching.{lasts, with_spots}
use Rattle.row_index.proofs.reach.add_events.Given as goal

abbrev pub invariant-loop-reach : goal.invariant-loop-reach
invariant-loop-reach l = with_spots l.ranks l.events.keys l.reach-iterator ≡ with_spots l.ranks l.initial.events.keys (filter (lasts l.fn.area l.fn.t) l.reaches.keys)
