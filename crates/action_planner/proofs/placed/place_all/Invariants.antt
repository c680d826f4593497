-- the intents placed so far, and those that are left behind them, are all
use Rattle.std.proofs.Common.{◌≡◌, ◌++◌, take, drop}
use Rattle.action_planner.specs.Placed.{placed, placed_from}
use Rattle.action_planner.proofs.placed.place_all.Given as goal

abbrev pub invariant-loop-place : goal.invariant-loop-place
invariant-loop-place l = l.ps.items ++ placed_from l.numbers.counts l.t (take l.place l.intents) (drop l.place l.intents) ≡ placed l.numbers.counts l.t l.intents
