use Rattle.std.proofs.Common.{◌≡◌, [], take, drop}
use Rattle.event_life.specs.Products.{rows_after_all_but_upgrades}
use Rattle.event_life.proofs.putting.rows_after_all_but_upgrades.Given as goal

-- the lines that are left leave what all of them do
abbrev pub invariant-loop-place : goal.invariant-loop-place
invariant-loop-place l = rows_after_all_but_upgrades l.rows l.t (take l.place l.lines) (drop l.place l.lines) l.after.items ≡ rows_after_all_but_upgrades l.rows l.t [] l.lines l.rows
