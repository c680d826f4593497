use Rattle.std.proofs.Common.{◌≡◌, ◌++◌, take, drop}
use Rattle.event_life.specs.Products.{put}
use Rattle.event_life.proofs.putting.find_row.Given as goal

-- the rows so far come before the row
abbrev pub invariant-loop-place : goal.invariant-loop-place
invariant-loop-place l = take l.place l.rows ++ put l.row (drop l.place l.rows) ≡ put l.row l.rows
