use Rattle.std.proofs.Common.{◌≡◌, drop}
use Rattle.product_frame.specs.Frames.{find_issue_minute}
use Rattle.product_frame.proofs.read.find_issue_minute.Given as goal

abbrev pub invariant-loop-start : goal.invariant-loop-start
invariant-loop-start l = find_issue_minute l.bytes (drop l.start-index l.places) ≡ find_issue_minute l.bytes l.places
