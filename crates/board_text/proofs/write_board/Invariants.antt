use Rattle.std.proofs.Common.{◌≡◌, ◌++◌, take}
use Rattle.board_text.specs.Rows.{board_text}
use Rattle.board_text.proofs.write_board.Given as goal

-- the lines so far stand behind the text
abbrev pub invariant-loop-row : goal.invariant-loop-row
invariant-loop-row l = l.out ≡ l.initial.out ++ board_text (take l.row-index l.rows)
