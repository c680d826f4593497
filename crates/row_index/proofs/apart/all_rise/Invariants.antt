-- what is left decides as the whole does
use Rattle.std.proofs.Common.{◌≡◌, None, drop}
use Rattle.row_index.specs.Apart.{all_rise}
use Rattle.row_index.proofs.apart.all_rise.Given as goal

abbrev pub invariant-loop-part : goal.invariant-loop-part
invariant-loop-part l = all_rise l.last (drop l.part-index l.parts) ≡ all_rise None l.parts
