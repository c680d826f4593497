use Rattle.std.proofs.Common.{◌≡◌, ◌++◌, drop, map}
use Rattle.headline_text.specs.NameLines.{names_from}
use Rattle.headline_text.proofs.names.name_lines.Given as goal

-- what is left goes on from here
abbrev pub invariant-loop-name : goal.invariant-loop-name
invariant-loop-name l =
    names_from 0 (map (λ name. name.now) l.names) ≡ l.out ++ names_from l.column (map (λ name. name.now) (drop l.name-index l.names))
