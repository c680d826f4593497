-- Lines that are all of one group.
use Rattle.std.specs.Prelude.{Bool, true, List, [], ◌∷◌, fold}
use Rattle.std.specs.List.{list_all}
use Rattle.hazard_types.specs.declared.line.Line.{Line}
use Rattle.hazard_types.specs.declared.line.SegLine.{SegLine}
use Rattle.segmenter.specs.Groups.{group_of, without_zone, same_group, placed}

-- each line has the group of the first
abbrev pub are_of_one_group : List Line → Bool
are_of_one_group [] = true
are_of_one_group (first ∷ rest) = list_all (λ (line : Line). same_group (group_of line) (group_of first)) (first ∷ rest)

-- the lines without their zones, in order
abbrev pub lines_without_zones : List Line → List SegLine
lines_without_zones lines = fold (λ (ordered : List SegLine) (line : Line). placed (without_zone line) ordered) [] lines
