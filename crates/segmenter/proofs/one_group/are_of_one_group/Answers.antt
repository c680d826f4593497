-- The group of the first line is that of all.
use Rattle.std.proofs.Common.{◌∙◌, ap}
use Rattle.std.specs.List.{list_all}
use Rattle.hazard_types.specs.declared.line.Line.{Line}
use Rattle.segmenter.specs.Groups.{group_of, same_group}
use Rattle.segmenter.specs.declared.groups.Group.{Group}
use Rattle.segmenter.proofs.OneGroupLemmas.{one_group_of}
use Rattle.segmenter.proofs.one_group.are_of_one_group.Goals as goal

pub returns-in-len1-up : goal.returns-in-len1-up
returns-in-len1-up c =
    c.are_of_group.ensures
    ∙ ap (λ (g : Group). list_all (λ (line : Line). same_group (group_of line) g) c.args.lines.now) c.group_of-group.ensures
    ∙ one_group_of c.args.lines.now c.first-item.result c.in-len1-up.len_at_least c.first-item.is
