-- The map puts the line into its group.
use Rattle.std.proofs.Common.{◌∙◌, List, ap, rules}
use Rattle.std.specs.Map.{lookup}
use Rattle.hazard_types.specs.declared.line.SegLine.{SegLine}
use Rattle.segmenter.specs.Groups.{same_group, placed}
use Rattle.segmenter.specs.declared.groups.Group.{Group}
use Rattle.segmenter.proofs.PutLemmas.{put_in, items_at-value}
use Rattle.segmenter.proofs.groups.add_line.Goals as goal

pub returns : goal.returns
returns c =
    let key : Group → Group = λ g. g in
    let items : List SegLine → List SegLine = λ v. v in
    let held = rw c.in_ok-groups.ensures.value at c.or_insert-lines.ensures.value in
    let lines = items_at-value same_group placed key items (lookup (same_group c.group_of.result) c.args.groups.now.entries) c.new.result c.or_insert-lines.result.now held c.new.ensures in
    let put = put_in same_group placed key items _ c.args.groups.now.entries c.group_of.result c.place.new.self c.without_zone.result (search rules) (c.in_ok-place.ensures ∙ ap (λ l. placed c.without_zone.result l) lines) in
    rw (← c.group_of.ensures, ← c.without_zone.ensures) put
