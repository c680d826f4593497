-- The map puts the zone behind those of its list.
use Rattle.std.proofs.Common.{◌∙◌, ◌++◌, ◌∷◌, [], List, Vec, Global, Bor, ap, rules}
use Rattle.std.specs.Map.{lookup}
use Rattle.hazard_types.specs.Places.{Place}
use Rattle.hazard_types.specs.declared.line.SegLine.{SegLine}
use Rattle.segmenter.specs.Steps.{same_lines, pushed}
use Rattle.segmenter.proofs.PutLemmas.{put_in, items_at-value, same_key}
use Rattle.segmenter.proofs.zones.add_zone.Goals as goal

pub returns : goal.returns
returns c =
    let key : Bor (List SegLine) → List SegLine = λ k. k.now in
    let items : Vec Place Global → List Place = λ v. v.items in
    let held = rw c.in_ok-classes.ensures.value at c.or_insert.ensures.value in
    let zones = items_at-value same_lines pushed key items (lookup (same_key same_lines pushed key items c.args.lines) c.args.classes.now.entries) c.new.result c.or_insert.result.now held c.new.ensures.items in
    put_in same_lines pushed key items _ c.args.classes.now.entries c.args.lines c.push.new.self c.args.zone.now (search rules) (c.in_ok-push.ensures.items ∙ ap (λ l. l ++ c.args.zone.now ∷ []) zones)
