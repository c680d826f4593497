use Rattle.std.proofs.Common.{sym, subst, All, List, rules}
use Rattle.std.proofs.lemmas.List.Elements.{All-push}
use Rattle.desk_links.specs.LinkMemory.{LinkInMemory, IsUntouched}
use Rattle.worked_serve.proofs.follow.runs.links_of.Goals as goal

pub loop-shape-preserved : goal.loop-shape-preserved
loop-shape-preserved c = record {
  some = (search rules);
  untouched = subst (λ (l : List LinkInMemory). All IsUntouched l) (sym c.in_ok-push.ensures.ok)
      (All-push IsUntouched c.loop-shape.links c.in_ok-link_of.field-0 c.loop-shape.invariant.untouched c.in_ok-link_of.ensures);
}
