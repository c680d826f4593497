use Rattle.std.proofs.Common.{sym, subst, All, List}
use Rattle.std.proofs.lemmas.List.Elements.{All-push}
use Rattle.desk_links.specs.LinkMemory.{LinkInMemory, IsUntouched}
use Rattle.worked_serve.proofs.serve.ports.links_of.Goals as goal

pub loop-bytes-preserved : goal.loop-bytes-preserved
loop-bytes-preserved c = record {
  untouched = subst (λ (l : List LinkInMemory). All IsUntouched l) (sym c.in_ok-push.ensures.ok)
      (All-push IsUntouched c.loop-bytes.links c.in_ok-link_of.field-0 c.loop-bytes.invariant.untouched c.in_ok-link_of.ensures);
}
