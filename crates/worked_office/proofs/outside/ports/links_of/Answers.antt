use Rattle.std.proofs.Common.{sym, subst, All, List}
use Rattle.std.proofs.lemmas.List.Elements.{All-push}
use Rattle.desk_links.specs.LinkMemory.{LinkInMemory, IsUntouched}
use Rattle.worked_office.proofs.Untouched.{untouched}
use Rattle.worked_office.proofs.outside.ports.links_of.Goals as goal

pub loop-word-preserved-in-Some-2 : goal.loop-word-preserved-in-Some-2
loop-word-preserved-in-Some-2 c = record {
  can = tt;
  ends = tt;
  untouched = subst (λ (l : List LinkInMemory). All IsUntouched l) (sym c.in_ok-push.ensures.ok)
      (All-push IsUntouched c.loop-word.links c.in_ok-new.field-0 c.loop-word.invariant.untouched (untouched _ _ _ c.in_ok-new.field-0 c.in_ok-new.ensures));
}
