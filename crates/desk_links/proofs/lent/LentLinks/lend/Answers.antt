use Rattle.std.proofs.Common.{List, All, arith, subst, sym}
use Rattle.desk_links.specs.LinkMemory.{LinkInMemory, IsUntouched}
use Rattle.desk_links.proofs.Dealing.{all_rest}
use Rattle.desk_links.proofs.lent.LentLinks.lend.Goals as goal

pub invariant_of-self : goal.invariant_of-self
invariant_of-self c =
    let kept = c.self.invariant in
    (omega (arith, kept.0, c.in-Some.ensures.cases), subst (λ (l : List LinkInMemory). All IsUntouched l) (sym c.in-Some.ensures.rest) (all_rest IsUntouched c.self.inside.waiting.items kept.1))
