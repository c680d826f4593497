-- The last of what was taken.
use Rattle.std.proofs.Common.{◌≡◌, ◌∙◌, List, ap, sym, subst}
use Rattle.std.specs.Prelude.{IfOk}
use Rattle.event_life.specs.Products.{lawful_of}
use Rattle.product_decoder.specs.declared.types.Opening.{Opening}
use Rattle.product_decoder.specs.Openings.{openings_in}
use Rattle.product_decoder.specs.Runs.{Judged}
use Rattle.product_decoder.proofs.OpeningLemmas.{openings_last}
use Rattle.product_decoder.proofs.openings.last_openings.Goals as goal

pub returns-in_ok-judged-in-Some : goal.returns-in_ok-judged-in-Some
returns-in_ok-judged-in-Some c =
    let told = ap (λ (judged : List Judged). openings_in c.in-Some.product.now.issue (lawful_of judged)) (c.as_slice.ensures ∙ c.in_ok-judged-in-Some.ensures) ∙ sym (openings_last c.args.taken.now c.in-Some.product.now c.in-Some.ensures.value) in
    let found = rw c.issue.ensures at c.openings_in.ensures in
    subst (λ (all : List Opening). IfOk c.openings_in.result (λ found. found ≡ all)) told found
