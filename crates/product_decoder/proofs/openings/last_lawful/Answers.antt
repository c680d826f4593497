-- The last of what was taken.
use Rattle.std.proofs.Common.{◌≡◌, ◌∙◌, List, ap, sym, subst}
use Rattle.std.specs.Prelude.{IfOk}
use Rattle.hazard_types.specs.declared.line.Line.{Line}
use Rattle.event_life.specs.Products.{lawful_of}
use Rattle.product_decoder.specs.Runs.{Judged}
use Rattle.product_decoder.proofs.OpeningLemmas.{lawful_last}
use Rattle.product_decoder.proofs.openings.last_lawful.Goals as goal

pub returns-in_ok-judged-in-Some : goal.returns-in_ok-judged-in-Some
returns-in_ok-judged-in-Some c =
    let told = ap (λ (judged : List Judged). lawful_of judged) (c.as_slice.ensures ∙ c.in_ok-judged-in-Some.ensures) ∙ sym (lawful_last c.args.taken.now c.in-Some.product.now c.in-Some.ensures.value) in
    subst (λ (all : List Line). IfOk c.lawful_in.result (λ found. found ≡ all)) told c.lawful_in.ensures
