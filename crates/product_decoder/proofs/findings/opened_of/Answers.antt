-- The first lines open what all lines do.
use Rattle.std.proofs.Common.{◌≡◌, ◌∙◌, List, ap, subst}
use Rattle.std.specs.Prelude.{IfOk}
use Rattle.hazard_types.specs.declared.hazard.Event.{Event}
use Rattle.event_life.specs.Openings.{events_opened_by}
use Rattle.event_life.specs.Products.{lawful_of}
use Rattle.product_decoder.specs.Runs.{Judged}
use Rattle.product_decoder.proofs.FirstLemmas.{firsts_opened}
use Rattle.product_decoder.proofs.findings.opened_of.Goals as goal

pub returns : goal.returns
returns c =
    let told = ap (λ (judged : List Judged). events_opened_by (lawful_of judged)) (c.as_slice.ensures ∙ c.in_ok-firsts.ensures)
    ∙ firsts_opened c.runs.result.now ∙ ap (λ (judged : List Judged). events_opened_by (lawful_of judged)) c.runs.ensures.judged in
    subst (λ (all : List Event). IfOk c.events_opened_by.result (λ events. events ≡ all)) told c.events_opened_by.ensures
