-- A P-VTEC line that names the same is of the same event.
use Rattle.std.proofs.Common.{◌≡◌, ◌∙◌, ◌==◌, ◌&&◌, ℕ, List, Option, Some, true, subst}
use Rattle.std.proofs.lemmas.Bool.{and_parts, eqb-true}
use Rattle.hazard_types.specs.contracts.codes.ActionPartialEq.TheImpl as action
use Rattle.hazard_types.specs.declared.line.Row.{Row}
use Rattle.hazard_types.specs.declared.line.Vtec.{Vtec}
use Rattle.hazard_types.proofs.Equality.{action_one, hazard_one}
use Rattle.event_life.specs.Products.{event_of}
use Rattle.product_decoder.specs.declared.taken.Known.{Known}
use Rattle.product_decoder.specs.Takings.{IsKnown, same_named}

event_same : (rows : List Row) (t : ℕ) (a b : Vtec) → same_named a b ≡ true → event_of rows t a ≡ event_of rows t b
event_same rows t a b same =
    let p = and_parts ((a.etn == b.etn) && action.eq-value.it a.action b.action) _ same in
    let q = and_parts (a.etn == b.etn) _ p.0 in
    let etn_is = eqb-true a.etn b.etn q.0 in
    let action_is = action_one a.action b.action q.1 in
    let hazard_is = hazard_one a.hazard b.hazard p.1 in
    λ i. event_of rows t (record { class = b.class; action = action_is i; office = b.office; hazard = hazard_is i; etn = etn_is i; begin = b.begin; end = b.end })

pub known_same : (rows : List Row) (t : ℕ) (known : Option Known) (k : Known) (vtec : Vtec) → known ≡ Some k → IsKnown rows t known → same_named k.vtec vtec ≡ true → k.event ≡ event_of rows t vtec
known_same rows t known k vtec is holds same = subst (λ (o : Option Known). IsKnown rows t o) is holds ∙ event_same rows t k.vtec vtec same
