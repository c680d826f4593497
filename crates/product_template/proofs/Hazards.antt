-- A hazard that has facts has a name.
use Rattle.std.proofs.Common.{refl, List, [], ◌∷◌, inl, inr, map}
use Rattle.std.specs.Prelude.{IsSome}
use Rattle.std.proofs.lemmas.Bool.{cases_Bool}
use Rattle.hazard_types.specs.Hazards.{DeskHazard, desk_hazards, value_of, fact_rows, name_rows, facts_of, name_of}
use Rattle.hazard_types.specs.Same.{same_hazard}
use Rattle.hazard_types.specs.declared.hazard.Hazard.{Hazard}

beside_both : (rows : List DeskHazard) (h : Hazard) → IsSome (value_of (map (λ (d : DeskHazard). (d.hazard, d.facts)) rows) h) → IsSome (value_of (map (λ (d : DeskHazard). (d.hazard, d.name)) rows) h)
beside_both [] h is = is
beside_both (d ∷ rows) h is = elim (cases_Bool (same_hazard d.hazard h)) [
  | inl e ↦ rw e refl
  | inr e ↦ rw e (beside_both rows h (rw e at is))
]

pub named : (h : Hazard) → IsSome (facts_of h) → IsSome (name_of h)
unfolding facts_of name_of fact_rows name_rows
named h is = beside_both desk_hazards h is
