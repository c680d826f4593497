-- Which hazards yield to which: those of a family to those of a higher rank.
use Rattle.std.specs.Prelude.{◌&&◌, ℕ, Bool, false, nat_lt, Option, Some, None, is_some}
use Rattle.hazard_types.specs.declared.codes.Family.{Family}
use Rattle.hazard_types.specs.declared.facts.Facts.{Facts}
use Rattle.hazard_types.specs.declared.hazard.Hazard.{Hazard}
use Rattle.hazard_types.specs.contracts.codes.FamilyPartialEq.TheImpl as family
use Rattle.hazard_types.specs.Hazards.{facts_of}

abbrev pub family_of : Option Facts → Option (Family × ℕ)
family_of None = None
family_of (Some facts) = facts.family

-- the desk issues the hazard, and it has a family
abbrev pub may_yield : Hazard → Bool
may_yield h = is_some (family_of (facts_of h))

abbrev pub is_above : Option (Family × ℕ) → Option (Family × ℕ) → Bool
is_above None low = false
is_above (Some f) None = false
is_above (Some f) (Some g) = family.eq-value.it f.0 g.0 && nat_lt g.1 f.1

-- the first is of a higher rank of the second's family
abbrev pub outranks : Hazard → Hazard → Bool
outranks high low = is_above (family_of (facts_of high)) (family_of (facts_of low))

abbrev pub is_kin : Option (Family × ℕ) → Option (Family × ℕ) → Bool
is_kin None g = false
is_kin (Some f) None = false
is_kin (Some f) (Some g) = family.eq-value.it f.0 g.0

-- both are of one family
abbrev pub are_kin : Hazard → Hazard → Bool
are_kin g h = is_kin (family_of (facts_of g)) (family_of (facts_of h))
