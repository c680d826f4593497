use Rattle.std.proofs.Common.{◌≡◌, ◌∙◌}
use Rattle.hazard_types.specs.Hazards.{facts_of}
use Rattle.hazard_types.proofs.DeskRows.{facts_told, fact_found, fact_absent}
use Rattle.hazard_types.proofs.desk_hazards.facts.Goals as goal

given : (c : goal.After-value_of) → c.value_of.result ≡ facts_of c.args.h
given c = c.value_of.ensures ∙ facts_told c.args.h

pub returns-clause-value : goal.returns-clause-value
returns-clause-value c = given c

pub returns-clause-stands : goal.returns-clause-stands
returns-clause-stands c = fact_found c.args.h c.value_of.result (given c)

pub returns-clause-none : goal.returns-clause-none
returns-clause-none c = fact_absent c.args.h c.value_of.result (given c)
