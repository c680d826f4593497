use Rattle.std.proofs.Common.{◌≡◌, ◌∙◌, ap, ℕ, List}
use Rattle.std.specs.Option.{option_copied}
use Rattle.hazard_types.specs.Hazards.{value_of, name_of}
use Rattle.hazard_types.specs.declared.hazard.Hazard.{Hazard}
use Rattle.hazard_types.proofs.DeskRows.{named, name_stands, name_absent}
use Rattle.hazard_types.proofs.desk_hazards.name_of.Goals as goal

given : (c : goal.After-value_of) → option_copied c.value_of.result ≡ name_of c.args.h
unfolding name_of
given c = ap option_copied c.value_of.ensures ∙ named c.all_names.result.now c.args.h ∙ ap (λ (rows : List (Hazard × List ℕ)). value_of rows c.args.h) c.all_names.ensures

pub returns-clause-value : goal.returns-clause-value
returns-clause-value c = given c

pub returns-clause-stands : goal.returns-clause-stands
returns-clause-stands c = name_stands c.args.h c.value_of.result (given c)

pub returns-clause-none : goal.returns-clause-none
returns-clause-none c = name_absent c.args.h c.value_of.result (given c)
