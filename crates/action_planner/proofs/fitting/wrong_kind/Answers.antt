-- No zone is found where each is of the hazard's kind.
use Rattle.std.proofs.Common.{◌≡◌, find, rules}
use Rattle.hazard_types.specs.Hazards.{facts_of}
use Rattle.action_planner.specs.Fitting.{of_other_kind}
use Rattle.action_planner.proofs.FittingLemmas.{none_found}
use Rattle.action_planner.proofs.fitting.wrong_kind.Goals as goal

pub returns-clause-none : goal.returns-clause-none
returns-clause-none c =
    let found : c.first_other.result ≡ find (of_other_kind (facts_of c.args.hazard.now)) c.args.zones.now = search rules in
    none_found c.args.hazard.now c.args.zones.now c.first_other.result found
