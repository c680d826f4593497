use Rattle.warn_codes_c.proofs.Telling.{ugc_told}
use Rattle.warn_codes_c.proofs.ugc.warn_codes_c_read_ugc.Goals as goal

pub returns-clause-only : goal.returns-clause-only
returns-clause-only c zs d n is = ugc_told _ _ _ _ _ _ _ (c.read_ugc-answer.ensures.only zs d n is) c.fill_ugc.ensures

pub returns-clause-fault_only : goal.returns-clause-fault_only
returns-clause-fault_only c f is = ugc_told _ _ _ _ _ _ _ (c.read_ugc-answer.ensures.fault_only f is) c.fill_ugc.ensures

pub returns-clause-exact : goal.returns-clause-exact
returns-clause-exact c = ugc_told _ _ _ _ _ _ _ c.read_ugc-answer.ensures.exact c.fill_ugc.ensures
