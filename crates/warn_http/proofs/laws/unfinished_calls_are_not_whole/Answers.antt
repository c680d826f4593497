use Rattle.warn_http.proofs.Causes.{cut_is_no_call, headless}
use Rattle.warn_http.proofs.laws.unfinished_calls_are_not_whole.Goals as goal

pub returns-clause-unfinished : goal.returns-clause-unfinished
returns-clause-unfinished c = λ bytes cut call whole. cut_is_no_call bytes call whole cut

pub returns-clause-headless : goal.returns-clause-headless
returns-clause-headless c = λ bytes none call whole. headless bytes whole.head none whole.stands
