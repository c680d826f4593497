use Rattle.ugc_codes.proofs.Lines.{ugc_once, no_prefix}
use Rattle.ugc_codes.proofs.read.one_text.Goals as goal

pub returns-clause-same : goal.returns-clause-same
returns-clause-same c = ugc_once

pub returns-clause-no_prefix : goal.returns-clause-no_prefix
returns-clause-no_prefix c = no_prefix
