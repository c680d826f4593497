use Rattle.ugc_codes.proofs.Lines.{text_or_fault, not_both, one_fault}
use Rattle.ugc_codes.proofs.read.text_or_fault.Goals as goal

pub returns-clause-either : goal.returns-clause-either
returns-clause-either c = text_or_fault

pub returns-clause-not_both : goal.returns-clause-not_both
returns-clause-not_both c = not_both

pub returns-clause-one_fault : goal.returns-clause-one_fault
returns-clause-one_fault c = one_fault
