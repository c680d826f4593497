use Rattle.product_frame.proofs.Refused.{frame_or_fault, not_both, one_frame, one_fault}
use Rattle.product_frame.proofs.read.frame_or_fault.Goals as goal

pub returns-clause-either : goal.returns-clause-either
returns-clause-either c = frame_or_fault

pub returns-clause-not_both : goal.returns-clause-not_both
returns-clause-not_both c = not_both

pub returns-clause-one_frame : goal.returns-clause-one_frame
returns-clause-one_frame c = one_frame

pub returns-clause-one_fault : goal.returns-clause-one_fault
returns-clause-one_fault c = one_fault
