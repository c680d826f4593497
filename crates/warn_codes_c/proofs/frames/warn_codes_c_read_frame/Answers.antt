use Rattle.warn_codes_c.proofs.Telling.{frame_told}
use Rattle.warn_codes_c.proofs.frames.warn_codes_c_read_frame.Goals as goal

pub returns-clause-only : goal.returns-clause-only
returns-clause-only c f is = frame_told _ _ _ _ _ _ _ _ _ _ _ (c.read_frame-answer.ensures.only f is) c.fill_frame.ensures

pub returns-clause-fault_only : goal.returns-clause-fault_only
returns-clause-fault_only c x is = frame_told _ _ _ _ _ _ _ _ _ _ _ (c.read_frame-answer.ensures.fault_only x is) c.fill_frame.ensures

pub returns-clause-exact : goal.returns-clause-exact
returns-clause-exact c = frame_told _ _ _ _ _ _ _ _ _ _ _ c.read_frame-answer.ensures.exact c.fill_frame.ensures
