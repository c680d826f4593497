use Rattle.std.proofs.Common.{ℕ, List, Result, Ok, Err, subst}
use Rattle.std.specs.Prelude.{IfOk}
use Rattle.hazard_types.specs.Given.{Gives}
use Rattle.hazard_types.specs.declared.or.Or.{Or}
use Rattle.product_frame.specs.declared.frame.Frame.{Frame}
use Rattle.product_frame.specs.declared.frame.FrameFault.{FrameFault}
use Rattle.product_frame.specs.Frames.{read_first_frame}
use Rattle.product_frame.specs.Frame.{FrameOf}
use Rattle.product_frame.proofs.Whole.{frame_read, read_is_frame}
use Rattle.product_frame.proofs.Refused.{fault_read, refused_is_faulty}
use Rattle.product_frame.proofs.read.read_frame_with.Goals as goal

found : (bytes : List ℕ) (r : Result Frame (Or FrameFault)) → Gives r (read_first_frame bytes) → IfOk r (FrameOf bytes)
found bytes (Ok f) h = read_is_frame bytes f h
found bytes (Err e) h = tt

pub returns-clause-found : goal.returns-clause-found
returns-clause-found c = found c.args.bytes.now c.read_first_frame.result c.read_first_frame.ensures

pub returns-clause-only : goal.returns-clause-only
returns-clause-only c = λ f h. subst (λ (a : Result Frame FrameFault). Gives c.read_first_frame.result a) (frame_read c.args.bytes.now f h) c.read_first_frame.ensures

pub returns-clause-fault : goal.returns-clause-fault
returns-clause-fault c = λ x e. refused_is_faulty c.args.bytes.now x (subst (λ (r : Result Frame (Or FrameFault)). Gives r (read_first_frame c.args.bytes.now)) e c.read_first_frame.ensures)

pub returns-clause-fault_only : goal.returns-clause-fault_only
returns-clause-fault_only c = λ x h. subst (λ (a : Result Frame FrameFault). Gives c.read_first_frame.result a) (fault_read c.args.bytes.now x h) c.read_first_frame.ensures
