use Rattle.std.proofs.Common.{refl, inr}
use Rattle.program_ends.specs.Replies.{bytes_of}
use Rattle.program_ends.proofs.lines.reply.Goals as goal

pub returns-clause-halted : goal.returns-clause-halted
returns-clause-halted g c =
    record {
      no_memory = λ e. absurd (cc);
      write_fault = λ _. (bytes_of c.in_ok-reply.reply, c.in_ok-reply.ensures.answered, c.in-Err.ensures.front);
      reasons = inr refl;
    }
