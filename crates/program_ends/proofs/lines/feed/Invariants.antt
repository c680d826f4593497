use Rattle.std.proofs.Common.{◌≡◌, List, ℕ}
use Rattle.program_ends.specs.Lines.{pending_of}
use Rattle.program_ends.proofs.Feeding.{Fed}
use Rattle.program_ends.proofs.lines.feed.Given as goal

-- the lines that ended so far were answered, and the output's count is as before
abbrev pub invariant-loop-byte : goal.invariant-loop-byte
invariant-loop-byte g l =
    let sink = g.K.Sink in
    record {
      fed : (begun : List ℕ) → l.fn.line ≡ pending_of begun → (come : List ℕ) × (l.line ≡ pending_of come) × Fed g.A.Answers.answers l.fn.answers l.answers begun l.chunk l.byte-index come (sink.outflow l.fn.output) (sink.outflow l.output);
      steady : (sink.outflow l.output).faults ≡ (sink.outflow l.fn.output).faults;
    }
