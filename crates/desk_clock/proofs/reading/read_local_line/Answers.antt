use Rattle.std.proofs.Common.{◌≡◌, Result, Ok, Err, List, ℕ, IfOk, sym, ◌∙◌}
use Rattle.desk_clock.specs.declared.reading.LocalFault.{LocalFault}
use Rattle.desk_clock.specs.LocalForm.{ReadsAs, read_of}
use Rattle.desk_clock.proofs.FormsFound.{reads, only_reads, lacks, only_lacks}
use Rattle.desk_clock.proofs.reading.read_local_line.Goals as goal

found_by : (b : List ℕ) (r : Result ℕ LocalFault) → read_of b ≡ r → IfOk r (ReadsAs b)
found_by b (Ok m) e = reads b m e
found_by b (Err f) e = tt

pub returns-clause-found : goal.returns-clause-found
returns-clause-found c = found_by c.args.b.now c.reading_of.result (sym c.reading_of.ensures)

pub returns-clause-only : goal.returns-clause-only
returns-clause-only c = λ m r. c.reading_of.ensures ∙ only_reads c.args.b.now m r

pub returns-clause-unknown : goal.returns-clause-unknown
returns-clause-unknown c = (λ e. lacks c.args.b.now (sym c.reading_of.ensures ∙ e), λ l. c.reading_of.ensures ∙ only_lacks c.args.b.now l)
