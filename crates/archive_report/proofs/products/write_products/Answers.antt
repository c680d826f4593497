use Rattle.std.proofs.Common.{◌∙◌, refl, inr, sym, take, drop}
use Rattle.std.proofs.lemmas.List.{take-append-drop}
use Rattle.archive_report.proofs.products.write_products.Goals as goal

pub returns-clause-halted : goal.returns-clause-halted
returns-clause-halted g c =
    let text = c.as_slice.result.now in
    let part = c.in-Err.ensures.written.part in
    record {
      no_memory = λ e. absurd (cc);
      write_fault = λ _. (
        c.write_each.new.feed,
        c.write_each.new.tally,
        c.write_each.new.out,
        (rw c.new-lines.ensures at c.in_ok-write_each.ensures),
        record {
          front = take part.0 text;
          begins = (drop part.0 text, sym c.as_slice.ensures ∙ sym (take-append-drop part.0 text));
          adds = part.2;
        },
      );
      reasons = inr refl;
    }
