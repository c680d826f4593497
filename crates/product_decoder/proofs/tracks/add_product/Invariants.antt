use Rattle.std.proofs.Common.{◌≡◌, drop}
use Rattle.row_index.specs.Verdicts.{AreApart}
use Rattle.product_decoder.specs.Steps.{with_runs}
use Rattle.product_decoder.specs.ZoneSteps.{AreAscending, flat}
use Rattle.product_decoder.proofs.tracks.add_product.Given as goal

-- the runs that are left add what all of them do
abbrev pub invariant-loop-run : goal.invariant-loop-run
invariant-loop-run l = record {
  put : with_runs l.issue (flat l.steps.entries) (drop l.run-index l.run-items) ≡ with_runs l.issue (flat l.initial.steps.entries) l.run-items;
  ascending : AreAscending l.steps.entries;
  apart : AreApart (drop l.run-index l.run-items);
}
