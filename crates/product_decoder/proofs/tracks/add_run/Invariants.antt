use Rattle.std.proofs.Common.{◌≡◌, fold, drop}
use Rattle.product_decoder.specs.ZoneSteps.{AreAscending, flat, with_verdict}
use Rattle.product_decoder.proofs.tracks.add_run.Given as goal

-- the lines that are left add what all of them do
abbrev pub invariant-loop-verdict : goal.invariant-loop-verdict
invariant-loop-verdict l = record {
  put : fold (with_verdict l.issue l.zones) (flat l.steps.entries) (drop l.verdict-index l.run.verdicts) ≡ fold (with_verdict l.issue l.zones) (flat l.initial.steps.entries) l.run.verdicts;
  ascending : AreAscending l.steps.entries;
}
