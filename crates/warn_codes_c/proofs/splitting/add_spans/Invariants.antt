use Rattle.std.proofs.Common.{◌≡◌, ◌++◌, map, drop}
use Rattle.warn_codes_c.specs.Splits.{span_fields}
use Rattle.warn_codes_c.proofs.splitting.add_spans.Given as goal

-- what is left makes the list whole
abbrev pub invariant-loop-span : goal.invariant-loop-span
invariant-loop-span l = l.rows ++ map span_fields (drop l.span-index l.spans) ≡ l.initial.rows ++ map span_fields l.spans
