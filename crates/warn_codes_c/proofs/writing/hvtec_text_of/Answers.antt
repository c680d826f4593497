use Rattle.std.proofs.Common.{sym, ◌∙◌}
use Rattle.hvtec_string.specs.Columns.{IsHvtec}
use Rattle.warn_codes_c.proofs.Fitting.{only_text, flood_back, flood_hit}
use Rattle.warn_codes_c.proofs.writing.hvtec_text_of.Goals as goal

pub returns-in-Some-clause-found : goal.returns-in-Some-clause-found
returns-in-Some-clause-found c = (c.in-Some.h, flood_back c.args.fields.now c.in-Some.h (sym c.in-Some.ensures), c.hvtec_text.ensures.columns)

pub returns-in-Some-clause-only : goal.returns-in-Some-clause-only
returns-in-Some-clause-only c bytes h is e = only_text IsHvtec _ bytes _ h c.hvtec_text.ensures.only (c.in-Some.ensures ∙ flood_hit bytes h c.args.fields.now is e) is
