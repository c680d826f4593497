use Rattle.std.proofs.Common.{sym, ◌∙◌}
use Rattle.vtec_string.specs.Columns.{IsVtec}
use Rattle.warn_codes_c.proofs.Fitting.{only_text, vtec_back, vtec_hit, vtec_may}
use Rattle.warn_codes_c.proofs.writing.vtec_text_of.Goals as goal

pub vtec_text-requires-clause-number : goal.vtec_text-requires-clause-number
vtec_text-requires-clause-number c = (vtec_may c.args.fields.now c.in-Some.v (sym c.in-Some.ensures)).1

pub returns-in-Some-clause-found : goal.returns-in-Some-clause-found
returns-in-Some-clause-found c = (c.in-Some.v, vtec_back c.args.fields.now c.in-Some.v (sym c.in-Some.ensures), c.vtec_text.ensures.columns)

pub returns-in-Some-clause-only : goal.returns-in-Some-clause-only
returns-in-Some-clause-only c bytes v is e = only_text IsVtec _ bytes _ v c.vtec_text.ensures.only (c.in-Some.ensures ∙ vtec_hit bytes v c.args.fields.now is e) is
