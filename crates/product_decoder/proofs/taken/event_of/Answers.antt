-- A line that names the same is of the same event.
use Rattle.std.proofs.Common.{◌∙◌, sym}
use Rattle.product_decoder.proofs.KnownLemmas.{known_same}
use Rattle.product_decoder.proofs.taken.event_of.Goals as goal

pub returns-then-same_named : goal.returns-then-same_named
returns-then-same_named c = known_same c.args.rows.now c.args.t c.args.known.now c.in-Some.before c.args.vtec.now c.in-Some.is c.requires (sym c.same_named.ensures ∙ c.if-same_named.true)
