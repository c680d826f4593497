-- What the product last taken did is what the last of the products does.
use Rattle.std.proofs.Common.{[]}
use Rattle.product_decoder.specs.Openings.{openings_taken, last_openings}
use Rattle.product_decoder.specs.ReaderModel.{Reading}
use Rattle.product_decoder.proofs.OpeningLemmas.{openings_read, told_last}
use Rattle.product_decoder.proofs.reader.Reader.openings.Goals as goal

pub returns : goal.returns
returns c =
    told_last c.last_openings.result (openings_taken []) (λ (r : Reading). last_openings r.products) _ _ _ _ c.as_slice.ensures c.self.view_is
    (openings_read c.self.inside.office c.self.inside.class c.self.inside.rows c.self.inside.taken c.self.invariant) c.last_openings.ensures
