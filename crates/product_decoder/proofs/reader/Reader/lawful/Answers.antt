-- What the product last taken did is what the last of the products does.
use Rattle.std.proofs.Common.{[]}
use Rattle.product_decoder.specs.Openings.{lawful_taken, last_lawful}
use Rattle.product_decoder.specs.ReaderModel.{Reading}
use Rattle.product_decoder.proofs.OpeningLemmas.{lawful_read, told_last}
use Rattle.product_decoder.proofs.reader.Reader.lawful.Goals as goal

pub returns : goal.returns
returns c =
    told_last c.last_lawful.result (lawful_taken []) (λ (r : Reading). last_lawful r.products) _ _ _ _ c.as_slice.ensures c.self.view_is
    (lawful_read c.self.inside.office c.self.inside.class c.self.inside.rows c.self.inside.taken c.self.invariant) c.last_lawful.ensures
