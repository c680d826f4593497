-- The lines in breach among what was taken are those of the products.
use Rattle.std.proofs.Common.{◌≡◌, ◌∙◌, List, ap, subst}
use Rattle.std.specs.Prelude.{IfOk}
use Rattle.product_decoder.specs.Runs.{Taken}
use Rattle.product_decoder.specs.declared.types.Found.{Found}
use Rattle.product_decoder.specs.ReaderModel.{Reading, found_of}
use Rattle.product_decoder.specs.Takings.{breaches_in}
use Rattle.product_decoder.proofs.LawLemmas.{lawful_exactly}
use Rattle.product_decoder.proofs.TakingLemmas.{breaches_read}
use Rattle.product_decoder.proofs.reader.Reader.breaches.Goals as goal

pub returns-clause-value : goal.returns-clause-value
returns-clause-value c =
    let told = ap (λ (taken : List Taken). breaches_in 1 taken) c.as_slice.ensures
    ∙ breaches_read c.self.inside.office c.self.inside.class c.self.inside.rows c.self.inside.taken c.self.invariant
    ∙ ap (λ (r : Reading). found_of r.products) c.self.view_is in
    subst (λ (all : List Found). IfOk c.breaches_in.result (λ found. found ≡ all)) told c.breaches_in.ensures

pub returns-clause-lawful : goal.returns-clause-lawful
returns-clause-lawful c = lawful_exactly c.args.self.now.products
