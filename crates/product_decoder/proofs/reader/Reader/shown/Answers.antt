-- The rows that are held, or else those that the products leave, are those after the products.
use Rattle.std.proofs.Common.{◌≡◌, ◌∙◌, List, ap, subst}
use Rattle.std.specs.Prelude.{IfOk}
use Rattle.hazard_types.specs.declared.line.Row.{Row}
use Rattle.event_life.specs.Products.{rows_of}
use Rattle.event_life.specs.Shown.{shown_at}
use Rattle.product_decoder.specs.Runs.{Taken}
use Rattle.product_decoder.specs.ReaderModel.{Reading}
use Rattle.product_decoder.specs.Takings.{rows_taken}
use Rattle.product_decoder.proofs.TakingLemmas.{rows_read}
use Rattle.product_decoder.proofs.reader.Reader.shown.Goals as goal

pub returns-in_ok-rows_taken-in-None : goal.returns-in_ok-rows_taken-in-None
returns-in_ok-rows_taken-in-None c =
    let told = c.in_ok-rows_taken-in-None.ensures ∙ ap (λ (taken : List Taken). rows_taken taken) c.as_slice.ensures
    ∙ rows_read c.self.inside.office c.self.inside.class c.self.inside.rows c.self.inside.taken c.self.invariant ∙ ap (λ (r : Reading). rows_of r.products) c.self.view_is in
    subst (λ (all : List Row). IfOk c.shown-in-None-2.result (λ rows. rows ≡ shown_at c.args.t all)) told c.shown-in-None-2.ensures
