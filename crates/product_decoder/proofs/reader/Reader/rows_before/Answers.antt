-- The rows that are held, or else those that the products leave, are those after the products.
use Rattle.std.proofs.Common.{◌≡◌, ◌∙◌, List, ap, sym, subst}
use Rattle.std.specs.Prelude.{IfOk}
use Rattle.hazard_types.specs.declared.line.Row.{Row}
use Rattle.event_life.specs.Products.{rows_of}
use Rattle.product_decoder.specs.Runs.{Taken}
use Rattle.product_decoder.specs.ReaderModel.{Reading}
use Rattle.product_decoder.specs.Takings.{rows_taken}
use Rattle.product_decoder.proofs.TakingLemmas.{rows_held, rows_read}
use Rattle.product_decoder.proofs.reader.Reader.rows_before.Goals.{in-Some, in-None}
use Rattle.product_decoder.proofs.reader.Reader.rows_before.Goals as goal

pub returns-clause-rows : goal.returns-clause-rows
returns-clause-rows c =
    let products = ap (λ (r : Reading). rows_of r.products) c.self.view_is in
    elim c.match-replace.branch [
      | in-Some w ↦ rw w.result-is (rows_held c.self.inside.office c.self.inside.class c.self.inside.rows w.in-Some.rows c.self.inside.taken (sym c.replace.ensures.value ∙ w.in-Some.is) c.self.invariant ∙ products)
      | in-None w ↦
          let told = ap (λ (taken : List Taken). rows_taken taken) w.as_slice.ensures ∙ rows_read c.self.inside.office c.self.inside.class c.self.inside.rows c.self.inside.taken c.self.invariant ∙ products in
          rw w.result-is (subst (λ (all : List Row). IfOk w.rows_taken.result (λ rows. rows ≡ all)) told w.rows_taken.ensures)
    ]
