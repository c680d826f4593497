use Rattle.std.proofs.Common.{◌≡◌, ◌∙◌, List, refl, ap, arith}
use Rattle.std.specs.Prelude.{max}
use Rattle.std.proofs.lemmas.Result.{on_ok_weaker}
use Rattle.hazard_types.specs.declared.line.Row.{Row}
use Rattle.event_life.specs.Products.{Product, lawful_of, put_all}
use Rattle.product_decoder.specs.Decoded.{decoded_of}
use Rattle.product_decoder.specs.ReaderModel.{product_of}
use Rattle.row_index.specs.Verdicts.{expand}
use Rattle.row_index.specs.declared.verdicts.Run.{Run}
use Rattle.stats_report.specs.declared.tally.Tally.{Tally}
use Rattle.stats_report.proofs.Keeping.{found_out, takes_told}
use Rattle.stats_report.proofs.tally.Tally.add_product_lines.Goals as goal

pub leave_runs-requires-clause-found : goal.leave_runs-requires-clause-found
leave_runs-requires-clause-found c =
    found_out c.args.self.now.rows c.replace-rows.result c.as_slice-runs.result.now c.replace-rows.ensures.value (rw c.as_slice-runs.ensures c.in_ok-found.ensures.found)

pub returns : goal.returns
returns c =
    let self = c.args.self.now in
    let asked = c.args.asked.now in
    let p : Product = product_of asked.office asked.class (decoded_of c.args.frame.now) in
    let runs : List Run = c.as_slice-runs.result.now in
    let new : Tally = record { rows = c.in_ok-self.field-0; latest = c.max-self.result; standing = c.change_all.new.self; count = self.count; faults = self.faults } in
    let latest : c.max-self.result ≡ max self.latest p.issue = omega (arith, c.max-self.ensures, c.get.ensures.value) in
    let rows = c.in_ok-self.ensures ∙ ap (λ (rows : List Row). put_all rows p.issue (lawful_of (expand runs)) rows) c.replace-rows.ensures.value in
    on_ok_weaker c.change_all.result (λ takes. takes_told asked.minute p self new (expand runs) (ap (λ (rs : List Run). expand rs) c.as_slice-runs.ensures ∙ c.in_ok-found.ensures.told)
    rows latest takes (refl, refl)) c.change_all.ensures
