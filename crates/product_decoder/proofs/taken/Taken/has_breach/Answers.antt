-- A run is in breach where one of its lines is.
use Rattle.std.proofs.Common.{◌∙◌, List, ap}
use Rattle.std.specs.List.{list_any}
use Rattle.row_index.specs.declared.verdicts.Run.{Run}
use Rattle.row_index.specs.Verdicts.{has_breach}
use Rattle.product_decoder.specs.Runs.{Taken, in_breach}
use Rattle.product_decoder.proofs.RunLemmas.{any_spelled}
use Rattle.product_decoder.proofs.taken.Taken.has_breach.Goals as goal

pub returns : goal.returns
returns c =
    c.any_breach.ensures ∙ ap (λ (runs : List Run). list_any has_breach runs) c.as_slice.ensures
    ∙ any_spelled c.self.inside.runs ∙ ap (λ (t : Taken). list_any in_breach t.judged) c.self.view_is
