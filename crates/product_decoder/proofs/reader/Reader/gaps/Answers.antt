-- The gaps in what was taken are those of the products.
use Rattle.std.proofs.Common.{◌≡◌, ◌∙◌, List, [], map, ap, subst}
use Rattle.std.specs.Prelude.{IfOk}
use Rattle.event_life.specs.Openings.{gaps_from}
use Rattle.product_decoder.specs.Runs.{Taken}
use Rattle.product_decoder.specs.declared.types.GapFound.{GapFound}
use Rattle.product_decoder.specs.ReaderModel.{Reading, gap_found, gaps_found}
use Rattle.product_decoder.specs.Takings.{opened_in}
use Rattle.product_decoder.proofs.LawLemmas.{gapless_found}
use Rattle.product_decoder.proofs.TakingLemmas.{gaps_read}
use Rattle.product_decoder.proofs.reader.Reader.gaps.Goals as goal

pub returns-clause-value : goal.returns-clause-value
returns-clause-value c =
    let told = ap (λ (taken : List Taken). map gap_found (gaps_from [] (opened_in taken))) c.as_slice.ensures
    ∙ gaps_read c.self.inside.office c.self.inside.class c.self.inside.rows c.self.inside.taken c.self.invariant
    ∙ ap (λ (r : Reading). gaps_found r.products) c.self.view_is in
    subst (λ (all : List GapFound). IfOk c.gaps_in.result (λ gaps. gaps ≡ all)) told c.gaps_in.ensures

pub returns-clause-gapless : goal.returns-clause-gapless
returns-clause-gapless c = gapless_found c.args.self.now.products
