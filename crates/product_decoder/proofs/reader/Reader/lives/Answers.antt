-- The lives of what was taken are those of the products.
use Rattle.std.proofs.Common.{◌≡◌, ◌∙◌, List, map, ap, subst}
use Rattle.std.specs.Prelude.{IfOk}
use Rattle.product_decoder.specs.Runs.{Taken}
use Rattle.product_decoder.specs.declared.types.Track.{Track}
use Rattle.product_decoder.specs.Lives.{living_in}
use Rattle.product_decoder.specs.ReaderModel.{Reading, lives_of}
use Rattle.product_decoder.specs.Takings.{rows_taken, track_in}
use Rattle.product_decoder.proofs.TakingLemmas.{lives_read}
use Rattle.product_decoder.proofs.reader.Reader.lives.Goals as goal

pub returns-clause-value : goal.returns-clause-value
returns-clause-value c =
    let told = ap (λ (taken : List Taken). map (track_in taken) (living_in (rows_taken taken))) c.as_slice.ensures
    ∙ lives_read c.self.inside.office c.self.inside.class c.self.inside.rows c.self.inside.taken c.self.invariant
    ∙ ap (λ (r : Reading). lives_of r.products) c.self.view_is in
    subst (λ (all : List Track). IfOk c.tracks_in.result (λ tracks. tracks ≡ all)) told c.tracks_in.ensures.value
