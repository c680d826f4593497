-- The lives of what was taken are those of the products.
use Rattle.std.proofs.Common.{◌≡◌, ◌∙◌, List, map, ap, subst}
use Rattle.std.specs.Prelude.{IfOk}
use Rattle.std.specs.List.{flat_map}
use Rattle.product_decoder.specs.Runs.{Taken}
use Rattle.product_decoder.specs.declared.types.Track.{Track}
use Rattle.product_decoder.specs.Lives.{living_in}
use Rattle.product_decoder.specs.ReaderModel.{Reading, lives_of}
use Rattle.product_decoder.specs.Takings.{rows_taken, track_in}
use Rattle.product_decoder.proofs.TakingLemmas.{lives_read}
use Rattle.product_decoder.proofs.reader.Reader.lives_by_event.Goals as goal

pub returns : goal.returns
returns c =
    let told = ap (λ (taken : List Taken). map (track_in taken) (living_in (rows_taken taken))) c.as_slice.ensures
    ∙ lives_read c.self.inside.office c.self.inside.class c.self.inside.rows c.self.inside.taken c.self.invariant
    ∙ ap (λ (r : Reading). lives_of r.products) c.self.view_is in
    record { value = subst (λ (all : List Track). IfOk c.events_in.result (λ events. flat_map (λ e. e) events ≡ all)) told c.events_in.ensures.value }
