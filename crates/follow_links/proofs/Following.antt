-- A whole run.
use Rattle.std.proofs.Common.{◌≡◌, ◌∙◌, ℕ, List, [], ap, arith, subst}
use Rattle.byte_streams.specs.Flows.{Outflow}
use Rattle.desk_links.specs.Links.{DialerState}
use Rattle.hazard_types.specs.declared.codes.Class.{Class}
use Rattle.hazard_types.specs.declared.line.Row.{Row}
use Rattle.event_life.specs.Products.{Product, rows_of}
use Rattle.event_life.specs.Shown.{shown_at}
use Rattle.product_decoder.specs.ReaderModel.{Reading}
use Rattle.follow_core.specs.Hearing.{place_of}
use Rattle.follow_links.specs.Rounds.{Courses, EndsAs, texts_in}
use Rattle.follow_links.specs.Runs.{IsToldAt, IsFollowed, first_of, rows_shown}
use Rattle.follow_links.specs.declared.rounds.Stop.{Stop}
use Rattle.follow_links.specs.declared.words.Asked.{Asked}
use Rattle.follow_links.proofs.Placing.{after_products}
use Rattle.follow_links.proofs.Turning.{spends}

pub first_is : (f : Reading) (asked : Asked) → f.office ≡ asked.office → f.class ≡ asked.class → f.products ≡ [] → f ≡ first_of asked
first_is f asked o c p =
    ap (λ (office : List ℕ). record { office = office; class = f.class; products = f.products }) o
    ∙ (ap (λ (class : Class). record { office = asked.office; class = class; products = f.products }) c
    ∙ ap (λ (products : List Product). record { office = asked.office; class = asked.class; products = products }) p)

pub followed : (asked : Asked) (first last : DialerState) (before after : Outflow) (status : ℕ) (f new : Reading) (stop : Stop)
    → f ≡ first_of asked → Courses first last f new asked.rounds stop
    → IsToldAt stop (place_of new) asked.minute (shown_at asked.minute (rows_of new.products)) before after status
    → IsFollowed asked first last before after status
followed asked first last before after status f new stop is course h =
    let whole : Courses first last (first_of asked) new asked.rounds stop =
    subst (λ (g : Reading). Courses first last g new asked.rounds stop) is course in
    let texts = texts_in whole.turns in
    let rows : shown_at asked.minute (rows_of new.products) ≡ rows_shown asked texts =
    ap (λ (ps : List Product). shown_at asked.minute (rows_of ps)) (ap (λ (r : Reading). r.products) whole.follower ∙ after_products (first_of asked) texts) in
    record {
      stop = stop;
      follower = new;
      course = whole;
      ends = subst (λ (n : ℕ). IsToldAt stop n asked.minute (rows_shown asked texts) before after status) (omega (arith, whole.place))
          (subst (λ (rs : List Row). IsToldAt stop (place_of new) asked.minute rs before after status) rows h);
      spent = λ s. omega (arith, whole.spent s, spends whole.turns (subst (EndsAs whole.turns) s whole.ends));
    }
