-- A follower's texts, rows and board are those of its office after a front of the history.
use Rattle.std.proofs.Common.{◌≡◌, ◌∙◌, ◌≤◌, ◌++◌, ℕ, List, [], ◌∷◌, Bool, Option, refl, sym, ap, arith, length, take, drop, append_assoc, Result, Ok, Err}
use Rattle.std.proofs.lemmas.List.{length-map, length-take, take-append-drop}
use Rattle.hazard_types.specs.declared.codes.Class.{Class}
use Rattle.office_types.specs.declared.request.Edition.TheVariants.{One}
use Rattle.office_types.specs.declared.request.Entry.{Entry}
use Rattle.office_types.specs.declared.request.Sent.{Sent}
use Rattle.desk_settings.specs.declared.settings.Settings.{Settings}
use Rattle.event_life.specs.Products.{rows_of}
use Rattle.event_life.specs.Shown.{shown_at}
use Rattle.product_decoder.specs.Decoded.{decode}
use Rattle.product_decoder.specs.declared.types.Decoded.{Decoded}
use Rattle.product_frame.specs.declared.frame.FrameFault.{FrameFault}
use Rattle.office_core.specs.Agreement.{product_in, products_in, products_read, texts_of}
use Rattle.office_core.specs.Histories.{Entered, IsLegal, LeadFrom}
use Rattle.office_core.specs.State.{State, first_state, in_edition}
use Rattle.office_core.specs.Step.{state_after}
use Rattle.office_core.specs.declared.made.Made.{Made}
use Rattle.follow_core.specs.Hearing as follower
use Rattle.follow_core.specs.Schedule.{Event, World, begun, run}
use Rattle.follow_core.proofs.Scheduled.{nothing_lost}
use Rattle.follower_history.specs.Fronts.{AreFirstTexts, MayBegin, ShowsTheBoard}
use Rattle.follower_history.proofs.Cut.{at_front}
use Rattle.follower_history.proofs.Legal.{legal_reads}

-- ---- what the follower finds in texts is what a reader of the office's texts finds

one_product : (office : List ℕ) (class : Class) (r : Result Decoded FrameFault) → follower.found_in office class r ≡ product_in office class r
one_product office class (Ok d) = refl
one_product office class (Err f) = refl

same_products : (office : List ℕ) (class : Class) (texts : List (List ℕ)) → follower.products_in office class texts ≡ products_in office class texts
same_products office class [] = refl
same_products office class (text ∷ texts) = λ i. one_product office class (decode text) i ++ same_products office class texts i

-- ---- an office keeps its settings and its class

kept : (s : State) (e : Entry) (made : Option Made) → ((state_after s e made).settings ≡ s.settings) × ((state_after s e made).class ≡ s.class)
unfolding state_after
kept s e made = (refl, refl)

kept_along : (fits : List Entered → Entered → Bool) (earlier history : List Entered) (s after : State) → LeadFrom fits earlier s history after → (after.settings ≡ s.settings) × (after.class ≡ s.class)
kept_along fits earlier [] s after led = (ap (λ (z : State). z.settings) led, ap (λ (z : State). z.class) led)
kept_along fits earlier (x ∷ history) s after led =
    let rest = kept_along fits (earlier ++ x ∷ []) history led.0 after led.2 in
    let one = kept (in_edition x.entry.edition s) x.entry x.made in
    (rest.0 ∙ ap (λ (z : State). z.settings) led.1.after ∙ one.0, rest.1 ∙ ap (λ (z : State). z.class) led.1.after ∙ one.1)

-- ---- the law

module _ (fits : List Entered → Entered → Bool) (settings : Settings) (class : Class) (history : List Entered) (s : State) (may : MayBegin settings class) (legal : IsLegal fits settings class history s) where
  shown_by : (w : World) → w.taken ≡ take (follower.place_of w.follower) w.texts → follower.place_of w.follower ≤ length w.texts
      → w.follower.products ≡ follower.products_in settings.office class w.taken → AreFirstTexts s w.texts → ShowsTheBoard fits settings class history w
  shown_by w first within products served =
      let n = follower.place_of w.follower in
      let rest = drop n w.texts ++ served.0 in
      let whole : texts_of s ≡ w.taken ++ rest =
      served.1 ∙ ap (λ (ts : List (List ℕ)). ts ++ served.0) (sym (take-append-drop n w.texts)) ∙ append_assoc (take n w.texts) (drop n w.texts) served.0
      ∙ ap (λ (ts : List (List ℕ)). ts ++ rest) (sym first) in
      let end = at_front fits settings class history s w.taken legal (rest, whole) in
      let same = kept_along fits [] end.front (first_state settings class One) end.state end.legal in
      let read : w.follower.products ≡ products_read end.state =
      products ∙ same_products settings.office class w.taken
      ∙ (λ i. products_in (sym same.0 i).office (sym same.1 i) (sym end.texts i)) in
      let rows : rows_of w.follower.products ≡ end.state.rows = ap rows_of read ∙ (legal_reads fits settings class end.front end.state may end.legal).rows in
      let counted : length w.taken ≡ n = ap length first ∙ length-take n w.texts ∙ omega (arith, within) in
      record {
        at = end;
        place = sym counted ∙ ap length (sym end.texts) ∙ length-map end.state.products (λ (x : Sent). x.text);
        rows = rows;
        shown = λ t. ap (shown_at t) rows;
      }

pub shows : (fits : List Entered → Entered → Bool) (settings : Settings) (class : Class) (history : List Entered) (s : State) (events : List Event) → MayBegin settings class
    → IsLegal fits settings class history s → AreFirstTexts s (run events (begun settings.office class)).texts
    → ShowsTheBoard fits settings class history (run events (begun settings.office class))
shows fits settings class history s events may legal served =
    let w = run events (begun settings.office class) in
    let lost = nothing_lost settings.office class events in
    shown_by fits settings class history s may legal w lost.first lost.within lost.products served
