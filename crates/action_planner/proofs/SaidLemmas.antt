-- A text says the lines of its segments: these are the product's, in another order.
use Rattle.std.proofs.Common.{◌≡◌, ℕ, List, [], ◌∷◌, false, sym, subst}
use Rattle.std.proofs.lemmas.Bool.{false_from_ne_true}
use Rattle.std.specs.List.{AllPairs}
use Rattle.std.specs.List.Sorted.{IsStrictlySortedBy}
use Rattle.hazard_types.specs.Orders.{by_event}
use Rattle.hazard_types.specs.declared.hazard.Event.{Event}
use Rattle.hazard_types.specs.declared.line.Line.{Line}
use Rattle.hazard_types.specs.declared.line.Row.{Row}
use Rattle.hazard_types.specs.declared.line.Segment.{Segment}
use Rattle.hazard_types.proofs.OrderLaws.{by_event_total}
use Rattle.event_life.specs.Openings.{events_opened_by}
use Rattle.event_life.specs.Products.{by_key, rows_after, concerns}
use Rattle.event_life.specs.Reordered.{are_lawful, AreApart, TouchAlike}
use Rattle.event_life.proofs.FreeOrder.{are_lawful-alike, rows_after-alike}
use Rattle.event_life.proofs.OnceLemmas.{events_opened_by-up}
use Rattle.event_life.proofs.Puts.{concerns-parts}
use Rattle.segmenter.specs.Said.{lines_in_text, IsApart}
use Rattle.segmenter.specs.Segments.{AreSegments, Has as IsIn}
use Rattle.segmenter.proofs.LawLemmas.{same_list}
use Rattle.segmenter.proofs.SaidLemmas.{apart_in_text, contains_from as contains_of, contains_to, in_text}
use Rattle.action_planner.proofs.CasesWords.{has_from}
use Rattle.action_planner.proofs.LawfulLists.{EachPair, Has, all_weaker, contains_from, none_from, pairs_to}
use Rattle.action_planner.proofs.NumberLemmas.{opened_from, opened_to}

each_apart : (lines : List Line) → EachPair IsApart lines → AreApart lines
each_apart [] pairs = tt
each_apart (line ∷ lines) pairs = (
  λ own. none_from (concerns line.event line.zone) lines
      (all_weaker (IsApart line) (λ m. concerns line.event line.zone m ≡ false) (λ m apart. false_from_ne_true _ (λ h.
      let p = concerns-parts line.event line.zone m h in
      apart (sym p.1, sym p.2))) lines pairs.0),
  each_apart lines pairs.1,
)

apart_from : (lines : List Line) → AllPairs IsApart lines → AreApart lines
apart_from lines apart = each_apart lines (pairs_to IsApart lines apart)

module _ (lines : List Line) (segments : List Segment) (are : AreSegments lines segments) where
  alike : TouchAlike (lines_in_text segments) lines
  alike line own = in_text lines segments are line

  opens_in : (e : Event) → Has (events_opened_by (lines_in_text segments)) e → Has (events_opened_by lines) e
  opens_in e h =
      let w = opened_from (lines_in_text segments) e h in
      let there : Has lines w.0 = has_from lines w.0 ((in_text lines segments are w.0).0 (contains_from (lines_in_text segments) w.0 w.1)) in
      subst (λ (x : Event). Has (events_opened_by lines) x) w.3 (opened_to lines w.0 there w.2)

  opens_back : (e : Event) → Has (events_opened_by lines) e → Has (events_opened_by (lines_in_text segments)) e
  opens_back e h =
      let w = opened_from lines e h in
      let there : Has (lines_in_text segments) w.0 = has_from (lines_in_text segments) w.0 ((in_text lines segments are w.0).1 (contains_from lines w.0 w.1)) in
      subst (λ (x : Event). Has (events_opened_by (lines_in_text segments)) x) w.3 (opened_to (lines_in_text segments) w.0 there w.2)

  is_in : (events : List Event) (e : Event) → Has events e → IsIn events e
  is_in events e h = contains_to events e (contains_from events e h)

  has_in : (events : List Event) (e : Event) → IsIn events e → Has events e
  has_in events e h = has_from events e (contains_of events e h)

  opened_alike : events_opened_by (lines_in_text segments) ≡ events_opened_by lines
  opened_alike =
      same_list by_event by_event_total (events_opened_by (lines_in_text segments)) (events_opened_by lines) (events_opened_by-up (lines_in_text segments)) (events_opened_by-up lines)
      (λ e h. is_in (events_opened_by lines) e (opens_in e (has_in (events_opened_by (lines_in_text segments)) e h)))
      (λ e h. is_in (events_opened_by (lines_in_text segments)) e (opens_back e (has_in (events_opened_by lines) e h)))

pub text_opened : (lines : List Line) (segments : List Segment) → AreSegments lines segments → events_opened_by (lines_in_text segments) ≡ events_opened_by lines
text_opened lines segments are = opened_alike lines segments are

pub text_lawful : (rows : List Row) (t : ℕ) (lines : List Line) (segments : List Segment) → IsStrictlySortedBy by_key rows → AreSegments lines segments → AllPairs IsApart lines →
    are_lawful rows t (lines_in_text segments) ≡ are_lawful rows t lines
text_lawful rows t lines segments up are apart =
    are_lawful-alike rows t up (lines_in_text segments) lines (apart_from (lines_in_text segments) (apart_in_text lines segments are apart)) (apart_from lines apart) (alike lines segments are)

pub text_rows : (rows : List Row) (t : ℕ) (lines : List Line) (segments : List Segment) → IsStrictlySortedBy by_key rows → AreSegments lines segments → AllPairs IsApart lines →
    rows_after rows t (lines_in_text segments) ≡ rows_after rows t lines
text_rows rows t lines segments up are apart =
    rows_after-alike rows t up (lines_in_text segments) lines (apart_from (lines_in_text segments) (apart_in_text lines segments are apart)) (alike lines segments are)
