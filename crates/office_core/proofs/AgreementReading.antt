-- A product is read off its text as its plan has it: without a breach, with the rows after its lines, and with the events that these open.
use Rattle.std.proofs.Common.{◌≡◌, ◌∙◌, ℕ, List, [], ◌∷◌, ◌++◌, Bool, true, false, inl, inr, Option, Some, None, refl, sym, ap, cond, map}
use Rattle.std.proofs.lemmas.Bool.{and_parts, cases_Bool}
use Rattle.std.specs.List.{AllByRecursion, AllPairs, list_all}
use Rattle.std.specs.List.Sorted.{IsStrictlySortedBy}
use Rattle.std.specs.Option.{is_none}
use Rattle.hazard_types.specs.Days.{year_of}
use Rattle.hazard_types.specs.Places.{Place}
use Rattle.hazard_types.specs.declared.codes.Action.{Action}
use Rattle.hazard_types.specs.declared.codes.Action.TheVariants.{Rou}
use Rattle.hazard_types.specs.declared.codes.Class.{Class}
use Rattle.hazard_types.specs.declared.hazard.Event.{Event}
use Rattle.hazard_types.specs.declared.line.Line.{Line}
use Rattle.hazard_types.specs.declared.line.Row.{Row}
use Rattle.hazard_types.specs.declared.line.Segment.{Segment}
use Rattle.hazard_types.specs.declared.period.End.{End}
use Rattle.hazard_types.specs.declared.period.End.TheVariants.{At, Ufn}
use Rattle.event_life.specs.declared.life.Breach.{Breach}
use Rattle.event_life.specs.declared.life.Breach.TheVariants.{Twice}
use Rattle.event_life.specs.Firsts.{is_lawful}
use Rattle.event_life.specs.Lives.{AreLawful, judged_product}
use Rattle.event_life.specs.Openings.{events_opened_by}
use Rattle.event_life.specs.Printed.{HasOneOpen, printed_end, zone_line_of}
use Rattle.event_life.specs.Products.{Product, around_of, breach_in, by_key, end_of, event_of_issue, latest_open_event, is_new, is_routine, is_second, judged, judged_from, lawful_of, life_at, line_of, lines_of, rows_after, rows_with}
use Rattle.event_life.specs.Reordered.{are_lawful}
use Rattle.event_life.specs.Table.{breach_of_line}
use Rattle.event_life.proofs.OpenedLemmas.{opened_lawful}
use Rattle.event_life.proofs.PrintedLemmas.{line_of-printed}
use Rattle.hazard_board.specs.Consistent.{AreOfTheYear}
use Rattle.segmenter.specs.Said.{lines_in_text, IsApart}
use Rattle.segmenter.specs.Segments.{AreSegments}
use Rattle.segmenter.proofs.SaidLemmas.{in_text}
use Rattle.action_planner.proofs.CasesWords.{has_from}
use Rattle.action_planner.proofs.LawfulLists.{Has, all_has, contains_from, every}
use Rattle.action_planner.proofs.SaidLemmas.{text_lawful, text_opened, text_rows}
use Rattle.office_core.proofs.AgreementDecoding.{saying}
use Rattle.office_core.proofs.AgreementRoutine.{HasNumber, HasZeroOf, IsZeroOf, none_going}

-- the lines of a product without a breach

lawful_by : (routine second : Bool) (o : Option Breach) → is_none (cond routine None (cond second (Some Twice) o)) ≡ true → routine ≡ false → is_none o ≡ true
lawful_by true second o h e = cc
lawful_by false true o h e = cc
lawful_by false false o h e = h

abbrev IsLawfulIn : List Row → ℕ → List Line → Line → Type 0
IsLawfulIn rows t all line = is_routine line.action ≡ false → is_lawful rows t all line ≡ true

lawful_line : (rows : List Row) (t : ℕ) (all earlier : List Line) (line : Line) → is_none (breach_in rows t all earlier line) ≡ true → IsLawfulIn rows t all line
unfolding breach_in
lawful_line rows t all earlier line h = lawful_by (is_routine line.action) (is_second earlier line) (breach_of_line (life_at rows line) line t (around_of rows t all line)) h

lawful_lines : (rows : List Row) (t : ℕ) (all earlier lines : List Line) → list_all (λ (l : Line × Option Breach). is_none l.1) (judged_from rows t all earlier lines) ≡ true → AllByRecursion (IsLawfulIn rows t all) lines
lawful_lines rows t all earlier [] h = tt
lawful_lines rows t all earlier (line ∷ lines) h =
    let p = and_parts (is_none (breach_in rows t all earlier line)) _ h in
    (lawful_line rows t all earlier line p.0, lawful_lines rows t all (earlier ++ line ∷ []) lines p.1)

-- each is read back

end_again : (end : End) → end_of (printed_end end) ≡ end
end_again (At m) = refl
end_again Ufn = refl

module _ (rows : List Row) (t : ℕ) (office : List ℕ) (class : Class) where
  abbrev Reads : Line → Type 0
  Reads line = line_of rows t (zone_line_of class office line) ≡ line

  routine_event : (line : Line) (zero : IsZeroOf t line.event) → event_of_issue t (zone_line_of class office line).vtec ≡ line.event
  routine_event line zero = λ i. record { hazard = line.event.hazard; etn = line.event.etn; year = sym zero.1 i }

  routine_reads : (line : Line) → AllByRecursion HasNumber rows → (action : Action) → line.action ≡ action → is_routine action ≡ true → IsZeroOf t line.event → Reads line
  routine_reads line numbers Rou e h zero =
      let none : latest_open_event rows line.event.hazard line.event.etn t ≡ None = rw zero.0 (none_going rows line.event.hazard t numbers) in
      let event = routine_event line zero in
      let end = end_again line.end in
      rw (e, none) (λ i. record { action = Rou; event = event i; zone = line.zone; begin = line.begin; end = end i; flood = line.flood })
  routine_reads line numbers _ e h zero = cc

  module _ (lines : List Line) (lawful : are_lawful rows t lines ≡ true) (one : HasOneOpen rows t) (numbers : AllByRecursion HasNumber rows)
      (years : AreOfTheYear lines t) (zeros : AllByRecursion (HasZeroOf t) lines) where
    reads : (line : Line) → Has lines line → Reads line
    reads line h = elim (cases_Bool (is_routine line.action)) [
      | inl routine ↦ routine_reads line numbers line.action refl routine (all_has (HasZeroOf t) lines line zeros h routine)
      | inr other ↦ line_of-printed rows t lines class office line other (all_has (IsLawfulIn rows t lines) lines line (lawful_lines rows t lines [] lines lawful) h other) one
          (all_has (λ (l : Line). is_new l.action ≡ true → l.event.year ≡ year_of t) lines line years h)
    ]

    text_reads : (segments : List Segment) → AreSegments lines segments → AllByRecursion Reads (lines_in_text segments)
    text_reads segments are = every Reads (lines_in_text segments) (λ line h.
        reads line (has_from lines line ((in_text lines segments are line).0 (contains_from (lines_in_text segments) line h))))

  lines_read : (lines : List Line) → AllByRecursion Reads lines → lines_of rows t (map (zone_line_of class office) lines) ≡ lines
  lines_read [] all = refl
  lines_read (line ∷ lines) all =
      let rest = lines_read lines all.1 in
      λ i. all.0 i ∷ rest i

-- what a reader with these rows finds in a product of these lines
pub record IsReadAs (rows : List Row) (lines : List Line) (t : ℕ) (p : Product) : Type 0 where
  pub lawful : list_all (λ (l : Line × Option Breach). is_none l.1) (judged_product rows p) ≡ true
  pub rows_are : rows_with rows p ≡ rows_after rows t lines
  pub opened : events_opened_by (lawful_of (judged_product rows p)) ≡ events_opened_by lines

pub product_reads : (rows : List Row) (t : ℕ) (office : List ℕ) (class : Class) (lines : List Line) (segments : List Segment) →
    IsStrictlySortedBy by_key rows → HasOneOpen rows t → AllByRecursion HasNumber rows → are_lawful rows t lines ≡ true → AllPairs IsApart lines →
    AreOfTheYear lines t → AllByRecursion (HasZeroOf t) lines → AreSegments lines segments →
    IsReadAs rows lines t (saying office class t (lines_in_text segments))
product_reads rows t office class lines segments up one numbers lawful apart years zeros are =
    let said = lines_in_text segments in
    let back : lines_of rows t (map (zone_line_of class office) said) ≡ said = lines_read rows t office class said (text_reads rows t office class lines lawful one numbers years zeros segments are) in
    let none : are_lawful rows t said ≡ true = text_lawful rows t lines segments up are apart ∙ lawful in
    record {
      lawful = ap (are_lawful rows t) back ∙ none;
      rows_are = ap (rows_after rows t) back ∙ text_rows rows t lines segments up are apart;
      opened = ap (λ (ls : List Line). events_opened_by (lawful_of (judged rows t ls))) back ∙ opened_lawful rows t said none ∙ text_opened lines segments are;
    }

-- a product without a breach has lawful lines of each event in each zone
pub each_lawful : (e : Event) (z : Place) (ls : List (Line × Option Breach)) → list_all (λ (l : Line × Option Breach). is_none l.1) ls ≡ true → AreLawful e z ls
each_lawful e z [] h = tt
each_lawful e z (l ∷ ls) h =
    let p = and_parts (is_none l.1) _ h in
    ((λ speaks. none_is l.1 p.0), each_lawful e z ls p.1)
  where
    none_is : (o : Option Breach) → is_none o ≡ true → o ≡ None
    none_is None h = refl
    none_is (Some breach) h = cc
