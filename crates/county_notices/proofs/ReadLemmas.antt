-- A notice is read off its text: without a breach, with the rows that its command leaves, and with the event that it opens.
use Rattle.std.proofs.Common.{◌≡◌, ◌∙◌, ℕ, List, [], ◌∷◌, ◌++◌, Bool, true, false, Option, Some, None, Ok, refl, sym, ap, cond, map}
use Rattle.std.specs.List.{AllByRecursion, AllPairs, list_all, flat_map}
use Rattle.std.specs.List.Sorted.{IsStrictlySortedBy}
use Rattle.std.specs.Option.{is_none}
use Rattle.std.specs.Str.{bytes_eq}
use Rattle.std.proofs.lemmas.Bool.{and_from, and_parts}
use Rattle.std.proofs.lemmas.Slice.Eq.{bytes_eq-Decides}
use Rattle.hazard_types.specs.Days.{year_of}
use Rattle.hazard_types.specs.Places.{Place}
use Rattle.hazard_types.specs.ZoneLines.{ZoneLine}
use Rattle.hazard_types.specs.declared.codes.Class.TheVariants.{O}
use Rattle.hazard_types.specs.declared.hazard.Event.{Event}
use Rattle.hazard_types.specs.declared.line.Line.{Line}
use Rattle.hazard_types.specs.declared.line.Row.{Row}
use Rattle.hazard_types.specs.declared.line.SegLine.{SegLine}
use Rattle.hazard_types.specs.declared.line.Segment.{Segment}
use Rattle.hazard_types.proofs.Equality.{class_itself}
use Rattle.event_life.specs.declared.life.Breach.{Breach}
use Rattle.event_life.specs.declared.life.Breach.TheVariants.{Twice}
use Rattle.event_life.specs.Firsts.{is_lawful}
use Rattle.event_life.specs.Lives.{AreLawful, judged_product}
use Rattle.event_life.specs.Openings.{events_opened_by}
use Rattle.event_life.specs.Printed.{HasOneOpen, zone_line_of}
use Rattle.event_life.specs.Products.{Product, around_of, breach_in, by_key, is_new, is_routine, is_second, judged, judged_from, lawful_of, life_at, line_of, lines_of, rows_after, rows_with}
use Rattle.event_life.specs.Reordered.{are_lawful}
use Rattle.event_life.specs.Table.{breach_of_line}
use Rattle.event_life.proofs.OpenedLemmas.{opened_lawful}
use Rattle.event_life.proofs.PrintedLemmas.{line_of-printed}
use Rattle.hazard_board.specs.Consistent.{AreOfTheYear}
use Rattle.product_decoder.specs.Decoded.{decode, decoded_of, pair_of as pair_said}
use Rattle.product_decoder.specs.ReaderModel.{is_by, said_by}
use Rattle.product_frame.specs.Frame.{FrameOf}
use Rattle.product_frame.specs.ZoneLinesOf.{lines_of_zone, lines_of_zones, lines_of_segments, zone_lines_of}
use Rattle.product_frame.proofs.Whole.{frame_read}
use Rattle.segmenter.specs.Said.{IsApart, line_in, lines_in_segment, lines_in_text, lines_in_zone}
use Rattle.segmenter.specs.Segments.{AreSegments}
use Rattle.segmenter.proofs.SaidLemmas.{in_text}
use Rattle.action_planner.proofs.CasesWords.{has_from}
use Rattle.action_planner.proofs.LawfulLists.{Has, all_has, contains_from, every}
use Rattle.action_planner.proofs.SaidLemmas.{text_lawful, text_opened, text_rows}
use Rattle.county_notices.specs.Notices.{frame_of, pair_of, segment_of}
use Rattle.county_notices.specs.Reading.{product_in}
use Rattle.county_notices.specs.declared.issuer.Issuer.{Issuer}

-- ---- the lines of a frame are those of the segments

map_both : {X Y : Type 0} (f : X → Y) (xs ys : List X) → map f (xs ++ ys) ≡ map f xs ++ map f ys
map_both f [] ys = refl
map_both f (x ∷ xs) ys = ap (λ (zs : List _). f x ∷ zs) (map_both f xs ys)

module _ (office : List ℕ) where
  abbrev said : Line → ZoneLine
  said = zone_line_of O office

  zone_said : (z : Place) (lines : List SegLine) → lines_of_zone z (map (pair_of office) lines) ≡ map said (lines_in_zone lines z)
  zone_said z [] = refl
  zone_said z (l ∷ lines) = ap (λ (xs : List ZoneLine). said (line_in z l) ∷ xs) (zone_said z lines)

  zones_said : (zones : List Place) (lines : List SegLine) → lines_of_zones zones (map (pair_of office) lines) ≡ map said (flat_map (lines_in_zone lines) zones)
  zones_said [] lines = refl
  zones_said (z ∷ zones) lines =
      ap (λ (xs : List ZoneLine). xs ++ lines_of_zones zones (map (pair_of office) lines)) (zone_said z lines)
      ∙ ap (λ (xs : List ZoneLine). map said (lines_in_zone lines z) ++ xs) (zones_said zones lines)
      ∙ sym (map_both said (lines_in_zone lines z) (flat_map (lines_in_zone lines) zones))

  segments_said : (t : ℕ) (segments : List Segment) → lines_of_segments (map (segment_of office t) segments) ≡ map said (lines_in_text segments)
  segments_said t [] = refl
  segments_said t (s ∷ segments) =
      ap (λ (xs : List ZoneLine). xs ++ lines_of_segments (map (segment_of office t) segments)) (zones_said s.zones s.lines)
      ∙ ap (λ (xs : List ZoneLine). map said (lines_in_segment s) ++ xs) (segments_said t segments)
      ∙ sym (map_both said (lines_in_segment s) (lines_in_text segments))

  own_line : (line : Line) → is_by office O (pair_said (said line)) ≡ true
  own_line line = and_from (bytes_eq office office) _ ((bytes_eq-Decides office office).1 refl) (class_itself O)

  all_said : (lines : List Line) → said_by office O (map pair_said (map said lines)) ≡ map said lines
  all_said [] = refl
  all_said (line ∷ lines) = rw (own_line line) (ap (λ (xs : List ZoneLine). said line ∷ xs) (all_said lines))

lines_said : (by : Issuer) (t : ℕ) (segments : List Segment) → zone_lines_of (frame_of by t segments) ≡ map (zone_line_of O by.office) (lines_in_text segments)
unfolding zone_lines_of
lines_said by t segments = segments_said by.office t segments

-- the product that says these lines
abbrev pub saying : List ℕ → ℕ → List Line → Product
saying office t lines = record { issue = t; said = map (zone_line_of O office) lines }

pub text_decodes : (text : List ℕ) (by : Issuer) (t : ℕ) (segments : List Segment) → FrameOf text (frame_of by t segments) → decode text ≡ Ok (decoded_of (frame_of by t segments))
text_decodes text by t segments is = rw (frame_read text (frame_of by t segments) is) refl

pub text_says : (text : List ℕ) (by : Issuer) (t : ℕ) (segments : List Segment) → FrameOf text (frame_of by t segments) →
    product_in by.office (decode text) ≡ saying by.office t (lines_in_text segments) ∷ []
text_says text by t segments is =
    let own = ap (λ (lines : List ZoneLine). said_by by.office O (map pair_said lines)) (lines_said by t segments) ∙ all_said by.office (lines_in_text segments) in
    rw (text_decodes text by t segments is) (λ i. record { issue = t; said = own i } ∷ [])

-- ---- the lines are read back

lawful_by : (routine second : Bool) (o : Option Breach) → is_none (cond routine None (cond second (Some Twice) o)) ≡ true → routine ≡ false → is_none o ≡ true
lawful_by true second o h e = cc
lawful_by false true o h e = cc
lawful_by false false o h e = h

abbrev IsLawfulIn : List Row → ℕ → List Line → Line → Type 0
IsLawfulIn rows t all line = is_routine line.action ≡ false → is_lawful rows t all line ≡ true

lawful_line : (rows : List Row) (t : ℕ) (all earlier : List Line) (line : Line) → is_none (breach_in rows t all earlier line) ≡ true → IsLawfulIn rows t all line
unfolding breach_in
lawful_line rows t all earlier line h = lawful_by (is_routine line.action) (is_second earlier line) (breach_of_line (life_at rows line) line t (around_of rows t all line)) h

lawful_lines : (rows : List Row) (t : ℕ) (all earlier lines : List Line) → list_all (λ (l : Line × Option Breach). is_none l.1) (judged_from rows t all earlier lines) ≡ true → AllByRecursion (IsLawfulIn rows t all) lines
lawful_lines rows t all earlier [] h = tt
lawful_lines rows t all earlier (line ∷ lines) h =
    let p = and_parts (is_none (breach_in rows t all earlier line)) _ h in
    (lawful_line rows t all earlier line p.0, lawful_lines rows t all (earlier ++ line ∷ []) lines p.1)

module _ (rows : List Row) (t : ℕ) (office : List ℕ) where
  abbrev Reads : Line → Type 0
  Reads line = line_of rows t (zone_line_of O office line) ≡ line

  module _ (lines : List Line) (lawful : are_lawful rows t lines ≡ true) (one : HasOneOpen rows t) (years : AreOfTheYear lines t) (plain : AllByRecursion (λ (line : Line). is_routine line.action ≡ false) lines) where
    reads : (line : Line) → Has lines line → Reads line
    reads line h = line_of-printed rows t lines O office line (all_has (λ (l : Line). is_routine l.action ≡ false) lines line plain h)
        (all_has (IsLawfulIn rows t lines) lines line (lawful_lines rows t lines [] lines lawful) h (all_has (λ (l : Line). is_routine l.action ≡ false) lines line plain h)) one
        (all_has (λ (l : Line). is_new l.action ≡ true → l.event.year ≡ year_of t) lines line years h)

    text_reads : (segments : List Segment) → AreSegments lines segments → AllByRecursion Reads (lines_in_text segments)
    text_reads segments are = every Reads (lines_in_text segments) (λ line h.
        reads line (has_from lines line ((in_text lines segments are line).0 (contains_from (lines_in_text segments) line h))))

  lines_read : (lines : List Line) → AllByRecursion Reads lines → lines_of rows t (map (zone_line_of O office) lines) ≡ lines
  lines_read [] all = refl
  lines_read (line ∷ lines) all =
      let rest = lines_read lines all.1 in
      λ i. all.0 i ∷ rest i

-- what a reader with these rows finds in a product of these lines
pub record IsReadAs (rows : List Row) (lines : List Line) (t : ℕ) (p : Product) : Type 0 where
  pub lawful : list_all (λ (l : Line × Option Breach). is_none l.1) (judged_product rows p) ≡ true
  pub rows_are : rows_with rows p ≡ rows_after rows t lines
  pub opened : events_opened_by (lawful_of (judged_product rows p)) ≡ events_opened_by lines

pub product_reads : (rows : List Row) (t : ℕ) (office : List ℕ) (lines : List Line) (segments : List Segment) →
    IsStrictlySortedBy by_key rows → HasOneOpen rows t → are_lawful rows t lines ≡ true → AllPairs IsApart lines →
    AreOfTheYear lines t → AllByRecursion (λ (line : Line). is_routine line.action ≡ false) lines → AreSegments lines segments →
    IsReadAs rows lines t (saying office t (lines_in_text segments))
product_reads rows t office lines segments up one lawful apart years plain are =
    let said = lines_in_text segments in
    let back : lines_of rows t (map (zone_line_of O office) said) ≡ said = lines_read rows t office said (text_reads rows t office lines lawful one years plain segments are) in
    let none : are_lawful rows t said ≡ true = text_lawful rows t lines segments up are apart ∙ lawful in
    record {
      lawful = ap (are_lawful rows t) back ∙ none;
      rows_are = ap (rows_after rows t) back ∙ text_rows rows t lines segments up are apart;
      opened = ap (λ (ls : List Line). events_opened_by (lawful_of (judged rows t ls))) back ∙ opened_lawful rows t said none ∙ text_opened lines segments are;
    }

-- a product without a breach has lawful lines of each event in each zone
none_is : (o : Option Breach) → is_none o ≡ true → o ≡ None
none_is None h = refl
none_is (Some breach) h = cc

pub each_lawful : (e : Event) (z : Place) (ls : List (Line × Option Breach)) → list_all (λ (l : Line × Option Breach). is_none l.1) ls ≡ true → AreLawful e z ls
each_lawful e z [] h = tt
each_lawful e z (l ∷ ls) h =
    let p = and_parts (is_none l.1) _ h in
    ((λ speaks. none_is l.1 p.0), each_lawful e z ls p.1)
