-- Codes of values in the range of their types read back.
use Rattle.std.proofs.Common.{◌≡◌, ◌&&◌, ◌==◌, ℕ, List, [], ◌∷◌, Bool, true, false, Option, Some, None, IfSome, IsSome, IsTrue, inl, inr, refl, sym, subst, cond, length, map}
use Rattle.std.specs.Prelude.{◌≢◌}
use Rattle.std.specs.List.{All, AllByRecursion, list_all}
use Rattle.std.proofs.lemmas.Bool.{and_parts, cases_Bool, eqb-true}
use Rattle.std.proofs.lemmas.List.Elements.{All-from_recursion, recursion_from_All}
use Rattle.hazard_types.specs.Characters.{is_office}
use Rattle.hazard_types.specs.Codes.{value_for_code}
use Rattle.hazard_types.specs.Hazards.{DeskHazard, value_of, desk_hazards, fact_rows, facts_of}
use Rattle.hazard_types.specs.Places.{Place, IsPlace, are_letters}
use Rattle.hazard_types.specs.Same.{same_hazard}
use Rattle.hazard_types.specs.Tables.{cause_rows}
use Rattle.hazard_types.specs.Calendar.{stamp_at, stamp_of}
use Rattle.hazard_types.specs.Times.{IsTime, time_text}
use Rattle.hazard_types.specs.declared.codes.Class.{Class}
use Rattle.hazard_types.specs.declared.codes.Coded.{Coded}
use Rattle.hazard_types.specs.declared.hazard.Hazard.{Hazard}
use Rattle.hazard_types.specs.declared.line.Flood.{Flood}
use Rattle.hazard_types.specs.declared.line.Line.{Line}
use Rattle.hazard_types.specs.declared.line.SegLine.{SegLine}
use Rattle.hazard_types.specs.declared.line.Segment.{Segment}
use Rattle.hazard_types.specs.declared.period.End.{End}
use Rattle.hazard_types.specs.declared.period.End.TheVariants.{At, Ufn}
use Rattle.office_types.specs.declared.request.Edition.TheVariants.{One}
use Rattle.office_types.specs.declared.request.Plan.{Plan}
use Rattle.hazard_types.proofs.Equality.{hazard_one}
use Rattle.hazard_types.proofs.Stamps.{spells_exactly, stamp_spells}
use Rattle.desk_settings.specs.declared.settings.Settings.{Settings}
use Rattle.event_life.specs.Printed.{printed_end}
use Rattle.hvtec_string.proofs.Laying as flood_text
use Rattle.vtec_string.proofs.Laying as line_text
use Rattle.ugc_codes.proofs.Written.{written_back}
use Rattle.product_frame.specs.LineRules.{HasColumns, HasFloodColumns, IsSegmentWritten, ReadsBack}
use Rattle.product_template.specs.Conditions.{CanBeWritten, CanBeSegment, CanBeText}
use Rattle.product_template.specs.Text.{pair_of, segment_of}
use Rattle.product_template.proofs.Writable.{writable}
use Rattle.request_json.specs.Formed.{AreFloodValues, IsEnd, IsMinute}
use Rattle.segmenter.specs.Segments.{AreSegments, Has}
use Rattle.segmenter.proofs.HasLemmas.{all_at, all_from, has_some}
use Rattle.segmenter.proofs.LawLemmas.{said}
use Rattle.follower_history.proofs.Ranges.{IsLineInRange}

-- ---- times

stamp_is : (m : ℕ) → IsMinute m → IsTime (stamp_of m) (Some m)
stamp_is m h = (spells_exactly (stamp_of m) (stamp_at (stamp_of m)) refl m).0 (stamp_spells m h)

time_is : (o : Option ℕ) → IfSome o IsMinute → IsTime (time_text o) o
time_is None h = refl
time_is (Some m) h = stamp_is m h

end_is : (end : End) → IsEnd end → IfSome (printed_end end) IsMinute
end_is (At m) h = h
end_is Ufn h = tt

-- ---- two letters

abbrev are_two : List ℕ → Bool
are_two text = are_letters text && (length text == 2)

abbrev AreTwo : List ℕ → Type 0
AreTwo text = (are_letters text ≡ true) × (length text ≡ 2)

two_from : (text : List ℕ) → are_two text ≡ true → AreTwo text
two_from text h = let p = and_parts (are_letters text) (length text == 2) h in (p.0, eqb-true _ _ p.1)

cause_step : (b : Bool) (x y : List ℕ) (rest : Option (List ℕ)) → are_two x ≡ true → (rest ≡ Some y → are_two y ≡ true) → cond b (Some x) rest ≡ Some y → are_two y ≡ true
cause_step true x y rest own more h = let same : x ≡ y = cc in subst (λ (z : List ℕ). are_two z ≡ true) same own
cause_step false x y rest own more h = more h

cause_in : (rows : List (Coded (List ℕ))) (text y : List ℕ) → list_all (λ (row : Coded (List ℕ)). are_two row.value) rows ≡ true → value_for_code rows text ≡ Some y → are_two y ≡ true
cause_in [] text y all h = cc
cause_in (row ∷ rows) text y all h =
    let p = and_parts (are_two row.value) _ all in
    cause_step _ row.value y (value_for_code rows text) p.0 (cause_in rows text y p.1) h

cause_two : (text : List ℕ) → value_for_code cause_rows text ≡ Some text → AreTwo text
unfolding cause_rows
cause_two text h = two_from text (cause_in cause_rows text text refl h)

hazard_in : (rows : List DeskHazard) (h : Hazard) → list_all (λ (d : DeskHazard). are_two d.hazard.phen) rows ≡ true
    → IsSome (value_of (map (λ (d : DeskHazard). (d.hazard, d.facts)) rows) h) → are_two h.phen ≡ true
hazard_in [] h all is = cc
hazard_in (d ∷ rows) h all is =
    let p = and_parts (are_two d.hazard.phen) _ all in
    elim (cases_Bool (same_hazard d.hazard h)) [
      | inl e ↦ subst (λ (g : Hazard). are_two g.phen ≡ true) (hazard_one d.hazard h e) p.0
      | inr e ↦ hazard_in rows h p.1 (rw e at is)
    ]

hazard_two : (h : Hazard) → IsSome (facts_of h) → AreTwo h.phen
unfolding facts_of fact_rows desk_hazards
hazard_two h is = two_from h.phen (hazard_in desk_hazards h refl is)

-- ---- flood values

pub flood_columns : (o : Option Flood) → IfSome o AreFloodValues → HasFloodColumns o
flood_columns None h = tt
flood_columns (Some f) h =
    let two = cause_two f.cause h.cause in
    flood_text.columns_of f two.1 h.site two.0 (time_is f.begin h.begin) (time_is f.crest h.crest) (time_is f.end h.end)

-- ---- segments

record IsSaidInRange (l : SegLine) : Type 0 where
  begin : IfSome l.begin IsMinute
  end : IsEnd l.end
  flood : HasFloodColumns l.flood

pair_columns : (class : Class) (office : List ℕ) (l : SegLine) → IsTrue (is_office office) → CanBeWritten l → IsSaidInRange l → HasColumns (pair_of class office l)
pair_columns class office l is can own =
    let two = hazard_two l.event.hazard can.hazard in
    (line_text.columns_of (pair_of class office l).vtec two.1 is two.0 can.number (time_is l.begin own.begin) (time_is (printed_end l.end) (end_is l.end own.end)), own.flood)

pairs_columns : (class : Class) (office : List ℕ) (ls : List SegLine) → IsTrue (is_office office) → AllByRecursion CanBeWritten ls → AllByRecursion IsSaidInRange ls
    → AllByRecursion HasColumns (map (pair_of class office) ls)
pairs_columns class office [] is can own = tt
pairs_columns class office (l ∷ ls) is can own = (pair_columns class office l is can.0 own.0, pairs_columns class office ls is can.1 own.1)

segment_back : (class : Class) (office : List ℕ) (t : ℕ) (s : Segment) → IsTrue (is_office office) → CanBeSegment s → IsSegmentWritten (segment_of class office t s)
    → AllByRecursion IsPlace s.zones → AllByRecursion IsSaidInRange s.lines → ReadsBack (segment_of class office t s)
segment_back class office t s is can w places lines = (
  written_back s.zones (segment_of class office t s).expiry w.some (All-from_recursion IsPlace s.zones places) w.sorted w.expiry,
  All-from_recursion HasColumns (map (pair_of class office) s.lines) (pairs_columns class office s.lines is (recursion_from_All CanBeWritten s.lines can.lines) lines),
)

segments_back : (class : Class) (office : List ℕ) (t : ℕ) (segments : List Segment) → IsTrue (is_office office) → AllByRecursion CanBeSegment segments → AllByRecursion IsSegmentWritten (map (segment_of class office t) segments)
    → AllByRecursion (λ (s : Segment). AllByRecursion IsPlace s.zones) segments → AllByRecursion (λ (s : Segment). AllByRecursion IsSaidInRange s.lines) segments
    → AllByRecursion ReadsBack (map (segment_of class office t) segments)
segments_back class office t [] is can w places lines = tt
segments_back class office t (s ∷ segments) is can w places lines = (segment_back class office t s is can.0 w.0 places.0 lines.0, segments_back class office t segments is can.1 w.1 places.1 lines.1)

-- ---- what holds of lines holds of the segments that they are sorted into

module _ (lines : List Line) (segments : List Segment) (are : AreSegments lines segments) (own : AllByRecursion IsLineInRange lines) where
  full : (s : Segment) → Has segments s → (s.zones ≢ []) × (s.lines ≢ [])
  full s has = all_at (λ (x : Segment). (x.zones ≢ []) × (x.lines ≢ [])) segments s are.some has

  said_in : (s : Segment) → Has segments s → (l : SegLine) → Has s.lines l → IsSaidInRange l
  said_in s has l mine =
      let zone = has_some s.zones (full s has).0 in
      let w = (said lines segments are zone.0 l).0 (s, has, zone.1, mine) in
      let line = all_at IsLineInRange lines w.0 own w.1 in
      subst IsSaidInRange w.3 (record { begin = line.begin; end = line.end; flood = line.flood })

  parse_zone : (s : Segment) → Has segments s → (z : Place) → Has s.zones z → IsPlace z
  parse_zone s has z mine =
      let l = has_some s.lines (full s has).1 in
      let w = (said lines segments are z l.0).0 (s, has, mine, l.1) in
      subst IsPlace w.2 (all_at IsLineInRange lines w.0 own w.1).zone

  pub codes_back : (settings : Settings) (class : Class) (plan : Plan) (t : ℕ) → plan.segments ≡ segments → CanBeText settings class plan t → All ReadsBack (map (segment_of class settings.office t) plan.segments)
  codes_back settings class plan t same can =
      let Places : Segment → Type 0 = λ s. AllByRecursion IsPlace s.zones in
      let Said : Segment → Type 0 = λ s. AllByRecursion IsSaidInRange s.lines in
      let places : AllByRecursion Places segments = all_from Places segments (λ s has. all_from IsPlace s.zones (parse_zone s has)) in
      let lines_are : AllByRecursion Said segments = all_from Said segments (λ s has. all_from IsSaidInRange s.lines (said_in s has)) in
      All-from_recursion ReadsBack (map (segment_of class settings.office t) plan.segments)
      (segments_back class settings.office t plan.segments can.forms.office_form (recursion_from_All CanBeSegment plan.segments can.segments)
      (recursion_from_All IsSegmentWritten (map (segment_of class settings.office t) plan.segments) (writable settings class plan plan.texts t One can can.texts).segments)
      (subst (AllByRecursion Places) (sym same) places) (subst (AllByRecursion Said) (sym same) lines_are))
