-- A sound product may be planned, and its plan may be written.
use Rattle.std.proofs.Common.{◌≡◌, ◌≢◌, ℕ, ◌∙◌, ◌+◌, ◌<◌, ◌≤◌, Bool, true, false, List, [], ◌∷◌, ◌++◌, Option, Some, None, IfSome, IsSome, IsTrue, refl, sym, ap, subst, arith, cond, length, map, nat_le}
use Rattle.std.proofs.lemmas.Bool.{and_from, le-leb, leb-false}
use Rattle.std.proofs.lemmas.List.Elements.{All-contains, All-from_recursion, All-weaker, recursion_from_All}
use Rattle.std.specs.List.{All, AllByRecursion, Any, Contains}
use Rattle.std.specs.List.Sorted.{IsStrictlySortedBy}
use Rattle.std.specs.Option.{option_or}
use Rattle.hazard_types.specs.Places.{Place, by_place, is_capital}
use Rattle.hazard_types.specs.Same.{same_event}
use Rattle.hazard_types.specs.declared.codes.Action.{Action}
use Rattle.hazard_types.specs.declared.codes.Action.TheVariants.{Cor, Exp}
use Rattle.hazard_types.specs.declared.codes.Category.{Category}
use Rattle.hazard_types.specs.declared.hazard.Event.{Event}
use Rattle.hazard_types.specs.declared.line.Flood.{Flood}
use Rattle.hazard_types.specs.declared.line.Line.{Line}
use Rattle.hazard_types.specs.declared.line.Row.{Row}
use Rattle.hazard_types.specs.declared.line.SegLine.{SegLine}
use Rattle.hazard_types.specs.declared.line.Segment.{Segment}
use Rattle.hazard_types.specs.declared.period.End.{End}
use Rattle.office_types.specs.declared.refusal.Refusal.{Refusal}
use Rattle.office_types.specs.declared.refusal.Refusal.TheVariants as refusal
use Rattle.office_types.specs.declared.request.EventTexts.{EventTexts}
use Rattle.office_types.specs.declared.request.Intent.{Intent}
use Rattle.office_types.specs.declared.request.Plan.{Plan}
use Rattle.office_types.specs.declared.request.Sent.{Sent}
use Rattle.office_types.specs.declared.request.Texts.{Texts}
use Rattle.desk_settings.specs.Looking.{name_for_zone}
use Rattle.event_numbers.specs.declared.Count.{Count}
use Rattle.headline_text.specs.Headlines.{is_minute}
use Rattle.product_frame.specs.LineRules.{HasLocation}
use Rattle.segmenter.specs.Groups.{without_zone}
use Rattle.segmenter.specs.Segments.{AreSegments, Has}
use Rattle.segmenter.proofs.HasLemmas.{all_at, all_from, has_some}
use Rattle.segmenter.proofs.LawLemmas.{said}
use Rattle.action_planner.specs.Conditions.{CanPlan, MayHold}
use Rattle.action_planner.specs.Corrections.{broken_correction, corrected_lines, corrected_texts, correction_rules, given_for, texts_or}
use Rattle.action_planner.specs.Lines.{planned_lines}
use Rattle.action_planner.specs.Offences.{broken}
use Rattle.action_planner.specs.Placed.{Placed, placed, placed_from, zones_of}
use Rattle.action_planner.specs.Plans.{IsPlan}
use Rattle.action_planner.specs.Standing.{Stands}
use Rattle.action_planner.specs.Texts.{event_texts, events_of, no_texts, texts_of, texts_on}
use Rattle.action_planner.specs.Told.{counts_in, flood_of, passes}
use Rattle.action_planner.proofs.CorrectionLemmas.{from_rows}
use Rattle.action_planner.proofs.LawfulLists.{all_has, all_weaker}
use Rattle.action_planner.proofs.LawfulPlaced.{given_none}
use Rattle.action_planner.proofs.LineLemmas.{IsClosed, corrected_given, corrected_never_expire, expiring_ends, given_values, known_corrected, known_lines, lines_in_zones_given, numbered_corrected, numbered_lines}
use Rattle.action_planner.proofs.Standing.{later}
use Rattle.action_planner.proofs.ToldLemmas.{rows_tell_places}
use Rattle.action_planner.proofs.SourceLemmas.{FromRow}
use Rattle.product_template.specs.Conditions.{AreNamed, ArePrintable, CanBeWritten, CanBeSegment, CanBeText, IsLetter}
use Rattle.office_core.specs.Keeping.{MayBePlanned}
use Rattle.office_core.specs.Making.{Making, IsPlanOf, broken_lines, last_of_category, letters_of, original_of}
use Rattle.office_core.specs.Sound.{AreSoundIntents, IsNamed, IsPrintable, IsSound, IsSoundIntent, IsSoundMaking, IsSoundProduct, IsSoundRow, has_location}
use Rattle.office_core.specs.State.{State}

-- ---- planning

pub can_plan : (s : State) (counts : List Count) (t : ℕ) (c : Category) (intents : List Intent) → IsSound s counts → s.last ≤ t → t ≤ 52000000 → AreSoundIntents s.settings s.class c intents → CanPlan s.rows counts c intents t
can_plan s counts t c intents sound le most own =
    let stands : Stands s.rows counts t = later s.rows counts s.last t le sound.stands in
    record {
      few = own.few;
      fitting = All-weaker (IsSoundIntent s.settings s.class c) (MayHold c) (λ i h. h.fits) intents own.each;
      consistent = stands.consistent;
      numbered = stands.numbered;
      sited = stands.sited;
      minute = most;
    }

pub may_be_planned : (s : State) (counts : List Count) (t : ℕ) (making : Making) → IsSound s counts → s.last ≤ t → t ≤ 52000000 → IsSoundMaking s making → MayBePlanned s counts t making
may_be_planned s counts t Making.none sound le most own = tt
may_be_planned s counts t (Making.drafted c intents) sound le most own = can_plan s counts t c intents sound le most own
may_be_planned s counts t (Making.corrected sent given) sound le most own =
    let stands : Stands s.rows counts t = later s.rows counts s.last t le sound.stands in
    record { apart = own.0.apart; few = omega arith; consistent = stands.consistent; sited = stands.sited; minute = most }

-- ---- segments

some_length : {X : Type 0} (xs : List X) → xs ≢ [] → 0 < length xs
some_length [] h = absurd (h refl)
some_length (x ∷ xs) h = omega arith

module _ (lines : List Line) (segments : List Segment) (are : AreSegments lines segments) where
  full : (s : Segment) → Has segments s → (s.zones ≢ []) × (s.lines ≢ [])
  full s has = all_at (λ (x : Segment). (x.zones ≢ []) × (x.lines ≢ [])) segments s are.some has

  -- what holds of the lines without their zone holds of a segment's
  each_said : (P : SegLine → Type 0) → AllByRecursion (λ (line : Line). P (without_zone line)) lines → (s : Segment) → Has segments s → (l : SegLine) → Has s.lines l → P l
  each_said P all s has l own =
      let zone = has_some s.zones (full s has).0 in
      let w = (said lines segments are zone.0 l).0 (s, has, zone.1, own) in
      subst P w.3 (all_at (λ (line : Line). P (without_zone line)) lines w.0 all w.1)

  -- what holds of the lines' zones holds of a segment's
  each_zone : (P : Place → Type 0) → AllByRecursion (λ (line : Line). P line.zone) lines → (s : Segment) → Has segments s → (z : Place) → Has s.zones z → P z
  each_zone P all s has z own =
      let l = has_some s.lines (full s has).1 in
      let w = (said lines segments are z l.0).0 (s, has, own, l.1) in
      subst P w.2 (all_at (λ (line : Line). P line.zone) lines w.0 all w.1)

  can_be_segments : All (λ (line : Line). CanBeWritten (without_zone line)) lines → All CanBeSegment segments
  can_be_segments all =
      let each = recursion_from_All (λ (line : Line). CanBeWritten (without_zone line)) lines all in
      All-from_recursion CanBeSegment segments (all_from CanBeSegment segments (λ s has. record {
        some = some_length s.zones (full s has).0;
        order = all_at (λ (x : Segment). IsStrictlySortedBy by_place x.zones) segments s are.sorted has;
        lines = All-from_recursion CanBeWritten s.lines (all_from CanBeWritten s.lines (each_said CanBeWritten each s has));
      }))

  are_named : (names : List (Place × List ℕ)) → AllByRecursion (λ (line : Line). IsSome (name_for_zone names line.zone)) lines → AreNamed names segments
  are_named names all =
      let P : Segment → Type 0 = λ s. All (λ (z : Place). IsSome (name_for_zone names z)) s.zones in
      All-from_recursion P segments (all_from P segments (λ s has. All-from_recursion (λ (z : Place). IsSome (name_for_zone names z)) s.zones (all_from (λ (z : Place). IsSome (name_for_zone names z)) s.zones (each_zone (λ (z : Place). IsSome (name_for_zone names z)) all s has))))

-- ---- lines

location_of : (flood : Option Flood) → passes has_location flood ≡ true → HasLocation flood
location_of None h = tt
location_of (Some flood) h = h

minute_at : (end : End) → IsClosed end → IsTrue (is_minute end)
minute_at end w = ap is_minute w.1

never : (a : Action) → a ≡ Cor → a ≡ Exp → ⊥
never a is e = let two : Cor ≡ Exp = sym is ∙ e in cc

-- ---- texts

either : (b : Bool) (x y : Texts) → IsPrintable x → IsPrintable y → IsPrintable (cond b x y)
either true x y own other = own
either false x y own other = other

none_printable : IsPrintable no_texts
none_printable = record { what = refl; area = refl; impacts = refl; details = refl }

on_event : (ps : List Placed) (e : Event) → AllByRecursion (λ (p : Placed). IsPrintable (texts_of p.intent)) ps → IsPrintable (texts_on ps e)
on_event [] e all = none_printable
on_event (p ∷ ps) e all = either (same_event p.event e) (texts_of p.intent) (texts_on ps e) all.0 (on_event ps e all.1)

placed_each : (P : Intent → Type 0) (counts : List Count) (t : ℕ) (earlier intents : List Intent) → AllByRecursion P intents → AllByRecursion (λ (p : Placed). P p.intent) (placed_from counts t earlier intents)
placed_each P counts t earlier [] all = tt
placed_each P counts t earlier (i ∷ intents) all = (all.0, placed_each P counts t (earlier ++ i ∷ []) intents all.1)

with_event : (e : Event) (t : Texts) → IsPrintable t → ArePrintable (record { event = e; texts = t })
with_event e t own = record { what = own.what; area = own.area; impacts = own.impacts; details = own.details }

alone : (x : EventTexts) → ArePrintable x → IsPrintable x.texts
alone x own = record { what = own.what; area = own.area; impacts = own.impacts; details = own.details }

each_event : (f : Event → Texts) → ((e : Event) → IsPrintable (f e)) → (events : List Event) → AllByRecursion ArePrintable (map (λ (e : Event). record { event = e; texts = f e }) events)
each_event f own [] = tt
each_event f own (e ∷ events) = (with_event e (f e) (own e), each_event f own events)

given_step : (b : Bool) (x : Texts) (rest : Option Texts) → IsPrintable x → IfSome rest IsPrintable → IfSome (cond b (Some x) rest) IsPrintable
given_step true x rest own more = own
given_step false x rest own more = more

given_each : (xs : List EventTexts) (e : Event) → AllByRecursion ArePrintable xs → IfSome (given_for xs e) IsPrintable
given_each [] e all = tt
given_each (x ∷ xs) e all = given_step (same_event x.event e) x.texts (given_for xs e) (alone x all.0) (given_each xs e all.1)

one_of : (a b : Option Texts) → IfSome a IsPrintable → IfSome b IsPrintable → IsPrintable (texts_or (option_or a b))
one_of None None own other = none_printable
one_of None (Some y) own other = other
one_of (Some x) b own other = own

pub planned_printable : (counts : List Count) (t : ℕ) (intents : List Intent) (events : List Event) → AllByRecursion (λ (i : Intent). IsPrintable (texts_of i)) intents → AllByRecursion ArePrintable (event_texts (placed counts t intents) events)
planned_printable counts t intents events all =
    each_event (texts_on (placed counts t intents)) (λ e. on_event (placed counts t intents) e (placed_each (λ (i : Intent). IsPrintable (texts_of i)) counts t [] intents all)) events

pub corrected_printable : (given before : List EventTexts) (events : List Event) → AllByRecursion ArePrintable given → AllByRecursion ArePrintable before → AllByRecursion ArePrintable (corrected_texts given before events)
corrected_printable given before events own other =
    each_event (λ (e : Event). texts_or (option_or (given_for given e) (given_for before e))) (λ e. one_of (given_for given e) (given_for before e) (given_each given e own) (given_each before e other)) events

-- ---- the letter

not_spent : (b : Bool) (x : Refusal) → cond b (Some x) None ≡ None → b ≡ false
not_spent true x h = cc
not_spent false x h = refl

capital : (letters : ℕ) → nat_le 24 letters ≡ false → is_capital (65 + letters) ≡ true
capital letters h =
    let few : letters < 24 = leb-false 24 letters h in
    and_from (nat_le 65 (65 + letters)) (nat_le (65 + letters) 90) (le-leb 65 (65 + letters) (omega arith)) (le-leb (65 + letters) 90 (omega (arith, few)))

-- ---- plans

module _ (s : State) (counts : List Count) (t : ℕ) (sound : IsSound s counts) (le : s.last ≤ t) (most : t ≤ 52000000) where
  rows_pass : All (λ (row : Row). passes has_location row.flood ≡ true) s.rows
  rows_pass = All-weaker (IsSoundRow s.settings s.class) (λ (row : Row). passes has_location row.flood ≡ true) (λ row h. h.located) s.rows sound.rows

  module _ (c : Category) (intents : List Intent) (own : AreSoundIntents s.settings s.class c intents) where
    abbrev said_lines : List Line
    said_lines = planned_lines c s.rows t (placed counts t intents)

    pub planned_pass : All (λ (line : Line). passes has_location line.flood ≡ true) said_lines
    planned_pass = given_values has_location c s.rows counts intents t rows_pass
        (All-weaker (IsSoundIntent s.settings s.class c) (λ (i : Intent). passes has_location (flood_of i) ≡ true) (λ i h. h.located) intents own.each)

    pub planned_zones : All (λ (line : Line). IsNamed s.settings s.class line.zone) said_lines
    planned_zones = All-weaker (λ (line : Line). Any (λ (i : Intent). Contains (zones_of i) line.zone) intents) (λ (line : Line). IsNamed s.settings s.class line.zone)
        (λ line w. All-contains (IsNamed s.settings s.class) (zones_of w.1) line.zone (All-contains (IsSoundIntent s.settings s.class c) intents w.1 own.each (w.0, w.2, w.3)).named w.4)
        said_lines (lines_in_zones_given c s.rows counts intents t)

    planned_said : broken c s.rows t (placed counts t intents) ≡ None → All (λ (line : Line). CanBeWritten (without_zone line)) said_lines
    planned_said h =
        let can = can_plan s counts t c intents sound le most own in
        let hazards = known_lines c s.rows counts intents t can sound.stands.known in
        let numbers = numbered_lines c s.rows counts intents t can sound.stands.digits h in
        let ends = expiring_ends c s.rows counts intents t in
        λ k d lt. record {
          hazard = hazards k d lt;
          number = numbers k d lt;
          location = location_of _ (planned_pass k d lt);
          expiry = λ e. minute_at _ (ends k d lt e);
        }

    planned_written : (plan : Plan) → broken c s.rows t (placed counts t intents) ≡ None → IsPlan c s.rows t (placed counts t intents) plan → CanBeText s.settings s.class plan t
    planned_written plan h is = record {
      forms = sound.forms;
      segments = can_be_segments said_lines plan.segments is.segments (planned_said h);
      names = λ plain. are_named said_lines plan.segments is.segments s.settings.zones
          (all_weaker (λ (line : Line). IsNamed s.settings s.class line.zone) (λ (line : Line). IsSome (name_for_zone s.settings.zones line.zone)) (λ line named. named plain) said_lines
          (recursion_from_All (λ (line : Line). IsNamed s.settings s.class line.zone) said_lines planned_zones));
      texts = subst (All ArePrintable) (sym is.texts) (All-from_recursion ArePrintable (event_texts (placed counts t intents) (events_of said_lines))
          (planned_printable counts t intents (events_of said_lines) (all_weaker (IsSoundIntent s.settings s.class c) (λ (i : Intent). IsPrintable (texts_of i)) (λ i sure. sure.printable) intents (recursion_from_All (IsSoundIntent s.settings s.class c) intents own.each))));
      letter = subst IsLetter (sym is.letter) tt;
      minute = most;
    }

    drafted_written : (plan : Plan) → broken_lines s t (Making.drafted c intents) ≡ None → IsPlanOf s t (Making.drafted c intents) plan → CanBeText s.settings s.class plan t
    unfolding broken_lines
    drafted_written plan h is =
        let told : placed (counts_in s.rows) t intents ≡ placed counts t intents = rows_tell_places s.rows counts intents t sound.stands.numbered in
        planned_written plan (subst (λ (ps : List Placed). broken c s.rows t ps ≡ None) told h) (subst (λ (ps : List Placed). IsPlan c s.rows t ps plan) told is)

  module _ (sent : Sent) (given : List EventTexts) (own : IsSoundProduct sent) (texts : All ArePrintable given) where
    abbrev left_lines : List Line
    left_lines = corrected_lines s.rows t sent.lines

    pub corrected_pass : All (λ (line : Line). passes has_location line.flood ≡ true) left_lines
    corrected_pass = corrected_given has_location s.rows t sent.lines rows_pass

    pub corrected_zones : AllByRecursion (λ (line : Line). IsNamed s.settings s.class line.zone) left_lines
    corrected_zones = all_weaker (FromRow s.rows) (λ (line : Line). IsNamed s.settings s.class line.zone)
        (λ line f. subst (IsNamed s.settings s.class) f.zone (all_has (IsSoundRow s.settings s.class) s.rows f.row (recursion_from_All (IsSoundRow s.settings s.class) s.rows sound.rows) f.there).named)
        left_lines (from_rows s.rows t sent.lines)

    corrected_said : All (λ (line : Line). CanBeWritten (without_zone line)) left_lines
    corrected_said =
        let hazards = known_corrected s.rows t sent.lines sound.stands.known in
        let numbers = numbered_corrected s.rows counts t sent.lines sound.stands.numbered sound.stands.digits in
        let actions = corrected_never_expire s.rows t sent.lines in
        λ k d lt. record {
          hazard = hazards k d lt;
          number = numbers k d lt;
          location = location_of _ (corrected_pass k d lt);
          expiry = λ e. absurd (never _ (actions k d lt) e);
        }

    letter_left : broken_correction s.rows t sent (last_of_category s.products sent.category) (letters_of s.products (original_of sent)) given ≡ None → nat_le 24 (letters_of s.products (original_of sent)) ≡ false
    unfolding broken_correction
    letter_left h =
        let last = last_of_category s.products sent.category in
        let n = letters_of s.products (original_of sent) in
        not_spent (nat_le 24 n) refusal.LettersSpent (given_none (correction_rules s.rows t sent last n given) h).1.1.1.1.0

    corrected_written : (plan : Plan) → broken_lines s t (Making.corrected sent given) ≡ None → IsPlanOf s t (Making.corrected sent given) plan → CanBeText s.settings s.class plan t
    unfolding broken_lines
    corrected_written plan h is = record {
      forms = sound.forms;
      segments = can_be_segments left_lines plan.segments is.segments corrected_said;
      names = λ plain. are_named left_lines plan.segments is.segments s.settings.zones
          (all_weaker (λ (line : Line). IsNamed s.settings s.class line.zone) (λ (line : Line). IsSome (name_for_zone s.settings.zones line.zone)) (λ line named. named plain) left_lines corrected_zones);
      texts = subst (All ArePrintable) (sym is.texts) (All-from_recursion ArePrintable (corrected_texts given sent.texts (events_of left_lines))
          (corrected_printable given sent.texts (events_of left_lines) (recursion_from_All ArePrintable given texts) (recursion_from_All ArePrintable sent.texts own.printable)));
      letter = subst IsLetter (sym is.letter) (capital (letters_of s.products (original_of sent)) (letter_left h));
      minute = most;
    }

pub may_be_written : (s : State) (counts : List Count) (t : ℕ) (making : Making) (plan : Plan) → IsSound s counts → s.last ≤ t → t ≤ 52000000 → IsSoundMaking s making → broken_lines s t making ≡ None → IsPlanOf s t making plan →
    CanBeText s.settings s.class plan t
may_be_written s counts t Making.none plan sound le most own h is = absurd is
may_be_written s counts t (Making.drafted c intents) plan sound le most own h is = drafted_written s counts t sound le most c intents own plan h is
may_be_written s counts t (Making.corrected sent given) plan sound le most own h is = corrected_written s counts t sound le most sent given own.0 own.1 plan h is
