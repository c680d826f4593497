-- The rules on a draft, each with the first offender against it: the first intent, then its first zone as it was written.
use Rattle.std.specs.Prelude.{◌==◌, ◌&&◌, ◌||◌, not, ℕ, Bool, true, false, List, [], ◌∷◌, length, find, nat_lt, nat_le, if◌then◌else◌, Option, Some, None, is_some, is_none, option_map}
use Rattle.std.specs.List.{list_any}
use Rattle.std.specs.Option.{option_or}
use Rattle.std.specs.Str.{bytes_eq}
use Rattle.hazard_types.specs.Hazards.{facts_of}
use Rattle.hazard_types.specs.Places.{Place}
use Rattle.hazard_types.specs.Same.{same_hazard, same_event}
use Rattle.hazard_types.specs.declared.codes.Category.{Category}
use Rattle.hazard_types.specs.declared.facts.Facts.{Facts}
use Rattle.hazard_types.specs.declared.hazard.Event.{Event}
use Rattle.hazard_types.specs.declared.line.Clash.{Clash}
use Rattle.hazard_types.specs.declared.line.Flood.{Flood}
use Rattle.hazard_types.specs.declared.line.Row.{Row}
use Rattle.hazard_types.specs.declared.period.End.{End}
use Rattle.hazard_types.specs.declared.period.End.TheVariants.{At, Ufn}
use Rattle.office_types.specs.declared.refusal.Refusal.{Refusal}
use Rattle.office_types.specs.declared.refusal.Refusal.TheVariants as refusal
use Rattle.office_types.specs.declared.request.Intent.{Intent}
use Rattle.office_types.specs.declared.request.Intent.TheVariants.{Put, Finish, Restate, Routine}
use Rattle.office_types.specs.declared.request.PutPart.{PutPart}
use Rattle.office_types.specs.declared.request.Target.{Target}
use Rattle.office_types.specs.declared.request.Target.TheVariants.{Fresh, Join}
use Rattle.event_life.specs.Periods.{ends_after, is_live, keeps_open}
use Rattle.event_life.specs.Products.{is_open, row_at}
use Rattle.hazard_board.specs.Clashes.{least_clash}
use Rattle.hazard_board.specs.Taken.{rows_taken}
use Rattle.action_planner.specs.Placed.{Placed, zones_of, speaks, is_opening, is_opening_target}
use Rattle.action_planner.specs.Conditions.{needs_values, site_of}
use Rattle.action_planner.specs.Lines.{minute_of, planned_lines}

-- the first intent that offends
abbrev pub first_by : (Placed → Option Refusal) → List Placed → Option Refusal
first_by rule [] = None
first_by rule (p ∷ ps) = option_or (rule p) (first_by rule ps)

-- of an intent the first zone that offends
abbrev pub zone_named : (Event → Place → Refusal) → Event → Option Place → Option Refusal
zone_named names e found = option_map (names e) found

abbrev pub refused_not_live : Event → Place → Refusal
refused_not_live e z = refusal.NotLive e z

abbrev pub refused_left_before : Event → Place → Refusal
refused_left_before e z = refusal.LeftBefore e z

abbrev pub refused_twice : Event → Place → Refusal
refused_twice e z = refusal.Twice e z

abbrev pub refused_begun_moved : Event → Place → Refusal
refused_begun_moved e z = refusal.BegunMoved e z

-- EmptyDraft: the draft has no intent
abbrev pub no_intent : List Placed → Option Refusal
no_intent [] = Some refusal.EmptyDraft
no_intent (p ∷ ps) = None

-- NoEvent: the event that is joined, finished or restated is not open
abbrev pub needs_event : Intent → Bool
needs_event (Put part) = not (is_opening_target part.target)
needs_event (Finish part) = true
needs_event (Restate part) = true
needs_event (Routine part) = false

abbrev pub not_open : List Row → ℕ → Placed → Option Refusal
not_open rows t p = if needs_event p.intent && not (is_open rows t p.event) then Some (refusal.NoEvent p.event) else None

-- NotLive: a finish without a row, on an ended one, or more than half an hour after its end; a restate without a live row
abbrev pub has_row_by : (Row → Bool) → Option Row → Bool
has_row_by test None = false
has_row_by test (Some row) = test row

abbrev pub is_gone : List Row → ℕ → Event → Intent → Place → Bool
is_gone rows t e (Put part) z = false
is_gone rows t e (Finish part) z = not (has_row_by (keeps_open t) (row_at rows e z))
is_gone rows t e (Restate part) z = not (has_row_by (is_live t) (row_at rows e z))
is_gone rows t e (Routine part) z = false

abbrev pub not_live : List Row → ℕ → Placed → Option Refusal
not_live rows t p = zone_named refused_not_live p.event (find (is_gone rows t p.event p.intent) (zones_of p.intent))

-- LeftBefore: a joining put where the zone has a row that no line has ended and that is not live
abbrev pub is_join_target : Target → Bool
is_join_target target = not (is_opening_target target)

abbrev pub joins : Intent → Bool
joins (Put part) = is_join_target part.target
joins _ = false

abbrev pub was_left : List Row → ℕ → Event → Intent → Place → Bool
was_left rows t e i z = joins i && has_row_by (λ (row : Row). not row.ended && not (is_live t row)) (row_at rows e z)

abbrev pub left_before : List Row → ℕ → Placed → Option Refusal
left_before rows t p = zone_named refused_left_before p.event (find (was_left rows t p.event p.intent) (zones_of p.intent))

-- Twice: another intent is on the event in the zone
abbrev pub is_shared : List Placed → Placed → Place → Bool
is_shared all p z = list_any (λ (q : Placed). not (q.place == p.place) && speaks p.event z q) all

abbrev pub twice : List Placed → Placed → Option Refusal
twice all p = zone_named refused_twice p.event (find (is_shared all p) (zones_of p.intent))

-- BadPeriod: the begin of a put is a minute before this one, or its end is not after both
abbrev pub is_bad_period : PutPart → ℕ → Bool
is_bad_period part t = nat_lt (minute_of part.begin t) t || not (ends_after part.end (minute_of part.begin t) && ends_after part.end t)

abbrev pub bad_period_of : ℕ → ℕ → Intent → Option Refusal
bad_period_of t place (Put part) = if is_bad_period part t then Some (refusal.BadPeriod place) else None
bad_period_of t place _ = None

abbrev pub bad_period : ℕ → Placed → Option Refusal
bad_period t p = bad_period_of t p.place p.intent

-- BegunMoved: the row is live and has begun, and the begin of a joining put is after this minute
abbrev pub moves : List Row → ℕ → Event → PutPart → Place → Target → Bool
moves rows t e part z (Fresh h) = false
moves rows t e part z (Join d) = nat_lt t (minute_of part.begin t) && has_row_by (λ (row : Row). is_live t row && nat_le row.period.begin t) (row_at rows e z)

abbrev pub is_moved : List Row → ℕ → Event → Intent → Place → Bool
is_moved rows t e (Put part) z = moves rows t e part z part.target
is_moved rows t e _ z = false

abbrev pub begun_moved : List Row → ℕ → Placed → Option Refusal
begun_moved rows t p = zone_named refused_begun_moved p.event (find (is_moved rows t p.event p.intent) (zones_of p.intent))

-- NoOpenEnd: until further notice, for a hazard that may not stand so
abbrev pub may_stand_open : Option Facts → Bool
may_stand_open None = false
may_stand_open (Some facts) = facts.ufn

abbrev pub is_open_end : End → Bool
is_open_end (At m) = false
is_open_end Ufn = true

abbrev pub open_end_of : ℕ → Event → Intent → Option Refusal
open_end_of place e (Put part) = if is_open_end part.end && not (may_stand_open (facts_of e.hazard)) then Some (refusal.NoOpenEnd place) else None
open_end_of place e _ = None

abbrev pub barred_open_end : Placed → Option Refusal
barred_open_end p = open_end_of p.place p.event p.intent

-- FloodNeeded: a put without flood values, or a routine intent, for a hazard that needs H-VTEC
abbrev pub needed_flood_of : ℕ → Event → Intent → Option Refusal
needed_flood_of place e (Put part) = if is_none part.flood && needs_values (facts_of e.hazard) then Some (refusal.FloodNeeded place) else None
needed_flood_of place e (Routine part) = if needs_values (facts_of e.hazard) then Some (refusal.FloodNeeded place) else None
needed_flood_of place e _ = None

abbrev pub needed_flood : Placed → Option Refusal
needed_flood p = needed_flood_of p.place p.event p.intent

-- FloodBarred: a put with flood values, for a hazard without
abbrev pub barred_flood_of : ℕ → Event → Intent → Option Refusal
barred_flood_of place e (Put part) = if is_some part.flood && not (needs_values (facts_of e.hazard)) then Some (refusal.FloodBarred place) else None
barred_flood_of place e _ = None

abbrev pub barred_flood : Placed → Option Refusal
barred_flood p = barred_flood_of p.place p.event p.intent

-- SiteMoved: a joining put names another location than the event has
abbrev pub differs : Option (List ℕ) → Option (List ℕ) → Bool
differs (Some a) (Some b) = not (bytes_eq a b)
differs _ _ = false

abbrev pub other_site : Option Row → Option Flood → Bool
other_site None named = false
other_site (Some row) named = differs (site_of row.flood) (site_of named)

abbrev pub moves_site : List Row → Event → PutPart → Bool
moves_site rows e part = is_join_target part.target && other_site (find (λ (row : Row). same_event row.event e) rows) part.flood

abbrev pub site_moved_of : List Row → Event → Intent → Option Refusal
site_moved_of rows e (Put part) = if moves_site rows e part then Some (refusal.SiteMoved e) else None
site_moved_of rows e _ = None

abbrev pub site_moved : List Row → Placed → Option Refusal
site_moved rows p = site_moved_of rows p.event p.intent

-- Conflict: after the lines two live rows of one family overlap; of the least zone the least pair
abbrev pub refused_clash : Clash → Refusal
refused_clash c = refusal.Conflict c.zone c.first c.second

-- NumberHeld: an open event of an earlier year has the number that is to be opened
abbrev pub holds : ℕ → Event → Row → Bool
holds t e row = same_hazard row.event.hazard e.hazard && (row.event.etn == e.etn) && nat_lt row.event.year e.year && keeps_open t row

abbrev pub held_by : Row → Refusal
held_by row = refusal.NumberHeld row.event

abbrev pub number_held : List Row → ℕ → Placed → Option Refusal
number_held rows t p = if is_opening p.intent then option_map held_by (find (holds t p.event) rows) else None

-- NumbersSpent: the number that is to be opened is above 9,999
abbrev pub numbers_spent : Placed → Option Refusal
numbers_spent p = if is_opening p.intent && nat_lt 9999 p.event.etn then Some (refusal.NumbersSpent p.event.hazard) else None

-- TooManyLines: more than 2,000 of them
abbrev pub too_many : ℕ → Option Refusal
too_many n = if nat_lt 2000 n then Some (refusal.TooManyLines n) else None

-- The rules, in the order in which they are asked.
abbrev pub rules : Category → List Row → ℕ → List Placed → List (Option Refusal)
rules c rows t ps =
    no_intent ps
    ∷ first_by (not_open rows t) ps
    ∷ first_by (not_live rows t) ps
    ∷ first_by (left_before rows t) ps
    ∷ first_by (twice ps) ps
    ∷ first_by (bad_period t) ps
    ∷ first_by (begun_moved rows t) ps
    ∷ first_by barred_open_end ps
    ∷ first_by needed_flood ps
    ∷ first_by barred_flood ps
    ∷ first_by (site_moved rows) ps
    ∷ option_map refused_clash (least_clash t (rows_taken rows t (planned_lines c rows t ps)))
    ∷ first_by (number_held rows t) ps
    ∷ first_by numbers_spent ps
    ∷ too_many (length (planned_lines c rows t ps))
    ∷ []

abbrev pub first_given : {X : Type 0} → List (Option X) → Option X
first_given [] = None
first_given (x ∷ xs) = option_or x (first_given xs)

-- the first rule that is broken, with what it names
unfoldable pub broken : Category → List Row → ℕ → List Placed → Option Refusal
broken c rows t ps = first_given (rules c rows t ps)
