-- The rules on single intents by their names, and the groups in which they are asked.
use Rattle.std.specs.Prelude.{ℕ, List, [], ◌∷◌, length, map, Option, option_map}
use Rattle.std.specs.Option.{option_or}
use Rattle.hazard_types.specs.declared.line.Line.{Line}
use Rattle.hazard_types.specs.declared.line.Row.{Row}
use Rattle.office_types.specs.declared.refusal.Refusal.{Refusal}
use Rattle.hazard_board.specs.Clashes.{least_clash}
use Rattle.hazard_board.specs.Taken.{rows_taken}
use Rattle.action_planner.specs.declared.rules.Rule.{Rule}
use Rattle.action_planner.specs.declared.rules.Rule.TheVariants.{NoEvent, NotLive, LeftBefore, Twice, BadPeriod, BegunMoved, NoOpenEnd, FloodNeeded, FloodBarred, SiteMoved, NumberHeld, NumbersSpent}
use Rattle.action_planner.specs.Placed.{Placed}
use Rattle.action_planner.specs.Offences.{first_by, first_given, no_intent, not_open, not_live, left_before, twice, bad_period, begun_moved, barred_open_end, needed_flood, barred_flood, site_moved, refused_clash, number_held, numbers_spent, too_many}

-- what an intent is refused with under a rule
abbrev pub offence : List Row → ℕ → List Placed → Rule → Placed → Option Refusal
offence rows t all NoEvent p = not_open rows t p
offence rows t all NotLive p = not_live rows t p
offence rows t all LeftBefore p = left_before rows t p
offence rows t all Twice p = twice all p
offence rows t all BadPeriod p = bad_period t p
offence rows t all BegunMoved p = begun_moved rows t p
offence rows t all NoOpenEnd p = barred_open_end p
offence rows t all FloodNeeded p = needed_flood p
offence rows t all FloodBarred p = barred_flood p
offence rows t all SiteMoved p = site_moved rows p
offence rows t all NumberHeld p = number_held rows t p
offence rows t all NumbersSpent p = numbers_spent p

-- the first intent that offends against the first of these rules against which one does
abbrev pub first_against : List Row → ℕ → List Placed → List Rule → Option Refusal
first_against rows t ps rules = first_given (map (λ (rule : Rule). first_by (offence rows t ps rule) ps) rules)

abbrev pub before_conflict : List Rule
before_conflict = NoEvent ∷ NotLive ∷ LeftBefore ∷ Twice ∷ BadPeriod ∷ BegunMoved ∷ NoOpenEnd ∷ FloodNeeded ∷ FloodBarred ∷ SiteMoved ∷ []

abbrev pub on_numbers : List Rule
on_numbers = NumberHeld ∷ NumbersSpent ∷ []

-- the first rule that is broken of those that ask for no lines
unfoldable pub broken_early : List Row → ℕ → List Placed → Option Refusal
broken_early rows t ps = option_or (no_intent ps) (first_against rows t ps before_conflict)

-- the first of the others that is, for a draft of these lines
unfoldable pub broken_late : List Row → ℕ → List Placed → List Line → Option Refusal
broken_late rows t ps lines =
    option_or (option_map refused_clash (least_clash t (rows_taken rows t lines)))
    (option_or (first_against rows t ps on_numbers)
    (too_many (length lines)))
