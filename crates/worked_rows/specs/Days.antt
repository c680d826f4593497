-- A day at the desk, and what may be sent on it.
use Rattle.std.specs.Prelude.{◌≡◌, ◌≤◌, ◌+◌, ◌==◌, ◌||◌, ◌&&◌, ℕ, Bool, true, false, List, [], fold, length, get_or, count_by, min, if◌then◌else◌, Option, Some, None, unwrap_or}
use Rattle.std.specs.List.{All, AllPairs}
use Rattle.hazard_types.specs.contracts.codes.CategoryPartialEq.TheImpl as category
use Rattle.hazard_types.specs.declared.codes.Category.{Category}
use Rattle.hazard_types.specs.declared.codes.Category.TheVariants.{Flw, Fls}
use Rattle.hazard_types.specs.declared.line.Row.{Row}
use Rattle.office_types.specs.declared.request.Intent.{Intent}
use Rattle.office_types.specs.declared.request.Plan.{Plan}
use Rattle.office_types.specs.declared.request.Sent.{Sent}
use Rattle.event_numbers.specs.declared.Count.{Count}
use Rattle.segmenter.specs.Said.{IsApart}
use Rattle.action_planner.specs.Conditions.{MayHold}

-- the rows, how many numbers were drawn, the products that were sent, and the minute of the last of them
pub record Standing : Type 0 where
  pub rows : List Row
  pub counts : List Count
  pub products : List Sent
  pub last : ℕ

-- a draft that may be sent at a minute
pub record MaySend (c : Category) (intents : List Intent) (last t : ℕ) : Type 0 where
  pub few : length intents ≤ 64
  pub fitting : All (MayHold c) intents
  pub later : last ≤ t
  pub soon : t ≤ 52000000

-- no two lines of a product are of one event in one zone
abbrev pub HasApart : Sent → Type 0
HasApart s = AllPairs IsApart s.lines

-- FLW and FLS count as one category
abbrev pub of_rivers : Category → Bool
of_rivers Flw = true
of_rivers Fls = true
of_rivers _ = false

abbrev pub are_alike : Category → Category → Bool
are_alike c d = category.eq-value.it c d || (of_rivers c && of_rivers d)

-- the number of the last product of a category
abbrev pub last_of : List Sent → Category → ℕ
last_of products c = fold (λ (last : ℕ) (s : Sent). if are_alike s.category c then s.number else last) 0 products

-- the product is a correction of this one
abbrev pub is_number : ℕ → Option ℕ → Bool
is_number n None = false
is_number n (Some m) = m == n

abbrev pub corrects : ℕ → Sent → Bool
corrects n s = is_number n s.original

-- how many corrections a product has; no more than 24 are ever sent
abbrev pub letters_of : List Sent → ℕ → ℕ
letters_of products n = min (count_by (corrects n) products) 24

-- the product that a correction counts for
abbrev pub original_of : Sent → ℕ
original_of s = unwrap_or s.original s.number

-- the number of a product behind so many, as far as 32 bits go
abbrev pub number_behind : ℕ → ℕ
number_behind before = min (before + 1) 4294967295

-- the product of a plan that is sent at a minute behind so many others: of no text yet, for another where it corrects one
abbrev pub sent_of : ℕ → Plan → ℕ → Option ℕ → Sent
sent_of before plan t original = record { number = number_behind before; category = plan.category; time = t; original = original; lines = plan.lines; texts = plan.texts; text = [] }

-- the product stands at the place
abbrev pub IsAt : List Sent → ℕ → Sent → Type 0
IsAt products place s = get_or products place s ≡ s
