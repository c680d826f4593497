-- The one UGC text that is written for zones in order and an expiry.
use Rattle.std.specs.Prelude.{ℕ, ◌≤◌, ◌+◌, ◌==◌, ◌&&◌, Bool, false, nat_lt, List, [], ◌∷◌, ◌++◌, length, slice_index, Option, Some, None, if◌then◌else◌}
use Rattle.hazard_types.specs.Places.{Place}
use Rattle.hazard_types.specs.declared.calendar.DayStamp.{DayStamp}
use Rattle.ugc_codes.specs.declared.span.Span.{Span}
use Rattle.ugc_codes.specs.Grammar.{numbered, run_end}
use Rattle.hazard_types.specs.Names.{kind_code, zone_text}
use Rattle.hazard_types.specs.Digits.{three_digits, day_text}

-- one state and kind
abbrev pub are_alike : Place → Place → Bool
are_alike a b = (slice_index a.state 0 == slice_index b.state 0) && (slice_index a.state 1 == slice_index b.state 1) && (kind_code a.kind == kind_code b.kind)

-- a last number has three digits
abbrev pub EndsBelow : Span → Type 0
EndsBelow s = s.last ≤ 999

-- the place comes just behind the span
abbrev pub continues_span : Span → Place → Bool
continues_span s p = are_alike s.first p && (p.number == s.last + 1)

-- a zone by itself
abbrev pub single : Place → Span
single p = record { first = p; last = p.number }

-- a run of three and more is one group, a run of two is two
abbrev pub pieces : Span → List Span
pieces s = if s.last == s.first.number + 1 then single s.first ∷ single (numbered s.first (s.first.number + 1)) ∷ [] else s ∷ []

-- the groups of a span that may go on, and of the places behind it
abbrev pub groups_from : Span → List Place → List Span
groups_from s [] = pieces s
groups_from s (p ∷ ps) = if continues_span s p then groups_from (record { first = s.first; last = p.number }) ps else pieces s ++ groups_from (single p) ps

-- the groups of zones in order
abbrev pub groups : List Place → List Span
groups [] = []
groups (p ∷ ps) = groups_from (single p) ps

-- state and kind are repeated only where they change
abbrev pub is_short : Option Place → Place → Bool
is_short None p = false
is_short (Some b) p = are_alike b p

-- the code of a group, short behind a code of its state and kind
abbrev pub code_part : Option Place → Place → List ℕ
code_part before p = if is_short before p then three_digits p.number else zone_text p

-- a group and its hyphen
abbrev pub own_text : Option Place → Span → List ℕ
own_text before s = code_part before s.first ++ run_end s ++ 45 ∷ []

-- a group is append_group on the line while it stays within 66 columns
abbrev pub passes : ℕ → List ℕ → Bool
passes column own = nat_lt 66 (column + length own)

-- the text with one group more
abbrev pub put_text : List ℕ → ℕ → List ℕ → List ℕ
put_text out column own = if passes column own then out ++ 10 ∷ [] ++ own else out ++ own

-- the column behind that group
abbrev pub put_column : ℕ → List ℕ → ℕ
put_column column own = if passes column own then length own else column + length own

-- the text with the groups that are left, and the expiry
abbrev pub lay : List ℕ → ℕ → Option Place → List Span → DayStamp → List ℕ
lay out column before [] d = put_text out column (day_text d ++ 45 ∷ [])
lay out column before (s ∷ spans) d = lay (put_text out column (own_text before s)) (put_column column (own_text before s)) (Some s.first) spans d

-- the one text of zones and an expiry
unfoldable pub ugc_text : List Place → DayStamp → List ℕ
ugc_text zones d = lay [] 0 None (groups zones) d
