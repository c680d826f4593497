-- Periods and rows at a minute: what has ended, begun, is live or open; when periods overlap or are the same.
use Rattle.std.specs.Prelude.{◌==◌, ◌&&◌, ◌||◌, not, ℕ, ◌+◌, Bool, true, false, nat_lt, nat_le}
use Rattle.hazard_types.specs.declared.period.End.{End}
use Rattle.hazard_types.specs.declared.period.End.TheVariants.{At, Ufn}
use Rattle.hazard_types.specs.declared.period.Period.{Period}
use Rattle.hazard_types.specs.declared.line.Row.{Row}

-- the end is after this minute; until further notice always is
abbrev pub ends_after : End → ℕ → Bool
ends_after (At m) t = nat_lt t m
ends_after Ufn t = true

-- the end is at most half an hour before this minute, or after it
abbrev pub is_not_long_past : End → ℕ → Bool
is_not_long_past (At m) t = nat_le t (m + 30)
is_not_long_past Ufn t = true

abbrev pub same_end : End → End → Bool
same_end (At m) (At n) = m == n
same_end Ufn Ufn = true
same_end (At m) Ufn = false
same_end Ufn (At n) = false

-- each begins before the other ends
abbrev pub overlaps : Period → Period → Bool
overlaps p q = ends_after q.end p.begin && ends_after p.end q.begin

-- the ends are equal, and the begins are equal or both at most this minute
abbrev pub same_at : ℕ → Period → Period → Bool
same_at t p q = same_end p.end q.end && ((p.begin == q.begin) || (nat_le p.begin t && nat_le q.begin t))

-- no line has ended the row, and this minute is before its end
abbrev pub is_live : ℕ → Row → Bool
is_live t row = not row.ended && ends_after row.period.end t

-- no line has ended the row, and its end is at most half an hour past
abbrev pub keeps_open : ℕ → Row → Bool
keeps_open t row = not row.ended && is_not_long_past row.period.end t
