-- What a handle owns, and what an open reader has.
use Rattle.std.specs.Prelude.{◌==◌, ℕ, Bool, true, false, not, Option, Some, None, if◌then◌else◌}
use mir.Syntax.{Ty}
use base.Fml.{Fml, ftrue}
use denote.RattleType.{RattleType}
use denote.RawPtr.{Ptr}
use Rattle.std.specs.Box.Ownership.{box_owns}
use Rattle.warn_codes_c.specs.declared.archive.Archive.{Archive}

-- the value behind a pointer, or nothing
abbrev pub kept : (Ty → Ptr → Fml) → (R : RattleType) → Ptr → Option R.Denot → Fml
kept holds R p None = ftrue
kept holds R p (Some x) = box_owns holds R p x

-- it has taken something, of a stream that has not ended
abbrev pub is_going : Option Archive → Bool
is_going None = false
is_going (Some a) = not a.feed.ended

-- an open reader has
abbrev pub is_known : ℕ → Option Archive → Bool
is_known n value = if n == 1 then is_going value else true

-- what it has taken
abbrev pub taken_by : ℕ → Option Archive → Option Archive
taken_by n value = if n == 1 then value else None
