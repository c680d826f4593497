-- The first fault of bytes that begin with no UGC text: the groups so far, and then what is none.
use Rattle.std.specs.Prelude.{◌≡◌, ℕ, ◌≤◌, ◌⊎◌, ◌==◌, false, IsTrue, List, [], ◌∷◌, ◌++◌, length, Option, None}
use Rattle.std.specs.List.{AllByRecursion}
use Rattle.hazard_types.specs.Places.{Place, IsPlace}
use Rattle.hazard_types.specs.declared.calendar.DayStamp.{DayStamp}
use Rattle.ugc_codes.specs.declared.read.UgcFault.{UgcFault}
use Rattle.ugc_codes.specs.declared.read.UgcFault.TheVariants.{NotACode, BadRange, CutShort}
use Rattle.ugc_codes.specs.declared.span.Span.{Span}
use Rattle.ugc_codes.specs.Grammar.{IsSpan, Spells, Follows, HasCode, AreGroups, last_code, is_gap}
use Rattle.hazard_types.specs.Digits.{is_day_stamp, day_text, three_digits}
use Rattle.hazard_types.specs.Names.{zone_text}

-- a code, > and a number that is not greater
pub record IsBackwards (before : Option Place) (text : List ℕ) : Type 0 where
  pub first : Place
  pub last : ℕ
  pub place : IsPlace first
  pub range : last ≤ 999
  pub order : last ≤ first.number
  pub spelled : (text ≡ zone_text first ++ 62 ∷ three_digits last) ⊎ (Follows before first × (text ≡ three_digits first.number ++ 62 ∷ three_digits last))

-- no code and no run, not even a backward one, and no expiry behind a code
pub record IsNoGroup (before : Option Place) (text : List ℕ) : Type 0 where
  pub no_span : (s : Span) → IsSpan s → Spells before s text → ⊥
  pub no_run : IsBackwards before text → ⊥
  pub no_expiry : (d : DayStamp) → HasCode before → IsTrue (is_day_stamp d) → text ≡ day_text d → ⊥

-- no byte is a hyphen
abbrev pub HasNoHyphen : List ℕ → Type 0
HasNoHyphen = AllByRecursion (λ c. (c == 45) ≡ false)

-- the next group's bytes, up to its hyphen
abbrev pub NextIs : List ℕ → (List ℕ → Type 0) → Type 0
NextIs rest P = (own : List ℕ) × (more : List ℕ) × (rest ≡ own ++ 45 ∷ more) × HasNoHyphen own × P own

-- the rest, which begins at a place, has no group
abbrev pub Faults : Option Place → ℕ → List ℕ → UgcFault → Type 0
Faults before place rest (NotACode at) = (at ≡ place) × NextIs rest (IsNoGroup before)
Faults before place rest (BadRange at) = (at ≡ place) × NextIs rest (IsBackwards before)
Faults before place rest CutShort = HasNoHyphen rest

-- the first byte is no blank, CR or LF
abbrev pub BeginsInNoGap : List ℕ → Type 0
BeginsInNoGap [] = Unit {0}
BeginsInNoGap (c ∷ cs) = is_gap c ≡ false

-- groups, and behind them and their gaps no group
pub record FirstFault (bytes : List ℕ) (f : UgcFault) : Type 0 where
  pub spans : List Span
  pub front : List ℕ
  pub rest : List ℕ
  pub groups : AreGroups None spans front
  pub whole : bytes ≡ front ++ rest
  pub past : HasCode (last_code None spans) → BeginsInNoGap rest
  pub fault : Faults (last_code None spans) (length front) rest f
