-- The grammar of UGC texts, by groups: MDZ003>006-VAZ028-032330-
use Rattle.std.specs.Prelude.{◌≡◌, ℕ, zero, suc, ◌+◌, ◌-◌, ◌≤◌, ◌⊎◌, ◌==◌, ◌||◌, Bool, IsTrue, List, [], ◌∷◌, ◌++◌, length, Option, Some, None, if◌then◌else◌}
use Rattle.std.specs.List.{AllByRecursion}
use Rattle.std.specs.BTreeSet.{insert_key}
use Rattle.hazard_types.specs.Digits.{three_digits, is_day_stamp, day_text}
use Rattle.hazard_types.specs.Names.{zone_text}
use Rattle.hazard_types.specs.Places.{Place, are_letters, is_number, by_place}
use Rattle.hazard_types.specs.declared.calendar.DayStamp.{DayStamp}
use Rattle.ugc_codes.specs.declared.span.Span.{Span}

-- what a group names: a zone, or the zones from it to a greater number
pub record IsSpan (s : Span) : Type 0 where
  pub state : length s.first.state ≡ 2
  pub letters : IsTrue (are_letters s.first.state)
  pub first : IsTrue (is_number s.first.number)
  pub last : s.last ≤ 999
  pub order : s.first.number ≤ s.last

-- > and the last number of a run
unfoldable pub run_end : Span → List ℕ
run_end s = if s.first.number == s.last then [] else 62 ∷ three_digits s.last

-- a group with state and kind
abbrev pub full_text : Span → List ℕ
full_text s = zone_text s.first ++ run_end s

-- a group that takes state and kind from the code before
abbrev pub short_text : Span → List ℕ
short_text s = three_digits s.first.number ++ run_end s

-- state and kind are those of the code before
abbrev pub Follows : Option Place → Place → Type 0
Follows None p = ⊥
Follows (Some b) p = (b.state ≡ p.state) × (b.kind ≡ p.kind)

-- the text of a group, behind a code or at the begin
abbrev pub Spells : Option Place → Span → List ℕ → Type 0
Spells before s text = (text ≡ full_text s) ⊎ (Follows before s.first × (text ≡ short_text s))

-- blanks, CR and LF, which may follow a hyphen
abbrev pub is_gap : ℕ → Bool
is_gap c = (c == 32) || (c == 9) || (c == 13) || (c == 10)

-- blanks, CR and LF alone
abbrev pub IsGap : List ℕ → Type 0
IsGap = AllByRecursion (λ c. IsTrue (is_gap c))

-- groups, each with its hyphen and the gap behind it
abbrev pub AreGroups : Option Place → List Span → List ℕ → Type 0
AreGroups before [] text = text ≡ []
AreGroups before (s ∷ spans) text = (own : List ℕ) × (gap : List ℕ) × (rest : List ℕ) × IsSpan s × Spells before s own × IsGap gap × AreGroups (Some s.first) spans rest × (text ≡ own ++ 45 ∷ (gap ++ rest))

-- the last code of groups
abbrev pub last_code : Option Place → List Span → Option Place
last_code before [] = before
last_code before (s ∷ spans) = last_code (Some s.first) spans

-- a code stands before
abbrev pub HasCode : Option Place → Type 0
HasCode None = ⊥
HasCode (Some p) = Unit {0}

-- a zone is append_group into its place, once
abbrev pub add : List Place → Place → List Place
add = insert_key by_place

-- the zone of the same state and kind with another number
abbrev pub numbered : Place → ℕ → Place
numbered p n = record { state = p.state; kind = p.kind; number = n }

-- as many zones, from this one on
abbrev pub add_run : List Place → Place → ℕ → List Place
add_run zones p zero = zones
add_run zones p (suc k) = add_run (add zones p) (numbered p (p.number + 1)) k

-- with the zones of groups
abbrev pub add_spans : List Place → List Span → List Place
add_spans zones [] = zones
add_spans zones (s ∷ spans) = add_spans (add_run zones s.first (s.last + 1 - s.first.number)) spans

-- the zones of groups, in order, each once
abbrev pub zones_of : List Span → List Place
zones_of = add_spans []

-- the first bytes are a UGC text: groups, of which there is one at least, and the expiry with its hyphen
pub record IsUgc (bytes : List ℕ) (named : List Place) (d : DayStamp) (n : ℕ) : Type 0 where
  pub spans : List Span
  pub front : List ℕ
  pub rest : List ℕ
  pub groups : AreGroups None spans front
  pub code : HasCode (last_code None spans)
  pub day : IsTrue (is_day_stamp d)
  pub whole : bytes ≡ front ++ (day_text d ++ 45 ∷ rest)
  pub zones : named ≡ zones_of spans
  pub used : n ≡ length front + 7
