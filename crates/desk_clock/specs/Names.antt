-- The names of months and weekdays, and names read without regard to letter case.
use Rattle.std.specs.Prelude.{ℕ, ◌+◌, ◌-◌, ◌%◌, Bool, List, [], ◌∷◌, codes, slice_index_or, Option}
use Rattle.std.specs.List.{position, find}
use Rattle.std.specs.Str.{str_eq_ignore_ascii_case}
use Rattle.desk_clock.specs.declared.abbreviations.Abbreviation.{Abbreviation}
use Rattle.desk_clock.specs.declared.abbreviations.Abbreviation.TheVariants.{Ast, Est, Edt, Cst, Cdt, Mst, Mdt, Pst, Pdt, Akst, Akdt, Hst, Utc, Gmt}
use Rattle.desk_clock.specs.Abbreviations.{letters_of}

unfoldable pub month_names : List (List ℕ)
month_names = codes "Jan" ∷ codes "Feb" ∷ codes "Mar" ∷ codes "Apr" ∷ codes "May" ∷ codes "Jun" ∷ codes "Jul" ∷ codes "Aug" ∷ codes "Sep" ∷ codes "Oct" ∷ codes "Nov" ∷ codes "Dec" ∷ []

unfoldable pub weekday_names : List (List ℕ)
weekday_names = codes "Mon" ∷ codes "Tue" ∷ codes "Wed" ∷ codes "Thu" ∷ codes "Fri" ∷ codes "Sat" ∷ codes "Sun" ∷ []

unfoldable pub abbreviations : List Abbreviation
abbreviations = Ast ∷ Est ∷ Edt ∷ Cst ∷ Cdt ∷ Mst ∷ Mdt ∷ Pst ∷ Pdt ∷ Akst ∷ Akdt ∷ Hst ∷ Utc ∷ Gmt ∷ []

-- the name of a month from 1 to 12
abbrev pub month_name : ℕ → List ℕ
month_name month = slice_index_or month_names (month - 1) []

-- the weekday of a day since 1999-12-31, which was a Friday
abbrev pub weekday_name : ℕ → List ℕ
weekday_name day = slice_index_or weekday_names ((day + 4) % 7) []

abbrev pub same_letters : List ℕ → List ℕ → Bool
same_letters = str_eq_ignore_ascii_case

-- the place of a name among these
abbrev pub find_name : List (List ℕ) → List ℕ → Option ℕ
find_name names word = position (λ (name : List ℕ). same_letters word name) names

-- the abbreviation with these letters
abbrev pub parse_abbreviation : List ℕ → Option Abbreviation
parse_abbreviation word = find (λ (a : Abbreviation). same_letters word (letters_of a)) abbreviations
