-- The abbreviations of local time: their letters, and how far their clocks are behind UTC.
use Rattle.std.specs.Prelude.{ℕ, List, codes}
use Rattle.desk_clock.specs.declared.abbreviations.Abbreviation.{Abbreviation}
use Rattle.desk_clock.specs.declared.abbreviations.Abbreviation.TheVariants.{Ast, Est, Edt, Cst, Cdt, Mst, Mdt, Pst, Pdt, Akst, Akdt, Hst, Utc, Gmt}

-- the letters of an abbreviation, and how many hours its clock is behind UTC
abbrev letters_and_hours : Abbreviation → List ℕ × ℕ
letters_and_hours Ast = (codes "AST", 4)
letters_and_hours Est = (codes "EST", 5)
letters_and_hours Edt = (codes "EDT", 4)
letters_and_hours Cst = (codes "CST", 6)
letters_and_hours Cdt = (codes "CDT", 5)
letters_and_hours Mst = (codes "MST", 7)
letters_and_hours Mdt = (codes "MDT", 6)
letters_and_hours Pst = (codes "PST", 8)
letters_and_hours Pdt = (codes "PDT", 7)
letters_and_hours Akst = (codes "AKST", 9)
letters_and_hours Akdt = (codes "AKDT", 8)
letters_and_hours Hst = (codes "HST", 10)
letters_and_hours Utc = (codes "UTC", 0)
letters_and_hours Gmt = (codes "GMT", 0)

abbrev pub letters_of : Abbreviation → List ℕ
letters_of a = (letters_and_hours a).0

abbrev pub hours_behind : Abbreviation → ℕ
hours_behind a = (letters_and_hours a).1
