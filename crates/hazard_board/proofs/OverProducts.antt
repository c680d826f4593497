-- Rows stay consistent over products as a reader sees them.
use Rattle.std.proofs.Common.{◌≡◌, ℕ, List, [], ◌∷◌, true, refl, fold}
use Rattle.std.specs.List.Sorted.{IsStrictlySortedBy}
use Rattle.hazard_types.specs.Days.{year_of}
use Rattle.hazard_types.specs.ZoneLines.{ZoneLine}
use Rattle.hazard_types.specs.declared.line.Row.{Row}
use Rattle.event_life.specs.Products.{Product, by_key, is_new, line_of, lines_of, rows_with, rows_of}
use Rattle.event_life.proofs.Puts.{rows_after-sorted}
use Rattle.hazard_board.specs.Consistent.{IsConsistent, NoneIsAhead, AreOfTheYear, LeaveNoClash}
use Rattle.hazard_board.proofs.ConsistentLemmas.{stays_consistent}
use Rattle.hazard_board.proofs.NumberLemmas.{stays_behind, behind_hold, after_consistent}

-- a NEW line is read as of an event of the year of issue
year_read : (rows : List Row) (t : ℕ) (said : ZoneLine) → is_new said.vtec.action ≡ true → (line_of rows t said).event.year ≡ year_of t
year_read rows t said new = rw new refl

pub years_read : (rows : List Row) (t : ℕ) (said : List ZoneLine) → AreOfTheYear (lines_of rows t said) t
years_read rows t [] = tt
years_read rows t (line ∷ said) = (year_read rows t line, years_read rows t said)

from_rows : (rows : List Row) (t u : ℕ) (products : List Product) → IsStrictlySortedBy by_key rows → IsConsistent rows t → NoneIsAhead rows t → LeaveNoClash rows t u products → IsConsistent (fold rows_with rows products) u
from_rows rows t u [] up before ahead le = stays_consistent rows t u le before
from_rows rows t u (p ∷ products) up before ahead h =
    let lines = lines_of rows p.issue p.said in
    let years = years_read rows p.issue p.said in
    let behind = stays_behind rows t p.issue h.0 ahead in
    from_rows (rows_with rows p) p.issue u products
    (rows_after-sorted rows p.issue lines up)
    (after_consistent rows p.issue lines up (stays_consistent rows t p.issue h.0 before) behind years h.1)
    (behind_hold rows p.issue lines up behind years)
    h.2

pub read_consistent : (products : List Product) (t u : ℕ) → LeaveNoClash [] t u products → IsConsistent (rows_of products) u
unfolding IsStrictlySortedBy
read_consistent products t u h = from_rows [] t u products tt (record { apart = tt; numbered = tt; ends = tt }) tt h
