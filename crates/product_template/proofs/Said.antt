-- What is said of a line has no LF, and begins with a dot or an asterisk.
use Rattle.std.proofs.Common.{◌≡◌, ℕ, ◌==◌, not, true, false, List, [], ◌∷◌, ◌++◌, ◌≤◌, map, refl, ap, inl, inr, arith, Option, Some, None, codes}
use Rattle.std.specs.Prelude.{unwrap_or, nat_lt, nat_le}
use Rattle.std.specs.List.{AllByRecursion, list_all}
use Rattle.std.proofs.lemmas.Bool.{cases_Bool, and_parts, and_from, leb-true, ne_eqb}
use Rattle.desk_clock.specs.LocalText.{local_short_of, local_line_of, line_of}
use Rattle.hazard_types.specs.Characters.{is_printable}
use Rattle.hazard_types.specs.Hazards.{DeskHazard, desk_hazards, value_of, name_rows, name_of}
use Rattle.hazard_types.specs.Same.{same_hazard}
use Rattle.hazard_types.specs.declared.codes.Action.{Action}
use Rattle.hazard_types.specs.declared.codes.Action.TheVariants.{New, Con, Exa, Ext, Exb, Upg, Can, Exp, Cor, Rou}
use Rattle.hazard_types.specs.declared.codes.LocalZone.{LocalZone}
use Rattle.hazard_types.specs.declared.hazard.Hazard.{Hazard}
use Rattle.hazard_types.specs.declared.line.SegLine.{SegLine}
use Rattle.hazard_types.specs.declared.period.End.{End}
use Rattle.hazard_types.specs.declared.period.End.TheVariants.{At, Ufn}
use Rattle.headline_text.specs.Headlines.{name_text, standing_headline, told, expiry_of, headline_by, headline_of, capital, has_when_bullet, when_of}
use Rattle.headline_text.specs.Lines.{is_one_line}
use Rattle.headline_text.specs.Periods.{until_of, from_of, period_of}
use Rattle.product_frame.proofs.LocalLines.{NoEnd, local_line}
use Rattle.product_frame.proofs.Runs.{all_front}
use Rattle.product_template.proofs.Wrapped.{BeginsMild}
use Rattle.product_template.proofs.Mild.{not_true}

abbrev pub IsLine : List ℕ → Type 0
IsLine t = is_one_line t ≡ true

pub line_both : (a b : List ℕ) → IsLine a → IsLine b → IsLine (a ++ b)
line_both [] b x y = y
line_both (c ∷ a) b x y = let p = and_parts (not (c == 10)) (is_one_line a) x in and_from _ _ p.0 (line_both a b p.1 y)

line_from : (t : List ℕ) → AllByRecursion NoEnd t → IsLine t
line_from [] h = refl
line_from (c ∷ t) h = and_from _ _ (ap not h.0) (line_from t h.1)

pub line_to : (t : List ℕ) → IsLine t → AllByRecursion NoEnd t
line_to [] h = tt
line_to (c ∷ t) h = let p = and_parts (not (c == 10)) (is_one_line t) h in (not_true (c == 10) p.0, line_to t p.1)

short_one : (z : LocalZone) (m : ℕ) → AllByRecursion NoEnd (local_short_of z m)
unfolding local_short_of local_line_of line_of
short_one z m = all_front NoEnd (local_short_of z m) _ (local_line z m)

short_line : (z : LocalZone) (m : ℕ) → IsLine (local_short_of z m)
short_line z m = line_from (local_short_of z m) (short_one z m)

-- ---- names of hazards

beside_line : (rows : List DeskHazard) (h : Hazard) → list_all (λ (d : DeskHazard). is_one_line d.name) rows ≡ true → IsLine (unwrap_or (value_of (map (λ (d : DeskHazard). (d.hazard, d.name)) rows) h) [])
beside_line [] h k = refl
beside_line (d ∷ rows) h k =
    let p = and_parts (is_one_line d.name) (list_all (λ (d : DeskHazard). is_one_line d.name) rows) k in
    elim (cases_Bool (same_hazard d.hazard h)) [ inl e ↦ rw e p.0 | inr e ↦ rw e (beside_line rows h p.1) ]

names_are_lines : list_all (λ (d : DeskHazard). is_one_line d.name) desk_hazards ≡ true
unfolding desk_hazards
names_are_lines = refl

name_line : (h : Hazard) → IsLine (name_text h)
unfolding name_of name_rows
name_line h = beside_line desk_hazards h names_are_lines

-- ---- periods

until_line : (z : LocalZone) (end : End) → IsLine (until_of z end)
until_line z (At end) = short_line z end
until_line z Ufn = refl

from_line : (z : LocalZone) (begin : ℕ) (end : End) → IsLine (from_of z begin end)
from_line z begin (At end) = line_both (codes "from " ++ local_short_of z begin ++ codes " to ") (local_short_of z end) (line_both (codes "from " ++ local_short_of z begin) (codes " to ") (short_line z begin) refl) (short_line z end)
from_line z begin Ufn = line_both (codes "from " ++ local_short_of z begin) (codes " until further notice") (short_line z begin) refl

period_line : (z : LocalZone) (t : ℕ) (begin : Option ℕ) (end : End) → IsLine (period_of z t begin end)
unfolding period_of
period_line z t None end = until_line z end
period_line z t (Some begin) end = elim (cases_Bool (nat_le begin t)) [ inl e ↦ rw e (until_line z end) | inr e ↦ rw e (from_line z begin end) ]

-- ---- headlines

stated_line : (name effect period : List ℕ) → IsLine name → IsLine effect → IsLine period → IsLine (standing_headline name effect period)
stated_line name effect period n e p = line_both (codes "..." ++ name ++ effect ++ period) (codes "...") (line_both (codes "..." ++ name ++ effect) period (line_both (codes "..." ++ name) effect n e) p) refl

told_line : (name what : List ℕ) → IsLine name → IsLine what → IsLine (told name what)
told_line name what n w = line_both (codes "...The " ++ name ++ what) (codes "...") (line_both (codes "...The " ++ name) what n w) refl

expiry_line : (end : End) (z : LocalZone) (t : ℕ) → IsLine (expiry_of end z t)
expiry_line (At end) z t = elim (cases_Bool (nat_lt t end)) [ inl e ↦ rw e (short_line z end) | inr e ↦ rw e refl ]
expiry_line Ufn z t = refl

abbrev pub IsFit : List ℕ → Type 0
IsFit t = BeginsMild t × IsLine t

headline_by_fit : (a : Action) (name : List ℕ) (begin : Option ℕ) (end : End) (z : LocalZone) (t : ℕ) → IsLine name → IsFit (headline_by a name begin end z t)
headline_by_fit New name begin end z t n = ((refl, refl), stated_line name (codes " in effect ") (period_of z t begin end) n refl (period_line z t begin end))
headline_by_fit Exa name begin end z t n = ((refl, refl), stated_line name (codes " in effect ") (period_of z t begin end) n refl (period_line z t begin end))
headline_by_fit Exb name begin end z t n = ((refl, refl), stated_line name (codes " in effect ") (period_of z t begin end) n refl (period_line z t begin end))
headline_by_fit Ext name begin end z t n = ((refl, refl), stated_line name (codes " now in effect ") (period_of z t begin end) n refl (period_line z t begin end))
headline_by_fit Con name begin end z t n = ((refl, refl), stated_line name (codes " remains in effect ") (period_of z t begin end) n refl (period_line z t begin end))
headline_by_fit Cor name begin end z t n = ((refl, refl), stated_line name (codes " remains in effect ") (period_of z t begin end) n refl (period_line z t begin end))
headline_by_fit Can name begin end z t n = ((refl, refl), told_line name (codes " is cancelled") n refl)
headline_by_fit Upg name begin end z t n = ((refl, refl), told_line name (codes " is upgraded") n refl)
headline_by_fit Exp name begin end z t n = ((refl, refl), told_line name (expiry_of end z t) n (expiry_line end z t))
headline_by_fit Rou name begin end z t n = (tt, refl)

pub headline_fit : (l : SegLine) (z : LocalZone) (t : ℕ) → IsFit (headline_of l z t)
unfolding headline_of
headline_fit l z t = headline_by_fit l.action (name_text l.event.hazard) l.begin l.end z t (name_line l.event.hazard)

-- ---- the WHEN bullet

until_capital : (z : LocalZone) (end : End) → IsLine (capital (until_of z end))
until_capital z (At end) = short_line z end
until_capital z Ufn = refl

from_capital : (z : LocalZone) (begin : ℕ) (end : End) → IsLine (capital (from_of z begin end))
from_capital z begin (At end) = from_line z begin (At end)
from_capital z begin Ufn = from_line z begin Ufn

period_capital : (z : LocalZone) (t : ℕ) (begin : Option ℕ) (end : End) → IsLine (capital (period_of z t begin end))
unfolding period_of
period_capital z t None end = until_capital z end
period_capital z t (Some begin) end = elim (cases_Bool (nat_le begin t)) [ inl e ↦ rw e (until_capital z end) | inr e ↦ rw e (from_capital z begin end) ]

pub when_fit : (l : SegLine) (z : LocalZone) (t : ℕ) → IsFit (when_of l z t)
unfolding when_of
when_fit l z t = elim (cases_Bool (has_when_bullet l.action)) [
  | inl e ↦ rw e ((refl, refl), line_both (codes "* WHEN..." ++ capital (period_of z t l.begin l.end)) (codes ".") (period_capital z t l.begin l.end) refl)
  | inr e ↦ rw e (tt, refl)
]

-- ---- texts of forecasters

printable_no_end : (c : ℕ) → is_printable c ≡ true → (c == 10) ≡ false
printable_no_end c h = let le : 32 ≤ c = leb-true 32 c (and_parts _ _ h).0 in ne_eqb _ _ (λ (e : c ≡ 10). omega arith)

pub printable_line : (t : List ℕ) → list_all is_printable t ≡ true → IsLine t
printable_line [] h = refl
printable_line (c ∷ t) h = let p = and_parts (is_printable c) (list_all is_printable t) h in and_from _ _ (ap not (printable_no_end c p.0)) (printable_line t p.1)
