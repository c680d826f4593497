-- Rows of an event with one more stay in order, and those that no line has ended are counted; they tell what is asked of the event.
use Rattle.std.proofs.Common.{◌≡◌, ◌∙◌, ℕ, List, [], ◌∷◌, ◌&&◌, ◌||◌, Bool, true, false, refl, ap, sym, subst}
use Rattle.std.specs.Prelude.{option_map, slice_get}
use Rattle.std.specs.List.{AllByRecursion, list_any}
use Rattle.std.specs.List.Sorted.{IsStrictlySortedBy}
use Rattle.std.specs.Map.{values_of}
use Rattle.hazard_types.specs.Orders.{by_event}
use Rattle.hazard_types.specs.Places.{Place, by_place}
use Rattle.hazard_types.specs.Same.{same_event}
use Rattle.hazard_types.specs.declared.hazard.Event.{Event}
use Rattle.hazard_types.specs.declared.line.Line.{Line}
use Rattle.hazard_types.specs.declared.line.Row.{Row}
use Rattle.hazard_types.proofs.Equality.{event_itself}
use Rattle.event_life.specs.Periods.{is_live, keeps_open, same_at}
use Rattle.event_life.specs.Products.{by_key, has_rows, is_open, has_opened_period}
use Rattle.event_life.specs.Table.{opened_period}
use Rattle.row_index.specs.declared.standing.Standing.{Standing}
use Rattle.row_index.specs.Holding.{told, AreHeld}
use Rattle.row_index.specs.Listing.{list_at}
use Rattle.row_index.specs.Zoning.{AreOf, AreOfFirst, is_first_of}
use Rattle.row_index.specs.Standings.{AreEventRows}
use Rattle.row_index.proofs.HeldRows.{none-sorted, held-own, held-part, is_open-of, has_opened_period-of}
use Rattle.row_index.proofs.Stood.{stood-none}
use Rattle.row_index.proofs.Tests.{any_same}

no_zones : IsStrictlySortedBy by_place []
unfolding IsStrictlySortedBy
no_zones = tt

rows-none : AreEventRows [] []
rows-none = record { zoned = tt; zones_ascending = no_zones; in_order = none-sorted; of_first = tt; standing = stood-none }

pub rows-emptied : (es : List (Place × Row)) (counts : List (Standing × ℕ)) → es ≡ [] → counts ≡ [] → AreEventRows es counts
rows-emptied es counts es_are counts_are = rw (es_are, counts_are) rows-none

pub of-first : (d : Event) (rows : List Row) → AreOf d rows → AreOfFirst rows
of-first d [] all = tt
of-first d (r ∷ rows) all = subst (λ (x : Event). AreOf x rows) (sym all.0) all.1

-- what is asked of an event

none_else : (e d : Event) (rows : List Row) → AreOf d rows → same_event d e ≡ false → has_rows rows e ≡ false
none_else e d [] all other = refl
none_else e d (r ∷ rows) all other = rw (ap (λ (x : Event). same_event x e) all.0 ∙ other) (none_else e d rows all.1 other)

first_or : (b c : Bool) → (b ≡ false → c ≡ false) → b ≡ (b || c)
first_or true c h = refl
first_or false c h = sym (h refl)

-- the first row tells whether there are rows of an event
pub first-tells : (e : Event) (es : List (Place × Row)) → AreOfFirst (values_of es) → is_first_of (option_map (λ (x : Place × Row). x.1) (slice_get es 0)) e ≡ has_rows (values_of es) e
first-tells e [] all = refl
first-tells e (x ∷ es) all = first_or (same_event x.1.event e) (has_rows (values_of es) e) (λ other. none_else e x.1.event (values_of es) all other)

own_or : (b c x y : Bool) → b ≡ true → x ≡ y → (c || x) ≡ ((b && c) || y)
own_or true c x y h later = ap (λ (z : Bool). c || z) later
own_or false c x y h later = cc

any-own : (e : Event) (q : Row → Bool) (rows : List Row) → AllByRecursion (λ (r : Row). r.event ≡ e) rows → list_any q rows ≡ list_any (λ (r : Row). same_event r.event e && q r) rows
any-own e q [] own = refl
any-own e q (r ∷ rows) own =
    own_or (same_event r.event e) (q r) (list_any q rows) (list_any (λ (r : Row). same_event r.event e && q r) rows)
    (subst (λ (d : Event). same_event d e ≡ true) (sym own.0) (event_itself e)) (any-own e q rows own.1)

pub open-held : (es : List (Event × List Row)) (t : ℕ) (e : Event) → AreHeld es → IsStrictlySortedBy by_key (list_at by_event es e) → list_any (keeps_open t) (list_at by_event es e) ≡ is_open (told es) t e
open-held es t e held up =
    let part = list_at by_event es e in
    any-own e (keeps_open t) part (held-own es e held) ∙ is_open-of (told es) part e (held-part es e part held refl up) t

grouped : (a b c : Bool) → (a && (b && c)) ≡ ((a && b) && c)
grouped true b c = refl
grouped false b c = refl

pub same-held : (es : List (Event × List Row)) (t : ℕ) (line : Line) → AreHeld es → IsStrictlySortedBy by_key (list_at by_event es line.event)
    → list_any (λ (r : Row). is_live t r && same_at t r.period (opened_period line t)) (list_at by_event es line.event) ≡ has_opened_period (told es) t line
same-held es t line held up =
    let e = line.event in
    let p = opened_period line t in
    let part = list_at by_event es e in
    any-own e (λ r. is_live t r && same_at t r.period p) part (held-own es e held)
    ∙ any_same (λ r. same_event r.event e && (is_live t r && same_at t r.period p)) (λ r. same_event r.event e && is_live t r && same_at t r.period p) part
    (λ r. grouped (same_event r.event e) (is_live t r) (same_at t r.period p))
    ∙ has_opened_period-of (told es) part t line (held-part es e part held refl up)
