-- Clashes of rows in order stand in order, and the first of them is the least.
use Rattle.std.proofs.Common.{◌≡◌, ◌∙◌, ◌&&◌, not, ℕ, List, [], ◌∷◌, ◌++◌, Bool, true, false, Option, Ordering, Less, Equal, Greater, refl, sym, ap, subst, map, filter, find, option_map, Result, IfOk}
use Rattle.std.specs.List.{AllByRecursion}
use Rattle.std.specs.List.Sorted.{IsStrictlySortedBy}
use Rattle.std.specs.Option.{option_or}
use Rattle.std.specs.Ordering.{ordering_then}
use Rattle.std.proofs.lemmas.Bool.{and_parts}
use Rattle.std.proofs.lemmas.Cmp.{tied_itself}
use Rattle.hazard_types.specs.Orders.{by_event}
use Rattle.hazard_types.specs.Places.{Place, by_place}
use Rattle.hazard_types.specs.Same.{same_zone, same_event}
use Rattle.hazard_types.specs.declared.line.Clash.{Clash}
use Rattle.hazard_types.specs.declared.line.Line.{Line}
use Rattle.hazard_types.specs.declared.line.Row.{Row}
use Rattle.event_life.specs.Periods.{is_live, overlaps}
use Rattle.event_life.specs.Products.{by_key}
use Rattle.event_life.proofs.OnceLemmas.{all_joined}
use Rattle.hazard_types.proofs.Equality.{zone_one}
use Rattle.hazard_types.proofs.OrderLaws.{by_place_total, by_event_total}
use Rattle.hazard_board.specs.Clashes.{clash, clash_of, clashes, first_in, first_clash, least_clash, by_clash, least_after, clashes_after}
use Rattle.hazard_board.specs.Taken.{rows_taken}
use Rattle.hazard_board.proofs.Turns.{rows_taken-sorted}

first_step : (b : Bool) (f : Row → Clash) (p : Row → Bool) (r : Row) (rows : List Row) (more : List Clash) → p r ≡ b →
    first_in (map f (filter p rows) ++ more) ≡ option_or (option_map f (find p rows)) (first_in more) →
    first_in (map f (filter p (r ∷ rows)) ++ more) ≡ option_or (option_map f (find p (r ∷ rows))) (first_in more)
first_step true f p r rows more e rest = rw e refl
first_step false f p r rows more e rest = rw e rest

first_joined : (f : Row → Clash) (p : Row → Bool) (rows : List Row) (more : List Clash) → first_in (map f (filter p rows) ++ more) ≡ option_or (option_map f (find p rows)) (first_in more)
first_joined f p [] more = refl
first_joined f p (r ∷ rows) more = first_step (p r) f p r rows more refl (first_joined f p rows more)

-- the first row that clashes gives the first clash
pub first_is_least : (t : ℕ) (rows : List Row) → first_clash t rows ≡ least_clash t rows
first_is_least t [] = refl
first_is_least t (row ∷ rows) =
    ap (λ (o : Option Clash). option_or (option_map (clash_of row) (find (clash t row) rows)) o) (first_is_least t rows)
    ∙ sym (first_joined (clash_of row) (clash t row) rows (clashes t rows))

-- order

then_less : (p q r : Ordering) → ordering_then p q ≡ Less → ordering_then p (ordering_then q r) ≡ Less
then_less Less q r h = refl
then_less Equal Less r h = refl
then_less Equal Equal r h = cc
then_less Equal Greater r h = cc
then_less Greater q r h = cc

all_step : (b : Bool) (P : Row → Type 0) (Q : Clash → Type 0) (f : Row → Clash) (p : Row → Bool) (r : Row) (rows : List Row) → p r ≡ b → (b ≡ true → Q (f r)) → AllByRecursion Q (map f (filter p rows)) → AllByRecursion Q (map f (filter p (r ∷ rows)))
all_step true P Q f p r rows e own rest = rw e (own refl, rest)
all_step false P Q f p r rows e own rest = rw e rest

all_kept : (P : Row → Type 0) (Q : Clash → Type 0) (f : Row → Clash) (p : Row → Bool) (rows : List Row) → AllByRecursion P rows → ((r : Row) → P r → p r ≡ true → Q (f r)) → AllByRecursion Q (map f (filter p rows))
all_kept P Q f p [] all each = tt
all_kept P Q f p (r ∷ rows) all each = all_step (p r) P Q f p r rows refl (λ e. each r all.0 e) (all_kept P Q f p rows all.1 each)

one_zone : (t : ℕ) (a b : Row) → clash t a b ≡ true → a.zone ≡ b.zone
one_zone t a b h =
    let p = and_parts (same_zone a.zone b.zone && is_live t a && is_live t b && overlaps a.period b.period && not (same_event a.event b.event)) _ h in
    let q = and_parts (same_zone a.zone b.zone && is_live t a && is_live t b && overlaps a.period b.period) _ p.0 in
    let r = and_parts (same_zone a.zone b.zone && is_live t a && is_live t b) _ q.0 in
    let s = and_parts (same_zone a.zone b.zone && is_live t a) _ r.0 in
    zone_one a.zone b.zone (and_parts (same_zone a.zone b.zone) _ s.0).0

-- of one row's clashes those with an earlier row come first
by_second : (t : ℕ) (row a b : Row) → clash t row a ≡ true → clash t row b ≡ true → by_key a b ≡ Less → by_clash (clash_of row a) (clash_of row b) ≡ Less
by_second t row a b h g less =
    let zones : a.zone ≡ b.zone = sym (one_zone t row a h) ∙ one_zone t row b g in
    let tied : by_place a.zone b.zone ≡ Equal = ap (λ (z : Place). by_place a.zone z) (sym zones) ∙ tied_itself by_place_total a.zone in
    let second : by_event a.event b.event ≡ Less = sym (ap (λ (o : Ordering). ordering_then o (by_event a.event b.event)) tied) ∙ less in
    rw (tied_itself by_place_total row.zone, tied_itself by_event_total row.event) second

-- clashes of a row come before those of later rows
by_first : (row a : Row) (b d : Row) → by_key row a ≡ Less → by_clash (clash_of row b) (clash_of a d) ≡ Less
by_first row a b d less = then_less (by_place row.zone a.zone) (by_event row.event a.event) (by_event b.event d.event) less

own_step : (c : Bool) (t : ℕ) (row b : Row) (rows : List Row) → clash t row b ≡ c → AllByRecursion (λ y. by_key b y ≡ Less) rows → IsStrictlySortedBy by_clash (map (clash_of row) (filter (clash t row) rows)) → IsStrictlySortedBy by_clash (map (clash_of row) (filter (clash t row) (b ∷ rows)))
unfolding IsStrictlySortedBy
own_step true t row b rows e above rest = rw e (all_kept (λ y. by_key b y ≡ Less) (λ d. by_clash (clash_of row b) d ≡ Less) (clash_of row) (clash t row) rows above (λ r less g. by_second t row b r e g less), rest)
own_step false t row b rows e above rest = rw e rest

own_sorted : (t : ℕ) (row : Row) (rows : List Row) → IsStrictlySortedBy by_key rows → IsStrictlySortedBy by_clash (map (clash_of row) (filter (clash t row) rows))
unfolding IsStrictlySortedBy
own_sorted t row [] up = tt
own_sorted t row (b ∷ rows) up = own_step (clash t row b) t row b rows refl up.0 (own_sorted t row rows up.1)

later_above : (t : ℕ) (row b : Row) (rows : List Row) → AllByRecursion (λ y. by_key row y ≡ Less) rows → AllByRecursion (λ d. by_clash (clash_of row b) d ≡ Less) (clashes t rows)
later_above t row b [] above = tt
later_above t row b (a ∷ rows) above =
    all_joined (λ d. by_clash (clash_of row b) d ≡ Less) (map (clash_of a) (filter (clash t a) rows)) (clashes t rows)
    (all_kept (λ y. by_key row y ≡ Less) (λ d. by_clash (clash_of row b) d ≡ Less) (clash_of a) (clash t a) rows above.1 (λ r less g. by_first row a b r above.0))
    (later_above t row b rows above.1)

sorted_joined : (xs ys : List Clash) → IsStrictlySortedBy by_clash xs → IsStrictlySortedBy by_clash ys → AllByRecursion (λ x. AllByRecursion (λ y. by_clash x y ≡ Less) ys) xs → IsStrictlySortedBy by_clash (xs ++ ys)
unfolding IsStrictlySortedBy
sorted_joined [] ys up more all = more
sorted_joined (x ∷ xs) ys up more all = (all_joined (λ y. by_clash x y ≡ Less) xs ys up.0 all.0, sorted_joined xs ys up.1 more all.1)

-- clashes of rows in order stand in order
pub clashes_sorted : (t : ℕ) (rows : List Row) → IsStrictlySortedBy by_key rows → IsStrictlySortedBy by_clash (clashes t rows)
unfolding IsStrictlySortedBy
clashes_sorted t [] up = tt
clashes_sorted t (row ∷ rows) up =
    sorted_joined (map (clash_of row) (filter (clash t row) rows)) (clashes t rows) (own_sorted t row rows up.1) (clashes_sorted t rows up.1)
    (all_kept (λ y. by_key row y ≡ Less) (λ x. AllByRecursion (λ y. by_clash x y ≡ Less) (clashes t rows)) (clash_of row) (clash t row) rows up.0 (λ b less g. later_above t row b rows up.0))

-- after lines, of rows that are those on a board

pub least_taken : {E : Type 0} (t : ℕ) (inside rows : List Row) (slice lines : List Line) (r : Result (Option Clash) E) → inside ≡ rows → slice ≡ lines → IfOk r (λ found. found ≡ first_clash t (rows_taken inside t slice)) → IfOk r (λ found. found ≡ least_after rows t lines)
least_taken t inside rows slice lines r is are found =
    let after : rows_taken inside t slice ≡ rows_taken rows t lines = ap (λ (some : List Row). rows_taken some t slice) is ∙ ap (λ (all : List Line). rows_taken rows t all) are in
    subst (λ (clash : Option Clash). IfOk r (λ found. found ≡ clash)) (ap (first_clash t) after ∙ first_is_least t (rows_taken rows t lines)) found

pub taken_in_order : (t : ℕ) (inside rows : List Row) (lines : List Line) → inside ≡ rows → IsStrictlySortedBy by_key inside → IsStrictlySortedBy by_clash (clashes_after rows t lines)
taken_in_order t inside rows lines is up =
    subst (λ (some : List Row). IsStrictlySortedBy by_clash (clashes_after some t lines)) is (clashes_sorted t (rows_taken inside t lines) (rows_taken-sorted inside t lines up))
