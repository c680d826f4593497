-- Lines of which no one is a second one: behind zones that rise, of an event each in a zone, or by what their seats tell.
use Rattle.std.proofs.Common.{◌≡◌, ◌∙◌, ℕ, ◌+◌, ◌<◌, ◌≤◌, List, [], ◌∷◌, ◌++◌, ◌&&◌, ◌||◌, not, Bool, true, false, Option, Some, None, Ordering, Less, Equal, Greater, length, take, get_or, map, refl, ap, sym, subst, append_assoc, append-nil, arith, flat_map}
use Rattle.std.proofs.lemmas.Bool.{and_parts}
use Rattle.std.proofs.lemmas.List.{map-append, take_all}
use Rattle.std.proofs.lemmas.List.Folds.{list_any-append}
use Rattle.std.specs.BTreeMap.{is_at}
use Rattle.std.specs.BTreeSet.{insert_key}
use Rattle.std.specs.List.{AllByRecursion, list_any}
use Rattle.std.specs.Ordering.{is_lt, ordering_reverse}
use Rattle.hazard_types.specs.Orders.{by_event}
use Rattle.hazard_types.specs.Places.{Place, by_place}
use Rattle.hazard_types.specs.Same.{same_event, same_zone}
use Rattle.hazard_types.specs.declared.hazard.Event.{Event}
use Rattle.hazard_types.specs.declared.line.Line.{Line}
use Rattle.hazard_types.specs.declared.line.Row.{Row}
use Rattle.hazard_types.proofs.OrderLaws.{by_place_total, by_event_total, by_event_ties}
use Rattle.event_life.specs.declared.life.Breach.{Breach}
use Rattle.event_life.specs.Products.{breach_in, is_routine, is_second, judged_from, concerns}
use Rattle.row_index.specs.declared.seats.Seat.{Seat}
use Rattle.row_index.specs.declared.verdicts.Part.{Part}
use Rattle.row_index.specs.Apart.{all_rise, is_after_last_zone, last_zone, zones_rise, AreEventsOf, SaysAll, Spoke}
use Rattle.row_index.specs.Risen.{Says}
use Rattle.row_index.specs.Runs.{in_zone}
use Rattle.row_index.specs.Seating.{has_seat, key_of_line, speaks}
use Rattle.row_index.specs.Telling.{Tells}
use Rattle.row_index.specs.Verdicts.{first_judged, lines_in, said_along, said_at, said_in, AreFirst, HaveOwnEvents, Judged}
use Rattle.row_index.proofs.Seated.{event_by, same_by, second_told}
use Rattle.row_index.proofs.Spelling.{flat_next, longer}
use Rattle.row_index.proofs.Tests.{any_insert, any_same, or_false}

-- small tests

none_of : (a b : Bool) → a ≡ false → b ≡ false → (a || b) ≡ false
none_of a b p q = rw (p, q) refl

other_event : (a b c : Bool) → b ≡ false → (a && b && c) ≡ false
other_event true b c h = rw h refl
other_event false b c h = refl

other_zone : (a b c : Bool) → c ≡ false → (a && b && c) ≡ false
other_zone true true c h = h
other_zone true false c h = refl
other_zone false b c h = refl

less_of : (o : Ordering) → is_lt o ≡ true → o ≡ Less
less_of Less h = refl
less_of Equal h = cc
less_of Greater h = cc

either_false : (a b : Bool) → (a || b) ≡ false → (a ≡ false) × (b ≡ false)
either_false true b h = (h, cc)
either_false false b h = (refl, h)

all_more : {X : Type 0} (P : X → Type 0) (xs : List X) (x : X) → AllByRecursion P xs → P x → AllByRecursion P (xs ++ x ∷ [])
all_more P [] x all p = (p, tt)
all_more P (y ∷ ys) x all p = (all.0, all_more P ys x all.1 p)

none_each : {X : Type 0} (p : X → Bool) (xs : List X) → list_any p xs ≡ false → AllByRecursion (λ (x : X). p x ≡ false) xs
none_each p [] h = tt
none_each p (x ∷ xs) h = let both = either_false (p x) (list_any p xs) h in (both.0, none_each p xs both.1)

-- a line that speaks is no second one where only zones before it were spoken of, or other events in its zone

abbrev IsPast : Option Place → List Line → Type 0
IsPast last earlier = (e : Event) (z : Place) → is_after_last_zone last z ≡ true → list_any (concerns e z) earlier ≡ false

past_last : (last : Option Place) (z y : Place) → is_after_last_zone last z ≡ true → by_place z y ≡ Less → is_after_last_zone last y ≡ true
past_last None z y h less = refl
past_last (Some l) z y h less = ap is_lt (by_place_total.trans l z y (less_of (by_place l z) h) less)

zones_apart : (z y : Place) → by_place z y ≡ Less → same_zone z y ≡ false
zones_apart z y less = sym (same_by Greater y z (by_place_total.antisymm y z ∙ ap ordering_reverse less))

none_in : (lines : List Line) (z y : Place) (e : Event) → by_place z y ≡ Less → list_any (concerns e y) (said_at lines z) ≡ false
none_in [] z y e less = refl
none_in (l ∷ lines) z y e less =
    none_of (concerns e y (in_zone l z)) (list_any (concerns e y) (said_at lines z)) (other_zone (not (is_routine l.action)) (same_event l.event e) (same_zone z y) (zones_apart z y less)) (none_in lines z y e less)

past_zone : (lines : List Line) (z : Place) (earlier : List Line) (last : Option Place) → IsPast last earlier → is_after_last_zone last z ≡ true → IsPast (Some z) (earlier ++ said_at lines z)
past_zone lines z earlier last past here = λ e y h.
    let less = less_of (by_place z y) h in
    list_any-append (concerns e y) earlier (said_at lines z)
    ∙ none_of (list_any (concerns e y) earlier) (list_any (concerns e y) (said_at lines z)) (past e y (past_last last z y here less)) (none_in lines z y e less)

abbrev AreOther : Place → List Line → List Line → Type 0
AreOther z earlier lines = AllByRecursion (λ (l : Line). list_any (concerns l.event z) earlier ≡ false) lines

past_each : (lines : List Line) (z : Place) (earlier : List Line) (last : Option Place) → IsPast last earlier → is_after_last_zone last z ≡ true → AreOther z earlier lines
past_each [] z earlier last past here = tt
past_each (l ∷ lines) z earlier last past here = (past l.event z here, past_each lines z earlier last past here)

still_other : (lines : List Line) (z : Place) (earlier : List Line) (l : Line) → AreOther z earlier lines → AllByRecursion (λ (m : Line). same_event l.event m.event ≡ false) lines → AreOther z (earlier ++ in_zone l z ∷ []) lines
still_other [] z earlier l other own = tt
still_other (m ∷ lines) z earlier l other own =
    let here = list_any-append (concerns m.event z) earlier (in_zone l z ∷ [])
    ∙ none_of (list_any (concerns m.event z) earlier) (concerns m.event z (in_zone l z) || false) other.0
    (or_false (concerns m.event z (in_zone l z)) ∙ other_event (not (is_routine l.action)) (same_event l.event m.event) (same_zone z z) own.0) in
    (here, still_other lines z earlier l other.1 own.1)

in_one_zone : (lines : List Line) (z : Place) (earlier rest : List Line) → AreOther z earlier lines → HaveOwnEvents lines → AreFirst (earlier ++ said_at lines z) rest → AreFirst earlier (said_at lines z ++ rest)
in_one_zone [] z earlier rest other own more = subst (λ (all : List Line). AreFirst all rest) (append-nil earlier) more
in_one_zone (l ∷ lines) z earlier rest other own more = (
  other.0,
  in_one_zone lines z (earlier ++ in_zone l z ∷ []) rest (still_other lines z earlier l other.1 own.0) own.1
      (subst (λ (all : List Line). AreFirst all rest) (sym (append_assoc earlier (in_zone l z ∷ []) (said_at lines z))) more),
)

along_zones : (zones : List Place) (lines : List Line) (last : Option Place) (earlier rest : List Line) → IsPast last earlier → zones_rise last zones ≡ true → HaveOwnEvents lines
    → (IsPast (last_zone last zones) (earlier ++ said_along lines zones) → AreFirst (earlier ++ said_along lines zones) rest) → AreFirst earlier (said_along lines zones ++ rest)
along_zones [] lines last earlier rest past rise own more =
    let all = append-nil earlier in
    subst (λ (all : List Line). AreFirst all rest) all (more (subst (λ (all : List Line). IsPast last all) (sym all) past))
along_zones (z ∷ zones) lines last earlier rest past rise own more =
    let both = and_parts (is_after_last_zone last z) (zones_rise (Some z) zones) rise in
    let here = said_at lines z in
    let later = said_along lines zones in
    subst (λ (all : List Line). AreFirst earlier all) (sym (append_assoc here later rest))
    (in_one_zone lines z earlier (later ++ rest) (past_each lines z earlier last past both.0) own
    (along_zones zones lines (Some z) (earlier ++ here) rest (past_zone lines z earlier last past both.0) both.1 own
    (subst (λ (all : List Line). IsPast (last_zone (Some z) zones) all → AreFirst all rest) (sym (append_assoc earlier here later)) more)))

along_parts : (parts : List Part) (last : Option Place) (earlier : List Line) → IsPast last earlier → all_rise last parts ≡ true → AllByRecursion (λ (p : Part). HaveOwnEvents p.lines) parts → AreFirst earlier (lines_in parts)
along_parts [] last earlier past rise own = tt
along_parts (p ∷ parts) last earlier past rise own =
    let both = and_parts (zones_rise last p.zones.now) (all_rise (last_zone last p.zones.now) parts) rise in
    along_zones p.zones.now p.lines last earlier (lines_in parts) past both.0 own.0
    (λ more. along_parts parts (last_zone last p.zones.now) (earlier ++ said_in p) more both.1 own.1)

pub first-rising : (parts : List Part) → all_rise None parts ≡ true → AllByRecursion (λ (p : Part). HaveOwnEvents p.lines) parts → AreFirst [] (lines_in parts)
first-rising parts rise own = along_parts parts None [] (λ e z h. refl) rise own

-- lines of an event each

own_more : (lines : List Line) (l : Line) → HaveOwnEvents lines → AllByRecursion (λ (m : Line). same_event m.event l.event ≡ false) lines → HaveOwnEvents (lines ++ l ∷ [])
own_more [] l own other = (tt, tt)
own_more (m ∷ lines) l own other = (all_more (λ (n : Line). same_event m.event n.event ≡ false) lines l own.0 other.0, own_more lines l own.1 other.1)

pub own_next : (lines : List Line) (i : ℕ) (l : Line) (events : List Event) (new : Bool) → i < length lines → l ≡ get_or lines i l → new ≡ not (list_any (is_at (by_event l.event)) events) → new ≡ true
    → AreEventsOf events (take i lines) → HaveOwnEvents (take i lines) → HaveOwnEvents (take (i + 1) lines)
own_next lines i l events new lt is new_is h tells own =
    let before = take i lines in
    let found : list_any (is_at (by_event l.event)) events ≡ false = not_any (list_any (is_at (by_event l.event)) events) (sym new_is ∙ h) in
    let none : list_any (λ (m : Line). same_event m.event l.event) before ≡ false =
    any_same (λ (m : Line). same_event m.event l.event) (λ (m : Line). is_at (by_event l.event) m.event) before (λ m. sym (event_by (by_event l.event m.event) l.event m.event refl)) ∙ sym (tells (is_at (by_event l.event))) ∙ found in
    subst HaveOwnEvents (sym (longer lines i l lt is)) (own_more before l own (none_each (λ (m : Line). same_event m.event l.event) before none))
  where
    not_any : (b : Bool) → not b ≡ true → b ≡ false
    not_any true h = cc
    not_any false h = refl

or_turned : (a b : Bool) → (a || b) ≡ (b || (a || false))
or_turned true true = refl
or_turned true false = refl
or_turned false true = refl
or_turned false false = refl

pub events_next : (lines : List Line) (i : ℕ) (l : Line) (events next : List Event) → i < length lines → l ≡ get_or lines i l → next ≡ insert_key by_event events l.event
    → AreEventsOf events (take i lines) → AreEventsOf next (take (i + 1) lines)
events_next lines i l events next lt is next_is tells = λ q.
    ap (list_any q) next_is
    ∙ any_insert by_event by_event_total by_event_ties q l.event events
    ∙ ap (λ (b : Bool). q l.event || b) (tells q)
    ∙ or_turned (q l.event) (list_any (λ (m : Line). q m.event) (take i lines))
    ∙ sym (list_any-append (λ (m : Line). q m.event) (take i lines) (l ∷ []))
    ∙ ap (list_any (λ (m : Line). q m.event)) (sym (longer lines i l lt is))

pub own_few : (lines : List Line) → length lines < 2 → HaveOwnEvents lines
own_few [] h = tt
own_few (l ∷ []) h = (tt, tt)
own_few (l ∷ m ∷ lines) h = absurd (omega arith)

pub own_parts : (parts : List Part) (i : ℕ) (p : Part) → i < length parts → p ≡ get_or parts i p → HaveOwnEvents p.lines
    → AllByRecursion (λ (p : Part). HaveOwnEvents p.lines) (take i parts) → AllByRecursion (λ (p : Part). HaveOwnEvents p.lines) (take (i + 1) parts)
own_parts parts i p lt is own before =
    subst (λ (all : List Part). AllByRecursion (λ (p : Part). HaveOwnEvents p.lines) all) (sym (longer parts i p lt is)) (all_more (λ (p : Part). HaveOwnEvents p.lines) (take i parts) p before own)

-- what seats tell

spoke_none : (seats : List Seat) → Spoke seats seats []
spoke_none seats = record { are_new = λ earlier tells. tt; said = λ q. sym (or_false (list_any q seats)) }

pub spoke_start : (seats : List Seat) → seats ≡ [] → Spoke [] seats []
spoke_start seats none = subst (λ (all : List Seat). Spoke [] all []) (sym none) (spoke_none [])

spoke_one : (old new : List Seat) (l : Line) (second : Bool) → second ≡ has_seat old (key_of_line l) → second ≡ false → Says old new (speaks l) l → Spoke old new (l ∷ [])
spoke_one old new l second second_is h says = record {
  are_new = λ earlier tells. (sym (second_told old earlier l tells) ∙ sym second_is ∙ h, tt);
  said = λ q. says q ∙ ap (λ (b : Bool). list_any q old || b) (sym (or_false (speaks l && q (key_of_line l))));
}

or_assoc : (a b c : Bool) → ((a || b) || c) ≡ (a || (b || c))
or_assoc true b c = refl
or_assoc false b c = refl

first_both : (xs earlier ys : List Line) → AreFirst earlier xs → AreFirst (earlier ++ xs) ys → AreFirst earlier (xs ++ ys)
first_both [] earlier ys first more = subst (λ (all : List Line). AreFirst all ys) (append-nil earlier) more
first_both (x ∷ xs) earlier ys first more =
    (first.0, first_both xs (earlier ++ x ∷ []) ys first.1 (subst (λ (all : List Line). AreFirst all ys) (sym (append_assoc earlier (x ∷ []) xs)) more))

tells_both : (old new : List Seat) (earlier lines : List Line) → SaysAll old new lines → Tells speaks key_of_line old earlier → Tells speaks key_of_line new (earlier ++ lines)
tells_both old new earlier lines said tells = λ q.
    said q
    ∙ ap (λ (b : Bool). b || list_any (λ (l : Line). speaks l && q (key_of_line l)) lines) (tells q)
    ∙ sym (list_any-append (λ (l : Line). speaks l && q (key_of_line l)) earlier lines)

spoke_both : (old mid new : List Seat) (xs ys : List Line) → Spoke old mid xs → Spoke mid new ys → Spoke old new (xs ++ ys)
spoke_both old mid new xs ys a b = record {
  are_new = λ earlier tells. first_both xs earlier ys (a.are_new earlier tells) (b.are_new (earlier ++ xs) (tells_both old mid earlier xs a.said tells));
  said = λ q. b.said q
      ∙ ap (λ (c : Bool). c || list_any (λ (l : Line). speaks l && q (key_of_line l)) ys) (a.said q)
      ∙ or_assoc (list_any q old) (list_any (λ (l : Line). speaks l && q (key_of_line l)) xs) (list_any (λ (l : Line). speaks l && q (key_of_line l)) ys)
      ∙ ap (λ (c : Bool). list_any q old || c) (sym (list_any-append (λ (l : Line). speaks l && q (key_of_line l)) xs ys));
}

pub spoke_line : (lines : List Line) (i : ℕ) (l : Line) (z : Place) (old now next : List Seat) (second counts : Bool) (m : Line) → i < length lines → l ≡ get_or lines i l → m ≡ in_zone l z → counts ≡ not (is_routine l.action)
    → second ≡ has_seat now (key_of_line m) → second ≡ false → Says now next counts m → Spoke old now (said_at (take i lines) z) → Spoke old next (said_at (take (i + 1) lines) z)
spoke_line lines i l z old now next second counts m lt is m_is counts_is second_is h says sofar =
    let here = in_zone l z in
    let said = subst (λ (x : Line). Says now next (speaks here) x) m_is (subst (λ (b : Bool). Says now next b m) counts_is says) in
    let one = spoke_one now next here second (second_is ∙ ap (λ (x : Line). has_seat now (key_of_line x)) m_is) h said in
    let all = ap (λ (xs : List Line). said_at xs z) (longer lines i l lt is) ∙ map-append (λ (x : Line). in_zone x z) (take i lines) (l ∷ []) in
    subst (λ (xs : List Line). Spoke old next xs) (sym all) (spoke_both old now next (said_at (take i lines) z) (here ∷ []) sofar one)

pub spoke_next : {X : Type 0} (f : X → List Line) (xs : List X) (i : ℕ) (x : X) (old now next : List Seat) → i < length xs → x ≡ get_or xs i x → Spoke now next (f x) → Spoke old now (flat_map f (take i xs)) → Spoke old next (flat_map f (take (i + 1) xs))
spoke_next f xs i x old now next lt is here sofar =
    subst (λ (lines : List Line). Spoke old next lines) (flat_next f xs i x [] (flat_map f (take i xs)) (flat_map f (take i xs) ++ f x) lt is refl refl)
    (spoke_both old now next (flat_map f (take i xs)) (f x) sofar here)

pub first-spoken : (seats : List Seat) (parts : List Part) (i : ℕ) → length parts ≤ i → Spoke [] seats (lines_in (take i parts)) → AreFirst [] (lines_in parts)
first-spoken seats parts i end spoke = subst (λ (all : List Part). AreFirst [] (lines_in all)) (take_all i parts end) (spoke.are_new [] (λ q. refl))

-- lines of which no one is a second one are judged one by one as by themselves

first_breach : (rows : List Row) (t : ℕ) (all earlier : List Line) (l : Line) → is_second earlier l ≡ false → breach_in rows t all earlier l ≡ breach_in rows t all [] l
unfolding breach_in
first_breach rows t all earlier l h = rw h refl

judged-each : (rows : List Row) (t : ℕ) (all earlier lines : List Line) → AreFirst earlier lines → judged_from rows t all earlier lines ≡ map (first_judged rows t all) lines
judged-each rows t all earlier [] first = refl
judged-each rows t all earlier (l ∷ lines) first =
    ap (λ (b : Option Breach). (l, b) ∷ judged_from rows t all (earlier ++ l ∷ []) lines) (first_breach rows t all earlier l first.0)
    ∙ ap (λ (more : List Judged). (l, breach_in rows t all [] l) ∷ more) (judged-each rows t all (earlier ++ l ∷ []) lines first.1)

pub judged-firsts : (rows : List Row) (t : ℕ) (lines : List Line) → AreFirst [] lines → judged_from rows t lines [] lines ≡ map (first_judged rows t lines) lines
judged-firsts rows t lines first = judged-each rows t lines [] lines first
