-- The rows that go on beside a draft, zone by zone of those that it touches.
use Rattle.std.proofs.Common.{◌≡◌, ◌∙◌, ◌&&◌, ◌||◌, not, ◌<◌, ℕ, Bool, true, false, List, [], ◌∷◌, ◌++◌, Less, filter, map, length, refl, sym, ap, subst, arith, if◌then◌else◌}
use Rattle.std.specs.List.{AllByRecursion, list_any}
use Rattle.std.specs.List.Sorted.{IsStrictlySortedBy}
use Rattle.hazard_types.specs.Hazards.{facts_of}
use Rattle.hazard_types.specs.Names.{is_fl_phenomenon}
use Rattle.hazard_types.specs.Orders.{by_event}
use Rattle.hazard_types.specs.Places.{Place, by_place}
use Rattle.hazard_types.specs.Same.{same_zone}
use Rattle.hazard_types.specs.declared.codes.Action.TheVariants.{Con}
use Rattle.hazard_types.specs.declared.codes.Category.{Category}
use Rattle.hazard_types.specs.declared.line.Line.{Line}
use Rattle.hazard_types.specs.declared.line.Row.{Row}
use Rattle.hazard_types.proofs.Equality.{zone_one, zone_itself}
use Rattle.event_life.specs.Periods.{is_live}
use Rattle.event_life.specs.Products.{by_key}
use Rattle.hazard_board.specs.Board.{slice_of}
use Rattle.hazard_board.proofs.Places.{first_less}
use Rattle.hazard_board.proofs.ZoneClashes.{apart_less}
use Rattle.hazard_board.proofs.ZoneLemmas.{further}
use Rattle.action_planner.specs.Placed.{Placed, touches, speaks}
use Rattle.action_planner.specs.Lines.{line_on, follows, is_continued, added_in, added_lines}

-- one of the zones is that of the row
names : List Place → Row → Bool
names zones r = list_any (λ (y : Place). same_zone y r.zone) zones

filtered_kept : {X : Type 0} (kept : Bool) (q : X → Bool) (x : X) (xs : List X) →
    filter q (if kept then x ∷ xs else xs) ≡ (if kept && q x then x ∷ filter q xs else filter q xs)
filtered_kept true q x xs = refl
filtered_kept false q x xs = refl

filtered_twice : {X : Type 0} (p q : X → Bool) (xs : List X) → filter q (filter p xs) ≡ filter (λ (x : X). p x && q x) xs
filtered_twice p q [] = refl
filtered_twice {X} p q (x ∷ xs) =
    filtered_kept (p x) q x (filter p xs)
    ∙ ap (λ (rest : List X). if p x && q x then x ∷ rest else rest) (filtered_twice p q xs)

filtered_alike : {X : Type 0} (p q : X → Bool) → ((x : X) → p x ≡ q x) → (xs : List X) → filter p xs ≡ filter q xs
filtered_alike p q same [] = refl
filtered_alike {X} p q same (x ∷ xs) = ap (λ (b : Bool). if b then x ∷ filter p xs else filter p xs) (same x) ∙ ap (λ (rest : List X). if q x then x ∷ rest else rest) (filtered_alike p q same xs)

-- rows of later zones

module _ (p : Row → Bool) (z : Place) (q : Row → Bool) (later : (r : Row) → q r ≡ true → by_place z r.zone ≡ Less) where
  own : Row → Bool
  own r = same_zone r.zone z && p r

  rest : Row → Bool
  rest r = q r && p r

  either : Row → Bool
  either r = (same_zone r.zone z || q r) && p r

  none_own : (r : Row) (rows : List Row) → by_place z r.zone ≡ Less → AllByRecursion (λ y. by_key r y ≡ Less) rows → filter own rows ≡ []
  unfolding own
  none_own r [] less above = refl
  none_own r (s ∷ rows) less above =
      let after = further z r.zone s.zone (by_place r.zone s.zone) refl less (first_less (by_place r.zone s.zone) (by_event r.event s.event) above.0) in
      rw (apart_less z s.zone after) (none_own r rows less above.1)

  split_step : (here there keep : Bool) (r : Row) (rows : List Row) → same_zone r.zone z ≡ here → q r ≡ there → p r ≡ keep → AllByRecursion (λ y. by_key r y ≡ Less) rows →
      filter either rows ≡ filter own rows ++ filter rest rows → filter either (r ∷ rows) ≡ filter own (r ∷ rows) ++ filter rest (r ∷ rows)
  unfolding own rest either
  split_step true true keep r rows h t k above more = let never = sym h ∙ apart_less z r.zone (later r t) in cc
  split_step true false true r rows h t k above more = rw (h, t, k) (ap (λ (some : List Row). r ∷ some) more)
  split_step true false false r rows h t k above more = rw (h, t, k) more
  split_step false true true r rows h t k above more =
      let none = none_own r rows (later r t) above in
      rw (h, t, k, none) (ap (λ (some : List Row). r ∷ some) (more ∙ ap (λ (some : List Row). some ++ filter rest rows) none))
  split_step false true false r rows h t k above more = rw (h, t, k) more
  split_step false false keep r rows h t k above more = rw (h, t) more

  splits : (rows : List Row) → IsStrictlySortedBy by_key rows → filter either rows ≡ filter own rows ++ filter rest rows
  unfolding IsStrictlySortedBy
  splits [] up = refl
  splits (r ∷ rows) up = split_step (same_zone r.zone z) (q r) (p r) r rows refl refl refl up.0 (splits rows up.1)

-- zones in order

named_later : (z : Place) (zones : List Place) (r : Row) → AllByRecursion (λ y. by_place z y ≡ Less) zones → names zones r ≡ true → by_place z r.zone ≡ Less
unfolding names
named_later z [] r above h = cc
named_later z (y ∷ zones) r above h =
    let step : (b : Bool) → same_zone y r.zone ≡ b → by_place z r.zone ≡ Less =
    λ b. elim b as (λ b. same_zone y r.zone ≡ b → by_place z r.zone ≡ Less) [
      | true ↦ λ is. subst (λ (x : Place). by_place z x ≡ Less) (zone_one y r.zone is) above.0
      | false ↦ λ is. named_later z zones r above.1 (rw is at h)
    ] in
    step (same_zone y r.zone) refl

turned : (a b : Place) → same_zone a b ≡ true → same_zone b a ≡ true
turned a b h = rw (zone_one a b h) (zone_itself b)

alike : (s t : Bool) → (s ≡ true → t ≡ true) → (t ≡ true → s ≡ true) → s ≡ t
alike true t f g = sym (f refl)
alike false true f g = g refl
alike false false f g = refl

none_named : (p : Row → Bool) (rows : List Row) → filter (λ (r : Row). names [] r && p r) rows ≡ []
unfolding names
none_named p [] = refl
none_named p (r ∷ rows) = none_named p rows

said_apart : (f : Row → Line) (xs ys : List Row) → map f (xs ++ ys) ≡ map f xs ++ map f ys
said_apart f [] ys = refl
said_apart f (x ∷ xs) ys = ap (λ (lines : List Line). f x ∷ lines) (said_apart f xs ys)

one_more : (p : Row → Bool) (z : Place) (zones : List Place) (rows : List Row) → IsStrictlySortedBy by_key rows → AllByRecursion (λ y. by_place z y ≡ Less) zones →
    filter (λ (r : Row). names (z ∷ zones) r && p r) rows ≡ filter p (slice_of z rows) ++ filter (λ (r : Row). names zones r && p r) rows
unfolding names either own rest
one_more p z zones rows up above =
    filtered_alike (λ (r : Row). names (z ∷ zones) r && p r) (λ (r : Row). (same_zone r.zone z || names zones r) && p r)
    (λ r. ap (λ (b : Bool). (b || names zones r) && p r) (alike (same_zone z r.zone) (same_zone r.zone z) (turned z r.zone) (turned r.zone z))) rows
    ∙ splits p z (names zones) (λ r h. named_later z zones r above h) rows up
    ∙ ap (λ (some : List Row). some ++ filter (λ (r : Row). names zones r && p r) rows) (sym (filtered_twice (λ (r : Row). same_zone r.zone z) p rows))

module _ (c : Category) (t : ℕ) (ps : List Placed) (rows : List Row) (up : IsStrictlySortedBy by_key rows) where
  in_zones : (zones : List Place) → IsStrictlySortedBy by_place zones → map (line_on Con t) (filter (λ (r : Row). names zones r && is_continued c t ps r) rows) ≡ added_in c rows t ps zones
  unfolding IsStrictlySortedBy
  in_zones [] up_zones = ap (map (line_on Con t)) (none_named (is_continued c t ps) rows)
  in_zones (z ∷ zones) up_zones =
      ap (map (line_on Con t)) (one_more (is_continued c t ps) z zones rows up up_zones.0)
      ∙ said_apart (line_on Con t) (filter (is_continued c t ps) (slice_of z rows)) (filter (λ (r : Row). names zones r && is_continued c t ps r) rows)
      ∙ ap (λ (lines : List Line). map (line_on Con t) (filter (is_continued c t ps) (slice_of z rows)) ++ lines) (in_zones zones up_zones.1)

asked_twice : (named live follows dry other : Bool) → (live && (((follows && dry) && named) && other)) ≡ (named && (live && (((follows && dry) && named) && other)))
asked_twice true live follows dry other = refl
asked_twice false true true true other = refl
asked_twice false true true false other = refl
asked_twice false true false dry other = refl
asked_twice false false follows dry other = refl

named_too : (c : Category) (t : ℕ) (ps : List Placed) (zones : List Place) (rows : List Row) → ((z : Place) → list_any (λ (y : Place). same_zone y z) zones ≡ list_any (touches z) ps) →
    filter (is_continued c t ps) rows ≡ filter (λ (r : Row). names zones r && is_continued c t ps r) rows
unfolding names
named_too c t ps zones rows touched =
    filtered_alike (is_continued c t ps) (λ (r : Row). names zones r && is_continued c t ps r)
    (λ r.
    asked_twice (list_any (touches r.zone) ps) (is_live t r) (follows c (facts_of r.event.hazard)) (not (is_fl_phenomenon r.event.hazard)) (not (list_any (speaks r.event r.zone) ps))
    ∙ ap (λ (b : Bool). b && is_continued c t ps r) (sym (touched r.zone))) rows

-- the rows of the touched zones say what all rows do
pub added_of_zones : (c : Category) (t : ℕ) (ps : List Placed) (rows : List Row) (zones : List Place) → IsStrictlySortedBy by_place zones → ((z : Place) → list_any (λ (y : Place). same_zone y z) zones ≡ list_any (touches z) ps) →
    (0 < length zones → IsStrictlySortedBy by_key rows) → added_in c rows t ps zones ≡ added_lines c rows t ps
added_of_zones c t ps rows [] up_zones touched up = sym (ap (map (line_on Con t)) (named_too c t ps [] rows touched ∙ none_named (is_continued c t ps) rows))
added_of_zones c t ps rows (z ∷ zones) up_zones touched up = sym (ap (map (line_on Con t)) (named_too c t ps (z ∷ zones) rows touched) ∙ in_zones c t ps rows (up (omega arith)) (z ∷ zones) up_zones)
