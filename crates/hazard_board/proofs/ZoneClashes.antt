-- The first clash, told by the zones of some lines.
use Rattle.std.proofs.Common.{◌≡◌, ◌≢◌, ◌⊎◌, inl, inr, ◌∙◌, ◌||◌, ℕ, ◌+◌, ◌<◌, List, [], ◌∷◌, ◌++◌, Bool, true, false, Option, Some, None, Ordering, Less, Equal, Greater, refl, sym, ap, subst, cond, find, is_lt, length, get_or, take, option_map, if◌then◌else◌}
use Rattle.std.specs.BTreeMap.{is_at}
use Rattle.std.specs.List.{AllByRecursion, list_all}
use Rattle.std.specs.List.Sorted.{IsStrictlySortedBy}
use Rattle.std.specs.Option.{option_or}
use Rattle.std.specs.Ordering.{ordering_reverse}
use Rattle.std.proofs.lemmas.Bool.{and_parts, false_from_ne_true}
use Rattle.std.proofs.lemmas.Cmp.{tied_itself}
use Rattle.std.proofs.lemmas.List.{take_more}
use Rattle.std.proofs.lemmas.List.Folds.{list_any-append}
use Rattle.hazard_types.specs.Places.{Place, by_place}
use Rattle.hazard_types.specs.Same.{same_zone}
use Rattle.hazard_types.specs.declared.line.Clash.{Clash}
use Rattle.hazard_types.specs.declared.line.Line.{Line}
use Rattle.hazard_types.specs.declared.line.Row.{Row}
use Rattle.hazard_types.proofs.Equality.{zone_one, zone_itself}
use Rattle.hazard_types.proofs.OrderLaws.{by_place_total, by_place_ties}
use Rattle.event_life.specs.Products.{by_key}
use Rattle.hazard_board.specs.Board.{slice_of}
use Rattle.hazard_board.specs.ByZone.{lines_of}
use Rattle.hazard_board.specs.Clashes.{clash, clash_of, first_clash, earlier_clash}
use Rattle.hazard_board.proofs.SliceLemmas.{names_zone}
use Rattle.event_life.proofs.Keyed.{zone_at}
use Rattle.hazard_board.proofs.Places.{zone_never_falls}
use Rattle.hazard_board.proofs.Runs.{all_that_pass}
use Rattle.hazard_board.proofs.ZoneLemmas.{further}

turned_zone : (a b : Place) → same_zone a b ≡ false → same_zone b a ≡ false
turned_zone a b h = false_from_ne_true _ (λ g.
    let itself : same_zone a b ≡ true = rw (zone_one b a g) (zone_itself a) in cc)

apart_zones : (t : ℕ) (a b : Row) → same_zone a.zone b.zone ≡ false → clash t a b ≡ false
apart_zones t a b other = rw other refl

find_in_zone : (t : ℕ) (row : Row) (rows : List Row) → find (clash t row) (slice_of row.zone rows) ≡ find (clash t row) rows
find_in_zone t row [] = refl
find_in_zone t row (r ∷ rows) =
    let step : (b : Bool) → same_zone r.zone row.zone ≡ b → find (clash t row) (cond b (r ∷ slice_of row.zone rows) (slice_of row.zone rows)) ≡ find (clash t row) (r ∷ rows) =
    λ b. elim b as (λ b. same_zone r.zone row.zone ≡ b → find (clash t row) (cond b (r ∷ slice_of row.zone rows) (slice_of row.zone rows)) ≡ find (clash t row) (r ∷ rows)) [
      | true ↦ λ is. ap (λ (o : Option Row). cond (clash t row r) (Some r) o) (find_in_zone t row rows)
      | false ↦ λ is. find_in_zone t row rows ∙ ap (λ (c : Bool). cond c (Some r) (find (clash t row) rows)) (sym (apart_zones t row r (turned_zone r.zone row.zone is)))
    ] in
    step (same_zone r.zone row.zone) refl

-- no row of an earlier zone stands behind a row

pub apart_less : (z y : Place) → by_place z y ≡ Less → same_zone y z ≡ false
apart_less z y less = false_from_ne_true _ (λ g.
    let tied : by_place z y ≡ Equal = ap (λ (x : Place). by_place z x) (zone_one y z g) ∙ tied_itself by_place_total z in cc)

not_greater : (p q r : Place) → by_place p q ≡ Less → by_place q r ≢ Greater → by_place p r ≡ Less
not_greater p q r less fall = further p q r (by_place q r) refl less fall

none_further : (z : Place) (row : Row) (rows : List Row) → by_place z row.zone ≡ Less → AllByRecursion (λ y. by_key row y ≡ Less) rows → slice_of z rows ≡ []
none_further z row [] less all = refl
none_further z row (r ∷ rows) less all = rw (apart_less z r.zone (not_greater z row.zone r.zone less (zone_never_falls row r all.0))) (none_further z row rows less all.1)

further_slice : (z : Place) (row : Row) (rows : List Row) → by_place z row.zone ≡ Less → AllByRecursion (λ y. by_key row y ≡ Less) rows → slice_of z (row ∷ rows) ≡ []
further_slice z row rows less all = rw (apart_less z row.zone less) (none_further z row rows less all)

-- what the first clash is, told by the zones
abbrev pub IsFirstAll : ℕ → List Row → Option Clash → Type 0
IsFirstAll t after None = (z : Place) → first_clash t (slice_of z after) ≡ None
IsFirstAll t after (Some c) = (first_clash t (slice_of c.zone after) ≡ Some c) × ((z : Place) → by_place z c.zone ≡ Less → first_clash t (slice_of z after) ≡ None)

-- and by the zones of some lines
abbrev pub IsFirstIn : ℕ → List Row → List Line → Option Clash → Type 0
IsFirstIn t after lines None = (z : Place) → names_zone z lines ≡ true → first_clash t (slice_of z after) ≡ None
IsFirstIn t after lines (Some c) = (first_clash t (slice_of c.zone after) ≡ Some c) × ((z : Place) → names_zone z lines ≡ true → by_place z c.zone ≡ Less → first_clash t (slice_of z after) ≡ None)

module _ (t : ℕ) where
  same_firsts : (row : Row) (rows : List Row) (z : Place) (b : Bool) → same_zone row.zone z ≡ b → find (clash t row) rows ≡ None → first_clash t (slice_of z (row ∷ rows)) ≡ first_clash t (slice_of z rows)
  same_firsts row rows z true is none =
      let here = subst (λ (y : Place). find (clash t row) (slice_of y rows) ≡ None) (zone_one row.zone z is) (find_in_zone t row rows ∙ none) in
      rw (is, here) refl
  same_firsts row rows z false is none = rw is refl

  still_first : (row : Row) (rows : List Row) (o : Option Clash) → find (clash t row) rows ≡ None → IsFirstAll t rows o → IsFirstAll t (row ∷ rows) o
  still_first row rows None none all = λ z. same_firsts row rows z (same_zone row.zone z) refl none ∙ all z
  still_first row rows (Some c) none all = (same_firsts row rows c.zone (same_zone row.zone c.zone) refl none ∙ all.0, (λ z less. same_firsts row rows z (same_zone row.zone z) refl none ∙ all.1 z less))

  new_first : (row r : Row) (rows : List Row) → AllByRecursion (λ y. by_key row y ≡ Less) rows → find (clash t row) rows ≡ Some r → IsFirstAll t (row ∷ rows) (Some (clash_of row r))
  new_first row r rows above found =
      let here : find (clash t row) (slice_of row.zone rows) ≡ Some r = find_in_zone t row rows ∙ found in
      (rw (zone_itself row.zone, here) refl, (λ z less. rw (further_slice z row rows less above) refl))

  by_found : (o : Option Row) (row : Row) (rows : List Row) → AllByRecursion (λ y. by_key row y ≡ Less) rows → find (clash t row) rows ≡ o → IsFirstAll t rows (first_clash t rows) → IsFirstAll t (row ∷ rows) (option_or (option_map (clash_of row) o) (first_clash t rows))
  by_found None row rows above found all = still_first row rows (first_clash t rows) found all
  by_found (Some r) row rows above found all = new_first row r rows above found

  -- the first clash of rows in order is that of the earliest zone with one
  first_all : (rows : List Row) → IsStrictlySortedBy by_key rows → IsFirstAll t rows (first_clash t rows)
  unfolding IsStrictlySortedBy
  first_all [] up = λ z. refl
  first_all (row ∷ rows) up = by_found (find (clash t row) rows) row rows up.0 refl (first_all rows up.1)

  -- of a zone's rows the clash is of the zone

  all_of_zone : (z : Place) (rows : List Row) → AllByRecursion (λ (r : Row). r.zone ≡ z) (slice_of z rows)
  all_of_zone z rows = all_that_pass (λ (r : Row). r.zone ≡ z) (λ (r : Row). same_zone r.zone z) (λ r is. zone_one r.zone z is) rows

  zone_by_found : (o : Option Row) (z : Place) (row : Row) (more : Option Clash) (c : Clash) → row.zone ≡ z → (more ≡ Some c → c.zone ≡ z) → option_or (option_map (clash_of row) o) more ≡ Some c → c.zone ≡ z
  zone_by_found None z row more c own rest h = rest h
  zone_by_found (Some r) z row more c own rest h = let same : clash_of row r ≡ c = cc in sym (ap (λ (d : Clash). d.zone) same) ∙ own

  zone_of_first : (z : Place) (rows : List Row) (c : Clash) → AllByRecursion (λ (r : Row). r.zone ≡ z) rows → first_clash t rows ≡ Some c → c.zone ≡ z
  zone_of_first z [] c all h = cc
  zone_of_first z (row ∷ rows) c all h = zone_by_found (find (clash t row) rows) z row (first_clash t rows) c all.0 (zone_of_first z rows c all.1) h

  no_clash : (c : Clash) → ◌≡◌ {A = Option Clash} (Some c) None → ⊥
  no_clash c h = cc

  by_zones : (after : List Row) (o : Ordering) (c d : Clash) → by_place c.zone d.zone ≡ o → IsFirstAll t after (Some c) → IsFirstAll t after (Some d) → ◌≡◌ {A = Option Clash} (Some c) (Some d)
  by_zones after Less c d h a b = absurd (no_clash c (sym a.0 ∙ b.1 c.zone h))
  by_zones after Equal c d h a b = sym a.0 ∙ ap (λ (z : Place). first_clash t (slice_of z after)) (by_place_ties c.zone d.zone h) ∙ b.0
  by_zones after Greater c d h a b =
      let less : by_place d.zone c.zone ≡ Less = by_place_total.antisymm d.zone c.zone ∙ ap ordering_reverse h in
      absurd (no_clash d (sym b.0 ∙ a.1 d.zone less))

  firsts_alike : (after : List Row) (o p : Option Clash) → IsFirstAll t after o → IsFirstAll t after p → o ≡ p
  firsts_alike after None None a b = refl
  firsts_alike after None (Some c) a b = sym (a c.zone) ∙ b.0
  firsts_alike after (Some c) None a b = sym a.0 ∙ b c.zone
  firsts_alike after (Some c) (Some d) a b = by_zones after (by_place c.zone d.zone) c d refl a b

  -- from the zones of the lines to all, where the others have no clash
  either_zone : (b : Bool) (after : List Row) (lines : List Line) (z : Place) → names_zone z lines ≡ b → (names_zone z lines ≡ false → first_clash t (slice_of z after) ≡ None) → (names_zone z lines ≡ true → first_clash t (slice_of z after) ≡ None) → first_clash t (slice_of z after) ≡ None
  either_zone true after lines z is f g = g is
  either_zone false after lines z is f g = f is

  in_all : (after : List Row) (lines : List Line) (o : Option Clash) → ((z : Place) → names_zone z lines ≡ false → first_clash t (slice_of z after) ≡ None) → IsFirstIn t after lines o → IsFirstAll t after o
  in_all after lines None others within = λ z. either_zone (names_zone z lines) after lines z refl (others z) (within z)
  in_all after lines (Some c) others within = (within.0, (λ z less. either_zone (names_zone z lines) after lines z refl (others z) (λ named. within.1 z named less)))

  pub first_in_all : (after : List Row) (lines : List Line) (o : Option Clash) → IsStrictlySortedBy by_key after → ((z : Place) → names_zone z lines ≡ false → first_clash t (slice_of z after) ≡ None) → IsFirstIn t after lines o → o ≡ first_clash t after
  first_in_all after lines o up others within = firsts_alike after o (first_clash t after) (in_all after lines o others within) (first_all after up)

  -- line by line

  named_more : (lines : List Line) (i : ℕ) (line : Line) (z : Place) → i < length lines → line ≡ get_or lines i line → names_zone z (take (i + 1) lines) ≡ (names_zone z (take i lines) || (same_zone line.zone z || false))
  named_more lines i line z within is =
      ap (names_zone z) (take_more lines i line within ∙ ap (λ (x : Line). take i lines ++ x ∷ []) (sym is))
      ∙ list_any-append (λ (l : Line). same_zone l.zone z) (take i lines) (line ∷ [])

  named_either : (a b : Bool) → (a || (b || false)) ≡ true → (a ≡ true) ⊎ (b ≡ true)
  named_either true b h = inl refl
  named_either false true h = inr refl
  named_either false false h = cc

  module _ (after : List Row) (lines : List Line) (i : ℕ) (line : Line) (within : i < length lines) (is : line ≡ get_or lines i line) where
    abbrev earlier : List Line
    earlier = take i lines

    abbrev further_lines : List Line
    further_lines = take (i + 1) lines

    abbrev at_zone : Place → Option Clash
    at_zone z = first_clash t (slice_of z after)

    named_now : (z : Place) → names_zone z further_lines ≡ true → (names_zone z earlier ≡ true) ⊎ (line.zone ≡ z)
    named_now z h = elim (named_either (names_zone z earlier) (same_zone line.zone z) (sym (named_more lines i line z within is) ∙ h)) [
      | inl old ↦ inl old
      | inr new ↦ inr (zone_one line.zone z new)
    ]

    named_before : names_zone line.zone earlier ≡ true → (z : Place) → names_zone z further_lines ≡ true → names_zone z earlier ≡ true
    named_before old z h = elim (named_now z h) [
      | inl before ↦ before
      | inr same ↦ subst (λ (y : Place). names_zone y earlier ≡ true) same old
    ]

    -- a zone that was named before
    pub first_still : (best : Option Clash) → names_zone line.zone earlier ≡ true → IsFirstIn t after earlier best → IsFirstIn t after further_lines best
    first_still None old first = λ z h. first z (named_before old z h)
    first_still (Some c) old first = (first.0, (λ z h less. first.1 z (named_before old z h) less))

    not_less : (o : Ordering) (a b : Place) → by_place a b ≡ o → is_lt o ≡ false → by_place a b ≢ Less
    not_less o a b is h g = let less : o ≡ Less = sym is ∙ g in let no_way : true ≡ false = sym (ap is_lt less) ∙ h in cc

    itself_not_less : (a b : Place) → a ≡ b → by_place b a ≡ Less → ⊥
    itself_not_less a b same less = let tied : by_place b a ≡ Equal = ap (λ (x : Place). by_place b x) same ∙ tied_itself by_place_total b in cc

    is_less : (o : Ordering) → is_lt o ≡ true → o ≡ Less
    is_less Less h = refl
    is_less Equal h = cc
    is_less Greater h = cc

    less_first : (b : Bool) (c d : Clash) → is_lt (by_place d.zone c.zone) ≡ b → at_zone line.zone ≡ Some d → IsFirstIn t after earlier (Some c) → IsFirstIn t after further_lines (if b then Some d else Some c)
    less_first true c d h found first =
        let own : d.zone ≡ line.zone = zone_of_first line.zone (slice_of line.zone after) d (all_of_zone line.zone after) found in (
          subst (λ (y : Place). at_zone y ≡ Some d) (sym own) found,
          (λ z named less. elim (named_now z named) [
            | inl old ↦ first.1 z old (by_place_total.trans z d.zone c.zone less (is_less (by_place d.zone c.zone) h))
            | inr same ↦ absurd (itself_not_less d.zone z (own ∙ same) less)
          ]),
        )
    less_first false c d h found first =
        let own : d.zone ≡ line.zone = zone_of_first line.zone (slice_of line.zone after) d (all_of_zone line.zone after) found in (
          first.0,
          (λ z named less. elim (named_now z named) [
            | inl old ↦ first.1 z old less
            | inr same ↦ absurd (not_less (by_place d.zone c.zone) d.zone c.zone refl h (subst (λ (y : Place). by_place y c.zone ≡ Less) (sym (own ∙ same)) less))
          ]),
        )

    -- a zone that is new
    pub first_new : (best found : Option Clash) → found ≡ at_zone line.zone → IsFirstIn t after earlier best → IsFirstIn t after further_lines (earlier_clash best found)
    first_new None None here first = λ z named. elim (named_now z named) [
      | inl old ↦ first z old
      | inr same ↦ subst (λ (y : Place). at_zone y ≡ None) same (sym here)
    ]
    first_new None (Some d) here first =
        let own : d.zone ≡ line.zone = zone_of_first line.zone (slice_of line.zone after) d (all_of_zone line.zone after) (sym here) in (
          subst (λ (y : Place). at_zone y ≡ Some d) (sym own) (sym here),
          (λ z named less. elim (named_now z named) [
            | inl old ↦ first z old
            | inr same ↦ absurd (itself_not_less d.zone z (own ∙ same) less)
          ]),
        )
    first_new (Some c) None here first = (
      first.0,
      (λ z named less. elim (named_now z named) [
        | inl old ↦ first.1 z old less
        | inr same ↦ subst (λ (y : Place). at_zone y ≡ None) same (sym here)
      ]),
    )
    first_new (Some c) (Some d) here first = less_first (is_lt (by_place d.zone c.zone)) c d refl (sym here) first

-- no zone is named by no lines
pub first_of_none : (t : ℕ) (after : List Row) → IsFirstIn t after [] None
first_of_none t after z h = cc

either_order : (a b : Bool) → (a || b) ≡ (b || (a || false))
either_order true true = refl
either_order true false = refl
either_order false true = refl
either_order false false = refl

-- the zones that were seen, with that of one line more
pub seen_more : (lines : List Line) (i : ℕ) (line : Line) (z : Place) (seen : Bool) → i < length lines → line ≡ get_or lines i line → seen ≡ names_zone z (take i lines) →
    (is_at (by_place z) line.zone || seen) ≡ names_zone z (take (i + 1) lines)
seen_more lines i line z seen within is before =
    ap (λ (b : Bool). b || seen) (zone_at z line.zone)
    ∙ ap (λ (b : Bool). same_zone line.zone z || b) before
    ∙ either_order (same_zone line.zone z) (names_zone z (take i lines))
    ∙ sym (named_more 0 lines i line z within is)

-- lines that are all of one zone

pub all_own : (z : Place) (lines : List Line) → list_all (λ (line : Line). same_zone line.zone z) lines ≡ true → lines ≡ lines_of z lines
all_own z [] all = refl
all_own z (line ∷ lines) all =
    let p = and_parts (same_zone line.zone z) _ all in
    rw (p.0) (ap (λ (own : List Line). line ∷ own) (all_own z lines p.1))

either_named : (a b : Bool) → (a || b) ≡ true → (a ≡ true) ⊎ (b ≡ true)
either_named true b h = inl refl
either_named false b h = inr h

named_own : (z y : Place) (lines : List Line) → list_all (λ (line : Line). same_zone line.zone z) lines ≡ true → names_zone y lines ≡ true → y ≡ z
named_own z y [] all h = cc
named_own z y (line ∷ lines) all h =
    let p = and_parts (same_zone line.zone z) _ all in
    elim (either_named (same_zone line.zone y) (names_zone y lines) h) [
      | inl here ↦ sym (zone_one line.zone y here) ∙ zone_one line.zone z p.0
      | inr there ↦ named_own z y lines p.1 there
    ]

pub only_first : (t : ℕ) (after : List Row) (lines : List Line) (z : Place) (found : Option Clash) → list_all (λ (line : Line). same_zone line.zone z) lines ≡ true → found ≡ first_clash t (slice_of z after) → IsFirstIn t after lines found
only_first t after lines z None all is = λ y named. ap (λ (p : Place). first_clash t (slice_of p after)) (named_own z y lines all named) ∙ sym is
only_first t after lines z (Some c) all is =
    let own : c.zone ≡ z = zone_of_first t z (slice_of z after) c (all_of_zone t z after) (sym is) in (
      ap (λ (p : Place). first_clash t (slice_of p after)) own ∙ sym is,
      (λ y named less. let tied : by_place y c.zone ≡ Equal = ap (λ (p : Place). by_place p c.zone) (named_own z y lines all named ∙ sym own) ∙ tied_itself by_place_total c.zone in cc),
    )
