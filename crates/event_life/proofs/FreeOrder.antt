-- Lines of a product in another order: the same are lawful, and they leave the same rows.
use Rattle.std.proofs.Common.{◌≡◌, inl, inr, ◌&&◌, ◌||◌, not, ℕ, List, [], ◌∷◌, ◌++◌, Bool, true, false, Option, Some, None, Ordering, Less, Equal, Greater, refl, sym, ap, subst, ◌∙◌, cond}
use Rattle.std.specs.List.{AllByRecursion, filter, find, list_any, list_all}
use Rattle.std.specs.List.Sorted.{IsStrictlySortedBy}
use Rattle.std.specs.Option.{is_none}
use Rattle.std.specs.Ordering.{ordering_reverse}
use Rattle.std.proofs.lemmas.Bool.{and_parts, false_from_ne_true, both_ways}
use Rattle.std.proofs.lemmas.List.Folds.{list_any-append}
use Rattle.hazard_types.specs.Places.{Place}
use Rattle.hazard_types.specs.declared.hazard.Event.{Event}
use Rattle.hazard_types.specs.declared.line.Line.{Line}
use Rattle.hazard_types.specs.declared.line.Row.{Row}
use Rattle.hazard_types.proofs.Equality.{zone_itself, event_itself}
use Rattle.event_life.specs.declared.life.Breach.{Breach}
use Rattle.event_life.specs.Firsts.{is_lawful, first_line, row_by_first}
use Rattle.event_life.specs.Higher.{may_yield}
use Rattle.event_life.specs.Products.{by_key, row_at, life_at, row_after, around_of, is_routine, is_upgrade, concerns, is_second, is_overlapped, has_higher, breach_in, judged_from, judged, lawful_of, put_all, end_upgraded, rows_for_higher, rows_after}
use Rattle.event_life.specs.Reordered.{are_lawful, TouchAlike, AreApart}
use Rattle.event_life.specs.Table.{breach_of_line}
use Rattle.event_life.proofs.HigherLemmas.{breach-higher, rows_for_higher-lawful}
use Rattle.event_life.proofs.Keys.{by_key-total, key_exact}
use Rattle.event_life.proofs.Members.{IsIn, of_all, all_of, in_contains, contains_in, any_in, in_any, all_in, in_all, find_in, none_in, one_way}
use Rattle.event_life.proofs.Puts.{at_key, at_key-parts, none_above, all_above, put_all-sorted, rows_after-sorted, concerns-parts}
use Rattle.event_life.proofs.Spoken.{spoken, lawful_first, AreTouching, lawful_of-touches, row_by_last, row_at-put_all, row_at-rows_after}

-- rows in order are told by what is found in them

at_itself : (r : Row) (rows : List Row) → row_at (r ∷ rows) r.event r.zone ≡ Some r
at_itself r rows = rw (event_itself r.event, zone_itself r.zone) refl

nothing_found : (r : Row) → ◌≡◌ {A = Option Row} None (Some r) → ⊥
nothing_found r h = cc

above_none : (q r : Row) (rows : List Row) → by_key q r ≡ Less → AllByRecursion (λ y. by_key r y ≡ Less) rows → row_at (r ∷ rows) q.event q.zone ≡ None
above_none q r rows less above = none_above q (r ∷ rows) (less, all_above q r rows less above)

tail_found : (q r : Row) (qs bs : List Row) (e : Event) (z : Place) (here : Bool) → at_key e z q ≡ here → q ≡ r → AllByRecursion (λ y. by_key q y ≡ Less) qs → AllByRecursion (λ y. by_key r y ≡ Less) bs →
    row_at (q ∷ qs) e z ≡ row_at (r ∷ bs) e z → row_at qs e z ≡ row_at bs e z
tail_found q r qs bs e z true own same above above_too h =
    let parts = at_key-parts e z q own in
    let first : row_at qs e z ≡ None = rw (sym parts.0, sym parts.1) (none_above q qs above) in
    let second : row_at bs e z ≡ None = rw (sym parts.0, sym parts.1, same) (none_above r bs above_too) in
    first ∙ sym second
tail_found q r qs bs e z false own same above above_too h =
    let other : at_key e z r ≡ false = subst (λ (v : Row). at_key e z v ≡ false) same own in
    rw (own, other) at h

pub told_by_keys : (qs bs : List Row) → IsStrictlySortedBy by_key qs → IsStrictlySortedBy by_key bs → ((e : Event) (z : Place) → row_at qs e z ≡ row_at bs e z) → qs ≡ bs
unfolding IsStrictlySortedBy
told_by_keys [] [] up up_too h = refl
told_by_keys [] (r ∷ bs) up up_too h = absurd (nothing_found r (h r.event r.zone ∙ at_itself r bs))
told_by_keys (q ∷ qs) [] up up_too h = absurd (nothing_found q (sym (h q.event q.zone) ∙ at_itself q qs))
told_by_keys (q ∷ qs) (r ∷ bs) up up_too h =
    let step : (o : Ordering) → by_key q r ≡ o → q ∷ qs ≡ r ∷ bs =
    λ o. elim o as (λ o. by_key q r ≡ o → q ∷ qs ≡ r ∷ bs) [
      | Less ↦ λ is. absurd (nothing_found q (sym (above_none q r bs is up_too.0) ∙ sym (h q.event q.zone) ∙ at_itself q qs))
      | Greater ↦ λ is.
          let less : by_key r q ≡ Less = by_key-total.antisymm r q ∙ ap ordering_reverse is in
          absurd (nothing_found r (sym (above_none r q qs less up.0) ∙ h r.event r.zone ∙ at_itself r bs))
      | Equal ↦ λ is.
          let key = key_exact q r is in
          let there : row_at (r ∷ bs) q.event q.zone ≡ Some r = ap (λ (e : Event). row_at (r ∷ bs) e q.zone) key.1 ∙ ap (λ (z : Place). row_at (r ∷ bs) r.event z) key.0 ∙ at_itself r bs in
          let found : Some q ≡ Some r = sym (at_itself q qs) ∙ h q.event q.zone ∙ there in
          let same : q ≡ r = cc in
          let rest = told_by_keys qs bs up.1 up_too.1 (λ e z. tail_found q r qs bs e z (at_key e z q) refl same up.0 up_too.0 (h e z)) in
          ap (λ (v : Row). v ∷ qs) same ∙ ap (λ (rows : List Row). r ∷ rows) rest
    ] in
    step (by_key q r) refl

-- tests that only lines which touch a life pass

speaks-touches : (e : Event) (z : Place) (line : Line) → concerns e z line ≡ true → is_routine line.action ≡ false
speaks-touches e z line h = (concerns-parts e z line h).0

any_alike : (p : Line → Bool) (xs ys : List Line) → ((line : Line) → p line ≡ true → is_routine line.action ≡ false) → TouchAlike xs ys → list_any p xs ≡ list_any p ys
any_alike p xs ys own alike =
    one_way (list_any p xs) (list_any p ys)
    (λ h. let w = any_in p xs h in in_any p ys w.0 (contains_in ys w.0 ((alike w.0 (own w.0 w.2)).0 (in_contains xs w.0 w.1))) w.2)
    (λ h. let w = any_in p ys h in in_any p xs w.0 (contains_in xs w.0 ((alike w.0 (own w.0 w.2)).1 (in_contains ys w.0 w.1))) w.2)

-- two lines of one event and zone among lines apart are one

again : (x y : Line) (lines : List Line) (e : Event) (z : Place) → (is_routine x.action ≡ false → list_any (concerns x.event x.zone) lines ≡ false) → concerns e z x ≡ true → concerns e z y ≡ true → IsIn y lines → ⊥
again x y lines e z apart p q h =
    let parts = concerns-parts e z x p in
    let none : list_any (concerns e z) lines ≡ false = rw (sym parts.1, sym parts.2) (apart parts.0) in
    both_ways _ none (in_any (concerns e z) lines y h q)

is_one : (lines : List Line) (x y : Line) (e : Event) (z : Place) → AreApart lines → IsIn x lines → IsIn y lines → concerns e z x ≡ true → concerns e z y ≡ true → x ≡ y
is_one [] x y e z apart h g p q = absurd h
is_one (l ∷ lines) x y e z apart (inl s) (inl r) p q = sym s ∙ r
is_one (l ∷ lines) x y e z apart (inl s) (inr g) p q = absurd (again l y lines e z apart.0 (subst (λ (v : Line). concerns e z v ≡ true) (sym s) p) q g)
is_one (l ∷ lines) x y e z apart (inr h) (inl r) p q = absurd (again l x lines e z apart.0 (subst (λ (v : Line). concerns e z v ≡ true) (sym r) q) p h)
is_one (l ∷ lines) x y e z apart (inr h) (inr g) p q = is_one lines x y e z apart.1 h g p q

-- so the first line of an event in a zone is the same
module _ (xs ys : List Line) (apart : AreApart xs) (alike : TouchAlike xs ys) (e : Event) (z : Place) where
  found_alike : (o r : Option Line) → find (concerns e z) xs ≡ o → find (concerns e z) ys ≡ r → o ≡ r
  found_alike None None h g = refl
  found_alike None (Some y) h g =
      let own = find_in (concerns e z) ys y g in
      let any : list_any (concerns e z) ys ≡ true = in_any (concerns e z) ys y own.0 own.1 in
      absurd (both_ways _ (sym (any_alike (concerns e z) xs ys (speaks-touches e z) alike) ∙ none_in (concerns e z) xs h) any)
  found_alike (Some x) None h g =
      let own = find_in (concerns e z) xs x h in
      let any : list_any (concerns e z) xs ≡ true = in_any (concerns e z) xs x own.0 own.1 in
      absurd (both_ways _ (any_alike (concerns e z) xs ys (speaks-touches e z) alike ∙ none_in (concerns e z) ys g) any)
  found_alike (Some x) (Some y) h g =
      let first = find_in (concerns e z) xs x h in
      let second = find_in (concerns e z) ys y g in
      let there : IsIn y xs = contains_in xs y ((alike y (speaks-touches e z y second.1)).1 (in_contains ys y second.0)) in
      ap (λ (v : Line). Some v) (is_one xs x y e z apart first.0 there first.1 second.1)

  pub first_alike : first_line xs e z ≡ first_line ys e z
  first_alike = found_alike (first_line xs e z) (first_line ys e z) refl refl

-- the rows by which a higher row is judged

abbrev others : Line → Bool
others line = not (is_upgrade line.action)

module _ (p q : Line → Bool) where
  kept_first : (line : Line) (lines : List Line) (b : Bool) → p line ≡ b → filter p (line ∷ lines) ≡ cond b (line ∷ filter p lines) (filter p lines)
  kept_first line lines b h = rw h refl

  commute_step : (line : Line) (lines : List Line) (b c : Bool) → p line ≡ b → q line ≡ c → filter p (filter q lines) ≡ filter q (filter p lines) → filter p (cond c (line ∷ filter q lines) (filter q lines)) ≡ filter q (cond b (line ∷ filter p lines) (filter p lines))
  commute_step line lines true true h g more = rw (h, g) (ap (λ (ls : List Line). line ∷ ls) more)
  commute_step line lines true false h g more = rw g more
  commute_step line lines false true h g more = rw h more
  commute_step line lines false false h g more = more

  commute : (lines : List Line) → filter p (filter q lines) ≡ filter q (filter p lines)
  commute [] = refl
  commute (line ∷ lines) = commute_step line lines (p line) (q line) refl refl (commute lines)

  touching_cond : (line : Line) (lines : List Line) (b : Bool) → AreTouching (line ∷ lines) → AreTouching (filter p lines) → AreTouching (cond b (line ∷ filter p lines) (filter p lines))
  touching_cond line lines true all more = (all.0, more)
  touching_cond line lines false all more = more

  touching_kept : (lines : List Line) → AreTouching lines → AreTouching (filter p lines)
  touching_kept [] all = tt
  touching_kept (line ∷ lines) all = touching_cond line lines (p line) all (touching_kept lines all.1)

module _ (rows : List Row) (t : ℕ) where
  -- whether a line other than UPG is lawful, the other lines of its product don't tell
  lawful_alone : (xs ys : List Line) (line : Line) → is_upgrade line.action ≡ false → is_lawful rows t xs line ≡ is_lawful rows t ys line
  lawful_alone xs ys line u = ap (λ (o : Option Breach). is_none o) (breach-higher (life_at rows line) line rows t (has_higher rows t xs line) (has_higher rows t ys line) u)

  first_others : (xs ys : List Line) (line : Line) (u : Bool) → is_upgrade line.action ≡ u → filter others (cond (is_lawful rows t xs line) (line ∷ []) []) ≡ filter others (cond (is_lawful rows t ys line) (line ∷ []) [])
  first_others xs ys line true u =
      let none : (b : Bool) → filter others (cond b (line ∷ []) []) ≡ [] = λ b. elim b as (λ b. filter others (cond b (line ∷ []) []) ≡ []) [ true ↦ rw u refl | false ↦ refl ] in
      none (is_lawful rows t xs line) ∙ sym (none (is_lawful rows t ys line))
  first_others xs ys line false u = ap (λ (b : Bool). filter others (cond b (line ∷ []) [])) (lawful_alone xs ys line u)

  others_alike : (xs ys : List Line) (o : Option Line) → filter others (lawful_first rows t xs o) ≡ filter others (lawful_first rows t ys o)
  others_alike xs ys None = refl
  others_alike xs ys (Some line) = first_others xs ys line (is_upgrade line.action) refl

  abbrev left_by : List Line → List Row
  left_by lines = put_all rows t (filter others (lawful_of (judged rows t lines))) rows

  found_left : (lines : List Line) (e : Event) (z : Place) → row_at (left_by lines) e z ≡ row_by_last rows t (filter others (lawful_first rows t lines (first_line lines e z))) (row_at rows e z)
  found_left lines e z =
      row_at-put_all rows t e z (filter others (lawful_of (judged rows t lines))) rows (touching_kept others others (lawful_of (judged rows t lines)) (lawful_of-touches (judged rows t lines)))
      ∙ ap (λ (ls : List Line). row_by_last rows t ls (row_at rows e z)) (commute (concerns e z) others (lawful_of (judged rows t lines)) ∙ ap (filter others) (spoken rows t lines e z [] lines))

  end_alike : (xs ys : List Line) → TouchAlike xs ys → (after : List Row) → end_upgraded xs after ≡ end_upgraded ys after
  end_alike xs ys alike [] = refl
  end_alike xs ys alike (r ∷ after) =
      let same = any_alike (λ (line : Line). is_upgrade line.action && concerns r.event r.zone line) xs ys (λ line h. speaks-touches r.event r.zone line (and_parts (is_upgrade line.action) _ h).1) alike in
      ap (λ (b : Bool). cond b (record { event = r.event; zone = r.zone; period = r.period; flood = r.flood; ended = true }) r ∷ end_upgraded xs after) same
      ∙ ap (λ (rest : List Row). cond (list_any (λ (line : Line). is_upgrade line.action && concerns r.event r.zone line) ys) (record { event = r.event; zone = r.zone; period = r.period; flood = r.flood; ended = true }) r ∷ rest) (end_alike xs ys alike after)

  module _ (up : IsStrictlySortedBy by_key rows) (xs ys : List Line) (apart : AreApart xs) (alike : TouchAlike xs ys) where
    left_alike : left_by xs ≡ left_by ys
    left_alike =
        told_by_keys (left_by xs) (left_by ys) (put_all-sorted rows t (filter others (lawful_of (judged rows t xs))) rows up) (put_all-sorted rows t (filter others (lawful_of (judged rows t ys))) rows up) (λ e z.
        found_left xs e z
        ∙ ap (λ (ls : List Line). row_by_last rows t ls (row_at rows e z)) (others_alike xs ys (first_line xs e z) ∙ ap (λ (o : Option Line). filter others (lawful_first rows t ys o)) (first_alike xs ys apart alike e z))
        ∙ sym (found_left ys e z))

    higher_alike : rows_for_higher rows t xs ≡ rows_for_higher rows t ys
    higher_alike =
        rows_for_higher-lawful rows t xs
        ∙ ap (end_upgraded xs) left_alike ∙ end_alike xs ys alike (left_by ys)
        ∙ sym (rows_for_higher-lawful rows t ys)

    pub lawful_alike : (line : Line) → is_lawful rows t xs line ≡ is_lawful rows t ys line
    lawful_alike line =
        ap (λ (after : List Row). is_none (breach_of_line (life_at rows line) line t (record { opened = (around_of rows t xs line).opened; going = (around_of rows t xs line).going; held = (around_of rows t xs line).held; same = (around_of rows t xs line).same; higher = not (may_yield line.event.hazard) || is_overlapped after t (row_at rows line.event line.zone) }))) higher_alike

    by_first-alike : (before : Option Row) (o : Option Line) → row_by_first rows t xs before o ≡ row_by_first rows t ys before o
    by_first-alike before None = refl
    by_first-alike before (Some line) = ap (λ (b : Bool). cond b (Some (row_after rows t line)) before) (lawful_alike line)

    pub rows_after-alike : rows_after rows t xs ≡ rows_after rows t ys
    rows_after-alike =
        told_by_keys (rows_after rows t xs) (rows_after rows t ys) (rows_after-sorted rows t xs up) (rows_after-sorted rows t ys up) (λ e z.
        row_at-rows_after rows t xs e z
        ∙ by_first-alike (row_at rows e z) (first_line xs e z) ∙ ap (row_by_first rows t ys (row_at rows e z)) (first_alike xs ys apart alike e z)
        ∙ sym (row_at-rows_after rows t ys e z))

-- none has a breach

turned : (x y : Line) → is_routine x.action ≡ false → is_routine y.action ≡ false → concerns y.event y.zone x ≡ true → concerns x.event x.zone y ≡ true
turned x y own other h =
    let parts = concerns-parts y.event y.zone x h in
    rw (other, parts.1, parts.2, event_itself y.event) (zone_itself y.zone)

or_none : (b : Bool) → (b || false) ≡ b
or_none true = refl
or_none false = refl

module _ (rows : List Row) (t : ℕ) (all : List Line) where
  abbrev pub may_stand : Line → Bool
  may_stand line = is_routine line.action || is_lawful rows t all line

  -- no line is a second one behind these
  abbrev AreFirst : List Line → List Line → Type 0
  AreFirst earlier lines = AllByRecursion (λ (line : Line). is_routine line.action ≡ false → is_second earlier line ≡ false) lines

  breach_alone : (earlier : List Line) (line : Line) (routine : Bool) → is_routine line.action ≡ routine → (routine ≡ false → is_second earlier line ≡ false) → is_none (breach_in rows t all earlier line) ≡ (routine || is_lawful rows t all line)
  unfolding breach_in
  breach_alone earlier line true own first = rw own refl
  breach_alone earlier line false own first = rw (own, first refl) refl

  still_first : (earlier : List Line) (x y : Line) → is_routine y.action ≡ false → is_second earlier y ≡ false → (is_routine x.action ≡ false → concerns x.event x.zone y ≡ false) → is_second (earlier ++ x ∷ []) y ≡ false
  still_first earlier x y own first apart =
      let none : concerns y.event y.zone x ≡ false = false_from_ne_true _ (λ h.
      let touches = speaks-touches y.event y.zone x h in
      both_ways _ (apart touches) (turned x y touches own h)) in
      list_any-append (concerns y.event y.zone) earlier (x ∷ []) ∙ rw (first, none) refl

  none_of : (p : Line → Bool) (lines : List Line) (y : Line) → list_any p lines ≡ false → IsIn y lines → p y ≡ false
  none_of p lines y h g = false_from_ne_true _ (λ e. both_ways _ h (in_any p lines y g e))

  pub judged_alone : (earlier lines : List Line) → AreFirst earlier lines → AreApart lines → list_all (λ (l : Line × Option Breach). is_none l.1) (judged_from rows t all earlier lines) ≡ list_all may_stand lines
  judged_alone earlier [] first apart = refl
  judged_alone earlier (line ∷ lines) first apart =
      let rest : AreFirst (earlier ++ line ∷ []) lines = all_of (λ (l : Line). is_routine l.action ≡ false → is_second (earlier ++ line ∷ []) l ≡ false) lines (λ y h own.
      still_first earlier line y own (of_all (λ (l : Line). is_routine l.action ≡ false → is_second earlier l ≡ false) lines y first.1 h own)
      (λ touches. none_of (concerns line.event line.zone) lines y (apart.0 touches) h)) in
      rw (breach_alone earlier line (is_routine line.action) refl first.0) (ap (λ (b : Bool). may_stand line && b) (judged_alone (earlier ++ line ∷ []) lines rest apart.1))

  first_all : (lines : List Line) → AreFirst [] lines
  first_all lines = all_of (λ (l : Line). is_routine l.action ≡ false → is_second [] l ≡ false) lines (λ y h own. refl)

routine_or : (r b : Bool) → (r ≡ false → (r || b) ≡ true) → (r || b) ≡ true
routine_or true b h = refl
routine_or false b h = h refl

module _ (rows : List Row) (t : ℕ) (up : IsStrictlySortedBy by_key rows) (xs ys : List Line) (apart : AreApart xs) (apart_too : AreApart ys) (alike : TouchAlike xs ys) where
  stand_alike : (line : Line) → may_stand rows t xs line ≡ may_stand rows t ys line
  stand_alike line = ap (λ (b : Bool). is_routine line.action || b) (lawful_alike rows t up xs ys apart alike line)

  to_second : list_all (may_stand rows t xs) xs ≡ true → list_all (may_stand rows t ys) ys ≡ true
  to_second h = in_all (may_stand rows t ys) ys (λ y g. routine_or (is_routine y.action) (is_lawful rows t ys y) (λ own.
      sym (stand_alike y) ∙ all_in (may_stand rows t xs) xs h y (contains_in xs y ((alike y own).1 (in_contains ys y g)))))

  to_first : list_all (may_stand rows t ys) ys ≡ true → list_all (may_stand rows t xs) xs ≡ true
  to_first h = in_all (may_stand rows t xs) xs (λ x g. routine_or (is_routine x.action) (is_lawful rows t xs x) (λ own.
      stand_alike x ∙ all_in (may_stand rows t ys) ys h x (contains_in ys x ((alike x own).0 (in_contains xs x g)))))

  pub are_lawful-alike : are_lawful rows t xs ≡ are_lawful rows t ys
  are_lawful-alike =
      judged_alone rows t xs [] xs (first_all rows t xs xs) apart
      ∙ one_way (list_all (may_stand rows t xs) xs) (list_all (may_stand rows t ys) ys) to_second to_first
      ∙ sym (judged_alone rows t ys [] ys (first_all rows t ys ys) apart_too)
