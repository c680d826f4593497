-- A zone's rows after a product: those that its lines leave, and those in whose place it leaves none.
use Rattle.std.proofs.Common.{◌≡◌, ◌∙◌, ℕ, List, [], ◌∷◌, ◌++◌, ◌&&◌, ◌||◌, not, Bool, true, false, cond, Option, Some, None, refl, ap, sym, subst}
use Rattle.std.proofs.lemmas.Bool.{and_parts}
use Rattle.std.specs.BTreeMap.{is_at}
use Rattle.std.specs.List.{filter, list_any}
use Rattle.std.specs.List.Sorted.{IsStrictlySortedBy}
use Rattle.std.specs.Option.{is_none, is_some}
use Rattle.hazard_types.specs.Hazards.{facts_of}
use Rattle.hazard_types.specs.Places.{Place}
use Rattle.hazard_types.specs.Same.{same_zone, same_event}
use Rattle.hazard_types.specs.declared.codes.Action.{Action}
use Rattle.hazard_types.specs.declared.codes.Action.TheVariants.{New, Con, Exa, Ext, Exb, Upg, Can, Exp, Cor, Rou}
use Rattle.hazard_types.specs.declared.codes.Family.{Family}
use Rattle.hazard_types.specs.declared.hazard.Event.{Event}
use Rattle.hazard_types.specs.declared.line.Line.{Line}
use Rattle.hazard_types.specs.declared.line.Row.{Row}
use Rattle.hazard_types.proofs.Equality.{zone_one}
use Rattle.event_life.specs.Higher.{family_of, is_above, may_yield, outranks}
use Rattle.event_life.specs.Periods.{is_live, overlaps}
use Rattle.event_life.specs.Products.{by_key, put, row_at, row_after, is_routine, is_upgrade, concerns, rows_after_all_but_upgrades, end_upgraded, rows_for_higher, is_overlapped, has_higher}
use Rattle.event_life.specs.Seats.{may_be_higher, is_upgraded}
use Rattle.event_life.proofs.Members.{any_in, find_in, in_any, one_way}
use Rattle.event_life.proofs.Puts.{at_key, at_key-parts, row_at-put, put-sorted}
use Rattle.row_index.specs.declared.seats.Seat.{Seat}
use Rattle.row_index.specs.Numbers.{is_in_zone}
use Rattle.row_index.specs.Seating.{by_seat, seat_of, key_of_line, has_seat, upgrades}
use Rattle.row_index.specs.Steps as index
use Rattle.row_index.specs.Steps.{AreHigher, IsChanged, rises_over, stays_over, is_untouched, still_over}
use Rattle.row_index.specs.Telling.{Tells}
use Rattle.row_index.proofs.Seated.{seat_tied}
use Rattle.row_index.proofs.Tests.{and_true, and_false, any_same, any_filtered, any_put, at_itself, but, found_own}

-- rows that are put over others

abbrev in_place : List Row → Row → Bool
in_place es r = is_none (row_at es r.event r.zone)

-- these rows come in the place of those of the first list, or beside them
abbrev pub Over : List Row → List Row → List Row → Type 0
Over es rows after = (p : Row → Bool) → list_any p after ≡ (list_any p es || list_any (λ r. p r && in_place es r) rows)

over_none : (rows : List Row) → Over [] rows rows
over_none rows p = any_same p (λ r. p r && true) rows (λ r. sym (and_true (p r)))

key_turned : (row r : Row) → at_key r.event r.zone row ≡ at_key row.event row.zone r
key_turned row r = by_case (at_key r.event r.zone row) (at_key row.event row.zone r)
    (λ h. let k = at_key-parts r.event r.zone row h in rw (k.0, k.1) (at_itself r))
    (λ h. let k = at_key-parts row.event row.zone r h in rw (k.0, k.1) (at_itself row))
  where
    by_case : (a b : Bool) → (a ≡ true → b ≡ true) → (b ≡ true → a ≡ true) → a ≡ b
    by_case true b f g = sym (f refl)
    by_case false true f g = g refl
    by_case false false f g = refl

place_by : (b : Bool) (row : Row) (o : Option Row) → is_none (cond b (Some row) o) ≡ (not b && is_none o)
place_by true row o = refl
place_by false row o = refl

and_assoc : (a b c : Bool) → (a && (b && c)) ≡ ((a && b) && c)
and_assoc true b c = refl
and_assoc false b c = refl

or_assoc : (a b c : Bool) → ((a || b) || c) ≡ (a || (b || c))
or_assoc true b c = refl
or_assoc false b c = refl

in_place-put : (p : Row → Bool) (row : Row) (es : List Row) (r : Row) → (p r && in_place (put row es) r) ≡ (but p row r && in_place es r)
in_place-put p row es r =
    ap (λ (o : Option Row). p r && is_none o) (row_at-put row es r.event r.zone)
    ∙ ap (λ (b : Bool). p r && b) (place_by (at_key r.event r.zone row) row (row_at es r.event r.zone) ∙ ap (λ (b : Bool). not b && in_place es r) (key_turned row r))
    ∙ and_assoc (p r) (not (at_key row.event row.zone r)) (in_place es r)

over_put : (row : Row) (es rows after : List Row) → IsStrictlySortedBy by_key es → IsStrictlySortedBy by_key after → Over es rows after → Over (put row es) rows (put row after)
over_put row es rows after up up_after over p =
    any_put p row after up_after
    ∙ ap (λ (b : Bool). p row || b) (over (but p row))
    ∙ sym (or_assoc (p row) (list_any (but p row) es) (list_any (λ r. but p row r && in_place es r) rows))
    ∙ (let first = sym (any_put p row es up) in
    let later = sym (any_same (λ r. p r && in_place (put row es) r) (λ r. but p row r && in_place es r) rows (in_place-put p row es)) in
    λ i. first i || later i)

abbrev counted : Bool → Row → List Row → List Row
counted b row after = cond b (put row after) after

counted-sorted : (b : Bool) (row : Row) (after : List Row) → IsStrictlySortedBy by_key after → IsStrictlySortedBy by_key (counted b row after)
counted-sorted true row after up = put-sorted row after up
counted-sorted false row after up = up

over_counted : (b : Bool) (row : Row) (es rows after : List Row) → IsStrictlySortedBy by_key es → IsStrictlySortedBy by_key after → Over es rows after → Over (counted b row es) rows (counted b row after)
over_counted true row es rows after up up_after over = over_put row es rows after up up_after over
over_counted false row es rows after up up_after over = over

over_all : (before : List Row) (t : ℕ) (earlier lines : List Line) (es rows after : List Row) → IsStrictlySortedBy by_key es → IsStrictlySortedBy by_key after → Over es rows after
    → Over (rows_after_all_but_upgrades before t earlier lines es) rows (rows_after_all_but_upgrades before t earlier lines after)
over_all before t earlier [] es rows after up up_after over = over
over_all before t earlier (line ∷ lines) es rows after up up_after over =
    let b = may_be_higher before t earlier line in
    let row = row_after before t line in
    over_all before t (earlier ++ line ∷ []) lines (counted b row es) rows (counted b row after) (counted-sorted b row es up) (counted-sorted b row after up_after) (over_counted b row es rows after up up_after over)

over_lines : (rows : List Row) (t : ℕ) (lines : List Line) → IsStrictlySortedBy by_key rows → Over (rows_after_all_but_upgrades rows t [] lines []) rows (rows_after_all_but_upgrades rows t [] lines rows)
unfolding IsStrictlySortedBy
over_lines rows t lines up = over_all rows t [] lines [] rows rows tt up (over_none rows)

-- rows that a UPG line has ended

abbrev as_ended : Row → Row
as_ended r = record { event = r.event; zone = r.zone; period = r.period; flood = r.flood; ended = true }

ended_by : (p : Row → Bool) (b : Bool) (r : Row) (x y : Bool) → p (as_ended r) ≡ false → x ≡ y → (p (cond b (as_ended r) r) || x) ≡ ((p r && not b) || y)
ended_by p true r x y none later = rw (none, later, and_false (p r)) refl
ended_by p false r x y none later = rw (later, and_true (p r)) refl

any_ended : (p : Row → Bool) (lines : List Line) (rows : List Row) → ((r : Row) → p (as_ended r) ≡ false) → list_any p (end_upgraded lines rows) ≡ list_any (λ r. p r && not (is_upgraded lines r)) rows
any_ended p lines [] none = refl
any_ended p lines (r ∷ rows) none = ended_by p (is_upgraded lines r) r (list_any p (end_upgraded lines rows)) (list_any (λ r. p r && not (is_upgraded lines r)) rows) (none r) (any_ended p lines rows none)

said_alike : (a : Action) (x y : Bool) → (is_upgrade a && (x && y)) ≡ (is_upgrade a && ((not (is_routine a) && x) && y))
said_alike Upg x y = refl
said_alike New x y = refl
said_alike Con x y = refl
said_alike Exa x y = refl
said_alike Ext x y = refl
said_alike Exb x y = refl
said_alike Can x y = refl
said_alike Exp x y = refl
said_alike Cor x y = refl
said_alike Rou x y = refl

upgraded_told : (seats : List Seat) (lines : List Line) (r : Row) → Tells upgrades key_of_line seats lines → has_seat seats (seat_of r) ≡ is_upgraded lines r
upgraded_told seats lines r tells =
    tells (is_at (by_seat (seat_of r)))
    ∙ any_same (λ (l : Line). upgrades l && is_at (by_seat (seat_of r)) (key_of_line l)) (λ (l : Line). is_upgrade l.action && concerns r.event r.zone l) lines
    (λ l. ap (λ (b : Bool). upgrades l && b) (seat_tied r.event l.event r.zone l.zone) ∙ said_alike l.action (same_event l.event r.event) (same_zone l.zone r.zone))

-- a higher row

abbrev overlaps_own : ℕ → Row → Row → Bool
overlaps_own t own r = same_zone r.zone own.zone && is_live t r && outranks r.event.hazard own.event.hazard && overlaps r.period own.period

none_ended : (t : ℕ) (own r : Row) → overlaps_own t own (as_ended r) ≡ false
none_ended t own r = rw (and_false (same_zone r.zone own.zone)) refl

-- the test of a row in the zone, in another order
sorted : (z l o a : Bool) → (z && (l && o && a)) ≡ (z && l && a && o)
sorted false l o a = refl
sorted true false o a = refl
sorted true true false a = sym (and_false a)
sorted true true true a = sym (and_true a)

-- what its parts say of a row that rises over another
rises_parts : (t : ℕ) (low : Option (Family × ℕ)) (own r : Row) → rises_over t low own r ≡ true → (is_live t r ≡ true) × (overlaps r.period own.period ≡ true) × (is_above (family_of (facts_of r.event.hazard)) low ≡ true)
rises_parts t low own r h =
    let p = and_parts (is_live t r && overlaps r.period own.period) _ h in
    let q = and_parts (is_live t r) _ p.0 in
    (q.0, q.1, p.1)

-- the live rows of higher events tell whether one is still over a row of their zone
pub still-told : (rows : List Row) (t : ℕ) (low : Option (Family × ℕ)) (counted : List Row) (seats : List Seat) (own : Row) (higher : List Row) → IsStrictlySortedBy by_key rows → AreHigher rows t own low higher
    → list_any (still_over t low counted seats own) (filter (is_in_zone own.zone) higher) ≡ list_any (still_over t low counted seats own) (filter (is_in_zone own.zone) rows)
still-told rows t low counted seats own higher up are =
    let p : Row → Bool = still_over t low counted seats own in
    let both : Row → Bool = λ r. is_in_zone own.zone r && p r in
    any_filtered p (is_in_zone own.zone) higher
    ∙ one_way (list_any both higher) (list_any both rows)
    (λ h.
    let w = any_in both higher h in
    let r = w.0 in
    in_any both rows r (find_in (at_key r.event r.zone) rows r (are.part r.event r.zone r (found_own higher r are.in_order w.1))).0 w.2)
    (λ h.
    let w = any_in both rows h in
    let r = w.0 in
    let b = and_parts (is_in_zone own.zone r) _ w.2 in
    let rises = rises_parts t low own r (and_parts (rises_over t low own r) _ b.1).0 in
    let here : row_at rows r.event own.zone ≡ Some r = subst (λ (z : Place). row_at rows r.event z ≡ Some r) (zone_one r.zone own.zone b.0) (found_own rows r up w.1) in
    in_any both higher r (find_in (at_key r.event own.zone) higher r (are.all r.event r rises.2 here rises.0 rises.1)).0 w.2)
    ∙ sym (any_filtered p (is_in_zone own.zone) rows)

-- in its own zone
free_there : (counted : List Row) (seats : List Seat) (own r : Row) (x : Bool) (b : Bool) → is_in_zone own.zone r ≡ b → (b && (x && is_untouched counted seats own.zone r.event)) ≡ ((b && (x && not (has_seat seats (seat_of r)))) && in_place counted r)
free_there counted seats own r x false h = refl
free_there counted seats own r x true h =
    ap (λ (z : Place). x && is_untouched counted seats z r.event) (sym (zone_one r.zone own.zone h))
    ∙ and_assoc x (not (has_seat seats (seat_of r))) (in_place counted r)

none_is : (o : Option (Family × ℕ)) → is_none o ≡ not (is_some o)
none_is None = refl
none_is (Some f) = refl

module _ (rows : List Row) (t : ℕ) (lines : List Line) (counted : List Row) (seats : List Seat) (changed : IsChanged rows t lines counted seats) (up : IsStrictlySortedBy by_key rows) where
  abbrev rank : Row → Option (Family × ℕ)
  rank own = family_of (facts_of own.event.hazard)

  abbrev kept : Row → Row → Bool
  kept own r = overlaps_own t own r && not (is_upgraded lines r)

  stays_told : (own r : Row) → (is_in_zone own.zone r && stays_over t (rank own) seats own r) ≡ kept own r
  stays_told own r =
      let rises = rises_over t (rank own) own r in
      ap (λ (b : Bool). is_in_zone own.zone r && (rises && not b)) (upgraded_told seats lines r changed.said)
      ∙ and_assoc (is_in_zone own.zone r) rises (not (is_upgraded lines r))
      ∙ ap (λ (b : Bool). b && not (is_upgraded lines r)) (sorted (is_in_zone own.zone r) (is_live t r) (overlaps r.period own.period) (outranks r.event.hazard own.event.hazard))

  still_told : (own r : Row) → (is_in_zone own.zone r && still_over t (rank own) counted seats own r) ≡ (kept own r && in_place counted r)
  still_told own r =
      free_there counted seats own r (rises_over t (rank own) own r) (is_in_zone own.zone r) refl
      ∙ ap (λ (b : Bool). b && in_place counted r) (stays_told own r)

  over_told : (own : Row) → (list_any (stays_over t (rank own) seats own) (filter (is_in_zone own.zone) counted) || list_any (still_over t (rank own) counted seats own) (filter (is_in_zone own.zone) rows))
      ≡ is_overlapped (rows_for_higher rows t lines) t (Some own)
  over_told own =
      let over = subst (λ (es : List Row). Over es rows (rows_after_all_but_upgrades rows t [] lines rows)) (sym changed.put) (over_lines rows t lines up) in
      let first : list_any (stays_over t (rank own) seats own) (filter (is_in_zone own.zone) counted) ≡ list_any (kept own) counted =
      any_filtered (stays_over t (rank own) seats own) (is_in_zone own.zone) counted
      ∙ any_same (λ r. is_in_zone own.zone r && stays_over t (rank own) seats own r) (kept own) counted (stays_told own) in
      let later : list_any (still_over t (rank own) counted seats own) (filter (is_in_zone own.zone) rows) ≡ list_any (λ r. kept own r && in_place counted r) rows =
      any_filtered (still_over t (rank own) counted seats own) (is_in_zone own.zone) rows
      ∙ any_same (λ r. is_in_zone own.zone r && still_over t (rank own) counted seats own r) (λ r. kept own r && in_place counted r) rows (still_told own) in
      (λ i. first i || later i)
      ∙ sym (over (kept own))
      ∙ sym (any_ended (overlaps_own t own) lines (rows_after_all_but_upgrades rows t [] lines rows) (none_ended t own))

  higher_own : (line : Line) (own : Row) → row_at rows line.event line.zone ≡ Some own → index.is_overlapped rows t counted seats (rank own) own ≡ has_higher rows t lines line
  higher_own line own found =
      let own_at = (find_in (at_key line.event line.zone) rows own found).1 in
      let key = at_key-parts line.event line.zone own own_at in
      or_assoc (is_none (rank own)) (list_any (stays_over t (rank own) seats own) (filter (is_in_zone own.zone) counted)) (list_any (still_over t (rank own) counted seats own) (filter (is_in_zone own.zone) rows))
      ∙ ap (λ (b : Bool). is_none (rank own) || b) (over_told own)
      ∙ ap (λ (b : Bool). b || is_overlapped (rows_for_higher rows t lines) t (Some own)) (none_is (rank own) ∙ ap (λ (e : Event). not (may_yield e.hazard)) key.0)
      ∙ ap (λ (o : Option Row). not (may_yield line.event.hazard) || is_overlapped (rows_for_higher rows t lines) t o) (sym found)

  -- the live rows of higher events stand for all rows before
  pub higher-told : (line : Line) (own : Row) (higher : List Row) → row_at rows line.event line.zone ≡ Some own → AreHigher rows t own (family_of (facts_of line.event.hazard)) higher
      → index.is_overlapped higher t counted seats (rank own) own ≡ has_higher rows t lines line
  higher-told line own higher found are =
      let key = at_key-parts line.event line.zone own (find_in (at_key line.event line.zone) rows own found).1 in
      let here : AreHigher rows t own (rank own) higher = subst (λ (e : Event). AreHigher rows t own (family_of (facts_of e.hazard)) higher) (sym key.0) are in
      ap (λ (b : Bool). is_none (rank own) || list_any (stays_over t (rank own) seats own) (filter (is_in_zone own.zone) counted) || b) (still-told rows t (rank own) counted seats own higher up here)
      ∙ higher_own line own found
