-- Each UPG line of a draft has its higher row.
use Rattle.std.proofs.Common.{◌≡◌, inl, inr, ⊎_elim, ◌&&◌, not, ℕ, List, [], ◌∷◌, Bool, true, false, Option, Some, None, refl, sym, ap, ◌∙◌, cond, filter, option_map}
use Rattle.std.proofs.lemmas.Bool.{and_parts, and_from, or_right, not-true, not_from_false, both_ways}
use Rattle.std.specs.List.{AllByRecursion, list_any}
use Rattle.std.specs.List.Sorted.{IsStrictlySortedBy}
use Rattle.hazard_types.specs.Places.{Place}
use Rattle.hazard_types.specs.Same.{same_zone, same_event}
use Rattle.hazard_types.specs.declared.codes.Action.{Action}
use Rattle.hazard_types.specs.declared.codes.Action.TheVariants.{New, Con, Exa, Exb, Upg, Can, Exp}
use Rattle.hazard_types.specs.declared.codes.Category.{Category}
use Rattle.hazard_types.specs.declared.hazard.Event.{Event}
use Rattle.hazard_types.specs.declared.line.Line.{Line}
use Rattle.hazard_types.specs.declared.line.Row.{Row}
use Rattle.hazard_types.specs.declared.period.Period.{Period}
use Rattle.office_types.specs.declared.request.Intent.{Intent}
use Rattle.office_types.specs.declared.request.Intent.TheVariants.{Put, Finish, Restate, Routine}
use Rattle.office_types.specs.declared.request.PutPart.{PutPart}
use Rattle.office_types.specs.declared.request.Target.{Target}
use Rattle.office_types.specs.declared.request.Target.TheVariants.{Fresh, Join}
use Rattle.hazard_types.proofs.Equality.{event_itself}
use Rattle.event_life.specs.declared.life.Life.{Life}
use Rattle.event_life.specs.Higher.{may_yield, outranks}
use Rattle.event_life.specs.Lives.{opens}
use Rattle.event_life.specs.Periods.{ends_after, is_live, overlaps, same_at}
use Rattle.event_life.specs.Table.{continued_period, flood_after, life_after_lawful_line, life_after_line, opened_period}
use Rattle.event_life.specs.Products.{by_key, has_higher, is_overlapped, is_routine, is_upgrade, life_of, row_after, row_at, row_of, rows_for_higher, concerns}
use Rattle.event_life.proofs.Puts.{concerns-parts}
use Rattle.hazard_board.specs.Board.{has_period}
use Rattle.action_planner.specs.Placed.{Placed, zones_of, touches, speaks}
use Rattle.action_planner.specs.Lines.{period_of_put, period_of_put_on, continuing_line, opening_action, opening_line, joined_row, put_line_on, line_of_put, line_on, puts_or_finishes, is_left, period_by_put, row_after_put, rows_by_intent, rows_by_puts, rows_left, is_overlaid, is_near_end, finishing_action, finish_lines, restate_lines, lines_in, lines_in_zones, lines_from, is_continued, added_lines, planned_lines}
use Rattle.action_planner.specs.Offences.{is_bad_period, bad_period_of}
use Rattle.action_planner.proofs.LawfulLists.{EachPair, Has, all_append, all_each, all_filter, all_has, all_map, all_weaker, any_has, has_any, has_filter, has_left, has_map, has_right, has_split, none_of}
use Rattle.action_planner.proofs.LawfulPlaced.{IsFit}
use Rattle.action_planner.proofs.LawfulSteps.{IsSound, continued_by_put, continued_as_is, going_from, row_at-own, row_at-parts}
use Rattle.action_planner.proofs.LawfulKeys.{AreApart, IsOn, each_zone, each_intent, lines_on, one_line, put-no_routine, put-no_upgrade, rows_own, spoken_itself, touched_zones, turned_pairs}
use Rattle.action_planner.proofs.LawfulLines.{not_bad}
use Rattle.action_planner.proofs.LawfulHigher.{IsOfLives, Leaves, stands_after}

-- what lines leave

con_leaves : (rows : List Row) (t : ℕ) (Q : Row → Bool) → IsOfLives Q → (r : Row) → row_at rows r.event r.zone ≡ Some r → Q r ≡ true → Q (row_after rows t (line_on Con t r)) ≡ true
unfolding life_after_lawful_line
con_leaves rows t Q lives r h q =
    let left : Row = row_of (line_on Con t r) (life_after_line Con (life_of r) (line_on Con t r) t) in
    let same : row_after rows t (line_on Con t r) ≡ left = ap (λ (o : Option Row). row_of (line_on Con t r) (life_after_lawful_line (option_map life_of o) (line_on Con t r) t)) h in
    ap Q same ∙ lives r left refl refl (sym (continued_as_is t r)) refl q

continuing_left : (rows : List Row) (t : ℕ) (e : Event) (part : PutPart) (row : Row) (same : Bool) → same_at t row.period (period_of_put_on part t row) ≡ same →
    life_after_lawful_line (Some (life_of row)) (continuing_line t e part row) t ≡ record { period = continued_period (life_of row) (continuing_line t e part row) t; flood = flood_after row.flood part.flood; ended = false }
unfolding life_after_lawful_line
continuing_left rows t e part row true h = rw h refl
continuing_left rows t e part row false h = rw h refl

put_leaves_on : (rows : List Row) (t : ℕ) (Q : Row → Bool) → IsOfLives Q → (e : Event) (part : PutPart) (z : Place) (row : Row) → row_at rows e z ≡ Some row → is_bad_period part t ≡ false →
    Q (record { event = e; zone = z; period = period_of_put_on part t row; flood = part.flood; ended = false }) ≡ true → Q (row_after rows t (continuing_line t e part row)) ≡ true
put_leaves_on rows t Q lives e part z row h ok q =
    let p = row_at-parts rows e z row h in
    let line = continuing_line t e part row in
    let here : row_at rows e row.zone ≡ Some row = ap (λ (y : Place). row_at rows e y) p.1 ∙ h in
    let life : Life = record { period = continued_period (life_of row) line t; flood = flood_after row.flood part.flood; ended = false } in
    let same : row_after rows t line ≡ row_of line life =
    ap (λ (o : Option Row). row_of line (life_after_lawful_line (option_map life_of o) line t)) here
    ∙ ap (row_of line) (continuing_left rows t e part row (same_at t row.period (period_of_put_on part t row)) refl) in
    ap Q same ∙ lives _ (row_of line life) (sym p.1) refl (sym (continued_by_put t e part row ok)) refl q

opening_opens : (rows : List Row) (t : ℕ) (e : Event) (part : PutPart) (target : Target) → opens (opening_action rows t e part target) ≡ true
opening_opens rows t e part (Fresh h) = refl
opening_opens rows t e part (Join d) = joining_opens (has_period rows e (period_of_put part t) t)
  where
    joining_opens : (b : Bool) → opens (cond b Exa Exb) ≡ true
    joining_opens true = refl
    joining_opens false = refl

opened_anew : (a : Action) (life : Life) (line : Line) (t : ℕ) → opens a ≡ true → life_after_line a life line t ≡ record { period = opened_period line t; flood = line.flood; ended = false }
opened_anew New life line t h = refl
opened_anew Exa life line t h = refl
opened_anew Exb life line t h = refl
opened_anew _ life line t h = cc

-- an opening line leaves the life that it opens, whatever was there
pub opening_left : (o : Option Row) (line : Line) (t : ℕ) → opens line.action ≡ true → life_after_lawful_line (option_map life_of o) line t ≡ record { period = opened_period line t; flood = line.flood; ended = false }
unfolding life_after_lawful_line
opening_left None line t h = refl
opening_left (Some row) line t h = opened_anew line.action (life_of row) line t h

opening_leaves : (rows : List Row) (t : ℕ) (Q : Row → Bool) (e : Event) (part : PutPart) (z : Place) → IsOfLives Q →
    Q (record { event = e; zone = z; period = period_of_put part t; flood = part.flood; ended = false }) ≡ true → Q (row_after rows t (opening_line rows t e part z)) ≡ true
opening_leaves rows t Q e part z lives q =
    let line = opening_line rows t e part z in
    let same : row_after rows t line ≡ record { event = e; zone = z; period = period_of_put part t; flood = part.flood; ended = false } =
    ap (row_of line) (opening_left (row_at rows e z) line t (opening_opens rows t e part part.target)) in
    ap Q same ∙ q

joined_is : (rows : List Row) (e : Event) (z : Place) (target : Target) (row : Row) → joined_row rows e z target ≡ Some row → row_at rows e z ≡ Some row
joined_is rows e z (Fresh h) row g = cc
joined_is rows e z (Join d) row g = (going_from (row_at rows e z) row g).0

put_leaves_by : (rows : List Row) (t : ℕ) (Q : Row → Bool) → IsOfLives Q → (e : Event) (part : PutPart) (z : Place) (o : Option Row) → joined_row rows e z part.target ≡ o →
    is_bad_period part t ≡ false →
    Q (record { event = e; zone = z; period = period_by_put t part o; flood = part.flood; ended = false }) ≡ true → Q (row_after rows t (put_line_on rows t e part z o)) ≡ true
put_leaves_by rows t Q lives e part z None h ok q = opening_leaves rows t Q e part z lives q
put_leaves_by rows t Q lives e part z (Some row) h ok q = put_leaves_on rows t Q lives e part z row (joined_is rows e z part.target row h) ok q

-- a put's line leaves the put's row
put_leaves : (rows : List Row) (t : ℕ) (Q : Row → Bool) → IsOfLives Q → (e : Event) (part : PutPart) (z : Place) →
    is_bad_period part t ≡ false → Q (row_after_put rows t e part z) ≡ true → Q (row_after rows t (line_of_put rows t e part z)) ≡ true
put_leaves rows t Q lives e part z = put_leaves_by rows t Q lives e part z (joined_row rows e z part.target) refl

module _ (rows : List Row) (t : ℕ) (all : List Placed) (Q : Row → Bool) (lives : IsOfLives Q) where
  -- a row that no put and no finish is on

  module _ (r : Row) (here : row_at rows r.event r.zone ≡ Some r) (q : Q r ≡ true) where
    abbrev LeavesIt : Line → Type 0
    LeavesIt = Leaves rows t Q r.event r.zone

    same_row : (s : Row) → row_at rows s.event s.zone ≡ Some s → concerns r.event r.zone (line_on Con t s) ≡ true → s ≡ r
    same_row s own h =
        let p = concerns-parts r.event r.zone (line_on Con t s) h in
        let found : Some s ≡ Some r = sym own ∙ ap (λ (x : Event). row_at rows x s.zone) p.1 ∙ ap (λ (y : Place). row_at rows r.event y) p.2 ∙ here in
        cc

    con_leaves_it : (s : Row) → row_at rows s.event s.zone ≡ Some s → LeavesIt (line_on Con t s)
    con_leaves_it s own h =
        let passes : Q s ≡ true = ap Q (same_row s own h) ∙ q in
        (refl, con_leaves rows t Q lives s own passes)

    restate_leaves : (e : Event) (z : Place) (o : Option Row) → row_at rows e z ≡ o → AllByRecursion LeavesIt (restate_lines t o)
    restate_leaves e z None h = tt
    restate_leaves e z (Some s) h = (con_leaves_it s (row_at-own rows e z s h), tt)

    unspoken_leaves : (e : Event) (i : Intent) (z : Place) → (e ≡ r.event → z ≡ r.zone → ⊥) → AllByRecursion LeavesIt (lines_in rows t all e i z)
    unspoken_leaves e i z apart = all_weaker (IsOn e z) LeavesIt (λ l on h.
        let p = concerns-parts r.event r.zone l h in
        absurd (apart (sym on.0 ∙ p.1) (sym on.1 ∙ p.2))) (lines_in rows t all e i z) (lines_on rows t all e i z)

    intent_leaves : (e : Event) (i : Intent) (z : Place) → (puts_or_finishes i ≡ true → e ≡ r.event → z ≡ r.zone → ⊥) → AllByRecursion LeavesIt (lines_in rows t all e i z)
    intent_leaves e (Put part) z apart = unspoken_leaves e (Put part) z (apart refl)
    intent_leaves e (Finish part) z apart = unspoken_leaves e (Finish part) z (apart refl)
    intent_leaves e (Restate part) z apart = restate_leaves e z (row_at rows e z) refl
    intent_leaves e (Routine part) z apart = ((λ h. cc), tt)

    placed_leaves : (p : Placed) → (puts_or_finishes p.intent && speaks r.event r.zone p) ≡ false → AllByRecursion LeavesIt (lines_in_zones rows t all p.event p.intent (zones_of p.intent))
    placed_leaves p h = each_zone rows t all LeavesIt (λ z. touches z p ≡ true) p.event p.intent
        (λ z touched. intent_leaves p.event p.intent z (λ puts e y.
        let spoken : speaks r.event r.zone p ≡ true = and_from _ _ (ap (same_event p.event) (sym e) ∙ event_itself p.event) (ap (λ (x : Place). touches x p) (sym y) ∙ touched) in
        both_ways _ h (and_from (puts_or_finishes p.intent) _ puts spoken))) (zones_of p.intent) (touched_zones rows t all p)

    left_leaves : (c : Category) → IsStrictlySortedBy by_key rows → is_left all r ≡ true → AllByRecursion LeavesIt (planned_lines c rows t all)
    left_leaves c up left = all_append LeavesIt (lines_from rows t all all) (added_lines c rows t all)
        (each_intent rows t all LeavesIt (λ p. (puts_or_finishes p.intent && speaks r.event r.zone p) ≡ false) placed_leaves all (none_of (λ (p : Placed). puts_or_finishes p.intent && speaks r.event r.zone p) all (not-true _ left)))
        (all_map LeavesIt (line_on Con t) (filter (is_continued c t all) rows)
        (all_weaker (λ s. (row_at rows s.event s.zone ≡ Some s) × (is_continued c t all s ≡ true)) (λ s. LeavesIt (line_on Con t s)) (λ s h. con_leaves_it s h.0) (filter (is_continued c t all) rows)
        (all_filter (λ s. row_at rows s.event s.zone ≡ Some s) (is_continued c t all) rows (rows_own rows t all rows up))))

  -- a row that a put puts there

  abbrev PutsIt : List Line → Type 0
  PutsIt lines = (l : Line) × Has lines l × (is_upgrade l.action ≡ false) × (is_routine l.action ≡ false) × (Q (row_after rows t l) ≡ true)

  has_zone : (e : Event) (i : Intent) (zones : List Place) (z : Place) (l : Line) → Has zones z → Has (lines_in rows t all e i z) l → Has (lines_in_zones rows t all e i zones) l
  has_zone e i [] z l h g = absurd h
  has_zone e i (y ∷ zones) z l (inl same) g = has_left (lines_in rows t all e i y) (lines_in_zones rows t all e i zones) l (let f : Has (lines_in rows t all e i y) l = rw same g in f)
  has_zone e i (y ∷ zones) z l (inr h) g = has_right (lines_in rows t all e i y) (lines_in_zones rows t all e i zones) l (has_zone e i zones z l h g)

  puts_by : (p : Placed) (e : Event) (i : Intent) (row : Row) → bad_period_of t p.place i ≡ None → p.event ≡ e → Has (rows_by_intent rows t p i) row → Q row ≡ true → PutsIt (lines_in_zones rows t all e i (zones_of i))
  puts_by p e (Put part) row period same h q =
      let m = has_map (row_after_put rows t p.event part) part.zones row h in
      let passes : Q (row_after_put rows t e part m.0) ≡ true = ap (λ (x : Event). Q (row_after_put rows t x part m.0)) (sym same) ∙ ap Q m.2 ∙ q in
      let line = line_of_put rows t e part m.0 in
      (line, has_zone e (Put part) part.zones m.0 line m.1 (inl refl), put-no_upgrade rows t e part m.0, put-no_routine rows t e part m.0, put_leaves rows t Q lives e part m.0 (not_bad (is_bad_period part t) _ period) passes)
  puts_by p e (Finish part) row period same h q = absurd h
  puts_by p e (Restate part) row period same h q = absurd h
  puts_by p e (Routine part) row period same h q = absurd h

  puts_among : (qs : List Placed) → AllByRecursion (IsFit rows t all) qs → (row : Row) → Has (rows_by_puts rows t qs) row → Q row ≡ true → PutsIt (lines_from rows t all qs)
  puts_among [] fit row h q = absurd h
  puts_among (p ∷ qs) fit row h q = ⊎_elim
      (λ (g : Has (rows_by_intent rows t p p.intent) row).
      let m = puts_by p p.event p.intent row fit.0.period refl g q in
      (m.0, has_left (lines_in_zones rows t all p.event p.intent (zones_of p.intent)) (lines_from rows t all qs) m.0 m.1, m.2, m.3, m.4))
      (λ (g : Has (rows_by_puts rows t qs) row).
      let m = puts_among qs fit.1 row g q in
      (m.0, has_right (lines_in_zones rows t all p.event p.intent (zones_of p.intent)) (lines_from rows t all qs) m.0 m.1, m.2, m.3, m.4))
      (has_split (rows_by_intent rows t p p.intent) (rows_by_puts rows t qs) row h)

  -- such a row among those that the draft leaves is among those by which UPG lines are judged
  module _ (c : Category) (up : IsStrictlySortedBy by_key rows) (fit : AllByRecursion (IsFit rows t all) all) (apart : EachPair AreApart (planned_lines c rows t all)) (sound : AllByRecursion (IsSound rows t) (planned_lines c rows t all)) where
    left_stands : (r : Row) → Has rows r → is_left all r ≡ true → Q r ≡ true → list_any Q (rows_for_higher rows t (planned_lines c rows t all)) ≡ true
    left_stands r h left q =
        let lines = planned_lines c rows t all in
        let here : row_at rows r.event r.zone ≡ Some r = all_has (λ s. row_at rows s.event s.zone ≡ Some s) rows r (rows_own rows t all rows up) h in
        stands_after rows t Q r.event r.zone lines (turned_pairs lines apart) sound (left_leaves r here q c up left) (inr (r, here, q))

    put_stands : PutsIt (lines_from rows t all all) → list_any Q (rows_for_higher rows t (planned_lines c rows t all)) ≡ true
    put_stands m =
        let lines = planned_lines c rows t all in
        let l : Line = m.0 in
        let there : Has lines l = has_left (lines_from rows t all all) (added_lines c rows t all) l m.1 in
        let leaves : AllByRecursion (Leaves rows t Q l.event l.zone) lines = all_weaker (λ x. concerns l.event l.zone x ≡ true → x ≡ l) (Leaves rows t Q l.event l.zone) (λ x one s.
        let same : x ≡ l = one s in
        (ap (λ (y : Line). is_upgrade y.action) same ∙ m.2, ap (λ (y : Line). Q (row_after rows t y)) same ∙ m.4)) lines (one_line lines l apart there) in
        stands_after rows t Q l.event l.zone lines (turned_pairs lines apart) sound leaves (inl (any_has (concerns l.event l.zone) lines l there (spoken_itself l m.3)))

    pub stands : list_any Q (rows_left rows t all) ≡ true → list_any Q (rows_for_higher rows t (planned_lines c rows t all)) ≡ true
    stands h =
        let m = has_any Q (rows_left rows t all) h in
        let row : Row = m.0 in
        ⊎_elim
        (λ (g : Has (filter (is_left all) rows) row). let k = has_filter (is_left all) rows row g in left_stands row k.0 k.1 m.2)
        (λ (g : Has (rows_by_puts rows t all) row). put_stands (puts_among all fit row g m.2))
        (has_split (filter (is_left all) rows) (rows_by_puts rows t all) row m.1)

-- the test for a higher row
abbrev overlays : ℕ → Row → Row → Bool
overlays t own r = same_zone r.zone own.zone && is_live t r && outranks r.event.hazard own.event.hazard && overlaps r.period own.period

overlays-lives : (t : ℕ) (own : Row) → IsOfLives (overlays t own)
overlays-lives t own r s zone event period going h =
    let p = and_parts (same_zone r.zone own.zone && is_live t r && outranks r.event.hazard own.event.hazard) _ h in
    let k = and_parts (same_zone r.zone own.zone && is_live t r) _ p.0 in
    let m = and_parts (same_zone r.zone own.zone) _ k.0 in
    let n = and_parts (not r.ended) _ m.1 in
    let live : is_live t s ≡ true = and_from _ _ (not_from_false _ going) (ap (λ (x : Period). ends_after x.end t) (sym period) ∙ n.1) in
    and_from _ _ (and_from _ _ (and_from _ _ (ap (λ (y : Place). same_zone y own.zone) (sym zone) ∙ m.0) live) (ap (λ (x : Event). outranks x.hazard own.event.hazard) (sym event) ∙ k.1))
    (ap (λ (x : Period). overlaps x own.period) (sym period) ∙ p.1)

upgrade_only : (x y : Bool) → is_upgrade (cond x Upg (cond y Exp Can)) ≡ true → x ≡ true
upgrade_only true y h = refl
upgrade_only false true h = cc
upgrade_only false false h = cc

module _ (rows : List Row) (t : ℕ) (all : List Placed) (c : Category) (up : IsStrictlySortedBy by_key rows) (fit : AllByRecursion (IsFit rows t all) all) (apart : EachPair AreApart (planned_lines c rows t all)) (sound : AllByRecursion (IsSound rows t) (planned_lines c rows t all)) where
  -- a UPG line has its higher row
  abbrev pub HasHigher : Line → Type 0
  HasHigher line = is_upgrade line.action ≡ true → has_higher rows t (planned_lines c rows t all) line ≡ true

  finish_higher : (e : Event) (z : Place) (o : Option Row) → row_at rows e z ≡ o → AllByRecursion HasHigher (finish_lines rows t all o)
  finish_higher e z None h = tt
  finish_higher e z (Some row) h =
      let line = line_on (finishing_action rows t all row) t row in
      let own_line : HasHigher line = λ u.
      let both = upgrade_only (ends_after row.period.end t && is_overlaid rows t all row) (is_near_end row.period.end t) u in
      let overlaid : list_any (overlays t row) (rows_left rows t all) ≡ true = (and_parts (ends_after row.period.end t) _ both).1 in
      let lies = stands rows t all (overlays t row) (overlays-lives t row) c up fit apart sound overlaid in
      let here = ap (is_overlapped (rows_for_higher rows t (planned_lines c rows t all)) t) (row_at-own rows e z row h) in
      or_right (not (may_yield row.event.hazard)) _ (here ∙ lies) in
      (own_line, tt)

  restate_higher : (o : Option Row) → AllByRecursion HasHigher (restate_lines t o)
  restate_higher None = tt
  restate_higher (Some row) = (λ u. cc, tt)

  higher_in : (e : Event) (i : Intent) (z : Place) → AllByRecursion HasHigher (lines_in rows t all e i z)
  higher_in e (Put part) z = (λ u. absurd (both_ways _ (put-no_upgrade rows t e part z) u), tt)
  higher_in e (Finish part) z = finish_higher e z (row_at rows e z) refl
  higher_in e (Restate part) z = restate_higher (row_at rows e z)
  higher_in e (Routine part) z = ((λ u. cc), tt)

  pub planned_higher : AllByRecursion HasHigher (planned_lines c rows t all)
  planned_higher = all_append HasHigher (lines_from rows t all all) (added_lines c rows t all)
      (each_intent rows t all HasHigher (λ p. Unit {0}) (λ p u. each_zone rows t all HasHigher (λ z. Unit {0}) p.event p.intent (λ z v. higher_in p.event p.intent z) (zones_of p.intent) (all_each (λ z. Unit {0}) (λ z. tt) (zones_of p.intent))) all (all_each (λ p. Unit {0}) (λ p. tt) all))
      (all_map HasHigher (line_on Con t) (filter (is_continued c t all) rows) (all_each (λ r. HasHigher (line_on Con t r)) (λ r u. cc) (filter (is_continued c t all) rows)))
