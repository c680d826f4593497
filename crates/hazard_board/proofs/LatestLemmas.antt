-- The greatest ends of events after lines, and how many events come to stand by them.
use Rattle.std.proofs.Common.{◌≡◌, ◌∙◌, ◌||◌, ◌&&◌, not, ℕ, ◌≤◌, List, [], ◌∷◌, ◌++◌, Bool, true, false, Option, Some, None, Result, Ok, Err, Ordering, Less, Equal, Greater, is_none, refl, sym, ap, cond, fold, option_map, if◌then◌else◌, nat_le, arith}
use Rattle.std.specs.List.{AllByRecursion}
use Rattle.std.proofs.lemmas.Bool.{and_parts, not-true}
use Rattle.std.proofs.lemmas.List.Sums.{sum_by-cons}
use Rattle.event_life.proofs.LivesLemmas.{find-passes}
use Rattle.hazard_types.specs.Places.{Place}
use Rattle.hazard_types.specs.Same.{same_event, same_zone}
use Rattle.hazard_types.specs.declared.codes.Action.{Action}
use Rattle.hazard_types.specs.declared.codes.Action.TheVariants.{New, Exa, Exb, Con, Cor, Ext, Can, Exp, Upg, Rou}
use Rattle.hazard_types.specs.declared.hazard.Event.{Event}
use Rattle.hazard_types.specs.declared.line.Line.{Line}
use Rattle.hazard_types.specs.declared.line.Row.{Row}
use Rattle.hazard_types.specs.declared.period.End.{End}
use Rattle.event_life.specs.declared.life.Around.{Around}
use Rattle.event_life.specs.declared.life.Breach.{Breach}
use Rattle.event_life.specs.declared.life.Life.{Life}
use Rattle.event_life.specs.Lives.{opens}
use Rattle.event_life.specs.Products.{by_key, placed, put, row_at, life_at, life_of, row_of, is_routine, around_of, breach_in}
use Rattle.event_life.specs.Reordered.{are_lawful}
use Rattle.event_life.specs.declared.life.Breach.TheVariants.{ZeroBegin, BegunMoved, NoLength, PeriodMoved, PeriodSame, NotLive, TooEarly, TooLate, NoHigher}
use Rattle.event_life.specs.Periods.{ends_after, same_end}
use Rattle.event_life.specs.Table.{first_of, on_life, on_continuing, on_ending, continued_period, keeps_period, prints_begun, prints_to_come, prints_begin_as_due, moves_begin, cancels_late, expires_early, expires_late, breach_of_line, step}
use Rattle.event_life.proofs.Keys.{key_exact}
use Rattle.event_life.proofs.Puts.{at_key}
use Rattle.hazard_board.specs.Board.{openings}
use Rattle.hazard_board.specs.Standing.{later_than, stands_for, latest_end, end_in, touched, newly}
use Rattle.hazard_board.specs.Taken.{wanted, row_if, row_left, add_row_if_some, taken_in_turn}
use Rattle.hazard_board.specs.declared.standing.Standing.{Standing}
use Rattle.hazard_board.proofs.Alone.{none_first, meets_life}
use Rattle.hazard_board.proofs.Among.{of_all, found_among}
use Rattle.hazard_board.proofs.Turns.{lawful_parts, have_none}

abbrev longer : Event → Option End → Row → Option End
longer e best r = if stands_for e r then Some (later_than best r.period.end) else best

-- a row of another event changes nothing

skipped : (e : Event) (best : Option End) (r : Row) → same_event r.event e ≡ false → longer e best r ≡ best
skipped e best r other = rw other refl

put_step : (o : Ordering) (e : Event) (row r : Row) (rows : List Row) (best : Option End) → by_key row r ≡ o → same_event row.event e ≡ false →
    (fold (longer e) (longer e best r) (put row rows) ≡ fold (longer e) (longer e best r) rows) →
    fold (longer e) best (placed o row r rows (put row rows)) ≡ fold (longer e) best (r ∷ rows)
put_step Less e row r rows best h other more = ap (λ (b : Option End). fold (longer e) (longer e b r) rows) (skipped e best row other)
put_step Equal e row r rows best h other more =
    let tied : same_event r.event e ≡ false = ap (λ (d : Event). same_event d e) (sym (key_exact row r h).1) ∙ other in
    ap (λ (b : Option End). fold (longer e) b rows) (skipped e best row other ∙ sym (skipped e best r tied))
put_step Greater e row r rows best h other more = more

latest_put : (e : Event) (row : Row) (rows : List Row) (best : Option End) → same_event row.event e ≡ false → fold (longer e) best (put row rows) ≡ fold (longer e) best rows
latest_put e row [] best other = skipped e best row other
latest_put e row (r ∷ rows) best other = put_step (by_key row r) e row r rows best refl other (latest_put e row rows (longer e best r) other)

either_false : (a b : Bool) → (a || b) ≡ false → (a ≡ false) × (b ≡ false)
either_false true b h = cc
either_false false b h = (refl, h)

taken_step : (r : Result Life Breach) (t : ℕ) (e : Event) (rows : List Row) (line : Line) → same_event line.event e ≡ false → latest_end (add_row_if_some (row_if line r) rows) e ≡ latest_end rows e
taken_step (Ok life) t e rows line other = latest_put e (row_of line life) rows None other
taken_step (Err breach) t e rows line other = refl

one_taken : (routine same : Bool) (t : ℕ) (e : Event) (rows : List Row) (line : Line) → is_routine line.action ≡ routine → same_event line.event e ≡ same → (not routine && same) ≡ false → latest_end (add_row_if_some (row_left rows t line) rows) e ≡ latest_end rows e
one_taken true same t e rows line own is other = rw own refl
one_taken false true t e rows line own is other = cc
one_taken false false t e rows line own is other = rw own (taken_step (step (life_at rows line) line t (wanted line.action)) t e rows line is)

-- events that no line touches have the end of before
pub latest_untouched : (t : ℕ) (e : Event) (rows : List Row) (lines : List Line) → touched lines e ≡ false → latest_end (taken_in_turn t rows lines) e ≡ latest_end rows e
latest_untouched t e rows [] h = refl
latest_untouched t e rows (line ∷ lines) h =
    let p = either_false (not (is_routine line.action) && same_event line.event e) (touched lines e) h in
    latest_untouched t e (add_row_if_some (row_left rows t line) rows) lines p.1
    ∙ one_taken (is_routine line.action) (same_event line.event e) t e rows line refl refl p.0

-- lawful lines of events that are not standing open them

none_so_far : (e : Event) (rows : List Row) (best : Option End) → fold (longer e) best rows ≡ None → (best ≡ None) × AllByRecursion (λ r. stands_for e r ≡ false) rows
none_so_far e [] best h = (h, tt)
none_so_far e (r ∷ rows) best h =
    let rest = none_so_far e rows (longer e best r) h in
    let own : (b : Bool) → stands_for e r ≡ b → (best ≡ None) × (stands_for e r ≡ false) =
    λ b. elim b as (λ b. stands_for e r ≡ b → (best ≡ None) × (stands_for e r ≡ false)) [
      | true ↦ λ is. let some : ◌≡◌ {A = Option End} (Some (later_than best r.period.end)) None = rw is at rest.0 in cc
      | false ↦ λ is. (rw is at rest.0, is)
    ] in
    let here = own (stands_for e r) refl in
    (here.0, (here.1, rest.1))

abbrev HasGone : Option Row → Type 0
HasGone None = Unit {0}
HasGone (Some r) = r.ended ≡ true

gone : (same ended : Bool) → same ≡ true → (same && not ended) ≡ false → ended ≡ true
gone true true h g = refl
gone true false h g = cc
gone false ended h g = cc

has_gone : (e : Event) (z : Place) (rows : List Row) (o : Option Row) → latest_end rows e ≡ None → row_at rows e z ≡ o → HasGone o
has_gone e z rows None none found = tt
has_gone e z rows (Some r) none found =
    let all = (none_so_far e rows None none).1 in
    let stands = of_all (λ r. stands_for e r ≡ false) rows r all (found_among (at_key e z) rows r found) in
    let same : same_event r.event e ≡ true = (and_parts (same_event r.event e) (same_zone r.zone z) (find-passes (at_key e z) rows r found)).0 in
    gone (same_event r.event e) r.ended same stands

first_false : (e a : Bool) (x : Breach) (more : List (Bool × Breach)) → first_of ((e || a, x) ∷ more) ≡ None → e ≡ false
first_false true a x more h = cc
first_false false a x more h = refl

continuing_live : (life : Life) (line : Line) (t : ℕ) (last : Bool × Breach) → first_of (on_continuing life line t last) ≡ None → life.ended ≡ false
continuing_live life line t last h = first_false life.ended (not (ends_after life.period.end t)) NotLive
    ((prints_begun line.begin t, ZeroBegin) ∷ (prints_to_come line.begin t && nat_le life.period.begin t, BegunMoved)
    ∷ (not (ends_after line.end (continued_period life line t).begin && ends_after line.end t), NoLength) ∷ last ∷ []) h

ending_live : (life : Life) (line : Line) (t : ℕ) (more : List (Bool × Breach)) → first_of (on_ending life line t more) ≡ None → life.ended ≡ false
ending_live life line t more h = (none_first life.ended NotLive
    ((not (prints_begin_as_due line.begin life.period.begin t), ZeroBegin) ∷ (moves_begin line.begin life.period.begin || not (same_end line.end life.period.end), PeriodMoved) ∷ more) h).0

-- no line but an opening is lawful on an ended life
goes_on_live : (a : Action) (life : Life) (line : Line) (t : ℕ) (around : Around) → is_routine a ≡ false → opens a ≡ false → first_of (on_life a life line t around) ≡ None → life.ended ≡ false
goes_on_live New life line t around own never h = cc
goes_on_live Exa life line t around own never h = cc
goes_on_live Exb life line t around own never h = cc
goes_on_live Con life line t around own never h = continuing_live life line t (not (keeps_period life line t), PeriodMoved) h
goes_on_live Cor life line t around own never h = continuing_live life line t (not (keeps_period life line t), PeriodMoved) h
goes_on_live Ext life line t around own never h = continuing_live life line t (keeps_period life line t, PeriodSame) h
goes_on_live Can life line t around own never h = ending_live life line t ((cancels_late life.period.end t, TooLate) ∷ []) h
goes_on_live Exp life line t around own never h = ending_live life line t ((expires_early life.period.end t, TooEarly) ∷ (expires_late life.period.end t, TooLate) ∷ []) h
goes_on_live Upg life line t around own never h = ending_live life line t ((not (ends_after life.period.end t), TooLate) ∷ (not around.higher, NoHigher) ∷ []) h
goes_on_live Rou life line t around own never h = cc

opens_gone : (o : Option Row) (line : Line) (t : ℕ) (around : Around) → is_routine line.action ≡ false → breach_of_line (option_map life_of o) line t around ≡ None → HasGone o → opens line.action ≡ false → ⊥
unfolding breach_of_line
opens_gone None line t around own h ended never = meets_life None line t around own never h refl
opens_gone (Some r) line t around own h ended never =
    let still = goes_on_live line.action (life_of r) line t around own never h in
    let no_way : true ≡ false = sym ended ∙ still in cc

opens_true : (b : Bool) → (b ≡ false → ⊥) → b ≡ true
opens_true true h = refl
opens_true false h = absurd (h refl)

counts : (a b : Bool) → (a ≡ true → b ≡ true) → ◌≤◌ (cond {A = ℕ} a 1 0) (cond {A = ℕ} b 1 0)
counts true true h = omega arith
counts true false h = let no_way = h refl in cc
counts false true h = omega arith
counts false false h = omega arith

module _ (rows : List Row) (t : ℕ) (all : List Line) (standing : List Standing) (same : (e : Event) → end_in standing e ≡ latest_end rows e) where
  comes : Line → Bool
  comes line = not (is_routine line.action) && is_none (end_in standing line.event)

  none_of : (o : Option End) → is_none o ≡ true → o ≡ None
  none_of None h = refl
  none_of (Some x) h = cc

  comes_by_opening : (earlier : List Line) (line : Line) → is_none (breach_in rows t all earlier line) ≡ true → comes line ≡ true → opens line.action ≡ true
  unfolding comes
  comes_by_opening earlier line lawful h =
      let p = and_parts (not (is_routine line.action)) _ h in
      let own = not-true (is_routine line.action) p.0 in
      let q = lawful_parts rows t all earlier line own lawful in
      let none : latest_end rows line.event ≡ None = sym (same line.event) ∙ none_of (end_in standing line.event) p.1 in
      opens_true (opens line.action) (opens_gone (row_at rows line.event line.zone) line t (around_of rows t all line) own q.1 (has_gone line.event line.zone rows (row_at rows line.event line.zone) none refl))

  newly_open : (earlier lines : List Line) → have_none rows t all earlier lines ≡ true → newly standing lines ≤ openings lines
  unfolding comes
  newly_open earlier [] h = omega arith
  newly_open earlier (line ∷ lines) h =
      let p = and_parts (is_none (breach_in rows t all earlier line)) _ h in
      let rest = newly_open (earlier ++ line ∷ []) lines p.1 in
      let one = counts (comes line) (opens line.action) (comes_by_opening earlier line p.0) in
      let front = sum_by-cons (λ (l : Line). cond {A = ℕ} (comes l) 1 0) line lines in
      let back = sum_by-cons (λ (l : Line). cond {A = ℕ} (opens l.action) 1 0) line lines in
      omega (arith, rest, one, front, back)

pub few_come : (rows : List Row) (t : ℕ) (lines : List Line) (standing : List Standing) → ((e : Event) → end_in standing e ≡ latest_end rows e) → are_lawful rows t lines ≡ true → newly standing lines ≤ openings lines
few_come rows t lines standing same lawful = newly_open rows t lines standing same [] lines lawful

either_end : (b : Bool) {x z : Option End} → (b ≡ false → z ≡ x) → cond b x z ≡ x
either_end true same = refl
either_end false same = same refl

-- what a list has for an event, once the ends of the events of the lines are set
pub kept_or_set : (t : ℕ) (e : Event) (rows : List Row) (lines : List Line) (after : List Row) (standing : List Standing) → after ≡ taken_in_turn t rows lines → end_in standing e ≡ latest_end rows e →
    cond (touched lines e) (latest_end after e) (end_in standing e) ≡ latest_end after e
kept_or_set t e rows lines after standing turns same = either_end (touched lines e) (λ h. same ∙ sym (latest_untouched t e rows lines h) ∙ ap (λ (some : List Row). latest_end some e) (sym turns))
