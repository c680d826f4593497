-- The rows that lines leave in several zones, zone by zone and line by line.
use Rattle.std.proofs.Common.{◌≡◌, ◌∙◌, ℕ, List, [], ◌∷◌, Bool, true, false, cond, map, Option, Some, refl, ap, sym, subst}
use Rattle.std.specs.Prelude.{flat_map}
use Rattle.std.specs.List.{AllByRecursion}
use Rattle.std.specs.List.Sorted.{IsStrictlySortedBy}
use Rattle.std.proofs.lemmas.Bool.{false_from_ne_true, both_ways}
use Rattle.hazard_types.specs.Places.{Place}
use Rattle.hazard_types.specs.Same.{same_event}
use Rattle.hazard_types.specs.declared.hazard.Event.{Event}
use Rattle.hazard_types.specs.declared.line.Line.{Line}
use Rattle.hazard_types.specs.declared.line.Row.{Row}
use Rattle.hazard_types.proofs.Equality.{event_itself}
use Rattle.event_life.specs.declared.life.Life.{Life}
use Rattle.event_life.specs.Products.{by_key, put, row_at, row_after, row_of, lawful_of, put_all}
use Rattle.event_life.specs.Table.{life_after_lawful_line}
use Rattle.event_life.proofs.AppendLemmas.{lawful_of-append, put_all-append}
use Rattle.event_life.proofs.FreeOrder.{told_by_keys}
use Rattle.event_life.proofs.Puts.{at_key, at_key-parts, row_at-put, put-sorted}
use Rattle.row_index.specs.LineRows.{rows_of_line, rows_of_run, rows_of_runs}
use Rattle.row_index.specs.Runs.{in_zone, rows_along}
use Rattle.row_index.specs.Sharing.{row_with}
use Rattle.row_index.specs.Steps.{add_each}
use Rattle.row_index.specs.Verdicts.{leaves_row, left_by, expand, expand_at, expand_run, AreApart, AreFound, HaveOwnEvents, IsFound, IsFoundAt}
use Rattle.row_index.specs.declared.verdicts.Run.{Run}
use Rattle.row_index.specs.declared.verdicts.Verdict.{Verdict}
use Rattle.row_index.proofs.Runs.{after_alike, along_own, put_both}

-- rows of two events are put in either order

in_turn : (b c : Bool) (x y o : Option Row) → (b ≡ true → c ≡ false) → cond b x (cond c y o) ≡ cond c y (cond b x o)
in_turn true true x y o apart = let e = apart refl in cc
in_turn true false x y o apart = refl
in_turn false c x y o apart = refl

one_key : (a b : Row) → same_event a.event b.event ≡ false → (e : Event) (z : Place) → at_key e z a ≡ true → at_key e z b ≡ false
one_key a b apart e z h = false_from_ne_true _ (λ g.
    let own = at_key-parts e z a h in
    let other = at_key-parts e z b g in
    both_ways (same_event a.event b.event) apart (subst (λ (d : Event). same_event a.event d ≡ true) (own.0 ∙ sym other.0) (event_itself a.event)))

put_turned : (a b : Row) (rows : List Row) → IsStrictlySortedBy by_key rows → same_event a.event b.event ≡ false → put a (put b rows) ≡ put b (put a rows)
put_turned a b rows up apart =
    told_by_keys (put a (put b rows)) (put b (put a rows)) (put-sorted a (put b rows) (put-sorted b rows up)) (put-sorted b (put a rows) (put-sorted a rows up)) (λ e z.
    row_at-put a (put b rows) e z
    ∙ ap (λ (o : Option Row). cond (at_key e z a) (Some a) o) (row_at-put b rows e z)
    ∙ in_turn (at_key e z a) (at_key e z b) (Some a) (Some b) (row_at rows e z) (one_key a b apart e z)
    ∙ ap (λ (o : Option Row). cond (at_key e z b) (Some b) o) (sym (row_at-put a rows e z))
    ∙ sym (row_at-put b (put a rows) e z))

each-sorted : (rows after : List Row) → IsStrictlySortedBy by_key after → IsStrictlySortedBy by_key (add_each rows after)
each-sorted [] after up = up
each-sorted (r ∷ rows) after up = each-sorted rows (put r after) (put-sorted r after up)

-- the rows are of another event than this
abbrev AreElse : Event → List Row → Type 0
AreElse e rows = AllByRecursion (λ (r : Row). same_event e r.event ≡ false) rows

-- the rows are of this event
abbrev AreOfOne : Event → List Row → Type 0
AreOfOne e rows = AllByRecursion (λ (r : Row). r.event ≡ e) rows

one_turned : (a : Row) (rows after : List Row) → IsStrictlySortedBy by_key after → AreElse a.event rows → put a (add_each rows after) ≡ add_each rows (put a after)
one_turned a [] after up apart = refl
one_turned a (b ∷ rows) after up apart = one_turned a rows (put b after) (put-sorted b after up) apart.1 ∙ ap (add_each rows) (put_turned a b after up apart.0)

each_turned : (e : Event) (own rows after : List Row) → IsStrictlySortedBy by_key after → AreOfOne e own → AreElse e rows → add_each own (add_each rows after) ≡ add_each rows (add_each own after)
each_turned e [] rows after up of_one apart = refl
each_turned e (a ∷ own) rows after up of_one apart =
    let apart_too : AreElse a.event rows = subst (λ (d : Event). AreElse d rows) (sym of_one.0) apart in
    ap (add_each own) (one_turned a rows after up apart_too) ∙ each_turned e own rows (put a after) (put-sorted a after up) of_one.1 apart

-- the rows that lawful lines leave in a zone
abbrev rows_in : ℕ → List Verdict → Place → List Row
rows_in t [] z = []
rows_in t (v ∷ verdicts) z = cond (leaves_row v) (row_with v.line.event z (left_by t v) ∷ rows_in t verdicts z) (rows_in t verdicts z)

-- they are what the lines leave that found these lives
row_left : (rows : List Row) (t : ℕ) (z : Place) (v : Verdict) → IsFoundAt rows z v → row_after rows t (in_zone v.line z) ≡ row_with v.line.event z (left_by t v)
row_left rows t z v found =
    ap (λ (o : Option Life). row_of (in_zone v.line z) (life_after_lawful_line o (in_zone v.line z) t)) found
    ∙ ap (λ (l : Life). row_with v.line.event z l) (sym (after_alike v.found v.line z t))

zone_left : (rows : List Row) (t : ℕ) (z : Place) (verdicts : List Verdict) (after : List Row) → AllByRecursion (IsFoundAt rows z) verdicts → put_all rows t (lawful_of (expand_at verdicts z)) after ≡ add_each (rows_in t verdicts z) after
zone_left rows t z [] after found = refl
zone_left rows t z (v ∷ verdicts) after found = by_lawful (λ (known : List Row). zone_left rows t z verdicts known found.1) (leaves_row v)
  where
    by_lawful : ((known : List Row) → put_all rows t (lawful_of (expand_at verdicts z)) known ≡ add_each (rows_in t verdicts z) known)
        → (b : Bool) → put_all rows t (cond b (in_zone v.line z ∷ lawful_of (expand_at verdicts z)) (lawful_of (expand_at verdicts z))) after ≡ add_each (cond b (row_with v.line.event z (left_by t v) ∷ rows_in t verdicts z) (rows_in t verdicts z)) after
    by_lawful rest true =
        rest (put (row_after rows t (in_zone v.line z)) after)
        ∙ ap (λ (r : Row). add_each (rows_in t verdicts z) (put r after)) (row_left rows t z v found.0)
    by_lawful rest false = rest after

-- zone by zone
zones_left : (rows : List Row) (t : ℕ) (verdicts : List Verdict) (zones : List Place) (after : List Row) → AllByRecursion (λ (z : Place). AllByRecursion (IsFoundAt rows z) verdicts) zones
    → put_all rows t (lawful_of (flat_map (expand_at verdicts) zones)) after ≡ add_each (flat_map (rows_in t verdicts) zones) after
zones_left rows t verdicts [] after found = refl
zones_left rows t verdicts (z ∷ zones) after found =
    ap (λ (lines : List Line). put_all rows t lines after) (lawful_of-append (expand_at verdicts z) (flat_map (expand_at verdicts) zones))
    ∙ put_all-append rows t (lawful_of (expand_at verdicts z)) (lawful_of (flat_map (expand_at verdicts) zones)) after
    ∙ ap (put_all rows t (lawful_of (flat_map (expand_at verdicts) zones))) (zone_left rows t z verdicts after found.0)
    ∙ zones_left rows t verdicts zones (add_each (rows_in t verdicts z) after) found.1
    ∙ sym (put_both (rows_in t verdicts z) (flat_map (rows_in t verdicts) zones) after)

-- the lines are of other events than this
abbrev AreOthers : Event → List Verdict → Type 0
AreOthers e verdicts = AllByRecursion (λ (m : Line). same_event e m.event ≡ false) (map (λ (v : Verdict). v.line) verdicts)

else_in : (t : ℕ) (e : Event) (verdicts : List Verdict) (z : Place) → AreOthers e verdicts → AreElse e (rows_in t verdicts z)
else_in t e [] z apart = tt
else_in t e (v ∷ verdicts) z apart = by_lawful (leaves_row v) (else_in t e verdicts z apart.1)
  where
    by_lawful : (b : Bool) → AreElse e (rows_in t verdicts z) → AreElse e (cond b (row_with v.line.event z (left_by t v) ∷ rows_in t verdicts z) (rows_in t verdicts z))
    by_lawful true rest = (apart.0, rest)
    by_lawful false rest = rest

-- the rows of a line that the others leave in each zone come before them all or behind
module _ (t : ℕ) (v : Verdict) (verdicts : List Verdict) (apart : AreOthers v.line.event verdicts) where
  along_first : (zones : List Place) (after : List Row) → IsStrictlySortedBy by_key after
      → add_each (flat_map (λ (z : Place). row_with v.line.event z (left_by t v) ∷ rows_in t verdicts z) zones) after ≡ add_each (flat_map (rows_in t verdicts) zones) (add_each (rows_along v.line.event (left_by t v) zones) after)
  along_first [] after up = refl
  along_first (z ∷ zones) after up =
      let row = row_with v.line.event z (left_by t v) in
      let first = put row after in
      let own = rows_along v.line.event (left_by t v) zones in
      let others = rows_in t verdicts z in
      put_both (row ∷ others) (flat_map (λ (z : Place). row_with v.line.event z (left_by t v) ∷ rows_in t verdicts z) zones) after
      ∙ along_first zones (add_each others first) (each-sorted others first (put-sorted row after up))
      ∙ ap (add_each (flat_map (rows_in t verdicts) zones)) (each_turned v.line.event own others first (put-sorted row after up) (along_own v.line.event (left_by t v) zones) (else_in t v.line.event verdicts z apart))
      ∙ sym (put_both others (flat_map (rows_in t verdicts) zones) (add_each own first))

  line_first : (zones : List Place) (after : List Row) → IsStrictlySortedBy by_key after
      → add_each (flat_map (rows_in t (v ∷ verdicts)) zones) after ≡ add_each (flat_map (rows_in t verdicts) zones) (add_each (rows_of_line t zones v) after)
  line_first zones after up = by_lawful (leaves_row v)
    where
      by_lawful : (b : Bool) → add_each (flat_map (λ (z : Place). cond b (row_with v.line.event z (left_by t v) ∷ rows_in t verdicts z) (rows_in t verdicts z)) zones) after
          ≡ add_each (flat_map (rows_in t verdicts) zones) (add_each (cond b (rows_along v.line.event (left_by t v) zones) []) after)
      by_lawful true = along_first zones after up
      by_lawful false = refl

nothing_in : (t : ℕ) (zones : List Place) (after : List Row) → add_each (flat_map (rows_in t []) zones) after ≡ after
nothing_in t [] after = refl
nothing_in t (z ∷ zones) after = nothing_in t zones after

-- zone by zone, or line by line
lines_turned : (t : ℕ) (zones : List Place) (verdicts : List Verdict) (after : List Row) → IsStrictlySortedBy by_key after → HaveOwnEvents (map (λ (v : Verdict). v.line) verdicts)
    → add_each (flat_map (rows_in t verdicts) zones) after ≡ add_each (flat_map (rows_of_line t zones) verdicts) after
lines_turned t zones [] after up own = nothing_in t zones after
lines_turned t zones (v ∷ verdicts) after up own =
    let first = rows_of_line t zones v in
    line_first t v verdicts own.0 zones after up
    ∙ lines_turned t zones verdicts (add_each first after) (each-sorted first after up) own.1
    ∙ sym (put_both first (flat_map (rows_of_line t zones) verdicts) after)

run_left : (rows : List Row) (t : ℕ) (r : Run) (after : List Row) → IsStrictlySortedBy by_key after → IsFound rows r → HaveOwnEvents (map (λ (v : Verdict). v.line) r.verdicts)
    → put_all rows t (lawful_of (expand_run r)) after ≡ add_each (rows_of_run t r) after
run_left rows t r after up found own = zones_left rows t r.verdicts r.zones after found ∙ lines_turned t r.zones r.verdicts after up own

-- the rows of runs
pub runs_left : (rows : List Row) (t : ℕ) (runs : List Run) (after : List Row) → IsStrictlySortedBy by_key after → AreFound rows runs → AreApart runs → add_each (rows_of_runs t runs) after ≡ put_all rows t (lawful_of (expand runs)) after
runs_left rows t [] after up found apart = refl
runs_left rows t (r ∷ runs) after up found apart =
    put_both (rows_of_run t r) (rows_of_runs t runs) after
    ∙ runs_left rows t runs (add_each (rows_of_run t r) after) (each-sorted (rows_of_run t r) after up) found.1 apart.1
    ∙ ap (put_all rows t (lawful_of (expand runs))) (sym (run_left rows t r after up found.0 apart.0))
    ∙ sym (put_all-append rows t (lawful_of (expand_run r)) (lawful_of (expand runs)) after)
    ∙ ap (λ (lines : List Line). put_all rows t lines after) (sym (lawful_of-append (expand_run r) (expand runs)))
