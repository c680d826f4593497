-- An index with the rows of one event put in turn.
use Rattle.std.proofs.Common.{◌≡◌, ◌∙◌, ◌==◌, ◌+◌, ℕ, suc, arith, length, true, false, List, [], ◌∷◌, ◌++◌, Option, Some, None, refl, ap, sym, subst}
use Rattle.std.specs.BTreeMap.{insert_entry}
use Rattle.std.specs.List.{AllByRecursion}
use Rattle.hazard_types.specs.Orders.{by_event}
use Rattle.hazard_types.specs.declared.hazard.Event.{Event}
use Rattle.hazard_types.specs.declared.line.Row.{Row}
use Rattle.hazard_types.proofs.OrderLaws.{by_event_total, by_event_ties}
use Rattle.std.proofs.lemmas.Bool.Decides.{nat_tests}
use Rattle.hazard_types.specs.Places.{Place}
use Rattle.hazard_types.specs.declared.codes.Action.{Action}
use Rattle.hazard_types.specs.declared.codes.Action.TheVariants.{New, Con, Exa, Ext, Exb, Upg, Can, Exp, Cor, Rou}
use Rattle.hazard_types.specs.declared.line.Line.{Line}
use Rattle.event_life.specs.declared.life.Life.{Life}
use Rattle.event_life.specs.Products.{put, has_rows}
use Rattle.event_life.specs.Table.{life_after_line, life_after_lawful_line}
use Rattle.row_index.specs.declared.numbers.Number.{Number}
use Rattle.row_index.specs.Holding.{told, AreHeld}
use Rattle.row_index.specs.Listing.{list_at}
use Rattle.row_index.specs.Indexing.{IsIndex}
use Rattle.row_index.specs.Numbers.{events_with, AreOpened}
use Rattle.row_index.specs.Reaching.{AreReached, Grows, Reaches}
use Rattle.row_index.specs.Runs.{held_put, in_zone, rows_along, same_life}
use Rattle.row_index.specs.Steps.{add_each}
use Rattle.row_index.proofs.HeldRows.{held-with, has_rows-told, told-sorted, told-with}
use Rattle.row_index.proofs.Lists.{at_same, put_twice}
use Rattle.row_index.proofs.Opened.{opened-with}
use Rattle.row_index.specs.declared.reach.Reach.{Reach}
use Rattle.row_index.proofs.Reached.{reached-at, reached-put, reaches-put}
use Rattle.row_index.proofs.SharedRows.{life_one}

-- the rows of each event are its own, and all of them are the rows with those put
abbrev pub IsPut : List Row → List (Event × List Row) → List (Event × List Row) → Type 0
IsPut rows es new = AreHeld new × (told new ≡ add_each rows (told es))

one-put : (e : Event) (row : Row) → row.event ≡ e → (es : List (Event × List Row)) → AreHeld es → IsPut (row ∷ []) es (held_put e (row ∷ []) es)
one-put e row is es held = subst (λ (d : Event). IsPut (row ∷ []) es (held_put d (row ∷ []) es)) is (held-with row es held, told-with row es held)

run-put : (e : Event) (row : Row) (rows : List Row) → row.event ≡ e → AllByRecursion (λ (r : Row). r.event ≡ e) rows → (es : List (Event × List Row)) → AreHeld es → IsPut (row ∷ rows) es (held_put e (row ∷ rows) es)
run-put e row [] is all es held = one-put e row is es held
run-put e row (next ∷ rows) is all es held =
    let known = list_at by_event es e in
    let es' = held_put e (row ∷ []) es in
    let one = one-put e row is es held in
    let more = run-put e next rows all.0 all.1 es' one.0 in
    let known_is : list_at by_event es' e ≡ put row known = at_same by_event by_event_total by_event_ties e es (put row known) in
    let told_is : add_each (next ∷ rows) (told es') ≡ add_each (row ∷ next ∷ rows) (told es) = ap (add_each (next ∷ rows)) one.1 in
    let twice : held_put e (next ∷ rows) es' ≡ held_put e (row ∷ next ∷ rows) es =
    ap (λ (part : List Row). insert_entry by_event es' e (add_each (next ∷ rows) part)) known_is ∙ put_twice by_event by_event_total by_event_ties e es (put row known) (add_each (next ∷ rows) (put row known)) in
    (subst (λ (new : List (Event × List Row)). AreHeld new) twice more.0, ap told (sym twice) ∙ more.1 ∙ told_is)

-- rows that are there, put
rows-put : (e : Event) (rows : List Row) → (length rows == 0) ≡ false → AllByRecursion (λ (r : Row). r.event ≡ e) rows → (es new : List (Event × List Row)) (events new_events : List (Number × List Event)) (reach new_reach : List Reach)
    → new ≡ held_put e rows es → new_events ≡ events_with (has_rows (list_at by_event es e) e) e events → AreReached new_reach (add_each rows (list_at by_event es e)) → Grows reach new_reach → IsIndex es events reach → IsIndex new new_events new_reach × (told new ≡ add_each rows (told es))
rows-put e [] some all es new events new_events reach new_reach new_is events_are reached grows index = cc
rows-put e (row ∷ rows) some all es new events new_events reach new_reach new_is events_are reached grows index =
    let known = has_rows (list_at by_event es e) e in
    let put = subst (λ (x : List (Event × List Row)). IsPut (row ∷ rows) es x) (sym new_is) (run-put e row rows all.0 all.1 es index.held) in
    let opened = opened-with known e row rows (told es) events (told-sorted es) all.0 all.1 (has_rows-told es e index.held) index.opened in (
      record {
        held = put.0;
        opened = subst (λ (all : List Row). AreOpened new_events all) (sym put.1)
            (subst (λ (x : List (Number × List Event)). AreOpened x (add_each (row ∷ rows) (told es))) (sym events_are) opened);
        reached = subst (λ (x : List (Event × List Row)). Reaches new_reach x) (sym new_is)
            (reaches-put e (add_each (row ∷ rows) (list_at by_event es e)) es reach new_reach grows reached index.reached);
      },
      put.1,
    )

-- rows one after another
pub put_both : (rows more known : List Row) → add_each (rows ++ more) known ≡ add_each more (add_each rows known)
put_both [] more known = refl
put_both (r ∷ rows) more known = put_both rows more (put r known)

-- the rows of a run

pub along_own : (e : Event) (l : Life) (zones : List Place) → AllByRecursion (λ (r : Row). r.event ≡ e) (rows_along e l zones)
along_own e l [] = tt
along_own e l (z ∷ zones) = (refl, along_own e l zones)

pub along_some : (e : Event) (l : Life) (zones : List Place) → (length zones == 0) ≡ false → (length (rows_along e l zones) == 0) ≡ false
along_some e l [] h = cc
along_some e l (z ∷ zones) h = none (length (rows_along e l zones))
  where
    none : (n : ℕ) → (suc n == 0) ≡ false
    none n = grind (arith, nat_tests)

-- the rows of a run that are put, where it has a zone
pub rows-made : (e : Event) (l : Life) (zones : List Place) → (length zones == 0) ≡ false → (es new : List (Event × List Row)) (events new_events : List (Number × List Event)) (reach new_reach : List Reach)
    → new ≡ held_put e (rows_along e l zones) es → new_events ≡ events_with (has_rows (list_at by_event es e) e) e events → AreReached new_reach (rows_along e l zones) → Grows reach new_reach → IsIndex es events reach
    → IsIndex new new_events new_reach × (told new ≡ add_each (rows_along e l zones) (told es))
rows-made e l zones some es new events new_events reach new_reach new_is events_are own grows index =
    rows-put e (rows_along e l zones) (along_some e l zones some) (along_own e l zones) es new events new_events reach new_reach new_is events_are
    (reached-put reach new_reach (rows_along e l zones) (list_at by_event es e) grows own (reached-at e es reach index.reached)) grows index

-- a line that differs from another in its zone alone leaves the same life of the same

left_alike : (a : Action) (life : Life) (l : Line) (z : Place) (t : ℕ) → life_after_line a life l t ≡ life_after_line a life (in_zone l z) t
left_alike New life l z t = refl
left_alike Con life l z t = refl
left_alike Exa life l z t = refl
left_alike Ext life l z t = refl
left_alike Exb life l z t = refl
left_alike Upg life l z t = refl
left_alike Can life l z t = refl
left_alike Exp life l z t = refl
left_alike Cor life l z t = refl
left_alike Rou life l z t = refl

pub after_alike : (o : Option Life) (l : Line) (z : Place) (t : ℕ) → life_after_lawful_line o l t ≡ life_after_lawful_line o (in_zone l z) t
unfolding life_after_lawful_line
after_alike None l z t = refl
after_alike (Some life) l z t = left_alike l.action life l z t

pub lives_one : (a b : Option Life) → same_life a b ≡ true → a ≡ b
lives_one None None h = refl
lives_one (Some x) (Some y) h = ap (λ (l : Life). Some l) (life_one x y h)
lives_one (Some x) None h = cc
lives_one None (Some y) h = cc
