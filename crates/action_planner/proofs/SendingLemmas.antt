-- The rows that a draft leaves, found by their zones.
use Rattle.std.proofs.Common.{◌≡◌, ◌∙◌, ◌&&◌, ◌||◌, ℕ, Bool, true, false, List, [], ◌∷◌, ◌++◌, filter, refl, sym, ap, if◌then◌else◌}
use Rattle.std.specs.List.{list_any}
use Rattle.std.proofs.lemmas.List.Folds.{list_any-append}
use Rattle.hazard_types.specs.Same.{same_zone}
use Rattle.hazard_types.specs.declared.line.Row.{Row}
use Rattle.event_life.specs.Higher.{outranks}
use Rattle.event_life.specs.Periods.{is_live, overlaps}
use Rattle.hazard_board.specs.Board.{slice_of}
use Rattle.action_planner.specs.Placed.{Placed}
use Rattle.action_planner.specs.Lines.{is_left, rows_by_intent, rows_by_puts, overlays, is_overlaid}
use Rattle.action_planner.specs.Sending.{Zones, rows_in, add_row, add_rows, add_by_puts}
use Rattle.hazard_board.proofs.ByZoneLemmas.{items_added}

added_in_turn : (zones : Zones) (xs ys : List Row) → add_rows (add_rows zones xs) ys ≡ add_rows zones (xs ++ ys)
added_in_turn zones [] ys = refl
added_in_turn zones (x ∷ xs) ys = added_in_turn (add_row zones x) xs ys

put_in_turn : (zones : Zones) (rows : List Row) (t : ℕ) (ps : List Placed) → add_by_puts zones rows t ps ≡ add_rows zones (rows_by_puts rows t ps)
put_in_turn zones rows t [] = refl
put_in_turn zones rows t (p ∷ ps) =
    put_in_turn (add_rows zones (rows_by_intent rows t p p.intent)) rows t ps
    ∙ added_in_turn zones (rows_by_intent rows t p p.intent) (rows_by_puts rows t ps)

pub all_put : (rows : List Row) (t : ℕ) (ps : List Placed) → add_by_puts [] rows t ps ≡ add_rows [] (rows_by_puts rows t ps)
all_put rows t ps = put_in_turn [] rows t ps

-- what is asked of the rows of a zone, and of live rows

any_kept : {X : Type 0} (kept : Bool) (q : X → Bool) (x : X) (xs : List X) → list_any q (if kept then x ∷ xs else xs) ≡ (kept && q x || list_any q xs)
any_kept true q x xs = refl
any_kept false q x xs = refl

any_of_filter : {X : Type 0} (p q : X → Bool) (xs : List X) → list_any q (filter p xs) ≡ list_any (λ (x : X). p x && q x) xs
any_of_filter p q [] = refl
any_of_filter p q (x ∷ xs) = any_kept (p x) q x (filter p xs) ∙ ap (λ (b : Bool). p x && q x || b) (any_of_filter p q xs)

any_same : {X : Type 0} (p q : X → Bool) → ((x : X) → p x ≡ q x) → (xs : List X) → list_any p xs ≡ list_any q xs
any_same p q same [] = refl
any_same p q same (x ∷ xs) = ap (λ (b : Bool). b || list_any p xs) (same x) ∙ ap (λ (b : Bool). q x || b) (any_same p q same xs)

asked_twice : (here live rank over : Bool) → (here && (((here && live) && rank) && over)) ≡ (((here && live) && rank) && over)
asked_twice true live rank over = refl
asked_twice false live rank over = refl

in_its_zone : (t : ℕ) (row : Row) (rows : List Row) → list_any (overlays t row) (filter (λ (r : Row). same_zone r.zone row.zone) rows) ≡ list_any (overlays t row) rows
in_its_zone t row rows =
    any_of_filter (λ (r : Row). same_zone r.zone row.zone) (overlays t row) rows
    ∙ any_same (λ (r : Row). same_zone r.zone row.zone && overlays t row r) (overlays t row)
    (λ r. asked_twice (same_zone r.zone row.zone) (is_live t r) (outranks r.event.hazard row.event.hazard) (overlaps r.period row.period)) rows

asked_apart : (here live rank over left : Bool) → (here && ((((here && live) && rank) && over) && left)) ≡ (left && (((here && live) && rank) && over))
asked_apart true true true true true = refl
asked_apart true true true true false = refl
asked_apart true true true false true = refl
asked_apart true true true false false = refl
asked_apart true true false over true = refl
asked_apart true true false over false = refl
asked_apart true false rank over true = refl
asked_apart true false rank over false = refl
asked_apart false live rank over true = refl
asked_apart false live rank over false = refl

left_in_zone : (t : ℕ) (ps : List Placed) (row : Row) (rows : List Row) → list_any (λ (r : Row). overlays t row r && is_left ps r) (slice_of row.zone rows) ≡ list_any (overlays t row) (filter (is_left ps) rows)
left_in_zone t ps row rows =
    any_of_filter (λ (r : Row). same_zone r.zone row.zone) (λ (r : Row). overlays t row r && is_left ps r) rows
    ∙ any_same (λ (r : Row). same_zone r.zone row.zone && (overlays t row r && is_left ps r)) (λ (r : Row). is_left ps r && overlays t row r)
    (λ r. asked_apart (same_zone r.zone row.zone) (is_live t r) (outranks r.event.hazard row.event.hazard) (overlaps r.period row.period) (is_left ps r)) rows
    ∙ sym (any_of_filter (is_left ps) (overlays t row) rows)

-- a row is overlaid where one that is left in its zone overlays it, or one that a put leaves there
pub overlaid_in_zone : (rows : List Row) (t : ℕ) (ps : List Placed) (row : Row) (zones : Zones) → zones ≡ add_rows [] (rows_by_puts rows t ps) →
    (list_any (λ (r : Row). overlays t row r && is_left ps r) (slice_of row.zone rows) || list_any (overlays t row) (rows_in zones row.zone)) ≡ is_overlaid rows t ps row
overlaid_in_zone rows t ps row zones is =
    let puts = rows_by_puts rows t ps in
    let by_put : list_any (overlays t row) (rows_in zones row.zone) ≡ list_any (overlays t row) puts =
    ap (λ (zs : Zones). list_any (overlays t row) (rows_in zs row.zone)) is ∙ ap (list_any (overlays t row)) (items_added (λ (r : Row). r.zone) [] puts row.zone) ∙ in_its_zone t row puts in
    ap (λ b. b || list_any (overlays t row) (rows_in zones row.zone)) (left_in_zone t ps row rows)
    ∙ ap (λ b. list_any (overlays t row) (filter (is_left ps) rows) || b) by_put
    ∙ sym (list_any-append (overlays t row) (filter (is_left ps) rows) puts)
