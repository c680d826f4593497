-- One list of lines or products behind another.
use Rattle.std.proofs.Common.{◌≡◌, ◌==◌, ◌&&◌, not, ℕ, List, [], ◌∷◌, ◌++◌, Bool, true, false, Option, refl, sym, ap, ◌∙◌, cond, append_assoc}
use Rattle.std.proofs.lemmas.List.{append-nil}
use Rattle.std.specs.List.{fold}
use Rattle.std.specs.Option.{is_none}
use Rattle.hazard_types.specs.Places.{Place}
use Rattle.hazard_types.specs.declared.codes.Action.{Action}
use Rattle.hazard_types.specs.declared.hazard.Event.{Event}
use Rattle.hazard_types.specs.declared.line.Line.{Line}
use Rattle.hazard_types.specs.declared.line.Row.{Row}
use Rattle.event_life.specs.declared.life.Breach.{Breach}
use Rattle.event_life.specs.Products.{Product, put, row_after, is_routine, breach_in, judged_from, lawful_of, put_all, rows_with}
use Rattle.event_life.specs.Lives.{judged_product, steps_of, track_from}
use Rattle.event_life.specs.Openings.{events_opened_by, opened_from, Gap, wanted_after, gaps_from}

cons-append : {X : Type 0} (xs : List X) (x : X) (ys : List X) → (xs ++ x ∷ []) ++ ys ≡ xs ++ (x ∷ ys)
cons-append xs x ys = rw append_assoc

cond-append : {X : Type 0} (b : Bool) (x : X) (xs ys : List X) → cond b (x ∷ xs) xs ++ ys ≡ cond b (x ∷ (xs ++ ys)) (xs ++ ys)
cond-append true x xs ys = refl
cond-append false x xs ys = refl

pub judged_from-append : (rows : List Row) (t : ℕ) (all earlier xs ys : List Line) →
    judged_from rows t all earlier (xs ++ ys) ≡ judged_from rows t all earlier xs ++ judged_from rows t all (earlier ++ xs) ys
judged_from-append rows t all earlier [] ys = rw (append-nil earlier)
judged_from-append rows t all earlier (x ∷ xs) ys =
    ap (λ (judged : List (Line × Option Breach)). (x, breach_in rows t all earlier x) ∷ judged)
    (judged_from-append rows t all (earlier ++ x ∷ []) xs ys
    ∙ ap (λ (before : List Line). judged_from rows t all (earlier ++ x ∷ []) xs ++ judged_from rows t all before ys) (cons-append earlier x xs))

pub lawful_of-append : (xs ys : List (Line × Option Breach)) → lawful_of (xs ++ ys) ≡ lawful_of xs ++ lawful_of ys
lawful_of-append [] ys = refl
lawful_of-append (x ∷ xs) ys =
    ap (λ (lines : List Line). cond (not (is_routine x.0.action) && is_none x.1) (x.0 ∷ lines) lines) (lawful_of-append xs ys)
    ∙ sym (cond-append (not (is_routine x.0.action) && is_none x.1) x.0 (lawful_of xs) (lawful_of ys))

pub put_all-append : (rows : List Row) (t : ℕ) (xs ys : List Line) (after : List Row) → put_all rows t (xs ++ ys) after ≡ put_all rows t ys (put_all rows t xs after)
put_all-append rows t [] ys after = refl
put_all-append rows t (x ∷ xs) ys after = put_all-append rows t xs ys (put (row_after rows t x) after)

pub track_from-append : (rows : List Row) (ps qs : List Product) (e : Event) (z : Place) →
    track_from rows (ps ++ qs) e z ≡ track_from rows ps e z ++ track_from (fold rows_with rows ps) qs e z
track_from-append rows [] qs e z = refl
track_from-append rows (p ∷ ps) qs e z =
    ap (λ (steps : List (Action × ℕ)). steps_of p.issue e z (lawful_of (judged_product rows p)) ++ steps) (track_from-append (rows_with rows p) ps qs e z)
    ∙ sym (append_assoc (steps_of p.issue e z (lawful_of (judged_product rows p))) (track_from (rows_with rows p) ps e z) (track_from (fold rows_with (rows_with rows p) ps) qs e z))

pub opened_from-append : (rows : List Row) (ps qs : List Product) → opened_from rows (ps ++ qs) ≡ opened_from rows ps ++ opened_from (fold rows_with rows ps) qs
opened_from-append rows [] qs = refl
opened_from-append rows (p ∷ ps) qs =
    ap (λ (events : List Event). events_opened_by (lawful_of (judged_product rows p)) ++ events) (opened_from-append (rows_with rows p) ps qs)
    ∙ sym (append_assoc (events_opened_by (lawful_of (judged_product rows p))) (opened_from (rows_with rows p) ps) (opened_from (fold rows_with (rows_with rows p) ps) qs))

abbrev gap_at : List Event → Event → List Gap
gap_at earlier e = cond (e.etn == wanted_after earlier e) [] (record { event = e; wanted = wanted_after earlier e } ∷ [])

pub gaps_from-append : (earlier xs ys : List Event) → gaps_from earlier (xs ++ ys) ≡ gaps_from earlier xs ++ gaps_from (earlier ++ xs) ys
gaps_from-append earlier [] ys = rw (append-nil earlier)
gaps_from-append earlier (x ∷ xs) ys =
    ap (λ (gaps : List Gap). gap_at earlier x ++ gaps) (gaps_from-append (earlier ++ x ∷ []) xs ys)
    ∙ sym (append_assoc (gap_at earlier x) (gaps_from (earlier ++ x ∷ []) xs) (gaps_from ((earlier ++ x ∷ []) ++ xs) ys))
    ∙ ap (λ (before : List Event). gaps_from earlier (x ∷ xs) ++ gaps_from before ys) (cons-append earlier x xs)
