-- A life is lawful exactly where each of its lines stands in its track.
use Rattle.std.proofs.Common.{◌≡◌, ◌↔◌, ◌&&◌, not, ℕ, ◌+◌, ◌≤◌, List, [], ◌∷◌, ◌++◌, Bool, true, false, Option, Some, None, refl, sym, ap, ◌∙◌, cond, length, arith, length-append}
use Rattle.std.specs.Option.{is_none}
use Rattle.std.proofs.lemmas.Bool.{and_parts, not-true}
use Rattle.hazard_types.specs.Places.{Place}
use Rattle.hazard_types.specs.Same.{same_event}
use Rattle.hazard_types.specs.declared.codes.Action.{Action}
use Rattle.hazard_types.specs.declared.hazard.Event.{Event}
use Rattle.hazard_types.specs.declared.line.Line.{Line}
use Rattle.hazard_types.specs.declared.line.Row.{Row}
use Rattle.event_life.specs.declared.life.Breach.{Breach}
use Rattle.event_life.specs.Products.{Product, is_routine, concerns, judged_from, breach_in, lawful_of, lines_of, rows_with}
use Rattle.event_life.specs.Lives.{judged_product, steps_of, track_from, track_of, said_from, said_of, AreLawful, IsLawfulFrom, IsLawfulLife}

-- one line more in front

module _ (t : ℕ) (e : Event) (z : Place) where
  abbrev step_in : Line → List (Action × ℕ) → List (Action × ℕ)
  step_in line steps = cond (concerns e z line) ((line.action, t) ∷ steps) steps

  kept_steps : (line : Line) (lines : List Line) (keep : Bool) → steps_of t e z (cond keep (line ∷ lines) lines) ≡ cond keep (step_in line (steps_of t e z lines)) (steps_of t e z lines)
  kept_steps line lines true = refl
  kept_steps line lines false = refl

  fewer_cons : (s keep : Bool) (a : Action × ℕ) (xs ys : List (Action × ℕ)) → length xs ≤ length ys → length (cond keep (cond s (a ∷ xs) xs) xs) ≤ length (cond s (a ∷ ys) ys)
  fewer_cons true true a xs ys h = omega arith
  fewer_cons true false a xs ys h = omega arith
  fewer_cons false true a xs ys h = h
  fewer_cons false false a xs ys h = h

  same_cons : (s keep : Bool) (a : Action × ℕ) (xs ys : List (Action × ℕ)) → length xs ≤ length ys → length (cond keep (cond s (a ∷ xs) xs) xs) ≡ length (cond s (a ∷ ys) ys) → (length xs ≡ length ys) × (s ≡ true → keep ≡ true)
  same_cons true true a xs ys h e = (omega arith, λ _. refl)
  same_cons true false a xs ys h e = absurd (omega arith)
  same_cons false true a xs ys h e = (e, λ g. cc)
  same_cons false false a xs ys h e = (e, λ g. cc)

  module _ (rows : List Row) (all : List Line) where
    abbrev keep_of : List Line → Line → Bool
    keep_of earlier line = not (is_routine line.action) && is_none (breach_in rows t all earlier line)

    lawful_steps : (earlier : List Line) (line : Line) (lines : List Line) → steps_of t e z (lawful_of (judged_from rows t all earlier (line ∷ lines))) ≡
        cond (keep_of earlier line) (step_in line (steps_of t e z (lawful_of (judged_from rows t all (earlier ++ line ∷ []) lines)))) (steps_of t e z (lawful_of (judged_from rows t all (earlier ++ line ∷ []) lines)))
    lawful_steps earlier line lines = kept_steps line (lawful_of (judged_from rows t all (earlier ++ line ∷ []) lines)) (keep_of earlier line)

    pub fewer_lawful : (earlier lines : List Line) → length (steps_of t e z (lawful_of (judged_from rows t all earlier lines))) ≤ length (steps_of t e z lines)
    fewer_lawful earlier [] = omega arith
    fewer_lawful earlier (line ∷ lines) =
        rw (lawful_steps earlier line lines)
        (fewer_cons (concerns e z line) (keep_of earlier line) (line.action, t) (steps_of t e z (lawful_of (judged_from rows t all (earlier ++ line ∷ []) lines))) (steps_of t e z lines)
        (fewer_lawful (earlier ++ line ∷ []) lines))

    none_kept : (line : Line) (o : Option Breach) → (concerns e z line ≡ true → (not (is_routine line.action) && is_none o) ≡ true) → concerns e z line ≡ true → o ≡ None
    none_kept line None h s = refl
    none_kept line (Some breach) h s = let p = and_parts (not (is_routine line.action)) false (h s) in let f = p.1 in cc

    -- where as many stand in the track, each is lawful
    pub lawful_from_whole : (earlier lines : List Line) → length (steps_of t e z (lawful_of (judged_from rows t all earlier lines))) ≡ length (steps_of t e z lines) → AreLawful e z (judged_from rows t all earlier lines)
    lawful_from_whole earlier [] h = tt
    lawful_from_whole earlier (line ∷ lines) h =
        let p = same_cons (concerns e z line) (keep_of earlier line) (line.action, t) (steps_of t e z (lawful_of (judged_from rows t all (earlier ++ line ∷ []) lines))) (steps_of t e z lines)
        (fewer_lawful (earlier ++ line ∷ []) lines) (ap length (sym (lawful_steps earlier line lines)) ∙ h) in
        (none_kept line (breach_in rows t all earlier line) p.1, lawful_from_whole (earlier ++ line ∷ []) lines p.0)

    whole_cons : (line : Line) (o : Option Breach) (xs ys : List (Action × ℕ)) (s routine : Bool) → (s ≡ true → routine ≡ false) → (s ≡ true → o ≡ None) → xs ≡ ys →
        cond (not routine && is_none o) (cond s ((line.action, t) ∷ xs) xs) xs ≡ cond s ((line.action, t) ∷ ys) ys
    whole_cons line None xs ys true true own h e = let f = own refl in cc
    whole_cons line None xs ys true false own h e = ap (λ (steps : List (Action × ℕ)). (line.action, t) ∷ steps) e
    whole_cons line (Some breach) xs ys true routine own h e = let f = h refl in cc
    whole_cons line None xs ys false true own h e = e
    whole_cons line None xs ys false false own h e = e
    whole_cons line (Some breach) xs ys false true own h e = e
    whole_cons line (Some breach) xs ys false false own h e = e

    own_line : (line : Line) → concerns e z line ≡ true → is_routine line.action ≡ false
    own_line line s =
        let p = and_parts (not (is_routine line.action) && same_event line.event e) _ s in
        not-true (is_routine line.action) (and_parts (not (is_routine line.action)) _ p.0).0

    -- where each is lawful, the track has them all
    pub whole_from_lawful : (earlier lines : List Line) → AreLawful e z (judged_from rows t all earlier lines) → steps_of t e z (lawful_of (judged_from rows t all earlier lines)) ≡ steps_of t e z lines
    whole_from_lawful earlier [] h = refl
    whole_from_lawful earlier (line ∷ lines) h =
        lawful_steps earlier line lines
        ∙ whole_cons line (breach_in rows t all earlier line) (steps_of t e z (lawful_of (judged_from rows t all (earlier ++ line ∷ []) lines))) (steps_of t e z lines) (concerns e z line) (is_routine line.action)
        (own_line line) h.0 (whole_from_lawful (earlier ++ line ∷ []) lines h.1)

-- over products

both_least : (a b c d : ℕ) → a ≤ c → b ≤ d → a + b ≡ c + d → (a ≡ c) × (b ≡ d)
both_least a b c d h g e = (omega arith, omega arith)

fewer_from : (rows : List Row) (products : List Product) (e : Event) (z : Place) → length (track_from rows products e z) ≤ length (said_from rows products e z)
fewer_from rows [] e z = omega arith
fewer_from rows (p ∷ products) e z =
    let lines = lines_of rows p.issue p.said in
    let one = fewer_lawful p.issue e z rows lines [] lines in
    let more = fewer_from (rows_with rows p) products e z in
    rw (length-append (steps_of p.issue e z (lawful_of (judged_product rows p))) (track_from (rows_with rows p) products e z), length-append (steps_of p.issue e z lines) (said_from (rows_with rows p) products e z))
    (omega (arith, one, more))

lawful_by_length : (rows : List Row) (products : List Product) (e : Event) (z : Place) → length (track_from rows products e z) ≡ length (said_from rows products e z) → IsLawfulFrom rows products e z
lawful_by_length rows [] e z h = tt
lawful_by_length rows (p ∷ products) e z h =
    let lines = lines_of rows p.issue p.said in
    let own = length (steps_of p.issue e z (lawful_of (judged_product rows p))) in
    let sums : own + length (track_from (rows_with rows p) products e z) ≡ length (steps_of p.issue e z lines) + length (said_from (rows_with rows p) products e z) =
    sym (length-append (steps_of p.issue e z (lawful_of (judged_product rows p))) (track_from (rows_with rows p) products e z)) ∙ h ∙ length-append (steps_of p.issue e z lines) (said_from (rows_with rows p) products e z) in
    let both = both_least own (length (track_from (rows_with rows p) products e z)) (length (steps_of p.issue e z lines)) (length (said_from (rows_with rows p) products e z))
    (fewer_lawful p.issue e z rows lines [] lines) (fewer_from (rows_with rows p) products e z) sums in
    (lawful_from_whole p.issue e z rows lines [] lines both.0, lawful_by_length (rows_with rows p) products e z both.1)

whole_by_lawful : (rows : List Row) (products : List Product) (e : Event) (z : Place) → IsLawfulFrom rows products e z → track_from rows products e z ≡ said_from rows products e z
whole_by_lawful rows [] e z h = refl
whole_by_lawful rows (p ∷ products) e z h =
    let lines = lines_of rows p.issue p.said in
    ap (λ (steps : List (Action × ℕ)). steps ++ track_from (rows_with rows p) products e z) (whole_from_lawful p.issue e z rows lines [] lines h.0)
    ∙ ap (λ (more : List (Action × ℕ)). steps_of p.issue e z lines ++ more) (whole_by_lawful (rows_with rows p) products e z h.1)

pub lawful_exactly : (products : List Product) (e : Event) (z : Place) → IsLawfulLife products e z ↔ (track_of products e z ≡ said_of products e z)
lawful_exactly products e z = (whole_by_lawful [] products e z, λ h. lawful_by_length [] products e z (ap length h))
