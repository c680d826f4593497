-- The lawful lines of a product that speak of an event in a zone: the first line of these, where it is lawful.
use Rattle.std.proofs.Common.{◌≡◌, ◌&&◌, ◌||◌, not, ℕ, List, [], ◌∷◌, ◌++◌, Bool, true, false, Option, Some, None, refl, sym, ap, ◌∙◌, cond, map}
use Rattle.std.proofs.lemmas.List.Folds.{list_any-append}
use Rattle.std.specs.List.{AllByRecursion, filter, find, list_any}
use Rattle.std.specs.Option.{is_none}
use Rattle.hazard_types.specs.Places.{Place}
use Rattle.hazard_types.specs.declared.codes.Action.{Action}
use Rattle.hazard_types.specs.declared.hazard.Event.{Event}
use Rattle.hazard_types.specs.declared.line.Line.{Line}
use Rattle.hazard_types.specs.declared.line.Row.{Row}
use Rattle.event_life.specs.declared.life.Breach.{Breach}
use Rattle.event_life.specs.declared.life.Breach.TheVariants.{Twice}
use Rattle.event_life.specs.Table.{breach_of_line}
use Rattle.event_life.specs.Products.{put, row_at, life_at, row_after, is_routine, concerns, is_second, around_of, breach_in, judged_from, judged, lawful_of, put_all, rows_after}
use Rattle.event_life.specs.Firsts.{is_lawful, first_line, row_by_first, row_by_first_line}
use Rattle.event_life.specs.Lives.{steps_of}
use Rattle.event_life.proofs.Puts.{at_key, row_at-put, concerns-parts}

-- the breach of a line that is the first of its event in its zone, or a later one

pub breach_in-second : (rows : List Row) (t : ℕ) (all earlier : List Line) (line : Line) → is_routine line.action ≡ false → is_second earlier line ≡ true →
    breach_in rows t all earlier line ≡ Some Twice
unfolding breach_in
breach_in-second rows t all earlier line p q = rw (p, q)

pub breach_in-first : (rows : List Row) (t : ℕ) (all earlier : List Line) (line : Line) → is_routine line.action ≡ false → is_second earlier line ≡ false →
    breach_in rows t all earlier line ≡ breach_of_line (life_at rows line) line t (around_of rows t all line)
unfolding breach_in
breach_in-first rows t all earlier line p q = rw (p, q)

-- the line is kept among the lawful ones
abbrev is_kept : List Row → ℕ → List Line → List Line → Line → Bool
is_kept rows t all earlier line = not (is_routine line.action) && is_none (breach_in rows t all earlier line)

kept-second : (rows : List Row) (t : ℕ) (all earlier : List Line) (e : Event) (z : Place) (line : Line) → concerns e z line ≡ true → list_any (concerns e z) earlier ≡ true → is_kept rows t all earlier line ≡ false
kept-second rows t all earlier e z line s q =
    let p = concerns-parts e z line s in
    let second : is_second earlier line ≡ true = rw (p.1, p.2) q in
    rw (p.0, breach_in-second rows t all earlier line p.0 second)

kept-first : (rows : List Row) (t : ℕ) (all earlier : List Line) (e : Event) (z : Place) (line : Line) → concerns e z line ≡ true → list_any (concerns e z) earlier ≡ false → is_kept rows t all earlier line ≡ is_lawful rows t all line
kept-first rows t all earlier e z line s q =
    let p = concerns-parts e z line s in
    let first : is_second earlier line ≡ false = rw (p.1, p.2) q in
    rw (p.0, breach_in-first rows t all earlier line p.0 first)

-- the first line, where it is lawful
abbrev pub lawful_first : List Row → ℕ → List Line → Option Line → List Line
lawful_first rows t all None = []
lawful_first rows t all (Some line) = cond (is_lawful rows t all line) (line ∷ []) []

pub filter-cond : (S : Line → Bool) (line : Line) (lines : List Line) (s keep : Bool) → S line ≡ s →
    filter S (cond keep (line ∷ lines) lines) ≡ cond s (cond keep (line ∷ filter S lines) (filter S lines)) (filter S lines)
filter-cond S line lines true true h = rw h
filter-cond S line lines false true h = rw h
filter-cond S line lines true false h = refl
filter-cond S line lines false false h = refl

or_none : (b : Bool) → (b || false) ≡ b
or_none true = refl
or_none false = refl

or_some : (b : Bool) → (b || true) ≡ true
or_some true = refl
or_some false = refl

module _ (rows : List Row) (t : ℕ) (all : List Line) (e : Event) (z : Place) where
  spoken_step : (earlier : List Line) (line : Line) (lines : List Line) (s q : Bool) → concerns e z line ≡ s → list_any (concerns e z) earlier ≡ q →
      filter (concerns e z) (lawful_of (judged_from rows t all (earlier ++ line ∷ []) lines)) ≡ lawful_first rows t all (cond (list_any (concerns e z) (earlier ++ line ∷ [])) None (find (concerns e z) lines)) →
      filter (concerns e z) (lawful_of (judged_from rows t all earlier (line ∷ lines))) ≡ lawful_first rows t all (cond q None (cond s (Some line) (find (concerns e z) lines)))
  spoken_step earlier line lines false q h g more =
      let any : list_any (concerns e z) (earlier ++ line ∷ []) ≡ q = list_any-append (concerns e z) earlier (line ∷ []) ∙ rw (g, h) (or_none q) in
      filter-cond (concerns e z) line (lawful_of (judged_from rows t all (earlier ++ line ∷ []) lines)) false (is_kept rows t all earlier line) h
      ∙ more ∙ ap (λ (b : Bool). lawful_first rows t all (cond b None (find (concerns e z) lines))) any
  spoken_step earlier line lines true true h g more =
      let any : list_any (concerns e z) (earlier ++ line ∷ []) ≡ true = list_any-append (concerns e z) earlier (line ∷ []) ∙ rw g in
      filter-cond (concerns e z) line (lawful_of (judged_from rows t all (earlier ++ line ∷ []) lines)) true (is_kept rows t all earlier line) h
      ∙ rw (kept-second rows t all earlier e z line h g) (more ∙ rw any)
  spoken_step earlier line lines true false h g more =
      let any : list_any (concerns e z) (earlier ++ line ∷ []) ≡ true = list_any-append (concerns e z) earlier (line ∷ []) ∙ rw (g, h) in
      let none : filter (concerns e z) (lawful_of (judged_from rows t all (earlier ++ line ∷ []) lines)) ≡ [] = more ∙ rw any in
      filter-cond (concerns e z) line (lawful_of (judged_from rows t all (earlier ++ line ∷ []) lines)) true (is_kept rows t all earlier line) h
      ∙ rw (kept-first rows t all earlier e z line h g, none)

  -- of the lawful lines those that speak of the event in the zone
  pub spoken : (earlier lines : List Line) →
      filter (concerns e z) (lawful_of (judged_from rows t all earlier lines)) ≡ lawful_first rows t all (cond (list_any (concerns e z) earlier) None (find (concerns e z) lines))
  spoken earlier [] = elim (list_any (concerns e z) earlier) as (λ b. [] ≡ lawful_first rows t all (cond b None None)) [ true ↦ refl | false ↦ refl ]
  spoken earlier (line ∷ lines) = spoken_step earlier line lines (concerns e z line) (list_any (concerns e z) earlier) refl refl (spoken (earlier ++ line ∷ []) lines)

-- lines that touch a life
abbrev pub AreTouching : List Line → Type 0
AreTouching lines = AllByRecursion (λ (line : Line). is_routine line.action ≡ false) lines

touching_step : (line : Line) (o : Option Breach) (lines : List Line) (r : Bool) → is_routine line.action ≡ r → AreTouching lines → AreTouching (cond (not r && is_none o) (line ∷ lines) lines)
touching_step line o lines true h more = more
touching_step line None lines false h more = (h, more)
touching_step line (Some breach) lines false h more = more

-- a lawful line touches a life
pub lawful_of-touches : (judged : List (Line × Option Breach)) → AreTouching (lawful_of judged)
lawful_of-touches [] = tt
lawful_of-touches (l ∷ ls) = touching_step l.0 l.1 (lawful_of ls) (is_routine l.0.action) refl (lawful_of-touches ls)

-- the row that the last of these lines leaves
abbrev pub row_by_last : List Row → ℕ → List Line → Option Row → Option Row
row_by_last rows t [] before = before
row_by_last rows t (line ∷ lines) before = row_by_last rows t lines (Some (row_after rows t line))

row_by_last-cond : (rows : List Row) (t : ℕ) (line : Line) (lines : List Line) (before : Option Row) (b : Bool) →
    row_by_last rows t (cond b (line ∷ lines) lines) before ≡ row_by_last rows t lines (cond b (Some (row_after rows t line)) before)
row_by_last-cond rows t line lines before true = refl
row_by_last-cond rows t line lines before false = refl

-- only lines that speak of an event in a zone change its row there
pub row_at-put_all : (rows : List Row) (t : ℕ) (e : Event) (z : Place) (lines : List Line) (after : List Row) → AreTouching lines →
    row_at (put_all rows t lines after) e z ≡ row_by_last rows t (filter (concerns e z) lines) (row_at after e z)
row_at-put_all rows t e z [] after touch = refl
row_at-put_all rows t e z (line ∷ lines) after touch =
    let own : at_key e z (row_after rows t line) ≡ concerns e z line = rw touch.0 in
    row_at-put_all rows t e z lines (put (row_after rows t line) after) touch.1
    ∙ ap (row_by_last rows t (filter (concerns e z) lines)) (row_at-put (row_after rows t line) after e z ∙ ap (λ (b : Bool). cond b (Some (row_after rows t line)) (row_at after e z)) own)
    ∙ sym (row_by_last-cond rows t line (filter (concerns e z) lines) (row_at after e z) (concerns e z line))

by_first : (rows : List Row) (t : ℕ) (all : List Line) (before : Option Row) (first : Option Line) → row_by_last rows t (lawful_first rows t all first) before ≡ row_by_first rows t all before first
by_first rows t all before None = refl
by_first rows t all before (Some line) = row_by_last-cond rows t line [] before (is_lawful rows t all line)

-- the row of an event in a zone after a product
pub row_at-rows_after : (rows : List Row) (t : ℕ) (lines : List Line) (e : Event) (z : Place) →
    row_at (rows_after rows t lines) e z ≡ row_by_first_line rows t lines e z
unfolding rows_after
row_at-rows_after rows t lines e z =
    row_at-put_all rows t e z (lawful_of (judged rows t lines)) rows (lawful_of-touches (judged rows t lines))
    ∙ ap (λ (ls : List Line). row_by_last rows t ls (row_at rows e z)) (spoken rows t lines e z [] lines)
    ∙ by_first rows t lines (row_at rows e z) (first_line lines e z)

-- action and issue minute of a line
abbrev pub step_of : ℕ → Line → Action × ℕ
step_of issue line = (line.action, issue)

steps-cond : (issue : ℕ) (line : Line) (lines : List Line) (b : Bool) → map (step_of issue) (cond b (line ∷ lines) lines) ≡ cond b (step_of issue line ∷ map (step_of issue) lines) (map (step_of issue) lines)
steps-cond issue line lines true = refl
steps-cond issue line lines false = refl

-- steps are those of the lines that speak of the event in the zone
pub steps_of-lines : (issue : ℕ) (e : Event) (z : Place) (lines : List Line) → steps_of issue e z lines ≡ map (step_of issue) (filter (concerns e z) lines)
steps_of-lines issue e z [] = refl
steps_of-lines issue e z (line ∷ lines) =
    ap (λ (steps : List (Action × ℕ)). cond (concerns e z line) (step_of issue line ∷ steps) steps) (steps_of-lines issue e z lines)
    ∙ sym (steps-cond issue line (filter (concerns e z) lines) (concerns e z line))
