-- A product without a breach: each of its lines that touches a life leaves its row.
use Rattle.std.proofs.Common.{◌≡◌, ◌&&◌, not, ℕ, List, [], ◌∷◌, ◌++◌, Bool, true, false, Option, None, refl, ap, ◌∙◌, cond, map}
use Rattle.std.specs.List.{filter}
use Rattle.std.specs.Option.{is_none}
use Rattle.hazard_types.specs.declared.line.Line.{Line}
use Rattle.hazard_types.specs.declared.line.Row.{Row}
use Rattle.event_life.specs.declared.life.Breach.{Breach}
use Rattle.event_life.specs.Products.{is_routine, breach_in, judged_from, lawful_of}

-- none of the lines, behind these earlier ones, has a breach
abbrev pub HaveNoBreach : List Row → ℕ → List Line → List Line → List Line → Type 0
HaveNoBreach rows t all earlier [] = Unit {0}
HaveNoBreach rows t all earlier (line ∷ lines) = (breach_in rows t all earlier line ≡ None) × HaveNoBreach rows t all (earlier ++ line ∷ []) lines

-- the line touches a life
abbrev pub touches : Line → Bool
touches line = not (is_routine line.action)

and_lawful : (b : Bool) → (b && true) ≡ b
and_lawful true = refl
and_lawful false = refl

pub lawful_of-without_breach : (rows : List Row) (t : ℕ) (all earlier lines : List Line) → HaveNoBreach rows t all earlier lines → lawful_of (judged_from rows t all earlier lines) ≡ filter touches lines
lawful_of-without_breach rows t all earlier [] h = refl
lawful_of-without_breach rows t all earlier (line ∷ lines) h =
    ap (λ (ls : List Line). cond (touches line && is_none (breach_in rows t all earlier line)) (line ∷ ls) ls) (lawful_of-without_breach rows t all (earlier ++ line ∷ []) lines h.1)
    ∙ ap (λ (o : Option Breach). cond (touches line && is_none o) (line ∷ filter touches lines) (filter touches lines)) h.0
    ∙ ap (λ (b : Bool). cond b (line ∷ filter touches lines) (filter touches lines)) (and_lawful (touches line))

-- the lines that were judged are the product's
pub judged_from-lines : (rows : List Row) (t : ℕ) (all earlier lines : List Line) → map (λ (l : Line × Option Breach). l.0) (judged_from rows t all earlier lines) ≡ lines
judged_from-lines rows t all earlier [] = refl
judged_from-lines rows t all earlier (line ∷ lines) = ap (λ (ls : List Line). line ∷ ls) (judged_from-lines rows t all (earlier ++ line ∷ []) lines)
