-- A product's lines in another order.
use Rattle.std.specs.Prelude.{◌≡◌, ◌↔◌, ℕ, Bool, false, List, [], ◌∷◌, Option, is_none}
use Rattle.std.specs.List.{Contains, list_any, list_all}
use Rattle.hazard_types.specs.declared.line.Line.{Line}
use Rattle.hazard_types.specs.declared.line.Row.{Row}
use Rattle.event_life.specs.declared.life.Breach.{Breach}
use Rattle.event_life.specs.Products.{is_routine, concerns, judged}

-- none of the lines of a product has a breach
abbrev pub are_lawful : List Row → ℕ → List Line → Bool
are_lawful rows t lines = list_all (λ (l : Line × Option Breach). is_none l.1) (judged rows t lines)

-- the same lines touch a life
abbrev pub TouchAlike : List Line → List Line → Type 0
TouchAlike xs ys = (line : Line) → is_routine line.action ≡ false → Contains xs line ↔ Contains ys line

-- no two of the lines that touch a life speak of one event and zone
abbrev pub AreApart : List Line → Type 0
AreApart [] = Unit {0}
AreApart (line ∷ lines) = (is_routine line.action ≡ false → list_any (concerns line.event line.zone) lines ≡ false) × AreApart lines
