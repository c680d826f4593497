-- The rows that lawful lines leave: each is one of the rows before, or a line's.
use Rattle.std.proofs.Common.{◌≡◌, ◌⊎◌, inl, inr, ⊎_elim, ℕ, List, [], ◌∷◌, true, Option, Some, None, Ordering, Less, Equal, Greater, refl, sym, ap, subst, ◌∙◌, filter, option_map}
use Rattle.std.specs.List.{AllByRecursion}
use Rattle.hazard_types.specs.declared.codes.Action.{Action}
use Rattle.hazard_types.specs.declared.codes.Action.TheVariants.{Con, Cor, Ext, Can, Exp, Upg}
use Rattle.hazard_types.specs.declared.line.Flood.{Flood}
use Rattle.hazard_types.specs.declared.line.Line.{Line}
use Rattle.hazard_types.specs.declared.line.Row.{Row}
use Rattle.event_life.specs.declared.life.Life.{Life}
use Rattle.event_life.specs.Products.{by_key, life_of, placed, put, put_all, row_after, row_at, rows_after}
use Rattle.event_life.specs.Reordered.{are_lawful}
use Rattle.event_life.specs.Table.{flood_after, life_after_line, life_after_lawful_line}
use Rattle.event_life.proofs.LawfulLemmas.{touches}
use Rattle.hazard_board.specs.Consistent.{EachToLater}
use Rattle.action_planner.proofs.LawfulLists.{Has, all_has, every}
use Rattle.action_planner.proofs.StandingRows.{rows_left_by}

-- what stands there was there, or is what was put

put_step : (row r : Row) (rows : List Row) (o : Ordering) (x : Row) → (Has (put row rows) x → (x ≡ row) ⊎ Has rows x) → Has (placed o row r rows (put row rows)) x → (x ≡ row) ⊎ Has (r ∷ rows) x
put_step row r rows Less x more (inl e) = inl (sym e)
put_step row r rows Less x more (inr h) = inr h
put_step row r rows Equal x more (inl e) = inl (sym e)
put_step row r rows Equal x more (inr h) = inr (inr h)
put_step row r rows Greater x more (inl e) = inr (inl e)
put_step row r rows Greater x more (inr h) = ⊎_elim (λ e. inl e) (λ g. inr (inr g)) (more h)

put_from : (row : Row) (rows : List Row) (x : Row) → Has (put row rows) x → (x ≡ row) ⊎ Has rows x
put_from row [] x (inl e) = inl (sym e)
put_from row [] x (inr h) = absurd h
put_from row (r ∷ rows) x h = put_step row r rows (by_key row r) x (put_from row rows x) h

-- the row is a line's
abbrev pub IsLeft : List Row → ℕ → List Line → Row → Type 0
IsLeft rows t lines x = (l : Line) × Has lines l × (x ≡ row_after rows t l)

put_all_from : (rows : List Row) (t : ℕ) (lines : List Line) (after : List Row) (x : Row) → Has (put_all rows t lines after) x → IsLeft rows t lines x ⊎ Has after x
put_all_from rows t [] after x h = inr h
put_all_from rows t (line ∷ lines) after x h =
    ⊎_elim {C = IsLeft rows t (line ∷ lines) x ⊎ Has after x} (λ (m : IsLeft rows t lines x). inl (m.0, inr m.1, m.2))
    (λ (g : Has (put (row_after rows t line) after) x). ⊎_elim {C = IsLeft rows t (line ∷ lines) x ⊎ Has after x} (λ (e : x ≡ row_after rows t line). inl (line, inl refl, e)) (λ (k : Has after x). inr k) (put_from (row_after rows t line) after x g))
    (put_all_from rows t lines (put (row_after rows t line) after) x h)

pub after_from : (rows : List Row) (t : ℕ) (lines : List Line) → are_lawful rows t lines ≡ true → (x : Row) → Has (rows_after rows t lines) x → IsLeft rows t (filter touches lines) x ⊎ Has rows x
after_from rows t lines lawful x h = put_all_from rows t (filter touches lines) rows x (subst (λ (after : List Row). Has after x) (rows_left_by rows t lines lawful) h)

-- what holds of the rows before and of each line's row

pub all_after : (P : Row → Type 0) (rows : List Row) (t : ℕ) (lines : List Line) → are_lawful rows t lines ≡ true → AllByRecursion P rows → AllByRecursion (λ l. P (row_after rows t l)) (filter touches lines) → AllByRecursion P (rows_after rows t lines)
all_after P rows t lines lawful before each = every P (rows_after rows t lines) (λ x h.
    ⊎_elim {C = P x} (λ (m : IsLeft rows t (filter touches lines) x). subst P (sym m.2) (all_has (λ l. P (row_after rows t l)) (filter touches lines) m.0 each m.1)) (λ (g : Has rows x). all_has P rows x before g) (after_from rows t lines lawful x h))

-- pairs

pub later_from : (R : Row → Row → Type 0) (xs : List Row) → ((x y : Row) → Has xs x → Has xs y → R x y) → EachToLater R xs
later_from R [] each = tt
later_from R (x ∷ xs) each = (every (R x) xs (λ y h. each x y (inl refl) (inr h)), later_from R xs (λ y z h g. each y z (inr h) (inr g)))

module _ (R : Row → Row → Type 0) (itself : (x : Row) → R x x) (turned : (x y : Row) → R x y → R y x) where
  pub pair_of : (xs : List Row) → EachToLater R xs → (x y : Row) → Has xs x → Has xs y → R x y
  pair_of [] each x y h g = absurd h
  pair_of (z ∷ xs) each x y (inl e) (inl f) = subst (λ (w : Row). R w y) e (subst (R z) f (itself z))
  pair_of (z ∷ xs) each x y (inl e) (inr g) = subst (λ (w : Row). R w y) e (all_has (R z) xs y each.0 g)
  pair_of (z ∷ xs) each x y (inr h) (inl f) = turned y x (subst (λ (w : Row). R w x) f (all_has (R z) xs x each.0 h))
  pair_of (z ∷ xs) each x y (inr h) (inr g) = pair_of xs each.1 x y h g

-- flood values that a line has are those of its row after it

flood_new : (old : Option Flood) (f : Flood) → flood_after old (Some f) ≡ Some f
flood_new None f = refl
flood_new (Some g) f = refl

left_flood : (a : Action) (life : Life) (line : Line) (t : ℕ) (f : Flood) → line.flood ≡ Some f → (life_after_line a life line t).flood ≡ Some f
left_flood Con life line t f h = ap (flood_after life.flood) h ∙ flood_new life.flood f
left_flood Cor life line t f h = ap (flood_after life.flood) h ∙ flood_new life.flood f
left_flood Ext life line t f h = ap (flood_after life.flood) h ∙ flood_new life.flood f
left_flood Can life line t f h = ap (flood_after life.flood) h ∙ flood_new life.flood f
left_flood Exp life line t f h = ap (flood_after life.flood) h ∙ flood_new life.flood f
left_flood Upg life line t f h = ap (flood_after life.flood) h ∙ flood_new life.flood f
left_flood _ life line t f h = h

after_flood : (o : Option Row) (line : Line) (t : ℕ) (f : Flood) → line.flood ≡ Some f → (life_after_lawful_line (option_map life_of o) line t).flood ≡ Some f
unfolding life_after_lawful_line
after_flood None line t f h = h
after_flood (Some row) line t f h = left_flood line.action (life_of row) line t f h

pub row_flood : (rows : List Row) (t : ℕ) (line : Line) (f : Flood) → line.flood ≡ Some f → (row_after rows t line).flood ≡ Some f
row_flood rows t line f h = after_flood (row_at rows line.event line.zone) line t f h
