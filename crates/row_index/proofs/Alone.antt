-- A row alone, where the look-up finds it.
use Rattle.std.proofs.Common.{◌≡◌, ℕ, List, [], ◌∷◌, ◌&&◌, ◌||◌, Bool, true, false, cond, Option, Some, None, option_map, refl, ap, sym}
use Rattle.hazard_types.specs.Same.{same_zone, same_event}
use Rattle.hazard_types.specs.declared.codes.Action.{Action}
use Rattle.hazard_types.specs.declared.codes.Action.TheVariants.{New, Con, Exa, Ext, Exb, Upg, Can, Exp, Cor, Rou}
use Rattle.event_life.specs.declared.life.Life.{Life}
use Rattle.event_life.specs.Lives.{opens}
use Rattle.hazard_types.specs.declared.line.Line.{Line}
use Rattle.hazard_types.specs.declared.line.Row.{Row}
use Rattle.event_life.specs.Products.{row_at, row_of, row_after, life_of, life_at, has_rows}
use Rattle.event_life.specs.Table.{life_after_lawful_line, life_after_line}
use Rattle.event_life.proofs.Members.{find_in}
use Rattle.event_life.proofs.Puts.{at_key}

pub row_at-own : (rows : List Row) (line : Line) (own : Row) → row_at rows line.event line.zone ≡ Some own → row_at (own ∷ []) line.event line.zone ≡ row_at rows line.event line.zone
row_at-own rows line own found = let own_at = (find_in (at_key line.event line.zone) rows own found).1 in rw own_at (sym found)

pub row_after-own : (rows : List Row) (t : ℕ) (line : Line) (own : Row) → row_at rows line.event line.zone ≡ Some own → row_after (own ∷ []) t line ≡ row_after rows t line
row_after-own rows t line own found = ap (λ (o : Option Row). row_of line (life_after_lawful_line (option_map life_of o) line t)) (row_at-own rows line own found)

-- a line that opens a spell leaves nothing of the one before
opened_by : (a : Action) → opens a ≡ true → (life : Life) (line : Line) (t : ℕ) → a ≡ line.action → life_after_lawful_line None line t ≡ life_after_lawful_line (Some life) line t
unfolding life_after_lawful_line
opened_by New h life line t is = ap (λ (a : Action). life_after_line a life line t) is
opened_by Exa h life line t is = ap (λ (a : Action). life_after_line a life line t) is
opened_by Exb h life line t is = ap (λ (a : Action). life_after_line a life line t) is
opened_by Con h life line t is = cc
opened_by Ext h life line t is = cc
opened_by Upg h life line t is = cc
opened_by Can h life line t is = cc
opened_by Exp h life line t is = cc
opened_by Cor h life line t is = cc
opened_by Rou h life line t is = cc

opened_all : (o : Option Life) (line : Line) (t : ℕ) → opens line.action ≡ true → life_after_lawful_line None line t ≡ life_after_lawful_line o line t
opened_all None line t h = refl
opened_all (Some life) line t h = opened_by line.action h life line t refl

pub row_after-opened : (rows : List Row) (t : ℕ) (line : Line) → opens line.action ≡ true → row_after [] t line ≡ row_after rows t line
row_after-opened rows t line h = ap (λ (l : Life). row_of line l) (opened_all (life_at rows line) line t h)

-- an event without rows has none in a zone
pub row_at-none : (rows : List Row) (line : Line) → has_rows rows line.event ≡ false → None ≡ row_at rows line.event line.zone
row_at-none rows line h = sym (none_at rows h)
  where
    none_at : (xs : List Row) → has_rows xs line.event ≡ false → row_at xs line.event line.zone ≡ None
    none_at [] g = refl
    none_at (r ∷ xs) g = by_event (none_at xs) (same_event r.event line.event) refl g
      where
        by_event : (has_rows xs line.event ≡ false → row_at xs line.event line.zone ≡ None) → (b : Bool) → same_event r.event line.event ≡ b → (b || has_rows xs line.event) ≡ false
            → cond (same_event r.event line.event && same_zone r.zone line.zone) (Some r) (row_at xs line.event line.zone) ≡ None
        by_event later true e g = cc
        by_event later false e g = rw e (later g)
