-- The first breach of the lines that end a life.
use Rattle.std.proofs.Common.{◌≡◌, ◌||◌, not, ℕ, Bool, true, false, List, [], ◌∷◌, refl}
use Rattle.std.specs.Option.{option_or}
use Rattle.hazard_types.specs.declared.line.Line.{Line}
use Rattle.event_life.specs.declared.life.Life.{Life}
use Rattle.event_life.specs.declared.life.Breach.{Breach}
use Rattle.event_life.specs.declared.life.Breach.TheVariants.{NotLive, ZeroBegin, PeriodMoved}
use Rattle.event_life.specs.Periods.{same_end}
use Rattle.event_life.specs.Table.{first_of, on_ending, prints_begin_as_due, moves_begin}

three : (a b c : Bool) (x y z : Breach) (more : List (Bool × Breach)) →
    first_of ((a, x) ∷ (b, y) ∷ (c, z) ∷ more) ≡ option_or (first_of ((a, x) ∷ (b, y) ∷ (c, z) ∷ [])) (first_of more)
three true b c x y z more = refl
three false true c x y z more = refl
three false false true x y z more = refl
three false false false x y z more = refl

-- what comes behind the breaches that they share
pub ending_or : (life : Life) (line : Line) (t : ℕ) (more : List (Bool × Breach)) →
    first_of (on_ending life line t more) ≡ option_or (first_of (on_ending life line t [])) (first_of more)
ending_or life line t more = three life.ended (not (prints_begin_as_due line.begin life.period.begin t)) (moves_begin line.begin life.period.begin || not (same_end line.end life.period.end)) NotLive ZeroBegin PeriodMoved more
