-- The rows by which a higher row is judged, against the lawful lines.
use Rattle.std.proofs.Common.{◌≡◌, ◌&&◌, not, ℕ, List, [], ◌∷◌, ◌++◌, Bool, true, false, Option, Some, None, refl, sym, ap, ◌∙◌, cond}
use Rattle.std.specs.List.{filter}
use Rattle.std.specs.Option.{is_none}
use Rattle.hazard_types.specs.declared.codes.Action.{Action}
use Rattle.hazard_types.specs.declared.codes.Action.TheVariants.{New, Con, Exa, Ext, Exb, Upg, Can, Exp, Cor, Rou}
use Rattle.hazard_types.specs.declared.line.Line.{Line}
use Rattle.hazard_types.specs.declared.line.Row.{Row}
use Rattle.event_life.specs.declared.life.Life.{Life}
use Rattle.event_life.specs.declared.life.Breach.{Breach}
use Rattle.event_life.specs.Table.{breach_of_line, first_of, on_life, on_nothing}
use Rattle.event_life.specs.Products.{put, life_at, row_after, around_but_higher, has_higher, is_routine, is_upgrade, is_second, breach_in, judged_from, judged, lawful_of, put_all, rows_after_all_but_upgrades, end_upgraded, rows_for_higher}
use Rattle.event_life.proofs.Spoken.{breach_in-first, breach_in-second, filter-cond}

-- only UPG looks at the higher row

on_life-higher : (a : Action) (life : Life) (line : Line) (rows : List Row) (t : ℕ) (b c : Bool) → is_upgrade a ≡ false →
    first_of (on_life a life line t (around_but_higher rows t line b)) ≡ first_of (on_life a life line t (around_but_higher rows t line c))
on_life-higher New life line rows t b c u = refl
on_life-higher Con life line rows t b c u = refl
on_life-higher Exa life line rows t b c u = refl
on_life-higher Ext life line rows t b c u = refl
on_life-higher Exb life line rows t b c u = refl
on_life-higher Upg life line rows t b c u = cc
on_life-higher Can life line rows t b c u = refl
on_life-higher Exp life line rows t b c u = refl
on_life-higher Cor life line rows t b c u = refl
on_life-higher Rou life line rows t b c u = refl

on_nothing-higher : (a : Action) (line : Line) (rows : List Row) (t : ℕ) (b c : Bool) →
    first_of (on_nothing a line t (around_but_higher rows t line b)) ≡ first_of (on_nothing a line t (around_but_higher rows t line c))
on_nothing-higher New line rows t b c = refl
on_nothing-higher Exa line rows t b c = refl
on_nothing-higher Exb line rows t b c = refl
on_nothing-higher _ line rows t b c = refl

pub breach-higher : (before : Option Life) (line : Line) (rows : List Row) (t : ℕ) (b c : Bool) → is_upgrade line.action ≡ false →
    breach_of_line before line t (around_but_higher rows t line b) ≡ breach_of_line before line t (around_but_higher rows t line c)
unfolding breach_of_line
breach-higher None line rows t b c u = on_nothing-higher line.action line rows t b c
breach-higher (Some life) line rows t b c u = on_life-higher line.action life line rows t b c u

abbrev keeps : List Row → ℕ → List Line → Line → Bool
keeps rows t earlier line = not (is_routine line.action) && not (is_upgrade line.action) && not (is_second earlier line) && is_none (breach_of_line (life_at rows line) line t (around_but_higher rows t line true))

both_kept : (u k : Bool) → (not u && k) ≡ cond (not u) k false
both_kept true k = refl
both_kept false k = refl

-- what is kept for the higher row is what is lawful and no UPG
keeps-lawful : (rows : List Row) (t : ℕ) (all earlier : List Line) (line : Line) (r u s : Bool) → is_routine line.action ≡ r → is_upgrade line.action ≡ u → is_second earlier line ≡ s →
    keeps rows t earlier line ≡ (not u && (not r && is_none (breach_in rows t all earlier line)))
keeps-lawful rows t all earlier line true true s p q h = rw p
keeps-lawful rows t all earlier line true false s p q h = rw p
keeps-lawful rows t all earlier line false true s p q h = rw (p, q)
keeps-lawful rows t all earlier line false false true p q h = rw (p, q, h, breach_in-second rows t all earlier line p h)
keeps-lawful rows t all earlier line false false false p q h =
    rw (p, q, h, breach_in-first rows t all earlier line p h) (ap (λ (o : Option Breach). is_none o) (breach-higher (life_at rows line) line rows t true (has_higher rows t all line) q))

put_all-cond : (rows : List Row) (t : ℕ) (line : Line) (lines : List Line) (after : List Row) (u k : Bool) →
    put_all rows t (cond (not u) (cond k (line ∷ lines) lines) lines) after ≡ put_all rows t lines (cond (not u && k) (put (row_after rows t line) after) after)
put_all-cond rows t line lines after true k = refl
put_all-cond rows t line lines after false true = refl
put_all-cond rows t line lines after false false = refl

abbrev others : Line → Bool
others line = not (is_upgrade line.action)

but_upgrades : (rows : List Row) (t : ℕ) (all earlier lines : List Line) (after : List Row) →
    rows_after_all_but_upgrades rows t earlier lines after ≡ put_all rows t (filter others (lawful_of (judged_from rows t all earlier lines))) after
but_upgrades rows t all earlier [] after = refl
but_upgrades rows t all earlier (line ∷ lines) after =
    let kept = not (is_routine line.action) && is_none (breach_in rows t all earlier line) in
    let next = lawful_of (judged_from rows t all (earlier ++ line ∷ []) lines) in
    ap (λ (b : Bool). rows_after_all_but_upgrades rows t (earlier ++ line ∷ []) lines (cond b (put (row_after rows t line) after) after))
    (keeps-lawful rows t all earlier line (is_routine line.action) (is_upgrade line.action) (is_second earlier line) refl refl refl)
    ∙ but_upgrades rows t all (earlier ++ line ∷ []) lines (cond (others line && kept) (put (row_after rows t line) after) after)
    ∙ sym (put_all-cond rows t line (filter others next) after (is_upgrade line.action) kept)
    ∙ sym (ap (λ (ls : List Line). put_all rows t ls after) (filter-cond others line next (others line) kept refl))

pub rows_for_higher-lawful : (rows : List Row) (t : ℕ) (lines : List Line) →
    rows_for_higher rows t lines ≡ end_upgraded lines (put_all rows t (filter others (lawful_of (judged rows t lines))) rows)
rows_for_higher-lawful rows t lines = ap (end_upgraded lines) (but_upgrades rows t lines [] lines rows)
