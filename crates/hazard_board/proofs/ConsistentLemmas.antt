-- Consistent rows stay consistent at later minutes.
use Rattle.std.proofs.Common.{◌≡◌, ◌&&◌, not, ℕ, ◌≤◌, List, [], ◌∷◌, Bool, true, arith}
use Rattle.std.specs.List.{AllByRecursion}
use Rattle.std.proofs.lemmas.Bool.{and_parts}
use Rattle.std.proofs.lemmas.Bool.Decides.{nat_tests}
use Rattle.hazard_types.specs.Same.{same_hazard}
use Rattle.hazard_types.specs.declared.line.Row.{Row}
use Rattle.hazard_types.specs.declared.period.End.{End}
use Rattle.hazard_types.specs.declared.period.End.TheVariants.{At, Ufn}
use Rattle.event_life.specs.Periods.{is_not_long_past, keeps_open}
use Rattle.hazard_board.specs.Consistent.{share_number, EachToLater, IsConsistent}

both_hold : (a b : Bool) → a ≡ true → b ≡ true → (a && b) ≡ true
both_hold a b p q = cc

was_within : (end : End) (t u : ℕ) → t ≤ u → is_not_long_past end u ≡ true → is_not_long_past end t ≡ true
was_within (At m) t u le h = grind (arith, nat_tests)
was_within Ufn t u le h = h

was_open : (row : Row) (t u : ℕ) → t ≤ u → keeps_open u row ≡ true → keeps_open t row ≡ true
was_open row t u le h =
    let p = and_parts (not row.ended) _ h in
    both_hold _ _ p.0 (was_within row.period.end t u le p.1)

shared_before : (a b : Row) (t u : ℕ) → t ≤ u → share_number u a b ≡ true → share_number t a b ≡ true
shared_before a b t u le h =
    let p = and_parts (keeps_open u a && keeps_open u b && same_hazard a.event.hazard b.event.hazard) _ h in
    let q = and_parts (keeps_open u a && keeps_open u b) _ p.0 in
    let r = and_parts (keeps_open u a) _ q.0 in
    both_hold _ _ (both_hold _ _ (both_hold _ _ (was_open a t u le r.0) (was_open b t u le r.1)) q.1) p.1

all_still : (P Q : Row → Type 0) → ((r : Row) → P r → Q r) → (rows : List Row) → AllByRecursion P rows → AllByRecursion Q rows
all_still P Q each [] all = tt
all_still P Q each (r ∷ rows) all = (each r all.0, all_still P Q each rows all.1)

each_still : (P Q : Row → Row → Type 0) → ((a b : Row) → P a b → Q a b) → (rows : List Row) → EachToLater P rows → EachToLater Q rows
each_still P Q each [] all = tt
each_still P Q each (r ∷ rows) all = (all_still (P r) (Q r) (each r) rows all.0, each_still P Q each rows all.1)

pub stays_consistent : (rows : List Row) (t u : ℕ) → t ≤ u → IsConsistent rows t → IsConsistent rows u
stays_consistent rows t u le h = record {
  apart = h.apart;
  numbered = each_still (λ a b. share_number t a b ≡ true → a.event ≡ b.event) (λ a b. share_number u a b ≡ true → a.event ≡ b.event) (λ a b same shared. same (shared_before a b t u le shared)) rows h.numbered;
  ends = h.ends;
}
