-- Runs of one line each, with one line more.
use Rattle.std.proofs.Common.{arith, drop, drop-cons, get_or, length, suc, ◌+◌, ◌<◌, ℕ, Bool, map, ◌≡◌, ◌∙◌, ◌++◌, ◌&&◌, List, [], ◌∷◌, true, false, Option, Some, None, append_assoc, append-nil, refl, ap, sym, subst, rules}
use Rattle.std.specs.Prelude.{option_map}
use Rattle.std.specs.Option.{option_eq}
use Rattle.std.specs.List.{AllByRecursion}
use Rattle.std.proofs.lemmas.Bool.{and_parts}
use Rattle.std.proofs.lemmas.Grind.{flat_map-append}
use Rattle.hazard_types.specs.Places.{Place}
use Rattle.hazard_types.specs.declared.line.Line.{Line}
use Rattle.hazard_types.specs.declared.line.Row.{Row}
use Rattle.hazard_types.proofs.Equality.{line_one}
use Rattle.event_life.specs.contracts.life.Breach as breach_type
use Rattle.event_life.specs.contracts.life.BreachPartialEq.TheImpl as breach
use Rattle.event_life.specs.declared.life.Breach.{Breach}
use Rattle.event_life.specs.declared.life.Life.{Life}
use Rattle.event_life.specs.Products.{life_at, life_of, row_at}
use Rattle.row_index.specs.Holding.{AreRowsOf}
use Rattle.row_index.specs.Pending.{further, run_of, same_verdict, with_last, IsJoined, IsWith}
use Rattle.row_index.specs.Runs.{in_zone, same_life}
use Rattle.row_index.specs.Verdicts.{expand, expand_at, expand_run, AreApart, AreFound, HaveOwnEvents, IsFound, IsFoundAt, Judged}
use Rattle.row_index.specs.declared.collecting.Alone.{Alone}
use Rattle.row_index.specs.declared.verdicts.Run.{Run}
use Rattle.row_index.specs.declared.verdicts.Verdict.{Verdict}
use Rattle.row_index.proofs.Runs.{lives_one}
use denote.Enum.Bare.{same_true}

breach_one : (a b : Breach) → breach.eq-value.it a b ≡ true → a ≡ b
breach_one a b h = same_true breach_type.the_type (search rules) a b h

breaches_one : (a b : Option Breach) → option_eq breach.eq-value.it a b ≡ true → a ≡ b
breaches_one None None h = refl
breaches_one (Some x) (Some y) h = ap (λ (b : Breach). Some b) (breach_one x y h)
breaches_one (Some x) None h = cc
breaches_one None (Some y) h = cc

-- what two lines have in common

pub record IsSame (a b : Verdict) : Type 0 where
  pub line : in_zone a.line b.line.zone ≡ b.line
  pub found : a.found ≡ b.found
  pub breach : a.breach ≡ b.breach

same_is : (a b : Verdict) → same_verdict a b ≡ true → IsSame a b
same_is a b h =
    let p = and_parts (same_life a.found b.found && option_eq breach.eq-value.it a.breach b.breach) _ h in
    let q = and_parts (same_life a.found b.found) _ p.0 in
    record {
      line = line_one (in_zone a.line b.line.zone) b.line p.1;
      found = lives_one a.found b.found q.0;
      breach = breaches_one a.breach b.breach q.1;
    }

-- all of a list and one more

all_more : {X : Type 0} (P : X → Type 0) (xs : List X) (x : X) → AllByRecursion P xs → P x → AllByRecursion P (xs ++ x ∷ [])
all_more P [] x all h = (h, tt)
all_more P (y ∷ xs) x all h = (all.0, all_more P xs x all.1 h)

all_front : {X : Type 0} (P : X → Type 0) (xs : List X) (x : X) → AllByRecursion P (xs ++ x ∷ []) → AllByRecursion P xs × P x
all_front P [] x all = (tt, all.0)
all_front P (y ∷ xs) x all = let rest = all_front P xs x all.1 in ((all.0, rest.0), rest.1)

spelled_more : (runs : List Run) (r : Run) → expand (runs ++ r ∷ []) ≡ expand runs ++ expand_run r
spelled_more runs r = flat_map-append (λ (r : Run). expand_run r) runs (r ∷ []) ∙ ap (λ (rest : List Judged). expand runs ++ rest) (append-nil (expand_run r))

abbrev Apart : Run → Type 0
Apart r = HaveOwnEvents (map (λ (v : Verdict). v.line) r.verdicts)

-- a zone more of the last run
module _ (v : Verdict) (runs : List Run) (a : Alone) (same : IsSame a.verdict v) where
  told_further : expand_run (run_of (further a v)) ≡ expand_run (run_of a) ++ (v.line, v.breach) ∷ []
  told_further =
      flat_map-append (expand_at (a.verdict ∷ [])) a.zones (v.line.zone ∷ [])
      ∙ (λ i. expand_run (run_of a) ++ (same.line i, same.breach i) ∷ [])

  told_with : expand (runs ++ run_of (further a v) ∷ []) ≡ expand (runs ++ run_of a ∷ []) ++ (v.line, v.breach) ∷ []
  told_with =
      spelled_more runs (run_of (further a v))
      ∙ ap (λ (rest : List Judged). expand runs ++ rest) told_further
      ∙ sym (append_assoc (expand runs) (expand_run (run_of a)) ((v.line, v.breach) ∷ []))
      ∙ ap (λ (front : List Judged). front ++ (v.line, v.breach) ∷ []) (sym (spelled_more runs (run_of a)))

  found_with : (rows : List Row) → life_at rows v.line ≡ v.found → AreFound rows (runs ++ run_of a ∷ []) → AreFound rows (runs ++ run_of (further a v) ∷ [])
  found_with rows h found =
      let parts = all_front (IsFound rows) runs (run_of a) found in
      let one : life_at rows (in_zone a.verdict.line v.line.zone) ≡ a.verdict.found = ap (λ (l : Line). life_at rows l) same.line ∙ h ∙ sym same.found in
      all_more (IsFound rows) runs (run_of (further a v)) parts.0 (all_more (λ (z : Place). AllByRecursion (IsFoundAt rows z) (a.verdict ∷ [])) a.zones v.line.zone parts.1 (one, tt))

  apart_with : AreApart (runs ++ run_of a ∷ []) → AreApart (runs ++ run_of (further a v) ∷ [])
  apart_with apart = all_more Apart runs (run_of (further a v)) (all_front Apart runs (run_of a) apart).0 (tt, tt)

  with_further : IsWith v (runs ++ run_of a ∷ []) (runs ++ run_of (further a v) ∷ [])
  with_further = record { told = told_with; found = found_with; apart = apart_with }

-- the line comes to the pending run
pub with_joined : (joined : Bool) (v : Verdict) (runs : List Run) (old new : Option Alone) → joined ≡ true → IsJoined joined v old new → IsWith v (with_last runs old) (with_last runs new)
with_joined true v runs old new h is =
    subst (λ (o : Option Alone). IsWith v (with_last runs o) (with_last runs new)) (sym is.1)
    (subst (λ (n : Option Alone). IsWith v (runs ++ run_of is.0 ∷ []) (with_last runs n)) (sym is.3) (with_further v runs is.0 (same_is is.0.verdict v is.2)))
with_joined false v runs old new h is = cc

-- the life that a line found
pub found_life : (rows part : List Row) (line : Line) (life : Option Life) → AreRowsOf rows line.event part → life ≡ option_map life_of (row_at part line.event line.zone) → life_at rows line ≡ life
found_life rows part line life of life_is = ap (λ (o : Option Row). option_map life_of o) (of.found line.zone) ∙ sym life_is

-- one line more
pub told_next : (judged : List Judged) (i : ℕ) (j : Judged) (old new all : List Judged) → i < length judged → j ≡ get_or judged i j → new ≡ old ++ j ∷ [] → old ++ drop i judged ≡ all → new ++ drop (i + 1) judged ≡ all
told_next judged i j old new all within is new_is sofar =
    let after : suc i ≡ i + 1 = omega arith in
    let cut : drop i judged ≡ j ∷ drop (i + 1) judged =
    drop-cons judged i j within ∙ ap (λ (y : Judged). y ∷ drop (suc i) judged) (sym is) ∙ ap (λ (k : ℕ). j ∷ drop k judged) after in
    ap (λ (front : List Judged). front ++ drop (i + 1) judged) new_is
    ∙ append_assoc old (j ∷ []) (drop (i + 1) judged)
    ∙ ap (λ (rest : List Judged). old ++ rest) (sym cut)
    ∙ sofar
