-- What stands beside a hazard, row by row.
use Rattle.std.proofs.Common.{◌≡◌, ◌≢◌, ◌∙◌, ◌<◌, ℕ, zero, suc, Bool, true, false, List, [], ◌∷◌, length, get_or, drop, map, Option, Some, None, refl, ap, sym, drop-cons, cond, Bor, arith, Contains, IfSome, IfNone}
use Rattle.std.specs.Option.{option_copied}
use Rattle.hazard_types.specs.declared.hazard.Hazard.{Hazard}
use Rattle.hazard_types.specs.Hazards.{DeskHazard, desk_hazards, value_of, facts_of, name_of, fact_rows, name_rows}
use Rattle.hazard_types.specs.Known.{parse_hazard, known_for}
use Rattle.hazard_types.specs.Same.{same_hazard}
use Rattle.hazard_types.specs.declared.desk_hazards.Known.{Known}
use Rattle.hazard_types.specs.declared.desk_hazards.TheConstants.{FACTS}
use Rattle.hazard_types.specs.declared.facts.Facts.{Facts}
use Rattle.hazard_types.proofs.Equality.{hazard_decides}

module _ {X : Type 0} where
  -- the row at this place has the hazard
  pub hit : (rows : List (Known X)) (i : ℕ) (r : Known X) (h : Hazard) → i < length rows → r ≡ get_or rows i r → same_hazard (parse_hazard r) h ≡ true → known_for (drop i rows) h ≡ Some r.value
  hit rows i r h inside is e =
      let front : drop i rows ≡ r ∷ drop (suc i) rows = drop-cons rows i r inside ∙ ap (λ (x : Known X). x ∷ drop (suc i) rows) (sym is) in
      rw (front, e) refl

  -- it has not
  pub miss : (rows : List (Known X)) (i : ℕ) (r : Known X) (h : Hazard) → i < length rows → r ≡ get_or rows i r → same_hazard (parse_hazard r) h ≡ false → known_for (drop i rows) h ≡ known_for (drop (suc i) rows) h
  miss rows i r h inside is e =
      let front : drop i rows ≡ r ∷ drop (suc i) rows = drop-cons rows i r inside ∙ ap (λ (x : Known X). x ∷ drop (suc i) rows) (sym is) in
      ap (λ (rest : List (Known X)). known_for rest h) front ∙ ap (λ b. cond b (Some r.value) (known_for (drop (suc i) rows) h)) e

  -- rows tell what the pairs of their hazards and values do
  pub as_pairs : (rows : List (Known X)) (h : Hazard) → known_for rows h ≡ value_of (map (λ (k : Known X). (parse_hazard k, k.value)) rows) h
  as_pairs [] h = refl
  as_pairs (k ∷ rows) h = ap (λ (rest : Option X). cond (same_hazard (parse_hazard k) h) (Some k.value) rest) (as_pairs rows h)

named_if : (r : Known (Bor (List ℕ))) (rows : List (Known (Bor (List ℕ)))) (h : Hazard) (b : Bool) → option_copied (known_for rows h) ≡ value_of (map (λ (k : Known (Bor (List ℕ))). (parse_hazard k, k.value.now)) rows) h → option_copied (cond b (Some r.value) (known_for rows h)) ≡ cond b (Some r.value.now) (value_of (map (λ (k : Known (Bor (List ℕ))). (parse_hazard k, k.value.now)) rows) h)
named_if r rows h true later = refl
named_if r rows h false later = later

-- a name that is lent is the name beside the hazard
pub named : (rows : List (Known (Bor (List ℕ)))) (h : Hazard) → option_copied (known_for rows h) ≡ value_of (map (λ (k : Known (Bor (List ℕ))). (parse_hazard k, k.value.now)) rows) h
named [] h = refl
named (r ∷ rows) h = named_if r rows h (same_hazard (parse_hazard r) h) (named rows h)

further : (x : DeskHazard) (xs : List DeskHazard) (d : DeskHazard) → Contains xs d → Contains (x ∷ xs) d
further x xs d (k, inside, is) = (suc k, omega arith, is)

some_is : {X : Type 0} {a b : X} → Some a ≡ Some b → a ≡ b
some_is e = cc

module _ {X : Type 0} where
  stands_if : (part : DeskHazard → X) (x : DeskHazard) (xs : List DeskHazard) (h : Hazard) (v : X) (b : Bool) → same_hazard x.hazard h ≡ b →
      (value_of (map (λ (d : DeskHazard). (d.hazard, part d)) xs) h ≡ Some v → (d : DeskHazard) × Contains xs d × (d.hazard ≡ h) × (part d ≡ v)) →
      cond b (Some (part x)) (value_of (map (λ (d : DeskHazard). (d.hazard, part d)) xs) h) ≡ Some v → (d : DeskHazard) × Contains (x ∷ xs) d × (d.hazard ≡ h) × (part d ≡ v)
  stands_if part x xs h v true e later is = (x, (0, omega arith, refl), (hazard_decides x.hazard h).0 e, some_is is)
  stands_if part x xs h v false e later is = let there = later is in (there.0, further x xs there.0 there.1, there.2, there.3)

  -- what is found stands in the table, beside the hazard
  pub stands : (part : DeskHazard → X) (xs : List DeskHazard) (h : Hazard) (v : X) → value_of (map (λ (d : DeskHazard). (d.hazard, part d)) xs) h ≡ Some v → (d : DeskHazard) × Contains xs d × (d.hazard ≡ h) × (part d ≡ v)
  stands part [] h v is = cc
  stands part (x ∷ xs) h v is = stands_if part x xs h v (same_hazard x.hazard h) refl (stands part xs h v) is

  absent_if : (part : DeskHazard → X) (x : DeskHazard) (xs : List DeskHazard) (h : Hazard) (b : Bool) → same_hazard x.hazard h ≡ b →
      (value_of (map (λ (d : DeskHazard). (d.hazard, part d)) xs) h ≡ None → (d : DeskHazard) → Contains xs d → d.hazard ≢ h) →
      cond b (Some (part x)) (value_of (map (λ (d : DeskHazard). (d.hazard, part d)) xs) h) ≡ None → (d : DeskHazard) → Contains (x ∷ xs) d → d.hazard ≢ h
  absent_if part x xs h true e later is d there same = cc
  absent_if part x xs h false e later is d (zero, inside, here) same =
      let yes : same_hazard x.hazard h ≡ true = (hazard_decides x.hazard h).1 (ap (λ (y : DeskHazard). y.hazard) here ∙ same) in
      let no : true ≡ false = sym yes ∙ e in
      cc
  absent_if part x xs h false e later is d (suc k, inside, here) same = later is d (k, omega arith, here) same

  -- where none is found, no record of the table has the hazard
  pub absent : (part : DeskHazard → X) (xs : List DeskHazard) (h : Hazard) → value_of (map (λ (d : DeskHazard). (d.hazard, part d)) xs) h ≡ None → (d : DeskHazard) → Contains xs d → d.hazard ≢ h
  absent part [] h is d (k, inside, here) same = absurd (omega arith)
  absent part (x ∷ xs) h is d there same = absent_if part x xs h (same_hazard x.hazard h) refl (absent part xs h) is d there same

-- what the rows of facts, and those of names, tell is what stands in the table
pub facts_told : (h : Hazard) → known_for FACTS h ≡ facts_of h
unfolding facts_of fact_rows desk_hazards
facts_told h = as_pairs FACTS h

-- what a look-up gives for a hazard, in the words of the table
pub fact_stands : (h : Hazard) (f : Facts) → facts_of h ≡ Some f → (d : DeskHazard) × Contains desk_hazards d × (d.hazard ≡ h) × (d.facts ≡ f)
unfolding facts_of fact_rows
fact_stands h f is = stands (λ d. d.facts) desk_hazards h f is

pub fact_found : (h : Hazard) (facts : Option Facts) → facts ≡ facts_of h → IfSome facts (λ f. (d : DeskHazard) × Contains desk_hazards d × (d.hazard ≡ h) × (d.facts ≡ f))
fact_found h None is = tt
fact_found h (Some f) is = fact_stands h f (sym is)

pub fact_absent : (h : Hazard) (facts : Option Facts) → facts ≡ facts_of h → IfNone facts ((d : DeskHazard) → Contains desk_hazards d → d.hazard ≢ h)
unfolding facts_of fact_rows
fact_absent h None is = absent (λ d. d.facts) desk_hazards h (sym is)
fact_absent h (Some f) is = tt

pub name_stands : (h : Hazard) (name : Option (Bor (List ℕ))) → option_copied name ≡ name_of h → IfSome name (λ n. (d : DeskHazard) × Contains desk_hazards d × (d.hazard ≡ h) × (d.name ≡ n.now))
unfolding name_of name_rows
name_stands h None is = tt
name_stands h (Some n) is = stands (λ d. d.name) desk_hazards h n.now (sym is)

pub name_absent : (h : Hazard) (name : Option (Bor (List ℕ))) → option_copied name ≡ name_of h → IfNone name ((d : DeskHazard) → Contains desk_hazards d → d.hazard ≢ h)
unfolding name_of name_rows
name_absent h None is = absent (λ d. d.name) desk_hazards h (sym is)
name_absent h (Some n) is = tt
