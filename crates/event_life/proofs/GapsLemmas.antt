-- Numbers without gaps: no gap is found exactly where the numbers of each hazard and year are 1, 2, .., k.
use Rattle.std.proofs.Common.{◌≡◌, ◌↔◌, ◌==◌, ℕ, zero, suc, ◌+◌, List, [], ◌∷◌, ◌++◌, Bool, true, false, refl, sym, ap, ◌∙◌, cond, map, fold, arith}
use Rattle.std.specs.List.{filter}
use Rattle.std.proofs.lemmas.Bool.{and_parts, eqb-true, eq-eqb}
use Rattle.hazard_types.specs.Same.{same_hazard}
use Rattle.hazard_types.specs.declared.hazard.Event.{Event}
use Rattle.hazard_types.specs.declared.hazard.Hazard.{Hazard}
use Rattle.hazard_types.proofs.Equality.{hazard_one, hazard_itself}
use Rattle.event_life.specs.Products.{Product}
use Rattle.event_life.specs.Openings.{opened_of, is_numbered, numbers_of, counted_from, IsGapless, Gap, wanted_after, gaps_from, gaps_of}

abbrev later : ℕ → ℕ → ℕ
later last n = n

-- the last of these numbers, or what was before
abbrev pub last_of : Hazard → ℕ → ℕ → List Event → ℕ
last_of h year before events = fold later before (numbers_of h year events)

map-cond : {A B : Type 0} (f : A → B) (b : Bool) (x : A) (xs : List A) → map f (cond b (x ∷ xs) xs) ≡ cond b (f x ∷ map f xs) (map f xs)
map-cond f true x xs = refl
map-cond f false x xs = refl

fold-cond : (b : Bool) (before n : ℕ) (ns : List ℕ) → fold later before (cond b (n ∷ ns) ns) ≡ fold later (cond b n before) ns
fold-cond true before n ns = refl
fold-cond false before n ns = refl

module _ (h : Hazard) (year : ℕ) where
  numbers_of-cons : (e : Event) (events : List Event) → numbers_of h year (e ∷ events) ≡ cond (is_numbered h year e) (e.etn ∷ numbers_of h year events) (numbers_of h year events)
  numbers_of-cons e events = map-cond (λ (e : Event). e.etn) (is_numbered h year e) e (filter (is_numbered h year) events)

  last_of-cons : (before : ℕ) (e : Event) (events : List Event) → last_of h year before (e ∷ events) ≡ last_of h year (cond (is_numbered h year e) e.etn before) events
  last_of-cons before e events = ap (λ (ns : List ℕ). fold later before ns) (numbers_of-cons e events) ∙ fold-cond (is_numbered h year e) before e.etn (numbers_of h year events)

  pub last_of-push : (before : ℕ) (events : List Event) (e : Event) → last_of h year before (events ++ e ∷ []) ≡ cond (is_numbered h year e) e.etn (last_of h year before events)
  last_of-push before [] e = last_of-cons before e []
  last_of-push before (x ∷ events) e =
      last_of-cons before x (events ++ e ∷ [])
      ∙ last_of-push (cond (is_numbered h year x) x.etn before) events e
      ∙ ap (λ (n : ℕ). cond (is_numbered h year e) e.etn n) (sym (last_of-cons before x events))

-- the numbers of each hazard and year go on behind those of the earlier events
abbrev GoesOnFrom : List Event → List Event → Type 0
GoesOnFrom earlier events = (h : Hazard) (year : ℕ) → (k : ℕ) × (numbers_of h year events ≡ counted_from (1 + last_of h year 0 earlier) k)

is_numbered-parts : (h : Hazard) (year : ℕ) (e : Event) → is_numbered h year e ≡ true → (e.hazard ≡ h) × (e.year ≡ year)
is_numbered-parts h year e p =
    let q = and_parts (same_hazard e.hazard h) _ p in
    (hazard_one e.hazard h q.0, eqb-true e.year year q.1)

is_numbered-itself : (e : Event) → is_numbered e.hazard e.year e ≡ true
is_numbered-itself e = rw (hazard_itself e.hazard) (eq-eqb e.year e.year refl)

-- one event more in front

front_step : (earlier : List Event) (e : Event) (events : List Event) (h : Hazard) (year : ℕ) (b : Bool) → is_numbered h year e ≡ b → e.etn ≡ wanted_after earlier e →
    (k : ℕ) × (numbers_of h year events ≡ counted_from (1 + cond b e.etn (last_of h year 0 earlier)) k) →
    (k : ℕ) × (cond b (e.etn ∷ numbers_of h year events) (numbers_of h year events) ≡ counted_from (1 + last_of h year 0 earlier) k)
front_step earlier e events h year true p wanted more =
    let parts = is_numbered-parts h year e p in
    let first : e.etn ≡ 1 + last_of h year 0 earlier = rw (parts.0, parts.1) at wanted in
    let next : 1 + e.etn ≡ (1 + last_of h year 0 earlier) + 1 = omega arith in
    let rest = rw next at more.1 in
    (suc more.0, rw (first, rest))
front_step earlier e events h year false p wanted more = more

back_step : (earlier : List Event) (e : Event) (events : List Event) (h : Hazard) (year : ℕ) (b : Bool) →
    (k : ℕ) → (cond b (e.etn ∷ numbers_of h year events) (numbers_of h year events) ≡ counted_from (1 + last_of h year 0 earlier) k) →
    (k : ℕ) × (numbers_of h year events ≡ counted_from (1 + cond b e.etn (last_of h year 0 earlier)) k)
back_step earlier e events h year true zero more = cc
back_step earlier e events h year true (suc k) more =
    let first : e.etn ≡ 1 + last_of h year 0 earlier = cc in
    let rest : numbers_of h year events ≡ counted_from ((1 + last_of h year 0 earlier) + 1) k = cc in
    let next : (1 + last_of h year 0 earlier) + 1 ≡ 1 + e.etn = omega arith in
    (k, rw next at rest)
back_step earlier e events h year false k more = (k, more)

gaps-cond : (b : Bool) (gap : Gap) (gaps : List Gap) → cond b [] (gap ∷ []) ++ gaps ≡ [] → (b ≡ true) × (gaps ≡ [])
gaps-cond true gap gaps h = (refl, h)
gaps-cond false gap gaps h = cc

goes_on : (earlier events : List Event) → gaps_from earlier events ≡ [] → GoesOnFrom earlier events
goes_on earlier [] g h year = (0, refl)
goes_on earlier (e ∷ events) g h year =
    let parts = gaps-cond (e.etn == wanted_after earlier e) (record { event = e; wanted = wanted_after earlier e }) (gaps_from (earlier ++ e ∷ []) events) g in
    let wanted = eqb-true e.etn (wanted_after earlier e) parts.0 in
    let more = goes_on (earlier ++ e ∷ []) events parts.1 h year in
    let step = front_step earlier e events h year (is_numbered h year e) refl wanted (more.0, rw (last_of-push h year 0 earlier e) at more.1) in
    (step.0, numbers_of-cons h year e events ∙ step.1)

first_counted : (n m k : ℕ) (ns : List ℕ) → n ∷ ns ≡ counted_from m k → n ≡ m
first_counted n m zero ns h = cc
first_counted n m (suc k) ns h = cc

no_gaps : (earlier events : List Event) → GoesOnFrom earlier events → gaps_from earlier events ≡ []
no_gaps earlier [] on = refl
no_gaps earlier (e ∷ events) on =
    let own = on e.hazard e.year in
    let all : e.etn ∷ numbers_of e.hazard e.year events ≡ counted_from (wanted_after earlier e) own.0 =
    sym (numbers_of-cons e.hazard e.year e events ∙ ap (λ (b : Bool). cond b (e.etn ∷ numbers_of e.hazard e.year events) (numbers_of e.hazard e.year events)) (is_numbered-itself e)) ∙ own.1 in
    let wanted = first_counted e.etn (wanted_after earlier e) own.0 (numbers_of e.hazard e.year events) all in
    let more : GoesOnFrom (earlier ++ e ∷ []) events = λ h year.
    let o = on h year in
    let step = back_step earlier e events h year (is_numbered h year e) o.0 (sym (numbers_of-cons h year e events) ∙ o.1) in
    (step.0, rw (last_of-push h year 0 earlier e) step.1) in
    rw (eq-eqb e.etn (wanted_after earlier e) wanted) (no_gaps (earlier ++ e ∷ []) events more)

-- no gap is found exactly where the opened numbers of each hazard and year are 1, 2, .., k
pub gapless_exactly : (products : List Product) → IsGapless (opened_of products) ↔ (gaps_of products ≡ [])
gapless_exactly products = (no_gaps [] (opened_of products), goes_on [] (opened_of products))
