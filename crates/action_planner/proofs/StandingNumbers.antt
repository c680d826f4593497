-- Events whose numbers go on from a count: each is behind those in front of it, and each number up to the last is there.
use Rattle.std.proofs.Common.{◌≡◌, ◌==◌, ℕ, zero, suc, ◌+◌, ◌<◌, ◌≤◌, List, [], ◌∷◌, ◌++◌, Bool, true, false, inl, inr, refl, sym, ap, subst, ◌∙◌, cond, arith}
use Rattle.std.proofs.lemmas.Bool.{and_from, and_parts, and_right, cases_eq, eq-eqb, eqb-true}
use Rattle.std.proofs.lemmas.List.Sums.{sum_by-append, sum_by-cons}
use Rattle.std.specs.List.{AllByRecursion, count_by}
use Rattle.hazard_types.specs.Same.{same_hazard}
use Rattle.hazard_types.specs.declared.hazard.Event.{Event}
use Rattle.hazard_types.specs.declared.hazard.Hazard.{Hazard}
use Rattle.hazard_types.proofs.Equality.{hazard_itself, hazard_one}
use Rattle.event_life.specs.Openings.{counted_from, is_numbered, numbers_of}
use Rattle.action_planner.proofs.LawfulLists.{Has}
use Rattle.action_planner.proofs.LawfulOpenings.{numbers-cons}

-- of numbers counted from one on, the first and the others
counted-cons : (n k m : ℕ) (ns : List ℕ) → m ∷ ns ≡ counted_from n k → (m ≡ n) × ((j : ℕ) × (ns ≡ counted_from (n + 1) j))
counted-cons n zero m ns h = cc
counted-cons n (suc k) m ns h = (cc, (k, cc))

-- events

numbered_itself : (e : Event) → is_numbered e.hazard e.year e ≡ true
numbered_itself e = and_from (same_hazard e.hazard e.hazard) _ (hazard_itself e.hazard) (eq-eqb e.year e.year refl)

event_is : (d e : Event) → d.hazard ≡ e.hazard → d.etn ≡ e.etn → d.year ≡ e.year → d ≡ e
event_is d e h n y = λ i. record { hazard = h i; etn = n i; year = y i }

-- one of a hazard, year and number is the one that has them
numbered_one : (d e : Event) → is_numbered e.hazard e.year d ≡ true → d.etn ≡ e.etn → d ≡ e
numbered_one d e h n =
    let p = and_parts (same_hazard d.hazard e.hazard) _ h in
    event_is d e (hazard_one d.hazard e.hazard p.0) n (eqb-true d.year e.year p.1)

-- where an event stands
parted : (events : List Event) (e : Event) → Has events e → (earlier later : List Event) × (events ≡ earlier ++ e ∷ later)
parted [] e h = absurd h
parted (d ∷ events) e (inl same) = ([], events, ap (λ (x : Event). x ∷ events) same)
parted (d ∷ events) e (inr h) =
    let m = parted events e h in
    (d ∷ m.0, m.1, ap (λ (es : List Event). d ∷ es) m.2)

module _ (h : Hazard) (year : ℕ) where
  -- how many of the events are of the hazard and year
  abbrev many : List Event → ℕ
  many events = count_by (is_numbered h year) events

  many-cons : (e : Event) (events : List Event) → many (e ∷ events) ≡ cond (is_numbered h year e) 1 0 + many events
  many-cons e events = sum_by-cons (λ (x : Event). cond (is_numbered h year x) 1 0) e events

  many-append : (earlier events : List Event) → many (earlier ++ events) ≡ many earlier + many events
  many-append earlier events = sum_by-append (λ (x : Event). cond (is_numbered h year x) 1 0) earlier events

  behind_step : (d e : Event) (earlier later : List Event) (n k : ℕ) (b : Bool) → is_numbered h year d ≡ b →
      cond b (d.etn ∷ numbers_of h year (earlier ++ e ∷ later)) (numbers_of h year (earlier ++ e ∷ later)) ≡ counted_from n k →
      ((m j : ℕ) → numbers_of h year (earlier ++ e ∷ later) ≡ counted_from m j → e.etn ≡ m + many earlier) → e.etn ≡ n + many (d ∷ earlier)
  behind_step d e earlier later n k true own on more =
      let p = counted-cons n k d.etn (numbers_of h year (earlier ++ e ∷ later)) on in
      let rest : e.etn ≡ n + 1 + many earlier = more (n + 1) p.1.0 p.1.1 in
      let count : many (d ∷ earlier) ≡ 1 + many earlier = many-cons d earlier ∙ rw own refl in
      omega (arith, rest, count)
  behind_step d e earlier later n k false own on more =
      let rest : e.etn ≡ n + many earlier = more n k on in
      let count : many (d ∷ earlier) ≡ 0 + many earlier = many-cons d earlier ∙ rw own refl in
      omega (arith, rest, count)

  -- an event's number is behind those in front of it
  behind : (earlier later : List Event) (e : Event) (n k : ℕ) → is_numbered h year e ≡ true → numbers_of h year (earlier ++ e ∷ later) ≡ counted_from n k → e.etn ≡ n + many earlier
  behind [] later e n k own on =
      let first : e.etn ∷ numbers_of h year later ≡ counted_from n k = sym (numbers-cons h year e later ∙ rw own refl) ∙ on in
      let same : e.etn ≡ n = (counted-cons n k e.etn (numbers_of h year later) first).0 in
      omega (arith, same)
  behind (d ∷ earlier) later e n k own on =
      behind_step d e earlier later n k (is_numbered h year d) refl (sym (numbers-cons h year d (earlier ++ e ∷ later)) ∙ on) (λ m j more. behind earlier later e m j own more)

  -- so it is one of them
  within : (events : List Event) (e : Event) (n k : ℕ) → is_numbered h year e ≡ true → numbers_of h year events ≡ counted_from n k → Has events e → (n ≤ e.etn) × (e.etn < n + many events)
  within events e n k own on there =
      let p = parted events e there in
      let earlier : List Event = p.0 in
      let later : List Event = p.1 in
      let same : e.etn ≡ n + many earlier = behind earlier later e n k own (sym (ap (numbers_of h year) p.2) ∙ on) in
      let one : many (e ∷ later) ≡ 1 + many later = many-cons e later ∙ rw own refl in
      let all : many events ≡ many earlier + many (e ∷ later) = ap (λ (es : List Event). many es) p.2 ∙ many-append earlier (e ∷ later) in
      (omega (arith, same), omega (arith, same, one, all))

  -- an event of the hazard and year has this number
  abbrev HasNumber : List Event → ℕ → Type 0
  HasNumber events m = (e : Event) × Has events e × (is_numbered h year e ≡ true) × (e.etn ≡ m)

  later_number : (d : Event) (events : List Event) (m : ℕ) → HasNumber events m → HasNumber (d ∷ events) m
  later_number d events m w = (w.0, inr w.1, w.2, w.3)

  reached_step : (d : Event) (events : List Event) (n k m : ℕ) (b : Bool) → is_numbered h year d ≡ b →
      cond b (d.etn ∷ numbers_of h year events) (numbers_of h year events) ≡ counted_from n k → n ≤ m → m < n + many (d ∷ events) →
      ((i j : ℕ) → numbers_of h year events ≡ counted_from i j → i ≤ m → m < i + many events → HasNumber events m) → HasNumber (d ∷ events) m
  reached_step d events n k m true own on low high more =
      let p = counted-cons n k d.etn (numbers_of h year events) on in
      let count : many (d ∷ events) ≡ 1 + many events = many-cons d events ∙ rw own refl in
      elim (cases_eq n m) as (λ _. HasNumber (d ∷ events) m) [
        | inl same ↦ (d, inl refl, own, p.0 ∙ same)
        | inr other ↦ later_number d events m (more (n + 1) p.1.0 p.1.1 (omega (arith, low, other)) (omega (arith, high, count)))
      ]
  reached_step d events n k m false own on low high more =
      let count : many (d ∷ events) ≡ 0 + many events = many-cons d events ∙ rw own refl in
      later_number d events m (more n k on low (omega (arith, high, count)))

  -- each number up to the last is there
  reached : (events : List Event) (n k m : ℕ) → numbers_of h year events ≡ counted_from n k → n ≤ m → m < n + many events → HasNumber events m
  reached [] n k m on low high = absurd (omega (arith, low, high))
  reached (d ∷ events) n k m on low high =
      reached_step d events n k m (is_numbered h year d) refl (sym (numbers-cons h year d events) ∙ on) low high (λ i j. reached events i j m)

  no_numbers : (y : ℕ) (events : List Event) → AllByRecursion (λ e. e.year ≡ y) events → (y == year) ≡ false → numbers_of h year events ≡ []
  no_numbers y [] all other = refl
  no_numbers y (e ∷ events) all other =
      let apart : is_numbered h year e ≡ false = and_right (same_hazard e.hazard h) _ (ap (λ (z : ℕ). z == year) all.0 ∙ other) in
      numbers-cons h year e events ∙ rw apart (no_numbers y events all.1 other)

-- the numbers of each hazard and year go on from as many as were drawn
abbrev pub GoOn : (Hazard → ℕ → ℕ) → List Event → Type 0
GoOn drawn events = (h : Hazard) (year : ℕ) → (k : ℕ) × (numbers_of h year events ≡ counted_from (drawn h year + 1) k)

go_on_by : (drawn : Hazard → ℕ → ℕ) (events : List Event) (y : ℕ) → AllByRecursion (λ e. e.year ≡ y) events → (h : Hazard) →
    (k : ℕ) × (numbers_of h y events ≡ counted_from (drawn h y + 1) k) → (year : ℕ) (b : Bool) → (y == year) ≡ b → (k : ℕ) × (numbers_of h year events ≡ counted_from (drawn h year + 1) k)
go_on_by drawn events y all h own year true e = subst (λ (z : ℕ). (k : ℕ) × (numbers_of h z events ≡ counted_from (drawn h z + 1) k)) (eqb-true y year e) own
go_on_by drawn events y all h own year false e = (0, no_numbers h year y events all e)

-- events of one year have no numbers in another
pub go_on : (drawn : Hazard → ℕ → ℕ) (events : List Event) (y : ℕ) → AllByRecursion (λ e. e.year ≡ y) events →
    ((h : Hazard) → (k : ℕ) × (numbers_of h y events ≡ counted_from (drawn h y + 1) k)) → GoOn drawn events
go_on drawn events y all own h year = go_on_by drawn events y all h (own h) year (y == year) refl

module _ (drawn : Hazard → ℕ → ℕ) (events : List Event) (on : GoOn drawn events) (e : Event) where
  -- how many of the events are of this one's hazard and year
  abbrev alike : List Event → ℕ
  alike es = count_by (is_numbered e.hazard e.year) es

  pub drawn_behind : (earlier later : List Event) → events ≡ earlier ++ e ∷ later → e.etn ≡ drawn e.hazard e.year + alike earlier + 1
  drawn_behind earlier later parts =
      let o = on e.hazard e.year in
      let same : e.etn ≡ drawn e.hazard e.year + 1 + alike earlier = behind e.hazard e.year earlier later e (drawn e.hazard e.year + 1) o.0 (numbered_itself e) (sym (ap (numbers_of e.hazard e.year) parts) ∙ o.1) in
      omega (arith, same)

  pub drawn_within : Has events e → (drawn e.hazard e.year < e.etn) × (e.etn ≤ drawn e.hazard e.year + alike events)
  drawn_within there =
      let o = on e.hazard e.year in
      let w = within e.hazard e.year events e (drawn e.hazard e.year + 1) o.0 (numbered_itself e) o.1 there in
      (omega (arith, w.0), omega (arith, w.1))

  pub drawn_there : drawn e.hazard e.year < e.etn → e.etn ≤ drawn e.hazard e.year + alike events → Has events e
  drawn_there low high =
      let o = on e.hazard e.year in
      let w = reached e.hazard e.year events (drawn e.hazard e.year + 1) o.0 e.etn o.1 (omega (arith, low)) (omega (arith, high)) in
      subst (λ (x : Event). Has events x) (numbered_one w.0 e w.2 w.3) w.1
