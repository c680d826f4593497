-- The last numbers after one event more, and the gap that it makes.
use Rattle.std.proofs.Common.{◌≡◌, ◌∙◌, ◌==◌, ℕ, zero, suc, ◌+◌, ◌<◌, List, [], ◌∷◌, ◌++◌, Bool, true, false, cond, Ordering, Less, Equal, Greater, Option, Some, unwrap_or, refl, sym, ap, take, drop, drop-cons, length, get_or, append_assoc, arith}
use Rattle.std.proofs.lemmas.Bool.{and_parts, false_from_ne_true, eqb-true, eq-eqb}
use Rattle.std.proofs.lemmas.Cmp.{tied_itself, then_total, on_total, nat_cmp_total}
use Rattle.std.specs.BTreeMap.{insert_entry, is_at}
use Rattle.std.specs.Cmp.{IsTotalOrder}
use Rattle.std.specs.Map.{lookup}
use Rattle.std.specs.Ordering.{is_eq, nat_cmp}
use Rattle.hazard_types.specs.Orders.{by_hazard}
use Rattle.hazard_types.specs.Same.{same_hazard}
use Rattle.hazard_types.specs.declared.hazard.Event.{Event}
use Rattle.hazard_types.proofs.Equality.{hazard_one, hazard_itself}
use Rattle.hazard_types.proofs.OrderLaws.{by_hazard_total, by_hazard_ties, numbers_tied}
use Rattle.event_life.specs.declared.openings.Gap.{Gap}
use Rattle.event_life.specs.declared.openings.Series.{Series}
use Rattle.event_life.specs.Lasts.{series_of, by_series, gap_in, AreLast}
use Rattle.event_life.specs.Openings.{is_numbered, wanted_after, gaps_from}
use Rattle.event_life.proofs.GapsLemmas.{last_of, last_of-push}
use Rattle.event_life.proofs.Keyed.{found_after}
use Rattle.event_life.proofs.Keys.{then_parts}

by_series-total : IsTotalOrder by_series
by_series-total = then_total (on_total (λ (s : Series). s.hazard) by_hazard_total) (on_total (λ (s : Series). s.year) nat_cmp_total)

tied_series : (r s : Series) → by_series r s ≡ Equal → r ≡ s
tied_series r s h =
    let p = then_parts (by_hazard r.hazard s.hazard) (nat_cmp r.year s.year) h in
    let hazards = by_hazard_ties r.hazard s.hazard p.0 in
    let years = numbers_tied r.year s.year p.1 in
    λ i. record { hazard = hazards i; year = years i }

abbrev Lasts : Type 0
Lasts = List (Series × ℕ)

abbrev last_at : Lasts → Series → ℕ
last_at lasts s = unwrap_or (lookup (is_at (by_series s)) lasts) 0

at_itself : (s : Series) → is_at (by_series s) s ≡ true
at_itself s = rw (tied_itself by_series-total s) refl

-- what is held for a hazard and year after a number is set for one
set_last : (q s : Series) (es : Lasts) (n : ℕ) → last_at (insert_entry by_series es s n) q ≡ unwrap_or (cond (is_at (by_series q) s) (Some n) (lookup (is_at (by_series q)) es)) 0
set_last q s es n = ap (λ (o : Option ℕ). unwrap_or o 0) (found_after by_series by_series-total tied_series q s n es)

at_same : (s : Series) (es : Lasts) (n : ℕ) → last_at (insert_entry by_series es s n) s ≡ n
at_same s es n = set_last s s es n ∙ rw (at_itself s) refl

at_other : (q s : Series) (es : Lasts) (n : ℕ) → is_at (by_series q) s ≡ false → last_at (insert_entry by_series es s n) q ≡ last_at es q
at_other q s es n f = set_last q s es n ∙ rw f refl

is_eq-tied : (o : Ordering) → is_eq o ≡ true → o ≡ Equal
is_eq-tied Less h = cc
is_eq-tied Equal h = refl
is_eq-tied Greater h = cc

-- the number of an event is the last of its hazard and year, and the others stay
one_more : (d e : Event) (lasts : Lasts) (here : Bool) → is_numbered d.hazard d.year e ≡ here → last_at (insert_entry by_series lasts (series_of e) e.etn) (series_of d) ≡ cond here e.etn (last_at lasts (series_of d))
one_more d e lasts true h =
    let p = and_parts (same_hazard e.hazard d.hazard) _ h in
    let hazards = hazard_one e.hazard d.hazard p.0 in
    let years = eqb-true e.year d.year p.1 in
    let same : series_of e ≡ series_of d = λ i. record { hazard = hazards i; year = years i } in
    ap (λ (s : Series). last_at (insert_entry by_series lasts s e.etn) (series_of d)) same ∙ at_same (series_of d) lasts e.etn
one_more d e lasts false h =
    let apart : is_at (by_series (series_of d)) (series_of e) ≡ false = false_from_ne_true _ (λ g.
    let same = tied_series (series_of d) (series_of e) (is_eq-tied (by_series (series_of d) (series_of e)) g) in
    let hazards : e.hazard ≡ d.hazard = ap (λ (s : Series). s.hazard) (sym same) in
    let years : e.year ≡ d.year = ap (λ (s : Series). s.year) (sym same) in
    let own : is_numbered d.hazard d.year e ≡ true = rw (hazards, years, hazard_itself d.hazard) (eq-eqb d.year d.year refl) in
    cc) in
    at_other (series_of d) (series_of e) lasts e.etn apart

pub noted : (lasts : Lasts) (earlier : List Event) (e : Event) → AreLast lasts earlier → AreLast (insert_entry by_series lasts (series_of e) e.etn) (earlier ++ e ∷ [])
noted lasts earlier e are d =
    let before : last_at lasts (series_of d) ≡ last_of d.hazard d.year 0 earlier = omega (arith, are d) in
    ap (λ (n : ℕ). 1 + n)
    (one_more d e lasts (is_numbered d.hazard d.year e) refl
    ∙ ap (λ (n : ℕ). cond (is_numbered d.hazard d.year e) e.etn n) before
    ∙ sym (last_of-push d.hazard d.year 0 earlier e))

longer_by : (i : ℕ) (events : List Event) (e : Event) → i < length events → e ≡ get_or events i e → take (suc i) events ≡ take i events ++ e ∷ []
longer_by i [] e within is = absurd (omega (arith, within))
longer_by zero (d ∷ events) e within is = ap (λ (x : Event). x ∷ []) (sym is)
longer_by (suc i) (d ∷ events) e within is = ap (λ (xs : List Event). d ∷ xs) (longer_by i events e (omega (arith, within)) is)

one_longer : (i : ℕ) (events : List Event) (e : Event) → i < length events → e ≡ get_or events i e → take (i + 1) events ≡ take i events ++ e ∷ []
one_longer i events e within is =
    let next : i + 1 ≡ suc i = omega arith in
    ap (λ (k : ℕ). take k events) next ∙ longer_by i events e within is

pub noted_at : (lasts new : Lasts) (events : List Event) (i : ℕ) (e : Event) → i < length events → e ≡ get_or events i e → new ≡ insert_entry by_series lasts (series_of e) e.etn → AreLast lasts (take i events) → AreLast new (take (i + 1) events)
noted_at lasts new events i e within is made are = rw (made, one_longer i events e within is) (noted lasts (take i events) e are)

gap_is : (lasts : Lasts) (earlier : List Event) (e : Event) (rest : List Gap) → AreLast lasts earlier →
    cond (e.etn == wanted_after earlier e) [] (record { event = e; wanted = wanted_after earlier e } ∷ []) ++ rest ≡ gap_in lasts e ++ rest
gap_is lasts earlier e rest are = ap (λ (n : ℕ). cond (e.etn == n) [] (record { event = e; wanted = n } ∷ []) ++ rest) (sym (are e))

pub found_at : (found new : List Gap) (lasts : Lasts) (events : List Event) (i : ℕ) (e : Event) (all : List Gap) → i < length events → e ≡ get_or events i e → AreLast lasts (take i events) → new ≡ found ++ gap_in lasts e →
    found ++ gaps_from (take i events) (drop i events) ≡ all → new ++ gaps_from (take (i + 1) events) (drop (i + 1) events) ≡ all
found_at found new lasts events i e all within is are made h =
    let next : suc i ≡ i + 1 = omega arith in
    let cut : drop i events ≡ e ∷ drop (i + 1) events = drop-cons events i e within ∙ ap (λ (x : Event). x ∷ drop (suc i) events) (sym is) ∙ ap (λ (k : ℕ). e ∷ drop k events) next in
    let longer = one_longer i events e within is in
    ap (λ (gaps : List Gap). gaps ++ gaps_from (take (i + 1) events) (drop (i + 1) events)) made
    ∙ append_assoc found (gap_in lasts e) (gaps_from (take (i + 1) events) (drop (i + 1) events))
    ∙ ap (λ (gaps : List Gap). found ++ gaps) (ap (λ (earlier : List Event). gap_in lasts e ++ gaps_from earlier (drop (i + 1) events)) longer ∙ sym (gap_is lasts (take i events) e (gaps_from (take i events ++ e ∷ []) (drop (i + 1) events)) are))
    ∙ ap (λ (rest : List Event). found ++ gaps_from (take i events) rest) (sym cut)
    ∙ h

pub none_noted : AreLast [] []
none_noted e = refl
