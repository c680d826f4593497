-- Events in order, and their numbers: those of a hazard and year rise, so that what they are tells which list they are.
use Rattle.std.proofs.Common.{◌≡◌, ◌∙◌, ◌&&◌, inl, inr, ℕ, zero, suc, ◌+◌, ◌<◌, ◌≤◌, length, arith, List, [], ◌∷◌, Ordering, Less, Equal, Greater, Bool, true, false, refl, sym, ap, subst, cond, map, nat_le}
use Rattle.std.proofs.lemmas.Bool.{and_from, cases_eq, or_parts, and_parts, both_ways, eq-eqb, eqb-true, le-leb, leb-true}
use Rattle.std.proofs.lemmas.Cmp.{nat_cmp_total, ranked, tied_itself}
use Rattle.std.specs.List.{AllByRecursion, list_any}
use Rattle.std.specs.List.Sorted.{IsStrictlySortedBy}
use Rattle.std.specs.Ordering.{nat_cmp, ordering_then}
use Rattle.hazard_types.specs.Orders.{by_event, by_hazard}
use Rattle.hazard_types.specs.Same.{same_event, same_hazard}
use Rattle.hazard_types.specs.declared.hazard.Event.{Event}
use Rattle.hazard_types.specs.declared.hazard.Hazard.{Hazard}
use Rattle.hazard_types.specs.declared.line.Line.{Line}
use Rattle.hazard_types.specs.declared.line.Row.{Row}
use Rattle.hazard_types.proofs.Equality.{event_itself, event_one, hazard_itself, hazard_one}
use Rattle.hazard_types.proofs.OrderLaws.{by_event_ties, by_hazard_total}
use Rattle.event_life.specs.Openings.{add_event, counted_from, event_placed, is_numbered, numbers_of, events_opened_by}
use Rattle.event_life.specs.Products.{has_rows, is_new}
use Rattle.event_life.proofs.OnceLemmas.{add_event-every, add_event-up, events_opened_by-every, events_opened_by-up}
use Rattle.event_numbers.specs.declared.Count.{Count}
use Rattle.event_numbers.specs.Counts.{count_of}
use Rattle.action_planner.specs.Conditions.{AreNumbered}
use Rattle.action_planner.specs.Told.{count_among, counts_in, events_in}
use Rattle.action_planner.proofs.LawfulLists.{Has, all_has, any_has, every, has_any}
use Rattle.action_planner.proofs.LawfulOpenings.{numbers-cons}

-- ---- one event more

stays_placed : (e d : Event) (events : List Event) (o : Ordering) (x : Event) → Has (d ∷ events) x → (Has events x → Has (add_event e events) x) → Has (event_placed o e d events (add_event e events)) x
stays_placed e d events Less x h more = inr h
stays_placed e d events Equal x h more = h
stays_placed e d events Greater x (inl same) more = inl same
stays_placed e d events Greater x (inr h) more = inr (more h)

stays : (e : Event) (events : List Event) (x : Event) → Has events x → Has (add_event e events) x
stays e [] x h = absurd h
stays e (d ∷ events) x h = stays_placed e d events (by_event e d) x h (stays e events x)

placed_there : (e d : Event) (events : List Event) (o : Ordering) → by_event e d ≡ o → Has (add_event e events) e → Has (event_placed o e d events (add_event e events)) e
placed_there e d events Less is more = inl refl
placed_there e d events Equal is more = inl (sym (by_event_ties e d is))
placed_there e d events Greater is more = inr more

added : (e : Event) (events : List Event) → Has (add_event e events) e
added e [] = inl refl
added e (d ∷ events) = placed_there e d events (by_event e d) refl (added e events)

-- ---- the events of NEW lines

module _ (lines : List Line) where
  -- a NEW line is of the event
  abbrev pub IsOpenedBy : Event → Type 0
  IsOpenedBy e = (l : Line) × Has lines l × (is_new l.action ≡ true) × (l.event ≡ e)

  pub opened_from : (e : Event) → Has (events_opened_by lines) e → IsOpenedBy e
  opened_from e h =
      all_has IsOpenedBy (events_opened_by lines) e
      (events_opened_by-every IsOpenedBy lines (every (λ (l : Line). is_new l.action ≡ true → IsOpenedBy l.event) lines (λ l g n. (l, g, n, refl)))) h

opened_step : (line : Line) (lines : List Line) (b : Bool) (l : Line) → is_new line.action ≡ b → Has (line ∷ lines) l → is_new l.action ≡ true → (Has lines l → Has (events_opened_by lines) l.event) → Has (cond b (add_event line.event (events_opened_by lines)) (events_opened_by lines)) l.event
opened_step line lines true l is (inl same) n more = subst (λ (x : Line). Has (add_event line.event (events_opened_by lines)) x.event) same (added line.event (events_opened_by lines))
opened_step line lines true l is (inr h) n more = stays line.event (events_opened_by lines) l.event (more h)
opened_step line lines false l is (inl same) n more = absurd (both_ways _ is (ap (λ (x : Line). is_new x.action) same ∙ n))
opened_step line lines false l is (inr h) n more = more h

pub opened_to : (lines : List Line) (l : Line) → Has lines l → is_new l.action ≡ true → Has (events_opened_by lines) l.event
opened_to [] l h n = absurd h
opened_to (line ∷ lines) l h n = opened_step line lines (is_new line.action) l refl h n (λ g. opened_to lines l g n)

-- ---- the events that have rows

events_from : (rows : List Row) (e : Event) → Has (events_in rows) e → has_rows rows e ≡ true
events_from rows e h = all_has (λ (x : Event). has_rows rows x ≡ true) (events_in rows) e (in_rows rows rows (λ r g. g)) h
  where
    in_rows : (all some : List Row) → ((r : Row) → Has some r → Has all r) → AllByRecursion (λ (x : Event). has_rows all x ≡ true) (events_in some)
    in_rows all [] within = tt
    in_rows all (r ∷ some) within =
        add_event-every (λ (x : Event). has_rows all x ≡ true) r.event (events_in some) (any_has (λ (s : Row). same_event s.event r.event) all r (within r (inl refl)) (event_itself r.event)) (in_rows all some (λ s g. within s (inr g)))

has_event : (rows : List Row) (r : Row) → Has rows r → Has (events_in rows) r.event
has_event [] r h = absurd h
has_event (s ∷ rows) r (inl same) = subst (λ (x : Row). Has (add_event s.event (events_in rows)) x.event) same (added s.event (events_in rows))
has_event (s ∷ rows) r (inr h) = stays s.event (events_in rows) r.event (has_event rows r h)

events_to : (rows : List Row) (e : Event) → has_rows rows e ≡ true → Has (events_in rows) e
events_to rows e h =
    let m = has_any (λ (r : Row). same_event r.event e) rows h in
    subst (λ (x : Event). Has (events_in rows) x) (event_one m.0.event e m.2) (has_event rows m.0 m.1)

events_up : (rows : List Row) → IsStrictlySortedBy by_event (events_in rows)
unfolding IsStrictlySortedBy
events_up [] = tt
events_up (r ∷ rows) = add_event-up r.event (events_in rows) (events_up rows)

-- ---- numbers that rise

abbrev Rise : List ℕ → Type 0
Rise [] = Unit {0}
Rise (n ∷ ns) = AllByRecursion (λ m. n < m) ns × Rise ns

nat_less : (m n : ℕ) → nat_cmp m n ≡ Less → m < n
nat_less m n h = ranked m n Less (sym h)

-- events of one hazard and year are in the order of their numbers
etn_less : (d e : Event) → d.hazard ≡ e.hazard → d.year ≡ e.year → by_event d e ≡ Less → d.etn < e.etn
etn_less d e hazard year less =
    let tied : by_hazard d.hazard e.hazard ≡ Equal = ap (by_hazard d.hazard) (sym hazard) ∙ tied_itself by_hazard_total d.hazard in
    let rest : ordering_then (nat_cmp d.etn e.etn) (nat_cmp d.year e.year) ≡ Less = sym (ap (λ (o : Ordering). ordering_then o (ordering_then (nat_cmp d.etn e.etn) (nat_cmp d.year e.year))) tied) ∙ less in
    by_year (nat_cmp d.etn e.etn) refl rest
  where
    by_year : (o : Ordering) → nat_cmp d.etn e.etn ≡ o → ordering_then o (nat_cmp d.year e.year) ≡ Less → d.etn < e.etn
    by_year Less is h = nat_less d.etn e.etn is
    by_year Equal is h = let same : nat_cmp d.year e.year ≡ Equal = ap (nat_cmp d.year) (sym year) ∙ tied_itself nat_cmp_total d.year in cc
    by_year Greater is h = cc

numbered_parts : (h : Hazard) (year : ℕ) (e : Event) → is_numbered h year e ≡ true → (e.hazard ≡ h) × (e.year ≡ year)
numbered_parts h year e n = let p = and_parts (same_hazard e.hazard h) _ n in (hazard_one e.hazard h p.0, eqb-true e.year year p.1)

numbered_from_parts : (h : Hazard) (year : ℕ) (e : Event) → e.hazard ≡ h → e.year ≡ year → is_numbered h year e ≡ true
numbered_from_parts h year e hazard y = and_from _ _ (ap (same_hazard e.hazard) (sym hazard) ∙ hazard_itself e.hazard) (eq-eqb e.year year y)

module _ (h : Hazard) (year : ℕ) where
  -- an event of the hazard and year has the number
  abbrev pub HasNumber : List Event → ℕ → Type 0
  HasNumber events m = (e : Event) × Has events e × (is_numbered h year e ≡ true) × (e.etn ≡ m)

  number_step : (e : Event) (events : List Event) (m : ℕ) (b : Bool) → is_numbered h year e ≡ b → Has (cond b (e.etn ∷ numbers_of h year events) (numbers_of h year events)) m → (Has (numbers_of h year events) m → HasNumber events m) → HasNumber (e ∷ events) m
  number_step e events m true is (inl same) more = (e, inl refl, is, same)
  number_step e events m true is (inr g) more = let w = more g in (w.0, inr w.1, w.2, w.3)
  number_step e events m false is g more = let w = more g in (w.0, inr w.1, w.2, w.3)

  pub number_from : (events : List Event) (m : ℕ) → Has (numbers_of h year events) m → HasNumber events m
  number_from [] m g = absurd g
  number_from (e ∷ events) m g = number_step e events m (is_numbered h year e) refl (subst (λ (ns : List ℕ). Has ns m) (numbers-cons h year e events) g) (number_from events m)

  to_step : (d : Event) (events : List Event) (e : Event) (b : Bool) → is_numbered h year d ≡ b → Has (d ∷ events) e → is_numbered h year e ≡ true → (Has events e → Has (numbers_of h year events) e.etn) → Has (cond b (d.etn ∷ numbers_of h year events) (numbers_of h year events)) e.etn
  to_step d events e true is (inl same) n more = inl (ap (λ (x : Event). x.etn) same)
  to_step d events e true is (inr g) n more = inr (more g)
  to_step d events e false is (inl same) n more = absurd (both_ways _ is (ap (is_numbered h year) same ∙ n))
  to_step d events e false is (inr g) n more = more g

  pub number_to : (events : List Event) (e : Event) → Has events e → is_numbered h year e ≡ true → Has (numbers_of h year events) e.etn
  number_to [] e g n = absurd g
  number_to (d ∷ events) e g n = subst (λ (ns : List ℕ). Has ns e.etn) (sym (numbers-cons h year d events)) (to_step d events e (is_numbered h year d) refl g n (λ k. number_to events e k n))

  rise_step : (e : Event) (events : List Event) (b : Bool) → is_numbered h year e ≡ b → AllByRecursion (λ y. by_event e y ≡ Less) events → Rise (numbers_of h year events) → Rise (cond b (e.etn ∷ numbers_of h year events) (numbers_of h year events))
  rise_step e events true is above rest = (
    every (λ m. e.etn < m) (numbers_of h year events) (λ m g.
        let w = number_from events m g in
        let p = numbered_parts h year e is in
        let q = numbered_parts h year w.0 w.2 in
        subst (λ n. e.etn < n) w.3 (etn_less e w.0 (p.0 ∙ sym q.0) (p.1 ∙ sym q.1) (all_has (λ y. by_event e y ≡ Less) events w.0 above w.1))),
    rest,
  )
  rise_step e events false is above rest = rest

  pub numbers_rise : (events : List Event) → IsStrictlySortedBy by_event events → Rise (numbers_of h year events)
  unfolding IsStrictlySortedBy
  numbers_rise [] up = tt
  numbers_rise (e ∷ events) up = subst Rise (sym (numbers-cons h year e events)) (rise_step e events (is_numbered h year e) refl up.0 (numbers_rise events up.1))

-- rising numbers that are those from n on, so many, are these

pub counted_has : (n k m : ℕ) → Has (counted_from n k) m → (n ≤ m) × (m < n + k)
counted_has n zero m h = absurd h
counted_has n (suc k) m (inl same) = (omega (arith, same), omega (arith, same))
counted_has n (suc k) m (inr h) = let p = counted_has (n + 1) k m h in (omega (arith, p.0), omega (arith, p.1))

pub counted_to : (n k m : ℕ) → n ≤ m → m < n + k → Has (counted_from n k) m
counted_to n zero m low high = absurd (omega (arith, low, high))
counted_to n (suc k) m low high = elim (cases_eq n m) as (λ _. Has (counted_from n (suc k)) m) [
  | inl same ↦ inl same
  | inr other ↦ inr (counted_to (n + 1) k m (omega (arith, low, other)) (omega (arith, high)))
]

not_here : (x n m : ℕ) (ns : List ℕ) → x ≡ n → n + 1 ≤ m → Has (x ∷ ns) m → Has ns m
not_here x n m ns is low (inl same) = absurd (omega (arith, is, same, low))
not_here x n m ns is low (inr h) = h

first_is : (x n : ℕ) (ns : List ℕ) → n ≤ x → AllByRecursion (λ m. x < m) ns → Has (x ∷ ns) n → x ≡ n
first_is x n ns low above (inl same) = same
first_is x n ns low above (inr h) = let gt = all_has (λ m. x < m) ns n above h in absurd (omega (arith, low, gt))

pub rising_is : (n k : ℕ) (ns : List ℕ) → Rise ns → ((m : ℕ) → Has ns m → (n ≤ m) × (m < n + k)) → ((m : ℕ) → n ≤ m → m < n + k → Has ns m) → ns ≡ counted_from n k
rising_is n zero [] up within all = refl
rising_is n zero (x ∷ ns) up within all = let w = within x (inl refl) in absurd (omega (arith, w.0, w.1))
rising_is n (suc k) [] up within all = absurd (all n (omega arith) (omega arith))
rising_is n (suc k) (x ∷ ns) up within all =
    let same : x ≡ n = first_is x n ns (within x (inl refl)).0 up.0 (all n (omega arith) (omega arith)) in
    let rest : ns ≡ counted_from (n + 1) k = rising_is (n + 1) k ns up.1
    (λ m h. let gt = all_has (λ y. x < y) ns m up.0 h in let w = within m (inr h) in (omega (arith, same, gt), omega (arith, w.1)))
    (λ m low high. not_here x n m ns same low (all m (omega (arith, low)) (omega (arith, high)))) in
    λ i. same i ∷ rest i

-- ---- NEW lines have the numbers of the events that they open

pub numbers_alike : (h : Hazard) (year n k : ℕ) (lines : List Line) (events : List Event) → numbers_of h year events ≡ counted_from n k →
    ((e : Event) → Has events e → IsOpenedBy lines e) → ((l : Line) → Has lines l → is_new l.action ≡ true → Has events l.event) →
    numbers_of h year (events_opened_by lines) ≡ numbers_of h year events
numbers_alike h year n k lines events on each one =
    rising_is n k (numbers_of h year (events_opened_by lines)) (numbers_rise h year (events_opened_by lines) (events_opened_by-up lines))
    (λ m g.
    let w = number_from h year (events_opened_by lines) m g in
    let l = opened_from lines w.0 w.1 in
    let there : Has events w.0 = subst (λ (x : Event). Has events x) l.3 (one l.0 l.1 l.2) in
    counted_has n k m (subst (λ (ns : List ℕ). Has ns m) on (subst (λ x. Has (numbers_of h year events) x) w.3 (number_to h year events w.0 there w.2))))
    (λ m low high.
    let w = number_from h year events m (subst (λ (ns : List ℕ). Has ns m) (sym on) (counted_to n k m low high)) in
    let l = each w.0 w.1 in
    let there : Has (events_opened_by lines) w.0 = subst (λ (x : Event). Has (events_opened_by lines) x) l.3 (opened_to lines l.0 l.1 l.2) in
    subst (λ x. Has (numbers_of h year (events_opened_by lines)) x) w.3 (number_to h year (events_opened_by lines) w.0 there w.2))
    ∙ sym on

-- ---- the rows tell the counts

length_counted : (n k : ℕ) → length (counted_from n k) ≡ k
length_counted n zero = refl
length_counted n (suc k) = ap (λ (m : ℕ). suc m) (length_counted (n + 1) k)

module _ (rows : List Row) (counts : List Count) (numbered : AreNumbered rows counts) (h : Hazard) (year : ℕ) where
  row_numbers : numbers_of h year (events_in rows) ≡ counted_from 1 (count_of counts h year)
  row_numbers =
      rising_is 1 (count_of counts h year) (numbers_of h year (events_in rows)) (numbers_rise h year (events_in rows) (events_up rows))
      (λ m g.
      let w = number_from h year (events_in rows) m g in
      let p = numbered_parts h year w.0 w.2 in
      let there : (nat_le 1 w.0.etn && nat_le w.0.etn (count_of counts w.0.hazard w.0.year)) ≡ true = sym (numbered w.0) ∙ events_from rows w.0 w.1 in
      let q = and_parts (nat_le 1 w.0.etn) _ there in
      let low : 1 ≤ w.0.etn = leb-true 1 w.0.etn q.0 in
      let high : w.0.etn ≤ count_of counts w.0.hazard w.0.year = leb-true w.0.etn _ q.1 in
      let same : count_of counts w.0.hazard w.0.year ≡ count_of counts h year = ap (λ (x : Hazard). count_of counts x w.0.year) p.0 ∙ ap (count_of counts h) p.1 in
      let is : w.0.etn ≡ m = w.3 in
      (omega (arith, low, is), omega (arith, high, same, is)))
      (λ m low high.
      let e : Event = record { hazard = h; etn = m; year = year } in
      let there : has_rows rows e ≡ true = numbered e ∙ and_from _ _ (le-leb 1 m low) (le-leb m (count_of counts h year) (omega (arith, high))) in
      number_to h year (events_in rows) e (events_to rows e there) (numbered_from_parts h year e refl refl))

  among_step : (r : Row) (b : Bool) (rest : ℕ) → is_numbered h year r.event ≡ b → rest ≡ length (numbers_of h year (events_in rows)) → cond b (length (numbers_of r.event.hazard r.event.year (events_in rows))) rest ≡ length (numbers_of h year (events_in rows))
  among_step r true rest is more =
      let p = numbered_parts h year r.event is in
      ap (λ (x : Hazard). length (numbers_of x r.event.year (events_in rows))) p.0 ∙ ap (λ (y : ℕ). length (numbers_of h y (events_in rows))) p.1
  among_step r false rest is more = more

  found_step : (r : Row) (some : List Row) (b : Bool) → is_numbered h year r.event ≡ b → list_any (λ (s : Row). is_numbered h year s.event) (r ∷ some) ≡ true →
      (list_any (λ (s : Row). is_numbered h year s.event) some ≡ true → count_of (map (count_among (events_in rows)) some) h year ≡ length (numbers_of h year (events_in rows))) →
      cond b (length (numbers_of r.event.hazard r.event.year (events_in rows))) (count_of (map (count_among (events_in rows)) some) h year) ≡ length (numbers_of h year (events_in rows))
  found_step r some true is found more = among_step r true (length (numbers_of h year (events_in rows))) is refl
  found_step r some false is found more = more (let g = rw is at found in g)

  found_among : (some : List Row) → list_any (λ (r : Row). is_numbered h year r.event) some ≡ true → count_of (map (count_among (events_in rows)) some) h year ≡ length (numbers_of h year (events_in rows))
  found_among [] found = cc
  found_among (r ∷ some) found = found_step r some (is_numbered h year r.event) refl found (found_among some)

  none_among : (some : List Row) → list_any (λ (r : Row). is_numbered h year r.event) some ≡ false → count_of (map (count_among (events_in rows)) some) h year ≡ 0
  none_among [] none = refl
  none_among (r ∷ some) none = let p = or_parts (is_numbered h year r.event) _ none in rw p.0 (none_among some p.1)

  no_numbers : (ns : List ℕ) → ((m : ℕ) → Has ns m → ⊥) → length ns ≡ 0
  no_numbers [] none = refl
  no_numbers (n ∷ ns) none = absurd (none n (inl refl))

  counts_by : (b : Bool) → list_any (λ (r : Row). is_numbered h year r.event) rows ≡ b → count_of (counts_in rows) h year ≡ length (numbers_of h year (events_in rows))
  counts_by true found = found_among rows found
  counts_by false none = none_among rows none ∙ sym (no_numbers (numbers_of h year (events_in rows)) (λ m g.
      let w = number_from h year (events_in rows) m g in
      let r = has_any (λ (s : Row). same_event s.event w.0) rows (events_from rows w.0 w.1) in
      both_ways _ none (any_has (λ (s : Row). is_numbered h year s.event) rows r.0 r.1 (ap (is_numbered h year) (event_one r.0.event w.0 r.2) ∙ w.2))))

  pub counts_told : count_of (counts_in rows) h year ≡ count_of counts h year
  counts_told = counts_by (list_any (λ (r : Row). is_numbered h year r.event) rows) refl ∙ ap length row_numbers ∙ length_counted 1 (count_of counts h year)
