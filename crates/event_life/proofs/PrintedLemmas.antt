-- A lawful line is read off its text again, where no two open events share hazard and number.
use Rattle.std.proofs.Common.{◌≡◌, ◌&&◌, ◌==◌, ℕ, ◌+◌, List, [], ◌∷◌, Bool, true, false, Option, Some, None, refl, sym, ap, ◌∙◌, cond, fold, option_map, unwrap_or, arith, IsOk, IsSomeAnd, nat_lt}
use Rattle.std.specs.List.{All, AllByRecursion, find, list_any}
use Rattle.std.proofs.lemmas.List.Elements.{recursion_from_All}
use Rattle.std.proofs.lemmas.Bool.{and_parts, eqb-true, eq-eqb, le-leb, false_from_ne_true}
use Rattle.hazard_types.specs.Days.{year_of}
use Rattle.hazard_types.specs.Places.{Place}
use Rattle.hazard_types.specs.Same.{same_hazard, same_event}
use Rattle.hazard_types.specs.declared.codes.Action.{Action}
use Rattle.hazard_types.specs.declared.codes.Action.TheVariants.{New, Con, Exa, Ext, Exb, Upg, Can, Exp, Cor, Rou}
use Rattle.hazard_types.specs.declared.codes.Class.{Class}
use Rattle.hazard_types.specs.declared.hazard.Event.{Event}
use Rattle.hazard_types.specs.declared.line.Line.{Line}
use Rattle.hazard_types.specs.declared.line.Row.{Row}
use Rattle.hazard_types.specs.declared.period.End.{End}
use Rattle.hazard_types.specs.declared.period.End.TheVariants.{At, Ufn}
use Rattle.hazard_types.proofs.Equality.{event_one, event_itself, hazard_one, hazard_itself}
use Rattle.event_life.specs.declared.life.Life.{Life}
use Rattle.event_life.specs.declared.life.Around.{Around}
use Rattle.event_life.specs.Periods.{keeps_open, is_not_long_past}
use Rattle.event_life.specs.Table.{breach_of_line, life_after_lawful_line, step}
use Rattle.event_life.specs.Bounds.{IsBefore, IsLongBefore, IsNear, GoesOnFrom, Stays, EndsAsPrinted}
use Rattle.event_life.specs.Products.{row_at, life_of, life_at, is_open, around_of, is_routine, is_new, later_event, latest_open_event, end_of, line_of}
use Rattle.event_life.specs.Firsts.{is_lawful}
use Rattle.event_life.specs.Printed.{printed_end, zone_line_of, IsOneEvent, HasOneOpen}
use Rattle.event_life.proofs.Puts.{at_key, at_key-parts}
use Rattle.event_life.proofs.LivesLemmas.{none_from_test, find-passes}
use Rattle.event_life.proofs.BoundsLemmas.{none_ok, exa_exactly, exb_exactly, con_exactly, cor_exactly, ext_exactly, can_exactly, exp_exactly, upg_exactly}

-- lists

any_from_find : {X : Type 0} (p q : X → Bool) (xs : List X) (x : X) → find p xs ≡ Some x → q x ≡ true → list_any q xs ≡ true
any_from_find p q [] x h g = cc
any_from_find {X} p q (y ∷ ys) x h g =
    let step : (b c : Bool) → q y ≡ c → cond b (Some y) (find p ys) ≡ Some x → (list_any q (y ∷ ys)) ≡ true =
    λ b c. elim c as (λ c. q y ≡ c → cond b (Some y) (find p ys) ≡ Some x → list_any q (y ∷ ys) ≡ true) [
      | true ↦ λ e f. rw e
      | false ↦ elim b as (λ b. q y ≡ false → cond b (Some y) (find p ys) ≡ Some x → list_any q (y ∷ ys) ≡ true) [
        | true ↦ λ e f. let same : y ≡ x = cc in let k : q y ≡ true = rw same g in let no : true ≡ false = sym k ∙ e in cc
        | false ↦ λ e f. rw e (any_from_find p q ys x f g)
      ]
    ] in
    step (p y) (q y) refl h

all_weaker : {X : Type 0} (P Q : X → Type 0) → ((x : X) → P x → Q x) → (xs : List X) → AllByRecursion P xs → AllByRecursion Q xs
all_weaker P Q f [] all = tt
all_weaker P Q f (x ∷ xs) all = (f x all.0, all_weaker P Q f xs all.1)

some_weaker : {X : Type 0} (P Q : X → Type 0) → ((x : X) → P x → Q x) → (o : Option X) → IsSomeAnd o P → IsSomeAnd o Q
some_weaker P Q f None h = absurd h
some_weaker P Q f (Some x) h = f x h

-- the open event of a hazard and number

module _ (t : ℕ) (e : Event) where
  abbrev is_own : Row → Bool
  is_own r = same_event r.event e && keeps_open t r

  abbrev Only : Row → Type 0
  Only s = keeps_open t s ≡ true → s.event.hazard ≡ e.hazard → s.event.etn ≡ e.etn → s.event ≡ e

  own_only : (r s : Row) → is_own r ≡ true → IsOneEvent t r s → Only s
  own_only r s own one is_open hazard etn =
      let parts = and_parts (same_event r.event e) _ own in
      let same = event_one r.event e parts.0 in
      sym (one parts.1 is_open (ap (λ (x : Event). x.hazard) same ∙ sym hazard) (ap (λ (x : Event). x.etn) same ∙ sym etn)) ∙ same

  only_from : (all rows : List Row) → AllByRecursion (λ r. AllByRecursion (λ s. IsOneEvent t r s) all) rows → list_any is_own rows ≡ true → AllByRecursion Only all
  only_from all [] one any = cc
  only_from all (r ∷ rows) one any =
      let step : (b : Bool) → is_own r ≡ b → AllByRecursion Only all =
      λ b. elim b as (λ b. is_own r ≡ b → AllByRecursion Only all) [
        | true ↦ λ own. all_weaker (λ s. IsOneEvent t r s) Only (λ s one. own_only r s own one) all one.0
        | false ↦ λ own. only_from all rows one.1 (rw own at any)
      ] in
      step (is_own r) refl

  abbrev is_named : Row → Bool
  is_named r = same_hazard r.event.hazard e.hazard && (r.event.etn == e.etn) && keeps_open t r

  abbrev better : Option Event → Row → Option Event
  better best r = cond (is_named r) (later_event best r.event) best

  named_is : (r : Row) → is_named r ≡ true → Only r → r.event ≡ e
  named_is r named only =
      let p = and_parts (same_hazard r.event.hazard e.hazard && (r.event.etn == e.etn)) _ named in
      let q = and_parts (same_hazard r.event.hazard e.hazard) _ p.0 in
      only p.1 (hazard_one r.event.hazard e.hazard q.0) (eqb-true r.event.etn e.etn q.1)

  own_named : (r : Row) → is_own r ≡ true → is_named r ≡ true
  own_named r own =
      let p = and_parts (same_event r.event e) _ own in
      let same = event_one r.event e p.0 in
      rw (same, hazard_itself e.hazard, eq-eqb e.etn e.etn refl) p.1

  later_same : (d : Event) → d ≡ e → later_event (Some e) d ≡ Some e
  later_same d same = rw same (elim (nat_lt e.year e.year) as (λ b. cond b (Some e) (Some e) ≡ Some e) [ true ↦ refl | false ↦ refl ])

  stays_best : (r : Row) → Only r → better (Some e) r ≡ Some e
  stays_best r only =
      let step : (b : Bool) → is_named r ≡ b → cond b (later_event (Some e) r.event) (Some e) ≡ Some e =
      λ b. elim b as (λ b. is_named r ≡ b → cond b (later_event (Some e) r.event) (Some e) ≡ Some e) [
        | true ↦ λ named. later_same r.event (named_is r named only)
        | false ↦ λ named. refl
      ] in
      step (is_named r) refl

  fold_best : (rows : List Row) → AllByRecursion Only rows → fold better (Some e) rows ≡ Some e
  fold_best [] only = refl
  fold_best (r ∷ rows) only = rw (stays_best r only.0) (fold_best rows only.1)

  fold_none : (rows : List Row) → AllByRecursion Only rows → list_any is_own rows ≡ true → fold better None rows ≡ Some e
  fold_none [] only any = cc
  fold_none (r ∷ rows) only any =
      let step : (b : Bool) → is_named r ≡ b → fold better (cond b (later_event None r.event) None) rows ≡ Some e =
      λ b. elim b as (λ b. is_named r ≡ b → fold better (cond b (later_event None r.event) None) rows ≡ Some e) [
        | true ↦ λ named. rw (named_is r named only.0) (fold_best rows only.1)
        | false ↦ λ named.
            let own : is_own r ≡ false = false_from_ne_true (is_own r) (λ o. let no : true ≡ false = sym (own_named r o) ∙ named in cc) in
            fold_none rows only.1 (rw own at any)
      ] in
      step (is_named r) refl

-- an open event is the one that its hazard and number find
pub latest_open_event-open : (rows : List Row) (t : ℕ) (e : Event) → HasOneOpen rows t → is_open rows t e ≡ true → latest_open_event rows e.hazard e.etn t ≡ Some e
latest_open_event-open rows t e one any =
    let inner = λ (r : Row) (h : All (λ s. IsOneEvent t r s) rows). recursion_from_All (λ s. IsOneEvent t r s) rows h in
    let all = all_weaker (λ r. All (λ s. IsOneEvent t r s) rows) (λ r. AllByRecursion (λ s. IsOneEvent t r s) rows) inner rows (recursion_from_All (λ r. All (λ s. IsOneEvent t r s) rows) rows one) in
    fold_none t e rows (only_from t e rows rows all any) any

-- a lawful line that is not NEW is of an open event

abbrev StandsOpen : ℕ → Life → Type 0
StandsOpen t life = (life.ended ≡ false) × (is_not_long_past life.period.end t ≡ true)

open_at : (rows : List Row) (t : ℕ) (e : Event) (z : Place) (o : Option Row) → row_at rows e z ≡ o → IsSomeAnd (option_map life_of o) (StandsOpen t) → is_open rows t e ≡ true
open_at rows t e z None found h = absurd h
open_at rows t e z (Some r) found h =
    let parts = at_key-parts e z r (find-passes (at_key e z) rows r found) in
    any_from_find (at_key e z) (is_own t e) rows r found (rw (parts.0, event_itself e, h.0) h.1)

open_from : (rows : List Row) (t : ℕ) (line : Line) → IsSomeAnd (life_at rows line) (StandsOpen t) → is_open rows t line.event ≡ true
open_from rows t line h = open_at rows t line.event line.zone (row_at rows line.event line.zone) refl h

within_before : (t : ℕ) (end : End) → IsBefore t end → is_not_long_past end t ≡ true
within_before t (At m) h = le-leb t (m + 30) (omega arith)
within_before t Ufn h = refl

within_long_before : (t : ℕ) (end : End) → IsLongBefore t end → is_not_long_past end t ≡ true
within_long_before t (At m) h = le-leb t (m + 30) (omega arith)
within_long_before t Ufn h = refl

within_near : (t : ℕ) (end : End) → IsNear t end → is_not_long_past end t ≡ true
within_near t (At m) h = le-leb t (m + 30) h.1
within_near t Ufn h = absurd h

module _ (rows : List Row) (t : ℕ) (around : Around) (line : Line) (higher : around.going ≡ is_open rows t line.event) where
  is_open-lawful : (a : Action) → line.action ≡ a → is_routine a ≡ false → is_new a ≡ false → IsOk (step (life_at rows line) line t around) → is_open rows t line.event ≡ true
  is_open-lawful New e routine new ok = cc
  is_open-lawful Rou e routine new ok = cc
  is_open-lawful Exa e routine new ok = sym higher ∙ ((exa_exactly (life_at rows line) line t around e).0 ok).1.event_open
  is_open-lawful Exb e routine new ok = sym higher ∙ ((exb_exactly (life_at rows line) line t around e).0 ok).1.event_open
  is_open-lawful Con e routine new ok = open_from rows t line (some_weaker (λ life. GoesOnFrom life line t × Stays life line t) (StandsOpen t) (λ life g. (g.0.going, within_before t life.period.end g.0.live)) (life_at rows line) ((con_exactly (life_at rows line) line t around e).0 ok))
  is_open-lawful Cor e routine new ok = open_from rows t line (some_weaker (λ life. GoesOnFrom life line t × Stays life line t) (StandsOpen t) (λ life g. (g.0.going, within_before t life.period.end g.0.live)) (life_at rows line) ((cor_exactly (life_at rows line) line t around e).0 ok))
  is_open-lawful Ext e routine new ok = open_from rows t line (some_weaker (λ life. GoesOnFrom life line t × (¬ Stays life line t)) (StandsOpen t) (λ life g. (g.0.going, within_before t life.period.end g.0.live)) (life_at rows line) ((ext_exactly (life_at rows line) line t around e).0 ok))
  is_open-lawful Can e routine new ok = open_from rows t line (some_weaker (λ life. EndsAsPrinted life line t × IsLongBefore t life.period.end) (StandsOpen t) (λ life g. (g.0.going, within_long_before t life.period.end g.1)) (life_at rows line) ((can_exactly (life_at rows line) line t around e).0 ok))
  is_open-lawful Exp e routine new ok = open_from rows t line (some_weaker (λ life. EndsAsPrinted life line t × IsNear t life.period.end) (StandsOpen t) (λ life g. (g.0.going, within_near t life.period.end g.1)) (life_at rows line) ((exp_exactly (life_at rows line) line t around e).0 ok))
  is_open-lawful Upg e routine new ok = open_from rows t line (some_weaker (λ life. EndsAsPrinted life line t × IsBefore t life.period.end × (around.higher ≡ true)) (StandsOpen t) (λ life g. (g.0.going, within_before t life.period.end g.1)) (life_at rows line) ((upg_exactly (life_at rows line) line t around e).0 ok))

end_back : (end : End) → end_of (printed_end end) ≡ end
end_back (At m) = refl
end_back Ufn = refl

-- the event is read off a lawful line's text
event_back : (rows : List Row) (t : ℕ) (lines : List Line) (line : Line) (new : Bool) → is_new line.action ≡ new → is_routine line.action ≡ false → is_lawful rows t lines line ≡ true → HasOneOpen rows t → (is_new line.action ≡ true → line.event.year ≡ year_of t) →
    cond new (record { hazard = line.event.hazard; etn = line.event.etn; year = year_of t }) (unwrap_or (latest_open_event rows line.event.hazard line.event.etn t) (record { hazard = line.event.hazard; etn = line.event.etn; year = year_of t })) ≡ line.event
event_back rows t lines line true n routine lawful one year = let y = sym (year n) in λ i. record { hazard = line.event.hazard; etn = line.event.etn; year = y i }
event_back rows t lines line false n routine lawful one year =
    let ok : IsOk (step (life_at rows line) line t (around_of rows t lines line)) = none_ok (breach_of_line (life_at rows line) line t (around_of rows t lines line)) (life_after_lawful_line (life_at rows line) line t) (none_from_test _ lawful) in
    let going = is_open-lawful rows t (around_of rows t lines line) line refl line.action refl routine n ok in
    rw (latest_open_event-open rows t line.event one going)

-- a lawful line is read off its text again
pub line_of-printed : (rows : List Row) (t : ℕ) (lines : List Line) (class : Class) (office : List ℕ) (line : Line) →
    is_routine line.action ≡ false → is_lawful rows t lines line ≡ true → HasOneOpen rows t → (is_new line.action ≡ true → line.event.year ≡ year_of t) →
    line_of rows t (zone_line_of class office line) ≡ line
line_of-printed rows t lines class office line routine lawful one year =
    let event = event_back rows t lines line (is_new line.action) refl routine lawful one year in
    let end = end_back line.end in
    λ i. record { action = line.action; event = event i; zone = line.zone; begin = line.begin; end = end i; flood = line.flood }
