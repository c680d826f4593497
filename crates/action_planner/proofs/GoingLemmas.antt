-- What the going event of a hazard and number tells of rows of which no two open ones share hazard and number.
use Rattle.std.proofs.Common.{◌≡◌, ◌∙◌, ◌==◌, ◌&&◌, ℕ, List, [], ◌∷◌, Bool, true, false, Option, Some, None, refl, sym, subst, cond, fold, nat_lt, option_map}
use Rattle.std.specs.List.{All, AllByRecursion, find, list_any}
use Rattle.std.proofs.lemmas.Bool.{and_parts, and_from, eqb-true, eq-eqb, false_from_ne_true}
use Rattle.std.proofs.lemmas.List.Elements.{All-from_recursion}
use Rattle.hazard_types.specs.Same.{same_hazard, same_event}
use Rattle.hazard_types.specs.declared.hazard.Event.{Event}
use Rattle.hazard_types.specs.declared.hazard.Hazard.{Hazard}
use Rattle.hazard_types.specs.declared.line.Row.{Row}
use Rattle.office_types.specs.declared.refusal.Refusal.{Refusal}
use Rattle.office_types.specs.declared.refusal.Refusal.TheVariants.{NumberHeld}
use Rattle.hazard_types.proofs.Equality.{event_one, event_itself, hazard_one, hazard_itself}
use Rattle.event_life.specs.Periods.{keeps_open}
use Rattle.event_life.specs.Printed.{IsOneEvent, HasOneOpen}
use Rattle.event_life.specs.Products.{is_open, later_event, latest_open_event}
use Rattle.event_life.proofs.LivesLemmas.{find-passes}
use Rattle.event_life.proofs.PrintedLemmas.{latest_open_event-open}
use Rattle.hazard_board.specs.Consistent.{share_number, EachToLater, IsConsistent}
use Rattle.action_planner.specs.Offences.{holds, held_by}

all_still : {X : Type 0} (P Q : X → Type 0) → ((x : X) → P x → Q x) → (xs : List X) → AllByRecursion P xs → AllByRecursion Q xs
all_still P Q each [] all = tt
all_still P Q each (x ∷ xs) all = (each x all.0, all_still P Q each xs all.1)

all_both : {X : Type 0} (P Q R : X → Type 0) → ((x : X) → P x → Q x → R x) → (xs : List X) → AllByRecursion P xs → AllByRecursion Q xs → AllByRecursion R xs
all_both P Q R each [] all more = tt
all_both P Q R each (x ∷ xs) all more = (each x all.0 more.0, all_both P Q R each xs all.1 more.1)

-- no two open rows share hazard and number

module _ (t : ℕ) where
  abbrev AreOne : Row → Row → Type 0
  AreOne a b = share_number t a b ≡ true → a.event ≡ b.event

  share : (a b : Row) → keeps_open t a ≡ true → keeps_open t b ≡ true → a.event.hazard ≡ b.event.hazard → a.event.etn ≡ b.event.etn → share_number t a b ≡ true
  share a b p q h n =
      let same : same_hazard a.event.hazard b.event.hazard ≡ true = rw h (hazard_itself b.event.hazard) in
      and_from _ _ (and_from _ _ (and_from _ _ p q) same) (eq-eqb a.event.etn b.event.etn n)

  one_of : (a b : Row) → AreOne a b → IsOneEvent t a b
  one_of a b one p q h n = one (share a b p q h n)

  one_back : (a b : Row) → AreOne b a → IsOneEvent t a b
  one_back a b one p q h n = sym (one (share b a q p (sym h) (sym n)))

  one_itself : (a : Row) → IsOneEvent t a a
  one_itself a p q h n = refl

  all_one : (rows : List Row) → EachToLater AreOne rows → AllByRecursion (λ a. AllByRecursion (IsOneEvent t a) rows) rows
  all_one [] each = tt
  all_one (r ∷ rows) each = (
    (one_itself r, all_still (AreOne r) (IsOneEvent t r) (one_of r) rows each.0),
    all_both (AreOne r) (λ a. AllByRecursion (IsOneEvent t a) rows) (λ a. AllByRecursion (IsOneEvent t a) (r ∷ rows))
        (λ a one more. (one_back a r one, more)) rows each.0 (all_one rows each.1),
  )

pub one_open : (rows : List Row) (t : ℕ) → IsConsistent rows t → HasOneOpen rows t
one_open rows t h =
    All-from_recursion (λ r. All (IsOneEvent t r) rows) rows
    (all_still (λ r. AllByRecursion (IsOneEvent t r) rows) (λ r. All (IsOneEvent t r) rows) (λ r. All-from_recursion (IsOneEvent t r) rows) rows (all_one t rows h.numbered))

-- the going event is that of a row

module _ (t : ℕ) (h : Hazard) (n : ℕ) where
  abbrev is_named : Row → Bool
  is_named r = same_hazard r.event.hazard h && (r.event.etn == n) && keeps_open t r

  abbrev is_of : Event → Row → Bool
  is_of d r = is_named r && same_event r.event d

  abbrev better : Option Event → Row → Option Event
  better best r = cond (is_named r) (later_event best r.event) best

  later_one : (best : Option Event) (e d : Event) → later_event best e ≡ Some d → same_event e d ≡ false → best ≡ Some d
  later_one None e d f apart = let same : e ≡ d = cc in let no : true ≡ false = sym (event_itself d) ∙ (subst (λ (x : Event). same_event x d ≡ false) same apart) in cc
  later_one (Some b) e d f apart =
      let step : (later : Bool) → cond later (Some e) (Some b) ≡ Some d → Some b ≡ Some d =
      λ later. elim later as (λ later. cond later (Some e) (Some b) ≡ Some d → Some b ≡ Some d) [
        | true ↦ λ f. let same : e ≡ d = cc in let no : true ≡ false = sym (event_itself d) ∙ (subst (λ (x : Event). same_event x d ≡ false) same apart) in cc
        | false ↦ λ f. f
      ] in
      step (nat_lt b.year e.year) f

  better_one : (best : Option Event) (r : Row) (d : Event) → better best r ≡ Some d → is_of d r ≡ false → best ≡ Some d
  better_one best r d =
      let step : (named : Bool) → cond named (later_event best r.event) best ≡ Some d → (named && same_event r.event d) ≡ false → best ≡ Some d =
      λ named. elim named as (λ named. cond named (later_event best r.event) best ≡ Some d → (named && same_event r.event d) ≡ false → best ≡ Some d) [
        | true ↦ λ f apart. later_one best r.event d f apart
        | false ↦ λ f apart. f
      ] in
      step (is_named r)

  fold_of : (rows : List Row) (best : Option Event) (d : Event) → fold better best rows ≡ Some d → list_any (is_of d) rows ≡ false → best ≡ Some d
  fold_of [] best d f none = f
  fold_of (r ∷ rows) best d f none =
      let step : (b : Bool) → is_of d r ≡ b → best ≡ Some d =
      λ b. elim b as (λ b. is_of d r ≡ b → best ≡ Some d) [
        | true ↦ λ own. let no : true ≡ false = rw own at none in cc
        | false ↦ λ own. better_one best r d (fold_of rows (better best r) d f (rw own at none)) own
      ] in
      step (is_of d r) refl

  going_of_row : (rows : List Row) (d : Event) → latest_open_event rows h n t ≡ Some d → list_any (is_of d) rows ≡ true
  going_of_row rows d f =
      let step : (b : Bool) → list_any (is_of d) rows ≡ b → list_any (is_of d) rows ≡ true =
      λ b. elim b as (λ b. list_any (is_of d) rows ≡ b → list_any (is_of d) rows ≡ true) [
        | true ↦ λ any. any
        | false ↦ λ none. let no : None ≡ Some d = fold_of rows None d f none in cc
      ] in
      step (list_any (is_of d) rows) refl

any_still : {X : Type 0} (p q : X → Bool) → ((x : X) → p x ≡ true → q x ≡ true) → (xs : List X) → list_any p xs ≡ true → list_any q xs ≡ true
any_still p q each [] any = cc
any_still p q each (x ∷ xs) any =
    let step : (b c : Bool) → p x ≡ b → q x ≡ c → list_any q (x ∷ xs) ≡ true =
    λ b c. elim c as (λ c. p x ≡ b → q x ≡ c → list_any q (x ∷ xs) ≡ true) [
      | true ↦ λ e f. rw f
      | false ↦ elim b as (λ b. p x ≡ b → q x ≡ false → list_any q (x ∷ xs) ≡ true) [
        | true ↦ λ e f. let no : true ≡ false = sym (each x e) ∙ f in cc
        | false ↦ λ e f. rw f (any_still p q each xs (rw e at any))
      ]
    ] in
    step (p x) (q x) refl refl

none_found : {X : Type 0} (p : X → Bool) (xs : List X) → find p xs ≡ None → list_any p xs ≡ false
none_found p [] h = refl
none_found {X} p (x ∷ xs) h =
    let step : (b : Bool) → p x ≡ b → cond b (Some x) (find p xs) ≡ None → list_any p (x ∷ xs) ≡ false =
    λ b. elim b as (λ b. p x ≡ b → cond b (Some x) (find p xs) ≡ None → list_any p (x ∷ xs) ≡ false) [
      | true ↦ λ e g. cc
      | false ↦ λ e g. rw e (none_found p xs g)
    ] in
    step (p x) refl h

row_found : {X : Type 0} (p q : X → Bool) (xs : List X) (x : X) → find p xs ≡ Some x → q x ≡ true → list_any q xs ≡ true
row_found p q [] x h g = cc
row_found {X} p q (y ∷ ys) x h g =
    let step : (b c : Bool) → q y ≡ c → cond b (Some y) (find p ys) ≡ Some x → list_any q (y ∷ ys) ≡ true =
    λ b c. elim c as (λ c. q y ≡ c → cond b (Some y) (find p ys) ≡ Some x → list_any q (y ∷ ys) ≡ true) [
      | true ↦ λ e f. rw e
      | false ↦ elim b as (λ b. q y ≡ false → cond b (Some y) (find p ys) ≡ Some x → list_any q (y ∷ ys) ≡ true) [
        | true ↦ λ e f. let same : y ≡ x = cc in let no : true ≡ false = sym (subst (λ (v : X). q v ≡ true) (sym same) g) ∙ e in cc
        | false ↦ λ e f. rw e (row_found p q ys x f g)
      ]
    ] in
    step (p y) (q y) refl h

-- an event is open where it is the going one of its hazard and number

abbrev pub is_it : Event → Option Event → Bool
is_it e None = false
is_it e (Some d) = same_event d e

own_of : (t : ℕ) (e d : Event) (r : Row) → is_of t e.hazard e.etn d r ≡ true → (same_event r.event d && keeps_open t r) ≡ true
own_of t e d r h =
    let p = and_parts (is_named t e.hazard e.etn r) _ h in
    let q = and_parts (same_hazard r.event.hazard e.hazard && (r.event.etn == e.etn)) _ p.0 in
    and_from _ _ p.1 q.1

pub going_decides_open : (rows : List Row) (t : ℕ) (e : Event) → IsConsistent rows t → is_it e (latest_open_event rows e.hazard e.etn t) ≡ is_open rows t e
going_decides_open rows t e h =
    let step : (b : Bool) (o : Option Event) → is_open rows t e ≡ b → latest_open_event rows e.hazard e.etn t ≡ o → is_it e o ≡ b =
    λ b. elim b as (λ b. (o : Option Event) → is_open rows t e ≡ b → latest_open_event rows e.hazard e.etn t ≡ o → is_it e o ≡ b) [
      | true ↦ λ o f g. let same : o ≡ Some e = sym g ∙ latest_open_event-open rows t e (one_open rows t h) f in rw same (event_itself e)
      | false ↦ λ o. elim o as (λ o. is_open rows t e ≡ false → latest_open_event rows e.hazard e.etn t ≡ o → is_it e o ≡ false) [
        | None ↦ λ f g. refl
        | Some d ↦ λ f g. false_from_ne_true (same_event d e) (λ k.
            let any = any_still (is_of t e.hazard e.etn d) (λ r. same_event r.event d && keeps_open t r) (own_of t e d) rows (going_of_row t e.hazard e.etn rows d g) in
            let no : true ≡ false = sym any ∙ subst (λ (x : Event). is_open rows t x ≡ false) (sym (event_one d e k)) f in cc)
      ]
    ] in
    step (is_open rows t e) (latest_open_event rows e.hazard e.etn t) refl refl

-- the number of an event is held by the going one, where that is of an earlier year

abbrev pub held_if_earlier : Event → Option Event → Option Refusal
held_if_earlier e None = None
held_if_earlier e (Some d) = cond (nat_lt d.year e.year) (Some (NumberHeld d)) None

holds_from : (t : ℕ) (e d : Event) → nat_lt d.year e.year ≡ true → (r : Row) → is_of t e.hazard e.etn d r ≡ true → holds t e r ≡ true
holds_from t e d early r h =
    let p = and_parts (is_named t e.hazard e.etn r) _ h in
    let q = and_parts (same_hazard r.event.hazard e.hazard && (r.event.etn == e.etn)) _ p.0 in
    let year : nat_lt r.event.year e.year ≡ true = rw (event_one r.event d p.1) early in
    and_from _ _ (and_from _ _ q.0 year) q.1

holder_going : (rows : List Row) (t : ℕ) (e : Event) (r : Row) → IsConsistent rows t → find (holds t e) rows ≡ Some r →
    (latest_open_event rows e.hazard e.etn t ≡ Some r.event) × (nat_lt r.event.year e.year ≡ true)
holder_going rows t e r h found =
    let p = and_parts (same_hazard r.event.hazard e.hazard && (r.event.etn == e.etn) && nat_lt r.event.year e.year) _ (find-passes (holds t e) rows r found) in
    let q = and_parts (same_hazard r.event.hazard e.hazard && (r.event.etn == e.etn)) _ p.0 in
    let s = and_parts (same_hazard r.event.hazard e.hazard) _ q.0 in
    let own : (same_event r.event r.event && keeps_open t r) ≡ true = and_from _ _ (event_itself r.event) p.1 in
    let any = row_found (holds t e) (λ s. same_event s.event r.event && keeps_open t s) rows r found own in
    let going = latest_open_event-open rows t r.event (one_open rows t h) any in
    let same_h = hazard_one r.event.hazard e.hazard s.0 in
    let same_n = eqb-true r.event.etn e.etn s.1 in
    let moved : latest_open_event rows r.event.hazard r.event.etn t ≡ latest_open_event rows e.hazard e.etn t = λ i. latest_open_event rows (same_h i) (same_n i) t in
    (sym moved ∙ going, q.1)

pub going_is_the_holder : (rows : List Row) (t : ℕ) (e : Event) → IsConsistent rows t → held_if_earlier e (latest_open_event rows e.hazard e.etn t) ≡ option_map held_by (find (holds t e) rows)
going_is_the_holder rows t e h =
    let step : (f : Option Row) (o : Option Event) → find (holds t e) rows ≡ f → latest_open_event rows e.hazard e.etn t ≡ o → held_if_earlier e o ≡ option_map held_by f =
    λ f. elim f as (λ f. (o : Option Event) → find (holds t e) rows ≡ f → latest_open_event rows e.hazard e.etn t ≡ o → held_if_earlier e o ≡ option_map held_by f) [
      | Some r ↦ λ o found g. let p = holder_going rows t e r h found in let same : o ≡ Some r.event = sym g ∙ p.0 in rw (same, p.1)
      | None ↦ λ o. elim o as (λ o. find (holds t e) rows ≡ None → latest_open_event rows e.hazard e.etn t ≡ o → held_if_earlier e o ≡ None) [
        | None ↦ λ found g. refl
        | Some d ↦ λ found g.
            let early : nat_lt d.year e.year ≡ false = false_from_ne_true (nat_lt d.year e.year) (λ k.
            let any = any_still (is_of t e.hazard e.etn d) (holds t e) (holds_from t e d k) rows (going_of_row t e.hazard e.etn rows d g) in
            let no : true ≡ false = sym any ∙ none_found (holds t e) rows found in cc) in
            rw early
      ]
    ] in
    step (find (holds t e) rows) (latest_open_event rows e.hazard e.etn t) refl refl
