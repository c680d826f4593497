-- The events that lines open: in order those of the NEW lines, whatever else these lines are.
use Rattle.std.proofs.Common.{◌≡◌, ◌↔◌, inl, inr, ◌&&◌, not, ℕ, List, [], ◌∷◌, ◌++◌, Bool, true, false, Option, Ordering, Less, Equal, Greater, refl, sym, ap, subst, ◌∙◌, cond}
use Rattle.std.specs.BTreeSet.{insert_key}
use Rattle.std.specs.Cmp.{IsTotalOrder}
use Rattle.std.specs.List.{AllByRecursion, Contains, list_all}
use Rattle.std.specs.List.Sorted.{IsStrictlySortedBy}
use Rattle.std.specs.Option.{is_none}
use Rattle.std.specs.Ordering.{match_ordering, ordering_reverse}
use Rattle.std.proofs.lemmas.Bool.{and_parts}
use Rattle.std.proofs.lemmas.Cmp.{tied_itself}
use Rattle.hazard_types.specs.Orders.{by_event}
use Rattle.hazard_types.specs.declared.codes.Action.{Action}
use Rattle.hazard_types.specs.declared.codes.Action.TheVariants.{Rou}
use Rattle.hazard_types.specs.declared.hazard.Event.{Event}
use Rattle.hazard_types.specs.declared.line.Line.{Line}
use Rattle.hazard_types.specs.declared.line.Row.{Row}
use Rattle.hazard_types.proofs.OrderLaws.{by_event_total, by_event_ties}
use Rattle.event_life.specs.declared.life.Breach.{Breach}
use Rattle.event_life.specs.Openings.{event_placed, add_event, events_opened_by}
use Rattle.event_life.specs.Products.{is_new, is_routine, breach_in, judged_from, judged, lawful_of}
use Rattle.event_life.specs.Reordered.{are_lawful}
use Rattle.event_life.proofs.Members.{IsIn, of_all, all_of, in_contains, contains_in}
use Rattle.event_life.proofs.OnceLemmas.{events_opened_by-every, events_opened_by-up}

-- a list strictly in order is told by its members
module _ {K : Type 0} {R : K → K → Ordering} (order : IsTotalOrder R) where
  less_itself : (x y : K) → x ≡ y → R x y ≡ Less → ⊥
  less_itself x y same less =
      let tied : R x y ≡ Equal = subst (λ (z : K). R x z ≡ Equal) same (tied_itself order x) in cc

  first_is : (x y : K) (xs ys : List K) → AllByRecursion (λ z. R x z ≡ Less) xs → AllByRecursion (λ z. R y z ≡ Less) ys → IsIn x (y ∷ ys) → IsIn y (x ∷ xs) → x ≡ y
  first_is x y xs ys above above_too (inl s) h = sym s
  first_is x y xs ys above above_too (inr g) (inl s) = s
  first_is x y xs ys above above_too (inr g) (inr h) =
      let less : R x y ≡ Less = of_all (λ z. R x z ≡ Less) xs y above h in
      let more : R y x ≡ Less = of_all (λ z. R y z ≡ Less) ys x above_too g in
      let turned : R x y ≡ Greater = order.antisymm x y ∙ ap ordering_reverse more in cc

  later_in : (x y z : K) (xs ys : List K) → x ≡ y → AllByRecursion (λ z. R x z ≡ Less) xs → IsIn z xs → IsIn z (y ∷ ys) → IsIn z ys
  later_in x y z xs ys same above h (inl s) = absurd (less_itself x z (same ∙ s) (of_all (λ z. R x z ≡ Less) xs z above h))
  later_in x y z xs ys same above h (inr g) = g

  pub told_by_members : (xs ys : List K) → IsStrictlySortedBy R xs → IsStrictlySortedBy R ys → ((x : K) → IsIn x xs → IsIn x ys) → ((x : K) → IsIn x ys → IsIn x xs) → xs ≡ ys
  unfolding IsStrictlySortedBy
  told_by_members [] [] up up_too there back = refl
  told_by_members [] (y ∷ ys) up up_too there back = absurd (back y (inl refl))
  told_by_members (x ∷ xs) [] up up_too there back = absurd (there x (inl refl))
  told_by_members (x ∷ xs) (y ∷ ys) up up_too there back =
      let same = first_is x y xs ys up.0 up_too.0 (there x (inl refl)) (back y (inl refl)) in
      let rest = told_by_members xs ys up.1 up_too.1
      (λ z h. later_in x y z xs ys same up.0 h (there z (inr h)))
      (λ z h. later_in y x z ys xs (sym same) up_too.0 h (back z (inr h))) in
      ap (λ (z : K). z ∷ xs) same ∙ ap (λ (zs : List K). y ∷ zs) rest

-- an event comes among those of a set as it does into a list in order

key_placed : (o : Ordering) (e d : Event) (events tail behind : List Event) → tail ≡ behind → match_ordering o (e ∷ d ∷ events) (d ∷ events) (d ∷ tail) ≡ event_placed o e d events behind
key_placed Less e d events tail behind later = refl
key_placed Equal e d events tail behind later = refl
key_placed Greater e d events tail behind later = ap (λ (es : List Event). d ∷ es) later

pub key-added : (e : Event) (events : List Event) → insert_key by_event events e ≡ add_event e events
key-added e [] = refl
key-added e (d ∷ events) = key_placed (by_event e d) e d events (insert_key by_event events e) (add_event e events) (key-added e events)

-- an event that is added is there, and those before it stay

own_placed : (e d : Event) (events behind : List Event) (o : Ordering) → by_event e d ≡ o → IsIn e behind → IsIn e (event_placed o e d events behind)
own_placed e d events behind Less h own = inl refl
own_placed e d events behind Equal h own = inl (sym (by_event_ties e d h))
own_placed e d events behind Greater h own = inr own

own_added : (e : Event) (events : List Event) → IsIn e (add_event e events)
own_added e [] = inl refl
own_added e (d ∷ events) = own_placed e d events (add_event e events) (by_event e d) refl (own_added e events)

stay_placed : (x e d : Event) (events behind : List Event) (o : Ordering) → IsIn x (d ∷ events) → (IsIn x events → IsIn x behind) → IsIn x (event_placed o e d events behind)
stay_placed x e d events behind Less h more = inr h
stay_placed x e d events behind Equal h more = h
stay_placed x e d events behind Greater (inl s) more = inl s
stay_placed x e d events behind Greater (inr h) more = inr (more h)

stay_added : (x e : Event) (events : List Event) → IsIn x events → IsIn x (add_event e events)
stay_added x e [] h = absurd h
stay_added x e (d ∷ events) h = stay_placed x e d events (add_event e events) (by_event e d) h (stay_added x e events)

stay_opened : (x e : Event) (events : List Event) (new : Bool) → IsIn x events → IsIn x (cond new (add_event e events) events)
stay_opened x e events true h = stay_added x e events h
stay_opened x e events false h = h

-- the event of each NEW line is opened
opened_in : (lines : List Line) (line : Line) → IsIn line lines → is_new line.action ≡ true → IsIn line.event (events_opened_by lines)
opened_in [] line h new = absurd h
opened_in (l ∷ lines) line (inl s) new =
    let own : is_new l.action ≡ true = subst (λ (v : Line). is_new v.action ≡ true) (sym s) new in
    subst (λ (v : Line). IsIn v.event (events_opened_by (l ∷ lines))) s (rw own (own_added l.event (events_opened_by lines)))
opened_in (l ∷ lines) line (inr h) new = stay_opened line.event l.event (events_opened_by lines) (is_new l.action) (opened_in lines line h new)

-- one of these is a NEW line of the event
abbrev HasNew : List Line → Event → Type 0
HasNew lines e = (line : Line) × IsIn line lines × (is_new line.action ≡ true) × (line.event ≡ e)

-- and no other event is
in_opened : (lines : List Line) (e : Event) → IsIn e (events_opened_by lines) → HasNew lines e
in_opened lines e h =
    of_all (HasNew lines) (events_opened_by lines) e
    (events_opened_by-every (HasNew lines) lines (all_of (λ (line : Line). is_new line.action ≡ true → HasNew lines line.event) lines (λ line g new. (line, g, new, refl)))) h

pub opened_members : (lines : List Line) (e : Event) → Contains (events_opened_by lines) e ↔ ((line : Line) × Contains lines line × (is_new line.action ≡ true) × (line.event ≡ e))
opened_members lines e = (
  λ h. let w = in_opened lines e (contains_in (events_opened_by lines) e h) in (w.0, in_contains lines w.0 w.1, w.2, w.3),
  λ w. in_contains (events_opened_by lines) e (subst (λ (d : Event). IsIn d (events_opened_by lines)) w.3 (opened_in lines w.0 (contains_in lines w.0 w.1) w.2)),
)

opened_too : (xs ys : List Line) → ((line : Line) → is_new line.action ≡ true → Contains xs line → Contains ys line) → (e : Event) → IsIn e (events_opened_by xs) → IsIn e (events_opened_by ys)
opened_too xs ys there e h =
    let w = in_opened xs e h in
    subst (λ (d : Event). IsIn d (events_opened_by ys)) w.3 (opened_in ys w.0 (contains_in ys w.0 (there w.0 w.2 (in_contains xs w.0 w.1))) w.2)

-- lists of lines with the same NEW lines open the same events
pub opened_alike : (xs ys : List Line) → ((line : Line) → is_new line.action ≡ true → Contains xs line ↔ Contains ys line) → events_opened_by xs ≡ events_opened_by ys
opened_alike xs ys alike =
    told_by_members by_event_total (events_opened_by xs) (events_opened_by ys) (events_opened_by-up xs) (events_opened_by-up ys)
    (opened_too xs ys (λ line new. (alike line new).0))
    (opened_too ys xs (λ line new. (alike line new).1))

-- of lawful lines the ones that touch no life open none

routine_opens_none : (a : Action) → is_routine a ≡ true → is_new a ≡ false
routine_opens_none Rou h = refl
routine_opens_none _ h = cc

lawful_opened : (line : Line) (lines : List Line) (routine lawful : Bool) → is_routine line.action ≡ routine → lawful ≡ true → events_opened_by (cond (not routine && lawful) (line ∷ lines) lines) ≡ events_opened_by (line ∷ lines)
lawful_opened line lines true lawful own h = rw (routine_opens_none line.action own) refl
lawful_opened line lines false lawful own h = rw h refl

opened_from_lawful : (rows : List Row) (t : ℕ) (all earlier lines : List Line) → list_all (λ (l : Line × Option Breach). is_none l.1) (judged_from rows t all earlier lines) ≡ true → events_opened_by (lawful_of (judged_from rows t all earlier lines)) ≡ events_opened_by lines
opened_from_lawful rows t all earlier [] h = refl
opened_from_lawful rows t all earlier (line ∷ lines) h =
    let parts = and_parts (is_none (breach_in rows t all earlier line)) _ h in
    lawful_opened line (lawful_of (judged_from rows t all (earlier ++ line ∷ []) lines)) (is_routine line.action) (is_none (breach_in rows t all earlier line)) refl parts.0
    ∙ ap (λ (events : List Event). cond (is_new line.action) (add_event line.event events) events) (opened_from_lawful rows t all (earlier ++ line ∷ []) lines parts.1)

pub opened_lawful : (rows : List Row) (t : ℕ) (lines : List Line) → are_lawful rows t lines ≡ true → events_opened_by (lawful_of (judged rows t lines)) ≡ events_opened_by lines
opened_lawful rows t lines h = opened_from_lawful rows t lines [] lines h
