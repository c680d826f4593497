-- The open event of a hazard and number, by the rows and by the standing events.
use Rattle.std.proofs.Common.{◌≡◌, ◌⊎◌, inl, inr, ◌∙◌, ◌==◌, ◌&&◌, ◌||◌, ℕ, ◌≤◌, List, [], ◌∷◌, Bool, true, false, Option, Some, None, Less, Equal, refl, sym, ap, subst, cond, fold, filter, map, nat_lt, if◌then◌else◌, arith}
use Rattle.std.specs.List.{AllByRecursion, list_any}
use Rattle.std.specs.List.Sorted.{IsStrictlySortedBy}
use Rattle.std.proofs.Math.Bool.{and-false, and-true}
use Rattle.std.proofs.lemmas.Bool.{and_parts, false_from_ne_true, eqb-true, ltb-false, ltb-true}
use Rattle.std.proofs.lemmas.Bool.Decides.{nat_tests}
use Rattle.std.proofs.lemmas.Cmp.{tied_itself}
use Rattle.std.proofs.lemmas.List.Elements.{filter_agree}
use Rattle.hazard_types.specs.Orders.{by_event}
use Rattle.hazard_types.specs.Same.{same_event, same_hazard}
use Rattle.hazard_types.specs.declared.hazard.Event.{Event}
use Rattle.hazard_types.specs.declared.hazard.Hazard.{Hazard}
use Rattle.hazard_types.specs.declared.line.Row.{Row}
use Rattle.hazard_types.specs.declared.period.End.{End}
use Rattle.hazard_types.specs.declared.period.End.TheVariants.{At, Ufn}
use Rattle.hazard_types.proofs.Equality.{event_one, event_itself, hazard_one, hazard_itself}
use Rattle.hazard_types.proofs.OrderLaws.{by_event_total}
use Rattle.event_life.specs.Periods.{is_not_long_past, keeps_open}
use Rattle.event_life.specs.Products.{is_open, later_event, latest_open_event}
use Rattle.hazard_board.specs.Standing.{later, later_than, stands_for, latest_end, by_standing, end_in, of_hazard, of_number, last_open, AreStanding, AreStandingOf}
use Rattle.hazard_board.specs.declared.standing.Standing.{Standing}
use Rattle.hazard_board.proofs.OpenLemmas.{hazard_by_number}
use Rattle.hazard_board.proofs.StandingLemmas.{end_cons}

-- an event is open by its greatest end

abbrev pub open_by : ℕ → Option End → Bool
open_by t None = false
open_by t (Some end) = is_not_long_past end t

within_later : (a b : End) (t : ℕ) → is_not_long_past (later a b) t ≡ (is_not_long_past a t || is_not_long_past b t)
within_later (At m) (At n) t = grind (arith, nat_tests)
within_later (At m) Ufn t = grind (arith, nat_tests)
within_later Ufn b t = refl

open_later : (t : ℕ) (best : Option End) (end : End) → is_not_long_past (later_than best end) t ≡ (open_by t best || is_not_long_past end t)
open_later t None end = refl
open_later t (Some best) end = within_later best end t

abbrev longer : Event → Option End → Row → Option End
longer e best r = if stands_for e r then Some (later_than best r.period.end) else best

or_three : (a b c : Bool) → ((a || b) || c) ≡ (a || (b || c))
or_three true b c = refl
or_three false b c = refl

or_false : (b : Bool) → b ≡ (b || false)
or_false true = refl
or_false false = refl

open_step : (same ended : Bool) (t : ℕ) (e : Event) (r : Row) (best : Option End) → same_event r.event e ≡ same → r.ended ≡ ended → open_by t (longer e best r) ≡ (open_by t best || (same_event r.event e && keeps_open t r))
open_step true true t e r best p q = rw (p, q) (or_false (open_by t best))
open_step true false t e r best p q = rw (p, q) (open_later t best r.period.end)
open_step false ended t e r best p q = rw p (or_false (open_by t best))

open_fold : (t : ℕ) (e : Event) (rows : List Row) (best : Option End) → open_by t (fold (longer e) best rows) ≡ (open_by t best || is_open rows t e)
open_fold t e [] best = or_false (open_by t best)
open_fold t e (r ∷ rows) best =
    open_fold t e rows (longer e best r)
    ∙ ap (λ (b : Bool). b || is_open rows t e) (open_step (same_event r.event e) r.ended t e r best refl refl)
    ∙ or_three (open_by t best) (same_event r.event e && keeps_open t r) (is_open rows t e)

pub open_by_end : (t : ℕ) (e : Event) (rows : List Row) → open_by t (latest_end rows e) ≡ is_open rows t e
open_by_end t e rows = open_fold t e rows None

-- the event of the greatest year

abbrev holds : Event → List Event → Bool
holds e es = list_any (λ (d : Event). same_event d e) es

abbrev top_of : List Event → Option Event
top_of es = fold later_event None es

-- what the fold over events gives, from a best one on
abbrev IsTop : Option Event → List Event → Option Event → Type 0
IsTop best es None = (best ≡ None) × (es ≡ [])
IsTop best es (Some m) = ((holds m es ≡ true) ⊎ (best ≡ Some m)) × (((e : Event) → holds e es ≡ true → e.year ≤ m.year) × ((b : Event) → best ≡ Some b → b.year ≤ m.year))

same_one : (a b : Event) → ◌≡◌ {A = Option Event} (Some a) (Some b) → a ≡ b
same_one a b h = cc

no_one : (x : Event) → ◌≡◌ {A = Option Event} (Some x) None → ⊥
no_one x h = cc

no_two : (x : Event) → ◌≡◌ {A = Option Event} None (Some x) → ⊥
no_two x h = cc

year_is : (a b : Event) → a ≡ b → a.year ≤ b.year
year_is a b h = subst (λ (e : Event). a.year ≤ e.year) h (omega arith)

top_none : (best : Option Event) → IsTop best [] best
top_none None = (refl, refl)
top_none (Some b) = (inr refl, ((λ e h. cc), (λ d h. year_is d b (sym (same_one b d h)))))

-- what is best behind one more event
record Next (best : Option Event) (x y : Event) : Type 0 where
  is : later_event best x ≡ Some y
  from : (y ≡ x) ⊎ (best ≡ Some y)
  above : x.year ≤ y.year
  before : (b : Event) → best ≡ Some b → b.year ≤ y.year

next_by : (d x : Event) (b : Bool) → nat_lt d.year x.year ≡ b → (y : Event) × Next (Some d) x y
next_by d x true h = (x, record { is = rw h refl; from = inl refl; above = omega arith; before = λ b g. let less = ltb-true d.year x.year h in let year = year_is b d (sym (same_one d b g)) in omega (arith, less, year) })
next_by d x false h = (d, record { is = rw h refl; from = inr refl; above = ltb-false d.year x.year h; before = λ b g. year_is b d (sym (same_one d b g)) })

next : (best : Option Event) (x : Event) → (y : Event) × Next best x y
next None x = (x, record { is = refl; from = inl refl; above = omega arith; before = λ b g. absurd (no_two b g) })
next (Some d) x = next_by d x (nat_lt d.year x.year) refl

either_way : (x e : Event) (es : List Event) (b : Bool) → same_event x e ≡ b → holds e (x ∷ es) ≡ true → (x ≡ e) ⊎ (holds e es ≡ true)
either_way x e es true is h = inl (event_one x e is)
either_way x e es false is h = inr (rw is at h)

held_first : (x e : Event) (es : List Event) → x ≡ e → holds e (x ∷ es) ≡ true
held_first x e es same = rw (same, event_itself e) refl

or_true : (b : Bool) → (b || true) ≡ true
or_true true = refl
or_true false = refl

held_later : (x e : Event) (es : List Event) → holds e es ≡ true → holds e (x ∷ es) ≡ true
held_later x e es h = rw h (or_true (same_event x e))

years_up : (a b c : ℕ) → a ≤ b → b ≤ c → a ≤ c
years_up a b c p q = omega (arith, p, q)

top_more : (best : Option Event) (x y : Event) (es : List Event) (o : Option Event) → Next best x y → IsTop (Some y) es o → IsTop best (x ∷ es) o
top_more best x y es None n top = absurd (no_one y top.0)
top_more best x y es (Some m) n top =
    let up : y.year ≤ m.year = top.1.1 y refl in
    let from : (holds m (x ∷ es) ≡ true) ⊎ (best ≡ Some m) =
    elim top.0 [
      | inl h ↦ inl (held_later x m es h)
      | inr same ↦ (let one = same_one y m same in elim n.from [
        | inl new ↦ inl (held_first x m es (sym new ∙ one))
        | inr old ↦ inr (old ∙ ap (λ (e : Event). Some e) one)
      ])
    ] in (
      from,
      (
        (λ e h. elim (either_way x e es (same_event x e) refl h) [
          | inl same ↦ years_up e.year y.year m.year (subst (λ (d : Event). d.year ≤ y.year) same n.above) up
          | inr later ↦ top.1.0 e later
        ]),
        (λ b g. years_up b.year y.year m.year (n.before b g) up),
      ),
    )

top_is : (best : Option Event) (es : List Event) → IsTop best es (fold later_event best es)
top_is best [] = top_none best
top_is best (x ∷ es) =
    let n = next best x in
    top_more best x n.0 es (fold later_event (later_event best x) es) n.1 (subst (λ (o : Option Event). IsTop o es (fold later_event (later_event best x) es)) n.1.is (top_is (later_event best x) es))

-- two lists with the same events of one hazard and number

none_held : (es : List Event) → ((e : Event) → holds e es ≡ false) → es ≡ []
none_held [] h = refl
none_held (x ∷ es) h = let never : true ≡ false = sym (held_first x x es refl) ∙ h x in cc

event_is : (d e : Event) → d.hazard ≡ e.hazard → d.etn ≡ e.etn → d.year ≡ e.year → d ≡ e
event_is d e h n y = λ i. record { hazard = h i; etn = n i; year = y i }

le_both : (a b : ℕ) → a ≤ b → b ≤ a → a ≡ b
le_both a b p q = omega (arith, p, q)

record IsOf (h : Hazard) (n : ℕ) (e : Event) : Type 0 where
  hazard : e.hazard ≡ h
  etn : e.etn ≡ n

module _ (h : Hazard) (n : ℕ) (es fs : List Event) (alike : (e : Event) → holds e es ≡ holds e fs) (own : (e : Event) → holds e es ≡ true → IsOf h n e) where
  no_best : (m : Event) → ◌≡◌ {A = Option Event} None (Some m) → ⊥
  no_best m h = no_two m h

  held_by : (m : Event) (gs : List Event) → (holds m gs ≡ true) ⊎ (◌≡◌ {A = Option Event} None (Some m)) → holds m gs ≡ true
  held_by m gs (inl h) = h
  held_by m gs (inr h) = absurd (no_best m h)

  tops_alike : (o p : Option Event) → IsTop None es o → IsTop None fs p → o ≡ p
  tops_alike None None a b = refl
  tops_alike None (Some m) a b =
      let there = held_by m fs b.0 in
      let gone : holds m es ≡ false = ap (holds m) a.1 in
      let never : true ≡ false = sym there ∙ sym (alike m) ∙ gone in cc
  tops_alike (Some m) None a b =
      let there = held_by m es a.0 in
      let gone : holds m fs ≡ false = ap (holds m) b.1 in
      let never : true ≡ false = sym there ∙ alike m ∙ gone in cc
  tops_alike (Some m) (Some k) a b =
      let first = held_by m es a.0 in
      let second : holds k es ≡ true = alike k ∙ held_by k fs b.0 in
      let p = own m first in
      let q = own k second in
      let years = le_both m.year k.year (b.1.0 m (sym (alike m) ∙ first)) (a.1.0 k second) in
      ap (λ (e : Event). Some e) (event_is m k (p.hazard ∙ sym q.hazard) (p.etn ∙ sym q.etn) years)

  top_alike : top_of es ≡ top_of fs
  top_alike = tops_alike (top_of es) (top_of fs) (top_is None es) (top_is None fs)

-- the events of those that pass

and_three : (a b c : Bool) → (a && (b && c)) ≡ ((a && b) && c)
and_three true b c = refl
and_three false b c = refl

module _ {X : Type 0} (f : X → Event) where
  pass_step : (b : Bool) (p : X → Bool) (best : Option Event) (x : X) (xs : List X) → p x ≡ b →
      ((more : Option Event) → fold (λ (best : Option Event) (x : X). if p x then later_event best (f x) else best) more xs ≡ fold later_event more (map f (filter p xs))) →
      fold (λ (best : Option Event) (x : X). if p x then later_event best (f x) else best) best (x ∷ xs) ≡ fold later_event best (map f (filter p (x ∷ xs)))
  pass_step true p best x xs is more = rw is (more (later_event best (f x)))
  pass_step false p best x xs is more = rw is (more best)

  passing : (p : X → Bool) (xs : List X) (best : Option Event) → fold (λ (best : Option Event) (x : X). if p x then later_event best (f x) else best) best xs ≡ fold later_event best (map f (filter p xs))
  passing p [] best = refl
  passing p (x ∷ xs) best = pass_step (p x) p best x xs refl (passing p xs)

  held_step : (b : Bool) (p : X → Bool) (e : Event) (x : X) (xs : List X) → p x ≡ b → holds e (map f (filter p xs)) ≡ list_any (λ x. p x && same_event (f x) e) xs →
      holds e (map f (filter p (x ∷ xs))) ≡ list_any (λ x. p x && same_event (f x) e) (x ∷ xs)
  held_step true p e x xs is more = rw is (ap (λ (b : Bool). same_event (f x) e || b) more)
  held_step false p e x xs is more = rw is more

  held_among : (p : X → Bool) (e : Event) (xs : List X) → holds e (map f (filter p xs)) ≡ list_any (λ x. p x && same_event (f x) e) xs
  held_among p e [] = refl
  held_among p e (x ∷ xs) = held_step (p x) p e x xs refl (held_among p e xs)

  abbrev has_number : Hazard → ℕ → Event → Bool
  has_number h n e = same_hazard e.hazard h && (e.etn == n)

  number_step : (h : Hazard) (n : ℕ) (d e : Event) (k b : Bool) → same_event d e ≡ b → ((has_number h n d && k) && same_event d e) ≡ (has_number h n e && (same_event d e && k))
  number_step h n d e k true is = rw is (and-true (has_number h n d && k) ∙ ap (λ (c : Event). has_number h n c && k) (event_one d e is))
  number_step h n d e k false is = rw is (and-false (has_number h n d && k) ∙ sym (and-false (has_number h n e)))

  or_inside : (c a b : Bool) → ((c && a) || (c && b)) ≡ (c && (a || b))
  or_inside true a b = refl
  or_inside false a b = refl

  held_by_number : (h : Hazard) (n : ℕ) (k : X → Bool) (e : Event) (xs : List X) → list_any (λ x. (has_number h n (f x) && k x) && same_event (f x) e) xs ≡ (has_number h n e && list_any (λ x. same_event (f x) e && k x) xs)
  held_by_number h n k e [] = sym (and-false (has_number h n e))
  held_by_number h n k e (x ∷ xs) =
      ap (λ (b : Bool). b || list_any (λ x. (has_number h n (f x) && k x) && same_event (f x) e) xs) (number_step h n (f x) e (k x) (same_event (f x) e) refl)
      ∙ ap (λ (b : Bool). (has_number h n e && (same_event (f x) e && k x)) || b) (held_by_number h n k e xs)
      ∙ or_inside (has_number h n e) (same_event (f x) e && k x) (list_any (λ x. same_event (f x) e && k x) xs)

  -- the event is among those of a hazard and number that pass a test
  held_passing : (h : Hazard) (n : ℕ) (k : X → Bool) (e : Event) (xs : List X) → holds e (map f (filter (λ x. has_number h n (f x) && k x) xs)) ≡ (has_number h n e && list_any (λ x. same_event (f x) e && k x) xs)
  held_passing h n k e xs = held_among (λ x. has_number h n (f x) && k x) e xs ∙ held_by_number h n k e xs

twice_step : {X : Type 0} (p q : X → Bool) (b : Bool) (x : X) (xs : List X) → q x ≡ b → filter p (filter q xs) ≡ filter (λ x. q x && p x) xs → filter p (filter q (x ∷ xs)) ≡ filter (λ x. q x && p x) (x ∷ xs)
twice_step p q true x xs is more = rw (is, more) refl
twice_step p q false x xs is more = rw is more

filter_twice : {X : Type 0} (p q : X → Bool) (xs : List X) → filter p (filter q xs) ≡ filter (λ x. q x && p x) xs
filter_twice p q [] = refl
filter_twice p q (x ∷ xs) = twice_step p q (q x) x xs refl (filter_twice p q xs)

-- standing events that are open

abbrev event_of : Standing → Event
event_of s = s.event

abbrev open_now : ℕ → Standing → Bool
open_now t s = is_not_long_past s.latest t

other_above : (t : ℕ) (e : Event) (standing : List Standing) → AllByRecursion (λ s. by_event e s.event ≡ Less) standing → list_any (λ s. same_event s.event e && open_now t s) standing ≡ false
other_above t e [] all = refl
other_above t e (s ∷ standing) all =
    let other : same_event s.event e ≡ false = false_from_ne_true _ (λ g.
    let tied : by_event e s.event ≡ Equal = ap (λ (y : Event). by_event e y) (event_one s.event e g) ∙ tied_itself by_event_total e in cc) in
    rw other (other_above t e standing all.1)

open_here : (same : Bool) (t : ℕ) (e : Event) (s : Standing) (standing : List Standing) → same_event s.event e ≡ same → AllByRecursion (λ y. by_standing s y ≡ Less) standing →
    list_any (λ s. same_event s.event e && open_now t s) standing ≡ open_by t (end_in standing e) → list_any (λ s. same_event s.event e && open_now t s) (s ∷ standing) ≡ open_by t (end_in (s ∷ standing) e)
open_here true t e s standing is above more =
    let none = subst (λ (d : Event). list_any (λ s. same_event s.event d && open_now t s) standing ≡ false) (event_one s.event e is) (other_above t s.event standing above) in
    rw (end_cons s standing e, is, none) (sym (or_false (open_now t s)))
open_here false t e s standing is above more = rw (end_cons s standing e, is) more

open_in : (t : ℕ) (e : Event) (standing : List Standing) → IsStrictlySortedBy by_standing standing → list_any (λ s. same_event s.event e && open_now t s) standing ≡ open_by t (end_in standing e)
unfolding IsStrictlySortedBy
open_in t e [] up = refl
open_in t e (s ∷ standing) up = open_here (same_event s.event e) t e s standing refl up.0 (open_in t e standing up.1)

number_kept : (h : Hazard) (n t : ℕ) (standing : List Standing) → filter (open_now t) (of_number n (of_hazard h standing)) ≡ filter (λ s. has_number event_of h n s.event && open_now t s) standing
number_kept h n t standing =
    filter_twice (open_now t) (λ (s : Standing). s.event.etn == n) (of_hazard h standing)
    ∙ filter_twice (λ (s : Standing). (s.event.etn == n) && open_now t s) (λ (s : Standing). same_hazard s.event.hazard h) standing
    ∙ filter_agree (λ (s : Standing). same_hazard s.event.hazard h && ((s.event.etn == n) && open_now t s)) (λ s. has_number event_of h n s.event && open_now t s) (λ s. and_three (same_hazard s.event.hazard h) (s.event.etn == n) (open_now t s)) standing

-- those of a hazard

own_step : (h : Hazard) (b : Bool) (s : Standing) (standing : List Standing) → same_hazard s.event.hazard h ≡ b → AllByRecursion (λ (s : Standing). s.event.hazard ≡ h) (of_hazard h standing) → AllByRecursion (λ (s : Standing). s.event.hazard ≡ h) (of_hazard h (s ∷ standing))
own_step h true s standing is more = rw is (hazard_one s.event.hazard h is, more)
own_step h false s standing is more = rw is more

all_own : (h : Hazard) (standing : List Standing) → AllByRecursion (λ (s : Standing). s.event.hazard ≡ h) (of_hazard h standing)
all_own h [] = tt
all_own h (s ∷ standing) = own_step h (same_hazard s.event.hazard h) s standing refl (all_own h standing)

end_step : (h : Hazard) (b : Bool) (s : Standing) (standing : List Standing) (e : Event) → e.hazard ≡ h → same_hazard s.event.hazard h ≡ b → end_in (of_hazard h standing) e ≡ end_in standing e → end_in (of_hazard h (s ∷ standing)) e ≡ end_in (s ∷ standing) e
end_step h true s standing e own is more = rw is (end_cons s (of_hazard h standing) e ∙ ap (λ (o : Option End). cond (same_event s.event e) (Some s.latest) o) more ∙ sym (end_cons s standing e))
end_step h false s standing e own is more =
    let other : same_event s.event e ≡ false = false_from_ne_true _ (λ g.
    let same : s.event.hazard ≡ h = ap (λ (d : Event). d.hazard) (event_one s.event e g) ∙ own in
    let kept : same_hazard s.event.hazard h ≡ true = rw same (hazard_itself h) in cc) in
    let skip : end_in (s ∷ standing) e ≡ end_in standing e = end_cons s standing e ∙ ap (λ (b : Bool). cond b (Some s.latest) (end_in standing e)) other in
    rw is (more ∙ sym skip)

end_of_hazard : (h : Hazard) (standing : List Standing) (e : Event) → e.hazard ≡ h → end_in (of_hazard h standing) e ≡ end_in standing e
end_of_hazard h [] e own = refl
end_of_hazard h (s ∷ standing) e own = end_step h (same_hazard s.event.hazard h) s standing e own refl (end_of_hazard h standing e own)

module _ (rows : List Row) (standing : List Standing) (all : AreStanding rows standing) (h : Hazard) where
  module _ (n t : ℕ) where
    abbrev by_rows : List Event
    by_rows = map (λ (r : Row). r.event) (filter (λ (r : Row). has_number event_of h n r.event && keeps_open t r) rows)

    abbrev by_list : List Event
    by_list = map event_of (filter (λ s. has_number event_of h n s.event && open_now t s) standing)

    row_held : (e : Event) → holds e by_rows ≡ (has_number event_of h n e && is_open rows t e)
    row_held e = held_passing (λ (r : Row). r.event) h n (keeps_open t) e rows

    list_held : (e : Event) → holds e by_list ≡ (has_number event_of h n e && is_open rows t e)
    list_held e =
        held_passing event_of h n (open_now t) e standing
        ∙ ap (λ (b : Bool). has_number event_of h n e && b) (open_in t e standing all.order ∙ ap (open_by t) (all.latest e) ∙ open_by_end t e rows)

    number_own : (e : Event) → holds e by_rows ≡ true → IsOf h n e
    number_own e held =
        let p = and_parts (has_number event_of h n e) (is_open rows t e) (sym (row_held e) ∙ held) in
        let q = and_parts (same_hazard e.hazard h) (e.etn == n) p.0 in
        record { hazard = hazard_one e.hazard h q.0; etn = eqb-true e.etn n q.1 }

    pub going_is : latest_open_event rows h n t ≡ last_open t (of_number n (of_hazard h standing))
    going_is =
        passing (λ (r : Row). r.event) (λ (r : Row). has_number event_of h n r.event && keeps_open t r) rows None
        ∙ top_alike h n by_rows by_list (λ e. row_held e ∙ sym (list_held e)) number_own
        ∙ ap (λ (some : List Standing). fold later_event None (map event_of some)) (sym (number_kept h n t standing))
        ∙ sym (passing event_of (open_now t) (of_number n (of_hazard h standing)) None)

  -- the standing events of the hazard are those of the rows
  pub standing_of : AreStandingOf h rows (of_hazard h standing)
  standing_of = record {
    order = hazard_by_number h standing all.order;
    hazard = all_own h standing;
    latest = λ e own. end_of_hazard h standing e own ∙ all.latest e;
  }
