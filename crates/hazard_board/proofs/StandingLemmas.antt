-- Lists of standing events: what they say of each event after one is put or left out, and their order.
use Rattle.std.proofs.Common.{◌≡◌, ◌≢◌, ◌∙◌, ℕ, ◌<◌, ◌≤◌, List, [], ◌∷◌, Bool, true, false, Option, Some, None, Ordering, Less, Equal, Greater, refl, sym, ap, subst, cond, find, is_eq, is_some, length, get_or, insert, slice_set, option_map, arith}
use Rattle.std.specs.List.{AllByRecursion}
use Rattle.std.specs.List.Sorted.{IsStrictlySortedBy}
use Rattle.std.specs.Ordering.{ordering_reverse}
use Rattle.std.proofs.lemmas.Bool.{false_from_ne_true}
use Rattle.std.proofs.lemmas.Cmp.{tied_itself}
use Rattle.hazard_types.specs.Orders.{by_event}
use Rattle.hazard_types.specs.Same.{same_event}
use Rattle.hazard_types.specs.declared.hazard.Event.{Event}
use Rattle.hazard_types.specs.declared.period.End.{End}
use Rattle.hazard_types.proofs.Equality.{event_one}
use Rattle.hazard_types.proofs.OrderLaws.{by_event_total, by_event_ties}
use Rattle.hazard_board.specs.Seats.{placed_at, put_at, left_at}
use Rattle.hazard_board.specs.Standing.{by_standing, end_in, against, insert_standing, without, IsPlaceOf, IsGapFor, AreStanding}
use Rattle.hazard_board.specs.declared.standing.Standing.{Standing}
use Rattle.hazard_board.proofs.Runs.{Rises, front, rises, found_there, not_there, inserted, replaced, removed, stays, keeps_put, keeps_left, default_free}
use Rattle.hazard_board.proofs.Places.{event_tied}

pub event_rises : (a b : Standing) → by_standing a b ≡ Less → by_event a.event b.event ≢ Greater
event_rises a b less g = cc

pub standing_rises : (e : Event) (standing : List Standing) → IsStrictlySortedBy by_standing standing → Rises (against e) standing
standing_rises e standing up = rises by_event_total by_standing (λ (s : Standing). s.event) event_rises e standing up

-- a search by ties is one by the test
find_standing : (e : Event) (standing : List Standing) → find (λ (s : Standing). same_event s.event e) standing ≡ find (λ (s : Standing). is_eq (against e s)) standing
find_standing e [] = refl
find_standing e (s ∷ standing) = rw (event_tied s.event e) (ap (λ (o : Option Standing). cond (same_event s.event e) (Some s) o) (find_standing e standing))

-- what is found at a place

abbrev of_found : Option Standing → Option End
of_found o = option_map (λ (s : Standing). s.latest) o

module _ (e : Event) (standing : List Standing) (i : ℕ) (place : i ≡ front (against e) standing) where
  pub end_there : (s : Standing) → i < length standing → s ≡ get_or standing i s → same_event s.event e ≡ true → end_in standing e ≡ Some s.latest
  end_there s within is own = ap of_found (find_standing e standing ∙ found_there (against e) standing i s place within is (event_tied s.event e ∙ own))

  pub place_there : (s : Standing) → i < length standing → s ≡ get_or standing i s → same_event s.event e ≡ true → IsPlaceOf e standing i
  place_there s within is own =
      let tie = event_tied s.event e ∙ own in
      record {
        within = within;
        found = ap is_some (end_there s within is own);
        put = λ t same. subst (λ (d : Event). slice_set standing i t ≡ put_at (against d) t standing) (sym same) (replaced (against e) t standing i s place within is tie);
        left = removed (against e) standing i s place within is tie;
      }

  gap : IsStrictlySortedBy by_standing standing → i ≤ length standing → ((d : Standing) → i < length standing → is_eq (against e (get_or standing i d)) ≡ false) → IsGapFor e standing i
  gap up within other = record {
    within = within;
    found = ap of_found (find_standing e standing ∙ not_there (against e) standing i (standing_rises e standing up) place other);
    left = stays (against e) standing i place other;
    put = λ t same. subst (λ (d : Event). insert standing i t ≡ put_at (against d) t standing) (sym same) (inserted (against e) t standing i place other);
  }

  pub gap_behind : IsStrictlySortedBy by_standing standing → i ≤ length standing → length standing ≤ i → IsGapFor e standing i
  gap_behind up within past = gap up within (λ d lt. absurd (omega (arith, lt, past)))

  pub gap_before : IsStrictlySortedBy by_standing standing → (s : Standing) → i < length standing → s ≡ get_or standing i s → same_event s.event e ≡ false → IsGapFor e standing i
  gap_before up s within is other = gap up (omega (arith, within)) (λ d lt. ap (λ (x : Standing). is_eq (against e x)) (default_free (against e) standing i d s lt ∙ sym is) ∙ event_tied s.event e ∙ other)

-- an end after another was put or left out

first_end : (b : Bool) (s : Standing) (standing : List Standing) (e : Event) → of_found (cond b (Some s) (find (λ (s : Standing). same_event s.event e) standing)) ≡ cond b (Some s.latest) (end_in standing e)
first_end true s standing e = refl
first_end false s standing e = refl

pub end_cons : (s : Standing) (standing : List Standing) (e : Event) → end_in (s ∷ standing) e ≡ cond (same_event s.event e) (Some s.latest) (end_in standing e)
end_cons s standing e = first_end (same_event s.event e) s standing e

either : {X : Type 0} (b c : Bool) (x w y : X) → (b ≡ true → c ≡ false) → cond b x (cond c w y) ≡ cond c w (cond b x y)
either true true x w y h = let e = h refl in cc
either true false x w y h = refl
either false c x w y h = refl

again : {X : Type 0} (b c : Bool) (x w y : X) → b ≡ c → cond c w y ≡ cond c w (cond b x y)
again true true x w y h = refl
again false false x w y h = refl
again _ _ x w y h = cc

apart : (x e d : Event) → by_event x e ≢ Equal → same_event x d ≡ true → same_event e d ≡ false
apart x e d other h = false_from_ne_true _ (λ g.
    let same : x ≡ e = event_one x d h ∙ sym (event_one e d g) in
    other (ap (λ (y : Event). by_event y e) same ∙ tied_itself by_event_total e))

not_equal : (o : Ordering) → o ≡ Less → o ≢ Equal
not_equal o h g = cc

put_step : (o : Ordering) (s x : Standing) (standing : List Standing) (d : Event) → against s.event x ≡ o →
    end_in (insert_standing s standing) d ≡ cond (same_event s.event d) (Some s.latest) (end_in standing d) →
    end_in (placed_at o s x standing (insert_standing s standing)) d ≡ cond (same_event s.event d) (Some s.latest) (end_in (x ∷ standing) d)
put_step Less s x standing d e more =
    end_cons x (insert_standing s standing) d
    ∙ ap (λ (o : Option End). cond (same_event x.event d) (Some x.latest) o) more
    ∙ either (same_event x.event d) (same_event s.event d) (Some x.latest) (Some s.latest) (end_in standing d) (apart x.event s.event d (not_equal (by_event x.event s.event) e))
    ∙ ap (λ (o : Option End). cond (same_event s.event d) (Some s.latest) o) (sym (end_cons x standing d))
put_step Equal s x standing d e more =
    end_cons s standing d
    ∙ again (same_event x.event d) (same_event s.event d) (Some x.latest) (Some s.latest) (end_in standing d) (ap (λ (y : Event). same_event y d) (by_event_ties x.event s.event e))
    ∙ ap (λ (o : Option End). cond (same_event s.event d) (Some s.latest) o) (sym (end_cons x standing d))
put_step Greater s x standing d e more = end_cons s (x ∷ standing) d

pub end_put : (s : Standing) (standing : List Standing) (d : Event) → end_in (insert_standing s standing) d ≡ cond (same_event s.event d) (Some s.latest) (end_in standing d)
end_put s [] d = end_cons s [] d
end_put s (x ∷ standing) d = put_step (against s.event x) s x standing d refl (end_put s standing d)

-- an event before all of a list does not stand there
pub none_above : (e : Event) (standing : List Standing) → AllByRecursion (λ s. by_event e s.event ≡ Less) standing → end_in standing e ≡ None
none_above e [] all = refl
none_above e (s ∷ standing) all =
    let other : same_event s.event e ≡ false = false_from_ne_true _ (λ g.
    let tied : by_event e s.event ≡ Equal = ap (λ (y : Event). by_event e y) (event_one s.event e g) ∙ tied_itself by_event_total e in cc) in
    end_cons s standing e ∙ rw other (none_above e standing all.1)

cond_none : {X : Type 0} (b : Bool) (o : Option X) → (b ≡ true → o ≡ None) → o ≡ cond b None o
cond_none true o h = h refl
cond_none false o h = refl

all_after : (e : Event) (x : Standing) (standing : List Standing) → by_event e x.event ≡ Less → AllByRecursion (λ s. by_standing x s ≡ Less) standing → AllByRecursion (λ s. by_event e s.event ≡ Less) standing
all_after e x [] less all = tt
all_after e x (s ∷ standing) less all = (by_event_total.trans e x.event s.event less all.0, all_after e x standing less all.1)

turned : (a b : Event) → by_event a b ≡ Greater → by_event b a ≡ Less
turned a b h = by_event_total.antisymm b a ∙ ap ordering_reverse h

tied_after : (e : Event) (x : Standing) (standing : List Standing) → by_event x.event e ≡ Equal → AllByRecursion (λ s. by_standing x s ≡ Less) standing → AllByRecursion (λ s. by_event e s.event ≡ Less) standing
tied_after e x standing tie all = subst (λ (d : Event). AllByRecursion (λ s. by_event d s.event ≡ Less) standing) (by_event_ties x.event e tie) all

left_step : (o : Ordering) (e : Event) (x : Standing) (standing : List Standing) (d : Event) → by_event x.event e ≡ o → AllByRecursion (λ s. by_standing x s ≡ Less) standing →
    end_in (without e standing) d ≡ cond (same_event e d) None (end_in standing d) →
    end_in (left_at o x standing (without e standing)) d ≡ cond (same_event e d) None (end_in (x ∷ standing) d)
left_step Less e x standing d h above more =
    end_cons x (without e standing) d
    ∙ ap (λ (o : Option End). cond (same_event x.event d) (Some x.latest) o) more
    ∙ either (same_event x.event d) (same_event e d) (Some x.latest) None (end_in standing d) (apart x.event e d (not_equal (by_event x.event e) h))
    ∙ ap (λ (o : Option End). cond (same_event e d) None o) (sym (end_cons x standing d))
left_step Equal e x standing d h above more =
    cond_none (same_event e d) (end_in standing d) (λ g. subst (λ (y : Event). end_in standing y ≡ None) (event_one e d g) (none_above e standing (tied_after e x standing h above)))
    ∙ again (same_event x.event d) (same_event e d) (Some x.latest) None (end_in standing d) (ap (λ (y : Event). same_event y d) (by_event_ties x.event e h))
    ∙ ap (λ (o : Option End). cond (same_event e d) None o) (sym (end_cons x standing d))
left_step Greater e x standing d h above more =
    let less = turned x.event e h in
    cond_none (same_event e d) (end_in (x ∷ standing) d) (λ g. subst (λ (y : Event). end_in (x ∷ standing) y ≡ None) (event_one e d g) (none_above e (x ∷ standing) (less, all_after e x standing less above)))

pub end_left : (e : Event) (standing : List Standing) (d : Event) → IsStrictlySortedBy by_standing standing → end_in (without e standing) d ≡ cond (same_event e d) None (end_in standing d)
unfolding IsStrictlySortedBy
end_left e [] d up = cond_none (same_event e d) None (λ g. refl)
end_left e (x ∷ standing) d up = left_step (by_event x.event e) e x standing d refl up.0 (end_left e standing d up.1)

-- order

put_order_step : (o : Ordering) (s x : Standing) (standing : List Standing) → by_event x.event s.event ≡ o → IsStrictlySortedBy by_standing (x ∷ standing) → IsStrictlySortedBy by_standing (insert_standing s standing) →
    IsStrictlySortedBy by_standing (placed_at o s x standing (insert_standing s standing))
unfolding IsStrictlySortedBy
put_order_step Less s x standing h up more = (keeps_put (against s.event) (λ y. by_standing x y ≡ Less) s standing h up.0, more)
put_order_step Equal s x standing h up more = (tied_after s.event x standing h up.0, up.1)
put_order_step Greater s x standing h up more = let less = turned x.event s.event h in ((less, all_after s.event x standing less up.0), up)

pub put_in_order : (s : Standing) (standing : List Standing) → IsStrictlySortedBy by_standing standing → IsStrictlySortedBy by_standing (insert_standing s standing)
unfolding IsStrictlySortedBy
put_in_order s [] up = (tt, tt)
put_in_order s (x ∷ standing) up = put_order_step (by_event x.event s.event) s x standing refl up (put_in_order s standing up.1)

left_order_step : (o : Ordering) (e : Event) (x : Standing) (standing : List Standing) → IsStrictlySortedBy by_standing (x ∷ standing) → IsStrictlySortedBy by_standing (without e standing) →
    IsStrictlySortedBy by_standing (left_at o x standing (without e standing))
unfolding IsStrictlySortedBy
left_order_step Less e x standing up more = (keeps_left (against e) (λ y. by_standing x y ≡ Less) standing up.0, more)
left_order_step Equal e x standing up more = up.1
left_order_step Greater e x standing up more = up

pub left_in_order : (e : Event) (standing : List Standing) → IsStrictlySortedBy by_standing standing → IsStrictlySortedBy by_standing (without e standing)
unfolding IsStrictlySortedBy
left_in_order e [] up = tt
left_in_order e (x ∷ standing) up = left_order_step (by_event x.event e) e x standing up (left_in_order e standing up.1)

-- of no rows none stands
pub none_standing : AreStanding [] []
unfolding IsStrictlySortedBy
none_standing = record { order = tt; latest = λ e. refl }
