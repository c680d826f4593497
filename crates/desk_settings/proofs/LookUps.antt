-- What is looked up in settings.
use Rattle.std.proofs.Common.{ℕ, zero, suc, ◌≡◌, ◌<◌, ◌↔◌, true, false, IsTrue, List, [], ◌∷◌, length, get_or, Option, Some, None, MatchOption, Contains, Ok, Err, refl, ap, sym, subst, ◌∙◌, arith, inl, inr}
use Rattle.std.specs.declared.cmp.Ordering.{Ordering}
use Rattle.std.specs.declared.cmp.Ordering.TheVariants.{Less, Equal, Greater}
use Rattle.std.specs.Ordering.{is_eq}
use Rattle.std.specs.List.{list_any}
use Rattle.std.specs.List.Sorted.{IsStrictlySortedBy, IsBinarySearchResult}
use Rattle.std.specs.Map.{keys_of}
use Rattle.std.specs.Str.{bytes_eq}
use Rattle.std.proofs.lemmas.Slice.Eq.{bytes_eq-Decides}
use Rattle.std.proofs.lemmas.Bool.{cases_Bool, false≢true}
use Rattle.std.specs.Cmp.{tied_itself}
use Rattle.hazard_types.specs.Places.{Place, by_place}
use Rattle.hazard_types.proofs.OrderLaws.{by_place_total, by_place_ties}
use Rattle.hazard_types.proofs.Sorted.{before, none_ties}
use Rattle.desk_settings.specs.Looking.{name_for_zone}
use Rattle.desk_settings.proofs.ZoneOrder.{Pair}

-- ---- desks

later : {X : Type 0} (x y : X) (xs : List X) → Contains xs x → Contains (y ∷ xs) x
later x y xs c = (suc c.0, omega (arith, c.1), c.2)

found_desk : (d : List ℕ) (ds : List (List ℕ)) → list_any (bytes_eq d) ds ≡ true → Contains ds d
found_desk d [] h = absurd (cc)
found_desk d (e ∷ es) h =
    elim (cases_Bool (bytes_eq d e)) [
      | inl same ↦ (0, omega arith, sym ((bytes_eq-Decides d e).0 same))
      | inr differs ↦ later d e es (found_desk d es (rw differs at h))
    ]

stands : (d : List ℕ) (ds : List (List ℕ)) (k : ℕ) → k < length ds → get_or ds k d ≡ d → list_any (bytes_eq d) ds ≡ true
stands d [] k h is = absurd (omega arith)
stands d (e ∷ es) zero h is = rw ((bytes_eq-Decides d e).1 (sym is)) refl
stands d (e ∷ es) (suc k) h is = let more = stands d es k (omega arith) is in elim (cases_Bool (bytes_eq d e)) [ inl same ↦ rw same | inr differs ↦ rw differs more ]

pub desk_stands : (d : List ℕ) (ds : List (List ℕ)) → IsTrue (list_any (bytes_eq d) ds) ↔ Contains ds d
desk_stands d ds = (found_desk d ds, λ c. stands d ds c.0 c.1 c.2)

-- ---- zones

-- the first pair that ties stands where a tie stands
at_tie : (z : Place) (pairs : List Pair) (i : ℕ) (d : Pair) → IsStrictlySortedBy by_place (keys_of pairs) → i < length pairs → by_place (get_or pairs i d).0 z ≡ Equal → name_for_zone pairs z ≡ Some (get_or pairs i d).1
unfolding IsStrictlySortedBy
at_tie z [] i d h lt tie = absurd (omega arith)
at_tie z (p ∷ pairs) zero d h lt tie = rw tie refl
at_tie z (p ∷ pairs) (suc i) d h lt tie =
    let less : by_place p.0 (get_or pairs i d).0 ≡ Less = before p.0 pairs i d h.0 (omega arith) in
    let first : by_place p.0 z ≡ Less = subst (λ (q : Place). by_place p.0 q ≡ Less) (by_place_ties (get_or pairs i d).0 z tie) less in
    rw first (at_tie z pairs i d h.1 (omega arith) tie)

no_tie : (z : Place) (pairs : List Pair) → ((k : ℕ) (d : Pair) → k < length pairs → is_eq (by_place (get_or pairs k d).0 z) ≡ false) → name_for_zone pairs z ≡ None
no_tie z [] h = refl
no_tie z (p ∷ pairs) h = rw (h 0 p (omega arith)) (no_tie z pairs (λ k d lt. h (suc k) d (omega arith)))

-- what a search among sorted zones finds
pub searched : (z : Place) (pairs : List Pair) (i : ℕ) (d : Pair) → IsStrictlySortedBy by_place (keys_of pairs) → i < length pairs → IsBinarySearchResult (λ (p : Pair). by_place p.0 z) pairs (Ok i) → name_for_zone pairs z ≡ Some (get_or pairs i d).1
searched z pairs i d h lt found = at_tie z pairs i d h lt (found d)

pub missed : (z : Place) (pairs : List Pair) (i : ℕ) → IsStrictlySortedBy by_place (keys_of pairs) → IsBinarySearchResult (λ (p : Pair). by_place p.0 z) pairs (Err i) → name_for_zone pairs z ≡ None
missed z pairs i h parted = no_tie z pairs (none_ties z pairs i h parted)

equal_is : (o : Ordering) → is_eq o ≡ true → o ≡ Equal
equal_is Less h = absurd (cc)
equal_is Equal h = refl
equal_is Greater h = absurd (cc)

-- a name that is found stands beside its zone, and none is found of a zone without one
abbrev pub Stands : List Pair → Place → Option (List ℕ) → Type 0
Stands pairs z o = MatchOption o (Contains (keys_of pairs) z → ⊥) (λ name. Contains pairs (z, name))

absent_behind : (z : Place) (p : Pair) (pairs : List Pair) → is_eq (by_place p.0 z) ≡ false → (Contains (keys_of pairs) z → ⊥) → Contains (keys_of (p ∷ pairs)) z → ⊥
absent_behind z p pairs differs h (zero, lt, is) = let tie : by_place p.0 z ≡ Equal = subst (λ (q : Place). by_place p.0 q ≡ Equal) is (tied_itself by_place_total p.0) in absurd (false≢true (sym differs ∙ ap is_eq tie))
absent_behind z p pairs differs h (suc k, lt, is) = h (k, omega arith, is)

stands_behind : (z : Place) (p : Pair) (pairs : List Pair) (o : Option (List ℕ)) → is_eq (by_place p.0 z) ≡ false → Stands pairs z o → Stands (p ∷ pairs) z o
stands_behind z p pairs None differs h = absent_behind z p pairs differs h
stands_behind z p pairs (Some name) differs h = later (z, name) p pairs h

pub name_found : (z : Place) (pairs : List Pair) → Stands pairs z (name_for_zone pairs z)
name_found z [] = λ c. omega (arith, c.1)
name_found z (p ∷ pairs) =
    elim (cases_Bool (is_eq (by_place p.0 z))) [
      | inl same ↦ let here : p.0 ≡ z = by_place_ties p.0 z (equal_is (by_place p.0 z) same) in rw same (0, omega arith, ap (λ (q : Place). (q, p.1)) here)
      | inr differs ↦ rw differs (stands_behind z p pairs (name_for_zone pairs z) differs (name_found z pairs))
    ]
