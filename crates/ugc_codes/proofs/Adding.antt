-- Zones are added.
use Rattle.std.proofs.Common.{◌≡◌, ℕ, zero, suc, ◌+◌, ◌-◌, ◌<◌, ◌≤◌, List, [], ◌∷◌, length, get_or, drop, below_more, refl, sym, subst, ◌∙◌, arith, lit<, None}
use Rattle.std.specs.declared.cmp.Ordering.{Ordering}
use Rattle.std.specs.declared.cmp.Ordering.TheVariants.{Less, Equal, Greater}
use Rattle.std.specs.Ordering.{match_ordering}
use Rattle.std.proofs.lemmas.List.{get_or_default}
use Rattle.hazard_types.specs.declared.calendar.DayStamp.{DayStamp}
use Rattle.ugc_codes.specs.declared.span.Span.{Span}
use Rattle.hazard_types.specs.Places.{Place, IsPlace, by_place}
use Rattle.ugc_codes.specs.Grammar.{numbered, add, add_run, add_spans, zones_of, IsSpan, AreGroups, HasCode, last_code, IsUgc}

-- the first of a run, then the others
pub run_steps : (zones : List Place) (p : Place) (n end : ℕ) → n < end → add_run zones (numbered p n) (end - n) ≡ add_run (add zones (numbered p n)) (numbered p (n + 1)) (end - (n + 1))
run_steps zones p n end lt = let e : end - n ≡ suc (end - (n + 1)) = omega arith in rw e refl

add_some : (zones : List Place) (p : Place) → 0 < length (add zones p)
add_some [] p = lit< tt
add_some (x ∷ xs) p = some_of (by_place p x) (p ∷ x ∷ xs) (x ∷ xs) (x ∷ add xs p) (omega arith) (omega arith) (omega arith)
  where
    some_of : (o : Ordering) (xs ys zs : List Place) → 0 < length xs → 0 < length ys → 0 < length zs → 0 < length (match_ordering o xs ys zs)
    some_of Less xs ys zs a b c = a
    some_of Equal xs ys zs a b c = b
    some_of Greater xs ys zs a b c = c

run_some : (zones : List Place) (p : Place) (k : ℕ) → 0 < length zones → 0 < length (add_run zones p k)
run_some zones p zero h = h
run_some zones p (suc k) h = run_some (add zones p) (numbered p (p.number + 1)) k (add_some zones p)

first_run : (zones : List Place) (p : Place) (k : ℕ) → 0 < k → 0 < length (add_run zones p k)
first_run zones p zero h = absurd (omega arith)
first_run zones p (suc k) h = run_some (add zones p) (numbered p (p.number + 1)) k (add_some zones p)

spans_some : (spans : List Span) (zones : List Place) → 0 < length zones → 0 < length (add_spans zones spans)
spans_some [] zones h = h
spans_some (s ∷ spans) zones h = spans_some spans (add_run zones s.first (s.last + 1 - s.first.number)) (run_some zones s.first (s.last + 1 - s.first.number) h)

named_some : (spans : List Span) (front : List ℕ) → AreGroups None spans front → HasCode (last_code None spans) → 0 < length (zones_of spans)
named_some [] front h code = absurd code
named_some (s ∷ spans) front h code =
    let is : IsSpan s = h.3 in
    let order : s.first.number ≤ s.last = is.order in
    spans_some spans _ (first_run [] s.first (s.last + 1 - s.first.number) (omega arith))

-- a UGC text names a zone
pub zones_some : (bytes : List ℕ) (named : List Place) (d : DayStamp) (n : ℕ) → IsUgc bytes named d n → 0 < length named
zones_some bytes named d n u = subst (λ (zs : List Place). 0 < length zs) (sym u.zones) (named_some u.spans u.front u.groups u.code)

-- one zone more is a place
pub places_more : (items : List Place) (i : ℕ) (z : Place) → i < length items → z ≡ get_or items i z → IsPlace z → ((k : ℕ) (d : Place) → k < i → IsPlace (get_or items k d)) → (k : ℕ) (d : Place) → k < i + 1 → IsPlace (get_or items k d)
places_more items i z lt is place before k d le = below_more (λ (j : ℕ). IsPlace (get_or items j d)) i (λ j below. before j d below) (subst IsPlace (is ∙ get_or_default items i z d lt) place) k le

-- the first and the others
pub places_all : (zones : List Place) → 0 < length zones → ((d : Place) → IsPlace (get_or zones 0 d)) → ((k : ℕ) (d : Place) → k < length zones - 1 → IsPlace (get_or (drop 1 zones) k d)) → (k : ℕ) (d : Place) → k < length zones → IsPlace (get_or zones k d)
places_all [] some first others k d lt = absurd (omega arith)
places_all (z ∷ zs) some first others zero d lt = first d
places_all (z ∷ zs) some first others (suc k) d lt = others k d (omega arith)
