-- What is written reads back.
use Rattle.std.proofs.Common.{◌≡◌, ℕ, zero, suc, ◌+◌, ◌-◌, ◌<◌, ◌≤◌, ◌==◌, true, false, List, [], ◌∷◌, ◌++◌, length, get_or, refl, ap, sym, ◌∙◌, arith, append_assoc, append-nil, length-append, Option, None, Some, inl, inr, cond, lit≤}
use Rattle.std.specs.Prelude.{nat_le, flat_map}
use Rattle.std.specs.List.{AllByRecursion, All}
use Rattle.std.specs.List.Sorted.{IsStrictlySortedBy}
use Rattle.std.specs.declared.cmp.Ordering.TheVariants.{Less, Greater}
use Rattle.std.specs.Cmp.{IsTotalOrder}
use Rattle.std.specs.Cmp.Rules.{comparing}
use Rattle.std.specs.Ordering.{ordering_reverse}
use Rattle.std.proofs.Common.{rules}
use Rattle.std.proofs.lemmas.Bool.{le-ltb, both_ways, leb-true, and_parts, cases_Bool, and_from, eqb-true}
use Rattle.std.proofs.lemmas.Bool.Decides.{eqb_tells, nat_tests}
use Rattle.hazard_types.specs.Places.{Place, IsPlace, are_letters, is_number, by_place}
use Rattle.hazard_types.specs.declared.zone.Kind.{Kind}
use Rattle.hazard_types.specs.declared.zone.Kind.TheVariants.{C, Z}
use Rattle.hazard_types.specs.declared.calendar.DayStamp.{DayStamp}
use Rattle.ugc_codes.specs.declared.span.Span.{Span}
use Rattle.ugc_codes.specs.Grammar.{numbered, add, add_run, IsSpan, run_end, Spells, HasCode, IsGap, AreGroups, last_code, add_spans, zones_of, IsUgc}
use Rattle.hazard_types.specs.Digits.{is_day_stamp, three_digits, day_text}
use Rattle.hazard_types.specs.Names.{kind_code, zone_text}
use Rattle.ugc_codes.specs.Written.{are_alike, continues_span, single, pieces, groups_from, code_part, own_text, passes, put_text, put_column, lay, ugc_text}

-- ---- places that are alike

same_kind : (a b : Kind) → (kind_code a == kind_code b) ≡ true → a ≡ b
same_kind C C h = refl
same_kind C Z h = absurd (both_ways _ refl h)
same_kind Z C h = absurd (both_ways _ refl h)
same_kind Z Z h = refl

alike_same : (a b : Place) → IsPlace a → IsPlace b → are_alike a b ≡ true → (a.state ≡ b.state) × (a.kind ≡ b.kind)
alike_same a b is is2 h =
    let two = and_parts _ (kind_code a.kind == kind_code b.kind) h in
    let one = and_parts _ _ two.0 in
    let la : length a.state ≡ 2 = is.1 in
    let lb : length b.state ≡ 2 = is2.1 in
    (two_same a.state b.state la lb (eqb-true _ _ one.0) (eqb-true _ _ one.1), same_kind a.kind b.kind two.1)
  where
    two_same : (xs ys : List ℕ) → length xs ≡ 2 → length ys ≡ 2 → get_or xs 0 0 ≡ get_or ys 0 0 → get_or xs 1 0 ≡ get_or ys 1 0 → xs ≡ ys
    two_same (a ∷ b ∷ []) (c ∷ d ∷ []) l m e f = λ i. e i ∷ f i ∷ []
    two_same [] ys l m e f = absurd (omega arith)
    two_same (a ∷ []) ys l m e f = absurd (omega arith)
    two_same (a ∷ b ∷ c ∷ xs) ys l m e f = absurd (omega arith)
    two_same (a ∷ b ∷ []) [] l m e f = absurd (omega arith)
    two_same (a ∷ b ∷ []) (c ∷ []) l m e f = absurd (omega arith)
    two_same (a ∷ b ∷ []) (c ∷ d ∷ y ∷ ys) l m e f = absurd (omega arith)

abbrev pub ArePlaces : List Place → Type 0
ArePlaces = AllByRecursion IsPlace

number_low : (p : Place) → IsPlace p → (1 ≤ p.number) × (p.number ≤ 999)
number_low p is = let h = and_parts (are_letters p.state) (is_number p.number) is.0 in let n = and_parts (nat_le 1 p.number) (nat_le p.number 999) h.1 in (leb-true _ _ n.0, leb-true _ _ n.1)

number_is : (n : ℕ) → 1 ≤ n → n ≤ 999 → is_number n ≡ true
number_is n p q = grind (arith, nat_tests)

single_is : (p : Place) → IsPlace p → IsSpan (single p)
single_is p is = let h = and_parts (are_letters p.state) (is_number p.number) is.0 in record { state = is.1; letters = h.0; first = h.1; last = (number_low p is).1; order = omega arith }

first_is : (s : Span) → IsSpan s → IsPlace s.first
first_is s is = (and_from _ _ is.letters is.first, is.state)

-- what holds of each element of two lists holds of each of both
pub all_both : {X : Type 0} (P : X → Type 0) (xs ys : List X) → AllByRecursion P xs → AllByRecursion P ys → AllByRecursion P (xs ++ ys)
all_both P [] ys p q = q
all_both P (x ∷ xs) ys p q = (p.0, all_both P xs ys p.1 q)

second_is : (s : Span) → IsSpan s → s.last ≡ s.first.number + 1 → IsPlace (numbered s.first (s.first.number + 1))
second_is s is e = let last : s.last ≤ 999 = is.last in (and_from _ _ is.letters (number_is (s.first.number + 1) (omega arith) (omega arith)), is.state)

pieces_are : (s : Span) → IsSpan s → AllByRecursion IsSpan (pieces s)
pieces_are s is = elim (eqb_tells s.last (s.first.number + 1)) [
  | inl e ↦ rw e.0 (single_is s.first (first_is s is), (single_is _ (second_is s is e.1), tt))
  | inr e ↦ rw e.0 (is, tt)
]

longer_is : (s : Span) (p : Place) → IsSpan s → IsPlace p → p.number ≡ s.last + 1 → IsSpan (record { first = s.first; last = p.number })
longer_is s p is place e =
    let order : s.first.number ≤ s.last = is.order in
    record { state = is.state; letters = is.letters; first = is.first; last = (number_low p place).1; order = omega arith }

groups_are : (s : Span) (ps : List Place) → IsSpan s → ArePlaces ps → AllByRecursion IsSpan (groups_from s ps)
groups_are s [] is places = pieces_are s is
groups_are s (p ∷ ps) is places = elim (cases_Bool (continues_span s p)) [
  | inl e ↦ let h = and_parts (are_alike s.first p) (p.number == s.last + 1) e in rw e (groups_are _ ps (longer_is s p is places.0 (eqb-true _ _ h.1)) places.1)
  | inr e ↦ rw e (all_both IsSpan (pieces s) (groups_from (single p) ps) (pieces_are s is) (groups_are (single p) ps (single_is p places.0) places.1))
]

-- ---- the zones of the groups

abbrev pub places : Place → ℕ → List Place
places p zero = []
places p (suc k) = p ∷ places (numbered p (p.number + 1)) k

abbrev pub span_places : Span → List Place
span_places s = places s.first (s.last + 1 - s.first.number)

places_more : (p : Place) (k : ℕ) → places p (suc k) ≡ places p k ++ numbered p (p.number + k) ∷ []
places_more p zero = let e : p.number ≡ p.number + 0 = omega arith in ap (λ (n : ℕ). numbered p n ∷ []) e
places_more p (suc k) =
    let e : p.number + 1 + k ≡ p.number + suc k = omega arith in
    ap (λ (ps : List Place). p ∷ ps) (places_more (numbered p (p.number + 1)) k ∙ ap (λ (n : ℕ). places (numbered p (p.number + 1)) k ++ numbered p n ∷ []) e)

pieces_places : (s : Span) → IsSpan s → flat_map span_places (pieces s) ≡ span_places s
pieces_places s is = elim (eqb_tells s.last (s.first.number + 1)) [
  | inl e ↦
      let n = s.first.number in
      let one : n + 1 - n ≡ 1 = omega arith in
      let two : n + 1 + 1 - (n + 1) ≡ 1 = omega arith in
      let both : s.last + 1 - n ≡ 2 = omega (arith, e.1) in
      rw (e.0, one, two, both) refl
  | inr e ↦ rw e.0 (append-nil (span_places s))
]

flat_append : (xs ys : List Span) → flat_map span_places (xs ++ ys) ≡ flat_map span_places xs ++ flat_map span_places ys
flat_append [] ys = refl
flat_append (x ∷ xs) ys = ap (λ (zs : List Place). span_places x ++ zs) (flat_append xs ys) ∙ sym (append_assoc (span_places x) (flat_map span_places xs) (flat_map span_places ys))

single_places : (p : Place) → span_places (single p) ≡ p ∷ []
single_places p = let e : p.number + 1 - p.number ≡ 1 = omega arith in rw e refl

longer_places : (s : Span) (p : Place) → IsSpan s → IsPlace p → continues_span s p ≡ true → span_places (record { first = s.first; last = p.number }) ≡ span_places s ++ p ∷ []
longer_places s p is place h =
    let t = and_parts (are_alike s.first p) (p.number == s.last + 1) h in
    let next : p.number ≡ s.last + 1 = eqb-true _ _ t.1 in
    let order : s.first.number ≤ s.last = is.order in
    let alike = alike_same s.first p (first_is s is) place t.0 in
    let count : p.number + 1 - s.first.number ≡ suc (s.last + 1 - s.first.number) = omega arith in
    let number : s.first.number + (s.last + 1 - s.first.number) ≡ p.number = omega arith in
    let same : numbered s.first (s.first.number + (s.last + 1 - s.first.number)) ≡ p = λ i. record { state = alike.0 i; kind = alike.1 i; number = number i } in
    rw count (places_more s.first (s.last + 1 - s.first.number) ∙ ap (λ (q : Place). span_places s ++ q ∷ []) same)

groups_places : (s : Span) (ps : List Place) → IsSpan s → ArePlaces ps → flat_map span_places (groups_from s ps) ≡ span_places s ++ ps
groups_places s [] is places = pieces_places s is ∙ sym (append-nil (span_places s))
groups_places s (p ∷ ps) is places = elim (cases_Bool (continues_span s p)) [
  | inl e ↦ let h = and_parts (are_alike s.first p) (p.number == s.last + 1) e in
      rw e (groups_places _ ps (longer_is s p is places.0 (eqb-true _ _ h.1)) places.1
      ∙ ap (λ (zs : List Place). zs ++ ps) (longer_places s p is places.0 e) ∙ append_assoc (span_places s) (p ∷ []) ps)
  | inr e ↦ rw e (flat_append (pieces s) (groups_from (single p) ps)
      ∙ (λ i. pieces_places s is i ++ groups_places (single p) ps (single_is p places.0) places.1 i)
      ∙ ap (λ (zs : List Place). span_places s ++ (zs ++ ps)) (single_places p))
]

abbrev pub add_all : List Place → List Place → List Place
add_all zones [] = zones
add_all zones (p ∷ ps) = add_all (add zones p) ps

add_all_append : (zones ps qs : List Place) → add_all zones (ps ++ qs) ≡ add_all (add_all zones ps) qs
add_all_append zones [] qs = refl
add_all_append zones (p ∷ ps) qs = add_all_append (add zones p) ps qs

run_is_all : (zones : List Place) (p : Place) (k : ℕ) → add_run zones p k ≡ add_all zones (places p k)
run_is_all zones p zero = refl
run_is_all zones p (suc k) = run_is_all (add zones p) (numbered p (p.number + 1)) k

spans_are_all : (zones : List Place) (spans : List Span) → add_spans zones spans ≡ add_all zones (flat_map span_places spans)
spans_are_all zones [] = refl
spans_are_all zones (s ∷ spans) = spans_are_all (add_run zones s.first (s.last + 1 - s.first.number)) spans ∙ ap (λ (zs : List Place). add_all zs (flat_map span_places spans)) (run_is_all zones s.first (s.last + 1 - s.first.number)) ∙ sym (add_all_append zones (span_places s) (flat_map span_places spans))

-- ---- zones in order stay as they are

by_place_total : IsTotalOrder by_place
by_place_total = search (comparing, rules)

abbrev pub Behind : List Place → Place → Type 0
Behind done z = AllByRecursion (λ k. by_place z k ≡ Greater) done

added_last : (done : List Place) (z : Place) → Behind done z → add done z ≡ done ++ z ∷ []
added_last [] z h = refl
added_last (k ∷ done) z h = rw h.0 (ap (λ (ks : List Place). k ∷ ks) (added_last done z h.1))

behind_more : (done : List Place) (z y : Place) → Behind done y → by_place z y ≡ Less → Behind (done ++ z ∷ []) y
behind_more [] z y h less = (by_place_total.antisymm y z ∙ ap ordering_reverse less, tt)
behind_more (k ∷ done) z y h less = (h.0, behind_more done z y h.1 less)

all_behind : (done : List Place) (z : Place) (zs : List Place) → AllByRecursion (Behind done) zs → AllByRecursion (λ y. by_place z y ≡ Less) zs → AllByRecursion (Behind (done ++ z ∷ [])) zs
all_behind done z [] h less = tt
all_behind done z (y ∷ zs) h less = (behind_more done z y h.0 less.0, all_behind done z zs h.1 less.1)

sorted_added : (done zs : List Place) → AllByRecursion (Behind done) zs → IsStrictlySortedBy by_place zs → add_all done zs ≡ done ++ zs
unfolding IsStrictlySortedBy
sorted_added done [] h sorted = sym (append-nil done)
sorted_added done (z ∷ zs) h sorted =
    ap (λ (ks : List Place). add_all ks zs) (added_last done z h.0)
    ∙ sorted_added (done ++ z ∷ []) zs (all_behind done z zs h.1 sorted.0) sorted.1
    ∙ append_assoc done (z ∷ []) zs

nothing_behind : (zs : List Place) → AllByRecursion (Behind []) zs
nothing_behind [] = tt
nothing_behind (z ∷ zs) = (tt, nothing_behind zs)

-- ---- the lines

abbrev pub gap_of : ℕ → List ℕ → List ℕ
gap_of column own = cond (passes column own) (10 ∷ []) []

gap_is : (column : ℕ) (own : List ℕ) → IsGap (gap_of column own)
gap_is column own = elim (cases_Bool (passes column own)) [ inl e ↦ rw e (refl, tt) | inr e ↦ rw e tt ]

put_is : (out : List ℕ) (column : ℕ) (own : List ℕ) → put_text out column own ≡ out ++ (gap_of column own ++ own)
put_is out column own = elim (cases_Bool (passes column own)) [ inl e ↦ rw e (append_assoc out (10 ∷ []) own) | inr e ↦ rw e refl ]

abbrev pub BeforeIs : Option Place → Type 0
BeforeIs None = Unit {0}
BeforeIs (Some b) = IsPlace b

code_spelled : (before : Option Place) (s : Span) → BeforeIs before → IsSpan s → Spells before s (code_part before s.first ++ run_end s)
code_spelled None s good is = inl refl
code_spelled (Some b) s good is = elim (cases_Bool (are_alike b s.first)) [
  | inl e ↦ rw e (inr (alike_same b s.first good (first_is s is) e, refl))
  | inr e ↦ rw e (inl refl)
]

-- the text of the next group, or of the expiry
abbrev pub first_text : Option Place → List Span → DayStamp → List ℕ
first_text before [] d = day_text d ++ 45 ∷ []
first_text before (s ∷ spans) d = own_text before s

pub record Laid (out : List ℕ) (column : ℕ) (before : Option Place) (spans : List Span) (d : DayStamp) : Type 0 where
  pub front : List ℕ
  pub groups : AreGroups before spans front
  pub is : lay out column before spans d ≡ out ++ (gap_of column (first_text before spans d) ++ (front ++ (day_text d ++ 45 ∷ [])))

laid : (out : List ℕ) (column : ℕ) (before : Option Place) (spans : List Span) (d : DayStamp) → BeforeIs before → AllByRecursion IsSpan spans → Laid out column before spans d
laid out column before [] d good are = record { front = []; groups = refl; is = put_is out column (day_text d ++ 45 ∷ []) }
laid out column before (s ∷ spans) d good are =
    let own = own_text before s in
    let part = code_part before s.first ++ run_end s in
    let then : Laid (put_text out column own) (put_column column own) (Some s.first) spans d = laid (put_text out column own) (put_column column own) (Some s.first) spans d (first_is s are.0) are.1 in
    let gap = gap_of (put_column column own) (first_text (Some s.first) spans d) in
    let day : List ℕ = day_text d ++ 45 ∷ [] in
    let tail : List ℕ = gap ++ (then.front ++ day) in
    let joined : own ++ tail ≡ (own ++ (gap ++ then.front)) ++ day = sym (append_assoc own (gap ++ then.front) day ∙ ap (λ (t : List ℕ). own ++ t) (append_assoc gap then.front day)) in
    record {
      front = own ++ (gap ++ then.front);
      groups = (part, gap, then.front, are.0, code_spelled before s good are.0, gap_is (put_column column own) (first_text (Some s.first) spans d), then.groups, append_assoc part (45 ∷ []) (gap ++ then.front));
      is = then.is ∙ ap (λ (t : List ℕ). t ++ tail) (put_is out column own) ∙ append_assoc out (gap_of column own ++ own) tail ∙ ap (λ (t : List ℕ). out ++ t) (append_assoc (gap_of column own) own tail ∙ ap (λ (t : List ℕ). gap_of column own ++ t) joined);
    }

end_short : (s : Span) → length (run_end s) ≤ 4
unfolding run_end
end_short s = elim (cases_Bool (s.first.number == s.last)) [ inl e ↦ rw e (lit≤ tt) | inr e ↦ rw e (lit≤ tt) ]

own_short : (s : Span) → IsSpan s → length (own_text None s) ≤ 11
own_short s is =
    let two : length s.first.state ≡ 2 = is.state in
    let c : length (zone_text s.first) ≡ length s.first.state + 4 = length-append s.first.state (kind_code s.first.kind ∷ three_digits s.first.number) in
    let a : length (own_text None s) ≡ length (zone_text s.first ++ run_end s) + 1 = length-append (zone_text s.first ++ run_end s) (45 ∷ []) in
    let b : length (zone_text s.first ++ run_end s) ≡ length (zone_text s.first) + length (run_end s) = length-append (zone_text s.first) (run_end s) in
    omega (arith, end_short s)

-- the first group stands on the first line
laid_first : (spans : List Span) (d : DayStamp) → AllByRecursion IsSpan spans → 0 < length spans → (front : List ℕ) × (AreGroups None spans front) × (lay [] 0 None spans d ≡ front ++ (day_text d ++ 45 ∷ []))
laid_first [] d are some = absurd (omega arith)
laid_first (s ∷ spans) d are some =
    let l : Laid [] 0 None (s ∷ spans) d = laid [] 0 None (s ∷ spans) d tt are in
    let short : length (own_text None s) ≤ 11 = own_short s are.0 in
    let fits : passes 0 (own_text None s) ≡ false = le-ltb 66 (0 + length (own_text None s)) (omega arith) in
    (l.front, l.groups, l.is ∙ rw fits refl)

-- behind groups there is a code
code_behind : (before : Option Place) (spans : List Span) → HasCode before → HasCode (last_code before spans)
code_behind before [] h = h
code_behind before (s ∷ spans) h = code_behind (Some s.first) spans tt

has_last : (spans : List Span) → 0 < length spans → HasCode (last_code None spans)
has_last [] some = absurd (omega arith)
has_last (s ∷ spans) some = code_behind (Some s.first) spans tt

pieces_some : (s : Span) → 0 < length (pieces s)
pieces_some s = elim (cases_Bool (s.last == s.first.number + 1)) [ inl e ↦ rw e (omega arith) | inr e ↦ rw e (omega arith) ]

groups_some : (s : Span) (ps : List Place) → 0 < length (groups_from s ps)
groups_some s [] = pieces_some s
groups_some s (p ∷ ps) = elim (cases_Bool (continues_span s p)) [
  | inl e ↦ rw e (groups_some (record { first = s.first; last = p.number }) ps)
  | inr e ↦ rw e (let size : length (pieces s ++ groups_from (single p) ps) ≡ length (pieces s) + length (groups_from (single p) ps) = length-append (pieces s) (groups_from (single p) ps) in omega (arith, pieces_some s))
]

all_places : (zs : List Place) → ((k : ℕ) (d : Place) → k < length zs → IsPlace (get_or zs k d)) → ArePlaces zs
all_places [] h = tt
all_places (z ∷ zs) h = (h 0 z (omega arith), all_places zs (λ k d lt. h (suc k) d (omega arith)))

pub written_back : (zones : List Place) (d : DayStamp) → 0 < length zones → All IsPlace zones → IsStrictlySortedBy by_place zones → is_day_stamp d ≡ true → (rest : List ℕ) → IsUgc (ugc_text zones d ++ rest) zones d (length (ugc_text zones d))
unfolding ugc_text
written_back [] d some are sorted day rest = absurd (omega arith)
written_back (p ∷ ps) d some are sorted day rest =
    let places : ArePlaces (p ∷ ps) = all_places (p ∷ ps) are in
    let is : IsSpan (single p) = single_is p places.0 in
    let spans = groups_from (single p) ps in
    let some_group : 0 < length spans = groups_some (single p) ps in
    let l = laid_first spans d (groups_are (single p) ps is places.1) some_group in
    let named : zones_of spans ≡ p ∷ ps =
    spans_are_all [] spans ∙ ap (add_all []) (groups_places (single p) ps is places.1 ∙ ap (λ (zs : List Place). zs ++ ps) (single_places p))
    ∙ sorted_added [] (p ∷ ps) (nothing_behind (p ∷ ps)) sorted in
    let whole : lay [] 0 None spans d ++ rest ≡ l.0 ++ (day_text d ++ 45 ∷ rest) = ap (λ (t : List ℕ). t ++ rest) l.2 ∙ append_assoc l.0 (day_text d ++ 45 ∷ []) rest ∙ ap (λ (t : List ℕ). l.0 ++ t) (append_assoc (day_text d) (45 ∷ []) rest) in
    record { spans = spans; front = l.0; rest = rest; groups = l.1; code = has_last spans some_group; day = day; whole = whole; zones = sym named; used = ap length l.2 ∙ length-append l.0 (day_text d ++ 45 ∷ []) }
