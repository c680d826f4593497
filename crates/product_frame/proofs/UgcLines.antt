-- The lines of a UGC text as it is written: the first begins a segment, and no byte is a blank.
use Rattle.std.proofs.Common.{◌≡◌, ℕ, zero, suc, ◌+◌, ◌-◌, ◌/◌, ◌%◌, ◌≤◌, ◌==◌, ◌&&◌, ◌||◌, Bool, true, false, List, [], ◌∷◌, ◌++◌, length, refl, ap, sym, ◌∙◌, subst, arith, inl, inr, Option, Some, None, append_assoc}
use Rattle.std.specs.Prelude.{slice_index, nat_le}
use Rattle.std.specs.List.{All, AllByRecursion}
use Rattle.std.proofs.lemmas.Map.Views.{All-insert_key}
use Rattle.std.proofs.lemmas.Bool.{cases_Bool, and_parts, and_from, and_right, le-leb, leb-true, ne_eqb}
use Rattle.hazard_types.specs.Calendar.{is_digit}
use Rattle.hazard_types.specs.Places.{Place, by_place, is_capital, are_letters}
use Rattle.hazard_types.specs.declared.zone.Kind.{Kind}
use Rattle.hazard_types.specs.declared.zone.Kind.TheVariants.{C, Z}
use Rattle.hazard_types.specs.declared.calendar.DayStamp.{DayStamp}
use Rattle.ugc_codes.specs.declared.span.Span.{Span}
use Rattle.ugc_codes.specs.Grammar.{IsSpan, IsUgc, AreGroups, HasCode, last_code, run_end, full_text, numbered, add, add_run, add_spans}
use Rattle.hazard_types.specs.Names.{kind_code, zone_text}
use Rattle.hazard_types.specs.Digits.{three_digits, day_text}
use Rattle.ugc_codes.specs.Written.{are_alike, continues_span, single, pieces, groups_from, code_part, own_text, passes, put_text, put_column, lay, ugc_text}
use Rattle.hazard_types.specs.Characters.{is_blank}
use Rattle.product_frame.specs.Text.{line_of, before, is_left_out, is_empty}
use Rattle.product_frame.specs.Parts.{begins}
use Rattle.ugc_codes.proofs.Written.{all_both}
use Rattle.product_frame.proofs.Runs.{all_from}
use Rattle.product_frame.proofs.LocalLines.{NoEnd, digit_no_end}

abbrev pub NoBlank : ℕ → Type 0
NoBlank c = is_blank c ≡ false

pub digit_no_blank : (k : ℕ) → NoBlank (48 + k)
digit_no_blank k =
    let b : (48 + k == 32) ≡ false = ne_eqb _ _ (λ (e : 48 + k ≡ 32). omega arith) in
    let c : (48 + k == 9) ≡ false = ne_eqb _ _ (λ (e : 48 + k ≡ 9). omega arith) in
    rw (b, c) refl

capital_at_least : (c : ℕ) → is_capital c ≡ true → 65 ≤ c
capital_at_least c h = leb-true 65 c (and_parts _ _ h).0

pub capital_no_blank : (c : ℕ) → is_capital c ≡ true → NoBlank c
capital_no_blank c h =
    let le : 65 ≤ c = capital_at_least c h in
    let b : (c == 32) ≡ false = ne_eqb _ _ (λ (e : c ≡ 32). omega arith) in
    let d : (c == 9) ≡ false = ne_eqb _ _ (λ (e : c ≡ 9). omega arith) in
    rw (b, d) refl

pub capital_no_end : (c : ℕ) → is_capital c ≡ true → NoEnd c
capital_no_end c h = let le : 65 ≤ c = capital_at_least c h in ne_eqb _ _ (λ (e : c ≡ 10). omega arith)

pub digit_is : (k : ℕ) → k ≤ 9 → is_digit (48 + k) ≡ true
digit_is k le = and_from _ _ (le-leb 48 (48 + k) (omega arith)) (le-leb (48 + k) 57 (omega arith))

pub two_of : (t : List ℕ) → length t ≡ 2 → t ≡ slice_index t 0 ∷ slice_index t 1 ∷ []
two_of [] h = absurd (omega arith)
two_of (a ∷ []) h = absurd (omega arith)
two_of (a ∷ b ∷ []) h = refl
two_of (a ∷ b ∷ c ∷ t) h = absurd (omega arith)

-- ---- no blanks

three_clear : (n : ℕ) → AllByRecursion NoBlank (three_digits n)
three_clear n = (digit_no_blank (n / 100), (digit_no_blank (n / 10 % 10), (digit_no_blank (n % 10), tt)))

kind_clear : (kind : Kind) → NoBlank (kind_code kind)
kind_clear C = refl
kind_clear Z = refl

code_clear : (p : Place) → AllByRecursion NoBlank p.state → AllByRecursion NoBlank (zone_text p)
code_clear p h = all_both NoBlank p.state (kind_code p.kind ∷ three_digits p.number) h (kind_clear p.kind, three_clear p.number)

end_clear : (s : Span) → AllByRecursion NoBlank (run_end s)
unfolding run_end
end_clear s = elim (cases_Bool (s.first.number == s.last)) [ inl e ↦ rw e tt | inr e ↦ rw e (refl, three_clear s.last) ]

part_clear : (before : Option Place) (p : Place) → AllByRecursion NoBlank p.state → AllByRecursion NoBlank (code_part before p)
part_clear None p h = code_clear p h
part_clear (Some b) p h = elim (cases_Bool (are_alike b p)) [ inl e ↦ rw e (three_clear p.number) | inr e ↦ rw e (code_clear p h) ]

own_clear : (before : Option Place) (s : Span) → AllByRecursion NoBlank s.first.state → AllByRecursion NoBlank (own_text before s)
own_clear before s h =
    let a = all_both NoBlank (code_part before s.first) (run_end s) (part_clear before s.first h) (end_clear s) in
    all_both NoBlank (code_part before s.first ++ run_end s) (45 ∷ []) a (refl, tt)

put_clear : (out : List ℕ) (column : ℕ) (own : List ℕ) → AllByRecursion NoBlank out → AllByRecursion NoBlank own → AllByRecursion NoBlank (put_text out column own)
put_clear out column own h k = elim (cases_Bool (passes column own)) [
  | inl e ↦ rw e (all_both NoBlank (out ++ 10 ∷ []) own (all_both NoBlank out (10 ∷ []) h (refl, tt)) k)
  | inr e ↦ rw e (all_both NoBlank out own h k)
]

day_clear : (d : DayStamp) → AllByRecursion NoBlank (day_text d ++ 45 ∷ [])
day_clear d = (digit_no_blank (d.day / 10), (digit_no_blank (d.day % 10), (digit_no_blank (d.hour / 10), (digit_no_blank (d.hour % 10), (digit_no_blank (d.minute / 10), (digit_no_blank (d.minute % 10), (refl, tt)))))))

abbrev pub StateClear : Span → Type 0
StateClear s = AllByRecursion NoBlank s.first.state

abbrev pub PlaceClear : Place → Type 0
PlaceClear p = AllByRecursion NoBlank p.state

lay_clear : (out : List ℕ) (column : ℕ) (before : Option Place) (spans : List Span) (d : DayStamp) → AllByRecursion NoBlank out → AllByRecursion StateClear spans → AllByRecursion NoBlank (lay out column before spans d)
lay_clear out column before [] d h k = put_clear out column (day_text d ++ 45 ∷ []) h (day_clear d)
lay_clear out column before (s ∷ spans) d h k =
    lay_clear (put_text out column (own_text before s)) (put_column column (own_text before s)) (Some s.first) spans d (put_clear out column (own_text before s) h (own_clear before s k.0)) k.1

pieces_clear : (s : Span) → StateClear s → AllByRecursion StateClear (pieces s)
pieces_clear s h = elim (cases_Bool (s.last == s.first.number + 1)) [ inl e ↦ rw e (h, (h, tt)) | inr e ↦ rw e (h, tt) ]

groups_clear : (s : Span) (ps : List Place) → StateClear s → AllByRecursion PlaceClear ps → AllByRecursion StateClear (groups_from s ps)
groups_clear s [] h k = pieces_clear s h
groups_clear s (p ∷ ps) h k = elim (cases_Bool (continues_span s p)) [
  | inl e ↦ rw e (groups_clear (record { first = s.first; last = p.number }) ps h k.1)
  | inr e ↦ rw e (all_both StateClear (pieces s) (groups_from (single p) ps) (pieces_clear s h) (groups_clear (single p) ps k.0 k.1))
]

all_clear : (zones : List Place) (d : DayStamp) → AllByRecursion PlaceClear zones → AllByRecursion NoBlank (ugc_text zones d)
unfolding ugc_text
all_clear [] d h = lay_clear [] 0 None [] d tt tt
all_clear (p ∷ ps) d h = lay_clear [] 0 None (groups_from (single p) ps) d tt (groups_clear (single p) ps h.0 h.1)

state_clear : (p : Place) → length p.state ≡ 2 → are_letters p.state ≡ true → PlaceClear p
state_clear p size h =
    let two : p.state ≡ slice_index p.state 0 ∷ slice_index p.state 1 ∷ [] = two_of p.state size in
    let letters = and_parts (is_capital (slice_index p.state 0)) (is_capital (slice_index p.state 1)) h in
    subst (AllByRecursion NoBlank) (sym two) (capital_no_blank (slice_index p.state 0) letters.0, (capital_no_blank (slice_index p.state 1) letters.1, tt))

run_clear : (zones : List Place) (p : Place) (k : ℕ) → All PlaceClear zones → PlaceClear p → All PlaceClear (add_run zones p k)
run_clear zones p zero h c = h
run_clear zones p (suc k) h c = run_clear (add zones p) (numbered p (p.number + 1)) k (All-insert_key by_place p PlaceClear zones h c) c

spans_clear : (before : Option Place) (spans : List Span) (front : List ℕ) (zones : List Place) → AreGroups before spans front → All PlaceClear zones → All PlaceClear (add_spans zones spans)
spans_clear before [] front zones g h = h
spans_clear before (s ∷ spans) front zones g h =
    let is : IsSpan s = g.3 in
    spans_clear (Some s.first) spans g.2 (add_run zones s.first (s.last + 1 - s.first.number)) g.6 (run_clear zones s.first (s.last + 1 - s.first.number) h (state_clear s.first is.state is.letters))

pub zones_clear : (bytes : List ℕ) (zones : List Place) (d : DayStamp) (n : ℕ) → IsUgc bytes zones d n → AllByRecursion PlaceClear zones
zones_clear bytes zones d n u = all_from PlaceClear zones (subst (All PlaceClear) (sym u.zones) (spans_clear None u.spans u.front [] u.groups (λ k d lt. absurd (omega arith))))

pub ugc_clear : (bytes : List ℕ) (zones : List Place) (d : DayStamp) (n : ℕ) → IsUgc bytes zones d n → AllByRecursion NoBlank (ugc_text zones d)
ugc_clear bytes zones d n u = all_clear zones d (zones_clear bytes zones d n u)

-- ---- the first line begins a segment

kept : (c : ℕ) (r : List ℕ) → NoEnd c → is_left_out c ≡ false → line_of (c ∷ r) ≡ c ∷ line_of r
kept c r e k = let all : (is_empty (line_of r) && is_left_out c) ≡ false = and_right _ _ k in rw (e, all) refl

then_kept : (c d : ℕ) (r t : List ℕ) → NoEnd c → line_of r ≡ d ∷ t → line_of (c ∷ r) ≡ c ∷ d ∷ t
then_kept c d r t e h = rw (e, h) refl

eight_hold : (n a b k d e f s : Bool) → n ≡ true → a ≡ true → b ≡ true → k ≡ true → d ≡ true → e ≡ true → f ≡ true → s ≡ true → (n && a && b && k && d && e && f && s) ≡ true
eight_hold n a b k d e f s h0 h1 h2 h3 h4 h5 h6 h7 = rw (h0, h1, h2, h3, h4, h5, h6, h7) refl

kind_no_end : (kind : Kind) → NoEnd (kind_code kind)
kind_no_end C = refl
kind_no_end Z = refl

kind_is : (kind : Kind) → ((kind_code kind == 67) || (kind_code kind == 90)) ≡ true
kind_is C = refl
kind_is Z = refl

code_begins : (a b : ℕ) (kind : Kind) (n g : ℕ) (r : List ℕ) → is_capital a ≡ true → is_capital b ≡ true → n ≤ 999 → NoEnd g → is_left_out g ≡ false → ((g == 45) || (g == 62)) ≡ true →
    begins (line_of (a ∷ b ∷ kind_code kind ∷ (three_digits n ++ g ∷ r))) ≡ true
code_begins a b kind n g r ha hb le eg kg is =
    let x = 48 + n / 100 in let y = 48 + n / 10 % 10 in let z = 48 + n % 10 in
    let t = line_of r in
    let l0 : line_of (g ∷ r) ≡ g ∷ t = kept g r eg kg in
    let l1 = then_kept z g (g ∷ r) t (digit_no_end (n % 10)) l0 in
    let l2 = then_kept y z (z ∷ g ∷ r) (g ∷ t) (digit_no_end (n / 10 % 10)) l1 in
    let l3 = then_kept x y (y ∷ z ∷ g ∷ r) (z ∷ g ∷ t) (digit_no_end (n / 100)) l2 in
    let l4 = then_kept (kind_code kind) x (x ∷ y ∷ z ∷ g ∷ r) (y ∷ z ∷ g ∷ t) (kind_no_end kind) l3 in
    let l5 = then_kept b (kind_code kind) (kind_code kind ∷ x ∷ y ∷ z ∷ g ∷ r) (x ∷ y ∷ z ∷ g ∷ t) (capital_no_end b hb) l4 in
    let l6 : line_of (a ∷ b ∷ kind_code kind ∷ x ∷ y ∷ z ∷ g ∷ r) ≡ a ∷ b ∷ kind_code kind ∷ x ∷ y ∷ z ∷ g ∷ t = then_kept a b (b ∷ kind_code kind ∷ x ∷ y ∷ z ∷ g ∷ r) (kind_code kind ∷ x ∷ y ∷ z ∷ g ∷ t) (capital_no_end a ha) l5 in
    let long : nat_le 7 (length (a ∷ b ∷ kind_code kind ∷ x ∷ y ∷ z ∷ g ∷ t)) ≡ true = le-leb _ _ (omega arith) in
    let d0 : is_digit x ≡ true = digit_is (n / 100) (omega arith) in
    let d1 : is_digit y ≡ true = digit_is (n / 10 % 10) (omega arith) in
    let d2 : is_digit z ≡ true = digit_is (n % 10) (omega arith) in
    ap begins l6 ∙ eight_hold _ (is_capital a) (is_capital b) _ (is_digit x) (is_digit y) (is_digit z) _ long ha hb (kind_is kind) d0 d1 d2 is

span_begins : (s : Span) (r : List ℕ) → IsSpan s → begins (line_of (full_text s ++ 45 ∷ r)) ≡ true
unfolding run_end
span_begins s r is =
    let two : s.first.state ≡ slice_index s.first.state 0 ∷ slice_index s.first.state 1 ∷ [] = two_of s.first.state is.state in
    let letters = and_parts _ _ is.letters in
    let number : s.first.number ≤ s.last = is.order in
    let last : s.last ≤ 999 = is.last in
    let a = slice_index s.first.state 0 in let b = slice_index s.first.state 1 in
    let spelled : (end : List ℕ) → (s.first.state ++ kind_code s.first.kind ∷ three_digits s.first.number) ++ end ++ 45 ∷ r ≡ a ∷ b ∷ kind_code s.first.kind ∷ (three_digits s.first.number ++ (end ++ 45 ∷ r)) =
    λ end. append_assoc (s.first.state ++ kind_code s.first.kind ∷ three_digits s.first.number) end (45 ∷ r) ∙ ap (λ (st : List ℕ). (st ++ kind_code s.first.kind ∷ three_digits s.first.number) ++ (end ++ 45 ∷ r)) two in
    elim (cases_Bool (s.first.number == s.last)) [
      | inl e ↦ rw e (ap (λ (t : List ℕ). begins (line_of t)) (spelled []) ∙ code_begins a b s.first.kind s.first.number 45 r letters.0 letters.1 (omega arith) refl refl refl)
      | inr e ↦ rw e (ap (λ (t : List ℕ). begins (line_of t)) (spelled (62 ∷ three_digits s.last)) ∙ code_begins a b s.first.kind s.first.number 62 (three_digits s.last ++ 45 ∷ r) letters.0 letters.1 (omega arith) refl refl refl)
    ]

groups_begin : (spans : List Span) (front more : List ℕ) → AreGroups None spans front → HasCode (last_code None spans) → begins (line_of (front ++ more)) ≡ true
groups_begin [] front more g c = absurd c
groups_begin (s ∷ spans) front more g c =
    elim g.4 [
      | inl e ↦ ap (λ (t : List ℕ). begins (line_of (t ++ more))) (g.7 ∙ ap (λ (own : List ℕ). own ++ 45 ∷ (g.1 ++ g.2)) e) ∙ ap (λ (t : List ℕ). begins (line_of t)) (append_assoc (full_text s) (45 ∷ (g.1 ++ g.2)) more)
          ∙ span_begins s ((g.1 ++ g.2) ++ more) g.3
      | inr f ↦ absurd f.0
    ]

pub ugc_begins : (bytes : List ℕ) (zones : List Place) (d : DayStamp) (n : ℕ) → IsUgc bytes zones d n → begins (line_of bytes) ≡ true
ugc_begins bytes zones d n u = ap (λ (t : List ℕ). begins (line_of t)) u.whole ∙ groups_begin u.spans u.front (day_text d ++ 45 ∷ u.rest) u.groups u.code
