-- A heading line as it is written reads as its heading.
use Rattle.std.proofs.Common.{◌≡◌, ℕ, suc, ◌+◌, ◌/◌, ◌%◌, ◌≤◌, ◌==◌, ◌&&◌, ◌||◌, Bool, true, false, List, [], ◌∷◌, length, refl, ap, sym, ◌∙◌, subst, arith, Option, Some, None}
use Rattle.std.specs.List.{list_all}
use Rattle.std.proofs.lemmas.Bool.{and_parts, eqb-true, ne_eqb, leb-true, false≢true}
use Rattle.hazard_types.specs.Calendar.{is_digit}
use Rattle.hazard_types.specs.Places.{is_capital}
use Rattle.hazard_types.specs.declared.calendar.DayStamp.{DayStamp}
use Rattle.hazard_types.specs.Digits.{is_day_stamp}
use Rattle.hazard_types.specs.Digits.{parse_day_stamp}
use Rattle.hazard_types.proofs.DayTexts.{day_stamp_read}
use Rattle.hazard_types.specs.Characters.{is_name_byte, is_blank, is_office}
use Rattle.product_frame.specs.Text.{line_of, is_left_out}
use Rattle.product_frame.specs.Parts.{has_office, is_ttaaii, is_bbb, is_front, heading_by, heading_of}
use Rattle.product_frame.specs.Layout.{heading_text}
use Rattle.product_frame.specs.LineRules.{IsOneLine, IsHeading, are_three}
use Rattle.product_frame.specs.declared.frame.Heading.{Heading}
use Rattle.product_frame.proofs.Runs.{all_front, line_whole}
use Rattle.product_frame.proofs.LocalLines.{NoEnd, digit_no_end, digit_kept}
use Rattle.product_frame.proofs.UgcLines.{capital_no_end}
use Rattle.product_frame.proofs.VtecLines.{number_no_end, name_no_end}

uncons : (t : List ℕ) (k : ℕ) → length t ≡ suc k → (c : ℕ) × (r : List ℕ) × (t ≡ c ∷ r) × (length r ≡ k)
uncons [] k h = absurd (omega arith)
uncons (c ∷ r) k h = (c, r, refl, omega arith)

empty_is : (t : List ℕ) → length t ≡ 0 → t ≡ []
empty_is [] h = refl
empty_is (c ∷ r) h = absurd (omega arith)

three_is : (t : List ℕ) → length t ≡ 3 → (x y z : ℕ) × (t ≡ x ∷ y ∷ z ∷ [])
three_is t h =
    let u0 = uncons t 2 h in let u1 = uncons u0.1 1 u0.3 in let u2 = uncons u1.1 0 u1.3 in
    (u0.0, u1.0, u2.0, u0.2 ∙ ap (λ (r : List ℕ). u0.0 ∷ r) (u1.2 ∙ ap (λ (r : List ℕ). u1.0 ∷ r) (u2.2 ∙ ap (λ (r : List ℕ). u2.0 ∷ r) (empty_is u2.1 u2.3))))

four_is : (t : List ℕ) → length t ≡ 4 → (p q r s : ℕ) × (t ≡ p ∷ q ∷ r ∷ s ∷ [])
four_is t h =
    let u0 = uncons t 3 h in let u = three_is u0.1 u0.3 in
    (u0.0, u.0, u.1, u.2, u0.2 ∙ ap (λ (r : List ℕ). u0.0 ∷ r) u.3)

six_is : (t : List ℕ) → length t ≡ 6 → (a b c d e f : ℕ) × (t ≡ a ∷ b ∷ c ∷ d ∷ e ∷ f ∷ [])
six_is t h =
    let u0 = uncons t 5 h in let u1 = uncons u0.1 4 u0.3 in let u = four_is u1.1 u1.3 in
    (u0.0, u1.0, u.0, u.1, u.2, u.3, u0.2 ∙ ap (λ (r : List ℕ). u0.0 ∷ r) (u1.2 ∙ ap (λ (r : List ℕ). u1.0 ∷ r) u.4))

six_parts : (a b c d e f : Bool) → (a && b && c && d && e && f) ≡ true → (a ≡ true) × (b ≡ true) × (c ≡ true) × (d ≡ true) × (e ≡ true) × (f ≡ true)
six_parts false b c d e f h = absurd (false≢true h)
six_parts true false c d e f h = absurd (false≢true h)
six_parts true true false d e f h = absurd (false≢true h)
six_parts true true true false e f h = absurd (false≢true h)
six_parts true true true true false f h = absurd (false≢true h)
six_parts true true true true true f h = (refl, refl, refl, refl, refl, h)

four_hold : (a b c d : Bool) → a ≡ true → b ≡ true → c ≡ true → d ≡ true → (a && b && c && d) ≡ true
four_hold a b c d h0 h1 h2 h3 = rw (h0, h1, h2, h3) refl

three_hold : (a b c : Bool) → a ≡ true → b ≡ true → c ≡ true → (a && b && c) ≡ true
three_hold a b c h0 h1 h2 = rw (h0, h1, h2) refl

abbrev pub heading_bytes : List ℕ → (a b c d e f p q r s : ℕ) → DayStamp → List ℕ
heading_bytes end a b c d e f p q r s day = a ∷ b ∷ c ∷ d ∷ e ∷ f ∷ 32 ∷ p ∷ q ∷ r ∷ s ∷ 32 ∷ (48 + day.day / 10) ∷ (48 + day.day % 10) ∷ (48 + day.hour / 10) ∷ (48 + day.hour % 10) ∷ (48 + day.minute / 10) ∷ (48 + day.minute % 10) ∷ end

record IsOffice (p q r s : ℕ) : Type 0 where
  one : is_name_byte p ≡ true
  two : is_name_byte q ≡ true
  three : is_name_byte r ≡ true
  four : is_name_byte s ≡ true

office_is : (p q r s : ℕ) → is_office (p ∷ q ∷ r ∷ s ∷ []) ≡ true → IsOffice p q r s
office_is p q r s h =
    let f = λ (c : ℕ). is_capital c || is_digit c in
    let a = and_parts (f p) (list_all f (q ∷ r ∷ s ∷ [])) h in
    let b = and_parts (f q) (list_all f (r ∷ s ∷ [])) a.1 in
    let c = and_parts (f r) (list_all f (s ∷ [])) b.1 in
    let d = and_parts (f s) (list_all f []) c.1 in
    record { one = a.0; two = b.0; three = c.0; four = d.0 }

front_holds : (end : List ℕ) (a b c d e f p q r s : ℕ) (day : DayStamp) → is_ttaaii (a ∷ b ∷ c ∷ d ∷ e ∷ f ∷ []) ≡ true → IsOffice p q r s → is_front (heading_bytes end a b c d e f p q r s day) ≡ true
front_holds end a b c d e f p q r s day h o =
    let line = heading_bytes end a b c d e f p q r s day in
    let office : has_office line ≡ true = four_hold (is_name_byte p) (is_name_byte q) (is_name_byte r) (is_name_byte s) o.one o.two o.three o.four in
    four_hold (is_ttaaii line) (is_blank 32) (has_office line) (is_blank 32) h refl office refl

front_line : (end : List ℕ) (a b c d e f p q r s : ℕ) (day : DayStamp) → is_ttaaii (a ∷ b ∷ c ∷ d ∷ e ∷ f ∷ []) ≡ true → IsOffice p q r s → IsOneLine end → IsOneLine (heading_bytes end a b c d e f p q r s day)
front_line end a b c d e f p q r s day h o one =
    let t = six_parts (is_capital a) (is_capital b) (is_capital c) (is_capital d) (is_digit e) (is_digit f) h in (
      capital_no_end a t.0,
      (
        capital_no_end b t.1,
        (
          capital_no_end c t.2,
          (
            capital_no_end d t.3,
            (
              number_no_end e t.4,
              (
                number_no_end f t.5,
                (
                  refl,
                  (name_no_end p o.one, (name_no_end q o.two, (name_no_end r o.three, (name_no_end s o.four, (refl, (digit_no_end (day.day / 10), (digit_no_end (day.day % 10), (digit_no_end (day.hour / 10), (digit_no_end (day.hour % 10), (digit_no_end (day.minute / 10), (digit_no_end (day.minute % 10), one))))))))))),
                ),
              ),
            ),
          ),
        ),
      ),
    )

-- what is written for a heading is one line, kept whole, that reads as the heading
abbrev pub IsLaid : Heading → Type 0
IsLaid h = (heading_of (heading_text h) ≡ Some h) × (line_of (heading_text h) ≡ heading_text h) × IsOneLine (heading_text h)

expiry_back : (day : DayStamp) → is_day_stamp day ≡ true → parse_day_stamp ((48 + day.day / 10) ∷ (48 + day.day % 10) ∷ (48 + day.hour / 10) ∷ (48 + day.hour % 10) ∷ (48 + day.minute / 10) ∷ (48 + day.minute % 10) ∷ []) ≡ Some day
expiry_back day h = day_stamp_read day h

bare : (a b c d e f p q r s : ℕ) (day : DayStamp) → is_ttaaii (a ∷ b ∷ c ∷ d ∷ e ∷ f ∷ []) ≡ true → IsOffice p q r s → is_day_stamp day ≡ true →
    IsLaid (record { ttaaii = a ∷ b ∷ c ∷ d ∷ e ∷ f ∷ []; office = p ∷ q ∷ r ∷ s ∷ []; day = day; bbb = None })
unfolding heading_of heading_by
bare a b c d e f p q r s day h o fits =
    let front = front_holds [] a b c d e f p q r s day h o in
    let line = front_line [] a b c d e f p q r s day h o tt in
    let expiry = expiry_back day fits in
    let start = a ∷ b ∷ c ∷ d ∷ e ∷ f ∷ 32 ∷ p ∷ q ∷ r ∷ s ∷ 32 ∷ (48 + day.day / 10) ∷ (48 + day.day % 10) ∷ (48 + day.hour / 10) ∷ (48 + day.hour % 10) ∷ (48 + day.minute / 10) ∷ [] in
    (rw (front, expiry) refl, line_whole start (48 + day.minute % 10) (all_front NoEnd start ((48 + day.minute % 10) ∷ []) line) (digit_no_end (day.minute % 10)) (digit_kept (day.minute % 10)), line)

capital_kept : (c : ℕ) → is_capital c ≡ true → is_left_out c ≡ false
capital_kept c h =
    let le : 65 ≤ c = leb-true 65 c (and_parts _ _ h).0 in
    let x : (c == 13) ≡ false = ne_eqb _ _ (λ (e : c ≡ 13). omega arith) in
    let y : (c == 32) ≡ false = ne_eqb _ _ (λ (e : c ≡ 32). omega arith) in
    let z : (c == 9) ≡ false = ne_eqb _ _ (λ (e : c ≡ 9). omega arith) in
    rw (x, y, z) refl

lettered : (a b c d e f p q r s x y z : ℕ) (day : DayStamp) → is_ttaaii (a ∷ b ∷ c ∷ d ∷ e ∷ f ∷ []) ≡ true → IsOffice p q r s → is_day_stamp day ≡ true →
    is_capital x ≡ true → is_capital y ≡ true → is_capital z ≡ true → IsLaid (record { ttaaii = a ∷ b ∷ c ∷ d ∷ e ∷ f ∷ []; office = p ∷ q ∷ r ∷ s ∷ []; day = day; bbb = Some (x ∷ y ∷ z ∷ []) })
unfolding heading_of heading_by
lettered a b c d e f p q r s x y z day h o fits hx hy hz =
    let end = 32 ∷ x ∷ y ∷ z ∷ [] in
    let front = front_holds end a b c d e f p q r s day h o in
    let line = front_line end a b c d e f p q r s day h o (refl, (capital_no_end x hx, (capital_no_end y hy, (capital_no_end z hz, tt)))) in
    let expiry = expiry_back day fits in
    let letters : is_bbb (heading_bytes end a b c d e f p q r s day) 19 ≡ true = three_hold (is_capital x) (is_capital y) (is_capital z) hx hy hz in
    let start = a ∷ b ∷ c ∷ d ∷ e ∷ f ∷ 32 ∷ p ∷ q ∷ r ∷ s ∷ 32 ∷ (48 + day.day / 10) ∷ (48 + day.day % 10) ∷ (48 + day.hour / 10) ∷ (48 + day.hour % 10) ∷ (48 + day.minute / 10) ∷ (48 + day.minute % 10) ∷ 32 ∷ x ∷ y ∷ [] in
    (rw (letters, front, expiry) refl, line_whole start z (all_front NoEnd start (z ∷ []) line) (capital_no_end z hz) (capital_kept z hz), line)

by_letters : (a b c d e f p q r s : ℕ) (day : DayStamp) (bbb : Option (List ℕ)) → is_ttaaii (a ∷ b ∷ c ∷ d ∷ e ∷ f ∷ []) ≡ true → IsOffice p q r s → is_day_stamp day ≡ true → are_three bbb ≡ true →
    IsLaid (record { ttaaii = a ∷ b ∷ c ∷ d ∷ e ∷ f ∷ []; office = p ∷ q ∷ r ∷ s ∷ []; day = day; bbb = bbb })
by_letters a b c d e f p q r s day None h o fits three = bare a b c d e f p q r s day h o fits
by_letters a b c d e f p q r s day (Some letters) h o fits three =
    let parts = and_parts (length letters == 3) (list_all is_capital letters) three in
    let t = three_is letters (eqb-true _ _ parts.0) in
    let all : list_all is_capital (t.0 ∷ t.1 ∷ t.2 ∷ []) ≡ true = ap (λ (l : List ℕ). list_all is_capital l) (sym t.3) ∙ parts.1 in
    let x = and_parts (is_capital t.0) (list_all is_capital (t.1 ∷ t.2 ∷ [])) all in
    let y = and_parts (is_capital t.1) (list_all is_capital (t.2 ∷ [])) x.1 in
    let z = and_parts (is_capital t.2) (list_all is_capital []) y.1 in
    subst (λ (l : List ℕ). IsLaid (record { ttaaii = a ∷ b ∷ c ∷ d ∷ e ∷ f ∷ []; office = p ∷ q ∷ r ∷ s ∷ []; day = day; bbb = Some l })) (sym t.3)
    (lettered a b c d e f p q r s t.0 t.1 t.2 day h o fits x.0 y.0 z.0)

pub heading_laid : (h : Heading) → IsHeading h → IsLaid h
heading_laid h is =
    let t = six_is h.ttaaii is.six in
    let four : length h.office ≡ 4 = eqb-true _ _ (and_parts (length h.office == 4) _ is.office).0 in
    let o = four_is h.office four in
    let letters : is_ttaaii (t.0 ∷ t.1 ∷ t.2 ∷ t.3 ∷ t.4 ∷ t.5 ∷ []) ≡ true = ap is_ttaaii (sym t.6) ∙ is.ttaaii in
    let office : is_office (o.0 ∷ o.1 ∷ o.2 ∷ o.3 ∷ []) ≡ true = ap is_office (sym o.4) ∙ is.office in
    let laid = by_letters t.0 t.1 t.2 t.3 t.4 t.5 o.0 o.1 o.2 o.3 h.day h.bbb letters (office_is o.0 o.1 o.2 o.3 office) is.day is.letters in
    subst (λ (x : List ℕ). IsLaid (record { ttaaii = x; office = h.office; day = h.day; bbb = h.bbb })) (sym t.6)
    (subst (λ (y : List ℕ). IsLaid (record { ttaaii = t.0 ∷ t.1 ∷ t.2 ∷ t.3 ∷ t.4 ∷ t.5 ∷ []; office = y; day = h.day; bbb = h.bbb })) (sym o.4) laid)
