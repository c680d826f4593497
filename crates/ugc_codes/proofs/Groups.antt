-- A group, and what its text is.
use Rattle.std.proofs.Common.{append-nil, subst, ◌≡◌, ◌≢◌, ℕ, ◌+◌, ◌-◌, ◌*◌, ◌/◌, ◌%◌, ◌<◌, ◌≤◌, ◌==◌, true, false, List, [], ◌∷◌, ◌++◌, length, get_or, take, drop, refl, ap, sym, ◌∙◌, arith, Option, None, Some, Result, Ok, Err, is_some, inl, inr, IsTrue, cond}
use Rattle.std.specs.Prelude.{slice_index, nat_lt, ◌⊎◌}
use Rattle.std.proofs.lemmas.Bool.{and_parts, and_from, cases_Bool, lt-ltb, le-ltb, ltb-false, ltb-true, eqb-true, eq-eqb, ne_eqb, leb-true}
use Rattle.std.proofs.lemmas.Option.{cond_some, option_and_then_some, same_Some, none-some}
use Rattle.std.proofs.lemmas.Slice.Eq.{text_from_reads}
use Rattle.std.proofs.lemmas.List.{drop_more, take-append-drop}
use Rattle.std.proofs.Math.ListN.{drop_of_length-le}
use Rattle.std.proofs.lemmas.Bool.Decides.{eqb_tells, nat_tests}
use Rattle.hazard_types.specs.Calendar.{is_digit}
use Rattle.hazard_types.specs.Places.{Place, are_letters, is_number}
use Rattle.hazard_types.specs.declared.zone.Kind.{Kind}
use Rattle.hazard_types.specs.declared.zone.Kind.TheVariants.{C, Z}
use Rattle.hazard_types.specs.declared.calendar.DayStamp.{DayStamp}
use Rattle.ugc_codes.specs.declared.read.Group.{Group}
use Rattle.ugc_codes.specs.declared.read.Group.TheVariants.{Zones, Expiry}
use Rattle.ugc_codes.specs.declared.read.Refused.TheVariants.{NoCode, NoRange}
use Rattle.hazard_types.proofs.DayTexts.{day_stamp_back, day_stamp_read}
use Rattle.ugc_codes.specs.declared.span.Span.{Span}
use Rattle.ugc_codes.specs.declared.read.Refused.{Refused}
use Rattle.ugc_codes.specs.Codes.{parse_three_digits, full_code, short_code, code_of, parse_run, parse_single, parse_expiry, parse_group, is_run, or_refused, rising_run, three_at}
use Rattle.hazard_types.specs.Digits.{parse_day_stamp}
use Rattle.hazard_types.specs.Names.{kind_at}
use Rattle.ugc_codes.specs.Faults.{IsBackwards, IsNoGroup}
use Rattle.ugc_codes.specs.Grammar.{numbered, IsSpan, run_end, full_text, short_text, Follows, Spells, HasCode}
use Rattle.hazard_types.specs.Digits.{is_day_stamp, three_digits, day_text}
use Rattle.hazard_types.specs.Names.{zone_text, kind_code}

pub three_read : (n : ℕ) → n ≤ 999 → parse_three_digits (48 + n / 100) (48 + n / 10 % 10) (48 + n % 10) ≡ Some n
unfolding parse_three_digits
three_read n h = grind (arith, nat_tests)

pub full_read : (a b : ℕ) (kind : Kind) (n : ℕ) → are_letters (a ∷ b ∷ []) ≡ true → is_number n ≡ true → full_code (a ∷ b ∷ kind_code kind ∷ three_digits n) ≡ Some (record { state = a ∷ b ∷ []; kind = kind; number = n })
unfolding full_code
full_read a b C n letters number = let le : n ≤ 999 = grind (arith, nat_tests) in rw (three_read n le, letters, number) refl
full_read a b Z n letters number = let le : n ≤ 999 = grind (arith, nat_tests) in rw (three_read n le, letters, number) refl

pub short_read : (p : Place) (n : ℕ) → is_number n ≡ true → short_code (Some p) (three_digits n) ≡ Some (numbered p n)
unfolding short_code
short_read p n number = let le : n ≤ 999 = grind (arith, nat_tests) in rw (three_read n le, number) refl

full_single : (before : Option Place) (a b : ℕ) (kind : Kind) (n : ℕ) → are_letters (a ∷ b ∷ []) ≡ true → is_number n ≡ true →
    parse_group before (a ∷ b ∷ kind_code kind ∷ three_digits n) ≡ Ok (Zones (record { state = a ∷ b ∷ []; kind = kind; number = n }) n)
unfolding parse_group parse_single
full_single before a b C n letters number = rw (full_read a b C n letters number) refl
full_single before a b Z n letters number = rw (full_read a b Z n letters number) refl

full_run : (before : Option Place) (a b : ℕ) (kind : Kind) (n last : ℕ) → are_letters (a ∷ b ∷ []) ≡ true → is_number n ≡ true → n < last → last ≤ 999 →
    parse_group before (a ∷ b ∷ kind_code kind ∷ (48 + n / 100) ∷ (48 + n / 10 % 10) ∷ (48 + n % 10) ∷ 62 ∷ three_digits last) ≡ Ok (Zones (record { state = a ∷ b ∷ []; kind = kind; number = n }) last)
unfolding parse_group parse_run
full_run before a b kind n last letters number lt le = rw (full_read a b kind n letters number, three_read last le, lt-ltb n last lt) refl

short_single : (p : Place) (n : ℕ) → is_number n ≡ true → parse_group (Some p) (three_digits n) ≡ Ok (Zones (numbered p n) n)
unfolding parse_group parse_single
short_single p n number = rw (short_read p n number) refl

short_run : (p : Place) (n last : ℕ) → is_number n ≡ true → n < last → last ≤ 999 →
    parse_group (Some p) ((48 + n / 100) ∷ (48 + n / 10 % 10) ∷ (48 + n % 10) ∷ 62 ∷ three_digits last) ≡ Ok (Zones (numbered p n) last)
unfolding parse_group parse_run
short_run p n last number lt le = rw (short_read p n number, three_read last le, lt-ltb n last lt) refl

-- a group that is spelled is read
full_group : (before : Option Place) (state : List ℕ) (kind : Kind) (n last : ℕ) → length state ≡ 2 → are_letters state ≡ true → is_number n ≡ true → last ≤ 999 → n ≤ last →
    parse_group before (full_text (record { first = record { state = state; kind = kind; number = n }; last = last })) ≡ Ok (Zones (record { state = state; kind = kind; number = n }) last)
unfolding run_end
full_group before [] kind n last two letters number le order = absurd (omega arith)
full_group before (a ∷ []) kind n last two letters number le order = absurd (omega arith)
full_group before (a ∷ b ∷ c ∷ cs) kind n last two letters number le order = absurd (omega arith)
full_group before (a ∷ b ∷ []) kind n last two letters number le order =
    elim (eqb_tells n last) [
      | inl e ↦ rw e.0 (full_single before a b kind n letters number ∙ ap (λ (k : ℕ). Ok (Zones (record { state = a ∷ b ∷ []; kind = kind; number = n }) k)) e.1)
      | inr e ↦ let ne : n ≢ last = e.1 in let lt : n < last = omega arith in rw e.0 (full_run before a b kind n last letters number lt le)
    ]

short_group : (p : Place) (n last : ℕ) → is_number n ≡ true → last ≤ 999 → n ≤ last →
    parse_group (Some p) (short_text (record { first = numbered p n; last = last })) ≡ Ok (Zones (numbered p n) last)
unfolding run_end
short_group p n last number le order =
    elim (eqb_tells n last) [
      | inl e ↦ rw e.0 (short_single p n number ∙ ap (λ (k : ℕ). Ok (Zones (numbered p n) k)) e.1)
      | inr e ↦ let ne : n ≢ last = e.1 in let lt : n < last = omega arith in rw e.0 (short_run p n last number lt le)
    ]

-- what follows a place has its state and kind
same_place : (b p : Place) → b.state ≡ p.state → b.kind ≡ p.kind → numbered b p.number ≡ p
same_place b p e f = λ i. record { state = e i; kind = f i; number = p.number }

pub group_spelled : (before : Option Place) (s : Span) (own : List ℕ) → IsSpan s → Spells before s own → parse_group before own ≡ Ok (Zones s.first s.last)
unfolding run_end
group_spelled before s own is (inl e) = ap (parse_group before) e ∙ full_group before s.first.state s.first.kind s.first.number s.last is.state is.letters is.first is.last is.order
group_spelled None s own is (inr h) = absurd h.0
group_spelled (Some b) s own is (inr h) =
    ap (parse_group (Some b)) h.1 ∙ short_group b s.first.number s.last is.first is.last is.order ∙ ap (λ (p : Place). Ok (Zones p s.last)) (same_place b s.first h.0.0 h.0.1)

-- ---- and back: what is read is spelled

-- behind what a group may be spelled shortly
abbrev pub IsBefore : Option Place → Type 0
IsBefore None = Unit {0}
IsBefore (Some p) = (length p.state ≡ 2) × (are_letters p.state ≡ true)

pub record Coded (before : Option Place) (text : List ℕ) (p : Place) : Type 0 where
  pub two : length p.state ≡ 2
  pub letters : are_letters p.state ≡ true
  pub number : is_number p.number ≡ true
  pub spelled : (text ≡ zone_text p) ⊎ (Follows before p × (text ≡ three_digits p.number))

digit_range : (x : ℕ) → is_digit x ≡ true → (48 ≤ x) × (x ≤ 57)
digit_range x h = let p = and_parts _ _ h in (leb-true _ _ p.0, leb-true _ _ p.1)

three_back : (x y z n : ℕ) → parse_three_digits x y z ≡ Some n → (n ≤ 999) × (x ≡ 48 + n / 100) × (y ≡ 48 + n / 10 % 10) × (z ≡ 48 + n % 10)
unfolding parse_three_digits
three_back x y z n h =
    let found = cond_some _ _ _ h in
    let first = and_parts _ _ found.0 in
    let two = and_parts _ _ first.0 in
    let a = digit_range x two.0 in
    let b = digit_range y two.1 in
    let c = digit_range z first.1 in
    let e : 100 * (x - 48) + 10 * (y - 48) + (z - 48) ≡ n = found.1 in
    (omega arith, omega arith, omega arith, omega arith)

kind_back : (c : ℕ) (kind : Kind) → kind_at c ≡ Some kind → c ≡ kind_code kind
kind_back c kind h =
    elim (eqb_tells c 67) [
      | inl e ↦ let k : Some C ≡ Some kind = rw e.0 at h in e.1 ∙ ap kind_code (same_Some _ _ k)
      | inr e ↦ let h2 : cond (c == 90) (Some Z) None ≡ Some kind = rw e.0 at h in
          let found = cond_some _ _ _ h2 in eqb-true _ _ found.0 ∙ ap kind_code found.1
    ]

full_back : (before : Option Place) (text : List ℕ) (p : Place) → length text ≡ 6 → full_code text ≡ Some p → Coded before text p
unfolding full_code
full_back before text p len h =
    option_and_then_some _ _ _ h (λ kind k g. option_and_then_some _ _ _ g (λ n t z.
    let read : Place = record { state = slice_index text 0 ∷ slice_index text 1 ∷ []; kind = kind; number = n } in
    let made = cond_some _ read p z in
    let tests = and_parts _ _ made.0 in
    let digits = three_back _ _ _ n t in
    let spelled : text ≡ slice_index text 0 ∷ slice_index text 1 ∷ kind_code kind ∷ three_digits n =
    text_from_reads text _ len (refl, (refl, (kind_back _ kind k, (digits.1, (digits.2, (digits.3, tt)))))) in
    subst (λ (q : Place). Coded before text q) made.1 (record { two = refl; letters = tests.0; number = tests.1; spelled = inl spelled })))

short_back : (before : Option Place) (text : List ℕ) (p : Place) → IsBefore before → length text ≡ 3 → short_code before text ≡ Some p → Coded before text p
unfolding short_code
short_back before text p good len h =
    option_and_then_some _ _ _ h (λ b is g. option_and_then_some _ _ _ g (λ n t z.
    let made = cond_some _ _ _ z in
    let digits = three_back _ _ _ n t in
    let good_b : IsBefore (Some b) = subst IsBefore is good in
    let follows : Follows before (numbered b n) = subst (λ (o : Option Place). Follows o (numbered b n)) (sym is) (refl, refl) in
    let spelled : text ≡ three_digits n = text_from_reads text _ len (digits.1, (digits.2, (digits.3, tt))) in
    subst (λ (q : Place). Coded before text q) made.1 (record { two = good_b.0; letters = good_b.1; number = made.0; spelled = inr (follows, spelled) })))

code_back : (before : Option Place) (text : List ℕ) (p : Place) → IsBefore before → code_of before text ≡ Some p → Coded before text p
code_back before text p good h =
    elim (eqb_tells (length text) 6) [
      | inl e ↦ full_back before text p e.1 (rw e.0 at h)
      | inr e ↦ let h2 : cond (length text == 3) (short_code before text) None ≡ Some p = rw e.0 at h in
          elim (eqb_tells (length text) 3) [
            | inl f ↦ short_back before text p good f.1 (rw f.0 at h2)
            | inr f ↦ absurd (none-some _ (rw f.0 at h2))
          ]
    ]

pub or_refused_ok : {A B : Type 0} (o : Option A) (f : A → Result B Refused) (y : B) → or_refused o f ≡ Ok y → (x : A) × (o ≡ Some x) × (f x ≡ Ok y)
or_refused_ok None f y h = cc
or_refused_ok (Some x) f y h = (x, refl, h)

last_four : (text : List ℕ) → 4 ≤ length text → text ≡ take (length text - 4) text ++ get_or text (length text - 4) 0 ∷ get_or text (length text - 3) 0 ∷ get_or text (length text - 2) 0 ∷ get_or text (length text - 1) 0 ∷ []
last_four text le =
    let n = length text - 4 in
    let a : drop n text ≡ get_or text n 0 ∷ drop (n + 1) text = drop_more text n 0 (omega arith) in
    let b : drop (n + 1) text ≡ get_or text (n + 1) 0 ∷ drop (n + 1 + 1) text = drop_more text (n + 1) 0 (omega arith) in
    let c : drop (n + 1 + 1) text ≡ get_or text (n + 1 + 1) 0 ∷ drop (n + 1 + 1 + 1) text = drop_more text (n + 1 + 1) 0 (omega arith) in
    let d : drop (n + 1 + 1 + 1) text ≡ get_or text (n + 1 + 1 + 1) 0 ∷ drop (n + 1 + 1 + 1 + 1) text = drop_more text (n + 1 + 1 + 1) 0 (omega arith) in
    let z : drop (n + 1 + 1 + 1 + 1) text ≡ [] = drop_of_length-le text (omega arith) in
    let i : n + 1 ≡ length text - 3 = omega arith in
    let j : n + 1 + 1 ≡ length text - 2 = omega arith in
    let k : n + 1 + 1 + 1 ≡ length text - 1 = omega arith in
    let ends : drop n text ≡ get_or text n 0 ∷ get_or text (length text - 3) 0 ∷ get_or text (length text - 2) 0 ∷ get_or text (length text - 1) 0 ∷ [] =
    a ∙ ap (λ (xs : List ℕ). get_or text n 0 ∷ xs) (b ∙ ap (λ (m : ℕ). get_or text m 0 ∷ drop (n + 1 + 1) text) i ∙ ap (λ (xs : List ℕ). get_or text (length text - 3) 0 ∷ xs) (c ∙ ap (λ (m : ℕ). get_or text m 0 ∷ drop (n + 1 + 1 + 1) text) j ∙ ap (λ (xs : List ℕ). get_or text (length text - 2) 0 ∷ xs) (d ∙ ap (λ (m : ℕ). get_or text m 0 ∷ drop (n + 1 + 1 + 1 + 1) text) k ∙ ap (λ (xs : List ℕ). get_or text (length text - 1) 0 ∷ xs) z))) in
    sym (take-append-drop n text) ∙ ap (λ (xs : List ℕ). take n text ++ xs) ends

pub record RunParts (before : Option Place) (text : List ℕ) (first : Place) (last : ℕ) : Type 0 where
  pub coded : Coded before (take (length text - 4) text) first
  pub high : last ≤ 999
  pub parts : text ≡ take (length text - 4) text ++ (62 ∷ three_digits last)

-- the code and the number of what has the form of a run
run_parts : (before : Option Place) (text : List ℕ) (first : Place) (last : ℕ) → IsBefore before → is_run text ≡ true → code_of before (take (length text - 4) text) ≡ Some first → three_at text (length text - 3) ≡ Some last → RunParts before text first last
run_parts before text first last good runs code number =
    let form = and_parts _ _ runs in
    let four : 4 ≤ length text = leb-true _ _ form.0 in
    let gt : get_or text (length text - 4) 0 ≡ 62 = eqb-true _ _ form.1 in
    let digits = three_back _ _ _ last number in
    let i : length text - 3 + 1 ≡ length text - 2 = omega arith in
    let j : length text - 3 + 2 ≡ length text - 1 = omega arith in
    let y : get_or text (length text - 2) 0 ≡ 48 + last / 10 % 10 = ap (λ (k : ℕ). get_or text k 0) (sym i) ∙ digits.2 in
    let z : get_or text (length text - 1) 0 ≡ 48 + last % 10 = ap (λ (k : ℕ). get_or text k 0) (sym j) ∙ digits.3 in
    let front : List ℕ = take (length text - 4) text in
    record { coded = code_back before front first good code; high = digits.0; parts = last_four text four ∙ (λ i. front ++ gt i ∷ digits.1 i ∷ y i ∷ z i ∷ []) }

-- the parts of a text behind its code are those of the whole
coded_append : (before : Option Place) (front tail text : List ℕ) (p : Place) → (front ≡ zone_text p) ⊎ (Follows before p × (front ≡ three_digits p.number)) → text ≡ front ++ tail → (text ≡ zone_text p ++ tail) ⊎ (Follows before p × (text ≡ three_digits p.number ++ tail))
coded_append before front tail text p (inl e) whole = inl (whole ∙ ap (λ (xs : List ℕ). xs ++ tail) e)
coded_append before front tail text p (inr e) whole = inr (e.0, whole ∙ ap (λ (xs : List ℕ). xs ++ tail) e.1)

run_back : (before : Option Place) (text : List ℕ) (p : Place) (n : ℕ) → IsBefore before → is_run text ≡ true → parse_run before text ≡ Ok (Zones p n) → IsSpan (record { first = p; last = n }) × Spells before (record { first = p; last = n }) text
unfolding parse_run run_end
run_back before text p n good runs h =
    let a = or_refused_ok _ _ _ h in
    let b = or_refused_ok _ _ _ a.2 in
    let r : RunParts before text a.0 b.0 = run_parts before text a.0 b.0 good runs a.1 b.1 in
    let order : (nat_lt a.0.number b.0 ≡ true) × (a.0 ≡ p) × (b.0 ≡ n) = run_ok a.0 b.0 p n b.2 in
    let lt : a.0.number < b.0 = ltb-true _ _ order.0 in
    let differs : (a.0.number == b.0) ≡ false = ne_eqb _ _ (λ e. absurd (omega arith)) in
    let s : Span = record { first = a.0; last = b.0 } in
    let ending : text ≡ take (length text - 4) text ++ run_end s = rw differs r.parts in
    let spells : Spells before s text = coded_append before (take (length text - 4) text) (run_end s) text a.0 r.coded.spelled ending in
    let is : IsSpan s = record { state = r.coded.two; letters = r.coded.letters; first = r.coded.number; last = r.high; order = omega arith } in
    let both : IsSpan s × Spells before s text = (is, spells) in
    subst (λ (q : Place × ℕ). IsSpan (record { first = q.0; last = q.1 }) × Spells before (record { first = q.0; last = q.1 }) text) (λ i. (order.1 i, order.2 i)) both
  where
    run_ok : (a : Place) (b : ℕ) (p : Place) (n : ℕ) → rising_run a b ≡ Ok (Zones p n) → (nat_lt a.number b ≡ true) × (a ≡ p) × (b ≡ n)
    run_ok a b p n h = elim (cases_Bool (nat_lt a.number b)) [
      | inl e ↦ let g : Ok (Zones a b) ≡ Ok (Zones p n) = rw e at h in (e, cc, cc)
      | inr e ↦ let g : Err NoRange ≡ Ok (Zones p n) = rw e at h in absurd (cc)
    ]

single_back : (before : Option Place) (text : List ℕ) (p : Place) (n : ℕ) → IsBefore before → parse_single before text ≡ Ok (Zones p n) → IsSpan (record { first = p; last = n }) × Spells before (record { first = p; last = n }) text
unfolding parse_single run_end
single_back before text p n good h =
    let a = or_refused_ok _ _ _ h in
    let g : Ok (Zones a.0 a.0.number) ≡ Ok (Zones p n) = a.2 in
    let coded : Coded before text a.0 = code_back before text a.0 good a.1 in
    let number = and_parts _ _ coded.number in
    let high : a.0.number ≤ 999 = leb-true _ _ number.1 in
    let s : Span = record { first = a.0; last = a.0.number } in
    let same : (a.0.number == a.0.number) ≡ true = eq-eqb _ _ refl in
    let no_end : run_end s ≡ [] = rw same refl in
    let spells : Spells before s text = elim coded.spelled [
      | inl e ↦ inl (e ∙ sym (append-nil (zone_text a.0)) ∙ ap (λ (xs : List ℕ). zone_text a.0 ++ xs) (sym no_end))
      | inr e ↦ inr (e.0, e.1 ∙ ap (λ (xs : List ℕ). three_digits a.0.number ++ xs) (sym no_end))
    ] in
    let is : IsSpan s = record { state = coded.two; letters = coded.letters; first = coded.number; last = high; order = omega arith } in
    let both : IsSpan s × Spells before s text = (is, spells) in
    let first : a.0 ≡ p = cc in
    let last : a.0.number ≡ n = cc in
    subst (λ (q : Place × ℕ). IsSpan (record { first = q.0; last = q.1 }) × Spells before (record { first = q.0; last = q.1 }) text) (λ i. (first i, last i)) both

pub same_ok : (g h : Group) → ◌≡◌ {A = Result Group Refused} (Ok g) (Ok h) → g ≡ h
same_ok g h e = cc e

day_steps : (before : Option Place) (text : List ℕ) (g : Group) → parse_expiry before text ≡ Ok g → (p : Place) × (d : DayStamp) × (before ≡ Some p) × (parse_day_stamp text ≡ Some d) × (g ≡ Expiry d)
unfolding parse_expiry
day_steps before text g h =
    let a = or_refused_ok before (λ _. or_refused (parse_day_stamp text) (λ d. Ok (Expiry d))) g h in
    let b = or_refused_ok (parse_day_stamp text) (λ d. Ok (Expiry d)) g a.2 in
    (a.0, b.0, a.1, b.1, sym (same_ok (Expiry b.0) g b.2))

day_no_zones : (before : Option Place) (text : List ℕ) (p : Place) (n : ℕ) → parse_expiry before text ≡ Ok (Zones p n) → ⊥
day_no_zones before text p n h = let a = day_steps before text (Zones p n) h in cc a.4

run_steps : (before : Option Place) (text : List ℕ) (g : Group) → parse_run before text ≡ Ok g → (p : Place) × (n : ℕ) × (rising_run p n ≡ Ok g)
unfolding parse_run
run_steps before text g h =
    let a = or_refused_ok (code_of before (take (length text - 4) text)) (λ first. or_refused (three_at text (length text - 3)) (rising_run first)) g h in
    let b = or_refused_ok (three_at text (length text - 3)) (rising_run a.0) g a.2 in
    (a.0, b.0, b.2)

to_no_day : (a : Place) (b : ℕ) (d : DayStamp) → rising_run a b ≡ Ok (Expiry d) → ⊥
to_no_day a b d h = elim (cases_Bool (nat_lt a.number b)) [
  | inl f ↦ let k : ◌≡◌ {A = Result Group Refused} (Ok (Zones a b)) (Ok (Expiry d)) = rw f at h in cc k
  | inr f ↦ let k : ◌≡◌ {A = Result Group Refused} (Err NoRange) (Ok (Expiry d)) = rw f at h in cc k
]

run_no_day : (before : Option Place) (text : List ℕ) (d : DayStamp) → parse_run before text ≡ Ok (Expiry d) → ⊥
run_no_day before text d h = let a = run_steps before text (Expiry d) h in to_no_day a.0 a.1 d a.2

single_no_day : (before : Option Place) (text : List ℕ) (d : DayStamp) → parse_single before text ≡ Ok (Expiry d) → ⊥
unfolding parse_single
single_no_day before text d h =
    let a = or_refused_ok (code_of before text) (λ p. Ok (Zones p p.number)) (Expiry d) h in cc (same_ok (Zones a.0 a.0.number) (Expiry d) a.2)

-- what a group names is spelled by it
pub group_back : (before : Option Place) (text : List ℕ) (p : Place) (n : ℕ) → IsBefore before → parse_group before text ≡ Ok (Zones p n) → IsSpan (record { first = p; last = n }) × Spells before (record { first = p; last = n }) text
unfolding parse_group
group_back before text p n good h =
    elim (cases_Bool (is_run text)) [
      | inl e ↦ run_back before text p n good e (rw e at h)
      | inr e ↦ let h2 : cond (is_some (code_of before text)) (parse_single before text) (parse_expiry before text) ≡ Ok (Zones p n) = rw e at h in
          elim (cases_Bool (is_some (code_of before text))) [
            | inl f ↦ single_back before text p n good (rw f at h2)
            | inr f ↦ absurd (day_no_zones before text p n (rw f at h2))
          ]
    ]

-- ---- the expiry

day_parts : (before : Option Place) (text : List ℕ) (d : DayStamp) → parse_expiry before text ≡ Ok (Expiry d) → HasCode before × IsTrue (is_day_stamp d) × (text ≡ day_text d)
day_parts before text d h =
    let a = day_steps before text (Expiry d) h in
    let same : a.1 ≡ d = cc a.4 in
    let day = day_stamp_back text a.1 a.3 in
    (has_code before a.0 a.2, subst (λ (x : DayStamp). IsTrue (is_day_stamp x)) same day.0, day.1 ∙ ap day_text same)
  where
    has_code : (before : Option Place) (p : Place) → before ≡ Some p → HasCode before
    has_code None p e = absurd (cc e)
    has_code (Some b) p e = tt

pub day_back : (before : Option Place) (text : List ℕ) (d : DayStamp) → parse_group before text ≡ Ok (Expiry d) → HasCode before × IsTrue (is_day_stamp d) × (text ≡ day_text d)
unfolding parse_group
day_back before text d h =
    elim (cases_Bool (is_run text)) [
      | inl e ↦ absurd (run_no_day before text d (rw e at h))
      | inr e ↦ let h2 : cond (is_some (code_of before text)) (parse_single before text) (parse_expiry before text) ≡ Ok (Expiry d) = rw e at h in
          elim (cases_Bool (is_some (code_of before text))) [
            | inl f ↦ absurd (single_no_day before text d (rw f at h2))
            | inr f ↦ day_parts before text d (rw f at h2)
          ]
    ]

no_full : (c d e x y z : ℕ) → is_digit e ≡ true → full_code (c ∷ d ∷ e ∷ x ∷ y ∷ z ∷ []) ≡ None
unfolding full_code
no_full c d e x y z h =
    let r = digit_range e h in
    let n1 : (e == 67) ≡ false = ne_eqb _ _ (λ q. absurd (omega arith)) in
    let n2 : (e == 90) ≡ false = ne_eqb _ _ (λ q. absurd (omega arith)) in
    rw (n1, n2) refl

tens_digit : (b : ℕ) → b ≤ 23 → is_digit (48 + b / 10) ≡ true
tens_digit b q = grind (arith, nat_tests)

pub day_read : (p : Place) (d : DayStamp) → is_day_stamp d ≡ true → parse_group (Some p) (day_text d) ≡ Ok (Expiry d)
unfolding parse_group parse_expiry
day_read p d h =
    let t3 = and_parts _ _ h in
    let t2 = and_parts _ _ t3.0 in
    let hour : d.hour ≤ 23 = leb-true _ _ t2.1 in
    let digit : is_digit (48 + d.hour / 10) ≡ true = tens_digit d.hour hour in
    let no_run : (48 + d.hour / 10 == 62) ≡ false = ne_eqb _ _ (λ q. absurd (omega arith)) in
    rw (no_run, no_full _ _ _ _ _ _ digit, day_stamp_read d h) refl

-- ---- a run whose end is not greater

full_backwards : (before : Option Place) (state : List ℕ) (kind : Kind) (n last : ℕ) → length state ≡ 2 → are_letters state ≡ true → is_number n ≡ true → last ≤ 999 → last ≤ n →
    parse_group before (zone_text (record { state = state; kind = kind; number = n }) ++ 62 ∷ three_digits last) ≡ Err NoRange
unfolding parse_group parse_run
full_backwards before [] kind n last two letters number le order = absurd (omega arith)
full_backwards before (a ∷ []) kind n last two letters number le order = absurd (omega arith)
full_backwards before (a ∷ b ∷ c ∷ cs) kind n last two letters number le order = absurd (omega arith)
full_backwards before (a ∷ b ∷ []) kind n last two letters number le order = rw (full_read a b kind n letters number, three_read last le, le-ltb n last order) refl

short_backwards : (p : Place) (n last : ℕ) → is_number n ≡ true → last ≤ 999 → last ≤ n → parse_group (Some p) (three_digits n ++ 62 ∷ three_digits last) ≡ Err NoRange
unfolding parse_group parse_run
short_backwards p n last number le order = rw (short_read p n number, three_read last le, le-ltb n last order) refl

pub range_read : (before : Option Place) (text : List ℕ) → IsBackwards before text → parse_group before text ≡ Err NoRange
range_read before text h = spelled before h.first.state h.first.kind h.first.number h.last h.place.1 (tests h).0 (tests h).1 h.range h.order h.spelled
  where
    tests : (h : IsBackwards before text) → (are_letters h.first.state ≡ true) × (is_number h.first.number ≡ true)
    tests h = and_parts (are_letters h.first.state) (is_number h.first.number) h.place.0

    spelled : (before : Option Place) (state : List ℕ) (kind : Kind) (n last : ℕ) → length state ≡ 2 → are_letters state ≡ true → is_number n ≡ true → last ≤ 999 → last ≤ n →
        (text ≡ zone_text (record { state = state; kind = kind; number = n }) ++ 62 ∷ three_digits last) ⊎ (Follows before (record { state = state; kind = kind; number = n }) × (text ≡ three_digits n ++ 62 ∷ three_digits last)) → parse_group before text ≡ Err NoRange
    spelled before state kind n last two letters number le order (inl e) = ap (parse_group before) e ∙ full_backwards before state kind n last two letters number le order
    spelled None state kind n last two letters number le order (inr e) = absurd e.0
    spelled (Some p) state kind n last two letters number le order (inr e) = ap (parse_group (Some p)) e.1 ∙ short_backwards p n last number le order

refused_steps : {A : Type 0} (o : Option A) (f : A → Result Group Refused) → or_refused o f ≡ Err NoRange → (x : A) × (o ≡ Some x) × (f x ≡ Err NoRange)
refused_steps None f h = absurd (no_range h)
  where
    no_range : ◌≡◌ {A = Result Group Refused} (Err NoCode) (Err NoRange) → ⊥
    no_range e = cc e
refused_steps (Some x) f h = (x, refl, h)

ok_no_range : (g : Group) → ◌≡◌ {A = Result Group Refused} (Ok g) (Err NoRange) → ⊥
ok_no_range g e = cc e

to_range : (a : Place) (b : ℕ) → rising_run a b ≡ Err NoRange → b ≤ a.number
to_range a b h = elim (cases_Bool (nat_lt a.number b)) [
  | inl e ↦ absurd (ok_no_range (Zones a b) (rw e at h))
  | inr e ↦ ltb-false _ _ e
]

run_range : (before : Option Place) (text : List ℕ) → IsBefore before → is_run text ≡ true → parse_run before text ≡ Err NoRange → IsBackwards before text
unfolding parse_run
run_range before text good runs h =
    let a = refused_steps _ _ h in
    let b = refused_steps _ _ a.2 in
    let r : RunParts before text a.0 b.0 = run_parts before text a.0 b.0 good runs a.1 b.1 in
    record { first = a.0; last = b.0; place = (and_from _ _ r.coded.letters r.coded.number, r.coded.two); range = r.high; order = to_range a.0 b.0 b.2; spelled = coded_append before (take (length text - 4) text) (62 ∷ three_digits b.0) text a.0 r.coded.spelled r.parts }

single_range : (before : Option Place) (text : List ℕ) → parse_single before text ≡ Err NoRange → ⊥
unfolding parse_single
single_range before text h = let a = refused_steps (code_of before text) (λ p. Ok (Zones p p.number)) h in ok_no_range _ a.2

day_range : (before : Option Place) (text : List ℕ) → parse_expiry before text ≡ Err NoRange → ⊥
unfolding parse_expiry
day_range before text h =
    let a = refused_steps before (λ _. or_refused (parse_day_stamp text) (λ d. Ok (Expiry d))) h in
    let b = refused_steps (parse_day_stamp text) (λ d. Ok (Expiry d)) a.2 in
    ok_no_range _ b.2

pub range_back : (before : Option Place) (text : List ℕ) → IsBefore before → parse_group before text ≡ Err NoRange → IsBackwards before text
unfolding parse_group
range_back before text good h =
    elim (cases_Bool (is_run text)) [
      | inl e ↦ run_range before text good e (rw e at h)
      | inr e ↦ let h2 : cond (is_some (code_of before text)) (parse_single before text) (parse_expiry before text) ≡ Err NoRange = rw e at h in
          elim (cases_Bool (is_some (code_of before text))) [
            | inl f ↦ absurd (single_range before text (rw f at h2))
            | inr f ↦ absurd (day_range before text (rw f at h2))
          ]
    ]

-- ---- no group

ok_no_code : (g : Group) → ◌≡◌ {A = Result Group Refused} (Ok g) (Err NoCode) → ⊥
ok_no_code g e = cc e

range_no_code : ◌≡◌ {A = Result Group Refused} (Err NoRange) (Err NoCode) → ⊥
range_no_code e = cc e

pub none_back : (before : Option Place) (text : List ℕ) → parse_group before text ≡ Err NoCode → IsNoGroup before text
none_back before text h = record {
  no_span = λ s is spells. ok_no_code (Zones s.first s.last) (sym (group_spelled before s text is spells) ∙ h);
  no_run = λ r. range_no_code (sym (range_read before text r) ∙ h);
  no_expiry = λ d code day e. ok_no_code (Expiry d) (sym (day_taken before d code day) ∙ ap (parse_group before) (sym e) ∙ h);
}
  where
    day_taken : (before : Option Place) (d : DayStamp) → HasCode before → is_day_stamp d ≡ true → parse_group before (day_text d) ≡ Ok (Expiry d)
    day_taken None d code day = absurd code
    day_taken (Some p) d code day = day_read p d day

pub none_read : (before : Option Place) (text : List ℕ) → IsBefore before → IsNoGroup before text → (r : Result Group Refused) → parse_group before text ≡ r → r ≡ Err NoCode
none_read before text good none (Ok (Zones p n)) is = let g = group_back before text p n good is in absurd (none.no_span (record { first = p; last = n }) g.0 g.1)
none_read before text good none (Ok (Expiry d)) is = let g = day_back before text d is in absurd (none.no_expiry d g.0 g.1 g.2)
none_read before text good none (Err NoCode) is = refl
none_read before text good none (Err NoRange) is = absurd (none.no_run (range_back before text good is))
