-- The grammar and the reading are one.
use Rattle.std.proofs.Common.{subst, ◌≡◌, ℕ, suc, ◌+◌, ◌-◌, ◌≤◌, ◌==◌, ◌&&◌, true, false, List, [], ◌∷◌, ◌++◌, length, refl, ap, sym, ◌∙◌, arith, append_assoc, append-nil, length-append, Option, None, Some, Result, Ok, Err, is_some, inl, inr, IsTrue, cond}
use Rattle.std.specs.Prelude.{◌⊎◌, nat_le}
use Rattle.std.specs.List.{AllByRecursion}
use Rattle.std.proofs.lemmas.Bool.{both_ways, leb-true, and_parts, and_left, and_right, cases_Bool}
use Rattle.std.proofs.lemmas.Bool.Decides.{eqb_tells, nat_tests}
use Rattle.hazard_types.specs.Places.{Place, are_letters, is_capital}
use Rattle.hazard_types.specs.declared.zone.Kind.{Kind}
use Rattle.hazard_types.specs.declared.zone.Kind.TheVariants.{C, Z}
use Rattle.hazard_types.specs.declared.calendar.DayStamp.{DayStamp}
use Rattle.ugc_codes.specs.declared.read.Group.{Group}
use Rattle.ugc_codes.specs.declared.read.Group.TheVariants.{Zones, Expiry}
use Rattle.ugc_codes.specs.declared.read.Refused.{Refused}
use Rattle.ugc_codes.specs.declared.read.Refused.TheVariants.{NoCode, NoRange}
use Rattle.ugc_codes.specs.declared.read.UgcFault.{UgcFault}
use Rattle.ugc_codes.specs.declared.read.UgcFault.TheVariants.{NotACode, BadRange, CutShort}
use Rattle.ugc_codes.specs.declared.read.UgcRead.{UgcRead}
use Rattle.ugc_codes.specs.declared.span.Span.{Span}
use Rattle.ugc_codes.specs.Codes.{parse_group}
use Rattle.ugc_codes.specs.Faults.{Faults, FirstFault, HasNoHyphen, BeginsInNoGap}
use Rattle.ugc_codes.specs.Reading.{is_none_yet, settle, fault_at, read_from, ugc_of}
use Rattle.ugc_codes.specs.Grammar.{add_run, is_gap, IsSpan, run_end, Spells, HasCode, IsGap, AreGroups, last_code, add_spans, zones_of, IsUgc}
use Rattle.hazard_types.specs.Digits.{is_day_stamp, three_digits, day_text}
use Rattle.hazard_types.specs.Names.{zone_text}
use Rattle.ugc_codes.proofs.Groups.{IsBefore, group_spelled, group_back, day_read, day_back, range_read, range_back, none_read, none_back}

abbrev pub read_as : List Place → DayStamp → ℕ → Result UgcRead UgcFault
read_as zones d used = Ok (record { zones = zones; expiry = d; used = used })

-- ---- no byte of a group is a hyphen, a blank, CR or LF

abbrev pub is_plain : ℕ → Type 0
is_plain c = ((c == 45) ≡ false) × (is_gap c ≡ false)

abbrev pub IsPlain : List ℕ → Type 0
IsPlain = AllByRecursion is_plain

plain_high : (c : ℕ) → 48 ≤ c → is_plain c
plain_high c h = (grind (arith, nat_tests), grind (arith, nat_tests))

plain_append : (xs ys : List ℕ) → IsPlain xs → IsPlain ys → IsPlain (xs ++ ys)
plain_append [] ys p q = q
plain_append (x ∷ xs) ys p q = (p.0, plain_append xs ys p.1 q)

three_plain : (n : ℕ) → IsPlain (three_digits n)
three_plain n = (plain_high _ (omega arith), (plain_high _ (omega arith), (plain_high _ (omega arith), tt)))

end_plain : (s : Span) → IsPlain (run_end s)
unfolding run_end
end_plain s = elim (cases_Bool (s.first.number == s.last)) [
  | inl e ↦ rw e tt
  | inr e ↦ rw e (plain_high 62 (omega arith), three_plain s.last)
]

letters_high : (a b : ℕ) → are_letters (a ∷ b ∷ []) ≡ true → (48 ≤ a) × (48 ≤ b)
letters_high a b h =
    let p = and_parts (is_capital a) (is_capital b) h in
    let x : 65 ≤ a = leb-true _ _ (and_parts (nat_le 65 a) (nat_le a 90) p.0).0 in
    let y : 65 ≤ b = leb-true _ _ (and_parts (nat_le 65 b) (nat_le b 90) p.1).0 in
    (omega arith, omega arith)

code_plain : (state : List ℕ) (kind : Kind) (n : ℕ) → length state ≡ 2 → are_letters state ≡ true → IsPlain (zone_text (record { state = state; kind = kind; number = n }))
code_plain [] kind n two letters = absurd (omega arith)
code_plain (a ∷ []) kind n two letters = absurd (omega arith)
code_plain (a ∷ b ∷ c ∷ cs) kind n two letters = absurd (omega arith)
code_plain (a ∷ b ∷ []) C n two letters = let h = letters_high a b letters in (plain_high a h.0, (plain_high b h.1, (plain_high 67 (omega arith), three_plain n)))
code_plain (a ∷ b ∷ []) Z n two letters = let h = letters_high a b letters in (plain_high a h.0, (plain_high b h.1, (plain_high 90 (omega arith), three_plain n)))

spelled_plain : (before : Option Place) (s : Span) (own : List ℕ) → IsSpan s → Spells before s own → IsPlain own
spelled_plain before s own is (inl e) = subst IsPlain (sym e) (plain_append (zone_text s.first) (run_end s) (code_plain s.first.state s.first.kind s.first.number is.state is.letters) (end_plain s))
spelled_plain before s own is (inr h) = subst IsPlain (sym h.1) (plain_append (three_digits s.first.number) (run_end s) (three_plain s.first.number) (end_plain s))

day_plain : (d : DayStamp) → IsPlain (day_text d)
day_plain d = (plain_high _ (omega arith), (plain_high _ (omega arith), (plain_high _ (omega arith), (plain_high _ (omega arith), (plain_high _ (omega arith), (plain_high _ (omega arith), tt))))))

-- ---- what the grammar has is read

-- the bytes of a group are taken, up to its hyphen
group_taken : (before : Option Place) (zones : List Place) (start : ℕ) (group : List ℕ) (at : ℕ) (own bytes : List ℕ) → IsPlain own →
    read_from before zones start group at (own ++ bytes) ≡ read_from before zones start (group ++ own) (at + length own) bytes
group_taken before zones start group at [] bytes plain =
    let g : group ≡ group ++ [] = sym (append-nil group) in
    let n : at ≡ at + 0 = omega arith in
    λ i. read_from before zones start (g i) (n i) bytes
group_taken before zones start group at (c ∷ own) bytes plain =
    let none : (is_gap c && is_none_yet group && is_some before) ≡ false = and_left _ _ (and_left _ _ plain.0.1) in
    let later : at + 1 + length own ≡ at + suc (length own) = omega arith in
    rw (plain.0.0, none) (group_taken before zones start (group ++ c ∷ []) (at + 1) own bytes plain.1
    ∙ ap (λ (g : List ℕ). read_from before zones start g (at + 1 + length own) bytes) (append_assoc group (c ∷ []) own)
    ∙ ap (λ (n : ℕ). read_from before zones start (group ++ c ∷ own) n bytes) later)

gap_is_no_hyphen : (c : ℕ) → is_gap c ≡ true → (c == 45) ≡ false
gap_is_no_hyphen c h = grind (arith, nat_tests)

gap_passed : (p : Place) (zones : List Place) (at : ℕ) (gap bytes : List ℕ) → IsGap gap → read_from (Some p) zones at [] at (gap ++ bytes) ≡ read_from (Some p) zones (at + length gap) [] (at + length gap) bytes
gap_passed p zones at [] bytes is = let e : at ≡ at + 0 = omega arith in ap (λ (n : ℕ). read_from (Some p) zones n [] n bytes) e
gap_passed p zones at (c ∷ gap) bytes is =
    let later : at + 1 + length gap ≡ at + suc (length gap) = omega arith in
    rw (gap_is_no_hyphen c is.0, is.0) (gap_passed p zones (at + 1) gap bytes is.1 ∙ ap (λ (n : ℕ). read_from (Some p) zones n [] n bytes) later)

some_yet : (group : List ℕ) (c : ℕ) → is_none_yet (group ++ c ∷ []) ≡ false
some_yet [] c = refl
some_yet (x ∷ xs) c = refl

-- groups are read, up to what follows them
pub groups_read : (before : Option Place) (zones : List Place) (at : ℕ) (spans : List Span) (front rest : List ℕ) → AreGroups before spans front →
    read_from before zones at [] at (front ++ rest) ≡ read_from (last_code before spans) (add_spans zones spans) (at + length front) [] (at + length front) rest
groups_read before zones at [] front rest h =
    let none : at + length front ≡ at = omega (arith, ap length h) in
    ap (λ (t : List ℕ). read_from before zones at [] at (t ++ rest)) h ∙ ap (λ (n : ℕ). read_from before zones n [] n rest) (sym none)
groups_read before zones at (s ∷ spans) front rest h =
    let own = h.0 in let gap = h.1 in let more = h.2 in
    let whole : front ++ rest ≡ own ++ (45 ∷ (gap ++ (more ++ rest))) =
    ap (λ (t : List ℕ). t ++ rest) h.7 ∙ append_assoc own (45 ∷ (gap ++ more)) rest ∙ ap (λ (t : List ℕ). own ++ 45 ∷ t) (append_assoc gap more rest) in
    let next = add_run zones s.first (s.last + 1 - s.first.number) in
    let place = at + length own + 1 in
    let size : length front ≡ length own + suc (length gap + length more) = ap length h.7 ∙ length-append own (45 ∷ (gap ++ more)) ∙ ap (λ (n : ℕ). length own + suc n) (length-append gap more) in
    let used : place + length gap + length more ≡ at + length front = omega arith in
    ap (read_from before zones at [] at) whole
    ∙ group_taken before zones at [] at own (45 ∷ (gap ++ (more ++ rest))) (spelled_plain before s own h.3 h.4)
    ∙ rw (group_spelled before s own h.3 h.4) (gap_passed s.first next place gap (more ++ rest) h.5
    ∙ groups_read (Some s.first) next (place + length gap) spans more rest h.6
    ∙ ap (λ (n : ℕ). read_from (last_code (Some s.first) spans) (add_spans next spans) n [] n rest) used)

-- the expiry is read
expiry_taken : (before : Option Place) (zones : List Place) (at : ℕ) (d : DayStamp) (rest : List ℕ) → HasCode before → is_day_stamp d ≡ true → read_from before zones at [] at (day_text d ++ 45 ∷ rest) ≡ read_as zones d (at + 7)
expiry_taken None zones at d rest code day = absurd code
expiry_taken (Some p) zones at d rest code day =
    let used : at + length (day_text d) + 1 ≡ at + 7 = omega arith in
    group_taken (Some p) zones at [] at (day_text d) (45 ∷ rest) (day_plain d)
    ∙ rw (day_read p d day) (ap (λ (n : ℕ). read_as zones d n) used)

-- what is in the grammar is read
pub ugc_is_read : (bytes : List ℕ) (zones : List Place) (d : DayStamp) (n : ℕ) → IsUgc bytes zones d n → ugc_of bytes ≡ read_as zones d n
ugc_is_read bytes zones d n u =
    let size : n ≡ length u.front + 7 = u.used in
    let used : 0 + length u.front + 7 ≡ n = omega arith in
    ap ugc_of u.whole ∙ groups_read None [] 0 u.spans u.front (day_text d ++ 45 ∷ u.rest) u.groups
    ∙ expiry_taken (last_code None u.spans) (zones_of u.spans) (0 + length u.front) d u.rest u.code u.day
    ∙ ap (λ (zs : List Place). read_as zs d (0 + length u.front + 7)) (sym u.zones) ∙ ap (λ (k : ℕ). read_as zones d k) used

-- ---- a fault is named

-- bytes without a hyphen go on with a group that has begun
inner_taken : (before : Option Place) (zones : List Place) (start : ℕ) (group : List ℕ) (at : ℕ) (own bytes : List ℕ) → is_none_yet group ≡ false → HasNoHyphen own →
    read_from before zones start group at (own ++ bytes) ≡ read_from before zones start (group ++ own) (at + length own) bytes
inner_taken before zones start group at [] bytes begun plain =
    let g : group ≡ group ++ [] = sym (append-nil group) in
    let n : at ≡ at + 0 = omega arith in
    λ i. read_from before zones start (g i) (n i) bytes
inner_taken before zones start group at (c ∷ own) bytes begun plain =
    let none : (is_gap c && is_none_yet group && is_some before) ≡ false = and_left _ _ (and_right _ _ begun) in
    let later : at + 1 + length own ≡ at + suc (length own) = omega arith in
    rw (plain.0, none) (inner_taken before zones start (group ++ c ∷ []) (at + 1) own bytes (some_yet group c) plain.1
    ∙ ap (λ (g : List ℕ). read_from before zones start g (at + 1 + length own) bytes) (append_assoc group (c ∷ []) own)
    ∙ ap (λ (n : ℕ). read_from before zones start (group ++ c ∷ own) n bytes) later)

first_stays : (before : Option Place) (c : ℕ) (cs : List ℕ) → (HasCode before → BeginsInNoGap (c ∷ cs)) → (is_gap c && is_none_yet [] && is_some before) ≡ false
first_stays None c cs past = and_right _ _ refl
first_stays (Some p) c cs past = and_left _ _ (and_left _ _ (past tt))

-- bytes without a hyphen that begin in no gap are a group's
bare_taken : (before : Option Place) (zones : List Place) (at : ℕ) (own bytes : List ℕ) → (HasCode before → BeginsInNoGap (own ++ bytes)) → HasNoHyphen own →
    read_from before zones at [] at (own ++ bytes) ≡ read_from before zones at own (at + length own) bytes
bare_taken before zones at [] bytes past plain = let n : at ≡ at + 0 = omega arith in ap (λ (k : ℕ). read_from before zones at [] k bytes) n
bare_taken before zones at (c ∷ own) bytes past plain =
    let later : at + 1 + length own ≡ at + suc (length own) = omega arith in
    rw (plain.0, first_stays before c (own ++ bytes) past) (inner_taken before zones at (c ∷ []) (at + 1) own bytes refl plain.1 ∙ ap (λ (n : ℕ). read_from before zones at (c ∷ own) n bytes) later)

cut_read : (before : Option Place) (zones : List Place) (start : ℕ) (group : List ℕ) (at : ℕ) (rest : List ℕ) → HasNoHyphen rest → read_from before zones start group at rest ≡ Err CutShort
cut_read before zones start group at [] plain = refl
cut_read before zones start group at (c ∷ rest) plain = rw plain.0 (elim (cases_Bool (is_gap c && is_none_yet group && is_some before)) [
  | inl e ↦ rw e (cut_read before zones (at + 1) [] (at + 1) rest plain.1)
  | inr e ↦ rw e (cut_read before zones start (group ++ c ∷ []) (at + 1) rest plain.1)
])

fault_taken : (before : Option Place) (zones : List Place) (at : ℕ) (rest : List ℕ) (f : UgcFault) → IsBefore before → (HasCode before → BeginsInNoGap rest) → Faults before at rest f → read_from before zones at [] at rest ≡ Err f
fault_taken before zones at rest CutShort good past h = cut_read before zones at [] at rest h
fault_taken before zones at rest (NotACode place) good past (same, (own, more, whole, plain, none)) =
    ap (read_from before zones at [] at) whole
    ∙ bare_taken before zones at own (45 ∷ more) (subst (λ (t : List ℕ). HasCode before → BeginsInNoGap t) whole past) plain
    ∙ rw (none_read before own good none (parse_group before own) refl) (ap (λ (n : ℕ). Err (NotACode n)) (sym same))
fault_taken before zones at rest (BadRange place) good past (same, (own, more, whole, plain, back)) =
    ap (read_from before zones at [] at) whole
    ∙ bare_taken before zones at own (45 ∷ more) (subst (λ (t : List ℕ). HasCode before → BeginsInNoGap t) whole past) plain
    ∙ rw (range_read before own back) (ap (λ (n : ℕ). Err (BadRange n)) (sym same))

span_before : (s : Span) → IsSpan s → IsBefore (Some s.first)
span_before s is = (is.state, is.letters)

last_before : (before : Option Place) (spans : List Span) (front : List ℕ) → IsBefore before → AreGroups before spans front → IsBefore (last_code before spans)
last_before before [] front good h = good
last_before before (s ∷ spans) front good h = last_before (Some s.first) spans h.2 (span_before s h.3) h.6

-- the first fault is read
pub fault_is_read : (bytes : List ℕ) (f : UgcFault) → FirstFault bytes f → ugc_of bytes ≡ Err f
fault_is_read bytes f h =
    let place : 0 + length h.front ≡ length h.front = omega arith in
    ap ugc_of h.whole ∙ groups_read None [] 0 h.spans h.front h.rest h.groups
    ∙ ap (λ (n : ℕ). read_from (last_code None h.spans) (zones_of h.spans) n [] n h.rest) place
    ∙ fault_taken (last_code None h.spans) (zones_of h.spans) (length h.front) h.rest f (last_before None h.spans h.front tt h.groups) h.past h.fault

-- ---- what is read is in the grammar, and what is refused has its fault

-- what ends the groups: the expiry, or the fault
abbrev pub Ends : Result UgcRead UgcFault → Option Place → List Place → ℕ → List ℕ → Type 0
Ends (Ok u) before zones at rest = (more : List ℕ) × HasCode before × IsTrue (is_day_stamp u.expiry) × (rest ≡ day_text u.expiry ++ 45 ∷ more) × (u.zones ≡ zones) × (u.used ≡ at + 7)
Ends (Err f) before zones at rest = (HasCode before → BeginsInNoGap rest) × Faults before at rest f

-- what is left, with the bytes of the group at hand before it: a gap, groups, and what ends them
pub record Found (before : Option Place) (named : List Place) (start : ℕ) (group bytes : List ℕ) (r : Result UgcRead UgcFault) : Type 0 where
  pub gap : List ℕ
  pub spans : List Span
  pub front : List ℕ
  pub rest : List ℕ
  pub is_gap : IsGap gap
  pub first : HasCode before ⊎ (gap ≡ [])
  pub begun : (is_none_yet group ≡ true) ⊎ (gap ≡ [])
  pub groups : AreGroups before spans front
  pub whole : group ++ bytes ≡ gap ++ (front ++ rest)
  pub ends : Ends r (last_code before spans) (add_spans named spans) (start + length gap + length front) rest

none_is : (group : List ℕ) → is_none_yet group ≡ true → group ≡ []
none_is [] h = refl
none_is (c ∷ cs) h = cc h

has_code : (before : Option Place) → is_some before ≡ true → HasCode before
has_code None h = absurd (cc h)
has_code (Some p) h = tt

no_code : (before : Option Place) → is_some before ≡ false → HasCode before → ⊥
no_code None h code = code
no_code (Some p) h code = cc h

-- the bytes of the group at hand: no hyphen, and no gap at their begin
pub record IsBare (before : Option Place) (group : List ℕ) : Type 0 where
  pub no_hyphen : HasNoHyphen group
  pub past : HasCode before → BeginsInNoGap group

none_bare : (before : Option Place) → IsBare before []
none_bare before = record { no_hyphen = tt; past = λ _. tt }

past_more : (group bytes : List ℕ) → BeginsInNoGap group → BeginsInNoGap bytes → BeginsInNoGap (group ++ bytes)
past_more [] bytes p q = q
past_more (c ∷ cs) bytes p q = p

no_hyphen_more : (group : List ℕ) (c : ℕ) → HasNoHyphen group → (c == 45) ≡ false → HasNoHyphen (group ++ c ∷ [])
no_hyphen_more [] c p q = (q, tt)
no_hyphen_more (x ∷ xs) c p q = (p.0, no_hyphen_more xs c p.1 q)

begins_more : (before : Option Place) (group : List ℕ) (c : ℕ) → (HasCode before → BeginsInNoGap group) → (is_gap c && is_none_yet group && is_some before) ≡ false → HasCode before → BeginsInNoGap (group ++ c ∷ [])
begins_more before (x ∷ xs) c past stays code = past code
begins_more None [] c past stays code = absurd code
begins_more (Some p) [] c past stays code = stays_so c stays
  where
    stays_so : (c : ℕ) → (is_gap c && true && true) ≡ false → is_gap c ≡ false
    stays_so c h = elim (cases_Bool (is_gap c)) [ inl e ↦ (let t : (is_gap c && true && true) ≡ true = rw e refl in absurd (both_ways _ h t)) | inr e ↦ e ]

bare_more : (before : Option Place) (group : List ℕ) (c : ℕ) → IsBare before group → (c == 45) ≡ false → (is_gap c && is_none_yet group && is_some before) ≡ false → IsBare before (group ++ c ∷ [])
bare_more before group c bare hyphen stays = record { no_hyphen = no_hyphen_more group c bare.no_hyphen hyphen; past = begins_more before group c bare.past stays }

-- the groups end at the group at hand
here : (before : Option Place) (zones : List Place) (start : ℕ) (group bytes : List ℕ) (r : Result UgcRead UgcFault) → Ends r before zones start (group ++ bytes) → Found before zones start group bytes r
here before zones start group bytes r ends =
    let none : start ≡ start + 0 + 0 = omega arith in
    record {
      gap = [];
      spans = [];
      front = [];
      rest = group ++ bytes;
      is_gap = tt;
      first = inr refl;
      begun = inr refl;
      groups = refl;
      whole = refl;
      ends = subst (λ (n : ℕ). Ends r before zones n (group ++ bytes)) none ends;
    }

refusal : (before : Option Place) (zones : List Place) (start : ℕ) (group bytes : List ℕ) (e : Refused) → IsBefore before → IsBare before group → parse_group before group ≡ Err e → Ends (Err (fault_at start e)) before zones start (group ++ 45 ∷ bytes)
refusal before zones start group bytes NoCode good bare is = (λ code. past_more group (45 ∷ bytes) (bare.past code) refl, (refl, (group, bytes, refl, bare.no_hyphen, none_back before group is)))
refusal before zones start group bytes NoRange good bare is = (λ code. past_more group (45 ∷ bytes) (bare.past code) refl, (refl, (group, bytes, refl, bare.no_hyphen, range_back before group good is)))

settled : (before : Option Place) (zones : List Place) (start : ℕ) (group bytes : List ℕ) (at : ℕ) (r : Result UgcRead UgcFault) → IsBefore before → IsBare before group → start + length group ≡ at →
    ((before : Option Place) (zones : List Place) (start : ℕ) → IsBefore before → read_from before zones start [] start bytes ≡ r → Found before zones start [] bytes r) →
    (g : Result Group Refused) → parse_group before group ≡ g →
    settle g
    (λ p n. read_from (Some p) (add_run zones p (n + 1 - p.number)) (at + 1) [] (at + 1) bytes)
    (λ d. Ok (record { zones = zones; expiry = d; used = at + 1 }))
    (λ e. Err (fault_at start e)) ≡ r → Found before zones start group (45 ∷ bytes) r
settled before zones start group bytes at r good bare place later (Ok (Zones p n)) is h =
    let s : Span = record { first = p; last = n } in
    let spelled : IsSpan s × Spells before s group = group_back before group p n good is in
    let found : Found (Some p) (add_run zones p (n + 1 - p.number)) (at + 1) [] bytes r = later (Some p) _ (at + 1) (span_before s spelled.0) h in
    let size : length (group ++ 45 ∷ (found.gap ++ found.front)) ≡ length group + suc (length found.gap + length found.front) =
    length-append group (45 ∷ (found.gap ++ found.front)) ∙ ap (λ (k : ℕ). length group + suc k) (length-append found.gap found.front) in
    let same : at + 1 + length found.gap + length found.front ≡ start + 0 + length (group ++ 45 ∷ (found.gap ++ found.front)) = omega arith in
    let own : List ℕ = group in
    record {
      gap = [];
      spans = s ∷ found.spans;
      front = group ++ 45 ∷ (found.gap ++ found.front);
      rest = found.rest;
      is_gap = tt;
      first = inr refl;
      begun = inr refl;
      groups = (own, found.gap, found.front, spelled.0, spelled.1, found.is_gap, found.groups, refl);
      whole = ap (λ (t : List ℕ). group ++ 45 ∷ t) (found.whole ∙ sym (append_assoc found.gap found.front found.rest)) ∙ sym (append_assoc group (45 ∷ (found.gap ++ found.front)) found.rest);
      ends = subst (λ (k : ℕ). Ends r (last_code (Some p) found.spans) (add_spans (add_run zones p (n + 1 - p.number)) found.spans) k found.rest) same found.ends;
    }
settled before zones start group bytes at r good bare place later (Ok (Expiry d)) is h =
    let day = day_back before group d is in
    let six : length group ≡ 6 = ap length day.2 in
    let used : at + 1 ≡ start + 7 = omega arith in
    here before zones start group (45 ∷ bytes) r (subst (λ (x : Result UgcRead UgcFault). Ends x before zones start (group ++ 45 ∷ bytes)) h
    (bytes, day.0, day.1, ap (λ (g : List ℕ). g ++ 45 ∷ bytes) day.2, refl, used))
settled before zones start group bytes at r good bare place later (Err e) is h =
    here before zones start group (45 ∷ bytes) r (subst (λ (x : Result UgcRead UgcFault). Ends x before zones start (group ++ 45 ∷ bytes)) h (refusal before zones start group bytes e good bare is))

-- a byte of a gap is passed
passed : (c : ℕ) (bytes : List ℕ) (r : Result UgcRead UgcFault) (before : Option Place) (zones : List Place) (start : ℕ) (group : List ℕ) (at : ℕ) → start + length group ≡ at → (is_gap c && is_none_yet group && is_some before) ≡ true → Found before zones (at + 1) [] bytes r → Found before zones start group (c ∷ bytes) r
passed c bytes r before zones start group at place test found =
    let two = and_parts (is_gap c && is_none_yet group) (is_some before) test in
    let one = and_parts (is_gap c) (is_none_yet group) two.0 in
    let empty : group ≡ [] = none_is group one.1 in
    let size : length group ≡ 0 = ap length empty in
    let same : at + 1 + length found.gap + length found.front ≡ start + suc (length found.gap) + length found.front = omega arith in
    record {
      gap = c ∷ found.gap;
      spans = found.spans;
      front = found.front;
      rest = found.rest;
      is_gap = (one.0, found.is_gap);
      first = inl (has_code before two.1);
      begun = inl one.1;
      groups = found.groups;
      whole = ap (λ (g : List ℕ). g ++ c ∷ bytes) empty ∙ ap (λ (t : List ℕ). c ∷ t) found.whole;
      ends = subst (λ (k : ℕ). Ends r (last_code before found.spans) (add_spans zones found.spans) k found.rest) same found.ends;
    }

-- a byte is the group's
taken : (c : ℕ) (bytes : List ℕ) (r : Result UgcRead UgcFault) (before : Option Place) (zones : List Place) (start : ℕ) (group : List ℕ) → Found before zones start (group ++ c ∷ []) bytes r → Found before zones start group (c ∷ bytes) r
taken c bytes r before zones start group found =
    let none : found.gap ≡ [] = elim found.begun [ inl e ↦ absurd (both_ways _ (some_yet group c) e) | inr e ↦ e ] in
    record {
      gap = found.gap;
      spans = found.spans;
      front = found.front;
      rest = found.rest;
      is_gap = found.is_gap;
      first = inr none;
      begun = inr none;
      groups = found.groups;
      whole = sym (append_assoc group (c ∷ []) bytes) ∙ found.whole;
      ends = found.ends;
    }

found_from : (bytes : List ℕ) (r : Result UgcRead UgcFault) (before : Option Place) (zones : List Place) (start : ℕ) (group : List ℕ) (at : ℕ) → IsBefore before → IsBare before group → start + length group ≡ at → read_from before zones start group at bytes ≡ r → Found before zones start group bytes r
found_from [] r before zones start group at good bare place h =
    let whole : group ≡ group ++ [] = sym (append-nil group) in
    let ends : Ends (Err CutShort) before zones start group = (bare.past, bare.no_hyphen) in
    here before zones start group [] r (subst (λ (x : Result UgcRead UgcFault). Ends x before zones start (group ++ [])) h (subst (λ (t : List ℕ). Ends (Err CutShort) before zones start t) whole ends))
found_from (c ∷ bytes) r before zones start group at good bare place h =
    elim (eqb_tells c 45) [
      | inl e ↦ subst (λ (k : ℕ). Found before zones start group (k ∷ bytes) r) (sym e.1) (settled before zones start group bytes at r good bare place (λ before zones start good h. found_from bytes r before zones start [] start good (none_bare before) (no_more start) h) (parse_group before group) refl (rw e.0 at h))
      | inr e ↦
          let rest : cond (is_gap c && is_none_yet group && is_some before) (read_from before zones (at + 1) [] (at + 1) bytes) (read_from before zones start (group ++ c ∷ []) (at + 1) bytes) ≡ r = rw e.0 at h in
          elim (cases_Bool (is_gap c && is_none_yet group && is_some before)) [
            | inl f ↦ passed c bytes r before zones start group at place f (found_from bytes r before zones (at + 1) [] (at + 1) good (none_bare before) (no_more (at + 1)) (rw f at rest))
            | inr f ↦ taken c bytes r before zones start group (found_from bytes r before zones start (group ++ c ∷ []) (at + 1) good (bare_more before group c bare e.0 f) (one_more group c start at place) (rw f at rest))
          ]
    ]
  where
    no_more : (n : ℕ) → n + 0 ≡ n
    no_more n = omega arith

    one_more : (group : List ℕ) (c : ℕ) (start at : ℕ) → start + length group ≡ at → start + length (group ++ c ∷ []) ≡ at + 1
    one_more group c start at place = let size : length (group ++ c ∷ []) ≡ length group + 1 = length-append group (c ∷ []) in omega arith

found_all : (bytes : List ℕ) (r : Result UgcRead UgcFault) → ugc_of bytes ≡ r → Found None [] 0 [] bytes r
found_all bytes r h = found_from bytes r None [] 0 [] 0 tt (none_bare None) refl h

no_gap : (gap : List ℕ) → HasCode None ⊎ (gap ≡ []) → gap ≡ []
no_gap gap (inl e) = absurd e
no_gap gap (inr e) = e

-- what is read is in the grammar
pub read_is_ugc : (bytes : List ℕ) (u : UgcRead) → ugc_of bytes ≡ Ok u → IsUgc bytes u.zones u.expiry u.used
read_is_ugc bytes u h =
    let found : Found None [] 0 [] bytes (Ok u) = found_all bytes (Ok u) h in
    let none : found.gap ≡ [] = no_gap found.gap found.first in
    let size : length found.gap ≡ 0 = ap length none in
    let ends = found.ends in
    let used : u.used ≡ 0 + length found.gap + length found.front + 7 = ends.5 in
    record {
      spans = found.spans;
      front = found.front;
      rest = ends.0;
      groups = found.groups;
      code = ends.1;
      day = ends.2;
      whole = found.whole ∙ ap (λ (g : List ℕ). g ++ (found.front ++ found.rest)) none ∙ ap (λ (t : List ℕ). found.front ++ t) ends.3;
      zones = ends.4;
      used = omega arith;
    }

-- what is refused has its fault
pub refused_is_fault : (bytes : List ℕ) (f : UgcFault) → ugc_of bytes ≡ Err f → FirstFault bytes f
refused_is_fault bytes f h =
    let found : Found None [] 0 [] bytes (Err f) = found_all bytes (Err f) h in
    let none : found.gap ≡ [] = no_gap found.gap found.first in
    let size : length found.gap ≡ 0 = ap length none in
    let place : 0 + length found.gap + length found.front ≡ length found.front = omega arith in
    record {
      spans = found.spans;
      front = found.front;
      rest = found.rest;
      groups = found.groups;
      whole = found.whole ∙ ap (λ (g : List ℕ). g ++ (found.front ++ found.rest)) none;
      past = found.ends.0;
      fault = subst (λ (k : ℕ). Faults (last_code None found.spans) k found.rest f) place found.ends.1;
    }

-- ---- one text

-- bytes that follow change nothing
pub ugc_goes_on : (bytes more : List ℕ) (zones : List Place) (d : DayStamp) (n : ℕ) → IsUgc bytes zones d n → IsUgc (bytes ++ more) zones d n
ugc_goes_on bytes more zones d n u = record {
  spans = u.spans;
  front = u.front;
  rest = u.rest ++ more;
  groups = u.groups;
  code = u.code;
  day = u.day;
  whole = ap (λ (t : List ℕ). t ++ more) u.whole ∙ append_assoc u.front (day_text d ++ 45 ∷ u.rest) more ∙ ap (λ (t : List ℕ). u.front ++ t) (append_assoc (day_text d) (45 ∷ u.rest) more);
  zones = u.zones;
  used = u.used;
}

-- a text begins with one UGC text at most
pub ugc_once : (bytes more : List ℕ) (zones zones' : List Place) (d d' : DayStamp) (n n' : ℕ) → IsUgc bytes zones d n → IsUgc (bytes ++ more) zones' d' n' → (zones ≡ zones') × (d ≡ d') × (n ≡ n')
ugc_once bytes more zones zones' d d' n n' u v =
    let same : read_as zones d n ≡ read_as zones' d' n' = sym (ugc_is_read (bytes ++ more) zones d n (ugc_goes_on bytes more zones d n u)) ∙ ugc_is_read (bytes ++ more) zones' d' n' v in
    let e : record { zones = zones; expiry = d; used = n } ≡ record { zones = zones'; expiry = d'; used = n' } = same_read _ _ same in
    (ap (λ (r : UgcRead). r.zones) e, ap (λ (r : UgcRead). r.expiry) e, ap (λ (r : UgcRead). r.used) e)
  where
    same_read : (a b : UgcRead) → ◌≡◌ {A = Result UgcRead UgcFault} (Ok a) (Ok b) → a ≡ b
    same_read a b e = cc e

no_more : (more : List ℕ) (n : ℕ) → n ≡ n + length more → more ≡ []
no_more [] n e = refl
no_more (c ∷ cs) n e = absurd (omega arith)

-- no UGC text is a proper prefix of another
pub no_prefix : (text more : List ℕ) (zones zones' : List Place) (d d' : DayStamp) → IsUgc text zones d (length text) → IsUgc (text ++ more) zones' d' (length (text ++ more)) → more ≡ []
no_prefix text more zones zones' d d' u v =
    let once = ugc_once text more zones zones' d d' (length text) (length (text ++ more)) u v in
    no_more more (length text) (once.2 ∙ length-append text more)

-- ---- a text or a fault, and one

pub text_or_fault : (bytes : List ℕ) → ((zones : List Place) × (d : DayStamp) × (n : ℕ) × IsUgc bytes zones d n) ⊎ ((f : UgcFault) × FirstFault bytes f)
text_or_fault bytes = of_read (ugc_of bytes) refl
  where
    of_read : (r : Result UgcRead UgcFault) → ugc_of bytes ≡ r → ((zones : List Place) × (d : DayStamp) × (n : ℕ) × IsUgc bytes zones d n) ⊎ ((f : UgcFault) × FirstFault bytes f)
    of_read (Ok u) h = inl (u.zones, u.expiry, u.used, read_is_ugc bytes u h)
    of_read (Err f) h = inr (f, refused_is_fault bytes f h)

ok_or_err : (u : UgcRead) (f : UgcFault) → ◌≡◌ {A = Result UgcRead UgcFault} (Ok u) (Err f) → ⊥
ok_or_err u f e = cc e

pub not_both : (bytes : List ℕ) (zones : List Place) (d : DayStamp) (n : ℕ) (f : UgcFault) → IsUgc bytes zones d n → FirstFault bytes f → ⊥
not_both bytes zones d n f u h = ok_or_err _ f (sym (ugc_is_read bytes zones d n u) ∙ fault_is_read bytes f h)

same_fault : (f g : UgcFault) → ◌≡◌ {A = Result UgcRead UgcFault} (Err f) (Err g) → f ≡ g
same_fault f g e = cc e

pub one_fault : (bytes : List ℕ) (f g : UgcFault) → FirstFault bytes f → FirstFault bytes g → f ≡ g
one_fault bytes f g h k = same_fault f g (sym (fault_is_read bytes f h) ∙ fault_is_read bytes g k)
