-- What is refused has that fault first.
use Rattle.std.proofs.Common.{◌≡◌, ℕ, zero, suc, ◌+◌, ◌-◌, ◌≤◌, ◌==◌, true, false, List, [], ◌∷◌, ◌++◌, length, take, drop, refl, ap, sym, ◌∙◌, arith, subst, Option, Some, None, Result, Ok, Err, inl, inr, ◌⊎◌}
use Rattle.std.proofs.lemmas.Bool.{cases_Bool, ne_eqb}
use Rattle.hazard_types.specs.Given.{◌>>=◌}
use Rattle.hazard_types.specs.Places.{Place}
use Rattle.hazard_types.specs.declared.calendar.DayStamp.{DayStamp}
use Rattle.ugc_codes.specs.Reading.{ugc_of}
use Rattle.ugc_codes.specs.declared.read.UgcRead.{UgcRead}
use Rattle.ugc_codes.specs.declared.read.UgcFault.{UgcFault}
use Rattle.ugc_codes.proofs.Lines.{read_is_ugc, ugc_is_read}
use Rattle.product_frame.specs.Text.{starts_from, line_of, is_empty, line_end_count}
use Rattle.product_frame.specs.Parts.{begins, has_slash, is_end}
use Rattle.hazard_types.specs.declared.line.Flood.{Flood}
use Rattle.hvtec_string.specs.Columns.{IsHvtec, hvtec_of}
use Rattle.hvtec_string.proofs.Laying.{hvtec_hit}
use Rattle.product_frame.specs.Events.{parse_pair}
use Rattle.product_frame.proofs.Events.{no_slash_no_hvtec, none_paired, pair_back, one_pair}
use Rattle.product_frame.specs.Frames.{line_at}
use Rattle.product_frame.specs.Walking.{take_line_outside, open_by, take_line_at_pairs, take_line_at_rest, paired, next_at, ahead, step, walk}
use Rattle.product_frame.specs.Grammar.{AreEvents, LacksFlood, AreRest}
use Rattle.product_frame.specs.Faults.{BeginsWith, Opens, StopsAtVtec, HasNoEnd, IsFaulty, IsFirstFault}
use Rattle.product_frame.specs.declared.frame.FrameSegment.{FrameSegment}
use Rattle.product_frame.specs.declared.frame.Pair.{Pair}
use Rattle.product_frame.specs.declared.frame.FrameFault.{FrameFault}
use Rattle.product_frame.specs.declared.frame.FrameFault.TheVariants.{NoSegmentEnd, BadUgc, BadVtec}
use Rattle.product_frame.specs.declared.walk.Stage.{Stage}
use Rattle.product_frame.specs.declared.walk.Stage.TheVariants.{Outside, Pairs, Rest}
use Rattle.product_frame.proofs.Segments.{state}
use Rattle.product_frame.proofs.Found.{Out}
use Rattle.product_frame.proofs.SegmentEnds.{RestEnds, SegmentEnds, made, end_here, end_later, only_rest, pair_more, ugc_more, segment_here, segment_more}
use Rattle.product_frame.proofs.Starts.{AreStarts, ends_fit}

never : (out : Out) (x : FrameFault) → ◌≡◌ {A = Result Out FrameFault} (Ok out) (Err x) → ⊥
never out x e = cc e

same_fault : (x y : FrameFault) → ◌≡◌ {A = Result Out FrameFault} (Err x) (Err y) → y ≡ x
same_fault x y e = let h : x ≡ y = cc e in sym h

no_lines : (xs : List ℕ) → length xs ≡ 0 → xs ≡ []
no_lines [] h = refl
no_lines (x ∷ xs) h = absurd (omega arith)

-- a segment that is whole, and then a fault
pub record Passes (bytes lines : List ℕ) (left total : ℕ) (x : FrameFault) : Type 0 where
  pub ends : SegmentEnds bytes lines left
  pub then : IsFirstFault bytes ends.rest.later total x

pub record RestPasses (bytes lines : List ℕ) (total : ℕ) (x : FrameFault) : Type 0 where
  pub ends : RestEnds bytes lines
  pub then : IsFirstFault bytes ends.later total x

pub record Stops (bytes lines : List ℕ) (left total : ℕ) (x : FrameFault) : Type 0 where
  pub number : ℕ
  pub is : x ≡ BadVtec number
  pub from : List ℕ
  pub stops : StopsAtVtec bytes lines left from
  pub sum : number + length from ≡ total

abbrev pub RestFault : List ℕ → List ℕ → ℕ → ℕ → FrameFault → Type 0
RestFault bytes lines first total x = ((x ≡ NoSegmentEnd first) × AreRest bytes lines) ⊎ RestPasses bytes lines total x

abbrev pub PairsFault : List ℕ → List ℕ → ℕ → ℕ → ℕ → FrameFault → Type 0
PairsFault bytes lines left first total x = ((x ≡ NoSegmentEnd first) × HasNoEnd bytes lines left) ⊎ (Stops bytes lines left total x ⊎ Passes bytes lines left total x)

abbrev pub Faulty : List ℕ → List ℕ → Stage → ℕ → ℕ → ℕ → FrameFault → Type 0
Faulty bytes lines Outside zero first total x = IsFirstFault bytes lines total x
Faulty bytes lines Outside (suc k) first total x = Unit {0}
Faulty bytes lines Pairs left first total x = PairsFault bytes lines left first total x
Faulty bytes lines Rest zero first total x = RestFault bytes lines first total x
Faulty bytes lines Rest (suc k) first total x = Unit {0}

-- ---- one line more

first_more : (bytes lines : List ℕ) (s total : ℕ) (x : FrameFault) → begins (line_at bytes s) ≡ false → IsFirstFault bytes lines total x → IsFirstFault bytes (s ∷ lines) total x
first_more bytes lines s total x b f = by f.segments f.before
  where
    by : (segments : List FrameSegment) → BeginsWith bytes lines segments f.later → IsFirstFault bytes (s ∷ lines) total x
    by [] h = record { segments = []; later = s ∷ f.later; outside = s ∷ f.outside; start = f.start; behind = f.behind; before = ap (λ (l : List ℕ). s ∷ l) h; whole = ap (λ (l : List ℕ). s ∷ l) f.whole; passed = (b, f.passed); begun = f.begun; fault = f.fault }
    by (g ∷ segments) h = record { segments = g ∷ segments; later = f.later; outside = f.outside; start = f.start; behind = f.behind; before = (h.0, segment_more bytes lines s g h.0 b h.1, h.2); whole = f.whole; passed = f.passed; begun = f.begun; fault = f.fault }

rest_end : (bytes lines : List ℕ) (s first total : ℕ) (x : FrameFault) → is_end (line_at bytes s) ≡ true → IsFirstFault bytes lines total x → RestFault bytes (s ∷ lines) first total x
rest_end bytes lines s first total x e f = inr (record { ends = end_here bytes lines s e; then = f })

rest_more : (bytes lines : List ℕ) (s first total : ℕ) (x : FrameFault) → is_end (line_at bytes s) ≡ false → RestFault bytes lines first total x → RestFault bytes (s ∷ lines) first total x
rest_more bytes lines s first total x e (inl h) = inl (h.0, (e, h.1))
rest_more bytes lines s first total x e (inr r) = inr (record { ends = end_later bytes lines s e r.ends; then = r.then })

no_event : (bytes lines : List ℕ) (s first total : ℕ) (x : FrameFault) → has_slash (line_at bytes s) ≡ false → RestFault bytes (s ∷ lines) first total x → PairsFault bytes (s ∷ lines) 0 first total x
no_event bytes lines s first total x no_slash (inl h) = inl (h.0, record { ugc = []; events = []; pairs = []; others = s ∷ lines; whole = refl; size = refl; spelled = refl; behind = no_slash; rest = h.1 })
no_event bytes lines s first total x no_slash (inr r) = inr (inr (record { ends = only_rest bytes lines s no_slash r.ends; then = r.then }))

-- the line at which pairs stop is no H-VTEC line for the pair before it
stops_behind : (bytes lines next events left more : List ℕ) (at : ℕ) (p : Pair) (pairs : List Pair) → hvtec_of (next_at bytes lines) ≡ p.flood → length next ≡ ahead p.flood → lines ≡ next ++ (events ++ left) → left ≡ at ∷ more → AreEvents bytes events pairs →
    (LacksFlood pairs → (h : Flood) → IsHvtec (line_at bytes at) h → ⊥) → LacksFlood (p ∷ pairs) → (h : Flood) → IsHvtec (line_at bytes at) h → ⊥
stops_behind bytes lines next events left more at p [] flood size whole left_are spelled no_flood lacks h is = clash (sym (ap hvtec_of here) ∙ flood ∙ lacks) (hvtec_hit (line_at bytes at) h is)
  where
    none : next ≡ []
    none = no_lines next (size ∙ ap ahead lacks)

    here : next_at bytes lines ≡ line_at bytes at
    here = ap (next_at bytes) (whole ∙ (λ i. none i ++ (spelled i ++ left_are i)))

    clash : hvtec_of (line_at bytes at) ≡ None → hvtec_of (line_at bytes at) ≡ Some h → ⊥
    clash a b = cc
stops_behind bytes lines next events left more at p (q ∷ pairs) flood size whole left_are spelled no_flood lacks h is = no_flood lacks h is

one_event : (bytes lines : List ℕ) (s first total : ℕ) (x : FrameFault) (p : Pair) → parse_pair (line_at bytes s) (next_at bytes lines) ≡ Some p → PairsFault bytes lines (ahead p.flood) first total x → PairsFault bytes (s ∷ lines) 0 first total x
one_event bytes lines s first total x p is (inl h) =
    let n = h.1 in
    let b = one_pair bytes lines n.ugc n.events n.others s p n.pairs is n.size n.whole n.spelled in
    inl (h.0, record { ugc = []; events = b.events; pairs = p ∷ n.pairs; others = n.others; whole = b.whole; size = refl; spelled = b.spelled; behind = n.behind; rest = n.rest })
one_event bytes lines s first total x p is (inr (inl t)) =
    let n = t.stops in
    let b = one_pair bytes lines n.ugc n.events t.from s p n.pairs is n.size n.whole n.spelled in
    let flood = (pair_back (line_at bytes s) (next_at bytes lines) p is).1 in
    let no_flood = stops_behind bytes lines n.ugc n.events t.from n.more n.at p n.pairs flood n.size n.whole n.left_are n.spelled n.no_flood in
    inr (inl (record {
      number = t.number;
      is = t.is;
      from = t.from;
      sum = t.sum;
      stops = record { ugc = []; events = b.events; pairs = p ∷ n.pairs; at = n.at; more = n.more; left_are = n.left_are; whole = b.whole; size = refl; spelled = b.spelled; slash = n.slash; no_vtec = n.no_vtec; no_flood = no_flood };
    }))
one_event bytes lines s first total x p is (inr (inr n)) = inr (inr (record { ends = pair_more bytes lines s p is n.ends; then = n.then }))

bad_event : (bytes lines : List ℕ) (s first number total : ℕ) (x : FrameFault) → x ≡ BadVtec number → number + (length lines + 1) ≡ total → has_slash (line_at bytes s) ≡ true → parse_pair (line_at bytes s) (next_at bytes lines) ≡ None → PairsFault bytes (s ∷ lines) 0 first total x
bad_event bytes lines s first number total x is sum slash none = inr (inl (record {
  number = number;
  is = is;
  from = s ∷ lines;
  sum = omega (arith, sum);
  stops = record { ugc = []; events = []; pairs = []; at = s; more = lines; left_are = refl; whole = refl; size = refl; spelled = refl; slash = slash; no_vtec = none_paired (line_at bytes s) (next_at bytes lines) none; no_flood = λ lacks. absurd lacks };
}))

one_skipped : (bytes lines : List ℕ) (s k first total : ℕ) (x : FrameFault) → PairsFault bytes lines k first total x → PairsFault bytes (s ∷ lines) (suc k) first total x
one_skipped bytes lines s k first total x (inl h) =
    let n = h.1 in
    inl (h.0, record { ugc = s ∷ n.ugc; events = n.events; pairs = n.pairs; others = n.others; whole = ap (λ (l : List ℕ). s ∷ l) n.whole; size = ap suc n.size; spelled = n.spelled; behind = n.behind; rest = n.rest })
one_skipped bytes lines s k first total x (inr (inl t)) =
    let n = t.stops in
    inr (inl (record {
      number = t.number;
      is = t.is;
      from = t.from;
      sum = t.sum;
      stops = record { ugc = s ∷ n.ugc; events = n.events; pairs = n.pairs; at = n.at; more = n.more; left_are = n.left_are; whole = ap (λ (l : List ℕ). s ∷ l) n.whole; size = ap suc n.size; spelled = n.spelled; slash = n.slash; no_vtec = n.no_vtec; no_flood = n.no_flood };
    }))
one_skipped bytes lines s k first total x (inr (inr n)) = inr (inr (record { ends = ugc_more bytes lines s k n.ends; then = n.then }))

no_line : (bytes : List ℕ) (first total : ℕ) (x : FrameFault) → x ≡ NoSegmentEnd first → PairsFault bytes [] 0 first total x
no_line bytes first total x is = inl (is, record { ugc = []; events = []; pairs = []; others = []; whole = refl; size = refl; spelled = refl; behind = tt; rest = tt })

-- an H-VTEC line that was read ahead is there
ahead_fits : (bytes lines : List ℕ) (f : Option Flood) → hvtec_of (next_at bytes lines) ≡ f → ahead f ≤ length lines
ahead_fits bytes lines None h = omega arith
ahead_fits bytes [] (Some f) h = clash f (sym (no_slash_no_hvtec bytes [] tt) ∙ h)
  where
    clash : (f : Flood) → ◌≡◌ {A = Option Flood} None (Some f) → 1 ≤ length {A = ℕ} []
    clash f e = cc e
ahead_fits bytes (s ∷ lines) (Some f) h = omega arith

-- a fault that stands at the first of these lines
here : (bytes lines : List ℕ) (s total : ℕ) (x : FrameFault) → begins (line_at bytes s) ≡ true → IsFaulty bytes s lines total x → IsFirstFault bytes (s ∷ lines) total x
here bytes lines s total x b f = record { segments = []; later = s ∷ lines; outside = []; start = s; behind = lines; before = refl; whole = refl; passed = tt; begun = b; fault = f }

begun_here : (bytes lines : List ℕ) (s number total : ℕ) (x : FrameFault) (u : UgcRead) → begins (line_at bytes s) ≡ true → ugc_of (drop s bytes) ≡ Ok u → is_empty (line_of (drop u.used (drop s bytes))) ≡ true → number + (length lines + 1) ≡ total →
    PairsFault bytes lines (line_end_count (take u.used (drop s bytes))) number total x → IsFirstFault bytes (s ∷ lines) total x
begun_here bytes lines s number total x u b read fills sum f = by f
  where
    opens : Opens (drop s bytes) (line_end_count (take u.used (drop s bytes)))
    opens = record { zones = u.zones; expiry = u.expiry; used = u.used; ugc = read_is_ugc (drop s bytes) u read; fills = fills; ends_are = refl }

    by : PairsFault bytes lines (line_end_count (take u.used (drop s bytes))) number total x → IsFirstFault bytes (s ∷ lines) total x
    by (inl h) = subst (IsFirstFault bytes (s ∷ lines) total) (sym h.0) (here bytes lines s total (NoSegmentEnd number) b (sum, line_end_count (take u.used (drop s bytes)), opens, h.1))
    by (inr (inl t)) = subst (IsFirstFault bytes (s ∷ lines) total) (sym t.is) (here bytes lines s total (BadVtec t.number) b (line_end_count (take u.used (drop s bytes)), opens, t.from, t.stops, t.sum))
    by (inr (inr p)) =
        let then = p.then in
        record { segments = made u.zones u.expiry p.ends.pairs ∷ then.segments; later = then.later; outside = then.outside; start = then.start; behind = then.behind; before = (p.ends.rest.later, segment_here bytes lines s u b read fills p.ends, then.before); whole = then.whole; passed = then.passed; begun = then.begun; fault = then.fault }

-- ---- the walk

abbrev pub Later : List ℕ → List ℕ → ℕ → FrameFault → Type 0
Later bytes lines total x = (gs : Out) (zs : List Place) (d : DayStamp) (ps : List Pair) (first left number : ℕ) (stage : Stage) → left ≤ length lines → number + length lines ≡ total → walk bytes (state gs zs d ps first left stage) number lines ≡ Err x → Faulty bytes lines stage left first total x

rest_line : (bytes lines : List ℕ) (total : ℕ) (x : FrameFault) (gs : Out) (zs : List Place) (d : DayStamp) (ps : List Pair) (first number s : ℕ) (stage : Stage) → Later bytes lines total x → number + 1 + length lines ≡ total →
    (take_line_at_rest (state gs zs d ps first 0 stage) (line_at bytes s) >>= λ v. walk bytes v (number + 1) lines) ≡ Err x → RestFault bytes (s ∷ lines) first total x
rest_line bytes lines total x gs zs d ps first number s stage later sum h =
    elim (cases_Bool (is_end (line_at bytes s))) [
      | inl e ↦ rest_end bytes lines s first total x e (later (gs ++ made zs d ps ∷ []) [] d [] first 0 (number + 1) Outside (omega arith) sum (rw e at h))
      | inr e ↦ rest_more bytes lines s first total x e (later gs zs d ps first 0 (number + 1) Rest (omega arith) sum (rw e at h))
    ]

event_line : (bytes lines : List ℕ) (total : ℕ) (x : FrameFault) (gs : Out) (zs : List Place) (d : DayStamp) (ps : List Pair) (first number s : ℕ) → Later bytes lines total x → number + 1 + length lines ≡ total → has_slash (line_at bytes s) ≡ true → (r : Option Pair) → parse_pair (line_at bytes s) (next_at bytes lines) ≡ r →
    (paired (state gs zs d ps first 0 Pairs) number r >>= λ v. walk bytes v (number + 1) lines) ≡ Err x → PairsFault bytes (s ∷ lines) 0 first total x
event_line bytes lines total x gs zs d ps first number s later sum slash None is h = bad_event bytes lines s first number total x (same_fault (BadVtec number) x h) (omega (arith, sum)) slash is
event_line bytes lines total x gs zs d ps first number s later sum slash (Some p) is h =
    let flood = (pair_back (line_at bytes s) (next_at bytes lines) p is).1 in
    one_event bytes lines s first total x p is (later gs zs d (ps ++ p ∷ []) first (ahead p.flood) (number + 1) Pairs (ahead_fits bytes lines p.flood flood) sum h)

pair_line : (bytes lines : List ℕ) (total : ℕ) (x : FrameFault) (gs : Out) (zs : List Place) (d : DayStamp) (ps : List Pair) (first number s : ℕ) → Later bytes lines total x → number + 1 + length lines ≡ total →
    (take_line_at_pairs (state gs zs d ps first 0 Pairs) number (line_at bytes s) (next_at bytes lines) >>= λ v. walk bytes v (number + 1) lines) ≡ Err x → PairsFault bytes (s ∷ lines) 0 first total x
pair_line bytes lines total x gs zs d ps first number s later sum h =
    elim (cases_Bool (has_slash (line_at bytes s))) [
      | inl e ↦ event_line bytes lines total x gs zs d ps first number s later sum e (parse_pair (line_at bytes s) (next_at bytes lines)) refl (rw e at h)
      | inr e ↦ no_event bytes lines s first total x e (rest_line bytes lines total x gs zs d ps first number s Pairs later sum (rw e at h))
    ]

ugc_line : (bytes lines : List ℕ) (total : ℕ) (x : FrameFault) (gs : Out) (zs : List Place) (d : DayStamp) (ps : List Pair) (first number s : ℕ) → Later bytes lines total x → lines ≡ starts_from s (drop s bytes) → number + 1 + length lines ≡ total → begins (line_at bytes s) ≡ true → (r : Result UgcRead UgcFault) → ugc_of (drop s bytes) ≡ r →
    (open_by (state gs zs d ps first 0 Outside) number (drop s bytes) r >>= λ v. walk bytes v (number + 1) lines) ≡ Err x → IsFirstFault bytes (s ∷ lines) total x
ugc_line bytes lines total x gs zs d ps first number s later starts sum b (Err f) is h =
    subst (IsFirstFault bytes (s ∷ lines) total) (sym (same_fault (BadUgc number) x h)) (here bytes lines s total (BadUgc number) b (omega (arith, sum), inl (λ zones day n u. clash (read_as zones day n) f (sym (ugc_is_read (drop s bytes) zones day n u) ∙ is))))
  where
    read_as : List Place → DayStamp → ℕ → UgcRead
    read_as zones day n = record { zones = zones; expiry = day; used = n }

    clash : (u : UgcRead) (f : UgcFault) → ◌≡◌ {A = Result UgcRead UgcFault} (Ok u) (Err f) → ⊥
    clash u f e = cc e
ugc_line bytes lines total x gs zs d ps first number s later starts sum b (Ok u) is h =
    elim (cases_Bool (is_empty (line_of (drop u.used (drop s bytes))))) [
      | inl e ↦ begun_here bytes lines s number total x u b is e (omega (arith, sum)) (later gs u.zones u.expiry [] number (line_end_count (take u.used (drop s bytes))) (number + 1) Pairs (ends_fit bytes lines s u.used starts) sum (rw e at h))
      | inr e ↦ subst (IsFirstFault bytes (s ∷ lines) total) (sym (same_fault (BadUgc number) x (rw e at h))) (here bytes lines s total (BadUgc number) b (omega (arith, sum), inr (u.zones, u.expiry, u.used, read_is_ugc (drop s bytes) u is, e)))
    ]

outside_line : (bytes lines : List ℕ) (total : ℕ) (x : FrameFault) (gs : Out) (zs : List Place) (d : DayStamp) (ps : List Pair) (first number s : ℕ) → Later bytes lines total x → lines ≡ starts_from s (drop s bytes) → number + 1 + length lines ≡ total →
    (take_line_outside (state gs zs d ps first 0 Outside) number (drop s bytes) >>= λ v. walk bytes v (number + 1) lines) ≡ Err x → IsFirstFault bytes (s ∷ lines) total x
unfolding take_line_outside
outside_line bytes lines total x gs zs d ps first number s later starts sum h =
    elim (cases_Bool (begins (line_at bytes s))) [
      | inl e ↦ ugc_line bytes lines total x gs zs d ps first number s later starts sum e (ugc_of (drop s bytes)) refl (rw e at h)
      | inr e ↦ first_more bytes lines s total x e (later gs zs d ps first 0 (number + 1) Outside (omega arith) sum (rw e at h))
    ]

next : (number : ℕ) (lines : List ℕ) (s total : ℕ) → number + length (s ∷ lines) ≡ total → number + 1 + length lines ≡ total
next number lines s total sum = omega (arith, sum)

faulty : (bytes lines : List ℕ) (total : ℕ) (x : FrameFault) → AreStarts bytes lines → Later bytes lines total x
unfolding step
faulty bytes [] total x starts gs zs d ps first zero number Outside few sum h = absurd (never gs x h)
faulty bytes [] total x starts gs zs d ps first (suc k) number Outside few sum h = tt
faulty bytes [] total x starts gs zs d ps first zero number Pairs few sum h = no_line bytes first total x (same_fault (NoSegmentEnd first) x h)
faulty bytes [] total x starts gs zs d ps first (suc k) number Pairs few sum h = absurd (omega (arith, few))
faulty bytes [] total x starts gs zs d ps first zero number Rest few sum h = inl (same_fault (NoSegmentEnd first) x h, tt)
faulty bytes [] total x starts gs zs d ps first (suc k) number Rest few sum h = tt
faulty bytes (s ∷ lines) total x starts gs zs d ps first zero number Outside few sum h = outside_line bytes lines total x gs zs d ps first number s (faulty bytes lines total x starts.1) starts.0 (next number lines s total sum) h
faulty bytes (s ∷ lines) total x starts gs zs d ps first (suc k) number Outside few sum h = tt
faulty bytes (s ∷ lines) total x starts gs zs d ps first zero number Pairs few sum h = pair_line bytes lines total x gs zs d ps first number s (faulty bytes lines total x starts.1) (next number lines s total sum) h
faulty bytes (s ∷ lines) total x starts gs zs d ps first (suc k) number Pairs few sum h =
    let back : suc k - 1 ≡ k = omega arith in
    let some : (suc k == 0) ≡ false = ne_eqb (suc k) 0 (λ e. absurd (omega arith)) in
    one_skipped bytes lines s k first total x (subst (λ (n : ℕ). PairsFault bytes lines n first total x) back
    (faulty bytes lines total x starts.1 gs zs d ps first (suc k - 1) (number + 1) Pairs (omega (arith, few)) (next number lines s total sum) (rw some at h)))
faulty bytes (s ∷ lines) total x starts gs zs d ps first zero number Rest few sum h = rest_line bytes lines total x gs zs d ps first number s Rest (faulty bytes lines total x starts.1) (next number lines s total sum) h
faulty bytes (s ∷ lines) total x starts gs zs d ps first (suc k) number Rest few sum h = tt

-- what the walk over the lines of a text refuses has that fault first
pub walked_fault : (bytes lines : List ℕ) (total : ℕ) (x : FrameFault) (zs : List Place) (d : DayStamp) (ps : List Pair) (first number : ℕ) → AreStarts bytes lines → number + length lines ≡ total → walk bytes (state [] zs d ps first 0 Outside) number lines ≡ Err x → IsFirstFault bytes lines total x
walked_fault bytes lines total x zs d ps first number starts sum h = faulty bytes lines total x starts [] zs d ps first 0 number Outside (omega arith) sum h
