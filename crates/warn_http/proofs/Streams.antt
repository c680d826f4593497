-- The calls of a stream: one list, which more bytes do not change, and to which one call is added.
use Rattle.std.proofs.Common.{◌≡◌, ℕ, ◌+◌, ◌<◌, ◌≤◌, ◌⊎◌, inl, inr, true, false, List, [], ◌∷◌, ◌++◌, length, take, drop, refl, ap, sym, ◌∙◌, subst, ◌-◌, arith, length-append, length-drop}
use Rattle.std.proofs.lemmas.List.{drop-append-le, take-append-le}
use Rattle.httparse.specs.Grammar.{print_request}
use Rattle.office_types.specs.declared.refusal.Refusal.{Refusal}
use Rattle.office_types.specs.declared.refusal.Refusal.TheVariants.{BadHead, HeadTooLong}
use Rattle.warn_http.specs.Heads.{IsBadHead, IsTooLong}
use Rattle.warn_http.specs.Calls.{Called, IsCall, IsRefused, called, call_at, posted_in, IsCut, most_calls, Stop, refused, closed, spent, left, EndsAs, AreCalls, IsFinal, AreAlike}
use Rattle.warn_http.specs.declared.routes.Aim.{Aim}
use Rattle.warn_http.specs.declared.routes.Aim.TheVariants as aim
use Rattle.warn_http.specs.declared.wants.Wanted.{Wanted}
use Rattle.warn_http.proofs.Fronts.{head_stays, bad_stays, long_stays}
use Rattle.warn_http.proofs.Causes.{one_call, one_refusal, refused_is_no_call, cut_is_no_call, cut_and_refused}

-- ---- more bytes

-- bytes within the first ones are those of more bytes
same_slice : (bytes more : List ℕ) (from to : ℕ) → from ≤ to → to ≤ length bytes
    → take (to - from) (drop from (bytes ++ more)) ≡ take (to - from) (drop from bytes)
same_slice bytes more from to le within =
    let low : from ≤ length bytes = omega arith in
    let room : to - from ≤ length (drop from bytes) = omega (arith, length-drop from bytes) in
    ap (λ (b : List ℕ). take (to - from) b) (drop-append-le from bytes more low) ∙ take-append-le (to - from) (drop from bytes) more room

same_posted : (bytes more : List ℕ) (asks : Aim) (size body : ℕ) → size + body ≤ length bytes
    → posted_in (bytes ++ more) (call_at asks size body) ≡ posted_in bytes (call_at asks size body)
same_posted bytes more aim.Post size body within = same_slice bytes more size (size + body) (omega arith) within
same_posted bytes more (aim.Look query) size body within = refl

same_called : (bytes more : List ℕ) (size : ℕ) (wants : Wanted) → size + wants.body ≤ length bytes
    → called (bytes ++ more) size wants ≡ called bytes size wants
same_called bytes more size wants within =
    ap (λ (posted : List ℕ). record { call = call_at wants.aim size wants.body; posted = posted; used = size + wants.body; last = wants.last })
    (same_posted bytes more wants.aim size wants.body within)

pub call_stays : (bytes more : List ℕ) (c : Called) → IsCall bytes c → IsCall (bytes ++ more) c
call_stays bytes more c x =
    let size = length-append bytes more in
    let whole = x.whole in
    record {
      head = x.head;
      wants = x.wants;
      stands = head_stays bytes more x.head x.stands;
      asks = x.asks;
      whole = omega arith;
      says = x.says ∙ sym (same_called bytes more (length (print_request x.head)) x.wants x.whole);
    }

pub refused_stays : (bytes more : List ℕ) (f : Refusal) → IsRefused bytes f → IsRefused (bytes ++ more) f
refused_stays bytes more f (inl bad) = inl (bad.0, bad_stays bytes more bad.1)
refused_stays bytes more f (inr (inl long)) = inr (inl (long.0, long_stays bytes more long.1))
refused_stays bytes more f (inr (inr r)) = inr (inr (r.0, head_stays bytes more r.0 r.1, r.2))

-- a call lies in the bytes
used_within : (bytes : List ℕ) (c : Called) → IsCall bytes c → c.used ≤ length bytes
used_within bytes c x =
    let used = ap (λ (d : Called). d.used) x.says in
    let whole = x.whole in
    omega arith

pub cut_stays : (bytes more : List ℕ) (calls : List Called) (rest : List ℕ) → IsCut bytes calls rest
    → IsCut (bytes ++ more) calls (rest ++ more)
cut_stays bytes more [] rest cut = ap (λ (b : List ℕ). b ++ more) cut
cut_stays bytes more (c ∷ calls) rest cut =
    let e = drop-append-le c.used bytes more (used_within bytes c cut.0) in (
      call_stays bytes more c cut.0,
      cut.1,
      subst (λ (b : List ℕ). IsCut b calls (rest ++ more)) (sym e) (cut_stays (drop c.used bytes) more calls rest cut.2),
    )

ends_stay : (open_calls : List Called) (rest more : List ℕ) (calls : List Called) (stop : Stop) → IsFinal stop
    → EndsAs open_calls rest calls stop → EndsAs open_calls (rest ++ more) calls stop
ends_stay open_calls rest more calls (refused f) final ends = (ends.0, ends.1, refused_stays rest more f ends.2)
ends_stay open_calls rest more calls closed final ends =
    (ends.0, ends.1, ends.2, call_stays rest more ends.0 ends.3, ends.4)
ends_stay open_calls rest more calls spent final ends = ends
ends_stay open_calls rest more calls (left cut) final ends = absurd final

pub calls_stay : (bytes more : List ℕ) (calls : List Called) (stop : Stop) → IsFinal stop → AreCalls bytes calls stop
    → AreCalls (bytes ++ more) calls stop
calls_stay bytes more calls stop final x = record {
  open_calls = x.open_calls;
  rest = x.rest ++ more;
  cut = cut_stays bytes more x.open_calls x.rest x.cut;
  ends = ends_stay x.open_calls x.rest more calls stop final x.ends;
}

-- ---- one call more

pub cut_more : (bytes : List ℕ) (calls : List Called) (rest : List ℕ) (c : Called) → IsCut bytes calls rest
    → IsCall rest c → c.last ≡ false → IsCut bytes (calls ++ c ∷ []) (drop c.used rest)
cut_more bytes [] rest c cut x stays =
    (subst (λ (b : List ℕ). IsCall b c) (sym cut) x, stays, ap (drop c.used) cut)
cut_more bytes (d ∷ calls) rest c cut x stays =
    (cut.0, cut.1, cut_more (drop d.used bytes) calls rest c cut.2 x stays)

-- ---- one list

-- nothing goes on behind so many calls
Stays : ℕ → List ℕ → Type 0
Stays count rest = (c : Called) → IsCall rest c → c.last ≡ false → count < most_calls → ⊥

ends_stays : (open_calls : List Called) (rest : List ℕ) (calls : List Called) (stop : Stop)
    → EndsAs open_calls rest calls stop → Stays (length open_calls) rest
unfolding Stays
ends_stays open_calls rest calls (refused f) ends = λ c x stays few. refused_is_no_call rest c f x ends.2
ends_stays open_calls rest calls closed ends = λ c x stays few.
    let e : c ≡ ends.0 = one_call rest c ends.0 x ends.3 in
    let f : true ≡ false = sym ends.4 ∙ sym (ap (λ (d : Called). d.last) e) ∙ stays in
    cc
ends_stays open_calls rest calls spent ends = λ c x stays few. omega (arith, ends.1, few)
ends_stays open_calls rest calls (left cut) ends = λ c x stays few. cut_is_no_call rest c x ends.3

ends_few : (open_calls : List Called) (rest : List ℕ) (calls : List Called) (stop : Stop)
    → EndsAs open_calls rest calls stop → length open_calls ≤ most_calls
ends_few open_calls rest calls (refused f) ends = omega (arith, ends.1)
ends_few open_calls rest calls closed ends = omega (arith, ends.2)
ends_few open_calls rest calls spent ends = omega (arith, ends.1)
ends_few open_calls rest calls (left cut) ends = omega (arith, ends.2)

-- two cuts from the same bytes, behind which nothing goes on, are one
one_cut : (before : ℕ) (bytes : List ℕ) (calls : List Called) (rest : List ℕ) (others : List Called) (other : List ℕ)
    → IsCut bytes calls rest → IsCut bytes others other
    → Stays (before + length calls) rest → Stays (before + length others) other
    → before + length calls ≤ most_calls → before + length others ≤ most_calls
    → (calls ≡ others) × (rest ≡ other)
unfolding Stays
one_cut before bytes [] rest [] other a b s t m n = (refl, sym a ∙ b)
one_cut before bytes [] rest (d ∷ others) other a b s t m n =
    absurd (s d (subst (λ (z : List ℕ). IsCall z d) a b.0) b.1 (omega arith))
one_cut before bytes (c ∷ calls) rest [] other a b s t m n =
    absurd (t c (subst (λ (z : List ℕ). IsCall z c) b a.0) a.1 (omega arith))
one_cut before bytes (c ∷ calls) rest (d ∷ others) other a b s t m n =
    let e : c ≡ d = one_call bytes c d a.0 b.0 in
    let cut : IsCut (drop c.used bytes) others other =
    subst (λ (k : ℕ). IsCut (drop k bytes) others other) (sym (ap (λ (k : Called). k.used) e)) b.2 in
    let same = one_cut (before + 1) (drop c.used bytes) calls rest others other a.2 cut
    (λ k x stays few. s k x stays (omega (arith, few))) (λ k x stays few. t k x stays (omega (arith, few)))
    (omega arith) (omega arith) in
    ((cc (e, same.0)), same.1)

refusal_alike : (rest : List ℕ) (f g : Refusal) → IsRefused rest f → IsRefused rest g → AreAlike (refused f) (refused g)
refusal_alike rest f g x y = of (one_refusal rest f g x y)
  where
    of : (f ≡ g) ⊎ (IsBadHead rest × IsTooLong rest
        × (((f ≡ BadHead) × (g ≡ HeadTooLong)) ⊎ ((f ≡ HeadTooLong) × (g ≡ BadHead))))
        → AreAlike (refused f) (refused g)
    of (inl same) = inl (ap refused same)
    of (inr (bad, long, inl e)) = inr (inl (ap refused e.0, inl (ap refused e.1)))
    of (inr (bad, long, inr e)) = inr (inr (ap refused e.1, inl (ap refused e.0)))

-- the same rest has one end
one_end : (open_calls : List Called) (rest : List ℕ) (calls others : List Called) (stop other : Stop)
    → EndsAs open_calls rest calls stop → EndsAs open_calls rest others other
    → (calls ≡ others) × AreAlike stop other
one_end open_calls rest calls others (refused f) (refused g) x y =
    (x.0 ∙ sym y.0, refusal_alike rest f g x.2 y.2)
one_end open_calls rest calls others (refused f) closed x y = absurd (refused_is_no_call rest y.0 f y.3 x.2)
one_end open_calls rest calls others (refused f) spent x y = absurd (omega (arith, x.1, y.1))
one_end open_calls rest calls others (refused f) (left cut) x y =
    let u = cut_and_refused rest f y.3 x.2 in
    (x.0 ∙ sym y.0, inr (inl (ap refused u.0, inr (rest, ap left y.1, u.2))))
one_end open_calls rest calls others closed (refused g) x y = absurd (refused_is_no_call rest x.0 g x.3 y.2)
one_end open_calls rest calls others closed closed x y =
    let e = one_call rest x.0 y.0 x.3 y.3 in
    (x.1 ∙ ap (λ (c : Called). open_calls ++ c ∷ []) e ∙ sym y.1, inl refl)
one_end open_calls rest calls others closed spent x y = absurd (omega (arith, x.2, y.1))
one_end open_calls rest calls others closed (left cut) x y = absurd (cut_is_no_call rest x.0 x.3 y.3)
one_end open_calls rest calls others spent (refused g) x y = absurd (omega (arith, x.1, y.1))
one_end open_calls rest calls others spent closed x y = absurd (omega (arith, x.1, y.2))
one_end open_calls rest calls others spent spent x y = (x.0 ∙ sym y.0, inl refl)
one_end open_calls rest calls others spent (left cut) x y = absurd (omega (arith, x.1, y.2))
one_end open_calls rest calls others (left cut) (refused g) x y =
    let u = cut_and_refused rest g x.3 y.2 in
    (x.0 ∙ sym y.0, inr (inr (ap refused u.0, inr (rest, ap left x.1, u.2))))
one_end open_calls rest calls others (left cut) closed x y = absurd (cut_is_no_call rest y.0 y.3 x.3)
one_end open_calls rest calls others (left cut) spent x y = absurd (omega (arith, x.2, y.1))
one_end open_calls rest calls others (left cut) (left short) x y =
    (x.0 ∙ sym y.0, inl (ap left (x.1 ∙ sym y.1)))

pub one_stream : (bytes : List ℕ) (calls others : List Called) (stop other : Stop)
    → AreCalls bytes calls stop → AreCalls bytes others other → (calls ≡ others) × AreAlike stop other
unfolding Stays
one_stream bytes calls others stop other x y =
    let same = one_cut 0 bytes x.open_calls x.rest y.open_calls y.rest x.cut y.cut
    (λ c k stays few. ends_stays x.open_calls x.rest calls stop x.ends c k stays (omega (arith, few)))
    (λ c k stays few. ends_stays y.open_calls y.rest others other y.ends c k stays (omega (arith, few)))
    (omega (arith, ends_few x.open_calls x.rest calls stop x.ends))
    (omega (arith, ends_few y.open_calls y.rest others other y.ends)) in
    let ends : EndsAs x.open_calls x.rest others other =
    subst (λ (b : List ℕ). EndsAs x.open_calls b others other) (sym same.1)
    (subst (λ (l : List Called). EndsAs l y.rest others other) (sym same.0) y.ends) in
    one_end x.open_calls x.rest calls others stop other x.ends ends
