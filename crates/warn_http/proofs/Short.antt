-- Calls that are not whole: how long they are, and how many bytes they want.
use Rattle.std.proofs.Common.{◌≡◌, ℕ, ◌+◌, ◌-◌, ◌<◌, ◌≤◌, ◌⊎◌, inl, inr, Bool, true, false, cond, List, [], ◌∷◌, ◌++◌, length, take, refl, ap, sym, ◌∙◌, subst, arith, length-append, Option, Some, None, Ok, Err, nat_le}
use Rattle.std.proofs.lemmas.List.{length-take}
use Rattle.std.proofs.lemmas.Bool.{leb-true, lt-ltb}
use Rattle.std.specs.Str.{bytes_eq}
use Rattle.httparse.specs.Grammar.{RequestHead, print_request, ReadsRequest}
use Rattle.httparse.specs.Spans.{IsRequestAt}
use Rattle.httparse.specs.declared.spans.HeaderSpan.{HeaderSpan}
use Rattle.httparse.specs.declared.spans.RequestSpans.{RequestSpans}
use Rattle.office_types.specs.declared.refusal.Refusal.{Refusal}
use Rattle.office_types.specs.declared.refusal.Refusal.TheVariants.{WrongMethod}
use Rattle.warn_http.specs.Numbers.{are_digits, number_from, at_most, number_of}
use Rattle.http_heads.specs.Fields.{Pair}
use Rattle.warn_http.specs.Heads.{fields_of, most_body, most_bytes, length_by, length_in, stated, IsHead, IsCutHead}
use Rattle.warn_http.specs.Wants.{sized, framed, with_method, judged, wanted, wanted_by}
use Rattle.warn_http.specs.Routes.{method_of}
use Rattle.warn_http.specs.Calls.{IsCutBody, IsUnfinished}
use Rattle.warn_http.specs.declared.numbers.Number.TheVariants.{NoNumber, TooLarge, Is}
use Rattle.warn_http.specs.declared.fields.Stated.{Stated}
use Rattle.warn_http.specs.declared.fields.Stated.TheVariants.{Absent, Bytes, TooLong, Wrong}
use Rattle.warn_http.specs.declared.routes.Aim.{Aim}
use Rattle.warn_http.specs.declared.routes.Aim.TheVariants.{Post, Look}
use Rattle.warn_http.specs.declared.wants.Wanted.{Wanted}
use Rattle.warn_http.specs.Readings.{Says, HasNoHead, pairs_at, missing}
use Rattle.warn_http.specs.declared.heads.Head.TheVariants.{Whole}
use Rattle.warn_http.proofs.Fronts.{head_reads, head_stays, one_head}
use Rattle.warn_http.proofs.Causes.{headless, few_fields}

-- ---- the body that a head wants

-- the body is what the fields state, or none
abbrev IsBodyOf : Stated → Wanted → Type 0
IsBodyOf length w = (length ≡ Bytes w.body) ⊎ (w.body ≡ 0)

no_want : {f : Refusal} {w : Wanted} → Err f ≡ Ok w → ⊥
no_want e = cc

sized_body : (length : Stated) (asks : Aim) (last : Bool) (w : Wanted) → sized length asks last ≡ Ok w → IsBodyOf length w
sized_body Absent Post last w e = absurd (no_want e)
sized_body Absent (Look query) last w e = inr (let is : w ≡ record { aim = Look query; body = 0; last = last } = cc in ap (λ (v : Wanted). v.body) is)
sized_body (Bytes n) asks last w e = inl (let is : record { aim = asks; body = n; last = last } ≡ w = cc in ap (λ (v : Wanted). Bytes v.body) is)
sized_body TooLong asks last w e = absurd (no_want e)
sized_body Wrong asks last w e = absurd (no_want e)

framed_body : (encoded : Bool) (length : Stated) (asks : Aim) (last : Bool) (w : Wanted) → framed encoded length asks last ≡ Ok w → IsBodyOf length w
framed_body true length asks last w e = absurd (no_want e)
framed_body false length asks last w e = sized_body length asks last w e

method_body : (method : List ℕ) (encoded : Bool) (length : Stated) (asks : Option Aim) (last : Bool) (w : Wanted)
    → with_method method encoded length asks last ≡ Ok w → IsBodyOf length w
method_body method encoded length None last w e = absurd (no_want e)
method_body method encoded length (Some asks) last w e = by (bytes_eq method (method_of asks)) e
  where
    by : (b : Bool) → cond b (framed encoded length asks last) (Err WrongMethod) ≡ Ok w → IsBodyOf length w
    by true e = framed_body encoded length asks last w e
    by false e = absurd (no_want e)

judged_body : (method : List ℕ) (encoded : Bool) (length : Stated) (asks : Option Aim) (last : Bool) (w : Wanted)
    → judged method encoded length asks last ≡ Ok w → IsBodyOf length w
judged_body method encoded Wrong asks last w e = absurd (no_want e)
judged_body method encoded Absent asks last w e = method_body method encoded Absent asks last w e
judged_body method encoded (Bytes n) asks last w e = method_body method encoded (Bytes n) asks last w e
judged_body method encoded TooLong asks last w e = method_body method encoded TooLong asks last w e

wanted_body : (h : RequestHead) (w : Wanted) → wanted_by h ≡ Ok w → IsBodyOf (stated (fields_of h)) w
unfolding wanted
wanted_body h w e = judged_body h.method _ (stated (fields_of h)) _ _ w e

-- ---- lengths

no_bytes : {n : ℕ} → Wrong ≡ Bytes n → ⊥
no_bytes e = cc

at_most_is : (n body : ℕ) → length_by (at_most most_body n) ≡ Bytes body → body ≤ most_body
at_most_is n body e = by (nat_le n most_body) refl e
  where
    by : (b : Bool) → nat_le n most_body ≡ b → length_by (cond b (Is n) TooLarge) ≡ Bytes body → body ≤ most_body
    by true le e =
        let is : n ≡ body = cc in
        omega (arith, leb-true n most_body le, is)
    by false le e = absurd (cc)

number_fits : (value : List ℕ) (body : ℕ) → length_by (number_of most_body value) ≡ Bytes body → body ≤ most_body
unfolding number_of
number_fits value body e = by (are_digits value) e
  where
    by : (b : Bool) → length_by (cond b (at_most most_body (number_from 0 value)) NoNumber) ≡ Bytes body → body ≤ most_body
    by true e = at_most_is (number_from 0 value) body e
    by false e = absurd (cc)

length_fits : (values : List (List ℕ)) (body : ℕ) → length_in values ≡ Bytes body → body ≤ most_body
length_fits [] body e = absurd (cc)
length_fits (value ∷ []) body e = number_fits value body e
length_fits (value ∷ other ∷ values) body e = absurd (cc)

stated_fits : (pairs : List Pair) (body : ℕ) → stated pairs ≡ Bytes body → body ≤ most_body
unfolding stated
stated_fits pairs body e = length_fits _ body e

body_fits : (h : RequestHead) (w : Wanted) → wanted_by h ≡ Ok w → w.body ≤ most_body
body_fits h w e = by (wanted_body h w e)
  where
    by : IsBodyOf (stated (fields_of h)) w → w.body ≤ most_body
    by (inl is) = stated_fits (fields_of h) w.body is
    by (inr none) = omega (arith, none)

head_fits : (bytes : List ℕ) (h : RequestHead) → IsHead bytes h → length (print_request h) ≤ most_bytes
head_fits bytes h head =
    let all : length (take most_bytes bytes) ≡ length (print_request h) + length head.rest =
    ap length head.reads.1 ∙ length-append (print_request h) head.rest in
    omega (arith, all, length-take most_bytes bytes)

pub short_enough : (bytes : List ℕ) → IsUnfinished bytes → length bytes < 73728
short_enough bytes (inl cut) = omega (arith, cut.1)
short_enough bytes (inr cut) = omega (arith, cut.cut, head_fits bytes cut.head cut.stands, body_fits cut.head cut.wants cut.asks)

-- ---- bytes that are wanted

module _ (bytes front : List ℕ) (headers : List HeaderSpan) (spans : RequestSpans) (is : front ≡ take most_bytes bytes) (says : Says front headers (Whole spans)) where
  at_front : IsRequestAt (take most_bytes bytes) headers spans says.0.0
  at_front = subst (λ (b : List ℕ). IsRequestAt b headers spans says.0.0) is says.0.1

  stands : IsHead bytes says.0.0
  stands = record { rest = _; reads = at_front.reads; few = few_fields (take most_bytes bytes) headers spans says.0.0 at_front says.2 }

  -- where a head is whole, none is cut
  pub no_cut_head : IsCutHead bytes → ⊥
  no_cut_head cut = headless bytes says.0.0 cut.0 stands

  -- what is missing of the body
  pub missing_body : (s : Stated) (n : ℕ) → s ≡ stated (pairs_at front headers spans) → n ≡ missing spans.len (length bytes) s
      → (cut : IsCutBody bytes) → length bytes + n ≡ length (print_request cut.head) + cut.wants.body
  missing_body s n states counts cut = by (wanted_body cut.head cut.wants cut.asks)
    where
      same : says.0.0 ≡ cut.head
      same = one_head bytes says.0.0 cut.head stands cut.stands

      size : spans.len ≡ length (print_request cut.head)
      size = at_front.len ∙ ap (λ (h : RequestHead). length (print_request h)) same

      all : (rest : List ℕ) × ReadsRequest bytes cut.head rest
      all = head_reads bytes cut.head cut.stands

      total : length bytes ≡ length (print_request cut.head) + length all.0
      total = ap length all.1.1 ∙ length-append (print_request cut.head) all.0

      stated_is : s ≡ stated (fields_of cut.head)
      stated_is = states ∙ ap stated (says.0.1.fields ∙ ap fields_of same)

      by : IsBodyOf (stated (fields_of cut.head)) cut.wants → length bytes + n ≡ length (print_request cut.head) + cut.wants.body
      by (inl body) =
          let lt : length bytes < spans.len + cut.wants.body = omega (arith, cut.cut, size) in
          let left : n ≡ spans.len + cut.wants.body - length bytes = counts ∙ ap (missing spans.len (length bytes)) (stated_is ∙ body) ∙ rw (lt-ltb (length bytes) (spans.len + cut.wants.body) lt) refl in
          omega (arith, left, lt, size)
      by (inr none) = absurd (omega (arith, none, cut.cut, total))

-- fewer bytes than are missing leave a call unfinished
pub still_unfinished : (bytes : List ℕ) (wants n : ℕ) → (IsCutHead bytes → ⊥)
    → ((cut : IsCutBody bytes) → length bytes + wants ≡ length (print_request cut.head) + cut.wants.body)
    → IsUnfinished bytes → (more : List ℕ) → Some wants ≡ Some n → length more < n → IsUnfinished (bytes ++ more)
still_unfinished bytes wants n head body (inl cut) more is few = absurd (head cut)
still_unfinished bytes wants n head body (inr cut) more is few =
    let same : wants ≡ n = cc in
    inr (record {
      head = cut.head;
      wants = cut.wants;
      stands = head_stays bytes more cut.head cut.stands;
      asks = cut.asks;
      cut = omega (arith, few, same, body cut, length-append bytes more);
    })

-- where no head is whole, no body is cut
pub no_cut_body : (bytes front : List ℕ) → front ≡ take most_bytes bytes → HasNoHead front → IsCutBody bytes → ⊥
no_cut_body bytes front is none cut =
    none cut.head cut.stands.rest (subst (λ (b : List ℕ). ReadsRequest b cut.head cut.stands.rest) (sym is) cut.stands.reads) cut.stands.few
