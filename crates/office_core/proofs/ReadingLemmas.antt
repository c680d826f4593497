-- What a request's reading decides: whether it is out of range, and the minute.
use Rattle.std.proofs.Common.{◌≡◌, ◌∙◌, ◌≤◌, ℕ, ℤ, pos, negsuc, Bool, true, false, List, [], ◌∷◌, Option, Some, None, if◌then◌else◌, int_lt, max, nat_abs, refl, sym, ap, arith}
use Rattle.std.proofs.lemmas.Bool.{ltb-false, or_parts}
use Rattle.std.proofs.lemmas.Bool.Decides.{nat_tests}
use Rattle.office_types.specs.declared.refusal.Refusal.{Refusal}
use Rattle.office_types.specs.declared.refusal.Refusal.TheVariants as refusal
use Rattle.office_types.specs.declared.request.Request.{Request}
use Rattle.action_planner.specs.Offences.{first_given}
use Rattle.office_core.specs.Requests.{draft_of}
use Rattle.office_core.specs.Rules.{broken_draft, broken_number, broken_part, broken_request, clock_out, first_of_two, found_draft, gap, is_out, is_repeated, minute_of, reused, stale, unknown_desk}
use Rattle.office_core.specs.State.{State, last_number}
use Rattle.office_core.specs.Step.{Accepts}
use Rattle.office_core.specs.declared.made.Made.{Made}
use Rattle.office_core.proofs.BrokenLemmas.{read_in_range}

in_range : (n : ℕ) → n ≤ 52000000 → is_out (pos n) ≡ false
in_range n le = grind (arith, nat_tests)

not_late : (last : ℕ) (reading : ℤ) → last ≤ 52000000 → is_out reading ≡ false → max (nat_abs reading) last ≤ 52000000
not_late last (pos n) le h =
    let few : n ≤ 52000000 = ltb-false 52000000 n (or_parts (int_lt (pos n) (pos 0)) (int_lt (pos 52000000) (pos n)) h).1 in
    omega (arith, few, le)
not_late last (negsuc n) le h = cc

no_refusal : (b : Bool) (x : Refusal) → b ≡ false → (if b then Some x else None) ≡ None
no_refusal true x h = cc
no_refusal false x h = refl

in_time : (reading : ℤ) → is_out reading ≡ false → clock_out reading ≡ None
in_time reading h = no_refusal (is_out reading) (refusal.ClockOut reading) h

-- the rules with what the clock's rule gives, at this minute
abbrev broken_with : State → List ℕ → ℕ → Request → Option Refusal → ℕ → Option Refusal
broken_with s desk seq r clock t =
    if is_repeated s desk seq r then unknown_desk s desk else
    first_of_two (first_given (unknown_desk s desk ∷ reused (last_number s desk) seq ∷ stale (last_number s desk) seq ∷ gap (last_number s desk) seq ∷ clock ∷ []))
    (first_of_two (broken_draft s desk r t (found_draft s (draft_of r)))
    (broken_part s r (found_draft s (draft_of r))))

by_clock : (s : State) (desk : List ℕ) (seq : ℕ) (r : Request) (reading : ℤ) → broken_request s desk seq r reading ≡ broken_with s desk seq r (clock_out reading) (minute_of s reading)
unfolding broken_request broken_number
by_clock s desk seq r reading = refl

-- readings in range that give the same minute break the same rules
alike : (s : State) (desk : List ℕ) (seq : ℕ) (r : Request) (reading other : ℤ) → is_out reading ≡ false → is_out other ≡ false → minute_of s reading ≡ minute_of s other →
    broken_request s desk seq r reading ≡ broken_request s desk seq r other
alike s desk seq r reading other kept also minute =
    by_clock s desk seq r reading
    ∙ ap (λ (clock : Option Refusal). broken_with s desk seq r clock (minute_of s reading)) (in_time reading kept ∙ sym (in_time other also))
    ∙ ap (λ (t : ℕ). broken_with s desk seq r (clock_out other) t) minute
    ∙ sym (by_clock s desk seq r other)

pub at_own_minute : (s : State) (desk : List ℕ) (seq : ℕ) (r : Request) (reading : ℤ) (t : ℕ) (made : Option Made) → s.last ≤ 52000000 → Accepts s desk seq r reading t made → Accepts s desk seq r (pos t) t made
at_own_minute s desk seq r reading t made le f =
    let kept : is_out reading ≡ false = read_in_range s desk seq r reading f.new f.request in
    let also : is_out (pos t) ≡ false = in_range t (omega (arith, f.minute, not_late s.last reading le kept)) in
    let minute : t ≡ minute_of s (pos t) = omega (arith, f.minute) in
    record {
      new = f.new;
      request = alike s desk seq r (pos t) reading also kept (sym minute ∙ f.minute) ∙ f.request;
      minute = minute;
      lines = f.lines;
      product = f.product;
    }
