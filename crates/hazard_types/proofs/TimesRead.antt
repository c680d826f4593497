-- A time's text is the zero time or the stamp of a minute.
use Rattle.std.proofs.Common.{◌≡◌, ◌≢◌, ℕ, List, true, refl, ap, sym, ◌∙◌, arith, Option, None, Some}
use Rattle.std.specs.Prelude.{codes}
use Rattle.std.proofs.lemmas.Bool.{and_parts}
use Rattle.std.proofs.lemmas.Bool.Decides.{nat_tests}
use Rattle.std.proofs.lemmas.Option.{cond_some}
use Rattle.hazard_types.specs.declared.calendar.Civil.{Civil}
use Rattle.hazard_types.specs.Calendar.{IsCivil, is_civil, IsStamp, stamp_text, stamp_of, stamp_at, has_form, pairs_of, minute_of, civil_of}
use Rattle.hazard_types.proofs.Years.{civil_found}
use Rattle.hazard_types.proofs.Stamps.{read, spells_stamp}
use Rattle.hazard_types.specs.Times.{IsTime, time_text}

civil_from_test : (c : Civil) → is_civil c ≡ true → IsCivil c
unfolding is_civil
civil_from_test c h = record { year = grind (arith, nat_tests); first_month = grind (arith, nat_tests); last_month = grind (arith, nat_tests); first_day = grind (arith, nat_tests); last_day = grind (arith, nat_tests); hour = grind (arith, nat_tests); minute = grind (arith, nat_tests) }

-- what a stamp spells, by the calendar
pub stamp_found : (text : List ℕ) (m : ℕ) → stamp_at text ≡ Some m → IsStamp text m
unfolding stamp_at stamp_of
stamp_found text m h =
    let found = cond_some _ _ _ h in
    let parts = and_parts (has_form text) (is_civil (pairs_of text)) found.0 in
    let civil = civil_from_test (pairs_of text) parts.1 in
    (pairs_of text, civil, sym found.1, spells_stamp text m h ∙ ap stamp_text (ap civil_of (sym found.1) ∙ civil_found (pairs_of text) civil))

pub no_time : (text : List ℕ) → text ≢ codes "000000T0000Z" → stamp_at text ≡ None → (t : Option ℕ) → IsTime text t → ⊥
no_time text zero_time none None h = zero_time h
no_time text zero_time none (Some m) (c, civil, minute, spelt) = let r : stamp_at text ≡ Some (minute_of c) = read text c civil spelt in absurd (cc)

-- one text for each time
pub time_is : (text : List ℕ) (t : Option ℕ) → IsTime text t → text ≡ time_text t
unfolding stamp_of
time_is text None h = h
time_is text (Some m) (c, civil, minute, spelt) = spelt ∙ ap stamp_text (sym (civil_found c civil) ∙ ap civil_of (sym minute))

-- and one time for each text
zero_time_is_none : stamp_at (codes "000000T0000Z") ≡ None
unfolding stamp_at is_civil
zero_time_is_none = refl

pub one_time : (text : List ℕ) (s t : Option ℕ) → IsTime text s → IsTime text t → s ≡ t
one_time text None None g h = refl
one_time text None (Some m) g (c, civil, minute, spelt) = let r : stamp_at text ≡ Some (minute_of c) = read text c civil spelt in let n : stamp_at text ≡ None = ap stamp_at g ∙ zero_time_is_none in absurd (cc)
one_time text (Some m) None (c, civil, minute, spelt) g = let r : stamp_at text ≡ Some (minute_of c) = read text c civil spelt in let n : stamp_at text ≡ None = ap stamp_at g ∙ zero_time_is_none in absurd (cc)
one_time text (Some m) (Some n) (c, civil, minute, spelt) (c2, civil2, minute2, spelt2) =
    let r : stamp_at text ≡ Some (minute_of c) = read text c civil spelt in
    let s : stamp_at text ≡ Some (minute_of c2) = read text c2 civil2 spelt2 in
    let e : minute_of c ≡ minute_of c2 = cc in
    ap (λ (k : ℕ). Some k) (minute ∙ e ∙ sym minute2)
