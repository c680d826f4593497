-- The orders of significances, hazards, events and ends.
use Rattle.std.specs.Prelude.{ℕ}
use Rattle.std.specs.declared.cmp.Ordering.{Ordering}
use Rattle.std.specs.declared.cmp.Ordering.TheVariants.{Less, Equal, Greater}
use Rattle.std.specs.Ordering.{nat_cmp, on, then_cmp}
use Rattle.std.specs.Cmp.Lexicographic.{slice_cmp}
use Rattle.hazard_types.specs.declared.hazard.Sig.{Sig}
use Rattle.hazard_types.specs.declared.hazard.Sig.TheVariants.{W, A, Y, S, F, O, N}
use Rattle.hazard_types.specs.declared.hazard.Hazard.{Hazard}
use Rattle.hazard_types.specs.declared.hazard.Event.{Event}
use Rattle.hazard_types.specs.declared.period.End.{End}
use Rattle.hazard_types.specs.declared.period.End.TheVariants.{At, Ufn}

-- the letter of a significance
abbrev pub sig_letter : Sig → ℕ
sig_letter W = 87
sig_letter A = 65
sig_letter Y = 89
sig_letter S = 83
sig_letter F = 70
sig_letter O = 79
sig_letter N = 78

-- significances in the order of their letters
abbrev pub by_letter : Sig → Sig → Ordering
by_letter = on sig_letter nat_cmp

-- hazards by phenomenon, then the letter of the significance
abbrev pub by_hazard : Hazard → Hazard → Ordering
by_hazard =
    then_cmp (on (λ (h : Hazard). h.phen) (slice_cmp nat_cmp))
    (on (λ (h : Hazard). h.sig) by_letter)

-- events by phenomenon, letter of the significance, number, year
abbrev pub by_event : Event → Event → Ordering
by_event =
    then_cmp (on (λ (e : Event). e.hazard) by_hazard)
    (then_cmp (on (λ (e : Event). e.etn) nat_cmp) (on (λ (e : Event). e.year) nat_cmp))

-- ends by minute, each before until further notice
abbrev pub by_end : End → End → Ordering
by_end (At m) (At n) = nat_cmp m n
by_end (At m) Ufn = Less
by_end Ufn (At n) = Greater
by_end Ufn Ufn = Equal
