-- The orders of zones, hazards, events and ends are total, and a tie is one value.
use Rattle.std.proofs.Common.{◌≡◌, ◌∙◌, ℕ, List, Option, Some, None, true, refl, ap, sym, arith}
use Rattle.std.specs.declared.cmp.Ordering.{Ordering}
use Rattle.std.specs.declared.cmp.Ordering.TheVariants.{Less, Equal, Greater}
use Rattle.std.specs.Ordering.{nat_cmp, ordering_then, is_eq, eq_by_cmp}
use Rattle.std.specs.Cmp.{IsTotalOrder}
use Rattle.std.specs.Cmp.Lexicographic.{slice_cmp}
use Rattle.std.specs.Bool.{Decides}
use Rattle.std.proofs.lemmas.Cmp.{nat_cmp_total, nat_list_cmp_total, on_total, then_total, tied_itself}
use Rattle.std.proofs.lemmas.Bool.Decides.{nat_tests}
use Rattle.std.proofs.lemmas.Map.Text.{is_eq-slice_cmp}
use Rattle.std.proofs.lemmas.Slice.Eq.{bytes_eq-Decides}
use Rattle.hazard_types.specs.Places.{Place, kind_rank, by_place}
use Rattle.hazard_types.specs.Names.{sig_at}
use Rattle.hazard_types.specs.Orders.{sig_letter, by_letter, by_hazard, by_event, by_end}
use Rattle.hazard_types.specs.declared.hazard.Sig.{Sig}
use Rattle.hazard_types.specs.declared.hazard.Hazard.{Hazard}
use Rattle.hazard_types.specs.declared.hazard.Event.{Event}
use Rattle.hazard_types.specs.declared.zone.Kind.{Kind}
use Rattle.hazard_types.specs.declared.zone.Kind.TheVariants.{C, Z}
use Rattle.hazard_types.specs.declared.period.End.{End}
use Rattle.hazard_types.specs.declared.period.End.TheVariants.{At, Ufn}
use Rattle.hazard_types.specs.contracts.period.EndOrd.TheImpl as end
use Rattle.hazard_types.specs.contracts.hazard.EventOrd.TheImpl as event
use Rattle.hazard_types.specs.contracts.period.EndOrd.TheImpl.Laws as end_laws
use Rattle.hazard_types.proofs.NamesBack.{sig_back}

pub by_letter_total : IsTotalOrder by_letter
by_letter_total = on_total sig_letter nat_cmp_total

pub by_place_total : IsTotalOrder by_place
by_place_total = then_total (on_total (λ (p : Place). p.state) nat_list_cmp_total) (then_total (on_total (λ (p : Place). kind_rank p.kind) nat_cmp_total) (on_total (λ (p : Place). p.number) nat_cmp_total))

pub by_hazard_total : IsTotalOrder by_hazard
by_hazard_total = then_total (on_total (λ (h : Hazard). h.phen) nat_list_cmp_total) (on_total (λ (h : Hazard). h.sig) by_letter_total)

pub by_event_total : IsTotalOrder by_event
by_event_total = then_total (on_total (λ (e : Event). e.hazard) by_hazard_total) (then_total (on_total (λ (e : Event). e.etn) nat_cmp_total) (on_total (λ (e : Event). e.year) nat_cmp_total))

both_tied : (o p : Ordering) → ordering_then o p ≡ Equal → (o ≡ Equal) × (p ≡ Equal)
both_tied Less p h = cc
both_tied Equal p h = (refl, h)
both_tied Greater p h = cc

pub numbers_tied : (m n : ℕ) → nat_cmp m n ≡ Equal → m ≡ n
numbers_tied m n h = grind (arith, nat_tests)

texts_tied : (xs ys : List ℕ) → slice_cmp nat_cmp xs ys ≡ Equal → xs ≡ ys
texts_tied xs ys h = (bytes_eq-Decides xs ys).0 (sym (is_eq-slice_cmp xs ys) ∙ ap is_eq h)

abbrev value_or : Sig → Option Sig → Sig
value_or s None = s
value_or s (Some t) = t

-- ties are one value
pub by_letter_ties : (a b : Sig) → by_letter a b ≡ Equal → a ≡ b
by_letter_ties a b h = ap (value_or a) (sym (sig_back a) ∙ ap sig_at (numbers_tied (sig_letter a) (sig_letter b) h) ∙ sig_back b)

kinds_tied : (a b : Kind) → nat_cmp (kind_rank a) (kind_rank b) ≡ Equal → a ≡ b
kinds_tied C C h = refl
kinds_tied Z Z h = refl
kinds_tied _ _ h = cc

pub by_place_ties : (a b : Place) → by_place a b ≡ Equal → a ≡ b
by_place_ties a b h =
    let p = both_tied (slice_cmp nat_cmp a.state b.state) _ h in
    let q = both_tied (nat_cmp (kind_rank a.kind) (kind_rank b.kind)) _ p.1 in
    let state_is = texts_tied a.state b.state p.0 in
    let kind_is = kinds_tied a.kind b.kind q.0 in
    let number_is = numbers_tied a.number b.number q.1 in
    λ i. record { state = state_is i; kind = kind_is i; number = number_is i }

pub by_hazard_ties : (a b : Hazard) → by_hazard a b ≡ Equal → a ≡ b
by_hazard_ties a b h =
    let p = both_tied (slice_cmp nat_cmp a.phen b.phen) _ h in
    let phen_is = texts_tied a.phen b.phen p.0 in
    let sig_is = by_letter_ties a.sig b.sig p.1 in
    λ i. record { phen = phen_is i; sig = sig_is i }

pub by_event_ties : (a b : Event) → by_event a b ≡ Equal → a ≡ b
by_event_ties a b h =
    let p = both_tied (by_hazard a.hazard b.hazard) _ h in
    let q = both_tied (nat_cmp a.etn b.etn) _ p.1 in
    let hazard_is = by_hazard_ties a.hazard b.hazard p.0 in
    let etn_is = numbers_tied a.etn b.etn q.0 in
    let year_is = numbers_tied a.year b.year q.1 in
    λ i. record { hazard = hazard_is i; etn = etn_is i; year = year_is i }

is_tied : (o : Ordering) → is_eq o ≡ true → o ≡ Equal
is_tied Less h = cc
is_tied Equal h = refl
is_tied Greater h = cc

-- a test by a total order whose ties are one value decides identity
tie_decides : {K : Type 0} {R : K → K → Ordering} → IsTotalOrder R → ((a b : K) → R a b ≡ Equal → a ≡ b) → (a b : K) → Decides (eq_by_cmp R a b) (a ≡ b)
tie_decides {K} {R} total ties a b = (λ h. ties a b (is_tied (R a b) h), λ e. ap (λ x. is_eq (R a x)) (sym e) ∙ ap is_eq (tied_itself total a))

pub by_end_total : IsTotalOrder end.cmp-value.it
by_end_total = end_laws.total-law

pub by_end_ties : (a b : End) → end.cmp-value.it a b ≡ Equal → a ≡ b
by_end_ties (At m) (At n) h = ap At (numbers_tied m n h)
by_end_ties Ufn Ufn h = refl
by_end_ties _ _ h = cc

-- the derived order of events is by phenomenon, letter, number and year
pub event_cmp_is : (a b : Event) → event.cmp-value.it a b ≡ by_event a b
event_cmp_is a b = refl

-- the derived order of ends has a minute before until further notice
pub end_cmp_is : (a b : End) → end.cmp-value.it a b ≡ by_end a b
end_cmp_is (At m) (At n) = refl
end_cmp_is (At m) Ufn = refl
end_cmp_is Ufn (At n) = refl
end_cmp_is Ufn Ufn = refl
