-- The numbers of the four desks.
use Rattle.std.proofs.Common.{◌≡◌, ◌≤◌, ◌<◌, ◌∙◌, ◌+◌, ℕ, zero, suc, Bool, true, false, cond, List, [], ◌∷◌, map, set, slice_index, Option, Some, codes, refl, ap, sym, subst, arith}
use Rattle.std.specs.List.{AllByRecursion}
use Rattle.std.specs.Str.{bytes_eq}
use Rattle.std.proofs.lemmas.Slice.Eq.{bytes_eq-Decides}
use Rattle.office_core.specs.State.{State, last_number, said_in}
use Rattle.office_core.specs.Step.{heard_after}
use Rattle.office_core.specs.declared.heard.DeskRecord.{DeskRecord}
use Rattle.office_core.specs.declared.heard.LastRequest.{LastRequest}
use Rattle.desk_drill.specs.Office.{drill_desks}
use Rattle.desk_drill.specs.Requests.{desk_at}

-- what another desk was last answered stays
said_step : (h : DeskRecord) (heard : List DeskRecord) (desk other : List ℕ) (said : LastRequest) (b : Bool) → bytes_eq h.desk desk ≡ b → bytes_eq desk other ≡ false
    → said_in (heard_after heard desk said) other ≡ said_in heard other → said_in (heard_after (h ∷ heard) desk said) other ≡ said_in (h ∷ heard) other
said_step h heard desk other said true e off rest =
    let same : h.desk ≡ desk = (bytes_eq-Decides h.desk desk).0 e in
    let away : bytes_eq h.desk other ≡ false = subst (λ (d : List ℕ). bytes_eq d other ≡ false) (sym same) off in
    ap (λ (x : Bool). said_in (cond x (record { desk = h.desk; said = Some said } ∷ heard) (h ∷ heard_after heard desk said)) other) e
    ∙ ap (λ (x : Bool). cond x (Some said) (said_in heard other)) away
    ∙ sym (ap (λ (x : Bool). cond x h.said (said_in heard other)) away)
said_step h heard desk other said false e off rest =
    ap (λ (x : Bool). said_in (cond x (record { desk = h.desk; said = Some said } ∷ heard) (h ∷ heard_after heard desk said)) other) e
    ∙ ap (λ (x : Option LastRequest). cond (bytes_eq h.desk other) h.said x) rest

pub said_other : (heard : List DeskRecord) (desk other : List ℕ) (said : LastRequest) → bytes_eq desk other ≡ false → said_in (heard_after heard desk said) other ≡ said_in heard other
said_other [] desk other said off = refl
said_other (h ∷ heard) desk other said off = said_step h heard desk other said (bytes_eq h.desk desk) refl off (said_other heard desk other said off)

four : (a b c d w x y z : ℕ) → a ≡ w → b ≡ x → c ≡ y → d ≡ z → a ∷ b ∷ c ∷ d ∷ [] ≡ w ∷ x ∷ y ∷ z ∷ []
four a b c d w x y z p q r s = cc

-- the number of the desk at a place
pub number_at : (s : State) (place : ℕ) → place < 4 → slice_index (map (last_number s) drill_desks) place ≡ last_number s (desk_at place)
number_at s zero p = refl
number_at s (suc zero) p = refl
number_at s (suc (suc zero)) p = refl
number_at s (suc (suc (suc zero))) p = refl
number_at s (suc (suc (suc (suc n)))) p = absurd (omega (arith, p))

-- where one desk's number went on and those of the others stayed
pub numbers_after : (s next : State) (place : ℕ) → place < 4 → ((other : List ℕ) → bytes_eq (desk_at place) other ≡ false → last_number next other ≡ last_number s other)
    → last_number next (desk_at place) ≡ last_number s (desk_at place) + 1 → set (map (last_number s) drill_desks) place (last_number s (desk_at place) + 1) ≡ map (last_number next) drill_desks
numbers_after s next zero p others own =
    four _ _ _ _ _ _ _ _ (sym own) (sym (others (codes "D2") refl)) (sym (others (codes "D3") refl)) (sym (others (codes "D4") refl))
numbers_after s next (suc zero) p others own =
    four _ _ _ _ _ _ _ _ (sym (others (codes "D1") refl)) (sym own) (sym (others (codes "D3") refl)) (sym (others (codes "D4") refl))
numbers_after s next (suc (suc zero)) p others own =
    four _ _ _ _ _ _ _ _ (sym (others (codes "D1") refl)) (sym (others (codes "D2") refl)) (sym own) (sym (others (codes "D4") refl))
numbers_after s next (suc (suc (suc zero))) p others own =
    four _ _ _ _ _ _ _ _ (sym (others (codes "D1") refl)) (sym (others (codes "D2") refl)) (sym (others (codes "D3") refl)) (sym own)
numbers_after s next (suc (suc (suc (suc n)))) p others own = absurd (omega (arith, p))

-- no number is greater than this
abbrev pub AreLow : ℕ → List ℕ → Type 0
AreLow most numbers = AllByRecursion (λ (n : ℕ). n ≤ most) numbers

lower : (most : ℕ) (numbers : List ℕ) → AreLow most numbers → AreLow (most + 1) numbers
lower most [] h = tt
lower most (n ∷ numbers) h = (omega (arith, h.0), lower most numbers h.1)

pub low_after : (most : ℕ) (numbers : List ℕ) (place : ℕ) → AreLow most numbers → AreLow (most + 1) (set numbers place (slice_index numbers place + 1))
low_after most [] place h = tt
low_after most (n ∷ numbers) zero h = (omega (arith, h.0), lower most numbers h.1)
low_after most (n ∷ numbers) (suc place) h = (omega (arith, h.0), low_after most numbers place h.1)

pub low_at : (most : ℕ) (numbers : List ℕ) (place : ℕ) → AreLow most numbers → slice_index numbers place ≤ most
low_at most [] place h = omega arith
low_at most (n ∷ numbers) zero h = h.0
low_at most (n ∷ numbers) (suc place) h = low_at most numbers place h.1
