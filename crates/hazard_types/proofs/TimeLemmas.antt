-- A time's text is the zero time or the stamp of a minute.
use Rattle.std.proofs.Common.{◌≡◌, ℕ, List, refl, ap, sym, ◌∙◌, subst, inl, inr, Option, None, Some, length}
use Rattle.std.specs.Prelude.{codes, bytes_eq, option_map, MatchOption}
use Rattle.std.proofs.lemmas.Bool.{cases_Bool}
use Rattle.std.proofs.lemmas.Slice.Eq.{bytes_eq-Decides}
use Rattle.hazard_types.specs.Calendar.{is_civil, stamp_of, stamp_at}
use Rattle.hazard_types.proofs.Stamps.{spells_exactly}
use Rattle.hazard_types.specs.Times.{IsTime, time_text, time_at}

zero_time_is_none : stamp_at (codes "000000T0000Z") ≡ None
unfolding stamp_at is_civil
zero_time_is_none = refl

pub time_back : (text : List ℕ) (t : Option ℕ) → time_at text ≡ Some t → IsTime text t
unfolding time_at
time_back text t h =
    elim (cases_Bool (bytes_eq text (codes "000000T0000Z"))) [
      | inl e ↦ subst (IsTime text) (one None t (rw e at h)) ((bytes_eq-Decides _ _).0 e)
      | inr e ↦ stamped (stamp_at text) refl (rw e at h)
    ]
  where
    one : (a b : Option ℕ) → ◌≡◌ {A = Option (Option ℕ)} (Some a) (Some b) → a ≡ b
    one a b e = cc e

    stamped : (r : Option ℕ) → stamp_at text ≡ r → option_map (λ (m : ℕ). Some m) r ≡ Some t → IsTime text t
    stamped None is e = absurd (cc)
    stamped (Some m) is e = subst (IsTime text) (one (Some m) t e) ((spells_exactly text (stamp_at text) refl m).0 is)

pub time_hit : (text : List ℕ) (t : Option ℕ) → IsTime text t → time_at text ≡ Some t
unfolding time_at
time_hit text None h = rw ((bytes_eq-Decides text (codes "000000T0000Z")).1 h) refl
time_hit text (Some m) h =
    let read : stamp_at text ≡ Some m = (spells_exactly text (stamp_at text) refl m).1 h in
    elim (cases_Bool (bytes_eq text (codes "000000T0000Z"))) [
      | inl e ↦ let none : stamp_at text ≡ None = ap stamp_at ((bytes_eq-Decides _ _).0 e) ∙ zero_time_is_none in absurd (cc)
      | inr e ↦ rw (e, read) refl
    ]

-- what is read is the function's value
pub time_is_at : (text : List ℕ) (r : Option (Option ℕ)) → MatchOption r ((t : Option ℕ) → IsTime text t → ⊥) (IsTime text) → r ≡ time_at text
time_is_at text (Some t) h = sym (time_hit text t h)
time_is_at text None h = by (time_at text) refl
  where
    by : (r : Option (Option ℕ)) → time_at text ≡ r → None ≡ r
    by None e = refl
    by (Some t) e = absurd (h t (time_back text t e))

pub time_twelve : (t : Option ℕ) → length (time_text t) ≡ 12
unfolding stamp_of
time_twelve None = refl
time_twelve (Some m) = refl
