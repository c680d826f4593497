-- Bodies fail at one place.
use Rattle.std.proofs.Common.{ℕ, ◌≡◌, ◌⊎◌, inl, inr, List, [], ◌∷◌, ◌++◌, length, refl, ap, sym, ◌∙◌}
use Rattle.journal_core.specs.Image.{records}
use Rattle.office_journal.specs.Damage.{AreBodies, FailsAt}
use Rattle.office_journal.proofs.Telling.{prefix_is}

abbrev Forks : List (List ℕ) → List ℕ → List (List ℕ) → List ℕ → Type 0
Forks b x c y = (b ≡ c) ⊎ ((more : List (List ℕ)) × (c ≡ b ++ x ∷ more)) ⊎ ((more : List (List ℕ)) × (b ≡ c ++ y ∷ more))

-- of two beginnings of a list one begins with the other, and with what stands behind it
forks : (b c p q : List (List ℕ)) (x y : List ℕ) → b ++ x ∷ p ≡ c ++ y ∷ q → Forks b x c y
forks [] [] p q x y e = inl refl
forks [] (z ∷ c) p q x y e = let same : z ≡ x = cc in inr (inl (c, ap (λ (l : List ℕ). l ∷ c) same))
forks (w ∷ b) [] p q x y e = let same : w ≡ y = cc in inr (inr (b, ap (λ (l : List ℕ). l ∷ b) same))
forks (w ∷ b) (z ∷ c) p q x y e =
    let head : w ≡ z = cc in
    let tail : b ++ x ∷ p ≡ c ++ y ∷ q = cc in
    elim (forks b c p q x y tail) [
      | inl same ↦ inl (ap (λ (l : List (List ℕ)). w ∷ l) same ∙ ap (λ (l : List ℕ). l ∷ c) head)
      | inr (inl longer) ↦ inr (inl (longer.0, ap (λ (l : List (List ℕ)). z ∷ l) longer.1 ∙ ap (λ (l : List ℕ). l ∷ (b ++ x ∷ longer.0)) (sym head)))
      | inr (inr longer) ↦ inr (inr (longer.0, ap (λ (l : List (List ℕ)). w ∷ l) longer.1 ∙ ap (λ (l : List ℕ). l ∷ (c ++ y ∷ longer.0)) head))
    ]

not_none : (b more : List (List ℕ)) (x : List ℕ) → b ++ x ∷ more ≡ [] → ⊥
not_none [] more x e = absurd (cc)
not_none (w ∷ b) more x e = absurd (cc)

-- where bodies are those of a history, so are they up to each of them
none_fails : (before c more : List (List ℕ)) (body : List ℕ) → c ≡ before ++ body ∷ more → (c ≡ []) ⊎ AreBodies c → (AreBodies (before ++ body ∷ []) → ⊥) → ⊥
none_fails before c more body is (inl none) bad = not_none before more body (sym is ∙ none)
none_fails before c more body is (inr good) bad = bad (prefix_is good.file good.history good.state before body more good.legal (sym good.are ∙ is))

pub fails_once : (all : List (List ℕ)) (at other : ℕ) → FailsAt all at → FailsAt all other → at ≡ other
fails_once all at other f g =
    elim (forks f.before g.before f.behind g.behind f.body g.body (sym f.are ∙ g.are)) [
      | inl same ↦ f.place ∙ ap (λ (bs : List (List ℕ)). length (records bs)) same ∙ sym g.place
      | inr (inl longer) ↦ absurd (none_fails f.before g.before longer.0 f.body longer.1 g.good f.bad)
      | inr (inr longer) ↦ absurd (none_fails g.before f.before longer.0 g.body longer.1 f.good g.bad)
    ]
