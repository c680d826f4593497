-- Lists of workers, whatever a worker is.
use Rattle.std.proofs.Common.{ℕ, suc, ◌≡◌, ◌+◌, ◌≤◌, ◌<◌, List, [], ◌∷◌, ◌++◌, All, length, map, slice_index_or, refl, sym, ◌∙◌, ap, subst, arith}
use Rattle.std.proofs.lemmas.List.{map-append}
use Rattle.std.proofs.lemmas.List.Elements.{All-push}
use Rattle.warn_serve.specs.Shares.{total_of}

module _ {W : Type 0} where
  all_amid : (P : W → Type 0) (xs : List W) (y : W) (zs : List W) → All P (xs ++ y ∷ zs) → P y
  all_amid P [] y zs h = h 0 y (omega arith)
  all_amid P (x ∷ xs) y zs h = all_amid P xs y zs (λ k d less. h (suc k) d (omega (arith, less)))

  -- what is true of all is true of one in the middle
  pub all_here : (xs : List W) (y : W) (zs items : List W) → items ≡ xs ++ y ∷ zs → (P : W → Type 0) → All P items → P y
  all_here xs y zs items is P h = all_amid P xs y zs (subst (λ (l : List W). All P l) is h)

  pub all_of : (xs ys : List W) → ys ≡ xs → (P Q : W → Type 0) → ((x : W) → P x → Q x) → All P xs → All Q ys
  all_of xs ys is P Q so h = subst (λ (l : List W). All Q l) (sym is) (λ k d less. so (slice_index_or xs k d) (h k d less))

  pub all_same : (xs ys : List W) → ys ≡ xs → (P : W → Type 0) → All P xs → All P ys
  all_same xs ys is P h = subst (λ (l : List W). All P l) (sym is) h

  pub all_pushed : (old mid new : List W) (w : W) → mid ≡ old → new ≡ mid ++ w ∷ [] → (P : W → Type 0) → All P old → P w → All P new
  all_pushed old mid new w kept is P h p = subst (λ (l : List W). All P l) (sym (is ∙ ap (λ (l : List W). l ++ w ∷ []) kept)) (All-push P old w h p)

  pub shares_pushed : (old mid new : List W) (w : W) → mid ≡ old → new ≡ mid ++ w ∷ [] → (share : W → ℕ) → map share new ≡ map share old ++ share w ∷ []
  shares_pushed old mid new w kept is share =
      ap (map share) (is ∙ ap (λ (l : List W). l ++ w ∷ []) kept) ∙ map-append share old (w ∷ [])

  total_amid : (share : W → ℕ) (xs : List W) (y : W) (zs : List W) → total_of (map share xs) + share y ≤ total_of (map share (xs ++ y ∷ zs))
  total_amid share [] y zs = omega arith
  total_amid share (x ∷ xs) y zs = let h = total_amid share xs y zs in omega arith

  -- a share in the middle, with those before it, is no more than all
  pub total_here : (xs : List W) (y : W) (zs items : List W) → items ≡ xs ++ y ∷ zs → (share : W → ℕ) → total_of (map share xs) + share y ≤ total_of (map share items)
  total_here xs y zs items is share = subst (λ (l : List W). total_of (map share xs) + share y ≤ total_of (map share l)) (sym is) (total_amid share xs y zs)

  pub shares_same : (xs ys : List W) → ys ≡ xs → (share : W → ℕ) → map share ys ≡ map share xs
  shares_same xs ys is share = ap (map share) is

  pub shares_alike : (xs ys : List W) → length ys ≡ length xs → (share : W → ℕ) → ((i : ℕ) (d : W) → i < length xs → share (slice_index_or ys i d) ≡ share (slice_index_or xs i d)) → map share ys ≡ map share xs
  shares_alike [] [] long share h = refl
  shares_alike [] (y ∷ ys) long share h = absurd (omega (arith, long))
  shares_alike (x ∷ xs) [] long share h = absurd (omega (arith, long))
  shares_alike (x ∷ xs) (y ∷ ys) long share h =
      let first : share y ≡ share x = h 0 x (omega arith) in
      let rest = shares_alike xs ys (omega (arith, long)) share (λ i d less. h (suc i) d (omega (arith, less))) in
      ap (λ (n : ℕ). n ∷ map share ys) first ∙ ap (λ (l : List ℕ). share x ∷ l) rest

  -- what a call said of its arguments, said of what they are
  pub moved : (a b x y : W) → a ≡ x → b ≡ y → (P : W → W → Type 0) → P a b → P x y
  moved a b x y first second P p = subst (λ (z : W). P x z) second (subst (λ (z : W). P z b) first p)
