-- Lists and functions, for the proofs that each step keeps the rule.
use Rattle.std.specs.Prelude.{Option, Some, None, IsSome, Contains}
use Rattle.std.proofs.lemmas.Bool.{false≢true}
use Rattle.std.proofs.Common.{get_or, ◌≡◌, ◌≢◌, ◌⊎◌, ℕ, zero, suc, ◌+◌, ◌<◌, ◌≤◌, List, [], ◌∷◌, ◌++◌, length, set, sym, refl, ap, ◌∙◌, subst, inl, inr, arith, leb, cond, true, false, Bool, length-append}
use mathlib.Core.Option.{some, some-ne-none, some-injective}
use mathlib.Core.List.{IsPrefix, append-nil, append_assoc}
use native.Mathlib.Decide.{ℕ_discrete}
use lib.ListN.{get_elem?}
use Rattle.atomic_table.proofs.Lists.{at_longer}
use Rattle.turn_lock.specs.declared.view.View.{View}
use Rattle.turn_lock.specs.Passes.{longer, shorter, base_in}
use Rattle.turn_lock.specs.Turns.{total_of}

abbrev pick : {P : Type 0} → Dec P → ℕ → ℕ → ℕ
pick (yes _) a b = a
pick (no _) a b = b

pub put : (ℕ → ℕ) → ℕ → ℕ → ℕ → ℕ
put f i c j = pick (ℕ_discrete j i) c (f j)

pub put_here : (f : ℕ → ℕ) (i c : ℕ) → put f i c i ≡ c
unfolding put
put_here f i c = go (ℕ_discrete i i)
  where
    go : (d : Dec (i ≡ i)) → pick d c (f i) ≡ c
    go (yes _) = refl
    go (no n) = absurd (n refl)

pub put_else : (f : ℕ → ℕ) (i c j : ℕ) → j ≢ i → put f i c j ≡ f j
unfolding put
put_else f i c j other = go (ℕ_discrete j i)
  where
    go : (d : Dec (j ≡ i)) → pick d c (f j) ≡ f j
    go (yes e) = absurd (other e)
    go (no _) = refl

module _ {B : Type 0} where
  pub has_base : (base : Option B) (live : IsSome base) → base ≡ Some (base_in base live)
  has_base (Some b) live = refl
  has_base None live = absurd (false≢true live)

abbrev first_or : {A : Type 0} → A → List (ℕ × A) → A
first_or d [] = d
first_or d (x ∷ xs) = x.1

-- what was taken out is the value that the seat had
pub taken_out : {A : Type 0} (x y : A) (l m : List (ℕ × A)) → (0, x) ∷ l ≡ (0, y) ∷ m → x ≡ y
taken_out x y l m e = ap (first_or x) e

module _ {A : Type 0} where
  pub inside : (vs : List A) (i : ℕ) (v : A) → get_elem? vs i ≡ some v → i < length vs
  inside [] i v e = absurd (some-ne-none v (sym e))
  inside (x ∷ xs) zero v e = omega arith
  inside (x ∷ xs) (suc i) v e = let t = inside xs i v e in omega arith

  -- the two readings of a list at an index are one
  pub at_index : (xs : List A) (k : ℕ) (d : A) → k < length xs → get_elem? xs k ≡ some (get_or xs k d)
  at_index [] k d less = absurd (omega arith)
  at_index (x ∷ xs) zero d less = refl
  at_index (x ∷ xs) (suc k) d less = at_index xs k d (omega arith)

  pub index_at : (xs : List A) (k : ℕ) (d v : A) → get_elem? xs k ≡ some v → get_or xs k d ≡ v
  index_at xs k d v e = some-injective (get_or xs k d) v (sym (at_index xs k d (inside xs k v e)) ∙ e)

  pub contains_at : (xs : List A) (k : ℕ) (v : A) → get_elem? xs k ≡ some v → Contains xs v
  contains_at xs k v e = (k, inside xs k v e, index_at xs k v v e)

  pub at_contained : (xs : List A) (v : A) → (c : Contains xs v) → get_elem? xs c.0 ≡ some v
  at_contained xs v c = at_index xs c.0 v c.1 ∙ ap (λ (x : A). some x) c.2

  -- a place of a list with one member more
  pub at_snoc' : (l : List A) (a b : A) (j : ℕ) → get_elem? (l ++ a ∷ []) j ≡ some b → (get_elem? l j ≡ some b) ⊎ ((j ≡ length l) × (a ≡ b))
  at_snoc' [] a b zero e = inr (refl, some-injective a b e)
  at_snoc' [] a b (suc j) e = absurd (some-ne-none b (sym e))
  at_snoc' (x ∷ xs) a b zero e = inl e
  at_snoc' (x ∷ xs) a b (suc j) e = go (at_snoc' xs a b j e)
    where
      go : (get_elem? xs j ≡ some b) ⊎ ((j ≡ length xs) × (a ≡ b)) → (get_elem? (x ∷ xs) (suc j) ≡ some b) ⊎ ((suc j ≡ length (x ∷ xs)) × (a ≡ b))
      go (inl h) = inl h
      go (inr h) = inr ((let t = h.0 in omega arith), h.1)

  -- a place of two lists put together
  pub at_both : (l m : List A) (b : A) (j : ℕ) → get_elem? (l ++ m) j ≡ some b → (get_elem? l j ≡ some b) ⊎ ((i : ℕ) × (j ≡ length l + i) × (get_elem? m i ≡ some b))
  at_both [] m b j e = inr (j, (omega arith), e)
  at_both (x ∷ xs) m b zero e = inl e
  at_both (x ∷ xs) m b (suc j) e = go (at_both xs m b j e)
    where
      go : (get_elem? xs j ≡ some b) ⊎ ((i : ℕ) × (j ≡ length xs + i) × (get_elem? m i ≡ some b)) → (get_elem? (x ∷ xs) (suc j) ≡ some b) ⊎ ((i : ℕ) × (suc j ≡ length (x ∷ xs) + i) × (get_elem? m i ≡ some b))
      go (inl h) = inl h
      go (inr h) = inr (h.0, (let t = h.1 in omega arith), h.2)

  pub at_right : (l m : List A) (b : A) (i : ℕ) → get_elem? m i ≡ some b → get_elem? (l ++ m) (length l + i) ≡ some b
  at_right [] m b i e = let z : i ≡ 0 + i = omega arith in subst (λ (k : ℕ). get_elem? m k ≡ some b) z e
  at_right (x ∷ xs) m b i e =
      let z : suc (length xs + i) ≡ length (x ∷ xs) + i = omega arith in
      subst (λ (k : ℕ). get_elem? (x ∷ (xs ++ m)) k ≡ some b) z (at_right xs m b i e)

  -- a place of the left list is none of the right one
  pub no_common : (l m : List A) (b : A) (i j : ℕ) → ((x y : ℕ) → get_elem? (l ++ m) x ≡ some b → get_elem? (l ++ m) y ≡ some b → x ≡ y) → get_elem? l i ≡ some b → get_elem? m j ≡ some b → ⊥
  no_common l m b i j once left right =
      let e : i ≡ length l + j = once i (length l + j) (at_longer l m i b left) (at_right l m b j right) in
      let h = inside l i b left in
      omega arith

  pub prefix_length : (xs ys : List A) → IsPrefix xs ys → length xs ≤ length ys
  prefix_length xs ys p = let t : length (xs ++ p.0) ≡ length ys = ap length p.1 in let u = length-append xs p.0 in omega arith

  -- a beginning that is as long is the whole
  pub prefix_whole : (xs ys : List A) → IsPrefix xs ys → length ys ≤ length xs → ys ≡ xs
  prefix_whole xs ys p le = go p.0 p.1
    where
      go : (rest : List A) → xs ++ rest ≡ ys → ys ≡ xs
      go [] e = sym e ∙ append-nil xs
      go (x ∷ rest) e = let t : length (xs ++ x ∷ rest) ≡ length ys = ap length e in let u = length-append xs (x ∷ rest) in absurd (omega arith)

  pub prefix_more : (xs ys zs : List A) → IsPrefix xs ys → IsPrefix xs (ys ++ zs)
  prefix_more xs ys zs p = (p.0 ++ zs, sym (append_assoc xs p.0 zs) ∙ ap (λ (z : List A). z ++ zs) p.1)

  pub prefix_same : (xs : List A) → IsPrefix xs xs
  prefix_same xs = ([], append-nil xs)

  abbrev head_or : A → List A → A
  head_or d [] = d
  head_or d (x ∷ xs) = x

  abbrev tail_of : List A → List A
  tail_of [] = []
  tail_of (x ∷ xs) = xs

  -- of two beginnings of one list the shorter begins the longer
  pub in_line : (xs ys l : List A) → IsPrefix xs l → IsPrefix ys l → length xs ≤ length ys → IsPrefix xs ys
  in_line [] ys l h k le = (ys, refl)
  in_line (x ∷ xs) [] l h k le = absurd (omega arith)
  in_line (x ∷ xs) (y ∷ ys) l h k le =
      let e : x ≡ y = ap (head_or x) (h.1 ∙ sym k.1) in
      let t = in_line xs ys (tail_of l) (h.0, ap tail_of h.1) (k.0, ap tail_of k.1) (omega arith) in
      (t.0, λ i. e i ∷ t.1 i)

module _ {B E : Type 0} where
  -- the total after a change of one view
  pub total_set : (f : View B E → ℕ) (views : List (View B E)) (i : ℕ) (v w : View B E) → get_elem? views i ≡ some v → total_of f (set views i w) + f v ≡ total_of f views + f w
  total_set f [] i v w e = absurd (some-ne-none v (sym e))
  total_set f (x ∷ xs) zero v w e = let is : f x ≡ f v = ap f (some-injective x v e) in omega arith
  total_set f (x ∷ xs) (suc i) v w e = let t = total_set f xs i v w e in omega arith

  pub total_snoc : (f : View B E → ℕ) (views : List (View B E)) (w : View B E) → total_of f (views ++ w ∷ []) ≡ total_of f views + f w
  total_snoc f [] w = omega arith
  total_snoc f (x ∷ xs) w = let t = total_snoc f xs w in omega arith

  pub total_part : (f : View B E → ℕ) (views : List (View B E)) (i : ℕ) (v : View B E) → get_elem? views i ≡ some v → f v ≤ total_of f views
  total_part f [] i v e = absurd (some-ne-none v (sym e))
  total_part f (x ∷ xs) zero v e = let is : f x ≡ f v = ap f (some-injective x v e) in omega arith
  total_part f (x ∷ xs) (suc i) v e = let t = total_part f xs i v e in omega arith

  total_none : (f : View B E → ℕ) (views : List (View B E)) → ((j : ℕ) (u : View B E) → get_elem? views j ≡ some u → f u ≡ 0) → total_of f views ≡ 0
  total_none f [] nothing = refl
  total_none f (x ∷ xs) nothing = let is : f x ≡ 0 = nothing zero x refl in let t = total_none f xs (λ j u q. nothing (suc j) u q) in omega arith

  -- where the others are nothing, one member is the total
  pub total_only : (f : View B E → ℕ) (views : List (View B E)) (i : ℕ) (v : View B E) → get_elem? views i ≡ some v → ((j : ℕ) (u : View B E) → j ≢ i → get_elem? views j ≡ some u → f u ≡ 0) → total_of f views ≡ f v
  total_only f [] i v e none_else = absurd (some-ne-none v (sym e))
  total_only f (x ∷ xs) zero v e none_else =
      let is : f x ≡ f v = ap f (some-injective x v e) in
      let t = total_none f xs (λ j u q. none_else (suc j) u (λ z. omega arith) q) in
      omega arith
  total_only f (x ∷ xs) (suc i) v e none_else =
      let is : f x ≡ 0 = none_else zero x (λ z. omega arith) refl in
      let t = total_only f xs i v e (λ j u n q. none_else (suc j) u (λ z. n (omega arith)) q) in
      omega arith

  -- two members are no more than the total
  pub total_two : (f : View B E → ℕ) (views : List (View B E)) (i j : ℕ) (v w : View B E) → i ≢ j → get_elem? views i ≡ some v → get_elem? views j ≡ some w → f v + f w ≤ total_of f views
  total_two f [] i j v w n e d = absurd (some-ne-none v (sym e))
  total_two f (x ∷ xs) zero zero v w n e d = absurd (n refl)
  total_two f (x ∷ xs) zero (suc j) v w n e d = let is : f x ≡ f v = ap f (some-injective x v e) in let t = total_part f xs j w d in omega arith
  total_two f (x ∷ xs) (suc i) zero v w n e d = let is : f x ≡ f w = ap f (some-injective x w d) in let t = total_part f xs i v e in omega arith
  total_two f (x ∷ xs) (suc i) (suc j) v w n e d = let t = total_two f xs i j v w (λ s. n (ap suc s)) e d in omega arith

module _ {E : Type 0} where
  -- the longer of two beginnings of one list is such a beginning, and both begin it
  pub longer_is : (xs ys l : List E) → IsPrefix xs l → IsPrefix ys l → IsPrefix (longer xs ys) l × IsPrefix xs (longer xs ys) × IsPrefix ys (longer xs ys)
  longer_is xs ys l h k = go (leb (length xs) (length ys)) refl
    where
      le_of : (a b : ℕ) → leb a b ≡ true → a ≤ b
      le_of a b e = Rattle.std.proofs.lemmas.Bool.leb-true a b e

      go : (c : Bool) → leb (length xs) (length ys) ≡ c → IsPrefix (cond c ys xs) l × IsPrefix xs (cond c ys xs) × IsPrefix ys (cond c ys xs)
      go true e = (k, in_line xs ys l h k (le_of (length xs) (length ys) e), prefix_same ys)
      go false e = (h, prefix_same xs, in_line ys xs l k h (less (length xs) (length ys) e))
        where
          less : (a b : ℕ) → leb a b ≡ false → b ≤ a
          less a b e = grind (arith, Rattle.std.proofs.lemmas.Bool.Decides.leb_tells)

  -- and the other one begins it
  pub shorter_is : (xs ys l : List E) → IsPrefix (longer xs ys) l × IsPrefix xs (longer xs ys) × IsPrefix ys (longer xs ys) → IsPrefix (shorter xs ys) (longer xs ys)
  shorter_is xs ys l line = go (leb (length xs) (length ys)) refl
    where
      go : (c : Bool) → leb (length xs) (length ys) ≡ c → IsPrefix (cond c xs ys) (longer xs ys)
      go true e = line.1
      go false e = line.2
