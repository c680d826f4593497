-- What stands at each key after items were put at their keys.
use Rattle.std.proofs.Common.{◌≡◌, ◌∙◌, inl, inr, List, [], ◌∷◌, Bool, true, false, cond, map, fold, refl, ap, sym, true≢false}
use Rattle.std.specs.Prelude.{◌≢◌}
use Rattle.std.specs.Bool.{Decides}
use Rattle.std.specs.List.{filter, AllByRecursion, IsDistinct}
use Rattle.segmenter.specs.Segments.{Has}
use Rattle.segmenter.specs.Steps.{put}
use Rattle.segmenter.proofs.HasLemmas.{all_at, has_mapped}

module _ {K V X : Type 0} (same : K → K → Bool) (decides : (a b : K) → Decides (same a b) (a ≡ b)) (more : X → List V → List V) where
  abbrev pub Entries : Type 0
  Entries = List (K × List V)

  -- the list at a key, and none where there is no such key
  abbrev pub at : K → Entries → List V
  at l [] = []
  at l (e ∷ es) = cond (same l e.0) e.1 (at l es)

  is : (a b : K) → same a b ≡ true → a ≡ b
  is a b = (decides a b).0

  to : (a b : K) → a ≡ b → same a b ≡ true
  to a b = (decides a b).1

  -- l, k and e: where k is e, l is k exactly where l is e
  found : (ke le lk : Bool) (l k : K) (e : K × List V) (es rest : Entries) (x : X) → same k e.0 ≡ ke → same l e.0 ≡ le → same l k ≡ lk
      → at l rest ≡ cond lk (more x (at l es)) (at l es)
      → at l (cond ke ((e.0, more x e.1) ∷ es) (e ∷ rest)) ≡ cond lk (more x (cond le e.1 (at l es))) (cond le e.1 (at l es))
  found true true true l k e es rest x ke le lk later = rw le refl
  found true true false l k e es rest x ke le lk later = absurd (true≢false (sym (to l k (is l e.0 le ∙ sym (is k e.0 ke))) ∙ lk))
  found true false true l k e es rest x ke le lk later = absurd (true≢false (sym (to l e.0 (is l k lk ∙ is k e.0 ke)) ∙ le))
  found true false false l k e es rest x ke le lk later = rw le refl
  found false true true l k e es rest x ke le lk later = absurd (true≢false (sym (to k e.0 (sym (is l k lk) ∙ is l e.0 le)) ∙ ke))
  found false true false l k e es rest x ke le lk later = rw le refl
  found false false lk l k e es rest x ke le lk_is later = rw le later

  pub at-put : (l : K) (es : Entries) (k : K) (x : X) → at l (put same more es k x) ≡ cond (same l k) (more x (at l es)) (at l es)
  at-put l [] k x = refl
  at-put l (e ∷ es) k x = found (same k e.0) (same l e.0) (same l k) l k e es (put same more es k x) x refl refl refl (at-put l es k x)

  -- ---- keys stand once

  abbrev pub keys : Entries → List K
  keys es = map (λ e. e.0) es

  abbrev Differs : K → K → Type 0
  Differs a b = same a b ≡ false

  not_same : (b : Bool) (x y : K) → same y x ≡ b → same x y ≡ false → b ≡ false
  not_same true x y yes_is other = absurd (true≢false (sym (to x y (sym (is y x yes_is))) ∙ other))
  not_same false x y yes_is other = refl

  differs-cond : (b : Bool) (a : K) (e : K × List V) (es rest : Entries) (x : X) → Differs a e.0 → AllByRecursion (Differs a) (keys es) → AllByRecursion (Differs a) (keys rest)
      → AllByRecursion (Differs a) (keys (cond b ((e.0, more x e.1) ∷ es) (e ∷ rest)))
  differs-cond true a e es rest x here later new = (here, later)
  differs-cond false a e es rest x here later new = (here, new)

  differs-put : (a : K) (es : Entries) (k : K) (x : X) → AllByRecursion (Differs a) (keys es) → Differs a k → AllByRecursion (Differs a) (keys (put same more es k x))
  differs-put a [] k x all other = (other, tt)
  differs-put a (e ∷ es) k x all other = differs-cond (same k e.0) a e es (put same more es k x) x all.0 all.1 (differs-put a es k x all.1 other)

  distinct-cond : (b : Bool) (k : K) (e : K × List V) (es : Entries) (x : X) → same k e.0 ≡ b → IsDistinct same (keys (e ∷ es)) → IsDistinct same (keys (put same more es k x))
      → IsDistinct same (keys (cond b ((e.0, more x e.1) ∷ es) (e ∷ put same more es k x)))
  unfolding IsDistinct
  distinct-cond true k e es x b_is all new = all
  distinct-cond false k e es x b_is all new = (differs-put e.0 es k x all.0 (not_same _ k e.0 refl b_is), new)

  distinct-put : (es : Entries) (k : K) (x : X) → IsDistinct same (keys es) → IsDistinct same (keys (put same more es k x))
  unfolding IsDistinct
  distinct-put [] k x all = (tt, tt)
  distinct-put (e ∷ es) k x all = distinct-cond (same k e.0) k e es x refl all (distinct-put es k x all.1)

  -- ---- lists have items

  abbrev pub IsFull : K × List V → Type 0
  IsFull e = e.1 ≢ []

  full-cond : (b : Bool) (e : K × List V) (es rest : Entries) (x : X) → ((y : X) (vs : List V) → more y vs ≢ []) → AllByRecursion IsFull (e ∷ es) → AllByRecursion IsFull rest → AllByRecursion IsFull (cond b ((e.0, more x e.1) ∷ es) (e ∷ rest))
  full-cond true e es rest x grows all new = (grows x e.1, all.1)
  full-cond false e es rest x grows all new = (all.0, new)

  pub full-put : (es : Entries) (k : K) (x : X) → ((y : X) (vs : List V) → more y vs ≢ []) → AllByRecursion IsFull es → AllByRecursion IsFull (put same more es k x)
  full-put [] k x grows all = (grows x [], tt)
  full-put (e ∷ es) k x grows all = full-cond (same k e.0) e es (put same more es k x) x grows all (full-put es k x grows all.1)

  -- ---- an entry is what stands at its key

  pub has_at : (es : Entries) (k : K) (vs : List V) → IsDistinct same (keys es) → Has es (k, vs) → at k es ≡ vs
  unfolding IsDistinct
  has_at [] k vs all h = absurd h
  has_at (e ∷ es) k vs all (inl same_entry) = rw (to k e.0 (ap (λ d. d.0) same_entry)) (sym (ap (λ d. d.1) same_entry))
  has_at (e ∷ es) k vs all (inr h) =
      let key : Has (keys es) k = has_mapped (λ (d : K × List V). d.0) es (k, vs) h in
      rw (not_same _ e.0 k refl (all_at (Differs e.0) (keys es) k all.0 key)) (has_at es k vs all.1 h)

  first_or : (b : Bool) (e : K × List V) (es : Entries) (k : K) (vs : List V) → same k e.0 ≡ b → cond b e.1 (at k es) ≡ vs → (at k es ≡ vs → Has es (k, vs)) → Has (e ∷ es) (k, vs)
  first_or true e es k vs b_is h later = let key = is k e.0 b_is in inl (λ i. (key i, sym h i))
  first_or false e es k vs b_is h later = inr (later h)

  pub at_has : (es : Entries) (k : K) (vs : List V) → at k es ≡ vs → vs ≢ [] → Has es (k, vs)
  at_has [] k vs h some = absurd (some (sym h))
  at_has (e ∷ es) k vs h some = first_or (same k e.0) e es k vs refl h (λ r. at_has es k vs r some)

  -- ---- all items of a list, put in turn

  module _ {P : Type 0} (key : P → K) (item : P → X) where
    abbrev pub put_all : Entries → List P → Entries
    put_all es ps = fold (λ (d : Entries) (p : P). put same more d (key p) (item p)) es ps

    abbrev pub more_all : List V → List P → List V
    more_all vs ps = fold (λ (ws : List V) (p : P). more (item p) ws) vs ps

    turned : (b : Bool) (vs : List V) (p : P) (ps : List P) → more_all (cond b (more (item p) vs) vs) ps ≡ more_all vs (cond b (p ∷ ps) ps)
    turned true vs p ps = refl
    turned false vs p ps = refl

    pub at-put_all : (l : K) (es : Entries) (ps : List P) → at l (put_all es ps) ≡ more_all (at l es) (filter (λ p. same l (key p)) ps)
    at-put_all l es [] = refl
    at-put_all l es (p ∷ ps) =
        at-put_all l (put same more es (key p) (item p)) ps
        ∙ ap (λ (vs : List V). more_all vs (filter (λ p. same l (key p)) ps)) (at-put l es (key p) (item p))
        ∙ turned (same l (key p)) (at l es) p (filter (λ p. same l (key p)) ps)

    pub distinct-put_all : (es : Entries) (ps : List P) → IsDistinct same (keys es) → IsDistinct same (keys (put_all es ps))
    distinct-put_all es [] all = all
    distinct-put_all es (p ∷ ps) all = distinct-put_all (put same more es (key p) (item p)) ps (distinct-put es (key p) (item p) all)

    pub full-put_all : ((y : X) (vs : List V) → more y vs ≢ []) → (es : Entries) (ps : List P) → AllByRecursion IsFull es → AllByRecursion IsFull (put_all es ps)
    full-put_all grows es [] all = all
    full-put_all grows es (p ∷ ps) all = full-put_all grows (put same more es (key p) (item p)) ps (full-put es (key p) (item p) grows all)

  pub none_distinct : IsDistinct same (keys [])
  unfolding IsDistinct
  none_distinct = tt
