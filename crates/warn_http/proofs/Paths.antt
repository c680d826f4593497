-- The router finds the desk's paths, and no others.
use Rattle.std.proofs.Common.{◌≡◌, ℕ, zero, suc, ◌-◌, ◌≤◌, ◌⊎◌, inl, inr, Bool, true, false, ◌&&◌, ◌==◌, cond, List, [], ◌∷◌, ◌++◌, length, refl, ap, sym, ◌∙◌, subst, arith, Option, Some, None, ltb}
use Rattle.std.specs.List.{list_all}
use Rattle.std.specs.Str.{bytes_eq}
use Rattle.std.proofs.lemmas.Bool.Decides.{Decides-eqb}
use Rattle.matchit.specs.Rows.{RowsOf, param_token, catch_all_token}
use Rattle.matchit.specs.Seek.{seek, param_step, own, step, or_else, has_slash, segment, longest_suffix, with_suffix}

-- a byte, and no parameter
abbrev pub is_plain : List ℕ → Bool
is_plain t = list_all (λ b. ltb b 256) t

not_plain : (token : ℕ) (t : List ℕ) → ltb token 256 ≡ false → is_plain (token ∷ t) ≡ true → ⊥
not_plain token t big plain =
    let e : (false && is_plain t) ≡ true = subst (λ (b : Bool). (b && is_plain t) ≡ true) big plain in cc

plain_rest : (b : ℕ) (t : List ℕ) → is_plain (b ∷ t) ≡ true → is_plain t ≡ true
plain_rest b t plain = of (ltb b 256) plain
  where
    of : (c : Bool) → (c && is_plain t) ≡ true → is_plain t ≡ true
    of true e = e
    of false e = absurd (cc)

-- ---- a walk over rows, forwards

module _ {K : Type 0} where
  no_param : (path : List ℕ) → (param_step {K = K} [] path).1 ≡ []
  unfolding param_step
  no_param path = of (has_slash path)
    where
      of : (b : Bool) → (cond {A = ℕ × RowsOf K} b (0, []) (length path, [])).1 ≡ []
      of true = refl
      of false = refl

  pub nothing : (n : ℕ) (path : List ℕ) → seek {K = K} n [] path ≡ None
  unfolding seek
  nothing n [] = refl
  nothing (suc n) (b ∷ path) = nothing n path
  nothing zero (b ∷ path) =
      let k : ℕ = (param_step {K = K} [] (b ∷ path)).0 - 1 in
      let none : seek k (param_step {K = K} [] (b ∷ path)).1 path ≡ None =
      ap (λ (rs : RowsOf K). seek k rs path) (no_param (b ∷ path)) ∙ nothing k path in
      rw (nothing 0 path, none) refl

  past : (n : ℕ) (rs : RowsOf K) (path : List ℕ) → length path ≤ n → seek n rs path ≡ own rs
  unfolding seek
  past n rs [] le = refl
  past zero rs (b ∷ path) le = absurd (omega arith)
  past (suc n) rs (b ∷ path) le = past n rs path (omega arith)

  -- a parameter at the end takes what is left
  pub takes : (r : K) (rs : RowsOf K) (d : ℕ) (path : List ℕ) → has_slash (d ∷ path) ≡ false
      → step d rs ≡ [] → step param_token rs ≡ ([], r) ∷ [] → seek 0 rs (d ∷ path) ≡ Some r
  unfolding seek param_step
  takes r rs d path open_path none one =
      let rest : seek (length path) (([], r) ∷ []) path ≡ Some r = past (length path) (([], r) ∷ []) path (omega arith) in
      let size : suc (length path) - 1 ≡ length path = omega arith in
      rw (none, one, nothing 0 path, open_path, size, rest) refl

  abbrev pub steps : List ℕ → RowsOf K → RowsOf K
  steps [] rs = rs
  steps (b ∷ bytes) rs = steps bytes (step b rs)

  -- bytes that rows go on with come first
  pub through : (front : List ℕ) (rs : RowsOf K) (path : List ℕ) (r : K) → seek 0 (steps front rs) path ≡ Some r
      → seek 0 rs (front ++ path) ≡ Some r
  unfolding seek
  through [] rs path r e = e
  through (b ∷ front) rs path r e = rw (through front (step b rs) path r e) refl

  -- ---- a walk over rows, backwards

  abbrev pub Has : List ℕ × K → RowsOf K → Type 0
  Has x [] = ⊥
  Has x (y ∷ rs) = (x ≡ y) ⊎ Has x rs

  own_has : (rs : RowsOf K) (k : K) → own rs ≡ Some k → Has ([], k) rs
  own_has [] k e = absurd (cc)
  own_has (([], key) ∷ rs) k e = inl (let f : key ≡ k = cc in ap (λ (x : K). ([], x)) (sym f))
  own_has ((x ∷ t, key) ∷ rs) k e = inr (own_has rs k e)

  step_has : (b : ℕ) (rs : RowsOf K) (t : List ℕ) (k : K) → Has (t, k) (step b rs) → Has (b ∷ t, k) rs
  step_has b [] t k has = has
  step_has b (([], key) ∷ rs) t k has = inr (step_has b rs t k has)
  step_has b ((x ∷ u, key) ∷ rs) t k has = of (x == b) refl (step_has b rs t k) has
    where
      of : (same : Bool) → x == b ≡ same → (Has (t, k) (step b rs) → Has (b ∷ t, k) rs)
          → Has (t, k) (cond same ((u, key) ∷ step b rs) (step b rs)) → Has (b ∷ t, k) ((x ∷ u, key) ∷ rs)
      of true e more (inl is) =
          let f : x ≡ b = (Decides-eqb x b).0 e in
          let g : t ≡ u = ap (λ (p : List ℕ × K). p.0) is in
          let h : k ≡ key = ap (λ (p : List ℕ × K). p.1) is in
          inl (cc)
      of true e more (inr has) = inr (more has)
      of false e more has = inr (more has)

  suffix_has : (suffix : List ℕ) (rs : RowsOf K) (x : List ℕ × K) → Has x (with_suffix suffix rs) → Has x rs
  suffix_has suffix [] x has = has
  suffix_has suffix ((t, key) ∷ rs) x has = of (bytes_eq (segment t) suffix) (suffix_has suffix rs x) has
    where
      of : (b : Bool) → (Has x (with_suffix suffix rs) → Has x rs)
          → Has x (cond b ((t, key) ∷ with_suffix suffix rs) (with_suffix suffix rs)) → Has x ((t, key) ∷ rs)
      of true more (inl is) = inl is
      of true more (inr has) = inr (more has)
      of false more has = inr (more has)

  param_has : (rs : RowsOf K) (path : List ℕ) (x : List ℕ × K) → Has x (param_step rs path).1 → Has x rs
  unfolding param_step
  param_has rs path x has =
      of (ltb 0 (length (longest_suffix (segment path) rs))) (has_slash path) has
    where
      of : (a b : Bool)
          → Has x (cond {A = ℕ × RowsOf K} a (length (segment path) - length (longest_suffix (segment path) rs), with_suffix (longest_suffix (segment path) rs) rs)
          (cond {A = ℕ × RowsOf K} b (0, []) (length path, rs))).1
          → Has x rs
      of true b has = suffix_has (longest_suffix (segment path) rs) rs x has
      of false true has = absurd has
      of false false has = has

  -- the row of a route that was found, which is the path where it has no parameter
  pub record Found (n : ℕ) (rs : RowsOf K) (path : List ℕ) (k : K) : Type 0 where
    pub row : List ℕ
    pub there : Has (row, k) rs
    pub plain : is_plain row ≡ true → n ≡ 0 → path ≡ row

  pub found : (n : ℕ) (rs : RowsOf K) (path : List ℕ) (k : K) → seek n rs path ≡ Some k → Found n rs path k
  unfolding seek
  found n rs [] k e = record { row = []; there = own_has rs k e; plain = λ p z. refl }
  found (suc n) rs (b ∷ path) k e =
      let f = found n rs path k e in
      record { row = f.row; there = f.there; plain = λ p z. absurd (omega arith) }
  found zero rs (b ∷ path) k e =
      literal (seek 0 (step b rs) path) refl
      (seek ((param_step (step param_token rs) (b ∷ path)).0 - 1) (param_step (step param_token rs) (b ∷ path)).1 path) refl
      (found 0 (step b rs) path k)
      (found ((param_step (step param_token rs) (b ∷ path)).0 - 1) (param_step (step param_token rs) (b ∷ path)).1 path k)
      e
    where
      literal : (o : Option K) → seek 0 (step b rs) path ≡ o
          → (p : Option K)
          → seek ((param_step (step param_token rs) (b ∷ path)).0 - 1) (param_step (step param_token rs) (b ∷ path)).1 path ≡ p
          → (seek 0 (step b rs) path ≡ Some k → Found 0 (step b rs) path k)
          → (seek ((param_step (step param_token rs) (b ∷ path)).0 - 1) (param_step (step param_token rs) (b ∷ path)).1 path ≡ Some k
          → Found ((param_step (step param_token rs) (b ∷ path)).0 - 1) (param_step (step param_token rs) (b ∷ path)).1 path k)
          → or_else o (or_else p (own (step catch_all_token rs))) ≡ Some k → Found 0 rs (b ∷ path) k
      literal (Some x) is p also more other e =
          let f = more (is ∙ e) in
          record {
            row = b ∷ f.row;
            there = step_has b rs f.row k f.there;
            plain = λ q z. ap (λ (t : List ℕ). b ∷ t) (f.plain (plain_rest b f.row q) refl);
          }
      literal None is (Some x) also more other e =
          let f = other (also ∙ e) in
          record {
            row = param_token ∷ f.row;
            there = step_has param_token rs f.row k (param_has (step param_token rs) (b ∷ path) (f.row, k) f.there);
            plain = λ q z. absurd (not_plain param_token f.row refl q);
          }
      literal None is None also more other e =
          record {
            row = catch_all_token ∷ [];
            there = step_has catch_all_token rs [] k (own_has (step catch_all_token rs) k e);
            plain = λ q z. absurd (not_plain catch_all_token [] refl q);
          }
