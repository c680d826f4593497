-- Lists at keys, where one is put at its key.
use Rattle.std.proofs.Common.{◌≡◌, List, [], ◌∷◌, Bool, true, false, cond, Ordering, Less, Equal, Greater, Option, Some, unwrap_or, refl, ap, sym, subst}
use Rattle.std.proofs.lemmas.Cmp.{tied_itself}
use Rattle.std.specs.BTreeMap.{insert_entry, is_at}
use Rattle.std.specs.BTreeSet.{insert_key}
use Rattle.std.specs.Cmp.{IsTotalOrder}
use Rattle.std.specs.List.{AllByRecursion}
use Rattle.std.specs.List.Sorted.{IsStrictlySortedBy}
use Rattle.std.specs.Map.{keys_of, lookup}
use Rattle.std.specs.Ordering.{match_ordering}
use Rattle.row_index.specs.Listing.{list_at}
use Rattle.row_index.proofs.Tests.{at_one, at_own, insert-sorted}

module _ {K V : Type 0} (cmp : K → K → Ordering) (total : IsTotalOrder cmp) (ties : (a b : K) → cmp a b ≡ Equal → a ≡ b) (none : V) where
  -- what stands at a key, where `none` stands at one that is not there
  abbrev value_at : List (K × V) → K → V
  value_at es k = unwrap_or (lookup (is_at (cmp k)) es) none

  same_by : (o : Ordering) (k : K) (e : K × V) (es : List (K × V)) (w : V) → cmp k e.0 ≡ o
      → value_at (insert_entry cmp es k w) k ≡ w → value_at (match_ordering o ((k, w) ∷ e ∷ es) ((e.0, w) ∷ es) (e ∷ insert_entry cmp es k w)) k ≡ w
  same_by Less k e es w h later = rw (at_own cmp total ties k) refl
  same_by Equal k e es w h later = rw h refl
  same_by Greater k e es w h later = rw h later

  pub value_same : (k : K) (es : List (K × V)) (w : V) → value_at (insert_entry cmp es k w) k ≡ w
  value_same k [] w = rw (at_own cmp total ties k) refl
  value_same k (e ∷ es) w = same_by (cmp k e.0) k e es w refl (value_same k es w)

  other_first : (b : Bool) (v : V) (o p : Option V) → unwrap_or o none ≡ unwrap_or p none → unwrap_or (cond b (Some v) o) none ≡ unwrap_or (cond b (Some v) p) none
  other_first true v o p h = refl
  other_first false v o p h = h

  other_by : (o : Ordering) (q k : K) (e : K × V) (es : List (K × V)) (w : V) → cmp k e.0 ≡ o → is_at (cmp q) k ≡ false
      → value_at (insert_entry cmp es k w) q ≡ value_at es q → value_at (match_ordering o ((k, w) ∷ e ∷ es) ((e.0, w) ∷ es) (e ∷ insert_entry cmp es k w)) q ≡ value_at (e ∷ es) q
  other_by Less q k e es w h f later = rw f refl
  other_by Equal q k e es w h f later =
      let g : is_at (cmp q) e.0 ≡ false = subst (λ (y : K). is_at (cmp q) y ≡ false) (ties k e.0 h) f in
      rw g refl
  other_by Greater q k e es w h f later = other_first (is_at (cmp q) e.0) e.1 (lookup (is_at (cmp q)) (insert_entry cmp es k w)) (lookup (is_at (cmp q)) es) later

  pub value_other : (q k : K) (es : List (K × V)) (w : V) → is_at (cmp q) k ≡ false → value_at (insert_entry cmp es k w) q ≡ value_at es q
  value_other q k [] w f = rw f refl
  value_other q k (e ∷ es) w f = other_by (cmp k e.0) q k e es w refl f (value_other q k es w f)

module _ {K X : Type 0} (cmp : K → K → Ordering) (total : IsTotalOrder cmp) (ties : (a b : K) → cmp a b ≡ Equal → a ≡ b) where
  pub at_same : (k : K) (es : List (K × List X)) (w : List X) → list_at cmp (insert_entry cmp es k w) k ≡ w
  at_same k es w = value_same cmp total ties [] k es w

  pub at_other : (q k : K) (es : List (K × List X)) (w : List X) → is_at (cmp q) k ≡ false → list_at cmp (insert_entry cmp es k w) q ≡ list_at cmp es q
  at_other q k es w f = value_other cmp total ties [] q k es w f

  -- one put in the place of another that was put there
  twice_by : (o : Ordering) (k : K) (e : K × List X) (es : List (K × List X)) (v w : List X) → cmp k e.0 ≡ o → insert_entry cmp (insert_entry cmp es k v) k w ≡ insert_entry cmp es k w
      → insert_entry cmp (match_ordering o ((k, v) ∷ e ∷ es) ((e.0, v) ∷ es) (e ∷ insert_entry cmp es k v)) k w ≡ match_ordering o ((k, w) ∷ e ∷ es) ((e.0, w) ∷ es) (e ∷ insert_entry cmp es k w)
  twice_by Less k e es v w h later = rw (tied_itself total k) refl
  twice_by Equal k e es v w h later = rw h refl
  twice_by Greater k e es v w h later = rw h (ap (λ (rest : List (K × List X)). e ∷ rest) later)

  pub put_twice : (k : K) (es : List (K × List X)) (v w : List X) → insert_entry cmp (insert_entry cmp es k v) k w ≡ insert_entry cmp es k w
  put_twice k [] v w = rw (tied_itself total k) refl
  put_twice k (e ∷ es) v w = twice_by (cmp k e.0) k e es v w refl (put_twice k es v w)

  -- keys behind one that is not there
  pub at_none : (k : K) (es : List (K × List X)) → AllByRecursion (λ (y : K). cmp k y ≡ Less) (keys_of es) → list_at cmp es k ≡ []
  at_none k [] all = refl
  at_none k (e ∷ es) all = rw all.0 (at_none k es all.1)

  -- what holds of each list holds of those at keys, where it holds of none
  at_by : (P : K → List X → Type 0) (k : K) (e : K × List X) (o : Option (List X)) (b : Bool) → is_at (cmp k) e.0 ≡ b → P e.0 e.1 → P k (unwrap_or o []) → P k (unwrap_or (cond b (Some e.1) o) [])
  at_by P k e o true h here later = subst (λ (y : K). P y e.1) (sym (at_one cmp total ties k e.0 h)) here
  at_by P k e o false h here later = later

  pub at_each : (P : K → List X → Type 0) (k : K) (es : List (K × List X)) → AllByRecursion (λ (e : K × List X). P e.0 e.1) es → P k [] → P k (list_at cmp es k)
  at_each P k [] all none = none
  at_each P k (e ∷ es) all none = at_by P k e (lookup (is_at (cmp k)) es) (is_at (cmp k) e.0) refl all.0 (at_each P k es all.1 none)

  -- and of each after one was put
  each_by : (P : K → List X → Type 0) (o : Ordering) (k : K) (e : K × List X) (es tail : List (K × List X)) (w : List X) → cmp k e.0 ≡ o → P k w → AllByRecursion (λ (e : K × List X). P e.0 e.1) (e ∷ es) → AllByRecursion (λ (e : K × List X). P e.0 e.1) tail
      → AllByRecursion (λ (e : K × List X). P e.0 e.1) (match_ordering o ((k, w) ∷ e ∷ es) ((e.0, w) ∷ es) (e ∷ tail))
  each_by P Less k e es tail w h p all more = (p, all)
  each_by P Equal k e es tail w h p all more = (subst (λ (y : K). P y w) (ties k e.0 h) p, all.1)
  each_by P Greater k e es tail w h p all more = (all.0, more)

  pub each_put : (P : K → List X → Type 0) (k : K) (es : List (K × List X)) (w : List X) → P k w → AllByRecursion (λ (e : K × List X). P e.0 e.1) es → AllByRecursion (λ (e : K × List X). P e.0 e.1) (insert_entry cmp es k w)
  each_put P k [] w p all = (p, tt)
  each_put P k (e ∷ es) w p all = each_by P (cmp k e.0) k e es (insert_entry cmp es k w) w refl p all (each_put P k es w p all.1)

module _ {K V : Type 0} (cmp : K → K → Ordering) (total : IsTotalOrder cmp) (ties : (a b : K) → cmp a b ≡ Equal → a ≡ b) where
  keys_by : (o : Ordering) (k : K) (e : K × V) (es : List (K × V)) (w : V) → keys_of (insert_entry cmp es k w) ≡ insert_key cmp (keys_of es) k
      → keys_of (match_ordering o ((k, w) ∷ e ∷ es) ((e.0, w) ∷ es) (e ∷ insert_entry cmp es k w)) ≡ match_ordering o (k ∷ e.0 ∷ keys_of es) (e.0 ∷ keys_of es) (e.0 ∷ insert_key cmp (keys_of es) k)
  keys_by Less k e es w later = refl
  keys_by Equal k e es w later = refl
  keys_by Greater k e es w later = ap (λ (ks : List K). e.0 ∷ ks) later

  keys-put : (k : K) (es : List (K × V)) (w : V) → keys_of (insert_entry cmp es k w) ≡ insert_key cmp (keys_of es) k
  keys-put k [] w = refl
  keys-put k (e ∷ es) w = keys_by (cmp k e.0) k e es w (keys-put k es w)

  pub ascending-put : (k : K) (es : List (K × V)) (w : V) → IsStrictlySortedBy cmp (keys_of es) → IsStrictlySortedBy cmp (keys_of (insert_entry cmp es k w))
  ascending-put k es w up = subst (λ (ks : List K). IsStrictlySortedBy cmp ks) (sym (keys-put k es w)) (insert-sorted cmp total ties k (keys_of es) up)
