-- One more item in the list of a key, in a map and in what the map holds.
use Rattle.std.proofs.Common.{◌≡◌, List, [], ◌∷◌, Bool, true, false, cond, map, Option, Some, None, unwrap_or, refl, ap, ◌∙◌}
use Rattle.std.specs.Map.{lookup}
use Rattle.indexmap.specs.IndexMap.{insert_entry}
use Rattle.segmenter.specs.Steps.{put}

-- a map's keys stand for keys, and its values for lists
module _ {J K W V X : Type 0} (same : K → K → Bool) (more : X → List V → List V) (key : J → K) (items : W → List V) where
  abbrev pub view : List (J × W) → List (K × List V)
  view es = map (λ e. (key e.0, items e.1)) es

  abbrev pub same_key : J → J → Bool
  same_key a b = same (key a) (key b)

  -- the list at a key
  abbrev pub items_at : Option W → List V
  items_at None = []
  items_at (Some w) = items w

  by_first : (b : Bool) (e : J × W) (es : List (J × W)) (k : J) (w : W) (x : X) (tail : List (K × List V))
      → (b ≡ true → items w ≡ more x (items e.1)) → (b ≡ false → view (insert_entry same_key es k w) ≡ tail)
      → view (cond b ((e.0, w) ∷ es) (e ∷ insert_entry same_key es k w)) ≡ cond b ((key e.0, more x (items e.1)) ∷ view es) ((key e.0, items e.1) ∷ tail)
  by_first true e es k w x tail here later = rw (here refl)
  by_first false e es k w x tail here later = rw (later refl)

  pub put-insert_entry : (es : List (J × W)) (k : J) (w : W) (x : X) → items w ≡ more x (items_at (lookup (same_key k) es))
      → view (insert_entry same_key es k w) ≡ put same more (view es) (key k) x
  put-insert_entry [] k w x has = rw has
  put-insert_entry (e ∷ es) k w x has =
      by_first (same_key k e.0) e es k w x (put same more (view es) (key k) x)
      (λ t. rw t at has) (λ f. put-insert_entry es k w x (rw f at has))

  pub put_in : (new es : List (J × W)) (k : J) (w : W) (x : X) → new ≡ insert_entry same_key es k w → items w ≡ more x (items_at (lookup (same_key k) es))
      → view new ≡ put same more (view es) (key k) x
  put_in new es k w x is has = ap view is ∙ put-insert_entry es k w x has

  pub items_at-value : (o : Option W) (d r : W) → r ≡ unwrap_or o d → items d ≡ [] → items r ≡ items_at o
  items_at-value None d r is empty = rw is empty
  items_at-value (Some w) d r is empty = ap items is
