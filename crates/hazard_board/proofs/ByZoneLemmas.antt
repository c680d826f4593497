-- The lines that are held for a zone are those of all lines that are of it.
use Rattle.std.proofs.Common.{◌≡◌, ◌∙◌, Bool, true, false, List, [], ◌∷◌, ◌++◌, Option, Some, cond, filter, unwrap_or, append_assoc, refl, sym, ap, if◌then◌else◌}
use Rattle.std.proofs.lemmas.List.{append-nil}
use Rattle.std.specs.BTreeMap.{is_at}
use Rattle.std.specs.Map.{lookup}
use Rattle.hazard_types.specs.Places.{Place, by_place}
use Rattle.hazard_types.specs.Same.{same_zone}
use Rattle.hazard_types.specs.declared.line.Line.{Line}
use Rattle.hazard_types.proofs.OrderLaws.{by_place_total, by_place_ties}
use Rattle.hazard_board.specs.ByZone.{items_at, add_item, add_items, lines_of, lines_at, add_to_zones}
use Rattle.event_life.proofs.Keyed.{at_one, found_after, zone_at}

module _ {X : Type 0} (zone : X → Place) where
  added_by : (b : Bool) (held : Option (List X)) (here : List X) (x : X) (later : List X) → (b ≡ true → here ≡ unwrap_or held []) →
      unwrap_or (cond b (Some (here ++ x ∷ [])) held) [] ++ later ≡ unwrap_or held [] ++ (if b then x ∷ later else later)
  added_by true held here x later same = ap (λ (xs : List X). (xs ++ x ∷ []) ++ later) (same refl) ∙ append_assoc (unwrap_or held []) (x ∷ []) later
  added_by false held here x later same = refl

  item_added : (zones : List (Place × List X)) (x : X) (z : Place) (later : List X) → items_at (add_item zone zones x) z ++ later ≡ items_at zones z ++ (if same_zone (zone x) z then x ∷ later else later)
  item_added zones x z later =
      ap (λ (held : Option (List X)). unwrap_or held [] ++ later) (found_after by_place by_place_total by_place_ties z (zone x) (items_at zones (zone x) ++ x ∷ []) zones)
      ∙ added_by (is_at (by_place z) (zone x)) (lookup (is_at (by_place z)) zones) (items_at zones (zone x)) x later (λ h. ap (items_at zones) (sym (at_one by_place by_place_total by_place_ties z (zone x) h)))
      ∙ ap (λ b. items_at zones z ++ (if b then x ∷ later else later)) (zone_at z (zone x))

  -- a zone's items are those that it held and, behind them, those of all items that are of it
  pub items_added : (zones : List (Place × List X)) (xs : List X) (z : Place) → items_at (add_items zone zones xs) z ≡ items_at zones z ++ filter (λ (x : X). same_zone (zone x) z) xs
  items_added zones [] z = sym (append-nil (items_at zones z))
  items_added zones (x ∷ xs) z = items_added (add_item zone zones x) xs z ∙ item_added zones x z (filter (λ (y : X). same_zone (zone y) z) xs)

pub lines_found : (lines : List Line) (z : Place) → lines_at (add_to_zones [] lines) z ≡ lines_of z lines
lines_found lines z = items_added (λ (l : Line). l.zone) [] lines z
