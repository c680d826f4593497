-- The texts of a value are UTF-8.
use Rattle.std.proofs.Common.{List, [], ◌∷◌, map, String, Global, IsUtf8, sym, subst}
use Rattle.std.specs.Bool.{⊤}
use Rattle.std.proofs.lemmas.Str.{IsUtf8-string_bytes}
use Rattle.serde_json.specs.Data.{Data, null, boolean, number, string, array, object, Items, no_items, item, Members, no_members, member}
use Rattle.serde_json.specs.View.{view, view_step, items_of, members_of}
use Rattle.serde_json.specs.declared.value.Value.{Value, map-Value}
use Rattle.serde_json.specs.declared.value.Value.TheOpen.{Value-F}
use Rattle.serde_json.specs.declared.value.Value.TheFolds.{fold-roll-Value, ind-Value}

abbrev mutual
  pub HasTexts : Data → Type 0
  HasTexts null = ⊤
  HasTexts (boolean b) = ⊤
  HasTexts (number n) = ⊤
  HasTexts (string s) = IsUtf8 s
  HasTexts (array ds) = ItemsHaveTexts ds
  HasTexts (object ms) = MembersHaveTexts ms

  pub ItemsHaveTexts : Items → Type 0
  ItemsHaveTexts no_items = ⊤
  ItemsHaveTexts (item d ds) = HasTexts d × ItemsHaveTexts ds

  pub MembersHaveTexts : Members → Type 0
  MembersHaveTexts no_members = ⊤
  MembersHaveTexts (member k d ms) = HasTexts d × MembersHaveTexts ms

abbrev Told : Value → Type 0
Told v = HasTexts (view v)

abbrev Such : Type 0
Such = (v : Value) × Told v

items_told : (vs : List Such) → ItemsHaveTexts (items_of (map view (map (λ e. e.0) vs)))
items_told [] = tt
items_told (v ∷ vs) = (v.1, items_told vs)

members_told : (es : List (String Global × Such)) → MembersHaveTexts (members_of (map (λ (e : String Global × Value). (e.0, view e.1)) (map (λ (e : String Global × Such). (e.0, e.1.0)) es)))
members_told [] = tt
members_told (e ∷ es) = (e.1.1, members_told es)

step : (y : Value-F Such) → HasTexts (view_step (map-Value Value Data view (map-Value Such Value (λ e. e.0) y)))
step Value-F.Null = tt
step (Value-F.Bool b) = tt
step (Value-F.Number x) = tt
step (Value-F.String s) = IsUtf8-string_bytes s
step (Value-F.Array v) = items_told v.items
step (Value-F.Object m) = members_told m.entries

pub view_texts : (v : Value) → HasTexts (view v)
view_texts = ind-Value Told (λ x y is. subst HasTexts (sym (fold-roll-Value Data view_step x)) (subst (λ z. HasTexts (view_step (map-Value Value Data view z))) is (step y)))
