-- The zones of a table stand in the order of zones.
use Rattle.std.proofs.Common.{ℕ, ◌≡◌, List, [], ◌∷◌, ◌++◌, Option, Some, None, option_map, option_and_then, String, Global, string_bytes, refl, ap, sym, subst, ◌∙◌, append_assoc}
use Rattle.std.specs.declared.cmp.Ordering.TheVariants.{Less}
use Rattle.std.specs.Ordering.{nat_cmp}
use Rattle.std.specs.Cmp.Lexicographic.{slice_cmp}
use Rattle.std.specs.List.{AllByRecursion}
use Rattle.std.specs.List.Sorted.{IsStrictlySortedBy}
use Rattle.std.specs.Map.{keys_of}
use Rattle.std.specs.String.{string_cmp}
use Rattle.std.specs.BTreeMap.{insert_entry}
use Rattle.toml.specs.Data.{Data, Members, member, as_str}
use Rattle.toml.specs.View.{view, members_view}
use Rattle.toml.proofs.Views.{Entry}
use Rattle.hazard_types.specs.Places.{Place, by_place}
use Rattle.hazard_types.specs.Names.{zone_at}
use Rattle.hazard_types.proofs.Inverting.{and_then_some, map_some}
use Rattle.desk_settings.specs.Reading.{zone_pairs, in_order, zone_name_in}
use Rattle.desk_settings.proofs.ZoneCodes.{code_parts, codes_alike}

abbrev pub Pair : Type 0
Pair = Place × List ℕ

-- the parts of the pairs of one member and others
pub record Leads (k : List ℕ) (d : Data) (ms : Members) (pairs : List Pair) : Type 0 where
  pub zone : Place
  pub name : List ℕ
  pub more : List Pair
  pub code : zone_at k ≡ Some zone
  pub named : option_and_then zone_name_in (as_str d) ≡ Some name
  pub behind : zone_pairs ms ≡ Some more
  pub whole : (zone, name) ∷ more ≡ pairs

pub leads : (k : List ℕ) (d : Data) (ms : Members) (pairs : List Pair) → zone_pairs (member k d ms) ≡ Some pairs → Leads k d ms pairs
leads k d ms pairs h =
    let z = and_then_some (zone_at k) _ pairs h in
    let n = and_then_some (option_and_then zone_name_in (as_str d)) _ pairs z.2 in
    let m = map_some (zone_pairs ms) _ pairs n.2 in
    record { zone = z.0; name = n.0; more = m.0; code = z.1; named = n.1; behind = m.1; whole = m.2 }

-- a zone whose code comes before these keys comes before their zones
before_pairs : (k : List ℕ) (z : Place) (es : List Entry) (pairs : List Pair) → zone_at k ≡ Some z → AllByRecursion (λ (y : String Global). slice_cmp nat_cmp k (string_bytes y) ≡ Less) (keys_of es) → zone_pairs (members_view es) ≡ Some pairs
    → AllByRecursion (λ (y : Place). by_place z y ≡ Less) (keys_of pairs)
before_pairs k z [] pairs code h read = let none : [] ≡ pairs = cc in subst (λ (ps : List Pair). AllByRecursion (λ (y : Place). by_place z y ≡ Less) (keys_of ps)) none tt
before_pairs k z (e ∷ es) pairs code h read =
    let l = leads (string_bytes e.0) (view e.1) (members_view es) pairs read in
    let here : by_place z l.zone ≡ Less = sym (codes_alike k (string_bytes e.0) z l.zone (code_parts k z code) (code_parts (string_bytes e.0) l.zone l.code)) ∙ h.0 in
    subst (λ (ps : List Pair). AllByRecursion (λ (y : Place). by_place z y ≡ Less) (keys_of ps)) l.whole (here, before_pairs k z es l.more code h.1 l.behind)

-- where keys ascend, so do their zones
pub pairs_ascend : (es : List Entry) (pairs : List Pair) → IsStrictlySortedBy string_cmp (keys_of es) → zone_pairs (members_view es) ≡ Some pairs → IsStrictlySortedBy by_place (keys_of pairs)
unfolding IsStrictlySortedBy
pairs_ascend [] pairs h read = let none : [] ≡ pairs = cc in subst (λ (ps : List Pair). IsStrictlySortedBy by_place (keys_of ps)) none tt
pairs_ascend (e ∷ es) pairs h read =
    let l = leads (string_bytes e.0) (view e.1) (members_view es) pairs read in
    subst (λ (ps : List Pair). IsStrictlySortedBy by_place (keys_of ps)) l.whole
    (before_pairs (string_bytes e.0) l.zone es l.more l.code h.0 l.behind, pairs_ascend es l.more h.1 l.behind)

-- pairs that ascend are in order
ascending_stays : (p : Pair) (pairs : List Pair) → AllByRecursion (λ (y : Place). by_place p.0 y ≡ Less) (keys_of pairs) → insert_entry by_place pairs p.0 p.1 ≡ p ∷ pairs
ascending_stays p [] h = refl
ascending_stays p (q ∷ pairs) h = rw h.0

pub in_order_stays : (pairs : List Pair) → IsStrictlySortedBy by_place (keys_of pairs) → in_order pairs ≡ pairs
unfolding IsStrictlySortedBy
in_order_stays [] h = refl
in_order_stays (p ∷ pairs) h = rw (in_order_stays pairs h.1) (ascending_stays p pairs h.0)

-- the zones that a table names are in order already
pub table_in_order : (es : List Entry) (o : Option (List Pair)) → IsStrictlySortedBy string_cmp (keys_of es) → zone_pairs (members_view es) ≡ o → option_map in_order o ≡ o
table_in_order es None h read = refl
table_in_order es (Some pairs) h read = ap Some (in_order_stays pairs (pairs_ascend es pairs h read))

added : (done : List Pair) (p : Pair) (r : Option (List Pair)) → option_map (λ (more : List Pair). done ++ more) (option_map (λ (more : List Pair). p ∷ more) r) ≡ option_map (λ (more : List Pair). (done ++ p ∷ []) ++ more) r
added done p None = refl
added done p (Some more) = ap Some (sym (append_assoc done (p ∷ []) more))

-- one more zone is read
pub pairs_next : (done : List Pair) (k name : List ℕ) (z : Place) (d : Data) (ms : Members) → zone_at k ≡ Some z → option_and_then zone_name_in (as_str d) ≡ Some name
    → option_map (λ (more : List Pair). done ++ more) (zone_pairs (member k d ms)) ≡ option_map (λ (more : List Pair). (done ++ (z, name) ∷ []) ++ more) (zone_pairs ms)
pairs_next done k name z d ms code named = rw (code, named) (added done (z, name) (zone_pairs ms))
