-- What is accepted has the forms.
use Rattle.std.proofs.Common.{ℕ, ◌≡◌, ◌≤◌, ◌&&◌, ◌||◌, Bool, true, false, cond, IsTrue, List, [], ◌∷◌, length, nat_le, nat_lt, Option, Some, None, option_map, option_and_then, Result, Ok, Err, IfOk, refl, ap, subst, ◌∙◌, leb-true}
use Rattle.std.specs.declared.cmp.Ordering.{Ordering}
use Rattle.std.specs.declared.cmp.Ordering.TheVariants.{Less, Equal, Greater}
use Rattle.std.specs.Ordering.{match_ordering, ordering_reverse}
use Rattle.std.specs.Option.{ok_or}
use Rattle.std.specs.List.{All, AllByRecursion, IsDistinct, list_any}
use Rattle.std.specs.List.Sorted.{IsStrictlySortedBy}
use Rattle.std.specs.Map.{keys_of, values_of}
use Rattle.std.specs.Str.{bytes_eq}
use Rattle.std.specs.BTreeMap.{insert_entry}
use Rattle.std.proofs.lemmas.List.Elements.{All-nil, All-from_recursion, recursion_from_All}
use Rattle.std.proofs.lemmas.Map.Views.{All-keys-insert_entry, All-values-insert_entry}
use Rattle.toml.specs.Data.{Items, no_items, item, Members, no_members, member, as_str, as_array, as_table}
use Rattle.hazard_types.specs.Given.{Gives, ◌>>=◌}
use Rattle.hazard_types.specs.declared.or.Or.{Or}
use Rattle.office_types.specs.Desks.{is_desk_name}
use Rattle.hazard_types.specs.Places.{Place, IsPlace, by_place}
use Rattle.hazard_types.specs.declared.codes.LocalZone.{LocalZone}
use Rattle.hazard_types.proofs.OrderLaws.{by_place_total}
use Rattle.desk_settings.specs.declared.fault.SettingsFault.{SettingsFault}
use Rattle.desk_settings.specs.declared.fault.SettingsFault.TheVariants.{NotToml}
use Rattle.desk_settings.specs.declared.keys.Key.{Key}
use Rattle.desk_settings.specs.declared.keys.Key.TheVariants as key
use Rattle.hazard_types.specs.declared.codes.Category.{Category}
use Rattle.hazard_types.specs.declared.codes.Category.TheVariants.{Wsw, Npw, Rfw, Cfw, Mww, Ffa, Flw, Fls}
use Rattle.desk_settings.specs.declared.settings.Settings.{Settings}
use Rattle.hazard_types.specs.Characters.{is_office}
use Rattle.desk_settings.specs.Forms.{is_site, is_office_line, is_heading, is_zone_name}
use Rattle.desk_settings.specs.Keys.{value_at, text_at, missing_key}
use Rattle.desk_settings.specs.Reading.{known, office_field, site_field, line_field, zone_field, desks_field, heading_field, headings_field, zones_field, names_of, desk_in, few_desks, desks_in, zone_pairs, in_order, few_zones, zones_in, has_twice, unless_twice, fields_in, if_whole, settings_in, table_of, settings_of}
use Rattle.desk_settings.specs.AreSettings.{AreSettings}
use Rattle.hazard_types.proofs.Inverting.{both, if_some, and_then_some, map_some}
use Rattle.desk_settings.proofs.ZoneCodes.{code_parts}
use Rattle.desk_settings.proofs.ZoneOrder.{Pair, leads}

-- what passed a test
passed : {X : Type 0} (test : X → Bool) (o : Option X) (x : X) → option_and_then (λ y. cond (test y) (Some y) None) o ≡ Some x → test x ≡ true
passed test None x h = absurd (cc)
passed test (Some y) x h =
    let t = if_some (test y) (Some y) x h in
    let same : y ≡ x = cc in
    subst (λ z. test z ≡ true) same t.0

known_ok : {X : Type 0} (k : Key) (found : Option X) (x : X) → known k found ≡ Ok x → found ≡ Some x
known_ok k None x h = absurd (cc)
known_ok k (Some y) x h = cc

-- ---- desks

names_ok : (items : Items) (desks : List (List ℕ)) → names_of items ≡ Some desks → AllByRecursion (λ (d : List ℕ). IsTrue (is_desk_name d)) desks
names_ok no_items desks h = let none : [] ≡ desks = cc in subst (λ (ds : List (List ℕ)). AllByRecursion (λ (d : List ℕ). IsTrue (is_desk_name d)) ds) none tt
names_ok (item d ds) desks h =
    let n = and_then_some (option_and_then desk_in (as_str d)) _ desks h in
    let m = map_some (names_of ds) _ desks n.2 in
    subst (λ (xs : List (List ℕ)). AllByRecursion (λ (x : List ℕ). IsTrue (is_desk_name x)) xs) m.2 (passed is_desk_name (as_str d) n.0 n.1, names_ok ds m.0 m.1)

record DesksOk (desks : List (List ℕ)) : Type 0 where
  some : 1 ≤ length desks
  few : length desks ≤ 64
  forms : All (λ (d : List ℕ). IsTrue (is_desk_name d)) desks

desks_ok : (ms : Members) (desks : List (List ℕ)) → desks_field ms ≡ Ok desks → DesksOk desks
desks_ok ms desks h =
    let v = and_then_some (value_at key.Desks ms) desks_in desks (known_ok key.Desks _ desks h) in
    let count = both (nat_le 1 (length desks)) (nat_le (length desks) 64) (passed (λ (ds : List (List ℕ)). nat_le 1 (length ds) && nat_le (length ds) 64) (option_and_then names_of (as_array v.0)) desks v.2) in
    let found = and_then_some (option_and_then names_of (as_array v.0)) few_desks desks v.2 in
    let items = and_then_some (as_array v.0) names_of found.0 found.1 in
    let same : found.0 ≡ desks = let t = if_some (nat_le 1 (length found.0) && nat_le (length found.0) 64) (Some found.0) desks found.2 in cc in
    record {
      some = leb-true 1 (length desks) count.0;
      few = leb-true (length desks) 64 count.1;
      forms = All-from_recursion (λ (d : List ℕ). IsTrue (is_desk_name d)) desks (subst (λ (ds : List (List ℕ)). AllByRecursion (λ (d : List ℕ). IsTrue (is_desk_name d)) ds) same (names_ok items.0 found.0 items.2));
    }

neither : (a b : Bool) → (a || b) ≡ false → (a ≡ false) × (b ≡ false)
neither true b h = absurd (cc)
neither false b h = (refl, h)

none_passes : {X : Type 0} (test : X → Bool) (xs : List X) → list_any test xs ≡ false → AllByRecursion (λ x. test x ≡ false) xs
none_passes test [] h = tt
none_passes test (x ∷ xs) h = let n = neither (test x) (list_any test xs) h in (n.0, none_passes test xs n.1)

once : (desks : List (List ℕ)) → has_twice desks ≡ false → IsDistinct bytes_eq desks
unfolding IsDistinct
once [] h = tt
once (d ∷ ds) h = let n = neither (list_any (bytes_eq d) ds) (has_twice ds) h in (none_passes (bytes_eq d) ds n.0, once ds n.1)

-- ---- headings

heading_ok : (ms : Members) (c : Category) (text : List ℕ) → heading_field ms c ≡ Ok text → IsTrue (is_heading text)
heading_ok ms c text h = passed is_heading (text_at (key.Heading c) ms) text (known_ok (key.Heading c) _ text h)

record Eight (texts : List (List ℕ)) : Type 0 where
  count : length texts ≡ 8
  forms : AllByRecursion (λ (h : List ℕ). IsTrue (is_heading h)) texts

eight : (a b c d e f g h : Result (List ℕ) SettingsFault) (texts : List (List ℕ))
    → ((x : List ℕ) → a ≡ Ok x → IsTrue (is_heading x)) → ((x : List ℕ) → b ≡ Ok x → IsTrue (is_heading x)) → ((x : List ℕ) → c ≡ Ok x → IsTrue (is_heading x)) → ((x : List ℕ) → d ≡ Ok x → IsTrue (is_heading x))
    → ((x : List ℕ) → e ≡ Ok x → IsTrue (is_heading x)) → ((x : List ℕ) → f ≡ Ok x → IsTrue (is_heading x)) → ((x : List ℕ) → g ≡ Ok x → IsTrue (is_heading x)) → ((x : List ℕ) → h ≡ Ok x → IsTrue (is_heading x))
    → (a >>= λ s. b >>= λ t. c >>= λ u. d >>= λ v. e >>= λ w. f >>= λ x. g >>= λ y. h >>= λ z. Ok (s ∷ t ∷ u ∷ v ∷ w ∷ x ∷ y ∷ z ∷ [])) ≡ Ok texts → Eight texts
eight (Err o) b c d e f g h texts pa pb pc pd pe pf pg ph is = absurd (cc)
eight (Ok s) (Err o) c d e f g h texts pa pb pc pd pe pf pg ph is = absurd (cc)
eight (Ok s) (Ok t) (Err o) d e f g h texts pa pb pc pd pe pf pg ph is = absurd (cc)
eight (Ok s) (Ok t) (Ok u) (Err o) e f g h texts pa pb pc pd pe pf pg ph is = absurd (cc)
eight (Ok s) (Ok t) (Ok u) (Ok v) (Err o) f g h texts pa pb pc pd pe pf pg ph is = absurd (cc)
eight (Ok s) (Ok t) (Ok u) (Ok v) (Ok w) (Err o) g h texts pa pb pc pd pe pf pg ph is = absurd (cc)
eight (Ok s) (Ok t) (Ok u) (Ok v) (Ok w) (Ok x) (Err o) h texts pa pb pc pd pe pf pg ph is = absurd (cc)
eight (Ok s) (Ok t) (Ok u) (Ok v) (Ok w) (Ok x) (Ok y) (Err o) texts pa pb pc pd pe pf pg ph is = absurd (cc)
eight (Ok s) (Ok t) (Ok u) (Ok v) (Ok w) (Ok x) (Ok y) (Ok z) texts pa pb pc pd pe pf pg ph is =
    let same : s ∷ t ∷ u ∷ v ∷ w ∷ x ∷ y ∷ z ∷ [] ≡ texts = cc in
    subst Eight same (record { count = refl; forms = (pa s refl, (pb t refl, (pc u refl, (pd v refl, (pe w refl, (pf x refl, (pg y refl, (ph z refl, tt)))))))) })

headings_ok : (ms : Members) (texts : List (List ℕ)) → headings_field ms ≡ Ok texts → Eight texts
unfolding headings_field
headings_ok ms texts h =
    eight (heading_field ms Wsw) (heading_field ms Npw) (heading_field ms Rfw) (heading_field ms Cfw) (heading_field ms Mww) (heading_field ms Ffa) (heading_field ms Flw) (heading_field ms Fls) texts
    (heading_ok ms Wsw) (heading_ok ms Npw) (heading_ok ms Rfw) (heading_ok ms Cfw) (heading_ok ms Mww) (heading_ok ms Ffa) (heading_ok ms Flw) (heading_ok ms Fls) h

-- ---- zones

below_all : (k z : Place) (zs : List Place) → by_place k z ≡ Less → AllByRecursion (λ (y : Place). by_place z y ≡ Less) zs → AllByRecursion (λ (y : Place). by_place k y ≡ Less) zs
below_all k z [] h all = tt
below_all k z (y ∷ zs) h all = (by_place_total.trans k z y h all.0, below_all k z zs h all.1)

put_in_order : (e : Pair) (es : List Pair) (k : Place) (v : List ℕ) (o : Ordering) → by_place k e.0 ≡ o → IsStrictlySortedBy by_place (keys_of (e ∷ es)) → IsStrictlySortedBy by_place (keys_of (insert_entry by_place es k v))
    → IsStrictlySortedBy by_place (keys_of (match_ordering o ((k, v) ∷ e ∷ es) ((e.0, v) ∷ es) (e ∷ insert_entry by_place es k v)))
unfolding IsStrictlySortedBy
put_in_order e es k v Less is h more = ((is, below_all k e.0 (keys_of es) is h.0), h)
put_in_order e es k v Equal is h more = h
put_in_order e es k v Greater is h more =
    let first : by_place e.0 k ≡ Less = by_place_total.antisymm e.0 k ∙ ap ordering_reverse is in
    (recursion_from_All _ _ (All-keys-insert_entry by_place k v (λ (y : Place). by_place e.0 y ≡ Less) es (All-from_recursion _ (keys_of es) h.0) first), more)

-- an entry put in its place keeps the order
insert_in_order : (es : List Pair) (k : Place) (v : List ℕ) → IsStrictlySortedBy by_place (keys_of es) → IsStrictlySortedBy by_place (keys_of (insert_entry by_place es k v))
unfolding IsStrictlySortedBy
insert_in_order [] k v h = (tt, tt)
insert_in_order (e ∷ es) k v h = put_in_order e es k v (by_place k e.0) refl h (insert_in_order es k v h.1)

record ZonesOk (pairs : List Pair) : Type 0 where
  order : IsStrictlySortedBy by_place (keys_of pairs)
  places : All IsPlace (keys_of pairs)
  names : All (λ (n : List ℕ). IsTrue (is_zone_name n)) (values_of pairs)

pairs_ok : (ms : Members) (pairs : List Pair) → zone_pairs ms ≡ Some pairs → ZonesOk (in_order pairs)
unfolding IsStrictlySortedBy
pairs_ok no_members pairs h =
    let none : [] ≡ pairs = cc in
    subst (λ (ps : List Pair). ZonesOk (in_order ps)) none (record { order = tt; places = All-nil IsPlace; names = All-nil (λ (n : List ℕ). IsTrue (is_zone_name n)) })
pairs_ok (member k d ms) pairs h =
    let l = leads k d ms pairs h in
    let more = pairs_ok ms l.more l.behind in
    subst (λ (ps : List Pair). ZonesOk (in_order ps)) l.whole (record {
      order = insert_in_order (in_order l.more) l.zone l.name more.order;
      places = All-keys-insert_entry by_place l.zone l.name IsPlace (in_order l.more) more.places (code_parts k l.zone l.code).place;
      names = All-values-insert_entry by_place l.zone l.name (λ (n : List ℕ). IsTrue (is_zone_name n)) (in_order l.more) more.names (passed is_zone_name (as_str d) l.name l.named);
    })

record ZonesField (zones : List Pair) : Type 0 where
  some : 1 ≤ length zones
  few : length zones ≤ 2000
  forms : ZonesOk zones

zones_ok : (ms : Members) (zones : List Pair) → zones_field ms ≡ Ok zones → ZonesField zones
zones_ok ms zones h =
    let v = and_then_some (value_at key.Zones ms) zones_in zones (known_ok key.Zones _ zones h) in
    let ordered = option_map in_order (option_and_then zone_pairs (as_table v.0)) in
    let count = both (nat_le 1 (length zones)) (nat_le (length zones) 2000) (passed (λ (zs : List Pair). nat_le 1 (length zs) && nat_le (length zs) 2000) ordered zones v.2) in
    let found = and_then_some ordered few_zones zones v.2 in
    let pairs = map_some (option_and_then zone_pairs (as_table v.0)) in_order found.0 found.1 in
    let table = and_then_some (as_table v.0) zone_pairs pairs.0 pairs.1 in
    let same : found.0 ≡ zones = let t = if_some (nat_le 1 (length found.0) && nat_le (length found.0) 2000) (Some found.0) zones found.2 in cc in
    record {
      some = leb-true 1 (length zones) count.0;
      few = leb-true (length zones) 2000 count.1;
      forms = subst ZonesOk (pairs.2 ∙ same) (pairs_ok table.0 pairs.0 table.2);
    }

-- ---- the whole

-- the parts of what was read whole
record Parts {A B C D E F G : Type 0} (office : Result A SettingsFault) (site : Result B SettingsFault) (line : Result C SettingsFault) (zone : Result D SettingsFault) (desks : Result E SettingsFault) (headings : Result F SettingsFault) (zones : Result G SettingsFault)
    (make : A → B → C → D → E → F → G → Result Settings SettingsFault) (s : Settings) : Type 0 where
  a : A
  b : B
  c : C
  d : D
  e : E
  f : F
  g : G
  office_is : office ≡ Ok a
  site_is : site ≡ Ok b
  line_is : line ≡ Ok c
  desks_is : desks ≡ Ok e
  headings_is : headings ≡ Ok f
  zones_is : zones ≡ Ok g
  made : make a b c d e f g ≡ Ok s

parts : {A B C D E F G : Type 0} (office : Result A SettingsFault) (site : Result B SettingsFault) (line : Result C SettingsFault) (zone : Result D SettingsFault) (desks : Result E SettingsFault) (headings : Result F SettingsFault) (zones : Result G SettingsFault)
    (make : A → B → C → D → E → F → G → Result Settings SettingsFault) (s : Settings)
    → (office >>= λ a. site >>= λ b. line >>= λ c. zone >>= λ d. desks >>= λ e. headings >>= λ f. zones >>= λ g. make a b c d e f g) ≡ Ok s
    → Parts office site line zone desks headings zones make s
parts (Err o) site line zone desks headings zones make s h = absurd (cc)
parts (Ok a) (Err o) line zone desks headings zones make s h = absurd (cc)
parts (Ok a) (Ok b) (Err o) zone desks headings zones make s h = absurd (cc)
parts (Ok a) (Ok b) (Ok c) (Err o) desks headings zones make s h = absurd (cc)
parts (Ok a) (Ok b) (Ok c) (Ok d) (Err o) headings zones make s h = absurd (cc)
parts (Ok a) (Ok b) (Ok c) (Ok d) (Ok e) (Err o) zones make s h = absurd (cc)
parts (Ok a) (Ok b) (Ok c) (Ok d) (Ok e) (Ok f) (Err o) make s h = absurd (cc)
parts (Ok a) (Ok b) (Ok c) (Ok d) (Ok e) (Ok f) (Ok g) make s h =
    record { a = a; b = b; c = c; d = d; e = e; f = f; g = g; office_is = refl; site_is = refl; line_is = refl; desks_is = refl; headings_is = refl; zones_is = refl; made = h }

abbrev made_of : List ℕ → List ℕ → List ℕ → LocalZone → List (List ℕ) → List (List ℕ) → List Pair → Settings
made_of office site line zone desks headings zones = record { office = office; site = site; office_line = line; zone = zone; desks = desks; headings = headings; zones = zones; any_zone = false }

unless : (t : Bool) (f : SettingsFault) (x s : Settings) → cond t (Err f) (Ok x) ≡ Ok s → (t ≡ false) × (x ≡ s)
unless true f x s h = absurd (cc)
unless false f x s h = (refl, cc)

fields_ok : (ms : Members) (s : Settings) → fields_in ms ≡ Ok s → AreSettings s
unfolding fields_in
fields_ok ms s h =
    let p = parts (office_field ms) (site_field ms) (line_field ms) (zone_field ms) (desks_field ms) (headings_field ms) (zones_field ms)
    (λ office site line zone desks headings zones. unless_twice (made_of office site line zone desks headings zones)) s h in
    let u = unless (has_twice p.e) _ (made_of p.a p.b p.c p.d p.e p.f p.g) s p.made in
    let desks = desks_ok ms p.e p.desks_is in
    let headings = headings_ok ms p.f p.headings_is in
    let zones = zones_ok ms p.g p.zones_is in
    subst AreSettings u.1 (record {
      forms = record {
        office_form = passed is_office (text_at key.Office ms) p.a (known_ok key.Office _ p.a p.office_is);
        site_form = passed is_site (text_at key.Site ms) p.b (known_ok key.Site _ p.b p.site_is);
        line_form = passed is_office_line (text_at key.OfficeLine ms) p.c (known_ok key.OfficeLine _ p.c p.line_is);
        some_desk = desks.some;
        few_desks = desks.few;
        desk_forms = desks.forms;
        desks_once = once p.e u.0;
        eight = headings.count;
        heading_forms = All-from_recursion (λ (h : List ℕ). IsTrue (is_heading h)) p.f headings.forms;
        zone_order = zones.forms.order;
        zone_forms = zones.forms.places;
        name_forms = zones.forms.names;
      };
      some_zone = zones.some;
      few_zones = zones.few;
      named_alone = refl;
    })

whole_ok : (o : Option Key) (r : Result Settings SettingsFault) (s : Settings) → if_whole o r ≡ Ok s → r ≡ Ok s
whole_ok None r s h = h
whole_ok (Some k) r s h = absurd (cc)

then_ok : (o : Option Members) (s : Settings) → (ok_or o NotToml >>= settings_in) ≡ Ok s → (ms : Members) × (settings_in ms ≡ Ok s)
then_ok None s h = absurd (cc)
then_ok (Some ms) s h = (ms, h)

unless_long : (t : Bool) (f : SettingsFault) (r : Result Settings SettingsFault) (s : Settings) → cond t (Err f) r ≡ Ok s → r ≡ Ok s
unless_long true f r s h = absurd (cc)
unless_long false f r s h = h

pub accepted : (bytes : List ℕ) (s : Settings) → settings_of bytes ≡ Ok s → AreSettings s
unfolding settings_of settings_in
accepted bytes s h =
    let ms = then_ok (table_of bytes) s (unless_long (nat_lt 1048576 (length bytes)) _ _ s h) in
    fields_ok ms.0 s (whole_ok (missing_key ms.0) (fields_in ms.0) s ms.1)

-- what is given has the forms
pub forms_given : (r : Result Settings (Or SettingsFault)) (ms : Members) → Gives r (settings_in ms) → IfOk r AreSettings
unfolding settings_in
forms_given (Ok s) ms h = fields_ok ms s (whole_ok (missing_key ms) (fields_in ms) s h)
forms_given (Err e) ms h = tt
