-- What a request makes that breaks no rule on its desk, its draft and its parts is sound.
use Rattle.std.proofs.Common.{◌≡◌, ◌&&◌, ◌||◌, not, ℕ, zero, suc, ℤ, Bool, true, false, List, [], ◌∷◌, Option, Some, None, refl, subst, arith, cond, codes, find, is_none, is_some, map, option_map, slice_get, IfSome}
use Rattle.std.proofs.lemmas.Bool.{and_from}
use Rattle.std.proofs.lemmas.List.Elements.{All-from_recursion, recursion_from_All}
use Rattle.std.specs.List.{All, AllByRecursion, list_all}
use Rattle.std.specs.Option.{option_or}
use Rattle.hazard_types.specs.Characters.{is_printable}
use Rattle.hazard_types.specs.Hazards.{facts_of}
use Rattle.hazard_types.specs.Places.{Place}
use Rattle.hazard_types.specs.declared.codes.Category.{Category}
use Rattle.hazard_types.specs.declared.facts.Facts.{Facts}
use Rattle.hazard_types.specs.declared.line.Flood.{Flood}
use Rattle.office_types.specs.declared.refusal.Refusal.{Refusal}
use Rattle.office_types.specs.declared.refusal.Refusal.TheVariants as refusal
use Rattle.office_types.specs.declared.request.Draft.{Draft}
use Rattle.office_types.specs.declared.request.EventTexts.{EventTexts}
use Rattle.office_types.specs.declared.request.Intent.{Intent}
use Rattle.office_types.specs.declared.request.Intent.TheVariants as intent
use Rattle.office_types.specs.declared.request.Request.{Request}
use Rattle.office_types.specs.declared.request.Request.TheVariants.{Issue, Begin, Put, Finish, Restate, Routine, Drop, Take, Discard, Send, Correct}
use Rattle.office_types.specs.declared.request.Sent.{Sent}
use Rattle.office_types.specs.declared.request.Target.{Target}
use Rattle.office_types.specs.declared.request.Target.TheVariants.{Fresh, Join}
use Rattle.office_types.specs.declared.request.Texts.{Texts}
use Rattle.hazard_types.proofs.Equality.{category_itself}
use Rattle.desk_settings.specs.Looking.{name_for_zone}
use Rattle.event_numbers.specs.declared.Count.{Count}
use Rattle.action_planner.specs.Fitting.{are_of_kind, is_valid_zone_list, fits, fits_target, of_other_kind, opens_with}
use Rattle.action_planner.specs.Placed.{zones_of}
use Rattle.action_planner.specs.Texts.{texts_of}
use Rattle.action_planner.specs.Told.{flood_of, passes}
use Rattle.action_planner.proofs.FittingLemmas.{hold_Decides}
use Rattle.action_planner.proofs.LawfulLists.{all_weaker, find_none}
use Rattle.action_planner.proofs.LawfulPlaced.{given_none, map_none}
use Rattle.product_template.specs.Bodies.{is_training}
use Rattle.product_template.specs.Conditions.{ArePrintable}
use Rattle.request_json.specs.Formed.{AreFloodValues, HasRequestForm, IsFresh}
use Rattle.office_core.specs.Making.{corrected_by, making_of, opening_of}
use Rattle.office_core.specs.Requests.{draft_of, hazard_of, hazard_of_target, intent_of}
use Rattle.office_core.specs.Rules.{bad_zones, broken_draft, broken_number, broken_part, broken_request, draft_rules, first_of_two, found_draft, is_of_category, is_of_category_by, is_repeated, is_unknown_zone, minute_of, number_rules, part_rules, unknown_desk, unknown_zone, wrong_kind}
use Rattle.office_core.specs.Sound.{IsNamed, IsPrintable, IsSound, IsSoundIntent, IsSoundMaking, IsSoundProduct, has_location}
use Rattle.office_core.specs.State.{State, product_at, product_in}
use Rattle.office_core.specs.Writing.{bad_at, bad_text, first_field, first_texts, is_doubled}
use Rattle.office_core.proofs.SoundFirst.{drafts_are}

-- ---- rules that are not broken

else_none : {X : Type 0} (b : Bool) (x y : Option X) → b ≡ false → cond b x y ≡ None → y ≡ None
else_none true x y e h = cc
else_none false x y e h = h

two_none : (a b : Option Refusal) → first_of_two a b ≡ None → (a ≡ None) × (b ≡ None)
two_none None b h = (refl, h)
two_none (Some x) b h = cc

or_none : {X : Type 0} (a b : Option X) → option_or a b ≡ None → (a ≡ None) × (b ≡ None)
or_none None b h = (refl, h)
or_none (Some x) b h = cc

-- a rule that names a refusal where its test fails
pub passed : (b : Bool) (x : Refusal) → cond b None (Some x) ≡ None → b ≡ true
passed true x h = refl
passed false x h = cc

abbrev pub IsUnbroken : Option Refusal → Type 0
IsUnbroken x = x ≡ None

-- none of the rules is broken
pub record KeepsRules (s : State) (desk : List ℕ) (seq : ℕ) (r : Request) (reading : ℤ) : Type 0 where
  pub number : AllByRecursion IsUnbroken (number_rules s desk seq reading)
  pub draft : AllByRecursion IsUnbroken (draft_rules s desk r (minute_of s reading) (found_draft s (draft_of r)))
  pub part : AllByRecursion IsUnbroken (part_rules s r (found_draft s (draft_of r)))

pub keeps_rules : (s : State) (desk : List ℕ) (seq : ℕ) (r : Request) (reading : ℤ) → is_repeated s desk seq r ≡ false → broken_request s desk seq r reading ≡ None → KeepsRules s desk seq r reading
unfolding broken_request broken_number broken_draft broken_part
keeps_rules s desk seq r reading new none =
    let d = found_draft s (draft_of r) in
    let t = minute_of s reading in
    let all = else_none (is_repeated s desk seq r) (unknown_desk s desk) (first_of_two (broken_number s desk seq reading) (first_of_two (broken_draft s desk r t d) (broken_part s r d))) new none in
    let one = two_none (broken_number s desk seq reading) (first_of_two (broken_draft s desk r t d) (broken_part s r d)) all in
    let two = two_none (broken_draft s desk r t d) (broken_part s r d) one.1 in
    record {
      number = given_none (number_rules s desk seq reading) one.0;
      draft = given_none (draft_rules s desk r t d) two.0;
      part = given_none (part_rules s r d) two.1;
    }

-- ---- texts

bad_step : (printable doubled : Bool) (rest : Option ℕ) → cond (not printable || doubled) (Some 0) (option_map suc rest) ≡ None → (printable ≡ true) × (rest ≡ None)
bad_step true true rest h = cc
bad_step true false None h = (refl, refl)
bad_step true false (Some n) h = cc
bad_step false doubled rest h = cc

all_printable : (text : List ℕ) → bad_at text ≡ None → list_all is_printable text ≡ true
all_printable [] h = refl
all_printable (c ∷ rest) h = let p = bad_step (is_printable c) (is_doubled c rest) (bad_at rest) h in and_from (is_printable c) (list_all is_printable rest) p.0 (all_printable rest p.1)

not_bad : (field text : List ℕ) → bad_text field text ≡ None → list_all is_printable text ≡ true
not_bad field text h = all_printable text (map_none (λ at. refusal.BadText field at) (bad_at text) h)

printable : (t : Texts) → first_field bad_text t ≡ None → IsPrintable t
printable t h =
    let details = bad_text (codes "details") t.details in
    let impacts = bad_text (codes "impacts") t.impacts in
    let area = bad_text (codes "area") t.area in
    let one = or_none (bad_text (codes "what") t.what) (option_or area (option_or impacts details)) h in
    let two = or_none area (option_or impacts details) one.1 in
    let three = or_none impacts details two.1 in
    record {
      what = not_bad (codes "what") t.what one.0;
      area = not_bad (codes "area") t.area two.0;
      impacts = not_bad (codes "impacts") t.impacts three.0;
      details = not_bad (codes "details") t.details three.1;
    }

each_printable : (texts : List Texts) → first_texts bad_text texts ≡ None → AllByRecursion IsPrintable texts
each_printable [] h = tt
each_printable (t ∷ texts) h = let p = or_none (first_field bad_text t) (first_texts bad_text texts) h in (printable t p.0, each_printable texts p.1)

given_printable : (given : List EventTexts) → AllByRecursion IsPrintable (map (λ (x : EventTexts). x.texts) given) → AllByRecursion ArePrintable given
given_printable [] all = tt
given_printable (x ∷ given) all = (record { what = all.0.what; area = all.0.area; impacts = all.0.impacts; details = all.0.details }, given_printable given all.1)

-- ---- intents

fits_put : (c : Category) (target : Target) (zones : List Place) → is_of_category_by c target ≡ true → are_of_kind (facts_of (hazard_of_target target)) zones ≡ true → fits_target c target zones ≡ true
fits_put c (Fresh h) zones own kind = and_from _ _ own kind
fits_put c (Join e) zones own kind = and_from _ _ own kind

fits_by : (c : Category) (i : Intent) → is_of_category c i ≡ true → are_of_kind (facts_of (hazard_of i)) (zones_of i) ≡ true → fits c i ≡ true
fits_by c (intent.Put part) own kind = fits_put c part.target part.zones own kind
fits_by c (intent.Finish part) own kind = and_from _ _ own kind
fits_by c (intent.Restate part) own kind = and_from _ _ own kind
fits_by c (intent.Routine part) own kind = and_from _ _ own kind

none_is : (o : Option Place) → o ≡ None → is_none o ≡ true
none_is None h = refl
none_is (Some z) h = cc

named_by : (any training : Bool) (name : Option (List ℕ)) → (any ≡ true → training ≡ true) → (not any && is_none name) ≡ false → training ≡ false → is_some name ≡ true
named_by true training name only h plain = let e = only refl in cc
named_by false training None only h plain = cc
named_by false training (Some n) only h plain = refl

module _ (s : State) (counts : List Count) (sound : IsSound s counts) where
  -- an intent of the category of which no rule is broken
  pub allowed : (c : Category) (i : Intent) → unknown_zone s.settings (Some i) ≡ None → wrong_kind (Some i) ≡ None → is_of_category c i ≡ true → first_texts bad_text (texts_of i ∷ []) ≡ None → bad_zones (Some i) ≡ None →
      passes has_location (flood_of i) ≡ true → IsSoundIntent s.settings s.class c i
  allowed c i zones kind own texts list located =
      let known = find_none (is_unknown_zone s.settings) (zones_of i) (map_none (λ (z : Place). refusal.UnknownZone z) (find (is_unknown_zone s.settings) (zones_of i)) zones) in
      let same = none_is (find (of_other_kind (facts_of (hazard_of i))) (zones_of i)) (map_none (λ (z : Place). refusal.WrongZoneKind z) (find (of_other_kind (facts_of (hazard_of i))) (zones_of i)) kind) in
      record {
        fits = (hold_Decides c i).0 (and_from (fits c i) (is_valid_zone_list (zones_of i)) (fits_by c i own same) (passed (is_valid_zone_list (zones_of i)) refusal.BadZoneList list));
        named = All-from_recursion (IsNamed s.settings s.class) (zones_of i)
            (all_weaker (λ (z : Place). is_unknown_zone s.settings z ≡ false) (IsNamed s.settings s.class) (λ z h. named_by s.settings.any_zone (is_training s.class) (name_for_zone s.settings.zones z) sound.training h) (zones_of i) known);
        located = located;
        printable = (each_printable (texts_of i ∷ []) texts).0;
      }

put_located : (flood : Option Flood) → IfSome flood AreFloodValues → passes has_location flood ≡ true
put_located None v = refl
put_located (Some flood) v = v.site

-- the values of a request's intent have a location of its form
pub located_in : (r : Request) → HasRequestForm r → IfSome (intent_of r) (λ (i : Intent). passes has_location (flood_of i) ≡ true)
located_in (Issue part) form = put_located part.flood form.0.flood
located_in (Begin category) form = tt
located_in (Put id part) form = put_located part.flood form.1.flood
located_in (Finish id part) form = refl
located_in (Restate id part) form = refl
located_in (Routine id part) form = refl
located_in (Drop id place) form = tt
located_in (Take id) form = tt
located_in (Discard id) form = tt
located_in (Send id) form = tt
located_in (Correct number given) form = tt

-- ---- what is made

opens_itself : (o : Option Facts) → cond (is_none o) (Some refusal.UnknownHazard) None ≡ None → opens_with (opening_of o) o ≡ true
opens_itself None h = cc
opens_itself (Some facts) h = category_itself facts.opens

issue_of : (target : Target) → IsFresh target → cond (is_none (facts_of (hazard_of_target target))) (Some refusal.UnknownHazard) None ≡ None → is_of_category_by (opening_of (facts_of (hazard_of_target target))) target ≡ true
issue_of (Fresh h) fresh known = opens_itself (facts_of h) known
issue_of (Join e) fresh known = absurd fresh

slice_one : (P : Sent → Type 0) (products : List Sent) (n : ℕ) (sent : Sent) → AllByRecursion P products → slice_get products n ≡ Some sent → P sent
slice_one P [] n sent all h = cc
slice_one P (first ∷ products) zero sent all h = let same : first ≡ sent = cc in subst P same all.0
slice_one P (first ∷ products) (suc n) sent all h = slice_one P products n sent all.1 h

-- what holds of each product holds of the one with a number
pub product_one : (P : Sent → Type 0) (products : List Sent) (number : ℕ) (sent : Sent) → AllByRecursion P products → product_in products number ≡ Some sent → P sent
product_one P products zero sent all h = cc
product_one P products (suc n) sent all h = slice_one P products n sent all h

corrected : (s : State) (given : List EventTexts) (o : Option Sent) → All ArePrintable given → ((sent : Sent) → o ≡ Some sent → IsSoundProduct sent) → IsSoundMaking s (corrected_by given o)
corrected s given None texts own = tt
corrected s given (Some sent) texts own = (own sent refl, texts)

module _ (s : State) (counts : List Count) (sound : IsSound s counts) where
  makes : (r : Request) (d : Option Draft) → HasRequestForm r → AllByRecursion IsUnbroken (part_rules s r d) → IsSoundMaking s (making_of s r)
  makes (Issue part) d form kept =
      let i : Intent = intent.Put part in
      let c : Category = opening_of (facts_of (hazard_of i)) in
      let own : is_of_category c i ≡ true = issue_of part.target form.1 kept.1.0 in
      let one : IsSoundIntent s.settings s.class c i = allowed s counts sound c i kept.0 kept.1.1.0 own kept.1.1.1.1.0 kept.1.1.1.1.1.1.0 (located_in (Issue part) form) in
      record { few = omega arith; each = All-from_recursion (IsSoundIntent s.settings s.class c) (i ∷ []) (one, tt) }
  makes (Begin category) d form kept = tt
  makes (Put id part) d form kept = tt
  makes (Finish id part) d form kept = tt
  makes (Restate id part) d form kept = tt
  makes (Routine id part) d form kept = tt
  makes (Drop id place) d form kept = tt
  makes (Take id) d form kept = tt
  makes (Discard id) d form kept = tt
  makes (Send id) d form kept = drafts_are s counts id sound
  makes (Correct number given) d form kept =
      corrected s given (product_at s number) (All-from_recursion ArePrintable given (given_printable given (each_printable (map (λ (x : EventTexts). x.texts) given) kept.1.1.1.1.0)))
      (λ sent h. product_one IsSoundProduct s.products number sent (recursion_from_All IsSoundProduct s.products sound.products) h)

pub making_is : (s : State) (counts : List Count) (desk : List ℕ) (seq : ℕ) (r : Request) (reading : ℤ) → IsSound s counts → HasRequestForm r → is_repeated s desk seq r ≡ false → broken_request s desk seq r reading ≡ None →
    IsSoundMaking s (making_of s r)
making_is s counts desk seq r reading sound form new none = makes s counts sound r (found_draft s (draft_of r)) form (keeps_rules s desk seq r reading new none).part
