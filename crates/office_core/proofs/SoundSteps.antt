-- After an accepted request the state is sound still.
use Rattle.std.proofs.Common.{◌≡◌, ◌∙◌, ◌&&◌, ◌++◌, ◌+◌, ◌<◌, ◌≤◌, ℕ, ℤ, pos, negsuc, Bool, true, false, List, [], ◌∷◌, Option, Some, None, refl, sym, ap, subst, arith, cond, drop, find, length, length-append, length-drop, length-take, map, max, nat_abs, nat_le, option_map, int_lt, take}
use Rattle.std.proofs.lemmas.Bool.{leb-false, ltb-false, or_parts}
use Rattle.std.proofs.lemmas.List.Elements.{All-append, All-drop, All-from_recursion, All-nil, All-push, All-take, recursion_from_All}
use Rattle.std.specs.List.{All, AllByRecursion, AllPairs, count_by}
use Rattle.std.specs.List.Sorted.{IsStrictlySortedBy}
use Rattle.std.specs.Option.{option_or}
use Rattle.std.specs.Str.{bytes_eq}
use Rattle.hazard_types.specs.declared.codes.Action.{Action}
use Rattle.hazard_types.specs.declared.codes.Action.TheVariants.{Can, Con, Cor, Exp, Ext, Upg}
use Rattle.hazard_types.specs.declared.codes.Category.{Category}
use Rattle.hazard_types.specs.declared.codes.Class.{Class}
use Rattle.hazard_types.specs.declared.hazard.Event.{Event}
use Rattle.hazard_types.specs.declared.hazard.Hazard.{Hazard}
use Rattle.hazard_types.specs.declared.line.Flood.{Flood}
use Rattle.hazard_types.specs.declared.line.Line.{Line}
use Rattle.hazard_types.specs.declared.line.Row.{Row}
use Rattle.office_types.specs.declared.refusal.Refusal.{Refusal}
use Rattle.office_types.specs.declared.refusal.Refusal.TheVariants as refusal
use Rattle.office_types.specs.declared.request.Draft.{Draft}
use Rattle.office_types.specs.declared.request.EventTexts.{EventTexts}
use Rattle.office_types.specs.declared.request.Intent.{Intent}
use Rattle.office_types.specs.declared.request.Intent.TheVariants as intent
use Rattle.office_types.specs.declared.request.Plan.{Plan}
use Rattle.office_types.specs.declared.request.Request.{Request}
use Rattle.office_types.specs.declared.request.Request.TheVariants.{Issue, Begin, Put, Finish, Restate, Routine, Drop, Take, Discard, Send, Correct}
use Rattle.office_types.specs.declared.request.Sent.{Sent}
use Rattle.desk_settings.specs.declared.settings.Settings.{Settings}
use Rattle.event_life.specs.declared.life.Life.{Life}
use Rattle.event_life.specs.Products.{by_key, life_of, row_after, row_at, rows_after}
use Rattle.event_life.specs.Reordered.{are_lawful}
use Rattle.event_life.specs.Table.{flood_after, life_after_line, life_after_lawful_line}
use Rattle.event_life.proofs.LawfulLemmas.{touches}
use Rattle.event_life.proofs.Puts.{at_key, rows_after-sorted}
use Rattle.event_numbers.specs.declared.Count.{Count}
use Rattle.event_numbers.specs.Counts.{DrawsAll, count_of, is_of}
use Rattle.action_planner.specs.Conditions.{CanPlan}
use Rattle.action_planner.specs.Corrections.{corrected_lines}
use Rattle.action_planner.specs.Lines.{planned_lines}
use Rattle.action_planner.specs.Offences.{broken}
use Rattle.action_planner.specs.Placed.{Placed, placed}
use Rattle.action_planner.specs.Plans.{IsPlan}
use Rattle.action_planner.specs.Standing.{Stands}
use Rattle.action_planner.specs.Texts.{texts_of}
use Rattle.action_planner.specs.Told.{counts_in, flood_of, passes}
use Rattle.action_planner.proofs.AfterLemmas.{all_after}
use Rattle.action_planner.proofs.CorrectionLemmas.{corrected_distinct, corrected_lawful, corrections_keep}
use Rattle.action_planner.proofs.Lawful.{planned_distinct, planned_lawful}
use Rattle.action_planner.proofs.LawfulLines.{found_has}
use Rattle.action_planner.proofs.LawfulLists.{all_both, all_has, all_kept, all_weaker}
use Rattle.action_planner.proofs.Standing.{later, plans_keep}
use Rattle.action_planner.proofs.ToldLemmas.{rows_tell_places}
use Rattle.product_template.specs.Conditions.{ArePrintable}
use Rattle.request_json.specs.Formed.{HasRequestForm}
use Rattle.office_core.specs.Making.{Making, IsPlanOf, broken_lines, broken_product, last_of_category, letters_of, made_of, making_of, original_of, products_full, sent_of, text_too_long}
use Rattle.office_core.specs.Prepared.{draws}
use Rattle.office_core.specs.Rules.{bad_zones, draft_rules, found_draft, intents_full, is_of_category, is_out, minute_of, part_rules, unknown_zone, wrong_category, wrong_kind}
use Rattle.office_core.specs.Requests.{draft_of}
use Rattle.office_core.specs.Sound.{AreSoundIntents, IsNamed, IsSound, IsSoundDraft, IsSoundIntent, IsSoundMaking, IsSoundProduct, IsSoundRow, has_location}
use Rattle.office_core.specs.State.{State, draft_at, is_draft}
use Rattle.office_core.specs.Step.{Accepts, IsMade, drafts_after, entry_of, heard_after, products_with, rows_with_made, state_after, taken_by, with_draft, with_intent, without_draft, without_intent}
use Rattle.office_core.specs.Writing.{bad_text, first_texts}
use Rattle.office_core.specs.declared.heard.DeskRecord.{DeskRecord}
use Rattle.office_core.specs.declared.heard.LastRequest.{LastRequest}
use Rattle.office_core.specs.declared.made.Made.{Made}
use Rattle.office_core.proofs.SoundPlans.{can_plan, corrected_pass, corrected_zones, may_be_written, planned_pass, planned_zones}
use Rattle.office_core.proofs.SoundRequests.{IsUnbroken, allowed, keeps_rules, located_in, making_is, passed}

-- ---- the minute

free : (b : Bool) (x : Refusal) → cond b (Some x) None ≡ None → b ≡ false
free true x h = cc
free false x h = refl

-- the later of a reading that is not out and the last minute
in_order : (last : ℕ) (reading : ℤ) → last ≤ 52000000 → is_out reading ≡ false → (last ≤ max (nat_abs reading) last) × (max (nat_abs reading) last ≤ 52000000)
in_order last (pos n) le h =
    let few : n ≤ 52000000 = ltb-false 52000000 n (or_parts (int_lt (pos n) (pos 0)) (int_lt (pos 52000000) (pos n)) h).1 in
    (omega arith, omega (arith, few, le))
in_order last (negsuc n) le h = cc

-- ---- desks

desks_step : (b : Bool) (h : DeskRecord) (heard : List DeskRecord) (desk : List ℕ) (said : LastRequest) → map (λ (x : DeskRecord). x.desk) (heard_after heard desk said) ≡ map (λ (x : DeskRecord). x.desk) heard →
    map (λ (x : DeskRecord). x.desk) (cond b (record { desk = h.desk; said = Some said } ∷ heard) (h ∷ heard_after heard desk said)) ≡ h.desk ∷ map (λ (x : DeskRecord). x.desk) heard
desks_step true h heard desk said more = refl
desks_step false h heard desk said more = ap (λ (rest : List (List ℕ)). h.desk ∷ rest) more

same_desks : (heard : List DeskRecord) (desk : List ℕ) (said : LastRequest) → map (λ (x : DeskRecord). x.desk) (heard_after heard desk said) ≡ map (λ (x : DeskRecord). x.desk) heard
same_desks [] desk said = refl
same_desks (h ∷ heard) desk said = desks_step (bytes_eq h.desk desk) h heard desk said (same_desks heard desk said)

-- ---- rows

flood_passes : (old new : Option Flood) → passes has_location old ≡ true → passes has_location new ≡ true → passes has_location (flood_after old new) ≡ true
flood_passes None new was own = own
flood_passes (Some old) None was own = was
flood_passes (Some old) (Some new) was own = own

left_passes : (a : Action) (life : Life) (line : Line) (t : ℕ) → passes has_location life.flood ≡ true → passes has_location line.flood ≡ true → passes has_location (life_after_line a life line t).flood ≡ true
left_passes Con life line t was own = flood_passes life.flood line.flood was own
left_passes Cor life line t was own = flood_passes life.flood line.flood was own
left_passes Ext life line t was own = flood_passes life.flood line.flood was own
left_passes Can life line t was own = flood_passes life.flood line.flood was own
left_passes Exp life line t was own = flood_passes life.flood line.flood was own
left_passes Upg life line t was own = flood_passes life.flood line.flood was own
left_passes _ life line t was own = own

life_passes : (o : Option Row) (line : Line) (t : ℕ) → ((row : Row) → o ≡ Some row → passes has_location row.flood ≡ true) → passes has_location line.flood ≡ true → passes has_location (life_after_lawful_line (option_map life_of o) line t).flood ≡ true
unfolding life_after_lawful_line
life_passes None line t was own = own
life_passes (Some row) line t was own = left_passes line.action (life_of row) line t (was row refl) own

module _ (settings : Settings) (class : Class) (rows : List Row) (sound : AllByRecursion (IsSoundRow settings class) rows) where
  -- the row that a line of such a zone, with such values, leaves
  row_sound : (t : ℕ) (line : Line) → IsNamed settings class line.zone → passes has_location line.flood ≡ true → IsSoundRow settings class (row_after rows t line)
  row_sound t line named own = record {
    named = named;
    located = life_passes (row_at rows line.event line.zone) line t (λ row h. (all_has (IsSoundRow settings class) rows row sound (found_has (at_key line.event line.zone) rows row h)).located) own;
  }

  rows_sound : (t : ℕ) (lines : List Line) → are_lawful rows t lines ≡ true → AllByRecursion (λ (line : Line). IsNamed settings class line.zone) lines → AllByRecursion (λ (line : Line). passes has_location line.flood ≡ true) lines →
      All (IsSoundRow settings class) (rows_after rows t lines)
  rows_sound t lines lawful named own =
      let N : Line → Type 0 = λ line. IsNamed settings class line.zone in
      let L : Line → Type 0 = λ line. passes has_location line.flood ≡ true in
      let R : Line → Type 0 = λ line. IsSoundRow settings class (row_after rows t line) in
      All-from_recursion (IsSoundRow settings class) (rows_after rows t lines)
      (all_after (IsSoundRow settings class) rows t lines lawful sound (all_kept R touches lines (all_weaker (λ line. N line × L line) R (λ line both. row_sound t line both.0 both.1) lines (all_both N L lines named own))))

-- ---- counts

-- counts that tell the same
recounted : (rows : List Row) (counts after : List Count) (t : ℕ) → ((h : Hazard) (year : ℕ) → count_of after h year ≡ count_of counts h year) → Stands rows counts t → Stands rows after t
recounted rows counts after t same stands = record {
  consistent = stands.consistent;
  behind = stands.behind;
  numbered = λ e. stands.numbered e ∙ ap (λ (n : ℕ). nat_le 1 e.etn && nat_le e.etn n) (sym (same e.hazard e.year));
  digits = λ h year. subst (λ (n : ℕ). n ≤ 9999) (sym (same h year)) (stands.digits h year);
  sited = stands.sited;
  known = stands.known;
}

none_drawn : (counts after : List Count) (events : List Event) → events ≡ [] → DrawsAll counts after events → (h : Hazard) (year : ℕ) → count_of after h year ≡ count_of counts h year
none_drawn counts after events is drawn h year =
    let none : count_of after h year ≡ count_of counts h year + count_by (is_of h year) [] = subst (λ (es : List Event). count_of after h year ≡ count_of counts h year + count_by (is_of h year) es) is (drawn h year) in
    omega (arith, none)

-- ---- the product

-- what is kept of the rows, the numbers and the products
pub record StaysSound (s : State) (t : ℕ) (after : List Count) (made : Option Made) : Type 0 where
  pub order : IsStrictlySortedBy by_key (rows_with_made s.rows t made)
  pub stands : Stands (rows_with_made s.rows t made) after t
  pub rows : All (IsSoundRow s.settings s.class) (rows_with_made s.rows t made)
  pub most : length (products_with s.products made) ≤ 8192
  pub products : All IsSoundProduct (products_with s.products made)

or_last : {X : Type 0} (a b : Option X) → option_or a b ≡ None → b ≡ None
or_last None b h = h
or_last (Some x) b h = cc

room : (s : State) (t : ℕ) (plan : Plan) → broken_product s t plan ≡ None → length s.products < 8192
unfolding broken_product
room s t plan h =
    let n = length s.products in
    leb-false 8192 n (free (nat_le 8192 n) refusal.ProductsFull (or_last (text_too_long (length (Rattle.product_template.specs.Text.text_of s.settings s.class plan t s.edition))) (products_full s) h))

module _ (s : State) (counts after : List Count) (t : ℕ) (sound : IsSound s counts) (le : s.last ≤ t) (most : t ≤ 52000000) where
  stays_none : after ≡ counts → StaysSound s t after None
  stays_none same = record {
    order = sound.order;
    stands = subst (λ (cs : List Count). Stands s.rows cs t) (sym same) (later s.rows counts s.last t le sound.stands);
    rows = sound.rows;
    most = sound.most;
    products = sound.products;
  }

  stays_with : (making : Making) (plan : Plan) → broken_product s t plan ≡ None → AllPairs (λ (l m : Line). ¬ ((l.event ≡ m.event) × (l.zone ≡ m.zone))) plan.lines → All ArePrintable plan.texts →
      Stands (rows_after s.rows t plan.lines) after t → All (IsSoundRow s.settings s.class) (rows_after s.rows t plan.lines) → StaysSound s t after (Some (made_of s t making plan))
  stays_with making plan none apart texts stands rows =
      let longer : length (s.products ++ sent_of s t making plan ∷ []) ≡ length s.products + 1 = length-append s.products (sent_of s t making plan ∷ []) in
      let few : length s.products < 8192 = room s t plan none in
      record {
        order = rows_after-sorted s.rows t plan.lines sound.order;
        stands = stands;
        rows = rows;
        most = omega (arith, longer, few);
        products = All-push IsSoundProduct s.products (sent_of s t making plan) sound.products (record { apart = apart; printable = texts });
      }

  module _ (c : Category) (intents : List Intent) (own : AreSoundIntents s.settings s.class c intents) (plan : Plan) where
    stays_planned : broken c s.rows t (placed counts t intents) ≡ None → IsPlan c s.rows t (placed counts t intents) plan → broken_product s t plan ≡ None → All ArePrintable plan.texts → DrawsAll counts after plan.opened →
        StaysSound s t after (Some (made_of s t (Making.drafted c intents) plan))
    stays_planned h is none texts drawn =
        let ps = placed counts t intents in
        let lines = planned_lines c s.rows t ps in
        let can : CanPlan s.rows counts c intents t = can_plan s counts t c intents sound le most own in
        let stands : Stands s.rows counts t = later s.rows counts s.last t le sound.stands in
        let lawful : are_lawful s.rows t lines ≡ true = planned_lawful c s.rows counts intents t can sound.order h in
        let rows : All (IsSoundRow s.settings s.class) (rows_after s.rows t lines) = rows_sound s.settings s.class s.rows (recursion_from_All (IsSoundRow s.settings s.class) s.rows sound.rows) t lines lawful
        (recursion_from_All (λ (line : Line). IsNamed s.settings s.class line.zone) lines (planned_zones s counts t sound le most c intents own))
        (recursion_from_All (λ (line : Line). passes has_location line.flood ≡ true) lines (planned_pass s counts t sound le most c intents own)) in
        stays_with (Making.drafted c intents) plan none
        (subst (AllPairs (λ (l m : Line). ¬ ((l.event ≡ m.event) × (l.zone ≡ m.zone)))) (sym is.lines) (planned_distinct c s.rows counts intents t can sound.order h))
        texts
        (subst (λ (ls : List Line). Stands (rows_after s.rows t ls) after t) (sym is.lines) (plans_keep c s.rows counts after intents t can stands sound.order h (subst (DrawsAll counts after) is.opened drawn)))
        (subst (λ (ls : List Line). All (IsSoundRow s.settings s.class) (rows_after s.rows t ls)) (sym is.lines) rows)

    stays_drafted : broken_lines s t (Making.drafted c intents) ≡ None → IsPlanOf s t (Making.drafted c intents) plan → broken_product s t plan ≡ None → DrawsAll counts after plan.opened →
        StaysSound s t after (Some (made_of s t (Making.drafted c intents) plan))
    unfolding broken_lines
    stays_drafted h is none drawn =
        let told : placed (counts_in s.rows) t intents ≡ placed counts t intents = rows_tell_places s.rows counts intents t sound.stands.numbered in
        stays_planned (subst (λ (ps : List Placed). broken c s.rows t ps ≡ None) told h) (subst (λ (ps : List Placed). IsPlan c s.rows t ps plan) told is) none
        (may_be_written s counts t (Making.drafted c intents) plan sound le most own h is).texts drawn

  module _ (sent : Sent) (given : List EventTexts) (own : IsSoundProduct sent) (texts : All ArePrintable given) (plan : Plan) where
    stays_corrected : broken_lines s t (Making.corrected sent given) ≡ None → IsPlanOf s t (Making.corrected sent given) plan → broken_product s t plan ≡ None → DrawsAll counts after plan.opened →
        StaysSound s t after (Some (made_of s t (Making.corrected sent given) plan))
    unfolding broken_lines
    stays_corrected h is none drawn =
        let lines = corrected_lines s.rows t sent.lines in
        let stands : Stands s.rows counts t = later s.rows counts s.last t le sound.stands in
        let lawful : are_lawful s.rows t lines ≡ true = corrected_lawful s.rows t sent.lines stands.consistent.ends own.apart in
        let rows : All (IsSoundRow s.settings s.class) (rows_after s.rows t lines) = rows_sound s.settings s.class s.rows (recursion_from_All (IsSoundRow s.settings s.class) s.rows sound.rows) t lines lawful
        (corrected_zones s counts t sound le most sent given own texts)
        (recursion_from_All (λ (line : Line). passes has_location line.flood ≡ true) lines (corrected_pass s counts t sound le most sent given own texts)) in
        let kept : Stands (rows_after s.rows t lines) counts t = corrections_keep s.rows counts sent (last_of_category s.products sent.category) (letters_of s.products (original_of sent)) given t stands sound.order own.apart h in
        stays_with (Making.corrected sent given) plan none
        (subst (AllPairs (λ (l m : Line). ¬ ((l.event ≡ m.event) × (l.zone ≡ m.zone)))) (sym is.lines) (corrected_distinct s.rows t sent.lines own.apart))
        (may_be_written s counts t (Making.corrected sent given) plan sound le most (own, texts) h is).texts
        (subst (λ (ls : List Line). Stands (rows_after s.rows t ls) after t) (sym is.lines) (recounted (rows_after s.rows t lines) counts after t (none_drawn counts after plan.opened is.opened drawn) kept))
        (subst (λ (ls : List Line). All (IsSoundRow s.settings s.class) (rows_after s.rows t ls)) (sym is.lines) rows)

  stays : (making : Making) (made : Option Made) → IsSoundMaking s making → broken_lines s t making ≡ None → IsMade s t making made → draws counts after made → StaysSound s t after made
  stays Making.none made own h is =
      subst (λ (m : Option Made). draws counts after m → StaysSound s t after m) (sym is) stays_none
  stays (Making.drafted c intents) made own h is =
      subst (λ (m : Option Made). draws counts after m → StaysSound s t after m) (sym is.3) (stays_drafted c intents own is.0 h is.1 is.2)
  stays (Making.corrected sent given) made own h is =
      subst (λ (m : Option Made). draws counts after m → StaysSound s t after m) (sym is.3) (stays_corrected sent given own.0 own.1 is.0 h is.1 is.2)

-- ---- drafts

change_step : (P : Draft → Type 0) (change : Draft → Draft) (id : ℕ) (b : Bool) (d : Draft) (drafts : List Draft) → P d → AllByRecursion P drafts → ((x : Draft) → cond b (Some d) (find (is_draft id) drafts) ≡ Some x → P x → P (change x)) →
    (((x : Draft) → find (is_draft id) drafts ≡ Some x → P x → P (change x)) → AllByRecursion P (with_draft change id drafts)) → AllByRecursion P (cond b (change d ∷ drafts) (d ∷ with_draft change id drafts))
change_step P change id true d drafts own all keeps more = (keeps d refl own, all)
change_step P change id false d drafts own all keeps more = (own, more keeps)

-- what holds of each draft still does, where the change of the draft that is found keeps it
all_changed : (P : Draft → Type 0) (change : Draft → Draft) (id : ℕ) (drafts : List Draft) → AllByRecursion P drafts → ((x : Draft) → find (is_draft id) drafts ≡ Some x → P x → P (change x)) → AllByRecursion P (with_draft change id drafts)
all_changed P change id [] all keeps = tt
all_changed P change id (d ∷ drafts) all keeps = change_step P change id (is_draft id d) d drafts all.0 all.1 keeps (all_changed P change id drafts all.1)

changed_length_step : (change : Draft → Draft) (id : ℕ) (b : Bool) (d : Draft) (drafts : List Draft) → length (with_draft change id drafts) ≡ length drafts → length (cond b (change d ∷ drafts) (d ∷ with_draft change id drafts)) ≡ length (d ∷ drafts)
changed_length_step change id true d drafts more = refl
changed_length_step change id false d drafts more = omega (arith, more)

changed_length : (change : Draft → Draft) (id : ℕ) (drafts : List Draft) → length (with_draft change id drafts) ≡ length drafts
changed_length change id [] = refl
changed_length change id (d ∷ drafts) = changed_length_step change id (is_draft id d) d drafts (changed_length change id drafts)

removed_step : (P : Draft → Type 0) (id : ℕ) (b : Bool) (d : Draft) (drafts : List Draft) → P d → AllByRecursion P drafts → AllByRecursion P (without_draft id drafts) → AllByRecursion P (cond b drafts (d ∷ without_draft id drafts))
removed_step P id true d drafts own all more = all
removed_step P id false d drafts own all more = (own, more)

all_removed : (P : Draft → Type 0) (id : ℕ) (drafts : List Draft) → AllByRecursion P drafts → AllByRecursion P (without_draft id drafts)
all_removed P id [] all = tt
all_removed P id (d ∷ drafts) all = removed_step P id (is_draft id d) d drafts all.0 all.1 (all_removed P id drafts all.1)

removed_length_step : (id : ℕ) (b : Bool) (d : Draft) (drafts : List Draft) → length (without_draft id drafts) ≤ length drafts → length (cond b drafts (d ∷ without_draft id drafts)) ≤ length (d ∷ drafts)
removed_length_step id true d drafts more = omega arith
removed_length_step id false d drafts more = omega (arith, more)

removed_length : (id : ℕ) (drafts : List Draft) → length (without_draft id drafts) ≤ length drafts
removed_length id [] = omega arith
removed_length id (d ∷ drafts) = removed_length_step id (is_draft id d) d drafts (removed_length id drafts)

without_length : (intents : List Intent) (place : ℕ) → length (take place intents ++ drop (place + 1) intents) ≤ length intents
without_length intents place =
    let both = length-append (take place intents) (drop (place + 1) intents) in
    let front = length-take place intents in
    let behind = length-drop (place + 1) intents in
    omega (arith, both, front, behind)

module _ (s : State) (counts : List Count) (sound : IsSound s counts) where
  -- the drafts are sound, and at most 64
  abbrev AreSoundDrafts : List Draft → Type 0
  AreSoundDrafts drafts = (length drafts ≤ 64) × All (IsSoundDraft s.settings s.class) drafts

  each_draft : AllByRecursion (IsSoundDraft s.settings s.class) s.drafts
  each_draft = recursion_from_All (IsSoundDraft s.settings s.class) s.drafts sound.drafts

  with_change : (change : Draft → Draft) (id : ℕ) → ((d : Draft) → draft_at s id ≡ Some d → IsSoundDraft s.settings s.class d → IsSoundDraft s.settings s.class (change d)) → AreSoundDrafts (with_draft change id s.drafts)
  with_change change id keeps =
      let same = changed_length change id s.drafts in
      let few = sound.few in
      (omega (arith, same, few), All-from_recursion (IsSoundDraft s.settings s.class) (with_draft change id s.drafts) (all_changed (IsSoundDraft s.settings s.class) change id s.drafts each_draft keeps))

  removed : (id : ℕ) → AreSoundDrafts (without_draft id s.drafts)
  removed id =
      let fewer = removed_length id s.drafts in
      let few = sound.few in
      (omega (arith, fewer, few), All-from_recursion (IsSoundDraft s.settings s.class) (without_draft id s.drafts) (all_removed (IsSoundDraft s.settings s.class) id s.drafts each_draft))

  put_in : (t id : ℕ) (i : Intent) → unknown_zone s.settings (Some i) ≡ None → wrong_kind (Some i) ≡ None → wrong_category (Some i) (draft_at s id) ≡ None → intents_full (Some i) (draft_at s id) ≡ None →
      first_texts bad_text (texts_of i ∷ []) ≡ None → bad_zones (Some i) ≡ None → passes has_location (flood_of i) ≡ true → AreSoundDrafts (with_draft (with_intent t i) id s.drafts)
  put_in t id i zones kind category full texts list located = with_change (with_intent t i) id (λ d is own.
      let of_category : wrong_category (Some i) (Some d) ≡ None = subst (λ (o : Option Draft). wrong_category (Some i) o ≡ None) is category in
      let not_full : intents_full (Some i) (Some d) ≡ None = subst (λ (o : Option Draft). intents_full (Some i) o ≡ None) is full in
      let few : length d.intents < 64 = leb-false 64 (length d.intents) (free (nat_le 64 (length d.intents)) refusal.IntentsFull not_full) in
      let longer : length (d.intents ++ i ∷ []) ≡ length d.intents + 1 = length-append d.intents (i ∷ []) in
      record {
        few = omega (arith, few, longer);
        each = All-push (IsSoundIntent s.settings s.class d.category) d.intents i own.each (allowed s counts sound d.category i zones kind (passed (is_of_category d.category i) refusal.WrongCategory of_category) texts list located);
      })

  drafts_stay : (desk : List ℕ) (r : Request) (t u : ℕ) → HasRequestForm r → AllByRecursion IsUnbroken (draft_rules s desk r u (found_draft s (draft_of r))) → AllByRecursion IsUnbroken (part_rules s r (found_draft s (draft_of r))) → AreSoundDrafts (drafts_after s desk r t)
  unfolding drafts_after
  drafts_stay desk (Issue part) t u form of_draft of_parts = (sound.few, sound.drafts)
  drafts_stay desk (Begin category) t u form of_draft of_parts =
      let d : Draft = record { id = s.begun + 1; owner = desk; category = category; touched = t; intents = [] } in
      let few : length s.drafts < 64 = leb-false 64 (length s.drafts) (free (nat_le 64 (length s.drafts)) refusal.DraftsFull of_draft.1.1.1.0) in
      let longer : length (s.drafts ++ d ∷ []) ≡ length s.drafts + 1 = length-append s.drafts (d ∷ []) in
      (omega (arith, few, longer), All-push (IsSoundDraft s.settings s.class) s.drafts d sound.drafts (record { few = omega arith; each = All-nil (IsSoundIntent s.settings s.class category) }))
  drafts_stay desk (Put id part) t u form of_draft of_parts =
      put_in t id (intent.Put part) of_parts.0 of_parts.1.1.0 of_parts.1.1.1.0 of_draft.1.1.1.1.0 of_parts.1.1.1.1.0 of_parts.1.1.1.1.1.1.0 (located_in (Put id part) form)
  drafts_stay desk (Finish id part) t u form of_draft of_parts =
      put_in t id (intent.Finish part) of_parts.0 of_parts.1.1.0 of_parts.1.1.1.0 of_draft.1.1.1.1.0 of_parts.1.1.1.1.0 of_parts.1.1.1.1.1.1.0 refl
  drafts_stay desk (Restate id part) t u form of_draft of_parts =
      put_in t id (intent.Restate part) of_parts.0 of_parts.1.1.0 of_parts.1.1.1.0 of_draft.1.1.1.1.0 of_parts.1.1.1.1.0 of_parts.1.1.1.1.1.1.0 refl
  drafts_stay desk (Routine id part) t u form of_draft of_parts =
      put_in t id (intent.Routine part) of_parts.0 of_parts.1.1.0 of_parts.1.1.1.0 of_draft.1.1.1.1.0 of_parts.1.1.1.1.0 of_parts.1.1.1.1.1.1.0 refl
  drafts_stay desk (Drop id place) t u form of_draft of_parts = with_change (without_intent t place) id (λ d is own.
      let fewer = without_length d.intents place in
      let few = own.few in
      record {
        few = omega (arith, fewer, few);
        each = All-append (IsSoundIntent s.settings s.class d.category) (take place d.intents) (drop (place + 1) d.intents) (All-take (IsSoundIntent s.settings s.class d.category) place d.intents own.each) (All-drop (IsSoundIntent s.settings s.class d.category) (place + 1) d.intents own.each);
      })
  drafts_stay desk (Take id) t u form of_draft of_parts = with_change (taken_by t desk) id (λ d is own. record { few = own.few; each = own.each })
  drafts_stay desk (Discard id) t u form of_draft of_parts = removed id
  drafts_stay desk (Send id) t u form of_draft of_parts = removed id
  drafts_stay desk (Correct number given) t u form of_draft of_parts = (sound.few, sound.drafts)

-- each accepted request touches its draft at its own minute, which is no earlier
module _ (s : State) (t : ℕ) (earlier : All (λ (d : Draft). d.touched ≤ s.last) s.drafts) (le : s.last ≤ t) where
  abbrev WasTouched : Draft → Type 0
  WasTouched d = d.touched ≤ t

  each_touched : AllByRecursion WasTouched s.drafts
  each_touched = all_weaker (λ (d : Draft). d.touched ≤ s.last) WasTouched (λ d h. omega (arith, h, le)) s.drafts (recursion_from_All (λ (d : Draft). d.touched ≤ s.last) s.drafts earlier)

  touched_so_far : All WasTouched s.drafts
  touched_so_far = All-from_recursion WasTouched s.drafts each_touched

  touched_now : (change : Draft → Draft) (id : ℕ) → ((d : Draft) → (change d).touched ≡ t) → All WasTouched (with_draft change id s.drafts)
  touched_now change id now = All-from_recursion WasTouched (with_draft change id s.drafts) (all_changed WasTouched change id s.drafts each_touched (λ d is own. omega (arith, now d)))

  touched_left : (id : ℕ) → All WasTouched (without_draft id s.drafts)
  touched_left id = All-from_recursion WasTouched (without_draft id s.drafts) (all_removed WasTouched id s.drafts each_touched)

  touched_stay : (desk : List ℕ) (r : Request) → All WasTouched (drafts_after s desk r t)
  unfolding drafts_after
  touched_stay desk (Issue part) = touched_so_far
  touched_stay desk (Begin category) = All-push WasTouched s.drafts _ touched_so_far (omega arith)
  touched_stay desk (Put id part) = touched_now (with_intent t (intent.Put part)) id (λ d. refl)
  touched_stay desk (Finish id part) = touched_now (with_intent t (intent.Finish part)) id (λ d. refl)
  touched_stay desk (Restate id part) = touched_now (with_intent t (intent.Restate part)) id (λ d. refl)
  touched_stay desk (Routine id part) = touched_now (with_intent t (intent.Routine part)) id (λ d. refl)
  touched_stay desk (Drop id place) = touched_now (without_intent t place) id (λ d. refl)
  touched_stay desk (Take id) = touched_now (taken_by t desk) id (λ d. refl)
  touched_stay desk (Discard id) = touched_left id
  touched_stay desk (Send id) = touched_left id
  touched_stay desk (Correct number given) = touched_so_far

-- ---- all together

pub keeps_sound : (s : State) (counts after : List Count) (desk : List ℕ) (seq : ℕ) (r : Request) (reading : ℤ) (t : ℕ) (made : Option Made) → IsSound s counts → HasRequestForm r → Accepts s desk seq r reading t made → draws counts after made →
    IsSound (state_after s (entry_of s desk seq r t made) made) after
unfolding state_after
keeps_sound s counts after desk seq r reading t made sound form accepts drawn =
    let kept = keeps_rules s desk seq r reading accepts.new accepts.request in
    let read : is_out reading ≡ false = free (is_out reading) (refusal.ClockOut reading) kept.number.1.1.1.1.0 in
    let time : (s.last ≤ t) × (t ≤ 52000000) = subst (λ (n : ℕ). (s.last ≤ n) × (n ≤ 52000000)) (sym accepts.minute) (in_order s.last reading sound.minute read) in
    let own : IsSoundMaking s (making_of s r) = making_is s counts desk seq r reading sound form accepts.new accepts.request in
    let still : StaysSound s t after made = stays s counts after t sound time.0 time.1 (making_of s r) made own accepts.lines accepts.product drawn in
    let drafts = drafts_stay s counts sound desk r t (minute_of s reading) form kept.draft kept.part in
    record {
      forms = sound.forms;
      training = sound.training;
      desks = same_desks s.heard desk _ ∙ sound.desks;
      order = still.order;
      stands = still.stands;
      minute = time.1;
      rows = still.rows;
      few = drafts.0;
      drafts = drafts.1;
      touched = touched_stay s t sound.touched time.0 desk r;
      most = still.most;
      products = still.products;
    }
