-- The value of each field has its form.
use Rattle.std.proofs.Common.{◌≡◌, ◌<◌, ◌≤◌, ◌+◌, ◌-◌, ◌*◌, ◌^◌, ◌==◌, ◌&&◌, ℕ, Bool, true, false, cond, List, [], ◌∷◌, length, take, slice_index, nat_le, nat_lt, Option, Some, None, option_map, option_and_then, IfSome, IsTrue, IsUtf8, refl, ap, sym, subst, ◌∙◌, arith, codes}
use Rattle.std.specs.List.{All, AllByRecursion}
use Rattle.std.specs.Ordering.{nat_cmp, match_ordering}
use Rattle.std.specs.Cmp.Lexicographic.{slice_cmp}
use Rattle.std.specs.declared.cmp.Ordering.{Ordering}
use Rattle.std.specs.declared.cmp.Ordering.TheVariants.{Less, Equal, Greater}
use Rattle.std.specs.Str.{bytes_eq}
use Rattle.std.proofs.lemmas.Bool.Decides.{nat_tests}
use Rattle.std.proofs.lemmas.List.Elements.{All-from_recursion}
use Rattle.std.proofs.lemmas.Option.{same_Some}
use Rattle.std.proofs.lemmas.Slice.Eq.{bytes_eq-Decides}
use Rattle.std.proofs.lemmas.Str.{IsUtf8-nil}
use Rattle.serde_json.specs.Data.{Data, null, boolean, number, string, array, object, Items, no_items, item, Members, no_members, member}
use Rattle.serde_json.specs.Find.{get, get_member, as_str, as_number, as_u64, as_object}
use Rattle.hazard_types.specs.Calendar.{stamp_at, is_digit}
use Rattle.hazard_types.specs.Characters.{location_at, is_location}
use Rattle.hazard_types.specs.Codes.{value_for_code, without_padding}
use Rattle.office_types.specs.Desks.{is_desk_name}
use Rattle.hazard_types.specs.Names.{hazard_at, sig_at, parse_four_digits, event_if, event_at, number_at as four_at}
use Rattle.hazard_types.specs.Places.{is_capital}
use Rattle.hazard_types.specs.Tables.{cause_rows}
use Rattle.hazard_types.specs.declared.codes.Coded.{Coded}
use Rattle.hazard_types.specs.declared.codes.Severity.{Severity}
use Rattle.hazard_types.specs.declared.codes.Status.{Status}
use Rattle.hazard_types.specs.declared.hazard.Event.{Event}
use Rattle.hazard_types.specs.declared.hazard.Hazard.{Hazard}
use Rattle.hazard_types.specs.declared.hazard.Sig.{Sig}
use Rattle.hazard_types.specs.declared.line.Flood.{Flood}
use Rattle.hazard_types.specs.declared.period.Begin.{Begin}
use Rattle.hazard_types.specs.declared.period.Begin.TheVariants as begin
use Rattle.hazard_types.specs.declared.period.End.{End}
use Rattle.hazard_types.specs.declared.period.End.TheVariants as end
use Rattle.office_types.specs.declared.request.EventTexts.{EventTexts}
use Rattle.office_types.specs.declared.request.Texts.{Texts}
use Rattle.hazard_types.specs.Times.{time_at}
use Rattle.request_json.specs.Fields.{begin_at, end_at, desk_named, if_small, if_counted, number_at, site_in, severity_in, cause_in, time_in, status_in, values_in, flood_of, text_or_empty, free_text, four_texts, texts_of, event_texts_of, each_event_texts}
use Rattle.request_json.specs.Formed.{IsMinute, IsNumber, IsHazard, IsEvent, AreTexts, AreEventTexts, AreFloodValues, IsBegin, IsEnd}
use Rattle.request_json.specs.Keys.{all_known}
use Rattle.request_json.specs.declared.keys.Keys.TheVariants as keys
use Rattle.hazard_types.proofs.Inverting.{both, all_two, and_then_some, map_some, if_some, digit_most, stamp_fits}
use Rattle.json_parts.specs.Json.{text_at}
use Rattle.request_json.proofs.ValueTexts.{HasTexts, ItemsHaveTexts, MembersHaveTexts}

least : (a b : ℕ) → nat_le a b ≡ true → a ≤ b
least a b h = grind (arith, nat_tests)

below : (a b : ℕ) → nat_lt a b ≡ true → a < b
below a b h = grind (arith, nat_tests)

-- ---- numbers and desks

small_form : (o : Option ℕ) (n : ℕ) → option_and_then if_small o ≡ Some n → IsNumber n
small_form o n h =
    let a = and_then_some o if_small n h in
    let t = if_some (nat_lt a.0 (2 ^ 32)) (Some a.0) n a.2 in
    subst IsNumber (same_Some a.0 n t.1) (below a.0 (2 ^ 32) t.0)

pub number_form : (key : List ℕ) (d : Data) (n : ℕ) → number_at key d ≡ Some n → IsNumber n
number_form key d n h = small_form (option_and_then as_u64 (option_and_then as_number (get key d))) n h

pub counted_form : (o : Option ℕ) (n : ℕ) → option_and_then if_counted o ≡ Some n → (o ≡ Some n) × (1 ≤ n)
counted_form o n h =
    let a = and_then_some o if_counted n h in
    let t = if_some (nat_le 1 a.0) (Some a.0) n a.2 in
    let same : a.0 ≡ n = same_Some a.0 n t.1 in
    (a.1 ∙ t.1, subst (λ k. 1 ≤ k) same (least 1 a.0 t.0))

pub desk_form : (o : Option (List ℕ)) (desk : List ℕ) → option_and_then desk_named o ≡ Some desk → IsTrue (is_desk_name desk)
desk_form o desk h =
    let a = and_then_some o desk_named desk h in
    let t = if_some (is_desk_name a.0) (Some a.0) desk a.2 in
    subst (λ (x : List ℕ). is_desk_name x ≡ true) (same_Some a.0 desk t.1) t.0

-- ---- names

abbrev hazard_with : List ℕ → Sig → Hazard
hazard_with bytes sig = record { phen = slice_index bytes 0 ∷ slice_index bytes 1 ∷ []; sig = sig }

pub hazard_form : (bytes : List ℕ) (h : Hazard) → hazard_at bytes ≡ Some h → IsHazard h
unfolding hazard_at
hazard_form bytes h k =
    let c0 = is_capital (slice_index bytes 0) in
    let c1 = is_capital (slice_index bytes 1) in
    let t = if_some ((length bytes == 4) && c0 && c1 && (slice_index bytes 2 == 46)) (option_map (hazard_with bytes) (sig_at (slice_index bytes 3))) h k in
    let a = both ((length bytes == 4) && c0 && c1) (slice_index bytes 2 == 46) t.0 in
    let b = both ((length bytes == 4) && c0) c1 a.0 in
    let c = both (length bytes == 4) c0 b.0 in
    let m = map_some (sig_at (slice_index bytes 3)) (hazard_with bytes) h t.1 in
    subst IsHazard m.2 (all_two c0 c1 c.1 b.1, refl)

four_most : (a b c d n : ℕ) → parse_four_digits a b c d ≡ Some n → n ≤ 9999
unfolding parse_four_digits
four_most a b c d n h =
    let value = 1000 * (a - 48) + 100 * (b - 48) + 10 * (c - 48) + (d - 48) in
    let t = if_some (is_digit a && is_digit b && is_digit c && is_digit d) (Some value) n h in
    let p = both (is_digit a && is_digit b && is_digit c) (is_digit d) t.0 in
    let q = both (is_digit a && is_digit b) (is_digit c) p.0 in
    let r = both (is_digit a) (is_digit b) q.0 in
    let same : value ≡ n = same_Some value n t.1 in
    omega (arith, same, digit_most a r.0, digit_most b r.1, digit_most c q.1, digit_most d p.1)

event_from : (h : Hazard) (etn year : ℕ) (e : Event) → IsHazard h → etn ≤ 9999 → event_if h etn year ≡ Some e → IsEvent e
event_from h etn year e hazard most k =
    let made : Event = record { hazard = h; etn = etn; year = year } in
    let t = if_some (nat_le 1 etn && nat_le 2000 year && nat_le year 2099) (Some made) e k in
    let p = both (nat_le 1 etn && nat_le 2000 year) (nat_le year 2099) t.0 in
    let q = both (nat_le 1 etn) (nat_le 2000 year) p.0 in
    let is : IsEvent made = record { hazard = hazard; first_number = least 1 etn q.0; last_number = most; first_year = least 2000 year q.1; last_year = least year 2099 p.1 } in
    subst IsEvent (same_Some made e t.1) is

event_chain : (t : Bool) (h : Option Hazard) (etn year : Option ℕ) (e : Event) → cond t (option_and_then (λ h. option_and_then (λ n. option_and_then (λ y. event_if h n y) year) etn) h) None ≡ Some e
    → (x : Hazard) × (n : ℕ) × (y : ℕ) × (h ≡ Some x) × (etn ≡ Some n) × (event_if x n y ≡ Some e)
event_chain false h etn year e k = absurd (cc)
event_chain true None etn year e k = absurd (cc)
event_chain true (Some x) None year e k = absurd (cc)
event_chain true (Some x) (Some n) None e k = absurd (cc)
event_chain true (Some x) (Some n) (Some y) e k = (x, n, y, refl, refl, k)

pub event_form : (bytes : List ℕ) (e : Event) → event_at bytes ≡ Some e → IsEvent e
unfolding event_at
event_form bytes e k =
    let c = event_chain ((length bytes == 14) && (slice_index bytes 4 == 46) && (slice_index bytes 9 == 46)) (hazard_at (take 4 bytes)) (four_at bytes 5) (four_at bytes 10) e k in
    event_from c.0 c.1 c.2 e (hazard_form (take 4 bytes) c.0 c.3) (four_most (slice_index bytes 5) (slice_index bytes 6) (slice_index bytes 7) (slice_index bytes 8) c.1 c.4) c.5

-- ---- minutes

begin_by : (t : Bool) (o : Option ℕ) (b : Begin) → ((m : ℕ) → o ≡ Some m → IsMinute m) → cond t (Some begin.Now) (option_map (λ m. begin.At m) o) ≡ Some b → IsBegin b
begin_by true o b fits h = subst IsBegin (same_Some begin.Now b h) tt
begin_by false o b fits h = let m = map_some o (λ (k : ℕ). begin.At k) b h in subst IsBegin m.2 (fits m.0 m.1)

pub begin_form : (bytes : List ℕ) (b : Begin) → begin_at bytes ≡ Some b → IsBegin b
begin_form bytes b h = begin_by (bytes_eq bytes (codes "now")) (stamp_at bytes) b (stamp_fits bytes) h

end_by : (t : Bool) (o : Option ℕ) (e : End) → ((m : ℕ) → o ≡ Some m → IsMinute m) → cond t (Some end.Ufn) (option_map (λ m. end.At m) o) ≡ Some e → IsEnd e
end_by true o e fits h = subst IsEnd (same_Some end.Ufn e h) tt
end_by false o e fits h = let m = map_some o (λ (k : ℕ). end.At k) e h in subst IsEnd m.2 (fits m.0 m.1)

pub end_form : (bytes : List ℕ) (e : End) → end_at bytes ≡ Some e → IsEnd e
end_form bytes e h = end_by (bytes_eq bytes (codes "ufn")) (stamp_at bytes) e (stamp_fits bytes) h

abbrev IsTimeOf : Option ℕ → Type 0
IsTimeOf t = IfSome t IsMinute

time_by : (t : Bool) (o time : Option ℕ) → ((m : ℕ) → o ≡ Some m → IsMinute m) → cond t (Some None) (option_map (λ (m : ℕ). Some m) o) ≡ Some time → IsTimeOf time
time_by true o time fits h = subst IsTimeOf (same_Some None time h) tt
time_by false o time fits h = let m = map_some o (λ (k : ℕ). Some k) time h in subst IsTimeOf m.2 (fits m.0 m.1)

time_form : (bytes : List ℕ) (time : Option ℕ) → time_at bytes ≡ Some time → IsTimeOf time
unfolding time_at
time_form bytes time h = time_by (bytes_eq bytes (codes "000000T0000Z")) (stamp_at bytes) time (stamp_fits bytes) h

-- ---- flood values

site_form : (d : Data) (site : List ℕ) → site_in d ≡ Some site → IsTrue (is_location site)
site_form d site h =
    let a = and_then_some (text_at (codes "site") d) location_at site h in
    let t = if_some (is_location a.0) (Some a.0) site a.2 in
    subst (λ (x : List ℕ). is_location x ≡ true) (same_Some a.0 site t.1) t.0

-- rows whose code is their value
abbrev NameThemselves : List (Coded (List ℕ)) → Type 0
NameThemselves rows = AllByRecursion (λ (r : Coded (List ℕ)). without_padding r.code ≡ r.value) rows

row_by : (t : Bool) (code value text found : List ℕ) (rest : Option (List ℕ)) → bytes_eq code text ≡ t → code ≡ value → (rest ≡ Some found → text ≡ found) → cond t (Some value) rest ≡ Some found → text ≡ found
row_by true code value text found rest e same later h = sym ((bytes_eq-Decides code text).0 e) ∙ same ∙ same_Some value found h
row_by false code value text found rest e same later h = later h

row_found : (rows : List (Coded (List ℕ))) (text found : List ℕ) → NameThemselves rows → value_for_code rows text ≡ Some found → text ≡ found
row_found [] text found all h = absurd (cc)
row_found (r ∷ rows) text found all h = row_by (bytes_eq (without_padding r.code) text) (without_padding r.code) r.value text found (value_for_code rows text) refl all.0 (row_found rows text found all.1) h

causes_name_themselves : NameThemselves cause_rows
unfolding cause_rows
causes_name_themselves = (refl, (refl, (refl, (refl, (refl, (refl, (refl, tt)))))))

cause_form : (d : Data) (cause : List ℕ) → cause_in d ≡ Some cause → value_for_code cause_rows cause ≡ Some cause
cause_form d cause h =
    let a = and_then_some (text_at (codes "cause") d) (value_for_code cause_rows) cause h in
    subst (λ (x : List ℕ). value_for_code cause_rows x ≡ Some cause) (row_found cause_rows a.0 cause causes_name_themselves a.2) a.2

time_in_form : (key : List ℕ) (d : Data) (time : Option ℕ) → time_in key d ≡ Some time → IsTimeOf time
time_in_form key d time h = let a = and_then_some (text_at key d) time_at time h in time_form a.0 time a.2

values_chain : (site cause : Option (List ℕ)) (severity : Option Severity) (begin crest end : Option (Option ℕ)) (status : Option Status) (f : Flood)
    → option_and_then (λ site. option_and_then (λ severity. option_and_then (λ cause. option_and_then (λ begin. option_and_then (λ crest. option_and_then (λ end. option_map (λ status.
    record { site = site; severity = severity; cause = cause; begin = begin; crest = crest; end = end; status = status }) status) end) crest) begin) cause) severity) site ≡ Some f
    → (site ≡ Some f.site) × (cause ≡ Some f.cause) × (begin ≡ Some f.begin) × (crest ≡ Some f.crest) × (end ≡ Some f.end)
values_chain None cause severity begin crest end status f h = absurd (cc)
values_chain (Some a) cause None begin crest end status f h = absurd (cc)
values_chain (Some a) None (Some s) begin crest end status f h = absurd (cc)
values_chain (Some a) (Some c) (Some s) None crest end status f h = absurd (cc)
values_chain (Some a) (Some c) (Some s) (Some b) None end status f h = absurd (cc)
values_chain (Some a) (Some c) (Some s) (Some b) (Some t) None status f h = absurd (cc)
values_chain (Some a) (Some c) (Some s) (Some b) (Some t) (Some e) None f h = absurd (cc)
values_chain (Some a) (Some c) (Some s) (Some b) (Some t) (Some e) (Some u) f h =
    let made : Flood = record { site = a; severity = s; cause = c; begin = b; crest = t; end = e; status = u } in
    let same : made ≡ f = same_Some made f h in
    (ap (λ (x : Flood). Some x.site) same, ap (λ (x : Flood). Some x.cause) same, ap (λ (x : Flood). Some x.begin) same, ap (λ (x : Flood). Some x.crest) same, ap (λ (x : Flood). Some x.end) same)

values_form : (d : Data) (f : Flood) → values_in d ≡ Some f → AreFloodValues f
unfolding values_in
values_form d f h =
    let c = values_chain (site_in d) (cause_in d) (severity_in d) (time_in (codes "begin") d) (time_in (codes "crest") d) (time_in (codes "end") d) (status_in d) f h in
    record { site = site_form d f.site c.0; cause = cause_form d f.cause c.1; begin = time_in_form (codes "begin") d f.begin c.2; crest = time_in_form (codes "crest") d f.crest c.3; end = time_in_form (codes "end") d f.end c.4 }

pub flood_form : (d : Data) (f : Flood) → flood_of d ≡ Some f → AreFloodValues f
unfolding flood_of
flood_form d f h =
    let a = and_then_some (as_object d) _ f h in
    let t = if_some (all_known keys.Flood a.0) (values_in d) f a.2 in
    values_form d f t.1

-- ---- texts

str_form : (d : Data) (text : List ℕ) → HasTexts d → as_str d ≡ Some text → IsUtf8 text
str_form null text has h = absurd (cc)
str_form (boolean b) text has h = absurd (cc)
str_form (number n) text has h = absurd (cc)
str_form (string s) text has h = subst IsUtf8 (same_Some s text h) has
str_form (array ds) text has h = absurd (cc)
str_form (object ms) text has h = absurd (cc)

found_by : (o : Ordering) (rest : Option Data) (d e : Data) → HasTexts d → (rest ≡ Some e → HasTexts e) → match_ordering o rest (Some d) rest ≡ Some e → HasTexts e
found_by Less rest d e has later h = later h
found_by Equal rest d e has later h = subst HasTexts (same_Some d e h) has
found_by Greater rest d e has later h = later h

member_found : (k : List ℕ) (ms : Members) (e : Data) → MembersHaveTexts ms → get_member k ms ≡ Some e → HasTexts e
member_found k no_members e has h = absurd (cc)
member_found k (member l d ms) e has h = found_by (slice_cmp nat_cmp k l) (get_member k ms) d e has.0 (member_found k ms e has.1) h

pub found_texts : (k : List ℕ) (d e : Data) → HasTexts d → get k d ≡ Some e → HasTexts e
found_texts k null e has h = absurd (cc)
found_texts k (boolean b) e has h = absurd (cc)
found_texts k (number n) e has h = absurd (cc)
found_texts k (string s) e has h = absurd (cc)
found_texts k (array ds) e has h = absurd (cc)
found_texts k (object ms) e has h = member_found k ms e has h

free_by : (o : Option Data) (text : List ℕ) → ((e : Data) → o ≡ Some e → HasTexts e) → text_or_empty o ≡ Some text → IsUtf8 text
free_by None text has h = subst IsUtf8 (same_Some [] text h) IsUtf8-nil
free_by (Some d) text has h = str_form d text (has d refl) h

free_form : (k : List ℕ) (d : Data) (text : List ℕ) → HasTexts d → free_text k d ≡ Some text → IsUtf8 text
free_form k d text has h = free_by (get k d) text (λ e found. found_texts k d e has found) h

four_chain : (what area impacts details : Option (List ℕ)) (t : Texts)
    → option_and_then (λ what. option_and_then (λ area. option_and_then (λ impacts. option_map (λ details. record { what = what; area = area; impacts = impacts; details = details }) details) impacts) area) what ≡ Some t
    → (what ≡ Some t.what) × (area ≡ Some t.area) × (impacts ≡ Some t.impacts) × (details ≡ Some t.details)
four_chain None area impacts details t h = absurd (cc)
four_chain (Some a) None impacts details t h = absurd (cc)
four_chain (Some a) (Some b) None details t h = absurd (cc)
four_chain (Some a) (Some b) (Some c) None t h = absurd (cc)
four_chain (Some a) (Some b) (Some c) (Some d) t h =
    let made : Texts = record { what = a; area = b; impacts = c; details = d } in
    let same : made ≡ t = same_Some made t h in
    (ap (λ (x : Texts). Some x.what) same, ap (λ (x : Texts). Some x.area) same, ap (λ (x : Texts). Some x.impacts) same, ap (λ (x : Texts). Some x.details) same)

four_form : (d : Data) (t : Texts) → HasTexts d → four_texts d ≡ Some t → AreTexts t
unfolding four_texts
four_form d t has h =
    let c = four_chain (free_text (codes "what") d) (free_text (codes "area") d) (free_text (codes "impacts") d) (free_text (codes "details") d) t h in
    record { what = free_form (codes "what") d t.what has c.0; area = free_form (codes "area") d t.area has c.1; impacts = free_form (codes "impacts") d t.impacts has c.2; details = free_form (codes "details") d t.details has c.3 }

pub texts_form : (d : Data) (t : Texts) → HasTexts d → texts_of d ≡ Some t → AreTexts t
unfolding texts_of
texts_form d t has h =
    let a = and_then_some (as_object d) _ t h in
    let k = if_some (all_known keys.Texts a.0) (four_texts d) t a.2 in
    four_form d t has k.1

event_texts_chain : (t : Bool) (event : Option Event) (texts : Option Texts) (x : EventTexts) → cond t (option_and_then (λ event. option_map (λ texts. record { event = event; texts = texts }) texts) event) None ≡ Some x
    → (event ≡ Some x.event) × (texts ≡ Some x.texts)
event_texts_chain false event texts x h = absurd (cc)
event_texts_chain true None texts x h = absurd (cc)
event_texts_chain true (Some e) None x h = absurd (cc)
event_texts_chain true (Some e) (Some t) x h =
    let made : EventTexts = record { event = e; texts = t } in
    let same : made ≡ x = same_Some made x h in
    (ap (λ (y : EventTexts). Some y.event) same, ap (λ (y : EventTexts). Some y.texts) same)

event_texts_form : (d : Data) (x : EventTexts) → HasTexts d → event_texts_of d ≡ Some x → AreEventTexts x
unfolding event_texts_of
event_texts_form d x has h =
    let a = and_then_some (as_object d) _ x h in
    let c = event_texts_chain (all_known keys.EventTexts a.0) (option_and_then event_at (text_at (codes "event") d)) (option_and_then texts_of (get (codes "texts") d)) x a.2 in
    let e = and_then_some (text_at (codes "event") d) event_at x.event c.0 in
    let t = and_then_some (get (codes "texts") d) texts_of x.texts c.1 in
    record { event = event_form e.0 x.event e.2; texts = texts_form t.0 x.texts (found_texts (codes "texts") d t.0 has t.1) t.2 }

each_form : (items : Items) (list : List EventTexts) → ItemsHaveTexts items → each_event_texts items ≡ Some list → AllByRecursion AreEventTexts list
each_form no_items list has h = subst (λ (l : List EventTexts). AllByRecursion AreEventTexts l) (same_Some [] list h) tt
each_form (item d ds) list has h =
    let a = and_then_some (event_texts_of d) _ list h in
    let m = map_some (each_event_texts ds) _ list a.2 in
    subst (λ (l : List EventTexts). AllByRecursion AreEventTexts l) m.2 (event_texts_form d a.0 has.0 a.1, each_form ds m.0 has.1 m.1)

pub list_form : (items : Items) (list : List EventTexts) → ItemsHaveTexts items → each_event_texts items ≡ Some list → All AreEventTexts list
list_form items list has h = All-from_recursion AreEventTexts list (each_form items list has h)
