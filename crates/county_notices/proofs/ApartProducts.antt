-- Products of the desk's hazards, among others: what they open, and the rows of these hazards that they leave, is as without the others.
use Rattle.std.proofs.Common.{◌≡◌, ◌∙◌, inl, inr, ◌&&◌, ◌||◌, not, ℕ, List, [], ◌∷◌, ◌++◌, Bool, true, false, Option, Some, None, Ordering, Less, Equal, Greater, refl, sym, ap, subst, cond, filter, map, unwrap_or}
use Rattle.std.specs.List.{AllByRecursion, list_any}
use Rattle.std.specs.List.Sorted.{IsStrictlySortedBy}
use Rattle.std.specs.Option.{is_none, is_some}
use Rattle.std.proofs.lemmas.Bool.{and_parts, both_ways, cases_Bool, false_from_ne_true}
use Rattle.hazard_types.specs.Hazards.{facts_of}
use Rattle.hazard_types.specs.Same.{same_hazard, same_zone}
use Rattle.hazard_types.proofs.Equality.{hazard_one}
use Rattle.hazard_types.specs.ZoneLines.{ZoneLine}
use Rattle.hazard_types.specs.declared.facts.Facts.{Facts}
use Rattle.hazard_types.specs.declared.hazard.Event.{Event}
use Rattle.hazard_types.specs.declared.hazard.Hazard.{Hazard}
use Rattle.hazard_types.specs.declared.line.Line.{Line}
use Rattle.hazard_types.specs.declared.line.Row.{Row}
use Rattle.hazard_types.specs.declared.line.Vtec.{Vtec}
use Rattle.hazard_types.specs.Orders.{by_event}
use Rattle.event_life.specs.declared.life.Breach.{Breach}
use Rattle.event_life.specs.declared.life.Breach.TheVariants.{Twice}
use Rattle.event_life.specs.declared.life.Life.{Life}
use Rattle.event_life.specs.Higher.{family_of, is_above, may_yield, outranks}
use Rattle.event_life.specs.Lives.{judged_product}
use Rattle.event_life.specs.Openings.{add_event, event_placed, is_numbered, numbers_of, events_opened_by, opened_from}
use Rattle.event_life.specs.Periods.{is_live, overlaps}
use Rattle.event_life.specs.Products.{Product, around_but_higher, breach_in, by_key, end_upgraded, event_of, event_of_issue, latest_open_event, has_higher, is_new, is_overlapped, is_routine, is_second, is_upgrade, judged, judged_from, lawful_of, life_at, line_of, lines_of, put, put_all, rows_after_all_but_upgrades, row_after, row_at, row_of, rows_after, rows_for_higher, rows_with, concerns}
use Rattle.event_life.specs.Table.{breach_of_line, life_after_lawful_line}
use Rattle.event_life.proofs.Puts.{put-sorted, rows_after-sorted}
use Rattle.county_notices.specs.Apart.{AreMerged, IsOfDesk, IsOfOthers, desks_events, is_desks}
use Rattle.county_notices.proofs.ApartRows.{any_kept, going_kept, has_kept, held_kept, is_kept, keep, life_kept, open_kept, put_kept, put_other, row_kept, same_kept}
use Rattle.county_notices.proofs.LineLemmas.{going_is}

-- ---- a line of the desk's hazards

abbrev IsOwn : Line → Type 0
IsOwn line = is_desks line.event.hazard ≡ true

no_facts_none : (o : Option Facts) → is_some o ≡ false → o ≡ None
no_facts_none None h = refl
no_facts_none (Some f) h = cc

above_has : (h low : Hazard) → outranks h low ≡ true → is_desks h ≡ true
above_has h low out = elim (cases_Bool (is_desks h)) [
  | inl own ↦ own
  | inr not_own ↦
      let none : facts_of h ≡ None = no_facts_none (facts_of h) not_own in
      let never : outranks h low ≡ false = ap (λ (o : Option Facts). is_above (family_of o) (family_of (facts_of low))) none in
      absurd (both_ways _ never out)
]

overlapped_kept : (rows : List Row) (t : ℕ) (o : Option Row) → is_overlapped (keep rows) t o ≡ is_overlapped rows t o
overlapped_kept rows t None = refl
overlapped_kept rows t (Some own) = any_kept (λ (r : Row). same_zone r.zone own.zone && is_live t r && outranks r.event.hazard own.event.hazard && overlaps r.period own.period)
    (λ r h. above_has r.event.hazard own.event.hazard (and_parts (same_zone r.zone own.zone && is_live t r) _ (and_parts (same_zone r.zone own.zone && is_live t r && outranks r.event.hazard own.event.hazard) _ h).0).1) rows

upgraded_by : (lines : List Line) (r : Row) (rows : List Row) (u k : Bool) → list_any (λ (line : Line). is_upgrade line.action && concerns r.event r.zone line) lines ≡ u → is_kept r ≡ k →
    keep (end_upgraded lines rows) ≡ end_upgraded lines (keep rows) →
    keep (cond u (record { event = r.event; zone = r.zone; period = r.period; flood = r.flood; ended = true }) r ∷ end_upgraded lines rows) ≡ end_upgraded lines (cond k (r ∷ keep rows) (keep rows))
upgraded_by lines r rows true true is kind more = rw (kind, is) (ap (λ (rs : List Row). record { event = r.event; zone = r.zone; period = r.period; flood = r.flood; ended = true } ∷ rs) more)
upgraded_by lines r rows true false is kind more = rw kind more
upgraded_by lines r rows false true is kind more = rw (kind, is) (ap (λ (rs : List Row). r ∷ rs) more)
upgraded_by lines r rows false false is kind more = rw kind more

upgraded_kept : (lines : List Line) (rows : List Row) → keep (end_upgraded lines rows) ≡ end_upgraded lines (keep rows)
upgraded_kept lines [] = refl
upgraded_kept lines (r ∷ rows) = upgraded_by lines r rows (list_any (λ (line : Line). is_upgrade line.action && concerns r.event r.zone line) lines) (is_kept r) refl refl (upgraded_kept lines rows)

module _ (rows : List Row) (t : ℕ) where
  around_kept : (line : Line) (b : Bool) → IsOwn line → around_but_higher (keep rows) t line b ≡ around_but_higher rows t line b
  around_kept line b own =
      let e = line.event in
      let a = has_kept rows t e own in
      let g = open_kept rows t e own in
      let h = held_kept rows t e own in
      let s = same_kept rows t line own in
      λ i. record { opened = a i; going = g i; held = h i; same = s i; higher = b }

  breach_kept : (line : Line) (b : Bool) → IsOwn line → breach_of_line (life_at (keep rows) line) line t (around_but_higher (keep rows) t line b) ≡ breach_of_line (life_at rows line) line t (around_but_higher rows t line b)
  breach_kept line b own =
      let life = life_kept rows t line own in
      let around = around_kept line b own in
      λ i. breach_of_line (life i) line t (around i)

  after_kept : (line : Line) → IsOwn line → row_after (keep rows) t line ≡ row_after rows t line
  after_kept line own = ap (λ (o : Option Life). row_of line (life_after_lawful_line o line t)) (life_kept rows t line own)

  but_upgrades_by : (earlier : List Line) (line : Line) (lines : List Line) (after : List Row) (b : Bool) → IsOwn line → IsStrictlySortedBy by_key after →
      keep (cond b (put (row_after rows t line) after) after) ≡ cond b (put (row_after (keep rows) t line) (keep after)) (keep after)
  but_upgrades_by earlier line lines after true own up = put_kept (row_after rows t line) after up own ∙ ap (λ (r : Row). put r (keep after)) (sym (after_kept line own))
  but_upgrades_by earlier line lines after false own up = refl

  sorted_by : (line : Line) (after : List Row) (b : Bool) → IsStrictlySortedBy by_key after → IsStrictlySortedBy by_key (cond b (put (row_after rows t line) after) after)
  sorted_by line after true up = put-sorted (row_after rows t line) after up
  sorted_by line after false up = up

  but_upgrades_kept : (earlier lines : List Line) (after : List Row) → AllByRecursion IsOwn lines → IsStrictlySortedBy by_key after →
      keep (rows_after_all_but_upgrades rows t earlier lines after) ≡ rows_after_all_but_upgrades (keep rows) t earlier lines (keep after)
  but_upgrades_kept earlier [] after own up = refl
  but_upgrades_kept earlier (line ∷ lines) after own up =
      let test : Option Breach → Bool = λ o. not (is_routine line.action) && not (is_upgrade line.action) && not (is_second earlier line) && is_none o in
      let b = test (breach_of_line (life_at rows line) line t (around_but_higher rows t line true)) in
      let same : b ≡ test (breach_of_line (life_at (keep rows) line) line t (around_but_higher (keep rows) t line true)) = ap test (sym (breach_kept line true own.0)) in
      but_upgrades_kept (earlier ++ line ∷ []) lines (cond b (put (row_after rows t line) after) after) own.1 (sorted_by line after b up)
      ∙ ap (rows_after_all_but_upgrades (keep rows) t (earlier ++ line ∷ []) lines) (but_upgrades_by earlier line lines after b own.0 up
      ∙ ap (λ (x : Bool). cond x (put (row_after (keep rows) t line) (keep after)) (keep after)) same)

  module _ (up : IsStrictlySortedBy by_key rows) where
    for_higher_kept : (lines : List Line) → AllByRecursion IsOwn lines → keep (rows_for_higher rows t lines) ≡ rows_for_higher (keep rows) t lines
    for_higher_kept lines own = upgraded_kept lines (rows_after_all_but_upgrades rows t [] lines rows) ∙ ap (end_upgraded lines) (but_upgrades_kept [] lines rows own up)

    higher_kept : (lines : List Line) (line : Line) → AllByRecursion IsOwn lines → IsOwn line → has_higher (keep rows) t lines line ≡ has_higher rows t lines line
    higher_kept lines line own mine =
        ap (λ (b : Bool). not (may_yield line.event.hazard) || b)
        (ap (λ (rs : List Row). is_overlapped rs t (row_at (keep rows) line.event line.zone)) (sym (for_higher_kept lines own))
        ∙ overlapped_kept (rows_for_higher rows t lines) t (row_at (keep rows) line.event line.zone)
        ∙ ap (is_overlapped (rows_for_higher rows t lines) t) (row_kept rows t line.event line.zone mine))

    breach_in_kept : (all earlier : List Line) (line : Line) → AllByRecursion IsOwn all → IsOwn line → breach_in (keep rows) t all earlier line ≡ breach_in rows t all earlier line
    unfolding breach_in
    breach_in_kept all earlier line own mine =
        ap (λ (o : Option Breach). cond (is_routine line.action) None (cond (is_second earlier line) (Some Twice) o))
        (ap (λ (b : Bool). breach_of_line (life_at (keep rows) line) line t (around_but_higher (keep rows) t line b)) (higher_kept all line own mine) ∙ breach_kept line (has_higher rows t all line) mine)

    judged_kept : (all earlier lines : List Line) → AllByRecursion IsOwn all → AllByRecursion IsOwn lines → judged_from (keep rows) t all earlier lines ≡ judged_from rows t all earlier lines
    judged_kept all earlier [] own mine = refl
    judged_kept all earlier (line ∷ lines) own mine =
        let first = breach_in_kept all earlier line own mine.0 in
        let rest = judged_kept all (earlier ++ line ∷ []) lines own mine.1 in
        λ i. (line, first i) ∷ rest i

  put_all_kept : (lines : List Line) (after : List Row) → AllByRecursion IsOwn lines → IsStrictlySortedBy by_key after → keep (put_all rows t lines after) ≡ put_all (keep rows) t lines (keep after)
  put_all_kept [] after own up = refl
  put_all_kept (line ∷ lines) after own up =
      put_all_kept lines (put (row_after rows t line) after) own.1 (put-sorted (row_after rows t line) after up)
      ∙ ap (put_all (keep rows) t lines) (put_kept (row_after rows t line) after up own.0 ∙ ap (λ (r : Row). put r (keep after)) (sym (after_kept line own.0)))

-- what holds of the lines holds of the lawful ones

all_lawful_by : (P : Line → Type 0) (line : Line) (b : Bool) (lines : List Line) → P line → AllByRecursion P lines → AllByRecursion P (cond b (line ∷ lines) lines)
all_lawful_by P line true lines own more = (own, more)
all_lawful_by P line false lines own more = more

all_lawful : (P : Line → Type 0) (rows : List Row) (t : ℕ) (all earlier lines : List Line) → AllByRecursion P lines → AllByRecursion P (lawful_of (judged_from rows t all earlier lines))
all_lawful P rows t all earlier [] h = tt
all_lawful P rows t all earlier (line ∷ lines) h =
    all_lawful_by P line (not (is_routine line.action) && is_none (breach_in rows t all earlier line)) (lawful_of (judged_from rows t all (earlier ++ line ∷ []) lines)) h.0 (all_lawful P rows t all (earlier ++ line ∷ []) lines h.1)

-- ---- events

abbrev is_desks_event : Event → Bool
is_desks_event e = is_desks e.hazard

placed_all : (P : Event → Type 0) (o : Ordering) (e d : Event) (events behind : List Event) → P e → P d → AllByRecursion P events → AllByRecursion P behind → AllByRecursion P (event_placed o e d events behind)
placed_all P Less e d events behind own first rest more = (own, (first, rest))
placed_all P Equal e d events behind own first rest more = (first, rest)
placed_all P Greater e d events behind own first rest more = (first, more)

add_all : (P : Event → Type 0) (e : Event) (events : List Event) → P e → AllByRecursion P events → AllByRecursion P (add_event e events)
add_all P e [] own all = (own, tt)
add_all P e (d ∷ events) own all = placed_all P (by_event e d) e d events (add_event e events) own all.0 all.1 (add_all P e events own all.1)

opened_all_by : (P : Event → Type 0) (e : Event) (b : Bool) (events : List Event) → P e → AllByRecursion P events → AllByRecursion P (cond b (add_event e events) events)
opened_all_by P e true events own more = add_all P e events own more
opened_all_by P e false events own more = more

opened_all : (P : Event → Type 0) (lines : List Line) → AllByRecursion (λ (line : Line). P line.event) lines → AllByRecursion P (events_opened_by lines)
opened_all P [] all = tt
opened_all P (line ∷ lines) all = opened_all_by P line.event (is_new line.action) (events_opened_by lines) all.0 (opened_all P lines all.1)

all_desks : (events : List Event) → AllByRecursion (λ e. is_desks_event e ≡ true) events → desks_events events ≡ events
all_desks [] all = refl
all_desks (e ∷ events) all = rw all.0 (ap (λ (es : List Event). e ∷ es) (all_desks events all.1))

none_desks : (events : List Event) → AllByRecursion (λ e. is_desks_event e ≡ false) events → desks_events events ≡ []
none_desks [] all = refl
none_desks (e ∷ events) all = rw all.0 (none_desks events all.1)

events_both_by : (e : Event) (b : Bool) (xs ys : List Event) → desks_events (xs ++ ys) ≡ desks_events xs ++ desks_events ys → cond b (e ∷ desks_events (xs ++ ys)) (desks_events (xs ++ ys)) ≡ cond b (e ∷ desks_events xs) (desks_events xs) ++ desks_events ys
events_both_by e true xs ys more = ap (λ (es : List Event). e ∷ es) more
events_both_by e false xs ys more = more

events_both : (xs ys : List Event) → desks_events (xs ++ ys) ≡ desks_events xs ++ desks_events ys
events_both [] ys = refl
events_both (e ∷ xs) ys = events_both_by e (is_desks_event e) xs ys (events_both xs ys)

-- ---- lines of texts

going_hazard : (rows : List Row) (t : ℕ) (vtec : Vtec) (o : Option Event) → latest_open_event rows vtec.hazard vtec.etn t ≡ o → (unwrap_or o (event_of_issue t vtec)).hazard ≡ vtec.hazard
going_hazard rows t vtec None is = refl
going_hazard rows t vtec (Some e) is = (going_is rows vtec.hazard vtec.etn t e is).hazard

event_hazard_by : (rows : List Row) (t : ℕ) (vtec : Vtec) (b : Bool) → (cond b (event_of_issue t vtec) (unwrap_or (latest_open_event rows vtec.hazard vtec.etn t) (event_of_issue t vtec))).hazard ≡ vtec.hazard
event_hazard_by rows t vtec true = refl
event_hazard_by rows t vtec false = going_hazard rows t vtec (latest_open_event rows vtec.hazard vtec.etn t) refl

event_hazard : (rows : List Row) (t : ℕ) (vtec : Vtec) → (event_of rows t vtec).hazard ≡ vtec.hazard
event_hazard rows t vtec = event_hazard_by rows t vtec (is_new vtec.action)

lines_all : (b : Bool) (rows : List Row) (t : ℕ) (said : List ZoneLine) → AllByRecursion (λ (x : ZoneLine). is_desks x.vtec.hazard ≡ b) said → AllByRecursion (λ (line : Line). is_desks line.event.hazard ≡ b) (lines_of rows t said)
lines_all b rows t [] all = tt
lines_all b rows t (x ∷ said) all = (ap is_desks (event_hazard rows t x.vtec) ∙ all.0, lines_all b rows t said all.1)

line_kept : (rows : List Row) (t : ℕ) (x : ZoneLine) → is_desks x.vtec.hazard ≡ true → line_of (keep rows) t x ≡ line_of rows t x
line_kept rows t x own =
    let event : event_of (keep rows) t x.vtec ≡ event_of rows t x.vtec =
    ap (λ (o : Option Event). cond (is_new x.vtec.action) (event_of_issue t x.vtec) (unwrap_or o (event_of_issue t x.vtec))) (going_kept rows t x.vtec.hazard x.vtec.etn own) in
    λ i. record { action = x.vtec.action; event = event i; zone = x.zone; begin = x.vtec.begin; end = Rattle.event_life.specs.Products.end_of x.vtec.end; flood = x.flood }

lines_kept : (rows : List Row) (t : ℕ) (said : List ZoneLine) → AllByRecursion (λ (x : ZoneLine). is_desks x.vtec.hazard ≡ true) said → lines_of (keep rows) t said ≡ lines_of rows t said
lines_kept rows t [] all = refl
lines_kept rows t (x ∷ said) all =
    let first = line_kept rows t x all.0 in
    let rest = lines_kept rows t said all.1 in
    λ i. first i ∷ rest i

-- ---- products

module _ (rows : List Row) (p : Product) (up : IsStrictlySortedBy by_key rows) where
  abbrev own_lines : List Line
  own_lines = lines_of rows p.issue p.said

  desk_judged : IsOfDesk p → judged_product (keep rows) p ≡ judged_product rows p
  desk_judged own =
      let all = lines_all true rows p.issue p.said own in
      ap (judged (keep rows) p.issue) (lines_kept rows p.issue p.said own) ∙ judged_kept rows p.issue up own_lines [] own_lines all all

  desk_rows : IsOfDesk p → keep (rows_with rows p) ≡ rows_with (keep rows) p
  unfolding rows_after
  desk_rows own =
      let all = lines_all true rows p.issue p.said own in
      put_all_kept rows p.issue (lawful_of (judged_product rows p)) rows (all_lawful IsOwn rows p.issue own_lines [] own_lines all) up
      ∙ ap (λ (js : List (Line × Option Breach)). put_all (keep rows) p.issue (lawful_of js) (keep rows)) (sym (desk_judged own))

  desk_opened : IsOfDesk p → desks_events (events_opened_by (lawful_of (judged_product rows p))) ≡ events_opened_by (lawful_of (judged_product (keep rows) p))
  desk_opened own =
      let all = lines_all true rows p.issue p.said own in
      all_desks _ (opened_all (λ e. is_desks_event e ≡ true) (lawful_of (judged_product rows p)) (all_lawful IsOwn rows p.issue own_lines [] own_lines all))
      ∙ ap (λ (js : List (Line × Option Breach)). events_opened_by (lawful_of js)) (sym (desk_judged own))

  abbrev IsOther : Line → Type 0
  IsOther line = is_desks line.event.hazard ≡ false

  put_all_other : (lines : List Line) (after : List Row) → AllByRecursion IsOther lines → keep (put_all rows p.issue lines after) ≡ keep after
  put_all_other [] after other = refl
  put_all_other (line ∷ lines) after other = put_all_other lines (put (row_after rows p.issue line) after) other.1 ∙ put_other (row_after rows p.issue line) after other.0

  other_rows : IsOfOthers p → keep (rows_with rows p) ≡ keep rows
  unfolding rows_after
  other_rows own = put_all_other (lawful_of (judged_product rows p)) rows (all_lawful IsOther rows p.issue own_lines [] own_lines (lines_all false rows p.issue p.said own))

  other_opened : IsOfOthers p → desks_events (events_opened_by (lawful_of (judged_product rows p))) ≡ []
  other_opened own = none_desks _ (opened_all (λ e. is_desks_event e ≡ false) (lawful_of (judged_product rows p)) (all_lawful IsOther rows p.issue own_lines [] own_lines (lines_all false rows p.issue p.said own)))

from_merged : (rows : List Row) (desk others all : List Product) → IsStrictlySortedBy by_key rows → AllByRecursion IsOfDesk desk → AllByRecursion IsOfOthers others → AreMerged desk others all →
    desks_events (opened_from rows all) ≡ opened_from (keep rows) desk
from_merged rows desk others [] up own other m = ap (opened_from (keep rows)) (sym m.0)
from_merged rows desk others (p ∷ all) up own other (inl m) =
    let mine : AllByRecursion IsOfDesk (p ∷ m.0) = subst (AllByRecursion IsOfDesk) m.1 own in
    let rest = from_merged (rows_with rows p) m.0 others all (rows_after-sorted rows p.issue (lines_of rows p.issue p.said) up) mine.1 other m.2 in
    events_both (events_opened_by (lawful_of (judged_product rows p))) (opened_from (rows_with rows p) all)
    ∙ ap (λ (es : List Event). es ++ desks_events (opened_from (rows_with rows p) all)) (desk_opened rows p up mine.0)
    ∙ ap (λ (es : List Event). events_opened_by (lawful_of (judged_product (keep rows) p)) ++ es) (rest ∙ ap (λ (rs : List Row). opened_from rs m.0) (desk_rows rows p up mine.0))
    ∙ ap (opened_from (keep rows)) (sym m.1)
from_merged rows desk others (p ∷ all) up own other (inr m) =
    let mine : AllByRecursion IsOfOthers (p ∷ m.0) = subst (AllByRecursion IsOfOthers) m.1 other in
    let rest = from_merged (rows_with rows p) desk m.0 all (rows_after-sorted rows p.issue (lines_of rows p.issue p.said) up) own mine.1 m.2 in
    events_both (events_opened_by (lawful_of (judged_product rows p))) (opened_from (rows_with rows p) all)
    ∙ ap (λ (es : List Event). es ++ desks_events (opened_from (rows_with rows p) all)) (other_opened rows p up mine.0)
    ∙ rest ∙ ap (λ (rs : List Row). opened_from rs desk) (other_rows rows p up mine.0)

pub merged : (desk others all : List Product) → AllByRecursion IsOfDesk desk → AllByRecursion IsOfOthers others → AreMerged desk others all → desks_events (opened_from [] all) ≡ opened_from [] desk
unfolding IsStrictlySortedBy
merged desk others all own other m = from_merged [] desk others all tt own other m

-- the numbers of one of the desk's hazards

of_desk : (h : Hazard) (year : ℕ) (e : Event) → is_desks h ≡ true → is_numbered h year e ≡ true → is_desks_event e ≡ true
of_desk h year e own n = ap is_desks (hazard_one e.hazard h (and_parts (same_hazard e.hazard h) _ n).0) ∙ own

numbered_by : (h : Hazard) (year : ℕ) (e : Event) (events : List Event) (d : Bool) → is_desks h ≡ true → is_desks_event e ≡ d → filter (is_numbered h year) (desks_events events) ≡ filter (is_numbered h year) events →
    filter (is_numbered h year) (cond d (e ∷ desks_events events) (desks_events events)) ≡ cond (is_numbered h year e) (e ∷ filter (is_numbered h year) events) (filter (is_numbered h year) events)
numbered_by h year e events true own is more = ap (λ (es : List Event). cond (is_numbered h year e) (e ∷ es) es) more
numbered_by h year e events false own is more =
    let not_it : is_numbered h year e ≡ false = false_from_ne_true _ (λ n. both_ways _ is (of_desk h year e own n)) in
    rw not_it more

numbered_kept : (h : Hazard) (year : ℕ) (events : List Event) → is_desks h ≡ true → filter (is_numbered h year) (desks_events events) ≡ filter (is_numbered h year) events
numbered_kept h year [] own = refl
numbered_kept h year (e ∷ events) own = numbered_by h year e events (is_desks_event e) own refl (numbered_kept h year events own)

pub numbers_kept : (h : Hazard) (year : ℕ) (events desk : List Event) → is_desks h ≡ true → desks_events events ≡ desk → numbers_of h year events ≡ numbers_of h year desk
numbers_kept h year events desk own is = ap (λ (es : List Event). map (λ (e : Event). e.etn) es) (sym (numbered_kept h year events own)) ∙ ap (numbers_of h year) is
