-- The lines of a command that breaks no rule are lawful, and the rows after them stand as those before.
use Rattle.std.proofs.Common.{◌≡◌, ◌∙◌, ◌≤◌, ◌&&◌, ℕ, List, [], ◌∷◌, true, false, Option, Some, None, refl, sym, ap, subst, filter, option_map}
use Rattle.std.specs.List.{All, AllByRecursion, AllPairs}
use Rattle.std.proofs.lemmas.Bool.{and_parts, both_ways, false_from_ne_true}
use Rattle.std.proofs.lemmas.List.Elements.{All-from_recursion}
use Rattle.hazard_types.specs.Days.{year_of}
use Rattle.hazard_types.specs.Hazards.{desk_hazards, fact_rows, facts_of}
use Rattle.hazard_types.specs.Same.{same_event, same_zone}
use Rattle.hazard_types.specs.declared.codes.Action.{Action}
use Rattle.hazard_types.specs.declared.codes.Action.TheVariants.{Can, Con, Cor, Exp, Ext, Upg}
use Rattle.hazard_types.specs.declared.hazard.Event.{Event}
use Rattle.hazard_types.specs.declared.hazard.Hazard.{Hazard}
use Rattle.hazard_types.specs.declared.line.Flood.{Flood}
use Rattle.hazard_types.specs.declared.line.Line.{Line}
use Rattle.hazard_types.specs.declared.line.Row.{Row}
use Rattle.event_life.specs.declared.life.Life.{Life}
use Rattle.event_life.specs.Higher.{are_kin}
use Rattle.event_life.specs.Periods.{is_live, overlaps}
use Rattle.event_life.specs.Products.{has_higher, is_new, is_routine, life_of, row_after, row_at, rows_after}
use Rattle.event_life.specs.Reordered.{are_lawful}
use Rattle.event_life.specs.Table.{flood_after, life_after_line, life_after_lawful_line}
use Rattle.event_life.proofs.LawfulLemmas.{touches}
use Rattle.event_life.proofs.Puts.{at_key, rows_after-sorted}
use Rattle.hazard_board.specs.Clashes.{clash, clashes, least_clash}
use Rattle.hazard_board.specs.Consistent.{AreOfTheYear}
use Rattle.hazard_board.proofs.ConsistentLemmas.{stays_consistent}
use Rattle.hazard_board.proofs.NumberLemmas.{after_consistent, behind_hold, stays_behind}
use Rattle.segmenter.specs.Said.{IsApart}
use Rattle.action_planner.proofs.AfterLemmas.{all_after}
use Rattle.action_planner.proofs.Lawful.{IsAlone, no_breaches, none_judged}
use Rattle.action_planner.proofs.LawfulKeys.{AreApart, all_first, distinct_from, turned_pairs}
use Rattle.action_planner.proofs.LawfulLines.{found_has}
use Rattle.action_planner.proofs.LawfulLists.{EachPair, all_both, all_has, all_kept, all_weaker}
use Rattle.notice_json.specs.Commands.{hazard_of}
use Rattle.notice_json.specs.declared.command.Command.{Command}
use Rattle.notice_json.specs.declared.command.Watch.{Watch}
use Rattle.notice_json.specs.declared.command.Watch.TheVariants.{Tornado, Thunderstorm}
use Rattle.county_notices.specs.Commands.{Noticed, broken}
use Rattle.county_notices.specs.Lines.{lines_if, lines_in_zones, lines_of}
use Rattle.county_notices.specs.NoticeHistory.{after}
use Rattle.county_notices.specs.Notices.{IsPlainLine}
use Rattle.county_notices.specs.Standing.{IsStanding, IsWatchRow}
use Rattle.county_notices.proofs.LineLemmas.{IsGoodLine, apart_lines, good_lines}
use Rattle.county_notices.proofs.Unbroken.{IsKept, kept}

-- ---- watches have no family

pub no_facts : (w : Watch) → facts_of (hazard_of w) ≡ None
unfolding facts_of fact_rows desk_hazards
no_facts Tornado = refl
no_facts Thunderstorm = refl

no_kin : (g h : Hazard) (w : Watch) → g ≡ hazard_of w → are_kin g h ≡ false
no_kin g h w is =
    let none : facts_of g ≡ None = ap facts_of is ∙ no_facts w in
    rw none refl

no_clash : (t : ℕ) (a b : Row) (w : Watch) → a.event.hazard ≡ hazard_of w → clash t a b ≡ false
no_clash t a b w is = false_from_ne_true _ (λ h.
    let p = and_parts (same_zone a.zone b.zone && is_live t a && is_live t b && overlaps a.period b.period && Rattle.std.proofs.Common.not (same_event a.event b.event)) _ h in
    both_ways _ (no_kin a.event.hazard b.event.hazard w is) p.1)

none_clash : (t : ℕ) (a : Row) (w : Watch) (rows : List Row) → a.event.hazard ≡ hazard_of w → filter (clash t a) rows ≡ []
none_clash t a w [] is = refl
none_clash t a w (b ∷ rows) is = rw (no_clash t a b w is) (none_clash t a w rows is)

no_clashes : (t : ℕ) (rows : List Row) → AllByRecursion IsWatchRow rows → clashes t rows ≡ []
no_clashes t [] all = refl
no_clashes t (row ∷ rows) all = rw (none_clash t row all.0.watch rows all.0.hazard) (no_clashes t rows all.1)

-- ---- flood values

no_flood : (old line : Option Flood) → old ≡ None → line ≡ None → flood_after old line ≡ None
no_flood None line h g = g
no_flood (Some old) line h g = cc

left_dry : (a : Action) (life : Life) (line : Line) (t : ℕ) → life.flood ≡ None → line.flood ≡ None → (life_after_line a life line t).flood ≡ None
left_dry Con life line t was own = no_flood life.flood line.flood was own
left_dry Cor life line t was own = no_flood life.flood line.flood was own
left_dry Ext life line t was own = no_flood life.flood line.flood was own
left_dry Can life line t was own = no_flood life.flood line.flood was own
left_dry Exp life line t was own = no_flood life.flood line.flood was own
left_dry Upg life line t was own = no_flood life.flood line.flood was own
left_dry _ life line t was own = own

life_dry : (o : Option Row) (line : Line) (t : ℕ) → ((row : Row) → o ≡ Some row → row.flood ≡ None) → line.flood ≡ None → (life_after_lawful_line (option_map life_of o) line t).flood ≡ None
unfolding life_after_lawful_line
life_dry None line t was own = own
life_dry (Some row) line t was own = left_dry line.action (life_of row) line t (was row refl) own

-- ---- an accepted command

-- what holds of its lines
pub record AreGoodLines (s : Noticed) (c : Command) (e : Event) (lines : List Line) : Type 0 where
  pub lawful : are_lawful s.rows c.at lines ≡ true
  pub apart : AllPairs IsApart lines
  pub years : AreOfTheYear lines c.at
  pub events : AllByRecursion (λ (line : Line). line.event ≡ e) lines
  pub plain : AllByRecursion (λ (line : Line). is_routine line.action ≡ false) lines
  pub flood : AllByRecursion (λ (line : Line). line.flood ≡ None) lines

abbrev pub AreGood : Noticed → Command → Event → Type 0
AreGood s c e = AreGoodLines s c e (lines_of s.rows c)

dry_rows : (rows : List Row) → AllByRecursion IsWatchRow rows → AllByRecursion (λ (r : Row). r.flood ≡ None) rows
dry_rows rows all = all_weaker IsWatchRow (λ (r : Row). r.flood ≡ None) (λ r w. w.flood) rows all

module _ (rows : List Row) (t : ℕ) (lines : List Line) (e : Event) (dry : AllByRecursion (λ (r : Row). r.flood ≡ None) rows) where
  abbrev Good : Line → Type 0
  Good = IsGoodLine rows t e dry

  alone : AllByRecursion Good lines → AllByRecursion (IsAlone rows t lines) lines
  alone good = all_weaker Good (IsAlone rows t lines) (λ l g. g.sound (has_higher rows t lines l) (λ up. absurd (both_ways _ g.mild up))) lines good

  no_breach : AllByRecursion Good lines → EachPair AreApart lines → are_lawful rows t lines ≡ true
  no_breach good apart = none_judged rows t lines [] lines (no_breaches rows t lines [] lines (all_first lines, turned_pairs lines apart) (alone good))

pub good : (s : Noticed) (c : Command) → IsStanding s → (k : IsKept s c) → AreGood s c k.event
good s c stands k =
    let dry = dry_rows s.rows stands.watches in
    let lines = lines_in_zones s.rows c.at k.event c.deed c.zones in
    let all = good_lines s.rows c.at k.event dry c.deed k.fit k.period c.zones k.may in
    let apart = apart_lines s.rows c.at k.event dry c.deed k.fit k.period c.zones k.may k.once in
    let G : Line → Type 0 = IsGoodLine s.rows c.at k.event dry in
    let given : lines ≡ lines_of s.rows c = sym (ap (lines_if s.rows c) k.is) in
    let own : (ls : List Line) → lines ≡ ls → AreGoodLines s c k.event ls = λ ls is. subst (AreGoodLines s c k.event) is (record {
      lawful = no_breach s.rows c.at lines k.event dry all apart;
      apart = distinct_from lines apart;
      years = all_weaker G (λ (l : Line). is_new l.action ≡ true → l.event.year ≡ year_of c.at) (λ l g new. ap (λ (x : Event). x.year) g.event ∙ g.year new) lines all;
      events = all_weaker G (λ (l : Line). l.event ≡ k.event) (λ l g. g.event) lines all;
      plain = all_weaker G (λ (l : Line). is_routine l.action ≡ false) (λ l g. g.plain) lines all;
      flood = all_weaker G (λ (l : Line). l.flood ≡ None) (λ l g. g.flood) lines all;
    }) in
    own (lines_of s.rows c) given

row_is : (s : Noticed) (c : Command) (k : IsKept s c) (line : Line) → AllByRecursion IsWatchRow s.rows → c.number ≤ 9999 → line.event ≡ k.event → line.flood ≡ None → IsWatchRow (row_after s.rows c.at line)
row_is s c k line all digits event flood = record {
  watch = c.watch;
  hazard = ap (λ (x : Event). x.hazard) event ∙ k.hazard;
  number = subst (λ (n : ℕ). n ≤ 9999) (sym (ap (λ (x : Event). x.etn) event ∙ k.number)) digits;
  flood = life_dry (row_at s.rows line.event line.zone) line c.at (λ row h. (all_has IsWatchRow s.rows row all (found_has (at_key line.event line.zone) s.rows row h)).flood) flood;
}

pub watches_after : (s : Noticed) (c : Command) → IsStanding s → c.number ≤ 9999 → (k : IsKept s c) → AllByRecursion IsWatchRow (rows_after s.rows c.at (lines_of s.rows c))
watches_after s c stands digits k =
    let g = good s c stands k in
    let lines = lines_of s.rows c in
    let E : Line → Type 0 = λ line. line.event ≡ k.event in
    let F : Line → Type 0 = λ line. line.flood ≡ None in
    let R : Line → Type 0 = λ line. IsWatchRow (row_after s.rows c.at line) in
    all_after IsWatchRow s.rows c.at lines g.lawful stands.watches
    (all_kept R touches lines (all_weaker (λ line. E line × F line) R (λ line both. row_is s c k line stands.watches digits both.0 both.1) lines (all_both E F lines g.events g.flood)))

pub standing_after : (s : Noticed) (c : Command) → IsStanding s → c.number ≤ 9999 → broken s c ≡ None → IsStanding (after s c)
standing_after s c stands digits h =
    let k = kept s c h in
    let g = good s c stands k in
    let lines = lines_of s.rows c in
    let consistent = stays_consistent s.rows s.last c.at k.later stands.consistent in
    let behind = stays_behind s.rows s.last c.at k.later stands.behind in
    let watches = watches_after s c stands digits k in
    let free : least_clash c.at (rows_after s.rows c.at lines) ≡ None = rw (no_clashes c.at (rows_after s.rows c.at lines) watches) refl in
    record {
      office = stands.office;
      order = rows_after-sorted s.rows c.at lines stands.order;
      consistent = after_consistent s.rows c.at lines stands.order consistent behind g.years free;
      behind = behind_hold s.rows c.at lines stands.order behind g.years;
      watches = watches;
      minute = k.minute;
    }

-- what a command that breaks no rule says may be written
pub plain_lines : (s : Noticed) (c : Command) (lines : List Line) → IsStanding s → c.number ≤ 9999 → broken s c ≡ None → lines ≡ lines_of s.rows c → All IsPlainLine lines
plain_lines s c lines stands digits h is =
    let k = kept s c h in
    let g = good s c stands k in
    let E : Line → Type 0 = λ line. line.event ≡ k.event in
    let F : Line → Type 0 = λ line. line.flood ≡ None in
    let own : All IsPlainLine (lines_of s.rows c) = All-from_recursion IsPlainLine (lines_of s.rows c) (all_weaker (λ line. E line × F line) IsPlainLine (λ line both. record {
      number = subst (λ (n : ℕ). n ≤ 9999) (sym (ap (λ (x : Event). x.etn) both.0 ∙ k.number)) digits;
      flood = both.1;
    }) (lines_of s.rows c) (all_both E F (lines_of s.rows c) g.events g.flood)) in
    subst (All IsPlainLine) (sym is) own

pub timely : (s : Noticed) (c : Command) → broken s c ≡ None → c.at ≤ 52000000
timely s c h = (kept s c h).minute

pub lawful : (s : Noticed) (c : Command) (lines : List Line) → IsStanding s → broken s c ≡ None → lines ≡ lines_of s.rows c → are_lawful s.rows c.at lines ≡ true
lawful s c lines stands h is = subst (λ (ls : List Line). are_lawful s.rows c.at ls ≡ true) (sym is) (good s c stands (kept s c h)).lawful
