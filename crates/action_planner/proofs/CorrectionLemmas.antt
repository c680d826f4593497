-- The correction of a product: its lines are lawful, apart in event and zone, and keep what stands.
use Rattle.std.proofs.Common.{◌≡◌, ◌∙◌, ◌||◌, inl, ℕ, List, [], Bool, true, false, Option, Some, None, refl, sym, ap, subst, cond, filter}
use Rattle.std.proofs.lemmas.Bool.{both_ways, false_from_ne_true}
use Rattle.std.specs.List.{AllByRecursion, AllPairs}
use Rattle.std.specs.List.Sorted.{IsStrictlySortedBy}
use Rattle.std.specs.Option.{option_or}
use Rattle.hazard_types.specs.Same.{same_event}
use Rattle.hazard_types.specs.declared.codes.Action.TheVariants.{Cor}
use Rattle.hazard_types.specs.declared.hazard.Event.{Event}
use Rattle.hazard_types.specs.declared.line.Line.{Line}
use Rattle.hazard_types.specs.declared.line.Row.{Row}
use Rattle.office_types.specs.declared.refusal.Refusal.{Refusal}
use Rattle.office_types.specs.declared.request.EventTexts.{EventTexts}
use Rattle.office_types.specs.declared.request.Sent.{Sent}
use Rattle.event_life.specs.Periods.{ends_after, is_live}
use Rattle.event_life.specs.Products.{by_key, has_higher, has_rows, is_new, is_upgrade, row_at, rows_after}
use Rattle.event_life.specs.Reordered.{are_lawful}
use Rattle.event_life.proofs.LawfulLemmas.{touches}
use Rattle.event_life.proofs.Puts.{at_key}
use Rattle.event_numbers.specs.declared.Count.{Count}
use Rattle.hazard_board.specs.Clashes.{least_clash}
use Rattle.hazard_board.specs.Consistent.{AreOfTheYear}
use Rattle.hazard_board.proofs.NumberLemmas.{after_consistent, behind_hold}
use Rattle.hazard_board.proofs.Turns.{lawful_taken}
use Rattle.action_planner.specs.Corrections.{broken_correction, broken_on, corrected_lines, correcting, correction_rules, first_without_line}
use Rattle.action_planner.specs.Lines.{line_on}
use Rattle.action_planner.specs.Offences.{refused_clash}
use Rattle.action_planner.specs.Standing.{IsKnown, Stands}
use Rattle.action_planner.proofs.AfterLemmas.{all_after}
use Rattle.action_planner.proofs.Lawful.{IsAlone, no_breaches, none_judged}
use Rattle.action_planner.proofs.LawfulKeys.{AreApart, all_first, distinct_from, of_key-parts, turned_pairs}
use Rattle.action_planner.proofs.LawfulLines.{found_has}
use Rattle.action_planner.proofs.LawfulLists.{EachPair, Has, all_has, all_kept, all_some, all_weaker, any_has, has_any, has_filter, pair_some, pairs_to}
use Rattle.action_planner.proofs.LawfulPlaced.{given_none, map_none}
use Rattle.action_planner.proofs.LawfulSteps.{IsSound, cor_sound, row_at-own, row_at-parts}
use Rattle.action_planner.proofs.SiteLemmas.{plan_sited}
use Rattle.action_planner.proofs.SourceLemmas.{Comes, FromRow}
use Rattle.action_planner.proofs.StandingRows.{after_has, are_of}

-- ---- the rules in order

or_none : {X : Type 0} (x : Option X) → option_or x None ≡ x
or_none None = refl
or_none (Some x) = refl

in_order : (rows : List Row) (t : ℕ) (sent : Sent) (last letters : ℕ) (given : List EventTexts) →
    option_or (first_without_line sent.lines given) (broken_on rows t sent.number last letters (corrected_lines rows t sent.lines)) ≡ broken_correction rows t sent last letters given
unfolding broken_correction broken_on
in_order rows t sent last letters given = sym (simp or_none)

module _ (rows : List Row) (t : ℕ) (sent : Sent) (last letters : ℕ) (given : List EventTexts) where
  abbrev these : List Line
  these = corrected_lines rows t sent.lines

  pub text_named : (r : Refusal) → first_without_line sent.lines given ≡ Some r → broken_correction rows t sent last letters given ≡ Some r
  text_named r h = sym (in_order rows t sent last letters given) ∙ ap (λ (o : Option Refusal). option_or o (broken_on rows t sent.number last letters these)) h

  pub other_named : (lines : List Line) (found : Option Refusal) → lines ≡ these → first_without_line sent.lines given ≡ None → found ≡ broken_on rows t sent.number last letters lines → broken_correction rows t sent last letters given ≡ found
  other_named lines found same early late =
      sym (in_order rows t sent last letters given)
      ∙ ap (λ (o : Option Refusal). option_or o (broken_on rows t sent.number last letters these)) early
      ∙ ap (broken_on rows t sent.number last letters) (sym same)
      ∙ sym late

  no_clash : broken_correction rows t sent last letters given ≡ None → least_clash t (Rattle.hazard_board.specs.Taken.rows_taken rows t these) ≡ None
  unfolding broken_correction
  no_clash h = map_none refused_clash (least_clash t (Rattle.hazard_board.specs.Taken.rows_taken rows t these)) (given_none (correction_rules rows t sent last letters given) h).1.0

-- ---- the lines

-- COR of a live row
pub record Corrects (rows : List Row) (t : ℕ) (before line : Line) : Type 0 where
  pub row : Row
  pub at : row_at rows before.event before.zone ≡ Some row
  pub live : is_live t row ≡ true
  pub is : line ≡ line_on Cor t row

live_by : (t : ℕ) (row : Row) (b : Bool) (line : Line) → is_live t row ≡ b → cond b (Some (line_on Cor t row)) None ≡ Some line → (b ≡ true) × (line ≡ line_on Cor t row)
live_by t row true line e h = (refl, let same : line_on Cor t row ≡ line = cc in sym same)
live_by t row false line e h = cc

corrects_by : (rows : List Row) (t : ℕ) (before line : Line) (o : Option Row) → row_at rows before.event before.zone ≡ o → correcting t o ≡ Some line → Corrects rows t before line
corrects_by rows t before line None e h = cc
corrects_by rows t before line (Some row) e h = let p = live_by t row (is_live t row) line refl h in record { row = row; at = e; live = p.0; is = p.1 }

pub corrects : (rows : List Row) (t : ℕ) (before line : Line) → correcting t (row_at rows before.event before.zone) ≡ Some line → Corrects rows t before line
corrects rows t before line h = corrects_by rows t before line (row_at rows before.event before.zone) refl h

module _ (rows : List Row) (t : ℕ) (lines : List Line) where
  abbrev corrected : List Line
  corrected = corrected_lines rows t lines

  -- what holds of each line that corrects one
  pub each_corrected : (P : Line → Type 0) → ((before line : Line) → Has lines before → Corrects rows t before line → P line) → AllByRecursion P corrected
  each_corrected P own = all_some P (λ (line : Line). correcting t (row_at rows line.event line.zone)) lines (λ before h line e. own before line h (corrects rows t before line e))

  of_before : (before line : Line) (c : Corrects rows t before line) → (line.event ≡ before.event) × (line.zone ≡ before.zone)
  of_before before line c =
      let p = row_at-parts rows before.event before.zone c.row c.at in
      (ap (λ (l : Line). l.event) c.is ∙ p.0, ap (λ (l : Line). l.zone) c.is ∙ p.1)

  pub corrected_apart : AllPairs (λ (l m : Line). ¬ ((l.event ≡ m.event) × (l.zone ≡ m.zone))) lines → EachPair AreApart corrected
  corrected_apart apart =
      let R : Line → Line → Type 0 = λ l m. ¬ ((l.event ≡ m.event) × (l.zone ≡ m.zone)) in
      pair_some R AreApart (λ (line : Line). correcting t (row_at rows line.event line.zone))
      (λ x z l m two e f.
      let a = of_before x l (corrects rows t x l e) in
      let b = of_before z m (corrects rows t z m f) in
      false_from_ne_true _ (λ h.
      let p = of_key-parts l.event l.zone m h in
      two (sym a.0 ∙ sym p.0 ∙ b.0, sym a.1 ∙ sym p.1 ∙ b.1)))
      lines (pairs_to R lines apart)

  pub corrected_distinct : AllPairs (λ (l m : Line). ¬ ((l.event ≡ m.event) × (l.zone ≡ m.zone))) lines → AllPairs (λ (l m : Line). ¬ ((l.event ≡ m.event) × (l.zone ≡ m.zone))) corrected
  corrected_distinct apart = distinct_from corrected (corrected_apart apart)

  pub from_rows : AllByRecursion (FromRow rows) corrected
  from_rows = each_corrected (FromRow rows) (λ before line h c.
      record { row = c.row; there = found_has (at_key before.event before.zone) rows c.row c.at; event = ap (λ (l : Line). l.event) (sym c.is); zone = ap (λ (l : Line). l.zone) (sym c.is); flood = ap (λ (l : Line). l.flood) (sym c.is) })

  module _ (long : AllByRecursion (λ (row : Row). ends_after row.period.end row.period.begin ≡ true) rows) where
    sound : AllByRecursion (IsSound rows t) corrected
    sound = each_corrected (IsSound rows t) (λ before line h c.
        let lasts : ends_after c.row.period.end c.row.period.begin ≡ true = all_has (λ (row : Row). ends_after row.period.end row.period.begin ≡ true) rows c.row long (found_has (at_key before.event before.zone) rows c.row c.at) in
        subst (IsSound rows t) (sym c.is) (cor_sound rows t c.row (row_at-own rows before.event before.zone c.row c.at) c.live lasts))

    no_upgrade : AllByRecursion (λ (l : Line). is_upgrade l.action ≡ false) corrected
    no_upgrade = each_corrected (λ (l : Line). is_upgrade l.action ≡ false) (λ before line h c. ap (λ (l : Line). is_upgrade l.action) c.is)

    alone : AllByRecursion (IsAlone rows t corrected) corrected
    alone = Rattle.action_planner.proofs.LawfulLists.every (IsAlone rows t corrected) corrected (λ l h.
        all_has (IsSound rows t) corrected l sound h (has_higher rows t corrected l)
        (λ u. absurd (both_ways _ (all_has (λ (x : Line). is_upgrade x.action ≡ false) corrected l no_upgrade h) u)))

    pub corrected_lawful : AllPairs (λ (l m : Line). ¬ ((l.event ≡ m.event) × (l.zone ≡ m.zone))) lines → are_lawful rows t corrected ≡ true
    corrected_lawful apart = none_judged rows t corrected [] corrected (no_breaches rows t corrected [] corrected (all_first corrected, turned_pairs corrected (corrected_apart apart)) alone)

-- ---- what stands

or_had : (a b : Bool) → (a ≡ true → b ≡ true) → (a || b) ≡ b
or_had true b h = sym (h refl)
or_had false b h = refl

pub corrections_keep : (rows : List Row) (counts : List Count) (sent : Sent) (last letters : ℕ) (given : List EventTexts) (t : ℕ) →
    Stands rows counts t → IsStrictlySortedBy by_key rows → AllPairs (λ (l m : Line). ¬ ((l.event ≡ m.event) × (l.zone ≡ m.zone))) sent.lines →
    broken_correction rows t sent last letters given ≡ None → Stands (rows_after rows t (corrected_lines rows t sent.lines)) counts t
corrections_keep rows counts sent last letters given t stands up apart h =
    let lines = corrected_lines rows t sent.lines in
    let lawful : are_lawful rows t lines ≡ true = corrected_lawful rows t sent.lines stands.consistent.ends apart in
    let from : AllByRecursion (FromRow rows) lines = from_rows rows t sent.lines in
    let years : AreOfTheYear lines t = each_corrected rows t sent.lines (λ (l : Line). is_new l.action ≡ true → l.event.year ≡ Rattle.hazard_types.specs.Days.year_of t) (λ before line g c n. let old : is_new line.action ≡ false = ap (λ (l : Line). is_new l.action) c.is in absurd (both_ways _ old n)) in
    let none : least_clash t (rows_after rows t lines) ≡ None = subst (λ (after : List Row). least_clash t after ≡ None) (lawful_taken rows t lines lawful) (no_clash rows t sent last letters given h) in
    let had : (e : Event) → are_of (filter touches lines) e ≡ true → has_rows rows e ≡ true = λ e g.
    let w = has_any (λ (l : Line). same_event l.event e) (filter touches lines) g in
    let f = all_has (FromRow rows) lines w.0 from (has_filter touches lines w.0 w.1).0 in
    any_has (λ (r : Row). same_event r.event e) rows f.row f.there (ap (λ (x : Event). same_event x e) f.event ∙ w.2) in
    record {
      consistent = after_consistent rows t lines up stands.consistent stands.behind years none;
      behind = behind_hold rows t lines up stands.behind years;
      numbered = λ e. after_has rows t lines e lawful ∙ or_had (are_of (filter touches lines) e) (has_rows rows e) (had e) ∙ stands.numbered e;
      digits = stands.digits;
      sited = plan_sited rows t [] stands.sited tt tt lines (all_weaker (FromRow rows) (Comes rows []) (λ l f. inl f) lines from) lawful;
      known = all_after (λ row. IsKnown row.event.hazard) rows t lines lawful stands.known
          (all_kept (λ l. IsKnown l.event.hazard) touches lines (all_weaker (FromRow rows) (λ l. IsKnown l.event.hazard) (λ l f. subst (λ (e : Event). IsKnown e.hazard) f.event (all_has (λ (row : Row). IsKnown row.event.hazard) rows f.row stands.known f.there)) lines from));
    }
