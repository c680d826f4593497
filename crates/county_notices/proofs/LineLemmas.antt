-- The lines of a command that breaks no rule: each is lawful, of its event in its zone, and says of a watch what may be written.
use Rattle.std.proofs.Common.{◌≡◌, ◌∙◌, ◌&&◌, ◌==◌, not, ℕ, List, [], ◌∷◌, Bool, true, false, Option, Some, None, refl, sym, ap, subst, arith, cond, fold, nat_le, nat_lt}
use Rattle.std.specs.List.{AllByRecursion, IsDistinct}
use Rattle.std.proofs.lemmas.Bool.{and_parts, and_from, eqb-true, false_from_ne_true, both_ways, leb-false, lt-ltb, le-ltb, not-false}
use Rattle.hazard_types.specs.Days.{year_of}
use Rattle.hazard_types.specs.Places.{Place}
use Rattle.hazard_types.specs.Same.{same_event, same_hazard, same_zone}
use Rattle.hazard_types.specs.declared.codes.Action.TheVariants.{Can, Con, Exa, Exb, Exp, Ext}
use Rattle.hazard_types.specs.declared.hazard.Event.{Event}
use Rattle.hazard_types.specs.declared.hazard.Hazard.{Hazard}
use Rattle.hazard_types.specs.declared.line.Line.{Line}
use Rattle.hazard_types.specs.declared.line.Row.{Row}
use Rattle.office_types.specs.declared.request.Intent.TheVariants.{Put}
use Rattle.office_types.specs.declared.request.Target.{Target}
use Rattle.office_types.specs.declared.request.Target.TheVariants.{Fresh, Join}
use Rattle.hazard_types.proofs.Equality.{event_itself, hazard_one, zone_itself}
use Rattle.event_life.specs.Periods.{keeps_open, same_at}
use Rattle.event_life.specs.Products.{latest_open_event, has_rows, is_number_held, is_new, is_open, is_routine, is_upgrade, later_event, row_at}
use Rattle.hazard_board.specs.Board.{has_period}
use Rattle.action_planner.specs.Lines.{is_near_end, joined_row, line_on, line_of_put, put_line_on, period_of_put, period_of_put_on}
use Rattle.action_planner.specs.Offences.{has_row_by, is_bad_period}
use Rattle.action_planner.proofs.LawfulKeys.{AreApart, IsOn, either_action, lines_on, of_key-parts, put-no_routine, put-no_upgrade}
use Rattle.action_planner.proofs.LawfulLists.{EachPair, Has, all_append, all_has, all_weaker, any_has, every, pair_append}
use Rattle.action_planner.proofs.LawfulSteps.{IsSound, ending_sound, put_sound, row_at-own, row_at-parts}
use Rattle.notice_json.specs.declared.command.Deed.{Deed}
use Rattle.notice_json.specs.declared.command.Deed.TheVariants as deed
use Rattle.county_notices.specs.Commands.{has_bad_end, is_gone, was_left}
use Rattle.county_notices.specs.Lines.{ending_action, ending_lines, lines_in, lines_in_zones, put_of}

-- ---- the open event of a hazard and number

module _ (Q : Event → Type 0) (named : Row → Bool) where
  later_by : (b e d : Event) (later : Bool) → Q b → Q e → cond later (Some e) (Some b) ≡ Some d → Q d
  later_by b e d true old own f = let same : e ≡ d = cc in subst Q same own
  later_by b e d false old own f = let same : b ≡ d = cc in subst Q same old

  later_from : (best : Option Event) (e d : Event) → ((b : Event) → best ≡ Some b → Q b) → Q e → later_event best e ≡ Some d → Q d
  later_from None e d h own f = let same : e ≡ d = cc in subst Q same own
  later_from (Some b) e d h own f = later_by b e d (nat_lt b.year e.year) (h b refl) own f

  better_from : (best : Option Event) (r : Row) (d : Event) (n : Bool) → named r ≡ n → ((b : Event) → best ≡ Some b → Q b) → (named r ≡ true → Q r.event) → cond n (later_event best r.event) best ≡ Some d → Q d
  better_from best r d true is h own f = later_from best r.event d h (own is) f
  better_from best r d false is h own f = h d f

  best_from : (rows : List Row) (best : Option Event) (d : Event) → ((b : Event) → best ≡ Some b → Q b) → AllByRecursion (λ r. named r ≡ true → Q r.event) rows →
      fold (λ (best : Option Event) (r : Row). cond (named r) (later_event best r.event) best) best rows ≡ Some d → Q d
  best_from [] best d h all f = h d f
  best_from (r ∷ rows) best d h all f = best_from rows (cond (named r) (later_event best r.event) best) d (λ b g. better_from best r b (named r) refl h all.0 g) all.1 f

-- it is of them, and open
pub record IsGoing (rows : List Row) (h : Hazard) (n t : ℕ) (d : Event) : Type 0 where
  pub hazard : d.hazard ≡ h
  pub number : d.etn ≡ n
  pub going : is_open rows t d ≡ true

pub going_is : (rows : List Row) (h : Hazard) (n t : ℕ) (d : Event) → latest_open_event rows h n t ≡ Some d → IsGoing rows h n t d
going_is rows h n t d f =
    let named : Row → Bool = λ r. same_hazard r.event.hazard h && (r.event.etn == n) && keeps_open t r in
    best_from (IsGoing rows h n t) named rows None d (λ b g. cc)
    (every (λ r. named r ≡ true → IsGoing rows h n t r.event) rows (λ r there is.
    let p = and_parts (same_hazard r.event.hazard h && (r.event.etn == n)) _ is in
    let q = and_parts (same_hazard r.event.hazard h) _ p.0 in
    record {
      hazard = hazard_one r.event.hazard h q.0;
      number = eqb-true r.event.etn n q.1;
      going = any_has (λ (x : Row). same_event x.event r.event && keeps_open t x) rows r there (and_from _ _ (event_itself r.event) p.1);
    })) f

-- ---- a line

-- what holds of each line
pub record IsGood (rows : List Row) (t : ℕ) (e : Event) (z : Place) (line : Line) : Type 0 where
  pub sound : IsSound rows t line
  pub on : IsOn e z line
  pub mild : is_upgrade line.action ≡ false
  pub plain : is_routine line.action ≡ false
  pub flood : line.flood ≡ None
  pub year : is_new line.action ≡ true → e.year ≡ year_of t

put_flood : (rows : List Row) (t : ℕ) (e : Event) (target : Target) (end : ℕ) (z : Place) (o : Option Row) → (put_line_on rows t e (put_of target end) z o).flood ≡ None
put_flood rows t e target end z None = refl
put_flood rows t e target end z (Some row) = refl

pub join_old : (rows : List Row) (t : ℕ) (e : Event) (end : ℕ) (z : Place) (o : Option Row) → is_new (put_line_on rows t e (put_of (Join e) end) z o).action ≡ false
join_old rows t e end z None = either_action is_new (has_period rows e (period_of_put (put_of (Join e) end) t) t) Exa Exb refl refl
join_old rows t e end z (Some row) = either_action is_new (same_at t row.period (period_of_put_on (put_of (Join e) end) t row)) Con Ext refl refl

good_end : (target : Target) (end t : ℕ) → nat_le end t ≡ false → is_bad_period (put_of target end) t ≡ false
good_end target end t h =
    let later : nat_lt t end ≡ true = lt-ltb t end (leb-false end t h) in
    let now : nat_lt t t ≡ false = le-ltb t t (omega arith) in
    rw (now, later) refl

module _ (rows : List Row) (t : ℕ) (e : Event) where
  put_good : (target : Target) (end : ℕ) (z : Place) → IsSound rows t (line_of_put rows t e (put_of target end) z) → (is_new (line_of_put rows t e (put_of target end) z).action ≡ true → e.year ≡ year_of t) → IsGood rows t e z (line_of_put rows t e (put_of target end) z)
  put_good target end z sound year = record {
    sound = sound;
    on = (lines_on rows t [] e (Put (put_of target end)) z).0;
    mild = put-no_upgrade rows t e (put_of target end) z;
    plain = put-no_routine rows t e (put_of target end) z;
    flood = put_flood rows t e target end z (joined_row rows e z target);
    year = year;
  }

  ending_good : (z : Place) (row : Row) → row_at rows e z ≡ Some row → keeps_open t row ≡ true → row.flood ≡ None → IsGood rows t e z (line_on (ending_action t row) t row)
  ending_good z row h stands flood =
      let p = row_at-parts rows e z row h in
      record {
        sound = ending_sound rows t row false (is_near_end row.period.end t) (row_at-own rows e z row h) stands (λ never. cc) refl;
        on = (p.0, p.1);
        mild = either_action is_upgrade (is_near_end row.period.end t) Exp Can refl refl;
        plain = either_action is_routine (is_near_end row.period.end t) Exp Can refl refl;
        flood = flood;
        year = λ new. absurd (both_ways _ (either_action is_new (is_near_end row.period.end t) Exp Can refl refl) new);
      }

  -- what is asked in a zone: nothing where an event is opened; that it was not left, or is not gone
  abbrev pub MayBe : Deed → Place → Type 0
  MayBe (deed.Open end) z = Unit {0}
  MayBe (deed.Join end) z = was_left rows t e z ≡ false
  MayBe deed.End z = is_gone rows t e z ≡ false

  -- and of the event
  abbrev pub IsFitFor : Deed → Type 0
  IsFitFor (deed.Open end) = (has_rows rows e ≡ false) × (is_number_held rows t e ≡ false) × (e.year ≡ year_of t)
  IsFitFor (deed.Join end) = is_open rows t e ≡ true
  IsFitFor deed.End = is_open rows t e ≡ true

  module _ (dry : AllByRecursion (λ (r : Row). r.flood ≡ None) rows) where
    ending_all : (z : Place) (o : Option Row) → row_at rows e z ≡ o → not (has_row_by (keeps_open t) o) ≡ false → AllByRecursion (IsGood rows t e z) (ending_lines t o)
    ending_all z None h there = cc
    ending_all z (Some row) h there =
        (ending_good z row h (not-false _ there) (all_has (λ (r : Row). r.flood ≡ None) rows row dry (row_has z row h)), tt)
      where
        row_has : (z : Place) (row : Row) → row_at rows e z ≡ Some row → Has rows row
        row_has z row h = Rattle.action_planner.proofs.LawfulLines.found_has (Rattle.event_life.proofs.Puts.at_key e z) rows row h

    good_in : (d : Deed) → IsFitFor d → has_bad_end t d ≡ false → (z : Place) → MayBe d z → AllByRecursion (IsGood rows t e z) (lines_in rows t e d z)
    good_in (deed.Open end) fit period z may =
        (put_good (Fresh e.hazard) end z (put_sound rows t e (put_of (Fresh e.hazard) end) z (λ o. (fit.0, fit.1)) (λ o. cc) (good_end (Fresh e.hazard) end t period) refl) (λ new. fit.2), tt)
    good_in (deed.Join end) fit period z may = (
      put_good (Join e) end z (put_sound rows t e (put_of (Join e) end) z (λ o. cc) (λ o. fit) (good_end (Join e) end t period) may)
          (λ new. absurd (both_ways _ (join_old rows t e end z (joined_row rows e z (Join e))) new)),
      tt,
    )
    good_in deed.End fit period z may = ending_all z (row_at rows e z) refl may

    -- ---- all lines

    pub record IsGoodLine (line : Line) : Type 0 where
      pub sound : IsSound rows t line
      pub event : line.event ≡ e
      pub mild : is_upgrade line.action ≡ false
      pub plain : is_routine line.action ≡ false
      pub flood : line.flood ≡ None
      pub year : is_new line.action ≡ true → e.year ≡ year_of t

    good_line : (z : Place) (line : Line) → IsGood rows t e z line → IsGoodLine line
    good_line z line g = record { sound = g.sound; event = g.on.0; mild = g.mild; plain = g.plain; flood = g.flood; year = g.year }

    pub good_lines : (d : Deed) → IsFitFor d → has_bad_end t d ≡ false → (zones : List Place) → AllByRecursion (MayBe d) zones → AllByRecursion IsGoodLine (lines_in_zones rows t e d zones)
    good_lines d fit period [] may = tt
    good_lines d fit period (z ∷ zones) may =
        all_append IsGoodLine (lines_in rows t e d z) (lines_in_zones rows t e d zones)
        (all_weaker (IsGood rows t e z) IsGoodLine (good_line z) (lines_in rows t e d z) (good_in d fit period z may.0)) (good_lines d fit period zones may.1)

    -- the lines are in the zones
    lines_there : (d : Deed) → IsFitFor d → has_bad_end t d ≡ false → (P : Place → Type 0) → (zones : List Place) → AllByRecursion (MayBe d) zones → AllByRecursion P zones → AllByRecursion (λ (line : Line). P line.zone) (lines_in_zones rows t e d zones)
    lines_there d fit period P [] may all = tt
    lines_there d fit period P (z ∷ zones) may all =
        all_append (λ (line : Line). P line.zone) (lines_in rows t e d z) (lines_in_zones rows t e d zones)
        (all_weaker (IsGood rows t e z) (λ (line : Line). P line.zone) (λ line g. subst P (sym g.on.1) all.0) (lines_in rows t e d z) (good_in d fit period z may.0)) (lines_there d fit period P zones may.1 all.1)

    apart_by_zone : (l m : Line) (z : Place) → l.zone ≡ z → same_zone z m.zone ≡ false → AreApart l m
    apart_by_zone l m z is h = false_from_ne_true _ (λ s.
        let p = of_key-parts l.event l.zone m s in
        let same : m.zone ≡ z = p.1 ∙ is in
        both_ways _ (ap (same_zone z) (sym same) ∙ h) (zone_itself z))

    alone : (z : Place) (d : Deed) → EachPair AreApart (lines_in rows t e d z)
    alone z (deed.Open end) = (tt, tt)
    alone z (deed.Join end) = (tt, tt)
    alone z deed.End = ended_alone (row_at rows e z)
      where
        ended_alone : (o : Option Row) → EachPair AreApart (ending_lines t o)
        ended_alone None = tt
        ended_alone (Some row) = (tt, tt)

    pub apart_lines : (d : Deed) → IsFitFor d → has_bad_end t d ≡ false → (zones : List Place) → AllByRecursion (MayBe d) zones → IsDistinct same_zone zones → EachPair AreApart (lines_in_zones rows t e d zones)
    unfolding IsDistinct
    apart_lines d fit period [] may once = tt
    apart_lines d fit period (z ∷ zones) may once =
        let others : AllByRecursion (λ (m : Line). same_zone z m.zone ≡ false) (lines_in_zones rows t e d zones) = lines_there d fit period (λ y. same_zone z y ≡ false) zones may.1 once.0 in
        pair_append AreApart (lines_in rows t e d z) (lines_in_zones rows t e d zones) (alone z d) (apart_lines d fit period zones may.1 once.1)
        (all_weaker (IsGood rows t e z) (λ l. AllByRecursion (AreApart l) (lines_in_zones rows t e d zones))
        (λ l g. all_weaker (λ (m : Line). same_zone z m.zone ≡ false) (AreApart l) (λ m h. apart_by_zone l m z g.on.1 h) (lines_in_zones rows t e d zones) others) (lines_in rows t e d z) (good_in d fit period z may.0))
