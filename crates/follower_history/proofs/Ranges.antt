-- Values in the range of their types: of intents, of rows, and of the lines that are planned of them.
use Rattle.std.proofs.Common.{◌≡◌, ℕ, List, [], ◌∷◌, ◌++◌, Bool, true, false, Option, Some, None, IfSome, refl, sym, subst, arith, cond, filter, nat_le, min, unwrap_or, option_map}
use Rattle.std.specs.List.{AllByRecursion}
use Rattle.hazard_types.specs.Places.{Place, IsPlace}
use Rattle.hazard_types.specs.declared.codes.Action.{Action}
use Rattle.hazard_types.specs.declared.codes.Action.TheVariants.{Con, Cor, Ext, Can, Exp, Upg}
use Rattle.hazard_types.specs.declared.codes.Category.{Category}
use Rattle.hazard_types.specs.declared.hazard.Event.{Event}
use Rattle.hazard_types.specs.declared.line.Flood.{Flood}
use Rattle.hazard_types.specs.declared.line.Line.{Line}
use Rattle.hazard_types.specs.declared.line.Row.{Row}
use Rattle.hazard_types.specs.declared.period.Begin.{Begin}
use Rattle.hazard_types.specs.declared.period.Begin.TheVariants as begin
use Rattle.office_types.specs.declared.request.Intent.{Intent}
use Rattle.office_types.specs.declared.request.Intent.TheVariants.{Put, Finish, Restate, Routine}
use Rattle.office_types.specs.declared.request.PutPart.{PutPart}
use Rattle.office_types.specs.declared.request.Target.{Target}
use Rattle.office_types.specs.declared.request.Target.TheVariants.{Fresh, Join}
use Rattle.event_life.specs.declared.life.Life.{Life}
use Rattle.event_life.specs.Products.{life_of, row_after, row_at, rows_after}
use Rattle.event_life.specs.Reordered.{are_lawful}
use Rattle.event_life.specs.Table.{flood_after, life_after_line, life_after_lawful_line}
use Rattle.event_life.proofs.LawfulLemmas.{touches}
use Rattle.event_life.proofs.Puts.{at_key}
use Rattle.event_numbers.specs.declared.Count.{Count}
use Rattle.product_frame.specs.LineRules.{HasFloodColumns}
use Rattle.request_json.specs.Formed.{IsBegin, IsEnd, IsMinute}
use Rattle.action_planner.specs.Corrections.{corrected_lines}
use Rattle.action_planner.specs.Lines.{added_lines, finish_lines, is_continued, joined_row, line_on, lines_from, lines_in, minute_of, planned_lines, put_line_on, restate_lines}
use Rattle.action_planner.specs.Placed.{Placed, placed_from, zones_of}
use Rattle.action_planner.proofs.AfterLemmas.{all_after}
use Rattle.action_planner.proofs.CorrectionLemmas.{each_corrected}
use Rattle.action_planner.proofs.LawfulKeys.{each_intent, each_zone}
use Rattle.action_planner.proofs.LawfulLines.{found_has}
use Rattle.action_planner.proofs.LawfulLists.{all_append, all_filter, all_has, all_kept, all_map, all_weaker}
use Rattle.action_planner.proofs.LawfulSteps.{going_from}

-- the text of the flood values has its columns
pub record IsPutInRange (part : PutPart) : Type 0 where
  pub zones : AllByRecursion IsPlace part.zones
  pub begin : IsBegin part.begin
  pub end : IsEnd part.end
  pub flood : HasFloodColumns part.flood

abbrev pub IsInRange : Intent → Type 0
IsInRange (Put part) = IsPutInRange part
IsInRange (Finish part) = AllByRecursion IsPlace part.zones
IsInRange (Restate part) = AllByRecursion IsPlace part.zones
IsInRange (Routine part) = AllByRecursion IsPlace part.zones

pub record IsRowInRange (row : Row) : Type 0 where
  pub zone : IsPlace row.zone
  pub begin : IsMinute row.period.begin
  pub end : IsEnd row.period.end
  pub flood : HasFloodColumns row.flood

pub record IsLineInRange (line : Line) : Type 0 where
  pub zone : IsPlace line.zone
  pub begin : IfSome line.begin IsMinute
  pub end : IsEnd line.end
  pub flood : HasFloodColumns line.flood

zones_in : (i : Intent) → IsInRange i → AllByRecursion IsPlace (zones_of i)
zones_in (Put part) own = own.zones
zones_in (Finish part) own = own
zones_in (Restate part) own = own
zones_in (Routine part) own = own

either : (b : Bool) (m n : ℕ) → IsMinute m → IsMinute n → IsMinute (cond b m n)
either true m n h g = h
either false m n h g = g

printed_in : (b : Bool) (m : ℕ) → IsMinute m → IfSome (cond b None (Some m)) IsMinute
printed_in true m h = tt
printed_in false m h = h

given_in : (o : Option ℕ) (m : ℕ) → IfSome o IsMinute → IsMinute m → IsMinute (unwrap_or o m)
given_in None m h g = g
given_in (Some n) m h g = h

lesser_in : (m n : ℕ) → IsMinute n → IsMinute (min m n)
lesser_in m n h = omega (arith, h)

flood_in : (old new : Option Flood) → HasFloodColumns old → HasFloodColumns new → HasFloodColumns (flood_after old new)
flood_in None new was own = own
flood_in (Some old) None was own = was
flood_in (Some old) (Some new) was own = own

pub placed_in : (counts : List Count) (t : ℕ) (earlier intents : List Intent) → AllByRecursion IsInRange intents → AllByRecursion (λ (p : Placed). IsInRange p.intent) (placed_from counts t earlier intents)
placed_in counts t earlier [] all = tt
placed_in counts t earlier (i ∷ intents) all = (all.0, placed_in counts t (earlier ++ i ∷ []) intents all.1)

module _ (rows : List Row) (t : ℕ) (minute : IsMinute t) (own : AllByRecursion IsRowInRange rows) where
  begin_in : (b : Begin) → IsBegin b → IsMinute (minute_of b t)
  begin_in begin.Now h = minute
  begin_in (begin.At m) h = h

  found_in : (e : Event) (z : Place) (row : Row) → row_at rows e z ≡ Some row → IsRowInRange row
  found_in e z row h = all_has IsRowInRange rows row own (found_has (at_key e z) rows row h)

  joined_in : (e : Event) (z : Place) (target : Target) (row : Row) → joined_row rows e z target ≡ Some row → IsRowInRange row
  joined_in e z (Fresh h) row g = cc
  joined_in e z (Join d) row g = found_in e z row (going_from (row_at rows e z) row g).0

  on_row : (a : Action) (row : Row) → IsRowInRange row → IsLineInRange (line_on a t row)
  on_row a row h = record { zone = h.zone; begin = printed_in (nat_le row.period.begin t) row.period.begin h.begin; end = h.end; flood = h.flood }

  put_in : (e : Event) (part : PutPart) (z : Place) → IsPutInRange part → IsPlace z → (o : Option Row) → ((row : Row) → o ≡ Some row → IsRowInRange row) → IsLineInRange (put_line_on rows t e part z o)
  put_in e part z p place None of_row = record { zone = place; begin = begin_in part.begin p.begin; end = p.end; flood = p.flood }
  put_in e part z p place (Some row) of_row =
      let r = of_row row refl in
      let m = cond (nat_le row.period.begin t) row.period.begin (minute_of part.begin t) in
      record {
        zone = r.zone;
        begin = printed_in (nat_le m t) m (either (nat_le row.period.begin t) row.period.begin (minute_of part.begin t) r.begin (begin_in part.begin p.begin));
        end = p.end;
        flood = p.flood;
      }

  module _ (all : List Placed) where
    finish_in : (o : Option Row) → ((row : Row) → o ≡ Some row → IsRowInRange row) → AllByRecursion IsLineInRange (finish_lines rows t all o)
    finish_in None of_row = tt
    finish_in (Some row) of_row = (on_row _ row (of_row row refl), tt)

    restate_in : (o : Option Row) → ((row : Row) → o ≡ Some row → IsRowInRange row) → AllByRecursion IsLineInRange (restate_lines t o)
    restate_in None of_row = tt
    restate_in (Some row) of_row = (on_row Con row (of_row row refl), tt)

    in_zone : (e : Event) (i : Intent) (z : Place) → IsInRange i → IsPlace z → AllByRecursion IsLineInRange (lines_in rows t all e i z)
    in_zone e (Put part) z p place = (put_in e part z p place (joined_row rows e z part.target) (joined_in e z part.target), tt)
    in_zone e (Finish part) z p place = finish_in (row_at rows e z) (found_in e z)
    in_zone e (Restate part) z p place = restate_in (row_at rows e z) (found_in e z)
    in_zone e (Routine part) z p place = (record { zone = place; begin = tt; end = tt; flood = tt }, tt)

    pub planned_in : (c : Category) → AllByRecursion (λ (p : Placed). IsInRange p.intent) all → AllByRecursion IsLineInRange (planned_lines c rows t all)
    planned_in c intents = all_append IsLineInRange (lines_from rows t all all) (added_lines c rows t all)
        (each_intent rows t all IsLineInRange (λ (p : Placed). IsInRange p.intent)
        (λ p h. each_zone rows t all IsLineInRange IsPlace p.event p.intent (λ z place. in_zone p.event p.intent z h place) (zones_of p.intent) (zones_in p.intent h)) all intents)
        (all_map IsLineInRange (line_on Con t) (filter (is_continued c t all) rows)
        (all_weaker (λ r. IsRowInRange r × (is_continued c t all r ≡ true)) (λ r. IsLineInRange (line_on Con t r)) (λ r h. on_row Con r h.0) (filter (is_continued c t all) rows)
        (all_filter IsRowInRange (is_continued c t all) rows own)))

  pub corrected_in : (lines : List Line) → AllByRecursion IsLineInRange (corrected_lines rows t lines)
  corrected_in lines = each_corrected rows t lines IsLineInRange (λ before line h c. subst IsLineInRange (sym c.is) (on_row Cor c.row (found_in before.event before.zone c.row c.at)))

  record IsLifeInRange (life : Life) : Type 0 where
    begin : IsMinute life.period.begin
    end : IsEnd life.period.end
    flood : HasFloodColumns life.flood

  anew : (line : Line) → IsLineInRange line → IsLifeInRange (record { period = record { begin = unwrap_or line.begin t; end = line.end }; flood = line.flood; ended = false })
  anew line h = record { begin = given_in line.begin t h.begin minute; end = h.end; flood = h.flood }

  left_in : (a : Action) (life : Life) (line : Line) → IsLifeInRange life → IsLineInRange line → IsLifeInRange (life_after_line a life line t)
  left_in Con life line was h = record { begin = given_in line.begin _ h.begin (lesser_in life.period.begin t minute); end = h.end; flood = flood_in life.flood line.flood was.flood h.flood }
  left_in Cor life line was h = record { begin = given_in line.begin _ h.begin (lesser_in life.period.begin t minute); end = h.end; flood = flood_in life.flood line.flood was.flood h.flood }
  left_in Ext life line was h = record { begin = given_in line.begin _ h.begin (lesser_in life.period.begin t minute); end = h.end; flood = flood_in life.flood line.flood was.flood h.flood }
  left_in Can life line was h = record { begin = was.begin; end = was.end; flood = flood_in life.flood line.flood was.flood h.flood }
  left_in Exp life line was h = record { begin = was.begin; end = was.end; flood = flood_in life.flood line.flood was.flood h.flood }
  left_in Upg life line was h = record { begin = was.begin; end = was.end; flood = flood_in life.flood line.flood was.flood h.flood }
  left_in _ life line was h = anew line h

  life_in : (o : Option Row) (line : Line) → ((row : Row) → o ≡ Some row → IsRowInRange row) → IsLineInRange line → IsLifeInRange (life_after_lawful_line (option_map life_of o) line t)
  unfolding life_after_lawful_line
  life_in None line of_row h = anew line h
  life_in (Some row) line of_row h = let r = of_row row refl in left_in line.action (life_of row) line (record { begin = r.begin; end = r.end; flood = r.flood }) h

  row_in : (line : Line) → IsLineInRange line → IsRowInRange (row_after rows t line)
  row_in line h =
      let life = life_in (row_at rows line.event line.zone) line (found_in line.event line.zone) h in
      record { zone = h.zone; begin = life.begin; end = life.end; flood = life.flood }

  pub rows_in : (lines : List Line) → are_lawful rows t lines ≡ true → AllByRecursion IsLineInRange lines → AllByRecursion IsRowInRange (rows_after rows t lines)
  rows_in lines lawful of_lines =
      let R : Line → Type 0 = λ line. IsRowInRange (row_after rows t line) in
      all_after IsRowInRange rows t lines lawful own (all_kept R touches lines (all_weaker IsLineInRange R (λ line h. row_in line h) lines of_lines))
