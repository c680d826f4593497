-- What an intent says in a zone, by the definition and by the cases.
use Rattle.std.proofs.Common.{◌≡◌, ◌⊎◌, ◌&&◌, inl, inr, not, ℕ, List, Bool, true, false, Option, Some, None, refl, sym, ap, subst, ◌∙◌, cond, nat_le}
use Rattle.std.proofs.lemmas.Bool.{not-false}
use Rattle.std.specs.Bool.{Decides}
use Rattle.std.specs.List.{AllByRecursion}
use Rattle.hazard_types.specs.Places.{Place}
use Rattle.hazard_types.specs.declared.codes.Action.{Action}
use Rattle.hazard_types.specs.declared.codes.Action.TheVariants.{New, Con, Exa, Ext, Exb, Upg, Can, Exp}
use Rattle.hazard_types.specs.declared.hazard.Event.{Event}
use Rattle.hazard_types.specs.declared.line.Line.{Line}
use Rattle.hazard_types.specs.declared.line.Row.{Row}
use Rattle.office_types.specs.declared.request.Intent.{Intent}
use Rattle.office_types.specs.declared.request.Intent.TheVariants.{Put, Finish, Restate, Routine}
use Rattle.office_types.specs.declared.request.PutPart.{PutPart}
use Rattle.office_types.specs.declared.request.Target.{Target}
use Rattle.office_types.specs.declared.request.Target.TheVariants.{Fresh, Join}
use Rattle.event_life.specs.Bounds.{IsBefore, IsNear}
use Rattle.event_life.specs.Periods.{ends_after, is_live, keeps_open, same_at}
use Rattle.event_life.specs.Products.{row_at}
use Rattle.hazard_board.specs.Board.{has_period}
use Rattle.action_planner.specs.Placed.{Placed}
use Rattle.action_planner.specs.Lines.{continuing_line, finish_lines, finishing_action, is_near_end, is_overlaid, joined_row, line_on, lines_in, minute_of, opening_action, printed_begin, line_of_put, put_line_on, period_of_put, period_of_put_on, restate_lines, routine_line}
use Rattle.action_planner.specs.Offences.{has_row_by, is_gone, is_join_target, was_left}
use Rattle.action_planner.specs.Cases.{Continues, IsAbsent, Finishes, FirstWhere, IsLive, IsUnderHigher, Prints, PrintsRow, PutSays, Restates, Says}
use Rattle.action_planner.proofs.LawfulLists.{Has}
use Rattle.action_planner.proofs.LawfulPlaced.{IsFit}
use Rattle.action_planner.proofs.LawfulSteps.{absent_from, absent_to, going_from, going_to, is_lapsed, not_dead, row_at-own, row_at-parts}
use Rattle.action_planner.proofs.CasesWords.{first_from, first_to, le_Decides, live_Decides, near_Decides, open_Decides, period_Decides, same_Decides, same_line}
use Rattle.action_planner.proofs.CasesRows.{upgraded_Decides}

-- what is printed

prints_from : (t begin : ℕ) → Prints t begin (printed_begin begin t)
prints_from t begin = first_from (nat_le begin t) None (Some begin) _ (le_Decides begin t) refl

prints_to : (t begin : ℕ) (printed : Option ℕ) → Prints t begin printed → printed ≡ printed_begin begin t
prints_to t begin printed h = first_to (nat_le begin t) None (Some begin) printed (le_Decides begin t) h

row_printed : (a : Action) (t : ℕ) (row : Row) → PrintsRow t row (line_on a t row)
row_printed a t row = (prints_from t row.period.begin, refl, refl)

-- a line that says of a row what it is
line_of_row : (a : Action) (t : ℕ) (row : Row) (line : Line) → line.action ≡ a → row.event ≡ line.event → row.zone ≡ line.zone → PrintsRow t row line → line_on a t row ≡ line
line_of_row a t row line action event zone p = same_line (line_on a t row) line (sym action) event zone (sym (prints_to t row.period.begin line.begin p.0)) (sym p.1) (sym p.2)

module _ (rows : List Row) (t : ℕ) where
  found_at : (line : Line) (e : Event) (z : Place) (o : Option Row) → line.event ≡ e → line.zone ≡ z → row_at rows line.event line.zone ≡ o → row_at rows e z ≡ o
  found_at line e z o event zone h = ap (λ (x : Event). row_at rows x z) (sym event) ∙ ap (λ (y : Place). row_at rows line.event y) (sym zone) ∙ h

  -- puts

  continued : (e : Event) (z : Place) (part : PutPart) (row : Row) → row_at rows e z ≡ Some row → IsLive t row → Continues rows t part (continuing_line t e part row)
  continued e z part row h live =
      let begin = (period_of_put_on part t row).begin in
      record {
        row = row;
        there = ap (λ (y : Place). row_at rows e y) (row_at-parts rows e z row h).1 ∙ h;
        live = live;
        begin = begin;
        begins = first_from (nat_le row.period.begin t) row.period.begin (minute_of part.begin t) begin (le_Decides row.period.begin t) refl;
        action = first_from (same_at t row.period (period_of_put_on part t row)) Con Ext _ (same_Decides t row.period (period_of_put_on part t row)) refl;
        printed = prints_from t begin;
        end = refl;
        flood = refl;
      }

  put_says : (e : Event) (z : Place) (part : PutPart) (target : Target) (o : Option Row) → part.target ≡ target → joined_row rows e z target ≡ o →
      (is_join_target target && has_row_by (is_lapsed t) (row_at rows e z)) ≡ false → PutSays rows t part target (put_line_on rows t e part z o)
  put_says e z part (Fresh h) None g j left = record { action = ap (opening_action rows t e part) g; begin = refl; end = refl; flood = refl }
  put_says e z part (Fresh h) (Some row) g j left = cc
  put_says e z part (Join d) None g j left =
      inl (record { absent = absent_from (row_at rows e z) j; action = first_from (has_period rows e (period_of_put part t) t) Exa Exb _ (period_Decides rows t e part) (ap (opening_action rows t e part) g); begin = refl; end = refl; flood = refl })
  put_says e z part (Join d) (Some row) g j left =
      let p = going_from (row_at rows e z) row j in
      inr (continued e z part row p.0 ((live_Decides t row).0 (not_dead (row_at rows e z) t row p.0 p.1 left)))

  -- the line of a put that goes on with a row
  continuing_is : (e : Event) (part : PutPart) (line : Line) → line.event ≡ e → (s : Continues rows t part line) → continuing_line t e part s.row ≡ line
  continuing_is e part line event s =
      let begin : s.begin ≡ (period_of_put_on part t s.row).begin = first_to (nat_le s.row.period.begin t) s.row.period.begin (minute_of part.begin t) s.begin (le_Decides s.row.period.begin t) s.begins in
      let action : line.action ≡ cond (same_at t s.row.period (record { begin = s.begin; end = part.end })) Con Ext = first_to _ Con Ext line.action (same_Decides t s.row.period (record { begin = s.begin; end = part.end })) s.action in
      let printed : line.begin ≡ printed_begin s.begin t = prints_to t s.begin line.begin s.printed in
      same_line (continuing_line t e part s.row) line
      (sym (action ∙ ap (λ (m : ℕ). cond (same_at t s.row.period (record { begin = m; end = part.end })) Con Ext) begin))
      (sym event)
      (row_at-parts rows line.event line.zone s.row s.there).1
      (sym (printed ∙ ap (λ (m : ℕ). printed_begin m t) begin))
      (sym s.end) (sym s.flood)

  opening_is : (e : Event) (z : Place) (part : PutPart) (line : Line) (a : Action) → line.event ≡ e → line.zone ≡ z → opening_action rows t e part part.target ≡ a → line.action ≡ a →
      line.begin ≡ Some (minute_of part.begin t) → line.end ≡ part.end → line.flood ≡ part.flood → put_line_on rows t e part z None ≡ line
  opening_is e z part line a event zone by action begin end flood =
      same_line (put_line_on rows t e part z None) line (by ∙ sym action) (sym event) (sym zone) (sym begin) (sym end) (sym flood)

  put_is : (e : Event) (z : Place) (part : PutPart) (target : Target) (line : Line) → part.target ≡ target → line.event ≡ e → line.zone ≡ z → PutSays rows t part target line → line_of_put rows t e part z ≡ line
  put_is e z part (Fresh h) line g event zone s =
      ap (λ (x : Target). put_line_on rows t e part z (joined_row rows e z x)) g
      ∙ opening_is e z part line New event zone (ap (opening_action rows t e part) g) s.action s.begin s.end s.flood
  put_is e z part (Join d) line g event zone (inl s) =
      let action : line.action ≡ cond (has_period rows line.event (period_of_put part t) t) Exa Exb = first_to _ Exa Exb line.action (period_Decides rows t line.event part) s.action in
      ap (λ (x : Target). put_line_on rows t e part z (joined_row rows e z x)) g
      ∙ ap (put_line_on rows t e part z) (absent_to (row_at rows e z) (subst IsAbsent (sym (found_at line e z (row_at rows line.event line.zone) event zone refl)) s.absent))
      ∙ opening_is e z part line (cond (has_period rows e (period_of_put part t) t) Exa Exb) event zone (ap (opening_action rows t e part) g) (action ∙ ap (λ (x : Event). cond (has_period rows x (period_of_put part t) t) Exa Exb) event) s.begin s.end s.flood
  put_is e z part (Join d) line g event zone (inr s) =
      ap (λ (x : Target). put_line_on rows t e part z (joined_row rows e z x)) g
      ∙ ap (put_line_on rows t e part z) (going_to (row_at rows e z) s.row (found_at line e z (Some s.row) event zone s.there) s.live.0)
      ∙ continuing_is e part line event s

  -- restates

  pub restates_by : (row : Row) → row_at rows row.event row.zone ≡ Some row → IsLive t row → Restates rows t (line_on Con t row)
  restates_by row h live = record { row = row; there = h; live = live; action = refl; printed = row_printed Con t row }

  restated : (e : Event) (z : Place) (o : Option Row) → row_at rows e z ≡ o → not (has_row_by (is_live t) o) ≡ false → AllByRecursion (Restates rows t) (restate_lines t o)
  restated e z None h there = tt
  restated e z (Some row) h there = (restates_by row (row_at-own rows e z row h) ((live_Decides t row).0 (not-false _ there)), tt)

  pub restate_is : (line : Line) (s : Restates rows t line) → line_on Con t s.row ≡ line
  restate_is line s =
      let p = row_at-parts rows line.event line.zone s.row s.there in
      line_of_row Con t s.row line s.action p.0 p.1 s.printed

  module _ (all : List Placed) (fit : AllByRecursion (IsFit rows t all) all) where
    -- finishes

    finishing_from : (row : Row) (x : Bool) → Decides x (IsBefore t row.period.end × IsUnderHigher rows t all row) → (a : Action) → a ≡ cond x Upg (cond (is_near_end row.period.end t) Exp Can) →
        (IsBefore t row.period.end × IsUnderHigher rows t all row × (a ≡ Upg)) ⊎ (¬ (IsBefore t row.period.end × IsUnderHigher rows t all row)) × FirstWhere (IsNear t row.period.end) Exp Can a
    finishing_from row true d a e = let h = d.0 refl in inl (h.0, h.1, e)
    finishing_from row false d a e = inr (λ h. let f = d.1 h in cc, first_from (is_near_end row.period.end t) Exp Can a (near_Decides row.period.end t) e)

    finishing_to : (row : Row) (x : Bool) → Decides x (IsBefore t row.period.end × IsUnderHigher rows t all row) → (a : Action) →
        (IsBefore t row.period.end × IsUnderHigher rows t all row × (a ≡ Upg)) ⊎ (¬ (IsBefore t row.period.end × IsUnderHigher rows t all row)) × FirstWhere (IsNear t row.period.end) Exp Can a →
        a ≡ cond x Upg (cond (is_near_end row.period.end t) Exp Can)
    finishing_to row true d a (inl h) = h.2
    finishing_to row true d a (inr h) = absurd (h.0 (d.0 refl))
    finishing_to row false d a (inl h) = let f = d.1 (h.0, h.1) in cc
    finishing_to row false d a (inr h) = first_to (is_near_end row.period.end t) Exp Can a (near_Decides row.period.end t) h.1

    finishes_by : (row : Row) → row_at rows row.event row.zone ≡ Some row → keeps_open t row ≡ true → Finishes rows t all (line_on (finishing_action rows t all row) t row)
    finishes_by row h stands =
        let o = (open_Decides t row).0 stands in
        record {
          row = row;
          there = h;
          going = o.0;
          recent = o.1;
          action = finishing_from row (ends_after row.period.end t && is_overlaid rows t all row) (upgraded_Decides rows t all fit row) (finishing_action rows t all row) refl;
          printed = row_printed (finishing_action rows t all row) t row;
        }

    finished : (e : Event) (z : Place) (o : Option Row) → row_at rows e z ≡ o → not (has_row_by (keeps_open t) o) ≡ false → AllByRecursion (Finishes rows t all) (finish_lines rows t all o)
    finished e z None h there = tt
    finished e z (Some row) h there = (finishes_by row (row_at-own rows e z row h) (not-false _ there), tt)

    finish_is : (line : Line) (s : Finishes rows t all line) → line_on (finishing_action rows t all s.row) t s.row ≡ line
    finish_is line s =
        let p = row_at-parts rows line.event line.zone s.row s.there in
        let action : line.action ≡ finishing_action rows t all s.row = finishing_to s.row (ends_after s.row.period.end t && is_overlaid rows t all s.row) (upgraded_Decides rows t all fit s.row) line.action s.action in
        line_of_row (finishing_action rows t all s.row) t s.row line action p.0 p.1 s.printed

    -- an intent in a zone

    pub says_in : (e : Event) (i : Intent) (z : Place) → is_gone rows t e i z ≡ false → was_left rows t e i z ≡ false → AllByRecursion (Says rows t all i) (lines_in rows t all e i z)
    says_in e (Put part) z there live = (put_says e z part part.target (joined_row rows e z part.target) refl refl live, tt)
    says_in e (Finish part) z there live = finished e z (row_at rows e z) refl there
    says_in e (Restate part) z there live = restated e z (row_at rows e z) refl there
    says_in e (Routine part) z there live = (record { action = refl; begin = refl; end = refl; flood = refl }, tt)

    pub said_in : (e : Event) (i : Intent) (z : Place) (line : Line) → line.event ≡ e → line.zone ≡ z → Says rows t all i line → Has (lines_in rows t all e i z) line
    said_in e (Put part) z line event zone s = inl (put_is e z part part.target line refl event zone s)
    said_in e (Finish part) z line event zone s = subst (λ (o : Option Row). Has (finish_lines rows t all o) line) (sym (found_at line e z (Some s.row) event zone s.there)) (inl (finish_is line s))
    said_in e (Restate part) z line event zone s = subst (λ (o : Option Row). Has (restate_lines t o) line) (sym (found_at line e z (Some s.row) event zone s.there)) (inl (restate_is line s))
    said_in e (Routine part) z line event zone s = inl (same_line (routine_line e z) line (sym s.action) (sym event) (sym zone) (sym s.begin) (sym s.end) (sym s.flood))
