-- Of the rows of a zone only those that are live go on.
use Rattle.std.proofs.Common.{◌∙◌, ◌++◌, ℕ, List, Result, Ok, Err, OnOk, ap, map, filter, rules}
use Rattle.hazard_types.specs.declared.codes.Action.TheVariants.{Con}
use Rattle.hazard_types.specs.declared.line.Row.{Row}
use Rattle.action_planner.specs.Lines.{line_on, is_continued}
use Rattle.action_planner.specs.Placed.{Placed}
use Rattle.action_planner.proofs.LiveLemmas.{beside_live}
use Rattle.action_planner.proofs.lines.add_in_zone.Goals as goal

on_ok : {A E : Type 0} (r : Result A E) (P Q : Type 0) → (P → Q) → OnOk r P → OnOk r Q
on_ok (Ok x) P Q f p = f p
on_ok (Err e) P Q f p = tt

pub returns-clause-lines : goal.returns-clause-lines
returns-clause-lines c =
    let category = c.args.category in
    let s = c.args.sending.now in
    let old = c.args.lines.now in
    let some = c.rows_in_zone_with_live-rows.result.now in
    on_ok c.add_going_on.result _ _
    (λ is.
    is
    ∙ ap (λ (t : ℕ). old ++ map (line_on Con t) (filter (is_continued category t c.spoken.result.now) some)) c.minute-t.ensures
    ∙ ap (λ (ps : List Placed). old ++ map (line_on Con s.minute) (filter (is_continued category s.minute ps) some)) c.spoken.ensures
    ∙ ap (λ (rows : List Row). old ++ map (line_on Con s.minute) rows) (beside_live category s.minute s.intents c.args.zone.now s.rows some (search rules)))
    c.add_going_on.ensures
