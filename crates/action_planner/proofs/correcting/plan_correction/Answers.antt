-- A rule that is named is the first that is broken; the lines, which are apart, are lawful.
use Rattle.std.proofs.Common.{◌≡◌, ◌∙◌, List, Option, Some, None, ap, rules}
use Rattle.hazard_types.specs.declared.line.Line.{Line}
use Rattle.office_types.specs.declared.refusal.Refusal.{Refusal}
use Rattle.event_life.specs.Reordered.{are_lawful}
use Rattle.action_planner.specs.Corrections.{broken_on, corrected_lines, first_without_line}
use Rattle.action_planner.proofs.CorrectionLemmas.{corrected_lawful, other_named, text_named}
use Rattle.action_planner.proofs.correcting.plan_correction.Goals as goal

pub returns-in-Some-clause-refused : goal.returns-in-Some-clause-refused
returns-in-Some-clause-refused c r e =
    let same : c.in-Some.refusal ≡ r = cc in
    let named : first_without_line c.args.sent.now.lines c.args.texts.now ≡ Some c.in-Some.refusal = search rules in
    text_named c.args.board.now.rows c.args.t c.args.sent.now c.args.last c.args.letters c.args.texts.now r (named ∙ ap Some same)

pub returns-in-Some-2-clause-refused : goal.returns-in-Some-2-clause-refused
returns-in-Some-2-clause-refused c r e =
    let same : c.in-Some-2.refusal ≡ r = cc in
    let early : first_without_line c.args.sent.now.lines c.args.texts.now ≡ None = search rules in
    let lines : c.in_ok-lines.lines ≡ corrected_lines c.args.board.now.rows c.args.t c.args.sent.now.lines = search rules in
    let late : Some c.in-Some-2.refusal ≡ broken_on c.args.board.now.rows c.args.t c.args.sent.now.number c.args.last c.args.letters c.in_ok-lines.lines = search rules in
    other_named c.args.board.now.rows c.args.t c.args.sent.now c.args.last c.args.letters c.args.texts.now c.in_ok-lines.lines (Some c.in-Some-2.refusal) lines early late ∙ ap Some same

pub returns-clause-kept : goal.returns-clause-kept
returns-clause-kept c =
    let early : first_without_line c.args.sent.now.lines c.args.texts.now ≡ None = search rules in
    let lines : c.in_ok-lines.lines ≡ corrected_lines c.args.board.now.rows c.args.t c.args.sent.now.lines = search rules in
    let late : ◌≡◌ {A = Option Refusal} None (broken_on c.args.board.now.rows c.args.t c.args.sent.now.number c.args.last c.args.letters c.in_ok-lines.lines) = search rules in
    other_named c.args.board.now.rows c.args.t c.args.sent.now c.args.last c.args.letters c.args.texts.now c.in_ok-lines.lines None lines early late

pub returns-clause-lawful : goal.returns-clause-lawful
returns-clause-lawful c =
    let lines : c.in_ok-correction_of.field-0.lines ≡ corrected_lines c.args.board.now.rows c.args.t c.args.sent.now.lines = search rules in
    ap (λ (ls : List Line). are_lawful c.args.board.now.rows c.args.t ls) lines ∙ corrected_lawful c.args.board.now.rows c.args.t c.args.sent.now.lines c.requires.consistent.ends c.requires.apart
