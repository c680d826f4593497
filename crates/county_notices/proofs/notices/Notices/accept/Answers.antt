-- The lines of a command that breaks no rule are lawful, and what stands between commands stands behind it.
use Rattle.std.proofs.Common.{◌≡◌, ◌∙◌, List, None, ap, rules, subst, sym, true}
use Rattle.event_life.specs.Products.{rows_after}
use Rattle.event_life.specs.Reordered.{are_lawful}
use Rattle.hazard_types.specs.declared.line.Row.{Row}
use Rattle.county_notices.specs.Commands.{Noticed, broken}
use Rattle.county_notices.specs.Lines.{lines_of}
use Rattle.county_notices.specs.NoticeHistory.{after}
use Rattle.county_notices.specs.Standing.{IsStanding}
use Rattle.county_notices.proofs.LawfulNotice.{lawful, standing_after}
use Rattle.county_notices.proofs.notices.Notices.accept.Goals as goal

pub apply-requires-clause-lawful : goal.apply-requires-clause-lawful
apply-requires-clause-lawful c =
    let s = c.args.self.now in
    let command = c.args.command.now in
    let stands : IsStanding s = subst IsStanding c.self.view_is c.self.invariant in
    let none : broken s command ≡ None = c.in_ok-judged.ensures.accepted.kept in
    let rows : c.reserve.new.self.rows ≡ s.rows = search rules in
    subst (λ (rs : List Row). are_lawful rs command.at c.in_ok-judged.judged.lines ≡ true) (sym rows) (lawful s command c.in_ok-judged.judged.lines stands none c.in_ok-judged.ensures.lines)

pub invariant_of-self-2 : goal.invariant_of-self-2
invariant_of-self-2 c =
    let s = c.args.self.now in
    let command = c.args.command.now in
    let stands : IsStanding s = subst IsStanding c.self.view_is c.self.invariant in
    let none : broken s command ≡ None = c.in_ok-judged.ensures.accepted.kept in
    let rows : c.reserve.new.self.rows ≡ s.rows = search rules in
    let lines : c.in_ok-judged.judged.lines ≡ lines_of s.rows command = c.in_ok-judged.ensures.lines in
    let left : c.apply.new.self.rows ≡ (after s command).rows = c.apply.ensures.rows ∙ (λ i. rows_after (rows i) command.at (lines i)) in
    let by : c.self.inside.issuer ≡ s.by = ap (λ (x : Noticed). x.by) c.self.view_is in
    let same : after s command ≡ record { by = c.self.inside.issuer; rows = c.apply.new.self.rows; last = command.at } = λ i. record { by = sym by i; rows = sym left i; last = command.at } in
    subst IsStanding same (standing_after s command stands c.requires none)
