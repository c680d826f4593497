-- A command that breaks no rule comes in time, and its lines may be written.
use Rattle.std.proofs.Common.{◌≡◌, None, rules, subst}
use Rattle.county_notices.specs.Commands.{broken}
use Rattle.county_notices.specs.Lines.{lines_of}
use Rattle.county_notices.specs.Standing.{IsStanding}
use Rattle.county_notices.proofs.LawfulNotice.{plain_lines, timely}
use Rattle.county_notices.proofs.notices.Notices.judge.Goals as goal

pub notice_text-requires-clause-minute : goal.notice_text-requires-clause-minute
notice_text-requires-clause-minute c =
    let none : broken c.args.self.now c.args.command.now ≡ None = search rules in
    timely c.args.self.now c.args.command.now none

pub notice_text-requires-clause-lines : goal.notice_text-requires-clause-lines
notice_text-requires-clause-lines c =
    let none : broken c.args.self.now c.args.command.now ≡ None = search rules in
    let lines : c.in_ok-lines.lines ≡ lines_of c.args.self.now.rows c.args.command.now = search rules in
    let stands : IsStanding c.args.self.now = subst IsStanding c.self.view_is c.self.invariant in
    plain_lines c.args.self.now c.args.command.now c.in_ok-lines.lines stands c.requires none lines
