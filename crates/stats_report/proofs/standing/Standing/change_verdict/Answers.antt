use Rattle.std.proofs.Common.{rules, ◌∙◌, fold, sym, ap}
use Rattle.std.proofs.lemmas.Result.{on_ok_weaker}
use Rattle.stats_report.specs.Spells.{kept_of, turned_in, turn_at, with_turn}
use Rattle.stats_report.specs.declared.standing.Change.{Change}
use Rattle.stats_report.proofs.Spelling.{verdict_taken}
use Rattle.stats_report.proofs.standing.Standing.change_verdict.Goals as goal

pub returns : goal.returns
returns c =
    let old = kept_of c.args.self.now in
    let event = c.args.verdict.now.line.event in
    let places = c.args.places.now in
    on_ok_weaker c.change_event.result (λ told. verdict_taken c.args.moment.now old (kept_of c.change_event.new.self) c.args.verdict.now places
    (search rules) (sym c.is_empty.ensures ∙ c.if-is_empty.false)
    (told ∙ ap (λ (change : Change). with_turn old event (fold (turned_in change) (turn_at old event) places)) c.change_of-change.ensures)) c.change_event.ensures
