-- A UPG line asks for a higher row, and no other line does.
use Rattle.std.proofs.Common.{◌∙◌, ap, rules, sym, true}
use Rattle.event_life.specs.declared.life.Around.{Around}
use Rattle.row_index.proofs.Asked.{asked_own, other_made, upgrade_asked, upgrade_made}
use Rattle.row_index.proofs.index.RowIndex.breach_in.Goals as goal

pub first_breach-requires-clause-around : goal.first_breach-requires-clause-around
first_breach-requires-clause-around c = asked_own c.args.self.now c.args.t c.args.line.now true c.args.around (search rules)

pub first_breach-requires-2-clause-around : goal.first_breach-requires-2-clause-around
first_breach-requires-2-clause-around c =
    let line = c.args.line.now in
    let higher = c.has_higher-higher.result in
    asked_own c.args.self.now c.args.t line higher c.nothing_around.result (c.nothing_around.ensures ∙ upgrade_asked line.action c.args.self.now c.args.t line higher (search rules))

pub returns-then-not-is_upgrade : goal.returns-then-not-is_upgrade
returns-then-not-is_upgrade c = λ lines earlier changed over second_is.
    c.first_breach.ensures ∙ other_made c.args.self.now c.args.t lines earlier c.args.line.now c.args.second c.args.around.higher (search rules) second_is

pub returns : goal.returns
returns c = λ lines earlier changed over second_is.
    let higher_is = c.has_higher-higher.ensures lines (changed (search rules)) (λ row is. over (search rules) row (sym c.own_row.ensures ∙ is)) in
    c.first_breach-2.ensures
    ∙ upgrade_made c.args.self.now c.args.t lines earlier c.args.line.now c.args.second c.nothing_around.result.higher (ap (λ (a : Around). a.higher) c.nothing_around.ensures ∙ higher_is) second_is
