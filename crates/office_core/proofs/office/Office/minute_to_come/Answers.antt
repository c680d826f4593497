-- An entry comes in order.
use Rattle.std.proofs.Common.{◌≡◌, ◌≤◌, ℕ, subst, sym, rules}
use Rattle.office_core.specs.Rules.{minute_of}
use Rattle.office_core.specs.Sound.{IsSound}
use Rattle.office_core.specs.Views.{OfficeView}
use Rattle.office_core.proofs.office.Office.minute_to_come.Goals as goal

pub returns-clause-range : goal.returns-clause-range
returns-clause-range c =
    let sound = subst (λ (o : OfficeView). IsSound o.state o.counts) c.self.view_is c.self.invariant.0 in
    let is : c.minute_of.result ≡ minute_of c.args.self.now.state c.args.reading = search rules in
    subst (λ (n : ℕ). n ≤ 52000000) (sym is) (c.entries_come_in_order.ensures c.args.self.now.state c.args.self.now.counts c.args.reading sound c.requires).1
