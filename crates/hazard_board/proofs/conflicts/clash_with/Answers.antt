-- A row that is not live clashes with none, and a live one within its zone alone.
use Rattle.std.proofs.Common.{◌≡◌, ◌∙◌, false, sym, ap, option_map}
use Rattle.std.proofs.lemmas.Bool.{not-true}
use Rattle.hazard_types.specs.Same.{same_zone}
use Rattle.hazard_board.specs.Clashes.{clash_of}
use Rattle.hazard_board.proofs.DeadLemmas.{clashes_with_none}
use Rattle.hazard_board.proofs.ZoneLemmas.{none_outside}
use Rattle.hazard_board.proofs.conflicts.clash_with.Goals as goal

pub returns-then-not-is_live : goal.returns-then-not-is_live
returns-then-not-is_live c = clashes_with_none c.args.t c.args.first.now c.args.others.now (sym c.is_live.ensures ∙ c.if-not-is_live.true)

pub returns-then-ne : goal.returns-then-ne
returns-then-ne c =
    let other : same_zone c.second-item.result.zone c.args.first.now.zone ≡ false = not-true _ (sym c.ne.ensures ∙ c.if-ne.true) in
    let none = none_outside c.args.t c.args.first.now c.second-item.result c.args.others.now c.loop-second.second-index c.requires c.loop-second-test.true c.second-item.is other in
    sym (ap (option_map (clash_of c.args.first.now)) (sym c.loop-second.invariant ∙ none))
