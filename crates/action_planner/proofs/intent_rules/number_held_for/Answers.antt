-- A number is held by the going event of its hazard, where that is of an earlier year.
use Rattle.std.proofs.Common.{◌≡◌, ◌∙◌, arith, ap, sym, true, false, None, nat_lt}
use Rattle.std.proofs.lemmas.Bool.{lt-ltb, le-ltb}
use Rattle.action_planner.proofs.GoingLemmas.{held_if_earlier, going_is_the_holder}
use Rattle.action_planner.proofs.intent_rules.number_held_for.Goals as goal

pub returns-in_err-holder : goal.returns-in_err-holder
returns-in_err-holder c =
    let none : c.going.result ≡ None = c.in_err-holder.was in
    c.from_residual.ensures ∙ ap (held_if_earlier c.args.event.now) (sym none ∙ c.going.ensures) ∙ going_is_the_holder c.args.board.now.rows c.args.t c.args.event.now c.requires

pub returns-then-holder-event : goal.returns-then-holder-event
returns-then-holder-event c =
    let holder = ap (held_if_earlier c.args.event.now) c.in_ok-holder.ensures ∙ going_is_the_holder c.args.board.now.rows c.args.t c.args.event.now c.requires in
    let early : nat_lt c.in_ok-holder.holder.year c.args.event.now.year ≡ true = lt-ltb _ _ (omega arith) in
    rw early at holder

pub returns-else-holder-event : goal.returns-else-holder-event
returns-else-holder-event c =
    let holder = ap (held_if_earlier c.args.event.now) c.in_ok-holder.ensures ∙ going_is_the_holder c.args.board.now.rows c.args.t c.args.event.now c.requires in
    let late : nat_lt c.in_ok-holder.holder.year c.args.event.now.year ≡ false = le-ltb _ _ (omega arith) in
    rw late at holder
