-- The number is held by the open event, where that is of an earlier year.
use Rattle.std.proofs.Common.{◌≡◌, ◌∙◌, arith, ap, sym, true, false, None, nat_lt}
use Rattle.std.proofs.lemmas.Bool.{lt-ltb, le-ltb}
use Rattle.hazard_types.specs.declared.hazard.Event.{Event}
use Rattle.county_notices.specs.Lines.{new_event}
use Rattle.county_notices.proofs.HolderLemmas.{held_if_earlier, going_holds}
use Rattle.county_notices.proofs.rules.holder.Goals as goal

pub returns-in_err-holder : goal.returns-in_err-holder
returns-in_err-holder c =
    let none : c.open_event.result ≡ None = c.in_err-holder.was in
    let e = new_event c.args.command.now in
    c.from_residual.ensures ∙ ap (held_if_earlier e) (sym none ∙ c.open_event.ensures) ∙ going_holds c.args.board.now.rows c.args.command.now.at e c.requires

pub returns-then-holder-event : goal.returns-then-holder-event
returns-then-holder-event c =
    let e = new_event c.args.command.now in
    let year : c.new_event-event.result.year ≡ e.year = ap (λ (x : Event). x.year) c.new_event-event.ensures in
    let holder = ap (held_if_earlier e) c.in_ok-holder.ensures ∙ going_holds c.args.board.now.rows c.args.command.now.at e c.requires in
    let early : nat_lt c.in_ok-holder.holder.year e.year ≡ true = lt-ltb _ _ (omega (arith, year)) in
    rw early at holder

pub returns-else-holder-event : goal.returns-else-holder-event
returns-else-holder-event c =
    let e = new_event c.args.command.now in
    let year : c.new_event-event.result.year ≡ e.year = ap (λ (x : Event). x.year) c.new_event-event.ensures in
    let holder = ap (held_if_earlier e) c.in_ok-holder.ensures ∙ going_holds c.args.board.now.rows c.args.command.now.at e c.requires in
    let late : nat_lt c.in_ok-holder.holder.year e.year ≡ false = le-ltb _ _ (omega (arith, year)) in
    rw late at holder
