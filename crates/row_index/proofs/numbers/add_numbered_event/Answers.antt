-- The events at the number, or a new list there, have the event.
use Rattle.std.proofs.Common.{rules}
use Rattle.std.proofs.lemmas.Result.{on_ok_weaker}
use Rattle.row_index.specs.Numbers.{by_number}
use Rattle.row_index.proofs.Opened.{lists-put}
use Rattle.row_index.proofs.numbers.add_numbered_event.Goals as goal

pub returns : goal.returns
returns c = on_ok_weaker c.add_event.result (λ is.
    let held = rw c.in_ok-events.ensures.value at c.or_insert-known.ensures.value in
    let put = lists-put by_number _ c.args.events.now.entries c.number_of.result c.add_event.new.events c.new.result c.or_insert-known.result.now c.args.event.now (search rules) held c.new.ensures.items is in
    rw (← c.number_of.ensures) put) c.add_event.ensures
