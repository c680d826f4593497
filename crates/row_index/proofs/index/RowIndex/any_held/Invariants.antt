-- the events that are left decide as all of them do
use Rattle.std.proofs.Common.{◌≡◌, ◌&&◌, drop}
use Rattle.std.specs.Prelude.{nat_lt}
use Rattle.std.specs.List.{list_any}
use Rattle.hazard_types.specs.declared.hazard.Event.{Event}
use Rattle.event_life.specs.Products.{is_open}
use Rattle.row_index.proofs.index.RowIndex.any_held.Given as goal

abbrev pub invariant-loop-other : goal.invariant-loop-other
invariant-loop-other l = list_any (λ (d : Event). nat_lt d.year l.event.year && is_open l.self l.t d) (drop l.other-index l.events) ≡ list_any (λ (d : Event). nat_lt d.year l.event.year && is_open l.self l.t d) l.events
