-- the seats that are left, with those so far, are those of both
use Rattle.std.proofs.Common.{◌≡◌, ◌||◌, Bool, drop}
use Rattle.std.specs.List.{list_any}
use Rattle.row_index.specs.declared.seats.Seat.{Seat}
use Rattle.row_index.proofs.spoken.join.Given as goal

abbrev pub invariant-loop-seat : goal.invariant-loop-seat
invariant-loop-seat l = (q : Seat → Bool) → (list_any q (drop l.seat-index l.seats) || list_any q l.others.keys) ≡ (list_any q l.seats || list_any q l.initial.others.keys)
