-- The zones are in order.
use Rattle.std.proofs.Common.{List, subst}
use Rattle.std.specs.List.Sorted.{IsStrictlySortedBy}
use Rattle.std.specs.Map.{keys_of}
use Rattle.hazard_types.specs.Places.{Place, by_place}
use Rattle.event_life.specs.declared.life.Life.{Life}
use Rattle.row_index.proofs.SharedRows.{told-ascending}
use Rattle.row_index.proofs.lives.LifeMap.rows.Goals as goal

pub returns-in_err-list-clause-order : goal.returns-in_err-list-clause-order
returns-in_err-list-clause-order c =
    subst (λ (es : List (Place × Life)). IsStrictlySortedBy by_place (keys_of es)) c.self.view_is (told-ascending c.self.inside.lives.items c.self.inside.seats c.self.invariant)

pub returns-clause-order : goal.returns-clause-order
returns-clause-order c =
    subst (λ (es : List (Place × Life)). IsStrictlySortedBy by_place (keys_of es)) c.self.view_is (told-ascending c.self.inside.lives.items c.self.inside.seats c.self.invariant)
