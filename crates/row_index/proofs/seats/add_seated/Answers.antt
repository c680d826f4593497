-- The row comes to its seat.
use Rattle.std.proofs.Common.{◌∙◌, List, ap, sym, subst}
use Rattle.std.proofs.lemmas.Result.{on_ok_weaker}
use Rattle.std.specs.Map.{values_of}
use Rattle.hazard_types.specs.declared.line.Row.{Row}
use Rattle.row_index.specs.declared.seats.Seat.{Seat}
use Rattle.row_index.specs.Seating.{AreSeated}
use Rattle.row_index.proofs.Seated.{values-put, seated-put, looked_up}
use Rattle.row_index.proofs.seats.add_seated.Goals as goal

pub returns-clause-before : goal.returns-clause-before
returns-clause-before c = on_ok_weaker c.set.result (λ is. is ∙ looked_up c.args.seated.now.entries c.requires c.args.row.now.event c.args.row.now.zone) c.set.ensures.before

pub returns-clause-rows : goal.returns-clause-rows
returns-clause-rows c = on_ok_weaker c.set.result (λ is. ap (λ (es : List (Seat × Row)). values_of es) is ∙ values-put c.args.row.now c.args.seated.now.entries c.requires) c.set.ensures.set

pub returns-clause-seated : goal.returns-clause-seated
returns-clause-seated c = on_ok_weaker c.set.result (λ is. subst (λ (es : List (Seat × Row)). AreSeated es) (sym is) (seated-put c.args.row.now c.args.seated.now.entries c.requires)) c.set.ensures.set
