use Rattle.event_life.proofs.FreeOrder.{are_lawful-alike, rows_after-alike}
use Rattle.event_life.proofs.laws.order_of_lines_is_free.Goals as goal

pub returns-clause-lawful : goal.returns-clause-lawful
returns-clause-lawful c = λ rows t xs ys up apart apart_too alike. are_lawful-alike rows t up xs ys apart apart_too alike

pub returns-clause-rows : goal.returns-clause-rows
returns-clause-rows c = λ rows t xs ys up apart alike. rows_after-alike rows t up xs ys apart alike
