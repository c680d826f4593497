-- The rows tell the zones and the lives again.
use Rattle.std.proofs.Common.{◌∙◌, List, ap, subst, sym}
use Rattle.std.specs.List.Sorted.{IsStrictlySortedBy}
use Rattle.std.specs.Map.{keys_of}
use Rattle.hazard_types.specs.Places.{Place, by_place}
use Rattle.hazard_types.specs.declared.line.Row.{Row}
use Rattle.event_life.specs.declared.life.Life.{Life}
use Rattle.row_index.specs.Sharing.{lives_of}
use Rattle.row_index.proofs.SharedRows.{lives-back}
use Rattle.row_index.proofs.lives.LifeMap.compacted.Goals as goal

pub add_all-requires-clause-order : goal.add_all-requires-clause-order
add_all-requires-clause-order c =
    subst (λ (es : List (Place × Life)). IsStrictlySortedBy by_place (keys_of es))
    (sym (ap (λ (rows : List Row). lives_of rows) (c.deref.ensures.value ∙ c.in_ok-rows.ensures.rows) ∙ lives-back c.args.event.now c.args.self.now)) c.in_ok-rows.ensures.order

pub returns : goal.returns
returns c = c.in_ok-add_all.ensures ∙ ap (λ (rows : List Row). lives_of rows) (c.deref.ensures.value ∙ c.in_ok-rows.ensures.rows) ∙ lives-back c.args.event.now c.args.self.now
