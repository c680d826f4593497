use Rattle.std.proofs.Common.{◌≡◌, [], ◌∷◌, List, Option, Some, sym, subst, rules}
use Rattle.atomic_table.specs.Table.{opening}
use Rattle.turn_lock.specs.Turns.{starting, KeepsTurns}
use Rattle.turn_lock.proofs.StepLemmas.{starts}
use Rattle.turn_lock.proofs.lock.TurnLock.start.Goals as goal

pub new-requires-2 : goal.new-requires-2
new-requires-2 g c =
    let base_of = g.T.Storied.base in
    let story_of = g.T.Storied.story in
    let one : c.push_reserved.new.self.items ≡ Some c.args.value ∷ [] = search rules in
    let about : c.of-about.result.value ≡ c.args.value = search rules in
    subst (λ (z : List (Option g.row.T.Denot) × g.row.T.Denot). KeepsTurns base_of story_of (opening (0 ∷ 0 ∷ c.count-count.result ∷ []) z.0 (starting (base_of z.1) (story_of z.1))))
    (λ i. (sym one i, sym about i)) (starts g.row.T.Denot g.row.T-Base.Denot g.row.T-Entry.Denot base_of story_of c.args.value c.count-count.result c.count-count.ensures)
