use Rattle.std.proofs.Common.{ℕ, List, rules, refl, sym, subst, ◌+◌, ◌%◌, ◌^◌, Option}
use mathlib.Core.Option.{none}
use Rattle.atomic_table.specs.Table.{Allows, step}
use Rattle.turn_lock.specs.Turns.{KeepsTurns, passed}
use Rattle.turn_lock.proofs.StepLemmas.{passes}
use Rattle.turn_lock.proofs.lock.TurnLock.pass_on.Goals as goal

pub fetch_add-served-requires : goal.fetch_add-served-requires
fetch_add-served-requires g c =
    let slots : ℕ = c.self.inside.table.shared.table_id.slots in
    let base_of = g.T.Storied.base in
    let story_of = g.T.Storied.story in
    let v = c.args.seat.now.me.0 in
    let x = c.requires.value in (
      search rules,
      search rules,
      subst (λ (cs : List (ℕ × Option g.row.T.Denot)). Allows (KeepsTurns base_of story_of) slots c.args.seat.now.id (v, cs) 1 (λ k. (k + 1) % 2 ^ 64) (passed (step slots 1 1 0 none) (v, cs)))
          (sym x.1) (passes g.row.T.Denot g.row.T-Base.Denot g.row.T-Entry.Denot base_of story_of slots c.args.seat.now.id c.requires.seat.1.0 v (base_of x.0) x.0 c.requires.seat.1.1 x.2 refl x.3),
    )
