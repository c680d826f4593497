use Rattle.std.proofs.Common.{arith, ℕ, rules, sym, subst, ◌+◌, eqb, Option}
use mathlib.Core.Option.{none}
use prog.Atomic.{either}
use Rattle.atomic_table.specs.Table.{Allows, step, Me}
use Rattle.turn_lock.specs.Turns.{KeepsTurns, drawn}
use Rattle.turn_lock.specs.declared.view.View.{View}
use Rattle.turn_lock.proofs.StepLemmas.{draws}
use Rattle.turn_lock.proofs.lock.TurnLock.draw.Goals as goal

pub compare_exchange-requires : goal.compare_exchange-requires
compare_exchange-requires g c =
    let next : ℕ = c.peek-next.result in
    let slots : ℕ = c.self.inside.table.shared.table_id.slots in
    let base_of = g.T.Storied.base in
    let story_of = g.T.Storied.story in (
      search rules,
      search rules,
      subst (λ (m : Me (Option g.row.T.Denot) (View g.row.T-Base.Denot g.row.T-Entry.Denot)). Allows (KeepsTurns base_of story_of) slots c.loop.seat.id m 0 (λ n. either (eqb n next) (next + 1) n) (drawn (step slots 0 next (next + 1) none) m))
          (sym c.loop.invariant.2)
          (draws g.row.T.Denot g.row.T-Base.Denot g.row.T-Entry.Denot base_of story_of slots c.loop.seat.id next c.args.seat.now.me.0 c.requires.3.0 c.requires.1 c.requires.3.1 (omega arith)),
    )
