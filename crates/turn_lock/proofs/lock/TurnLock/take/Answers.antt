use Rattle.std.proofs.Common.{◌≡◌, ℕ, [], ◌∷◌, rules, refl, sym, subst, ap, ◌∙◌, Option, Some, None}
use mathlib.Core.Option.{none}
use Rattle.atomic_table.specs.Table.{Allows, step, Me, rest}
use Rattle.turn_lock.specs.Turns.{KeepsTurns, looked, learns, staged, taught}
use Rattle.turn_lock.specs.declared.view.View.{View}
use Rattle.turn_lock.specs.declared.view.Stage.TheVariants.{Serves}
use Rattle.turn_lock.proofs.StepLemmas.{looks, learns_all}
use Rattle.turn_lock.proofs.lock.TurnLock.take.Goals as goal

pub load-requires : goal.load-requires
load-requires g c =
    let slots : ℕ = c.self.inside.table.shared.table_id.slots in
    let base_of = g.T.Storied.base in
    let story_of = g.T.Storied.story in (
      search rules,
      search rules,
      subst (λ (m : Me (Option g.row.T.Denot) (View g.row.T-Base.Denot g.row.T-Entry.Denot)). Allows (KeepsTurns base_of story_of) slots c.loop.seat.id m 1 (λ k. k) (looked base_of story_of (step slots 1 0 0 none) m))
          (sym c.loop.invariant.2)
          (looks g.row.T.Denot g.row.T-Base.Denot g.row.T-Entry.Denot base_of story_of slots c.loop.seat.id c.args.ticket c.args.seat.now.me.0 c.requires.3.0 c.requires.1 c.requires.3.1),
    )

pub exchange-requires : goal.exchange-requires
exchange-requires g c =
    let m = c.loop.invariant.2 in
    let won = (c.load.ensures.2 c.args.ticket (ap (λ z. z.0.stage) m ∙ c.requires.1)).0 (search rules) in
    let got = ap (λ z. z.1) won.1 in
    (search rules, (Some won.0, got ∙ ap (λ l. (0, Some won.0) ∷ rest l) (sym got)))

pub load-count-requires : goal.load-count-requires
load-count-requires g c =
    let slots : ℕ = c.self.inside.table.shared.table_id.slots in
    let base_of = g.T.Storied.base in
    let story_of = g.T.Storied.story in
    let held = story_of c.unwrap-value.result in
    let serves : View g.row.T-Base.Denot g.row.T-Entry.Denot = staged (Serves c.args.ticket held) c.args.seat.now.me.0 in
    let taken : c.exchange.new.seat.me ≡ (serves, (0, None) ∷ []) = search rules in (
      search rules,
      search rules,
      subst (λ (m : Me (Option g.row.T.Denot) (View g.row.T-Base.Denot g.row.T-Entry.Denot)). Allows (KeepsTurns base_of story_of) slots c.exchange.new.seat.id m 2 (λ k. k) (learns (step slots 2 0 0 none) m))
          (sym taken) (learns_all g.row.T.Denot g.row.T-Base.Denot g.row.T-Entry.Denot base_of story_of slots c.exchange.new.seat.id c.args.ticket held serves c.requires.3.0 ((0, None) ∷ []) refl c.requires.3.1),
    )

pub returns-then-load-ticket-clause-seat : goal.returns-then-load-ticket-clause-seat
returns-then-load-ticket-clause-seat g c =
    let held = g.T.Storied.story c.unwrap-value.result in
    let serves : View g.row.T-Base.Denot g.row.T-Entry.Denot = staged (Serves c.args.ticket held) c.args.seat.now.me.0 in
    let taken : c.exchange.new.seat.me ≡ (serves, (0, None) ∷ []) = search rules in
    (search rules, search rules, (c.load-count.ensures.2 c.args.ticket held (ap (λ m. m.0.stage) taken)).0 ∙ (λ i. (taught c.args.ticket held (taken i).0, (taken i).1)))
