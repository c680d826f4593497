use Rattle.std.proofs.Common.{◌≡◌, ◌<◌, ℕ, [], ◌∷◌, ◌++◌, length, rules, sym, subst, ap, ◌∙◌, ◌+◌, ◌%◌, ◌^◌, Option, Some, arith, ⊎_elim}
use mathlib.Core.Option.{none}
use Rattle.atomic_table.specs.Table.{Allows, step, Me, rest}
use Rattle.turn_lock.specs.Turns.{KeepsTurns, adds}
use Rattle.turn_lock.specs.declared.view.View.{View}
use Rattle.turn_lock.proofs.StepLemmas.{adds_one}
use Rattle.turn_lock.proofs.lock.TurnLock.put_back.Goals as goal

pub fetch_add-requires : goal.fetch_add-requires
fetch_add-requires g c =
    let slots : ℕ = c.self.inside.table.shared.table_id.slots in
    let base_of = g.T.Storied.base in
    let story_of = g.T.Storied.story in
    let E : Type 0 = g.row.T-Entry.Denot in
    let old : View g.row.T-Base.Denot E = c.args.seat.now.me.0 in
    let is : c.exchange-old.new.seat.me ≡ (old, (0, Some c.args.value) ∷ []) =
    c.exchange-old.ensures.3 ∙ (λ i. (old, (0, Some c.args.value) ∷ rest (c.requires.seat.2 i))) in
    let counted : c.count.result ≡ length (story_of c.args.value) = c.count.ensures in
    let before = c.requires.value.1 in
    let more : (e : E) × (story_of c.args.value ≡ old.seen ++ e ∷ []) = ⊎_elim
    (λ (same : story_of c.args.value ≡ old.seen). let as_before : c.count.result ≡ c.args.before = counted ∙ (ap length same ∙ sym before) in absurd (omega arith))
    (λ (one : (e : E) × (story_of c.args.value ≡ old.seen ++ e ∷ [])). one)
    c.requires.story in
    let short : length (story_of c.args.value) < 18446744073709551616 = subst (λ (n : ℕ). n < 18446744073709551616) counted c.count.type_inv in (
      search rules,
      search rules,
      subst (λ (m : Me (Option g.row.T.Denot) (View g.row.T-Base.Denot E)). Allows (KeepsTurns base_of story_of) slots c.exchange-old.new.seat.id m 2 (λ k. (k + 1) % 2 ^ 64) (adds story_of (step slots 2 1 0 none) m))
          (sym is) (adds_one g.row.T.Denot g.row.T-Base.Denot E base_of story_of slots c.exchange-old.new.seat.id c.requires.seat.1.0 old (base_of c.args.value) c.args.value more.0 c.requires.seat.1.1 c.requires.value.0 more.1 short),
    )
