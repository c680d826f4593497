use Rattle.std.proofs.Common.{◌≡◌, ℕ, rules, ap, subst, sym, ◌∙◌}
use Rattle.std.specs.Prelude.{Contains}
use mathlib.Core.Option.{some}
use lib.ListN.{get_elem?}
use Rattle.turn_lock.specs.declared.view.View.{View}
use Rattle.turn_lock.specs.Passes.{PassRecord}
use Rattle.turn_lock.specs.Turns.{turn_of, both}
use Rattle.turn_lock.proofs.Parts.{has_base, no_common, at_contained}
use Rattle.turn_lock.proofs.StepLemmas.{joins, settles_all}
use Rattle.turn_lock.proofs.lock.TurnLock.join.Goals as goal

pub join_seat-requires : goal.join_seat-requires
join_seat-requires g c =
    let mine = c.pass.inside.seat in
    let theirs = c.other.inside.seat in (
      search rules,
      search rules,
      search rules,
      search rules,
      joins g.row.T.Denot g.row.T-Base.Denot g.row.T-Entry.Denot g.T.Storied.base g.T.Storied.story
          mine.id mine.me.0 _ theirs.id theirs.me.0 _ (has_base _ c.pass.inside.live) (has_base _ c.other.inside.live) c.other.invariant.0 (ap turn_of c.pass.invariant.0),
    )

pub load-requires : goal.load-requires
load-requires g c = (
  search rules,
  search rules,
  settles_all g.row.T.Denot g.row.T-Base.Denot g.row.T-Entry.Denot g.T.Storied.base g.T.Storied.story _ _ _ _ _
      (ap (λ z. z.0.base) c.join_seat.ensures.2 ∙ has_base _ c.pass.inside.live),
)

pub returns-clause-apart : goal.returns-clause-apart
returns-clause-apart g c = λ place left right.
    let V : Type 0 = View g.row.T-Base.Denot g.row.T-Entry.Denot in
    let view : c.join_seat.new.seat.me.0 ≡ both c.pass.inside.seat.me.0 c.other.inside.seat.me.0 = ap (λ m. m.0) c.join_seat.ensures.2 in
    let once = subst (λ (v : V). (x y q : ℕ) → get_elem? v.mine x ≡ some q → get_elem? v.mine y ≡ some q → x ≡ y) view c.load.ensures.2.1 in
    let mine = subst (λ (p : PassRecord g.row.T-Base.Denot g.row.T-Entry.Denot). Contains p.mine place) (sym c.pass.view_is) left in
    let theirs = subst (λ (p : PassRecord g.row.T-Base.Denot g.row.T-Entry.Denot). Contains p.mine place) (sym c.other.view_is) right in
    no_common c.pass.inside.seat.me.0.mine c.other.inside.seat.me.0.mine place mine.0 theirs.0 (λ x y. once x y place) (at_contained _ place mine) (at_contained _ place theirs)
