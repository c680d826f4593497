-- The count at the place is the one drawn of; without one, a count of one is put in at its own place.
use Rattle.std.proofs.Common.{◌≤◌, ◌+◌, List, arith, ap, subst}
use Rattle.event_numbers.specs.declared.Count.{Count}
use Rattle.event_numbers.specs.Counts.{count_of, Drawn, IsPlaceOf, IsGapFor}
use Rattle.event_numbers.proofs.CountLemmas.{held, one_more, opened, numbers_set, numbers_insert}
use Rattle.event_numbers.proofs.PlaceLemmas.{sorted_set, sorted_insert}
use Rattle.event_numbers.proofs.Numbers.commit.Goals as goal
use Rattle.event_numbers.proofs.Numbers.commit.Goals.{After-index_mut-count, In-Ok-insert}

there : (c : After-index_mut-count) → IsPlaceOf c.args.h c.args.year c.self.inside.counted.items c.in-Ok.place
there c = subst (λ (counts : List Count). IsPlaceOf c.args.h c.args.year counts c.in-Ok.place) c.deref.ensures.value c.in-Ok.ensures.found

room : (c : After-index_mut-count) → c.index_mut-count.result.now.count + 1 ≤ 9999
room c =
    let is = held c.args.h c.args.year c.self.inside.counted.items c.in-Ok.place c.index_mut-count.result.now (there c) c.index_mut-count.ensures.value in
    let seen = ap (λ (d : Drawn). count_of d.counts c.args.h c.args.year) c.self.view_is in
    omega (arith, is, seen)

gap : (c : In-Ok-insert) → IsGapFor c.args.h c.args.year c.self.inside.counted.items c.in-Err.place
gap c = subst (λ (counts : List Count). IsGapFor c.args.h c.args.year counts c.in-Err.place) c.deref.ensures.value c.in-Err.ensures.absent

pub overflow_add-count : goal.overflow_add-count
overflow_add-count c = let fits = room c in omega (arith, fits)

pub invariant_of-self : goal.invariant_of-self
invariant_of-self c =
    let at = (goal.at.invariant_of-self c).After-index_mut-count in (
      sorted_set c.self.inside.counted.items c.in-Ok.place c.index_mut-count.result.now (c.index_mut-count.result.now.count + 1) (there at).within c.index_mut-count.ensures.value c.self.invariant.0,
      numbers_set c.self.inside.counted.items c.in-Ok.place _ c.self.invariant.1 (room at),
    )

pub invariant_of-self-in-Ok-insert : goal.invariant_of-self-in-Ok-insert
invariant_of-self-in-Ok-insert c =
    rw (c.in-Ok-insert.ensures.items) (
      sorted_insert c.args.h c.args.year 1 c.self.inside.counted.items c.in-Err.place (gap (goal.at.invariant_of-self-in-Ok-insert c).In-Ok-insert) c.self.invariant.0,
      numbers_insert c.self.inside.counted.items c.in-Err.place _ c.self.invariant.1 (omega arith),
    )

pub returns-in-Ok-clause-drawn : goal.returns-in-Ok-clause-drawn
returns-in-Ok-clause-drawn c = rw (← c.self.view_is) (one_more c.args.h c.args.year c.self.inside.counted.items c.in-Ok.place c.index_mut-count.result.now (there (goal.at.returns-in-Ok-clause-drawn c).After-index_mut-count) c.index_mut-count.ensures.value)

pub returns-in-Ok-insert-clause-drawn : goal.returns-in-Ok-insert-clause-drawn
returns-in-Ok-insert-clause-drawn c =
    rw (c.in-Ok-insert.ensures.items, ← c.self.view_is) (opened c.args.h c.args.year c.self.inside.counted.items c.in-Err.place (gap (goal.at.returns-in-Ok-insert-clause-drawn c).In-Ok-insert))
