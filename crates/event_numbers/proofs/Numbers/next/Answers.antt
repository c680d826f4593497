-- Each count is at most 9,999.
use Rattle.std.proofs.Common.{ap, arith, List}
use Rattle.event_numbers.specs.declared.Count.{Count}
use Rattle.event_numbers.specs.Counts.{count_of}
use Rattle.event_numbers.proofs.CountLemmas.{numbers_held}
use Rattle.event_numbers.proofs.Numbers.next.Goals as goal

pub overflow_add-result : goal.overflow_add-result
overflow_add-result c =
    let most = numbers_held c.self.inside.counted.items c.args.h c.args.year c.self.invariant.1 in
    let seen = ap (λ (cs : List Count). count_of cs c.args.h c.args.year) c.deref.ensures.value in
    omega (arith, most, seen)

pub returns-clause-range : goal.returns-clause-range
returns-clause-range c =
    let most = numbers_held c.self.inside.counted.items c.args.h c.args.year c.self.invariant.1 in
    let seen = ap (λ (cs : List Count). count_of cs c.args.h c.args.year) c.deref.ensures.value in
    omega (arith, most, seen)
