use Rattle.program_ends.proofs.Digits.{too_great}
use Rattle.program_ends.proofs.numbers.number_in.Goals as goal

pub returns-in-None : goal.returns-in-None
returns-in-None c = record { value = too_great c.args.most c.loop-digit.number c.loop-digit.digit-index c.args.word.now c.with_digit.result c.loop-digit.invariant.whole c.loop-digit-test.true c.with_digit.ensures c.in-None.is; within = tt }
