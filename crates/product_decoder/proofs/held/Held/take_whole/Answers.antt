-- What was dropped in front, and then what is given.
use Rattle.std.proofs.Common.{rules}
use Rattle.product_decoder.specs.Holding.{rest_of}
use Rattle.product_decoder.proofs.Holding.{none_whole, ok_whole, err_keeps}
use Rattle.product_decoder.proofs.held.Held.take_whole.Goals as goal

pub returns-then-not-self-clause-taken : goal.returns-then-not-self-clause-taken
returns-then-not-self-clause-taken c = none_whole (rest_of c.args.self.now) (rest_of c.skip_to_heading.new.self) c.skip_to_heading.ensures.trimmed (c.skip_to_heading.ensures.none (search rules))

pub returns-clause-taken : goal.returns-clause-taken
returns-clause-taken c = ok_whole c.advance.result (rest_of c.args.self.now) (rest_of c.skip_to_heading.new.self) _ c.skip_to_heading.ensures.trimmed c.advance.ensures.moves

pub returns-clause-err : goal.returns-clause-err
returns-clause-err c = err_keeps c.advance.result (rest_of c.args.self.now) (rest_of c.skip_to_heading.new.self) _ c.skip_to_heading.ensures.trimmed c.advance.ensures.err
