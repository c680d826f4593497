-- What was dropped in front, and then what is given.
use Rattle.product_decoder.specs.Holding.{rest_of}
use Rattle.product_decoder.proofs.Holding.{ok_last, err_keeps}
use Rattle.product_decoder.proofs.held.Held.take_last.Goals as goal

pub returns-then-not-self-clause-taken : goal.returns-then-not-self-clause-taken
returns-then-not-self-clause-taken c = ok_last c.last_line.result (rest_of c.args.self.now) (rest_of c.skip_to_heading.new.self) _ c.skip_to_heading.ensures.trimmed c.last_line.ensures.taken

pub returns-then-not-self-clause-err : goal.returns-then-not-self-clause-err
returns-then-not-self-clause-err c = err_keeps c.last_line.result (rest_of c.args.self.now) (rest_of c.skip_to_heading.new.self) _ c.skip_to_heading.ensures.trimmed c.last_line.ensures.err

pub returns-clause-taken : goal.returns-clause-taken
returns-clause-taken c = ok_last c.last_headed.result (rest_of c.args.self.now) (rest_of c.skip_to_heading.new.self) _ c.skip_to_heading.ensures.trimmed c.last_headed.ensures.taken

pub returns-clause-err : goal.returns-clause-err
returns-clause-err c = err_keeps c.last_headed.result (rest_of c.args.self.now) (rest_of c.skip_to_heading.new.self) _ c.skip_to_heading.ensures.trimmed c.last_headed.ensures.err
