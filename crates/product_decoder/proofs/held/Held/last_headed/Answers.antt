-- A product up to the next heading line comes first, and then the last.
use Rattle.std.proofs.Common.{◌∙◌, sym}
use Rattle.product_decoder.specs.Holding.{rest_of}
use Rattle.product_decoder.proofs.Holding.{some_last, none_same, same_last, same_err}
use Rattle.product_decoder.proofs.held.Held.last_headed.Goals as goal

pub returns-then-is_some-clause-taken : goal.returns-then-is_some-clause-taken
returns-then-is_some-clause-taken c = some_last (rest_of c.args.self.now) (rest_of c.advance.new.self) c.in_ok-text.text (sym c.is_some.ensures ∙ c.if-is_some.true) c.in_ok-text.ensures.moves

pub returns-clause-taken : goal.returns-clause-taken
returns-clause-taken c = same_last c.last_product.result (rest_of c.args.self.now) (rest_of c.advance.new.self) _ (none_same (rest_of c.args.self.now) (rest_of c.advance.new.self) c.in_ok-text.text (sym c.is_some.ensures ∙ c.if-is_some.false) c.in_ok-text.ensures.moves) c.last_product.ensures.taken

pub returns-clause-err : goal.returns-clause-err
returns-clause-err c = same_err c.last_product.result (rest_of c.args.self.now) (rest_of c.advance.new.self) _ (none_same (rest_of c.args.self.now) (rest_of c.advance.new.self) c.in_ok-text.text (sym c.is_some.ensures ∙ c.if-is_some.false) c.in_ok-text.ensures.moves) c.last_product.ensures.err
