use Rattle.std.proofs.Common.{rules}
use Rattle.warn_serve.proofs.Fronts.{first_failed, then_second}
use Rattle.warn_serve.proofs.pieces.write_both.Goals as goal

pub returns-in_err-write_link : goal.returns-in_err-write_link
returns-in_err-write_link g c =
    let state = g.L.Link.state in
    let sent = c.in_err-write_link.ensures in
    first_failed (state c.args.link.now) (state c.write_link.new.link) c.args.first.now c.args.second.now c.from_residual.result sent.part sent.came sent.input (search rules) (search rules) (search rules)

pub returns : goal.returns
returns g c =
    let state = g.L.Link.state in
    then_second (state c.args.link.now) (state c.write_link.new.link) (state c.write_link-2.new.link) c.args.first.now c.args.second.now c.write_link-2.result c.in_ok-write_link.field-0 c.in_ok-write_link.ensures c.write_link-2.ensures
