use Rattle.std.proofs.Common.{rules}
use Rattle.follow_links.proofs.Listening.{bad_byte, whole_byte}
use Rattle.follow_links.proofs.reading.read_byte.Goals as goal

pub returns-in-Bad-clause-read : goal.returns-in-Bad-clause-read
returns-in-Bad-clause-read g c =
    let mid = (g.L.Link.state c.args.link.now).input.left in
    bad_byte mid mid (g.L.Link.state c.read_more.new.link).input.left c.args.bytes.now c.read_more.new.bytes c.requires.cut (search rules) (search rules)

pub returns-in-Whole-clause-read : goal.returns-in-Whole-clause-read
returns-in-Whole-clause-read g c =
    let mid = (g.L.Link.state c.args.link.now).input.left in
    whole_byte mid mid (g.L.Link.state c.read_more.new.link).input.left c.args.bytes.now c.read_more.new.bytes c.requires.cut (search rules) c.in-Whole.shape (search rules)
