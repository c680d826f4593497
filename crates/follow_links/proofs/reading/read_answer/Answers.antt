use Rattle.follow_links.proofs.Listening.{answer_stops}
use Rattle.follow_links.proofs.reading.read_answer.Goals as goal

pub returns-in-Err-clause-read : goal.returns-in-Err-clause-read
returns-in-Err-clause-read g c =
    answer_stops (g.L.Link.state c.args.link.now).input.left (g.L.Link.state c.read_head.new.link).input.left (g.L.Link.state c.read_body.new.link).input.left c.read_head.new.bytes c.read_body.new.bytes c.in_ok-shape.shape c.in-Err.miss c.in_ok-shape.ensures.read c.in-Err.ensures.read
