use Rattle.std.proofs.Common.{rules, ◌-◌}
use Rattle.follow_links.proofs.Listening.{body_stops}
use Rattle.follow_links.proofs.reading.read_body.Goals as goal

pub returns-in-Err-clause-read : goal.returns-in-Err-clause-read
returns-in-Err-clause-read g c =
    body_stops (g.L.Link.state c.args.link.now).input.left (g.L.Link.state c.loop-buffer.link).input.left (g.L.Link.state c.read_more.new.link).input.left c.args.bytes.now c.loop-buffer.bytes c.read_more.new.bytes c.args.wanted (c.args.wanted - c.len-in-loop-buffer.result) c.in-Err.miss
    c.loop-buffer.invariant.gained (search rules) c.in-Err.ensures.read
