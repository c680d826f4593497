use Rattle.follow_links.proofs.Following.{first_is, followed}
use Rattle.follow_links.proofs.run.follow.Goals as goal

pub returns-clause-followed : goal.returns-clause-followed
returns-clause-followed g c =
    followed c.args.asked.now (g.D.Dialer.state c.args.dialer.now) (g.D.Dialer.state c.follow_rounds-stop.new.dialer)
    (g.K.Sink.outflow c.args.output.now) (g.K.Sink.outflow c.write_stop.new.output) c.write_stop.result c.new-follower.result c.follow_rounds-stop.new.follower c.follow_rounds-stop.result
    (first_is c.new-follower.result c.args.asked.now c.new-follower.ensures.office c.new-follower.ensures.class c.new-follower.ensures.products) c.follow_rounds-stop.ensures.course c.write_stop.ensures
