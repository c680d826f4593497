use Rattle.std.proofs.Common.{◌-◌, arith}
use Rattle.follow_links.proofs.Talking.{going_step, closed_step, going_ended}
use Rattle.follow_links.proofs.talk.talk.Goals as goal

pub returns-then-closes-clause-talks : goal.returns-then-closes-clause-talks
returns-then-closes-clause-talks g c =
    closed_step (g.L.Link.state c.args.link.now) (g.L.Link.state c.loop-left.link) (g.L.Link.state c.ask_once.new.link)
    c.args.follower.now c.loop-left.follower c.ask_once.new.follower c.args.left.now c.loop-left.left (c.loop-left.left - 1) c.in-Ok.closes c.if-closes.true c.loop-left.invariant.going c.in-Ok.ensures.asked c.in-Ok.ensures.came (omega (arith, c.loop-left-test.true))

pub loop-left-preserved : goal.loop-left-preserved
loop-left-preserved g c = record {
  room = c.in-Ok.ensures.kept;
  going =
      going_step (g.L.Link.state c.args.link.now) (g.L.Link.state c.loop-left.link) (g.L.Link.state c.ask_once.new.link)
      c.args.follower.now c.loop-left.follower c.ask_once.new.follower c.args.left.now c.loop-left.left (c.loop-left.left - 1) c.in-Ok.closes c.if-closes.false c.loop-left.invariant.going c.in-Ok.ensures.asked c.in-Ok.ensures.cause c.in-Ok.ensures.came (omega (arith, c.loop-left-test.true));
}

pub returns-in-Err-clause-talks : goal.returns-in-Err-clause-talks
returns-in-Err-clause-talks g c =
    going_ended (g.L.Link.state c.args.link.now) (g.L.Link.state c.loop-left.link) (g.L.Link.state c.ask_once.new.link)
    c.args.follower.now c.loop-left.follower c.ask_once.new.follower c.args.left.now c.loop-left.left (c.loop-left.left - 1) c.in-Err.end c.loop-left.invariant.going c.in-Err.ensures.asked c.in-Err.ensures.cause c.in-Err.ensures.came (omega (arith, c.loop-left-test.true))
