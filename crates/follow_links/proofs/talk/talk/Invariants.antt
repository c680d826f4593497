use Rattle.std.proofs.Common.{◌≡◌, length}
use Rattle.follow_links.proofs.Talking.{Going}
use Rattle.follow_links.proofs.talk.talk.Given as goal

abbrev pub invariant-loop-left : goal.invariant-loop-left
invariant-loop-left g l = record {
  room : length l.fields ≡ 2731;
  going : Going (g.L.Link.state l.fn.link) (g.L.Link.state l.link) l.fn.follower l.follower l.fn.left l.left;
}

abbrev pub decreases-loop-left : goal.decreases-loop-left
decreases-loop-left g l = l.left
