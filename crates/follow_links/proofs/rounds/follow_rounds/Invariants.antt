use Rattle.std.proofs.Common.{◌≡◌, ◌≤◌, ◌+◌, length}
use Rattle.follow_links.proofs.Turned.{Turns}
use Rattle.follow_links.proofs.rounds.follow_rounds.Given as goal

abbrev pub invariant-loop-left : goal.invariant-loop-left
invariant-loop-left g l = record {
  room : length l.fields.items ≡ 2731;
  none_out : (g.D.Dialer.state l.dialer).given ≡ (g.D.Dialer.state l.dialer).returned;
  few : (g.D.Dialer.state l.dialer).returned + l.left ≤ (g.D.Dialer.state l.fn.dialer).returned + l.rounds;
  turns : Turns (g.D.Dialer.state l.fn.dialer) (g.D.Dialer.state l.dialer) l.fn.follower l.follower l.rounds l.left;
}

abbrev pub decreases-loop-left : goal.decreases-loop-left
decreases-loop-left g l = l.left
