use Rattle.follower_history.proofs.Follows.{shows}
use Rattle.follower_history.proofs.laws.followers_show_the_board.Goals as goal

pub returns : goal.returns
returns c = shows
