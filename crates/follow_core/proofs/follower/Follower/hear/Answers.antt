use Rattle.std.proofs.Common.{rules}
use Rattle.follow_core.proofs.Scheduled.{goes_on}
use Rattle.follow_core.proofs.follower.Follower.hear.Goals as goal

pub returns-then-after-self-clause-scheduled : goal.returns-then-after-self-clause-scheduled
returns-then-after-self-clause-scheduled c = goes_on c.args.self.now c.args.self.now c.args.after c.args.text.now (search rules)

pub returns-clause-scheduled : goal.returns-clause-scheduled
returns-clause-scheduled c = goes_on c.args.self.now c.take_frame.new.self c.args.after c.args.text.now (search rules)
