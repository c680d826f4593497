-- What a part says is what the pairs say in its zones.
use Rattle.product_decoder.proofs.FrameLemmas.{part_put}
use Rattle.product_decoder.proofs.frame_lines.add_part.Goals as goal

pub returns-in_ok-push-in-Some : goal.returns-in_ok-push-in-Some
returns-in_ok-push-in-Some c = part_put c.args.parts.now.items c.push.new.self.items _ c.in-Some.first.now c.args.said.now c.in_ok-push-in-Some.ensures.items c.in_ok-lines-in-Some.ensures
