-- The others have all seats.
use Rattle.row_index.proofs.Saying.{said-among}
use Rattle.row_index.proofs.spoken.SeenKeys.mark_seen_in_set.Goals as goal

pub returns-clause-said : goal.returns-clause-said
returns-clause-said c =
    said-among c.args.counts c.args.line.now c.args.self.now.rising.items c.args.self.now.others.keys c.move_to_set.new.others.keys c.move_to_set.new.rising.items c.add_seat.new.seats.keys
    c.in_ok-move_to_set.ensures.all c.in_ok-move_to_set.ensures.none c.in_ok-add_seat.ensures
