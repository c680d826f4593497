-- None that is behind the new last one is among those that rose.
use Rattle.std.proofs.Common.{Option, List, subst, sym}
use Rattle.row_index.specs.declared.seats.Seat.{Seat}
use Rattle.row_index.specs.Risen.{rising_with, IsFree}
use Rattle.row_index.proofs.Saying.{free-more}
use Rattle.row_index.proofs.spoken.SeenKeys.mark_seen_ascending.Goals as goal

pub returns-clause-free : goal.returns-clause-free
returns-clause-free c =
    let old = c.args.self.now in
    let line = c.args.line.now in
    subst (λ (rising : List Seat). IsFree c.push_ascending.new.last rising) (sym c.in_ok-push_ascending.ensures.rising)
    (subst (λ (last : Option Seat). IsFree last (rising_with c.args.counts line old.rising.items)) (sym c.in_ok-push_ascending.ensures.last) (free-more c.args.counts line old.last old.rising.items c.requires.free c.requires.behind))
