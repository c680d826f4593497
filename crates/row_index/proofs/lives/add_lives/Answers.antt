-- The life is at its place, and the zones come to it.
use Rattle.std.proofs.lemmas.Result.{on_ok_weaker, IfOk-weaker}
use Rattle.std.proofs.Common.{Bool, length}
use Rattle.std.specs.Map.{values_of}
use Rattle.event_life.specs.declared.life.Life.{Life}
use Rattle.row_index.specs.Sharing.{life_at, lives_told}
use Rattle.row_index.specs.Tallies.{IsTallied}
use Rattle.row_index.proofs.Coming.{lives-came, lives-tallied}
use Rattle.row_index.proofs.lives.add_lives.Goals as goal

pub returns-clause-set : goal.returns-clause-set
returns-clause-set c =
    on_ok_weaker c.seat_each.result
    (λ is. lives-came c.args.lives.now.items c.place_for.new.lives.items c.in_ok-place.place c.args.life.now c.in_ok-place.ensures c.args.seats.now c.requires _ c.deref.ensures.value c.args.zones.now c.seat_each.new.seats is)
    c.seat_each.ensures.set

pub returns-clause-before : goal.returns-clause-before
returns-clause-before c =
    let before = c.args.lives.now.items in
    let after = c.place_for.new.lives.items in
    let place = c.in_ok-place.place in
    let life = c.args.life.now in
    let seats = c.args.seats.now in
    let next = c.seat_each.new.seats in
    let slice = c.deref.result.now in
    let n = length c.args.zones.now in
    IfOk-weaker c.seat_each.result
    (λ befores. (p : Life → Bool) → IsTallied p (values_of (lives_told slice seats)) (values_of (lives_told slice next)) befores.items n (life_at slice place))
    (λ befores. (p : Life → Bool) → IsTallied p (values_of (lives_told before seats)) (values_of (lives_told after next)) befores.items n life)
    (λ befores told p. lives-tallied before after place life c.in_ok-place.ensures seats c.requires slice c.deref.ensures.value p next befores.items n (told p))
    c.seat_each.ensures.before
