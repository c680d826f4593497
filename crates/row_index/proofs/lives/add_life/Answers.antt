-- The zone comes to name the life of the row, and the others name theirs as before.
use Rattle.std.proofs.Common.{◌∙◌, ℕ, List, ap, subst, sym}
use Rattle.hazard_types.specs.Places.{Place}
use Rattle.event_life.specs.Products.{life_of}
use Rattle.event_life.specs.declared.life.Life.{Life}
use Rattle.row_index.specs.Sharing.{lives_told, AreShared, IsPlaced}
use Rattle.row_index.proofs.SharedRows.{told-put, shared-put}
use Rattle.row_index.proofs.lives.add_life.Goals as goal

pub returns-clause-set : goal.returns-clause-set
returns-clause-set c =
    let lives = c.place_for.new.lives.items in
    let row = c.args.row.now in
    let placed = subst (λ (l : Life). IsPlaced c.args.lives.now.items lives c.in_ok-place.place l) c.life_of.ensures c.in_ok-place.ensures in
    ap (λ (seats : List (Place × ℕ)). lives_told lives seats) c.in_ok-set.ensures.set
    ∙ told-put c.args.lives.now.items lives c.in_ok-place.place (life_of row) placed row.zone c.args.seats.now c.requires.there

pub returns-clause-shared : goal.returns-clause-shared
returns-clause-shared c =
    let lives = c.place_for.new.lives.items in
    let row = c.args.row.now in
    let placed = subst (λ (l : Life). IsPlaced c.args.lives.now.items lives c.in_ok-place.place l) c.life_of.ensures c.in_ok-place.ensures in
    subst (λ (seats : List (Place × ℕ)). AreShared lives seats) (sym c.in_ok-set.ensures.set)
    (shared-put c.args.lives.now.items lives c.in_ok-place.place (life_of row) placed row.zone c.args.seats.now c.requires)
