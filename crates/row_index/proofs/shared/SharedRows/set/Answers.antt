-- The rows come to the life as the lives do.
use Rattle.std.proofs.Common.{◌∙◌, Bool, List, length, ap, subst, sym}
use Rattle.std.proofs.lemmas.Result.{on_ok_weaker, IfOk-weaker}
use Rattle.std.specs.Map.{values_of}
use Rattle.hazard_types.specs.Places.{Place}
use Rattle.hazard_types.specs.declared.line.Row.{Row}
use Rattle.event_life.specs.declared.life.Life.{Life}
use Rattle.row_index.specs.Sharing.{lives_put, rows_put, rows_with}
use Rattle.row_index.specs.Tallies.{AreTallied, IsTallied}
use Rattle.row_index.specs.Zoning.{AreOf}
use Rattle.row_index.proofs.Coming.{runs-put, rows-tallied}
use Rattle.row_index.proofs.shared.SharedRows.set.Goals as goal

pub returns-clause-set : goal.returns-clause-set
returns-clause-set c =
    let e = c.args.event.now in
    let own = subst (λ (es : List (Place × Row)). AreOf e (values_of es)) (sym c.self.view_is) c.requires in
    on_ok_weaker c.add_each.result
    (λ is. ap (λ (lives : List (Place × Life)). rows_with e lives) is
    ∙ ap (λ (lives : List (Place × Life)). rows_with e (lives_put c.args.life.now c.args.zones.now lives)) c.compact.ensures
    ∙ runs-put c.self.inside.event e c.args.life.now c.args.zones.now c.self.inside.lives c.self.invariant own
    ∙ ap (λ (es : List (Place × Row)). rows_put e c.args.life.now c.args.zones.now es) c.self.view_is)
    c.add_each.ensures.set

pub returns-clause-before : goal.returns-clause-before
returns-clause-before c =
    let e = c.args.event.now in
    let zones = c.args.zones.now in
    let life = c.args.life.now in
    let own = subst (λ (es : List (Place × Row)). AreOf e (values_of es)) (sym c.self.view_is) c.requires in
    IfOk-weaker c.add_each.result
    (λ befores. (p : Life → Bool) → IsTallied p (values_of c.compact.new.self) (values_of c.add_each.new.self) befores.items (length zones) life)
    (λ befores. (p : Life → Bool) → AreTallied p (values_of c.args.self.now) (values_of (rows_with e c.add_each.new.self)) befores.items (length zones) life)
    (λ befores told p. subst (λ (es : List (Place × Row)). AreTallied p (values_of es) (values_of (rows_with e c.add_each.new.self)) befores.items (length zones) life) c.self.view_is
    (rows-tallied c.self.inside.event e c.self.inside.lives c.add_each.new.self befores.items (length zones) life p c.self.invariant own
    (subst (λ (lives : List (Place × Life)). IsTallied p (values_of lives) (values_of c.add_each.new.self) befores.items (length zones) life) c.compact.ensures (told p))))
    c.add_each.ensures.before
